-- Look-ups among members, and the write of one.
use Rattle.std.proofs.Common.{◌≡◌, ◌≢◌, ◌<◌, ◌≤◌, ◌+◌, ℕ, zero, suc, List, [], ◌∷◌, length, map, get_or, set, Bool, true, false, cond, ◌||◌, ap, sym, ◌∙◌, refl, subst, inl, inr, arith, Option, Some, None, nat_eq}
use Rattle.std.specs.Prelude.{is_some, slice_get}
use Rattle.std.proofs.lemmas.List.Elements.{All-set}
use Rattle.std.proofs.Math.Seq.{map-set_same}
use Rattle.std.proofs.lemmas.List.Folds.{find_at}
use Rattle.std.proofs.lemmas.Option.{cond_some, slice_get-get_or}
use Rattle.std.specs.List.{find, list_any, position, position_or_len}
use Rattle.std.specs.Option.{option_map, option_or}
use Rattle.std.proofs.lemmas.Bool.{false≢true, cases_Bool, cases_eq, cases_lt, both_ways, eqb-true, eq-eqb, lt-ltb, le-ltb, or_parts}
use Rattle.std.proofs.lemmas.List.{length-set, get_or-set_same, get_or-set_other, ext_get_or}
use Rattle.std.proofs.lemmas.List.Quantifiers.{position-Some}
use Rattle.tri_lattice.specs.declared.node.Node.{Node}
use Rattle.tri_lattice.specs.Extent.{IsArea, is_in}
use Rattle.tri_lattice.specs.Lattice.{IsNear}
use Rattle.tri_lattice.proofs.Boxes.{near_in}
use Rattle.amoebot_state.proofs.Options.{is_some-option_map}
use Rattle.amoebot_state.proofs.Owns.{own_cases}
use Rattle.amoebot_state.proofs.ShownAlone.{spread_at}
use Rattle.amoebot_state.specs.declared.bot.Bot.{Bot}
use Rattle.amoebot_state.specs.Ports.{is_own}
use Rattle.amoebot_state.specs.Configs.{Config, bot_at, covers, occupant, set_bot}
use Rattle.amoebot_state.specs.Pairs.{body_in}
use Rattle.amoebot_state.specs.Zones.{Shown, IsShown, spread, with_id, shown, shown_alone}
use Rattle.arrayvec.specs.ArrayVec.{ArrayVec, with_items}
use Rattle.arrayvec.proofs.ArrayVecLemmas.{items-with_items}
use Rattle.amoebot_state.specs.Refusals.{IsBotInRange}
use Rattle.model_ops.specs.declared.member.Member.{Member}
use Rattle.model_ops.specs.WorkingCopies.{WorkingCopy}
use Rattle.model_ops.specs.Members.{AreApart, IsFirst, IsSite, has_id, lower, body_by, config_by, id_by, body_found, body_now, config_found, config_now, copy_of}
use Rattle.model_ops.proofs.Becomes.{same_ids}

-- the member with another amoebot
abbrev pub with_now : Member → Bot → Member
with_now m b = record m { now = b }

-- the amoebot with an id is that of the first member with it
pub body_of : (part : Member → Bot) (ms : List Member) (i : ℕ) → body_in (map (body_by part) ms) i ≡ option_map part (find (λ m. nat_eq m.id i) ms)
body_of part [] i = refl
body_of part (m ∷ ms) i = elim (cases_Bool (nat_eq m.id i)) [
  | inl t ↦ rw t refl
  | inr f ↦ rw f (body_of part ms i)
]

-- the first place that passes, one place on
pub position_cons : {X : Type 0} (p : X → Bool) (x : X) (xs : List X) → position p (x ∷ xs) ≡ cond (p x) (Some 0) (option_map suc (position p xs))
position_cons p x xs = elim (cases_Bool (p x)) [
  | inl t ↦ rw t (ap (λ l. cond l (Some 0) None) (lt-ltb 0 (suc (length xs)) (omega arith)))
  | inr f ↦ rw f (elim (cases_lt (position_or_len p xs) (length xs)) [
    | inl lt ↦ ap (λ l. cond l (Some (1 + position_or_len p xs)) None) (lt-ltb (1 + position_or_len p xs) (suc (length xs)) (omega arith)) ∙ ap Some (one_more (position_or_len p xs)) ∙ sym (ap (λ l. option_map suc (cond l (Some (position_or_len p xs)) None)) (lt-ltb (position_or_len p xs) (length xs) lt))
    | inr ge ↦ ap (λ l. cond l (Some (1 + position_or_len p xs)) None) (le-ltb (1 + position_or_len p xs) (suc (length xs)) (omega arith)) ∙ sym (ap (λ l. option_map suc (cond l (Some (position_or_len p xs)) None)) (le-ltb (position_or_len p xs) (length xs) (omega arith)))
  ])
]
  where
    one_more : (n : ℕ) → 1 + n ≡ suc n
    one_more n = omega arith

-- the lower of two ids that are each one higher
over : (t : Bool) (i : ℕ) (o : Option ℕ) → option_map suc (cond t (Some (lower i o)) o) ≡ cond t (Some (lower (suc i) (option_map suc o))) (option_map suc o)
over true i None = refl
over true i (Some j) = ap Some (omega arith)
over false i o = refl

lower_zero : (o : Option ℕ) → lower 0 o ≡ 0
lower_zero None = refl
lower_zero (Some j) = omega arith

above_first : (t : Bool) (i : ℕ) → Some 0 ≡ cond t (Some (lower (suc i) (Some 0))) (Some 0)
above_first true i = ap Some (omega arith)
above_first false i = refl

-- the first place that passes where one more is put at a place where nobody was
position_with_id : (p : Option Bot → Bool) → p None ≡ false → (os : List (Option Bot)) (i : ℕ) (b : Bot) → get_or os i None ≡ None → position p (with_id os i b) ≡ cond (p (Some b)) (Some (lower i (position p os))) (position p os)
position_with_id p none [] zero b free = position_cons p (Some b) []
position_with_id p none [] (suc i) b free = position_cons p None (with_id [] i b) ∙ ap (λ t. cond t (Some 0) (option_map suc (position p (with_id [] i b)))) none ∙ ap (option_map suc) (position_with_id p none [] i b refl) ∙ over (p (Some b)) i None
position_with_id p none (o ∷ os) zero b free =
    let next : position p (o ∷ os) ≡ option_map suc (position p os) = position_cons p o os ∙ ap (λ t. cond t (Some 0) (option_map suc (position p os))) (ap p free ∙ none) in
    position_cons p (Some b) os
    ∙ ap (cond (p (Some b)) (Some 0)) (sym next)
    ∙ ap (λ n. cond (p (Some b)) (Some n) (position p (o ∷ os))) (sym (lower_zero (position p (o ∷ os))))
position_with_id p none (o ∷ os) (suc i) b free =
    position_cons p o (with_id os i b) ∙ elim (cases_Bool (p o)) [
      | inl t ↦
          let first : position p (o ∷ os) ≡ Some 0 = position_cons p o os ∙ ap (λ u. cond u (Some 0) (option_map suc (position p os))) t in
          ap (λ u. cond u (Some 0) (option_map suc (position p (with_id os i b)))) t ∙ above_first (p (Some b)) i
          ∙ ap (λ q. cond (p (Some b)) (Some (lower (suc i) q)) q) (sym first)
      | inr f ↦
          let next : position p (o ∷ os) ≡ option_map suc (position p os) = position_cons p o os ∙ ap (λ u. cond u (Some 0) (option_map suc (position p os))) f in
          ap (λ u. cond u (Some 0) (option_map suc (position p (with_id os i b)))) f
          ∙ ap (option_map suc) (position_with_id p none os i b free)
          ∙ over (p (Some b)) i (position p os)
          ∙ ap (λ q. cond (p (Some b)) (Some (lower (suc i) q)) q) (sym next)
    ]

-- an id that no member has is nobody's
nobody_else : (part : Member → Bot) (ms : List Member) (i : ℕ) → has_id ms i ≡ false → body_in (map (body_by part) ms) i ≡ None
nobody_else part [] i new = refl
nobody_else part (m ∷ ms) i new =
    let parts = or_parts (nat_eq m.id i) (has_id ms i) new in
    rw parts.0 (nobody_else part ms i parts.1)

-- the occupant of a node is the lowest id of the members that have it
pub occupant_of : (part : Member → Bot) (c : Config) (ms : List Member) (v : Node) → AreApart ms → occupant (config_by part c ms) v ≡ id_by part ms v
occupant_of part c [] v apart = refl
occupant_of part c (m ∷ ms) v apart =
    let rest = map (body_by part) ms in
    position_with_id (λ o. covers o v) refl (spread rest) m.id (part m) (spread_at rest m.id ∙ nobody_else part ms m.id apart.0)
    ∙ ap (λ o. cond (is_own (part m) v) (Some (lower m.id o)) o) (occupant_of part c ms v apart.1)

-- the list is as long whatever the amoebots are
length-with_id : (os qs : List (Option Bot)) (i : ℕ) (b d : Bot) → length os ≡ length qs → length (with_id os i b) ≡ length (with_id qs i d)
length-with_id [] [] zero b d e = refl
length-with_id [] [] (suc i) b d e = ap suc (length-with_id [] [] i b d refl)
length-with_id [] (q ∷ qs) i b d e = absurd (cc)
length-with_id (o ∷ os) [] i b d e = absurd (cc)
length-with_id (o ∷ os) (q ∷ qs) zero b d e = e
length-with_id (o ∷ os) (q ∷ qs) (suc i) b d e = ap suc (length-with_id os qs i b d (cc))

length-with_now : (ms : List Member) (k : ℕ) (d : Member) (b : Bot) → length (spread (map body_now (set ms k (with_now (get_or ms k d) b)))) ≡ length (spread (map body_now ms))
length-with_now [] k d b = refl
length-with_now (m ∷ ms) zero d b = length-with_id (spread (map body_now ms)) (spread (map body_now ms)) m.id b m.now refl
length-with_now (m ∷ ms) (suc k) d b = length-with_id (spread (map body_now (set ms k (with_now (get_or ms k d) b)))) (spread (map body_now ms)) m.id m.now m.now (length-with_now ms k d b)

-- the amoebots after one member's is replaced, where it is the first with its id
body_with_now : (ms : List Member) (k i j : ℕ) (d : Member) (b : Bot) → k < length ms → nat_eq (get_or ms k d).id i ≡ true → ((l : ℕ) → l < k → nat_eq (get_or ms l d).id i ≡ false) → body_in (map body_now (set ms k (with_now (get_or ms k d) b))) j ≡ cond (nat_eq i j) (Some b) (body_in (map body_now ms) j)
body_with_now [] k i j d b lt here before = absurd (omega arith)
body_with_now (m ∷ ms) zero i j d b lt here before =
    let rest = body_in (map body_now ms) j in
    at_first (nat_eq m.id j) rest ∙ ap (λ x. cond (nat_eq x j) (Some b) (option_or (cond (nat_eq m.id j) (Some m.now) None) rest)) (eqb-true m.id i here)
  where
    at_first : (t : Bool) (o : Option Bot) → option_or (cond t (Some b) None) o ≡ cond t (Some b) (option_or (cond t (Some m.now) None) o)
    at_first true o = refl
    at_first false o = refl
body_with_now (m ∷ ms) (suc k) i j d b lt here before =
    let now = body_in (map body_now (set ms k (with_now (get_or ms k d) b))) j in
    let rest = body_in (map body_now ms) j in
    elim (cases_Bool (nat_eq m.id j)) [
      | inl t ↦
          let other : nat_eq i j ≡ false = elim (cases_Bool (nat_eq i j)) [
            | inl u ↦ absurd (both_ways _ (before 0 (omega arith)) (eq-eqb m.id i (eqb-true m.id j t ∙ sym (eqb-true i j u))))
            | inr f ↦ f
          ] in
          ap (λ x. option_or (cond x (Some m.now) None) now) t
          ∙ sym (ap (λ x. cond x (Some b) (option_or (cond (nat_eq m.id j) (Some m.now) None) rest)) other ∙ ap (λ x. option_or (cond x (Some m.now) None) rest) t)
      | inr f ↦
          ap (λ x. option_or (cond x (Some m.now) None) now) f
          ∙ body_with_now ms k i j d b (omega arith) here (λ l below. before (suc l) (omega arith))
          ∙ sym (ap (λ x. cond (nat_eq i j) (Some b) (option_or (cond x (Some m.now) None) rest)) f)
    ]

-- the configuration in which the first member with an id has another amoebot
pub set_bot_of : (c : Config) (ms : List Member) (i k : ℕ) (d : Member) (b : Bot) → position (λ (m : Member). nat_eq m.id i) ms ≡ Some k → config_now c (set ms k (with_now (get_or ms k d) b)) ≡ set_bot (config_now c ms) i b
set_bot_of c ms i k d b found =
    let at = position-Some (λ (m : Member). nat_eq m.id i) ms k d found in
    let old = spread (map body_now ms) in
    let new = spread (map body_now (set ms k (with_now (get_or ms k d) b))) in
    let looked : (j : ℕ) → get_or new j None ≡ cond (nat_eq i j) (Some b) (get_or old j None) = λ j.
    spread_at (map body_now (set ms k (with_now (get_or ms k d) b))) j
    ∙ body_with_now ms k i j d b at.0 at.1 at.2
    ∙ ap (cond (nat_eq i j) (Some b)) (sym (spread_at (map body_now ms) j)) in
    let size : length new ≡ length old = length-with_now ms k d b in
    ap (λ (os : List (Option Bot)). let e : Config = record c { bots = os } in e)
    (ext_get_or None new (set old i (Some b)) (size ∙ sym (length-set old i (Some b))) (λ j lt. looked j ∙ elim (cases_eq j i) [
      | inl e ↦ ap (λ t. cond t (Some b) (get_or old j None)) (eq-eqb i j (sym e)) ∙ sym (ap (λ l. get_or (set old i (Some b)) l None) e ∙ get_or-set_same old i (Some b) None (omega arith))
      | inr ne ↦ ap (λ t. cond t (Some b) (get_or old j None)) (differs i j ne) ∙ sym (get_or-set_other old i j (Some b) None ne)
    ]))
  where
    differs : (i j : ℕ) → j ≢ i → nat_eq i j ≡ false
    differs i j ne = elim (cases_Bool (nat_eq i j)) [ inl t ↦ absurd (ne (sym (eqb-true i j t))) | inr f ↦ f ]

-- what the first place that passes tells of the first element that does
pub find_placed : {X : Type 0} (p : X → Bool) (xs : List X) (k : ℕ) (d : X) → position p xs ≡ Some k → find p xs ≡ Some (get_or xs k d)
find_placed p xs k d found =
    let at = cond_some _ _ k found in
    find_at p xs ∙ ap (slice_get xs) at.1 ∙ slice_get-get_or xs k d (position-Some p xs k d found).0

-- the amoebot with an id
pub bot_by : (part : Member → Bot) (c : Config) (ms : List Member) (i : ℕ) → bot_at (config_by part c ms) i ≡ option_map part (find (λ m. nat_eq m.id i) ms)
bot_by part c ms i = spread_at (map (body_by part) ms) i ∙ body_of part ms i

pub bot_placed : (part : Member → Bot) (c : Config) (ms : List Member) (i k : ℕ) (d : Member) → position (λ (m : Member). nat_eq m.id i) ms ≡ Some k → bot_at (config_by part c ms) i ≡ Some (part (get_or ms k d))
bot_placed part c ms i k d found = bot_by part c ms i ∙ ap (option_map part) (find_placed (λ (m : Member). nat_eq m.id i) ms k d found)

-- the amoebot itself is the first member
pub first_there : (i : ℕ) (ms : List Member) → IsFirst i ms → 0 < length ms
first_there i [] first = absurd first
first_there i (m ∷ ms) first = omega arith

pub find_first : (i : ℕ) (ms : List Member) (d : Member) → IsFirst i ms → find (λ (m : Member). nat_eq m.id i) ms ≡ Some (get_or ms 0 d)
find_first i [] d first = absurd first
find_first i (m ∷ ms) d first = ap (λ t. cond t (Some m) (find (λ (n : Member). nat_eq n.id i) ms)) (eq-eqb m.id i first)

-- an element that passes has a place
pub any_placed : {X : Type 0} (p : X → Bool) (xs : List X) → list_any p xs ≡ true → is_some (position p xs) ≡ true
any_placed p [] = λ t. absurd (false≢true t)
any_placed p (x ∷ xs) = λ t. ap is_some (position_cons p x xs) ∙ elim (cases_Bool (p x)) [
  | inl u ↦ ap (λ b. is_some (cond b (Some 0) (option_map suc (position p xs)))) u
  | inr f ↦ ap (λ b. is_some (cond b (Some 0) (option_map suc (position p xs)))) f ∙ is_some-option_map suc (position p xs) ∙ any_placed p xs (sym (ap (λ b. b || list_any p xs) f) ∙ t)
]

-- an amoebot is there exactly where a member has its id
pub has_bot : (part : Member → Bot) (c : Config) (ms : List Member) (i : ℕ) → is_some (bot_at (config_by part c ms) i) ≡ has_id ms i
has_bot part c ms i = ap is_some (bot_by part c ms i) ∙ found_any part ms
  where
    found_any : (part : Member → Bot) (ms : List Member) → is_some (option_map part (find (λ (m : Member). nat_eq m.id i) ms)) ≡ has_id ms i
    found_any part [] = refl
    found_any part (m ∷ ms) = elim (cases_Bool (nat_eq m.id i)) [
      | inl t ↦ rw t refl
      | inr f ↦ rw f (found_any part ms)
    ]

-- so an id that is there in the copy has a member
pub member_there : (c : Config) (own : ℕ) (ms : List Member) (w : WorkingCopy) (i : ℕ) → copy_of c own ms ≡ w → is_some (bot_at w.reached i) ≡ true → has_id ms i ≡ true
member_there c own ms w i is there = sym (has_bot (λ (m : Member). m.now) c ms i) ∙ ap (λ (x : WorkingCopy). is_some (bot_at x.reached i)) is ∙ there

-- another amoebot of a member leaves the ids
has_with_now : (ms : List Member) (k : ℕ) (d : Member) (b : Bot) (i : ℕ) → has_id (set ms k (with_now (get_or ms k d) b)) i ≡ has_id ms i
has_with_now [] k d b i = refl
has_with_now (m ∷ ms) zero d b i = refl
has_with_now (m ∷ ms) (suc k) d b i = ap (λ t. nat_eq m.id i || t) (has_with_now ms k d b i)

apart_with_now : (ms : List Member) (k : ℕ) (d : Member) (b : Bot) → AreApart ms → AreApart (set ms k (with_now (get_or ms k d) b))
apart_with_now [] k d b apart = apart
apart_with_now (m ∷ ms) zero d b apart = apart
apart_with_now (m ∷ ms) (suc k) d b apart = (has_with_now ms k d b m.id ∙ apart.0, apart_with_now ms k d b apart.1)

first_with_now : (own : ℕ) (ms : List Member) (k : ℕ) (d : Member) (b : Bot) → IsFirst own ms → IsFirst own (set ms k (with_now (get_or ms k d) b))
first_with_now own [] k d b first = first
first_with_now own (m ∷ ms) zero d b first = first
first_with_now own (m ∷ ms) (suc k) d b first = first

-- what was found stays
found_with_now : (c : Config) (ms : List Member) (k : ℕ) (d : Member) (b : Bot) → config_found c (set ms k (with_now (get_or ms k d) b)) ≡ config_found c ms
found_with_now c ms k d b =
    ap (λ cells. let e : Config = record c { bots = spread cells } in e) (map-set_same body_found ms k (with_now (get_or ms k d) b) d refl)

module _ (c : Config) (own : ℕ) (ms : List Member) (i k : ℕ) (d : Member) (b : Bot) (found : position (λ (m : Member). nat_eq m.id i) ms ≡ Some k) where
  -- a site stays one
  pub site_with_now : IsSite c own ms → IsBotInRange b → IsSite c own (set ms k (with_now (get_or ms k d) b))
  site_with_now is in_range =
      let same = sym (found_with_now c ms k d b) in
      record {
        apart = apart_with_now ms k d b is.apart;
        first = first_with_now own ms k d b is.first;
        in_range = All-set (λ (m : Member). IsBotInRange m.now) ms k (with_now (get_or ms k d) b) in_range is.in_range;
        there = ap (λ (e : Config). is_some (bot_at e own)) (set_bot_of c ms i k d b found) ∙ same_ids (config_now c ms) i (get_or ms k d).now b (bot_placed (λ (m : Member). m.now) c ms i k d found) own ∙ is.there;
        few = subst (λ n. n ≤ 9) (sym (length-set ms k (with_now (get_or ms k d) b))) is.few;
        was_shown = subst (λ (e : Config). IsShown (shown e own)) same is.was_shown;
        whole = subst (λ (e : Config). shown_alone (shown e own) ≡ e) same is.whole;
      }

  -- and what it stands for has the other amoebot
  pub copy_with_now : copy_of c own (set ms k (with_now (get_or ms k d) b)) ≡ record (copy_of c own ms) { reached = set_bot (config_now c ms) i b }
  copy_with_now =
      let made : Config → Config → WorkingCopy = λ d e. record { found = shown d own; reached = e } in
      ap (λ e. made e (config_now c (set ms k (with_now (get_or ms k d) b)))) (found_with_now c ms k d b) ∙ ap (made (config_found c ms)) (set_bot_of c ms i k d b found)

-- the members after a write through the slice of them
pub written_items : (v : ArrayVec Member) (xs : List Member) (k : ℕ) (d : Member) (b : Bot) → xs ≡ v.items → (with_items v (set xs k (with_now (get_or xs k d) b))).items ≡ set v.items k (with_now (get_or v.items k d) b)
written_items v xs k d b is =
    items-with_items v (set xs k (with_now (get_or xs k d) b)) (length-set xs k (with_now (get_or xs k d) b) ∙ ap length is)
    ∙ ap (λ (ys : List Member). set ys k (with_now (get_or ys k d) b)) is

-- a node of the area is near enough to step from, and so is a node of an amoebot
pub near_site : (c : Config) (own : ℕ) (ms : List Member) (v : Node) → IsSite c own ms → is_in c.area v ≡ true → IsNear v
near_site c own ms v is inside =
    let area : is.was_shown.0.area ≡ c.area = ap (λ (s : Shown). s.area) is.was_shown.3 in
    near_in c.area v (subst IsArea area is.was_shown.1.area) inside

pub near_own : (b : Bot) (v : Node) → IsBotInRange b → is_own b v ≡ true → IsNear v
near_own b v in_range own = elim (own_cases b v own) [ inl h ↦ subst IsNear h in_range.head | inr t ↦ subst IsNear t in_range.tail ]
