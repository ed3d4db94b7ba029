-- Occupants: the id that is found on a node.
use Rattle.std.proofs.Common.{◌≡◌, ◌<◌, ℕ, List, [], ◌∷◌, ◌++◌, length, get_or, Bool, true, false, cond, ltb, ap, sym, ◌∙◌, refl, subst, inl, inr, arith, Option, Some, None}
use Rattle.std.specs.Prelude.{IsTrue, IsSome}
use Rattle.std.specs.List.{position, position_or_len}
use Rattle.std.proofs.lemmas.List.{get_or_append_left, get_or_push, length_push, get_or_past}
use Rattle.std.proofs.lemmas.List.Quantifiers.{position-Some}
use Rattle.std.proofs.lemmas.List.Sums.{position_or_len_is, fails_before_first}
use Rattle.std.proofs.lemmas.Bool.{cases_eq, cases_Bool, cond-true, cond-false, lt-ltb, le-ltb, ltb-false, cases_lt, both_ways}
use Rattle.std.proofs.lemmas.Option.{none-some}
use Rattle.tri_lattice.specs.declared.node.Node.{Node}
use Rattle.tri_lattice.specs.Extent.{Extent, IsArea, index_of, is_in}
use Rattle.amoebot_state.specs.declared.bot.Bot.{Bot}
use Rattle.amoebot_state.specs.Configs.{Config, IsValid, bot_at, is_wall, occupant, covers}
use Rattle.amoebot_state.specs.Refusals.{IsBotInRange}
use Rattle.tri_lattice.proofs.Boxes.{near_in}
use Rattle.amoebot_state.proofs.Options.{there_is, not_none}
use Rattle.amoebot_state.proofs.Owns.{own_cases, covered}

pub position_is : {X : Type 0} (p : X → Bool) (xs : List X) (i : ℕ) (d : X) → i < length xs → p (get_or xs i d) ≡ true → ((k : ℕ) → k < i → p (get_or xs k d) ≡ false) → position p xs ≡ Some i
position_is p xs i d lt here before =
    let e : position_or_len p xs ≡ i = position_or_len_is p xs i d (omega arith) before (λ _. here) in
    ap (λ k. cond (ltb k (length xs)) (Some k) None) e ∙ cond-true _ (Some i) None (lt-ltb i (length xs) lt)

pub position_none : {X : Type 0} (p : X → Bool) (xs : List X) (d : X) → ((k : ℕ) → k < length xs → p (get_or xs k d) ≡ false) → position p xs ≡ None
position_none p xs d none =
    let e : position_or_len p xs ≡ length xs = position_or_len_is p xs (length xs) d (omega arith) none (λ lt. absurd (omega arith)) in
    ap (λ k. cond (ltb k (length xs)) (Some k) None) e ∙ cond-false _ (Some (length xs)) None (le-ltb (length xs) (length xs) (omega arith))

no_some : {A : Type 0} (b : Bool) (x : A) → cond b (Some x) None ≡ None → b ≡ false
no_some true x e = absurd (none-some x (sym e))
no_some false x e = refl

pub none_passes : {X : Type 0} (p : X → Bool) (xs : List X) (d : X) → position p xs ≡ None → (k : ℕ) → k < length xs → p (get_or xs k d) ≡ false
none_passes p xs d e k lt =
    let past = ltb-false _ _ (no_some _ _ e) in
    fails_before_first p xs k d (omega arith)

-- the first place that passes in a list with one more at its end
pub position_push : {X : Type 0} (p : X → Bool) (xs : List X) (y d : X) (o : Option ℕ) → position p xs ≡ o → position p (xs ++ y ∷ []) ≡ (elim o [ None ↦ cond (p y) (Some (length xs)) None | Some i ↦ Some i ])
position_push p xs y d (Some i) e =
    let at = position-Some p xs i d e in
    let long = length_push xs y in
    position_is p (xs ++ y ∷ []) i d (omega arith) (ap p (get_or_append_left xs (y ∷ []) d i at.0) ∙ at.1)
    (λ k lt. ap p (get_or_append_left xs (y ∷ []) d k (omega arith)) ∙ at.2 k lt)
position_push {X} p xs y d None e =
    let long = length_push xs y in
    let old : (k : ℕ) → k < length xs → p (get_or (xs ++ y ∷ []) k d) ≡ false = λ k lt. ap p (get_or_append_left xs (y ∷ []) d k lt) ∙ none_passes p xs d e k lt in
    let last : get_or (xs ++ y ∷ []) (length xs) d ≡ y = get_or_push xs y d (length xs) refl in
    elim (p y) as (λ b. p y ≡ b → position p (xs ++ y ∷ []) ≡ cond b (Some (length xs)) None) [
      | true ↦ λ t. position_is p (xs ++ y ∷ []) (length xs) d (omega arith) (ap p last ∙ t) old
      | false ↦ λ f. position_none p (xs ++ y ∷ []) d (λ k lt. elim (cases_eq k (length xs)) [
        | inl same ↦ ap (λ j. p (get_or (xs ++ y ∷ []) j d)) same ∙ ap p last ∙ f
        | inr ne ↦ old k (omega arith)
      ])
    ] refl

-- the id of an amoebot that is there is one of the list
pub id_below : (c : Config) (i : ℕ) (a : Bot) → bot_at c i ≡ Some a → i < length c.bots
id_below c i a at = elim (cases_lt i (length c.bots)) [
  | inl lt ↦ lt
  | inr ge ↦ absurd (none-some a (sym (get_or_past c.bots i None (omega arith)) ∙ at))
]

pub there_below : (c : Config) (i : ℕ) → IsSome (bot_at c i) → i < length c.bots
there_below c i there = let is = there_is (bot_at c i) there in id_below c i is.0 is.1

-- past the last id there is no amoebot, so what covers a node has an id of the list
pub covers_below : (c : Config) (i : ℕ) (v : Node) → covers (bot_at c i) v ≡ true → i < length c.bots
covers_below c i v e = elim (cases_lt i (length c.bots)) [
  | inl lt ↦ lt
  | inr ge ↦ absurd (both_ways _ (ap (λ o. covers o v) (get_or_past c.bots i None (omega arith))) e)
]

-- an occupant has the node
pub occupant_covers : (c : Config) (v : Node) (i : ℕ) → occupant c v ≡ Some i → covers (bot_at c i) v ≡ true
occupant_covers c v i e = (position-Some (λ o. covers o v) c.bots i None e).1

-- in a valid configuration what covers a node is its occupant
pub occupant_at : (c : Config) → IsValid c → (i : ℕ) (v : Node) → covers (bot_at c i) v ≡ true → occupant c v ≡ Some i
occupant_at c valid i v e = position_is (λ o. covers o v) c.bots i None (covers_below c i v e) e (λ k lt. elim (cases_Bool (covers (bot_at c k) v)) [
  | inl t ↦ let same : k ≡ i = valid.apart k i v t e in absurd (omega (arith, same))
  | inr f ↦ f
])

-- where nobody covers a node it has no occupant
pub occupant_none : (c : Config) (v : Node) → ((i : ℕ) → covers (bot_at c i) v ≡ false) → occupant c v ≡ None
occupant_none c v none = position_none (λ o. covers o v) c.bots None (λ k lt. none k)

-- and the other way round
pub nobody_covers : (c : Config) (v : Node) → occupant c v ≡ None → (i : ℕ) → covers (bot_at c i) v ≡ false
nobody_covers c v e i = elim (cases_lt i (length c.bots)) [
  | inl lt ↦ none_passes (λ o. covers o v) c.bots None e i lt
  | inr ge ↦ ap (λ o. covers o v) (get_or_past c.bots i None (omega arith))
]

-- occupants are alike where the same ids cover the node
pub occupant_same : (c d : Config) (v : Node) → IsValid c → IsValid d → ((i : ℕ) → covers (bot_at c i) v ≡ covers (bot_at d i) v) → occupant c v ≡ occupant d v
occupant_same c d v cv dv alike = elim (occupant d v) as (λ o. occupant d v ≡ o → occupant c v ≡ o) [
  | None ↦ λ e. occupant_none c v (λ i. alike i ∙ nobody_covers d v e i)
  | Some i ↦ λ e. occupant_at c cv i v (alike i ∙ occupant_covers d v i e)
] refl

-- a node that an amoebot covers lies in the area
pub covered_in : (c : Config) → IsValid c → (i : ℕ) (v : Node) → covers (bot_at c i) v ≡ true → IsTrue (is_in c.area v)
covered_in c valid i v e =
    let found = covered _ v e in
    let fits = valid.each i found.0 found.1 in
    elim (own_cases found.0 v found.2) [
      | inl h ↦ subst (λ (u : Node). IsTrue (is_in c.area u)) h fits.head
      | inr h ↦ subst (λ (u : Node). IsTrue (is_in c.area u)) h fits.tail
    ]

-- a node outside the area has no occupant
pub outside_empty : (c : Config) → IsValid c → (v : Node) → index_of c.area v ≡ None → None ≡ occupant c v
outside_empty c valid v e =
    elim (occupant c v) as (λ o. occupant c v ≡ o → None ≡ o) [
      | None ↦ λ _. refl
      | Some i ↦ λ is. absurd (not_none (index_of c.area v) e (covered_in c valid i v (position-Some _ c.bots i None is).1))
    ] refl

-- what an amoebot in an area has to be, and what a valid configuration says of an amoebot of it
pub in_range_of : (a : Extent) → IsArea a → (b : Bot) → IsTrue (is_in a b.head) → IsTrue (is_in a b.tail) → b.rot < 6 → length b.mem ≡ 8 → IsBotInRange b
in_range_of a area b head tail rot eight = record { head = near_in a b.head area head; tail = near_in a b.tail area tail; rot = rot; eight = eight }

pub bot_in_range : (c : Config) → IsValid c → (i : ℕ) (b : Bot) → bot_at c i ≡ Some b → IsBotInRange b
bot_in_range c valid i b at = let fits = valid.each i b at in in_range_of c.area valid.area b fits.head fits.tail fits.rot fits.eight

-- nor is such a node a wall
pub covered_open : (c : Config) → IsValid c → (i : ℕ) (v : Node) → covers (bot_at c i) v ≡ true → is_wall c v ≡ false
covered_open c valid i v e =
    let found = covered _ v e in
    let fits = valid.each i found.0 found.1 in
    elim (own_cases found.0 v found.2) [
      | inl h ↦ ap (is_wall c) (sym h) ∙ fits.head_open
      | inr h ↦ ap (is_wall c) (sym h) ∙ fits.tail_open
    ]

-- so a node with an occupant is none
pub occupied_open : (c : Config) → IsValid c → (v : Node) (i : ℕ) → occupant c v ≡ Some i → is_wall c v ≡ false
occupied_open c valid v i e = covered_open c valid i v (occupant_covers c v i e)
