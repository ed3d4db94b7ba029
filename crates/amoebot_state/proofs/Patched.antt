-- What a patch leaves: each amoebot and each occupant is that of the patched configuration.
use Rattle.std.proofs.Common.{◌≡◌, ◌≢◌, ◌⊎◌, ◌<◌, ◌*◌, ℕ, List, [], ◌∷◌, map, length, get_or, set, ap, sym, ◌∙◌, refl, subst, inl, inr, arith, Option, Some, None}
use Rattle.std.specs.Option.{option_map}
use Rattle.std.specs.List.{fold, All, AllByRecursion}
use Rattle.std.proofs.lemmas.List.{get_or-set_same, get_or-set_other, length-set, length-map, ext_get_or, get_or-map, map-set}
use Rattle.std.proofs.lemmas.List.Elements.{All-nil, All-cons, All-head, All-tail, recursion_from_All}
use Rattle.std.proofs.lemmas.Bool.{cases_eq}
use Rattle.std.proofs.lemmas.Option.{none-some, same_Some}
use Rattle.tri_lattice.specs.declared.node.Node.{Node}
use Rattle.tri_lattice.specs.Extent.{Extent, index_of}
use Rattle.tri_lattice.proofs.Boxes.{index_once, index_below}
use Rattle.amoebot_state.specs.declared.bot.Bot.{Bot}
use Rattle.amoebot_state.specs.declared.cell.CellName.{CellName}
use Rattle.amoebot_state.specs.declared.cell.CellName.TheVariants as name
use Rattle.amoebot_state.specs.declared.cell.Cell.{Cell}
use Rattle.amoebot_state.specs.declared.cell.Cell.TheVariants as cell
use Rattle.amoebot_state.specs.Pairs.{plain_patch}
use Rattle.amoebot_state.specs.Configs.{Config, IsValid, IsGrid, IsWorld, with_these, bot_at, occupant, value}
use Rattle.amoebot_state.specs.Patches.{IsPatched}
use Rattle.amoebot_state.specs.Steps.{Run}
use Rattle.amoebot_state.specs.Laws.{PatchedIsUnique, PatchListsWhatDiffers, StepHasOneResult, RunHasOneLast}
use Rattle.amoebot_state.proofs.Members.{Has, here, later, has_cases, not_in_none, Has-map, Contains-from_Has}
use Rattle.amoebot_state.specs.Storage.{put_bot, put_at, put_spot, put_bots, put_spots}
use Rattle.tri_lattice.proofs.Nodes.{cases_node}

-- A fold after which a place is right: a step keeps it right, a step that names it makes it right, and it is right at the start if no step names it.
pub settles : {S P : Type 0} (put : S → P → S) (Right : S → Type 0) (Good Names : P → Type 0) → ((s : S) (p : P) → Good p → Right s → Right (put s p)) → ((s : S) (p : P) → Good p → Names p → Right (put s p)) → ((p : P) → Names p ⊎ (Names p → ⊥)) → (ps : List P) (s : S) → AllByRecursion Good ps → (All (λ p. Names p → ⊥) ps → Right s) → Right (fold put s ps)
settles {S} {P} put Right Good Names keep fix decide [] s good start = start (All-nil (λ (p : P). Names p → ⊥))
settles {S} {P} put Right Good Names keep fix decide (p ∷ ps) s good start =
    settles put Right Good Names keep fix decide ps (put s p) good.1 (λ rest.
    elim (decide p) [
      | inl n ↦ fix s p good.0 n
      | inr n ↦ keep s p good.0 (start (All-cons (λ (q : P). Names q → ⊥) p ps n rest))
    ])

body_is : (o : Option Bot) (b : Bot) → option_map cell.Body o ≡ Some (cell.Body b) → o ≡ Some b
body_is None b e = absurd (none-some _ e)
body_is (Some c) b e = let f = same_Some _ _ e in cc

no_spot : (o : Option Bot) (q : Option ℕ) → option_map cell.Body o ≡ Some (cell.Spot q) → ⊥
no_spot None q e = none-some _ e
no_spot (Some c) q e = let f = same_Some _ _ e in cc

-- an amoebot that is set
set_right : (bs : List Bot) (i : ℕ) (b : Bot) (n : ℕ) → i < n → length (set bs i b) ≡ n → get_or (map Some (set bs i b)) i None ≡ Some b
set_right bs i b n lt e =
    let within : i < length bs = omega (arith, length-set {A = Bot} bs i b) in
    let here : i < length (set bs i b) = omega arith in
    get_or-map Some (set bs i b) i b None here ∙ ap Some (get_or-set_same bs i b b within)

-- the other amoebots stay
set_keeps : (bs : List Bot) (i j : ℕ) (b : Bot) → i ≢ j → get_or (map Some (set bs j b)) i None ≡ get_or (map Some bs) i None
set_keeps bs i j b ne = ap (λ os. get_or os i None) (map-set Some bs j b) ∙ get_or-set_other (map Some bs) j i (Some b) None ne

BotRight : Config → ℕ → ℕ → List Bot → Type 0
BotRight new n i bs = length bs ≡ n → get_or (map Some bs) i None ≡ bot_at new i

fix_bot : (new : Config) (n i : ℕ) → i < n → (bs : List Bot) (m : CellName) (x : Cell) → value new m ≡ Some x → m ≡ name.Body i → BotRight new n i (put_bot bs m x)
unfolding BotRight
fix_bot new n i lt bs (name.Spot v) x good is = absurd (cc)
fix_bot new n i lt bs (name.Body j) (cell.Spot o) good is = absurd (no_spot _ o good)
fix_bot new n i lt bs (name.Body j) (cell.Body b) good is = λ e.
    let same : j ≡ i = cc in
    let P : ℕ → Type 0 = λ k. length (set bs k b) ≡ n → get_or (map Some (set bs k b)) i None ≡ bot_at new i in
    let at_i : bot_at new i ≡ Some b = ap (bot_at new) (sym same) ∙ body_is _ b good in
    subst P (sym same) (λ f. set_right bs i b n lt f ∙ sym at_i) e

keep_bot : (new : Config) (n i : ℕ) → i < n → (bs : List Bot) (m : CellName) (x : Cell) → value new m ≡ Some x → BotRight new n i bs → BotRight new n i (put_bot bs m x)
unfolding BotRight
keep_bot new n i lt bs (name.Spot v) x good was = was
keep_bot new n i lt bs (name.Body j) (cell.Spot o) good was = was
keep_bot new n i lt bs (name.Body j) (cell.Body b) good was = elim (cases_eq i j) [
  | inl e ↦ unfold BotRight in fix_bot new n i lt bs (name.Body j) (cell.Body b) good (ap name.Body (sym e))
  | inr ne ↦ λ f. set_keeps bs i j b ne ∙ was (sym (length-set bs j b) ∙ f)
]

pub decide_body : (i : ℕ) (m : CellName) → (m ≡ name.Body i) ⊎ (m ≡ name.Body i → ⊥)
decide_body i (name.Spot v) = inr (λ e. cc)
decide_body i (name.Body j) = elim (cases_eq j i) [ inl e ↦ inl (ap name.Body e) | inr ne ↦ inr (λ e. let f : j ≡ i = cc in ne f) ]

length_put : (bs : List Bot) (m : CellName) (x : Cell) → length (put_bot bs m x) ≡ length bs
length_put bs (name.Spot v) x = refl
length_put bs (name.Body j) (cell.Spot o) = refl
length_put bs (name.Body j) (cell.Body b) = length-set bs j b

pub length_puts : (ps : List (CellName × Cell)) (bs : List Bot) → length (put_bots bs ps) ≡ length bs
length_puts [] bs = refl
length_puts (p ∷ ps) bs = length_puts ps (put_bot bs p.0 p.1) ∙ length_put bs p.0 p.1

body_alike : (o q : Option Bot) → option_map cell.Body o ≡ option_map cell.Body q → o ≡ q
body_alike None None e = refl
body_alike None (Some b) e = absurd (cc)
body_alike (Some b) None e = absurd (cc)
body_alike (Some b) (Some c) e = cc

-- after the patch the amoebots are those of the patched configuration
pub bots_patched : (c : Config) (bs : List Bot) (ps : List (CellName × Cell)) (new : Config) → IsPatched (with_these c bs) ps new → map Some (put_bots bs ps) ≡ new.bots
unfolding BotRight
bots_patched c bs ps new patched =
    let long : length (map Some (put_bots bs ps)) ≡ length bs = length-map (put_bots bs ps) Some ∙ length_puts ps bs in
    let size : length new.bots ≡ length bs = patched.same.size ∙ length-map bs Some in
    ext_get_or None _ _ (long ∙ sym size) (λ i below.
    let lt : i < length bs = omega arith in
    settles (λ cs (p : CellName × Cell). put_bot cs p.0 p.1) (BotRight new (length bs) i) (λ (p : CellName × Cell). value new p.0 ≡ Some p.1) (λ (p : CellName × Cell). p.0 ≡ name.Body i)
    (λ cs p. keep_bot new (length bs) i lt cs p.0 p.1)
    (λ cs p. fix_bot new (length bs) i lt cs p.0 p.1)
    (λ p. decide_body i p.0)
    ps bs (recursion_from_All _ ps patched.given)
    (λ none _. body_alike _ _ (sym (patched.kept (name.Body i) none)))
    (length_puts ps bs))

SpotRight : Config → Node → ℕ → ℕ → List (Option ℕ) → Type 0
SpotRight new v k n g = length g ≡ n → get_or g k None ≡ occupant new v

-- the occupant that the patch says is the new one
spot_is : (new : Config) (v : Node) (o : Option ℕ) → value new (name.Spot v) ≡ Some (cell.Spot o) → occupant new v ≡ o
spot_is new v o e = let f = same_Some _ _ e in cc

pub fix_at : (o : Option ℕ) (k n : ℕ) (q new : Option ℕ) (g : List (Option ℕ)) → q ≡ Some k → k < n → new ≡ o → length (put_at g q o) ≡ n → get_or (put_at g q o) k None ≡ new
fix_at o k n None new g is lt same e = absurd (none-some _ is)
fix_at o k n (Some j) new g is lt same e =
    let j_is : j ≡ k = same_Some _ _ is in
    let within : k < length g = omega (arith, length-set {A = Option ℕ} g j o) in
    ap (λ i. get_or (set g i o) k None) j_is ∙ get_or-set_same g k o None within ∙ sym same

fix_spot : (new : Config) (v : Node) (k n : ℕ) → index_of new.area v ≡ Some k → k < n → (g : List (Option ℕ)) (m : CellName) (x : Cell) → value new m ≡ Some x → m ≡ name.Spot v → SpotRight new v k n (put_spot new.area g m x)
unfolding SpotRight
fix_spot new v k n at lt g (name.Body j) x good is = absurd (cc)
fix_spot new v k n at lt g (name.Spot u) (cell.Body b) good is = let f = same_Some _ _ good in absurd (cc)
fix_spot new v k n at lt g (name.Spot u) (cell.Spot o) good is = λ e.
    let same : u ≡ v = cc in
    fix_at o k n (index_of new.area u) (occupant new v) g (ap (index_of new.area) same ∙ at) lt (ap (occupant new) (sym same) ∙ spot_is new u o good) e

-- a write by the number of a place, if it has one, keeps the length
pub length_put_at : {A : Type 0} (xs : List A) (o : Option ℕ) (x : A) → length (put_at xs o x) ≡ length xs
length_put_at xs None x = refl
length_put_at xs (Some k) x = length-set xs k x

length_put_spot : (a : Extent) (g : List (Option ℕ)) (m : CellName) (x : Cell) → length (put_spot a g m x) ≡ length g
length_put_spot a g (name.Body j) x = refl
length_put_spot a g (name.Spot v) (cell.Body b) = refl
length_put_spot a g (name.Spot v) (cell.Spot o) = length_put_at g (index_of a v) o

pub keep_at : (new : Config) (u v : Node) (o : Option ℕ) (k : ℕ) (q : Option ℕ) (g : List (Option ℕ)) → index_of new.area u ≡ q → index_of new.area v ≡ Some k → (u ≡ v → ⊥) → get_or (put_at g q o) k None ≡ get_or g k None
keep_at new u v o k None g uq at ne = refl
keep_at new u v o k (Some j) g uq at ne = get_or-set_other g j k o None (λ e. ne (index_once new.area u v j uq (at ∙ ap Some e)))

keep_spot : (new : Config) (v : Node) (k n : ℕ) → index_of new.area v ≡ Some k → k < n → (g : List (Option ℕ)) (m : CellName) (x : Cell) → value new m ≡ Some x → SpotRight new v k n g → SpotRight new v k n (put_spot new.area g m x)
unfolding SpotRight
keep_spot new v k n at lt g (name.Body j) x good was = was
keep_spot new v k n at lt g (name.Spot u) (cell.Body b) good was = was
keep_spot new v k n at lt g (name.Spot u) (cell.Spot o) good was = elim (cases_node u v) [
  | inl e ↦ unfold SpotRight in fix_spot new v k n at lt g (name.Spot u) (cell.Spot o) good (ap name.Spot e)
  | inr ne ↦ λ f. keep_at new u v o k (index_of new.area u) g refl at ne ∙ was (sym (length_put_at g (index_of new.area u) o) ∙ f)
]

decide_spot : (v : Node) (m : CellName) → (m ≡ name.Spot v) ⊎ (m ≡ name.Spot v → ⊥)
decide_spot v (name.Body j) = inr (λ e. cc)
decide_spot v (name.Spot u) = elim (cases_node u v) [ inl e ↦ inl (ap name.Spot e) | inr ne ↦ inr (λ e. let f : u ≡ v = cc in ne f) ]

pub length_put_spots : (a : Extent) (ps : List (CellName × Cell)) (g : List (Option ℕ)) → length (put_spots a g ps) ≡ length g
length_put_spots a [] g = refl
length_put_spots a (p ∷ ps) g = length_put_spots a ps (put_spot a g p.0 p.1) ∙ length_put_spot a g p.0 p.1

-- after the patch the grid is that of the patched configuration
pub grid_patched : (old new : Config) (g : List (Option ℕ)) (ps : List (CellName × Cell)) → IsGrid old g → IsPatched old ps new → new.area ≡ old.area → IsGrid new (put_spots new.area g ps)
unfolding SpotRight
grid_patched old new g ps grid patched area = record {
  size = length_put_spots new.area ps g ∙ grid.size ∙ ap (λ (a : Extent). a.w * a.h) (sym area);
  right = λ v k at.
      let lt : k < length g = let b = index_below new.area v k at in let s = grid.size in let w = ap (λ (a : Extent). a.w * a.h) area in omega arith in
      settles (λ h (p : CellName × Cell). put_spot new.area h p.0 p.1) (SpotRight new v k (length g)) (λ (p : CellName × Cell). value new p.0 ≡ Some p.1) (λ (p : CellName × Cell). p.0 ≡ name.Spot v)
      (λ h p. keep_spot new v k (length g) at lt h p.0 p.1)
      (λ h p. fix_spot new v k (length g) at lt h p.0 p.1)
      (λ p. decide_spot v p.0)
      ps g (recursion_from_All _ ps patched.given)
      (λ none _. grid.right v k (ap (λ (a : Extent). index_of a v) (sym area) ∙ at) ∙ spot_same _ _ (patched.kept (name.Spot v) none))
      (length_put_spots new.area ps g);
}
  where
    spot_same : (o q : Option ℕ) → Some (cell.Spot o) ≡ Some (cell.Spot q) → q ≡ o
    spot_same o q e = let f = same_Some _ _ e in cc

pub same_config : (a b : Config) → a.area ≡ b.area → a.walls ≡ b.walls → a.maxes ≡ b.maxes → a.bots ≡ b.bots → a ≡ b
same_config a b x w y z = λ i. record { area = x i; walls = w i; maxes = y i; bots = z i }

-- the fields after the patch are those of the patched configuration
pub is_patched : (c : Config) (bs : List Bot) (ps : List (CellName × Cell)) (new : Config) → IsPatched (with_these c bs) ps new → new ≡ with_these c (put_bots bs ps)
is_patched c bs ps new patched = patched.same.rest ∙ ap (λ (os : List (Option Bot)). let d : Config = record c { bots = os } in d) (sym (bots_patched c bs ps new patched))

-- a world stays one
pub world_patched : (c : Config) (bs : List Bot) (g : List (Option ℕ)) (ps : List (CellName × Cell)) (new : Config) → IsWorld (with_these c bs) g → IsPatched (with_these c bs) ps new → IsWorld (with_these c (put_bots bs ps)) (put_spots c.area g ps)
world_patched c bs g ps new world patched =
    let same = is_patched c bs ps new patched in
    record {
      valid = subst IsValid same patched.valid;
      kept =
          let P : Config → Type 0 = λ d. IsGrid d (put_spots d.area g ps) in
          subst P same (grid_patched (with_these c bs) new g ps world.kept patched (ap (λ (d : Config). d.area) patched.same.rest));
      few =
          let e : length (map Some (put_bots bs ps)) ≡ length (map Some bs) = length-map (put_bots bs ps) Some ∙ length_puts ps bs ∙ sym (length-map bs Some) in
          let f = world.few in omega arith;
    }

pub All-at : {A : Type 0} (P : A → Type 0) {x : A} (xs : List A) → All P xs → Has x xs → P x
All-at P [] all has = absurd (not_in_none has)
All-at {A} P {x} (y ∷ xs) all has = elim (has_cases has) [
  | inl e ↦ subst P (sym e) (All-head P y xs all)
  | inr r ↦ All-at P xs (All-tail P y xs all) r
]

-- a cell is listed, or no pair names it
listed_or_not : (n : CellName) → ((m : CellName) → (m ≡ n) ⊎ (m ≡ n → ⊥)) → (ps : List (CellName × Cell)) → ((p : CellName × Cell) × Has p ps × (p.0 ≡ n)) ⊎ All (λ (p : CellName × Cell). p.0 ≢ n) ps
listed_or_not n decide [] = inr (All-nil (λ (p : CellName × Cell). p.0 ≢ n))
listed_or_not n decide (p ∷ ps) = elim (decide p.0) [
  | inl e ↦ inl (p, here, e)
  | inr ne ↦ elim (listed_or_not n decide ps) [
    | inl found ↦ inl (found.0, later found.1, found.2)
    | inr none ↦ inr (All-cons (λ (p : CellName × Cell). p.0 ≢ n) p ps ne none)
  ]
]

-- two names are the same or not
pub decide_name : (n m : CellName) → (m ≡ n) ⊎ (m ≡ n → ⊥)
decide_name (name.Spot v) m = decide_spot v m
decide_name (name.Body i) m = decide_body i m

-- two configurations that a patch leads to hold the same in each cell
values_alike : (old one two : Config) (ps : List (CellName × Cell)) → IsPatched old ps one → IsPatched old ps two → (n : CellName) → value one n ≡ value two n
values_alike old one two ps first second n = elim (listed_or_not n (decide_name n) ps) [
  | inl found ↦
      let p = found.0 in
      ap (value one) (sym found.2) ∙ All-at (λ (p : CellName × Cell). value one p.0 ≡ Some p.1) ps first.given found.1
      ∙ sym (ap (value two) (sym found.2) ∙ All-at (λ (p : CellName × Cell). value two p.0 ≡ Some p.1) ps second.given found.1)
  | inr none ↦ first.kept n none ∙ sym (second.kept n none)
]

pub patched_is_unique : PatchedIsUnique
patched_is_unique old one two ps first second =
    same_config one two (ap (λ (c : Config). c.area) first.same.rest ∙ sym (ap (λ (c : Config). c.area) second.same.rest)) (ap (λ (c : Config). c.walls) first.same.rest ∙ sym (ap (λ (c : Config). c.walls) second.same.rest)) (ap (λ (c : Config). c.maxes) first.same.rest ∙ sym (ap (λ (c : Config). c.maxes) second.same.rest))
    (ext_get_or None one.bots two.bots (first.same.size ∙ sym second.same.size) (λ i below. body_alike _ _ (values_alike old one two ps first second (name.Body i))))

pub step_has_one_result : StepHasOneResult
step_has_one_result f old e one two first second = patched_is_unique old one two (plain_patch e.patch) first.patched second.patched

pub run_has_one_last : RunHasOneLast
run_has_one_last f old [] one two first second = first ∙ sym second
run_has_one_last f old (e ∷ es) one two first second =
    let same = step_has_one_result f old e first.0 second.0 first.1 second.1 in
    run_has_one_last f second.0 es one two (subst (λ c. Run f c es one) same first.2) second.2

pub patch_lists_what_differs : PatchListsWhatDiffers
patch_lists_what_differs old new ps patched n differs = elim (listed_or_not n (decide_name n) ps) [
  | inl found ↦ Contains-from_Has (map (λ (p : CellName × Cell). p.0) ps) (subst (λ m. Has m (map (λ (p : CellName × Cell). p.0) ps)) found.2 (Has-map (λ (p : CellName × Cell). p.0) found.1))
  | inr none ↦ absurd (differs (patched.kept n none))
]
