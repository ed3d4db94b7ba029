-- That what a world tells of cells with new values is whether they lead to a valid configuration.
use Rattle.std.proofs.Common.{◌≡◌, ◌≢◌, ◌⊎◌, ℕ, List, [], ◌∷◌, map, length, Bool, true, false, not, ap, sym, ◌∙◌, refl, subst, inl, inr, arith, Option, Some, None, Decides}
use Rattle.std.specs.Prelude.{IsSome, is_some, nat_eq, unwrap_or}
use Rattle.std.specs.List.{All, list_all, range_with_len}
use Rattle.std.specs.Option.{option_map, option_or}
use Rattle.std.proofs.lemmas.Bool.{cases_Bool, cases_lt, both_ways, and_from, and_parts, or_cases, or_left, or_right, eq-eqb, eqb-true, false≢true, lt-ltb, ltb-true}
use Rattle.std.proofs.lemmas.List.{get_or_past}
use Rattle.std.proofs.lemmas.List.Elements.{All-nil, All-cons, All-head, All-tail}
use Rattle.std.proofs.lemmas.List.FromFn.{length-map-range_with_len, get_or-map-range_with_len}
use Rattle.std.proofs.lemmas.Option.{none-some, same_Some}
use Rattle.tri_lattice.specs.declared.node.Node.{Node}
use Rattle.tri_lattice.specs.Lattice.{node_eq}
use Rattle.tri_lattice.proofs.Nodes.{node_eq-true, eq-node_eq}
use Rattle.amoebot_state.specs.declared.bot.Bot.{Bot}
use Rattle.amoebot_state.specs.declared.cell.CellName.{CellName}
use Rattle.amoebot_state.specs.declared.cell.CellName.TheVariants as name
use Rattle.amoebot_state.specs.declared.cell.Cell.{Cell}
use Rattle.amoebot_state.specs.declared.cell.Cell.TheVariants as cell
use Rattle.amoebot_state.specs.Pairs.{Pairs, body_at, body_in, cell_of, cell_value, spot_at, spot_in}
use Rattle.amoebot_state.specs.Ports.{is_own}
use Rattle.amoebot_state.specs.Configs.{Config, IsBot, IsValid, bot_at, covers, frame, occupant, value}
use Rattle.amoebot_state.specs.Patches.{IsPatched, HasPatched, bot_eq, id_eq}
use Rattle.amoebot_state.specs.Fitting.{occupant_after, body_after, has_bot, has_cell, have_cells, may_stand, is_to_be, is_kept, takes_over, body_fits, is_owned, is_left, spot_fits, cell_fits, all_fit}
use Rattle.amoebot_state.proofs.Members.{Has, here, later, has_cases, not_in_none, All-from_Has}
use Rattle.amoebot_state.proofs.Occupants.{occupant_at, occupant_covers, occupant_none}
use Rattle.amoebot_state.proofs.Owns.{own_cases, own_head, own_tail, covered}
use Rattle.amoebot_state.proofs.Patched.{All-at}
use Rattle.amoebot_state.proofs.Values.{id_eq-true, bot_eq-true, value_same}

-- tests of ids and of amoebots are tests of equality
id_same : (o q : Option ℕ) → o ≡ q → id_eq o q ≡ true
id_same o q e = subst (λ (r : Option ℕ). id_eq o r ≡ true) e (value_same (Some (cell.Spot o)))

bot_same : (a b : Bot) → a ≡ b → bot_eq a b ≡ true
bot_same a b e = subst (λ (c : Bot). bot_eq a c ≡ true) e (value_same (Some (cell.Body a)))

has_bot-true : (o : Option Bot) (b : Bot) → has_bot o b ≡ true → o ≡ Some b
has_bot-true None b t = absurd (false≢true t)
has_bot-true (Some a) b t = ap Some (bot_eq-true a b t)

bot_there : (o : Option Bot) (b : Bot) → o ≡ Some b → has_bot o b ≡ true
bot_there None b e = absurd (none-some b e)
bot_there (Some a) b e = bot_same a b (same_Some a b e)

-- what a body and a node hold
body_held : (o : Option Bot) (x : Cell) → option_map cell.Body o ≡ Some x → (b : Bot) × (o ≡ Some b) × (x ≡ cell.Body b)
body_held None x e = absurd (none-some x e)
body_held (Some b) x e = (b, refl, sym (same_Some (cell.Body b) x e))

spot_held : (o q : Option ℕ) → Some (cell.Spot o) ≡ Some (cell.Spot q) → o ≡ q
spot_held o q e = let f = same_Some _ _ e in cc

no_body_held : (o : Option ℕ) (b : Bot) → Some (cell.Spot o) ≡ Some (cell.Body b) → ⊥
no_body_held o b e = let f = same_Some _ _ e in cc

no_spot_held : (o : Option Bot) (q : Option ℕ) → option_map cell.Body o ≡ Some (cell.Spot q) → ⊥
no_spot_held None q e = none-some _ e
no_spot_held (Some b) q e = let f = same_Some _ _ e in cc

-- ---- what the cells have of an id and of a node

body_at_is : (n : CellName) (x : Cell) (j : ℕ) (b : Bot) → body_at n x j ≡ Some b → (n ≡ name.Body j) × (x ≡ cell.Body b)
body_at_is (name.Spot v) x j b e = absurd (none-some b e)
body_at_is (name.Body i) (cell.Spot o) j b e = absurd (none-some b e)
body_at_is (name.Body i) (cell.Body a) j b e = elim (cases_Bool (nat_eq i j)) as (λ _. (name.Body i ≡ name.Body j) × (cell.Body a ≡ cell.Body b)) [
  | inl t ↦ let f : Some a ≡ Some b = sym (body_if t) ∙ e in (ap name.Body (eqb-true i j t), ap cell.Body (same_Some a b f))
  | inr u ↦ absurd (none-some b (sym (body_unless u) ∙ e))
]
  where
    body_if : nat_eq i j ≡ true → body_at (name.Body i) (cell.Body a) j ≡ Some a
    body_if t = rw t refl

    body_unless : nat_eq i j ≡ false → body_at (name.Body i) (cell.Body a) j ≡ None
    body_unless u = rw u refl

spot_at_is : (n : CellName) (x : Cell) (v : Node) (o : Option ℕ) → spot_at n x v ≡ Some o → (n ≡ name.Spot v) × (x ≡ cell.Spot o)
spot_at_is (name.Body i) x v o e = absurd (none-some o e)
spot_at_is (name.Spot u) (cell.Body b) v o e = absurd (none-some o e)
spot_at_is (name.Spot u) (cell.Spot q) v o e = elim (cases_Bool (node_eq u v)) as (λ _. (name.Spot u ≡ name.Spot v) × (cell.Spot q ≡ cell.Spot o)) [
  | inl t ↦ let f : Some q ≡ Some o = sym (spot_if t) ∙ e in (ap name.Spot (node_eq-true u v t), ap cell.Spot (same_Some q o f))
  | inr w ↦ absurd (none-some o (sym (spot_unless w) ∙ e))
]
  where
    spot_if : node_eq u v ≡ true → spot_at (name.Spot u) (cell.Spot q) v ≡ Some q
    spot_if t = rw t refl

    spot_unless : node_eq u v ≡ false → spot_at (name.Spot u) (cell.Spot q) v ≡ None
    spot_unless w = rw w refl

-- the first of two that is there
first_of : {A : Type 0} (o q : Option A) (x : A) → option_or o q ≡ Some x → (o ≡ Some x) ⊎ (q ≡ Some x)
first_of None q x e = inr e
first_of (Some y) q x e = inl e

neither_of : {A : Type 0} (o q : Option A) → option_or o q ≡ None → (o ≡ None) × (q ≡ None)
neither_of None q e = (refl, e)
neither_of (Some y) q e = absurd (none-some y (sym e))

body_listed : (ps : Pairs) (j : ℕ) (b : Bot) → body_in ps j ≡ Some b → Has (name.Body j, cell.Body b) ps
body_listed [] j b e = absurd (none-some b e)
body_listed (p ∷ ps) j b e = elim (first_of (body_at p.0 p.1 j) (body_in ps j) b e) [
  | inl at ↦ let is = body_at_is p.0 p.1 j b at in subst (λ (q : CellName × Cell). Has q (p ∷ ps)) (λ i. (is.0 i, is.1 i)) here
  | inr rest ↦ later (body_listed ps j b rest)
]

spot_listed : (ps : Pairs) (v : Node) (o : Option ℕ) → spot_in ps v ≡ Some o → Has (name.Spot v, cell.Spot o) ps
spot_listed [] v o e = absurd (none-some o e)
spot_listed (p ∷ ps) v o e = elim (first_of (spot_at p.0 p.1 v) (spot_in ps v) o e) [
  | inl at ↦ let is = spot_at_is p.0 p.1 v o at in subst (λ (q : CellName × Cell). Has q (p ∷ ps)) (λ i. (is.0 i, is.1 i)) here
  | inr rest ↦ later (spot_listed ps v o rest)
]

-- where no pair names the body or the node, the cells have none
unnamed_at : (n : CellName) (x : Cell) (j : ℕ) → n ≢ name.Body j → body_at n x j ≡ None
unnamed_at (name.Spot v) x j ne = refl
unnamed_at (name.Body i) (cell.Spot o) j ne = refl
unnamed_at (name.Body i) (cell.Body b) j ne = elim (cases_Bool (nat_eq i j)) [
  | inl t ↦ absurd (ne (ap name.Body (eqb-true i j t)))
  | inr u ↦ rw u refl
]

body_unnamed : (ps : Pairs) (j : ℕ) → All (λ (p : CellName × Cell). cell_of p ≢ name.Body j) ps → body_in ps j ≡ None
body_unnamed [] j none = refl
body_unnamed (p ∷ ps) j none =
    let Other : CellName × Cell → Type 0 = λ q. cell_of q ≢ name.Body j in
    ap (λ o. option_or o (body_in ps j)) (unnamed_at p.0 p.1 j (All-head Other p ps none)) ∙ body_unnamed ps j (All-tail Other p ps none)

unnamed_on : (n : CellName) (x : Cell) (v : Node) → n ≢ name.Spot v → spot_at n x v ≡ None
unnamed_on (name.Body i) x v ne = refl
unnamed_on (name.Spot u) (cell.Body b) v ne = refl
unnamed_on (name.Spot u) (cell.Spot o) v ne = elim (cases_Bool (node_eq u v)) [
  | inl t ↦ absurd (ne (ap name.Spot (node_eq-true u v t)))
  | inr w ↦ rw w refl
]

spot_unnamed : (ps : Pairs) (v : Node) → All (λ (p : CellName × Cell). cell_of p ≢ name.Spot v) ps → spot_in ps v ≡ None
spot_unnamed [] v none = refl
spot_unnamed (p ∷ ps) v none =
    let Other : CellName × Cell → Type 0 = λ q. cell_of q ≢ name.Spot v in
    ap (λ o. option_or o (spot_in ps v)) (unnamed_on p.0 p.1 v (All-head Other p ps none)) ∙ spot_unnamed ps v (All-tail Other p ps none)

-- ---- a configuration that has the new values has what the cells give, or else what was there

module _ (c new : Config) where
  abbrev Given : CellName × Cell → Type 0
  Given p = value new (cell_of p) ≡ Some (cell_value p)

  -- where each cell has its value, a body that the cells do not have is not named
  body_not_named : (n : CellName) (x : Cell) (j : ℕ) → value new n ≡ Some x → body_at n x j ≡ None → n ≢ name.Body j
  body_not_named (name.Spot v) x j good none e = cc
  body_not_named (name.Body i) (cell.Spot o) j good none e = no_spot_held (bot_at new i) o good
  body_not_named (name.Body i) (cell.Body b) j good none e =
      let same : i ≡ j = cc in
      let is : body_at (name.Body i) (cell.Body b) j ≡ Some b = rw (eq-eqb i j same) refl in
      none-some b (sym none ∙ is)

  bodies_not_named : (ps : Pairs) (j : ℕ) → All Given ps → body_in ps j ≡ None → All (λ (p : CellName × Cell). cell_of p ≢ name.Body j) ps
  bodies_not_named [] j good none = All-nil (λ (p : CellName × Cell). cell_of p ≢ name.Body j)
  bodies_not_named (p ∷ ps) j good none =
      let parts = neither_of (body_at p.0 p.1 j) (body_in ps j) none in
      All-cons (λ (q : CellName × Cell). cell_of q ≢ name.Body j) p ps (body_not_named p.0 p.1 j (All-head Given p ps good) parts.0) (bodies_not_named ps j (All-tail Given p ps good) parts.1)

  spot_not_named : (n : CellName) (x : Cell) (v : Node) → value new n ≡ Some x → spot_at n x v ≡ None → n ≢ name.Spot v
  spot_not_named (name.Body i) x v good none e = cc
  spot_not_named (name.Spot u) (cell.Body b) v good none e = no_body_held (occupant new u) b good
  spot_not_named (name.Spot u) (cell.Spot o) v good none e =
      let same : u ≡ v = cc in
      let is : spot_at (name.Spot u) (cell.Spot o) v ≡ Some o = rw (eq-node_eq u v same) refl in
      none-some o (sym none ∙ is)

  spots_not_named : (ps : Pairs) (v : Node) → All Given ps → spot_in ps v ≡ None → All (λ (p : CellName × Cell). cell_of p ≢ name.Spot v) ps
  spots_not_named [] v good none = All-nil (λ (p : CellName × Cell). cell_of p ≢ name.Spot v)
  spots_not_named (p ∷ ps) v good none =
      let parts = neither_of (spot_at p.0 p.1 v) (spot_in ps v) none in
      All-cons (λ (q : CellName × Cell). cell_of q ≢ name.Spot v) p ps (spot_not_named p.0 p.1 v (All-head Given p ps good) parts.0) (spots_not_named ps v (All-tail Given p ps good) parts.1)

-- what is there in an amoebot's place
body_alike : (o q : Option Bot) → option_map cell.Body o ≡ option_map cell.Body q → o ≡ q
body_alike None None e = refl
body_alike None (Some b) e = absurd (none-some _ e)
body_alike (Some a) None e = absurd (none-some _ (sym e))
body_alike (Some a) (Some b) e = let f = same_Some _ _ e in cc

module _ (c new : Config) (ps : Pairs) (patched : IsPatched c ps new) where
  at_given : (p : CellName × Cell) → Has p ps → value new (cell_of p) ≡ Some (cell_value p)
  at_given p has = All-at (λ (q : CellName × Cell). value new (cell_of q) ≡ Some (cell_value q)) ps patched.given has

  -- each id has the amoebot that it is to have,
  bot_is : (j : ℕ) → bot_at new j ≡ body_after c ps j
  bot_is j = elim (body_in ps j) as (λ o. body_in ps j ≡ o → bot_at new j ≡ option_or o (bot_at c j)) [
    | None ↦ λ e. body_alike _ _ (patched.kept (name.Body j) (bodies_not_named c new ps j patched.given e))
    | Some b ↦ λ e.
        let is = body_held (bot_at new j) (cell.Body b) (at_given (name.Body j, cell.Body b) (body_listed ps j b e)) in
        let same : is.0 ≡ b = (let f = is.2 in cc) in
        is.1 ∙ ap Some same
  ] refl

  -- and each node its occupant
  occupant_is : (v : Node) → occupant new v ≡ occupant_after c ps v
  occupant_is v = elim (spot_in ps v) as (λ o. spot_in ps v ≡ o → occupant new v ≡ unwrap_or o (occupant c v)) [
    | None ↦ λ e. spot_held _ _ (patched.kept (name.Spot v) (spots_not_named c new ps v patched.given e))
    | Some q ↦ λ e. spot_held _ _ (at_given (name.Spot v, cell.Spot q) (spot_listed ps v q e))
  ] refl

  -- whoever is to have a node has it
  has_it : (j : ℕ) (v : Node) → occupant_after c ps v ≡ Some j → covers (bot_at new j) v ≡ true
  has_it j v e = occupant_covers new v j (occupant_is v ∙ e)

  -- and whoever has one is to have it
  is_its : (j : ℕ) (v : Node) → covers (bot_at new j) v ≡ true → occupant_after c ps v ≡ Some j
  is_its j v t = sym (occupant_is v) ∙ occupant_at new patched.valid j v t

  frame_is : frame new ≡ frame c
  frame_is = ap frame patched.same.rest

  stands : (i : ℕ) (b : Bot) → bot_at new i ≡ Some b → IsBot (frame c) b
  stands i b at = subst (λ (d : Config). IsBot d b) frame_is (patched.valid.each i b at)

  may : (b : Bot) → IsBot (frame c) b → may_stand c b ≡ true
  may b is =
      and_from _ _ (and_from _ _ (and_from _ _ (and_from _ _ (and_from _ _ (and_from _ _ (and_from _ _ is.head is.tail) is.close) (ap not is.head_open)) (ap not is.tail_open)) (lt-ltb b.rot 6 is.rot)) is.values) (eq-eqb _ _ is.eight)

  -- a node that an amoebot of the id had, and that is to be the id's, is one of the new amoebot
  kept_node : (i : ℕ) (b : Bot) (v : Node) → bot_at new i ≡ Some b → is_kept c ps i b v ≡ true
  kept_node i b v at = elim (cases_Bool (is_to_be c ps i v)) [
    | inl t ↦ or_right _ _ (sym (ap (λ o. covers o v) at) ∙ has_it i v (id_eq-true _ _ t))
    | inr f ↦ or_left _ _ (ap not f)
  ]

  over : (i : ℕ) (b : Bot) (o : Option Bot) → bot_at new i ≡ Some b → bot_at c i ≡ o → takes_over c ps i b o ≡ true
  over i b None at was = absurd (false≢true (sym (ap is_some was) ∙ sym (patched.same.ids i) ∙ ap is_some at))
  over i b (Some old) at was = and_from _ _ (kept_node i b old.head at) (kept_node i b old.tail at)

  body_found : (i : ℕ) (b : Bot) → bot_at new i ≡ Some b → Has (name.Body i, cell.Body b) ps → body_in ps i ≡ Some b
  body_found i b at has = elim (body_in ps i) as (λ o. body_in ps i ≡ o → body_in ps i ≡ Some b) [
    | None ↦ λ e. absurd (All-at (λ (q : CellName × Cell). cell_of q ≢ name.Body i) ps (bodies_not_named c new ps i patched.given e) has refl)
    | Some a ↦ λ e. e ∙ sym (ap (λ o. option_or o (bot_at c i)) e) ∙ sym (bot_is i) ∙ at
  ] refl

  body_does : (i : ℕ) (b : Bot) → Has (name.Body i, cell.Body b) ps → body_fits c ps i b ≡ true
  body_does i b has =
      let held = body_held (bot_at new i) (cell.Body b) (at_given (name.Body i, cell.Body b) has) in
      let same : held.0 ≡ b = (let f = held.2 in cc) in
      let at : bot_at new i ≡ Some b = held.1 ∙ ap Some same in
      let its : (v : Node) → is_own b v ≡ true → is_to_be c ps i v ≡ true = λ v own. id_same _ _ (is_its i v (ap (λ o. covers o v) at ∙ own)) in
      and_from _ _ (and_from _ _ (and_from _ _ (and_from _ _ (may b (stands i b at)) (bot_there _ b (body_found i b at has))) (its b.head (own_head b b.head refl))) (its b.tail (own_tail b b.tail refl))) (over i b (bot_at c i) at refl)

  owned : (v : Node) (o : Option ℕ) → occupant new v ≡ o → is_owned c ps v o ≡ true
  owned v None e = refl
  owned v (Some i) e = sym (ap (λ a. covers a v) (bot_is i)) ∙ occupant_covers new v i e

  left : (v : Node) (o q : Option ℕ) → occupant new v ≡ o → occupant c v ≡ q → is_left ps o q ≡ true
  left v o None e was = refl
  left v o (Some j) e was = elim (body_in ps j) as (λ a. body_in ps j ≡ a → is_left ps o (Some j) ≡ true) [
    | Some b ↦ λ f. or_right _ _ (ap is_some f)
    | None ↦ λ f.
        let at : bot_at new j ≡ bot_at c j = bot_is j ∙ ap (λ a. option_or a (bot_at c j)) f in
        or_left _ _ (id_same o (Some j) (sym e ∙ occupant_at new patched.valid j v (ap (λ a. covers a v) at ∙ occupant_covers c v j was)))
  ] refl

  spot_does : (v : Node) (o : Option ℕ) → Has (name.Spot v, cell.Spot o) ps → spot_fits c ps v o ≡ true
  spot_does v o has =
      let is : occupant new v ≡ o = spot_held _ _ (at_given (name.Spot v, cell.Spot o) has) in
      and_from _ _ (and_from _ _ (id_same _ _ (sym (occupant_is v) ∙ is)) (owned v o is)) (left v o (occupant c v) is refl)

  cell_does : (n : CellName) (x : Cell) → Has (n, x) ps → cell_fits c ps n x ≡ true
  cell_does (name.Spot v) (cell.Spot o) has = spot_does v o has
  cell_does (name.Spot v) (cell.Body b) has = absurd (no_body_held (occupant new v) b (at_given (name.Spot v, cell.Body b) has))
  cell_does (name.Body i) (cell.Spot o) has = absurd (no_spot_held (bot_at new i) o (at_given (name.Body i, cell.Spot o) has))
  cell_does (name.Body i) (cell.Body b) has = body_does i b has

-- ---- lists of tests

each_passes : {A : Type 0} (p : A → Bool) (xs : List A) → list_all p xs ≡ true → (x : A) → Has x xs → p x ≡ true
each_passes p [] t x has = absurd (not_in_none has)
each_passes p (y ∷ xs) t x has =
    let parts = and_parts (p y) (list_all p xs) t in
    elim (has_cases has) [ inl e ↦ ap p e ∙ parts.0 | inr rest ↦ each_passes p xs parts.1 x rest ]

all_pass : {A : Type 0} (p : A → Bool) (xs : List A) → ((x : A) → Has x xs → p x ≡ true) → list_all p xs ≡ true
all_pass p [] each = refl
all_pass p (y ∷ xs) each = and_from (p y) (list_all p xs) (each y here) (all_pass p xs (λ x has. each x (later has)))

-- ---- where all cells fit, the configuration with the amoebots that are to be

-- the configuration in which each id has the amoebot that it is to have
abbrev after : Config → Pairs → Config
after c ps = record c { bots = map (body_after c ps) (range_with_len 0 (length c.bots)) }

module _ (c : Config) (ps : Pairs) (valid : IsValid c) (fits : all_fit c ps ≡ true) where
  does : (p : CellName × Cell) → Has p ps → cell_fits c ps (cell_of p) (cell_value p) ≡ true
  does p has = each_passes (λ (q : CellName × Cell). cell_fits c ps (cell_of q) (cell_value q)) ps fits p has

  -- the tests of a body that is listed
  may_be : (i : ℕ) (b : Bot) → body_fits c ps i b ≡ true → IsBot (frame c) b
  may_be i b t =
      let four = and_parts _ _ t in
      let three = and_parts _ _ four.0 in
      let two = and_parts _ _ three.0 in
      let one = and_parts _ _ two.0 in
      let eight = and_parts _ _ one.0 in
      let values = and_parts _ _ eight.0 in
      let rot = and_parts _ _ values.0 in
      let tail_open = and_parts _ _ rot.0 in
      let head_open = and_parts _ _ tail_open.0 in
      let close = and_parts _ _ head_open.0 in
      let inside = and_parts _ _ close.0 in
      record {
        head = inside.0;
        tail = inside.1;
        head_open = not_true _ head_open.1;
        tail_open = not_true _ tail_open.1;
        close = close.1;
        rot = ltb-true b.rot 6 rot.1;
        values = values.1;
        eight = eqb-true (length b.mem) 8 eight.1;
      }
    where
      not_true : (x : Bool) → not x ≡ true → x ≡ false
      not_true true e = absurd (false≢true e)
      not_true false e = refl

  first_is : (i : ℕ) (b : Bot) → body_fits c ps i b ≡ true → body_in ps i ≡ Some b
  first_is i b t = has_bot-true _ b (and_parts _ _ (and_parts _ _ (and_parts _ _ (and_parts _ _ t).0).0).0).1

  owns : (i : ℕ) (b : Bot) (v : Node) → body_fits c ps i b ≡ true → is_own b v ≡ true → occupant_after c ps v ≡ Some i
  owns i b v t own =
      let tails = and_parts _ _ (and_parts _ _ t).0 in
      let heads = and_parts _ _ tails.0 in
      elim (own_cases b v own) [
        | inl h ↦ ap (occupant_after c ps) (sym h) ∙ id_eq-true _ _ heads.1
        | inr h ↦ ap (occupant_after c ps) (sym h) ∙ id_eq-true _ _ tails.1
      ]

  takes : (i : ℕ) (b : Bot) → body_fits c ps i b ≡ true → takes_over c ps i b (bot_at c i) ≡ true
  takes i b t = (and_parts _ _ t).1

  was_there : (i : ℕ) (b : Bot) (o : Option Bot) → takes_over c ps i b o ≡ true → IsSome o
  was_there i b None t = absurd (false≢true t)
  was_there i b (Some old) t = refl

  -- what the one before had, and what is to be the id's, is the new one's
  keeps : (i : ℕ) (b old : Bot) (v : Node) → takes_over c ps i b (Some old) ≡ true → is_own old v ≡ true → occupant_after c ps v ≡ Some i → is_own b v ≡ true
  keeps i b old v t own e =
      let parts = and_parts _ _ t in
      elim (own_cases old v own) [
        | inl h ↦ subst (λ (u : Node). is_own b u ≡ true) h (kept old.head parts.0 (ap (occupant_after c ps) h ∙ e))
        | inr h ↦ subst (λ (u : Node). is_own b u ≡ true) h (kept old.tail parts.1 (ap (occupant_after c ps) h ∙ e))
      ]
    where
      kept : (u : Node) → is_kept c ps i b u ≡ true → occupant_after c ps u ≡ Some i → is_own b u ≡ true
      kept u k f = elim (or_cases _ _ k) [
        | inl n ↦ absurd (false≢true (sym (ap not (id_same _ _ f)) ∙ n))
        | inr own ↦ own
      ]

  -- a body that the cells have fits, and an occupant too
  body_test : (i : ℕ) (b : Bot) → body_in ps i ≡ Some b → body_fits c ps i b ≡ true
  body_test i b e = does (name.Body i, cell.Body b) (body_listed ps i b e)

  spot_test : (v : Node) (o : Option ℕ) → spot_in ps v ≡ Some o → spot_fits c ps v o ≡ true
  spot_test v o e = does (name.Spot v, cell.Spot o) (spot_listed ps v o e)

  there_before : (i : ℕ) (b : Bot) → body_in ps i ≡ Some b → IsSome (bot_at c i)
  there_before i b e = was_there i b (bot_at c i) (takes i b (body_test i b e))

  -- the configuration has them
  has_after : (i : ℕ) → bot_at (after c ps) i ≡ body_after c ps i
  has_after i = elim (cases_lt i (length c.bots)) [
    | inl lt ↦ get_or-map-range_with_len (body_after c ps) 0 (length c.bots) i i None lt (omega arith)
    | inr ge ↦
        let long = length-map-range_with_len (body_after c ps) 0 (length c.bots) in
        let nobody : bot_at c i ≡ None = get_or_past c.bots i None (omega arith) in
        get_or_past (map (body_after c ps) (range_with_len 0 (length c.bots))) i None (omega arith) ∙ sym (none_after nobody)
  ]
    where
      none_after : bot_at c i ≡ None → body_after c ps i ≡ None
      none_after nobody = elim (body_in ps i) as (λ o. body_in ps i ≡ o → option_or o (bot_at c i) ≡ None) [
        | None ↦ λ e. nobody
        | Some b ↦ λ e. absurd (false≢true (sym (ap is_some nobody) ∙ there_before i b e))
      ] refl

  -- whoever has a node there is to have it
  its : (j : ℕ) (v : Node) → covers (body_after c ps j) v ≡ true → occupant_after c ps v ≡ Some j
  its j v = elim (body_in ps j) as (λ o. body_in ps j ≡ o → covers (option_or o (bot_at c j)) v ≡ true → occupant_after c ps v ≡ Some j) [
    | Some b ↦ λ e own. owns j b v (body_test j b e) own
    | None ↦ λ e own. stays e (occupant_at c valid j v own)
  ] refl
    where
      left_to : (o q : Option ℕ) → body_in ps j ≡ None → is_left ps o q ≡ true → q ≡ Some j → o ≡ Some j
      left_to o None e t q = absurd (none-some j q)
      left_to o (Some k) e t q =
          let same : k ≡ j = same_Some k j q in
          elim (or_cases _ _ t) [
            | inl is ↦ id_eq-true o (Some k) is ∙ q
            | inr listed ↦ absurd (false≢true (sym (ap is_some (ap (body_in ps) same ∙ e)) ∙ listed))
          ]

      stays : body_in ps j ≡ None → occupant c v ≡ Some j → occupant_after c ps v ≡ Some j
      stays e was = elim (spot_in ps v) as (λ s. spot_in ps v ≡ s → unwrap_or s (occupant c v) ≡ Some j) [
        | None ↦ λ f. was
        | Some o ↦ λ f. left_to o (occupant c v) e (and_parts _ _ (spot_test v o f)).1 was
      ] refl

  -- and the other way round
  have : (j : ℕ) (v : Node) → occupant_after c ps v ≡ Some j → covers (body_after c ps j) v ≡ true
  have j v = elim (spot_in ps v) as (λ s. spot_in ps v ≡ s → unwrap_or s (occupant c v) ≡ Some j → covers (body_after c ps j) v ≡ true) [
    | Some o ↦ λ f is. subst (λ (q : Option ℕ). is_owned c ps v q ≡ true) is (and_parts _ _ (and_parts _ _ (spot_test v o f)).0).1
    | None ↦ λ f is. goes_on f is
  ] refl
    where
      goes_on : spot_in ps v ≡ None → occupant c v ≡ Some j → covers (body_after c ps j) v ≡ true
      goes_on f was = elim (body_in ps j) as (λ o. body_in ps j ≡ o → covers (option_or o (bot_at c j)) v ≡ true) [
        | None ↦ λ e. occupant_covers c v j was
        | Some b ↦ λ e.
            let old = covered (bot_at c j) v (occupant_covers c v j was) in
            keeps j b old.0 v (subst (λ (o : Option Bot). takes_over c ps j b o ≡ true) old.1 (takes j b (body_test j b e))) old.2
            (ap (λ s. unwrap_or s (occupant c v)) f ∙ was)
      ] refl

  covers_after : (j : ℕ) (v : Node) → covers (bot_at (after c ps) j) v ≡ covers (body_after c ps j) v
  covers_after j v = ap (λ o. covers o v) (has_after j)

  stands_after : (i : ℕ) (b : Bot) → body_after c ps i ≡ Some b → IsBot (frame c) b
  stands_after i b at = elim (body_in ps i) as (λ o. body_in ps i ≡ o → option_or o (bot_at c i) ≡ Some b → IsBot (frame c) b) [
    | None ↦ λ e is. valid.each i b is
    | Some a ↦ λ e is. may_be i b (body_test i b (e ∙ is))
  ] refl at

  valid_after : IsValid (after c ps)
  valid_after = record {
    area = valid.area;
    eight = valid.eight;
    rising = valid.rising;
    walled = valid.walled;
    each = λ i b at. stands_after i b (sym (has_after i) ∙ at);
    apart = λ i j v one two. same_Some i j (sym (its i v (sym (covers_after i v) ∙ one)) ∙ its j v (sym (covers_after j v) ∙ two));
  }

  -- the occupants are those that are to be
  occupants_after : (v : Node) → occupant (after c ps) v ≡ occupant_after c ps v
  occupants_after v = elim (occupant_after c ps v) as (λ o. occupant_after c ps v ≡ o → occupant (after c ps) v ≡ o) [
    | None ↦ λ e. occupant_none (after c ps) v (λ i. elim (cases_Bool (covers (bot_at (after c ps) i) v)) [
      | inl t ↦ absurd (none-some i (sym e ∙ its i v (sym (covers_after i v) ∙ t)))
      | inr f ↦ f
    ])
    | Some i ↦ λ e. occupant_at (after c ps) valid_after i v (covers_after i v ∙ have i v e)
  ] refl

  given_after : (n : CellName) (x : Cell) → cell_fits c ps n x ≡ true → value (after c ps) n ≡ Some x
  given_after (name.Spot v) (cell.Spot o) t =
      let is : occupant_after c ps v ≡ o = id_eq-true _ _ (and_parts _ _ (and_parts _ _ t).0).0 in
      ap (λ q. Some (cell.Spot q)) (occupants_after v ∙ is)
  given_after (name.Spot v) (cell.Body b) t = absurd (false≢true t)
  given_after (name.Body i) (cell.Spot o) t = absurd (false≢true t)
  given_after (name.Body i) (cell.Body b) t = ap (option_map cell.Body) (has_after i ∙ ap (λ o. option_or o (bot_at c i)) (first_is i b t))

  kept_after : (n : CellName) → All (λ (p : CellName × Cell). cell_of p ≢ n) ps → value (after c ps) n ≡ value c n
  kept_after (name.Spot v) none = ap (λ q. Some (cell.Spot q)) (occupants_after v ∙ ap (λ s. unwrap_or s (occupant c v)) (spot_unnamed ps v none))
  kept_after (name.Body i) none = ap (option_map cell.Body) (has_after i ∙ ap (λ o. option_or o (bot_at c i)) (body_unnamed ps i none))

  ids_after : (i : ℕ) → is_some (bot_at (after c ps) i) ≡ is_some (bot_at c i)
  ids_after i = ap is_some (has_after i) ∙ (elim (body_in ps i) as (λ o. body_in ps i ≡ o → is_some (option_or o (bot_at c i)) ≡ is_some (bot_at c i)) [
    | None ↦ λ e. refl
    | Some b ↦ λ e. sym (there_before i b e)
  ] refl)

  leads_after : IsPatched c ps (after c ps)
  leads_after = record {
    valid = valid_after;
    same = record { rest = refl; size = length-map-range_with_len (body_after c ps) 0 (length c.bots); ids = ids_after };
    given = All-from_Has (λ (p : CellName × Cell). value (after c ps) (cell_of p) ≡ Some (cell_value p)) ps (λ p has. given_after p.0 p.1 (does p has));
    kept = kept_after;
  }

-- all cells fit exactly where they lead to a configuration
pub fits_decide : (c : Config) (ps : Pairs) → IsValid c → Decides (all_fit c ps) (HasPatched c ps)
fits_decide c ps valid = (
  λ fits. (after c ps, leads_after c ps valid fits),
  λ led. all_pass (λ (p : CellName × Cell). cell_fits c ps (cell_of p) (cell_value p)) ps (λ p has. cell_does c led.0 ps led.1 p.0 p.1 has),
)

-- so they lead to one or to none
pub patched_or_not : (c : Config) (ps : Pairs) → IsValid c → HasPatched c ps ⊎ (HasPatched c ps → ⊥)
patched_or_not c ps valid = elim (cases_Bool (all_fit c ps)) [
  | inl t ↦ inl ((fits_decide c ps valid).0 t)
  | inr f ↦ inr (λ led. both_ways _ f ((fits_decide c ps valid).1 led))
]

-- ---- whether cells have their values

has_cell-true : (c : Config) (n : CellName) (x : Cell) → has_cell c n x ≡ true → value c n ≡ Some x
has_cell-true c (name.Spot v) (cell.Spot o) t = ap (λ q. Some (cell.Spot q)) (id_eq-true _ _ t)
has_cell-true c (name.Spot v) (cell.Body b) t = absurd (false≢true t)
has_cell-true c (name.Body i) (cell.Spot o) t = absurd (false≢true t)
has_cell-true c (name.Body i) (cell.Body b) t = ap (option_map cell.Body) (has_bot-true (bot_at c i) b t)

cell_had : (c : Config) (n : CellName) (x : Cell) → value c n ≡ Some x → has_cell c n x ≡ true
cell_had c (name.Spot v) (cell.Spot o) e = id_same _ _ (spot_held _ _ e)
cell_had c (name.Spot v) (cell.Body b) e = absurd (no_body_held (occupant c v) b e)
cell_had c (name.Body i) (cell.Spot o) e = absurd (no_spot_held (bot_at c i) o e)
cell_had c (name.Body i) (cell.Body b) e =
    let held = body_held (bot_at c i) (cell.Body b) e in
    let same : held.0 ≡ b = (let f = held.2 in cc) in
    bot_there (bot_at c i) b (held.1 ∙ ap Some same)

pub cells_decide : (c : Config) (ps : Pairs) → Decides (have_cells c ps) (All (λ (p : CellName × Cell). value c (cell_of p) ≡ Some (cell_value p)) ps)
cells_decide c ps =
    let Found : CellName × Cell → Type 0 = λ p. value c (cell_of p) ≡ Some (cell_value p) in
    let test : CellName × Cell → Bool = λ p. has_cell c (cell_of p) (cell_value p) in (
      λ t. All-from_Has Found ps (λ p has. has_cell-true c p.0 p.1 (each_passes test ps t p has)),
      λ all. all_pass test ps (λ p has. cell_had c p.0 p.1 (All-at Found ps all has)),
    )

-- they have or they have not
pub cells_or_not : (c : Config) (ps : Pairs) → All (λ (p : CellName × Cell). value c (cell_of p) ≡ Some (cell_value p)) ps ⊎ (All (λ (p : CellName × Cell). value c (cell_of p) ≡ Some (cell_value p)) ps → ⊥)
cells_or_not c ps = elim (cases_Bool (have_cells c ps)) [
  | inl t ↦ inl ((cells_decide c ps).0 t)
  | inr f ↦ inr (λ all. both_ways _ f ((cells_decide c ps).1 all))
]
