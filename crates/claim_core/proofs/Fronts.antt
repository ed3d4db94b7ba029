-- Fronts of zones: what is next, that no cell comes twice, and that a front stays one where what it holds stays.
use Rattle.std.proofs.Common.{◌≡◌, ◌≢◌, ℕ, ◌<◌, List, [], ◌∷◌, ◌++◌, map, reverse, length, Some, None, inl, inr, ap, sym, refl, subst, ◌∙◌, arith, length-append}
use Rattle.std.specs.Prelude.{slice_get, IsSome, unwrap_or}
use Rattle.std.specs.List.{All, AllPairs, Contains, filter_map, cons_option}
use Rattle.std.specs.Option.{option_map}
use Rattle.std.proofs.lemmas.List.{append-nil, append_assoc, reverse-append, map-append, length-map, length-reverse, get_or_at, get_or_append_left}
use Rattle.std.proofs.lemmas.List.Elements.{filter_map-append, All-head, All-tail, All-push}
use Rattle.std.proofs.lemmas.Option.{same_Some, none-some}
use Rattle.amoebot_state.specs.declared.bot.Bot.{Bot}
use Rattle.amoebot_state.specs.declared.cell.CellName.{CellName}
use Rattle.amoebot_state.specs.declared.cell.CellName.TheVariants as name
use Rattle.amoebot_state.specs.declared.cell.Cell.{Cell}
use Rattle.amoebot_state.specs.declared.cell.Cell.TheVariants as cell
use Rattle.amoebot_state.specs.Pairs.{Pairs, cell_of, cell_value}
use Rattle.amoebot_state.specs.Configs.{Config, IsValid, bot_at, occupant, value}
use Rattle.amoebot_state.specs.Zones.{shown_with, shown, shown_cell, zone, zone_nodes, others}
use Rattle.amoebot_state.proofs.Members.{Has, has_cases, map_has, Has-map, not_in_none, Has-append_cases, Has-append_left, Has-append_right, here, later, Contains-from_Has}
use Rattle.amoebot_state.proofs.Once.{zone_lists_each_cell_once}
use Rattle.amoebot_state.proofs.Fronts.{front_of_append}
use Rattle.amoebot_state.proofs.Zones.{zone_is, others_occupy}
use Rattle.amoebot_state.proofs.Known.{next_is_in_zone}
use Rattle.amoebot_state.proofs.Occupants.{occupant_covers}
use Rattle.amoebot_state.proofs.Owns.{covered}
use Rattle.amoebot_state.specs.Known.{IsFront, AreReadInOrder, next_cell}
use Rattle.amoebot_state.proofs.Options.{there_is}
use Rattle.claim_core.specs.Cells.{held_by}
use Rattle.claim_core.specs.Soundness.{names}
use Rattle.claim_core.proofs.Places.{get-append_right}

-- one more cell is the last one in the order won
pub reverse-more : {A : Type 0} (x : A) (xs : List A) → reverse (x ∷ xs) ≡ reverse xs ++ x ∷ []
reverse-more x xs = reverse-append (x ∷ []) xs

pub names-more : (p : CellName × Cell) (held : Pairs) → names (p ∷ held) ≡ names held ++ cell_of p ∷ []
names-more p held = ap (map cell_of) (reverse-more p held) ∙ map-append cell_of (reverse held) (p ∷ [])

pub length-names : (held : Pairs) → length (names held) ≡ length held
length-names held = length-map (reverse held) cell_of ∙ length-reverse held

pub All-reverse : {A : Type 0} (P : A → Type 0) (xs : List A) → All P xs → All P (reverse xs)
All-reverse P [] all = all
All-reverse P (x ∷ xs) all = subst (All P) (sym (reverse-more x xs)) (All-push P (reverse xs) x (All-reverse P xs (All-tail P x xs all)) (All-head P x xs all))

-- a cell that is held is one of the names
pub name_of_held : (n : CellName) (held : Pairs) → Has n (names held) → (p : CellName × Cell) × Has p held × (n ≡ cell_of p)
name_of_held n held has = let found = map_has cell_of (reverse held) has in (found.0, reversed held found.0 found.1, found.2)
  where
    reversed : (xs : Pairs) (p : CellName × Cell) → Has p (reverse xs) → Has p xs
    reversed [] p h = h
    reversed (x ∷ xs) p h = elim (Has-append_cases (reverse xs) (subst (Has p) (reverse-more x xs) h)) [
      | inl r ↦ later (reversed xs p r)
      | inr r ↦ elim (has_cases r) [ inl e ↦ subst (λ q. Has q (x ∷ xs)) (sym e) here | inr none ↦ absurd (not_in_none none) ]
    ]

-- and the other way round
pub held_named : (held : Pairs) (p : CellName × Cell) → Has p held → Contains (names held) (cell_of p)
held_named held p has = Contains-from_Has (names held) (Has-map cell_of (turned held p has))
  where
    turned : (xs : Pairs) (q : CellName × Cell) → Has q xs → Has q (reverse xs)
    turned [] q h = h
    turned (x ∷ xs) q h = subst (Has q) (sym (reverse-more x xs)) (elim (has_cases h) [
      | inl e ↦ Has-append_right (reverse xs) (subst (λ r. Has r (x ∷ [])) (sym e) here)
      | inr r ↦ Has-append_left (x ∷ []) (turned xs q r)
    ])

-- a cell behind a front is none of the front's
pub not_twice : (c : Config) (i : ℕ) (front rest : List CellName) (n : CellName) → front ++ n ∷ rest ≡ zone c i → Contains front n → ⊥
not_twice c i front rest n is has =
    let at : has.0 < length (front ++ n ∷ rest) = omega (arith, has.1, length-append front (n ∷ rest)) in
    let end : length front < length (front ++ n ∷ rest) = omega (arith, length-append front (n ∷ rest)) in
    let once = subst (AllPairs (λ x y. x ≢ y)) (sym is) (zone_lists_each_cell_once c i) in
    once has.0 (length front) n has.1 end (get_or_append_left front (n ∷ rest) n has.0 has.1 ∙ has.2 ∙ sym (get_or_at front n rest n (length front) refl))

-- each cell of a zone has a value
pub zone_value : (c : Config) (i : ℕ) (n : CellName) → IsValid c → IsSome (bot_at c i) → Has n (zone c i) → value c n ≡ Some (held_by c n)
zone_value c i (name.Spot v) valid there has = refl
zone_value c i (name.Body j) valid there has =
    let own = there_is (bot_at c i) there in
    let vs = zone_nodes c.area own.0 in
    elim (has_cases (subst (Has (name.Body j)) (zone_is c i own.0 own.1) has)) [
      | inl e ↦ let same : j ≡ i = cc in body j own.0 (ap (bot_at c) same ∙ own.1)
      | inr behind ↦ elim (Has-append_cases (map name.Spot vs) behind) [
        | inl spot ↦ let found = map_has name.Spot vs spot in absurd (cc (found.2))
        | inr other ↦
            let found = map_has name.Body (others (occupant c) i vs) other in
            let same : j ≡ found.0 = let e = found.2 in cc in
            let by = others_occupy (occupant c) i vs found.0 found.1 in
            let is = covered (bot_at c found.0) by.0 (occupant_covers c by.0 found.0 by.2) in
            body j is.0 (ap (bot_at c) same ∙ is.1)
      ]
    ]
  where
    body : (k : ℕ) (b : Bot) → bot_at c k ≡ Some b → value c (name.Body k) ≡ Some (held_by c (name.Body k))
    body k b e = ap (option_map cell.Body) e ∙ ap (λ o. Some (cell.Body (unwrap_or o Rattle.amoebot_state.specs.Configs.blank))) (sym e)

-- cells with what they hold are shown as they are
abbrev pub Valued : Config → CellName × Cell → Type 0
Valued c p = value c (cell_of p) ≡ Some (cell_value p)

shown_as : (c : Config) (ps : Pairs) → All (Valued c) ps → filter_map (shown_cell c) (map cell_of ps) ≡ ps
shown_as c [] all = refl
shown_as c (p ∷ ps) all =
    ap (λ o. cons_option (option_map (λ x. (cell_of p, x)) o) (filter_map (shown_cell c) (map cell_of ps))) (All-head (Valued c) p ps all)
    ∙ ap (λ qs. p ∷ qs) (shown_as c ps (All-tail (Valued c) p ps all))

-- a whole zone, with what its cells hold, is what is shown
pub whole_shown : (c : Config) (i : ℕ) (held : Pairs) → All (Valued c) held → names held ≡ zone c i → shown c i ≡ shown_with c i (reverse held)
whole_shown c i held valued whole =
    ap (shown_with c i) (ap (filter_map (shown_cell c)) (sym whole) ∙ shown_as c (reverse held) (All-reverse (Valued c) held valued))

-- the next cell is the zone's
pub next_is : (c : Config) (i : ℕ) (held : Pairs) (rest : List CellName) → IsSome (bot_at c i) → All (Valued c) held → names held ++ rest ≡ zone c i → next_cell c.area i (reverse held) ≡ slice_get rest 0
next_is c i held rest there valued front =
    let all = All-reverse (Valued c) held valued in
    let cells : (shown c i).cells ≡ reverse held ++ filter_map (shown_cell c) rest =
    ap (filter_map (shown_cell c)) (sym front) ∙ filter_map-append (shown_cell c) (names held) rest ∙ ap (λ ps. ps ++ filter_map (shown_cell c) rest) (shown_as c (reverse held) all) in
    next_is_in_zone c i (reverse held) there (subst (IsFront (reverse held)) (sym cells) (front_of_append (reverse held) (filter_map (shown_cell c) rest)))
    ∙ ap (λ ns. slice_get ns (length (reverse held))) (sym front) ∙ get-append_right (names held) rest 0 (length (reverse held)) (omega (arith, length-map (reverse held) cell_of))

-- a front of the zone of one configuration is one of the other's zone, with the same next cell, where both hold the same in it
pub front_kept : (c d : Config) (i : ℕ) (held : Pairs) (rest : List CellName) → d.area ≡ c.area → IsSome (bot_at c i) → IsSome (bot_at d i) → All (Valued c) held → All (Valued d) held → names held ++ rest ≡ zone c i → (more : List CellName) × (names held ++ more ≡ zone d i) × (slice_get more 0 ≡ slice_get rest 0)
front_kept c d i held rest area tc td old new front =
    let again = grown held rest old new front in
    (again.0, again.1, sym (next_is d i held again.0 td new again.1) ∙ ap (λ a. next_cell a i (reverse held)) area ∙ next_is c i held rest tc old front)
  where
    -- the first element of a list
    first : (ns : List CellName) (n : CellName) → slice_get ns 0 ≡ Some n → (more : List CellName) × (ns ≡ n ∷ more)
    first [] n e = absurd (none-some n e)
    first (m ∷ ns) n e = (ns, ap (λ k. k ∷ ns) (same_Some m n e))

    grown : (ps : Pairs) (rest : List CellName) → All (Valued c) ps → All (Valued d) ps → names ps ++ rest ≡ zone c i → (more : List CellName) × (names ps ++ more ≡ zone d i)
    grown [] rest a b f = (zone d i, refl)
    grown (p ∷ ps) rest a b f =
        let before : names ps ++ cell_of p ∷ rest ≡ zone c i = sym (append_assoc (names ps) (cell_of p ∷ []) rest) ∙ ap (λ ns. ns ++ rest) (sym (names-more p ps)) ∙ f in
        let a' = All-tail (Valued c) p ps a in
        let b' = All-tail (Valued d) p ps b in
        let ih = grown ps (cell_of p ∷ rest) a' b' before in
        let next : slice_get ih.0 0 ≡ Some (cell_of p) = sym (next_is d i ps ih.0 td b' ih.1) ∙ ap (λ x. next_cell x i (reverse ps)) area ∙ next_is c i ps (cell_of p ∷ rest) tc a' before in
        let split = first ih.0 (cell_of p) next in
        (split.0, ap (λ ns. ns ++ split.0) (names-more p ps) ∙ append_assoc (names ps) (cell_of p ∷ []) split.0 ∙ ap (λ ns. names ps ++ ns) (sym split.1) ∙ ih.1)

-- a whole zone stays one
pub whole_kept : (c d : Config) (i : ℕ) (held : Pairs) → d.area ≡ c.area → IsSome (bot_at c i) → IsSome (bot_at d i) → All (Valued c) held → All (Valued d) held → names held ≡ zone c i → names held ≡ zone d i
whole_kept c d i held area tc td old new whole =
    let kept = front_kept c d i held [] area tc td old new (append-nil (names held) ∙ whole) in
    ends kept.0 kept.2 kept.1
  where
    ends : (more : List CellName) → slice_get more 0 ≡ None → names held ++ more ≡ zone d i → names held ≡ zone d i
    ends [] e f = sym (append-nil (names held)) ∙ f
    ends (n ∷ more) e f = absurd (none-some n (sym e))

-- cells with what they hold, whose names are a front of a zone, were read in order
pub in_order : (c : Config) (i : ℕ) (held : Pairs) (rest : List CellName) → IsValid c → IsSome (bot_at c i) → All (Valued c) held → names held ++ rest ≡ zone c i → AreReadInOrder c.area i (reverse held)
in_order c i held rest valid there valued front =
    let cells : (shown c i).cells ≡ reverse held ++ filter_map (shown_cell c) rest =
    ap (filter_map (shown_cell c)) (sym front) ∙ filter_map-append (shown_cell c) (names held) rest ∙ ap (λ ps. ps ++ filter_map (shown_cell c) rest) (shown_as c (reverse held) (All-reverse (Valued c) held valued)) in
    record { config = c; valid = valid; area = refl; there = there; front = subst (IsFront (reverse held)) (sym cells) (front_of_append (reverse held) (filter_map (shown_cell c) rest)) }
