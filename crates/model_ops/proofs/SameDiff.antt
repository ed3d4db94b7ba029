-- The difference that an activation makes is exact, and is the same on each configuration that shows the same.
use Rattle.std.proofs.Common.{◌≡◌, ◌≢◌, ◌≤◌, ◌+◌, ◌*◌, ℕ, zero, suc, List, [], ◌∷◌, ◌++◌, length, map, ap, sym, ◌∙◌, refl, subst, inl, inr, arith, Option, Some, None}
use Rattle.std.specs.Prelude.{is_some, IsSome, unwrap_or, if◌then◌else◌}
use Rattle.std.specs.Option.{option_map}
use Rattle.std.specs.List.{All, Contains, filter_map, cons_option, range_with_len}
use Rattle.std.proofs.lemmas.List.{get_or_past}
use Rattle.std.proofs.lemmas.List.Elements.{filter_map-append, All-contains}
use Rattle.tri_lattice.specs.declared.node.Node.{Node}
use Rattle.tri_lattice.specs.Extent.{Extent, node_at}
use Rattle.tri_lattice.proofs.Nodes.{cases_node}
use Rattle.amoebot_state.specs.declared.cell.CellName.{CellName}
use Rattle.amoebot_state.specs.declared.cell.CellName.TheVariants as name
use Rattle.amoebot_state.specs.declared.cell.Cell.{Cell}
use Rattle.amoebot_state.specs.declared.cell.Cell.TheVariants as cell
use Rattle.amoebot_state.specs.Pairs.{Pairs, cell_of, cell_value, plain_patch}
use Rattle.amoebot_state.specs.Configs.{Config, IsValid, bot_at, bot_of, value}
use Rattle.amoebot_state.specs.Zones.{zone, zone_nodes, shown, shown_alone}
use Rattle.amoebot_state.specs.Patches.{IsOrdered, IsPatched, with_old, plain_diff, diff, changed, same_value}
use Rattle.amoebot_state.proofs.Members.{Has, here, later, All-from_Has, Contains-from_Has, Has-from_Contains, filter_map-same}
use Rattle.amoebot_state.proofs.Differences.{plain_leads}
use Rattle.amoebot_state.proofs.OldValues.{plain_is, old_of_diff}
use Rattle.amoebot_state.proofs.ShownAlone.{alone_has}
use Rattle.amoebot_state.proofs.Zones.{spot_node, spot_in_zone}
use Rattle.amoebot_state.proofs.Options.{none_if}
use Rattle.model_ops.specs.Reaches.{perform}
use Rattle.model_ops.specs.Laws.{KeepsRest, ReachedDiffIsExact, ReachedLeadsAlso}
use Rattle.model_ops.proofs.Alike.{ok_alike}
use Rattle.model_ops.proofs.KeepsRest.{performed, keeps_rest, own_there}
use Rattle.model_ops.proofs.Cells.{has_or_not, unchanged}
use Rattle.model_ops.proofs.RisingRanks.{is_ordered}
use Rattle.model_ops.proofs.AgreesAfter.{SameOn, writes_agree, move_same, same_on}
use Rattle.model_ops.proofs.ShownAlike.{Seen, IsShownBot, agrees_at_first, acts_alike, same_area}

-- the difference leads to what was reached, and lists what differs
leads : (c d : Config) (i : ℕ) → IsValid c → KeepsRest c i d → IsPatched c (plain_diff c d) d × All (λ (p : CellName × Cell). value c (cell_of p) ≢ Some (cell_value p)) (plain_diff c d)
leads c d i valid keeps = plain_leads c d valid keeps.valid keeps.same

-- a pair of the difference
listed : (c d : Config) (i : ℕ) → IsValid c → KeepsRest c i d → (p : CellName × Cell) → Has p (plain_diff c d) → value d (cell_of p) ≢ value c (cell_of p)
listed c d i valid keeps p has same =
    let (patched, differs) = leads c d i valid keeps in
    let in' = Contains-from_Has (plain_diff c d) has in
    All-contains (λ (q : CellName × Cell). value c (cell_of q) ≢ Some (cell_value q)) (plain_diff c d) p differs in' (sym same ∙ All-contains (λ (q : CellName × Cell). value d (cell_of q) ≡ Some (cell_value q)) (plain_diff c d) p patched.given in')

pub reached_diff_is_exact : ReachedDiffIsExact
reached_diff_is_exact c i d valid there (acts, e) =
    let done = performed c i acts d valid (own_there c i there) e in
    let keeps = keeps_rest c i acts d done in
    let node = done.moves.node in
    let one : (p : CellName × Cell) (v : Node) → Has p (plain_diff c d) → cell_of p ≡ name.Spot v → v ≡ node = λ p v has is. elim (cases_node v node) [
      | inl same ↦ same
      | inr ne ↦ absurd (listed c d i valid keeps p has (ap (value d) is ∙ ap (λ o. Some (cell.Spot o)) (done.moves.spots v ne ∙ done.writes.spots v) ∙ sym (ap (value c) is)))
    ] in
    let Differs : CellName × Cell → Type 0 = λ p. value c (cell_of p) ≢ Some (cell_value p) in
    let Listed : CellName × Cell → Type 0 = λ p. Contains (zone c i) (cell_of p) in
    let back = sym (plain_is c d) in
    record {
      ordered = subst IsOrdered back (is_ordered c d node one);
      differs = subst (All Differs) back (leads c d i valid keeps).1;
      listed = subst (All Listed) back (All-from_Has Listed (plain_diff c d) (λ p has. elim (has_or_not (cell_of p) (zone c i)) [
        | inl in' ↦ Contains-from_Has (zone c i) in'
        | inr out ↦ absurd (listed c d i valid keeps p has (keeps_out c d i keeps (cell_of p) out))
      ]));
      found = old_of_diff c d keeps.same;
    }
  where
    keeps_out : (c d : Config) (i : ℕ) → KeepsRest c i d → (n : CellName) → (Has n (zone c i) → ⊥) → value d n ≡ value c n
    keeps_out c d i keeps n out = keeps.beyond n (λ has. out (Has-from_Contains (zone c i) has))

-- numbers past which nothing is given may be left out
none_of_range : {Y : Type 0} (h : ℕ → Option Y) (a n : ℕ) → ((j : ℕ) → a ≤ j → h j ≡ None) → filter_map h (range_with_len a n) ≡ []
none_of_range h a zero none = refl
none_of_range h a (suc n) none = ap (λ o. cons_option o (filter_map h (range_with_len (a + 1) n))) (none a (omega arith)) ∙ none_of_range h (a + 1) n (λ j low. none j (omega arith))

same_range : {Y : Type 0} (h : ℕ → Option Y) (a n m : ℕ) → ((j : ℕ) → a + n ≤ j → h j ≡ None) → ((j : ℕ) → a + m ≤ j → h j ≡ None) → filter_map h (range_with_len a n) ≡ filter_map h (range_with_len a m)
same_range h a zero m low high = sym (none_of_range h a m (λ j le. low j (omega arith)))
same_range h a (suc n) zero low high = none_of_range h a (suc n) (λ j le. high j (omega arith))
same_range h a (suc n) (suc m) low high = ap (cons_option (h a)) (same_range h (a + 1) n m (λ j le. low j (omega arith)) (λ j le. high j (omega arith)))

filter_map_map : {X Y Z : Type 0} (h : Y → Option Z) (f : X → Y) (xs : List X) → filter_map h (map f xs) ≡ filter_map (λ x. h (f x)) xs
filter_map_map h f [] = refl
filter_map_map h f (x ∷ xs) = ap (cons_option (h (f x))) (filter_map_map h f xs)

-- functions that are alike on the elements give the same
map-same : {X Y : Type 0} (g h : X → Y) (xs : List X) → ((x : X) → Has x xs → g x ≡ h x) → map g xs ≡ map h xs
map-same g h [] alike = refl
map-same g h (x ∷ xs) alike = λ i. alike x here i ∷ map-same g h xs (λ y has. alike y (later has)) i

-- differences in which each cell changed alike are the same
same_diff : (c c' d d' : Config) → d.area ≡ c.area → length c'.bots ≡ length c.bots → length d'.bots ≡ length d.bots → ((n : CellName) → changed d d' n ≡ changed c c' n) → plain_diff d d' ≡ plain_diff c c'
same_diff c c' d d' area size_c size_d alike =
    let h = changed c c' in
    let spots : Extent → List CellName = λ a. map (λ k. name.Spot (node_at a k)) (range_with_len 0 (a.w * a.h)) in
    let bodies : ℕ → List CellName = λ n. map name.Body (range_with_len 0 n) in
    let past : (x x' : Config) → length x'.bots ≡ length x.bots → (j : ℕ) → length x.bots ≤ j → changed x x' (name.Body j) ≡ None = λ x x' size j le.
    unchanged x x' (name.Body j) (ap (option_map cell.Body) (get_or_past x'.bots j None (omega arith) ∙ sym (get_or_past x.bots j None (omega arith)))) in
    filter_map-same (changed d d') h (spots d.area ++ bodies (length d.bots)) (λ n has. alike n)
    ∙ filter_map-append h (spots d.area) (bodies (length d.bots))
    ∙ ap (λ a. filter_map h (spots a) ++ filter_map h (bodies (length d.bots))) area
    ∙ ap (λ xs. filter_map h (spots c.area) ++ xs) (
    filter_map_map h name.Body (range_with_len 0 (length d.bots))
    ∙ same_range (λ j. h (name.Body j)) 0 (length d.bots) (length c.bots) (λ j le. sym (alike (name.Body j)) ∙ past d d' size_d j (omega (arith, le))) (λ j le. past c c' size_c j (omega (arith, le)))
    ∙ sym (filter_map_map h name.Body (range_with_len 0 (length c.bots))))
    ∙ sym (filter_map-append h (spots c.area) (bodies (length c.bots)))

-- an amoebot that is not shown does not change
unshown_stays : (c c' : Config) (i j : ℕ) → KeepsRest c i c' → bot_at (shown_alone (shown c i)) j ≡ None → value c' (name.Body j) ≡ value c (name.Body j)
unshown_stays c c' i j keeps none = elim (has_or_not (name.Body j) (zone c i)) [
  | inl has ↦
      let gone : bot_at c j ≡ None = sym (alone_has c i j has) ∙ none in
      ap (option_map cell.Body) (none_if (bot_at c' j) (keeps.same.ids j ∙ ap is_some gone) ∙ sym gone)
  | inr out ↦ keeps.beyond (name.Body j) (λ has. out (Has-from_Contains (zone c i) has))
]

module _ (c c' d d' : Config) (i : ℕ) (valid : IsValid c) (valid_too : IsValid d) (has : IsSome (bot_at c i)) (same : shown d i ≡ shown c i) (keeps : KeepsRest c i c') (keeps_too : KeepsRest d i d') (after : SameOn (Seen c i) (IsShownBot c i) c' d') where
  agree : SameOn (Seen c i) (IsShownBot c i) c d
  agree = same_on (Seen c i) (IsShownBot c i) i c d (agrees_at_first c d i valid valid_too has same)

  at : bot_at c i ≡ Some (bot_of c i)
  at = own_there c i has

  own_too : bot_at d i ≡ Some (bot_of c i)
  own_too = agree.bots i (agrees_at_first c d i valid valid_too has same).own ∙ at

  -- a cell that holds the same in both, before and after, changed alike
  same_values : (n : CellName) → value d n ≡ value c n → value d' n ≡ value c' n → changed d d' n ≡ changed c c' n
  same_values n e e' = λ t. if same_value (e t) (e' t) then None else option_map (λ x. (n, x)) (e' t)

  -- and so did one that changed in neither
  both_stay : (n : CellName) → value c' n ≡ value c n → value d' n ≡ value d n → changed d d' n ≡ changed c c' n
  both_stay n stays stays_too = unchanged d d' n stays_too ∙ sym (unchanged c c' n stays)

  -- a node of d's zone is one of c's
  spot_too : (v : Node) → Has (name.Spot v) (zone d i) → Has (name.Spot v) (zone c i)
  spot_too v listed = spot_in_zone c i (bot_of c i) v at (subst (λ (a : Extent). Has v (zone_nodes a (bot_of c i))) (same_area c d i valid valid_too has same) (spot_node d i (bot_of c i) v own_too listed))

  changed_alike : (n : CellName) → changed d d' n ≡ changed c c' n
  changed_alike (name.Spot v) = elim (has_or_not (name.Spot v) (zone c i)) [
    | inl listed ↦
        let seen : Seen c i v = λ _. spot_node c i (bot_of c i) v at listed in
        same_values (name.Spot v) (ap (λ o. Some (cell.Spot o)) (agree.spots v seen)) (ap (λ o. Some (cell.Spot o)) (after.spots v seen))
    | inr out ↦ both_stay (name.Spot v) (keeps.beyond (name.Spot v) (λ h. out (Has-from_Contains (zone c i) h))) (keeps_too.beyond (name.Spot v) (λ h. out (spot_too v (Has-from_Contains (zone d i) h))))
  ]
  changed_alike (name.Body j) = elim (bot_at (shown_alone (shown c i)) j) as (λ o. bot_at (shown_alone (shown c i)) j ≡ o → changed d d' (name.Body j) ≡ changed c c' (name.Body j)) [
    | None ↦ λ e. both_stay (name.Body j) (unshown_stays c c' i j keeps e) (unshown_stays d d' i j keeps_too (ap (λ s. bot_at (shown_alone s) j) same ∙ e))
    | Some b ↦ λ e. let shown : IsShownBot c i j = ap is_some e in same_values (name.Body j) (ap (option_map cell.Body) (agree.bots j shown)) (ap (option_map cell.Body) (after.bots j shown))
  ] refl

  plain_alike : plain_diff d d' ≡ plain_diff c c'
  plain_alike = same_diff c c' d d' (same_area c d i valid valid_too has same) keeps.same.size keeps_too.same.size changed_alike

  -- a cell that changed held the same in both
  old_alike : (n : CellName) → value c' n ≢ value c n → value d n ≡ value c n
  old_alike (name.Spot v) differs = elim (has_or_not (name.Spot v) (zone c i)) [
    | inl listed ↦ ap (λ o. Some (cell.Spot o)) (agree.spots v (λ _. spot_node c i (bot_of c i) v at listed))
    | inr out ↦ absurd (differs (keeps.beyond (name.Spot v) (λ h. out (Has-from_Contains (zone c i) h))))
  ]
  old_alike (name.Body j) differs = elim (bot_at (shown_alone (shown c i)) j) as (λ o. bot_at (shown_alone (shown c i)) j ≡ o → value d (name.Body j) ≡ value c (name.Body j)) [
    | None ↦ λ e. absurd (differs (unshown_stays c c' i j keeps e))
    | Some b ↦ λ e. ap (option_map cell.Body) (agree.bots j (ap is_some e))
  ] refl

  pub diff_alike : diff d d' ≡ diff c c'
  diff_alike =
      ap (map (with_old d)) plain_alike
      ∙ map-same (with_old d) (with_old c) (plain_diff c c') (λ p has. ap (λ o. (cell_of p, unwrap_or o (cell_value p), cell_value p)) (old_alike (cell_of p) (listed c c' i valid keeps p has)))

pub reached_leads_also : ReachedLeadsAlso
reached_leads_also c d i acts to valid valid_too has same e =
    let V = Seen c i in
    let B = IsShownBot c i in
    let agree = agrees_at_first c d i valid valid_too has same in
    let (d', f) = ok_alike (perform d i acts) (perform c i acts) to (acts_alike V B i c d agree acts) e in
    let one = performed c i acts to valid agree.there e in
    let two = performed d i acts d' valid_too agree.there_too f in
    let keeps = keeps_rest c i acts to one in
    let keeps_too = keeps_rest d i acts d' two in
    let between = writes_agree V B i c d agree acts.writes one.between two.between one.written two.written in
    let after = move_same V B i one.between two.between between acts.guard acts.moved to d' one.moved two.moved in
    let is = diff_alike c to d d' i valid valid_too has same keeps keeps_too after in
    let P : Pairs → Type 0 = λ ps. IsPatched d ps d' in
    record { reached = d'; performed = f; patched = subst P (sym (plain_is d d') ∙ ap plain_patch is) (leads d d' i valid_too keeps_too).0; same = is }
