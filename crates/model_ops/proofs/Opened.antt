-- The members that are gathered of what is shown make a site.
use Rattle.std.proofs.Common.{◌≡◌, ◌<◌, ◌≤◌, ◌+◌, take, drop, ℕ, List, [], ◌∷◌, ◌++◌, length, map, get_or, false, ap, sym, ◌∙◌, refl, subst, inl, inr, arith, Option, Some, None, nat_eq, filter}
use Rattle.std.specs.Prelude.{is_some}
use Rattle.std.specs.List.{filter_map}
use Rattle.std.specs.Option.{option_map}
use Rattle.std.proofs.lemmas.Bool.{cases_Bool, eqb-true}
use Rattle.std.proofs.lemmas.List.{append-nil, take-append-drop, take_more, length-append}
use Rattle.std.proofs.lemmas.List.Sums.{length-filter}
use Rattle.std.proofs.lemmas.List.Elements.{All-contains, filter_map-append}
use Rattle.std.proofs.lemmas.Option.{none-some, same_Some}
use Rattle.tri_lattice.specs.Extent.{Extent}
use Rattle.tri_lattice.specs.declared.node.Node.{Node}
use Rattle.amoebot_state.specs.declared.bot.Bot.{Bot}
use Rattle.amoebot_state.specs.declared.cell.CellName.{CellName}
use Rattle.amoebot_state.specs.declared.cell.CellName.TheVariants as name
use Rattle.amoebot_state.specs.declared.cell.Cell.{Cell}
use Rattle.amoebot_state.specs.declared.cell.Cell.TheVariants as cell
use Rattle.amoebot_state.specs.Configs.{Config, IsValid, frame, walled_frame, bot_at, occupant, value}
use Rattle.amoebot_state.specs.Walls.{node_numbers}
use Rattle.amoebot_state.specs.Laws.{is_body}
use Rattle.amoebot_state.specs.Refusals.{IsBotInRange}
use Rattle.amoebot_state.specs.Pairs.{Pairs, cell_of, cell_value}
use Rattle.amoebot_state.specs.Zones.{Shown, IsShown, shown, shown_alone, shown_cell, spread, with_id, zone, zone_at}
use Rattle.amoebot_state.proofs.Counts.{zone_has_at_most_nine_bodies}
use Rattle.amoebot_state.proofs.Known.{shown_lists_zone, shown_holds_values}
use Rattle.amoebot_state.proofs.ShownAlone.{alone_own, alone_shows}
use Rattle.amoebot_state.proofs.Members.{Has, here, later, Contains-from_Has, All-from_Has, filter_map_has}
use Rattle.amoebot_state.proofs.Occupants.{bot_in_range}
use Rattle.amoebot_state.proofs.Once.{Once, once_parts, zone_once}
use Rattle.amoebot_state.proofs.Options.{there_is}
use Rattle.model_ops.specs.declared.member.Member.{Member}
use Rattle.model_ops.specs.WorkingCopies.{WorkingCopy, opened}
use Rattle.model_ops.specs.Members.{AreApart, IsFirst, IsSite, body_found, body_now, config_found, config_now, copy_of, has_id, gathered, taken, unchanged}

-- the members hold the amoebots of the cells
spread_found : (cells : Pairs) → spread (map body_found (filter_map taken cells)) ≡ spread cells
spread_found [] = refl
spread_found ((name.Spot v, x) ∷ cells) = spread_found cells
spread_found ((name.Body i, cell.Spot o) ∷ cells) = spread_found cells
spread_found ((name.Body i, cell.Body b) ∷ cells) = ap (λ (os : List (Option Bot)). with_id os i b) (spread_found cells)

spread_now : (cells : Pairs) → spread (map body_now (filter_map taken cells)) ≡ spread cells
spread_now [] = refl
spread_now ((name.Spot v, x) ∷ cells) = spread_now cells
spread_now ((name.Body i, cell.Spot o) ∷ cells) = spread_now cells
spread_now ((name.Body i, cell.Body b) ∷ cells) = ap (λ (os : List (Option Bot)). with_id os i b) (spread_now cells)

-- an id that names no body of the cells is no member's
new_id : (cells : Pairs) (i : ℕ) → (Has (name.Body i) (map cell_of cells) → ⊥) → has_id (filter_map taken cells) i ≡ false
new_id [] i lacks = refl
new_id ((name.Spot v, x) ∷ cells) i lacks = new_id cells i (λ has. lacks (later has))
new_id ((name.Body j, cell.Spot o) ∷ cells) i lacks = new_id cells i (λ has. lacks (later has))
new_id ((name.Body j, cell.Body b) ∷ cells) i lacks = elim (cases_Bool (nat_eq j i)) [
  | inl t ↦ absurd (lacks (subst (λ k. Has (name.Body k) (name.Body j ∷ map cell_of cells)) (eqb-true j i t) here))
  | inr f ↦ rw f (new_id cells i (λ has. lacks (later has)))
]

apart_taken : (cells : Pairs) → Once (map cell_of cells) → AreApart (filter_map taken cells)
apart_taken [] once = tt
apart_taken ((name.Spot v, x) ∷ cells) once = apart_taken cells (once_parts once).1
apart_taken ((name.Body i, cell.Spot o) ∷ cells) once = apart_taken cells (once_parts once).1
apart_taken ((name.Body i, cell.Body b) ∷ cells) once = let parts = once_parts once in (new_id cells i parts.0, apart_taken cells parts.1)

-- they are no more than the bodies
length-taken-le : (cells : Pairs) → length (filter_map taken cells) ≤ length (filter is_body (map cell_of cells))
length-taken-le [] = omega arith
length-taken-le ((name.Spot v, x) ∷ cells) = length-taken-le cells
length-taken-le ((name.Body i, cell.Spot o) ∷ cells) = let rest = length-taken-le cells in omega arith
length-taken-le ((name.Body i, cell.Body b) ∷ cells) = let rest = length-taken-le cells in omega arith

-- what a member tells of the cell that it was taken of
taken_told : (p : CellName × Cell) (m : Member) → taken p ≡ Some m → (p ≡ body_found m) × (m.now ≡ m.found)
taken_told (name.Spot v, x) m e = absurd (none-some m e)
taken_told (name.Body i, cell.Spot o) m e = absurd (none-some m e)
taken_told (name.Body i, cell.Body b) m e =
    let P : Member → Type 0 = λ n. (body_found (unchanged i b) ≡ body_found n) × (n.now ≡ n.found) in
    subst P (same_Some (unchanged i b) m e) (refl, refl)

-- a node tells of no member
pub spot_taken : (p : CellName × Cell) (v : Node) → p.0 ≡ name.Spot v → taken p ≡ None
spot_taken p v e = ap (λ n. taken (n, p.1)) e

held : (o : Option Bot) (b : Bot) → option_map cell.Body o ≡ Some (cell.Body b) → o ≡ Some b
held None b e = absurd (none-some (cell.Body b) e)
held (Some a) b e = let same = same_Some (cell.Body a) (cell.Body b) e in cc

-- the members that are gathered of what a configuration shows
module _ (c : Config) (i : ℕ) (b : Bot) (valid : IsValid c) (at : bot_at c i ≡ Some b) where
  abbrev those : List Member
  those = gathered (shown c i)

  found_is : config_found (shown_alone (shown c i)) those ≡ shown_alone (shown c i)
  found_is =
      let made : List (Option Bot) → Config = λ os. record (shown_alone (shown c i)) { bots = os } in
      ap made (spread_found (shown c i).cells)

  now_is : config_now (shown_alone (shown c i)) those ≡ shown_alone (shown c i)
  now_is =
      let made : List (Option Bot) → Config = λ os. record (shown_alone (shown c i)) { bots = os } in
      ap made (spread_now (shown c i).cells)

  shows_is : shown (config_found (shown_alone (shown c i)) those) i ≡ shown c i
  shows_is = ap (λ (d : Config). shown d i) found_is ∙ alone_shows c i b valid at

  in_range : (m : Member) → Has m those → IsBotInRange m.now
  in_range m has =
      let (p, listed, e) = filter_map_has taken (shown c i).cells has in
      let told = taken_told p m e in
      let holds = All-contains (λ (q : CellName × Cell). value c (cell_of q) ≡ Some (cell_value q)) (shown c i).cells p (shown_holds_values c i) (Contains-from_Has (shown c i).cells listed) in
      let body : value c (name.Body m.id) ≡ Some (cell.Body m.found) = subst (λ (q : CellName × Cell). value c (cell_of q) ≡ Some (cell_value q)) told.0 holds in
      subst IsBotInRange (sym told.1) (bot_in_range c valid m.id m.found (held (bot_at c m.id) m.found body))

  -- the own body is the first cell
  own_first : IsFirst i (filter_map taken (filter_map (shown_cell c) (zone_at c.area (occupant c) i (Some b))))
  own_first = rw at refl

  first : IsFirst i those
  first =
      subst (λ (o : Option Bot). IsFirst i (filter_map taken (filter_map (shown_cell c) (zone_at c.area (occupant c) i o)))) (sym at) own_first

  pub site_gathered : IsSite (frame (shown_alone (shown c i))) i those
  site_gathered = record {
    apart = apart_taken (shown c i).cells (subst Once (sym (shown_lists_zone c i)) (zone_once c i));
    first = first;
    in_range = All-from_Has (λ (m : Member). IsBotInRange m.now) those in_range;
    there = ap (λ (d : Config). is_some (bot_at d i)) now_is ∙ ap is_some (alone_own c i b at);
    few =
        let fit = length-taken-le (shown c i).cells in
        let listed = ap (λ ns. length (filter is_body ns)) (shown_lists_zone c i) in
        let nine = zone_has_at_most_nine_bodies c i valid in
        let counted = length-filter is_body (zone c i) in
        omega arith;
    was_shown = (c, valid, ap is_some at, sym shows_is);
    whole = ap shown_alone shows_is ∙ sym found_is;
  }

  pub copy_gathered : copy_of (frame (shown_alone (shown c i))) i those ≡ opened (shown c i)
  copy_gathered =
      let made : Shown → Config → WorkingCopy = λ s d. record { found = s; reached = d } in
      ap (λ s. made s (config_now (shown_alone (shown c i)) those)) shows_is ∙ ap (made (shown c i)) now_is

-- what is gathered of what is shown
pub shown_opens : (s : Shown) → IsShown s → IsSite (frame (shown_alone s)) s.bot (gathered s) × (copy_of (frame (shown_alone s)) s.bot (gathered s) ≡ opened s)
shown_opens s is =
    let c = is.0 in
    let i = s.bot in
    let b = there_is (bot_at c i) is.2 in
    let P : Shown → Type 0 = λ t. IsSite (frame (shown_alone t)) i (gathered t) × (copy_of (frame (shown_alone t)) i (gathered t) ≡ opened t) in
    subst P is.3 (site_gathered c i b.0 is.1 b.1, copy_gathered c i b.0 is.1 b.1)

-- the same of fields that are equal to these
pub opens : (s : Shown) (a : Extent) (walls : List Node) (maxes : List ℕ) (i : ℕ) (ms : List Member) → IsShown s → a ≡ s.area → node_numbers s.area walls ≡ s.walls → maxes ≡ s.maxes → i ≡ s.bot → ms ≡ gathered s → IsSite (walled_frame a walls maxes) i ms × (copy_of (walled_frame a walls maxes) i ms ≡ opened s)
opens s a walls maxes i ms is ea ew em ei es =
    let P : Config × ℕ × List Member → Type 0 = λ f. IsSite f.0 f.1 f.2 × (copy_of f.0 f.1 f.2 ≡ opened s) in
    let same : walled_frame a walls maxes ≡ frame (shown_alone s) = λ t. record { area = ea t; walls = (ap (λ (x : Extent). node_numbers x walls) ea ∙ ew) t; maxes = em t; bots = [] } in
    subst P (λ t. (sym same t, sym ei t, sym es t)) (shown_opens s is)

-- one more cell tells of one more member, or of none
taken_more : (cells : Pairs) (k : ℕ) (d : CellName × Cell) → k < length cells → filter_map taken (take (k + 1) cells) ≡ filter_map taken (take k cells) ++ filter_map taken (get_or cells k d ∷ [])
taken_more cells k d lt = ap (filter_map taken) (take_more cells k d lt) ∙ filter_map-append taken (take k cells) (get_or cells k d ∷ [])

pub body_taken : (cells : Pairs) (k i : ℕ) (b : Bot) (d : CellName × Cell) → k < length cells → get_or cells k d ≡ (name.Body i, cell.Body b) → filter_map taken (take (k + 1) cells) ≡ filter_map taken (take k cells) ++ unchanged i b ∷ []
body_taken cells k i b d lt at = taken_more cells k d lt ∙ ap (λ p. filter_map taken (take k cells) ++ filter_map taken (p ∷ [])) at

pub none_taken : (cells : Pairs) (k : ℕ) (d : CellName × Cell) → k < length cells → taken (get_or cells k d) ≡ None → filter_map taken (take (k + 1) cells) ≡ filter_map taken (take k cells)
none_taken cells k d lt none =
    taken_more cells k d lt ∙ ap (λ ms. filter_map taken (take k cells) ++ ms) (gone (get_or cells k d) none) ∙ append-nil (filter_map taken (take k cells))
  where
    gone : (p : CellName × Cell) → taken p ≡ None → filter_map taken (p ∷ []) ≡ []
    gone p none = rw none refl

-- where a body comes next among the cells, there is room for one more member
pub room_left : (s : Shown) (k i : ℕ) (b : Bot) (d : CellName × Cell) → IsShown s → k < length s.cells → get_or s.cells k d ≡ (name.Body i, cell.Body b) → length (filter_map taken (take k s.cells)) < 9
room_left s k i b d is lt at =
    let rest = drop (k + 1) s.cells in
    let whole : gathered s ≡ filter_map taken (take (k + 1) s.cells) ++ filter_map taken rest = ap (filter_map taken) (sym (take-append-drop (k + 1) s.cells)) ∙ filter_map-append taken (take (k + 1) s.cells) rest in
    let next = body_taken s.cells k i b d lt at in
    omega (
      arith,
      (shown_opens s is).0.few,
      ap (λ (ms : List Member). length ms) whole,
      length-append (filter_map taken (take (k + 1) s.cells)) (filter_map taken rest),
      ap (λ (ms : List Member). length ms) next,
      length-append (filter_map taken (take k s.cells)) (unchanged i b ∷ []),
    )
