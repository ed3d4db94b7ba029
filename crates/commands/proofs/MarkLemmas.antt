-- The marks of a good report break no limit.
use Rattle.std.proofs.Common.{◌≡◌, ◌≢◌, ℕ, ◌<◌, ◌≤◌, false, List, [], filter, length, map, get_or, take, Some, None, refl, sym, ap, subst, ◌∙◌, inl, inr, arith}
use Rattle.std.specs.Prelude.{slice_get, slice_index}
use Rattle.std.specs.List.{All}
use Rattle.std.proofs.lemmas.Bool.{cases_lt}
use Rattle.std.proofs.lemmas.Option.{slice_get_within, slice_get-get_or}
use Rattle.std.proofs.lemmas.List.{get_or_default, get_or_past}
use Rattle.std.proofs.lemmas.List.Elements.{All-contains}
use Rattle.amoebot_state.specs.declared.bot.Bot.{Bot}
use Rattle.amoebot_state.specs.declared.cell.CellName.{CellName}
use Rattle.amoebot_state.specs.declared.cell.CellName.TheVariants as name
use Rattle.amoebot_state.specs.declared.verdict.Entry.{Entry}
use Rattle.amoebot_state.specs.declared.verdict.Failure.{Failure}
use Rattle.amoebot_state.specs.declared.verdict.Failure.TheVariants as failure
use Rattle.amoebot_state.specs.declared.verdict.Verdict.{Verdict}
use Rattle.amoebot_state.specs.declared.verdict.Verdict.TheVariants as verdict
use Rattle.amoebot_state.specs.Limits.{most_bots}
use Rattle.amoebot_state.specs.Configs.{Config, IsValid, bot_at, occupant}
use Rattle.amoebot_state.specs.Zones.{Shown, others, zone_nodes, zone_at, zone, shown, is_number_among}
use Rattle.amoebot_state.proofs.Members.{Has, not_in_none, has_cases, map_has, Has-append_cases, Contains-from_Has, Has-from_Contains}
use Rattle.amoebot_state.proofs.Occupants.{id_below}
use Rattle.amoebot_state.proofs.Once.{same_body, spot_is_no_body}
use Rattle.amoebot_state.proofs.Zones.{others_there, zone_is, zone_inside}
use Rattle.claim_core.specs.declared.marks.Mark.{Mark}
use Rattle.claim_core.specs.declared.marks.Mark.TheVariants as mark
use Rattle.claim_core.specs.Limits.{most_callers, most_turns}
use Rattle.claim_core.specs.Turns.{CallerLists, MarkLists, AreFew, HaveBots, bot_of_turn, list_of, marks_of}
use Rattle.amoebot_state.specs.Steps.{IsWorldAt}
use Rattle.claim_core.specs.Good.{HasVerdict, HasInZone, TurnOk, AllTurns, AreMarks}
use Rattle.text_tokens.specs.Cursor.{IsShort}
use Rattle.shape_text.specs.Parts.{may_have_walls}
use Rattle.journal_text.specs.Rereading.{IsWritableCell, IsWritableFailure, IsWritableMark, AreWritable}
use Rattle.shape_text.proofs.WithinLimits.{has_coordinates}
use Rattle.claim_core.proofs.Frames.{IsFramed, framed_on}
use Rattle.commands.proofs.Entries.{one_of_many}

-- ---- cells of zones

body_below : (c : Config) (i : ℕ) (b : Bot) (j : ℕ) → bot_at c i ≡ Some b → Has (name.Body j) (zone c i) → j < length c.bots
body_below c i b j at has = elim (has_cases (subst (Has (name.Body j)) (zone_is c i b at) has)) [
  | inl e ↦ subst (λ (k : ℕ). k < length c.bots) (sym (same_body j i e)) (id_below c i b at)
  | inr r ↦ elim (Has-append_cases (map name.Spot (zone_nodes c.area b)) r) [
    | inl s ↦ let found = map_has name.Spot (zone_nodes c.area b) s in absurd (spot_is_no_body found.0 j (sym found.2))
    | inr t ↦
        let ids = others (occupant c) i (zone_nodes c.area b) in
        let found = map_has name.Body ids t in
        subst (λ (k : ℕ). k < length c.bots) (sym (same_body j found.0 found.2))
        (All-contains (λ (k : ℕ). k < length c.bots) ids found.0 (others_there c i (zone_nodes c.area b)) (Contains-from_Has ids found.1))
  ]
]

cell_of_own : (c : Config) (i : ℕ) (b : Bot) (n : CellName) → IsValid c → length c.bots ≤ most_bots → bot_at c i ≡ Some b → Has n (zone c i) → IsWritableCell n
cell_of_own c i b (name.Spot v) valid few at has = has_coordinates c.area v valid.area (zone_inside c i b v valid at has)
cell_of_own c i b (name.Body j) valid few at has = let lt = body_below c i b j at has in omega arith

zone_cell : (c : Config) (i : ℕ) (n : CellName) → IsValid c → length c.bots ≤ most_bots → Has n (zone c i) → IsWritableCell n
zone_cell c i n valid few has = elim (bot_at c i) as (λ o. bot_at c i ≡ o → IsWritableCell n) [
  | None ↦ λ at. absurd (not_in_none (subst (Has n) (ap (zone_at c.area (occupant c) i) at) has))
  | Some b ↦ λ at. cell_of_own c i b n valid few at has
] refl

-- ---- amoebots of lists

id_short : (ids : List ℕ) (n bots : ℕ) → All (λ id. id < bots) ids → bots ≤ most_bots → IsShort (slice_index ids n)
id_short ids n bots all few = elim (cases_lt n (length ids)) [
  | inl lt ↦ let small = all n 0 lt in omega arith
  | inr le ↦ let none = get_or_past ids n 0 le in omega arith
]

-- ---- verdicts

-- where there is no wall, none is shown
none_shown : (c : Config) (i : ℕ) → c.walls ≡ [] → (shown c i).walls ≡ []
none_shown c i e = ap (filter (is_number_among c.area (shown c i).cells)) e

-- what f decides is blocked only where there is a wall
abbrev pub IsBlockedByWalls : (Shown → Verdict) → Type 0
IsBlockedByWalls f = (s : Shown) → f s ≡ verdict.Failed failure.Blocked → s.walls ≢ []

-- ---- marks

module _ (f : Shown → Verdict) (start : Config) (lists : CallerLists) (entries : List Entry) (marks : MarkLists) (is : IsFramed start start) (few : length start.bots ≤ most_bots) (bots : HaveBots (length start.bots) lists) (lists_few : AreFew (length lists.ids) lists.turns) (entries_few : length entries ≤ most_turns) where
  place_short : (place : ℕ) (world : Config) → IsWorldAt f start entries place world → IsShort place
  place_short place world at = let within = at.within in omega arith

  cell_short : (place bot : ℕ) (n : CellName) → HasInZone f start entries place bot n → IsWritableCell n
  cell_short place bot n (world, at, there) =
      let of = framed_on f start start world (take place entries) is at.reached in
      zone_cell world bot n of.valid (let size = of.same.size in omega arith) (Has-from_Contains (zone world bot) there)

  turns_few : (caller : ℕ) → caller < length lists.ids → lists.turns ≤ most_turns
  turns_few caller inside = one_of_many (length lists.ids) lists.turns (omega arith) lists_few.in_all

  by_short : (caller turn bot : ℕ) → caller < length lists.ids → bot ≡ bot_of_turn lists caller turn → IsShort bot
  by_short caller turn bot inside same = subst IsShort (sym same) (id_short (list_of lists caller) _ (length start.bots) (bots caller [] inside) few)

  -- a failure in a world of the run has a word in the version
  failure_fits : (version place bot : ℕ) (why : Failure) → HasVerdict f start entries place bot (verdict.Failed why) → IsBlockedByWalls f → (may_have_walls version ≡ false → start.walls ≡ []) → IsWritableFailure version why
  failure_fits version place bot why (world, at, decided) by_walls walls none e =
      let of = framed_on f start start world (take place entries) is at.reached in
      let open_world : world.walls ≡ [] = ap (λ (c : Config). c.walls) of.same.rest ∙ walls none in
      by_walls (shown world bot) (decided ∙ ap verdict.Failed e) (none_shown world bot open_world)

  module _ (version : ℕ) (by_walls : IsBlockedByWalls f) (walls : may_have_walls version ≡ false → start.walls ≡ []) where
    mark_short : (caller turn : ℕ) (m : Mark) → TurnOk f start lists entries marks caller turn m → IsWritableMark version m
    mark_short caller turn (mark.Done place) ok = let within = slice_get_within entries place ok.0 ok.1 in omega arith
    mark_short caller turn (mark.Idle place) ok = place_short place ok.0 ok.1
    mark_short caller turn (mark.Failed why place) ok = (place_short place ok.0 ok.1, failure_fits version place (bot_of_turn lists caller turn) why ok by_walls walls)
    mark_short caller turn (mark.Busy n by_caller by_turn by_bot place) ok =
        let held = ok.0 in
        let may = ok.1 in
        let turns = turns_few by_caller may.listed in
        let callers = lists_few.at_most_16 in
        let listed = may.listed in
        let its_turn = may.turn in
        record {
          cell = cell_short place (bot_of_turn lists caller turn) n held;
          caller = omega arith;
          turn = omega arith;
          bot = by_short by_caller by_turn by_bot may.listed may.bot;
          at = place_short place held.0 held.1;
        }

    module _ (are : AreMarks AllTurns f start lists entries marks) where
      own_writable : (caller : ℕ) (own : List Mark) → caller < length lists.ids → length own ≡ lists.turns → marks_of marks caller ≡ own → AreWritable version own
      own_writable caller own inside long is_own =
          let turns = turns_few caller inside in
          record {
            few = omega arith;
            each = λ j e within. mark_short caller j (get_or own j e) (are.right caller j (get_or own j e) (ap (λ (ms : List Mark). slice_get ms j) is_own ∙ slice_get-get_or own j e within));
          }

      pub marks_writable : All (AreWritable version) marks.marks
      marks_writable k d inside = own_writable k (get_or marks.marks k d) (let callers = are.callers in omega arith) (are.turns k d inside) (get_or_default marks.marks k [] d inside)

  pub few_callers : AreMarks AllTurns f start lists entries marks → length marks.marks ≤ most_callers
  few_callers are = let callers = are.callers in let most = lists_few.at_most_16 in omega arith
