-- What a step leaves alone, and who holds nothing.
use Rattle.std.proofs.Common.{◌≡◌, length, ap, sym, ◌∙◌, arith}
use Rattle.std.specs.Prelude.{slice_get}
use Rattle.amoebot_state.specs.Pairs.{Pairs}
use Rattle.claim_core.specs.declared.state.Caller.{Caller}
use Rattle.claim_core.specs.Tags.{tag_caller}
use Rattle.claim_core.specs.Cells.{number, at}
use Rattle.claim_core.specs.Machine.{bot, own_tag, by_phase, acts, after}
use Rattle.claim_core.specs.Soundness.{names}
use Rattle.claim_core.specs.Laws.{TagTellsItsOwner, EndedStays, HoldsNothingHasNoTag, HeldByOne}
use Rattle.claim_core.proofs.Tags.{tag-parts, tag-positive}
use Rattle.claim_core.proofs.Places.{one_at}
use Rattle.claim_core.proofs.Frames.{own_small, turn_small}
use Rattle.claim_core.proofs.HolderLemmas.{is_known, active, has_tag, one_owner}
use Rattle.claim_core.proofs.Sounds.{always}

pub tag_tells_its_owner : TagTellsItsOwner
tag_tells_its_owner caller turn bot turns few = let parts = tag-parts caller turn bot few turns in (parts.0, parts.1, parts.2, tag-positive caller turn bot)

pub ended_stays : EndedStays
ended_stays g s c k there ended = ap (acts g c s) there ∙ ap (by_phase g c s k) ended

pub holds_nothing_has_no_tag : HoldsNothingHasNoTag
holds_nothing_has_no_tag g ok steps c k there nothing n t found some same =
    let s = after g steps in
    let sound = always g ok steps in
    let by = sound.owned n t found some in
    let d = by.0 in
    let j = by.1 in
    let is = sound.each d j by.2 in
    let known = is_known g ok s sound d j by.2 in
    let turns = active g ok s sound d j is n by.3 in
    let own : t ≡ own_tag g d j.turn = one_at (at s.tags (number g.world.area n)) t _ found (has_tag g ok s sound d j is n by.3) in
    let parts = tag-parts d j.turn (bot g d j.turn) (own_small g ok d j.turn known) (turn_small g ok d j.turn known turns) in
    let caller : d ≡ c = sym (ap tag_caller own ∙ parts.0) ∙ same in
    let mine : j ≡ k = one_at (slice_get s.callers c) j k (ap (slice_get s.callers) (sym caller) ∙ by.2) there in
    let held : length (names j.held) ≡ 0 = ap (λ (x : Caller). length (names x.held)) mine ∙ ap (λ (h : Pairs). length (names h)) nothing in
    let inside = by.3.1 in
    omega arith

pub held_by_one : HeldByOne
held_by_one g ok steps c d k j one two n mine other = one_owner g ok (after g steps) (always g ok steps) c d k j one two n mine other
