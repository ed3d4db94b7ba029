use Rattle.std.proofs.Common.{◌≡◌, ◌<◌, ◌≤◌, [], length, get_or, map, refl, arith, ap, sym, ◌∙◌}
use Rattle.std.proofs.lemmas.List.{length-map}
use Rattle.claim_core.specs.Turns.{no_marks}
use Rattle.claim_core.proofs.Inner.{lists-at}
use Rattle.node_claims.specs.Answers.{mark_of}
use Rattle.caller_workers.proofs.MarkCopies.{first_filled, has_room, next_filled, all_filled, lengths_told}
use Rattle.caller_workers.proofs.MadeTurns.{marks_told}
use Rattle.caller_workers.proofs.marks.copy_marks.Goals as goal

-- src/marks.rt
pub loop-own-init : goal.loop-own-init
loop-own-init g c =
    first_filled (λ answer. mark_of (g.T.TurnMaker.told answer)) (map (λ v. v.items) c.args.turns.now) c.args.marks.now
    (c.requires.none ∙ ap (λ n. no_marks n c.args.marks.now.turns) (sym (length-map c.args.turns.now (λ v. v.items))))

pub copy_own-requires-clause-room : goal.copy_own-requires-clause-room
copy_own-requires-clause-room g c κs within =
    let items = c.args.turns.now in
    let lt : c.loop-own.own-index < length (map (λ v. v.items) items) = omega (arith, c.loop-own-test.true, length-map items (λ v. v.items)) in
    let own : c.as_slice.result.now ≡ get_or (map (λ v. v.items) items) c.loop-own.own-index [] = c.as_slice.ensures.value ∙ sym (lists-at items c.loop-own.own-index c.loop-own.own-index c.own-item.result lt refl c.own-item.is) in
    has_room (λ answer. mark_of (g.T.TurnMaker.told answer)) (map (λ v. v.items) items) c.args.marks.now c.loop-own.marks c.loop-own.own-index c.loop-own.caller c.loop-own.invariant lt c.as_slice.result.now own
    (lengths_told g.T.TurnMaker.told c.args.marks.now.turns items c.requires.all)

pub loop-own-preserved : goal.loop-own-preserved
loop-own-preserved g c =
    let items = c.args.turns.now in
    let lt : c.loop-own.own-index < length (map (λ v. v.items) items) = omega (arith, c.loop-own-test.true, length-map items (λ v. v.items)) in
    let own : c.as_slice.result.now ≡ get_or (map (λ v. v.items) items) c.loop-own.own-index [] = c.as_slice.ensures.value ∙ sym (lists-at items c.loop-own.own-index c.loop-own.own-index c.own-item.result lt refl c.own-item.is) in
    next_filled (λ answer. mark_of (g.T.TurnMaker.told answer)) (map (λ v. v.items) items) c.args.marks.now c.loop-own.marks c.loop-own.own-index c.loop-own.caller c.loop-own.invariant lt c.as_slice.result.now own c.copy_own.new.marks c.copy_own.ensures

pub returns : goal.returns
returns g c =
    let items = c.args.turns.now in
    let all : length (map (λ v. v.items) items) ≤ c.loop-own.own-index = omega (arith, c.loop-own-test.false, length-map items (λ v. v.items)) in
    all_filled (λ answer. mark_of (g.T.TurnMaker.told answer)) (map (λ v. v.items) items) c.args.marks.now c.loop-own.marks c.loop-own.own-index c.loop-own.caller c.loop-own.invariant all
    ∙ ap (λ ms. record { turns = c.args.marks.now.turns; marks = ms }) (marks_told g.T.TurnMaker.told items)
