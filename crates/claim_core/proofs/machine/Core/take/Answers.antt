use Rattle.std.proofs.Common.{not, refl, sym, ap, ◌∙◌, arith}
use Rattle.std.proofs.Math.ListN.{length-set}
use Rattle.amoebot_state.proofs.Options.{none_if}
use Rattle.claim_core.specs.declared.state.Phase.TheVariants as phase
use Rattle.claim_core.proofs.MachineLemmas.{closes, kept, taken, zones_past, committing_past, seat_in, inside_in, phase_in}
use Rattle.claim_core.proofs.machine.Core.take.Goals as goal

pub index_mut-seat-requires : goal.index_mut-seat-requires
index_mut-seat-requires g c = omega (arith, inside_in c.self.invariant c.self.view_is refl c.args.caller (phase.Taking c.requires.0) c.requires.1, c.from.ensures, c.self.inside.seats.ok.0)

pub unreachable-requires : goal.unreachable-requires
unreachable-requires g c =
    let seat = seat_in c.self.invariant c.self.view_is refl c.args.caller (phase.Taking c.requires.0) c.requires.1 c.from.result c.index_mut-seat.result.now c.from.ensures c.index_mut-seat.ensures.value in
    c.in_default.not-Taking c.requires.0 (c.replace.ensures.value ∙ phase_in c.self.invariant seat c.self.view_is refl (phase.Taking c.requires.0) c.requires.1)

pub invariant_of-self : goal.invariant_of-self
invariant_of-self g c =
    let seat = seat_in c.self.invariant c.self.view_is refl c.args.caller (phase.Taking c.requires.0) c.requires.1 c.from.result c.index_mut-seat.result.now c.from.ensures c.index_mut-seat.ensures.value in
    let step = taken c.self.invariant seat (record c.index_mut-seat.result.now { phase = phase.Committing c.in-Taking.change }) c.in-Taking.change (sym c.replace.ensures.value ∙ c.in-Taking.is) (none_if c.self.inside.holder (c.is_none.ensures ∙ ap not c.if-is_none.true)) refl refl refl in
    kept c.self.invariant c.args.caller refl step c.self.invariant.run c.self.invariant.turns (c.self.invariant.each ∙ sym (length-set c.self.inside.seats.items c.from.result _)) c.self.invariant.room c.self.invariant.few (zones_past c.self.invariant seat _ (committing_past c.in-Taking.change))

pub returns-in-Taking : goal.returns-in-Taking
returns-in-Taking g c =
    let seat = seat_in c.self.invariant c.self.view_is refl c.args.caller (phase.Taking c.requires.0) c.requires.1 c.from.result c.index_mut-seat.result.now c.from.ensures c.index_mut-seat.ensures.value in
    let step = taken c.self.invariant seat (record c.index_mut-seat.result.now { phase = phase.Committing c.in-Taking.change }) c.in-Taking.change (sym c.replace.ensures.value ∙ c.in-Taking.is) (none_if c.self.inside.holder (c.is_none.ensures ∙ ap not c.if-is_none.true)) refl refl refl in
    closes g.D.Decider.verdict c.self.inside.decider.now c.self.inside.journal.first c.self.inside.journal.first c.self.inside.lists _ _ c.args.self.now c.args.caller c.self.view_is refl step
