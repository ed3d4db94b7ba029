use Rattle.std.proofs.Common.{◌<◌, refl, sym, ap, ◌∙◌, subst, arith}
use Rattle.std.proofs.Math.ListN.{length-set}
use Rattle.std.proofs.lemmas.Bool.{false≢true}
use Rattle.std.proofs.lemmas.Option.{none-some, same_Some}
use Rattle.claim_core.specs.declared.state.Phase.TheVariants as phase
use Rattle.claim_core.specs.Cells.{number}
use Rattle.claim_core.specs.Cores.{Frees}
use Rattle.claim_core.proofs.MachineLemmas.{zones_freed, closes, kept, released, holds_some, held_number, in_a_turn, seat_in, inside_in, phase_in}
use Rattle.claim_core.proofs.machine.Core.release.Goals as goal

pub index_mut-seat-requires : goal.index_mut-seat-requires
index_mut-seat-requires g c = omega (arith, inside_in c.self.invariant c.self.view_is refl c.args.caller phase.Releasing c.requires, c.from.ensures, c.self.inside.seats.ok.0)

pub unreachable-requires : goal.unreachable-requires
unreachable-requires g c =
    let seat = seat_in c.self.invariant c.self.view_is refl c.args.caller phase.Releasing c.requires c.from.result c.index_mut-seat.result.now c.from.ensures c.index_mut-seat.ensures.value in
    let ph = phase_in c.self.invariant seat c.self.view_is refl phase.Releasing c.requires in
    let some = holds_some c.self.invariant seat ph in
    false≢true (c.in-None.ensures.variant.1 (omega (arith, some)))

pub index_mut-requires : goal.index_mut-requires
index_mut-requires g c =
    let seat = seat_in c.self.invariant c.self.view_is refl c.args.caller phase.Releasing c.requires c.from.result c.index_mut-seat.result.now c.from.ensures c.index_mut-seat.ensures.value in
    let num = held_number c.self.invariant seat c.pop.new.self.items c.in-Some.name c.in-Some._value c.in-Some.ensures.items in
    let same = same_Some num.0 c.in-Some-cell_number.number (sym num.1 ∙ ap (λ a. number a c.in-Some.name) (sym c.area-area.ensures) ∙ sym c.cell_number.ensures ∙ c.in-Some-cell_number.is) in
    omega (arith, num.2, same, c.self.inside.tags.ok.0)

pub unreachable-requires-in-None-cell_number : goal.unreachable-requires-in-None-cell_number
unreachable-requires-in-None-cell_number g c =
    let seat = seat_in c.self.invariant c.self.view_is refl c.args.caller phase.Releasing c.requires c.from.result c.index_mut-seat.result.now c.from.ensures c.index_mut-seat.ensures.value in
    let num = held_number c.self.invariant seat c.pop.new.self.items c.in-Some.name c.in-Some._value c.in-Some.ensures.items in
    none-some num.0 (sym c.in-None-cell_number.is ∙ c.cell_number.ensures ∙ ap (λ a. number a c.in-Some.name) c.area-area.ensures ∙ num.1)

pub free-requires : goal.free-requires
free-requires g c =
    let seat = seat_in c.self.invariant c.self.view_is refl c.args.caller phase.Releasing c.requires c.from.result c.index_mut-seat.result.now c.from.ensures c.index_mut-seat.ensures.value in
    let ph = phase_in c.self.invariant seat c.self.view_is refl phase.Releasing c.requires in
    let turn : c.index_mut-seat.result.now.turn < c.self.inside.lists.turns = (in_a_turn c.self.invariant seat phase.Releasing ph).0 in
    omega (arith, turn, c.turns-turns.ensures)

pub invariant_of-self : goal.invariant_of-self
invariant_of-self g c =
    let seat = seat_in c.self.invariant c.self.view_is refl c.args.caller phase.Releasing c.requires c.from.result c.index_mut-seat.result.now c.from.ensures c.index_mut-seat.ensures.value in
    let ph = phase_in c.self.invariant seat c.self.view_is refl phase.Releasing c.requires in
    let left = record c.index_mut-seat.result.now { held = c.pop.new.self } in
    let at_n = ap (λ a. number a c.in-Some.name) (sym c.area-area.ensures) ∙ sym c.cell_number.ensures ∙ c.in-Some-cell_number.is in
    let freed = subst (λ n. Frees n left c.free.new.self) c.turns-turns.ensures c.free.ensures in
    let step = released c.self.invariant seat left c.free.new.self c.in-Some.name c.in-Some._value c.in-Some-cell_number.number ph c.in-Some.ensures.items refl at_n freed in
    kept c.self.invariant c.args.caller refl step c.self.invariant.run c.self.invariant.turns (c.self.invariant.each ∙ sym (length-set c.self.inside.seats.items c.from.result _)) c.self.invariant.room c.self.invariant.few (zones_freed c.self.invariant seat left c.free.new.self freed)

pub returns : goal.returns
returns g c =
    let seat = seat_in c.self.invariant c.self.view_is refl c.args.caller phase.Releasing c.requires c.from.result c.index_mut-seat.result.now c.from.ensures c.index_mut-seat.ensures.value in
    let ph = phase_in c.self.invariant seat c.self.view_is refl phase.Releasing c.requires in
    let left = record c.index_mut-seat.result.now { held = c.pop.new.self } in
    let at_n = ap (λ a. number a c.in-Some.name) (sym c.area-area.ensures) ∙ sym c.cell_number.ensures ∙ c.in-Some-cell_number.is in
    let freed = subst (λ n. Frees n left c.free.new.self) c.turns-turns.ensures c.free.ensures in
    let step = released c.self.invariant seat left c.free.new.self c.in-Some.name c.in-Some._value c.in-Some-cell_number.number ph c.in-Some.ensures.items refl at_n freed in
    closes g.D.Decider.verdict c.self.inside.decider.now c.self.inside.journal.first c.self.inside.journal.first c.self.inside.lists _ _ c.args.self.now c.args.caller c.self.view_is refl step
