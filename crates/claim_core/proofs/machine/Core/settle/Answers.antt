use Rattle.std.proofs.Common.{◌≡◌, ◌+◌, refl, sym, ap, ◌∙◌, subst, arith, length}
use Rattle.std.specs.Prelude.{slice_get}
use Rattle.std.proofs.Math.ListN.{length-set}
use Rattle.claim_core.specs.Machine.{next}
use Rattle.claim_core.specs.Cores.{IsUnmarked, unmarked, looks_at, setup_of}
use Rattle.claim_core.proofs.MachineLemmas.{zones_freed, turn_below, closes, kept, there, seated_unmarked, unmarked_count, room_after, settled, its_seat}
use Rattle.claim_core.proofs.machine.Core.settle.Goals as goal

pub add-requires-clause-caller : goal.add-requires-clause-caller
add-requires-clause-caller g c =
    let has = subst (λ r. IsUnmarked r.lists.turns r.state.callers c.args.caller) (sym c.self.view_is) c.requires.unmarked in
    omega (arith, seated_unmarked c.self.invariant c.args.caller has, c.self.invariant.each)

pub add-requires-clause-next : goal.add-requires-clause-next
add-requires-clause-next g c =
    let has = subst (λ r. IsUnmarked r.lists.turns r.state.callers c.args.caller) (sym c.self.view_is) c.requires.unmarked in
    omega (arith, unmarked_count c.self.invariant c.args.caller has, c.self.invariant.turns)

pub index_mut-seat-requires : goal.index_mut-seat-requires
index_mut-seat-requires g c =
    let has = subst (λ r. IsUnmarked r.lists.turns r.state.callers c.args.caller) (sym c.self.view_is) c.requires.unmarked in
    omega (arith, seated_unmarked c.self.invariant c.args.caller has, c.from.ensures, c.self.inside.seats.ok.0)

pub free-requires : goal.free-requires
free-requires g c =
    let has = subst (λ r. IsUnmarked r.lists.turns r.state.callers c.args.caller) (sym c.self.view_is) c.requires.unmarked in
    let seat = its_seat c.args.caller c.from.result c.index_mut-seat.result.now c.from.ensures (seated_unmarked c.self.invariant c.args.caller has) c.index_mut-seat.ensures.value in
    turn_below c.self.inside.lists.turns _ _ _ _ has (there c.self.invariant seat) c.turns-turns.ensures

pub invariant_of-self : goal.invariant_of-self
invariant_of-self g c =
    let has = subst (λ r. IsUnmarked r.lists.turns r.state.callers c.args.caller) (sym c.self.view_is) c.requires.unmarked in
    let seat = its_seat c.args.caller c.from.result c.index_mut-seat.result.now c.from.ensures (seated_unmarked c.self.invariant c.args.caller has) c.index_mut-seat.ensures.value in
    let now = subst (λ r. next (setup_of g.D.Decider.verdict r) c.args.caller r.state ≡ looks_at (setup_of g.D.Decider.verdict r) c.args.caller r.state (slice_get r.state.callers c.args.caller) c.args.mark) (sym c.self.view_is) c.requires.next in
    let added = ap (λ m. m.marks) c.add.ensures in
    let step = settled c.self.invariant seat c.free.new.self c.args.mark c.add.new.self (subst (λ n. Rattle.claim_core.specs.Cores.Frees n c.index_mut-seat.result.now c.free.new.self) c.turns-turns.ensures c.free.ensures) added now in
    let room = room_after c.self.invariant c.args.caller c.args.mark has in
    let less : unmarked c.self.inside.lists.turns c.add.new.self.marks + 1 ≡ unmarked c.self.inside.lists.turns c.self.inside.marks.marks = ap (λ ms. unmarked c.self.inside.lists.turns ms + 1) added ∙ room in
    kept c.self.invariant c.args.caller refl step c.self.invariant.run (ap (λ m. m.turns) c.add.ensures ∙ c.self.invariant.turns) (ap length added ∙ length-set _ _ _ ∙ c.self.invariant.each ∙ sym (length-set c.self.inside.seats.items c.from.result _)) (omega (arith, less, c.self.invariant.room)) (omega (arith, less, c.self.invariant.few)) (zones_freed c.self.invariant seat c.index_mut-seat.result.now c.free.new.self (subst (λ n. Rattle.claim_core.specs.Cores.Frees n c.index_mut-seat.result.now c.free.new.self) c.turns-turns.ensures c.free.ensures))

pub returns : goal.returns
returns g c =
    let has = subst (λ r. IsUnmarked r.lists.turns r.state.callers c.args.caller) (sym c.self.view_is) c.requires.unmarked in
    let seat = its_seat c.args.caller c.from.result c.index_mut-seat.result.now c.from.ensures (seated_unmarked c.self.invariant c.args.caller has) c.index_mut-seat.ensures.value in
    let now = subst (λ r. next (setup_of g.D.Decider.verdict r) c.args.caller r.state ≡ looks_at (setup_of g.D.Decider.verdict r) c.args.caller r.state (slice_get r.state.callers c.args.caller) c.args.mark) (sym c.self.view_is) c.requires.next in
    let step = settled c.self.invariant seat c.free.new.self c.args.mark c.add.new.self (subst (λ n. Rattle.claim_core.specs.Cores.Frees n c.index_mut-seat.result.now c.free.new.self) c.turns-turns.ensures c.free.ensures) (ap (λ m. m.marks) c.add.ensures) now in
    closes g.D.Decider.verdict c.self.inside.decider.now c.self.inside.journal.first c.self.inside.journal.first c.self.inside.lists _ _ c.args.self.now c.args.caller c.self.view_is refl step
