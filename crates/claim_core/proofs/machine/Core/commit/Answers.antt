use Rattle.std.proofs.Common.{◌≡◌, ◌+◌, ◌++◌, ◌∷◌, [], refl, sym, ap, ◌∙◌, subst, arith, length, List, map, get_or, set, length-append}
use Rattle.std.proofs.Math.ListN.{length-set}
use Rattle.std.specs.List.{refill}
use Rattle.std.proofs.lemmas.List.{take_at, length-map}
use Rattle.arrayvec.specs.ArrayVec.{with_items}
use Rattle.amoebot_state.specs.declared.verdict.Entry.{Entry}
use Rattle.amoebot_state.specs.Configs.{Config}
use Rattle.amoebot_state.specs.Steps.{Run, entry_of}
use Rattle.claim_core.specs.declared.marks.Mark.TheVariants as mark
use Rattle.claim_core.specs.declared.state.Phase.TheVariants as phase
use Rattle.claim_core.specs.Cells.{held_by}
use Rattle.claim_core.specs.Cores.{IsCell, Frees, unmarked}
use Rattle.std.specs.List.{All}
use Rattle.amoebot_state.specs.declared.cell.CellName.{CellName}
use Rattle.amoebot_state.specs.declared.cell.Cell.{Cell}
use Rattle.claim_core.proofs.MachineLemmas.{zones_freed, turn_below, closes, kept, unmarked_count, room_after, there, committing_unmarked, committing_leads, committing_cells, committing_run, committed, seat_in, inside_in, phase_in}
use Rattle.claim_core.proofs.machine.Core.commit.Goals as goal

refill_same : {A : Type 0} (xs ws : List A) → length ws ≡ length xs → refill (length xs) xs ws ≡ ws
refill_same xs ws e = take_at ws _ (length xs) e

pub index_mut-seat-requires : goal.index_mut-seat-requires
index_mut-seat-requires g c = omega (arith, inside_in c.self.invariant c.self.view_is refl c.args.caller (phase.Committing c.requires.0) c.requires.1, c.from.ensures, c.self.inside.seats.ok.0)

pub bot-bot-requires : goal.bot-bot-requires
bot-bot-requires g c =
    let seat = seat_in c.self.invariant c.self.view_is refl c.args.caller (phase.Committing c.requires.0) c.requires.1 c.from.result c.index_mut-seat.result.now c.from.ensures c.index_mut-seat.ensures.value in
    Rattle.claim_core.proofs.MachineLemmas.known c.self.invariant seat

pub unreachable-requires : goal.unreachable-requires
unreachable-requires g c =
    let seat = seat_in c.self.invariant c.self.view_is refl c.args.caller (phase.Committing c.requires.0) c.requires.1 c.from.result c.index_mut-seat.result.now c.from.ensures c.index_mut-seat.ensures.value in
    let ph = phase_in c.self.invariant seat c.self.view_is refl (phase.Committing c.requires.0) c.requires.1 in
    c.in_default.not-Committing c.requires.0 (c.replace.ensures.value ∙ ph)

pub apply-requires : goal.apply-requires
apply-requires g c =
    let seat = seat_in c.self.invariant c.self.view_is refl c.args.caller (phase.Committing c.requires.0) c.requires.1 c.from.result c.index_mut-seat.result.now c.from.ensures c.index_mut-seat.ensures.value in
    let ph : c.index_mut-seat.result.now.phase ≡ phase.Committing c.in-Committing.change = sym c.replace.ensures.value ∙ c.in-Committing.is in
    committing_leads c.self.invariant seat c.in-Committing.change ph

pub record_again-requires : goal.record_again-requires
record_again-requires g c =
    let seat = seat_in c.self.invariant c.self.view_is refl c.args.caller (phase.Committing c.requires.0) c.requires.1 c.from.result c.index_mut-seat.result.now c.from.ensures c.index_mut-seat.ensures.value in
    let ph : c.index_mut-seat.result.now.phase ≡ phase.Committing c.in-Committing.change = sym c.replace.ensures.value ∙ c.in-Committing.is in
    let all = committing_cells c.self.invariant seat c.in-Committing.change ph (length c.apply.new.self.bots) c.apply.ensures.same.size in
    subst (All (λ (p : CellName × Cell). IsCell (length c.apply.new.self.bots) p.0)) (sym c.as_mut_slice.ensures.value) all

pub push-requires : goal.push-requires
push-requires g c =
    let seat = seat_in c.self.invariant c.self.view_is refl c.args.caller (phase.Committing c.requires.0) c.requires.1 c.from.result c.index_mut-seat.result.now c.from.ensures c.index_mut-seat.ensures.value in
    let ph : c.index_mut-seat.result.now.phase ≡ phase.Committing c.in-Committing.change = sym c.replace.ensures.value ∙ c.in-Committing.is in
    let unmarked_now = committing_unmarked c.self.invariant seat c.in-Committing.change ph in
    let room = room_after c.self.invariant c.args.caller (mark.Done 0) unmarked_now in
    omega (arith, room, c.self.invariant.room)

pub add-requires-clause-caller : goal.add-requires-clause-caller
add-requires-clause-caller g c =
    let ph : c.index_mut-seat.result.now.phase ≡ phase.Committing c.in-Committing.change = sym c.replace.ensures.value ∙ c.in-Committing.is in
    omega (arith, inside_in c.self.invariant c.self.view_is refl c.args.caller (phase.Committing c.requires.0) c.requires.1, c.self.invariant.each)

pub add-requires-clause-next : goal.add-requires-clause-next
add-requires-clause-next g c =
    let seat = seat_in c.self.invariant c.self.view_is refl c.args.caller (phase.Committing c.requires.0) c.requires.1 c.from.result c.index_mut-seat.result.now c.from.ensures c.index_mut-seat.ensures.value in
    let ph : c.index_mut-seat.result.now.phase ≡ phase.Committing c.in-Committing.change = sym c.replace.ensures.value ∙ c.in-Committing.is in
    let unmarked_now = committing_unmarked c.self.invariant seat c.in-Committing.change ph in
    omega (arith, unmarked_count c.self.invariant c.args.caller unmarked_now, c.self.invariant.turns)

pub free-requires : goal.free-requires
free-requires g c =
    let seat = seat_in c.self.invariant c.self.view_is refl c.args.caller (phase.Committing c.requires.0) c.requires.1 c.from.result c.index_mut-seat.result.now c.from.ensures c.index_mut-seat.ensures.value in
    let ph : c.index_mut-seat.result.now.phase ≡ phase.Committing c.in-Committing.change = sym c.replace.ensures.value ∙ c.in-Committing.is in
    let unmarked_now = committing_unmarked c.self.invariant seat c.in-Committing.change ph in
    turn_below c.self.inside.lists.turns _ _ _ _ unmarked_now (there c.self.invariant seat) c.turns-turns.ensures

pub invariant_of-self : goal.invariant_of-self
invariant_of-self g c =
    let seat = seat_in c.self.invariant c.self.view_is refl c.args.caller (phase.Committing c.requires.0) c.requires.1 c.from.result c.index_mut-seat.result.now c.from.ensures c.index_mut-seat.ensures.value in
    let ph : c.index_mut-seat.result.now.phase ≡ phase.Committing c.in-Committing.change = sym c.replace.ensures.value ∙ c.in-Committing.is in
    let unmarked_now = committing_unmarked c.self.invariant seat c.in-Committing.change ph in
    let again : c.record_again.new.held ≡ map (λ (p : CellName × Cell). (p.0, held_by c.apply.new.self p.0)) c.index_mut-seat.result.now.held.items = c.record_again.ensures ∙ ap (map (λ (p : CellName × Cell). (p.0, held_by c.apply.new.self p.0))) c.as_mut_slice.ensures.value in
    let held : refill (length c.index_mut-seat.result.now.held.items) c.index_mut-seat.result.now.held.items c.record_again.new.held ≡ map (λ (p : CellName × Cell). (p.0, held_by c.apply.new.self p.0)) c.index_mut-seat.result.now.held.items = refill_same c.index_mut-seat.result.now.held.items c.record_again.new.held (ap (λ ps. length ps) again ∙ length-map c.index_mut-seat.result.now.held.items (λ (p : CellName × Cell). (p.0, held_by c.apply.new.self p.0))) ∙ again in
    let left = record c.index_mut-seat.result.now { phase = c.replace.new.dest; held = with_items c.index_mut-seat.result.now.held c.record_again.new.held } in
    let freed = subst (λ n. Frees n left c.free.new.self) c.turns-turns.ensures c.free.ensures in
    let added = ap (λ m. m.marks) c.add.ensures ∙ ap (λ es. set c.self.inside.marks.marks c.args.caller (get_or c.self.inside.marks.marks c.args.caller [] ++ mark.Done (length es) ∷ [])) c.entries.ensures in
    let same_entry = ap (λ b. entry_of c.args.caller c.index_mut-seat.result.now.turn b c.in-Committing.change) c.bot-bot.ensures in
    let step = committed c.self.invariant seat c.in-Committing.change ph c.apply.new.self c.apply.ensures left c.free.new.self c.push.new.self c.add.new.self _ refl held freed same_entry c.push.ensures.entries added in
    let run = committing_run c.self.invariant seat c.in-Committing.change ph c.apply.new.self c.apply.ensures _ same_entry in
    let room = room_after c.self.invariant c.args.caller (mark.Done (length c.self.inside.journal.entries)) unmarked_now in
    let less : unmarked c.self.inside.lists.turns c.add.new.self.marks + 1 ≡ unmarked c.self.inside.lists.turns c.self.inside.marks.marks = ap (λ ms. unmarked c.self.inside.lists.turns ms + 1) added ∙ room in
    let longer = ap (λ es. length es) c.push.ensures.entries ∙ length-append c.self.inside.journal.entries _ in
    let run2 = subst (λ (z : Config × List Entry). Run (g.D.Decider.verdict c.self.inside.decider.now) z.0 z.1 c.apply.new.self) (λ j. (sym c.push.ensures.first j, sym c.push.ensures.entries j)) run in
    kept c.self.invariant c.args.caller c.push.ensures.first step run2 (ap (λ m. m.turns) c.add.ensures ∙ c.self.invariant.turns) (ap (λ ms. length ms) added ∙ length-set _ _ _ ∙ c.self.invariant.each ∙ sym (length-set c.self.inside.seats.items c.from.result _)) (omega (arith, less, c.self.invariant.room, c.push.ensures.spare)) (omega (arith, less, c.self.invariant.few, longer)) (zones_freed c.self.invariant seat left c.free.new.self freed)

pub returns : goal.returns
returns g c =
    let seat = seat_in c.self.invariant c.self.view_is refl c.args.caller (phase.Committing c.requires.0) c.requires.1 c.from.result c.index_mut-seat.result.now c.from.ensures c.index_mut-seat.ensures.value in
    let ph : c.index_mut-seat.result.now.phase ≡ phase.Committing c.in-Committing.change = sym c.replace.ensures.value ∙ c.in-Committing.is in
    let again : c.record_again.new.held ≡ map (λ (p : CellName × Cell). (p.0, held_by c.apply.new.self p.0)) c.index_mut-seat.result.now.held.items = c.record_again.ensures ∙ ap (map (λ (p : CellName × Cell). (p.0, held_by c.apply.new.self p.0))) c.as_mut_slice.ensures.value in
    let held : refill (length c.index_mut-seat.result.now.held.items) c.index_mut-seat.result.now.held.items c.record_again.new.held ≡ map (λ (p : CellName × Cell). (p.0, held_by c.apply.new.self p.0)) c.index_mut-seat.result.now.held.items = refill_same c.index_mut-seat.result.now.held.items c.record_again.new.held (ap (λ ps. length ps) again ∙ length-map c.index_mut-seat.result.now.held.items (λ (p : CellName × Cell). (p.0, held_by c.apply.new.self p.0))) ∙ again in
    let left = record c.index_mut-seat.result.now { phase = c.replace.new.dest; held = with_items c.index_mut-seat.result.now.held c.record_again.new.held } in
    let freed = subst (λ n. Frees n left c.free.new.self) c.turns-turns.ensures c.free.ensures in
    let added = ap (λ m. m.marks) c.add.ensures ∙ ap (λ es. set c.self.inside.marks.marks c.args.caller (get_or c.self.inside.marks.marks c.args.caller [] ++ mark.Done (length es) ∷ [])) c.entries.ensures in
    let same_entry = ap (λ b. entry_of c.args.caller c.index_mut-seat.result.now.turn b c.in-Committing.change) c.bot-bot.ensures in
    let step = committed c.self.invariant seat c.in-Committing.change ph c.apply.new.self c.apply.ensures left c.free.new.self c.push.new.self c.add.new.self _ refl held freed same_entry c.push.ensures.entries added in
    closes g.D.Decider.verdict c.self.inside.decider.now c.self.inside.journal.first c.push.new.self.first c.self.inside.lists _ _ c.args.self.now c.args.caller c.self.view_is c.push.ensures.first step
