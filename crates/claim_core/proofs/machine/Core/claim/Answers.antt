use Rattle.std.proofs.Common.{◌≡◌, ◌++◌, ◌∷◌, [], refl, sym, ap, ◌∙◌, subst, arith, set}
use Rattle.std.proofs.Math.ListN.{length-set}
use Rattle.std.proofs.lemmas.Option.{none-some, same_Some}
use Rattle.amoebot_state.specs.Known.{next_cell}
use Rattle.amoebot_state.specs.Ways.{reading}
use Rattle.amoebot_state.specs.Zones.{IsShown, shown_with}
use Rattle.claim_core.specs.declared.machine.CoreCaller.{CoreCaller}
use Rattle.claim_core.specs.declared.state.Phase.TheVariants as phase
use Rattle.claim_core.specs.Turns.{bot_of_turn}
use Rattle.claim_core.specs.Tags.{tag}
use Rattle.claim_core.specs.Cells.{number, held_by}
use Rattle.claim_core.specs.Cores.{phase_after, state_of}
use Rattle.claim_core.proofs.MachineLemmas.{closes, kept, known as is_listed, looked, zones_past, zones_with, refusing_past, claim_next, few_held, claim_number, claim_cell, claim_refused, claim_push, claim_known, claim_reads, claim_shown, claim_won, seat_in, inside_in, phase_in}
use Rattle.claim_core.proofs.machine.Core.claim.Goals as goal

pub index_mut-seat-requires : goal.index_mut-seat-requires
index_mut-seat-requires g c = omega (arith, inside_in c.self.invariant c.self.view_is refl c.args.caller phase.Claim c.requires, c.from.ensures, c.self.inside.seats.ok.0)

pub bot-bot-requires : goal.bot-bot-requires
bot-bot-requires g c =
    let seat = seat_in c.self.invariant c.self.view_is refl c.args.caller phase.Claim c.requires c.from.result c.index_mut-seat.result.now c.from.ensures c.index_mut-seat.ensures.value in
    is_listed c.self.invariant seat

pub unreachable-requires : goal.unreachable-requires
unreachable-requires g c =
    let seat = seat_in c.self.invariant c.self.view_is refl c.args.caller phase.Claim c.requires c.from.result c.index_mut-seat.result.now c.from.ensures c.index_mut-seat.ensures.value in
    let ph = phase_in c.self.invariant seat c.self.view_is refl phase.Claim c.requires in
    let (known, asked) = looked c.self.invariant seat ph c.next_known-next.new.zone c.next_known-next.result c.bot-bot.result c.as_slice.result.now c.bot-bot.ensures c.as_slice.ensures.value c.next_known-next.ensures in
    let some = claim_next c.self.invariant seat ph in
    none-some some.0 (sym c.in-None.is ∙ sym asked ∙ some.1)

pub unreachable-requires-in-None-cell_number : goal.unreachable-requires-in-None-cell_number
unreachable-requires-in-None-cell_number g c =
    let seat = seat_in c.self.invariant c.self.view_is refl c.args.caller phase.Claim c.requires c.from.result c.index_mut-seat.result.now c.from.ensures c.index_mut-seat.ensures.value in
    let ph = phase_in c.self.invariant seat c.self.view_is refl phase.Claim c.requires in
    let (known, asked) = looked c.self.invariant seat ph c.next_known-next.new.zone c.next_known-next.result c.bot-bot.result c.as_slice.result.now c.bot-bot.ensures c.as_slice.ensures.value c.next_known-next.ensures in
    let nx = asked ∙ c.in-Some.is in
    let num = claim_number c.self.invariant seat ph c.in-Some.name nx in
    none-some num.0 (sym c.in-None-cell_number.is ∙ c.cell_number.ensures ∙ ap (λ a. number a c.in-Some.name) c.area-area.ensures ∙ num.1)

pub index-found-requires : goal.index-found-requires
index-found-requires g c =
    let seat = seat_in c.self.invariant c.self.view_is refl c.args.caller phase.Claim c.requires c.from.result c.index_mut-seat.result.now c.from.ensures c.index_mut-seat.ensures.value in
    let ph = phase_in c.self.invariant seat c.self.view_is refl phase.Claim c.requires in
    let (known, asked) = looked c.self.invariant seat ph c.next_known-next.new.zone c.next_known-next.result c.bot-bot.result c.as_slice.result.now c.bot-bot.ensures c.as_slice.ensures.value c.next_known-next.ensures in
    let nx = asked ∙ c.in-Some.is in
    let at_n = ap (λ a. number a c.in-Some.name) (sym c.area-area.ensures) ∙ sym c.cell_number.ensures ∙ c.in-Some-cell_number.is in
    let num = claim_number c.self.invariant seat ph c.in-Some.name nx in
    let same = same_Some num.0 c.in-Some-cell_number.number (sym num.1 ∙ at_n) in
    omega (arith, num.2, same, c.self.inside.tags.ok.0)

pub invariant_of-self : goal.invariant_of-self
invariant_of-self g c =
    let seat = seat_in c.self.invariant c.self.view_is refl c.args.caller phase.Claim c.requires c.from.result c.index_mut-seat.result.now c.from.ensures c.index_mut-seat.ensures.value in
    let ph = phase_in c.self.invariant seat c.self.view_is refl phase.Claim c.requires in
    let (known, asked) = looked c.self.invariant seat ph c.next_known-next.new.zone c.next_known-next.result c.bot-bot.result c.as_slice.result.now c.bot-bot.ensures c.as_slice.ensures.value c.next_known-next.ensures in
    let nx = asked ∙ c.in-Some.is in
    let at_n = ap (λ a. number a c.in-Some.name) (sym c.area-area.ensures) ∙ sym c.cell_number.ensures ∙ c.in-Some-cell_number.is in
    let step = claim_refused c.self.invariant seat ph c.in-Some.name nx c.in-Some-cell_number.number at_n c.index-found.result.now c.index-found.ensures (record c.index_mut-seat.result.now { phase = phase.Refusing c.in-Some.name c.index-found.result.now; zone = c.next_known-next.new.zone }) c.if-found-ne0.true refl refl refl in
    kept c.self.invariant c.args.caller refl step c.self.invariant.run c.self.invariant.turns (c.self.invariant.each ∙ sym (length-set c.self.inside.seats.items c.from.result _)) c.self.invariant.room c.self.invariant.few (zones_past c.self.invariant seat _ (refusing_past c.in-Some.name c.index-found.result.now))

pub returns-then-found-ne0 : goal.returns-then-found-ne0
returns-then-found-ne0 g c =
    let seat = seat_in c.self.invariant c.self.view_is refl c.args.caller phase.Claim c.requires c.from.result c.index_mut-seat.result.now c.from.ensures c.index_mut-seat.ensures.value in
    let ph = phase_in c.self.invariant seat c.self.view_is refl phase.Claim c.requires in
    let (known, asked) = looked c.self.invariant seat ph c.next_known-next.new.zone c.next_known-next.result c.bot-bot.result c.as_slice.result.now c.bot-bot.ensures c.as_slice.ensures.value c.next_known-next.ensures in
    let nx = asked ∙ c.in-Some.is in
    let at_n = ap (λ a. number a c.in-Some.name) (sym c.area-area.ensures) ∙ sym c.cell_number.ensures ∙ c.in-Some-cell_number.is in
    let step = claim_refused c.self.invariant seat ph c.in-Some.name nx c.in-Some-cell_number.number at_n c.index-found.result.now c.index-found.ensures (record c.index_mut-seat.result.now { phase = phase.Refusing c.in-Some.name c.index-found.result.now; zone = c.next_known-next.new.zone }) c.if-found-ne0.true refl refl refl in
    closes g.D.Decider.verdict c.self.inside.decider.now c.self.inside.journal.first c.self.inside.journal.first c.self.inside.lists _ _ c.args.self.now c.args.caller c.self.view_is refl step

pub index_mut-requires : goal.index_mut-requires
index_mut-requires g c =
    let seat = seat_in c.self.invariant c.self.view_is refl c.args.caller phase.Claim c.requires c.from.result c.index_mut-seat.result.now c.from.ensures c.index_mut-seat.ensures.value in
    let ph = phase_in c.self.invariant seat c.self.view_is refl phase.Claim c.requires in
    let (known, asked) = looked c.self.invariant seat ph c.next_known-next.new.zone c.next_known-next.result c.bot-bot.result c.as_slice.result.now c.bot-bot.ensures c.as_slice.ensures.value c.next_known-next.ensures in
    let nx = asked ∙ c.in-Some.is in
    let at_n = ap (λ a. number a c.in-Some.name) (sym c.area-area.ensures) ∙ sym c.cell_number.ensures ∙ c.in-Some-cell_number.is in
    let num = claim_number c.self.invariant seat ph c.in-Some.name nx in
    let same = same_Some num.0 c.in-Some-cell_number.number (sym num.1 ∙ at_n) in
    omega (arith, num.2, same, c.self.inside.tags.ok.0)

pub value_of-value-requires : goal.value_of-value-requires
value_of-value-requires g c =
    let seat = seat_in c.self.invariant c.self.view_is refl c.args.caller phase.Claim c.requires c.from.result c.index_mut-seat.result.now c.from.ensures c.index_mut-seat.ensures.value in
    let ph = phase_in c.self.invariant seat c.self.view_is refl phase.Claim c.requires in
    let (known, asked) = looked c.self.invariant seat ph c.next_known-next.new.zone c.next_known-next.result c.bot-bot.result c.as_slice.result.now c.bot-bot.ensures c.as_slice.ensures.value c.next_known-next.ensures in
    let nx = asked ∙ c.in-Some.is in
    claim_cell c.self.invariant seat ph c.in-Some.name nx

pub push-requires : goal.push-requires
push-requires g c =
    let seat = seat_in c.self.invariant c.self.view_is refl c.args.caller phase.Claim c.requires c.from.result c.index_mut-seat.result.now c.from.ensures c.index_mut-seat.ensures.value in
    let ph = phase_in c.self.invariant seat c.self.view_is refl phase.Claim c.requires in
    let (known, asked) = looked c.self.invariant seat ph c.next_known-next.new.zone c.next_known-next.result c.bot-bot.result c.as_slice.result.now c.bot-bot.ensures c.as_slice.ensures.value c.next_known-next.ensures in
    let nx = asked ∙ c.in-Some.is in
    let at_n = ap (λ a. number a c.in-Some.name) (sym c.area-area.ensures) ∙ sym c.cell_number.ensures ∙ c.in-Some-cell_number.is in
    claim_push c.self.invariant seat ph c.in-Some.name nx c.in-Some-cell_number.number at_n c.index-found.result.now c.index-found.ensures c.if-found-ne0.false c.next_known-next.new.zone c.area-area.result c.value_of-value.result c.area-area.ensures c.value_of-value.ensures known

pub push-requires-2 : goal.push-requires-2
push-requires-2 g c =
    let seat = seat_in c.self.invariant c.self.view_is refl c.args.caller phase.Claim c.requires c.from.result c.index_mut-seat.result.now c.from.ensures c.index_mut-seat.ensures.value in
    let ph = phase_in c.self.invariant seat c.self.view_is refl phase.Claim c.requires in
    let few = few_held c.self.invariant seat ph in
    (omega arith, omega (arith, few))

pub go_on-requires-clause-claims : goal.go_on-requires-clause-claims
go_on-requires-clause-claims g c =
    let seat = seat_in c.self.invariant c.self.view_is refl c.args.caller phase.Claim c.requires c.from.result c.index_mut-seat.result.now c.from.ensures c.index_mut-seat.ensures.value in
    let ph = phase_in c.self.invariant seat c.self.view_is refl phase.Claim c.requires in
    λ ks below. ph

pub go_on-requires-clause-knows : goal.go_on-requires-clause-knows
go_on-requires-clause-knows g c =
    let seat = seat_in c.self.invariant c.self.view_is refl c.args.caller phase.Claim c.requires c.from.result c.index_mut-seat.result.now c.from.ensures c.index_mut-seat.ensures.value in
    let ph = phase_in c.self.invariant seat c.self.view_is refl phase.Claim c.requires in
    let (known, asked) = looked c.self.invariant seat ph c.next_known-next.new.zone c.next_known-next.result c.bot-bot.result c.as_slice.result.now c.bot-bot.ensures c.as_slice.ensures.value c.next_known-next.ensures in
    let nx = asked ∙ c.in-Some.is in
    let at_n = ap (λ a. number a c.in-Some.name) (sym c.area-area.ensures) ∙ sym c.cell_number.ensures ∙ c.in-Some-cell_number.is in
    let held : c.push-2.new.self.items ≡ c.index_mut-seat.result.now.held.items ++ (c.in-Some.name, held_by c.self.inside.world c.in-Some.name) ∷ [] = c.push-2.ensures.items ∙ ap (λ x. c.index_mut-seat.result.now.held.items ++ (c.in-Some.name, x) ∷ []) c.value_of-value.ensures in
    let knows = claim_known c.self.invariant seat ph c.in-Some.name nx c.in-Some-cell_number.number at_n c.index-found.result.now c.index-found.ensures c.if-found-ne0.false c.next_known-next.new.zone c.area-area.result c.value_of-value.result c.area-area.ensures c.value_of-value.ensures known c.push.new.self c.push.ensures in
    let reads = claim_reads c.self.invariant seat ph c.in-Some.name nx c.in-Some-cell_number.number at_n c.index-found.result.now c.index-found.ensures c.if-found-ne0.false c.push.new.self knows in
    λ ks below. reads ∙ (λ j. reading c.self.inside.world.area (sym c.bot-bot.ensures j) (sym held j))

pub go_on-requires-clause-whole : goal.go_on-requires-clause-whole
go_on-requires-clause-whole g c =
    let seat = seat_in c.self.invariant c.self.view_is refl c.args.caller phase.Claim c.requires c.from.result c.index_mut-seat.result.now c.from.ensures c.index_mut-seat.ensures.value in
    let ph = phase_in c.self.invariant seat c.self.view_is refl phase.Claim c.requires in
    let (known, asked) = looked c.self.invariant seat ph c.next_known-next.new.zone c.next_known-next.result c.bot-bot.result c.as_slice.result.now c.bot-bot.ensures c.as_slice.ensures.value c.next_known-next.ensures in
    let nx = asked ∙ c.in-Some.is in
    let at_n = ap (λ a. number a c.in-Some.name) (sym c.area-area.ensures) ∙ sym c.cell_number.ensures ∙ c.in-Some-cell_number.is in
    let held : c.push-2.new.self.items ≡ c.index_mut-seat.result.now.held.items ++ (c.in-Some.name, held_by c.self.inside.world c.in-Some.name) ∷ [] = c.push-2.ensures.items ∙ ap (λ x. c.index_mut-seat.result.now.held.items ++ (c.in-Some.name, x) ∷ []) c.value_of-value.ensures in
    let knows = claim_known c.self.invariant seat ph c.in-Some.name nx c.in-Some-cell_number.number at_n c.index-found.result.now c.index-found.ensures c.if-found-ne0.false c.next_known-next.new.zone c.area-area.result c.value_of-value.result c.area-area.ensures c.value_of-value.ensures known c.push.new.self c.push.ensures in
    let reads = claim_reads c.self.invariant seat ph c.in-Some.name nx c.in-Some-cell_number.number at_n c.index-found.result.now c.index-found.ensures c.if-found-ne0.false c.push.new.self knows in
    let own = bot_of_turn c.self.inside.lists c.args.caller c.index_mut-seat.result.now.turn in
    let more = c.index_mut-seat.result.now.held.items ++ (c.in-Some.name, held_by c.self.inside.world c.in-Some.name) ∷ [] in
    let is_next : next_cell c.self.inside.world.area own more ≡ next_cell c.self.inside.world.area c.bot-bot.result c.push-2.new.self.items = λ j. next_cell c.self.inside.world.area (sym c.bot-bot.ensures j) (sym held j) in
    λ ks below none.
    let shown = claim_shown c.self.invariant seat ph c.in-Some.name nx c.in-Some-cell_number.number at_n c.index-found.result.now c.index-found.ensures c.if-found-ne0.false (is_next ∙ none) in
    subst IsShown (λ j. shown_with c.self.inside.world (sym c.bot-bot.ensures j) (sym held j)) shown

pub invariant_of-self-2 : goal.invariant_of-self-2
invariant_of-self-2 g c =
    let seat = seat_in c.self.invariant c.self.view_is refl c.args.caller phase.Claim c.requires c.from.result c.index_mut-seat.result.now c.from.ensures c.index_mut-seat.ensures.value in
    let ph = phase_in c.self.invariant seat c.self.view_is refl phase.Claim c.requires in
    let (known, asked) = looked c.self.invariant seat ph c.next_known-next.new.zone c.next_known-next.result c.bot-bot.result c.as_slice.result.now c.bot-bot.ensures c.as_slice.ensures.value c.next_known-next.ensures in
    let nx = asked ∙ c.in-Some.is in
    let at_n = ap (λ a. number a c.in-Some.name) (sym c.area-area.ensures) ∙ sym c.cell_number.ensures ∙ c.in-Some-cell_number.is in
    let held : c.push-2.new.self.items ≡ c.index_mut-seat.result.now.held.items ++ (c.in-Some.name, held_by c.self.inside.world c.in-Some.name) ∷ [] = c.push-2.ensures.items ∙ ap (λ x. c.index_mut-seat.result.now.held.items ++ (c.in-Some.name, x) ∷ []) c.value_of-value.ensures in
    let knows = claim_known c.self.invariant seat ph c.in-Some.name nx c.in-Some-cell_number.number at_n c.index-found.result.now c.index-found.ensures c.if-found-ne0.false c.next_known-next.new.zone c.area-area.result c.value_of-value.result c.area-area.ensures c.value_of-value.ensures known c.push.new.self c.push.ensures in
    let reads = claim_reads c.self.invariant seat ph c.in-Some.name nx c.in-Some-cell_number.number at_n c.index-found.result.now c.index-found.ensures c.if-found-ne0.false c.push.new.self knows in
    let own = bot_of_turn c.self.inside.lists c.args.caller c.index_mut-seat.result.now.turn in
    let new = c.go_on.new.self in
    let ph2 : new.phase ≡ phase_after (g.D.Decider.verdict c.self.inside.decider.now) (shown_with c.self.inside.world own (c.index_mut-seat.result.now.held.items ++ (c.in-Some.name, held_by c.self.inside.world c.in-Some.name) ∷ [])) (next_cell c.self.inside.world.area own (c.index_mut-seat.result.now.held.items ++ (c.in-Some.name, held_by c.self.inside.world c.in-Some.name) ∷ [])) =
    ap (λ (s : CoreCaller). s.phase) c.go_on.ensures ∙ (λ j. phase_after (g.D.Decider.verdict c.self.inside.decider.now) (shown_with c.self.inside.world (c.bot-bot.ensures j) (held j)) (next_cell c.self.inside.world.area (c.bot-bot.ensures j) (held j))) in
    let kept_held = ap (λ (s : CoreCaller). s.held.items) c.go_on.ensures ∙ held in
    let won = claim_won c.self.invariant seat ph c.in-Some.name nx c.in-Some-cell_number.number at_n c.index-found.result.now c.index-found.ensures c.if-found-ne0.false new (ap (λ (s : CoreCaller). s.turn) c.go_on.ensures) kept_held ph2 in
    let tagged : c.tag.result ≡ tag c.args.caller c.index_mut-seat.result.now.turn own = c.tag.ensures ∙ ap (tag c.args.caller c.index_mut-seat.result.now.turn) c.bot-bot.ensures in
    let step = ap (λ t. state_of (set c.self.inside.tags.items c.in-Some-cell_number.number t) c.self.inside.world c.self.inside.journal c.self.inside.holder (set c.self.inside.seats.items c.from.result new) c.self.inside.marks) tagged ∙ won in
    kept c.self.invariant c.args.caller refl step c.self.invariant.run c.self.invariant.turns (c.self.invariant.each ∙ sym (length-set c.self.inside.seats.items c.from.result _)) c.self.invariant.room c.self.invariant.few
    (zones_with c.self.invariant seat new (λ claims some. ap (λ (s : CoreCaller). s.zone) c.go_on.ensures ∙ knows ∙ (λ j. reading c.self.inside.journal.first.area (bot_of_turn c.self.inside.lists c.args.caller (ap (λ (s : CoreCaller). s.turn) (sym c.go_on.ensures) j)) (sym kept_held j))))

pub returns : goal.returns
returns g c =
    let seat = seat_in c.self.invariant c.self.view_is refl c.args.caller phase.Claim c.requires c.from.result c.index_mut-seat.result.now c.from.ensures c.index_mut-seat.ensures.value in
    let ph = phase_in c.self.invariant seat c.self.view_is refl phase.Claim c.requires in
    let (known, asked) = looked c.self.invariant seat ph c.next_known-next.new.zone c.next_known-next.result c.bot-bot.result c.as_slice.result.now c.bot-bot.ensures c.as_slice.ensures.value c.next_known-next.ensures in
    let nx = asked ∙ c.in-Some.is in
    let at_n = ap (λ a. number a c.in-Some.name) (sym c.area-area.ensures) ∙ sym c.cell_number.ensures ∙ c.in-Some-cell_number.is in
    let held : c.push-2.new.self.items ≡ c.index_mut-seat.result.now.held.items ++ (c.in-Some.name, held_by c.self.inside.world c.in-Some.name) ∷ [] = c.push-2.ensures.items ∙ ap (λ x. c.index_mut-seat.result.now.held.items ++ (c.in-Some.name, x) ∷ []) c.value_of-value.ensures in
    let knows = claim_known c.self.invariant seat ph c.in-Some.name nx c.in-Some-cell_number.number at_n c.index-found.result.now c.index-found.ensures c.if-found-ne0.false c.next_known-next.new.zone c.area-area.result c.value_of-value.result c.area-area.ensures c.value_of-value.ensures known c.push.new.self c.push.ensures in
    let reads = claim_reads c.self.invariant seat ph c.in-Some.name nx c.in-Some-cell_number.number at_n c.index-found.result.now c.index-found.ensures c.if-found-ne0.false c.push.new.self knows in
    let own = bot_of_turn c.self.inside.lists c.args.caller c.index_mut-seat.result.now.turn in
    let new = c.go_on.new.self in
    let ph2 : new.phase ≡ phase_after (g.D.Decider.verdict c.self.inside.decider.now) (shown_with c.self.inside.world own (c.index_mut-seat.result.now.held.items ++ (c.in-Some.name, held_by c.self.inside.world c.in-Some.name) ∷ [])) (next_cell c.self.inside.world.area own (c.index_mut-seat.result.now.held.items ++ (c.in-Some.name, held_by c.self.inside.world c.in-Some.name) ∷ [])) =
    ap (λ (s : CoreCaller). s.phase) c.go_on.ensures ∙ (λ j. phase_after (g.D.Decider.verdict c.self.inside.decider.now) (shown_with c.self.inside.world (c.bot-bot.ensures j) (held j)) (next_cell c.self.inside.world.area (c.bot-bot.ensures j) (held j))) in
    let kept_held = ap (λ (s : CoreCaller). s.held.items) c.go_on.ensures ∙ held in
    let won = claim_won c.self.invariant seat ph c.in-Some.name nx c.in-Some-cell_number.number at_n c.index-found.result.now c.index-found.ensures c.if-found-ne0.false new (ap (λ (s : CoreCaller). s.turn) c.go_on.ensures) kept_held ph2 in
    let tagged : c.tag.result ≡ tag c.args.caller c.index_mut-seat.result.now.turn own = c.tag.ensures ∙ ap (tag c.args.caller c.index_mut-seat.result.now.turn) c.bot-bot.ensures in
    let step = ap (λ t. state_of (set c.self.inside.tags.items c.in-Some-cell_number.number t) c.self.inside.world c.self.inside.journal c.self.inside.holder (set c.self.inside.seats.items c.from.result new) c.self.inside.marks) tagged ∙ won in
    closes g.D.Decider.verdict c.self.inside.decider.now c.self.inside.journal.first c.self.inside.journal.first c.self.inside.lists _ _ c.args.self.now c.args.caller c.self.view_is refl step
