use Rattle.std.proofs.Common.{◌≡◌, not, slice_get, sym, ap, ◌∙◌, subst}
use Rattle.amoebot_state.specs.Known.{next_cell}
use Rattle.amoebot_state.specs.Pairs.{Pairs}
use Rattle.amoebot_state.specs.Zones.{IsShown, shown_with}
use Rattle.amoebot_state.proofs.Options.{none_if}
use Rattle.claim_core.proofs.machine.CoreCaller.go_on.Goals as goal

pub seal-requires-clause-shown : goal.seal-requires-clause-shown
seal-requires-clause-shown g c =
    let none = none_if c.next.result (c.is_none.ensures ∙ ap not c.if-is_none.true) in
    let is_next : next_cell c.args.world.now.area c.args.bot c.args.self.now.held.items ≡ c.next.result = (λ j. slice_get (sym c.requires.knows j).names (sym c.len.ensures.value j)) ∙ sym c.next.ensures in
    subst (λ (ps : Pairs). IsShown (shown_with c.args.world.now c.args.bot ps)) (sym c.as_slice.ensures.value) (c.requires.whole (is_next ∙ none))
