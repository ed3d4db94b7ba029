use Rattle.std.proofs.Common.{ap, sym, subst, ◌∙◌}
use Rattle.amoebot_state.specs.declared.cell.CellName.TheVariants as name
use Rattle.claim_core.specs.Cells.{number}
use Rattle.claim_rule.specs.Manners.{by_journal}
use Rattle.claim_rule.specs.declared.activation.Room.{Room}
use Rattle.claim_rule.specs.declared.views.View.{View}
use Rattle.claim_rule.specs.Tokens.{KeepsRoom, next_in}
use Rattle.claim_rule.proofs.ActivationLemmas.{to_try, next_same}
use Rattle.claim_rule.proofs.KnownWalls.{still_known}
use Rattle.claim_rule.proofs.Winning.{noted, stopped}
use Rattle.claim_rule.proofs.node_steps.look_at.Goals as goal

pub look_node-word-requires-clause-next : goal.look_node-word-requires-clause-next
look_node-word-requires-clause-next g c κs within =
    let is = subst (λ w. KeepsRoom g.D.Decider.verdict w c.held.inside.activation.seat.me c.held.inside.activation.room.value) c.requires.words c.held.invariant.0 in
    (to_try g.D.Decider.verdict c.held.inside.activation.seat.me _ _ _ _ _ _ _ is c.args.node c.in-Some.index c.held.invariant.1
    (ap (next_in g.D.Decider.verdict) c.held.view_is ∙ c.requires.next) (ap (λ (q : Room). number q.area (name.Spot c.args.node)) (sym c.deref.ensures) ∙ sym c.cell_number.ensures ∙ c.in-Some.is)).0

pub invariant_of-result : goal.invariant_of-result
invariant_of-result g c =
    let r = c.held.inside.activation.room.value in
    let is = subst (λ w. KeepsRoom g.D.Decider.verdict w c.held.inside.activation.seat.me r) c.requires.words c.held.invariant.0 in
    let all = stopped g.D.Decider.verdict _ _ _ _ _ _ _ c.args.node c.held.inside.activation.seat.me is c.held.invariant.1
    (sym (next_same g.D.Decider.verdict by_journal c.held.inside.activation.seat.me _ _ _ _ _ _ _ is c.held.invariant.1.turn) ∙ ap (next_in g.D.Decider.verdict) c.held.view_is ∙ c.requires.next)
    c.look_node-word.result c.look_node-word.new.seat.me (c.look_node-word.ensures.told.1 (λ e. c.if-by-ne0.true (c.word_tag-by.ensures ∙ e))) in
    (subst (λ w. KeepsRoom g.D.Decider.verdict w c.look_node-word.new.seat.me r) (sym c.requires.words) all.0, all.1)

pub invariant_of-result-2 : goal.invariant_of-result-2
invariant_of-result-2 g c =
    let free = sym c.word_tag-by.ensures ∙ c.if-by-ne0.false in
    let is = subst (λ w. KeepsRoom g.D.Decider.verdict w c.held.inside.activation.seat.me c.held.inside.activation.room.value) c.requires.words c.held.invariant.0 in
    let all = noted g.D.Decider.verdict _ _ _ _ _ _ _ c.args.node c.held.inside.activation.seat.me is c.held.invariant.1
    (sym (next_same g.D.Decider.verdict by_journal c.held.inside.activation.seat.me _ _ _ _ _ _ _ is c.held.invariant.1.turn) ∙ ap (next_in g.D.Decider.verdict) c.held.view_is ∙ c.requires.next)
    c.look_node-word.result c.look_node-word.new.seat.me free (c.look_node-word.ensures.told.0 free) in
    let m = c.held.inside.activation.seat.me in
    let known = still_known g.D.Decider.verdict m.0 c.look_node-word.new.seat.me.0 c.held.inside.activation.room.value (ap (λ (v : View _). v.terms) all.1) c.held.invariant.3 in
    (all.0, c.held.invariant.2, ap (λ (q : Room). number q.area (name.Spot c.args.node)) (sym c.deref.ensures) ∙ sym c.cell_number.ensures ∙ c.in-Some.is, known, c.requires.words)
