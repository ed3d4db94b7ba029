use Rattle.std.proofs.Common.{◌<◌, false, reverse, ap, sym, subst, ◌∙◌}
use Rattle.amoebot_state.specs.Known.{walls_read}
use Rattle.claim_rule.specs.declared.activation.Room.{Room}
use Rattle.claim_rule.specs.Plays.{about, bot_in}
use Rattle.claim_rule.specs.Tokens.{Token, KeepsRoom, IsClaiming, doing}
use Rattle.claim_rule.proofs.ActivationLemmas.{begun}
use Rattle.claim_rule.proofs.held.begin.Goals as goal

pub invariant_of-result : goal.invariant_of-result
invariant_of-result g c =
    let m = c.seat.inside.seat.me in
    let room = c.begin.new.self in
    let now = c.begin.ensures.same ∙ ap (λ (q : Room). record q { turn = c.args.turn; bot = c.args.bot; tag = room.tag; zone = room.zone; cells = room.cells; notes = room.notes; walls = room.walls; stale = false }) c.deref_mut.ensures.value in
    let first = begun g.D.Decider.verdict g.W.Manner.way m _ _ c.args.turn c.args.bot _ (reverse room.cells) (reverse room.notes) c.seat.invariant
    (c.requires.turn.0 ∙ ap (λ (t : Token _). (doing t).turn) (sym c.seat.view_is))
    (subst (λ (t : Token _). c.args.turn < (about g.D.Decider.verdict t.view).lists.turns) (sym c.seat.view_is) c.requires.turn.1)
    (c.requires.bot ∙ ap (λ (t : Token _). bot_in g.D.Decider.verdict t.view) (sym c.seat.view_is))
    (ap reverse c.begin.ensures.empty.0) (ap reverse c.begin.ensures.empty.1) in
    let all = subst (λ (q : Room). KeepsRoom g.D.Decider.verdict g.W.Manner.way m q × IsClaiming g.D.Decider.verdict m q.turn q.bot (reverse q.cells)) (sym now) first in
    let walls = c.begin.ensures.empty.2 ∙ ap (walls_read (about g.D.Decider.verdict m.0).world) (sym c.begin.ensures.empty.0) in
    (all.0, all.1, c.begin.ensures.knows, walls)
