use Rattle.std.proofs.Common.{reverse, ap, sym, subst, ◌∙◌}
use Rattle.amoebot_state.specs.declared.verdict.Change.{Change}
use Rattle.amoebot_state.specs.declared.verdict.Entry.{Entry}
use Rattle.amoebot_state.specs.Pairs.{plain_patch}
use Rattle.amoebot_state.specs.Steps.{change_of, entry_of}
use Rattle.claim_rule.specs.Manners.{by_journal}
use Rattle.claim_rule.specs.declared.activation.Room.{Room}
use Rattle.claim_rule.specs.Views.{Seated, setup_at}
use Rattle.claim_rule.specs.Stands.{journal_slot}
use Rattle.claim_rule.specs.Commits.{GotJournal}
use Rattle.claim_rule.specs.Tokens.{Token, KeepsRoom, KeepsFound, doing, frame_of}
use Rattle.claim_rule.specs.Settling.{IsTaken, IsReadyEntry}
use Rattle.claim_rule.proofs.SettlingLemmas.{got_it}
use Rattle.claim_rule.proofs.Takings.{taken_of, left_of}
use Rattle.claim_rule.proofs.taken.take.Goals as goal

pub invariant_of-result : goal.invariant_of-result
invariant_of-result g c =
    let room = c.ready-entry.new.self in
    let m = c.take_journal-word.new.seat.me in
    let now = c.ready-entry.ensures.same ∙ ap (λ (q : Room). record q { changes = room.changes }) c.deref_mut.ensures.value in
    let r = c.claimed.inside.activation.room.value in
    let stays = subst (λ (n : Seated g.row.D.Denot). KeepsRoom g.D.Decider.verdict by_journal n r × KeepsFound g.D.Decider.verdict n r) (sym (left_of c.take_journal-word.ensures.told c.if-word-ne0.true).0) c.claimed.invariant in
    let found = stays.1 in
    subst (λ (q : Room). KeepsRoom g.D.Decider.verdict by_journal m q × KeepsFound g.D.Decider.verdict m q) (sym now) (stays.0, record { told = found.told; kept = found.kept; whole = found.whole })

pub invariant_of-result-2 : goal.invariant_of-result-2
invariant_of-result-2 g c =
    let terms = ap (λ (t : Token _). t.view.terms) c.claimed.view_is ∙ c.requires.field.terms in
    let m = c.take_journal-word.new.seat.me in
    let got = got_it g.D.Decider.verdict c.claimed.inside.activation.seat.me _ _ _ _ _ _ _ c.claimed.invariant.1.told _ c.args.change _ m
    c.claimed.invariant.0 c.claimed.invariant.1.whole (ap (λ (t : Token _). (doing t).phase) c.claimed.view_is ∙ c.requires.change) (sym (ap (λ o. journal_slot (setup_at g.D.Decider.verdict o).world) terms))
    (subst (λ k. GotJournal k c.claimed.inside.activation.seat.me c.take_journal-word.new.seat.me) (ap (λ o. journal_slot (setup_at g.D.Decider.verdict o).world) terms) (taken_of c.take_journal-word.ensures.told c.if-word-ne0.false)) in
    let r = c.claimed.inside.activation.room.value in
    let room = c.ready-entry.new.self in
    let now = c.ready-entry.ensures.same ∙ ap (λ (q : Room). record q { changes = room.changes }) c.deref_mut.ensures.value in
    let entry = c.ready-entry.ensures.entry ∙ ap (λ (q : Room). entry_of q.caller q.turn q.bot c.args.change) c.deref_mut.ensures.value in
    let change = ap change_of entry in
    let taken = subst (λ (q : Room × Change). IsTaken g.D.Decider.verdict m q.0.caller q.0.turn q.0.bot q.0.stale (frame_of q.0.area q.0.maxes) (reverse q.0.cells) (reverse q.0.notes) q.1) (λ i. (sym now i, sym change i)) got.0 in
    let ready = subst (λ (q : Room). IsReadyEntry q c.ready-entry.result) (sym now) (record {
      entry = entry ∙ ap (entry_of r.caller r.turn r.bot) (sym change);
      changes = c.ready-entry.ensures.changes ∙ sym (ap (λ (e : Entry). plain_patch e.patch) entry);
    }) in
    (taken, ready)
