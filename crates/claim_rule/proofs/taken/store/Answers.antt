use Rattle.std.proofs.Common.{◌+◌, ◌<◌, map, reverse, length, ap, sym, subst, ◌∙◌, true}
use Rattle.amoebot_state.specs.declared.verdict.Entry.{Entry}
use Rattle.amoebot_state.specs.Pairs.{Pairs, plain_patch}
use Rattle.amoebot_state.specs.Steps.{change_of}
use Rattle.claim_core.specs.Machine.{patched_pair}
use Rattle.claim_core.proofs.MachineLemmas.{reverse-map}
use Rattle.claim_rule.specs.Manners.{by_journal}
use Rattle.claim_rule.specs.declared.activation.Room.{Room}
use Rattle.claim_rule.specs.Commits.{IsPushed}
use Rattle.claim_rule.specs.Tokens.{IsActivation, IsFreeing, frame_of}
use Rattle.claim_rule.proofs.SettlingLemmas.{to_commit, has_stored}
use Rattle.claim_rule.proofs.taken.store.Goals as goal

pub store_length-requires-clause-commits : goal.store_length-requires-clause-commits
store_length-requires-clause-commits g c κs within =
    let taken = c.taken.inside in
    let did = c.push_entry-place.ensures.pushed in
    to_commit g.D.Decider.verdict taken.activation.seat.me _ _ _ _ _ _ _ (change_of taken.entry) c.taken.invariant.0 _ did.0 did.2 _ did.1 c.push_entry-place.new.seat.me did.3
    (subst (λ (e : Entry). IsPushed did.0 e did.1) c.taken.invariant.1.entry did.4) (ap (λ n. n + 1) (c.from.ensures ∙ did.5))

pub invariant_of-result : goal.invariant_of-result
invariant_of-result g c =
    let taken = c.taken.inside in
    let r = taken.activation.room.value in
    let room = c.settle.new.self in
    let now = c.settle.ensures.same ∙ ap (λ (q : Room). record q { cells = room.cells; stale = true }) c.deref_mut-room.ensures.value in
    let cells = c.settle.ensures.cells ∙ ap (λ (q : Room). map (patched_pair q.changes.items) q.cells) c.deref_mut-room.ensures.value ∙ ap (λ (ps : Pairs). map (patched_pair ps) r.cells) c.taken.invariant.1.changes in
    let m = c.store_length.new.seat.me in
    let did = c.push_entry-place.ensures.pushed in
    let place = c.push_entry-place.result in
    let all = has_stored g.D.Decider.verdict taken.activation.seat.me _ _ _ _ _ _ _ (change_of taken.entry) c.taken.invariant.0 _ did.0 did.2 place did.1 c.push_entry-place.new.seat.me m _
    did.3 c.store_length.ensures.told.0 c.store_length.ensures.told.1 did.5 (ap reverse cells ∙ reverse-map (patched_pair (plain_patch taken.entry.patch)) r.cells) in
    let held = reverse room.cells in
    subst (λ (q : Room). IsActivation g.D.Decider.verdict by_journal m q.caller q.turn q.bot q.stale (frame_of q.area q.maxes) held (reverse q.notes) × IsFreeing g.D.Decider.verdict m q.turn held (place + 1) × (0 < length held)) (sym now) (all.0, all.1, all.2)
