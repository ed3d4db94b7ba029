use Rattle.std.proofs.Common.{ℕ, subst}
use Rattle.std.proofs.lemmas.Result.{err_from_is_err_and}
use Rattle.text_tokens.specs.Reading.{repeated, less}
use Rattle.text_tokens.specs.Lawful.{always}
use Rattle.text_tokens.specs.Groups.{is_group_pair, group_pair_in, all_group_pairs}
use Rattle.text_tokens.proofs.GroupLaws.{PairIn, no_pair, pair_elements}
use Rattle.text_tokens.proofs.LoopLemmas.{StillReads, loop_begins, loop_goes_on, loop_is_over, loop_fails, less_is}
use Rattle.text_tokens.proofs.groups.read_pairs.Goals as goal

pub loop-found-init : goal.loop-found-init
unfolding all_group_pairs
loop-found-init c = loop_begins all_group_pairs c.args.tokens.now c.new-found.result.items c.new-found.ensures.items

pub returns-in_err-pair : goal.returns-in_err-pair
returns-in_err-pair c =
    let p = err_from_is_err_and c.from_residual.result c.from_residual.ensures.1 in
    rw (p.1, p.2) (loop_fails PairIn group_pair_in (λ room n. less room) is_group_pair always no_pair pair_elements all_group_pairs c.args.tokens.now c.loop-found.found.items c.loop-found.room c.loop-found.tokens c.loop-found.invariant
    c.in_err-pair.field-0.0 c.more_pair.new.tokens c.in_err-pair.ensures.reads)

pub loop-found-preserved : goal.loop-found-preserved
loop-found-preserved c =
    let next = rw c.in-Some.is at c.in_ok-pair.ensures.reads in
    let more = loop_goes_on PairIn group_pair_in (λ room n. less room) is_group_pair always no_pair pair_elements all_group_pairs c.args.tokens.now c.loop-found.found.items c.loop-found.room c.loop-found.tokens c.loop-found.invariant
    c.in-Some.pair c.more_pair.new.tokens next c.push.new.self.items c.in_ok-push.ensures.items in
    subst (λ (room : ℕ). StillReads all_group_pairs c.args.tokens.now c.push.new.self.items (repeated is_group_pair group_pair_in (λ room n. less room) room) c.more_pair.new.tokens) (less_is c.loop-found.room) more

pub returns : goal.returns
returns c = loop_is_over PairIn group_pair_in (λ room n. less room) is_group_pair always no_pair pair_elements all_group_pairs c.args.tokens.now c.loop-found.found.items c.loop-found.room c.loop-found.tokens c.loop-found.invariant
    c.more_pair.new.tokens (rw c.in_default.is at c.in_ok-pair.ensures.reads)
