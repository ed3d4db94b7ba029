use Rattle.std.proofs.Common.{◌++◌, ◌∷◌, [], refl}
use Rattle.std.proofs.lemmas.Result.{err_from_is_err_and}
use Rattle.text_tokens.specs.Reading.{pure}
use Rattle.text_tokens.specs.Lawful.{always}
use Rattle.text_tokens.proofs.StepsLemmas.{fails, on_made}
use Rattle.text_tokens.proofs.LoopLemmas.{loop_begins, loop_goes_on, loop_falls, loop_is_over, loop_fails}
use Rattle.shape_text.specs.Parts.{is_end}
use Rattle.journal_text.specs.Turns.{is_turn, as_before}
use Rattle.journal_text.specs.Readers.{turn_in, all_turn_lines}
use Rattle.journal_text.proofs.TurnLaws.{TurnIn, turn_elements}
use Rattle.journal_text.proofs.turns.read_all_turns.Goals as goal

pub loop-init : goal.loop-init
unfolding all_turn_lines
loop-init c = ([], loop_begins (all_turn_lines c.args.version) c.args.tokens.now [] refl)

pub returns-in_err-more_turn-clause-reads : goal.returns-in_err-more_turn-clause-reads
returns-in_err-more_turn-clause-reads c =
    let p = err_from_is_err_and c.from_residual.result c.from_residual.ensures.1 in
    rw (p.1, p.2) (fails (all_turn_lines c.args.version) (λ ts. pure tt) c.in_err-more_turn.field-0.0 c.args.tokens.now c.more_turn.new.tokens
    (loop_fails (TurnIn c.args.version) (turn_in c.args.version) as_before is_turn always is_end (turn_elements c.args.version) (all_turn_lines c.args.version) c.args.tokens.now c.loop.invariant.0 tt c.loop.tokens c.loop.invariant.1 c.in_err-more_turn.field-0.0 c.more_turn.new.tokens c.in_err-more_turn.ensures.reads))

pub loop-smaller : goal.loop-smaller
loop-smaller c = loop_falls (TurnIn c.args.version) (turn_in c.args.version) as_before is_turn always is_end (turn_elements c.args.version) (all_turn_lines c.args.version) c.args.tokens.now c.loop.invariant.0 tt c.loop.tokens c.loop.invariant.1 tt c.more_turn.new.tokens (rw c.in-Some.is at c.in_ok-more_turn.ensures.reads)

pub loop-preserved : goal.loop-preserved
loop-preserved c =
    let found = c.loop.invariant.0 ++ tt ∷ [] in
    (found, loop_goes_on (TurnIn c.args.version) (turn_in c.args.version) as_before is_turn always is_end (turn_elements c.args.version) (all_turn_lines c.args.version) c.args.tokens.now c.loop.invariant.0 tt c.loop.tokens c.loop.invariant.1 tt c.more_turn.new.tokens (rw c.in-Some.is at c.in_ok-more_turn.ensures.reads) found refl)

pub returns-clause-reads : goal.returns-clause-reads
returns-clause-reads c = on_made (all_turn_lines c.args.version) (λ ts. tt) c.args.tokens.now c.more_turn.new.tokens c.loop.invariant.0
    (loop_is_over (TurnIn c.args.version) (turn_in c.args.version) as_before is_turn always is_end (turn_elements c.args.version) (all_turn_lines c.args.version) c.args.tokens.now c.loop.invariant.0 tt c.loop.tokens c.loop.invariant.1 c.more_turn.new.tokens (rw c.in_default.is at c.in_ok-more_turn.ensures.reads))
