use Rattle.claim_core.specs.Turns.{marks_of}
use Rattle.journal_text.specs.Texts.{turn_words}
use Rattle.text_tokens.proofs.LineLemmas.{line_more}
use Rattle.text_tokens.proofs.NextLines.{line_next}
use Rattle.journal_text.proofs.printed.put_caller.Goals as goal

pub loop-turn-preserved : goal.loop-turn-preserved
loop-turn-preserved c =
    line_more _ _ _ _ (turn_words c.args.caller (c.loop-turn.turn, c.mark.result)) _ c.loop-turn.invariant c.in_ok-put_turn.ensures (line_next (turn_words c.args.caller) (marks_of c.args.marks.now c.args.caller) c.loop-turn.turn c.mark.result c.mark.ensures)
