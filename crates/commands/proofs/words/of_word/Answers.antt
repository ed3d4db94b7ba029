use Rattle.std.proofs.Common.{◌+◌, List, ℕ, ap, arith, sym, ◌∙◌}
use Rattle.std.specs.Str.{bytes_eq}
use Rattle.commands.specs.Words.{documents}
use Rattle.commands.proofs.WordsLemmas.{passed_over}
use Rattle.commands.proofs.words.of_word.Goals as goal

pub loop-command-preserved : goal.loop-command-preserved
loop-command-preserved c =
    let other = ap (λ (w : List ℕ). bytes_eq w c.args.word.now) (sym c.row_of.ensures.word) ∙ sym c.eq.ensures ∙ c.if-eq.false in
    c.loop-command.invariant ∙ passed_over documents c.loop-command.command-index (c.loop-command.command-index + 1) _ c.args.word.now (omega arith) c.loop-command-test.true other
