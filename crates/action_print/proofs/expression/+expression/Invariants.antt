use Rattle.std.proofs.Common.{◌≡◌, ◌++◌, take, codes}
use Rattle.text_tokens.specs.Lines.{spaced}
use Rattle.action_tree.specs.Views.{guards_of, terms_of}
use Rattle.action_print.specs.Canon.{conjs, joined, sum_words, units}
use Rattle.action_print.proofs.expression.+expression.Given as goal

abbrev pub invariant-put_conjs-loop-place : goal.invariant-put_conjs-loop-place
invariant-put_conjs-loop-place l = l.lines ≡ l.fn.lines ++ spaced (joined (codes "or") (conjs (guards_of (take l.place l.elements))))

abbrev pub invariant-put_parts-loop-place : goal.invariant-put_parts-loop-place
invariant-put_parts-loop-place l = l.lines ≡ l.fn.lines ++ spaced (sum_words (terms_of (take l.place l.parts)))

abbrev pub invariant-put_units-loop-place : goal.invariant-put_units-loop-place
invariant-put_units-loop-place l = l.lines ≡ l.fn.lines ++ spaced (joined (codes "and") (units (guards_of (take l.place l.elements))))
