use Rattle.std.proofs.Common.{◌++◌, codes, map, flat_map, ap, ◌∙◌}
use Rattle.std.proofs.lemmas.Result.{on_ok_weaker}
use Rattle.text_tokens.specs.Lines.{line_text, spaced}
use Rattle.journal_text.specs.Texts.{entry_numbers, moved_words, change_words, change_by, written_full}
use Rattle.text_tokens.proofs.LineLemmas.{line_made, tokens_more}
use Rattle.journal_text.proofs.ChangeWords.{words_by}
use Rattle.journal_text.proofs.printed.put_entry.Goals as goal

pub returns : goal.returns
returns c =
    let vars = c.args.vars in let old = c.args.old in let e = c.args.entry.now in
    let numbers = entry_numbers c.args.place (written_full e) in
    let moved = moved_words e.moved in
    let changes = flat_map (change_words vars) (map (change_by old) e.patch) in
    let others = tokens_more _ _ _ numbers (moved ++ changes) c.in_ok-put_numbers.ensures (tokens_more _ _ _ moved changes c.in_ok-put_moved.ensures (c.in_ok-put_changes.ensures ∙ ap (λ ts. c.put_moved.new.lines ++ spaced (flat_map (change_words vars) (map (change_by old) ts))) c.triples.ensures.value)) in
    on_ok_weaker c.end.result (λ end. line_made _ _ _ _ (codes "entry") (numbers ++ (moved ++ changes)) c.in_ok-begin.ensures others end ∙ ap (λ ws. c.args.lines.now ++ line_text ws) (words_by vars c.args.place old e)) c.end.ensures
