-- The lines of entries as they are written, with that of the next entry.
use Rattle.std.proofs.Common.{◌≡◌, ℕ, ◌+◌, List, [], ◌∷◌, ◌++◌, length, take, map, slice_get, Some, ap, ◌∙◌, arith}
use Rattle.std.specs.List.{enumerate_from}
use Rattle.std.proofs.lemmas.List.{map-append, length-map, length-take-le}
use Rattle.std.proofs.lemmas.Option.{slice_get_within}
use Rattle.text_tokens.proofs.NextLines.{take_next, numbered_more}
use Rattle.journal_text.specs.Journals.{WrittenEntry}
use Rattle.journal_text.specs.Texts.{entry_words, written_lines}

pub written_next : {E : Type 0} (vars : ℕ) (written : E → WrittenEntry) (es : List E) (i : ℕ) (e : E) → slice_get es i ≡ Some e → written_lines vars (map written (take (i + 1) es)) ≡ written_lines vars (map written (take i es)) ++ entry_words vars (i, written e) ∷ []
written_next vars written es i e at =
    let inside = slice_get_within es i e at in
    let before = map written (take i es) in
    let same : 0 + length before ≡ i = omega (arith, length-map (take i es) written, length-take-le i es (omega arith)) in
    ap (λ ds. written_lines vars (map written ds)) (take_next es i e at)
    ∙ ap (written_lines vars) (map-append written (take i es) (e ∷ []))
    ∙ ap (map (entry_words vars)) (numbered_more 0 before (written e))
    ∙ map-append (entry_words vars) (enumerate_from 0 before) ((0 + length before, written e) ∷ [])
    ∙ ap (λ k. written_lines vars before ++ entry_words vars (k, written e) ∷ []) same
