-- Rows of tokens that grow by their next element.
use Rattle.std.specs.Prelude.{◌==◌}
use Rattle.std.proofs.lemmas.Bool.Decides.{nat_tests}
use Rattle.std.proofs.Common.{◌≡◌, ℕ, suc, ◌+◌, Bool, false, List, [], ◌∷◌, ◌++◌, length, take, map, codes, flat_map, slice_get, Some, refl, sym, ap, ◌∙◌, arith, append_assoc}
use Rattle.std.proofs.lemmas.Grind.{flat_map-append}
use Rattle.std.proofs.lemmas.List.{map-append, length-map, length-take-le, append-nil}
use Rattle.std.proofs.lemmas.Option.{slice_get_within}
use Rattle.text_tokens.specs.Lines.{Words, spaced, line_text, lines_text}
use Rattle.text_tokens.proofs.LineLemmas.{tokens_more}
use Rattle.text_tokens.proofs.NextLines.{take_next}
use Rattle.action_tree.specs.declared.expression.Guard as guard
use Rattle.action_tree.specs.declared.expression.Part as part
use Rattle.action_tree.specs.declared.statement.Stmt as stmt
use Rattle.action_tree.specs.Trees.{Guard, Part, terms}
use Rattle.action_tree.specs.Views.{guard_of, guards_of, part_of, terms_of, stmt_of, stmts_of}
use Rattle.action_tree.specs.Writable.{is_conj, is_unit}
use Rattle.action_print.specs.Canon.{joined, parens_unless, first_sign, further_sign, guard_words, units, conjs, sum_words, further_terms, term_words, stmt_words, each_stmt, stmts_words, else_words, do_lines}
use Rattle.action_print.specs.Rows.{between, sign_words}

-- what was written grows by a token, and by further ones
pub token_then : (old mid new word : List ℕ) (words : Words) → mid ≡ old ++ 32 ∷ word → new ≡ mid ++ spaced words → new ≡ old ++ spaced (word ∷ words)
token_then old mid new word words first others = others ∙ ap (λ bs. bs ++ spaced words) first ∙ append_assoc old (32 ∷ word) (spaced words)

-- what was written is the guard of this value
pub guard_printed : (old new : List ℕ) (g h : Guard) → g ≡ h → new ≡ old ++ spaced (guard_words h) → new ≡ old ++ spaced (guard_words g)
guard_printed old new g h same printed = printed ∙ ap (λ (g : Guard). old ++ spaced (guard_words g)) (sym same)

-- a row with one more element
pub row_more : (old now mid new : List ℕ) (row before element all : Words) → now ≡ old ++ spaced row → mid ≡ now ++ spaced before → new ≡ mid ++ spaced element → all ≡ row ++ (before ++ element) → new ≡ old ++ spaced all
row_more old now mid new row before element all so_far sep next whole =
    tokens_more old now new row (before ++ element) so_far (tokens_more now mid new before element sep next) ∙ ap (λ ws. old ++ spaced ws) (sym whole)

-- ---- one more element of a list

between_suc : (n : ℕ) (b : List ℕ) → between (suc n) b ≡ b ∷ []
between_suc n b = let some : (suc n == 0) ≡ false = grind (arith, nat_tests) in rw some refl

sign_suc : (n : ℕ) (minus : Bool) → sign_words (suc n) minus ≡ further_sign minus ∷ []
sign_suc n minus = let some : (suc n == 0) ≡ false = grind (arith, nat_tests) in rw some refl

joined_more : (b : List ℕ) (rows : List Words) (row : Words) → joined b (rows ++ row ∷ []) ≡ joined b rows ++ (between (length rows) b ++ row)
joined_more b [] row = append-nil row
joined_more b (first ∷ rows) row =
    ap (λ ws. first ++ ws) (flat_map-append (λ ws. b ∷ ws) rows (row ∷ []) ∙ ap (λ ws. flat_map (λ ws. b ∷ ws) rows ++ b ∷ ws) (append-nil row))
    ∙ sym (append_assoc first (flat_map (λ ws. b ∷ ws) rows) (b ∷ row)) ∙ ap (λ ws. joined b (first ∷ rows) ++ (ws ++ row)) (sym (between_suc (length rows) b))

module _ {A : Type 0} (b : List ℕ) (f : A → Words) (xs : List A) (i : ℕ) (x : A) (at : slice_get xs i ≡ Some x) where
  row_length : length (map f (take i xs)) ≡ i
  row_length = let inside = slice_get_within xs i x at in length-map (take i xs) f ∙ length-take-le i xs (omega arith)

  row_next : joined b (map f (take (i + 1) xs)) ≡ joined b (map f (take i xs)) ++ (between i b ++ f x)
  row_next =
      ap (λ ys. joined b (map f ys)) (take_next xs i x at) ∙ ap (joined b) (map-append f (take i xs) (x ∷ []))
      ∙ joined_more b (map f (take i xs)) (f x) ∙ ap (λ n. joined b (map f (take i xs)) ++ (between n b ++ f x)) row_length

abbrev unit_words : guard.Guard → Words
unit_words g = parens_unless (is_unit (guard_of g)) (guard_words (guard_of g))

abbrev conj_words : guard.Guard → Words
conj_words g = parens_unless (is_conj (guard_of g)) (guard_words (guard_of g))

units_are : (gs : List guard.Guard) → units (guards_of gs) ≡ map unit_words gs
units_are [] = refl
units_are (g ∷ gs) = ap (λ rows. unit_words g ∷ rows) (units_are gs)

conjs_are : (gs : List guard.Guard) → conjs (guards_of gs) ≡ map conj_words gs
conjs_are [] = refl
conjs_are (g ∷ gs) = ap (λ rows. conj_words g ∷ rows) (conjs_are gs)

abbrev one_stmt : stmt.Stmt → Words
one_stmt s = stmt_words (stmt_of s)

stmts_are : (ss : List stmt.Stmt) → each_stmt (stmts_of ss) ≡ map one_stmt ss
stmts_are [] = refl
stmts_are (s ∷ ss) = ap (λ rows. one_stmt s ∷ rows) (stmts_are ss)

pub units_next : (b : List ℕ) (gs : List guard.Guard) (i : ℕ) (g : guard.Guard) → slice_get gs i ≡ Some g → joined b (units (guards_of (take (i + 1) gs))) ≡ joined b (units (guards_of (take i gs))) ++ (between i b ++ unit_words g)
units_next b gs i g at =
    ap (joined b) (units_are (take (i + 1) gs)) ∙ row_next b unit_words gs i g at ∙ ap (λ rows. joined b rows ++ (between i b ++ unit_words g)) (sym (units_are (take i gs)))

pub conjs_next : (b : List ℕ) (gs : List guard.Guard) (i : ℕ) (g : guard.Guard) → slice_get gs i ≡ Some g → joined b (conjs (guards_of (take (i + 1) gs))) ≡ joined b (conjs (guards_of (take i gs))) ++ (between i b ++ conj_words g)
conjs_next b gs i g at =
    ap (joined b) (conjs_are (take (i + 1) gs)) ∙ row_next b conj_words gs i g at ∙ ap (λ rows. joined b rows ++ (between i b ++ conj_words g)) (sym (conjs_are (take i gs)))

pub stmts_next : (b : List ℕ) (ss : List stmt.Stmt) (i : ℕ) (s : stmt.Stmt) → slice_get ss i ≡ Some s → joined b (each_stmt (stmts_of (take (i + 1) ss))) ≡ joined b (each_stmt (stmts_of (take i ss))) ++ (between i b ++ one_stmt s)
stmts_next b ss i s at =
    ap (joined b) (stmts_are (take (i + 1) ss)) ∙ row_next b one_stmt ss i s at ∙ ap (λ rows. joined b rows ++ (between i b ++ one_stmt s)) (sym (stmts_are (take i ss)))

-- ---- sums

abbrev part_words : ℕ → Part → Words
part_words place p = sign_words place p.minus ++ term_words p.term

further_more : (ps : List Part) (p : Part) → further_terms (terms (ps ++ p ∷ [])) ≡ further_terms (terms ps) ++ further_sign p.minus ∷ term_words p.term
further_more [] p = ap (λ ws. further_sign p.minus ∷ ws) (append-nil (term_words p.term))
further_more (q ∷ ps) p =
    ap (λ ws. further_sign q.minus ∷ ws) (ap (λ ws. term_words q.term ++ ws) (further_more ps p) ∙ sym (append_assoc (term_words q.term) (further_terms (terms ps)) (further_sign p.minus ∷ term_words p.term)))

sum_more : (ps : List Part) (p : Part) → sum_words (terms (ps ++ p ∷ [])) ≡ sum_words (terms ps) ++ part_words (length ps) p
sum_more [] p = ap (λ ws. first_sign p.minus ++ ws) (append-nil (term_words p.term))
sum_more (q ∷ ps) p =
    ap (λ ws. first_sign q.minus ++ ws) (ap (λ ws. term_words q.term ++ ws) (further_more ps p) ∙ sym (append_assoc (term_words q.term) (further_terms (terms ps)) (further_sign p.minus ∷ term_words p.term)))
    ∙ sym (append_assoc (first_sign q.minus) (term_words q.term ++ further_terms (terms ps)) (further_sign p.minus ∷ term_words p.term))
    ∙ ap (λ ws. sum_words (terms (q ∷ ps)) ++ (ws ++ term_words p.term)) (sym (sign_suc (length ps) p.minus))

pub sum_next : (ps : List part.Part) (i : ℕ) (p : part.Part) → slice_get ps i ≡ Some p → sum_words (terms_of (take (i + 1) ps)) ≡ sum_words (terms_of (take i ps)) ++ part_words i (part_of p)
sum_next ps i p at =
    let inside = slice_get_within ps i p at in
    let same : length (map part_of (take i ps)) ≡ i = length-map (take i ps) part_of ∙ length-take-le i ps (omega arith) in
    ap (λ qs. sum_words (terms_of qs)) (take_next ps i p at) ∙ ap (λ qs. sum_words (terms qs)) (map-append part_of (take i ps) (p ∷ []))
    ∙ sum_more (map part_of (take i ps)) (part_of p) ∙ ap (λ n. sum_words (terms_of (take i ps)) ++ part_words n (part_of p)) same

-- ---- statements that are there

pub else_some : (ss : List stmt.Stmt) → (length ss == 0) ≡ false → else_words (stmts_of ss) ≡ codes "else" ∷ stmts_words (stmts_of ss)
else_some [] e = absurd cc
else_some (s ∷ ss) e = refl

pub do_some : (ss : List stmt.Stmt) → (length ss == 0) ≡ false → do_lines (stmts_of ss) ≡ (codes "do" ∷ stmts_words (stmts_of ss)) ∷ []
do_some [] e = absurd cc
do_some (s ∷ ss) e = refl

-- ---- lines

-- a line alone
pub alone : (old new : List ℕ) (line : Words) → new ≡ old ++ line_text line → new ≡ old ++ lines_text (line ∷ [])
alone old new line is = is ∙ ap (λ bs. old ++ bs) (sym (append-nil (line_text line)))
