-- Lists of other lengths are other lists.
use Rattle.std.proofs.Common.{◌≡◌, ◌≢◌, ◌∙◌, ℕ, suc, false, List, [], ◌∷◌, length, ap, refl, Decides}
use Rattle.action_tree.specs.declared.expression.Guard.{Guard}
use Rattle.action_tree.specs.declared.expression.Part.{Part}
use Rattle.action_tree.specs.declared.statement.Stmt.{Stmt}
use Rattle.action_tree.specs.Trees as tree
use Rattle.action_tree.specs.Trees.{Guards, no_guards, guard_then, conjunction, Sum, no_terms, term_then, Term, Stmts, no_stmts, stmt_then}
use Rattle.action_tree.specs.Views.{guards_of, stmts_of, terms_of}
use Rattle.action_tree.specs.Lines.{bare_guards, bare_stmts, bare_sum}
use Rattle.action_tree.specs.Shipped.{sum_of_term}

abbrev count_guards : Guards → ℕ
count_guards no_guards = 0
count_guards (guard_then g gs) = suc (count_guards gs)

abbrev count_stmts : Stmts → ℕ
count_stmts no_stmts = 0
count_stmts (stmt_then s ss) = suc (count_stmts ss)

abbrev count_terms : Sum → ℕ
count_terms no_terms = 0
count_terms (term_then m t s) = suc (count_terms s)

guards_counted : (gs : List Guard) → length gs ≡ count_guards (bare_guards (guards_of gs))
guards_counted [] = refl
guards_counted (g ∷ gs) = ap suc (guards_counted gs)

stmts_counted : (ss : List Stmt) → length ss ≡ count_stmts (bare_stmts (stmts_of ss))
stmts_counted [] = refl
stmts_counted (s ∷ ss) = ap suc (stmts_counted ss)

terms_counted : (ps : List Part) → length ps ≡ count_terms (bare_sum (terms_of ps))
terms_counted [] = refl
terms_counted (p ∷ ps) = ap suc (terms_counted ps)

abbrev elements : tree.Guard → Guards
elements (conjunction gs) = gs
elements _ = no_guards

pub other_guards : (gs : List Guard) (those : Guards) → length gs ≢ count_guards those → Decides false (conjunction (bare_guards (guards_of gs)) ≡ conjunction those)
other_guards gs those ne = (λ t. cc, λ e. absurd (ne (guards_counted gs ∙ ap (λ g. count_guards (elements g)) e)))

pub other_stmts : (ss : List Stmt) (those : Stmts) → length ss ≢ count_stmts those → Decides false (bare_stmts (stmts_of ss) ≡ those)
other_stmts ss those ne = (λ t. cc, λ e. absurd (ne (stmts_counted ss ∙ ap count_stmts e)))

pub other_terms : (ps : List Part) (t : Term) → length ps ≢ 1 → bare_sum (terms_of ps) ≢ sum_of_term t
other_terms ps t ne e = ne (terms_counted ps ∙ ap count_terms e)
