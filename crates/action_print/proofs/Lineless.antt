-- The canonical text of a program without its lines is the same.
use Rattle.std.proofs.Common.{◌≡◌, ◌∙◌, ℕ, Bool, List, [], ◌∷◌, ◌++◌, map, flat_map, codes, refl, ap, sym}
use Rattle.text_tokens.specs.Lines.{Words, section_text}
use Rattle.action_tree.specs.Trees.{DirTerm, fixed, held, Guard, atom, negation, conjunction, disjunction, quantified, tested, comparison, Guards, no_guards, guard_then, Sum, no_terms, term_then, Term, number, own, of_port, count, direction, inner, mod6, PortExpr, bound, at_end, turned, first, Stmt, put, put_of, let_be, if_then, for_each, Stmts, no_stmts, stmt_then, Move, no_move, through, contract, Var, Action, Program}
use Rattle.amoebot_state.specs.Ports.{end_word}
use Rattle.action_tree.specs.Writable.{is_conj, is_unit}
use Rattle.action_tree.specs.Lines.{bare_dirterm, bare_guard, bare_guards, bare_sum, bare_term, bare_port, bare_stmt, bare_stmts, bare_move, bare_var, bare_action, without_lines}
use Rattle.action_print.specs.Canon.{quantifier_word, test_word, cmp_sign, side_word, move_word, literal_word, dirterm_word, joined, in_parens, parens_unless, selection_words, first_sign, further_sign, guard_words, units, conjs, sum_words, further_terms, term_words, port_words, stmt_words, each_stmt, else_words, move_words, guard_line, var_line, do_lines, action_lines, program_lines, canon}
use Rattle.action_print.specs.ReadsBack.{CanonIgnoresLines}

-- two rows of tokens, one behind the other
both : {xs ys vs ws : Words} → xs ≡ ys → vs ≡ ws → xs ++ vs ≡ ys ++ ws
both {xs} {ys} {vs} {ws} one two = ap (λ (us : Words). us ++ vs) one ∙ ap (λ (us : Words). ys ++ us) two

-- two rows, the first before the others
one_more : {xs ys : Words} {vs ws : List Words} → xs ≡ ys → vs ≡ ws → xs ∷ vs ≡ ys ∷ ws
one_more {xs} {ys} {vs} {ws} one two = ap (λ (us : Words). us ∷ vs) one ∙ ap (λ (us : List Words). ys ∷ us) two

in_parens_or_not : {a b : Bool} {xs ys : Words} → a ≡ b → xs ≡ ys → parens_unless a xs ≡ parens_unless b ys
in_parens_or_not {a} {b} {xs} {ys} same one = ap (λ (c : Bool). parens_unless c xs) same ∙ ap (parens_unless b) one

-- ---- guards, sums and ports

unit_bare : (g : Guard) → is_unit (bare_guard g) ≡ is_unit g
unit_bare (atom a) = refl
unit_bare (negation g) = refl
unit_bare (conjunction gs) = refl
unit_bare (disjunction gs) = refl
unit_bare (quantified q v s g) = refl
unit_bare (tested t p) = refl
unit_bare (comparison a c b) = refl

conj_bare : (g : Guard) → is_conj (bare_guard g) ≡ is_conj g
conj_bare (atom a) = refl
conj_bare (negation g) = refl
conj_bare (conjunction gs) = refl
conj_bare (disjunction gs) = refl
conj_bare (quantified q v s g) = refl
conj_bare (tested t p) = refl
conj_bare (comparison a c b) = refl

dirterm_bare : (d : DirTerm) → dirterm_word (bare_dirterm d) ≡ dirterm_word d
dirterm_bare (fixed n) = refl
dirterm_bare (held v) = refl

mutual
  guard_bare : (g : Guard) → guard_words (bare_guard g) ≡ guard_words g
  guard_bare (atom a) = refl
  guard_bare (negation g) = ap (λ (ws : Words). codes "not" ∷ ws) (in_parens_or_not (unit_bare g) (guard_bare g))
  guard_bare (conjunction gs) = ap (joined (codes "and")) (units_bare gs)
  guard_bare (disjunction gs) = ap (joined (codes "or")) (conjs_bare gs)
  guard_bare (quantified q v s g) = ap (λ (ws : Words). quantifier_word q ∷ selection_words v.text s ws) (guard_bare g)
  guard_bare (tested t p) = ap (λ (ws : Words). test_word t ∷ ws) (port_bare p)
  guard_bare (comparison a c b) = both (sum_bare a) (ap (λ (ws : Words). cmp_sign c ∷ ws) (sum_bare b))

  units_bare : (gs : Guards) → units (bare_guards gs) ≡ units gs
  units_bare no_guards = refl
  units_bare (guard_then g gs) = one_more (in_parens_or_not (unit_bare g) (guard_bare g)) (units_bare gs)

  conjs_bare : (gs : Guards) → conjs (bare_guards gs) ≡ conjs gs
  conjs_bare no_guards = refl
  conjs_bare (guard_then g gs) = one_more (in_parens_or_not (conj_bare g) (guard_bare g)) (conjs_bare gs)

  sum_bare : (s : Sum) → sum_words (bare_sum s) ≡ sum_words s
  sum_bare no_terms = refl
  sum_bare (term_then minus t s) = ap (λ (ws : Words). first_sign minus ++ ws) (both (term_bare t) (further_bare s))

  further_bare : (s : Sum) → further_terms (bare_sum s) ≡ further_terms s
  further_bare no_terms = refl
  further_bare (term_then minus t s) = ap (λ (ws : Words). further_sign minus ∷ ws) (both (term_bare t) (further_bare s))

  term_bare : (t : Term) → term_words (bare_term t) ≡ term_words t
  term_bare (number n) = refl
  term_bare (own v) = refl
  term_bare (of_port p v) = ap (λ (ws : Words). ws ++ codes "." ∷ v.text ∷ []) (port_bare p)
  term_bare (count v s g) = ap (λ (ws : Words). codes "count" ∷ selection_words v.text s ws) (guard_bare g)
  term_bare (direction side p) = ap (λ (ws : Words). side_word side ∷ ws) (port_bare p)
  term_bare inner = refl
  term_bare (mod6 s) = ap (λ (ws : Words). codes "mod6" ∷ in_parens ws) (sum_bare s)

  port_bare : (p : PortExpr) → port_words (bare_port p) ≡ port_words p
  port_bare (bound v) = refl
  port_bare (at_end e d) = ap (λ (w : List ℕ). end_word e ∷ w ∷ []) (dirterm_bare d)
  port_bare (turned p n) = ap (λ (ws : Words). codes "turn" ∷ ws ++ literal_word n ∷ []) (port_bare p)
  port_bare (first v s g) = ap (λ (ws : Words). codes "first" ∷ selection_words v.text s ws) (guard_bare g)

-- ---- statements, and the movement

mutual
  stmt_bare : (s : Stmt) → stmt_words (bare_stmt s) ≡ stmt_words s
  stmt_bare (put v s) = ap (λ (ws : Words). v.text ∷ codes ":=" ∷ ws) (sum_bare s)
  stmt_bare (put_of p v s) = both (port_bare p) (ap (λ (ws : Words). codes "." ∷ v.text ∷ codes ":=" ∷ ws) (sum_bare s))
  stmt_bare (let_be v p) = ap (λ (ws : Words). codes "let" ∷ v.text ∷ codes ":=" ∷ ws) (port_bare p)
  stmt_bare (if_then g ss es) =
      ap (λ (ws : Words). codes "if" ∷ ws)
      (both (guard_bare g) (ap (λ (ws : Words). codes "then" ∷ ws)
      (both (ap (joined (codes ";")) (each_bare ss)) (ap (λ (ws : Words). ws ++ codes "fi" ∷ []) (else_bare es)))))
  stmt_bare (for_each v s g ss) =
      ap (λ (ws : Words). codes "for" ∷ ws)
      (both (ap (selection_words v.text s) (guard_bare g))
      (ap (λ (rows : List Words). codes "do" ∷ joined (codes ";") rows ++ codes "od" ∷ []) (each_bare ss)))

  each_bare : (ss : Stmts) → each_stmt (bare_stmts ss) ≡ each_stmt ss
  each_bare no_stmts = refl
  each_bare (stmt_then s ss) = one_more (stmt_bare s) (each_bare ss)

  else_bare : (ss : Stmts) → else_words (bare_stmts ss) ≡ else_words ss
  else_bare no_stmts = refl
  else_bare (stmt_then s ss) = ap (λ (rows : List Words). codes "else" ∷ joined (codes ";") rows) (one_more (stmt_bare s) (each_bare ss))

move_bare : (m : Move) → move_words (bare_move m) ≡ move_words m
move_bare no_move = refl
move_bare (through m p) = ap (λ (ws : Words). move_word m ∷ ws) (port_bare p)
move_bare (contract e) = refl

-- ---- lines

do_bare : (ss : Stmts) → do_lines (bare_stmts ss) ≡ do_lines ss
do_bare no_stmts = refl
do_bare (stmt_then s ss) = ap (λ (rows : List Words). (codes "do" ∷ joined (codes ";") rows) ∷ []) (each_bare (stmt_then s ss))

-- two rows of lines, one behind the other
lines_both : {xs ys vs ws : List Words} → xs ≡ ys → vs ≡ ws → xs ++ vs ≡ ys ++ ws
lines_both {xs} {ys} {vs} {ws} one two = ap (λ (us : List Words). us ++ vs) one ∙ ap (λ (us : List Words). ys ++ us) two

action_bare : (a : Action) → action_lines (bare_action a) ≡ action_lines a
action_bare a =
    let moved : (codes "move" ∷ move_words (bare_move a.moved)) ∷ [] ≡ (codes "move" ∷ move_words a.moved) ∷ [] = ap (λ (ws : Words). (codes "move" ∷ ws) ∷ []) (move_bare a.moved) in
    ap (λ (rows : List Words). (codes "action" ∷ a.name.text ∷ []) ∷ rows)
    (one_more (ap (λ (ws : Words). codes "when" ∷ ws) (guard_bare a.guard)) (lines_both (do_bare a.body) moved))

vars_bare : (vs : List Var) → map var_line (map bare_var vs) ≡ map var_line vs
vars_bare [] = refl
vars_bare (v ∷ vs) = ap (λ (rows : List Words). var_line v ∷ rows) (vars_bare vs)

actions_bare : (actions : List Action) → flat_map action_lines (map bare_action actions) ≡ flat_map action_lines actions
actions_bare [] = refl
actions_bare (a ∷ actions) = lines_both (action_bare a) (actions_bare actions)

program_bare : (p : Program) → program_lines (without_lines p) ≡ program_lines p
program_bare p = ap (λ (rows : List Words). guard_line p.guard ∷ rows) (lines_both (vars_bare p.vars) (actions_bare p.actions))

-- ---- the law

canon_bare : (p : Program) → canon (without_lines p) ≡ canon p
canon_bare p = ap (section_text (codes "program")) (program_bare p)

pub canon_ignores_lines : CanonIgnoresLines
canon_ignores_lines p q same = sym (canon_bare p) ∙ ap canon same ∙ canon_bare q
