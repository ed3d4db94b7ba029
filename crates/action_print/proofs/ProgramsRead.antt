-- The same of movements, actions and whole programs, and the law of reading back.
use Rattle.std.proofs.Common.{Ok, ◌&&◌, ◌≡◌, ℕ, zero, suc, ◌≤◌, Bool, true, false, List, [], ◌∷◌, ◌++◌, length, map, codes, flat_map, refl, sym, ap, subst, ◌∙◌, arith, append_assoc}
use Rattle.std.specs.List.{list_all}
use Rattle.std.proofs.lemmas.Bool.{leb-true}
use Rattle.std.proofs.lemmas.Grind.{flat_map-append}
use Rattle.std.proofs.lemmas.List.{append-nil}
use Rattle.text_tokens.specs.Lines.{Words}
use Rattle.text_tokens.specs.Grammar.{then, made, of_first, of_second, is_nothing, in_limit, no_more, one_more, AtMost}
use Rattle.amoebot_state.specs.Limits.{most_vars}
use Rattle.action_tree.specs.Trees.{Stmts, no_stmts, stmt_then, Move, no_move, through, contract, Var, Action, Program}
use Rattle.action_tree.specs.Lines.{bare_move, bare_var, bare_action, without_lines}
use Rattle.action_tree.specs.Productions.{names_left_after_all}
use Rattle.action_tree.specs.Limits.{most_levels, most_names, most_elements, most_actions}
use Rattle.action_tree.specs.Writable.{named, is_guard, is_count_from, stmt_count, are_stmts, is_move, move_levels, move_names, stmts_names, stmts_levels, action_levels, action_names, is_var, is_action, is_writable}
use Rattle.action_tree.proofs.Conditions.{left_of, right_of, upto}
use Rattle.action_tree.proofs.ProducedStatements.{rest_of_all}
use Rattle.action_tree.specs.declared.role.Role.TheVariants.{DoWord, MoveWord, NoneWord, ContractWord, ProgramWord, GuardWord, VarWord, ActionWord, WhenWord, LastWord}
use Rattle.action_tree.specs.Roles.{as_port_move, as_end}
use Rattle.action_tree.specs.Expressions.{IsExpr}
use Rattle.action_tree.specs.Programs.{IsMove, is_none, is_through, is_contract, IsBody, IsMovement, IsAction, parsed_action, IsVar, parsed_var, IsGuarded, IsProgram, parsed_program}
use Rattle.action_tree.proofs.ProgramLaws.{exact_program}
use Rattle.action_print.specs.Canon.{guard_words, stmts_words, move_words, guard_line, var_line, do_lines, action_lines, program_lines}
use Rattle.action_print.specs.ReadsBack.{CanonReadsBack, CanonIsRead}
use Rattle.text_tokens.proofs.Exactness.{none_stops}
use Rattle.text_tokens.proofs.LinesLemmas.{Rereads, RereadsLines, rereads_by, rereads_two, rereads_none, reread_lines, lines_found, rereads_kept}
use Rattle.text_tokens.proofs.InSequence.{rereads_three, rereads_five, rereads_six}
use Rattle.action_print.proofs.Leaves.{a_word, free_of, a_name, a_number, an_end, a_port_move, a_switch}
use Rattle.action_print.proofs.ExpressionsRead.{IsGuardOf, port_read}
use Rattle.action_print.proofs.StatementsRead.{AreStmtsOf, after_all_same, expr_read, stmts_read}

-- ---- movements

abbrev IsMoveOf : Move → Move → Type 0
IsMoveOf m k = bare_move k ≡ bare_move m

move_read : (m : Move) (n left : ℕ) → move_levels m ≤ n → move_names m ≤ left → is_move m ≡ true → Rereads (IsMove n left) (IsMoveOf m) (move_words m)
move_read no_move n left l k f = rereads_by (λ t. no_move) (λ xs t p. is_none (made t p)) (λ t s. refl) (a_word free_of NoneWord (codes "none") refl refl)
move_read (through m p) n left l k f = rereads_two (λ t q. through (as_port_move t) q) (λ xs ys t q a b. is_through (then t a (made q b))) (λ t q a b. (cc)) (a_port_move m) (port_read p n left l k f)
move_read (contract e) n left l k f = rereads_two (λ t u. contract (as_end u)) (λ xs ys t u a b. is_contract (then t a (made u b))) (λ t u a b. ap contract b) (a_word free_of ContractWord (codes "contract") refl refl) (an_end e)

moved_read : (n left : ℕ) (m : Move) → Rereads (IsMove n left) (IsMoveOf m) (move_words m) → Rereads (IsMovement n left) (IsMoveOf m) (codes "move" ∷ move_words m)
moved_read n left m moved = rereads_two (λ t k. k) (λ xs ys t k a b. of_first (then t a b)) (λ t k a b. b) (a_word free_of MoveWord (codes "move") refl refl) moved

-- ---- actions

-- the statements of an action, behind `do`
abbrev body_words : Stmts → Words
body_words no_stmts = []
body_words (stmt_then s ss) = codes "do" ∷ stmts_words (stmt_then s ss)

body_read : (ss : Stmts) (n left more : ℕ) → stmts_levels ss ≤ n → stmts_names more ss ≤ left → stmt_count ss ≤ 64 → are_stmts ss ≡ true → Rereads (IsBody n left) (AreStmtsOf ss) (body_words ss)
body_read no_stmts n left more l m k f = rereads_none no_stmts (of_second is_nothing) refl
body_read (stmt_then s ss) n left more l m k f =
    rereads_two (λ t ts. ts) (λ xs ys t ts a b. of_first (then t a b)) (λ t ts a b. b) (a_word free_of DoWord (codes "do") refl refl) (stmts_read (stmt_then s ss) n left more l m k (omega arith) f)

abbrev action_words : Action → Words
action_words a = codes "action" ∷ a.name.text ∷ codes "when" ∷ guard_words a.guard ++ (body_words a.body ++ codes "move" ∷ move_words a.moved)

abbrev IsActionOf : Action → Action → Type 0
IsActionOf a b = bare_action b ≡ bare_action a

parts_read : (a : Action) → named a.name ≡ true → Rereads (IsExpr most_levels most_names) (IsGuardOf a.guard) (guard_words a.guard) → Rereads (IsBody most_levels most_names) (AreStmtsOf a.body) (body_words a.body)
    → Rereads (IsMovement most_levels (names_left_after_all most_names a.body)) (IsMoveOf a.moved) (codes "move" ∷ move_words a.moved) → Rereads (IsAction most_levels most_names) (IsActionOf a) (action_words a)
parts_read a e guard body moved =
    rereads_six (λ t v w g ss m. parsed_action v g ss m)
    (λ xs ys zs ls ms ns t v w g ss m p q r s u x. then t p (then v q (then w r (then g s (then ss u.is (made m (subst (λ (left : ℕ). IsMovement most_levels left ns m) (sym (after_all_same most_names a.body ss u.holds)) x)))))))
    (λ t v w g ss m p q r s u x. (cc)) (a_word free_of ActionWord (codes "action") refl refl) (a_name free_of a.name e) (a_word free_of WhenWord (codes "when") refl refl) guard (rereads_kept body) moved

formed_read : (a : Action) → action_levels a ≤ most_levels → action_names a ≤ most_names → (named a.name && is_guard a.guard && is_count_from 0 (stmt_count a.body) && are_stmts a.body && is_move a.moved) ≡ true
    → Rereads (IsAction most_levels most_names) (IsActionOf a) (action_words a)
formed_read a l m f =
    parts_read a (left_of _ _ (left_of _ _ (left_of _ _ (left_of _ _ f)))) (expr_read a.guard most_levels most_names (omega (arith, l)) (omega (arith, m)) (right_of _ _ (left_of _ _ (left_of _ _ (left_of _ _ f)))))
    (body_read a.body most_levels most_names (move_names a.moved) (omega (arith, l)) (omega (arith, m)) (upto 0 _ most_elements (right_of _ _ (left_of _ _ (left_of _ _ f)))) (right_of _ _ (left_of _ _ f)))
    (moved_read most_levels (names_left_after_all most_names a.body) a.moved (move_read a.moved most_levels (names_left_after_all most_names a.body) (omega (arith, l)) (rest_of_all a.body most_names (move_names a.moved) (omega (arith, m))) (right_of _ _ f)))

action_read : (a : Action) → is_action a ≡ true → Rereads (IsAction most_levels most_names) (IsActionOf a) (action_words a)
action_read a is = formed_read a (leb-true _ most_levels (right_of _ _ (left_of _ _ is))) (leb-true _ most_names (right_of _ _ is)) (left_of _ _ (left_of _ _ is))

-- ---- the tokens of lines, one line behind the other

abbrev all_words : List Words → Words
all_words lines = flat_map (λ line. line) lines

abbrev IsVarOf : Var → Var → Type 0
IsVarOf v w = bare_var w ≡ bare_var v

var_read : (v : Var) → is_var v ≡ true → Rereads IsVar (IsVarOf v) (var_line v)
var_read v f = rereads_three (λ t u m. parsed_var u m) (λ xs ys zs t u m a b c. then t a (then u b (made m c))) (λ t u m a b c. (cc)) (a_word free_of VarWord (codes "var") refl refl) (a_name free_of v.name (left_of _ _ f)) (a_number v.max (right_of _ _ f))

vars_read : (vs : List Var) (room : ℕ) → length vs ≤ room → list_all is_var vs ≡ true → Rereads (AtMost room IsVar) (λ ws. map bare_var ws ≡ map bare_var vs) (all_words (map var_line vs))
vars_read [] room k f = rereads_none [] no_more refl
vars_read (v ∷ vs) zero k f = absurd (omega (arith, k))
vars_read (v ∷ vs) (suc room) k f = rereads_two (λ w ws. w ∷ ws) (λ xs ys w ws a b. one_more w (in_limit a) b) (λ w ws a b. (cc)) (var_read v (left_of _ _ f)) (vars_read vs room (omega (arith, k)) (right_of _ _ f))

action_lines_are : (a : Action) → all_words (action_lines a) ≡ action_words a
action_lines_are a = by_body a.body
  where
    by_body : (ss : Stmts) → codes "action" ∷ a.name.text ∷ codes "when" ∷ guard_words a.guard ++ all_words (do_lines ss ++ (codes "move" ∷ move_words a.moved) ∷ []) ≡ codes "action" ∷ a.name.text ∷ codes "when" ∷ guard_words a.guard ++ (body_words ss ++ codes "move" ∷ move_words a.moved)
    by_body no_stmts = ap (λ (ws : Words). codes "action" ∷ a.name.text ∷ codes "when" ∷ guard_words a.guard ++ codes "move" ∷ ws) (append-nil (move_words a.moved))
    by_body (stmt_then s ss) = ap (λ (ws : Words). codes "action" ∷ a.name.text ∷ codes "when" ∷ guard_words a.guard ++ (codes "do" ∷ stmts_words (stmt_then s ss) ++ codes "move" ∷ ws)) (append-nil (move_words a.moved))

actions_read : (actions : List Action) (room : ℕ) → length actions ≤ room → list_all is_action actions ≡ true
    → Rereads (AtMost room (IsAction most_levels most_names)) (λ others. map bare_action others ≡ map bare_action actions) (all_words (flat_map action_lines actions))
actions_read [] room k f = rereads_none [] no_more refl
actions_read (a ∷ actions) zero k f = absurd (omega (arith, k))
actions_read (a ∷ actions) (suc room) k f =
    let words : action_words a ++ all_words (flat_map action_lines actions) ≡ all_words (flat_map action_lines (a ∷ actions)) =
    ap (λ (ws : Words). ws ++ all_words (flat_map action_lines actions)) (sym (action_lines_are a)) ∙ sym (flat_map-append (λ line. line) (action_lines a) (flat_map action_lines actions)) in
    subst (λ (ws : Words). Rereads (AtMost (suc room) (IsAction most_levels most_names)) (λ others. map bare_action others ≡ map bare_action (a ∷ actions)) ws) words
    (rereads_two (λ b others. b ∷ others) (λ xs ys b others p q. one_more b (in_limit p) q) (λ b others p q. (cc)) (action_read a (left_of _ _ f)) (actions_read actions room (omega (arith, k)) (right_of _ _ f)))

-- ---- programs

guarded_read : (guarded : Bool) → Rereads IsGuarded (λ b. b ≡ guarded) (guard_line guarded)
guarded_read true = rereads_two {T = λ b. b ≡ true} (λ t b. b) (λ xs ys t b p q. of_first (then t p q)) (λ t b p q. q) (a_word free_of GuardWord (codes "guard") refl refl) (rereads_by _ (λ xs t p. made t p) (λ t e. e) (a_switch true (codes "on") refl refl refl))
guarded_read false = rereads_two {T = λ b. b ≡ false} (λ t b. b) (λ xs ys t b p q. of_first (then t p q)) (λ t b p q. q) (a_word free_of GuardWord (codes "guard") refl refl) (rereads_by _ (λ xs t p. made t p) (λ t e. e) (a_switch false (codes "off") refl refl refl))

-- the lines of a program, with its first and its last
abbrev pub all_lines : Program → List Words
all_lines p = (codes "program" ∷ []) ∷ program_lines p ++ (codes "end" ∷ []) ∷ []

abbrev program_words : Program → Words
program_words p = codes "program" ∷ guard_line p.guard ++ (all_words (map var_line p.vars) ++ (all_words (flat_map action_lines p.actions) ++ codes "end" ∷ []))

program_lines_are : (p : Program) → all_words (all_lines p) ≡ program_words p
program_lines_are p =
    let vars = map var_line p.vars in
    let actions = flat_map action_lines p.actions in
    ap (λ (ws : Words). codes "program" ∷ guard_line p.guard ++ ws)
    (flat_map-append (λ line. line) (vars ++ actions) ((codes "end" ∷ []) ∷ []) ∙ ap (λ (ws : Words). ws ++ codes "end" ∷ []) (flat_map-append (λ line. line) vars actions) ∙ append_assoc (all_words vars) (all_words actions) (codes "end" ∷ []))

program_read : (p : Program) → is_writable p ≡ true → Rereads IsProgram (λ q. without_lines q ≡ without_lines p) (program_words p)
program_read p f =
    let few = left_of _ _ f in
    let vs = left_of _ _ few in
    rereads_five (λ t guarded vars actions e. parsed_program guarded vars actions) (λ xs ys zs ls ms t guarded vars actions e a b c d k. then t a (then guarded b (then vars c (then actions d (made e k))))) (λ t guarded vars actions e a b c d k. (cc))
    (a_word free_of ProgramWord (codes "program") refl refl) (guarded_read p.guard) (vars_read p.vars most_vars (leb-true _ most_vars (left_of _ _ vs)) (right_of _ _ vs))
    (actions_read p.actions most_actions (leb-true _ most_actions (right_of _ _ few)) (right_of _ _ f)) (a_word free_of LastWord (codes "end") refl refl)

pub canon_lines : (p : Program) → is_writable p ≡ true → RereadsLines IsProgram (λ q. without_lines q ≡ without_lines p) (all_lines p)
canon_lines p f = reread_lines (all_lines p) (subst (λ (words : Words). Rereads IsProgram (λ q. without_lines q ≡ without_lines p) words) (sym (program_lines_are p)) (program_read p f))

-- ---- the law

pub canon_reads_back : CanonReadsBack
canon_reads_back p f ts last are =
    let found = lines_found (all_lines p) (canon_lines p f) ts last are in
    let r = found.0 in
    record {
      program = r.value;
      text = record { us = ts; parts = sym (append-nil ts); whole = r.whole; stops = none_stops IsProgram ts };
      same = r.holds;
      ends = found.1;
    }

pub canon_is_read : CanonIsRead
canon_is_read p f ts last are = let r = canon_reads_back p f ts last are in (r.program, exact_program.only last ts (Ok (r.program, [])) r.text, r.same)
