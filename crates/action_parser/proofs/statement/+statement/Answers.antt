use Rattle.std.proofs.Common.{◌≡◌, ◌-◌, ◌++◌, ◌∷◌, [], ℕ, List, map, Ok, Err, Vec, sym, ap, subst, refl, ◌∙◌}
use Rattle.std.specs.declared.alloc.Global.{Global}
use Rattle.std.proofs.lemmas.Result.{err_from_is_err_and}
use Rattle.text_tokens.specs.Reading.{Reader, ◌>>=◌, one, opening_token, less, optional}
use Rattle.text_tokens.specs.Steps.{lexeme_of}
use Rattle.text_tokens.proofs.LoopLemmas.{StillReads, less_is}
use Rattle.text_tokens.proofs.Rows.{all_left, past_part, part_fails, gives_left}
use Rattle.action_tree.specs.declared.statement.Stmt.{Stmt}
use Rattle.action_tree.specs.Trees as tree
use Rattle.action_tree.specs.Productions.{names_left_after}
use Rattle.action_tree.specs.Limits.{most_further}
use Rattle.action_tree.specs.Views.{guard_of, port_of, stmt_of, stmts_of}
use Rattle.action_tree.specs.declared.role.Role.TheVariants.{AName, SemicolonSign, LetWord, IfWord, ThenWord, ElseWord, FiWord, ForWord, DoWord, OdWord}
use Rattle.action_tree.specs.Roles.{is_a}
use Rattle.action_tree.specs.ExpressionReaders.{port_at, selection_at, expr_at}
use Rattle.action_tree.specs.StatementReaders.{begins_stmt, put_member, else_part, an_if, a_for, stmt_by, a_stmt, scope_behind, stmts_inside, stmts_at}
use Rattle.action_parser.specs.Selections.{selection_of}
use Rattle.action_parser.proofs.Lists.{more_stmts, all_listed}
use Rattle.action_parser.proofs.Tokens.{all_read}
use Rattle.action_parser.proofs.Elements.{stmt_elements}
use Rattle.action_parser.proofs.Levels.{next_is, chosen, chosen_as, none_chosen, none_begins, gives_stmts, gives_bound_stmts, gives_level, port_stmt, stmt_rest}
use Rattle.action_parser.proofs.Behind.{none_comes, sign_fails, one_too_many, element_fails, one_read, left_out, word_fails, behind_word}
use Rattle.action_parser.proofs.ListsLemmas.{next_found, all_found, next_fails, view_pushed, begins_with, stmts_read, stmts_fails}
use Rattle.action_parser.proofs.statement.+statement.Goals as goal

-- ---- more_stmt

pub more_stmt-returns-then-not-is_next-clause-reads : goal.more_stmt-returns-then-not-is_next-clause-reads
more_stmt-returns-then-not-is_next-clause-reads t w = none_comes (is_a SemicolonSign) begins_stmt w.args.levels w.args.room (λ sign. a_stmt w.args.levels w.args.names (stmts_inside w.args.levels)) w.args.tokens.now (sym w.is_next.ensures ∙ w.if-not-is_next.true)

pub more_stmt-returns-in_err-token-clause-reads : goal.more_stmt-returns-in_err-token-clause-reads
more_stmt-returns-in_err-token-clause-reads t w =
    let p = err_from_is_err_and w.from_residual.result w.from_residual.ensures.1 in
    rw (p.1, p.2) (sign_fails (is_a SemicolonSign) begins_stmt w.args.levels w.args.room (λ sign. a_stmt w.args.levels w.args.names (stmts_inside w.args.levels)) w.args.tokens.now (sym w.is_next.ensures ∙ w.if-not-is_next.false) w.in_err-token.field-0.0 w.in_err-token.ensures.reads)

pub more_stmt-returns-then-room-eq0-clause-reads : goal.more_stmt-returns-then-room-eq0-clause-reads
more_stmt-returns-then-room-eq0-clause-reads t w = rw w.into.ensures (one_too_many (is_a SemicolonSign) begins_stmt w.args.levels w.args.room (λ sign. a_stmt w.args.levels w.args.names (stmts_inside w.args.levels)) w.args.tokens.now (sym w.is_next.ensures ∙ w.if-not-is_next.false) w.in_ok-token.ensures.reads w.full_stmts.result w.if-room-eq0.true w.full_stmts.ensures)

pub more_stmt-returns-in_err-read_stmt-clause-reads : goal.more_stmt-returns-in_err-read_stmt-clause-reads
more_stmt-returns-in_err-read_stmt-clause-reads t w =
    let p = err_from_is_err_and w.from_residual-in_err-read_stmt.result w.from_residual-in_err-read_stmt.ensures.1 in
    rw (p.1, p.2) (element_fails (is_a SemicolonSign) begins_stmt w.args.levels w.args.room (λ sign. a_stmt w.args.levels w.args.names (stmts_inside w.args.levels)) w.args.tokens.now (sym w.is_next.ensures ∙ w.if-not-is_next.false) w.in_ok-token.ensures.reads w.if-room-eq0.false w.in_err-read_stmt.field-0.0 w.in_err-read_stmt.ensures)

pub more_stmt-returns-clause-reads : goal.more_stmt-returns-clause-reads
more_stmt-returns-clause-reads t w = one_read (is_a SemicolonSign) begins_stmt w.args.levels w.args.room (λ sign. a_stmt w.args.levels w.args.names (stmts_inside w.args.levels)) w.args.tokens.now (sym w.is_next.ensures ∙ w.if-not-is_next.false) w.in_ok-token.ensures.reads w.if-room-eq0.false w.in_ok-read_stmt.ensures

-- ---- read_stmts

pub read_stmts-returns-in_err-first : goal.read_stmts-returns-in_err-first
read_stmts-returns-in_err-first t w =
    let p = err_from_is_err_and w.from_residual.result w.from_residual.ensures.1 in
    let e = w.in_err-first.field-0.0 in
    rw (p.1, p.2) (stmts_fails w.args.levels w.args.names e (part_fails (a_stmt w.args.levels w.args.names (stmts_inside w.args.levels)) _ (all_left (all_listed w.args.levels w.args.names) w.args.tokens.now) e w.read_stmt.new.tokens w.in_err-first.ensures))

pub read_stmts-loop-found-init : goal.read_stmts-loop-found-init
read_stmts-loop-found-init t w =
    let s = w.in_ok-first.first in
    let items : w.push.new.self.items ≡ s ∷ [] = w.in_ok-push.ensures.items ∙ ap (λ (xs : List Stmt). xs ++ s ∷ []) w.new-found.ensures.items in
    let begun = begins_with (all_listed w.args.levels w.args.names) (more_stmts w.args.levels (record { room = most_further; left = names_left_after w.args.names (stmt_of s) })) w.args.tokens.now w.read_stmt.new.tokens (stmt_of s) (map stmt_of w.push.new.self.items) (ap (λ (xs : List Stmt). map stmt_of xs) items)
    (past_part (a_stmt w.args.levels w.args.names (stmts_inside w.args.levels)) _ (all_left (all_listed w.args.levels w.args.names) w.args.tokens.now) (stmt_of s) w.read_stmt.new.tokens w.in_ok-first.ensures) in
    rw (w.further_stmts-room.ensures, w.names_after-left.ensures) begun

pub read_stmts-returns-in_err-next : goal.read_stmts-returns-in_err-next
read_stmts-returns-in_err-next t w =
    let p = err_from_is_err_and w.from_residual-in_err-next.result w.from_residual-in_err-next.ensures.1 in
    let e = w.in_err-next.field-0.0 in
    rw (p.1, p.2) (stmts_fails w.args.levels w.args.names e (next_fails (stmt_elements w.args.levels w.args.names) scope_behind (record { room = w.loop-found.room; left = w.loop-found.left }) w.loop-found.invariant e w.in_err-next.ensures.reads))

pub read_stmts-loop-found-preserved : goal.read_stmts-loop-found-preserved
read_stmts-loop-found-preserved t w =
    let h = w.in-Some.next in
    let found = map stmt_of w.push-in-Some.new.self.items in
    let next = rw w.in-Some.is at w.in_ok-next.ensures.reads in
    let more = next_found (stmt_elements w.args.levels w.args.names) scope_behind (record { room = w.loop-found.room; left = w.loop-found.left }) w.loop-found.invariant next found (view_pushed stmt_of w.loop-found.found.items h w.in_ok-push-2.ensures.items) in
    let left : names_left_after w.loop-found.left (stmt_of h) ≡ w.names_after-left-in-Some.result = sym w.names_after-left-in-Some.ensures in
    subst (λ (l : ℕ). StillReads (all_listed w.args.levels w.args.names) w.args.tokens.now found (more_stmts w.args.levels (record { room = w.loop-found.room - 1; left = l })) w.more_stmt.new.tokens) left
    (subst (λ (room : ℕ). StillReads (all_listed w.args.levels w.args.names) w.args.tokens.now found (more_stmts w.args.levels (record { room = room; left = names_left_after w.loop-found.left (stmt_of h) })) w.more_stmt.new.tokens) (less_is w.loop-found.room) more)

pub read_stmts-returns : goal.read_stmts-returns
read_stmts-returns t w =
    let next = rw w.in_default.is at w.in_ok-next.ensures.reads in
    stmts_read w.args.levels w.args.names (all_found (stmt_elements w.args.levels w.args.names) scope_behind (record { room = w.loop-found.room; left = w.loop-found.left }) w.loop-found.invariant next) refl

-- ---- read_stmt

pub read_stmt-returns-in-AName : goal.read_stmt-returns-in-AName
unfolding a_stmt
read_stmt-returns-in-AName t w = gives_left stmt_of w.put_behind.result w.put_behind.new.tokens (chosen (stmt_by w.args.levels w.args.names (stmts_inside w.args.levels)) w.args.tokens.now AName (next_is w.next_role.ensures w.in-Some.is w.in-AName.is)) w.put_behind.ensures

pub read_stmt-returns-in-LetWord : goal.read_stmt-returns-in-LetWord
unfolding a_stmt
read_stmt-returns-in-LetWord t w = gives_left stmt_of w.read_let.result w.read_let.new.tokens (chosen (stmt_by w.args.levels w.args.names (stmts_inside w.args.levels)) w.args.tokens.now LetWord (next_is w.next_role.ensures w.in-Some.is w.in-LetWord.is)) w.read_let.ensures

pub read_stmt-returns-in-IfWord : goal.read_stmt-returns-in-IfWord
unfolding a_stmt
read_stmt-returns-in-IfWord t w = gives_left stmt_of w.read_if.result w.read_if.new.tokens (chosen (stmt_by w.args.levels w.args.names (stmts_inside w.args.levels)) w.args.tokens.now IfWord (next_is w.next_role.ensures w.in-Some.is w.in-IfWord.is)) w.read_if.ensures

pub read_stmt-returns-in-ForWord : goal.read_stmt-returns-in-ForWord
unfolding a_stmt
read_stmt-returns-in-ForWord t w = gives_left stmt_of w.read_for.result w.read_for.new.tokens (chosen (stmt_by w.args.levels w.args.names (stmts_inside w.args.levels)) w.args.tokens.now ForWord (next_is w.next_role.ensures w.in-Some.is w.in-ForWord.is)) w.read_for.ensures

pub read_stmt-returns-in_err-port-in-EndWord : goal.read_stmt-returns-in_err-port-in-EndWord
unfolding a_stmt
read_stmt-returns-in_err-port-in-EndWord t w =
    let p = err_from_is_err_and w.from_residual.result w.from_residual.ensures.1 in
    let l0 = chosen_as (stmt_by w.args.levels w.args.names (stmts_inside w.args.levels)) w.args.tokens.now w.in-Some.role (port_at w.args.levels w.args.names >>= put_member w.args.levels w.args.names) (sym w.next_role.ensures ∙ w.in-Some.is) (port_stmt w.args.levels w.args.names (stmts_inside w.args.levels) w.in-Some.role w.in-EndWord.is) in
    rw (p.1, p.2) (part_fails (port_at w.args.levels w.args.names) _ l0 w.in_err-port-in-EndWord.field-0.0 w.read_port.new.tokens w.in_err-port-in-EndWord.ensures)

pub read_stmt-returns-in_ok-port-in-EndWord : goal.read_stmt-returns-in_ok-port-in-EndWord
unfolding a_stmt
read_stmt-returns-in_ok-port-in-EndWord t w =
    let l0 = chosen_as (stmt_by w.args.levels w.args.names (stmts_inside w.args.levels)) w.args.tokens.now w.in-Some.role (port_at w.args.levels w.args.names >>= put_member w.args.levels w.args.names) (sym w.next_role.ensures ∙ w.in-Some.is) (port_stmt w.args.levels w.args.names (stmts_inside w.args.levels) w.in-Some.role w.in-EndWord.is) in
    let l1 = past_part (port_at w.args.levels w.args.names) _ l0 (port_of w.in_ok-port-in-EndWord.port) w.read_port.new.tokens w.in_ok-port-in-EndWord.ensures in
    gives_left stmt_of w.put_of.result w.put_of.new.tokens l1 w.put_of.ensures

pub read_stmt-returns-in_default : goal.read_stmt-returns-in_default
unfolding a_stmt
read_stmt-returns-in_default t w = none_chosen (stmt_by w.args.levels w.args.names (stmts_inside w.args.levels)) w.args.tokens.now w.unexpected.result (sym w.next_role.ensures ∙ w.in_default.is) w.unexpected.ensures

pub read_stmt-returns-in_default-role : goal.read_stmt-returns-in_default-role
unfolding a_stmt
read_stmt-returns-in_default-role t w =
    let d = w.in_default-role in
    none_begins (stmt_by w.args.levels w.args.names (stmts_inside w.args.levels)) w.args.tokens.now w.in-Some.role w.unexpected-in_default-role.result (sym w.next_role.ensures ∙ w.in-Some.is) (stmt_rest w.args.levels w.args.names (stmts_inside w.args.levels) w.in-Some.role d.not-AName d.not-EndWord d.not-TurnWord d.not-FirstWord d.not-LetWord d.not-IfWord d.not-ForWord) w.unexpected-in_default-role.ensures

-- ---- read_if

pub read_if-returns-in_err-open : goal.read_if-returns-in_err-open
unfolding an_if
read_if-returns-in_err-open t w =
    let p = err_from_is_err_and w.from_residual.result w.from_residual.ensures.1 in
    let l0 = all_left (an_if w.args.levels w.args.names (stmts_inside w.args.levels)) w.args.tokens.now in
    rw (p.1, p.2) (part_fails (opening_token w.args.levels (is_a IfWord)) _ l0 w.in_err-open.field-0.0 w.open.new.tokens w.in_err-open.ensures.reads)

pub read_if-returns-in_err-guard : goal.read_if-returns-in_err-guard
unfolding an_if
read_if-returns-in_err-guard t w =
    let p = err_from_is_err_and w.from_residual-in_err-guard.result w.from_residual-in_err-guard.ensures.1 in
    let l0 = all_left (an_if w.args.levels w.args.names (stmts_inside w.args.levels)) w.args.tokens.now in
    let l1 = past_part (opening_token w.args.levels (is_a IfWord)) _ l0 (lexeme_of w.args.tokens.now.source w.in_ok-open.field-0) w.open.new.tokens w.in_ok-open.ensures.reads in
    rw (p.1, p.2) (part_fails (expr_at (less w.args.levels) w.args.names) _ l1 w.in_err-guard.field-0.0 w.read_guard.new.tokens (gives_level (λ (n : ℕ). expr_at n w.args.names) guard_of w.args.levels w.open.new.tokens w.read_guard.new.tokens (Err w.in_err-guard.field-0.0) w.in_err-guard.ensures))

pub read_if-returns-in_err-token : goal.read_if-returns-in_err-token
unfolding an_if
read_if-returns-in_err-token t w =
    let p = err_from_is_err_and w.from_residual-in_err-token.result w.from_residual-in_err-token.ensures.1 in
    let l0 = all_left (an_if w.args.levels w.args.names (stmts_inside w.args.levels)) w.args.tokens.now in
    let l1 = past_part (opening_token w.args.levels (is_a IfWord)) _ l0 (lexeme_of w.args.tokens.now.source w.in_ok-open.field-0) w.open.new.tokens w.in_ok-open.ensures.reads in
    let l2 = past_part (expr_at (less w.args.levels) w.args.names) _ l1 (guard_of w.in_ok-guard.guard) w.read_guard.new.tokens (gives_level (λ (n : ℕ). expr_at n w.args.names) guard_of w.args.levels w.open.new.tokens w.read_guard.new.tokens (Ok w.in_ok-guard.guard) w.in_ok-guard.ensures) in
    rw (p.1, p.2) (part_fails (one (is_a ThenWord)) _ l2 w.in_err-token.field-0.0 w.token.new.tokens w.in_err-token.ensures.reads)

pub read_if-returns-in_err-body : goal.read_if-returns-in_err-body
unfolding an_if
read_if-returns-in_err-body t w =
    let p = err_from_is_err_and w.from_residual-in_err-body.result w.from_residual-in_err-body.ensures.1 in
    let l0 = all_left (an_if w.args.levels w.args.names (stmts_inside w.args.levels)) w.args.tokens.now in
    let l1 = past_part (opening_token w.args.levels (is_a IfWord)) _ l0 (lexeme_of w.args.tokens.now.source w.in_ok-open.field-0) w.open.new.tokens w.in_ok-open.ensures.reads in
    let l2 = past_part (expr_at (less w.args.levels) w.args.names) _ l1 (guard_of w.in_ok-guard.guard) w.read_guard.new.tokens (gives_level (λ (n : ℕ). expr_at n w.args.names) guard_of w.args.levels w.open.new.tokens w.read_guard.new.tokens (Ok w.in_ok-guard.guard) w.in_ok-guard.ensures) in
    let l3 = past_part (one (is_a ThenWord)) _ l2 (lexeme_of w.read_guard.new.tokens.source w.in_ok-token.field-0) w.token.new.tokens w.in_ok-token.ensures.reads in
    rw (p.1, p.2) (part_fails (stmts_inside w.args.levels w.args.names) _ l3 w.in_err-body.field-0.0 w.read_stmts.new.tokens (gives_stmts (λ (k : Reader tree.Stmts). k) (λ (v : Vec Stmt Global). stmts_of v.items) w.args.levels w.args.names w.token.new.tokens w.read_stmts.new.tokens (Err w.in_err-body.field-0.0) w.in_ok-open.ensures.deep w.in_err-body.ensures))

pub read_if-returns-in_err-otherwise : goal.read_if-returns-in_err-otherwise
unfolding an_if
read_if-returns-in_err-otherwise t w =
    let p = err_from_is_err_and w.from_residual-in_err-otherwise.result w.from_residual-in_err-otherwise.ensures.1 in
    let l0 = all_left (an_if w.args.levels w.args.names (stmts_inside w.args.levels)) w.args.tokens.now in
    let l1 = past_part (opening_token w.args.levels (is_a IfWord)) _ l0 (lexeme_of w.args.tokens.now.source w.in_ok-open.field-0) w.open.new.tokens w.in_ok-open.ensures.reads in
    let l2 = past_part (expr_at (less w.args.levels) w.args.names) _ l1 (guard_of w.in_ok-guard.guard) w.read_guard.new.tokens (gives_level (λ (n : ℕ). expr_at n w.args.names) guard_of w.args.levels w.open.new.tokens w.read_guard.new.tokens (Ok w.in_ok-guard.guard) w.in_ok-guard.ensures) in
    let l3 = past_part (one (is_a ThenWord)) _ l2 (lexeme_of w.read_guard.new.tokens.source w.in_ok-token.field-0) w.token.new.tokens w.in_ok-token.ensures.reads in
    let l4 = past_part (stmts_inside w.args.levels w.args.names) _ l3 (stmts_of w.in_ok-body.body.items) w.read_stmts.new.tokens (gives_stmts (λ (k : Reader tree.Stmts). k) (λ (v : Vec Stmt Global). stmts_of v.items) w.args.levels w.args.names w.token.new.tokens w.read_stmts.new.tokens (Ok w.in_ok-body.body) w.in_ok-open.ensures.deep w.in_ok-body.ensures) in
    rw (p.1, p.2) (part_fails (else_part (stmts_inside w.args.levels) w.args.names) _ l4 w.in_err-otherwise.field-0.0 w.read_else.new.tokens (gives_stmts (λ (k : Reader tree.Stmts). optional (is_a ElseWord) tree.no_stmts (one (is_a ElseWord) >>= λ e. k)) (λ (v : Vec Stmt Global). stmts_of v.items) w.args.levels w.args.names w.read_stmts.new.tokens w.read_else.new.tokens (Err w.in_err-otherwise.field-0.0) w.in_ok-open.ensures.deep w.in_err-otherwise.ensures))

pub read_if-returns-in_err-token-2 : goal.read_if-returns-in_err-token-2
unfolding an_if
read_if-returns-in_err-token-2 t w =
    let p = err_from_is_err_and w.from_residual-in_err-token-2.result w.from_residual-in_err-token-2.ensures.1 in
    let l0 = all_left (an_if w.args.levels w.args.names (stmts_inside w.args.levels)) w.args.tokens.now in
    let l1 = past_part (opening_token w.args.levels (is_a IfWord)) _ l0 (lexeme_of w.args.tokens.now.source w.in_ok-open.field-0) w.open.new.tokens w.in_ok-open.ensures.reads in
    let l2 = past_part (expr_at (less w.args.levels) w.args.names) _ l1 (guard_of w.in_ok-guard.guard) w.read_guard.new.tokens (gives_level (λ (n : ℕ). expr_at n w.args.names) guard_of w.args.levels w.open.new.tokens w.read_guard.new.tokens (Ok w.in_ok-guard.guard) w.in_ok-guard.ensures) in
    let l3 = past_part (one (is_a ThenWord)) _ l2 (lexeme_of w.read_guard.new.tokens.source w.in_ok-token.field-0) w.token.new.tokens w.in_ok-token.ensures.reads in
    let l4 = past_part (stmts_inside w.args.levels w.args.names) _ l3 (stmts_of w.in_ok-body.body.items) w.read_stmts.new.tokens (gives_stmts (λ (k : Reader tree.Stmts). k) (λ (v : Vec Stmt Global). stmts_of v.items) w.args.levels w.args.names w.token.new.tokens w.read_stmts.new.tokens (Ok w.in_ok-body.body) w.in_ok-open.ensures.deep w.in_ok-body.ensures) in
    let l5 = past_part (else_part (stmts_inside w.args.levels) w.args.names) _ l4 (stmts_of w.in_ok-otherwise.otherwise.items) w.read_else.new.tokens (gives_stmts (λ (k : Reader tree.Stmts). optional (is_a ElseWord) tree.no_stmts (one (is_a ElseWord) >>= λ e. k)) (λ (v : Vec Stmt Global). stmts_of v.items) w.args.levels w.args.names w.read_stmts.new.tokens w.read_else.new.tokens (Ok w.in_ok-otherwise.otherwise) w.in_ok-open.ensures.deep w.in_ok-otherwise.ensures) in
    rw (p.1, p.2) (part_fails (one (is_a FiWord)) _ l5 w.in_err-token-2.field-0.0 w.token-2.new.tokens w.in_err-token-2.ensures.reads)

pub read_if-returns : goal.read_if-returns
unfolding an_if
read_if-returns t w =
    let l0 = all_left (an_if w.args.levels w.args.names (stmts_inside w.args.levels)) w.args.tokens.now in
    let l1 = past_part (opening_token w.args.levels (is_a IfWord)) _ l0 (lexeme_of w.args.tokens.now.source w.in_ok-open.field-0) w.open.new.tokens w.in_ok-open.ensures.reads in
    let l2 = past_part (expr_at (less w.args.levels) w.args.names) _ l1 (guard_of w.in_ok-guard.guard) w.read_guard.new.tokens (gives_level (λ (n : ℕ). expr_at n w.args.names) guard_of w.args.levels w.open.new.tokens w.read_guard.new.tokens (Ok w.in_ok-guard.guard) w.in_ok-guard.ensures) in
    let l3 = past_part (one (is_a ThenWord)) _ l2 (lexeme_of w.read_guard.new.tokens.source w.in_ok-token.field-0) w.token.new.tokens w.in_ok-token.ensures.reads in
    let l4 = past_part (stmts_inside w.args.levels w.args.names) _ l3 (stmts_of w.in_ok-body.body.items) w.read_stmts.new.tokens (gives_stmts (λ (k : Reader tree.Stmts). k) (λ (v : Vec Stmt Global). stmts_of v.items) w.args.levels w.args.names w.token.new.tokens w.read_stmts.new.tokens (Ok w.in_ok-body.body) w.in_ok-open.ensures.deep w.in_ok-body.ensures) in
    let l5 = past_part (else_part (stmts_inside w.args.levels) w.args.names) _ l4 (stmts_of w.in_ok-otherwise.otherwise.items) w.read_else.new.tokens (gives_stmts (λ (k : Reader tree.Stmts). optional (is_a ElseWord) tree.no_stmts (one (is_a ElseWord) >>= λ e. k)) (λ (v : Vec Stmt Global). stmts_of v.items) w.args.levels w.args.names w.read_stmts.new.tokens w.read_else.new.tokens (Ok w.in_ok-otherwise.otherwise) w.in_ok-open.ensures.deep w.in_ok-otherwise.ensures) in
    let l6 = past_part (one (is_a FiWord)) _ l5 (lexeme_of w.read_else.new.tokens.source w.in_ok-token-2.field-0) w.token-2.new.tokens w.in_ok-token-2.ensures.reads in
    all_read (an_if w.args.levels w.args.names (stmts_inside w.args.levels)) w.args.tokens.now w.token-2.new.tokens _ _ l6 (sym w.if_then.ensures)

-- ---- read_for

pub read_for-returns-in_err-open : goal.read_for-returns-in_err-open
unfolding a_for
read_for-returns-in_err-open t w =
    let p = err_from_is_err_and w.from_residual.result w.from_residual.ensures.1 in
    let l0 = all_left (a_for w.args.levels w.args.names (stmts_inside w.args.levels)) w.args.tokens.now in
    rw (p.1, p.2) (part_fails (opening_token w.args.levels (is_a ForWord)) _ l0 w.in_err-open.field-0.0 w.open.new.tokens w.in_err-open.ensures.reads)

pub read_for-returns-in_err-selection : goal.read_for-returns-in_err-selection
unfolding a_for
read_for-returns-in_err-selection t w =
    let p = err_from_is_err_and w.from_residual-in_err-selection.result w.from_residual-in_err-selection.ensures.1 in
    let l0 = all_left (a_for w.args.levels w.args.names (stmts_inside w.args.levels)) w.args.tokens.now in
    let l1 = past_part (opening_token w.args.levels (is_a ForWord)) _ l0 (lexeme_of w.args.tokens.now.source w.in_ok-open.field-0) w.open.new.tokens w.in_ok-open.ensures.reads in
    rw (p.1, p.2) (part_fails (selection_at (less w.args.levels) w.args.names) _ l1 w.in_err-selection.field-0.0 w.read_selection.new.tokens (gives_level (λ (n : ℕ). selection_at n w.args.names) selection_of w.args.levels w.open.new.tokens w.read_selection.new.tokens (Err w.in_err-selection.field-0.0) w.in_err-selection.ensures))

pub read_for-returns-in_err-token : goal.read_for-returns-in_err-token
unfolding a_for
read_for-returns-in_err-token t w =
    let p = err_from_is_err_and w.from_residual-in_err-token.result w.from_residual-in_err-token.ensures.1 in
    let l0 = all_left (a_for w.args.levels w.args.names (stmts_inside w.args.levels)) w.args.tokens.now in
    let l1 = past_part (opening_token w.args.levels (is_a ForWord)) _ l0 (lexeme_of w.args.tokens.now.source w.in_ok-open.field-0) w.open.new.tokens w.in_ok-open.ensures.reads in
    let l2 = past_part (selection_at (less w.args.levels) w.args.names) _ l1 (selection_of w.in_ok-selection.selection) w.read_selection.new.tokens (gives_level (λ (n : ℕ). selection_at n w.args.names) selection_of w.args.levels w.open.new.tokens w.read_selection.new.tokens (Ok w.in_ok-selection.selection) w.in_ok-selection.ensures) in
    rw (p.1, p.2) (part_fails (one (is_a DoWord)) _ l2 w.in_err-token.field-0.0 w.token.new.tokens w.in_err-token.ensures.reads)

pub read_for-returns-in_err-body : goal.read_for-returns-in_err-body
unfolding a_for
read_for-returns-in_err-body t w =
    let p = err_from_is_err_and w.from_residual-in_err-body.result w.from_residual-in_err-body.ensures.1 in
    let l0 = all_left (a_for w.args.levels w.args.names (stmts_inside w.args.levels)) w.args.tokens.now in
    let l1 = past_part (opening_token w.args.levels (is_a ForWord)) _ l0 (lexeme_of w.args.tokens.now.source w.in_ok-open.field-0) w.open.new.tokens w.in_ok-open.ensures.reads in
    let l2 = past_part (selection_at (less w.args.levels) w.args.names) _ l1 (selection_of w.in_ok-selection.selection) w.read_selection.new.tokens (gives_level (λ (n : ℕ). selection_at n w.args.names) selection_of w.args.levels w.open.new.tokens w.read_selection.new.tokens (Ok w.in_ok-selection.selection) w.in_ok-selection.ensures) in
    let l3 = past_part (one (is_a DoWord)) _ l2 (lexeme_of w.read_selection.new.tokens.source w.in_ok-token.field-0) w.token.new.tokens w.in_ok-token.ensures.reads in
    rw (p.1, p.2) (part_fails (stmts_inside w.args.levels (less w.args.names)) _ l3 w.in_err-body.field-0.0 w.read_stmts.new.tokens (gives_bound_stmts (λ (k : Reader tree.Stmts). k) (λ (v : Vec Stmt Global). stmts_of v.items) w.args.levels w.args.names w.token.new.tokens w.read_stmts.new.tokens (Err w.in_err-body.field-0.0) w.in_ok-open.ensures.deep w.saturating_sub.result (w.saturating_sub.ensures ∙ sym (less_is w.args.names)) w.in_err-body.ensures))

pub read_for-returns-in_err-token-2 : goal.read_for-returns-in_err-token-2
unfolding a_for
read_for-returns-in_err-token-2 t w =
    let p = err_from_is_err_and w.from_residual-in_err-token-2.result w.from_residual-in_err-token-2.ensures.1 in
    let l0 = all_left (a_for w.args.levels w.args.names (stmts_inside w.args.levels)) w.args.tokens.now in
    let l1 = past_part (opening_token w.args.levels (is_a ForWord)) _ l0 (lexeme_of w.args.tokens.now.source w.in_ok-open.field-0) w.open.new.tokens w.in_ok-open.ensures.reads in
    let l2 = past_part (selection_at (less w.args.levels) w.args.names) _ l1 (selection_of w.in_ok-selection.selection) w.read_selection.new.tokens (gives_level (λ (n : ℕ). selection_at n w.args.names) selection_of w.args.levels w.open.new.tokens w.read_selection.new.tokens (Ok w.in_ok-selection.selection) w.in_ok-selection.ensures) in
    let l3 = past_part (one (is_a DoWord)) _ l2 (lexeme_of w.read_selection.new.tokens.source w.in_ok-token.field-0) w.token.new.tokens w.in_ok-token.ensures.reads in
    let l4 = past_part (stmts_inside w.args.levels (less w.args.names)) _ l3 (stmts_of w.in_ok-body.body.items) w.read_stmts.new.tokens (gives_bound_stmts (λ (k : Reader tree.Stmts). k) (λ (v : Vec Stmt Global). stmts_of v.items) w.args.levels w.args.names w.token.new.tokens w.read_stmts.new.tokens (Ok w.in_ok-body.body) w.in_ok-open.ensures.deep w.saturating_sub.result (w.saturating_sub.ensures ∙ sym (less_is w.args.names)) w.in_ok-body.ensures) in
    rw (p.1, p.2) (part_fails (one (is_a OdWord)) _ l4 w.in_err-token-2.field-0.0 w.token-2.new.tokens w.in_err-token-2.ensures.reads)

pub read_for-returns : goal.read_for-returns
unfolding a_for
read_for-returns t w =
    let l0 = all_left (a_for w.args.levels w.args.names (stmts_inside w.args.levels)) w.args.tokens.now in
    let l1 = past_part (opening_token w.args.levels (is_a ForWord)) _ l0 (lexeme_of w.args.tokens.now.source w.in_ok-open.field-0) w.open.new.tokens w.in_ok-open.ensures.reads in
    let l2 = past_part (selection_at (less w.args.levels) w.args.names) _ l1 (selection_of w.in_ok-selection.selection) w.read_selection.new.tokens (gives_level (λ (n : ℕ). selection_at n w.args.names) selection_of w.args.levels w.open.new.tokens w.read_selection.new.tokens (Ok w.in_ok-selection.selection) w.in_ok-selection.ensures) in
    let l3 = past_part (one (is_a DoWord)) _ l2 (lexeme_of w.read_selection.new.tokens.source w.in_ok-token.field-0) w.token.new.tokens w.in_ok-token.ensures.reads in
    let l4 = past_part (stmts_inside w.args.levels (less w.args.names)) _ l3 (stmts_of w.in_ok-body.body.items) w.read_stmts.new.tokens (gives_bound_stmts (λ (k : Reader tree.Stmts). k) (λ (v : Vec Stmt Global). stmts_of v.items) w.args.levels w.args.names w.token.new.tokens w.read_stmts.new.tokens (Ok w.in_ok-body.body) w.in_ok-open.ensures.deep w.saturating_sub.result (w.saturating_sub.ensures ∙ sym (less_is w.args.names)) w.in_ok-body.ensures) in
    let l5 = past_part (one (is_a OdWord)) _ l4 (lexeme_of w.read_stmts.new.tokens.source w.in_ok-token-2.field-0) w.token-2.new.tokens w.in_ok-token-2.ensures.reads in
    all_read (a_for w.args.levels w.args.names (stmts_inside w.args.levels)) w.args.tokens.now w.token-2.new.tokens _ _ l5 (sym w.for_each.ensures)

-- ---- read_else

pub read_else-returns-then-not-is_next : goal.read_else-returns-then-not-is_next
read_else-returns-then-not-is_next t w = rw w.new.ensures.items (left_out (is_a ElseWord) tree.no_stmts (stmts_at w.args.levels w.args.names) w.args.tokens.now (sym w.is_next.ensures ∙ w.if-not-is_next.true))

pub read_else-returns-in_err-token : goal.read_else-returns-in_err-token
read_else-returns-in_err-token t w =
    let p = err_from_is_err_and w.from_residual.result w.from_residual.ensures.1 in
    rw (p.1, p.2) (word_fails (is_a ElseWord) tree.no_stmts (stmts_at w.args.levels w.args.names) w.args.tokens.now (sym w.is_next.ensures ∙ w.if-not-is_next.false) w.in_err-token.field-0.0 w.in_err-token.ensures.reads)

pub read_else-returns : goal.read_else-returns
read_else-returns t w = behind_word (is_a ElseWord) tree.no_stmts (stmts_at w.args.levels w.args.names) w.args.tokens.now (sym w.is_next.ensures ∙ w.if-not-is_next.false) (λ (v : Vec Stmt Global). stmts_of v.items) w.read_stmts.new.tokens w.read_stmts.result w.in_ok-token.ensures.reads w.read_stmts.ensures
