use Rattle.std.proofs.Common.{map, refl}
use Rattle.std.proofs.lemmas.Result.{err_from_is_err_and}
use Rattle.text_tokens.specs.Reading.{one, no_limit, at_most}
use Rattle.text_tokens.specs.Steps.{lexeme_of}
use Rattle.text_tokens.proofs.Rows.{all_left, past_part, part_fails}
use Rattle.amoebot_state.specs.Limits.{most_vars}
use Rattle.action_tree.specs.Limits.{most_levels, most_names, most_actions}
use Rattle.action_tree.specs.Views.{var_of, action_of}
use Rattle.action_tree.specs.declared.role.Role.TheVariants.{ProgramWord, VarWord, ActionWord, LastWord}
use Rattle.action_tree.specs.Roles.{is_a}
use Rattle.action_tree.specs.ProgramReaders.{an_action, a_var, a_guarded, a_program}
use Rattle.action_parser.proofs.Tokens.{all_read}
use Rattle.action_parser.proofs.program.read_parts.Goals as goal

pub returns-in_err-token : goal.returns-in_err-token
unfolding a_program
returns-in_err-token c =
    let p = err_from_is_err_and c.from_residual.result c.from_residual.ensures.1 in
    let l0 = all_left a_program c.args.tokens.now in
    rw (p.1, p.2) (part_fails (one (is_a ProgramWord)) _ l0 c.in_err-token.field-0.0 c.token.new.tokens c.in_err-token.ensures.reads)

pub returns-in_err-guard : goal.returns-in_err-guard
unfolding a_program
returns-in_err-guard c =
    let p = err_from_is_err_and c.from_residual-in_err-guard.result c.from_residual-in_err-guard.ensures.1 in
    let l0 = all_left a_program c.args.tokens.now in
    let l1 = past_part (one (is_a ProgramWord)) _ l0 (lexeme_of c.args.tokens.now.source c.in_ok-token.field-0) c.token.new.tokens c.in_ok-token.ensures.reads in
    rw (p.1, p.2) (part_fails (a_guarded) _ l1 c.in_err-guard.field-0.0 c.read_guarded.new.tokens c.in_err-guard.ensures)

pub returns-in_err-vars : goal.returns-in_err-vars
unfolding a_program
returns-in_err-vars c =
    let p = err_from_is_err_and c.from_residual-in_err-vars.result c.from_residual-in_err-vars.ensures.1 in
    let l0 = all_left a_program c.args.tokens.now in
    let l1 = past_part (one (is_a ProgramWord)) _ l0 (lexeme_of c.args.tokens.now.source c.in_ok-token.field-0) c.token.new.tokens c.in_ok-token.ensures.reads in
    let l2 = past_part (a_guarded) _ l1 (c.in_ok-guard.guard) c.read_guarded.new.tokens c.in_ok-guard.ensures in
    rw (p.1, p.2) (part_fails (at_most (is_a VarWord) no_limit most_vars a_var) _ l2 c.in_err-vars.field-0.0 c.read_vars.new.tokens c.in_err-vars.ensures)

pub returns-in_err-actions : goal.returns-in_err-actions
unfolding a_program
returns-in_err-actions c =
    let p = err_from_is_err_and c.from_residual-in_err-actions.result c.from_residual-in_err-actions.ensures.1 in
    let l0 = all_left a_program c.args.tokens.now in
    let l1 = past_part (one (is_a ProgramWord)) _ l0 (lexeme_of c.args.tokens.now.source c.in_ok-token.field-0) c.token.new.tokens c.in_ok-token.ensures.reads in
    let l2 = past_part (a_guarded) _ l1 (c.in_ok-guard.guard) c.read_guarded.new.tokens c.in_ok-guard.ensures in
    let l3 = past_part (at_most (is_a VarWord) no_limit most_vars a_var) _ l2 (map var_of c.in_ok-vars.vars.items) c.read_vars.new.tokens c.in_ok-vars.ensures in
    rw (p.1, p.2) (part_fails (at_most (is_a ActionWord) no_limit most_actions (an_action most_levels most_names)) _ l3 c.in_err-actions.field-0.0 c.read_actions.new.tokens c.in_err-actions.ensures)

pub returns-in_err-token-2 : goal.returns-in_err-token-2
unfolding a_program
returns-in_err-token-2 c =
    let p = err_from_is_err_and c.from_residual-in_err-token-2.result c.from_residual-in_err-token-2.ensures.1 in
    let l0 = all_left a_program c.args.tokens.now in
    let l1 = past_part (one (is_a ProgramWord)) _ l0 (lexeme_of c.args.tokens.now.source c.in_ok-token.field-0) c.token.new.tokens c.in_ok-token.ensures.reads in
    let l2 = past_part (a_guarded) _ l1 (c.in_ok-guard.guard) c.read_guarded.new.tokens c.in_ok-guard.ensures in
    let l3 = past_part (at_most (is_a VarWord) no_limit most_vars a_var) _ l2 (map var_of c.in_ok-vars.vars.items) c.read_vars.new.tokens c.in_ok-vars.ensures in
    let l4 = past_part (at_most (is_a ActionWord) no_limit most_actions (an_action most_levels most_names)) _ l3 (map action_of c.in_ok-actions.actions.items) c.read_actions.new.tokens c.in_ok-actions.ensures in
    rw (p.1, p.2) (part_fails (one (is_a LastWord)) _ l4 c.in_err-token-2.field-0.0 c.token-2.new.tokens c.in_err-token-2.ensures.reads)

pub returns : goal.returns
unfolding a_program
returns c =
    let l0 = all_left a_program c.args.tokens.now in
    let l1 = past_part (one (is_a ProgramWord)) _ l0 (lexeme_of c.args.tokens.now.source c.in_ok-token.field-0) c.token.new.tokens c.in_ok-token.ensures.reads in
    let l2 = past_part (a_guarded) _ l1 (c.in_ok-guard.guard) c.read_guarded.new.tokens c.in_ok-guard.ensures in
    let l3 = past_part (at_most (is_a VarWord) no_limit most_vars a_var) _ l2 (map var_of c.in_ok-vars.vars.items) c.read_vars.new.tokens c.in_ok-vars.ensures in
    let l4 = past_part (at_most (is_a ActionWord) no_limit most_actions (an_action most_levels most_names)) _ l3 (map action_of c.in_ok-actions.actions.items) c.read_actions.new.tokens c.in_ok-actions.ensures in
    let l5 = past_part (one (is_a LastWord)) _ l4 (lexeme_of c.read_actions.new.tokens.source c.in_ok-token-2.field-0) c.token-2.new.tokens c.in_ok-token-2.ensures.reads in
    all_read a_program c.args.tokens.now c.token-2.new.tokens _ _ l5 refl
