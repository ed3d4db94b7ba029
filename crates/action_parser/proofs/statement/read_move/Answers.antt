use Rattle.std.proofs.Common.{ℕ, List, refl, sym, ap, ◌∙◌}
use Rattle.std.proofs.lemmas.Result.{err_from_is_err_and}
use Rattle.text_tokens.specs.Text.{Lexeme}
use Rattle.text_tokens.specs.Reading.{one}
use Rattle.text_tokens.specs.Steps.{lexeme_of}
use Rattle.text_tokens.proofs.Rows.{past_part, part_fails}
use Rattle.action_tree.specs.Trees as tree
use Rattle.action_tree.specs.Views.{port_of}
use Rattle.action_tree.specs.declared.role.Role.TheVariants.{EndWord, NoneWord, ThroughWord, ContractWord}
use Rattle.action_tree.specs.Roles.{is_a, as_end, port_move_by}
use Rattle.action_tree.specs.ExpressionReaders.{port_at}
use Rattle.action_tree.specs.ProgramReaders.{move_by, a_move}
use Rattle.action_parser.proofs.Tokens.{taken, untaken, all_read}
use Rattle.action_parser.proofs.Levels.{next_is, chosen, none_chosen, none_begins, move_rest}
use Rattle.action_parser.proofs.statement.read_move.Goals as goal

pub returns-in_err-token-in-NoneWord : goal.returns-in_err-token-in-NoneWord
unfolding a_move
returns-in_err-token-in-NoneWord c =
    let p = err_from_is_err_and c.from_residual.result c.from_residual.ensures.1 in
    let l0 = chosen (move_by c.args.levels c.args.names) c.args.tokens.now NoneWord (next_is c.next_role.ensures c.in-Some.is c.in-NoneWord.is) in
    rw (p.1, p.2) (part_fails (one (is_a NoneWord)) _ l0 c.in_err-token-in-NoneWord.field-0.0 c.token.new.tokens c.in_err-token-in-NoneWord.ensures.reads)

pub returns-in_ok-token-in-NoneWord : goal.returns-in_ok-token-in-NoneWord
unfolding a_move
returns-in_ok-token-in-NoneWord c =
    let l0 = chosen (move_by c.args.levels c.args.names) c.args.tokens.now NoneWord (next_is c.next_role.ensures c.in-Some.is c.in-NoneWord.is) in
    let l1 = past_part (one (is_a NoneWord)) _ l0 (lexeme_of c.args.tokens.now.source c.in_ok-token-in-NoneWord.field-0) c.token.new.tokens c.in_ok-token-in-NoneWord.ensures.reads in
    all_read (a_move c.args.levels c.args.names) c.args.tokens.now c.token.new.tokens _ _ l1 refl

pub returns-in_err-word-in-ThroughWord : goal.returns-in_err-word-in-ThroughWord
unfolding a_move
returns-in_err-word-in-ThroughWord c =
    let p = err_from_is_err_and c.from_residual-in_err-word-in-ThroughWord.result c.from_residual-in_err-word-in-ThroughWord.ensures.1 in
    let l0 = chosen (move_by c.args.levels c.args.names) c.args.tokens.now ThroughWord (next_is c.next_role.ensures c.in-Some.is c.in-ThroughWord.is) in
    rw (p.1, p.2) (part_fails (one (is_a ThroughWord)) _ l0 c.in_err-word-in-ThroughWord.field-0.0 c.text.new.tokens (untaken (one (is_a ThroughWord)) (λ (t : Lexeme). t.text) c.args.tokens.now c.text.new.tokens c.in_err-word-in-ThroughWord.field-0.0 c.in_err-word-in-ThroughWord.ensures))

pub returns-in_err-port-in-ThroughWord : goal.returns-in_err-port-in-ThroughWord
unfolding a_move
returns-in_err-port-in-ThroughWord c =
    let p = err_from_is_err_and c.from_residual-in_err-port-in-ThroughWord.result c.from_residual-in_err-port-in-ThroughWord.ensures.1 in
    let l0 = chosen (move_by c.args.levels c.args.names) c.args.tokens.now ThroughWord (next_is c.next_role.ensures c.in-Some.is c.in-ThroughWord.is) in
    let x1 = taken (one (is_a ThroughWord)) (λ (t : Lexeme). t.text) c.args.tokens.now c.text.new.tokens (c.in_ok-word-in-ThroughWord.word.now) c.in_ok-word-in-ThroughWord.ensures in
    let l1 = past_part (one (is_a ThroughWord)) _ l0 x1.part c.text.new.tokens x1.reads in
    rw (p.1, p.2) (part_fails (port_at c.args.levels c.args.names) _ l1 c.in_err-port-in-ThroughWord.field-0.0 c.read_port.new.tokens c.in_err-port-in-ThroughWord.ensures)

pub returns-in_ok-port-in-ThroughWord : goal.returns-in_ok-port-in-ThroughWord
unfolding a_move
returns-in_ok-port-in-ThroughWord c =
    let l0 = chosen (move_by c.args.levels c.args.names) c.args.tokens.now ThroughWord (next_is c.next_role.ensures c.in-Some.is c.in-ThroughWord.is) in
    let x1 = taken (one (is_a ThroughWord)) (λ (t : Lexeme). t.text) c.args.tokens.now c.text.new.tokens (c.in_ok-word-in-ThroughWord.word.now) c.in_ok-word-in-ThroughWord.ensures in
    let l1 = past_part (one (is_a ThroughWord)) _ l0 x1.part c.text.new.tokens x1.reads in
    let l2 = past_part (port_at c.args.levels c.args.names) _ l1 (port_of c.in_ok-port-in-ThroughWord.port) c.read_port.new.tokens c.in_ok-port-in-ThroughWord.ensures in
    all_read (a_move c.args.levels c.args.names) c.args.tokens.now c.read_port.new.tokens _ _ l2 (ap (λ (text : List ℕ). tree.through (port_move_by text) (port_of c.in_ok-port-in-ThroughWord.port)) x1.is ∙ sym c.moved_through.ensures)

pub returns-in_err-token-in-ContractWord : goal.returns-in_err-token-in-ContractWord
unfolding a_move
returns-in_err-token-in-ContractWord c =
    let p = err_from_is_err_and c.from_residual-in_err-token-in-ContractWord.result c.from_residual-in_err-token-in-ContractWord.ensures.1 in
    let l0 = chosen (move_by c.args.levels c.args.names) c.args.tokens.now ContractWord (next_is c.next_role.ensures c.in-Some.is c.in-ContractWord.is) in
    rw (p.1, p.2) (part_fails (one (is_a ContractWord)) _ l0 c.in_err-token-in-ContractWord.field-0.0 c.token-in-ContractWord.new.tokens c.in_err-token-in-ContractWord.ensures.reads)

pub returns-in_err-end-in-ContractWord : goal.returns-in_err-end-in-ContractWord
unfolding a_move
returns-in_err-end-in-ContractWord c =
    let p = err_from_is_err_and c.from_residual-in_err-end-in-ContractWord.result c.from_residual-in_err-end-in-ContractWord.ensures.1 in
    let l0 = chosen (move_by c.args.levels c.args.names) c.args.tokens.now ContractWord (next_is c.next_role.ensures c.in-Some.is c.in-ContractWord.is) in
    let l1 = past_part (one (is_a ContractWord)) _ l0 (lexeme_of c.args.tokens.now.source c.in_ok-token-in-ContractWord.field-0) c.token-in-ContractWord.new.tokens c.in_ok-token-in-ContractWord.ensures.reads in
    rw (p.1, p.2) (part_fails (one (is_a EndWord)) _ l1 c.in_err-end-in-ContractWord.field-0.0 c.end.new.tokens (untaken (one (is_a EndWord)) as_end c.token-in-ContractWord.new.tokens c.end.new.tokens c.in_err-end-in-ContractWord.field-0.0 c.in_err-end-in-ContractWord.ensures))

pub returns-in_ok-end-in-ContractWord : goal.returns-in_ok-end-in-ContractWord
unfolding a_move
returns-in_ok-end-in-ContractWord c =
    let l0 = chosen (move_by c.args.levels c.args.names) c.args.tokens.now ContractWord (next_is c.next_role.ensures c.in-Some.is c.in-ContractWord.is) in
    let l1 = past_part (one (is_a ContractWord)) _ l0 (lexeme_of c.args.tokens.now.source c.in_ok-token-in-ContractWord.field-0) c.token-in-ContractWord.new.tokens c.in_ok-token-in-ContractWord.ensures.reads in
    let x2 = taken (one (is_a EndWord)) as_end c.token-in-ContractWord.new.tokens c.end.new.tokens (c.in_ok-end-in-ContractWord.end) c.in_ok-end-in-ContractWord.ensures in
    let l2 = past_part (one (is_a EndWord)) _ l1 x2.part c.end.new.tokens x2.reads in
    all_read (a_move c.args.levels c.args.names) c.args.tokens.now c.end.new.tokens _ _ l2 (ap tree.contract x2.is)

pub returns-in_default : goal.returns-in_default
unfolding a_move
returns-in_default c = none_chosen (move_by c.args.levels c.args.names) c.args.tokens.now c.unexpected.result (sym c.next_role.ensures ∙ c.in_default.is) c.unexpected.ensures

pub returns-in_default-role : goal.returns-in_default-role
unfolding a_move
returns-in_default-role c =
    let d = c.in_default-role in
    none_begins (move_by c.args.levels c.args.names) c.args.tokens.now c.in-Some.role c.unexpected-in_default-role.result (sym c.next_role.ensures ∙ c.in-Some.is) (move_rest c.args.levels c.args.names c.in-Some.role d.not-NoneWord d.not-ThroughWord d.not-ContractWord) c.unexpected-in_default-role.ensures
