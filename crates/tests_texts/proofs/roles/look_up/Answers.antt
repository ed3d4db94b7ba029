use Rattle.std.proofs.Common.{◌∙◌, true, false, List, [], sym, ap, ◌+◌, arith, Bor, ℕ}
use Rattle.std.specs.Str.{bytes_eq}
use Rattle.action_tree.specs.declared.role.Role.{Role}
use Rattle.action_tree.specs.declared.role.Role.TheVariants as role
use Rattle.action_tree.specs.Roles.{Entry, entry}
use Rattle.action_tree.proofs.Tables.{said_here}
use Rattle.tests_texts.proofs.roles.look_up.Goals as goal

abbrev as_entry : Bor (List ℕ) × Role → Entry Role
as_entry e = entry e.0.now e.1

abbrev none : Bor (List ℕ) × Role
none = (record { ref_ptr = (0, 0); now = [] }, role.AName)

pub returns-then-is_same : goal.returns-then-is_same
returns-then-is_same c =
    let is = ap (λ (w : List ℕ). bytes_eq c.args.text.now w) (sym c.as_bytes.ensures.value) ∙ sym c.is_same.ensures ∙ c.if-is_same.true in
    sym (c.loop-word.invariant ∙ said_here as_entry c.args.otherwise c.args.text.now c.args.table.now c.loop-word.word-index (c.loop-word.word-index + 1) none true (omega arith) c.loop-word-test.true is)

pub loop-word-preserved : goal.loop-word-preserved
loop-word-preserved c =
    let is = ap (λ (w : List ℕ). bytes_eq c.args.text.now w) (sym c.as_bytes.ensures.value) ∙ sym c.is_same.ensures ∙ c.if-is_same.false in
    c.loop-word.invariant ∙ said_here as_entry c.args.otherwise c.args.text.now c.args.table.now c.loop-word.word-index (c.loop-word.word-index + 1) none false (omega arith) c.loop-word-test.true is
