-- Guards and statements under a name that stands for a port.
-- Private functions alone cite it.
use Rattle.std.specs.Prelude.{◌≡◌, List, true}
use Rattle.model_ops.specs.Sights.{Sight}
use Rattle.amoebot_state.specs.declared.bot.Port.{Port}
use Rattle.action_tree.specs.declared.word.Word.{Word}
use Rattle.action_tree.specs.declared.expression.Guard.{Guard}
use Rattle.action_tree.specs.declared.statement.Stmt.{Stmt}
use Rattle.action_tree.specs.Views.{name_of, guard_of, stmts_of}
use Rattle.action_tree.specs.Places.{guard_placed, stmts_placed}
use Rattle.action_tree.specs.Writable.{is_guard, are_stmts}
use Rattle.action_check.specs.Rules.{IsNew, GuardKept, StmtsKept}
use Rattle.action_tree.specs.Scopes.{scope_with as scope_bind}
use Rattle.action_meaning.specs.Names.{Names, bind}
use Rattle.action_meaning.specs.Choices.{Asked}
use Rattle.action_meaning.specs.Values.{guard_value}
use Rattle.action_eval.specs.Known.{scope_of}

-- the name is new to the names known, and the guard keeps the rules with it in force,
-- and its names have their places; the counts in the guard are those of a text
pub record MayAsk (xs : Names) (name : Word) (guard : Guard) : Type 0 where
  pub new : IsNew (scope_of xs) (name_of name)
  pub kept : GuardKept (scope_bind (scope_of xs) (name_of name)) (guard_of guard)
  pub placed : guard_placed guard (scope_bind (scope_of xs) (name_of name)) ≡ true
  pub counted : is_guard (guard_of guard) ≡ true

-- the names are those known and one more in force, which stands for some port
pub record IsUnder (xs : Names) (name : Word) (inner : Names) : Type 0 where
  pub port : Port
  pub bound : inner ≡ bind xs (name_of name) port

-- the statements keep the rules with the name in force, and their names have their places;
-- the counts in them are those of a text
pub record MayRunUnder (xs : Names) (name : Word) (stmts : List Stmt) : Type 0 where
  pub kept : StmtsKept (scope_bind (scope_of xs) (name_of name)) (stmts_of stmts)
  pub placed : stmts_placed stmts (scope_bind (scope_of xs) (name_of name)) ≡ true
  pub counted : are_stmts (stmts_of stmts) ≡ true

-- the value of the guard at each port that the name may stand for
abbrev pub guard_at : Sight → Names → Word → Guard → Asked
guard_at s xs name guard p = guard_value s (bind xs (name_of name) p) (guard_of guard)
