-- Readers of one token, for what it stands for.
use Rattle.std.specs.Prelude.{ℕ, Bool}
use Rattle.text_tokens.specs.Reading.{Reader, ◌>>=◌, pure, one, one_within, optional}
use Rattle.amoebot_state.specs.declared.bot.End.{End}
use Rattle.action_tree.specs.declared.expression.PortSet.{PortSet}
use Rattle.action_tree.specs.declared.expression.Cmp.{Cmp}
use Rattle.action_tree.specs.Trees.{Name, Literal, DirTerm, Term, own, bound}
use Rattle.action_tree.specs.declared.role.Role.TheVariants as role
use Rattle.action_tree.specs.Roles.{is_a, is_set, is_dirterm, is_plus_or_minus, as_name, as_literal, as_dirterm, as_set, as_end, as_cmp, as_switch}
use Rattle.action_tree.specs.Expressions.{bound_at}
use Rattle.action_tree.specs.ExpressionReaders.{member}

abbrev pub made : {A B : Type 0} → Reader A → (A → B) → Reader B
made p f = p >>= λ a. pure (f a)

abbrev pub a_name : Reader Name
a_name = made (one (is_a role.AName)) as_name

abbrev pub a_bound_name : ℕ → Reader Name
a_bound_name left = made (one_within (is_a role.AName) (bound_at left)) as_name

abbrev pub a_literal : Reader Literal
a_literal = made (one (is_a role.ANumber)) as_literal

abbrev pub a_dirterm : Reader DirTerm
a_dirterm = made (one is_dirterm) as_dirterm

abbrev pub a_set : Reader PortSet
a_set = made (one is_set) as_set

abbrev pub an_end_word : Reader End
an_end_word = made (one (is_a role.EndWord)) as_end

abbrev pub a_cmp : Reader Cmp
a_cmp = made (one (is_a role.CompareSign)) as_cmp

abbrev pub a_switch : Reader Bool
a_switch = made (one (is_a role.SwitchWord)) as_switch

-- whether a minus joins
abbrev pub a_joint : Reader Bool
a_joint = made (one is_plus_or_minus) (is_a role.MinusSign)

-- a variable, or that of a neighbour where a dot comes behind its name
abbrev pub own_or_member : Reader Term
own_or_member = one (is_a role.AName) >>= λ v.
    optional (is_a role.DotSign) (own (as_name v)) (member (bound (as_name v)))
