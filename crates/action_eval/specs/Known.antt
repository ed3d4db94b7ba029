-- What the code's names in force stand for, and what its working copy lets an evaluation ask.
-- Private functions alone cite it.
use Rattle.std.specs.Prelude.{ℕ, List, [], map, Bool, Option, None, Some}
use Rattle.std.specs.Borrow.{Bor}
use Rattle.amoebot_state.specs.declared.bot.Port.{Port}
use Rattle.model_ops.specs.Sights.{Sight, sight}
use Rattle.model_ops.specs.WorkingCopies.{WorkingCopy, own_id}
use Rattle.action_tree.specs.declared.word.Word.{Word}
use Rattle.action_tree.specs.declared.expression.PortSet.{PortSet}
use Rattle.action_tree.specs.declared.expression.PortSet.TheVariants as port_set
use Rattle.action_tree.specs.Scopes.{Scope, names_of_vars}
use Rattle.action_tree.specs.Views.{var_of}
use Rattle.action_meaning.specs.Names.{Names, Bound}
use Rattle.action_meaning.specs.Choices.{is_true}
use Rattle.action_tree.specs.Trees as tree
use Rattle.action_eval.specs.declared.value.Test.{Test}
use Rattle.action_eval.specs.declared.value.Test.TheVariants as test
use Rattle.action_eval.specs.declared.names.Names as code
use Rattle.action_eval.specs.declared.names.Bound as code_bound

-- what no name stands in has no text
abbrev pub bound_text : Option (Bor Word) → List ℕ
bound_text None = []
bound_text (Some w) = w.now.text.bytes

abbrev pub bound_of : code_bound.Bound → Bound
bound_of b = record { text = bound_text b.name; port = b.port }

-- the names that an evaluation knows, with their ports
abbrev pub known : code.Names → Names
known xs = record { vars = names_of_vars (map var_of xs.vars.now); bound = map bound_of xs.bound.items }

-- the same without the ports
abbrev pub scope_of : Names → Scope
scope_of xs = record { vars = xs.vars; bound = map (λ (b : Bound). b.text) xs.bound }

-- what its amoebot can ask of the configuration that a working copy has reached
abbrev pub sight_of : WorkingCopy → Sight
sight_of w = sight w.reached (own_id w)

-- a pair is one of the ports that a name goes through
abbrev pub is_in_set : Sight → PortSet → Port → Bool
is_in_set s port_set.Ports p = is_true (s.connects p)
is_in_set s port_set.Free p = is_true (s.frees p)

-- what the code asks of a port
abbrev pub asked_by : Test → tree.PortTest
asked_by test.Linked = tree.linked
asked_by test.Free = tree.free
asked_by test.AtHead = tree.at_head
asked_by test.PeerExpanded = tree.peer_expanded
asked_by test.PeerHead = tree.peer_head
