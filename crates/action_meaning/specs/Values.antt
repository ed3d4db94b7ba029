-- The value of a guard, a sum or a port, by cases on the tree,
-- or the failure that comes first from left to right.
-- It is a value of what the amoebot can ask before it moves, with the names in force.
-- The failures and their order are this project's profile.
use Rattle.std.specs.Prelude.{ℕ, ◌+◌, ◌%◌, ℤ, pos, ◌+ℤ◌, neg_ℤ, int_lt, int_le, Bool, true, false, not, List, filter, if◌then◌else◌, nat_le}
use Rattle.std.specs.List.{find}
use Rattle.std.specs.Int.{int_rem_euclid}
use Rattle.std.specs.Ordering.{int_eq}
use Rattle.std.specs.Option.{unwrap_or}
use Rattle.std.specs.declared.option.Option.{Option}
use Rattle.std.specs.declared.option.Option.TheVariants.{Some, None}
use Rattle.std.specs.declared.result.Result.{Result}
use Rattle.std.specs.declared.result.Result.TheVariants.{Ok}
use Rattle.tri_lattice.specs.Lattice.{directions, step, node_eq}
use Rattle.amoebot_state.specs.declared.bot.Bot.{Bot}
use Rattle.amoebot_state.specs.declared.bot.Port.{Port}
use Rattle.amoebot_state.specs.declared.verdict.Failure.{Failure}
use Rattle.amoebot_state.specs.declared.verdict.Failure.TheVariants.{NoPort, NotExpanded}
use Rattle.amoebot_state.specs.Ports.{is_contracted, is_port, is_head, all_ports, port, global}
use Rattle.model_ops.specs.Operations.{need, and_then}
use Rattle.model_ops.specs.Sights.{Sight}
use Rattle.action_tree.specs.declared.expression.PortSet.{PortSet}
use Rattle.action_tree.specs.declared.expression.PortSet.TheVariants as port_set
use Rattle.action_tree.specs.declared.expression.Cmp.{Cmp}
use Rattle.action_tree.specs.declared.expression.Cmp.TheVariants as cmp
use Rattle.action_tree.specs.Trees as tree
use Rattle.action_meaning.specs.Names.{Names, var_number, port_named, bind}
use Rattle.action_meaning.specs.Choices.{is_true, any_of_ports, all_of_ports, first_of_ports, count_of_ports}

-- the ports of a set, in port order: the connected ones, or those whose node behind can be entered
abbrev pub ports_of : Sight → PortSet → List Port
ports_of s port_set.Ports = filter (λ p. is_true (s.connects p)) all_ports
ports_of s port_set.Free = filter (λ p. is_true (s.frees p)) all_ports

abbrev pub atom_value : Sight → tree.Atom → Bool
atom_value s tree.always = true
atom_value s tree.never = false
atom_value s tree.contracted = is_contracted s.own
atom_value s tree.expanded = not (is_contracted s.own)

-- what is asked of one port
abbrev pub test_value : Sight → tree.PortTest → Port → Result Bool Failure
test_value s tree.linked p = s.connects p
test_value s tree.free p = s.frees p
test_value s tree.at_head p = need (is_port s.own p) NoPort (Ok (is_head p.end))
test_value s tree.peer_expanded p = and_then (s.peers p) (λ seen. Ok seen.expanded)
test_value s tree.peer_head p = and_then (s.peers p) (λ seen. Ok seen.at_head)

-- the local direction of a port, or that of its edge at the neighbour
abbrev pub side_value : Sight → tree.Side → Port → Result ℕ Failure
side_value s tree.own_side p = need (is_port s.own p) NoPort (Ok p.dir)
side_value s tree.peer_side p = and_then (s.peers p) (λ seen. Ok seen.dir)

-- the local direction whose step from the tail leads to the head, if there is one
abbrev pub inner_direction : Bot → Option ℕ
inner_direction b = find (λ i. node_eq (step b.tail (global b i)) b.head) directions

abbrev pub inner_value : Bot → Result ℕ Failure
inner_value b = need (not (is_contracted b)) NotExpanded (Ok (unwrap_or (inner_direction b) 0))

abbrev pub compare : Cmp → ℤ → ℤ → Bool
compare cmp.Eq a b = int_eq a b
compare cmp.Ne a b = not (int_eq a b)
compare cmp.Lt a b = int_lt a b
compare cmp.Le a b = int_le a b
compare cmp.Gt a b = int_lt b a
compare cmp.Ge a b = int_le b a

abbrev pub signed : Bool → ℤ → ℤ
signed true z = neg_ℤ z
signed false z = z

-- a whole number that is not negative
abbrev pub whole : Result ℕ Failure → Result ℤ Failure
whole r = and_then r (λ n. Ok (pos n))

-- a number, or the value of an own variable, which may be no direction
abbrev pub dirterm_value : Sight → Names → tree.DirTerm → Result ℕ Failure
dirterm_value s xs (tree.fixed n) = Ok n.value
dirterm_value s xs (tree.held v) =
    and_then (s.reads None (var_number xs v)) (λ d. need (nat_le d 5) NoPort (Ok d))

abbrev mutual
  pub guard_value : Sight → Names → tree.Guard → Result Bool Failure
  guard_value s xs (tree.atom a) = Ok (atom_value s a)
  guard_value s xs (tree.negation g) = and_then (guard_value s xs g) (λ b. Ok (not b))
  guard_value s xs (tree.conjunction gs) = each_value s xs gs
  guard_value s xs (tree.disjunction gs) = some_value s xs gs
  guard_value s xs (tree.quantified tree.any v set g) =
      any_of_ports (λ p. guard_value s (bind xs v p) g) (ports_of s set)
  guard_value s xs (tree.quantified tree.all v set g) =
      all_of_ports (λ p. guard_value s (bind xs v p) g) (ports_of s set)
  guard_value s xs (tree.tested t p) = and_then (port_value s xs p) (λ q. test_value s t q)
  guard_value s xs (tree.comparison a c b) =
      and_then (sum_value s xs a) (λ x. and_then (sum_value s xs b) (λ y. Ok (compare c x y)))

  -- `and` stops at the first false element, `or` at the first true one
  pub each_value : Sight → Names → tree.Guards → Result Bool Failure
  each_value s xs tree.no_guards = Ok true
  each_value s xs (tree.guard_then g gs) =
      and_then (guard_value s xs g) (λ b. if b then each_value s xs gs else Ok false)

  pub some_value : Sight → Names → tree.Guards → Result Bool Failure
  some_value s xs tree.no_guards = Ok false
  some_value s xs (tree.guard_then g gs) =
      and_then (guard_value s xs g) (λ b. if b then Ok true else some_value s xs gs)

  pub sum_value : Sight → Names → tree.Sum → Result ℤ Failure
  sum_value s xs tree.no_terms = Ok (pos 0)
  sum_value s xs (tree.term_then minus t more) =
      and_then (term_value s xs t) (λ x. and_then (sum_value s xs more) (λ y. Ok (signed minus x +ℤ y)))

  pub term_value : Sight → Names → tree.Term → Result ℤ Failure
  term_value s xs (tree.number n) = Ok (pos n.value)
  term_value s xs (tree.own v) = whole (s.reads None (var_number xs v))
  term_value s xs (tree.of_port p v) =
      and_then (port_value s xs p) (λ q. whole (s.reads (Some q) (var_number xs v)))
  term_value s xs (tree.count v set g) =
      whole (count_of_ports (λ p. guard_value s (bind xs v p) g) (ports_of s set))
  term_value s xs (tree.direction side p) = and_then (port_value s xs p) (λ q. whole (side_value s side q))
  term_value s xs tree.inner = whole (inner_value s.own)
  term_value s xs (tree.mod6 a) = and_then (sum_value s xs a) (λ x. Ok (int_rem_euclid x (pos 6)))

  pub port_value : Sight → Names → tree.PortExpr → Result Port Failure
  port_value s xs (tree.bound v) = Ok (port_named xs v)
  port_value s xs (tree.at_end e d) = and_then (dirterm_value s xs d) (λ i. Ok (port e i))
  port_value s xs (tree.turned p n) =
      and_then (port_value s xs p) (λ q. Ok (port q.end ((q.dir + n.value) % 6)))
  port_value s xs (tree.first v set g) = first_of_ports (λ p. guard_value s (bind xs v p) g) (ports_of s set)
