-- The value of a term whose port or ports were asked.
use Rattle.std.proofs.Common.{◌≡◌, ℕ, refl, Some}
use Rattle.std.specs.Prelude.{Ok, Err, pos}
use Rattle.amoebot_state.specs.declared.bot.Port.{Port}
use Rattle.amoebot_state.specs.declared.verdict.Failure.{Failure}
use Rattle.model_ops.specs.Sights.{Sight}
use Rattle.action_tree.specs.declared.expression.PortSet.{PortSet}
use Rattle.action_tree.specs.Trees.{Name, Guard, PortExpr, of_port, count}
use Rattle.action_meaning.specs.Names.{Names, var_number, bind}
use Rattle.action_meaning.specs.Choices.{count_of_ports}
use Rattle.action_meaning.specs.Values.{guard_value, term_value, port_value, ports_of}

pub of_port_fails : (s : Sight) (xs : Names) (p : PortExpr) (v : Name) (q : Port) (n : ℕ) (f : Failure) → port_value s xs p ≡ Ok q → n ≡ var_number xs v → s.reads (Some q) n ≡ Err f → term_value s xs (of_port p v) ≡ Err f
of_port_fails s xs p v q n f port is fails =
    let e = rw is at fails in
    rw port (rw e refl)

pub of_port_is : (s : Sight) (xs : Names) (p : PortExpr) (v : Name) (q : Port) (n k : ℕ) → port_value s xs p ≡ Ok q → n ≡ var_number xs v → s.reads (Some q) n ≡ Ok k → term_value s xs (of_port p v) ≡ Ok (pos k)
of_port_is s xs p v q n k port is read =
    let e = rw is at read in
    rw port (rw e refl)

pub count_fails : (s : Sight) (xs : Names) (v : Name) (set : PortSet) (g : Guard) (f : Failure) → count_of_ports (λ p. guard_value s (bind xs v p) g) (ports_of s set) ≡ Err f → term_value s xs (count v set g) ≡ Err f
count_fails s xs v set g f e = rw e refl

pub count_is : (s : Sight) (xs : Names) (v : Name) (set : PortSet) (g : Guard) (k : ℕ) → count_of_ports (λ p. guard_value s (bind xs v p) g) (ports_of s set) ≡ Ok k → term_value s xs (count v set g) ≡ Ok (pos k)
count_is s xs v set g k e = rw e refl
