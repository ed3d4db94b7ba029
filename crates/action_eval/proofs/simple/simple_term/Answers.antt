use Rattle.std.proofs.Common.{◌∙◌, sym, ap, rules, Ok}
use Rattle.std.specs.Int.RustNames.{FitsSigned}
use mir.Syntax.{w32}
use Rattle.std.proofs.lemmas.Int.{to_z-of_z}
use Rattle.action_tree.specs.Views.{name_of, port_of}
use Rattle.action_eval.specs.Known.{known, sight_of}
use Rattle.action_eval.proofs.Nodes.{member_tree}
use Rattle.action_eval.proofs.Terms.{of_port_is}
use Rattle.action_eval.proofs.SimpleSums.{read_is}
use Rattle.action_eval.proofs.simple.simple_term.Goals as goal

pub returns-in_ok-value-in-Of : goal.returns-in_ok-value-in-Of
returns-in_ok-value-in-Of c =
    let s = sight_of c.args.site.now in
    let xs = known c.args.names.now in
    let n = c.var_number-in-Of in
    let k = c.in_ok-value-in-Of in
    let fits : FitsSigned w32 c.from-in-Of.result = search rules in
    let whole = member_tree c.args.term.now c.in-Of.port c.in-Of.name c.in-Of.is in
    let read = sym c.read-in-Of.ensures ∙ read_is c.read-in-Of.result k.value k.ensures.value in
    let value = of_port_is s xs (port_of c.in-Of.port) (name_of c.in-Of.name) c.in_ok-port-in-Of.port n.result k.value (c.in_ok-port-in-Of.ensures s) n.ensures.value read in
    rw (to_z-of_z w32 c.from-in-Of.result fits, whole) (value ∙ sym (ap Ok c.from-in-Of.ensures))
