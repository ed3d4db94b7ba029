use Rattle.std.proofs.Common.{map, arith}
use Rattle.std.proofs.lemmas.Bool.{eqb-true}
use Rattle.std.proofs.lemmas.List.{length-map}
use Rattle.action_tree.specs.Scopes.{names_of_vars}
use Rattle.action_tree.specs.Views.{var_of}
use Rattle.action_eval.proofs.AtPlace.{place_below}
use Rattle.action_eval.proofs.names.Names.var_number.Goals as goal

pub returns-clause-below : goal.returns-clause-below
returns-clause-below c =
    let vs = c.args.self.now.vars.now in
    let e = eqb-true _ _ c.requires.placed in
    let l = place_below (names_of_vars (map var_of vs)) c.args.name.now.text.bytes c.requires.kept in
    omega (arith, length-map vs var_of, length-map (map var_of vs) (λ v. v.name.text), c.args.self.now.few)
