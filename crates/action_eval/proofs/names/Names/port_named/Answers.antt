use Rattle.std.proofs.Common.{◌<◌, List, length, sym, subst, ◌∙◌}
use Rattle.std.proofs.lemmas.Bool.{eqb-true}
use Rattle.action_eval.specs.declared.names.Bound.{Bound}
use Rattle.action_eval.proofs.AtPlace.{bound_there, port_there}
use Rattle.action_eval.proofs.names.Names.port_named.Goals as goal

pub bounds-deref-from : goal.bounds-deref-from
bounds-deref-from c =
    let P : List Bound → Type 0 = λ bs. c.from.result < length bs in
    subst P (sym c.deref.ensures.0) (bound_there c.args.self.now.bound.items c.args.name.now.text.bytes _ (c.from.ensures ∙ eqb-true _ _ c.requires.placed) c.requires.kept)

pub bounds-deref-from-2 : goal.bounds-deref-from-2
bounds-deref-from-2 c = bounds-deref-from c

pub returns : goal.returns
returns c =
    let e = c.from.ensures ∙ eqb-true _ _ c.requires.placed in
    let text = c.args.name.now.text.bytes in
    rw c.deref.ensures.0 (port_there c.args.self.now.bound.items text _ c.index-deref-from.result e (bound_there c.args.self.now.bound.items text _ e c.requires.kept))
