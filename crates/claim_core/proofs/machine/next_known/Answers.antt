use Rattle.std.proofs.Common.{◌≡◌, [], sym, ap, ◌∙◌, length}
use Rattle.std.specs.Prelude.{slice_get}
use Rattle.std.proofs.lemmas.Bool.{eqb-true, false≢true, eq-eqb}
use Rattle.std.proofs.lemmas.List.{nil_from_length}
use Rattle.amoebot_state.specs.Known.{next_cell}
use Rattle.amoebot_state.specs.Ways.{Reading, reading}
use Rattle.claim_core.proofs.MachineLemmas.{some_held}
use Rattle.claim_core.proofs.machine.next_known.Goals as goal

pub returns-then-is_empty : goal.returns-then-is_empty
returns-then-is_empty c = λ a kept.
    let none : c.args.held.now ≡ [] = nil_from_length c.args.held.now (eqb-true _ _ (sym c.is_empty.ensures ∙ c.if-is_empty.true)) in
    (c.begin.ensures a ∙ ap (reading a c.args.bot) (sym none), ap (next_cell a c.args.bot) (sym none))

pub returns : goal.returns
returns c = λ a kept.
    let known = kept (some_held c.args.held.now (λ e. false≢true (sym c.if-is_empty.false ∙ c.is_empty.ensures ∙ eq-eqb _ _ e))) in
    (known, c.next.ensures ∙ ap (λ (r : Reading). slice_get r.names (length c.args.held.now)) known)
