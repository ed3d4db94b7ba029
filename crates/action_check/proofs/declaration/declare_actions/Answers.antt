use Rattle.std.proofs.Common.{◌≡◌, refl, sym, subst}
use Rattle.std.specs.Prelude.{Ok}
use Rattle.action_tree.specs.Views.{action_of}
use Rattle.action_tree.specs.Writable.{action_names}
use Rattle.action_tree.specs.Scopes.{Scope, HasRoom}
use Rattle.action_check.specs.Faults.{action_faults}
use Rattle.action_check.specs.Told.{first_of}
use Rattle.action_check.proofs.DeclarationLemmas.{action_room, actions_next}
use Rattle.action_check.proofs.declaration.declare_actions.Goals as goal

pub check_action-requires : goal.check_action-requires
check_action-requires c =
    let P : Scope → Type 0 = λ sc. HasRoom sc (action_names (action_of c.action-item.result)) in
    subst P (sym c.new.ensures) (action_room _ _ _ _ _ _ refl c.loop-action.invariant c.loop-action-test.true c.action-item.is)

pub loop-action-preserved : goal.loop-action-preserved
loop-action-preserved c =
    let P : Scope → Type 0 = λ sc. first_of (action_faults sc (action_of c.action-item.result)) ≡ Ok tt in
    let fine = subst P c.new.ensures (sym c.in_ok-check_action.ensures) in
    actions_next _ _ _ _ _ _ _ c.loop-action.invariant c.loop-action-test.true c.action-item.is c.in_ok-declare.ensures.fine fine c.in_ok-declare.ensures.names
