use Rattle.std.proofs.Common.{◌≡◌, ◌∙◌, ap, sym, subst, None}
use Rattle.tri_lattice.specs.Extent.{Extent, index_of}
use Rattle.amoebot_state.specs.Configs.{Config, occupant}
use Rattle.amoebot_state.proofs.Occupants.{outside_empty}
use Rattle.amoebot_state.proofs.Stored.{stored_occupant}
use Rattle.amoebot_state.proofs.world.World.occupant.Goals as goal

pub returns-in-None : goal.returns-in-None
returns-in-None c =
    let P : Config → Type 0 = λ x. None ≡ occupant x c.args.node in
    subst P c.self.view_is (outside_empty _ c.self.invariant.valid c.args.node (ap (λ (a : Extent). index_of a c.args.node) (sym c.area.ensures) ∙ sym c.in-None.ensures.value))

pub returns-in-Some : goal.returns-in-Some
returns-in-Some c =
    stored_occupant _ c.args.self.now c.self.inside.occupants.items c.args.node c.in-Some.number _ c.self.invariant.kept c.self.view_is (ap (λ (a : Extent). index_of a c.args.node) (sym c.area.ensures) ∙ sym c.in-Some.ensures.value) c.index-in-Some.ensures
