use Rattle.std.proofs.Common.{◌≡◌, ◌∙◌, ◌*◌, ap, refl, sym, length}
use Rattle.tri_lattice.specs.Extent.{Extent}
use Rattle.amoebot_state.proofs.Stored.{empty_world}
use Rattle.amoebot_state.proofs.world.World.empty.Goals as goal

pub invariant_of-result : goal.invariant_of-result
invariant_of-result c =
    let bots = c.reserve_exact.ensures.items ∙ c.new-amoebots.ensures.items in
    let size : length c.resize.new.self.items ≡ c.size.result = sym c.resize.new.self.ok.0 ∙ c.in_ok-resize.ensures.len in
    empty_world _ c.args.frame c.reserve_exact.new.self.items c.resize.new.self.items _ _ _ c.frame.invariant.valid refl c.frame.view_is bots
    (size ∙ c.size.ensures.value ∙ ap (λ (a : Extent). a.w * a.h) c.area.ensures)
    c.in_ok-resize.ensures.items c.new-occupants.ensures.items
