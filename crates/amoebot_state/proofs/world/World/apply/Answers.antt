use Rattle.std.proofs.Common.{ap, sym, ◌∙◌, subst, List, ℕ, Option}
use Rattle.tri_lattice.specs.Extent.{Extent}
use Rattle.amoebot_state.specs.declared.bot.Bot.{Bot}
use Rattle.amoebot_state.specs.Configs.{Config, IsWorld, with_these}
use Rattle.amoebot_state.specs.Pairs.{Triples, plain_patch}
use Rattle.amoebot_state.specs.Patches.{IsPatched}
use Rattle.amoebot_state.specs.Storage.{put_bots, put_spots}
use Rattle.amoebot_state.proofs.Patched.{is_patched, world_patched}
use Rattle.amoebot_state.proofs.world.World.apply.Goals as goal

pub invariant_of-self : goal.invariant_of-self
invariant_of-self c =
    let was = c.self.inside in
    let frame = was.frame in
    let patch = plain_patch c.args.patch.now in
    let bots = c.put_all.ensures.bots ∙ ap (λ (ts : Triples). put_bots was.amoebots.items (plain_patch ts)) c.triples.ensures.value in
    let grid = c.put_all.ensures.grid ∙ ap (λ (a : Extent). put_spots a was.occupants.items (plain_patch c.triples.result.now)) c.area.ensures ∙ ap (λ (ts : Triples). put_spots was.frame.area was.occupants.items (plain_patch ts)) c.triples.ensures.value in
    let P : Config → Type 0 = λ d. IsPatched d patch c.requires.0 in
    let Q : List Bot → Type 0 = λ bs. IsWorld (with_these frame bs) c.put_all.new.occupants.items in
    let R : List (Option ℕ) → Type 0 = λ g. IsWorld (with_these frame (put_bots was.amoebots.items patch)) g in
    subst Q (sym bots) (subst R (sym grid) (world_patched frame was.amoebots.items was.occupants.items patch c.requires.0 c.self.invariant (subst P (sym c.self.view_is) c.requires.1)))

pub returns : goal.returns
returns c =
    let was = c.self.inside in
    let frame = was.frame in
    let patch = plain_patch c.args.patch.now in
    let bots = c.put_all.ensures.bots ∙ ap (λ (ts : Triples). put_bots was.amoebots.items (plain_patch ts)) c.triples.ensures.value in
    let P : Config → Type 0 = λ d. IsPatched d patch c.requires.0 in
    let Q : Config → Type 0 = λ d. IsPatched c.args.self.now patch d in
    subst Q (is_patched frame was.amoebots.items patch c.requires.0 (subst P (sym c.self.view_is) c.requires.1) ∙ ap (with_these frame) (sym bots)) c.requires.1
