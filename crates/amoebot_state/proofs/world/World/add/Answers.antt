use Rattle.std.proofs.Common.{◌≡◌, ◌<◌, ap, sym, ◌∙◌, subst, None, arith, length, Some, List, Option, ℕ}
use Rattle.std.proofs.lemmas.List.{length-map}
use Rattle.tri_lattice.specs.Extent.{Extent, index_of}
use Rattle.amoebot_state.specs.Configs.{Config, with_these, with_bot}
use Rattle.amoebot_state.specs.Storage.{put_at}
use Rattle.amoebot_state.specs.Refusals.{bot_fault}
use Rattle.amoebot_state.proofs.Added.{no_fault, world_made, these_push}
use Rattle.amoebot_state.proofs.Stored.{counted}
use Rattle.amoebot_state.proofs.world.World.add.Goals as goal

pub invariant_of-self-2 : goal.invariant_of-self-2
invariant_of-self-2 c =
    let was = c.self.inside in
    let frame = was.frame in
    let b = c.args.bot.now in
    let P : Config → Type 0 = λ d. bot_fault d b ≡ None in
    let may = no_fault (with_these frame was.amoebots.items) b c.requires.in_range (subst P (sym c.self.view_is) (sym c.in-None.ensures)) in
    let size : c.len-id.result ≡ length was.amoebots.items = omega arith in
    let e = ap (λ (d : Config). length d.bots) c.self.view_is in
    let m = length-map was.amoebots.items Some in
    let few : c.len-id.result < 4096 = omega arith in
    let put : Extent → List (Option ℕ) = λ a. put_at (put_at was.occupants.items (index_of a b.head) (Some c.len-id.result)) (index_of a b.tail) (Some c.len-id.result) in
    world_made frame was.amoebots.items c.put_new.new.amoebots.items was.occupants.items c.put_new.new.occupants.items b c.len-id.result size few may c.self.invariant c.in_ok-put_new.ensures.bots (c.in_ok-put_new.ensures.grid ∙ ap put c.area.ensures)

pub returns-clause-ok : goal.returns-clause-ok
returns-clause-ok c =
    let frame = c.self.inside.frame in
    (sym c.in-None.ensures, ap (with_these frame) c.in_ok-put_new.ensures.bots ∙ these_push frame c.self.inside.amoebots.items c.args.bot.now ∙ ap (λ d. with_bot d c.args.bot.now) c.self.view_is)

pub overflow_cast-id : goal.overflow_cast-id
overflow_cast-id c =
    let n = counted c.self.inside.frame c.args.self.now c.self.inside.amoebots.items _ (c.len-id.ensures ∙ c.self.inside.amoebots.ok.0) c.self.view_is in
    record { fits = omega (arith, n, c.requires.few) }
