use Rattle.std.proofs.Common.{◌≡◌, ◌⊎◌, inl, inr, ℕ, List, length, map, Option, Ok, Err, sym, ap, subst, ◌∙◌, arith}
use Rattle.std.specs.Option.{option_or}
use Rattle.std.specs.List.{All}
use Rattle.std.proofs.lemmas.List.{length-map}
use Rattle.text_tokens.specs.declared.refusal.Refusal.{Refusal}
use Rattle.text_tokens.specs.declared.refusal.ReadRefusal.{ReadRefusal}
use Rattle.text_tokens.specs.declared.refusal.ReadRefusal.TheVariants.{Refused}
use Rattle.text_tokens.specs.declared.refusal.RefusalKind.TheVariants as kind
use Rattle.text_tokens.specs.Cursor.{on_line}
use Rattle.tri_lattice.specs.declared.node.Node.{Node}
use Rattle.tri_lattice.specs.Extent.{Extent}
use Rattle.amoebot_state.specs.declared.bot.Bot.{Bot}
use Rattle.amoebot_state.specs.declared.refusal.WorldRefusal.{WorldRefusal}
use Rattle.amoebot_state.specs.declared.refusal.WorldRefusal.TheVariants as world
use Rattle.amoebot_state.specs.Configs.{Config, walled_frame, with_these}
use Rattle.amoebot_state.specs.Refusals.{IsBotInRange, IsFaultless, IsFirstFault, AreWalls, IsFirstBadWall, IsFirstRefusal}
use Rattle.shape_text.specs.declared.shape.WrittenWall.{WrittenWall}
use Rattle.shape_text.specs.declared.shape.WrittenBot.{WrittenBot}
use Rattle.shape_text.specs.Shapes.{WrittenShape, written_shape, first_broken, shape_frame, shape_fault}
use Rattle.shape_text.specs.Views as view
use Rattle.shape_text.proofs.JudgementsLemmas.{its_node, same_nodes, none_refused, refusing_wall, same_bots, bots_in_range, is_faultless, refusing, its_bot}
use Rattle.shape_text.proofs.shape.world_of.Goals as goal

module _ (a : Extent) (maxes : List ℕ) (ws : List WrittenWall) (bs : List WrittenBot) where
  abbrev Nodes : List Node
  Nodes = map its_node ws

  abbrev Bots : List Bot
  Bots = map its_bot bs

  abbrev Written : WrittenShape
  Written = written_shape a (map view.wall_view ws) (map view.bot_view bs)

  -- its frame is that of its nodes
  framed : shape_frame maxes Written ≡ walled_frame a Nodes maxes
  framed = ap (λ (vs : List Node). walled_frame a vs maxes) (same_nodes ws)

  -- no wall is refused, so that the amoebots are judged
  unwalled : AreWalls a Nodes (length Nodes) → shape_fault maxes Written ≡ first_broken (walled_frame a Nodes maxes) (map view.bot_view bs)
  unwalled walls =
      ap (λ (o : Option Refusal). option_or o (first_broken (shape_frame maxes Written) (map view.bot_view bs))) (none_refused a ws walls)
      ∙ ap (λ (x : Config). first_broken x (map view.bot_view bs)) framed

  named : (e : WorldRefusal) → (e ≡ world.NoMemory) ⊎ IsFirstRefusal a Nodes maxes Bots e → view.HasPlace ws bs (view.blamed_at e)
  named e (inl none) = rw none tt
  named e (inr (inl w)) = rw w.1 (refusing_wall a ws w.0 w.2).inside
  named e (inr (inr f)) = let r = refusing (walled_frame a Nodes maxes) bs e f.1 in rw r.names r.inside

  refused_as : (e : WorldRefusal) (result : ReadRefusal) → (e ≡ world.NoMemory) ⊎ IsFirstRefusal a Nodes maxes Bots e → view.BlamedAs ws bs (view.blamed_at e) result → view.IsJudged maxes Written (Err result)
  refused_as e result (inl none) as_blamed = rw ((rw none at as_blamed)) tt
  refused_as e result (inr (inl w)) as_blamed =
      let r = refusing_wall a ws w.0 w.2 in
      let is : result ≡ Refused (on_line r.one.line kind.BadWall) = (rw w.1 at as_blamed) r.one r.there in
      rw is (ap (λ (o : Option Refusal). option_or o (first_broken (shape_frame maxes Written) (map view.bot_view bs))) r.first)
  refused_as e result (inr (inr f)) as_blamed =
      let r = refusing (walled_frame a Nodes maxes) bs e f.1 in
      let is : result ≡ Refused (on_line r.one.line r.kind) = (rw r.names at as_blamed) r.one r.there in
      rw is (unwalled f.0 ∙ r.first)

  fine : AreWalls a Nodes (length Nodes) → IsFaultless (walled_frame a Nodes maxes) Bots (length Bots) → view.IsJudged maxes Written (Ok (with_these (walled_frame a Nodes maxes) Bots))
  fine walls faultless = (unwalled walls ∙ is_faultless (walled_frame a Nodes maxes) bs faultless, ap (λ (x : Config). with_these x Bots) (sym framed) ∙ ap (with_these (shape_frame maxes Written)) (sym (same_bots bs)))

-- the lists that were passed are those of the shape
module _ (a : Extent) (maxes : List ℕ) (ws : List WrittenWall) (bs : List WrittenBot) (vs : List Node) (ds : List Bot) (walls : vs ≡ map its_node ws) (bots : ds ≡ map its_bot bs) where
  refusal_here : (e : WorldRefusal) → (e ≡ world.NoMemory) ⊎ IsFirstRefusal a vs maxes ds e → (e ≡ world.NoMemory) ⊎ IsFirstRefusal a (map its_node ws) maxes (map its_bot bs) e
  refusal_here e r = subst (λ (us : List Node). (e ≡ world.NoMemory) ⊎ IsFirstRefusal a us maxes (map its_bot bs) e) walls (subst (λ (cs : List Bot). (e ≡ world.NoMemory) ⊎ IsFirstRefusal a vs maxes cs e) bots r)

  fine_here : (w : Config) → w ≡ with_these (walled_frame a vs maxes) ds → AreWalls a vs (length vs) → IsFaultless (walled_frame a vs maxes) ds (length ds) → view.IsJudged maxes (Written a maxes ws bs) (Ok w)
  fine_here w value stand faultless =
      let here = subst (λ (us : List Node). IsFaultless (walled_frame a us maxes) (map its_bot bs) (length (map its_bot bs))) walls (subst (λ (cs : List Bot). IsFaultless (walled_frame a vs maxes) cs (length cs)) bots faultless) in
      let j = fine a maxes ws bs (subst (λ (us : List Node). AreWalls a us (length us)) walls stand) here in
      (j.0, value ∙ ap (λ (us : List Node). with_these (walled_frame a us maxes) ds) walls ∙ ap (with_these (walled_frame a (map its_node ws) maxes)) bots ∙ j.1)

walls_passed : (c : goal.After-as_slice-4) → c.as_slice-3.result.now ≡ map its_node c.args.written.now.walls.items
walls_passed c = c.as_slice-3.ensures.value ∙ c.in_ok-walls.ensures.value ∙ ap (map its_node) c.as_slice.ensures.value

bots_passed : (c : goal.After-as_slice-4) → c.as_slice-4.result.now ≡ map its_bot c.args.written.now.bots.items
bots_passed c = c.as_slice-4.ensures.value ∙ c.in_ok-bots.ensures.value ∙ ap (map its_bot) c.as_slice-2.ensures.value

pub walled-requires-clause-few_walls : goal.walled-requires-clause-few_walls
walled-requires-clause-few_walls c =
    let size = ap length (walls_passed c) ∙ length-map c.args.written.now.walls.items its_node in
    let few = c.requires.few_walls in
    omega (arith, size, few)

pub walled-requires-clause-in_range : goal.walled-requires-clause-in_range
walled-requires-clause-in_range c = subst (λ (bs : List Bot). All IsBotInRange bs) (sym (bots_passed c)) (bots_in_range c.args.written.now.bots.items c.requires.in_range)

pub returns-in-Ok-clause-judged : goal.returns-in-Ok-clause-judged
returns-in-Ok-clause-judged c = fine_here c.args.written.now.area c.args.maxes c.args.written.now.walls.items c.args.written.now.bots.items c.as_slice-3.result.now c.as_slice-4.result.now
    (c.as_slice-3.ensures.value ∙ c.in_ok-walls.ensures.value ∙ ap (map its_node) c.as_slice.ensures.value) (c.as_slice-4.ensures.value ∙ c.in_ok-bots.ensures.value ∙ ap (map its_bot) c.as_slice-2.ensures.value)
    c.in-Ok.world c.in-Ok.ensures.value c.in-Ok.ensures.walls c.in-Ok.ensures.faultless

pub refusal_of-requires : goal.refusal_of-requires
refusal_of-requires c =
    let walls = c.as_slice-3.ensures.value ∙ c.in_ok-walls.ensures.value ∙ ap (map its_node) c.as_slice.ensures.value in
    let bots = c.as_slice-4.ensures.value ∙ c.in_ok-bots.ensures.value ∙ ap (map its_bot) c.as_slice-2.ensures.value in
    let s = c.args.written.now in
    let first = refusal_here s.area c.args.maxes s.walls.items s.bots.items c.as_slice-3.result.now c.as_slice-4.result.now walls bots c.in-Err.refusal c.in-Err.ensures.fault in
    rw (c.as_slice-in-Err.ensures.value, c.as_slice-in-Err-2.ensures.value) (named s.area c.args.maxes s.walls.items s.bots.items c.in-Err.refusal first)

pub returns-clause-judged : goal.returns-clause-judged
returns-clause-judged c =
    let walls = c.as_slice-3.ensures.value ∙ c.in_ok-walls.ensures.value ∙ ap (map its_node) c.as_slice.ensures.value in
    let bots = c.as_slice-4.ensures.value ∙ c.in_ok-bots.ensures.value ∙ ap (map its_bot) c.as_slice-2.ensures.value in
    let s = c.args.written.now in
    let first = refusal_here s.area c.args.maxes s.walls.items s.bots.items c.as_slice-3.result.now c.as_slice-4.result.now walls bots c.in-Err.refusal c.in-Err.ensures.fault in
    let as_blamed : view.BlamedAs s.walls.items s.bots.items (view.blamed_at c.in-Err.refusal) c.refusal_of.result = rw (c.as_slice-in-Err.ensures.value, c.as_slice-in-Err-2.ensures.value) at c.refusal_of.ensures in
    refused_as s.area c.args.maxes s.walls.items s.bots.items c.in-Err.refusal c.refusal_of.result first as_blamed
