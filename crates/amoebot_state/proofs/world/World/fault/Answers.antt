use Rattle.std.proofs.Common.{◌∙◌, ap, sym, arith}
use Rattle.amoebot_state.specs.Configs.{Config, has_values}
use Rattle.amoebot_state.proofs.Stored.{counted, in_box, no_gap, no_wall, no_other, no_value, out_of_box, not_adjacent, on_wall, overlapping, bad_value}
use Rattle.amoebot_state.proofs.world.World.fault.Goals as goal

pub overflow_cast-id : goal.overflow_cast-id
overflow_cast-id c =
    let n = counted c.self.inside.frame c.args.self.now c.self.inside.amoebots.items _ (c.len-id.ensures ∙ c.self.inside.amoebots.ok.0) c.self.view_is in
    record { fits = omega (arith, n, c.requires.few) }

pub returns-then-not-is_inside : goal.returns-then-not-is_inside
returns-then-not-is_inside c =
    let n = counted c.self.inside.frame c.args.self.now c.self.inside.amoebots.items _ (c.len-id.ensures ∙ c.self.inside.amoebots.ok.0) c.self.view_is in
    out_of_box c.args.self.now c.args.bot.now _ n (sym c.if-not-is_inside.true ∙ c.is_inside.ensures)

pub returns-then-not-is_close : goal.returns-then-not-is_close
returns-then-not-is_close c =
    let w = c.args.self.now in
    let b = c.args.bot.now in
    let n = counted c.self.inside.frame w c.self.inside.amoebots.items _ (c.len-id.ensures ∙ c.self.inside.amoebots.ok.0) c.self.view_is in
    not_adjacent w b _ n (sym c.if-not-is_close.true ∙ c.is_close.ensures)
    ∙ in_box w b (sym c.if-not-is_inside.false ∙ c.is_inside.ensures)

pub returns-then-is_on_wall : goal.returns-then-is_on_wall
returns-then-is_on_wall c =
    let w = c.args.self.now in
    let b = c.args.bot.now in
    let n = counted c.self.inside.frame w c.self.inside.amoebots.items _ (c.len-id.ensures ∙ c.self.inside.amoebots.ok.0) c.self.view_is in
    on_wall w b _ n (sym c.if-is_on_wall.true ∙ c.is_on_wall.ensures)
    ∙ no_gap w b (sym c.if-not-is_close.false ∙ c.is_close.ensures)
    ∙ in_box w b (sym c.if-not-is_inside.false ∙ c.is_inside.ensures)

pub returns-then-is_on_other : goal.returns-then-is_on_other
returns-then-is_on_other c =
    let w = c.args.self.now in
    let b = c.args.bot.now in
    let n = counted c.self.inside.frame w c.self.inside.amoebots.items _ (c.len-id.ensures ∙ c.self.inside.amoebots.ok.0) c.self.view_is in
    overlapping w b _ n (sym c.if-is_on_other.true ∙ c.is_on_other.ensures)
    ∙ no_wall w b (sym c.if-is_on_wall.false ∙ c.is_on_wall.ensures)
    ∙ no_gap w b (sym c.if-not-is_close.false ∙ c.is_close.ensures)
    ∙ in_box w b (sym c.if-not-is_inside.false ∙ c.is_inside.ensures)

pub returns-then-not-has_values : goal.returns-then-not-has_values
returns-then-not-has_values c =
    let w = c.args.self.now in
    let b = c.args.bot.now in
    let n = counted c.self.inside.frame w c.self.inside.amoebots.items _ (c.len-id.ensures ∙ c.self.inside.amoebots.ok.0) c.self.view_is in
    bad_value w b _ n (sym c.if-not-has_values.true ∙ c.has_values.ensures ∙ ap (λ ms. has_values ms b.mem) (c.maxes.ensures ∙ ap (λ (d : Config). d.maxes) c.self.view_is))
    ∙ no_other w b (sym c.if-is_on_other.false ∙ c.is_on_other.ensures)
    ∙ no_wall w b (sym c.if-is_on_wall.false ∙ c.is_on_wall.ensures)
    ∙ no_gap w b (sym c.if-not-is_close.false ∙ c.is_close.ensures)
    ∙ in_box w b (sym c.if-not-is_inside.false ∙ c.is_inside.ensures)

pub returns : goal.returns
returns c =
    let w = c.args.self.now in
    let b = c.args.bot.now in
    no_value w b (sym c.if-not-has_values.false ∙ c.has_values.ensures ∙ ap (λ ms. has_values ms b.mem) (c.maxes.ensures ∙ ap (λ (d : Config). d.maxes) c.self.view_is))
    ∙ no_other w b (sym c.if-is_on_other.false ∙ c.is_on_other.ensures)
    ∙ no_wall w b (sym c.if-is_on_wall.false ∙ c.is_on_wall.ensures)
    ∙ no_gap w b (sym c.if-not-is_close.false ∙ c.is_close.ensures)
    ∙ in_box w b (sym c.if-not-is_inside.false ∙ c.is_inside.ensures)
