-- Configurations with the same ids.
use Rattle.std.proofs.Common.{ap, ◌∙◌, refl}
use Rattle.amoebot_state.specs.Configs.{Config}
use Rattle.amoebot_state.specs.Patches.{HasSameIds}

pub still_same : (c : Config) → HasSameIds c c
still_same c = record { rest = refl; size = refl; ids = λ j. refl }

pub both_same : (c m d : Config) → HasSameIds c m → HasSameIds m d → HasSameIds c d
both_same c m d one two = record {
  rest = two.rest ∙ ap (λ (x : Config). let y : Config = record x { bots = d.bots } in y) one.rest;
  size = two.size ∙ one.size;
  ids = λ j. two.ids j ∙ one.ids j;
}
