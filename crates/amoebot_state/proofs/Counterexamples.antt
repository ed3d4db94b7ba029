-- What an earlier form of a definition let through, and what rules it out now.
use Rattle.std.proofs.Common.{◌≡◌, ◌∙◌, ap, sym, refl, true, [], ◌∷◌, length, arith}
use Rattle.amoebot_state.specs.declared.bot.Bot.{Bot}
use Rattle.amoebot_state.specs.Configs.{Config, IsBot, IsValid, has_values}

-- the test of values looks at eight of them: a ninth passes it without a maximum, none at all pass any maxima, and one maximum is enough for eight zeros
ninth_passes : has_values (1 ∷ []) (0 ∷ 0 ∷ 0 ∷ 0 ∷ 0 ∷ 0 ∷ 0 ∷ 0 ∷ 9 ∷ []) ≡ true
ninth_passes = refl

none_passes : has_values (3 ∷ 3 ∷ []) [] ≡ true
none_passes = refl

-- an amoebot that may stand in a frame has eight
no_nine : (c : Config) (b : Bot) → b.mem ≡ 0 ∷ 0 ∷ 0 ∷ 0 ∷ 0 ∷ 0 ∷ 0 ∷ 0 ∷ 9 ∷ [] → IsBot c b → ⊥
no_nine c b e fits = let long : 9 ≡ 8 = ap length (sym e) ∙ fits.eight in omega (arith, long)

no_memory : (c : Config) (b : Bot) → b.mem ≡ [] → IsBot c b → ⊥
no_memory c b e fits = let long : 0 ≡ 8 = ap length (sym e) ∙ fits.eight in omega (arith, long)

-- and a valid configuration has eight maxima
no_one_maximum : (c : Config) → c.maxes ≡ 1 ∷ [] → IsValid c → ⊥
no_one_maximum c e valid = let long : 1 ≡ 8 = ap length (sym e) ∙ valid.eight in omega (arith, long)
