use Rattle.amoebot_state.proofs.decider.old_values_are_found.Goals as goal

pub returns : goal.returns
returns g c = λ old i change decides. ((g.met.D.Decider g.world.𝓛 g.world.𝓜 g.world.𝓡 (λ s h. h, λ h. h, λ h. h, λ h. h)).is_lawful c.args._decider.now old i change decides).found
