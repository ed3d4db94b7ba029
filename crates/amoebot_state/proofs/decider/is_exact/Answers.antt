use Rattle.amoebot_state.proofs.decider.is_exact.Goals as goal

pub returns : goal.returns
returns g c = λ old i change decides.
    let lawful = (g.met.D.Decider g.world.𝓛 g.world.𝓜 g.world.𝓡 (λ s h. h, λ h. h, λ h. h, λ h. h)).is_lawful c.args._decider.now old i change decides in
    (lawful.ordered, lawful.differs)
