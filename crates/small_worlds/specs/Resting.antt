-- Programs that change nothing, with the proofs that they keep the laws of deciders.
-- A decider gives its laws as ghost items, which may cite no term of the crate's own proofs/,
-- so they stand here.
use Rattle.std.proofs.Common.{subst}
use Rattle.amoebot_state.specs.declared.verdict.Failure.TheVariants.{Edge}
use Rattle.amoebot_state.specs.declared.verdict.Verdict.{Verdict}
use Rattle.amoebot_state.specs.declared.verdict.Verdict.TheVariants as verdict
use Rattle.amoebot_state.specs.Zones.{Shown}
use Rattle.amoebot_state.specs.Steps.{IsLawful}

abbrev pub idle : Shown → Verdict
idle s = verdict.Idle

abbrev pub at_the_edge : Shown → Verdict
at_the_edge s = verdict.Failed Edge

-- no change is decided
abbrev IsNoChange : Verdict → Type 0
IsNoChange verdict.Idle = Unit {0}
IsNoChange (verdict.Failed why) = Unit {0}
IsNoChange (verdict.Change change) = ⊥

abbrev pub Rests : (Shown → Verdict) → Type 0
Rests f = (s : Shown) → IsNoChange (f s)

pub idle_rests : Rests idle
idle_rests s = tt

pub edge_rests : Rests at_the_edge
edge_rests s = tt

-- such a program keeps the laws of deciders
pub resting_is_lawful : (f : Shown → Verdict) → Rests f → IsLawful f
resting_is_lawful f rests c i change changes = absurd (subst IsNoChange changes.decided (rests _))
