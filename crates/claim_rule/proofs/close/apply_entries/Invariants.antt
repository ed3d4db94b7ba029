use Rattle.std.proofs.Common.{drop}
use Rattle.amoebot_state.specs.Configs.{Config}
use Rattle.amoebot_state.specs.Steps.{Run}
use Rattle.claim_rule.proofs.close.apply_entries.Given as goal

-- the entries that are left lead on to the last world of all
abbrev pub invariant-loop-entry : goal.invariant-loop-entry
invariant-loop-entry g l = (last : Config) × Run (g.D.Decider.verdict l.decider) l.world (drop l.entry-index l.entries) last × Run (g.D.Decider.verdict l.decider) l.initial.world l.entries last
