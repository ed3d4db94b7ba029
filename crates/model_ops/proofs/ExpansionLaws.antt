-- The decider that expands makes its changes by acts, so it keeps the laws of deciders.
use Rattle.std.proofs.Common.{Bool, true, false, [], subst}
use Rattle.std.specs.Prelude.{if◌then◌else◌}
use Rattle.amoebot_state.specs.declared.bot.Port.{Port}
use Rattle.amoebot_state.specs.declared.verdict.Moved.TheVariants as moved
use Rattle.amoebot_state.specs.declared.verdict.Verdict.TheVariants as verdict
use Rattle.amoebot_state.specs.Ports.{is_contracted}
use Rattle.amoebot_state.specs.Configs.{bot_of}
use Rattle.amoebot_state.specs.Steps.{IsLawful}
use Rattle.amoebot_state.specs.Zones.{Shown, shown_alone}
use Rattle.model_ops.specs.Deciders.{DecidesByActs}
use Rattle.model_ops.specs.Expansion.{verdict_by, expansion_verdict_shown}
use Rattle.model_ops.specs.Operations.{expand}
use Rattle.model_ops.specs.Reaches.{Acts}
use Rattle.model_ops.proofs.ActsDecide.{acts_keep_decider_laws}
use Rattle.model_ops.proofs.Decided.{MadeByActs, made}

-- the expansion alone, without a write before it
abbrev pub expanding : Port → Acts
expanding p = record { writes = []; guard = true; moved = moved.Expand p }

expansion_made : (p : Port) (s : Shown) → MadeByActs s (expansion_verdict_shown p s)
expansion_made p s = chosen (is_contracted (bot_of (shown_alone s) s.bot))
  where
    chosen : (t : Bool) → MadeByActs s (if t then verdict_by (shown_alone s) 0 (moved.Expand p) (expand (shown_alone s) s.bot p) else verdict.Idle)
    chosen true = made s 0 (moved.Expand p) (expanding p) (expand (shown_alone s) s.bot p) (λ d e. e)
    chosen false = tt

expansion_decides_by_acts : (p : Port) → DecidesByActs (expansion_verdict_shown p)
expansion_decides_by_acts p s change is e = subst (MadeByActs s) e (expansion_made p s)

pub expansion_is_lawful : (p : Port) → IsLawful (expansion_verdict_shown p)
expansion_is_lawful p = acts_keep_decider_laws (expansion_verdict_shown p) (expansion_decides_by_acts p)
