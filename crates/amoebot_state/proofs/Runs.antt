-- Runs that go on.
use Rattle.std.proofs.Common.{List, [], ◌∷◌, ◌++◌, refl, subst}
use Rattle.amoebot_state.specs.declared.verdict.Entry.{Entry}
use Rattle.amoebot_state.specs.declared.verdict.Verdict.{Verdict}
use Rattle.amoebot_state.specs.Configs.{Config}
use Rattle.amoebot_state.specs.Zones.{Shown}
use Rattle.amoebot_state.specs.Steps.{Step, Run}

-- one more step
pub run_push : (f : Shown → Verdict) (old mid new : Config) (es : List Entry) (e : Entry) → Run f old es mid → Step f mid e new → Run f old (es ++ e ∷ []) new
run_push f old mid new [] e run step = (new, subst (λ c. Step f c e new) run step, refl)
run_push f old mid new (x ∷ es) e run step = (run.0, run.1, run_push f run.0 mid new es e run.2 step)
