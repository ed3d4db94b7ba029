-- Worlds and entries at places of a journal, with and without more entries behind it.
use Rattle.std.proofs.Common.{◌≡◌, ◌∙◌, ◌<◌, ◌≤◌, ℕ, zero, suc, List, [], ◌∷◌, ◌++◌, length, take, Some, subst, arith}
use Rattle.std.specs.Prelude.{slice_get}
use Rattle.std.proofs.lemmas.List.{take-append-le}
use Rattle.std.proofs.lemmas.Option.{none-some}
use Rattle.amoebot_state.specs.declared.verdict.Entry.{Entry}
use Rattle.amoebot_state.specs.declared.verdict.Verdict.{Verdict}
use Rattle.amoebot_state.specs.Configs.{Config}
use Rattle.amoebot_state.specs.Zones.{Shown}
use Rattle.amoebot_state.specs.Steps.{Run, IsWorldAt}
use Rattle.amoebot_state.proofs.Fronts.{slice_get_left}
use Rattle.amoebot_state.proofs.Patched.{run_has_one_last}

-- where an entry stands, the journal goes on
pub below_there : {X : Type 0} (xs : List X) (k : ℕ) (x : X) → slice_get xs k ≡ Some x → k < length xs
below_there [] k x at = absurd (none-some x at)
below_there (y ∷ ys) zero x at = omega arith
below_there (y ∷ ys) (suc k) x at = let below = below_there ys k x at in omega (arith, below)

-- it stands there with more entries behind, too
pub there_still : {X : Type 0} (xs more : List X) (k : ℕ) (x : X) → slice_get xs k ≡ Some x → slice_get (xs ++ more) k ≡ Some x
there_still xs more k x at = slice_get_left xs more k (below_there xs k x at) ∙ at

module _ (f : Shown → Verdict) (first : Config) where
  -- at most one world is at a place
  pub one_world_at : (es : List Entry) (k : ℕ) (one two : Config) → IsWorldAt f first es k one → IsWorldAt f first es k two → one ≡ two
  one_world_at es k one two a b = run_has_one_last f first (take k es) one two a.reached b.reached

  -- a world at a place of the first entries
  pub world_before : (es more : List Entry) (k : ℕ) (world : Config) → k ≤ length es → IsWorldAt f first (es ++ more) k world → IsWorldAt f first es k world
  world_before es more k world le at = record { within = le; reached = subst (λ xs. Run f first xs world) (take-append-le k es more le) at.reached }
