-- What a step of `erosion` is: an amoebot gets `leader` 1, or `cand` 0.
use Rattle.std.proofs.Common.{◌≡◌, ◌⊎◌, ◌∙◌, ℕ, Bool, true, false, [], ◌∷◌, ap, refl, sym, subst, inl, inr, None}
use Rattle.std.specs.Prelude.{pos, ℤ, IsSome, codes, Result, Ok, Err}
use Rattle.amoebot_state.specs.declared.verdict.Change.{Change}
use Rattle.amoebot_state.specs.declared.verdict.Entry.{Entry}
use Rattle.amoebot_state.specs.declared.verdict.Failure.{Failure}
use Rattle.amoebot_state.specs.declared.verdict.Moved.TheVariants as moved
use Rattle.amoebot_state.specs.declared.verdict.Verdict.{Verdict}
use Rattle.amoebot_state.specs.declared.verdict.Verdict.TheVariants as verdict
use Rattle.amoebot_state.specs.Configs.{Config, IsValid, bot_at, bot_of, set_bot}
use Rattle.amoebot_state.specs.Pairs.{plain_patch}
use Rattle.amoebot_state.specs.Patches.{IsPatched, diff}
use Rattle.amoebot_state.specs.Steps.{Step, change_of}
use Rattle.amoebot_state.proofs.Patched.{patched_is_unique}
use Rattle.model_ops.specs.Operations.{and_then, write, with_value}
use Rattle.model_ops.specs.Reaches.{Acts, move, perform}
use Rattle.model_ops.specs.Sights.{sight}
use Rattle.model_ops.proofs.KeepsRest.{own_there}
use Rattle.model_ops.proofs.SameDiff.{reached_leads_also}
use Rattle.model_ops.proofs.Told.{ok_told}
use Rattle.model_ops.proofs.Written.{Writes, written, write_told}
use Rattle.action_tree.specs.Trees as tree
use Rattle.action_tree.specs.Trees.{Program}
use Rattle.action_tree.specs.Shipped.{action, example_name, literal, sum_of_term, erosion}
use Rattle.action_meaning.specs.Effects.{Moment, moment, reaching}
use Rattle.action_meaning.specs.Values.{guard_value}
use Rattle.action_meaning.specs.Verdicts.{MadeMove, action_effect, verdict_of_result, decided_by_guard, verdict_on, verdict_shown}
use Rattle.action_meaning.proofs.Decided.{verdict_is_shown}
use Rattle.election_law.specs.Elections.{IsErosion}
use Rattle.election_law.proofs.Aside.{guard_is_aside}
use Rattle.election_law.proofs.Guards.{at_start, lead_guard, erode_guard, LeadsBy, ErodesBy, lead_told, erode_told}

-- ---- the verdict, by the two actions

abbrev lead : tree.Action
lead = action (codes "lead") lead_guard (tree.put (example_name (codes "leader")) (sum_of_term (tree.number (literal 1))) ∷ []) tree.no_move

abbrev erode : tree.Action
erode = action (codes "erode") erode_guard (tree.put (example_name (codes "cand")) (sum_of_term (tree.number (literal 0))) ∷ []) tree.no_move

-- what a write alone makes
made : Result Config Failure → Result MadeMove Failure
made r = and_then r (λ d. Ok (record { moved = moved.None; reached = d }))

-- a write, and then no movement
made_by : (i : ℕ) (m : Moment) (r : Result Config Failure)
    → and_then (and_then (reaching m r) (λ n. Ok n)) (λ n. and_then (Ok moved.None) (λ by. and_then (move n.config i false by) (λ d. Ok (record { moved = by; reached = d }))))
    ≡ made r
unfolding made
made_by i m (Ok d) = refl
made_by i m (Err f) = refl

lead_made : (c : Config) (i : ℕ) → action_effect false i lead (moment c at_start) ≡ made (write c i None 1 (pos 1))
lead_made c i = made_by i (moment c at_start) (write c i None 1 (pos 1))

erode_made : (c : Config) (i : ℕ) → action_effect false i erode (moment c at_start) ≡ made (write c i None 0 (pos 0))
erode_made c i = made_by i (moment c at_start) (write c i None 0 (pos 0))

verdict_by : (c : Config) (i : ℕ)
    → verdict_on erosion c i
    ≡ decided_by_guard (guard_value (sight c i) at_start lead_guard) (verdict_of_result c 0 (made (write c i None 1 (pos 1))))
    (decided_by_guard (guard_value (sight c i) at_start erode_guard) (verdict_of_result c 1 (made (write c i None 0 (pos 0)))) verdict.Idle)
verdict_by c i = λ j. decided_by_guard (guard_value (sight c i) at_start lead_guard) (verdict_of_result c 0 (lead_made c i j))
    (decided_by_guard (guard_value (sight c i) at_start erode_guard) (verdict_of_result c 1 (erode_made c i j)) verdict.Idle)

-- a change is that of the first action or of the second one
decided_told : (g h : Result Bool Failure) (own later : Verdict) (change : Change) → decided_by_guard g own (decided_by_guard h later verdict.Idle) ≡ verdict.Change change
    → ((g ≡ Ok true) × (own ≡ verdict.Change change)) ⊎ ((h ≡ Ok true) × (later ≡ verdict.Change change))
decided_told (Ok true) h own later change e = inl (refl, e)
decided_told (Ok false) (Ok true) own later change e = inr (refl, e)
decided_told (Ok false) (Ok false) own later change e = absurd (cc)
decided_told (Ok false) (Err f) own later change e = absurd (cc)
decided_told (Err f) h own later change e = absurd (cc)

-- a change by a write alone
record WriteMade (c : Config) (r : Result Config Failure) (change : Change) : Type 0 where
  reached : Config
  wrote : r ≡ Ok reached
  patch : change.patch ≡ diff c reached

change_told : (c : Config) (number : ℕ) (r : Result Config Failure) (change : Change) → verdict_of_result c number (made r) ≡ verdict.Change change → WriteMade c r change
unfolding made
change_told c number (Ok d) change e =
    let same : record { action = number; moved = moved.None; patch = diff c d } ≡ change = cc in
    record { reached = d; wrote = refl; patch = sym (ap (λ (x : Change). x.patch) same) }
change_told c number (Err f) change e = absurd (cc)

-- ---- the configuration that is reached

new_is_reached : (c : Config) (i x : ℕ) (s : ℤ) (d new : Config) → IsValid c → IsSome (bot_at c i) → write c i None x s ≡ Ok d → IsPatched c (plain_patch (diff c d)) new → new ≡ d
new_is_reached c i x s d new valid there e patched =
    let acts : Acts = record { writes = record { port = None; var = x; value = s } ∷ []; guard = false; moved = moved.None } in
    let performed : perform c i acts ≡ Ok d = ap (λ r. and_then (and_then r (λ m. Ok m)) (λ m. Ok m)) e in
    let leads = reached_leads_also c c i acts d valid valid there refl performed in
    patched_is_unique c new leads.reached (plain_patch (diff c d)) patched leads.patched ∙ sym (ok_told (sym performed ∙ leads.performed))

-- an amoebot got a value in a variable of its own
pub record GotValue (c : Config) (i x k : ℕ) (new : Config) : Type 0 where
  pub is : new ≡ set_bot c i (with_value (bot_of c i) x k)
  pub writes : Writes c i new

got_value : (c : Config) (i x k : ℕ) (new : Config) (change : Change) → IsValid c → IsSome (bot_at c i) → WriteMade c (write c i None x (pos k)) change → IsPatched c (plain_patch change.patch) new → GotValue c i x k new
got_value c i x k new change valid there made patched =
    let d = made.reached in
    let at = own_there c i there in
    let by : IsPatched c (plain_patch (diff c d)) new = subst (λ ts. IsPatched c (plain_patch ts) new) made.patch patched in
    let same = new_is_reached c i x (pos k) d new valid there made.wrote by in
    let told = write_told c i None x (pos k) d valid at made.wrote in
    let own : i ≡ told.owner_id = ok_told told.by in
    let is : d ≡ set_bot c i (with_value (bot_of c i) x k) = told.is ∙ sym (ap (λ n. set_bot c n (with_value (bot_of c n) x k)) own) in
    record {
      is = same ∙ is;
      writes = subst (λ m. Writes c i m) (sym same) (written c i None x (pos k) d valid at made.wrote);
    }

-- an amoebot becomes the leader; or it stays no candidate
pub data Eroded (c : Config) (i : ℕ) (new : Config) : Type 0 where
  led : LeadsBy (sight c i) → GotValue c i 1 1 new → Eroded c i new
  worn : ErodesBy (sight c i) → GotValue c i 0 0 new → Eroded c i new

pub step_told : (program : Program) (old : Config) (e : Entry) (new : Config) → IsErosion program → IsValid old → Step (verdict_shown program) old e new → Eroded old e.bot new
step_told program old e new is valid step =
    let i = e.bot in
    let decided = sym (verdict_by old i) ∙ sym (guard_is_aside program is old i) ∙ sym (verdict_is_shown program old i valid step.there) ∙ step.decided in
    let lead_asked = guard_value (sight old i) at_start lead_guard in
    let erode_asked = guard_value (sight old i) at_start erode_guard in
    let lead_wrote = made (write old i None 1 (pos 1)) in
    let erode_wrote = made (write old i None 0 (pos 0)) in
    elim (decided_told lead_asked erode_asked (verdict_of_result old 0 lead_wrote) (verdict_of_result old 1 erode_wrote) (change_of e) decided) [
      | inl first ↦ led (lead_told (sight old i) first.0) (got_value old i 1 1 new (change_of e) valid step.there (change_told old 0 (write old i None 1 (pos 1)) (change_of e) first.1) step.patched)
      | inr second ↦ worn (erode_told (sight old i) second.0) (got_value old i 0 0 new (change_of e) valid step.there (change_told old 1 (write old i None 0 (pos 0)) (change_of e) second.1) step.patched)
    ]
