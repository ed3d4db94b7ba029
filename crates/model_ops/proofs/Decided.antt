-- Deciders that decide a change by one operation on a copy of what was found: which verdict that gives, and that acts make the change.
use Rattle.std.proofs.Common.{◌≡◌, ap, sym, ◌∙◌, refl, ℕ}
use Rattle.std.specs.declared.result.Result.{Result}
use Rattle.std.specs.declared.result.Result.TheVariants.{Ok, Err}
use Rattle.amoebot_state.specs.declared.verdict.Failure.{Failure}
use Rattle.amoebot_state.specs.declared.verdict.Moved.{Moved}
use Rattle.amoebot_state.specs.declared.verdict.Verdict.{Verdict}
use Rattle.amoebot_state.specs.declared.verdict.Verdict.TheVariants as verdict
use Rattle.amoebot_state.specs.Configs.{Config}
use Rattle.amoebot_state.specs.Patches.{diff}
use Rattle.amoebot_state.specs.Zones.{Shown, shown_alone}
use Rattle.model_ops.specs.Deciders.{ActsFor}
use Rattle.model_ops.specs.Expansion.{verdict_by}
use Rattle.model_ops.specs.Reaches.{Acts, Reaches, perform}
use Rattle.model_ops.specs.Sites.{done}
use Rattle.model_ops.specs.WorkingCopies.{WorkingCopy, opened, own_id, copy_after, changes}

-- a verdict is no change, or one that acts make
abbrev pub MadeByActs : Shown → Verdict → Type 0
MadeByActs s (verdict.Change change) = ActsFor s change.patch
MadeByActs s verdict.Idle = Unit {0}
MadeByActs s (verdict.Failed f) = Unit {0}

-- so is the verdict by an operation that the acts perform
pub made : (s : Shown) (action : ℕ) (by : Moved) (acts : Acts) (r : Result Config Failure) → ((d : Config) → r ≡ Ok d → perform (shown_alone s) s.bot acts ≡ Ok d) → MadeByActs s (verdict_by (shown_alone s) action by r)
made s action by acts (Ok d) performs = record { acts = acts; reached = d; performed = performs d refl; is = refl }
made s action by acts (Err f) performs = tt

-- an operation that succeeds on the copy of what was found, and what the copy has reached then
pub record Led (s : Shown) (op : Config → ℕ → Result Config Failure) (w : WorkingCopy) : Type 0 where
  pub by : op (shown_alone s) s.bot ≡ Ok w.reached
  pub of : w.found ≡ s

pub led : (s : Shown) (op : Config → ℕ → Result Config Failure) (first w : WorkingCopy) → first ≡ opened s → done (op first.reached (own_id first)) ≡ Ok tt → w ≡ copy_after first (op first.reached (own_id first)) → Led s op w
led s op first w is goes leads =
    let (d, by) = done_told (op first.reached (own_id first)) goes in
    let on : op (shown_alone s) s.bot ≡ Ok d = ap (λ (x : WorkingCopy). op x.reached (own_id x)) (sym is) ∙ by in
    let there : w ≡ record { found = s; reached = d } = leads ∙ ap (copy_after first) by ∙ ap (λ (x : WorkingCopy). let y : WorkingCopy = record x { reached = d } in y) is in
    record { by = on ∙ ap (λ (x : WorkingCopy). Ok x.reached) (sym there); of = ap (λ (x : WorkingCopy). x.found) there }
  where
    done_told : (r : Result Config Failure) → done r ≡ Ok tt → (d : Config) × (r ≡ Ok d)
    done_told (Ok d) e = (d, refl)
    done_told (Err f) e = absurd (cc)

-- an activation reaches it
pub led_reaches : (s : Shown) (op : Config → ℕ → Result Config Failure) (acts : Acts) (w : WorkingCopy) → ((d : Config) → op (shown_alone s) s.bot ≡ Ok d → perform (shown_alone s) s.bot acts ≡ Ok d) → Led s op w → Reaches (shown_alone w.found) (own_id w) w.reached
led_reaches s op acts w performs is = (acts, ap (λ (x : Shown). perform (shown_alone x) x.bot acts) is.of ∙ performs w.reached is.by)

-- and its changes are the verdict
pub led_decides : (s : Shown) (op : Config → ℕ → Result Config Failure) (action : ℕ) (by : Moved) (w : WorkingCopy) → Led s op w → verdict.Change (record { action = action; moved = by; patch = changes w }) ≡ verdict_by (shown_alone s) action by (op (shown_alone s) s.bot)
led_decides s op action by w is =
    ap (λ (x : Shown). verdict.Change (record { action = action; moved = by; patch = diff (shown_alone x) w.reached })) is.of
    ∙ sym (ap (verdict_by (shown_alone s) action by) is.by)

-- one that fails gives that failure
pub failed_decides : (s : Shown) (op : Config → ℕ → Result Config Failure) (action : ℕ) (by : Moved) (first : WorkingCopy) (f : Failure) → first ≡ opened s → done (op first.reached (own_id first)) ≡ Err f → verdict.Failed f ≡ verdict_by (shown_alone s) action by (op (shown_alone s) s.bot)
failed_decides s op action by first f is fails =
    let on = ap (λ (x : WorkingCopy). op x.reached (own_id x)) (sym is) ∙ done_failed (op first.reached (own_id first)) fails in
    sym (ap (verdict_by (shown_alone s) action by) on)
  where
    done_failed : (r : Result Config Failure) → done r ≡ Err f → r ≡ Err f
    done_failed (Ok d) e = absurd (cc)
    done_failed (Err g) e = ap Err (cc)
