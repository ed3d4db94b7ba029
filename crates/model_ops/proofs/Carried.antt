-- What a working copy has reached behind writes, and behind a movement after them.
use Rattle.std.proofs.Common.{◌≡◌, ℕ, ℤ, Bool, [], ◌∷◌, ◌++◌, refl, subst, sym, Option}
use Rattle.std.specs.declared.result.Result.{Result}
use Rattle.std.specs.declared.result.Result.TheVariants.{Ok, Err}
use Rattle.amoebot_state.specs.declared.bot.Port.{Port}
use Rattle.amoebot_state.specs.declared.verdict.Failure.{Failure}
use Rattle.amoebot_state.specs.declared.verdict.Moved.{Moved}
use Rattle.amoebot_state.specs.Configs.{Config}
use Rattle.amoebot_state.specs.Zones.{Shown, shown_alone}
use Rattle.model_ops.specs.Operations.{write}
use Rattle.model_ops.specs.Reaches.{Reaches, write_all, move}
use Rattle.model_ops.specs.WorkingCopies.{WorkingCopy, IsUnmoved, opened, own_id, copy_after}
use Rattle.model_ops.proofs.CopiesStand.{one_more, then_is, unmoved_reaches}

-- a copy at first is unmoved, writes leave it so, whether or not they succeed, and behind a movement something is reached
pub opened_unmoved : (w : WorkingCopy) (s : Shown) → w ≡ opened s → IsUnmoved w
opened_unmoved w s is = subst IsUnmoved (sym is) ([], refl)

pub written_unmoved : (w v : WorkingCopy) (p : Option Port) (x : ℕ) (s : ℤ) → IsUnmoved w → v ≡ copy_after w (write w.reached (own_id w) p x s) → IsUnmoved v
written_unmoved w v p x s unmoved is = subst IsUnmoved (sym is) (by (write w.reached (own_id w) p x s) refl)
  where
    by : (r : Result Config Failure) → write w.reached (own_id w) p x s ≡ r → IsUnmoved (copy_after w r)
    by (Ok d) e = (unmoved.0 ++ record { port = p; var = x; value = s } ∷ [], one_more (shown_alone w.found) (own_id w) unmoved.0 (record { port = p; var = x; value = s }) w.reached d unmoved.1 e)
    by (Err f) e = unmoved

pub moved_reaches : (w v : WorkingCopy) (guard : Bool) (m : Moved) → IsUnmoved w → v ≡ copy_after w (move w.reached (own_id w) guard m) → Reaches (shown_alone v.found) (own_id v) v.reached
moved_reaches w v guard m unmoved is =
    let P : WorkingCopy → Type 0 = λ u. Reaches (shown_alone u.found) (own_id u) u.reached in
    subst P (sym is) (by (move w.reached (own_id w) guard m) refl)
  where
    by : (r : Result Config Failure) → move w.reached (own_id w) guard m ≡ r → (let u = copy_after w r in Reaches (shown_alone u.found) (own_id u) u.reached)
    by (Ok d) e = (record { writes = unmoved.0; guard = guard; moved = m }, then_is (write_all (shown_alone w.found) (own_id w) unmoved.0) (λ x. move x (own_id w) guard m) w.reached d unmoved.1 e)
    by (Err f) e = unmoved_reaches (shown_alone w.found) (own_id w) w.reached unmoved
