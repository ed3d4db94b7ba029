-- What is reached from a valid configuration is valid and differs in the zone alone.
use Rattle.std.proofs.Common.{◌≡◌, ℕ, ap, sym, ◌∙◌, subst, Some}
use Rattle.std.specs.Prelude.{IsSome}
use Rattle.std.specs.Option.{option_map}
use Rattle.std.specs.declared.result.Result.TheVariants.{Ok}
use Rattle.amoebot_state.specs.declared.cell.CellName.{CellName}
use Rattle.amoebot_state.specs.declared.cell.CellName.TheVariants as name
use Rattle.amoebot_state.specs.declared.cell.Cell.TheVariants as cell
use Rattle.amoebot_state.specs.Configs.{Config, IsValid, bot_at, bot_of, value}
use Rattle.amoebot_state.specs.Zones.{zone}
use Rattle.amoebot_state.proofs.Members.{Has, Contains-from_Has}
use Rattle.amoebot_state.proofs.Options.{there_is}
use Rattle.model_ops.specs.Laws.{KeepsRest, ReachedKeepsRest}
use Rattle.model_ops.specs.Reaches.{Acts, write_all, move, perform}
use Rattle.model_ops.proofs.Told.{then_told, bot_is}
use Rattle.model_ops.proofs.SameIds.{both_same}
use Rattle.model_ops.proofs.Moved.{Moves, movement}
use Rattle.model_ops.proofs.Written.{Writes, all_written}

-- an amoebot that is there
pub own_there : (c : Config) (i : ℕ) → IsSome (bot_at c i) → bot_at c i ≡ Some (bot_of c i)
own_there c i t = let (b, at) = there_is (bot_at c i) t in at ∙ ap Some (sym (bot_is c i b at))

-- acts that succeed, in their two parts
pub record Performed (c : Config) (i : ℕ) (acts : Acts) (d : Config) : Type 0 where
  pub between : Config
  pub written : write_all c i acts.writes ≡ Ok between
  pub moved : move between i acts.guard acts.moved ≡ Ok d
  pub writes : Writes c i between
  pub moves : Moves between i d

pub performed : (c : Config) (i : ℕ) (acts : Acts) (d : Config) → IsValid c → bot_at c i ≡ Some (bot_of c i) → perform c i acts ≡ Ok d → Performed c i acts d
performed c i acts d valid at e =
    let (m, first, last) = then_told (write_all c i acts.writes) _ d e in
    let writes = all_written c i acts.writes m valid at first in
    record { between = m; written = first; moved = last; writes = writes; moves = movement m i writes.valid writes.there acts.guard acts.moved d last }

-- a cell that is not of the zone holds what it held
beyond : (c m d : Config) (i : ℕ) → Writes c i m → Moves m i d → (n : CellName) → (Has n (zone c i) → ⊥) → value d n ≡ value c n
beyond c m d i writes moves (name.Spot v) lacks =
    let listed = subst (Has (name.Spot moves.node)) writes.zone_stays moves.node_listed in
    ap (λ o. Some (cell.Spot o)) (moves.spots v (λ e. lacks (subst (λ u. Has (name.Spot u) (zone c i)) (sym e) listed)) ∙ writes.spots v)
beyond c m d i writes moves (name.Body j) lacks =
    let peer = subst (Has (name.Body moves.peer)) writes.zone_stays moves.peer_listed in
    let own = subst (Has (name.Body i)) writes.zone_stays moves.own_listed in
    ap (option_map cell.Body) (moves.bots j (λ e. lacks (subst (λ k. Has (name.Body k) (zone c i)) (sym e) own)) (λ e. lacks (subst (λ k. Has (name.Body k) (zone c i)) (sym e) peer)) ∙ writes.kept j lacks)

pub keeps_rest : (c : Config) (i : ℕ) (acts : Acts) (d : Config) → Performed c i acts d → KeepsRest c i d
keeps_rest c i acts d done =
    let writes = done.writes in
    let moves = done.moves in
    record {
      valid = moves.valid;
      same = both_same c done.between d writes.same moves.same;
      beyond = λ n lacks. beyond c done.between d i writes moves n (λ has. lacks (Contains-from_Has (zone c i) has));
    }

pub reached_keeps_rest : ReachedKeepsRest
reached_keeps_rest c i d valid there (acts, e) = keeps_rest c i acts d (performed c i acts d valid (own_there c i there) e)
