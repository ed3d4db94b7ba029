-- What follows from the definitions alone.
use Rattle.std.specs.Prelude.{◌≡◌, ◌≢◌, ◌↔◌, ◌<◌, ℕ, ℤ, Bool, true, false, List, IsSome, IsTrue}
use Rattle.std.specs.List.{All, Contains}
use Rattle.std.specs.Result.{result_err}
use Rattle.std.specs.declared.option.Option.{Option}
use Rattle.std.specs.declared.option.Option.TheVariants.{Some}
use Rattle.std.specs.declared.result.Result.TheVariants.{Ok, Err}
use Rattle.tri_lattice.specs.Lattice.{step}
use Rattle.tri_lattice.specs.Sets.{IsConnected}
use Rattle.ring_guard.specs.Rings.{IsOneArc, is_one_arc}
use Rattle.amoebot_state.specs.declared.bot.End.{End}
use Rattle.amoebot_state.specs.declared.bot.Port.{Port}
use Rattle.amoebot_state.specs.declared.cell.CellName.{CellName}
use Rattle.amoebot_state.specs.declared.cell.Cell.{Cell}
use Rattle.amoebot_state.specs.declared.verdict.Failure.TheVariants.{Blocked, WouldSplit}
use Rattle.amoebot_state.specs.declared.verdict.Moved.{Moved}
use Rattle.amoebot_state.specs.declared.verdict.Moved.TheVariants as moved
use Rattle.amoebot_state.specs.declared.verdict.Entry.{Entry}
use Rattle.amoebot_state.specs.declared.verdict.Verdict.{Verdict}
use Rattle.amoebot_state.specs.Configs.{Config, IsValid, bot_at, bot_of, is_wall, occupant, value}
use Rattle.amoebot_state.specs.Occupied.{occupied}
use Rattle.amoebot_state.specs.Pairs.{cell_of, cell_value, plain_patch}
use Rattle.amoebot_state.specs.Patches.{HasSameIds, HasOldValues, IsPatched, IsOrdered, diff}
use Rattle.amoebot_state.specs.Ports.{behind, end_node, global}
use Rattle.amoebot_state.specs.Zones.{Shown, IsShown, zone, shown, shown_alone}
use Rattle.amoebot_state.specs.Steps.{Step, IsLawful}
use Rattle.model_ops.specs.declared.peer.Peer.{Peer}
use Rattle.model_ops.specs.Operations.{connected, is_free, read, write, peer, expand, contract, push, pull}
use Rattle.model_ops.specs.Reaches.{Writing, Acts, Reaches, write_all, move, perform}
use Rattle.model_ops.specs.Sights.{sight}
use Rattle.model_ops.specs.Deciders.{DecidesByActs, DecidesGuarded}
use Rattle.model_ops.specs.WorkingCopies.{WorkingCopy, opened, own_id, IsWorking, IsUnmoved, changes}

-- the test of one arc answers what it is named for
abbrev pub OneArcTestIsOneArc : Type 0
OneArcTestIsOneArc = (xs : List Bool) → IsTrue (is_one_arc xs) ↔ IsOneArc xs

-- the answer of Peer is of the occupant behind the port;
-- its direction is the only one of that amoebot's local directions that leads back from the node
-- behind the port to the node that the port is on; and the edge
-- is at the head of a contracted neighbour
pub record LooksBack (c : Config) (i : ℕ) (p : Port) (seen : Peer) : Type 0 where
  pub peer_id : ℕ
  pub by : occupant c (behind (bot_of c i) p) ≡ Some peer_id
  pub below : seen.dir < 6
  pub back : step (behind (bot_of c i) p) (global (bot_of c peer_id) seen.dir) ≡ end_node (bot_of c i) p.end
  pub alone : (k : ℕ)
      → k < 6
      → step (behind (bot_of c i) p) (global (bot_of c peer_id) k) ≡ end_node (bot_of c i) p.end
      → k ≡ seen.dir
  pub at_head : seen.expanded ≡ false → seen.at_head ≡ true

abbrev pub PeerLooksBack : Type 0
PeerLooksBack =
    (c : Config) (i : ℕ) (p : Port) (seen : Peer)
    → IsValid c
    → IsSome (bot_at c i)
    → peer c i p ≡ Ok seen
    → LooksBack c i p seen

-- d is valid, differs from c in its amoebots at most, has the same ids,
-- and holds what c holds in each cell that is not of the zone of i
pub record KeepsRest (c : Config) (i : ℕ) (d : Config) : Type 0 where
  pub valid : IsValid d
  pub same : HasSameIds c d
  pub beyond : (n : CellName) → (Contains (zone c i) n → ⊥) → value d n ≡ value c n

-- so it is with what an activation reaches from a valid configuration
abbrev pub ReachedKeepsRest : Type 0
ReachedKeepsRest =
    (c : Config) (i : ℕ) (d : Config) → IsValid c → IsSome (bot_at c i) → Reaches c i d → KeepsRest c i d

-- where the occupied nodes of c are connected, those of d are
abbrev pub StaysConnected : Config → Config → Type 0
StaysConnected c d = IsConnected (occupied c) → IsConnected (occupied d)

-- each operation that changes a valid configuration and succeeds leaves its occupied nodes
-- connected; Contract does with the guard
pub record OperationsKeepConnected : Type 0 where
  pub writes : (c : Config) (i : ℕ) (p : Option Port) (x : ℕ) (s : ℤ) (d : Config)
      → IsValid c
      → IsSome (bot_at c i)
      → write c i p x s ≡ Ok d
      → StaysConnected c d
  pub expands : (c : Config) (i : ℕ) (p : Port) (d : Config)
      → IsValid c
      → IsSome (bot_at c i)
      → expand c i p ≡ Ok d
      → StaysConnected c d
  pub contracts : (c : Config) (i : ℕ) (e : End) (d : Config)
      → IsValid c
      → IsSome (bot_at c i)
      → contract c i true e ≡ Ok d
      → StaysConnected c d
  pub pushes : (c : Config) (i : ℕ) (p : Port) (d : Config)
      → IsValid c
      → IsSome (bot_at c i)
      → push c i p ≡ Ok d
      → StaysConnected c d
  pub pulls : (c : Config) (i : ℕ) (p : Port) (d : Config)
      → IsValid c
      → IsSome (bot_at c i)
      → pull c i p ≡ Ok d
      → StaysConnected c d

-- so does an activation with the guard on
abbrev pub ReachedStaysConnected : Type 0
ReachedStaysConnected =
    (c : Config) (i : ℕ) (acts : Acts) (d : Config)
    → IsValid c
    → IsSome (bot_at c i)
    → acts.guard ≡ true
    → perform c i acts ≡ Ok d
    → StaysConnected c d

-- and with the guard off some Contract splits a connected shape, which the guard refuses
pub record UnguardedSplits : Type 0 where
  pub before : Config
  pub after : Config
  pub id : ℕ
  pub end : End
  pub valid : IsValid before
  pub there : IsSome (bot_at before id)
  pub connected : IsConnected (occupied before)
  pub unguarded : contract before id false end ≡ Ok after
  pub split : IsConnected (occupied after) → ⊥
  pub guarded : contract before id true end ≡ Err WouldSplit

-- on d the operations of i answer as on c: those that ask, wholly;
-- those that change something succeed on both, or fail alike
pub record AnswersAlike (i : ℕ) (c d : Config) : Type 0 where
  pub asked : sight d i ≡ sight c i
  pub writes : (p : Option Port) (x : ℕ) (s : ℤ) → result_err (write d i p x s) ≡ result_err (write c i p x s)
  pub expands : (p : Port) → result_err (expand d i p) ≡ result_err (expand c i p)
  pub contracts : (guard : Bool) (e : End)
      → result_err (contract d i guard e) ≡ result_err (contract c i guard e)
  pub pushes : (p : Port) → result_err (push d i p) ≡ result_err (push c i p)
  pub pulls : (p : Port) → result_err (pull d i p) ≡ result_err (pull c i p)

-- an activation meets the same answers on d as on c: the same writes succeed on both,
-- or fail alike; behind writes that succeed each operation answers alike;
-- and so whole acts succeed on both, or fail alike
pub record MeetsTheSame (i : ℕ) (c d : Config) : Type 0 where
  pub writes : (ws : List Writing) → result_err (write_all d i ws) ≡ result_err (write_all c i ws)
  pub behind : (ws : List Writing) (m n : Config) → write_all c i ws ≡ Ok m
      → write_all d i ws ≡ Ok n → AnswersAlike i m n
  pub acts : (acts : Acts) → result_err (perform d i acts) ≡ result_err (perform c i acts)

-- so it is on each two valid configurations that show the same
abbrev pub ShownMeetsTheSame : Type 0
ShownMeetsTheSame =
    (c d : Config) (i : ℕ) → IsValid c → IsValid d
    → IsSome (bot_at c i) → shown d i ≡ shown c i → MeetsTheSame i c d

-- the difference of d to c is in the order of a patch, with at most one node;
-- each cell that it lists differs, and is one of the zone of i; its old values are those of c
pub record DiffIsExact (c : Config) (i : ℕ) (d : Config) : Type 0 where
  pub ordered : IsOrdered (plain_patch (diff c d))
  pub differs : All (λ (p : CellName × Cell). value c (cell_of p) ≢ Some (cell_value p))
      (plain_patch (diff c d))
  pub listed : All (λ (p : CellName × Cell). Contains (zone c i) (cell_of p)) (plain_patch (diff c d))
  pub found : HasOldValues c (diff c d)

-- so it is with what an activation reaches from a valid configuration
abbrev pub ReachedDiffIsExact : Type 0
ReachedDiffIsExact =
    (c : Config) (i : ℕ) (d : Config) → IsValid c → IsSome (bot_at c i) → Reaches c i d → DiffIsExact c i d

-- the acts that lead from c to `to` lead from d to a configuration;
-- the difference of `to` to c leads there from d, and is the difference there
pub record LeadsAlso (c : Config) (i : ℕ) (acts : Acts) (to d : Config) : Type 0 where
  pub reached : Config
  pub performed : perform d i acts ≡ Ok reached
  pub patched : IsPatched d (plain_patch (diff c to)) reached
  pub same : diff d reached ≡ diff c to

-- so it is with each valid configuration that shows the same
abbrev pub ReachedLeadsAlso : Type 0
ReachedLeadsAlso =
    (c d : Config) (i : ℕ) (acts : Acts) (to : Config)
    → IsValid c
    → IsValid d
    → IsSome (bot_at c i)
    → shown d i ≡ shown c i
    → perform c i acts ≡ Ok to
    → LeadsAlso c i acts to d

-- a working copy is one from the first; writes leave it unmoved,
-- and a movement leaves it a working copy
pub record CopiesWork : Type 0 where
  pub opens : (s : Shown) → IsShown s → IsWorking (opened s) × IsUnmoved (opened s)
  pub writes : (w : WorkingCopy) (p : Option Port) (x : ℕ) (s : ℤ) (d : Config)
      → IsWorking w
      → IsUnmoved w
      → write w.reached (own_id w) p x s ≡ Ok d
      → IsWorking (record w { reached = d }) × IsUnmoved (record w { reached = d })
  pub moves : (w : WorkingCopy) (guard : Bool) (m : Moved) (d : Config)
      → IsWorking w
      → IsUnmoved w
      → move w.reached (own_id w) guard m ≡ Ok d
      → IsWorking (record w { reached = d })

-- a working copy stands for a configuration: acts that lead to what the copy reached lead
-- from there to one other configuration; the copy's changes lead there,
-- and are the difference there; as long as the copy is unmoved, the operations answer alike on both
pub record StandsFor (w : WorkingCopy) (d : Config) : Type 0 where
  pub reached : Config
  pub same_acts : (acts : Acts)
      → perform (shown_alone w.found) (own_id w) acts ≡ Ok w.reached
      → perform d (own_id w) acts ≡ Ok reached
  pub patched : IsPatched d (plain_patch (changes w)) reached
  pub same_changes : diff d reached ≡ changes w
  pub alike : IsUnmoved w → AnswersAlike (own_id w) w.reached reached

-- so it does for each valid configuration that shows what was found
abbrev pub CopyStandsForWorlds : Type 0
CopyStandsForWorlds =
    (w : WorkingCopy) (d : Config) → IsWorking w → IsValid d → shown d (own_id w) ≡ w.found → StandsFor w d

-- what decides by acts keeps the laws of deciders
abbrev pub ActsKeepDeciderLaws : Type 0
ActsKeepDeciderLaws = (f : Shown → Verdict) → DecidesByActs f → IsLawful f

-- and with the guard on, a step from a valid configuration leaves the occupied nodes connected
abbrev pub GuardedDecidersStayConnected : Type 0
GuardedDecidersStayConnected =
    (f : Shown → Verdict) (old : Config) (e : Entry) (new : Config)
    → DecidesGuarded f
    → IsValid old
    → Step f old e new
    → StaysConnected old new

-- only an expansion to a wall is blocked
pub record OnlyWallsBlock : Type 0 where
  pub moves : (c : Config) (i : ℕ) (guard : Bool) (m : Moved)
      → move c i guard m ≡ Err Blocked
      → (p : Port) × (m ≡ moved.Expand p) × (is_wall c (behind (bot_of c i) p) ≡ true)
  pub writes : (c : Config) (i : ℕ) (p : Option Port) (x : ℕ) (s : ℤ) → write c i p x s ≢ Err Blocked
  pub connects : (c : Config) (i : ℕ) (p : Port) → connected c i p ≢ Err Blocked
  pub frees : (c : Config) (i : ℕ) (p : Port) → is_free c i p ≢ Err Blocked
  pub reads : (c : Config) (i : ℕ) (p : Option Port) (x : ℕ) → read c i p x ≢ Err Blocked
  pub peers : (c : Config) (i : ℕ) (p : Port) → peer c i p ≢ Err Blocked
