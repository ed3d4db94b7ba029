-- The leader election by erosion.
-- The algorithm is the literature's; its variables, and how `cand` and `leader` are read off,
-- are this project's profile.
use Rattle.std.specs.Prelude.{◌≡◌, ℕ, Bool, false, IsTrue, IsSome, slice_index}
use Rattle.std.specs.List.{position}
use Rattle.std.specs.declared.option.Option.{Option}
use Rattle.std.specs.declared.option.Option.TheVariants.{Some, None}
use Rattle.tri_lattice.specs.declared.node.Node.{Node}
use Rattle.tri_lattice.specs.Sets.{IsConnected}
use Rattle.amoebot_state.specs.declared.bot.Bot.{Bot}
use Rattle.amoebot_state.specs.Configs.{Config, bot_at, occupant}
use Rattle.amoebot_state.specs.Occupied.{occupied}
use Rattle.shape_checks.specs.Values.{has_value}
use Rattle.action_tree.specs.Trees.{Program}
use Rattle.action_tree.specs.Shipped.{erosion}
use Rattle.election_law.specs.Unguarded.{bare_unguarded}

-- the program is `erosion`, lines and guard aside
abbrev pub IsErosion : Program → Type 0
IsErosion p = bare_unguarded p ≡ erosion

-- the numbers of its variables: 1 in `cand` for a candidate, 1 in `leader` for the leader
abbrev pub cand_var : ℕ
cand_var = 0

abbrev pub leader_var : ℕ
leader_var = 1

-- the amoebot with an id has `cand` 1
abbrev pub is_candidate : Config → ℕ → Bool
is_candidate c i = has_value cand_var 1 (bot_at c i)

-- it has `leader` 1
abbrev pub is_leader : Config → ℕ → Bool
is_leader c i = has_value leader_var 1 (bot_at c i)

-- there is such an id, and its amoebot is a candidate
abbrev pub candidate_of : Config → Option ℕ → Bool
candidate_of c None = false
candidate_of c (Some i) = is_candidate c i

-- the node has an occupant that is a candidate
abbrev pub candidate_at : Config → Node → Bool
candidate_at c v = candidate_of c (occupant c v)

-- the first amoebot with `leader` 1, if there is one
abbrev pub leader_of : Config → Option ℕ
leader_of c = position (has_value leader_var 1) c.bots

-- an amoebot at the start of erosion: contracted, a candidate, and not the leader
pub record IsReadyBot (b : Bot) : Type 0 where
  pub contracted : b.head ≡ b.tail
  pub cand : slice_index b.mem cand_var ≡ 1
  pub leader : slice_index b.mem leader_var ≡ 0

-- a shape at the start of erosion: at least one amoebot, all ready, and connected
pub record IsReadyStart (c : Config) : Type 0 where
  pub some : (i : ℕ) × IsSome (bot_at c i)
  pub each : (i : ℕ) (b : Bot) → bot_at c i ≡ Some b → IsReadyBot b
  pub connected : IsConnected (occupied c)

-- at least one amoebot is a candidate, the nodes of the candidates are connected,
-- at most one amoebot is the leader, and one that is the leader is the only candidate
pub record IsElected (c : Config) : Type 0 where
  pub some : (i : ℕ) × IsTrue (is_candidate c i)
  pub connected : IsConnected (candidate_at c)
  pub one : (i j : ℕ) → IsTrue (is_leader c i) → IsTrue (is_leader c j) → i ≡ j
  pub alone : (i j : ℕ) → IsTrue (is_leader c i) → IsTrue (is_candidate c j) → j ≡ i
  pub standing : (i : ℕ) → IsTrue (is_leader c i) → IsTrue (is_candidate c i)
