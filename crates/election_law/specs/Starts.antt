-- Why a shape is no start of erosion. The refusals and their order are this project's profile.
use Rattle.std.specs.Prelude.{◌≡◌, ◌<◌, ℕ, Bool, not, ◌&&◌, length, IsSome, if◌then◌else◌, nat_eq, slice_index}
use Rattle.std.specs.declared.option.Option.{Option}
use Rattle.std.specs.declared.option.Option.TheVariants.{Some, None}
use Rattle.tri_lattice.specs.Sets.{IsConnected}
use Rattle.amoebot_state.specs.declared.bot.Bot.{Bot}
use Rattle.amoebot_state.specs.Ports.{is_contracted}
use Rattle.amoebot_state.specs.Configs.{Config, bot_at}
use Rattle.amoebot_state.specs.Occupied.{occupied}
use Rattle.election_law.specs.declared.refusal.ElectRefusal.{ElectRefusal}
use Rattle.election_law.specs.declared.refusal.ElectRefusal.TheVariants.{Empty, NotContracted, NotReady, NotConnected}
use Rattle.election_law.specs.Elections.{cand_var, leader_var}

-- a candidate, and not the leader
abbrev pub stands_ready : Bot → Bool
stands_ready b = nat_eq (slice_index b.mem cand_var) 1 && nat_eq (slice_index b.mem leader_var) 0

-- what an amoebot with an id is refused for: it is expanded; else it is not ready
abbrev pub bot_unready : ℕ → Bot → Option ElectRefusal
bot_unready i b = if not (is_contracted b) then Some (NotContracted i)
    else (if stands_ready b then None else Some (NotReady i))

-- each amoebot with an id below that one is refused for nothing
abbrev pub AreReadyBelow : Config → ℕ → Type 0
AreReadyBelow c i = (j : ℕ) (a : Bot) → j < i → bot_at c j ≡ Some a → bot_unready j a ≡ None

-- the first refusal of a start: that there is no amoebot; else that of the first id that has one;
-- else that the shape is not connected
pub data IsFirstUnready (c : Config) : ElectRefusal → Type 0 where
  nobody : ((i : ℕ) → bot_at c i ≡ None) → IsFirstUnready c Empty
  unready : (i : ℕ) (b : Bot) (e : ElectRefusal)
      → bot_at c i ≡ Some b
      → bot_unready i b ≡ Some e
      → AreReadyBelow c i
      → IsFirstUnready c e
  parted : (i : ℕ)
      → IsSome (bot_at c i)
      → ((j : ℕ) (a : Bot) → bot_at c j ≡ Some a → bot_unready j a ≡ None)
      → ¬ IsConnected (occupied c)
      → IsFirstUnready c NotConnected

-- there is an amoebot, and each is refused for nothing: what is left to judge takes memory
pub record AreBotsReady (c : Config) : Type 0 where
  pub some : (i : ℕ) × IsSome (bot_at c i)
  pub each : AreReadyBelow c (length c.bots)
