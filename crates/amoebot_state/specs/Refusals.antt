-- What lists of walls and of amoebots are refused for.
-- The conditions are those of a valid configuration; their order is this project's profile.
use Rattle.std.specs.Prelude.{◌≡◌, ◌⊎◌, ℕ, ◌<◌, List, Bool, true, false, not, ◌&&◌, ◌||◌, if◌then◌else◌, length, is_some, slice_get, take}
use Rattle.std.specs.declared.option.Option.{Option}
use Rattle.std.specs.declared.option.Option.TheVariants.{Some, None}
use Rattle.tri_lattice.specs.declared.node.Node.{Node}
use Rattle.tri_lattice.specs.Extent.{Extent, is_in}
use Rattle.tri_lattice.specs.Lattice.{IsNear}
use Rattle.amoebot_state.specs.declared.bot.Bot.{Bot}
use Rattle.amoebot_state.specs.declared.refusal.WorldRefusal.{WorldRefusal}
use Rattle.amoebot_state.specs.declared.refusal.WorldRefusal.TheVariants.{OutOfBox, NotAdjacent, Overlap, BadValue, BadWall, OnWall}
use Rattle.amoebot_state.specs.Walls.{has_node}
use Rattle.amoebot_state.specs.Configs.{Config, is_wall, occupant, is_close, has_values, walled_frame, with_these}

-- an amoebot from whose nodes each step stays in range, and whose rotation is 0 to 5
pub record IsBotInRange (b : Bot) : Type 0 where
  pub head : IsNear b.head
  pub tail : IsNear b.tail
  pub rot : b.rot < 6
  pub eight : length b.mem ≡ 8

-- the first of its conditions that an amoebot breaks, in this order (this project's profile),
-- where it is to have the next id after those that are there
abbrev pub bot_fault : Config → Bot → Option WorldRefusal
bot_fault c b =
    if not (is_in c.area b.head && is_in c.area b.tail) then Some (OutOfBox (length c.bots))
    else if not (is_close b.head b.tail) then Some (NotAdjacent (length c.bots))
    else if is_wall c b.head || is_wall c b.tail then Some (OnWall (length c.bots))
    else if is_some (occupant c b.head) || is_some (occupant c b.tail) then Some (Overlap (length c.bots))
    else if not (has_values c.maxes b.mem) then Some (BadValue (length c.bots))
    else None

-- in a frame no amoebot of a list before place n breaks a condition,
-- each judged beside those before it
abbrev pub IsFaultless : Config → List Bot → ℕ → Type 0
IsFaultless c bots n =
    (j : ℕ) (b : Bot) → j < n → slice_get bots j ≡ Some b → bot_fault (with_these c (take j bots)) b ≡ None

-- in a frame the first amoebot of a list that breaks a condition, with the first that it breaks
pub record IsFirstFault (c : Config) (bots : List Bot) (e : WorldRefusal) : Type 0 where
  pub place : ℕ
  pub bot : Bot
  pub there : slice_get bots place ≡ Some bot
  pub fault : bot_fault (with_these c (take place bots)) bot ≡ Some e
  pub before : IsFaultless c bots place

-- a wall that may not stand behind these: it is outside the area, or one of them
abbrev pub is_bad_wall : Extent → List Node → Node → Bool
is_bad_wall a before v = not (is_in a v) || has_node before v

-- the walls of a list before place n are in the area, each once
abbrev pub AreWalls : Extent → List Node → ℕ → Type 0
AreWalls a walls n =
    (j : ℕ) (v : Node) → j < n → slice_get walls j ≡ Some v → is_bad_wall a (take j walls) v ≡ false

-- the first wall of a list that may not stand there, by its place
pub record IsFirstBadWall (a : Extent) (walls : List Node) (place : ℕ) : Type 0 where
  pub wall : Node
  pub there : slice_get walls place ≡ Some wall
  pub bad : is_bad_wall a (take place walls) wall ≡ true
  pub before : AreWalls a walls place

-- what walls and amoebots are refused for: the first wall that may not stand there;
-- else the first fault of the amoebots beside all walls
abbrev pub IsFirstRefusal : Extent → List Node → List ℕ → List Bot → WorldRefusal → Type 0
IsFirstRefusal a walls maxes bots e =
    ((place : ℕ) × (e ≡ BadWall place) × IsFirstBadWall a walls place)
    ⊎ (AreWalls a walls (length walls) × IsFirstFault (walled_frame a walls maxes) bots e)
