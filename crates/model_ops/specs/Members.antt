-- The amoebots of a neighbourhood, each as it was found and as it is now, as a site keeps them.
-- No public clause cites these.
use Rattle.std.specs.Prelude.{◌≡◌, ℕ, ◌≤◌, List, [], ◌∷◌, ◌++◌, IsSome, length, map, filter, Bool, false, not, ◌&&◌, ◌||◌, if◌then◌else◌, nat_eq, nat_lt, min}
use Rattle.std.specs.List.{All, filter_map, find, fold, list_any}
use Rattle.std.specs.declared.option.Option.{Option}
use Rattle.std.specs.declared.option.Option.TheVariants.{Some, None}
use Rattle.tri_lattice.specs.declared.node.Node.{Node}
use Rattle.amoebot_state.specs.declared.cell.CellName.{CellName}
use Rattle.amoebot_state.specs.declared.cell.CellName.TheVariants as name
use Rattle.amoebot_state.specs.declared.cell.Cell.{Cell}
use Rattle.amoebot_state.specs.declared.cell.Cell.TheVariants as cell
use Rattle.amoebot_state.specs.declared.bot.Bot.{Bot}
use Rattle.amoebot_state.specs.Ports.{is_own}
use Rattle.amoebot_state.specs.Configs.{Config, bot_at}
use Rattle.amoebot_state.specs.Pairs.{CellChange, Triples}
use Rattle.amoebot_state.specs.Patches.{id_eq, bot_eq}
use Rattle.amoebot_state.specs.Refusals.{IsBotInRange}
use Rattle.amoebot_state.specs.Zones.{Shown, IsShown, spread, shown, shown_alone}
use Rattle.model_ops.specs.declared.member.Member.{Member}
use Rattle.model_ops.specs.WorkingCopies.{WorkingCopy}

-- one of the members has the id
abbrev pub has_id : List Member → ℕ → Bool
has_id ms i = list_any (λ m. nat_eq m.id i) ms

-- no two members have one id
abbrev pub AreApart : List Member → Type 0
AreApart [] = Unit {0}
AreApart (m ∷ ms) = (has_id ms m.id ≡ false) × AreApart ms

-- the first member has the id
abbrev pub IsFirst : ℕ → List Member → Type 0
IsFirst i [] = ⊥
IsFirst i (m ∷ ms) = m.id ≡ i

-- a member's body, with one of its amoebots: as it was found, or as it is now
abbrev pub body_by : (Member → Bot) → Member → CellName × Cell
body_by part m = (name.Body m.id, cell.Body (part m))

abbrev pub body_found : Member → CellName × Cell
body_found = body_by (λ m. m.found)

abbrev pub body_now : Member → CellName × Cell
body_now = body_by (λ m. m.now)

-- a configuration's frame with the members so, and no other amoebot
abbrev pub config_by : (Member → Bot) → Config → List Member → Config
config_by part c ms = record c { bots = spread (map (body_by part) ms) }

abbrev pub config_found : Config → List Member → Config
config_found = config_by (λ m. m.found)

abbrev pub config_now : Config → List Member → Config
config_now = config_by (λ m. m.now)

-- the working copy in a frame: what the members as found show to the amoebot,
-- and the configuration of the members as they are
abbrev pub copy_of : Config → ℕ → List Member → WorkingCopy
copy_of c own ms = record { found = shown (config_found c ms) own; reached = config_now c ms }

-- the most amoebots of a neighbourhood: an expanded one and eight beside it
abbrev pub most_members : ℕ
most_members = 9

-- what a site keeps in a frame: no two members have one id, the amoebot itself is the first,
-- they are at most nine, and together they are what some valid configuration showed to the amoebot
pub record IsSite (c : Config) (own : ℕ) (ms : List Member) : Type 0 where
  pub apart : AreApart ms
  pub first : IsFirst own ms
  pub in_range : All (λ (m : Member). IsBotInRange m.now) ms
  pub there : IsSome (bot_at (config_now c ms) own)
  pub few : length ms ≤ most_members
  pub was_shown : IsShown (shown (config_found c ms) own)
  pub whole : shown_alone (shown (config_found c ms) own) ≡ config_found c ms

-- an amoebot as it was found, which has not changed yet
abbrev pub unchanged : ℕ → Bot → Member
unchanged i b = record { id = i; found = b; now = b }

-- the members with one more, at its place in rising id
abbrev pub with_member : List Member → Member → List Member
with_member [] m = m ∷ []
with_member (n ∷ ms) m = if nat_lt m.id n.id then m ∷ n ∷ ms else n ∷ with_member ms m

-- the same members in rising id
abbrev pub ranked : List Member → List Member
ranked ms = fold with_member [] ms

-- the member that a cell tells of, where that is a body
abbrev pub taken : CellName × Cell → Option Member
taken (name.Body i, cell.Body b) = Some (unchanged i b)
taken (name.Body i, cell.Spot o) = None
taken (name.Spot v, x) = None

-- the members of what is shown: the amoebots of its cells, in the order of the cells
abbrev pub gathered : Shown → List Member
gathered s = filter_map taken s.cells

-- the lower of an id and another one, if there is another one
abbrev pub lower : ℕ → Option ℕ → ℕ
lower i None = i
lower i (Some j) = min i j

-- the id on a node: the lowest of the members that have the node,
-- as they were found or as they are now
abbrev pub id_by : (Member → Bot) → List Member → Node → Option ℕ
id_by part [] v = None
id_by part (m ∷ ms) v = if is_own (part m) v then Some (lower m.id (id_by part ms v)) else id_by part ms v

abbrev pub id_found_on : List Member → Node → Option ℕ
id_found_on = id_by (λ m. m.found)

abbrev pub id_on : List Member → Node → Option ℕ
id_on = id_by (λ m. m.now)

-- who is on the node has changed
abbrev pub has_changed : List Member → Node → Bool
has_changed ms v = not (id_eq (id_found_on ms v) (id_on ms v))

-- the nodes of a member, as it is now and as it was found
abbrev pub nodes_of : Member → List Node
nodes_of m = m.now.head ∷ m.found.tail ∷ m.found.head ∷ m.now.tail ∷ []

-- a member's body, as it was found and as it is now
abbrev pub body_change : Member → CellChange
body_change m = (name.Body m.id, cell.Body m.found, cell.Body m.now)

-- a node with its occupant as it was found and as it is now, if there is one
abbrev pub changed_spot : List Member → Option Node → Triples
changed_spot ms None = []
changed_spot ms (Some v) = (name.Spot v, cell.Spot (id_found_on ms v), cell.Spot (id_on ms v)) ∷ []

-- the member has another amoebot than it was found with
abbrev pub is_changed : Member → Bool
is_changed m = not (bot_eq m.found m.now)

-- the member entered or left the node
abbrev pub is_crossed : Member → Node → Bool
is_crossed m v = (is_own m.found v && not (is_own m.now v)) || (is_own m.now v && not (is_own m.found v))

-- the first node of a member whose occupant has changed, and then the bodies that have,
-- in rising id
abbrev pub changed_cells : List Member → Member → Triples
changed_cells ms m =
    changed_spot ms (find (has_changed ms) (nodes_of m)) ++ map body_change (ranked (filter is_changed ms))
