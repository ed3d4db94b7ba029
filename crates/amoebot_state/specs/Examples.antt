-- Lists of amoebots and of walls that are refused, in an area of eight by eight nodes,
-- with variables of which each is 0.
use Rattle.std.specs.Prelude.{ℕ, List, [], ◌∷◌, pos}
use Rattle.tri_lattice.specs.declared.node.Node.{Node}
use Rattle.tri_lattice.specs.Extent.{Extent}
use Rattle.amoebot_state.specs.declared.bot.Bot.{Bot}
use Rattle.amoebot_state.specs.declared.bot.Chir.TheVariants.{Plus}
use Rattle.amoebot_state.specs.declared.refusal.WorldRefusal.TheVariants.{BadWall, NotAdjacent, OnWall, Overlap}
use Rattle.amoebot_state.specs.Configs.{frame_of}
use Rattle.amoebot_state.specs.Refusals.{IsFirstFault, IsFirstRefusal}

abbrev pub eight_by_eight : Extent
eight_by_eight = record { x0 = pos 0; y0 = pos 0; w = 8; h = 8 }

abbrev pub zeros : List ℕ
zeros = 0 ∷ 0 ∷ 0 ∷ 0 ∷ 0 ∷ 0 ∷ 0 ∷ 0 ∷ []

-- on two nodes of a row, or on one
abbrev pub on : ℕ → ℕ → Bot
on head tail =
    let there : Node = record { x = pos head; y = pos 3 } in
    let behind : Node = record { x = pos tail; y = pos 3 } in
    record { head = there; tail = behind; rot = 0; chir = Plus; mem = zeros }

-- the second stands where the first one does, and the third is torn
abbrev pub one_on_another : List Bot
one_on_another = on 2 2 ∷ on 2 2 ∷ on 4 6 ∷ []

-- the second is torn, and its tail stands where the first one does; so does the third
abbrev pub one_torn : List Bot
one_torn = on 2 2 ∷ on 4 2 ∷ on 2 2 ∷ []

pub record SmallFaults : Type 0 where
  pub overlap : IsFirstFault (frame_of eight_by_eight zeros) one_on_another (Overlap 1)
  pub torn : IsFirstFault (frame_of eight_by_eight zeros) one_torn (NotAdjacent 1)

abbrev pub node_by : ℕ → ℕ → Node
node_by x y = record { x = pos x; y = pos y }

-- the second wall stands on the first one, and the third is outside
abbrev pub wall_on_wall : List Node
wall_on_wall = node_by 3 3 ∷ node_by 3 3 ∷ node_by 8 0 ∷ []

-- the wall is where the second of each two amoebots has its tail,
-- whose head is on the first one or on no other
abbrev pub one_wall : List Node
one_wall = node_by 2 3 ∷ []

abbrev pub tail_on_wall : List Bot
tail_on_wall = on 5 5 ∷ on 3 2 ∷ []

abbrev pub wall_and_amoebot : List Bot
wall_and_amoebot = on 3 3 ∷ on 3 2 ∷ []

pub record SmallRefusals : Type 0 where
  pub twice : IsFirstRefusal eight_by_eight wall_on_wall zeros tail_on_wall (BadWall 1)
  pub wall : IsFirstRefusal eight_by_eight one_wall zeros tail_on_wall (OnWall 1)
  pub wall_first : IsFirstRefusal eight_by_eight one_wall zeros wall_and_amoebot (OnWall 1)
