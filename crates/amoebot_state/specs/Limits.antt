-- How many there may be. All of it is this project's profile.
use Rattle.std.specs.Prelude.{ℕ}

-- the most amoebots of a world
abbrev pub most_bots : ℕ
most_bots = 4096

-- the most walls of a world: the nodes of the largest area
abbrev pub most_walls : ℕ
most_walls = 16384

-- the most variables of an amoebot
abbrev pub most_vars : ℕ
most_vars = 8

-- the greatest value of a variable
abbrev pub most_value : ℕ
most_value = 255

-- the most cells of a patch
abbrev pub most_pairs : ℕ
most_pairs = 10

-- the most nodes of a zone
abbrev pub most_nodes : ℕ
most_nodes = 10

-- room for the nodes of a zone: two own ones and one for each pair of an end and a direction;
-- and for the amoebots on them
abbrev pub node_room : ℕ
node_room = 14

-- the most cells of a zone
abbrev pub most_cells : ℕ
most_cells = 19

-- room for the cells of a zone
abbrev pub cell_room : ℕ
cell_room = 30
