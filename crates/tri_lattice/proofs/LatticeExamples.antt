-- The definitions at small values, computed.
use Rattle.std.proofs.Common.{◌≡◌, ℤ, pos, negsuc, [], ◌∷◌, true, false, refl, map}
use Rattle.std.specs.declared.option.Option.TheVariants.{Some}
use Rattle.tri_lattice.specs.declared.node.Node.{Node}
use Rattle.tri_lattice.specs.Lattice.{ring, turned, opposite, is_adjacent, distance}
use Rattle.tri_lattice.specs.Extent.{Extent, index_of, is_in, node_at}

abbrev at : ℤ → ℤ → Node
at x y = record { x = x; y = y }

-- node (2, 3) steps to these in directions 0 to 5
ring_of_2_3 : ring (at (pos 2) (pos 3)) ≡ at (pos 3) (pos 3) ∷ at (pos 2) (pos 4) ∷ at (pos 1) (pos 4) ∷ at (pos 1) (pos 3) ∷ at (pos 2) (pos 2) ∷ at (pos 3) (pos 2) ∷ []
ring_of_2_3 = refl

ring_of_origin : ring (at (pos 0) (pos 0)) ≡ at (pos 1) (pos 0) ∷ at (pos 0) (pos 1) ∷ at (negsuc 0) (pos 1) ∷ at (negsuc 0) (pos 0) ∷ at (pos 0) (negsuc 0) ∷ at (pos 1) (negsuc 0) ∷ []
ring_of_origin = refl

opposites : map opposite (0 ∷ 1 ∷ 2 ∷ 3 ∷ 4 ∷ 5 ∷ []) ≡ 3 ∷ 4 ∷ 5 ∷ 0 ∷ 1 ∷ 2 ∷ []
opposites = refl

turned_5 : turned 5 1 ≡ 0
turned_5 = refl

-- a neighbour; and a node that is none, though it differs by one in each coordinate
next_to_2_3 : is_adjacent (at (pos 2) (pos 3)) (at (pos 1) (pos 4)) ≡ true
next_to_2_3 = refl

not_next_to_2_3 : is_adjacent (at (pos 2) (pos 3)) (at (pos 3) (pos 4)) ≡ false
not_next_to_2_3 = refl

not_next_to_itself : is_adjacent (at (pos 2) (pos 3)) (at (pos 2) (pos 3)) ≡ false
not_next_to_itself = refl

-- offsets of one sign add up, and of two signs do not
distance_3_4 : distance (at (pos 2) (pos 3)) (at (pos 3) (pos 4)) ≡ 2
distance_3_4 = refl

distance_5_1 : distance (at (pos 2) (pos 3)) (at (pos 5) (pos 1)) ≡ 3
distance_5_1 = refl

distance_back : distance (at (pos 5) (pos 1)) (at (pos 2) (pos 3)) ≡ 3
distance_back = refl

-- the area 0 0 8 8
abbrev eight : Extent
eight = record { x0 = pos 0; y0 = pos 0; w = 8; h = 8 }

number_2_3 : index_of eight (at (pos 2) (pos 3)) ≡ Some 26
number_2_3 = refl

node_26 : node_at eight 26 ≡ at (pos 2) (pos 3)
node_26 = refl

last_of_eight : index_of eight (at (pos 7) (pos 7)) ≡ Some 63
last_of_eight = refl

right_of_eight : is_in eight (at (pos 8) (pos 3)) ≡ false
right_of_eight = refl

-- an area that begins at (-4, -2), three wide and five high
abbrev low : Extent
low = record { x0 = negsuc 3; y0 = negsuc 1; w = 3; h = 5 }

first_of_low : index_of low (at (negsuc 3) (negsuc 1)) ≡ Some 0
first_of_low = refl

next_row_of_low : index_of low (at (negsuc 3) (negsuc 0)) ≡ Some 3
next_row_of_low = refl

last_of_low : index_of low (at (negsuc 1) (pos 2)) ≡ Some 14
last_of_low = refl

node_14_of_low : node_at low 14 ≡ at (negsuc 1) (pos 2)
node_14_of_low = refl

left_of_low : is_in low (at (negsuc 4) (negsuc 1)) ≡ false
left_of_low = refl
