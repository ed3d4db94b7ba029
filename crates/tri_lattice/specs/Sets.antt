-- Sets of nodes, given by a test of each node; paths in them, and the connected ones.
-- Paths and connected sets are those of graphs, here of the paper's lattice;
-- that a set is given by a test, and that the empty one is connected, is this project's profile.
use Rattle.std.specs.Prelude.{◌≡◌, ◌≢◌, Bool, true, false, IsTrue}
use Rattle.tri_lattice.specs.declared.node.Node.{Node}
pub use Rattle.tri_lattice.specs.Lattice.{Adjacent}

-- a path of adjacent nodes of the set leads from the one to the other
pub data Joined (S : Node → Bool) : Node → Node → Type 0 where
  here : {a : Node} → IsTrue (S a) → Joined S a a
  along : {a b c : Node} → IsTrue (S a) → Adjacent a b → Joined S b c → Joined S a c

-- any two nodes of the set are joined in it; so the empty set is connected
abbrev pub IsConnected : (Node → Bool) → Type 0
IsConnected S = (a b : Node) → IsTrue (S a) → IsTrue (S b) → Joined S a b

-- the same nodes
abbrev pub SameNodes : (Node → Bool) → (Node → Bool) → Type 0
SameNodes S T = (a : Node) → T a ≡ S a

-- T is S without v
pub record TakesOut (S T : Node → Bool) (v : Node) : Type 0 where
  pub gone : T v ≡ false
  pub others : (a : Node) → a ≢ v → T a ≡ S a

-- T is S with v
pub record PutsIn (S T : Node → Bool) (v : Node) : Type 0 where
  pub there : T v ≡ true
  pub others : (a : Node) → a ≢ v → T a ≡ S a

-- at most one node
abbrev pub IsAtMostOne : (Node → Bool) → Type 0
IsAtMostOne S = (a b : Node) → IsTrue (S a) → IsTrue (S b) → a ≡ b
