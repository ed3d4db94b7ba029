-- The text of a renewed document, part by part.
use Rattle.std.proofs.Common.{◌≡◌, ℕ, List, [], ◌++◌}

-- the first line, the program, and three sections of so many variables
pub joined : (line program : List ℕ) (shape journal final : ℕ → List ℕ) (vars count : ℕ) (l0 l1 l2 l3 l4 l5 text : List ℕ) → vars ≡ count → l0 ≡ [] → l1 ≡ l0 ++ line → l2 ≡ l1 ++ program → l3 ≡ l2 ++ shape vars → l4 ≡ l3 ++ journal vars → l5 ≡ l4 ++ final vars → text ≡ l5 → text ≡ line ++ program ++ shape count ++ journal count ++ final count
joined line program shape journal final vars count l0 l1 l2 l3 l4 l5 text same e0 e1 e2 e3 e4 e5 is = cc
