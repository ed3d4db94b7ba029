-- Conditions with `&&`.
use Rattle.std.proofs.Common.{◌≡◌, ℕ, Bool, true, ◌&&◌, ◌≤◌}
use Rattle.std.specs.Prelude.{nat_le}
use Rattle.std.proofs.lemmas.Bool.{leb-true, le-leb, and_parts, and_from}

pub left_of : (a b : Bool) → (a && b) ≡ true → a ≡ true
left_of a b e = (and_parts a b e).0

pub right_of : (a b : Bool) → (a && b) ≡ true → b ≡ true
right_of a b e = (and_parts a b e).1

pub within : (least n most : ℕ) → least ≤ n → n ≤ most → (nat_le least n && nat_le n most) ≡ true
within least n most l m = and_from _ _ (le-leb least n l) (le-leb n most m)

pub from : (least n most : ℕ) → (nat_le least n && nat_le n most) ≡ true → least ≤ n
from least n most e = leb-true least n (left_of _ _ e)

pub upto : (least n most : ℕ) → (nat_le least n && nat_le n most) ≡ true → n ≤ most
upto least n most e = leb-true n most (right_of _ _ e)
