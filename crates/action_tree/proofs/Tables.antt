-- A table is searched from left to right, and only for entries that begin as the text does.
use Rattle.std.proofs.Common.{◌≡◌, ◌<◌, ◌≤◌, ℕ, suc, Bool, true, false, List, [], ◌∷◌, ◌++◌, map, drop, length, get_or, refl, ap, ◌∙◌, arith, drop-cons}
use Rattle.std.proofs.lemmas.Bool.{and_parts}
use Rattle.std.proofs.lemmas.Slice.Eq.{bytes_eq-Decides}
use Rattle.std.specs.List.{list_all}
use Rattle.std.specs.Prelude.{◌==◌, if◌then◌else◌, not}
use Rattle.std.specs.Str.{bytes_eq}
use Rattle.action_tree.specs.Roles.{Entry, look_up}

module _ {A E : Type 0} (as_entry : E → Entry A) (a : A) (text : List ℕ) where
  -- what the table says from there on, where this entry is the next
  abbrev Said : Bool → E → List E → A
  Said true e es = (as_entry e).value
  Said false e es = look_up a (map as_entry es) text

  step : (e : E) (es : List E) (b : Bool) → bytes_eq text (as_entry e).text ≡ b → look_up a (map as_entry (e ∷ es)) text ≡ Said b e es
  step e es true is = rw is refl
  step e es false is = rw is refl

  pub said_here : (es : List E) (i j : ℕ) (d : E) (b : Bool) → j ≡ suc i → i < length es → bytes_eq text (as_entry (get_or es i d)).text ≡ b → look_up a (map as_entry (drop i es)) text ≡ Said b (get_or es i d) (drop j es)
  said_here es i j d b next lt is = rw next (ap (λ (xs : List E). look_up a (map as_entry xs) text) (drop-cons es i d lt) ∙ step (get_or es i d) (drop (suc i) es) b is)

-- ---- by the first byte of a text

abbrev begins : ℕ → List ℕ → Bool
begins b [] = false
begins b (c ∷ text) = b == c

-- the entries whose text begins with this byte
abbrev pub beginning : {A : Type 0} → ℕ → List (Entry A) → List (Entry A)
beginning b [] = []
beginning b (e ∷ es) = if begins b e.text then e ∷ beginning b es else beginning b es

is_other : (b : ℕ) (rest text : List ℕ) → begins b text ≡ false → bytes_eq (b ∷ rest) text ≡ false
is_other b rest [] other = refl
is_other b rest (c ∷ text) other = rw other refl

module _ {A : Type 0} (a : A) (b : ℕ) (rest : List ℕ) where
  kept_by : (e : Entry A) (es : List (Entry A)) (t : Bool) → begins b e.text ≡ t → look_up a (if t then e ∷ es else es) (b ∷ rest) ≡ look_up a (e ∷ es) (b ∷ rest)
  kept_by e es true is = refl
  kept_by e es false is = rw (is_other b rest e.text is) refl

  pub by_letter : (es : List (Entry A)) → look_up a (beginning b es) (b ∷ rest) ≡ look_up a es (b ∷ rest)
  by_letter [] = refl
  by_letter (e ∷ es) =
      kept_by e (beginning b es) (begins b e.text) refl ∙ ap (λ (x : A). if bytes_eq (b ∷ rest) e.text then e.value else x) (by_letter es)

-- what holds of all texts with the first byte of a text holds of that text
pub agrees : {A : Type 0} (a : A) (es all : List (Entry A)) (text : List ℕ) → 1 ≤ length text → ((rest : List ℕ) → look_up a es (get_or text 0 0 ∷ rest) ≡ look_up a all (get_or text 0 0 ∷ rest)) → look_up a es text ≡ look_up a all text
agrees a es all [] some same = absurd (omega arith)
agrees a es all (b ∷ text) some same = same text

-- ---- in another order

module _ {A : Type 0} (a : A) (text : List ℕ) (e : Entry A) where
  swapped_by : (f : Entry A) (es : List (Entry A)) (p q : Bool) → bytes_eq text e.text ≡ p → bytes_eq text f.text ≡ q → bytes_eq e.text f.text ≡ false
      → look_up a (e ∷ f ∷ es) text ≡ look_up a (f ∷ e ∷ es) text
  swapped_by f es true true is same other =
      let one = (bytes_eq-Decides text e.text).0 is in
      let no : bytes_eq text f.text ≡ false = ap (λ (t : List ℕ). bytes_eq t f.text) one ∙ other in
      absurd cc
  swapped_by f es true false is same other = rw (is, same) refl
  swapped_by f es false true is same other = rw (is, same) refl
  swapped_by f es false false is same other = rw (is, same) refl

  abbrev pub is_apart : Entry A → Bool
  is_apart f = not (bytes_eq e.text f.text)

  not_no : (t : Bool) → not t ≡ true → t ≡ false
  not_no true is = absurd cc
  not_no false is = refl

  -- an entry may stand before others that have another text
  pub moved_first : (es fs : List (Entry A)) → list_all is_apart es ≡ true → look_up a (e ∷ (es ++ fs)) text ≡ look_up a (es ++ (e ∷ fs)) text
  moved_first [] fs apart = refl
  moved_first (f ∷ es) fs apart =
      let parts = and_parts (is_apart f) (list_all is_apart es) apart in
      swapped_by f (es ++ fs) (bytes_eq text e.text) (bytes_eq text f.text) refl refl (not_no (bytes_eq e.text f.text) parts.0)
      ∙ ap (λ (x : A). if bytes_eq text f.text then f.value else x) (moved_first es fs parts.1)
