-- Names without their lines.
use Rattle.std.proofs.Common.{◌≡◌, ◌∙◌, ℕ, Bool, true, false, not, ◌||◌, if◌then◌else◌, List, [], ◌∷◌, length, refl, ap, sym}
use Rattle.std.specs.Prelude.{Ok, Err}
use Rattle.std.proofs.lemmas.List.{length-map}
use Rattle.std.specs.Bool.{Decides}
use Rattle.std.specs.List.{list_any}
use Rattle.std.specs.Str.{bytes_eq}
use Rattle.std.proofs.lemmas.Bool.Decides.{same_from_decides}
use Rattle.std.proofs.lemmas.Slice.Eq.{bytes_eq-Decides}
use Rattle.arrayvec.specs.ArrayString.{ArrayString}
use Rattle.text_tokens.specs.declared.refusal.RefusalKind.TheVariants.{TwiceNamed}
use Rattle.action_tree.specs.Trees.{Name}
use Rattle.action_check.specs.Faults.{blamed, declared_faults}
use Rattle.action_check.specs.Told.{first_of, texts}

pub any_text : (test : List ℕ → Bool) (names : List ArrayString) → list_any test (texts names) ≡ list_any (λ name. test name.bytes) names
any_text test [] = refl
any_text test (name ∷ names) = ap (λ rest. test name.bytes || rest) (any_text test names)

pub same_either_way : (a b : List ℕ) → bytes_eq a b ≡ bytes_eq b a
same_either_way a b =
    let d = bytes_eq-Decides b a in
    let turned : Decides (bytes_eq b a) (a ≡ b) = ((λ e. sym (d.0 e)), (λ e. d.1 (sym e))) in
    same_from_decides _ _ (bytes_eq-Decides a b) turned

pub any_same_text : (text : List ℕ) (names : List ArrayString) → list_any (bytes_eq text) (texts names) ≡ list_any (λ name. bytes_eq name.bytes text) names
any_same_text text [] = refl
any_same_text text (name ∷ names) =
    let e = same_either_way text name.bytes in
    let f = any_same_text text names in
    cc

pub texts_length : (names : List ArrayString) → length (texts names) ≡ length names
texts_length names = length-map names (λ name. name.bytes)

-- ---- the declaration of a name, where a set says whether it is new

fresh_by : (twice new : Bool) (line : ℕ) → new ≡ not twice → new ≡ true → first_of (if twice then blamed TwiceNamed line else []) ≡ Ok tt
fresh_by true new line e f = absurd cc
fresh_by false new line e f = refl

twice_by : (twice new : Bool) (line : ℕ) → new ≡ not twice → new ≡ false → first_of (if twice then blamed TwiceNamed line else []) ≡ Err (record { line = line; kind = TwiceNamed })
twice_by true new line e f = refl
twice_by false new line e f = absurd cc

pub fresh_name : (names : List ArrayString) (v : Name) (new : Bool) → new ≡ not (list_any (λ name. bytes_eq v.text name.bytes) names) → new ≡ true → first_of (declared_faults (texts names) v) ≡ Ok tt
fresh_name names v new e f = fresh_by _ new v.line (e ∙ ap not (sym (any_text (bytes_eq v.text) names))) f

pub twice_named : (names : List ArrayString) (v : Name) (new : Bool) → new ≡ not (list_any (λ name. bytes_eq v.text name.bytes) names) → new ≡ false → first_of (declared_faults (texts names) v) ≡ Err (record { line = v.line; kind = TwiceNamed })
twice_named names v new e f = twice_by _ new v.line (e ∙ ap not (sym (any_text (bytes_eq v.text) names))) f
