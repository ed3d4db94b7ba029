-- A sum of one part without a minus is its term.
use Rattle.std.proofs.Common.{◌≡◌, ◌∙◌, false, List, [], ◌∷◌, length, slice_index_or, sym, ap, arith}
use Rattle.std.specs.Prelude.{Result, Ok, Err, Some, ℤ, pos, ◌+ℤ◌}
use Rattle.std.specs.Result.{result_ok}
use Rattle.std.proofs.lemmas.Option.{same_Some, none-some}
use Rattle.std.proofs.lemmas.Int.{ints}
use Rattle.model_ops.specs.Sights.{Sight}
use Rattle.action_tree.specs.declared.expression.Part.{Part}
use Rattle.action_tree.specs.declared.expression.Sum.{Sum, out-Sum}
use Rattle.action_tree.specs.Views.{term_of, terms_of, sum_of}
use Rattle.action_tree.proofs.Viewed.{part_opened, sum_opened}
use Rattle.action_meaning.specs.Names.{Names}
use Rattle.action_meaning.specs.Values.{sum_value, term_value}

nothing_added : (x : ℤ) → x +ℤ pos 0 ≡ x
nothing_added x = omega (arith, ints)

pub one_value : (s : Sight) (xs : Names) (sum : Sum) (ps : List Part) (p d : Part) (x : ℤ) → ps ≡ (out-Sum sum).parts.items → length ps ≡ 1 → (slice_index_or ps 0 p).minus ≡ false → term_value s xs (term_of (slice_index_or ps 0 d).term) ≡ Ok x → sum_value s xs (sum_of sum) ≡ Ok x
one_value s xs sum [] p d x at one simple e = absurd (omega (arith, one))
one_value s xs sum (q ∷ (r ∷ rs)) p d x at one simple e = absurd (omega (arith, one))
one_value s xs sum (q ∷ []) p d x at one simple e =
    let opened : sum_of sum ≡ terms_of (q ∷ []) = sum_opened sum ∙ ap terms_of (sym at) in
    rw (opened, part_opened q, e, simple) (ap Ok (nothing_added x))

-- what was read, where something was
pub read_is : {A E : Type 0} (r : Result A E) (x : A) → Some x ≡ result_ok r → r ≡ Ok x
read_is (Ok y) x e = ap Ok (sym (same_Some x y e))
read_is (Err f) x e = absurd (none-some x (sym e))
