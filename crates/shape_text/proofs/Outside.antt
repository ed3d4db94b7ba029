-- Numbers that lie outside of a range, and those that do not.
use Rattle.std.proofs.Common.{◌≡◌, ◌<◌, ◌≤◌, ◌⊎◌, inl, inr, ℕ, Bool, true, false, Option, cond, Some, None, refl}
use Rattle.std.specs.Prelude.{nat_le, ◌&&◌}
use Rattle.std.proofs.lemmas.Bool.{and_parts, le-leb, lt-leb, leb-true}
use Rattle.text_tokens.specs.Text.{Lexeme}
use Rattle.text_tokens.specs.declared.refusal.RefusalKind.{RefusalKind}
use Rattle.text_tokens.specs.declared.refusal.RefusalKind.TheVariants.{BadRange}
use Rattle.text_tokens.specs.Reading.{lexeme_value}
use Rattle.shape_text.specs.Parts.{outside}

module _ (least most : ℕ) (t : Lexeme) where
  pub outlying : (lexeme_value t < least) ⊎ ((least ≤ lexeme_value t) × (most < lexeme_value t)) → outside least most t ≡ Some BadRange
  outlying (inl lt) = let b : nat_le least (lexeme_value t) ≡ false = lt-leb _ _ lt in rw b refl
  outlying (inr both) = let a : nat_le least (lexeme_value t) ≡ true = le-leb _ _ both.0 in let b : nat_le (lexeme_value t) most ≡ false = lt-leb _ _ both.1 in rw (a, b) refl

  pub inside : least ≤ lexeme_value t → lexeme_value t ≤ most → outside least most t ≡ None
  inside low high = let a : nat_le least (lexeme_value t) ≡ true = le-leb _ _ low in let b : nat_le (lexeme_value t) most ≡ true = le-leb _ _ high in rw (a, b) refl

  within_by : (b : Bool) → cond {A = Option RefusalKind} b None (Some BadRange) ≡ None → b ≡ true
  within_by true e = refl
  within_by false e = absurd cc

  pub within : outside least most t ≡ None → (least ≤ lexeme_value t) × (lexeme_value t ≤ most)
  within e =
      let both = and_parts (nat_le least (lexeme_value t)) (nat_le (lexeme_value t) most) (within_by (nat_le least (lexeme_value t) && nat_le (lexeme_value t) most) e) in
      (leb-true least (lexeme_value t) both.0, leb-true (lexeme_value t) most both.1)
