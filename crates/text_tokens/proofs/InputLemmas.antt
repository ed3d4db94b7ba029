-- Grammars that contain themselves, and whole inputs.
use Rattle.std.proofs.Common.{◌≡◌, ℕ, zero, suc, Bool, List, [], ◌∷◌, Result, Ok, Err, refl, sym, ap, subst, ◌∙◌}
use Rattle.text_tokens.specs.declared.refusal.Refusal.{Refusal}
use Rattle.text_tokens.specs.declared.refusal.RefusalKind.{RefusalKind}
use Rattle.text_tokens.specs.declared.refusal.RefusalKind.TheVariants.{BadByte, WordTooLong, Unexpected, TooDeep, TooMany, Truncated, UnknownName, TwiceNamed, WrongType, BadRange, BadId, OutOfBox, Overlap, NotAdjacent, BadValue, Trailing, WrongSection, BadEntry, BadPlace, TooLong, BadWall, OnWall, NotErosion, BadStart}
use Rattle.text_tokens.specs.Text.{Lexeme}
use Rattle.text_tokens.specs.Cursor.{end_by, at_end}
use Rattle.text_tokens.specs.Reading.{Answer, Reader, refuse, by_levels, and_end, end_of_input, whole_input}
use Rattle.text_tokens.specs.Grammar.{Lang}
use Rattle.text_tokens.specs.Lawful.{IsText, Tells, Exact, IsPart}
use Rattle.text_tokens.specs.Inputs.{IsInputFault, within, trailing, no_token, TellsInput, IsDecidedInput, ExactInput}
use Rattle.text_tokens.specs.Combinators.{IsLevel}

-- ---- levels

module _ {K : Type 0} {A : K → Type 0} (P : ℕ → (k : K) → Lang (A k)) (level : ℕ → ((k : K) → Reader (A k)) → (k : K) → Reader (A k)) (stop : K → Lexeme → Bool) (one : IsLevel P level stop) where
  pub part_levels : (n : ℕ) (k : K) → IsPart (P n k) (by_levels level n k) (stop k)
  unfolding by_levels
  part_levels zero k = one zero (λ k. refuse) (λ t e. absurd cc) k
  part_levels (suc n) k = one (suc n) (by_levels level n) (λ t e k. part_levels n k) k

-- ---- whole inputs

data AtEnd (last : Refusal) (kind : RefusalKind) : Type 0 where
  there : kind ≡ Truncated → end_by last kind ≡ Ok tt → AtEnd last kind
  not_there : (kind ≡ Truncated → ⊥) → end_by last kind ≡ Err last → AtEnd last kind

at_which : (last : Refusal) (kind : RefusalKind) → AtEnd last kind
at_which last Truncated = there refl refl
at_which last BadByte = not_there (λ e. absurd cc) refl
at_which last WordTooLong = not_there (λ e. absurd cc) refl
at_which last Unexpected = not_there (λ e. absurd cc) refl
at_which last TooDeep = not_there (λ e. absurd cc) refl
at_which last TooMany = not_there (λ e. absurd cc) refl
at_which last UnknownName = not_there (λ e. absurd cc) refl
at_which last TwiceNamed = not_there (λ e. absurd cc) refl
at_which last WrongType = not_there (λ e. absurd cc) refl
at_which last BadRange = not_there (λ e. absurd cc) refl
at_which last BadId = not_there (λ e. absurd cc) refl
at_which last OutOfBox = not_there (λ e. absurd cc) refl
at_which last Overlap = not_there (λ e. absurd cc) refl
at_which last NotAdjacent = not_there (λ e. absurd cc) refl
at_which last BadValue = not_there (λ e. absurd cc) refl
at_which last Trailing = not_there (λ e. absurd cc) refl
at_which last WrongSection = not_there (λ e. absurd cc) refl
at_which last BadEntry = not_there (λ e. absurd cc) refl
at_which last BadPlace = not_there (λ e. absurd cc) refl
at_which last TooLong = not_there (λ e. absurd cc) refl
at_which last BadWall = not_there (λ e. absurd cc) refl
at_which last OnWall = not_there (λ e. absurd cc) refl
at_which last NotErosion = not_there (λ e. absurd cc) refl
at_which last BadStart = not_there (λ e. absurd cc) refl

module _ {A : Type 0} (P : Lang A) (kind : RefusalKind) where
  pub ends_by : (last : Refusal) (ts : List Lexeme) (a : A) (rest : List Lexeme) → IsText P ts a rest → TellsInput P kind last ts (and_end a (at_end kind last rest))
  ends_by last ts a [] is = by (at_which last last.kind)
    where
      by : AtEnd last last.kind → TellsInput P kind last ts (and_end a (end_by last last.kind))
      by (there e f) = subst (λ (r : Result (Unit {0}) Refusal). TellsInput P kind last ts (and_end a r)) (sym f) (record { text = is; ends = e })
      by (not_there e f) = subst (λ (r : Result (Unit {0}) Refusal). TellsInput P kind last ts (and_end a r)) (sym f) (no_token a is e)
  ends_by last ts a (t ∷ rest) is = trailing a t rest is

  module _ (p : Reader A) (exact : Exact P p) where
    input_tells : (last : Refusal) (ts : List Lexeme) (r : Answer A) → Tells P last ts r → TellsInput P kind last ts (end_of_input kind last r)
    input_tells last ts (Ok r) is = ends_by last ts r.0 r.1 is
    input_tells last ts (Err r) is = within is

    ends_not : (last : Refusal) → (last.kind ≡ Truncated → ⊥) → AtEnd last last.kind → end_by last last.kind ≡ Err last
    ends_not last n (there e f) = absurd (n e)
    ends_not last n (not_there e f) = f

    reads_so : (last : Refusal) (ts : List Lexeme) (r : Answer A) → Tells P last ts r → whole_input kind p last ts ≡ end_of_input kind last r
    reads_so last ts r is = ap (λ (s : Answer A). end_of_input kind last s) (exact.only last ts r is)

    refused_by : (last : Refusal) (ts : List Lexeme) (r : Refusal) → IsInputFault P kind last ts r → whole_input kind p last ts ≡ Err r
    refused_by last ts r (within is) = reads_so last ts (Err r) is
    refused_by last ts r (trailing a t rest is) = reads_so last ts (Ok (a, t ∷ rest)) is
    refused_by last ts r (no_token a is n) = reads_so last ts (Ok (a, [])) is ∙ ap (and_end a) (ends_not last n (at_which last last.kind))

    input_only : (last : Refusal) (ts : List Lexeme) (r : Result A Refusal) → TellsInput P kind last ts r → whole_input kind p last ts ≡ r
    input_only last ts (Ok a) is = reads_so last ts (Ok (a, [])) is.text ∙ ap (λ (k : RefusalKind). and_end a (end_by last k)) is.ends
    input_only last ts (Err r) is = refused_by last ts r is

    pub exact_input : ExactInput P kind (whole_input kind p)
    exact_input = record { tells = λ last ts. input_tells last ts (p last ts) (exact.tells last ts); only = input_only }

    pub decided_input : IsDecidedInput P kind
    decided_input = record { some = λ last ts. (whole_input kind p last ts, exact_input.tells last ts); one = λ last ts r s g h. sym (input_only last ts r g) ∙ input_only last ts s h }
