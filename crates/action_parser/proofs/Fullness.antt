-- What one element too many is refused for.
use Rattle.std.proofs.Common.{◌≡◌, ℕ, zero, suc, Bool, true, false, cond, List, [], ◌∷◌, Option, Some, None, Ok, Err, refl, ap, ◌∙◌, sym}
use Rattle.std.specs.Prelude.{option_map}
use Rattle.text_tokens.specs.declared.refusal.Refusal.{Refusal}
use Rattle.text_tokens.specs.declared.refusal.RefusalKind.{RefusalKind}
use Rattle.text_tokens.specs.declared.refusal.RefusalKind.TheVariants.{Unexpected}
use Rattle.text_tokens.specs.Text.{Lexeme}
use Rattle.text_tokens.specs.Cursor.{Cursor, refusal_at}
use Rattle.text_tokens.specs.Reading.{Answer, first, choose, full_at, past_kind, deep_at}
use Rattle.text_tokens.specs.Steps.{IsRefusal}
use Rattle.action_tree.specs.declared.role.Role.{Role}
use Rattle.action_tree.specs.Roles.{role}
use Rattle.action_tree.specs.ExpressionReaders.{opens_level, level_limit}
use Rattle.action_parser.specs.Full.{deep_kind, full_kind}

limit_is : (n : ℕ) (t : Lexeme) (b : Bool) → cond b (deep_at n t) None ≡ cond b (deep_kind n) None
limit_is zero t b = refl
limit_is (suc n) t b = refl

module _ {A : Type 0} (begins : Role → Bool) (n : ℕ) where
  full_by : (t : Lexeme) (last : Refusal) (ts : List Lexeme) (b : Bool) → begins (role t) ≡ b → choose (full_at {A = A} (λ t. begins (role t)) (level_limit n)) last (t ∷ ts) ≡ Err (refusal_at last (full_kind b (role t) n) (t ∷ ts))
  full_by t last ts true e = rw e (ap (λ (o : Option RefusalKind). Err (refusal_at last (past_kind o) (t ∷ ts))) (limit_is n t (opens_level (role t))))
  full_by t last ts false e = rw e refl

  at_role : (last : Refusal) (ts : List Lexeme) (r : Role) (kind : RefusalKind) → option_map role (first ts) ≡ Some r → kind ≡ full_kind (begins r) r n → choose (full_at {A = A} (λ t. begins (role t)) (level_limit n)) last ts ≡ Err (refusal_at last kind ts)
  at_role last [] r kind e k = absurd cc
  at_role last (t ∷ ts) r kind e k =
      let is : role t ≡ r = cc in
      full_by t last ts (begins (role t)) refl ∙ ap (λ (k : RefusalKind). Err (refusal_at last k (t ∷ ts))) (ap (λ (r : Role). full_kind (begins r) r n) is ∙ sym k)

  at_end : (last : Refusal) (ts : List Lexeme) → option_map role (first ts) ≡ None → choose (full_at {A = A} (λ t. begins (role t)) (level_limit n)) last ts ≡ Err (refusal_at last Unexpected ts)
  at_end last [] e = refl
  at_end last (t ∷ ts) e = absurd cc

-- as the code refuses it
module _ (begins : Role → Bool) (n : ℕ) (here : Cursor) (refusal : Refusal) where
  pub full_at_role : (r : Role) (b : Bool) (kind : RefusalKind) → option_map role (first here.ahead) ≡ Some r → b ≡ begins r → kind ≡ full_kind b r n → refusal ≡ refusal_at here.last kind here.ahead → IsRefusal (full_at (λ t. begins (role t)) (level_limit n)) here.last here.ahead refusal
  full_at_role r b kind e is k same = at_role begins n here.last here.ahead r kind e (k ∙ ap (λ (b : Bool). full_kind b r n) is) ∙ ap (λ (x : Refusal). Err x) (sym same)

  pub full_at_end : option_map role (first here.ahead) ≡ None → refusal ≡ refusal_at here.last Unexpected here.ahead → IsRefusal (full_at (λ t. begins (role t)) (level_limit n)) here.last here.ahead refusal
  full_at_end e same = at_end begins n here.last here.ahead e ∙ ap (λ (x : Refusal). Err x) (sym same)

refusal_in : {A : Type 0} → Refusal → Answer A → Refusal
refusal_in r (Ok a) = r
refusal_in r (Err e) = e

-- the same refusal, whatever was to be read
module _ {A : Type 0} (begins : Role → Bool) (n : ℕ) (r : Refusal) where
  for_by : (t : Lexeme) (last : Refusal) (ts : List Lexeme) (b : Bool) → begins (role t) ≡ b → full_at {A = Unit {0}} (λ t. begins (role t)) (level_limit n) (Some t) last (t ∷ ts) ≡ Err r → full_at {A = A} (λ t. begins (role t)) (level_limit n) (Some t) last (t ∷ ts) ≡ Err r
  unfolding refusal_in
  for_by t last ts true f h = rw f (ap (λ (e : Refusal). Err e) (ap (refusal_in r) (rw f at h)))
  for_by t last ts false f h = rw f (ap (λ (e : Refusal). Err e) (ap (refusal_in r) (rw f at h)))

  for_all : (last : Refusal) (ts : List Lexeme) → full_at {A = Unit {0}} (λ t. begins (role t)) (level_limit n) (first ts) last ts ≡ Err r → full_at {A = A} (λ t. begins (role t)) (level_limit n) (first ts) last ts ≡ Err r
  unfolding refusal_in
  for_all last [] h = ap (λ (e : Refusal). Err e) (ap (refusal_in r) h)
  for_all last (t ∷ ts) h = for_by t last ts (begins (role t)) refl h

pub full_for : {A : Type 0} (begins : Role → Bool) (n : ℕ) (here : Cursor) (r : Refusal) → choose (full_at {A = Unit {0}} (λ t. begins (role t)) (level_limit n)) here.last here.ahead ≡ Err r → full_at {A = A} (λ t. begins (role t)) (level_limit n) (first here.ahead) here.last here.ahead ≡ Err r
full_for {A} begins n here r e = for_all {A = A} begins n r here.last here.ahead e
