-- From an exact reader to what the code owes to its grammar.
use Rattle.std.proofs.Common.{◌≡◌, ℕ, List, Option, Some, None, Result, Ok, Err, sym, ap, subst, ◌∙◌}
use Rattle.text_tokens.specs.declared.refusal.Refusal.{Refusal}
use Rattle.text_tokens.specs.declared.refusal.RefusalKind.{RefusalKind}
use Rattle.text_tokens.specs.declared.refusal.ReadRefusal.{ReadRefusal}
use Rattle.text_tokens.specs.declared.refusal.ReadRefusal.TheVariants.{Refused, NoMemory}
use Rattle.text_tokens.specs.Text.{Lexeme}
use Rattle.text_tokens.specs.Cursor.{Cursor, IsAtFront, at_end}
use Rattle.text_tokens.specs.Reading.{Answer, Reader, and_end}
use Rattle.text_tokens.specs.Grammar.{Lang, first_fault, outcome_by}
use Rattle.text_tokens.specs.Lawful.{Exact, Tells, IsText}
use Rattle.text_tokens.specs.Inputs.{within, TellsInput}
use Rattle.text_tokens.specs.Steps.{SameSource, Gives, TellsOf, ReadsOf, AnswersInput, ReadsInput}
use Rattle.text_tokens.proofs.Exactness.{ok_of}
use Rattle.text_tokens.proofs.InputLemmas.{ends_by}
use Rattle.text_tokens.proofs.PromisesLemmas.{one_reading}

module _ {A B : Type 0} (P : Lang B) (view : A → B) (p : Reader B) (exact : Exact P p) where
  pub tells_of : (old : Cursor) (result : Result A ReadRefusal) (new : Cursor) → Gives view p old result new → TellsOf P view old result new
  tells_of old (Ok a) new g = (subst (λ (r : Answer B). Tells P old.last old.ahead r) g.0 (exact.tells old.last old.ahead), g.1)
  tells_of old (Err NoMemory) new g = g.1
  tells_of old (Err (Refused r)) new g = (subst (λ (r : Answer B). Tells P old.last old.ahead r) g.0 (exact.tells old.last old.ahead), g.1)

  settled_err : (o : Option Refusal) (b : B) (rest : List Lexeme) (r : Refusal) → outcome_by o b rest ≡ Err r → o ≡ Some r
  settled_err None b rest r e = absurd cc
  settled_err (Some s) b rest r e = let is : s ≡ r = cc in ap (λ (x : Refusal). Some x) is

  pub reads_of : (old : Cursor) (result : Result A ReadRefusal) (new : Cursor) → Gives view p old result new → ReadsOf P view old result new
  reads_of old (Ok a) new g = λ xs b rest is e same. (let h = ok_of (first_fault xs) b (view a) rest new.ahead (sym (exact.reads xs b is old.last rest e) ∙ ap (p old.last) (sym same) ∙ g.0) in (h.0, sym h.1, sym h.2))
  reads_of old (Err NoMemory) new g = λ xs b rest is e same. tt
  reads_of old (Err (Refused r)) new g = λ xs b rest is e same. settled_err (first_fault xs) b rest r (sym (exact.reads xs b is old.last rest e) ∙ ap (p old.last) (sym same) ∙ g.0)

-- ---- a whole input

module _ {A B : Type 0} (P : Lang B) (kind : RefusalKind) (view : A → B) where
  -- behind a text that was read, what stands at its end
  pub input_ends : (old new : Cursor) (a : A) (r : Result (Unit {0}) Refusal) → IsText P old.ahead (view a) new.ahead → SameSource old new → r ≡ at_end kind new.last new.ahead → TellsInput P kind old.last old.ahead (and_end (view a) r)
  input_ends old new a r is stays e = subst (λ (x : Result (Unit {0}) Refusal). TellsInput P kind old.last old.ahead (and_end (view a) x)) (sym (e ∙ ap (λ (last : Refusal). at_end kind last new.ahead) stays.last)) (ends_by P kind old.last old.ahead (view a) new.ahead is)

  -- a text that was refused
  pub input_fails : (old new : Cursor) (e : ReadRefusal) → TellsOf P view old (Err e) new → AnswersInput P kind view old.last old.ahead (Err e)
  input_fails old new NoMemory g = tt
  input_fails old new (Refused r) g = within g.0

  -- bytes have one list of tokens
  pub reads_input : (bytes : List ℕ) (c : Cursor) (result : Result A ReadRefusal) → IsAtFront bytes c → AnswersInput P kind view c.last c.ahead result → ReadsInput P kind view bytes result
  reads_input bytes c result front is ts last tokens =
      let s = one_reading bytes c.ahead ts c.last last front.tokens tokens in
      subst (λ (l : Refusal). AnswersInput P kind view l ts result) s.last (subst (λ (us : List Lexeme). AnswersInput P kind view c.last us result) s.tokens is)
