-- What is told of a grammar is what its exact reader answers.
use Rattle.std.proofs.Common.{Result, Ok, Err}
use Rattle.text_tokens.specs.declared.refusal.ReadRefusal.{ReadRefusal}
use Rattle.text_tokens.specs.declared.refusal.ReadRefusal.TheVariants.{Refused, NoMemory}
use Rattle.text_tokens.specs.Cursor.{Cursor}
use Rattle.text_tokens.specs.Reading.{Reader, ◌>>=◌, pure}
use Rattle.text_tokens.specs.Grammar.{Lang}
use Rattle.text_tokens.specs.Lawful.{Exact}
use Rattle.text_tokens.specs.Steps.{Gives, TellsOf}
use Rattle.text_tokens.proofs.StepsLemmas.{Reached, Failed, fails, on_made}

pub gives_of : {A B : Type 0} (P : Lang B) (view : A → B) (p : Reader B) → Exact P p → (old : Cursor) (result : Result A ReadRefusal) (new : Cursor) → TellsOf P view old result new → Gives view p old result new
gives_of P view p exact old (Ok a) new t = (exact.only old.last old.ahead (Ok (view a, new.ahead)) t.0, t.1)
gives_of P view p exact old (Err NoMemory) new t = (tt, t)
gives_of P view p exact old (Err (Refused r)) new t = (exact.only old.last old.ahead (Err r) t.0, t.1)

-- what a section stands for is kept, or why it is refused is told
module _ {V S : Type 0} (P : Lang V) (p : Reader V) (exact : Exact P p) (keep : V → S) (old new : Cursor) where
  pub kept : (v : V) → TellsOf P (λ (a : V). a) old (Ok v) new → Reached (p >>= λ a. pure (keep a)) old (keep v) new
  kept v t = on_made p keep old new v (gives_of P (λ (a : V). a) p exact old (Ok v) new t)

  pub not_kept : (e : ReadRefusal) → TellsOf P (λ (a : V). a) old (Err e) new → Failed (p >>= λ a. pure (keep a)) e old new
  not_kept e t = fails p (λ a. pure (keep a)) e old new (gives_of P (λ (a : V). a) p exact old (Err e) new t)
