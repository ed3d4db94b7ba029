-- Parts in a row: from the start the reader answers what is left of it answers where the code stands.
use Rattle.std.proofs.Common.{◌≡◌, Bool, true, false, Result, Ok, Err, refl, sym, ap, ◌∙◌}
use Rattle.text_tokens.specs.declared.refusal.Refusal.{Refusal}
use Rattle.text_tokens.specs.declared.refusal.ReadRefusal.{ReadRefusal}
use Rattle.text_tokens.specs.declared.refusal.ReadRefusal.TheVariants.{Refused, NoMemory}
use Rattle.text_tokens.specs.Text.{Lexeme}
use Rattle.text_tokens.specs.Cursor.{Cursor, next_passes}
use Rattle.text_tokens.specs.Reading.{Answer, Reader, ◌>>=◌, pure, answer_and_then, either}
use Rattle.text_tokens.specs.Steps.{SameSource, Gives}
use Rattle.text_tokens.proofs.StepsLemmas.{Reached, Failed, stays, stays_on, fails, on_made, is_first, is_second}

pub record Left {A : Type 0} (p : Reader A) (start : Cursor) (q : Reader A) (here : Cursor) : Type 0 where
  pub reads : p start.last start.ahead ≡ q here.last here.ahead
  pub stays : SameSource start here

-- nothing was read yet
pub all_left : {A : Type 0} (p : Reader A) (start : Cursor) → Left p start p start
all_left p start = record { reads = refl; stays = stays start }

-- the code gives what is left
pub gives_left : {A B : Type 0} {r q : Reader B} {start here : Cursor} (view : A → B) (result : Result A ReadRefusal) (new : Cursor) → Left r start q here → Gives view q here result new → Gives view r start result new
gives_left {r = r} {q = q} {start = start} {here = here} view (Ok a) new l g = (l.reads ∙ g.0, stays_on start here new l.stays g.1)
gives_left {r = r} {q = q} {start = start} {here = here} view (Err NoMemory) new l g = (tt, stays_on start here new l.stays g.1)
gives_left {r = r} {q = q} {start = start} {here = here} view (Err (Refused k)) new l g = (l.reads ∙ g.0, stays_on start here new l.stays g.1)

module _ {A B : Type 0} (p : Reader A) (q : A → Reader B) {r : Reader B} {start here : Cursor} (l : Left r start (p >>= q) here) where
  -- the next part was read
  pub past_part : (a : A) (mid : Cursor) → Reached p here a mid → Left r start (q a) mid
  past_part a mid s = record {
    reads = l.reads ∙ ap (λ (x : Answer A). answer_and_then x (λ a us. q a here.last us)) s.0 ∙ ap (λ (last : Refusal). q a last mid.ahead) (sym s.1.last);
    stays = stays_on start here mid l.stays s.1;
  }

  -- it was refused
  pub part_fails : (k : ReadRefusal) (new : Cursor) → Failed p k here new → Failed r k start new
  part_fails k new f = gives_left {A = B} {B = B} {r = r} {q = p >>= q} {start = start} {here = here} (λ b. b) (Err k) new l (fails p q k here new f)

-- the last part was read, and is made into something else
pub made_left : {A B : Type 0} (p : Reader A) (f : A → B) {r : Reader B} {start here : Cursor} → Left r start (p >>= λ a. pure (f a)) here → (a : A) (new : Cursor) → Reached p here a new → Reached r start (f a) new
made_left p f {start = start} {here = here} l a new s = let m = on_made p f here new a s in (l.reads ∙ m.0, stays_on start here new l.stays m.1)

-- of two parts the first is left where it begins, and else the second
module _ {A : Type 0} (starts : Lexeme → Bool) (p q : Reader A) {r : Reader A} {start here : Cursor} (l : Left r start (either starts p q) here) where
  pub first_left : next_passes starts here.ahead ≡ true → Left r start p here
  first_left e = record { reads = l.reads ∙ is_first starts p q here.last here.ahead e; stays = l.stays }

  pub second_left : next_passes starts here.ahead ≡ false → Left r start q here
  second_left e = record { reads = l.reads ∙ is_second starts p q here.last here.ahead e; stays = l.stays }
