-- One token: whether it is taken, and what it stands for.
use Rattle.std.proofs.Common.{◌≡◌, Bool, true, false, ◌||◌, cond, List, [], ◌∷◌, Option, Some, None, Ok, Err, refl, sym, ap, subst, ◌∙◌}
use Rattle.text_tokens.specs.declared.token.Token.{Token}
use Rattle.text_tokens.specs.declared.refusal.ReadRefusal.{ReadRefusal}
use Rattle.text_tokens.specs.declared.refusal.ReadRefusal.TheVariants.{Refused, NoMemory}
use Rattle.text_tokens.specs.declared.refusal.Refusal.{Refusal}
use Rattle.text_tokens.specs.declared.refusal.RefusalKind.{RefusalKind}
use Rattle.text_tokens.specs.declared.refusal.RefusalKind.TheVariants.{Unexpected}
use Rattle.text_tokens.specs.Text.{Lexeme}
use Rattle.text_tokens.specs.Cursor.{Cursor, next_passes, refusal_at, past_token, expect, expect_by, Spells}
use Rattle.text_tokens.specs.Reading.{Answer, Reader, pure, answer_and_then, within, one_within, one, no_limit}
use Rattle.text_tokens.specs.Steps.{Fails, SameSource, lexeme_of}
use Rattle.text_tokens.proofs.StepsLemmas.{Reached, Failed, stays, took, fails, on_made, err_of}
use Rattle.text_tokens.proofs.Rows.{Left}
use Rattle.text_tokens.proofs.Exactness.{value_in, rest_in}
use Rattle.action_parser.specs.Readings.{made}

module _ (test : Lexeme → Bool) (over : Lexeme → Option RefusalKind) where
  not_next_by : (ts : List Lexeme) (last : Refusal) → next_passes test ts ≡ false → one_within test over last ts ≡ Err (refusal_at last Unexpected ts)
  unfolding one_within
  not_next_by [] last e = refl
  not_next_by (t ∷ ts) last e = rw e refl

  -- another token stands there, or none
  pub not_next : (old : Cursor) (e : ReadRefusal) → next_passes test old.ahead ≡ false → e ≡ Refused (refusal_at old.last Unexpected old.ahead) → Failed (one_within test over) e old old
  not_next old e misses is = rw is (not_next_by old.ahead old.last misses, stays old)

  as_any : (ls : List Lexeme) (last : Refusal) → next_passes test ls ≡ true → expect_by test ls last ≡ expect_by (λ _. true) ls last
  as_any [] last passes = absurd cc
  as_any (l ∷ ls) last passes = rw passes refl

  -- any token was taken, and it is the one
  pub next_taken : (old new : Cursor) (t : Token) → next_passes test old.ahead ≡ true → expect (λ _. true) old ≡ Ok t → new ≡ past_token old → Spells old t → over (lexeme_of old.source t) ≡ None → Reached (one_within test over) old (lexeme_of old.source t) new
  next_taken old new t comes e moves spells fine = took test over old new t (as_any old.ahead old.last comes ∙ e) moves spells fine

  passes_by : (ts us : List Lexeme) (last : Refusal) (t : Lexeme) → one_within test over last ts ≡ Ok (t, us) → test t ≡ true
  unfolding one_within
  passes_by [] us last t e = absurd cc
  passes_by (l ∷ ls) us last t e = by (test l) refl (over l) e
    where
      by : (b : Bool) → test l ≡ b → (o : Option RefusalKind) → cond {A = Answer Lexeme} b (within o l ls) (Err (record { line = l.line; kind = Unexpected })) ≡ Ok (t, us) → test t ≡ true
      by true f None h = ap test (sym (ap (value_in l) h)) ∙ f
      by true f (Some k) h = absurd cc
      by false f o h = absurd cc

  -- what was read passes the test
  pub passes : (old new : Cursor) (t : Lexeme) → Reached (one_within test over) old t new → test t ≡ true
  passes old new t r = passes_by old.ahead new.ahead old.last t r.0

-- a limit on a token that was read without one
module _ (test : Lexeme → Bool) (over : Lexeme → Option RefusalKind) where
  within_by : (ts us : List Lexeme) (last : Refusal) (t : Lexeme) (o : Option RefusalKind) → one test last ts ≡ Ok (t, us) → over t ≡ o → one_within test over last ts ≡ within o t us
  unfolding one_within
  within_by [] us last t o e is = absurd cc
  within_by (l ∷ ls) us last t o e is = by (test l) refl e
    where
      by : (b : Bool) → test l ≡ b → cond {A = Answer Lexeme} b (Ok (l, ls)) (Err (record { line = l.line; kind = Unexpected })) ≡ Ok (t, us) → one_within test over last (l ∷ ls) ≡ within o t us
      by true f h =
          let x : l ≡ t = ap (value_in l) h in
          let y : ls ≡ us = ap rest_in h in
          rw (f, ap over x ∙ is) (ap (λ (z : Lexeme). within o z ls) x ∙ ap (λ (z : List Lexeme). within o t z) y)
      by false f h = absurd cc

  pub keeps_limit : (old new : Cursor) (t : Lexeme) → Reached (one test) old t new → over t ≡ None → Reached (one_within test over) old t new
  keeps_limit old new t r fine = (within_by old.ahead new.ahead old.last t None r.0 fine, r.1)

  pub passes_limit : (old new : Cursor) (t : Lexeme) (k : RefusalKind) → Reached (one test) old t new → over t ≡ Some k → Failed (one_within test over) (Refused (record { line = t.line; kind = k })) old new
  passes_limit old new t k r past = (within_by old.ahead new.ahead old.last t (Some k) r.0 past, r.1)

  refused_by : (ts : List Lexeme) (last r : Refusal) → one test last ts ≡ Err r → one_within test over last ts ≡ Err r
  unfolding one_within
  refused_by [] last r e = e
  refused_by (l ∷ ls) last r e = by (test l) refl e
    where
      by : (b : Bool) → test l ≡ b → cond {A = Answer Lexeme} b (Ok (l, ls)) (Err (record { line = l.line; kind = Unexpected })) ≡ Err r → one_within test over last (l ∷ ls) ≡ Err r
      by true f h = absurd cc
      by false f h = rw f h

  -- one that was refused without a limit
  pub refused_with : (e : ReadRefusal) (old new : Cursor) → Failed (one test) e old new → Failed (one_within test over) e old new
  refused_with NoMemory old new f = f
  refused_with (Refused r) old new f = (refused_by old.ahead old.last r f.0, f.1)

-- ---- one of two tests

module _ (p q : Lexeme → Bool) where
  left_by : (last : Refusal) (ts : List Lexeme) → next_passes p ts ≡ true → one (λ t. p t || q t) last ts ≡ one p last ts
  unfolding one_within
  left_by last [] e = refl
  left_by last (t ∷ ts) e = rw e refl

  right_by : (last : Refusal) (ts : List Lexeme) → next_passes p ts ≡ false → one (λ t. p t || q t) last ts ≡ one q last ts
  unfolding one_within
  right_by last [] e = refl
  right_by last (t ∷ ts) e = rw e refl

  module _ {A : Type 0} (f : Lexeme → A) (old : Cursor) where
    pub left_same : next_passes p old.ahead ≡ true → made (one (λ t. p t || q t)) f old.last old.ahead ≡ made (one p) f old.last old.ahead
    left_same comes = ap (λ (x : Answer Lexeme). answer_and_then x (λ t us. Ok (f t, us))) (left_by old.last old.ahead comes)

    pub right_same : next_passes p old.ahead ≡ false → made (one (λ t. p t || q t)) f old.last old.ahead ≡ made (one q) f old.last old.ahead
    right_same misses = ap (λ (x : Answer Lexeme). answer_and_then x (λ t us. Ok (f t, us))) (right_by old.last old.ahead misses)

  module _ {A : Type 0} (f : Lexeme → A) (old new : Cursor) where
    pub left_reads : (t : Lexeme) (v : A) → next_passes p old.ahead ≡ true → Reached (one p) old t new → (p t ≡ true → f t ≡ v) → Reached (made (one (λ t. p t || q t)) f) old v new
    left_reads t v comes r is = rw (← is (passes p no_limit old new t r)) (on_made (one (λ t. p t || q t)) f old new t (left_by old.last old.ahead comes ∙ r.0, r.1))

    pub right_reads : (t : Lexeme) (v : A) → next_passes p old.ahead ≡ false → Reached (one q) old t new → (q t ≡ true → f t ≡ v) → Reached (made (one (λ t. p t || q t)) f) old v new
    right_reads t v misses r is = rw (← is (passes q no_limit old new t r)) (on_made (one (λ t. p t || q t)) f old new t (right_by old.last old.ahead misses ∙ r.0, r.1))

    pub left_fails : (e : ReadRefusal) → next_passes p old.ahead ≡ true → Failed (one p) e old new → Failed (made (one (λ t. p t || q t)) f) e old new
    left_fails e comes r = fails (one (λ t. p t || q t)) (λ t. pure (f t)) e old new (subst (λ (x : Answer Lexeme). Fails e x) (sym (left_by old.last old.ahead comes)) r.0, r.1)

    pub right_fails : (e : ReadRefusal) → next_passes p old.ahead ≡ false → Failed (one q) e old new → Failed (made (one (λ t. p t || q t)) f) e old new
    right_fails e misses r = fails (one (λ t. p t || q t)) (λ t. pure (f t)) e old new (subst (λ (x : Answer Lexeme). Fails e x) (sym (right_by old.last old.ahead misses)) r.0, r.1)

-- ---- what a part was made of

-- something was read, and stands for this
pub record Taken {A B : Type 0} (p : Reader A) (f : A → B) (old : Cursor) (b : B) (new : Cursor) : Type 0 where
  pub part : A
  pub reads : Reached p old part new
  pub is : f part ≡ b

module _ {A B : Type 0} (p : Reader A) (f : A → B) (old new : Cursor) where
  taken_by : (b : B) (r : Answer A) → p old.last old.ahead ≡ r → SameSource old new → answer_and_then r (λ a us. Ok (f a, us)) ≡ Ok (b, new.ahead) → Taken p f old b new
  taken_by b (Ok r) e s h =
      let x : f r.0 ≡ b = ap (value_in b) h in
      let y : r.1 ≡ new.ahead = ap rest_in h in
      record { part = r.0; reads = (e ∙ ap (λ (us : List Lexeme). Ok (r.0, us)) y, s); is = x }
  taken_by b (Err r) e s h = absurd cc

  pub taken : (b : B) → Reached (made p f) old b new → Taken p f old b new
  taken b r = taken_by b (p old.last old.ahead) refl r.1 r.0

  -- it was refused before something was made of it
  pub untaken : (e : ReadRefusal) → Failed (made p f) e old new → Failed p e old new
  untaken NoMemory r = r
  untaken (Refused k) r = (err_of f (p old.last old.ahead) k r.0, r.1)

-- nothing is left to read
pub all_read : {A : Type 0} (r : Reader A) (start here : Cursor) (v b : A) → Left r start (pure v) here → v ≡ b → Reached r start b here
all_read r start here v b l e = (l.reads ∙ ap (λ (z : _). Ok (z, here.ahead)) e, l.stays)
