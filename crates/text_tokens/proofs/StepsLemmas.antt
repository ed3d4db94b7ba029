-- From what a `Tokens` answers to what a reader does.
use Rattle.std.proofs.Common.{◌≡◌, ℕ, zero, suc, ◌<◌, ◌≤◌, Bool, true, false, cond, List, [], ◌∷◌, length, drop, Option, Some, None, Result, Ok, Err, refl, sym, ap, subst, ◌∙◌, arith}
use Rattle.text_tokens.specs.declared.token.TokenKind.{TokenKind}
use Rattle.text_tokens.specs.declared.token.TokenKind.TheVariants.{Number}
use Rattle.text_tokens.specs.declared.token.Token.{Token}
use Rattle.text_tokens.specs.declared.refusal.Refusal.{Refusal}
use Rattle.text_tokens.specs.declared.refusal.RefusalKind.{RefusalKind}
use Rattle.text_tokens.specs.declared.refusal.RefusalKind.TheVariants.{Unexpected, TooDeep, TooMany}
use Rattle.std.proofs.lemmas.Bool.{lt-ltb, le-ltb}
use Rattle.std.specs.Prelude.{nat_lt, if◌then◌else◌}
use Rattle.text_tokens.specs.declared.refusal.ReadRefusal.{ReadRefusal}
use Rattle.text_tokens.specs.declared.refusal.ReadRefusal.TheVariants.{Refused, NoMemory}
use Rattle.std.proofs.Common.{rules}
use denote.Enum.Bare.{same_true}
use Rattle.text_tokens.specs.contracts.token.TokenKind.{the_type}
use Rattle.std.specs.List.{list_all}
use Rattle.text_tokens.specs.Text.{Lexeme, Cuts, word, number, sign, is_digit, most_bytes}
use Rattle.text_tokens.specs.Cursor.{Cursor, next_passes, refusal_at, token_of, past_token, tail, expect, expect_by, slice, FirstIs, Spells, IsDigits, is_kind, same_kind}
use Rattle.text_tokens.specs.Reading.{Answer, Reader, first, ◌>>=◌, pure, answer_and_then, starts_at, one_within, either, full_at, limited, deep_at, lexeme_value, too_large, judge, judged}
use Rattle.text_tokens.specs.Steps.{Fails, SameSource, Gives, lexeme_of, another}

-- ---- what stays

pub stays : (c : Cursor) → SameSource c c
stays c = record { source = refl; last = refl }

pub stays_as : (old new : Cursor) → new ≡ old → SameSource old new
stays_as old new e = record { source = ap (λ (c : Cursor). c.source) e; last = ap (λ (c : Cursor). c.last) e }

pub stays_past : (old new : Cursor) → new ≡ past_token old → SameSource old new
stays_past old new e = record { source = ap (λ (c : Cursor). c.source) e; last = ap (λ (c : Cursor). c.last) e }

pub stays_on : (a b c : Cursor) → SameSource a b → SameSource b c → SameSource a c
stays_on a b c p q = record { source = q.source ∙ p.source; last = q.last ∙ p.last }

-- ---- one token

-- the reader has read this, and the code stands behind it
abbrev pub Reached : {A : Type 0} → Reader A → Cursor → A → Cursor → Type 0
Reached p old a new = (p old.last old.ahead ≡ Ok (a, new.ahead)) × SameSource old new

-- the reader has refused
abbrev pub Failed : {A : Type 0} → Reader A → ReadRefusal → Cursor → Cursor → Type 0
Failed p e old new = Fails e (p old.last old.ahead) × SameSource old new

seen : (source : List ℕ) (l : Lexeme) (t : Token) → token_of l ≡ t → l.text ≡ slice source t → lexeme_of source t ≡ l
seen source l t e f = ap (λ (text : List ℕ). record { kind = t.kind; text = text; «from» = t.«from»; line = t.line }) (sym f) ∙ ap (λ (u : Token). record { kind = u.kind; text = l.text; «from» = u.«from»; line = u.line }) (sym e)

module _ (test : Lexeme → Bool) (over : Lexeme → Option RefusalKind) where
  took_test : (source : List ℕ) (l : Lexeme) (rest : List Lexeme) (last : Refusal) (t : Token) (b : Bool) → test l ≡ b → cond {A = Result Token Refusal} b (Ok (token_of l)) (Err (record { line = l.line; kind = Unexpected })) ≡ Ok t → l.text ≡ slice source t → over (lexeme_of source t) ≡ None
      → one_within test over last (l ∷ rest) ≡ Ok (lexeme_of source t, rest)
  unfolding one_within
  took_test source l rest last t true e same text fine =
      let is : token_of l ≡ t = cc in
      let s : lexeme_of source t ≡ l = seen source l t is text in
      let o : over l ≡ None = ap over (sym s) ∙ fine in
      rw (e, o) (ap (λ (x : Lexeme). Ok (x, rest)) (sym s))
  took_test source l rest last t false e same text fine = absurd cc

  took_by : (source : List ℕ) (ls : List Lexeme) (last : Refusal) (t : Token) → expect_by test ls last ≡ Ok t → FirstIs ls (slice source t) → over (lexeme_of source t) ≡ None → one_within test over last ls ≡ Ok (lexeme_of source t, tail ls)
  took_by source [] last t e f fine = absurd cc
  took_by source (l ∷ ls) last t e f fine = took_test source l ls last t (test l) refl e f fine

  pub took : (old new : Cursor) (t : Token) → expect test old ≡ Ok t → new ≡ past_token old → Spells old t → over (lexeme_of old.source t) ≡ None → Reached (one_within test over) old (lexeme_of old.source t) new
  took old new t e moves s fine = (took_by old.source old.ahead old.last t e s.bytes fine ∙ ap (λ (ls : List Lexeme). Ok (lexeme_of old.source t, ls)) (sym (ap (λ (c : Cursor). c.ahead) moves)), stays_past old new moves)

  missed_test : (l : Lexeme) (rest : List Lexeme) (last r : Refusal) (b : Bool) → test l ≡ b → cond {A = Result Token Refusal} b (Ok (token_of l)) (Err (record { line = l.line; kind = Unexpected })) ≡ Err r → one_within test over last (l ∷ rest) ≡ Err r
  unfolding one_within
  missed_test l rest last r true e same = absurd cc
  missed_test l rest last r false e same = let is : record { line = l.line; kind = Unexpected } ≡ r = cc in rw e (ap (λ (x : Refusal). Err x) is)

  missed_by : (ls : List Lexeme) (last r : Refusal) → expect_by test ls last ≡ Err r → one_within test over last ls ≡ Err r
  unfolding one_within
  missed_by [] last r e = let is : last ≡ r = cc in ap (λ (x : Refusal). Err x) is
  missed_by (l ∷ ls) last r e = missed_test l ls last r (test l) refl e

  pub missed : (old new : Cursor) (r : Refusal) → expect test old ≡ Err r → new ≡ old → Failed (one_within test over) (Refused r) old new
  missed old new r e same = (missed_by old.ahead old.last r e, stays_as old new same)

-- a number is one for `number`
cut_digits : (kind : TokenKind) (bytes rest : List ℕ) → Cuts kind bytes rest → kind ≡ Number → list_all is_digit bytes ≡ true
cut_digits kind bytes rest (word e h s) k = absurd cc
cut_digits kind bytes rest (number e h s) k = rw e h
cut_digits kind bytes rest (sign e l) k = absurd cc

pub is_number_of : (c : Cursor) (t : Token) → Spells c t → t.kind ≡ Number → IsDigits c.source t
is_number_of c t s k = record {
  within = s.within;
  digits = cut_digits t.kind (slice c.source t) (drop t.to c.source) s.cuts k;
  few = (let n = s.sized in subst (λ (kind : TokenKind). length (slice c.source t) ≤ most_bytes kind) k n);
}

pub kind_by : (kind : TokenKind) (ls : List Lexeme) (last : Refusal) (t : Token) → expect_by (is_kind kind) ls last ≡ Ok t → is_kind kind (lexeme_of [] t) ≡ true
kind_by kind [] last t e = absurd cc
kind_by kind (l ∷ ls) last t e = kind_test (is_kind kind l) refl e
  where
    kind_test : (b : Bool) → is_kind kind l ≡ b → cond {A = Result Token Refusal} b (Ok (token_of l)) (Err (record { line = l.line; kind = Unexpected })) ≡ Ok t → is_kind kind (lexeme_of [] t) ≡ true
    kind_test true f same = let is : token_of l ≡ t = cc in ap (λ (u : Token). same_kind u.kind kind) (sym is) ∙ f
    kind_test false f same = absurd cc

pub kind_taken : (kind : TokenKind) (c : Cursor) (t : Token) → expect (is_kind kind) c ≡ Ok t → t.kind ≡ kind
unfolding same_kind
kind_taken kind c t e = same_true the_type (search rules) t.kind kind (kind_by kind c.ahead c.last t e)

-- a token that was taken, and passes a limit
module _ (test : Lexeme → Bool) (over : Lexeme → Option RefusalKind) where
  past_test : (source : List ℕ) (l : Lexeme) (rest : List Lexeme) (last : Refusal) (t : Token) (k : RefusalKind) (b : Bool) → test l ≡ b → cond {A = Result Token Refusal} b (Ok (token_of l)) (Err (record { line = l.line; kind = Unexpected })) ≡ Ok t → l.text ≡ slice source t → over (lexeme_of source t) ≡ Some k
      → one_within test over last (l ∷ rest) ≡ Err (record { line = t.line; kind = k })
  unfolding one_within
  past_test source l rest last t k true e same text past =
      let is : token_of l ≡ t = cc in
      let o : over l ≡ Some k = ap over (sym (seen source l t is text)) ∙ past in
      rw (e, o) (ap (λ (u : Token). Err (record { line = u.line; kind = k })) is)
  past_test source l rest last t k false e same text past = absurd cc

  past_by : (source : List ℕ) (ls : List Lexeme) (last : Refusal) (t : Token) (k : RefusalKind) → expect_by test ls last ≡ Ok t → FirstIs ls (slice source t) → over (lexeme_of source t) ≡ Some k → one_within test over last ls ≡ Err (record { line = t.line; kind = k })
  past_by source [] last t k e f past = absurd cc
  past_by source (l ∷ ls) last t k e f past = past_test source l ls last t k (test l) refl e f past

  pub goes_past : (old new : Cursor) (t : Token) (k : RefusalKind) → expect test old ≡ Ok t → new ≡ past_token old → Spells old t → over (lexeme_of old.source t) ≡ Some k → Failed (one_within test over) (Refused (record { line = t.line; kind = k })) old new
  goes_past old new t k e moves s past = (past_by old.source old.ahead old.last t k e s.bytes past, stays_past old new moves)

pub deep_zero : (levels : ℕ) (t : Lexeme) → levels ≡ 0 → deep_at levels t ≡ Some TooDeep
deep_zero levels t e = rw e refl

pub deep_some : (levels : ℕ) (t : Lexeme) → 0 < levels → deep_at levels t ≡ None
deep_some zero t e = absurd (omega arith)
deep_some (suc levels) t e = refl

pub larger : (most : ℕ) (kind : RefusalKind) (t : Lexeme) → most < lexeme_value t → too_large most kind t ≡ Some kind
larger most kind t lt = let b : nat_lt most (lexeme_value t) ≡ true = lt-ltb _ _ lt in rw b refl

pub not_larger : (most : ℕ) (kind : RefusalKind) (t : Lexeme) → lexeme_value t ≤ most → too_large most kind t ≡ None
not_larger most kind t le = let b : nat_lt most (lexeme_value t) ≡ false = le-ltb _ _ le in rw b refl

-- a limit on how many stand before
pub is_past : (before most : ℕ) → most ≤ before → (if nat_lt before most then None else Some TooMany) ≡ Some TooMany
is_past before most le = let b : nat_lt before most ≡ false = le-ltb _ _ le in rw b refl

pub not_past : (before most : ℕ) → before < most → (if nat_lt before most then None else Some TooMany) ≡ None
not_past before most lt = let b : nat_lt before most ≡ true = lt-ltb _ _ lt in rw b refl

-- ---- parts, one behind the other

moved : {B : Type 0} (r : Reader B) (last last' : Refusal) (ts : List Lexeme) → last' ≡ last → r last ts ≡ r last' ts
moved r last last' ts e = ap (λ (l : Refusal). r l ts) (sym e)

-- a reader that answers the same there
pub gives_as : {A B : Type 0} (view : A → B) (p q : Reader B) (old new : Cursor) (r : Result A ReadRefusal) → p old.last old.ahead ≡ q old.last old.ahead → Gives view q old r new → Gives view p old r new
gives_as view p q old new (Ok a) e g = (e ∙ g.0, g.1)
gives_as {B = B} view p q old new (Err k) e g = (subst (λ (x : Answer B). Fails k x) (sym e) g.0, g.1)

-- the first part was read, and then the code gives what the second does
pub on : {A B C : Type 0} (view : C → B) (p : Reader A) (q : A → Reader B) (old mid new : Cursor) (a : A) (r : Result C ReadRefusal) → Reached p old a mid → Gives view (q a) mid r new → Gives view (p >>= q) old r new
on {A} view p q old mid new a (Ok c) s g = (ap (λ (x : Answer A). answer_and_then x (λ a us. q a old.last us)) s.0 ∙ moved (q a) old.last mid.last mid.ahead s.1.last ∙ g.0, stays_on old mid new s.1 g.1)
on {A} {B} view p q old mid new a (Err k) s g = (subst (λ (x : Answer B). Fails k x) (sym (ap (λ (x : Answer A). answer_and_then x (λ a us. q a old.last us)) s.0 ∙ moved (q a) old.last mid.last mid.ahead s.1.last)) g.0, stays_on old mid new s.1 g.1)

-- the first part was refused
pub fails : {A B : Type 0} (p : Reader A) (q : A → Reader B) (k : ReadRefusal) (old new : Cursor) → Failed p k old new → Failed (p >>= q) k old new
fails p q NoMemory old new f = (tt, f.1)
fails {A} p q (Refused r) old new f = (ap (λ (x : Answer A). answer_and_then x (λ a us. q a old.last us)) f.0, f.1)

-- the last part was read, and is made into something else
pub on_made : {A B : Type 0} (p : Reader A) (f : A → B) (old new : Cursor) (a : A) → Reached p old a new → Reached (p >>= λ a. pure (f a)) old (f a) new
on_made {A} p f old new a s = (ap (λ (x : Answer A). answer_and_then x (λ a us. pure (f a) old.last us)) s.0, s.1)

-- it was refused before something was made of it
pub err_of : {A B : Type 0} (f : A → B) (r : Answer A) (e : Refusal) → answer_and_then r (λ a us. Ok (f a, us)) ≡ Err e → r ≡ Err e
err_of f (Ok r) e h = absurd cc
err_of f (Err r) e h = let x : r ≡ e = cc in ap (λ (z : Refusal). Err z) x

-- ---- a judgement

module _ {A : Type 0} (p : Reader A) (wrong : A → Option Refusal) (old new : Cursor) (a : A) (s : Reached p old a new) where
  pub judged_wrong : (r : Refusal) → wrong a ≡ Some r → Failed (judged p wrong) (Refused r) old new
  judged_wrong r e = on (λ (a : A). a) p (λ a. judge (wrong a) a) old new new a (Err (Refused r)) s (ap (λ (o : Option Refusal). judge o a new.last new.ahead) e, stays new)

  pub judged_fine : wrong a ≡ None → Reached (judged p wrong) old a new
  judged_fine e = on (λ (a : A). a) p (λ a. judge (wrong a) a) old new new a (Ok a) s (ap (λ (o : Option Refusal). judge o a new.last new.ahead) e, stays new)

-- ---- choices and limits

pub passes_first : (test : Lexeme → Bool) (ts : List Lexeme) → next_passes test ts ≡ starts_at test (first ts)
passes_first test [] = refl
passes_first test (t ∷ ts) = refl

module _ {A : Type 0} (starts : Lexeme → Bool) (p q : Reader A) (last : Refusal) (ts : List Lexeme) where
  pub is_first : next_passes starts ts ≡ true → either starts p q last ts ≡ p last ts
  unfolding either
  is_first e = let b : starts_at starts (first ts) ≡ true = sym (passes_first starts ts) ∙ e in rw b refl

  pub is_second : next_passes starts ts ≡ false → either starts p q last ts ≡ q last ts
  unfolding either
  is_second e = let b : starts_at starts (first ts) ≡ false = sym (passes_first starts ts) ∙ e in rw b refl

-- one more, where one begins
module _ {A : Type 0} (starts : Lexeme → Bool) (p : Reader A) (old : Cursor) where
  pub another_none : next_passes starts old.ahead ≡ false → Reached (another starts p) old None old
  another_none e = (is_second starts (p >>= λ a. pure (Some a)) (pure None) old.last old.ahead e, stays old)

  module _ (comes : next_passes starts old.ahead ≡ true) where
    as_some : another starts p old.last old.ahead ≡ (p >>= λ a. pure (Some a)) old.last old.ahead
    as_some = is_first starts (p >>= λ a. pure (Some a)) (pure None) old.last old.ahead comes

    pub another_some : (a : A) (new : Cursor) → Reached p old a new → Reached (another starts p) old (Some a) new
    another_some a new r = let m = on_made p (λ (a : A). Some a) old new a r in (as_some ∙ m.0, m.1)

    pub another_fails : (k : ReadRefusal) (new : Cursor) → Failed p k old new → Failed (another starts p) k old new
    another_fails k new f = gives_as (λ (o : Option A). o) (another starts p) (p >>= λ a. pure (Some a)) old new (Err k) as_some (fails p (λ a. pure (Some a)) k old new f)

-- with room and without
module _ {A : Type 0} (starts : Lexeme → Bool) (over : Lexeme → Option RefusalKind) (room : ℕ) (p : Reader A) where
  room_by : (room : ℕ) → 0 < room → limited starts over room p ≡ p
  unfolding limited
  room_by zero lt = absurd (omega arith)
  room_by (suc room) lt = refl

  pub with_room : {B : Type 0} (view : B → A) (old new : Cursor) (r : Result B ReadRefusal) → 0 < room → Gives view p old r new → Gives view (limited starts over room p) old r new
  with_room view old new r lt g = gives_as view (limited starts over room p) p old new r (ap (λ (q : Reader A). q old.last old.ahead) (room_by room lt)) g

  full_is : (last : Refusal) (ts : List Lexeme) → limited starts over zero p last ts ≡ full_at {A = A} starts over (first ts) last ts
  unfolding limited
  full_is last ts = refl

  pub without_room : (old : Cursor) (r : Refusal) → room ≡ 0 → full_at {A = A} starts over (first old.ahead) old.last old.ahead ≡ Err r → Failed (limited starts over room p) (Refused r) old old
  without_room old r e full = (ap (λ (n : ℕ). limited starts over n p old.last old.ahead) e ∙ full_is old.last old.ahead ∙ full, stays old)

  full_by : (last : Refusal) (ts : List Lexeme) → next_passes starts ts ≡ true → ((t : Lexeme) → over t ≡ None) → full_at {A = A} starts over (first ts) last ts ≡ Err (refusal_at last TooMany ts)
  full_by last [] comes none = absurd cc
  full_by last (t ∷ ts) comes none = rw (comes, none t) refl

  -- one too many, that passes no other limit
  pub one_too_many : (old : Cursor) → room ≡ 0 → next_passes starts old.ahead ≡ true → ((t : Lexeme) → over t ≡ None) → Failed (limited starts over room p) (Refused (refusal_at old.last TooMany old.ahead)) old old
  one_too_many old e comes none = without_room old (refusal_at old.last TooMany old.ahead) e (full_by old.last old.ahead comes none)
