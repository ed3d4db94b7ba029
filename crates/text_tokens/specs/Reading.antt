-- Readers: from left to right over a list of tokens, up to the first fault.
use Rattle.std.specs.Prelude.{ℕ, zero, suc, ◌+◌, Bool, false, if◌then◌else◌, nat_lt, List, [], ◌∷◌, length, Option, Some, None, Result, Ok, Err}
use Rattle.text_tokens.specs.declared.token.TokenKind.TheVariants.{Number}
use Rattle.text_tokens.specs.declared.refusal.Refusal.{Refusal}
use Rattle.text_tokens.specs.declared.refusal.RefusalKind.{RefusalKind}
use Rattle.text_tokens.specs.declared.refusal.RefusalKind.TheVariants.{Unexpected, TooDeep, TooMany}
use Rattle.text_tokens.specs.Text.{Lexeme}
use Rattle.text_tokens.specs.Cursor.{refusal_at, at_end, is_kind, number_value}

-- what was read and the tokens behind it, or the first fault
abbrev pub Answer : Type 0 → Type 0
Answer A = Result (A × List Lexeme) Refusal

-- a reader is given what is wrong behind the last token, and the tokens
abbrev pub Reader : Type 0 → Type 0
Reader A = Refusal → List Lexeme → Answer A

abbrev pub first : List Lexeme → Option Lexeme
first [] = None
first (t ∷ ts) = Some t

abbrev pub answer_and_then : {A B : Type 0} → Answer A → (A → List Lexeme → Answer B) → Answer B
answer_and_then (Ok p) f = f p.0 p.1
answer_and_then (Err r) f = Err r

-- one after the other
infixl 10 ◌>>=◌
abbrev pub ◌>>=◌ : {A B : Type 0} → Reader A → (A → Reader B) → Reader B
p >>= q = λ last ts. answer_and_then (p last ts) (λ a us. q a last us)

abbrev pub pure : {A : Type 0} → A → Reader A
pure a = λ last ts. Ok (a, ts)

-- ---- tokens

-- the next token does not belong there, or there is none
abbrev pub refuse : {A : Type 0} → Reader A
refuse = λ last ts. Err (refusal_at last Unexpected ts)

-- the next token is refused for this
abbrev pub stop : {A : Type 0} → RefusalKind → Reader A
stop kind = λ last ts. Err (refusal_at last kind ts)

abbrev pub within : Option RefusalKind → Lexeme → List Lexeme → Answer Lexeme
within None t ts = Ok (t, ts)
within (Some kind) t ts = Err (record { line = t.line; kind = kind })

-- one token that passes the test, unless it passes a limit
unfoldable pub one_within : (Lexeme → Bool) → (Lexeme → Option RefusalKind) → Reader Lexeme
one_within test over last [] = Err last
one_within test over last (t ∷ ts) =
    if test t then within (over t) t ts else Err (record { line = t.line; kind = Unexpected })

abbrev pub no_limit : Lexeme → Option RefusalKind
no_limit t = None

abbrev pub one : (Lexeme → Bool) → Reader Lexeme
one test = one_within test no_limit

abbrev pub deep_at : ℕ → Lexeme → Option RefusalKind
deep_at zero t = Some TooDeep
deep_at (suc n) t = None

-- a token that opens a level, where so many more may be opened
abbrev pub opening_token : ℕ → (Lexeme → Bool) → Reader Lexeme
opening_token levels test = one_within test (deep_at levels)

abbrev pub past_sum : (Lexeme → ℕ) → ℕ → ℕ → Lexeme → Option RefusalKind
past_sum weight most so_far t = if nat_lt most (so_far + weight t) then Some TooMany else None

-- a token whose weight is added to a sum, which has a limit
abbrev pub weighed : (Lexeme → Bool) → (Lexeme → ℕ) → ℕ → ℕ → Reader Lexeme
weighed test weight most so_far = one_within test (past_sum weight most so_far)

-- this token, for its line
unfoldable pub the_line : (Lexeme → Bool) → Reader ℕ
the_line test = one test >>= λ t. pure t.line

abbrev pub is_number : Lexeme → Bool
is_number = is_kind Number

abbrev pub lexeme_value : Lexeme → ℕ
lexeme_value t = number_value t.text

-- a number above the most is refused for this
abbrev pub too_large : ℕ → RefusalKind → Lexeme → Option RefusalKind
too_large most kind t = if nat_lt most (lexeme_value t) then Some kind else None

-- what a number stands for, unless it passes a limit
unfoldable pub numeral : (Lexeme → Option RefusalKind) → Reader ℕ
numeral over = one_within is_number over >>= λ t. pure (lexeme_value t)

-- a part up to a token that closes it
abbrev pub closed : {A : Type 0} → Reader A → (Lexeme → Bool) → Reader A
closed p closes = p >>= λ a. the_line closes >>= λ line. pure a

-- ---- judgements

-- behind what is whole: what is wrong with it, be it on the line of an earlier token
abbrev pub judge : {A : Type 0} → Option Refusal → A → Reader A
judge None a = pure a
judge (Some r) a = λ last ts. Err r

-- a whole, that is judged when it is complete
abbrev pub judged : {A : Type 0} → Reader A → (A → Option Refusal) → Reader A
judged p wrong = p >>= λ a. judge (wrong a) a

-- ---- choices

-- by the next token
abbrev pub choose : {A : Type 0} → (Option Lexeme → Reader A) → Reader A
choose by = λ last ts. by (first ts) last ts

-- there is a next token, and it passes the test
abbrev pub starts_at : (Lexeme → Bool) → Option Lexeme → Bool
starts_at starts None = false
starts_at starts (Some t) = starts t

-- the first where the next token passes the test, and else the second
unfoldable pub either : {A : Type 0} → (Lexeme → Bool) → Reader A → Reader A → Reader A
either starts p q = choose (λ next. if starts_at starts next then p else q)

-- a part that may be left out, which then stands for this
abbrev pub optional : {A : Type 0} → (Lexeme → Bool) → A → Reader A → Reader A
optional starts a p = either starts p (pure a)

abbrev pub role_at : {A K : Type 0} → (Lexeme → K) → (K → Reader A) → Option Lexeme → Reader A
role_at role p None = refuse
role_at role p (Some t) = p (role t)

-- by the role of the next token
unfoldable pub by_role : {A K : Type 0} → (Lexeme → K) → (K → Reader A) → Reader A
by_role role p = choose (role_at role p)

-- ---- limits on numbers

-- how a token is refused with which one too many begins:
-- of what else may be wrong with it only a level too deep comes before
abbrev pub past_kind : Option RefusalKind → RefusalKind
past_kind (Some TooDeep) = TooDeep
past_kind _ = TooMany

abbrev pub full_at : {A : Type 0} → (Lexeme → Bool) → (Lexeme → Option RefusalKind) → Option Lexeme → Reader A
full_at starts over None = refuse
full_at starts over (Some t) = if starts t then stop (past_kind (over t)) else refuse

-- a part, where so many may come
unfoldable pub limited : {A : Type 0} → (Lexeme → Bool)
    → (Lexeme → Option RefusalKind) → ℕ → Reader A → Reader A
limited starts over zero p = choose (full_at starts over)
limited starts over (suc room) p = p

-- ---- many

-- a part so many times
unfoldable pub times : {A : Type 0} → Reader A → ℕ → Reader (List A)
times p zero = pure []
times p (suc n) = p >>= λ a. times p n >>= λ rest. pure (a ∷ rest)

-- so many elements at most, as long as one begins
unfoldable pub elements : {A S : Type 0} → (Lexeme → Bool)
    → (S → Reader A) → (S → A → S) → ℕ → S → Reader (List A)
elements starts element step zero s = pure []
elements starts element step (suc n) s =
    either starts
    (element s >>= λ a. elements starts element step n (step s a) >>= λ rest. pure (a ∷ rest)) (pure [])

-- Elements as long as one begins, each with the state so far.
-- There are no more of them than tokens.
unfoldable pub repeated : {A S : Type 0} → (Lexeme → Bool)
    → (S → Reader A) → (S → A → S) → S → Reader (List A)
repeated starts element step s = λ last ts. elements starts element step (suc (length ts)) s last ts

abbrev pub less : ℕ → ℕ
less zero = zero
less (suc n) = n

-- a part any number of times, where so many may come
abbrev pub at_most : {A : Type 0} → (Lexeme → Bool)
    → (Lexeme → Option RefusalKind) → ℕ → Reader A → Reader (List A)
at_most starts over most p = repeated starts (λ room. limited starts over room p) (λ room a. less room) most

-- what stands behind a separator, and with which
abbrev pub behind_sign : {A S : Type 0} → (Lexeme → Bool) → (Lexeme → S → Reader A) → S → Reader A
behind_sign separates element s = one separates >>= λ sign. element sign s

-- A first part, and further ones behind a separator each, which may have a meaning.
-- The state starts from the first part and changes with each further one.
abbrev pub chained : {F A B S : Type 0} → Reader F → (Lexeme → Bool)
    → (Lexeme → S → Reader A) → (S → A → S) → (F → S)
    → (F → List A → B) → Reader B
chained p separates element step start whole =
    p >>= λ a. repeated separates (behind_sign separates element) step (start a) >>= λ more.
    pure (whole a more)

-- ---- readers that contain themselves

-- Parts that contain each other one level deeper, by the reader of one level
-- over those of the level below.
-- At level 0 none may be opened.
unfoldable pub by_levels : {K : Type 0} {A : K → Type 0}
    → (ℕ → ((k : K) → Reader (A k)) → (k : K) → Reader (A k)) → ℕ
    → (k : K) → Reader (A k)
by_levels level zero k = level zero (λ k. refuse) k
by_levels level (suc n) k = level (suc n) (by_levels level n) k

-- ---- whole inputs

abbrev pub and_end : {A : Type 0} → A → Result (Unit {0}) Refusal → Result A Refusal
and_end a (Ok u) = Ok a
and_end a (Err r) = Err r

abbrev pub end_of_input : {A : Type 0} → RefusalKind → Refusal → Answer A → Result A Refusal
end_of_input kind last (Ok r) = and_end r.0 (at_end kind last r.1)
end_of_input kind last (Err r) = Err r

-- a reader, and then the end of the input: a token behind is refused for this
abbrev pub whole_input : {A : Type 0} → RefusalKind → Reader A → Refusal → List Lexeme → Result A Refusal
whole_input kind p last ts = end_of_input kind last (p last ts)
