-- Tokens by their roles: each plays one, each role is played, and parts that are one token or end with one.
use Rattle.std.proofs.Common.{◌≡◌, ℕ, Bool, true, false, ◌||◌, [], ◌∷◌, ◌++◌, Option, None, refl, ap, ◌∙◌, rules}
use Rattle.std.specs.Prelude.{codes}
use denote.Enum.Bare.{same_true}
use Rattle.text_tokens.specs.declared.token.TokenKind.TheVariants.{Word, Number, Sign}
use Rattle.text_tokens.specs.declared.refusal.RefusalKind.{RefusalKind}
use Rattle.text_tokens.specs.Text.{Lexeme}
use Rattle.text_tokens.specs.Reading.{Reader, ◌>>=◌, pure, one_within, one, no_limit, deep_at}
use Rattle.text_tokens.specs.Grammar.{symbol, Lang, IsOne, is_one, Then, then, Made, made}
use Rattle.text_tokens.specs.Lawful.{IsPart, always, SomeText, Starts, Meets}
use Rattle.text_tokens.proofs.Parts.{part_less, part_one, part_after, part_before}
use Rattle.text_tokens.proofs.CarriedTexts.{part_made}
use Rattle.text_tokens.proofs.StartsLemmas.{starts_in, starts_some, starts_one, starts_made, starts_then}
use Rattle.text_tokens.proofs.LexemeLemmas.{passing}
use Rattle.action_tree.specs.contracts.role.Role.{the_type}
use Rattle.action_tree.specs.declared.role.Role.{Role}
use Rattle.action_tree.specs.declared.role.Role.TheVariants.{AName, ANumber, OpenSign, CloseSign, DotSign, PlusSign, MinusSign, CompareSign, BecomesSign, SemicolonSign, AtomWord, NotWord, AndWord, OrWord, QuantifierWord, TestWord, FreeWord, PortsWord, InWord, CountWord, SideWord, InnerWord, Mod6Word, EndWord, TurnWord, FirstWord, LetWord, IfWord, ThenWord, ElseWord, FiWord, ForWord, DoWord, OdWord, MoveWord, NoneWord, ThroughWord, ContractWord, ProgramWord, GuardWord, SwitchWord, VarWord, ActionWord, WhenWord, LastWord, Foreign}
use Rattle.action_tree.specs.Roles.{role, same_role, is_a, is_test, is_set, is_dirterm, is_plus_or_minus}
use Rattle.action_tree.specs.Expressions.{IsA, Opens}
use Rattle.action_tree.specs.ExpressionReaders.{begins_term}

-- ---- a token plays its role

same_self : (r : Role) → same_role r r ≡ true
unfolding same_role
same_self AName = refl
same_self _ = refl

pub plays : (r : Role) (t : Lexeme) → is_a r t ≡ true → role t ≡ r
unfolding same_role
plays r t e = same_true the_type (search rules) (role t) r e

pub is_in : (r : Role) (t : Lexeme) → role t ≡ r → is_a r t ≡ true
is_in r t e = ap (λ (q : Role). same_role q r) e ∙ same_self r

pub other_role : (r s : Role) (t : Lexeme) → same_role r s ≡ false → is_a r t ≡ true → is_a s t ≡ false
other_role r s t n e = ap (λ (q : Role). same_role q s) (plays r t e) ∙ n

-- ---- some token of each role

abbrev pub example : Role → Lexeme
example AName = passing Word (codes "a")
example ANumber = passing Number (codes "1")
example OpenSign = passing Sign (codes "(")
example CloseSign = passing Sign (codes ")")
example DotSign = passing Sign (codes ".")
example PlusSign = passing Sign (codes "+")
example MinusSign = passing Sign (codes "-")
example CompareSign = passing Sign (codes "=")
example BecomesSign = passing Sign (codes ":=")
example SemicolonSign = passing Sign (codes ";")
example AtomWord = passing Word (codes "true")
example NotWord = passing Word (codes "not")
example AndWord = passing Word (codes "and")
example OrWord = passing Word (codes "or")
example QuantifierWord = passing Word (codes "any")
example TestWord = passing Word (codes "linked")
example FreeWord = passing Word (codes "free")
example PortsWord = passing Word (codes "ports")
example InWord = passing Word (codes "in")
example CountWord = passing Word (codes "count")
example SideWord = passing Word (codes "dir")
example InnerWord = passing Word (codes "inner")
example Mod6Word = passing Word (codes "mod6")
example EndWord = passing Word (codes "head")
example TurnWord = passing Word (codes "turn")
example FirstWord = passing Word (codes "first")
example LetWord = passing Word (codes "let")
example IfWord = passing Word (codes "if")
example ThenWord = passing Word (codes "then")
example ElseWord = passing Word (codes "else")
example FiWord = passing Word (codes "fi")
example ForWord = passing Word (codes "for")
example DoWord = passing Word (codes "do")
example OdWord = passing Word (codes "od")
example MoveWord = passing Word (codes "move")
example NoneWord = passing Word (codes "none")
example ThroughWord = passing Word (codes "expand")
example ContractWord = passing Word (codes "contract")
example ProgramWord = passing Word (codes "program")
example GuardWord = passing Word (codes "guard")
example SwitchWord = passing Word (codes "on")
example VarWord = passing Word (codes "var")
example ActionWord = passing Word (codes "action")
example WhenWord = passing Word (codes "when")
example LastWord = passing Word (codes "end")
example Foreign = passing Word (codes "amoebot")

role_of : (r : Role) → role (example r) ≡ r
unfolding role
role_of AName = refl
role_of _ = refl

pub passes : (r : Role) → is_a r (example r) ≡ true
passes r = is_in r (example r) (role_of r)

pub passes_set : is_set (example PortsWord) ≡ true
unfolding role same_role
passes_set = refl

pub passes_dirterm : is_dirterm (example ANumber) ≡ true
unfolding role same_role
passes_dirterm = refl

pub passes_sign : is_plus_or_minus (example PlusSign) ≡ true
unfolding role same_role
passes_sign = refl

pub passes_test : is_test (example TestWord) ≡ true
unfolding role same_role
passes_test = refl

pub an_example : (r : Role) → IsA r (symbol (example r) None ∷ []) (example r)
an_example r = is_one (example r) (passes r)

pub an_opening : (r : Role) (n : ℕ) → Opens r n (symbol (example r) (deep_at n (example r)) ∷ []) (example r)
an_opening r n = is_one (example r) (passes r)

-- ---- with which tokens a part does not go on

abbrev pub ends : (Role → Bool) → Lexeme → Bool
ends stops t = stops (role t)

pub ends_at : (stops : Role → Bool) (r : Role) → stops r ≡ true → (t : Lexeme) → is_a r t ≡ true → ends stops t ≡ true
ends_at stops r e t f = ap stops (plays r t f) ∙ e

abbrev pub stops_term : Role → Bool
stops_term DotSign = false
stops_term _ = true

abbrev pub stops_sum : Role → Bool
stops_sum DotSign = false
stops_sum PlusSign = false
stops_sum MinusSign = false
stops_sum _ = true

abbrev pub stops_conj : Role → Bool
stops_conj AndWord = false
stops_conj r = stops_sum r

abbrev pub stops_expr : Role → Bool
stops_expr OrWord = false
stops_expr r = stops_conj r

pub sum_term : (r : Role) → stops_sum r ≡ true → stops_term r ≡ true
sum_term DotSign e = absurd cc
sum_term _ e = refl

pub conj_sum : (r : Role) → stops_conj r ≡ true → stops_sum r ≡ true
conj_sum AndWord e = refl
conj_sum _ e = e

pub expr_conj : (r : Role) → stops_expr r ≡ true → stops_conj r ≡ true
expr_conj OrWord e = refl
expr_conj _ e = e

pub sign_term : (r : Role) → (same_role r PlusSign || same_role r MinusSign) ≡ true → stops_term r ≡ true
unfolding same_role
sign_term DotSign e = absurd cc
sign_term _ e = refl

pub no_sign : (r : Role) → stops_sum r ≡ true → (same_role r PlusSign || same_role r MinusSign) ≡ false
unfolding same_role
no_sign PlusSign e = absurd cc
no_sign MinusSign e = absurd cc
no_sign _ e = refl

pub no_dot : (r : Role) → stops_term r ≡ true → same_role r DotSign ≡ false
unfolding same_role
no_dot DotSign e = absurd cc
no_dot _ e = refl

pub term_minus : (r : Role) → begins_term r ≡ true → same_role r MinusSign ≡ false
unfolding same_role
term_minus MinusSign e = absurd cc
term_minus _ e = refl

pub no_and : (r : Role) → stops_conj r ≡ true → same_role r AndWord ≡ false
unfolding same_role
no_and AndWord e = absurd cc
no_and _ e = refl

pub no_or : (r : Role) → stops_expr r ≡ true → same_role r OrWord ≡ false
unfolding same_role
no_or OrWord e = absurd cc
no_or _ e = refl

-- ---- some text

pub some_made : {A B : Type 0} (P : Lang A) (f : A → B) → SomeText P → SomeText (Made P f)
some_made P f some = record { text = some.text; whole = f some.whole; is = made some.whole some.is }

pub some_then : {A B : Type 0} (P : Lang A) (Q : A → Lang B) → SomeText P → ((a : A) → SomeText (Q a)) → SomeText (Then P Q)
some_then P Q some more = let s = some in let r = more s.whole in record { text = s.text ++ r.text; whole = r.whole; is = then s.whole s.is r.is }

pub some_a : (r : Role) → SomeText (IsA r)
some_a r = record { text = _; whole = example r; is = an_example r }

pub some_token : {B : Type 0} (r : Role) (f : Lexeme → B) → SomeText (Made (IsA r) f)
some_token r f = some_made (IsA r) f (some_a r)

pub some_behind : {B : Type 0} (r : Role) (over : Lexeme → Option RefusalKind) (Q : Lexeme → Lang B) → ((t : Lexeme) → SomeText (Q t)) → SomeText (Then (IsOne (is_a r) over) Q)
some_behind r over Q more = some_then (IsOne (is_a r) over) Q (record { text = _; whole = example r; is = is_one (example r) (passes r) }) more

-- ---- parts of one token

pub part_a : (r : Role) → IsPart (IsA r) (one (is_a r)) always
part_a r = part_one (is_a r) no_limit (example r) (passes r)

pub part_token : {B : Type 0} (r : Role) (f : Lexeme → B) → IsPart (Made (IsA r) f) (one (is_a r) >>= λ t. pure (f t)) always
part_token r f = part_made (IsA r) f (one (is_a r)) always (part_a r)

-- a token, and a part behind it
pub part_next : {B : Type 0} (r : Role) (over : Lexeme → Option RefusalKind) (Q : Lexeme → Lang B) (q : Lexeme → Reader B) (stop : Lexeme → Bool) → ((t : Lexeme) → SomeText (Q t)) → ((t : Lexeme) → over t ≡ None → IsPart (Q t) (q t) stop) → IsPart (Then (IsOne (is_a r) over) Q) (one_within (is_a r) over >>= q) stop
part_next r over Q q stop some part = part_after (is_a r) over (example r) (passes r) Q q stop some (λ t e fine. part t fine)

-- a token, and a part of which something is made
pub part_led : {A B : Type 0} (r : Role) (over : Lexeme → Option RefusalKind) (P : Lang A) (p : Reader A) (f : Lexeme → A → B) (stop : Lexeme → Bool) → SomeText P → ((t : Lexeme) → over t ≡ None → IsPart P p stop) → IsPart (Then (IsOne (is_a r) over) (λ t. Made P (f t))) (one_within (is_a r) over >>= λ t. p >>= λ a. pure (f t a)) stop
part_led r over P p f stop some part = part_next r over (λ t. Made P (f t)) (λ t. p >>= λ a. pure (f t a)) stop (λ t. some_made P (f t) some) (λ t fine. part_made P (f t) p stop (part t fine))

-- ---- a part, and a token behind it

pub meets : {B : Type 0} (Q : Lang B) (starts between stop : Lexeme → Bool) (over : Lexeme → Option RefusalKind) → Starts Q starts over → ((t : Lexeme) → starts t ≡ true → between t ≡ true) → Meets between Q stop
meets Q starts between stop over start fits = record { begins = λ xs b t is e. fits t (starts_in Q starts over start xs b t is e); empty = λ xs b t is e f. absurd (starts_some Q starts over start xs b is e) }

-- and a part behind that
pub part_joined : {A B : Type 0} (P : Lang A) (p : Reader A) (between : Lexeme → Bool) (r : Role) (Q : A → Lexeme → Lang B) (q : A → Lexeme → Reader B) (stop : Lexeme → Bool) → IsPart P p between → ((t : Lexeme) → is_a r t ≡ true → between t ≡ true) → ((a : A) (t : Lexeme) → SomeText (Q a t)) → ((a : A) (t : Lexeme) → IsPart (Q a t) (q a t) stop)
    → IsPart (Then P (λ a. Then (IsA r) (Q a))) (p >>= λ a. one (is_a r) >>= q a) stop
part_joined P p between r Q q stop part fits some more = part_before P p (λ a. Then (IsA r) (Q a)) (λ a. one (is_a r) >>= q a) between stop part
    (λ a. part_next r no_limit (Q a) (q a) stop (some a) (λ t fine. more a t))
    (λ a. meets (Then (IsA r) (Q a)) (is_a r) between stop no_limit (starts_then (IsA r) (Q a) (is_a r) no_limit (starts_one (is_a r) no_limit) (some a)) fits)

pub part_ended : {A B : Type 0} (P : Lang A) (p : Reader A) (between : Lexeme → Bool) (r : Role) (f : A → Lexeme → B) → IsPart P p between → ((t : Lexeme) → is_a r t ≡ true → between t ≡ true) → IsPart (Then P (λ a. Made (IsA r) (f a))) (p >>= λ a. one (is_a r) >>= λ t. pure (f a t)) always
part_ended P p between r f part fits = part_before P p (λ a. Made (IsA r) (f a)) (λ a. one (is_a r) >>= λ t. pure (f a t)) between always part
    (λ a. part_token r (f a))
    (λ a. meets (Made (IsA r) (f a)) (is_a r) between always no_limit (starts_made (IsA r) (f a) (is_a r) no_limit (starts_one (is_a r) no_limit)) fits)

pub some_ended : {A B : Type 0} (P : Lang A) (r : Role) (f : A → Lexeme → B) → SomeText P → SomeText (Then P (λ a. Made (IsA r) (f a)))
some_ended P r f some = some_then P (λ a. Made (IsA r) (f a)) some (λ a. some_token r (f a))

-- what halts before every token
pub part_any : {A : Type 0} (P : Lang A) (p : Reader A) (stop : Lexeme → Bool) → IsPart P p always → IsPart P p stop
part_any P p stop part = part_less P p always stop (λ t e. refl) part
