-- With which tokens the texts of a grammar begin.
use Rattle.std.proofs.Common.{◌≡◌, ℕ, zero, suc, Bool, true, List, [], ◌∷◌, ◌++◌, Option, Some, None, refl, sym, ap, subst, ◌∙◌, false, ◌||◌}
use Rattle.std.proofs.lemmas.Option.{same_Some}
use Rattle.std.proofs.lemmas.Bool.{or_left, or_right}
use Rattle.text_tokens.specs.declared.refusal.Refusal.{Refusal}
use Rattle.text_tokens.specs.declared.refusal.RefusalKind.{RefusalKind}
use Rattle.text_tokens.specs.Text.{Lexeme}
use Rattle.text_tokens.specs.Reading.{first, past_kind, no_limit}
use Rattle.text_tokens.specs.Grammar.{Symbol, symbol, refusal_of, with_token, tokens, Lang, IsOne, is_one, Then, then, Made, made, IsNothing, is_nothing, IsJudgement, is_judgement, Judged, Either, of_first, of_second, past_symbol, past, Limited, in_limit, one_too_many, Repeated, no_more, one_more}
use Rattle.text_tokens.specs.Lawful.{Next, GoesOn, SomeText, BeginsWith, SomeFrom, Starts, StartsIn, HasTokens, limit_at}
use Rattle.text_tokens.proofs.Symbols.{tokens-append}
use Rattle.text_tokens.proofs.Exactness.{tokens-token}

pub begins_tokens : (starts : Lexeme → Bool) (over : Lexeme → Option RefusalKind) (xs : List Symbol) (b : BeginsWith starts over xs) → tokens xs ≡ b.t ∷ tokens b.more
begins_tokens starts over xs b = ap tokens b.parts

-- the first token of a text up to a symbol of a token
pub first_at : (text : List Symbol) (x : Symbol) (more : List Symbol) (us : List Lexeme) (t : Lexeme) → x.token ≡ Some t → tokens text ≡ us → first (tokens (text ++ x ∷ more)) ≡ first (us ++ t ∷ tokens more)
first_at text x more us t e f = ap first (tokens-token text x more t e ∙ ap (λ (us : List Lexeme). us ++ t ∷ tokens more) f)

abbrev pub head_or : List Lexeme → Lexeme → Lexeme
head_or [] t = t
head_or (u ∷ us) t = u

pub first_head : (us : List Lexeme) (t : Lexeme) (rest : List Lexeme) → first (us ++ t ∷ rest) ≡ Some (head_or us t)
first_head [] t rest = refl
first_head (u ∷ us) t rest = refl

-- where the first symbol is a token's, the first symbol behind no token is it
pub front_token : (text : List Symbol) (x : Symbol) (more : List Symbol) (y : Symbol) (ys : List Symbol) (t : Lexeme) → y ∷ ys ≡ text ++ x ∷ more → y.token ≡ Some t → tokens text ≡ [] → x.token ≡ Some t
front_token [] x more y ys t e f g = let s : y ≡ x = cc in sym (ap (λ (x : Symbol). x.token) s) ∙ f
front_token (z ∷ text) x more y ys t e f g =
    let s : z ≡ y = cc in
    let h : t ∷ tokens text ≡ [] = ap (λ (o : Option Lexeme). with_token o (tokens text)) (sym (ap (λ (x : Symbol). x.token) s ∙ f)) ∙ g in absurd cc

-- ---- of a part

module _ {A : Type 0} (P : Lang A) (starts : Lexeme → Bool) (over : Lexeme → Option RefusalKind) (s : Starts P starts over) where
  pub starts_in : StartsIn P starts
  starts_in xs a t is e = let b = s.begins xs a is in ap starts (same_Some _ _ (sym e ∙ ap first (begins_tokens starts over xs b))) ∙ b.passes

  pub starts_some : HasTokens P
  starts_some xs a is e = let b = s.begins xs a is in let f : b.t ∷ tokens b.more ≡ [] = sym (begins_tokens starts over xs b) ∙ e in absurd cc

  pub starts_on : (t : Lexeme) → starts t ≡ true → GoesOn P [] t
  starts_on t e = let f = s.each t e in record { at = symbol t (over t); next = record { text = []; more = f.more; whole = f.whole; is = f.is; parts = refl; fine = refl }; token = refl }

  -- nothing is judged before the first token
  pub starts_place : (x : Symbol) → Next P [] x → x.token ≡ None → ⊥
  starts_place x n e =
      let b = s.begins (n.text ++ x ∷ n.more) n.whole n.is in
      let f : None ≡ Some b.t = sym e ∙ front_token n.text x n.more (symbol b.t (over b.t)) b.more b.t (sym b.parts) refl n.parts in absurd cc

-- by other words for the same tests
pub starts_as : {A : Type 0} (P R : Lang A) (starts : Lexeme → Bool) (over : Lexeme → Option RefusalKind) → ((xs : List Symbol) (a : A) → P xs a → R xs a) → ((xs : List Symbol) (a : A) → R xs a → P xs a) → Starts P starts over → Starts R starts over
starts_as P R starts over into back s = record {
  begins = λ xs a is. s.begins xs a (back xs a is);
  each = λ t e. let f = s.each t e in record { more = f.more; whole = f.whole; is = into (symbol t (over t) ∷ f.more) f.whole f.is };
}

-- ---- by the parts

pub starts_one : (test : Lexeme → Bool) (over : Lexeme → Option RefusalKind) → Starts (IsOne test over) test over
starts_one test over = record { begins = begins; each = λ t e. record { more = []; whole = t; is = is_one t e } }
  where
    begins : (xs : List Symbol) (t : Lexeme) → IsOne test over xs t → BeginsWith test over xs
    begins xs u (is_one t e) = record { t = t; more = []; parts = refl; passes = e }

pub starts_made : {A B : Type 0} (P : Lang A) (f : A → B) (starts : Lexeme → Bool) (over : Lexeme → Option RefusalKind) → Starts P starts over → Starts (Made P f) starts over
starts_made {B = B} P f starts over s = record { begins = begins; each = λ t e. let i = s.each t e in record { more = i.more; whole = f i.whole; is = made i.whole i.is } }
  where
    begins : (xs : List Symbol) (b : B) → Made P f xs b → BeginsWith starts over xs
    begins xs b (made a is) = s.begins xs a is

pub starts_then : {A B : Type 0} (P : Lang A) (Q : A → Lang B) (starts : Lexeme → Bool) (over : Lexeme → Option RefusalKind) → Starts P starts over → ((a : A) → SomeText (Q a)) → Starts (Then P Q) starts over
starts_then {B = B} P Q starts over s some = record { begins = begins; each = each }
  where
    begins : (zs : List Symbol) (b : B) → Then P Q zs b → BeginsWith starts over zs
    begins zs b (then {xs = xs} {ys = ys} a is m) = let i = s.begins xs a is in record { t = i.t; more = i.more ++ ys; parts = ap (λ (l : List Symbol). l ++ ys) i.parts; passes = i.passes }

    each : (t : Lexeme) → starts t ≡ true → SomeFrom (Then P Q) (symbol t (over t))
    each t e = let i = s.each t e in let r = some i.whole in record { more = i.more ++ r.text; whole = r.whole; is = then i.whole i.is r.is }

pub starts_judged : {A : Type 0} (P : Lang A) (wrong : A → Option Refusal) (starts : Lexeme → Bool) (over : Lexeme → Option RefusalKind) → Starts P starts over → Starts (Judged P wrong) starts over
starts_judged P wrong starts over s = starts_then P (λ a. IsJudgement (wrong a) a) starts over s (λ a. record { text = _; whole = a; is = is_judgement })

-- a text begins with the first token of one or the other
pub starts_either : {A : Type 0} (P Q : Lang A) (a b : Lexeme → Bool) → Starts P a no_limit → Starts Q b no_limit → Starts (Either P Q) (λ t. a t || b t) no_limit
starts_either {A} P Q a b s r = record { begins = begins; each = λ t e. each t (a t) refl e }
  where
    begins : (xs : List Symbol) (x : A) → Either P Q xs x → BeginsWith (λ t. a t || b t) no_limit xs
    begins xs x (of_first is) = let i = s.begins xs x is in record { t = i.t; more = i.more; parts = i.parts; passes = or_left (a i.t) (b i.t) i.passes }
    begins xs x (of_second is) = let i = r.begins xs x is in record { t = i.t; more = i.more; parts = i.parts; passes = or_right (a i.t) (b i.t) i.passes }

    each : (t : Lexeme) (x : Bool) → a t ≡ x → (x || b t) ≡ true → SomeFrom (Either P Q) (symbol t None)
    each t true f e = let i = s.each t f in record { more = i.more; whole = i.whole; is = of_first i.is }
    each t false f e = let i = r.each t e in record { more = i.more; whole = i.whole; is = of_second i.is }

-- how the first token is refused of one too many
past_is : (t : Lexeme) (o : Option RefusalKind) → past_symbol (Some t) (refusal_of t o) ≡ refusal_of t (Some (past_kind o))
past_is t None = refl
past_is t (Some kind) = refl

pub past_first : (t : Lexeme) (o : Option RefusalKind) (more : List Symbol) → past (symbol t o ∷ more) ≡ symbol t (Some (past_kind o)) ∷ more
past_first t o more = ap (λ (fault : Option Refusal). record { token = Some t; fault = fault } ∷ more) (past_is t o)

pub starts_limited : {A : Type 0} (P : Lang A) (starts : Lexeme → Bool) (over : Lexeme → Option RefusalKind) → Starts P starts over → (room : ℕ) → Starts (Limited P room) starts (limit_at over room)
starts_limited {A} P starts over s room = record { begins = begins room; each = each room }
  where
    begins : (room : ℕ) (xs : List Symbol) (a : A) → Limited P room xs a → BeginsWith starts (limit_at over room) xs
    begins room xs a (in_limit is) = let i = s.begins xs a is in record { t = i.t; more = i.more; parts = i.parts; passes = i.passes }
    begins room us a (one_too_many {xs = xs} is) = let i = s.begins xs a is in record { t = i.t; more = i.more; parts = ap past i.parts ∙ past_first i.t (over i.t) i.more; passes = i.passes }

    each : (room : ℕ) (t : Lexeme) → starts t ≡ true → SomeFrom (Limited P room) (symbol t (limit_at over room t))
    each zero t e = let i = s.each t e in record { more = i.more; whole = i.whole; is = subst (λ (xs : List Symbol). Limited P zero xs i.whole) (past_first t (over t) i.more) (one_too_many i.is) }
    each (suc room) t e = let i = s.each t e in record { more = i.more; whole = i.whole; is = in_limit i.is }

-- ---- the first token lies within a test

pub starts_in_more : {A : Type 0} (P : Lang A) (test other : Lexeme → Bool) → ((t : Lexeme) → test t ≡ true → other t ≡ true) → StartsIn P test → StartsIn P other
starts_in_more P test other more s xs a t is e = more t (s xs a t is e)

pub starts_in_made : {A B : Type 0} (P : Lang A) (f : A → B) (test : Lexeme → Bool) → StartsIn P test → StartsIn (Made P f) test
starts_in_made P f test s xs b t (made a is) e = s xs a t is e

pub starts_in_nothing : {A : Type 0} (a : A) (test : Lexeme → Bool) → StartsIn (IsNothing a) test
starts_in_nothing a test xs b t is_nothing e = absurd cc

pub starts_in_either : {A : Type 0} (P Q : Lang A) (test : Lexeme → Bool) → StartsIn P test → StartsIn Q test → StartsIn (Either P Q) test
starts_in_either P Q test s r xs a t (of_first is) e = s xs a t is e
starts_in_either P Q test s r xs a t (of_second is) e = r xs a t is e

-- the first token lies in the first part, or in the second
pub starts_in_then : {A B : Type 0} (P : Lang A) (Q : A → Lang B) (test : Lexeme → Bool) → StartsIn P test → ((a : A) → StartsIn (Q a) test) → StartsIn (Then P Q) test
starts_in_then P Q test s r zs b t (then {xs = xs} {ys = ys} a is m) e = by (tokens xs) refl
  where
    by : (us : List Lexeme) → tokens xs ≡ us → test t ≡ true
    by [] f = r a ys b t m (ap (λ (us : List Lexeme). first (us ++ tokens ys)) (sym f) ∙ ap first (sym (tokens-append xs ys)) ∙ e)
    by (u ∷ us) f = s xs a t is (ap first f ∙ ap (λ (us : List Lexeme). first (us ++ tokens ys)) (sym f) ∙ ap first (sym (tokens-append xs ys)) ∙ e)

pub starts_in_repeated : {A S : Type 0} (E : S → Lang A) (step : S → A → S) (test : Lexeme → Bool) → ((s : S) → StartsIn (E s) test) → (s : S) → StartsIn (Repeated E step s) test
starts_in_repeated E step test r s zs many t no_more e = absurd cc
starts_in_repeated E step test r s zs many t (one_more {xs = xs} {ys = ys} {rest = others} a is more) e = by (tokens xs) refl (λ f. starts_in_repeated E step test r (step s a) ys others t more f)
  where
    by : (us : List Lexeme) → tokens xs ≡ us → (first (tokens ys) ≡ Some t → test t ≡ true) → test t ≡ true
    by [] f rest = rest (ap (λ (us : List Lexeme). first (us ++ tokens ys)) (sym f) ∙ ap first (sym (tokens-append xs ys)) ∙ e)
    by (u ∷ us) f rest = r s xs a t is (ap first f ∙ ap (λ (us : List Lexeme). first (us ++ tokens ys)) (sym f) ∙ ap first (sym (tokens-append xs ys)) ∙ e)

-- ---- some token

pub right_empty : {A : Type 0} (xs ys : List A) → xs ++ ys ≡ [] → ys ≡ []
right_empty [] ys e = e
right_empty (x ∷ xs) ys e = absurd cc

-- where the second part has one
pub some_behind : {A B : Type 0} (P : Lang A) (Q : A → Lang B) → ((a : A) → HasTokens (Q a)) → HasTokens (Then P Q)
some_behind P Q some zs b (then {xs = xs} {ys = ys} a is m) e = some a ys b m (right_empty (tokens xs) (tokens ys) (sym (tokens-append xs ys) ∙ e))
