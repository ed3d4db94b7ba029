-- What stands for something in texts without a refusal passes no limit.
use Rattle.std.proofs.Common.{◌≡◌, ℕ, zero, suc, ◌+◌, ◌<◌, ◌≤◌, Bool, List, [], ◌∷◌, ◌++◌, length, Option, Some, None, refl, sym, subst, arith}
use Rattle.std.specs.List.{All}
use Rattle.std.proofs.lemmas.List.Elements.{All-nil, All-cons}
use Rattle.text_tokens.specs.declared.refusal.Refusal.{Refusal}
use Rattle.text_tokens.specs.declared.refusal.RefusalKind.{RefusalKind}
use Rattle.text_tokens.specs.Text.{Lexeme}
use Rattle.text_tokens.specs.Reading.{no_limit, is_number, lexeme_value, less}
use Rattle.text_tokens.specs.Grammar.{Symbol, symbol, first_fault, Lang, IsOne, is_one, Then, then, Made, made, IsNumeral, Closed, IsThe, IsNothing, is_nothing, IsJudgement, is_judgement, Judged, Either, of_first, of_second, past, Limited, in_limit, one_too_many, Repeated, no_more, one_more, AtMost}
use Rattle.text_tokens.proofs.ListSplits.{fine-parts}

-- some text without a refusal stands for this
pub record Fine {A : Type 0} (P : Lang A) (a : A) : Type 0 where
  pub text : List Symbol
  pub is : P text a
  pub fine : first_fault text ≡ None

abbrev fine_text : {A : Type 0} {P : Lang A} {a : A} (xs : List Symbol) → P xs a → first_fault xs ≡ None → Fine P a
fine_text xs p e = record { text = xs; is = p; fine = e }

-- ---- parts

pub record Both {A B : Type 0} (P : Lang A) (Q : A → Lang B) (b : B) : Type 0 where
  pub value : A
  pub before : Fine P value
  pub behind : Fine (Q value) b

pub both_of : {A B : Type 0} {P : Lang A} {Q : A → Lang B} {b : B} → Fine (Then P Q) b → Both P Q b
both_of {A} {B} {P} {Q} {b} f = by f.text b f.is f.fine
  where
    by : (zs : List Symbol) (c : B) → Then P Q zs c → first_fault zs ≡ None → Both P Q c
    by zs c (then {xs = xs} {ys = ys} a p q) e = let g = fine-parts xs ys e in record { value = a; before = fine_text xs p g.0; behind = fine_text ys q g.1 }

pub record From {A B : Type 0} (P : Lang A) (f : A → B) (b : B) : Type 0 where
  pub value : A
  pub before : Fine P value
  pub same : f value ≡ b

pub made_of : {A B : Type 0} {P : Lang A} {f : A → B} {b : B} → Fine (Made P f) b → From P f b
made_of {A} {B} {P} {f} {b} m = by m.text b m.is m.fine
  where
    by : (zs : List Symbol) (c : B) → Made P f zs c → first_fault zs ≡ None → From P f c
    by zs c (made a p) e = record { value = a; before = fine_text zs p e; same = refl }

-- a part that is made into something, and what is behind it
pub record Step {A B C : Type 0} (P : Lang A) (f : A → B) (Q : B → Lang C) (c : C) : Type 0 where
  pub value : A
  pub before : Fine P value
  pub behind : Fine (Q (f value)) c

pub step_of : {A B C : Type 0} {P : Lang A} {f : A → B} {Q : B → Lang C} {c : C} → Fine (Then (Made P f) Q) c → Step P f Q c
step_of {A} {B} {C} {P} {f} {Q} {c} t =
    let b : Both (Made P f) Q c = both_of t in
    let m : From P f b.value = made_of b.before in
    record { value = m.value; before = m.before; behind = subst (λ (r : B). Fine (Q r) c) (sym m.same) b.behind }

pub closed_of : {A : Type 0} {P : Lang A} {closes : Lexeme → Bool} {a : A} → Fine (Closed P closes) a → Fine P a
closed_of {A} {P} {closes} {a} f =
    let b : Both P (λ a. Made (IsThe closes) (λ line. a)) a = both_of f in
    let m : From (IsThe closes) (λ line. b.value) a = made_of b.behind in
    subst (λ (c : A). Fine P c) m.same b.before

judgement : {A : Type 0} (wrong : Option Refusal) (a c : A) (xs : List Symbol) → IsJudgement wrong a xs c → first_fault xs ≡ None → (a ≡ c) × (wrong ≡ None)
judgement None a c xs is_judgement e = (refl, refl)
judgement (Some r) a c xs is_judgement e = absurd cc

pub judged_of : {A : Type 0} {P : Lang A} {wrong : A → Option Refusal} {a : A} → Fine (Judged P wrong) a → Fine P a × (wrong a ≡ None)
judged_of {A} {P} {wrong} {a} f =
    let b : Both P (λ a. IsJudgement (wrong a) a) a = both_of f in
    let j = judgement (wrong b.value) b.value a b.behind.text b.behind.is b.behind.fine in
    (subst (λ (c : A). Fine P c) j.0 b.before, subst (λ (c : A). wrong c ≡ None) j.0 j.1)

pub nothing_of : {A : Type 0} {s a : A} → Fine (IsNothing s) a → s ≡ a
nothing_of {A} {s} {a} f = by f.text a f.is
  where
    by : (zs : List Symbol) (c : A) → IsNothing s zs c → s ≡ c
    by zs c is_nothing = refl

pub either_of : {A : Type 0} {P Q : Lang A} {a : A} {G : Type 0} → (Fine P a → G) → (Fine Q a → G) → Fine (Either P Q) a → G
either_of {A} {P} {Q} {a} {G} one other f = by f.text a f.is f.fine one other
  where
    by : (zs : List Symbol) (c : A) → Either P Q zs c → first_fault zs ≡ None → (Fine P c → G) → (Fine Q c → G) → G
    by zs c (of_first p) e one other = one (fine_text zs p e)
    by zs c (of_second q) e one other = other (fine_text zs q e)

-- ---- tokens

pub none_passed : (t : Lexeme) (o : Option RefusalKind) → first_fault (symbol t o ∷ []) ≡ None → o ≡ None
none_passed t None e = refl
none_passed t (Some k) e = absurd cc

pub one_of : {test : Lexeme → Bool} {over : Lexeme → Option RefusalKind} {t : Lexeme} → Fine (IsOne test over) t → over t ≡ None
one_of {test} {over} {t} f = by f.text t f.is f.fine
  where
    by : (zs : List Symbol) (u : Lexeme) → IsOne test over zs u → first_fault zs ≡ None → over u ≡ None
    by zs u (is_one v passes) e = none_passed v (over v) e

pub record OfToken (over : Lexeme → Option RefusalKind) (n : ℕ) : Type 0 where
  pub t : Lexeme
  pub within : over t ≡ None
  pub is : lexeme_value t ≡ n

pub numeral_of : {over : Lexeme → Option RefusalKind} {n : ℕ} → Fine (IsNumeral over) n → OfToken over n
numeral_of {over} {n} f =
    let m : From (IsOne is_number over) lexeme_value n = made_of f in
    record { t = m.value; within = one_of m.before; is = m.same }

-- ---- many

module _ {A S : Type 0} {E : S → Lang A} {step : S → A → S} where
  pub all_of : (P : A → Type 0) → ((s : S) (a : A) → Fine (E s) a → P a) → {s : S} {items : List A} → Fine (Repeated E step s) items → All P items
  all_of P each {s} {items} f = by s f.text items f.is f.fine
    where
      by : (s : S) (zs : List Symbol) (items : List A) → Repeated E step s zs items → first_fault zs ≡ None → All P items
      by s zs items no_more e = All-nil P
      by s zs items (one_more {xs = xs} {ys = ys} {rest = rest} a p more) e = let g = fine-parts xs ys e in All-cons P a rest (each s a (fine_text xs p g.0)) (by (step s a) ys rest more g.1)

-- elements that are counted, each with room for it
pub counted_of : {A : Type 0} (E : ℕ → Lang A) (most : ℕ) → ((n : ℕ) (a : A) → Fine (E n) a → n < most) → (items : List A) → Fine (Repeated E (λ n a. suc n) 0) items → length items ≤ most
counted_of {A} E most each items f = let c : 0 + length items ≤ most = by 0 f.text items (omega arith) f.is f.fine in omega (arith, c)
  where
    by : (n : ℕ) (zs : List Symbol) (items : List A) → n ≤ most → Repeated E (λ n a. suc n) n zs items → first_fault zs ≡ None → n + length items ≤ most
    by n zs items le no_more e = omega arith
    by n zs items le (one_more {xs = xs} {ys = ys} {rest = rest} a p more) e =
        let g = fine-parts xs ys e in
        let room = each n a (fine_text xs p g.0) in
        omega (arith, by (suc n) ys rest (omega arith) more g.1)

-- one too many of what begins with a token is refused
past_one : {test : Lexeme → Bool} (xs ys : List Symbol) (t : Lexeme) → IsOne test no_limit xs t → first_fault (past (xs ++ ys)) ≡ None → ⊥
past_one xs ys t (is_one u passes) e = absurd cc

past_first : {A : Type 0} {test : Lexeme → Bool} {Q : Lexeme → Lang A} (zs : List Symbol) (a : A) → Then (IsOne test no_limit) Q zs a → first_fault (past zs) ≡ None → ⊥
past_first zs a (then {xs = xs} {ys = ys} t p q) e = past_one xs ys t p e

some_room : {A : Type 0} {test : Lexeme → Bool} {Q : Lexeme → Lang A} (room : ℕ) (zs : List Symbol) (a : A) → Limited (Then (IsOne test no_limit) Q) room zs a → first_fault zs ≡ None → (n : ℕ) × (room ≡ suc n)
some_room room zs a (in_limit {room = n} p) e = (n, refl)
some_room room zs a (one_too_many {xs = xs} p) e = absurd (past_first xs a p e)

room_by : {A : Type 0} {test : Lexeme → Bool} {Q : Lexeme → Lang A} (room : ℕ) (zs : List Symbol) (items : List A) → Repeated (λ room. Limited (Then (IsOne test no_limit) Q) room) (λ room a. less room) room zs items → first_fault zs ≡ None → length items ≤ room
room_by room zs items no_more e = omega arith
room_by zero zs items (one_more {xs = xs} {ys = ys} {rest = rest} a p more) e = let g = fine-parts xs ys e in let r = some_room zero xs a p g.0 in let no : 0 ≡ suc r.0 = r.1 in absurd cc
room_by (suc n) zs items (one_more {xs = xs} {ys = ys} {rest = rest} a p more) e = let g = fine-parts xs ys e in omega (arith, room_by n ys rest more g.1)

pub at_most_of : {A : Type 0} {test : Lexeme → Bool} {Q : Lexeme → Lang A} (most : ℕ) {items : List A} → Fine (AtMost most (Then (IsOne test no_limit) Q)) items → length items ≤ most
at_most_of most {items} f = room_by most f.text items f.is f.fine
