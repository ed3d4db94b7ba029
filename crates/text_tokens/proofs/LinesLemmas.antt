-- Printed words read as a text of a grammar, part by part.
use Rattle.std.proofs.Common.{◌≡◌, ℕ, ◌<◌, ◌≤◌, Bool, true, List, [], ◌∷◌, ◌++◌, length, flat_map, Option, None, refl, sym, ap, subst, ◌∙◌, arith, append_assoc}
use Rattle.std.specs.Prelude.{◌^◌, decimal}
use Rattle.std.specs.Cmp.Derive.{both_true}
use Rattle.std.specs.Int.{IsInRange}
use Rattle.std.specs.List.{list_all}
use Rattle.std.specs.Str.{bytes_eq}
use Rattle.std.proofs.lemmas.List.{append-nil}
use Rattle.std.proofs.lemmas.Bool.Decides.{nat_tests}
use Rattle.std.proofs.lemmas.Bool.{and_parts}
use Rattle.std.proofs.lemmas.Str.Parse.{IsNumeralModel, IsDigitsTest, numerals_by_weight}
use Rattle.std.proofs.lemmas.Fmt.{digits_decimal, digits_value-decimal, length-decimal-le, decimal_nonempty}
use Rattle.text_tokens.specs.declared.token.TokenKind.{TokenKind}
use Rattle.text_tokens.specs.declared.token.TokenKind.TheVariants.{Word, Number, Sign}
use Rattle.text_tokens.specs.declared.refusal.Refusal.{Refusal}
use Rattle.text_tokens.specs.declared.refusal.RefusalKind.{RefusalKind}
use Rattle.text_tokens.specs.declared.refusal.RefusalKind.TheVariants.{Truncated}
use Rattle.text_tokens.specs.Text.{is_digit, Lexeme, AreTokens}
use Rattle.text_tokens.specs.Cursor.{is_the, is_kind, same_kind, number_value}
use Rattle.text_tokens.specs.Lines.{Words, lines_text}
use Rattle.text_tokens.specs.Reading.{is_number, lexeme_value}
use Rattle.text_tokens.specs.Grammar.{Symbol, symbol, first_fault, Lang, IsOne, is_one, Then, then, Made, made, IsThe, IsNumeral, is_judgement, Judged, Either, of_first, of_second, point, Repeated}
use Rattle.text_tokens.specs.Lawful.{IsWhole}
use Rattle.text_tokens.proofs.Symbols.{whole_two, whole_then}
use Rattle.text_tokens.proofs.RepeatedLemmas.{one_more_of}
use Rattle.text_tokens.proofs.PrintedTokens.{kind_of, AreSpelled, no_tokens, token_more, spelled_tokens, ArePrinted, none_printed, word_printed, LinesArePrinted, no_lines, line_printed, lines_spell, IsOneToken, one_printed, number_is_token, digit_kind}

-- ---- what is found

-- the tokens are a text of the grammar within its limits, and stand for something of which this holds
pub record Found {A : Type 0} (P : Lang A) (R : A → Type 0) (ts : List Lexeme) : Type 0 where
  pub value : A
  pub whole : IsWhole P ts value
  pub holds : R value

-- just this
abbrev pub Is : {A : Type 0} → A → A → Type 0
Is a b = b ≡ a

abbrev pub Any : {A : Type 0} → A → Type 0
Any a = Unit {0}

-- So are the tokens of these words, wherever they stand.
pub record Rereads {A : Type 0} (P : Lang A) (R : A → Type 0) (words : Words) : Type 0 where
  pub spelled : Words
  pub printed : ArePrinted words spelled
  pub read : (ts : List Lexeme) → AreSpelled ts spelled → Found P R ts

-- and of these lines
pub record RereadsLines {A : Type 0} (P : Lang A) (R : A → Type 0) (lines : List Words) : Type 0 where
  pub spelled : Words
  pub printed : LinesArePrinted lines spelled
  pub read : (ts : List Lexeme) → AreSpelled ts spelled → Found P R ts

-- ---- rows

pub printed_behind : (words more us vs : Words) → ArePrinted words us → ArePrinted more vs → ArePrinted (words ++ more) (us ++ vs)
printed_behind words more us vs none_printed q = q
printed_behind words more us vs (word_printed {w = w} {ws = ws} {words = others} {vs = ts} p ps) q =
    subst (λ (all : Words). ArePrinted (w ∷ others ++ more) all) (sym (append_assoc ws ts vs)) (word_printed p (printed_behind others more ts vs ps q))

pub lines_behind : (lines more : List Words) (us vs : Words) → LinesArePrinted lines us → LinesArePrinted more vs → LinesArePrinted (lines ++ more) (us ++ vs)
lines_behind lines more us vs no_lines q = q
lines_behind lines more us vs (line_printed {line = line} {ws = ws} {lines = others} {vs = ts} p ps) q =
    subst (λ (all : Words). LinesArePrinted (line ∷ others ++ more) all) (sym (append_assoc ws ts vs)) (line_printed p (lines_behind others more ts vs ps q))

-- where the tokens of the first row end
pub record Parted (us vs : Words) (ts : List Lexeme) : Type 0 where
  pub front : List Lexeme
  pub back : List Lexeme
  pub whole : ts ≡ front ++ back
  pub fronts : AreSpelled front us
  pub backs : AreSpelled back vs

pub parted : (us vs : Words) (ts : List Lexeme) → AreSpelled ts (us ++ vs) → Parted us vs ts
parted [] vs ts s = record { front = []; back = ts; whole = refl; fronts = no_tokens; backs = s }
parted (w ∷ us) vs ts (token_more {t = t} {ts = more} k b s) =
    let p = parted us vs more s in
    record { front = t ∷ p.front; back = p.back; whole = ap (λ (rest : List Lexeme). t ∷ rest) p.whole; fronts = token_more k b p.fronts; backs = p.backs }

-- ---- parts

-- a text of one grammar is one of another, for something else
pub found_by : {A B : Type 0} {P : Lang A} {Q : Lang B} {R : A → Type 0} {S : B → Type 0} (f : A → B) → ((xs : List Symbol) (a : A) → P xs a → Q xs (f a)) → ((a : A) → R a → S (f a)) → (ts : List Lexeme) → Found P R ts → Found Q S ts
found_by f is holds ts p = record {
  value = f p.value;
  whole = record { text = p.whole.text; is = is p.whole.text p.value p.whole.is; parts = p.whole.parts; fine = p.whole.fine };
  holds = holds p.value p.holds;
}

pub rereads_by : {A B : Type 0} {P : Lang A} {Q : Lang B} {R : A → Type 0} {S : B → Type 0} {words : Words} (f : A → B) → ((xs : List Symbol) (a : A) → P xs a → Q xs (f a)) → ((a : A) → R a → S (f a)) → Rereads P R words → Rereads Q S words
rereads_by f is holds p = record { spelled = p.spelled; printed = p.printed; read = λ ts s. found_by f is holds ts (p.read ts s) }

pub lines_by : {A B : Type 0} {P : Lang A} {Q : Lang B} {R : A → Type 0} {S : B → Type 0} {lines : List Words} (f : A → B) → ((xs : List Symbol) (a : A) → P xs a → Q xs (f a)) → ((a : A) → R a → S (f a)) → RereadsLines P R lines → RereadsLines Q S lines
lines_by f is holds p = record { spelled = p.spelled; printed = p.printed; read = λ ts s. found_by f is holds ts (p.read ts s) }

-- one behind the other
module _ {A B C : Type 0} {P : Lang A} {Q : A → Lang B} {G : Lang C} {R : A → Type 0} {S : A → B → Type 0} {T : C → Type 0} (f : A → B → C)
    (is : (xs ys : List Symbol) (a : A) (b : B) → P xs a → Q a ys b → G (xs ++ ys) (f a b)) (holds : (a : A) (b : B) → R a → S a b → T (f a b)) where
  found_two : (us vs : Words) → ((ts : List Lexeme) → AreSpelled ts us → Found P R ts) → ((a : A) → R a → (ts : List Lexeme) → AreSpelled ts vs → Found (Q a) (S a) ts) → (ts : List Lexeme) → AreSpelled ts (us ++ vs) → Found G T ts
  found_two us vs p q ts s =
      let c = parted us vs ts s in
      let a = p c.front c.fronts in
      let b = q a.value a.holds c.back c.backs in
      record { value = f a.value b.value; whole = whole_two f is c.front c.back ts a.value b.value c.whole a.whole b.whole; holds = holds a.value b.value a.holds b.holds }

-- two parts as any grammar puts them together
pub rereads_two : {A B C : Type 0} {P : Lang A} {Q : Lang B} {G : Lang C} {R : A → Type 0} {S : B → Type 0} {T : C → Type 0} {words more : Words} (f : A → B → C)
    → ((xs ys : List Symbol) (a : A) (b : B) → P xs a → Q ys b → G (xs ++ ys) (f a b)) → ((a : A) (b : B) → R a → S b → T (f a b)) → Rereads P R words → Rereads Q S more → Rereads G T (words ++ more)
rereads_two {words = words} {more = more} f is holds p q = record {
  spelled = p.spelled ++ q.spelled;
  printed = printed_behind words more p.spelled q.spelled p.printed q.printed;
  read = found_two f is holds p.spelled q.spelled p.read (λ a e. q.read);
}

module _ {A B : Type 0} {P : Lang A} {Q : A → Lang B} {R : A → Type 0} {S : B → Type 0} where
  pub behind_found : (us vs : Words) → ((ts : List Lexeme) → AreSpelled ts us → Found P R ts) → ((a : A) → R a → (ts : List Lexeme) → AreSpelled ts vs → Found (Q a) S ts) → (ts : List Lexeme) → AreSpelled ts (us ++ vs) → Found (Then P Q) S ts
  behind_found us vs p q = found_two {S = λ a. S} (λ a b. b) (λ xs ys a b x y. then a x y) (λ a b x y. y) us vs p q

  -- one part behind another, whose words do not depend on it
  pub rereads_behind : (words more : Words) → Rereads P R words → (spelled : Words) → ArePrinted more spelled → ((a : A) → R a → (ts : List Lexeme) → AreSpelled ts spelled → Found (Q a) S ts) → Rereads (Then P Q) S (words ++ more)
  rereads_behind words more p spelled printed q = record {
    spelled = p.spelled ++ spelled;
    printed = printed_behind words more p.spelled spelled p.printed printed;
    read = behind_found p.spelled spelled p.read q;
  }

  pub lines_behind_line : (lines more : List Words) → RereadsLines P R lines → (spelled : Words) → LinesArePrinted more spelled → ((a : A) → R a → (ts : List Lexeme) → AreSpelled ts spelled → Found (Q a) S ts) → RereadsLines (Then P Q) S (lines ++ more)
  lines_behind_line lines more p spelled printed q = record {
    spelled = p.spelled ++ spelled;
    printed = lines_behind lines more p.spelled spelled p.printed printed;
    read = behind_found p.spelled spelled p.read q;
  }

-- behind a part that stands for just this
pub rereads_then : {A B : Type 0} {P : Lang A} {Q : A → Lang B} {S : B → Type 0} (words more : Words) (a : A) → Rereads P (Is a) words → Rereads (Q a) S more → Rereads (Then P Q) S (words ++ more)
rereads_then {A} {Q = Q} {S = S} words more a p q = rereads_behind words more p q.spelled q.printed (λ b e ts s. subst (λ (x : A). Found (Q x) S ts) (sym e) (q.read ts s))

-- behind a part whatever it stands for
pub rereads_next : {A B : Type 0} {P : Lang A} {Q : Lang B} {R : A → Type 0} {S : B → Type 0} (words more : Words) → Rereads P R words → Rereads Q S more → Rereads (Then P (λ a. Q)) S (words ++ more)
rereads_next words more p q = rereads_behind words more p q.spelled q.printed (λ b e ts s. q.read ts s)

pub found_made : {A B : Type 0} {P : Lang A} {R : A → Type 0} {S : B → Type 0} (f : A → B) → ((a : A) → R a → S (f a)) → (ts : List Lexeme) → Found P R ts → Found (Made P f) S ts
found_made f h ts p = found_by f (λ xs a is. made a is) h ts p

pub rereads_made : {A B : Type 0} {P : Lang A} {R : A → Type 0} {S : B → Type 0} (f : A → B) (words : Words) → ((a : A) → R a → S (f a)) → Rereads P R words → Rereads (Made P f) S words
rereads_made f words h p = rereads_by f (λ xs a is. made a is) h p

pub lines_made : {A B : Type 0} {P : Lang A} {R : A → Type 0} {S : B → Type 0} (f : A → B) (lines : List Words) → ((a : A) → R a → S (f a)) → RereadsLines P R lines → RereadsLines (Made P f) S lines
lines_made f lines h p = lines_by f (λ xs a is. made a is) h p

-- made of just this
pub rereads_as : {A B : Type 0} {P : Lang A} (f : A → B) (words : Words) (a : A) → Rereads P (Is a) words → Rereads (Made P f) (Is (f a)) words
rereads_as f words a p = rereads_made f words (λ b e. ap f e) p

-- one of two
pub rereads_first : {A : Type 0} {P Q : Lang A} {R : A → Type 0} (words : Words) → Rereads P R words → Rereads (Either P Q) R words
rereads_first words p = rereads_by (λ a. a) (λ xs a is. of_first is) (λ a e. e) p

pub rereads_second : {A : Type 0} {P Q : Lang A} {R : A → Type 0} (words : Words) → Rereads Q R words → Rereads (Either P Q) R words
rereads_second words p = rereads_by (λ a. a) (λ xs a is. of_second is) (λ a e. e) p

-- a judgement that is no refusal
point_fine : (o : Option Refusal) → o ≡ None → first_fault (point o ∷ []) ≡ None
point_fine o e = rw e refl

pub found_judged : {A : Type 0} {P : Lang A} {R : A → Type 0} (wrong : A → Option Refusal) → ((a : A) → R a → wrong a ≡ None) → (ts : List Lexeme) → Found P R ts → Found (Judged P wrong) R ts
found_judged wrong none ts f = record {
  value = f.value;
  whole = whole_then ts [] ts f.value f.value (sym (append-nil ts)) f.whole (record { text = point (wrong f.value) ∷ []; is = is_judgement; parts = refl; fine = point_fine (wrong f.value) (none f.value f.holds) });
  holds = f.holds;
}

pub rereads_judged : {A : Type 0} {P : Lang A} {R : A → Type 0} (wrong : A → Option Refusal) (words : Words) → ((a : A) → R a → wrong a ≡ None) → Rereads P R words → Rereads (Judged P wrong) R words
rereads_judged wrong words none p = record { spelled = p.spelled; printed = p.printed; read = λ ts s. found_judged wrong none ts (p.read ts s) }

-- nothing
nothing_found : {A : Type 0} {P : Lang A} {R : A → Type 0} (a : A) → P [] a → R a → (ts : List Lexeme) → AreSpelled ts [] → Found P R ts
nothing_found a is holds ts no_tokens = record { value = a; whole = record { text = []; is = is; parts = refl; fine = refl }; holds = holds }

pub rereads_none : {A : Type 0} {P : Lang A} {R : A → Type 0} (a : A) → P [] a → R a → Rereads P R []
rereads_none a is holds = record { spelled = []; printed = none_printed; read = nothing_found a is holds }

pub rereads_nothing : {A : Type 0} {P : Lang A} (a : A) → P [] a → Rereads P (Is a) []
rereads_nothing a is = rereads_none a is refl

-- what holds of what is read is known with it
pub record AndHolds {A : Type 0} (P : Lang A) (R : A → Type 0) (xs : List Symbol) (a : A) : Type 0 where
  pub is : P xs a
  pub holds : R a

kept_found : {A : Type 0} {P : Lang A} {R : A → Type 0} (ts : List Lexeme) → Found P R ts → Found (AndHolds P R) R ts
kept_found ts f = record { value = f.value; whole = record { text = f.whole.text; is = record { is = f.whole.is; holds = f.holds }; parts = f.whole.parts; fine = f.whole.fine }; holds = f.holds }

pub rereads_kept : {A : Type 0} {P : Lang A} {R : A → Type 0} {words : Words} → Rereads P R words → Rereads (AndHolds P R) R words
rereads_kept p = record { spelled = p.spelled; printed = p.printed; read = λ ts s. kept_found ts (p.read ts s) }

-- nothing is behind it
pub rereads_alone : {A : Type 0} {P : Lang A} {R : A → Type 0} (words : Words) → Rereads P R (words ++ []) → Rereads P R words
rereads_alone {P = P} {R = R} words p = subst (λ (ws : Words). Rereads P R ws) (append-nil words) p

-- ---- single tokens

pub record IsSpelled (w : List ℕ) (t : Lexeme) : Type 0 where
  pub kind : t.kind ≡ kind_of w
  pub text : t.text ≡ w

symbol_fine : (t : Lexeme) (o : Option RefusalKind) → o ≡ None → first_fault (symbol t o ∷ []) ≡ None
symbol_fine t o e = rw e refl

pub one_found : {test : Lexeme → Bool} {over : Lexeme → Option RefusalKind} (w : List ℕ) → ((t : Lexeme) → IsSpelled w t → test t ≡ true) → ((t : Lexeme) → IsSpelled w t → over t ≡ None) → (ts : List Lexeme) → AreSpelled ts (w ∷ []) → Found (IsOne test over) (IsSpelled w) ts
one_found {test = test} {over = over} w passes fine ts (token_more {t = t} k b no_tokens) =
    let spelled : IsSpelled w t = record { kind = k; text = b } in
    record { value = t; whole = record { text = symbol t (over t) ∷ []; is = is_one t (passes t spelled); parts = refl; fine = symbol_fine t (over t) (fine t spelled) }; holds = spelled }

pub one_rereads : {A : Type 0} {P : Lang A} {R : A → Type 0} (w : List ℕ) → IsOneToken w → ((ts : List Lexeme) → AreSpelled ts (w ∷ []) → Found P R ts) → Rereads P R (w ∷ [])
one_rereads w is read = record { spelled = w ∷ []; printed = word_printed (one_printed w is) none_printed; read = read }

pub kind_passes : (kind : TokenKind) (t : Lexeme) → t.kind ≡ kind → is_kind kind t ≡ true
unfolding same_kind
kind_passes Word t e = rw e refl
kind_passes Number t e = rw e refl
kind_passes Sign t e = rw e refl

pub the_passes : (kind : TokenKind) (w : List ℕ) → kind_of w ≡ kind → bytes_eq w w ≡ true → (t : Lexeme) → IsSpelled w t → is_the kind w t ≡ true
the_passes kind w k e t s =
    let a : is_kind kind t ≡ true = kind_passes kind t (s.kind ∙ k) in
    let b : bytes_eq t.text w ≡ true = ap (λ (bs : List ℕ). bytes_eq bs w) s.text ∙ e in
    rw (a, b) refl

pub rereads_one : {test : Lexeme → Bool} {over : Lexeme → Option RefusalKind} (w : List ℕ) → IsOneToken w → ((t : Lexeme) → IsSpelled w t → test t ≡ true) → ((t : Lexeme) → over t ≡ None) → Rereads (IsOne test over) (IsSpelled w) (w ∷ [])
rereads_one w is passes fine = one_rereads w is (one_found w passes (λ t s. fine t))

-- this very token
pub the_found : (kind : TokenKind) (w : List ℕ) → kind_of w ≡ kind → bytes_eq w w ≡ true → (ts : List Lexeme) → AreSpelled ts (w ∷ []) → Found (IsThe (is_the kind w)) Any ts
the_found kind w k e ts s = found_made (λ (t : Lexeme). t.line) (λ t x. tt) ts (one_found w (the_passes kind w k e) (λ t x. refl) ts s)

pub rereads_the : (kind : TokenKind) (w : List ℕ) → IsOneToken w → kind_of w ≡ kind → bytes_eq w w ≡ true → Rereads (IsThe (is_the kind w)) Any (w ∷ [])
rereads_the kind w is k e = one_rereads w is (the_found kind w k e)

-- ---- numbers

digit_in : (c : ℕ) → is_digit c ≡ true → IsInRange 48 57 c
digit_in c e = grind (arith, nat_tests)

digit_from : (c : ℕ) → IsInRange 48 57 c → is_digit c ≡ true
digit_from c e = grind (arith, nat_tests)

digits_test : IsDigitsTest (λ ds. list_all is_digit ds ≡ true)
digits_test = record {
  empty = refl;
  parts = λ c cs e. (let p = and_parts (is_digit c) (list_all is_digit cs) e in (digit_in c p.0, p.1));
  more = λ c cs r e. both_true (digit_from c r) e;
}

digits_model : IsNumeralModel (λ ds. list_all is_digit ds ≡ true) number_value
digits_model = numerals_by_weight (λ ds. list_all is_digit ds ≡ true) digits_test number_value (record { empty = refl; more = λ c cs r. refl })

digits_token : (ds : List ℕ) → list_all is_digit ds ≡ true → 0 < length ds → length ds ≤ 9 → IsOneToken ds
digits_token [] e some few = absurd (omega arith)
digits_token (b ∷ bytes) e some few = let p = and_parts (is_digit b) (list_all is_digit bytes) e in number_is_token b bytes p.0 p.1 few

digits_kind : (ds : List ℕ) → list_all is_digit ds ≡ true → 0 < length ds → kind_of ds ≡ Number
digits_kind [] e some = absurd (omega arith)
digits_kind (b ∷ bytes) e some = digit_kind b bytes (and_parts (is_digit b) (list_all is_digit bytes) e).0

module _ (n : ℕ) (small : n < 10 ^ 9) where
  are_digits : list_all is_digit (decimal n) ≡ true
  are_digits = digits_decimal digits_model n (omega arith)

  pub number_token : IsOneToken (decimal n)
  number_token = digits_token (decimal n) are_digits (decimal_nonempty n (omega arith)) (length-decimal-le 9 n (omega arith) small (omega arith))

  pub number_kind : kind_of (decimal n) ≡ Number
  number_kind = digits_kind (decimal n) are_digits (decimal_nonempty n (omega arith))

  pub spelled_number : (t : Lexeme) → IsSpelled (decimal n) t → (is_number t ≡ true) × (lexeme_value t ≡ n)
  spelled_number t s = (kind_passes Number t (s.kind ∙ number_kind), ap number_value s.text ∙ digits_value-decimal digits_model n (omega arith))

  -- a number within its limit
  pub number_found : (over : Lexeme → Option RefusalKind) → ((t : Lexeme) → lexeme_value t ≡ n → over t ≡ None) → (ts : List Lexeme) → AreSpelled ts (decimal n ∷ []) → Found (IsNumeral over) (Is n) ts
  number_found over fine ts s = found_made lexeme_value (λ t x. (spelled_number t x).1) ts (one_found (decimal n) (λ t x. (spelled_number t x).0) (λ t x. fine t (spelled_number t x).1) ts s)

  pub rereads_number : (over : Lexeme → Option RefusalKind) → ((t : Lexeme) → lexeme_value t ≡ n → over t ≡ None) → Rereads (IsNumeral over) (Is n) (decimal n ∷ [])
  rereads_number over fine = one_rereads (decimal n) number_token (number_found over fine)

-- ---- lines and whole texts

pub reread_line : {A : Type 0} {P : Lang A} {R : A → Type 0} (words : Words) → Rereads P R words → RereadsLines P R (words ∷ [])
reread_line {P = P} {R = R} words p = record {
  spelled = p.spelled;
  printed = subst (λ (ws : Words). LinesArePrinted (words ∷ []) ws) (append-nil p.spelled) (line_printed p.printed no_lines);
  read = p.read;
}

-- the tokens of words, in lines
pub record Lined (words more spelled : Words) : Type 0 where
  pub ones : Words
  pub others : Words
  pub whole : spelled ≡ ones ++ others
  pub first : ArePrinted words ones
  pub second : ArePrinted more others

lined : (words more spelled : Words) → ArePrinted (words ++ more) spelled → Lined words more spelled
lined [] more spelled p = record { ones = []; others = spelled; whole = refl; first = none_printed; second = p }
lined (w ∷ words) more spelled (word_printed {ws = ws} {vs = vs} p ps) =
    let rest = lined words more vs ps in
    record { ones = ws ++ rest.ones; others = rest.others; whole = ap (λ (us : Words). ws ++ us) rest.whole ∙ sym (append_assoc ws rest.ones rest.others); first = word_printed p rest.first; second = rest.second }

lines_printed : (lines : List Words) (spelled : Words) → ArePrinted (flat_map (λ line. line) lines) spelled → LinesArePrinted lines spelled
lines_printed [] spelled none_printed = no_lines
lines_printed (line ∷ lines) spelled p =
    let parts = lined line (flat_map (λ line. line) lines) spelled p in
    subst (λ (us : Words). LinesArePrinted (line ∷ lines) us) (sym parts.whole) (line_printed parts.first (lines_printed lines parts.others parts.second))

pub reread_lines : {A : Type 0} {P : Lang A} {R : A → Type 0} (lines : List Words) → Rereads P R (flat_map (λ line. line) lines) → RereadsLines P R lines
reread_lines lines p = record { spelled = p.spelled; printed = lines_printed lines p.spelled p.printed; read = p.read }

-- whatever tokens the text of lines has, they are read so, and nothing stands behind them
pub lines_found : {A : Type 0} {P : Lang A} {R : A → Type 0} (lines : List Words) → RereadsLines P R lines → (ts : List Lexeme) (last : Refusal) → AreTokens (lines_text lines) 0 ts last → Found P R ts × (last.kind ≡ Truncated)
lines_found lines p ts last are = let s = spelled_tokens (lines_text lines) p.spelled (lines_spell lines p.spelled p.printed) ts last are in (p.read ts s.0, s.1)

-- ---- many

-- by other words for the texts
pub rereads_into : {A : Type 0} {P Q : Lang A} {R : A → Type 0} (words : Words) → ((xs : List Symbol) (a : A) → P xs a → Q xs a) → Rereads P R words → Rereads Q R words
rereads_into words into p = rereads_by (λ a. a) into (λ a e. e) p

pub lines_into : {A : Type 0} {P Q : Lang A} {R : A → Type 0} (lines : List Words) → ((xs : List Symbol) (a : A) → P xs a → Q xs a) → RereadsLines P R lines → RereadsLines Q R lines
lines_into lines into p = lines_by (λ a. a) into (λ a e. e) p

-- lines behind lines that stand for just this, and behind any
pub lines_then : {A B : Type 0} {P : Lang A} {Q : A → Lang B} {S : B → Type 0} (lines more : List Words) (a : A) → RereadsLines P (Is a) lines → RereadsLines (Q a) S more → RereadsLines (Then P Q) S (lines ++ more)
lines_then {A} {Q = Q} {S = S} lines more a p q = lines_behind_line lines more p q.spelled q.printed (λ b e ts s. subst (λ (x : A). Found (Q x) S ts) (sym e) (q.read ts s))

pub lines_next : {A B : Type 0} {P : Lang A} {Q : Lang B} {R : A → Type 0} {S : B → Type 0} (lines more : List Words) → RereadsLines P R lines → RereadsLines Q S more → RereadsLines (Then P (λ a. Q)) S (lines ++ more)
lines_next lines more p q = lines_behind_line lines more p q.spelled q.printed (λ b e ts s. q.read ts s)

-- no line
pub lines_nothing : {A : Type 0} {P : Lang A} (a : A) → P [] a → RereadsLines P (Is a) []
lines_nothing a is = record { spelled = []; printed = no_lines; read = nothing_found a is refl }

module _ {A S : Type 0} (E : S → Lang A) (step : S → A → S) (s : S) where
  pub more_of : (zs : List Symbol) (many : List A) → Then (E s) (λ a. Made (Repeated E step (step s a)) (λ rest. a ∷ rest)) zs many → Repeated E step s zs many
  more_of zs many (then {xs = xs} {ys = ys} a is m) = one_more_of E step s a xs ys many is m

  -- one more element
  pub rereads_more : (words more : Words) (a : A) (rest : List A) → Rereads (E s) (Is a) words → Rereads (Repeated E step (step s a)) (Is rest) more → Rereads (Repeated E step s) (Is (a ∷ rest)) (words ++ more)
  rereads_more words more a rest p q = rereads_into (words ++ more) more_of (rereads_then words more a p (rereads_as (λ rest. a ∷ rest) more rest q))

  pub lines_more : (lines more : List Words) (a : A) (rest : List A) → RereadsLines (E s) (Is a) lines → RereadsLines (Repeated E step (step s a)) (Is rest) more → RereadsLines (Repeated E step s) (Is (a ∷ rest)) (lines ++ more)
  lines_more lines more a rest p q = lines_into (lines ++ more) more_of (lines_then lines more a p (lines_made (λ rest. a ∷ rest) more (λ b e. ap (λ (rest : List A). a ∷ rest) e) q))
