-- The scan of a text, step by step.
use Rattle.std.proofs.Common.{◌≡◌, ◌⊎◌, inl, inr, ℕ, zero, suc, ◌+◌, ◌<◌, ◌≤◌, Bool, true, false, cond, List, [], ◌∷◌, length, get_or, drop, Option, Result, Ok, Err, refl, sym, ap, ◌∙◌, arith, drop-cons, length-drop, add-one}
use Rattle.std.proofs.lemmas.Bool.Decides.{nat_tests}
use Rattle.std.proofs.lemmas.Iterator.{index_from_first}
use Rattle.std.proofs.lemmas.List.{drop_all}
use Rattle.std.proofs.lemmas.List.Sums.{prefix_len-le-length}
use Rattle.std.specs.List.{prefix_len, AllWithin, HoldsAt}
use Rattle.std.specs.Option.{MatchOption, unwrap_or}
use Rattle.std.specs.Prelude.{nat_lt, ◌==◌}
use Rattle.text_tokens.specs.declared.token.TokenKind.{TokenKind}
use Rattle.text_tokens.specs.declared.token.TokenKind.TheVariants.{Word, Number}
use Rattle.text_tokens.specs.declared.refusal.Refusal.{Refusal}
use Rattle.text_tokens.specs.declared.refusal.RefusalKind.{RefusalKind}
use Rattle.text_tokens.specs.declared.refusal.RefusalKind.TheVariants.{WordTooLong}
use Rattle.text_tokens.specs.Text.{Lexeme, is_letter, is_digit, is_word_byte, is_sign, most_bytes}
use Rattle.text_tokens.specs.Scan.{Piece, Between, LineFeed, Blank, Comment, Start, Input, between_at, skip_by, skip, ready, sign_len, sized, sign_of, front, lexeme, input_past, len_of, with_front, scan, fault_at, scan_end, ahead_of, last_of}

-- ---- blanks and comments

skip_cons : (inside : Bool) (at line : ℕ) (text : List ℕ) (i : ℕ) → i < length text
    → skip inside at line (drop i text) ≡ skip_by (between_at inside (get_or text i 0)) (skip false (at + 1) (line + 1) (drop (suc i) text)) (skip inside (at + 1) line (drop (suc i) text)) (skip true (at + 1) line (drop (suc i) text)) (record { text = drop i text; at = at; line = line })
unfolding skip
skip_cons inside at line text i lt = rw (drop-cons text i 0 lt) refl

-- one step of the loop
pub skip_at : (b : Between) (inside : Bool) (at line : ℕ) (text : List ℕ) (i : ℕ) → i < length text → between_at inside (get_or text i 0) ≡ b
    → skip inside at line (drop i text) ≡ skip_by b (skip false (at + 1) (line + 1) (drop (i + 1) text)) (skip inside (at + 1) line (drop (i + 1) text)) (skip true (at + 1) line (drop (i + 1) text)) (record { text = drop i text; at = at; line = line })
skip_at b inside at line text i lt e = rw (add-one i) (skip_cons inside at line text i lt ∙ rw e refl)

pub skip_end : (inside : Bool) (at line : ℕ) (text : List ℕ) (i : ℕ) → length text ≤ i → skip inside at line (drop i text) ≡ record { text = []; at = at; line = line }
unfolding skip
skip_end inside at line text i le = rw (drop_all i text le) refl

not_eq : (b k : ℕ) → (b ≡ k → ⊥) → (b == k) ≡ false
not_eq b k n = grind (arith, nat_tests)

-- ---- one step of the loops, by the byte at a place

-- a comment goes on
pub inside_at : (at line : ℕ) (text : List ℕ) (i : ℕ) → i < length text → (get_or text i 0 ≡ 10 → ⊥) → skip true at line (drop i text) ≡ skip true (at + 1) line (drop (i + 1) text)
inside_at at line text i lt n = skip_at Blank true at line text i lt (ap (λ b. cond b LineFeed Blank) (not_eq (get_or text i 0) 10 n))

-- a comment ends at a line feed, and with the text
pub outside_at : (at line : ℕ) (text : List ℕ) (i : ℕ) → i < length text → get_or text i 0 ≡ 10 → skip true at line (drop i text) ≡ skip false at line (drop i text)
outside_at at line text i lt is =
    let e : (inside : Bool) → between_at inside (get_or text i 0) ≡ LineFeed = λ inside. ap (between_at inside) is in
    skip_at LineFeed true at line text i lt (e true) ∙ sym (skip_at LineFeed false at line text i lt (e false))

pub outside_end : (at line : ℕ) (text : List ℕ) (i : ℕ) → length text ≤ i → skip true at line (drop i text) ≡ skip false at line (drop i text)
outside_end at line text i le = skip_end true at line text i le ∙ sym (skip_end false at line text i le)

-- outside a comment
pub line_feed_at : (at line : ℕ) (text : List ℕ) (i : ℕ) → i < length text → get_or text i 0 ≡ 10 → skip false at line (drop i text) ≡ skip false (at + 1) (line + 1) (drop (i + 1) text)
line_feed_at at line text i lt is = skip_at LineFeed false at line text i lt (ap (between_at false) is)

pub comment_at : (at line : ℕ) (text : List ℕ) (i : ℕ) → i < length text → get_or text i 0 ≡ 35 → skip false at line (drop i text) ≡ skip true (at + 1) line (drop (i + 1) text)
comment_at at line text i lt is = skip_at Comment false at line text i lt (ap (between_at false) is)

blank_by : (b : ℕ) → (b ≡ 9) ⊎ ((b ≡ 13) ⊎ (b ≡ 32)) → between_at false b ≡ Blank
blank_by b (inl is) = ap (between_at false) is
blank_by b (inr (inl is)) = ap (between_at false) is
blank_by b (inr (inr is)) = ap (between_at false) is

pub blank_at : (at line : ℕ) (text : List ℕ) (i : ℕ) → i < length text → (get_or text i 0 ≡ 9) ⊎ ((get_or text i 0 ≡ 13) ⊎ (get_or text i 0 ≡ 32)) → skip false at line (drop i text) ≡ skip false (at + 1) line (drop (i + 1) text)
blank_at at line text i lt is = skip_at Blank false at line text i lt (blank_by (get_or text i 0) is)

start_by : (b : ℕ) → (b ≡ 9 → ⊥) → (b ≡ 10 → ⊥) → (b ≡ 13 → ⊥) → (b ≡ 32 → ⊥) → (b ≡ 35 → ⊥) → between_at false b ≡ Start
start_by b tab feed return space hash = rw (not_eq b 10 feed, not_eq b 32 space, not_eq b 9 tab, not_eq b 13 return, not_eq b 35 hash) refl

pub start_at : (at line : ℕ) (text : List ℕ) (i : ℕ) → i < length text → (get_or text i 0 ≡ 9 → ⊥) → (get_or text i 0 ≡ 10 → ⊥) → (get_or text i 0 ≡ 13 → ⊥) → (get_or text i 0 ≡ 32 → ⊥) → (get_or text i 0 ≡ 35 → ⊥) → skip false at line (drop i text) ≡ record { text = drop i text; at = at; line = line }
start_at at line text i lt tab feed return space hash = skip_at Start false at line text i lt (start_by (get_or text i 0) tab feed return space hash)

shorter_by : (b : Between) (c : ℕ) (text : List ℕ) (at line : ℕ) (x y z : Input) → length x.text ≤ length text → length y.text ≤ length text → length z.text ≤ length text → length (skip_by b x y z (record { text = c ∷ text; at = at; line = line })).text ≤ suc (length text)
shorter_by LineFeed c text at line x y z p q r = omega arith
shorter_by Blank c text at line x y z p q r = omega arith
shorter_by Comment c text at line x y z p q r = omega arith
shorter_by Start c text at line x y z p q r = omega arith

skip_shorter : (text : List ℕ) (inside : Bool) (at line : ℕ) → length (skip inside at line text).text ≤ length text
unfolding skip
skip_shorter [] inside at line = omega arith
skip_shorter (b ∷ text) inside at line = shorter_by (between_at inside b) b text at line _ _ _ (skip_shorter text false (at + 1) (line + 1)) (skip_shorter text inside (at + 1) line) (skip_shorter text true (at + 1) line)

pub ready_shorter : (i : Input) → length (ready i).text ≤ length i.text
unfolding ready
ready_shorter i = skip_shorter i.text false i.at i.line

not_start : (t : Bool) → cond t LineFeed Blank ≡ Start → ⊥
not_start true e = absurd cc
not_start false e = absurd cc

pub start_outside : (inside : Bool) (b : ℕ) → between_at inside b ≡ Start → between_at false b ≡ Start
start_outside true b e = absurd (not_start (b == 10) e)
start_outside false b e = e

-- nothing is skipped at a place where a token begins
abbrev StaysAt : Input → Type 0
StaysAt i = skip false i.at i.line i.text ≡ i

stays : (b : ℕ) (text : List ℕ) (at line : ℕ) → between_at false b ≡ Start → StaysAt (record { text = b ∷ text; at = at; line = line })
unfolding skip
stays b text at line e = rw e refl

stays_by : (k : Between) (inside : Bool) (b : ℕ) (text : List ℕ) (at line : ℕ) (x y z : Input) → between_at inside b ≡ k → StaysAt x → StaysAt y → StaysAt z → StaysAt (skip_by k x y z (record { text = b ∷ text; at = at; line = line }))
stays_by LineFeed inside b text at line x y z e p q r = p
stays_by Blank inside b text at line x y z e p q r = q
stays_by Comment inside b text at line x y z e p q r = r
stays_by Start inside b text at line x y z e p q r = stays b text at line (start_outside inside b e)

skip_twice : (text : List ℕ) (inside : Bool) (at line : ℕ) → StaysAt (skip inside at line text)
unfolding skip
skip_twice [] inside at line = refl
skip_twice (b ∷ text) inside at line = stays_by (between_at inside b) inside b text at line _ _ _ refl (skip_twice text false (at + 1) (line + 1)) (skip_twice text inside (at + 1) line) (skip_twice text true (at + 1) line)

pub ready_twice : (i : Input) → ready (ready i) ≡ ready i
unfolding ready
ready_twice i = skip_twice i.text false i.at i.line

-- ---- the token at the front

-- where the first element lies that does not pass, or else the length, is how many pass from the front on
pub run_is : (p : ℕ → Bool) (xs : List ℕ) (n : ℕ) (r : Option ℕ) → n ≡ unwrap_or r (length xs)
    → MatchOption r (AllWithin (λ x. p x ≡ true) xs 0 (length xs)) (λ i. (i < length xs) × HoldsAt (λ x. p x ≡ false) xs i × AllWithin (λ x. p x ≡ true) xs 0 i)
    → n ≡ prefix_len p xs
run_is p xs n r e first =
    let more : (x : ℕ) (ys : List ℕ) → p x ≡ true → prefix_len p (x ∷ ys) ≡ prefix_len p ys + 1 = λ x ys t. ap (λ b. cond b (1 + prefix_len p ys) 0) t ∙ omega arith in
    e ∙ sym (index_from_first (prefix_len p) (λ x. p x ≡ false) (λ x. p x ≡ true) refl (λ x ys f. ap (λ b. cond b (1 + prefix_len p ys) 0) f) more xs r first)

-- it has a byte at least, and no more than there are
pub record Fits (text : List ℕ) (p : Piece) : Type 0 where
  pub some : 1 ≤ p.len
  pub within : p.len ≤ length text

letter_takes : (b : ℕ) (text : List ℕ) → is_letter b ≡ true → 1 ≤ prefix_len is_word_byte (b ∷ text)
letter_takes b text e = rw e (omega arith)

digit_takes : (b : ℕ) (text : List ℕ) → is_digit b ≡ true → 1 ≤ prefix_len is_digit (b ∷ text)
digit_takes b text e = rw e (omega arith)

sized_fits_by : (t : Bool) (text : List ℕ) (kind : TokenKind) (len : ℕ) (p : Piece) → 1 ≤ len → len ≤ length text → cond t (Err WordTooLong) (Ok (record { kind = kind; len = len })) ≡ Ok p → Fits text p
sized_fits_by true text kind len p le within e = absurd cc
sized_fits_by false text kind len p le within e = let h : len ≡ p.len = ap len_of e in record { some = omega arith; within = omega arith }

sized_fits : (text : List ℕ) (kind : TokenKind) (len : ℕ) (p : Piece) → 1 ≤ len → len ≤ length text → sized kind len ≡ Ok p → Fits text p
sized_fits text kind len p le within e = sized_fits_by (nat_lt (most_bytes kind) len) text kind len p le within e

sign_fits : (text : List ℕ) (len : ℕ) (p : Piece) → len ≤ length text → sign_of len ≡ Ok p → Fits text p
sign_fits text zero p le e = absurd cc
sign_fits text (suc n) p le e = let h : suc n ≡ p.len = ap len_of e in record { some = omega arith; within = omega arith }

one_at_most : (t : Bool) → cond t 1 0 ≤ 1
one_at_most true = omega arith
one_at_most false = omega arith

two_at_most : (s t : Bool) → cond s 2 (cond t 1 0) ≤ 2
two_at_most true t = omega arith
two_at_most false true = omega arith
two_at_most false false = omega arith

pub sign_len-le : (text : List ℕ) → sign_len text ≤ length text
unfolding sign_len
sign_len-le [] = omega arith
sign_len-le (a ∷ []) = one_at_most (is_sign (a ∷ []))
sign_len-le (a ∷ b ∷ text) = let h = two_at_most (is_sign (a ∷ b ∷ [])) (is_sign (a ∷ [])) in omega arith

digit_fits : (b : ℕ) (text : List ℕ) (p : Piece) (t : Bool) → is_digit b ≡ t → cond t (sized Number (prefix_len is_digit (b ∷ text))) (sign_of (sign_len (b ∷ text))) ≡ Ok p → Fits (b ∷ text) p
digit_fits b text p true h e = sized_fits (b ∷ text) Number _ p (digit_takes b text h) (prefix_len-le-length is_digit (b ∷ text)) e
digit_fits b text p false h e = sign_fits (b ∷ text) _ p (sign_len-le (b ∷ text)) e

letter_fits : (b : ℕ) (text : List ℕ) (p : Piece) (t : Bool) → is_letter b ≡ t → cond t (sized Word (prefix_len is_word_byte (b ∷ text))) (cond (is_digit b) (sized Number (prefix_len is_digit (b ∷ text))) (sign_of (sign_len (b ∷ text)))) ≡ Ok p → Fits (b ∷ text) p
letter_fits b text p true h e = sized_fits (b ∷ text) Word _ p (letter_takes b text h) (prefix_len-le-length is_word_byte (b ∷ text)) e
letter_fits b text p false h e = digit_fits b text p (is_digit b) refl e

pub front_fits : (text : List ℕ) (p : Piece) → front text ≡ Ok p → Fits text p
unfolding front
front_fits [] p e = absurd cc
front_fits (b ∷ text) p e = letter_fits b text p (is_letter b) refl e

-- ---- token after token

past_shorter : (i : Input) (p : Piece) → front i.text ≡ Ok p → length (input_past i (len_of (front i.text))).text < length i.text
past_shorter i p e =
    let f = front_fits i.text p e in
    let l : len_of (front i.text) ≡ p.len = ap len_of e in
    omega (arith, length-drop (len_of (front i.text)) i.text)

with_same : (i : Input) (f : Result Piece RefusalKind) (ls ms : List Lexeme) → ((p : Piece) → f ≡ Ok p → ls ≡ ms) → with_front i f ls ≡ with_front i f ms
with_same i (Ok p) ls ms h = ap (λ (xs : List Lexeme). lexeme i p ∷ xs) (h p refl)
with_same i (Err k) ls ms h = refl

scan_more : (m n : ℕ) (i : Input) → length i.text < m → length i.text < n → scan m i ≡ scan n i
unfolding scan
scan_more zero n i p q = absurd (omega arith)
scan_more (suc m) zero i p q = absurd (omega arith)
scan_more (suc m) (suc n) i p q = with_same (ready i) (front (ready i).text) _ _ (λ r e.
    let s = past_shorter (ready i) r e in
    let k = ready_shorter i in
    scan_more m n (input_past (ready i) (len_of (front (ready i).text))) (omega arith) (omega arith))

fault_same : (i : Input) (f : Result Piece RefusalKind) (x y : Refusal) → ((p : Piece) → f ≡ Ok p → x ≡ y) → fault_at i f x ≡ fault_at i f y
fault_same i (Ok p) x y h = h p refl
fault_same i (Err k) x y h = refl

end_more : (m n : ℕ) (i : Input) → length i.text < m → length i.text < n → scan_end m i ≡ scan_end n i
unfolding scan_end
end_more zero n i p q = absurd (omega arith)
end_more (suc m) zero i p q = absurd (omega arith)
end_more (suc m) (suc n) i p q = fault_same (ready i) (front (ready i).text) _ _ (λ r e.
    let s = past_shorter (ready i) r e in
    let k = ready_shorter i in
    end_more m n (input_past (ready i) (len_of (front (ready i).text))) (omega arith) (omega arith))

-- at a place where nothing is skipped
pub ahead_ok : (i : Input) (p : Piece) → ready i ≡ i → front i.text ≡ Ok p → ahead_of i ≡ lexeme i p ∷ ahead_of (input_past i p.len)
unfolding ahead_of scan
ahead_ok i p is e =
    let s : length (input_past i p.len).text < length i.text = rw e at (past_shorter i p e) in
    rw (is, e) (ap (λ (ls : List Lexeme). lexeme i p ∷ ls) (scan_more (length i.text) (suc (length (input_past i p.len).text)) (input_past i p.len) s (omega arith)))

pub ahead_err : (i : Input) (k : RefusalKind) → ready i ≡ i → front i.text ≡ Err k → ahead_of i ≡ []
unfolding ahead_of scan
ahead_err i k is e = rw (is, e) refl

pub last_ok : (i : Input) (p : Piece) → ready i ≡ i → front i.text ≡ Ok p → last_of i ≡ last_of (input_past i p.len)
unfolding last_of scan_end
last_ok i p is e =
    let s : length (input_past i p.len).text < length i.text = rw e at (past_shorter i p e) in
    rw (is, e) (end_more (length i.text) (suc (length (input_past i p.len).text)) (input_past i p.len) s (omega arith))

pub last_err : (i : Input) (k : RefusalKind) → ready i ≡ i → front i.text ≡ Err k → last_of i ≡ record { line = i.line; kind = k }
unfolding last_of scan_end
last_err i k is e = rw (is, e) refl

scan_ready : (n : ℕ) (i : Input) → scan (suc n) (ready i) ≡ scan (suc n) i
unfolding scan
scan_ready n i = rw (ready_twice i) refl

end_ready : (n : ℕ) (i : Input) → scan_end (suc n) (ready i) ≡ scan_end (suc n) i
unfolding scan_end
end_ready n i = rw (ready_twice i) refl

pub ahead_ready : (i : Input) → ahead_of (ready i) ≡ ahead_of i
unfolding ahead_of
ahead_ready i = let s = ready_shorter i in scan_more (suc (length (ready i).text)) (suc (length i.text)) (ready i) (omega arith) (omega arith) ∙ scan_ready (length i.text) i

pub last_ready : (i : Input) → last_of (ready i) ≡ last_of i
unfolding last_of
last_ready i = let s = ready_shorter i in end_more (suc (length (ready i).text)) (suc (length i.text)) (ready i) (omega arith) (omega arith) ∙ end_ready (length i.text) i
