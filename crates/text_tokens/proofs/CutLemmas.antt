-- One token, by the scan and by the definition.
use Rattle.std.proofs.Common.{◌≡◌, ℕ, suc, ◌+◌, ◌≤◌, Bool, true, false, cond, List, [], ◌∷◌, ◌++◌, length, take, drop, Ok, Err, refl, sym, ap, subst, ◌∙◌, arith}
use Rattle.std.proofs.lemmas.List.Prefix.{front_fits}
use Rattle.std.proofs.lemmas.List.Sums.{prefix_len-le-length}
use Rattle.std.proofs.lemmas.Bool.{ltb-false, and_parts}
use Rattle.std.specs.List.{list_all, count_by, prefix_len}
use Rattle.std.specs.Prelude.{◌==◌, ◌||◌, nat_lt, codes, if◌then◌else◌}
use Rattle.std.proofs.lemmas.Bool.Decides.{nat_tests}
use Rattle.text_tokens.specs.declared.token.TokenKind.{TokenKind}
use Rattle.text_tokens.specs.declared.token.TokenKind.TheVariants.{Word, Number, Sign}
use Rattle.text_tokens.specs.declared.refusal.RefusalKind.TheVariants.{BadByte, WordTooLong, Truncated}
use Rattle.text_tokens.specs.Text.{is_letter, is_digit, is_word_byte, is_one_of, is_sign, StopsRun, IsLongestSign, Cuts, word, number, sign, BeginsNoToken, most_bytes, is_in_line}
use Rattle.text_tokens.specs.Scan.{Piece, sign_len, sized, sign_of, front}
use Rattle.text_tokens.proofs.Blanks.{in_line}

-- ---- runs of bytes that pass a test

module _ (test : ℕ → Bool) where
  pub run_len : (bytes rest : List ℕ) → list_all test bytes ≡ true → StopsRun test rest → prefix_len test (bytes ++ rest) ≡ length bytes
  run_len [] [] e s = refl
  run_len [] (b ∷ rest) e s = rw s refl
  run_len (b ∷ bytes) rest e s =
      let a = and_parts (test b) (list_all test bytes) e in
      rw (a.0, run_len bytes rest a.1 s) (omega arith)

  run_all_by : (b : ℕ) (text : List ℕ) (t : Bool) → test b ≡ t → list_all test (take (prefix_len test text) text) ≡ true → list_all test (take (cond t (1 + prefix_len test text) 0) (b ∷ text)) ≡ true
  run_all_by b text true e h = let n : 1 + prefix_len test text ≡ suc (prefix_len test text) = omega arith in rw (n, e) h
  run_all_by b text false e h = refl

  pub run_all : (text : List ℕ) → list_all test (take (prefix_len test text) text) ≡ true
  run_all [] = refl
  run_all (b ∷ text) = run_all_by b text (test b) refl (run_all text)

  run_stops_by : (b : ℕ) (text : List ℕ) (t : Bool) → test b ≡ t → StopsRun test (drop (prefix_len test text) text) → StopsRun test (drop (cond t (1 + prefix_len test text) 0) (b ∷ text))
  run_stops_by b text true e h = let n : 1 + prefix_len test text ≡ suc (prefix_len test text) = omega arith in rw n h
  run_stops_by b text false e h = e

  pub run_stops : (text : List ℕ) → StopsRun test (drop (prefix_len test text) text)
  run_stops [] = tt
  run_stops (b ∷ text) = run_stops_by b text (test b) refl (run_stops text)

-- ---- signs

-- what each of some bytes passes
pub one_of_passes : (test : ℕ → Bool) (bytes : List ℕ) (b : ℕ) → list_all test bytes ≡ true → is_one_of bytes b ≡ true → test b ≡ true
one_of_passes test [] b h e = absurd cc
one_of_passes test (c ∷ bytes) b h e =
    let a = and_parts (test c) (list_all test bytes) h in
    one_by test c bytes b (b == c) refl a.0 (λ f. one_of_passes test bytes b a.1 f) e
  where
    one_by : (test : ℕ → Bool) (c : ℕ) (bytes : List ℕ) (b : ℕ) (t : Bool) → (b == c) ≡ t → test c ≡ true → (is_one_of bytes b ≡ true → test b ≡ true) → (t || is_one_of bytes b) ≡ true → test b ≡ true
    one_by test c bytes b true is p q e = let s : c ≡ b = grind (arith, nat_tests) in subst (λ (x : ℕ). test x ≡ true) s p
    one_by test c bytes b false is p q e = q e

abbrev no_word : ℕ → Bool
no_word b = if is_letter b then false else (if is_digit b then false else true)

word_by : (p q : Bool) → cond p false (cond q false true) ≡ true → (p ≡ false) × (q ≡ false)
word_by true q e = absurd cc
word_by false true e = absurd cc
word_by false false e = (refl, refl)

no_word_is : (b : ℕ) → no_word b ≡ true → (is_letter b ≡ false) × (is_digit b ≡ false)
no_word_is b e = word_by (is_letter b) (is_digit b) e

sign_first : (a : ℕ) (bytes : List ℕ) → is_sign (a ∷ bytes) ≡ true → (is_letter a ≡ false) × (is_digit a ≡ false)
sign_first a [] e = no_word_is a (one_of_passes no_word (codes "().;=<>+-") a refl e)
sign_first a (b ∷ []) e = no_word_is a (one_of_passes no_word (codes "!<>:") a refl (and_parts (b == 61) (is_one_of (codes "!<>:") a) e).1)
sign_first a (b ∷ c ∷ bytes) e = absurd cc

pub sign_short : (bytes : List ℕ) → is_sign bytes ≡ true → length bytes ≤ 2
sign_short [] e = absurd cc
sign_short (a ∷ []) e = omega arith
sign_short (a ∷ b ∷ []) e = omega arith
sign_short (a ∷ b ∷ c ∷ bytes) e = absurd cc

-- ---- the definition gives what the scan gives

digit_no_letter : (b : ℕ) → is_digit b ≡ true → is_letter b ≡ false
digit_no_letter b e = grind (arith, nat_tests)

letter_front : (b : ℕ) (text : List ℕ) → is_letter b ≡ true → front (b ∷ text) ≡ sized Word (prefix_len is_word_byte (b ∷ text))
unfolding front
letter_front b text e = ap (λ (t : Bool). cond t (sized Word (prefix_len is_word_byte (b ∷ text))) (cond (is_digit b) (sized Number (prefix_len is_digit (b ∷ text))) (sign_of (sign_len (b ∷ text))))) e

pub digit_front : (b : ℕ) (text : List ℕ) → is_digit b ≡ true → front (b ∷ text) ≡ sized Number (prefix_len is_digit (b ∷ text))
unfolding front
digit_front b text e =
    ap (λ (t : Bool). cond t (sized Word (prefix_len is_word_byte (b ∷ text))) (cond (is_digit b) (sized Number (prefix_len is_digit (b ∷ text))) (sign_of (sign_len (b ∷ text))))) (digit_no_letter b e)
    ∙ ap (λ (t : Bool). cond t (sized Number (prefix_len is_digit (b ∷ text))) (sign_of (sign_len (b ∷ text)))) e

word_front : (b : ℕ) (bytes rest : List ℕ) → is_letter b ≡ true → list_all is_word_byte bytes ≡ true → StopsRun is_word_byte rest → front (b ∷ (bytes ++ rest)) ≡ sized Word (suc (length bytes))
word_front b bytes rest e h s =
    let l : list_all is_word_byte (b ∷ bytes) ≡ true = rw e h in
    letter_front b (bytes ++ rest) e ∙ ap (sized Word) (run_len is_word_byte (b ∷ bytes) rest l s)

number_front : (b : ℕ) (bytes rest : List ℕ) → is_digit b ≡ true → list_all is_digit bytes ≡ true → StopsRun is_digit rest → front (b ∷ (bytes ++ rest)) ≡ sized Number (suc (length bytes))
number_front b bytes rest e h s =
    let l : list_all is_digit (b ∷ bytes) ≡ true = rw e h in
    digit_front b (bytes ++ rest) e ∙ ap (sized Number) (run_len is_digit (b ∷ bytes) rest l s)

one_sign_by : (a c : ℕ) (rest : List ℕ) (t : Bool) → is_sign (a ∷ c ∷ []) ≡ t → IsLongestSign (a ∷ []) (c ∷ rest) → t ≡ false
one_sign_by a c rest true e longest = let h : 2 ≤ 1 = longest (a ∷ c ∷ []) rest e refl in absurd (omega arith)
one_sign_by a c rest false e longest = refl

sign_front : (bytes rest : List ℕ) → is_sign bytes ≡ true → IsLongestSign bytes rest → front (bytes ++ rest) ≡ sized Sign (length bytes)
unfolding front sign_len
sign_front [] rest e longest = absurd cc
sign_front (a ∷ []) [] e longest = let f = sign_first a [] e in rw (f.0, f.1, e) refl
sign_front (a ∷ []) (c ∷ rest) e longest = let f = sign_first a [] e in rw (f.0, f.1, one_sign_by a c rest (is_sign (a ∷ c ∷ [])) refl longest, e) refl
sign_front (a ∷ b ∷ []) rest e longest = let f = sign_first a (b ∷ []) e in rw (f.0, f.1, e) refl
sign_front (a ∷ b ∷ c ∷ bytes) rest e longest = absurd cc

pub cut_front : (kind : TokenKind) (bytes rest : List ℕ) → Cuts kind bytes rest → front (bytes ++ rest) ≡ sized kind (length bytes)
cut_front kind bytes rest (word {b = b} {bytes = more} e h s) = word_front b more rest e h s
cut_front kind bytes rest (number {b = b} {bytes = more} e h s) = number_front b more rest e h s
cut_front kind bytes rest (sign e longest) = sign_front bytes rest e longest

-- ---- the scan gives what the definition allows

-- what stands at the front of a text
pub data Front (text : List ℕ) : Type 0 where
  at_end : text ≡ [] → Front text
  no_token : BeginsNoToken text → front text ≡ Err BadByte → 1 ≤ length text → Front text
  cut : (kind : TokenKind) (len : ℕ) → Cuts kind (take len text) (drop len text) → len ≤ length text → front text ≡ sized kind len → Front text

sized_not_bad : (t : Bool) (p : Piece) → cond t (Err WordTooLong) (Ok p) ≡ Err BadByte → ⊥
sized_not_bad true p e = absurd cc
sized_not_bad false p e = absurd cc

begins_none : (text : List ℕ) → front text ≡ Err BadByte → BeginsNoToken text
begins_none text e = λ kind bytes rest c same. sized_not_bad (nat_lt (most_bytes kind) (length bytes)) _ (sym (cut_front kind bytes rest c) ∙ ap front (sym same) ∙ e)

bad : (a : ℕ) (text : List ℕ) → front (a ∷ text) ≡ Err BadByte → Front (a ∷ text)
bad a text e = no_token (begins_none (a ∷ text) e) e (omega arith)

one_only : (a b : ℕ) (text other more : List ℕ) → is_sign (a ∷ b ∷ []) ≡ false → is_sign other ≡ true → a ∷ b ∷ text ≡ other ++ more → length other ≤ 1
one_only a b text [] more n e same = absurd cc
one_only a b text (x ∷ []) more n e same = omega arith
one_only a b text (x ∷ y ∷ []) more n e same =
    let p : x ≡ a = cc in let q : y ≡ b = cc in
    let f : true ≡ false = sym e ∙ ap (λ (z : ℕ). is_sign (z ∷ y ∷ [])) p ∙ ap (λ (z : ℕ). is_sign (a ∷ z ∷ [])) q ∙ n in absurd cc
one_only a b text (x ∷ y ∷ z ∷ other) more n e same = absurd cc

module _ (a : ℕ) (l : is_letter a ≡ false) (d : is_digit a ≡ false) where
  last_sign : (t : Bool) → is_sign (a ∷ []) ≡ t → Front (a ∷ [])
  unfolding front sign_len
  last_sign true e = cut Sign 1 (sign e (λ other more s same. front_fits (a ∷ []) other more same)) (omega arith) (rw (l, d, e) refl)
  last_sign false e = bad a [] (rw (l, d, e) refl)

  one_sign : (b : ℕ) (text : List ℕ) (t : Bool) → is_sign (a ∷ b ∷ []) ≡ false → is_sign (a ∷ []) ≡ t → Front (a ∷ b ∷ text)
  unfolding front sign_len
  one_sign b text true n e = cut Sign 1 (sign e (λ other more s same. one_only a b text other more n s same)) (omega arith) (rw (l, d, n, e) refl)
  one_sign b text false n e = bad a (b ∷ text) (rw (l, d, n, e) refl)

  two_signs : (b : ℕ) (text : List ℕ) (t : Bool) → is_sign (a ∷ b ∷ []) ≡ t → Front (a ∷ b ∷ text)
  unfolding front sign_len
  two_signs b text true e = cut Sign 2 (sign e (λ other more s same. sign_short other s)) (omega arith) (rw (l, d, e) refl)
  two_signs b text false e = one_sign b text (is_sign (a ∷ [])) e refl

  some_sign : (text : List ℕ) → Front (a ∷ text)
  some_sign [] = last_sign (is_sign (a ∷ [])) refl
  some_sign (b ∷ text) = two_signs b text (is_sign (a ∷ b ∷ [])) refl

word_at : (b : ℕ) (text : List ℕ) → is_letter b ≡ true → Front (b ∷ text)
word_at b text e =
    let n : prefix_len is_word_byte (b ∷ text) ≡ suc (prefix_len is_word_byte text) = (let w : is_word_byte b ≡ true = rw e refl in rw w (omega arith)) in
    cut Word (suc (prefix_len is_word_byte text)) (word e (run_all is_word_byte text) (run_stops is_word_byte text)) (omega (arith, prefix_len-le-length is_word_byte text)) (letter_front b text e ∙ ap (sized Word) n)

number_at : (b : ℕ) (text : List ℕ) → is_digit b ≡ true → Front (b ∷ text)
number_at b text e =
    let n : prefix_len is_digit (b ∷ text) ≡ suc (prefix_len is_digit text) = rw e (omega arith) in
    cut Number (suc (prefix_len is_digit text)) (number e (run_all is_digit text) (run_stops is_digit text)) (omega (arith, prefix_len-le-length is_digit text)) (digit_front b text e ∙ ap (sized Number) n)

front_by : (b : ℕ) (text : List ℕ) (p q : Bool) → is_letter b ≡ p → is_digit b ≡ q → Front (b ∷ text)
front_by b text true q l d = word_at b text l
front_by b text false true l d = number_at b text d
front_by b text false false l d = some_sign b l d text

pub front_is : (text : List ℕ) → Front text
front_is [] = at_end refl
front_is (b ∷ text) = front_by b text (is_letter b) (is_digit b) refl refl

-- ---- no token has a line feed

no_feeds : (test : ℕ → Bool) (bytes : List ℕ) → ((b : ℕ) → test b ≡ true → (b == 10) ≡ false) → list_all test bytes ≡ true → count_by (λ b. b == 10) bytes ≡ 0
no_feeds test [] h e = refl
no_feeds test (b ∷ bytes) h e =
    let a = and_parts (test b) (list_all test bytes) e in
    rw (h b a.0) (no_feeds test bytes h a.1)

word_no_feed : (b : ℕ) → is_word_byte b ≡ true → (b == 10) ≡ false
word_no_feed b e = grind (arith, nat_tests)

digit_no_feed : (b : ℕ) → is_digit b ≡ true → (b == 10) ≡ false
digit_no_feed b e = grind (arith, nat_tests)

sign_no_feed : (bytes : List ℕ) → is_sign bytes ≡ true → count_by (λ b. b == 10) bytes ≡ 0
sign_no_feed [] e = refl
sign_no_feed (a ∷ []) e = rw (in_line a (one_of_passes is_in_line (codes "().;=<>+-") a refl e)) refl
sign_no_feed (a ∷ b ∷ []) e =
    let h = and_parts (b == 61) (is_one_of (codes "!<>:") a) e in
    let s : (b == 10) ≡ false = (let t = h.0 in grind (arith, nat_tests)) in
    rw (in_line a (one_of_passes is_in_line (codes "!<>:") a refl h.1), s) refl
sign_no_feed (a ∷ b ∷ c ∷ bytes) e = absurd cc

pub cut_no_feed : (kind : TokenKind) (bytes rest : List ℕ) → Cuts kind bytes rest → count_by (λ b. b == 10) bytes ≡ 0
cut_no_feed kind bytes rest (word {b = b} {bytes = more} e h s) = let l : list_all is_word_byte (b ∷ more) ≡ true = rw e h in no_feeds is_word_byte (b ∷ more) word_no_feed l
cut_no_feed kind bytes rest (number {b = b} {bytes = more} e h s) = let l : list_all is_digit (b ∷ more) ≡ true = rw e h in no_feeds is_digit (b ∷ more) digit_no_feed l
cut_no_feed kind bytes rest (sign e longest) = sign_no_feed bytes e

pub cut_some : (kind : TokenKind) (bytes rest : List ℕ) → Cuts kind bytes rest → 1 ≤ length bytes
cut_some kind bytes rest (word e h s) = omega arith
cut_some kind bytes rest (number e h s) = omega arith
cut_some kind [] rest (sign e longest) = absurd cc
cut_some kind (a ∷ bytes) rest (sign e longest) = omega arith

-- a token that is cut is one of its kind, and not too long
pub record Found (text : List ℕ) (p : Piece) : Type 0 where
  pub cuts : Cuts p.kind (take p.len text) (drop p.len text)
  pub sized : p.len ≤ most_bytes p.kind

found_by : (text : List ℕ) (p : Piece) (kind : TokenKind) (len : ℕ) (t : Bool) → nat_lt (most_bytes kind) len ≡ t → Cuts kind (take len text) (drop len text) → cond t (Err WordTooLong) (Ok (record { kind = kind; len = len })) ≡ Ok p → Found text p
found_by text p kind len true b c e = absurd cc
found_by text p kind len false b c e = let same : record { kind = kind; len = len } ≡ p = cc in subst (λ (q : Piece). Found text q) same (record { cuts = c; sized = ltb-false _ _ b })

found_at : (text : List ℕ) (p : Piece) → front text ≡ Ok p → Front text → Found text p
unfolding front
found_at text p e (at_end f) = let g : front text ≡ Err Truncated = ap front f in absurd cc
found_at text p e (no_token none f some) = absurd cc
found_at text p e (cut kind len c le f) = found_by text p kind len (nat_lt (most_bytes kind) len) refl c (sym f ∙ e)

pub front_found : (text : List ℕ) (p : Piece) → front text ≡ Ok p → Found text p
front_found text p e = found_at text p e (front_is text)
