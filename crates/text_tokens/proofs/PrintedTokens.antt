-- The tokens of a printed text are those that were printed.
use Rattle.std.proofs.Common.{◌≡◌, ℕ, ◌+◌, ◌≤◌, Bool, true, false, List, [], ◌∷◌, ◌++◌, length, drop, codes, refl, sym, ap, subst, ◌∙◌, arith, length-append, length-drop, append_assoc}
use Rattle.std.specs.Prelude.{if◌then◌else◌, ◌==◌}
use Rattle.std.specs.List.{list_all}
use Rattle.std.proofs.lemmas.List.{drop_at, drop-drop}
use Rattle.std.proofs.Math.Seq.{drop-length}
use Rattle.std.proofs.lemmas.Bool.Decides.{nat_tests}
use Rattle.std.proofs.lemmas.Bool.{and_parts}
use Rattle.text_tokens.specs.declared.token.TokenKind.{TokenKind}
use Rattle.text_tokens.specs.declared.token.TokenKind.TheVariants.{Word, Number, Sign}
use Rattle.text_tokens.specs.declared.refusal.Refusal.{Refusal}
use Rattle.text_tokens.specs.declared.refusal.RefusalKind.TheVariants.{Truncated}
use Rattle.text_tokens.specs.Text.{is_letter, is_digit, is_word_byte, is_blank, is_one_of, is_sign, Skips, nothing, blank, IsSkipped, StopsRun, IsLongestSign, Cuts, word, number, sign, most_bytes, Lexeme, line_at, Comes, IsToken, AreTokens, ends, bad_byte, too_long, token}
use Rattle.text_tokens.specs.Lines.{Words, line_text, lines_text, spaced}
use Rattle.text_tokens.proofs.PromisesLemmas.{one_reading}
use Rattle.text_tokens.proofs.LineLemmas.{line_is_its_tokens}
use Rattle.text_tokens.proofs.CutLemmas.{one_of_passes, sign_short}

-- the kind of a token with these bytes
abbrev pub kind_of : List ℕ → TokenKind
kind_of [] = Sign
kind_of (b ∷ bytes) = if is_letter b then Word else (if is_digit b then Number else Sign)

-- tokens with these bytes, wherever they stand
pub data AreSpelled : List Lexeme → Words → Type 0 where
  no_tokens : AreSpelled [] []
  token_more : {t : Lexeme} {ts : List Lexeme} {w : List ℕ} {ws : Words} → t.kind ≡ kind_of w → t.text ≡ w → AreSpelled ts ws → AreSpelled (t ∷ ts) (w ∷ ws)

-- the tokens that a text has, wherever it stands
pub data Spells : List ℕ → Words → Type 0 where
  spells_nothing : Spells [] []
  past_blank : {b : ℕ} {text : List ℕ} {ws : Words} → is_blank b ≡ true → Spells text ws → Spells (b ∷ text) ws
  spells_token : {w rest : List ℕ} {ws : Words} → Cuts (kind_of w) w rest → length w ≤ most_bytes (kind_of w) → Spells rest ws → Spells (w ++ rest) (w ∷ ws)

-- ---- no token begins with a blank

abbrev begins_token : ℕ → Bool
begins_token b = if is_blank b then false else (if b == 35 then false else true)

begins_by : (p q : Bool) → (if p then false else (if q then false else true)) ≡ true → (p ≡ false) × (q ≡ false)
begins_by true q e = absurd cc
begins_by false true e = absurd cc
begins_by false false e = (refl, refl)

skipped_at : (b : ℕ) → begins_token b ≡ true → (is_blank b ≡ false) × ((b == 35) ≡ false)
skipped_at b e = begins_by (is_blank b) (b == 35) e

letter_skipped : (b : ℕ) → is_letter b ≡ true → (is_blank b ≡ false) × ((b == 35) ≡ false)
letter_skipped b e =
    let s : is_blank b ≡ false = grind (arith, nat_tests) in
    let h : (b == 35) ≡ false = grind (arith, nat_tests) in
    (s, h)

digit_skipped : (b : ℕ) → is_digit b ≡ true → (is_blank b ≡ false) × ((b == 35) ≡ false)
digit_skipped b e =
    let s : is_blank b ≡ false = grind (arith, nat_tests) in
    let h : (b == 35) ≡ false = grind (arith, nat_tests) in
    (s, h)

sign_skipped : (bytes rest : List ℕ) → is_sign bytes ≡ true → IsSkipped (bytes ++ rest)
sign_skipped [] rest e = absurd cc
sign_skipped (a ∷ []) rest e = skipped_at a (one_of_passes begins_token (codes "().;=<>+-") a refl e)
sign_skipped (a ∷ b ∷ []) rest e = skipped_at a (one_of_passes begins_token (codes "!<>:") a refl (and_parts (b == 61) (is_one_of (codes "!<>:") a) e).1)
sign_skipped (a ∷ b ∷ c ∷ bytes) rest e = absurd cc

cut_skipped : (kind : TokenKind) (bytes rest : List ℕ) → Cuts kind bytes rest → IsSkipped (bytes ++ rest)
cut_skipped kind bytes rest (word {b = b} e h s) = letter_skipped b e
cut_skipped kind bytes rest (number {b = b} e h s) = digit_skipped b e
cut_skipped kind bytes rest (sign e longest) = sign_skipped bytes rest e

-- ---- the tokens of a text that spells them

pub record HasTokens (source : List ℕ) (at : ℕ) (ws : Words) : Type 0 where
  pub tokens : List Lexeme
  pub last : Refusal
  pub are : AreTokens source at tokens last
  pub spelled : AreSpelled tokens ws
  pub whole : last.kind ≡ Truncated

module _ (source : List ℕ) where
  comes_here : (at : ℕ) → at ≤ length source → IsSkipped (drop at source) → Comes source at at
  comes_here at le s = record { behind = omega arith; within = le; skips = nothing; skipped = s }

  -- the tokens behind a blank are those from the blank on
  from_blank : (at : ℕ) (ts : List Lexeme) (last : Refusal) → ((from : ℕ) → Comes source (at + 1) from → Comes source at from) → AreTokens source (at + 1) ts last → AreTokens source at ts last
  from_blank at ts last f (ends c) = ends (f _ c)
  from_blank at ts last f (bad_byte b_from c lt none) = bad_byte b_from (f _ c) lt none
  from_blank at ts last f (too_long l c t lt) = too_long l (f _ c) t lt
  from_blank at ts last f (token l c t le more) = token l (f _ c) t le more

  blank_comes : (at b : ℕ) (text : List ℕ) → drop at source ≡ b ∷ text → is_blank b ≡ true → (from : ℕ) → Comes source (at + 1) from → Comes source at from
  blank_comes at b text e is «from» c =
      let next : drop (at + 1) source ≡ text = sym (drop-drop 1 at source) ∙ ap (drop 1) e in
      record {
        behind = (let le = c.behind in omega arith);
        within = c.within;
        skips = subst (λ (s : List ℕ). Skips s (drop «from» source)) (sym e) (blank is (subst (λ (s : List ℕ). Skips s (drop «from» source)) next c.skips));
        skipped = c.skipped;
      }

  pub has_tokens : (at : ℕ) (text : List ℕ) (ws : Words) → Spells text ws → drop at source ≡ text → at ≤ length source → HasTokens source at ws
  has_tokens at text ws spells_nothing e le =
      let end : length source ≡ at = (let l = ap length e in omega (arith, length-drop at source)) in
      let c : Comes source (length source) (length source) = comes_here (length source) (omega arith) (subst IsSkipped (sym (drop-length source)) tt) in
      record {
        tokens = [];
        last = record { line = line_at source (length source); kind = Truncated };
        are = ends (subst (λ (n : ℕ). Comes source n (length source)) end c);
        spelled = no_tokens;
        whole = refl;
      }
  has_tokens at text ws (past_blank {b = b} {text = more} is s) e le =
      let l = ap length e in
      let rest = has_tokens (at + 1) more ws s (sym (drop-drop 1 at source) ∙ ap (drop 1) e) (omega (arith, length-drop at source)) in
      record {
        tokens = rest.tokens;
        last = rest.last;
        are = from_blank at rest.tokens rest.last (blank_comes at b more e is) rest.are;
        spelled = rest.spelled;
        whole = rest.whole;
      }
  has_tokens at text ws (spells_token {w = w} {rest = behind} {ws = vs} cuts sized s) e le =
      let l = ap length e in
      let next : drop (at + length w) source ≡ behind = sym (drop-drop (length w) at source) ∙ ap (drop (length w)) e ∙ drop_at w behind (length w) refl in
      let rest = has_tokens (at + length w) behind vs s next (omega (arith, length-drop at source, length-append w behind)) in
      let here : Lexeme = record { kind = kind_of w; text = w; «from» = at; line = line_at source at } in
      let is : IsToken source here = record {
        cuts = subst (λ (r : List ℕ). Cuts (kind_of w) w r) (sym next) cuts;
        text = e ∙ ap (λ (r : List ℕ). w ++ r) (sym next);
        line = refl;
      } in
      record {
        tokens = here ∷ rest.tokens;
        last = rest.last;
        are = token here (comes_here at le (subst IsSkipped (sym e) (cut_skipped (kind_of w) w behind cuts))) is sized rest.are;
        spelled = token_more refl refl rest.spelled;
        whole = rest.whole;
      }

-- the tokens of a text are those that it spells, and nothing stands behind them
pub spelled_tokens : (source : List ℕ) (ws : Words) → Spells source ws → (ts : List Lexeme) (last : Refusal) → AreTokens source 0 ts last → AreSpelled ts ws × (last.kind ≡ Truncated)
spelled_tokens source ws s ts last are =
    let has = has_tokens source 0 source ws s refl (omega arith) in
    let same = one_reading source has.tokens ts has.last last has.are are in
    (subst (λ (us : List Lexeme). AreSpelled us ws) same.tokens has.spelled, subst (λ (r : Refusal). r.kind ≡ Truncated) same.last has.whole)

-- ---- printed words, lines and texts

-- a blank or the end ends a token
abbrev pub EndsToken : List ℕ → Type 0
EndsToken [] = Unit {0}
EndsToken (b ∷ rest) = is_blank b ≡ true

-- a printed word has these tokens, as `-5` has two
pub record IsPrinted (w : List ℕ) (ws : Words) : Type 0 where
  pub spells : (rest : List ℕ) (vs : Words) → EndsToken rest → Spells rest vs → Spells (w ++ rest) (ws ++ vs)

pub data ArePrinted : Words → Words → Type 0 where
  none_printed : ArePrinted [] []
  word_printed : {w : List ℕ} {ws words vs : Words} → IsPrinted w ws → ArePrinted words vs → ArePrinted (w ∷ words) (ws ++ vs)

pub data LinesArePrinted : List Words → Words → Type 0 where
  no_lines : LinesArePrinted [] []
  line_printed : {line ws : Words} {lines : List Words} {vs : Words} → ArePrinted line ws → LinesArePrinted lines vs → LinesArePrinted (line ∷ lines) (ws ++ vs)

spaced_ends : (words : Words) (rest : List ℕ) → EndsToken rest → EndsToken (spaced words ++ rest)
spaced_ends [] rest e = e
spaced_ends (w ∷ words) rest e = refl

spaced_spells : (words ws : Words) → ArePrinted words ws → (rest : List ℕ) (vs : Words) → EndsToken rest → Spells rest vs → Spells (spaced words ++ rest) (ws ++ vs)
spaced_spells words ws none_printed rest vs e s = s
spaced_spells words ws (word_printed {w = w} {ws = us} {words = more} {vs = ts} p ps) rest vs e s =
    subst (λ (text : List ℕ). Spells text ((us ++ ts) ++ vs)) (sym (append_assoc (32 ∷ w) (spaced more) rest))
    (subst (λ (all : Words). Spells (32 ∷ w ++ (spaced more ++ rest)) all) (sym (append_assoc us ts vs))
    (past_blank refl (p.spells (spaced more ++ rest) (ts ++ vs) (spaced_ends more rest e) (spaced_spells more ts ps rest vs e s))))

line_spells : (words ws : Words) → ArePrinted words ws → (rest : List ℕ) (vs : Words) → Spells rest vs → Spells (line_text words ++ rest) (ws ++ vs)
line_spells words ws none_printed rest vs s = past_blank refl s
line_spells words ws (word_printed {w = w} {ws = us} {words = more} {vs = ts} p ps) rest vs s =
    let text : line_text (w ∷ more) ++ rest ≡ w ++ (spaced more ++ 10 ∷ rest) =
    ap (λ (bs : List ℕ). bs ++ rest) (line_is_its_tokens w more) ∙ append_assoc (w ++ spaced more) (codes "\n") rest ∙ append_assoc w (spaced more) (10 ∷ rest) in
    subst (λ (bs : List ℕ). Spells bs ((us ++ ts) ++ vs)) (sym text)
    (subst (λ (all : Words). Spells (w ++ (spaced more ++ 10 ∷ rest)) all) (sym (append_assoc us ts vs))
    (p.spells (spaced more ++ 10 ∷ rest) (ts ++ vs) (spaced_ends more (10 ∷ rest) refl) (spaced_spells more ts ps (10 ∷ rest) vs refl (past_blank refl s))))

pub lines_spell : (lines : List Words) (ws : Words) → LinesArePrinted lines ws → Spells (lines_text lines) ws
lines_spell lines ws no_lines = spells_nothing
lines_spell lines ws (line_printed {line = line} {ws = us} {lines = more} {vs = vs} p ps) = line_spells line us p (lines_text more) vs (lines_spell more vs ps)

-- ---- words that are one token

pub record IsOneToken (w : List ℕ) : Type 0 where
  pub cuts : (rest : List ℕ) → EndsToken rest → Cuts (kind_of w) w rest
  pub sized : length w ≤ most_bytes (kind_of w)

pub one_printed : (w : List ℕ) → IsOneToken w → IsPrinted w (w ∷ [])
one_printed w is = record { spells = λ rest vs e s. spells_token (is.cuts rest e) is.sized s }

blank_stops : (test : ℕ → Bool) → ((b : ℕ) → is_blank b ≡ true → test b ≡ false) → (rest : List ℕ) → EndsToken rest → StopsRun test rest
blank_stops test f [] e = tt
blank_stops test f (b ∷ rest) e = f b e

blank_no_word_byte : (b : ℕ) → is_blank b ≡ true → is_word_byte b ≡ false
blank_no_word_byte b e = grind (arith, nat_tests)

blank_no_digit : (b : ℕ) → is_blank b ≡ true → is_digit b ≡ false
blank_no_digit b e = grind (arith, nat_tests)

pub word_kind : (b : ℕ) (bytes : List ℕ) → is_letter b ≡ true → kind_of (b ∷ bytes) ≡ Word
word_kind b bytes e = rw e refl

pub digit_kind : (b : ℕ) (bytes : List ℕ) → is_digit b ≡ true → kind_of (b ∷ bytes) ≡ Number
digit_kind b bytes e = let n : is_letter b ≡ false = grind (arith, nat_tests) in rw (n, e) refl

pub word_is_token : (b : ℕ) (bytes : List ℕ) → is_letter b ≡ true → list_all is_word_byte bytes ≡ true → length (b ∷ bytes) ≤ 24 → IsOneToken (b ∷ bytes)
word_is_token b bytes e h le = record {
  cuts = λ rest stop. subst (λ (kind : TokenKind). Cuts kind (b ∷ bytes) rest) (sym (word_kind b bytes e)) (word e h (blank_stops is_word_byte blank_no_word_byte rest stop));
  sized = subst (λ (kind : TokenKind). length (b ∷ bytes) ≤ most_bytes kind) (sym (word_kind b bytes e)) le;
}

pub number_is_token : (b : ℕ) (bytes : List ℕ) → is_digit b ≡ true → list_all is_digit bytes ≡ true → length (b ∷ bytes) ≤ 9 → IsOneToken (b ∷ bytes)
number_is_token b bytes e h le = record {
  cuts = λ rest stop. subst (λ (kind : TokenKind). Cuts kind (b ∷ bytes) rest) (sym (digit_kind b bytes e)) (number e h (blank_stops is_digit blank_no_digit rest stop));
  sized = subst (λ (kind : TokenKind). length (b ∷ bytes) ≤ most_bytes kind) (sym (digit_kind b bytes e)) le;
}

-- a blank makes no sign longer
blank_no_equals : (b : ℕ) → is_blank b ≡ true → (b == 61) ≡ true → ⊥
blank_no_equals b e f = let no : (b == 61) ≡ false = grind (arith, nat_tests) in absurd cc

longest_by : (a : ℕ) (rest other more : List ℕ) → EndsToken rest → is_sign other ≡ true → a ∷ rest ≡ other ++ more → length other ≤ 1
longest_by a rest [] more h e f = absurd cc
longest_by a rest (x ∷ []) more h e f = omega arith
longest_by a [] (x ∷ y ∷ []) more h e f = let l = ap length f in omega arith
longest_by a (b ∷ rest) (x ∷ y ∷ []) more h e f = let same : b ≡ y = cc in absurd (blank_no_equals b h (ap (λ (n : ℕ). n == 61) same ∙ (and_parts (y == 61) (is_one_of (codes "!<>:") x) e).0))
longest_by a rest (x ∷ y ∷ z ∷ other) more h e f = absurd cc

sign_longest : (bytes rest : List ℕ) → is_sign bytes ≡ true → EndsToken rest → IsLongestSign bytes rest
sign_longest [] rest e h other more is same = absurd cc
sign_longest (a ∷ []) rest e h other more is same = longest_by a rest other more h is same
sign_longest (a ∷ b ∷ bytes) rest e h other more is same = omega (arith, sign_short other is)

pub sign_is_token : (bytes : List ℕ) → is_sign bytes ≡ true → kind_of bytes ≡ Sign → IsOneToken bytes
sign_is_token bytes e kind = record {
  cuts = λ rest stop. subst (λ (k : TokenKind). Cuts k bytes rest) (sym kind) (sign e (sign_longest bytes rest e stop));
  sized = subst (λ (k : TokenKind). length bytes ≤ most_bytes k) (sym kind) (sign_short bytes e);
}

-- nothing makes a minus longer
minus_longest : (rest : List ℕ) → IsLongestSign (codes "-") rest
minus_longest rest [] more is e = omega arith
minus_longest rest (a ∷ []) more is e = omega arith
minus_longest rest (a ∷ b ∷ []) more is e =
    let same : 45 ≡ a = cc in
    let no : is_one_of (codes "!<>:") a ≡ true = (and_parts (b == 61) (is_one_of (codes "!<>:") a) is).1 in
    let yes : false ≡ true = ap (is_one_of (codes "!<>:")) same ∙ no in absurd cc
minus_longest rest (a ∷ b ∷ c ∷ other) more is e = absurd cc

-- a minus directly before digits
pub minus_printed : (w : List ℕ) → IsOneToken w → IsPrinted (45 ∷ w) (codes "-" ∷ w ∷ [])
minus_printed w is = record { spells = λ rest vs e s. spells_token (sign refl (minus_longest (w ++ rest))) (omega arith) (spells_token (is.cuts rest e) is.sized s) }
