-- The tokens of a text whose last byte is a line feed stay where another text stands behind it.
use Rattle.std.proofs.Common.{◌≡◌, ℕ, zero, suc, ◌+◌, ◌≤◌, Bool, true, false, cond, List, [], ◌∷◌, ◌++◌, length, drop, refl, sym, ap, subst, ◌∙◌, arith, length-append, append_assoc}
use Rattle.std.specs.Prelude.{◌==◌}
use Rattle.std.specs.List.{list_all, count_by}
use Rattle.std.proofs.lemmas.List.{drop-append-le, take-append-le, append-nil}
use Rattle.std.proofs.lemmas.List.Sums.{sum_by-append}
use Rattle.std.proofs.lemmas.Bool.{and_parts}
use Rattle.std.proofs.Math.Seq.{drop-append_seam, drop-length}
use Rattle.text_tokens.specs.declared.token.TokenKind.{TokenKind}
use Rattle.text_tokens.specs.declared.refusal.Refusal.{Refusal}
use Rattle.text_tokens.specs.declared.refusal.RefusalKind.TheVariants.{Truncated}
use Rattle.text_tokens.specs.Text.{is_in_line, is_sign, Skips, nothing, blank, comment, last_comment, IsSkipped, IsLongestSign, Cuts, word, number, sign, Lexeme, token_end, line_at, Comes, IsToken, AreTokens, ends, bad_byte, too_long, token}
use Rattle.text_tokens.proofs.CutLemmas.{cut_no_feed, cut_some}
use Rattle.text_tokens.proofs.PromisesLemmas.{end_within}

-- ---- a text that is empty, or whose last byte is a line feed

pub data EndsInFeed : List ℕ → Type 0 where
  is_empty : EndsInFeed []
  last_feed : EndsInFeed (10 ∷ [])
  further : {b c : ℕ} {text : List ℕ} → EndsInFeed (c ∷ text) → EndsInFeed (b ∷ c ∷ text)

pub feed_last : (front : List ℕ) → EndsInFeed (front ++ 10 ∷ [])
feed_last [] = last_feed
feed_last (b ∷ []) = further last_feed
feed_last (b ∷ c ∷ front) = further (feed_last (c ∷ front))

feed_tail : (b : ℕ) (text : List ℕ) → EndsInFeed (b ∷ text) → EndsInFeed text
feed_tail b text last_feed = is_empty
feed_tail b text (further f) = f

feed_behind : (front text : List ℕ) → EndsInFeed (front ++ text) → EndsInFeed text
feed_behind [] text f = f
feed_behind (b ∷ front) text f = feed_behind front text (feed_tail b (front ++ text) f)

feed_from : (n : ℕ) (text : List ℕ) → EndsInFeed text → EndsInFeed (drop n text)
feed_from zero text f = f
feed_from (suc n) [] f = f
feed_from (suc n) (b ∷ text) f = feed_from n text (feed_tail b text f)

-- a text without a line feed does not end in one
no_feed : (test : ℕ → Bool) (b : ℕ) (text : List ℕ) → test 10 ≡ false → test b ≡ true → list_all test text ≡ true → EndsInFeed (b ∷ text) → ⊥
no_feed test b text n e h last_feed = absurd cc
no_feed test b text n e h (further {c = c} {text = more} f) = let a = and_parts (test c) (list_all test more) h in no_feed test c more n a.0 a.1 f

feed_counted : (b : ℕ) (text : List ℕ) → EndsInFeed (b ∷ text) → 1 ≤ count_by (λ c. c == 10) (b ∷ text)
feed_counted b text last_feed = omega arith
feed_counted b text (further {c = c} {text = more} f) =
    let l = feed_counted c more f in
    let e : count_by (λ n. n == 10) (b ∷ c ∷ more) ≡ count_by (λ n. n == 10) (b ∷ []) + count_by (λ n. n == 10) (c ∷ more) = sum_by-append (λ n. cond (n == 10) 1 0) (b ∷ []) (c ∷ more) in
    omega arith

-- ---- what separates tokens

module _ (more : List ℕ) where
  skips_on : (text rest : List ℕ) → Skips text rest → EndsInFeed text → Skips (text ++ more) (rest ++ more)
  skips_on text rest nothing f = nothing
  skips_on text rest (blank {b = b} {text = behind} is s) f = blank is (skips_on behind rest s (feed_tail b behind f))
  skips_on text rest (comment inside behind is s) f =
      subst (λ (t : List ℕ). Skips t (rest ++ more)) (ap (λ (t : List ℕ). 35 ∷ t) (sym (append_assoc inside (10 ∷ behind) more)))
      (comment inside (behind ++ more) is (skips_on behind rest s (feed_tail 10 behind (feed_behind inside (10 ∷ behind) (feed_tail 35 (inside ++ 10 ∷ behind) f)))))
  skips_on text rest (last_comment inside is) f = absurd (no_feed is_in_line 35 inside refl refl is f)

nothing_left : (rest : List ℕ) → Skips [] rest → rest ≡ []
nothing_left rest nothing = refl

skips_both : (a b c : List ℕ) → Skips a b → Skips b c → Skips a c
skips_both a b c nothing t = t
skips_both a b c (blank {text = behind} is s) t = blank is (skips_both behind b c s t)
skips_both a b c (comment inside behind is s) t = comment inside behind is (skips_both behind b c s t)
skips_both a b c (last_comment inside is) t = subst (λ (r : List ℕ). Skips (35 ∷ inside) r) (sym (nothing_left c t)) (last_comment inside is)

-- ---- one token

no_end : (kind : TokenKind) (bytes : List ℕ) → Cuts kind bytes [] → EndsInFeed bytes → ⊥
no_end kind [] c f = absurd (omega (arith, cut_some kind [] [] c))
no_end kind (b ∷ bytes) c f = absurd (omega (arith, cut_no_feed kind (b ∷ bytes) [] c, feed_counted b bytes f))

longest_on : (bytes : List ℕ) (c : ℕ) (rest more : List ℕ) → is_sign bytes ≡ true → IsLongestSign bytes (c ∷ rest) → IsLongestSign bytes ((c ∷ rest) ++ more)
longest_on [] c rest more is longest other behind e same = absurd cc
longest_on (a ∷ []) c rest more is longest [] behind e same = absurd cc
longest_on (a ∷ []) c rest more is longest (x ∷ []) behind e same = omega arith
longest_on (a ∷ []) c rest more is longest (x ∷ y ∷ []) behind e same = let p : a ≡ x = cc in let q : c ≡ y = cc in longest (x ∷ y ∷ []) rest e (rw (p, q) refl)
longest_on (a ∷ []) c rest more is longest (x ∷ y ∷ z ∷ other) behind e same = absurd cc
longest_on (a ∷ b ∷ []) c rest more is longest [] behind e same = absurd cc
longest_on (a ∷ b ∷ []) c rest more is longest (x ∷ []) behind e same = omega arith
longest_on (a ∷ b ∷ []) c rest more is longest (x ∷ y ∷ []) behind e same = omega arith
longest_on (a ∷ b ∷ []) c rest more is longest (x ∷ y ∷ z ∷ other) behind e same = absurd cc
longest_on (a ∷ b ∷ d ∷ bytes) c rest more is longest other behind e same = absurd cc

cuts_on : (kind : TokenKind) (bytes rest more : List ℕ) → Cuts kind bytes rest → EndsInFeed (bytes ++ rest) → Cuts kind bytes (rest ++ more)
cuts_on kind bytes [] more c f = absurd (no_end kind bytes c (subst EndsInFeed (append-nil bytes) f))
cuts_on kind bytes (c ∷ rest) more (word e h s) f = word e h s
cuts_on kind bytes (c ∷ rest) more (number e h s) f = number e h s
cuts_on kind bytes (c ∷ rest) more (sign e longest) f = sign e (longest_on bytes c rest more e longest)

-- ---- all tokens

module _ (source more : List ℕ) (fed : EndsInFeed source) where
  abbrev both : List ℕ
  both = source ++ more

  from_place : (at : ℕ) → at ≤ length source → drop at both ≡ drop at source ++ more
  from_place at le = drop-append-le at source more le

  -- from a place to another, where a byte stands there
  comes_on : (at b_from b : ℕ) (text : List ℕ) → Comes source at b_from → drop b_from source ≡ b ∷ text → Comes both at b_from
  comes_on at b_from b text c e =
      let behind = c.behind in
      let within = c.within in
      let to : drop b_from both ≡ b ∷ text ++ more = from_place b_from within ∙ ap (λ (t : List ℕ). t ++ more) e in
      record {
        behind = behind;
        within = omega (arith, length-append source more);
        skips = subst (λ (t : List ℕ). Skips t (drop b_from both)) (sym (from_place at (omega arith))) (subst (λ (t : List ℕ). Skips (drop at source ++ more) t) (sym (from_place b_from within)) (skips_on more (drop at source) (drop b_from source) c.skips (feed_from at source fed)));
        skipped = subst IsSkipped (sym to) (subst IsSkipped e c.skipped);
      }

  -- from a place to where the source ends
  skips_to_end : (at : ℕ) → at ≤ length source → Comes source at (length source) → Skips (drop at both) more
  skips_to_end at le c =
      subst (λ (t : List ℕ). Skips t more) (sym (from_place at le))
      (subst (λ (t : List ℕ). Skips (drop at source ++ more) (t ++ more)) (drop-length source) (skips_on more (drop at source) (drop (length source) source) c.skips (feed_from at source fed)))

  comes_past : (at b_from : ℕ) → at ≤ length source → Comes source at (length source) → Comes both (length source) b_from → Comes both at b_from
  comes_past at b_from le c d =
      let behind = d.behind in
      record {
        behind = omega arith;
        within = d.within;
        skips = skips_both (drop at both) more (drop b_from both) (skips_to_end at le c) (subst (λ (t : List ℕ). Skips t (drop b_from both)) (drop-append_seam source more) d.skips);
        skipped = d.skipped;
      }

  tokens_past : (at : ℕ) (us : List Lexeme) (end : Refusal) → at ≤ length source → Comes source at (length source) → AreTokens both (length source) us end → AreTokens both at us end
  tokens_past at us end le c (ends d) = ends (comes_past at (length both) le c d)
  tokens_past at us end le c (bad_byte b_from d lt none) = bad_byte b_from (comes_past at b_from le c d) lt none
  tokens_past at us end le c (too_long l d t lt) = too_long l (comes_past at l.from le c d) t lt
  tokens_past at us end le c (token l d t few rest) = token l (comes_past at l.from le c d) t few rest

  line_on : (b_from : ℕ) → b_from ≤ length source → line_at both b_from ≡ line_at source b_from
  line_on b_from le = rw (take-append-le b_from source more le) refl

  token_on : (l : Lexeme) → l.from ≤ length source → IsToken source l → IsToken both l
  token_on l le t =
      let within = end_within source l le t in
      let behind : drop (token_end l) both ≡ drop (token_end l) source ++ more = from_place (token_end l) within in
      record {
        cuts = subst (λ (r : List ℕ). Cuts l.kind l.text r) (sym behind) (cuts_on l.kind l.text (drop (token_end l) source) more t.cuts (subst EndsInFeed t.text (feed_from l.from source fed)));
        text = from_place l.from le ∙ ap (λ (r : List ℕ). r ++ more) t.text ∙ append_assoc l.text (drop (token_end l) source) more ∙ ap (λ (r : List ℕ). l.text ++ r) (sym behind);
        line = t.line ∙ sym (line_on l.from le);
      }

  some_byte : (l : Lexeme) → IsToken source l → (b : ℕ) × (text : List ℕ) × (drop l.from source ≡ b ∷ text)
  some_byte l t = by l.text (cut_some l.kind l.text (drop (token_end l) source) t.cuts) t.text
    where
      by : (bytes : List ℕ) → 1 ≤ length bytes → drop l.from source ≡ bytes ++ drop (token_end l) source → (b : ℕ) × (text : List ℕ) × (drop l.from source ≡ b ∷ text)
      by [] some e = absurd (omega arith)
      by (b ∷ bytes) some e = (b, bytes ++ drop (token_end l) source, e)

  pub tokens_on : (at : ℕ) (ts us : List Lexeme) (last end : Refusal) → at ≤ length source → AreTokens source at ts last → last.kind ≡ Truncated → AreTokens both (length source) us end → AreTokens both at (ts ++ us) end
  tokens_on at ts us last end le (ends c) whole behind = tokens_past at us end le c behind
  tokens_on at ts us last end le (bad_byte b_from c lt none) whole behind = absurd cc
  tokens_on at ts us last end le (too_long l c t lt) whole behind = absurd cc
  tokens_on at ts us last end le (token {ls = ls} l c t few rest) whole behind =
      let here = some_byte l t in
      let within = c.within in
      token l (comes_on at l.from here.0 here.1 c here.2) (token_on l within t) few (tokens_on (token_end l) ls us last end (end_within source l within t) rest whole behind)
