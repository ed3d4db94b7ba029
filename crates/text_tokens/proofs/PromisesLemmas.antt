-- The scan gives the tokens of a text, and no others are.
use Rattle.std.proofs.Common.{◌≡◌, ℕ, zero, suc, ◌+◌, ◌<◌, ◌≤◌, Bool, true, false, List, [], ◌∷◌, ◌++◌, length, take, drop, min, Result, Ok, Err, refl, sym, ap, subst, ◌∙◌, arith, length-drop, length-append}
use Rattle.std.proofs.lemmas.List.{drop-drop, drop_all, take-append-drop, length-take, length-take-le}
use Rattle.std.proofs.Math.Seq.{take-append_seam}
use Rattle.std.proofs.lemmas.Bool.{ltb-true, ltb-false, lt-ltb, le-ltb}
use Rattle.std.specs.List.{count_by}
use Rattle.std.specs.Prelude.{nat_lt, ◌==◌}
use Rattle.text_tokens.specs.declared.token.TokenKind.{TokenKind}
use Rattle.text_tokens.specs.declared.refusal.Refusal.{Refusal}
use Rattle.text_tokens.specs.declared.refusal.RefusalKind.{RefusalKind}
use Rattle.text_tokens.specs.declared.refusal.RefusalKind.TheVariants.{BadByte, WordTooLong, Truncated}
use Rattle.text_tokens.specs.Text.{IsSkipped, Cuts, BeginsNoToken, most_bytes, Lexeme, token_end, line_at, Comes, IsToken, AreTokens, ends, bad_byte, too_long, token}
use Rattle.text_tokens.specs.Scan.{Piece, Input, ready, sized, front, lexeme, input_past, len_of, with_front, scan, ahead_of, last_of}
use Rattle.text_tokens.specs.Cursor.{AreCut}
use Rattle.text_tokens.specs.Promises.{OneReading, Rises, SpansRise}
use Rattle.text_tokens.proofs.Blanks.{IsPlace, point, at_place, place_is, line_past, ready_comes, comes_ready}
use Rattle.text_tokens.proofs.ScanLemmas.{ready_twice, ready_shorter, ahead_ok, ahead_err, last_ok, last_err, ahead_ready, last_ready}
use Rattle.text_tokens.proofs.CutLemmas.{Front, at_end, no_token, cut, front_is, cut_front, cut_no_feed, cut_some, front_found}

module _ (source : List ℕ) (j : Input) (h : IsPlace source j) where
  -- behind some bytes that have no line feed
  past_place : (len : ℕ) → len ≤ length j.text → count_by (λ b. b == 10) (take len j.text) ≡ 0 → IsPlace source (input_past j len)
  past_place len le none =
      let w = h.within in
      let t : length j.text ≡ length (drop j.at source) = ap length h.text in
      let zero_feeds : count_by (λ b. b == 10) (take len (drop j.at source)) ≡ 0 = ap (λ (text : List ℕ). count_by (λ b. b == 10) (take len text)) (sym h.text) ∙ none in
      record {
        text = ap (drop len) h.text ∙ drop-drop len j.at source;
        within = omega (arith, length-drop j.at source);
        line = h.line ∙ sym (line_past source j.at len ∙ rw zero_feeds (omega arith));
      }

  module _ (kind : TokenKind) (len : ℕ) (le : len ≤ length j.text) (c : Cuts kind (take len j.text) (drop len j.text)) where
    abbrev found : Lexeme
    found = lexeme j (record { kind = kind; len = len })

    end_is : token_end found ≡ j.at + len
    end_is = ap (λ (k : ℕ). j.at + k) (length-take-le len j.text le)

    behind_is : drop (token_end found) source ≡ drop len j.text
    behind_is = ap (λ (k : ℕ). drop k source) end_is ∙ sym (drop-drop len j.at source) ∙ ap (drop len) (sym h.text)

    is_token : IsToken source found
    is_token = record {
      cuts = subst (λ (rest : List ℕ). Cuts kind (take len j.text) rest) (sym behind_is) c;
      text = sym (ap (λ (rest : List ℕ). take len j.text ++ rest) behind_is ∙ take-append-drop len j.text ∙ h.text);
      line = h.line;
    }

    behind_place : IsPlace source (input_past j len)
    behind_place = past_place len le (cut_no_feed kind (take len j.text) (drop len j.text) c)

module _ (source : List ℕ) (n at : ℕ) (j : Input) (h : IsPlace source j) (r : ready j ≡ j) (c : Comes source at j.at)
    (more : (i : Input) → IsPlace source i → length i.text < length j.text → AreTokens source i.at (ahead_of i) (last_of i)) where
  at_fault : (k : RefusalKind) → front j.text ≡ Err k → AreTokens source at [] (record { line = j.line; kind = k }) → AreTokens source at (ahead_of j) (last_of j)
  at_fault k e a = rw (ahead_err j k r e, last_err j k r e) a

  at_length : j.text ≡ [] → j.at ≡ length source
  at_length e = let w = h.within in let l = ap length (sym h.text ∙ e) in omega (arith, length-drop j.at source)

  ended : j.text ≡ [] → AreTokens source at [] (record { line = j.line; kind = Truncated })
  ended e = subst (λ (line : ℕ). AreTokens source at [] (record { line = line; kind = Truncated })) (ap (line_at source) (sym (at_length e)) ∙ sym h.line) (ends (subst (λ (k : ℕ). Comes source at k) (at_length e) c))

  nothing_begins : BeginsNoToken j.text → 1 ≤ length j.text → AreTokens source at [] (record { line = j.line; kind = BadByte })
  nothing_begins none some =
      let w = h.within in
      let l = ap length h.text in
      subst (λ (line : ℕ). AreTokens source at [] (record { line = line; kind = BadByte })) (sym h.line) (bad_byte j.at c (omega (arith, length-drop j.at source)) (subst BeginsNoToken h.text none))

  module _ (kind : TokenKind) (len : ℕ) (cuts : Cuts kind (take len j.text) (drop len j.text)) (le : len ≤ length j.text) (e : front j.text ≡ sized kind len) where
    len_is : length (take len j.text) ≡ len
    len_is = length-take-le len j.text le

    sized_by : (t : Bool) → nat_lt (most_bytes kind) len ≡ t → AreTokens source at (ahead_of j) (last_of j)
    sized_by true b =
        let f : front j.text ≡ Err WordTooLong = e ∙ rw b refl in
        let long : most_bytes kind < length (take len j.text) = (let x = ltb-true _ _ b in omega (arith, len_is)) in
        at_fault WordTooLong f (too_long (lexeme j (record { kind = kind; len = len })) c (is_token source j h kind len le cuts) long)
    sized_by false b =
        let f : front j.text ≡ Ok (record { kind = kind; len = len }) = e ∙ rw b refl in
        let short : length (take len j.text) ≤ most_bytes kind = (let x = ltb-false _ _ b in omega (arith, len_is)) in
        let some : 1 ≤ length (take len j.text) = cut_some kind (take len j.text) (drop len j.text) cuts in
        let less : length (drop len j.text) < length j.text = omega (arith, len_is, length-drop len j.text) in
        let rest : AreTokens source (j.at + len) (ahead_of (input_past j len)) (last_of (input_past j len)) = more (input_past j len) (behind_place source j h kind len le cuts) less in
        rw (ahead_ok j (record { kind = kind; len = len }) r f, last_ok j (record { kind = kind; len = len }) r f)
        (token (lexeme j (record { kind = kind; len = len })) c (is_token source j h kind len le cuts) short
        (subst (λ (k : ℕ). AreTokens source k (ahead_of (input_past j len)) (last_of (input_past j len))) (sym (end_is source j h kind len le cuts)) rest))

  from_front : Front j.text → AreTokens source at (ahead_of j) (last_of j)
  unfolding front
  from_front (at_end e) = at_fault Truncated (ap front e) (ended e)
  from_front (no_token none e some) = at_fault BadByte e (nothing_begins none some)
  from_front (cut kind len cuts le e) = sized_by kind len cuts le e (nat_lt (most_bytes kind) len) refl

from_place : (source : List ℕ) (n : ℕ) (i : Input) → IsPlace source i → length i.text < n → AreTokens source i.at (ahead_of i) (last_of i)
from_place source zero i h lt = absurd (omega arith)
from_place source (suc n) i h lt =
    let c = ready_comes source i h in
    let shorter = ready_shorter i in
    subst (λ (ls : List Lexeme). AreTokens source i.at ls (last_of i)) (ahead_ready i)
    (subst (λ (last : Refusal). AreTokens source i.at (ahead_of (ready i)) last) (last_ready i)
    (from_front source n i.at (ready i) c.1 (ready_twice i) c.0 (λ k p less. from_place source n k p (omega arith)) (front_is (ready i).text)))

-- the tokens of a whole text
pub tokens_of_text : (source : List ℕ) → AreTokens source 0 (ahead_of (point source 0)) (last_of (point source 0))
tokens_of_text source = from_place source (suc (length (drop 0 source))) (point source 0) (at_place source 0 (omega arith)) (omega arith)

-- ---- no others are

module _ (source : List ℕ) where
  front_of : (l : Lexeme) → IsToken source l → front (drop l.from source) ≡ sized l.kind (length l.text)
  front_of l t = ap front t.text ∙ cut_front l.kind l.text (drop (token_end l) source) t.cuts

  -- where a token ends
  pub end_within : (l : Lexeme) → l.from ≤ length source → IsToken source l → token_end l ≤ length source
  end_within l le t = let e = ap length t.text in let some = cut_some l.kind l.text (drop (token_end l) source) t.cuts in omega (arith, length-drop l.from source, length-append l.text (drop (token_end l) source))

  -- behind a token
  behind_token : (l : Lexeme) → l.from ≤ length source → IsToken source l → input_past (point source l.from) (length l.text) ≡ point source (token_end l)
  behind_token l le t =
      let front_text : take (length l.text) (drop l.from source) ≡ l.text = ap (take (length l.text)) t.text ∙ take-append_seam l.text (drop (token_end l) source) in
      let none : count_by (λ b. b == 10) (take (length l.text) (drop l.from source)) ≡ 0 = ap (count_by (λ b. b == 10)) front_text ∙ cut_no_feed l.kind l.text (drop (token_end l) source) t.cuts in
      let some = end_within l le t in
      place_is source (input_past (point source l.from) (length l.text)) (past_place source (point source l.from) (at_place source l.from le) (length l.text) (omega (arith, length-drop l.from source)) none)

  here_is : (l : Lexeme) → IsToken source l → lexeme (point source l.from) (record { kind = l.kind; len = length l.text }) ≡ l
  here_is l t =
      ap (λ (text : List ℕ). record { kind = l.kind; text = text; «from» = l.from; line = line_at source l.from }) (ap (take (length l.text)) t.text ∙ take-append_seam l.text (drop (token_end l) source))
      ∙ ap (λ (line : ℕ). record { kind = l.kind; text = l.text; «from» = l.from; line = line }) (sym t.line)

  -- two answers for one text
  pub record IsScan (at : ℕ) (ls : List Lexeme) (last : Refusal) : Type 0 where
    pub tokens : ls ≡ ahead_of (point source at)
    pub fault : last ≡ last_of (point source at)

  scanned : (at from : ℕ) (ls : List Lexeme) (last : Refusal) → at ≤ length source → Comes source at from → ls ≡ ahead_of (point source from) → last ≡ last_of (point source from) → IsScan at ls last
  scanned at from ls last le c p q =
      let r = comes_ready source at from le c in
      record {
        tokens = p ∙ ap ahead_of (sym r) ∙ ahead_ready (point source at);
        fault = q ∙ ap last_of (sym r) ∙ last_ready (point source at);
      }

  stays_ready : (at from : ℕ) → at ≤ length source → Comes source at from → ready (point source from) ≡ point source from
  stays_ready at from le c = let r = comes_ready source at from le c in ap ready (sym r) ∙ ready_twice (point source at) ∙ r

  fault_scanned : (at from : ℕ) (k : RefusalKind) → at ≤ length source → Comes source at from → front (drop from source) ≡ Err k → IsScan at [] (record { line = line_at source from; kind = k })
  fault_scanned at from k le c e =
      let r = stays_ready at from le c in
      scanned at from [] (record { line = line_at source from; kind = k }) le c (sym (ahead_err (point source from) k r e)) (sym (last_err (point source from) k r e))

  long_is : (l : Lexeme) → most_bytes l.kind < length l.text → sized l.kind (length l.text) ≡ Err WordTooLong
  long_is l lt = let t : nat_lt (most_bytes l.kind) (length l.text) ≡ true = lt-ltb _ _ lt in rw t refl

  short_is : (l : Lexeme) → length l.text ≤ most_bytes l.kind → sized l.kind (length l.text) ≡ Ok (record { kind = l.kind; len = length l.text })
  short_is l le = let t : nat_lt (most_bytes l.kind) (length l.text) ≡ false = le-ltb _ _ le in rw t refl

  not_here : (text : List ℕ) → IsSkipped text → BeginsNoToken text → 1 ≤ length text → Front text → front text ≡ Err BadByte
  not_here text s none some (at_end e) = let l = ap length e in absurd (omega arith)
  not_here text s none some (no_token n e m) = e
  not_here text s none some (cut kind len cuts le e) = absurd (none kind (take len text) (drop len text) cuts (sym (take-append-drop len text)))

  front_end : (at : ℕ) → length source ≤ at → front (drop at source) ≡ Err Truncated
  unfolding front
  front_end at le = ap front (drop_all at source le)

  pub only_scan : (at : ℕ) (ls : List Lexeme) (last : Refusal) → at ≤ length source → AreTokens source at ls last → IsScan at ls last
  only_scan at ls last le (ends c) = fault_scanned at (length source) Truncated le c (front_end (length source) (omega arith))
  only_scan at ls last le (bad_byte b_from c lt none) =
      fault_scanned at b_from BadByte le c (not_here (drop b_from source) c.skipped none (omega (arith, length-drop b_from source)) (front_is (drop b_from source)))
  only_scan at ls last le (too_long l c t lt) =
      let s = fault_scanned at l.from WordTooLong le c (front_of l t ∙ long_is l lt) in
      record { tokens = s.tokens; fault = ap (λ (line : ℕ). record { line = line; kind = WordTooLong }) t.line ∙ s.fault }
  only_scan at ls last le (token {ls = more} {last = end} l c t short rest) =
      let w = c.within in
      let r = stays_ready at l.from le c in
      let f : front (drop l.from source) ≡ Ok (record { kind = l.kind; len = length l.text }) = front_of l t ∙ short_is l short in
      let s = only_scan (token_end l) more end (end_within l c.within t) rest in
      let b = behind_token l c.within t in
      scanned at l.from (l ∷ more) end le c
      (ap (λ (xs : List Lexeme). l ∷ xs) (s.tokens ∙ ap ahead_of (sym b)) ∙ ap (λ (x : Lexeme). x ∷ ahead_of (input_past (point source l.from) (length l.text))) (sym (here_is l t)) ∙ sym (ahead_ok (point source l.from) (record { kind = l.kind; len = length l.text }) r f))
      (s.fault ∙ ap last_of (sym b) ∙ sym (last_ok (point source l.from) (record { kind = l.kind; len = length l.text }) r f))

pub one_reading : OneReading
one_reading source ls ms r s p q =
    let a = only_scan source 0 ls r (omega arith) p in
    let b = only_scan source 0 ms s (omega arith) q in
    record { tokens = a.tokens ∙ sym b.tokens; last = a.fault ∙ sym b.fault }

rising : (source : List ℕ) (at : ℕ) (ls : List Lexeme) (last : Refusal) → at ≤ length source → AreTokens source at ls last → Rises source at ls
rising source at [] last le a = le
rising source at ls last le (token {ls = more} {last = end} l c t short rest) = record {
  behind = c.behind;
  some = cut_some l.kind l.text (drop (token_end l) source) t.cuts;
  slice = sym (ap (take (length l.text)) t.text ∙ take-append_seam l.text (drop (token_end l) source));
  more = rising source (token_end l) more end (end_within source l c.within t) rest;
}

pub spans_rise : SpansRise
spans_rise source ls last a = rising source 0 ls last (omega arith) a

-- what a text of these bytes computes to
pub computed : (source : List ℕ) (ls : List Lexeme) (last : Refusal) → ahead_of (point source 0) ≡ ls → last_of (point source 0) ≡ last → AreTokens source 0 ls last
computed source ls last p q = subst (λ (xs : List Lexeme). AreTokens source 0 xs last) p (subst (λ (r : Refusal). AreTokens source 0 (ahead_of (point source 0)) r) q (tokens_of_text source))

-- ---- each token is one that a text can have

cut_by : (j : Input) (f : Result Piece RefusalKind) (ls : List Lexeme) → front j.text ≡ f → AreCut ls → AreCut (with_front j f ls)
cut_by j (Err kind) ls e c = tt
cut_by j (Ok p) ls e c =
    let found = front_found j.text p e in
    let few : length (take p.len j.text) ≡ min p.len (length j.text) = length-take p.len j.text in
    (record { behind = drop p.len j.text; cuts = found.cuts; sized = omega (arith, few, found.sized) }, c)

scan_cut : (n : ℕ) (i : Input) → AreCut (scan n i)
unfolding scan
scan_cut zero i = tt
scan_cut (suc n) i = let j = ready i in cut_by j (front j.text) (scan n (input_past j (len_of (front j.text)))) refl (scan_cut n (input_past j (len_of (front j.text))))

pub ahead_cut : (i : Input) → AreCut (ahead_of i)
unfolding ahead_of
ahead_cut i = scan_cut (suc (length i.text)) i

pub tokens_cut : (source : List ℕ) (at : ℕ) (ls : List Lexeme) (last : Refusal) → AreTokens source at ls last → AreCut ls
tokens_cut source at ls last (ends c) = tt
tokens_cut source at ls last (bad_byte p c lt n) = tt
tokens_cut source at ls last (too_long l c is lt) = tt
tokens_cut source at us r (token {ls = ls} {last = last} l c is few more) = (record { behind = drop (token_end l) source; cuts = is.cuts; sized = few }, tokens_cut source (token_end l) ls last more)
