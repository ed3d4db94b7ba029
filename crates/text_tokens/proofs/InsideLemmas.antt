-- What a `Tokens` that is ready shows.
use Rattle.std.proofs.Common.{◌≡◌, inr, ℕ, suc, ◌+◌, ◌-◌, ◌<◌, ◌≤◌, ◌^◌, Bool, true, false, cond, rules, List, [], ◌∷◌, length, get_or, take, drop, Some, Result, Ok, Err, refl, sym, ap, subst, ◌∙◌, arith, drop-cons, length-drop}
use Rattle.std.proofs.lemmas.List.{drop-drop, length-take-le}
use Rattle.text_tokens.specs.declared.token.Token.{Token}
use denote.Enum.Bare.{same_true}
use Rattle.text_tokens.specs.contracts.token.TokenKind.{the_type}
use Rattle.text_tokens.specs.declared.token.TokenKind.{TokenKind}
use Rattle.text_tokens.specs.declared.token.TokenKind.TheVariants.{Number}
use Rattle.text_tokens.specs.declared.refusal.Refusal.{Refusal}
use Rattle.text_tokens.specs.declared.refusal.RefusalKind.{RefusalKind}
use Rattle.text_tokens.specs.declared.refusal.RefusalKind.TheVariants.{Truncated, Unexpected}
use Rattle.std.specs.List.{prefix_len}
use Rattle.std.specs.Prelude.{IfOk, IfSome}
use Rattle.text_tokens.specs.declared.tokens.Tokens.TheInside.{Inside}
use Rattle.text_tokens.specs.Text.{Lexeme, is_digit}
use Rattle.text_tokens.specs.Scan.{Piece, Input, skip, ready, sized, front, lexeme, input_past, ahead_of}
use Rattle.text_tokens.specs.Cursor.{token_of, end_or, answer, past_token, refusal_at, line_of, next_passes, Spells, at_input, at_place, expect, expect_by, is_kind, same_kind, number_value, slice}
use Rattle.text_tokens.specs.Inside.{input_of, cursor_of, piece_by, IsReady}
use Rattle.text_tokens.proofs.CutLemmas.{Found, digit_front, front_found}
use Rattle.text_tokens.proofs.Decimal.{digit_range}
use Rattle.text_tokens.proofs.ScanLemmas.{blank_at, start_at, ready_twice, front_fits, ahead_ok, ahead_err, last_ok, last_err, ahead_ready, last_ready}

-- no token stands behind the last one
pub no_token : (P : Token → Type 0) (last : Refusal) (k : RefusalKind) → IfOk (end_or last k) (λ found. IfSome found P)
no_token P last Truncated = tt
no_token P last _ = tt

-- from a place on it is as from the next token on
pub at_ready : (source : List ℕ) (i : Input) → at_input source (ready i) ≡ at_input source i
at_ready source i = rw (ahead_ready i, last_ready i) refl

pub at_skipped : (source : List ℕ) (at line blanks to : ℕ) → skip false at line (drop at source) ≡ record { text = drop blanks (drop at source); at = at + blanks; line = to }
    → at_place source at line ≡ at_place source (at + blanks) to
unfolding ready
at_skipped source at line blanks to e =
    sym (at_ready source (record { text = drop at source; at = at; line = line }))
    ∙ ap (at_input source) (e ∙ ap (λ (text : List ℕ). record { text = text; at = at + blanks; line = to }) (drop-drop blanks at source))

pub is_ready : (source : List ℕ) (at line blanks to : ℕ) → skip false at line (drop at source) ≡ record { text = drop blanks (drop at source); at = at + blanks; line = to }
    → ready (record { text = drop (at + blanks) source; at = at + blanks; line = to }) ≡ record { text = drop (at + blanks) source; at = at + blanks; line = to }
unfolding ready
is_ready source at line blanks to e =
    let is : skip false at line (drop at source) ≡ record { text = drop (at + blanks) source; at = at + blanks; line = to } = e ∙ ap (λ (text : List ℕ). record { text = text; at = at + blanks; line = to }) (drop-drop blanks at source) in
    subst (λ (i : Input). ready i ≡ i) is (ready_twice (record { text = drop at source; at = at; line = line }))

-- one blank at a place, and a digit behind it
module _ (source : List ℕ) (at line : ℕ) (lt : at + 1 < length source) (blank : get_or source at 0 ≡ 32) (digit : is_digit (get_or source (at + 1) 0) ≡ true) where
  pub blank_skipped : skip false at line (drop at source) ≡ record { text = drop 1 (drop at source); at = at + 1; line = line }
  blank_skipped =
      let d = digit_range (get_or source (at + 1) 0) digit in
      blank_at at line source at (omega arith) (inr (inr blank))
      ∙ start_at (at + 1) line source (at + 1) lt (λ e. omega arith) (λ e. omega arith) (λ e. omega arith) (λ e. omega arith) (λ e. omega arith)
      ∙ ap (λ (text : List ℕ). record { text = text; at = at + 1; line = line }) (sym (drop-drop 1 at source))

  pub number_behind : front (drop (at + 1) source) ≡ sized Number (prefix_len is_digit (drop (at + 1) source))
  number_behind = rw (drop-cons source (at + 1) 0 lt) (digit_front (get_or source (at + 1) 0) (drop (suc (at + 1)) source) digit)

module _ (t : Inside) (h : IsReady t) where
  -- at a token
  module _ (k : TokenKind) (e : t.front.kind ≡ Ok k) where
    abbrev p : Piece
    p = record { kind = k; len = t.front.len }

    cut : front (input_of t).text ≡ Ok p
    cut = sym h.front ∙ ap (λ (r : Result TokenKind RefusalKind). piece_by r t.front.len) e

    pub within : t.at + p.len ≤ length t.source.now
    within = let w = h.within in let f = front_fits (drop t.at t.source.now) p cut in omega (arith, length-drop t.at t.source.now)

    pub fits_small : t.at + p.len < 2 ^ 32
    fits_small = let w = within in let s = h.small in omega arith

    ahead_is : (cursor_of t).ahead ≡ lexeme (input_of t) p ∷ ahead_of (input_past (input_of t) p.len)
    ahead_is = ahead_ok (input_of t) p h.skipped cut

    abbrev here : Token
    here = record { kind = p.kind; «from» = t.at; to = t.at + p.len; line = t.line }

    here_is : token_of (lexeme (input_of t) p) ≡ here
    here_is = let w = within in rw (length-take-le p.len (drop t.at t.source.now) (omega (arith, length-drop t.at t.source.now))) refl

    pub answers : answer (cursor_of t) ≡ Ok (Some here)
    answers = rw ahead_is (ap (λ (x : Token). Ok (Some x)) here_is)

    pub spells : Spells (cursor_of t) here
    spells =
        let w = within in
        let rest : List ℕ = drop t.at t.source.now in
        let len : t.at + p.len - t.at ≡ p.len = omega arith in
        let found : Found rest p = front_found rest p cut in
        record {
          within = record { rises = omega arith; within = within };
          bytes = rw (ahead_is, len) refl;
          cuts = rw (len, ← drop-drop p.len t.at t.source.now) found.cuts;
          sized = (let small = found.sized in rw (len, length-take-le p.len rest (omega (arith, length-drop t.at t.source.now))) small);
        }

    pub passes : at_place t.source.now (t.at + p.len) t.line ≡ past_token (cursor_of t)
    passes =
        let text : drop p.len (drop t.at t.source.now) ≡ drop (t.at + p.len) t.source.now = drop-drop p.len t.at t.source.now in
        rw (ahead_is, last_ok (input_of t) p h.skipped cut, text) refl

    pub refuses : (kind : RefusalKind) → refusal_at (cursor_of t).last kind (cursor_of t).ahead ≡ record { line = t.line; kind = kind }
    refuses kind = rw ahead_is refl

    pub tests : (test : Lexeme → Bool) → next_passes test (cursor_of t).ahead ≡ test (lexeme (input_of t) p)
    tests test = rw ahead_is refl

  -- at a fault, or at the end
  module _ (k : RefusalKind) (e : t.front.kind ≡ Err k) where
    faulty : front (input_of t).text ≡ Err k
    faulty = sym h.front ∙ ap (λ (r : Result TokenKind RefusalKind). piece_by r t.front.len) e

    pub none_ahead : (cursor_of t).ahead ≡ []
    none_ahead = ahead_err (input_of t) k h.skipped faulty

    last_is : (cursor_of t).last ≡ record { line = t.line; kind = k }
    last_is = last_err (input_of t) k h.skipped faulty

    pub answers_none : answer (cursor_of t) ≡ end_or (record { line = t.line; kind = k }) k
    answers_none = rw (none_ahead, last_is) refl

    pub stays : cursor_of t ≡ past_token (cursor_of t)
    stays = rw none_ahead refl

    pub refuses_end : (kind : RefusalKind) → refusal_at (cursor_of t).last kind (cursor_of t).ahead ≡ record { line = t.line; kind = k }
    refuses_end kind = rw (none_ahead, last_is) refl

    pub tests_none : (test : Lexeme → Bool) → next_passes test (cursor_of t).ahead ≡ false
    tests_none test = rw none_ahead refl

  line_by : (r : Result TokenKind RefusalKind) → t.front.kind ≡ r → line_of (cursor_of t).ahead (cursor_of t).last ≡ t.line
  line_by (Ok k) e = rw (ahead_is k e) refl
  line_by (Err k) e = rw (none_ahead k e, last_is k e) refl

  pub line_is : line_of (cursor_of t).ahead (cursor_of t).last ≡ t.line
  line_is = line_by t.front.kind refl

  number_here : (k : TokenKind) → t.front.kind ≡ Ok k → (b : Bool) → same_kind k Number ≡ b → (u : Token) → cond {A = Result Token Refusal} b (Ok (record { kind = k; «from» = t.at; to = t.at + t.front.len; line = t.line })) (Err (record { line = t.line; kind = Unexpected })) ≡ Ok u → t.front.value ≡ number_value (slice t.source.now u)
  unfolding same_kind
  number_here k e true same u is =
      let number : k ≡ Number = same_true the_type (search rules) k Number same in
      let len : t.at + t.front.len - t.at ≡ t.front.len = omega arith in
      let here_is : record { kind = k; «from» = t.at; to = t.at + t.front.len; line = t.line } ≡ u = cc in
      h.stands.value (e ∙ ap (λ (n : TokenKind). Ok n) number) ∙ sym (ap (λ (n : ℕ). number_value (take n (drop t.at t.source.now))) len) ∙ ap (λ (v : Token). number_value (slice t.source.now v)) here_is
  number_here k e false same u is = absurd cc

  value_by : (r : Result TokenKind RefusalKind) → t.front.kind ≡ r → (u : Token) → expect (is_kind Number) (cursor_of t) ≡ Ok u → t.front.value ≡ number_value (slice t.source.now u)
  value_by (Ok k) e u is =
      let shown : expect (is_kind Number) (cursor_of t) ≡ cond {A = Result Token Refusal} (same_kind k Number) (Ok (here k e)) (Err (record { line = t.line; kind = Unexpected })) =
      rw (ahead_is k e) (ap (λ (x : Token). cond {A = Result Token Refusal} (same_kind k Number) (Ok x) (Err (record { line = t.line; kind = Unexpected }))) (here_is k e)) in
      number_here k e (same_kind k Number) refl u (sym shown ∙ is)
  value_by (Err k) e u is = let none : Err (cursor_of t).last ≡ Ok u = sym (ap (λ (ls : List Lexeme). expect_by (is_kind Number) ls (cursor_of t).last) (none_ahead k e)) ∙ is in absurd cc

  pub value_shown : (u : Token) → expect (is_kind Number) (cursor_of t) ≡ Ok u → t.front.value ≡ number_value (slice t.source.now u)
  value_shown = value_by t.front.kind refl
