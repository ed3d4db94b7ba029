-- What a grammar says of some tokens, carried over to another that has the same texts there.
use Rattle.std.proofs.Common.{◌≡◌, Bool, List, [], ◌∷◌, ◌++◌, Option, Some, None, Ok, Err, refl, sym, ap, subst, ◌∙◌}
use Rattle.std.proofs.lemmas.List.{append-nil}
use Rattle.text_tokens.specs.declared.refusal.Refusal.{Refusal}
use Rattle.text_tokens.specs.Text.{Lexeme}
use Rattle.text_tokens.specs.Reading.{Answer, Reader, answer_and_then, ◌>>=◌, pure}
use Rattle.text_tokens.specs.Grammar.{Symbol, tokens, first_fault, outcome_by, outcome, Lang, Made, made}
use Rattle.text_tokens.specs.Lawful.{Next, GoesOn, Stops, IsWhole, Begun, IsStuck, IsFault, limit, due, stuck, Tells, LawfulOn, Lawful, Halts, IsPart}
use Rattle.text_tokens.proofs.Exactness.{begun_whole, begun_next, stops_same}

module _ {A B : Type 0} (P : Lang A) (R : Lang B) (f : A → B) (on : List Lexeme → Type 0) where
  -- of tokens of a class: what comes in the one comes in the other, and what they are whole, in the other they are too
  pub record Carries : Type 0 where
    pub next_in : (us rest : List Lexeme) (x : Symbol) → on (us ++ rest) → Next P us x → Next R us x
    pub whole_in : (us rest : List Lexeme) (a : A) → on (us ++ rest) → IsWhole P us a → IsWhole R us (f a)
    pub token_out : (us rest : List Lexeme) (x : Symbol) (t : Lexeme) → on (us ++ t ∷ rest) → Next R us x → x.token ≡ Some t → Next P us x
    pub place_out : (us rest : List Lexeme) (x : Symbol) (r : Refusal) → on (us ++ rest) → Stops R us rest → Next R us x → x.token ≡ None → x.fault ≡ Some r → Next P us x
    pub text_out : (xs : List Symbol) (b : B) (rest : List Lexeme) → on (tokens xs ++ rest) → Stops R (tokens xs) rest → R xs b → (a : A) × P xs a × (f a ≡ b)

  abbrev pub map_answer : Answer A → Answer B
  map_answer r = answer_and_then r (λ a us. Ok (f a, us))

  module _ (c : Carries) where
    begun_by : (us rest : List Lexeme) (text more : List Symbol) (a : A) → on (us ++ rest) → P (text ++ more) a → tokens text ≡ us → first_fault text ≡ None → Begun R us
    begun_by us rest text [] a o is e fine = begun_whole R us (f a) (c.whole_in us rest a o (record { text = text; is = subst (λ (xs : List Symbol). P xs a) (append-nil text) is; parts = e; fine = fine }))
    begun_by us rest text (x ∷ more) a o is e fine = begun_next R us x (c.next_in us rest x o (record { text = text; more = more; whole = a; is = is; parts = e; fine = fine }))

    stops_in : (us rest : List Lexeme) → on (us ++ rest) → Stops P us rest → Stops R us rest
    stops_in us [] o stops t e g = absurd cc
    stops_in us (u ∷ rest) o stops t e g = stops t e (record { at = g.at; next = c.token_out us rest g.at u o g.next (g.token ∙ sym e); token = g.token })

    stops_out : (us rest : List Lexeme) → on (us ++ rest) → Stops R us rest → Stops P us rest
    stops_out us rest o stops t e g = stops t e (record { at = g.at; next = c.next_in us rest g.at o g.next; token = g.token })

    stuck_in : (us rest : List Lexeme) → on (us ++ rest) → IsStuck P us rest → IsStuck R us rest
    stuck_in us rest o is = record { begun = begun_by us rest is.begun.text is.begun.more is.begun.whole o is.begun.is is.begun.parts is.begun.fine; stops = stops; unjudged = λ x n e. unjudged x n e x.fault refl; unfinished = unfinished }
      where
        stops : Stops R us rest
        stops = stops_in us rest o is.stops

        unjudged : (x : Symbol) → Next R us x → x.token ≡ None → (wrong : Option Refusal) → x.fault ≡ wrong → wrong ≡ None
        unjudged x n e None g = refl
        unjudged x n e (Some r) g = sym g ∙ is.unjudged x (c.place_out us rest x r o stops n e g) e

        unfinished : (b : B) → IsWhole R us b → ⊥
        unfinished b w =
            let t = c.text_out w.text b rest (subst (λ (vs : List Lexeme). on (vs ++ rest)) (sym w.parts) o) (stops_same R us (tokens w.text) rest rest (sym w.parts) refl stops) w.is in
            is.unfinished t.0 (record { text = w.text; is = t.1; parts = w.parts; fine = w.fine })

    fault_in : (last : Refusal) (ts : List Lexeme) (r : Refusal) → on ts → IsFault P last ts r → IsFault R last ts r
    fault_in last ts r o (limit us x t rest e n g h) = limit us x t rest e (c.next_in us (t ∷ rest) x (subst on e o) n) g h
    fault_in last ts r o (due us x rest e n g h stops) = let i = subst on e o in due us x rest e (c.next_in us rest x i n) g h (stops_in us rest i stops)
    fault_in last ts r o (stuck us rest e is) = stuck us rest e (stuck_in us rest (subst on e o) is)

    pub tells_in : (last : Refusal) (ts : List Lexeme) (r : Answer A) → on ts → Tells P last ts r → Tells R last ts (map_answer r)
    tells_in last ts (Ok r) o g = let i = subst on g.parts o in record { us = g.us; parts = g.parts; whole = c.whole_in g.us r.1 r.0 i g.whole; stops = stops_in g.us r.1 i g.stops }
    tells_in last ts (Err r) o g = fault_in last ts r o g

    outcome_in : (wrong : Option Refusal) (a : A) (b : B) (rest : List Lexeme) → f a ≡ b → map_answer (outcome_by wrong a rest) ≡ outcome_by wrong b rest
    outcome_in None a b rest e = ap (λ (b : B). Ok (b, rest)) e
    outcome_in (Some r) a b rest e = refl

    module _ (p : Reader A) (q : Reader B) (same : (last : Refusal) (ts : List Lexeme) → on ts → q last ts ≡ map_answer (p last ts)) (law : LawfulOn P on p) where
      reads_in : (xs : List Symbol) (b : B) → R xs b → (last : Refusal) (rest : List Lexeme) → on (tokens xs ++ rest) → Stops R (tokens xs) rest → q last (tokens xs ++ rest) ≡ outcome xs b rest
      reads_in xs b is last rest o stops =
          let t = c.text_out xs b rest o stops is in
          same last (tokens xs ++ rest) o ∙ ap map_answer (law.reads xs t.0 t.1 last rest o (stops_out (tokens xs) rest o stops)) ∙ outcome_in (first_fault xs) t.0 b rest t.2

      pub law_carried : LawfulOn R on q
      law_carried = record {
        tells = λ last ts o. subst (λ (r : Answer B). Tells R last ts r) (sym (same last ts o)) (tells_in last ts (p last ts) o (law.tells last ts o));
        reads = reads_in;
        limits = λ us x t r n e g last rest o. same last (us ++ t ∷ rest) o ∙ ap map_answer (law.limits us x t r (c.token_out us rest x t o n e) e g last rest o);
        judges = λ us x r n e g last rest o stops. same last (us ++ rest) o ∙ ap map_answer (law.judges us x r (c.place_out us rest x r o stops n e g) e g last rest o (stops_out us rest o stops));
        agrees = λ us x y t o m n e g. law.agrees us x y t o (c.token_out us [] x t o m e) (c.token_out us [] y t o n g) e g;
      }

-- the same reader
pub unmapped : {A : Type 0} (r : Answer A) → r ≡ answer_and_then r (λ a us. Ok (a, us))
unmapped (Ok r) = refl
unmapped (Err r) = refl

-- lawful of all tokens, so of some
pub law_of_some : {A : Type 0} (P : Lang A) (p : Reader A) (on : List Lexeme → Type 0) → Lawful P p → LawfulOn P on p
law_of_some P p on law = record {
  tells = λ last ts o. law.tells last ts tt;
  reads = λ xs a is last rest o. law.reads xs a is last rest tt;
  limits = λ us x t r n e f last rest o. law.limits us x t r n e f last rest tt;
  judges = λ us x r n e f last rest o. law.judges us x r n e f last rest tt;
  agrees = λ us x y t o. law.agrees us x y t tt;
}

-- ---- a grammar with the same texts

module _ {A : Type 0} (P R : Lang A) (into : (xs : List Symbol) (a : A) → P xs a → R xs a) where
  pub next_as : (us : List Lexeme) (x : Symbol) → Next P us x → Next R us x
  next_as us x n = record { text = n.text; more = n.more; whole = n.whole; is = into (n.text ++ x ∷ n.more) n.whole n.is; parts = n.parts; fine = n.fine }

  pub whole_as : (us : List Lexeme) (a : A) → IsWhole P us a → IsWhole R us a
  whole_as us a w = record { text = w.text; is = into w.text a w.is; parts = w.parts; fine = w.fine }

  pub on_as : (us : List Lexeme) (t : Lexeme) → GoesOn P us t → GoesOn R us t
  on_as us t g = record { at = g.at; next = next_as us g.at g.next; token = g.token }

module _ {A : Type 0} (P R : Lang A) (into : (xs : List Symbol) (a : A) → P xs a → R xs a) (back : (xs : List Symbol) (a : A) → R xs a → P xs a) where
  pub law_same : (p : Reader A) → Lawful P p → Lawful R p
  law_same p law = law_carried P R (λ a. a) (λ ts. Unit {0}) (record {
    next_in = λ us rest x o. next_as P R into us x;
    whole_in = λ us rest a o. whole_as P R into us a;
    token_out = λ us rest x t o n e. next_as R P back us x n;
    place_out = λ us rest x r o stops n e g. next_as R P back us x n;
    text_out = λ xs a rest o stops is. (a, back xs a is, refl);
  }) p p (λ last ts o. unmapped (p last ts)) law

  pub part_same : (p : Reader A) (stop : Lexeme → Bool) → IsPart P p stop → IsPart R p stop
  part_same p stop part = record { law = law_same p part.law; halts = λ xs a t is e g. part.halts xs a t (back xs a is) e (on_as R P back (tokens xs) t g) }

-- ---- made into something else

module _ {A B : Type 0} (P : Lang A) (f : A → B) where
  next_of : (text : List Symbol) (x : Symbol) (more : List Symbol) (b : B) → Made P f (text ++ x ∷ more) b → first_fault text ≡ None → Next P (tokens text) x
  next_of text x more b (made a is) fine = record { text = text; more = more; whole = a; is = is; parts = refl; fine = fine }

  pub made_next : (us : List Lexeme) (x : Symbol) → Next (Made P f) us x → Next P us x
  made_next us x n = subst (λ (ws : List Lexeme). Next P ws x) n.parts (next_of n.text x n.more n.whole n.is n.fine)

  made_text : (xs : List Symbol) (b : B) → Made P f xs b → (a : A) × P xs a × (f a ≡ b)
  made_text xs b (made a is) = (a, is, refl)

  pub law_made : (p : Reader A) → Lawful P p → Lawful (Made P f) (p >>= λ a. pure (f a))
  law_made p law = law_carried P (Made P f) f (λ ts. Unit {0}) (record {
    next_in = λ us rest x o n. record { text = n.text; more = n.more; whole = f n.whole; is = made n.whole n.is; parts = n.parts; fine = n.fine };
    whole_in = λ us rest a o w. record { text = w.text; is = made a w.is; parts = w.parts; fine = w.fine };
    token_out = λ us rest x t o n e. made_next us x n;
    place_out = λ us rest x r o stops n e g. made_next us x n;
    text_out = λ xs b rest o stops is. made_text xs b is;
  }) p (p >>= λ a. pure (f a)) (λ last ts o. refl) law

  halts_made : (stop : Lexeme → Bool) → Halts P stop → Halts (Made P f) stop
  halts_made stop halts xs b t (made a is) e g = halts xs a t is e (record { at = g.at; next = made_next (tokens xs) g.at g.next; token = g.token })

  pub part_made : (p : Reader A) (stop : Lexeme → Bool) → IsPart P p stop → IsPart (Made P f) (p >>= λ a. pure (f a)) stop
  part_made p stop part = record { law = law_made p part.law; halts = halts_made stop part.halts }
