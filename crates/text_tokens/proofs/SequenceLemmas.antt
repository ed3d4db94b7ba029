-- One after the other keeps the laws.
use Rattle.std.proofs.Common.{◌≡◌, List, [], ◌∷◌, ◌++◌, Option, Some, None, Ok, Err, refl, sym, ap, subst, ◌∙◌, append_assoc}
use Rattle.std.proofs.lemmas.List.{append-nil, append_cancel_right}
use Rattle.std.specs.Option.{option_or}
use Rattle.text_tokens.specs.declared.refusal.Refusal.{Refusal}
use Rattle.text_tokens.specs.declared.refusal.RefusalKind.TheVariants.{Unexpected}
use Rattle.text_tokens.specs.Text.{Lexeme}
use Rattle.text_tokens.specs.Cursor.{refusal_at}
use Rattle.text_tokens.specs.Reading.{Answer, Reader, first, answer_and_then, ◌>>=◌}
use Rattle.text_tokens.specs.Grammar.{Symbol, tokens, first_fault, outcome_by, outcome, Lang, Then, then}
use Rattle.text_tokens.specs.Lawful.{SomeText}
use Rattle.text_tokens.specs.Lawful.{Next, GoesOn, Stops, IsWhole, Begun, IsStuck, IsText, IsFault, limit, due, stuck, Tells, Lawful, Apart}
use Rattle.text_tokens.proofs.Symbols.{tokens-append, regroup, fault-append, fine-append, first-append, whole_then}
use Rattle.text_tokens.proofs.ListSplits.{Lies, in_first, in_second, lies, fine-parts}
use Rattle.text_tokens.proofs.Exactness.{any_end, value_in, rest_in, tokens-token, tokens-point, begun_whole, begun_next, stops_same, read_whole, no_longer}

module _ {A B : Type 0} (P : Lang A) (Q : A → Lang B) where
  -- ---- where a symbol lies

  pub data NextIn (us : List Lexeme) (x : Symbol) : Type 0 where
    at_first : Next P us x → NextIn us x
    at_second : (vs ws : List Lexeme) (a : A) → IsWhole P vs a → us ≡ vs ++ ws → Next (Q a) ws x → NextIn us x

  next_by : (text : List Symbol) (x : Symbol) (more zs : List Symbol) (b : B) → Then P Q zs b → zs ≡ text ++ x ∷ more → first_fault text ≡ None → NextIn (tokens text) x
  next_by text x more zs b (then {xs = xs} {ys = ys} a px qy) e fine = by (lies text x more xs ys e)
    where
      by : Lies text x more xs ys → NextIn (tokens text) x
      by (in_first m f) = at_first (record { text = text; more = m; whole = a; is = subst (λ (ws : List Symbol). P ws a) f px; parts = refl; fine = fine })
      by (in_second ws f g) =
          let h = fine-parts xs ws (ap first_fault (sym f) ∙ fine) in
          at_second (tokens xs) (tokens ws) a (record { text = xs; is = px; parts = refl; fine = h.0 }) (ap tokens f ∙ tokens-append xs ws)
          (record { text = ws; more = more; whole = b; is = subst (λ (us : List Symbol). Q a us b) g qy; parts = refl; fine = h.1 })

  pub next_in : (us : List Lexeme) (x : Symbol) → Next (Then P Q) us x → NextIn us x
  next_in us x n = subst (λ (ws : List Lexeme). NextIn ws x) n.parts (next_by n.text x n.more (n.text ++ x ∷ n.more) n.whole n.is refl n.fine)

  pub record WholeIn (us : List Lexeme) (b : B) : Type 0 where
    pub vs : List Lexeme
    pub ws : List Lexeme
    pub a : A
    pub first : IsWhole P vs a
    pub second : IsWhole (Q a) ws b
    pub parts : us ≡ vs ++ ws

  whole_by : (zs : List Symbol) (b : B) → Then P Q zs b → first_fault zs ≡ None → WholeIn (tokens zs) b
  whole_by zs b (then {xs = xs} {ys = ys} a px qy) fine =
      let h = fine-parts xs ys fine in
      record { vs = tokens xs; ws = tokens ys; a = a; first = record { text = xs; is = px; parts = refl; fine = h.0 }; second = record { text = ys; is = qy; parts = refl; fine = h.1 }; parts = tokens-append xs ys }

  pub whole_in : (us : List Lexeme) (b : B) → IsWhole (Then P Q) us b → WholeIn us b
  whole_in us b w = subst (λ (ws : List Lexeme). WholeIn ws b) w.parts (whole_by w.text b w.is w.fine)

  -- ---- putting together

  next_second : (vs : List Lexeme) (a : A) → IsWhole P vs a → (ws : List Lexeme) (x : Symbol) → Next (Q a) ws x → Next (Then P Q) (vs ++ ws) x
  next_second vs a w ws x n = record {
    text = w.text ++ n.text;
    more = n.more;
    whole = n.whole;
    is = subst (λ (zs : List Symbol). Then P Q zs n.whole) (sym (append_assoc w.text n.text (x ∷ n.more))) (then a w.is n.is);
    parts = tokens-append w.text n.text ∙ ap (λ (us : List Lexeme). us ++ tokens n.text) w.parts ∙ ap (λ (us : List Lexeme). vs ++ us) n.parts;
    fine = fine-append w.text n.text w.fine n.fine;
  }

  begun_second : (vs : List Lexeme) (a : A) → IsWhole P vs a → (ws : List Lexeme) → Begun (Q a) ws → Begun (Then P Q) (vs ++ ws)
  begun_second vs a w ws n = record {
    text = w.text ++ n.text;
    more = n.more;
    whole = n.whole;
    is = subst (λ (zs : List Symbol). Then P Q zs n.whole) (sym (append_assoc w.text n.text n.more)) (then a w.is n.is);
    parts = tokens-append w.text n.text ∙ ap (λ (us : List Lexeme). us ++ tokens n.text) w.parts ∙ ap (λ (us : List Lexeme). vs ++ us) n.parts;
    fine = fine-append w.text n.text w.fine n.fine;
  }

  module _ (some : (xs : List Symbol) (a : A) → P xs a → SomeText (Q a)) where
    next_first : (us : List Lexeme) (x : Symbol) → Next P us x → Next (Then P Q) us x
    next_first us x n =
        let s = some (n.text ++ x ∷ n.more) n.whole n.is in
        record { text = n.text; more = n.more ++ s.text; whole = s.whole; is = subst (λ (zs : List Symbol). Then P Q zs s.whole) (append_assoc n.text (x ∷ n.more) s.text) (then n.whole n.is s.is); parts = n.parts; fine = n.fine }

    begun_first : (us : List Lexeme) → Begun P us → Begun (Then P Q) us
    begun_first us n =
        let s = some (n.text ++ n.more) n.whole n.is in
        record { text = n.text; more = n.more ++ s.text; whole = s.whole; is = subst (λ (zs : List Symbol). Then P Q zs s.whole) (append_assoc n.text n.more s.text) (then n.whole n.is s.is); parts = n.parts; fine = n.fine }

    on_first : (us : List Lexeme) (t : Lexeme) → GoesOn P us t → GoesOn (Then P Q) us t
    on_first us t g = record { at = g.at; next = next_first us g.at g.next; token = g.token }

    stops_first : (us rest : List Lexeme) → Stops (Then P Q) us rest → Stops P us rest
    stops_first us rest stops t e g = stops t e (on_first us t g)

    -- ---- the readers

    module _ (p : Reader A) (q : A → Reader B) (law_p : Lawful P p) (law_q : (xs : List Symbol) (a : A) → P xs a → first_fault xs ≡ None → Lawful (Q a) (q a)) (apart : Apart P Q) where
      law_behind : (vs : List Lexeme) (a : A) → IsWhole P vs a → Lawful (Q a) (q a)
      law_behind vs a w = law_q w.text a w.is w.fine

      -- the first part stops before the second
      stops_before : (vs : List Lexeme) (a : A) (ys : List Symbol) (b : B) (us : List Lexeme) → IsWhole P vs a → Q a ys b → first us ≡ first (tokens ys) → Stops P vs us
      stops_before vs a ys b us w is e t f g = apart w.text ys a b t w.is is (sym e ∙ f) (subst (λ (ws : List Lexeme). GoesOn P ws t) (sym w.parts) g)

      stops_token : (vs : List Lexeme) (a : A) → IsWhole P vs a → (ws : List Lexeme) (x : Symbol) → Next (Q a) ws x → (t : Lexeme) (rest : List Lexeme) → x.token ≡ Some t → Stops P vs (ws ++ t ∷ rest)
      stops_token vs a w ws x n t rest e = stops_before vs a (n.text ++ x ∷ n.more) n.whole (ws ++ t ∷ rest) w n.is
          (first-append ws (t ∷ rest) (t ∷ tokens n.more) refl ∙ ap first (ap (λ (us : List Lexeme). us ++ t ∷ tokens n.more) (sym n.parts) ∙ sym (tokens-token n.text x n.more t e)))

      -- a text of the second with these tokens, which may go on
      stops_within : (vs : List Lexeme) (a : A) → IsWhole P vs a → (ws rest : List Lexeme) → Begun (Q a) ws → Stops (Then P Q) (vs ++ ws) rest → Stops P vs (ws ++ rest)
      stops_within vs a w [] rest n stops = stops_first vs rest (stops_same (Then P Q) (vs ++ []) vs rest rest (append-nil vs) refl stops)
      stops_within vs a w (u ∷ ws) rest n stops = stops_before vs a (n.text ++ n.more) n.whole (u ∷ (ws ++ rest)) w n.is
          (ap first (ap (λ (us : List Lexeme). us ++ tokens n.more) (sym n.parts) ∙ sym (tokens-append n.text n.more)))

      read_then : (vs : List Lexeme) (a : A) → IsWhole P vs a → (last : Refusal) (us : List Lexeme) → Stops P vs us → (p >>= q) last (vs ++ us) ≡ q a last us
      read_then vs a w last us stops = ap (λ (r : Answer A). answer_and_then r (λ a us. q a last us)) (read_whole P p law_p vs a w last us stops)

      -- ---- reads

      outcome_then : (last : Refusal) (o : Option Refusal) (ys : List Symbol) (a : A) (b : B) (us rest : List Lexeme) → (o ≡ None → q a last us ≡ outcome ys b rest) → answer_and_then (outcome_by o a us) (λ a us. q a last us) ≡ outcome_by (option_or o (first_fault ys)) b rest
      outcome_then last None ys a b us rest e = e refl
      outcome_then last (Some r) ys a b us rest e = refl

      stops_all : (xs ys : List Symbol) (a : A) (b : B) (rest us : List Lexeme) → P xs a → Q a ys b → us ≡ tokens ys → Stops (Then P Q) (tokens (xs ++ ys)) rest → Stops P (tokens xs) (us ++ rest)
      stops_all xs ys a b rest [] px qy e stops t f g = stops_first (tokens xs) rest (stops_same (Then P Q) (tokens (xs ++ ys)) (tokens xs) rest rest (tokens-append xs ys ∙ ap (λ (us : List Lexeme). tokens xs ++ us) (sym e) ∙ append-nil (tokens xs)) refl stops) t f g
      stops_all xs ys a b rest (u ∷ us) px qy e stops t f g = apart xs ys a b t px qy (ap first (sym e) ∙ f) g

      on_second : (vs : List Lexeme) (a : A) → IsWhole P vs a → (ws : List Lexeme) (t : Lexeme) → GoesOn (Q a) ws t → GoesOn (Then P Q) (vs ++ ws) t
      on_second vs a w ws t g = record { at = g.at; next = next_second vs a w ws g.at g.next; token = g.token }

      stops_second : (vs : List Lexeme) (a : A) → IsWhole P vs a → (ws rest : List Lexeme) → Stops (Then P Q) (vs ++ ws) rest → Stops (Q a) ws rest
      stops_second vs a w ws rest stops t e g = stops t e (on_second vs a w ws t g)

      reads_then : (zs : List Symbol) (b : B) → Then P Q zs b → (last : Refusal) (rest : List Lexeme) → Stops (Then P Q) (tokens zs) rest → (p >>= q) last (tokens zs ++ rest) ≡ outcome zs b rest
      reads_then zs b (then {xs = xs} {ys = ys} a px qy) last rest stops =
          ap (λ (vs : List Lexeme). answer_and_then (p last vs) (λ a us. q a last us)) (regroup xs ys rest)
          ∙ ap (λ (r : Answer A). answer_and_then r (λ a us. q a last us)) (law_p.reads xs a px last (tokens ys ++ rest) tt (stops_all xs ys a b rest (tokens ys) px qy refl stops))
          ∙ outcome_then last (first_fault xs) ys a b (tokens ys ++ rest) rest (λ fine. (law_q xs a px fine).reads ys b qy last rest tt
          (stops_second (tokens xs) a (record { text = xs; is = px; parts = refl; fine = fine }) (tokens ys) rest (stops_same (Then P Q) (tokens (xs ++ ys)) (tokens xs ++ tokens ys) rest rest (tokens-append xs ys) refl stops)))
          ∙ ap (λ (o : Option Refusal). outcome_by o b rest) (sym (fault-append xs ys))

      -- ---- a refusal

      refused_first : (last : Refusal) (ts : List Lexeme) (r : Refusal) → p last ts ≡ Err r → (p >>= q) last ts ≡ Err r
      refused_first last ts r e = ap (λ (r : Answer A). answer_and_then r (λ a us. q a last us)) e

      limits_then : (us : List Lexeme) (x : Symbol) (t : Lexeme) (r : Refusal) → Next (Then P Q) us x → x.token ≡ Some t → x.fault ≡ Some r → (last : Refusal) (rest : List Lexeme) → (p >>= q) last (us ++ t ∷ rest) ≡ Err r
      limits_then us x t r n e f last rest = by (next_in us x n)
        where
          by : NextIn us x → ◌≡◌ {A = Answer B} ((p >>= q) last (us ++ t ∷ rest)) (Err r)
          by (at_first m) = refused_first last (us ++ t ∷ rest) r (law_p.limits us x t r m e f last rest tt)
          by (at_second vs ws a w g m) =
              ap (λ (zs : List Lexeme). (p >>= q) last zs) (ap (λ (zs : List Lexeme). zs ++ t ∷ rest) g ∙ append_assoc vs ws (t ∷ rest))
              ∙ read_then vs a w last (ws ++ t ∷ rest) (stops_token vs a w ws x m t rest e)
              ∙ (law_behind vs a w).limits ws x t r m e f last rest tt

      judges_then : (us : List Lexeme) (x : Symbol) (r : Refusal) → Next (Then P Q) us x → x.token ≡ None → x.fault ≡ Some r → (last : Refusal) (rest : List Lexeme) → Stops (Then P Q) us rest → (p >>= q) last (us ++ rest) ≡ Err r
      judges_then us x r n e f last rest stops = by (next_in us x n)
        where
          by : NextIn us x → ◌≡◌ {A = Answer B} ((p >>= q) last (us ++ rest)) (Err r)
          by (at_first m) = refused_first last (us ++ rest) r (law_p.judges us x r m e f last rest tt (stops_first us rest stops))
          by (at_second vs ws a w g m) =
              let here : Stops (Then P Q) (vs ++ ws) rest = stops_same (Then P Q) us (vs ++ ws) rest rest g refl stops in
              ap (λ (zs : List Lexeme). (p >>= q) last zs) (ap (λ (zs : List Lexeme). zs ++ rest) g ∙ append_assoc vs ws rest)
              ∙ read_then vs a w last (ws ++ rest) (stops_within vs a w ws rest (begun_next (Q a) ws x m) here)
              ∙ (law_behind vs a w).judges ws x r m e f last rest tt (stops_second vs a w ws rest here)

      -- ---- one way

      record IsOneWay (a c : A) (ws us : List Lexeme) : Type 0 where
        pub value : c ≡ a
        pub tokens : us ≡ ws

      one_way : (vs : List Lexeme) (a : A) (ws : List Lexeme) (zs : List Lexeme) (c : A) (us : List Lexeme) (rest ts : List Lexeme) → p any_end ts ≡ Ok (a, ws ++ rest) → IsWhole P zs c → Stops P zs (us ++ rest) → ts ≡ zs ++ (us ++ rest) → IsOneWay a c ws us
      one_way vs a ws zs c us rest ts e w stops f =
          let g : Ok (c, us ++ rest) ≡ Ok (a, ws ++ rest) = sym (read_whole P p law_p zs c w any_end (us ++ rest) stops) ∙ ap (p any_end) (sym f) ∙ e in
          record { value = ap (value_in c) g; tokens = append_cancel_right us ws rest (ap rest_in g) }

      module _ (vs : List Lexeme) (a : A) (w : IsWhole P vs a) where
        -- what lies in the second part there is of it behind this text of the first
        next_there : (ws rest : List Lexeme) → Stops P vs (ws ++ rest) → (x : Symbol) (zs us : List Lexeme) (c : A) → IsWhole P zs c → vs ++ ws ≡ zs ++ us → Stops P zs (us ++ rest) → Next (Q c) us x → Next (Q a) ws x
        next_there ws rest stops x zs us c z e other n =
            let o = one_way vs a ws zs c us rest (vs ++ (ws ++ rest)) (read_whole P p law_p vs a w any_end (ws ++ rest) stops) z other
            (sym (append_assoc vs ws rest) ∙ ap (λ (ts : List Lexeme). ts ++ rest) e ∙ append_assoc zs us rest) in
            subst (λ (c : A). Next (Q c) ws x) o.value (subst (λ (us : List Lexeme). Next (Q c) us x) o.tokens n)

        whole_there : (ws rest : List Lexeme) → Stops P vs (ws ++ rest) → (b : B) (zs us : List Lexeme) (c : A) → IsWhole P zs c → vs ++ ws ≡ zs ++ us → Stops P zs (us ++ rest) → IsWhole (Q c) us b → IsWhole (Q a) ws b
        whole_there ws rest stops b zs us c z e other n =
            let o = one_way vs a ws zs c us rest (vs ++ (ws ++ rest)) (read_whole P p law_p vs a w any_end (ws ++ rest) stops) z other
            (sym (append_assoc vs ws rest) ∙ ap (λ (ts : List Lexeme). ts ++ rest) e ∙ append_assoc zs us rest) in
            subst (λ (c : A). IsWhole (Q c) ws b) o.value (subst (λ (us : List Lexeme). IsWhole (Q c) us b) o.tokens n)

        -- no text of the first goes on there
        not_first : (ws : List Lexeme) (x : Symbol) (t : Lexeme) (rest : List Lexeme) → Next P (vs ++ ws) x → x.token ≡ Some t → Stops P vs (ws ++ t ∷ rest) → ⊥
        not_first [] x t rest n e stops = no_longer P p law_p vs a w (n.text ++ x ∷ n.more) n.whole n.is t (tokens n.more)
            (tokens-token n.text x n.more t e ∙ ap (λ (us : List Lexeme). us ++ t ∷ tokens n.more) (n.parts ∙ append-nil vs)) (stops_same P vs vs (t ∷ rest) (t ∷ tokens n.more) refl refl stops)
        not_first (u ∷ ws) x t rest n e stops = no_longer P p law_p vs a w (n.text ++ x ∷ n.more) n.whole n.is u (ws ++ t ∷ tokens n.more)
            (tokens-token n.text x n.more t e ∙ ap (λ (us : List Lexeme). us ++ t ∷ tokens n.more) n.parts ∙ append_assoc vs (u ∷ ws) (t ∷ tokens n.more)) (stops_same P vs vs (u ∷ (ws ++ t ∷ rest)) (u ∷ (ws ++ t ∷ tokens n.more)) refl refl stops)

        -- nor is what is complete there wrong
        not_judged : (ws : List Lexeme) (x : Symbol) (rest : List Lexeme) → Next P (vs ++ ws) x → x.token ≡ None → Stops P vs (ws ++ rest) → x.fault ≡ None
        not_judged [] x rest n e stops = by x.fault refl
          where
            by : (o : Option Refusal) → x.fault ≡ o → o ≡ None
            by None f = refl
            by (Some r) f =
                let stops_there : Stops P (vs ++ []) rest = stops_same P vs (vs ++ []) rest rest (sym (append-nil vs)) refl stops in
                let g : ◌≡◌ {A = Answer A} (Ok (a, rest)) (Err r) = sym (read_whole P p law_p vs a w any_end rest stops) ∙ ap (λ (ts : List Lexeme). p any_end (ts ++ rest)) (sym (append-nil vs)) ∙ law_p.judges (vs ++ []) x r n e f any_end rest tt stops_there in absurd cc
        not_judged (u ∷ ws) x rest n e stops = absurd (no_longer P p law_p vs a w (n.text ++ x ∷ n.more) n.whole n.is u (ws ++ tokens n.more)
            (tokens-point n.text x n.more e ∙ ap (λ (us : List Lexeme). us ++ tokens n.more) n.parts ∙ append_assoc vs (u ∷ ws) (tokens n.more)) (stops_same P vs vs (u ∷ (ws ++ rest)) (u ∷ (ws ++ tokens n.more)) refl refl stops))

      -- ---- agrees

      agrees_then : (us : List Lexeme) (x y : Symbol) (t : Lexeme) → Next (Then P Q) us x → Next (Then P Q) us y → x.token ≡ Some t → y.token ≡ Some t → x.fault ≡ y.fault
      agrees_then us x y t m n e f = by (next_in us x m) (next_in us y n)
        where
          never : (z : Symbol) → Next P us z → z.token ≡ Some t → (v : Symbol) → v.token ≡ Some t → (vs ws : List Lexeme) (a : A) → IsWhole P vs a → us ≡ vs ++ ws → Next (Q a) ws v → ⊥
          never z k g v h vs ws a w i l = not_first vs a w ws z t [] (subst (λ (ts : List Lexeme). Next P ts z) i k) g (stops_token vs a w ws v l t [] h)

          by : NextIn us x → NextIn us y → x.fault ≡ y.fault
          by (at_first k) (at_first l) = law_p.agrees us x y t tt k l e f
          by (at_first k) (at_second vs ws a w g l) = absurd (never x k e y f vs ws a w g l)
          by (at_second vs ws a w g l) (at_first k) = absurd (never y k f x e vs ws a w g l)
          by (at_second vs ws a w g l) (at_second zs os c z h k) =
              (law_behind vs a w).agrees ws x y t tt l (next_there vs a w ws (t ∷ []) (stops_token vs a w ws x l t [] e) y zs os c z (sym g ∙ h) (stops_token zs c z os y k t [] f) k) e f

      -- ---- tells

      module _ (last : Refusal) (ts : List Lexeme) (a : A) (us : List Lexeme) (g : IsText P ts a us) where
        parts_then : (ws rest : List Lexeme) → us ≡ ws ++ rest → ts ≡ (g.us ++ ws) ++ rest
        parts_then ws rest e = g.parts ∙ ap (λ (vs : List Lexeme). g.us ++ vs) e ∙ sym (append_assoc g.us ws rest)

        stops_here : (ws rest : List Lexeme) → us ≡ ws ++ rest → Stops P g.us (ws ++ rest)
        stops_here ws rest e = stops_same P g.us g.us us (ws ++ rest) refl (ap first (sym e)) g.stops

        stops_then : (ws rest : List Lexeme) → us ≡ ws ++ rest → Stops (Q a) ws rest → Stops (Then P Q) (g.us ++ ws) rest
        stops_then ws [] e stops t f k = absurd cc
        stops_then ws (u ∷ rest) e stops t f k = by (next_in (g.us ++ ws) k.at k.next)
          where
            token : k.at.token ≡ Some u
            token = k.token ∙ sym f

            by : NextIn (g.us ++ ws) k.at → ⊥
            by (at_first n) = not_first g.us a g.whole ws k.at u rest n token (stops_here ws (u ∷ rest) e)
            by (at_second zs os c z h n) = stops u refl (record { at = k.at; next = next_there g.us a g.whole ws (u ∷ rest) (stops_here ws (u ∷ rest) e) k.at zs os c z h (stops_token zs c z os k.at n u rest token) n; token = token })

        stuck_then : (ws rest : List Lexeme) → us ≡ ws ++ rest → IsStuck (Q a) ws rest → IsStuck (Then P Q) (g.us ++ ws) rest
        stuck_then ws rest e is = record { begun = begun_second g.us a g.whole ws is.begun; stops = stops; unjudged = unjudged; unfinished = unfinished }
          where
            stops : Stops (Then P Q) (g.us ++ ws) rest
            stops = stops_then ws rest e is.stops

            unjudged : (x : Symbol) → Next (Then P Q) (g.us ++ ws) x → x.token ≡ None → x.fault ≡ None
            unjudged x m f = by (next_in (g.us ++ ws) x m)
              where
                by : NextIn (g.us ++ ws) x → x.fault ≡ None
                by (at_first n) = not_judged g.us a g.whole ws x rest n f (stops_here ws rest e)
                by (at_second zs os c z h n) = is.unjudged x (next_there g.us a g.whole ws rest (stops_here ws rest e) x zs os c z h
                    (stops_within zs c z os rest (begun_next (Q c) os x n) (stops_same (Then P Q) (g.us ++ ws) (zs ++ os) rest rest h refl stops)) n) f

            unfinished : (b : B) → IsWhole (Then P Q) (g.us ++ ws) b → ⊥
            unfinished b v =
                let i = whole_in (g.us ++ ws) b v in
                is.unfinished b (whole_there g.us a g.whole ws rest (stops_here ws rest e) b i.vs i.ws i.a i.first i.parts
                (stops_within i.vs i.a i.first i.ws rest (begun_whole (Q i.a) i.ws b i.second) (stops_same (Then P Q) (g.us ++ ws) (i.vs ++ i.ws) rest rest i.parts refl stops)) i.second)

        second_failed : (r : Refusal) → IsFault (Q a) last us r → IsFault (Then P Q) last ts r
        second_failed r (limit ws x t rest e n f h) = limit (g.us ++ ws) x t rest (parts_then ws (t ∷ rest) e) (next_second g.us a g.whole ws x n) f h
        second_failed r (due ws x rest e n f h stops) = due (g.us ++ ws) x rest (parts_then ws rest e) (next_second g.us a g.whole ws x n) f h (stops_then ws rest e stops)
        second_failed r (stuck ws rest e is) = stuck (g.us ++ ws) rest (parts_then ws rest e) (stuck_then ws rest e is)

        second : (s : Answer B) → Tells (Q a) last us s → Tells (Then P Q) last ts s
        second (Ok s) h = record { us = g.us ++ h.us; parts = parts_then h.us s.1 h.parts; whole = whole_then {P = P} {Q = Q} g.us h.us (g.us ++ h.us) a s.0 refl g.whole h.whole; stops = stops_then h.us s.1 h.parts h.stops }
        second (Err r) f = second_failed r f

      module _ (last : Refusal) (r : Refusal) where
        -- the first part is refused there, so no text of it is whole before
        module _ (us rest : List Lexeme) (e : p last (us ++ rest) ≡ Err r) where
          not_whole : (vs ws : List Lexeme) (a : A) → IsWhole P vs a → us ≡ vs ++ ws → Stops P vs (ws ++ rest) → ⊥
          not_whole vs ws a w f stops =
              let g : ◌≡◌ {A = Answer A} (Ok (a, ws ++ rest)) (Err r) = sym (read_whole P p law_p vs a w last (ws ++ rest) stops) ∙ ap (p last) (sym (append_assoc vs ws rest) ∙ ap (λ (zs : List Lexeme). zs ++ rest) (sym f)) ∙ e in absurd cc

        first_stops : (us rest : List Lexeme) → p last (us ++ rest) ≡ Err r → Stops P us rest → Stops (Then P Q) us rest
        first_stops us [] e stops t f k = absurd cc
        first_stops us (u ∷ rest) e stops t f k = by (next_in us k.at k.next)
          where
            token : k.at.token ≡ Some u
            token = k.token ∙ sym f

            by : NextIn us k.at → ⊥
            by (at_first n) = stops u refl (record { at = k.at; next = n; token = token })
            by (at_second vs ws a w g n) = not_whole us (u ∷ rest) e vs ws a w g (stops_token vs a w ws k.at n u rest token)

        first_stuck : (us rest : List Lexeme) → p last (us ++ rest) ≡ Err r → IsStuck P us rest → IsStuck (Then P Q) us rest
        first_stuck us rest e is = record { begun = begun_first us is.begun; stops = stops; unjudged = unjudged; unfinished = unfinished }
          where
            stops : Stops (Then P Q) us rest
            stops = first_stops us rest e is.stops

            unjudged : (x : Symbol) → Next (Then P Q) us x → x.token ≡ None → x.fault ≡ None
            unjudged x m f = by (next_in us x m)
              where
                by : NextIn us x → x.fault ≡ None
                by (at_first n) = is.unjudged x n f
                by (at_second vs ws a w g n) = absurd (not_whole us rest e vs ws a w g (stops_within vs a w ws rest (begun_next (Q a) ws x n) (stops_same (Then P Q) us (vs ++ ws) rest rest g refl stops)))

            unfinished : (b : B) → IsWhole (Then P Q) us b → ⊥
            unfinished b v =
                let i = whole_in us b v in
                not_whole us rest e i.vs i.ws i.a i.first i.parts (stops_within i.vs i.a i.first i.ws rest (begun_whole (Q i.a) i.ws b i.second) (stops_same (Then P Q) us (i.vs ++ i.ws) rest rest i.parts refl stops))

      first_failed : (last : Refusal) (ts : List Lexeme) (r : Refusal) → p last ts ≡ Err r → IsFault P last ts r → IsFault (Then P Q) last ts r
      first_failed last ts r e (limit us x t rest f n g h) = limit us x t rest f (next_first us x n) g h
      first_failed last ts r e (due us x rest f n g h stops) = due us x rest f (next_first us x n) g h (first_stops last r us rest (ap (p last) (sym f) ∙ e) stops)
      first_failed last ts r e (stuck us rest f is) = stuck us rest f (first_stuck last (refusal_at last Unexpected rest) us rest (ap (p last) (sym f) ∙ e) is)

      tells_by : (last : Refusal) (ts : List Lexeme) (r : Answer A) → p last ts ≡ r → Tells P last ts r → Tells (Then P Q) last ts (answer_and_then r (λ a us. q a last us))
      tells_by last ts (Ok r) e g = second last ts r.0 r.1 g (q r.0 last r.1) ((law_behind g.us r.0 g.whole).tells last r.1 tt)
      tells_by last ts (Err r) e f = first_failed last ts r e f

      pub law_then : Lawful (Then P Q) (p >>= q)
      law_then = record {
        tells = λ last ts on. tells_by last ts (p last ts) refl (law_p.tells last ts tt);
        reads = λ zs b is last rest on stops. reads_then zs b is last rest stops;
        limits = λ us x t r n e f last rest on. limits_then us x t r n e f last rest;
        judges = λ us x r n e f last rest on stops. judges_then us x r n e f last rest stops;
        agrees = λ us x y t on. agrees_then us x y t;
      }
