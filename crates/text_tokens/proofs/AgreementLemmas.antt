use Rattle.std.proofs.Common.{◌≡◌, List, [], ◌∷◌, ◌++◌, Some, None, Err, refl, sym, ap, subst, ◌∙◌}
use Rattle.std.proofs.lemmas.Option.{same_Some}
use Rattle.text_tokens.specs.declared.refusal.Refusal.{Refusal}
use Rattle.text_tokens.specs.declared.refusal.RefusalKind.TheVariants.{TooMany, Truncated}
use Rattle.text_tokens.specs.declared.token.TokenKind.TheVariants.{Word}
use Rattle.text_tokens.specs.Text.{Lexeme}
use Rattle.text_tokens.specs.Reading.{Answer}
use Rattle.text_tokens.specs.Grammar.{Symbol, tokens, first_fault, outcome}
use Rattle.text_tokens.specs.Lawful.{Next, Stops, Tells, IsFault, limit, stuck}
use Rattle.text_tokens.specs.Agreement.{r0, Two, short, long, two, AllButAgreement}
use Rattle.text_tokens.proofs.Exactness.{none_stops}
use Rattle.text_tokens.proofs.Parts.{single}

-- where a symbol may be
data At (us : List Lexeme) (x : Symbol) : Type 0 where
  refused : (t : Lexeme) → us ≡ [] → x ≡ record { token = Some t; fault = Some r0 } → At us x
  passed : (t : Lexeme) → us ≡ [] → x ≡ record { token = Some t; fault = None } → At us x
  second : (t u : Lexeme) → us ≡ t ∷ [] → x ≡ record { token = Some u; fault = Some r0 } → At us x

long_by : (t u : Lexeme) (text : List Symbol) (x : Symbol) (more : List Symbol) → record { token = Some t; fault = None } ∷ record { token = Some u; fault = Some r0 } ∷ [] ≡ text ++ x ∷ more → At (tokens text) x
long_by t u [] x more e = let f : record { token = Some t; fault = None } ≡ x = cc in passed t refl (sym f)
long_by t u (z ∷ text) x more e =
    let f : record { token = Some t; fault = None } ≡ z = cc in
    let g : record { token = Some u; fault = Some r0 } ∷ [] ≡ text ++ x ∷ more = cc in
    let s = single (record { token = Some u; fault = Some r0 }) text x more g in
    second t u (ap (λ (z : Symbol). tokens (z ∷ text)) (sym f) ∙ ap (λ (us : List Lexeme). t ∷ us) (ap tokens s.0)) (sym s.1)

at_by : (zs : List Symbol) (a : Unit {0}) (text : List Symbol) (x : Symbol) (more : List Symbol) → Two zs a → zs ≡ text ++ x ∷ more → At (tokens text) x
at_by zs a text x more (short t) e = let s = single (record { token = Some t; fault = Some r0 }) text x more e in refused t (ap tokens s.0) (sym s.1)
at_by zs a text x more (long t u) e = long_by t u text x more e

at : (us : List Lexeme) (x : Symbol) → Next Two us x → At us x
at us x n = subst (λ (ws : List Lexeme). At ws x) n.parts (at_by (n.text ++ x ∷ n.more) n.whole n.text x n.more n.is refl)

no_place : (us : List Lexeme) (x : Symbol) → At us x → x.token ≡ None → ⊥
no_place us x (refused t e f) g = let h : Some t ≡ None = sym (ap (λ (x : Symbol). x.token) f) ∙ g in absurd cc
no_place us x (passed t e f) g = let h : Some t ≡ None = sym (ap (λ (x : Symbol). x.token) f) ∙ g in absurd cc
no_place us x (second t u e f) g = let h : Some u ≡ None = sym (ap (λ (x : Symbol). x.token) f) ∙ g in absurd cc

never_whole : (xs : List Symbol) (a : Unit {0}) → Two xs a → first_fault xs ≡ None → ⊥
never_whole xs a (short t) e = absurd cc
never_whole xs a (long t u) e = absurd cc

stuck_at_end : (last : Refusal) (t : Lexeme) → IsFault Two last (t ∷ []) last
stuck_at_end last t = stuck (t ∷ []) [] refl (record {
  begun = record { text = record { token = Some t; fault = None } ∷ []; more = record { token = Some t; fault = Some r0 } ∷ []; whole = tt; is = long t t; parts = refl; fine = refl };
  stops = none_stops Two (t ∷ []);
  unjudged = λ x n e. absurd (no_place (t ∷ []) x (at (t ∷ []) x n) e);
  unfinished = λ a w. never_whole w.text a w.is w.fine;
})

refused_by : (us : List Lexeme) (x : Symbol) (r : Refusal) (t : Lexeme) (last : Refusal) (rest : List Lexeme) → At us x → x.fault ≡ Some r → two last (us ++ t ∷ rest) ≡ Err r
refused_by us x r t last rest (refused u e f) g = ap (λ (ws : List Lexeme). two last (ws ++ t ∷ rest)) e ∙ ap (λ (s : Refusal). Err s) (same_Some _ _ (sym (ap (λ (x : Symbol). x.fault) f) ∙ g))
refused_by us x r t last rest (passed u e f) g = let h : None ≡ Some r = sym (ap (λ (x : Symbol). x.fault) f) ∙ g in absurd cc
refused_by us x r t last rest (second v u e f) g = ap (λ (ws : List Lexeme). two last (ws ++ t ∷ rest)) e ∙ ap (λ (s : Refusal). Err s) (same_Some _ _ (sym (ap (λ (x : Symbol). x.fault) f) ∙ g))

a_lexeme_free : (last : Refusal) → IsFault Two last [] last
a_lexeme_free last = stuck [] [] refl (record {
  begun = record { text = []; more = _; whole = tt; is = short (record { kind = Word; text = []; «from» = 0; line = 0 }); parts = refl; fine = refl };
  stops = none_stops Two [];
  unjudged = λ x n e. absurd (no_place [] x (at [] x n) e);
  unfinished = λ a w. never_whole w.text a w.is w.fine;
})

tells : (last : Refusal) (ts : List Lexeme) → Tells Two last ts (two last ts)
tells last [] = a_lexeme_free last
tells last (t ∷ ts) = limit [] (record { token = Some t; fault = Some r0 }) t ts refl (record { text = []; more = []; whole = tt; is = short t; parts = refl; fine = refl }) refl refl

reads : (xs : List Symbol) (a : Unit {0}) → Two xs a → (last : Refusal) (rest : List Lexeme) → Stops Two (tokens xs) rest → two last (tokens xs ++ rest) ≡ outcome xs a rest
reads xs a (short t) last rest stops = refl
reads xs a (long t u) last rest stops = refl

abbrev other : Refusal
other = record { line = 0; kind = Truncated }

pub all_but_agreement : AllButAgreement
all_but_agreement = record {
  tells = tells;
  reads = reads;
  limits = λ us x t r n e f last rest. refused_by us x r t last rest (at us x n) f;
  judges = λ us x r n e f last rest stops. absurd (no_place us x (at us x n) e);
  undecided = λ t d.
      let e : ◌≡◌ {A = Answer (Unit {0})} (Err r0) (Err other) = d.one other (t ∷ []) (Err r0) (Err other) (tells other (t ∷ [])) (stuck_at_end other t) in
      let f : r0 ≡ other = cc in
      let k : TooMany ≡ Truncated = ap (λ (r : Refusal). r.kind) f in absurd cc;
}
