-- Choices by the next token.
use Rattle.std.proofs.Common.{◌≡◌, ℕ, zero, suc, Bool, true, false, cond, List, [], ◌∷◌, ◌++◌, Option, Some, None, Err, refl, sym, ap, subst, ◌∙◌}
use Rattle.std.proofs.lemmas.Option.{same_Some}
use Rattle.std.specs.Option.{option_or}
use Rattle.text_tokens.specs.declared.refusal.Refusal.{Refusal}
use Rattle.text_tokens.specs.declared.refusal.RefusalKind.{RefusalKind}
use Rattle.text_tokens.specs.Text.{Lexeme}
use Rattle.text_tokens.specs.Reading.{Answer, Reader, first, pure, refuse, stop, choose, starts_at, either, optional, role_at, by_role, past_kind, full_at, limited}
use Rattle.text_tokens.specs.Grammar.{Symbol, symbol, tokens, first_fault, outcome, Lang, IsNothing, Either, of_first, of_second, IsOptional, past, Limited, in_limit, one_too_many}
use Rattle.text_tokens.specs.Lawful.{Next, GoesOn, Stops, limit, stuck, Tells, Lawful, LawfulAt, Halts, always, IsPart, SomeText, SomeFrom, Starts, limit_at, BeginsNone, IsBranch, IsForeign, RefusesToken, IsChoice, IsHandled, handled, no_role, HasRoles}
use Rattle.text_tokens.proofs.Symbols.{tokens-append}
use Rattle.text_tokens.proofs.CarriedTexts.{law_carried, law_of_some, unmapped, next_as, whole_as, part_same}
use Rattle.text_tokens.proofs.Parts.{some_text, part_less, part_nothing}
use Rattle.text_tokens.proofs.StartsLemmas.{head_or, first_head, first_at, front_token, begins_tokens, starts_in, starts_some, starts_on, starts_place, starts_limited, starts_in_nothing}

pub law_choose : {A : Type 0} (R : Lang A) (by : Option Lexeme → Reader A) → ((next : Option Lexeme) → LawfulAt R next (by next)) → Lawful R (choose by)
law_choose R by laws = record {
  tells = λ last ts on. (laws (first ts)).tells last ts refl;
  reads = λ xs a is last rest on stops. (laws (first (tokens xs ++ rest))).reads xs a is last rest refl stops;
  limits = λ us x t r n e f last rest on. (laws (first (us ++ t ∷ rest))).limits us x t r n e f last rest refl;
  judges = λ us x r n e f last rest on stops. (laws (first (us ++ rest))).judges us x r n e f last rest refl stops;
  agrees = λ us x y t on m n e f. (laws (first (us ++ t ∷ []))).agrees us x y t refl m n e f;
}

-- the first token of what goes on so
begins_at : (us : List Lexeme) (t : Lexeme) (rest : List Lexeme) (text : List Symbol) (x : Symbol) (more : List Symbol) (next : Option Lexeme) → x.token ≡ Some t → tokens text ≡ us → first (us ++ t ∷ rest) ≡ next → (first (tokens (text ++ x ∷ more)) ≡ Some (head_or us t)) × (next ≡ Some (head_or us t))
begins_at us t rest text x more next e f same = (first_at text x more us t e f ∙ first_head us t (tokens more), sym same ∙ first_head us t rest)

begins_before : (u : Lexeme) (us : List Lexeme) (text : List Symbol) (x : Symbol) (more : List Symbol) → tokens text ≡ u ∷ us → first (tokens (text ++ x ∷ more)) ≡ Some u
begins_before u us text x more e = ap first (tokens-append text (x ∷ more) ∙ ap (λ (ws : List Lexeme). ws ++ tokens (x ∷ more)) e)

-- ---- a branch that reads a part of the grammar

module _ {A : Type 0} (next : Option Lexeme) (P R : Lang A) (b : IsBranch next P R) where
  place_back : (us : List Lexeme) (rest : List Lexeme) (x : Symbol) (r : Refusal) → first (us ++ rest) ≡ next → Stops R us rest → Next R us x → x.token ≡ None → x.fault ≡ Some r → Next P us x
  place_back [] rest x r same stops n e f = b.front (λ t g. stops t (same ∙ g)) x r n e f
  place_back (u ∷ us) rest x r same stops n e f = record {
    text = n.text;
    more = n.more;
    whole = n.whole;
    is = b.back (n.text ++ x ∷ n.more) n.whole u n.is (begins_before u us n.text x n.more n.parts) (sym same);
    parts = n.parts;
    fine = n.fine;
  }

  token_back : (us : List Lexeme) (rest : List Lexeme) (x : Symbol) (t : Lexeme) → first (us ++ t ∷ rest) ≡ next → Next R us x → x.token ≡ Some t → Next P us x
  token_back us rest x t same n e =
      let h = begins_at us t rest n.text x n.more next e n.parts same in
      record { text = n.text; more = n.more; whole = n.whole; is = b.back (n.text ++ x ∷ n.more) n.whole (head_or us t) n.is h.0 h.1; parts = n.parts; fine = n.fine }

  text_back : (xs : List Symbol) (a : A) (ts rest : List Lexeme) → R xs a → tokens xs ≡ ts → first (ts ++ rest) ≡ next → Stops R ts rest → P xs a
  text_back xs a [] rest is e same stops = b.empty (λ t g. stops t (same ∙ g)) xs a is e
  text_back xs a (u ∷ us) rest is e same stops = b.back xs a u is (ap first e) (sym same)

  pub law_branch : (p : Reader A) → Lawful P p → LawfulAt R next p
  law_branch p law = law_carried P R (λ a. a) (λ ts. first ts ≡ next) (record {
    next_in = λ us rest x o. next_as P R b.into us x;
    whole_in = λ us rest a o. whole_as P R b.into us a;
    token_out = token_back;
    place_out = place_back;
    text_out = λ xs a rest o stops is. (a, text_back xs a (tokens xs) rest is refl o stops, refl);
  }) p p (λ last ts o. unmapped (p last ts)) (law_of_some P p (λ ts. first ts ≡ next) law)

-- ---- a branch that refuses

module _ {A : Type 0} (next : Option Lexeme) (R : Lang A) (some : SomeText R) (f : IsForeign next R) where
  token_none : (us : List Lexeme) (x : Symbol) (t : Lexeme) (rest : List Lexeme) → Next R us x → x.token ≡ Some t → first (us ++ t ∷ rest) ≡ next → ⊥
  token_none us x t rest n e same = let h = begins_at us t rest n.text x n.more next e n.parts same in f.none (n.text ++ x ∷ n.more) n.whole (head_or us t) n.is h.0 h.1

  place_none : (us : List Lexeme) (x : Symbol) (r : Refusal) (rest : List Lexeme) → Next R us x → x.token ≡ None → x.fault ≡ Some r → first (us ++ rest) ≡ next → ⊥
  place_none [] x r rest n e g same = let h : Some r ≡ None = sym g ∙ f.front x n e in absurd cc
  place_none (u ∷ us) x r rest n e g same = f.none (n.text ++ x ∷ n.more) n.whole u n.is (begins_before u us n.text x n.more n.parts) (sym same)

  text_none : (xs : List Symbol) (a : A) (ts rest : List Lexeme) → R xs a → tokens xs ≡ ts → first (ts ++ rest) ≡ next → ⊥
  text_none xs a [] rest is e same = f.never xs a is e
  text_none xs a (u ∷ us) rest is e same = f.none xs a u is (ap first e) (sym same)

  stops_none : (ts : List Lexeme) → first ts ≡ next → Stops R [] ts
  stops_none [] same t e g = absurd cc
  stops_none (u ∷ ts) same t e g = token_none [] g.at u ts g.next (g.token ∙ sym e) same

  pub law_refuse : LawfulAt R next refuse
  law_refuse = record {
    tells = λ last ts same. stuck [] ts refl (record { begun = record { text = []; more = some.text; whole = some.whole; is = some.is; parts = refl; fine = refl }; stops = stops_none ts same; unjudged = f.front; unfinished = λ a w. f.never w.text a w.is w.parts });
    reads = λ xs a is last rest same stops. absurd (text_none xs a (tokens xs) rest is refl same);
    limits = λ us x t r n e g last rest same. absurd (token_none us x t rest n e same);
    judges = λ us x r n e g last rest same stops. absurd (place_none us x r rest n e g same);
    agrees = λ us x y t same m n e g. absurd (token_none us x t [] m e same);
  }

-- ---- a branch that refuses a token for another kind

module _ {A : Type 0} (t : Lexeme) (kind : RefusalKind) (R : Lang A) (s : RefusesToken t kind R) where
  abbrev why : Refusal
  why = record { line = t.line; kind = kind }

  stopped_next : (text : List Symbol) (x : Symbol) (ys zs : List Symbol) → text ++ x ∷ ys ≡ symbol t (Some kind) ∷ zs → first_fault text ≡ None → (text ≡ []) × (x ≡ symbol t (Some kind))
  stopped_next [] x ys zs e fine = (refl, cc)
  stopped_next (z ∷ text) x ys zs e fine =
      let same : z ≡ symbol t (Some kind) = cc in
      let f : Some why ≡ None = ap (λ (y : Symbol). option_or y.fault (first_fault text)) (sym same) ∙ fine in absurd cc

  at_token : (us : List Lexeme) (x : Symbol) (u : Lexeme) (rest : List Lexeme) → Next R us x → x.token ≡ Some u → first (us ++ u ∷ rest) ≡ Some t → (us ≡ []) × (x ≡ symbol t (Some kind))
  at_token us x u rest n e same =
      let h = begins_at us u rest n.text x n.more (Some t) e n.parts same in
      let o = s.only (n.text ++ x ∷ n.more) n.whole n.is (h.0 ∙ sym h.1) in
      let i = stopped_next n.text x n.more o.0 o.1 n.fine in
      (sym n.parts ∙ ap tokens i.0, i.1)

  next_so : Next R [] (symbol t (Some kind))
  next_so = record { text = []; more = s.some.more; whole = s.some.whole; is = s.some.is; parts = refl; fine = refl }

  begins_so : GoesOn R [] t
  begins_so = record { at = symbol t (Some kind); next = next_so; token = refl }

  at_place : (us : List Lexeme) (x : Symbol) (rest : List Lexeme) → Next R us x → x.token ≡ None → first (us ++ rest) ≡ Some t → Stops R us rest → ⊥
  at_place [] x rest n e same stops = stops t same begins_so
  at_place (u ∷ us) x rest n e same stops =
      let o = s.only (n.text ++ x ∷ n.more) n.whole n.is (begins_before u us n.text x n.more n.parts ∙ same) in
      let i = stopped_next n.text x n.more o.0 o.1 n.fine in
      let f : None ≡ Some t = sym e ∙ ap (λ (y : Symbol). y.token) i.1 in absurd cc

  stop_is : (last : Refusal) (ts : List Lexeme) → first ts ≡ Some t → stop {A = A} kind last ts ≡ Err why
  stop_is last [] e = absurd cc
  stop_is last (u ∷ ts) e = let same : u ≡ t = cc in ap (λ (v : Lexeme). Err (record { line = v.line; kind = kind })) same

  stop_tells : (last : Refusal) (ts : List Lexeme) → first ts ≡ Some t → Tells R last ts (stop {A = A} kind last ts)
  stop_tells last [] e = absurd cc
  stop_tells last (u ∷ ts) e =
      let same : u ≡ t = cc in
      subst (λ (r : Answer A). Tells R last (u ∷ ts) r) (sym (stop_is last (u ∷ ts) e))
      (limit [] (symbol t (Some kind)) t ts (ap (λ (v : Lexeme). v ∷ ts) same) next_so refl refl)

  stop_reads : (xs : List Symbol) (a : A) (us : List Lexeme) → R xs a → tokens xs ≡ us → (last : Refusal) (rest : List Lexeme) → first (us ++ rest) ≡ Some t → Stops R us rest → Err why ≡ outcome xs a rest
  stop_reads xs a [] is e last rest same stops = absurd (stops t same begins_so)
  stop_reads xs a (u ∷ us) is e last rest same stops = let o = s.only xs a is (ap first e ∙ same) in ap (λ (zs : List Symbol). outcome zs a rest) (sym o.1)

  pub law_stop : LawfulAt R (Some t) (stop kind)
  law_stop = record {
    tells = stop_tells;
    reads = λ xs a is last rest same stops. stop_is last (tokens xs ++ rest) same ∙ stop_reads xs a (tokens xs) is refl last rest same stops;
    limits = λ us x u r n e f last rest same. stop_is last (us ++ u ∷ rest) same ∙ ap (λ (s : Refusal). Err s) (same_Some _ _ (sym (ap (λ (y : Symbol). y.fault) (at_token us x u rest n e same).1) ∙ f));
    judges = λ us x r n e f last rest same stops. absurd (at_place us x rest n e same stops);
    agrees = λ us x y u same m n e f. ap (λ (y : Symbol). y.fault) (at_token us x u [] m e same).1 ∙ sym (ap (λ (y : Symbol). y.fault) (at_token us y u [] n f same).1);
  }

-- ---- one of two

module _ {A : Type 0} (P Q : Lang A) (p q : Reader A) (starts : Lexeme → Bool) (over : Lexeme → Option RefusalKind) (stop : Lexeme → Bool) (c : IsChoice P p Q q starts over stop) where
  to_first : (xs : List Symbol) (a : A) (t : Lexeme) → Either P Q xs a → first (tokens xs) ≡ Some t → starts t ≡ true → P xs a
  to_first xs a t (of_first is) e s = is
  to_first xs a t (of_second is) e s = let f : true ≡ false = sym s ∙ c.differ xs a t is e in absurd cc

  to_second : (xs : List Symbol) (a : A) (t : Lexeme) → Either P Q xs a → first (tokens xs) ≡ Some t → starts t ≡ false → Q xs a
  to_second xs a t (of_first is) e s = let f : true ≡ false = sym (starts_in P starts over c.start xs a t is e) ∙ s in absurd cc
  to_second xs a t (of_second is) e s = is

  without_token : (xs : List Symbol) (a : A) → Either P Q xs a → tokens xs ≡ [] → Q xs a
  without_token xs a (of_first is) e = absurd (starts_some P starts over c.start xs a is e)
  without_token xs a (of_second is) e = is

  front_text : (zs : List Symbol) (a : A) (text : List Symbol) (x : Symbol) (more : List Symbol) → Either P Q zs a → zs ≡ text ++ x ∷ more → tokens text ≡ [] → x.token ≡ None → Q zs a
  front_text zs a text x more (of_first is) e f g =
      let b = c.start.begins zs a is in
      let h : None ≡ Some b.t = sym g ∙ front_token text x more (symbol b.t (over b.t)) b.more b.t (sym b.parts ∙ e) refl f in absurd cc
  front_text zs a text x more (of_second is) e f g = is

  first_on : (t : Lexeme) → starts t ≡ true → GoesOn (Either P Q) [] t
  first_on t e = let g = starts_on P starts over c.start t e in record { at = g.at; next = next_as P (Either P Q) (λ xs a is. of_first is) [] g.at g.next; token = g.token }

  begins_there : (next : Option Lexeme) → starts_at starts next ≡ true → BeginsNone next (Either P Q) → ⊥
  begins_there None y none = absurd cc
  begins_there (Some t) y none = none t refl (first_on t y)

  at_first : (next : Option Lexeme) → starts_at starts next ≡ true → IsBranch next P (Either P Q)
  at_first next y = record {
    into = λ xs a is. of_first is;
    back = λ xs a t is e same. to_first xs a t is e (ap (starts_at starts) (sym same) ∙ y);
    empty = λ none xs a is e. absurd (begins_there next y none);
    front = λ none x r n e f. absurd (begins_there next y none);
  }

  at_second : (next : Option Lexeme) → starts_at starts next ≡ false → IsBranch next Q (Either P Q)
  at_second next y = record {
    into = λ xs a is. of_second is;
    back = λ xs a t is e same. to_second xs a t is e (ap (starts_at starts) (sym same) ∙ y);
    empty = λ none xs a is e. without_token xs a is e;
    front = λ none x r n e f. record { text = n.text; more = n.more; whole = n.whole; is = front_text (n.text ++ x ∷ n.more) n.whole n.text x n.more n.is refl n.parts e; parts = n.parts; fine = n.fine };
  }

  by_next : (next : Option Lexeme) (b : Bool) → starts_at starts next ≡ b → LawfulAt (Either P Q) next (cond b p q)
  by_next next true y = law_branch next P (Either P Q) (at_first next y) p c.one.law
  by_next next false y = law_branch next Q (Either P Q) (at_second next y) q c.other.law

  law_either : Lawful (Either P Q) (either starts p q)
  unfolding either
  law_either = law_choose (Either P Q) _ (λ next. by_next next (starts_at starts next) refl)

  on_first : (us : List Lexeme) (t : Lexeme) → GoesOn (Either P Q) us t → starts (head_or us t) ≡ true → GoesOn P us t
  on_first us t g s = let n = g.next in record { at = g.at; next = record { text = n.text; more = n.more; whole = n.whole; is = to_first (n.text ++ g.at ∷ n.more) n.whole (head_or us t) n.is (first_at n.text g.at n.more us t g.token n.parts ∙ first_head us t (tokens n.more)) s; parts = n.parts; fine = n.fine }; token = g.token }

  on_second : (us : List Lexeme) (t : Lexeme) → GoesOn (Either P Q) us t → starts (head_or us t) ≡ false → GoesOn Q us t
  on_second us t g s = let n = g.next in record { at = g.at; next = record { text = n.text; more = n.more; whole = n.whole; is = to_second (n.text ++ g.at ∷ n.more) n.whole (head_or us t) n.is (first_at n.text g.at n.more us t g.token n.parts ∙ first_head us t (tokens n.more)) s; parts = n.parts; fine = n.fine }; token = g.token }

  second_head : (xs : List Symbol) (a : A) (t : Lexeme) (us : List Lexeme) → Q xs a → tokens xs ≡ us → stop t ≡ true → starts (head_or us t) ≡ false
  second_head xs a t [] is e s = c.ends xs a t is e s
  second_head xs a t (u ∷ us) is e s = c.differ xs a u is (ap first e)

  halts_either : Halts (Either P Q) stop
  halts_either xs a t (of_first is) e g =
      let b = c.start.begins xs a is in
      c.one.halts xs a t is e (on_first (tokens xs) t g (ap (λ (us : List Lexeme). starts (head_or us t)) (begins_tokens starts over xs b) ∙ b.passes))
  halts_either xs a t (of_second is) e g = c.other.halts xs a t is e (on_second (tokens xs) t g (second_head xs a t (tokens xs) is refl e))

  pub part_either : IsPart (Either P Q) (either starts p q) stop
  part_either = record { law = law_either; halts = halts_either }

pub part_optional : {A : Type 0} (a : A) (P : Lang A) (p : Reader A) (starts : Lexeme → Bool) (over : Lexeme → Option RefusalKind) (stop : Lexeme → Bool) → Starts P starts over → IsPart P p stop → ((t : Lexeme) → stop t ≡ true → starts t ≡ false) → IsPart (IsOptional a P) (optional starts a p) stop
part_optional {A} a P p starts over stop start part ends = part_either P (IsNothing a) p (pure a) starts over stop (record {
  one = part;
  other = part_less (IsNothing a) (pure a) always stop (λ t e. refl) (part_nothing a);
  start = start;
  differ = starts_none;
  ends = λ xs b t is e f. ends t f;
})
  where
    starts_none : (xs : List Symbol) (b : A) (t : Lexeme) → IsNothing a xs b → first (tokens xs) ≡ Some t → starts t ≡ false
    starts_none xs b t is e = let f : true ≡ false = sym (starts_in_nothing a (λ u. false) xs b t is e) in absurd cc

-- ---- by the role of the next token

module _ {A K : Type 0} (role : Lexeme → K) (over : Lexeme → Option RefusalKind) (P : K → Lang A) (R : Lang A) (h : HasRoles role over P R) where
  in_role : (xs : List Symbol) (a : A) (t : Lexeme) → R xs a → first (tokens xs) ≡ Some t → P (role t) xs a
  in_role xs a t is e = let v = h.view xs a is in subst (λ (u : Lexeme). P (role u) xs a) (same_Some _ _ (sym (ap (λ (zs : List Symbol). first (tokens zs)) v.parts) ∙ e)) v.is

  pub roles_some : (xs : List Symbol) (a : A) → R xs a → tokens xs ≡ [] → ⊥
  roles_some xs a is e = let v = h.view xs a is in let f : v.t ∷ tokens v.more ≡ [] = sym (ap tokens v.parts) ∙ e in absurd cc

  front : (x : Symbol) → Next R [] x → x.token ≡ None → ⊥
  front x n e =
      let v = h.view (n.text ++ x ∷ n.more) n.whole n.is in
      let f : None ≡ Some v.t = sym e ∙ front_token n.text x n.more (symbol v.t (over v.t)) v.more v.t (sym v.parts) refl n.parts in absurd cc

  pub starts_roles : (starts : Lexeme → Bool) → ((xs : List Symbol) (a : A) (t : Lexeme) → P (role t) xs a → starts t ≡ true) → ((t : Lexeme) → starts t ≡ true → SomeFrom R (symbol t (over t))) → Starts R starts over
  starts_roles starts all each = record { begins = λ xs a is. let v = h.view xs a is in record { t = v.t; more = v.more; parts = v.parts; passes = all xs a v.t v.is }; each = each }

  module _ (p : K → Reader A) (stop : Lexeme → Bool) (parts : (k : K) → IsHandled (P k) (p k) stop) where
    back_to : (t : Lexeme) (k : K) → role t ≡ k → (xs : List Symbol) (a : A) (u : Lexeme) → R xs a → first (tokens xs) ≡ Some u → Some t ≡ Some u → P k xs a
    back_to t k e xs a u is f same = subst (λ (k : K). P k xs a) (ap role (sym (same_Some _ _ same)) ∙ e) (in_role xs a u is f)

    at_role : (t : Lexeme) (k : K) → role t ≡ k → IsHandled (P k) (p k) stop → LawfulAt R (Some t) (p k)
    at_role t k e (handled part) = law_branch (Some t) (P k) R (record {
      into = h.from k;
      back = back_to t k e;
      empty = λ none xs a is f. absurd (roles_some xs a is f);
      front = λ none x r n f g. absurd (front x n f);
    }) (p k) part.law
    at_role t k e (no_role none same) = subst (λ (q : Reader A). LawfulAt R (Some t) q) (sym same) (law_refuse (Some t) R h.some (record {
      none = λ xs a u is f g. none xs a (back_to t k e xs a u is f g);
      never = roles_some;
      front = λ x n f. absurd (front x n f);
    }))

    at_next : (next : Option Lexeme) → LawfulAt R next (role_at role p next)
    at_next None = law_refuse None R h.some (record { none = λ xs a t is e same. absurd cc; never = roles_some; front = λ x n e. absurd (front x n e) })
    at_next (Some t) = at_role t (role t) refl (parts (role t))

    law_roles : Lawful R (by_role role p)
    unfolding by_role
    law_roles = law_choose R (role_at role p) at_next

    halts_by : (k : K) → IsHandled (P k) (p k) stop → Halts (P k) stop
    halts_by k (handled part) xs a t is e g = part.halts xs a t is e g
    halts_by k (no_role none same) xs a t is e g = none xs a is

    halts_roles : Halts R stop
    halts_roles xs a t is e g =
        let v = h.view xs a is in
        let n = g.next in
        let f : first (tokens (n.text ++ g.at ∷ n.more)) ≡ Some v.t = first_at n.text g.at n.more (v.t ∷ tokens v.more) t g.token (n.parts ∙ ap tokens v.parts) in
        halts_by (role v.t) (parts (role v.t)) xs a t v.is e (record { at = g.at; next = record { text = n.text; more = n.more; whole = n.whole; is = in_role (n.text ++ g.at ∷ n.more) n.whole v.t n.is f; parts = n.parts; fine = n.fine }; token = g.token })

    pub part_roles : IsPart R (by_role role p) stop
    part_roles = record { law = law_roles; halts = halts_roles }

-- ---- where so many may come

module _ {A : Type 0} (P : Lang A) (p : Reader A) (starts : Lexeme → Bool) (over : Lexeme → Option RefusalKind) (start : Starts P starts over) (stop_at : Lexeme → Bool) (part : IsPart P p stop_at) where
  some_full : SomeText (Limited P zero)
  some_full = let s = some_text P p part.law in record { text = past s.text; whole = s.whole; is = one_too_many s.is }

  full_starts : Starts (Limited P zero) starts (limit_at over zero)
  full_starts = starts_limited P starts over start zero

  foreign : (next : Option Lexeme) → starts_at starts next ≡ false → IsForeign next (Limited P zero)
  foreign next n = record {
    none = λ xs a t is e same. let f : true ≡ false = sym (starts_in (Limited P zero) starts (limit_at over zero) full_starts xs a t is e) ∙ ap (starts_at starts) (sym same) ∙ n in absurd cc;
    never = starts_some (Limited P zero) starts (limit_at over zero) full_starts;
    front = λ x m e. absurd (starts_place (Limited P zero) starts (limit_at over zero) full_starts x m e);
  }

  stopped : (t : Lexeme) → starts t ≡ true → RefusesToken t (past_kind (over t)) (Limited P zero)
  stopped t y = record { some = full_starts.each t y; only = only }
    where
      only : (xs : List Symbol) (a : A) → Limited P zero xs a → first (tokens xs) ≡ Some t → (more : List Symbol) × (xs ≡ symbol t (Some (past_kind (over t))) ∷ more)
      only xs a is e =
          let b = full_starts.begins xs a is in
          let same : b.t ≡ t = same_Some _ _ (sym (ap first (begins_tokens starts (limit_at over zero) xs b)) ∙ e) in
          (b.more, b.parts ∙ ap (λ (u : Lexeme). symbol u (Some (past_kind (over u))) ∷ b.more) same)

  full_by : (t : Lexeme) (b : Bool) → starts t ≡ b → LawfulAt (Limited P zero) (Some t) (cond b (stop (past_kind (over t))) refuse)
  full_by t true e = law_stop t (past_kind (over t)) (Limited P zero) (stopped t e)
  full_by t false e = law_refuse (Some t) (Limited P zero) some_full (foreign (Some t) e)

  full_next : (next : Option Lexeme) → LawfulAt (Limited P zero) next (full_at starts over next)
  full_next None = law_refuse None (Limited P zero) some_full (foreign None refl)
  full_next (Some t) = full_by t (starts t) refl

  -- behind the first token of one too many nothing comes
  full_halts : Halts (Limited P zero) stop_at
  full_halts xs a t is e g =
      let b = full_starts.begins xs a is in
      let n = g.next in
      let c = full_starts.begins (n.text ++ g.at ∷ n.more) n.whole n.is in
      let f = stopped_next c.t (past_kind (over c.t)) (Limited P zero) (stopped c.t c.passes) n.text g.at n.more c.more c.parts n.fine in
      let h : b.t ∷ tokens b.more ≡ [] = sym (begins_tokens starts (limit_at over zero) xs b) ∙ sym n.parts ∙ ap tokens f.0 in absurd cc

  unlimited : (room : ℕ) (xs : List Symbol) (a : A) → Limited P (suc room) xs a → P xs a
  unlimited room xs a (in_limit is) = is

  pub part_limited : (room : ℕ) → IsPart (Limited P room) (limited starts over room p) stop_at
  unfolding limited
  part_limited zero = record { law = law_choose (Limited P zero) (full_at starts over) full_next; halts = full_halts }
  part_limited (suc room) = part_same P (Limited P (suc room)) (λ xs a is. in_limit is) (unlimited room) p stop_at part
