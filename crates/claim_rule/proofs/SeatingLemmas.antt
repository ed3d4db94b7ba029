-- The table stands for the same state when records go from one seat to another.
use Rattle.std.proofs.Common.{◌≡◌, ◌≢◌, ℕ, zero, suc, ◌+◌, ◌<◌, ◌⊎◌, List, [], ◌∷◌, ◌++◌, length, set, Some, inl, inr, ap, sym, refl, subst, ◌∙◌, arith, length-set}
use Rattle.std.specs.Prelude.{slice_get}
use Rattle.std.proofs.lemmas.Bool.{cases_eq}
use Rattle.std.proofs.lemmas.Option.{none-some}
use mathlib.Core.Option as home
use lib.ListN.{get_elem?}
use Rattle.atomic_table.specs.Table.{Splits, Joins}
use Rattle.atomic_table.proofs.Lists.{at_set, set_here, set_else, at_longer, at_last}
use Rattle.amoebot_state.specs.declared.verdict.Verdict.{Verdict}
use Rattle.amoebot_state.specs.Zones.{Shown}
use Rattle.claim_core.specs.Machine.{State}
use Rattle.claim_core.proofs.Places.{get-append_left, get-append_right}
use Rattle.claim_rule.specs.declared.views.Record.{Record}
use Rattle.claim_rule.specs.declared.views.Terms.{Terms}
use Rattle.claim_rule.specs.declared.views.View.{View}
use Rattle.claim_rule.specs.Views.{Content, view_of, setup_of_terms}
use Rattle.claim_rule.specs.Manners.{CommitWay, after_by}
use Rattle.claim_rule.specs.Stands.{HasRecord, Stands, KeepsRule}
use Rattle.claim_rule.specs.Seating.{spent}
use Rattle.claim_rule.specs.Internal.{dealt, left_view, joined_view}
use Rattle.claim_rule.specs.Laws.{SplitChangesNothing, JoinChangesNothing}
use Rattle.claim_rule.proofs.Tables.{only}

at_end : {A : Type 0} (xs : List A) (x y : A) (j : ℕ) → get_elem? (xs ++ x ∷ []) j ≡ home.some y → (get_elem? xs j ≡ home.some y) ⊎ ((j ≡ length xs) × (x ≡ y))
at_end [] x y zero e = inr (refl, home.some-injective x y e)
at_end [] x y (suc j) e = absurd (home.some-ne-none y (sym e))
at_end (z ∷ zs) x y zero e = inl e
at_end (z ∷ zs) x y (suc j) e = elim (at_end zs x y j e) [
  | inl there ↦ inl there
  | inr last ↦ inr (ap suc last.0, last.1)
]

within : {A : Type 0} (xs : List A) (i : ℕ) (x : A) → get_elem? xs i ≡ home.some x → i < length xs
within [] i x e = absurd (home.some-ne-none x (sym e))
within (y ∷ ys) zero x e = omega arith
within (y ∷ ys) (suc i) x e = let ih = within ys i x e in omega arith

-- an element of joined lists is one of the first or one of the second
in_either : {A : Type 0} (xs ys : List A) (j : ℕ) (y : A) → slice_get (xs ++ ys) j ≡ Some y → (slice_get xs j ≡ Some y) ⊎ ((m : ℕ) × (j ≡ length xs + m) × (slice_get ys m ≡ Some y))
in_either [] ys j y e = inr (j, omega arith, e)
in_either (x ∷ xs) ys zero y e = inl e
in_either (x ∷ xs) ys (suc j) y e = elim (in_either xs ys j y e) [
  | inl there ↦ inl there
  | inr there ↦ inr (there.0, (let f = there.1 in omega (arith, f)), there.2)
]

none_there : {D : Type 0} (v : View D) (j : ℕ) (q : Record) → v.records ≡ [] → slice_get v.records j ≡ Some q → ⊥
none_there v j q none e = none-some q (ap (λ (rs : List Record). slice_get rs j) (sym none) ∙ e)

module _ {D : Type 0} (verdict : D → Shown → Verdict) (z : Terms D) (way : CommitWay) where
  -- other views that have the same records, each once
  reseated : (s : Content D) (core : State) (views : List (View D)) → Stands verdict z way s core
      → ((d j : ℕ) (v : View D) (q : Record) → get_elem? views d ≡ home.some v → slice_get v.records j ≡ Some q → v.terms ≡ Some z)
      → ((d j : ℕ) (q : Record) → HasRecord views d j q → (e k : ℕ) × HasRecord s.views e k q)
      → ((d j : ℕ) (q : Record) → HasRecord s.views d j q → (e k : ℕ) × HasRecord views e k q)
      → ((d j e k : ℕ) (q p : Record) → HasRecord views d j q → HasRecord views e k p → q.number ≡ p.number → (d ≡ e) × (j ≡ k))
      → Stands verdict z way (record { words = s.words; homes = s.homes; views = views }) core
  reseated s core views st terms back forth one = record {
    words = st.words;
    homes = st.homes;
    views = record {
      terms = terms;
      each = λ d j q has. let was = back d j q has in st.views.each was.0 was.1 q was.2;
      some = λ c lt. let was = st.views.some c lt in let now = forth was.0 was.1 was.2 was.3 in (now.0, now.1, was.2, now.2, was.4);
      one = one;
      held = λ n t there tagged. let was = st.views.held n t there tagged in let now = forth was.0 was.1 was.2 was.3 in (now.0, now.1, was.2, now.2, was.4);
    };
    stamps = λ d j q has. let was = back d j q has in st.stamps was.0 was.1 q was.2;
    few = st.few;
  }

  -- the first record goes to a new seat
  module _ (s : Content D) (core : State) (st : Stands verdict z way s core) (seat : ℕ) (r : Record) (rs : List Record) (there : get_elem? s.views seat ≡ home.some (view_of z (r ∷ rs))) where
    abbrev two : List (View D)
    two = set s.views seat (view_of z rs) ++ view_of z (r ∷ []) ∷ []

    first : HasRecord s.views seat 0 r
    first = (view_of z (r ∷ rs), there, refl)

    later : (j : ℕ) (q : Record) → slice_get rs j ≡ Some q → HasRecord s.views seat (suc j) q
    later j q e = (view_of z (r ∷ rs), there, e)

    split_cases : (d j : ℕ) (q : Record) → HasRecord two d j q → ((d ≡ length s.views) × (j ≡ 0) × (r ≡ q)) ⊎ (((d ≡ seat) × (slice_get rs j ≡ Some q)) ⊎ ((d ≢ seat) × HasRecord s.views d j q))
    split_cases d j q has = elim (at_end (set s.views seat (view_of z rs)) (view_of z (r ∷ [])) has.0 d has.1) [
      | inl old ↦ elim (at_set s.views seat d (view_of z rs) has.0 old) [
        | inl mine ↦ inr (inl (mine.0, subst (λ (v : View D). slice_get v.records j ≡ Some q) (sym mine.1) has.2))
        | inr other ↦ inr (inr (other.0, (has.0, other.1, has.2)))
      ]
      | inr new ↦ let is = only r q j (subst (λ (v : View D). slice_get v.records j ≡ Some q) (sym new.1) has.2) in inl (new.0 ∙ length-set s.views seat (view_of z rs), is.0, is.1)
    ]

    split_terms : (d j : ℕ) (v : View D) (q : Record) → get_elem? two d ≡ home.some v → slice_get v.records j ≡ Some q → v.terms ≡ Some z
    split_terms d j v q at e = elim (at_end (set s.views seat (view_of z rs)) (view_of z (r ∷ [])) v d at) [
      | inl old ↦ elim (at_set s.views seat d (view_of z rs) v old) [
        | inl mine ↦ sym (ap (λ (w : View D). w.terms) mine.1)
        | inr other ↦ st.views.terms d j v q other.1 e
      ]
      | inr new ↦ sym (ap (λ (w : View D). w.terms) new.1)
    ]

    split_back : (d j : ℕ) (q : Record) → HasRecord two d j q → (e k : ℕ) × HasRecord s.views e k q
    split_back d j q has = elim (split_cases d j q has) [
      | inl new ↦ (seat, 0, subst (HasRecord s.views seat 0) new.2 first)
      | inr (inl mine) ↦ (seat, suc j, later j q mine.1)
      | inr (inr other) ↦ (d, j, other.1)
    ]

    split_forth : (d j : ℕ) (q : Record) → HasRecord s.views d j q → (e k : ℕ) × HasRecord two e k q
    split_forth d j q has = elim (cases_eq d seat) [
      | inl e ↦ here j (subst (λ (v : View D). slice_get v.records j ≡ Some q) (home.some-injective _ _ (sym has.1 ∙ ap (get_elem? s.views) e ∙ there)) has.2)
      | inr ne ↦ (d, j, (has.0, at_longer _ _ d has.0 (set_else s.views seat d (view_of z rs) ne ∙ has.1), has.2))
    ]
      where
        here : (k : ℕ) → slice_get (r ∷ rs) k ≡ Some q → (e m : ℕ) × HasRecord two e m q
        here zero e = (length s.views, 0, (view_of z (r ∷ []), at_last _ _ (length s.views) (length-set s.views seat (view_of z rs)), e))
        here (suc k) e = (seat, k, (view_of z rs, at_longer _ _ seat (view_of z rs) (set_here s.views seat (view_of z rs) (within s.views seat _ there)), e))

    split_one : (d j e k : ℕ) (q p : Record) → HasRecord two d j q → HasRecord two e k p → q.number ≡ p.number → (d ≡ e) × (j ≡ k)
    split_one d j e k q p has has' same = elim (split_cases d j q has) [
      | inl a ↦ elim (split_cases e k p has') [
        | inl b ↦ (a.0 ∙ sym b.0, a.1 ∙ sym b.1)
        | inr (inl b) ↦ let w = (st.views.one seat 0 seat (suc k) r p first (later k p b.1) (ap (λ (x : Record). x.number) a.2 ∙ same)).1 in absurd (omega (arith, w))
        | inr (inr b) ↦ absurd (b.0 (sym (st.views.one seat 0 e k r p first b.1 (ap (λ (x : Record). x.number) a.2 ∙ same)).0))
      ]
      | inr (inl a) ↦ elim (split_cases e k p has') [
        | inl b ↦ let w = (st.views.one seat (suc j) seat 0 q r (later j q a.1) first (same ∙ sym (ap (λ (x : Record). x.number) b.2))).1 in absurd (omega (arith, w))
        | inr (inl b) ↦ let w = (st.views.one seat (suc j) seat (suc k) q p (later j q a.1) (later k p b.1) same).1 in (a.0 ∙ sym b.0, omega (arith, w))
        | inr (inr b) ↦ absurd (b.0 (sym (st.views.one seat (suc j) e k q p (later j q a.1) b.1 same).0))
      ]
      | inr (inr a) ↦ elim (split_cases e k p has') [
        | inl b ↦ absurd (a.0 (st.views.one d j seat 0 q r a.1 first (same ∙ sym (ap (λ (x : Record). x.number) b.2))).0)
        | inr (inl b) ↦ absurd (a.0 (st.views.one d j seat (suc k) q p a.1 (later k p b.1) same).0)
        | inr (inr b) ↦ st.views.one d j e k q p a.1 b.1 same
      ]
    ]

  -- the table stands for the same state,
  pub same_split : (core : State) (seat : ℕ) (r : Record) (rs : List Record) → Splits (λ (s : Content D). Stands verdict z way s core) seat (view_of z (r ∷ rs)) (view_of z rs) (view_of z (r ∷ []))
  same_split core seat r rs s st there =
      reseated s core (two s core st seat r rs there) st (split_terms s core st seat r rs there) (split_back s core st seat r rs there) (split_forth s core st seat r rs there) (split_one s core st seat r rs there)

  -- and the rule is kept
  pub splits : (seat : ℕ) (r : Record) (rs : List Record) → Splits (KeepsRule verdict z way) seat (view_of z (r ∷ rs)) (view_of z rs) (view_of z (r ∷ []))
  splits seat r rs s h there = (h.0, same_split (after_by way (setup_of_terms verdict z) h.0) seat r rs s h.1 there)

  -- the records of another seat come in behind the own
  module _ (s : Content D) (core : State) (st : Stands verdict z way s core) (seat other : ℕ) (rs qs : List Record) (there : get_elem? s.views seat ≡ home.some (view_of z rs)) (apart : ¬ (other ≡ seat)) (there' : get_elem? s.views other ≡ home.some (view_of z qs)) where
    abbrev all : List (View D)
    all = set (set s.views seat (view_of z (rs ++ qs))) other spent

    own : (j : ℕ) (q : Record) → slice_get rs j ≡ Some q → HasRecord s.views seat j q
    own j q e = (view_of z rs, there, e)

    its : (j : ℕ) (q : Record) → slice_get qs j ≡ Some q → HasRecord s.views other j q
    its j q e = (view_of z qs, there', e)

    join_cases : (d j : ℕ) (q : Record) → HasRecord all d j q → ((d ≡ seat) × ((slice_get rs j ≡ Some q) ⊎ ((m : ℕ) × (j ≡ length rs + m) × (slice_get qs m ≡ Some q)))) ⊎ ((d ≢ seat) × (d ≢ other) × HasRecord s.views d j q)
    join_cases d j q has = elim (at_set (set s.views seat (view_of z (rs ++ qs))) other d spent has.0 has.1) [
      | inl gone ↦ absurd (none_there has.0 j q (sym (ap (λ (v : View D). v.records) gone.1)) has.2)
      | inr rest ↦ elim (at_set s.views seat d (view_of z (rs ++ qs)) has.0 rest.1) [
        | inl mine ↦ inl (mine.0, in_either rs qs j q (subst (λ (v : View D). slice_get v.records j ≡ Some q) (sym mine.1) has.2))
        | inr else ↦ inr (else.0, rest.0, (has.0, else.1, has.2))
      ]
    ]

    join_terms : (d j : ℕ) (v : View D) (q : Record) → get_elem? all d ≡ home.some v → slice_get v.records j ≡ Some q → v.terms ≡ Some z
    join_terms d j v q at e = elim (at_set (set s.views seat (view_of z (rs ++ qs))) other d spent v at) [
      | inl gone ↦ absurd (none_there v j q (sym (ap (λ (w : View D). w.records) gone.1)) e)
      | inr rest ↦ elim (at_set s.views seat d (view_of z (rs ++ qs)) v rest.1) [
        | inl mine ↦ sym (ap (λ (w : View D). w.terms) mine.1)
        | inr else ↦ st.views.terms d j v q else.1 e
      ]
    ]

    join_back : (d j : ℕ) (q : Record) → HasRecord all d j q → (e k : ℕ) × HasRecord s.views e k q
    join_back d j q has = elim (join_cases d j q has) [
      | inl (e, inl mine) ↦ (seat, j, own j q mine)
      | inl (e, inr theirs) ↦ (other, theirs.0, its theirs.0 q theirs.2)
      | inr else ↦ (d, j, else.2)
    ]

    in_seat : (k : ℕ) (q : Record) → slice_get (rs ++ qs) k ≡ Some q → HasRecord all seat k q
    in_seat k q e = (view_of z (rs ++ qs), set_else _ other seat spent (λ w. apart (sym w)) ∙ set_here s.views seat _ (within s.views seat _ there), e)

    join_forth : (d j : ℕ) (q : Record) → HasRecord s.views d j q → (e k : ℕ) × HasRecord all e k q
    join_forth d j q has = elim (cases_eq d seat) [
      | inl e ↦ (seat, j, in_seat j q (get-append_left rs qs j q (subst (λ (v : View D). slice_get v.records j ≡ Some q) (home.some-injective _ _ (sym has.1 ∙ ap (get_elem? s.views) e ∙ there)) has.2)))
      | inr ne ↦ elim (cases_eq d other) [
        | inl e ↦ (seat, length rs + j, in_seat (length rs + j) q (get-append_right rs qs j (length rs + j) refl ∙ subst (λ (v : View D). slice_get v.records j ≡ Some q) (home.some-injective _ _ (sym has.1 ∙ ap (get_elem? s.views) e ∙ there')) has.2))
        | inr ne' ↦ (d, j, (has.0, set_else _ other d spent ne' ∙ set_else s.views seat d _ ne ∙ has.1, has.2))
      ]
    ]

    join_one : (d j e k : ℕ) (q p : Record) → HasRecord all d j q → HasRecord all e k p → q.number ≡ p.number → (d ≡ e) × (j ≡ k)
    join_one d j e k q p has has' same = elim (join_cases d j q has) [
      | inl (a, inl x) ↦ elim (join_cases e k p has') [
        | inl (b, inl y) ↦ (a ∙ sym b, (st.views.one seat j seat k q p (own j q x) (own k p y) same).1)
        | inl (b, inr y) ↦ absurd (apart (sym (st.views.one seat j other y.0 q p (own j q x) (its y.0 p y.2) same).0))
        | inr y ↦ absurd (y.0 (sym (st.views.one seat j e k q p (own j q x) y.2 same).0))
      ]
      | inl (a, inr x) ↦ elim (join_cases e k p has') [
        | inl (b, inl y) ↦ absurd (apart (st.views.one other x.0 seat k q p (its x.0 q x.2) (own k p y) same).0)
        | inl (b, inr y) ↦ let w = (st.views.one other x.0 other y.0 q p (its x.0 q x.2) (its y.0 p y.2) same).1 in (a ∙ sym b, x.1 ∙ ap (λ m. length rs + m) w ∙ sym y.1)
        | inr y ↦ absurd (y.1 (sym (st.views.one other x.0 e k q p (its x.0 q x.2) y.2 same).0))
      ]
      | inr x ↦ elim (join_cases e k p has') [
        | inl (b, inl y) ↦ absurd (x.0 (st.views.one d j seat k q p x.2 (own k p y) same).0)
        | inl (b, inr y) ↦ absurd (x.1 (st.views.one d j other y.0 q p x.2 (its y.0 p y.2) same).0)
        | inr y ↦ st.views.one d j e k q p x.2 y.2 same
      ]
    ]

  pub same_join : (core : State) (seat other : ℕ) (rs qs : List Record) → Joins (λ (s : Content D). Stands verdict z way s core) seat (view_of z rs) other (view_of z qs) (view_of z (rs ++ qs)) spent
  same_join core seat other rs qs s st there apart there' =
      let was : get_elem? s.views other ≡ home.some (view_of z qs) = sym (set_else s.views seat other (view_of z (rs ++ qs)) apart) ∙ there' in
      reseated s core (all s core st seat other rs qs there apart was) st (join_terms s core st seat other rs qs there apart was) (join_back s core st seat other rs qs there apart was) (join_forth s core st seat other rs qs there apart was)
      (join_one s core st seat other rs qs there apart was)

  pub joins : (seat other : ℕ) (rs qs : List Record) → Joins (KeepsRule verdict z way) seat (view_of z rs) other (view_of z qs) (view_of z (rs ++ qs)) spent
  joins seat other rs qs s h there apart there' = (h.0, same_join (after_by way (setup_of_terms verdict z) h.0) seat other rs qs s h.1 there apart there')

  -- the same of a view that is one with such records
  pub splits_view : (seat : ℕ) (v : View D) (r : Record) (rs : List Record) → v ≡ view_of z (r ∷ rs) → Splits (KeepsRule verdict z way) seat v (left_view v) (dealt v)
  splits_view seat v r rs is = subst (λ (w : View D). Splits (KeepsRule verdict z way) seat w (left_view w) (dealt w)) (sym is) (splits seat r rs)

  pub joins_views : (seat other : ℕ) (v w : View D) (rs qs : List Record) → v ≡ view_of z rs → w ≡ view_of z qs → Joins (KeepsRule verdict z way) seat v other w (joined_view v w) spent
  joins_views seat other v w rs qs is is' = subst (λ (a : View D). Joins (KeepsRule verdict z way) seat a other w (joined_view a w) spent) (sym is) (subst (λ (b : View D). Joins (KeepsRule verdict z way) seat (view_of z rs) other b (joined_view (view_of z rs) b) spent) (sym is') (joins seat other rs qs))

pub split_changes_nothing : {D : Type 0} (way : CommitWay) (verdict : D → Shown → Verdict) → SplitChangesNothing way verdict
split_changes_nothing way verdict z core seat r rs s st there = same_split verdict z way core seat r rs s st there

pub join_changes_nothing : {D : Type 0} (way : CommitWay) (verdict : D → Shown → Verdict) → JoinChangesNothing way verdict
join_changes_nothing way verdict z core seat other rs qs s st there apart there' = same_join verdict z way core seat other rs qs s st there apart there'
