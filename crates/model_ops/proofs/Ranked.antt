-- How members are put in rising id.
use Rattle.std.proofs.Common.{◌≡◌, ◌⊎◌, ◌<◌, ◌≤◌, ◌+◌, ℕ, suc, List, [], ◌∷◌, length, filter, Bool, true, false, not, cond, ◌||◌, ap, ◌∙◌, refl, subst, inl, inr, arith, Some, None, nat_eq, nat_lt}
use Rattle.std.specs.List.{fold, insert, position, position_or_len}
use Rattle.std.specs.Prelude.{unwrap_or}
use Rattle.std.proofs.lemmas.Bool.{cases_Bool, cases_eq, cases_lt, both_ways, eqb-true, eq-eqb, lt-ltb, le-ltb, ltb-true, ltb-false, or_parts}
use Rattle.std.proofs.lemmas.List.{length-take}
use Rattle.std.proofs.lemmas.List.Folds.{length-prefix_len}
use Rattle.amoebot_state.proofs.Members.{Has, here, later, has_cases, not_in_none}
use Rattle.model_ops.specs.declared.member.Member.{Member}
use Rattle.model_ops.specs.Members.{AreApart, has_id, with_member, ranked}

-- the id is below those of the members
abbrev pub IsBelow : ℕ → List Member → Type 0
IsBelow i [] = Unit {0}
IsBelow i (m ∷ ms) = (i < m.id) × IsBelow i ms

-- the members stand in rising id
abbrev pub AreRising : List Member → Type 0
AreRising [] = Unit {0}
AreRising (m ∷ ms) = IsBelow m.id ms × AreRising ms

-- the place before the first that passes, by the first place that does
pub position_or_len-le : {X : Type 0} (p : X → Bool) (xs : List X) → position_or_len p xs ≤ length xs
position_or_len-le p xs = let few = length-prefix_len (λ x. not (p x)) xs in let short = length-take (position_or_len p xs) xs in omega arith

pub place_or_end : {X : Type 0} (p : X → Bool) (xs : List X) → unwrap_or (position p xs) (length xs) ≡ position_or_len p xs
place_or_end p xs = elim (cases_lt (position_or_len p xs) (length xs)) [
  | inl lt ↦ ap (λ l. unwrap_or (cond l (Some (position_or_len p xs)) None) (length xs)) (lt-ltb (position_or_len p xs) (length xs) lt)
  | inr ge ↦ let le = position_or_len-le p xs in ap (λ l. unwrap_or (cond l (Some (position_or_len p xs)) None) (length xs)) (le-ltb (position_or_len p xs) (length xs) (omega arith)) ∙ omega arith
]

-- what is put before the first member with a higher id is at its place
pub inserted : (ms : List Member) (m : Member) → insert ms (position_or_len (λ (n : Member). nat_lt m.id n.id) ms) m ≡ with_member ms m
inserted [] m = refl
inserted (n ∷ ms) m = elim (cases_Bool (nat_lt m.id n.id)) [
  | inl t ↦ rw t refl
  | inr f ↦ rw f (
      let k = position_or_len (λ (l : Member). nat_lt m.id l.id) ms in
      let one : 1 + k ≡ suc k = omega arith in
      ap (λ j. insert (n ∷ ms) j m) one ∙ ap (λ ls. n ∷ ls) (inserted ms m))
]

has_with_member : (ms : List Member) (m : Member) (i : ℕ) → has_id (with_member ms m) i ≡ (nat_eq m.id i || has_id ms i)
has_with_member [] m i = refl
has_with_member (n ∷ ms) m i = elim (cases_Bool (nat_lt m.id n.id)) [
  | inl t ↦ rw t refl
  | inr f ↦ rw f (ap (λ b. nat_eq n.id i || b) (has_with_member ms m i) ∙ either (nat_eq n.id i) (nat_eq m.id i) (has_id ms i))
]
  where
    either : (x y z : Bool) → (x || (y || z)) ≡ (y || (x || z))
    either true true z = refl
    either true false z = refl
    either false y z = refl

below_with_member : (ms : List Member) (m : Member) (i : ℕ) → IsBelow i ms → i < m.id → IsBelow i (with_member ms m)
below_with_member [] m i below lt = (lt, tt)
below_with_member (n ∷ ms) m i below lt = elim (cases_Bool (nat_lt m.id n.id)) [
  | inl t ↦ rw t (lt, below)
  | inr f ↦ rw f (below.0, below_with_member ms m i below.1 lt)
]

below_less : (ms : List Member) (i j : ℕ) → i < j → IsBelow j ms → IsBelow i ms
below_less [] i j lt below = tt
below_less (m ∷ ms) i j lt below = let next = below.0 in (omega arith, below_less ms i j lt below.1)

rising_with_member : (ms : List Member) (m : Member) → AreRising ms → has_id ms m.id ≡ false → AreRising (with_member ms m)
rising_with_member [] m rising new = (tt, tt)
rising_with_member (n ∷ ms) m rising new = elim (cases_Bool (nat_lt m.id n.id)) [
  | inl t ↦ let lt = ltb-true m.id n.id t in rw t ((lt, below_less ms m.id n.id lt rising.0), rising)
  | inr f ↦
      let parts = or_parts (nat_eq n.id m.id) (has_id ms m.id) new in
      let ge : n.id ≤ m.id = ltb-false m.id n.id f in
      let apart : n.id < m.id = elim (cases_eq n.id m.id) [ inl e ↦ absurd (both_ways _ parts.0 (eq-eqb n.id m.id e)) | inr ne ↦ omega arith ] in
      rw f (below_with_member ms m n.id rising.0 apart, rising_with_member ms m rising.1 parts.1)
]

pub length-with_member : (ms : List Member) (m : Member) → length (with_member ms m) ≡ suc (length ms)
length-with_member [] m = refl
length-with_member (n ∷ ms) m = elim (cases_Bool (nat_lt m.id n.id)) [ inl t ↦ rw t refl | inr f ↦ rw f (ap suc (length-with_member ms m)) ]

-- the members with one more are that one and the others
with_member_has : (ms : List Member) (m n : Member) → Has n (with_member ms m) → (n ≡ m) ⊎ Has n ms
with_member_has [] m n = λ has. has_cases has
with_member_has (k ∷ ms) m n = elim (cases_Bool (nat_lt m.id k.id)) as (λ _. Has n (with_member (k ∷ ms) m) → (n ≡ m) ⊎ Has n (k ∷ ms)) [
  | inl t ↦ rw t (λ has. has_cases has)
  | inr f ↦ rw f (λ has. elim (has_cases has) [
    | inl e ↦ inr (subst (λ l. Has n (l ∷ ms)) e here)
    | inr rest ↦ elim (with_member_has ms m n rest) [ inl e ↦ inl e | inr r ↦ inr (later r) ]
  ])
]

Has-with_member_new : (ms : List Member) (m : Member) → Has m (with_member ms m)
Has-with_member_new [] m = here
Has-with_member_new (k ∷ ms) m = elim (cases_Bool (nat_lt m.id k.id)) [ inl t ↦ rw t here | inr f ↦ rw f (later (Has-with_member_new ms m)) ]

Has-with_member_old : (ms : List Member) (m n : Member) → Has n ms → Has n (with_member ms m)
Has-with_member_old [] m n has = absurd (not_in_none has)
Has-with_member_old (k ∷ ms) m n has = elim (cases_Bool (nat_lt m.id k.id)) [
  | inl t ↦ rw t (later has)
  | inr f ↦ rw f (elim (has_cases has) [ inl e ↦ subst (λ l. Has n (l ∷ with_member ms m)) e here | inr rest ↦ later (Has-with_member_old ms m n rest) ])
]

-- and so it is with several more
taken_up_has : (ms acc : List Member) (n : Member) → Has n (fold with_member acc ms) → Has n acc ⊎ Has n ms
taken_up_has [] acc n has = inl has
taken_up_has (m ∷ ms) acc n has = elim (taken_up_has ms (with_member acc m) n has) [
  | inl grown ↦ elim (with_member_has acc m n grown) [ inl e ↦ inr (subst (λ l. Has n (l ∷ ms)) e here) | inr was ↦ inl was ]
  | inr rest ↦ inr (later rest)
]

Has-taken_up_old : (ms acc : List Member) (n : Member) → Has n acc → Has n (fold with_member acc ms)
Has-taken_up_old [] acc n has = has
Has-taken_up_old (m ∷ ms) acc n has = Has-taken_up_old ms (with_member acc m) n (Has-with_member_old acc m n has)

Has-taken_up_new : (ms acc : List Member) (n : Member) → Has n ms → Has n (fold with_member acc ms)
Has-taken_up_new [] acc n has = absurd (not_in_none has)
Has-taken_up_new (m ∷ ms) acc n has = elim (has_cases has) [
  | inl e ↦ Has-taken_up_old ms (with_member acc m) n (subst (λ l. Has n (with_member acc l)) e (Has-with_member_new acc n))
  | inr rest ↦ Has-taken_up_new ms (with_member acc m) n rest
]

rising_taken_up : (ms acc : List Member) → AreApart ms → ((i : ℕ) → has_id ms i ≡ true → has_id acc i ≡ false) → AreRising acc → AreRising (fold with_member acc ms)
rising_taken_up [] acc apart new rising = rising
rising_taken_up (m ∷ ms) acc apart new rising =
    rising_taken_up ms (with_member acc m) apart.1
    (λ i t. has_with_member acc m i ∙ elim (cases_Bool (nat_eq m.id i)) [
      | inl same ↦ absurd (both_ways _ apart.0 (ap (has_id ms) (eqb-true m.id i same) ∙ t))
      | inr f ↦ ap (λ b. b || has_id acc i) f ∙ new i (ap (λ b. b || has_id ms i) f ∙ t)
    ])
    (rising_with_member acc m rising (new m.id (ap (λ b. b || has_id ms m.id) (eq-eqb m.id m.id refl))))

-- ranked members are the same ones, in rising id
pub ranked_has : (ms : List Member) (n : Member) → Has n (ranked ms) → Has n ms
ranked_has ms n has = elim (taken_up_has ms [] n has) [ inl none ↦ absurd (not_in_none none) | inr listed ↦ listed ]

pub Has-ranked : (ms : List Member) (n : Member) → Has n ms → Has n (ranked ms)
Has-ranked ms n has = Has-taken_up_new ms [] n has

pub rising_ranked : (ms : List Member) → AreApart ms → AreRising (ranked ms)
rising_ranked ms apart = rising_taken_up ms [] apart (λ i t. refl) tt

-- some of several members
has_filter : (p : Member → Bool) (ms : List Member) (i : ℕ) → has_id ms i ≡ false → has_id (filter p ms) i ≡ false
has_filter p [] i new = refl
has_filter p (m ∷ ms) i new =
    let parts = or_parts (nat_eq m.id i) (has_id ms i) new in
    elim (cases_Bool (p m)) [
      | inl t ↦ rw t (ap (λ b. b || has_id (filter p ms) i) parts.0 ∙ has_filter p ms i parts.1)
      | inr f ↦ rw f (has_filter p ms i parts.1)
    ]

pub apart_filter : (p : Member → Bool) (ms : List Member) → AreApart ms → AreApart (filter p ms)
apart_filter p [] apart = tt
apart_filter p (m ∷ ms) apart = elim (cases_Bool (p m)) [
  | inl t ↦ rw t (has_filter p ms m.id apart.0, apart_filter p ms apart.1)
  | inr f ↦ rw f (apart_filter p ms apart.1)
]
