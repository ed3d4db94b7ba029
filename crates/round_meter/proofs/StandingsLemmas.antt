-- How amoebots stand once some were asked again.
use Rattle.std.proofs.Common.{◌≡◌, ◌∙◌, ◌<◌, ◌≤◌, ◌+◌, ◌⊎◌, ◌&&◌, ℕ, zero, suc, List, [], ◌∷◌, length, Bool, true, false, not, cond, get_or, nat_eq, inl, inr, ap, sym, subst, refl, arith}
use Rattle.std.specs.Prelude.{slice_set}
use Rattle.std.specs.List.{count_by, fold}
use Rattle.std.proofs.lemmas.Bool.{cases_Bool, cases_eq, cases_lt, and_right, eq-eqb, ne_eqb}
use Rattle.std.proofs.lemmas.List.{length-set, get_or-set_same, get_or-set_other, get_or_past}
use Rattle.std.proofs.lemmas.List.Elements.{All-get_or, All-set}
use Rattle.std.proofs.lemmas.List.Sums.{get_or-le-sum_by, sum_by-cons}
use Rattle.amoebot_state.specs.declared.verdict.Verdict.{Verdict}
use Rattle.amoebot_state.specs.Configs.{Config}
use Rattle.amoebot_state.specs.Zones.{Shown}
use Rattle.amoebot_state.proofs.Members.{Has, here, later, has_cases, not_in_none}
use Rattle.round_meter.specs.declared.standing.Standing.{Standing}
use Rattle.round_meter.specs.Rounds.{enabled_in}
use Rattle.round_meter.specs.Meters.{standing_of, waits_in, AreStamped, unsettled}
use Rattle.round_meter.specs.Asking.{after_entry, after_asking, asked_again, next_standings}

-- ---- counts

-- where nothing passes, each element fails
pub count_none : {X : Type 0} (p : X → Bool) (xs : List X) → count_by p xs ≡ 0 → (i : ℕ) (d : X) → i < length xs → p (get_or xs i d) ≡ false
count_none p xs none i d lt = let le = get_or-le-sum_by (λ x. cond {A = ℕ} (p x) 1 0) xs i d lt in elim (cases_Bool (p (get_or xs i d))) [
  | inl t ↦ let one : cond {A = ℕ} (p (get_or xs i d)) 1 0 ≡ cond {A = ℕ} true 1 0 = ap (λ b. cond {A = ℕ} b 1 0) t in absurd (omega (arith, le, one, none))
  | inr fails ↦ fails
]

-- else one passes
pub count_some : {X : Type 0} (p : X → Bool) (xs : List X) (d : X) → (count_by p xs ≡ 0 → ⊥) → (i : ℕ) × (i < length xs) × (p (get_or xs i d) ≡ true)
count_some p [] d some = absurd (some refl)
count_some p (x ∷ xs) d some = elim (cases_Bool (p x)) [
  | inl t ↦ (zero, omega arith, t)
  | inr fails ↦
      let rest = count_some p xs d (λ none. some (sum_by-cons (λ y. cond {A = ℕ} (p y) 1 0) x xs ∙ ap (λ b. cond {A = ℕ} b 1 0 + count_by p xs) fails ∙ omega (arith, none))) in
      let lt = rest.1 in
      (suc rest.0, omega (arith, lt), rest.2)
]

-- ---- one amoebot that is asked again

and_swaps : (a b : Bool) → (a && b) ≡ (b && a)
and_swaps true true = refl
and_swaps true false = refl
and_swaps false true = refl
and_swaps false false = refl

and_again : (a b : Bool) → ((a && b) && b) ≡ (a && b)
and_again true true = refl
and_again true false = refl
and_again false b = refl

and_own : (a b : Bool) → (a && b) ≡ ((a && b) && a)
and_own true true = refl
and_own true false = refl
and_own false b = refl

-- it is enabled or not as it is now, and waits exactly where it did so and is enabled now
pub record IsAsked (round : ℕ) (now : Bool) (s t : Standing) : Type 0 where
  pub flag : t.enabled ≡ now
  pub waits : waits_in round t ≡ (waits_in round s && now)

asked_waits : (now able : Bool) (stamp round : ℕ) → (now && not (nat_eq (cond able stamp round) round)) ≡ ((able && not (nat_eq stamp round)) && now)
asked_waits now true stamp round = and_swaps now (not (nat_eq stamp round))
asked_waits now false stamp round = and_right now (not (nat_eq round round)) (ap not (eq-eqb round round refl))

ask_once : (round : ℕ) (now : Bool) (s : Standing) → IsAsked round now s (after_asking round now s)
ask_once round now s = record { flag = refl; waits = asked_waits now s.enabled s.settled_in round }

ask_twice : (round : ℕ) (now : Bool) (s t : Standing) → IsAsked round now s t → IsAsked round now s (after_asking round now t)
ask_twice round now s t was = record { flag = refl; waits = asked_waits now t.enabled t.settled_in round ∙ ap (λ b. b && now) was.waits ∙ and_again (waits_in round s) now }

-- one that is not asked is as one that is asked, if it is enabled or not as before
unasked : (round : ℕ) (now : Bool) (s : Standing) → s.enabled ≡ now → IsAsked round now s s
unasked round now s same = record { flag = same; waits = and_own s.enabled (not (nat_eq s.settled_in round)) ∙ ap (λ b. waits_in round s && b) same }

has_or_not : (b : ℕ) (ids : List ℕ) → Has b ids ⊎ (Has b ids → ⊥)
has_or_not b [] = inr not_in_none
has_or_not b (i ∷ ids) = elim (cases_eq b i) [
  | inl e ↦ inl (subst (λ j. Has b (j ∷ ids)) e here)
  | inr ne ↦ elim (has_or_not b ids) [
    | inl has ↦ inl (later has)
    | inr lacks ↦ inr (λ has. elim (has_cases has) [ inl e ↦ ne e | inr r ↦ lacks r ])
  ]
]

-- ---- stamps

-- a stamp of an earlier round is none of a later one
pub waits_later : (round : ℕ) (s : Standing) → s.settled_in ≤ round → waits_in (round + 1) s ≡ s.enabled
waits_later round s le = ap (λ q. s.enabled && not q) (ne_eqb s.settled_in (round + 1) (λ e. omega (arith, le, e))) ∙ and_true s.enabled
  where
    and_true : (b : Bool) → (b && true) ≡ b
    and_true true = refl
    and_true false = refl

standing_stamped : (round : ℕ) (ss : List Standing) → AreStamped round ss → (b : ℕ) → (standing_of ss b).settled_in ≤ round
standing_stamped round ss stamped b = elim (cases_lt b (length ss)) [
  | inl lt ↦ All-get_or (λ (s : Standing). s.settled_in ≤ round) ss b unsettled lt stamped
  | inr ge ↦ let none : (standing_of ss b).settled_in ≡ 0 = ap (λ (s : Standing). s.settled_in) (get_or_past ss b unsettled ge) in omega (arith, none)
]

asked_stamped : (round : ℕ) (now : Bool) (s : Standing) → s.settled_in ≤ round → (after_asking round now s).settled_in ≤ round
asked_stamped round now s le = elim (cases_Bool s.enabled) [
  | inl t ↦ subst (λ b. cond b s.settled_in round ≤ round) (sym t) le
  | inr f ↦ subst (λ b. cond b s.settled_in round ≤ round) (sym f) (omega arith)
]

module _ (f : Shown → Verdict) (world : Config) (round : ℕ) where
  pub length-asked : (ids : List ℕ) (ss : List Standing) → length (fold (asked_again f world round) ss ids) ≡ length ss
  length-asked [] ss = refl
  length-asked (i ∷ ids) ss = length-asked ids (asked_again f world round ss i) ∙ length-set ss i (after_asking round (enabled_in f world i) (standing_of ss i))

  all_stamped : (ids : List ℕ) (ss : List Standing) → AreStamped round ss → AreStamped round (fold (asked_again f world round) ss ids)
  all_stamped [] ss stamped = stamped
  all_stamped (i ∷ ids) ss stamped =
      let one = asked_stamped round (enabled_in f world i) (standing_of ss i) (standing_stamped round ss stamped i) in
      all_stamped ids (asked_again f world round ss i) (All-set (λ (s : Standing). s.settled_in ≤ round) ss i (after_asking round (enabled_in f world i) (standing_of ss i)) one stamped)

  -- the one that is asked, and another one
  at_asked : (ss : List Standing) (b : ℕ) → b < length ss → standing_of (asked_again f world round ss b) b ≡ after_asking round (enabled_in f world b) (standing_of ss b)
  at_asked ss b lt = get_or-set_same ss b (after_asking round (enabled_in f world b) (standing_of ss b)) unsettled lt

  at_other : (ss : List Standing) (i b : ℕ) → (b ≡ i → ⊥) → standing_of (asked_again f world round ss i) b ≡ standing_of ss b
  at_other ss i b ne = get_or-set_other ss i b (after_asking round (enabled_in f world i) (standing_of ss i)) unsettled ne

  length-one : (ss : List Standing) (i b : ℕ) → b < length ss → b < length (asked_again f world round ss i)
  length-one ss i b lt = let size = length-set ss i (after_asking round (enabled_in f world i) (standing_of ss i)) in omega (arith, lt, size)

  not_asked : (ids : List ℕ) (ss : List Standing) (b : ℕ) → (Has b ids → ⊥) → standing_of (fold (asked_again f world round) ss ids) b ≡ standing_of ss b
  not_asked [] ss b lacks = refl
  not_asked (i ∷ ids) ss b lacks =
      not_asked ids (asked_again f world round ss i) b (λ has. lacks (later has))
      ∙ at_other ss i b (λ e. lacks (subst (λ j. Has b (j ∷ ids)) e here))

  -- what was asked stays so
  still_asked : (ids : List ℕ) (ss : List Standing) (b : ℕ) (s : Standing) → b < length ss → IsAsked round (enabled_in f world b) s (standing_of ss b) → IsAsked round (enabled_in f world b) s (standing_of (fold (asked_again f world round) ss ids) b)
  still_asked [] ss b s lt was = was
  still_asked (i ∷ ids) ss b s lt was = still_asked ids (asked_again f world round ss i) b s (length-one ss i b lt) (elim (cases_eq b i) [
    | inl e ↦
        let next : IsAsked round (enabled_in f world b) s (standing_of (asked_again f world round ss b) b) = subst (IsAsked round (enabled_in f world b) s) (sym (at_asked ss b lt)) (ask_twice round (enabled_in f world b) s (standing_of ss b) was) in
        subst (λ j. IsAsked round (enabled_in f world b) s (standing_of (asked_again f world round ss j) b)) e next
    | inr ne ↦ subst (IsAsked round (enabled_in f world b) s) (sym (at_other ss i b ne)) was
  ])

  has_asked : (ids : List ℕ) (ss : List Standing) (b : ℕ) (s : Standing) → b < length ss → standing_of ss b ≡ s → Has b ids → IsAsked round (enabled_in f world b) s (standing_of (fold (asked_again f world round) ss ids) b)
  has_asked [] ss b s lt is has = absurd (not_in_none has)
  has_asked (i ∷ ids) ss b s lt is has = elim (cases_eq b i) [
    | inl e ↦
        let once : IsAsked round (enabled_in f world b) s (standing_of (asked_again f world round ss b) b) = subst (IsAsked round (enabled_in f world b) s) (sym (at_asked ss b lt ∙ ap (after_asking round (enabled_in f world b)) is)) (ask_once round (enabled_in f world b) s) in
        still_asked ids (asked_again f world round ss i) b s (length-one ss i b lt) (subst (λ j. IsAsked round (enabled_in f world b) s (standing_of (asked_again f world round ss j) b)) e once)
    | inr ne ↦ has_asked ids (asked_again f world round ss i) b s (length-one ss i b lt) (at_other ss i b ne ∙ is) (elim (has_cases has) [ inl e ↦ absurd (ne e) | inr r ↦ r ])
  ]

  asked_all : (ids : List ℕ) (ss : List Standing) (b : ℕ) → b < length ss → ((Has b ids → ⊥) → (standing_of ss b).enabled ≡ enabled_in f world b)
      → IsAsked round (enabled_in f world b) (standing_of ss b) (standing_of (fold (asked_again f world round) ss ids) b)
  asked_all ids ss b lt same = elim (has_or_not b ids) [
    | inl has ↦ has_asked ids ss b (standing_of ss b) lt refl has
    | inr lacks ↦ subst (IsAsked round (enabled_in f world b) (standing_of ss b)) (sym (not_asked ids ss b lacks)) (unasked round (enabled_in f world b) (standing_of ss b) (same lacks))
  ]

  -- ---- an entry, and then those that are asked

  -- after its entry an amoebot waits no more, and each other one stands as before
  pub entered : (ss : List Standing) (bot b : ℕ) → b < length ss
      → let t = standing_of (slice_set ss bot (after_entry round (standing_of ss bot))) b in
      (t.enabled ≡ (standing_of ss b).enabled) × (waits_in round t ≡ (waits_in round (standing_of ss b) && not (nat_eq bot b)))
  entered ss bot b lt = elim (cases_eq b bot) [
    | inl e ↦
        let own : standing_of (slice_set ss bot (after_entry round (standing_of ss bot))) b ≡ after_entry round (standing_of ss b) =
        subst (λ j. standing_of (slice_set ss j (after_entry round (standing_of ss j))) b ≡ after_entry round (standing_of ss b)) e (get_or-set_same ss b (after_entry round (standing_of ss b)) unsettled lt) in (
          ap (λ (s : Standing). s.enabled) own,
          ap (waits_in round) own
              ∙ and_right (standing_of ss b).enabled (not (nat_eq round round)) (ap not (eq-eqb round round refl))
              ∙ sym (and_right (waits_in round (standing_of ss b)) (not (nat_eq bot b)) (ap not (eq-eqb bot b (sym e)))),
        )
    | inr ne ↦
        let other : standing_of (slice_set ss bot (after_entry round (standing_of ss bot))) b ≡ standing_of ss b = get_or-set_other ss bot b (after_entry round (standing_of ss bot)) unsettled ne in (
          ap (λ (s : Standing). s.enabled) other,
          ap (waits_in round) other ∙ sym (ap (λ q. waits_in round (standing_of ss b) && not q) (ne_eqb bot b (λ e. ne (sym e))) ∙ and_swaps (waits_in round (standing_of ss b)) true),
        )
  ]

  pub length-next : (bot : ℕ) (ids : List ℕ) (ss : List Standing) → length (next_standings f world round bot ids ss) ≡ length ss
  length-next bot ids ss = length-asked ids (slice_set ss bot (after_entry round (standing_of ss bot))) ∙ length-set ss bot (after_entry round (standing_of ss bot))

  pub next_stamped : (bot : ℕ) (ids : List ℕ) (ss : List Standing) → AreStamped round ss → AreStamped round (next_standings f world round bot ids ss)
  next_stamped bot ids ss stamped =
      all_stamped ids (slice_set ss bot (after_entry round (standing_of ss bot))) (All-set (λ (s : Standing). s.settled_in ≤ round) ss bot (after_entry round (standing_of ss bot)) (omega arith) stamped)

  -- how an amoebot stands after an entry, if those that were not asked again are enabled or not as before
  pub next_standing : (bot : ℕ) (ids : List ℕ) (ss : List Standing) (b : ℕ) → b < length ss → ((Has b ids → ⊥) → (standing_of ss b).enabled ≡ enabled_in f world b)
      → let t = standing_of (next_standings f world round bot ids ss) b in
      (t.enabled ≡ enabled_in f world b) × (waits_in round t ≡ ((waits_in round (standing_of ss b) && not (nat_eq bot b)) && enabled_in f world b))
  next_standing bot ids ss b lt same =
      let first = slice_set ss bot (after_entry round (standing_of ss bot)) in
      let first_lt : b < length first = (let size = length-set ss bot (after_entry round (standing_of ss bot)) in omega (arith, lt, size)) in
      let own = entered ss bot b lt in
      let asked = asked_all ids first b first_lt (λ lacks. own.0 ∙ same lacks) in
      (asked.flag, asked.waits ∙ ap (λ w. w && enabled_in f world b) own.1)
