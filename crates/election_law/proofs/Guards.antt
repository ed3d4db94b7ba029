-- What the guards of `erosion` ask, piece by piece. No goal here holds the whole tree.
use Rattle.std.proofs.Common.{◌≡◌, ◌∙◌, ℕ, ◌+◌, ◌%◌, Bool, true, false, ◌&&◌, not, [], ◌∷◌, ap, refl, sym, arith, Some, None}
use Rattle.std.specs.Prelude.{pos, ◌+ℤ◌, if◌then◌else◌, nat_eq, codes, Result, Ok, Err}
use Rattle.std.specs.Ordering.{int_eq}
use Rattle.std.proofs.lemmas.Bool.{eqb-true, eq-eqb}
use Rattle.std.proofs.lemmas.Bool.Decides.{Decides-int_eq}
use Rattle.std.proofs.lemmas.Int.{ints}
use Rattle.amoebot_state.specs.declared.bot.Port.{Port}
use Rattle.amoebot_state.specs.declared.verdict.Failure.{Failure}
use Rattle.amoebot_state.specs.Ports.{port}
use Rattle.model_ops.specs.Operations.{and_then}
use Rattle.model_ops.specs.Sights.{Sight}
use Rattle.action_tree.specs.declared.expression.PortSet.TheVariants.{Ports}
use Rattle.action_tree.specs.declared.expression.Cmp.TheVariants.{Eq}
use Rattle.action_tree.specs.Trees as tree
use Rattle.action_tree.specs.Shipped.{example_name, literal, own_is, there_is, equals, some_port, and, erosion, p}
use Rattle.action_meaning.specs.Names.{Names, bind}
use Rattle.action_meaning.specs.Choices.{Asked, is_true, any_of_ports, count_of_ports}
use Rattle.action_meaning.specs.Values.{guard_value, ports_of, compare, signed, whole}
use Rattle.action_meaning.specs.Verdicts.{names_at_start}

-- a result that is a number, compared with one
abbrev pub compared : Result ℕ Failure → ℕ → Result Bool Failure
compared (Ok k) n = Ok (nat_eq k n)
compared (Err f) n = Err f

same_test : (t u : Bool) → (t ≡ true → u ≡ true) → (u ≡ true → t ≡ true) → t ≡ u
same_test true u to from = sym (to refl)
same_test false true to from = from refl
same_test false false to from = refl

same_number : (k n : ℕ) → int_eq (pos k +ℤ pos 0) (pos n +ℤ pos 0) ≡ nat_eq k n
same_number k n = same_test _ _
    (λ t. let e = (Decides-int_eq (pos k +ℤ pos 0) (pos n +ℤ pos 0)).0 t in let same : k ≡ n = omega (arith, ints) in eq-eqb k n same)
    (λ t. let same = eqb-true k n t in (Decides-int_eq (pos k +ℤ pos 0) (pos n +ℤ pos 0)).1 (ap (λ m. pos m +ℤ pos 0) same))

-- a sum of one term that is a number, compared with one
said : (r : Result ℕ Failure) (n : ℕ)
    → and_then (and_then (whole r) (λ x. and_then (Ok (pos 0)) (λ y. Ok (signed false x +ℤ y))))
    (λ x. and_then (and_then (Ok (pos n)) (λ z. and_then (Ok (pos 0)) (λ y. Ok (signed false z +ℤ y)))) (λ y. Ok (compare Eq x y)))
    ≡ compared r n
said (Ok k) n = ap Ok (same_number k n)
said (Err f) n = refl

-- the names in force at the start of an action of `erosion`, and the same with a port bound
abbrev pub at_start : Names
at_start = names_at_start erosion

abbrev pub at_port : Port → Names
at_port q = bind at_start (example_name (codes "p")) q

-- the port in the next local direction
abbrev pub next_port : Port → Port
next_port q = port q.end ((q.dir + 1) % 6)

-- ---- the guard of `lead`

abbrev pub lead_guard : tree.Guard
lead_guard = and (own_is (codes "cand") 1 ∷ own_is (codes "leader") 0 ∷ tree.negation (some_port (there_is p (codes "cand") 1)) ∷ [])

-- a port's amoebot has `cand` 1
abbrev pub has_cand : Sight → Asked
has_cand s q = compared (s.reads (Some q) 0) 1

all_three : Result Bool Failure → Result Bool Failure → Result Bool Failure → Result Bool Failure
all_three a b c =
    and_then a (λ x. if x
    then and_then b (λ y. if y then and_then (and_then c (λ z. Ok (not z))) (λ z. if z then Ok true else Ok false) else Ok false)
    else Ok false)

lead_said : (s : Sight) → guard_value s at_start lead_guard ≡ all_three (compared (s.reads None 0) 1) (compared (s.reads None 1) 0) (any_of_ports (has_cand s) (ports_of s Ports))
unfolding all_three
lead_said s = λ i. all_three (said (s.reads None 0) 1 i) (said (s.reads None 1) 0 i) (any_of_ports (λ q. said (s.reads (Some q) 0) 1 i) (ports_of s Ports))

-- what each of the three comes to
all_told : (a b c : Result Bool Failure) → all_three a b c ≡ Ok true → (a ≡ Ok true) × (b ≡ Ok true) × (c ≡ Ok false)
unfolding all_three
all_told (Ok true) (Ok true) (Ok false) e = (refl, refl, refl)
all_told (Ok true) (Ok true) (Ok true) e = absurd (cc)
all_told (Ok true) (Ok true) (Err f) e = absurd (cc)
all_told (Ok true) (Ok false) c e = absurd (cc)
all_told (Ok true) (Err f) c e = absurd (cc)
all_told (Ok false) b c e = absurd (cc)
all_told (Err f) b c e = absurd (cc)

-- the number is the one that it is compared with
pub number_told : (r : Result ℕ Failure) (n : ℕ) → compared r n ≡ Ok true → r ≡ Ok n
number_told (Ok k) n e = let t : nat_eq k n ≡ true = cc in ap Ok (eqb-true k n t)
number_told (Err f) n e = absurd (cc)

pub record LeadsBy (s : Sight) : Type 0 where
  pub cand : s.reads None 0 ≡ Ok 1
  pub leader : s.reads None 1 ≡ Ok 0
  pub alone : any_of_ports (has_cand s) (ports_of s Ports) ≡ Ok false

pub lead_told : (s : Sight) → guard_value s at_start lead_guard ≡ Ok true → LeadsBy s
lead_told s e =
    let told = all_told _ _ _ (sym (lead_said s) ∙ e) in
    record { cand = number_told _ 1 told.0; leader = number_told _ 0 told.1; alone = told.2 }

-- ---- the guard of `erode`

abbrev pub last_guard : tree.Guard
last_guard = and (there_is p (codes "cand") 1 ∷ tree.negation (and (tree.tested tree.linked (tree.turned p (literal 1)) ∷ there_is (tree.turned p (literal 1)) (codes "cand") 1 ∷ [])) ∷ [])

abbrev pub erode_guard : tree.Guard
erode_guard = and (own_is (codes "cand") 1 ∷ equals (tree.count (example_name (codes "p")) Ports last_guard) (tree.number (literal 1)) ∷ [])

-- a port's amoebot is a candidate, and the next one is none or no candidate
abbrev pub is_last : Sight → Asked
is_last s q = guard_value s (at_port q) last_guard

pub last_of : Result Bool Failure → Result Bool Failure → Result Bool Failure → Result Bool Failure
last_of a l z =
    and_then a (λ x. if x
    then and_then (and_then (and_then l (λ y. if y then and_then z (λ w. if w then Ok true else Ok false) else Ok false)) (λ y. Ok (not y))) (λ y. if y then Ok true else Ok false)
    else Ok false)

pub last_said : (s : Sight) (q : Port) → is_last s q ≡ last_of (has_cand s q) (s.connects (next_port q)) (has_cand s (next_port q))
unfolding last_of
last_said s q = λ i. last_of (said (s.reads (Some q) 0) 1 i) (s.connects (next_port q)) (said (s.reads (Some (next_port q)) 0) 1 i)

-- where the next port is not asked, its amoebot is none
pub last_is : (a l z : Bool) (r : Result Bool Failure) → (l ≡ true → r ≡ Ok z) → (l ≡ false → z ≡ false) → is_true (last_of (Ok a) (Ok l) r) ≡ (a && not z)
unfolding last_of
last_is false l z r asked unasked = refl
last_is true false z r asked unasked = ap not (sym (unasked refl))
last_is true true true r asked unasked = ap (λ t. is_true (last_of (Ok true) (Ok true) t)) (asked refl)
last_is true true false r asked unasked = ap (λ t. is_true (last_of (Ok true) (Ok true) t)) (asked refl)

both_of : Result Bool Failure → Result Bool Failure → Result Bool Failure
both_of a b = and_then a (λ x. if x then and_then b (λ y. if y then Ok true else Ok false) else Ok false)

erode_said : (s : Sight) → guard_value s at_start erode_guard ≡ both_of (compared (s.reads None 0) 1) (compared (count_of_ports (is_last s) (ports_of s Ports)) 1)
unfolding both_of
erode_said s = λ i. both_of (said (s.reads None 0) 1 i) (said (count_of_ports (is_last s) (ports_of s Ports)) 1 i)

both_told : (a b : Result Bool Failure) → both_of a b ≡ Ok true → (a ≡ Ok true) × (b ≡ Ok true)
unfolding both_of
both_told (Ok true) (Ok true) e = (refl, refl)
both_told (Ok true) (Ok false) e = absurd (cc)
both_told (Ok true) (Err f) e = absurd (cc)
both_told (Ok false) b e = absurd (cc)
both_told (Err f) b e = absurd (cc)

pub record ErodesBy (s : Sight) : Type 0 where
  pub cand : s.reads None 0 ≡ Ok 1
  pub last : count_of_ports (is_last s) (ports_of s Ports) ≡ Ok 1

pub erode_told : (s : Sight) → guard_value s at_start erode_guard ≡ Ok true → ErodesBy s
erode_told s e =
    let told = both_told _ _ (sym (erode_said s) ∙ e) in
    record { cand = number_told _ 1 told.0; last = number_told _ 1 told.1 }
