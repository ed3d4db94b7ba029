-- What is known to hold or not to hold, and what is known of what is made of it.
use Rattle.std.proofs.Common.{◌≡◌, ◌⊎◌, ◌<◌, ◌*◌, ℕ, zero, suc, Bool, true, false, inl, inr, refl, subst, arith}
use Rattle.std.specs.Prelude.{IsTrue, Decides}
use Rattle.std.proofs.lemmas.Bool.{cases_Bool, cases_lt, cases_eq, both_ways, false≢true}
use Rattle.tri_lattice.specs.declared.node.Node.{Node}
use Rattle.tri_lattice.specs.Extent.{Extent, is_in, node_at}
use Rattle.shape_checks.proofs.GrownMarks.{no_node}

abbrev pub Known : Type 0 → Type 0
Known P = P ⊎ (¬ P)

pub answer : {P : Type 0} → Known P → (b : Bool) × Decides b P
answer (inl holds) = (true, (λ _. holds, λ _. refl))
answer (inr fails) = (false, (λ e. absurd (false≢true e), λ h. absurd (fails h)))

pub known_like : {P Q : Type 0} → (P → Q) → (Q → P) → Known P → Known Q
known_like to from (inl holds) = inl (to holds)
known_like to from (inr fails) = inr (λ h. fails (from h))

pub known_true : (b : Bool) → Known (IsTrue b)
known_true b = elim (cases_Bool b) [ inl t ↦ inl t | inr f ↦ inr (both_ways b f) ]

pub known_false : (b : Bool) → Known (b ≡ false)
known_false b = elim (cases_Bool b) [ inl t ↦ inr (λ f. both_ways b f t) | inr f ↦ inl f ]

pub known_less : (m n : ℕ) → Known (m < n)
known_less m n = elim (cases_lt m n) [ inl lt ↦ inl lt | inr ge ↦ inr (λ lt. absurd (omega arith)) ]

pub known_not : {P : Type 0} → Known P → Known (¬ P)
known_not (inl holds) = inr (λ fails. fails holds)
known_not (inr fails) = inl fails

pub known_both : {P Q : Type 0} → Known P → Known Q → Known (P × Q)
known_both (inl p) (inl q) = inl (p, q)
known_both (inl p) (inr fails) = inr (λ h. fails h.1)
known_both (inr fails) q = inr (λ h. fails h.0)

pub known_if : {P Q : Type 0} → Known P → Known Q → Known (P → Q)
known_if (inl p) (inl q) = inl (λ _. q)
known_if (inl p) (inr fails) = inr (λ h. fails (h p))
known_if (inr fails) q = inl (λ p. absurd (fails p))

-- of the numbers below one
pub known_some : (P : ℕ → Type 0) → ((k : ℕ) → Known (P k)) → (n : ℕ) → Known ((k : ℕ) × (k < n) × P k)
known_some P known zero = inr (λ h. let lt = h.1 in absurd (omega arith))
known_some P known (suc n) = elim (known n) [
  | inl here ↦ inl (n, omega arith, here)
  | inr fails ↦ known_like (λ h. (h.0, let lt = h.1 in omega arith, h.2)) (λ h. elim (cases_eq h.0 n) [
    | inl e ↦ absurd (fails (subst P e h.2))
    | inr ne ↦ (h.0, let lt = h.1 in omega arith, h.2)
  ]) (known_some P known n)
]

pub known_each : (P : ℕ → Type 0) → ((k : ℕ) → Known (P k)) → (n : ℕ) → Known ((k : ℕ) → k < n → P k)
known_each P known n = elim (known_some (λ k. ¬ P k) (λ k. known_not (known k)) n) [
  | inl h ↦ inr (λ all. h.2 (all h.0 h.1))
  | inr none ↦ inl (λ k lt. elim (known k) [ inl holds ↦ holds | inr fails ↦ absurd (none (k, lt, fails)) ])
]

-- of the nodes of a box
pub known_node : (a : Extent) (P : Node → Type 0) → ((v : Node) → P v → IsTrue (is_in a v)) → ((v : Node) → Known (P v)) → Known ((v : Node) × P v)
known_node a P inside known = elim (known_some (λ k. P (node_at a k)) (λ k. known (node_at a k)) (a.w * a.h)) [
  | inl h ↦ inl (node_at a h.0, h.2)
  | inr none ↦ inr (λ h. no_node a P (λ k lt here. none (k, lt, here)) h.0 (inside h.0 h.1) h.1)
]

pub known_nodes : (a : Extent) (P Q : Node → Type 0) → ((v : Node) → P v → IsTrue (is_in a v)) → ((v : Node) → Known (P v)) → ((v : Node) → Known (Q v)) → Known ((v : Node) → P v → Q v)
known_nodes a P Q inside known_P known_Q = elim (known_node a (λ v. P v × (¬ Q v)) (λ v h. inside v h.0) (λ v. known_both (known_P v) (known_not (known_Q v)))) [
  | inl h ↦ inr (λ all. h.1.1 (all h.0 h.1.0))
  | inr none ↦ inl (λ v p. elim (known_Q v) [ inl holds ↦ holds | inr fails ↦ absurd (none (v, (p, fails))) ])
]
