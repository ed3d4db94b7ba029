-- Which nodes an amoebot has.
use Rattle.std.proofs.Common.{◌≡◌, ◌⊎◌, true, false, refl, sym, inl, inr}
use Rattle.std.specs.Prelude.{ℕ, IfSome, IfNone, is_some}
use Rattle.std.specs.declared.option.Option.{Option}
use Rattle.std.specs.declared.option.Option.TheVariants.{Some, None}
use Rattle.std.proofs.lemmas.Bool.{cases_Bool, or_cases, or_left, or_right, false≢true}
use Rattle.tri_lattice.specs.declared.node.Node.{Node}
use Rattle.tri_lattice.specs.Lattice.{Leads, Adjacent, is_adjacent}
use Rattle.tri_lattice.proofs.Steps.{is_adjacent-true, Adjacent-is_adjacent}
use Rattle.tri_lattice.proofs.Nodes.{node_eq-true, eq-node_eq}
use Rattle.amoebot_state.specs.declared.bot.Bot.{Bot}
use Rattle.amoebot_state.specs.Ports.{is_own}
use Rattle.amoebot_state.specs.Configs.{covers}

pub own_cases : (b : Bot) (v : Node) → is_own b v ≡ true → (b.head ≡ v) ⊎ (b.tail ≡ v)
own_cases b v e = elim (or_cases _ _ e) [ inl h ↦ inl (node_eq-true b.head v h) | inr h ↦ inr (node_eq-true b.tail v h) ]

pub own_head : (b : Bot) (v : Node) → b.head ≡ v → is_own b v ≡ true
own_head b v e = or_left _ _ (eq-node_eq b.head v e)

pub own_tail : (b : Bot) (v : Node) → b.tail ≡ v → is_own b v ≡ true
own_tail b v e = or_right _ _ (eq-node_eq b.tail v e)

pub not_own : (b : Bot) (v : Node) → (b.head ≡ v → ⊥) → (b.tail ≡ v → ⊥) → is_own b v ≡ false
not_own b v p q = elim (cases_Bool (is_own b v)) [ inr f ↦ f | inl t ↦ absurd (elim (own_cases b v t) [ inl h ↦ p h | inr h ↦ q h ]) ]

-- what covers a node is an amoebot that has it
pub covered : (o : Option Bot) (v : Node) → covers o v ≡ true → (b : Bot) × (o ≡ Some b) × (is_own b v ≡ true)
covered None v e = absurd (false≢true e)
covered (Some b) v e = (b, refl, e)

-- a direction from one node to another is found exactly where they are adjacent
pub adjacent_is : (o : Option ℕ) (a b : Node) → IfSome o (Leads a b) → IfNone o (¬ Adjacent a b) → is_some o ≡ is_adjacent a b
adjacent_is (Some d) a b leads none = sym (Adjacent-is_adjacent a b (d, leads.0, leads.1))
adjacent_is None a b leads none = elim (cases_Bool (is_adjacent a b)) [
  | inl t ↦ absurd (none (is_adjacent-true a b t))
  | inr f ↦ sym f
]
