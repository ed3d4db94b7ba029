-- An unguarded Contract that splits a connected shape.
use Rattle.std.proofs.Common.{[], ◌∷◌, refl, arith, inl, inr}
use Rattle.std.proofs.lemmas.Bool.{cases_Bool}
use Rattle.tri_lattice.specs.Lattice.{node_eq}
use Rattle.tri_lattice.specs.Sets.{SameNodes}
use Rattle.tri_lattice.proofs.Paths.{same_keeps}
use Rattle.ring_guard.specs.Gap.{left_node, middle, right_node, chain, end_pair}
use Rattle.ring_guard.proofs.Gaps.{gap_splits}
use Rattle.amoebot_state.specs.declared.bot.End.TheVariants as end
use Rattle.amoebot_state.specs.Configs.{Config, IsValid}
use Rattle.amoebot_state.specs.Occupied.{occupied}
use Rattle.amoebot_state.proofs.ExampleLemmas.{expanded, contracted, world}
use Rattle.amoebot_state.proofs.StepExamples.{in_range, two_valid}
use Rattle.model_ops.specs.Laws.{UnguardedSplits}

-- an expanded amoebot beside a contracted one, whose tail is the node between them; and without that node
abbrev joined : Config
joined = world (expanded right_node middle ∷ contracted left_node ∷ [])

abbrev parted : Config
parted = world (contracted right_node ∷ contracted left_node ∷ [])

joined_valid : IsValid joined
joined_valid =
    let one = expanded right_node middle in
    let two = contracted left_node in
    two_valid one two (in_range one refl refl (omega arith) refl) (in_range two refl refl (omega arith) refl) refl refl

joined_nodes : SameNodes chain (occupied joined)
joined_nodes v = elim (cases_Bool (node_eq left_node v)) [
  | inl t ↦ elim (cases_Bool (node_eq middle v)) [
    | inl u ↦ elim (cases_Bool (node_eq right_node v)) [ inl w ↦ rw (t, u, w) refl | inr g ↦ rw (t, u, g) refl ]
    | inr f ↦ elim (cases_Bool (node_eq right_node v)) [ inl w ↦ rw (t, f, w) refl | inr g ↦ rw (t, f, g) refl ]
  ]
  | inr s ↦ elim (cases_Bool (node_eq middle v)) [
    | inl u ↦ elim (cases_Bool (node_eq right_node v)) [ inl w ↦ rw (s, u, w) refl | inr g ↦ rw (s, u, g) refl ]
    | inr f ↦ elim (cases_Bool (node_eq right_node v)) [ inl w ↦ rw (s, f, w) refl | inr g ↦ rw (s, f, g) refl ]
  ]
]

parted_nodes : SameNodes (occupied parted) end_pair
parted_nodes v = elim (cases_Bool (node_eq left_node v)) [
  | inl t ↦ elim (cases_Bool (node_eq right_node v)) [ inl w ↦ rw (t, w) refl | inr g ↦ rw (t, g) refl ]
  | inr f ↦ elim (cases_Bool (node_eq right_node v)) [ inl w ↦ rw (f, w) refl | inr g ↦ rw (f, g) refl ]
]

pub unguarded_splits : UnguardedSplits
unguarded_splits = record {
  before = joined;
  after = parted;
  id = 0;
  end = end.Tail;
  valid = joined_valid;
  there = refl;
  connected = same_keeps chain (occupied joined) joined_nodes gap_splits.connected;
  unguarded = refl;
  split = λ connected. gap_splits.split (same_keeps (occupied parted) end_pair parted_nodes connected);
  guarded = refl;
}
