-- Each seed has a sample.
use Rattle.std.proofs.Common.{◌≡◌, ◌<◌, ◌≤◌, true, ℕ, zero, suc, List, [], ◌∷◌, ◌++◌, length, inl, inr, refl, arith}
use Rattle.std.specs.Prelude.{IsTrue}
use Rattle.std.proofs.lemmas.Bool.{cases_Bool, cases_lt}
use Rattle.std.proofs.lemmas.List.{length_push}
use Rattle.tri_lattice.specs.declared.node.Node.{Node}
use Rattle.tri_lattice.specs.Lattice.{step}
use Rattle.amoebot_state.specs.declared.bot.Bot.{Bot}
use Rattle.amoebot_state.specs.Configs.{with_these}
use Rattle.action_tree.specs.Shipped as trees
use Rattle.rand_pcg.specs.Lcg.{Lcg}
use Rattle.run_sample.specs.Sample.{Placed, none, more, IsNextBot, in_square, beside, is_taken, IsFirstEmpty, IsInside, bot_on, node_of, square_node, seeded, draw, drawn, sample_frame}
use Rattle.run_sample.specs.Callers.{sample_lists}
use Rattle.run_sample.specs.Laws.{SampleIsSome}
use Rattle.run_sample.proofs.DirectionLemmas.{beyond, count, nearer}
use Rattle.run_sample.proofs.Near.{IsReached, first_reached, next_reached, last_reached}
use Rattle.run_sample.proofs.Laid.{laid, inside}

-- from a node that was reached, so many steps lead to an empty one
goes_on : (bots : List Bot) (from : Node) (d n : ℕ) (v : Node) → ((u : Node) → IsTrue (is_taken bots u) → IsInside u) → count (beyond v d) ≤ n → IsReached bots from d v → (u : Node) × IsFirstEmpty bots from d u
goes_on bots from d zero v all few r = elim (cases_Bool (is_taken bots v)) [
  | inl t ↦ (let less = nearer v d (all v t) in absurd (omega arith))
  | inr f ↦ (v, last_reached bots from d v r f)
]
goes_on bots from d (suc n) v all few r = elim (cases_Bool (is_taken bots v)) [
  | inl t ↦ (let less = nearer v d (all v t) in goes_on bots from d n (step v d) all (omega arith) (next_reached bots from d v (step v d) r t refl))
  | inr f ↦ (v, last_reached bots from d v r f)
]

first_empty_is_some : (bots : List Bot) (from : Node) (d : ℕ) → ((u : Node) → IsTrue (is_taken bots u) → IsInside u) → (u : Node) × IsFirstEmpty bots from d u
first_empty_is_some bots from d all = goes_on bots from d (count (beyond (step from d) d)) (step from d) all (omega arith) (first_reached bots from d (step from d) refl)

-- after fewer than 150 amoebots one comes next
next_is_some : (seed : ℕ) (bots : List Bot) (g : Lcg) → length bots < 150 → Placed seed bots g → (b : Bot) × (h : Lcg) × IsNextBot bots g b h
next_is_some seed bots g few placed = elim (cases_lt (length bots) 100) [
  | inl lt ↦ (bot_on (length bots) (square_node (length bots)) (draw g 6), drawn g, in_square lt)
  | inr ge ↦ (
      let first = first_empty_is_some bots (node_of bots (draw g (length bots))) (draw (drawn g) 6) (inside bots (omega arith) (laid seed bots g (omega arith) placed)) in
      (bot_on (length bots) first.0 (draw (drawn (drawn g)) 6), drawn (drawn (drawn g)), beside (omega arith) first.1))
]

-- so many amoebots come one by one
placed_is_some : (seed n : ℕ) → n ≤ 150 → (bots : List Bot) × (g : Lcg) × (length bots ≡ n) × Placed seed bots g
placed_is_some seed zero few = ([], seeded seed, refl, none)
placed_is_some seed (suc n) few =
    let old = placed_is_some seed n (omega arith) in
    let size : length old.0 ≡ n = old.2 in
    let next = next_is_some seed old.0 old.1 (omega arith) old.3 in
    let long = length_push old.0 next.0 in
    (old.0 ++ next.0 ∷ [], next.1, omega arith, more old.3 next.2)

pub sample_is_some : SampleIsSome
sample_is_some seed =
    let all = placed_is_some seed 150 (omega arith) in (
      record { checked = record trees.hexagon { guard = true }; world = with_these sample_frame all.0; lists = sample_lists },
      record {
        program = refl;
        bots = all.0;
        come = record { many = all.2; left = all.1; placed = all.3 };
        world = refl;
        lists = refl;
      },
    )
