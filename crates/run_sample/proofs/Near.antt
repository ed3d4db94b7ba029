-- The search for an empty node, step by step.
use Rattle.std.proofs.Common.{◌≡◌, ◌<◌, ◌≤◌, ℕ, suc, List, [], length, get_or, false, ap, sym, ◌∙◌, subst, inl, inr, arith}
use Rattle.std.specs.Prelude.{IsTrue}
use Rattle.std.proofs.lemmas.Bool.{cases_eq}
use Rattle.std.proofs.lemmas.Int.{ints}
use Rattle.std.proofs.lemmas.List.{get_or_default}
use Rattle.tri_lattice.specs.declared.node.Node.{Node}
use Rattle.tri_lattice.specs.Lattice.{step, IsNear}
use Rattle.amoebot_state.specs.declared.bot.Bot.{Bot}
use Rattle.amoebot_state.specs.Configs.{blank}
use Rattle.run_sample.specs.Sample.{IsInside, is_taken, walked, node_of, IsFirstEmpty}
use Rattle.run_sample.proofs.Taken.{node_taken}

-- from inside each step stays in range
pub near_inside : (v : Node) → IsInside v → IsNear v
near_inside v inside =
    let x_low = inside.x_low in
    let x_high = inside.x_high in
    let y_low = inside.y_low in
    let y_high = inside.y_high in
    (omega (arith, ints), omega (arith, ints), omega (arith, ints), omega (arith, ints))

pub bot_is_near : (bots : List Bot) (i : ℕ) → i < length bots → ((v : Node) → IsTrue (is_taken bots v) → IsInside v) → IsNear (node_of bots i)
bot_is_near bots i lt inside = near_inside (node_of bots i) (inside (node_of bots i) (node_taken bots i lt))

-- what the code reads outside of the list
abbrev pub void : Bot
void = record blank { mem = [] }

pub head_at : (bots : List Bot) (i : ℕ) → i < length bots → node_of bots i ≡ (get_or bots i void).head
head_at bots i lt = ap (λ (b : Bot). b.head) (get_or_default bots i blank void lt)

-- so many steps were made, and all but the last led to taken nodes
pub record IsReached (bots : List Bot) (from : Node) (d : ℕ) (v : Node) : Type 0 where
  pub steps : ℕ
  pub some : 1 ≤ steps
  pub at : v ≡ walked from d steps
  pub before : (s : ℕ) → 1 ≤ s → s < steps → IsTrue (is_taken bots (walked from d s))

pub first_reached : (bots : List Bot) (from : Node) (d : ℕ) (v : Node) → v ≡ step from d → IsReached bots from d v
first_reached bots from d v e = record { steps = 1; some = omega arith; at = e; before = λ s low lt. absurd (omega arith) }

pub next_reached : (bots : List Bot) (from : Node) (d : ℕ) (v w : Node) → IsReached bots from d v → IsTrue (is_taken bots v) → w ≡ step v d → IsReached bots from d w
next_reached bots from d v w r taken e = record {
  steps = suc r.steps;
  some = omega arith;
  at = e ∙ ap (λ (u : Node). step u d) r.at;
  before = λ s low lt. elim (cases_eq s r.steps) [
    | inl same ↦ subst (λ (u : Node). IsTrue (is_taken bots u)) (r.at ∙ ap (walked from d) (sym same)) taken
    | inr ne ↦ r.before s low (omega (arith, r.some))
  ];
}

pub last_reached : (bots : List Bot) (from : Node) (d : ℕ) (v : Node) → IsReached bots from d v → is_taken bots v ≡ false → IsFirstEmpty bots from d v
last_reached bots from d v r empty = record { steps = r.steps; some = r.some; at = r.at; empty = empty; before = r.before }
