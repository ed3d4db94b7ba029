-- The nodes of amoebots as a set, and with one amoebot more.
use Rattle.std.proofs.Common.{◌≡◌, ◌⊎◌, ◌<◌, ◌≤◌, ℕ, zero, suc, List, [], ◌∷◌, ◌++◌, map, length, Bool, true, false, ◌||◌, cond, ap, sym, ◌∙◌, refl, inl, inr, arith, Option, Some, None}
use Rattle.std.specs.Prelude.{IsTrue, is_some}
use Rattle.std.proofs.lemmas.Bool.{or_cases, or_left, or_right}
use Rattle.std.proofs.Math.Bool.{or-false, or_self}
use Rattle.std.proofs.lemmas.List.Folds.{list_any-append, list_any_at}
use Rattle.tri_lattice.specs.declared.node.Node.{Node}
use Rattle.tri_lattice.specs.Lattice.{node_eq, Adjacent}
use Rattle.tri_lattice.specs.Sets.{PutsIn}
use Rattle.tri_lattice.proofs.Nodes.{node_eq-true, node_eq-false, node_eq_same}
use Rattle.amoebot_state.specs.declared.bot.Bot.{Bot}
use Rattle.amoebot_state.specs.Ports.{is_own}
use Rattle.amoebot_state.specs.Configs.{Config, blank, with_these, occupant, covers}
use Rattle.amoebot_state.specs.Occupied.{occupied}
use Rattle.amoebot_state.proofs.Added.{these_push}
use Rattle.amoebot_state.proofs.Occupants.{position_push}
use Rattle.run_sample.specs.Sample.{is_taken, walked, node_of, IsFirstEmpty}

pub taken_push : (bots : List Bot) (b : Bot) (v : Node) → is_taken (bots ++ b ∷ []) v ≡ (is_taken bots v || node_eq b.head v)
taken_push bots b v = list_any-append (λ (o : Bot). node_eq o.head v) bots (b ∷ []) ∙ ap (λ t. is_taken bots v || t) (or-false (node_eq b.head v))

pub taken_cases : (bots : List Bot) (b : Bot) (v : Node) → IsTrue (is_taken (bots ++ b ∷ []) v) → IsTrue (is_taken bots v) ⊎ (b.head ≡ v)
taken_cases bots b v t = elim (or_cases (is_taken bots v) (node_eq b.head v) (sym (taken_push bots b v) ∙ t)) [ inl old ↦ inl old | inr here ↦ inr (node_eq-true b.head v here) ]

pub taken_old : (bots : List Bot) (b : Bot) (v : Node) → IsTrue (is_taken bots v) → IsTrue (is_taken (bots ++ b ∷ []) v)
taken_old bots b v t = taken_push bots b v ∙ or_left (is_taken bots v) (node_eq b.head v) t

pub taken_new : (bots : List Bot) (b : Bot) → IsTrue (is_taken (bots ++ b ∷ []) b.head)
taken_new bots b = taken_push bots b b.head ∙ or_right (is_taken bots b.head) (node_eq b.head b.head) (node_eq_same b.head)

-- the node of one amoebot more is put into the set
pub puts_in : (bots : List Bot) (b : Bot) → PutsIn (is_taken bots) (is_taken (bots ++ b ∷ [])) b.head
puts_in bots b = record {
  there = taken_new bots b;
  others = λ v ne. taken_push bots b v ∙ ap (λ t. is_taken bots v || t) (node_eq-false b.head v (λ e. ne (sym e))) ∙ or-false (is_taken bots v);
}

pub node_taken : (bots : List Bot) (i : ℕ) → i < length bots → IsTrue (is_taken bots (node_of bots i))
node_taken bots i lt = list_any_at (λ (o : Bot). node_eq o.head (node_of bots i)) bots i blank lt (node_eq_same (node_of bots i))

-- the node before the first empty one is taken
last_taken : (bots : List Bot) (from : Node) (d : ℕ) (v : Node) (n : ℕ) → d < 6 → IsTrue (is_taken bots from) → 1 ≤ n → v ≡ walked from d n → ((s : ℕ) → 1 ≤ s → s < n → IsTrue (is_taken bots (walked from d s))) → (a : Node) × IsTrue (is_taken bots a) × Adjacent a v
last_taken bots from d v zero lt taken some at before = absurd (omega arith)
last_taken bots from d v (suc zero) lt taken some at before = (from, taken, (d, lt, at))
last_taken bots from d v (suc (suc n)) lt taken some at before = (walked from d (suc n), before (suc n) (omega arith) (omega arith), (d, lt, at))

pub beside_taken : (bots : List Bot) (from : Node) (d : ℕ) (v : Node) → d < 6 → IsTrue (is_taken bots from) → IsFirstEmpty bots from d v → (a : Node) × IsTrue (is_taken bots a) × Adjacent a v
beside_taken bots from d v lt taken first = last_taken bots from d v first.steps lt taken first.some first.at first.before

some_push : (o : Option ℕ) (t : Bool) (n : ℕ) → is_some (elim o [ None ↦ cond t (Some n) None | Some i ↦ Some i ]) ≡ (is_some o || t)
some_push None true n = refl
some_push None false n = refl
some_push (Some i) t n = refl

-- the nodes that are occupied are those that are taken, with a contracted amoebot more
pub occupied_push : (c : Config) (bots : List Bot) (b : Bot) (v : Node) → b.tail ≡ b.head → occupied (with_these c bots) v ≡ is_taken bots v → occupied (with_these c (bots ++ b ∷ [])) v ≡ is_taken (bots ++ b ∷ []) v
occupied_push c bots b v contracted old =
    let one : occupied (with_these c (bots ++ b ∷ [])) v ≡ (occupied (with_these c bots) v || is_own b v) =
    ap (λ (d : Config). occupied d v) (these_push c bots b)
    ∙ ap is_some (position_push (λ o. covers o v) (map Some bots) (Some b) None (occupant (with_these c bots) v) refl)
    ∙ some_push (occupant (with_these c bots) v) (is_own b v) (length (map Some bots)) in
    let own : is_own b v ≡ node_eq b.head v = ap (λ (t : Node). node_eq b.head v || node_eq t v) contracted ∙ or_self (node_eq b.head v) in
    one ∙ ap (λ t. t || is_own b v) old ∙ ap (λ t. is_taken bots v || t) own ∙ sym (taken_push bots b v)
