-- A seed has at most one sample.
use Rattle.std.proofs.Common.{◌≡◌, ℕ, List, [], ◌∷◌, ◌++◌, length, ap, sym, ◌∙◌, refl, subst, inl, inr, arith}
use Rattle.std.proofs.lemmas.Bool.{cases_lt, both_ways}
use Rattle.std.proofs.lemmas.List.{length_push}
use Rattle.tri_lattice.specs.declared.node.Node.{Node}
use Rattle.amoebot_state.specs.declared.bot.Bot.{Bot}
use Rattle.amoebot_state.specs.Configs.{with_these}
use Rattle.rand_pcg.specs.Lcg.{Lcg}
use Rattle.run_sample.specs.Sample.{sample_frame, AreSample, Placed, none, more, IsNextBot, in_square, beside, is_taken, walked, bot_on, draw, drawn}
use Rattle.run_sample.specs.Laws.{SampleIsUnique, FirstEmptyIsUnique}

-- the node of two first empty ones that is nearer is taken, were it not the other
pub first_empty_is_unique : FirstEmptyIsUnique
first_empty_is_unique bots from d u v one two = elim (cases_lt one.steps two.steps) [
  | inl lt ↦ absurd (both_ways _ (ap (is_taken bots) (sym one.at) ∙ one.empty) (two.before one.steps one.some lt))
  | inr ge ↦ elim (cases_lt two.steps one.steps) [
    | inl lt ↦ absurd (both_ways _ (ap (is_taken bots) (sym two.at) ∙ two.empty) (one.before two.steps two.some lt))
    | inr le ↦ (let same : one.steps ≡ two.steps = omega arith in one.at ∙ ap (walked from d) same ∙ sym two.at)
  ]
]

-- the amoebot that comes next, and the generator after it
next_is_unique : (bots : List Bot) (g : Lcg) (a b : Bot) (h k : Lcg) → IsNextBot bots g a h → IsNextBot bots g b k → (a ≡ b) × (h ≡ k)
next_is_unique bots g a b h k (in_square lt) (in_square lt') = (refl, refl)
next_is_unique bots g a b h k (in_square lt) (beside ge first) = absurd (omega arith)
next_is_unique bots g a b h k (beside ge first) (in_square lt) = absurd (omega arith)
next_is_unique bots g a b h k (beside {v = u} ge one) (beside {v = v} ge' two) =
    (ap (λ (w : Node). bot_on (length bots) w (draw (drawn (drawn g)) 6)) (first_empty_is_unique bots _ _ u v one two), refl)

placed_is_unique : (seed : ℕ) (one two : List Bot) (g h : Lcg) → length one ≡ length two → Placed seed one g → Placed seed two h → (one ≡ two) × (g ≡ h)
placed_is_unique seed one two g h e none none = (refl, refl)
placed_is_unique seed one two g h e none (more {bots = bs} {b = b} p next) = let long = length_push bs b in absurd (omega arith)
placed_is_unique seed one two g h e (more {bots = bs} {b = b} p next) none = let long = length_push bs b in absurd (omega arith)
placed_is_unique seed one two g h e (more {bots = old} {b = a} {g = i} p next) (more {bots = bs} {b = b} {g = j} q after) =
    let long = length_push old a in
    let wide = length_push bs b in
    let before = placed_is_unique seed old bs i j (omega arith) p q in
    let same : IsNextBot bs j a g = subst (λ (x : Lcg). IsNextBot bs x a g) before.1 (subst (λ (x : List Bot). IsNextBot x i a g) before.0 next) in
    let last = next_is_unique bs j a b g h same after in
    (ap (λ (x : List Bot). x ++ a ∷ []) before.0 ∙ ap (λ (x : Bot). bs ++ x ∷ []) last.0, last.1)

bots_are_unique : (seed : ℕ) (one two : List Bot) → AreSample seed one → AreSample seed two → one ≡ two
bots_are_unique seed one two a b = (placed_is_unique seed one two a.left b.left (a.many ∙ sym b.many) a.placed b.placed).0

pub sample_is_unique : SampleIsUnique
sample_is_unique seed one two a b = (
  a.program ∙ sym b.program,
  a.world ∙ ap (with_these sample_frame) (bots_are_unique seed a.bots b.bots a.come b.come) ∙ sym b.world,
  a.lists ∙ sym b.lists,
)
