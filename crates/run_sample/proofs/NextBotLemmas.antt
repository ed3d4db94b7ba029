-- One amoebot more.
use Rattle.std.proofs.Common.{◌≡◌, ◌<◌, ◌≤◌, ℕ, List, [], ◌∷◌, ◌++◌, length, ap, sym, ◌∙◌, subst, arith}
use Rattle.tri_lattice.specs.declared.node.Node.{Node}
use Rattle.amoebot_state.specs.declared.bot.Bot.{Bot}
use Rattle.rand_pcg.specs.Lcg.{Lcg}
use Rattle.run_sample.specs.Sample.{Placed, more, IsNextBot, in_square, beside, IsFirstEmpty, bot_on, square_node, node_of, draw, drawn}

-- what was drawn for an amoebot of the square
pub comes_in_square : (bots : List Bot) (g h : Lcg) (n : ℕ) (b : Bot) → n ≡ length bots → n < 100 → b ≡ bot_on n (square_node n) (draw g 6) → h ≡ drawn g → IsNextBot bots g b h
comes_in_square bots g h n b here lt is left =
    let same : b ≡ bot_on (length bots) (square_node (length bots)) (draw g 6) = is ∙ ap (λ (k : ℕ). bot_on k (square_node k) (draw g 6)) here in
    subst (λ (x : Lcg). IsNextBot bots g b x) (sym left) (subst (λ (x : Bot). IsNextBot bots g x (drawn g)) (sym same) (in_square (omega arith)))

-- and for one beside the others: an amoebot, a direction, a rotation
pub comes_beside : (bots : List Bot) (g g1 g2 h : Lcg) (n i d r : ℕ) (v : Node) (b : Bot) → n ≡ length bots → 100 ≤ n → i ≡ draw g n → g1 ≡ drawn g → d ≡ draw g1 6 → g2 ≡ drawn g1 → IsFirstEmpty bots (node_of bots i) d v
    → r ≡ draw g2 6 → h ≡ drawn g2 → b ≡ bot_on n v r → IsNextBot bots g b h
comes_beside bots g g1 g2 h n i d r v b here low drawn_i left1 drawn_d left2 first drawn_r left is =
    let from : i ≡ draw g (length bots) = drawn_i ∙ ap (draw g) here in
    let to : d ≡ draw (drawn g) 6 = drawn_d ∙ ap (λ (x : Lcg). draw x 6) left1 in
    let after : g2 ≡ drawn (drawn g) = left2 ∙ ap drawn left1 in
    let rot : r ≡ draw (drawn (drawn g)) 6 = drawn_r ∙ ap (λ (x : Lcg). draw x 6) after in
    let same : b ≡ bot_on (length bots) v (draw (drawn (drawn g)) 6) = is ∙ ap (λ (k : ℕ). bot_on k v r) here ∙ ap (bot_on (length bots) v) rot in
    let empty : IsFirstEmpty bots (node_of bots (draw g (length bots))) (draw (drawn g) 6) v =
    subst (λ (k : ℕ). IsFirstEmpty bots (node_of bots (draw g (length bots))) k v) to (subst (λ (k : ℕ). IsFirstEmpty bots (node_of bots k) d v) from first) in
    subst (λ (x : Lcg). IsNextBot bots g b x) (sym (left ∙ ap drawn after))
    (subst (λ (x : Bot). IsNextBot bots g x (drawn (drawn (drawn g)))) (sym same) (beside {v = v} (omega arith) empty))

-- it stands behind those that came
pub one_more : (seed : ℕ) (bots lent all : List Bot) (b : Bot) (g h : Lcg) → Placed seed bots g → lent ≡ bots → IsNextBot lent g b h → all ≡ bots ++ b ∷ [] → Placed seed all h
one_more seed bots lent all b g h placed same next items =
    subst (λ (bs : List Bot). Placed seed bs h) (sym items) (more placed (subst (λ (bs : List Bot). IsNextBot bs g b h) same next))
