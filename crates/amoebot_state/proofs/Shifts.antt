-- An amoebot elsewhere has the same ports, and they lead to the same nodes, as far away.
use Rattle.std.proofs.Common.{◌≡◌, ℕ, ℤ, pos, ◌+ℤ◌, List, [], ◌∷◌, map, length, Bool, true, false, not, ◌&&◌, ◌||◌, ap, ◌∙◌, refl, arith, filter, nat_lt}
use Rattle.std.specs.Prelude.{if◌then◌else◌}
use Rattle.std.specs.Ordering.{int_eq}
use Rattle.std.proofs.lemmas.Int.{ints}
use Rattle.std.proofs.lemmas.Bool.Decides.{same_from_decides, Decides-int_eq, Decides-like}
use Rattle.std.proofs.lemmas.List.{length-map}
use Rattle.std.proofs.lemmas.List.Elements.{filter_agree}
use Rattle.tri_lattice.specs.declared.node.Node.{Node}
use Rattle.tri_lattice.specs.Lattice.{dx, dy, step, node_eq}
use Rattle.tri_lattice.proofs.Nodes.{same_node}
use Rattle.amoebot_state.specs.declared.bot.Bot.{Bot}
use Rattle.amoebot_state.specs.declared.bot.Chir.{Chir}
use Rattle.amoebot_state.specs.declared.bot.End.{End}
use Rattle.amoebot_state.specs.declared.bot.End.TheVariants.{Head, Tail}
use Rattle.amoebot_state.specs.declared.bot.Port.{Port}
use Rattle.amoebot_state.specs.Ports.{global, end_node, is_head, is_own, is_contracted, is_port, behind, all_ports, ports}
use Rattle.amoebot_state.specs.Zones.{distinct}

-- a node as far from v as u from the origin
abbrev pub shift : Node → Node → Node
shift v u = record { x = v.x +ℤ u.x; y = v.y +ℤ u.y }

abbrev pub origin : Node
origin = record { x = pos 0; y = pos 0 }

-- an amoebot with its head at the origin
abbrev pub placed : Chir → ℕ → Node → Bot
placed h r t = record { head = origin; tail = t; rot = r; chir = h; mem = [] }

int_eq_shift : (x a b : ℤ) → int_eq (x +ℤ a) (x +ℤ b) ≡ int_eq a b
int_eq_shift x a b = same_from_decides (int_eq (x +ℤ a) (x +ℤ b)) (int_eq a b) (Decides-int_eq (x +ℤ a) (x +ℤ b)) (Decides-like (int_eq a b) (ap (λ z. x +ℤ z)) (λ e. omega (arith, ints)) (Decides-int_eq a b))

node_eq_shift : (v a b : Node) → node_eq (shift v a) (shift v b) ≡ node_eq a b
node_eq_shift v a b = ap (λ t. t && int_eq (v.y +ℤ a.y) (v.y +ℤ b.y)) (int_eq_shift v.x a.x b.x) ∙ ap (λ t. int_eq a.x b.x && t) (int_eq_shift v.y a.y b.y)

shift_more : (x a d : ℤ) → (x +ℤ a) +ℤ d ≡ x +ℤ (a +ℤ d)
shift_more x a d = omega (arith, ints)

pub step_shift : (v u : Node) (d : ℕ) → step (shift v u) d ≡ shift v (step u d)
step_shift v u d = same_node (step (shift v u) d) (shift v (step u d)) (shift_more v.x u.x (dx d)) (shift_more v.y u.y (dy d))

no_shift : (x : ℤ) → x ≡ x +ℤ pos 0
no_shift x = omega (arith, ints)

pub at_origin : (v : Node) → v ≡ shift v origin
at_origin v = same_node v (shift v origin) (no_shift v.x) (no_shift v.y)

filter_map_shift : {A B : Type 0} (f : A → B) (p : B → Bool) (q : A → Bool) → ((x : A) → p (f x) ≡ q x) → (xs : List A) → filter p (map f xs) ≡ map f (filter q xs)
filter_map_shift f p q same [] = refl
filter_map_shift {A} {B} f p q same (x ∷ xs) = elim (q x) as (λ b. q x ≡ b → filter p (map f (x ∷ xs)) ≡ map f (filter q (x ∷ xs))) [
  | true ↦ λ t. let u : p (f x) ≡ true = same x ∙ t in rw (t, u) (ap (λ ys. f x ∷ ys) (filter_map_shift f p q same xs))
  | false ↦ λ g. let u : p (f x) ≡ false = same x ∙ g in rw (g, u) (filter_map_shift f p q same xs)
] refl

-- as many are distinct elsewhere
distinct_shift : {A B : Type 0} (f : A → B) (eq : A → A → Bool) (like : B → B → Bool) → ((x y : A) → like (f x) (f y) ≡ eq x y) → (xs : List A) → distinct like (map f xs) ≡ map f (distinct eq xs)
distinct_shift f eq like same [] = refl
distinct_shift f eq like same (x ∷ xs) =
    ap (λ ys. f x ∷ filter (λ y. not (like (f x) y)) ys) (distinct_shift f eq like same xs)
    ∙ ap (λ ys. f x ∷ ys) (filter_map_shift f (λ y. not (like (f x) y)) (λ y. not (eq x y)) (λ y. ap not (same x y)) (distinct eq xs))

map_shift : {A B C : Type 0} (f : A → B) (g : A → C) (h : C → B) → ((x : A) → f x ≡ h (g x)) → (xs : List A) → map f xs ≡ map h (map g xs)
map_shift f g h same [] = refl
map_shift f g h same (x ∷ xs) = ap (λ y. y ∷ map f xs) (same x) ∙ ap (λ ys. h (g x) ∷ ys) (map_shift f g h same xs)

-- the amoebot's tail is as far from its head as t from the origin
module _ (b : Bot) (t : Node) (tail : b.tail ≡ shift b.head t) where
  end_shift : (e : End) → end_node b e ≡ shift b.head (end_node (placed b.chir b.rot t) e)
  end_shift Head = at_origin b.head
  end_shift Tail = tail

  pub behind_shift : (p : Port) → behind b p ≡ shift b.head (behind (placed b.chir b.rot t) p)
  behind_shift p = ap (λ v. step v (global b p.dir)) (end_shift p.end) ∙ step_shift b.head (end_node (placed b.chir b.rot t) p.end) (global b p.dir)

  eq_shift : (u v a c : Node) → u ≡ shift b.head a → v ≡ shift b.head c → node_eq u v ≡ node_eq a c
  eq_shift u v a c p q = ap (λ w. node_eq w v) p ∙ ap (node_eq (shift b.head a)) q ∙ node_eq_shift b.head a c

  pub contracted_shift : is_contracted b ≡ is_contracted (placed b.chir b.rot t)
  contracted_shift = eq_shift b.head b.tail origin t (at_origin b.head) tail

  own_shift : (u v : Node) → u ≡ shift b.head v → is_own b u ≡ is_own (placed b.chir b.rot t) v
  own_shift u v e = ap (λ x. x || node_eq b.tail u) (eq_shift b.head u origin v (at_origin b.head) e) ∙ ap (λ x. node_eq origin v || x) (eq_shift b.tail u t v tail e)

  port_shift : (p : Port) → is_port b p ≡ is_port (placed b.chir b.rot t) p
  port_shift p =
      ap (λ x. nat_lt p.dir 6 && (if x then is_head p.end else not (is_own b (behind b p)))) contracted_shift
      ∙ ap (λ x. nat_lt p.dir 6 && (if is_contracted (placed b.chir b.rot t) then is_head p.end else not x)) (own_shift (behind b p) (behind (placed b.chir b.rot t) p) (behind_shift p))

  pub ports_shift : ports b ≡ ports (placed b.chir b.rot t)
  ports_shift = filter_agree (is_port b) (is_port (placed b.chir b.rot t)) port_shift all_ports

  -- its ports lead to as many nodes
  pub behind_ports_shift : length (distinct node_eq (map (behind b) (ports b))) ≡ length (distinct node_eq (map (behind (placed b.chir b.rot t)) (ports (placed b.chir b.rot t))))
  behind_ports_shift =
      let there = placed b.chir b.rot t in
      let nodes = map (behind there) (ports there) in
      ap (λ ps. length (distinct node_eq (map (behind b) ps))) ports_shift
      ∙ ap (λ vs. length (distinct node_eq vs)) (map_shift (behind b) (behind there) (shift b.head) behind_shift (ports there))
      ∙ ap length (distinct_shift (shift b.head) node_eq node_eq (node_eq_shift b.head) nodes)
      ∙ length-map (distinct node_eq nodes) (shift b.head)
