-- The two small movements: one amoebot leaves a node, or enters one.
use Rattle.std.proofs.Common.{◌≡◌, ◌≢◌, ℕ, true, false, ap, sym, ◌∙◌, refl, subst, inl, inr, Some, None}
use Rattle.std.specs.Prelude.{is_some, if◌then◌else◌}
use Rattle.std.proofs.lemmas.Bool.{cases_Bool, both_ways, or_left, or_right}
use Rattle.tri_lattice.specs.declared.node.Node.{Node}
use Rattle.tri_lattice.specs.Lattice.{node_eq, Adjacent}
use Rattle.tri_lattice.specs.Extent.{is_in}
use Rattle.tri_lattice.specs.Sets.{TakesOut, PutsIn}
use Rattle.tri_lattice.proofs.Nodes.{node_eq-true, node_eq_same, eq-node_eq, cases_node, Adjacent-sym}
use Rattle.tri_lattice.proofs.Steps.{Adjacent-is_adjacent}
use Rattle.amoebot_state.specs.declared.bot.Bot.{Bot}
use Rattle.amoebot_state.specs.Ports.{is_own, is_contracted}
use Rattle.amoebot_state.specs.Configs.{Config, IsValid, IsBot, frame, bot_at, bot_of, is_wall, occupant, set_bot}
use Rattle.amoebot_state.specs.Occupied.{occupied}
use Rattle.amoebot_state.specs.Patches.{HasSameIds}
use Rattle.amoebot_state.proofs.Owns.{own_cases, own_head, own_tail, not_own}
use Rattle.model_ops.specs.Operations.{with_head, contracted_in, other_node, grow, shrink}
use Rattle.model_ops.proofs.Becomes.{MayBecome, become_valid, become_same, become_occupant, left_empty, occupant_then, same_ids, same_size, at_other}

-- what a small movement of one amoebot at one node leaves as it was
pub record SmallMove (c : Config) (i : ℕ) (v : Node) (d : Config) : Type 0 where
  pub valid : IsValid d
  pub same : HasSameIds c d
  pub spots : (u : Node) → u ≢ v → occupant d u ≡ occupant c u
  pub bots : (j : ℕ) → j ≢ i → bot_at d j ≡ bot_at c j

small : (c : Config) (i : ℕ) (v : Node) (b : Bot) → MayBecome c i (bot_of c i) b → ((u : Node) → u ≢ v → is_own b u ≡ is_own (bot_of c i) u) → SmallMove c i v (set_bot c i b)
small c i v b may same = record {
  valid = become_valid c i (bot_of c i) b may;
  same = record { rest = refl; size = same_size c i b; ids = same_ids c i (bot_of c i) b may.there };
  spots = λ u ne. become_same c i (bot_of c i) b may u (same u ne);
  bots = at_other c i b;
}

-- an amoebot that may leave a node
pub record MayShrink (c : Config) (i : ℕ) (v : Node) : Type 0 where
  pub valid : IsValid c
  pub there : bot_at c i ≡ Some (bot_of c i)
  pub expanded : is_contracted (bot_of c i) ≡ false
  pub own : is_own (bot_of c i) v ≡ true

-- its other node is the head or the tail, and another one
data Others (b : Bot) (v : Node) : Type 0 where
  keeps_tail : b.head ≡ v → other_node b v ≡ b.tail → Others b v
  keeps_head : b.tail ≡ v → b.head ≢ v → other_node b v ≡ b.head → Others b v

others : (b : Bot) (v : Node) → is_own b v ≡ true → Others b v
others b v own = elim (cases_Bool (node_eq b.head v)) [
  | inl t ↦ keeps_tail (node_eq-true b.head v t) (ap (λ s. if s then b.tail else b.head) t)
  | inr f ↦ elim (own_cases b v own) [
    | inl h ↦ absurd (both_ways _ f (eq-node_eq b.head v h))
    | inr h ↦ keeps_head h (λ e. both_ways _ f (eq-node_eq b.head v e)) (ap (λ s. if s then b.tail else b.head) f)
  ]
]

other_own : (b : Bot) (v : Node) → Others b v → is_own b (other_node b v) ≡ true
other_own b v (keeps_tail h e) = own_tail b (other_node b v) (sym e)
other_own b v (keeps_head h ne e) = own_head b (other_node b v) (sym e)

other_inside : (c : Config) (b : Bot) (v : Node) → IsBot (frame c) b → Others b v → is_in c.area (other_node b v) ≡ true
other_inside c b v fits (keeps_tail h e) = ap (is_in c.area) e ∙ fits.tail
other_inside c b v fits (keeps_head h ne e) = ap (is_in c.area) e ∙ fits.head

other_open : (c : Config) (b : Bot) (v : Node) → IsBot (frame c) b → Others b v → is_wall c (other_node b v) ≡ false
other_open c b v fits (keeps_tail h e) = ap (is_wall c) e ∙ fits.tail_open
other_open c b v fits (keeps_head h ne e) = ap (is_wall c) e ∙ fits.head_open

-- the nodes of the contracted one
in_other : (b : Bot) (o u : Node) → is_own (contracted_in b o) u ≡ true → o ≡ u
in_other b o u own = elim (own_cases (contracted_in b o) u own) [ inl h ↦ h | inr h ↦ h ]

not_left : (b : Bot) (v : Node) → is_contracted b ≡ false → Others b v → other_node b v ≢ v
not_left b v expanded (keeps_tail h e) same = both_ways _ expanded (eq-node_eq b.head b.tail (h ∙ sym same ∙ e))
not_left b v expanded (keeps_head h ne e) same = ne (sym e ∙ same)

-- at another node than the one that is left nothing changes
same_but : (b : Bot) (v u : Node) → Others b v → u ≢ v → is_own (contracted_in b (other_node b v)) u ≡ is_own b u
same_but b v u (keeps_tail h e) ne = elim (cases_node b.tail u) [
  | inl t ↦ own_head (contracted_in b (other_node b v)) u (e ∙ t) ∙ sym (own_tail b u t)
  | inr f ↦ not_own (contracted_in b (other_node b v)) u (λ s. f (sym e ∙ s)) (λ s. f (sym e ∙ s)) ∙ sym (not_own b u (λ s. ne (sym s ∙ h)) f)
]
same_but b v u (keeps_head h apart e) ne = elim (cases_node b.head u) [
  | inl t ↦ own_head (contracted_in b (other_node b v)) u (e ∙ t) ∙ sym (own_head b u t)
  | inr f ↦ not_own (contracted_in b (other_node b v)) u (λ s. f (sym e ∙ s)) (λ s. f (sym e ∙ s)) ∙ sym (not_own b u f (λ s. ne (sym s ∙ h)))
]

module _ (c : Config) (i : ℕ) (v : Node) (may : MayShrink c i v) where
  pub shrinks : MayBecome c i (bot_of c i) (contracted_in (bot_of c i) (other_node (bot_of c i) v))
  shrinks =
      let b = bot_of c i in
      let o = other_node b v in
      let which = others b v may.own in
      let fits = may.valid.each i b may.there in
      let inside = other_inside c b v fits which in
      let no_wall = other_open c b v fits which in
      record {
        valid = may.valid;
        there = may.there;
        fits = record { head = inside; tail = inside; head_open = no_wall; tail_open = no_wall; close = or_left _ _ (node_eq_same o); rot = fits.rot; values = fits.values; eight = fits.eight };
        free = λ u own. inl (ap (is_own b) (sym (in_other b o u own)) ∙ other_own b v which);
      }

  pub shrunk : SmallMove c i v (shrink c i v)
  shrunk = small c i v (contracted_in (bot_of c i) (other_node (bot_of c i) v)) shrinks (λ u ne. same_but (bot_of c i) v u (others (bot_of c i) v may.own) ne)

  -- the node is left empty
  pub shrunk_empty : occupant (shrink c i v) v ≡ None
  shrunk_empty =
      let b = bot_of c i in
      left_empty c i b (contracted_in b (other_node b v)) shrinks v (elim (cases_Bool (is_own (contracted_in b (other_node b v)) v)) [
        | inl t ↦ absurd (not_left b v may.expanded (others b v may.own) (in_other b (other_node b v) v t))
        | inr f ↦ f
      ]) may.own

  pub shrunk_out : TakesOut (occupied c) (occupied (shrink c i v)) v
  shrunk_out = record { gone = ap is_some shrunk_empty; others = λ u ne. ap is_some (shrunk.spots u ne) }

-- an amoebot that may enter a node
pub record MayGrow (c : Config) (i : ℕ) (v : Node) : Type 0 where
  pub valid : IsValid c
  pub there : bot_at c i ≡ Some (bot_of c i)
  pub contracted : is_contracted (bot_of c i) ≡ true
  pub next : Adjacent (bot_of c i).head v
  pub inside : is_in c.area v ≡ true
  pub no_wall : is_wall c v ≡ false
  pub empty : occupant c v ≡ None

module _ (c : Config) (i : ℕ) (v : Node) (may : MayGrow c i v) where
  one_node : (bot_of c i).head ≡ (bot_of c i).tail
  one_node = node_eq-true (bot_of c i).head (bot_of c i).tail may.contracted

  pub grows : MayBecome c i (bot_of c i) (with_head (bot_of c i) v)
  grows =
      let b = bot_of c i in
      let fits = may.valid.each i b may.there in
      record {
        valid = may.valid;
        there = may.there;
        fits = record { head = may.inside; tail = fits.tail; head_open = may.no_wall; tail_open = fits.tail_open; close = or_right _ _ (Adjacent-is_adjacent v b.tail (Adjacent-sym b.tail v (subst (λ u. Adjacent u v) one_node may.next))); rot = fits.rot; values = fits.values; eight = fits.eight };
        free = λ u own. elim (own_cases (with_head b v) u own) [
          | inl h ↦ inr (ap (occupant c) (sym h) ∙ may.empty)
          | inr h ↦ inl (own_tail b u h)
        ];
      }

  still_own : (u : Node) → u ≢ v → is_own (with_head (bot_of c i) v) u ≡ is_own (bot_of c i) u
  still_own u ne =
      let b = bot_of c i in
      elim (cases_node b.tail u) [
        | inl t ↦ own_tail (with_head b v) u t ∙ sym (own_tail b u t)
        | inr f ↦ not_own (with_head b v) u (λ s. ne (sym s)) f ∙ sym (not_own b u (λ s. f (sym one_node ∙ s)) f)
      ]

  pub grown : SmallMove c i v (grow c i v)
  grown = small c i v (with_head (bot_of c i) v) grows still_own

  -- the node has the amoebot
  pub grown_there : occupant (grow c i v) v ≡ Some i
  grown_there = become_occupant c i (bot_of c i) (with_head (bot_of c i) v) grows v ∙ ap (λ t. occupant_then t (is_own (bot_of c i) v) i (occupant c v)) (own_head (with_head (bot_of c i) v) v refl)

  pub grown_in : PutsIn (occupied c) (occupied (grow c i v)) v
  grown_in = record { there = ap is_some grown_there; others = λ u ne. ap is_some (grown.spots u ne) }
