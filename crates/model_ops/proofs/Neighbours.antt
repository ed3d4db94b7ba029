-- The node behind a port.
use Rattle.std.proofs.Common.{◌≡◌, true, false, not, ap, sym, ◌∙◌, refl, inl, inr}
use Rattle.std.specs.Prelude.{if◌then◌else◌}
use Rattle.std.proofs.lemmas.Bool.{cases_Bool, and_parts, not-true}
use Rattle.tri_lattice.specs.Lattice.{Adjacent}
use Rattle.tri_lattice.proofs.Nodes.{node_eq-true, step_leaves}
use Rattle.amoebot_state.specs.declared.bot.Bot.{Bot}
use Rattle.amoebot_state.specs.declared.bot.End.{End}
use Rattle.amoebot_state.specs.declared.bot.End.TheVariants.{Head, Tail}
use Rattle.amoebot_state.specs.declared.bot.Port.{Port}
use Rattle.amoebot_state.specs.Ports.{is_own, is_head, is_contracted, is_port, behind, end_node, global}
use Rattle.amoebot_state.proofs.Owns.{own_head, own_tail, not_own}
use Rattle.amoebot_state.proofs.Directions.{global_below}

-- one step leads from the node that the port is on
pub port_next : (b : Bot) (p : Port) → Adjacent (end_node b p.end) (behind b p)
port_next b p = (global b p.dir, global_below b p.dir, refl)

-- the node of an end is the amoebot's own
pub end_own : (b : Bot) (e : End) → is_own b (end_node b e) ≡ true
end_own b Head = own_head b b.head refl
end_own b Tail = own_tail b b.tail refl

-- an amoebot that is contracted has one node
pub end_is_head : (b : Bot) (e : End) → is_contracted b ≡ true → end_node b e ≡ b.head
end_is_head b Head t = refl
end_is_head b Tail t = sym (node_eq-true b.head b.tail t)

-- the node behind a port is not the amoebot's own
pub port_leaves : (b : Bot) (p : Port) → is_port b p ≡ true → is_own b (behind b p) ≡ false
port_leaves b p port = elim (cases_Bool (is_contracted b)) [
  | inl t ↦
      let apart : (e : End) → end_node b e ≡ behind b p → ⊥ = λ e same.
      step_leaves (end_node b p.end) (global b p.dir) (global_below b p.dir) (sym same ∙ end_is_head b e t ∙ sym (end_is_head b p.end t)) in
      not_own b (behind b p) (apart Head) (apart Tail)
  | inr f ↦ not-true _ (sym (ap (λ s. if s then is_head p.end else not (is_own b (behind b p))) f) ∙ (and_parts _ _ port).1)
]
