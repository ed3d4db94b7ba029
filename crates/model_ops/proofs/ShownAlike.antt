-- Configurations that show the same agree, so an activation meets the same answers on them.
use Rattle.std.proofs.Common.{◌≡◌, ◌∙◌, ℕ, List, [], ◌∷◌, true, ap, sym, refl, subst, inl, inr, Some, None}
use Rattle.std.specs.Prelude.{is_some, IsSome}
use Rattle.std.specs.Result.{result_err}
use Rattle.std.proofs.lemmas.Bool.{cases_Bool}
use Rattle.tri_lattice.specs.declared.node.Node.{Node}
use Rattle.tri_lattice.specs.Extent.{Extent, index_of, is_in}
use Rattle.amoebot_state.specs.declared.bot.Bot.{Bot}
use Rattle.amoebot_state.specs.Configs.{Config, IsValid, bot_at, bot_of, is_wall, occupant}
use Rattle.amoebot_state.specs.Zones.{Shown, zone_nodes, shown, shown_alone}
use Rattle.amoebot_state.proofs.Members.{Has}
use Rattle.amoebot_state.proofs.Directions.{beside_in_zone}
use Rattle.amoebot_state.proofs.ShownAlone.{alone_own, alone_has, alone_only, alone_occupant, alone_wall, no_wall_outside}
use Rattle.amoebot_state.proofs.Zones.{body_in_zone, spot_in_zone}
use Rattle.amoebot_state.proofs.Occupants.{covered_in, occupant_covers, outside_empty}
use Rattle.amoebot_state.proofs.Options.{there_is, none_if}
use Rattle.model_ops.specs.Reaches.{Writing, Acts, write_all, move, perform}
use Rattle.model_ops.specs.Operations.{write}
use Rattle.model_ops.specs.Laws.{ShownMeetsTheSame}
use Rattle.model_ops.proofs.Told.{bot_is, occupant_told}
use Rattle.model_ops.proofs.KeepsRest.{own_there}
use Rattle.model_ops.proofs.Alike.{both_alike}
use Rattle.model_ops.proofs.Agrees.{Agrees, answers_alike, move_alike}
use Rattle.model_ops.proofs.AgreesAfter.{write_agrees, writes_agree}

-- the node is one of the zone's, if it lies in the area
abbrev pub Seen : Config → ℕ → Node → Type 0
Seen c i v = is_in c.area v ≡ true → Has v (zone_nodes c.area (bot_of c i))

-- the amoebot with this id is shown
abbrev pub IsShownBot : Config → ℕ → ℕ → Type 0
IsShownBot c i j = IsSome (bot_at (shown_alone (shown c i)) j)

module _ (c d : Config) (i : ℕ) (valid : IsValid c) (valid_too : IsValid d) (has : IsSome (bot_at c i)) (same : shown d i ≡ shown c i) where
  at : bot_at c i ≡ Some (bot_of c i)
  at = own_there c i has

  -- d has what is shown
  pub shown_too : (j : ℕ) (b : Bot) → bot_at (shown_alone (shown c i)) j ≡ Some b → bot_at d j ≡ Some b
  shown_too j b e = (alone_only d i j b (ap (λ s. bot_at (shown_alone s) j) same ∙ e)).0

  own_too : bot_at d i ≡ Some (bot_of c i)
  own_too = shown_too i (bot_of c i) (alone_own c i (bot_of c i) at)

  pub same_area : d.area ≡ c.area
  same_area = ap (λ (s : Shown). s.area) same

  -- a node that can be seen is a wall in both or in neither
  same_walls : (v : Node) → Seen c i v → is_wall d v ≡ is_wall c v
  same_walls v seen = elim (cases_Bool (is_in c.area v)) [
    | inl t ↦
        let listed = seen t in
        let of_d = alone_wall d i v (spot_in_zone d i (bot_of c i) v own_too (subst (λ (a : Extent). Has v (zone_nodes a (bot_of c i))) (sym same_area) listed)) in
        sym of_d ∙ ap (λ s. is_wall (shown_alone s) v) same ∙ alone_wall c i v (spot_in_zone c i (bot_of c i) v at listed)
    | inr f ↦ no_wall_outside d v (ap (λ a. is_in a v) same_area ∙ f) ∙ sym (no_wall_outside c v f)
  ]

  same_spots : (v : Node) → Seen c i v → occupant d v ≡ occupant c v
  same_spots v seen = elim (cases_Bool (is_in c.area v)) [
    | inl t ↦
        let listed = seen t in
        let of_d = alone_occupant d i (bot_of c i) v valid_too own_too (subst (λ (a : Extent). Has v (zone_nodes a (bot_of c i))) (sym same_area) listed) in
        sym of_d ∙ ap (λ s. occupant (shown_alone s) v) same ∙ alone_occupant c i (bot_of c i) v valid at listed
    | inr f ↦
        let out : index_of c.area v ≡ None = none_if (index_of c.area v) f in
        sym (outside_empty d valid_too v (ap (λ a. index_of a v) same_area ∙ out)) ∙ outside_empty c valid v out
  ]

  same_bots : (j : ℕ) → IsShownBot c i j → bot_at d j ≡ bot_at c j
  same_bots j t = let (b, e) = there_is (bot_at (shown_alone (shown c i)) j) t in shown_too j b e ∙ sym (alone_only c i j b e).0

  pub agrees_at_first : Agrees (Seen c i) (IsShownBot c i) i c d
  agrees_at_first = record {
    valid = valid;
    valid_too = valid_too;
    there = at;
    there_too = own_too ∙ ap Some (sym (bot_is d i (bot_of c i) own_too));
    area = same_area;
    maxes = ap (λ (s : Shown). s.maxes) same;
    walls = same_walls;
    spots = same_spots;
    bots = same_bots;
    own = ap is_some (alone_own c i (bot_of c i) at);
    near = λ v beside inside. beside_in_zone c.area (bot_of c i) v (valid.each i (bot_of c i) at).rot beside inside;
    held = λ v n seen by.
        let listed = seen (covered_in c valid n v (occupant_covers c v n by)) in
        ap is_some (alone_has c i n (body_in_zone c i (bot_of c i) v n at listed by) ∙ (occupant_told c v n by).0);
  }

writes_alike : (V : Node → Type 0) (B : ℕ → Type 0) (i : ℕ) (c d : Config) → Agrees V B i c d → (ws : List Writing) → result_err (write_all d i ws) ≡ result_err (write_all c i ws)
writes_alike V B i c d agree [] = refl
writes_alike V B i c d agree (w ∷ ws) =
    both_alike (write d i w.port w.var w.value) (write c i w.port w.var w.value) (λ n. write_all n i ws) (λ m. write_all m i ws) ((answers_alike V B i c d agree).writes w.port w.var w.value) (λ n m second first.
    writes_alike V B i m n (write_agrees V B i c d agree w.port w.var w.value m n first second) ws)

pub acts_alike : (V : Node → Type 0) (B : ℕ → Type 0) (i : ℕ) (c d : Config) → Agrees V B i c d → (acts : Acts) → result_err (perform d i acts) ≡ result_err (perform c i acts)
acts_alike V B i c d agree acts =
    both_alike (write_all d i acts.writes) (write_all c i acts.writes) (λ n. move n i acts.guard acts.moved) (λ m. move m i acts.guard acts.moved) (writes_alike V B i c d agree acts.writes) (λ n m second first.
    move_alike V B i m n (writes_agree V B i c d agree acts.writes m n first second) acts.guard acts.moved)

pub shown_meets_the_same : ShownMeetsTheSame
shown_meets_the_same c d i valid valid_too has same =
    let V = Seen c i in
    let B = IsShownBot c i in
    let agree = agrees_at_first c d i valid valid_too has same in
    record {
      writes = writes_alike V B i c d agree;
      behind = λ ws m n first second. answers_alike V B i m n (writes_agree V B i c d agree ws m n first second);
      acts = acts_alike V B i c d agree;
    }
