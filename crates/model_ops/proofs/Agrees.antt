-- Two configurations that agree on what an amoebot can see and reach: the operations answer alike on both.
use Rattle.std.proofs.Common.{◌≡◌, ◌<◌, ℕ, ℤ, [], ◌∷◌, Bool, true, not, ◌&&◌, ◌||◌, ap, ◌∙◌, refl, subst, arith, Option, Some, None}
use Rattle.std.specs.Prelude.{is_some, is_none, slice_index, unwrap_or}
use Rattle.std.specs.Result.{result_err}
use Rattle.std.specs.declared.result.Result.TheVariants.{Ok}
use Rattle.std.proofs.lemmas.Bool.{or_left, or_right}
use Rattle.tri_lattice.specs.declared.node.Node.{Node}
use Rattle.tri_lattice.specs.Extent.{Extent, is_in}
use Rattle.tri_lattice.specs.Lattice.{step, is_adjacent}
use Rattle.tri_lattice.proofs.Steps.{Adjacent-is_adjacent}
use Rattle.ring_guard.specs.Rings.{is_one_arc, ring_in}
use Rattle.amoebot_state.specs.declared.bot.Bot.{Bot}
use Rattle.amoebot_state.specs.declared.bot.End.{End}
use Rattle.amoebot_state.specs.declared.bot.End.TheVariants.{Head, Tail}
use Rattle.amoebot_state.specs.declared.bot.Port.{Port}
use Rattle.amoebot_state.specs.declared.verdict.Moved.{Moved}
use Rattle.amoebot_state.specs.declared.verdict.Moved.TheVariants as moved
use Rattle.amoebot_state.specs.Ports.{is_contracted, is_port, behind, end_node, is_beside}
use Rattle.amoebot_state.specs.Configs.{Config, IsValid, bot_at, bot_of, blank, is_wall, occupant}
use Rattle.amoebot_state.specs.Occupied.{occupied}
use Rattle.amoebot_state.proofs.Directions.{port_leads_beside}
use Rattle.model_ops.specs.Operations.{connected, is_free, is_free_node, owner, read, write, peer, seen_over, is_value, expand, contract, push, pull}
use Rattle.model_ops.specs.Reaches.{move}
use Rattle.model_ops.specs.Sights.{sight}
use Rattle.model_ops.specs.Laws.{AnswersAlike}
use Rattle.model_ops.proofs.Told.{need_told, peer_told, ok_told}
use Rattle.model_ops.proofs.Alike.{need_same, peer_same, then_same, need_alike, peer_alike, then_alike}

-- they have the same area and maxima, the same walls and occupants of some nodes, and the same amoebots of some ids: the amoebot's own id, the nodes beside it, and the
-- ids on such nodes are among these
pub record Agrees (V : Node → Type 0) (B : ℕ → Type 0) (i : ℕ) (c d : Config) : Type 0 where
  pub valid : IsValid c
  pub valid_too : IsValid d
  pub there : bot_at c i ≡ Some (bot_of c i)
  pub there_too : bot_at d i ≡ Some (bot_of d i)
  pub area : d.area ≡ c.area
  pub maxes : d.maxes ≡ c.maxes
  pub walls : (v : Node) → V v → is_wall d v ≡ is_wall c v
  pub spots : (v : Node) → V v → occupant d v ≡ occupant c v
  pub bots : (j : ℕ) → B j → bot_at d j ≡ bot_at c j
  pub own : B i
  pub near : (v : Node) → is_beside (bot_of c i) v ≡ true → V v
  pub held : (v : Node) (n : ℕ) → V v → occupant c v ≡ Some n → B n

module _ (V : Node → Type 0) (B : ℕ → Type 0) (i : ℕ) (c d : Config) (agree : Agrees V B i c d) where
  pub same_bot : (j : ℕ) → B j → bot_of d j ≡ bot_of c j
  same_bot j b = ap (λ o. unwrap_or o blank) (agree.bots j b)

  pub same_own : bot_of d i ≡ bot_of c i
  same_own = same_bot i agree.own

  pub same_node : (p : Port) → behind (bot_of d i) p ≡ behind (bot_of c i) p
  same_node p = ap (λ b. behind b p) same_own

  near_port : (p : Port) → V (behind (bot_of c i) p)
  near_port p = agree.near (behind (bot_of c i) p) (port_leads_beside (bot_of c i) p)

  pub same_behind : (p : Port) → occupant d (behind (bot_of d i) p) ≡ occupant c (behind (bot_of c i) p)
  same_behind p = ap (occupant d) (same_node p) ∙ agree.spots (behind (bot_of c i) p) (near_port p)

  pub held_behind : (p : Port) (n : ℕ) → occupant c (behind (bot_of c i) p) ≡ Some n → B n
  held_behind p n by = agree.held (behind (bot_of c i) p) n (near_port p) by

  same_inside : (p : Port) → is_in d.area (behind (bot_of d i) p) ≡ is_in c.area (behind (bot_of c i) p)
  same_inside p = ap (λ (a : Extent). is_in a (behind (bot_of d i) p)) agree.area ∙ ap (is_in c.area) (same_node p)

  same_wall : (p : Port) → is_wall d (behind (bot_of d i) p) ≡ is_wall c (behind (bot_of c i) p)
  same_wall p = ap (is_wall d) (same_node p) ∙ agree.walls (behind (bot_of c i) p) (near_port p)

  same_port : (p : Port) → is_port (bot_of d i) p ≡ is_port (bot_of c i) p
  same_port p = ap (λ b. is_port b p) same_own

  same_contracted : is_contracted (bot_of d i) ≡ is_contracted (bot_of c i)
  same_contracted = ap is_contracted same_own

  -- what is asked is answered alike
  connected_alike : (p : Port) → connected d i p ≡ connected c i p
  connected_alike p = need_same _ _ _ (same_port p) (λ _. ap (λ o. Ok (is_some o)) (same_behind p))

  free_alike : (p : Port) → is_free d i p ≡ is_free c i p
  free_alike p = need_same _ _ _ (same_port p) (λ _. (let both : is_free_node d (behind (bot_of d i) p) ≡ is_free_node c (behind (bot_of c i) p) = λ t. same_inside p t && not (same_wall p t) && is_none (same_behind p t) in ap Ok both))

  pub owner_alike : (p : Option Port) → owner d i p ≡ owner c i p
  owner_alike None = refl
  owner_alike (Some p) = need_same _ _ _ (same_port p) (λ _. peer_same _ _ (same_behind p) (λ n by. refl))

  pub owner_held : (p : Option Port) (n : ℕ) → owner c i p ≡ Ok n → B n
  owner_held None n e = subst B (ok_told e) agree.own
  owner_held (Some p) n e =
      let (port, e) = need_told (is_port (bot_of c i) p) _ _ n e in
      let (k, by, e) = peer_told (occupant c (behind (bot_of c i) p)) _ n e in
      subst B (ok_told e) (held_behind p k by)

  read_alike : (p : Option Port) (x : ℕ) → read d i p x ≡ read c i p x
  read_alike p x = then_same _ _ (owner_alike p) (λ n e. ap (λ (b : Bot). Ok (slice_index b.mem x)) (same_bot n (owner_held p n e)))

  peer_is_alike : (p : Port) → peer d i p ≡ peer c i p
  peer_is_alike p = need_same _ _ _ (same_port p) (λ _. peer_same _ _ (same_behind p) (λ n by. (λ t. Ok (seen_over (same_own t) p (same_bot n (held_behind p n by) t)))))

  sight_alike : sight d i ≡ sight c i
  sight_alike = λ t. record { own = same_own t; connects = λ p. connected_alike p t; frees = λ p. free_alike p t; reads = λ p x. read_alike p x t; peers = λ p. peer_is_alike p t }

  write_alike : (p : Option Port) (x : ℕ) (s : ℤ) → result_err (write d i p x s) ≡ result_err (write c i p x s)
  write_alike p x s = then_alike _ _ (owner_alike p) (λ n e. need_alike _ _ _ (ap (λ maxes. is_value maxes x s) agree.maxes) (λ _. refl))

  expand_alike : (p : Port) → result_err (expand d i p) ≡ result_err (expand c i p)
  expand_alike p =
      need_alike _ _ _ same_contracted (λ _.
      need_alike _ _ _ (same_port p) (λ _.
      need_alike _ _ _ (same_inside p) (λ _.
      need_alike _ _ _ (ap not (same_wall p)) (λ _.
      need_alike _ _ _ (ap is_none (same_behind p)) (λ _. refl)))))

  -- the ring of an own node
  near_ring : (e : End) (k : ℕ) → k < 6 → V (step (end_node (bot_of c i) e) k)
  near_ring e k lt = agree.near (step (end_node (bot_of c i) e) k) (beside e (Adjacent-is_adjacent (end_node (bot_of c i) e) (step (end_node (bot_of c i) e) k) (k, lt, refl)))
    where
      beside : (e : End) → is_adjacent (end_node (bot_of c i) e) (step (end_node (bot_of c i) e) k) ≡ true → is_beside (bot_of c i) (step (end_node (bot_of c i) e) k) ≡ true
      beside Head t = or_left _ _ (or_right _ _ t)
      beside Tail t = or_right _ _ t

  same_ring : (e : End) → ring_in (occupied d) (end_node (bot_of d i) e) ≡ ring_in (occupied c) (end_node (bot_of c i) e)
  same_ring e =
      let v = end_node (bot_of c i) e in
      let at : (k : ℕ) → k < 6 → occupied d (step v k) ≡ occupied c (step v k) = λ k lt. ap is_some (agree.spots (step v k) (near_ring e k lt)) in
      let a0 = at 0 (omega arith) in
      let a1 = at 1 (omega arith) in
      let a2 = at 2 (omega arith) in
      let a3 = at 3 (omega arith) in
      let a4 = at 4 (omega arith) in
      let a5 = at 5 (omega arith) in
      ap (λ b. ring_in (occupied d) (end_node b e)) same_own ∙ (λ t. a0 t ∷ a1 t ∷ a2 t ∷ a3 t ∷ a4 t ∷ a5 t ∷ [])

  contract_alike : (guard : Bool) (e : End) → result_err (contract d i guard e) ≡ result_err (contract c i guard e)
  contract_alike guard e =
      need_alike _ _ _ (ap not same_contracted) (λ _.
      need_alike _ _ _ (ap (λ ring. not guard || is_one_arc ring) (same_ring e)) (λ _. refl))

  push_alike : (p : Port) → result_err (push d i p) ≡ result_err (push c i p)
  push_alike p =
      need_alike _ _ _ same_contracted (λ _.
      need_alike _ _ _ (same_port p) (λ _.
      peer_alike _ _ (same_behind p) (λ n by.
      need_alike _ _ _ (ap (λ b. not (is_contracted b)) (same_bot n (held_behind p n by))) (λ _. refl))))

  pull_alike : (p : Port) → result_err (pull d i p) ≡ result_err (pull c i p)
  pull_alike p =
      need_alike _ _ _ (ap not same_contracted) (λ _.
      need_alike _ _ _ (same_port p) (λ _.
      peer_alike _ _ (same_behind p) (λ n by.
      need_alike _ _ _ (ap is_contracted (same_bot n (held_behind p n by))) (λ _. refl))))

  pub answers_alike : AnswersAlike i c d
  answers_alike = record { asked = sight_alike; writes = write_alike; expands = expand_alike; contracts = contract_alike; pushes = push_alike; pulls = pull_alike }

  pub move_alike : (guard : Bool) (m : Moved) → result_err (move d i guard m) ≡ result_err (move c i guard m)
  move_alike guard moved.None = refl
  move_alike guard (moved.Expand p) = expand_alike p
  move_alike guard (moved.Contract e) = contract_alike guard e
  move_alike guard (moved.Push p) = push_alike p
  move_alike guard (moved.Pull p) = pull_alike p
