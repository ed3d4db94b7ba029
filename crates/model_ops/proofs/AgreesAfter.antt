-- Configurations that agree do so after the same write, and hold the same after the same movement.
use Rattle.std.proofs.Common.{◌≡◌, ◌∙◌, ℕ, ℤ, List, [], ◌∷◌, Bool, ap, sym, subst, inl, inr, Option, Some}
use Rattle.std.specs.Prelude.{unsigned_abs, unwrap_or}
use Rattle.std.specs.declared.result.Result.TheVariants.{Ok}
use Rattle.std.proofs.lemmas.Bool.{cases_eq}
use Rattle.std.proofs.lemmas.Option.{same_Some}
use Rattle.tri_lattice.specs.declared.node.Node.{Node}
use Rattle.amoebot_state.specs.declared.bot.Bot.{Bot}
use Rattle.amoebot_state.specs.declared.bot.End.{End}
use Rattle.amoebot_state.specs.declared.bot.Port.{Port}
use Rattle.amoebot_state.specs.declared.verdict.Moved.{Moved}
use Rattle.amoebot_state.specs.declared.verdict.Moved.TheVariants as moved
use Rattle.amoebot_state.specs.Ports.{is_own, behind, end_node, is_beside}
use Rattle.amoebot_state.specs.Configs.{Config, bot_at, bot_of, blank, is_wall, occupant, set_bot}
use Rattle.model_ops.specs.Operations.{write, with_value, with_head, contracted_in, other_node, grow, shrink}
use Rattle.model_ops.specs.Reaches.{Writing, write_all, move}
use Rattle.model_ops.proofs.Told.{then_told, ok_told}
use Rattle.model_ops.proofs.Becomes.{MayBecome, become_occupant, occupant_then, at_own, at_other}
use Rattle.model_ops.proofs.SmallMoves.{MayShrink, MayGrow, shrinks, grows}
use Rattle.model_ops.proofs.Movements.{Passes, expand_told, contract_told, push_told, pull_told}
use Rattle.model_ops.proofs.Written.{written, write_told}
use Rattle.model_ops.proofs.Agrees.{Agrees, same_bot, same_own, same_node, same_behind, held_behind, owner_alike, owner_held}

-- they have the same occupants of some nodes and the same amoebots of some ids
pub record SameOn (V : Node → Type 0) (B : ℕ → Type 0) (c d : Config) : Type 0 where
  pub spots : (v : Node) → V v → occupant d v ≡ occupant c v
  pub bots : (j : ℕ) → B j → bot_at d j ≡ bot_at c j

-- the same amoebot becomes the same in both
become_alike : (V : Node → Type 0) (B : ℕ → Type 0) (c d : Config) (n : ℕ) (a b a' b' : Bot) → SameOn V B c d → MayBecome c n a b → MayBecome d n a' b' → a' ≡ a → b' ≡ b → SameOn V B (set_bot c n b) (set_bot d n b')
become_alike V B c d n a b a' b' same one two was now = record {
  spots = λ v h. become_occupant d n a' b' two v ∙ (λ t. occupant_then (is_own (now t) v) (is_own (was t) v) n (same.spots v h t)) ∙ sym (become_occupant c n a b one v);
  bots = λ j h. elim (cases_eq j n) [
    | inl e ↦ ap (bot_at (set_bot d n b')) e ∙ at_own d n a' b' two.there ∙ ap Some now ∙ sym (ap (bot_at (set_bot c n b)) e ∙ at_own c n a b one.there)
    | inr ne ↦ at_other d n b' j ne ∙ same.bots j h ∙ sym (at_other c n b j ne)
  ];
}

bot_alike : (V : Node → Type 0) (B : ℕ → Type 0) (c d : Config) (n : ℕ) → SameOn V B c d → B n → bot_of d n ≡ bot_of c n
bot_alike V B c d n same h = ap (λ o. unwrap_or o blank) (same.bots n h)

shrink_alike : (V : Node → Type 0) (B : ℕ → Type 0) (c d : Config) (n : ℕ) (v : Node) → SameOn V B c d → B n → MayShrink c n v → MayShrink d n v → SameOn V B (shrink c n v) (shrink d n v)
shrink_alike V B c d n v same h one two =
    let bot = bot_alike V B c d n same h in
    become_alike V B c d n (bot_of c n) (contracted_in (bot_of c n) (other_node (bot_of c n) v)) (bot_of d n) (contracted_in (bot_of d n) (other_node (bot_of d n) v)) same (shrinks c n v one) (shrinks d n v two) bot (ap (λ b. contracted_in b (other_node b v)) bot)

grow_alike : (V : Node → Type 0) (B : ℕ → Type 0) (c d : Config) (n : ℕ) (v : Node) → SameOn V B c d → B n → MayGrow c n v → MayGrow d n v → SameOn V B (grow c n v) (grow d n v)
grow_alike V B c d n v same h one two =
    let bot = bot_alike V B c d n same h in
    become_alike V B c d n (bot_of c n) (with_head (bot_of c n) v) (bot_of d n) (with_head (bot_of d n) v) same (grows c n v one) (grows d n v two) bot (ap (λ b. with_head b v) bot)

pass_alike : (V : Node → Type 0) (B : ℕ → Type 0) (c d : Config) (from to : ℕ) (v : Node) → SameOn V B c d → B from → B to → Passes c from to v → Passes d from to v → SameOn V B (grow (shrink c from v) to v) (grow (shrink d from v) to v)
pass_alike V B c d from to v same hf ht one two =
    grow_alike V B (shrink c from v) (shrink d from v) to v (shrink_alike V B c d from v same hf one.leaves two.leaves) ht one.enters two.enters

module _ (V : Node → Type 0) (B : ℕ → Type 0) (i : ℕ) (c d : Config) (agree : Agrees V B i c d) where
  pub same_on : SameOn V B c d
  same_on = record { spots = agree.spots; bots = agree.bots }

  -- the same node, and the same neighbour on it
  same_end : (e : End) → end_node (bot_of d i) e ≡ end_node (bot_of c i) e
  same_end e = ap (λ b. end_node b e) (same_own V B i c d agree)

  same_peer : (p : Port) (n m : ℕ) → occupant c (behind (bot_of c i) p) ≡ Some n → occupant d (behind (bot_of d i) p) ≡ Some m → m ≡ n
  same_peer p n m by too = same_Some m n (sym too ∙ same_behind V B i c d agree p ∙ by)

  joined : (x y c' d' : Config) → c' ≡ x → d' ≡ y → SameOn V B x y → SameOn V B c' d'
  joined x y c' d' e f same = let P : Config → Type 0 = λ z. SameOn V B c' z in let Q : Config → Type 0 = λ z. SameOn V B z y in subst P (sym f) (subst Q (sym e) same)

  -- after the same movement they hold the same
  pub move_same : (guard : Bool) (m : Moved) (c' d' : Config) → move c i guard m ≡ Ok c' → move d i guard m ≡ Ok d' → SameOn V B c' d'
  move_same guard moved.None c' d' e f = let P : Config → Type 0 = λ y. SameOn V B c' y in let Q : Config → Type 0 = λ x. SameOn V B x d in subst P (ok_told f) (subst Q (ok_told e) same_on)
  move_same guard (moved.Expand p) c' d' e f =
      let one = expand_told c i p c' agree.valid agree.there e in
      let two = expand_told d i p d' agree.valid_too agree.there_too f in
      let v = behind (bot_of c i) p in
      let node = same_node V B i c d agree p in
      let M : Node → Type 0 = λ u. MayGrow d i u in
      joined (grow c i v) (grow d i v) c' d' one.is (two.is ∙ ap (grow d i) node) (grow_alike V B c d i v same_on agree.own one.may (subst M node two.may))
  move_same guard (moved.Contract way) c' d' e f =
      let one = contract_told c i guard way c' agree.valid agree.there e in
      let two = contract_told d i guard way d' agree.valid_too agree.there_too f in
      let v = end_node (bot_of c i) way in
      let node = same_end way in
      let M : Node → Type 0 = λ u. MayShrink d i u in
      joined (shrink c i v) (shrink d i v) c' d' one.is (two.is ∙ ap (shrink d i) node) (shrink_alike V B c d i v same_on agree.own one.may (subst M node two.may))
  move_same guard (moved.Push p) c' d' e f =
      let one = push_told c i p c' agree.valid agree.there e in
      let two = push_told d i p d' agree.valid_too agree.there_too f in
      let v = behind (bot_of c i) p in
      let n = one.peer in
      let node = same_node V B i c d agree p in
      let peer = same_peer p n two.peer one.by two.by in
      let M : Node → Type 0 = λ u. Passes d two.peer i u in
      let N : ℕ → Type 0 = λ k. Passes d k i v in
      joined (grow (shrink c n v) i v) (grow (shrink d n v) i v) c' d' one.is
      (two.is ∙ (λ t. grow (shrink d (peer t) (node t)) i (node t)))
      (pass_alike V B c d n i v same_on (held_behind V B i c d agree p n one.by) agree.own one.pass (subst N peer (subst M node two.pass)))
  move_same guard (moved.Pull p) c' d' e f =
      let one = pull_told c i p c' agree.valid agree.there e in
      let two = pull_told d i p d' agree.valid_too agree.there_too f in
      let v = end_node (bot_of c i) p.end in
      let n = one.peer in
      let node = same_end p.end in
      let peer = same_peer p n two.peer one.by two.by in
      let M : Node → Type 0 = λ u. Passes d i two.peer u in
      let N : ℕ → Type 0 = λ k. Passes d i k v in
      joined (grow (shrink c i v) n v) (grow (shrink d i v) n v) c' d' one.is
      (two.is ∙ (λ t. grow (shrink d i (node t)) (peer t) (node t)))
      (pass_alike V B c d i n v same_on agree.own (held_behind V B i c d agree p n one.by) one.pass (subst N peer (subst M node two.pass)))

  -- after the same write they agree
  pub write_agrees : (p : Option Port) (x : ℕ) (s : ℤ) (c' d' : Config) → write c i p x s ≡ Ok c' → write d i p x s ≡ Ok d' → Agrees V B i c' d'
  write_agrees p x s c' d' e f =
      let one = write_told c i p x s c' agree.valid agree.there e in
      let two = write_told d i p x s d' agree.valid_too agree.there_too f in
      let first = written c i p x s c' agree.valid agree.there e in
      let second = written d i p x s d' agree.valid_too agree.there_too f in
      let n = one.owner_id in
      let k = unsigned_abs s in
      let id : two.owner_id ≡ n = ok_told (sym two.by ∙ owner_alike V B i c d agree p ∙ one.by) in
      let h : B n = owner_held V B i c d agree p n one.by in
      let bot = same_bot V B i c d agree n h in
      let there : bot_at d n ≡ Some (bot_of d n) = ap (bot_at d) (sym id) ∙ two.owns.there ∙ ap (λ j. Some (bot_of d j)) id in
      let is_d : d' ≡ set_bot d n (with_value (bot_of d n) x k) = two.is ∙ ap (λ j. set_bot d j (with_value (bot_of d j) x k)) id in
      record {
        valid = first.valid;
        valid_too = second.valid;
        there = first.there;
        there_too = second.there;
        area = ap (λ (y : Config). y.area) second.same.rest ∙ agree.area ∙ sym (ap (λ (y : Config). y.area) first.same.rest);
        maxes = ap (λ (y : Config). y.maxes) second.same.rest ∙ agree.maxes ∙ sym (ap (λ (y : Config). y.maxes) first.same.rest);
        walls = λ v near. ap (λ (y : Config). is_wall y v) second.same.rest ∙ agree.walls v near ∙ sym (ap (λ (y : Config). is_wall y v) first.same.rest);
        spots = λ v near. second.spots v ∙ agree.spots v near ∙ sym (first.spots v);
        bots = λ j b. ap (λ y. bot_at y j) is_d ∙ set_alike n k x bot one.owns.there there j b ∙ sym (ap (λ y. bot_at y j) one.is);
        own = agree.own;
        near = λ v beside. agree.near v (ap (λ b. is_beside b v) (sym first.own) ∙ beside);
        held = λ v j near by. agree.held v j near (sym (first.spots v) ∙ by);
      }
    where
      set_alike : (n k x : ℕ) → bot_of d n ≡ bot_of c n → bot_at c n ≡ Some (bot_of c n) → bot_at d n ≡ Some (bot_of d n) → (j : ℕ) → B j → bot_at (set_bot d n (with_value (bot_of d n) x k)) j ≡ bot_at (set_bot c n (with_value (bot_of c n) x k)) j
      set_alike n k x bot at at' j b = elim (cases_eq j n) [
        | inl e ↦ ap (bot_at (set_bot d n (with_value (bot_of d n) x k))) e ∙ at_own d n (bot_of d n) (with_value (bot_of d n) x k) at' ∙ ap (λ a. Some (with_value a x k)) bot ∙ sym (ap (bot_at (set_bot c n (with_value (bot_of c n) x k))) e ∙ at_own c n (bot_of c n) (with_value (bot_of c n) x k) at)
        | inr ne ↦ at_other d n (with_value (bot_of d n) x k) j ne ∙ agree.bots j b ∙ sym (at_other c n (with_value (bot_of c n) x k) j ne)
      ]

-- after the same writes too
pub writes_agree : (V : Node → Type 0) (B : ℕ → Type 0) (i : ℕ) (c d : Config) → Agrees V B i c d → (ws : List Writing) (c' d' : Config) → write_all c i ws ≡ Ok c' → write_all d i ws ≡ Ok d' → Agrees V B i c' d'
writes_agree V B i c d agree [] c' d' e f = let P : Config → Type 0 = λ y. Agrees V B i c' y in let Q : Config → Type 0 = λ x. Agrees V B i x d in subst P (ok_told f) (subst Q (ok_told e) agree)
writes_agree V B i c d agree (w ∷ ws) c' d' e f =
    let (m, first, rest) = then_told (write c i w.port w.var w.value) _ c' e in
    let (n, second, more) = then_told (write d i w.port w.var w.value) _ d' f in
    writes_agree V B i m n (write_agrees V B i c d agree w.port w.var w.value m n first second) ws c' d' rest more
