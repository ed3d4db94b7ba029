-- Of the nodes at most one has another occupant once an activation is done: one that was the amoebot's own, or is.
use Rattle.std.proofs.Common.{◌≡◌, ◌≢◌, ◌⊎◌, ℕ, Bool, true, ap, sym, ◌∙◌, refl, subst, inl, inr, Some}
use Rattle.std.specs.Prelude.{IsSome}
use Rattle.std.specs.declared.result.Result.TheVariants.{Ok}
use Rattle.tri_lattice.specs.declared.node.Node.{Node}
use Rattle.amoebot_state.specs.declared.bot.Bot.{Bot}
use Rattle.amoebot_state.specs.declared.verdict.Moved.{Moved}
use Rattle.amoebot_state.specs.declared.verdict.Moved.TheVariants as moved
use Rattle.amoebot_state.specs.Ports.{is_own, behind, end_node}
use Rattle.amoebot_state.specs.Configs.{Config, IsValid, bot_at, bot_of, occupant}
use Rattle.amoebot_state.proofs.Owns.{own_head}
use Rattle.model_ops.specs.Operations.{with_head, grow, shrink}
use Rattle.model_ops.specs.Reaches.{Reaches, move}
use Rattle.model_ops.proofs.Becomes.{at_own}
use Rattle.model_ops.proofs.KeepsRest.{performed, own_there}
use Rattle.model_ops.proofs.Movements.{Passes, expand_told, contract_told, push_told, pull_told}
use Rattle.model_ops.proofs.Neighbours.{end_own}
use Rattle.model_ops.proofs.SmallMoves.{MayGrow, shrunk, grown}
use Rattle.model_ops.proofs.Told.{bot_is, ok_told}

-- all nodes but one have the same occupants, and that one is the amoebot's before or after
pub record OneNode (c : Config) (i : ℕ) (d : Config) : Type 0 where
  pub node : Node
  pub spots : (u : Node) → u ≢ node → occupant d u ≡ occupant c u
  pub own : (is_own (bot_of c i) node ≡ true) ⊎ (is_own (bot_of d i) node ≡ true)

-- the node that is entered is the amoebot's
entered : (c : Config) (i : ℕ) (v : Node) → MayGrow c i v → is_own (bot_of (grow c i v) i) v ≡ true
entered c i v may =
    let b = with_head (bot_of c i) v in
    ap (λ (a : Bot). is_own a v) (bot_is (grow c i v) i b (at_own c i (bot_of c i) b may.there)) ∙ own_head b v refl

-- one leaves it, the other enters it
passed_on : (c : Config) (one two : ℕ) (v u : Node) → Passes c one two v → u ≢ v → occupant (grow (shrink c one v) two v) u ≡ occupant c u
passed_on c one two v u pass ne = (grown (shrink c one v) two v pass.enters).spots u ne ∙ (shrunk c one v pass.leaves).spots u ne

one_moved : (c : Config) (i : ℕ) (guard : Bool) (m : Moved) (d : Config) → IsValid c → bot_at c i ≡ Some (bot_of c i) → move c i guard m ≡ Ok d → OneNode c i d
one_moved c i guard moved.None d valid at e =
    let P : Config → Type 0 = λ x. OneNode c i x in
    subst P (ok_told e) (record { node = (bot_of c i).head; spots = λ u ne. refl; own = inl (own_head (bot_of c i) (bot_of c i).head refl) })
one_moved c i guard (moved.Expand p) d valid at e =
    let told = expand_told c i p d valid at e in
    let v = behind (bot_of c i) p in
    let P : Config → Type 0 = λ x. OneNode c i x in
    subst P (sym told.is) (record { node = v; spots = (grown c i v told.may).spots; own = inr (entered c i v told.may) })
one_moved c i guard (moved.Contract way) d valid at e =
    let told = contract_told c i guard way d valid at e in
    let v = end_node (bot_of c i) way in
    let P : Config → Type 0 = λ x. OneNode c i x in
    subst P (sym told.is) (record { node = v; spots = (shrunk c i v told.may).spots; own = inl (end_own (bot_of c i) way) })
one_moved c i guard (moved.Push p) d valid at e =
    let told = push_told c i p d valid at e in
    let v = behind (bot_of c i) p in
    let P : Config → Type 0 = λ x. OneNode c i x in
    subst P (sym told.is) (record { node = v; spots = λ u ne. passed_on c told.peer i v u told.pass ne; own = inr (entered (shrink c told.peer v) i v told.pass.enters) })
one_moved c i guard (moved.Pull p) d valid at e =
    let told = pull_told c i p d valid at e in
    let v = end_node (bot_of c i) p.end in
    let P : Config → Type 0 = λ x. OneNode c i x in
    subst P (sym told.is) (record { node = v; spots = λ u ne. passed_on c i told.peer v u told.pass ne; own = inl (end_own (bot_of c i) p.end) })

pub one_node : (c : Config) (i : ℕ) (d : Config) → IsValid c → IsSome (bot_at c i) → Reaches c i d → OneNode c i d
one_node c i d valid there (acts, e) =
    let done = performed c i acts d valid (own_there c i there) e in
    let m = done.between in
    let one = one_moved m i acts.guard acts.moved d done.writes.valid done.writes.there done.moved in
    record {
      node = one.node;
      spots = λ u ne. one.spots u ne ∙ done.writes.spots u;
      own = elim one.own [ inl was ↦ inl (ap (λ (b : Bot). is_own b one.node) (sym done.writes.own) ∙ was) | inr is ↦ inr is ];
    }
