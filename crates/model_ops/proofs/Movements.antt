-- What the success of a movement tells: the small movements that it is made of, and that each of them could be made.
use Rattle.std.proofs.Common.{◌≡◌, ◌≢◌, ℕ, true, Bool, ap, sym, ◌∙◌, subst, inl, inr, Some}
use Rattle.std.specs.Prelude.{is_none, not, unwrap_or}
use Rattle.std.specs.declared.result.Result.TheVariants.{Ok}
use Rattle.std.proofs.lemmas.Bool.{both_ways, not-true}
use Rattle.tri_lattice.specs.declared.node.Node.{Node}
use Rattle.tri_lattice.specs.Lattice.{Adjacent}
use Rattle.tri_lattice.specs.Extent.{is_in}
use Rattle.tri_lattice.proofs.Nodes.{node_eq-true, Adjacent-sym}
use Rattle.amoebot_state.specs.declared.bot.Bot.{Bot}
use Rattle.amoebot_state.specs.declared.bot.End.{End}
use Rattle.amoebot_state.specs.declared.bot.Port.{Port}
use Rattle.amoebot_state.specs.Ports.{is_own, is_contracted, is_port, behind, end_node}
use Rattle.amoebot_state.specs.Configs.{Config, IsValid, bot_at, bot_of, blank, is_wall, occupant, covers}
use Rattle.amoebot_state.proofs.Owns.{own_cases}
use Rattle.amoebot_state.proofs.Occupants.{occupant_covers, covered_in, covered_open}
use Rattle.amoebot_state.proofs.Options.{none_if}
use Rattle.model_ops.specs.Operations.{grow, shrink, may_leave, expand, contract, push, pull}
use Rattle.model_ops.proofs.Told.{need_told, peer_told, ok_told, occupant_told}
use Rattle.model_ops.proofs.Neighbours.{port_next, port_leaves, end_own, end_is_head}
use Rattle.model_ops.proofs.SmallMoves.{MayShrink, MayGrow, shrunk, shrunk_empty}

-- the node that a contracted amoebot's port leads to is beside its head
head_next : (b : Bot) (p : Port) → is_contracted b ≡ true → Adjacent b.head (behind b p)
head_next b p t = subst (λ u. Adjacent u (behind b p)) (end_is_head b p.end t) (port_next b p)

pub record Expands (c : Config) (i : ℕ) (p : Port) (d : Config) : Type 0 where
  pub port : is_port (bot_of c i) p ≡ true
  pub may : MayGrow c i (behind (bot_of c i) p)
  pub is : d ≡ grow c i (behind (bot_of c i) p)

pub expand_told : (c : Config) (i : ℕ) (p : Port) (d : Config) → IsValid c → bot_at c i ≡ Some (bot_of c i) → expand c i p ≡ Ok d → Expands c i p d
expand_told c i p d valid at e =
    let b = bot_of c i in
    let (contracted, e) = need_told (is_contracted b) _ _ d e in
    let (port, e) = need_told (is_port b p) _ _ d e in
    let (inside, e) = need_told (is_in c.area (behind b p)) _ _ d e in
    let (no_wall, e) = need_told (not (is_wall c (behind b p))) _ _ d e in
    let (empty, e) = need_told (is_none (occupant c (behind b p))) _ _ d e in
    record {
      port = port;
      may = record { valid = valid; there = at; contracted = contracted; next = head_next b p contracted; inside = inside; no_wall = not-true _ no_wall; empty = none_if (occupant c (behind b p)) (not-true _ empty) };
      is = sym (ok_told e);
    }

pub record Contracts (c : Config) (i : ℕ) (guard : Bool) (e : End) (d : Config) : Type 0 where
  pub may : MayShrink c i (end_node (bot_of c i) e)
  pub guarded : may_leave c guard (end_node (bot_of c i) e) ≡ true
  pub is : d ≡ shrink c i (end_node (bot_of c i) e)

pub contract_told : (c : Config) (i : ℕ) (guard : Bool) (e : End) (d : Config) → IsValid c → bot_at c i ≡ Some (bot_of c i) → contract c i guard e ≡ Ok d → Contracts c i guard e d
contract_told c i guard e d valid at done =
    let b = bot_of c i in
    let (expanded, done) = need_told (not (is_contracted b)) _ _ d done in
    let (guarded, done) = need_told (may_leave c guard (end_node b e)) _ _ d done in
    record {
      may = record { valid = valid; there = at; expanded = not-true _ expanded; own = end_own b e };
      guarded = guarded;
      is = sym (ok_told done);
    }

-- an amoebot that another one's small movement leaves as it is
pub kept_there : (c d : Config) (i : ℕ) → bot_at d i ≡ bot_at c i → bot_at c i ≡ Some (bot_of c i) → bot_at d i ≡ Some (bot_of d i)
kept_there c d i same at = same ∙ at ∙ ap (λ o. Some (unwrap_or o blank)) (sym same)

-- one amoebot leaves a node and then another enters it
pub record Passes (c : Config) (from to : ℕ) (v : Node) : Type 0 where
  pub leaves : MayShrink c from v
  pub enters : MayGrow (shrink c from v) to v
  pub apart : from ≢ to

passes : (c : Config) (from to : ℕ) (v : Node) → MayShrink c from v → from ≢ to → bot_at c to ≡ Some (bot_of c to) → is_contracted (bot_of c to) ≡ true → Adjacent (bot_of c to).head v → is_in c.area v ≡ true → Passes c from to v
passes c from to v leaves ne at contracted next inside =
    let done = shrunk c from v leaves in
    let kept = done.bots to (λ e. ne (sym e)) in
    let same : bot_of (shrink c from v) to ≡ bot_of c to = ap (λ o. unwrap_or o blank) kept in
    record {
      leaves = leaves;
      enters = record {
        valid = done.valid;
        there = kept_there c (shrink c from v) to kept at;
        contracted = ap is_contracted same ∙ contracted;
        next = subst (λ (b : Bot). Adjacent b.head v) (sym same) next;
        inside = inside;
        no_wall = covered_open c leaves.valid from v (ap (λ o. covers o v) leaves.there ∙ leaves.own);
        empty = shrunk_empty c from v leaves;
      };
      apart = ne;
    }

pub record Pushes (c : Config) (i : ℕ) (p : Port) (d : Config) : Type 0 where
  pub peer : ℕ
  pub port : is_port (bot_of c i) p ≡ true
  pub by : occupant c (behind (bot_of c i) p) ≡ Some peer
  pub pass : Passes c peer i (behind (bot_of c i) p)
  pub is : d ≡ grow (shrink c peer (behind (bot_of c i) p)) i (behind (bot_of c i) p)

-- a neighbour is not the amoebot itself
other_than : (c : Config) (i n : ℕ) (p : Port) → is_port (bot_of c i) p ≡ true → occupant c (behind (bot_of c i) p) ≡ Some n → n ≢ i
other_than c i n p port by same =
    both_ways _ (port_leaves (bot_of c i) p port) (ap (λ k. is_own (bot_of c k) (behind (bot_of c i) p)) (sym same) ∙ (occupant_told c (behind (bot_of c i) p) n by).1)

pub push_told : (c : Config) (i : ℕ) (p : Port) (d : Config) → IsValid c → bot_at c i ≡ Some (bot_of c i) → push c i p ≡ Ok d → Pushes c i p d
push_told c i p d valid at e =
    let b = bot_of c i in
    let v = behind b p in
    let (contracted, e) = need_told (is_contracted b) _ _ d e in
    let (port, e) = need_told (is_port b p) _ _ d e in
    let (n, by, e) = peer_told (occupant c v) _ d e in
    let (expanded, e) = need_told (not (is_contracted (bot_of c n))) _ _ d e in
    let there = occupant_told c v n by in
    record {
      peer = n;
      port = port;
      by = by;
      pass = passes c n i v
          (record { valid = valid; there = there.0; expanded = not-true _ expanded; own = there.1 })
          (other_than c i n p port by) at contracted (head_next b p contracted)
          (covered_in c valid n v (occupant_covers c v n by));
      is = sym (ok_told e);
    }

pub record Pulls (c : Config) (i : ℕ) (p : Port) (d : Config) : Type 0 where
  pub peer : ℕ
  pub port : is_port (bot_of c i) p ≡ true
  pub by : occupant c (behind (bot_of c i) p) ≡ Some peer
  pub pass : Passes c i peer (end_node (bot_of c i) p.end)
  pub is : d ≡ grow (shrink c i (end_node (bot_of c i) p.end)) peer (end_node (bot_of c i) p.end)

pub pull_told : (c : Config) (i : ℕ) (p : Port) (d : Config) → IsValid c → bot_at c i ≡ Some (bot_of c i) → pull c i p ≡ Ok d → Pulls c i p d
pull_told c i p d valid at e =
    let b = bot_of c i in
    let v = end_node b p.end in
    let q = behind b p in
    let (expanded, e) = need_told (not (is_contracted b)) _ _ d e in
    let (port, e) = need_told (is_port b p) _ _ d e in
    let (n, by, e) = peer_told (occupant c q) _ d e in
    let (contracted, e) = need_told (is_contracted (bot_of c n)) _ _ d e in
    let there = occupant_told c q n by in
    record {
      peer = n;
      port = port;
      by = by;
      pass = passes c i n v
          (record { valid = valid; there = at; expanded = not-true _ expanded; own = end_own b p.end })
          (λ same. other_than c i n p port by (sym same)) there.0 contracted
          (subst (λ u. Adjacent u v) (sym (owned (bot_of c n) q contracted there.1)) (Adjacent-sym v q (port_next b p)))
          (covered_in c valid i v (ap (λ o. covers o v) at ∙ end_own b p.end));
      is = sym (ok_told e);
    }
  where
    -- a node of a contracted amoebot is its head
    owned : (b : Bot) (v : Node) → is_contracted b ≡ true → is_own b v ≡ true → b.head ≡ v
    owned b v contracted own = elim (own_cases b v own) [ inl h ↦ h | inr h ↦ node_eq-true b.head b.tail contracted ∙ h ]
