-- Only an expansion to a wall is blocked.
use Rattle.std.proofs.Common.{◌≡◌, ◌≢◌, ℕ, Bool, true, false, not, refl, Option, Some, None}
use Rattle.std.specs.declared.result.Result.{Result}
use Rattle.std.specs.declared.result.Result.TheVariants.{Ok, Err}
use Rattle.std.specs.Prelude.{is_none}
use Rattle.amoebot_state.specs.declared.bot.End.{End}
use Rattle.amoebot_state.specs.declared.bot.Port.{Port}
use Rattle.amoebot_state.specs.declared.verdict.Failure.{Failure}
use Rattle.amoebot_state.specs.declared.verdict.Failure.TheVariants.{Blocked, Edge, NoPort, NotContracted, NotExpanded, Occupied, OutOfRange, PeerNotContracted, PeerNotExpanded, WouldSplit}
use Rattle.amoebot_state.specs.declared.verdict.Moved.{Moved}
use Rattle.amoebot_state.specs.declared.verdict.Moved.TheVariants as moved
use Rattle.amoebot_state.specs.Configs.{Config, bot_of, is_wall, occupant}
use Rattle.tri_lattice.specs.Extent.{is_in}
use Rattle.amoebot_state.specs.Ports.{behind, is_contracted, is_port}
use Rattle.model_ops.specs.Operations.{need, with_peer, and_then, owner, expand, contract, push, pull, grow}
use Rattle.model_ops.specs.Reaches.{move}
use Rattle.model_ops.specs.Laws.{OnlyWallsBlock}

-- the other failures are others
pub no_port : NoPort ≢ Blocked
no_port e = cc

not_contracted : NotContracted ≢ Blocked
not_contracted e = cc

pub not_expanded : NotExpanded ≢ Blocked
not_expanded e = cc

edge : Edge ≢ Blocked
edge e = cc

occupied : Occupied ≢ Blocked
occupied e = cc

would_split : WouldSplit ≢ Blocked
would_split e = cc

peer_not_expanded : PeerNotExpanded ≢ Blocked
peer_not_expanded e = cc

peer_not_contracted : PeerNotContracted ≢ Blocked
peer_not_contracted e = cc

pub out_of_range : OutOfRange ≢ Blocked
out_of_range e = cc

past : {A : Type 0} (holds : Bool) (f : Failure) (r : Result A Failure) → f ≢ Blocked → need holds f r ≡ Err Blocked → r ≡ Err Blocked
past true f r ne e = e
past false f r ne e = absurd (ne (cc))

peer_past : {A : Type 0} (o : Option ℕ) (answer : ℕ → Result A Failure) → with_peer o answer ≡ Err Blocked → (n : ℕ) × (answer n ≡ Err Blocked)
peer_past None answer e = absurd (cc)
peer_past (Some n) answer e = (n, e)

then_past : {A B : Type 0} (r : Result A Failure) (next : A → Result B Failure) → r ≢ Err Blocked → and_then r next ≡ Err Blocked → (x : A) × (next x ≡ Err Blocked)
then_past (Ok x) next ne e = (x, e)
then_past (Err f) next ne e = absurd (ne (cc))

-- an answer is not blocked
pub fine : {A : Type 0} (x : A) → (let r : Result A Failure = Ok x in r) ≢ Err Blocked
fine x e = cc

-- nor is the search for an owner
pub owners : (c : Config) (i : ℕ) (p : Option Port) → owner c i p ≢ Err Blocked
owners c i None e = fine i e
owners c i (Some p) e = let (n, rest) = peer_past (occupant c (behind (bot_of c i) p)) _ (past _ _ _ no_port e) in fine n rest

by_wall : (contracted port inside wall empty : Bool) (d : Config) → need contracted NotContracted (need port NoPort (need inside Edge (need (not wall) Blocked (need empty Occupied (Ok d))))) ≡ Err Blocked → wall ≡ true
by_wall contracted port inside true empty d e = refl
by_wall contracted port inside false empty d e =
    let rest = past inside Edge (need empty Occupied (Ok d)) edge (past port NoPort (need inside Edge (need empty Occupied (Ok d))) no_port (past contracted NotContracted (need port NoPort (need inside Edge (need empty Occupied (Ok d)))) not_contracted e)) in
    absurd (fine d (past empty Occupied (Ok d) occupied rest))

expands : (c : Config) (i : ℕ) (p : Port) → expand c i p ≡ Err Blocked → is_wall c (behind (bot_of c i) p) ≡ true
expands c i p e =
    let b = bot_of c i in
    let v = behind b p in
    by_wall (is_contracted b) (is_port b p) (is_in c.area v) (is_wall c v) (is_none (occupant c v)) (grow c i v) e

contracts : (c : Config) (i : ℕ) (guard : Bool) (e : End) → contract c i guard e ≢ Err Blocked
contracts c i guard e is = fine _ (past _ _ _ would_split (past _ _ _ not_expanded is))

pushes : (c : Config) (i : ℕ) (p : Port) → push c i p ≢ Err Blocked
pushes c i p is =
    let (n, rest) = peer_past (occupant c (behind (bot_of c i) p)) _ (past _ _ _ no_port (past _ _ _ not_contracted is)) in
    fine _ (past _ _ _ peer_not_expanded rest)

pulls : (c : Config) (i : ℕ) (p : Port) → pull c i p ≢ Err Blocked
pulls c i p is =
    let (n, rest) = peer_past (occupant c (behind (bot_of c i) p)) _ (past _ _ _ no_port (past _ _ _ not_expanded is)) in
    fine _ (past _ _ _ peer_not_contracted rest)

moves : (c : Config) (i : ℕ) (guard : Bool) (m : Moved) → move c i guard m ≡ Err Blocked → (p : Port) × (m ≡ moved.Expand p) × (is_wall c (behind (bot_of c i) p) ≡ true)
moves c i guard moved.None e = absurd (fine c e)
moves c i guard (moved.Expand p) e = (p, refl, expands c i p e)
moves c i guard (moved.Contract end) e = absurd (contracts c i guard end e)
moves c i guard (moved.Push p) e = absurd (pushes c i p e)
moves c i guard (moved.Pull p) e = absurd (pulls c i p e)

pub only_walls_block : OnlyWallsBlock
only_walls_block = record {
  moves = moves;
  writes = λ c i p x s e. let (n, rest) = then_past (owner c i p) _ (owners c i p) e in fine _ (past _ _ _ out_of_range rest);
  connects = λ c i p e. fine _ (past _ _ _ no_port e);
  frees = λ c i p e. fine _ (past _ _ _ no_port e);
  reads = λ c i p x e. let (n, rest) = then_past (owner c i p) _ (owners c i p) e in fine _ rest;
  peers = λ c i p e. let (n, rest) = peer_past (occupant c (behind (bot_of c i) p)) _ (past _ _ _ no_port e) in fine _ rest;
}
