-- What answers that come one after another come to.
use Rattle.std.proofs.Common.{◌≡◌, ℕ, Bool, true, false, refl, sym, ap, ◌∙◌, Ok, Err, Result, Option, Some, None}
use Rattle.std.specs.Prelude.{IsErrAnd, IfOk, IsSome, is_some}
use Rattle.std.specs.Option.{ok_or}
use Rattle.tri_lattice.specs.declared.node.Node.{Node}
use Rattle.amoebot_state.specs.declared.verdict.Failure.{Failure}
use Rattle.amoebot_state.specs.declared.verdict.Failure.TheVariants.{NoPort, NoNeighbour}
use Rattle.amoebot_state.specs.declared.bot.Port.{Port}
use Rattle.amoebot_state.specs.Ports.{is_port, behind}
use Rattle.amoebot_state.specs.Configs.{Config, bot_at, bot_of, occupant}
use Rattle.model_ops.specs.Operations.{need, with_peer, and_then, owner}
use Rattle.model_ops.proofs.Told.{need_told, peer_told, occupant_told}

-- what a `?` returns on a failure
pub exit : {A : Type 0} (r : Result A Failure) (e : Failure) → IsErrAnd r (λ y. y ≡ e) → r ≡ Err e
exit (Ok x) e is = absurd is
exit (Err f) e is = ap Err is

-- a condition that fails in one place fails in the other
pub refused : {A B : Type 0} (holds : Bool) (f e : Failure) (x : A) (r : Result B Failure) → (let q : Result A Failure = Err e in q) ≡ need holds f (Ok x) → Err e ≡ need holds f r
refused true f e x r is = absurd (cc)
refused false f e x r is = ap Err (cc)

-- and so it is where it holds
pub passed : {A B : Type 0} (holds : Bool) (f : Failure) (x y : A) (r : Result B Failure) → (let q : Result A Failure = Ok y in q) ≡ need holds f (Ok x) → (y ≡ x) × (need holds f r ≡ r)
passed true f x y r is = (cc, refl)
passed false f x y r is = absurd (cc)

-- an occupant, or NoNeighbour
pub neighbour_is : (o : Option ℕ) → ok_or o NoNeighbour ≡ with_peer o Ok
neighbour_is None = refl
neighbour_is (Some n) = refl

-- an occupant is there
pub neighbour_there : (c : Config) (v : Node) (o : Option ℕ) → o ≡ occupant c v → IfOk (ok_or o NoNeighbour) (λ n. IsSome (bot_at c n))
neighbour_there c v None is = tt
neighbour_there c v (Some n) is = ap is_some (occupant_told c v n (sym is)).0

-- what is asked of a neighbour is asked once its id is known
pub by_neighbour : {A : Type 0} (holds : Bool) (o : Option ℕ) (next : ℕ → Result A Failure) → need holds NoPort (with_peer o next) ≡ and_then (need holds NoPort (with_peer o Ok)) next
by_neighbour false o next = refl
by_neighbour true None next = refl
by_neighbour true (Some n) next = refl

pub neighbour_next : {A : Type 0} (c : Config) (i : ℕ) (p : Port) (r : Result ℕ Failure) (next : ℕ → Result A Failure) → r ≡ owner c i (Some p) → need (is_port (bot_of c i) p) NoPort (with_peer (occupant c (behind (bot_of c i) p)) next) ≡ and_then r next
neighbour_next c i p r next is =
    by_neighbour (is_port (bot_of c i) p) (occupant c (behind (bot_of c i) p)) next ∙ ap (λ q. and_then q next) (sym is)

-- what a neighbour tells of the port, and of the node behind it
pub neighbour_told : (c : Config) (i : ℕ) (p : Port) (n : ℕ) → (let q : Result ℕ Failure = Ok n in q) ≡ owner c i (Some p) → (is_port (bot_of c i) p ≡ true) × (occupant c (behind (bot_of c i) p) ≡ Some n)
neighbour_told c i p n is =
    let b = bot_of c i in
    let o = occupant c (behind b p) in
    let port = need_told (is_port b p) NoPort (with_peer o Ok) n (sym is) in
    let peer = peer_told o Ok n port.1 in
    (port.0, peer.1 ∙ ap Some (cc))
