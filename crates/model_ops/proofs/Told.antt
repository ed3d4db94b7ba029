-- What a success tells of the conditions before it, and amoebots that are there.
use Rattle.std.proofs.Common.{◌≡◌, ℕ, Bool, true, false, ap, sym, ◌∙◌, refl, Option, Some, None}
use Rattle.std.specs.Prelude.{unwrap_or}
use Rattle.std.specs.declared.result.Result.{Result}
use Rattle.std.specs.declared.result.Result.TheVariants.{Ok, Err}
use Rattle.tri_lattice.specs.declared.node.Node.{Node}
use Rattle.amoebot_state.specs.declared.bot.Bot.{Bot}
use Rattle.amoebot_state.specs.declared.verdict.Failure.{Failure}
use Rattle.amoebot_state.specs.Configs.{Config, bot_at, bot_of, blank, occupant}
use Rattle.amoebot_state.specs.Ports.{is_own}
use Rattle.amoebot_state.proofs.Owns.{covered}
use Rattle.amoebot_state.proofs.Occupants.{occupant_covers}
use Rattle.model_ops.specs.Operations.{need, with_peer, and_then}

pub need_told : {A : Type 0} (holds : Bool) (f : Failure) (r : Result A Failure) (x : A) → need holds f r ≡ Ok x → (holds ≡ true) × (r ≡ Ok x)
need_told true f r x e = (refl, e)
need_told false f r x e = absurd (cc)

pub peer_told : {A : Type 0} (o : Option ℕ) (answer : ℕ → Result A Failure) (x : A) → with_peer o answer ≡ Ok x → (n : ℕ) × (o ≡ Some n) × (answer n ≡ Ok x)
peer_told None answer x e = absurd (cc)
peer_told (Some n) answer x e = (n, refl, e)

pub then_told : {A B : Type 0} (r : Result A Failure) (next : A → Result B Failure) (y : B) → and_then r next ≡ Ok y → (x : A) × (r ≡ Ok x) × (next x ≡ Ok y)
then_told (Ok x) next y e = (x, refl, e)
then_told (Err f) next y e = absurd (cc)

pub ok_told : {A : Type 0} {x y : A} → (let r : Result A Failure = Ok x in r) ≡ Ok y → x ≡ y
ok_told e = cc

pub bot_is : (c : Config) (i : ℕ) (b : Bot) → bot_at c i ≡ Some b → bot_of c i ≡ b
bot_is c i b at = ap (λ o. unwrap_or o blank) at

-- an occupant's amoebot is there, and has the node
pub occupant_told : (c : Config) (v : Node) (n : ℕ) → occupant c v ≡ Some n → (bot_at c n ≡ Some (bot_of c n)) × (is_own (bot_of c n) v ≡ true)
occupant_told c v n by =
    let (b, at, own) = covered (bot_at c n) v (occupant_covers c v n by) in
    let is = bot_is c n b at in
    (at ∙ ap Some (sym is), ap (λ (a : Bot). is_own a v) is ∙ own)
