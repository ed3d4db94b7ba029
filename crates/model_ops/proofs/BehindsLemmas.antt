-- What is behind a pair answers what is asked of it, and writes do not change it.
use Rattle.std.proofs.Common.{◌≡◌, ℕ, zero, suc, List, [], ◌∷◌, Bool, true, false, ap, sym, ◌∙◌, refl, inl, inr, Option, Some, None, Ok, Err, Result, get_or, set, cond}
use Rattle.std.specs.Prelude.{IfOk, IsSome, unwrap_or, is_none, is_some, ◌&&◌, not, if◌then◌else◌}
use Rattle.std.specs.List.{position}
use Rattle.std.specs.Option.{option_map}
use Rattle.std.proofs.lemmas.Bool.{cases_eq}
use Rattle.tri_lattice.specs.declared.node.Node.{Node}
use Rattle.tri_lattice.specs.Extent.{is_in}
use Rattle.amoebot_state.specs.declared.bot.Bot.{Bot}
use Rattle.amoebot_state.specs.declared.bot.Port.{Port}
use Rattle.amoebot_state.specs.declared.verdict.Failure.{Failure}
use Rattle.amoebot_state.specs.declared.verdict.Failure.TheVariants as failure
use Rattle.amoebot_state.specs.Ports.{behind, is_port}
use Rattle.amoebot_state.specs.Configs.{Config, bot_at, bot_of, blank, covers, is_wall, occupant, set_bot}
use Rattle.amoebot_state.specs.declared.found.Behind.TheVariants as there
use Rattle.amoebot_state.specs.Around.{on_node, behind_pair}
use Rattle.model_ops.specs.Behinds.{connected_there, free_there, owner_there}
use Rattle.model_ops.proofs.Becomes.{at_own, at_other}
use Rattle.model_ops.proofs.Members.{position_cons}
use Rattle.model_ops.proofs.Answered.{neighbour_told}
use Rattle.model_ops.proofs.Told.{bot_is, occupant_told}
use Rattle.model_ops.specs.Operations.{need, with_peer, connected, is_free, owner}

-- by the three facts of a pair
connected_by : (holds inside wall : Bool) (o : Option ℕ) → connected_there (if holds then on_node inside wall o else there.NoPort) ≡ need holds failure.NoPort (Ok (is_some o))
connected_by false inside wall o = refl
connected_by true inside wall (Some n) = refl
connected_by true true true None = refl
connected_by true true false None = refl
connected_by true false wall None = refl

free_by : (holds inside wall : Bool) (o : Option ℕ) → free_there (if holds then on_node inside wall o else there.NoPort) ≡ need holds failure.NoPort (Ok (inside && not wall && is_none o))
free_by false inside wall o = refl
free_by true true true (Some n) = refl
free_by true true false (Some n) = refl
free_by true false wall (Some n) = refl
free_by true true true None = refl
free_by true true false None = refl
free_by true false wall None = refl

owner_by : (holds inside wall : Bool) (o : Option ℕ) → owner_there (if holds then on_node inside wall o else there.NoPort) ≡ need holds failure.NoPort (with_peer o Ok)
owner_by false inside wall o = refl
owner_by true inside wall (Some n) = refl
owner_by true true true None = refl
owner_by true true false None = refl
owner_by true false wall None = refl

pub connected_pair : (c : Config) (i : ℕ) (p : Port) → connected_there (behind_pair c i p) ≡ connected c i p
connected_pair c i p = let b = bot_of c i in connected_by (is_port b p) (is_in c.area (behind b p)) (is_wall c (behind b p)) (occupant c (behind b p))

pub free_pair : (c : Config) (i : ℕ) (p : Port) → free_there (behind_pair c i p) ≡ is_free c i p
free_pair c i p = let b = bot_of c i in free_by (is_port b p) (is_in c.area (behind b p)) (is_wall c (behind b p)) (occupant c (behind b p))

pub owner_pair : (c : Config) (i : ℕ) (p : Port) → owner_there (behind_pair c i p) ≡ owner c i (Some p)
owner_pair c i p = let b = bot_of c i in owner_by (is_port b p) (is_in c.area (behind b p)) (is_wall c (behind b p)) (occupant c (behind b p))

-- an occupant behind a pair is there
pub owner_is_there : (c d : Config) (i : ℕ) (p : Port) (r : Result ℕ Failure) → r ≡ owner_there (behind_pair c i p) → c ≡ d → IfOk r (λ n. IsSome (bot_at d n))
owner_is_there c d i p (Err f) is same = tt
owner_is_there c d i p (Ok n) is same =
    let told = neighbour_told c i p n (is ∙ owner_pair c i p) in
    ap (λ (e : Config). is_some (bot_at e n)) (sym same) ∙ ap is_some (occupant_told c (behind (bot_of c i) p) n told.1).0

-- the first place that passes is the same where an element is exchanged for one that passes alike
position_set : {X : Type 0} (p : X → Bool) (xs : List X) (n : ℕ) (d y : X) → p y ≡ p (get_or xs n d) → position p (set xs n y) ≡ position p xs
position_set p [] n d y same = refl
position_set p (x ∷ xs) zero d y same = position_cons p y xs ∙ ap (λ t. cond t (Some 0) (option_map suc (position p xs))) same ∙ sym (position_cons p x xs)
position_set p (x ∷ xs) (suc n) d y same =
    position_cons p x (set xs n y) ∙ ap (λ o. cond (p x) (Some 0) (option_map suc o)) (position_set p xs n d y same) ∙ sym (position_cons p x xs)

-- another memory of an amoebot leaves who is on a node, and what is behind the pairs
abbrev pub with_memory : Config → ℕ → Bot → List ℕ → Config
with_memory c n b m = let b' : Bot = record b { mem = m } in set_bot c n b'

module _ (c : Config) (n : ℕ) (b : Bot) (m : List ℕ) (at : bot_at c n ≡ Some b) where
  pub spots_stay : (v : Node) → occupant (with_memory c n b m) v ≡ occupant c v
  spots_stay v = position_set (λ o. covers o v) c.bots n None (let b' : Bot = record b { mem = m } in Some b') (sym (ap (λ o. covers o v) at))

  pair_by : (a a' : Bot) (p : Port) → is_port a' p ≡ is_port a p → behind a' p ≡ behind a p
      → (if is_port a' p then on_node (is_in c.area (behind a' p)) (is_wall c (behind a' p)) (occupant (with_memory c n b m) (behind a' p)) else there.NoPort) ≡ (if is_port a p then on_node (is_in c.area (behind a p)) (is_wall c (behind a p)) (occupant c (behind a p)) else there.NoPort)
  pair_by a a' p holds node =
      ap (λ (t : Bool). if t then on_node (is_in c.area (behind a' p)) (is_wall c (behind a' p)) (occupant (with_memory c n b m) (behind a' p)) else there.NoPort) holds
      ∙ ap (λ (v : Node). if is_port a p then on_node (is_in c.area v) (is_wall c v) (occupant (with_memory c n b m) v) else there.NoPort) node
      ∙ ap (λ (o : Option ℕ). if is_port a p then on_node (is_in c.area (behind a p)) (is_wall c (behind a p)) o else there.NoPort) (spots_stay (behind a p))

  pub pair_stays : (i : ℕ) (p : Port) → behind_pair (with_memory c n b m) i p ≡ behind_pair c i p
  pair_stays i p = elim (cases_eq i n) [
    | inl e ↦
        let now : bot_of (with_memory c n b m) i ≡ (record b { mem = m }) = ap (bot_of (with_memory c n b m)) e ∙ bot_is (with_memory c n b m) n _ (at_own c n b _ at) in
        let was : bot_of c i ≡ b = ap (bot_of c) e ∙ bot_is c n b at in
        pair_by (bot_of c i) (bot_of (with_memory c n b m) i) p
        (ap (λ (x : Bot). is_port x p) now ∙ sym (ap (λ (x : Bot). is_port x p) was))
        (ap (λ (x : Bot). behind x p) now ∙ sym (ap (λ (x : Bot). behind x p) was))
    | inr ne ↦
        let same : bot_of (with_memory c n b m) i ≡ bot_of c i = ap (λ o. unwrap_or o blank) (at_other c n _ i ne) in
        pair_by (bot_of c i) (bot_of (with_memory c n b m) i) p (ap (λ (x : Bot). is_port x p) same) (ap (λ (x : Bot). behind x p) same)
  ]
