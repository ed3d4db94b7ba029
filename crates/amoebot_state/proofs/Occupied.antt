-- Which nodes are occupied.
use Rattle.std.proofs.Common.{◌≡◌, true, ap, ◌∙◌, inl, inr}
use Rattle.std.specs.Prelude.{is_some}
use Rattle.amoebot_state.specs.Ports.{is_own}
use Rattle.amoebot_state.specs.Configs.{covers, bot_at, occupant}
use Rattle.amoebot_state.specs.Laws.{OccupiedIsOccupant}
use Rattle.amoebot_state.proofs.Options.{there_is}
use Rattle.amoebot_state.proofs.Occupants.{occupant_at, occupant_covers}
use Rattle.amoebot_state.proofs.Owns.{own_cases, own_head, own_tail, covered}

pub occupied_is_occupant : OccupiedIsOccupant
occupied_is_occupant c v valid = (
  λ t.
      let i = there_is (occupant c v) t in
      let b = covered (bot_at c i.0) v (occupant_covers c v i.0 i.1) in
      (i.0, b.0, b.1, own_cases b.0 v b.2),
  λ by.
      let own : is_own by.1 v ≡ true = elim by.3 [ inl h ↦ own_head by.1 v h | inr h ↦ own_tail by.1 v h ] in
      ap is_some (occupant_at c valid by.0 v (ap (λ o. covers o v) by.2 ∙ own)),
)
