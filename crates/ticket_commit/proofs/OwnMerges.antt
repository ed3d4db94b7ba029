-- The own lists of a sound state have its journal as their merge, and there is room for it.
use Rattle.std.proofs.Common.{◌≡◌, ℕ, ◌<◌, ◌≤◌, List, length, arith}
use Rattle.std.proofs.lemmas.List.Elements.{All-weaker}
use Rattle.amoebot_state.specs.declared.verdict.Entry.{Entry}
use Rattle.claim_core.specs.Good.{IsListed}
use Rattle.claim_core.specs.Machine.{Setup, State}
use Rattle.claim_core.specs.Merges.{own_of, IsMerge}
use Rattle.claim_core.specs.Reached.{entries_of}
use Rattle.claim_core.specs.SerialRuns.{all_turns}
use Rattle.claim_core.specs.Soundness.{IsSetup, Sound}
use Rattle.claim_core.proofs.Orders.{order_is_few}
use Rattle.ticket_commit.specs.OwnLists.{HasMerge}

module _ (g : Setup) (s : State) (sound : Sound g s) (lists : List (List (ℕ × Entry))) (as_many : length lists ≡ length g.lists.ids) (own : (c : ℕ) → c < length lists → own_of lists c ≡ entries_of c 0 s.journal) where
  pub own_lists_are : IsMerge lists s.journal
  own_lists_are = record { own = own; listed = All-weaker (IsListed g.lists) (λ (e : Entry). e.caller < length lists) (λ e is. let lt = is.caller in omega (arith, lt, as_many)) s.journal sound.order.listed }

  pub own_lists_merge : IsSetup g → (spare : ℕ) → all_turns g.lists ≤ spare → HasMerge g.verdict g.world lists spare
  own_lists_merge ok spare room =
      let few = order_is_few g.lists s.journal sound.order in
      let all = ok.lists.few.in_all in
      record { journal = s.journal; merge = own_lists_are; last = sound.last; run = sound.run; room = omega (arith, few, room); few = omega (arith, few, all) }
