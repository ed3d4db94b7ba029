-- The leader that is found in an elected world.
use Rattle.std.proofs.Common.{◌≡◌, ◌∙◌, ◌<◌, ◌≤◌, ℕ, true, false, length, ap, sym, inl, inr, arith, Some, None}
use Rattle.std.specs.Prelude.{slice_index}
use Rattle.std.proofs.lemmas.Bool.{cases_Bool, eq-eqb}
use Rattle.std.proofs.lemmas.List.Quantifiers.{position-Some}
use Rattle.amoebot_state.specs.declared.bot.Bot.{Bot}
use Rattle.amoebot_state.specs.Configs.{Config, bot_at}
use Rattle.amoebot_state.proofs.Occupants.{id_below, position_is, position_none}
use Rattle.shape_checks.specs.Values.{has_value}
use Rattle.election_law.specs.Elections.{IsElected, is_leader, leader_of}
use Rattle.election_law.specs.Laws.{LeaderIsElected}
use Rattle.election_law.proofs.Elected.{value_there}

leader_found : (c : Config) (i : ℕ) → IsElected c → is_leader c i ≡ true → leader_of c ≡ Some i
leader_found c i elected t =
    let (b, at, value) = value_there 1 1 (bot_at c i) t in
    position_is (has_value 1 1) c.bots i None (id_below c i b at) t (λ k lt. elim (cases_Bool (is_leader c k)) [
      | inl u ↦ (let same : k ≡ i = elected.one k i u t in absurd (omega (arith, same, lt)))
      | inr f ↦ f
    ])

pub leader_is_elected : LeaderIsElected
leader_is_elected c i elected = (λ e. (position-Some (has_value 1 1) c.bots i None e).1, leader_found c i elected)

-- ---- what a look at the amoebots by their ids tells

pub leads_here : (c : Config) (i : ℕ) (b : Bot) → Some b ≡ bot_at c i → slice_index b.mem 1 ≡ 1 → ((k : ℕ) → k < i → is_leader c k ≡ false) → Some i ≡ leader_of c
leads_here c i b at value before =
    let here : is_leader c i ≡ true = sym (ap (has_value 1 1) at) ∙ eq-eqb (slice_index b.mem 1) 1 value in
    sym (position_is (has_value 1 1) c.bots i None (id_below c i b (sym at)) here before)

pub nobody_leads : (c : Config) (n : ℕ) → length c.bots ≤ n → ((k : ℕ) → k < n → is_leader c k ≡ false) → None ≡ leader_of c
nobody_leads c n past before = sym (position_none (has_value 1 1) c.bots None (λ k lt. before k (omega (arith, past, lt))))
