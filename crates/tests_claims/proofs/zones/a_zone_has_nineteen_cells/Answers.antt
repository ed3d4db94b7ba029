use Rattle.std.proofs.Common.{[], ◌∷◌}
use Rattle.std.proofs.lemmas.List.Elements.{All-cons, All-nil}
use Rattle.amoebot_state.specs.Refusals.{IsBotInRange}
use Rattle.tests_claims.proofs.zones.a_zone_has_nineteen_cells.Goals as goal

pub has_zone-requires-clause-in_range : goal.has_zone-requires-clause-in_range
has_zone-requires-clause-in_range g c =
    let bots_8 = c.standing-8.result ∷ [] in
    let plain_8 = All-cons IsBotInRange c.standing-8.result [] c.standing-8.ensures (All-nil IsBotInRange) in
    let bots_7 = c.standing-7.result ∷ bots_8 in
    let plain_7 = All-cons IsBotInRange c.standing-7.result bots_8 c.standing-7.ensures plain_8 in
    let bots_6 = c.standing-6.result ∷ bots_7 in
    let plain_6 = All-cons IsBotInRange c.standing-6.result bots_7 c.standing-6.ensures plain_7 in
    let bots_5 = c.standing-5.result ∷ bots_6 in
    let plain_5 = All-cons IsBotInRange c.standing-5.result bots_6 c.standing-5.ensures plain_6 in
    let bots_4 = c.standing-4.result ∷ bots_5 in
    let plain_4 = All-cons IsBotInRange c.standing-4.result bots_5 c.standing-4.ensures plain_5 in
    let bots_3 = c.standing-3.result ∷ bots_4 in
    let plain_3 = All-cons IsBotInRange c.standing-3.result bots_4 c.standing-3.ensures plain_4 in
    let bots_2 = c.standing-2.result ∷ bots_3 in
    let plain_2 = All-cons IsBotInRange c.standing-2.result bots_3 c.standing-2.ensures plain_3 in
    let bots_1 = c.standing.result ∷ bots_2 in
    let plain_1 = All-cons IsBotInRange c.standing.result bots_2 c.standing.ensures plain_2 in
    All-cons IsBotInRange c.spread.result bots_1 c.spread.ensures plain_1
