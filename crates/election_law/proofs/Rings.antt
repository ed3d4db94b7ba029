-- What the guards of `erosion` tell of the nodes round a contracted amoebot.
use Rattle.std.proofs.Common.{◌≡◌, ◌∙◌, ℕ, ◌+◌, ◌%◌, ◌<◌, Bool, true, false, ◌&&◌, not, List, map, ap, refl, sym, inl, inr, arith, Option, Some, None}
use Rattle.std.specs.Prelude.{is_some, if◌then◌else◌, nat_lt, slice_index, Result, Ok}
use Rattle.std.specs.List.{count_by}
use Rattle.std.proofs.lemmas.Bool.{and_from, and_right, both_ways, cases_Bool, lt-ltb}
use Rattle.tri_lattice.specs.Lattice.{directions, step}
use Rattle.ring_guard.specs.Rings.{ring_in, IsOneArc, HasEmptyRing}
use Rattle.ring_guard.proofs.Arcs.{entry_in}
use Rattle.amoebot_state.specs.declared.bot.Bot.{Bot}
use Rattle.amoebot_state.specs.declared.bot.End.TheVariants.{Head, Tail}
use Rattle.amoebot_state.specs.declared.bot.Port.{Port}
use Rattle.amoebot_state.specs.declared.verdict.Failure.{Failure}
use Rattle.amoebot_state.specs.declared.verdict.Failure.TheVariants.{NoPort}
use Rattle.amoebot_state.specs.Ports.{is_contracted, is_port, is_own, behind, port, all_ports, global, local}
use Rattle.amoebot_state.specs.Configs.{Config, bot_at, bot_of, occupant}
use Rattle.amoebot_state.specs.Occupied.{occupied}
use Rattle.amoebot_state.proofs.Directions.{global_below, global_local, listed}
use Rattle.amoebot_state.proofs.Members.{Has, has_cases, map_has, Has-filter, not_in_none}
use Rattle.model_ops.specs.Operations.{need, with_peer, and_then, connected, read}
use Rattle.model_ops.specs.Sights.{sight}
use Rattle.model_ops.proofs.Told.{occupant_told}
use Rattle.action_tree.specs.declared.expression.PortSet.TheVariants.{Ports}
use Rattle.action_meaning.specs.Choices.{is_true, is_false}
use Rattle.action_meaning.specs.Values.{ports_of}
use Rattle.shape_checks.specs.Values.{has_value}
use Rattle.election_law.specs.Elections.{candidate_of, candidate_at}
use Rattle.election_law.proofs.Counts.{count_alike, count_none, count_both, count_mapped, count_filtered, any_none, count_told}
use Rattle.election_law.proofs.EndsTable.{local_end, local_ends, one_end_is_arc}
use Rattle.election_law.proofs.Guards.{compared, has_cand, is_last, last_of, last_said, last_is, LeadsBy, ErodesBy}

-- a candidate is an occupant
pub candidate_occupies : (c : Config) (o : Option ℕ) → candidate_of c o ≡ true → is_some o ≡ true
candidate_occupies c None e = absurd (cc)
candidate_occupies c (Some n) e = refl

nobody_stands : (c : Config) (o : Option ℕ) → is_some o ≡ false → candidate_of c o ≡ false
nobody_stands c None e = refl
nobody_stands c (Some n) e = absurd (cc)

direction_below : (d : ℕ) → Has d directions → d < 6
direction_below d h0 = elim (has_cases h0) [ inl e ↦ omega (arith, e) | inr h1 ↦ elim (has_cases h1) [ inl e ↦ omega (arith, e) | inr h2 ↦ elim (has_cases h2) [ inl e ↦ omega (arith, e) | inr h3 ↦ elim (has_cases h3) [ inl e ↦ omega (arith, e) | inr h4 ↦ elim (has_cases h4) [ inl e ↦ omega (arith, e) | inr h5 ↦ elim (has_cases h5) [ inl e ↦ omega (arith, e) | inr h6 ↦ absurd (not_in_none h6) ] ] ] ] ] ]

module _ (c : Config) (i : ℕ) (contracted : is_contracted (bot_of c i) ≡ true) where
  abbrev b : Bot
  b = bot_of c i

  -- the node behind a head's port has an occupant; it has one that is a candidate
  abbrev on : ℕ → Bool
  on d = occupied c (behind b (port Head d))

  abbrev stands : ℕ → Bool
  stands d = candidate_at c (behind b (port Head d))

  -- the six pairs of the head are its ports
  head_port : (d : ℕ) → d < 6 → is_port b (port Head d) ≡ true
  head_port d l = and_from (nat_lt d 6) _ (lt-ltb d 6 l) (ap (λ t. if t then true else not (is_own b (behind b (port Head d)))) contracted)

  tail_port : (d : ℕ) → is_port b (port Tail d) ≡ false
  tail_port d = and_right (nat_lt d 6) _ (ap (λ t. if t then false else not (is_own b (behind b (port Tail d)))) contracted)

  head_connects : (d : ℕ) → d < 6 → connected c i (port Head d) ≡ Ok (on d)
  head_connects d l = ap (λ t. need t NoPort (Ok (on d))) (head_port d l)

  tail_connects : (d : ℕ) → is_true (connected c i (port Tail d)) ≡ false
  tail_connects d = ap (λ t. is_true (need t NoPort (Ok (occupied c (behind b (port Tail d)))))) (tail_port d)

  -- what is read of the occupant of a node
  read_of : Option ℕ → Result ℕ Failure
  read_of o = and_then (with_peer o (λ n. Ok n)) (λ n. Ok (slice_index (bot_of c n).mem 0))

  read_told : (o : Option ℕ) → is_some o ≡ true → ((n : ℕ) → o ≡ Some n → bot_at c n ≡ Some (bot_of c n)) → compared (read_of o) 1 ≡ Ok (candidate_of c o)
  unfolding read_of
  read_told None t there = absurd (cc)
  read_told (Some n) t there = ap Ok (sym (ap (has_value 0 1) (there n refl)))

  head_read : (d : ℕ) → d < 6 → read c i (Some (port Head d)) 0 ≡ read_of (occupant c (behind b (port Head d)))
  unfolding read_of
  head_read d l = ap (λ t. and_then (need t NoPort (with_peer (occupant c (behind b (port Head d))) (λ n. Ok n))) (λ n. Ok (slice_index (bot_of c n).mem 0))) (head_port d l)

  -- a head's port with an occupant behind it tells whether that is a candidate
  head_cand : (d : ℕ) → d < 6 → on d ≡ true → has_cand (sight c i) (port Head d) ≡ Ok (stands d)
  head_cand d l t =
      let v = behind b (port Head d) in
      ap (λ r. compared r 1) (head_read d l) ∙ read_told (occupant c v) t (λ n by. (occupant_told c v n by).0)

  next_below : (d : ℕ) → (d + 1) % 6 < 6
  next_below d = omega arith

  off_stands : (d : ℕ) → on d ≡ false → stands d ≡ false
  off_stands d f = nobody_stands c (occupant c (behind b (port Head d))) f

  -- the last of a row of candidates, by the local direction
  abbrev ends_here : ℕ → Bool
  ends_here d = stands d && not (stands ((d + 1) % 6))

  abbrev counted_port : Port → Bool
  counted_port q = is_true (connected c i q) && is_true (is_last (sight c i) q)

  head_last : (d : ℕ) → d < 6 → on d ≡ true → is_true (is_last (sight c i) (port Head d)) ≡ ends_here d
  head_last d l t =
      let e = (d + 1) % 6 in
      let below = next_below d in
      ap is_true (last_said (sight c i) (port Head d))
      ∙ (λ j. is_true (last_of (head_cand d l t j) (head_connects e below j) (has_cand (sight c i) (port Head e))))
      ∙ last_is (stands d) (on e) (stands e) (has_cand (sight c i) (port Head e)) (λ u. head_cand e below u) (λ u. off_stands e u)

  head_counted : (d : ℕ) → d < 6 → counted_port (port Head d) ≡ ends_here d
  head_counted d l = elim (cases_Bool (on d)) [
    | inl t ↦ (λ j. is_true (head_connects d l j) && is_true (is_last (sight c i) (port Head d))) ∙ (λ j. t j && head_last d l t j)
    | inr f ↦ (λ j. is_true (head_connects d l j) && is_true (is_last (sight c i) (port Head d))) ∙ ap (λ u. u && is_true (is_last (sight c i) (port Head d))) f ∙ sym (ap (λ u. u && not (stands ((d + 1) % 6))) (off_stands d f))
  ]

  tail_counted : (d : ℕ) → counted_port (port Tail d) ≡ false
  tail_counted d = ap (λ u. u && is_true (is_last (sight c i) (port Tail d))) (tail_connects d)

  -- an end of an arc, by the local direction
  end_is : (d : ℕ) → d < 6 → ends_here d ≡ local_end b.chir b.rot (ring_in (candidate_at c) b.head) d
  end_is d l =
      let e = (d + 1) % 6 in
      let one = entry_in (candidate_at c) b.head (global b d) (global_below b d) in
      let two = entry_in (candidate_at c) b.head (global b e) (global_below b e) in
      λ j. sym one j && not (sym two j)

  one_counted : ErodesBy (sight c i) → count_by counted_port all_ports ≡ 1
  one_counted by =
      sym (count_filtered (λ q. is_true (connected c i q)) (λ q. is_true (is_last (sight c i) q)) all_ports)
      ∙ count_told (is_last (sight c i)) (ports_of (sight c i) Ports) 1 by.last

  abbrev head_pairs : List Port
  head_pairs = map (port Head) directions

  abbrev tail_pairs : List Port
  tail_pairs = map (port Tail) directions

  no_tail : count_by counted_port tail_pairs ≡ 0
  no_tail = count_none counted_port tail_pairs (λ q has. let told = map_has (port Tail) directions has in ap counted_port told.2 ∙ tail_counted told.0)

  heads_are_ends : count_by counted_port head_pairs ≡ local_ends b.chir b.rot (ring_in (candidate_at c) b.head)
  heads_are_ends =
      count_mapped (port Head) counted_port directions
      ∙ count_alike (λ d. counted_port (port Head d)) (local_end b.chir b.rot (ring_in (candidate_at c) b.head)) directions (λ d has. let l = direction_below d has in head_counted d l ∙ end_is d l)

  one_end : ErodesBy (sight c i) → local_ends b.chir b.rot (ring_in (candidate_at c) b.head) ≡ 1
  one_end by =
      let whole : count_by counted_port all_ports ≡ count_by counted_port head_pairs + count_by counted_port tail_pairs = count_both counted_port head_pairs tail_pairs in
      let one = one_counted by in
      let none = no_tail in
      let heads = heads_are_ends in
      omega (arith, whole, one, none, heads)

  -- an amoebot that erodes has one arc of candidates round it
  pub erodes_by_arc : b.rot < 6 → ErodesBy (sight c i) → IsOneArc (ring_in (candidate_at c) b.head)
  erodes_by_arc l by =
      let S = candidate_at c in
      let v = b.head in
      one_end_is_arc b.chir b.rot (S (step v 0)) (S (step v 1)) (S (step v 2)) (S (step v 3)) (S (step v 4)) (S (step v 5)) l (one_end by)

  -- an amoebot that leads has no candidate round it
  no_port : LeadsBy (sight c i) → (d : ℕ) → d < 6 → stands d ≡ false
  no_port by d l = elim (cases_Bool (stands d)) [
    | inr f ↦ f
    | inl t ↦
        let q = port Head d in
        let occupies = candidate_occupies c (occupant c (behind b q)) t in
        let joined : is_true (connected c i q) ≡ true = ap is_true (head_connects d l) ∙ occupies in
        let has : Has q (ports_of (sight c i) Ports) = Has-filter (λ (r : Port). is_true (connected c i r)) all_ports (listed Head d l) joined in
        let none = any_none (has_cand (sight c i)) (ports_of (sight c i) Ports) by.alone q has in
        let told : is_false (has_cand (sight c i) q) ≡ not (stands d) = ap is_false (head_cand d l occupies) in
        let nots : not (stands d) ≡ false = ap not t in
        absurd (both_ways _ (told ∙ nots) none)
  ]

  pub leads_alone : b.rot < 6 → LeadsBy (sight c i) → HasEmptyRing (candidate_at c) b.head
  leads_alone rot by j l =
      let back = global_local b j rot l in
      entry_in (candidate_at c) b.head j l ∙ sym (ap (λ k. candidate_at c (step b.head k)) back.1) ∙ no_port by (local b j) back.0
