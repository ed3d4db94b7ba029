-- An elected world stays one under each step of `erosion`, as long as the amoebots are contracted; and they stay so.
use Rattle.std.proofs.Common.{◌≡◌, ◌≢◌, ◌∙◌, ℕ, ◌<◌, true, false, length, List, [], ◌∷◌, ap, refl, sym, subst, inl, inr, arith, Option, Some, None}
use Rattle.std.specs.Prelude.{IsTrue, is_some, nat_eq, slice_index, take, Ok}
use Rattle.std.proofs.lemmas.Bool.{both_ways, cases_eq, eqb-true}
use Rattle.std.proofs.lemmas.List.{get_or-set_same, get_or-set_other}
use Rattle.std.proofs.lemmas.Option.{same_Some}
use Rattle.tri_lattice.specs.declared.node.Node.{Node}
use Rattle.tri_lattice.specs.Lattice.{step}
use Rattle.tri_lattice.specs.Sets.{TakesOut, SameNodes}
use Rattle.tri_lattice.proofs.Nodes.{eq-node_eq, step_leaves}
use Rattle.tri_lattice.proofs.Paths.{same_keeps}
use Rattle.ring_guard.specs.Rings.{ring_in, IsOneArc}
use Rattle.ring_guard.proofs.Arcs.{entry_in, taking_keeps, taking_leaves, alone_is_all}
use Rattle.amoebot_state.specs.declared.bot.Bot.{Bot}
use Rattle.amoebot_state.specs.declared.verdict.Entry.{Entry}
use Rattle.amoebot_state.specs.Configs.{Config, IsValid, bot_at, bot_of, covers, occupant}
use Rattle.amoebot_state.specs.Occupied.{occupied}
use Rattle.amoebot_state.specs.Ports.{is_own}
use Rattle.amoebot_state.specs.Steps.{Step, Run}
use Rattle.amoebot_state.proofs.Occupants.{occupant_at, occupant_covers}
use Rattle.amoebot_state.proofs.Options.{there_is}
use Rattle.amoebot_state.proofs.Owns.{own_cases, own_head}
use Rattle.model_ops.specs.Operations.{with_value}
use Rattle.model_ops.specs.Sights.{sight}
use Rattle.model_ops.proofs.Becomes.{at_own, at_other}
use Rattle.model_ops.proofs.KeepsRest.{own_there}
use Rattle.model_ops.proofs.Told.{ok_told, occupant_told}
use Rattle.shape_checks.specs.Hexagons.{AreContracted}
use Rattle.shape_checks.specs.Values.{has_value}
use Rattle.action_tree.specs.Trees.{Program}
use Rattle.action_meaning.specs.Verdicts.{verdict_shown}
use Rattle.election_law.specs.Elections.{IsErosion, IsReadyStart, IsElected, is_candidate, is_leader, candidate_of, candidate_at}
use Rattle.election_law.specs.Laws.{ErosionElects}
use Rattle.election_law.specs.States.{IsElection}
use Rattle.election_law.proofs.Guards.{LeadsBy, ErodesBy}
use Rattle.election_law.proofs.Rings.{erodes_by_arc, leads_alone}
use Rattle.election_law.proofs.Told.{GotValue, Eroded, led, worn, step_told}

-- ---- what a value tells

-- who has a value in a variable is there
pub value_there : (var value : ℕ) (o : Option Bot) → has_value var value o ≡ true → (b : Bot) × (o ≡ Some b) × (slice_index b.mem var ≡ value)
value_there var value None e = absurd (cc)
value_there var value (Some b) e = (b, refl, eqb-true (slice_index b.mem var) value e)

-- a candidate on a node
candidate_on : (c : Config) (o : Option ℕ) → candidate_of c o ≡ true → (n : ℕ) × (o ≡ Some n) × (is_candidate c n ≡ true)
candidate_on c None e = absurd (cc)
candidate_on c (Some n) e = (n, refl, e)

-- a candidate stands on a node of the set
candidate_node : (c : Config) → IsValid c → (n : ℕ) → is_candidate c n ≡ true → (a : Bot) × (occupant c a.head ≡ Some n) × (candidate_at c a.head ≡ true)
candidate_node c valid n e =
    let (a, at, value) = value_there 0 1 (bot_at c n) e in
    let on = occupant_at c valid n a.head (ap (λ o. covers o a.head) at ∙ own_head a a.head refl) in
    (a, on, ap (candidate_of c) on ∙ e)

-- two configurations with the same occupants and the same candidates
candidates_alike : (c d : Config) → ((v : Node) → occupant d v ≡ occupant c v) → ((j : ℕ) → is_candidate d j ≡ is_candidate c j) → SameNodes (candidate_at c) (candidate_at d)
candidates_alike c d spots same v = ap (candidate_of d) (spots v) ∙ of_same (occupant c v)
  where
    of_same : (o : Option ℕ) → candidate_of d o ≡ candidate_of c o
    of_same None = refl
    of_same (Some n) = same n

-- a contracted amoebot has one node
one_node : (c : Config) (i : ℕ) (b : Bot) (v : Node) → bot_at c i ≡ Some b → b.head ≡ b.tail → occupant c v ≡ Some i → b.head ≡ v
one_node c i b v at one on =
    let own : is_own b v ≡ true = sym (ap (λ o. covers o v) at) ∙ occupant_covers c v i on in
    elim (own_cases b v own) [ inl h ↦ h | inr t ↦ one ∙ t ]

-- ---- an amoebot that got a value

module _ (c : Config) (i x k : ℕ) (new : Config) (valid : IsValid c) (at : bot_at c i ≡ Some (bot_of c i)) (got : GotValue c i x k new) where
  abbrev b : Bot
  b = bot_of c i

  abbrev w : Bot
  w = with_value b x k

  new_own : bot_at new i ≡ Some w
  new_own = ap (λ d. bot_at d i) got.is ∙ at_own c i b w at

  new_other : (j : ℕ) → j ≢ i → bot_at new j ≡ bot_at c j
  new_other j ne = ap (λ d. bot_at d j) got.is ∙ at_other c i w j ne

  -- the written variable has the value, and each other one its own
  written_value : x < 8 → slice_index w.mem x ≡ k
  written_value l =
      let eight = (valid.each i b at).eight in
      let within : x < length b.mem = omega (arith, eight, l) in
      get_or-set_same b.mem x k 0 within

  other_value : (y : ℕ) → y ≢ x → slice_index w.mem y ≡ slice_index b.mem y
  other_value y ne = get_or-set_other b.mem x y k 0 ne

  -- so the values of all amoebots stay in a variable that is not written
  stays_in : (y n j : ℕ) → y ≢ x → has_value y n (bot_at new j) ≡ has_value y n (bot_at c j)
  stays_in y n j ne = elim (cases_eq j i) [
    | inl e ↦
        ap (λ m. has_value y n (bot_at new m)) e ∙ ap (has_value y n) new_own ∙ ap (λ m. nat_eq m n) (other_value y ne)
        ∙ sym (ap (λ m. has_value y n (bot_at c m)) e ∙ ap (has_value y n) at)
    | inr other ↦ ap (has_value y n) (new_other j other)
  ]

  stay_contracted : AreContracted c → AreContracted new
  stay_contracted contracted j a there = elim (cases_eq j i) [
    | inl e ↦
        let same : w ≡ a = same_Some _ _ (sym new_own ∙ sym (ap (bot_at new) e) ∙ there) in
        sym (ap (λ (o : Bot). o.head) same) ∙ contracted i b at ∙ ap (λ (o : Bot). o.tail) same
    | inr other ↦ contracted j a (sym (new_other j other) ∙ there)
  ]

-- ---- the two steps

-- a value that is 0 is not 1
zero_is_not : (var : ℕ) (o : Option Bot) (b : Bot) → o ≡ Some b → slice_index b.mem var ≡ 0 → has_value var 1 o ≡ false
zero_is_not var o b at e = ap (has_value var 1) at ∙ ap (λ m. nat_eq m 1) e

module _ (c : Config) (i : ℕ) (new : Config) (valid : IsValid c) (at : bot_at c i ≡ Some (bot_of c i)) (contracted : AreContracted c) (elected : IsElected c) where
  abbrev own : Bot
  own = bot_of c i

  one : own.head ≡ own.tail
  one = contracted i own at

  rot : own.rot < 6
  rot = (valid.each i own at).rot

  -- its value as it is read
  read_one : (var n : ℕ) → (sight c i).reads None var ≡ Ok n → slice_index own.mem var ≡ n
  read_one var n e = ok_told e

  is_cand : (sight c i).reads None 0 ≡ Ok 1 → is_candidate c i ≡ true
  is_cand e = ap (has_value 0 1) at ∙ ap (λ m. nat_eq m 1) (read_one 0 1 e)

  -- its own node
  own_spot : occupant c own.head ≡ Some i
  own_spot = occupant_at c valid i own.head (ap (λ o. covers o own.head) at ∙ own_head own own.head refl)

  own_stands : (sight c i).reads None 0 ≡ Ok 1 → candidate_at c own.head ≡ true
  own_stands e = ap (candidate_of c) own_spot ∙ is_cand e

  -- ---- it becomes the leader

  module _ (by : LeadsBy (sight c i)) (got : GotValue c i 1 1 new) where
    same_cand : (j : ℕ) → is_candidate new j ≡ is_candidate c j
    same_cand j = stays_in c i 1 1 new valid at got 0 1 j (λ e. omega (arith, e))

    no_leader : (j : ℕ) → is_leader c j ≡ true → ⊥
    no_leader j t =
        let same : i ≡ j = elected.alone j i t (is_cand by.cand) in
        both_ways _ (zero_is_not 1 (bot_at c i) own at (read_one 1 0 by.leader)) (ap (is_leader c) same ∙ t)

    the_leader : (j : ℕ) → is_leader new j ≡ true → j ≡ i
    the_leader j t = elim (cases_eq j i) [
      | inl e ↦ e
      | inr ne ↦ absurd (no_leader j (sym (ap (has_value 1 1) (new_other c i 1 1 new valid at got j ne)) ∙ t))
    ]

    the_candidate : (j : ℕ) → is_candidate c j ≡ true → j ≡ i
    the_candidate j t =
        let (a, on, stands) = candidate_node c valid j t in
        let same : a.head ≡ own.head = alone_is_all (candidate_at c) own.head elected.connected (own_stands by.cand) (leads_alone c i (eq-node_eq own.head own.tail one) rot by) a.head stands in
        same_Some _ _ (sym on ∙ ap (occupant c) same ∙ own_spot)

    pub led_elected : IsElected new
    led_elected =
        record {
          some = (i, same_cand i ∙ is_cand by.cand);
          connected = same_keeps (candidate_at c) (candidate_at new) (candidates_alike c new got.writes.spots same_cand) elected.connected;
          one = λ j n tj tn. the_leader j tj ∙ sym (the_leader n tn);
          alone = λ j n tj tn. the_candidate n (sym (same_cand n) ∙ tn) ∙ sym (the_leader j tj);
          standing = λ j t. ap (is_candidate new) (the_leader j t) ∙ same_cand i ∙ is_cand by.cand;
        }

  -- ---- it stays no candidate

  module _ (by : ErodesBy (sight c i)) (got : GotValue c i 0 0 new) where
    same_leader : (j : ℕ) → is_leader new j ≡ is_leader c j
    same_leader j = stays_in c i 0 0 new valid at got 1 1 j (λ e. omega (arith, e))

    arc : IsOneArc (ring_in (candidate_at c) own.head)
    arc = erodes_by_arc c i (eq-node_eq own.head own.tail one) rot by

    gone : is_candidate new i ≡ false
    gone = zero_is_not 0 (bot_at new i) (with_value own 0 0) (new_own c i 0 0 new valid at got) (written_value c i 0 0 new valid at got (omega arith))

    -- a candidate on another node is another amoebot
    same_on : (v : Node) → v ≢ own.head → (o : Option ℕ) → occupant c v ≡ o → candidate_of new o ≡ candidate_of c o
    same_on v ne None on = refl
    same_on v ne (Some n) on = elim (cases_eq n i) [
      | inl e ↦ absurd (ne (sym (one_node c i own v at one (on ∙ ap Some e))))
      | inr other ↦ ap (has_value 0 1) (new_other c i 0 0 new valid at got n other)
    ]

    taken : TakesOut (candidate_at c) (candidate_at new) own.head
    taken = record {
      gone = ap (candidate_of new) (got.writes.spots own.head ∙ own_spot) ∙ gone;
      others = λ v ne. ap (candidate_of new) (got.writes.spots v) ∙ same_on v ne (occupant c v) refl;
    }

    -- there is a candidate beside it, so none is the leader
    none_leads : (j : ℕ) → is_leader c j ≡ true → ⊥
    none_leads j t =
        let (m, l, on) = arc.some in
        let v = step own.head m in
        let stands : candidate_at c v ≡ true = sym (entry_in (candidate_at c) own.head m l) ∙ on in
        let (n, occupies, is) = candidate_on c (occupant c v) stands in
        let same : n ≡ i = elected.alone j n t is ∙ sym (elected.alone j i t (is_cand by.cand)) in
        step_leaves own.head m l (sym (one_node c i own v at one (occupies ∙ ap Some same)))

    no_leader_now : (j : ℕ) → is_leader new j ≡ true → ⊥
    no_leader_now j t = none_leads j (sym (same_leader j) ∙ t)

    still_some : (j : ℕ) × IsTrue (is_candidate new j)
    still_some =
        let (a, on) = taking_leaves (candidate_at c) (candidate_at new) own.head arc taken in
        let (n, occupies, is) = candidate_on new (occupant new a) on in
        (n, is)

    pub worn_elected : IsElected new
    worn_elected =
        record {
          some = still_some;
          connected = taking_keeps (candidate_at c) (candidate_at new) own.head elected.connected arc taken;
          one = λ j n tj tn. absurd (no_leader_now j tj);
          alone = λ j n tj tn. absurd (no_leader_now j tj);
          standing = λ j t. absurd (no_leader_now j t);
        }

-- ---- a step, a start, a run

eroded_keeps : (c : Config) (i : ℕ) (new : Config) → bot_at c i ≡ Some (bot_of c i) → IsElection c → IsValid new → Eroded c i new → IsElection new
eroded_keeps c i new at is valid (led by got) = record {
  valid = valid;
  contracted = stay_contracted c i 1 1 new is.valid at got is.contracted;
  elected = led_elected c i new is.valid at is.contracted is.elected by got;
}
eroded_keeps c i new at is valid (worn by got) = record {
  valid = valid;
  contracted = stay_contracted c i 0 0 new is.valid at got is.contracted;
  elected = worn_elected c i new is.valid at is.contracted is.elected by got;
}

pub step_keeps : (program : Program) (old : Config) (e : Entry) (new : Config) → IsErosion program → IsElection old → Step (verdict_shown program) old e new → IsElection new
step_keeps program old e new erodes is step =
    eroded_keeps old e.bot new (own_there old e.bot step.there) is step.patched.valid (step_told program old e new erodes is.valid step)

pub ready_is_election : (c : Config) → IsValid c → IsReadyStart c → IsElection c
ready_is_election c valid ready = record {
  valid = valid;
  contracted = λ i b at. (ready.each i b at).contracted;
  elected = record {
    some = let (i, there) = ready.some in let (b, at) = there_is (bot_at c i) there in (i, is_cand_at i b at);
    connected = same_keeps (occupied c) (candidate_at c) (λ v. stands_on v (occupant c v) refl) ready.connected;
    one = λ i j ti tj. absurd (no_leader i ti);
    alone = λ i j ti tj. absurd (no_leader i ti);
    standing = λ i t. absurd (no_leader i t);
  };
}
  where
    is_cand_at : (i : ℕ) (b : Bot) → bot_at c i ≡ Some b → is_candidate c i ≡ true
    is_cand_at i b at = ap (has_value 0 1) at ∙ ap (λ m. nat_eq m 1) (ready.each i b at).cand

    no_leader : (i : ℕ) → is_leader c i ≡ true → ⊥
    no_leader i t =
        let (b, at, value) = value_there 1 1 (bot_at c i) t in
        let none = (ready.each i b at).leader in omega (arith, value, none)

    stands_on : (v : Node) (o : Option ℕ) → occupant c v ≡ o → candidate_of c o ≡ is_some o
    stands_on v None on = refl
    stands_on v (Some n) on = is_cand_at n (bot_of c n) (occupant_told c v n on).0

pub run_keeps : (program : Program) (first : Config) (es : List Entry) (last : Config) → IsErosion program → IsElection first → Run (verdict_shown program) first es last → IsElection last
run_keeps program first [] last erodes is run = subst IsElection (sym run) is
run_keeps program first (e ∷ es) last erodes is (mid, step, rest) = run_keeps program mid es last erodes (step_keeps program first e mid erodes is step) rest

pub erosion_elects : ErosionElects
erosion_elects program first es place world erodes valid ready at =
    (run_keeps program first (take place es) world erodes (ready_is_election first valid ready) at.reached).elected
