-- The first refusal of a start.
use Rattle.std.proofs.Common.{◌≡◌, ◌⊎◌, ◌∙◌, ◌+◌, ◌<◌, ◌≤◌, ℕ, zero, suc, Bool, true, false, not, length, ap, sym, refl, subst, inl, inr, arith, Option, Some, None}
use Rattle.std.specs.Prelude.{IsSome, is_some, slice_index, if◌then◌else◌}
use Rattle.std.proofs.lemmas.Bool.{cases_lt, cases_eq, cases_Bool, both_ways, and_parts, and_from, eqb-true, eq-eqb}
use Rattle.std.proofs.lemmas.List.{get_or_past}
use Rattle.std.proofs.lemmas.Option.{same_Some, none-some}
use Rattle.tri_lattice.specs.Sets.{IsConnected}
use Rattle.tri_lattice.proofs.Nodes.{node_eq-true, eq-node_eq}
use Rattle.amoebot_state.specs.declared.bot.Bot.{Bot}
use Rattle.amoebot_state.specs.Configs.{Config, bot_at}
use Rattle.amoebot_state.specs.Occupied.{occupied}
use Rattle.amoebot_state.specs.Ports.{is_contracted}
use Rattle.amoebot_state.proofs.Occupants.{id_below}
use Rattle.amoebot_state.proofs.Options.{not_none}
use Rattle.shape_checks.proofs.Decided.{measures_are_decided}
use Rattle.election_law.specs.declared.refusal.ElectRefusal.{ElectRefusal}
use Rattle.election_law.specs.declared.refusal.ElectRefusal.TheVariants.{Empty, NotContracted, NotReady, NotConnected}
use Rattle.election_law.specs.Elections.{IsReadyBot, IsReadyStart}
use Rattle.election_law.specs.Starts.{IsFirstUnready, nobody, unready, parted, stands_ready, bot_unready, AreReadyBelow, AreBotsReady}
use Rattle.election_law.specs.Laws.{FirstUnreadyIsUnique, ReadyHasNone, ReadyOrUnready}

-- of two ids that are refused first neither lies below the other
not_below : (c : Config) (i j : ℕ) (a : Bot) (e : ElectRefusal) → bot_at c i ≡ Some a → bot_unready i a ≡ Some e → AreReadyBelow c j → i < j → ⊥
not_below c i j a e at is before lt = none-some e (sym (before i a lt at) ∙ is)

-- of one id there is one refusal
one_refusal : (c : Config) (i j : ℕ) (a b : Bot) (e f : ElectRefusal) → i ≡ j → bot_at c i ≡ Some a → bot_at c j ≡ Some b → bot_unready i a ≡ Some e → bot_unready j b ≡ Some f → e ≡ f
one_refusal c i j a b e f same at there is is_too =
    let bot : a ≡ b = same_Some _ _ (sym at ∙ ap (bot_at c) same ∙ there) in
    same_Some _ _ (sym is ∙ ap (λ k. bot_unready k a) same ∙ ap (bot_unready j) bot ∙ is_too)

pub first_unready_is_unique : FirstUnreadyIsUnique
first_unready_is_unique c one two (nobody none) (nobody none2) = refl
first_unready_is_unique c one two (nobody none) (unready i b e at is before) = absurd (none-some b (sym (none i) ∙ at))
first_unready_is_unique c one two (nobody none) (parted i there each apart) = absurd (not_none _ (none i) there)
first_unready_is_unique c one two (unready i b e at is before) (nobody none) = absurd (none-some b (sym (none i) ∙ at))
first_unready_is_unique c one two (unready i a e at is before) (unready j b f there is_too before_too) = elim (cases_lt i j) [
  | inl lt ↦ absurd (not_below c i j a e at is before_too lt)
  | inr ge ↦ elim (cases_lt j i) [
    | inl lt ↦ absurd (not_below c j i b f there is_too before lt)
    | inr le ↦ one_refusal c i j a b e f (omega arith) at there is is_too
  ]
]
first_unready_is_unique c one two (unready i b e at is before) (parted j there each apart) = absurd (none-some e (sym (each i b at) ∙ is))
first_unready_is_unique c one two (parted i there each apart) (nobody none) = absurd (not_none _ (none i) there)
first_unready_is_unique c one two (parted i there each apart) (unready j b e at is before) = absurd (none-some e (sym (each j b at) ∙ is))
first_unready_is_unique c one two (parted i there each apart) (parted j there_too each_too apart_too) = refl

-- ---- a ready start, or a first refusal

none_parts : (t u : Bool) (i : ℕ) → (if not t then Some (NotContracted i) else (if u then None else Some (NotReady i))) ≡ None → (t ≡ true) × (u ≡ true)
none_parts true true i e = (refl, refl)
none_parts true false i e = absurd (none-some (NotReady i) (sym e))
none_parts false u i e = absurd (none-some (NotContracted i) (sym e))

-- an amoebot that is refused for nothing is ready, and the other way round
pub none_is_ready : (i : ℕ) (b : Bot) → bot_unready i b ≡ None → IsReadyBot b
none_is_ready i b e =
    let parts = none_parts (is_contracted b) (stands_ready b) i e in
    let values = and_parts _ _ parts.1 in
    record { contracted = node_eq-true b.head b.tail parts.0; cand = eqb-true (slice_index b.mem 0) 1 values.0; leader = eqb-true (slice_index b.mem 1) 0 values.1 }

ready_is_none : (i : ℕ) (b : Bot) → IsReadyBot b → bot_unready i b ≡ None
ready_is_none i b ready =
    let t : is_contracted b ≡ true = eq-node_eq b.head b.tail ready.contracted in
    let u : stands_ready b ≡ true = and_from _ _ (eq-eqb (slice_index b.mem 0) 1 ready.cand) (eq-eqb (slice_index b.mem 1) 0 ready.leader) in
    λ j. if not (t j) then Some (NotContracted i) else (if u j then None else Some (NotReady i))

pub ready_has_none : ReadyHasNone
ready_has_none c e ready (nobody none) = not_none _ (none ready.some.0) ready.some.1
ready_has_none c e ready (unready i b f at is before) = none-some f (sym (ready_is_none i b (ready.each i b at)) ∙ is)
ready_has_none c e ready (parted i there each apart) = apart ready.connected

-- the first id that is refused
record FoundUnready (c : Config) : Type 0 where
  id : ℕ
  bot : Bot
  refusal : ElectRefusal
  at : bot_at c id ≡ Some bot
  is : bot_unready id bot ≡ Some refusal
  before : AreReadyBelow c id

pub one_more_ready : (c : Config) (n : ℕ) (o : Option Bot) → bot_at c n ≡ o → AreReadyBelow c n → ((b : Bot) → o ≡ Some b → bot_unready n b ≡ None) → AreReadyBelow c (n + 1)
one_more_ready c n o at before here j a lt there = elim (cases_eq j n) [
  | inl e ↦ ap (λ k. bot_unready k a) e ∙ here a (sym at ∙ sym (ap (bot_at c) e) ∙ there)
  | inr ne ↦ before j a (omega arith) there
]

at_bot : (c : Config) (n : ℕ) (b : Bot) (r : Option ElectRefusal) → bot_at c n ≡ Some b → bot_unready n b ≡ r → AreReadyBelow c n → AreReadyBelow c (n + 1) ⊎ FoundUnready c
at_bot c n b None at is before = inl (one_more_ready c n (Some b) at before (λ a e. ap (bot_unready n) (sym (same_Some _ _ e)) ∙ is))
at_bot c n b (Some e) at is before = inr (record { id = n; bot = b; refusal = e; at = at; is = is; before = before })

at_id : (c : Config) (n : ℕ) (o : Option Bot) → bot_at c n ≡ o → AreReadyBelow c n → AreReadyBelow c (n + 1) ⊎ FoundUnready c
at_id c n None at before = inl (one_more_ready c n None at before (λ b e. absurd (none-some b e)))
at_id c n (Some b) at before = at_bot c n b (bot_unready n b) at refl before

up_to : (c : Config) (n : ℕ) → AreReadyBelow c n ⊎ FoundUnready c
up_to c zero = inl (λ j a lt there. absurd (omega arith))
up_to c (suc n) = elim (up_to c n) [
  | inl before ↦ subst (λ k. AreReadyBelow c k ⊎ FoundUnready c) (let e : n + 1 ≡ suc n = omega arith in e) (at_id c n (bot_at c n) refl before)
  | inr found ↦ inr found
]

-- an amoebot among the first ids, or none
some_or_none : (c : Config) (n : ℕ) → ((i : ℕ) × IsSome (bot_at c i)) ⊎ ((j : ℕ) → j < n → bot_at c j ≡ None)
some_or_none c zero = inr (λ j lt. absurd (omega arith))
some_or_none c (suc n) = elim (some_or_none c n) [
  | inl found ↦ inl found
  | inr none ↦ at_last (bot_at c n) refl none
]
  where
    at_last : (o : Option Bot) → bot_at c n ≡ o → ((j : ℕ) → j < n → bot_at c j ≡ None) → ((i : ℕ) × IsSome (bot_at c i)) ⊎ ((j : ℕ) → j < suc n → bot_at c j ≡ None)
    at_last (Some b) at none = inl (n, ap is_some at)
    at_last None at none = inr (λ j lt. elim (cases_eq j n) [ inl e ↦ ap (bot_at c) e ∙ at | inr ne ↦ none j (omega arith) ])

pub past_none : (c : Config) (j : ℕ) → length c.bots ≤ j → bot_at c j ≡ None
past_none c j le = get_or_past c.bots j None le

pub all_none : (c : Config) → ((j : ℕ) → j < length c.bots → bot_at c j ≡ None) → (j : ℕ) → bot_at c j ≡ None
all_none c none j = elim (cases_lt j (length c.bots)) [ inl lt ↦ none j lt | inr le ↦ past_none c j le ]

pub all_ready : (c : Config) → AreReadyBelow c (length c.bots) → (j : ℕ) (a : Bot) → bot_at c j ≡ Some a → bot_unready j a ≡ None
all_ready c before j a at = before j a (id_below c j a at) at

pub ready_or_unready : ReadyOrUnready
ready_or_unready c valid = elim (some_or_none c (length c.bots)) [
  | inr none ↦ inr (Empty, nobody (all_none c none))
  | inl some ↦ elim (up_to c (length c.bots)) [
    | inr found ↦ inr (found.refusal, unready found.id found.bot found.refusal found.at found.is found.before)
    | inl before ↦
        let ready = all_ready c before in
        let (answer, decides) = (measures_are_decided c valid).0 in
        elim (cases_Bool answer) [
          | inl t ↦ inl (record { some = some; each = λ i b at. none_is_ready i b (ready i b at); connected = decides.0 t })
          | inr f ↦ inr (NotConnected, parted some.0 some.1 ready (λ joined. both_ways answer f (decides.1 joined)))
        ]
  ]
]

-- ---- what a look at the amoebots by their ids tells

-- the amoebot with the next id is ready, too
pub next_ready : (c : Config) (n : ℕ) (b : Bot) → bot_at c n ≡ Some b → bot_unready n b ≡ None → AreReadyBelow c n → AreReadyBelow c (n + 1)
next_ready c n b at is before = one_more_ready c n (Some b) at before (λ a e. ap (bot_unready n) (sym (same_Some _ _ e)) ∙ is)

pub no_bots : (c : Config) → length c.bots ≡ 0 → IsFirstUnready c Empty
no_bots c e = nobody (all_none c (λ j lt. absurd (omega (arith, e, lt))))

pub not_joined : (c : Config) → IsSome (bot_at c 0) → AreReadyBelow c (length c.bots) → ¬ IsConnected (occupied c) → IsFirstUnready c NotConnected
not_joined c there before apart = parted 0 there (all_ready c before) apart

pub bots_ready : (c : Config) → IsSome (bot_at c 0) → AreReadyBelow c (length c.bots) → AreBotsReady c
bots_ready c there before = record { some = (0, there); each = before }

pub ready_start : (c : Config) → IsSome (bot_at c 0) → AreReadyBelow c (length c.bots) → IsConnected (occupied c) → IsReadyStart c
ready_start c there before joined = record { some = (0, there); each = λ i b at. none_is_ready i b (all_ready c before i b at); connected = joined }
