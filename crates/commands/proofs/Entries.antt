-- The entries of a run break no limit.
use Rattle.std.proofs.Common.{◌≡◌, ℕ, ◌*◌, ◌<◌, ◌≤◌, List, [], ◌∷◌, ◌++◌, length, map, get_or, Option, Some, None, refl, sym, ap, subst, arith}
use Rattle.std.specs.Prelude.{nat_lt, IsTrue}
use Rattle.std.specs.Option.{option_map}
use Rattle.std.specs.List.{All, Contains, flat_map}
use Rattle.std.proofs.lemmas.Bool.{lt-ltb, le-leb, and_from}
use Rattle.std.proofs.lemmas.Nat.{mul-le}
use Rattle.std.proofs.lemmas.List.{length-map}
use Rattle.std.proofs.lemmas.List.Elements.{All-nil, All-cons, All-head, All-tail, All-append}
use Rattle.std.proofs.lemmas.List.Sums.{list_all-from_AllPass}
use Rattle.tri_lattice.specs.declared.node.Node.{Node}
use Rattle.tri_lattice.specs.Extent.{Extent, is_in}
use Rattle.amoebot_state.specs.declared.bot.Bot.{Bot}
use Rattle.amoebot_state.specs.declared.cell.CellName.{CellName}
use Rattle.amoebot_state.specs.declared.cell.CellName.TheVariants as name
use Rattle.amoebot_state.specs.declared.cell.Cell.{Cell}
use Rattle.amoebot_state.specs.declared.cell.Cell.TheVariants as cell
use Rattle.amoebot_state.specs.declared.verdict.Entry.{Entry}
use Rattle.amoebot_state.specs.Limits.{most_pairs}
use Rattle.amoebot_state.specs.Configs.{Config, IsValid, bot_at, occupant, value}
use Rattle.amoebot_state.specs.Pairs.{CellChange, Triples, cell_of, cell_value, plain_patch, plain_triple}
use Rattle.amoebot_state.specs.Patches.{HasOldValues}
use Rattle.amoebot_state.specs.Zones.{zone, shown}
use Rattle.amoebot_state.specs.Steps.{Step, Run, DecidesChange, IsLawful, change_of}
use Rattle.amoebot_state.specs.Laws.{ZoneHasAtMostNineBodies}
use Rattle.amoebot_state.proofs.Members.{Has, Has-from_Contains}
use Rattle.amoebot_state.proofs.Options.{there_is}
use Rattle.amoebot_state.proofs.Occupants.{id_below, covers_below, occupant_covers}
use Rattle.amoebot_state.proofs.Zones.{zone_inside}
use Rattle.claim_core.specs.Limits.{most_turns}
use Rattle.claim_core.specs.Turns.{CallerLists, AreFew}
use Rattle.claim_core.specs.Good.{IsListed}
use Rattle.journal_text.specs.Limits.{last_caller, last_turn}
use Rattle.journal_text.specs.Journals.{ids_of_change, ids_of_name, ids_of_value, named_ids}
use Rattle.journal_text.specs.Texts.{change_in_full, written_full}
use Rattle.shape_text.specs.PartLimits.{HasLimits}
use Rattle.journal_text.specs.Rereading.{IsWritablePair, IsWritableChange, IsPossible, KeepsLimits}
use Rattle.action_tree.specs.Trees.{Program}
use Rattle.action_meaning.specs.Verdicts.{verdict_shown}
use Rattle.shape_text.proofs.WithinLimits.{has_coordinates}
use Rattle.claim_core.proofs.Frames.{IsFramed, framed_step}
use Rattle.commands.proofs.PatchLemmas.{few_pairs}
use Rattle.commands.proofs.ActionLemmas.{verdict_acted}
use Rattle.commands.proofs.Worlds.{of_each, MayRun, has_limits}

-- ---- what cells hold

-- what the body of an id holds is the amoebot that is there
record Held (c : Config) (i : ℕ) (x : Cell) : Type 0 where
  pub bot : Bot
  pub there : bot_at c i ≡ Some bot
  pub is : x ≡ cell.Body bot

body_held : (c : Config) (i : ℕ) (x : Cell) → value c (name.Body i) ≡ Some x → Held c i x
body_held c i x e = by (bot_at c i) refl e
  where
    by : (o : Option Bot) → bot_at c i ≡ o → option_map cell.Body o ≡ Some x → Held c i x
    by None at f = absurd (cc)
    by (Some b) at f = record { bot = b; there = at; is = (cc) }

-- a cell has this value in a world, after a step or before it
abbrev Gives : Config → CellName × Cell → Type 0
Gives d p = value d (cell_of p) ≡ Some (cell_value p)

abbrev Found : Config → CellChange → Type 0
Found c t = value c t.0 ≡ Some t.1

-- what a node holds is its occupant
spot_held : (c : Config) (v : Node) (x : Cell) → value c (name.Spot v) ≡ Some x → x ≡ cell.Spot (occupant c v)
spot_held c v x e = cc

-- ---- ids

module _ (c : Config) where
  abbrev Below : ℕ → Type 0
  Below id = id < length c.bots

  -- the amoebots that a cell and its value name
  name_there : (n : CellName) (x : Cell) → value c n ≡ Some x → All Below (ids_of_name n)
  name_there (name.Spot v) x e = All-nil Below
  name_there (name.Body i) x e = let held = body_held c i x e in All-cons Below i [] (id_below c i held.bot held.there) (All-nil Below)

  value_there : (n : CellName) (x : Cell) → value c n ≡ Some x → All Below (ids_of_value x)
  value_there n (cell.Spot None) e = All-nil Below
  value_there (name.Spot v) (cell.Spot (Some id)) e =
      let same = spot_held c v (cell.Spot (Some id)) e in
      let by : occupant c v ≡ Some id = cc in
      All-cons Below id [] (covers_below c id v (occupant_covers c v id by)) (All-nil Below)
  value_there (name.Body i) (cell.Spot (Some id)) e = let held = body_held c i (cell.Spot (Some id)) e in let other = held.is in absurd (cc)
  value_there n (cell.Body b) e = All-nil Below

-- a patch has the values of one world and leads to another, each of so many amoebots
module _ (bots : ℕ) (c d : Config) (before : length c.bots ≡ bots) (after : length d.bots ≡ bots) where
  abbrev There : ℕ → Type 0
  There id = id < bots

  changes_there : (ts : Triples) → All (Gives d) (plain_patch ts) → HasOldValues c ts → All There (flat_map ids_of_change (map change_in_full ts))
  changes_there [] given found = All-nil There
  changes_there (t ∷ ts) given found =
      let old = All-head (Found c) t ts found in
      let new = All-head (Gives d) (plain_triple t) (plain_patch ts) given in
      let own = subst (λ (n : ℕ). All (λ id. id < n) (ids_of_name t.0)) before (name_there c t.0 t.1 old) in
      let was = subst (λ (n : ℕ). All (λ id. id < n) (ids_of_value t.1)) before (value_there c t.0 t.1 old) in
      let now = subst (λ (n : ℕ). All (λ id. id < n) (ids_of_value t.2)) after (value_there d t.0 t.2 new) in
      All-append There (ids_of_change (change_in_full t)) (flat_map ids_of_change (map change_in_full ts))
      (All-append There (ids_of_name t.0) (ids_of_value t.1 ++ ids_of_value t.2) own (All-append There (ids_of_value t.1) (ids_of_value t.2) was now))
      (changes_there ts (All-tail (Gives d) (plain_triple t) (plain_patch ts) given) (All-tail (Found c) t ts found))

-- ---- pairs

module _ (vars : ℕ) (c : Config) (valid : IsValid c) (limits : (i : ℕ) (b : Bot) → bot_at c i ≡ Some b → HasLimits vars b) where
  pair_writable : (n : CellName) (x : Cell) → value c n ≡ Some x → ((v : Node) → n ≡ name.Spot v → IsTrue (is_in c.area v)) → IsWritablePair vars (n, x)
  pair_writable (name.Spot v) (cell.Spot o) e inside = has_coordinates c.area v valid.area (inside v refl)
  pair_writable (name.Spot v) (cell.Body b) e inside = let same = spot_held c v (cell.Body b) e in absurd (cc)
  pair_writable (name.Body i) (cell.Spot o) e inside = let held = body_held c i (cell.Spot o) e in let other = held.is in absurd (cc)
  pair_writable (name.Body i) (cell.Body b) e inside =
      let held = body_held c i (cell.Body b) e in
      let is = held.is in
      let same : held.bot ≡ b = cc in
      subst (λ (x : Bot). HasLimits vars x) same (limits i held.bot held.there)

-- and so are those of a patch
module _ (vars : ℕ) (c d : Config) (cells : List CellName) (was : (n : CellName) (x : Cell) → value c n ≡ Some x → Contains cells n → IsWritablePair vars (n, x))
    (is : (n : CellName) (x : Cell) → value d n ≡ Some x → Contains cells n → IsWritablePair vars (n, x)) where
  abbrev Listed : CellName × Cell → Type 0
  Listed p = Contains cells (cell_of p)

  changes_writable : (ts : Triples) → All (Gives d) (plain_patch ts) → HasOldValues c ts → All Listed (plain_patch ts) → All (IsWritableChange vars) (map change_in_full ts)
  changes_writable [] given found listed = All-nil (IsWritableChange vars)
  changes_writable (t ∷ ts) given found listed =
      let there = All-head Listed (plain_triple t) (plain_patch ts) listed in
      All-cons (IsWritableChange vars) (change_in_full t) (map change_in_full ts)
      (was t.0 t.1 (All-head (Found c) t ts found) there, is t.0 t.2 (All-head (Gives d) (plain_triple t) (plain_patch ts) given) there)
      (changes_writable ts (All-tail (Gives d) (plain_triple t) (plain_patch ts) given) (All-tail (Found c) t ts found) (All-tail Listed (plain_triple t) (plain_patch ts) listed))

-- ---- entries

-- a part of what is enough in all
pub one_of_many : (n m : ℕ) → 0 < n → n * m ≤ most_turns → m ≤ most_turns
one_of_many n m some all = let le = mul-le 1 m n m some (omega arith) in omega arith

-- the caller and the turn of an entry are ones that there may be
pub record IsNumbered (e : Entry) : Type 0 where
  pub caller : e.caller ≤ last_caller
  pub turn : e.turn ≤ last_turn

-- so are those of an entry that is of a turn of some lists
pub listed_numbered : (lists : CallerLists) (e : Entry) → AreFew (length lists.ids) lists.turns → IsListed lists e → IsNumbered e
listed_numbered lists e few is =
    let caller = is.caller in
    let turn = is.turn in
    let callers = few.at_most_16 in
    let turns = one_of_many (length lists.ids) lists.turns (omega arith) few.in_all in
    record { caller = omega arith; turn = omega arith }

-- what holds of the entry of a step, whoever makes it
pub record IsStepped (bots actions vars : ℕ) (e : Entry) : Type 0 where
  pub action : e.action < actions
  pub ids : All (λ id. id < bots) (named_ids (written_full e))
  pub possible : IsPossible e.moved
  pub few : length (written_full e).changes ≤ most_pairs
  pub pairs : All (IsWritableChange vars) (written_full e).changes

module _ (p : Program) (start : Config) (may : MayRun p start) (lawful : IsLawful (verdict_shown p)) (nine : ZoneHasAtMostNineBodies) where
  stepped : (c d : Config) (e : Entry) → IsFramed start c → Step (verdict_shown p) c e d → IsStepped (length start.bots) (length p.actions) (length p.vars) e
  stepped c d e is step =
      let changes : DecidesChange (verdict_shown p) c e.bot (change_of e) = record { valid = is.valid; there = step.there; decided = step.decided } in
      let by = lawful c e.bot (change_of e) changes in
      let acted = verdict_acted p (shown c e.bot) (change_of e) step.decided in
      let after = framed_step (verdict_shown p) start c d e is step in
      let own = there_is (bot_at c e.bot) step.there in
      let same_area : d.area ≡ c.area = ap (λ (x : Config). x.area) step.patched.same.rest in
      let bot_below : e.bot < length start.bots = (let lt = id_below c e.bot own.0 own.1 in let size = is.same.size in omega arith) in
      let ids = changes_there (length start.bots) c d is.same.size after.same.size e.patch step.patched.given by.found in
      let inside : (n : CellName) → Contains (zone c e.bot) n → (v : Node) → n ≡ name.Spot v → IsTrue (is_in c.area v) = λ n listed v same.
      zone_inside c e.bot own.0 v is.valid own.1 (subst (λ (m : CellName). Has m (zone c e.bot)) same (Has-from_Contains (zone c e.bot) listed)) in
      let few = few_pairs (zone c e.bot) (plain_patch e.patch) by.ordered by.touches (nine c e.bot is.valid) in
      let long = length-map e.patch plain_triple in
      let written = length-map e.patch change_in_full in
      record {
        action = (let lt = acted.action in omega arith);
        ids = All-cons (λ id. id < length start.bots) e.bot (flat_map ids_of_change (map change_in_full e.patch)) bot_below ids;
        possible = acted.possible;
        few = omega arith;
        pairs = changes_writable (length p.vars) c d (zone c e.bot)
            (λ n x there listed. pair_writable (length p.vars) c is.valid (has_limits p start may c is) n x there (inside n listed))
            (λ n x there listed. pair_writable (length p.vars) d after.valid (has_limits p start may d after) n x there
            (λ v same. subst (λ (a : Extent). IsTrue (is_in a v)) (sym same_area) (inside n listed v same)))
            e.patch step.patched.given by.found by.touches;
      }

  -- and with its caller and its turn
  keeps_limits : (e : Entry) → IsNumbered e → IsStepped (length start.bots) (length p.actions) (length p.vars) e → KeepsLimits (length start.bots) (length p.actions) (length p.vars) (written_full e)
  keeps_limits e is by = record {
    known = and_from _ _ (and_from _ _ (and_from _ _ (le-leb e.caller last_caller is.caller) (le-leb e.turn last_turn is.turn)) (lt-ltb e.action (length p.actions) by.action))
        (list_all-from_AllPass (λ id. nat_lt id (length start.bots)) (named_ids (written_full e)) (λ k d inside. lt-ltb (get_or (named_ids (written_full e)) k d) (length start.bots) (by.ids k d inside)));
    movement = by.possible;
    few = by.few;
    pairs = by.pairs;
  }

  pub all_keep_limits : (last : Config) (es : List Entry) → IsFramed start start → All IsNumbered es → Run (verdict_shown p) start es last → All (λ e. KeepsLimits (length start.bots) (length p.actions) (length p.vars) (written_full e)) es
  all_keep_limits last es is numbered run =
      let each = of_each (verdict_shown p) start (IsStepped (length start.bots) (length p.actions) (length p.vars)) stepped start last es is run in
      λ k d inside. keeps_limits (get_or es k d) (numbered k d inside) (each k d inside)
