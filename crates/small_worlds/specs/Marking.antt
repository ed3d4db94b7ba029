-- Support of tests, and no part of the model: a decider that sets variable 0 from 0 to 1
-- and is idle elsewhere, with the proofs that it keeps the laws of deciders.
-- A decider gives its laws as ghost items, which may cite no term of the crate's own proofs/,
-- so they stand here; the tests of the crates above decide by it too.
use Rattle.std.proofs.Common.{◌≡◌, ◌≢◌, ◌&&◌, ℕ, zero, suc, List, [], ◌∷◌, length, Bool, true, false, nat_eq, ap, sym, ◌∙◌, refl, subst, inl, inr, arith, Option, Some, None}
use Rattle.std.specs.Prelude.{is_some, nat_le, slice_index, slice_set, if◌then◌else◌}
use Rattle.std.specs.List.{All, Contains}
use Rattle.std.specs.Option.{option_map}
use Rattle.std.proofs.lemmas.Bool.{cases_eq, and_parts, and_from, eqb-true}
use Rattle.std.proofs.lemmas.List.{get_or-set_same, get_or-set_other, length-set}
use Rattle.std.proofs.lemmas.List.Elements.{All-nil, All-cons, All-head}
use Rattle.std.proofs.lemmas.Option.{same_Some}
use Rattle.tri_lattice.specs.declared.node.Node.{Node}
use Rattle.amoebot_state.specs.declared.bot.Bot.{Bot}
use Rattle.amoebot_state.specs.declared.cell.CellName.{CellName}
use Rattle.amoebot_state.specs.declared.cell.CellName.TheVariants as name
use Rattle.amoebot_state.specs.declared.cell.Cell.{Cell}
use Rattle.amoebot_state.specs.declared.cell.Cell.TheVariants as cell
use Rattle.amoebot_state.specs.declared.verdict.Change.{Change}
use Rattle.amoebot_state.specs.declared.verdict.Moved.TheVariants as moved
use Rattle.amoebot_state.specs.declared.verdict.Verdict.{Verdict}
use Rattle.amoebot_state.specs.declared.verdict.Verdict.TheVariants as verdict
use Rattle.amoebot_state.specs.Pairs.{CellChange, Triples, cell_of, cell_value, plain_patch}
use Rattle.amoebot_state.specs.Configs.{Config, IsValid, IsBot, frame, bot_at, covers, value, set_bot, has_values}
use Rattle.amoebot_state.specs.Zones.{Shown, zone, shown_alone}
use Rattle.amoebot_state.specs.Patches.{HasOldValues, IsPatched, IsOrdered}
use Rattle.amoebot_state.specs.Steps.{DecidesChange, IsLawful, IsLawfulPatch}
use Rattle.amoebot_state.proofs.ShownAlone.{alone_own}
use Rattle.amoebot_state.proofs.Members.{Contains-from_Has}
use Rattle.amoebot_state.proofs.Occupants.{occupant_same, id_below}
use Rattle.amoebot_state.proofs.Options.{there_is}
use Rattle.amoebot_state.proofs.Zones.{own_in_zone}

-- the amoebot with 1 in variable 0, and the patch that makes it so
abbrev pub marked_bot : Bot → Bot
marked_bot b = record b { mem = slice_set b.mem 0 1 }

abbrev pub marks : ℕ → Bot → Triples
marks i b = (name.Body i, cell.Body b, cell.Body (marked_bot b)) ∷ []

-- variable 0 is 0 and may be 1
abbrev pub may_mark : List ℕ → Bot → Bool
may_mark maxes b = nat_eq (slice_index b.mem 0) 0 && nat_le 1 (slice_index maxes 0)

-- the verdict on an amoebot, if it is there
abbrev pub marking_of : List ℕ → ℕ → Option Bot → Verdict
marking_of maxes i None = verdict.Idle
marking_of maxes i (Some b) =
    if may_mark maxes b
    then verdict.Change (record { action = 0; moved = moved.None; patch = marks i b })
    else verdict.Idle

-- and on what it is shown
abbrev pub marking : Shown → Verdict
marking s = marking_of s.maxes s.bot (bot_at (shown_alone s) s.bot)

-- the configuration in which it is so
abbrev after : Config → ℕ → Bot → Config
after c i b = set_bot c i (marked_bot b)

-- the value 1 fits where the maximum is not 0
fits : (maxes mem : List ℕ)
    → nat_le 1 (slice_index maxes 0) ≡ true
    → has_values maxes mem ≡ true
    → has_values maxes (slice_set mem 0 1) ≡ true
fits maxes [] le all = all
fits maxes (x ∷ mem) le all = and_from _ _ le (and_parts _ _ all).1

-- it changes a memory whose variable 0 is 0
other_memory : (mem : List ℕ) → length mem ≡ 8 → slice_index mem 0 ≡ 0 → mem ≡ slice_set mem 0 1 → ⊥
other_memory [] eight was e = absurd (omega arith)
other_memory (x ∷ mem) eight was e = let one : x ≡ 1 = ap (λ xs. slice_index xs 0) e in absurd (omega arith)

-- an amoebot that sets its variable
record Marking (c : Config) (i : ℕ) (b : Bot) : Type 0 where
  valid : IsValid c
  there : bot_at c i ≡ Some b
  was : slice_index b.mem 0 ≡ 0
  may : nat_le 1 (slice_index c.maxes 0) ≡ true

module _ (c : Config) (i : ℕ) (b : Bot) (m : Marking c i b) where
  -- what has each id then
  at_own : bot_at (after c i b) i ≡ Some (marked_bot b)
  at_own = get_or-set_same c.bots i (Some (marked_bot b)) None (id_below c i b m.there)

  at_other : (j : ℕ) → j ≢ i → bot_at (after c i b) j ≡ bot_at c j
  at_other j ne = get_or-set_other c.bots i j (Some (marked_bot b)) None ne

  -- nobody moves
  alike : (v : Node) (j : ℕ) → covers (bot_at (after c i b) j) v ≡ covers (bot_at c j) v
  alike v j = elim (cases_eq j i) [
    | inl e ↦ ap (λ o. covers o v) (ap (bot_at (after c i b)) e ∙ at_own)
        ∙ sym (ap (λ o. covers o v) (ap (bot_at c) e ∙ m.there))
    | inr ne ↦ ap (λ o. covers o v) (at_other j ne)
  ]

  after_valid : IsValid (after c i b)
  after_valid = record {
    area = m.valid.area;
    eight = m.valid.eight;
    rising = m.valid.rising;
    walled = m.valid.walled;
    each = λ j a e. elim (cases_eq j i) [
      | inl same ↦
          let was = m.valid.each i b m.there in
          subst (IsBot (frame c)) (same_Some _ _ (sym at_own ∙ ap (bot_at (after c i b)) (sym same) ∙ e))
          (record {
            head = was.head;
            tail = was.tail;
            head_open = was.head_open;
            tail_open = was.tail_open;
            close = was.close;
            rot = was.rot;
            values = fits c.maxes b.mem m.may was.values;
            eight = length-set b.mem 0 1 ∙ was.eight;
          })
      | inr ne ↦ m.valid.each j a (sym (at_other j ne) ∙ e)
    ];
    apart = λ j k v s t. m.valid.apart j k v (sym (alike v j) ∙ s) (sym (alike v k) ∙ t);
  }

  -- each other cell stays
  stays : (n : CellName) → n ≢ name.Body i → value (after c i b) n ≡ value c n
  stays (name.Spot v) ne =
      ap (λ o. Some (cell.Spot o)) (occupant_same (after c i b) c v after_valid m.valid (alike v))
  stays (name.Body j) ne = ap (option_map cell.Body) (at_other j (λ e. ne (ap name.Body e)))

  -- so the patch leads there
  patched : IsPatched c (plain_patch (marks i b)) (after c i b)
  patched = record {
    valid = after_valid;
    same = record {
      rest = refl;
      size = length-set c.bots i (Some (marked_bot b));
      ids = λ j. elim (cases_eq j i) [
        | inl e ↦ ap is_some (ap (bot_at (after c i b)) e ∙ at_own)
            ∙ sym (ap is_some (ap (bot_at c) e ∙ m.there))
        | inr ne ↦ ap is_some (at_other j ne)
      ];
    };
    given =
        let P : CellName × Cell → Type 0 = λ p. value (after c i b) p.0 ≡ Some p.1 in
        All-cons P (name.Body i, cell.Body (marked_bot b)) [] (ap (option_map cell.Body) at_own) (All-nil P);
    kept = λ n none.
        let P : CellName × Cell → Type 0 = λ p. p.0 ≢ n in
        stays n (λ e. All-head P (name.Body i, cell.Body (marked_bot b)) [] none (sym e));
  }

  -- it lists one cell, which differs and is in the zone,
  ordered : IsOrdered (plain_patch (marks i b))
  ordered zero lt = absurd (omega arith)
  ordered (suc k) lt = absurd (omega arith)

  differs : All (λ (p : CellName × Cell). value c (cell_of p) ≢ Some (cell_value p)) (plain_patch (marks i b))
  differs =
      let P : CellName × Cell → Type 0 = λ p. value c (cell_of p) ≢ Some (cell_value p) in
      All-cons P (name.Body i, cell.Body (marked_bot b)) []
      (λ same. other_memory b.mem (m.valid.each i b m.there).eight m.was
      (ap (λ (a : Bot). a.mem) (body_of (sym (ap (option_map cell.Body) m.there) ∙ same)))) (All-nil P)
    where
      body_of : {a d : Bot} → Some (cell.Body a) ≡ Some (cell.Body d) → a ≡ d
      body_of e = let f = same_Some _ _ e in cc

  touches : All (λ (p : CellName × Cell). Contains (zone c i) (cell_of p)) (plain_patch (marks i b))
  touches =
      let P : CellName × Cell → Type 0 = λ p. Contains (zone c i) p.0 in
      All-cons P (name.Body i, cell.Body (marked_bot b)) []
      (Contains-from_Has (zone c i) (own_in_zone c i b m.there)) (All-nil P)

  -- and its value before is the one found
  found : HasOldValues c (marks i b)
  found =
      let P : CellChange → Type 0 = λ t. value c t.0 ≡ Some t.1 in
      All-cons P (name.Body i, cell.Body b, cell.Body (marked_bot b))
      [] (ap (option_map cell.Body) m.there) (All-nil P)

  lawful : IsLawfulPatch c i (marks i b)
  lawful = record {
    touches = touches;
    leads = (after c i b, patched);
    ordered = ordered;
    differs = differs;
    found = found;
  }

-- where it decides a change, it may, and the change's patch is this one
change_is : (i : ℕ) (b : Bot) (t : Bool) (change : Change)
    → (if t then verdict.Change (record { action = 0; moved = moved.None; patch = marks i b })
    else verdict.Idle)
    ≡ verdict.Change change
    → (t ≡ true) × (marks i b ≡ change.patch)
change_is i b true change e = (refl, ap patch_of e)
  where
    patch_of : Verdict → Triples
    patch_of verdict.Idle = []
    patch_of (verdict.Failed f) = []
    patch_of (verdict.Change change) = change.patch
change_is i b false change e = absurd (cc)

-- a change of this decider
record IsMarking (c : Config) (i : ℕ) (change : Change) : Type 0 where
  bot : Bot
  by : Marking c i bot
  patch : marks i bot ≡ change.patch

is_marking : (c : Config) (i : ℕ) (change : Change) → DecidesChange marking c i change → IsMarking c i change
is_marking c i change changes =
    let own = there_is (bot_at c i) changes.there in
    let b = own.0 in
    let told = change_is i b (may_mark c.maxes b) change
    (sym (ap (marking_of c.maxes i) (alone_own c i b own.1)) ∙ changes.decided) in
    let parts = and_parts _ _ told.0 in
    record {
      bot = b;
      by = record { valid = changes.valid; there = own.1; was = eqb-true _ _ parts.0; may = parts.1 };
      patch = told.1;
    }

-- it keeps the laws of deciders
pub marking_is_lawful : IsLawful marking
marking_is_lawful c i change changes =
    let m = is_marking c i change changes in
    subst (IsLawfulPatch c i) m.patch (lawful c i m.bot m.by)
