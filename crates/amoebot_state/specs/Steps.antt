-- What a decider promises, and the steps and runs of the model: one activation after another.
-- Activations and their sequential runs are the paper's; deciders,
-- patches and what they promise are this project's profile.
use Rattle.std.specs.Prelude.{◌≡◌, ◌≢◌, ◌≤◌, ℕ, List, [], ◌∷◌, length, take, IsSome}
use Rattle.std.specs.List.{All, Contains}
use Rattle.std.specs.declared.option.Option.TheVariants.{Some}
use Rattle.amoebot_state.specs.declared.cell.CellName.{CellName}
use Rattle.amoebot_state.specs.declared.cell.Cell.{Cell}
use Rattle.amoebot_state.specs.declared.verdict.Verdict.{Verdict}
use Rattle.amoebot_state.specs.declared.verdict.Verdict.TheVariants as verdict
use Rattle.amoebot_state.specs.declared.verdict.Change.{Change}
use Rattle.amoebot_state.specs.declared.verdict.Entry.{Entry}
use Rattle.amoebot_state.specs.declared.verdict.PlainEntry.{PlainEntry}
use Rattle.amoebot_state.specs.Pairs.{Triples, cell_of, cell_value, plain_patch}
use Rattle.amoebot_state.specs.Configs.{Config, IsValid, bot_at, value}
use Rattle.amoebot_state.specs.Zones.{Shown, shown, zone}
use Rattle.amoebot_state.specs.Patches.{IsPatched, HasPatched, HasOldValues, IsOrdered}

-- f decides this change on what a valid configuration shows to an amoebot of its own
pub record DecidesChange (f : Shown → Verdict) (c : Config) (i : ℕ) (change : Change) : Type 0 where
  pub valid : IsValid c
  pub there : IsSome (bot_at c i)
  pub decided : f (shown c i) ≡ verdict.Change change

-- what a decider promises of a change on an amoebot of a configuration
pub record IsLawfulPatch (c : Config) (i : ℕ) (patch : Triples) : Type 0 where
  -- it touches cells of the zone alone
  pub touches : All (λ (p : CellName × Cell). Contains (zone c i) (cell_of p)) (plain_patch patch)
  -- it leads to a configuration
  pub leads : HasPatched c (plain_patch patch)
  -- it is in its order, and holds exactly the cells whose value differs:
  -- each that it lists differs, and that each other cell stays is a part of `IsPatched`
  pub ordered : IsOrdered (plain_patch patch)
  pub differs : All (λ (p : CellName × Cell). value c (cell_of p) ≢ Some (cell_value p)) (plain_patch patch)
  -- its old values are those found
  pub found : HasOldValues c patch

-- so it is with each change that f decides on what a valid configuration shows
abbrev pub IsLawful : (Shown → Verdict) → Type 0
IsLawful f =
    (c : Config) (i : ℕ) (change : Change) → DecidesChange f c i change → IsLawfulPatch c i change.patch

-- a patch touches cells of the zone alone
abbrev pub TouchesZone : (Shown → Verdict) → Type 0
TouchesZone f =
    (c : Config) (i : ℕ) (change : Change)
    → DecidesChange f c i change
    → All (λ (p : CellName × Cell). Contains (zone c i) (cell_of p)) (plain_patch change.patch)

-- each valid configuration that shows what was found has one that the patch leads to
abbrev pub HasPatchedWorld : (Shown → Verdict) → Type 0
HasPatchedWorld f =
    (c : Config) (i : ℕ) (change : Change) → DecidesChange f c i change
    → HasPatched c (plain_patch change.patch)

-- a patch is in its order, and each cell that it lists differs
abbrev pub ListsDifferences : (Shown → Verdict) → Type 0
ListsDifferences f =
    (c : Config) (i : ℕ) (change : Change)
    → DecidesChange f c i change
    → IsOrdered (plain_patch change.patch)
    × All (λ (p : CellName × Cell). value c (cell_of p) ≢ Some (cell_value p)) (plain_patch change.patch)

-- the old values of a patch are those found
abbrev pub OldValuesAreFound : (Shown → Verdict) → Type 0
OldValuesAreFound f =
    (c : Config) (i : ℕ) (change : Change) → DecidesChange f c i change → HasOldValues c change.patch

-- the change that an entry tells
abbrev pub change_of : Entry → Change
change_of e = record { action = e.action; moved = e.moved; patch = e.patch }

-- the entry of a change, with its caller, its turn and its amoebot
abbrev pub entry_of : ℕ → ℕ → ℕ → Change → Entry
entry_of caller turn bot change =
    record {
      caller = caller;
      turn = turn;
      bot = bot;
      action = change.action;
      moved = change.moved;
      patch = change.patch;
    }

-- an entry without the old values of its patch
abbrev pub plain_entry : Entry → PlainEntry
plain_entry e =
    record {
      caller = e.caller;
      turn = e.turn;
      bot = e.bot;
      action = e.action;
      moved = e.moved;
      patch = plain_patch e.patch;
    }

-- an activation of the model, whole in one step: f decides the entry's change on what the old
-- configuration shows to the entry's amoebot, which is there,
-- and the new values of its patch lead from the old configuration to the new one
pub record Step (f : Shown → Verdict) (old : Config) (e : Entry) (new : Config) : Type 0 where
  pub there : IsSome (bot_at old e.bot)
  pub decided : f (shown old e.bot) ≡ verdict.Change (change_of e)
  pub patched : IsPatched old (plain_patch e.patch) new

-- the entries, one after another, are steps that lead from old to last
abbrev pub Run : (Shown → Verdict) → Config → List Entry → Config → Type 0
Run f old [] last = last ≡ old
Run f old (e ∷ es) last = (mid : Config) × Step f old e mid × Run f mid es last

-- the world at a place of a journal: the one that so many of its entries lead to from the first
-- world, of which there is at most one
pub record IsWorldAt (f : Shown → Verdict) (first : Config)
    (entries : List Entry) (place : ℕ) (world : Config) : Type 0 where
  pub within : place ≤ length entries
  pub reached : Run f first (take place entries) world
