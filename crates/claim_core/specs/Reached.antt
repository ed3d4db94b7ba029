-- What a report says of the state that callers have ended in.
use Rattle.std.specs.Prelude.{◌≡◌, ℕ, ◌+◌, List, [], ◌∷◌, nat_eq, if◌then◌else◌}
use Rattle.std.specs.List.{All}
use Rattle.amoebot_state.specs.declared.verdict.Entry.{Entry}
use Rattle.amoebot_state.specs.Configs.{Config}
use Rattle.amoebot_state.specs.Zones.{shown}
use Rattle.amoebot_state.specs.Patches.{HasSameIds}
use Rattle.claim_core.specs.declared.report.Report.{Report}
use Rattle.claim_core.specs.declared.state.Phase.TheVariants.{Ended}
use Rattle.claim_core.specs.declared.state.Caller.{Caller}
use Rattle.claim_core.specs.declared.state.Committed.{Committed}
use Rattle.amoebot_state.specs.Steps.{IsWorldAt}
use Rattle.claim_core.specs.Cells.{values_of}
use Rattle.claim_core.specs.Machine.{Setup, State, after}
use Rattle.claim_core.specs.Soundness.{marks_so_far}

-- all callers have ended
abbrev pub HaveEnded : State → Type 0
HaveEnded s = All (λ (k : Caller). k.phase ≡ Ended) s.callers

-- the configuration has the area, the maxima and the ids of the first one,
-- and its cells have these values
pub record HasValues (g : Setup) (s : State) (world : Config) : Type 0 where
  pub same : HasSameIds g.world world
  pub values : values_of world ≡ s.values

-- the report has the first world, and the state's journal, values and marks
pub record IsReportOf (g : Setup) (s : State) (report : Report) : Type 0 where
  pub first : report.journal.first ≡ g.world
  pub entries : report.journal.entries ≡ s.journal
  pub world : HasValues g s report.world
  pub marks : report.turns ≡ marks_so_far g s

-- steps of the callers, the last one first, lead from the opening to the state
pub record IsReachedState (g : Setup) (s : State) : Type 0 where
  pub steps : List ℕ
  pub led : s ≡ after g steps

-- a report that some interleaving gives: steps of the callers, the last one first,
-- lead from the opening to a state in which every caller has ended, and the report is that state's.
-- A step of a number that is no caller's changes nothing
pub record Reached (g : Setup) (report : Report) : Type 0 where
  pub steps : List ℕ
  pub ended : HaveEnded (after g steps)
  pub left : IsReportOf g (after g steps) report

-- the entries of a caller, each with its place, where the first one stands at this place
abbrev pub entries_of : ℕ → ℕ → List Entry → List (ℕ × Entry)
entries_of c place [] = []
entries_of c place (e ∷ es) =
    if nat_eq e.caller c then (place, e) ∷ entries_of c (place + 1) es else entries_of c (place + 1) es

-- an entry with its place
abbrev pub placed : Committed → ℕ × Entry
placed p = (p.place, p.entry)

-- what was found for an entry is what the run shows its amoebot at its place
abbrev pub IsShownAt : Setup → List Entry → Committed → Type 0
IsShownAt g journal p =
    (world : Config) × IsWorldAt g.verdict g.world journal p.place world × (p.found ≡ shown world p.entry.bot)
