-- Support of tests, and no part of the model: deciders that mark an amoebot if so many
-- of the others that it is shown have a value, with the proofs that they keep the laws of deciders.
use Rattle.std.proofs.Common.{◌≡◌, ◌&&◌, ℕ, Bool, true, false, not, nat_eq}
use Rattle.std.specs.Prelude.{nat_le, slice_index, if◌then◌else◌}
use Rattle.std.specs.List.{count_by}
use Rattle.amoebot_state.specs.declared.cell.CellName.{CellName}
use Rattle.amoebot_state.specs.declared.cell.CellName.TheVariants as name
use Rattle.amoebot_state.specs.declared.cell.Cell.{Cell}
use Rattle.amoebot_state.specs.declared.cell.Cell.TheVariants as cell
use Rattle.amoebot_state.specs.declared.verdict.Change.{Change}
use Rattle.amoebot_state.specs.declared.verdict.Verdict.{Verdict}
use Rattle.amoebot_state.specs.declared.verdict.Verdict.TheVariants as verdict
use Rattle.amoebot_state.specs.Configs.{Config}
use Rattle.amoebot_state.specs.Zones.{Shown}
use Rattle.amoebot_state.specs.Steps.{DecidesChange, IsLawful}
use Rattle.small_worlds.specs.Marking.{marking, marking_is_lawful}

-- the cell is another amoebot, with this value in variable 0
abbrev pub is_other_with : ℕ → ℕ → CellName × Cell → Bool
is_other_with i v (name.Body j, cell.Body b) = not (nat_eq j i) && nat_eq (slice_index b.mem 0) v
is_other_with i v (name.Body j, cell.Spot o) = false
is_other_with i v (name.Spot u, x) = false

-- how many others have it
abbrev pub others_with : ℕ → Shown → ℕ
others_with v s = count_by (is_other_with s.bot v) s.cells

-- marks where at least and at most so many others have the value
abbrev pub choosing : ℕ → ℕ → ℕ → Shown → Verdict
choosing v least most s =
    if nat_le least (others_with v s) && nat_le (others_with v s) most then marking s else verdict.Idle

-- what is decided is what the marker decides
then_decided : (t : Bool) (v : Verdict) (change : Change)
    → (if t then v else verdict.Idle) ≡ verdict.Change change
    → v ≡ verdict.Change change
then_decided true v change e = e
then_decided false v change e = absurd (cc)

chosen : (v least most : ℕ) (c : Config) (i : ℕ) (change : Change)
    → DecidesChange (choosing v least most) c i change
    → DecidesChange marking c i change
chosen v least most c i change h = record {
  valid = h.valid;
  there = h.there;
  decided = then_decided _ _ change h.decided;
}

pub choosing_is_lawful : (v least most : ℕ) → IsLawful (choosing v least most)
choosing_is_lawful v least most c i change h = marking_is_lawful c i change (chosen v least most c i change h)
