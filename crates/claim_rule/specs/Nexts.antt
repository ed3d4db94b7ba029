-- That each step of a seat is its caller's next step of the machine,
-- or leaves the machine as it is.
use Rattle.std.specs.Prelude.{◌≡◌, ◌≢◌, ℕ, ◌+◌, ◌%◌, ◌^◌, ◌==◌, List, [], ◌∷◌, slice_index, bit_or}
use mathlib.Core.Option.{none, some}
use lib.ListN.{get_elem?}
use prog.Atomic.{either}
use Rattle.atomic_table.specs.Table.{Act, Valid, step, stepped, carried_after}
use Rattle.amoebot_state.specs.declared.verdict.Verdict.{Verdict}
use Rattle.amoebot_state.specs.Zones.{Shown}
use Rattle.claim_core.specs.Cells.{cells}
use Rattle.claim_core.specs.Machine.{State}
use Rattle.claim_core.specs.Soundness.{IsSetup, Sound}
use Rattle.claim_rule.specs.declared.views.Slot.{Slot}
use Rattle.claim_rule.specs.declared.views.Record.{Record}
use Rattle.claim_rule.specs.declared.views.Terms.{Terms}
use Rattle.claim_rule.specs.declared.views.View.{View}
use Rattle.claim_rule.specs.Words.{word_tag}
use Rattle.claim_rule.specs.Views.{Content, Seated, view_of, setup_of_terms}
use Rattle.claim_rule.specs.Manners.{CommitWay, by_journal, by_ticket, next_by}
use Rattle.claim_rule.specs.Stands.{Stands, KeepsRule, journal_slot}
use Rattle.claim_rule.specs.Plays.{IsToTry, IsToFree, IsToRead, Claims, Releases, ReadsLength}
use Rattle.claim_rule.specs.Plays.{IsToTryNode, IsToWin, IsToFreeNode, LooksAt, TriesNode, ReleasesNode}
use Rattle.claim_rule.specs.Commits.{Takes, IsToCommit, TriesJournal, stored, drew}

module _ {D : Type 0} (verdict : D → Shown → Verdict) (z : Terms D) (way : CommitWay) where
  -- Once x is put in the word i, the table stands for this state.
  -- It does so with some view of the seat and some act on slots,
  -- and the seat knows what the step tells.
  abbrev pub GoesTo : Content D → State → ℕ → ℕ → Seated D → (ℕ → Seated D → Type 0) → ℕ → Type 0
  GoesTo s later i seat me then x =
      (w : View D) × (a : Act Slot) × Valid s.homes me.1 a
      × Stands verdict z way (stepped s i x seat me.1 w a) later
      × then (slice_index s.words i) (w, carried_after me.1 a)

  -- Whatever view and act the seat has taken: if the rule is kept,
  -- and the seat knows what the step tells, then the table stands for that state.
  abbrev pub IsEachStep : Content D → State → ℕ → ℕ → Seated D → (ℕ → Seated D → Type 0) → ℕ → Type 0
  IsEachStep s later i seat me then x =
      (w : View D) (a : Act Slot)
      → KeepsRule verdict z way (stepped s i x seat me.1 w a)
      → then (slice_index s.words i) (w, carried_after me.1 a)
      → Stands verdict z way (stepped s i x seat me.1 w a) later

  -- so the step that is made leads to this state
  pub record LeadsTo (s : Content D) (later : State) (i seat : ℕ)
      (me : Seated D) (then : ℕ → Seated D → Type 0) (x : ℕ) : Type 0 where
    pub some : GoesTo s later i seat me then x
    pub each : IsEachStep s later i seat me then x

  -- a table that stands for a sound state, at which a seat has the record of one caller
  pub record IsAt (s : Content D) (core : State) (seat : ℕ) (r : Record) : Type 0 where
    pub run : IsSetup (setup_of_terms verdict z)
    pub sound : Sound (setup_of_terms verdict z) core
    pub stands : Stands verdict z way s core
    pub there : get_elem? s.views seat ≡ some (view_of z (r ∷ []))

  -- the state after the next step of a caller
  abbrev pub stepped_on : State → Record → State
  stepped_on core r = next_by way (setup_of_terms verdict z) r.number core

  -- the caller of a record makes its next step at the word i: it puts x there,
  -- and the seat knows what it tells
  abbrev pub MakesItsStep : Content D → State → ℕ → ℕ → Record
      → List (ℕ × Slot) → (ℕ → Seated D → Type 0) → ℕ → Type 0
  MakesItsStep s core i seat r out tells x =
      LeadsTo s (stepped_on core r) i seat (view_of z (r ∷ []), out) tells x

  -- a try to claim a slotted cell, which finds its word 0 and puts the tag, or leaves it
  abbrev pub ClaimIsNext : Type 0
  ClaimIsNext =
      (s : Content D) (core : State) (seat i t slots : ℕ) (r : Record) (out : List (ℕ × Slot))
      → IsAt s core seat r
      → IsToTry verdict way i t (view_of z (r ∷ []))
      → MakesItsStep s core i seat r out
      (Claims verdict way (step slots i 0 t none) (view_of z (r ∷ []), out))
      (either (slice_index s.words i == 0) t (slice_index s.words i))

  -- the release of a slotted cell that was won last, which puts 0
  abbrev pub ReleaseIsNext : Type 0
  ReleaseIsNext =
      (s : Content D) (core : State) (seat i slots : ℕ) (r : Record) (out : List (ℕ × Slot))
      → IsAt s core seat r
      → IsToFree verdict way i (view_of z (r ∷ []), out)
      → MakesItsStep s core i seat r out
      (λ _. Releases verdict (step slots i 0 0 none) (view_of z (r ∷ []), out) 0) 0

  -- a look at the word that tells the journal's length, which leaves it
  abbrev pub LookIsNext : Type 0
  LookIsNext =
      (s : Content D) (core : State) (seat slots : ℕ) (r : Record) (out : List (ℕ × Slot))
      → IsAt s core seat r
      → IsToRead r.caller.phase
      → MakesItsStep s core (cells z.world) seat r out
      (ReadsLength verdict way (step slots (cells z.world) 0 0 none) (view_of z (r ∷ []), out))
      (slice_index s.words (cells z.world))

-- the steps on the words of nodes and on the journal, which a caller takes before it commits
module _ {D : Type 0} (verdict : D → Shown → Verdict) (z : Terms D) where
  -- a look at the word of the node that is tried next: another's tag is the refusal of a claim,
  -- and a free word is noted, which is no step of the machine
  abbrev pub NodeLookIsNext : Type 0
  NodeLookIsNext =
      (s : Content D) (core : State) (seat i slots : ℕ) (r : Record) (out : List (ℕ × Slot))
      → IsAt verdict z by_journal s core seat r
      → IsToTryNode verdict i (view_of z (r ∷ []))
      → (let w : ℕ = slice_index s.words i in
      let tells : ℕ → Seated D → Type 0 = LooksAt verdict (step slots i 0 0 none) (view_of z (r ∷ []), out) in
      (word_tag w ≢ 0 → MakesItsStep verdict z by_journal s core i seat r out tells w)
      × (word_tag w ≡ 0 → LeadsTo verdict z by_journal s core i seat (view_of z (r ∷ []), out) tells w))

  -- a try to put the tag into the noted word of a node: where that is found, the node is won;
  -- another's tag is the refusal of a claim; and another free word is noted,
  -- which is no step of the machine
  abbrev pub NodeClaimIsNext : Type 0
  NodeClaimIsNext =
      (s : Content D) (core : State) (seat i old new slots : ℕ) (r : Record) (out : List (ℕ × Slot))
      → IsAt verdict z by_journal s core seat r
      → IsToWin verdict i old new (view_of z (r ∷ []))
      → (let w : ℕ = slice_index s.words i in
      let tells : ℕ → Seated D → Type 0 = TriesNode verdict
      (step slots i old new none) (view_of z (r ∷ []), out) in
      (w ≡ old → MakesItsStep verdict z by_journal s core i seat r out tells new)
      × (word_tag w ≢ 0 → MakesItsStep verdict z by_journal s core i seat r out tells w)
      × (word_tag w ≡ 0 → w ≢ old
      → LeadsTo verdict z by_journal s core i seat (view_of z (r ∷ []), out) tells w))

  -- the release of a node that was won last: one store of tag 0, the occupant and the stamp
  abbrev pub NodeReleaseIsNext : Type 0
  NodeReleaseIsNext =
      (s : Content D) (core : State) (seat i x slots : ℕ) (r : Record) (out : List (ℕ × Slot))
      → IsAt verdict z by_journal s core seat r
      → IsToFreeNode verdict i x (view_of z (r ∷ []))
      → MakesItsStep verdict z by_journal s core i seat r out
      (λ _. ReleasesNode verdict (step slots i x 0 none) (view_of z (r ∷ []), out) x) x

  -- a try to take the journal, which makes its word odd, or leaves it
  abbrev pub TakeIsNext : Type 0
  TakeIsNext =
      (s : Content D) (core : State) (seat slots : ℕ) (r : Record) (out : List (ℕ × Slot))
      → IsAt verdict z by_journal s core seat r
      → Takes r.caller.phase
      → MakesItsStep verdict z by_journal s core (cells z.world) seat r out
      (TriesJournal verdict (step slots (cells z.world) 1 0 none) (view_of z (r ∷ []), out))
      (bit_or (slice_index s.words (cells z.world)) 1)

  -- a commit, which puts twice the new length in the journal's word
  abbrev pub CommitIsNext : Type 0
  CommitIsNext =
      (s : Content D) (core : State) (seat x slots : ℕ) (r : Record) (out : List (ℕ × Slot))
      → IsAt verdict z by_journal s core seat r
      → IsToCommit verdict (journal_slot z.world) x (view_of z (r ∷ []), out)
      → MakesItsStep verdict z by_journal s core (cells z.world) seat r out
      (λ _. stored verdict (step slots (cells z.world) x 0 none) (view_of z (r ∷ []), out) x) x

  -- a commit that draws its place: the word of the length is one more
  abbrev pub DrawIsNext : Type 0
  DrawIsNext =
      (s : Content D) (core : State) (seat slots : ℕ) (r : Record) (out : List (ℕ × Slot))
      → IsAt verdict z by_ticket s core seat r
      → Takes r.caller.phase
      → MakesItsStep verdict z by_ticket s core (cells z.world) seat r out
      (drew verdict (step slots (cells z.world) 1 0 none) (view_of z (r ∷ []), out))
      ((slice_index s.words (cells z.world) + 1) % 2 ^ 64)
