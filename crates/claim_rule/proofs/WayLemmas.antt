-- What holds of both ways of committing.
use Rattle.std.proofs.Common.{◌≡◌, ℕ, ◌+◌, ◌*◌, ◌/◌, ◌<◌, ◌≤◌, List, [], ◌∷◌, Option, Some, None, ap, sym, refl, ◌∙◌, arith, true, false}
use Rattle.std.specs.Prelude.{slice_get, unwrap_or}
use Rattle.std.proofs.lemmas.Bool.{false≢true}
use Rattle.std.proofs.lemmas.Option.{none-some, same_Some}
use Rattle.std.specs.Option.{option_len}
use Rattle.tri_lattice.specs.declared.node.Node.{Node}
use Rattle.tri_lattice.proofs.Boxes.{index_below}
use Rattle.amoebot_state.specs.declared.cell.CellName.{CellName}
use Rattle.amoebot_state.specs.declared.cell.CellName.TheVariants as name
use Rattle.amoebot_state.specs.Configs.{Config}
use Rattle.claim_core.specs.declared.state.Caller.{Caller}
use Rattle.claim_core.specs.declared.state.Phase.{Phase}
use Rattle.claim_core.specs.declared.state.Phase.TheVariants.{Claim, Refusing, Looking, Taking, Committing, Releasing, Ended}
use Rattle.claim_core.specs.Cells.{number, cells}
use Rattle.claim_core.specs.Machine.{Setup, State, by_phase, acts, opening}
use Rattle.claim_core.specs.Soundness.{IsSetup, Sound}
use Rattle.claim_core.proofs.Sounds.{always, one_step}
use Rattle.claim_core.proofs.Unfolding.{ticket_sound, tickets_are_sound}
use Rattle.claim_core.specs.Tickets.{ticket_by_phase, ticket_acts}
use Rattle.claim_rule.specs.Manners.{CommitWay, by_journal, by_ticket, next_by, after_by, length_word, length_in, first_slotted, has_slot, slot_of, slot_count}

-- a step that both ways make alike
abbrev pub IsShared : Phase → Type 0
IsShared Claim = Unit {0}
IsShared (Refusing n t) = Unit {0}
IsShared (Looking l) = Unit {0}
IsShared (Taking change) = ⊥
IsShared (Committing change) = ⊥
IsShared Releasing = Unit {0}
IsShared Ended = Unit {0}

-- by tickets nobody holds the journal
abbrev pub NobodyHolds : CommitWay → State → Type 0
NobodyHolds by_journal s = Unit {0}
NobodyHolds by_ticket s = s.holder ≡ None

module _ (g : Setup) where
  -- after no step it is the opening
  pub after_none : (way : CommitWay) → after_by way g [] ≡ opening g
  after_none by_journal = refl
  after_none by_ticket = refl

  -- a step more stands first
  pub after_more : (way : CommitWay) (c : ℕ) (steps : List ℕ) → after_by way g (c ∷ steps) ≡ next_by way g c (after_by way g steps)
  after_more by_journal c steps = refl
  after_more by_ticket c steps = refl

  pub sound_by : (way : CommitWay) → IsSetup g → (steps : List ℕ) → Sound g (after_by way g steps)
  sound_by by_journal ok steps = always g ok steps
  sound_by by_ticket ok steps = tickets_are_sound g ok steps

  pub on_by : (way : CommitWay) → IsSetup g → (c : ℕ) (s : State) → NobodyHolds way s → Sound g s → Sound g (next_by way g c s)
  on_by by_journal ok c s nobody sound = one_step g ok s sound c
  on_by by_ticket ok c s nobody sound = ticket_sound g ok c s nobody sound

  pub shared_by : (way : CommitWay) (c : ℕ) (s : State) (k : Caller) (p : Phase) → slice_get s.callers c ≡ Some k → k.phase ≡ p → IsShared p → next_by way g c s ≡ by_phase g c s k p
  shared_by by_journal c s k p there e is = ap (acts g c s) there ∙ ap (by_phase g c s k) e
  shared_by by_ticket c s k p there e is = ap (ticket_acts g c s) there ∙ ap (ticket_by_phase g c s k) e ∙ by p is
    where
      by : (q : Phase) → IsShared q → ticket_by_phase g c s k q ≡ by_phase g c s k q
      by Claim is = refl
      by (Refusing n t) is = refl
      by (Looking l) is = refl
      by (Taking change) is = absurd is
      by (Committing change) is = absurd is
      by Releasing is = refl
      by Ended is = refl

-- half of the journal's word is its length
half : (n : ℕ) (o : Option ℕ) → (2 * n + option_len o) / 2 ≡ n
half n None = omega arith
half n (Some c) = omega arith

-- the length is what the word of the length tells
pub length_is : (way : CommitWay) (n : ℕ) (o : Option ℕ) → length_in way (length_word way n o) ≡ n
length_is by_journal n o = half n o
length_is by_ticket n o = refl

-- a slotted cell's slot is counted from the first of them on
pub slot_is : (way : CommitWay) (c : Config) (n : CellName) (i : ℕ) → number c.area n ≡ Some i → first_slotted way c ≤ i → first_slotted way c + slot_of way c.area n ≡ i
slot_is by_journal c (name.Spot v) i e le = (let lt = index_below c.area v i e in absurd (omega (arith, lt, le)))
slot_is by_journal c (name.Body b) i e le = same_Some (first_slotted by_journal c + b) i e
slot_is by_ticket c n i e le = (let f = by (number c.area n) e in omega (arith, f))
  where
    by : (o : Option ℕ) → o ≡ Some i → unwrap_or o 0 ≡ i
    by None f = absurd (none-some i f)
    by (Some k) f = same_Some k i f

-- and there is a slot for each slotted cell
pub slot_few : (way : CommitWay) (c : Config) (k : ℕ) → first_slotted way c + k < cells c → k < slot_count way c
slot_few by_journal c k lt = omega (arith, lt)
slot_few by_ticket c k lt = omega (arith, lt)

-- the slotted cells are behind the nodes
pub slotted_few : (way : CommitWay) (c : Config) → first_slotted way c ≤ cells c
slotted_few by_journal c = omega arith
slotted_few by_ticket c = omega arith

-- a cell without a slot is a node with a word of its own kind, and such words are there by journal alone
pub words_of_nodes : (way : CommitWay) (n : CellName) → has_slot way n ≡ false → way ≡ by_journal
words_of_nodes by_journal n none = refl
words_of_nodes by_ticket n none = absurd (false≢true (sym none))

pub body_has_slot : (way : CommitWay) (i : ℕ) → has_slot way (name.Body i) ≡ true
body_has_slot by_journal i = refl
body_has_slot by_ticket i = refl

pub node_of : (way : CommitWay) (n : CellName) → has_slot way n ≡ false → (v : Node) × (n ≡ name.Spot v)
node_of by_journal (name.Spot v) none = (v, refl)
node_of by_journal (name.Body i) none = absurd (false≢true (sym none))
node_of by_ticket n none = absurd (false≢true (sym none))
