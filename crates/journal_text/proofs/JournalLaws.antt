-- The reader of a journal, with old values or without them, is a part for its grammar.
use Rattle.std.proofs.Common.{ℕ, Bool, true, false, List, Some, None, refl}
use Rattle.std.specs.Prelude.{codes, not, ◌||◌}
use Rattle.std.proofs.lemmas.Bool.{not-true}
use Rattle.text_tokens.specs.declared.token.TokenKind.TheVariants.{Word}
use Rattle.text_tokens.specs.Text.{Lexeme}
use Rattle.text_tokens.specs.Reading.{Reader, ◌>>=◌, pure, no_limit, less}
use Rattle.text_tokens.specs.Grammar.{Lang, Then, Made, Judged, Either, Limited, AtMost}
use Rattle.text_tokens.specs.Lawful.{Exact, IsPart, always, Starts, AreElements}
use Rattle.text_tokens.proofs.Exactness.{exact}
use Rattle.text_tokens.proofs.CarriedTexts.{part_made}
use Rattle.text_tokens.proofs.Parts.{part_nothing, part_judged}
use Rattle.text_tokens.proofs.StartsLemmas.{starts_judged, starts_either}
use Rattle.text_tokens.proofs.RepeatedLemmas.{at_most_elements, part_repeated}
use Rattle.text_tokens.proofs.LexemeLemmas.{other_text, starts_numeral, not_either}
use Rattle.text_tokens.proofs.JoinedParts.{one_behind, into, one_of_two, starts_behind, starts_into}
use Rattle.amoebot_state.specs.declared.bot.Port.{Port}
use Rattle.amoebot_state.specs.declared.cell.CellName.{CellName}
use Rattle.amoebot_state.specs.declared.cell.CellName.TheVariants as name
use Rattle.amoebot_state.specs.declared.cell.Cell.{Cell}
use Rattle.amoebot_state.specs.declared.cell.Cell.TheVariants as cell
use Rattle.amoebot_state.specs.declared.verdict.Moved.{Moved}
use Rattle.amoebot_state.specs.declared.verdict.Moved.TheVariants as moved
use Rattle.shape_text.specs.Parts.{word, is_end, one_more, IsWord, IsNumber, IsNode}
use Rattle.journal_text.specs.Journals.{IsPortBehind, IsEndBehind, IsMovedBy, IsContracted, IsMoved, is_spot_word, is_body_word, is_cell, IsCellText, IsOccupant, IsValueOf, IsOldValue, WrittenChange, written_change, IsPair, is_entry, numbers_of, AreNumbers, WrittenEntry, Written, written_entry, past_entries, IsEntryWord, IsWrittenEntry, entry_fault, IsEntryBy, AreEntriesBy, IsJournalOf, entry_by, IsJournal, plain_by, IsPlainJournal}
use Rattle.shape_text.specs.PartReaders.{a_word}
use Rattle.journal_text.specs.Readers.{port_behind, end_behind, moved_by, a_contraction, a_movement, a_cell, an_occupant, a_value, an_old_value, a_pair, pair_in, all_pairs, the_numbers, entry_word, a_written_entry, an_entry, entries_from, journal_by, journal, plain_journal}
use Rattle.shape_text.proofs.PartLaws.{up_to_end, starts_word, part_word, part_word_within, starts_word_within, part_number, starts_means, number_no_word, part_end, part_node, part_port, part_bot}

-- ---- movements

part_port_behind : (text : List ℕ) → IsPart (IsWord text) (a_word text) always → IsPart (IsPortBehind text) (port_behind text) always
unfolding port_behind
part_port_behind text w = one_behind w (λ line. part_port)

part_end_behind : (text : List ℕ) → IsPart (IsWord text) (a_word text) always → IsPart (IsEndBehind text) (end_behind text) always
unfolding end_behind
part_end_behind text w = one_behind w (λ line. part_end)

part_moved_by : (text : List ℕ) (make : Port → Moved) → IsPart (IsWord text) (a_word text) always → IsPart (IsMovedBy text make) (moved_by text make) always
part_moved_by text make w = into make (part_port_behind text w)

starts_moved_by : (text : List ℕ) (make : Port → Moved) → Starts (IsMovedBy text make) (word text) no_limit
starts_moved_by text make = starts_into make (starts_word text (λ line. part_port))

part_contraction : IsPart IsContracted a_contraction always
part_contraction = into moved.Contract (part_end_behind (codes "contract") (part_word (codes "contract") refl))

starts_contraction : Starts IsContracted (word (codes "contract")) no_limit
starts_contraction = starts_into moved.Contract (starts_word (codes "contract") (λ line. part_end))

abbrev by_push : Lexeme → Bool
by_push = word (codes "push")

abbrev by_pull : Lexeme → Bool
by_pull = word (codes "pull")

abbrev by_contract : Lexeme → Bool
by_contract = word (codes "contract")

abbrev by_expand : Lexeme → Bool
by_expand = word (codes "expand")

abbrev Pushed : Lang Moved
Pushed = IsMovedBy (codes "push") moved.Push

abbrev Pulled : Lang Moved
Pulled = IsMovedBy (codes "pull") moved.Pull

abbrev Expanded : Lang Moved
Expanded = IsMovedBy (codes "expand") moved.Expand

abbrev Last2 : Lang Moved
Last2 = Either Pushed Pulled

abbrev Last3 : Lang Moved
Last3 = Either IsContracted Last2

abbrev Last4 : Lang Moved
Last4 = Either Expanded Last3

starts_last2 : Starts Last2 (λ t. by_push t || by_pull t) no_limit
starts_last2 = starts_either Pushed Pulled by_push by_pull (starts_moved_by (codes "push") moved.Push) (starts_moved_by (codes "pull") moved.Pull)

starts_last3 : Starts Last3 (λ t. by_contract t || (by_push t || by_pull t)) no_limit
starts_last3 = starts_either IsContracted Last2 by_contract (λ t. by_push t || by_pull t) starts_contraction starts_last2

starts_last4 : Starts Last4 (λ t. by_expand t || (by_contract t || (by_push t || by_pull t))) no_limit
starts_last4 = starts_either Expanded Last3 by_expand (λ t. by_contract t || (by_push t || by_pull t)) (starts_moved_by (codes "expand") moved.Expand) starts_last3

part_movement : IsPart IsMoved a_movement always
unfolding a_movement
part_movement = one_of_two (starts_means (word (codes "none")) moved.None) starts_last4
    (λ t e. not_either by_expand (λ t. by_contract t || (by_push t || by_pull t)) (word (codes "none")) t (λ e. other_text Word (codes "expand") (codes "none") t refl e)
    (λ e. not_either by_contract (λ t. by_push t || by_pull t) (word (codes "none")) t (λ e. other_text Word (codes "contract") (codes "none") t refl e)
    (λ e. not_either by_push by_pull (word (codes "none")) t (λ e. other_text Word (codes "push") (codes "none") t refl e) (λ e. other_text Word (codes "pull") (codes "none") t refl e) e) e) e)
    (into (λ line. moved.None) (part_word (codes "none") refl))
    (one_of_two (starts_moved_by (codes "expand") moved.Expand) starts_last3
    (λ t e. not_either by_contract (λ t. by_push t || by_pull t) by_expand t (λ e. other_text Word (codes "contract") (codes "expand") t refl e)
    (λ e. not_either by_push by_pull by_expand t (λ e. other_text Word (codes "push") (codes "expand") t refl e) (λ e. other_text Word (codes "pull") (codes "expand") t refl e) e) e)
    (part_moved_by (codes "expand") moved.Expand (part_word (codes "expand") refl))
    (one_of_two starts_contraction starts_last2
    (λ t e. not_either by_push by_pull by_contract t (λ e. other_text Word (codes "push") (codes "contract") t refl e) (λ e. other_text Word (codes "pull") (codes "contract") t refl e) e)
    part_contraction
    (one_of_two (starts_moved_by (codes "push") moved.Push) (starts_moved_by (codes "pull") moved.Pull)
    (λ t e. other_text Word (codes "pull") (codes "push") t refl e)
    (part_moved_by (codes "push") moved.Push (part_word (codes "push") refl))
    (part_moved_by (codes "pull") moved.Pull (part_word (codes "pull") refl)))))

-- ---- pairs

abbrev SpotCell : Lang CellName
SpotCell = Then (IsWord (codes "spot")) (λ line. Made IsNode (λ v. name.Spot v))

abbrev BodyCell : Lang CellName
BodyCell = Then (IsWord (codes "body")) (λ line. Made IsNumber (λ id. name.Body id))

starts_spot : Starts SpotCell is_spot_word no_limit
starts_spot = starts_word (codes "spot") (λ line. into (λ v. name.Spot v) part_node)

starts_body : Starts BodyCell is_body_word no_limit
starts_body = starts_word (codes "body") (λ line. into (λ id. name.Body id) part_number)

pub part_cell : IsPart IsCellText a_cell always
unfolding a_cell
part_cell = one_of_two starts_spot starts_body
    (λ t e. other_text Word (codes "body") (codes "spot") t refl e)
    (one_behind (part_word (codes "spot") refl) (λ line. into (λ v. name.Spot v) part_node))
    (one_behind (part_word (codes "body") refl) (λ line. into (λ id. name.Body id) part_number))

starts_cell : Starts IsCellText is_cell no_limit
starts_cell = starts_either SpotCell BodyCell is_spot_word is_body_word starts_spot starts_body

part_occupant : IsPart IsOccupant an_occupant always
unfolding an_occupant
part_occupant = one_of_two (starts_means (word (codes "empty")) (cell.Spot None)) (starts_into (λ id. cell.Spot (Some id)) (starts_numeral no_limit))
    (λ t e. number_no_word (codes "empty") t e)
    (into (λ line. cell.Spot None) (part_word (codes "empty") refl))
    (into (λ id. cell.Spot (Some id)) part_number)

part_old_value : (old : Bool) {P : Lang Cell} {p : Reader Cell} → IsPart P p always → IsPart (IsOldValue old P) (an_old_value old p) always
unfolding an_old_value
part_old_value false part = part_nothing None
part_old_value true part = one_behind part (λ x. into (λ line. Some x) (part_word (codes "to") refl))

module _ (old : Bool) (vars : ℕ) where
  part_value : (c : CellName) → IsPart (IsValueOf vars c) (a_value vars c) always
  unfolding a_value
  part_value (name.Spot v) = part_occupant
  part_value (name.Body id) = into (λ b. cell.Body b) (part_bot vars)

  abbrev ValuesOf : CellName → Lang WrittenChange
  ValuesOf c = Then (IsOldValue old (IsValueOf vars c)) (λ before. Made (IsValueOf vars c) (λ x. written_change c before x))

  abbrev the_values : CellName → Reader WrittenChange
  the_values c = an_old_value old (a_value vars c) >>= λ before. a_value vars c >>= λ x. pure (written_change c before x)

  part_values : (c : CellName) → IsPart (ValuesOf c) (the_values c) always
  part_values c = one_behind (part_old_value old (part_value c)) (λ before. into (λ x. written_change c before x) (part_value c))

  part_pair : IsPart (IsPair old vars) (a_pair old vars) always
  unfolding a_pair
  part_pair = one_behind part_cell part_values

  starts_pair : Starts (IsPair old vars) is_cell no_limit
  starts_pair = starts_behind starts_cell part_values

  abbrev pub PairIn : ℕ → Lang WrittenChange
  PairIn room = Limited (IsPair old vars) room

  -- nothing but a pair goes on behind the pairs of an entry
  pub no_pair : Lexeme → Bool
  no_pair t = not (is_cell t)

  pub pair_elements : AreElements PairIn (pair_in old vars) is_cell always no_pair
  unfolding no_pair
  pair_elements = at_most_elements (IsPair old vars) (a_pair old vars) is_cell no_limit always no_pair starts_pair part_pair (λ t e. refl) (λ t e. refl) (λ t e. not-true (is_cell t) e)

  part_pairs : IsPart (AtMost 10 (IsPair old vars)) (all_pairs old vars) no_pair
  unfolding all_pairs
  part_pairs = part_repeated PairIn (pair_in old vars) (λ room a. less room) is_cell always no_pair pair_elements 10

  -- ---- entries

  part_numbers : IsPart AreNumbers the_numbers always
  unfolding the_numbers
  part_numbers = one_behind part_number (λ place. one_behind part_number (λ caller. one_behind part_number (λ turn. one_behind part_number (λ bot. into (λ action. numbers_of place caller turn bot action) part_number))))

  abbrev pub BehindWord : ℕ → Lang Written
  BehindWord line = Then AreNumbers (λ n. Then IsMoved (λ m. Made (AtMost 10 (IsPair old vars)) (λ pairs. written_entry line n m pairs)))

  abbrev behind_word : ℕ → Reader Written
  behind_word line = the_numbers >>= λ n. a_movement >>= λ m. all_pairs old vars >>= λ pairs. pure (written_entry line n m pairs)

  part_behind_word : (line : ℕ) → IsPart (BehindWord line) (behind_word line) no_pair
  part_behind_word line = one_behind part_numbers (λ n. one_behind part_movement (λ m. into (λ pairs. written_entry line n m pairs) part_pairs))

  part_entry_word : (before : ℕ) → IsPart (IsEntryWord before) (entry_word before) always
  unfolding entry_word
  part_entry_word before = part_word_within (codes "entry") (past_entries before) refl

  part_written : (before : ℕ) → IsPart (IsWrittenEntry old vars before) (a_written_entry old vars before) no_pair
  unfolding a_written_entry
  part_written before = one_behind (part_entry_word before) part_behind_word

  starts_written : (before : ℕ) → Starts (IsWrittenEntry old vars before) is_entry (past_entries before)
  starts_written before = starts_behind (starts_word_within (codes "entry") (past_entries before)) part_behind_word

  module _ {E : Type 0} (make : WrittenEntry → E) (bots actions : ℕ) where
    abbrev EntryIn : ℕ → Lang E
    EntryIn = IsEntryBy old make bots actions vars

    abbrev entry_in : ℕ → Reader E
    entry_in = an_entry old make bots actions vars

    part_entry : (before : ℕ) → IsPart (EntryIn before) (entry_in before) no_pair
    unfolding an_entry
    part_entry before = part_made (Judged (IsWrittenEntry old vars before) (entry_fault bots actions before)) (λ w. make w.entry) _ no_pair (part_judged (IsWrittenEntry old vars before) (a_written_entry old vars before) (entry_fault bots actions before) no_pair (part_written before))

    pub entry_elements : AreElements EntryIn entry_in is_entry no_pair is_end
    unfolding no_pair
    entry_elements = record {
      over = past_entries;
      start = λ before. starts_into (λ w. make w.entry) (starts_judged (IsWrittenEntry old vars before) (entry_fault bots actions before) is_entry (past_entries before) (starts_written before));
      part = part_entry;
      again = λ t e. rw (other_text Word (codes "entry") (codes "spot") t refl e, other_text Word (codes "entry") (codes "body") t refl e) refl;
      ends = λ t e. rw (other_text Word (codes "end") (codes "spot") t refl e, other_text Word (codes "end") (codes "body") t refl e) refl;
      differ = λ t e. other_text Word (codes "end") (codes "entry") t refl e;
    }

    part_entries : (before : ℕ) → IsPart (AreEntriesBy old make bots actions vars before) (entries_from old make bots actions vars before) is_end
    unfolding entries_from
    part_entries before = part_repeated EntryIn entry_in one_more is_entry no_pair is_end entry_elements before

-- ---- the section

module _ {E : Type 0} (old : Bool) (make : WrittenEntry → E) (bots actions vars : ℕ) where
  pub part_journal_of : IsPart (IsJournalOf old make bots actions vars) (journal_by old make bots actions vars) always
  unfolding journal_by
  part_journal_of = one_behind (part_word (codes "journal") refl) (λ line. up_to_end (part_entries old vars make bots actions 0))

  pub exact_journal_of : Exact (IsJournalOf old make bots actions vars) (journal_by old make bots actions vars)
  exact_journal_of = exact (IsJournalOf old make bots actions vars) (journal_by old make bots actions vars) part_journal_of.law

  pub exact_entries : (before : ℕ) → Exact (AreEntriesBy old make bots actions vars before) (entries_from old make bots actions vars before)
  exact_entries before = exact (AreEntriesBy old make bots actions vars before) (entries_from old make bots actions vars before) (part_entries old vars make bots actions before).law

pub exact_journal : (bots actions vars : ℕ) → Exact (IsJournal bots actions vars) (journal bots actions vars)
exact_journal = exact_journal_of true entry_by

pub exact_plain_journal : (bots actions vars : ℕ) → Exact (IsPlainJournal bots actions vars) (plain_journal bots actions vars)
exact_plain_journal = exact_journal_of false plain_by
