-- The reader of turns is a part for its grammar.
use Rattle.std.proofs.Common.{◌≡◌, ℕ, Bool, true, List, refl}
use Rattle.std.specs.Prelude.{codes, ◌||◌}
use Rattle.text_tokens.specs.declared.token.TokenKind.TheVariants.{Word}
use Rattle.text_tokens.specs.Text.{Lexeme}
use Rattle.text_tokens.specs.Cursor.{same_kind}
use Rattle.text_tokens.specs.Reading.{◌>>=◌, the_line, no_limit}
use Rattle.text_tokens.specs.Grammar.{Lang, IsThe, Then, Either}
use Rattle.text_tokens.specs.Lawful.{Exact, IsPart, always, Starts, AreElements}
use Rattle.text_tokens.proofs.Exactness.{exact}
use Rattle.text_tokens.proofs.Parts.{part_the}
use Rattle.text_tokens.proofs.StartsLemmas.{starts_either}
use Rattle.text_tokens.proofs.RepeatedLemmas.{part_repeated}
use Rattle.text_tokens.proofs.LexemeLemmas.{passing, other_text, not_either}
use Rattle.text_tokens.proofs.JoinedParts.{one_behind, into, one_of_two}
use Rattle.amoebot_state.specs.declared.verdict.Failure.TheVariants as failure
use Rattle.shape_text.specs.Parts.{word, is_end, IsWord, IsNumber}
use Rattle.journal_text.specs.Journals.{IsCellText}
use Rattle.journal_text.specs.Turns.{Nothing, Unheeded, is_failure, IsPlacedMark, IsFailed, IsClaimant, IsBusy, IsMark, is_turn, IsTurnLine, as_before, AreTurns, IsTurns}
use Rattle.shape_text.specs.PartReaders.{a_word, a_number}
use Rattle.journal_text.specs.Readers.{unheeded, placed_mark, a_cell, a_failed, a_claimant, a_busy, a_mark, a_turn, turn_in, all_turn_lines, the_turns}
use Rattle.shape_text.proofs.PartLaws.{up_to_end, starts_word, part_word, part_number}
use Rattle.journal_text.proofs.JournalLaws.{part_cell}
use Rattle.journal_text.proofs.FailureWords.{failure_named}

part_unheeded : IsPart (Unheeded IsNumber) (unheeded a_number) always
part_unheeded = into (λ n. tt) part_number

part_placed : (text : List ℕ) → IsPart (IsWord text) (a_word text) always → IsPart (IsPlacedMark text) (placed_mark text) always
unfolding placed_mark
part_placed text w = one_behind w (λ line. part_unheeded)

starts_placed : (text : List ℕ) → Starts (IsPlacedMark text) (word text) no_limit
starts_placed text = starts_word text (λ line. part_unheeded)

passes_failure : (version : ℕ) → is_failure version (passing Word (codes "edge")) ≡ true
unfolding same_kind
passes_failure version = failure_named version failure.Edge (λ none e. absurd cc)

part_behind_failed : (version : ℕ) → IsPart (Then (IsThe (is_failure version)) (λ line. Unheeded IsNumber)) (the_line (is_failure version) >>= λ line. unheeded a_number) always
part_behind_failed version = one_behind (part_the (is_failure version) (passing Word (codes "edge")) (passes_failure version)) (λ line. part_unheeded)

part_failed : (version : ℕ) → IsPart (IsFailed version) (a_failed version) always
unfolding a_failed
part_failed version = one_behind (part_word (codes "failed") refl) (λ line. part_behind_failed version)

starts_failed : (version : ℕ) → Starts (IsFailed version) (word (codes "failed")) no_limit
starts_failed version = starts_word (codes "failed") (λ line. part_behind_failed version)

part_claimant : IsPart IsClaimant a_claimant always
unfolding a_claimant
part_claimant = one_behind (part_word (codes "by") refl) (λ line. one_behind part_number (λ caller. one_behind part_number (λ turn. part_unheeded)))

part_behind_busy : IsPart (Then IsCellText (λ c. Then IsClaimant (λ u. IsPlacedMark (codes "place")))) (a_cell >>= λ c. a_claimant >>= λ u. placed_mark (codes "place")) always
part_behind_busy = one_behind part_cell (λ c. one_behind part_claimant (λ u. part_placed (codes "place") (part_word (codes "place") refl)))

part_busy : IsPart IsBusy a_busy always
unfolding a_busy
part_busy = one_behind (part_word (codes "busy") refl) (λ line. part_behind_busy)

starts_busy : Starts IsBusy (word (codes "busy")) no_limit
starts_busy = starts_word (codes "busy") (λ line. part_behind_busy)

abbrev by_done : Lexeme → Bool
by_done = word (codes "done")

abbrev by_idle : Lexeme → Bool
by_idle = word (codes "idle")

abbrev by_failed : Lexeme → Bool
by_failed = word (codes "failed")

abbrev by_busy : Lexeme → Bool
by_busy = word (codes "busy")

abbrev Last2 : ℕ → Lang Nothing
Last2 version = Either (IsFailed version) IsBusy

abbrev Last3 : ℕ → Lang Nothing
Last3 version = Either (IsPlacedMark (codes "idle")) (Last2 version)

starts_last2 : (version : ℕ) → Starts (Last2 version) (λ t. by_failed t || by_busy t) no_limit
starts_last2 version = starts_either (IsFailed version) IsBusy by_failed by_busy (starts_failed version) starts_busy

starts_last3 : (version : ℕ) → Starts (Last3 version) (λ t. by_idle t || (by_failed t || by_busy t)) no_limit
starts_last3 version = starts_either (IsPlacedMark (codes "idle")) (Last2 version) by_idle (λ t. by_failed t || by_busy t) (starts_placed (codes "idle")) (starts_last2 version)

part_mark : (version : ℕ) → IsPart (IsMark version) (a_mark version) always
unfolding a_mark
part_mark version = one_of_two (starts_placed (codes "done")) (starts_last3 version)
    (λ t e. not_either by_idle (λ t. by_failed t || by_busy t) by_done t (λ e. other_text Word (codes "idle") (codes "done") t refl e)
    (λ e. not_either by_failed by_busy by_done t (λ e. other_text Word (codes "failed") (codes "done") t refl e) (λ e. other_text Word (codes "busy") (codes "done") t refl e) e) e)
    (part_placed (codes "done") (part_word (codes "done") refl))
    (one_of_two (starts_placed (codes "idle")) (starts_last2 version)
    (λ t e. not_either by_failed by_busy by_idle t (λ e. other_text Word (codes "failed") (codes "idle") t refl e) (λ e. other_text Word (codes "busy") (codes "idle") t refl e) e)
    (part_placed (codes "idle") (part_word (codes "idle") refl))
    (one_of_two (starts_failed version) starts_busy
    (λ t e. other_text Word (codes "busy") (codes "failed") t refl e)
    (part_failed version) part_busy))

-- ---- the section

part_behind_turn : (version : ℕ) → IsPart (Then IsNumber (λ caller. Then IsNumber (λ turn. IsMark version))) (a_number >>= λ caller. a_number >>= λ turn. a_mark version) always
part_behind_turn version = one_behind part_number (λ caller. one_behind part_number (λ turn. part_mark version))

part_turn : (version : ℕ) → IsPart (IsTurnLine version) (a_turn version) always
unfolding a_turn
part_turn version = one_behind (part_word (codes "turn") refl) (λ line. part_behind_turn version)

starts_turn : (version : ℕ) → Starts (IsTurnLine version) is_turn no_limit
starts_turn version = starts_word (codes "turn") (λ line. part_behind_turn version)

abbrev pub TurnIn : ℕ → Nothing → Lang Nothing
TurnIn version s = IsTurnLine version

pub turn_elements : (version : ℕ) → AreElements (TurnIn version) (turn_in version) is_turn always is_end
turn_elements version = record {
  over = λ s. no_limit;
  start = λ s. starts_turn version;
  part = λ s. part_turn version;
  again = λ t e. refl;
  ends = λ t e. refl;
  differ = λ t e. other_text Word (codes "end") (codes "turn") t refl e;
}

part_turns : (version : ℕ) → IsPart (AreTurns version) (all_turn_lines version) is_end
unfolding all_turn_lines
part_turns version = part_repeated (TurnIn version) (turn_in version) as_before is_turn always is_end (turn_elements version) tt

pub part_the_turns : (version : ℕ) → IsPart (IsTurns version) (the_turns version) always
unfolding the_turns
part_the_turns version = one_behind (part_word (codes "turns") refl) (λ line. up_to_end (into (λ ts. tt) (part_turns version)))

pub exact_turns : (version : ℕ) → Exact (IsTurns version) (the_turns version)
exact_turns version = exact (IsTurns version) (the_turns version) (part_the_turns version).law
