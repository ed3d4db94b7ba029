-- The text of marks is read as turns.
use Rattle.std.proofs.Common.{◌≡◌, ℕ, ◌+◌, ◌≤◌, true, List, [], ◌∷◌, ◌++◌, length, map, codes, refl, ap, ◌∙◌, arith}
use Rattle.std.specs.Prelude.{decimal}
use Rattle.std.specs.List.{All, flat_map, enumerate_from}
use Rattle.std.proofs.lemmas.List.Elements.{All-head, All-tail}
use Rattle.text_tokens.specs.declared.token.TokenKind.TheVariants.{Word}
use Rattle.text_tokens.specs.Text.{Lexeme}
use Rattle.text_tokens.specs.Cursor.{is_kind, IsShort}
use Rattle.text_tokens.specs.Lines.{Words}
use Rattle.text_tokens.specs.Grammar.{IsThe, no_more}
use Rattle.amoebot_state.specs.declared.cell.CellName.{CellName}
use Rattle.amoebot_state.specs.declared.cell.CellName.TheVariants as name
use Rattle.amoebot_state.specs.declared.verdict.Failure.{Failure}
use Rattle.claim_core.specs.Turns.{MarkLists}
use Rattle.claim_core.specs.declared.marks.Mark.{Mark}
use Rattle.claim_core.specs.declared.marks.Mark.TheVariants as mark
use Rattle.shape_text.specs.Parts.{IsWord, IsNumber}
use Rattle.journal_text.specs.Journals.{IsCellText}
use Rattle.journal_text.specs.Texts.{cell_words, failure_word, mark_words, turn_words, caller_lines}
use Rattle.journal_text.specs.Turns.{Nothing, Unheeded, names_failure, is_failure, IsPlacedMark, IsFailed, IsClaimant, IsBusy, IsMark, IsTurnLine, as_before, AreTurns, IsTurns}
use Rattle.journal_text.specs.Rereading.{IsWritableCell, IsClaim, IsWritableFailure, IsWritableMark, AreWritable, TurnsReadBack}
use Rattle.text_tokens.proofs.LinesLemmas.{Is, Any, Rereads, RereadsLines, IsSpelled, rereads_next, rereads_made, rereads_first, rereads_second, one_found, one_rereads, kind_passes, found_made, more_of, lines_into, lines_behind_line, lines_next, lines_then, lines_made, lines_nothing, reread_line}
use Rattle.text_tokens.proofs.SaysLemmas.{lines_say}
use Rattle.shape_text.proofs.PartsReread.{any_number, the_word}
use Rattle.journal_text.proofs.FailureWords.{failure_token, failure_kind, failure_named}
use Rattle.journal_text.proofs.JournalsReread.{a_spot, a_body, the_last_word}

-- ---- marks

a_number : (n : ℕ) → IsShort n → Rereads (Unheeded IsNumber) (Is tt) (decimal n ∷ [])
a_number n small = rereads_made (λ a. tt) (decimal n ∷ []) (λ a e. refl) (any_number n small)

placed : (w : List ℕ) → Rereads (IsWord w) Any (w ∷ []) → (n : ℕ) → IsShort n → Rereads (IsPlacedMark w) (Is tt) (w ∷ decimal n ∷ [])
placed w first n small = rereads_next (w ∷ []) (decimal n ∷ []) first (a_number n small)

failure_passes : (version : ℕ) (f : Failure) → IsWritableFailure version f → (t : Lexeme) → IsSpelled (failure_word f) t → is_failure version t ≡ true
failure_passes version f writable t s =
    let a : is_kind Word t ≡ true = kind_passes Word t (s.kind ∙ failure_kind f) in
    let b : names_failure version t.text ≡ true = ap (names_failure version) s.text ∙ failure_named version f writable in
    rw (a, b) refl

a_failure : (version : ℕ) (f : Failure) → IsWritableFailure version f → Rereads (IsThe (is_failure version)) Any (failure_word f ∷ [])
a_failure version f writable =
    rereads_made (λ (t : Lexeme). t.line) (failure_word f ∷ []) (λ t s. tt) (one_rereads (failure_word f) (failure_token f) (one_found (failure_word f) (failure_passes version f writable) (λ t s. refl)))

failed : (version : ℕ) (f : Failure) (n : ℕ) → IsWritableFailure version f → IsShort n → Rereads (IsFailed version) (Is tt) (codes "failed" ∷ failure_word f ∷ decimal n ∷ [])
failed version f n writable small =
    rereads_next (codes "failed" ∷ []) (failure_word f ∷ decimal n ∷ []) (the_word _ _ refl refl (omega arith) refl)
    (rereads_next (failure_word f ∷ []) (decimal n ∷ []) (a_failure version f writable) (a_number n small))

a_cell : (c : CellName) → IsWritableCell c → Rereads IsCellText (Is c) (cell_words c)
a_cell (name.Spot v) h = a_spot v h
a_cell (name.Body i) h = a_body i h

a_claimant : (a b n : ℕ) → IsShort a → IsShort b → IsShort n → Rereads IsClaimant (Is tt) (codes "by" ∷ decimal a ∷ decimal b ∷ decimal n ∷ [])
a_claimant a b n p q r =
    rereads_next (codes "by" ∷ []) (decimal a ∷ decimal b ∷ decimal n ∷ []) (the_word _ _ refl refl (omega arith) refl)
    (rereads_next (decimal a ∷ []) (decimal b ∷ decimal n ∷ []) (any_number a p) (rereads_next (decimal b ∷ []) (decimal n ∷ []) (any_number b q) (a_number n r)))

busy : (c : CellName) (a b n place : ℕ) → IsClaim c a b n place → Rereads IsBusy (Is tt) (codes "busy" ∷ cell_words c ++ codes "by" ∷ decimal a ∷ decimal b ∷ decimal n ∷ codes "place" ∷ decimal place ∷ [])
busy c a b n place h =
    let behind = codes "place" ∷ decimal place ∷ [] in
    rereads_next (codes "busy" ∷ []) (cell_words c ++ codes "by" ∷ decimal a ∷ decimal b ∷ decimal n ∷ behind) (the_word _ _ refl refl (omega arith) refl)
    (rereads_next (cell_words c) (codes "by" ∷ decimal a ∷ decimal b ∷ decimal n ∷ behind) (a_cell c h.cell)
    (rereads_next (codes "by" ∷ decimal a ∷ decimal b ∷ decimal n ∷ []) behind (a_claimant a b n h.caller h.turn h.bot) (placed (codes "place") (the_word _ _ refl refl (omega arith) refl) place h.at)))

a_mark : (version : ℕ) (m : Mark) → IsWritableMark version m → Rereads (IsMark version) (Is tt) (mark_words m)
a_mark version (mark.Done n) h = rereads_first (codes "done" ∷ decimal n ∷ []) (placed (codes "done") (the_word _ _ refl refl (omega arith) refl) n h)
a_mark version (mark.Idle n) h = rereads_second (codes "idle" ∷ decimal n ∷ []) (rereads_first (codes "idle" ∷ decimal n ∷ []) (placed (codes "idle") (the_word _ _ refl refl (omega arith) refl) n h))
a_mark version (mark.Failed f n) h = let words = codes "failed" ∷ failure_word f ∷ decimal n ∷ [] in rereads_second words (rereads_second words (rereads_first words (failed version f n h.1 h.0)))
a_mark version (mark.Busy c a b n place) h =
    let words = mark_words (mark.Busy c a b n place) in
    rereads_second words (rereads_second words (rereads_second words (busy c a b n place h)))

-- ---- turns

a_turn : (version caller turn : ℕ) (m : Mark) → IsShort caller → IsShort turn → IsWritableMark version m → Rereads (IsTurnLine version) Any (turn_words caller (turn, m))
a_turn version caller turn m p q h =
    rereads_next (codes "turn" ∷ []) (decimal caller ∷ decimal turn ∷ mark_words m) (the_word _ _ refl refl (omega arith) refl)
    (rereads_next (decimal caller ∷ []) (decimal turn ∷ mark_words m) (any_number caller p)
    (rereads_next (decimal turn ∷ []) (mark_words m) (any_number turn q) (any_of (a_mark version m h))))
  where
    any_of : Rereads (IsMark version) (Is tt) (mark_words m) → Rereads (IsMark version) Any (mark_words m)
    any_of r = record { spelled = r.spelled; printed = r.printed; read = λ ts s. (let f = r.read ts s in record { value = f.value; whole = f.whole; holds = tt }) }

one_more_turn : (version : ℕ) (words : Words) (more : List Words) → Rereads (IsTurnLine version) Any words → RereadsLines (AreTurns version) Any more → RereadsLines (AreTurns version) Any (words ∷ more)
one_more_turn version words more p q =
    lines_into (words ∷ more) (more_of (λ s. IsTurnLine version) as_before tt)
    (lines_behind_line (words ∷ []) more (reread_line words p) q.spelled q.printed (λ u x ts s. found_made (λ (rest : List Nothing). u ∷ rest) (λ rest y. tt) ts (q.read ts s)))

callers_turns : (version caller turn : ℕ) (marks : List Mark) → IsShort caller → turn + length marks ≤ 65536 → All (IsWritableMark version) marks → (more : List Words) → RereadsLines (AreTurns version) Any more → RereadsLines (AreTurns version) Any (map (turn_words caller) (enumerate_from turn marks) ++ more)
callers_turns version caller turn [] p fit all more q = q
callers_turns version caller turn (m ∷ marks) p fit all more q =
    one_more_turn version (turn_words caller (turn, m)) (map (turn_words caller) (enumerate_from (turn + 1) marks) ++ more) (a_turn version caller turn m p (omega arith) (All-head (IsWritableMark version) m marks all))
    (callers_turns version caller (turn + 1) marks p (omega arith) (All-tail (IsWritableMark version) m marks all) more q)

all_turns : (version caller : ℕ) (lists : List (List Mark)) → caller + length lists ≤ 16 → All (AreWritable version) lists → RereadsLines (AreTurns version) Any (flat_map caller_lines (enumerate_from caller lists))
all_turns version caller [] fit all = none
  where
    none : RereadsLines (AreTurns version) Any []
    none = let r = lines_nothing {P = AreTurns version} [] no_more in record { spelled = r.spelled; printed = r.printed; read = λ ts s. (let f = r.read ts s in record { value = f.value; whole = f.whole; holds = tt }) }
all_turns version caller (marks ∷ lists) fit all =
    let w = All-head (AreWritable version) marks lists all in
    callers_turns version caller 0 marks (omega arith) (let few = w.few in omega arith) w.each (flat_map caller_lines (enumerate_from (caller + 1) lists)) (all_turns version (caller + 1) lists (omega arith) (All-tail (AreWritable version) marks lists all))

the_first_word : Rereads (IsWord (codes "turns")) Any (codes "turns" ∷ [])
the_first_word = the_word _ _ refl refl (omega arith) refl

pub turns_lines : (version : ℕ) (m : MarkLists) → length m.marks ≤ 16 → All (AreWritable version) m.marks → RereadsLines (IsTurns version) (Is tt) ((codes "turns" ∷ []) ∷ flat_map caller_lines (enumerate_from 0 m.marks) ++ (codes "end" ∷ []) ∷ [])
turns_lines version m few all =
    let in_room : 0 + length m.marks ≤ 16 = omega (arith, few) in
    let lines = flat_map caller_lines (enumerate_from 0 m.marks) in
    let first = reread_line (codes "turns" ∷ []) the_first_word in
    let last = reread_line (codes "end" ∷ []) (rereads_made (λ line. tt) (codes "end" ∷ []) (λ line x. refl) the_last_word) in
    lines_next ((codes "turns" ∷ []) ∷ []) (lines ++ (codes "end" ∷ []) ∷ []) first
    (lines_then lines ((codes "end" ∷ []) ∷ []) tt (lines_made (λ ts. tt) lines (λ ts x. refl) (all_turns version 0 m.marks in_room all)) last)

pub turns_reread : TurnsReadBack
turns_reread version m few all = lines_say (IsTurns version) tt ((codes "turns" ∷ []) ∷ flat_map caller_lines (enumerate_from 0 m.marks) ++ (codes "end" ∷ []) ∷ []) (turns_lines version m few all)
