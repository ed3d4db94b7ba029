-- A document of the form Run, followed by the text of a run, is one of the form Replay.
use Rattle.std.proofs.Common.{◌≡◌, ℕ, ◌≤◌, Bool, true, false, cond, List, [], ◌∷◌, ◌++◌, length, Option, Some, Ok, codes, refl, sym, ap, subst, ◌∙◌, arith, length-append, append_assoc, map}
use Rattle.std.specs.List.{All, enumerate_from, flat_map}
use Rattle.std.proofs.lemmas.List.{append-nil, length-map}
use Rattle.std.proofs.lemmas.List.Elements.{All-map}
use Rattle.std.proofs.Math.Seq.{drop-append_seam}
use Rattle.text_tokens.specs.declared.refusal.Refusal.{Refusal}
use Rattle.text_tokens.specs.declared.refusal.RefusalKind.TheVariants.{Trailing}
use Rattle.text_tokens.specs.Text.{Lexeme}
use Rattle.text_tokens.specs.Scan.{ahead_of, last_of}
use Rattle.text_tokens.specs.Lines.{Words, lines_text}
use Rattle.text_tokens.specs.Grammar.{Symbol, tokens, Lang, Then, then, IsNothing, is_nothing, of_first, of_second}
use Rattle.text_tokens.specs.Lawful.{IsWhole}
use Rattle.text_tokens.specs.Inputs.{IsInput}
use Rattle.text_tokens.proofs.Blanks.{point}
use Rattle.text_tokens.proofs.Symbols.{tokens-append, fine-append, whole_then}
use Rattle.text_tokens.proofs.Exactness.{none_stops}
use Rattle.text_tokens.proofs.SequenceLemmas.{whole_in}
use Rattle.text_tokens.proofs.LineLemmas.{texts_add_up}
use Rattle.text_tokens.proofs.PrintedTokens.{HasTokens, has_tokens, lines_spell}
use Rattle.text_tokens.proofs.PromisesLemmas.{tokens_of_text}
use Rattle.amoebot_state.specs.declared.verdict.Entry.{Entry}
use Rattle.amoebot_state.specs.declared.verdict.PlainEntry.{PlainEntry}
use Rattle.amoebot_state.specs.Configs.{Config}
use Rattle.amoebot_state.specs.Steps.{plain_entry}
use Rattle.claim_core.specs.Limits.{most_turns}
use Rattle.claim_core.specs.Turns.{MarkLists}
use Rattle.shape_text.specs.Parts.{has_old_values}
use Rattle.journal_text.specs.Journals.{WrittenEntry}
use Rattle.journal_text.specs.Texts.{written_full, written_plain, written_by, written_lines, written_text, journal_text, plain_text, caller_lines, turns_text}
use Rattle.journal_text.specs.Rereading.{KeepsLimits}
use Rattle.text_tokens.proofs.LinesLemmas.{Found, Is, RereadsLines, lines_made, lines_then, lines_into, lines_nothing}
use Rattle.journal_text.proofs.JournalsReread.{journal_lines, plain_journal_lines}
use Rattle.journal_text.proofs.TurnsReread.{turns_lines}
use Rattle.shape_text.specs.Shapes.{IsFinal}
use Rattle.shape_text.specs.Texts.{area_words, wall_lines, bot_line, present, shape_text}
use Rattle.shape_text.proofs.ShapesReread.{config_lines, final_word}
use Rattle.shape_files.specs.declared.section_kind.Section.{Section}
use Rattle.shape_files.specs.declared.section_kind.Section.TheVariants.{Program, Shape, Lists, Schedule, Journal, Turns}
use Rattle.shape_files.specs.declared.section_kind.Form.TheVariants.{Run, Replay}
use Rattle.shape_files.specs.Frame.{Course, ends, needs, may, may_schedule, may_lists, behind_journal, course_of, IsRest, IsHeader}
use Rattle.shape_files.specs.FrameLaws.{IsStraight}
use Rattle.shape_files.specs.Documents.{Contents, nothing_yet, var_count, actions_of, maxes_in, bots_of, JournalBody, Body, IsDocument, HasContents}
use Rattle.shape_files.specs.RunTexts.{KeepsRunLimits, RunsAreReplayed}
use Rattle.shape_files.proofs.StraightForms.{straight_texts, forms_are_distinct}
use Rattle.shape_files.proofs.ContinuedTexts.{feed_last, tokens_on, EndsInFeed}
use Rattle.shape_files.proofs.SectionLemmas.{are_sections}
use Rattle.shape_files.proofs.DocumentsLemmas.{says_of}

-- ---- what stands behind the sections of a run

abbrev recorded : Course
recorded = needs Journal behind_journal

abbrev There : Course → Contents → Lang Contents
There c s = IsStraight Body c s

-- a section, and then more
module _ (k : Section) (c d : Course) (ys : List Symbol) (b : Contents) where
  behind_section : (s a : Contents) (xs : List Symbol) → ((r : Contents) (zs : List Symbol) → There c r zs a → There d r (zs ++ ys) b) → Then (Body k s) (λ r. There c r) xs a → Then (Body k s) (λ r. There d r) (xs ++ ys) b
  behind_section s a zs more (then {xs = vs} {ys = ws} r p q) = subst (λ (us : List Symbol). Then (Body k s) (λ r. There d r) us b) (sym (append_assoc vs ws ys)) (then r p (more r ws q))

module _ (a b : Contents) (ys : List Symbol) (record_is : There recorded a ys b) where
  at_end : (s : Contents) (zs : List Symbol) → IsNothing s zs a → There recorded s (zs ++ ys) b
  at_end s zs is_nothing = record_is

  after_lists : (s : Contents) (zs : List Symbol) → There (may_schedule ends) s zs a → There (may_schedule recorded) s (zs ++ ys) b
  after_lists s zs (of_first is) = of_first (behind_section Schedule ends recorded ys b s a zs at_end is)
  after_lists s zs (of_second is) = of_second (at_end s zs is)

  after_shape : (s : Contents) (zs : List Symbol) → There (needs Lists (may_schedule ends)) s zs a → There (may_lists recorded) s (zs ++ ys) b
  after_shape s zs is = of_first (behind_section Lists (may_schedule ends) (may_schedule recorded) ys b s a zs after_lists is)

  after_program : (s : Contents) (zs : List Symbol) → There (needs Shape (needs Lists (may_schedule ends))) s zs a → There (needs Shape (may_lists recorded)) s (zs ++ ys) b
  after_program s zs is = behind_section Shape (needs Lists (may_schedule ends)) (may_lists recorded) ys b s a zs after_shape is

  recorded_behind : (s : Contents) (zs : List Symbol) → There (course_of Run) s zs a → There (course_of Replay) s (zs ++ ys) b
  recorded_behind s zs is = behind_section Program (needs Shape (needs Lists (may_schedule ends))) (needs Shape (may_lists recorded)) ys b s a zs after_program is

whole_behind : (s a b : Contents) (us vs : List Lexeme) → IsWhole (There (course_of Run) s) us a → IsWhole (There recorded a) vs b → IsWhole (There (course_of Replay) s) (us ++ vs) b
whole_behind s a b us vs p q = record {
  text = p.text ++ q.text;
  is = recorded_behind a b q.text q.is s p.text p.is;
  parts = tokens-append p.text q.text ∙ ap (λ (ws : List Lexeme). ws ++ tokens q.text) p.parts ∙ ap (λ (ws : List Lexeme). us ++ ws) q.parts;
  fine = fine-append p.text q.text p.fine q.fine;
}

document_behind : (a b : Contents) (ts vs : List Lexeme) → IsWhole (IsDocument Run) ts a → IsWhole (There recorded a) vs b → IsWhole (IsDocument Replay) (ts ++ vs) b
document_behind a b ts vs w q =
    let i = whole_in IsHeader (λ version. IsRest Body (course_of Run) (nothing_yet version)) ts a w in
    let run = (straight_texts Body are_sections.start (course_of Run) (forms_are_distinct Run) (nothing_yet i.a)).into i.ws a i.second in
    let rest = (straight_texts Body are_sections.start (course_of Replay) (forms_are_distinct Replay) (nothing_yet i.a)).back (i.ws ++ vs) b (whole_behind (nothing_yet i.a) a b i.ws vs run q) in
    whole_then i.vs (i.ws ++ vs) (ts ++ vs) i.a b (ap (λ (us : List Lexeme). us ++ vs) i.parts ∙ append_assoc i.vs i.ws vs) i.first rest

-- ---- the text of a run

abbrev last_line : Words
last_line = codes "end" ∷ []

module _ (a : Contents) (es : List Entry) (c : Config) (m : MarkLists) (k : KeepsRunLimits a es c m) where
  abbrev vars : ℕ
  vars = var_count a.checked

  -- a journal of entries that are written so
  abbrev of_journal : List WrittenEntry → List Words
  of_journal ws = (codes "journal" ∷ []) ∷ written_lines vars ws ++ last_line ∷ []

  abbrev of_final : List Words
  of_final = (codes "final" ∷ []) ∷ (area_words c.area ∷ wall_lines c.area c.walls ++ map (bot_line vars) (present c.bots)) ++ last_line ∷ []

  abbrev of_turns : List Words
  of_turns = (codes "turns" ∷ []) ∷ flat_map caller_lines (enumerate_from 0 m.marks) ++ last_line ∷ []

  abbrev lines : List WrittenEntry → List Words
  lines ws = of_journal ws ++ (of_final ++ of_turns)

  final_lines : RereadsLines (IsFinal a.version vars (maxes_in a.checked)) (Is c) of_final
  final_lines = subst (λ (maxes : List ℕ). RereadsLines (IsFinal a.version vars maxes) (Is c) of_final) k.maxes (config_lines a.version vars c k.last k.vars (codes "final") final_word)

  -- what stands behind the journal
  module _ (full : Option (List Entry)) (plain : Option (List PlainEntry)) where
    abbrev behind : Contents
    behind = record a { entries = full; plain = plain }

    abbrev with_last : Config → Contents
    with_last w = record a { entries = full; plain = plain; final_world = Some w }

    the_turns : RereadsLines (There (may Turns ends ends) (with_last c)) (Is (with_last c)) of_turns
    the_turns =
        let t = lines_made (λ u. with_last c) of_turns (λ u e. refl) (turns_lines a.version m k.callers k.marks) in
        let all = lines_then {Q = λ s. There ends s} of_turns [] (with_last c) t (lines_nothing (with_last c) is_nothing) in
        subst (λ (ls : List Words). RereadsLines (There (may Turns ends ends) (with_last c)) (Is (with_last c)) ls) (append-nil of_turns) (lines_into (of_turns ++ []) (λ xs s is. of_first is) all)

    the_rest : RereadsLines (There behind_journal behind) (Is (with_last c)) (of_final ++ of_turns)
    the_rest = lines_then {Q = λ s. There (may Turns ends ends) s} of_final of_turns (with_last c) (lines_made with_last of_final (λ v e. ap with_last e) final_lines) the_turns

  -- the journal with old values or without, and what stands behind it
  abbrev full_rows : List WrittenEntry
  full_rows = map written_full es

  abbrev plain_entries : List PlainEntry
  plain_entries = map plain_entry es

  abbrev plain_rows : List WrittenEntry
  plain_rows = map written_plain plain_entries

  abbrev with_full : List Entry → Contents
  with_full entries = record a { entries = Some entries }

  abbrev with_plain : List PlainEntry → Contents
  with_plain entries = record a { plain = Some entries }

  abbrev Recorded : Bool → Lang Contents
  Recorded old = Then (JournalBody old a) (λ s. There behind_journal s)

  in_full : All (λ e. KeepsLimits (bots_of a.world) (actions_of a.checked) vars (written_full e)) es → RereadsLines (Recorded true) (Is (with_last (Some es) a.plain c)) (lines full_rows)
  in_full keep =
      lines_then {Q = λ s. There behind_journal s} (of_journal full_rows) (of_final ++ of_turns) (with_full es)
      (lines_made with_full (of_journal full_rows) (λ v e. ap with_full e) (journal_lines (bots_of a.world) (actions_of a.checked) vars k.bots k.actions k.vars es k.few keep))
      (the_rest (Some es) a.plain)

  few_plain : length plain_entries ≤ most_turns
  few_plain = omega (arith, k.few, length-map es plain_entry)

  in_plain : All (λ e. KeepsLimits (bots_of a.world) (actions_of a.checked) vars (written_plain (plain_entry e))) es → RereadsLines (Recorded false) (Is (with_last a.entries (Some plain_entries) c)) (lines plain_rows)
  in_plain keep =
      let keeps = All-map (λ p. KeepsLimits (bots_of a.world) (actions_of a.checked) vars (written_plain p)) plain_entry es keep in
      lines_then {Q = λ s. There behind_journal s} (of_journal plain_rows) (of_final ++ of_turns) (with_plain plain_entries)
      (lines_made with_plain (of_journal plain_rows) (λ v e. ap with_plain e) (plain_journal_lines (bots_of a.world) (actions_of a.checked) vars k.bots k.actions k.vars plain_entries few_plain keeps))
      (the_rest a.entries (Some plain_entries))

  module _ (ws : List WrittenEntry) (whole : Contents) (the_record : RereadsLines (There recorded a) (Is whole) (lines ws)) where
    abbrev text_of_run : List ℕ
    text_of_run = written_text vars ws ++ (shape_text (codes "final") vars c ++ turns_text m)

    text_is : text_of_run ≡ lines_text (lines ws)
    text_is = sym (texts_add_up.lines (of_journal ws) (of_final ++ of_turns) ∙ ap (λ (bs : List ℕ). lines_text (of_journal ws) ++ bs) (texts_add_up.lines of_final of_turns))

    module _ (bytes : List ℕ) (fed : EndsInFeed bytes) (holds : HasContents Run bytes a) where
      abbrev both : List ℕ
      both = bytes ++ lines_text (lines ws)

      abbrev ts : List Lexeme
      ts = ahead_of (point bytes 0)

      abbrev end : Refusal
      end = last_of (point bytes 0)

      input : IsInput (IsDocument Run) Trailing end ts a
      input = holds ts end (tokens_of_text bytes)

      run_whole : IsWhole (IsDocument Run) ts a
      run_whole = subst (λ (us : List Lexeme). IsWhole (IsDocument Run) us a) (sym (input.text.parts ∙ append-nil input.text.us)) input.text.whole

      has : HasTokens both (length bytes) the_record.spelled
      has = has_tokens both (length bytes) (lines_text (lines ws)) the_record.spelled (lines_spell (lines ws) the_record.spelled the_record.printed) (drop-append_seam bytes (lines_text (lines ws))) (omega (arith, length-append bytes (lines_text (lines ws))))

      found : Found (There recorded a) (Is whole) has.tokens
      found = the_record.read has.tokens has.spelled

      replay_whole : IsWhole (IsDocument Replay) (ts ++ has.tokens) whole
      replay_whole = document_behind a whole ts has.tokens run_whole (subst (λ (s : Contents). IsWhole (There recorded a) has.tokens s) found.holds found.whole)

      replay_input : IsInput (IsDocument Replay) Trailing has.last (ts ++ has.tokens) whole
      replay_input = record { text = record { us = ts ++ has.tokens; parts = sym (append-nil (ts ++ has.tokens)); whole = replay_whole; stops = none_stops (IsDocument Replay) (ts ++ has.tokens) }; ends = has.whole }

      replayed_lines : HasContents Replay both whole
      replayed_lines = says_of Replay both (Ok whole) (ts ++ has.tokens) has.last (tokens_on bytes (lines_text (lines ws)) fed 0 ts has.tokens end has.last (omega arith) (tokens_of_text bytes) input.ends has.are) replay_input

      replayed : HasContents Replay (bytes ++ text_of_run) whole
      replayed = subst (λ (text : List ℕ). HasContents Replay (bytes ++ text) whole) (sym text_is) replayed_lines

  module _ (bytes : List ℕ) (fed : EndsInFeed bytes) (holds : HasContents Run bytes a) where
    -- the journal has old values, or none
    by_version : (old : Bool) → has_old_values a.version ≡ old
        → HasContents Replay (bytes ++ (cond old (journal_text vars es) (plain_text vars plain_entries) ++ (shape_text (codes "final") vars c ++ turns_text m)))
        (cond {A = Contents} old (record a { entries = Some es; final_world = Some c }) (record a { plain = Some plain_entries; final_world = Some c }))
    by_version true is =
        let whole = with_last (Some es) a.plain c in
        let keep = subst (λ (old : Bool). All (λ e. KeepsLimits (bots_of a.world) (actions_of a.checked) vars (written_by old e)) es) is k.entries in
        replayed full_rows whole (subst (λ (old : Bool). RereadsLines (Recorded old) (Is whole) (lines full_rows)) (sym is) (in_full keep)) bytes fed holds
    by_version false is =
        let whole = with_last a.entries (Some plain_entries) c in
        let keep = subst (λ (old : Bool). All (λ e. KeepsLimits (bots_of a.world) (actions_of a.checked) vars (written_by old e)) es) is k.entries in
        replayed plain_rows whole (subst (λ (old : Bool). RereadsLines (Recorded old) (Is whole) (lines plain_rows)) (sym is) (in_plain keep)) bytes fed holds

pub runs_are_replayed : RunsAreReplayed
runs_are_replayed bytes a es c m (front, e) holds k = by_version a es c m k bytes (subst EndsInFeed (sym e) (feed_last front)) holds (has_old_values a.version) refl
