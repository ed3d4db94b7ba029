-- A document that is printed whole is read as what was printed.
use Rattle.std.proofs.Common.{◌≡◌, ℕ, ◌<◌, ◌≤◌, Bool, true, false, List, [], ◌∷◌, ◌++◌, length, map, Option, Some, None, Ok, codes, refl, sym, ap, subst, ◌∙◌, arith}
use Rattle.std.specs.Prelude.{◌^◌, decimal}
use Rattle.std.specs.List.{All, flat_map, enumerate_from}
use Rattle.std.specs.Option.{IfSome}
use Rattle.std.proofs.lemmas.Bool.{leb-true}
use Rattle.std.proofs.lemmas.List.{append-nil}
use Rattle.text_tokens.specs.declared.token.TokenKind.TheVariants.{Word}
use Rattle.text_tokens.specs.declared.refusal.RefusalKind.TheVariants.{Trailing}
use Rattle.text_tokens.specs.Text.{Lexeme}
use Rattle.text_tokens.specs.Scan.{ahead_of, last_of}
use Rattle.text_tokens.specs.Lines.{Words, line_text, lines_text}
use Rattle.text_tokens.specs.Grammar.{Lang, Then, is_nothing, of_first, of_second}
use Rattle.text_tokens.specs.Inputs.{IsInput}
use Rattle.text_tokens.proofs.Blanks.{point}
use Rattle.text_tokens.proofs.PromisesLemmas.{tokens_of_text}
use Rattle.text_tokens.proofs.Exactness.{none_stops}
use Rattle.text_tokens.proofs.LineLemmas.{texts_add_up}
use Rattle.text_tokens.proofs.PrintedTokens.{AreSpelled, no_tokens, Spells, LinesArePrinted, no_lines, lines_spell, spelled_tokens, word_is_token}
use Rattle.text_tokens.proofs.LinesLemmas.{Found, Is, Any, Rereads, RereadsLines, lines_behind, found_by, found_made, found_judged, behind_found, rereads_next, rereads_the, rereads_number, reread_line}
use Rattle.amoebot_state.specs.declared.verdict.Entry.{Entry}
use Rattle.amoebot_state.specs.declared.verdict.PlainEntry.{PlainEntry}
use Rattle.amoebot_state.specs.Configs.{Config}
use Rattle.amoebot_state.specs.Limits.{most_vars}
use Rattle.claim_core.specs.Limits.{most_turns}
use Rattle.claim_core.specs.Turns.{CallerLists, MarkLists}
use Rattle.action_tree.specs.Trees as tree
use Rattle.action_tree.specs.Limits.{most_actions}
use Rattle.action_tree.specs.Lines.{without_lines}
use Rattle.action_tree.specs.Programs.{IsProgram}
use Rattle.action_tree.proofs.Conditions.{left_of, right_of}
use Rattle.action_print.specs.Canon.{canon}
use Rattle.action_print.proofs.ProgramsRead.{all_lines, canon_lines}
use Rattle.action_check.specs.Faults.{faults}
use Rattle.action_check.specs.Maxes.{maxes_of}
use Rattle.journal_text.specs.Journals.{IsJournal, IsPlainJournal}
use Rattle.journal_text.specs.Texts.{written_full, written_plain, written_lines, journal_text, plain_text, caller_lines, turns_text}
use Rattle.journal_text.specs.Turns.{IsTurns}
use Rattle.journal_text.specs.Rereading.{KeepsLimits, AreWritable}
use Rattle.shape_text.specs.Parts.{outside, IsWord, has_old_values}
use Rattle.shape_text.proofs.Outside.{inside}
use Rattle.shape_text.specs.Rereading.{IsWritableConfig}
use Rattle.journal_text.proofs.JournalsReread.{journal_lines, plain_journal_lines}
use Rattle.journal_text.proofs.TurnsReread.{turns_lines}
use Rattle.shape_text.specs.Shapes.{IsShape, IsFinal, IsShapeUnder}
use Rattle.shape_text.specs.Texts.{area_words, wall_lines, bot_line, present, shape_text}
use Rattle.shape_text.proofs.ShapesReread.{config_lines, shape_word, final_word}
use Rattle.shape_files.specs.declared.section_kind.Section.{Section}
use Rattle.shape_files.specs.declared.section_kind.Section.TheVariants.{Program, Shape, Lists, Journal, Final, Turns}
use Rattle.shape_files.specs.declared.section_kind.Form.{Form}
use Rattle.shape_files.specs.declared.section_kind.Form.TheVariants.{Run, Interleave, Check, Replay, Measure}
use Rattle.shape_files.specs.Frame.{Course, ends, needs, may, may_schedule, may_lists, behind_journal, course_of, IsRest, least_version, greatest_version, IsVersion, IsHeader}
use Rattle.shape_files.specs.FrameLaws.{IsStraight}
use Rattle.shape_files.specs.Documents.{Contents, nothing_yet, first_in, JournalBody, Body, IsDocument}
use Rattle.shape_files.specs.Fitting.{HasJournalBy, IsWritableProgram}
use Rattle.shape_files.specs.WholeTexts.{header_line, text_of_some, document_text, AreWritableMarks, IsWritableDocument, bare_contents, HasBareContents, DocumentsReadBack}
use Rattle.shape_files.proofs.CheckedLemmas.{none_first}
use Rattle.shape_files.proofs.BareParts.{still_faultless, as_many_vars, as_many_actions, same_maxes}
use Rattle.shape_files.proofs.StraightForms.{straight_texts, forms_are_distinct}
use Rattle.shape_files.proofs.SectionLemmas.{are_sections}
use Rattle.shape_files.proofs.DocumentsLemmas.{says_of}

-- ---- texts that are lines

-- tokens of these words are read so
abbrev Reads : {A : Type 0} → Lang A → (A → Type 0) → Words → Type 0
Reads P R words = (ts : List Lexeme) → AreSpelled ts words → Found P R ts

-- the text is lines, whose tokens are these words
record IsSpelt (text : List ℕ) (words : Words) : Type 0 where
  pub lines : List Words
  pub is : text ≡ lines_text lines
  pub printed : LinesArePrinted lines words

record IsReread {A : Type 0} (P : Lang A) (R : A → Type 0) (text : List ℕ) : Type 0 where
  pub words : Words
  pub spelt : IsSpelt text words
  pub read : Reads P R words

of_lines : {A : Type 0} {P : Lang A} {R : A → Type 0} (lines : List Words) → RereadsLines P R lines → IsReread P R (lines_text lines)
of_lines lines p = record { words = p.spelled; spelt = record { lines = lines; is = refl; printed = p.printed }; read = p.read }

no_text : IsSpelt [] []
no_text = record { lines = []; is = refl; printed = no_lines }

text_then : (text more : List ℕ) (us vs : Words) → IsSpelt text us → IsSpelt more vs → IsSpelt (text ++ more) (us ++ vs)
text_then text more us vs p q = record {
  lines = p.lines ++ q.lines;
  is = ap (λ (bs : List ℕ). bs ++ more) p.is ∙ ap (λ (bs : List ℕ). lines_text p.lines ++ bs) q.is ∙ sym (texts_add_up.lines p.lines q.lines);
  printed = lines_behind p.lines q.lines us vs p.printed q.printed;
}

its_spells : (text : List ℕ) (words : Words) → IsSpelt text words → Spells text words
its_spells text words p = subst (λ (bs : List ℕ). Spells bs words) (sym p.is) (lines_spell p.lines words p.printed)

found_nothing : {A : Type 0} {P : Lang A} (a : A) → P [] a → Reads P (Is a) []
found_nothing a is ts no_tokens = record { value = a; whole = record { text = []; is = is; parts = refl; fine = refl }; holds = refl }

-- ---- the document around its sections

module _ (version : ℕ) (right : IsVersion version) where
  abbrev first_line : List ℕ
  first_line = line_text (header_line version)

  the_header : IsReread IsHeader (Is version) first_line
  the_header =
      let low = right.0 in
      let high = right.1 in
      subst (λ (text : List ℕ). IsReread IsHeader (Is version) text) (append-nil first_line) (of_lines (header_line version ∷ []) (reread_line (header_line version)
      (rereads_next (codes "amoebot" ∷ []) (decimal version ∷ []) (rereads_the Word (codes "amoebot") (word_is_token _ _ refl refl (omega arith)) refl refl)
      (rereads_number version (omega arith) (outside least_version greatest_version) (λ t e. inside least_version greatest_version t (omega (arith, low, e)) (omega (arith, high, e)))))))

  -- nothing is read yet but the version
  abbrev start : Contents
  start = nothing_yet version

  abbrev There : Course → Contents → Lang Contents
  There c s = IsStraight Body c s

  module _ (form : Form) (R : Contents → Type 0) (words : Words) (read : Reads (There (course_of form) start) R words) where
    in_form : Reads (IsRest Body (course_of form) start) R words
    in_form ts s =
        let f = read ts s in
        record { value = f.value; whole = (straight_texts Body are_sections.start (course_of form) (forms_are_distinct form) start).back ts f.value f.whole; holds = f.holds }

    behind_header : Reads (IsDocument form) R (the_header.words ++ words)
    behind_header ts s = behind_found the_header.words words the_header.read (λ v e us t. subst (λ (u : ℕ). Found (IsRest Body (course_of form) (nothing_yet u)) R us) (sym e) (in_form us t)) ts s

  -- what is so read has what was read
  read_back : (form : Form) (a : Contents) (text : List ℕ) (words : Words) → IsSpelt text words → Reads (There (course_of form) start) (λ b. bare_contents b ≡ bare_contents a) words → HasBareContents form (first_line ++ text) a
  read_back form a text words spelt read =
      let all = first_line ++ text in
      let ts = ahead_of (point all 0) in
      let last = last_of (point all 0) in
      let are = tokens_of_text all in
      let s = spelled_tokens all (the_header.words ++ words) (its_spells all (the_header.words ++ words) (text_then (first_line) text the_header.words words the_header.spelt spelt)) ts last are in
      let f = behind_header form (λ b. bare_contents b ≡ bare_contents a) words read ts s.0 in
      let input : IsInput (IsDocument form) Trailing last ts f.value = record { text = record { us = ts; parts = sym (append-nil ts); whole = f.whole; stops = none_stops (IsDocument form) ts }; ends = s.1 } in
      record { contents = f.value; has = says_of form all (Ok f.value) ts last are input; same = f.holds }

  -- ---- what a document has, without lists and a schedule

  abbrev contents : Option tree.Program → Option Config → Option (List Entry) → Option (List PlainEntry) → Option Config → Contents
  contents checked world entries plain final_world = record { version = version; checked = checked; world = world; lists = None; schedule = None; entries = entries; plain = plain; final_world = final_world }

  module _ (p : tree.Program) (k : IsWritableProgram p) where
    abbrev vars : ℕ
    vars = length p.vars

    few_vars : vars ≤ most_vars
    few_vars = leb-true _ most_vars (left_of _ _ (left_of _ _ (left_of _ _ k.writable)))

    few_actions : length p.actions ≤ most_actions
    few_actions = leb-true _ most_actions (right_of _ _ (left_of _ _ k.writable))

    the_program : IsReread IsProgram (λ q. without_lines q ≡ without_lines p) (canon p)
    the_program = of_lines (all_lines p) (canon_lines p k.writable)

    abbrev IsReadProgram : Contents → Type 0
    IsReadProgram s = (q : tree.Program) × (s ≡ contents (Some q) None None None None) × (without_lines q ≡ without_lines p)

    program_there : Reads (Body Program start) IsReadProgram the_program.words
    program_there ts s =
        found_made (λ (q : tree.Program). record start { checked = Some q }) (λ q same. (q, refl, same)) ts
        (found_judged (λ (q : tree.Program). first_in (faults q)) (λ q same. none_first (faults q) (still_faultless q p same k.checked)) ts (the_program.read ts s))

    -- the program, and what stands behind it
    program_then : (c : Course) (R : Contents → Type 0) (words : Words) → ((q : tree.Program) → without_lines q ≡ without_lines p → Reads (There c (contents (Some q) None None None None)) R words) → Reads (There (needs Program c) start) R (the_program.words ++ words)
    program_then c R words read ts s = behind_found the_program.words words program_there behind ts s
      where
        behind : (b : Contents) → IsReadProgram b → Reads (There c b) R words
        behind b (q, e, same) us t = subst (λ (x : Contents). Found (There c x) R us) (sym e) (read q same us t)

  -- ---- sections, one behind the other

  module _ (k : Section) (c : Course) (s r : Contents) (R : Contents → Type 0) (us vs : Words) where
    section_then : Reads (Body k s) (Is r) us → Reads (There c r) R vs → Reads (Then (Body k s) (λ b. There c b)) R (us ++ vs)
    section_then p q ts spelled = behind_found us vs p (λ b e ws t. subst (λ (x : Contents). Found (There c x) R ws) (sym e) (q ws t)) ts spelled

  module _ (k : Section) (c d : Course) (s : Contents) (R : Contents → Type 0) (words : Words) where
    -- a section that may come
    comes : Reads (Then (Body k s) (λ b. There c b)) R words → Reads (There (may k c d) s) R words
    comes read ts spelled = found_by (λ b. b) (λ xs b is. of_first is) (λ b h. h) ts (read ts spelled)

    -- what comes in its place
    left_out : Reads (There d s) R words → Reads (There (may k c d) s) R words
    left_out read ts spelled = found_by (λ b. b) (λ xs b is. of_second is) (λ b h. h) ts (read ts spelled)

  over : (s : Contents) → Reads (There ends s) (Is s) []
  over s = found_nothing s is_nothing

  abbrev section_lines : List ℕ → List Words → List Words
  section_lines text items = (text ∷ []) ∷ items ++ (codes "end" ∷ []) ∷ []

  -- ---- turns, if there are some

  record TurnsAreRead (marks : Option MarkLists) : Type 0 where
    pub words : Words
    pub spelt : IsSpelt (flat_map (λ text. text) (text_of_some turns_text marks)) words
    pub read : (s : Contents) → s.version ≡ version → Reads (There (may Turns ends ends) s) (Is s) words

  turns_read : (a : Contents) → a.version ≡ version → (marks : Option MarkLists) → IfSome marks (AreWritableMarks a) → TurnsAreRead marks
  turns_read a its None k = record { words = []; spelt = no_text; read = λ s e. left_out Turns ends ends s (Is s) [] (over s) }
  turns_read a its (Some m) k =
      let each : All (AreWritable version) m.marks = subst (λ (v : ℕ). All (AreWritable v) m.marks) its k.each in
      let t = of_lines (section_lines (codes "turns") (flat_map caller_lines (enumerate_from 0 m.marks))) (turns_lines version m k.callers each) in
      record {
        words = t.words ++ [];
        spelt = text_then (turns_text m) [] t.words [] t.spelt no_text;
        read = λ s at. comes Turns ends ends s (Is s) (t.words ++ []) (section_then Turns ends s s (Is s) t.words [] (λ ts spelled. found_made (λ u. s) (λ u e. refl) ts (subst (λ (v : ℕ). Found (IsTurns v) (Is tt) ts) (sym at) (t.read ts spelled))) (over s));
      }

  -- ---- what is printed of a program

  module _ (p : tree.Program) (k : IsWritableProgram p) where
    abbrev vars_of : ℕ
    vars_of = length p.vars

    -- a shape under this word
    the_shape : (c : Config) → IsWritableConfig version vars_of c → c.maxes ≡ maxes_of p → (text : List ℕ) → Rereads (IsWord text) Any (text ∷ []) → IsReread (IsShapeUnder version text vars_of (maxes_of p)) (Is c) (shape_text text vars_of c)
    the_shape c w m text first =
        let lines = section_lines text (area_words c.area ∷ wall_lines c.area c.walls ++ map (bot_line vars_of) (present c.bots)) in
        of_lines lines (subst (λ (maxes : List ℕ). RereadsLines (IsShapeUnder version text vars_of maxes) (Is c) lines) m (config_lines version vars_of c w (few_vars p k) text first))

    byte_of_actions : length p.actions < 2 ^ 8
    byte_of_actions = let most = few_actions p k in omega arith

    -- a journal with old values, and one without
    the_journal : (bots : ℕ) → bots < 2 ^ 16 → (es : List Entry) → length es ≤ most_turns → All (λ e. KeepsLimits bots (length p.actions) vars_of (written_full e)) es
        → IsReread (IsJournal bots (length p.actions) vars_of) (Is es) (journal_text vars_of es)
    the_journal bots small es few each = of_lines (section_lines (codes "journal") (written_lines vars_of (map written_full es))) (journal_lines bots (length p.actions) vars_of small byte_of_actions (few_vars p k) es few each)

    the_plain_journal : (bots : ℕ) → bots < 2 ^ 16 → (ps : List PlainEntry) → length ps ≤ most_turns → All (λ e. KeepsLimits bots (length p.actions) vars_of (written_plain e)) ps
        → IsReread (IsPlainJournal bots (length p.actions) vars_of) (Is ps) (plain_text vars_of ps)
    the_plain_journal bots small ps few each = of_lines (section_lines (codes "journal") (written_lines vars_of (map written_plain ps))) (plain_journal_lines bots (length p.actions) vars_of small byte_of_actions (few_vars p k) ps few each)

  -- ---- the sections as they are read behind a program that is the same without lines

  module _ (p q : tree.Program) (same : without_lines q ≡ without_lines p) where
    abbrev with : Option Config → Option (List Entry) → Option (List PlainEntry) → Option Config → Contents
    with world entries plain final_world = contents (Some q) world entries plain final_world

    shape_as : (text : List ℕ) (c : Config) (words : Words) → Reads (IsShapeUnder version text (length p.vars) (maxes_of p)) (Is c) words → Reads (IsShapeUnder version text (length q.vars) (maxes_of q)) (Is c) words
    shape_as text c words read ts s =
        subst (λ (n : ℕ). Found (IsShapeUnder version text n (maxes_of q)) (Is c) ts) (sym (as_many_vars q p same))
        (subst (λ (maxes : List ℕ). Found (IsShapeUnder version text (length p.vars) maxes) (Is c) ts) (sym (same_maxes q p same)) (read ts s))

    journal_as : {A : Type 0} (IsIts : ℕ → ℕ → ℕ → Lang A) (bots : ℕ) (a : A) (words : Words) → Reads (IsIts bots (length p.actions) (length p.vars)) (Is a) words → Reads (IsIts bots (length q.actions) (length q.vars)) (Is a) words
    journal_as IsIts bots a words read ts s =
        subst (λ (n : ℕ). Found (IsIts bots (length q.actions) n) (Is a) ts) (sym (as_many_vars q p same))
        (subst (λ (n : ℕ). Found (IsIts bots n (length p.vars)) (Is a) ts) (sym (as_many_actions q p same)) (read ts s))

    -- a shape, and what stands behind it
    shape_then : (c : Course) (R : Contents → Type 0) (w : Config) (us vs : Words) → Reads (IsShape version (length p.vars) (maxes_of p)) (Is w) us → Reads (There c (with (Some w) None None None)) R vs → Reads (Then (Body Shape (with None None None None)) (λ b. There c b)) R (us ++ vs)
    shape_then c R w us vs read more =
        section_then Shape c (with None None None None) (with (Some w) None None None) R us vs
        (λ ts s. found_made (λ (d : Config). with (Some d) None None None) (λ d e. ap (λ (d : Config). with (Some d) None None None) e) ts (shape_as (codes "shape") w us read ts s)) more

    -- a journal, the last shape, and perhaps turns
    record_then : (w d : Config) (full : Option (List Entry)) (plain : Option (List PlainEntry)) (us vs ws : Words) → Reads (Body Journal (with (Some w) None None None)) (Is (with (Some w) full plain None)) us → Reads (IsFinal version (length p.vars) (maxes_of p)) (Is d) vs → Reads (There (may Turns ends ends) (with (Some w) full plain (Some d))) (Is (with (Some w) full plain (Some d))) ws → Reads (There (needs Journal behind_journal) (with (Some w) None None None)) (Is (with (Some w) full plain (Some d))) (us ++ (vs ++ ws))
    record_then w d full plain us vs ws journal last turns =
        let all = with (Some w) full plain (Some d) in
        section_then Journal behind_journal (with (Some w) None None None) (with (Some w) full plain None) (Is all) us (vs ++ ws) journal
        (section_then Final (may Turns ends ends) (with (Some w) full plain None) all (Is all) vs ws
        (λ ts s. found_made (λ (c : Config). with (Some w) full plain (Some c)) (λ c e. ap (λ (c : Config). with (Some w) full plain (Some c)) e) ts (shape_as (codes "final") d vs last ts s)) turns)

    no_lists : (c : Course) (s : Contents) (R : Contents → Type 0) (words : Words) → Reads (There c s) R words → Reads (There (may_lists c) s) R words
    no_lists c s R words read = left_out Lists (may_schedule c) c s R words read

    -- with lines or without
    bare : (c : Course) (world : Option Config) (full : Option (List Entry)) (plain : Option (List PlainEntry)) (last : Option Config) (words : Words) → Reads (There c (with None None None None)) (Is (with world full plain last)) words → Reads (There c (with None None None None)) (λ b. bare_contents b ≡ bare_contents (contents (Some p) world full plain last)) words
    bare c world full plain last words read ts s =
        found_by (λ b. b) (λ xs b is. is) (λ b e. ap bare_contents e ∙ ap (λ (r : tree.Program). contents (Some r) world full plain last) same) ts (read ts s)

  -- ---- journals, with old values or without as the version says

  -- a journal of this text is read behind the shape, whichever lines the program has
  record JournalIsRead (p : tree.Program) (c : Config) (full : Option (List Entry)) (plain : Option (List PlainEntry)) (text : List ℕ) : Type 0 where
    pub words : Words
    pub spelt : IsSpelt text words
    pub read : (q : tree.Program) → without_lines q ≡ without_lines p → Reads (Body Journal (contents (Some q) (Some c) None None None)) (Is (contents (Some q) (Some c) full plain None)) words

  module _ (p : tree.Program) (k : IsWritableProgram p) (c : Config) (small : length c.bots < 2 ^ 16) where
    abbrev behind_shape : tree.Program → Contents
    behind_shape q = contents (Some q) (Some c) None None None

    full_is_read : has_old_values version ≡ true → (es : List Entry) → length es ≤ most_turns → All (λ e. KeepsLimits (length c.bots) (length p.actions) (length p.vars) (written_full e)) es
        → JournalIsRead p c (Some es) None (journal_text (length p.vars) es)
    full_is_read old es few each =
        let j = the_journal p k (length c.bots) small es few each in
        record {
          words = j.words;
          spelt = j.spelt;
          read = λ q same. subst (λ (o : Bool). Reads (JournalBody o (behind_shape q)) (Is (contents (Some q) (Some c) (Some es) None None)) j.words) (sym old)
              (λ ts s. found_made (λ (fs : List Entry). contents (Some q) (Some c) (Some fs) None None) (λ fs e. ap (λ (fs : List Entry). contents (Some q) (Some c) (Some fs) None None) e) ts (journal_as p q same IsJournal (length c.bots) es j.words j.read ts s));
        }

    plain_is_read : has_old_values version ≡ false → (ps : List PlainEntry) → length ps ≤ most_turns → All (λ e. KeepsLimits (length c.bots) (length p.actions) (length p.vars) (written_plain e)) ps
        → JournalIsRead p c None (Some ps) (plain_text (length p.vars) ps)
    plain_is_read none ps few each =
        let j = the_plain_journal p k (length c.bots) small ps few each in
        record {
          words = j.words;
          spelt = j.spelt;
          read = λ q same. subst (λ (o : Bool). Reads (JournalBody o (behind_shape q)) (Is (contents (Some q) (Some c) None (Some ps) None)) j.words) (sym none)
              (λ ts s. found_made (λ (fs : List PlainEntry). contents (Some q) (Some c) None (Some fs) None) (λ fs e. ap (λ (fs : List PlainEntry). contents (Some q) (Some c) None (Some fs) None) e) ts (journal_as p q same IsPlainJournal (length c.bots) ps j.words j.read ts s));
        }

  -- ---- the forms

  module _ (p : tree.Program) (k : IsWritableProgram p) where
    abbrev of_program : Words
    of_program = (the_program p k).words

    abbrev Same : Option Config → Option (List Entry) → Option (List PlainEntry) → Option Config → Contents → Type 0
    Same world full plain last b = bare_contents b ≡ bare_contents (contents (Some p) world full plain last)

    only_program : HasBareContents Check (document_text (contents (Some p) None None None None) None) (contents (Some p) None None None None)
    only_program =
        read_back Check (contents (Some p) None None None None) (canon p ++ []) (of_program ++ []) (text_then (canon p) [] of_program [] (the_program p k).spelt no_text)
        (program_then p k (may Shape (may_lists ends) ends) (Same None None None None) []
        (λ q same. bare p q same (may Shape (may_lists ends) ends) None None None None []
        (left_out Shape (may_lists ends) ends (with p q same None None None None) (Is (with p q same None None None None)) [] (over (with p q same None None None None)))))

    module _ (c : Config) (w : IsWritableConfig version (length p.vars) c) (m : c.maxes ≡ maxes_of p) where
      abbrev of_shape : IsReread (IsShape version (length p.vars) (maxes_of p)) (Is c) (shape_text (codes "shape") (length p.vars) c)
      of_shape = the_shape p k c w m (codes "shape") shape_word

      abbrev unrecorded : Contents
      unrecorded = contents (Some p) (Some c) None None None

      abbrev two_texts : List ℕ
      two_texts = canon p ++ (shape_text (codes "shape") (length p.vars) c ++ [])

      abbrev two_words : Words
      two_words = of_program ++ (of_shape.words ++ [])

      two_spelt : IsSpelt two_texts two_words
      two_spelt = text_then (canon p) _ of_program _ (the_program p k).spelt (text_then (shape_text (codes "shape") (length p.vars) c) [] of_shape.words [] of_shape.spelt no_text)

      with_shape : HasBareContents Check (document_text unrecorded None) unrecorded
      with_shape =
          read_back Check unrecorded two_texts two_words two_spelt
          (program_then p k (may Shape (may_lists ends) ends) (Same (Some c) None None None) (of_shape.words ++ [])
          (λ q same. (let all = with p q same (Some c) None None None in
          bare p q same (may Shape (may_lists ends) ends) (Some c) None None None (of_shape.words ++ [])
          (comes Shape (may_lists ends) ends (with p q same None None None None) (Is all) (of_shape.words ++ [])
          (shape_then p q same (may_lists ends) (Is all) c of_shape.words [] of_shape.read (no_lists p q same ends all (Is all) [] (over all)))))))

      measured : HasBareContents Measure (document_text unrecorded None) unrecorded
      measured =
          let behind = may Journal behind_journal ends in
          read_back Measure unrecorded two_texts two_words two_spelt
          (program_then p k (needs Shape (may_lists behind)) (Same (Some c) None None None) (of_shape.words ++ [])
          (λ q same. (let all = with p q same (Some c) None None None in
          bare p q same (needs Shape (may_lists behind)) (Some c) None None None (of_shape.words ++ [])
          (shape_then p q same (may_lists behind) (Is all) c of_shape.words [] of_shape.read
          (no_lists p q same behind all (Is all) [] (left_out Journal behind_journal ends all (Is all) [] (over all)))))))

      small_world : length c.bots < 2 ^ 16
      small_world = let most = w.few in omega arith

      module _ (full : Option (List Entry)) (plain : Option (List PlainEntry)) (journal : List ℕ) (of_journal : JournalIsRead p c full plain journal)
          (d : Config) (v : IsWritableConfig version (length p.vars) d) (n : d.maxes ≡ maxes_of p) (marks : Option MarkLists) (turns : TurnsAreRead marks) where
        abbrev of_final : IsReread (IsFinal version (length p.vars) (maxes_of p)) (Is d) (shape_text (codes "final") (length p.vars) d)
        of_final = the_shape p k d v n (codes "final") final_word

        abbrev whole : Contents
        whole = contents (Some p) (Some c) full plain (Some d)

        abbrev last_words : Words
        last_words = of_journal.words ++ (of_final.words ++ turns.words)

        abbrev last_texts : List ℕ
        last_texts = journal ++ (shape_text (codes "final") (length p.vars) d ++ flat_map (λ text. text) (text_of_some turns_text marks))

        abbrev all_words : Words
        all_words = of_program ++ (of_shape.words ++ last_words)

        abbrev all_texts : List ℕ
        all_texts = canon p ++ (shape_text (codes "shape") (length p.vars) c ++ last_texts)

        all_spelt : IsSpelt all_texts all_words
        all_spelt =
            text_then (canon p) _ of_program _ (the_program p k).spelt
            (text_then (shape_text (codes "shape") (length p.vars) c) _ of_shape.words _ of_shape.spelt
            (text_then journal _ of_journal.words _ of_journal.spelt
            (text_then (shape_text (codes "final") (length p.vars) d) _ of_final.words turns.words of_final.spelt turns.spelt)))

        abbrev Recorded : (q : tree.Program) → without_lines q ≡ without_lines p → Contents
        Recorded q same = with p q same (Some c) full plain (Some d)

        -- what stands behind the program, where a journal comes behind the shape
        recorded_by : (behind : Course) → ((q : tree.Program) (same : without_lines q ≡ without_lines p) → Reads (There (needs Journal behind_journal) (with p q same (Some c) None None None)) (Is (Recorded q same)) last_words → Reads (There behind (with p q same (Some c) None None None)) (Is (Recorded q same)) last_words)
            → Reads (There (needs Program (needs Shape (may_lists behind))) start) (Same (Some c) full plain (Some d)) all_words
        recorded_by behind into =
            program_then p k (needs Shape (may_lists behind)) (Same (Some c) full plain (Some d)) (of_shape.words ++ last_words)
            (λ q same. (let all = Recorded q same in
            bare p q same (needs Shape (may_lists behind)) (Some c) full plain (Some d) (of_shape.words ++ last_words)
            (shape_then p q same (may_lists behind) (Is all) c of_shape.words last_words of_shape.read
            (no_lists p q same behind (with p q same (Some c) None None None) (Is all) last_words
            (into q same (record_then p q same c d full plain of_journal.words of_final.words turns.words (of_journal.read q same) of_final.read (turns.read all refl)))))))

        replayed : HasBareContents Replay (first_line ++ all_texts) whole
        replayed = read_back Replay whole all_texts all_words all_spelt (recorded_by (needs Journal behind_journal) (λ q same read. read))

        measured_record : HasBareContents Measure (first_line ++ all_texts) whole
        measured_record =
            read_back Measure whole all_texts all_words all_spelt
            (recorded_by (may Journal behind_journal ends) (λ q same read. comes Journal behind_journal ends (with p q same (Some c) None None None) (Is (Recorded q same)) last_words read))

  -- ---- the law

  -- which journal there is tells whether the version has old values
  in_full : (old : Bool) (es : List Entry) → (old ≡ false → Some es ≡ None) → old ≡ true
  in_full true es none = refl
  in_full false es none = absurd (let no = none refl in cc)

  in_plain : (old : Bool) (ps : List PlainEntry) → (old ≡ true → Some ps ≡ None) → old ≡ false
  in_plain true ps none = absurd (let no = none refl in cc)
  in_plain false ps none = refl

  no_journal : (old : Bool) (o : Option tree.Program) (w d : Option Config) → HasJournalBy old (contents o w None None d) → ⊥
  no_journal true o w d has = absurd cc
  no_journal false o w d has = absurd cc

  abbrev Law : Form → Option tree.Program → Option Config → Option (List Entry) → Option (List PlainEntry) → Option Config → Option MarkLists → Type 0
  Law form o w es ps d marks =
      IsWritableDocument form (contents o w es ps d) marks → HasBareContents form (document_text (contents o w es ps d) marks) (contents o w es ps d)

  module _ (p : tree.Program) (c d : Config) (marks : Option MarkLists) where
    recorded_form : (form : Form) → ((k : IsWritableProgram p) (w : IsWritableConfig version (length p.vars) c) (m : c.maxes ≡ maxes_of p) (full : Option (List Entry)) (plain : Option (List PlainEntry)) (journal : List ℕ) (of_journal : JournalIsRead p c full plain journal)
        (v : IsWritableConfig version (length p.vars) d) (n : d.maxes ≡ maxes_of p) (turns : TurnsAreRead marks) → HasBareContents form (first_line ++ all_texts p k c w m full plain journal of_journal d v n marks turns) (contents (Some p) (Some c) full plain (Some d)))
        → (full : Option (List Entry)) (plain : Option (List PlainEntry)) → Law form (Some p) (Some c) full plain (Some d) marks
    recorded_form form of (Some es) None k =
        let old = in_full (has_old_values version) es k.by_version.1 in
        of k.program k.world.world k.world.maxes (Some es) None (journal_text (length p.vars) es) (full_is_read p k.program c (small_world p k.program c k.world.world k.world.maxes) old es k.entries.few k.entries.each) k.final_world.world k.final_world.maxes (turns_read _ refl marks k.turns)
    recorded_form form of None (Some ps) k =
        let none = in_plain (has_old_values version) ps k.by_version.0 in
        of k.program k.world.world k.world.maxes None (Some ps) (plain_text (length p.vars) ps) (plain_is_read p k.program c (small_world p k.program c k.world.world k.world.maxes) none ps k.plain.few k.plain.each) k.final_world.world k.final_world.maxes (turns_read _ refl marks k.turns)
    recorded_form form of (Some es) (Some ps) k = absurd (let no : true ≡ false = sym (in_full (has_old_values version) es k.by_version.1) ∙ in_plain (has_old_values version) ps k.by_version.0 in cc)
    recorded_form form of None None k = absurd (no_journal (has_old_values version) (Some p) (Some c) (Some d) k.recorded.first)

  of_form : (form : Form) (o : Option tree.Program) (w : Option Config) (es : Option (List Entry)) (ps : Option (List PlainEntry)) (d : Option Config) (marks : Option MarkLists) → Law form o w es ps d marks
  of_form Run o w es ps d marks k = absurd (let no = k.sections.2 in cc)
  of_form Interleave o w es ps d marks k = absurd (let no = k.sections.2 in cc)
  of_form Check None w es ps d marks k = absurd (let no = k.sections.0 in cc)
  of_form Check (Some p) w (Some es) ps d marks k = absurd (let no = k.sections.1.0 in cc)
  of_form Check (Some p) w None (Some ps) d marks k = absurd (let no = k.sections.1.1 in cc)
  of_form Check (Some p) w None None (Some d) marks k = absurd (let no = k.sections.1.2 in cc)
  of_form Check (Some p) w None None None (Some m) k = absurd (let no = k.turns.behind in cc)
  of_form Check (Some p) None None None None None k = only_program p k.program
  of_form Check (Some p) (Some c) None None None None k = with_shape p k.program c k.world.world k.world.maxes
  of_form Replay None w es ps d marks k = absurd (let no = k.sections.0 in cc)
  of_form Replay (Some p) None es ps d marks k = absurd (let no = k.sections.1 in cc)
  of_form Replay (Some p) (Some c) es ps None marks k = absurd (let no = k.sections.3 in cc)
  of_form Replay (Some p) (Some c) es ps (Some d) marks k = recorded_form p c d marks Replay (λ k w m full plain journal of_journal v n turns. replayed p k c w m full plain journal of_journal d v n marks turns) es ps k
  of_form Measure None w es ps d marks k = absurd (let no = k.sections.0 in cc)
  of_form Measure (Some p) None es ps d marks k = absurd (let no = k.sections.1 in cc)
  of_form Measure (Some p) (Some c) (Some es) ps None marks k = absurd (let no = k.recorded.last in cc)
  of_form Measure (Some p) (Some c) None (Some ps) None marks k = absurd (let no = k.recorded.last_plain in cc)
  of_form Measure (Some p) (Some c) None None None (Some m) k = absurd (let no = k.turns.behind in cc)
  of_form Measure (Some p) (Some c) None None None None k = measured p k.program c k.world.world k.world.maxes
  of_form Measure (Some p) (Some c) es ps (Some d) marks k = recorded_form p c d marks Measure (λ k w m full plain journal of_journal v n turns. measured_record p k c w m full plain journal of_journal d v n marks turns) es ps k

pub documents_read_back : DocumentsReadBack
documents_read_back form a marks k =
    let bare : Contents = contents a.version k.version a.checked a.world a.entries a.plain a.final_world in
    let is : a ≡ bare =
    ap (λ (lists : Option CallerLists). record a { lists = lists }) k.no_lists ∙ ap (λ (steps : Option (List ℕ)). record a { lists = None; schedule = steps }) k.no_schedule in
    subst (λ (b : Contents). HasBareContents form (document_text b marks) b) (sym is)
    (of_form a.version k.version form a.checked a.world a.entries a.plain a.final_world marks (subst (λ (b : Contents). IsWritableDocument form b marks) is k))
