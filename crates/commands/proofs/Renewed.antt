-- What `renew` writes is a document on which `replay` agrees.
use Rattle.std.proofs.Common.{◌≡◌, ℕ, ◌≤◌, true, List, [], ◌∷◌, ◌++◌, length, map, get_or, Option, Some, None, inl, inr, codes, decimal, refl, sym, ap, subst, ◌∙◌, true≢false, append_assoc, arith}
use Rattle.std.specs.Prelude.{◌&&◌, nat_le, nat_lt}
use Rattle.std.specs.Fmt.{digits}
use Rattle.std.specs.Option.{option_map, IfSome}
use Rattle.std.specs.List.{All, list_all}
use Rattle.std.proofs.lemmas.Bool.{and_parts, leb-true}
use Rattle.std.proofs.lemmas.List.{append-nil, length-map}
use Rattle.std.proofs.lemmas.List.Elements.{All-nil, All-cons, All-head, All-tail}
use Rattle.text_tokens.specs.Lines.{line_text}
use Rattle.amoebot_state.specs.declared.verdict.Entry.{Entry}
use Rattle.amoebot_state.specs.declared.verdict.PlainEntry.{PlainEntry}
use Rattle.amoebot_state.specs.declared.verdict.Verdict.{Verdict}
use Rattle.amoebot_state.specs.Configs.{Config}
use Rattle.amoebot_state.specs.Zones.{Shown, shown_alone}
use Rattle.amoebot_state.specs.Steps.{Run, plain_entry}
use Rattle.amoebot_state.specs.Laws.{ZoneHasAtMostNineBodies}
use Rattle.claim_core.specs.Limits.{most_turns}
use Rattle.claim_core.proofs.Frames.{IsFramed, framed_first, framed_on}
use Rattle.journal_text.specs.Journals.{WrittenEntry, is_known, named_ids}
use Rattle.journal_text.specs.Limits.{last_caller, last_turn}
use Rattle.journal_text.specs.Rereading.{KeepsLimits}
use Rattle.journal_text.specs.Texts.{journal_text, written_full, written_plain}
use Rattle.shape_text.specs.Texts.{shape_text}
use Rattle.model_ops.specs.Laws.{ActsKeepDeciderLaws}
use Rattle.action_tree.specs.Trees.{Program}
use Rattle.action_tree.specs.Lines.{bare_var, without_lines}
use Rattle.action_print.specs.Canon.{canon}
use Rattle.action_print.specs.ReadsBack.{CanonIgnoresLines}
use Rattle.action_meaning.specs.Laws.{ProgramsDecideByActs, VerdictIgnoresLines}
use Rattle.action_meaning.specs.Verdicts.{verdict_shown}
use Rattle.shape_files.specs.declared.section_kind.Form.TheVariants as form
use Rattle.shape_files.specs.Documents.{Contents, actions_of, bots_of, HasContents}
use Rattle.shape_files.specs.LeastVersions.{DecidedFromEach}
use Rattle.shape_files.specs.Fitting.{AreEntriesOf, DocumentsAreSound, DocumentsFit, FitTogether, IsSoundDocument, IsWorldShape, IsWritableProgram}
use Rattle.shape_files.specs.WholeTexts.{DocumentsReadBack, HasBareContents, IsWritableDocument, IsWritableShape, bare_contents, document_text}
use Rattle.document_answers.specs.Renew.{renewed_text}
use Rattle.commands.specs.declared.words.DocumentCommand.TheVariants.{Renew}
use Rattle.document_answers.specs.declared.status.Status.TheVariants as status
use Rattle.commands.specs.Reads.{whole}
use Rattle.commands.specs.Outcomes.{IsOutcome}
use Rattle.commands.specs.Owed.{served}
use Rattle.commands.specs.RenewLaws.{IsOwedFor, IsRenewed, RenewEndsAsReplay, RenewedIsReplayed, RenewedStays, renewed_contents}
use Rattle.commands.proofs.DocumentWorlds.{drawn, may}
use Rattle.commands.proofs.Entries.{IsNumbered, all_keep_limits}
use Rattle.commands.proofs.Outcomes.{documents_have_outcomes}
use Rattle.commands.proofs.Worlds.{MayRun, is_writable, maxes_are}
use Rattle.document_answers.specs.Journals.{DocumentRecord, TellsEntries}
use Rattle.commands.proofs.JournalLemmas.{JournalAgrees, agreeing_journal, done_journal, ends_as_replay, replay_agrees}
use Rattle.document_answers.proofs.JournalAnswers.{IsRenewedText}

-- what the laws of lower crates say
pub record RenewRules : Type 0 where
  pub fit : DocumentsFit
  pub sound : DocumentsAreSound
  pub read_back : DocumentsReadBack
  pub acts : ProgramsDecideByActs
  pub decide : ActsKeepDeciderLaws
  pub nine : ZoneHasAtMostNineBodies
  pub verdicts : VerdictIgnoresLines
  pub canons : CanonIgnoresLines

-- ---- callers and turns of a document's entries

known_numbers : (bots actions : ℕ) (w : WrittenEntry) → is_known bots actions w ≡ true → (w.caller ≤ last_caller) × (w.turn ≤ last_turn)
known_numbers bots actions w known =
    let front = (and_parts (nat_le w.caller last_caller && nat_le w.turn last_turn && nat_lt w.action actions) (list_all (λ id. nat_lt id bots) (named_ids w)) known).0 in
    let numbers = (and_parts (nat_le w.caller last_caller && nat_le w.turn last_turn) (nat_lt w.action actions) front).0 in
    let both = and_parts (nat_le w.caller last_caller) (nat_le w.turn last_turn) numbers in
    (leb-true w.caller last_caller both.0, leb-true w.turn last_turn both.1)

-- so many entries as there may be, with such callers and turns
record AreNumbered (es : List Entry) : Type 0 where
  few : length es ≤ most_turns
  each : All IsNumbered es

numbered_in_full : (bots actions : ℕ) (es : List Entry) → AreEntriesOf written_full bots actions es → AreNumbered es
numbered_in_full bots actions es are = record {
  few = are.few;
  each = λ k d inside. let by = known_numbers bots actions (written_full (get_or es k d)) (are.known k d inside) in record { caller = by.0; turn = by.1 };
}

-- what holds of what is made of each
of_made : {A B : Type 0} (P : B → Type 0) (f : A → B) (xs : List A) → All P (map f xs) → All (λ x. P (f x)) xs
of_made P f [] all = All-nil (λ x. P (f x))
of_made P f (x ∷ xs) all = All-cons (λ x. P (f x)) x xs (All-head P (f x) (map f xs) all) (of_made P f xs (All-tail P (f x) (map f xs) all))

numbered_in_plain : (bots actions : ℕ) (es : List Entry) → AreEntriesOf written_plain bots actions (map plain_entry es) → AreNumbered es
numbered_in_plain bots actions es are = record {
  few = (let few = are.few in let long = length-map es plain_entry in omega arith);
  each = λ k d inside.
      let known = of_made (λ (p : PlainEntry). is_known bots actions (written_plain p) ≡ true) plain_entry es are.known k d inside in
      let by = known_numbers bots actions (written_plain (plain_entry (get_or es k d))) known in
      record { caller = by.0; turn = by.1 };
}

numbered_of : (a : Contents) (es : List Entry) → FitTogether a → TellsEntries a es → AreNumbered es
numbered_of a es fits (inl its_journal) = numbered_in_full (bots_of a.world) (actions_of a.checked) es (subst (λ (o : Option (List Entry)). IfSome o (AreEntriesOf written_full (bots_of a.world) (actions_of a.checked))) its_journal fits.entries)
numbered_of a es fits (inr its_journal) = numbered_in_plain (bots_of a.world) (actions_of a.checked) es (subst (λ (o : Option (List PlainEntry)). IfSome o (AreEntriesOf written_plain (bots_of a.world) (actions_of a.checked))) its_journal fits.plain)

-- ---- the text

abbrev with_parts : Program → Config → List Entry → Config → Contents
with_parts p start es last = record { version = 3; checked = Some p; world = Some start; lists = None; schedule = None; entries = Some es; plain = None; final_world = Some last }

joined : (one two three four five : List ℕ) → one ++ (two ++ (three ++ (four ++ (five ++ [])))) ≡ one ++ two ++ three ++ four ++ five
joined one two three four five =
    ap (λ (t : List ℕ). one ++ (two ++ (three ++ (four ++ t)))) (append-nil five)
    ∙ sym (append_assoc one two (three ++ (four ++ five))) ∙ sym (append_assoc (one ++ two) three (four ++ five)) ∙ sym (append_assoc (one ++ two ++ three) four five)

is_three : line_text (codes "amoebot" ∷ decimal 3 ∷ []) ≡ line_text (codes "amoebot" ∷ codes "3" ∷ [])
unfolding digits
is_three = refl

text_is_whole : (p : Program) (start : Config) (es : List Entry) (last : Config) → document_text (with_parts p start es last) None ≡ renewed_text p start es last
text_is_whole p start es last =
    let vars = length p.vars in
    joined (line_text (codes "amoebot" ∷ decimal 3 ∷ [])) (canon p) (shape_text (codes "shape") vars start) (journal_text vars es) (shape_text (codes "final") vars last)
    ∙ ap (λ (line : List ℕ). line ++ canon p ++ shape_text (codes "shape") vars start ++ journal_text vars es ++ shape_text (codes "final") vars last) is_three

-- ---- programs that are equal without their lines

module _ (rules : RenewRules) (p q : Program) (same : without_lines q ≡ without_lines p) where
  same_verdicts : verdict_shown q ≡ verdict_shown p
  same_verdicts i s = rules.verdicts q p same (shown_alone s) s.bot i

  same_canon : canon q ≡ canon p
  same_canon = rules.canons q p same

  as_many_vars : length q.vars ≡ length p.vars
  as_many_vars = sym (length-map q.vars bare_var) ∙ ap (λ (r : Program). length r.vars) same ∙ length-map p.vars bare_var

  same_text : (start : Config) (es : List Entry) (last : Config) → renewed_text q start es last ≡ renewed_text p start es last
  same_text start es last i =
      line_text (codes "amoebot" ∷ codes "3" ∷ []) ++ same_canon i ++ shape_text (codes "shape") (as_many_vars i) start
      ++ journal_text (as_many_vars i) es ++ shape_text (codes "final") (as_many_vars i) last

-- what a program without lines was made of
of_bare : (o : Option Program) (r : Program) → option_map without_lines o ≡ Some r → (q : Program) × (o ≡ Some q) × (without_lines q ≡ r)
of_bare None r e = absurd (cc)
of_bare (Some q) r e = (q, refl, (cc))

-- ---- the document

module _ (rules : RenewRules) (bytes : List ℕ) (a : Contents) (h : HasContents form.Replay bytes a) (d : DocumentRecord a) (es : List Entry) (is : JournalAgrees a d es) where
  fits : FitTogether a
  fits = (rules.fit form.Replay bytes a h).together

  sound : IsSoundDocument a
  sound = rules.sound form.Replay bytes a h

  runs : MayRun d.program d.start
  runs = may a d.program d.start fits sound d.its_program d.its_shape

  stands : IsWorldShape d.start
  stands = drawn a d.program d.start fits sound d.its_program d.its_shape

  first : IsFramed d.start d.start
  first = framed_first d.start stands.valid

  last : IsFramed d.start d.final
  last = framed_on (verdict_shown d.program) d.start d.start d.final es first is.agrees

  numbered : AreNumbered es
  numbered = numbered_of a es fits is.told

  abbrev b : Contents
  b = with_parts d.program d.start es d.final

  entries : All (λ e. KeepsLimits (length d.start.bots) (length d.program.actions) (length d.program.vars) (written_full e)) es
  entries = all_keep_limits d.program d.start runs (rules.decide (verdict_shown d.program) (rules.acts d.program)) rules.nine d.final es first numbered.each is.agrees

  shape_is_writable : (c : Config) → IsFramed d.start c → IsWritableShape b c
  shape_is_writable c framed = record { world = is_writable d.program d.start runs c framed 3 (λ none. absurd (true≢false none)); maxes = maxes_are d.program d.start runs c framed }

  writable : IsWritableDocument form.Replay b None
  writable = record {
    version = (omega arith, omega arith);
    sections = (refl, refl, refl, refl);
    recorded = record { last = refl; last_plain = tt; first = refl };
    no_lists = refl;
    no_schedule = refl;
    program = subst (λ (o : Option Program). IfSome o IsWritableProgram) d.its_program sound.program;
    world = shape_is_writable d.start first;
    entries = record { few = numbered.few; each = entries };
    plain = tt;
    by_version = (λ old. refl, λ none. absurd (true≢false none));
    final_world = shape_is_writable d.final last;
    turns = tt;
  }

  again : HasBareContents form.Replay (document_text b None) b
  again = rules.read_back form.Replay b None writable

  abbrev its_bare : (q : Program) × (again.contents.checked ≡ Some q) × (without_lines q ≡ without_lines d.program)
  its_bare = of_bare again.contents.checked (without_lines d.program) (ap (λ (c : Contents). c.checked) again.same)

  abbrev its_record : DocumentRecord again.contents
  its_record = record {
    program = its_bare.0;
    start = d.start;
    final = d.final;
    its_program = its_bare.1;
    its_shape = ap (λ (c : Contents). c.world) again.same;
    its_final = ap (λ (c : Contents). c.final_world) again.same;
  }

  its_entries : again.contents.entries ≡ Some es
  its_entries = ap (λ (c : Contents). c.entries) again.same

  it_agrees : JournalAgrees again.contents its_record es
  it_agrees = record {
    told = inl its_entries;
    agrees = subst (λ (f : Shown → Verdict). Run f d.start es d.final) (sym (same_verdicts rules d.program its_bare.0 its_bare.2)) is.agrees;
  }

  abbrev renewed : List ℕ
  renewed = renewed_text d.program d.start es d.final

  document : HasContents form.Replay renewed again.contents
  document = subst (λ (t : List ℕ). HasContents form.Replay t again.contents) (text_is_whole d.program d.start es d.final) again.has

  -- these are the parts of the document
  its_parts : b ≡ renewed_contents a es
  its_parts i = record { version = 3; checked = sym d.its_program i; world = sym d.its_shape i; lists = None; schedule = None; entries = Some es; plain = None; final_world = sym d.its_final i }

  is_renewed : IsRenewed a renewed
  is_renewed = record {
    entries = es;
    told = is.told;
    document = record { contents = again.contents; has = document; same = again.same ∙ ap bare_contents its_parts };
    agrees = replay_agrees renewed again.contents its_record es document it_agrees;
  }

  stays : IsOwedFor Renew (whole renewed) status.Done renewed
  stays = subst (IsOwedFor Renew (whole renewed) status.Done) (same_text rules d.program its_bare.0 its_bare.2 d.start es d.final)
      (served Renew renewed again.contents status.Done None (renewed_text its_bare.0 d.start es d.final) document (its_record, agreeing_journal again.contents its_record (IsRenewedText again.contents its_record) es (renewed_text its_bare.0 d.start es d.final) it_agrees refl))

renewed_outcome : RenewRules → (bytes : List ℕ) (a : Contents) (text : List ℕ) → HasContents form.Replay bytes a → IsOutcome a Renew status.Done None text → IsRenewed a text
renewed_outcome rules bytes a text h (d, x) =
    let by = done_journal a d (IsRenewedText a d) text x in
    subst (IsRenewed a) (sym by.is_text) (is_renewed rules bytes a h d by.entries by.agrees)

pub renewed_is_replayed : RenewRules → DecidedFromEach → RenewedIsReplayed
renewed_is_replayed rules documents bytes text a h owed within = renewed_outcome rules bytes a text h (documents_have_outcomes documents Renew bytes a status.Done None text h owed)

outcome_stays : RenewRules → (bytes : List ℕ) (a : Contents) (text : List ℕ) → HasContents form.Replay bytes a → IsOutcome a Renew status.Done None text → IsOwedFor Renew (whole text) status.Done text
outcome_stays rules bytes a text h (d, x) =
    let by = done_journal a d (IsRenewedText a d) text x in
    subst (λ (t : List ℕ). IsOwedFor Renew (whole t) status.Done t) (sym by.is_text) (stays rules bytes a h d by.entries by.agrees)

pub renewed_stays : RenewRules → RenewedStays
renewed_stays rules bytes text (served c same a s report t h is) within = outcome_stays rules bytes a text h is

-- ---- how it ends

pub renew_ends_as_replay : RenewEndsAsReplay
renew_ends_as_replay read = ends_as_replay Renew IsRenewedText
    (λ bytes a h. h) (λ bytes a h. h) (λ bytes r x. x) (λ bytes r x. x) (λ a s report text is. is) (λ a s report text d x. (d, x))
    (λ bytes a d es h agrees. (renewed_text d.program d.start es d.final, refl)) read
