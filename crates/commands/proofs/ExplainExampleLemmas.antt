-- The answers of the samples of version 3, and of `rewind`, `rounds` and `elect`.
use Rattle.std.proofs.Common.{subst, ◌≡◌, ◌<◌, ◌≤◌, ◌∙◌, ℕ, [], ◌∷◌, ◌++◌, length, get_or, None, Some, Ok, Err, refl, ap, sym, arith, List}
use Rattle.std.specs.Fmt.{digits}
use Rattle.std.proofs.lemmas.List.Elements.{All-head}
use Rattle.text_tokens.specs.Kinds.{name}
use Rattle.tri_lattice.specs.Extent.{Extent}
use Rattle.amoebot_state.specs.declared.cell.Cell.{Cell}
use Rattle.amoebot_state.specs.declared.cell.Cell.TheVariants as cell
use Rattle.amoebot_state.specs.declared.cell.CellName.{CellName}
use Rattle.amoebot_state.specs.declared.cell.CellName.TheVariants as cell_name
use Rattle.amoebot_state.specs.declared.verdict.Entry.{Entry}
use Rattle.amoebot_state.specs.declared.verdict.Verdict.{Verdict}
use Rattle.amoebot_state.specs.declared.verdict.Verdict.TheVariants as verdict
use Rattle.amoebot_state.specs.Configs.{value}
use Rattle.amoebot_state.specs.Pairs.{Triples, cell_of, cell_value}
use Rattle.amoebot_state.specs.Steps.{Step}
use Rattle.claim_core.specs.Laws.{ReachedIsGood}
use Rattle.rewind_log.specs.Rewinds.{IsBack, IsLastNoStep}
use Rattle.rewind_log.specs.Unwinding.{HasSameFrame, at_place, no_way_back, other_frame}
use Rattle.round_meter.specs.Rounds.{IsRounded, no_round}
use Rattle.action_tree.specs.Trees.{Program}
use Rattle.action_meaning.specs.Verdicts.{verdict_shown}
use Rattle.shape_files.specs.declared.section_kind.Form.TheVariants as form
use Rattle.shape_files.specs.Documents.{HasContents, HasContentsFrom}
use Rattle.shape_files.specs.DocumentRows.{out}
use Rattle.small_worlds.specs.Rows.{node, bot_in_row}
use Rattle.shape_files.proofs.LeastVersionsLemmas.{later_is_document}
use Rattle.election_law.specs.Elections.{IsErosion}
use Rattle.commands.specs.WorkExamples.{nobody, one_alone}
use Rattle.document_answers.specs.Journals.{at_entry, DocumentRecord, in_full, agreeing, differing, JournalOutcome, in_plain, differs_line}
use Rattle.commands.specs.declared.words.DocumentCommand.TheVariants.{Replay, Renew, Rewind, Rounds, Elect}
use Rattle.commands.specs.Words.{is_number_word, number_of, of_two_words}
use Rattle.document_answers.specs.declared.status.Status.TheVariants as status
use Rattle.document_answers.specs.Rewind.{no_such_place, no_place, unwound, not_unwound}
use Rattle.commands.specs.Lines.{not_erosion}
use Rattle.commands.specs.Owed.{refused, served}
use Rattle.commands.specs.Examples.{with_shape, expansion_journal, spread_text, still_text, spread_config, expansion, and_journal}
use Rattle.commands.specs.ExplainExamples.{SmallExplanations, full_text, still_full_text, wide_full_text, other_old_text, recorded_with_nobody, wide_spread, other_expansion, and_entry, and_full_journal, and_empty_journal, early_refused}
use Rattle.commands.proofs.ExampleLemmas.{good, its_record, its_journal_differs, valid, spread_is_valid}
use Rattle.commands.proofs.SmallDocuments.{are_answered, says, says_since}
use Rattle.commands.specs.Elect.{no_erosion}
use Rattle.document_answers.specs.Replay.{agrees_line}
use Rattle.document_answers.specs.Renew.{renewed_text}
use Rattle.document_answers.specs.Rounds.{IsRoundsText}

abbrev its_full_record : DocumentRecord (and_full_journal spread_config)
its_full_record = record { program = out; start = one_alone; final = spread_config; its_program = refl; its_shape = refl; its_final = refl }

abbrev its_still_record : DocumentRecord (and_full_journal one_alone)
its_still_record = record { program = out; start = one_alone; final = one_alone; its_program = refl; its_shape = refl; its_final = refl }

abbrev its_wide_record : DocumentRecord (and_full_journal wide_spread)
its_wide_record = record { program = out; start = one_alone; final = wide_spread; its_program = refl; its_shape = refl; its_final = refl }

abbrev its_other_record : DocumentRecord (and_entry other_expansion spread_config)
its_other_record = record { program = out; start = one_alone; final = spread_config; its_program = refl; its_shape = refl; its_final = refl }

abbrev its_empty_record : DocumentRecord and_empty_journal
its_empty_record = record { program = out; start = nobody; final = nobody; its_program = refl; its_shape = refl; its_final = refl }

-- `rewind` asks for version 3, and the other commands for a document
since_version_3 : HasContentsFrom 3 form.Replay full_text (and_full_journal spread_config)
since_version_3 = says_since 3 form.Replay full_text (Ok (and_full_journal spread_config)) are_answered.full_journal

in_full_text : HasContents form.Replay full_text (and_full_journal spread_config)
in_full_text = (later_is_document 3 form.Replay full_text (and_full_journal spread_config) (omega arith) since_version_3).0

same_frame : HasSameFrame one_alone spread_config
same_frame = record { area = refl; walls = refl; size = refl }

another_frame : ¬ HasSameFrame one_alone wide_spread
another_frame same = let wide : ◌≡◌ {A = ℕ} 4 3 = ap (λ (a : Extent). a.w) same.area in omega (arith, wide)

-- the entry puts the amoebot on a node on which nobody stands in the end
nowhere_back : IsLastNoStep (verdict_shown out) one_alone (expansion ∷ []) 0 0
nowhere_back = record {
  above = omega arith;
  entry = expansion;
  there = refl;
  world = one_alone;
  behind = record { within = omega arith; valid = valid; run = refl };
  none = λ old its_valid s.
      let on : value one_alone (cell_name.Spot (node 2)) ≡ Some (cell.Spot (Some 0)) = All-head (λ (p : CellName × Cell). value one_alone (cell_of p) ≡ Some (cell_value p)) (cell_name.Spot (node 2), cell.Spot (Some 0)) ((cell_name.Body 0, cell.Body (bot_in_row 2 1)) ∷ []) s.patched.given in
      cc;
}

-- the change that is decided has the old values that were found
abbrev changes_of : Verdict → Triples
changes_of verdict.Idle = []
changes_of (verdict.Failed f) = []
changes_of (verdict.Change change) = change.patch

-- without an entry no round ends, and without an amoebot nobody waits
no_rounds : IsRounded (verdict_shown out) nobody [] 0 0
no_rounds = record {
  start = 0;
  ended = no_round;
  unended = λ k ends. (let above : 0 < k = ends.above in let within : k ≤ 0 = ends.within in absurd (omega arith));
  waits = record { settled = []; each = refl; told = λ b below. absurd (omega (arith, below)); count = refl };
}

other_program : ¬ IsErosion out
other_program same = let two : ◌≡◌ {A = ℕ} 0 2 = ap (λ (p : Program). length p.vars) same in omega (arith, two)

module _ (goods : ReachedIsGood) where
  back_to_start : IsBack (verdict_shown out) spread_config (expansion ∷ []) 0 one_alone
  back_to_start = record { within = omega arith; valid = valid; run = (good goods).run }

  back_at_end : IsBack (verdict_shown out) spread_config (expansion ∷ []) 1 spread_config
  back_at_end = record { within = omega arith; valid = spread_is_valid goods; run = refl }

  full_agrees : (IsText : List Entry → List ℕ → Type 0) (text : List ℕ) → IsText (expansion ∷ []) text → JournalOutcome (and_full_journal spread_config) its_full_record IsText status.Done None text
  full_agrees IsText text is = in_full (expansion ∷ []) refl (agreeing (expansion ∷ []) text refl (good goods).run is)

  other_differs : (IsText : List Entry → List ℕ → Type 0) → JournalOutcome (and_entry other_expansion spread_config) its_other_record IsText (status.Differs 0) None (differs_line 0)
  other_differs IsText = in_full (other_expansion ∷ []) refl (differing 0 (at_entry 0 (record {
    entry = other_expansion;
    there = refl;
    world = one_alone;
    before = record { source = []; tells = refl; holds = refl };
    none = λ new by.
        let step : Step (verdict_shown out) one_alone other_expansion new = subst (λ (e : Entry). Step (verdict_shown out) one_alone e new) by.tells by.holds in
        let same : expansion.patch ≡ other_expansion.patch = ap changes_of (sym (good goods).run.1.decided ∙ step.decided) in
        let first : cell.Spot None ≡ cell.Spot (Some 0) = ap (λ (ts : Triples). (get_or ts 0 (cell_name.Body 0, cell.Spot None, cell.Spot None)).1) same in
        cc;
  })))

  pub small_explanations : SmallExplanations
  unfolding digits name of_two_words number_of is_number_word
  small_explanations = record {
    agrees_in_full = served Replay full_text (and_full_journal spread_config) status.Done None _ in_full_text
        (its_full_record, full_agrees (λ es text. text ≡ agrees_line (length es)) _ refl);
    renew_in_full = served Renew full_text (and_full_journal spread_config) status.Done None _ in_full_text
        (its_full_record, full_agrees (λ es text. text ≡ renewed_text out one_alone es spread_config) _ refl);
    other_old = served Replay other_old_text (and_entry other_expansion spread_config) (status.Differs 0) None _ (says form.Replay other_old_text (Ok (and_entry other_expansion spread_config)) are_answered.other_old)
        (its_other_record, other_differs (λ es text. text ≡ agrees_line (length es)));
    renew_other_old = served Renew other_old_text (and_entry other_expansion spread_config) (status.Differs 0) None _ (says form.Replay other_old_text (Ok (and_entry other_expansion spread_config)) are_answered.other_old)
        (its_other_record, other_differs (λ es text. text ≡ renewed_text out one_alone es spread_config));
    first_place = served (Rewind 0) full_text (and_full_journal spread_config) status.Done None _ since_version_3
        (unwound its_full_record (expansion ∷ []) one_alone refl (omega arith) (at_place one_alone same_frame back_to_start));
    last_place = served (Rewind 1) full_text (and_full_journal spread_config) status.Done None _ since_version_3
        (unwound its_full_record (expansion ∷ []) spread_config refl (omega arith) (at_place spread_config same_frame back_at_end));
    no_place = served (Rewind 2) full_text (and_full_journal spread_config) (status.Refused no_such_place) None _ since_version_3
        (no_place its_full_record (expansion ∷ []) refl (omega arith));
    no_way_back = served (Rewind 0) still_full_text (and_full_journal one_alone) (status.Differs 0) None _ (says_since 3 form.Replay still_full_text (Ok (and_full_journal one_alone)) are_answered.still_journal)
        (not_unwound its_still_record (expansion ∷ []) 0 refl (omega arith) (no_way_back 0 (record { area = refl; walls = refl; size = refl }) nowhere_back));
    other_frame = served (Rewind 1) wide_full_text (and_full_journal wide_spread) (status.Differs 1) None _ (says_since 3 form.Replay wide_full_text (Ok (and_full_journal wide_spread)) are_answered.wide_journal)
        (not_unwound its_wide_record (expansion ∷ []) 1 refl (omega arith) (other_frame another_frame));
    early = refused (Rewind 0) (with_shape ++ expansion_journal ++ spread_text) early_refused (says_since 3 form.Replay (with_shape ++ expansion_journal ++ spread_text) (Err early_refused) are_answered.early);
    rounds = served Rounds recorded_with_nobody and_empty_journal status.Done None _ (says form.Replay recorded_with_nobody (Ok and_empty_journal) are_answered.empty_journal)
        (its_empty_record, in_plain [] refl (agreeing [] _ refl refl (record { rounds = 0; waiting = 0; counted = no_rounds; whole = refl })));
    rounds_differ = served Rounds (with_shape ++ expansion_journal ++ still_text) (and_journal one_alone) (status.Differs 1) None _ (says form.Replay (with_shape ++ expansion_journal ++ still_text) (Ok (and_journal one_alone)) are_answered.other_final)
        (its_record one_alone, its_journal_differs goods (IsRoundsText (verdict_shown out) one_alone));
    elect = served Elect recorded_with_nobody and_empty_journal (status.Refused not_erosion) None _ (says form.Replay recorded_with_nobody (Ok and_empty_journal) are_answered.empty_journal)
        (no_erosion its_empty_record other_program);
  }
