-- The answers of the samples: the steps of the schedule are computed, and what they leave is also what the turns leave.
use Rattle.std.proofs.Common.{◌≡◌, ℕ, List, replicate, [], ◌∷◌, ◌++◌, Some, None, Ok, Err, zero, suc, refl, ap, arith, codes, subst, sym, length}
use Rattle.std.specs.Prelude.{is_some, reverse}
use Rattle.std.specs.Fmt.{digits}
use Rattle.std.specs.List.{All}
use Rattle.std.proofs.lemmas.List.Elements.{All-nil, All-cons}
use Rattle.text_tokens.specs.Kinds.{name}
use Rattle.amoebot_state.specs.Configs.{Config, IsValid, bot_at, occupant}
use Rattle.amoebot_state.specs.Steps.{plain_entry}
use Rattle.serial_model.specs.Replays.{RunIn}
use Rattle.amoebot_state.proofs.Faults.{frame_valid, valid_one}
use Rattle.amoebot_state.proofs.Occupants.{in_range_of}
use Rattle.model_ops.proofs.ActsDecide.{acts_keep_decider_laws}
use Rattle.claim_core.specs.Turns.{IsList}
use Rattle.claim_core.specs.Good.{Good}
use Rattle.claim_core.specs.Machine.{Setup, after, setup}
use Rattle.claim_core.specs.Soundness.{IsSetup}
use Rattle.claim_core.specs.Reached.{HaveEnded, IsReportOf, Reached}
use Rattle.claim_core.specs.Laws.{ReachedIsGood, OneListIsSerial}
use Rattle.claim_core.specs.Tickets.{TicketReached, ticket_after}
use Rattle.action_meaning.specs.Verdicts.{verdict_shown}
use Rattle.action_meaning.proofs.Decided.{programs_decide_by_acts}
use Rattle.shape_files.specs.declared.section_kind.Form.TheVariants as form
use Rattle.shape_files.specs.DocumentRows.{program_text, out, only_program}
use Rattle.small_worlds.specs.Rows.{row_area, row_frame, node, bot_in_row}
use Rattle.claim_core.specs.declared.report.Report.{Report}
use Rattle.document_answers.specs.Reports.{report_text, DocumentLists, reported}
use Rattle.document_answers.specs.Interleave.{IsScheduled}
use Rattle.document_answers.specs.Journals.{at_end, DocumentRecord, in_plain, agreeing, differing, JournalOutcome, differs_line}
use Rattle.commands.specs.WorkExamples.{nobody, one_alone}
use Rattle.commands.proofs.Measures.{nobody_is_measured}
use Rattle.small_worlds.proofs.Rows.{is_area, one_id, IsThereIn, one_has_ended, two_have_ended}
use Rattle.shipped_programs.specs.declared.shipped.Shipped.TheVariants.{Line}
use Rattle.commands.specs.declared.words.DocumentCommand.TheVariants.{Run, Interleave, Replay, Check, Measure, Renew, Tickets}
use Rattle.commands.specs.declared.words.Command.TheVariants.{Document}
use Rattle.document_answers.specs.declared.status.Status.TheVariants as status
use Rattle.commands.specs.Reads.{whole}
use Rattle.commands.specs.Owed.{IsOwed, usage, read_fault, longer, refused, served, shown}
use Rattle.commands.specs.Tasks.{of_document}
use Rattle.commands.specs.Words.{is_number_word, of_two_words, number_of}
use Rattle.commands.specs.Examples.{with_shape, with_nobody, with_list, with_two_lists, with_schedule, expansion_journal, spread_text, still_text, spread_config, one_list, two_lists, schedule, expansion, and_nobody, and_list, and_two_lists, and_schedule, and_journal, expansion_report, expansion_report_text, renewed_expansion, two_callers_report, both_text, empty_refused, SmallAnswers}
use Rattle.commands.proofs.SmallDocuments.{says, are_answered}
use Rattle.document_answers.specs.Texts.{written}
use Rattle.document_answers.specs.Replay.{agrees_line}
use Rattle.document_answers.specs.Renew.{renewed_text}
use Rattle.amoebot_state.specs.declared.verdict.Entry.{Entry}

abbrev g : Setup
g = setup (verdict_shown out) one_alone one_list

pub valid : IsValid one_alone
valid = valid_one row_frame (frame_valid row_frame is_area refl) (bot_in_row 1 1) (in_range_of row_area is_area (bot_in_row 1 1) refl refl (omega arith) refl) refl

only_bot : All (IsThereIn one_alone) (0 ∷ [])
only_bot = All-cons (IsThereIn one_alone) 0 [] refl (All-nil (IsThereIn one_alone))

may_run : IsSetup g
may_run = record {
  valid = valid;
  few = omega arith;
  lists = record { few = record { at_most_16 = omega arith; in_all = omega arith }; each = All-cons IsList (0 ∷ []) [] (one_id 0) (All-nil IsList) };
  bots = All-cons (All (IsThereIn one_alone)) (0 ∷ []) [] only_bot (All-nil (All (IsThereIn one_alone)));
  touches = λ c i change d. (acts_keep_decider_laws (verdict_shown out) (programs_decide_by_acts out) c i change d).touches;
  leads = λ c i change d. (acts_keep_decider_laws (verdict_shown out) (programs_decide_by_acts out) c i change d).leads;
}

ended : HaveEnded (after g (reverse schedule))
ended = one_has_ended (after g (reverse schedule)) _ refl refl

same_ids : (i : ℕ) → is_some (bot_at spread_config i) ≡ is_some (bot_at one_alone i)
same_ids zero = refl
same_ids (suc i) = refl

left : IsReportOf g (after g (reverse schedule)) expansion_report
left = record { first = refl; entries = refl; world = record { same = record { rest = refl; size = refl; ids = same_ids }; values = refl }; marks = refl }

reached : Reached g expansion_report
reached = record { steps = reverse schedule; ended = ended; left = left }

-- where commits draw their places, the same steps give it
drawn : TicketReached g expansion_report
drawn = record {
  steps = reverse schedule;
  ended = one_has_ended (ticket_after g (reverse schedule)) _ refl refl;
  left = record { first = refl; entries = refl; world = record { same = record { rest = refl; size = refl; ids = same_ids }; values = refl }; marks = refl };
}

-- two lists of one turn each, whose callers make their steps one after the other
abbrev both : Setup
both = setup (verdict_shown out) one_alone two_lists

both_may_run : IsSetup both
both_may_run = record {
  valid = valid;
  few = omega arith;
  lists = record { few = record { at_most_16 = omega arith; in_all = omega arith }; each = All-cons IsList (0 ∷ []) ((0 ∷ []) ∷ []) (one_id 0) (All-cons IsList (0 ∷ []) [] (one_id 0) (All-nil IsList)) };
  bots = All-cons (All (IsThereIn one_alone)) (0 ∷ []) ((0 ∷ []) ∷ []) only_bot (All-cons (All (IsThereIn one_alone)) (0 ∷ []) [] only_bot (All-nil (All (IsThereIn one_alone))));
  touches = may_run.touches;
  leads = may_run.leads;
}

abbrev steps_of_both : List ℕ
steps_of_both = replicate 20 1 ++ replicate 20 0

both_ended : HaveEnded (after both steps_of_both)
both_ended = two_have_ended (after both steps_of_both) _ _ refl refl refl

both_reached : Reached both two_callers_report
both_reached = record { steps = steps_of_both; ended = both_ended; left = record { first = refl; entries = refl; world = record { same = record { rest = refl; size = refl; ids = same_ids }; values = refl }; marks = refl } }

both_drawn : TicketReached both two_callers_report
both_drawn = record {
  steps = steps_of_both;
  ended = two_have_ended (ticket_after both steps_of_both) _ _ refl refl refl;
  left = record { first = refl; entries = refl; world = record { same = record { rest = refl; size = refl; ids = same_ids }; values = refl }; marks = refl };
}

scheduled : IsScheduled g schedule expansion_report
scheduled = record { count = 0; ended = ended; first = λ n lt. absurd (omega arith); left = left }

-- what the documents have
abbrev its_lists : DocumentLists and_list
its_lists = record { program = out; start = one_alone; lists = one_list; its_program = refl; its_shape = refl; its_lists = refl }

abbrev its_two_lists : DocumentLists and_two_lists
its_two_lists = record { program = out; start = one_alone; lists = two_lists; its_program = refl; its_shape = refl; its_lists = refl }

abbrev its_schedule : DocumentLists and_schedule
its_schedule = record { program = out; start = one_alone; lists = one_list; its_program = refl; its_shape = refl; its_lists = refl }

abbrev pub its_record : (final : Config) → DocumentRecord (and_journal final)
its_record final = record { program = out; start = one_alone; final = final; its_program = refl; its_shape = refl; its_final = refl }

module _ (goods : ReachedIsGood) where
  pub good : Good (verdict_shown out) one_alone one_list expansion_report
  good = goods g may_run expansion_report reached

  -- the last world of a run is valid
  pub spread_is_valid : IsValid spread_config
  spread_is_valid = subst IsValid (sym good.run.2) good.run.1.patched.valid

  both_good : Good (verdict_shown out) one_alone two_lists two_callers_report
  both_good = goods both both_may_run two_callers_report both_reached

  -- its entry without its old values is that of a run
  plain_run : RunIn plain_entry (verdict_shown out) one_alone (plain_entry expansion ∷ []) spread_config
  plain_run = record { source = expansion ∷ []; tells = refl; holds = good.run }

  its_journal_agrees : (IsText : List Entry → List ℕ → Type 0) (text : List ℕ) → IsText (expansion ∷ []) text → JournalOutcome (and_journal spread_config) (its_record spread_config) IsText status.Done None text
  its_journal_agrees IsText text is = in_plain (plain_entry expansion ∷ []) refl (agreeing (expansion ∷ []) text refl good.run is)

  pub its_journal_differs : (IsText : List Entry → List ℕ → Type 0) → JournalOutcome (and_journal one_alone) (its_record one_alone) IsText (status.Differs 1) None (differs_line 1)
  its_journal_differs IsText = in_plain (plain_entry expansion ∷ []) refl (differing 1 (at_end spread_config plain_run (λ same. let e = ap (λ (c : Config). occupant c (node 2)) same in cc)))

module _ (goods : ReachedIsGood) (serials : OneListIsSerial) where
  -- each good report that an interleaving gives is owed
  owes_report : (report : Report) → Good (verdict_shown out) one_alone one_list report → Reached g report → IsOwed (Some (Document Run)) (whole with_list) status.Done (Some report) (report_text 1 0 report)
  owes_report report its_good its_reached = served Run with_list and_list status.Done (Some report) (report_text 1 0 report) (says form.Run with_list (Ok and_list) are_answered.list)
      (reported its_lists report (record { good = its_good; reached = its_reached; serial = λ few. serials (verdict_shown out) one_alone one_list report few its_good }))

  owes_tickets : (report : Report) → Good (verdict_shown out) one_alone one_list report → TicketReached g report → IsOwed (Some (Document Tickets)) (whole with_list) status.Done (Some report) (report_text 1 0 report)
  owes_tickets report its_good its_reached = served Tickets with_list and_list status.Done (Some report) (report_text 1 0 report) (says form.Run with_list (Ok and_list) are_answered.list)
      (reported its_lists report (record { good = its_good; reached = its_reached; serial = λ few. serials (verdict_shown out) one_alone one_list report few its_good }))

  pub small_answers : SmallAnswers
  unfolding digits name of_two_words number_of is_number_word
  small_answers = record {
    no_words = usage;
    two_words = usage;
    other_name = usage;
    other_number = usage;
    fails = read_fault Run (codes "amoe");
    long = λ bytes. longer Check bytes;
    empty = refused Interleave [] empty_refused (says form.Interleave [] (Err empty_refused) are_answered.empty);
    run = owes_report expansion_report (good goods) reached;
    two_lists = served Run with_two_lists and_two_lists status.Done (Some two_callers_report) both_text (says form.Run with_two_lists (Ok and_two_lists) are_answered.two_lists) (reported its_two_lists two_callers_report (record { good = both_good goods; reached = both_reached; serial = λ few. absurd (omega arith) }));
    tickets = owes_tickets expansion_report (good goods) drawn;
    two_with_tickets = served Tickets with_two_lists and_two_lists status.Done (Some two_callers_report) both_text (says form.Run with_two_lists (Ok and_two_lists) are_answered.two_lists) (reported its_two_lists two_callers_report (record { good = both_good goods; reached = both_drawn; serial = λ few. absurd (omega arith) }));
    interleave = served Interleave with_schedule and_schedule status.Done (Some expansion_report) expansion_report_text (says form.Interleave with_schedule (Ok and_schedule) are_answered.schedule) (reported its_schedule expansion_report (schedule, refl, record { good = good goods; reached = reached; scheduled = scheduled }));
    agrees = served Replay (with_shape ++ expansion_journal ++ spread_text) (and_journal spread_config) status.Done None (codes "agrees 1\n") (says form.Replay (with_shape ++ expansion_journal ++ spread_text) (Ok (and_journal spread_config)) are_answered.journal) (its_record spread_config, its_journal_agrees goods (λ es text. text ≡ agrees_line (length es)) (codes "agrees 1\n") refl);
    differs = served Replay (with_shape ++ expansion_journal ++ still_text) (and_journal one_alone) (status.Differs 1) None (codes "differs 1\n") (says form.Replay (with_shape ++ expansion_journal ++ still_text) (Ok (and_journal one_alone)) are_answered.other_final) (its_record one_alone, its_journal_differs goods (λ es text. text ≡ agrees_line (length es)));
    renew = served Renew (with_shape ++ expansion_journal ++ spread_text) (and_journal spread_config) status.Done None renewed_expansion (says form.Replay (with_shape ++ expansion_journal ++ spread_text) (Ok (and_journal spread_config)) are_answered.journal) (its_record spread_config, its_journal_agrees goods (λ es text. text ≡ renewed_text out one_alone es spread_config) renewed_expansion refl);
    renew_differs = served Renew (with_shape ++ expansion_journal ++ still_text) (and_journal one_alone) (status.Differs 1) None (codes "differs 1\n") (says form.Replay (with_shape ++ expansion_journal ++ still_text) (Ok (and_journal one_alone)) are_answered.other_final) (its_record one_alone, its_journal_differs goods (λ es text. text ≡ renewed_text out one_alone es one_alone));
    check = served Check program_text only_program status.Done None _ (says form.Check program_text (Ok only_program) are_answered.program) (written _ (out, refl, refl));
    show = shown Line;
    measure = served Measure with_nobody and_nobody status.Done None _ (says form.Measure with_nobody (Ok and_nobody) are_answered.nobody) (written _ (nobody, refl, nobody_is_measured));
    refused_task = (refused Interleave [] empty_refused (says form.Interleave [] (Err empty_refused) are_answered.empty), λ worked done. cc);
    run_task = record {
      its_maker = refl;
      its_lists = of_document Run with_list and_list (says form.Run with_list (Ok and_list) are_answered.list) refl refl refl refl refl;
      there = may_run.bots;
      few = λ report its_good. tt;
      owed = λ report text its_good its_reached tells. subst (λ (t : List ℕ). IsOwed (Some (Document Run)) (whole with_list) status.Done (Some report) t) (sym tells) (owes_report report its_good its_reached);
    };
    tickets_task = record {
      its_maker = refl;
      its_lists = of_document Tickets with_list and_list (says form.Run with_list (Ok and_list) are_answered.list) refl refl refl refl refl;
      there = may_run.bots;
      few = λ report its_good. tt;
      owed = λ report text its_good its_reached tells. subst (λ (t : List ℕ). IsOwed (Some (Document Tickets)) (whole with_list) status.Done (Some report) t) (sym tells) (owes_tickets report its_good its_reached);
    };
  }
