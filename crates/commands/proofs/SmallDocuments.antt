-- The documents of the samples are read, by computing.
use Rattle.std.proofs.Common.{◌≡◌, ℕ, List, [], ◌++◌, Result, Ok, Err, refl, subst}
use Rattle.text_tokens.specs.declared.refusal.Refusal.{Refusal}
use Rattle.text_tokens.specs.declared.refusal.RefusalKind.TheVariants.{Trailing}
use Rattle.text_tokens.specs.Cursor.{same_kind}
use Rattle.text_tokens.specs.Scan as scan
use Rattle.text_tokens.specs.Scan.{ahead_of, last_of}
use Rattle.text_tokens.specs.Reading.{one_within, the_line, numeral, either, by_role, limited, times, elements, repeated, whole_input}
use Rattle.text_tokens.specs.Inputs.{TellsInput}
use Rattle.text_tokens.proofs.Blanks.{point}
use Rattle.text_tokens.proofs.PromisesLemmas.{tokens_of_text}
use Rattle.action_tree.specs.Roles.{role, same_role}
use Rattle.action_tree.specs.ExpressionReaders.{a_selection, a_port, a_term, a_minus, a_sum, a_unit, a_conj, an_expr, inside}
use Rattle.action_tree.specs.StatementReaders.{an_if, a_for, a_stmt, all_stmts, stmts_inside}
use Rattle.action_tree.specs.ProgramReaders.{a_move, an_action, a_var, a_guarded, a_program}
use Rattle.journal_text.specs.Readers as journal
use Rattle.shape_text.specs.PartReaders as part
use Rattle.shape_text.specs.Readers as shape
use Rattle.schedule_text.specs.Readers as schedule
use Rattle.shape_files.specs.declared.section_kind.Form.{Form}
use Rattle.shape_files.specs.declared.section_kind.Form.TheVariants as form
use Rattle.shape_files.specs.FrameReaders.{rest_at, header_from, in_frame_from}
use Rattle.shape_files.specs.Documents.{Contents, IsDocumentFrom, FormSaysFrom, FormSays}
use Rattle.shape_files.specs.Frame.{least_version}
use Rattle.shape_files.specs.DocumentRows.{program_text, only_program}
use Rattle.shape_files.specs.DocumentReaders.{a_checked_program, journal_body, body, document_from}
use Rattle.shape_files.proofs.DocumentsLemmas.{framed_from, says_from}
use Rattle.commands.specs.WorkExamples.{one_alone}
use Rattle.commands.specs.Examples.{with_shape, with_nobody, with_list, with_two_lists, with_schedule, expansion_journal, spread_text, still_text, spread_config, and_nobody, and_list, and_two_lists, and_schedule, and_journal, empty_refused}
use Rattle.commands.specs.ExplainExamples.{full_text, still_full_text, wide_full_text, other_old_text, recorded_with_nobody, wide_spread, other_expansion, and_entry, and_full_journal, and_empty_journal, early_refused}

abbrev pub answer_from : ℕ → Form → List ℕ → Result Contents Refusal
answer_from least form text = whole_input Trailing (document_from least form) (last_of (point text 0)) (ahead_of (point text 0))

abbrev pub answer_of : Form → List ℕ → Result Contents Refusal
answer_of form text = answer_from least_version form text

-- what the reader answers is what the text is
pub says_since : (least : ℕ) (form : Form) (text : List ℕ) (r : Result Contents Refusal) → answer_from least form text ≡ r → FormSaysFrom least form text r
says_since least form text r e = says_from least form text r (ahead_of (point text 0)) (last_of (point text 0)) (tokens_of_text text)
    (subst (λ (a : Result Contents Refusal). TellsInput (IsDocumentFrom least form) Trailing (last_of (point text 0)) (ahead_of (point text 0)) a) e
    ((framed_from least form).exact_input.tells (last_of (point text 0)) (ahead_of (point text 0))))

pub says : (form : Form) (text : List ℕ) (r : Result Contents Refusal) → answer_of form text ≡ r → FormSays form text r
says form text r e = says_since least_version form text r e

pub record AreAnswered : Type 0 where
  pub empty : answer_of form.Interleave [] ≡ Err empty_refused
  pub list : answer_of form.Run with_list ≡ Ok and_list
  pub two_lists : answer_of form.Run with_two_lists ≡ Ok and_two_lists
  pub schedule : answer_of form.Interleave with_schedule ≡ Ok and_schedule
  pub journal : answer_of form.Replay (with_shape ++ expansion_journal ++ spread_text) ≡ Ok (and_journal spread_config)
  pub other_final : answer_of form.Replay (with_shape ++ expansion_journal ++ still_text) ≡ Ok (and_journal one_alone)
  pub program : answer_of form.Check program_text ≡ Ok only_program
  pub nobody : answer_of form.Measure with_nobody ≡ Ok and_nobody
  pub full_journal : answer_from 3 form.Replay full_text ≡ Ok (and_full_journal spread_config)
  pub still_journal : answer_from 3 form.Replay still_full_text ≡ Ok (and_full_journal one_alone)
  pub wide_journal : answer_from 3 form.Replay wide_full_text ≡ Ok (and_full_journal wide_spread)
  pub other_old : answer_of form.Replay other_old_text ≡ Ok (and_entry other_expansion spread_config)
  pub early : answer_from 3 form.Replay (with_shape ++ expansion_journal ++ spread_text) ≡ Err early_refused
  pub empty_journal : answer_of form.Replay recorded_with_nobody ≡ Ok and_empty_journal

pub are_answered : AreAnswered
unfolding same_kind same_role role scan.skip scan.ready scan.sign_len scan.front scan.scan scan.scan_end scan.ahead_of scan.last_of one_within the_line numeral either by_role limited times elements repeated a_selection a_port a_term a_minus a_sum a_unit a_conj an_expr inside an_if a_for a_stmt all_stmts stmts_inside a_move an_action a_var a_guarded a_program part.an_int part.a_node part.an_end part.a_chirality part.a_port_text part.a_bot journal.port_behind journal.end_behind journal.a_movement journal.a_cell journal.an_occupant journal.a_value journal.an_old_value journal.a_pair journal.all_pairs journal.the_numbers journal.entry_word journal.a_written_entry journal.an_entry journal.entries_from journal.journal_by shape.a_side shape.an_area shape.wall_word shape.a_wall_line shape.walls_from shape.bot_word shape.a_bot_line shape.bots_from shape.a_drawing shape.a_written_shape shape.shape_under schedule.an_id schedule.ids_from schedule.all_ids schedule.list_word schedule.a_list schedule.lists_from schedule.all_lists schedule.some_turns schedule.the_lists schedule.a_caller schedule.number_of_times schedule.its_times schedule.any_times schedule.a_stretch schedule.stretches_from schedule.all_steps schedule.a_schedule a_checked_program journal_body body document_from rest_at header_from in_frame_from
are_answered = record { empty = refl; list = refl; two_lists = refl; schedule = refl; journal = refl; other_final = refl; program = refl; nobody = refl; full_journal = refl; still_journal = refl; wide_journal = refl; other_old = refl; early = refl; empty_journal = refl }
