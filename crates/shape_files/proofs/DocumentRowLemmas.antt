-- Some documents are read, by computing.
use Rattle.std.proofs.Common.{◌≡◌, List, [], ◌∷◌, map, Result, refl, subst}
use Rattle.text_tokens.specs.declared.refusal.Refusal.{Refusal}
use Rattle.text_tokens.specs.declared.refusal.RefusalKind.TheVariants.{Trailing}
use Rattle.text_tokens.specs.Cursor.{same_kind}
use Rattle.text_tokens.specs.Scan as scan
use Rattle.text_tokens.specs.Scan.{ahead_of, last_of}
use Rattle.text_tokens.specs.Reading.{one_within, the_line, numeral, either, by_role, limited, times, elements, repeated, whole_input}
use Rattle.text_tokens.specs.Inputs.{TellsInput}
use Rattle.text_tokens.proofs.Blanks.{point}
use Rattle.text_tokens.proofs.PromisesLemmas.{tokens_of_text}
use Rattle.action_tree.specs.Roles.{role, same_role}
use Rattle.action_tree.specs.ExpressionReaders.{a_selection, a_port, a_term, a_minus, a_sum, a_unit, a_conj, an_expr, inside}
use Rattle.action_tree.specs.StatementReaders.{an_if, a_for, a_stmt, all_stmts, stmts_inside}
use Rattle.action_tree.specs.ProgramReaders.{a_move, an_action, a_var, a_guarded, a_program}
use Rattle.journal_text.specs.Turns as turns
use Rattle.journal_text.specs.Readers as journal
use Rattle.shape_text.specs.PartReaders as part
use Rattle.shape_text.specs.Readers as shape
use Rattle.schedule_text.specs.Readers as schedule
use Rattle.shape_files.specs.FrameReaders.{rest_at, header_from, in_frame_from}
use Rattle.shape_files.specs.Documents.{Contents, IsDocument, FormSays}
use Rattle.shape_files.specs.DocumentReaders.{a_checked_program, journal_body, body, document_from, document}
use Rattle.shape_files.specs.DocumentRows.{DocumentRow, AreRead, document_rows, fault_rows, DocumentsAreRead}
use Rattle.shape_files.proofs.DocumentsLemmas.{document_framed, says_of}

abbrev answer_of : DocumentRow → Result Contents Refusal
answer_of r = whole_input Trailing (document r.form) (last_of (point r.text 0)) (ahead_of (point r.text 0))

is_read : (r : DocumentRow) → answer_of r ≡ r.answer → FormSays r.form r.text r.answer
is_read r e = says_of r.form r.text r.answer (ahead_of (point r.text 0)) (last_of (point r.text 0)) (tokens_of_text r.text)
    (subst (λ (a : Result Contents Refusal). TellsInput (IsDocument r.form) Trailing (last_of (point r.text 0)) (ahead_of (point r.text 0)) a) e
    ((document_framed r.form).exact_input.tells (last_of (point r.text 0)) (ahead_of (point r.text 0))))

are_read : (rs : List DocumentRow) → map answer_of rs ≡ map (λ r. r.answer) rs → AreRead rs
are_read [] e = tt
are_read (r ∷ rs) e =
    let first : answer_of r ≡ r.answer = cc in
    let more : map answer_of rs ≡ map (λ r. r.answer) rs = cc in (is_read r first, are_read rs more)

pub documents_are_read : DocumentsAreRead
unfolding same_kind same_role role scan.skip scan.ready scan.sign_len scan.front scan.scan scan.scan_end scan.ahead_of scan.last_of one_within the_line numeral either by_role limited times elements repeated a_selection a_port a_term a_minus a_sum a_unit a_conj an_expr inside an_if a_for a_stmt all_stmts stmts_inside a_move an_action a_var a_guarded a_program turns.names_failure part.an_int part.a_node part.an_end part.a_chirality part.a_port_text part.a_bot journal.port_behind journal.end_behind journal.a_movement journal.a_cell journal.an_occupant journal.a_value journal.an_old_value journal.a_pair journal.all_pairs journal.the_numbers journal.entry_word journal.a_written_entry journal.an_entry journal.entries_from journal.journal_by journal.placed_mark journal.a_failed journal.a_claimant journal.a_busy journal.a_mark journal.a_turn journal.all_turn_lines journal.the_turns shape.a_side shape.an_area shape.wall_word shape.a_wall_line shape.walls_from shape.bot_word shape.a_bot_line shape.bots_from shape.a_drawing shape.a_written_shape shape.shape_under schedule.an_id schedule.ids_from schedule.all_ids schedule.list_word schedule.a_list schedule.lists_from schedule.all_lists schedule.some_turns schedule.the_lists schedule.a_caller schedule.number_of_times schedule.its_times schedule.any_times schedule.a_stretch schedule.stretches_from schedule.all_steps schedule.a_schedule a_checked_program journal_body body document_from rest_at header_from in_frame_from
documents_are_read = record { documents = are_read document_rows refl; faults = are_read fault_rows refl }
