-- The sections as readers, and documents.
use Rattle.std.specs.Prelude.{ℕ, Bool, true, false, Some}
use Rattle.text_tokens.specs.Reading.{Reader, ◌>>=◌, pure, judged}
use Rattle.action_tree.specs.Trees as tree
use Rattle.action_tree.specs.ProgramReaders.{a_program}
use Rattle.action_check.specs.Faults.{faults}
use Rattle.shape_text.specs.Parts.{has_old_values}
use Rattle.journal_text.specs.Readers.{journal, plain_journal, the_turns}
use Rattle.shape_text.specs.Readers.{a_shape, a_final}
use Rattle.schedule_text.specs.Readers.{the_lists, a_schedule}
use Rattle.shape_files.specs.declared.section_kind.Section.{Section}
use Rattle.shape_files.specs.declared.section_kind.Section.TheVariants.{Program, Shape, Lists, Schedule, Journal, Final, Turns}
use Rattle.shape_files.specs.declared.section_kind.Form.{Form}
use Rattle.shape_files.specs.Frame.{course_of, least_version}
use Rattle.shape_files.specs.FrameReaders.{in_frame_from}
use Rattle.shape_files.specs.Documents.{Contents, nothing_yet, var_count, actions_of, maxes_in, bots_of, callers_of, first_in}

unfoldable pub a_checked_program : Reader tree.Program
a_checked_program = judged a_program (λ p. first_in (faults p))

-- a journal, with old values or without
unfoldable pub journal_body : Bool → Contents → Reader Contents
journal_body true s =
    journal (bots_of s.world) (actions_of s.checked) (var_count s.checked)
    >>= λ es. pure (record s { entries = Some es })
journal_body false s =
    plain_journal (bots_of s.world) (actions_of s.checked) (var_count s.checked)
    >>= λ ps. pure (record s { plain = Some ps })

unfoldable pub body : Section → Contents → Reader Contents
body Program s = a_checked_program >>= λ p. pure (record s { checked = Some p })
body Shape s = a_shape s.version (var_count s.checked) (maxes_in s.checked) >>= λ c.
    pure (record s { world = Some c })
body Lists s = the_lists (bots_of s.world) >>= λ l. pure (record s { lists = Some l })
body Schedule s = a_schedule (callers_of s.lists) >>= λ steps. pure (record s { schedule = Some steps })
body Journal s = journal_body (has_old_values s.version) s
body Final s = a_final s.version (var_count s.checked) (maxes_in s.checked) >>= λ c.
    pure (record s { final_world = Some c })
body Turns s = the_turns s.version >>= λ u. pure s

unfoldable pub document_from : ℕ → Form → Reader Contents
document_from least form = in_frame_from least body (course_of form) nothing_yet

abbrev pub document : Form → Reader Contents
document form = document_from least_version form
