-- The documents of the samples of `elect` are read, by computing.
use Rattle.std.proofs.Common.{◌≡◌, ℕ, List, [], ◌∷◌, Some, Ok, refl}
use Rattle.std.specs.Prelude.{false, codes}
use Rattle.text_tokens.specs.Cursor.{same_kind}
use Rattle.text_tokens.specs.Scan as scan
use Rattle.text_tokens.specs.Reading.{one_within, the_line, numeral, either, by_role, limited, times, elements, repeated}
use Rattle.amoebot_state.specs.declared.verdict.PlainEntry.{PlainEntry}
use Rattle.amoebot_state.specs.Configs.{Config}
use Rattle.amoebot_state.specs.Steps.{plain_entry}
use Rattle.action_tree.specs.declared.expression.PortSet.TheVariants.{Ports}
use Rattle.action_tree.specs.Trees as tree
use Rattle.action_tree.specs.Trees.{Name, Literal, Guard, Term, PortExpr, Var, Program, any, bound, count, negation, no_move, number, of_port, own, put, quantified, stmts, tested, turned}
use Rattle.action_tree.specs.Shipped.{and, equals, sum_of_term}
use Rattle.action_tree.specs.Programs.{parsed_program}
use Rattle.action_tree.specs.Roles.{role, same_role}
use Rattle.action_tree.specs.ExpressionReaders.{a_selection, a_port, a_term, a_minus, a_sum, a_unit, a_conj, an_expr, inside}
use Rattle.action_tree.specs.StatementReaders.{an_if, a_for, a_stmt, all_stmts, stmts_inside}
use Rattle.action_tree.specs.ProgramReaders.{a_move, an_action, a_var, a_guarded, a_program}
use Rattle.journal_text.specs.Readers as journal
use Rattle.shape_text.specs.PartReaders as part
use Rattle.shape_text.specs.Readers as shape
use Rattle.shape_files.specs.declared.section_kind.Form.TheVariants as form
use Rattle.shape_files.specs.FrameReaders.{rest_at, header_from, in_frame_from}
use Rattle.shape_files.specs.Documents.{Contents}
use Rattle.shape_files.specs.DocumentRows.{only_program}
use Rattle.shape_files.specs.DocumentReaders.{a_checked_program, journal_body, body, document_from}
use Rattle.commands.specs.ElectExamples.{erosion_row, one_candidate, one_leader, candidate_elsewhere, leading, before_it_leads, once_it_leads, in_other_area, erosion_with_nobody}
use Rattle.commands.proofs.SmallDocuments.{answer_of}

-- ---- the tree of `erosion`, with the lines of its text behind a header

abbrev name_on : ℕ → List ℕ → Name
name_on line text = record { text = text; line = line }

abbrev number_on : ℕ → ℕ → Literal
number_on line n = record { value = n; line = line }

abbrev var_on : ℕ → List ℕ → Var
var_on line v = record { name = name_on line v; max = number_on line 1 }

abbrev is_on : ℕ → Term → ℕ → Guard
is_on line t n = equals t (number (number_on line n))

abbrev own_on : ℕ → List ℕ → Term
own_on line v = own (name_on line v)

abbrev cand_on : ℕ → PortExpr → Term
cand_on line port = of_port port (name_on line (codes "cand"))

abbrev p_on : ℕ → PortExpr
p_on line = bound (name_on line (codes "p"))

-- `turn p 1`
abbrev next_port : PortExpr
next_port = turned (p_on 11) (number_on 11 1)

abbrev pub lined_erosion : Program
lined_erosion =
    parsed_program false (var_on 4 (codes "cand") ∷ var_on 5 (codes "leader") ∷ [])
    (record {
      name = name_on 6 (codes "lead");
      guard = and (is_on 7 (own_on 7 (codes "cand")) 1 ∷ is_on 7 (own_on 7 (codes "leader")) 0
          ∷ negation (quantified any (name_on 7 (codes "p")) Ports (is_on 7 (cand_on 7 (p_on 7)) 1)) ∷ []);
      body = stmts (put (name_on 8 (codes "leader")) (sum_of_term (number (number_on 8 1))) ∷ []);
      moved = no_move;
    }
    ∷ record {
      name = name_on 9 (codes "erode");
      guard = and (is_on 10 (own_on 10 (codes "cand")) 1
          ∷ is_on 11 (count (name_on 10 (codes "p")) Ports (and (is_on 10 (cand_on 10 (p_on 10)) 1
          ∷ negation (and (tested tree.linked next_port ∷ is_on 11 (cand_on 11 next_port) 1 ∷ [])) ∷ []))) 1 ∷ []);
      body = stmts (put (name_on 12 (codes "cand")) (sum_of_term (number (number_on 12 0))) ∷ []);
      moved = no_move;
    } ∷ [])

-- ---- what the documents have

abbrev pub recorded : Config → List PlainEntry → Config → Contents
recorded start entries final =
    record only_program { checked = Some lined_erosion; world = Some start; plain = Some entries; final_world = Some final }

pub record ElectionsAreAnswered : Type 0 where
  pub candidate : answer_of form.Replay before_it_leads ≡ Ok (recorded one_candidate [] one_candidate)
  pub leader : answer_of form.Replay once_it_leads ≡ Ok (recorded one_candidate (plain_entry leading ∷ []) one_leader)
  pub other_area : answer_of form.Replay in_other_area ≡ Ok (recorded one_candidate [] candidate_elsewhere)
  pub nobody : answer_of form.Replay erosion_with_nobody ≡ Ok (recorded erosion_row [] erosion_row)

pub elections_are_answered : ElectionsAreAnswered
unfolding same_kind same_role role scan.skip scan.ready scan.sign_len scan.front scan.scan scan.scan_end scan.ahead_of scan.last_of one_within the_line numeral either by_role limited times elements repeated a_selection a_port a_term a_minus a_sum a_unit a_conj an_expr inside an_if a_for a_stmt all_stmts stmts_inside a_move an_action a_var a_guarded a_program part.an_int part.a_node part.an_end part.a_chirality part.a_port_text part.a_bot journal.port_behind journal.end_behind journal.a_movement journal.a_cell journal.an_occupant journal.a_value journal.an_old_value journal.a_pair journal.all_pairs journal.the_numbers journal.entry_word journal.a_written_entry journal.an_entry journal.entries_from journal.journal_by shape.a_side shape.an_area shape.wall_word shape.a_wall_line shape.walls_from shape.bot_word shape.a_bot_line shape.bots_from shape.a_drawing shape.a_written_shape shape.shape_under a_checked_program journal_body body document_from rest_at header_from in_frame_from
elections_are_answered = record { candidate = refl; leader = refl; other_area = refl; nobody = refl }
