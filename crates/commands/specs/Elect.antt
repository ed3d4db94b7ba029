-- The command `elect`: how many candidates are left at the end of an election, and who leads.
use Rattle.std.specs.Prelude.{◌≡◌, ℕ, List, [], ◌∷◌, ◌++◌, codes, decimal}
use Rattle.std.specs.declared.option.Option.{Option}
use Rattle.std.specs.declared.option.Option.TheVariants.{Some, None}
use Rattle.text_tokens.specs.Lines.{line_text}
use Rattle.amoebot_state.specs.declared.verdict.Entry.{Entry}
use Rattle.amoebot_state.specs.Configs.{Config}
use Rattle.claim_core.specs.declared.report.Report.{Report}
use Rattle.shape_checks.specs.Values.{value_count}
use Rattle.shape_files.specs.Documents.{Contents}
use Rattle.election_law.specs.Elections.{IsErosion, IsReadyStart, cand_var, leader_of}
use Rattle.document_answers.specs.declared.status.Status.{Status}
use Rattle.document_answers.specs.declared.status.Status.TheVariants as status
use Rattle.document_answers.specs.Answers.{refusal_line}
use Rattle.commands.specs.Lines.{not_erosion, bad_start}
use Rattle.document_answers.specs.Journals.{DocumentRecord, JournalOutcome}

-- the id of the leader, if there is one
abbrev pub leader_word : Option ℕ → List ℕ
leader_word None = codes "none"
leader_word (Some id) = decimal id

abbrev pub election_text : ℕ → Option ℕ → List ℕ
election_text candidates leader =
    line_text (codes "candidates" ∷ decimal candidates ∷ [])
    ++ line_text (codes "leader" ∷ leader_word leader ∷ [])

-- the text of a world: its candidates and its leader
abbrev pub elected_text : Config → List ℕ
elected_text world = election_text (value_count world cand_var 1) (leader_of world)

-- The program is another than `erosion`. Or it may not start from the shape.
-- Or the journal agrees, and the text tells the candidates and the leader of its last world.
-- Or the journal differs.
pub data ElectOutcome (a : Contents) : Status → Option Report → List ℕ → Type 0 where
  no_erosion : (d : DocumentRecord a)
      → ¬ IsErosion d.program
      → ElectOutcome a (status.Refused not_erosion) None (refusal_line not_erosion)
  not_ready : (d : DocumentRecord a)
      → IsErosion d.program
      → ¬ IsReadyStart d.start
      → ElectOutcome a (status.Refused bad_start) None (refusal_line bad_start)
  begun : (d : DocumentRecord a) (s : Status) (report : Option Report) (text : List ℕ)
      → IsErosion d.program
      → IsReadyStart d.start
      → JournalOutcome a d (λ (es : List Entry) (t : List ℕ). t ≡ elected_text d.final) s report text
      → ElectOutcome a s report text
