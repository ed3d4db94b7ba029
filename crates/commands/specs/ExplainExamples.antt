-- For documents of version 3, and for `rewind`, `rounds` and `elect`, calls and what they owe.
-- The documents are those of the other examples: an amoebot on a row of three nodes expands
-- to the right; or there is no amoebot.
use Rattle.std.specs.Prelude.{List, ℕ, [], ◌∷◌, ◌++◌, codes}
use Rattle.std.specs.declared.option.Option.TheVariants.{Some, None}
use Rattle.text_tokens.specs.declared.refusal.Refusal.{Refusal}
use Rattle.text_tokens.specs.declared.refusal.RefusalKind.TheVariants as kind
use Rattle.amoebot_state.specs.declared.cell.CellName.TheVariants as name
use Rattle.amoebot_state.specs.declared.cell.Cell.TheVariants as cell
use Rattle.amoebot_state.specs.declared.verdict.Entry.{Entry}
use Rattle.amoebot_state.specs.Configs.{Config}
use Rattle.shape_files.specs.Documents.{Contents}
use Rattle.small_worlds.specs.Rows.{row_area, node, bot_in_row}
use Rattle.commands.specs.WorkExamples.{nobody}
use Rattle.commands.specs.Words.{command_of}
use Rattle.document_answers.specs.declared.status.Status.TheVariants as status
use Rattle.document_answers.specs.Rewind.{no_such_place}
use Rattle.commands.specs.Lines.{not_erosion}
use Rattle.commands.specs.Owed.{IsOwed}
use Rattle.commands.specs.Reads.{whole}
use Rattle.commands.specs.Examples.{with_shape, with_nobody, expansion_journal, spread_text, still_text, renewed_expansion, spread_config, expansion, and_shape, and_nobody}

-- ---- texts

-- the program and the shape, in version 3
abbrev pub shape_in_version_3 : List ℕ
shape_in_version_3 =
    codes "amoebot 3\nprogram\naction out when contracted move expand head 0\nend\n"
    ++ codes "shape\narea 0 0 3 1\nbot 1 0 1 0 0 +\nend\n"

abbrev pub full_journal : List ℕ
full_journal = codes "journal\nentry 0 0 0 0 0 expand head 0 spot 2 0 empty to 0 "
    ++ codes "body 0 1 0 1 0 0 + to 2 0 1 0 0 +\nend\n"

abbrev pub full_text : List ℕ
full_text = shape_in_version_3 ++ full_journal ++ spread_text

-- its final shape is that of the start
abbrev pub still_full_text : List ℕ
still_full_text = shape_in_version_3 ++ full_journal ++ still_text

-- its final shape has a row of four nodes
abbrev pub wide_full_text : List ℕ
wide_full_text = shape_in_version_3 ++ full_journal ++ codes "final\narea 0 0 4 1\nbot 2 0 1 0 0 +\nend\n"

-- before the entry the node was the amoebot's, as if it had been expanded
abbrev pub other_old_text : List ℕ
other_old_text =
    shape_in_version_3
    ++ codes "journal\nentry 0 0 0 0 0 expand head 0 spot 2 0 0 to 0 body 0 1 0 1 0 0 + to 2 0 1 0 0 +\nend\n"
    ++ spread_text

abbrev pub recorded_with_nobody : List ℕ
recorded_with_nobody = with_nobody ++ codes "journal\nend\nfinal\narea 0 0 3 1\nend\n"

-- ---- what they say

abbrev pub wide_spread : Config
wide_spread = record spread_config { area = record row_area { w = 4 } }

abbrev pub other_expansion : Entry
other_expansion =
    record expansion {
      patch = (name.Spot (node 2), cell.Spot (Some 0), cell.Spot (Some 0))
          ∷ (name.Body 0, cell.Body (bot_in_row 1 1), cell.Body (bot_in_row 2 1))
          ∷ [];
    }

abbrev pub and_entry : Entry → Config → Contents
and_entry e final = record and_shape { version = 3; entries = Some (e ∷ []); final_world = Some final }

abbrev pub and_full_journal : Config → Contents
and_full_journal final = and_entry expansion final

abbrev pub and_empty_journal : Contents
and_empty_journal = record and_nobody { plain = Some []; final_world = Some nobody }

-- the version of a document of `rewind` has old values
abbrev pub early_refused : Refusal
early_refused = record { line = 1; kind = kind.BadRange }

-- ---- what is owed

pub record SmallExplanations : Type 0 where
  pub agrees_in_full : IsOwed (command_of (codes "replay" ∷ []))
      (whole full_text) status.Done None (codes "agrees 1\n")
  pub renew_in_full : IsOwed (command_of (codes "renew" ∷ []))
      (whole full_text) status.Done None renewed_expansion
  pub other_old : IsOwed (command_of (codes "replay" ∷ []))
      (whole other_old_text) (status.Differs 0) None (codes "differs 0\n")
  pub renew_other_old : IsOwed (command_of (codes "renew" ∷ []))
      (whole other_old_text) (status.Differs 0) None (codes "differs 0\n")
  -- before the entry, and behind it
  pub first_place : IsOwed (command_of (codes "rewind" ∷ codes "0" ∷ [])) (whole full_text)
      status.Done None (codes "shape\narea 0 0 3 1\nbot 1 0 1 0 0 +\nend\n")
  pub last_place : IsOwed (command_of (codes "rewind" ∷ codes "1" ∷ [])) (whole full_text)
      status.Done None (codes "shape\narea 0 0 3 1\nbot 2 0 1 0 0 +\nend\n")
  pub no_place : IsOwed (command_of (codes "rewind" ∷ codes "2" ∷ [])) (whole full_text)
      (status.Refused no_such_place) None (codes "refused 0 BadPlace\n")
  -- the entry does not lead to the final shape
  pub no_way_back : IsOwed (command_of (codes "rewind" ∷ codes "0" ∷ [])) (whole still_full_text)
      (status.Differs 0) None (codes "differs 0\n")
  -- the final shape has another area
  pub other_frame : IsOwed (command_of (codes "rewind" ∷ codes "1" ∷ [])) (whole wide_full_text)
      (status.Differs 1) None (codes "differs 1\n")
  pub early : IsOwed (command_of (codes "rewind" ∷ codes "0" ∷ []))
      (whole (with_shape ++ expansion_journal ++ spread_text))
      (status.Refused early_refused) None (codes "refused 1 BadRange\n")
  pub rounds : IsOwed (command_of (codes "rounds" ∷ []))
      (whole recorded_with_nobody) status.Done None (codes "rounds 0\nwaiting 0\n")
  -- the final shape is that of the start
  pub rounds_differ : IsOwed (command_of (codes "rounds" ∷ []))
      (whole (with_shape ++ expansion_journal ++ still_text))
      (status.Differs 1) None (codes "differs 1\n")
  pub elect : IsOwed (command_of (codes "elect" ∷ [])) (whole recorded_with_nobody)
      (status.Refused not_erosion) None (codes "refused 0 NotErosion\n")
