-- Three small documents as they are printed whole: a program alone, and what a run of it left,
-- without old values and with them.
use Rattle.std.specs.Prelude.{◌≡◌, [], ◌∷◌, ◌++◌, Some, None, codes}
use Rattle.claim_core.specs.declared.marks.Mark.TheVariants as mark
use Rattle.claim_core.specs.Turns.{MarkLists}
use Rattle.shape_files.specs.declared.section_kind.Form.TheVariants.{Check, Replay}
use Rattle.shape_files.specs.DocumentRows.{only_program, program_and_shape, with_record, with_full_record}
use Rattle.shape_files.specs.WholeTexts.{document_text, IsWritableDocument}

-- one caller, whose first turn was done, and whose second one was idle
abbrev pub two_marks : MarkLists
two_marks = record { turns = 2; marks = (mark.Done 0 ∷ mark.Idle 1 ∷ []) ∷ [] }

-- their texts, and that they can be printed
pub record WholeTextRows : Type 0 where
  pub program_text : document_text only_program None
      ≡ codes "amoebot 1\nprogram\nguard off\naction out\nwhen contracted\nmove expand head 0\nend\n"
  pub run_text : document_text (with_record program_and_shape) (Some two_marks)
      ≡ codes "amoebot 1\nprogram\nguard off\naction out\nwhen contracted\nmove expand head 0\nend\n"
      ++ codes "shape\narea 0 0 8 8\nbot 2 3 2 3 0 +\nend\n"
      ++ codes "journal\nentry 0 0 0 0 0 expand head 0 spot 3 3 0 body 0 3 3 2 3 0 +\nend\n"
      ++ codes "final\narea 0 0 8 8\nbot 3 3 2 3 0 +\nend\n"
      ++ codes "turns\nturn 0 0 done 0\nturn 0 1 idle 1\nend\n"
  pub full_text : document_text (with_full_record program_and_shape) (Some two_marks)
      ≡ codes "amoebot 3\nprogram\nguard off\naction out\nwhen contracted\nmove expand head 0\nend\n"
      ++ codes "shape\narea 0 0 8 8\nbot 2 3 2 3 0 +\nend\n"
      ++ codes "journal\nentry 0 0 0 0 0 expand head 0 spot 3 3 empty to 0 "
      ++ codes "body 0 2 3 2 3 0 + to 3 3 2 3 0 +\nend\n"
      ++ codes "final\narea 0 0 8 8\nbot 3 3 2 3 0 +\nend\n"
      ++ codes "turns\nturn 0 0 done 0\nturn 0 1 idle 1\nend\n"
  pub program : IsWritableDocument Check only_program None
  pub run : IsWritableDocument Replay (with_record program_and_shape) (Some two_marks)
  pub full : IsWritableDocument Replay (with_full_record program_and_shape) (Some two_marks)
