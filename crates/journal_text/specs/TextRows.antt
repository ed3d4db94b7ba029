-- Texts of small journals and turns.
use Rattle.std.specs.Prelude.{◌≡◌, pos, negsuc, [], ◌∷◌, ◌++◌, Some, None, codes}
use Rattle.amoebot_state.specs.declared.bot.Bot.{Bot}
use Rattle.amoebot_state.specs.declared.bot.Chir.TheVariants.{Plus, Minus}
use Rattle.amoebot_state.specs.declared.bot.End.TheVariants.{Head, Tail}
use Rattle.amoebot_state.specs.declared.cell.CellName.TheVariants as name
use Rattle.amoebot_state.specs.declared.verdict.Failure.TheVariants as failure
use Rattle.amoebot_state.specs.declared.verdict.Moved.TheVariants as moved
use Rattle.amoebot_state.specs.Ports.{port}
use Rattle.claim_core.specs.declared.marks.Mark.TheVariants as mark
use Rattle.shape_text.specs.Parts.{a_node_of}
use Rattle.journal_text.specs.JournalRows.{act, spot, body_pair, long}
use Rattle.journal_text.specs.OldValueRows.{change_act, spot_change, body_change_of, expansion_made}
use Rattle.journal_text.specs.Texts.{journal_text, plain_text, turns_text}

-- an amoebot with two values
abbrev pub journal_bot : Bot
journal_bot = long 5 Minus (1 ∷ 255 ∷ [])

pub record TextsArePrinted : Type 0 where
  pub no_entry : plain_text 0 [] ≡ codes "journal\nend\n"
  pub entries : plain_text 2
      (act 0 0 0 0 (moved.Expand (port Head 5))
      (spot (pos 3) (pos 3) (Some 10) ∷ body_pair 10 journal_bot ∷ [])
      ∷ act 15 65535 4095 31 (moved.Contract Tail) (spot (negsuc 9998) (negsuc 0) None ∷ []) ∷ [])
      ≡ codes "journal\nentry 0 0 0 0 0 expand head 5 spot 3 3 10 body 10 3 3 2 3 5 - 1 255\n"
      ++ codes "entry 1 15 65535 4095 31 contract tail spot -9999 -1 empty\nend\n"
  pub movements : plain_text 0
      (act 0 0 0 0 moved.None [] ∷ act 0 1 0 0 (moved.Push (port Tail 0)) []
      ∷ act 0 2 0 0 (moved.Pull (port Head 3)) [] ∷ act 0 3 0 0 (moved.Contract Head) [] ∷ [])
      ≡ codes "journal\nentry 0 0 0 0 0 none\nentry 1 0 1 0 0 push tail 0\n"
      ++ codes "entry 2 0 2 0 0 pull head 3\nentry 3 0 3 0 0 contract head\nend\n"
  -- no variable, and eight
  pub no_value : plain_text 0 (act 0 0 0 0 moved.None (body_pair 0 journal_bot ∷ []) ∷ [])
      ≡ codes "journal\nentry 0 0 0 0 0 none body 0 3 3 2 3 5 -\nend\n"
  pub eight_values : plain_text 8 (act 0 0 0 0 moved.None (body_pair 0 journal_bot ∷ []) ∷ [])
      ≡ codes "journal\nentry 0 0 0 0 0 none body 0 3 3 2 3 5 - 1 255 0 0 0 0 0 0\nend\n"
  -- with old values
  pub no_change : journal_text 0 [] ≡ codes "journal\nend\n"
  pub expansion : journal_text 0 (expansion_made [] ∷ [])
      ≡ codes "journal\nentry 0 0 0 0 0 expand head 0 spot 3 3 empty to 0 "
      ++ codes "body 0 2 3 2 3 0 + to 3 3 2 3 0 +\nend\n"
  pub two_values : journal_text 2
      (change_act moved.None
      (body_change_of 10 (long 0 Plus (7 ∷ [])) journal_bot
      ∷ spot_change (negsuc 0) (pos 3) (Some 0) None ∷ []) ∷ [])
      ≡ codes "journal\nentry 0 0 0 0 0 none body 10 3 3 2 3 0 + 7 "
      ++ codes "0 to 3 3 2 3 5 - 1 255 spot -1 3 0 to empty\nend\n"
  pub no_turn : turns_text (record { turns = 0; marks = [] }) ≡ codes "turns\nend\n"
  -- by rising caller and then by rising turn
  pub turns : turns_text
      (record {
        turns = 3;
        marks = (mark.Done 0 ∷ mark.Idle 2 ∷ mark.Failed failure.WouldSplit 10 ∷ []) ∷ []
            ∷ (mark.Busy (name.Spot (a_node_of (pos 3) (negsuc 2))) 0 1 2 3
            ∷ mark.Busy (name.Body 7) 0 0 0 0 ∷ [])
            ∷ [];
      })
      ≡ codes "turns\nturn 0 0 done 0\nturn 0 1 idle 2\nturn 0 2 failed would_split 10\n"
      ++ codes "turn 2 0 busy spot 3 -3 by 0 1 2 place 3\nturn 2 1 busy body 7 by 0 0 0 place 0\nend\n"
