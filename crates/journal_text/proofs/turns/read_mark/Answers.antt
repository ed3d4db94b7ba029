use Rattle.std.proofs.Common.{◌≡◌, ◌∙◌, List, ℕ, Bool, true, false, sym}
use Rattle.std.specs.Prelude.{codes}
use Rattle.text_tokens.specs.Cursor.{Cursor, next_passes}
use Rattle.text_tokens.specs.Reading.{Reader, either}
use Rattle.text_tokens.proofs.Rows.{Left, all_left, first_left, second_left, gives_left}
use Rattle.shape_text.specs.Parts.{word}
use Rattle.journal_text.specs.Turns.{Nothing}
use Rattle.journal_text.specs.Readers.{placed_mark, a_failed, a_busy, a_mark}
use Rattle.journal_text.proofs.turns.read_mark.Goals as goal

-- the forms from each on
abbrev last2 : ℕ → Reader Nothing
last2 version = either (word (codes "failed")) (a_failed version) a_busy

abbrev last3 : ℕ → Reader Nothing
last3 version = either (word (codes "idle")) (placed_mark (codes "idle")) (last2 version)

abbrev stands : List ℕ → Cursor → Bool
stands text here = next_passes (word text) here.ahead

module _ (version : ℕ) (here : Cursor) where
  abbrev Begins : Reader Nothing → Type 0
  Begins p = Left (a_mark version) here p here

  at_done : stands (codes "done") here ≡ true → Begins (placed_mark (codes "done"))
  unfolding a_mark
  at_done e = first_left (word (codes "done")) (placed_mark (codes "done")) (last3 version) (all_left (a_mark version) here) e

  module _ (done : stands (codes "done") here ≡ false) where
    from_idle : Begins (last3 version)
    unfolding a_mark
    from_idle = second_left (word (codes "done")) (placed_mark (codes "done")) (last3 version) (all_left (a_mark version) here) done

    at_idle : stands (codes "idle") here ≡ true → Begins (placed_mark (codes "idle"))
    at_idle e = first_left (word (codes "idle")) (placed_mark (codes "idle")) (last2 version) from_idle e

    module _ (idle : stands (codes "idle") here ≡ false) where
      from_failed : Begins (last2 version)
      from_failed = second_left (word (codes "idle")) (placed_mark (codes "idle")) (last2 version) from_idle idle

      at_failed : stands (codes "failed") here ≡ true → Begins (a_failed version)
      at_failed e = first_left (word (codes "failed")) (a_failed version) a_busy from_failed e

      at_busy : stands (codes "failed") here ≡ false → Begins a_busy
      at_busy e = second_left (word (codes "failed")) (a_failed version) a_busy from_failed e

pub returns-then-is_next-clause-reads : goal.returns-then-is_next-clause-reads
returns-then-is_next-clause-reads c = gives_left (λ (u : Nothing). u) c.read_placed.result c.read_placed.new.tokens (at_done c.args.version c.args.tokens.now (sym c.is_next.ensures ∙ c.if-is_next.true)) c.read_placed.ensures.reads

pub returns-then-is_next-2-clause-reads : goal.returns-then-is_next-2-clause-reads
returns-then-is_next-2-clause-reads c =
    gives_left (λ (u : Nothing). u) c.read_placed-then-is_next-2.result c.read_placed-then-is_next-2.new.tokens (at_idle c.args.version c.args.tokens.now (sym c.is_next.ensures ∙ c.if-is_next.false) (sym c.is_next-else-is_next.ensures ∙ c.if-is_next-2.true)) c.read_placed-then-is_next-2.ensures.reads

pub returns-then-is_next-3-clause-reads : goal.returns-then-is_next-3-clause-reads
returns-then-is_next-3-clause-reads c =
    gives_left (λ (u : Nothing). u) c.read_failed.result c.read_failed.new.tokens
    (at_failed c.args.version c.args.tokens.now (sym c.is_next.ensures ∙ c.if-is_next.false) (sym c.is_next-else-is_next.ensures ∙ c.if-is_next-2.false) (sym c.is_next-else-is_next-2.ensures ∙ c.if-is_next-3.true)) c.read_failed.ensures.reads

pub returns-else-is_next-3-clause-reads : goal.returns-else-is_next-3-clause-reads
returns-else-is_next-3-clause-reads c =
    gives_left (λ (u : Nothing). u) c.read_busy.result c.read_busy.new.tokens
    (at_busy c.args.version c.args.tokens.now (sym c.is_next.ensures ∙ c.if-is_next.false) (sym c.is_next-else-is_next.ensures ∙ c.if-is_next-2.false) (sym c.is_next-else-is_next-2.ensures ∙ c.if-is_next-3.false)) c.read_busy.ensures.reads
