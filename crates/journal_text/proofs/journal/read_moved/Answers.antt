use Rattle.std.proofs.Common.{◌≡◌, ◌∙◌, List, Bool, true, false, sym}
use Rattle.std.specs.Prelude.{codes, ℕ}
use Rattle.std.proofs.lemmas.Result.{err_from_is_err_and}
use Rattle.text_tokens.specs.Cursor.{Cursor, next_passes}
use Rattle.text_tokens.specs.Reading.{Reader, pure, the_line, either}
use Rattle.amoebot_state.specs.declared.verdict.Moved.{Moved}
use Rattle.amoebot_state.specs.declared.verdict.Moved.TheVariants as moved
use Rattle.shape_text.specs.Parts.{word}
use Rattle.shape_text.specs.PartReaders.{means}
use Rattle.journal_text.specs.Readers.{port_behind, end_behind, moved_by, a_contraction, a_movement}
use Rattle.text_tokens.proofs.Rows.{Left, all_left, first_left, second_left, part_fails, made_left}
use Rattle.journal_text.proofs.journal.read_moved.Goals as goal

-- the forms from each on
abbrev last2 : Reader Moved
last2 = either (word (codes "push")) (moved_by (codes "push") moved.Push) (moved_by (codes "pull") moved.Pull)

abbrev last3 : Reader Moved
last3 = either (word (codes "contract")) a_contraction last2

abbrev last4 : Reader Moved
last4 = either (word (codes "expand")) (moved_by (codes "expand") moved.Expand) last3

abbrev stands : List ℕ → Cursor → Bool
stands text here = next_passes (word text) here.ahead

module _ (here : Cursor) where
  abbrev Begins : Reader Moved → Type 0
  Begins p = Left a_movement here p here

  at_none : stands (codes "none") here ≡ true → Begins (means (word (codes "none")) moved.None)
  unfolding a_movement
  at_none e = first_left (word (codes "none")) (means (word (codes "none")) moved.None) last4 (all_left a_movement here) e

  module _ (none : stands (codes "none") here ≡ false) where
    from_expand : Begins last4
    unfolding a_movement
    from_expand = second_left (word (codes "none")) (means (word (codes "none")) moved.None) last4 (all_left a_movement here) none

    at_expand : stands (codes "expand") here ≡ true → Begins (moved_by (codes "expand") moved.Expand)
    at_expand e = first_left (word (codes "expand")) (moved_by (codes "expand") moved.Expand) last3 from_expand e

    module _ (expand : stands (codes "expand") here ≡ false) where
      from_contract : Begins last3
      from_contract = second_left (word (codes "expand")) (moved_by (codes "expand") moved.Expand) last3 from_expand expand

      at_contract : stands (codes "contract") here ≡ true → Begins a_contraction
      at_contract e = first_left (word (codes "contract")) a_contraction last2 from_contract e

      module _ (contract : stands (codes "contract") here ≡ false) where
        from_push : Begins last2
        from_push = second_left (word (codes "contract")) a_contraction last2 from_contract contract

        at_push : stands (codes "push") here ≡ true → Begins (moved_by (codes "push") moved.Push)
        at_push e = first_left (word (codes "push")) (moved_by (codes "push") moved.Push) (moved_by (codes "pull") moved.Pull) from_push e

        at_pull : stands (codes "push") here ≡ false → Begins (moved_by (codes "pull") moved.Pull)
        at_pull e = second_left (word (codes "push")) (moved_by (codes "push") moved.Push) (moved_by (codes "pull") moved.Pull) from_push e

pub returns-in_err-read_word : goal.returns-in_err-read_word
returns-in_err-read_word c =
    let p = err_from_is_err_and c.from_residual.result c.from_residual.ensures.1 in
    let l = at_none c.args.tokens.now (sym c.is_next.ensures ∙ c.if-is_next.true) in
    rw (p.1, p.2) (part_fails (the_line (word (codes "none"))) (λ line. pure moved.None) l c.in_err-read_word.field-0.0 c.read_word.new.tokens c.in_err-read_word.ensures.reads)

pub returns-in_ok-read_word : goal.returns-in_ok-read_word
returns-in_ok-read_word c = made_left (the_line (word (codes "none"))) (λ line. moved.None) (at_none c.args.tokens.now (sym c.is_next.ensures ∙ c.if-is_next.true)) c.in_ok-read_word.field-0 c.read_word.new.tokens c.in_ok-read_word.ensures.reads

pub returns-in_err-read_port_behind : goal.returns-in_err-read_port_behind
returns-in_err-read_port_behind c =
    let p = err_from_is_err_and c.from_residual-in_err-read_port_behind.result c.from_residual-in_err-read_port_behind.ensures.1 in
    let l = at_expand c.args.tokens.now (sym c.is_next.ensures ∙ c.if-is_next.false) (sym c.is_next-else-is_next.ensures ∙ c.if-is_next-2.true) in
    rw (p.1, p.2) (part_fails (port_behind (codes "expand")) (λ x. pure (moved.Expand x)) l c.in_err-read_port_behind.field-0.0 c.read_port_behind.new.tokens c.in_err-read_port_behind.ensures)

pub returns-in_ok-read_port_behind : goal.returns-in_ok-read_port_behind
returns-in_ok-read_port_behind c = made_left (port_behind (codes "expand")) moved.Expand (at_expand c.args.tokens.now (sym c.is_next.ensures ∙ c.if-is_next.false) (sym c.is_next-else-is_next.ensures ∙ c.if-is_next-2.true)) c.in_ok-read_port_behind.field-0 c.read_port_behind.new.tokens c.in_ok-read_port_behind.ensures

pub returns-in_err-read_end_behind : goal.returns-in_err-read_end_behind
returns-in_err-read_end_behind c =
    let p = err_from_is_err_and c.from_residual-in_err-read_end_behind.result c.from_residual-in_err-read_end_behind.ensures.1 in
    let l = at_contract c.args.tokens.now (sym c.is_next.ensures ∙ c.if-is_next.false) (sym c.is_next-else-is_next.ensures ∙ c.if-is_next-2.false) (sym c.is_next-else-is_next-2.ensures ∙ c.if-is_next-3.true) in
    rw (p.1, p.2) (part_fails (end_behind (codes "contract")) (λ x. pure (moved.Contract x)) l c.in_err-read_end_behind.field-0.0 c.read_end_behind.new.tokens c.in_err-read_end_behind.ensures)

pub returns-in_ok-read_end_behind : goal.returns-in_ok-read_end_behind
returns-in_ok-read_end_behind c = made_left (end_behind (codes "contract")) moved.Contract (at_contract c.args.tokens.now (sym c.is_next.ensures ∙ c.if-is_next.false) (sym c.is_next-else-is_next.ensures ∙ c.if-is_next-2.false) (sym c.is_next-else-is_next-2.ensures ∙ c.if-is_next-3.true)) c.in_ok-read_end_behind.field-0 c.read_end_behind.new.tokens c.in_ok-read_end_behind.ensures

pub returns-in_err-read_port_behind-2 : goal.returns-in_err-read_port_behind-2
returns-in_err-read_port_behind-2 c =
    let p = err_from_is_err_and c.from_residual-in_err-read_port_behind-2.result c.from_residual-in_err-read_port_behind-2.ensures.1 in
    let l = at_push c.args.tokens.now (sym c.is_next.ensures ∙ c.if-is_next.false) (sym c.is_next-else-is_next.ensures ∙ c.if-is_next-2.false) (sym c.is_next-else-is_next-2.ensures ∙ c.if-is_next-3.false) (sym c.is_next-else-is_next-3.ensures ∙ c.if-is_next-4.true) in
    rw (p.1, p.2) (part_fails (port_behind (codes "push")) (λ x. pure (moved.Push x)) l c.in_err-read_port_behind-2.field-0.0 c.read_port_behind-then-is_next-4.new.tokens c.in_err-read_port_behind-2.ensures)

pub returns-in_ok-read_port_behind-2 : goal.returns-in_ok-read_port_behind-2
returns-in_ok-read_port_behind-2 c = made_left (port_behind (codes "push")) moved.Push (at_push c.args.tokens.now (sym c.is_next.ensures ∙ c.if-is_next.false) (sym c.is_next-else-is_next.ensures ∙ c.if-is_next-2.false) (sym c.is_next-else-is_next-2.ensures ∙ c.if-is_next-3.false) (sym c.is_next-else-is_next-3.ensures ∙ c.if-is_next-4.true)) c.in_ok-read_port_behind-2.field-0 c.read_port_behind-then-is_next-4.new.tokens c.in_ok-read_port_behind-2.ensures

pub returns-in_err-read_port_behind-3 : goal.returns-in_err-read_port_behind-3
returns-in_err-read_port_behind-3 c =
    let p = err_from_is_err_and c.from_residual-in_err-read_port_behind-3.result c.from_residual-in_err-read_port_behind-3.ensures.1 in
    let l = at_pull c.args.tokens.now (sym c.is_next.ensures ∙ c.if-is_next.false) (sym c.is_next-else-is_next.ensures ∙ c.if-is_next-2.false) (sym c.is_next-else-is_next-2.ensures ∙ c.if-is_next-3.false) (sym c.is_next-else-is_next-3.ensures ∙ c.if-is_next-4.false) in
    rw (p.1, p.2) (part_fails (port_behind (codes "pull")) (λ x. pure (moved.Pull x)) l c.in_err-read_port_behind-3.field-0.0 c.read_port_behind-else-is_next-4.new.tokens c.in_err-read_port_behind-3.ensures)

pub returns-in_ok-read_port_behind-3 : goal.returns-in_ok-read_port_behind-3
returns-in_ok-read_port_behind-3 c = made_left (port_behind (codes "pull")) moved.Pull (at_pull c.args.tokens.now (sym c.is_next.ensures ∙ c.if-is_next.false) (sym c.is_next-else-is_next.ensures ∙ c.if-is_next-2.false) (sym c.is_next-else-is_next-2.ensures ∙ c.if-is_next-3.false) (sym c.is_next-else-is_next-3.ensures ∙ c.if-is_next-4.false)) c.in_ok-read_port_behind-3.field-0 c.read_port_behind-else-is_next-4.new.tokens c.in_ok-read_port_behind-3.ensures
