use Rattle.std.proofs.Common.{◌≡◌, ◌∙◌, ℕ, Bool, true, false, cond, List, length, Option, Some, None, Err, Ok, refl, sym}
use Rattle.std.specs.Prelude.{◌==◌}
use Rattle.std.proofs.lemmas.Bool.{eqb-true, eq-eqb}
use Rattle.std.proofs.lemmas.Result.{err_from_is_err_and}
use Rattle.text_tokens.specs.declared.refusal.Refusal.{Refusal}
use Rattle.text_tokens.specs.declared.refusal.RefusalKind.TheVariants.{BadEntry}
use Rattle.text_tokens.specs.declared.refusal.ReadRefusal.{ReadRefusal}
use Rattle.text_tokens.specs.declared.refusal.ReadRefusal.TheVariants.{Refused}
use Rattle.text_tokens.specs.Cursor.{Cursor}
use Rattle.text_tokens.specs.Reading.{Reader, ◌>>=◌, pure, no_limit, the_line, numeral, judge}
use Rattle.text_tokens.specs.Groups.{WrittenGroup, is_group, group_fault, all_group_pairs, unjudged_group, a_group}
use Rattle.text_tokens.proofs.StepsLemmas.{Reached, Failed, on, fails, on_made, judged_wrong, judged_fine}
use Rattle.text_tokens.proofs.groups.read_group.Goals as goal

abbrev put : ℕ → ℕ → List ℕ → WrittenGroup
put line count pairs = record { line = line; count = count; pairs = pairs }

abbrev behind_line : ℕ → Reader WrittenGroup
behind_line line = numeral no_limit >>= λ count. all_group_pairs >>= λ ps. pure (put line count ps)

abbrev behind_count : ℕ → ℕ → Reader WrittenGroup
behind_count line count = all_group_pairs >>= λ ps. pure (put line count ps)

unnoted : (e : ReadRefusal) (old new : Cursor) → Failed unjudged_group e old new → Failed a_group e old new
unfolding a_group
unnoted e old new f = fails unjudged_group (λ a. judge (group_fault a) a) e old new f

pub returns-in_err-line : goal.returns-in_err-line
unfolding unjudged_group
returns-in_err-line c =
    let p = err_from_is_err_and c.from_residual.result c.from_residual.ensures.1 in
    let e = c.in_err-line.field-0.0 in
    rw (p.1, p.2) (unnoted e c.args.tokens.now c.the_line.new.tokens (fails (the_line is_group) behind_line e c.args.tokens.now c.the_line.new.tokens c.in_err-line.ensures.reads))

pub returns-in_err-count : goal.returns-in_err-count
unfolding unjudged_group
returns-in_err-count c =
    let p = err_from_is_err_and c.from_residual-in_err-count.result c.from_residual-in_err-count.ensures.1 in
    let e = c.in_err-count.field-0.0 in
    rw (p.1, p.2) (unnoted e c.args.tokens.now c.number.new.tokens (on (λ (a : WrittenGroup). a) (the_line is_group) behind_line c.args.tokens.now c.the_line.new.tokens c.number.new.tokens c.in_ok-line.line (Err e) c.in_ok-line.ensures.reads
    (fails (numeral no_limit) (behind_count c.in_ok-line.line) e c.the_line.new.tokens c.number.new.tokens c.in_err-count.ensures.reads)))

pub returns-in_err-pairs : goal.returns-in_err-pairs
unfolding unjudged_group
returns-in_err-pairs c =
    let p = err_from_is_err_and c.from_residual-in_err-pairs.result c.from_residual-in_err-pairs.ensures.1 in
    let e = c.in_err-pairs.field-0.0 in
    rw (p.1, p.2) (unnoted e c.args.tokens.now c.read_pairs.new.tokens (on (λ (a : WrittenGroup). a) (the_line is_group) behind_line c.args.tokens.now c.the_line.new.tokens c.read_pairs.new.tokens c.in_ok-line.line (Err e) c.in_ok-line.ensures.reads
    (on (λ (a : WrittenGroup). a) (numeral no_limit) (behind_count c.in_ok-line.line) c.the_line.new.tokens c.number.new.tokens c.read_pairs.new.tokens c.in_ok-count.count (Err e) c.in_ok-count.ensures.reads
    (fails all_group_pairs (λ ps. pure (put c.in_ok-line.line c.in_ok-count.count ps)) e c.number.new.tokens c.read_pairs.new.tokens c.in_err-pairs.ensures))))

miscounted_by : (line m n : ℕ) (b : Bool) → (m == n) ≡ b → (m ≡ n → ⊥) → cond {A = Option Refusal} b None (Some (record { line = line; kind = BadEntry })) ≡ Some (record { line = line; kind = BadEntry })
miscounted_by line m n true e differ = absurd (differ (eqb-true m n e))
miscounted_by line m n false e differ = refl

module _ (old mid end new : Cursor) (line count : ℕ) (pairs : List ℕ) (l : Reached (the_line is_group) old line mid) (n : Reached (numeral no_limit) mid count end) (p : Reached all_group_pairs end pairs new) where
  noted_reached : Reached unjudged_group old (put line count pairs) new
  unfolding unjudged_group
  noted_reached = on (λ (a : WrittenGroup). a) (the_line is_group) behind_line old mid new line (Ok (put line count pairs)) l
      (on (λ (a : WrittenGroup). a) (numeral no_limit) (behind_count line) mid end new count (Ok (put line count pairs)) n (on_made all_group_pairs (λ ps. put line count ps) end new pairs p))

  other_count : (length pairs ≡ count → ⊥) → Failed a_group (Refused (record { line = line; kind = BadEntry })) old new
  unfolding a_group
  other_count differ = judged_wrong unjudged_group group_fault old new (put line count pairs) noted_reached (record { line = line; kind = BadEntry }) (miscounted_by line (length pairs) count (length pairs == count) refl differ)

  same_count : length pairs ≡ count → Reached a_group old (put line count pairs) new
  unfolding a_group
  same_count same = judged_fine unjudged_group group_fault old new (put line count pairs) noted_reached (rw (eq-eqb (length pairs) count same) refl)

pub returns-then-len-count : goal.returns-then-len-count
returns-then-len-count c = rw c.refused.ensures (other_count c.args.tokens.now c.the_line.new.tokens c.number.new.tokens c.read_pairs.new.tokens c.in_ok-line.line c.in_ok-count.count c.in_ok-pairs.pairs.items c.in_ok-line.ensures.reads c.in_ok-count.ensures.reads c.in_ok-pairs.ensures
    (λ same. c.if-len-count.true (c.len.ensures ∙ c.in_ok-pairs.pairs.ok.0 ∙ same)))

pub returns : goal.returns
returns c = same_count c.args.tokens.now c.the_line.new.tokens c.number.new.tokens c.read_pairs.new.tokens c.in_ok-line.line c.in_ok-count.count c.in_ok-pairs.pairs.items c.in_ok-line.ensures.reads c.in_ok-count.ensures.reads c.in_ok-pairs.ensures (sym c.in_ok-pairs.pairs.ok.0 ∙ sym c.len.ensures ∙ c.if-len-count.false)
