use Rattle.std.proofs.Common.{◌≡◌, Bool, ◌≤◌, ◌∷◌, [], ℕ, true, false, List, map, length, Some, Ok, Err, refl, sym, ap, ◌∙◌, arith, length-append}
use Rattle.std.proofs.lemmas.Result.{err_from_is_err_and}
use Rattle.std.proofs.lemmas.List.{length-map}
use Rattle.text_tokens.specs.Text.{Lexeme}
use Rattle.text_tokens.specs.Reading.{◌>>=◌, pure, one, one_within, opening_token, less}
use Rattle.text_tokens.specs.Steps.{lexeme_of}
use Rattle.text_tokens.proofs.StepsLemmas.{fails, on_made}
use Rattle.text_tokens.proofs.Rows.{all_left, past_part, part_fails, gives_left}
use Rattle.action_tree.specs.declared.expression.Guard.{Guard}
use Rattle.action_tree.specs.declared.expression.PortExpr.{PortExpr}
use Rattle.action_tree.specs.declared.expression.Cmp.{Cmp}
use Rattle.action_tree.specs.Trees as tree
use Rattle.action_tree.specs.Views.{name_of, literal_of, dirterm_of, guard_of, sum_of, part_of, term_of, port_of}
use Rattle.action_tree.specs.Limits.{most_further}
use Rattle.action_tree.specs.declared.role.Role.TheVariants.{AName, ANumber, OpenSign, CloseSign, MinusSign, CompareSign, AtomWord, NotWord, AndWord, OrWord, QuantifierWord, InWord, CountWord, SideWord, InnerWord, Mod6Word, EndWord, TurnWord, FirstWord}
use Rattle.action_tree.specs.Roles.{is_a, is_test, is_set, is_dirterm, is_plus_or_minus, as_name, as_literal, as_dirterm, as_set, as_end, as_cmp, atom_by, quantifier_by, test_by, side_by}
use Rattle.action_tree.specs.Expressions.{bound_at}
use Rattle.action_tree.specs.ExpressionReaders.{Readers, begins_unit, begins_term, a_selection, a_port, a_test, a_comparison, port_by, a_term, term_by, a_minus, part, a_sum, a_unit, unit_by, a_conj, inside, member}
use Rattle.action_parser.specs.Selections.{selection_of}
use Rattle.action_parser.proofs.Lists.{with_first, more_units, more_conjs}
use Rattle.action_parser.proofs.Tokens.{taken, untaken, all_read}
use Rattle.action_tree.proofs.Viewed as built
use Rattle.action_parser.proofs.Elements.{unit_elements, conj_elements, part_elements}
use Rattle.action_parser.proofs.Levels.{next_is, gives_below, gives_bound, chosen, chosen_as, none_chosen, none_begins, unit_rest, term_rest, port_rest, port_term, test_unit}
use Rattle.action_parser.proofs.Behind.{none_comes, sign_fails, one_too_many, element_fails, one_read}
use Rattle.action_parser.proofs.ListsLemmas.{next_found, all_found, next_fails, counted_found, units_begun, conjs_begun, conj_read, conj_fails, expr_read, expr_fails, sum_read, sum_fails, view_pushed, two_pushed, all_in_two, any_in_two}
use Rattle.action_parser.proofs.expression.+expression.Goals as goal

-- ---- more_conj

pub more_conj-returns-then-not-is_next-clause-reads : goal.more_conj-returns-then-not-is_next-clause-reads
more_conj-returns-then-not-is_next-clause-reads t w = none_comes (is_a OrWord) begins_unit w.args.levels w.args.room (λ sign. a_conj w.args.levels w.args.names (inside w.args.levels)) w.args.tokens.now (sym w.is_next.ensures ∙ w.if-not-is_next.true)

pub more_conj-returns-in_err-token-clause-reads : goal.more_conj-returns-in_err-token-clause-reads
more_conj-returns-in_err-token-clause-reads t w =
    let p = err_from_is_err_and w.from_residual.result w.from_residual.ensures.1 in
    rw (p.1, p.2) (sign_fails (is_a OrWord) begins_unit w.args.levels w.args.room (λ sign. a_conj w.args.levels w.args.names (inside w.args.levels)) w.args.tokens.now (sym w.is_next.ensures ∙ w.if-not-is_next.false) w.in_err-token.field-0.0 w.in_err-token.ensures.reads)

pub more_conj-returns-then-room-eq0-clause-reads : goal.more_conj-returns-then-room-eq0-clause-reads
more_conj-returns-then-room-eq0-clause-reads t w = rw w.into.ensures (one_too_many (is_a OrWord) begins_unit w.args.levels w.args.room (λ sign. a_conj w.args.levels w.args.names (inside w.args.levels)) w.args.tokens.now (sym w.is_next.ensures ∙ w.if-not-is_next.false) w.in_ok-token.ensures.reads w.full_guard.result w.if-room-eq0.true w.full_guard.ensures)

pub more_conj-returns-in_err-read_conj-clause-reads : goal.more_conj-returns-in_err-read_conj-clause-reads
more_conj-returns-in_err-read_conj-clause-reads t w =
    let p = err_from_is_err_and w.from_residual-in_err-read_conj.result w.from_residual-in_err-read_conj.ensures.1 in
    rw (p.1, p.2) (element_fails (is_a OrWord) begins_unit w.args.levels w.args.room (λ sign. a_conj w.args.levels w.args.names (inside w.args.levels)) w.args.tokens.now (sym w.is_next.ensures ∙ w.if-not-is_next.false) w.in_ok-token.ensures.reads w.if-room-eq0.false w.in_err-read_conj.field-0.0 w.in_err-read_conj.ensures)

pub more_conj-returns-clause-reads : goal.more_conj-returns-clause-reads
more_conj-returns-clause-reads t w = one_read (is_a OrWord) begins_unit w.args.levels w.args.room (λ sign. a_conj w.args.levels w.args.names (inside w.args.levels)) w.args.tokens.now (sym w.is_next.ensures ∙ w.if-not-is_next.false) w.in_ok-token.ensures.reads w.if-room-eq0.false w.in_ok-read_conj.ensures

-- ---- more_unit

pub more_unit-returns-then-not-is_next-clause-reads : goal.more_unit-returns-then-not-is_next-clause-reads
more_unit-returns-then-not-is_next-clause-reads t w = none_comes (is_a AndWord) begins_unit w.args.levels w.args.room (λ sign. a_unit w.args.levels w.args.names (inside w.args.levels)) w.args.tokens.now (sym w.is_next.ensures ∙ w.if-not-is_next.true)

pub more_unit-returns-in_err-token-clause-reads : goal.more_unit-returns-in_err-token-clause-reads
more_unit-returns-in_err-token-clause-reads t w =
    let p = err_from_is_err_and w.from_residual.result w.from_residual.ensures.1 in
    rw (p.1, p.2) (sign_fails (is_a AndWord) begins_unit w.args.levels w.args.room (λ sign. a_unit w.args.levels w.args.names (inside w.args.levels)) w.args.tokens.now (sym w.is_next.ensures ∙ w.if-not-is_next.false) w.in_err-token.field-0.0 w.in_err-token.ensures.reads)

pub more_unit-returns-then-room-eq0-clause-reads : goal.more_unit-returns-then-room-eq0-clause-reads
more_unit-returns-then-room-eq0-clause-reads t w = rw w.into.ensures (one_too_many (is_a AndWord) begins_unit w.args.levels w.args.room (λ sign. a_unit w.args.levels w.args.names (inside w.args.levels)) w.args.tokens.now (sym w.is_next.ensures ∙ w.if-not-is_next.false) w.in_ok-token.ensures.reads w.full_guard.result w.if-room-eq0.true w.full_guard.ensures)

pub more_unit-returns-in_err-read_unit-clause-reads : goal.more_unit-returns-in_err-read_unit-clause-reads
more_unit-returns-in_err-read_unit-clause-reads t w =
    let p = err_from_is_err_and w.from_residual-in_err-read_unit.result w.from_residual-in_err-read_unit.ensures.1 in
    rw (p.1, p.2) (element_fails (is_a AndWord) begins_unit w.args.levels w.args.room (λ sign. a_unit w.args.levels w.args.names (inside w.args.levels)) w.args.tokens.now (sym w.is_next.ensures ∙ w.if-not-is_next.false) w.in_ok-token.ensures.reads w.if-room-eq0.false w.in_err-read_unit.field-0.0 w.in_err-read_unit.ensures)

pub more_unit-returns-clause-reads : goal.more_unit-returns-clause-reads
more_unit-returns-clause-reads t w = one_read (is_a AndWord) begins_unit w.args.levels w.args.room (λ sign. a_unit w.args.levels w.args.names (inside w.args.levels)) w.args.tokens.now (sym w.is_next.ensures ∙ w.if-not-is_next.false) w.in_ok-token.ensures.reads w.if-room-eq0.false w.in_ok-read_unit.ensures

-- ---- read_selection

pub read_selection-returns-in_err-name : goal.read_selection-returns-in_err-name
unfolding a_selection
read_selection-returns-in_err-name t w =
    let p = err_from_is_err_and w.from_residual.result w.from_residual.ensures.1 in
    let l0 = all_left (a_selection w.args.levels w.args.names (inside w.args.levels)) w.args.tokens.now in
    rw (p.1, p.2) (part_fails (one_within (is_a AName) (bound_at w.args.names)) _ l0 w.in_err-name.field-0.0 w.bound_name.new.tokens (untaken (one_within (is_a AName) (bound_at w.args.names)) as_name w.args.tokens.now w.bound_name.new.tokens w.in_err-name.field-0.0 w.in_err-name.ensures.reads))

pub read_selection-returns-in_err-token : goal.read_selection-returns-in_err-token
unfolding a_selection
read_selection-returns-in_err-token t w =
    let p = err_from_is_err_and w.from_residual-in_err-token.result w.from_residual-in_err-token.ensures.1 in
    let l0 = all_left (a_selection w.args.levels w.args.names (inside w.args.levels)) w.args.tokens.now in
    let x1 = taken (one_within (is_a AName) (bound_at w.args.names)) as_name w.args.tokens.now w.bound_name.new.tokens (name_of w.in_ok-name.name) w.in_ok-name.ensures.reads in
    let l1 = past_part (one_within (is_a AName) (bound_at w.args.names)) _ l0 x1.part w.bound_name.new.tokens x1.reads in
    rw (p.1, p.2) (part_fails (one (is_a InWord)) _ l1 w.in_err-token.field-0.0 w.token.new.tokens w.in_err-token.ensures.reads)

pub read_selection-returns-in_err-set : goal.read_selection-returns-in_err-set
unfolding a_selection
read_selection-returns-in_err-set t w =
    let p = err_from_is_err_and w.from_residual-in_err-set.result w.from_residual-in_err-set.ensures.1 in
    let l0 = all_left (a_selection w.args.levels w.args.names (inside w.args.levels)) w.args.tokens.now in
    let x1 = taken (one_within (is_a AName) (bound_at w.args.names)) as_name w.args.tokens.now w.bound_name.new.tokens (name_of w.in_ok-name.name) w.in_ok-name.ensures.reads in
    let l1 = past_part (one_within (is_a AName) (bound_at w.args.names)) _ l0 x1.part w.bound_name.new.tokens x1.reads in
    let l2 = past_part (one (is_a InWord)) _ l1 (lexeme_of w.bound_name.new.tokens.source w.in_ok-token.field-0) w.token.new.tokens w.in_ok-token.ensures.reads in
    rw (p.1, p.2) (part_fails (one is_set) _ l2 w.in_err-set.field-0.0 w.port_set.new.tokens (untaken (one is_set) as_set w.token.new.tokens w.port_set.new.tokens w.in_err-set.field-0.0 w.in_err-set.ensures))

pub read_selection-returns-in_err-open : goal.read_selection-returns-in_err-open
unfolding a_selection
read_selection-returns-in_err-open t w =
    let p = err_from_is_err_and w.from_residual-in_err-open.result w.from_residual-in_err-open.ensures.1 in
    let l0 = all_left (a_selection w.args.levels w.args.names (inside w.args.levels)) w.args.tokens.now in
    let x1 = taken (one_within (is_a AName) (bound_at w.args.names)) as_name w.args.tokens.now w.bound_name.new.tokens (name_of w.in_ok-name.name) w.in_ok-name.ensures.reads in
    let l1 = past_part (one_within (is_a AName) (bound_at w.args.names)) _ l0 x1.part w.bound_name.new.tokens x1.reads in
    let l2 = past_part (one (is_a InWord)) _ l1 (lexeme_of w.bound_name.new.tokens.source w.in_ok-token.field-0) w.token.new.tokens w.in_ok-token.ensures.reads in
    let x3 = taken (one is_set) as_set w.token.new.tokens w.port_set.new.tokens (w.in_ok-set.set) w.in_ok-set.ensures in
    let l3 = past_part (one is_set) _ l2 x3.part w.port_set.new.tokens x3.reads in
    rw (p.1, p.2) (part_fails (opening_token w.args.levels (is_a OpenSign)) _ l3 w.in_err-open.field-0.0 w.open.new.tokens w.in_err-open.ensures.reads)

pub read_selection-returns-in_err-guard : goal.read_selection-returns-in_err-guard
unfolding a_selection
read_selection-returns-in_err-guard t w =
    let p = err_from_is_err_and w.from_residual-in_err-guard.result w.from_residual-in_err-guard.ensures.1 in
    let l0 = all_left (a_selection w.args.levels w.args.names (inside w.args.levels)) w.args.tokens.now in
    let x1 = taken (one_within (is_a AName) (bound_at w.args.names)) as_name w.args.tokens.now w.bound_name.new.tokens (name_of w.in_ok-name.name) w.in_ok-name.ensures.reads in
    let l1 = past_part (one_within (is_a AName) (bound_at w.args.names)) _ l0 x1.part w.bound_name.new.tokens x1.reads in
    let l2 = past_part (one (is_a InWord)) _ l1 (lexeme_of w.bound_name.new.tokens.source w.in_ok-token.field-0) w.token.new.tokens w.in_ok-token.ensures.reads in
    let x3 = taken (one is_set) as_set w.token.new.tokens w.port_set.new.tokens (w.in_ok-set.set) w.in_ok-set.ensures in
    let l3 = past_part (one is_set) _ l2 x3.part w.port_set.new.tokens x3.reads in
    let l4 = past_part (opening_token w.args.levels (is_a OpenSign)) _ l3 (lexeme_of w.port_set.new.tokens.source w.in_ok-open.field-0) w.open.new.tokens w.in_ok-open.ensures.reads in
    rw (p.1, p.2) (part_fails ((inside w.args.levels (less w.args.names)).expr) _ l4 w.in_err-guard.field-0.0 w.read_guard.new.tokens (gives_bound (λ (r : Readers). r.expr) guard_of w.args.levels w.args.names w.open.new.tokens w.read_guard.new.tokens (Err w.in_err-guard.field-0.0) w.in_ok-open.ensures.deep w.in_err-guard.ensures))

pub read_selection-returns-in_err-token-2 : goal.read_selection-returns-in_err-token-2
unfolding a_selection
read_selection-returns-in_err-token-2 t w =
    let p = err_from_is_err_and w.from_residual-in_err-token-2.result w.from_residual-in_err-token-2.ensures.1 in
    let l0 = all_left (a_selection w.args.levels w.args.names (inside w.args.levels)) w.args.tokens.now in
    let x1 = taken (one_within (is_a AName) (bound_at w.args.names)) as_name w.args.tokens.now w.bound_name.new.tokens (name_of w.in_ok-name.name) w.in_ok-name.ensures.reads in
    let l1 = past_part (one_within (is_a AName) (bound_at w.args.names)) _ l0 x1.part w.bound_name.new.tokens x1.reads in
    let l2 = past_part (one (is_a InWord)) _ l1 (lexeme_of w.bound_name.new.tokens.source w.in_ok-token.field-0) w.token.new.tokens w.in_ok-token.ensures.reads in
    let x3 = taken (one is_set) as_set w.token.new.tokens w.port_set.new.tokens (w.in_ok-set.set) w.in_ok-set.ensures in
    let l3 = past_part (one is_set) _ l2 x3.part w.port_set.new.tokens x3.reads in
    let l4 = past_part (opening_token w.args.levels (is_a OpenSign)) _ l3 (lexeme_of w.port_set.new.tokens.source w.in_ok-open.field-0) w.open.new.tokens w.in_ok-open.ensures.reads in
    let l5 = past_part ((inside w.args.levels (less w.args.names)).expr) _ l4 (guard_of w.in_ok-guard.guard) w.read_guard.new.tokens (gives_bound (λ (r : Readers). r.expr) guard_of w.args.levels w.args.names w.open.new.tokens w.read_guard.new.tokens (Ok w.in_ok-guard.guard) w.in_ok-open.ensures.deep w.in_ok-guard.ensures) in
    rw (p.1, p.2) (part_fails (one (is_a CloseSign)) _ l5 w.in_err-token-2.field-0.0 w.token-2.new.tokens w.in_err-token-2.ensures.reads)

pub read_selection-returns : goal.read_selection-returns
unfolding a_selection
read_selection-returns t w =
    let l0 = all_left (a_selection w.args.levels w.args.names (inside w.args.levels)) w.args.tokens.now in
    let x1 = taken (one_within (is_a AName) (bound_at w.args.names)) as_name w.args.tokens.now w.bound_name.new.tokens (name_of w.in_ok-name.name) w.in_ok-name.ensures.reads in
    let l1 = past_part (one_within (is_a AName) (bound_at w.args.names)) _ l0 x1.part w.bound_name.new.tokens x1.reads in
    let l2 = past_part (one (is_a InWord)) _ l1 (lexeme_of w.bound_name.new.tokens.source w.in_ok-token.field-0) w.token.new.tokens w.in_ok-token.ensures.reads in
    let x3 = taken (one is_set) as_set w.token.new.tokens w.port_set.new.tokens (w.in_ok-set.set) w.in_ok-set.ensures in
    let l3 = past_part (one is_set) _ l2 x3.part w.port_set.new.tokens x3.reads in
    let l4 = past_part (opening_token w.args.levels (is_a OpenSign)) _ l3 (lexeme_of w.port_set.new.tokens.source w.in_ok-open.field-0) w.open.new.tokens w.in_ok-open.ensures.reads in
    let l5 = past_part ((inside w.args.levels (less w.args.names)).expr) _ l4 (guard_of w.in_ok-guard.guard) w.read_guard.new.tokens (gives_bound (λ (r : Readers). r.expr) guard_of w.args.levels w.args.names w.open.new.tokens w.read_guard.new.tokens (Ok w.in_ok-guard.guard) w.in_ok-open.ensures.deep w.in_ok-guard.ensures) in
    let l6 = past_part (one (is_a CloseSign)) _ l5 (lexeme_of w.read_guard.new.tokens.source w.in_ok-token-2.field-0) w.token-2.new.tokens w.in_ok-token-2.ensures.reads in
    all_read (a_selection w.args.levels w.args.names (inside w.args.levels)) w.args.tokens.now w.token-2.new.tokens _ _ l6 (rw (x1.is, x3.is, w.in_ok-new.ensures.ok) refl)

-- ---- read_conj

pub read_conj-returns-in_err-first : goal.read_conj-returns-in_err-first
read_conj-returns-in_err-first t w =
    let p = err_from_is_err_and w.from_residual.result w.from_residual.ensures.1 in
    let e = w.in_err-first.field-0.0 in
    rw (p.1, p.2) (conj_fails w.args.levels w.args.names e (fails (a_unit w.args.levels w.args.names (inside w.args.levels)) (λ g. with_first g (more_units w.args.levels w.args.names most_further)) e w.args.tokens.now w.read_unit.new.tokens w.in_err-first.ensures))

pub read_conj-returns-in_err-second : goal.read_conj-returns-in_err-second
read_conj-returns-in_err-second t w =
    let p = err_from_is_err_and w.from_residual-in_err-second.result w.from_residual-in_err-second.ensures.1 in
    let e = w.in_err-second.field-0.0 in
    rw (p.1, p.2) (conj_fails w.args.levels w.args.names e (next_fails (unit_elements w.args.levels w.args.names) (λ room g. less room) most_further (units_begun w.args.levels w.args.names w.in_ok-first.ensures) e w.in_err-second.ensures.reads))

pub read_conj-returns-in_default : goal.read_conj-returns-in_default
read_conj-returns-in_default t w =
    let next = rw w.in_default.is at w.in_ok-second.ensures.reads in
    conj_read w.args.levels w.args.names (all_found (unit_elements w.args.levels w.args.names) (λ room g. less room) most_further (units_begun w.args.levels w.args.names w.in_ok-first.ensures) next) refl

pub read_conj-loop-found-init : goal.read_conj-loop-found-init
read_conj-loop-found-init t w =
    let items : w.push-2.new.self.items ≡ w.in_ok-first.first ∷ w.in-Some.second ∷ [] = two_pushed w.in_ok-first.first w.in-Some.second w.new-found.ensures.items w.in_ok-push.ensures.items w.in_ok-push-2.ensures.items in
    let next = rw w.in-Some.is at w.in_ok-second.ensures.reads in
    record {
      reads = next_found (unit_elements w.args.levels w.args.names) (λ room g. less room) most_further (units_begun w.args.levels w.args.names w.in_ok-first.ensures) next (map guard_of w.push-2.new.self.items) (ap (λ (xs : List Guard). map guard_of xs) items);
      two = rw items (omega arith);
    }

pub read_conj-returns-in_err-next : goal.read_conj-returns-in_err-next
read_conj-returns-in_err-next t w =
    let p = err_from_is_err_and w.from_residual-in_err-next.result w.from_residual-in_err-next.ensures.1 in
    let e = w.in_err-next.field-0.0 in
    rw (p.1, p.2) (conj_fails w.args.levels w.args.names e (next_fails (unit_elements w.args.levels w.args.names) (λ room g. less room) w.loop-found.room w.loop-found.invariant.reads e w.in_err-next.ensures.reads))

pub read_conj-loop-found-preserved : goal.read_conj-loop-found-preserved
read_conj-loop-found-preserved t w =
    let h = w.in-Some-2.next in
    let two = w.loop-found.invariant.two in
    let next = rw w.in-Some-2.is at w.in_ok-next.ensures.reads in
    record {
      reads = counted_found (unit_elements w.args.levels w.args.names) w.loop-found.room w.loop-found.invariant.reads next (map guard_of w.push-in-Some-2.new.self.items) (view_pushed guard_of w.loop-found.found.items h w.in_ok-push-3.ensures.items);
      two = rw w.in_ok-push-3.ensures.items (omega (arith, two, length-append w.loop-found.found.items (h ∷ [])));
    }

pub read_conj-returns : goal.read_conj-returns
read_conj-returns t w =
    let all = map guard_of w.loop-found.found.items in
    let two : 2 ≤ length all = rw (length-map w.loop-found.found.items guard_of) w.loop-found.invariant.two in
    let next = rw w.in_default-2.is at w.in_ok-next.ensures.reads in
    conj_read w.args.levels w.args.names (all_found (unit_elements w.args.levels w.args.names) (λ room g. less room) w.loop-found.room w.loop-found.invariant.reads next) (all_in_two all two ∙ sym (built.guard_and w.loop-found.found))

-- ---- read_guard

pub read_guard-returns-in_err-first : goal.read_guard-returns-in_err-first
read_guard-returns-in_err-first t w =
    let p = err_from_is_err_and w.from_residual.result w.from_residual.ensures.1 in
    let e = w.in_err-first.field-0.0 in
    rw (p.1, p.2) (expr_fails w.args.levels w.args.names e (fails (a_conj w.args.levels w.args.names (inside w.args.levels)) (λ g. with_first g (more_conjs w.args.levels w.args.names most_further)) e w.args.tokens.now w.read_conj.new.tokens w.in_err-first.ensures))

pub read_guard-returns-in_err-second : goal.read_guard-returns-in_err-second
read_guard-returns-in_err-second t w =
    let p = err_from_is_err_and w.from_residual-in_err-second.result w.from_residual-in_err-second.ensures.1 in
    let e = w.in_err-second.field-0.0 in
    rw (p.1, p.2) (expr_fails w.args.levels w.args.names e (next_fails (conj_elements w.args.levels w.args.names) (λ room g. less room) most_further (conjs_begun w.args.levels w.args.names w.in_ok-first.ensures) e w.in_err-second.ensures.reads))

pub read_guard-returns-in_default : goal.read_guard-returns-in_default
read_guard-returns-in_default t w =
    let next = rw w.in_default.is at w.in_ok-second.ensures.reads in
    expr_read w.args.levels w.args.names (all_found (conj_elements w.args.levels w.args.names) (λ room g. less room) most_further (conjs_begun w.args.levels w.args.names w.in_ok-first.ensures) next) refl

pub read_guard-loop-found-init : goal.read_guard-loop-found-init
read_guard-loop-found-init t w =
    let items : w.push-2.new.self.items ≡ w.in_ok-first.first ∷ w.in-Some.second ∷ [] = two_pushed w.in_ok-first.first w.in-Some.second w.new-found.ensures.items w.in_ok-push.ensures.items w.in_ok-push-2.ensures.items in
    let next = rw w.in-Some.is at w.in_ok-second.ensures.reads in
    record {
      reads = next_found (conj_elements w.args.levels w.args.names) (λ room g. less room) most_further (conjs_begun w.args.levels w.args.names w.in_ok-first.ensures) next (map guard_of w.push-2.new.self.items) (ap (λ (xs : List Guard). map guard_of xs) items);
      two = rw items (omega arith);
    }

pub read_guard-returns-in_err-next : goal.read_guard-returns-in_err-next
read_guard-returns-in_err-next t w =
    let p = err_from_is_err_and w.from_residual-in_err-next.result w.from_residual-in_err-next.ensures.1 in
    let e = w.in_err-next.field-0.0 in
    rw (p.1, p.2) (expr_fails w.args.levels w.args.names e (next_fails (conj_elements w.args.levels w.args.names) (λ room g. less room) w.loop-found.room w.loop-found.invariant.reads e w.in_err-next.ensures.reads))

pub read_guard-loop-found-preserved : goal.read_guard-loop-found-preserved
read_guard-loop-found-preserved t w =
    let h = w.in-Some-2.next in
    let two = w.loop-found.invariant.two in
    let next = rw w.in-Some-2.is at w.in_ok-next.ensures.reads in
    record {
      reads = counted_found (conj_elements w.args.levels w.args.names) w.loop-found.room w.loop-found.invariant.reads next (map guard_of w.push-in-Some-2.new.self.items) (view_pushed guard_of w.loop-found.found.items h w.in_ok-push-3.ensures.items);
      two = rw w.in_ok-push-3.ensures.items (omega (arith, two, length-append w.loop-found.found.items (h ∷ [])));
    }

pub read_guard-returns : goal.read_guard-returns
read_guard-returns t w =
    let all = map guard_of w.loop-found.found.items in
    let two : 2 ≤ length all = rw (length-map w.loop-found.found.items guard_of) w.loop-found.invariant.two in
    let next = rw w.in_default-2.is at w.in_ok-next.ensures.reads in
    expr_read w.args.levels w.args.names (all_found (conj_elements w.args.levels w.args.names) (λ room g. less room) w.loop-found.room w.loop-found.invariant.reads next) (any_in_two all two ∙ sym (built.guard_or w.loop-found.found))

-- ---- read_port

pub read_port-returns-in_err-name-in-AName : goal.read_port-returns-in_err-name-in-AName
unfolding a_port
read_port-returns-in_err-name-in-AName t w =
    let p = err_from_is_err_and w.from_residual.result w.from_residual.ensures.1 in
    let l0 = chosen (port_by w.args.levels w.args.names (inside w.args.levels)) w.args.tokens.now AName (next_is w.next_role.ensures w.in-Some.is w.in-AName.is) in
    rw (p.1, p.2) (part_fails (one (is_a AName)) _ l0 w.in_err-name-in-AName.field-0.0 w.name.new.tokens (untaken (one (is_a AName)) as_name w.args.tokens.now w.name.new.tokens w.in_err-name-in-AName.field-0.0 w.in_err-name-in-AName.ensures))

pub read_port-returns-in_ok-name-in-AName : goal.read_port-returns-in_ok-name-in-AName
unfolding a_port
read_port-returns-in_ok-name-in-AName t w =
    let l0 = chosen (port_by w.args.levels w.args.names (inside w.args.levels)) w.args.tokens.now AName (next_is w.next_role.ensures w.in-Some.is w.in-AName.is) in
    let x1 = taken (one (is_a AName)) as_name w.args.tokens.now w.name.new.tokens (name_of w.in_ok-name-in-AName.field-0) w.in_ok-name-in-AName.ensures in
    let l1 = past_part (one (is_a AName)) _ l0 x1.part w.name.new.tokens x1.reads in
    all_read (a_port w.args.levels w.args.names (inside w.args.levels)) w.args.tokens.now w.name.new.tokens _ _ l1 (ap tree.bound x1.is ∙ sym (built.port_name w.in_ok-name-in-AName.field-0))

pub read_port-returns-in_err-end-in-EndWord : goal.read_port-returns-in_err-end-in-EndWord
unfolding a_port
read_port-returns-in_err-end-in-EndWord t w =
    let p = err_from_is_err_and w.from_residual-in_err-end-in-EndWord.result w.from_residual-in_err-end-in-EndWord.ensures.1 in
    let l0 = chosen (port_by w.args.levels w.args.names (inside w.args.levels)) w.args.tokens.now EndWord (next_is w.next_role.ensures w.in-Some.is w.in-EndWord.is) in
    rw (p.1, p.2) (part_fails (one (is_a EndWord)) _ l0 w.in_err-end-in-EndWord.field-0.0 w.end.new.tokens (untaken (one (is_a EndWord)) as_end w.args.tokens.now w.end.new.tokens w.in_err-end-in-EndWord.field-0.0 w.in_err-end-in-EndWord.ensures))

pub read_port-returns-in_err-dirterm-in-EndWord : goal.read_port-returns-in_err-dirterm-in-EndWord
unfolding a_port
read_port-returns-in_err-dirterm-in-EndWord t w =
    let p = err_from_is_err_and w.from_residual-in_err-dirterm-in-EndWord.result w.from_residual-in_err-dirterm-in-EndWord.ensures.1 in
    let l0 = chosen (port_by w.args.levels w.args.names (inside w.args.levels)) w.args.tokens.now EndWord (next_is w.next_role.ensures w.in-Some.is w.in-EndWord.is) in
    let x1 = taken (one (is_a EndWord)) as_end w.args.tokens.now w.end.new.tokens (w.in_ok-end-in-EndWord.end) w.in_ok-end-in-EndWord.ensures in
    let l1 = past_part (one (is_a EndWord)) _ l0 x1.part w.end.new.tokens x1.reads in
    rw (p.1, p.2) (part_fails (one is_dirterm) _ l1 w.in_err-dirterm-in-EndWord.field-0.0 w.dirterm.new.tokens (untaken (one is_dirterm) as_dirterm w.end.new.tokens w.dirterm.new.tokens w.in_err-dirterm-in-EndWord.field-0.0 w.in_err-dirterm-in-EndWord.ensures))

pub read_port-returns-in_ok-dirterm-in-EndWord : goal.read_port-returns-in_ok-dirterm-in-EndWord
unfolding a_port
read_port-returns-in_ok-dirterm-in-EndWord t w =
    let l0 = chosen (port_by w.args.levels w.args.names (inside w.args.levels)) w.args.tokens.now EndWord (next_is w.next_role.ensures w.in-Some.is w.in-EndWord.is) in
    let x1 = taken (one (is_a EndWord)) as_end w.args.tokens.now w.end.new.tokens (w.in_ok-end-in-EndWord.end) w.in_ok-end-in-EndWord.ensures in
    let l1 = past_part (one (is_a EndWord)) _ l0 x1.part w.end.new.tokens x1.reads in
    let x2 = taken (one is_dirterm) as_dirterm w.end.new.tokens w.dirterm.new.tokens (dirterm_of w.in_ok-dirterm-in-EndWord.field-0) w.in_ok-dirterm-in-EndWord.ensures in
    let l2 = past_part (one is_dirterm) _ l1 x2.part w.dirterm.new.tokens x2.reads in
    all_read (a_port w.args.levels w.args.names (inside w.args.levels)) w.args.tokens.now w.dirterm.new.tokens _ _ l2 (rw (x1.is, x2.is) (sym (built.port_at w.in_ok-end-in-EndWord.end w.in_ok-dirterm-in-EndWord.field-0)))

pub read_port-returns-in_err-open-in-TurnWord : goal.read_port-returns-in_err-open-in-TurnWord
unfolding a_port
read_port-returns-in_err-open-in-TurnWord t w =
    let p = err_from_is_err_and w.from_residual-in_err-open-in-TurnWord.result w.from_residual-in_err-open-in-TurnWord.ensures.1 in
    let l0 = chosen (port_by w.args.levels w.args.names (inside w.args.levels)) w.args.tokens.now TurnWord (next_is w.next_role.ensures w.in-Some.is w.in-TurnWord.is) in
    rw (p.1, p.2) (part_fails (opening_token w.args.levels (is_a TurnWord)) _ l0 w.in_err-open-in-TurnWord.field-0.0 w.open.new.tokens w.in_err-open-in-TurnWord.ensures.reads)

pub read_port-returns-in_err-port-in-TurnWord : goal.read_port-returns-in_err-port-in-TurnWord
unfolding a_port
read_port-returns-in_err-port-in-TurnWord t w =
    let p = err_from_is_err_and w.from_residual-in_err-port-in-TurnWord.result w.from_residual-in_err-port-in-TurnWord.ensures.1 in
    let l0 = chosen (port_by w.args.levels w.args.names (inside w.args.levels)) w.args.tokens.now TurnWord (next_is w.next_role.ensures w.in-Some.is w.in-TurnWord.is) in
    let l1 = past_part (opening_token w.args.levels (is_a TurnWord)) _ l0 (lexeme_of w.args.tokens.now.source w.in_ok-open-in-TurnWord.field-0) w.open.new.tokens w.in_ok-open-in-TurnWord.ensures.reads in
    rw (p.1, p.2) (part_fails ((inside w.args.levels w.args.names).port) _ l1 w.in_err-port-in-TurnWord.field-0.0 w.read_port.new.tokens (gives_below (λ (r : Readers). r.port) port_of w.args.levels w.args.names w.open.new.tokens w.read_port.new.tokens (Err w.in_err-port-in-TurnWord.field-0.0) w.in_ok-open-in-TurnWord.ensures.deep w.in_err-port-in-TurnWord.ensures))

pub read_port-returns-in_err-by-in-TurnWord : goal.read_port-returns-in_err-by-in-TurnWord
unfolding a_port
read_port-returns-in_err-by-in-TurnWord t w =
    let p = err_from_is_err_and w.from_residual-in_err-by-in-TurnWord.result w.from_residual-in_err-by-in-TurnWord.ensures.1 in
    let l0 = chosen (port_by w.args.levels w.args.names (inside w.args.levels)) w.args.tokens.now TurnWord (next_is w.next_role.ensures w.in-Some.is w.in-TurnWord.is) in
    let l1 = past_part (opening_token w.args.levels (is_a TurnWord)) _ l0 (lexeme_of w.args.tokens.now.source w.in_ok-open-in-TurnWord.field-0) w.open.new.tokens w.in_ok-open-in-TurnWord.ensures.reads in
    let l2 = past_part ((inside w.args.levels w.args.names).port) _ l1 (port_of w.in_ok-port-in-TurnWord.port) w.read_port.new.tokens (gives_below (λ (r : Readers). r.port) port_of w.args.levels w.args.names w.open.new.tokens w.read_port.new.tokens (Ok w.in_ok-port-in-TurnWord.port) w.in_ok-open-in-TurnWord.ensures.deep w.in_ok-port-in-TurnWord.ensures) in
    rw (p.1, p.2) (part_fails (one (is_a ANumber)) _ l2 w.in_err-by-in-TurnWord.field-0.0 w.literal.new.tokens (untaken (one (is_a ANumber)) as_literal w.read_port.new.tokens w.literal.new.tokens w.in_err-by-in-TurnWord.field-0.0 w.in_err-by-in-TurnWord.ensures))

pub read_port-returns-in_ok-new-in-TurnWord : goal.read_port-returns-in_ok-new-in-TurnWord
unfolding a_port
read_port-returns-in_ok-new-in-TurnWord t w =
    let l0 = chosen (port_by w.args.levels w.args.names (inside w.args.levels)) w.args.tokens.now TurnWord (next_is w.next_role.ensures w.in-Some.is w.in-TurnWord.is) in
    let l1 = past_part (opening_token w.args.levels (is_a TurnWord)) _ l0 (lexeme_of w.args.tokens.now.source w.in_ok-open-in-TurnWord.field-0) w.open.new.tokens w.in_ok-open-in-TurnWord.ensures.reads in
    let l2 = past_part ((inside w.args.levels w.args.names).port) _ l1 (port_of w.in_ok-port-in-TurnWord.port) w.read_port.new.tokens (gives_below (λ (r : Readers). r.port) port_of w.args.levels w.args.names w.open.new.tokens w.read_port.new.tokens (Ok w.in_ok-port-in-TurnWord.port) w.in_ok-open-in-TurnWord.ensures.deep w.in_ok-port-in-TurnWord.ensures) in
    let x3 = taken (one (is_a ANumber)) as_literal w.read_port.new.tokens w.literal.new.tokens (literal_of w.in_ok-by-in-TurnWord.by) w.in_ok-by-in-TurnWord.ensures in
    let l3 = past_part (one (is_a ANumber)) _ l2 x3.part w.literal.new.tokens x3.reads in
    all_read (a_port w.args.levels w.args.names (inside w.args.levels)) w.args.tokens.now w.literal.new.tokens _ _ l3 (rw x3.is (ap (λ (p : PortExpr). tree.turned (port_of p) (literal_of w.in_ok-by-in-TurnWord.by)) (sym w.in_ok-new-in-TurnWord.ensures.ok) ∙ sym (built.port_turn w.in_ok-new-in-TurnWord.field-0 w.in_ok-by-in-TurnWord.by)))

pub read_port-returns-in_err-token-in-FirstWord : goal.read_port-returns-in_err-token-in-FirstWord
unfolding a_port
read_port-returns-in_err-token-in-FirstWord t w =
    let p = err_from_is_err_and w.from_residual-in_err-token-in-FirstWord.result w.from_residual-in_err-token-in-FirstWord.ensures.1 in
    let l0 = chosen (port_by w.args.levels w.args.names (inside w.args.levels)) w.args.tokens.now FirstWord (next_is w.next_role.ensures w.in-Some.is w.in-FirstWord.is) in
    rw (p.1, p.2) (part_fails (one (is_a FirstWord)) _ l0 w.in_err-token-in-FirstWord.field-0.0 w.token.new.tokens w.in_err-token-in-FirstWord.ensures.reads)

pub read_port-returns-in_err-selection-in-FirstWord : goal.read_port-returns-in_err-selection-in-FirstWord
unfolding a_port
read_port-returns-in_err-selection-in-FirstWord t w =
    let p = err_from_is_err_and w.from_residual-in_err-selection-in-FirstWord.result w.from_residual-in_err-selection-in-FirstWord.ensures.1 in
    let l0 = chosen (port_by w.args.levels w.args.names (inside w.args.levels)) w.args.tokens.now FirstWord (next_is w.next_role.ensures w.in-Some.is w.in-FirstWord.is) in
    let l1 = past_part (one (is_a FirstWord)) _ l0 (lexeme_of w.args.tokens.now.source w.in_ok-token-in-FirstWord.field-0) w.token.new.tokens w.in_ok-token-in-FirstWord.ensures.reads in
    rw (p.1, p.2) (part_fails (a_selection w.args.levels w.args.names (inside w.args.levels)) _ l1 w.in_err-selection-in-FirstWord.field-0.0 w.read_selection.new.tokens w.in_err-selection-in-FirstWord.ensures)

pub read_port-returns-in_ok-selection-in-FirstWord : goal.read_port-returns-in_ok-selection-in-FirstWord
unfolding a_port
read_port-returns-in_ok-selection-in-FirstWord t w =
    let l0 = chosen (port_by w.args.levels w.args.names (inside w.args.levels)) w.args.tokens.now FirstWord (next_is w.next_role.ensures w.in-Some.is w.in-FirstWord.is) in
    let l1 = past_part (one (is_a FirstWord)) _ l0 (lexeme_of w.args.tokens.now.source w.in_ok-token-in-FirstWord.field-0) w.token.new.tokens w.in_ok-token-in-FirstWord.ensures.reads in
    let l2 = past_part (a_selection w.args.levels w.args.names (inside w.args.levels)) _ l1 (selection_of w.in_ok-selection-in-FirstWord.selection) w.read_selection.new.tokens w.in_ok-selection-in-FirstWord.ensures in
    let c = w.in_ok-selection-in-FirstWord.selection in all_read (a_port w.args.levels w.args.names (inside w.args.levels)) w.args.tokens.now w.read_selection.new.tokens _ _ l2 (sym (built.port_first c.name c.set c.guard))

pub read_port-returns-in_default : goal.read_port-returns-in_default
unfolding a_port
read_port-returns-in_default t w = none_chosen (port_by w.args.levels w.args.names (inside w.args.levels)) w.args.tokens.now w.unexpected.result (sym w.next_role.ensures ∙ w.in_default.is) w.unexpected.ensures

pub read_port-returns-in_default-role : goal.read_port-returns-in_default-role
unfolding a_port
read_port-returns-in_default-role t w =
    let d = w.in_default-role in
    none_begins (port_by w.args.levels w.args.names (inside w.args.levels)) w.args.tokens.now w.in-Some.role w.unexpected-in_default-role.result (sym w.next_role.ensures ∙ w.in-Some.is) (port_rest w.args.levels w.args.names (inside w.args.levels) w.in-Some.role d.not-AName d.not-EndWord d.not-TurnWord d.not-FirstWord) w.unexpected-in_default-role.ensures

-- ---- read_term

pub read_term-returns-in_err-literal-in-ANumber : goal.read_term-returns-in_err-literal-in-ANumber
unfolding a_term
read_term-returns-in_err-literal-in-ANumber t w =
    let p = err_from_is_err_and w.from_residual.result w.from_residual.ensures.1 in
    let l0 = chosen (term_by w.args.levels w.args.names (inside w.args.levels)) w.args.tokens.now ANumber (next_is w.next_role.ensures w.in-Some.is w.in-ANumber.is) in
    rw (p.1, p.2) (part_fails (one (is_a ANumber)) _ l0 w.in_err-literal-in-ANumber.field-0.0 w.literal.new.tokens (untaken (one (is_a ANumber)) as_literal w.args.tokens.now w.literal.new.tokens w.in_err-literal-in-ANumber.field-0.0 w.in_err-literal-in-ANumber.ensures))

pub read_term-returns-in_ok-literal-in-ANumber : goal.read_term-returns-in_ok-literal-in-ANumber
unfolding a_term
read_term-returns-in_ok-literal-in-ANumber t w =
    let l0 = chosen (term_by w.args.levels w.args.names (inside w.args.levels)) w.args.tokens.now ANumber (next_is w.next_role.ensures w.in-Some.is w.in-ANumber.is) in
    let x1 = taken (one (is_a ANumber)) as_literal w.args.tokens.now w.literal.new.tokens (literal_of w.in_ok-literal-in-ANumber.field-0) w.in_ok-literal-in-ANumber.ensures in
    let l1 = past_part (one (is_a ANumber)) _ l0 x1.part w.literal.new.tokens x1.reads in
    all_read (a_term w.args.levels w.args.names (inside w.args.levels)) w.args.tokens.now w.literal.new.tokens _ _ l1 (ap tree.number x1.is ∙ sym (built.term_number w.in_ok-literal-in-ANumber.field-0))

pub read_term-returns-in-AName : goal.read_term-returns-in-AName
unfolding a_term
read_term-returns-in-AName t w = gives_left term_of w.own_or_member.result w.own_or_member.new.tokens (chosen (term_by w.args.levels w.args.names (inside w.args.levels)) w.args.tokens.now AName (next_is w.next_role.ensures w.in-Some.is w.in-AName.is)) w.own_or_member.ensures

pub read_term-returns-in_err-port-in-EndWord : goal.read_term-returns-in_err-port-in-EndWord
unfolding a_term
read_term-returns-in_err-port-in-EndWord t w =
    let p = err_from_is_err_and w.from_residual-in_err-port-in-EndWord.result w.from_residual-in_err-port-in-EndWord.ensures.1 in
    let l0 = chosen_as (term_by w.args.levels w.args.names (inside w.args.levels)) w.args.tokens.now w.in-Some.role (a_port w.args.levels w.args.names (inside w.args.levels) >>= member) (sym w.next_role.ensures ∙ w.in-Some.is) (port_term w.args.levels w.args.names (inside w.args.levels) w.in-Some.role w.in-EndWord.is) in
    rw (p.1, p.2) (part_fails (a_port w.args.levels w.args.names (inside w.args.levels)) _ l0 w.in_err-port-in-EndWord.field-0.0 w.read_port.new.tokens w.in_err-port-in-EndWord.ensures)

pub read_term-returns-in_ok-port-in-EndWord : goal.read_term-returns-in_ok-port-in-EndWord
unfolding a_term
read_term-returns-in_ok-port-in-EndWord t w =
    let l0 = chosen_as (term_by w.args.levels w.args.names (inside w.args.levels)) w.args.tokens.now w.in-Some.role (a_port w.args.levels w.args.names (inside w.args.levels) >>= member) (sym w.next_role.ensures ∙ w.in-Some.is) (port_term w.args.levels w.args.names (inside w.args.levels) w.in-Some.role w.in-EndWord.is) in
    let l1 = past_part (a_port w.args.levels w.args.names (inside w.args.levels)) _ l0 (port_of w.in_ok-port-in-EndWord.port) w.read_port.new.tokens w.in_ok-port-in-EndWord.ensures in
    gives_left term_of w.member.result w.member.new.tokens l1 w.member.ensures

pub read_term-returns-in_err-token-in-CountWord : goal.read_term-returns-in_err-token-in-CountWord
unfolding a_term
read_term-returns-in_err-token-in-CountWord t w =
    let p = err_from_is_err_and w.from_residual-in_err-token-in-CountWord.result w.from_residual-in_err-token-in-CountWord.ensures.1 in
    let l0 = chosen (term_by w.args.levels w.args.names (inside w.args.levels)) w.args.tokens.now CountWord (next_is w.next_role.ensures w.in-Some.is w.in-CountWord.is) in
    rw (p.1, p.2) (part_fails (one (is_a CountWord)) _ l0 w.in_err-token-in-CountWord.field-0.0 w.token.new.tokens w.in_err-token-in-CountWord.ensures.reads)

pub read_term-returns-in_err-selection-in-CountWord : goal.read_term-returns-in_err-selection-in-CountWord
unfolding a_term
read_term-returns-in_err-selection-in-CountWord t w =
    let p = err_from_is_err_and w.from_residual-in_err-selection-in-CountWord.result w.from_residual-in_err-selection-in-CountWord.ensures.1 in
    let l0 = chosen (term_by w.args.levels w.args.names (inside w.args.levels)) w.args.tokens.now CountWord (next_is w.next_role.ensures w.in-Some.is w.in-CountWord.is) in
    let l1 = past_part (one (is_a CountWord)) _ l0 (lexeme_of w.args.tokens.now.source w.in_ok-token-in-CountWord.field-0) w.token.new.tokens w.in_ok-token-in-CountWord.ensures.reads in
    rw (p.1, p.2) (part_fails (a_selection w.args.levels w.args.names (inside w.args.levels)) _ l1 w.in_err-selection-in-CountWord.field-0.0 w.read_selection.new.tokens w.in_err-selection-in-CountWord.ensures)

pub read_term-returns-in_ok-selection-in-CountWord : goal.read_term-returns-in_ok-selection-in-CountWord
unfolding a_term
read_term-returns-in_ok-selection-in-CountWord t w =
    let l0 = chosen (term_by w.args.levels w.args.names (inside w.args.levels)) w.args.tokens.now CountWord (next_is w.next_role.ensures w.in-Some.is w.in-CountWord.is) in
    let l1 = past_part (one (is_a CountWord)) _ l0 (lexeme_of w.args.tokens.now.source w.in_ok-token-in-CountWord.field-0) w.token.new.tokens w.in_ok-token-in-CountWord.ensures.reads in
    let l2 = past_part (a_selection w.args.levels w.args.names (inside w.args.levels)) _ l1 (selection_of w.in_ok-selection-in-CountWord.selection) w.read_selection.new.tokens w.in_ok-selection-in-CountWord.ensures in
    let c = w.in_ok-selection-in-CountWord.selection in all_read (a_term w.args.levels w.args.names (inside w.args.levels)) w.args.tokens.now w.read_selection.new.tokens _ _ l2 (sym (built.term_count c.name c.set c.guard))

pub read_term-returns-in_err-word-in-SideWord : goal.read_term-returns-in_err-word-in-SideWord
unfolding a_term
read_term-returns-in_err-word-in-SideWord t w =
    let p = err_from_is_err_and w.from_residual-in_err-word-in-SideWord.result w.from_residual-in_err-word-in-SideWord.ensures.1 in
    let l0 = chosen (term_by w.args.levels w.args.names (inside w.args.levels)) w.args.tokens.now SideWord (next_is w.next_role.ensures w.in-Some.is w.in-SideWord.is) in
    rw (p.1, p.2) (part_fails (one (is_a SideWord)) _ l0 w.in_err-word-in-SideWord.field-0.0 w.text.new.tokens (untaken (one (is_a SideWord)) (λ (t : Lexeme). t.text) w.args.tokens.now w.text.new.tokens w.in_err-word-in-SideWord.field-0.0 w.in_err-word-in-SideWord.ensures))

pub read_term-returns-in_err-port-in-SideWord : goal.read_term-returns-in_err-port-in-SideWord
unfolding a_term
read_term-returns-in_err-port-in-SideWord t w =
    let p = err_from_is_err_and w.from_residual-in_err-port-in-SideWord.result w.from_residual-in_err-port-in-SideWord.ensures.1 in
    let l0 = chosen (term_by w.args.levels w.args.names (inside w.args.levels)) w.args.tokens.now SideWord (next_is w.next_role.ensures w.in-Some.is w.in-SideWord.is) in
    let x1 = taken (one (is_a SideWord)) (λ (t : Lexeme). t.text) w.args.tokens.now w.text.new.tokens (w.in_ok-word-in-SideWord.word.now) w.in_ok-word-in-SideWord.ensures in
    let l1 = past_part (one (is_a SideWord)) _ l0 x1.part w.text.new.tokens x1.reads in
    rw (p.1, p.2) (part_fails (a_port w.args.levels w.args.names (inside w.args.levels)) _ l1 w.in_err-port-in-SideWord.field-0.0 w.read_port-in-SideWord.new.tokens w.in_err-port-in-SideWord.ensures)

pub read_term-returns-in_ok-port-in-SideWord : goal.read_term-returns-in_ok-port-in-SideWord
unfolding a_term
read_term-returns-in_ok-port-in-SideWord t w =
    let l0 = chosen (term_by w.args.levels w.args.names (inside w.args.levels)) w.args.tokens.now SideWord (next_is w.next_role.ensures w.in-Some.is w.in-SideWord.is) in
    let x1 = taken (one (is_a SideWord)) (λ (t : Lexeme). t.text) w.args.tokens.now w.text.new.tokens (w.in_ok-word-in-SideWord.word.now) w.in_ok-word-in-SideWord.ensures in
    let l1 = past_part (one (is_a SideWord)) _ l0 x1.part w.text.new.tokens x1.reads in
    let l2 = past_part (a_port w.args.levels w.args.names (inside w.args.levels)) _ l1 (port_of w.in_ok-port-in-SideWord.port) w.read_port-in-SideWord.new.tokens w.in_ok-port-in-SideWord.ensures in
    all_read (a_term w.args.levels w.args.names (inside w.args.levels)) w.args.tokens.now w.read_port-in-SideWord.new.tokens _ _ l2 (ap (λ (text : List ℕ). tree.direction (side_by text) (port_of w.in_ok-port-in-SideWord.port)) x1.is ∙ sym w.direction.ensures)

pub read_term-returns-in_err-token-in-InnerWord : goal.read_term-returns-in_err-token-in-InnerWord
unfolding a_term
read_term-returns-in_err-token-in-InnerWord t w =
    let p = err_from_is_err_and w.from_residual-in_err-token-in-InnerWord.result w.from_residual-in_err-token-in-InnerWord.ensures.1 in
    let l0 = chosen (term_by w.args.levels w.args.names (inside w.args.levels)) w.args.tokens.now InnerWord (next_is w.next_role.ensures w.in-Some.is w.in-InnerWord.is) in
    rw (p.1, p.2) (part_fails (one (is_a InnerWord)) _ l0 w.in_err-token-in-InnerWord.field-0.0 w.token-in-InnerWord.new.tokens w.in_err-token-in-InnerWord.ensures.reads)

pub read_term-returns-in_ok-token-in-InnerWord : goal.read_term-returns-in_ok-token-in-InnerWord
unfolding a_term
read_term-returns-in_ok-token-in-InnerWord t w =
    let l0 = chosen (term_by w.args.levels w.args.names (inside w.args.levels)) w.args.tokens.now InnerWord (next_is w.next_role.ensures w.in-Some.is w.in-InnerWord.is) in
    let l1 = past_part (one (is_a InnerWord)) _ l0 (lexeme_of w.args.tokens.now.source w.in_ok-token-in-InnerWord.field-0) w.token-in-InnerWord.new.tokens w.in_ok-token-in-InnerWord.ensures.reads in
    all_read (a_term w.args.levels w.args.names (inside w.args.levels)) w.args.tokens.now w.token-in-InnerWord.new.tokens _ _ l1 (sym built.term_inner)

pub read_term-returns-in_err-token-in-Mod6Word : goal.read_term-returns-in_err-token-in-Mod6Word
unfolding a_term
read_term-returns-in_err-token-in-Mod6Word t w =
    let p = err_from_is_err_and w.from_residual-in_err-token-in-Mod6Word.result w.from_residual-in_err-token-in-Mod6Word.ensures.1 in
    let l0 = chosen (term_by w.args.levels w.args.names (inside w.args.levels)) w.args.tokens.now Mod6Word (next_is w.next_role.ensures w.in-Some.is w.in-Mod6Word.is) in
    rw (p.1, p.2) (part_fails (one (is_a Mod6Word)) _ l0 w.in_err-token-in-Mod6Word.field-0.0 w.token-in-Mod6Word.new.tokens w.in_err-token-in-Mod6Word.ensures.reads)

pub read_term-returns-in_err-open-in-Mod6Word : goal.read_term-returns-in_err-open-in-Mod6Word
unfolding a_term
read_term-returns-in_err-open-in-Mod6Word t w =
    let p = err_from_is_err_and w.from_residual-in_err-open-in-Mod6Word.result w.from_residual-in_err-open-in-Mod6Word.ensures.1 in
    let l0 = chosen (term_by w.args.levels w.args.names (inside w.args.levels)) w.args.tokens.now Mod6Word (next_is w.next_role.ensures w.in-Some.is w.in-Mod6Word.is) in
    let l1 = past_part (one (is_a Mod6Word)) _ l0 (lexeme_of w.args.tokens.now.source w.in_ok-token-in-Mod6Word.field-0) w.token-in-Mod6Word.new.tokens w.in_ok-token-in-Mod6Word.ensures.reads in
    rw (p.1, p.2) (part_fails (opening_token w.args.levels (is_a OpenSign)) _ l1 w.in_err-open-in-Mod6Word.field-0.0 w.open.new.tokens w.in_err-open-in-Mod6Word.ensures.reads)

pub read_term-returns-in_err-sum-in-Mod6Word : goal.read_term-returns-in_err-sum-in-Mod6Word
unfolding a_term
read_term-returns-in_err-sum-in-Mod6Word t w =
    let p = err_from_is_err_and w.from_residual-in_err-sum-in-Mod6Word.result w.from_residual-in_err-sum-in-Mod6Word.ensures.1 in
    let l0 = chosen (term_by w.args.levels w.args.names (inside w.args.levels)) w.args.tokens.now Mod6Word (next_is w.next_role.ensures w.in-Some.is w.in-Mod6Word.is) in
    let l1 = past_part (one (is_a Mod6Word)) _ l0 (lexeme_of w.args.tokens.now.source w.in_ok-token-in-Mod6Word.field-0) w.token-in-Mod6Word.new.tokens w.in_ok-token-in-Mod6Word.ensures.reads in
    let l2 = past_part (opening_token w.args.levels (is_a OpenSign)) _ l1 (lexeme_of w.token-in-Mod6Word.new.tokens.source w.in_ok-open-in-Mod6Word.field-0) w.open.new.tokens w.in_ok-open-in-Mod6Word.ensures.reads in
    rw (p.1, p.2) (part_fails ((inside w.args.levels w.args.names).sum) _ l2 w.in_err-sum-in-Mod6Word.field-0.0 w.read_sum.new.tokens (gives_below (λ (r : Readers). r.sum) sum_of w.args.levels w.args.names w.open.new.tokens w.read_sum.new.tokens (Err w.in_err-sum-in-Mod6Word.field-0.0) w.in_ok-open-in-Mod6Word.ensures.deep w.in_err-sum-in-Mod6Word.ensures))

pub read_term-returns-in_err-token-in-Mod6Word-2 : goal.read_term-returns-in_err-token-in-Mod6Word-2
unfolding a_term
read_term-returns-in_err-token-in-Mod6Word-2 t w =
    let p = err_from_is_err_and w.from_residual-in_err-token-in-Mod6Word-2.result w.from_residual-in_err-token-in-Mod6Word-2.ensures.1 in
    let l0 = chosen (term_by w.args.levels w.args.names (inside w.args.levels)) w.args.tokens.now Mod6Word (next_is w.next_role.ensures w.in-Some.is w.in-Mod6Word.is) in
    let l1 = past_part (one (is_a Mod6Word)) _ l0 (lexeme_of w.args.tokens.now.source w.in_ok-token-in-Mod6Word.field-0) w.token-in-Mod6Word.new.tokens w.in_ok-token-in-Mod6Word.ensures.reads in
    let l2 = past_part (opening_token w.args.levels (is_a OpenSign)) _ l1 (lexeme_of w.token-in-Mod6Word.new.tokens.source w.in_ok-open-in-Mod6Word.field-0) w.open.new.tokens w.in_ok-open-in-Mod6Word.ensures.reads in
    let l3 = past_part ((inside w.args.levels w.args.names).sum) _ l2 (sum_of w.in_ok-sum-in-Mod6Word.sum) w.read_sum.new.tokens (gives_below (λ (r : Readers). r.sum) sum_of w.args.levels w.args.names w.open.new.tokens w.read_sum.new.tokens (Ok w.in_ok-sum-in-Mod6Word.sum) w.in_ok-open-in-Mod6Word.ensures.deep w.in_ok-sum-in-Mod6Word.ensures) in
    rw (p.1, p.2) (part_fails (one (is_a CloseSign)) _ l3 w.in_err-token-in-Mod6Word-2.field-0.0 w.token-in-Mod6Word-2.new.tokens w.in_err-token-in-Mod6Word-2.ensures.reads)

pub read_term-returns-in_ok-token-in-Mod6Word-2 : goal.read_term-returns-in_ok-token-in-Mod6Word-2
unfolding a_term
read_term-returns-in_ok-token-in-Mod6Word-2 t w =
    let l0 = chosen (term_by w.args.levels w.args.names (inside w.args.levels)) w.args.tokens.now Mod6Word (next_is w.next_role.ensures w.in-Some.is w.in-Mod6Word.is) in
    let l1 = past_part (one (is_a Mod6Word)) _ l0 (lexeme_of w.args.tokens.now.source w.in_ok-token-in-Mod6Word.field-0) w.token-in-Mod6Word.new.tokens w.in_ok-token-in-Mod6Word.ensures.reads in
    let l2 = past_part (opening_token w.args.levels (is_a OpenSign)) _ l1 (lexeme_of w.token-in-Mod6Word.new.tokens.source w.in_ok-open-in-Mod6Word.field-0) w.open.new.tokens w.in_ok-open-in-Mod6Word.ensures.reads in
    let l3 = past_part ((inside w.args.levels w.args.names).sum) _ l2 (sum_of w.in_ok-sum-in-Mod6Word.sum) w.read_sum.new.tokens (gives_below (λ (r : Readers). r.sum) sum_of w.args.levels w.args.names w.open.new.tokens w.read_sum.new.tokens (Ok w.in_ok-sum-in-Mod6Word.sum) w.in_ok-open-in-Mod6Word.ensures.deep w.in_ok-sum-in-Mod6Word.ensures) in
    let l4 = past_part (one (is_a CloseSign)) _ l3 (lexeme_of w.read_sum.new.tokens.source w.in_ok-token-in-Mod6Word-2.field-0) w.token-in-Mod6Word-2.new.tokens w.in_ok-token-in-Mod6Word-2.ensures.reads in
    all_read (a_term w.args.levels w.args.names (inside w.args.levels)) w.args.tokens.now w.token-in-Mod6Word-2.new.tokens _ _ l4 (sym (built.term_mod6 w.in_ok-sum-in-Mod6Word.sum))

pub read_term-returns-in_default : goal.read_term-returns-in_default
unfolding a_term
read_term-returns-in_default t w = none_chosen (term_by w.args.levels w.args.names (inside w.args.levels)) w.args.tokens.now w.unexpected.result (sym w.next_role.ensures ∙ w.in_default.is) w.unexpected.ensures

pub read_term-returns-in_default-role : goal.read_term-returns-in_default-role
unfolding a_term
read_term-returns-in_default-role t w =
    let d = w.in_default-role in
    none_begins (term_by w.args.levels w.args.names (inside w.args.levels)) w.args.tokens.now w.in-Some.role w.unexpected-in_default-role.result (sym w.next_role.ensures ∙ w.in-Some.is) (term_rest w.args.levels w.args.names (inside w.args.levels) w.in-Some.role d.not-ANumber d.not-AName d.not-EndWord d.not-TurnWord d.not-FirstWord d.not-CountWord d.not-SideWord d.not-InnerWord d.not-Mod6Word) w.unexpected-in_default-role.ensures

-- ---- read_unit

pub read_unit-returns-in_err-text-in-AtomWord : goal.read_unit-returns-in_err-text-in-AtomWord
unfolding a_unit
read_unit-returns-in_err-text-in-AtomWord t w =
    let p = err_from_is_err_and w.from_residual.result w.from_residual.ensures.1 in
    let l0 = chosen (unit_by w.args.levels w.args.names (inside w.args.levels)) w.args.tokens.now AtomWord (next_is w.next_role.ensures w.in-Some.is w.in-AtomWord.is) in
    rw (p.1, p.2) (part_fails (one (is_a AtomWord)) _ l0 w.in_err-text-in-AtomWord.field-0.0 w.text.new.tokens (untaken (one (is_a AtomWord)) (λ (t : Lexeme). t.text) w.args.tokens.now w.text.new.tokens w.in_err-text-in-AtomWord.field-0.0 w.in_err-text-in-AtomWord.ensures))

pub read_unit-returns-in_ok-text-in-AtomWord : goal.read_unit-returns-in_ok-text-in-AtomWord
unfolding a_unit
read_unit-returns-in_ok-text-in-AtomWord t w =
    let l0 = chosen (unit_by w.args.levels w.args.names (inside w.args.levels)) w.args.tokens.now AtomWord (next_is w.next_role.ensures w.in-Some.is w.in-AtomWord.is) in
    let x1 = taken (one (is_a AtomWord)) (λ (t : Lexeme). t.text) w.args.tokens.now w.text.new.tokens (w.in_ok-text-in-AtomWord.field-0.now) w.in_ok-text-in-AtomWord.ensures in
    let l1 = past_part (one (is_a AtomWord)) _ l0 x1.part w.text.new.tokens x1.reads in
    all_read (a_unit w.args.levels w.args.names (inside w.args.levels)) w.args.tokens.now w.text.new.tokens _ _ l1 (ap (λ (text : List ℕ). tree.atom (atom_by text)) x1.is ∙ sym w.atom.ensures)

pub read_unit-returns-in_err-open-in-NotWord : goal.read_unit-returns-in_err-open-in-NotWord
unfolding a_unit
read_unit-returns-in_err-open-in-NotWord t w =
    let p = err_from_is_err_and w.from_residual-in_err-open-in-NotWord.result w.from_residual-in_err-open-in-NotWord.ensures.1 in
    let l0 = chosen (unit_by w.args.levels w.args.names (inside w.args.levels)) w.args.tokens.now NotWord (next_is w.next_role.ensures w.in-Some.is w.in-NotWord.is) in
    rw (p.1, p.2) (part_fails (opening_token w.args.levels (is_a NotWord)) _ l0 w.in_err-open-in-NotWord.field-0.0 w.open.new.tokens w.in_err-open-in-NotWord.ensures.reads)

pub read_unit-returns-in_err-guard-in-NotWord : goal.read_unit-returns-in_err-guard-in-NotWord
unfolding a_unit
read_unit-returns-in_err-guard-in-NotWord t w =
    let p = err_from_is_err_and w.from_residual-in_err-guard-in-NotWord.result w.from_residual-in_err-guard-in-NotWord.ensures.1 in
    let l0 = chosen (unit_by w.args.levels w.args.names (inside w.args.levels)) w.args.tokens.now NotWord (next_is w.next_role.ensures w.in-Some.is w.in-NotWord.is) in
    let l1 = past_part (opening_token w.args.levels (is_a NotWord)) _ l0 (lexeme_of w.args.tokens.now.source w.in_ok-open-in-NotWord.field-0) w.open.new.tokens w.in_ok-open-in-NotWord.ensures.reads in
    rw (p.1, p.2) (part_fails ((inside w.args.levels w.args.names).unit) _ l1 w.in_err-guard-in-NotWord.field-0.0 w.read_unit.new.tokens (gives_below (λ (r : Readers). r.unit) guard_of w.args.levels w.args.names w.open.new.tokens w.read_unit.new.tokens (Err w.in_err-guard-in-NotWord.field-0.0) w.in_ok-open-in-NotWord.ensures.deep w.in_err-guard-in-NotWord.ensures))

pub read_unit-returns-in_ok-new-in-NotWord : goal.read_unit-returns-in_ok-new-in-NotWord
unfolding a_unit
read_unit-returns-in_ok-new-in-NotWord t w =
    let l0 = chosen (unit_by w.args.levels w.args.names (inside w.args.levels)) w.args.tokens.now NotWord (next_is w.next_role.ensures w.in-Some.is w.in-NotWord.is) in
    let l1 = past_part (opening_token w.args.levels (is_a NotWord)) _ l0 (lexeme_of w.args.tokens.now.source w.in_ok-open-in-NotWord.field-0) w.open.new.tokens w.in_ok-open-in-NotWord.ensures.reads in
    let l2 = past_part ((inside w.args.levels w.args.names).unit) _ l1 (guard_of w.in_ok-guard-in-NotWord.guard) w.read_unit.new.tokens (gives_below (λ (r : Readers). r.unit) guard_of w.args.levels w.args.names w.open.new.tokens w.read_unit.new.tokens (Ok w.in_ok-guard-in-NotWord.guard) w.in_ok-open-in-NotWord.ensures.deep w.in_ok-guard-in-NotWord.ensures) in
    all_read (a_unit w.args.levels w.args.names (inside w.args.levels)) w.args.tokens.now w.read_unit.new.tokens _ _ l2 (ap (λ (g : Guard). tree.negation (guard_of g)) (sym w.in_ok-new-in-NotWord.ensures.ok) ∙ sym (built.guard_not w.in_ok-new-in-NotWord.field-0))

pub read_unit-returns-in_err-open-in-OpenSign : goal.read_unit-returns-in_err-open-in-OpenSign
unfolding a_unit
read_unit-returns-in_err-open-in-OpenSign t w =
    let p = err_from_is_err_and w.from_residual-in_err-open-in-OpenSign.result w.from_residual-in_err-open-in-OpenSign.ensures.1 in
    let l0 = chosen (unit_by w.args.levels w.args.names (inside w.args.levels)) w.args.tokens.now OpenSign (next_is w.next_role.ensures w.in-Some.is w.in-OpenSign.is) in
    rw (p.1, p.2) (part_fails (opening_token w.args.levels (is_a OpenSign)) _ l0 w.in_err-open-in-OpenSign.field-0.0 w.open-in-OpenSign.new.tokens w.in_err-open-in-OpenSign.ensures.reads)

pub read_unit-returns-in_err-guard-in-OpenSign : goal.read_unit-returns-in_err-guard-in-OpenSign
unfolding a_unit
read_unit-returns-in_err-guard-in-OpenSign t w =
    let p = err_from_is_err_and w.from_residual-in_err-guard-in-OpenSign.result w.from_residual-in_err-guard-in-OpenSign.ensures.1 in
    let l0 = chosen (unit_by w.args.levels w.args.names (inside w.args.levels)) w.args.tokens.now OpenSign (next_is w.next_role.ensures w.in-Some.is w.in-OpenSign.is) in
    let l1 = past_part (opening_token w.args.levels (is_a OpenSign)) _ l0 (lexeme_of w.args.tokens.now.source w.in_ok-open-in-OpenSign.field-0) w.open-in-OpenSign.new.tokens w.in_ok-open-in-OpenSign.ensures.reads in
    rw (p.1, p.2) (part_fails ((inside w.args.levels w.args.names).expr) _ l1 w.in_err-guard-in-OpenSign.field-0.0 w.read_guard.new.tokens (gives_below (λ (r : Readers). r.expr) guard_of w.args.levels w.args.names w.open-in-OpenSign.new.tokens w.read_guard.new.tokens (Err w.in_err-guard-in-OpenSign.field-0.0) w.in_ok-open-in-OpenSign.ensures.deep w.in_err-guard-in-OpenSign.ensures))

pub read_unit-returns-in_err-token-in-OpenSign : goal.read_unit-returns-in_err-token-in-OpenSign
unfolding a_unit
read_unit-returns-in_err-token-in-OpenSign t w =
    let p = err_from_is_err_and w.from_residual-in_err-token-in-OpenSign.result w.from_residual-in_err-token-in-OpenSign.ensures.1 in
    let l0 = chosen (unit_by w.args.levels w.args.names (inside w.args.levels)) w.args.tokens.now OpenSign (next_is w.next_role.ensures w.in-Some.is w.in-OpenSign.is) in
    let l1 = past_part (opening_token w.args.levels (is_a OpenSign)) _ l0 (lexeme_of w.args.tokens.now.source w.in_ok-open-in-OpenSign.field-0) w.open-in-OpenSign.new.tokens w.in_ok-open-in-OpenSign.ensures.reads in
    let l2 = past_part ((inside w.args.levels w.args.names).expr) _ l1 (guard_of w.in_ok-guard-in-OpenSign.guard) w.read_guard.new.tokens (gives_below (λ (r : Readers). r.expr) guard_of w.args.levels w.args.names w.open-in-OpenSign.new.tokens w.read_guard.new.tokens (Ok w.in_ok-guard-in-OpenSign.guard) w.in_ok-open-in-OpenSign.ensures.deep w.in_ok-guard-in-OpenSign.ensures) in
    rw (p.1, p.2) (part_fails (one (is_a CloseSign)) _ l2 w.in_err-token-in-OpenSign.field-0.0 w.token.new.tokens w.in_err-token-in-OpenSign.ensures.reads)

pub read_unit-returns-in_ok-token-in-OpenSign : goal.read_unit-returns-in_ok-token-in-OpenSign
unfolding a_unit
read_unit-returns-in_ok-token-in-OpenSign t w =
    let l0 = chosen (unit_by w.args.levels w.args.names (inside w.args.levels)) w.args.tokens.now OpenSign (next_is w.next_role.ensures w.in-Some.is w.in-OpenSign.is) in
    let l1 = past_part (opening_token w.args.levels (is_a OpenSign)) _ l0 (lexeme_of w.args.tokens.now.source w.in_ok-open-in-OpenSign.field-0) w.open-in-OpenSign.new.tokens w.in_ok-open-in-OpenSign.ensures.reads in
    let l2 = past_part ((inside w.args.levels w.args.names).expr) _ l1 (guard_of w.in_ok-guard-in-OpenSign.guard) w.read_guard.new.tokens (gives_below (λ (r : Readers). r.expr) guard_of w.args.levels w.args.names w.open-in-OpenSign.new.tokens w.read_guard.new.tokens (Ok w.in_ok-guard-in-OpenSign.guard) w.in_ok-open-in-OpenSign.ensures.deep w.in_ok-guard-in-OpenSign.ensures) in
    let l3 = past_part (one (is_a CloseSign)) _ l2 (lexeme_of w.read_guard.new.tokens.source w.in_ok-token-in-OpenSign.field-0) w.token.new.tokens w.in_ok-token-in-OpenSign.ensures.reads in
    all_read (a_unit w.args.levels w.args.names (inside w.args.levels)) w.args.tokens.now w.token.new.tokens _ _ l3 refl

pub read_unit-returns-in_err-word-in-QuantifierWord : goal.read_unit-returns-in_err-word-in-QuantifierWord
unfolding a_unit
read_unit-returns-in_err-word-in-QuantifierWord t w =
    let p = err_from_is_err_and w.from_residual-in_err-word-in-QuantifierWord.result w.from_residual-in_err-word-in-QuantifierWord.ensures.1 in
    let l0 = chosen (unit_by w.args.levels w.args.names (inside w.args.levels)) w.args.tokens.now QuantifierWord (next_is w.next_role.ensures w.in-Some.is w.in-QuantifierWord.is) in
    rw (p.1, p.2) (part_fails (one (is_a QuantifierWord)) _ l0 w.in_err-word-in-QuantifierWord.field-0.0 w.text-in-QuantifierWord.new.tokens (untaken (one (is_a QuantifierWord)) (λ (t : Lexeme). t.text) w.args.tokens.now w.text-in-QuantifierWord.new.tokens w.in_err-word-in-QuantifierWord.field-0.0 w.in_err-word-in-QuantifierWord.ensures))

pub read_unit-returns-in_err-selection-in-QuantifierWord : goal.read_unit-returns-in_err-selection-in-QuantifierWord
unfolding a_unit
read_unit-returns-in_err-selection-in-QuantifierWord t w =
    let p = err_from_is_err_and w.from_residual-in_err-selection-in-QuantifierWord.result w.from_residual-in_err-selection-in-QuantifierWord.ensures.1 in
    let l0 = chosen (unit_by w.args.levels w.args.names (inside w.args.levels)) w.args.tokens.now QuantifierWord (next_is w.next_role.ensures w.in-Some.is w.in-QuantifierWord.is) in
    let x1 = taken (one (is_a QuantifierWord)) (λ (t : Lexeme). t.text) w.args.tokens.now w.text-in-QuantifierWord.new.tokens (w.in_ok-word-in-QuantifierWord.word.now) w.in_ok-word-in-QuantifierWord.ensures in
    let l1 = past_part (one (is_a QuantifierWord)) _ l0 x1.part w.text-in-QuantifierWord.new.tokens x1.reads in
    rw (p.1, p.2) (part_fails (a_selection w.args.levels w.args.names (inside w.args.levels)) _ l1 w.in_err-selection-in-QuantifierWord.field-0.0 w.read_selection.new.tokens w.in_err-selection-in-QuantifierWord.ensures)

pub read_unit-returns-in_ok-selection-in-QuantifierWord : goal.read_unit-returns-in_ok-selection-in-QuantifierWord
unfolding a_unit
read_unit-returns-in_ok-selection-in-QuantifierWord t w =
    let l0 = chosen (unit_by w.args.levels w.args.names (inside w.args.levels)) w.args.tokens.now QuantifierWord (next_is w.next_role.ensures w.in-Some.is w.in-QuantifierWord.is) in
    let x1 = taken (one (is_a QuantifierWord)) (λ (t : Lexeme). t.text) w.args.tokens.now w.text-in-QuantifierWord.new.tokens (w.in_ok-word-in-QuantifierWord.word.now) w.in_ok-word-in-QuantifierWord.ensures in
    let l1 = past_part (one (is_a QuantifierWord)) _ l0 x1.part w.text-in-QuantifierWord.new.tokens x1.reads in
    let l2 = past_part (a_selection w.args.levels w.args.names (inside w.args.levels)) _ l1 (selection_of w.in_ok-selection-in-QuantifierWord.selection) w.read_selection.new.tokens w.in_ok-selection-in-QuantifierWord.ensures in
    let c = selection_of w.in_ok-selection-in-QuantifierWord.selection in all_read (a_unit w.args.levels w.args.names (inside w.args.levels)) w.args.tokens.now w.read_selection.new.tokens _ _ l2 (ap (λ (text : List ℕ). tree.quantified (quantifier_by text) c.name c.set c.guard) x1.is ∙ sym w.quantified.ensures)

pub read_unit-returns-in_err-word-in-TestWord : goal.read_unit-returns-in_err-word-in-TestWord
unfolding a_unit
read_unit-returns-in_err-word-in-TestWord t w =
    let p = err_from_is_err_and w.from_residual-in_err-word-in-TestWord.result w.from_residual-in_err-word-in-TestWord.ensures.1 in
    let l0 = chosen_as (unit_by w.args.levels w.args.names (inside w.args.levels)) w.args.tokens.now w.in-Some.role (a_test w.args.levels w.args.names (inside w.args.levels)) (sym w.next_role.ensures ∙ w.in-Some.is) (test_unit w.args.levels w.args.names (inside w.args.levels) w.in-Some.role w.in-TestWord.is) in
    rw (p.1, p.2) (part_fails (one is_test) _ l0 w.in_err-word-in-TestWord.field-0.0 w.test.new.tokens (untaken (one is_test) (λ (t : Lexeme). t.text) w.args.tokens.now w.test.new.tokens w.in_err-word-in-TestWord.field-0.0 w.in_err-word-in-TestWord.ensures))

pub read_unit-returns-in_err-port-in-TestWord : goal.read_unit-returns-in_err-port-in-TestWord
unfolding a_unit
read_unit-returns-in_err-port-in-TestWord t w =
    let p = err_from_is_err_and w.from_residual-in_err-port-in-TestWord.result w.from_residual-in_err-port-in-TestWord.ensures.1 in
    let l0 = chosen_as (unit_by w.args.levels w.args.names (inside w.args.levels)) w.args.tokens.now w.in-Some.role (a_test w.args.levels w.args.names (inside w.args.levels)) (sym w.next_role.ensures ∙ w.in-Some.is) (test_unit w.args.levels w.args.names (inside w.args.levels) w.in-Some.role w.in-TestWord.is) in
    let x1 = taken (one is_test) (λ (t : Lexeme). t.text) w.args.tokens.now w.test.new.tokens (w.in_ok-word-in-TestWord.word.now) w.in_ok-word-in-TestWord.ensures in
    let l1 = past_part (one is_test) _ l0 x1.part w.test.new.tokens x1.reads in
    rw (p.1, p.2) (part_fails (a_port w.args.levels w.args.names (inside w.args.levels)) _ l1 w.in_err-port-in-TestWord.field-0.0 w.read_port.new.tokens w.in_err-port-in-TestWord.ensures)

pub read_unit-returns-in_ok-port-in-TestWord : goal.read_unit-returns-in_ok-port-in-TestWord
unfolding a_unit
read_unit-returns-in_ok-port-in-TestWord t w =
    let l0 = chosen_as (unit_by w.args.levels w.args.names (inside w.args.levels)) w.args.tokens.now w.in-Some.role (a_test w.args.levels w.args.names (inside w.args.levels)) (sym w.next_role.ensures ∙ w.in-Some.is) (test_unit w.args.levels w.args.names (inside w.args.levels) w.in-Some.role w.in-TestWord.is) in
    let x1 = taken (one is_test) (λ (t : Lexeme). t.text) w.args.tokens.now w.test.new.tokens (w.in_ok-word-in-TestWord.word.now) w.in_ok-word-in-TestWord.ensures in
    let l1 = past_part (one is_test) _ l0 x1.part w.test.new.tokens x1.reads in
    let l2 = past_part (a_port w.args.levels w.args.names (inside w.args.levels)) _ l1 (port_of w.in_ok-port-in-TestWord.port) w.read_port.new.tokens w.in_ok-port-in-TestWord.ensures in
    all_read (a_unit w.args.levels w.args.names (inside w.args.levels)) w.args.tokens.now w.read_port.new.tokens _ _ l2 (ap (λ (text : List ℕ). tree.tested (test_by text) (port_of w.in_ok-port-in-TestWord.port)) x1.is ∙ sym w.tested.ensures)

pub read_unit-returns-in_err-left-in_default-role : goal.read_unit-returns-in_err-left-in_default-role
unfolding a_unit
read_unit-returns-in_err-left-in_default-role t w =
    let p = err_from_is_err_and w.from_residual-in_err-left-in_default-role.result w.from_residual-in_err-left-in_default-role.ensures.1 in
    let l0 = chosen_as (unit_by w.args.levels w.args.names (inside w.args.levels)) w.args.tokens.now w.in-Some.role (a_comparison w.args.levels w.args.names (inside w.args.levels)) (sym w.next_role.ensures ∙ w.in-Some.is) (let d = w.in_default-role in unit_rest w.args.levels w.args.names (inside w.args.levels) w.in-Some.role true (sym w.begins_sum.ensures ∙ w.if-not-begins_sum.false) d.not-AtomWord d.not-NotWord d.not-OpenSign d.not-QuantifierWord d.not-TestWord d.not-FreeWord) in
    rw (p.1, p.2) (part_fails (a_sum w.args.levels w.args.names (inside w.args.levels)) _ l0 w.in_err-left-in_default-role.field-0.0 w.read_sum.new.tokens w.in_err-left-in_default-role.ensures)

pub read_unit-returns-in_err-cmp-in_default-role : goal.read_unit-returns-in_err-cmp-in_default-role
unfolding a_unit
read_unit-returns-in_err-cmp-in_default-role t w =
    let p = err_from_is_err_and w.from_residual-in_err-cmp-in_default-role.result w.from_residual-in_err-cmp-in_default-role.ensures.1 in
    let l0 = chosen_as (unit_by w.args.levels w.args.names (inside w.args.levels)) w.args.tokens.now w.in-Some.role (a_comparison w.args.levels w.args.names (inside w.args.levels)) (sym w.next_role.ensures ∙ w.in-Some.is) (let d = w.in_default-role in unit_rest w.args.levels w.args.names (inside w.args.levels) w.in-Some.role true (sym w.begins_sum.ensures ∙ w.if-not-begins_sum.false) d.not-AtomWord d.not-NotWord d.not-OpenSign d.not-QuantifierWord d.not-TestWord d.not-FreeWord) in
    let l1 = past_part (a_sum w.args.levels w.args.names (inside w.args.levels)) _ l0 (sum_of w.in_ok-left-in_default-role.left) w.read_sum.new.tokens w.in_ok-left-in_default-role.ensures in
    rw (p.1, p.2) (part_fails (one (is_a CompareSign)) _ l1 w.in_err-cmp-in_default-role.field-0.0 w.comparison.new.tokens (untaken (one (is_a CompareSign)) as_cmp w.read_sum.new.tokens w.comparison.new.tokens w.in_err-cmp-in_default-role.field-0.0 w.in_err-cmp-in_default-role.ensures))

pub read_unit-returns-in_err-right-in_default-role : goal.read_unit-returns-in_err-right-in_default-role
unfolding a_unit
read_unit-returns-in_err-right-in_default-role t w =
    let p = err_from_is_err_and w.from_residual-in_err-right-in_default-role.result w.from_residual-in_err-right-in_default-role.ensures.1 in
    let l0 = chosen_as (unit_by w.args.levels w.args.names (inside w.args.levels)) w.args.tokens.now w.in-Some.role (a_comparison w.args.levels w.args.names (inside w.args.levels)) (sym w.next_role.ensures ∙ w.in-Some.is) (let d = w.in_default-role in unit_rest w.args.levels w.args.names (inside w.args.levels) w.in-Some.role true (sym w.begins_sum.ensures ∙ w.if-not-begins_sum.false) d.not-AtomWord d.not-NotWord d.not-OpenSign d.not-QuantifierWord d.not-TestWord d.not-FreeWord) in
    let l1 = past_part (a_sum w.args.levels w.args.names (inside w.args.levels)) _ l0 (sum_of w.in_ok-left-in_default-role.left) w.read_sum.new.tokens w.in_ok-left-in_default-role.ensures in
    let x2 = taken (one (is_a CompareSign)) as_cmp w.read_sum.new.tokens w.comparison.new.tokens (w.in_ok-cmp-in_default-role.cmp) w.in_ok-cmp-in_default-role.ensures in
    let l2 = past_part (one (is_a CompareSign)) _ l1 x2.part w.comparison.new.tokens x2.reads in
    rw (p.1, p.2) (part_fails (a_sum w.args.levels w.args.names (inside w.args.levels)) _ l2 w.in_err-right-in_default-role.field-0.0 w.read_sum-in_default-role.new.tokens w.in_err-right-in_default-role.ensures)

pub read_unit-returns-in_ok-right-in_default-role : goal.read_unit-returns-in_ok-right-in_default-role
unfolding a_unit
read_unit-returns-in_ok-right-in_default-role t w =
    let l0 = chosen_as (unit_by w.args.levels w.args.names (inside w.args.levels)) w.args.tokens.now w.in-Some.role (a_comparison w.args.levels w.args.names (inside w.args.levels)) (sym w.next_role.ensures ∙ w.in-Some.is) (let d = w.in_default-role in unit_rest w.args.levels w.args.names (inside w.args.levels) w.in-Some.role true (sym w.begins_sum.ensures ∙ w.if-not-begins_sum.false) d.not-AtomWord d.not-NotWord d.not-OpenSign d.not-QuantifierWord d.not-TestWord d.not-FreeWord) in
    let l1 = past_part (a_sum w.args.levels w.args.names (inside w.args.levels)) _ l0 (sum_of w.in_ok-left-in_default-role.left) w.read_sum.new.tokens w.in_ok-left-in_default-role.ensures in
    let x2 = taken (one (is_a CompareSign)) as_cmp w.read_sum.new.tokens w.comparison.new.tokens (w.in_ok-cmp-in_default-role.cmp) w.in_ok-cmp-in_default-role.ensures in
    let l2 = past_part (one (is_a CompareSign)) _ l1 x2.part w.comparison.new.tokens x2.reads in
    let l3 = past_part (a_sum w.args.levels w.args.names (inside w.args.levels)) _ l2 (sum_of w.in_ok-right-in_default-role.right) w.read_sum-in_default-role.new.tokens w.in_ok-right-in_default-role.ensures in
    let l = w.in_ok-left-in_default-role.left in let r = w.in_ok-right-in_default-role.right in all_read (a_unit w.args.levels w.args.names (inside w.args.levels)) w.args.tokens.now w.read_sum-in_default-role.new.tokens _ _ l3 (ap (λ (c : Cmp). tree.comparison (sum_of l) c (sum_of r)) x2.is ∙ sym (built.guard_compare l w.in_ok-cmp-in_default-role.cmp r))

pub read_unit-returns-then-not-begins_sum : goal.read_unit-returns-then-not-begins_sum
unfolding a_unit
read_unit-returns-then-not-begins_sum t w =
    none_begins (unit_by w.args.levels w.args.names (inside w.args.levels)) w.args.tokens.now w.in-Some.role w.unexpected-then-not-begins_sum.result (sym w.next_role.ensures ∙ w.in-Some.is) (let d = w.in_default-role in unit_rest w.args.levels w.args.names (inside w.args.levels) w.in-Some.role false (sym w.begins_sum.ensures ∙ w.if-not-begins_sum.true) d.not-AtomWord d.not-NotWord d.not-OpenSign d.not-QuantifierWord d.not-TestWord d.not-FreeWord) w.unexpected-then-not-begins_sum.ensures

pub read_unit-returns-in_default : goal.read_unit-returns-in_default
unfolding a_unit
read_unit-returns-in_default t w = none_chosen (unit_by w.args.levels w.args.names (inside w.args.levels)) w.args.tokens.now w.unexpected.result (sym w.next_role.ensures ∙ w.in_default.is) w.unexpected.ensures

-- ---- read_sum

pub read_sum-returns-in_err-minus : goal.read_sum-returns-in_err-minus
unfolding a_sum
read_sum-returns-in_err-minus t w =
    let p = err_from_is_err_and w.from_residual.result w.from_residual.ensures.1 in
    let l0 = all_left (a_sum w.args.levels w.args.names (inside w.args.levels)) w.args.tokens.now in
    rw (p.1, p.2) (part_fails (a_minus) _ l0 w.in_err-minus.field-0.0 w.minus.new.tokens w.in_err-minus.ensures)

pub read_sum-returns-in_err-term : goal.read_sum-returns-in_err-term
unfolding a_sum
read_sum-returns-in_err-term t w =
    let p = err_from_is_err_and w.from_residual-in_err-term.result w.from_residual-in_err-term.ensures.1 in
    let l0 = all_left (a_sum w.args.levels w.args.names (inside w.args.levels)) w.args.tokens.now in
    let l1 = past_part (a_minus) _ l0 (w.in_ok-minus.minus) w.minus.new.tokens w.in_ok-minus.ensures in
    rw (p.1, p.2) (part_fails (a_term w.args.levels w.args.names (inside w.args.levels)) _ l1 w.in_err-term.field-0.0 w.read_term.new.tokens w.in_err-term.ensures)

pub read_sum-returns-in_err-part : goal.read_sum-returns-in_err-part
read_sum-returns-in_err-part t w =
    let p = err_from_is_err_and w.from_residual-in_err-part.result w.from_residual-in_err-part.ensures.1 in
    let e = w.in_err-part.field-0.0 in
    rw (p.1, p.2) (sum_fails w.args.levels w.args.names e (next_fails (part_elements w.args.levels w.args.names) (λ room p. less room) w.loop-parts.room w.loop-parts.invariant e w.in_err-part.ensures.reads))

pub read_sum-loop-parts-preserved : goal.read_sum-loop-parts-preserved
read_sum-loop-parts-preserved t w =
    let next = rw w.in-Some.is at w.in_ok-part.ensures.reads in
    counted_found (part_elements w.args.levels w.args.names) w.loop-parts.room w.loop-parts.invariant next (map part_of w.push-in-Some.new.self.items) (view_pushed part_of w.loop-parts.parts.items w.in-Some.part w.in_ok-push-2.ensures.items)

pub read_sum-returns : goal.read_sum-returns
read_sum-returns t w =
    let next = rw w.in_default.is at w.in_ok-part.ensures.reads in
    sum_read w.args.levels w.args.names (all_found (part_elements w.args.levels w.args.names) (λ room p. less room) w.loop-parts.room w.loop-parts.invariant next) (sym (built.sum_built (record { parts = w.loop-parts.parts })))

-- ---- more_part

pub more_part-returns-then-not-is_joint-clause-reads : goal.more_part-returns-then-not-is_joint-clause-reads
more_part-returns-then-not-is_joint-clause-reads t w = none_comes is_plus_or_minus begins_term w.args.levels w.args.room (λ sign. a_term w.args.levels w.args.names (inside w.args.levels) >>= λ t. pure (part (is_a MinusSign sign) t)) w.args.tokens.now (sym w.is_joint.ensures ∙ w.if-not-is_joint.true)

pub more_part-returns-in_err-minus-clause-reads : goal.more_part-returns-in_err-minus-clause-reads
more_part-returns-in_err-minus-clause-reads t w =
    let p = err_from_is_err_and w.from_residual.result w.from_residual.ensures.1 in
    let e = w.in_err-minus.field-0.0 in
    rw (p.1, p.2) (sign_fails is_plus_or_minus begins_term w.args.levels w.args.room (λ sign. a_term w.args.levels w.args.names (inside w.args.levels) >>= λ t. pure (part (is_a MinusSign sign) t)) w.args.tokens.now (sym w.is_joint.ensures ∙ w.if-not-is_joint.false) e (untaken (one is_plus_or_minus) (is_a MinusSign) w.args.tokens.now w.joint.new.tokens e w.in_err-minus.ensures))

pub more_part-returns-then-room-eq0-clause-reads : goal.more_part-returns-then-room-eq0-clause-reads
more_part-returns-then-room-eq0-clause-reads t w =
    let x = taken (one is_plus_or_minus) (is_a MinusSign) w.args.tokens.now w.joint.new.tokens w.in_ok-minus.minus w.in_ok-minus.ensures in
    rw w.into.ensures (one_too_many is_plus_or_minus begins_term w.args.levels w.args.room (λ sign. a_term w.args.levels w.args.names (inside w.args.levels) >>= λ t. pure (part (is_a MinusSign sign) t)) w.args.tokens.now (sym w.is_joint.ensures ∙ w.if-not-is_joint.false) x.reads w.full_sum.result w.if-room-eq0.true w.full_sum.ensures)

pub more_part-returns-in_err-term-clause-reads : goal.more_part-returns-in_err-term-clause-reads
more_part-returns-in_err-term-clause-reads t w =
    let p = err_from_is_err_and w.from_residual-in_err-term.result w.from_residual-in_err-term.ensures.1 in
    let x = taken (one is_plus_or_minus) (is_a MinusSign) w.args.tokens.now w.joint.new.tokens w.in_ok-minus.minus w.in_ok-minus.ensures in
    let e = w.in_err-term.field-0.0 in
    rw (p.1, p.2) (element_fails is_plus_or_minus begins_term w.args.levels w.args.room (λ sign. a_term w.args.levels w.args.names (inside w.args.levels) >>= λ t. pure (part (is_a MinusSign sign) t)) w.args.tokens.now (sym w.is_joint.ensures ∙ w.if-not-is_joint.false) x.reads w.if-room-eq0.false e (fails (a_term w.args.levels w.args.names (inside w.args.levels)) (λ t. pure (part (is_a MinusSign x.part) t)) e w.joint.new.tokens w.read_term.new.tokens w.in_err-term.ensures))

pub more_part-returns-clause-reads : goal.more_part-returns-clause-reads
more_part-returns-clause-reads t w =
    let new = w.read_term.new.tokens in
    let term = term_of w.in_ok-term.term in
    let x = taken (one is_plus_or_minus) (is_a MinusSign) w.args.tokens.now w.joint.new.tokens w.in_ok-minus.minus w.in_ok-minus.ensures in
    let r = one_read is_plus_or_minus begins_term w.args.levels w.args.room (λ sign. a_term w.args.levels w.args.names (inside w.args.levels) >>= λ t. pure (part (is_a MinusSign sign) t)) w.args.tokens.now (sym w.is_joint.ensures ∙ w.if-not-is_joint.false) x.reads w.if-room-eq0.false (on_made (a_term w.args.levels w.args.names (inside w.args.levels)) (part (is_a MinusSign x.part)) w.joint.new.tokens new term w.in_ok-term.ensures) in
    (r.0 ∙ ap (λ (m : Bool). Ok (Some (part m term), new.ahead)) x.is ∙ ap (λ (p : tree.Part). Ok (Some p, new.ahead)) (sym (built.part_built (record { minus = w.in_ok-minus.minus; term = w.in_ok-term.term }))), r.1)
