use Rattle.std.proofs.Common.{codes, ◌++◌, ◌∷◌, take, ap, ◌∙◌, refl}
use Rattle.std.proofs.lemmas.Result.{on_ok_weaker}
use Rattle.std.proofs.lemmas.Option.{slice_get_read}
use Rattle.action_tree.specs.Trees.{Part}
use Rattle.action_tree.specs.Views.{guard_of, guards_of, port_of, name_of, sum_of, term_of, terms_of}
use Rattle.action_tree.specs.Writable.{is_conj, is_unit}
use Rattle.action_print.specs.Canon.{selection_words, cmp_sign, conjs, guard_words, joined, parens_unless, port_words, sum_words, term_words, units}
use Rattle.action_print.specs.Rows.{between, sign_words}
use Rattle.text_tokens.proofs.LineLemmas.{tokens_more}
use Rattle.action_print.proofs.RowLemmas.{token_then, guard_printed, row_more, units_next, conjs_next, sum_next}
use Rattle.action_tree.proofs.Viewed.{guard_contracted, guard_not, guard_any, guard_all, guard_linked, guard_free, guard_at_head, guard_peer_expanded, guard_peer_head, guard_compare, part_opened}
use Rattle.action_print.proofs.expression.+expression.Goals as goal

pub put_guard-returns-in-Contracted : goal.put_guard-returns-in-Contracted
put_guard-returns-in-Contracted t c = on_ok_weaker c.word-in-Contracted.result (λ end. guard_printed _ _ _ _ (ap guard_of c.in-Contracted.is ∙ guard_contracted) end) c.word-in-Contracted.ensures

pub put_guard-returns-in_ok-word-in-Not : goal.put_guard-returns-in_ok-word-in-Not
put_guard-returns-in_ok-word-in-Not t c =
    let inner = guard_of c.in-Not.negated.value in
    on_ok_weaker c.put_element.result (λ end. guard_printed _ _ _ _ (ap guard_of c.in-Not.is ∙ guard_not c.in-Not.negated)
    (token_then _ _ _ (codes "not") (parens_unless (is_unit inner) (guard_words inner)) c.in_ok-word-in-Not.ensures (rw (c.is_unit.ensures, c.deref-in-Not.ensures, c.deref.ensures) at end))) c.put_element.ensures

pub put_guard-returns-in_ok-word-in-Any : goal.put_guard-returns-in_ok-word-in-Any
put_guard-returns-in_ok-word-in-Any t c =
    on_ok_weaker c.put_selection.result (λ end. guard_printed _ _ _ _ (ap guard_of c.in-Any.is ∙ guard_any c.in-Any.name c.in-Any.set c.in-Any.asked)
    (token_then _ _ _ (codes "any") (selection_words (name_of c.in-Any.name).text c.in-Any.set (guard_words (guard_of c.in-Any.asked.value))) c.in_ok-word-in-Any.ensures (rw c.deref-in-Any.ensures at end))) c.put_selection.ensures

pub put_guard-returns-in_ok-word-in-All : goal.put_guard-returns-in_ok-word-in-All
put_guard-returns-in_ok-word-in-All t c =
    on_ok_weaker c.put_selection-in-All.result (λ end. guard_printed _ _ _ _ (ap guard_of c.in-All.is ∙ guard_all c.in-All.name c.in-All.set c.in-All.asked)
    (token_then _ _ _ (codes "all") (selection_words (name_of c.in-All.name).text c.in-All.set (guard_words (guard_of c.in-All.asked.value))) c.in_ok-word-in-All.ensures (rw c.deref-in-All.ensures at end))) c.put_selection-in-All.ensures

pub put_guard-returns-in_ok-word-in-Linked : goal.put_guard-returns-in_ok-word-in-Linked
put_guard-returns-in_ok-word-in-Linked t c =
    on_ok_weaker c.put_port.result (λ end. guard_printed _ _ _ _ (ap guard_of c.in-Linked.is ∙ guard_linked c.in-Linked.port) (token_then _ _ _ (codes "linked") (port_words (port_of c.in-Linked.port)) c.in_ok-word-in-Linked.ensures end)) c.put_port.ensures

pub put_guard-returns-in_ok-word-in-Free : goal.put_guard-returns-in_ok-word-in-Free
put_guard-returns-in_ok-word-in-Free t c =
    on_ok_weaker c.put_port-in-Free.result (λ end. guard_printed _ _ _ _ (ap guard_of c.in-Free.is ∙ guard_free c.in-Free.port) (token_then _ _ _ (codes "free") (port_words (port_of c.in-Free.port)) c.in_ok-word-in-Free.ensures end)) c.put_port-in-Free.ensures

pub put_guard-returns-in_ok-word-in-AtHead : goal.put_guard-returns-in_ok-word-in-AtHead
put_guard-returns-in_ok-word-in-AtHead t c =
    on_ok_weaker c.put_port-in-AtHead.result (λ end. guard_printed _ _ _ _ (ap guard_of c.in-AtHead.is ∙ guard_at_head c.in-AtHead.port) (token_then _ _ _ (codes "at_head") (port_words (port_of c.in-AtHead.port)) c.in_ok-word-in-AtHead.ensures end)) c.put_port-in-AtHead.ensures

pub put_guard-returns-in_ok-word-in-PeerExpanded : goal.put_guard-returns-in_ok-word-in-PeerExpanded
put_guard-returns-in_ok-word-in-PeerExpanded t c =
    on_ok_weaker c.put_port-in-PeerExpanded.result (λ end. guard_printed _ _ _ _ (ap guard_of c.in-PeerExpanded.is ∙ guard_peer_expanded c.in-PeerExpanded.port) (token_then _ _ _ (codes "peer_expanded") (port_words (port_of c.in-PeerExpanded.port)) c.in_ok-word-in-PeerExpanded.ensures end)) c.put_port-in-PeerExpanded.ensures

pub put_guard-returns-in_ok-word-in-PeerHead : goal.put_guard-returns-in_ok-word-in-PeerHead
put_guard-returns-in_ok-word-in-PeerHead t c =
    on_ok_weaker c.put_port-in-PeerHead.result (λ end. guard_printed _ _ _ _ (ap guard_of c.in-PeerHead.is ∙ guard_peer_head c.in-PeerHead.port) (token_then _ _ _ (codes "peer_head") (port_words (port_of c.in-PeerHead.port)) c.in_ok-word-in-PeerHead.ensures end)) c.put_port-in-PeerHead.ensures

pub put_guard-returns-in_ok-word-in-Compare : goal.put_guard-returns-in_ok-word-in-Compare
put_guard-returns-in_ok-word-in-Compare t c =
    let left = sum_words (sum_of c.in-Compare.left) in
    let right = sum_words (sum_of c.in-Compare.right) in
    on_ok_weaker c.put_sum-in-Compare.result (λ end. guard_printed _ _ _ _ (ap guard_of c.in-Compare.is ∙ guard_compare c.in-Compare.left c.in-Compare.cmp c.in-Compare.right)
    (tokens_more _ _ _ left (cmp_sign c.in-Compare.cmp ∷ right) c.in_ok-put_sum-in-Compare.ensures (token_then _ _ _ (cmp_sign c.in-Compare.cmp) right (rw c.cmp_sign.ensures at c.in_ok-word-in-Compare.ensures) end))) c.put_sum-in-Compare.ensures

pub put_conjs-loop-place-preserved : goal.put_conjs-loop-place-preserved
put_conjs-loop-place-preserved t c =
    let g = c.index-elements-place.result in
    let i = c.loop-place.place in
    row_more _ _ _ _ (joined (codes "or") (conjs (guards_of (take i c.args.elements.now)))) (between i (codes "or")) (parens_unless (is_conj (guard_of g)) (guard_words (guard_of g))) _ c.loop-place.invariant c.in_ok-put_between.ensures
    (rw c.is_conj.ensures at c.in_ok-put_element.ensures) (conjs_next (codes "or") c.args.elements.now i g (slice_get_read _ _ _ _ refl c.loop-place-test.true c.index-elements-place.is))

pub put_units-loop-place-preserved : goal.put_units-loop-place-preserved
put_units-loop-place-preserved t c =
    let g = c.index-elements-place.result in
    let i = c.loop-place.place in
    row_more _ _ _ _ (joined (codes "and") (units (guards_of (take i c.args.elements.now)))) (between i (codes "and")) (parens_unless (is_unit (guard_of g)) (guard_words (guard_of g))) _ c.loop-place.invariant c.in_ok-put_between.ensures
    (rw c.is_unit.ensures at c.in_ok-put_element.ensures) (units_next (codes "and") c.args.elements.now i g (slice_get_read _ _ _ _ refl c.loop-place-test.true c.index-elements-place.is))

pub put_parts-loop-place-preserved : goal.put_parts-loop-place-preserved
put_parts-loop-place-preserved t c =
    let p = c.index-parts-place.result in
    let i = c.loop-place.place in
    row_more _ _ _ _ (sum_words (terms_of (take i c.args.parts.now))) (sign_words i p.minus) (term_words (term_of p.term)) _ c.loop-place.invariant c.in_ok-put_sign.ensures
    c.in_ok-put_term.ensures (sum_next c.args.parts.now i p (slice_get_read _ _ _ _ refl c.loop-place-test.true c.index-parts-place.is) ∙ ap (λ (q : Part). sum_words (terms_of (take i c.args.parts.now)) ++ (sign_words i q.minus ++ term_words q.term)) (part_opened p))
