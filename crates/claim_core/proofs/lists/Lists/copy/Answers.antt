use Rattle.std.proofs.Common.{◌≡◌, ◌<◌, ◌++◌, ◌∷◌, [], ℕ, List, length, get_or, take, ap, sym, subst, refl, ◌∙◌, arith, Vec, Global}
use Rattle.std.proofs.lemmas.List.{length-map, take_more}
use Rattle.claim_core.specs.Turns.{IsList}
use Rattle.claim_core.proofs.Inner.{lists, lists-at}
use Rattle.claim_core.proofs.lists.Lists.copy.Goals as goal

-- the list at a place
at : (vs all : List (Vec ℕ Global)) (i : ℕ) (v : Vec ℕ Global) → all ≡ vs → i < length all → v ≡ get_or all i v → (i < length (lists vs)) × (get_or (lists vs) i [] ≡ v.items)
at vs all i v same lt read =
    let inside : i < length (lists vs) = omega (arith, ap (λ xs. length xs) same, length-map vs (λ w. w.items)) in
    (inside, lists-at vs i i v inside refl (read ∙ ap (λ xs. get_or xs i v) same))

pub add-requires-clause-list : goal.add-requires-clause-list
add-requires-clause-list c =
    let here = at c.self.inside.ids.items c.deref-ids-items.result.now c.loop-ids.ids-index c.ids-item.result c.deref-ids-items.ensures.value c.loop-ids-test.true c.ids-item.is in
    subst IsList (here.1 ∙ sym c.as_slice.ensures.value) (c.self.invariant.each c.loop-ids.ids-index [] here.0)

pub loop-ids-preserved : goal.loop-ids-preserved
loop-ids-preserved c =
    let here = at c.self.inside.ids.items c.deref-ids-items.result.now c.loop-ids.ids-index c.ids-item.result c.deref-ids-items.ensures.value c.loop-ids-test.true c.ids-item.is in
    let seen = ap (λ l. l.ids) c.self.view_is in
    let inside : c.loop-ids.ids-index < length c.args.self.now.ids = subst (λ xs. c.loop-ids.ids-index < length xs) seen here.0 in
    let read : get_or c.args.self.now.ids c.loop-ids.ids-index [] ≡ c.as_slice.result.now = ap (λ xs. get_or xs c.loop-ids.ids-index []) (sym seen) ∙ here.1 ∙ sym c.as_slice.ensures.value in
    c.in_ok-add.ensures.ok ∙ ap (λ l. record { turns = l.turns; ids = l.ids ++ c.as_slice.result.now ∷ [] }) c.loop-ids.invariant
    ∙ ap (λ ids. record { turns = c.args.self.now.turns; ids = ids }) (ap (λ x. take c.loop-ids.ids-index c.args.self.now.ids ++ x ∷ []) (sym read) ∙ sym (take_more c.args.self.now.ids c.loop-ids.ids-index [] inside))
