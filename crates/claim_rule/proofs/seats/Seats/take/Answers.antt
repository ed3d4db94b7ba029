use Rattle.std.proofs.Common.{◌≡◌, ◌≢◌, ℕ, ◌<◌, length, Some, None, set, sym, subst}
use Rattle.std.specs.Prelude.{slice_get}
use Rattle.claim_rule.specs.Seating.{AreSeats}
use Rattle.claim_rule.proofs.SeatsLemmas.{given, takes, takes_own}
use Rattle.claim_rule.proofs.seats.Seats.take.Goals as goal

-- src/seats.rt
pub invariant_of-self : goal.invariant_of-self
invariant_of-self g c = subst (λ o. AreSeats c.self.inside.rest.me c.self.inside.rest.table_id (set c.self.inside.seats.items c.in_ok-place.place o)) (sym c.take.ensures.after) (given c.self.inside.rest.me c.self.inside.rest.table_id c.self.inside.seats.items c.self.invariant c.in_ok-place.place)

pub returns-clause-first : goal.returns-clause-first
returns-clause-first g c =
    let first = (c.in_ok-place.ensures {u = tt}).first in
    let same = c.as_slice.ensures.value in
    takes c.self.inside.rest.me c.self.inside.rest.table_id c.self.inside.seats.items c.self.invariant c.args.self.now c.in_ok-place.place c.take.result c.index_mut.result.now c.take.new.self c.self.view_is c.take.ensures.value c.index_mut.ensures.value c.take.ensures.after
    (subst (λ l. c.in_ok-place.place < length l) same first.1) (subst (λ l. slice_get l c.in_ok-place.place ≢ Some None) same first.0) (subst (λ l. (d : ℕ) → d < c.in_ok-place.place → slice_get l d ≡ Some None) same first.2)

pub returns-clause-of : goal.returns-clause-of
returns-clause-of g c =
    let first = (c.in_ok-place.ensures {u = tt}).first in
    let same = c.as_slice.ensures.value in
    takes_own c.self.inside.rest.me c.self.inside.rest.table_id c.self.inside.seats.items c.self.invariant c.args.self.now c.take.result _ c.self.view_is
    (takes c.self.inside.rest.me c.self.inside.rest.table_id c.self.inside.seats.items c.self.invariant c.args.self.now c.in_ok-place.place c.take.result c.index_mut.result.now c.take.new.self c.self.view_is c.take.ensures.value c.index_mut.ensures.value c.take.ensures.after
    (subst (λ l. c.in_ok-place.place < length l) same first.1) (subst (λ l. slice_get l c.in_ok-place.place ≢ Some None) same first.0) (subst (λ l. (d : ℕ) → d < c.in_ok-place.place → slice_get l d ≡ Some None) same first.2))
