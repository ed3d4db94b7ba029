use Rattle.std.proofs.Common.{◌≡◌, ℕ, Vec, Global, length, ap, sym, subst, ◌∙◌, None}
use Rattle.std.specs.Prelude.{IfOk, replicate}
use Rattle.std.specs.List.{All}
use Rattle.std.proofs.lemmas.List.{length-map}
use Rattle.claim_core.specs.declared.machine.CoreCaller.{CoreCaller}
use Rattle.claim_core.specs.Turns.{CallerLists, Kept, MarkLists}
use Rattle.claim_core.specs.Machine.{fresh, setup}
use Rattle.claim_core.specs.Soundness.{IsSetup}
use Rattle.claim_core.specs.Cores.{Begins, IsCore, state_of}
use Rattle.claim_core.proofs.OpeningLemmas.{opens_so, is_core}
use Rattle.claim_core.proofs.machine.Core.make.Given as given
use Rattle.claim_core.proofs.machine.Core.make.Goals as goal

abbrev Records : Type 0
Records = Kept × MarkLists

abbrev Places : Type 0
Places = Vec ℕ Global × Vec CoreCaller Global

same_lists : (g : given.Over) (c : goal.In_ok-records-3 g) → c.in_ok-records-3.lists ≡ c.args.lists.now
same_lists g c = subst (λ r. IfOk r (λ (l : CallerLists). l ≡ c.args.lists.now)) c.in_ok-records-3.ensures.1 c.copy.ensures

same_records : (g : given.Over) (c : goal.In_ok-records-3 g) → c.in_ok-records-3.records ≡ c.in_ok-records.records
same_records g c = ap (λ (p : Records × Places). p.0) c.in_ok-records-3.ensures.0 ∙ c.in_ok-records-2.ensures.0

same_places : (g : given.Over) (c : goal.In_ok-records-3 g) → c.in_ok-records-3.places ≡ c.in_ok-records-2.places
same_places g c = ap (λ (p : Records × Places). p.1) c.in_ok-records-3.ensures.0

free : (g : given.Over) (c : goal.In_ok-records-3 g) → c.in_ok-records-2.places.0.items ≡ replicate c.cells_of.result 0
free g c = subst (λ r. IfOk r (λ (q : Places). q.0.items ≡ replicate c.cells_of.result 0)) c.in_ok-records-2.ensures.1 c.first_places-places.ensures.tags

many : (g : given.Over) (c : goal.In_ok-records-3 g) → length c.in_ok-records-2.places.1.items ≡ length c.args.lists.now.ids
many g c = subst (λ r. IfOk r (λ (q : Places). length q.1.items ≡ length c.args.lists.now.ids)) c.in_ok-records-2.ensures.1 c.first_places-places.ensures.many

begin : (g : given.Over) (c : goal.In_ok-records-3 g) → All (Begins c.args.lists.now.turns 0) c.in_ok-records-2.places.1.items
begin g c = subst (λ r. IfOk r (λ (q : Places). All (Begins c.args.lists.now.turns 0) q.1.items)) c.in_ok-records-2.ensures.1 c.first_places-places.ensures.begin

pub invariant_of-result : goal.invariant_of-result
invariant_of-result g c =
    let verdict = g.D.Decider.verdict c.args.decider.now in
    let world = c.args.world in
    let lists = c.args.lists.now in
    let old = c.in_ok-records.records in
    let places = c.in_ok-records-2.places in
    let is = c.in_ok-records.ensures in
    let ok : IsSetup (setup verdict world lists) = record {
      valid = c.keeps.ensures.valid;
      few = c.keeps.ensures.few;
      lists = c.first_places-places.ensures.lists;
      bots = c.requires;
      touches = c.touches_zone.ensures;
      leads = c.has_next.ensures;
    } in
    let base : IsCore verdict lists places.0.items world old.0 None places.1.items old.1 =
    is_core verdict world lists places.0.items old.0 places.1.items old.1 is.first is.entries (free g c ∙ ap (λ n. replicate n 0) c.cells_of.ensures.value) (many g c) (begin g c) is.marks ok is.room in
    subst (λ (l : CallerLists). IsCore verdict l c.in_ok-records-3.places.0.items world c.in_ok-records-3.records.0 None c.in_ok-records-3.places.1.items c.in_ok-records-3.records.1) (sym (same_lists g c))
    (subst (λ (q : Places). IsCore verdict lists q.0.items world c.in_ok-records-3.records.0 None q.1.items c.in_ok-records-3.records.1) (sym (same_places g c))
    (subst (λ (r : Records). IsCore verdict lists places.0.items world r.0 None places.1.items r.1) (sym (same_records g c)) base))

pub returns-clause-opened : goal.returns-clause-opened
returns-clause-opened g c =
    let verdict = g.D.Decider.verdict c.args.decider.now in
    let world = c.args.world in
    let lists = c.args.lists.now in
    let old = c.in_ok-records.records in
    let places = c.in_ok-records-2.places in
    let is = c.in_ok-records.ensures in
    let first = ap (λ (r : Records). r.0.first) (same_records g c) ∙ is.first in
    let opens =
    ap (λ (q : Places). state_of q.0.items world c.in_ok-records-3.records.0 None q.1.items c.in_ok-records-3.records.1) (same_places g c)
    ∙ ap (λ (r : Records). state_of places.0.items world r.0 None places.1.items r.1) (same_records g c)
    ∙ opens_so verdict world lists places.0.items old.0 places.1.items old.1 is.first is.entries (free g c ∙ ap (λ n. replicate n 0) c.cells_of.ensures.value) (many g c) (begin g c) is.marks in
    λ i. record { decider = c.args.decider.now; first = first i; lists = same_lists g c i; state = opens i }

pub returns-clause-callers : goal.returns-clause-callers
returns-clause-callers g c =
    ap (λ r. length r.state.callers) (returns-clause-opened g c)
    ∙ length-map c.args.lists.now.ids (λ _. fresh (setup (g.D.Decider.verdict c.args.decider.now) c.args.world c.args.lists.now))
