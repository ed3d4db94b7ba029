use Rattle.std.proofs.Common.{◌≡◌, ℕ, ◌+◌, ◌<◌, List, Some, length, drop, ap, sym, refl, subst, ◌∙◌, arith}
use Rattle.std.specs.Prelude.{slice_get}
use Rattle.std.proofs.lemmas.List.{length-map}
use Rattle.std.proofs.lemmas.Option.{same_Some}
use Rattle.amoebot_state.specs.declared.verdict.Entry.{Entry}
use Rattle.claim_core.specs.Merges.{own_of}
use Rattle.ticket_commit.specs.OwnLists.{OwnEntries, entry_lists}
use Rattle.ticket_commit.proofs.EntryLists.{own_is, own_less}
use Rattle.ticket_commit.proofs.MergeSteps.{IsMerging, IsTaken, merging_starts, merging_ends, taken}
use Rattle.ticket_commit.proofs.merge.merge.Given.{Over}
use Rattle.ticket_commit.proofs.merge.merge.Goals.{After-take-entry}
use Rattle.ticket_commit.proofs.merge.merge.Goals as goal

-- src/merging.rt
pub loop-caller-init : goal.loop-caller-init
loop-caller-init g c = (
  refl,
  merging_starts (g.D.Decider.verdict c.args._decider.now) (entry_lists c.args.lists.now) c.args.journal.now.spare c.args.world.now c.args.journal.now.entries c.requires,
)

-- the caller has a list,
inside : (g : Over) (c : After-take-entry g) → c.in-Some.caller < length c.loop-caller.lists
inside g c = let many = length-map {B = List (ℕ × Entry)} c.loop-caller.lists (λ (own : OwnEntries). own.entries) in let lt = c.in-Some.ensures.0 in omega (arith, many, lt)

-- whose first entry is the next one
next : (g : Over) (c : After-take-entry g)
    → IsTaken (g.D.Decider.verdict c.args._decider.now) (entry_lists c.args.lists.now) c.args.world.now c.args.journal.now.entries (entry_lists c.loop-caller.lists) c.loop-caller.place c.loop-caller.journal.spare c.loop-caller.world c.loop-caller.journal.entries
    c.loop-caller.invariant.1 c.in-Some.caller c.take-entry.result
next g c =
    let begins = c.in-Some.ensures.1 in
    let first = c.take-entry.ensures.first in
    let own = own_is c.loop-caller.lists c.in-Some.caller c.index-lists-caller.result (inside g c) c.index-lists-caller.is in
    let there : slice_get (own_of (entry_lists c.loop-caller.lists) c.in-Some.caller) 0 ≡ Some (first.0, c.take-entry.result) =
    ap (λ ys. slice_get ys 0) own ∙ ap (λ (o : OwnEntries). slice_get o.entries 0) c.index-lists-caller.is ∙ first.1 in
    taken (g.D.Decider.verdict c.args._decider.now) (entry_lists c.args.lists.now) c.args.world.now c.args.journal.now.entries (entry_lists c.loop-caller.lists) c.loop-caller.place c.loop-caller.journal.spare c.loop-caller.world c.loop-caller.journal.entries
    c.loop-caller.invariant.1 c.in-Some.caller c.take-entry.result
    (there ∙ ap (λ n. Some (n, c.take-entry.result)) (ap (λ (p : ℕ × Entry). p.0) (same_Some (first.0, c.take-entry.result) (c.loop-caller.place, begins.0) (sym there ∙ begins.1))))

pub apply-requires : goal.apply-requires
apply-requires g c = (next g (goal.at.apply-requires g c).After-take-entry).applies

pub loop-caller-preserved : goal.loop-caller-preserved
loop-caller-preserved g c =
    let at = (goal.at.loop-caller-preserved g c).After-take-entry in
    let is = c.index-lists-caller.is in
    let less = c.take-entry.ensures.rest ∙ ap (λ (o : OwnEntries). drop 1 o.entries) (sym is) in
    let lists = own_less c.loop-caller.lists c.in-Some.caller c.index-lists-caller.result (inside g at) is c.take-entry.new.self less in
    let goes = (next g at).goes_on c.apply.new.self c.push.new.self.spare c.apply.ensures c.push.ensures.spare in (
      c.push.ensures.first ∙ c.loop-caller.invariant.0,
      subst
          (λ (z : List (List (ℕ × Entry)) × List Entry).
          IsMerging (g.D.Decider.verdict c.args._decider.now) (entry_lists c.args.lists.now) c.args.world.now c.args.journal.now.entries z.0 (c.loop-caller.place + 1) c.push.new.self.spare c.apply.new.self z.1)
          (λ i. (sym lists i, sym c.push.ensures.entries i)) goes,
    )

pub returns-clause-entries : goal.returns-clause-entries
returns-clause-entries g c = λ merged is. (merging_ends _ _ _ _ _ _ _ _ _ c.loop-caller.invariant.1 c.in_default.ensures merged is).0

pub returns-clause-world : goal.returns-clause-world
returns-clause-world g c = λ merged is. (merging_ends _ _ _ _ _ _ _ _ _ c.loop-caller.invariant.1 c.in_default.ensures merged is).1
