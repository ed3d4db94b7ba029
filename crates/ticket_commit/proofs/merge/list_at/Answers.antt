use Rattle.std.proofs.Common.{ℕ, List, length, inl, inr, ap, sym, subst, ◌∙◌, arith, Some}
use Rattle.std.specs.Prelude.{slice_get}
use Rattle.std.proofs.lemmas.Bool.{cases_eq, cases_lt, both_ways}
use Rattle.std.proofs.lemmas.List.{get_or_past, length-map}
use Rattle.std.proofs.lemmas.Option.{none-some}
use Rattle.amoebot_state.specs.declared.verdict.Entry.{Entry}
use Rattle.claim_core.specs.Merges.{own_of}
use Rattle.ticket_commit.specs.OwnLists.{OwnEntries, BeginsAt, entry_lists}
use Rattle.ticket_commit.proofs.EntryLists.{own_is}
use Rattle.ticket_commit.proofs.merge.list_at.Goals as goal

-- src/merging.rt
pub loop-own-preserved : goal.loop-own-preserved
loop-own-preserved c = (
  (let same = c.loop-own.invariant.0 in omega (arith, same)),
  λ d lt begins. elim (cases_eq d c.loop-own.own-index) [
    | inl same ↦
        let own = own_is c.args.lists.now c.loop-own.own-index c.own-item.result c.loop-own-test.true c.own-item.is in
        both_ways _ c.if-begins_with-2.false (c.begins_with-in-loop-own.ensures.1 (subst (BeginsAt c.args.place) (ap (own_of (entry_lists c.args.lists.now)) same ∙ own) begins))
    | inr other ↦ c.loop-own.invariant.1 d (omega (arith, lt, other)) begins
  ],
)

pub returns : goal.returns
returns c = λ d p at same. elim (cases_lt d (length (entry_lists c.args.lists.now))) [
  | inl lt ↦
      let many = length-map {B = List (ℕ × Entry)} c.args.lists.now (λ (own : OwnEntries). own.entries) in
      c.loop-own.invariant.1 d (let end = c.loop-own-test.false in omega (arith, lt, many, end)) (p.1, at ∙ ap (λ n. Some (n, p.1)) same)
  | inr le ↦ none-some p (ap (λ ys. slice_get ys 0) (sym (get_or_past (entry_lists c.args.lists.now) d _ le)) ∙ at)
]
