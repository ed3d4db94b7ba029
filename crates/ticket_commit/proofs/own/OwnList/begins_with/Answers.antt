use Rattle.std.proofs.Common.{List, ◌<◌, ◌≡◌, length, get_or, nat_eq, subst}
use Rattle.std.specs.Prelude.{IsTrue}
use Rattle.ticket_commit.specs.declared.own.Head.{Head}
use Rattle.ticket_commit.specs.OwnLists.{OwnEntries, BeginsAt}
use Rattle.ticket_commit.proofs.Unpacking.{first_place}
use Rattle.ticket_commit.proofs.own.OwnList.begins_with.Goals as goal

-- src/own.rt
pub returns-in-Some : goal.returns-in-Some
returns-in-Some c =
    let o = c.self.inside in
    let head = c.in-Some.head.now in
    let at = c.in-Some.ensures.lookup in
    let there = subst (λ (hs : List Head). (o.taken < length hs) × (head ≡ get_or hs o.taken head)) c.deref.ensures.value (at.3.0, at.1) in
    subst (λ (own : OwnEntries). (IsTrue (nat_eq head.place c.args.place) → BeginsAt c.args.place own.entries) × (BeginsAt c.args.place own.entries → IsTrue (nat_eq head.place c.args.place)))
    c.self.view_is
    (first_place o.heads.items o.triples.items o.taken head c.args.place there.0 there.1)
