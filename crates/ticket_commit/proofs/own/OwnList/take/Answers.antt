use Rattle.std.proofs.Common.{◌<◌, Some, length, drop, ap, sym, subst, ◌∙◌}
use Rattle.std.specs.Prelude.{slice_get, slice_range}
use Rattle.std.proofs.lemmas.List.{drop-drop}
use Rattle.amoebot_state.specs.Pairs.{Triples, triples_alike}
use Rattle.ticket_commit.specs.OwnLists.{OwnEntries}
use Rattle.ticket_commit.specs.Packed.{unpacked}
use Rattle.ticket_commit.proofs.Unpacking.{alike_range, first_entry, is_head, with_cells}
use Rattle.ticket_commit.proofs.own.OwnList.take.Goals as goal

-- src/own.rt
pub fill-requires-clause-alike : goal.fill-requires-clause-alike
fill-requires-clause-alike c =
    let head = c.index-head.result.now in
    alike_range c.deref.result.now head.start head.end (subst triples_alike (sym c.deref.ensures.value) c.self.invariant.alike)

pub returns-clause-first : goal.returns-clause-first
returns-clause-first c =
    let o = c.self.inside in
    let head = c.index-head.result.now in
    let some = subst (λ (own : OwnEntries). 0 < length own.entries) (sym c.self.view_is) c.requires in
    let cells = c.fill.ensures ∙ ap (λ (ts : Triples). slice_range ts head.start head.end) c.deref.ensures.value in (
      head.place,
      ap (λ (own : OwnEntries). slice_get own.entries 0) (sym c.self.view_is)
          ∙ first_entry o.heads.items o.triples.items o.taken head (is_head o.heads.items o.triples.items o.taken some) c.index-head.ensures
          ∙ ap (λ (ts : Triples). Some (with_cells head ts)) (sym cells),
    )

pub returns-clause-rest : goal.returns-clause-rest
returns-clause-rest c =
    let o = c.self.inside in
    sym (drop-drop 1 o.taken (unpacked o.heads.items o.triples.items)) ∙ ap (λ (own : OwnEntries). drop 1 own.entries) c.self.view_is
