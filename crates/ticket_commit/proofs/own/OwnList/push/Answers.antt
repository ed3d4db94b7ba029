use Rattle.std.proofs.Common.{◌≡◌, ◌+◌, [], ◌∷◌, ◌++◌, drop, length, ap, ◌∙◌, arith}
use Rattle.amoebot_state.specs.Pairs.{Triples}
use Rattle.amoebot_state.specs.Steps.{entry_of}
use Rattle.ticket_commit.specs.declared.own.Head.{Head}
use Rattle.ticket_commit.specs.OwnLists.{OwnEntries}
use Rattle.ticket_commit.specs.Packed.{unpacked}
use Rattle.ticket_commit.proofs.Unpacking.{one_more}
use Rattle.ticket_commit.proofs.own.OwnList.push.Goals as goal

-- src/own.rt
pub returns-clause-entries : goal.returns-clause-entries
returns-clause-entries c =
    let o = c.self.inside in
    let change = c.args.change.now in
    let head : Head = record { place = c.args.place; turn = c.args.turn; bot = c.args.bot; caller = c.args.caller; action = change.action; moved = change.moved; start = c.len-start.result; end = c.len-end.result } in
    let cells = c.triples.ensures.value in
    let pushed = c.push_all.ensures.items ∙ ap (λ (cs : Triples). o.triples.items ++ cs) cells in
    let start : head.start ≡ length o.triples.items = omega (arith, c.len-start.ensures, o.triples.ok.0) in
    let end : head.end ≡ length o.triples.items + length change.patch = omega (arith, c.len-end.ensures, c.push_all.ensures.len, o.triples.ok.0, ap length cells) in
    (λ i. drop o.taken (unpacked (c.push_reserved.ensures.items i) (pushed i)))
    ∙ one_more o.heads.items o.triples.items change.patch c.self.invariant.cells head start end o.taken (let few = c.self.invariant.front in omega (arith, few, o.heads.ok.0))
    ∙ ap (λ (own : OwnEntries). own.entries ++ (c.args.place, entry_of c.args.caller c.args.turn c.args.bot change) ∷ []) c.self.view_is
