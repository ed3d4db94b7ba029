use Rattle.std.proofs.Common.{◌≡◌, ◌+◌, ◌++◌, take, vec_len, vec_capacity}
use Rattle.ticket_commit.proofs.own.push_all.Given as goal

abbrev pub invariant-loop-cell : goal.invariant-loop-cell
invariant-loop-cell l =
    (l.triples.items ≡ l.fn.triples.items ++ take l.cell-index l.cells)
    × (vec_len l.triples ≡ vec_len l.fn.triples + l.cell-index)
    × (vec_capacity l.triples ≡ vec_capacity l.fn.triples)
