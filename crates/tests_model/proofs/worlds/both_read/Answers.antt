use Rattle.std.proofs.Common.{sym, subst, take, drop}
use Rattle.std.proofs.lemmas.List.{take-append-drop}
use Rattle.amoebot_state.specs.Pairs.{Pairs}
use Rattle.amoebot_state.specs.Known.{AreReadInOrder}
use Rattle.amoebot_state.proofs.ReadInOrder.{read_before, read_in_range}
use Rattle.tests_model.proofs.worlds.both_read.Goals as goal

pub loop-read-init : goal.loop-read-init
loop-read-init c = c.begin.ensures c.args.area.now

pub next_cell-requires : goal.next_cell-requires
next_cell-requires c =
    let cells : Pairs = c.args.cells.now in
    let read = c.loop-read.read in
    record { in_range = read_in_range c.args.area.now c.args.id (take read cells) (read_before c.args.area.now c.args.id (take read cells) (drop read cells) (subst (AreReadInOrder c.args.area.now c.args.id) (sym (take-append-drop read cells)) c.requires)) }

pub next_cell-requires-then-is_none : goal.next_cell-requires-then-is_none
next_cell-requires-then-is_none c = record { in_range = read_in_range c.args.area.now c.args.id c.args.cells.now c.requires }
