use Rattle.std.proofs.Common.{sym, subst, arith}
use Rattle.action_tree.specs.PlacedScope.{placed_scope}
use Rattle.action_tree.specs.Scopes.{Scope, HasRoom}
use Rattle.action_tree.specs.Views.{move_of, stmts_of}
use Rattle.action_tree.specs.Writable.{move_names, stmts_names}
use Rattle.action_tree.proofs.Rooms.{fewer_names, room_after_all}
use Rattle.action_tree.proofs.placed_actions.place_action.Goals as goal

pub place_stmts-behind-requires : goal.place_stmts-behind-requires
place_stmts-behind-requires c =
    let a = c.args.action.now in
    rw c.deref_mut.ensures.value (omega (arith, fewer_names (stmts_of a.body.items) 0 (move_names (move_of a.moved)) (omega arith)))

pub placed_move-requires : goal.placed_move-requires
placed_move-requires c =
    let a = c.args.action.now in
    let room : HasRoom (placed_scope c.args.scope) (stmts_names (move_names (move_of a.moved)) (stmts_of a.body.items)) = omega arith in
    let behind = rw c.deref_mut.ensures.value at c.place_stmts-behind.ensures.behind in
    let P : Scope → Type 0 = λ sc. HasRoom sc (move_names (move_of a.moved)) in
    rw c.replace-moved.ensures.value (subst P (sym behind) (room_after_all (placed_scope c.args.scope) (stmts_of a.body.items) _ room))
