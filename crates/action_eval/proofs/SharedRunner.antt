-- Threads may share the decider of a program: what a `&` to it holds names no thread. By the parts of a program, and by the set of the names of its variables.
use denote.RattleType.{RattleType}
use denote.Struct.Field.{unit-field}
use denote.Hole.{as_row}
use denote.Param.{number}
use denote.Param.Send.{IsSync, sendable}
use denote.Param.SendFields.{FieldsHave, as_row_sync, declared_sync}
use Rattle.std.proofs.Crossing.{Vec-sync, Box-sync}
use Rattle.std.specs.declared.cmp.PartialEq as eq
use Rattle.std.specs.declared.hash.Hash as hash
use Rattle.std.specs.declared.hash.Hasher as hasher
use Rattle.std.specs.declared.hash.BuildHasher as builder
use Rattle.std.specs.contracts.hash.BuildHasherDefault as building
use Rattle.std.specs.contracts.hash.FoldHasher as folding
use Rattle.std.specs.contracts.alloc.Global as heap
use Rattle.std.specs.contracts.impls.GlobalAllocator.TheImpl.{ghosts}
use Rattle.arrayvec.specs.contracts.array_string.ArrayString as text
use Rattle.indexmap.specs.contracts.columns.Columns as columns
use Rattle.indexmap.specs.contracts.index_table.IndexTable as table
use Rattle.indexmap.specs.contracts.index_table.Bucket as bucket
use Rattle.indexmap.specs.contracts.index_table.group.Group as group
use Rattle.indexmap.specs.contracts.map.IndexMap as map
use Rattle.indexmap.specs.contracts.set.IndexSet as set
use Rattle.action_tree.specs.contracts.expression.Guard as guard
use Rattle.action_tree.specs.contracts.expression.PortExpr as port
use Rattle.action_tree.specs.contracts.expression.Sum as sum
use Rattle.action_tree.specs.contracts.statement.Stmt as stmt
use Rattle.action_tree.specs.contracts.statement.Move as move
use Rattle.action_tree.specs.contracts.program.Action as action
use Rattle.action_tree.specs.contracts.program.Var as var
use Rattle.action_tree.specs.contracts.program.Program as program
use Rattle.action_tree.proofs.expression.Guard.TheLaws.TheKnot as expressions
use Rattle.action_tree.proofs.statement.Stmt.TheLaws.TheKnot as statements
use Rattle.action_check.specs.contracts.checked.Checked as checked
use Rattle.action_check.specs.contracts.checked.Checked.TheInside as inside
use Rattle.action_eval.specs.contracts.runner.Runner as runner

-- ---- a program
guard_sync : IsSync (guard.the_field).row
guard_sync = search (expressions.sync-Guard, Vec-sync, Box-sync, sendable) depth 20

port_sync : IsSync (port.the_field).row
port_sync = search (expressions.sync-PortExpr, Vec-sync, Box-sync, sendable) depth 20

sum_sync : IsSync (sum.the_field).row
sum_sync = search (expressions.sync-Sum, Vec-sync, Box-sync, sendable) depth 20

stmt_sync : IsSync (stmt.the_field).row
stmt_sync = search (statements.sync-Stmt, guard_sync, port_sync, sum_sync, Vec-sync, sendable) depth 20

move_sync : IsSync (move.the_field).row
move_sync = search (port_sync, sendable) depth 20

action_sync : IsSync (action.the_field).row
action_sync = search (guard_sync, stmt_sync, move_sync, Vec-sync, sendable) depth 20

var_sync : IsSync (var.the_field).row
var_sync = search sendable depth 20

program_sync : IsSync (program.the_field).row
program_sync = search (action_sync, var_sync, Vec-sync, sendable) depth 20

-- ---- a map or a set that keeps an order, as its keys, its values and its hashers
group_sync : IsSync group.the_row
group_sync = search sendable depth 20

bucket_sync : IsSync bucket.the_row
bucket_sync = search sendable depth 20

table_sync : IsSync (table.the_field heap.the_row ghosts).row
table_sync = search (group_sync, bucket_sync, Vec-sync, sendable) depth 20

columns_sync : (K V : RattleType) → IsSync K → IsSync V → IsSync (columns.the_field K V heap.the_row ghosts).row
columns_sync K V k v = search (Vec-sync, sendable) depth 20

module _ (K S T : RattleType) (e : eq.Ghosts K.Denot) (h : hash.Ghosts K.Denot) (b : builder.Ghosts S.Denot T.Denot) (w : hasher.Ghosts T.Denot) where
  map_sync : (V : RattleType) → IsSync K → IsSync V → IsSync S → IsSync (map.the_field K V S heap.the_row T e h b w ghosts).row
  map_sync V k v s = let c = columns_sync K V k v in search (table_sync, sendable) depth 20

  set_sync : IsSync K → IsSync S → IsSync (as_row (set.the_field K S heap.the_row T e h b w ghosts))
  set_sync k s = let m = map_sync unit-field.row k (search sendable) s in search sendable depth 20

-- ---- a checked program, and its decider
text_sync : IsSync (text.the_row (number 24))
text_sync = search sendable depth 20

building_sync : IsSync (building.the_row folding.the_row)
building_sync = search sendable depth 20

parts_sync : FieldsHave IsSync inside.the_type.parts
parts_sync = (as_row_sync program.the_field program_sync, (set_sync (text.the_row (number 24)) (building.the_row folding.the_row) folding.the_row _ _ _ _ text_sync building_sync, tt))

inside_sync : IsSync inside.the_row
inside_sync = declared_sync inside.the_type parts_sync

checked_sync : IsSync (checked.the_field).row
checked_sync = search (inside_sync, sendable)

pub runner_sync : IsSync runner.the_row
runner_sync = search (checked_sync, sendable) depth 20
