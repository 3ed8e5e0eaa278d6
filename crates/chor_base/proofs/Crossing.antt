-- Which types may go from one thread to another, and which several threads may read.
use denote.RattleType.{RattleType}
use denote.Param.Send.{IsSend, IsSync, sendable}
use Rattle.std.proofs.Crossing.{crosses, Box-sync}
use Rattle.std.proofs.MapsCrossing as maps
use Rattle.chor_base.specs.contracts.value.Value as value
use Rattle.chor_base.specs.contracts.names.NameId as name
use Rattle.chor_base.specs.contracts.expr.UnOp as un
use Rattle.chor_base.specs.contracts.expr.BinOp as bin
use Rattle.chor_base.specs.contracts.expr.Expr as expr
use Rattle.chor_base.specs.contracts.expr.Expr.TheKnot as knot
use Rattle.chor_base.specs.declared.expr.Expr.TheBlock as block
use denote.Hole.FixSend.{Syncs, fix_sync}
use denote.Struct.Field.{row_field}
use denote.Hole.{as_row}
use Rattle.std.specs.contracts.boxed.Box as box
use Rattle.std.specs.contracts.alloc.Global as heap
use Rattle.std.specs.contracts.impls.GlobalAllocator.TheImpl.{ghosts}
use denote.Param.SendFields.{variants_sync, as_row_sync}
use Rattle.chor_base.specs.contracts.names.Names as name_table
use Rattle.chor_base.specs.contracts.texts.Texts as text_table
use Rattle.chor_base.specs.contracts.event.Event as event
use Rattle.chor_base.specs.contracts.event.Entry as entry
use Rattle.chor_base.specs.contracts.list.List as list
use Rattle.chor_base.specs.contracts.name_map.NameMap as names

pub list_send : (T : RattleType) → IsSend T → IsSend (list.the_row T)
list_send T s = search (sendable, crosses) depth 40

pub event_send : IsSend event.the_row
event_send = search (sendable, crosses, list_send) depth 40 fits 100000

pub entry_send : IsSend entry.the_row
entry_send = search (sendable, crosses, event_send) depth 40

pub names_send : (V : RattleType) → IsSend V → IsSend (names.the_row V)
names_send V s = search (sendable, crosses, maps.crosses) depth 40

pub vars_send : IsSend (names.the_row value.the_row)
vars_send = names_send value.the_row (search sendable depth 20)

pub list_sync : (T : RattleType) → IsSync T → IsSync (list.the_row T)
list_sync T s = search (sendable, crosses) depth 40

pub listed_sync : (T : RattleType) → IsSync T → IsSync (as_row (list.the_field T))
listed_sync T s = as_row_sync (list.the_field T) (list_sync T s)

pub name_table_sync : IsSync name_table.the_row
name_table_sync = search (sendable, crosses, maps.crosses) depth 40

pub text_table_sync : IsSync text_table.the_row
text_table_sync = search (sendable, crosses, maps.crosses) depth 40

pub name_sync : IsSync name.the_row
name_sync = search sendable depth 20

pub value_sync : IsSync value.the_row
value_sync = search sendable depth 20

un_sync : IsSync un.the_row
un_sync = search sendable depth 20

bin_sync : IsSync bin.the_row
bin_sync = search sendable depth 20

abbrev boxed : RattleType → RattleType
boxed R = box.the_row R heap.the_row ghosts

expr_layer : (i : block.the_members) → Syncs knot.ring i
expr_layer block.member-Expr = record {
  sync = λ h all.
      let R : RattleType = h block.member-Expr in
      let inner = as_row_sync (row_field (boxed R)) (Box-sync R (all block.member-Expr)) in
      record { shared = (variants_sync (knot.type-Expr R R R) ((value_sync, tt), ((name_sync, tt), ((un_sync, (inner, tt)), ((bin_sync, (inner, (inner, tt))), tt))))).shared };
}

hole_sync : IsSync knot.hole-Expr
hole_sync = fix_sync knot.ring expr_layer block.member-Expr

pub expr_sync : IsSync expr.the_row
expr_sync = search (sendable, crosses, hole_sync) depth 40
