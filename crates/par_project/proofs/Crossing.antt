-- Several threads may read a file, and codes in tables of their own may go from one thread to another.
use denote.RattleType.{RattleType}
use denote.Param.Send.{IsSend, IsSync, sendable}
use Rattle.std.proofs.Crossing.{crosses, Box-send}
use denote.Hole.FixSend.{Sends, fix_send}
use denote.Struct.Field.{row_field}
use denote.Struct.Tuple.{Tuple}
use denote.Hole.{as_row}
use denote.Param.SendFields.{variants_send, variants_sync, declared_send, declared_sync, as_row_send, as_row_sync}
use Rattle.std.specs.Prelude.{[], ◌∷◌}
use Rattle.std.specs.contracts.boxed.Box as box
use Rattle.std.specs.contracts.alloc.Global as heap
use Rattle.std.specs.contracts.impls.GlobalAllocator.TheImpl.{ghosts}
use Rattle.chor_base.specs.contracts.value.Value as value
use Rattle.chor_base.specs.contracts.names.NameId as name
use Rattle.chor_base.specs.contracts.expr.UnOp as un
use Rattle.chor_base.specs.contracts.expr.BinOp as bin
use Rattle.chor_base.specs.contracts.expr.Expr as expr
use Rattle.chor_base.specs.contracts.expr.Expr.TheKnot as knot
use Rattle.chor_base.specs.declared.expr.Expr.TheBlock as block
use Rattle.chor_base.specs.contracts.names.Names as name_table
use Rattle.chor_base.specs.contracts.texts.Texts as text_table
use Rattle.chor_base.specs.contracts.list.List as list
use Rattle.chor_base.specs.contracts.value.Sort as sort
use Rattle.chor_base.specs.contracts.rule.Place as place
use Rattle.endpoint_code.specs.contracts.code.Code as code
use Rattle.endpoint_code.specs.contracts.code.CodeId as at
use Rattle.endpoint_code.specs.contracts.code.CodeNode as code_node
use Rattle.file_codes.specs.contracts.prepared.UnitCode as unit
use Rattle.chor_tree.specs.contracts.file.Named as named
use Rattle.chor_tree.specs.contracts.file.File as file
use Rattle.chor_tree.specs.contracts.header.Header as header
use Rattle.chor_tree.specs.contracts.file.Service as service
use Rattle.chor_tree.specs.contracts.file.Proc as proc
use Rattle.chor_tree.specs.contracts.file.ProcParam as param
use Rattle.chor_tree.specs.contracts.file.SessionParam as session
use Rattle.chor_tree.specs.contracts.tree.NodeId as id
use Rattle.chor_tree.specs.contracts.tree.Part as part
use Rattle.chor_tree.specs.contracts.tree.Form as form
use Rattle.chor_tree.specs.contracts.tree.Node as node
use Rattle.chor_tree.specs.contracts.tree.Tree as tree
use Rattle.chor_tree.specs.contracts.protocol.Protocol as protocol
use Rattle.chor_tree.specs.contracts.protocol.Protocol.TheInside as inside
use Rattle.chor_tree.specs.contracts.protocol.State as state
use Rattle.chor_tree.specs.contracts.protocol.ProtoStep as step
use Rattle.chor_tree.specs.contracts.protocol.ProtoArm as arm
use Rattle.chor_tree.specs.contracts.protocol.Payload as payload
use Rattle.chor_base.proofs.Crossing.{list_send, list_sync, listed_sync, name_table_sync, text_table_sync, name_sync, expr_sync}

id_sync : IsSync id.the_row
id_sync = search sendable depth 20

named_sync : IsSync named.the_row
named_sync = search sendable depth 20

part_sync : IsSync part.the_row
part_sync = search sendable depth 20

place_sync : IsSync place.the_row
place_sync = search sendable depth 20

sort_sync : IsSync sort.the_row
sort_sync = search sendable depth 20

header_sync : IsSync header.the_row
header_sync = search sendable depth 20

form_sync : IsSync form.the_row
form_sync =
    let n = name_sync in
    let w = named_sync in
    let p = part_sync in
    let ps = listed_sync part.the_row part_sync in
    let ws = listed_sync named.the_row named_sync in
    let x = expr_sync in
    let i = id_sync in
    variants_sync form.enum (
      (w, (w, (ps, (ps, (i, tt))))),
      (
        (p, (x, (p, (n, (w, (i, tt)))))),
        (
          (p, (p, (w, (n, (i, tt))))),
          (
            (p, (p, (w, (p, (i, tt))))),
            (
              (w, (n, (x, (i, tt)))),
              (
                (w, (n, (w, (x, (x, (i, tt)))))),
                (
                  (w, (x, (i, tt))),
                  (
                    (w, (x, (i, (i, tt)))),
                    (
                      (w, (ws, (ws, tt))),
                      (tt, tt),
                    ),
                  ),
                ),
              ),
            ),
          ),
        ),
      ),
    )

node_sync : IsSync node.the_row
node_sync = declared_sync node.the_type (place_sync, (form_sync, tt))

tree_sync : IsSync tree.the_row
tree_sync = search (sendable, list_sync, node_sync) depth 40

payload_sync : IsSync payload.the_row
payload_sync = search sendable depth 20

arm_sync : IsSync arm.the_row
arm_sync = search sendable depth 20

step_sync : IsSync step.the_row
step_sync =
    let w = named_sync in
    variants_sync step.enum (tt, ((w, (w, (payload_sync, (w, tt)))), ((w, (w, (listed_sync arm.the_row arm_sync, tt))), tt)))

state_sync : IsSync state.the_row
state_sync = declared_sync state.the_type (named_sync, (step_sync, tt))

inside_sync : IsSync inside.the_row
inside_sync = declared_sync inside.the_type (named_sync, (listed_sync named.the_row named_sync, (listed_sync state.the_row state_sync, tt)))

protocol_sync : IsSync protocol.the_row
protocol_sync = search (sendable, inside_sync) depth 20

var_sync : IsSync (Tuple (named.the_row ∷ sort.the_row ∷ []))
var_sync = search (sendable, named_sync, sort_sync) depth 20

holder_sync : IsSync (Tuple (named.the_row ∷ named.the_row ∷ []))
holder_sync = search (sendable, named_sync) depth 20

service_sync : IsSync service.the_row
service_sync = let w = named_sync in let ws = listed_sync named.the_row named_sync in declared_sync service.the_type (w, (w, (ws, (ws, tt))))

param_sync : IsSync param.the_row
param_sync = declared_sync param.the_type (named_sync, (listed_sync _ var_sync, tt))

session_sync : IsSync session.the_row
session_sync = let w = named_sync in declared_sync session.the_type (w, (w, (w, (listed_sync _ holder_sync, tt))))

proc_sync : IsSync proc.the_row
proc_sync = declared_sync proc.the_type (named_sync, (listed_sync param.the_row param_sync, (listed_sync session.the_row session_sync, (id_sync, tt))))

pub file_sync : IsSync file.the_row
file_sync = declared_sync file.the_type (
  header_sync,
  (
    as_row_sync name_table.the_field name_table_sync,
    (
      as_row_sync text_table.the_field text_table_sync,
      (
        as_row_sync (list.the_field protocol.the_row) (list_sync protocol.the_row protocol_sync),
        (
          listed_sync service.the_row service_sync,
          (
            listed_sync proc.the_row proc_sync,
            (
              listed_sync named.the_row named_sync,
              (
                tree_sync,
                (id_sync, tt),
              ),
            ),
          ),
        ),
      ),
    ),
  ),
)

listed_send : (T : RattleType) → IsSend T → IsSend (as_row (list.the_field T))
listed_send T s = as_row_send (list.the_field T) (list_send T s)

value_send : IsSend value.the_row
value_send = search sendable depth 20

un_send : IsSend un.the_row
un_send = search sendable depth 20

bin_send : IsSend bin.the_row
bin_send = search sendable depth 20

name_send : IsSend name.the_row
name_send = search sendable depth 20

at_send : IsSend at.the_row
at_send = search sendable depth 20

id_send : IsSend id.the_row
id_send = search sendable depth 20

abbrev boxed : RattleType → RattleType
boxed R = box.the_row R heap.the_row ghosts

sent_layer : (i : block.the_members) → Sends knot.ring i
sent_layer block.member-Expr = record {
  send = λ h all.
      let R : RattleType = h block.member-Expr in
      let inner = as_row_send (row_field (boxed R)) (Box-send R (all block.member-Expr)) in
      let sent = variants_send (knot.type-Expr R R R) ((value_send, tt), ((name_send, tt), ((un_send, (inner, tt)), ((bin_send, (inner, (inner, tt))), tt)))) in
      record { owned = sent.owned; leaving = sent.leaving };
}

sent_hole : IsSend knot.hole-Expr
sent_hole = fix_send knot.ring sent_layer block.member-Expr

expr_send : IsSend expr.the_row
expr_send = search (sendable, crosses, sent_hole) depth 40

label_send : IsSend (Tuple (name.the_row ∷ at.the_row ∷ []))
label_send = search (sendable, name_send, at_send) depth 20

code_node_send : IsSend code_node.the_row
code_node_send =
    let n = name_send in
    let c = at_send in
    let x = expr_send in
    variants_send code_node.enum (
      (n, (n, (n, (c, tt)))),
      (
        (n, (n, (x, (c, tt)))),
        (
          (n, (n, (n, (c, tt)))),
          (
            (n, (n, (n, (c, tt)))),
            (
              (n, (n, (listed_send _ label_send, tt))),
              (
                (n, (n, (n, (c, tt)))),
                (
                  (n, (n, (n, (c, tt)))),
                  (
                    (n, (x, (c, tt))),
                    (
                      (x, (c, tt)),
                      (
                        (n, (n, (x, (x, (c, tt))))),
                        (
                          (x, (c, (c, tt))),
                          (
                            (n, (n, (listed_send name.the_row n, tt))),
                            (tt, tt),
                          ),
                        ),
                      ),
                    ),
                  ),
                ),
              ),
            ),
          ),
        ),
      ),
    )

code_send : IsSend code.the_row
code_send = search (sendable, list_send, code_node_send) depth 40

pub unit_send : IsSend unit.the_row
unit_send = declared_send unit.the_type (id_send, (name_send, (code_send, (at_send, tt))))
