-- Several threads may read endpoint programs.
use denote.Param.Send.{IsSync, sendable}
use Rattle.chor_base.specs.contracts.names.NameId as name
use Rattle.endpoint_code.specs.contracts.code.CodeId as id
use denote.Struct.Tuple.{Tuple}
use Rattle.std.specs.Prelude.{[], ◌∷◌}
use denote.Param.SendFields.{variants_sync, declared_sync, as_row_sync}
use Rattle.chor_base.specs.contracts.names.Names as name_table
use Rattle.chor_base.specs.contracts.texts.Texts as text_table
use Rattle.endpoint_code.specs.contracts.code.CodeNode as node
use Rattle.endpoint_code.specs.contracts.code.Code as code
use Rattle.endpoint_code.specs.contracts.endpoints.Endpoints as endpoints
use Rattle.endpoint_code.specs.contracts.endpoints.Channel as channel
use Rattle.endpoint_code.specs.contracts.endpoints.Procedure as procedure
use Rattle.endpoint_code.specs.contracts.endpoints.Process as process
use Rattle.endpoint_code.specs.contracts.endpoints.ServiceCode as service
use Rattle.chor_base.proofs.Crossing.{list_sync, listed_sync, name_table_sync, text_table_sync, name_sync, expr_sync}

id_sync : IsSync id.the_row
id_sync = search sendable depth 20

arm_sync : IsSync (Tuple (name.the_row ∷ id.the_row ∷ []))
arm_sync = search (sendable, name_sync, id_sync) depth 20

node_sync : IsSync node.the_row
node_sync =
    let n = name_sync in
    let c = id_sync in
    let x = expr_sync in
    variants_sync node.enum (
      (n, (n, (n, (c, tt)))),
      (
        (n, (n, (x, (c, tt)))),
        (
          (n, (n, (n, (c, tt)))),
          (
            (n, (n, (n, (c, tt)))),
            (
              (n, (n, (listed_sync _ arm_sync, tt))),
              (
                (n, (n, (n, (c, tt)))),
                (
                  (n, (n, (n, (c, tt)))),
                  (
                    (n, (x, (c, tt))),
                    (
                      (x, (c, tt)),
                      (
                        (n, (n, (x, (x, (c, tt))))),
                        (
                          (x, (c, (c, tt))),
                          (
                            (n, (n, (listed_sync name.the_row n, tt))),
                            (tt, tt),
                          ),
                        ),
                      ),
                    ),
                  ),
                ),
              ),
            ),
          ),
        ),
      ),
    )

pub code_sync : IsSync code.the_row
code_sync = search (sendable, list_sync, node_sync) depth 40

channel_sync : IsSync channel.the_row
channel_sync = search (sendable, list_sync) depth 40

procedure_sync : IsSync procedure.the_row
procedure_sync = search (sendable, list_sync) depth 40

service_sync : IsSync service.the_row
service_sync = search (sendable, list_sync) depth 40

process_sync : IsSync process.the_row
process_sync = search (sendable, list_sync) depth 40

pub endpoints_sync : IsSync endpoints.the_row
endpoints_sync = declared_sync endpoints.the_type (
  as_row_sync name_table.the_field name_table_sync,
  (
    as_row_sync text_table.the_field text_table_sync,
    (
      listed_sync channel.the_row channel_sync,
      (
        listed_sync procedure.the_row procedure_sync,
        (
          listed_sync service.the_row service_sync,
          (
            listed_sync process.the_row process_sync,
            (code_sync, tt),
          ),
        ),
      ),
    ),
  ),
)
