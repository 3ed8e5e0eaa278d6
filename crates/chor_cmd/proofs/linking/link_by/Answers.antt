use Rattle.std.proofs.Common.{ℕ, List, [], ◌∷◌, subst}
use Rattle.chor_host.specs.Tables.{functions_of}
use Rattle.command_words.specs.declared.words.Command.TheVariants.{Link}
use Rattle.simulation.specs.Capacity.{capacity_of}
use Rattle.chor_cmd.specs.declared.status.Status.TheVariants.{Refused}
use Rattle.chor_cmd.specs.Endings.{HasWritten}
use Rattle.chor_cmd.specs.Linkings.{HasLinked}
use Rattle.chor_cmd.specs.Outputs.{TellsRun}
use Rattle.chor_cmd.specs.Rows.{Exactly}
use Rattle.chor_cmd.proofs.Exits.{stop_said, line_said, done_said}
use Rattle.chor_cmd.proofs.LinkedFiles.{linked_hosts, linked_runs, unsuited_is_refused}
use Rattle.chor_cmd.proofs.linking.link_by.Goals as goal

pub returns-in-Err-clause-said : goal.returns-in-Err-clause-said
returns-in-Err-clause-said g c =
    let before = g.F.Shelf.state c.args.shelf.now in
    let after = g.F.Shelf.state c.fetch_linked.new.shelf in
    stop_said (functions_of c.args.hosts.now) (Link c.args.options) (c.args.names.0.now ∷ c.args.names.1.now ∷ []) before after (g.K.Sink.state c.args.out.now) (g.K.Sink.state c.tell_stop.new.out) c.tell_stop.result
    c.in-Err.stop (c.in-Err.ensures.stops c.args.options) c.tell_stop.ensures

pub tell_by-status-requires-clause-hosts : goal.tell_by-status-requires-clause-hosts
tell_by-status-requires-clause-hosts g c κs within =
    let functions = functions_of c.args.hosts.now in
    let before = g.F.Shelf.state c.args.shelf.now in
    let linked = subst (HasLinked functions before c.args.names.0.now c.args.names.1.now) c.in-Ok-Linked.field-0-is c.in-Ok-Linked.ensures.linked in
    linked_hosts functions before c.args.names.0.now c.args.names.1.now c.in-Ok-Linked.accepted linked

pub returns-in-Ok-Linked-clause-said : goal.returns-in-Ok-Linked-clause-said
returns-in-Ok-Linked-clause-said g c =
    let functions = functions_of c.args.hosts.now in
    let before = g.F.Shelf.state c.args.shelf.now in
    let after = g.F.Shelf.state c.fetch_linked.new.shelf in
    let name = c.args.names.0.now in
    let units_name = c.args.names.1.now in
    let options = c.args.options in
    let a = c.in-Ok-Linked.accepted in
    let linked = subst (HasLinked functions before name units_name) c.in-Ok-Linked.field-0-is c.in-Ok-Linked.ensures.linked in
    done_said functions (Link options) (name ∷ units_name ∷ []) before after (g.K.Sink.state c.args.out.now) (g.K.Sink.state c.tell_by-status.new.out) c.tell_by-status.result c.requires
    (TellsRun functions a.typed.file a.endpoints (capacity_of a.typed.file) options)
    (linked_runs functions before name units_name options a linked) c.tell_by-status.ensures

pub returns-in-Ok-Unsuited-clause-said : goal.returns-in-Ok-Unsuited-clause-said
returns-in-Ok-Unsuited-clause-said g c =
    let functions = functions_of c.args.hosts.now in
    let before = g.F.Shelf.state c.args.shelf.now in
    let after = g.F.Shelf.state c.fetch_linked.new.shelf in
    let sink = g.K.Sink.state c.args.out.now in
    let sink' = g.K.Sink.state c.write.new.out in
    let name = c.args.names.0.now in
    let units_name = c.args.names.1.now in
    let options = c.args.options in
    let unsuited = subst (HasLinked functions before name units_name) c.in-Ok-Unsuited.field-0-is c.in-Ok-Unsuited.ensures.linked in
    line_said functions (Link options) (name ∷ units_name ∷ []) before after sink sink' c.write.result Refused c.in-Ok-Unsuited.line.items
    (unsuited_is_refused functions before name units_name options c.in-Ok-Unsuited.line unsuited) (subst (λ (t : List ℕ). HasWritten (Exactly Refused t) ⊥ ⊥ sink sink' c.write.result) c.as_slice.ensures.value c.write.ensures)
