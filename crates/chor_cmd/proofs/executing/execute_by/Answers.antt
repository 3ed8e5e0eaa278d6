use Rattle.std.proofs.Common.{[], ◌∷◌, sym, subst}
use Rattle.chor_host.specs.Functions.{names_of}
use Rattle.chor_host.specs.Tables.{functions_of}
use Rattle.command_words.specs.declared.words.Command.TheVariants.{Exec}
use Rattle.endpoint_check.specs.Programs.{ViolatesPrograms}
use Rattle.endpoint_laws.proofs.Read.{read_is_faultless}
use Rattle.chor_cmd.specs.declared.status.Status.{Status}
use Rattle.chor_cmd.specs.Rows.{ArePrograms, Closes, Executes, programs_limit}
use Rattle.chor_cmd.specs.Stops.{HasSaid}
use Rattle.chor_cmd.proofs.Exits.{stops_judging, stop_said, executed_said}
use Rattle.chor_cmd.proofs.executing.execute_by.Goals as goal

pub returns-in-Err-clause-said : goal.returns-in-Err-clause-said
returns-in-Err-clause-said g c =
    let functions = functions_of c.args.hosts.now in
    let before = g.F.Shelf.state c.args.shelf.now in
    let after = g.F.Shelf.state c.fetch_programs.new.shelf in
    let name = c.args.name.now in
    let options = c.args.options in
    stop_said functions (Exec options) (name ∷ []) before after (g.K.Sink.state c.args.out.now) (g.K.Sink.state c.tell_stop.new.out) c.tell_stop.result c.in-Err.stop
    (stops_judging programs_limit before after name [] (ArePrograms functions) (ViolatesPrograms (names_of functions)) (λ bytes. Closes (Executes functions options bytes)) c.in-Err.stop c.in-Err.ensures.unread) c.tell_stop.ensures

pub execute_to-executed-requires-clause-faultless : goal.execute_to-executed-requires-clause-faultless
execute_to-executed-requires-clause-faultless g c κs within =
    let read = c.in-Ok.ensures.programs in
    read_is_faultless (names_of (functions_of c.args.hosts.now)) read.0 c.in-Ok.programs read.2

pub returns-in-Ok-clause-said : goal.returns-in-Ok-clause-said
returns-in-Ok-clause-said g c =
    let functions = functions_of c.args.hosts.now in
    let before = g.F.Shelf.state c.args.shelf.now in
    let after = g.F.Shelf.state c.fetch_programs.new.shelf in
    let sink = g.K.Sink.state c.args.out.now in
    let sink' = g.K.Sink.state c.execute_to-executed.new.out in
    let name = c.args.name.now in
    let options = c.args.options in
    subst (λ (s : Status). HasSaid functions (Exec options) (name ∷ []) before after sink sink' s) (sym c.status_after.ensures)
    (executed_said functions before after name options c.in-Ok.programs c.in-Ok.ensures.programs c.requires sink sink' c.execute_to-executed.result c.execute_to-executed.ensures.written)
