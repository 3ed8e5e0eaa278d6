use Rattle.std.proofs.Common.{ℕ, List, [], ◌∷◌}
use Rattle.chor_host.specs.Functions.{names_of}
use Rattle.chor_host.specs.Tables.{functions_of}
use Rattle.command_words.specs.declared.words.Command.TheVariants.{Run}
use Rattle.simulation.specs.Capacity.{capacity_of}
use Rattle.source_check.specs.declared.rules.Rules.TheVariants.{All}
use Rattle.source_check.specs.Source.{Violates}
use Rattle.chor_cmd.specs.Outputs.{IsRunText, TellsRun}
use Rattle.chor_cmd.specs.Rows.{IsFineSource, Writes, OfSource, source_limit}
use Rattle.chor_cmd.proofs.Exits.{stops_judging, stop_said, one_is_done, done_said}
use Rattle.chor_cmd.proofs.running.run_by.Goals as goal

pub returns-in-Err-clause-said : goal.returns-in-Err-clause-said
returns-in-Err-clause-said g c =
    let functions = functions_of c.args.hosts.now in
    let before = g.F.Shelf.state c.args.shelf.now in
    let after = g.F.Shelf.state c.fetch_accepted.new.shelf in
    let name = c.args.name.now in
    let options = c.args.options in
    let next : List ℕ → _ = λ bytes. Writes (OfSource functions All (λ f. IsRunText functions f options) bytes) in
    stop_said functions (Run options) (name ∷ []) before after (g.K.Sink.state c.args.out.now) (g.K.Sink.state c.tell_stop.new.out) c.tell_stop.result c.in-Err.stop
    (stops_judging source_limit before after name [] (IsFineSource functions All) (Violates All (names_of functions)) next c.in-Err.stop c.in-Err.ensures.unread) c.tell_stop.ensures

pub returns-in-Ok-clause-said : goal.returns-in-Ok-clause-said
returns-in-Ok-clause-said g c =
    let functions = functions_of c.args.hosts.now in
    let before = g.F.Shelf.state c.args.shelf.now in
    let after = g.F.Shelf.state c.fetch_accepted.new.shelf in
    let name = c.args.name.now in
    let options = c.args.options in
    let a = c.in-Ok.accepted in
    let fetched = c.in-Ok.ensures in
    done_said functions (Run options) (name ∷ []) before after (g.K.Sink.state c.args.out.now) (g.K.Sink.state c.tell_by-status.new.out) c.tell_by-status.result c.requires
    (TellsRun functions a.typed.file a.endpoints (capacity_of a.typed.file) options)
    (λ t tells. one_is_done functions before before name All (λ f. IsRunText functions f options) a.typed.file t fetched.accepted (record { endpoints = a.endpoints; projects = fetched.projects; tells = tells }))
    c.tell_by-status.ensures
