use Rattle.std.proofs.Common.{[], ◌∷◌}
use Rattle.chor_host.specs.Tables.{functions_of}
use Rattle.source_check.specs.declared.rules.Rules.TheVariants.{All}
use Rattle.source_check.specs.Source.{Violates}
use Rattle.chor_cmd.specs.Endings.{host_names}
use Rattle.chor_cmd.specs.Rows.{IsFineSource, Resumes, source_limit, after_short_log}
use Rattle.chor_cmd.proofs.Exits.{source_stops, goes_on}
use Rattle.chor_cmd.proofs.Fetched.{no_fall, touches_both}
use Rattle.chor_cmd.proofs.resuming.resume_run.Goals as goal

pub returns-in_err-accepted-clause-answers : goal.returns-in_err-accepted-clause-answers
returns-in_err-accepted-clause-answers g c =
    let functions = functions_of c.args.hosts.now in
    let before = g.F.Shelf.state c.args.shelf.now in
    let now = g.F.Shelf.state c.fetch_accepted.new.shelf in
    source_stops functions before now c.args.files.0.now All (λ bytes. after_short_log (Resumes functions c.args.options bytes)) (c.args.files.1.now ∷ []) c.from_residual.result c.in_err-accepted.field-0.0 c.from_residual.ensures.1 c.in_err-accepted.ensures.unread

pub returns-clause-answers : goal.returns-clause-answers
returns-clause-answers g c =
    let functions = functions_of c.args.hosts.now in
    let before = g.F.Shelf.state c.args.shelf.now in
    let now = g.F.Shelf.state c.fetch_accepted.new.shelf in
    let after = g.F.Shelf.state c.resume_on-ending.new.shelf in
    let file = c.args.files.0.now in
    let fetched = c.in_ok-accepted.ensures in
    let read = fetched.accepted in
    goes_on source_limit before after file (c.args.files.1.now ∷ []) (IsFineSource functions All) (Violates All (host_names c.args.hosts.now)) (λ bytes. after_short_log (Resumes functions c.args.options bytes)) read.0 now read.1
    (c.in_ok-accepted.accepted.typed.file, read.2) c.fetch_accepted.ensures.same (no_fall before now file c.fetch_accepted.ensures.only c.fetch_accepted.ensures.rises) c.resume_on-ending.result (c.resume_on-ending.ensures.answers read.0 read.2)

pub returns-clause-only : goal.returns-clause-only
returns-clause-only g c =
    let before = g.F.Shelf.state c.args.shelf.now in
    let now = g.F.Shelf.state c.fetch_accepted.new.shelf in
    let after = g.F.Shelf.state c.resume_on-ending.new.shelf in
    touches_both before now after c.args.files.0.now c.args.files.1.now c.fetch_accepted.ensures.only c.resume_on-ending.ensures.only
