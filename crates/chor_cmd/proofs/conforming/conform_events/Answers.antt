use Rattle.std.proofs.Common.{[], ◌∷◌}
use Rattle.chor_host.specs.Tables.{functions_of}
use Rattle.source_check.specs.declared.rules.Rules.TheVariants.{Views}
use Rattle.source_check.specs.Source.{Violates}
use Rattle.chor_cmd.specs.Endings.{host_names}
use Rattle.chor_cmd.specs.Rows.{IsFineSource, Conforms, source_limit, after_events}
use Rattle.chor_cmd.proofs.Exits.{source_stops, goes_on}
use Rattle.chor_cmd.proofs.Fetched.{no_fall, touches_both}
use Rattle.chor_cmd.proofs.conforming.conform_events.Goals as goal

pub returns-in_err-source-clause-answers : goal.returns-in_err-source-clause-answers
returns-in_err-source-clause-answers g c =
    let functions = functions_of c.args.hosts.now in
    let before = g.F.Shelf.state c.args.shelf.now in
    let now = g.F.Shelf.state c.fetch_viewed.new.shelf in
    source_stops functions before now c.args.file.now Views (λ bytes. after_events (Conforms functions bytes)) (c.args.events.now ∷ []) c.from_residual.result c.in_err-source.field-0.0 c.from_residual.ensures.1 c.in_err-source.ensures.unread

pub returns-clause-answers : goal.returns-clause-answers
returns-clause-answers g c =
    let functions = functions_of c.args.hosts.now in
    let before = g.F.Shelf.state c.args.shelf.now in
    let now = g.F.Shelf.state c.fetch_viewed.new.shelf in
    let after = g.F.Shelf.state c.conform_on-ending.new.shelf in
    let file = c.args.file.now in
    let fetched = c.in_ok-source.ensures in
    let read = fetched.viewed in
    goes_on source_limit before after file (c.args.events.now ∷ []) (IsFineSource functions Views) (Violates Views (host_names c.args.hosts.now)) (λ bytes. after_events (Conforms functions bytes)) read.0 now read.1
    (c.in_ok-source.source, read.2) c.fetch_viewed.ensures.same (no_fall before now file c.fetch_viewed.ensures.only c.fetch_viewed.ensures.rises) c.conform_on-ending.result (c.conform_on-ending.ensures.answers functions read.0 read.2)

pub returns-clause-only : goal.returns-clause-only
returns-clause-only g c =
    let before = g.F.Shelf.state c.args.shelf.now in
    let now = g.F.Shelf.state c.fetch_viewed.new.shelf in
    let after = g.F.Shelf.state c.conform_on-ending.new.shelf in
    touches_both before now after c.args.file.now c.args.events.now c.fetch_viewed.ensures.only c.conform_on-ending.ensures.only
