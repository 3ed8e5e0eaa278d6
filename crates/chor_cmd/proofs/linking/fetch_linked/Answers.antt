use Rattle.std.proofs.Common.{List, [], ◌∷◌, ℕ, sym, subst}
use Rattle.chor_host.specs.Functions.{names_of}
use Rattle.chor_host.specs.Tables.{functions_of}
use Rattle.command_words.specs.declared.options.Options.{Options}
use Rattle.command_words.specs.declared.words.Command.TheVariants.{Link}
use Rattle.endpoint_code.specs.Faults.{IsFaultlessWith}
use Rattle.endpoint_laws.proofs.Read.{read_is_faultless}
use Rattle.chor_cmd.specs.declared.ending.Stop.{Stop}
use Rattle.chor_cmd.specs.declared.ending.Stop.TheVariants.{Memory}
use Rattle.chor_cmd.specs.Rows.{row_of}
use Rattle.chor_cmd.specs.Stops.{IsStop}
use Rattle.chor_cmd.proofs.Exits.{err_is}
use Rattle.chor_cmd.proofs.Fetched.{no_fall, touches_both}
use Rattle.chor_cmd.proofs.LinkedFiles.{has_linked, units_stop, source_stop}
use Rattle.chor_cmd.proofs.linking.fetch_linked.Goals as goal

pub returns-in_err-accepted-clause-stops : goal.returns-in_err-accepted-clause-stops
returns-in_err-accepted-clause-stops g c =
    let functions = functions_of c.args.hosts.now in
    let before = g.F.Shelf.state c.args.shelf.now in
    let after = g.F.Shelf.state c.fetch_accepted.new.shelf in
    let stop = c.in_err-accepted.field-0.0 in
    err_is (λ (s : Stop). (options : Options) → IsStop (row_of functions (Link options)) (c.args.file.now ∷ c.args.programs.now ∷ []) before after s) c.from_residual.result stop c.from_residual.ensures.1
    (source_stop functions before c.args.file.now c.args.programs.now after stop c.in_err-accepted.ensures.unread)

pub linking_of-linking-requires : goal.linking_of-linking-requires
linking_of-linking-requires g c =
    let read = c.in-Ok.ensures.programs in
    subst (λ (ws : List (List ℕ)). IsFaultlessWith ws c.in-Ok.given) (sym c.in_ok-accepted.ensures.hosts) (read_is_faultless (names_of (functions_of c.args.hosts.now)) read.0 c.in-Ok.given read.2)

pub returns-in_ok-linking-in-Ok-clause-linked : goal.returns-in_ok-linking-in-Ok-clause-linked
returns-in_ok-linking-in-Ok-clause-linked g c =
    let before = g.F.Shelf.state c.args.shelf.now in
    let now = g.F.Shelf.state c.fetch_accepted.new.shelf in
    let fetched = c.in_ok-accepted.ensures in
    let linking = c.in_ok-linking-in-Ok in
    has_linked (functions_of c.args.hosts.now) before c.args.file.now c.args.programs.now c.in_ok-accepted.accepted now fetched.accepted c.fetch_accepted.ensures.same
    c.in-Ok.given linking.linking fetched.hosts fetched.projects c.in-Ok.ensures.programs linking.ensures

pub returns-in_ok-linking-in-Ok-clause-only : goal.returns-in_ok-linking-in-Ok-clause-only
returns-in_ok-linking-in-Ok-clause-only g c =
    let before = g.F.Shelf.state c.args.shelf.now in
    let now = g.F.Shelf.state c.fetch_accepted.new.shelf in
    let after = g.F.Shelf.state c.fetch_programs.new.shelf in
    touches_both before now after c.args.file.now c.args.programs.now c.fetch_accepted.ensures.only c.fetch_programs.ensures.only

pub returns-in_err-linking-in-Ok-clause-stops : goal.returns-in_err-linking-in-Ok-clause-stops
returns-in_err-linking-in-Ok-clause-stops g c =
    let functions = functions_of c.args.hosts.now in
    let before = g.F.Shelf.state c.args.shelf.now in
    let after = g.F.Shelf.state c.fetch_programs.new.shelf in
    err_is (λ (s : Stop). (options : Options) → IsStop (row_of functions (Link options)) (c.args.file.now ∷ c.args.programs.now ∷ []) before after s) c.from_residual-in_err-linking-in-Ok.result Memory
    c.from_residual-in_err-linking-in-Ok.ensures.1 (λ options. tt)

pub returns-in_err-linking-in-Ok-clause-only : goal.returns-in_err-linking-in-Ok-clause-only
returns-in_err-linking-in-Ok-clause-only g c =
    let before = g.F.Shelf.state c.args.shelf.now in
    let now = g.F.Shelf.state c.fetch_accepted.new.shelf in
    let after = g.F.Shelf.state c.fetch_programs.new.shelf in
    touches_both before now after c.args.file.now c.args.programs.now c.fetch_accepted.ensures.only c.fetch_programs.ensures.only

pub returns-in-Err-clause-stops : goal.returns-in-Err-clause-stops
returns-in-Err-clause-stops g c =
    let before = g.F.Shelf.state c.args.shelf.now in
    let now = g.F.Shelf.state c.fetch_accepted.new.shelf in
    let after = g.F.Shelf.state c.fetch_programs.new.shelf in
    let name = c.args.file.now in
    units_stop (functions_of c.args.hosts.now) before name c.args.programs.now c.in_ok-accepted.accepted now c.in_ok-accepted.ensures.accepted c.fetch_accepted.ensures.same
    after (no_fall before now name c.fetch_accepted.ensures.only c.fetch_accepted.ensures.rises) c.in-Err.stop c.in-Err.ensures.unread

pub returns-in-Err-clause-only : goal.returns-in-Err-clause-only
returns-in-Err-clause-only g c =
    let before = g.F.Shelf.state c.args.shelf.now in
    let now = g.F.Shelf.state c.fetch_accepted.new.shelf in
    let after = g.F.Shelf.state c.fetch_programs.new.shelf in
    touches_both before now after c.args.file.now c.args.programs.now c.fetch_accepted.ensures.only c.fetch_programs.ensures.only
