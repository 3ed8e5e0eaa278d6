use Rattle.std.proofs.Common.{ℕ, List, sym, subst}
use Rattle.source_check.specs.Source.{IsDenialOfTokens}
use Rattle.chor_cmd.specs.Rows.{source_limit}
use Rattle.chor_cmd.specs.Stops.{HasFetched, IsNoText, IsUnread, stop_of}
use Rattle.chor_cmd.proofs.Exits.{err_is, denied_so}
use Rattle.chor_cmd.proofs.sources.fetch_source.Goals as goal

pub returns-in_err-file-clause-unread : goal.returns-in_err-file-clause-unread
returns-in_err-file-clause-unread g c =
    let before = g.F.Shelf.state c.args.shelf.now in
    let after = g.F.Shelf.state c.fetch_bytes.new.shelf in
    let name = c.args.name.now in
    let denied = c.in_err-file.field-0.0 in
    let bytes = c.as_slice.result.now in
    let read = subst (λ (b : List ℕ). HasFetched source_limit before name b) (sym c.as_slice.ensures.value) c.in_ok-bytes.ensures.bytes in
    err_is (IsUnread source_limit IsNoText before after name) c.from_residual-in_err-file.result (stop_of denied) c.from_residual-in_err-file.ensures.1
    (denied_so source_limit before after name IsNoText bytes read denied (λ r e. subst (IsDenialOfTokens bytes) e c.in_err-file.ensures.denied))
