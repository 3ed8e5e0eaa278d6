use Rattle.std.proofs.Common.{ℕ, List, sym, subst}
use Rattle.endpoint_check.specs.Programs.{ViolatesPrograms, IsDenialOfPrograms}
use Rattle.chor_cmd.specs.Endings.{host_names}
use Rattle.chor_cmd.specs.Rows.{programs_limit}
use Rattle.chor_cmd.specs.Stops.{HasFetched, IsUnread, stop_of}
use Rattle.chor_cmd.proofs.Exits.{err_is, denied_so}
use Rattle.chor_cmd.proofs.sources.fetch_programs.Goals as goal

pub returns-in_err-programs-clause-unread : goal.returns-in_err-programs-clause-unread
returns-in_err-programs-clause-unread g c =
    let before = g.F.Shelf.state c.args.shelf.now in
    let after = g.F.Shelf.state c.fetch_bytes.new.shelf in
    let hosts = host_names c.args.hosts.now in
    let name = c.args.name.now in
    let denied = c.in_err-programs.field-0.0 in
    let bytes = c.as_slice.result.now in
    let read = subst (λ (b : List ℕ). HasFetched programs_limit before name b) (sym c.as_slice.ensures.value) c.in_ok-bytes.ensures.bytes in
    err_is (IsUnread programs_limit (ViolatesPrograms hosts) before after name) c.from_residual-in_err-programs.result (stop_of denied) c.from_residual-in_err-programs.ensures.1
    (denied_so programs_limit before after name (ViolatesPrograms hosts) bytes read denied (λ r e. subst (IsDenialOfPrograms hosts bytes) e c.in_err-programs.ensures.denied))
