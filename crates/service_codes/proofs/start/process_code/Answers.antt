use Rattle.std.proofs.Common.{subst}
use Rattle.chor_tree.specs.Source.{body_of}
use Rattle.block_codes.specs.Walks.{StopsAt}
use Rattle.block_codes.specs.Alone.{sites_of}
use Rattle.service_codes.proofs.Codes.{one_code, no_clash_there}
use Rattle.service_codes.proofs.start.process_code.Goals as goal

pub unreachable-requires : goal.unreachable-requires
unreachable-requires c =
    let sites = sites_of c.args.process (body_of c.args.file.now c.args.node) in
    no_clash_there c.args.file.now sites c.in-Err-Clash.field-0-0 c.in-Err-Clash.field-0-1 (subst (StopsAt c.args.file.now sites) c.in-Err-Clash.field-0-is c.in-Err-Clash.ensures.stopped) c.requires.clean

pub returns-in-Ok : goal.returns-in-Ok
returns-in-Ok c = one_code c.in-Ok.ensures.code
