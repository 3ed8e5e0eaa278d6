use Rattle.block_codes.proofs.Parts.{call_pushed}
use Rattle.block_codes.proofs.last.put_call.Goals as goal

pub returns-in-Some : goal.returns-in-Some
returns-in-Some c =
    let g = c.args.tail.now.spot.node.now.form in
    call_pushed c.args.tail.now.spot.file.now.procs g _ _ c.args.process c.in-Some.node c.in_ok-call_node.field-0 c.push.result c.in_ok-call_node.ensures c.in-Some.is c.push.ensures.ok
