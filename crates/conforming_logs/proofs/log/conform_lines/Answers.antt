use Rattle.std.proofs.Common.{arith}
use Rattle.transcript.specs.Books.{words}
use Rattle.conforming_logs.proofs.Judged.{count_few, judged_so}
use Rattle.conforming_logs.proofs.log.conform_lines.Goals as goal

pub judge-requires : goal.judge-requires
judge-requires c =
    let few = count_few (words c.args.book.now) c.args.file.now c.args.bytes.now c.in_ok-replayed.rest.now c.in_ok-replayed.replayed c.in_ok-replayed.ensures c.requires.few in
    omega (arith, few)

pub returns : goal.returns
returns c = judged_so (words c.args.book.now) c.args.file.now c.args.bytes.now c.in_ok-replayed.rest.now c.in_ok-replayed.replayed c.in_ok-replayed.ensures c.judge.result c.judge.ensures
