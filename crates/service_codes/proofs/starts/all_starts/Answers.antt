use Rattle.std.proofs.Common.{List, [], subst, sym}
use Rattle.service_codes.specs.declared.starts.StartNode.{StartNode}
use Rattle.service_codes.specs.Starts.{nodes_of, AddsStarts}
use Rattle.service_codes.proofs.Standing.{main_stands, proc_stands, adds_none, procs_more, starts_all}
use Rattle.service_codes.proofs.starts.all_starts.Goals as goal

pub loop-proc-init : goal.loop-proc-init
loop-proc-init c a = subst (λ (l : List StartNode). AddsStarts c.args.file.now a [] [] (nodes_of a l)) (sym c.new-starts.ensures) (adds_none c.args.file.now a [])

pub put_starts-requires : goal.put_starts-requires
put_starts-requires c = proc_stands c.args.file.now c.as_slice-proc-items.result.now c.loop-proc.proc-index c.proc-item.result c.as_slice-proc-items.ensures c.loop-proc-test.true c.proc-item.is

pub loop-proc-preserved : goal.loop-proc-preserved
loop-proc-preserved c a =
    procs_more c.args.file.now a c.as_slice-proc-items.result.now c.loop-proc.proc-index c.proc-item.result c.loop-proc-test.true c.proc-item.is (c.loop-proc.invariant a) (c.in_ok-put_starts.ensures.of a)

pub put_starts-requires-2 : goal.put_starts-requires-2
put_starts-requires-2 c = main_stands c.args.file.now

pub returns : goal.returns
returns c = record {
  of = λ a. starts_all c.args.file.now a c.as_slice-proc-items.result.now c.loop-proc.proc-index c.as_slice-proc-items.ensures c.loop-proc-test.false (c.loop-proc.invariant a) (c.in_ok-put_starts-2.ensures.of a);
}
