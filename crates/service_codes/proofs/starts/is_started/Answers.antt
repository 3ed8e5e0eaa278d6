use Rattle.std.proofs.Common.{◌∙◌, sym}
use Rattle.service_codes.specs.declared.starts.StartNode.{StartNode}
use Rattle.service_codes.proofs.Standing.{some_started}
use Rattle.service_codes.proofs.starts.is_started.Goals as goal

abbrev none : StartNode
none = record { channel = record { 0 = 0 }; node = record { 0 = 0 } }

pub returns-then-eq : goal.returns-then-eq
returns-then-eq c =
    some_started c.args.started.now.file.now c.args.channel c.args.started.now.starts.now c.requires c.loop-start.start-index none c.loop-start-test.true (sym c.eq.ensures ∙ c.if-eq.true)
