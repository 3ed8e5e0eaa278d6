use Rattle.std.proofs.Common.{◌∙◌, sym}
use Rattle.net_core.proofs.Runs.{some_waiting, first_within, first_waits}
use Rattle.net_core.proofs.network.Network.stuck.Goals as goal

pub unreachable-requires : goal.unreachable-requires
unreachable-requires c = let v = c.args.self.now in some_waiting v.endpoints v.capacity v.state 0 v.state.machines c.requires.unended c.in_default.ensures

pub head-requires : goal.head-requires
head-requires c = let v = c.args.self.now in first_within v.endpoints v.capacity v.state c.in-Some.pid _ c.in-Some.ensures

pub waiting-requires-clause-there : goal.waiting-requires-clause-there
waiting-requires-clause-there c = let v = c.args.self.now in first_within v.endpoints v.capacity v.state c.in-Some.pid _ c.in-Some.ensures

pub unreachable-requires-in_default-waiting : goal.unreachable-requires-in_default-waiting
unreachable-requires-in_default-waiting c = let v = c.args.self.now in first_waits v.endpoints v.capacity v.state c.in-Some.pid _ c.in-Some.ensures c.requires.none (sym c.waiting.ensures ∙ c.in_default-waiting.is)
