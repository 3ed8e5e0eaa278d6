use Rattle.typing_steps.proofs.SortMaps.{put_one}
use Rattle.typing_steps.proofs.sorts.SortMap.put.Goals as goal

pub returns : goal.returns
returns c = put_one c.args.self.now.processes.entries c.insert.new.self.entries c.args.process c.args.env (c.in_ok-insert.ensures.updates.0)
