use Rattle.conform.proofs.Starts.{open_within}
use Rattle.conform.proofs.progress.Progress.start.Goals as goal

pub at-requires : goal.at-requires
at-requires c = open_within c.args.file.now c.args.self.now c.args.channel c.args.sid c.args.parts.now c.in-Some.place c.in-Some.ensures
