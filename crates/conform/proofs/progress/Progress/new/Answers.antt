use Rattle.conform.proofs.Starts.{none_yet}
use Rattle.conform.proofs.progress.Progress.new.Goals as goal

pub returns : goal.returns
returns c = none_yet c.args.file.now _ c.in_ok-all_types.ensures c.new.ensures.items c.new-2.ensures
