-- What is known after a start.
use Rattle.chor_tree.specs.declared.file.File.{File}
use Rattle.typing_rules.specs.After.{with_session}
use Rattle.typing_rules.specs.Environment.{Environment}
use Rattle.typing_steps.specs.declared.starts.Start.{Start}

abbrev pub with_start : File → Environment → Start → Environment
with_start f e s = with_session f e s.channel s.session s.active.now s.serve.now
