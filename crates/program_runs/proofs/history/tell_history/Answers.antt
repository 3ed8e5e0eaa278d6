use Rattle.transcript.specs.Books.{words}
use Rattle.program_runs.proofs.history.tell_history.Goals as goal

pub put-requires-clause-ready : goal.put-requires-clause-ready
put-requires-clause-ready c = c.in_ok-lines.ensures.ready (words c.args.book.now)
