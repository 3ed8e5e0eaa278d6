use Rattle.std.proofs.Common.{sym}
use Rattle.chor_host.specs.Tables.{functions_of}
use Rattle.chor_host.proofs.Named.{named_at}
use Rattle.endpoint_names.proofs.functions.has_function.Goals as goal

pub returns-in-Some : goal.returns-in-Some
returns-in-Some g c = sym (named_at (functions_of c.args.hosts.now) c.args.word.now _ c.in-Some.ensures.found)
