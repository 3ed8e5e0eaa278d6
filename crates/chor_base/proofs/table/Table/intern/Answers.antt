use Rattle.std.proofs.Common.{arith, sym}
use Rattle.std.proofs.lemmas.Grind.{elements}
use Rattle.chor_base.proofs.WordTables.{put_present}
use Rattle.chor_base.proofs.table.Table.intern.Goals as goal

pub returns-in-Some-clause-ok : goal.returns-in-Some-clause-ok
returns-in-Some-clause-ok c = sym (put_present c.args.self.now c.args.word.now c.in-Some.number c.in-Some.ensures.found)

pub returns-clause-number : goal.returns-clause-number
returns-clause-number c = grind (arith, elements)
