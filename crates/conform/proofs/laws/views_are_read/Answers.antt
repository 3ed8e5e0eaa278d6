use Rattle.conform.proofs.Read.{follows_read, ends_read}
use Rattle.conform.proofs.laws.views_are_read.Goals as goal

pub returns-clause-follows : goal.returns-clause-follows
returns-clause-follows c ss r ts is done = follows_read ss r ts is done

pub returns-clause-ends : goal.returns-clause-ends
returns-clause-ends c ss r ts is done = ends_read ss r ts is done
