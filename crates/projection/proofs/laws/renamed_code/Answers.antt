use Rattle.projection.proofs.Renamed.{code_renamed}
use Rattle.projection.proofs.Exchanged.{start_code}
use Rattle.projection.proofs.laws.renamed_code.Goals as goal

pub returns-clause-renamed : goal.returns-clause-renamed
returns-clause-renamed c f g u procs r d q h = code_renamed f g u.there u.back procs r h

pub returns-clause-start : goal.returns-clause-start
returns-clause-start c procs k a r d q u h = start_code procs k a r d q u h
