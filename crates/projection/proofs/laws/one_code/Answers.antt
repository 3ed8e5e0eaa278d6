use Rattle.projection.proofs.OneCode.{code_distinct, code_above}
use Rattle.endpoint_code.proofs.AboveOrder.{above_antisym}
use Rattle.projection.proofs.laws.one_code.Goals as goal

pub returns-clause-unique : goal.returns-clause-unique
returns-clause-unique t procs r c q p h g =
    above_antisym q (code_distinct procs r h) (code_distinct procs r g) (code_above procs r c q p h g) (code_above procs r c p q g h)

pub returns-clause-distinct : goal.returns-clause-distinct
returns-clause-distinct t procs r c q h = code_distinct procs r h
