use Rattle.local_types.proofs.Numbers.{carried_over}
use Rattle.local_types.proofs.laws.only_numbers_are_free.Goals as goal

pub returns : goal.returns
returns c = λ ss r ts us h g. (carried_over ss r ts us h g, carried_over ss r us ts g h)
