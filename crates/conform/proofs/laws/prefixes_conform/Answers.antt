use Rattle.conform.proofs.Once.{front_conforms}
use Rattle.conform.proofs.laws.prefixes_conform.Goals as goal

pub returns : goal.returns
returns c f first rest h = front_conforms f first rest h
