use Rattle.endpoint_reader.proofs.Spelled.{spelled_there}
use Rattle.endpoint_reader.proofs.laws.tokens_are_known.Goals as goal

pub returns : goal.returns
returns c names texts ts ls h = spelled_there names texts ts ls h
