use Rattle.endpoint_reader.proofs.Spelled.{spelled}
use Rattle.endpoint_reader.proofs.laws.tokens_are_lexemes.Goals as goal

pub returns : goal.returns
returns c i ls h = spelled i i.tokens.now.items ls h
