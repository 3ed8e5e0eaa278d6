use Rattle.endpoint_laws.proofs.Cutting.{has_symbols, says_them, is_taken}
use Rattle.endpoint_laws.proofs.tokens.text_has_symbols.Goals as goal

pub returns-clause-some : goal.returns-clause-some
returns-clause-some c = has_symbols

pub returns-clause-all : goal.returns-clause-all
returns-clause-all c = says_them

pub returns-clause-taken : goal.returns-clause-taken
returns-clause-taken c = is_taken
