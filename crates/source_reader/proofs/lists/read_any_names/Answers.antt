use Rattle.source_grammar.proofs.Terminals.{holds_if, fails_if}
use Rattle.source_reader.proofs.Readers.{some_names_lead, no_names_read, hands_on, hands_back}
use Rattle.source_reader.proofs.lists.read_any_names.Goals as goal

pub returns-then-has_name-clause-reads : goal.returns-then-has_name-clause-reads
returns-then-has_name-clause-reads c = hands_on c.read_names.result c.args.input.now.tokens.now.items (some_names_lead c.args.limit (holds_if c.has_name.ensures c.if-has_name.true)) c.read_names.ensures.reads

pub returns-then-has_name-clause-halts : goal.returns-then-has_name-clause-halts
returns-then-has_name-clause-halts c = hands_back c.read_names.result (some_names_lead c.args.limit (holds_if c.has_name.ensures c.if-has_name.true)) c.read_names.ensures.halts

pub returns-else-has_name-clause-reads : goal.returns-else-has_name-clause-reads
returns-else-has_name-clause-reads c = rw c.new.ensures (no_names_read _ (fails_if c.has_name.ensures c.if-has_name.false))
