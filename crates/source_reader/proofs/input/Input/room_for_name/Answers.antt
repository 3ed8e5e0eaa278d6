use Rattle.source_grammar.proofs.Terminals.{fails_if, room_left, none_comes}
use Rattle.source_reader.proofs.input.Input.room_for_name.Goals as goal
use Rattle.source_reader.proofs.input.Input.room_for_name.Goals.{else-count-limit-via-then-count-limit+else-has_name, else-count-limit-via-else-count-limit}

pub returns-clause-room : goal.returns-clause-room
returns-clause-room c = elim c.else-count-limit.branch [
  | else-count-limit-via-then-count-limit+else-has_name w ↦ none_comes (fails_if w.has_name.ensures w.if-has_name.false)
  | else-count-limit-via-else-count-limit w ↦ room_left c.args.limit c.args.count w.if-count-limit.false
]
