use Rattle.event_reader.proofs.Spellings.{one_spelling}
use Rattle.event_reader.proofs.laws.one_spelling.Goals as goal

pub returns : goal.returns
returns c = λ w book i j e f. one_spelling w i j e f book
