use Rattle.accepted_replays.proofs.Books.{read_words}
use Rattle.accepted_replays.proofs.laws.names_are_words.Goals as goal

pub returns : goal.returns
returns c bytes f read = read_words bytes f read
