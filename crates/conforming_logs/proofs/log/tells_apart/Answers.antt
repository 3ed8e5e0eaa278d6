use Rattle.conforming_logs.proofs.Judgeable.{fit, book_kept}
use Rattle.conforming_logs.proofs.log.tells_apart.Goals as goal

pub returns-clause-book : goal.returns-clause-book
returns-clause-book c = book_kept c.args.file.now (fit c.args.file.now c.requires.source) c.requires.words c.len-names.ensures.distinct c.len-texts.ensures.distinct

pub returns-clause-fit : goal.returns-clause-fit
returns-clause-fit c = fit c.args.file.now c.requires.source
