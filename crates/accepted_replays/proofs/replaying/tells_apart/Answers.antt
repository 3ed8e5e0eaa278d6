use Rattle.std.proofs.Common.{subst}
use Rattle.chor_base.specs.Words.{AllDistinct}
use Rattle.chor_tree.specs.declared.file.File.{File}
use Rattle.accepted_replays.proofs.Books.{book_kept}
use Rattle.accepted_replays.proofs.replaying.tells_apart.Goals as goal

pub returns : goal.returns
returns c =
    let typed = c.args.typed.now in
    let names = subst (λ (f : File). AllDistinct f.names) c.file-file.ensures.file c.len-names.ensures.distinct in
    let texts = subst (λ (f : File). AllDistinct f.texts) c.file-file.ensures.file c.len-texts.ensures.distinct in
    book_kept typed.hosts typed.file typed.fine c.requires names texts
