use Rattle.std.proofs.Common.{rules, tests}
use Rattle.std.proofs.lemmas.Iterator.{cases_from_all, YieldsList-from_slice}
use Rattle.command_words.specs.Words.{IsFileWord}
use Rattle.command_words.proofs.Forms.{all_told}
use Rattle.command_words.proofs.words.are_file_words.Goals as goal

pub returns : goal.returns
returns c =
    all_told c.all.result c.args.words.now
    (cases_from_all _ _ c.all.result IsFileWord (λ w. IsFileWord w → ⊥) c.all.ensures.ran (YieldsList-from_slice c.args.words.now (cc)) (λ x q k. search (rules, tests)) (λ x q k. search (rules, tests)))
