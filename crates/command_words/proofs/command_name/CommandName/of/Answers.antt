use Rattle.std.proofs.Common.{rules, tests, ◌≡◌, ◌≢◌}
use Rattle.std.proofs.lemmas.Iterator.{first_from_find, YieldsList-from_slice}
use Rattle.std.proofs.lemmas.Iterator.Consumers.{YieldsList-from_copied}
use Rattle.command_words.specs.Tables.{command_word}
use Rattle.command_words.proofs.Names.{all_commands, is_reading}
use Rattle.command_words.proofs.command_name.CommandName.of.Goals as goal

pub returns : goal.returns
returns c =
    is_reading c.args.word.now c.find.result
    (first_from_find _ _ c.find.result (λ n. c.args.word.now ≡ command_word n) (λ n. c.args.word.now ≢ command_word n) c.find.ensures.ran (YieldsList-from_copied (YieldsList-from_slice all_commands (cc)))
    (λ x q k. search (rules, tests)) (λ x q k. search (rules, tests)))
