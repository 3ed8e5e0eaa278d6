use Rattle.std.proofs.Common.{length}
use Rattle.std.specs.Prelude.{◌↔◌}
use Rattle.command_words.specs.declared.options.Options.{Options}
use Rattle.command_words.specs.Options.{AreOptions, AreBounded}
use Rattle.command_words.proofs.OptionWords.{Completes}
use Rattle.command_words.proofs.settings.options_of.Given as goal

-- what is left completes what was set so far, which is within bounds
abbrev pub invariant-loop-rest : goal.invariant-loop-rest
invariant-loop-rest l = ((options : Options) → AreOptions l.command l.words options ↔ Completes l.command l.settings l.rest options) × AreBounded l.settings

abbrev pub decreases-loop-rest : goal.decreases-loop-rest
decreases-loop-rest l = length l.rest
