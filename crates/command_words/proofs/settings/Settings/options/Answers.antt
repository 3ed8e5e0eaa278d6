use Rattle.command_words.specs.declared.option_name.OptionName.TheVariants.{Capacity}
use Rattle.command_words.proofs.settings.Settings.options.Goals as goal

pub capacity_of-requires : goal.capacity_of-requires
capacity_of-requires c = c.requires Capacity
