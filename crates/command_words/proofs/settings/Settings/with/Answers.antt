use Rattle.std.proofs.Common.{subst}
use Rattle.command_words.specs.declared.option_name.OptionName.TheVariants.{Seed, Steps, Workers, Capacity}
use Rattle.command_words.specs.declared.option_name.OptionName.{OptionName}
use Rattle.command_words.specs.Tables.{least_of, most_of}
use Rattle.command_words.specs.Options.{IsBetween}
use Rattle.command_words.proofs.OptionWords.{is_among, seed_bounded, steps_bounded, workers_bounded, capacity_bounded}
use Rattle.command_words.proofs.settings.Settings.with.Goals as goal

pub returns-in_default-clause-added : goal.returns-in_default-clause-added
returns-in_default-clause-added c = is_among c.args.self c.args.setting.name Seed c.in-Seed.is c.if-is_none.ensures

pub returns-in_default-2-clause-added : goal.returns-in_default-2-clause-added
returns-in_default-2-clause-added c = is_among c.args.self c.args.setting.name Steps c.in-Steps.is c.if-is_none-2.ensures

pub returns-in_default-3-clause-added : goal.returns-in_default-3-clause-added
returns-in_default-3-clause-added c = is_among c.args.self c.args.setting.name Workers c.in-Workers.is c.if-is_none-3.ensures

pub returns-in_default-4-clause-added : goal.returns-in_default-4-clause-added
returns-in_default-4-clause-added c = is_among c.args.self c.args.setting.name Capacity c.in-Capacity.is c.if-is_none-4.ensures

pub returns-in-Seed-clause-bounded : goal.returns-in-Seed-clause-bounded
returns-in-Seed-clause-bounded c = seed_bounded c.args.self c.args.setting.number (subst (λ (name : OptionName). IsBetween (least_of name) (most_of name) c.args.setting.number) c.in-Seed.is c.requires)

pub returns-in-Steps-clause-bounded : goal.returns-in-Steps-clause-bounded
returns-in-Steps-clause-bounded c = steps_bounded c.args.self c.args.setting.number (subst (λ (name : OptionName). IsBetween (least_of name) (most_of name) c.args.setting.number) c.in-Steps.is c.requires)

pub returns-in-Workers-clause-bounded : goal.returns-in-Workers-clause-bounded
returns-in-Workers-clause-bounded c = workers_bounded c.args.self c.args.setting.number (subst (λ (name : OptionName). IsBetween (least_of name) (most_of name) c.args.setting.number) c.in-Workers.is c.requires)

pub returns-in-Capacity-clause-bounded : goal.returns-in-Capacity-clause-bounded
returns-in-Capacity-clause-bounded c = capacity_bounded c.args.self c.args.setting.number (subst (λ (name : OptionName). IsBetween (least_of name) (most_of name) c.args.setting.number) c.in-Capacity.is c.requires)
