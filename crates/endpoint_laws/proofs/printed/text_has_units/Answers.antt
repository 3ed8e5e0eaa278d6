use Rattle.endpoint_laws.proofs.PrintedUnits.{units_are_written, text_has_units, units_say_them, tokens_are_taken}
use Rattle.endpoint_laws.proofs.printed.text_has_units.Goals as goal

pub returns-clause-symbols : goal.returns-clause-symbols
returns-clause-symbols c = units_are_written

pub returns-clause-some : goal.returns-clause-some
returns-clause-some c = text_has_units

pub returns-clause-all : goal.returns-clause-all
returns-clause-all c = units_say_them

pub returns-clause-taken : goal.returns-clause-taken
returns-clause-taken c = tokens_are_taken
