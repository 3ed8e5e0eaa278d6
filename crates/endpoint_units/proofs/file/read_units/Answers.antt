use Rattle.std.proofs.Common.{arith}
use Rattle.grammar.proofs.Passing.{passes}
use Rattle.grammar.proofs.Progress.{token_shorter}
use Rattle.endpoint_units.proofs.Units.{units_begin, units_go, unit_halts, units_end, end_halts}
use Rattle.endpoint_units.proofs.Insides.{none_inside}
use Rattle.endpoint_units.proofs.Known.{parts_there}
use Rattle.endpoint_units.proofs.file.read_units.Goals as goal

pub units-init : goal.units-init
units-init c = record {
  goes = units_begin c.args.input.now c.new-parts.result c.new-parts.ensures.channels c.new-parts.ensures.procedures c.new-parts.ensures.services c.new-parts.ensures.processes;
  inside = none_inside c.new-parts.result c.new-parts.ensures.procedures c.new-parts.ensures.services c.new-parts.ensures.processes;
  known = parts_there c.args.input.now c.new-parts.result c.new-parts.ensures.lines c.new-parts.ensures.channels c.new-parts.ensures.procedures c.new-parts.ensures.services c.new-parts.ensures.processes;
}

pub returns-in_err-at-clause-halts : goal.returns-in_err-at-clause-halts
returns-in_err-at-clause-halts c = passes _ _ c.from_residual.ensures.1 (unit_halts _ c.units.invariant.goes c.in-Some.ensures.found c.in_err-at.ensures.halts)

pub units-preserved : goal.units-preserved
units-preserved c = record { goes = units_go _ c.units.invariant.goes c.in-Some.ensures.found c.in_ok-at.ensures.goes; inside = c.in_ok-at.ensures.inside; known = c.in_ok-at.ensures.known }

pub units-smaller : goal.units-smaller
units-smaller c = omega (arith, token_shorter c.in-Some.ensures.found, c.in_ok-at.ensures.further)

pub returns-in_err-take_end-clause-halts : goal.returns-in_err-take_end-clause-halts
returns-in_err-take_end-clause-halts c = passes _ _ c.from_residual-in_err-take_end.ensures.1 (end_halts c.units.invariant.goes c.in_default.ensures.none c.in_err-take_end.ensures.halts)

pub returns-clause-reads : goal.returns-clause-reads
returns-clause-reads c = units_end c.units.invariant.goes c.in_default.ensures.none c.in_ok-take_end.ensures.reads

pub returns-clause-known : goal.returns-clause-known
returns-clause-known c = c.units.invariant.known
