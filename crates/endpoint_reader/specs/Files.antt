-- Endpoint files, as they are written.
use Rattle.std.specs.Prelude.{map}
use Rattle.endpoint_grammar.specs.Written.{Units}
use Rattle.endpoint_reader.specs.declared.input.Input.{Input}
use Rattle.endpoint_reader.specs.declared.written.Written.{Written}
use Rattle.endpoint_reader.specs.Units.{channel_unit, procedure_unit, service_unit, process_unit}

-- The units, where words and texts have these numbers
abbrev pub units_written : Input → Written → Units
units_written i w = record {
  channels = map (channel_unit i) w.channels;
  procedures = map (procedure_unit i w.lines.items) w.procedures;
  services = map (service_unit i w.lines.items) w.services;
  processes = map (process_unit i w.lines.items) w.processes;
}
