-- Units of endpoint files, as they are written.
use Rattle.std.specs.Prelude.{◌<◌, List, length, All}
use Rattle.endpoint_grammar.specs.Written.{Channel as ChannelUnit, Procedure as ProcedureUnit, Service as ServiceUnit, Process as ProcessUnit}
use Rattle.endpoint_reader.specs.declared.input.Input.{Input}
use Rattle.endpoint_reader.specs.declared.lines.Line.{Line}
use Rattle.endpoint_reader.specs.declared.written.Channel.{Channel}
use Rattle.endpoint_reader.specs.declared.written.Procedure.{Procedure}
use Rattle.endpoint_reader.specs.declared.written.Service.{Service}
use Rattle.endpoint_reader.specs.declared.written.Process.{Process}
use Rattle.endpoint_reader.specs.Tokens.{named, all_named}
use Rattle.endpoint_reader.specs.Signatures.{roles_written}
use Rattle.endpoint_reader.specs.Lines.{body_at}

-- each body begins with a line of the table
pub record AreInside (ls : List Line) (ps : List Procedure) (ss : List Service) (qs : List Process) : Type 0 where
  pub procedures : All (λ p. p.body.0 < length ls) ps
  pub services : All (λ s. s.body.0 < length ls) ss
  pub processes : All (λ p. p.body.0 < length ls) qs

-- the channel that was read, as its tokens write it
abbrev pub channel_unit : Input → Channel → ChannelUnit
channel_unit i c = record { name = named i c.name; roles = roles_written i c.roles }

-- the procedure that was read, as its tokens write it
abbrev pub procedure_unit : Input → List Line → Procedure → ProcedureUnit
procedure_unit i ls p = record { name = named i p.signature.name; param = named i p.signature.param; sessions = all_named i p.signature.sessions; body = body_at i ls p.body }

-- the service that was read, as its tokens write it
abbrev pub service_unit : Input → List Line → Service → ServiceUnit
service_unit i ls s = record { channel = named i s.channel; role = named i s.role; body = body_at i ls s.body }

-- the process that was read, as its tokens write it
abbrev pub process_unit : Input → List Line → Process → ProcessUnit
process_unit i ls p = record { name = named i p.name; body = body_at i ls p.body }
