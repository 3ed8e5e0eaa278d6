-- Endpoint programs as they are written (this project's own).
use Rattle.std.specs.Prelude.{ℕ, ◌≡◌, true, List, map, All}
use Rattle.endpoint_reader.specs.declared.written.Channel.{Channel}
use Rattle.endpoint_reader.specs.declared.written.Procedure.{Procedure}
use Rattle.endpoint_reader.specs.declared.written.Service.{Service}
use Rattle.endpoint_reader.specs.declared.written.Process.{Process}
use Rattle.endpoint_reader.specs.declared.written.Written.{Written}
use Rattle.endpoint_code.specs.declared.endpoints.Channel.{Channel as CodeChannel}
use Rattle.endpoint_code.specs.declared.endpoints.Procedure.{Procedure as CodeProcedure}
use Rattle.endpoint_code.specs.declared.endpoints.ServiceCode.{ServiceCode}
use Rattle.endpoint_code.specs.declared.endpoints.Process.{Process as CodeProcess}
use Rattle.endpoint_code.specs.declared.endpoints.Endpoints.{Endpoints}
use Rattle.endpoint_code.specs.Kept.{has_name, has_text, channel_there, procedure_there, service_there}
use Rattle.endpoint_code.specs.Trees.{trees_of}
use Rattle.endpoint_names.specs.Bodies.{bodies_of}
use Rattle.endpoint_names.specs.Faults.{names_in}
use Rattle.endpoint_making.specs.Codes.{code_id, code_of, line_there}

-- the channel that is made of one that was read
abbrev pub channel_made : Channel → CodeChannel
channel_made c = record { name = c.name.name; active = names_in c.roles.active; serve = names_in c.roles.serve }

-- the procedure that is made of one that was read
abbrev pub procedure_made : Procedure → CodeProcedure
procedure_made p = record { name = p.signature.name.name; param = p.signature.param.name; sessions = names_in p.signature.sessions; body = code_id p.body }

-- the service's code that is made of one that was read
abbrev pub service_made : Service → ServiceCode
service_made s = record { channel = s.channel.name; role = s.role.name; body = code_id s.body }

-- the process that is made of one that was read
abbrev pub process_made : Process → CodeProcess
process_made p = record { name = p.name.name; body = code_id p.body }

-- Each number of a name or a text that is written is in its table, and no endpoint is written as a literal
pub record AreNumbered (names texts : List (List ℕ)) (w : Written) : Type 0 where
  pub channels : All (λ c. channel_there (has_name names) (channel_made c) ≡ true) w.channels
  pub procedures : All (λ p. procedure_there (has_name names) (procedure_made p) ≡ true) w.procedures
  pub services : All (λ s. service_there (has_name names) (service_made s) ≡ true) w.services
  pub processes : All (λ p. has_name names p.name.name ≡ true) w.processes
  pub lines : All (λ l. line_there (has_name names) (has_text texts) l ≡ true) w.lines.items

-- The endpoint programs are those that are written, with these tables of names and texts: unit by unit, and the code at each
-- number is the body that begins there
pub record IsMadeOf (w : Written) (names texts : List (List ℕ)) (e : Endpoints) : Type 0 where
  pub names_are : e.names ≡ names
  pub texts_are : e.texts ≡ texts
  pub channels : e.channels ≡ map channel_made w.channels
  pub procedures : e.procedures ≡ map procedure_made w.procedures
  pub services : e.services ≡ map service_made w.services
  pub processes : e.processes ≡ map process_made w.processes
  pub code : trees_of e.code.nodes ≡ map code_of (bodies_of w.lines.items)
