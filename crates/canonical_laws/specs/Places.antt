-- Sources without the places of what stands in them (this project's own).
use Rattle.std.specs.Prelude.{◌≡◌, map}
use Rattle.chor_base.specs.declared.value.Sort.{Sort}
use Rattle.chor_tree.specs.declared.header.Header.{Header}
use Rattle.chor_tree.specs.declared.file.Named.{Named}
use Rattle.chor_tree.specs.declared.file.Service.{Service}
use Rattle.chor_tree.specs.declared.file.ProcParam.{ProcParam}
use Rattle.chor_tree.specs.declared.file.SessionParam.{SessionParam}
use Rattle.chor_tree.specs.Protocols.{Protocol}
use Rattle.chor_tree.specs.declared.protocol.State.{State}
use Rattle.chor_tree.specs.declared.protocol.ProtoStep.{ProtoStep}
use Rattle.chor_tree.specs.declared.protocol.ProtoStep.TheVariants as step
use Rattle.chor_tree.specs.declared.protocol.ProtoArm.{ProtoArm}
use Rattle.chor_tree.specs.declared.protocol.Payload.{Payload}
use Rattle.chor_tree.specs.declared.protocol.Payload.TheVariants as payload
use Rattle.chor_tree.specs.declared.tree.Part.{Part}
use Rattle.chor_tree.specs.Source.{Statement, Starts, Sends, Selects, Gives, Sets, Asks, Shows, Block, Then, Either, Calls, Ends, Procedure, Items, Source, nowhere}

abbrev pub bare_header : Header → Header
bare_header h = record { version = h.version; capacity = h.capacity; place = nowhere }

abbrev pub bare_name : Named → Named
bare_name n = record { name = n.name; place = nowhere }

abbrev pub bare_part : Part → Part
bare_part p = record { process = bare_name p.process; role = bare_name p.role }

-- ---- protocols and services

abbrev pub bare_payload : Payload → Payload
bare_payload (payload.Plain s) = payload.Plain s
bare_payload (payload.Endpoint p s r) = payload.Endpoint (bare_name p) (bare_name s) (bare_name r)

abbrev pub bare_arm : ProtoArm → ProtoArm
bare_arm a = record { label = bare_name a.label; next = bare_name a.next }

abbrev pub bare_step : ProtoStep → ProtoStep
bare_step step.End = step.End
bare_step (step.Value a b p n) = step.Value (bare_name a) (bare_name b) (bare_payload p) (bare_name n)
bare_step (step.Choice a b arms) = step.Choice (bare_name a) (bare_name b) (map bare_arm arms)

abbrev pub bare_state : State → State
bare_state s = record { name = bare_name s.name; step = bare_step s.step }

abbrev pub bare_protocol : Protocol → Protocol
bare_protocol p = record { name = bare_name p.name; roles = map bare_name p.roles; states = map bare_state p.states }

abbrev pub bare_service : Service → Service
bare_service s = record { name = bare_name s.name; protocol = bare_name s.protocol; active = map bare_name s.active; serve = map bare_name s.serve }

-- ---- parameters

abbrev pub bare_variable : Named × Sort → Named × Sort
bare_variable v = (bare_name v.0, v.1)

abbrev pub bare_process_param : ProcParam → ProcParam
bare_process_param p = record { name = bare_name p.name; vars = map bare_variable p.vars }

abbrev pub bare_holder : Named × Named → Named × Named
bare_holder h = (bare_name h.0, bare_name h.1)

abbrev pub bare_session_param : SessionParam → SessionParam
bare_session_param k = record { name = bare_name k.name; protocol = bare_name k.protocol; state = bare_name k.state; holders = map bare_holder k.holders }

-- ---- statements, blocks and sources

abbrev pub bare_statement : Statement → Statement
bare_statement (Starts c k active serve) = Starts (bare_name c) (bare_name k) (map bare_part active) (map bare_part serve)
bare_statement (Sends a e b x k) = Sends (bare_part a) e (bare_part b) x (bare_name k)
bare_statement (Selects a b k l) = Selects (bare_part a) (bare_part b) (bare_name k) l
bare_statement (Gives a b k h) = Gives (bare_part a) (bare_part b) (bare_name k) (bare_part h)
bare_statement (Sets p x e) = Sets (bare_name p) x e
bare_statement (Asks p x f a b) = Asks (bare_name p) x (bare_name f) a b
bare_statement (Shows p e) = Shows (bare_name p) e

abbrev pub bare_block : Block → Block
bare_block (Then p s b) = Then nowhere (bare_statement s) (bare_block b)
bare_block (Either p q e a b) = Either nowhere (bare_name q) e (bare_block a) (bare_block b)
bare_block (Calls p f ps ss) = Calls nowhere (bare_name f) (map bare_name ps) (map bare_name ss)
bare_block (Ends p) = Ends nowhere

abbrev pub bare_procedure : Procedure → Procedure
bare_procedure p = record {
  name = bare_name p.name;
  params = map bare_process_param p.params;
  sessions = map bare_session_param p.sessions;
  body = bare_block p.body;
}

abbrev pub bare_items : Items → Items
bare_items is = record {
  protocols = map bare_protocol is.protocols;
  services = map bare_service is.services;
  procedures = map bare_procedure is.procedures;
}

-- A source with `nowhere` for each place
abbrev pub bare : Source → Source
bare s = record { header = bare_header s.header; items = bare_items s.items; processes = map bare_name s.processes; body = bare_block s.body }

-- two sources are the same but for their places
abbrev pub IsSame : Source → Source → Type 0
IsSame s t = bare s ≡ bare t
