-- The faults of the names of an endpoint file (rule E2), each with its place (this project's own).
use Rattle.std.specs.Prelude.{ℕ, ◌==◌, Bool, true, not, List, [], ◌∷◌, ◌++◌, map, length, Option, Some, None, is_some, bytes_eq}
use Rattle.std.specs.List.{flat_map, list_any}
use Rattle.chor_base.specs.declared.names.NameId.{NameId}
use Rattle.chor_base.specs.declared.rule.Place.{Place}
use Rattle.chor_base.specs.declared.rule.Rule.TheVariants.{E2}
use Rattle.chor_base.specs.declared.fault.Fault.{Fault}
use Rattle.chor_base.specs.Faults.{fault_if}
use Rattle.chor_base.specs.Writing.{name_in}
use Rattle.endpoint_reader.specs.declared.input.Named.{Named}
use Rattle.endpoint_reader.specs.declared.node.Action.{Action}
use Rattle.endpoint_reader.specs.declared.node.Action.TheVariants.{Join, Send, Recv, Pick, Give, Gain, Set, Show, Host}
use Rattle.endpoint_reader.specs.declared.lists.Signature.{Signature}
use Rattle.endpoint_reader.specs.declared.written.Channel.{Channel}
use Rattle.endpoint_reader.specs.declared.written.Procedure.{Procedure}
use Rattle.endpoint_reader.specs.declared.written.Service.{Service}
use Rattle.endpoint_reader.specs.declared.written.Process.{Process}
use Rattle.endpoint_reader.specs.declared.written.Written.{Written}
use Rattle.endpoint_code.specs.Faults.{is_among, without}
use Rattle.endpoint_names.specs.declared.key.Key.{Key}
use Rattle.endpoint_names.specs.declared.key.Sign.{Sign}
use Rattle.endpoint_names.specs.Keys.{alone, both, is_known, sign_of_name, sign_of_channel, sign_of_procedure, sign_of_service, sign_of_process, keys_of, first_by}
use Rattle.endpoint_names.specs.Bodies.{Body, Does, Offers, Tests, Calls, Ends, Arms, NoArms, Arm, labels_of, body_at}

-- E2 at this place, where something is so
abbrev pub fault_at : Bool → Place → List Fault
fault_at b p = fault_if b E2 p

-- names without their places
abbrev pub names_in : List Named → List NameId
names_in xs = map (λ x. x.name) xs

-- at each of a list that is known, or stands before in the list
abbrev pub repeated : List Key → List Sign → List Fault
repeated known [] = []
repeated known (s ∷ ss) = fault_at (is_known known s.key) s.place ++ repeated (known ++ s.key ∷ []) ss

-- ---- declarations

-- the first channel of a name
abbrev pub channel_of : Written → NameId → Option Channel
channel_of w c = first_by sign_of_channel w.channels (alone c)

-- the first procedure of this name for this parameter
abbrev pub procedure_of : Written → NameId → NameId → Option Procedure
procedure_of w f p = first_by sign_of_procedure w.procedures (both f p)

-- some service is for this role of this channel
abbrev pub has_service : Written → NameId → NameId → Bool
has_service w c r = is_known (keys_of sign_of_service w.services) (both c r)

-- a channel that isn't declared
abbrev pub unknown_channel : Written → Named → List Fault
unknown_channel w c = fault_at (not (is_some (channel_of w c.name))) c.place

-- E2, at a role that isn't among these
abbrev pub unlisted : List Named → Named → List Fault
unlisted roles r = fault_at (not (is_among r.name (names_in roles))) r.place

-- a role that isn't active in its channel, or isn't one of its service roles. Roles of a channel that isn't declared have no fault
abbrev pub inactive : Option Channel → Named → List Fault
inactive None r = []
inactive (Some c) r = unlisted c.roles.active r

-- E2, at a role that isn't a service role of the channel
abbrev pub unserved : Option Channel → Named → List Fault
unserved None r = []
unserved (Some c) r = unlisted c.roles.serve r

-- a service role without a service
abbrev pub unprovided : Written → NameId → Named → List Fault
unprovided w c r = fault_at (not (has_service w c r.name)) r.place

-- those of a channel: a role twice, and a service role without a service
abbrev pub channel_faults : Written → Channel → List Fault
channel_faults w c = repeated [] (map sign_of_name (c.roles.active ++ c.roles.serve)) ++ flat_map (unprovided w c.name.name) c.roles.serve

-- ---- sessions, where these are bound

-- E2, at a session that isn't bound
abbrev pub unbound : List NameId → Named → List Fault
unbound bs k = fault_at (not (is_among k.name bs)) k.place

-- bound while it is bound
abbrev pub bound_again : List NameId → Named → List Fault
bound_again bs k = fault_at (is_among k.name bs) k.place

-- what is bound after an action: a join and a gain bind, and a give unbinds what it hands over
abbrev pub bound_after : List NameId → Action → List NameId
bound_after bs (Join c r k) = k.name ∷ bs
bound_after bs (Give k b h) = without h.name bs
bound_after bs (Gain k a h) = h.name ∷ bs
bound_after bs _ = bs

-- a procedure that isn't declared with this parameter, or has another number of sessions, at the procedure's name
abbrev pub wrong_call : Option Procedure → Signature → List Fault
wrong_call None s = fault_at true s.name.place
wrong_call (Some p) s = fault_at (not (length s.sessions == length p.signature.sessions)) s.name.place

-- ---- bodies

-- what is known in them: the units, and which names are those of host functions
pub record Setting : Type 0 where
  pub written : Written
  pub is_function : NameId → Bool

-- where names have these bytes, and host functions these names
abbrev pub setting : Written → List (List ℕ) → List (List ℕ) → Setting
setting w names hosts = record { written = w; is_function = λ x. list_any (bytes_eq (name_in names x)) hosts }

-- a host function that isn't there
abbrev pub unknown_function : Setting → Named → List Fault
unknown_function s f = fault_at (not (s.is_function f.name)) f.place

-- the faults of names in an action, where these sessions are bound
abbrev pub action_faults : Setting → List NameId → Action → List Fault
action_faults s bs (Join c r k) = unknown_channel s.written c ++ inactive (channel_of s.written c.name) r ++ bound_again bs k
action_faults s bs (Send k b e) = unbound bs k
action_faults s bs (Recv k a x) = unbound bs k
action_faults s bs (Pick k b l) = unbound bs k
action_faults s bs (Give k b h) = unbound bs k ++ unbound bs h
action_faults s bs (Gain k a h) = unbound bs k ++ bound_again bs h
action_faults s bs (Set x e) = []
action_faults s bs (Show e) = []
action_faults s bs (Host x f a b) = unknown_function s f

-- the faults of a call, where these sessions are bound: its procedure, and the sessions that it passes
abbrev pub call_faults : Setting → List NameId → Signature → List Fault
call_faults s bs c =
    wrong_call (procedure_of s.written c.name.name c.param.name) c
    ++ flat_map (unbound bs) c.sessions ++ repeated [] (map sign_of_name c.sessions)

-- the faults of a body, where these sessions are bound
abbrev mutual
  pub body_faults : Setting → List NameId → Body → List Fault
  body_faults s bs (Does a rest) = action_faults s bs a ++ body_faults s (bound_after bs a) rest
  body_faults s bs (Offers k a arms) = unbound bs k ++ repeated [] (map sign_of_name (labels_of arms)) ++ arms_faults s bs arms
  body_faults s bs (Tests e first second) = body_faults s bs first ++ body_faults s bs second
  body_faults s bs (Calls p c) = call_faults s bs c
  body_faults s bs Ends = []

  -- the faults in the bodies of a branch, where these sessions are bound
  pub arms_faults : Setting → List NameId → Arms → List Fault
  arms_faults s bs NoArms = []
  arms_faults s bs (Arm l b others) = body_faults s bs b ++ arms_faults s bs others

-- ---- units

-- a procedure binds its sessions
abbrev pub procedure_faults : Setting → Procedure → List Fault
procedure_faults s p =
    repeated [] (map sign_of_name p.signature.sessions)
    ++ body_faults s (names_in p.signature.sessions) (body_at s.written.lines.items p.body)

-- a service binds a session of its channel's name
abbrev pub service_faults : Setting → Service → List Fault
service_faults s v =
    unknown_channel s.written v.channel ++ unserved (channel_of s.written v.channel.name) v.role
    ++ body_faults s (v.channel.name ∷ []) (body_at s.written.lines.items v.body)

-- the faults in the body of a process, in which no session is bound at first
abbrev pub process_faults : Setting → Process → List Fault
process_faults s p = body_faults s [] (body_at s.written.lines.items p.body)

-- ---- whole files

-- the faults of all channels
abbrev pub faults_of_channels : Written → List Fault
faults_of_channels w = repeated [] (map sign_of_channel w.channels) ++ flat_map (channel_faults w) w.channels

-- the faults of all procedures
abbrev pub faults_of_procedures : Setting → List Fault
faults_of_procedures s = repeated [] (map sign_of_procedure s.written.procedures) ++ flat_map (procedure_faults s) s.written.procedures

-- the faults of all services
abbrev pub faults_of_services : Setting → List Fault
faults_of_services s = repeated [] (map sign_of_service s.written.services) ++ flat_map (service_faults s) s.written.services

-- the faults of all processes
abbrev pub faults_of_processes : Setting → List Fault
faults_of_processes s = repeated [] (map sign_of_process s.written.processes) ++ flat_map (process_faults s) s.written.processes

-- The faults of all names
abbrev pub name_faults : Setting → List Fault
name_faults s = faults_of_channels s.written ++ faults_of_procedures s ++ faults_of_services s ++ faults_of_processes s
