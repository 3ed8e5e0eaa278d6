-- The codes of services, in a table.
use Rattle.std.specs.Prelude.{◌≡◌, ◌<◌, true, List, [], ◌++◌, length, map, All, Some, if◌then◌else◌}
use Rattle.std.specs.List.{AllZip}
use Rattle.chor_base.specs.declared.names.NameId.{NameId}
use Rattle.chor_base.specs.declared.rule.Place.{Place}
use Rattle.chor_tree.specs.declared.file.File.{File}
use Rattle.chor_tree.specs.declared.file.Named.{Named as Written}
use Rattle.chor_tree.specs.declared.file.Service.{Service}
use Rattle.chor_tree.specs.declared.tree.NodeId.{NodeId}
use Rattle.chor_tree.specs.Names.{names_in, is_among, channel_of}
use Rattle.endpoint_code.specs.declared.code.CodeId.{CodeId}
use Rattle.endpoint_code.specs.declared.code.CodeNode.{CodeNode}
use Rattle.endpoint_code.specs.declared.endpoints.ServiceCode.{ServiceCode}
use Rattle.endpoint_code.specs.Trees.{code_at}
use Rattle.branch_merge.specs.Merged.{Keeps}
use Rattle.projection.specs.Codes.{IsCodeOf}
use Rattle.projection.specs.Projects.{starts_of, is_some_start, body_at, IsStartCode, IsServiceCode}
use Rattle.projection.specs.MergeFaults.{IsFirstOf, HasServiceClash}
use Rattle.service_codes.specs.declared.fault.ServiceFault.{ServiceFault}
use Rattle.service_codes.specs.declared.fault.ServiceFault.TheVariants.{Clash, Memory}
use Rattle.service_codes.specs.declared.served.Served.{Served}
use Rattle.service_codes.specs.Starts.{start_in}

abbrev pub pair_of : Served → Written × Written
pair_of x = (x.channel, x.role)

-- the role is a service role of the channel
pub record IsDeclared (f : File) (x : Served) : Type 0 where
  pub service : Service
  pub channel : channel_of f x.channel.name ≡ Some service
  pub role : is_among (names_in service.serve) x.role.name ≡ true

-- ---- after one start

-- a code of process p for what begins at a node stands in the table; old nodes stay
pub record HasProcessCode (f : File) (p : NameId) (node : NodeId) (old new : List CodeNode) (id : CodeId) : Type 0 where
  pub kept : Keeps old new
  pub inside : id.0 < length new
  pub code : IsCodeOf f.procs p (body_at f node) (code_at new id)

-- a code of the role's new process after the start at a node stands in the table, where the session has the channel's name
pub record IsStartCodeAt (f : File) (x : Served) (nodes : List CodeNode) (start : NodeId) (id : CodeId) : Type 0 where
  pub inside : id.0 < length nodes
  pub code : IsStartCode f.procs x.channel.name x.role.name (start_in f start) (code_at nodes id)

-- it does, and old nodes stay
pub record HasStartCode (f : File) (x : Served) (start : NodeId) (old new : List CodeNode) (id : CodeId) : Type 0 where
  pub kept : Keeps old new
  pub at : IsStartCodeAt f x new start id

-- ---- of one role

-- the least code above those after all starts of the channel stands in the table; old nodes stay
pub record HasServiceCode (f : File) (x : Served) (old new : List CodeNode) (id : CodeId) : Type 0 where
  pub kept : Keeps old new
  pub inside : id.0 < length new
  pub code : IsServiceCode f.procs x.channel.name x.role.name (starts_of f x.channel.name) (code_at new id)

-- no code is above those after all starts of the channel: told at the channel's name, with the role
pub record IsClashOf (f : File) (x : Served) (place : Place) (who : NameId) : Type 0 where
  pub clash : HasServiceClash f (pair_of x)
  pub place_is : place ≡ x.channel.place
  pub who_is : who ≡ x.role.name

abbrev pub StopsOne : File → Served → ServiceFault → Type 0
StopsOne f x (Clash place who) = IsClashOf f x place who
StopsOne f x Memory = Unit {0}

-- ---- of all roles

-- a channel's name with each of its service roles, where some start names it
abbrev pub roles_of : File → Service → List (Written × Written)
roles_of f s = if is_some_start (starts_of f s.name.name) then map (λ r. (s.name, r)) s.serve else []

-- the service's code stands in the table
pub record IsServiceIn (f : File) (nodes : List CodeNode) (x : Written × Written) (q : ServiceCode) : Type 0 where
  pub channel : q.channel ≡ x.0.name
  pub role : q.role ≡ x.1.name
  pub inside : q.body.0 < length nodes
  pub code : IsServiceCode f.procs x.0.name x.1.name (starts_of f x.0.name) (code_at nodes q.body)

-- services of these roles come at the end of a list, one for one, and none of them has a clash; old nodes stay
pub record AddsServices (f : File) (xs : List (Written × Written)) (old new : List CodeNode) (qs rs : List ServiceCode) : Type 0 where
  pub kept : Keeps old new
  pub more : List ServiceCode
  pub is : rs ≡ qs ++ more
  pub each : AllZip (IsServiceIn f new) xs more
  pub clean : All (λ x. HasServiceClash f x → ⊥) xs

-- these roles have services, one for one, and none of them has a clash; old nodes stay
pub record AreServices (f : File) (xs : List (Written × Written)) (old new : List CodeNode) (qs : List ServiceCode) : Type 0 where
  pub kept : Keeps old new
  pub each : AllZip (IsServiceIn f new) xs qs
  pub clean : All (λ x. HasServiceClash f x → ⊥) xs

-- the first role with a clash is told at its channel's name
pub record IsFirstServiceClash (f : File) (xs : List (Written × Written)) (place : Place) (who : NameId) : Type 0 where
  pub service : Written × Written
  pub first : IsFirstOf (HasServiceClash f) service xs
  pub place_is : service.0.place ≡ place
  pub who_is : service.1.name ≡ who

abbrev pub StopsAt : File → List (Written × Written) → ServiceFault → Type 0
StopsAt f xs (Clash place who) = IsFirstServiceClash f xs place who
StopsAt f xs Memory = Unit {0}
