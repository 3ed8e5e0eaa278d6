-- What a state of a protocol allows one role to send to another, and the state after it.
use Rattle.std.specs.Prelude.{◌==◌, ◌&&◌, Bool, true, false, List, [], ◌∷◌, Option, Some, None, if◌then◌else◌}
use Rattle.chor_base.specs.declared.names.NameId.{NameId}
use Rattle.chor_base.specs.declared.value.Sort.{Sort}
use Rattle.chor_tree.specs.declared.file.Named.{Named}
use Rattle.chor_tree.specs.declared.protocol.Payload.TheVariants.{Plain, Endpoint}
use Rattle.chor_tree.specs.declared.protocol.ProtoArm.{ProtoArm}
use Rattle.chor_tree.specs.declared.protocol.ProtoStep.{ProtoStep}
use Rattle.chor_tree.specs.declared.protocol.ProtoStep.TheVariants.{End as Last, Value as Exchange, Choice}
use Rattle.typing_rules.specs.declared.allowed.EndpointType.{EndpointType}

-- an exchange from a to b
abbrev pub is_between : NameId → NameId → Named → Named → Bool
is_between a b from to = (from.name.0 == a.0) && (to.name.0 == b.0)

-- the sort of the value
abbrev pub value_sent : NameId → NameId → Option ProtoStep → Option (Sort × NameId)
value_sent a b (Some (Exchange from to (Plain s) next)) = if is_between a b from to then Some (s, next.name) else None
value_sent a b _ = None

-- the labels of which it selects one
abbrev pub labels_sent : NameId → NameId → Option ProtoStep → Option (List ProtoArm)
labels_sent a b (Some (Choice from to arms)) = if is_between a b from to then Some arms else None
labels_sent a b _ = None

-- the state after a label
abbrev pub arm_of : List ProtoArm → NameId → Option NameId
arm_of [] l = None
arm_of (x ∷ xs) l = if x.label.name.0 == l.0 then Some x.next.name else arm_of xs l

-- the state after a label, if there is a choice and the label is in it
abbrev pub arm_in : Option (List ProtoArm) → NameId → Option NameId
arm_in None l = None
arm_in (Some arms) l = arm_of arms l

-- the type of the endpoint
abbrev pub endpoint_sent : NameId → NameId → Option ProtoStep → Option (EndpointType × NameId)
endpoint_sent a b (Some (Exchange from to (Endpoint p s r) next)) =
    if is_between a b from to then Some (record { protocol = p.name; state = s.name; role = r.name }, next.name) else None
endpoint_sent a b _ = None

-- nothing more: the step is `end`
abbrev pub is_last : Option ProtoStep → Bool
is_last (Some Last) = true
is_last _ = false
