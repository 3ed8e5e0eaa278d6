-- What a run tells of a role's actions: of an endpoint that is handed over, its protocol and role, and not the state.
use Rattle.std.specs.Prelude.{◌==◌, List, [], ◌∷◌, map, Option, Some, None, if◌then◌else◌}
use Rattle.chor_base.specs.declared.names.NameId.{NameId}
use Rattle.chor_base.specs.declared.value.Sort.{Sort}
use Rattle.global_types.specs.Moves.{Content, plain, endpoint, Exchange}
use Rattle.global_types.specs.Paths.{Action, sends, receives, selects, offers, actions_of}

-- a value of a sort, a role of a session with a protocol, or a label
pub data Told : Type 0 where
  of_sort : (s : Sort) → Told
  of_endpoint : (protocol role : NameId) → Told
  of_label : (l : NameId) → Told

-- it is put to a role, or got from one
pub data Act : Type 0 where
  puts : (to : NameId) (w : Told) → Act
  gets : (from : NameId) (w : Told) → Act

-- what is told of the content of an exchange
abbrev pub told_of : Content → Told
told_of (plain s) = of_sort s
told_of (endpoint p s r) = of_endpoint p r

-- what is told of an action
abbrev pub act_of : Action → Act
act_of (sends b c) = puts b (told_of c)
act_of (receives a c) = gets a (told_of c)
act_of (selects b l) = puts b (of_label l)
act_of (offers a l) = gets a (of_label l)

-- what is told of a role's actions on a path
abbrev pub acts_on : NameId → List Exchange → List Act
acts_on r path = map act_of (actions_of r path)

-- ---- the parts of one communication from a role to another, where it is told

-- the sender's part
abbrev pub put_to : NameId → Option Told → List Act
put_to b None = []
put_to b (Some w) = puts b w ∷ []

-- the receiver's part
abbrev pub got_from : NameId → Option Told → List Act
got_from a None = []
got_from a (Some w) = gets a w ∷ []

-- what the sending adds to the acts of role r
abbrev pub sending : NameId → NameId → Option Told → NameId → List Act
sending a b o r = if a.0 == r.0 then put_to b o else []

-- what the receipt adds
abbrev pub receiving : NameId → NameId → Option Told → NameId → List Act
receiving a b o r = if b.0 == r.0 then got_from a o else []
