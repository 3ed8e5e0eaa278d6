-- Who holds a role of a session: at most one process at a time. From the send of an endpoint to its receipt its role
-- has no holder.
use Rattle.std.specs.Prelude.{ℕ, suc, ◌≡◌, ◌<◌, ◌==◌, ◌&&◌, Bool, true, false, List, [], ◌∷◌, ◌++◌, length, map, Option, Some, None, slice_get, if◌then◌else◌}
use Rattle.chor_base.specs.declared.names.NameId.{NameId}
use Rattle.chor_base.specs.declared.value.Value.TheVariants.{Int, Bool as Truth, Text, Part as Endpoint}
use Rattle.chor_base.specs.declared.value.Load.{Load}
use Rattle.chor_base.specs.declared.value.Load.TheVariants.{Value as Carries, Label as Picks}
use Rattle.chor_base.specs.declared.event.Event.{Event}
use Rattle.chor_base.specs.declared.event.Event.TheVariants.{Start, Send, Recv, Test, Set, Show, Host}
use Rattle.chor_semantics.specs.Sources.{Procedure}
use Rattle.chor_semantics.specs.Steps.{procedure_named}
use Rattle.well_formed.specs.WellFormed.{Scope, IsProcess}
use Rattle.chor_semantics.specs.Choreography.{Ref, Live, Named, ref_eq, Content, OfValue, OfLabel, OfPart, Message, ValueSent, LabelSent, PartSent, Node, Starts, Communicates, InTransit, Alone, Choreography, Then, Either, Calls, Ends}

-- role r of u is role a of s
abbrev pub is_role : Ref → NameId → Ref → NameId → Bool
is_role u r s a = ref_eq u s && (r.0 == a.0)

-- what is sent is role r of u
abbrev pub hands_over : Ref → NameId → Content → Bool
hands_over u r (OfValue e x) = false
hands_over u r (OfLabel l) = false
hands_over u r (OfPart t c) = is_role u r t c

-- the message in transit carries role r of u
abbrev pub carries : Ref → NameId → Message → Bool
carries u r (ValueSent v x) = false
carries u r (LabelSent l) = false
carries u r (PartSent t c) = is_role u r (Live t) c

-- the process that has a role in a start
abbrev pub first_with : NameId → List (Ref × NameId) → Option Ref
first_with r [] = None
first_with r (q ∷ qs) = if q.1.0 == r.0 then Some q.0 else first_with r qs

-- the service processes with their roles
abbrev pub as_parts : ℕ → List (ℕ × NameId) → List (Ref × NameId)
as_parts d serve = map (λ s. (Named s.0 d, s.1)) serve

-- what a node asks of the holder of role r of session u: sender and receiver hold their roles, the sender holds the
-- role that it hands over, and nobody holds one in transit
abbrev pub HolderFits : Ref → NameId → Node → Option Ref → Type 0
HolderFits u r (Starts c d k active serve) o = Unit {0}
HolderFits u r (Communicates s p a q b w) o = (is_role u r s a ≡ true → o ≡ Some p) × (is_role u r s b ≡ true → o ≡ Some q) × (hands_over u r w ≡ true → o ≡ Some p)
HolderFits u r (InTransit s a b m q) o = (is_role u r (Live s) b ≡ true → o ≡ Some q) × (carries u r m ≡ true → o ≡ None)
HolderFits u r (Alone p v) o = Unit {0}

-- who holds it after a node: by a start each role belongs to its process, by a communication the role that is handed
-- over belongs to the receiver
abbrev pub holder_after : Ref → NameId → Node → Option Ref → Option Ref
holder_after u r (Starts c d k active serve) o = if ref_eq u (Named k d) then first_with r (active ++ as_parts d serve) else o
holder_after u r (Communicates s p a q b w) o = if hands_over u r w then Some q else o
holder_after u r (InTransit s a b m q) o = if carries u r m then Some q else o
holder_after u r (Alone p v) o = o

-- for each procedure, the place of a session parameter and a role: the place of the process parameter that is listed
-- as its holder
abbrev pub ListedHolders : Type 0
ListedHolders = NameId → ℕ → NameId → Option ℕ

-- if a place is listed, the process that is passed there holds the role
abbrev pub HeldBy : Option ℕ → List Ref → Option Ref → Type 0
HeldBy None ps o = Unit {0}
HeldBy (Some j) ps o = o ≡ slice_get ps j

-- where a call passes session u, its role r is held by the process that is passed for the listed holder
abbrev pub PassedHeld : (ℕ → NameId → Option ℕ) → Ref → NameId → Option Ref → List Ref → ℕ → List Ref → Type 0
PassedHeld lists u r o ps i [] = Unit {0}
PassedHeld lists u r o ps i (s ∷ ss) = (ref_eq u s ≡ true → HeldBy (lists i r) ps o) × PassedHeld lists u r o ps (suc i) ss

-- where o holds role r of session u at the beginning, on each path whoever uses the role is its holder
abbrev pub HoldersFit : ListedHolders → Ref → NameId → Choreography → Option Ref → Type 0
HoldersFit lists u r (Then n rest) = λ o. HolderFits u r n o × HoldersFit lists u r rest (holder_after u r n o)
HoldersFit lists u r (Either p e c d) = λ o. HoldersFit lists u r c o × HoldersFit lists u r d o
HoldersFit lists u r (Calls f d ps ss) = λ o. PassedHeld (lists f) u r o ps 0 ss
HoldersFit lists u r Ends = λ o. Unit {0}

-- a load carries this role
abbrev pub load_hands : Ref → NameId → Load → Bool
load_hands u r (Carries (Int z)) = false
load_hands u r (Carries (Truth b)) = false
load_hands u r (Carries (Text t)) = false
load_hands u r (Carries (Endpoint s c)) = is_role u r (Live s) c
load_hands u r (Picks l) = false

-- who holds a role after an event other than a start: nobody once it is sent, the receiver once it is received
abbrev pub holder_by : Ref → NameId → Event → Option Ref → Option Ref
holder_by u r (Send p s a b l) o = if load_hands u r l then None else o
holder_by u r (Recv p s a b l) o = if load_hands u r l then Some (Live p) else o
holder_by u r (Start c s parts) o = o
holder_by u r (Test p v) o = o
holder_by u r (Set p x v) o = o
holder_by u r (Show p v) o = o
holder_by u r (Host p x f v w z) o = o

-- a holder is in scope
abbrev pub HolderIn : Scope → Option Ref → Type 0
HolderIn sc None = Unit {0}
HolderIn sc (Some q) = IsProcess sc q

-- ---- procedures

-- a parameter by its name
abbrev pub named_param : Option NameId → Option Ref
named_param None = None
named_param (Some x) = Some (Named x.0 0)

-- the parameter at a place
abbrev pub listed_param : List NameId → Option ℕ → Option Ref
listed_param xs None = None
listed_param xs (Some j) = named_param (slice_get xs j)

-- the parameter that a procedure lists as the holder of role r of its session y
abbrev pub declared_holder : (ℕ → NameId → Option ℕ) → List NameId → ℕ → List NameId → ℕ → NameId → Option Ref
declared_holder ls xs i [] y r = None
declared_holder ls xs i (z ∷ zs) y r = if z.0 == y then listed_param xs (ls i r) else declared_holder ls xs (suc i) zs y r

-- in each procedure's body, where the listed holders hold their roles at the beginning, whoever uses a role is its holder
abbrev pub AllHoldersFit : ListedHolders → List Procedure → Type 0
AllHoldersFit lists procs = (f : NameId) (p : Procedure) → procedure_named procs f ≡ Some p → (y : ℕ) (r : NameId) → HoldersFit lists (Named y 0) r p.body (declared_holder (lists f) p.params 0 p.sessions y r)

-- what is listed is the place of a parameter
abbrev pub ListsFit : ListedHolders → List Procedure → Type 0
ListsFit lists procs = (f : NameId) (p : Procedure) → procedure_named procs f ≡ Some p → (i : ℕ) (r : NameId) (j : ℕ) → lists f i r ≡ Some j → j < length p.params
