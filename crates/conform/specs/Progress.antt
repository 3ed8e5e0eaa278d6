-- How far the sessions of a log have come: what is kept of the events so far.
use Rattle.std.specs.Prelude.{ℕ, ◌≡◌, ◌≤◌, ◌==◌, List, [], ◌∷◌, ◌++◌, length, Option, Some, None, slice_get, if◌then◌else◌}
use Rattle.chor_base.specs.declared.names.NameId.{NameId}
use Rattle.chor_base.specs.declared.event.Event.{Event}
use Rattle.chor_base.specs.Events.{Triple, sent_on, received_on}
use Rattle.chor_base.specs.FirstPlaces.{one_later}
use Rattle.chor_tree.specs.declared.file.File.{File}
use Rattle.chor_tree.specs.declared.file.Named.{Named}
use Rattle.chor_tree.specs.Names.{protocol_of}
use Rattle.chor_tree.specs.Protocols.{Protocol}
use Rattle.chor_semantics.specs.Choreography.{Ref, Live, Named as BoundName}
use Rattle.local_types.specs.declared.local_type.LocalState.{LocalState}
use Rattle.local_types.specs.declared.local_type.LocalType.{LocalType}
use Rattle.local_types.specs.Reading.{IsTypeOf, HasDistinctLabels}
use Rattle.post_office.specs.Views.{loads_at}
use Rattle.typed_sources.specs.Told.{Act}
use Rattle.conform.specs.Sessions.{SessionView}
use Rattle.conform.specs.declared.progress.Progress.{Progress}
use Rattle.conform.specs.ByRole.{start_count, account_of, ConformsByRole}
use Rattle.conform.specs.Laws.{IsReadTo}
use Rattle.conform.specs.Moves.{LeadsBy}

-- ---- the types of the roles

-- the items of two lists stand for each other, one by one
abbrev pub OneByOne : {A B : Type 0} → (A → B → Type 0) → List A → List B → Type 0
OneByOne R [] [] = Unit {0}
OneByOne R [] (b ∷ bs) = ⊥
OneByOne R (a ∷ as') [] = ⊥
OneByOne R (a ∷ as') (b ∷ bs) = R a b × OneByOne R as' bs

-- the type of a role of a protocol, in which no label stands twice in a state
pub record IsRead (p : Protocol) (role : Named) (t : LocalType) : Type 0 where
  pub stands : IsTypeOf p.states role.name t.states
  pub distinct : HasDistinctLabels t.states

-- a type for each role
abbrev pub AreRead : Protocol → List LocalType → Type 0
AreRead p ts = OneByOne (IsRead p) p.roles ts

-- the types of the roles of each protocol
abbrev pub AreTypesOf : File → List (List LocalType) → Type 0
AreTypesOf f types = OneByOne AreRead f.protocols types

-- ---- sessions

-- the place of the first role of a name
abbrev pub role_among : List Named → NameId → Option ℕ
role_among [] x = None
role_among (n ∷ ns) x = if n.name.0 == x.0 then Some 0 else one_later (role_among ns x)

-- the place of the first protocol of a name
abbrev pub protocol_among : List Protocol → NameId → Option ℕ
protocol_among [] x = None
protocol_among (p ∷ ps) x = if p.name.name.0 == x.0 then Some 0 else one_later (protocol_among ps x)

abbrev pub name_of : Option Protocol → Option NameId
name_of None = None
name_of (Some p) = Some p.name.name

abbrev pub protocol_at : File → Option SessionView → Option NameId
protocol_at f None = None
protocol_at f (Some k) = name_of (slice_get f.protocols k.protocol)

-- the protocol of each session
abbrev pub protocols_in : File → List SessionView → Ref → Option NameId
protocols_in f ss (Live n) = protocol_at f (slice_get ss n)
protocols_in f ss (BoundName x d) = None

-- a session has a protocol of the file and a state for each of its roles, to which what the role has done leads
pub record StandsAt (f : File) (types : List (List LocalType)) (done : NameId → List Act) (k : SessionView) : Type 0 where
  pub protocol : Protocol
  pub here : slice_get f.protocols k.protocol ≡ Some protocol
  pub named : protocol_of f protocol.name.name ≡ Some protocol
  pub row : List LocalType
  pub types_there : slice_get types k.protocol ≡ Some row
  pub many : length k.states ≡ length protocol.roles
  pub each :
      (j : ℕ) (role : Named) (t : LocalType) (n : ℕ) → slice_get protocol.roles j ≡ Some role → slice_get row j ≡ Some t → slice_get k.states j ≡ Some n → IsReadTo t.states (done role.name) n

-- the role goes on so in a session: by this act from the state where it stands, at its place among the roles, to another
pub record IsMove (f : File) (p : Progress) (s : ℕ) (r : NameId) (act : Act) (place next : ℕ) : Type 0 where
  pub session : SessionView
  pub started : slice_get p.sessions.items s ≡ Some session
  pub protocol : Protocol
  pub here : slice_get f.protocols session.protocol ≡ Some protocol
  pub role : role_among protocol.roles r ≡ Some place
  pub row : List LocalType
  pub types_there : slice_get p.types session.protocol ≡ Some row
  pub type : LocalType
  pub type_there : slice_get row place ≡ Some type
  pub state : ℕ
  pub stands : slice_get session.states place ≡ Some state
  pub local : LocalState
  pub is : slice_get type.states state ≡ Some local
  pub leads : LeadsBy local act next

-- ---- the events so far

-- this is kept of events that conform
pub record IsAfter (f : File) (h : List Event) (p : Progress) : Type 0 where
  pub conforms : ConformsByRole f h
  pub types : AreTypesOf f p.types
  pub count : length p.sessions.items ≡ start_count h
  pub protocols : (s : Ref) → (account_of f h).protocol s ≡ protocols_in f p.sessions.items s
  pub unstarted : (n : ℕ) → length p.sessions.items ≤ n → (r : NameId) → (account_of f h).done (Live n) r ≡ []
  pub sessions : (n : ℕ) (k : SessionView) → slice_get p.sessions.items n ≡ Some k → StandsAt f p.types ((account_of f h).done (Live n)) k
  pub loads : (t : Triple) → sent_on t h ≡ received_on t h ++ loads_at p.queues t
