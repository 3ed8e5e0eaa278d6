-- What an endpoint program must keep so that its network always knows what a name stands for (rules E2 and E3).
use Rattle.std.specs.Prelude.{ℕ, ◌≡◌, ◌==◌, ◌&&◌, ◌||◌, Bool, true, false, List, [], ◌∷◌, ◌++◌, length, map, Option, Some, if◌then◌else◌, All, is_some, bytes_eq}
use Rattle.std.specs.List.{list_any, AllByRecursion}
use Rattle.chor_base.specs.declared.names.NameId.{NameId}
use Rattle.chor_base.specs.Writing.{name_in}
use Rattle.chor_base.specs.Meaning.{Hosts, meaning_named}
use Rattle.endpoint_code.specs.declared.code.CodeId.{CodeId}
use Rattle.endpoint_code.specs.declared.code.CodeNode.{CodeNode}
use Rattle.endpoint_code.specs.declared.code.CodeNode.TheVariants.{Join, Send, Recv, Pick, Branch, Throw, Catch, Set, Show, Host, If, Call, End}
use Rattle.endpoint_code.specs.declared.endpoints.Channel.{Channel}
use Rattle.endpoint_code.specs.declared.endpoints.Procedure.{Procedure}
use Rattle.endpoint_code.specs.declared.endpoints.ServiceCode.{ServiceCode}
use Rattle.endpoint_code.specs.declared.endpoints.Endpoints.{Endpoints}
use Rattle.endpoint_code.specs.Asked.{AsksTree}
use Rattle.endpoint_code.specs.Network.{node_at, channel_of, procedure_of}
use Rattle.endpoint_code.specs.Trees.{code_at}

-- ---- names

-- the name is among these
abbrev pub is_among : NameId → List NameId → Bool
is_among x [] = false
is_among x (y ∷ ys) = (x.0 == y.0) || is_among x ys

-- no name stands twice
pub data AreDistinct : List NameId → Type 0 where
  no_name : AreDistinct []
  one_more : {x : NameId} {xs : List NameId} → is_among x xs ≡ false → AreDistinct xs → AreDistinct (x ∷ xs)

-- these names but for one
abbrev pub without : NameId → List NameId → List NameId
without x [] = []
without x (y ∷ ys) = if x.0 == y.0 then without x ys else y ∷ without x ys

abbrev pub IsActive : Endpoints → NameId → NameId → Type 0
IsActive e c r = (k : Channel) × (channel_of e.channels c ≡ Some k) × (is_among r k.active ≡ true)

abbrev pub all_among : List NameId → List NameId → Bool
all_among [] ys = true
all_among (x ∷ xs) ys = is_among x ys && all_among xs ys

-- ---- sessions in scope

-- The code at a node uses its session names well where these are bound: what it names is bound, what it binds is not,
-- and a label stands once in a branch
mutual
  pub data IsScoped (e : Endpoints) : CodeId → List NameId → Type 0 where
    joins : {id next : CodeId} {bs : List NameId} {c r k : NameId} → node_at e id ≡ Some (Join c r k next)
        → IsActive e c r → is_among k bs ≡ false → IsScoped e next (k ∷ bs) → IsScoped e id bs
    sends : {id next : CodeId} {bs : List NameId} {k b : NameId} {x : _} → node_at e id ≡ Some (Send k b x next)
        → is_among k bs ≡ true → IsScoped e next bs → IsScoped e id bs
    receives : {id next : CodeId} {bs : List NameId} {k a x : NameId} → node_at e id ≡ Some (Recv k a x next)
        → is_among k bs ≡ true → IsScoped e next bs → IsScoped e id bs
    picks : {id next : CodeId} {bs : List NameId} {k b l : NameId} → node_at e id ≡ Some (Pick k b l next)
        → is_among k bs ≡ true → IsScoped e next bs → IsScoped e id bs
    offers : {id : CodeId} {bs : List NameId} {k a : NameId} {arms : List (NameId × CodeId)} → node_at e id ≡ Some (Branch k a arms)
        → is_among k bs ≡ true → AreDistinct (map (λ arm. arm.0) arms) → AllScoped e arms bs → IsScoped e id bs
    gives : {id next : CodeId} {bs : List NameId} {k b h : NameId} → node_at e id ≡ Some (Throw k b h next)
        → is_among k bs ≡ true → is_among h bs ≡ true → IsScoped e next (without h bs) → IsScoped e id bs
    gains : {id next : CodeId} {bs : List NameId} {k a h : NameId} → node_at e id ≡ Some (Catch k a h next)
        → is_among k bs ≡ true → is_among h bs ≡ false → IsScoped e next (h ∷ bs) → IsScoped e id bs
    sets : {id next : CodeId} {bs : List NameId} {x : NameId} {v : _} → node_at e id ≡ Some (Set x v next)
        → IsScoped e next bs → IsScoped e id bs
    shows : {id next : CodeId} {bs : List NameId} {v : _} → node_at e id ≡ Some (Show v next)
        → IsScoped e next bs → IsScoped e id bs
    asks : {id next : CodeId} {bs : List NameId} {x f : NameId} {v w : _} → node_at e id ≡ Some (Host x f v w next)
        → IsScoped e next bs → IsScoped e id bs
    tests : {id first second : CodeId} {bs : List NameId} {v : _} → node_at e id ≡ Some (If v first second)
        → IsScoped e first bs → IsScoped e second bs → IsScoped e id bs
    calls : {id : CodeId} {bs : List NameId} {f p : NameId} {ss : List NameId} {q : Procedure} → node_at e id ≡ Some (Call f p ss)
        → procedure_of e.procedures f p ≡ Some q → length ss ≡ length q.sessions → all_among ss bs ≡ true → AreDistinct ss → IsScoped e id bs
    ends : {id : CodeId} {bs : List NameId} → node_at e id ≡ Some End → IsScoped e id bs

  -- each arm of a branch
  pub data AllScoped (e : Endpoints) : List (NameId × CodeId) → List NameId → Type 0 where
    no_arm : {bs : List NameId} → AllScoped e [] bs
    one_arm : {l : NameId} {next : CodeId} {arms : List (NameId × CodeId)} {bs : List NameId} → IsScoped e next bs → AllScoped e arms bs → AllScoped e ((l, next) ∷ arms) bs

-- ---- units

-- the name of a procedure's unit: the procedure and its parameter
abbrev pub unit_among : NameId → NameId → List Procedure → Bool
unit_among f p [] = false
unit_among f p (q ∷ qs) = ((f.0 == q.name.0) && (p.0 == q.param.0)) || unit_among f p qs

pub data AreApart : List Procedure → Type 0 where
  no_unit : AreApart []
  one_unit : {q : Procedure} {qs : List Procedure} → unit_among q.name q.param qs ≡ false → AreApart qs → AreApart (q ∷ qs)

abbrev pub has_service : NameId → NameId → List ServiceCode → Bool
has_service c r [] = false
has_service c r (s ∷ ss) = ((c.0 == s.channel.0) && (r.0 == s.role.0)) || has_service c r ss

pub data AreSingle : List ServiceCode → Type 0 where
  no_service : AreSingle []
  one_service : {s : ServiceCode} {ss : List ServiceCode} → has_service s.channel s.role ss ≡ false → AreSingle ss → AreSingle (s ∷ ss)

-- a service's channel is there and has its role among its service roles
abbrev pub IsServed : Endpoints → ServiceCode → Type 0
IsServed e s = (k : Channel) × (channel_of e.channels s.channel ≡ Some k) × (is_among s.role k.serve ≡ true)

-- No fault of E2, host functions aside: names of channels and processes, roles of a channel, units of procedures, their
-- sessions and services stand once; each service belongs to a channel, and each service role has one; each body is scoped
pub record HasNoNameFault (e : Endpoints) : Type 0 where
  pub channels : AreDistinct (map (λ k. k.name) e.channels)
  pub roles : All (λ k. AreDistinct (k.active ++ k.serve)) e.channels
  pub processes : AreDistinct (map (λ p. p.name) e.processes)
  pub procedures : AreApart e.procedures
  pub sessions : All (λ q. AreDistinct q.sessions) e.procedures
  pub services : AreSingle e.services
  pub served : All (IsServed e) e.services
  pub provided : All (λ k. All (λ r. has_service k.name r e.services ≡ true) k.serve) e.channels
  pub procedure_bodies : All (λ q. IsScoped e q.body q.sessions) e.procedures
  pub service_bodies : All (λ s. IsScoped e s.body (s.channel ∷ [])) e.services
  pub process_bodies : All (λ p. IsScoped e p.body []) e.processes

abbrev pub begins_with_call : Option CodeNode → Bool
begins_with_call (Some (Call f p ss)) = true
begins_with_call _ = false

-- No fault of E3: no procedure's body begins with a call
abbrev pub HasNoCallFault : Endpoints → Type 0
HasNoCallFault e = All (λ q. begins_with_call (node_at e q.body) ≡ false) e.procedures

-- An endpoint program without a fault of its names and calls, host functions aside
pub record IsFaultless (e : Endpoints) : Type 0 where
  pub names : HasNoNameFault e
  pub calls : HasNoCallFault e

-- ---- host functions

-- the host functions that have these words as names
abbrev pub is_listed : List (List ℕ) → Endpoints → NameId → Bool
is_listed words e f = list_any (bytes_eq (name_in e.names f)) words

-- the host functions that have a meaning
abbrev pub has_meaning : Hosts → NameId → Bool
has_meaning hosts f = is_some (meaning_named hosts f)

abbrev pub asks_known : (NameId → Bool) → CodeNode → Bool
asks_known known (Host x f a b next) = known f
asks_known known _ = true

-- No fault of E2 of host functions, of which these are known: the bodies ask no other. Of nodes that are in no body nothing is said
pub record AsksKnown (known : NameId → Bool) (e : Endpoints) : Type 0 where
  pub procedures : AllByRecursion (λ q. AsksTree known (code_at e.code.nodes q.body)) e.procedures
  pub services : AllByRecursion (λ s. AsksTree known (code_at e.code.nodes s.body)) e.services
  pub processes : AllByRecursion (λ p. AsksTree known (code_at e.code.nodes p.body)) e.processes

-- the whole table asks no other, nodes that are in no body among them
abbrev pub TableAsksKnown : (NameId → Bool) → Endpoints → Type 0
TableAsksKnown known e = All (λ n. asks_known known n ≡ true) e.code.nodes

-- An endpoint program without a fault, where the host functions have these names
pub record IsFaultlessWith (words : List (List ℕ)) (e : Endpoints) : Type 0 where
  pub faultless : IsFaultless e
  pub hosts : AsksKnown (is_listed words e) e
