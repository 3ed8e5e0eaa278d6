-- Codes whose sessions have other names.
use Rattle.std.specs.Prelude.{◌≡◌, ◌==◌, false, List, [], ◌∷◌, map, if◌then◌else◌}
use Rattle.chor_base.specs.declared.names.NameId.{NameId}
use Rattle.chor_semantics.specs.Choreography.{Ref, Live, Named, Content, OfValue, OfLabel, OfPart, Node, Starts, Communicates, InTransit, Alone, Choreography, Then, Either, Calls as CallsProcedure, Ends as Stops}
use Rattle.endpoint_code.specs.Trees.{Action, Joins, Sends, Receives, Selects, Gives, Gains, Sets, Shows, Asks, CodeTree, Does, Offers, Tests, Calls, Ends, Arms, NoArms, Arm}

-- the sessions that an action uses; a session that it binds by joining keeps its name
abbrev pub renamed_action : (NameId → NameId) → Action → Action
renamed_action f (Joins c r k) = Joins c r k
renamed_action f (Sends k b e) = Sends (f k) b e
renamed_action f (Receives k a x) = Receives (f k) a x
renamed_action f (Selects k b l) = Selects (f k) b l
renamed_action f (Gives k b h) = Gives (f k) b (f h)
renamed_action f (Gains k a h) = Gains (f k) a (f h)
renamed_action f (Sets x e) = Sets x e
renamed_action f (Shows e) = Shows e
renamed_action f (Asks x g left right) = Asks x g left right

abbrev mutual
  pub renamed : (NameId → NameId) → CodeTree → CodeTree
  renamed f (Does a c) = Does (renamed_action f a) (renamed f c)
  renamed f (Offers k a arms) = Offers (f k) a (renamed_arms f arms)
  renamed f (Tests e c d) = Tests e (renamed f c) (renamed f d)
  renamed f (Calls g p ss) = Calls g p (map f ss)
  renamed f Ends = Ends

  pub renamed_arms : (NameId → NameId) → Arms → Arms
  renamed_arms f NoArms = NoArms
  renamed_arms f (Arm l c rest) = Arm l (renamed f c) (renamed_arms f rest)

-- each of two names in the place of the other
abbrev pub exchanged : NameId → NameId → NameId → NameId
exchanged k a x = if x.0 == k.0 then a else (if x.0 == a.0 then k else x)

-- each map undoes the other
pub record IsUndoneBy (f g : NameId → NameId) : Type 0 where
  pub there : (x : NameId) → f (g x) ≡ x
  pub back : (x : NameId) → g (f x) ≡ x

-- the same of a session of a choreography; no source has live ones
abbrev pub session_by : (NameId → NameId) → Ref → Ref
session_by f (Named x d) = Named (f (record { 0 = x })).0 d
session_by f (Live n) = Live (f (record { 0 = n })).0

-- ---- choreographies that don't use a session

-- a session's name is another than this one
abbrev pub IsOther : NameId → Ref → Type 0
IsOther a (Named x d) = (x == a.0) ≡ false
IsOther a (Live n) = ⊥

abbrev pub AreOther : NameId → List Ref → Type 0
AreOther a [] = Unit {0}
AreOther a (s ∷ ss) = IsOther a s × AreOther a ss

abbrev pub IsOtherContent : NameId → Content → Type 0
IsOtherContent a (OfValue e x) = Unit {0}
IsOtherContent a (OfLabel l) = Unit {0}
IsOtherContent a (OfPart s r) = IsOther a s

abbrev pub IsOtherNode : NameId → Node → Type 0
IsOtherNode a (Starts c d k active serve) = Unit {0}
IsOtherNode a (Communicates s p x q y w) = IsOther a s × IsOtherContent a w
IsOtherNode a (InTransit s x y m q) = Unit {0}
IsOtherNode a (Alone p o) = Unit {0}

-- no session that the choreography uses has this name
abbrev pub IsUnused : NameId → Choreography → Type 0
IsUnused a (Then n rest) = IsOtherNode a n × IsUnused a rest
IsUnused a (Either p e first second) = IsUnused a first × IsUnused a second
IsUnused a (CallsProcedure f d ps ss) = AreOther a ss
IsUnused a Stops = Unit {0}
