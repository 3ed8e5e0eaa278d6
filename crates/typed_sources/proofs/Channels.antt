-- The channels of endpoints are services of the file, with their roles; and which channels a choreography starts.
use Rattle.std.proofs.Common.{◌≡◌, suc, ◌<◌, ◌⊎◌, List, [], ◌∷◌, map, length, refl, sym, ap, ◌∙◌, Some, Bool, true, false, if◌then◌else◌, ◌==◌, arith}
use Rattle.std.specs.Prelude.{Contains}
use Rattle.std.specs.List.{filter}
use Rattle.chor_base.specs.declared.names.NameId.{NameId}
use Rattle.chor_tree.specs.declared.file.File.{File}
use Rattle.chor_tree.specs.declared.file.Service.{Service}
use Rattle.chor_tree.specs.Names.{names_in, channel_of, first_named}
use Rattle.chor_semantics.specs.Choreography.{Node, Starts, Communicates, InTransit, Alone, Choreography, Then, Either, Calls, Ends}
use Rattle.endpoint_code.specs.declared.endpoints.Channel.{Channel}
use Rattle.endpoint_code.specs.Network.{channel_of as channel_in}
use Rattle.well_formed.proofs.References.{clash}
use Rattle.typed_sources.proofs.Checked.{some_is}

abbrev pub channel_from : Service → Channel
channel_from s = record { name = s.name.name; active = names_in s.active; serve = names_in s.serve }

-- the channel of a start
abbrev pub IsStartOf : NameId → Node → Type 0
IsStartOf c (Starts a d k active serve) = a ≡ c
IsStartOf c (Communicates s p a q b w) = ⊥
IsStartOf c (InTransit s a b m q) = ⊥
IsStartOf c (Alone p o) = ⊥

-- a start of the channel stands in the choreography
abbrev pub StartsIn : NameId → Choreography → Type 0
StartsIn c (Then n rest) = IsStartOf c n ⊎ StartsIn c rest
StartsIn c (Either p e x y) = StartsIn c x ⊎ StartsIn c y
StartsIn c (Calls h d ps ss) = ⊥
StartsIn c Ends = ⊥

-- the channels of the services that a test keeps
abbrev pub channels_from : (Service → Bool) → File → List Channel
channels_from wanted f = map channel_from (filter wanted f.services)

-- the test keeps each channel that the choreography starts
abbrev pub AreWanted : (Service → Bool) → File → Choreography → Type 0
AreWanted wanted f x = (c : NameId) (s : Service) → StartsIn c x → channel_of f c ≡ Some s → wanted s ≡ true

pub channel_there : (wanted : Service → Bool) (ss : List Service) (c : NameId) (s : Service) → first_named (λ z. z.name) ss c ≡ Some s → wanted s ≡ true → channel_in (map channel_from (filter wanted ss)) c ≡ Some (channel_from s)
channel_there wanted [] c s h w = absurd cc
channel_there wanted (z ∷ zs) c s h w = go (z.name.name.0 == c.0) refl (wanted z) refl h (channel_there wanted zs c s)
  where
    go : (b : Bool) → (z.name.name.0 == c.0) ≡ b → (k : Bool) → wanted z ≡ k → (if b then Some z else first_named (λ z. z.name) zs c) ≡ Some s
        → (first_named (λ z. z.name) zs c ≡ Some s → wanted s ≡ true → channel_in (map channel_from (filter wanted zs)) c ≡ Some (channel_from s))
        → channel_in (map channel_from (if k then z ∷ filter wanted zs else filter wanted zs)) c ≡ Some (channel_from s)
    go true e true j i ih = ap (λ (b : Bool). if b then Some (channel_from z) else channel_in (map channel_from (filter wanted zs)) c) e ∙ ap (λ y. Some (channel_from y)) (some_is z s i)
    go true e false j i ih = absurd (clash w (ap wanted (sym (some_is z s i)) ∙ j))
    go false e true j i ih = ap (λ (b : Bool). if b then Some (channel_from z) else channel_in (map channel_from (filter wanted zs)) c) e ∙ ih i w
    go false e false j i ih = ih i w

-- a channel is a service's
pub channel_back : (wanted : Service → Bool) (ss : List Service) (c : NameId) (k : Channel) → channel_in (map channel_from (filter wanted ss)) c ≡ Some k → (s : Service) × Contains ss s × (channel_from s ≡ k)
channel_back wanted [] c k h = absurd cc
channel_back wanted (z ∷ zs) c k h = go (wanted z) h (channel_back wanted zs c k)
  where
    later : ((s : Service) × Contains zs s × (channel_from s ≡ k)) → (s : Service) × Contains (z ∷ zs) s × (channel_from s ≡ k)
    later w = (w.0, (suc w.1.0, (let l : w.1.0 < length zs = w.1.1 in omega (arith, l)), w.1.2), w.2)

    here_or : (b : Bool) → (if b then Some (channel_from z) else channel_in (map channel_from (filter wanted zs)) c) ≡ Some k
        → (channel_in (map channel_from (filter wanted zs)) c ≡ Some k → (s : Service) × Contains zs s × (channel_from s ≡ k)) → (s : Service) × Contains (z ∷ zs) s × (channel_from s ≡ k)
    here_or true i ih = (z, (0, omega arith, refl), some_is (channel_from z) k i)
    here_or false i ih = later (ih i)

    go : (b : Bool) → channel_in (map channel_from (if b then z ∷ filter wanted zs else filter wanted zs)) c ≡ Some k
        → (channel_in (map channel_from (filter wanted zs)) c ≡ Some k → (s : Service) × Contains zs s × (channel_from s ≡ k)) → (s : Service) × Contains (z ∷ zs) s × (channel_from s ≡ k)
    go true i ih = here_or (z.name.name.0 == c.0) i ih
    go false i ih = later (ih i)
