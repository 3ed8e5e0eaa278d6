-- How a session starts: its channel, who takes which role, and the state after it.
use Rattle.std.proofs.Common.{◌≡◌, ℕ, suc, List, [], ◌∷◌, ◌++◌, length, refl, sym, ap, ◌∙◌, Option, Some, None, map}
use Rattle.chor_base.specs.declared.names.NameId.{NameId}
use Rattle.chor_base.specs.declared.event.Event.{Event}
use Rattle.chor_base.specs.declared.event.Event.TheVariants as event
use Rattle.endpoint_code.specs.declared.endpoints.Channel.{Channel}
use Rattle.endpoint_code.specs.declared.endpoints.Endpoints.{Endpoints}
use Rattle.endpoint_code.specs.Network.{Machine, NetworkState, Makes, joiners, starts, starts_with, channel_starts, with_machines, served, begun, channel_of, paired, one_pair, served_parts}

-- the start of a session on channel c by the processes ps, with its event and the state after it
pub record Begun (e : Endpoints) (n : NetworkState) (c : NameId) (ps : List ℕ) (x : Event) (m : NetworkState) : Type 0 where
  pub channel : Channel
  pub found : channel_of e.channels c ≡ Some channel
  pub parts : List (NameId × ℕ)
  pub pairs : paired channel.active ps ≡ Some parts
  pub joined : List (ℕ × Machine)
  pub joins : joiners e n c n.sid parts ≡ Some joined
  pub event_is : x ≡ event.Start c n.sid (parts ++ served_parts channel.serve (length n.machines))
  pub state_is : m ≡ record n { machines = with_machines n.machines joined ++ served e c n.sid channel.serve; sid = suc n.sid }

pub begun_as : (e : Endpoints) (n : NetworkState) (c : NameId) (ps : List ℕ) (x : Event) (m : NetworkState) → starts e n c ps ≡ Some (Makes x m) → Begun e n c ps x m
begun_as e n c ps x m h = at_channel (channel_of e.channels c) refl h
  where
    at_joiners : (k : Channel) → channel_of e.channels c ≡ Some k → (qs : List (NameId × ℕ)) → paired k.active ps ≡ Some qs → (o : Option (List (ℕ × Machine))) → joiners e n c n.sid qs ≡ o → begun e n c k qs o ≡ Some (Makes x m) → Begun e n c ps x m
    at_joiners k f qs g None j i = absurd cc
    at_joiners k f qs g (Some ms) j i = record { channel = k; found = f; parts = qs; pairs = g; joined = ms; joins = j; event_is = cc; state_is = cc }

    at_pairs : (k : Channel) → channel_of e.channels c ≡ Some k → (o : Option (List (NameId × ℕ))) → paired k.active ps ≡ o → starts_with e n c k o ≡ Some (Makes x m) → Begun e n c ps x m
    at_pairs k f None g i = absurd cc
    at_pairs k f (Some []) g i = absurd cc
    at_pairs k f (Some (q ∷ qs)) g i = at_joiners k f (q ∷ qs) g (joiners e n c n.sid (q ∷ qs)) refl i

    at_channel : (o : Option Channel) → channel_of e.channels c ≡ o → channel_starts e n c ps o ≡ Some (Makes x m) → Begun e n c ps x m
    at_channel None f i = absurd cc
    at_channel (Some k) f i = at_pairs k f (paired k.active ps) refl i

-- the processes and the roles of what is paired are those that it was made of
pub pair_places : (rs : List NameId) (ps : List ℕ) (qs : List (NameId × ℕ)) → paired rs ps ≡ Some qs → map (λ q. q.1) qs ≡ ps
pair_places [] [] qs h = let e : [] ≡ qs = cc in ap (map (λ q. q.1)) (sym e)
pair_places (r ∷ rs) (p ∷ ps) qs h = go (λ xs f. pair_places rs ps xs f) (paired rs ps) refl h
  where
    go : ((xs : List (NameId × ℕ)) → paired rs ps ≡ Some xs → map (λ q. q.1) xs ≡ ps) → (o : Option (List (NameId × ℕ))) → paired rs ps ≡ o → one_pair r p o ≡ Some qs → map (λ q. q.1) qs ≡ p ∷ ps
    go again None f g = absurd cc
    go again (Some xs) f g = let e : (r, p) ∷ xs ≡ qs = cc in let i : map (λ q. q.1) xs ≡ ps = again xs f in ap (map (λ q. q.1)) (sym e) ∙ ap (λ z. p ∷ z) i
pair_places [] (p ∷ ps) qs h = absurd cc
pair_places (r ∷ rs) [] qs h = absurd cc

pub pair_roles : (rs : List NameId) (ps : List ℕ) (qs : List (NameId × ℕ)) → paired rs ps ≡ Some qs → map (λ q. q.0) qs ≡ rs
pair_roles [] [] qs h = let e : [] ≡ qs = cc in ap (map (λ q. q.0)) (sym e)
pair_roles (r ∷ rs) (p ∷ ps) qs h = go (λ xs f. pair_roles rs ps xs f) (paired rs ps) refl h
  where
    go : ((xs : List (NameId × ℕ)) → paired rs ps ≡ Some xs → map (λ q. q.0) xs ≡ rs) → (o : Option (List (NameId × ℕ))) → paired rs ps ≡ o → one_pair r p o ≡ Some qs → map (λ q. q.0) qs ≡ r ∷ rs
    go again None f g = absurd cc
    go again (Some xs) f g = let e : (r, p) ∷ xs ≡ qs = cc in let i : map (λ q. q.0) xs ≡ rs = again xs f in ap (map (λ q. q.0)) (sym e) ∙ ap (λ z. r ∷ z) i
pair_roles [] (p ∷ ps) qs h = absurd cc
pair_roles (r ∷ rs) [] qs h = absurd cc

pub served_roles : (rs : List NameId) (p : ℕ) → map (λ q. q.0) (served_parts rs p) ≡ rs
served_roles [] p = refl
served_roles (r ∷ rs) p = ap (λ z. r ∷ z) (served_roles rs (suc p))
