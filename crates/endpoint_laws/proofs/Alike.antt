-- Faults depend on the other units of a file by their names and their sessions alone.
use Rattle.std.proofs.Common.{◌≡◌, ◌==◌, Bool, true, false, not, List, [], ◌∷◌, ◌++◌, length, Option, Some, None, refl, sym, ap, ◌∙◌, if◌then◌else◌}
use Rattle.std.specs.Prelude.{map, is_some}
use Rattle.std.specs.List.{flat_map}
use Rattle.chor_base.specs.declared.fault.Fault.{Fault}
use Rattle.chor_base.specs.declared.names.NameId.{NameId}
use Rattle.endpoint_reader.specs.declared.input.Named.{Named}
use Rattle.endpoint_reader.specs.declared.node.Action.{Action}
use Rattle.endpoint_reader.specs.declared.node.Action.TheVariants.{Join, Send, Recv, Pick, Give, Gain, Set, Show, Host}
use Rattle.endpoint_reader.specs.declared.lists.Signature.{Signature}
use Rattle.endpoint_reader.specs.declared.written.Channel.{Channel}
use Rattle.endpoint_reader.specs.declared.written.Procedure.{Procedure}
use Rattle.endpoint_reader.specs.declared.written.Service.{Service}
use Rattle.endpoint_reader.specs.declared.written.Written.{Written}
use Rattle.endpoint_names.specs.declared.key.Key.{Key}
use Rattle.endpoint_names.specs.declared.key.Sign.{Sign}
use Rattle.endpoint_names.specs.Keys.{alone, both, same_key, is_known, keys_of, first_by, sign_of_name, sign_of_two, sign_of_channel, sign_of_procedure, sign_of_service}
use Rattle.endpoint_names.specs.Bodies.{Body, Does, Offers, Tests, Calls, Ends, Arms, NoArms, Arm, labels_of}
use Rattle.endpoint_names.specs.Faults.{Setting, fault_at, repeated, channel_of, procedure_of, has_service, unbound, unserved, inactive, bound_again, bound_after, unknown_channel, wrong_call, action_faults, body_faults, arms_faults, channel_faults}

-- ---- what is asked of procedures and services

abbrev pub sign_of : Signature → Sign
sign_of s = sign_of_two s.name s.param

-- a call, where procedures have these signatures
wrong_by : Option Signature → Signature → List Fault
wrong_by None s = fault_at true s.name.place
wrong_by (Some p) s = fault_at (not (length s.sessions == length p.sessions)) s.name.place

called : (k : Key) (c : Signature) (ps : List Procedure) → wrong_call (first_by sign_of_procedure ps k) c ≡ wrong_by (first_by sign_of (map (λ p. p.signature) ps) k) c
unfolding wrong_by
called k c [] = refl
called k c (p ∷ ps) = go (same_key k (sign_of p.signature).key) (called k c ps)
  where
    go : (b : Bool) → wrong_call (first_by sign_of_procedure ps k) c ≡ wrong_by (first_by sign_of (map (λ q. q.signature) ps) k) c
        → wrong_call (if b then Some p else first_by sign_of_procedure ps k) c ≡ wrong_by (if b then Some p.signature else first_by sign_of (map (λ q. q.signature) ps) k) c
    go true e = refl
    go false e = e

keys_are : (ss : List Service) → keys_of sign_of_service ss ≡ map (λ (x : Sign). x.key) (map sign_of_service ss)
keys_are [] = refl
keys_are (s ∷ ss) = ap (λ ks. (sign_of_service s).key ∷ ks) (keys_are ss)

-- files with the same channels, and procedures and services of the same names
pub record AreAlike (w v : Written) : Type 0 where
  pub channels : w.channels ≡ v.channels
  pub signatures : map (λ (p : Procedure). p.signature) w.procedures ≡ map (λ (p : Procedure). p.signature) v.procedures
  pub services : map sign_of_service w.services ≡ map sign_of_service v.services

module _ (w v : Written) (a : AreAlike w v) where
  channel_known : (c : NameId) → channel_of w c ≡ channel_of v c
  channel_known c = ap (λ cs. first_by sign_of_channel cs (alone c)) a.channels

  served : (c r : NameId) → has_service w c r ≡ has_service v c r
  served c r = ap (λ ks. is_known ks (both c r)) (keys_are w.services ∙ ap (map (λ (x : Sign). x.key)) a.services ∙ sym (keys_are v.services))

  call_known : (c : Signature) → wrong_call (procedure_of w c.name.name c.param.name) c ≡ wrong_call (procedure_of v c.name.name c.param.name) c
  call_known c = let k = both c.name.name c.param.name in called k c w.procedures ∙ ap (λ ss. wrong_by (first_by sign_of ss k) c) a.signatures ∙ sym (called k c v.procedures)

  pub of_channel : (c : Channel) → channel_faults w c ≡ channel_faults v c
  of_channel c = λ j. repeated [] (map sign_of_name (c.roles.active ++ c.roles.serve)) ++ flat_map (λ r. fault_at (not (served c.name.name r.name j)) r.place) c.roles.serve

  pub no_channel : (c : Named) → unknown_channel w c ≡ unknown_channel v c
  no_channel c = ap (λ (o : Option Channel). fault_at (not (is_some o)) c.place) (channel_known c.name)

  pub not_served : (c r : Named) → unserved (channel_of w c.name) r ≡ unserved (channel_of v c.name) r
  not_served c r = ap (λ (o : Option Channel). unserved o r) (channel_known c.name)

  module _ (f : NameId → Bool) where
    abbrev s : Setting
    s = record { written = w; is_function = f }

    abbrev t : Setting
    t = record { written = v; is_function = f }

    action : (bs : List NameId) (x : Action) → action_faults s bs x ≡ action_faults t bs x
    action bs (Join c r k) = λ j. no_channel c j ++ inactive (channel_known c.name j) r ++ bound_again bs k
    action bs (Send k b e) = refl
    action bs (Recv k b x) = refl
    action bs (Pick k b l) = refl
    action bs (Give k b h) = refl
    action bs (Gain k b h) = refl
    action bs (Set x e) = refl
    action bs (Show e) = refl
    action bs (Host x g d e) = refl

    mutual
      pub of_body : (bs : List NameId) (b : Body) → body_faults s bs b ≡ body_faults t bs b
      of_body bs (Does x rest) = λ j. action bs x j ++ of_body (bound_after bs x) rest j
      of_body bs (Offers k b arms) = λ j. unbound bs k ++ repeated [] (map sign_of_name (labels_of arms)) ++ of_arms bs arms j
      of_body bs (Tests e first second) = λ j. of_body bs first j ++ of_body bs second j
      of_body bs (Calls p c) = λ j. call_known c j ++ flat_map (unbound bs) c.sessions ++ repeated [] (map sign_of_name c.sessions)
      of_body bs Ends = refl

      of_arms : (bs : List NameId) (arms : Arms) → arms_faults s bs arms ≡ arms_faults t bs arms
      of_arms bs NoArms = refl
      of_arms bs (Arm l b others) = λ j. of_body bs b j ++ of_arms bs others j
