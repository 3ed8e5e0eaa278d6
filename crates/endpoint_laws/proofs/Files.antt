-- Files without a fault.
use Rattle.std.proofs.Common.{◌≡◌, ◌<◌, ℕ, true, false, List, [], ◌∷◌, ◌++◌, length, map, refl, ap, sym, ◌∙◌, subst, Some, None}
use Rattle.std.specs.Prelude.{Option, All, slice_index_or}
use Rattle.std.specs.List.{flat_map}
use Rattle.std.proofs.lemmas.List.{map-append}
use Rattle.std.proofs.lemmas.Simd.{map-map}
use Rattle.std.proofs.lemmas.List.Elements.{All-map}
use Rattle.chor_base.specs.declared.names.NameId.{NameId}
use Rattle.endpoint_reader.specs.declared.written.Channel.{Channel}
use Rattle.endpoint_reader.specs.declared.written.Procedure.{Procedure}
use Rattle.endpoint_reader.specs.declared.written.Service.{Service}
use Rattle.endpoint_reader.specs.declared.written.Written.{Written}
use Rattle.endpoint_code.specs.declared.code.CodeNode.{CodeNode}
use Rattle.endpoint_code.specs.declared.code.CodeNode.TheVariants as node
use Rattle.endpoint_code.specs.declared.endpoints.Endpoints.{Endpoints}
use Rattle.endpoint_code.specs.Faults as code
use Rattle.endpoint_code.specs.Network.{node_at}
use Rattle.endpoint_code.specs.Trees.{CodeTree, node_tree, trees_of}
use Rattle.endpoint_code.proofs.CodeTables.{code_at-node}
use Rattle.endpoint_names.specs.Keys.{both, is_known, sign_of_name, sign_of_channel, sign_of_procedure, sign_of_service, sign_of_process, keys_of}
use Rattle.endpoint_names.specs.Bodies.{Body, Does, Offers, Tests, Calls, Ends, body_at}
use Rattle.endpoint_names.specs.Faults.{names_in, repeated, channel_of, unknown_channel, unserved, unprovided, channel_faults, body_faults, setting, procedure_faults, service_faults, process_faults, faults_of_channels, faults_of_procedures, faults_of_services, faults_of_processes}
use Rattle.endpoint_names.specs.Class.{opening_faults, IsFaultless}
use Rattle.endpoint_making.specs.Codes.{code_id, code_of}
use Rattle.endpoint_making.specs.Making.{channel_made, procedure_made, service_made, process_made, IsMadeOf}
use Rattle.endpoint_making.proofs.Kept.{moved}
use Rattle.endpoint_laws.proofs.Lists.{nothing_of_two, nothing_of_all, no_fault, is_so}
use Rattle.endpoint_laws.proofs.Once.{distinct_names, apart_units, known_service, single_services}
use Rattle.endpoint_laws.proofs.Bodies.{there, found_channel, code_same, code_scoped}

-- ---- a body that begins with no call

no_call : (ts : List CodeTree) (n : CodeNode) (b : Body) → node_tree ts n ≡ code_of b → opening_faults b ≡ [] → code.begins_with_call (Some n) ≡ false
no_call ts (node.Call f p ss) (Does a rest) h o = absurd cc
no_call ts (node.Call f p ss) (Offers k a arms) h o = absurd cc
no_call ts (node.Call f p ss) (Tests t first second) h o = absurd cc
no_call ts (node.Call f p ss) (Calls q c) h o = absurd cc
no_call ts (node.Call f p ss) Ends h o = absurd cc
no_call ts (node.Join c r k m) b h o = refl
no_call ts (node.Send k g x m) b h o = refl
no_call ts (node.Recv k a x m) b h o = refl
no_call ts (node.Pick k g l m) b h o = refl
no_call ts (node.Branch k a arms) b h o = refl
no_call ts (node.Throw k t g m) b h o = refl
no_call ts (node.Catch k a g m) b h o = refl
no_call ts (node.Set x t m) b h o = refl
no_call ts (node.Show t m) b h o = refl
no_call ts (node.Host x f l r m) b h o = refl
no_call ts (node.If t first second) b h o = refl
no_call ts node.End b h o = refl

-- ---- names of what is made

module _ {X Y : Type 0} (f : X → Y) (g : Y → NameId) where
  pub names_made : (xs : List X) (ys : List Y) → ys ≡ map f xs → code.AreDistinct (map (λ x. g (f x)) xs) → code.AreDistinct (map g ys)
  names_made xs ys e h = subst (λ zs. code.AreDistinct (map g zs)) (sym e) (subst code.AreDistinct (sym (map-map g f xs)) h)

module _ (w : Written) (names texts hosts : List (List ℕ)) (e : Endpoints) (made : IsMadeOf w names texts e) where
  roles_apart : (c : Channel) → channel_faults w c ≡ [] → code.AreDistinct (names_in c.roles.active ++ names_in c.roles.serve)
  roles_apart c h =
      let two = nothing_of_two (repeated [] (map sign_of_name (c.roles.active ++ c.roles.serve))) (flat_map (unprovided w c.name.name) c.roles.serve) h in
      subst code.AreDistinct (map-append (λ x. x.name) c.roles.active c.roles.serve) (distinct_names (λ x. x) (c.roles.active ++ c.roles.serve) two.0)

  has_service_made : (c r : NameId) → is_known (keys_of sign_of_service w.services) (both c r) ≡ true → code.has_service c r e.services ≡ true
  has_service_made c r h = ap (code.has_service c r) made.services ∙ sym (known_service w.services c r) ∙ h

  roles_provided : (c : Channel) → channel_faults w c ≡ [] → All (λ r. code.has_service c.name.name r e.services ≡ true) (names_in c.roles.serve)
  roles_provided c h =
      let two = nothing_of_two (repeated [] (map sign_of_name (c.roles.active ++ c.roles.serve))) (flat_map (unprovided w c.name.name) c.roles.serve) h in
      let all = nothing_of_all (unprovided w c.name.name) c.roles.serve two.1 in
      All-map (λ r. code.has_service c.name.name r e.services ≡ true) (λ x. x.name) c.roles.serve (λ i d lt. has_service_made c.name.name _ (is_so _ (no_fault _ _ (all i d lt))))

  is_served : (v : Service) → service_faults (setting w names hosts) v ≡ [] → code.IsServed e (service_made v)
  is_served v h =
      let all = nothing_of_two (unknown_channel w v.channel ++ unserved (channel_of w v.channel.name) v.role) (body_faults (setting w names hosts) (v.channel.name ∷ []) (body_at w.lines.items v.body)) h in
      let two = nothing_of_two (unknown_channel w v.channel) (unserved (channel_of w v.channel.name) v.role) all.0 in
      let k = there (channel_of w v.channel.name) v.channel.place two.0 in
      let listed : code.is_among v.role.name (names_in k.0.roles.serve) ≡ true = is_so _ (no_fault _ v.role.place (subst (λ o. unserved o v.role ≡ []) k.1 two.1)) in
      (channel_made k.0, found_channel w names texts hosts e made v.channel.name k.0 k.1, listed)

  procedure_sessions : (p : Procedure) → procedure_faults (setting w names hosts) p ≡ [] → code.AreDistinct (names_in p.signature.sessions)
  procedure_sessions p h =
      let two = nothing_of_two (repeated [] (map sign_of_name p.signature.sessions)) (body_faults (setting w names hosts) (names_in p.signature.sessions) (body_at w.lines.items p.body)) h in
      distinct_names (λ x. x) p.signature.sessions two.0

  procedure_body : (p : Procedure) → p.body.0 < length w.lines.items → procedure_faults (setting w names hosts) p ≡ [] → code.IsScoped e (code_id p.body) (names_in p.signature.sessions)
  procedure_body p lt h =
      let two = nothing_of_two (repeated [] (map sign_of_name p.signature.sessions)) (body_faults (setting w names hosts) (names_in p.signature.sessions) (body_at w.lines.items p.body)) h in
      code_scoped w names texts hosts e made p.body (names_in p.signature.sessions) lt two.1

  service_body : (v : Service) → v.body.0 < length w.lines.items → service_faults (setting w names hosts) v ≡ [] → code.IsScoped e (code_id v.body) (v.channel.name ∷ [])
  service_body v lt h =
      let all = nothing_of_two (unknown_channel w v.channel ++ unserved (channel_of w v.channel.name) v.role) (body_faults (setting w names hosts) (v.channel.name ∷ []) (body_at w.lines.items v.body)) h in
      code_scoped w names texts hosts e made v.body (v.channel.name ∷ []) lt all.1

  begins_otherwise : (p : Procedure) → opening_faults (body_at w.lines.items p.body) ≡ [] → code.begins_with_call (node_at e (code_id p.body)) ≡ false
  begins_otherwise p h = go (node_at e (code_id p.body)) refl where
    go : (o : Option CodeNode) → node_at e (code_id p.body) ≡ o → code.begins_with_call o ≡ false
    go None is = refl
    go (Some n) is =
        no_call (trees_of e.code.nodes) n (body_at w.lines.items p.body)
        (sym (code_at-node e.code.nodes (code_id p.body) n e.code.closed is) ∙ code_same w names texts hosts e made p.body) h

  pub no_name_fault : IsFaultless (setting w names hosts) → code.HasNoNameFault e
  no_name_fault f =
      let s = setting w names hosts in
      let d = nothing_of_two (faults_of_channels w ++ faults_of_procedures s ++ faults_of_services s) (faults_of_processes s) f.names in
      let c = nothing_of_two (faults_of_channels w ++ faults_of_procedures s) (faults_of_services s) d.0 in
      let b = nothing_of_two (faults_of_channels w) (faults_of_procedures s) c.0 in
      let channels = nothing_of_two (repeated [] (map sign_of_channel w.channels)) (flat_map (channel_faults w) w.channels) b.0 in
      let procedures = nothing_of_two (repeated [] (map sign_of_procedure w.procedures)) (flat_map (procedure_faults s) w.procedures) b.1 in
      let services = nothing_of_two (repeated [] (map sign_of_service w.services)) (flat_map (service_faults s) w.services) c.1 in
      let processes = nothing_of_two (repeated [] (map sign_of_process w.processes)) (flat_map (process_faults s) w.processes) d.1 in
      let each_channel = nothing_of_all (channel_faults w) w.channels channels.1 in
      let each_procedure = nothing_of_all (procedure_faults s) w.procedures procedures.1 in
      let each_service = nothing_of_all (service_faults s) w.services services.1 in
      let each_process = nothing_of_all (process_faults s) w.processes processes.1 in
      record {
        channels = names_made channel_made (λ k. k.name) w.channels e.channels made.channels (distinct_names (λ k. k.name) w.channels channels.0);
        roles = moved (λ k. code.AreDistinct (k.active ++ k.serve)) channel_made w.channels e.channels made.channels (λ i x lt. roles_apart (slice_index_or w.channels i x) (each_channel i x lt));
        processes = names_made process_made (λ p. p.name) w.processes e.processes made.processes (distinct_names (λ p. p.name) w.processes processes.0);
        procedures = subst code.AreApart (sym made.procedures) (apart_units w.procedures procedures.0);
        sessions = moved (λ q. code.AreDistinct q.sessions) procedure_made w.procedures e.procedures made.procedures (λ i x lt. procedure_sessions (slice_index_or w.procedures i x) (each_procedure i x lt));
        services = subst code.AreSingle (sym made.services) (single_services w.services services.0);
        served = moved (code.IsServed e) service_made w.services e.services made.services (λ i x lt. is_served (slice_index_or w.services i x) (each_service i x lt));
        provided = moved (λ k. All (λ r. code.has_service k.name r e.services ≡ true) k.serve) channel_made w.channels e.channels made.channels (λ i x lt. roles_provided (slice_index_or w.channels i x) (each_channel i x lt));
        procedure_bodies = moved (λ q. code.IsScoped e q.body q.sessions) procedure_made w.procedures e.procedures made.procedures (λ i x lt. procedure_body (slice_index_or w.procedures i x) (w.inside.procedures i x lt) (each_procedure i x lt));
        service_bodies = moved (λ v. code.IsScoped e v.body (v.channel ∷ [])) service_made w.services e.services made.services (λ i x lt. service_body (slice_index_or w.services i x) (w.inside.services i x lt) (each_service i x lt));
        process_bodies = moved (λ p. code.IsScoped e p.body []) process_made w.processes e.processes made.processes (λ i x lt. code_scoped w names texts hosts e made (slice_index_or w.processes i x).body [] (w.inside.processes i x lt) (each_process i x lt));
      }

  pub no_call_fault : IsFaultless (setting w names hosts) → code.HasNoCallFault e
  no_call_fault f =
      let each = nothing_of_all (λ p. opening_faults (body_at w.lines.items p.body)) w.procedures f.begins in
      moved (λ q. code.begins_with_call (node_at e q.body) ≡ false) procedure_made w.procedures e.procedures made.procedures (λ i x lt. begins_otherwise (slice_index_or w.procedures i x) (each i x lt))

-- What is made of units without a fault has none
pub made_is_faultless : (w : Written) (names texts hosts : List (List ℕ)) (e : Endpoints) → IsMadeOf w names texts e → IsFaultless (setting w names hosts) → code.IsFaultless e
made_is_faultless w names texts hosts e made f = record { names = no_name_fault w names texts hosts e made f; calls = no_call_fault w names texts hosts e made f }
