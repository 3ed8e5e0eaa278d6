-- Files of which what is made has no fault.
use Rattle.std.proofs.Common.{◌≡◌, ◌<◌, ℕ, true, false, not, is_some, List, [], ◌∷◌, ◌++◌, length, map, refl, ap, sym, ◌∙◌, subst, Some}
use Rattle.std.specs.Prelude.{All, bytes_eq, slice_index_or}
use Rattle.std.specs.List.{flat_map, list_any}
use Rattle.std.proofs.lemmas.List.{map-append}
use Rattle.std.proofs.lemmas.Simd.{map-map}
use Rattle.std.proofs.lemmas.List.Elements.{All-nil, All-cons, All-head, All-tail, All-from_recursion}
use Rattle.std.proofs.lemmas.Option.{slice_get-get_or}
use Rattle.chor_base.specs.declared.names.NameId.{NameId}
use Rattle.chor_base.specs.Writing.{name_in}
use Rattle.endpoint_reader.specs.declared.lines.LineId.{LineId}
use Rattle.endpoint_reader.specs.declared.written.Channel.{Channel}
use Rattle.endpoint_reader.specs.declared.written.Procedure.{Procedure}
use Rattle.endpoint_reader.specs.declared.written.Service.{Service}
use Rattle.endpoint_reader.specs.declared.written.Written.{Written}
use Rattle.endpoint_code.specs.declared.code.CodeId.{CodeId}
use Rattle.endpoint_code.specs.declared.code.CodeNode.{CodeNode}
use Rattle.endpoint_code.specs.declared.code.CodeNode.TheVariants as node
use Rattle.endpoint_code.specs.declared.endpoints.Endpoints.{Endpoints}
use Rattle.endpoint_code.specs.Asked.{AsksTree}
use Rattle.endpoint_code.specs.Faults as code
use Rattle.endpoint_code.specs.Network.{node_at}
use Rattle.endpoint_code.specs.Trees.{CodeTree, node_tree, trees_of, code_at}
use Rattle.endpoint_code.proofs.CodeTables.{code_at-node}
use Rattle.endpoint_names.specs.Keys.{both, is_known, sign_of_name, sign_of_channel, sign_of_procedure, sign_of_service, sign_of_process, keys_of}
use Rattle.endpoint_names.specs.Bodies.{Body, Does, Offers, Tests, Calls, Ends, body_at}
use Rattle.endpoint_names.specs.Faults.{fault_at, names_in, repeated, channel_of, unknown_channel, unserved, unprovided, channel_faults, body_faults, setting, procedure_faults, service_faults, process_faults, faults_of_channels, faults_of_procedures, faults_of_services, faults_of_processes, name_faults}
use Rattle.endpoint_names.specs.Class.{opening_faults, begin_faults, IsFaultless}
use Rattle.endpoint_making.specs.Codes.{code_id, code_of}
use Rattle.endpoint_making.specs.Making.{channel_made, procedure_made, service_made, process_made, IsMadeOf}
use Rattle.endpoint_laws.proofs.Lists.{two_nothings, all_nothings, faultless_so}
use Rattle.endpoint_laws.proofs.Once.{known_service, names_distinct, units_apart, services_single}
use Rattle.endpoint_laws.proofs.Bodies.{code_same, count}
use Rattle.endpoint_laws.proofs.Backward.{channel_there, written_scoped}

-- what holds of all that are made holds of each item that is made
unmade : {X Y : Type 0} (P : Y → Type 0) (f : X → Y) (xs : List X) → All P (map f xs) → All (λ x. P (f x)) xs
unmade P f [] h = All-nil (λ x. P (f x))
unmade P f (x ∷ xs) h = All-cons (λ y. P (f y)) x xs (All-head P (f x) (map f xs) h) (unmade P f xs (All-tail P (f x) (map f xs) h))

of_made : {X Y : Type 0} (P : Y → Type 0) (f : X → Y) (xs : List X) (ys : List Y) → ys ≡ map f xs → All P ys → All (λ x. P (f x)) xs
of_made P f xs ys e h = unmade P f xs (subst (λ l. All P l) e h)

-- a node that is no call is no body that begins with one
opens_otherwise : (ts : List CodeTree) (n : CodeNode) (b : Body) → node_tree ts n ≡ code_of b → code.begins_with_call (Some n) ≡ false → opening_faults b ≡ []
opens_otherwise ts n (Does a rest) h o = refl
opens_otherwise ts n (Offers k a arms) h o = refl
opens_otherwise ts n (Tests t first second) h o = refl
opens_otherwise ts n Ends h o = refl
opens_otherwise ts (node.Call f p ss) (Calls q c) h o = absurd cc
opens_otherwise ts (node.Join c r k m) (Calls q x) h o = absurd cc
opens_otherwise ts (node.Send k g x m) (Calls q c) h o = absurd cc
opens_otherwise ts (node.Recv k a x m) (Calls q c) h o = absurd cc
opens_otherwise ts (node.Pick k g l m) (Calls q c) h o = absurd cc
opens_otherwise ts (node.Branch k a arms) (Calls q c) h o = absurd cc
opens_otherwise ts (node.Throw k t g m) (Calls q c) h o = absurd cc
opens_otherwise ts (node.Catch k a g m) (Calls q c) h o = absurd cc
opens_otherwise ts (node.Set x t m) (Calls q c) h o = absurd cc
opens_otherwise ts (node.Show t m) (Calls q c) h o = absurd cc
opens_otherwise ts (node.Host x f l r m) (Calls q c) h o = absurd cc
opens_otherwise ts (node.If t first second) (Calls q c) h o = absurd cc
opens_otherwise ts node.End (Calls q c) h o = absurd cc

module _ {X Y : Type 0} (f : X → Y) (g : Y → NameId) where
  names_of_made : (xs : List X) (ys : List Y) → ys ≡ map f xs → code.AreDistinct (map g ys) → code.AreDistinct (map (λ x. g (f x)) xs)
  names_of_made xs ys e h = subst code.AreDistinct (map-map g f xs) (subst (λ zs. code.AreDistinct (map g zs)) e h)

module _ (w : Written) (names texts hosts : List (List ℕ)) (e : Endpoints) (made : IsMadeOf w names texts e) (h : code.HasNoNameFault e) (asked : code.AsksKnown (setting w names hosts).is_function e) where
  roles_fine : (c : Channel) → code.AreDistinct (names_in c.roles.active ++ names_in c.roles.serve) → repeated [] (map sign_of_name (c.roles.active ++ c.roles.serve)) ≡ []
  roles_fine c d = names_distinct (λ x. x) (c.roles.active ++ c.roles.serve) (subst code.AreDistinct (sym (map-append (λ x. x.name) c.roles.active c.roles.serve)) d)

  provided_fine : (c : Channel) → All (λ r. code.has_service c.name.name r e.services ≡ true) (names_in c.roles.serve) → flat_map (unprovided w c.name.name) c.roles.serve ≡ []
  provided_fine c p =
      let each = unmade (λ r. code.has_service c.name.name r e.services ≡ true) (λ x. x.name) c.roles.serve p in
      all_nothings (unprovided w c.name.name) c.roles.serve (λ i d lt.
      let r = slice_index_or c.roles.serve i d in
      let known : is_known (keys_of sign_of_service w.services) (both c.name.name r.name) ≡ true =
      known_service w.services c.name.name r.name ∙ ap (code.has_service c.name.name r.name) (sym made.services) ∙ each i d lt in
      faultless_so (is_known (keys_of sign_of_service w.services) (both c.name.name r.name)) r.place known)

  served_fine : (v : Service) → code.IsServed e (service_made v) → unknown_channel w v.channel ++ unserved (channel_of w v.channel.name) v.role ≡ []
  served_fine v s =
      let x = channel_there w names texts hosts e made v.channel.name s.0 s.1 in
      let listed : code.is_among v.role.name (names_in x.0.roles.serve) ≡ true = ap (λ y. code.is_among v.role.name y.serve) x.2 ∙ s.2 in
      two_nothings (unknown_channel w v.channel) (unserved (channel_of w v.channel.name) v.role) (ap (λ o. fault_at (not (is_some o)) v.channel.place) x.1)
      (ap (λ o. unserved o v.role) x.1 ∙ faultless_so (code.is_among v.role.name (names_in x.0.roles.serve)) v.role.place listed)

  -- the code at a number asks known functions alone
  abbrev AsksThere : CodeId → Type 0
  AsksThere id = AsksTree (setting w names hosts).is_function (code_at e.code.nodes id)

  body_fine : (id : LineId) (bs : List NameId) → code.IsScoped e (code_id id) bs → AsksThere (code_id id) → body_faults (setting w names hosts) bs (body_at w.lines.items id) ≡ []
  body_fine id bs d k = written_scoped w names texts hosts e made id bs d k

  opens_fine : (p : Procedure) → p.body.0 < length w.lines.items → code.begins_with_call (node_at e (code_id p.body)) ≡ false → opening_faults (body_at w.lines.items p.body) ≡ []
  opens_fine p lt b =
      let within : p.body.0 < length e.code.nodes = subst (λ (n : ℕ). p.body.0 < n) (sym (count w names texts hosts e made)) lt in
      let n = slice_index_or e.code.nodes p.body.0 node.End in
      let at : node_at e (code_id p.body) ≡ Some n = slice_get-get_or e.code.nodes p.body.0 node.End within in
      opens_otherwise (trees_of e.code.nodes) n (body_at w.lines.items p.body)
      (sym (code_at-node e.code.nodes (code_id p.body) n e.code.closed at) ∙ code_same w names texts hosts e made p.body)
      (ap code.begins_with_call (sym at) ∙ b)

  channels_fine : faults_of_channels w ≡ []
  channels_fine =
      let roles = of_made (λ k. code.AreDistinct (k.active ++ k.serve)) channel_made w.channels e.channels made.channels h.roles in
      let provided = of_made (λ k. All (λ r. code.has_service k.name r e.services ≡ true) k.serve) channel_made w.channels e.channels made.channels h.provided in
      two_nothings (repeated [] (map sign_of_channel w.channels)) (flat_map (channel_faults w) w.channels)
      (names_distinct (λ c. c.name) w.channels (names_of_made channel_made (λ k. k.name) w.channels e.channels made.channels h.channels))
      (all_nothings (channel_faults w) w.channels (λ i d lt.
      let c = slice_index_or w.channels i d in
      two_nothings (repeated [] (map sign_of_name (c.roles.active ++ c.roles.serve))) (flat_map (unprovided w c.name.name) c.roles.serve) (roles_fine c (roles i d lt)) (provided_fine c (provided i d lt))))

  procedures_fine : faults_of_procedures (setting w names hosts) ≡ []
  procedures_fine =
      let sessions = of_made (λ q. code.AreDistinct q.sessions) procedure_made w.procedures e.procedures made.procedures h.sessions in
      let bodies = of_made (λ q. code.IsScoped e q.body q.sessions) procedure_made w.procedures e.procedures made.procedures h.procedure_bodies in
      let asks = of_made (λ q. AsksThere q.body) procedure_made w.procedures e.procedures made.procedures (All-from_recursion (λ q. AsksThere q.body) e.procedures asked.procedures) in
      two_nothings (repeated [] (map sign_of_procedure w.procedures)) (flat_map (procedure_faults (setting w names hosts)) w.procedures)
      (units_apart w.procedures (subst code.AreApart made.procedures h.procedures))
      (all_nothings (procedure_faults (setting w names hosts)) w.procedures (λ i d lt.
      let p = slice_index_or w.procedures i d in
      two_nothings (repeated [] (map sign_of_name p.signature.sessions)) (body_faults (setting w names hosts) (names_in p.signature.sessions) (body_at w.lines.items p.body))
      (names_distinct (λ x. x) p.signature.sessions (sessions i d lt)) (body_fine p.body (names_in p.signature.sessions) (bodies i d lt) (asks i d lt))))

  services_fine : faults_of_services (setting w names hosts) ≡ []
  services_fine =
      let served = of_made (code.IsServed e) service_made w.services e.services made.services h.served in
      let bodies = of_made (λ v. code.IsScoped e v.body (v.channel ∷ [])) service_made w.services e.services made.services h.service_bodies in
      let asks = of_made (λ v. AsksThere v.body) service_made w.services e.services made.services (All-from_recursion (λ v. AsksThere v.body) e.services asked.services) in
      two_nothings (repeated [] (map sign_of_service w.services)) (flat_map (service_faults (setting w names hosts)) w.services)
      (services_single w.services (subst code.AreSingle made.services h.services))
      (all_nothings (service_faults (setting w names hosts)) w.services (λ i d lt.
      let v = slice_index_or w.services i d in
      two_nothings (unknown_channel w v.channel ++ unserved (channel_of w v.channel.name) v.role) (body_faults (setting w names hosts) (v.channel.name ∷ []) (body_at w.lines.items v.body))
      (served_fine v (served i d lt)) (body_fine v.body (v.channel.name ∷ []) (bodies i d lt) (asks i d lt))))

  processes_fine : faults_of_processes (setting w names hosts) ≡ []
  processes_fine =
      let bodies = of_made (λ p. code.IsScoped e p.body []) process_made w.processes e.processes made.processes h.process_bodies in
      let asks = of_made (λ p. AsksThere p.body) process_made w.processes e.processes made.processes (All-from_recursion (λ p. AsksThere p.body) e.processes asked.processes) in
      two_nothings (repeated [] (map sign_of_process w.processes)) (flat_map (process_faults (setting w names hosts)) w.processes)
      (names_distinct (λ p. p.name) w.processes (names_of_made process_made (λ p. p.name) w.processes e.processes made.processes h.processes))
      (all_nothings (process_faults (setting w names hosts)) w.processes (λ i d lt. body_fine (slice_index_or w.processes i d).body [] (bodies i d lt) (asks i d lt)))

  names_fine : name_faults (setting w names hosts) ≡ []
  names_fine =
      let s = setting w names hosts in
      two_nothings (faults_of_channels w ++ faults_of_procedures s ++ faults_of_services s) (faults_of_processes s)
      (two_nothings (faults_of_channels w ++ faults_of_procedures s) (faults_of_services s) (two_nothings (faults_of_channels w) (faults_of_procedures s) channels_fine procedures_fine) services_fine)
      processes_fine

  begins_fine : code.HasNoCallFault e → begin_faults w ≡ []
  begins_fine b =
      let each = of_made (λ q. code.begins_with_call (node_at e q.body) ≡ false) procedure_made w.procedures e.procedures made.procedures b in
      all_nothings (λ p. opening_faults (body_at w.lines.items p.body)) w.procedures (λ i d lt. opens_fine (slice_index_or w.procedures i d) (w.inside.procedures i d lt) (each i d lt))

-- Where what is made has no fault, the units have none
pub faultless_is_made : (w : Written) (names texts hosts : List (List ℕ)) (e : Endpoints) → IsMadeOf w names texts e → code.IsFaultlessWith hosts e → IsFaultless (setting w names hosts)
faultless_is_made w names texts hosts e made f =
    let asked : code.AsksKnown (setting w names hosts).is_function e =
    subst (λ ns. code.AsksKnown (λ x. list_any (bytes_eq (name_in ns x)) hosts) e) made.names_are f.hosts in
    record { names = names_fine w names texts hosts e made f.faultless.names asked; begins = begins_fine w names texts hosts e made f.faultless.names asked f.faultless.calls }
