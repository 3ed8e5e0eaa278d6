-- Units without a fault ask no other host function.
use Rattle.std.proofs.Common.{◌≡◌, ℕ, List, [], ◌∷◌, ◌++◌, map, refl, ap, sym, ◌∙◌, subst}
use Rattle.std.specs.Prelude.{All, Contains, bytes_eq}
use Rattle.std.specs.List.{AllByRecursion, list_any, flat_map}
use Rattle.chor_base.specs.declared.names.NameId.{NameId}
use Rattle.chor_base.specs.Writing.{name_in}
use Rattle.chor_base.proofs.Members.{at_head, at_tail}
use Rattle.endpoint_reader.specs.declared.node.Action.{Action}
use Rattle.endpoint_reader.specs.declared.node.Action.TheVariants as deed
use Rattle.endpoint_reader.specs.declared.lines.LineId.{LineId}
use Rattle.endpoint_reader.specs.declared.written.Written.{Written}
use Rattle.endpoint_code.specs.Asked.{asks_so, AsksTree, AsksArms}
use Rattle.endpoint_code.specs.declared.code.CodeId.{CodeId}
use Rattle.endpoint_code.specs.declared.endpoints.Endpoints.{Endpoints}
use Rattle.endpoint_code.specs.Faults.{AsksKnown, is_listed}
use Rattle.endpoint_code.specs.Trees.{code_at}
use Rattle.endpoint_names.specs.Keys.{sign_of_name, sign_of_procedure, sign_of_service, sign_of_process}
use Rattle.endpoint_names.specs.Bodies.{Body, Does, Offers, Tests, Calls, Ends, Arms, NoArms, Arm, labels_of, body_at}
use Rattle.endpoint_names.specs.Faults.{names_in, repeated, channel_of, unknown_channel, unserved, unbound, bound_after, Setting, setting, action_faults, body_faults, arms_faults, procedure_faults, service_faults, process_faults, faults_of_channels, faults_of_procedures, faults_of_services, faults_of_processes}
use Rattle.endpoint_names.specs.Class.{IsFaultless}
use Rattle.endpoint_making.specs.Codes.{code_id, action_of, code_of, arms_of}
use Rattle.endpoint_making.specs.Making.{procedure_made, service_made, process_made, IsMadeOf}
use Rattle.endpoint_laws.proofs.Lists.{nothing_of_two, nothing_of_all, no_fault, is_so}
use Rattle.endpoint_laws.proofs.Bodies.{code_same}

-- ---- bodies

module _ (s : Setting) where
  action_asks : (bs : List NameId) (a : Action) → action_faults s bs a ≡ [] → asks_so s.is_function (action_of a)
  action_asks bs (deed.Host x f l r) h = is_so (s.is_function f.name) (no_fault _ f.place h)
  action_asks bs (deed.Join c r k) h = tt
  action_asks bs (deed.Send k b x) h = tt
  action_asks bs (deed.Recv k a x) h = tt
  action_asks bs (deed.Pick k b l) h = tt
  action_asks bs (deed.Give k b g) h = tt
  action_asks bs (deed.Gain k a g) h = tt
  action_asks bs (deed.Set x v) h = tt
  action_asks bs (deed.Show v) h = tt

  mutual
    pub body_asks : (bs : List NameId) (b : Body) → body_faults s bs b ≡ [] → AsksTree s.is_function (code_of b)
    body_asks bs (Does a rest) h =
        let two = nothing_of_two (action_faults s bs a) (body_faults s (bound_after bs a) rest) h in
        (action_asks bs a two.0, body_asks (bound_after bs a) rest two.1)
    body_asks bs (Offers k a arms) h =
        arms_ask bs arms (nothing_of_two (unbound bs k ++ repeated [] (map sign_of_name (labels_of arms))) (arms_faults s bs arms) h).1
    body_asks bs (Tests t first second) h =
        let two = nothing_of_two (body_faults s bs first) (body_faults s bs second) h in
        (body_asks bs first two.0, body_asks bs second two.1)
    body_asks bs (Calls p c) h = tt
    body_asks bs Ends h = tt

    arms_ask : (bs : List NameId) (arms : Arms) → arms_faults s bs arms ≡ [] → AsksArms s.is_function (arms_of arms)
    arms_ask bs NoArms h = tt
    arms_ask bs (Arm l b others) h =
        let two = nothing_of_two (body_faults s bs b) (arms_faults s bs others) h in
        (body_asks bs b two.0, arms_ask bs others two.1)

-- ---- units

made_each : {X Y : Type 0} (P : Y → Type 0) (f : X → Y) (xs : List X) → ((x : X) → Contains xs x → P (f x)) → AllByRecursion P (map f xs)
made_each P f [] h = tt
made_each P f (x ∷ xs) h = (h x (at_head x xs x refl), made_each P f xs (λ y m. h y (at_tail x xs y m)))

at_each : {X : Type 0} (P : X → Type 0) (xs : List X) (x : X) → All P xs → Contains xs x → P x
at_each P xs x h c = subst P c.2 (h c.0 x c.1)

module _ (w : Written) (names texts hosts : List (List ℕ)) (e : Endpoints) (made : IsMadeOf w names texts e) (f : IsFaultless (setting w names hosts)) where
  abbrev here : Setting
  here = setting w names hosts

  abbrev Asks : CodeId → Type 0
  Asks id = AsksTree here.is_function (code_at e.code.nodes id)

  unit_asks : (bs : List NameId) (id : LineId) → body_faults here bs (body_at w.lines.items id) ≡ [] → Asks (code_id id)
  unit_asks bs id h = subst (AsksTree here.is_function) (sym (code_same w names texts hosts e made id)) (body_asks here bs (body_at w.lines.items id) h)

  asks_known : AsksKnown here.is_function e
  asks_known =
      let d = nothing_of_two (faults_of_channels w ++ faults_of_procedures here ++ faults_of_services here) (faults_of_processes here) f.names in
      let c = nothing_of_two (faults_of_channels w ++ faults_of_procedures here) (faults_of_services here) d.0 in
      let b = nothing_of_two (faults_of_channels w) (faults_of_procedures here) c.0 in
      let procedures = nothing_of_two (repeated [] (map sign_of_procedure w.procedures)) (flat_map (procedure_faults here) w.procedures) b.1 in
      let services = nothing_of_two (repeated [] (map sign_of_service w.services)) (flat_map (service_faults here) w.services) c.1 in
      let processes = nothing_of_two (repeated [] (map sign_of_process w.processes)) (flat_map (process_faults here) w.processes) d.1 in
      record {
        procedures = subst (AllByRecursion (λ q. Asks q.body)) (sym made.procedures)
            (made_each (λ q. Asks q.body) procedure_made w.procedures (λ p m.
            let fault = at_each (λ q. procedure_faults here q ≡ []) w.procedures p (nothing_of_all (procedure_faults here) w.procedures procedures.1) m in
            unit_asks (names_in p.signature.sessions) p.body (nothing_of_two (repeated [] (map sign_of_name p.signature.sessions)) (body_faults here (names_in p.signature.sessions) (body_at w.lines.items p.body)) fault).1));
        services = subst (AllByRecursion (λ q. Asks q.body)) (sym made.services)
            (made_each (λ q. Asks q.body) service_made w.services (λ v m.
            let fault = at_each (λ q. service_faults here q ≡ []) w.services v (nothing_of_all (service_faults here) w.services services.1) m in
            unit_asks (v.channel.name ∷ []) v.body (nothing_of_two (unknown_channel w v.channel ++ unserved (channel_of w v.channel.name) v.role) (body_faults here (v.channel.name ∷ []) (body_at w.lines.items v.body)) fault).1));
        processes = subst (AllByRecursion (λ q. Asks q.body)) (sym made.processes)
            (made_each (λ q. Asks q.body) process_made w.processes (λ p m.
            unit_asks [] p.body (at_each (λ q. process_faults here q ≡ []) w.processes p (nothing_of_all (process_faults here) w.processes processes.1) m)));
      }

pub made_asks_known : (w : Written) (names texts hosts : List (List ℕ)) (e : Endpoints) → IsMadeOf w names texts e → IsFaultless (setting w names hosts) → AsksKnown (is_listed hosts e) e
made_asks_known w names texts hosts e made f = subst (λ ns. AsksKnown (λ x. list_any (bytes_eq (name_in ns x)) hosts) e) (sym made.names_are) (asks_known w names texts hosts e made f)
