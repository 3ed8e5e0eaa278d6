-- Bodies without a fault of names use their session names well.
use Rattle.std.proofs.Common.{◌≡◌, ◌==◌, ◌&&◌, ◌||◌, ◌<◌, ℕ, Bool, true, false, not, List, [], ◌∷◌, ◌++◌, length, map, refl, ap, sym, ◌∙◌, subst, Some, None, is_some}
use Rattle.std.specs.Prelude.{Option, slice_index_or, if◌then◌else◌}
use Rattle.std.specs.List.{flat_map}
use Rattle.std.proofs.lemmas.List.{length-map}
use Rattle.std.proofs.Math.ListN.{get_or-map}
use Rattle.std.proofs.lemmas.Bool.{eqb-true}
use Rattle.chor_base.specs.declared.names.NameId.{NameId}
use Rattle.chor_base.specs.declared.rule.Place.{Place}
use Rattle.endpoint_reader.specs.declared.input.Named.{Named}
use Rattle.endpoint_reader.specs.declared.node.Action.{Action}
use Rattle.endpoint_reader.specs.declared.node.Action.TheVariants.{Join, Send, Recv, Pick, Give, Gain, Set, Show, Host}
use Rattle.endpoint_reader.specs.declared.lists.Signature.{Signature}
use Rattle.endpoint_reader.specs.declared.lines.LineId.{LineId}
use Rattle.endpoint_reader.specs.declared.written.Channel.{Channel}
use Rattle.endpoint_reader.specs.declared.written.Procedure.{Procedure}
use Rattle.endpoint_reader.specs.declared.written.Written.{Written}
use Rattle.endpoint_code.specs.declared.endpoints.Endpoints.{Endpoints}
use Rattle.endpoint_code.specs.Faults.{is_among, IsActive, all_among, IsScoped}
use Rattle.endpoint_code.specs.Labels.{has_label, HasDistinctLabels, AreDistinctArms}
use Rattle.endpoint_code.specs.Network as network
use Rattle.endpoint_code.specs.Trees as tree
use Rattle.node_table.proofs.Tables.{trees_length}
use Rattle.endpoint_code.proofs.CodeTables.{length-trees_of}
use Rattle.merged_codes.specs.Scoped as scoped
use Rattle.merged_codes.proofs.ScopedTables.{tree_tells}
use Rattle.endpoint_names.specs.Keys.{alone, both, same_key, is_known, sign_of_name, sign_of_channel, sign_of_procedure, first_by}
use Rattle.endpoint_names.specs.Bodies.{Body, Does, Offers, Tests, Calls, Ends, Arms, NoArms, Arm, labels_of, line_body, bodies_of, body_at}
use Rattle.endpoint_names.specs.Faults.{fault_at, names_in, repeated, channel_of, procedure_of, unknown_channel, inactive, unbound, bound_again, bound_after, wrong_call, setting, action_faults, call_faults, body_faults, arms_faults}
use Rattle.endpoint_names.proofs.Keys.{number_turned}
use Rattle.endpoint_making.specs.Codes.{code_id, action_of, code_of, arms_of}
use Rattle.endpoint_making.specs.Making.{channel_made, procedure_made, IsMadeOf}
use Rattle.endpoint_laws.proofs.Lists.{nothing_of_two, no_fault, is_so}
use Rattle.endpoint_laws.proofs.Once.{keys_in, AreOnce, once, same_alone, distinct_names}

-- ---- what is declared

pub channels_found : (cs : List Channel) (c : NameId) (k : Channel) → first_by sign_of_channel cs (alone c) ≡ Some k → network.channel_of (map channel_made cs) c ≡ Some (channel_made k)
channels_found [] c k h = absurd cc
channels_found (x ∷ xs) c k h = go (same_key (alone c) (alone x.name.name)) refl h (channels_found xs c k) where
  go : (b : Bool) → same_key (alone c) (alone x.name.name) ≡ b → (if b then Some x else first_by sign_of_channel xs (alone c)) ≡ Some k
      → (first_by sign_of_channel xs (alone c) ≡ Some k → network.channel_of (map channel_made xs) c ≡ Some (channel_made k))
      → (if x.name.name.0 == c.0 then Some (channel_made x) else network.channel_of (map channel_made xs) c) ≡ Some (channel_made k)
  go true t f ih =
      let g : x ≡ k = cc in
      ap (λ b. if b then Some (channel_made x) else network.channel_of (map channel_made xs) c) (number_turned x.name.name.0 c.0 ∙ sym (same_alone c x.name.name) ∙ t)
      ∙ ap (λ y. Some (channel_made y)) g
  go false t f ih =
      ap (λ b. if b then Some (channel_made x) else network.channel_of (map channel_made xs) c) (number_turned x.name.name.0 c.0 ∙ sym (same_alone c x.name.name) ∙ t) ∙ ih f

pub procedures_found : (ps : List Procedure) (f p : NameId) (q : Procedure) → first_by sign_of_procedure ps (both f p) ≡ Some q → network.procedure_of (map procedure_made ps) f p ≡ Some (procedure_made q)
procedures_found [] f p q h = absurd cc
procedures_found (x ∷ xs) f p q h = go ((f.0 == g.0) && (p.0 == r.0)) refl h (procedures_found xs f p q) where
  g : NameId
  g = x.signature.name.name

  r : NameId
  r = x.signature.param.name

  turned : ((g.0 == f.0) && (r.0 == p.0)) ≡ ((f.0 == g.0) && (p.0 == r.0))
  turned = ap (λ b. b && (r.0 == p.0)) (number_turned g.0 f.0) ∙ ap (λ b. (f.0 == g.0) && b) (number_turned r.0 p.0)

  go : (b : Bool) → ((f.0 == g.0) && (p.0 == r.0)) ≡ b → (if b then Some x else first_by sign_of_procedure xs (both f p)) ≡ Some q
      → (first_by sign_of_procedure xs (both f p) ≡ Some q → network.procedure_of (map procedure_made xs) f p ≡ Some (procedure_made q))
      → (if (g.0 == f.0) && (r.0 == p.0) then Some (procedure_made x) else network.procedure_of (map procedure_made xs) f p) ≡ Some (procedure_made q)
  go true t e ih =
      let same : x ≡ q = cc in
      ap (λ b. if b then Some (procedure_made x) else network.procedure_of (map procedure_made xs) f p) (turned ∙ t) ∙ ap (λ y. Some (procedure_made y)) same
  go false t e ih = ap (λ b. if b then Some (procedure_made x) else network.procedure_of (map procedure_made xs) f p) (turned ∙ t) ∙ ih e

pub there : {X : Type 0} (o : Option X) (p : Place) → fault_at (not (is_some o)) p ≡ [] → (k : X) × (o ≡ Some k)
there None p h = absurd cc
there (Some k) p h = (k, refl)

fits : (o : Option Procedure) (c : Signature) → wrong_call o c ≡ [] → (q : Procedure) × (o ≡ Some q) × (length c.sessions ≡ length q.signature.sessions)
fits None c h = absurd cc
fits (Some q) c h = (q, refl, eqb-true (length c.sessions) (length q.signature.sessions) (is_so _ (no_fault _ c.name.place h)))

-- ---- sessions

bound : (bs : List NameId) (k : Named) → unbound bs k ≡ [] → is_among k.name bs ≡ true
bound bs k h = is_so (is_among k.name bs) (no_fault _ k.place h)

free : (bs : List NameId) (k : Named) → bound_again bs k ≡ [] → is_among k.name bs ≡ false
free bs k h = no_fault (is_among k.name bs) k.place h

and_both : (a b : Bool) → a ≡ true → b ≡ true → (a && b) ≡ true
and_both a b h g = cc

all_bound : (bs : List NameId) (ks : List Named) → flat_map (unbound bs) ks ≡ [] → all_among (names_in ks) bs ≡ true
all_bound bs [] h = refl
all_bound bs (k ∷ ks) h = let two = nothing_of_two (unbound bs k) (flat_map (unbound bs) ks) h in and_both (is_among k.name bs) (all_among (names_in ks) bs) (bound bs k two.0) (all_bound bs ks two.1)

pub bound_same : (a : Action) (bs : List NameId) → scoped.bound_after (action_of a) bs ≡ bound_after bs a
bound_same (Join c r k) bs = refl
bound_same (Send k b x) bs = refl
bound_same (Recv k a x) bs = refl
bound_same (Pick k b l) bs = refl
bound_same (Give k b h) bs = refl
bound_same (Gain k a h) bs = refl
bound_same (Set x v) bs = refl
bound_same (Show v) bs = refl
bound_same (Host x f v w) bs = refl

pub label_known : (l : NameId) (arms : Arms) → has_label l (arms_of arms) ≡ is_known (keys_in (map sign_of_name (labels_of arms))) (alone l)
label_known l NoArms = refl
label_known l (Arm k b others) = ap (λ c. (l.0 == k.name.0) || c) (label_known l others) ∙ ap (λ c. c || is_known (keys_in (map sign_of_name (labels_of others))) (alone l)) (sym (same_alone l k.name))

-- ---- bodies

module _ (w : Written) (names texts hosts : List (List ℕ)) (e : Endpoints) (made : IsMadeOf w names texts e) where
  pub found_channel : (c : NameId) (k : Channel) → channel_of w c ≡ Some k → network.channel_of e.channels c ≡ Some (channel_made k)
  found_channel c k h = ap (λ cs. network.channel_of cs c) made.channels ∙ channels_found w.channels c k h

  is_active : (c r : Named) → unknown_channel w c ≡ [] → inactive (channel_of w c.name) r ≡ [] → IsActive e c.name r.name
  is_active c r h g =
      let k = there (channel_of w c.name) c.place h in
      let listed : is_among r.name (names_in k.0.roles.active) ≡ true = is_so _ (no_fault _ r.place (subst (λ o. inactive o r ≡ []) k.1 g)) in
      (channel_made k.0, found_channel c.name k.0 k.1, listed)

  action_scoped : (bs : List NameId) (a : Action) → action_faults (setting w names hosts) bs a ≡ [] → scoped.IsScopedAction e (action_of a) bs
  action_scoped bs (Join c r k) h =
      let all = nothing_of_two (unknown_channel w c ++ inactive (channel_of w c.name) r) (bound_again bs k) h in
      let two = nothing_of_two (unknown_channel w c) (inactive (channel_of w c.name) r) all.0 in
      (is_active c r two.0 two.1, free bs k all.1)
  action_scoped bs (Send k b x) h = bound bs k h
  action_scoped bs (Recv k a x) h = bound bs k h
  action_scoped bs (Pick k b l) h = bound bs k h
  action_scoped bs (Give k b g) h = let two = nothing_of_two (unbound bs k) (unbound bs g) h in (bound bs k two.0, bound bs g two.1)
  action_scoped bs (Gain k a g) h = let two = nothing_of_two (unbound bs k) (bound_again bs g) h in (bound bs k two.0, free bs g two.1)
  action_scoped bs (Set x v) h = tt
  action_scoped bs (Show v) h = tt
  action_scoped bs (Host x f v u) h = tt

  call_scoped : (bs : List NameId) (c : Signature) → call_faults (setting w names hosts) bs c ≡ [] → scoped.IsScopedCall e c.name.name c.param.name (names_in c.sessions) bs
  call_scoped bs c h =
      let o = procedure_of w c.name.name c.param.name in
      let all = nothing_of_two (wrong_call o c ++ flat_map (unbound bs) c.sessions) (repeated [] (map sign_of_name c.sessions)) h in
      let two = nothing_of_two (wrong_call o c) (flat_map (unbound bs) c.sessions) all.0 in
      let q = fits o c two.0 in
      record {
        unit = procedure_made q.0;
        found = ap (λ ps. network.procedure_of ps c.name.name c.param.name) made.procedures ∙ procedures_found w.procedures c.name.name c.param.name q.0 q.1;
        count = length-map c.sessions (λ x. x.name) ∙ q.2 ∙ sym (length-map q.0.signature.sessions (λ x. x.name));
        bound = all_bound bs c.sessions two.1;
        apart = distinct_names (λ x. x) c.sessions all.1;
      }

  mutual
    body_scoped : (bs : List NameId) (b : Body) → body_faults (setting w names hosts) bs b ≡ [] → scoped.IsScopedTree e (code_of b) bs × HasDistinctLabels (code_of b)
    body_scoped bs (Does a rest) h =
        let two = nothing_of_two (action_faults (setting w names hosts) bs a) (body_faults (setting w names hosts) (bound_after bs a) rest) h in
        let on = body_scoped (bound_after bs a) rest two.1 in
        ((action_scoped bs a two.0, subst (λ cs. scoped.IsScopedTree e (code_of rest) cs) (sym (bound_same a bs)) on.0), on.1)
    body_scoped bs (Offers k a arms) h =
        let all = nothing_of_two (unbound bs k ++ repeated [] (map sign_of_name (labels_of arms))) (arms_faults (setting w names hosts) bs arms) h in
        let two = nothing_of_two (unbound bs k) (repeated [] (map sign_of_name (labels_of arms))) all.0 in
        let on = arms_scoped bs arms all.1 (once (map sign_of_name (labels_of arms)) two.1) in
        ((bound bs k two.0, on.0), on.1)
    body_scoped bs (Tests t first second) h =
        let two = nothing_of_two (body_faults (setting w names hosts) bs first) (body_faults (setting w names hosts) bs second) h in
        let one = body_scoped bs first two.0 in
        let other = body_scoped bs second two.1 in
        ((one.0, other.0), (one.1, other.1))
    body_scoped bs (Calls p c) h = (call_scoped bs c h, tt)
    body_scoped bs Ends h = (tt, tt)

    arms_scoped : (bs : List NameId) (arms : Arms) → arms_faults (setting w names hosts) bs arms ≡ [] → AreOnce (keys_in (map sign_of_name (labels_of arms)))
        → scoped.AreScopedArms e (arms_of arms) bs × AreDistinctArms (arms_of arms)
    arms_scoped bs NoArms h g = (tt, tt)
    arms_scoped bs (Arm l b others) h g =
        let two = nothing_of_two (body_faults (setting w names hosts) bs b) (arms_faults (setting w names hosts) bs others) h in
        let one = body_scoped bs b two.0 in
        let rest = arms_scoped bs others two.1 g.1 in
        ((one.0, rest.0), (label_known l.name others ∙ g.0, one.1, rest.1))

  pub code_same : (id : LineId) → tree.code_at e.code.nodes (code_id id) ≡ code_of (body_at w.lines.items id)
  code_same id = ap (λ ts. slice_index_or ts id.0 tree.Ends) made.code ∙ get_or-map code_of (bodies_of w.lines.items) id.0 Ends

  pub count : length e.code.nodes ≡ length w.lines.items
  count =
      sym (length-trees_of e.code.nodes) ∙ ap length made.code ∙ length-map (bodies_of w.lines.items) code_of
      ∙ trees_length line_body w.lines.items

  pub code_scoped : (id : LineId) (bs : List NameId) → id.0 < length w.lines.items → body_faults (setting w names hosts) bs (body_at w.lines.items id) ≡ [] → IsScoped e (code_id id) bs
  code_scoped id bs lt h =
      let c = body_scoped bs (body_at w.lines.items id) h in
      tree_tells e (code_id id) bs (subst (λ (n : ℕ). id.0 < n) (sym count) lt)
      (subst (λ t. scoped.IsScopedCode e bs t) (sym (code_same id)) (record { distinct = c.1; scoped = c.0 }))
