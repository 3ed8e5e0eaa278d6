-- Code that uses its session names well is written without a fault.
use Rattle.std.proofs.Common.{◌≡◌, ◌==◌, ◌&&◌, ◌||◌, ℕ, Bool, true, false, not, List, [], ◌∷◌, ◌++◌, length, map, refl, ap, sym, ◌∙◌, subst, Some, None, is_some}
use Rattle.std.specs.Prelude.{Option, if◌then◌else◌, slice_index_or}
use Rattle.std.specs.List.{flat_map}
use Rattle.std.proofs.lemmas.List.{length-map}
use Rattle.std.proofs.lemmas.Option.{slice_get_within, get_or_from_slice_get}
use Rattle.chor_base.specs.declared.names.NameId.{NameId}
use Rattle.endpoint_reader.specs.declared.input.Named.{Named}
use Rattle.endpoint_reader.specs.declared.node.Action.{Action as Deed}
use Rattle.endpoint_reader.specs.declared.node.Action.TheVariants as deed
use Rattle.endpoint_reader.specs.declared.lists.Signature.{Signature}
use Rattle.endpoint_reader.specs.declared.lines.LineId.{LineId}
use Rattle.endpoint_reader.specs.declared.written.Channel.{Channel}
use Rattle.endpoint_reader.specs.declared.written.Procedure.{Procedure}
use Rattle.endpoint_reader.specs.declared.written.Written.{Written}
use Rattle.endpoint_code.specs.declared.code.CodeId.{CodeId}
use Rattle.endpoint_code.specs.declared.code.CodeNode.{CodeNode}
use Rattle.endpoint_code.specs.declared.code.CodeNode.TheVariants as node
use Rattle.endpoint_code.specs.declared.endpoints.Channel.{Channel as CodeChannel}
use Rattle.endpoint_code.specs.declared.endpoints.Procedure.{Procedure as CodeProcedure}
use Rattle.endpoint_code.specs.declared.endpoints.Endpoints.{Endpoints}
use Rattle.endpoint_code.specs.Faults.{is_among, AreDistinct, one_more, all_among, asks_known, TableAsksKnown, IsScoped, joins, sends, receives, picks, offers, gives, gains, sets, shows, asks, tests, calls, ends, AllScoped, no_arm, one_arm}
use Rattle.endpoint_code.specs.Labels.{has_label, HasDistinctLabels, AreDistinctArms}
use Rattle.endpoint_code.specs.Network as network
use Rattle.endpoint_code.specs.Trees.{CodeTree, Arms, arms_in, trees_of, code_at}
use Rattle.endpoint_code.proofs.CodeTables.{code_at-node}
use Rattle.merged_codes.specs.Scoped.{IsScopedAction, IsScopedTree, AreScopedArms, IsScopedCall}
use Rattle.endpoint_names.specs.Keys.{alone, both, same_key, sign_of_name, sign_of_channel, sign_of_procedure, first_by}
use Rattle.endpoint_names.specs.Bodies as body
use Rattle.endpoint_names.specs.Faults.{fault_at, names_in, repeated, channel_of, procedure_of, unknown_channel, inactive, unbound, bound_again, bound_after, wrong_call, setting, action_faults, call_faults, body_faults, arms_faults}
use Rattle.endpoint_code.specs.Asked.{asks_so, AsksTree, AsksArms}
use Rattle.endpoint_names.proofs.Keys.{number_turned, left_true, right_true}
use Rattle.endpoint_making.specs.Codes.{code_id, action_of, code_of, arms_of}
use Rattle.endpoint_making.specs.Making.{channel_made, procedure_made, IsMadeOf}
use Rattle.endpoint_laws.proofs.Lists.{two_nothings, faultless, faultless_so, count_same}
use Rattle.endpoint_laws.proofs.Once.{keys_in, AreOnce, not_again, names_distinct, same_alone}
use Rattle.endpoint_laws.proofs.Bodies.{found_channel, procedures_found, bound_same, label_known, code_same}

-- all that is asked of a tree
pub record IsFine (known : NameId → Bool) (e : Endpoints) (bs : List NameId) (c : CodeTree) : Type 0 where
  pub scoped : IsScopedTree e c bs
  pub distinct : HasDistinctLabels c
  pub asks : AsksTree known c

pub record AreFine (known : NameId → Bool) (e : Endpoints) (bs : List NameId) (arms : Arms) : Type 0 where
  pub scoped : AreScopedArms e arms bs
  pub distinct : AreDistinctArms arms
  pub asks : AsksArms known arms

label_in : (ts : List CodeTree) (l : NameId) (arms : List (NameId × CodeId)) → is_among l (map (λ arm. arm.0) arms) ≡ has_label l (arms_in ts arms)
label_in ts l [] = refl
label_in ts l (arm ∷ arms) = ap (λ b. (l.0 == arm.0.0) || b) (label_in ts l arms)

-- ---- from the table to its trees

module _ (known : NameId → Bool) (e : Endpoints) (asked : TableAsksKnown known e) where
  abbrev ts : List CodeTree
  ts = trees_of e.code.nodes

  known_there : (id : CodeId) (n : CodeNode) → network.node_at e id ≡ Some n → asks_known known n ≡ true
  known_there id n h = subst (λ m. asks_known known m ≡ true) (get_or_from_slice_get e.code.nodes id.0 n n h) (asked id.0 n (slice_get_within e.code.nodes id.0 n h))

  put : (bs : List NameId) (id : CodeId) (c : CodeTree) → code_at e.code.nodes id ≡ c → IsFine known e bs c → IsFine known e bs (code_at e.code.nodes id)
  put bs id c is f = subst (λ t. IsFine known e bs t) (sym is) f

  mutual
    pub tree_fine : {id : CodeId} {bs : List NameId} → IsScoped e id bs → IsFine known e bs (code_at e.code.nodes id)
    tree_fine {id} {bs} (joins h a f d) = let g = tree_fine d in put bs id _ (code_at-node e.code.nodes id _ e.code.closed h) (record { scoped = ((a, f), g.scoped); distinct = g.distinct; asks = (tt, g.asks) })
    tree_fine {id} {bs} (sends h a d) = let g = tree_fine d in put bs id _ (code_at-node e.code.nodes id _ e.code.closed h) (record { scoped = (a, g.scoped); distinct = g.distinct; asks = (tt, g.asks) })
    tree_fine {id} {bs} (receives h a d) = let g = tree_fine d in put bs id _ (code_at-node e.code.nodes id _ e.code.closed h) (record { scoped = (a, g.scoped); distinct = g.distinct; asks = (tt, g.asks) })
    tree_fine {id} {bs} (picks h a d) = let g = tree_fine d in put bs id _ (code_at-node e.code.nodes id _ e.code.closed h) (record { scoped = (a, g.scoped); distinct = g.distinct; asks = (tt, g.asks) })
    tree_fine {id} {bs} (offers h a u d) = let g = arms_fine d u in put bs id _ (code_at-node e.code.nodes id _ e.code.closed h) (record { scoped = (a, g.scoped); distinct = g.distinct; asks = g.asks })
    tree_fine {id} {bs} (gives h a f d) = let g = tree_fine d in put bs id _ (code_at-node e.code.nodes id _ e.code.closed h) (record { scoped = ((a, f), g.scoped); distinct = g.distinct; asks = (tt, g.asks) })
    tree_fine {id} {bs} (gains h a f d) = let g = tree_fine d in put bs id _ (code_at-node e.code.nodes id _ e.code.closed h) (record { scoped = ((a, f), g.scoped); distinct = g.distinct; asks = (tt, g.asks) })
    tree_fine {id} {bs} (sets h d) = let g = tree_fine d in put bs id _ (code_at-node e.code.nodes id _ e.code.closed h) (record { scoped = (tt, g.scoped); distinct = g.distinct; asks = (tt, g.asks) })
    tree_fine {id} {bs} (shows h d) = let g = tree_fine d in put bs id _ (code_at-node e.code.nodes id _ e.code.closed h) (record { scoped = (tt, g.scoped); distinct = g.distinct; asks = (tt, g.asks) })
    tree_fine {id} {bs} (asks h d) = let g = tree_fine d in put bs id _ (code_at-node e.code.nodes id _ e.code.closed h) (record { scoped = (tt, g.scoped); distinct = g.distinct; asks = (known_there id _ h, g.asks) })
    tree_fine {id} {bs} (tests h c d) = let f = tree_fine c in let g = tree_fine d in put bs id _ (code_at-node e.code.nodes id _ e.code.closed h) (record { scoped = (f.scoped, g.scoped); distinct = (f.distinct, g.distinct); asks = (f.asks, g.asks) })
    tree_fine {id} {bs} (calls {q = q} h f n b u) = put bs id _ (code_at-node e.code.nodes id _ e.code.closed h) (record { scoped = record { unit = q; found = f; count = n; bound = b; apart = u }; distinct = tt; asks = tt })
    tree_fine {id} {bs} (ends h) = put bs id _ (code_at-node e.code.nodes id _ e.code.closed h) (record { scoped = tt; distinct = tt; asks = tt })

    pub arms_fine : {arms : List (NameId × CodeId)} {bs : List NameId} → AllScoped e arms bs → AreDistinct (map (λ arm. arm.0) arms) → AreFine known e bs (arms_in ts arms)
    arms_fine no_arm u = record { scoped = tt; distinct = tt; asks = tt }
    arms_fine (one_arm {l = l} {arms = arms} d ds) (one_more n u) =
        let f = tree_fine d in
        let g = arms_fine ds u in
        record { scoped = (f.scoped, g.scoped); distinct = (sym (label_in ts l arms) ∙ n, f.distinct, g.distinct); asks = (f.asks, g.asks) }

-- ---- what isn't declared

channels_missing : (cs : List Channel) (c : NameId) → first_by sign_of_channel cs (alone c) ≡ None → network.channel_of (map channel_made cs) c ≡ None
channels_missing [] c h = refl
channels_missing (x ∷ xs) c h = go (same_key (alone c) (alone x.name.name)) refl h (channels_missing xs c) where
  go : (b : Bool) → same_key (alone c) (alone x.name.name) ≡ b → (if b then Some x else first_by sign_of_channel xs (alone c)) ≡ None
      → (first_by sign_of_channel xs (alone c) ≡ None → network.channel_of (map channel_made xs) c ≡ None)
      → (if x.name.name.0 == c.0 then Some (channel_made x) else network.channel_of (map channel_made xs) c) ≡ None
  go true t f ih = absurd cc
  go false t f ih =
      ap (λ b. if b then Some (channel_made x) else network.channel_of (map channel_made xs) c) (number_turned x.name.name.0 c.0 ∙ sym (same_alone c x.name.name) ∙ t) ∙ ih f

procedures_missing : (ps : List Procedure) (f p : NameId) → first_by sign_of_procedure ps (both f p) ≡ None → network.procedure_of (map procedure_made ps) f p ≡ None
procedures_missing [] f p h = refl
procedures_missing (x ∷ xs) f p h = go ((f.0 == g.0) && (p.0 == r.0)) refl h (procedures_missing xs f p) where
  g : NameId
  g = x.signature.name.name

  r : NameId
  r = x.signature.param.name

  turned : ((g.0 == f.0) && (r.0 == p.0)) ≡ ((f.0 == g.0) && (p.0 == r.0))
  turned = ap (λ b. b && (r.0 == p.0)) (number_turned g.0 f.0) ∙ ap (λ b. (f.0 == g.0) && b) (number_turned r.0 p.0)

  go : (b : Bool) → ((f.0 == g.0) && (p.0 == r.0)) ≡ b → (if b then Some x else first_by sign_of_procedure xs (both f p)) ≡ None
      → (first_by sign_of_procedure xs (both f p) ≡ None → network.procedure_of (map procedure_made xs) f p ≡ None)
      → (if (g.0 == f.0) && (r.0 == p.0) then Some (procedure_made x) else network.procedure_of (map procedure_made xs) f p) ≡ None
  go true t e ih = absurd cc
  go false t e ih = ap (λ b. if b then Some (procedure_made x) else network.procedure_of (map procedure_made xs) f p) (turned ∙ t) ∙ ih e

all_there : (bs : List NameId) (ks : List Named) → all_among (names_in ks) bs ≡ true → flat_map (unbound bs) ks ≡ []
all_there bs [] h = refl
all_there bs (k ∷ ks) h =
    two_nothings (unbound bs k) (flat_map (unbound bs) ks) (faultless_so (is_among k.name bs) k.place (left_true (is_among k.name bs) (all_among (names_in ks) bs) h))
    (all_there bs ks (right_true (is_among k.name bs) (all_among (names_in ks) bs) h))

labels_once : (arms : body.Arms) → AreDistinctArms (arms_of arms) → AreOnce (keys_in (map sign_of_name (body.labels_of arms)))
labels_once body.NoArms d = tt
labels_once (body.Arm l b others) d = (sym (label_known l.name others) ∙ d.0, labels_once others d.2)

-- every function is known to who knows all
any_node : (n : CodeNode) → asks_known (λ x. true) n ≡ true
any_node (node.Join c r k next) = refl
any_node (node.Send k b x next) = refl
any_node (node.Recv k a x next) = refl
any_node (node.Pick k b l next) = refl
any_node (node.Branch k a arms) = refl
any_node (node.Throw k b g next) = refl
any_node (node.Catch k a g next) = refl
any_node (node.Set x v next) = refl
any_node (node.Show v next) = refl
any_node (node.Host x f v u next) = refl
any_node (node.If v first second) = refl
any_node (node.Call f p ss) = refl
any_node node.End = refl

pub any_known : (e : Endpoints) → TableAsksKnown (λ x. true) e
any_known e k d lt = any_node (slice_index_or e.code.nodes k d)

-- ---- from trees to faults

module _ (w : Written) (names texts hosts : List (List ℕ)) (e : Endpoints) (made : IsMadeOf w names texts e) where
  module _ (c : NameId) where
    -- the channel of a name is the one that is written
    pub channel_there : (k : CodeChannel) → network.channel_of e.channels c ≡ Some k → (x : Channel) × (channel_of w c ≡ Some x) × (channel_made x ≡ k)
    channel_there k f = go (channel_of w c) refl where
      go : (o : Option Channel) → channel_of w c ≡ o → (x : Channel) × (channel_of w c ≡ Some x) × (channel_made x ≡ k)
      go None is = let none : network.channel_of e.channels c ≡ None = ap (λ cs. network.channel_of cs c) made.channels ∙ channels_missing w.channels c is in absurd cc
      go (Some x) is = let found = found_channel w names texts hosts e made c x is in (x, is, cc)

  procedure_there : (f p : NameId) (u : CodeProcedure) → network.procedure_of e.procedures f p ≡ Some u → (x : Procedure) × (procedure_of w f p ≡ Some x) × (procedure_made x ≡ u)
  procedure_there f p u h = go (procedure_of w f p) refl where
    go : (o : Option Procedure) → procedure_of w f p ≡ o → (x : Procedure) × (procedure_of w f p ≡ Some x) × (procedure_made x ≡ u)
    go None is = let none : network.procedure_of e.procedures f p ≡ None = ap (λ ps. network.procedure_of ps f p) made.procedures ∙ procedures_missing w.procedures f p is in absurd cc
    go (Some x) is =
        let found : network.procedure_of e.procedures f p ≡ Some (procedure_made x) = ap (λ ps. network.procedure_of ps f p) made.procedures ∙ procedures_found w.procedures f p x is in
        (x, is, cc)

  action_back : (bs : List NameId) (a : Deed) → IsScopedAction e (action_of a) bs → asks_so (setting w names hosts).is_function (action_of a) → action_faults (setting w names hosts) bs a ≡ []
  action_back bs (deed.Join c r k) (a, f) u =
      let x = channel_there c.name a.0 a.1 in
      let listed : is_among r.name (names_in x.0.roles.active) ≡ true = ap (λ y. is_among r.name y.active) x.2 ∙ a.2 in
      let known : unknown_channel w c ≡ [] = ap (λ o. fault_at (not (is_some o)) c.place) x.1 in
      let active : inactive (channel_of w c.name) r ≡ [] = ap (λ o. inactive o r) x.1 ∙ faultless_so (is_among r.name (names_in x.0.roles.active)) r.place listed in
      two_nothings (unknown_channel w c ++ inactive (channel_of w c.name) r) (bound_again bs k) (two_nothings (unknown_channel w c) (inactive (channel_of w c.name) r) known active)
      (faultless (is_among k.name bs) k.place f)
  action_back bs (deed.Send k b x) a u = faultless_so (is_among k.name bs) k.place a
  action_back bs (deed.Recv k b x) a u = faultless_so (is_among k.name bs) k.place a
  action_back bs (deed.Pick k b l) a u = faultless_so (is_among k.name bs) k.place a
  action_back bs (deed.Give k b g) (a, f) u = two_nothings (unbound bs k) (unbound bs g) (faultless_so (is_among k.name bs) k.place a) (faultless_so (is_among g.name bs) g.place f)
  action_back bs (deed.Gain k b g) (a, f) u = two_nothings (unbound bs k) (bound_again bs g) (faultless_so (is_among k.name bs) k.place a) (faultless (is_among g.name bs) g.place f)
  action_back bs (deed.Set x v) a u = refl
  action_back bs (deed.Show v) a u = refl
  action_back bs (deed.Host x f v g) a u = faultless_so ((setting w names hosts).is_function f.name) f.place u

  call_back : (bs : List NameId) (c : Signature) → IsScopedCall e c.name.name c.param.name (names_in c.sessions) bs → call_faults (setting w names hosts) bs c ≡ []
  call_back bs c s =
      let o = procedure_of w c.name.name c.param.name in
      let x = procedure_there c.name.name c.param.name s.unit s.found in
      let counted : length c.sessions ≡ length x.0.signature.sessions =
      sym (length-map c.sessions (λ k. k.name)) ∙ s.count ∙ ap (λ q. length q.sessions) (sym x.2) ∙ length-map x.0.signature.sessions (λ k. k.name) in
      let fits : wrong_call o c ≡ [] =
      ap (λ p. wrong_call p c) x.1 ∙ faultless_so (length c.sessions == length x.0.signature.sessions) c.name.place (count_same (length c.sessions) (length x.0.signature.sessions) counted) in
      two_nothings (wrong_call o c ++ flat_map (unbound bs) c.sessions) (repeated [] (map sign_of_name c.sessions))
      (two_nothings (wrong_call o c) (flat_map (unbound bs) c.sessions) fits (all_there bs c.sessions s.bound)) (names_distinct (λ k. k) c.sessions s.apart)

  mutual
    body_back : (bs : List NameId) (b : body.Body) → IsScopedTree e (code_of b) bs → HasDistinctLabels (code_of b) → AsksTree (setting w names hosts).is_function (code_of b) → body_faults (setting w names hosts) bs b ≡ []
    body_back bs (body.Does a rest) s d k =
        two_nothings (action_faults (setting w names hosts) bs a) (body_faults (setting w names hosts) (bound_after bs a) rest) (action_back bs a s.0 k.0)
        (body_back (bound_after bs a) rest (subst (λ cs. IsScopedTree e (code_of rest) cs) (bound_same a bs) s.1) d k.1)
    body_back bs (body.Offers x a arms) s d k =
        let labels = repeated [] (map sign_of_name (body.labels_of arms)) in
        two_nothings (unbound bs x ++ labels) (arms_faults (setting w names hosts) bs arms)
        (two_nothings (unbound bs x) labels (faultless_so (is_among x.name bs) x.place s.0) (not_again (map sign_of_name (body.labels_of arms)) (labels_once arms d))) (arms_back bs arms s.1 d k)
    body_back bs (body.Tests t first second) s d k =
        two_nothings (body_faults (setting w names hosts) bs first) (body_faults (setting w names hosts) bs second) (body_back bs first s.0 d.0 k.0) (body_back bs second s.1 d.1 k.1)
    body_back bs (body.Calls p c) s d k = call_back bs c s
    body_back bs body.Ends s d k = refl

    arms_back : (bs : List NameId) (arms : body.Arms) → AreScopedArms e (arms_of arms) bs → AreDistinctArms (arms_of arms) → AsksArms (setting w names hosts).is_function (arms_of arms)
        → arms_faults (setting w names hosts) bs arms ≡ []
    arms_back bs body.NoArms s d k = refl
    arms_back bs (body.Arm l b others) s d k =
        two_nothings (body_faults (setting w names hosts) bs b) (arms_faults (setting w names hosts) bs others) (body_back bs b s.0 d.1 k.0) (arms_back bs others s.1 d.2 k.1)

  pub written_scoped : (id : LineId) (bs : List NameId) → IsScoped e (code_id id) bs → AsksTree (setting w names hosts).is_function (code_at e.code.nodes (code_id id))
      → body_faults (setting w names hosts) bs (body.body_at w.lines.items id) ≡ []
  written_scoped id bs d known =
      let same = code_same w names texts hosts e made id in
      let there = tree_fine (λ x. true) e (any_known e) d in
      let f : IsFine (setting w names hosts).is_function e bs (code_of (body.body_at w.lines.items id)) =
      subst (λ t. IsFine (setting w names hosts).is_function e bs t) same (record { scoped = there.scoped; distinct = there.distinct; asks = known }) in
      body_back bs (body.body_at w.lines.items id) f.scoped f.distinct f.asks
