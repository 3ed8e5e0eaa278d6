-- Linked programs have no fault.
use Rattle.std.proofs.Common.{◌≡◌, ◌<◌, ◌==◌, ◌&&◌, ◌||◌, true, false, List, [], ◌∷◌, ◌++◌, length, map, refl, sym, ap, ◌∙◌, subst}
use Rattle.std.specs.Prelude.{Contains, All}
use Rattle.std.specs.List.{AllZip}
use Rattle.std.proofs.lemmas.List.Elements.{All-head, All-tail, All-nil, All-cons, All-contains, All-contains_itself}
use Rattle.chor_base.specs.declared.names.NameId.{NameId}
use Rattle.endpoint_code.specs.declared.code.CodeId.{CodeId}
use Rattle.endpoint_code.specs.declared.endpoints.Channel.{Channel}
use Rattle.endpoint_code.specs.declared.endpoints.Procedure.{Procedure}
use Rattle.endpoint_code.specs.declared.endpoints.ServiceCode.{ServiceCode}
use Rattle.endpoint_code.specs.declared.endpoints.Process.{Process}
use Rattle.endpoint_code.specs.declared.endpoints.Endpoints.{Endpoints}
use Rattle.endpoint_code.specs.Faults.{is_among, AreDistinct, IsScoped, unit_among, AreApart, no_unit, one_unit, has_service, AreSingle, no_service, one_service, IsServed, begins_with_call, IsFaultless}
use Rattle.endpoint_code.specs.Network.{node_at, channel_of}
use Rattle.endpoint_code.specs.Trees.{code_at}
use Rattle.same_programs.specs.Words.{SameName, HasDistinctWords}
use Rattle.same_programs.specs.Programs.{SameCodeAt}
use Rattle.same_programs.proofs.Distinct.{scoped_distinct}
use Rattle.merged_codes.specs.Scoped.{IsScopedCode}
use Rattle.merged_codes.proofs.NoCall.{IsNoCall, no_call_same, no_call_code, no_call_at}
use Rattle.merged_codes.proofs.SameScopes.{scope_kept, distinct_kept}
use Rattle.merged_codes.proofs.ScopedTables.{tree_tells, tree_scoped}
use Rattle.endpoint_link.specs.Linked.{ReplacesProcedure, ReplacesService, ReplacesProcess, SuitsProcedure, SuitsCounterpart, IsLinkedCode, taken, kept, IsProcedureLinked, IsServiceLinked, IsProcessLinked, IsLinked}
use Rattle.endpoint_link.proofs.Moved.{tree_moved}
use Rattle.endpoint_link.proofs.DeclaredUnits.{tell, lifted, lifted_all, own_active, own_unit, given_active, given_unit}

-- ---- lists of units with the same names

module _ (e g r : Endpoints) where
  apart_kept : (xs ys : List Procedure) → AllZip (IsProcedureLinked e g r) xs ys → AreApart xs → AreApart ys
  apart_kept [] [] z a = no_unit
  apart_kept [] (y ∷ ys) z a = absurd z
  apart_kept (x ∷ xs) [] z a = absurd z
  apart_kept (x ∷ xs) (y ∷ ys) z (one_unit n a) = one_unit (alike xs ys z.1 x.name x.param y.name y.param z.0.name z.0.param ∙ n) (apart_kept xs ys z.1 a)
    where
      alike : (xs ys : List Procedure) → AllZip (IsProcedureLinked e g r) xs ys → (f p h q : NameId) → h ≡ f → q ≡ p → unit_among h q ys ≡ unit_among f p xs
      alike [] [] z f p h q i j = refl
      alike [] (y ∷ ys) z f p h q i j = absurd z
      alike (x ∷ xs) [] z f p h q i j = absurd z
      alike (x ∷ xs) (y ∷ ys) z f p h q i j = λ k. ((i k).0 == (z.0.name k).0 && (j k).0 == (z.0.param k).0) || alike xs ys z.1 f p h q i j k

  service_alike : (xs ys : List ServiceCode) → AllZip (IsServiceLinked e g r) xs ys → (c a d b : NameId) → d ≡ c → b ≡ a → has_service d b ys ≡ has_service c a xs
  service_alike [] [] z c a d b i j = refl
  service_alike [] (y ∷ ys) z c a d b i j = absurd z
  service_alike (x ∷ xs) [] z c a d b i j = absurd z
  service_alike (x ∷ xs) (y ∷ ys) z c a d b i j = λ k. ((i k).0 == (z.0.channel k).0 && (j k).0 == (z.0.role k).0) || service_alike xs ys z.1 c a d b i j k

  single_kept : (xs ys : List ServiceCode) → AllZip (IsServiceLinked e g r) xs ys → AreSingle xs → AreSingle ys
  single_kept [] [] z a = no_service
  single_kept [] (y ∷ ys) z a = absurd z
  single_kept (x ∷ xs) [] z a = absurd z
  single_kept (x ∷ xs) (y ∷ ys) z (one_service n a) = one_service (service_alike xs ys z.1 x.channel x.role y.channel y.role z.0.channel z.0.role ∙ n) (single_kept xs ys z.1 a)

  names_kept : (xs ys : List Process) → AllZip (IsProcessLinked e g r) xs ys → map (λ p. p.name) ys ≡ map (λ p. p.name) xs
  names_kept [] [] z = refl
  names_kept [] (y ∷ ys) z = absurd z
  names_kept (x ∷ xs) [] z = absurd z
  names_kept (x ∷ xs) (y ∷ ys) z = λ k. z.0.name k ∷ names_kept xs ys z.1 k

-- what a relation gives of the second list, where its items lie inside and the first has a property
over : {A : Type 0} (R : A → A → Type 0) (P I Q : A → Type 0) → ((x y : A) → R x y → P x → I y → Q y) → (xs ys : List A) → AllZip R xs ys → All P xs → All I ys → All Q ys
over R P I Q f [] [] z p i = All-nil Q
over R P I Q f [] (y ∷ ys) z p i = absurd z
over R P I Q f (x ∷ xs) [] z p i = absurd z
over R P I Q f (x ∷ xs) (y ∷ ys) z p i = All-cons Q y ys (f x y z.0 (All-head P x xs p) (All-head I y ys i)) (over R P I Q f xs ys z.1 (All-tail P x xs p) (All-tail I y ys i))

both_all : {A : Type 0} (P Q : A → Type 0) (xs : List A) → All P xs → All Q xs → All (λ x. P x × Q x) xs
both_all P Q [] p q = All-nil (λ x. P x × Q x)
both_all P Q (x ∷ xs) p q = All-cons (λ x. P x × Q x) x xs (All-head P x xs p, All-head Q x xs q) (both_all P Q xs (All-tail P x xs p) (All-tail Q x xs q))

module _ (e g r : Endpoints) (linked : IsLinked e g r) (differ_g : HasDistinctWords g) (differ : HasDistinctWords r) (fine_e : IsFaultless e) (fine_g : IsFaultless g) where
  -- ---- bodies

  own_scoped : (p q : CodeId) (bs : List NameId) → q.0 < length r.code.nodes → code_at r.code.nodes q ≡ code_at e.code.nodes p → IsScoped e p bs → IsScoped r q bs
  own_scoped p q bs inside same s =
      tree_tells r q bs inside
      (subst (IsScopedCode r bs) (sym same)
      (record { distinct = scoped_distinct e s; scoped = tree_moved e r (own_active e g r linked differ_g differ) (own_unit e g r linked differ_g differ) (code_at e.code.nodes p) bs (tree_scoped e s) }))

  given_scoped : (x q : CodeId) (bs ds : List NameId) → AllZip (SameName g r) bs ds → q.0 < length r.code.nodes → SameCodeAt g r x q → IsScoped g x bs → IsScoped r q ds
  given_scoped x q bs ds zip inside same s =
      tree_tells r q ds inside
      (record {
        distinct = distinct_kept g r (tell e g r linked differ_g differ) (given_active e g r linked differ_g differ) (given_unit e g r linked differ_g differ) same (scoped_distinct g s);
        scoped = scope_kept g r (tell e g r linked differ_g differ) (given_active e g r linked differ_g differ) (given_unit e g r linked differ_g differ) same bs ds zip (tree_scoped g s);
      })

  procedure_scoped : (p q : Procedure) → IsProcedureLinked e g r p q → Contains e.procedures p × IsScoped e p.body p.sessions → q.body.0 < length r.code.nodes → IsScoped r q.body q.sessions
  procedure_scoped p q w (there, s) inside = subst (IsScoped r q.body) (sym w.sessions) (go w.body)
    where
      go : IsLinkedCode (ReplacesProcedure e g) (λ x. x.body) e g r g.procedures p q.body → IsScoped r q.body p.sessions
      go (taken x in_g named same) =
          let fits = All-contains (SuitsCounterpart (ReplacesProcedure e g) (SuitsProcedure e g) e.procedures) g.procedures x linked.suit.procedures in_g in
          given_scoped x.body q.body x.sessions p.sessions (lifted_all e g r linked differ_g differ x.sessions p.sessions (fits.suits p there named).0) inside same
          (All-contains (λ z. IsScoped g z.body z.sessions) g.procedures x fine_g.names.procedure_bodies in_g)
      go (kept none same) = own_scoped p.body q.body p.sessions inside same s

  service_scoped : (s t : ServiceCode) → IsServiceLinked e g r s t → IsScoped e s.body (s.channel ∷ []) → t.body.0 < length r.code.nodes → IsScoped r t.body (t.channel ∷ [])
  service_scoped s t w scoped inside = subst (λ (c : NameId). IsScoped r t.body (c ∷ [])) (sym w.channel) (go w.body)
    where
      go : IsLinkedCode (ReplacesService e g) (λ x. x.body) e g r g.services s t.body → IsScoped r t.body (s.channel ∷ [])
      go (taken x in_g named same) =
          given_scoped x.body t.body (x.channel ∷ []) (s.channel ∷ []) (lifted e g r linked differ_g differ x.channel s.channel named.0, tt) inside same
          (All-contains (λ z. IsScoped g z.body (z.channel ∷ [])) g.services x fine_g.names.service_bodies in_g)
      go (kept none same) = own_scoped s.body t.body (s.channel ∷ []) inside same scoped

  process_scoped : (p q : Process) → IsProcessLinked e g r p q → IsScoped e p.body [] → q.body.0 < length r.code.nodes → IsScoped r q.body []
  process_scoped p q w scoped inside = go w.body
    where
      go : IsLinkedCode (ReplacesProcess e g) (λ x. x.body) e g r g.processes p q.body → IsScoped r q.body []
      go (taken x in_g named same) = given_scoped x.body q.body [] [] tt inside same (All-contains (λ z. IsScoped g z.body []) g.processes x fine_g.names.process_bodies in_g)
      go (kept none same) = own_scoped p.body q.body [] inside same scoped

  -- ---- calls

  no_call : (p q : Procedure) → IsProcedureLinked e g r p q → (begins_with_call (node_at e p.body) ≡ false) × (p.body.0 < length e.code.nodes) → q.body.0 < length r.code.nodes → begins_with_call (node_at r q.body) ≡ false
  no_call p q w (none, there) inside = go w.body
    where
      go : IsLinkedCode (ReplacesProcedure e g) (λ x. x.body) e g r g.procedures p q.body → begins_with_call (node_at r q.body) ≡ false
      go (taken x in_g named same) =
          no_call_at r q.body
          (no_call_same same
          (no_call_code g x.body (All-contains (λ z. z.body.0 < length g.code.nodes) g.procedures x g.inside.in_procedures in_g)
          (All-contains (λ z. begins_with_call (node_at g z.body) ≡ false) g.procedures x fine_g.calls in_g)))
      go (kept other same) = no_call_at r q.body (subst IsNoCall (sym same) (no_call_code e p.body there none))

  served : (s t : ServiceCode) → IsServiceLinked e g r s t → IsServed e s → t.body.0 < length r.code.nodes → IsServed r t
  served s t w (k, found, is) inside = (k, ap (λ (ks : List Channel). channel_of ks t.channel) linked.channels ∙ ap (channel_of e.channels) w.channel ∙ found, ap (λ (x : NameId). is_among x k.serve) w.role ∙ is)

  distinct_sessions : (p q : Procedure) → IsProcedureLinked e g r p q → AreDistinct p.sessions → q.body.0 < length r.code.nodes → AreDistinct q.sessions
  distinct_sessions p q w d inside = subst AreDistinct (sym w.sessions) d

  pub linked_faultless : IsFaultless r
  linked_faultless = record {
    names = record {
      channels = subst (λ (ks : List Channel). AreDistinct (map (λ k. k.name) ks)) (sym linked.channels) fine_e.names.channels;
      roles = subst (λ (ks : List Channel). All (λ k. AreDistinct (k.active ++ k.serve)) ks) (sym linked.channels) fine_e.names.roles;
      processes = subst AreDistinct (sym (names_kept e g r e.processes r.processes linked.processes)) fine_e.names.processes;
      procedures = apart_kept e g r e.procedures r.procedures linked.procedures fine_e.names.procedures;
      sessions = over (IsProcedureLinked e g r) (λ p. AreDistinct p.sessions) InsideProcedure (λ q. AreDistinct q.sessions) distinct_sessions e.procedures r.procedures linked.procedures fine_e.names.sessions r.inside.in_procedures;
      services = single_kept e g r e.services r.services linked.services fine_e.names.services;
      served = over (IsServiceLinked e g r) (IsServed e) InsideService (IsServed r) served e.services r.services linked.services fine_e.names.served r.inside.in_services;
      provided = provided;
      procedure_bodies = over (IsProcedureLinked e g r) (λ p. Contains e.procedures p × IsScoped e p.body p.sessions) InsideProcedure (λ q. IsScoped r q.body q.sessions) procedure_scoped e.procedures r.procedures linked.procedures
          (both_all (Contains e.procedures) (λ p. IsScoped e p.body p.sessions) e.procedures (All-contains_itself e.procedures) fine_e.names.procedure_bodies) r.inside.in_procedures;
      service_bodies = over (IsServiceLinked e g r) (λ s. IsScoped e s.body (s.channel ∷ [])) InsideService (λ s. IsScoped r s.body (s.channel ∷ [])) service_scoped e.services r.services linked.services fine_e.names.service_bodies r.inside.in_services;
      process_bodies = over (IsProcessLinked e g r) (λ p. IsScoped e p.body []) InsideProcess (λ p. IsScoped r p.body []) process_scoped e.processes r.processes linked.processes fine_e.names.process_bodies r.inside.in_processes;
    };
    calls = over (IsProcedureLinked e g r) (λ p. (begins_with_call (node_at e p.body) ≡ false) × (p.body.0 < length e.code.nodes)) InsideProcedure (λ q. begins_with_call (node_at r q.body) ≡ false) no_call e.procedures r.procedures linked.procedures
        (both_all (λ p. begins_with_call (node_at e p.body) ≡ false) (λ p. p.body.0 < length e.code.nodes) e.procedures fine_e.calls e.inside.in_procedures) r.inside.in_procedures;
  }
    where
      InsideProcedure : Procedure → Type 0
      InsideProcedure q = q.body.0 < length r.code.nodes

      InsideService : ServiceCode → Type 0
      InsideService s = s.body.0 < length r.code.nodes

      InsideProcess : Process → Type 0
      InsideProcess p = p.body.0 < length r.code.nodes

      same_roles : (k : Channel) (rs : List NameId) → All (λ x. has_service k.name x e.services ≡ true) rs → All (λ x. has_service k.name x r.services ≡ true) rs
      same_roles k [] all = All-nil (λ x. has_service k.name x r.services ≡ true)
      same_roles k (x ∷ xs) all =
          All-cons (λ x. has_service k.name x r.services ≡ true) x xs (service_alike e g r e.services r.services linked.services k.name x k.name x refl refl ∙ All-head (λ x. has_service k.name x e.services ≡ true) x xs all)
          (same_roles k xs (All-tail (λ x. has_service k.name x e.services ≡ true) x xs all))

      each : (ks : List Channel) → All (λ k. All (λ x. has_service k.name x e.services ≡ true) k.serve) ks → All (λ k. All (λ x. has_service k.name x r.services ≡ true) k.serve) ks
      each [] all = All-nil (λ k. All (λ x. has_service k.name x r.services ≡ true) k.serve)
      each (k ∷ ks) all =
          All-cons (λ k. All (λ x. has_service k.name x r.services ≡ true) k.serve) k ks (same_roles k k.serve (All-head (λ k. All (λ x. has_service k.name x e.services ≡ true) k.serve) k ks all))
          (each ks (All-tail (λ k. All (λ x. has_service k.name x e.services ≡ true) k.serve) k ks all))

      provided : All (λ k. All (λ x. has_service k.name x r.services ≡ true) k.serve) r.channels
      provided = subst (λ (ks : List Channel). All (λ k. All (λ x. has_service k.name x r.services ≡ true) k.serve) ks) (sym linked.channels) (each e.channels fine_e.names.provided)
