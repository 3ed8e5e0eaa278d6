-- A copy of programs without a fault has none.
use Rattle.std.proofs.Common.{◌≡◌, true, false, ◌==◌, ◌&&◌, List, [], ◌∷◌, ◌++◌, map, refl, sym, ap, ◌∙◌, Option, Some, None}
use Rattle.std.specs.Prelude.{All}
use Rattle.std.specs.List.{AllZip}
use Rattle.chor_base.specs.declared.names.NameId.{NameId}
use Rattle.endpoint_code.specs.declared.code.CodeId.{CodeId}
use Rattle.endpoint_code.specs.declared.code.CodeNode.{CodeNode}
use Rattle.endpoint_code.specs.declared.endpoints.Channel.{Channel}
use Rattle.endpoint_code.specs.declared.endpoints.Procedure.{Procedure}
use Rattle.endpoint_code.specs.declared.endpoints.ServiceCode.{ServiceCode}
use Rattle.endpoint_code.specs.declared.endpoints.Process.{Process}
use Rattle.endpoint_code.specs.declared.endpoints.Endpoints.{Endpoints}
use Rattle.endpoint_code.specs.Faults.{is_among, AreDistinct, IsScoped, unit_among, AreApart, no_unit, one_unit, has_service, AreSingle, no_service, one_service, IsServed, begins_with_call, IsFaultless}
use Rattle.endpoint_code.specs.Network.{node_at, channel_of}
use Rattle.merged_codes.proofs.ScopedTables.{tree_tells}
use Rattle.same_programs.specs.Words.{SameName, BothOrNeither}
use Rattle.same_programs.specs.Programs.{SameChannel, SameProcedure, SameService, SameProcess, IsCopy}
use Rattle.same_programs.proofs.Tests.{both_tests, one_test}
use Rattle.same_programs.proofs.Zips.{zip_append}
use Rattle.same_programs.proofs.Nodes.{IsSpot, Alike, AreThere, nodes_there, call}
use Rattle.same_programs.proofs.Places.{tell, IsUnit, units, IsServed as IsServedUnit, served_units, begun_processes}
use Rattle.same_programs.proofs.Starting.{IsChannelOf, channel_same}
use Rattle.same_programs.proofs.Turned.{programs_turned}
use Rattle.projected_programs.proofs.Lists.{all_over, zip_parts, among_same, distinct_same}
use Rattle.projected_programs.proofs.Scopes.{tree_scoped, distinct_kept, scope_kept}

module _ (e e' : Endpoints) (c : IsCopy e e') where
  abbrev N : NameId → NameId → Type 0
  N = SameName e e'

  distinct : (xs ys : List NameId) → AllZip (SameName e e') xs ys → AreDistinct xs → AreDistinct ys
  distinct xs ys h d = distinct_same (SameName e e') (tell e e' c) xs ys h d

  -- ---- units

  unit_same : (f g p r : NameId) → N f g → N p r → (qs ps : List Procedure) → AllZip (SameProcedure e e') qs ps → unit_among f p qs ≡ unit_among g r ps
  unit_same f g p r i j [] [] h = refl
  unit_same f g p r i j [] (y ∷ ps) h = absurd h
  unit_same f g p r i j (x ∷ qs) [] h = absurd h
  unit_same f g p r i j (x ∷ qs) (y ∷ ps) h =
      one_test ((f.0 == x.name.0) && (p.0 == x.param.0)) ((g.0 == y.name.0) && (r.0 == y.param.0)) (unit_among f p qs) (unit_among g r ps)
      (both_tests (f.0 == x.name.0) (g.0 == y.name.0) (p.0 == x.param.0) (r.0 == y.param.0) (tell e e' c f g x.name y.name i h.0.name) (tell e e' c p r x.param y.param j h.0.param))
      (unit_same f g p r i j qs ps h.1)

  apart : (qs ps : List Procedure) → AllZip (SameProcedure e e') qs ps → AreApart qs → AreApart ps
  apart [] [] h a = no_unit
  apart [] (y ∷ ps) h a = absurd h
  apart (x ∷ qs) [] h a = absurd h
  apart (x ∷ qs) (y ∷ ps) h (one_unit n a) = one_unit (sym (unit_same x.name y.name x.param y.param h.0.name h.0.param qs ps h.1) ∙ n) (apart qs ps h.1 a)

  service_same : (a b r q : NameId) → N a b → N r q → (ss rs : List ServiceCode) → AllZip (SameService e e') ss rs → has_service a r ss ≡ has_service b q rs
  service_same a b r q i j [] [] h = refl
  service_same a b r q i j [] (y ∷ rs) h = absurd h
  service_same a b r q i j (x ∷ ss) [] h = absurd h
  service_same a b r q i j (x ∷ ss) (y ∷ rs) h =
      one_test ((a.0 == x.channel.0) && (r.0 == x.role.0)) ((b.0 == y.channel.0) && (q.0 == y.role.0)) (has_service a r ss) (has_service b q rs)
      (both_tests (a.0 == x.channel.0) (b.0 == y.channel.0) (r.0 == x.role.0) (q.0 == y.role.0) (tell e e' c a b x.channel y.channel i h.0.channel) (tell e e' c r q x.role y.role j h.0.role))
      (service_same a b r q i j ss rs h.1)

  single : (ss rs : List ServiceCode) → AllZip (SameService e e') ss rs → AreSingle ss → AreSingle rs
  single [] [] h a = no_service
  single [] (y ∷ rs) h a = absurd h
  single (x ∷ ss) [] h a = absurd h
  single (x ∷ ss) (y ∷ rs) h (one_service n a) = one_service (sym (service_same x.channel y.channel x.role y.role h.0.channel h.0.role ss rs h.1) ∙ n) (single ss rs h.1 a)

  served_kept : (s r : ServiceCode) → SameService e e' s r → IsServed e s → IsServed e' r
  served_kept s r h d = go (channel_of e.channels s.channel) (channel_of e'.channels r.channel) refl (channel_same e e' c s.channel r.channel h.channel) d.1
    where
      go : (o u : Option Channel) → channel_of e'.channels r.channel ≡ u → BothOrNeither (IsChannelOf e e' c s.channel) o u → o ≡ Some d.0 → IsServed e' r
      go None u f t k = absurd cc
      go (Some x) None f t k = absurd t
      go (Some x) (Some y) f t k =
          let is : x ≡ d.0 = cc in
          (y, f, sym (among_same (SameName e e') (tell e e' c) s.role r.role h.role x.serve y.serve t.same.serve) ∙ ap (λ (z : Channel). is_among s.role z.serve) is ∙ d.2)

  provided_kept : (k h : Channel) → SameChannel e e' k h → All (λ r. has_service k.name r e.services ≡ true) k.serve → All (λ r. has_service h.name r e'.services ≡ true) h.serve
  provided_kept k h s p =
      all_over (SameName e e') (λ r. has_service k.name r e.services ≡ true) (λ r. has_service h.name r e'.services ≡ true)
      (λ r q i d. sym (service_same k.name h.name r q s.name i e.services e'.services c.same.services) ∙ d) k.serve h.serve s.serve p

  -- ---- bodies

  body_kept : (q p : CodeId) (bs ds : List NameId) → AllZip (SameName e e') bs ds → IsSpot e e' q p → IsScoped e q bs → IsScoped e' p ds
  body_kept q p bs ds b s h = tree_tells e' p ds s.copied_inside (record { distinct = distinct_kept e e' c s.code s.distinct; scoped = scope_kept e e' c s.code bs ds b (tree_scoped e h) })

  node_begins : (n m : CodeNode) → Alike e e' n m → begins_with_call (Some n) ≡ begins_with_call (Some m)
  node_begins n m (call f p ss) = refl
  node_begins n m s = refl

  begins_same : (q p : CodeId) → IsSpot e e' q p → begins_with_call (node_at e q) ≡ begins_with_call (node_at e' p)
  begins_same q p s =
      let t : AreThere e e' q p = nodes_there e e' (tell e e' c) q p s in
      ap begins_with_call t.here ∙ node_begins t.node t.copied t.same ∙ ap begins_with_call (sym t.there)

  -- services with the channel's name as the session's
  pub faultless_kept : IsFaultless e'
  faultless_kept = record {
    names = record {
      channels = distinct (map (λ k. k.name) e.channels) (map (λ k. k.name) e'.channels)
          (zip_parts (SameChannel e e') (SameName e e') (λ k. k.name) (λ k. k.name) (λ k h s. s.name) e.channels e'.channels c.same.channels) c.faultless.names.channels;
      roles = all_over (SameChannel e e') (λ (k : Channel). AreDistinct (k.active ++ k.serve)) (λ (k : Channel). AreDistinct (k.active ++ k.serve))
          (λ k h s d. distinct (k.active ++ k.serve) (h.active ++ h.serve) (zip_append (SameName e e') k.active h.active k.serve h.serve s.active s.serve) d)
          e.channels e'.channels c.same.channels c.faultless.names.roles;
      processes = distinct (map (λ p. p.name) e.processes) (map (λ p. p.name) e'.processes)
          (zip_parts (SameProcess e e') (SameName e e') (λ p. p.name) (λ p. p.name) (λ p q s. s.name) e.processes e'.processes c.same.processes) c.faultless.names.processes;
      procedures = apart e.procedures e'.procedures c.same.procedures c.faultless.names.procedures;
      sessions = all_over (SameProcedure e e') (λ (q : Procedure). AreDistinct q.sessions) (λ (q : Procedure). AreDistinct q.sessions) (λ q p s d. distinct q.sessions p.sessions s.sessions d)
          e.procedures e'.procedures c.same.procedures c.faultless.names.sessions;
      services = single e.services e'.services c.same.services c.faultless.names.services;
      served = all_over (SameService e e') (IsServed e) (IsServed e') served_kept e.services e'.services c.same.services c.faultless.names.served;
      provided = all_over (SameChannel e e') (λ (k : Channel). All (λ r. has_service k.name r e.services ≡ true) k.serve) (λ (k : Channel). All (λ r. has_service k.name r e'.services ≡ true) k.serve)
          provided_kept e.channels e'.channels c.same.channels c.faultless.names.provided;
      procedure_bodies = all_over (IsUnit e e') (λ (q : Procedure). IsScoped e q.body q.sessions) (λ (q : Procedure). IsScoped e' q.body q.sessions)
          (λ q p s d. body_kept q.body p.body q.sessions p.sessions s.sessions s.body d) e.procedures e'.procedures (units e e' c) c.faultless.names.procedure_bodies;
      service_bodies = all_over (IsServedUnit e e') (λ (s : ServiceCode). IsScoped e s.body (s.channel ∷ [])) (λ (s : ServiceCode). IsScoped e' s.body (s.channel ∷ []))
          (λ s r h d. body_kept s.body r.body (s.channel ∷ []) (r.channel ∷ []) (h.channel, tt) h.body d) e.services e'.services (served_units e e' c) c.faultless.names.service_bodies;
      process_bodies = all_over (λ (p q : Process). IsSpot e e' p.body q.body) (λ (p : Process). IsScoped e p.body []) (λ (p : Process). IsScoped e' p.body [])
          (λ p q s d. body_kept p.body q.body [] [] tt s d) e.processes e'.processes (begun_processes e e' c) c.faultless.names.process_bodies;
    };
    calls = all_over (IsUnit e e') (λ (q : Procedure). begins_with_call (node_at e q.body) ≡ false) (λ (q : Procedure). begins_with_call (node_at e' q.body) ≡ false)
        (λ q p s d. sym (begins_same q.body p.body s.body) ∙ d) e.procedures e'.procedures (units e e' c) c.faultless.calls;
  }

  pub copy_back : IsCopy e' e
  copy_back = record { same = programs_turned e e' c.same; faultless = faultless_kept; words = c.copied_words; copied_words = c.words }
