-- Endpoint programs that are, unit by unit, above others do what the choreography says where those do.
use Rattle.std.proofs.Common.{◌≡◌, ℕ, zero, suc, ◌==◌, ◌&&◌, ◌||◌, ◌<◌, Bool, true, false, if◌then◌else◌, List, [], ◌∷◌, length, Some, refl, sym, ap, ◌∙◌, subst, arith}
use Rattle.std.specs.Prelude.{All, map, slice_get}
use Rattle.std.specs.List.{AllZip}
use Rattle.std.specs.FinMap as fin
use Rattle.std.proofs.lemmas.Bool.Decides.{nat_tests}
use Rattle.std.proofs.lemmas.List.Elements.{All-head, All-tail}
use Rattle.chor_base.specs.declared.names.NameId.{NameId}
use Rattle.chor_tree.specs.declared.file.File.{File}
use Rattle.chor_semantics.specs.Choreography.{Ref, Live, Named, Starts, Communicates, InTransit, Alone, Choreography, Then, Either, Calls, Ends}
use Rattle.chor_semantics.specs.Sources.{Procedure, procedures_of, first_configuration, tree_in, trees_of}
use Rattle.endpoint_code.specs.declared.code.CodeId.{CodeId}
use Rattle.endpoint_code.specs.declared.endpoints.Channel.{Channel}
use Rattle.endpoint_code.specs.declared.endpoints.Procedure.{Procedure as ProcedureCode}
use Rattle.endpoint_code.specs.declared.endpoints.ServiceCode.{ServiceCode}
use Rattle.endpoint_code.specs.declared.endpoints.Process.{Process}
use Rattle.endpoint_code.specs.declared.endpoints.Endpoints.{Endpoints}
use Rattle.endpoint_code.specs.Covers.{IsCovered, AreUnitsCovered}
use Rattle.endpoint_code.specs.Faults.{has_service}
use Rattle.endpoint_code.specs.Network.{channel_of, procedure_of, service_of}
use Rattle.well_formed.specs.Follows.{no_sessions, with_session, SessionMap, IsEqualUpToPruning}
use Rattle.well_formed.specs.WellFormed.{Scope, scope_after, declared_scope, IsWellFormed, AllFit}
use Rattle.well_formed.specs.Linear.{ParameterSets}
use Rattle.well_formed.specs.Holders.{ListedHolders}
use Rattle.well_formed.proofs.Instances.{fit_bodies}
use Rattle.well_formed.proofs.References.{same_name}
use Rattle.correspondence.specs.Premises.{NoCallFirst, IsSound, Begins, Realizes}
use Rattle.correspondence.specs.Corresponds.{session_map, live_scope}
use Rattle.correspondence.specs.Services.{EachServiceFollows, ServicesFollow}
use Rattle.correspondence.proofs.Above.{follows_lift}
use Rattle.correspondence.proofs.First.{first_corresponds}
use Rattle.endpoint_code.specs.AboveUnits.{IsProcedureAbove, IsServiceAbove, IsProcessAbove, AreUnitsAbove}
use Rattle.merged_codes.proofs.NoCall.{above_no_call, no_call_code, no_call_at}

-- each service role of a channel has a code
abbrev pub AreProvided : Endpoints → Type 0
AreProvided e = All (λ k. All (λ r. has_service k.name r e.services ≡ true) k.serve) e.channels

flipped : (a b : ℕ) → (a == b) ≡ (b == a)
flipped a b = grind (arith, nat_tests)

as_many : {A B : Type 0} (R : A → B → Type 0) (xs : List A) (ys : List B) → AllZip R xs ys → length ys ≡ length xs
as_many R [] [] z = refl
as_many R [] (y ∷ ys) z = absurd z
as_many R (x ∷ xs) [] z = absurd z
as_many R (x ∷ xs) (y ∷ ys) z = ap suc (as_many R xs ys z.1)

module _ (e r : Endpoints) (above : AreUnitsAbove e r) where
  -- ---- procedures

  units_in : (f p : NameId) (xs ys : List ProcedureCode) → AllZip (IsProcedureAbove e r) xs ys → (x : ProcedureCode) → procedure_of xs f p ≡ Some x
      → (y : ProcedureCode) × (procedure_of ys f p ≡ Some y) × IsProcedureAbove e r x y
  units_in f p [] ys z x i = absurd cc
  units_in f p (a ∷ others) [] z x i = absurd z
  units_in f p (a ∷ others) (b ∷ bs) z x i = go ((a.name.0 == f.0) && (a.param.0 == p.0)) refl (units_in f p others bs z.1 x)
    where
      same : ((b.name.0 == f.0) && (b.param.0 == p.0)) ≡ ((a.name.0 == f.0) && (a.param.0 == p.0))
      same = ap (λ (v : NameId). (v.0 == f.0) && (b.param.0 == p.0)) z.0.name ∙ ap (λ (v : NameId). (a.name.0 == f.0) && (v.0 == p.0)) z.0.param

      go : (t : Bool) → ((a.name.0 == f.0) && (a.param.0 == p.0)) ≡ t → (procedure_of others f p ≡ Some x → (y : ProcedureCode) × (procedure_of bs f p ≡ Some y) × IsProcedureAbove e r x y)
          → (y : ProcedureCode) × (procedure_of (b ∷ bs) f p ≡ Some y) × IsProcedureAbove e r x y
      go true u more =
          let j : Some a ≡ Some x = sym (ap (λ t. if t then Some a else procedure_of others f p) u) ∙ i in
          let k : a ≡ x = cc in
          (b, ap (λ t. if t then Some b else procedure_of bs f p) (same ∙ u), subst (λ (v : ProcedureCode). IsProcedureAbove e r v b) k z.0)
      go false u more =
          let w = more (sym (ap (λ t. if t then Some a else procedure_of others f p) u) ∙ i) in
          (w.0, ap (λ t. if t then Some b else procedure_of bs f p) (same ∙ u) ∙ w.1, w.2)

  -- and back, to a unit of which P holds
  units_back : (P : ProcedureCode → Type 0) (f p : NameId) (xs ys : List ProcedureCode) → All P xs → AllZip (IsProcedureAbove e r) xs ys → (y : ProcedureCode) → procedure_of ys f p ≡ Some y
      → (x : ProcedureCode) × (procedure_of xs f p ≡ Some x) × P x × IsProcedureAbove e r x y
  units_back P f p [] [] all z y i = absurd cc
  units_back P f p [] (b ∷ bs) all z y i = absurd z
  units_back P f p (a ∷ others) [] all z y i = absurd z
  units_back P f p (a ∷ others) (b ∷ bs) all z y i = go ((b.name.0 == f.0) && (b.param.0 == p.0)) refl (units_back P f p others bs (All-tail P a others all) z.1 y)
    where
      same : ((a.name.0 == f.0) && (a.param.0 == p.0)) ≡ ((b.name.0 == f.0) && (b.param.0 == p.0))
      same = sym (ap (λ (v : NameId). (v.0 == f.0) && (b.param.0 == p.0)) z.0.name ∙ ap (λ (v : NameId). (a.name.0 == f.0) && (v.0 == p.0)) z.0.param)

      go : (t : Bool) → ((b.name.0 == f.0) && (b.param.0 == p.0)) ≡ t → (procedure_of bs f p ≡ Some y → (x : ProcedureCode) × (procedure_of others f p ≡ Some x) × P x × IsProcedureAbove e r x y)
          → (x : ProcedureCode) × (procedure_of (a ∷ others) f p ≡ Some x) × P x × IsProcedureAbove e r x y
      go true u more =
          let j : Some b ≡ Some y = sym (ap (λ t. if t then Some b else procedure_of bs f p) u) ∙ i in
          let k : b ≡ y = cc in
          (a, ap (λ t. if t then Some a else procedure_of others f p) (same ∙ u), All-head P a others all, subst (IsProcedureAbove e r a) k z.0)
      go false u more =
          let w = more (sym (ap (λ t. if t then Some b else procedure_of bs f p) u) ∙ i) in
          (w.0, ap (λ t. if t then Some a else procedure_of others f p) (same ∙ u) ∙ w.1, w.2, w.3)

  pub units_covered : AreUnitsCovered e r
  units_covered f p x i =
      let w = units_in f p e.procedures r.procedures above.procedures x i in
      record { unit = w.0; found = w.1; sessions = w.2.sessions; body = w.2.body }

  -- ---- services

  service_in : (c a : NameId) (xs ys : List ServiceCode) → AllZip (IsServiceAbove e r) xs ys → has_service c a xs ≡ true → IsCovered e r (service_of xs c a) (service_of ys c a)
  service_in c a [] ys z h = absurd cc
  service_in c a (s ∷ ss) [] z h = absurd z
  service_in c a (s ∷ ss) (t ∷ ts) z h = go ((s.channel.0 == c.0) && (s.role.0 == a.0)) refl (service_in c a ss ts z.1)
    where
      turned : ((c.0 == s.channel.0) && (a.0 == s.role.0)) ≡ ((s.channel.0 == c.0) && (s.role.0 == a.0))
      turned = ap (λ v. v && (a.0 == s.role.0)) (flipped c.0 s.channel.0) ∙ ap (λ v. (s.channel.0 == c.0) && v) (flipped a.0 s.role.0)

      same : ((t.channel.0 == c.0) && (t.role.0 == a.0)) ≡ ((s.channel.0 == c.0) && (s.role.0 == a.0))
      same = ap (λ (v : NameId). (v.0 == c.0) && (t.role.0 == a.0)) z.0.channel ∙ ap (λ (v : NameId). (s.channel.0 == c.0) && (v.0 == a.0)) z.0.role

      later : (b d : Bool) → b ≡ false → (b || d) ≡ true → d ≡ true
      later true d i j = absurd cc
      later false d i j = j

      go : (b : Bool) → ((s.channel.0 == c.0) && (s.role.0 == a.0)) ≡ b → (has_service c a ss ≡ true → IsCovered e r (service_of ss c a) (service_of ts c a))
          → IsCovered e r (service_of (s ∷ ss) c a) (service_of (t ∷ ts) c a)
      go true u more =
          subst (λ (v : CodeId). IsCovered e r v (service_of (t ∷ ts) c a)) (sym (ap (λ b. if b then s.body else service_of ss c a) u))
          (subst (IsCovered e r s.body) (sym (ap (λ b. if b then t.body else service_of ts c a) (same ∙ u))) z.0.body)
      go false u more =
          subst (λ (v : CodeId). IsCovered e r v (service_of (t ∷ ts) c a)) (sym (ap (λ b. if b then s.body else service_of ss c a) u))
          (subst (IsCovered e r (service_of ss c a)) (sym (ap (λ b. if b then t.body else service_of ts c a) (same ∙ u)))
          (more (later ((c.0 == s.channel.0) && (a.0 == s.role.0)) (has_service c a ss) (turned ∙ u) h)))

  provided_in : (ss : List ServiceCode) (c : NameId) (ks : List Channel) → All (λ k. All (λ r. has_service k.name r ss ≡ true) k.serve) ks → (k : Channel) → channel_of ks c ≡ Some k → All (λ r. has_service c r ss ≡ true) k.serve
  provided_in ss c [] h k i = absurd cc
  provided_in ss c (x ∷ xs) h k i = go (x.name.0 == c.0) refl (provided_in ss c xs (All-tail (λ k. All (λ r. has_service k.name r ss ≡ true) k.serve) x xs h) k)
    where
      go : (b : Bool) → (x.name.0 == c.0) ≡ b → (channel_of xs c ≡ Some k → All (λ r. has_service c r ss ≡ true) k.serve) → All (λ r. has_service c r ss ≡ true) k.serve
      go true u more =
          let j : Some x ≡ Some k = sym (ap (λ b. if b then Some x else channel_of xs c) u) ∙ i in
          let v : x ≡ k = cc in
          subst (λ (z : NameId). All (λ r. has_service z r ss ≡ true) k.serve) (same_name x.name c u)
          (subst (λ (z : Channel). All (λ r. has_service x.name r ss ≡ true) z.serve) v (All-head (λ k. All (λ r. has_service k.name r ss ≡ true) k.serve) x xs h))
      go false u more = more (sym (ap (λ b. if b then Some x else channel_of xs c) u) ∙ i)

  module _ (procs : List Procedure) (provided : AreProvided e) where
    lifts : (p : Ref) (c : Choreography) (q q' : CodeId) (m : SessionMap) → IsCovered e r q q' → IsEqualUpToPruning e procs p c q m → IsEqualUpToPruning r procs p c q' m
    lifts p c q q' m o h n = follows_lift e r units_covered procs p n c q q' m o (h n)

    each_lifts : (rest : Choreography) (c : NameId) (d k : ℕ) (serve : List (ℕ × NameId)) (roles : List NameId) → map (λ s. s.1) serve ≡ roles → All (λ a. has_service c a e.services ≡ true) roles
        → EachServiceFollows e procs rest c d k serve → EachServiceFollows r procs rest c d k serve
    each_lifts rest c d k [] roles i there h = tt
    each_lifts rest c d k (s ∷ ss) [] i there h = absurd cc
    each_lifts rest c d k (s ∷ ss) (a ∷ others) i there h =
        let x : s.1 ≡ a = cc in
        let xs : map (λ s. s.1) ss ≡ others = cc in
        let has : has_service c s.1 e.services ≡ true = subst (λ (z : NameId). has_service c z e.services ≡ true) (sym x) (All-head (λ a. has_service c a e.services ≡ true) a others there) in (
          lifts (Named s.0 d) rest (service_of e.services c s.1) (service_of r.services c s.1) (with_session no_sessions c (Named k d, s.1)) (service_in c s.1 e.services r.services above.services has) h.0,
          each_lifts rest c d k ss others xs (All-tail (λ a. has_service c a e.services ≡ true) a others there) h.1,
        )

    pub services_lift : (sc : Scope) (c : Choreography) → IsWellFormed e.channels procs sc c → ServicesFollow e procs c → ServicesFollow r procs c
    services_lift sc (Then (Starts c d k active serve) rest) (w, ws) (h, hs) = (
      each_lifts rest c d k serve w.channel.serve w.service_roles (provided_in e.services c e.channels provided w.channel w.declared) h,
      services_lift (scope_after sc (Starts c d k active serve)) rest ws hs,
    )
    services_lift sc (Then (Communicates s p a q b w) rest) (z, zs) (h, hs) = (tt, services_lift sc rest zs hs)
    services_lift sc (Then (InTransit s a b m q) rest) (z, zs) (h, hs) = (tt, services_lift sc rest zs hs)
    services_lift sc (Then (Alone p o) rest) (z, zs) (h, hs) = (tt, services_lift sc rest zs hs)
    services_lift sc (Either p x c d) (z, one, other) (h, k) = (services_lift sc c one h, services_lift sc d other k)
    services_lift sc (Calls f d ps ss) w h = tt
    services_lift sc Ends w h = tt

  -- ---- processes

  process_back : (p : ℕ) (q : Process) → slice_get r.processes p ≡ Some q → (x : Process) × (slice_get e.processes p ≡ Some x) × IsProcessAbove e r x q
  process_back p q i = go p e.processes r.processes above.processes i
    where
      go : (p : ℕ) (xs ys : List Process) → AllZip (IsProcessAbove e r) xs ys → slice_get ys p ≡ Some q → (x : Process) × (slice_get xs p ≡ Some x) × IsProcessAbove e r x q
      go p [] [] z i = absurd cc
      go p [] (y ∷ ys) z i = absurd z
      go p (x ∷ xs) [] z i = absurd z
      go zero (x ∷ xs) (y ∷ ys) z i = let v : y ≡ q = cc in (x, refl, subst (IsProcessAbove e r x) v z.0)
      go (suc p) (x ∷ xs) (y ∷ ys) z i = go p xs ys z.1 i

  -- ---- procedures that begin with no call

  calls_nothing_first : File → NoCallFirst e → NoCallFirst r
  calls_nothing_first file none f p q i =
      let w = units_back (λ x. x.body.0 < length e.code.nodes) f p e.procedures r.procedures e.inside.in_procedures above.procedures q i in
      no_call_at r q.body (above_no_call w.3.body.above (no_call_code e w.0.body w.2 (none f p w.0 w.1)))

  -- ---- all that is asked of endpoints

  pub realizes_above : (f : File) (sets : NameId → ParameterSets) (lists : ListedHolders) → AreProvided e → Realizes e f sets lists → Realizes r f sets lists
  realizes_above f sets lists provided is = record { sound = sound; begins = begins; no_call_first = calls_nothing_first f is.no_call_first }
    where
      -- what holds of a channel of e holds of one of r
      channel_here : (a : NameId) (k : Channel) → channel_of r.channels a ≡ Some k → channel_of e.channels a ≡ Some k
      channel_here a k h = ap (λ ks. channel_of ks a) (sym above.channels) ∙ h

      sound : IsSound r (procedures_of f) sets lists
      sound = record {
        sources = is.sound.sources;
        fit = subst (λ ks. AllFit ks (procedures_of f)) (sym above.channels) is.sound.fit;
        guarded = is.sound.guarded;
        linear = λ a k h. is.sound.linear a k (channel_here a k h);
        roles = λ a k h. is.sound.roles a k (channel_here a k h);
        lists_fit = is.sound.lists_fit;
        holders_fit = is.sound.holders_fit;
        services = λ sc h d ps ss c b w.
            services_lift (procedures_of f) provided sc c (fit_bodies e.channels (procedures_of f) is.sound.sources is.sound.fit sc h d ps ss c b w) (is.sound.services sc h d ps ss c b w);
      }

      begins : Begins r f sets lists
      begins = record {
        source = is.begins.source;
        fit = subst (λ ks. IsWellFormed ks (procedures_of f) (declared_scope (map (λ p. p.name) f.processes) []) (tree_in (trees_of f.tree.nodes) f.body)) (sym above.channels) is.begins.fit;
        apart = is.begins.apart;
        linear = λ a k h. is.begins.linear a k (channel_here a k h);
        count = as_many (IsProcessAbove e r) e.processes r.processes above.processes ∙ is.begins.count;
        follows = λ p q i.
            let w = process_back p q i in
            lifts (procedures_of f) provided (Live p) (first_configuration f).tree w.0.body q.body (session_map fin.empty) w.2.body (is.begins.follows p w.0 w.1);
        services = services_lift (procedures_of f) provided (live_scope (first_configuration f)) (first_configuration f).tree (first_corresponds e f sets lists is.begins).well_formed is.begins.services;
        lists_fit = is.begins.lists_fit;
        holders_fit = is.begins.holders_fit;
      }
