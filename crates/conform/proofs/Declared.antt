-- What is declared in a file that is fit to judge by.
use Rattle.std.proofs.Common.{◌≡◌, ℕ, zero, suc, ◌<◌, ◌==◌, ◌||◌, ◌&&◌, Bool, true, false, List, [], ◌∷◌, ◌++◌, map, length, Option, Some, None, refl, sym, ap, ◌∙◌, subst, inl, inr, arith, if◌then◌else◌}
use Rattle.std.specs.Prelude.{slice_get, Contains, not}
use Rattle.std.specs.List.{flat_map}
use Rattle.chor_base.specs.declared.names.NameId.{NameId}
use Rattle.chor_base.specs.declared.fault.Fault.{Fault}
use Rattle.chor_base.specs.FirstPlaces.{one_later}
use Rattle.chor_tree.specs.declared.file.File.{File}
use Rattle.chor_tree.specs.declared.file.Named.{Named}
use Rattle.chor_tree.specs.declared.file.Service.{Service}
use Rattle.chor_tree.specs.Protocols.{Protocol}
use Rattle.chor_tree.specs.declared.protocol.State.{State}
use Rattle.chor_tree.specs.declared.protocol.ProtoArm.{ProtoArm}
use Rattle.chor_tree.specs.declared.protocol.ProtoStep.{ProtoStep}
use Rattle.chor_tree.specs.declared.protocol.ProtoStep.TheVariants.{End, Value, Choice}
use Rattle.chor_tree.specs.Names.{first_named, is_among, names_in, protocol_of, channel_of, protocols_of, unknown, repeated, payload_faults, step_faults, protocol_faults, wrong_roles, channel_faults, procedure_faults, declaration_faults}
use Rattle.global_types.specs.Moves.{IsIn, Exchange, passes, chooses, content_of, exchanges_of}
use Rattle.global_types.specs.Paths.{IsPath, action_in, actions_of}
use Rattle.delegation.specs.Checks.{all_differ}
use Rattle.well_formed.proofs.References.{same_name, true_eq, or_left, or_rights}
use Rattle.typed_sources.proofs.Resolved.{no_items, both_empty, each_empty, found_in}
use Rattle.typed_sources.proofs.ProcedureHeads.{is_known, all_apart}
use Rattle.conform.specs.Judged.{IsFit}
use Rattle.conform.specs.Progress.{role_among, protocol_among}

-- ---- by name

-- what is found first stands there
pub record StandsThere (roles : List Named) (r : NameId) (j : ℕ) : Type 0 where
  pub role : Named
  pub at : slice_get roles j ≡ Some role
  pub is : role.name ≡ r

pub role_there : (roles : List Named) (r : NameId) (j : ℕ) → role_among roles r ≡ Some j → StandsThere roles r j
role_there [] r j h = absurd cc
role_there (n ∷ ns) r j h = go (n.name.0 == r.0) refl h (λ k e. role_there ns r k e)
  where
    later : ((k : ℕ) → role_among ns r ≡ Some k → StandsThere ns r k) → (o : Option ℕ) → role_among ns r ≡ o → one_later o ≡ Some j → StandsThere (n ∷ ns) r j
    later more None e i = absurd cc
    later more (Some k) e i =
        let w = more k e in
        let same : suc k ≡ j = cc in
        record { role = w.role; at = subst (λ (l : ℕ). slice_get (n ∷ ns) l ≡ Some w.role) same w.at; is = w.is }

    go : (b : Bool) → (n.name.0 == r.0) ≡ b → (if b then Some 0 else one_later (role_among ns r)) ≡ Some j → ((k : ℕ) → role_among ns r ≡ Some k → StandsThere ns r k) → StandsThere (n ∷ ns) r j
    go true e i more = let same : 0 ≡ j = cc in record { role = n; at = subst (λ (l : ℕ). slice_get (n ∷ ns) l ≡ Some n) same refl; is = same_name n.name r e }
    go false e i more = later more (role_among ns r) refl i

-- a role that is found nowhere isn't among them
pub role_nowhere : (roles : List Named) (r : NameId) → role_among roles r ≡ None → is_among (names_in roles) r ≡ false
role_nowhere [] r h = refl
role_nowhere (n ∷ ns) r h = go (n.name.0 == r.0) h (λ e. role_nowhere ns r e)
  where
    later : (role_among ns r ≡ None → is_among (names_in ns) r ≡ false) → (o : Option ℕ) → role_among ns r ≡ o → one_later o ≡ None → is_among (names_in ns) r ≡ false
    later more None e i = more e
    later more (Some k) e i = absurd cc

    go : (b : Bool) → (if b then Some 0 else one_later (role_among ns r)) ≡ None → (role_among ns r ≡ None → is_among (names_in ns) r ≡ false) → (b || is_among (names_in ns) r) ≡ false
    go true i more = absurd cc
    go false i more = later more (role_among ns r) refl i

-- the protocol of a name, where it is found first
pub record ProtocolThere (ps : List Protocol) (x : NameId) (i : ℕ) : Type 0 where
  pub protocol : Protocol
  pub at : slice_get ps i ≡ Some protocol
  pub is : protocol.name.name ≡ x
  pub first : first_named (λ p. p.name) ps x ≡ Some protocol

pub protocol_there : (ps : List Protocol) (x : NameId) (i : ℕ) → protocol_among ps x ≡ Some i → ProtocolThere ps x i
protocol_there [] x i h = absurd cc
protocol_there (p ∷ ps) x i h = go (p.name.name.0 == x.0) refl h (λ k e. protocol_there ps x k e)
  where
    later : ((k : ℕ) → protocol_among ps x ≡ Some k → ProtocolThere ps x k) → (p.name.name.0 == x.0) ≡ false → (o : Option ℕ) → protocol_among ps x ≡ o → one_later o ≡ Some i → ProtocolThere (p ∷ ps) x i
    later more off None e j = absurd cc
    later more off (Some k) e j =
        let w = more k e in
        let same : suc k ≡ i = cc in
        record {
          protocol = w.protocol;
          at = subst (λ (l : ℕ). slice_get (p ∷ ps) l ≡ Some w.protocol) same w.at;
          is = w.is;
          first = ap (λ (b : Bool). if b then Some p else first_named (λ p. p.name) ps x) off ∙ w.first;
        }

    go : (b : Bool) → (p.name.name.0 == x.0) ≡ b → (if b then Some 0 else one_later (protocol_among ps x)) ≡ Some i → ((k : ℕ) → protocol_among ps x ≡ Some k → ProtocolThere ps x k) → ProtocolThere (p ∷ ps) x i
    go true e j more =
        let same : 0 ≡ i = cc in
        record {
          protocol = p;
          at = subst (λ (l : ℕ). slice_get (p ∷ ps) l ≡ Some p) same refl;
          is = same_name p.name.name x e;
          first = ap (λ (b : Bool). if b then Some p else first_named (λ p. p.name) ps x) e;
        }
    go false e j more = later more e (protocol_among ps x) refl j

-- a protocol that is declared is found
pub protocol_found : (ps : List Protocol) (x : NameId) → is_among (map (λ p. p.name.name) ps) x ≡ true → (i : ℕ) × (protocol_among ps x ≡ Some i)
protocol_found [] x h = absurd cc
protocol_found (p ∷ ps) x h = go (p.name.name.0 == x.0) h (protocol_found ps x)
  where
    go : (b : Bool) → (b || is_among (map (λ p. p.name.name) ps) x) ≡ true → (is_among (map (λ p. p.name.name) ps) x ≡ true → (i : ℕ) × (protocol_among ps x ≡ Some i))
        → (i : ℕ) × ((if b then Some 0 else one_later (protocol_among ps x)) ≡ Some i)
    go true i more = (0, refl)
    go false i more = let w = more i in (suc w.0, ap one_later w.1)

-- who isn't among names differs from each of them
apart_from : (ns : List NameId) (a r : NameId) → is_among ns r ≡ false → is_among ns a ≡ true → (a.0 == r.0) ≡ false
apart_from ns a r off on = go (a.0 == r.0) refl
  where
    go : (b : Bool) → (a.0 == r.0) ≡ b → b ≡ false
    go false e = refl
    go true e = absurd (let same : true ≡ false = sym on ∙ ap (is_among ns) (same_name a r e) ∙ off in cc)

neither : {A : Type 0} (ns : List NameId) (r a b : NameId) (s t : A) → is_among ns r ≡ false → is_among ns a ≡ true → is_among ns b ≡ true → (if a.0 == r.0 then s ∷ [] else (if b.0 == r.0 then t ∷ [] else [])) ≡ []
neither ns r a b s t off i j =
    ap (λ (x : Bool). if x then s ∷ [] else (if b.0 == r.0 then t ∷ [] else [])) (apart_from ns a r off i) ∙ ap (λ (x : Bool). if x then t ∷ [] else []) (apart_from ns b r off j)

pub contains_at : {A : Type 0} (xs : List A) (i : ℕ) (x : A) → slice_get xs i ≡ Some x → Contains xs x
contains_at [] i x h = absurd cc
contains_at (y ∷ ys) zero x h = (0, omega arith, (let same : y ≡ x = cc in same))
contains_at (y ∷ ys) (suc i) x h = let w = contains_at ys i x h in (suc w.0, (let l : w.0 < length ys = w.1 in omega (arith, l)), w.2)

-- names that differ stand at one place each
never : (n : Named) (ns : List Named) → all_differ (names_in (n ∷ ns)) ≡ true → (j : ℕ) (b : Named) → slice_get ns j ≡ Some b → n.name ≡ b.name → ⊥
never n ns differ j b at same = go (is_among (names_in ns) n.name) (subst (λ (x : NameId). is_among (names_in ns) x ≡ true) (sym same) (there ns j b at)) differ
  where
    there : (ns : List Named) (j : ℕ) (b : Named) → slice_get ns j ≡ Some b → is_among (names_in ns) b.name ≡ true
    there [] j b at = absurd cc
    there (m ∷ ms) zero b at = let is : m ≡ b = cc in or_left (m.name.0 == b.name.0) _ (ap (λ (z : Named). z.name.0 == b.name.0) is ∙ true_eq b.name.0)
    there (m ∷ ms) (suc j) b at = or_rights (m.name.0 == b.name.0) _ (there ms j b at)

    go : (t : Bool) → t ≡ true → (not t && all_differ (names_in ns)) ≡ true → ⊥
    go true e d = absurd cc
    go false e d = absurd cc

pub one_place : (roles : List Named) → all_differ (names_in roles) ≡ true → (i j : ℕ) (a b : Named) → slice_get roles i ≡ Some a → slice_get roles j ≡ Some b → a.name ≡ b.name → i ≡ j
one_place [] differ i j a b h k same = absurd cc
one_place (n ∷ ns) differ zero zero a b h k same = refl
one_place (n ∷ ns) differ zero (suc j) a b h k same = let is : n ≡ a = cc in absurd (never n ns differ j b k (ap (λ (z : Named). z.name) is ∙ same))
one_place (n ∷ ns) differ (suc i) zero a b h k same = let is : n ≡ b = cc in absurd (never n ns differ i a h (ap (λ (z : Named). z.name) is ∙ sym same))
one_place (n ∷ ns) differ (suc i) (suc j) a b h k same = ap suc (one_place ns (rest (is_among (names_in ns) n.name) differ) i j a b h k same)
  where
    rest : (b : Bool) → (not b && all_differ (names_in ns)) ≡ true → all_differ (names_in ns) ≡ true
    rest true e = absurd cc
    rest false e = e

-- ---- a file without fault in its names

-- a step's roles are among those of its protocol
step_among : (f : File) (p : Protocol) (s : ProtoStep) → step_faults f p s ≡ [] → (x : Exchange) (next : NameId) → IsIn {A = Exchange × NameId} (x, next) (exchanges_of s) → (r : NameId) → is_among (names_in p.roles) r ≡ false → action_in r x ≡ []
step_among f p End fine x next h r off = absurd h
step_among f p (Value a b c n) fine x next (inr h) r off = absurd h
step_among f p (Value a b c n) fine x next (inl h) r off =
    let w = both_empty (unknown (names_in p.roles) a ++ unknown (names_in p.roles) b) (payload_faults f c) fine in
    let u = both_empty (unknown (names_in p.roles) a) (unknown (names_in p.roles) b) w.0 in
    let is : passes a.name b.name (content_of c) ≡ x = ap (λ (q : Exchange × NameId). q.0) h in
    subst (λ (y : Exchange). action_in r y ≡ []) is (unnamed a.name b.name (is_known (names_in p.roles) a u.0) (is_known (names_in p.roles) b u.1))
  where
    unnamed : (a b : NameId) → is_among (names_in p.roles) a ≡ true → is_among (names_in p.roles) b ≡ true → action_in r (passes a b (content_of c)) ≡ []
    unnamed a b i j = neither (names_in p.roles) r a b _ _ off i j
step_among f p (Choice a b arms) fine x next h r off =
    let w = both_empty (unknown (names_in p.roles) a ++ unknown (names_in p.roles) b) (repeated [] (map (λ arm. arm.label) arms)) fine in
    let u = both_empty (unknown (names_in p.roles) a) (unknown (names_in p.roles) b) w.0 in
    go (is_known (names_in p.roles) a u.0) (is_known (names_in p.roles) b u.1) arms h
  where
    go : is_among (names_in p.roles) a.name ≡ true → is_among (names_in p.roles) b.name ≡ true → (arms : List ProtoArm) → IsIn {A = Exchange × NameId} (x, next) (map (λ arm. (chooses a.name b.name arm.label.name, arm.next.name)) arms) → action_in r x ≡ []
    go i j [] k = absurd k
    go i j (arm ∷ arms) (inl k) =
        let is : chooses a.name b.name arm.label.name ≡ x = ap (λ (q : Exchange × NameId). q.0) k in
        subst (λ (y : Exchange). action_in r y ≡ []) is (neither (names_in p.roles) r a.name b.name _ _ off i j)
    go i j (arm ∷ arms) (inr k) = go i j arms k

module _ (f : File) (fit : IsFit f) where
  abbrev of_protocols : List Fault
  of_protocols = repeated [] (map (λ p. p.name) f.protocols) ++ flat_map (protocol_faults f) f.protocols

  -- there is no fault of protocols, channels and processes
  fine : (of_protocols ≡ []) × (flat_map (channel_faults f) f.services ≡ []) × (repeated [] f.processes ≡ [])
  fine =
      let s = repeated [] (map (λ s. s.name) f.services) in
      let c = flat_map (channel_faults f) f.services in
      let n = repeated [] (map (λ p. p.name) f.procs) in
      let h = flat_map (procedure_faults f) f.procs in
      let d0 = both_empty (of_protocols ++ s ++ c ++ n ++ h) (repeated [] f.processes) (no_items (declaration_faults f) fit.names) in
      let d1 = both_empty (of_protocols ++ s ++ c ++ n) h d0.0 in
      let d2 = both_empty (of_protocols ++ s ++ c) n d1.0 in
      let d3 = both_empty (of_protocols ++ s) c d2.0 in
      ((both_empty of_protocols s d3.0).0, d3.1, d0.1)

  of_protocol : (p : Protocol) → Contains f.protocols p → protocol_faults f p ≡ []
  of_protocol p m = each_empty (protocol_faults f) f.protocols (both_empty (repeated [] (map (λ p. p.name) f.protocols)) (flat_map (protocol_faults f) f.protocols) fine.0).1 p m

  -- the processes of main differ
  pub processes_differ : all_differ (names_in f.processes) ≡ true
  processes_differ = all_apart [] f.processes fine.2

  -- a protocol's roles differ
  pub roles_differ : (p : Protocol) → Contains f.protocols p → all_differ (names_in p.roles) ≡ true
  roles_differ p m =
      let w = both_empty (repeated [] p.roles ++ repeated [] (map (λ s. s.name) p.states)) (flat_map (λ (s : State). step_faults f p s.step) p.states) (of_protocol p m) in
      all_apart [] p.roles (both_empty (repeated [] p.roles) (repeated [] (map (λ s. s.name) p.states)) w.0).0

  -- who isn't one of them does nothing on any path
  pub does_nothing : (p : Protocol) → Contains f.protocols p → (r : NameId) → is_among (names_in p.roles) r ≡ false → (path : List Exchange) (i k : ℕ) → IsPath p.states i path k → actions_of r path ≡ []
  does_nothing p m r off [] i k way = refl
  does_nothing p m r off (x ∷ path) i k (j, leads, rest) =
      let w = both_empty (repeated [] p.roles ++ repeated [] (map (λ s. s.name) p.states)) (flat_map (λ (s : State). step_faults f p s.step) p.states) (of_protocol p m) in
      let one = each_empty (λ (s : State). step_faults f p s.step) p.states w.1 leads.state (contains_at p.states i leads.state leads.here) in
      ap (λ l. l ++ actions_of r path) (step_among f p leads.state.step one x leads.next leads.allowed r off) ∙ does_nothing p m r off path j k rest

  -- the protocol of a channel is found
  pub channel_protocol : (c : NameId) (s : Service) → channel_of f c ≡ Some s → (i : ℕ) × (protocol_among f.protocols s.protocol.name ≡ Some i)
  channel_protocol c s h =
      let one = each_empty (channel_faults f) f.services fine.1 s (found_in (λ z. z.name) f.services c s h) in
      let w = both_empty (unknown (protocols_of f) s.protocol) (wrong_roles (protocol_of f s.protocol.name) s) one in
      protocol_found f.protocols s.protocol.name (is_known (protocols_of f) s.protocol w.0)
