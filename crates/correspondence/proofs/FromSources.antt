-- What a source keeps, the bodies of its calls keep; and a renamed call's body is the renamed body.
use Rattle.std.proofs.Common.{◌≡◌, inl, ℕ, suc, ◌≤◌, Bool, true, false, List, [], ◌∷◌, length, Option, Some, None, refl, sym, ap, ◌∙◌, subst, if◌then◌else◌, ◌==◌, ◌||◌}
use Rattle.std.specs.Prelude.{map}
use Rattle.std.proofs.lemmas.Bool.{eqb-false}
use Rattle.chor_base.specs.declared.names.NameId.{NameId}
use Rattle.chor_base.specs.Events.{Triple}
use Rattle.chor_semantics.specs.Choreography.{Ref, Live, Named, ref_eq, among, Content, OfValue, OfLabel, OfPart, Starts, Communicates, InTransit, Alone, Choreography, Then, Either, Calls, Ends, put, put_content, put_part, bound, bound_served, named_by, instance_of}
use Rattle.chor_semantics.specs.Sources.{Procedure}
use Rattle.chor_semantics.specs.Steps.{procedure_named, bound_all, body_of}
use Rattle.endpoint_code.specs.declared.endpoints.Channel.{Channel}
use Rattle.endpoint_code.specs.declared.endpoints.Endpoints.{Endpoints}
use Rattle.endpoint_code.specs.Network.{channel_of}
use Rattle.well_formed.specs.WellFormed.{Scope, IsIn, AllIn, entered, firsts, scope_after, ContentFits, CallFits, IsWellFormed, names_in_scope, declared_scope, AllFit}
use Rattle.well_formed.specs.Guarded.{IsGuardedFor}
use Rattle.well_formed.specs.Linear.{ParameterSets, given, IsLinear}
use Rattle.well_formed.specs.Holders.{ListedHolders}
use Rattle.well_formed.specs.Transit.{AreInTransit}
use Rattle.well_formed.proofs.Absent.{IsNoDeeper, IsAbsent}
use Rattle.correspondence.proofs.Bodies.{IsBody, Bodies}
use Rattle.well_formed.specs.SourceTrees.{IsName, AreNames, AreParts, IsContent, IsSource, AllSources}
use Rattle.well_formed.proofs.References.{differ_ref, clash}
use Rattle.correspondence.proofs.Renamed.{put_body, BodiesRenamed}
use Rattle.correspondence.proofs.OwnedBodies.{owned_bodies}
use Rattle.well_formed.proofs.Instances.{arg_among, called, body_is, fit_bodies, none_deeper}
use Rattle.well_formed.proofs.InstancesGuarded.{absent_instance, source_empty, guarded_instance}
use Rattle.well_formed.proofs.InstancesLinear.{linear_instance, given_args, given_names}
use Rattle.correspondence.specs.Premises.{IsSound}

-- ---- renaming

module _ (ks : List Channel) (procs : List Procedure) (f g : Ref → Ref) (d : ℕ) (fixed_f : (y : ℕ) → f (Named y d) ≡ Named y d) (fixed_g : (y : ℕ) → g (Named y d) ≡ Named y d) where
  abbrev After : (Ref → Ref) → (ℕ → Ref) → (ℕ → Ref) → List Ref → Type 0
  After h F F' bs0 = (x : ℕ) → among (Named x 0) bs0 ≡ true → F' x ≡ h (F x)

  after_more : (h : Ref → Ref) → ((y : ℕ) → h (Named y d) ≡ Named y d) → (F F' : ℕ → Ref) (bs0 : List Ref) (y : ℕ) → After h F F' bs0 → After h (bound y (Named y d) F) (bound y (Named y d) F') (Named y 0 ∷ bs0)
  after_more h fixed F F' bs0 y a x k = go (y == x) refl
    where
      rest : (y == x) ≡ false → among (Named x 0) bs0 ≡ true
      rest e = other (ref_eq (Named x 0) (Named y 0)) (differ_ref (Named x 0) (Named y 0) (λ v. eqb-false y x e (sym (plain v)))) k
        where
          plain : Named x 0 ≡ Named y 0 → x ≡ y
          plain v = cc

          other : (b : Bool) → b ≡ false → (b || among (Named x 0) bs0) ≡ true → among (Named x 0) bs0 ≡ true
          other false i j = j
          other true i j = absurd cc

      go : (b : Bool) → (y == x) ≡ b → (if b then Named y d else F' x) ≡ h (if b then Named y d else F x)
      go true e = sym (fixed y)
      go false e = a x (rest e)

  after_all : (F F' : ℕ → Ref) (bs0 : List Ref) (ss : List (ℕ × NameId)) → After f F F' bs0 → After f (bound_served d ss F) (bound_served d ss F') (entered 0 ss bs0)
  after_all F F' bs0 [] a = a
  after_all F F' bs0 (t ∷ ss) a = after_all (bound t.0 (Named t.0 d) F) (bound t.0 (Named t.0 d) F') (Named t.0 0 ∷ bs0) ss (after_more f fixed_f F F' bs0 t.0 a)

  one_after : (h : Ref → Ref) (F F' : ℕ → Ref) (bs0 : List Ref) → After h F F' bs0 → (r : Ref) → IsName r → IsIn 0 bs0 r → named_by F' r ≡ h (named_by F r)
  one_after h F F' bs0 a (Live m) i k = absurd i
  one_after h F F' bs0 a (Named x c) i k = a x (ap (λ z. among (Named x z) bs0) (sym i) ∙ k)

  refs_after : (h : Ref → Ref) (F F' : ℕ → Ref) (bs0 : List Ref) → After h F F' bs0 → (rs : List Ref) → AreNames rs → AllIn 0 bs0 rs → map (named_by F') rs ≡ map h (map (named_by F) rs)
  refs_after h F F' bs0 a [] i k = refl
  refs_after h F F' bs0 a (r ∷ rs) i k = ap (λ y. y ∷ map (named_by F') rs) (one_after h F F' bs0 a r i.0 k.0) ∙ ap (λ y. h (named_by F r) ∷ y) (refs_after h F F' bs0 a rs i.1 k.1)

  parts_after : (F F' : ℕ → Ref) (bs0 : List Ref) → After f F F' bs0 → (active : List (Ref × NameId)) → AreParts active → AllIn 0 bs0 (firsts active) → put_part (named_by F') active ≡ put_part f (put_part (named_by F) active)
  parts_after F F' bs0 a [] i k = refl
  parts_after F F' bs0 a (q ∷ qs) i k = ap (λ y. (y, q.1) ∷ put_part (named_by F') qs) (one_after f F F' bs0 a q.0 i.0 k.0) ∙ ap (λ y. (f (named_by F q.0), q.1) ∷ y) (parts_after F F' bs0 a qs i.1 k.1)

  instance_put : (F F' G G' : ℕ → Ref) (sc : Scope) → sc.pid ≡ 0 → sc.sid ≡ 0 → After f F F' sc.processes → After g G G' sc.sessions → (c : Choreography) → IsSource c → IsWellFormed ks procs sc c → instance_of d F' G' c ≡ put f g (instance_of d F G c)
  instance_put F F' G G' sc z y a b (Then (Starts c e k active serve) rest) i w =
      let known : AllIn 0 sc.processes (firsts active) = subst (λ v. AllIn v sc.processes (firsts active)) z w.0.known in
      let zero' : e ≡ 0 = i.0.0 in
      let w1 : IsWellFormed ks procs (scope_after sc (Starts c 0 k active serve)) rest = subst (λ v. IsWellFormed ks procs (scope_after sc (Starts c v k active serve)) rest) zero' w.1 in
      ap (λ v. Then (Starts c d k v serve) (instance_of d (bound_served d serve F') (bound k (Named k d) G') rest)) (parts_after F F' sc.processes a active i.0.1 known)
      ∙ ap (λ v. Then (Starts c d k (put_part f (put_part (named_by F) active)) serve) v) (instance_put (bound_served d serve F) (bound_served d serve F') (bound k (Named k d) G) (bound k (Named k d) G') (scope_after sc (Starts c 0 k active serve)) z y (after_all F F' sc.processes serve a) (after_more g fixed_g G G' sc.sessions k b) rest i.1 w1)
  instance_put F F' G G' sc z y a b (Then (Communicates u q s r t x) rest) i w =
      let uk : IsIn 0 sc.sessions u = subst (λ v. IsIn v sc.sessions u) y w.0.session in
      let qk : IsIn 0 sc.processes q = subst (λ v. IsIn v sc.processes q) z w.0.sender in
      let rk : IsIn 0 sc.processes r = subst (λ v. IsIn v sc.processes r) z w.0.receiver in
      let head : Communicates (named_by G' u) (named_by F' q) s (named_by F' r) t (put_content (named_by G') x) ≡ Communicates (g (named_by G u)) (f (named_by F q)) s (f (named_by F r)) t (put_content g (put_content (named_by G) x)) =
      ap (λ v. Communicates v (named_by F' q) s (named_by F' r) t (put_content (named_by G') x)) (one_after g G G' sc.sessions b u i.0.0 uk)
      ∙ ap (λ v. Communicates (g (named_by G u)) v s (named_by F' r) t (put_content (named_by G') x)) (one_after f F F' sc.processes a q i.0.1 qk)
      ∙ ap (λ v. Communicates (g (named_by G u)) (f (named_by F q)) s v t (put_content (named_by G') x)) (one_after f F F' sc.processes a r i.0.2 rk)
      ∙ ap (λ v. Communicates (g (named_by G u)) (f (named_by F q)) s (f (named_by F r)) t v) (content x i.0.3 w.0.content) in
      ap (λ v. Then v (instance_of d F' G' rest)) head ∙ ap (λ v. Then (Communicates (g (named_by G u)) (f (named_by F q)) s (f (named_by F r)) t (put_content g (put_content (named_by G) x))) v) (instance_put F F' G G' sc z y a b rest i.1 w.1)
    where
      content : (x : Content) → IsContent x → ContentFits sc x → put_content (named_by G') x ≡ put_content g (put_content (named_by G) x)
      content (OfValue e v) i h = refl
      content (OfLabel l) i h = refl
      content (OfPart p c) i h = ap (λ v. OfPart v c) (one_after g G G' sc.sessions b p i (subst (λ v. IsIn v sc.sessions p) y h))
  instance_put F F' G G' sc z y a b (Then (InTransit u s t m q) rest) i w = absurd i.0
  instance_put F F' G G' sc z y a b (Then (Alone q o) rest) i w =
      ap (λ v. Then (Alone v o) (instance_of d F' G' rest)) (one_after f F F' sc.processes a q i.0 (subst (λ v. IsIn v sc.processes q) z w.0.0)) ∙ ap (λ v. Then (Alone (f (named_by F q)) o) v) (instance_put F F' G G' sc z y a b rest i.1 w.1)
  instance_put F F' G G' sc z y a b (Either q e c c') i w =
      ap (λ v. Either v e (instance_of d F' G' c) (instance_of d F' G' c')) (one_after f F F' sc.processes a q i.0 (subst (λ v. IsIn v sc.processes q) z w.0.0))
      ∙ ap (λ v. Either (f (named_by F q)) e v (instance_of d F' G' c')) (instance_put F F' G G' sc z y a b c i.1 w.1)
      ∙ ap (λ v. Either (f (named_by F q)) e (put f g (instance_of d F G c)) v) (instance_put F F' G G' sc z y a b c' i.2 w.2)
  instance_put F F' G G' sc z y a b (Calls h e qs us) i w =
      ap (λ v. Calls h d v (map (named_by G') us)) (refs_after f F F' sc.processes a qs i.0 (subst (λ v. AllIn v sc.processes qs) z w.processes))
      ∙ ap (λ v. Calls h d (map f (map (named_by F) qs)) v) (refs_after g G G' sc.sessions b us i.1 (subst (λ v. AllIn v sc.sessions us) y w.sessions))
  instance_put F F' G G' sc z y a b Ends i w = refl

args_put : (dd : ℕ) → (f : Ref → Ref) (xs : List NameId) (rs : List Ref) (x : ℕ) → length rs ≡ length xs → among (Named x 0) (names_in_scope xs) ≡ true → bound_all dd xs (map f rs) x ≡ f (bound_all dd xs rs x)
args_put dd f [] rs x l h = absurd cc
args_put dd f (y ∷ xs) [] x l h = absurd cc
args_put dd f (y ∷ xs) (r ∷ rs) x l h = go (y.0 == x) refl (args_put dd f xs rs x (less l))
  where
    less : suc (length rs) ≡ suc (length xs) → length rs ≡ length xs
    less i = cc

    plain : Named x 0 ≡ Named y.0 0 → x ≡ y.0
    plain v = cc

    other : (b : Bool) → b ≡ false → (b || among (Named x 0) (names_in_scope xs)) ≡ true → among (Named x 0) (names_in_scope xs) ≡ true
    other false i j = j
    other true i j = absurd cc

    go : (b : Bool) → (y.0 == x) ≡ b → (among (Named x 0) (names_in_scope xs) ≡ true → bound_all dd xs (map f rs) x ≡ f (bound_all dd xs rs x)) → (if b then f r else bound_all dd xs (map f rs) x) ≡ f (if b then r else bound_all dd xs rs x)
    go true e ih = refl
    go false e ih = ih (other (ref_eq (Named x 0) (Named y.0 0)) (differ_ref (Named x 0) (Named y.0 0) (λ z. eqb-false y.0 x e (sym (plain z)))) h)

pub bodies_renamed : (ks : List Channel) (procs : List Procedure) → AllSources procs → AllFit ks procs → BodiesRenamed ks procs
bodies_renamed ks procs sources fit f g sc sc' r s h d ps ss w = go (procedure_named procs h) refl
  where
    go : (o : Option Procedure) → procedure_named procs h ≡ o → body_of o d (map f ps) (map g ss) ≡ put_body f g (body_of o d ps ss)
    go None i = refl
    go (Some p) i =
        let same : Some w.procedure ≡ Some p = sym w.declared ∙ i in
        let p' : w.procedure ≡ p = cc in
        let pc : length ps ≡ length p.params = w.process_count ∙ ap (λ y. length y.params) p' in
        let sc0 : length ss ≡ length p.sessions = w.session_count ∙ ap (λ y. length y.sessions) p' in
        ap Some (instance_put ks procs f g (suc d) (λ y. r.fixed y (suc d) (none_deeper d sc.processes w.processes_above y)) (λ y. s.fixed y (suc d) (none_deeper d sc.sessions w.sessions_above y)) (bound_all (suc d) p.params ps) (bound_all (suc d) p.params (map f ps)) (bound_all (suc d) p.sessions ss) (bound_all (suc d) p.sessions (map g ss)) (declared_scope p.params p.sessions) refl refl (λ x k. args_put (suc d) f p.params ps x pc k) (λ x k. args_put (suc d) g p.sessions ss x sc0 k) p.body (sources h p i) (fit h p i).body)

-- ---- the rest

away : (p : Ref) (q : Ref) (rs : List Ref) → among p rs ≡ false → among q rs ≡ true → ref_eq p q ≡ false
away p q rs h i = differ_ref p q (λ e. clash (ap (λ y. among y rs) e ∙ i) h)

module _ (e : Endpoints) (procs : List Procedure) (sets : NameId → ParameterSets) (lists : ListedHolders) (so : IsSound e procs sets lists) where
  pub all_bodies : Bodies e procs sets lists
  all_bodies = record {
    fit = fit_bodies e.channels procs so.sources so.fit;
    outside = out;
    guarded = guard;
    empty = none;
    holders_fit = owned_bodies e.channels procs lists so.sources so.fit so.lists_fit so.holders_fit;
    services = so.services;
    linear = line;
    roles = so.roles;
  }
    where
      out : (sc : Scope) (p : Ref) (f : NameId) (d : ℕ) (ps ss : List Ref) (c : Choreography) → IsBody procs f d ps ss c → CallFits procs sc f d ps ss → among p ps ≡ false → IsNoDeeper d p → IsAbsent p c
      out sc p f d ps ss c b w h young =
          let i = called e.channels procs so.sources so.fit sc f d ps ss c b w in
          subst (IsAbsent p) (sym i.is) (absent_instance e.channels procs d p young (bound_all (suc d) i.procedure.params ps) (bound_all (suc d) i.procedure.sessions ss) (declared_scope i.procedure.params i.procedure.sessions) refl (λ x k. away p (bound_all (suc d) i.procedure.params ps x) ps h (arg_among (suc d) i.procedure.params ps x i.process_count k)) i.procedure.body (so.sources f i.procedure i.declared) (so.fit f i.procedure i.declared).body)

      guard : (p : ℕ) (f : NameId) (d : ℕ) (ps ss : List Ref) (c : Choreography) → IsBody procs f d ps ss c → among (Live p) ps ≡ true → IsGuardedFor (Live p) c
      guard p f d ps ss c b h =
          let i = body_is procs f d ps ss c b in
          subst (IsGuardedFor (Live p)) (sym i.is) (guarded_instance e.channels procs (suc d) p (bound_all (suc d) i.procedure.params ps) (bound_all (suc d) i.procedure.sessions ss) (declared_scope i.procedure.params i.procedure.sessions) refl i.procedure.body (so.sources f i.procedure i.declared) (so.fit f i.procedure i.declared).body (λ x k j. so.guarded f i.procedure i.declared x k))

      none : (t : Triple) (f : NameId) (d : ℕ) (ps ss : List Ref) (c : Choreography) → IsBody procs f d ps ss c → AreInTransit t c []
      none t f d ps ss c b =
          let i = body_is procs f d ps ss c b in
          subst (λ y. AreInTransit t y []) (sym i.is) (source_empty t (suc d) (bound_all (suc d) i.procedure.params ps) (bound_all (suc d) i.procedure.sessions ss) i.procedure.body (so.sources f i.procedure i.declared))

      line : (a : NameId) (k : Channel) → channel_of e.channels a ≡ Some k → 2 ≤ length k.active → (sc : Scope) (f : NameId) (d : ℕ) (ps ss : List Ref) (c : Choreography) → IsBody procs f d ps ss c → CallFits procs sc f d ps ss → IsLinear a (sets a) (given (sets a f) 0 ps) c
      line a k at two sc f d ps ss c b w =
          let i = called e.channels procs so.sources so.fit sc f d ps ss c b w in
          subst (IsLinear a (sets a) (given (sets a f) 0 ps)) (sym i.is)
          (linear_instance e.channels procs (suc d) a (sets a) (bound_all (suc d) i.procedure.params ps) (bound_all (suc d) i.procedure.sessions ss) (declared_scope i.procedure.params i.procedure.sessions) refl (given (sets a f) 0 (names_in_scope i.procedure.params)) (given (sets a f) 0 ps)
          (λ x k' h. given_args (suc d) (sets a f) 0 i.procedure.params ps x i.process_count (so.fit f i.procedure i.declared).params h) (inl (λ x h. given_names (sets a f) 0 i.procedure.params x h)) i.procedure.body (so.sources f i.procedure i.declared) (so.fit f i.procedure i.declared).body (so.linear a k at two f i.procedure i.declared))
