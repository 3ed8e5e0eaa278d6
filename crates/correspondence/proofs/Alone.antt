-- The correspondence is kept by an event of one process.
use Rattle.std.proofs.Common.{◌≡◌, inl, ℕ, zero, suc, ◌<◌, Bool, true, false, List, [], ◌∷◌, length, Option, Some, None, refl, sym, ap, ◌∙◌, subst, if◌then◌else◌, ◌==◌, arith, cond}
use Rattle.std.specs.Prelude.{map, slice_get, slice_set}
use Rattle.std.specs.Ordering.{nat_cmp, eq_by_cmp}
use Rattle.std.proofs.lemmas.Bool.Decides.{nat_tests}
use Rattle.std.proofs.lemmas.Cmp.{nat_cmp_total}
use Rattle.std.proofs.lemmas.Option.{slice_get_within}
use Rattle.std.proofs.lemmas.List.{length-map, length-set}
use Rattle.std.specs.FinMap as fin
use Rattle.chor_base.specs.declared.names.NameId.{NameId}
use Rattle.chor_base.specs.declared.value.Value.{Value}
use Rattle.chor_base.specs.declared.event.Event.{Event}
use Rattle.chor_base.specs.declared.event.Event.TheVariants.{Start, Send, Recv, Test, Set, Show, Host}
use Rattle.chor_base.specs.NameMap.{Variables}
use Rattle.chor_base.specs.Meaning.{Hosts}
use Rattle.chor_base.specs.Events.{Triple}
use Rattle.chor_semantics.specs.Choreography.{Ref, Live, ref_eq, Choreography}
use Rattle.chor_semantics.specs.Sources.{Procedure, Configuration}
use Rattle.chor_semantics.specs.Steps.{Effect, Keeps, Assigns, Moves, assigned, vars_after, sid_after, vars_of}
use Rattle.endpoint_code.specs.declared.endpoints.Endpoints.{Endpoints}
use Rattle.endpoint_code.specs.Network.{Machine, NetworkState, queue_of}
use Rattle.well_formed.specs.Follows.{IsEqualUpToPruning}
use Rattle.well_formed.specs.WellFormed.{IsPlain, IsWellFormed, ArePlain}
use Rattle.well_formed.specs.Linear.{ParameterSets, everyone}
use Rattle.well_formed.specs.Holders.{ListedHolders, holder_by, load_hands, HolderIn}
use Rattle.well_formed.specs.Transit.{AreInTransit}
use Rattle.correspondence.proofs.Bodies.{Bodies}
use Rattle.correspondence.specs.Corresponds.{session_map, live_scope, Corresponds}
use Rattle.well_formed.proofs.References.{NotStart, actor_of}
use Rattle.well_formed.proofs.Fits.{fits_kept}
use Rattle.correspondence.proofs.Others.{kept}
use Rattle.correspondence.proofs.Holders.{owned_kept}
use Rattle.correspondence.proofs.Services.{served_kept}
use Rattle.well_formed.proofs.LinearKept.{linear_kept}
use Rattle.correspondence.proofs.Machines.{get_set_same, get_set_other}

pub plain_empty : ArePlain fin.empty
plain_empty x v h = let e : fin.get {R = nat_cmp} fin.empty x ≡ None = fin.get-empty nat_cmp x in absurd (not_both e h)
  where
    not_both : {o : Option Value} → o ≡ None → o ≡ Some v → ⊥
    not_both i j = cc

pub plain_insert : (m : Variables) (y : NameId) (w : Value) → ArePlain m → IsPlain w → ArePlain (fin.insert m y.0 w)
plain_insert m y w h k x v e = go (eq_by_cmp nat_cmp x y.0) (sym (fin.get-insert nat_cmp_total m y.0 w x) ∙ e)
  where
    go : (b : Bool) → cond b (Some w) (fin.get m x) ≡ Some v → IsPlain v
    go true i = let j : w ≡ v = cc in subst IsPlain j k
    go false i = h x v i

pub plain_all : (ms : List Machine) → ((p : ℕ) (m : Machine) → slice_get ms p ≡ Some m → ArePlain m.vars) → (p : ℕ) → ArePlain (vars_of (map (λ m. m.vars) ms) p)
plain_all [] h p = plain_empty
plain_all (m ∷ ms) h zero = h zero m refl
plain_all (m ∷ ms) h (suc p) = plain_all ms (λ q k e. h (suc q) k e) p

alone_vars : (vars : List Variables) (x : Event) (f : Effect) → NotStart x → vars_after vars x f ≡ assigned vars f
alone_vars vars (Start c s parts) f h = absurd h
alone_vars vars (Send p s a b l) f h = refl
alone_vars vars (Recv p s a b l) f h = refl
alone_vars vars (Test p b) f h = refl
alone_vars vars (Set p y v) f h = refl
alone_vars vars (Show p v) f h = refl
alone_vars vars (Host p y g a b v) f h = refl

alone_sid : (s : ℕ) (x : Event) → NotStart x → sid_after s x ≡ s
alone_sid s (Start c t parts) h = absurd h
alone_sid s (Send p t a b l) h = refl
alone_sid s (Recv p t a b l) h = refl
alone_sid s (Test p b) h = refl
alone_sid s (Set p y v) h = refl
alone_sid s (Show p v) h = refl
alone_sid s (Host p y g a b v) h = refl

assigned_length : (vars : List Variables) (f : Effect) → length (assigned vars f) ≡ length vars
assigned_length vars Keeps = refl
assigned_length vars (Assigns p y v) = length-set vars p (fin.insert (vars_of vars p) y.0 v)

module _ (e : Endpoints) (procs : List Procedure) (sets : NameId → ParameterSets) (lists : ListedHolders) (hosts : Hosts) (bd : Bodies e procs sets lists) (c : Configuration) (n : NetworkState) (co : Corresponds e procs sets lists c n) where
  pub plain_vars : (p : ℕ) → ArePlain (vars_of c.vars p)
  plain_vars p = subst (λ y. ArePlain (vars_of y p)) co.vars (plain_all n.machines co.plain p)

  pub number_below : (p : ℕ) (m : Machine) → slice_get n.machines p ≡ Some m → p < length c.vars
  number_below p m h = subst (λ y. p < y) (sym (length-map n.machines (λ m. m.vars)) ∙ ap length co.vars) (slice_get_within n.machines p m h)

  -- what the choreography's step and the machine that has moved give
  pub record Moved (x : Event) (f : Effect) (d : Choreography) (p : ℕ) (m' : NetworkState) : Type 0 where
    pub machine : Machine
    pub there : slice_get n.machines p ≡ Some machine
    pub moved : Machine
    pub machines : m'.machines ≡ slice_set n.machines p moved
    pub sid : m'.sid ≡ n.sid
    pub vars : map (λ m. m.vars) (slice_set n.machines p moved) ≡ assigned c.vars f
    pub plain : ArePlain moved.vars
    pub in_transit : (t : Triple) → AreInTransit t d (queue_of m' t)
    pub follows : IsEqualUpToPruning e procs (Live p) d moved.at (session_map moved.sessions)

  -- the configuration after
  abbrev pub after : Event → Effect → Choreography → Configuration
  after x f d = record { tree = d; vars = vars_after c.vars x f; sid = sid_after c.sid x }

  pub kept_alone : (x : Event) → NotStart x → (f : Effect) (d : Choreography) → Moves procs hosts c.vars c.sid c.tree x f d → (p : ℕ) → actor_of x ≡ p → (m' : NetworkState) → Moved x f d p m' → Corresponds e procs sets lists (after x f d) m'
  kept_alone x ns f d mv p mine m' w = record {
    vars = ap (map (λ m. m.vars)) w.machines ∙ w.vars ∙ sym (alone_vars c.vars x f ns);
    sid = w.sid ∙ co.sid ∙ sym (alone_sid c.sid x ns);
    follows = λ q m h. each q m (q == p) refl (ap (λ y. slice_get y q) (sym w.machines) ∙ h);
    services = served_kept e.channels e procs hosts c.vars c.sid bd.fit bd.outside bd.services x ns (live_scope c) co.well_formed co.services mv;
    in_transit = w.in_transit;
    holders = λ u r. holder_by u r x (co.holders u r);
    holders_in = λ u r. subst (λ y. HolderIn y (holder_by u r x (co.holders u r))) scope (holder u r x mine (co.holders u r) (co.holders_in u r));
    holders_fit = λ u r. owned_kept e.channels procs hosts c.vars c.sid lists bd.fit bd.holders_fit plain_vars u r x ns (live_scope c) (co.holders u r) co.well_formed (co.holders_fit u r) mv;
    linear = λ a k at two. linear_kept e.channels procs hosts c.vars c.sid bd.fit a (sets a) (bd.linear a k at two) (live_scope c) refl everyone co.well_formed (inl (λ r. refl)) (co.linear a k at two) mv;
    well_formed = subst (λ y. IsWellFormed e.channels procs y d) scope (fits_kept e.channels procs hosts c.vars c.sid bd.fit plain_vars (live_scope c) ns co.well_formed mv);
    plain = λ q m h. plain_one q m (q == p) refl (ap (λ y. slice_get y q) (sym w.machines) ∙ h);
  }
    where
      scope : live_scope c ≡ live_scope (after x f d)
      scope = ap (λ y. record { pid = y; processes = []; sid = c.sid; sessions = [] }) (sym (ap length (alone_vars c.vars x f ns) ∙ assigned_length c.vars f)) ∙ ap (λ y. record { pid = length (vars_after c.vars x f); processes = []; sid = y; sessions = [] }) (sym (alone_sid c.sid x ns))

      hold : (b : Bool) (o o' : Option Ref) → HolderIn (live_scope c) o → HolderIn (live_scope c) o' → HolderIn (live_scope c) (if b then o' else o)
      hold true o o' i j = j
      hold false o o' i j = i

      holder : (u : Ref) (r : NameId) (x : Event) → actor_of x ≡ p → (o : Option Ref) → HolderIn (live_scope c) o → HolderIn (live_scope c) (holder_by u r x o)
      holder u r (Start a s parts) i o h = h
      holder u r (Send q s a b l) i o h = hold (load_hands u r l) o None h tt
      holder u r (Recv q s a b l) i o h = hold (load_hands u r l) o (Some (Live q)) h (subst (λ y. y < length c.vars) (sym i) (number_below p w.machine w.there))
      holder u r (Test q v) i o h = h
      holder u r (Set q y v) i o h = h
      holder u r (Show q v) i o h = h
      holder u r (Host q y g a b v) i o h = h

      same : (q : ℕ) → (q == p) ≡ true → q ≡ p
      same q i = grind (arith, nat_tests)

      turned : (q : ℕ) → (q == p) ≡ false → (p == q) ≡ false
      turned q i = grind (arith, nat_tests)

      is_moved : (q : ℕ) (m : Machine) → (q == p) ≡ true → slice_get (slice_set n.machines p w.moved) q ≡ Some m → w.moved ≡ m
      is_moved q m i h = let j : slice_get (slice_set n.machines p w.moved) p ≡ Some m = ap (slice_get (slice_set n.machines p w.moved)) (sym (same q i)) ∙ h in let k = get_set_same n.machines p w.machine w.moved w.there in cc

      each : (q : ℕ) (m : Machine) (b : Bool) → (q == p) ≡ b → slice_get (slice_set n.machines p w.moved) q ≡ Some m → IsEqualUpToPruning e procs (Live q) d m.at (session_map m.sessions)
      each q m true i h = subst (λ y. IsEqualUpToPruning e procs (Live q) d y.at (session_map y.sessions)) (is_moved q m i h) (subst (λ y. IsEqualUpToPruning e procs (Live y) d w.moved.at (session_map w.moved.sessions)) (sym (same q i)) w.follows)
      each q m false i h =
          let old : slice_get n.machines q ≡ Some m = sym (get_set_other n.machines p q w.moved (turned q i)) ∙ h in
          let off : ref_eq (Live q) (Live (actor_of x)) ≡ false = ap (λ y. ref_eq (Live q) (Live y)) mine ∙ i in
          λ k. kept e.channels e procs hosts c.vars c.sid bd.fit bd.outside (Live q) k x ns off (live_scope c) c.tree d f (number_below q m old) co.well_formed mv m.at (session_map m.sessions) (co.follows q m old)

      plain_one : (q : ℕ) (m : Machine) (b : Bool) → (q == p) ≡ b → slice_get (slice_set n.machines p w.moved) q ≡ Some m → ArePlain m.vars
      plain_one q m true i h = subst (λ y. ArePlain y.vars) (is_moved q m i h) w.plain
      plain_one q m false i h = co.plain q m (sym (get_set_other n.machines p q w.moved (turned q i)) ∙ h)
