-- What one process makes in states that are the same.
use Rattle.std.proofs.Common.{◌≡◌, ℕ, Bool, true, false, List, [], ◌∷◌, ◌++◌, refl, ap, subst, Option, Some, None, ℤ, if◌then◌else◌}
use Rattle.std.specs.Prelude.{slice_get, nat_lt}
use Rattle.std.specs.FinMap as fin
use Rattle.chor_base.specs.declared.names.NameId.{NameId}
use Rattle.chor_base.specs.declared.value.Value.{Value}
use Rattle.chor_base.specs.declared.value.Value.TheVariants.{Int, Part as Endpoint}
use Rattle.chor_base.specs.declared.value.Load.{Load}
use Rattle.chor_base.specs.declared.value.Load.TheVariants.{Value as Carries}
use Rattle.chor_base.specs.declared.event.Event.TheVariants as event
use Rattle.chor_base.specs.Expr.{Term, term_of, value_of, truth_of}
use Rattle.chor_base.specs.NameMap.{Variables}
use Rattle.endpoint_code.specs.declared.code.CodeId.{CodeId}
use Rattle.endpoint_code.specs.declared.code.CodeNode.{CodeNode}
use Rattle.endpoint_code.specs.declared.endpoints.Endpoints.{Endpoints}
use Rattle.endpoint_code.specs.Network.{Sessions, Machine, NetworkState, Place, Made, Makes, Taking, Goes, moved, queue_of, has_room, put_if, puts, part_load, arm_at, takes_value, in_arm, takes_label, takes_part, went, takes_from, takes, node_makes, place_makes, machine_makes, makes, place_of}
use Rattle.same_programs.specs.Words.{SameName, SameText, BothOrNeither}
use Rattle.same_programs.specs.Codes.{SameValue, number, truth, text, part, SameTerm}
use Rattle.same_programs.specs.Programs.{IsCopy}
use Rattle.same_programs.specs.States as events
use Rattle.same_programs.specs.States.{SameLoad, carries, picks, SameEvent, SameMachine, SameState, SameVariables, SameSessions}
use Rattle.same_programs.proofs.Tests.{texts_tell}
use Rattle.same_programs.proofs.Zips.{zip_length, zip_get, zip_append}
use Rattle.same_programs.proofs.Maps.{insert_same, remove_same}
use Rattle.same_programs.proofs.Values.{numbers_same, truths_same, value_same}
use Rattle.same_programs.proofs.Nodes.{IsSpot, Alike, join, send, recv, pick, branch, throw, catch, set, show, host, fork, call, stop}
use Rattle.same_programs.proofs.Places.{tell, Held, SamePlace, place_same}
use Rattle.same_programs.proofs.States.{Loads, moved_same, queued_same}

module _ (e e' : Endpoints) (c : IsCopy e e') where
  abbrev N : NameId → NameId → Type 0
  N = SameName e e'

  abbrev T : ℕ → ℕ → Type 0
  T = SameText e e'

  abbrev L : Load → Load → Type 0
  L = SameLoad (SameName e e') (SameText e e')

  -- the same event, and the same state after it
  abbrev pub SameMade : Made → Made → Type 0
  SameMade (Makes x n) (Makes y m) = SameEvent (SameName e e') (SameText e e') x y × SameState e e' n m

  abbrev pub SameTaking : Taking → Taking → Type 0
  SameTaking (Goes i vars m) (Goes j vars' m') = IsSpot e e' i j × SameVariables e e' vars vars' × SameSessions e e' m m'

  -- ---- sends

  pub rooms_same : (cap : Option ℕ) (q r : List Load) → Loads e e' c q r → has_room cap q ≡ has_room cap r
  rooms_same None q r h = refl
  rooms_same (Some k) q r h = ap (λ n. nat_lt n k) (zip_length L q r h)

  put_if_same : (b d : Bool) → b ≡ d → (n n' : NetworkState) → SameState e e' n n' → (p s : ℕ) (a b' f g : NameId) → N a f → N b' g → (l k : Load) → L l k
      → BothOrNeither SameMade (put_if b n p (s, a, b') l) (put_if d n' p (s, f, g) k)
  put_if_same b d h n n' same p s a b' f g i j l k u = subst (λ t. BothOrNeither SameMade (put_if b n p (s, a, b') l) (put_if t n' p (s, f, g) k)) h (go b)
    where
      go : (t : Bool) → BothOrNeither SameMade (put_if t n p (s, a, b') l) (put_if t n' p (s, f, g) k)
      go false = tt
      go true = (
        events.send i j u,
        queued_same e e' c n n' same s a b' f g i j (queue_of n (s, a, b') ++ l ∷ []) (queue_of n' (s, f, g) ++ k ∷ [])
            (zip_append L (queue_of n (s, a, b')) (queue_of n' (s, f, g)) (l ∷ []) (k ∷ []) (same.queues s a b' f g i j) (u, tt)),
      )

  puts_same : (cap : Option ℕ) (n n' : NetworkState) → SameState e e' n n' → (p : ℕ) (b d : NameId) → N b d → (o u : Option (ℕ × NameId)) → BothOrNeither (Held e e' c) o u
      → (l k : Option Load) → BothOrNeither L l k → BothOrNeither SameMade (puts cap n p b o l) (puts cap n' p d u k)
  puts_same cap n n' same p b d i None None h l k j = tt
  puts_same cap n n' same p b d i None (Some y) h l k j = absurd h
  puts_same cap n n' same p b d i (Some x) None h l k j = absurd h
  puts_same cap n n' same p b d i (Some x) (Some y) h None None j = tt
  puts_same cap n n' same p b d i (Some x) (Some y) h None (Some k) j = absurd j
  puts_same cap n n' same p b d i (Some x) (Some y) h (Some l) None j = absurd j
  puts_same cap n n' same p b d i (Some (s, a)) (Some (t, f)) h (Some l) (Some k) j =
      subst (λ (z : ℕ). BothOrNeither SameMade (puts cap n p b (Some (s, a)) (Some l)) (puts cap n' p d (Some (z, f)) (Some k))) h.0
      (put_if_same (has_room cap (queue_of n (s, a, b))) (has_room cap (queue_of n' (s, f, d)))
      (rooms_same cap (queue_of n (s, a, b)) (queue_of n' (s, f, d)) (same.queues s a b f d h.1 i)) n n' same p s a b f d h.1 i l k j)

  part_same : (o u : Option (ℕ × NameId)) → BothOrNeither (Held e e' c) o u → BothOrNeither L (part_load o) (part_load u)
  part_same None None h = tt
  part_same None (Some y) h = absurd h
  part_same (Some x) None h = absurd h
  part_same (Some (s, r)) (Some (t, q)) h = subst (λ (z : ℕ). L (Carries (Endpoint s r)) (Carries (Endpoint z q))) h.0 (carries (part h.1))

  -- ---- receives

  module _ (vars vars' : Variables) (v : SameVariables e e' vars vars') (m m' : Sessions) (u : SameSessions e e' m m') where
    set_same : (x y : NameId) → N x y → (w z : Value) → SameValue N T w z → SameVariables e e' (fin.insert vars x.0 w) (fin.insert vars' y.0 z)
    set_same x y i w z h = insert_same N (SameValue N T) (tell e e' c) vars vars' v x y w z i h

    pub value_taken : (i j : CodeId) → IsSpot e e' i j → (x y : NameId) → N x y → (l k : Load) → L l k → BothOrNeither SameTaking (takes_value i vars m x l) (takes_value j vars' m' y k)
    value_taken i j s x y n l k (carries number) = (s, set_same x y n _ _ number, u)
    value_taken i j s x y n l k (carries truth) = (s, set_same x y n _ _ truth, u)
    value_taken i j s x y n l k (carries (text t)) = (s, set_same x y n _ _ (text t), u)
    value_taken i j s x y n l k (carries (part r)) = tt
    value_taken i j s x y n l k (picks r) = tt

    in_arm_same : (o t : Option CodeId) → BothOrNeither (IsSpot e e') o t → BothOrNeither SameTaking (in_arm o vars m) (in_arm t vars' m')
    in_arm_same None None h = tt
    in_arm_same None (Some j) h = absurd h
    in_arm_same (Some i) None h = absurd h
    in_arm_same (Some i) (Some j) h = (h, v, u)

    pub label_taken : (qs ps : List (NameId × CodeId)) → ((l k : NameId) → N l k → BothOrNeither (IsSpot e e') (arm_at qs l) (arm_at ps k)) → (l k : Load) → L l k
        → BothOrNeither SameTaking (takes_label qs vars m l) (takes_label ps vars' m' k)
    label_taken qs ps arms l k (carries h) = tt
    label_taken qs ps arms l k (picks n) = in_arm_same _ _ (arms _ _ n)

    pub part_taken : (i j : CodeId) → IsSpot e e' i j → (x y : NameId) → N x y → (l k : Load) → L l k → BothOrNeither SameTaking (takes_part i vars m x l) (takes_part j vars' m' y k)
    part_taken i j s x y n l k (carries number) = tt
    part_taken i j s x y n l k (carries truth) = tt
    part_taken i j s x y n l k (carries (text t)) = tt
    part_taken i j s x y n l k (carries (part r)) = (s, v, insert_same N (Held e e' c) (tell e e' c) m m' u x y _ _ n (refl, r))
    part_taken i j s x y n l k (picks r) = tt

  went_same : (n n' : NetworkState) → SameState e e' n n' → (p s : ℕ) (a b d f : NameId) → N a d → N b f → (l k : Load) → L l k → (ls ks : List Load) → Loads e e' c ls ks
      → (o u : Option Taking) → BothOrNeither SameTaking o u → BothOrNeither SameMade (went n p (s, a, b) l ls o) (went n' p (s, d, f) k ks u)
  went_same n n' same p s a b d f i j l k h ls ks r None None t = tt
  went_same n n' same p s a b d f i j l k h ls ks r None (Some y) t = absurd t
  went_same n n' same p s a b d f i j l k h ls ks r (Some x) None t = absurd t
  went_same n n' same p s a b d f i j l k h ls ks r (Some (Goes x vars m)) (Some (Goes y vars' m')) t =
      (events.recv i j h, queued_same e e' c (moved n p x vars m) (moved n' p y vars' m') (moved_same e e' c n n' same p x y vars vars' m m' t.0 t.1 t.2) s a b d f i j ls ks r)

  from_same : (n n' : NetworkState) → SameState e e' n n' → (p s : ℕ) (a b d f : NameId) → N a d → N b f → (g h : Load → Option Taking)
      → ((l k : Load) → L l k → BothOrNeither SameTaking (g l) (h k)) → (ls ks : List Load) → Loads e e' c ls ks → BothOrNeither SameMade (takes_from n p (s, a, b) g ls) (takes_from n' p (s, d, f) h ks)
  from_same n n' same p s a b d f i j g h t [] [] r = tt
  from_same n n' same p s a b d f i j g h t [] (k ∷ ks) r = absurd r
  from_same n n' same p s a b d f i j g h t (l ∷ ls) [] r = absurd r
  from_same n n' same p s a b d f i j g h t (l ∷ ls) (k ∷ ks) r = went_same n n' same p s a b d f i j l k r.0 ls ks r.1 (g l) (h k) (t l k r.0)

  takes_same : (n n' : NetworkState) → SameState e e' n n' → (p : ℕ) (a d : NameId) → N a d → (o u : Option (ℕ × NameId)) → BothOrNeither (Held e e' c) o u → (g h : Load → Option Taking)
      → ((l k : Load) → L l k → BothOrNeither SameTaking (g l) (h k)) → BothOrNeither SameMade (takes n p a o g) (takes n' p d u h)
  takes_same n n' same p a d i None None b g h t = tt
  takes_same n n' same p a d i None (Some y) b g h t = absurd b
  takes_same n n' same p a d i (Some x) None b g h t = absurd b
  takes_same n n' same p a d i (Some (s, x)) (Some (r, y)) b g h t =
      subst (λ (z : ℕ). BothOrNeither SameMade (takes n p a (Some (s, x)) g) (takes n' p d (Some (z, y)) h)) b.0
      (from_same n n' same p s a x d y i b.1 g h t (queue_of n (s, a, x)) (queue_of n' (s, d, y)) (same.queues s a x d y i b.1))

  -- ---- a node

  pub values_same : {t r : Term} → SameTerm N T t r → (vars vars' : Variables) → SameVariables e e' vars vars' → SameValue N T (value_of t vars) (value_of r vars')
  values_same h vars vars' v = value_same N T (tell e e' c) (texts_tell e e' c.words c.copied_words) h vars vars' v

  host_same : (p : ℕ) (x y f g : NameId) → N x y → N f g → (a b d h v : ℤ) → a ≡ d → b ≡ h → SameEvent N T (event.Host p x f a b v) (event.Host p y g d h v)
  host_same p x y f g i j a b d h v k l =
      subst (λ (z : ℤ). SameEvent N T (event.Host p x f a b v) (event.Host p y g z h v)) k
      (subst (λ (z : ℤ). SameEvent N T (event.Host p x f a b v) (event.Host p y g a z v)) l (events.host i j))

  node_same : (cap : Option ℕ) (n n' : NetworkState) → SameState e e' n n' → (p : ℕ) (v : ℤ) (vars vars' : Variables) → SameVariables e e' vars vars' → (m m' : Sessions) → SameSessions e e' m m'
      → (o o' : CodeNode) → Alike e e' o o' → BothOrNeither SameMade (node_makes cap n p v vars m o) (node_makes cap n' p v vars' m' o')
  node_same cap n n' same p v vars vars' w m m' u o o' (send {i = i} {j = j} k b x s) =
      puts_same cap (moved n p i vars m) (moved n' p j vars' m') (moved_same e e' c n n' same p i j vars vars' m m' s w u) p _ _ b _ _ (u _ _ k) _ _ (carries (values_same x vars vars' w))
  node_same cap n n' same p v vars vars' w m m' u o o' (pick {i = i} {j = j} k b l s) =
      puts_same cap (moved n p i vars m) (moved n' p j vars' m') (moved_same e e' c n n' same p i j vars vars' m m' s w u) p _ _ b _ _ (u _ _ k) _ _ (picks l)
  node_same cap n n' same p v vars vars' w m m' u o o' (throw {g = g} {f = f} {i = i} {j = j} k b h s) =
      let less = remove_same N (Held e e' c) (tell e e' c) m m' u g f h in
      puts_same cap (moved n p i vars (fin.remove m g.0)) (moved n' p j vars' (fin.remove m' f.0)) (moved_same e e' c n n' same p i j vars vars' (fin.remove m g.0) (fin.remove m' f.0) s w less)
      p _ _ b _ _ (u _ _ k) _ _ (part_same _ _ (u _ _ h))
  node_same cap n n' same p v vars vars' w m m' u o o' (recv {x = x} {y = y} {i = i} {j = j} k a h s) =
      takes_same n n' same p _ _ a _ _ (u _ _ k) (takes_value i vars m x) (takes_value j vars' m' y) (value_taken vars vars' w m m' u i j s x y h)
  node_same cap n n' same p v vars vars' w m m' u o o' (branch {qs = qs} {ps = ps} k a s) =
      takes_same n n' same p _ _ a _ _ (u _ _ k) (takes_label qs vars m) (takes_label ps vars' m') (label_taken vars vars' w m m' u qs ps s)
  node_same cap n n' same p v vars vars' w m m' u o o' (catch {g = g} {f = f} {i = i} {j = j} k a h s) =
      takes_same n n' same p _ _ a _ _ (u _ _ k) (takes_part i vars m g) (takes_part j vars' m' f) (part_taken vars vars' w m m' u i j s g f h)
  node_same cap n n' same p v vars vars' w m m' u o o' (set {x = x} {y = y} {v = t} {w = r} {i = i} {j = j} h d s) =
      let value = values_same d vars vars' w in
      (events.set h value, moved_same e e' c n n' same p i j _ _ m m' s (set_same vars vars' w m m' u x y h _ _ value) u)
  node_same cap n n' same p v vars vars' w m m' u o o' (show {i = i} {j = j} d s) = (events.show (values_same d vars vars' w), moved_same e e' c n n' same p i j vars vars' m m' s w u)
  node_same cap n n' same p v vars vars' w m m' u o o' (host {x = x} {y = y} {f = f} {g = g} {i = i} {j = j} h k a b s) = (
    host_same p x y f g h k _ _ _ _ v (numbers_same N T (values_same a vars vars' w)) (numbers_same N T (values_same b vars vars' w)),
    moved_same e e' c n n' same p i j _ _ m m' s (set_same vars vars' w m m' u x y h (Int v) (Int v) number) u,
  )
  node_same cap n n' same p v vars vars' w m m' u o o' (fork {v = t} {w = r} {i = i} {i' = i'} {j = j} {j' = j'} d s s') =
      forked (truth_of (value_of (term_of t) vars)) (truth_of (value_of (term_of r) vars')) (truths_same N T (values_same d vars vars' w))
    where
      whole : (b : Bool) → SameMade (Makes (event.Test p b) (moved n p (if b then i else i') vars m)) (Makes (event.Test p b) (moved n' p (if b then j else j') vars' m'))
      whole true = (events.test, moved_same e e' c n n' same p i j vars vars' m m' s w u)
      whole false = (events.test, moved_same e e' c n n' same p i' j' vars vars' m m' s' w u)

      forked : (b f : Bool) → b ≡ f → SameMade (Makes (event.Test p b) (moved n p (if b then i else i') vars m)) (Makes (event.Test p f) (moved n' p (if f then j else j') vars' m'))
      forked b f h = subst (λ z. SameMade (Makes (event.Test p b) (moved n p (if b then i else i') vars m)) (Makes (event.Test p z) (moved n' p (if z then j else j') vars' m'))) h (whole b)
  node_same cap n n' same p v vars vars' w m m' u o o' (join d r k s) = tt
  node_same cap n n' same p v vars vars' w m m' u o o' (call f q ss) = tt
  node_same cap n n' same p v vars vars' w m m' u o o' stop = tt

  place_made : (cap : Option ℕ) (n n' : NetworkState) → SameState e e' n n' → (p : ℕ) (v : ℤ) (vars vars' : Variables) → SameVariables e e' vars vars' → (o u : Option Place) → BothOrNeither (SamePlace e e' c) o u
      → BothOrNeither SameMade (place_makes cap n p v vars o) (place_makes cap n' p v vars' u)
  place_made cap n n' same p v vars vars' w None None h = tt
  place_made cap n n' same p v vars vars' w None (Some y) h = absurd h
  place_made cap n n' same p v vars vars' w (Some x) None h = absurd h
  place_made cap n n' same p v vars vars' w (Some x) (Some y) h = node_same cap n n' same p v vars vars' w x.sessions y.sessions h.sessions x.node y.node h.node

  machine_made : (cap : Option ℕ) (n n' : NetworkState) → SameState e e' n n' → (p : ℕ) (v : ℤ) (o u : Option Machine) → BothOrNeither (SameMachine e e') o u
      → BothOrNeither SameMade (machine_makes e cap n p v o) (machine_makes e' cap n' p v u)
  machine_made cap n n' same p v None None h = tt
  machine_made cap n n' same p v None (Some y) h = absurd h
  machine_made cap n n' same p v (Some x) None h = absurd h
  machine_made cap n n' same p v (Some x) (Some y) h = place_made cap n n' same p v x.vars y.vars h.vars (place_of e x) (place_of e' y) (place_same e e' c x y h)

  pub makes_same : (cap : Option ℕ) (n n' : NetworkState) → SameState e e' n n' → (p : ℕ) (v : ℤ) → BothOrNeither SameMade (makes e cap n p v) (makes e' cap n' p v)
  makes_same cap n n' same p v = machine_made cap n n' same p v (slice_get n.machines p) (slice_get n'.machines p) (zip_get (SameMachine e e') n.machines n'.machines same.machines p)
