-- A process that names the sessions in which it holds a role has code that uses its session names well.
use Rattle.std.proofs.Common.{◌≡◌, List, [], ◌∷◌, map, length, refl, sym, ap, ◌∙◌, subst, Option, Some, None, Bool, true, false, if◌then◌else◌, ◌==◌, ◌&&◌, ◌||◌, suc, arith}
use Rattle.std.proofs.lemmas.Bool.Decides.{nat_tests}
use Rattle.chor_base.specs.declared.names.NameId.{NameId}
use Rattle.chor_tree.specs.declared.file.Proc.{Proc}
use Rattle.chor_tree.specs.declared.file.ProcParam.{ProcParam}
use Rattle.chor_tree.specs.declared.file.SessionParam.{SessionParam}
use Rattle.chor_tree.specs.declared.tree.Node.{Node as TreeNode}
use Rattle.chor_semantics.specs.Choreography.{Ref, Content, OfValue, OfLabel, OfPart, Own, Sets as SetsOwn, Shows as ShowsOwn, Asks as AsksOwn, Node, Starts, Communicates, InTransit, Alone, Choreography, Then}
use Rattle.endpoint_code.specs.declared.endpoints.Endpoints.{Endpoints}
use Rattle.endpoint_code.specs.Faults.{is_among, AreDistinct, no_name, one_more, without, all_among}
use Rattle.endpoint_code.specs.Trees.{CodeTree}
use Rattle.well_formed.proofs.References.{clash, true_eq}
use Rattle.projection.specs.Codes.{Part, Absent, Acts, Learns, name_of, is_named, role_in, joins, sends, receives, acts_alone, part_in, proc_named, param_for, holds, sessions_for, passed_for, call_as, call_code, IsCodeOf, acts, learns, absent, decides, merges, calls, ends}
use Rattle.projection.proofs.OneCode.{code_distinct}
use Rattle.accepted_files.specs.PlayedRoles.{has_name}
use Rattle.accepted_files.proofs.Units.{HasUnits}
use Rattle.accepted_files.specs.Held.{Held, with_held, GivesHeld, GainsNew, held_after, Exchanges, JoinsNew, HoldsListed, PassesFor, PassesAtCall, UsesHeld, Agrees}
use Rattle.merged_codes.specs.Scoped.{bound_after, IsScopedAction, IsScopedTree, IsScopedCode}
use Rattle.merged_codes.proofs.ScopedMerged.{least_scoped}

-- ---- lists of bound sessions

agrees_more : (g : Held) (bs : List NameId) (k : NameId) → Agrees g bs → Agrees (with_held g k.0 true) (k ∷ bs)
agrees_more g bs k w y = go (y.0 == k.0)
  where
    go : (b : Bool) → (b || is_among y bs) ≡ (if b then true else g y.0)
    go true = refl
    go false = w y

without_is : (h y : NameId) (bs : List NameId) → is_among y (without h bs) ≡ (if y.0 == h.0 then false else is_among y bs)
without_is h y [] = go (y.0 == h.0)
  where
    go : (b : Bool) → false ≡ (if b then false else false)
    go true = refl
    go false = refl
without_is h y (x ∷ xs) = go (h.0 == x.0) refl (y.0 == h.0) refl (y.0 == x.0) refl (without_is h y xs)
  where
    go : (b : Bool) → (h.0 == x.0) ≡ b → (c : Bool) → (y.0 == h.0) ≡ c → (d : Bool) → (y.0 == x.0) ≡ d → is_among y (without h xs) ≡ (if c then false else is_among y xs)
        → is_among y (if b then without h xs else x ∷ without h xs) ≡ (if c then false else (d || is_among y xs))
    go true i true j d k ih = ih
    go true i false j false k ih = ih
    go true i false j true k ih = let e : (y.0 == h.0) ≡ true = grind (arith, nat_tests) in absurd (clash e j)
    go false i true j false k ih = ap (λ b. b || is_among y (without h xs)) k ∙ ih
    go false i true j true k ih = let e : (h.0 == x.0) ≡ true = grind (arith, nat_tests) in absurd (clash e i)
    go false i false j false k ih = ap (λ b. b || is_among y (without h xs)) k ∙ ih
    go false i false j true k ih = ap (λ b. b || is_among y (without h xs)) k

agrees_less : (g : Held) (bs : List NameId) (h : NameId) → Agrees g bs → Agrees (with_held g h.0 false) (without h bs)
agrees_less g bs h w y = without_is h y bs ∙ ap (λ b. if y.0 == h.0 then false else b) (w y)

-- ---- calls

passed_count : (p : NameId) (ks : List SessionParam) (ss : List Ref) → length ss ≡ length ks → length (passed_for p ks ss) ≡ length (sessions_for p ks)
passed_count p [] [] h = refl
passed_count p [] (s ∷ ss) h = absurd (omega (arith, h))
passed_count p (k ∷ ks) [] h = absurd (omega (arith, h))
passed_count p (k ∷ ks) (s ∷ ss) h = go (holds p k.holders) (passed_count p ks ss (omega (arith, h)))
  where
    go : (b : Bool) → length (passed_for p ks ss) ≡ length (sessions_for p ks) → length (if b then name_of s ∷ passed_for p ks ss else passed_for p ks ss) ≡ length (if b then k.name.name ∷ sessions_for p ks else sessions_for p ks)
    go true ih = ap suc ih
    go false ih = ih

passed_bound : (g : Held) (bs : List NameId) (p : NameId) (ks : List SessionParam) (ss : List Ref) → Agrees g bs → HoldsListed g p ks ss → all_among (passed_for p ks ss) bs ≡ true
passed_bound g bs p [] ss w h = refl
passed_bound g bs p (k ∷ ks) [] w h = refl
passed_bound g bs p (k ∷ ks) (s ∷ ss) w h = go (holds p k.holders) refl (passed_bound g bs p ks ss w h.1)
  where
    go : (b : Bool) → holds p k.holders ≡ b → all_among (passed_for p ks ss) bs ≡ true → all_among (if b then name_of s ∷ passed_for p ks ss else passed_for p ks ss) bs ≡ true
    go true i ih = ap (λ b. b && all_among (passed_for p ks ss) bs) (w (name_of s) ∙ h.0 i) ∙ ih
    go false i ih = ih

passed_among : (x p : NameId) (ks : List SessionParam) (ss : List Ref) → is_among x (map name_of ss) ≡ false → is_among x (passed_for p ks ss) ≡ false
passed_among x p [] ss h = refl
passed_among x p (k ∷ ks) [] h = refl
passed_among x p (k ∷ ks) (s ∷ ss) h = go (holds p k.holders) (x.0 == (name_of s).0) refl h (passed_among x p ks ss)
  where
    go : (b c : Bool) → (x.0 == (name_of s).0) ≡ c → (c || is_among x (map name_of ss)) ≡ false → (is_among x (map name_of ss) ≡ false → is_among x (passed_for p ks ss) ≡ false) → is_among x (if b then name_of s ∷ passed_for p ks ss else passed_for p ks ss) ≡ false
    go b true i j ih = absurd cc
    go true false i j ih = ap (λ b. b || is_among x (passed_for p ks ss)) i ∙ ih j
    go false false i j ih = ih j

passed_apart : (p : NameId) (ks : List SessionParam) (ss : List Ref) → AreDistinct (map name_of ss) → AreDistinct (passed_for p ks ss)
passed_apart p [] ss d = no_name
passed_apart p (k ∷ ks) [] d = no_name
passed_apart p (k ∷ ks) (s ∷ ss) (one_more h d) = go (holds p k.holders) (passed_apart p ks ss d)
  where
    go : (b : Bool) → AreDistinct (passed_for p ks ss) → AreDistinct (if b then name_of s ∷ passed_for p ks ss else passed_for p ks ss)
    go true ih = one_more (passed_among (name_of s) p ks ss h) ih
    go false ih = ih

-- who is passed is a parameter
param_there : (r p : NameId) (xs : List ProcParam) (qs : List Ref) → param_for r xs qs ≡ Some p → has_name p (map (λ q. q.name.name) xs) ≡ true
param_there r p [] qs h = absurd cc
param_there r p (x ∷ xs) [] h = absurd cc
param_there r p (x ∷ xs) (q ∷ qs) h = go (is_named r q) h (param_there r p xs qs)
  where
    go : (b : Bool) → (if b then Some x.name.name else param_for r xs qs) ≡ Some p → (param_for r xs qs ≡ Some p → has_name p (map (λ q. q.name.name) xs) ≡ true) → (if p.0 == x.name.name.0 then true else has_name p (map (λ q. q.name.name) xs)) ≡ true
    go true i ih =
        let e : x.name.name ≡ p = cc in
        ap (λ b. if b then true else has_name p (map (λ q. q.name.name) xs)) (ap (λ (z : NameId). p.0 == z.0) e ∙ true_eq p.0)
    go false i ih = either (p.0 == x.name.name.0) (ih i)
      where
        either : (b : Bool) → has_name p (map (λ q. q.name.name) xs) ≡ true → (if b then true else has_name p (map (λ q. q.name.name) xs)) ≡ true
        either true j = refl
        either false j = j

-- ---- the code

module _ (e : Endpoints) (fs : List Proc) (nodes : List TreeNode) (units : HasUnits e fs nodes) (r : NameId) where
  -- what follows, where these sessions are bound
  record Goes (rest : Choreography) (bs : List NameId) : Type 0 where
    held : Held
    agrees : Agrees held bs
    uses : UsesHeld e fs r rest held

  -- what it does at a node
  abbrev PartGoes : Choreography → List NameId → Part → Type 0
  PartGoes rest bs Absent = Goes rest bs
  PartGoes rest bs (Acts a) = IsScopedAction e a bs × Goes rest (bound_after a bs)
  PartGoes rest bs (Learns k a l) = (is_among k bs ≡ true) × Goes rest bs

  sends_goes : (rest : Choreography) (g : Held) (bs : List NameId) (s : Ref) (b : NameId) (w : Content) → Agrees g bs → g (name_of s).0 ≡ true → GivesHeld g w → UsesHeld e fs r rest (held_after g w false)
      → PartGoes rest bs (Acts (sends (name_of s) b w))
  sends_goes rest g bs s b (OfValue x y) ag i h u = (ag (name_of s) ∙ i, record { held = g; agrees = ag; uses = u })
  sends_goes rest g bs s b (OfLabel l) ag i h u = (ag (name_of s) ∙ i, record { held = g; agrees = ag; uses = u })
  sends_goes rest g bs s b (OfPart k a) ag i h u =
      ((ag (name_of s) ∙ i, ag (name_of k) ∙ h), record { held = with_held g (name_of k).0 false; agrees = agrees_less g bs (name_of k) ag; uses = u })

  receives_goes : (rest : Choreography) (g : Held) (bs : List NameId) (s : Ref) (b : NameId) (w : Content) → Agrees g bs → g (name_of s).0 ≡ true → GainsNew g w → UsesHeld e fs r rest (held_after g w true)
      → PartGoes rest bs (receives (name_of s) b w)
  receives_goes rest g bs s b (OfValue x y) ag i h u = (ag (name_of s) ∙ i, record { held = g; agrees = ag; uses = u })
  receives_goes rest g bs s b (OfLabel l) ag i h u = (ag (name_of s) ∙ i, record { held = g; agrees = ag; uses = u })
  receives_goes rest g bs s b (OfPart k a) ag i h u =
      ((ag (name_of s) ∙ i, ag (name_of k) ∙ h), record { held = with_held g (name_of k).0 true; agrees = agrees_more g bs (name_of k) ag; uses = u })

  alone_goes : (rest : Choreography) (g : Held) (bs : List NameId) (o : Own) → Agrees g bs → UsesHeld e fs r rest g → PartGoes rest bs (Acts (acts_alone o))
  alone_goes rest g bs (SetsOwn x v) ag u = (tt, record { held = g; agrees = ag; uses = u })
  alone_goes rest g bs (ShowsOwn v) ag u = (tt, record { held = g; agrees = ag; uses = u })
  alone_goes rest g bs (AsksOwn x f v w) ag u = (tt, record { held = g; agrees = ag; uses = u })

  part_goes : (n : Node) (rest : Choreography) (g : Held) (bs : List NameId) → Agrees g bs → UsesHeld e fs r (Then n rest) g → PartGoes rest bs (part_in r n)
  part_goes (Starts c d k act srv) rest g bs ag u = go (role_in r act) u
    where
      go : (o : Option NameId) → JoinsNew e c k g o (UsesHeld e fs r rest) → PartGoes rest bs (joins c k o)
      go None u = record { held = g; agrees = ag; uses = u }
      go (Some a) u = ((u.0, ag (record { 0 = k }) ∙ u.1), record { held = with_held g k true; agrees = agrees_more g bs (record { 0 = k }) ag; uses = u.2 })
  part_goes (Communicates s p a q b w) rest g bs ag u = go (is_named r p) (is_named r q) u
    where
      go : (i j : Bool) → Exchanges i j g s w (UsesHeld e fs r rest) → PartGoes rest bs (if i then Acts (sends (name_of s) b w) else (if j then receives (name_of s) a w else Absent))
      go true j u = sends_goes rest g bs s b w ag u.0 u.1 u.2
      go false true u = receives_goes rest g bs s a w ag u.0 u.1 u.2
      go false false u = record { held = g; agrees = ag; uses = u }
  part_goes (InTransit s a b m q) rest g bs ag u = record { held = g; agrees = ag; uses = u }
  part_goes (Alone p o) rest g bs ag u = go (is_named r p)
    where
      go : (i : Bool) → PartGoes rest bs (if i then Acts (acts_alone o) else Absent)
      go true = alone_goes rest g bs o ag u
      go false = record { held = g; agrees = ag; uses = u }

  call_goes : (f : NameId) (ps ss : List Ref) (g : Held) (bs : List NameId) → Agrees g bs → PassesAtCall r ps ss g (proc_named fs f) → IsScopedTree e (call_code r f ps ss (proc_named fs f)) bs
  call_goes f ps ss g bs ag u = at (proc_named fs f) refl u
    where
      at : (o : Option Proc) → proc_named fs f ≡ o → PassesAtCall r ps ss g o → IsScopedTree e (call_code r f ps ss o) bs
      at None i u = tt
      at (Some h) i u = for (param_for r h.params ps) refl u
        where
          for : (o : Option NameId) → param_for r h.params ps ≡ o → PassesFor g h ss o → IsScopedTree e (call_as f h ss o) bs
          for None j u = tt
          for (Some p) j u =
              let unit = units f p h i (param_there r p h.params ps j) in
              record {
                unit = unit.unit;
                found = unit.found;
                count = passed_count p h.sessions ss u.count ∙ ap length (sym unit.sessions);
                bound = passed_bound g bs p h.sessions ss ag u.listed;
                apart = passed_apart p h.sessions ss u.apart;
              }

  tree_scoped : (c : Choreography) (x : CodeTree) → IsCodeOf fs r c x → (g : Held) (bs : List NameId) → Agrees g bs → UsesHeld e fs r c g → IsScopedTree e x bs
  tree_scoped c x (acts {n = n} {rest = rest} {a = a} {c = t} i h) g bs ag u =
      let w = subst (PartGoes rest bs) i (part_goes n rest g bs ag u) in
      (w.0, tree_scoped rest t h w.1.held (bound_after a bs) w.1.agrees w.1.uses)
  tree_scoped c x (learns {n = n} {rest = rest} {c = t} i h) g bs ag u =
      let w = subst (PartGoes rest bs) i (part_goes n rest g bs ag u) in
      (w.0, (tree_scoped rest t h w.1.held bs w.1.agrees w.1.uses, tt))
  tree_scoped c x (absent {n = n} {rest = rest} i h) g bs ag u =
      let w = subst (PartGoes rest bs) i (part_goes n rest g bs ag u) in tree_scoped rest x h w.held bs w.agrees w.uses
  tree_scoped c x (decides {first = first} {second = second} {c = s} {d = t} i h k) g bs ag u = (tree_scoped first s h g bs ag u.0, tree_scoped second t k g bs ag u.1)
  tree_scoped c x (merges {first = first} {second = second} {c = s} {d = t} i h k least) g bs ag u =
      (least_scoped e bs s (t ∷ []) x (
        record { distinct = code_distinct fs r h; scoped = tree_scoped first s h g bs ag u.0 },
        (record { distinct = code_distinct fs r k; scoped = tree_scoped second t k g bs ag u.1 }, tt),
      ) least).scoped
  tree_scoped c x (calls {f = f} {qs = qs} {ss = ss} i) g bs ag u = subst (λ z. IsScopedTree e z bs) (sym i) (call_goes f qs ss g bs ag u)
  tree_scoped c x ends g bs ag u = tt

  -- Its code uses its session names well, where those are bound in which it holds a role
  pub code_scoped : (c : Choreography) (x : CodeTree) → IsCodeOf fs r c x → (g : Held) (bs : List NameId) → Agrees g bs → UsesHeld e fs r c g → IsScopedCode e bs x
  code_scoped c x h g bs ag u = record { distinct = code_distinct fs r h; scoped = tree_scoped c x h g bs ag u }
