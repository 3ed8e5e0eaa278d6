-- The code of a process in a choreography that can be written can be written.
use Rattle.std.proofs.Common.{◌≡◌, ℕ, suc, ◌≤◌, ◌<◌, ◌-◌, List, [], ◌∷◌, length, refl, sym, subst, Option, Some, None, Bool, true, false, if◌then◌else◌, ◌==◌, arith}
use Rattle.std.specs.List.{AllByRecursion}
use Rattle.chor_base.specs.declared.names.NameId.{NameId}
use Rattle.chor_tree.specs.declared.file.Proc.{Proc}
use Rattle.chor_tree.specs.declared.file.ProcParam.{ProcParam}
use Rattle.chor_tree.specs.declared.file.SessionParam.{SessionParam}
use Rattle.chor_semantics.specs.Choreography.{Ref, Content, OfValue, OfLabel, OfPart, Own, Sets as SetsOwn, Shows as ShowsOwn, Asks as AsksOwn, Node, Starts, Communicates, InTransit, Alone, Choreography}
use Rattle.endpoint_code.specs.declared.endpoints.Endpoints.{Endpoints}
use Rattle.endpoint_code.specs.Trees.{CodeTree}
use Rattle.endpoint_laws.specs.Spelled.{IsNamed, AreNamed, IsActionSpelled}
use Rattle.endpoint_laws.specs.Limits.{IsActionShort}
use Rattle.projection.specs.Codes.{Part, Absent, Acts, Learns, name_of, is_named, role_in, joins, sends, receives, acts_alone, part_in, proc_named, param_for, holds, passed_for, call_as, call_code, IsCodeOf, acts, learns, absent, decides, merges, calls, ends}
use Rattle.projection.proofs.OneCode.{code_distinct}
use Rattle.writable_sources.specs.Written.{IsNamedRef, IsWritableContent, IsWritableOwn, IsWritableNode, IsWritableIn, IsWritableHead, IsWritableCode}
use Rattle.writable_sources.proofs.Merged.{fits_more, least_writable}

module _ (e : Endpoints) where
  -- ---- what a process does at a node

  abbrev IsPartWritable : Part → Type 0
  IsPartWritable Absent = Unit {0}
  IsPartWritable (Acts a) = IsActionSpelled e a × IsActionShort e a
  IsPartWritable (Learns k a l) = IsNamed e k × IsNamed e a × IsNamed e l

  role_named : (r a : NameId) (ps : List (Ref × NameId)) → AllByRecursion (λ p. IsNamed e p.1) ps → role_in r ps ≡ Some a → IsNamed e a
  role_named r a [] w h = absurd cc
  role_named r a (p ∷ ps) w h = go (is_named r p.0) h (role_named r a ps w.1)
    where
      go : (b : Bool) → (if b then Some p.1 else role_in r ps) ≡ Some a → (role_in r ps ≡ Some a → IsNamed e a) → IsNamed e a
      go true i ih = let same : p.1 ≡ a = cc in subst (IsNamed e) same w.0
      go false i ih = ih i

  sends_written : (k b : NameId) (w : Content) → IsNamed e k → IsNamed e b → IsWritableContent e w → IsPartWritable (Acts (sends k b w))
  sends_written k b (OfValue t x) named role h = ((named, role, h.0.0), h.0.1)
  sends_written k b (OfLabel l) named role h = ((named, role, h), tt)
  sends_written k b (OfPart s r) named role h = ((named, role, h), tt)

  receives_written : (k a : NameId) (w : Content) → IsNamed e k → IsNamed e a → IsWritableContent e w → IsPartWritable (receives k a w)
  receives_written k a (OfValue t x) named role h = ((named, role, h.1), tt)
  receives_written k a (OfLabel l) named role h = (named, role, h)
  receives_written k a (OfPart s r) named role h = ((named, role, h), tt)

  alone_written : (own : Own) → IsWritableOwn e own → IsPartWritable (Acts (acts_alone own))
  alone_written (SetsOwn x t) h = ((h.0, h.1.0), h.1.1)
  alone_written (ShowsOwn t) h = (h.0, h.1)
  alone_written (AsksOwn x f l r) h = ((h.0, h.1, h.2.0, h.3.0), (h.2.1, h.3.1))

  part_written : (r : NameId) (n : Node) → IsWritableNode e n → IsPartWritable (part_in r n)
  part_written r (Starts c d k act srv) h = go (role_in r act) refl
    where
      go : (o : Option NameId) → role_in r act ≡ o → IsPartWritable (joins c k o)
      go None i = tt
      go (Some a) i = ((h.0, role_named r a act h.2 i, h.1), tt)
  part_written r (Communicates k p a q b w) h = go (is_named r p) (is_named r q)
    where
      go : (i j : Bool) → IsPartWritable (if i then Acts (sends (name_of k) b w) else (if j then receives (name_of k) a w else Absent))
      go true j = sends_written (name_of k) b w h.0 h.2 h.3
      go false true = receives_written (name_of k) a w h.0 h.1 h.3
      go false false = tt
  part_written r (InTransit k a b m q) h = tt
  part_written r (Alone p own) h = go (is_named r p)
    where
      go : (i : Bool) → IsPartWritable (if i then Acts (acts_alone own) else Absent)
      go true = alone_written own h
      go false = tt

  -- ---- calls

  passed_named : (p : NameId) (ks : List SessionParam) (ss : List Ref) → AllByRecursion (IsNamedRef e) ss → AreNamed e (passed_for p ks ss)
  passed_named p [] ss h = tt
  passed_named p (k ∷ ks) [] h = tt
  passed_named p (k ∷ ks) (s ∷ ss) h = go (holds p k.holders) (passed_named p ks ss h.1)
    where
      go : (b : Bool) → AreNamed e (passed_for p ks ss) → AreNamed e (if b then name_of s ∷ passed_for p ks ss else passed_for p ks ss)
      go true i = (h.0, i)
      go false i = i

  passed_few : (p : NameId) (ks : List SessionParam) (ss : List Ref) → length (passed_for p ks ss) ≤ length ks
  passed_few p [] ss = omega arith
  passed_few p (k ∷ ks) [] = omega arith
  passed_few p (k ∷ ks) (s ∷ ss) = go (holds p k.holders) (passed_few p ks ss)
    where
      go : (b : Bool) → length (passed_for p ks ss) ≤ length ks → length (if b then name_of s ∷ passed_for p ks ss else passed_for p ks ss) ≤ suc (length ks)
      go true i = omega (arith, i)
      go false i = omega (arith, i)

  param_named : (r p : NameId) (xs : List ProcParam) (qs : List Ref) → AllByRecursion (λ x. IsNamed e x.name.name) xs → param_for r xs qs ≡ Some p → IsNamed e p
  param_named r p [] qs w h = absurd cc
  param_named r p (x ∷ xs) [] w h = absurd cc
  param_named r p (x ∷ xs) (q ∷ qs) w h = go (is_named r q) h (param_named r p xs qs w.1)
    where
      go : (b : Bool) → (if b then Some x.name.name else param_for r xs qs) ≡ Some p → (param_for r xs qs ≡ Some p → IsNamed e p) → IsNamed e p
      go true i ih = let same : x.name.name ≡ p = cc in subst (IsNamed e) same w.0
      go false i ih = ih i

  head_of : (procs : List Proc) (f : NameId) (h : Proc) → AllByRecursion (IsWritableHead e) procs → proc_named procs f ≡ Some h → IsWritableHead e h
  head_of [] f h w i = absurd cc
  head_of (x ∷ xs) f h w i = go (x.name.name.0 == f.0) i (head_of xs f h w.1)
    where
      go : (b : Bool) → (if b then Some x else proc_named xs f) ≡ Some h → (proc_named xs f ≡ Some h → IsWritableHead e h) → IsWritableHead e h
      go true j ih = let same : x ≡ h = cc in subst (IsWritableHead e) same w.0
      go false j ih = ih j

  module _ (procs : List Proc) (heads : AllByRecursion (IsWritableHead e) procs) (r : NameId) where
    call_written : (n : ℕ) (f : NameId) (qs ss : List Ref) → 0 < n → IsNamed e f → AllByRecursion (IsNamedRef e) ss → IsWritableCode e n (call_code r f qs ss (proc_named procs f))
    call_written n f qs ss some named sessions = at (proc_named procs f) refl
      where
        at : (o : Option Proc) → proc_named procs f ≡ o → IsWritableCode e n (call_code r f qs ss o)
        at None i = record { spelled = tt; fits = some }
        at (Some h) i = for (param_for r h.params qs) refl
          where
            head : IsWritableHead e h
            head = head_of procs f h heads i

            for : (o : Option NameId) → param_for r h.params qs ≡ o → IsWritableCode e n (call_as f h ss o)
            for None j = record { spelled = tt; fits = some }
            for (Some p) j = record {
              spelled = (named, param_named r p h.params qs head.params j, passed_named p h.sessions ss sessions);
              fits = (some, (let few : length h.sessions ≤ 8 = head.few in omega (arith, few, passed_few p h.sessions ss)));
            }

    -- The code of a process can be written, with no more nodes on a path than the choreography has
    pub code_writable : (n : ℕ) (c : Choreography) (x : CodeTree) → IsCodeOf procs r c x → IsWritableIn e n c → IsWritableCode e n x
    code_writable n c x (acts {n = node} {rest = rest} {c = t} i h) w =
        let p = subst IsPartWritable i (part_written r node w.1) in
        let more = code_writable (n - 1) rest t h w.2 in
        record { spelled = (p.0, more.spelled); fits = (w.0, p.1, more.fits) }
    code_writable n c x (learns {n = node} {rest = rest} {c = t} i h) w =
        let p = subst IsPartWritable i (part_written r node w.1) in
        let more = code_writable (n - 1) rest t h w.2 in
        record { spelled = (p.0, p.1, (p.2, more.spelled, tt)); fits = (w.0, tt, (more.fits, tt)) }
    code_writable n c x (absent {rest = rest} i h) w =
        let more = code_writable (n - 1) rest x h w.2 in record { spelled = more.spelled; fits = fits_more e x (n - 1) n (omega arith) more.fits }
    code_writable n c x (decides {first = first} {second = second} {c = s} {d = t} i h k) w =
        let one = code_writable (n - 1) first s h w.2 in
        let other = code_writable (n - 1) second t k w.3 in
        record { spelled = (w.1.0, one.spelled, other.spelled); fits = (w.0, w.1.1, one.fits, other.fits) }
    code_writable n c x (merges {first = first} {second = second} {c = s} {d = t} i h k least) w =
        let one = code_writable (n - 1) first s h w.2 in
        let other = code_writable (n - 1) second t k w.3 in
        let whole = least_writable e (n - 1) s (t ∷ []) x (code_distinct procs r h, (code_distinct procs r k, tt)) (one, (other, tt)) least in
        record { spelled = whole.spelled; fits = fits_more e x (n - 1) n (omega arith) whole.fits }
    code_writable n c x (calls {f = f} {qs = qs} {ss = ss} i) w = subst (IsWritableCode e n) (sym i) (call_written n f qs ss w.0 w.1 w.2)
    code_writable n c x ends w = record { spelled = tt; fits = w }
