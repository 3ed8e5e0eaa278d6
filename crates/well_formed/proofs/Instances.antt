-- What a source keeps, its instances keep: the bodies of calls are well formed.
use Rattle.std.proofs.Common.{◌≡◌, ℕ, suc, ◌≤◌, Bool, true, false, List, [], ◌∷◌, length, Option, Some, None, refl, sym, ap, ◌∙◌, subst, if◌then◌else◌, ◌==◌, ◌||◌, ◌&&◌, arith}
use Rattle.std.specs.Prelude.{map}
use Rattle.std.proofs.lemmas.Bool.{eqb-true, eqb-false}
use Rattle.chor_base.specs.declared.names.NameId.{NameId}
use Rattle.chor_semantics.specs.Choreography.{Ref, Live, Named, ref_eq, among, Content, OfValue, OfLabel, OfPart, Starts, Communicates, InTransit, Alone, Choreography, Then, Either, Calls, Ends, put_content, put_part, bound, bound_served, named_by, instance_of}
use Rattle.chor_semantics.specs.Sources.{Procedure}
use Rattle.chor_semantics.specs.Steps.{procedure_named, bound_all, body_of}
use Rattle.endpoint_code.specs.declared.endpoints.Channel.{Channel}
use Rattle.well_formed.specs.WellFormed.{Scope, IsIn, AllIn, AreDistinctRefs, AreNoDeeper, AllNew, entered, firsts, ContentFits, StartFits, CallFits, IsWellFormed, names_in_scope, AllFit}
use Rattle.well_formed.specs.SourceTrees.{IsName, AreNames, AreParts, IsContent, IsSource, AllSources}
use Rattle.well_formed.proofs.References.{left_or, right_or, or_false, or_left, or_rights, clash, true_eq, same_ref, self_ref, differ_ref, turned_ref}

-- from the names of a source to what stands for them, where binders stand at depth d
pub record Stands (d n : ℕ) (F : ℕ → Ref) (bs0 bs : List Ref) : Type 0 where
  pub keeps : (x : ℕ) → among (Named x 0) bs0 ≡ true → IsIn n bs (F x)
  pub new : (x : ℕ) → among (Named x 0) bs0 ≡ false → among (Named x d) bs ≡ false
  pub apart : (x y : ℕ) → among (Named x 0) bs0 ≡ true → among (Named y 0) bs0 ≡ true → (x == y) ≡ false → ref_eq (F x) (F y) ≡ false
  pub above : AreNoDeeper d bs

in_more : (n : ℕ) (bs : List Ref) (q r : Ref) → IsIn n bs r → IsIn n (q ∷ bs) r
in_more n bs q (Live m) h = h
in_more n bs q (Named x c) h = or_rights _ _ h

in_not_new : (n : ℕ) (bs : List Ref) (y d : ℕ) (r : Ref) → among (Named y d) bs ≡ false → IsIn n bs r → ref_eq r (Named y d) ≡ false
in_not_new n bs y d (Live m) h k = refl
in_not_new n bs y d (Named x c) h k = differ_ref (Named x c) (Named y d) (λ e. clash k (ap (λ z. among z bs) e ∙ h))

pub same_named : (x y : ℕ) → ref_eq (Named x 0) (Named y 0) ≡ (x == y)
same_named x y = go (x == y)
  where
    go : (b : Bool) → (b && (0 == 0)) ≡ b
    go true = refl
    go false = refl

-- past a binder
pub binds : (d n : ℕ) (F : ℕ → Ref) (bs0 bs : List Ref) (y : ℕ) → among (Named y 0) bs0 ≡ false → Stands d n F bs0 bs → Stands d n (bound y (Named y d) F) (Named y 0 ∷ bs0) (Named y d ∷ bs)
binds d n F bs0 bs y fresh s = record {
  keeps = keep;
  new = λ x h. or_false _ _ (differ_ref (Named x d) (Named y d) (λ e. other x h e)) (s.new x (right_or _ _ h));
  apart = off;
  above = (omega arith, s.above);
}
  where
    depthless : (x : ℕ) → Named x d ≡ Named y d → x ≡ y
    depthless x e = cc

    other : (x : ℕ) → among (Named x 0) (Named y 0 ∷ bs0) ≡ false → Named x d ≡ Named y d → ⊥
    other x h e = clash (ap (λ z. ref_eq (Named z 0) (Named y 0)) (depthless x e) ∙ self_ref (Named y 0)) (left_or _ _ h)

    old : (x : ℕ) → (y == x) ≡ false → among (Named x 0) (Named y 0 ∷ bs0) ≡ true → among (Named x 0) bs0 ≡ true
    old x e h = go (ref_eq (Named x 0) (Named y 0)) refl h
      where
        go : (b : Bool) → ref_eq (Named x 0) (Named y 0) ≡ b → (b || among (Named x 0) bs0) ≡ true → among (Named x 0) bs0 ≡ true
        go false i j = j
        go true i j = absurd (eqb-false y x e (sym (depth0 (same_ref (Named x 0) (Named y 0) i))))
          where
            depth0 : Named x 0 ≡ Named y 0 → x ≡ y
            depth0 z = cc

    mine : (x : ℕ) → (y == x) ≡ true → bound y (Named y d) F x ≡ Named y d
    mine x e = ap (λ b. if b then Named y d else F x) e

    theirs : (x : ℕ) → (y == x) ≡ false → bound y (Named y d) F x ≡ F x
    theirs x e = ap (λ b. if b then Named y d else F x) e

    keep : (x : ℕ) → among (Named x 0) (Named y 0 ∷ bs0) ≡ true → IsIn n (Named y d ∷ bs) (bound y (Named y d) F x)
    keep x h = go (y == x) refl
      where
        go : (b : Bool) → (y == x) ≡ b → IsIn n (Named y d ∷ bs) (bound y (Named y d) F x)
        go true e = subst (IsIn n (Named y d ∷ bs)) (sym (mine x e)) (or_left _ _ (self_ref (Named y d)))
        go false e = subst (IsIn n (Named y d ∷ bs)) (sym (theirs x e)) (in_more n bs (Named y d) (F x) (s.keeps x (old x e h)))

    off : (x z : ℕ) → among (Named x 0) (Named y 0 ∷ bs0) ≡ true → among (Named z 0) (Named y 0 ∷ bs0) ≡ true → (x == z) ≡ false → ref_eq (bound y (Named y d) F x) (bound y (Named y d) F z) ≡ false
    off x z h k e = go (y == x) refl (y == z) refl
      where
        go : (a : Bool) → (y == x) ≡ a → (b : Bool) → (y == z) ≡ b → ref_eq (bound y (Named y d) F x) (bound y (Named y d) F z) ≡ false
        go true i true j = absurd (eqb-false x z e (sym (eqb-true y x i) ∙ eqb-true y z j))
        go true i false j = ap (λ w. ref_eq w (bound y (Named y d) F z)) (mine x i) ∙ ap (ref_eq (Named y d)) (theirs z j) ∙ turned_ref (F z) (Named y d) (in_not_new n bs y d (F z) (s.new y fresh) (s.keeps z (old z j k)))
        go false i true j = ap (λ w. ref_eq w (bound y (Named y d) F z)) (theirs x i) ∙ ap (ref_eq (F x)) (mine z j) ∙ in_not_new n bs y d (F x) (s.new y fresh) (s.keeps x (old x i h))
        go false i false j = ap (λ w. ref_eq w (bound y (Named y d) F z)) (theirs x i) ∙ ap (ref_eq (F x)) (theirs z j) ∙ s.apart x z (old x i h) (old z j k) e

pub binds_all : (d n : ℕ) (F : ℕ → Ref) (bs0 bs : List Ref) (ss : List (ℕ × NameId)) → AllNew 0 ss bs0 → Stands d n F bs0 bs → Stands d n (bound_served d ss F) (entered 0 ss bs0) (entered d ss bs)
binds_all d n F bs0 bs [] h s = s
binds_all d n F bs0 bs (t ∷ ss) h s = binds_all d n (bound t.0 (Named t.0 d) F) (Named t.0 0 ∷ bs0) (Named t.0 d ∷ bs) ss h.1 (binds d n F bs0 bs t.0 h.0 s)

-- ---- names and numbers

module _ (d n : ℕ) (F : ℕ → Ref) (bs0 bs : List Ref) (s : Stands d n F bs0 bs) where
  one_in : (r : Ref) → IsName r → IsIn 0 bs0 r → IsIn n bs (named_by F r)
  one_in (Live m) i h = absurd i
  one_in (Named x c) i h = s.keeps x (ap (λ z. among (Named x z) bs0) (sym i) ∙ h)

  pub all_in_instance : (rs : List Ref) → AreNames rs → AllIn 0 bs0 rs → AllIn n bs (map (named_by F) rs)
  all_in_instance [] i h = tt
  all_in_instance (r ∷ rs) i h = (one_in r i.0 h.0, all_in_instance rs i.1 h.1)

  two_apart : (r q : Ref) → IsName r → IsName q → IsIn 0 bs0 r → IsIn 0 bs0 q → ref_eq r q ≡ false → ref_eq (named_by F r) (named_by F q) ≡ false
  two_apart (Live m) q i j h k e = absurd i
  two_apart (Named x c) (Live m) i j h k e = absurd j
  two_apart (Named x c) (Named y b) i j h k e = s.apart x y (ap (λ z. among (Named x z) bs0) (sym i) ∙ h) (ap (λ z. among (Named y z) bs0) (sym j) ∙ k) (sym (same_named x y) ∙ ap (λ z. ref_eq (Named x z) (Named y 0)) (sym i) ∙ ap (λ z. ref_eq (Named x c) (Named y z)) (sym j) ∙ e)

  none_among : (r : Ref) → IsName r → IsIn 0 bs0 r → (rs : List Ref) → AreNames rs → AllIn 0 bs0 rs → among r rs ≡ false → among (named_by F r) (map (named_by F) rs) ≡ false
  none_among r i h [] j k e = refl
  none_among r i h (q ∷ qs) j k e = or_false _ _ (two_apart r q i j.0 h k.0 (left_or _ _ e)) (none_among r i h qs j.1 k.1 (right_or _ _ e))

  pub none_twice : (rs : List Ref) → AreNames rs → AllIn 0 bs0 rs → AreDistinctRefs rs → AreDistinctRefs (map (named_by F) rs)
  none_twice [] i k h = tt
  none_twice (r ∷ rs) i k h = (none_among r i.0 k.0 rs i.1 k.1 h.0, none_twice rs i.1 k.1 h.1)

  new_instance : (ss : List (ℕ × NameId)) → AllNew 0 ss bs0 → AllNew d ss bs
  new_instance ss h = go ss bs0 bs s.new h
    where
      go : (ss : List (ℕ × NameId)) (bs0 bs : List Ref) → ((x : ℕ) → among (Named x 0) bs0 ≡ false → among (Named x d) bs ≡ false) → AllNew 0 ss bs0 → AllNew d ss bs
      go [] bs0 bs j h = tt
      go (t ∷ ts) bs0 bs j h = (j t.0 h.0, go ts (Named t.0 0 ∷ bs0) (Named t.0 d ∷ bs) (λ x k. or_false _ _ (differ_ref (Named x d) (Named t.0 d) (λ e. other x k (plain x e))) (j x (right_or _ _ k))) h.1)
        where
          plain : (x : ℕ) → Named x d ≡ Named t.0 d → x ≡ t.0
          plain x e = cc

          other : (x : ℕ) → among (Named x 0) (Named t.0 0 ∷ bs0) ≡ false → x ≡ t.0 → ⊥
          other x k e = clash (ap (λ z. ref_eq (Named z 0) (Named t.0 0)) e ∙ self_ref (Named t.0 0)) (left_or _ _ k)

pub names_of_parts : (active : List (Ref × NameId)) → AreParts active → AreNames (firsts active)
names_of_parts [] i = tt
names_of_parts (p ∷ ps) i = (i.0, names_of_parts ps i.1)

pub firsts_instance : (F : ℕ → Ref) (active : List (Ref × NameId)) → firsts (put_part (named_by F) active) ≡ map (named_by F) (firsts active)
firsts_instance F [] = refl
firsts_instance F (q ∷ qs) = ap (λ y. named_by F q.0 ∷ y) (firsts_instance F qs)

seconds_instance : (F : ℕ → Ref) (active : List (Ref × NameId)) → map (λ p. p.1) (put_part (named_by F) active) ≡ map (λ p. p.1) active
seconds_instance F [] = refl
seconds_instance F (q ∷ qs) = ap (λ y. q.1 ∷ y) (seconds_instance F qs)

length_refs : (f : Ref → Ref) (rs : List Ref) → length (map f rs) ≡ length rs
length_refs f [] = refl
length_refs f (r ∷ rs) = ap suc (length_refs f rs)

-- the scope of a source, where nothing is live
abbrev pub SourceScope : Scope → Type 0
SourceScope sc = (sc.pid ≡ 0) × (sc.sid ≡ 0)

module _ (ks : List Channel) (procs : List Procedure) (d : ℕ) where
  abbrev pub Processes : (ℕ → Ref) → List Ref → Scope → Type 0
  Processes F bs0 sc = Stands d sc.pid F bs0 sc.processes

  abbrev pub Sessions' : (ℕ → Ref) → List Ref → Scope → Type 0
  Sessions' G bs0 sc = Stands d sc.sid G bs0 sc.sessions

  abbrev source_scope : List Ref → List Ref → Scope
  source_scope ps ss = record { pid = 0; processes = ps; sid = 0; sessions = ss }

  content_instance : (F G : ℕ → Ref) (ps ss : List Ref) (sc : Scope) → Sessions' G ss sc → (w : Content) → IsContent w → ContentFits (source_scope ps ss) w → ContentFits sc (put_content (named_by G) w)
  content_instance F G ps ss sc s (OfValue e x) i h = h
  content_instance F G ps ss sc s (OfLabel l) i h = h
  content_instance F G ps ss sc s (OfPart u r) i h = one_in d sc.sid G ss sc.sessions s u i h

  pub fits_instance : (F G : ℕ → Ref) (ps ss : List Ref) (sc : Scope) → Processes F ps sc → Sessions' G ss sc → (c : Choreography) → IsSource c → IsWellFormed ks procs (source_scope ps ss) c → IsWellFormed ks procs sc (instance_of d F G c)
  fits_instance F G ps ss sc p s (Then (Starts c e k active serve) rest) i w =
      let zero' : e ≡ 0 = i.0.0 in
      let w0 : IsWellFormed ks procs (source_scope ps ss) (Then (Starts c 0 k active serve) rest) = subst (λ y. IsWellFormed ks procs (source_scope ps ss) (Then (Starts c y k active serve) rest)) zero' w in
      let fit : StartFits ks (source_scope ps ss) c 0 k active serve = w0.0 in
      let names = names_of_parts active i.0.1 in (
        record {
          channel = fit.channel;
          declared = fit.declared;
          active_roles = seconds_instance F active ∙ fit.active_roles;
          service_roles = fit.service_roles;
          known = subst (AllIn sc.pid sc.processes) (sym (firsts_instance F active)) (all_in_instance d sc.pid F ps sc.processes p (firsts active) names fit.known);
          apart = subst AreDistinctRefs (sym (firsts_instance F active)) (none_twice d sc.pid F ps sc.processes p (firsts active) names fit.known fit.apart);
          new_processes = new_instance d sc.pid F ps sc.processes p serve fit.new_processes;
          new_session = s.new k fit.new_session;
        },
        fits_instance (bound_served d serve F) (bound k (Named k d) G) (entered 0 serve ps) (Named k 0 ∷ ss) (record { pid = sc.pid; processes = entered d serve sc.processes; sid = sc.sid; sessions = Named k d ∷ sc.sessions }) (binds_all d sc.pid F ps sc.processes serve fit.new_processes p) (binds d sc.sid G ss sc.sessions k fit.new_session s) rest i.1 w0.1,
      )
  fits_instance F G ps ss sc p s (Then (Communicates u q a r b z) rest) i w =
      let fit = w.0 in (
        record {
          session = one_in d sc.sid G ss sc.sessions s u i.0.0 fit.session;
          sender = one_in d sc.pid F ps sc.processes p q i.0.1 fit.sender;
          receiver = one_in d sc.pid F ps sc.processes p r i.0.2 fit.receiver;
          differ = two_apart d sc.pid F ps sc.processes p q r i.0.1 i.0.2 fit.sender fit.receiver fit.differ;
          content = content_instance F G ps ss sc s z i.0.3 fit.content;
        },
        fits_instance F G ps ss sc p s rest i.1 w.1,
      )
  fits_instance F G ps ss sc p s (Then (InTransit u a b m q) rest) i w = absurd i.0
  fits_instance F G ps ss sc p s (Then (Alone q o) rest) i w = ((one_in d sc.pid F ps sc.processes p q i.0 w.0.0, w.0.1), fits_instance F G ps ss sc p s rest i.1 w.1)
  fits_instance F G ps ss sc p s (Either q e x y) i w = ((one_in d sc.pid F ps sc.processes p q i.0 w.0.0, w.0.1), fits_instance F G ps ss sc p s x i.1 w.1, fits_instance F G ps ss sc p s y i.2 w.2)
  fits_instance F G ps ss sc p s (Calls h e qs us) i w = record {
    procedure = w.procedure;
    declared = w.declared;
    processes = all_in_instance d sc.pid F ps sc.processes p qs i.0 w.processes;
    sessions = all_in_instance d sc.sid G ss sc.sessions s us i.1 w.sessions;
    process_count = length_refs (named_by F) qs ∙ w.process_count;
    session_count = length_refs (named_by G) us ∙ w.session_count;
    processes_apart = none_twice d sc.pid F ps sc.processes p qs i.0 w.processes w.processes_apart;
    sessions_apart = none_twice d sc.sid G ss sc.sessions s us i.1 w.sessions w.sessions_apart;
    processes_above = p.above;
    sessions_above = s.above;
  }
  fits_instance F G ps ss sc p s Ends i w = tt

-- ---- the arguments of a call

pub arg_among : (dd : ℕ) → (xs : List NameId) (rs : List Ref) (x : ℕ) → length rs ≡ length xs → among (Named x 0) (names_in_scope xs) ≡ true → among (bound_all dd xs rs x) rs ≡ true
arg_among dd [] rs x l h = absurd cc
arg_among dd (y ∷ xs) [] x l h = absurd cc
arg_among dd (y ∷ xs) (r ∷ rs) x l h = go (y.0 == x) refl (arg_among dd xs rs x (less l))
  where
    less : suc (length rs) ≡ suc (length xs) → length rs ≡ length xs
    less i = cc

    go : (b : Bool) → (y.0 == x) ≡ b → (among (Named x 0) (names_in_scope xs) ≡ true → among (bound_all dd xs rs x) rs ≡ true) → among (if b then r else bound_all dd xs rs x) (r ∷ rs) ≡ true
    go true e ih = or_left _ _ (self_ref r)
    go false e ih = or_rights _ _ (ih (other (ref_eq (Named x 0) (Named y.0 0)) (differ_ref (Named x 0) (Named y.0 0) (λ z. eqb-false y.0 x e (sym (plain z)))) h))
      where
        plain : Named x 0 ≡ Named y.0 0 → x ≡ y.0
        plain z = cc

        other : (b : Bool) → b ≡ false → (b || among (Named x 0) (names_in_scope xs)) ≡ true → among (Named x 0) (names_in_scope xs) ≡ true
        other false i j = j
        other true i j = absurd cc

arg_apart : (dd : ℕ) → (xs : List NameId) (rs : List Ref) (x y : ℕ) → length rs ≡ length xs → AreDistinctRefs rs → among (Named x 0) (names_in_scope xs) ≡ true → among (Named y 0) (names_in_scope xs) ≡ true → (x == y) ≡ false → ref_eq (bound_all dd xs rs x) (bound_all dd xs rs y) ≡ false
arg_apart dd [] rs x y l t h k e = absurd cc
arg_apart dd (z ∷ xs) [] x y l t h k e = absurd cc
arg_apart dd (z ∷ xs) (r ∷ rs) x y l t h k e = go (z.0 == x) refl (z.0 == y) refl (arg_apart dd xs rs x y (less l) t.1)
  where
    less : suc (length rs) ≡ suc (length xs) → length rs ≡ length xs
    less i = cc

    rest : (w : ℕ) → (z.0 == w) ≡ false → among (Named w 0) (names_in_scope (z ∷ xs)) ≡ true → among (Named w 0) (names_in_scope xs) ≡ true
    rest w i j = other (ref_eq (Named w 0) (Named z.0 0)) (differ_ref (Named w 0) (Named z.0 0) (λ v. eqb-false z.0 w i (sym (plain v)))) j
      where
        plain : Named w 0 ≡ Named z.0 0 → w ≡ z.0
        plain v = cc

        other : (b : Bool) → b ≡ false → (b || among (Named w 0) (names_in_scope xs)) ≡ true → among (Named w 0) (names_in_scope xs) ≡ true
        other false i j = j
        other true i j = absurd cc

    away : (q : Ref) → among q rs ≡ true → ref_eq r q ≡ false
    away q i = differ_ref r q (λ v. clash (ap (λ w. among w rs) v ∙ i) t.0)

    go : (a : Bool) → (z.0 == x) ≡ a → (b : Bool) → (z.0 == y) ≡ b → (among (Named x 0) (names_in_scope xs) ≡ true → among (Named y 0) (names_in_scope xs) ≡ true → (x == y) ≡ false → ref_eq (bound_all dd xs rs x) (bound_all dd xs rs y) ≡ false) → ref_eq (if a then r else bound_all dd xs rs x) (if b then r else bound_all dd xs rs y) ≡ false
    go true i true j ih = absurd (eqb-false x y e (sym (eqb-true z.0 x i) ∙ eqb-true z.0 y j))
    go true i false j ih = away (bound_all dd xs rs y) (arg_among dd xs rs y (less l) (rest y j k))
    go false i true j ih = turned_ref r (bound_all dd xs rs x) (away (bound_all dd xs rs x) (arg_among dd xs rs x (less l) (rest x i h)))
    go false i false j ih = ih (rest x i h) (rest y j k) e

pub in_list : (n : ℕ) (bs rs : List Ref) (q : Ref) → AllIn n bs rs → among q rs ≡ true → IsIn n bs q
in_list n bs [] q h i = absurd cc
in_list n bs (r ∷ rs) q h i = go (ref_eq q r) refl i (in_list n bs rs q h.1)
  where
    go : (b : Bool) → ref_eq q r ≡ b → (b || among q rs) ≡ true → (among q rs ≡ true → IsIn n bs q) → IsIn n bs q
    go true e j ih = subst (IsIn n bs) (sym (same_ref q r e)) h.0
    go false e j ih = ih j

pub none_deeper : (d : ℕ) (bs : List Ref) → AreNoDeeper d bs → (x : ℕ) → among (Named x (suc d)) bs ≡ false
none_deeper d [] h x = refl
none_deeper d (Live n ∷ rs) h x = none_deeper d rs h x
none_deeper d (Named y c ∷ rs) h x = or_false _ _ (differ_ref (Named x (suc d)) (Named y c) (λ e. deeper (plain e) h.0)) (none_deeper d rs h.1 x)
  where
    plain : Named x (suc d) ≡ Named y c → suc d ≡ c
    plain e = cc

    deeper : suc d ≡ c → c ≤ d → ⊥
    deeper e l = absurd (omega (arith, e, l))

up_more : (d : ℕ) (bs : List Ref) → AreNoDeeper d bs → AreNoDeeper (suc d) bs
up_more d [] h = tt
up_more d (Live n ∷ rs) h = up_more d rs h
up_more d (Named x e ∷ rs) h = (omega (arith, h.0), up_more d rs h.1)

-- what stands for a procedure's parameters
pub arguments : (d n : ℕ) (bs : List Ref) (xs : List NameId) (rs : List Ref) → length rs ≡ length xs → AreDistinctRefs rs → AllIn n bs rs → AreNoDeeper d bs → Stands (suc d) n (bound_all (suc d) xs rs) (names_in_scope xs) bs
arguments d n bs xs rs l t w u = record {
  keeps = λ x h. in_list n bs rs (bound_all (suc d) xs rs x) w (arg_among (suc d) xs rs x l h);
  new = λ x h. none_deeper d bs u x;
  apart = λ x y h k e. arg_apart (suc d) xs rs x y l t h k e;
  above = up_more d bs u;
}

-- the body of a call
pub record BodyOf (procs : List Procedure) (f : NameId) (d : ℕ) (ps ss : List Ref) (c : Choreography) : Type 0 where
  pub procedure : Procedure
  pub declared : procedure_named procs f ≡ Some procedure
  pub is : c ≡ instance_of (suc d) (bound_all (suc d) procedure.params ps) (bound_all (suc d) procedure.sessions ss) procedure.body

pub body_is : (procs : List Procedure) (f : NameId) (d : ℕ) (ps ss : List Ref) (c : Choreography) → body_of (procedure_named procs f) d ps ss ≡ Some c → BodyOf procs f d ps ss c
body_is procs f d ps ss c h = go (procedure_named procs f) refl h
  where
    go : (o : Option Procedure) → procedure_named procs f ≡ o → body_of o d ps ss ≡ Some c → BodyOf procs f d ps ss c
    go None i j = absurd cc
    go (Some p) i j = record { procedure = p; declared = i; is = cc }

module _ (ks : List Channel) (procs : List Procedure) (sources : AllSources procs) (fit : AllFit ks procs) where
  -- a call's counts are its procedure's
  pub record Called (sc : Scope) (f : NameId) (d : ℕ) (ps ss : List Ref) (c : Choreography) : Type 0 where
    pub procedure : Procedure
    pub declared : procedure_named procs f ≡ Some procedure
    pub is : c ≡ instance_of (suc d) (bound_all (suc d) procedure.params ps) (bound_all (suc d) procedure.sessions ss) procedure.body
    pub processes : Stands (suc d) sc.pid (bound_all (suc d) procedure.params ps) (names_in_scope procedure.params) sc.processes
    pub sessions : Stands (suc d) sc.sid (bound_all (suc d) procedure.sessions ss) (names_in_scope procedure.sessions) sc.sessions
    pub process_count : length ps ≡ length procedure.params
    pub session_count : length ss ≡ length procedure.sessions

  pub called : (sc : Scope) (f : NameId) (d : ℕ) (ps ss : List Ref) (c : Choreography) → body_of (procedure_named procs f) d ps ss ≡ Some c → CallFits procs sc f d ps ss → Called sc f d ps ss c
  called sc f d ps ss c b w =
      let i = body_is procs f d ps ss c b in
      let same : Some w.procedure ≡ Some i.procedure = sym w.declared ∙ i.declared in
      let p : w.procedure ≡ i.procedure = cc in
      let pc : length ps ≡ length i.procedure.params = w.process_count ∙ ap (λ y. length y.params) p in
      let sc' : length ss ≡ length i.procedure.sessions = w.session_count ∙ ap (λ y. length y.sessions) p in
      record {
        procedure = i.procedure;
        declared = i.declared;
        is = i.is;
        processes = arguments d sc.pid sc.processes i.procedure.params ps pc w.processes_apart w.processes w.processes_above;
        sessions = arguments d sc.sid sc.sessions i.procedure.sessions ss sc' w.sessions_apart w.sessions w.sessions_above;
        process_count = pc;
        session_count = sc';
      }

  pub fit_bodies : (sc : Scope) (f : NameId) (d : ℕ) (ps ss : List Ref) (c : Choreography) → body_of (procedure_named procs f) d ps ss ≡ Some c → CallFits procs sc f d ps ss → IsWellFormed ks procs sc c
  fit_bodies sc f d ps ss c b w =
      let i = called sc f d ps ss c b w in
      subst (IsWellFormed ks procs sc) (sym i.is) (fits_instance ks procs (suc d) (bound_all (suc d) i.procedure.params ps) (bound_all (suc d) i.procedure.sessions ss) (names_in_scope i.procedure.params) (names_in_scope i.procedure.sessions) sc i.processes i.sessions i.procedure.body (sources f i.procedure i.declared) (fit f i.procedure i.declared).body)
