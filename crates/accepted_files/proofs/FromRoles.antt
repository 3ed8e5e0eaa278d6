-- A process that holds its roles plays them, where names are in order.
use Rattle.std.proofs.Common.{◌≡◌, ℕ, suc, ◌==◌, ◌&&◌, ◌||◌, Bool, true, false, if◌then◌else◌, List, [], ◌∷◌, length, Option, Some, None, refl, sym, ap, ◌∙◌, subst, arith}
use Rattle.std.specs.Prelude.{map}
use Rattle.std.proofs.lemmas.Bool.Decides.{nat_tests}
use Rattle.std.proofs.lemmas.Bool.{eqb-true}
use Rattle.chor_base.specs.declared.names.NameId.{NameId}
use Rattle.chor_tree.specs.declared.file.Proc.{Proc}
use Rattle.chor_tree.specs.declared.file.ProcParam.{ProcParam}
use Rattle.chor_tree.specs.declared.file.SessionParam.{SessionParam}
use Rattle.chor_tree.specs.declared.tree.Node.{Node as TreeNode}
use Rattle.chor_semantics.specs.Choreography.{Ref, Live, Named, ref_eq, among, Content, OfValue, OfLabel, OfPart, Starts, Communicates, InTransit, Alone, Choreography, Then, Either, Calls, Ends}
use Rattle.chor_semantics.specs.Sources.{Procedure, procedure_from}
use Rattle.endpoint_code.specs.declared.endpoints.Channel.{Channel}
use Rattle.projection.specs.Codes.{is_named, proc_named, param_for, role_in}
use Rattle.well_formed.specs.SourceTrees as source
use Rattle.well_formed.specs.SourceTrees.{IsSource}
use Rattle.well_formed.specs.WellFormed.{Scope, AllNew, entered, scope_after, AreDistinctRefs, names_in_scope, CallFits, IsWellFormed, AllFit}
use Rattle.accepted_files.proofs.AlongTrees.{self_test}
use Rattle.accepted_files.proofs.Passing.{found_proc, param_in}
use Rattle.accepted_files.proofs.ServicesFollow.{no_proc}
use Rattle.accepted_files.specs.PlayedRoles.{has_name, Roles, with_role, roles_sent, roles_gained, TakesPart, HoldsPassed, HoldsPassedFor, HoldsAtCall, HoldsRoles}
use Rattle.accepted_files.proofs.Plays.{IsName, AreNames, IsNamedContent, OthersNew, IsPassedFor, IsNotPassed, PassesRoles, PlaysPassed, PlaysCall, Plays}

parts : (a b : Bool) → (a || b) ≡ false → (a ≡ false) × (b ≡ false)
parts false b h = (refl, h)
parts true b h = absurd cc

or_later : (a b : Bool) → b ≡ true → (a || b) ≡ true
or_later true b h = refl
or_later false b h = h

plain : (a b : Bool) → b ≡ true → (a && b) ≡ false → a ≡ false
plain false b i h = refl
plain true b i h = let z : true ≡ false = sym i ∙ h in absurd cc

flip : (m n : ℕ) → (m == n) ≡ false → (n == m) ≡ false
flip m n e = grind (arith, nat_tests)

a_name : (u : Ref) → source.IsName u → IsName u
a_name (Live n) h = h
a_name (Named x d) h = tt

part_names : (qs : List (Ref × NameId)) → source.AreParts qs → AreNames qs
part_names [] h = tt
part_names (q ∷ qs) h = (a_name q.0 h.0, part_names qs h.1)

content_name : (w : Content) → source.IsContent w → IsNamedContent w
content_name (OfValue e x) h = tt
content_name (OfLabel l) h = tt
content_name (OfPart s r) h = a_name s h

module _ (r : NameId) where
  abbrev self : Ref
  self = Named r.0 0

  others_new : (ss : List (ℕ × NameId)) (bs : List Ref) → among self bs ≡ true → AllNew 0 ss bs → OthersNew r ss
  others_new [] bs i h = tt
  others_new (s ∷ ss) bs i h = (go (r.0 == s.0) refl, others_new ss (Named s.0 0 ∷ bs) (or_later (ref_eq self (Named s.0 0)) (among self bs) i) h.1)
    where
      go : (b : Bool) → (r.0 == s.0) ≡ b → (r.0 == s.0) ≡ false
      go false e = e
      go true e = let z : true ≡ false = sym i ∙ ap (λ x. among (Named x 0) bs) (eqb-true r.0 s.0 e) ∙ h.0 in absurd cc

  pub still_in : (ss : List (ℕ × NameId)) (bs : List Ref) → among self bs ≡ true → among self (entered 0 ss bs) ≡ true
  still_in [] bs i = i
  still_in (s ∷ ss) bs i = still_in ss (Named s.0 0 ∷ bs) (or_later (ref_eq self (Named s.0 0)) (among self bs) i)

  named_self : (q : Ref) → source.IsName q → is_named r q ≡ true → q ≡ self
  named_self (Live n) h i = absurd h
  named_self (Named x d) h i = ap (λ z. Named x z) h ∙ ap (λ z. Named z 0) (sym (eqb-true r.0 x i))

  not_named : (q : Ref) → source.IsName q → ref_eq self q ≡ false → is_named r q ≡ false
  not_named (Live n) h i = refl
  not_named (Named x d) h i = plain (r.0 == x) (0 == d) (ap (λ z. 0 == z) h) i

  -- neither r nor p is any more there
  none_passed : (p : NameId) (xs : List ProcParam) (qs : List Ref) → length qs ≡ length (map (λ q. q.name.name) xs) → source.AreNames qs → among self qs ≡ false → among (Named p.0 0) (names_in_scope (map (λ q. q.name.name) xs)) ≡ false → IsPassedFor r p xs qs
  none_passed p [] [] l n i j = tt
  none_passed p [] (q ∷ qs) l n i j = absurd cc
  none_passed p (x ∷ xs) [] l n i j = absurd cc
  none_passed p (x ∷ xs) (q ∷ qs) l n i j =
      let a = parts (ref_eq self q) (among self qs) i in
      let b = parts (ref_eq (Named p.0 0) (Named x.name.name.0 0)) (among (Named p.0 0) (names_in_scope (map (λ q. q.name.name) xs))) j in
      (a_name q n.0, not_named q n.0 a.0 ∙ sym (plain (p.0 == x.name.name.0) true refl b.0), none_passed p xs qs (less l) n.1 a.1 b.1)
    where
      less : suc (length qs) ≡ suc (length (map (λ q. q.name.name) xs)) → length qs ≡ length (map (λ q. q.name.name) xs)
      less h = cc

  pub has_among : (p : NameId) (xs : List NameId) → has_name p xs ≡ true → among (Named p.0 0) (names_in_scope xs) ≡ true
  has_among p [] h = absurd cc
  has_among p (x ∷ xs) h = go (p.0 == x.0) refl (has_among p xs)
    where
      go : (b : Bool) → (p.0 == x.0) ≡ b → (has_name p xs ≡ true → among (Named p.0 0) (names_in_scope xs) ≡ true) → (((p.0 == x.0) && (0 == 0)) || among (Named p.0 0) (names_in_scope xs)) ≡ true
      go true e more = ap (λ b. (b && (0 == 0)) || among (Named p.0 0) (names_in_scope xs)) e
      go false e more = or_later ((p.0 == x.0) && (0 == 0)) (among (Named p.0 0) (names_in_scope xs)) (more (sym (ap (λ b. if b then true else has_name p xs) e) ∙ h))

  passed_for_one : (p : NameId) (xs : List ProcParam) (qs : List Ref) → length qs ≡ length (map (λ q. q.name.name) xs) → source.AreNames qs → AreDistinctRefs qs → AreDistinctRefs (names_in_scope (map (λ q. q.name.name) xs)) → param_for r xs qs ≡ Some p → IsPassedFor r p xs qs
  passed_for_one p [] qs l n t u i = absurd cc
  passed_for_one p (x ∷ xs) [] l n t u i = absurd cc
  passed_for_one p (x ∷ xs) (q ∷ qs) l n t u i = go (is_named r q) refl (passed_for_one p xs qs (less l) n.1 t.1 u.1)
    where
      less : suc (length qs) ≡ suc (length (map (λ q. q.name.name) xs)) → length qs ≡ length (map (λ q. q.name.name) xs)
      less h = cc

      go : (b : Bool) → is_named r q ≡ b → (param_for r xs qs ≡ Some p → IsPassedFor r p xs qs) → IsPassedFor r p (x ∷ xs) (q ∷ qs)
      go true e more =
          let j : Some x.name.name ≡ Some p = sym (ap (λ b. if b then Some x.name.name else param_for r xs qs) e) ∙ i in
          let z : x.name.name ≡ p = cc in (
            a_name q n.0,
            e ∙ sym (ap (λ (v : NameId). p.0 == v.0) z ∙ self_test p.0),
            none_passed p xs qs (less l) n.1 (ap (λ v. among v qs) (sym (named_self q n.0 e)) ∙ t.0) (ap (λ (v : NameId). among (Named v.0 0) (names_in_scope (map (λ q. q.name.name) xs))) (sym z) ∙ u.0),
          )
      go false e more =
          let j : param_for r xs qs ≡ Some p = sym (ap (λ b. if b then Some x.name.name else param_for r xs qs) e) ∙ i in
          let k : among (Named p.0 0) (names_in_scope (map (λ q. q.name.name) xs)) ≡ true = has_among p (map (λ q. q.name.name) xs) (param_in r p xs qs j) in
          (a_name q n.0, e ∙ sym (apart (p.0 == x.name.name.0) refl k), more j)
        where
          apart : (b : Bool) → (p.0 == x.name.name.0) ≡ b → among (Named p.0 0) (names_in_scope (map (λ q. q.name.name) xs)) ≡ true → (p.0 == x.name.name.0) ≡ false
          apart false f k = f
          apart true f k = let z : true ≡ false = sym k ∙ ap (λ v. among (Named v 0) (names_in_scope (map (λ q. q.name.name) xs))) (eqb-true p.0 x.name.name.0 f) ∙ u.0 in absurd cc

  not_passed : (xs : List ProcParam) (qs : List Ref) → length qs ≡ length (map (λ q. q.name.name) xs) → source.AreNames qs → param_for r xs qs ≡ None → IsNotPassed r qs
  not_passed [] [] l n i = tt
  not_passed [] (q ∷ qs) l n i = absurd cc
  not_passed (x ∷ xs) [] l n i = tt
  not_passed (x ∷ xs) (q ∷ qs) l n i = go (is_named r q) refl (not_passed xs qs (less l) n.1)
    where
      less : suc (length qs) ≡ suc (length (map (λ q. q.name.name) xs)) → length qs ≡ length (map (λ q. q.name.name) xs)
      less h = cc

      go : (b : Bool) → is_named r q ≡ b → (param_for r xs qs ≡ None → IsNotPassed r qs) → IsNotPassed r (q ∷ qs)
      go true e more = let j : Some x.name.name ≡ None = sym (ap (λ b. if b then Some x.name.name else param_for r xs qs) e) ∙ i in absurd cc
      go false e more = (a_name q n.0, e, more (sym (ap (λ b. if b then Some x.name.name else param_for r xs qs) e) ∙ i))

passes : (g : Roles) (p : NameId) (ks : List SessionParam) (ss : List Ref) → length ss ≡ length (map (λ k. k.name.name) ks) → source.AreNames ss → HoldsPassed g p ks ss → PassesRoles g p ks ss
passes g p [] [] l n h = tt
passes g p [] (s ∷ ss) l n h = absurd cc
passes g p (k ∷ ks) [] l n h = absurd cc
passes g p (k ∷ ks) (s ∷ ss) l n h = (a_name s n.0, h.0, passes g p ks ss (less l) n.1 h.1)
  where
    less : suc (length ss) ≡ suc (length (map (λ k. k.name.name) ks)) → length ss ≡ length (map (λ k. k.name.name) ks)
    less i = cc

module _ (nodes : List TreeNode) (fs : List Proc) (ks : List Channel) (fit : AllFit ks (map (procedure_from nodes) fs)) (r : NameId) where
  abbrev procs : List Procedure
  procs = map (procedure_from nodes) fs

  both : (i j : Bool) (g : Roles) (s : Ref) (a b : NameId) (w : Content) (K L : Roles → Type 0) → ((g : Roles) → K g → L g) → TakesPart i j g s a b w K → TakesPart i j g s a b w L
  both true j g s a b w K L more h = (h.0, h.1, more (roles_sent g w) h.2)
  both false true g s a b w K L more h = (h.0, more (roles_gained g w) h.1)
  both false false g s a b w K L more h = more g h

  call_plays : (sc : Scope) (h : NameId) (d : ℕ) (ps ss : List Ref) (g : Roles) → source.AreNames ps → source.AreNames ss → CallFits procs sc h d ps ss → HoldsAtCall r ps ss g (proc_named fs h) → PlaysCall r ps ss g (proc_named fs h)
  call_plays sc h d ps ss g m n c w = go (proc_named fs h) refl w
    where
      go : (o : Option Proc) → proc_named fs h ≡ o → HoldsAtCall r ps ss g o → PlaysCall r ps ss g o
      go None i w = let z : None ≡ Some c.procedure = sym (no_proc nodes fs h i) ∙ c.declared in absurd cc
      go (Some x) i w =
          let f = found_proc nodes fs h x i in
          let z : Some c.procedure ≡ Some (procedure_from nodes x) = sym c.declared ∙ f in
          let y : c.procedure ≡ procedure_from nodes x = cc in
          at (param_for r x.params ps) refl w (c.process_count ∙ ap (λ (v : Procedure). length v.params) y) (c.session_count ∙ ap (λ (v : Procedure). length v.sessions) y) (fit h (procedure_from nodes x) f).params
        where
          at : (o : Option NameId) → param_for r x.params ps ≡ o → HoldsPassedFor ss g x o → length ps ≡ length (map (λ q. q.name.name) x.params) → length ss ≡ length (map (λ k. k.name.name) x.sessions) → AreDistinctRefs (names_in_scope (map (λ q. q.name.name) x.params)) → PlaysPassed r ps ss g x o
          at None j w l k t = not_passed r x.params ps l m j
          at (Some p) j w l k t = (passed_for_one r p x.params ps l m c.processes_apart t j, passes g p x.sessions ss k n w)

  pub plays : (sc : Scope) (c : Choreography) (g : Roles) → among (Named r.0 0) sc.processes ≡ true → IsSource c → IsWellFormed ks procs sc c → HoldsRoles fs r c g → Plays fs r c g
  plays sc (Then (Starts c e k act srv) rest) g i s w h =
      let new : AllNew 0 srv sc.processes = subst (λ v. AllNew v srv sc.processes) s.0.0 w.0.new_processes in
      let more : among (Named r.0 0) (entered e srv sc.processes) ≡ true = subst (λ v. among (Named r.0 0) (entered v srv sc.processes) ≡ true) (sym s.0.0) (still_in r srv sc.processes i) in
      (part_names act s.0.1, others_new r srv sc.processes i new, plays (scope_after sc (Starts c e k act srv)) rest (with_role g k (role_in r act)) more s.1 w.1 h)
  plays sc (Then (Communicates u p a q b x) rest) g i s w h = (
    a_name u s.0.0,
    a_name p s.0.1,
    a_name q s.0.2,
    content_name x s.0.3,
    both (is_named r p) (is_named r q) g u a b x (HoldsRoles fs r rest) (Plays fs r rest) (λ g h. plays sc rest g i s.1 w.1 h) h,
  )
  plays sc (Then (InTransit u a b m q) rest) g i s w h = absurd s.0
  plays sc (Then (Alone p o) rest) g i s w h = (a_name p s.0, plays sc rest g i s.1 w.1 h)
  plays sc (Either p x c d) g i s w h = (a_name p s.0, plays sc c g i s.1 w.1 h.0, plays sc d g i s.2 w.2 h.1)
  plays sc (Calls f d ps ss) g i s w h = call_plays sc f d ps ss g s.0 s.1 w h
  plays sc Ends g i s w h = tt
