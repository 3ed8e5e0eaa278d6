-- Who holds a role is kept by a start.
use Rattle.std.proofs.Common.{◌≡◌, ℕ, ◌<◌, Bool, true, false, List, ◌∷◌, ◌++◌, length, Option, Some, refl, sym, ap, ◌∙◌, subst, if◌then◌else◌, ◌==◌, arith}
use Rattle.std.proofs.lemmas.Bool.Decides.{nat_tests}
use Rattle.chor_base.specs.declared.names.NameId.{NameId}
use Rattle.chor_base.specs.declared.event.Event.{Event}
use Rattle.chor_base.specs.declared.event.Event.TheVariants.{Start}
use Rattle.chor_base.specs.NameMap.{Variables}
use Rattle.chor_base.specs.Meaning.{Hosts}
use Rattle.chor_semantics.specs.Choreography.{Ref, Live, Named, ref_eq, among, Node, Starts, Choreography, Then, put, put_node, numbers_for, number_for}
use Rattle.chor_semantics.specs.Sources.{Procedure}
use Rattle.chor_semantics.specs.Steps.{Effect, Moves, head, test, delay, both, unfolded, procedure_named, body_of}
use Rattle.endpoint_code.specs.declared.endpoints.Channel.{Channel}
use Rattle.well_formed.specs.WellFormed.{Scope, IsIn, IsSession, scope_after, CallFits, IsWellFormed}
use Rattle.well_formed.specs.Holders.{first_with, as_parts, HolderFits, holder_after, ListedHolders, PassedHeld, HoldersFit, HolderIn}
use Rattle.well_formed.proofs.References.{left_or, true_eq, self_ref, same_ref, turned_ref}
use Rattle.well_formed.proofs.Heads.{headed, decided}
use Rattle.well_formed.proofs.Members.{id_node}
use Rattle.well_formed.proofs.LinearKept.{same_pid, same_sid, live_on}
use Rattle.correspondence.proofs.Together.{parts_as}
use Rattle.correspondence.proofs.Bystanders.{starts_here, no_test, opened_scope, process_renaming, session_renaming, same_process}
use Rattle.correspondence.proofs.Roles.{put_holder, holder_in, same_holder, put_first, owned_put, off_node, owned_never, parts_first, services_are}

module _ (ks : List Channel) (procs : List Procedure) (hosts : Hosts) (vars : List Variables) (sid : ℕ) (lists : ListedHolders)
    (bodies : (sc : Scope) (f : NameId) (d : ℕ) (ps ss : List Ref) (c : Choreography) → body_of (procedure_named procs f) d ps ss ≡ Some c → CallFits procs sc f d ps ss → IsWellFormed ks procs sc c)
    (owned_bodies : (sc : Scope) (u : Ref) (r : NameId) (o : Option Ref) (f : NameId) (d : ℕ) (ps ss : List Ref) (c : Choreography) → body_of (procedure_named procs f) d ps ss ≡ Some c → CallFits procs sc f d ps ss → PassedHeld (lists f) u r o ps 0 ss → HoldersFit lists u r c o)
    (a : NameId) (s : ℕ) (parts : List (NameId × ℕ)) (f : Effect) (r : NameId) where
  -- the session that is started: its parts hold its roles
  new_held : (sc : Scope) → sc.pid ≡ length vars → sc.sid ≡ sid → {c d : Choreography} {x : Event} → x ≡ Start a s parts → IsWellFormed ks procs sc c → (h : Ref → Option Ref) → ((u : Ref) → HoldersFit lists u r c (h u)) → Moves procs hosts vars sid c x f d → HoldersFit lists (Live sid) r d (first_with r (parts_as parts))
  new_held sc pid_is sid_is is w h own (head {n = n} {c = c} {d = d} {e = x} v z made) =
      let i = starts_here vars sid v n c d x f a s parts is (headed vars sid v n c x f d made) in
      let w' : IsWellFormed ks procs sc (Then (Starts a i.depth i.k i.active i.serve) c) = subst (λ y. IsWellFormed ks procs sc (Then y c)) i.is w in
      let u = Named i.k i.depth in
      let rest : HoldersFit lists u r c (first_with r (i.active ++ as_parts i.depth i.serve)) = subst (λ y. HoldersFit lists u r c (if y then first_with r (i.active ++ as_parts i.depth i.serve) else h u)) (self_ref u) (subst (λ y. HoldersFit lists u r c (holder_after u r y (h u))) i.is (own u).1) in
      let fs = numbers_for i.depth i.serve (length vars) in
      let gs = number_for i.k i.depth sid in
      let inner : Scope = scope_after sc (Starts a i.depth i.k i.active i.serve) in
      let put_it = owned_put ks procs lists fs gs u (Live sid) r inner (opened_scope sc (length i.serve)) (process_renaming ks vars sc pid_is a i.depth i.k i.active i.serve w'.0) (session_renaming ks sid sc sid_is a i.depth i.k i.active i.serve w'.0) (same sc sid_is i.k i.depth) (other sc i.k i.depth) c w'.1 (first_with r (i.active ++ as_parts i.depth i.serve)) rest in
      let holder : put_holder fs (first_with r (i.active ++ as_parts i.depth i.serve)) ≡ first_with r (parts_as parts) =
      sym (put_first ks procs lists fs gs u (Live sid) r (i.active ++ as_parts i.depth i.serve))
      ∙ parts_first r i.depth i.active i.serve (length vars) fs (i.first ∷ i.others) (λ m. live_on i.depth i.serve (length vars) m) i.lives (ap (first_with r) (services_are i.depth i.serve sc.processes (length vars) fs (λ y k. refl) w'.0.new_processes))
      ∙ ap (λ y. first_with r (parts_as y)) (sym i.parts_are) in
      subst (λ y. HoldersFit lists (Live sid) r y (first_with r (parts_as parts))) (sym i.left) (subst (HoldersFit lists (Live sid) r (put fs gs c)) holder put_it)
    where
      below : (m n : ℕ) → m < n → (n == m) ≡ false
      below m n i = grind (arith, nat_tests)

      -- among renamed sessions it is the one that was started
      same : (sc : Scope) → sc.sid ≡ sid → (k d : ℕ) (t : Ref) → IsIn sc.sid (Named k d ∷ sc.sessions) t → ref_eq (Live sid) (number_for k d sid t) ≡ ref_eq (Named k d) t
      same sc i k d (Live m) h = below m sid (subst (λ y. m < y) i h)
      same sc i k d (Named x y) h = go (ref_eq (Named k d) (Named x y)) refl
        where
          go : (b : Bool) → ref_eq (Named k d) (Named x y) ≡ b → ref_eq (Live sid) (number_for k d sid (Named x y)) ≡ ref_eq (Named k d) (Named x y)
          go true e = ap (λ b. ref_eq (Live sid) (if b then Live sid else Named x y)) e ∙ true_eq sid ∙ sym e
          go false e = ap (λ b. ref_eq (Live sid) (if b then Live sid else Named x y)) e ∙ sym e

      other : (sc : Scope) (k d x y : ℕ) → among (Named x y) (Named k d ∷ sc.sessions) ≡ false → ref_eq (Live sid) (Named x y) ≡ ref_eq (Named k d) (Named x y)
      other sc k d x y h = sym (turned_ref (Named x y) (Named k d) (left_or _ _ h))
  new_held sc pid_is sid_is is w h own (test {p = t} {x = g} {c = c} {c' = c'} {d = d} {e = x} made) = absurd (no_test vars t g c c' d x f a s parts is (decided vars t g c c' x f d made))
  new_held sc pid_is sid_is is w h own (delay {n = n} {c = c} {d = d} u mv) =
      let off = off_put n (off_node ks procs lists (λ t. t) (λ t. t) (Live sid) r sc (λ m. refl) (never sc sid_is) (λ x y i. refl) n w.0 (first_with r (parts_as parts))) in
      (off.0, subst (HoldersFit lists (Live sid) r d) (sym off.1) (new_held (scope_after sc n) (same_pid sc n ∙ pid_is) (same_sid sc n ∙ sid_is) is w.1 (λ y. holder_after y r n (h y)) (λ y. (own y).1) mv))
    where
      below : (m n : ℕ) → m < n → (n == m) ≡ false
      below m n i = grind (arith, nat_tests)

      never : (sc : Scope) → sc.sid ≡ sid → (t : Ref) → IsSession sc t → ref_eq (Live sid) t ≡ false
      never sc i (Live m) h = below m sid (subst (λ y. m < y) i h)
      never sc i (Named x y) h = refl

      off_put : (n : Node) → HolderFits (Live sid) r (put_node (λ t. t) (λ t. t) n) (first_with r (parts_as parts)) × (holder_after (Live sid) r (put_node (λ t. t) (λ t. t) n) (first_with r (parts_as parts)) ≡ first_with r (parts_as parts)) → HolderFits (Live sid) r n (first_with r (parts_as parts)) × (holder_after (Live sid) r n (first_with r (parts_as parts)) ≡ first_with r (parts_as parts))
      off_put n z = subst (λ y. HolderFits (Live sid) r y (first_with r (parts_as parts)) × (holder_after (Live sid) r y (first_with r (parts_as parts)) ≡ first_with r (parts_as parts))) (id_node n) z
  new_held sc pid_is sid_is is w h own (both u mv mw) = (new_held sc pid_is sid_is is w.1 h (λ y. (own y).0) mv, new_held sc pid_is sid_is is w.2 h (λ y. (own y).1) mw)
  new_held sc pid_is sid_is is w h own (unfolded {h = g} {k = k} {ps = ps} {ss = ss} {c = c} u mv) = new_held sc pid_is sid_is is (bodies sc g k ps ss c u w) h (λ y. owned_bodies sc y r (h y) g k ps ss c u w (own y)) mv

  -- every other session keeps its holders
  old_held : (u : Ref) → ref_eq u (Live sid) ≡ false → (sc : Scope) → sc.pid ≡ length vars → sc.sid ≡ sid → {c d : Choreography} {x : Event} → x ≡ Start a s parts → IsWellFormed ks procs sc c → (o : Option Ref) → HolderIn sc o → HoldersFit lists u r c o → Moves procs hosts vars sid c x f d → HoldersFit lists u r d o
  old_held u off sc pid_is sid_is is w o ho h (head {n = n} {c = c} {d = d} {e = x} v z made) =
      let i = starts_here vars sid v n c d x f a s parts is (headed vars sid v n c x f d made) in
      let w' : IsWellFormed ks procs sc (Then (Starts a i.depth i.k i.active i.serve) c) = subst (λ y. IsWellFormed ks procs sc (Then y c)) i.is w in
      subst (λ y. HoldersFit lists u r y o) (sym i.left) (by i.depth i.k i.active i.serve w' (subst (λ y. HoldersFit lists u r c (holder_after u r y o)) i.is h.1) (ref_eq u (Named i.k i.depth)) refl)
    where
      by : (j k : ℕ) (active : List (Ref × NameId)) (serve : List (ℕ × NameId)) → IsWellFormed ks procs sc (Then (Starts a j k active serve) c) → HoldersFit lists u r c (holder_after u r (Starts a j k active serve) o) → (b : Bool) → ref_eq u (Named k j) ≡ b → HoldersFit lists u r (put (numbers_for j serve (length vars)) (number_for k j sid) c) o
      by j k active serve w' rest true e =
          owned_never ks procs lists (numbers_for j serve (length vars)) (number_for k j sid) u r (scope_after sc (Starts a j k active serve)) (opened_scope sc (length serve)) (session_renaming ks sid sc sid_is a j k active serve w'.0) never fresh c w'.1 o
        where
          never : (t : Ref) → IsIn sc.sid (Named k j ∷ sc.sessions) t → ref_eq u (number_for k j sid t) ≡ false
          never (Live m) h = ap (λ y. ref_eq y (Live m)) (same_ref u (Named k j) e)
          never (Named x y) h = go (ref_eq (Named k j) (Named x y)) refl
            where
              go : (b : Bool) → ref_eq (Named k j) (Named x y) ≡ b → ref_eq u (number_for k j sid (Named x y)) ≡ false
              go true i = ap (λ b. ref_eq u (if b then Live sid else Named x y)) i ∙ off
              go false i = ap (λ b. ref_eq u (if b then Live sid else Named x y)) i ∙ ap (λ q. ref_eq q (Named x y)) (same_ref u (Named k j) e) ∙ i

          fresh : (x y : ℕ) → among (Named x y) (Named k j ∷ sc.sessions) ≡ false → ref_eq u (Named x y) ≡ false
          fresh x y h = ap (λ q. ref_eq q (Named x y)) (same_ref u (Named k j) e) ∙ turned_ref (Named x y) (Named k j) (left_or _ _ h)
      by j k active serve w' rest false e =
          let fs = numbers_for j serve (length vars) in
          let gs = number_for k j sid in
          let rest' : HoldersFit lists u r c o = subst (λ y. HoldersFit lists u r c (if y then first_with r (active ++ as_parts j serve) else o)) e rest in
          subst (HoldersFit lists u r (put fs gs c)) (same_holder fs sc (λ q i. same_process sc j (length vars) serve ks a k active w'.0 q i) o ho)
          (owned_put ks procs lists fs gs u u r (scope_after sc (Starts a j k active serve)) (opened_scope sc (length serve)) (process_renaming ks vars sc pid_is a j k active serve w'.0) (session_renaming ks sid sc sid_is a j k active serve w'.0) same (λ x y i. refl) c w'.1 o rest')
        where
          same : (t : Ref) → IsIn sc.sid (Named k j ∷ sc.sessions) t → ref_eq u (number_for k j sid t) ≡ ref_eq u t
          same (Live m) h = refl
          same (Named x y) h = go (ref_eq (Named k j) (Named x y)) refl
            where
              go : (b : Bool) → ref_eq (Named k j) (Named x y) ≡ b → ref_eq u (number_for k j sid (Named x y)) ≡ ref_eq u (Named x y)
              go true i = ap (λ b. ref_eq u (if b then Live sid else Named x y)) i ∙ off ∙ sym (ap (ref_eq u) (sym (same_ref (Named k j) (Named x y) i)) ∙ e)
              go false i = ap (λ b. ref_eq u (if b then Live sid else Named x y)) i
  old_held u off sc pid_is sid_is is w o ho h (test {p = t} {x = g} {c = c} {c' = c'} {d = d} {e = x} made) = absurd (no_test vars t g c c' d x f a s parts is (decided vars t g c c' x f d made))
  old_held u off sc pid_is sid_is is w o ho h (delay {n = n} m mv) = (h.0, old_held u off (scope_after sc n) (same_pid sc n ∙ pid_is) (same_sid sc n ∙ sid_is) is w.1 (holder_after u r n o) (holder_in ks sc u r n w.0 o ho) h.1 mv)
  old_held u off sc pid_is sid_is is w o ho h (both m mv mw) = (old_held u off sc pid_is sid_is is w.1 o ho h.0 mv, old_held u off sc pid_is sid_is is w.2 o ho h.1 mw)
  old_held u off sc pid_is sid_is is w o ho h (unfolded {h = g} {k = k} {ps = ps} {ss = ss} {c = c} m mv) = old_held u off sc pid_is sid_is is (bodies sc g k ps ss c m w) o ho (owned_bodies sc u r o g k ps ss c m w h) mv

  -- who holds a role once a session is started
  abbrev pub holder_started : Ref → Option Ref → Option Ref
  holder_started u o = if ref_eq u (Live sid) then first_with r (parts_as parts) else o

  pub owned_started : (u : Ref) (sc : Scope) → sc.pid ≡ length vars → sc.sid ≡ sid → {c d : Choreography} {x : Event} → x ≡ Start a s parts → IsWellFormed ks procs sc c → (h : Ref → Option Ref) → ((u : Ref) → HolderIn sc (h u)) → ((u : Ref) → HoldersFit lists u r c (h u)) → Moves procs hosts vars sid c x f d → HoldersFit lists u r d (holder_started u (h u))
  owned_started u sc pid_is sid_is {c = c} {d = d} is w h hs own mv = go (ref_eq u (Live sid)) refl
    where
      go : (b : Bool) → ref_eq u (Live sid) ≡ b → HoldersFit lists u r d (if b then first_with r (parts_as parts) else h u)
      go true e = subst (λ y. HoldersFit lists y r d (first_with r (parts_as parts))) (sym (same_ref u (Live sid) e)) (new_held sc pid_is sid_is is w h own mv)
      go false e = old_held u e sc pid_is sid_is is w (h u) (hs u) (own u) mv
