-- Services' codes still follow what stands after each pending start, by an event of one process.
use Rattle.well_formed.proofs.Renames.{in_entered}
use Rattle.std.proofs.Common.{◌≡◌, ℕ, Bool, true, false, List, [], ◌∷◌, Some, refl, subst, sym, ℤ, if◌then◌else◌}
use Rattle.chor_base.specs.declared.names.NameId.{NameId}
use Rattle.chor_base.specs.declared.event.Event.{Event}
use Rattle.chor_base.specs.Expr.{value_of, truth_of}
use Rattle.chor_base.specs.NameMap.{Variables}
use Rattle.chor_base.specs.Meaning.{Hosts}
use Rattle.chor_semantics.specs.Choreography.{Ref, Named, among, Node, Starts, Communicates, InTransit, Alone, Choreography, Then}
use Rattle.chor_semantics.specs.Sources.{Procedure}
use Rattle.chor_semantics.specs.Steps.{Effect, Moves, head, test, delay, both, unfolded, vars_of, procedure_named, body_of}
use Rattle.endpoint_code.specs.declared.endpoints.Channel.{Channel}
use Rattle.endpoint_code.specs.declared.endpoints.Endpoints.{Endpoints}
use Rattle.endpoint_code.specs.Network.{service_of}
use Rattle.well_formed.specs.Follows.{no_sessions, with_session}
use Rattle.well_formed.specs.WellFormed.{Scope, scope_after, entered, CallFits, IsWellFormed}
use Rattle.well_formed.proofs.Absent.{IsNoDeeper, IsAbsent}
use Rattle.correspondence.specs.Services.{EachServiceFollows, ServicesFollowAt, ServicesFollow}
use Rattle.well_formed.proofs.References.{among_self, NotStart}
use Rattle.well_formed.proofs.Heads.{Headed, sends, gets, owns, starts, headed, owned_event, decided}
use Rattle.correspondence.proofs.Others.{kept}

module _ (ks : List Channel) (e : Endpoints) (procs : List Procedure) (hosts : Hosts) (vars : List Variables) (sid : ℕ)
    (bodies : (sc : Scope) (f : NameId) (d : ℕ) (ps ss : List Ref) (c : Choreography) → body_of (procedure_named procs f) d ps ss ≡ Some c → CallFits procs sc f d ps ss → IsWellFormed ks procs sc c)
    (outside : (sc : Scope) (p : Ref) (f : NameId) (d : ℕ) (ps ss : List Ref) (c : Choreography) → body_of (procedure_named procs f) d ps ss ≡ Some c → CallFits procs sc f d ps ss → among p ps ≡ false → IsNoDeeper d p → IsAbsent p c)
    (served_bodies : (sc : Scope) (f : NameId) (d : ℕ) (ps ss : List Ref) (c : Choreography) → body_of (procedure_named procs f) d ps ss ≡ Some c → CallFits procs sc f d ps ss → ServicesFollow e procs c)
    (x : Event) (ns : NotStart x) where
  -- past a pending start
  serves_past : (sc : Scope) (c d : Choreography) (f : Effect) (ch : NameId) (j k : ℕ) (serve : List (ℕ × NameId)) (bs : List Ref) → IsWellFormed ks procs sc c → Moves procs hosts vars sid c x f d → ((p : Ref) → among p (entered j serve bs) ≡ true → among p sc.processes ≡ true) → EachServiceFollows e procs c ch j k serve → EachServiceFollows e procs d ch j k serve
  serves_past sc c d f ch j k [] bs w mv i h = tt
  serves_past sc c d f ch j k (s ∷ ss) bs w mv i h = (
    λ n. kept ks e procs hosts vars sid bodies outside (Named s.0 j) n x ns refl sc c d f (i (Named s.0 j) (in_entered j ss (Named s.0 j ∷ bs) (Named s.0 j) (among_self (Named s.0 j) bs))) w mv (service_of e.services ch s.1) (with_session no_sessions ch (Named k j, s.1)) h.0,
    serves_past sc c d f ch j k ss (Named s.0 j ∷ bs) w mv i h.1,
  )

  at_node : (sc : Scope) (n : Node) (c d : Choreography) (f : Effect) → IsWellFormed ks procs (scope_after sc n) c → Moves procs hosts vars sid c x f d → ServicesFollowAt e procs c n → ServicesFollowAt e procs d n
  at_node sc (Starts ch j k active serve) c d f w mv h = serves_past (scope_after sc (Starts ch j k active serve)) c d f ch j k serve sc.processes w mv (λ p i. i) h
  at_node sc (Communicates s p a q b z) c d f w mv h = tt
  at_node sc (InTransit s a b m q) c d f w mv h = tt
  at_node sc (Alone p o) c d f w mv h = tt

  head_served : (v : ℤ) (n : Node) (c d : Choreography) (f : Effect) → ServicesFollow e procs (Then n c) → Headed vars sid v n c x f d → ServicesFollow e procs d
  head_served v n c d f h (sends s p a b q w m is made ev k left) = subst (ServicesFollow e procs) (sym left) (tt, h.1)
  head_served v n c d f h (gets s q a b m is ev k left) = subst (ServicesFollow e procs) (sym left) h.1
  head_served v n c d f h (owns p o is made) = subst (ServicesFollow e procs) (sym (owned_event vars sid v (vars_of vars p) p o c d x f made).2) h.1
  head_served v n c d f h (starts ch k s active serve q ps is lives ev g left) = absurd (subst NotStart ev ns)

  pub served_kept : (sc : Scope) {c d : Choreography} {f : Effect} → IsWellFormed ks procs sc c → ServicesFollow e procs c → Moves procs hosts vars sid c x f d → ServicesFollow e procs d
  served_kept sc w h (head {n = n} {c = c} {d = d} {f = f} v a made) = head_served v n c d f h (headed vars sid v n c x f d made)
  served_kept sc w h (test {p = r} {x = g} {c = c} {c' = c'} {d = d} {f = f} made) =
      let i = decided vars r g c c' x f d made in
      subst (ServicesFollow e procs) (sym i.left) (branch (truth_of (value_of g (vars_of vars i.p))))
    where
      branch : (b : Bool) → ServicesFollow e procs (if b then c else c')
      branch true = h.0
      branch false = h.1
  served_kept sc w h (delay {n = n} {c = c} {d = d} {f = f} m mv) = (at_node sc n c d f w.1 mv h.0, served_kept (scope_after sc n) w.1 h.1 mv)
  served_kept sc w h (both m mv mw) = (served_kept sc w.1 h.0 mv, served_kept sc w.2 h.1 mw)
  served_kept sc w h (unfolded {h = g} {k = k} {ps = ps} {ss = ss} {c = c} m mv) = served_kept sc (bodies sc g k ps ss c m w) (served_bodies sc g k ps ss c m w) mv
