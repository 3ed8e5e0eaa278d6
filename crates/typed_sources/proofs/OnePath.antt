-- In a typed choreography each session has one path of its protocol that serves all its roles.
use Rattle.std.proofs.Common.{◌≡◌, ℕ, List, [], ◌++◌, refl, sym, ◌∙◌, subst, Some, None, Option, Bool, true, false, append_assoc, if◌then◌else◌}
use Rattle.chor_base.specs.declared.names.NameId.{NameId}
use Rattle.chor_tree.specs.declared.protocol.State.{State}
use Rattle.chor_semantics.specs.Choreography.{Ref, Live, Named, ref_eq, Node, Starts, Communicates, InTransit, Alone, Choreography, Then, Either, Calls, Ends}
use Rattle.chor_semantics.specs.Steps.{load_of}
use Rattle.well_formed.proofs.References.{same_ref}
use Rattle.typed_sources.specs.Told.{Act, receiving}
use Rattle.typed_sources.specs.Context.{Context, after, exchanged, protocols_after, told_content, told_load}
use Rattle.typed_sources.specs.Typing.{AtCalls, IsTypedIn, IsTypedNode, Reaches, IsOnOnePath}
use Rattle.typed_sources.proofs.Small.{append_nil}

module _ (kind : NameId → Option NameId) (states : NameId → List State) (called : AtCalls)
    (at_calls : (e : Context) (h : NameId) (k : ℕ) (ps ss : List Ref) → called e h k ps ss → (t : Ref) (p : NameId) → e.protocol t ≡ Some p → (i : ℕ) × Reaches (states p) (e.done t) i) where
  reached : (ss : List State) (done : NameId → List Act) (i : ℕ) → Reaches ss done i → IsOnOnePath ss done
  reached ss done i r = record { path = r.path; last = i; is_path = r.is_path; rest = λ a. []; acts = λ a. sym (append_nil (done a) ∙ r.acts a) }

  less : (ss : List State) (done more : NameId → List Act) → IsOnOnePath ss (λ r. done r ++ more r) → IsOnOnePath ss done
  less ss done more o = record { path = o.path; last = o.last; is_path = o.is_path; rest = λ r. more r ++ o.rest r; acts = λ r. o.acts r ∙ append_assoc (done r) (more r) (o.rest r) }

  still_bound : (e : Context) (n : Node) → IsTypedNode kind e n → (t : Ref) (p : NameId) → e.protocol t ≡ Some p → protocols_after kind n e.protocol t ≡ Some p
  still_bound e (Starts c d k active serve) f t p h = go (ref_eq t (Named k d)) refl
    where
      go : (b : Bool) → ref_eq t (Named k d) ≡ b → (if b then kind c else e.protocol t) ≡ Some p
      go false i = h
      go true i = let j : e.protocol (Named k d) ≡ Some p = subst (λ u. e.protocol u ≡ Some p) (same_ref t (Named k d) i) h in let z : e.protocol (Named k d) ≡ None = f.1 in absurd cc
  still_bound e (Communicates s p a q b w) f t r h = h
  still_bound e (InTransit s a b m q) f t r h = h
  still_bound e (Alone q o) f t r h = h

  back : (e : Context) (n : Node) → IsTypedNode kind e n → (t : Ref) (p : NameId) → e.protocol t ≡ Some p → IsOnOnePath (states p) ((after kind e n).done t) → IsOnOnePath (states p) (e.done t)
  back e (Starts c d k active serve) f t p h o = go (ref_eq t (Named k d)) refl o
    where
      go : (b : Bool) → ref_eq t (Named k d) ≡ b → IsOnOnePath (states p) (λ r. if b then [] else e.done t r) → IsOnOnePath (states p) (e.done t)
      go false i w = w
      go true i w = let j : e.protocol (Named k d) ≡ Some p = subst (λ u. e.protocol u ≡ Some p) (same_ref t (Named k d) i) h in let z : e.protocol (Named k d) ≡ None = f.1 in absurd cc
  back e (Communicates s q a u b w) f t p h o = less (states p) (e.done t) (λ r. if ref_eq t s then exchanged a b (told_content e.protocol (e.sorts q) w) r else []) o
  back e (InTransit s a b m q) f t p h o = less (states p) (e.done t) (λ r. if ref_eq t (Live s) then receiving a b (told_load e.protocol (load_of m)) r else []) o
  back e (Alone q w) f t p h o = o

  pub one_path : (e : Context) (c : Choreography) → IsTypedIn kind states called e c → (t : Ref) (p : NameId) → e.protocol t ≡ Some p → IsOnOnePath (states p) (e.done t)
  one_path e (Then n rest) (k, f, y) t p h = back e n f t p h (one_path (after kind e n) rest y t p (still_bound e n f t p h))
  one_path e (Either r g c d) (k, s, y, z) t p h = one_path e c y t p h
  one_path e (Calls g k ps ss) y t p h = let r = at_calls e g k ps ss y t p h in reached (states p) (e.done t) r.0 r.1
  one_path e Ends y t p h = let r = y t p h in reached (states p) (e.done t) r.last r.reaches
