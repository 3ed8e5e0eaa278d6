-- Whoever uses a role in the body of a call is its holder.
use Rattle.std.proofs.Common.{◌≡◌, inr, ℕ, zero, suc, Bool, true, false, List, [], ◌∷◌, Option, Some, None, refl, sym, ap, ◌∙◌, subst, if◌then◌else◌, ◌==◌, ◌&&◌}
use Rattle.std.specs.Prelude.{slice_get}
use Rattle.std.proofs.lemmas.Bool.{eqb-true}
use Rattle.chor_base.specs.declared.names.NameId.{NameId}
use Rattle.chor_semantics.specs.Choreography.{Ref, Live, Named, ref_eq, among, Choreography, instance_of}
use Rattle.chor_semantics.specs.Sources.{Procedure}
use Rattle.chor_semantics.specs.Steps.{procedure_named, bound_all, body_of}
use Rattle.endpoint_code.specs.declared.endpoints.Channel.{Channel}
use Rattle.well_formed.specs.WellFormed.{Scope, IsIn, AreNoDeeper, names_in_scope, AllFit, CallFits}
use Rattle.well_formed.specs.Holders.{named_param, listed_param, declared_holder, ListsFit, AllHoldersFit, ListedHolders, PassedHeld, HoldersFit}
use Rattle.well_formed.specs.SourceTrees.{AllSources}
use Rattle.well_formed.proofs.References.{or_left, or_rights, clash, self_ref, differ_ref}
use Rattle.well_formed.proofs.Instances.{called, Called, arg_among, in_list, none_deeper}
use Rattle.correspondence.proofs.OwnedInstances.{SameName, SameFresh, NameInHolder, owned_instance, never_instance, passed_at, none_declared}

module _ (ks : List Channel) (procs : List Procedure) (lists : ListedHolders) (sources : AllSources procs) (fit : AllFit ks procs) (fits : ListsFit lists procs) (owned : AllHoldersFit lists procs) where
  name_in : (ls : ℕ → NameId → Option ℕ) (xs : List NameId) (i : ℕ) (zs : List NameId) (y : ℕ) (r : NameId) (d : ℕ) (u : Ref) → NameInHolder (names_in_scope xs) (declared_holder ls xs i zs y r)
  name_in ls xs i [] y r d u = tt
  name_in ls xs i (z ∷ zs) y r d u = go (z.0 == y) (name_in ls xs (suc i) zs y r d u)
    where
      listed : (x : Option ℕ) → NameInHolder (names_in_scope xs) (listed_param xs x)
      listed None = tt
      listed (Some j) = at (slice_get xs j) refl
        where
          member : (ys : List NameId) (k : ℕ) (x : NameId) → slice_get ys k ≡ Some x → among (Named x.0 0) (names_in_scope ys) ≡ true
          member [] k x i = absurd cc
          member (y ∷ ys) zero x i = let e : y ≡ x = cc in or_left _ _ (ap (λ w. ref_eq (Named x.0 0) (Named w.0 0)) e ∙ self_ref (Named x.0 0))
          member (y ∷ ys) (suc k) x i = or_rights _ _ (member ys k x i)

          at : (o : Option NameId) → slice_get xs j ≡ o → NameInHolder (names_in_scope xs) (named_param o)
          at None e = tt
          at (Some x) e = (refl, member xs j x e)

      go : (b : Bool) → NameInHolder (names_in_scope xs) (declared_holder ls xs (suc i) zs y r) → NameInHolder (names_in_scope xs) (if b then listed_param xs (ls i r) else declared_holder ls xs (suc i) zs y r)
      go true h = listed (ls i r)
      go false h = h

  not_deep : (n : ℕ) (bs : List Ref) (d : ℕ) (u : Ref) → IsIn n bs u → AreNoDeeper d bs → (z : ℕ) → ref_eq u (Named z (suc d)) ≡ false
  not_deep n bs d (Live m) h up z = refl
  not_deep n bs d (Named x c) h up z = differ_ref (Named x c) (Named z (suc d)) (λ e. clash (ap (λ w. among w bs) (sym e) ∙ h) (none_deeper d bs up z))

  -- the body of a call that fits is well owned
  pub owned_bodies : (sc : Scope) (u : Ref) (r : NameId) (o : Option Ref) (f : NameId) (d : ℕ) (ps ss : List Ref) (c : Choreography) → body_of (procedure_named procs f) d ps ss ≡ Some c → CallFits procs sc f d ps ss → PassedHeld (lists f) u r o ps 0 ss → HoldersFit lists u r c o
  owned_bodies sc u r o f d ps ss c b w h = subst (λ y. HoldersFit lists u r y o) (sym i.is) (by (among u ss) refl)
    where
      i : Called ks procs sources fit sc f d ps ss c
      i = called ks procs sources fit sc f d ps ss c b w

      by : (z : Bool) → among u ss ≡ z → HoldersFit lists u r (instance_of (suc d) (bound_all (suc d) i.procedure.params ps) (bound_all (suc d) i.procedure.sessions ss) i.procedure.body) o
      by true e =
          let pf = fit f i.procedure i.declared in
          let at = passed_at (suc d) (lists f) i.procedure.params ps i.process_count pf.params r u o 0 i.procedure.sessions ss i.session_count pf.sessions e h in
          owned_instance (suc d) lists ks procs r u at.z (λ g p k n j v. fits g p k n r j v) (bound_all (suc d) i.procedure.params ps) (bound_all (suc d) i.procedure.sessions ss) (names_in_scope i.procedure.params) (names_in_scope i.procedure.sessions)
          (same at.z at.known at.is) (fresh at.z at.known) i.procedure.body (sources f i.procedure i.declared) pf.body (declared_holder (lists f) i.procedure.params 0 i.procedure.sessions at.z r) o (name_in (lists f) i.procedure.params 0 i.procedure.sessions at.z r d u) at.holder (owned f i.procedure i.declared at.z r)
        where
          same : (y : ℕ) → among (Named y 0) (names_in_scope i.procedure.sessions) ≡ true → bound_all (suc d) i.procedure.sessions ss y ≡ u → SameName (bound_all (suc d) i.procedure.sessions ss) (names_in_scope i.procedure.sessions) u y
          same y known is z k = go (y == z) refl
            where
              go : (v : Bool) → (y == z) ≡ v → ref_eq u (bound_all (suc d) i.procedure.sessions ss z) ≡ (y == z)
              go true q = ap (λ w. ref_eq w (bound_all (suc d) i.procedure.sessions ss z)) (sym is) ∙ ap (λ w. ref_eq (bound_all (suc d) i.procedure.sessions ss w) (bound_all (suc d) i.procedure.sessions ss z)) (eqb-true y z q) ∙ self_ref (bound_all (suc d) i.procedure.sessions ss z) ∙ sym q
              go false q = ap (λ w. ref_eq w (bound_all (suc d) i.procedure.sessions ss z)) (sym is) ∙ i.sessions.apart y z known k q ∙ sym q

          fresh : (y : ℕ) → among (Named y 0) (names_in_scope i.procedure.sessions) ≡ true → SameFresh (suc d) (names_in_scope i.procedure.sessions) u y
          fresh y known z k = not_deep sc.sid sc.sessions d u (in_list sc.sid sc.sessions ss u w.sessions e) w.sessions_above z ∙ sym (differ (y == z) refl)
            where
              differ : (v : Bool) → (y == z) ≡ v → (y == z) ≡ false
              differ false q = q
              differ true q = absurd (clash (ap (λ t. among (Named t 0) (names_in_scope i.procedure.sessions)) (sym (eqb-true y z q)) ∙ known) k)
      by false e = other u refl
        where
          -- a parameter stands for what is passed
          never : (z : ℕ) → among (Named z 0) (names_in_scope i.procedure.sessions) ≡ true → ref_eq u (bound_all (suc d) i.procedure.sessions ss z) ≡ false
          never z k = differ_ref u (bound_all (suc d) i.procedure.sessions ss z) (λ q. clash (arg_among (suc d) i.procedure.sessions ss z i.session_count k) (ap (λ t. among t ss) (sym q) ∙ e))

          nothing : ((z : ℕ) → among (Named z 0) (names_in_scope i.procedure.sessions) ≡ false → ref_eq u (Named z (suc d)) ≡ false) → HoldersFit lists u r (instance_of (suc d) (bound_all (suc d) i.procedure.params ps) (bound_all (suc d) i.procedure.sessions ss) i.procedure.body) o
          nothing fr = never_instance (suc d) lists ks procs r u (bound_all (suc d) i.procedure.params ps) (bound_all (suc d) i.procedure.sessions ss) (names_in_scope i.procedure.params) (names_in_scope i.procedure.sessions) never fr i.procedure.body (sources f i.procedure i.declared) (fit f i.procedure i.declared).body o

          other : (v : Ref) → u ≡ v → HoldersFit lists u r (instance_of (suc d) (bound_all (suc d) i.procedure.params ps) (bound_all (suc d) i.procedure.sessions ss) i.procedure.body) o
          other (Live m) q = nothing (λ z k. ap (λ t. ref_eq t (Named z (suc d))) q)
          other (Named x n) q = go (among (Named x 0) (names_in_scope i.procedure.sessions)) refl (n == suc d) refl
            where
              go : (a : Bool) → among (Named x 0) (names_in_scope i.procedure.sessions) ≡ a → (v : Bool) → (n == suc d) ≡ v → HoldersFit lists u r (instance_of (suc d) (bound_all (suc d) i.procedure.params ps) (bound_all (suc d) i.procedure.sessions ss) i.procedure.body) o
              go a t false v = nothing (λ z k. ap (λ y. ref_eq y (Named z (suc d))) q ∙ deep z)
                where
                  deep : (z : ℕ) → ((x == z) && (n == suc d)) ≡ false
                  deep z = ap (λ y. (x == z) && y) v ∙ none (x == z)
                    where
                      none : (y : Bool) → (y && false) ≡ false
                      none true = refl
                      none false = refl
              go true t true v = nothing (λ z k. ap (λ y. ref_eq y (Named z (suc d))) q ∙ apart z k)
                where
                  apart : (z : ℕ) → among (Named z 0) (names_in_scope i.procedure.sessions) ≡ false → ((x == z) && (n == suc d)) ≡ false
                  apart z k = ap (λ y. y && (n == suc d)) (differ (x == z) refl)
                    where
                      differ : (y : Bool) → (x == z) ≡ y → (x == z) ≡ false
                      differ false q = q
                      differ true q = absurd (clash (ap (λ y. among (Named y 0) (names_in_scope i.procedure.sessions)) (sym (eqb-true x z q)) ∙ t) k)
              go false t true v =
                  owned_instance (suc d) lists ks procs r u x (λ g p k m j z. fits g p k m r j z) (bound_all (suc d) i.procedure.params ps) (bound_all (suc d) i.procedure.sessions ss) (names_in_scope i.procedure.params) (names_in_scope i.procedure.sessions)
                  (λ z k. never z k ∙ sym (differ z k (x == z) refl)) (λ z k. ap (λ y. ref_eq y (Named z (suc d))) q ∙ bound_here z) i.procedure.body (sources f i.procedure i.declared) (fit f i.procedure i.declared).body (declared_holder (lists f) i.procedure.params 0 i.procedure.sessions x r) o (name_in (lists f) i.procedure.params 0 i.procedure.sessions x r d u) (inr (none_declared (lists f) i.procedure.params r x 0 i.procedure.sessions t)) (owned f i.procedure i.declared x r)
                where
                  differ : (z : ℕ) → among (Named z 0) (names_in_scope i.procedure.sessions) ≡ true → (y : Bool) → (x == z) ≡ y → (x == z) ≡ false
                  differ z k false q = q
                  differ z k true q = absurd (clash (ap (λ y. among (Named y 0) (names_in_scope i.procedure.sessions)) (eqb-true x z q) ∙ k) t)

                  bound_here : (z : ℕ) → ((x == z) && (n == suc d)) ≡ (x == z)
                  bound_here z = ap (λ y. (x == z) && y) v ∙ all (x == z)
                    where
                      all : (y : Bool) → (y && true) ≡ y
                      all true = refl
                      all false = refl
