-- With the channel's name for its session, what follows a start has the same instances.
use Rattle.std.proofs.Common.{◌≡◌, ℕ, ◌==◌, Bool, true, false, if◌then◌else◌, List, [], ◌∷◌, map, refl, sym, ap, ◌∙◌}
use Rattle.std.proofs.lemmas.Bool.{eqb-true}
use Rattle.chor_base.specs.declared.names.NameId.{NameId}
use Rattle.chor_semantics.specs.Choreography.{Ref, Live, Named, Content, OfValue, OfLabel, OfPart, Starts, Communicates, InTransit, Alone, Choreography, Then, Either, Calls, Ends, put, put_part, put_content, bound, bound_served, named_by, instance_of}
use Rattle.projection.specs.Projects.{session_as}
use Rattle.projection.specs.Renamed.{IsOther, AreOther, IsOtherContent}
use Rattle.accepted_files.specs.FreeSessions.{IsFree}

module _ (k a d : ℕ) where
  abbrev name : NameId
  name = record { 0 = a }

  abbrev Agree : (ℕ → Ref) → (ℕ → Ref) → Type 0
  Agree s t = ((y : ℕ) → (y == k) ≡ false → (y == a) ≡ false → t y ≡ s y) × (t a ≡ s k)

  ref_same : (s t : ℕ → Ref) → Agree s t → (r : Ref) → IsOther name r → named_by t (session_as k name r) ≡ named_by s r
  ref_same s t h (Live n) o = refl
  ref_same s t h (Named y e) o = go (y == k) refl
    where
      go : (b : Bool) → (y == k) ≡ b → named_by t (if y == k then Named a e else Named y e) ≡ s y
      go true i = ap (λ c. named_by t (if c then Named a e else Named y e)) i ∙ h.1 ∙ ap s (sym (eqb-true y k i))
      go false i = ap (λ c. named_by t (if c then Named a e else Named y e)) i ∙ h.0 y i o

  refs_same : (s t : ℕ → Ref) → Agree s t → (rs : List Ref) → AreOther name rs → map (named_by t) (map (session_as k name) rs) ≡ map (named_by s) rs
  refs_same s t h [] o = refl
  refs_same s t h (r ∷ rs) o = let i = ref_same s t h r o.0 in let j = refs_same s t h rs o.1 in cc

  procs_same : (f : ℕ → Ref) (rs : List Ref) → map (named_by f) (map (λ p. p) rs) ≡ map (named_by f) rs
  procs_same f [] = refl
  procs_same f (r ∷ rs) = ap (λ z. named_by f r ∷ z) (procs_same f rs)

  parts_same : (f : ℕ → Ref) (qs : List (Ref × NameId)) → put_part (named_by f) (put_part (λ p. p) qs) ≡ put_part (named_by f) qs
  parts_same f [] = refl
  parts_same f (q ∷ qs) = ap (λ z. (named_by f q.0, q.1) ∷ z) (parts_same f qs)

  content_same : (s t : ℕ → Ref) → Agree s t → (w : Content) → IsOtherContent name w → put_content (named_by t) (put_content (session_as k name) w) ≡ put_content (named_by s) w
  content_same s t h (OfValue e x) o = refl
  content_same s t h (OfLabel l) o = refl
  content_same s t h (OfPart u r) o = ap (λ z. OfPart z r) (ref_same s t h u o)

  bound_same : (s t : ℕ → Ref) (x : ℕ) → Agree s t → (x == k) ≡ false → (x == a) ≡ false → Agree (bound x (Named x d) s) (bound x (Named x d) t)
  bound_same s t x h i j = ((λ y u v. go y (x == y) refl u v), ap (λ c. if c then Named x d else t a) j ∙ h.1 ∙ sym (ap (λ c. if c then Named x d else s k) i))
    where
      go : (y : ℕ) (c : Bool) → (x == y) ≡ c → (y == k) ≡ false → (y == a) ≡ false → (if x == y then Named x d else t y) ≡ (if x == y then Named x d else s y)
      go y true e u v = ap (λ c. if c then Named x d else t y) e ∙ sym (ap (λ c. if c then Named x d else s y) e)
      go y false e u v = ap (λ c. if c then Named x d else t y) e ∙ h.0 y u v ∙ sym (ap (λ c. if c then Named x d else s y) e)

  pub renamed : (c : Choreography) (f s t : ℕ → Ref) → Agree s t → IsFree k name c → instance_of d f t (put (λ p. p) (session_as k name) c) ≡ instance_of d f s c
  renamed (Then (Starts c e h act srv) rest) f s t g o =
      let i = parts_same f act in
      let j = renamed rest (bound_served d srv f) (bound h (Named h d) s) (bound h (Named h d) t) (bound_same s t h g o.0 o.1) o.2 in cc
  renamed (Then (Communicates u p x q y w) rest) f s t g o =
      let i = ref_same s t g u o.0 in
      let j = content_same s t g w o.1 in
      let l = renamed rest f s t g o.2 in cc
  renamed (Then (InTransit u x y m q) rest) f s t g o = let l = renamed rest f s t g o in cc
  renamed (Then (Alone p own) rest) f s t g o = let l = renamed rest f s t g o in cc
  renamed (Either p v c e) f s t g o = let i = renamed c f s t g o.0 in let j = renamed e f s t g o.1 in cc
  renamed (Calls h e ps ss) f s t g o = let i = procs_same f ps in let j = refs_same s t g ss o in cc
  renamed Ends f s t g o = refl
