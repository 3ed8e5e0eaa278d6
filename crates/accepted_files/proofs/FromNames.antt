-- What follows a start has its session, and no session of the channel's name.
use Rattle.std.proofs.Common.{◌≡◌, ℕ, ◌==◌, ◌&&◌, ◌||◌, Bool, true, false, List, [], ◌∷◌, refl, sym, ap, ◌∙◌}
use Rattle.std.proofs.lemmas.Bool.{eqb-true}
use Rattle.chor_base.specs.declared.names.NameId.{NameId}
use Rattle.chor_semantics.specs.Choreography.{Ref, Live, Named, ref_eq, among, Content, OfValue, OfLabel, OfPart, Starts, Communicates, InTransit, Alone, Choreography, Then, Either, Calls, Ends}
use Rattle.chor_semantics.specs.Sources.{Procedure}
use Rattle.endpoint_code.specs.declared.endpoints.Channel.{Channel}
use Rattle.well_formed.specs.SourceTrees as source
use Rattle.well_formed.specs.SourceTrees.{IsSource}
use Rattle.well_formed.specs.WellFormed.{Scope, IsIn, AllIn, ContentFits, scope_after, IsWellFormed}
use Rattle.projection.specs.Renamed.{IsOther, AreOther, IsOtherContent}
use Rattle.accepted_files.specs.FreeSessions.{IsFree}
use Rattle.accepted_files.specs.Premises.{BindsNo}

or_later : (a b : Bool) → b ≡ true → (a || b) ≡ true
or_later true b h = refl
or_later false b h = h

pub turned : (a h : ℕ) → (h == a) ≡ false → (a == h) ≡ false
turned a h e = go (a == h) refl
  where
    go : (b : Bool) → (a == h) ≡ b → b ≡ false
    go false f = refl
    go true f = let z : true ≡ false = sym f ∙ ap (λ v. v == h) (eqb-true a h f) ∙ sym (ap (λ v. h == v) (eqb-true a h f) ∙ refl) ∙ e in absurd cc

module _ (ks : List Channel) (procs : List Procedure) (k a : ℕ) where
  abbrev name : NameId
  name = record { 0 = a }

  other : (n : ℕ) (bs : List Ref) → among (Named a 0) bs ≡ false → (u : Ref) → source.IsName u → IsIn n bs u → IsOther name u
  other n bs out (Live m) s i = absurd s
  other n bs out (Named y d) s i = go (y == a) refl
    where
      go : (b : Bool) → (y == a) ≡ b → b ≡ false
      go false e = refl
      go true e = let z : true ≡ false = sym i ∙ ap (λ v. among (Named y v) bs) s ∙ ap (λ v. among (Named v 0) bs) (eqb-true y a e) ∙ out in absurd cc

  others : (n : ℕ) (bs : List Ref) → among (Named a 0) bs ≡ false → (us : List Ref) → source.AreNames us → AllIn n bs us → AreOther name us
  others n bs out [] s i = tt
  others n bs out (u ∷ us) s i = (other n bs out u s.0 i.0, others n bs out us s.1 i.1)

  content : (sc : Scope) → among (Named a 0) sc.sessions ≡ false → (w : Content) → source.IsContent w → ContentFits sc w → IsOtherContent name w
  content sc out (OfValue e x) s i = tt
  content sc out (OfLabel l) s i = tt
  content sc out (OfPart u r) s i = other sc.sid sc.sessions out u s i

  pub free : (sc : Scope) (c : Choreography) → among (Named k 0) sc.sessions ≡ true → among (Named a 0) sc.sessions ≡ false → IsSource c → IsWellFormed ks procs sc c → BindsNo a c → IsFree k name c
  free sc (Then (Starts c e h act srv) rest) i out s w b = (
    apart (h == k) refl,
    b.0,
    free (scope_after sc (Starts c e h act srv)) rest (or_later (ref_eq (Named k 0) (Named h e)) (among (Named k 0) sc.sessions) i) (ap (λ v. (v && (0 == e)) || among (Named a 0) sc.sessions) (turned a h b.0) ∙ out) s.1 w.1 b.1,
  )
    where
      apart : (v : Bool) → (h == k) ≡ v → v ≡ false
      apart false f = refl
      apart true f = let z : true ≡ false = sym i ∙ ap (λ v. among (Named v 0) sc.sessions) (sym (eqb-true h k f)) ∙ ap (λ v. among (Named h v) sc.sessions) (sym s.0.0) ∙ w.0.new_session in absurd cc
  free sc (Then (Communicates u p x q y v) rest) i out s w b =
      (other sc.sid sc.sessions out u s.0.0 w.0.session, content sc out v s.0.3 w.0.content, free sc rest i out s.1 w.1 b)
  free sc (Then (InTransit u x y m q) rest) i out s w b = absurd s.0
  free sc (Then (Alone p o) rest) i out s w b = free sc rest i out s.1 w.1 b
  free sc (Either p x c d) i out s w b = (free sc c i out s.1 w.1 b.0, free sc d i out s.2 w.2 b.1)
  free sc (Calls f d ps ss) i out s w b = others sc.sid sc.sessions out ss s.1 w.sessions
  free sc Ends i out s w b = tt
