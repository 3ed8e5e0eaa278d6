-- What a call asks holds where the passed processes alone are in scope: so its body is typed there.
use Rattle.std.proofs.Common.{◌≡◌, ℕ, List, [], ◌∷◌, refl, sym, ap, subst, Bool, true, false, ◌||◌}
use Rattle.chor_base.specs.declared.names.NameId.{NameId}
use Rattle.chor_tree.specs.declared.file.File.{File}
use Rattle.chor_tree.specs.declared.file.ProcParam.{ProcParam}
use Rattle.chor_tree.specs.declared.file.SessionParam.{SessionParam}
use Rattle.chor_semantics.specs.Choreography.{Ref, Named, ref_eq, among}
use Rattle.well_formed.proofs.References.{self_ref, same_ref}
use Rattle.typed_sources.specs.Context.{Context}
use Rattle.typed_sources.specs.Typing.{AllKnown}
use Rattle.typed_sources.specs.Calls.{IsTypedCall, AreSet, AreAsDeclared}

abbrev pub narrowed : Context → List Ref → Context
narrowed e ps = record e { known = λ r. among r ps }

all_known : (m n : Ref → Bool) → ((r : Ref) → m r ≡ true → n r ≡ true) → (rs : List Ref) → AllKnown m rs → AllKnown n rs
all_known m n f [] k = tt
all_known m n f (r ∷ rs) k = (f r k.0, all_known m n f rs k.1)

or_right : (a b : Bool) → b ≡ true → (a || b) ≡ true
or_right true b i = refl
or_right false b i = i

passed_known : (ps : List Ref) → AllKnown (λ r. among r ps) ps
passed_known [] = tt
passed_known (p ∷ ps) = (ap (λ x. x || among p ps) (self_ref p), all_known (λ r. among r ps) (λ r. among r (p ∷ ps)) (λ r i. or_right (ref_eq r p) (among r ps) i) ps (passed_known ps))

known_passed : (m : Ref → Bool) (ps : List Ref) → AllKnown m ps → (r : Ref) → among r ps ≡ true → m r ≡ true
known_passed m [] k r i = absurd cc
known_passed m (p ∷ ps) k r i = go (λ j. known_passed m ps k.1 r j) (ref_eq r p) refl i
  where
    go : (among r ps ≡ true → m r ≡ true) → (b : Bool) → ref_eq r p ≡ b → (b || among r ps) ≡ true → m r ≡ true
    go more true j i = subst (λ z. m z ≡ true) (sym (same_ref r p j)) k.0
    go more false j i = more i

-- who isn't in scope isn't passed
pub unknown_passed : (m : Ref → Bool) (ps : List Ref) → AllKnown m ps → (r : Ref) → m r ≡ false → among r ps ≡ false
unknown_passed m ps k r i = go (among r ps) refl
  where
    go : (b : Bool) → among r ps ≡ b → among r ps ≡ false
    go false j = j
    go true j = let w = known_passed m ps k r j in absurd cc

are_set : (e : Context) (all : List Ref) (qs : List ProcParam) (ps : List Ref) → AreSet e qs ps → AreSet (narrowed e all) qs ps
are_set e all [] ps s = tt
are_set e all (q ∷ qs) [] s = tt
are_set e all (q ∷ qs) (p ∷ ps) s = (s.0, are_set e all qs ps s.1)

all_fit : (f : File) (e : Context) (all : List Ref) (qs : List ProcParam) (ps : List Ref) (rs : List SessionParam) (ss : List Ref) → AreAsDeclared f e qs ps rs ss → AreAsDeclared f (narrowed e all) qs ps rs ss
all_fit f e all qs ps [] ss t = tt
all_fit f e all qs ps (r ∷ rs) [] t = tt
all_fit f e all qs ps (r ∷ rs) (s ∷ ss) t = (record { protocol = t.0.protocol; reached = t.0.reached; holders = t.0.holders }, all_fit f e all qs ps rs ss t.1)

pub call_narrowed : (f : File) (e : Context) (h : NameId) (k : ℕ) (ps ss : List Ref) → IsTypedCall f e h k ps ss → IsTypedCall f (narrowed e ps) h k ps ss
call_narrowed f e h k ps ss w = record {
  procedure = w.procedure;
  is = w.is;
  many = w.many;
  many_sessions = w.many_sessions;
  known = passed_known ps;
  differ = w.differ;
  sessions_differ = w.sessions_differ;
  are_set = are_set e ps w.procedure.params ps w.are_set;
  fit = all_fit f e ps w.procedure.params ps w.procedure.sessions ss w.fit;
  others = w.others;
  deeper = λ x d l. (unknown_passed e.known ps w.known (Named x d) (w.deeper x d l).0, (w.deeper x d l).1);
}
