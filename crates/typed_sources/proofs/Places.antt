-- Listed roles have places of parameters.
use Rattle.std.proofs.Common.{◌≡◌, ℕ, suc, ◌<◌, List, [], ◌∷◌, map, length, refl, sym, ap, ◌∙◌, subst, Some, None, Option, Bool, true, false, if◌then◌else◌, ◌==◌, arith}
use Rattle.std.specs.Prelude.{slice_get, Contains}
use Rattle.chor_base.specs.declared.names.NameId.{NameId}
use Rattle.chor_tree.specs.declared.file.File.{File}
use Rattle.chor_tree.specs.declared.file.Named.{Named as Written}
use Rattle.chor_tree.specs.declared.file.Proc.{Proc}
use Rattle.chor_tree.specs.declared.file.ProcParam.{ProcParam}
use Rattle.chor_tree.specs.declared.file.SessionParam.{SessionParam}
use Rattle.chor_tree.specs.Names.{first_named, procedure_of}
use Rattle.chor_semantics.specs.Sources.{Procedure, procedure_from, procedures_of}
use Rattle.chor_semantics.specs.Steps.{procedure_named}
use Rattle.well_formed.proofs.References.{same_name}
use Rattle.typed_sources.proofs.Checked.{some_is}
use Rattle.well_formed.specs.Holders.{ListsFit}
use Rattle.typed_sources.specs.Lists.{one_more, place_of, listed_for, place_for, listed_in, listed_by, lists_of}

-- a procedure of the choreography is one of the file
pub record FromFile (f : File) (h : NameId) (b : Procedure) : Type 0 where
  pub proc : Proc
  pub is : procedure_of f h ≡ Some proc
  pub same : procedure_from f.tree.nodes proc ≡ b

pub from_file : (f : File) (h : NameId) (b : Procedure) → procedure_named (procedures_of f) h ≡ Some b → FromFile f h b
from_file f h b i = let w = go f.procs i in record { proc = w.0; is = w.1; same = w.2 }
  where
    go : (ps : List Proc) → procedure_named (map (procedure_from f.tree.nodes) ps) h ≡ Some b → (p : Proc) × (first_named (λ q. q.name) ps h ≡ Some p) × (procedure_from f.tree.nodes p ≡ b)
    go [] j = absurd cc
    go (q ∷ qs) j = at (q.name.name.0 == h.0) j (go qs)
      where
        at : (c : Bool) → (if c then Some (procedure_from f.tree.nodes q) else procedure_named (map (procedure_from f.tree.nodes) qs) h) ≡ Some b
            → (procedure_named (map (procedure_from f.tree.nodes) qs) h ≡ Some b → (p : Proc) × (first_named (λ z. z.name) qs h ≡ Some p) × (procedure_from f.tree.nodes p ≡ b))
            → (p : Proc) × ((if c then Some q else first_named (λ z. z.name) qs h) ≡ Some p) × (procedure_from f.tree.nodes p ≡ b)
        at true k ih = (q, refl, cc)
        at false k ih = ih k

pub more_is : (o : Option ℕ) (j : ℕ) → one_more o ≡ Some j → (i : ℕ) × (o ≡ Some i) × (j ≡ suc i)
more_is None j h = absurd cc
more_is (Some i) j h = (i, refl, cc)

pub place_below : (qs : List ProcParam) (x : NameId) (j : ℕ) → place_of qs x ≡ Some j → j < length (map (λ q. q.name.name) qs)
place_below [] x j h = absurd cc
place_below (q ∷ qs) x j h = go (q.name.name.0 == x.0) h (λ i. place_below qs x i)
  where
    go : (b : Bool) → (if b then Some 0 else one_more (place_of qs x)) ≡ Some j → ((i : ℕ) → place_of qs x ≡ Some i → i < length (map (λ q. q.name.name) qs)) → j < suc (length (map (λ q. q.name.name) qs))
    go true i ih = let e : j ≡ 0 = cc in omega (arith, e)
    go false i ih = let w = more_is (place_of qs x) j i in let l : w.0 < length (map (λ q. q.name.name) qs) = ih w.0 w.1 in let e : j ≡ suc w.0 = w.2 in omega (arith, l, e)

-- the parameter at the place has the name
pub place_named : (qs : List ProcParam) (x : NameId) (j : ℕ) → place_of qs x ≡ Some j → slice_get (map (λ q. q.name.name) qs) j ≡ Some x
place_named [] x j h = absurd cc
place_named (q ∷ qs) x j h = go (q.name.name.0 == x.0) refl h (λ i. place_named qs x i)
  where
    go : (b : Bool) → (q.name.name.0 == x.0) ≡ b → (if b then Some 0 else one_more (place_of qs x)) ≡ Some j → ((i : ℕ) → place_of qs x ≡ Some i → slice_get (map (λ q. q.name.name) qs) i ≡ Some x) → slice_get (q.name.name ∷ map (λ q. q.name.name) qs) j ≡ Some x
    go true e i ih = let z : j ≡ 0 = cc in subst (λ k. slice_get (q.name.name ∷ map (λ q. q.name.name) qs) k ≡ Some x) (sym z) (ap Some (same_name q.name.name x e))
    go false e i ih = let w = more_is (place_of qs x) j i in subst (λ k. slice_get (q.name.name ∷ map (λ q. q.name.name) qs) k ≡ Some x) (sym w.2) (ih w.0 w.1)

-- a listed role stands in the list
pub listed_there : (hs : List (Written × Written)) (r x : NameId) → listed_for hs r ≡ Some x → (h : Written × Written) × Contains hs h × (h.0.name ≡ r) × (h.1.name ≡ x)
listed_there [] r x i = absurd cc
listed_there (h ∷ hs) r x i = go (h.0.name.0 == r.0) refl i (listed_there hs r x)
  where
    go : (b : Bool) → (h.0.name.0 == r.0) ≡ b → (if b then Some h.1.name else listed_for hs r) ≡ Some x → (listed_for hs r ≡ Some x → (k : Written × Written) × Contains hs k × (k.0.name ≡ r) × (k.1.name ≡ x)) → (k : Written × Written) × Contains (h ∷ hs) k × (k.0.name ≡ r) × (k.1.name ≡ x)
    go true e j ih = (h, (0, omega arith, refl), same_name h.0.name r e, some_is _ _ j)
    go false e j ih = let w = ih j in (w.0, (suc w.1.0, (let l : w.1.0 < length hs = w.1.1 in omega (arith, l)), w.1.2), w.2, w.3)

pub placed : (qs : List ProcParam) (o : Option NameId) (j : ℕ) → place_for qs o ≡ Some j → (x : NameId) × (o ≡ Some x) × (place_of qs x ≡ Some j)
placed qs None j h = absurd cc
placed qs (Some x) j h = (x, refl, h)

listed_below : (qs : List ProcParam) (o : Option SessionParam) (r : NameId) (j : ℕ) → listed_in qs o r ≡ Some j → j < length (map (λ q. q.name.name) qs)
listed_below qs None r j h = absurd cc
listed_below qs (Some s) r j h = let w = placed qs (listed_for s.holders r) j h in place_below qs w.0 j w.2

-- A listed role's place is one of a parameter
pub lists_fit : (f : File) → ListsFit (lists_of f) (procedures_of f)
lists_fit f h b is i r j e =
    let p = from_file f h b is in
    let l = listed_below p.proc.params (slice_get p.proc.sessions i) r j (ap (λ o. listed_by o i r) (sym p.is) ∙ e) in
    subst (λ (z : Procedure). j < length z.params) p.same l
