-- Clashes don't depend on the choice of codes; the first fault is one; what a block's sites are made of.
use Rattle.std.proofs.Common.{◌≡◌, refl, sym, ap, ◌∙◌, subst, List, [], ◌∷◌, ◌++◌, Some}
use Rattle.std.specs.Prelude.{All}
use Rattle.std.specs.List.{AllZip}
use Rattle.std.proofs.lemmas.List.Elements.{All-nil, All-cons, All-head, All-tail}
use Rattle.chor_base.specs.declared.names.NameId.{NameId}
use Rattle.chor_base.specs.declared.rule.Rule.{Rule}
use Rattle.chor_base.specs.declared.rule.Place.{Place}
use Rattle.chor_tree.specs.declared.file.File.{File}
use Rattle.chor_tree.specs.declared.file.Named.{Named as Written}
use Rattle.chor_tree.specs.declared.file.Proc.{Proc}
use Rattle.chor_semantics.specs.Choreography.{put}
use Rattle.endpoint_code.specs.Trees.{CodeTree}
use Rattle.endpoint_code.specs.Above.{IsAbove}
use Rattle.endpoint_code.specs.LeastAbove.{IsLeastAbove}
use Rattle.endpoint_code.proofs.AboveOrder.{above_trans}
use Rattle.branch_merge.proofs.Bounds.{two_of_least, two_of_none}
use Rattle.projection.specs.Codes.{IsCodeOf}
use Rattle.projection.specs.Projects.{Started, starts_of, IsStartCode, session_as}
use Rattle.chor_semantics.specs.Blocks.{choreography_of}
use Rattle.projection.specs.MergeFaults.{Site, sites_of, services_of, HasClash, HasServiceClash, IsFirstOf, here, later, IsBranchFault, IsServiceFault, IsFirstMergeFault, branches, starts}
use Rattle.projection.proofs.OneCode.{code_above, no_clash}

-- ---- the choice of codes

pub branches_meet : (f : File) (s : Site) (first second q : CodeTree) → IsCodeOf f.procs s.process (choreography_of s.first) first
    → IsCodeOf f.procs s.process (choreography_of s.second) second → IsLeastAbove (first ∷ second ∷ []) q → HasClash f s → ⊥
branches_meet f s first second q h g l x =
    no_clash f.procs s.process (choreography_of s.first) (choreography_of s.second) first second x.first x.second q h g (two_of_least l) x.first_code x.second_code (two_of_none x.none)

module _ (procs : List Proc) (a r : NameId) where
  start_above : (s : Started) (c d : CodeTree) → IsStartCode procs a r s c → IsStartCode procs a r s d → IsAbove c d
  start_above s c d h g =
      let e : Some h.process ≡ Some g.process = sym h.serves ∙ g.serves in
      let p : h.process ≡ g.process = cc in
      code_above procs g.process (put (λ p. p) (session_as s.session a) s.rest) c d (subst (λ (x : NameId). IsCodeOf procs x (put (λ p. p) (session_as s.session a) s.rest) c) p h.code) g.code

  all_above : (ss : List Started) (cs ds : List CodeTree) (q : CodeTree) → AllZip (IsStartCode procs a r) ss cs → AllZip (IsStartCode procs a r) ss ds → All (IsAbove q) cs → All (IsAbove q) ds
  all_above [] [] [] q h g b = All-nil (IsAbove q)
  all_above [] [] (d ∷ ds) q h g b = absurd g
  all_above [] (c ∷ cs) ds q h g b = absurd h
  all_above (s ∷ ss) [] ds q h g b = absurd h
  all_above (s ∷ ss) (c ∷ cs) [] q h g b = absurd g
  all_above (s ∷ ss) (c ∷ cs) (d ∷ ds) q h g b =
      All-cons (IsAbove q) d ds (above_trans (All-head (IsAbove q) c cs b) (start_above s c d h.0 g.0)) (all_above ss cs ds q h.1 g.1 (All-tail (IsAbove q) c cs b))

pub starts_meet : (f : File) (x : Written × Written) (codes : List CodeTree) (q : CodeTree) → AllZip (IsStartCode f.procs x.0.name x.1.name) (starts_of f x.0.name) codes
    → IsLeastAbove codes q → HasServiceClash f x → ⊥
starts_meet f x codes q h l c = c.none q l.distinct (all_above f.procs x.0.name x.1.name (starts_of f x.0.name) codes c.codes q h c.each l.above)

-- ---- the first of a list

module _ {X : Type 0} (P : X → Type 0) where
  abbrev pub IsNone : X → Type 0
  IsNone x = P x → ⊥

  first_one : {x y : X} (xs : List X) → IsFirstOf P x xs → IsFirstOf P y xs → x ≡ y
  first_one [] h g = elim h [ ]
  first_one (z ∷ zs) (here h) (here g) = refl
  first_one (z ∷ zs) (here h) (later n g) = absurd (n h)
  first_one (z ∷ zs) (later n h) (here g) = absurd (n g)
  first_one (z ∷ zs) (later n h) (later m g) = first_one zs h g

  first_none : {x : X} (xs : List X) → IsFirstOf P x xs → All IsNone xs → ⊥
  first_none [] h a = elim h [ ]
  first_none (z ∷ zs) (here h) a = All-head IsNone z zs a h
  first_none (z ∷ zs) (later n h) a = first_none zs h (All-tail IsNone z zs a)

  pub first_left : {x : X} {xs : List X} (ys : List X) → IsFirstOf P x xs → IsFirstOf P x (xs ++ ys)
  first_left ys (here h) = here h
  first_left ys (later n h) = later n (first_left ys h)

  pub first_right : {x : X} (xs : List X) {ys : List X} → All IsNone xs → IsFirstOf P x ys → IsFirstOf P x (xs ++ ys)
  first_right [] a h = h
  first_right (y ∷ xs) a h = later (All-head IsNone y xs a) (first_right xs (All-tail IsNone y xs a) h)

-- ---- the first fault

one_branch : (f : File) (p q : Place) (x y : NameId) → IsBranchFault f p x → IsBranchFault f q y → (p ≡ q) × (x ≡ y)
one_branch f p q x y h g =
    let e = first_one (HasClash f) (sites_of f) h.first g.first in
    (sym h.place_is ∙ ap (λ (s : Site). s.place) e ∙ g.place_is, sym h.who_is ∙ ap (λ (s : Site). s.process) e ∙ g.who_is)

one_service : (f : File) (p q : Place) (x y : NameId) → IsServiceFault f p x → IsServiceFault f q y → (p ≡ q) × (x ≡ y)
one_service f p q x y h g =
    let e = first_one (HasServiceClash f) (services_of f) h.first g.first in
    (sym h.place_is ∙ ap (λ (s : Written × Written). s.0.place) e ∙ g.place_is, sym h.who_is ∙ ap (λ (s : Written × Written). s.1.name) e ∙ g.who_is)

pub one_fault : (f : File) (r s : Rule) (p q : Place) (x y : NameId) → IsFirstMergeFault f r p x → IsFirstMergeFault f s q y → (r ≡ s) × (p ≡ q) × (x ≡ y)
one_fault f r s p q x y (branches e h) (branches d g) = let b = one_branch f p q x y h g in (e ∙ sym d, b.0, b.1)
one_fault f r s p q x y (branches e h) (starts d g) = absurd (first_none (HasClash f) (sites_of f) h.first g.branches)
one_fault f r s p q x y (starts e h) (branches d g) = absurd (first_none (HasClash f) (sites_of f) g.first h.branches)
one_fault f r s p q x y (starts e h) (starts d g) = let b = one_service f p q x y h g in (e ∙ sym d, b.0, b.1)
