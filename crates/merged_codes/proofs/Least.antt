-- The least code above some is made of them by merging.
use Rattle.std.proofs.Common.{◌≡◌, List, [], ◌∷◌, refl, Bool, true, false, ◌==◌, ◌||◌, subst}
use Rattle.std.specs.Prelude.{All}
use Rattle.std.specs.List.{AllByRecursion}
use Rattle.std.proofs.lemmas.List.Elements.{All-nil, All-cons, All-head, All-tail}
use Rattle.chor_base.specs.declared.names.NameId.{NameId}
use Rattle.chor_base.specs.Expr.{Term}
use Rattle.endpoint_code.specs.Above.{IsAbove, does, offers, tests, calls, ends, AreAbove, one_arm, HasAbove, first, later}
use Rattle.endpoint_code.specs.Labels.{has_label, HasDistinctLabels, AreDistinctArms, ArmIsIn, here, there}
use Rattle.endpoint_code.specs.LeastAbove.{IsLeastAbove}
use Rattle.endpoint_code.specs.Trees.{Action, CodeTree, Does, Offers, Tests, Calls, Ends, Arms, NoArms, Arm}
use Rattle.endpoint_code.proofs.AboveOrder.{above_self, above_trans, above_antisym, has_there, one_less, found, apart, absent, its_arm}
use Rattle.endpoint_code.proofs.Decides.{name_same}
use Rattle.branch_merge.specs.Bounds.{IsLeast, AreLeast}
use Rattle.branch_merge.proofs.Bounds.{least_self, least_does, least_tests, least_offers, least_rest, least_alone, least_paired}
use Rattle.merged_codes.specs.Merges.{IsMerge, both_do, both_offer, both_test, both_call, both_end, AreMergedArms, left_over, alone, in_both, IsMergeOf, no_other, one_other, IsMadeOf}

-- ---- an arm of a label

record Place (l : NameId) (arms : Arms) : Type 0 where
  code : CodeTree
  others : Arms
  at : ArmIsIn l code others arms

placed : (l : NameId) (arms : Arms) → has_label l arms ≡ true → Place l arms
placed l NoArms h = absurd cc
placed l (Arm k c rest) h = go (l.0 == k.0) refl h (placed l rest)
  where
    go : (b : Bool) → (l.0 == k.0) ≡ b → (b || has_label l rest) ≡ true → (has_label l rest ≡ true → Place l rest) → Place l (Arm k c rest)
    go true i j ih = let same : l ≡ k = name_same l k refl i in subst (λ m. Place l (Arm m c rest)) same (record { code = c; others = rest; at = here })
    go false i j ih = let w = ih j in record { code = w.code; others = Arm k c w.others; at = there w.at }

-- the code of the one arm of a label is above what an arm of this label is above
its_code : {l : NameId} {c p : CodeTree} {others us : Arms} → ArmIsIn l c others us → AreDistinctArms us → HasAbove us l p → IsAbove c p
its_code here d h = its_arm d.0 h
its_code (there i) d (first a) = absurd (absent d.0 (has_there i (above_self _)))
its_code (there i) d (later h) = its_code i d.2 h

-- ---- two codes

record Least (c d : CodeTree) : Type 0 where
  code : CodeTree
  least : IsLeast c d code
  merge : IsMerge c d code

record LeastArms (cs ds : Arms) : Type 0 where
  arms : Arms
  least : AreLeast cs ds arms
  merge : AreMergedArms cs ds arms

under_does : {q c d : CodeTree} (a : Action) → IsAbove (Does a q) d → HasDistinctLabels d → ((p : CodeTree) → IsAbove q p → HasDistinctLabels p → Least c p) → Least (Does a c) d
under_does a (does y) d more = let w = more _ y d in record { code = Does a w.code; least = least_does w.least; merge = both_do w.merge }

under_offers : {rs cs : Arms} {d : CodeTree} (k a : NameId) → IsAbove (Offers k a rs) d → HasDistinctLabels d → ((ds : Arms) → AreAbove rs ds → AreDistinctArms ds → LeastArms cs ds) → Least (Offers k a cs) d
under_offers k a (offers y) d more = let w = more _ y d in record { code = Offers k a w.arms; least = least_offers w.least; merge = both_offer w.merge }

under_tests : {q r c c' d : CodeTree} (v : Term) → IsAbove (Tests v q r) d → HasDistinctLabels d
    → ((p : CodeTree) → IsAbove q p → HasDistinctLabels p → Least c p) → ((p : CodeTree) → IsAbove r p → HasDistinctLabels p → Least c' p) → Least (Tests v c c') d
under_tests v (tests y z) d one other =
    let w = one _ y d.0 in let u = other _ z d.1 in record { code = Tests v w.code u.code; least = least_tests w.least u.least; merge = both_test w.merge u.merge }

same_call : {d : CodeTree} {f p : NameId} {ss : List NameId} → IsAbove (Calls f p ss) d → Least (Calls f p ss) d
same_call {f = f} {p = p} {ss = ss} calls = record { code = Calls f p ss; least = least_self (Calls f p ss) tt; merge = both_call }

same_end : {d : CodeTree} → IsAbove Ends d → Least Ends d
same_end ends = record { code = Ends; least = least_self Ends tt; merge = both_end }

one_more : {l : NameId} {c : CodeTree} {cs ds rs : Arms} → AreDistinctArms (Arm l c cs) → AreDistinctArms ds → AreDistinctArms rs → HasAbove rs l c → AreAbove rs ds
    → ((d r : CodeTree) → IsAbove r c → IsAbove r d → HasDistinctLabels d → HasDistinctLabels r → Least c d)
    → ((others : Arms) → AreAbove rs others → AreDistinctArms others → LeastArms cs others) → LeastArms (Arm l c cs) ds
one_more {l = l} {c = c} {cs = cs} {ds = ds} {rs = rs} dc dd dr h y one rest = go (has_label l ds) refl
  where
    go : (b : Bool) → has_label l ds ≡ b → LeastArms (Arm l c cs) ds
    go false i = let w = rest ds y dd in record { arms = Arm l c w.arms; least = least_alone dc i w.least; merge = alone i w.merge }
    go true i =
        let p = placed l ds i in
        let f = found h in
        let g = one_less p.at y in
        let a = apart p.at dd in
        let b = one p.code f.code f.above (its_code f.at dr g.0) a.code (apart f.at dr).code in
        let w = rest p.others g.1 a.rest in
        record { arms = Arm l b.code w.arms; least = least_paired dc dd p.at b.least w.least; merge = in_both p.at b.merge w.merge }

mutual
  least_there : (c : CodeTree) {d r : CodeTree} → IsAbove r c → IsAbove r d → HasDistinctLabels c → HasDistinctLabels d → HasDistinctLabels r → Least c d
  least_there (Does a c) (does x) y dc dd dr = under_does a y dd (λ p z dp. least_there c x z dc dp dr)
  least_there (Offers k a cs) (offers x) y dc dd dr = under_offers k a y dd (λ ds z de. arms_there cs x z dc de dr)
  least_there (Tests v c c') (tests x x') y dc dd dr = under_tests v y dd (λ p z dp. least_there c x z dc.0 dp dr.0) (λ p z dp. least_there c' x' z dc.1 dp dr.1)
  least_there (Calls f p ss) calls y dc dd dr = same_call y
  least_there Ends ends y dc dd dr = same_end y

  arms_there : (cs : Arms) {ds rs : Arms} → AreAbove rs cs → AreAbove rs ds → AreDistinctArms cs → AreDistinctArms ds → AreDistinctArms rs → LeastArms cs ds
  arms_there NoArms {ds = ds} x y dc dd dr = record { arms = ds; least = least_rest ds dd; merge = left_over }
  arms_there (Arm l c cs) (one_arm h x) y dc dd dr = one_more dc dd dr h y (λ d r i j k m. least_there c i j dc.1 k m) (λ others z de. arms_there cs x z dc.2 de dr)

-- ---- a list of codes

-- a merge of m and all of these, which is above them and below q
record Over (q m : CodeTree) (cs : List CodeTree) : Type 0 where
  code : CodeTree
  distinct : HasDistinctLabels code
  first : IsAbove code m
  rest : All (IsAbove code) cs
  below : IsAbove q code
  merge : IsMergeOf m cs code

over : (q m : CodeTree) (cs : List CodeTree) → HasDistinctLabels q → HasDistinctLabels m → IsAbove q m → AllByRecursion HasDistinctLabels cs → All (IsAbove q) cs → Over q m cs
over q m [] d w b s a = record { code = m; distinct = w; first = above_self m; rest = All-nil (IsAbove m); below = b; merge = no_other }
over q m (c ∷ cs) d w b s a =
    let h = All-head (IsAbove q) c cs a in
    let k = least_there m b h w s.0 d in
    let o = over q k.code cs d k.least.bound.distinct (k.least.least q (record { distinct = d; left = b; right = h })) s.1 (All-tail (IsAbove q) c cs a) in
    record {
      code = o.code;
      distinct = o.distinct;
      first = above_trans o.first k.least.bound.left;
      rest = All-cons (IsAbove o.code) c cs (above_trans o.first k.least.bound.right) o.rest;
      below = o.below;
      merge = one_other k.merge o.merge;
    }

-- The least code above some is made of them by merging
pub least_made : (c : CodeTree) (cs : List CodeTree) (q : CodeTree) → AllByRecursion HasDistinctLabels (c ∷ cs) → IsLeastAbove (c ∷ cs) q → IsMadeOf c cs q
least_made c cs q s l =
    let o = over q c cs l.distinct s.0 (All-head (IsAbove q) c cs l.above) s.1 (All-tail (IsAbove q) c cs l.above) in
    record { code = o.code; merge = o.merge; same = above_antisym q l.distinct o.distinct o.below (l.least o.code o.distinct (All-cons (IsAbove o.code) c cs o.first o.rest)) }
