-- The least code above some that use their session names well uses its own well.
use Rattle.std.proofs.Common.{◌≡◌, List, [], ◌∷◌, refl, Bool, true, false, ◌==◌, ◌||◌, subst}
use Rattle.std.specs.Prelude.{All}
use Rattle.std.specs.List.{AllByRecursion}
use Rattle.std.proofs.lemmas.List.Elements.{All-nil, All-cons, All-head, All-tail}
use Rattle.chor_base.specs.declared.names.NameId.{NameId}
use Rattle.chor_base.specs.Expr.{Term}
use Rattle.endpoint_code.specs.declared.endpoints.Endpoints.{Endpoints}
use Rattle.endpoint_code.specs.Above.{IsAbove, does, offers, tests, calls, ends, AreAbove, no_arm, one_arm, HasAbove, first, later}
use Rattle.endpoint_code.specs.Labels.{has_label, HasDistinctLabels, AreDistinctArms, ArmIsIn, here, there}
use Rattle.endpoint_code.specs.LeastAbove.{IsLeastAbove}
use Rattle.endpoint_code.specs.Faults.{is_among}
use Rattle.endpoint_code.specs.Trees.{Action, CodeTree, Does, Offers, Tests, Calls, Ends, Arms, NoArms, Arm}
use Rattle.endpoint_code.proofs.AboveOrder.{above_self, above_trans, has_there, one_less, found, apart, absent, its_arm}
use Rattle.endpoint_code.proofs.Decides.{name_same}
use Rattle.branch_merge.specs.Bounds.{IsLeast, AreLeast}
use Rattle.branch_merge.proofs.Bounds.{least_self, least_does, least_tests, least_offers, least_rest, least_alone, least_paired}
use Rattle.merged_codes.specs.Scoped.{bound_after, IsScopedAction, IsScopedCall, IsScopedTree, AreScopedArms, IsScopedCode}

module _ (e : Endpoints) where
  -- ---- a code with fewer labels

  mutual
    pub scoped_below : {q p : CodeTree} (bs : List NameId) → IsAbove q p → IsScopedTree e q bs → IsScopedTree e p bs
    scoped_below bs (does {a = a} b) s = (s.0, scoped_below (bound_after a bs) b s.1)
    scoped_below bs (offers a) s = (s.0, arms_below bs a s.1)
    scoped_below bs (tests a b) s = (scoped_below bs a s.0, scoped_below bs b s.1)
    scoped_below bs calls s = s
    scoped_below bs ends s = s

    arms_below : {qs ps : Arms} (bs : List NameId) → AreAbove qs ps → AreScopedArms e qs bs → AreScopedArms e ps bs
    arms_below bs no_arm s = tt
    arms_below bs (one_arm h a) s = (arm_below bs h s, arms_below bs a s)

    arm_below : {qs : Arms} {l : NameId} {p : CodeTree} (bs : List NameId) → HasAbove qs l p → AreScopedArms e qs bs → IsScopedTree e p bs
    arm_below bs (first a) s = scoped_below bs a s.0
    arm_below bs (later h) s = arm_below bs h s.1

  -- ---- two codes

  arm_scoped : {l : NameId} {c : CodeTree} {others arms : Arms} (bs : List NameId) → ArmIsIn l c others arms → AreScopedArms e arms bs → IsScopedTree e c bs × AreScopedArms e others bs
  arm_scoped bs here s = s
  arm_scoped bs (there i) s = let w = arm_scoped bs i s.1 in (w.0, (s.0, w.1))

  record Place (l : NameId) (arms : Arms) : Type 0 where
    code : CodeTree
    others : Arms
    at : ArmIsIn l code others arms

  placed : (l : NameId) (arms : Arms) → has_label l arms ≡ true → Place l arms
  placed l NoArms h = absurd cc
  placed l (Arm k c rest) h = go (l.0 == k.0) refl h (placed l rest)
    where
      go : (b : Bool) → (l.0 == k.0) ≡ b → (b || has_label l rest) ≡ true → (has_label l rest ≡ true → Place l rest) → Place l (Arm k c rest)
      go true i j ih = let same : l ≡ k = name_same l k refl i in subst (λ m. Place l (Arm m c rest)) same (record { code = c; others = rest; at = here })
      go false i j ih = let w = ih j in record { code = w.code; others = Arm k c w.others; at = there w.at }

  record Least (bs : List NameId) (c d : CodeTree) : Type 0 where
    code : CodeTree
    least : IsLeast c d code
    scoped : IsScopedTree e code bs

  record LeastArms (bs : List NameId) (cs ds : Arms) : Type 0 where
    arms : Arms
    least : AreLeast cs ds arms
    scoped : AreScopedArms e arms bs

  -- the code of the one arm of a label is above what an arm of this label is above
  its_code : {l : NameId} {c p : CodeTree} {others us : Arms} → ArmIsIn l c others us → AreDistinctArms us → HasAbove us l p → IsAbove c p
  its_code here d h = its_arm d.0 h
  its_code (there i) d (first a) = absurd (absent d.0 (has_there i (above_self _)))
  its_code (there i) d (later h) = its_code i d.2 h

  under_does : {q c d : CodeTree} (a : Action) (bs : List NameId) → IsScopedAction e a bs → IsAbove (Does a q) d → HasDistinctLabels d → IsScopedTree e d bs
      → ((p : CodeTree) → IsAbove q p → HasDistinctLabels p → IsScopedTree e p (bound_after a bs) → Least (bound_after a bs) c p) → Least bs (Does a c) d
  under_does a bs s (does y) d t more = let w = more _ y d t.1 in record { code = Does a w.code; least = least_does w.least; scoped = (s, w.scoped) }

  under_offers : {rs cs : Arms} {d : CodeTree} (k a : NameId) (bs : List NameId) → is_among k bs ≡ true → IsAbove (Offers k a rs) d → HasDistinctLabels d → IsScopedTree e d bs
      → ((ds : Arms) → AreAbove rs ds → AreDistinctArms ds → AreScopedArms e ds bs → LeastArms bs cs ds) → Least bs (Offers k a cs) d
  under_offers k a bs s (offers y) d t more = let w = more _ y d t.1 in record { code = Offers k a w.arms; least = least_offers w.least; scoped = (s, w.scoped) }

  under_tests : {q r c c' d : CodeTree} (v : Term) (bs : List NameId) → IsAbove (Tests v q r) d → HasDistinctLabels d → IsScopedTree e d bs
      → ((p : CodeTree) → IsAbove q p → HasDistinctLabels p → IsScopedTree e p bs → Least bs c p) → ((p : CodeTree) → IsAbove r p → HasDistinctLabels p → IsScopedTree e p bs → Least bs c' p) → Least bs (Tests v c c') d
  under_tests v bs (tests y z) d t one other =
      let w = one _ y d.0 t.0 in let u = other _ z d.1 t.1 in record { code = Tests v w.code u.code; least = least_tests w.least u.least; scoped = (w.scoped, u.scoped) }

  same_call : {d : CodeTree} {f p : NameId} {ss : List NameId} (bs : List NameId) → IsAbove (Calls f p ss) d → IsScopedCall e f p ss bs → Least bs (Calls f p ss) d
  same_call {f = f} {p = p} {ss = ss} bs calls s = record { code = Calls f p ss; least = least_self (Calls f p ss) tt; scoped = s }

  same_end : {d : CodeTree} (bs : List NameId) → IsAbove Ends d → Least bs Ends d
  same_end bs ends = record { code = Ends; least = least_self Ends tt; scoped = tt }

  one_more : {l : NameId} {c : CodeTree} {cs ds rs : Arms} (bs : List NameId) → AreDistinctArms (Arm l c cs) → AreDistinctArms ds → AreDistinctArms rs → HasAbove rs l c → AreAbove rs ds → IsScopedTree e c bs → AreScopedArms e ds bs
      → ((d r : CodeTree) → IsAbove r c → IsAbove r d → HasDistinctLabels d → HasDistinctLabels r → IsScopedTree e d bs → Least bs c d)
      → ((others : Arms) → AreAbove rs others → AreDistinctArms others → AreScopedArms e others bs → LeastArms bs cs others) → LeastArms bs (Arm l c cs) ds
  one_more {l = l} {c = c} {cs = cs} {ds = ds} {rs = rs} bs dc dd dr h y s t one rest = go (has_label l ds) refl
    where
      go : (b : Bool) → has_label l ds ≡ b → LeastArms bs (Arm l c cs) ds
      go false i = let w = rest ds y dd t in record { arms = Arm l c w.arms; least = least_alone dc i w.least; scoped = (s, w.scoped) }
      go true i =
          let p = placed l ds i in
          let f = found h in
          let g = one_less p.at y in
          let a = apart p.at dd in
          let u = arm_scoped bs p.at t in
          let b = one p.code f.code f.above (its_code f.at dr g.0) a.code (apart f.at dr).code u.0 in
          let w = rest p.others g.1 a.rest u.1 in
          record { arms = Arm l b.code w.arms; least = least_paired dc dd p.at b.least w.least; scoped = (b.scoped, w.scoped) }

  mutual
    least_there : (c : CodeTree) {d r : CodeTree} (bs : List NameId) → IsAbove r c → IsAbove r d → HasDistinctLabels c → HasDistinctLabels d → HasDistinctLabels r → IsScopedTree e c bs → IsScopedTree e d bs → Least bs c d
    least_there (Does a c) bs (does x) y dc dd dr s t = under_does a bs s.0 y dd t (λ p z dp u. least_there c (bound_after a bs) x z dc dp dr s.1 u)
    least_there (Offers k a cs) bs (offers x) y dc dd dr s t = under_offers k a bs s.0 y dd t (λ ds z de u. arms_there cs bs x z dc de dr s.1 u)
    least_there (Tests v c c') bs (tests x x') y dc dd dr s t =
        under_tests v bs y dd t (λ p z dp u. least_there c bs x z dc.0 dp dr.0 s.0 u) (λ p z dp u. least_there c' bs x' z dc.1 dp dr.1 s.1 u)
    least_there (Calls f p ss) bs calls y dc dd dr s t = same_call bs y s
    least_there Ends bs ends y dc dd dr s t = same_end bs y

    arms_there : (cs : Arms) {ds rs : Arms} (bs : List NameId) → AreAbove rs cs → AreAbove rs ds → AreDistinctArms cs → AreDistinctArms ds → AreDistinctArms rs → AreScopedArms e cs bs → AreScopedArms e ds bs → LeastArms bs cs ds
    arms_there NoArms {ds = ds} bs x y dc dd dr s t = record { arms = ds; least = least_rest ds dd; scoped = t }
    arms_there (Arm l c cs) bs (one_arm h x) y dc dd dr s t =
        one_more bs dc dd dr h y s.0 t (λ d r i j k m u. least_there c bs i j dc.1 k m s.0 u) (λ others z de u. arms_there cs bs x z dc.2 de dr s.1 u)

  -- ---- a list of codes

  -- a code above m and above all of these, which uses its names well
  record Over (bs : List NameId) (m : CodeTree) (cs : List CodeTree) : Type 0 where
    code : CodeTree
    fine : IsScopedCode e bs code
    first : IsAbove code m
    rest : All (IsAbove code) cs

  over : (bs : List NameId) (q m : CodeTree) (cs : List CodeTree) → HasDistinctLabels q → IsScopedCode e bs m → IsAbove q m → AllByRecursion (IsScopedCode e bs) cs → All (IsAbove q) cs → Over bs m cs
  over bs q m [] d w b s a = record { code = m; fine = w; first = above_self m; rest = All-nil (IsAbove m) }
  over bs q m (c ∷ cs) d w b s a =
      let h = All-head (IsAbove q) c cs a in
      let k = least_there m bs b h w.distinct s.0.distinct d w.scoped s.0.scoped in
      let o = over bs q k.code cs d (record { distinct = k.least.bound.distinct; scoped = k.scoped }) (k.least.least q (record { distinct = d; left = b; right = h })) s.1 (All-tail (IsAbove q) c cs a) in
      record {
        code = o.code;
        fine = o.fine;
        first = above_trans o.first k.least.bound.left;
        rest = All-cons (IsAbove o.code) c cs (above_trans o.first k.least.bound.right) o.rest;
      }

  -- The least code above some that use their session names well uses its own well
  pub least_scoped : (bs : List NameId) (c : CodeTree) (cs : List CodeTree) (q : CodeTree) → AllByRecursion (IsScopedCode e bs) (c ∷ cs) → IsLeastAbove (c ∷ cs) q → IsScopedCode e bs q
  least_scoped bs c cs q s l =
      let o = over bs q c cs l.distinct s.0 (All-head (IsAbove q) c cs l.above) s.1 (All-tail (IsAbove q) c cs l.above) in
      record { distinct = l.distinct; scoped = scoped_below bs (l.least o.code o.fine.distinct (All-cons (IsAbove o.code) c cs o.first o.rest)) o.fine.scoped }
