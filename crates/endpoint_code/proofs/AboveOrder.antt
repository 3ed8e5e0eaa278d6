-- Above is an order up to the order of labels.
use Rattle.std.proofs.Common.{◌≡◌, Bool, true, false, refl, ap, ◌∙◌, ◌==◌, ◌||◌, arith, ℕ}
use Rattle.std.proofs.lemmas.Bool.Decides.{nat_tests}
use Rattle.chor_base.specs.declared.names.NameId.{NameId}
use Rattle.chor_base.specs.Expr.{Term}
use Rattle.endpoint_code.specs.Trees.{Action, CodeTree, Does, Offers, Tests, Calls, Ends, Arms, NoArms, Arm}
use Rattle.endpoint_code.specs.Above.{IsAbove, does, offers, tests, calls, ends, AreAbove, no_arm, one_arm, HasAbove, first, later}
use Rattle.endpoint_code.specs.Labels as labels
use Rattle.endpoint_code.specs.Labels.{has_label, HasDistinctLabels, AreDistinctArms, ArmIsIn, here, there, IsReordered, AreReordered}

-- ---- reflexive and transitive

-- one more arm above
pub more_above : {qs ps : Arms} {l : NameId} {c : CodeTree} → AreAbove qs ps → AreAbove (Arm l c qs) ps
more_above no_arm = no_arm
more_above (one_arm h r) = one_arm (later h) (more_above r)

mutual
  pub above_self : (q : CodeTree) → IsAbove q q
  above_self (Does a q) = does (above_self q)
  above_self (Offers k a arms) = offers (arms_self arms)
  above_self (Tests e q r) = tests (above_self q) (above_self r)
  above_self (Calls f p ss) = calls
  above_self Ends = ends

  pub arms_self : (arms : Arms) → AreAbove arms arms
  arms_self NoArms = no_arm
  arms_self (Arm l c arms) = one_arm (first (above_self c)) (more_above (arms_self arms))

-- an arm's code above another, where all that is above the one is above the other
pub has_more : {rs : Arms} {l : NameId} {q p : CodeTree} → HasAbove rs l q → ((r : CodeTree) → IsAbove r q → IsAbove r p) → HasAbove rs l p
has_more (first b) f = first (f _ b)
has_more (later g) f = later (has_more g f)

mutual
  pub above_trans : {r q p : CodeTree} → IsAbove r q → IsAbove q p → IsAbove r p
  above_trans (does b) (does a) = does (above_trans b a)
  above_trans (offers b) (offers a) = offers (arms_trans b a)
  above_trans (tests b b') (tests a a') = tests (above_trans b a) (above_trans b' a')
  above_trans calls calls = calls
  above_trans ends ends = ends

  pub arms_trans : {rs qs ps : Arms} → AreAbove rs qs → AreAbove qs ps → AreAbove rs ps
  arms_trans b no_arm = no_arm
  arms_trans b (one_arm h a) = one_arm (has_trans b h) (arms_trans b a)

  pub has_trans : {rs qs : Arms} {l : NameId} {p : CodeTree} → AreAbove rs qs → HasAbove qs l p → HasAbove rs l p
  has_trans no_arm h = elim h [ ]
  has_trans (one_arm g b) (first a) = has_more g (λ r c. above_trans c a)
  has_trans (one_arm g b) (later h) = has_trans b h

-- ---- one arm more, wherever it stands

pub has_within : {l k : NameId} {c p : CodeTree} {others qs : Arms} → ArmIsIn l c others qs → HasAbove others k p → HasAbove qs k p
has_within here h = later h
has_within (there i) (first a) = first a
has_within (there i) (later h) = later (has_within i h)

pub above_within : {l : NameId} {c : CodeTree} {others qs ps : Arms} → ArmIsIn l c others qs → AreAbove others ps → AreAbove qs ps
above_within i no_arm = no_arm
above_within i (one_arm h r) = one_arm (has_within i h) (above_within i r)

pub has_there : {l : NameId} {q p : CodeTree} {others qs : Arms} → ArmIsIn l q others qs → IsAbove q p → HasAbove qs l p
has_there here a = first a
has_there (there i) a = later (has_there i a)

pub one_more : {l : NameId} {p : CodeTree} {qs others ps : Arms} → ArmIsIn l p others ps → HasAbove qs l p → AreAbove qs others → AreAbove qs ps
one_more here h a = one_arm h a
one_more (there i) h (one_arm g a) = one_arm g (one_more i h a)

pub one_less : {l : NameId} {p : CodeTree} {qs others ps : Arms} → ArmIsIn l p others ps → AreAbove qs ps → HasAbove qs l p × AreAbove qs others
one_less here (one_arm h a) = (h, a)
one_less (there i) (one_arm g a) = let b = one_less i a in (b.0, one_arm g b.1)

-- ---- the order of labels doesn't count

mutual
  pub reordered_above : {q p : CodeTree} → IsReordered q p → IsAbove q p
  reordered_above (labels.does r) = does (reordered_above r)
  reordered_above (labels.offers r) = offers (arms_reordered_above r)
  reordered_above (labels.tests r r') = tests (reordered_above r) (reordered_above r')
  reordered_above labels.calls = calls
  reordered_above labels.ends = ends

  arms_reordered_above : {qs ps : Arms} → AreReordered qs ps → AreAbove qs ps
  arms_reordered_above labels.no_arm = no_arm
  arms_reordered_above (labels.one_arm i r rs) = one_more i (first (reordered_above r)) (more_above (arms_reordered_above rs))

mutual
  pub reordered_below : {q p : CodeTree} → IsReordered q p → IsAbove p q
  reordered_below (labels.does r) = does (reordered_below r)
  reordered_below (labels.offers r) = offers (arms_reordered_below r)
  reordered_below (labels.tests r r') = tests (reordered_below r) (reordered_below r')
  reordered_below labels.calls = calls
  reordered_below labels.ends = ends

  arms_reordered_below : {qs ps : Arms} → AreReordered qs ps → AreAbove ps qs
  arms_reordered_below labels.no_arm = no_arm
  arms_reordered_below (labels.one_arm i r rs) = one_arm (has_there i (reordered_below r)) (above_within i (arms_reordered_below rs))

-- ---- antisymmetric up to that order

-- a test of two that fails fails for both
pub neither : (a b : Bool) → (a || b) ≡ false → (a ≡ false) × (b ≡ false)
neither true b h = absurd cc
neither false b h = (refl, h)

pub same : (n : ℕ) → (n == n) ≡ false → ⊥
same n h = absurd (grind (arith, nat_tests))

module _ (l : NameId) where
  -- what stands above a code without this label doesn't use an arm with it
  pub has_elsewhere : {k : NameId} {c p : CodeTree} {others qs : Arms} → ArmIsIn l c others qs → (l.0 == k.0) ≡ false → HasAbove qs k p → HasAbove others k p
  has_elsewhere here n (first a) = absurd (same l.0 n)
  has_elsewhere here n (later h) = h
  has_elsewhere (there i) n (first a) = first a
  has_elsewhere (there i) n (later h) = later (has_elsewhere i n h)

  pub above_elsewhere : {c : CodeTree} {others qs : Arms} → ArmIsIn l c others qs → (ps : Arms) → has_label l ps ≡ false → AreAbove qs ps → AreAbove others ps
  above_elsewhere i NoArms n a = no_arm
  above_elsewhere i (Arm k p ps) n (one_arm h a) = let b = neither (l.0 == k.0) (has_label l ps) n in one_arm (has_elsewhere i b.0 h) (above_elsewhere i ps b.1 a)

-- where a label stands above a code
pub record Found (qs : Arms) (l : NameId) (p : CodeTree) : Type 0 where
  pub code : CodeTree
  pub others : Arms
  pub at : ArmIsIn l code others qs
  pub above : IsAbove code p

pub found : {qs : Arms} {l : NameId} {p : CodeTree} → HasAbove qs l p → Found qs l p
found (first a) = record { code = _; others = _; at = here; above = a }
found (later h) = let f = found h in record { code = f.code; others = _; at = there f.at; above = f.above }

pub record Apart (l : NameId) (c : CodeTree) (others : Arms) : Type 0 where
  pub label : has_label l others ≡ false
  pub code : HasDistinctLabels c
  pub rest : AreDistinctArms others

pub label_kept : (k : NameId) {l : NameId} {c : CodeTree} {others arms : Arms} → ArmIsIn l c others arms → has_label k arms ≡ false → ((k.0 == l.0) ≡ false) × (has_label k others ≡ false)
label_kept k {l = l} (here {rest = rest}) n = neither (k.0 == l.0) (has_label k rest) n
label_kept k (there {k = m} {rest = rest} {arms = arms} i) n =
    let b = neither (k.0 == m.0) (has_label k arms) n in
    let r = label_kept k i b.1 in
    (r.0, ap (λ t. t || has_label k rest) b.0 ∙ r.1)

pub flip : (m n : ℕ) → (m == n) ≡ false → (n == m) ≡ false
flip m n h = grind (arith, nat_tests)

pub apart : {l : NameId} {c : CodeTree} {others arms : Arms} → ArmIsIn l c others arms → AreDistinctArms arms → Apart l c others
apart here d = record { label = d.0; code = d.1; rest = d.2 }
apart {l = l} (there {k = k} {rest = rest} i) d =
    let b = apart i d.2 in
    let r = label_kept k i d.0 in
    record { label = ap (λ t. t || has_label l rest) (flip k.0 l.0 r.0) ∙ b.label; code = b.code; rest = (r.1, d.1, b.rest) }

-- what is above parts
pub does_rest : {a b : Action} {q p : CodeTree} → IsAbove (Does a q) (Does b p) → IsAbove q p
does_rest (does x) = x

pub offers_arms : {k h a b : NameId} {qs ps : Arms} → IsAbove (Offers k a qs) (Offers h b ps) → AreAbove qs ps
offers_arms (offers x) = x

pub tests_both : {e f : Term} {q q' p p' : CodeTree} → IsAbove (Tests e q q') (Tests f p p') → IsAbove q p × IsAbove q' p'
tests_both (tests x x') = (x, x')

-- no arm has a label that isn't there
pub absent : {l : NameId} {p : CodeTree} {qs : Arms} → has_label l qs ≡ false → HasAbove qs l p → ⊥
absent {l = l} n (first {qs = qs} a) = same l.0 (neither (l.0 == l.0) (has_label l qs) n).0
absent {l = l} n (later {k = k} {qs = qs} h) = absent (neither (l.0 == k.0) (has_label l qs) n).1 h

-- the one arm of a label
pub its_arm : {k l : NameId} {q p : CodeTree} {qs : Arms} → has_label l qs ≡ false → HasAbove (Arm k q qs) l p → IsAbove q p
its_arm n (first a) = a
its_arm n (later h) = absurd (absent n h)

mutual
  pub above_antisym : (q : CodeTree) {p : CodeTree} → HasDistinctLabels q → HasDistinctLabels p → IsAbove q p → IsAbove p q → IsReordered q p
  above_antisym (Does a q) d e (does x) y = labels.does (above_antisym q d e x (does_rest y))
  above_antisym (Offers k a qs) d e (offers x) y = labels.offers (arms_antisym qs _ d e x (offers_arms y))
  above_antisym (Tests f q r) d e (tests x x') y = labels.tests (above_antisym q d.0 e.0 x (tests_both y).0) (above_antisym r d.1 e.1 x' (tests_both y).1)
  above_antisym (Calls f p ss) d e calls y = labels.calls
  above_antisym Ends d e ends y = labels.ends

  arms_antisym : (qs ps : Arms) → AreDistinctArms qs → AreDistinctArms ps → AreAbove qs ps → AreAbove ps qs → AreReordered qs ps
  arms_antisym NoArms NoArms d e x y = labels.no_arm
  arms_antisym NoArms (Arm k p ps) d e (one_arm h x) y = elim h [ ]
  arms_antisym (Arm l q qs) ps d e x (one_arm h y) =
      let f = found h in
      let a = apart f.at e in
      let b = one_less f.at x in
      labels.one_arm f.at (above_antisym q d.1 a.code (its_arm d.0 b.0) f.above)
      (arms_antisym qs f.others d.2 a.rest (above_elsewhere l here f.others a.label b.1) (above_elsewhere l f.at qs d.0 y))
