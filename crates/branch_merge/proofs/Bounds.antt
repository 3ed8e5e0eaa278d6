-- The least bound of two codes, form by form.
use Rattle.std.proofs.Common.{◌≡◌, Bool, false, refl, ap, ◌∙◌, sym, subst, ◌==◌, ◌||◌, [], ◌∷◌}
use Rattle.std.proofs.lemmas.List.Elements.{All-nil, All-cons, All-head, All-tail}
use Rattle.chor_base.specs.declared.names.NameId.{NameId}
use Rattle.chor_base.specs.Expr.{Term}
use Rattle.endpoint_code.specs.Trees.{Action, CodeTree, Does, Offers, Tests, Arms, NoArms, Arm}
use Rattle.endpoint_code.specs.Above.{IsAbove, does, offers, tests, AreAbove, no_arm, one_arm, HasAbove, first, later}
use Rattle.endpoint_code.specs.Labels.{has_label, HasDistinctLabels, AreDistinctArms, ArmIsIn, here, there}
use Rattle.endpoint_code.specs.LeastAbove.{IsLeastAbove, HasNoneAbove}
use Rattle.endpoint_code.proofs.AboveOrder.{above_self, more_above, has_there, one_more, one_less, neither, found, apart, label_kept, does_rest, offers_arms, tests_both, its_arm, same}
use Rattle.endpoint_code.proofs.Decides.{tree_head, above_head}
use Rattle.branch_merge.specs.Bounds.{IsBound, IsLeast, HasNone, AreBound, AreLeast, HaveNone}
use Rattle.branch_merge.specs.Merging.{IsTaken, alone, paired, IsStuck}

-- ---- codes

pub least_self : (a : CodeTree) → HasDistinctLabels a → IsLeast a a a
least_self a d = record { bound = record { distinct = d; left = above_self a; right = above_self a }; least = λ r b. b.left }

pub apart_heads : {a b : CodeTree} → (tree_head a ≡ tree_head b → ⊥) → HasNone a b
apart_heads n = record { none = λ r b. n (sym (above_head b.left) ∙ above_head b.right) }

-- what is above two actions is that action, and goes on as something above what follows both
does_under : {x : Action} {a b q : CodeTree} (r : CodeTree) → HasDistinctLabels r → IsAbove r (Does x a) → IsAbove r (Does x b)
    → ((s : CodeTree) → IsBound a b s → IsAbove s q) → IsAbove r (Does x q)
does_under r d (does l) m f = does (f _ (record { distinct = d; left = l; right = does_rest m }))

pub least_does : {x : Action} {a b q : CodeTree} → IsLeast a b q → IsLeast (Does x a) (Does x b) (Does x q)
least_does l = record {
  bound = record { distinct = l.bound.distinct; left = does l.bound.left; right = does l.bound.right };
  least = λ r b. does_under r b.distinct b.left b.right l.least;
}

does_none : {x : Action} {a b : CodeTree} (r : CodeTree) → HasDistinctLabels r → IsAbove r (Does x a) → IsAbove r (Does x b) → HasNone a b → ⊥
does_none r d (does l) m n = n.none _ (record { distinct = d; left = l; right = does_rest m })

pub none_does : {x : Action} {a b : CodeTree} → HasNone a b → HasNone (Does x a) (Does x b)
none_does n = record { none = λ r b. does_none r b.distinct b.left b.right n }

-- conditionals
tests_under : {e : Term} {a b q a' b' q' : CodeTree} (r : CodeTree) → HasDistinctLabels r → IsAbove r (Tests e a a') → IsAbove r (Tests e b b')
    → ((s : CodeTree) → IsBound a b s → IsAbove s q) → ((s : CodeTree) → IsBound a' b' s → IsAbove s q') → IsAbove r (Tests e q q')
tests_under r d (tests l l') m f g =
    let n = tests_both m in tests (f _ (record { distinct = d.0; left = l; right = n.0 })) (g _ (record { distinct = d.1; left = l'; right = n.1 }))

pub least_tests : {e : Term} {a b q a' b' q' : CodeTree} → IsLeast a b q → IsLeast a' b' q' → IsLeast (Tests e a a') (Tests e b b') (Tests e q q')
least_tests l k = record {
  bound = record { distinct = (l.bound.distinct, k.bound.distinct); left = tests l.bound.left k.bound.left; right = tests l.bound.right k.bound.right };
  least = λ r b. tests_under r b.distinct b.left b.right l.least k.least;
}

tests_bounds : {e : Term} {a b a' b' : CodeTree} (r : CodeTree) → HasDistinctLabels r → IsAbove r (Tests e a a') → IsAbove r (Tests e b b')
    → (s : CodeTree) × (s' : CodeTree) × IsBound a b s × IsBound a' b' s'
tests_bounds r d (tests l l') m =
    let n = tests_both m in (_, _, record { distinct = d.0; left = l; right = n.0 }, record { distinct = d.1; left = l'; right = n.1 })

pub none_first : {e : Term} {a b a' b' : CodeTree} → HasNone a b → HasNone (Tests e a a') (Tests e b b')
none_first n = record { none = λ r b. let t = tests_bounds r b.distinct b.left b.right in n.none t.0 t.2 }

pub none_second : {e : Term} {a b a' b' : CodeTree} → HasNone a' b' → HasNone (Tests e a a') (Tests e b b')
none_second n = record { none = λ r b. let t = tests_bounds r b.distinct b.left b.right in n.none t.1 t.3 }

-- ---- arms

offers_under : {k a : NameId} {qs ps rs : Arms} (r : CodeTree) → HasDistinctLabels r → IsAbove r (Offers k a qs) → IsAbove r (Offers k a ps)
    → ((us : Arms) → AreBound qs ps us → AreAbove us rs) → IsAbove r (Offers k a rs)
offers_under r d (offers l) m f = offers (f _ (record { distinct = d; left = l; right = offers_arms m }))

pub least_offers : {k a : NameId} {qs ps rs : Arms} → AreLeast qs ps rs → IsLeast (Offers k a qs) (Offers k a ps) (Offers k a rs)
least_offers l = record {
  bound = record { distinct = l.bound.distinct; left = offers l.bound.left; right = offers l.bound.right };
  least = λ r b. offers_under r b.distinct b.left b.right l.least;
}

offers_none : {k a : NameId} {qs ps : Arms} (r : CodeTree) → HasDistinctLabels r → IsAbove r (Offers k a qs) → IsAbove r (Offers k a ps) → HaveNone qs ps → ⊥
offers_none r d (offers l) m n = n.none _ (record { distinct = d; left = l; right = offers_arms m })

pub none_offers : {k a : NameId} {qs ps : Arms} → HaveNone qs ps → HasNone (Offers k a qs) (Offers k a ps)
none_offers n = record { none = λ r b. offers_none r b.distinct b.left b.right n }

-- the arms that are left over
pub least_rest : (ps : Arms) → AreDistinctArms ps → AreLeast NoArms ps ps
least_rest ps d = record {
  bound = record { distinct = d; left = no_arm; right = above_arms ps };
  least = λ us b. b.right;
  labels = λ l n m. m;
}
  where
    above_arms : (ps : Arms) → AreAbove ps ps
    above_arms ps = offers_arms (above_self (Offers (record { 0 = 0 }) (record { 0 = 0 }) ps))

both : (a b : Bool) → a ≡ false → b ≡ false → (a || b) ≡ false
both a b e f = ap (λ t. t || b) e ∙ f

arms_first : {us qs : Arms} {l : NameId} {q : CodeTree} → AreAbove us (Arm l q qs) → HasAbove us l q × AreAbove us qs
arms_first (one_arm h a) = (h, a)

label_there : {l : NameId} {c : CodeTree} {others us : Arms} → ArmIsIn l c others us → has_label l us ≡ false → ⊥
label_there {l = l} (here {rest = r}) n = same l.0 (neither (l.0 == l.0) (has_label l r) n).0
label_there {l = l} (there {k = j} {arms = us} i) n = label_there i (neither (l.0 == j.0) (has_label l us) n).1

-- an arm with this label but not in the first place
later_arm : {l k : NameId} {p d : CodeTree} {us : Arms} → (has_label k us ≡ false → ⊥) → has_label l us ≡ false → HasAbove (Arm l d us) k p → HasAbove us k p
later_arm n m (first a) = absurd (n m)
later_arm n m (later g) = g

-- the code of the one arm of a label is above what an arm of this label is above
its_code : {l : NameId} {c p : CodeTree} {others us : Arms} → ArmIsIn l c others us → AreDistinctArms us → HasAbove us l p → IsAbove c p
its_code here d h = its_arm d.0 h
its_code (there i) d h = its_code i d.2 (later_arm (label_there i) d.0 h)

-- one more arm, whose label isn't among the others
pub least_alone : {l : NameId} {q : CodeTree} {qs ps rs : Arms} → AreDistinctArms (Arm l q qs) → has_label l ps ≡ false → AreLeast qs ps rs → AreLeast (Arm l q qs) ps (Arm l q rs)
least_alone {l = l} {q = q} {qs = qs} {ps = ps} {rs = rs} d n a = record {
  bound = record {
    distinct = (a.labels l d.0 n, d.1, a.bound.distinct);
    left = one_arm (first (above_self q)) (more_above a.bound.left);
    right = more_above a.bound.right;
  };
  least = λ us b. let f = arms_first b.left in one_arm f.0 (a.least us (record { distinct = b.distinct; left = f.1; right = b.right }));
  labels = λ m i j. let f = neither (m.0 == l.0) (has_label m qs) i in both (m.0 == l.0) (has_label m rs) f.0 (a.labels m f.1 j);
}

pub none_alone : {l : NameId} {q : CodeTree} {qs ps : Arms} → HaveNone qs ps → HaveNone (Arm l q qs) ps
none_alone n = record { none = λ us b. n.none us (record { distinct = b.distinct; left = (arms_first b.left).1; right = b.right }) }

-- one more arm, whose label is among the others
module _ {l : NameId} {q p : CodeTree} {qs ps others : Arms} (d : AreDistinctArms (Arm l q qs)) (e : AreDistinctArms ps) (i : ArmIsIn l p others ps) where
  pub least_paired : {m : CodeTree} {rs : Arms} → IsLeast q p m → AreLeast qs others rs → AreLeast (Arm l q qs) ps (Arm l m rs)
  least_paired {m = m} {rs = rs} k a =
      let s = apart i e in
      record {
        bound = record {
          distinct = (a.labels l d.0 s.label, k.bound.distinct, a.bound.distinct);
          left = one_arm (first k.bound.left) (more_above a.bound.left);
          right = one_more i (first k.bound.right) (more_above a.bound.right);
        };
        least = λ us b.
            let f = arms_first b.left in
            let g = one_less i b.right in
            let h = found f.0 in
            let c = its_code h.at b.distinct g.0 in
            let t = apart h.at b.distinct in
            one_arm (has_there h.at (k.least h.code (record { distinct = t.code; left = h.above; right = c })))
            (a.least us (record { distinct = b.distinct; left = f.1; right = g.1 }));
        labels = λ x j k'.
            let f = neither (x.0 == l.0) (has_label x qs) j in
            both (x.0 == l.0) (has_label x rs) f.0 (a.labels x f.1 (label_kept x i k').1);
      }

  pub none_paired : HaveNone qs others → HaveNone (Arm l q qs) ps
  none_paired n = record { none = λ us b. n.none us (record { distinct = b.distinct; left = (arms_first b.left).1; right = (one_less i b.right).1 }) }

  pub none_here : HasNone q p → HaveNone (Arm l q qs) ps
  none_here n = record {
    none = λ us b.
        let h = found (arms_first b.left).0 in
        n.none h.code (record { distinct = (apart h.at b.distinct).code; left = h.above; right = its_code h.at b.distinct (one_less i b.right).0 });
  }

-- ---- arm by arm

abbrev pub followed_by : Arms → Arms → Arms
followed_by NoArms us = us
followed_by (Arm l c rs) us = Arm l c (followed_by rs us)

pub followed_more : (rs : Arms) (l : NameId) (c : CodeTree) (us : Arms) → followed_by (followed_by rs (Arm l c NoArms)) us ≡ followed_by rs (Arm l c us)
followed_more NoArms l c us = refl
followed_more (Arm k d rs) l c us = ap (Arm k d) (followed_more rs l c us)

-- the arms made so far, before those that are least above what is left of both, are least above both
pub record AreJoining (qs ps left rest made : Arms) : Type 0 where
  pub left_distinct : AreDistinctArms left
  pub rest_distinct : AreDistinctArms rest
  pub least : (us : Arms) → AreLeast left rest us → AreLeast qs ps (followed_by made us)
  pub none : HaveNone left rest → HaveNone qs ps

pub joining_first : (qs ps : Arms) → AreDistinctArms qs → AreDistinctArms ps → AreJoining qs ps qs ps NoArms
joining_first qs ps d e = record { left_distinct = d; rest_distinct = e; least = λ us a. a; none = λ n. n }

pub joining_more : {qs ps left rest rest' made : Arms} {l : NameId} {q m : CodeTree} → AreJoining qs ps (Arm l q left) rest made → IsTaken l q m rest rest' → AreJoining qs ps left rest' (followed_by made (Arm l m NoArms))
joining_more {qs = qs} {ps = ps} {left = left} {rest = rest} {made = made} {l = l} {q = q} j (alone n e) =
    subst (λ (c : CodeTree). AreJoining qs ps left rest (followed_by made (Arm l c NoArms))) (sym e) (record {
      left_distinct = j.left_distinct.2;
      rest_distinct = j.rest_distinct;
      least = λ us a. subst (AreLeast qs ps) (sym (followed_more made l q us)) (j.least (Arm l q us) (least_alone j.left_distinct n a));
      none = λ a. j.none (none_alone a);
    })
joining_more {qs = qs} {ps = ps} {left = left} {made = made} {l = l} {m = m} j (paired i k) = record {
  left_distinct = j.left_distinct.2;
  rest_distinct = (apart i j.rest_distinct).rest;
  least = λ us a. subst (AreLeast qs ps) (sym (followed_more made l m us)) (j.least (Arm l m us) (least_paired j.left_distinct j.rest_distinct i k a));
  none = λ a. j.none (none_paired j.left_distinct j.rest_distinct i a);
}

-- no arm goes on
pub joining_stuck : {qs ps left rest made : Arms} {l : NameId} {q : CodeTree} → AreJoining qs ps (Arm l q left) rest made → IsStuck l q rest → HaveNone qs ps
joining_stuck j h = j.none (none_here j.left_distinct j.rest_distinct h.at h.none)

pub joining_last : {qs ps rest made : Arms} → AreJoining qs ps NoArms rest made → AreLeast qs ps (followed_by made rest)
joining_last {rest = rest} j = j.least rest (least_rest rest j.rest_distinct)

-- ---- two codes as a list

pub least_of_two : {a b q : CodeTree} → IsLeast a b q → IsLeastAbove (a ∷ b ∷ []) q
least_of_two {a = a} {b = b} {q = q} l = record {
  distinct = l.bound.distinct;
  above = All-cons (IsAbove q) a (b ∷ []) l.bound.left (All-cons (IsAbove q) b [] l.bound.right (All-nil (IsAbove q)));
  least = λ r d h. l.least r (record { distinct = d; left = All-head (IsAbove r) a (b ∷ []) h; right = All-head (IsAbove r) b [] (All-tail (IsAbove r) a (b ∷ []) h) });
}

pub two_of_least : {a b q : CodeTree} → IsLeastAbove (a ∷ b ∷ []) q → IsLeast a b q
two_of_least {a = a} {b = b} {q = q} l = record {
  bound = record { distinct = l.distinct; left = All-head (IsAbove q) a (b ∷ []) l.above; right = All-head (IsAbove q) b [] (All-tail (IsAbove q) a (b ∷ []) l.above) };
  least = λ r n. l.least r n.distinct (All-cons (IsAbove r) a (b ∷ []) n.left (All-cons (IsAbove r) b [] n.right (All-nil (IsAbove r))));
}

pub none_of_two : {a b : CodeTree} → HasNone a b → HasNoneAbove (a ∷ b ∷ [])
none_of_two {a = a} {b = b} n = λ r d h. n.none r (record { distinct = d; left = All-head (IsAbove r) a (b ∷ []) h; right = All-head (IsAbove r) b [] (All-tail (IsAbove r) a (b ∷ []) h) })

pub two_of_none : {a b : CodeTree} → HasNoneAbove (a ∷ b ∷ []) → HasNone a b
two_of_none {a = a} {b = b} n = record { none = λ r d. n r d.distinct (All-cons (IsAbove r) a (b ∷ []) d.left (All-cons (IsAbove r) b [] d.right (All-nil (IsAbove r)))) }
