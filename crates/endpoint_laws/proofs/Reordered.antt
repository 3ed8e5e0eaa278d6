-- Code that is the same in order is the same.
use Rattle.std.proofs.Common.{ℕ, Bool, true, false, List}
use Rattle.std.specs.Prelude.{if◌then◌else◌}
use Rattle.chor_base.specs.declared.names.NameId.{NameId}
use Rattle.chor_base.specs.Writing.{name_in}
use Rattle.endpoint_code.specs.Labels.{ArmIsIn, here, there}
use Rattle.endpoint_code.specs.Trees.{CodeTree, Does, Offers, Tests, Calls, Ends, Arms, NoArms, Arm}
use Rattle.endpoint_text.specs.Ascending.{is_before}
use Rattle.same_programs.specs.Codes.{SameCode, does, offers, tests, SameArms, one_arm}
use Rattle.endpoint_laws.specs.Ordered.{with_arm, in_order, arms_in_order}

-- two arms that are taken out, the other one first
record Swapped (l m : NameId) (c d : CodeTree) (less arms : Arms) : Type 0 where
  others : Arms
  first : ArmIsIn m d others arms
  second : ArmIsIn l c less others

swapped : {l m : NameId} {c d : CodeTree} {less others arms : Arms} → ArmIsIn l c others arms → ArmIsIn m d less others → Swapped l m c d less arms
swapped {l} {less = less} here k = record { others = Arm l _ less; first = there k; second = here }
swapped (there {arms = arms} i) here = record { others = arms; first = here; second = i }
swapped (there {k = k} {d = d} i) (there j) = let s = swapped i j in record { others = Arm k d s.others; first = there s.first; second = there s.second }

module _ (N : NameId → NameId → Type 0) (T : ℕ → ℕ → Type 0) (names : List (List ℕ)) where
  -- the arm that goes with one, and the others go with the others
  record Goes (l : NameId) (c : CodeTree) (arms ps : Arms) : Type 0 where
    label : NameId
    code : CodeTree
    others : Arms
    is_label : N l label
    is_code : SameCode N T c code
    is : ArmIsIn label code others ps
    rest : SameArms N T arms others

  goes_first : (l : NameId) (c : CodeTree) (arms : Arms) {ps : Arms} → SameArms N T (Arm l c arms) ps → Goes l c arms ps
  goes_first l c arms (one_arm {m = m} {p = p} {others = others} n s i r) = record { label = m; code = p; others = others; is_label = n; is_code = s; is = i; rest = r }

  goes_later : (l m : NameId) (c d : CodeTree) (rest ps : Arms) → ((qs : Arms) → SameArms N T (with_arm names l c rest) qs → Goes l c rest qs) → SameArms N T (Arm m d (with_arm names l c rest)) ps → Goes l c (Arm m d rest) ps
  goes_later l m c d rest ps go (one_arm n s i r) =
      let g = go _ r in
      let x = swapped i g.is in
      record { label = g.label; code = g.code; others = x.others; is_label = g.is_label; is_code = g.is_code; is = x.first; rest = one_arm n s x.second g.rest }

  goes : (l : NameId) (c : CodeTree) (arms : Arms) {ps : Arms} → SameArms N T (with_arm names l c arms) ps → Goes l c arms ps
  goes l c NoArms h = goes_first l c NoArms h
  goes l c (Arm m d rest) {ps} h = pick (is_before (name_in names m) (name_in names l)) h (λ qs k. goes l c rest k)
    where
      pick : (b : Bool) → SameArms N T (if b then Arm m d (with_arm names l c rest) else Arm l c (Arm m d rest)) ps → ((qs : Arms) → SameArms N T (with_arm names l c rest) qs → Goes l c rest qs) → Goes l c (Arm m d rest) ps
      pick true h go = goes_later l m c d rest ps go h
      pick false h go = goes_first l c (Arm m d rest) h

  mutual
    pub code_back : (c : CodeTree) {p : CodeTree} → SameCode N T (in_order names c) p → SameCode N T c p
    code_back (Does a rest) (does s r) = does s (code_back rest r)
    code_back (Offers k a arms) (offers n m r) = offers n m (arms_back arms r)
    code_back (Tests t first second) (tests s q r) = tests s (code_back first q) (code_back second r)
    code_back (Calls f x ss) h = h
    code_back Ends h = h

    arms_back : (arms : Arms) {ps : Arms} → SameArms N T (arms_in_order names arms) ps → SameArms N T arms ps
    arms_back NoArms h = h
    arms_back (Arm l c rest) h =
        let g = goes l (in_order names c) (arms_in_order names rest) h in
        one_arm g.is_label (code_back c g.is_code) g.is (arms_back rest g.rest)
