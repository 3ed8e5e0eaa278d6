-- Renaming by a map that can be undone keeps what is above, and what is least above.
use Rattle.std.proofs.Common.{◌≡◌, ℕ, Bool, true, false, sym, ap, ◌∙◌, subst, refl, List, [], ◌∷◌, map, Option, Some, None, if◌then◌else◌}
use Rattle.chor_base.specs.declared.names.NameId.{NameId}
use Rattle.chor_tree.specs.declared.file.Proc.{Proc}
use Rattle.chor_tree.specs.declared.file.SessionParam.{SessionParam}
use Rattle.chor_semantics.specs.Choreography.{Ref, Live, Named, Content, OfValue, OfLabel, OfPart, Node, Starts, Communicates, InTransit, Alone, Choreography, Then, Either, Calls as CallsProcedure, Ends as Stops, put, put_node, put_part, put_content}
use Rattle.endpoint_code.specs.Trees.{Action, Joins, Sends, Receives, Selects, Gives, Gains, Sets, Shows, Asks, CodeTree, Does, Offers, Tests, Calls, Ends, Arms, NoArms, Arm}
use Rattle.endpoint_code.specs.Above.{IsAbove, does, offers, tests, calls, ends, AreAbove, no_arm, one_arm, HasAbove, first, later}
use Rattle.endpoint_code.specs.Labels.{has_label, HasDistinctLabels, AreDistinctArms}
use Rattle.branch_merge.specs.Bounds.{IsLeast, IsBound, HasNone}
use Rattle.branch_merge.proofs.Bounds.{two_of_least, least_of_two}
use Rattle.projection.specs.Codes.{Part, Absent, Acts, Learns, part_in, is_named, role_in, joins, sends, receives, name_of, holds, passed_for, call_code, call_as, param_for, proc_named, IsCodeOf, acts, learns, absent, decides, merges}
use Rattle.projection.specs.Codes as code
use Rattle.projection.specs.Renamed.{renamed_action, renamed, renamed_arms, session_by}

module _ (f : NameId → NameId) where
  mutual
    pub above_renamed : {q p : CodeTree} → IsAbove q p → IsAbove (renamed f q) (renamed f p)
    above_renamed (does h) = does (above_renamed h)
    above_renamed (offers h) = offers (arms_renamed h)
    above_renamed (tests h g) = tests (above_renamed h) (above_renamed g)
    above_renamed calls = calls
    above_renamed ends = ends

    arms_renamed : {qs ps : Arms} → AreAbove qs ps → AreAbove (renamed_arms f qs) (renamed_arms f ps)
    arms_renamed no_arm = no_arm
    arms_renamed (one_arm h g) = one_arm (has_renamed h) (arms_renamed g)

    has_renamed : {qs : Arms} {l : NameId} {p : CodeTree} → HasAbove qs l p → HasAbove (renamed_arms f qs) l (renamed f p)
    has_renamed (first h) = first (above_renamed h)
    has_renamed (later h) = later (has_renamed h)

  label_renamed : (l : NameId) (arms : Arms) → has_label l (renamed_arms f arms) ≡ has_label l arms
  label_renamed l NoArms = refl
  label_renamed l (Arm k c rest) = let e = label_renamed l rest in cc

  mutual
    pub distinct_renamed : (q : CodeTree) → HasDistinctLabels q → HasDistinctLabels (renamed f q)
    distinct_renamed (Does a c) d = distinct_renamed c d
    distinct_renamed (Offers k a arms) d = distinct_arms arms d
    distinct_renamed (Tests e c g) d = (distinct_renamed c d.0, distinct_renamed g d.1)
    distinct_renamed (Calls g p ss) d = tt
    distinct_renamed Ends d = tt

    distinct_arms : (arms : Arms) → AreDistinctArms arms → AreDistinctArms (renamed_arms f arms)
    distinct_arms NoArms d = tt
    distinct_arms (Arm l c rest) d = (label_renamed l rest ∙ d.0, distinct_renamed c d.1, distinct_arms rest d.2)

-- ---- by a map that can be undone

module _ (f g : NameId → NameId) (undone : (x : NameId) → f (g x) ≡ x) where
  action_undone : (a : Action) → renamed_action f (renamed_action g a) ≡ a
  action_undone (Joins c r k) = refl
  action_undone (Sends k b e) = let h = undone k in cc
  action_undone (Receives k a x) = let h = undone k in cc
  action_undone (Selects k b l) = let h = undone k in cc
  action_undone (Gives k b h) = let i = undone k in let j = undone h in cc
  action_undone (Gains k a h) = let i = undone k in let j = undone h in cc
  action_undone (Sets x e) = refl
  action_undone (Shows e) = refl
  action_undone (Asks x h left right) = refl

  names_undone : (ss : List NameId) → map f (map g ss) ≡ ss
  names_undone [] = refl
  names_undone (s ∷ ss) = let h = undone s in let i = names_undone ss in cc

  mutual
    pub renamed_undone : (q : CodeTree) → renamed f (renamed g q) ≡ q
    renamed_undone (Does a c) = let h = action_undone a in let i = renamed_undone c in cc
    renamed_undone (Offers k a arms) = let h = undone k in let i = arms_undone arms in cc
    renamed_undone (Tests e c d) = let h = renamed_undone c in let i = renamed_undone d in cc
    renamed_undone (Calls h p ss) = let i = names_undone ss in cc
    renamed_undone Ends = refl

    arms_undone : (arms : Arms) → renamed_arms f (renamed_arms g arms) ≡ arms
    arms_undone NoArms = refl
    arms_undone (Arm l c rest) = let h = renamed_undone c in let i = arms_undone rest in cc

module _ (f g : NameId → NameId) (there : (x : NameId) → f (g x) ≡ x) (back : (x : NameId) → g (f x) ≡ x) where
  bound_back : {c d s : CodeTree} → IsBound (renamed f c) (renamed f d) s → IsBound c d (renamed g s)
  bound_back {c = c} {d = d} {s = s} b = record {
    distinct = distinct_renamed g s b.distinct;
    left = subst (IsAbove (renamed g s)) (renamed_undone g f back c) (above_renamed g b.left);
    right = subst (IsAbove (renamed g s)) (renamed_undone g f back d) (above_renamed g b.right);
  }

  -- the least code above the renamed codes is the renamed least code
  pub least_renamed : (c d q : CodeTree) → IsLeast c d q → IsLeast (renamed f c) (renamed f d) (renamed f q)
  least_renamed c d q l = record {
    bound = record { distinct = distinct_renamed f q l.bound.distinct; left = above_renamed f l.bound.left; right = above_renamed f l.bound.right };
    least = λ s b. subst (λ (x : CodeTree). IsAbove x (renamed f q)) (renamed_undone f g there s) (above_renamed f (l.least (renamed g s) (bound_back b)));
  }

  -- and where none is above the codes, none is above the renamed ones
  pub none_renamed : (c d : CodeTree) → HasNone c d → HasNone (renamed f c) (renamed f d)
  none_renamed c d n = record { none = λ s b. n.none (renamed g s) (bound_back b) }

  -- ---- the code of a renamed choreography

  abbrev same : Ref → Ref
  same r = r

  abbrev Put : Choreography → Choreography
  Put c = put same (session_by f) c

  name_by : (s : Ref) → name_of (session_by f s) ≡ f (name_of s)
  name_by (Named x d) = refl
  name_by (Live n) = refl

  abbrev renamed_part : Part → Part
  renamed_part Absent = Absent
  renamed_part (Acts a) = Acts (renamed_action f a)
  renamed_part (Learns k a l) = Learns (f k) a l

  same_role : (r : NameId) (ps : List (Ref × NameId)) → role_in r (put_part same ps) ≡ role_in r ps
  same_role r [] = refl
  same_role r (p ∷ ps) = let h = same_role r ps in cc

  join_part : (c : NameId) (k : ℕ) (o : Option NameId) → joins c k o ≡ renamed_part (joins c k o)
  join_part c k None = refl
  join_part c k (Some a) = refl

  sent : (s : Ref) (b : NameId) (w : Content) → sends (name_of (session_by f s)) b (put_content (session_by f) w) ≡ renamed_action f (sends (name_of s) b w)
  sent s b (OfValue e x) = let h = name_by s in cc
  sent s b (OfLabel l) = let h = name_by s in cc
  sent s b (OfPart t r) = let h = name_by s in let i = name_by t in cc

  received : (s : Ref) (a : NameId) (w : Content) → receives (name_of (session_by f s)) a (put_content (session_by f) w) ≡ renamed_part (receives (name_of s) a w)
  received s a (OfValue e x) = let h = name_by s in cc
  received s a (OfLabel l) = let h = name_by s in cc
  received s a (OfPart t r) = let h = name_by s in let i = name_by t in cc

  of_party : (b d : Bool) (x x' : Action) (y y' : Part) → x ≡ renamed_action f x' → y ≡ renamed_part y'
      → (if b then Acts x else (if d then y else Absent)) ≡ renamed_part (if b then Acts x' else (if d then y' else Absent))
  of_party true d x x' y y' e h = ap Acts e
  of_party false true x x' y y' e h = h
  of_party false false x x' y y' e h = refl

  of_owner : (b : Bool) (x : Action) → x ≡ renamed_action f x → (if b then Acts x else Absent) ≡ renamed_part (if b then Acts x else Absent)
  of_owner true x e = ap Acts e
  of_owner false x e = refl

  own_same : (o : Rattle.chor_semantics.specs.Choreography.Own) → code.acts_alone o ≡ renamed_action f (code.acts_alone o)
  own_same (Rattle.chor_semantics.specs.Choreography.Sets x e) = refl
  own_same (Rattle.chor_semantics.specs.Choreography.Shows e) = refl
  own_same (Rattle.chor_semantics.specs.Choreography.Asks x h a b) = refl

  part_renamed : (r : NameId) (n : Node) → part_in r (put_node same (session_by f) n) ≡ renamed_part (part_in r n)
  part_renamed r (Starts c d k active serve) = ap (joins c k) (same_role r active) ∙ join_part c k (role_in r active)
  part_renamed r (Communicates s p a q b w) = of_party (is_named r p) (is_named r q) _ (sends (name_of s) b w) _ (receives (name_of s) a w) (sent s b w) (received s a w)
  part_renamed r (InTransit s a b m q) = refl
  part_renamed r (Alone p o) = of_owner (is_named r p) (code.acts_alone o) (own_same o)

  same_refs : (qs : List Ref) → map same qs ≡ qs
  same_refs [] = refl
  same_refs (q ∷ qs) = ap (λ ps. q ∷ ps) (same_refs qs)

  passed_renamed : (p : NameId) (ks : List SessionParam) (ss : List Ref) → passed_for p ks (map (session_by f) ss) ≡ map f (passed_for p ks ss)
  passed_renamed p [] ss = refl
  passed_renamed p (k ∷ ks) [] = refl
  passed_renamed p (k ∷ ks) (s ∷ ss) = go (holds p k.holders) (passed_renamed p ks ss) (name_by s)
    where
      go : (b : Bool) → passed_for p ks (map (session_by f) ss) ≡ map f (passed_for p ks ss) → name_of (session_by f s) ≡ f (name_of s)
          → (if b then name_of (session_by f s) ∷ passed_for p ks (map (session_by f) ss) else passed_for p ks (map (session_by f) ss)) ≡ map f (if b then name_of s ∷ passed_for p ks ss else passed_for p ks ss)
      go true e h = cc
      go false e h = e

  call_as_renamed : (g' : NameId) (h : Proc) (ss : List Ref) (o : Option NameId) → call_as g' h (map (session_by f) ss) o ≡ renamed f (call_as g' h ss o)
  call_as_renamed g' h ss None = refl
  call_as_renamed g' h ss (Some p) = ap (Calls g' p) (passed_renamed p h.sessions ss)

  call_renamed : (r g' : NameId) (qs ss : List Ref) (o : Option Proc) → call_code r g' (map same qs) (map (session_by f) ss) o ≡ renamed f (call_code r g' qs ss o)
  call_renamed r g' qs ss None = refl
  call_renamed r g' qs ss (Some h) = ap (λ ps. call_as g' h (map (session_by f) ss) (param_for r h.params ps)) (same_refs qs) ∙ call_as_renamed g' h ss (param_for r h.params qs)

  -- The code of a choreography with other session names is the renamed code
  pub code_renamed : (procs : List Proc) (r : NameId) {c : Choreography} {q : CodeTree} → IsCodeOf procs r c q → IsCodeOf procs r (Put c) (renamed f q)
  code_renamed procs r (acts {n = n} e h) = acts (part_renamed r n ∙ ap renamed_part e) (code_renamed procs r h)
  code_renamed procs r (learns {n = n} e h) = learns (part_renamed r n ∙ ap renamed_part e) (code_renamed procs r h)
  code_renamed procs r (absent {n = n} e h) = absent (part_renamed r n ∙ ap renamed_part e) (code_renamed procs r h)
  code_renamed procs r (decides b h g') = decides b (code_renamed procs r h) (code_renamed procs r g')
  code_renamed procs r (merges {c = c} {d = d} {q = q} b h g' l) = merges b (code_renamed procs r h) (code_renamed procs r g') (least_of_two (least_renamed c d q (two_of_least l)))
  code_renamed procs r (code.calls {f = g'} {qs = qs} {ss = ss} e) = code.calls (ap (renamed f) e ∙ sym (call_renamed r g' qs ss (proc_named procs g')))
  code_renamed procs r code.ends = code.ends
