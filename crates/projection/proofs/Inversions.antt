-- What the code of a process is, form by form.
use Rattle.std.proofs.Common.{◌≡◌, false, List, [], ◌∷◌, refl, sym, ap, ◌∙◌}
use Rattle.chor_base.specs.declared.names.NameId.{NameId}
use Rattle.chor_base.specs.Expr.{Term}
use Rattle.chor_tree.specs.declared.file.Proc.{Proc}
use Rattle.chor_semantics.specs.Choreography.{Ref, Node, Choreography, Then, Either, Ends as Stops}
use Rattle.endpoint_code.specs.Trees.{Action, CodeTree, Does, Offers, Ends, NoArms, Arm}
use Rattle.endpoint_code.specs.LeastAbove.{IsLeastAbove}
use Rattle.projection.specs.Codes.{Absent, Acts, Learns, part_in, is_named, IsCodeOf, acts, learns, absent, decides, merges, ends}

module _ (procs : List Proc) (r : NameId) where
  -- a code of what follows, of which this is made
  pub record Made (rest : Choreography) (make : CodeTree → CodeTree) (x : CodeTree) : Type 0 where
    pub code : CodeTree
    pub made : x ≡ make code
    pub follows : IsCodeOf procs r rest code

  pub after_action : {n : Node} {rest : Choreography} {x : CodeTree} (a : Action) → part_in r n ≡ Acts a → IsCodeOf procs r (Then n rest) x → Made rest (Does a) x
  after_action a e (acts {a = b} {c = c} f h) =
      let parts : Acts b ≡ Acts a = sym f ∙ e in
      let same : b ≡ a = cc in record { code = c; made = ap (λ z. Does z c) same; follows = h }
  after_action a e (learns f h) = absurd cc
  after_action a e (absent f h) = absurd cc

  pub after_label : {n : Node} {rest : Choreography} {x : CodeTree} (k a l : NameId) → part_in r n ≡ Learns k a l → IsCodeOf procs r (Then n rest) x → Made rest (λ c. Offers k a (Arm l c NoArms)) x
  after_label k a l e (acts f h) = absurd cc
  after_label k a l e (learns f h) = record { code = _; made = cc; follows = h }
  after_label k a l e (absent f h) = absurd cc

  pub after_others : {n : Node} {rest : Choreography} {x : CodeTree} → part_in r n ≡ Absent → IsCodeOf procs r (Then n rest) x → IsCodeOf procs r rest x
  after_others e (acts f h) = absurd cc
  after_others e (learns f h) = absurd cc
  after_others e (absent f h) = h

  pub at_end : {x : CodeTree} → IsCodeOf procs r Stops x → x ≡ Ends
  at_end ends = refl

  -- the codes of both branches, and the least above them
  pub record Merged (first second : Choreography) (x : CodeTree) : Type 0 where
    pub one : CodeTree
    pub other : CodeTree
    pub of_first : IsCodeOf procs r first one
    pub of_second : IsCodeOf procs r second other
    pub least : IsLeastAbove (one ∷ other ∷ []) x

  pub at_anothers : {p : Ref} {e : Term} {first second : Choreography} {x : CodeTree} → is_named r p ≡ false → IsCodeOf procs r (Either p e first second) x → Merged first second x
  at_anothers e (decides f g h) = absurd cc
  at_anothers e (merges f g h least) = record { one = _; other = _; of_first = g; of_second = h; least = least }
