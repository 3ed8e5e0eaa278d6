-- The same code uses its session names as well among other programs, where what is declared is declared there.
use Rattle.std.proofs.Common.{◌≡◌, List, length, Some, ◌∙◌}
use Rattle.chor_base.specs.declared.names.NameId.{NameId}
use Rattle.endpoint_code.specs.declared.endpoints.Procedure.{Procedure}
use Rattle.endpoint_code.specs.declared.endpoints.Endpoints.{Endpoints}
use Rattle.endpoint_code.specs.Faults.{IsActive}
use Rattle.endpoint_code.specs.Network.{procedure_of}
use Rattle.endpoint_code.specs.Trees.{Action, Joins, Sends, Receives, Selects, Gives, Gains, Sets, Shows, Asks, CodeTree, Does, Offers, Tests, Calls, Ends, Arms, NoArms, Arm}
use Rattle.merged_codes.specs.Scoped.{bound_after, IsScopedAction, IsScopedTree, AreScopedArms}

module _ (e r : Endpoints) (active : (a x : NameId) → IsActive e a x → IsActive r a x)
    (unit : (f p : NameId) (u : Procedure) → procedure_of e.procedures f p ≡ Some u → (v : Procedure) × (procedure_of r.procedures f p ≡ Some v) × (length u.sessions ≡ length v.sessions)) where
  action_moved : (a : Action) (bs : List NameId) → IsScopedAction e a bs → IsScopedAction r a bs
  action_moved (Joins c x k) bs h = (active c x h.0, h.1)
  action_moved (Sends k b x) bs h = h
  action_moved (Receives k a x) bs h = h
  action_moved (Selects k b l) bs h = h
  action_moved (Gives k b g) bs h = h
  action_moved (Gains k a g) bs h = h
  action_moved (Sets x v) bs h = h
  action_moved (Shows v) bs h = h
  action_moved (Asks x f v w) bs h = h

  mutual
    pub tree_moved : (c : CodeTree) (bs : List NameId) → IsScopedTree e c bs → IsScopedTree r c bs
    tree_moved (Does a rest) bs h = (action_moved a bs h.0, tree_moved rest (bound_after a bs) h.1)
    tree_moved (Offers k a arms) bs h = (h.0, arms_moved arms bs h.1)
    tree_moved (Tests t first second) bs h = (tree_moved first bs h.0, tree_moved second bs h.1)
    tree_moved (Calls f p ss) bs h = let v = unit f p h.unit h.found in record { unit = v.0; found = v.1; count = h.count ∙ v.2; bound = h.bound; apart = h.apart }
    tree_moved Ends bs h = tt

    arms_moved : (arms : Arms) (bs : List NameId) → AreScopedArms e arms bs → AreScopedArms r arms bs
    arms_moved NoArms bs h = tt
    arms_moved (Arm l c rest) bs h = (tree_moved c bs h.0, arms_moved rest bs h.1)
