-- Code that uses its session names well has no label twice in a branch.
use Rattle.std.proofs.Common.{◌≡◌, ◌==◌, ◌||◌, List, [], ◌∷◌, map, refl, sym, ap, ◌∙◌, subst}
use Rattle.chor_base.specs.declared.names.NameId.{NameId}
use Rattle.endpoint_code.specs.declared.code.CodeId.{CodeId}
use Rattle.endpoint_code.specs.declared.endpoints.Endpoints.{Endpoints}
use Rattle.endpoint_code.specs.Faults.{is_among, AreDistinct, one_more, IsScoped, joins, sends, receives, picks, offers, gives, gains, sets, shows, asks, tests, calls, ends, AllScoped, no_arm, one_arm}
use Rattle.endpoint_code.specs.Labels.{has_label, HasDistinctLabels, AreDistinctArms}
use Rattle.endpoint_code.specs.Trees.{CodeTree, arms_in, trees_of, code_at}
use Rattle.endpoint_code.proofs.CodeTables.{code_at-node}

label_there : (ts : List CodeTree) (l : NameId) (arms : List (NameId × CodeId)) → is_among l (map (λ arm. arm.0) arms) ≡ has_label l (arms_in ts arms)
label_there ts l [] = refl
label_there ts l (arm ∷ arms) = ap (λ b. (l.0 == arm.0.0) || b) (label_there ts l arms)

module _ (e : Endpoints) where
  abbrev ts : List CodeTree
  ts = trees_of e.code.nodes

  put : (id : CodeId) (c : CodeTree) → code_at e.code.nodes id ≡ c → HasDistinctLabels c → HasDistinctLabels (code_at e.code.nodes id)
  put id c is d = subst (λ t. HasDistinctLabels t) (sym is) d

  mutual
    pub scoped_distinct : {id : CodeId} {bs : List NameId} → IsScoped e id bs → HasDistinctLabels (code_at e.code.nodes id)
    scoped_distinct {id} (joins h a f d) = put id _ (code_at-node e.code.nodes id _ e.code.closed h) (scoped_distinct d)
    scoped_distinct {id} (sends h a d) = put id _ (code_at-node e.code.nodes id _ e.code.closed h) (scoped_distinct d)
    scoped_distinct {id} (receives h a d) = put id _ (code_at-node e.code.nodes id _ e.code.closed h) (scoped_distinct d)
    scoped_distinct {id} (picks h a d) = put id _ (code_at-node e.code.nodes id _ e.code.closed h) (scoped_distinct d)
    scoped_distinct {id} (offers h a u d) = put id _ (code_at-node e.code.nodes id _ e.code.closed h) (arms_distinct d u)
    scoped_distinct {id} (gives h a f d) = put id _ (code_at-node e.code.nodes id _ e.code.closed h) (scoped_distinct d)
    scoped_distinct {id} (gains h a f d) = put id _ (code_at-node e.code.nodes id _ e.code.closed h) (scoped_distinct d)
    scoped_distinct {id} (sets h d) = put id _ (code_at-node e.code.nodes id _ e.code.closed h) (scoped_distinct d)
    scoped_distinct {id} (shows h d) = put id _ (code_at-node e.code.nodes id _ e.code.closed h) (scoped_distinct d)
    scoped_distinct {id} (asks h d) = put id _ (code_at-node e.code.nodes id _ e.code.closed h) (scoped_distinct d)
    scoped_distinct {id} (tests h c d) = put id _ (code_at-node e.code.nodes id _ e.code.closed h) (scoped_distinct c, scoped_distinct d)
    scoped_distinct {id} (calls h f n b u) = put id _ (code_at-node e.code.nodes id _ e.code.closed h) tt
    scoped_distinct {id} (ends h) = put id _ (code_at-node e.code.nodes id _ e.code.closed h) tt

    pub arms_distinct : {arms : List (NameId × CodeId)} {bs : List NameId} → AllScoped e arms bs → AreDistinct (map (λ arm. arm.0) arms) → AreDistinctArms (arms_in ts arms)
    arms_distinct no_arm u = tt
    arms_distinct (one_arm {l = l} {arms = arms} d ds) (one_more n u) = (sym (label_there ts l arms) ∙ n, scoped_distinct d, arms_distinct ds u)
