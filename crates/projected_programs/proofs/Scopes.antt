-- Code that is the same uses its session names alike.
use Rattle.std.proofs.Common.{◌≡◌, Bool, false, ◌||◌, List, length, refl, sym, ap, ◌∙◌, subst, Option, Some, None}
use Rattle.std.specs.List.{AllZip}
use Rattle.chor_base.specs.declared.names.NameId.{NameId}
use Rattle.endpoint_code.specs.declared.code.CodeId.{CodeId}
use Rattle.endpoint_code.specs.declared.endpoints.Channel.{Channel}
use Rattle.endpoint_code.specs.declared.endpoints.Procedure.{Procedure}
use Rattle.endpoint_code.specs.declared.endpoints.Endpoints.{Endpoints}
use Rattle.endpoint_code.specs.Faults as faults
use Rattle.endpoint_code.specs.Faults.{is_among, AreDistinct, IsActive, IsScoped, AllScoped}
use Rattle.endpoint_code.specs.Labels.{has_label, HasDistinctLabels, AreDistinctArms, ArmIsIn, here, there}
use Rattle.endpoint_code.specs.Network.{channel_of, procedure_of}
use Rattle.endpoint_code.specs.Trees.{Action, CodeTree, Arms, arms_in, trees_of, code_at}
use Rattle.endpoint_code.proofs.AboveOrder.{neither, flip}
use Rattle.endpoint_code.proofs.CodeTables.{code_at-node}
use Rattle.merged_codes.specs.Scoped.{bound_after, IsScopedAction, IsScopedTree, AreScopedArms, IsScopedCall}
use Rattle.same_programs.specs.Words.{SameName, SameText, BothOrNeither}
use Rattle.same_programs.specs.Codes.{SameAction, joins, sends, receives, selects, gives, gains, sets, shows, asks, SameCode, does, offers, tests, calls, ends, SameArms, no_arm, one_arm}
use Rattle.same_programs.specs.Programs.{IsCopy}
use Rattle.same_programs.proofs.Zips.{zip_length}
use Rattle.same_programs.proofs.Branches.{labels_same, label_in}
use Rattle.same_programs.proofs.Places.{tell, IsUnit, units, unit_found}
use Rattle.same_programs.proofs.Starting.{IsChannelOf, channel_same}
use Rattle.projected_programs.proofs.Lists.{among_same, distinct_same, without_same, all_among_same}

-- ---- from the table to its trees

module _ (e : Endpoints) where
  abbrev ts : List CodeTree
  ts = trees_of e.code.nodes

  put : (bs : List NameId) (id : CodeId) (c : CodeTree) → code_at e.code.nodes id ≡ c → IsScopedTree e c bs → IsScopedTree e (code_at e.code.nodes id) bs
  put bs id c is h = subst (λ t. IsScopedTree e t bs) (sym is) h

  mutual
    pub tree_scoped : {id : CodeId} {bs : List NameId} → IsScoped e id bs → IsScopedTree e (code_at e.code.nodes id) bs
    tree_scoped {id} {bs} (faults.joins h a f d) = put bs id _ (code_at-node e.code.nodes id _ e.code.closed h) ((a, f), tree_scoped d)
    tree_scoped {id} {bs} (faults.sends h a d) = put bs id _ (code_at-node e.code.nodes id _ e.code.closed h) (a, tree_scoped d)
    tree_scoped {id} {bs} (faults.receives h a d) = put bs id _ (code_at-node e.code.nodes id _ e.code.closed h) (a, tree_scoped d)
    tree_scoped {id} {bs} (faults.picks h a d) = put bs id _ (code_at-node e.code.nodes id _ e.code.closed h) (a, tree_scoped d)
    tree_scoped {id} {bs} (faults.offers h a u d) = put bs id _ (code_at-node e.code.nodes id _ e.code.closed h) (a, arms_scoped d)
    tree_scoped {id} {bs} (faults.gives h a f d) = put bs id _ (code_at-node e.code.nodes id _ e.code.closed h) ((a, f), tree_scoped d)
    tree_scoped {id} {bs} (faults.gains h a f d) = put bs id _ (code_at-node e.code.nodes id _ e.code.closed h) ((a, f), tree_scoped d)
    tree_scoped {id} {bs} (faults.sets h d) = put bs id _ (code_at-node e.code.nodes id _ e.code.closed h) (tt, tree_scoped d)
    tree_scoped {id} {bs} (faults.shows h d) = put bs id _ (code_at-node e.code.nodes id _ e.code.closed h) (tt, tree_scoped d)
    tree_scoped {id} {bs} (faults.asks h d) = put bs id _ (code_at-node e.code.nodes id _ e.code.closed h) (tt, tree_scoped d)
    tree_scoped {id} {bs} (faults.tests h c d) = put bs id _ (code_at-node e.code.nodes id _ e.code.closed h) (tree_scoped c, tree_scoped d)
    tree_scoped {id} {bs} (faults.calls {q = q} h f n b u) = put bs id _ (code_at-node e.code.nodes id _ e.code.closed h) (record { unit = q; found = f; count = n; bound = b; apart = u })
    tree_scoped {id} {bs} (faults.ends h) = put bs id _ (code_at-node e.code.nodes id _ e.code.closed h) tt

    arms_scoped : {arms : List (NameId × CodeId)} {bs : List NameId} → AllScoped e arms bs → AreScopedArms e (arms_in ts arms) bs
    arms_scoped faults.no_arm = tt
    arms_scoped (faults.one_arm d ds) = (tree_scoped d, arms_scoped ds)

-- ---- from one program to its copy

-- one more arm, wherever it stands
distinct_put : {l : NameId} {c : CodeTree} {others arms : Arms} → ArmIsIn l c others arms → has_label l others ≡ false → HasDistinctLabels c → AreDistinctArms others → AreDistinctArms arms
distinct_put here n d u = (n, d, u)
distinct_put {l = l} (there {k = k} {rest = rest} i) n d u =
    let two = neither _ _ n in
    (label_in k i ∙ apart_too _ _ (flip l.0 k.0 two.0) u.0, u.1, distinct_put i two.1 d u.2)
  where
    apart_too : (a b : Bool) → a ≡ false → b ≡ false → (a || b) ≡ false
    apart_too a b h k = ap (λ x. x || b) h ∙ k

scoped_put : (e : Endpoints) (bs : List NameId) {l : NameId} {c : CodeTree} {others arms : Arms} → ArmIsIn l c others arms → IsScopedTree e c bs → AreScopedArms e others bs → AreScopedArms e arms bs
scoped_put e bs here h u = (h, u)
scoped_put e bs (there i) h u = (u.0, scoped_put e bs i h u.1)

module _ (e e' : Endpoints) (c : IsCopy e e') where
  abbrev N : NameId → NameId → Type 0
  N = SameName e e'

  mutual
    pub distinct_kept : {q p : CodeTree} → SameCode (SameName e e') (SameText e e') q p → HasDistinctLabels q → HasDistinctLabels p
    distinct_kept (does a s) d = distinct_kept s d
    distinct_kept (offers k a s) d = arms_distinct s d
    distinct_kept (tests t s r) d = (distinct_kept s d.0, distinct_kept r d.1)
    distinct_kept (calls f p ss) d = tt
    distinct_kept ends d = tt

    arms_distinct : {qs ps : Arms} → SameArms (SameName e e') (SameText e e') qs ps → AreDistinctArms qs → AreDistinctArms ps
    arms_distinct no_arm d = tt
    arms_distinct (one_arm {l = l} {m = m} n s i rest) d =
        distinct_put i (sym (labels_same (SameName e e') (SameText e e') (tell e e' c) rest l m n) ∙ d.0) (distinct_kept s d.1) (arms_distinct rest d.2)

  -- ---- what is declared

  active_kept : (a b r q : NameId) → N a b → N r q → IsActive e a r → IsActive e' b q
  active_kept a b r q i j h = go (channel_of e.channels a) (channel_of e'.channels b) refl (channel_same e e' c a b i) h.1
    where
      go : (o u : Option Channel) → channel_of e'.channels b ≡ u → BothOrNeither (IsChannelOf e e' c a) o u → o ≡ Some h.0 → IsActive e' b q
      go None u f s k = absurd cc
      go (Some x) None f s k = absurd s
      go (Some x) (Some y) f s k =
          let is : x ≡ h.0 = cc in
          (y, f, sym (among_same (SameName e e') (tell e e' c) r q j x.active y.active s.same.active) ∙ ap (λ (z : Channel). is_among r z.active) is ∙ h.2)

  call_kept : (f g p r : NameId) (ss rs bs ds : List NameId) → N f g → N p r → AllZip (SameName e e') ss rs → AllZip (SameName e e') bs ds → IsScopedCall e f p ss bs → IsScopedCall e' g r rs ds
  call_kept f g p r ss rs bs ds i j s b h = go (procedure_of e.procedures f p) (procedure_of e'.procedures g r) refl (unit_found e e' c e.procedures e'.procedures (units e e' c) f g p r i j) h.found
    where
      go : (o u : Option Procedure) → procedure_of e'.procedures g r ≡ u → BothOrNeither (IsUnit e e') o u → o ≡ Some h.unit → IsScopedCall e' g r rs ds
      go None u k t l = absurd cc
      go (Some x) None k t l = absurd t
      go (Some x) (Some y) k t l =
          let is : x ≡ h.unit = cc in
          record {
            unit = y;
            found = k;
            count = sym (zip_length (SameName e e') ss rs s) ∙ h.count ∙ ap (λ (z : Procedure). length z.sessions) (sym is) ∙ zip_length (SameName e e') x.sessions y.sessions t.sessions;
            bound = sym (all_among_same (SameName e e') (tell e e' c) ss rs bs ds s b) ∙ h.bound;
            apart = distinct_same (SameName e e') (tell e e' c) ss rs s h.apart;
          }

  -- ---- actions and codes

  bound_kept : {a b : Action} → SameAction (SameName e e') (SameText e e') a b → (bs ds : List NameId) → AllZip (SameName e e') bs ds → AllZip (SameName e e') (bound_after a bs) (bound_after b ds)
  bound_kept (joins x r k) bs ds b = (k, b)
  bound_kept (sends k t x) bs ds b = b
  bound_kept (receives k t x) bs ds b = b
  bound_kept (selects k t l) bs ds b = b
  bound_kept (gives {g = g} {f = f} k t h) bs ds b = without_same (SameName e e') (tell e e' c) g f h bs ds b
  bound_kept (gains k t h) bs ds b = (h, b)
  bound_kept (sets x t) bs ds b = b
  bound_kept (shows t) bs ds b = b
  bound_kept (asks x f t u) bs ds b = b

  abbrev Among : NameId → NameId → List NameId → List NameId → Type 0
  Among x y bs ds = is_among x bs ≡ is_among y ds

  among : {x y : NameId} → SameName e e' x y → (bs ds : List NameId) → AllZip (SameName e e') bs ds → is_among x bs ≡ is_among y ds
  among {x = x} {y = y} i bs ds b = among_same (SameName e e') (tell e e' c) x y i bs ds b

  action_kept : {a b : Action} → SameAction (SameName e e') (SameText e e') a b → (bs ds : List NameId) → AllZip (SameName e e') bs ds → IsScopedAction e a bs → IsScopedAction e' b ds
  action_kept (joins {c = x} {d = y} {r = r} {q = q} i j k) bs ds b h = (active_kept x y r q i j h.0, sym (among k bs ds b) ∙ h.1)
  action_kept (sends k t x) bs ds b h = sym (among k bs ds b) ∙ h
  action_kept (receives k t x) bs ds b h = sym (among k bs ds b) ∙ h
  action_kept (selects k t l) bs ds b h = sym (among k bs ds b) ∙ h
  action_kept (gives k t g) bs ds b h = (sym (among k bs ds b) ∙ h.0, sym (among g bs ds b) ∙ h.1)
  action_kept (gains k t g) bs ds b h = (sym (among k bs ds b) ∙ h.0, sym (among g bs ds b) ∙ h.1)
  action_kept (sets x t) bs ds b h = tt
  action_kept (shows t) bs ds b h = tt
  action_kept (asks x f t u) bs ds b h = tt

  mutual
    pub scope_kept : {q p : CodeTree} → SameCode (SameName e e') (SameText e e') q p → (bs ds : List NameId) → AllZip (SameName e e') bs ds → IsScopedTree e q bs → IsScopedTree e' p ds
    scope_kept (does {a = x} {b = y} a s) bs ds b h = (action_kept a bs ds b h.0, scope_kept s (bound_after x bs) (bound_after y ds) (bound_kept a bs ds b) h.1)
    scope_kept (offers k a s) bs ds b h = (sym (among k bs ds b) ∙ h.0, arms_kept s bs ds b h.1)
    scope_kept (tests t s r) bs ds b h = (scope_kept s bs ds b h.0, scope_kept r bs ds b h.1)
    scope_kept (calls {f = f} {g = g} {p = p} {q = q} {ss = ss} {rs = rs} i j s) bs ds b h = call_kept f g p q ss rs bs ds i j s b h
    scope_kept ends bs ds b h = tt

    arms_kept : {qs ps : Arms} → SameArms (SameName e e') (SameText e e') qs ps → (bs ds : List NameId) → AllZip (SameName e e') bs ds → AreScopedArms e qs bs → AreScopedArms e' ps ds
    arms_kept no_arm bs ds b h = tt
    arms_kept (one_arm n s i rest) bs ds b h = scoped_put e' ds i (scope_kept s bs ds b h.0) (arms_kept rest bs ds b h.1)
