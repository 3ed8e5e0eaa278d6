-- Code that is the same uses its session names alike, among programs that declare the same.
use Rattle.std.proofs.Common.{◌≡◌, Bool, false, ◌||◌, List, length, sym, ap, ◌∙◌, Some}
use Rattle.std.specs.List.{AllZip}
use Rattle.chor_base.specs.declared.names.NameId.{NameId}
use Rattle.endpoint_code.specs.declared.endpoints.Procedure.{Procedure}
use Rattle.endpoint_code.specs.declared.endpoints.Endpoints.{Endpoints}
use Rattle.endpoint_code.specs.Faults.{is_among, IsActive}
use Rattle.endpoint_code.specs.Labels.{has_label, HasDistinctLabels, AreDistinctArms, ArmIsIn, here, there}
use Rattle.endpoint_code.specs.Network.{procedure_of}
use Rattle.endpoint_code.specs.Trees.{Action, CodeTree, Arms}
use Rattle.endpoint_code.proofs.AboveOrder.{neither, flip}
use Rattle.merged_codes.specs.Scoped.{bound_after, IsScopedAction, IsScopedTree, AreScopedArms, IsScopedCall}
use Rattle.same_programs.specs.Words.{SameName, SameText}
use Rattle.same_programs.specs.Codes.{SameAction, joins, sends, receives, selects, gives, gains, sets, shows, asks, SameCode, does, offers, tests, calls, ends, SameArms, no_arm, one_arm}
use Rattle.same_programs.proofs.Zips.{zip_length}
use Rattle.same_programs.proofs.Branches.{labels_same, label_in}
use Rattle.same_programs.proofs.Tests.{TellsNames}
use Rattle.same_programs.proofs.NameLists.{among_same, distinct_same, without_same, all_among_same}

-- one more arm, wherever it stands
distinct_put : {l : NameId} {c : CodeTree} {others arms : Arms} → ArmIsIn l c others arms → has_label l others ≡ false → HasDistinctLabels c → AreDistinctArms others → AreDistinctArms arms
distinct_put here n d u = (n, d, u)
distinct_put {l = l} (there {k = k} {rest = rest} i) n d u =
    let two = neither _ _ n in
    (label_in k i ∙ apart_too _ _ (flip l.0 k.0 two.0) u.0, u.1, distinct_put i two.1 d u.2)
  where
    apart_too : (a b : Bool) → a ≡ false → b ≡ false → (a || b) ≡ false
    apart_too a b h k = ap (λ x. x || b) h ∙ k

scoped_put : (e : Endpoints) (bs : List NameId) {l : NameId} {c : CodeTree} {others arms : Arms} → ArmIsIn l c others arms → IsScopedTree e c bs → AreScopedArms e others bs → AreScopedArms e arms bs
scoped_put e bs here h u = (h, u)
scoped_put e bs (there i) h u = (u.0, scoped_put e bs i h u.1)

-- e' declares what e does: the active roles of channels, and procedures, each with as many sessions
module _ (e e' : Endpoints) (tell : TellsNames (SameName e e'))
    (active : (a b r q : NameId) → SameName e e' a b → SameName e e' r q → IsActive e a r → IsActive e' b q)
    (unit : (f g p q : NameId) → SameName e e' f g → SameName e e' p q → (u : Procedure) → procedure_of e.procedures f p ≡ Some u → (v : Procedure) × (procedure_of e'.procedures g q ≡ Some v) × (length u.sessions ≡ length v.sessions)) where
  abbrev N : NameId → NameId → Type 0
  N = SameName e e'

  mutual
    pub distinct_kept : {q p : CodeTree} → SameCode (SameName e e') (SameText e e') q p → HasDistinctLabels q → HasDistinctLabels p
    distinct_kept (does a s) d = distinct_kept s d
    distinct_kept (offers k a s) d = arms_distinct s d
    distinct_kept (tests t s r) d = (distinct_kept s d.0, distinct_kept r d.1)
    distinct_kept (calls f p ss) d = tt
    distinct_kept ends d = tt

    arms_distinct : {qs ps : Arms} → SameArms (SameName e e') (SameText e e') qs ps → AreDistinctArms qs → AreDistinctArms ps
    arms_distinct no_arm d = tt
    arms_distinct (one_arm {l = l} {m = m} n s i rest) d =
        distinct_put i (sym (labels_same (SameName e e') (SameText e e') tell rest l m n) ∙ d.0) (distinct_kept s d.1) (arms_distinct rest d.2)

  -- ---- what is declared

  call_kept : (f g p q : NameId) (ss rs bs ds : List NameId) → N f g → N p q → AllZip (SameName e e') ss rs → AllZip (SameName e e') bs ds → IsScopedCall e f p ss bs → IsScopedCall e' g q rs ds
  call_kept f g p q ss rs bs ds i j s b h =
      let v = unit f g p q i j h.unit h.found in
      record {
        unit = v.0;
        found = v.1;
        count = sym (zip_length (SameName e e') ss rs s) ∙ h.count ∙ v.2;
        bound = sym (all_among_same (SameName e e') tell ss rs bs ds s b) ∙ h.bound;
        apart = distinct_same (SameName e e') tell ss rs s h.apart;
      }

  -- ---- actions and codes

  bound_kept : {a b : Action} → SameAction (SameName e e') (SameText e e') a b → (bs ds : List NameId) → AllZip (SameName e e') bs ds → AllZip (SameName e e') (bound_after a bs) (bound_after b ds)
  bound_kept (joins x r k) bs ds b = (k, b)
  bound_kept (sends k t x) bs ds b = b
  bound_kept (receives k t x) bs ds b = b
  bound_kept (selects k t l) bs ds b = b
  bound_kept (gives {g = g} {f = f} k t h) bs ds b = without_same (SameName e e') tell g f h bs ds b
  bound_kept (gains k t h) bs ds b = (h, b)
  bound_kept (sets x t) bs ds b = b
  bound_kept (shows t) bs ds b = b
  bound_kept (asks x f t u) bs ds b = b

  abbrev Among : NameId → NameId → List NameId → List NameId → Type 0
  Among x y bs ds = is_among x bs ≡ is_among y ds

  among : {x y : NameId} → SameName e e' x y → (bs ds : List NameId) → AllZip (SameName e e') bs ds → is_among x bs ≡ is_among y ds
  among {x = x} {y = y} i bs ds b = among_same (SameName e e') tell x y i bs ds b

  action_kept : {a b : Action} → SameAction (SameName e e') (SameText e e') a b → (bs ds : List NameId) → AllZip (SameName e e') bs ds → IsScopedAction e a bs → IsScopedAction e' b ds
  action_kept (joins {c = x} {d = y} {r = r} {q = q} i j k) bs ds b h = (active x y r q i j h.0, sym (among k bs ds b) ∙ h.1)
  action_kept (sends k t x) bs ds b h = sym (among k bs ds b) ∙ h
  action_kept (receives k t x) bs ds b h = sym (among k bs ds b) ∙ h
  action_kept (selects k t l) bs ds b h = sym (among k bs ds b) ∙ h
  action_kept (gives k t g) bs ds b h = (sym (among k bs ds b) ∙ h.0, sym (among g bs ds b) ∙ h.1)
  action_kept (gains k t g) bs ds b h = (sym (among k bs ds b) ∙ h.0, sym (among g bs ds b) ∙ h.1)
  action_kept (sets x t) bs ds b h = tt
  action_kept (shows t) bs ds b h = tt
  action_kept (asks x f t u) bs ds b h = tt

  mutual
    pub scope_kept : {q p : CodeTree} → SameCode (SameName e e') (SameText e e') q p → (bs ds : List NameId) → AllZip (SameName e e') bs ds → IsScopedTree e q bs → IsScopedTree e' p ds
    scope_kept (does {a = x} {b = y} a s) bs ds b h = (action_kept a bs ds b h.0, scope_kept s (bound_after x bs) (bound_after y ds) (bound_kept a bs ds b) h.1)
    scope_kept (offers k a s) bs ds b h = (sym (among k bs ds b) ∙ h.0, arms_kept s bs ds b h.1)
    scope_kept (tests t s r) bs ds b h = (scope_kept s bs ds b h.0, scope_kept r bs ds b h.1)
    scope_kept (calls {f = f} {g = g} {p = p} {q = q} {ss = ss} {rs = rs} i j s) bs ds b h = call_kept f g p q ss rs bs ds i j s b h
    scope_kept ends bs ds b h = tt

    arms_kept : {qs ps : Arms} → SameArms (SameName e e') (SameText e e') qs ps → (bs ds : List NameId) → AllZip (SameName e e') bs ds → AreScopedArms e qs bs → AreScopedArms e' ps ds
    arms_kept no_arm bs ds b h = tt
    arms_kept (one_arm n s i rest) bs ds b h = scoped_put e' ds i (scope_kept s bs ds b h.0) (arms_kept rest bs ds b h.1)
