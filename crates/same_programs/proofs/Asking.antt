-- The host functions that programs ask that are the same.
use Rattle.std.proofs.Common.{◌≡◌, Bool, sym, ◌∙◌}
use Rattle.chor_base.specs.declared.names.NameId.{NameId}
use Rattle.endpoint_code.specs.declared.endpoints.Endpoints.{Endpoints}
use Rattle.endpoint_code.specs.Asked.{asks_so, AsksTree, AsksArms}
use Rattle.endpoint_code.specs.Labels.{ArmIsIn, here, there}
use Rattle.endpoint_code.specs.Trees.{Action, CodeTree, Arms}
use Rattle.same_programs.specs.Words.{SameName, SameText}
use Rattle.same_programs.specs.Codes.{SameAction, joins, sends, receives, selects, gives, gains, sets, shows, asks, SameCode, does, offers, tests, calls, ends, SameArms, no_arm, one_arm}

module _ (e e' : Endpoints) (known known' : NameId → Bool) (as_known : (f g : NameId) → SameName e e' f g → known f ≡ known' g) where
  action_asks : {a b : Action} → SameAction (SameName e e') (SameText e e') a b → asks_so known a → asks_so known' b
  action_asks (joins x r k) h = tt
  action_asks (sends k b x) h = tt
  action_asks (receives k a x) h = tt
  action_asks (selects k b l) h = tt
  action_asks (gives k b g) h = tt
  action_asks (gains k a g) h = tt
  action_asks (sets x t) h = tt
  action_asks (shows t) h = tt
  action_asks (asks {f = f} {g = g} x i t u) h = sym (as_known f g i) ∙ h

  asks_put : {l : NameId} {c : CodeTree} {others arms : Arms} → ArmIsIn l c others arms → AsksTree known' c → AsksArms known' others → AsksArms known' arms
  asks_put here h s = (h, s)
  asks_put (there i) h s = (s.0, asks_put i h s.1)

  mutual
    pub tree_asks : {q p : CodeTree} → SameCode (SameName e e') (SameText e e') q p → AsksTree known q → AsksTree known' p
    tree_asks (does a s) h = (action_asks a h.0, tree_asks s h.1)
    tree_asks (offers k a s) h = copied_arms s h
    tree_asks (tests t s r) h = (tree_asks s h.0, tree_asks r h.1)
    tree_asks (calls f p ss) h = tt
    tree_asks ends h = tt

    copied_arms : {qs ps : Arms} → SameArms (SameName e e') (SameText e e') qs ps → AsksArms known qs → AsksArms known' ps
    copied_arms no_arm h = tt
    copied_arms (one_arm n s i rest) h = asks_put i (tree_asks s h.0) (copied_arms rest h.1)
