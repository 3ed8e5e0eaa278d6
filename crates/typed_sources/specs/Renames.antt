-- When one context is another with other references for its processes and sessions.
use Rattle.std.specs.Prelude.{ℕ, ◌≡◌, ◌⊎◌, true, false, List, Some, None}
use Rattle.chor_base.specs.declared.names.NameId.{NameId}
use Rattle.chor_base.specs.declared.value.Sort.{Sort}
use Rattle.chor_tree.specs.declared.protocol.State.{State}
use Rattle.chor_semantics.specs.Choreography.{Ref, Live, Named, ref_eq}
use Rattle.typed_sources.specs.Context.{Context}
use Rattle.typed_sources.specs.Typing.{HasProtocol, HasEnded}

-- f is for processes and g for sessions. The second context may know more: variables that are set, holders of roles, and
-- sessions that have ended
pub record Renames (states : NameId → List State) (f g : Ref → Ref) (d e : Context) : Type 0 where
  -- numbers of sessions stay
  pub live : (n : ℕ) → g (Live n) ≡ Live n
  -- processes in scope stay in scope
  pub known : (p : Ref) → d.known p ≡ true → e.known (f p) ≡ true
  -- and those that differ stay so
  pub apart : (p q : Ref) → d.known p ≡ true → d.known q ≡ true → ref_eq (f p) (f q) ≡ ref_eq p q
  -- their set variables are set, to the same sorts
  pub sorts : (p : Ref) → d.known p ≡ true → (x : NameId) (s : Sort) → d.sorts p x ≡ Some s → e.sorts (f p) x ≡ Some s
  -- sessions in scope keep their protocols
  pub protocol : (s : Ref) (k : NameId) → d.protocol s ≡ Some k → e.protocol (g s) ≡ Some k
  -- those that differ stay so
  pub apart_sessions : (s u : Ref) → HasProtocol (d.protocol s) → HasProtocol (d.protocol u) → ref_eq (g s) (g u) ≡ ref_eq s u
  -- the same is done in them
  pub done : (s : Ref) → HasProtocol (d.protocol s) → (r : NameId) → e.done (g s) r ≡ d.done s r
  -- roles keep their holders
  pub holder : (s : Ref) (r : NameId) (q : Ref) → d.holder s r ≡ Some q → e.holder (g s) r ≡ Some (f q)
  -- a role in transit stays so
  pub none : (n : ℕ) (r : NameId) → HasProtocol (d.protocol (Live n)) → d.holder (Live n) r ≡ None → e.holder (Live n) r ≡ None
  -- a role is held in sessions in scope alone
  pub held : (s : Ref) (r : NameId) (q : Ref) → d.holder s r ≡ Some q → HasProtocol (d.protocol s)
  -- other sessions have ended
  pub others : (t : Ref) (k : NameId) → e.protocol t ≡ Some k → ((s : Ref) × (g s ≡ t) × (d.protocol s ≡ Some k)) ⊎ HasEnded (states k) (e.done t)

-- names that aren't in scope stay, and aren't in scope in either
pub record Stays (f g : Ref → Ref) (d e : Context) : Type 0 where
  pub process : (x c : ℕ) → d.known (Named x c) ≡ false → (f (Named x c) ≡ Named x c) × (e.known (Named x c) ≡ false)
  pub session : (x c : ℕ) → d.protocol (Named x c) ≡ None → (g (Named x c) ≡ Named x c) × (e.protocol (Named x c) ≡ None)
