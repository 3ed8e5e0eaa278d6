-- What is known of a process by where it stands.
use Rattle.std.proofs.Common.{◌≡◌, ℕ, zero, suc, Bool, true, false, cond, List, [], ◌∷◌, Option, refl, sym, ap, ◌∙◌, Some}
use Rattle.std.specs.Prelude.{slice_get}
use Rattle.std.proofs.lemmas.Bool.{true≢false}
use Rattle.std.proofs.lemmas.Option.{same_Some, none-some}
use Rattle.endpoint_code.specs.declared.code.CodeNode.{CodeNode}
use Rattle.endpoint_code.specs.declared.code.CodeNode.TheVariants.{End}
use Rattle.endpoint_code.specs.declared.endpoints.Endpoints.{Endpoints}
use Rattle.endpoint_code.specs.Network.{Machine, NetworkState, Place, Sessions}
use Rattle.endpoint_code.specs.NetworkRuns.{ends_there, can_step, none_can_step}

-- one that has ended stands at an end
pub at_end : (q : Place) → ends_there (Some q) ≡ true → q.node ≡ End
at_end q h = by q.node q.sessions h
  where
    by : (c : CodeNode) (s : Sessions) → ends_there (Some (record { node = c; sessions = s })) ≡ true → c ≡ End
    by End s h = refl
    by _ s h = absurd cc

-- no one can step where none can
pub none_at : (e : Endpoints) (cap : Option ℕ) (n : NetworkState) (ms : List Machine) (j : ℕ) (m : Machine) → none_can_step e cap n ms ≡ true → slice_get ms j ≡ Some m → can_step e cap n m ≡ false
none_at e cap n [] j m h t = absurd (none-some m t)
none_at e cap n (x ∷ ms) j m h t = go (can_step e cap n x) refl h j t (λ k i u. none_at e cap n ms i m k u)
  where
    go : (b : Bool) → can_step e cap n x ≡ b → cond b false (none_can_step e cap n ms) ≡ true → (i : ℕ) → slice_get (x ∷ ms) i ≡ Some m → (none_can_step e cap n ms ≡ true → (i : ℕ) → slice_get ms i ≡ Some m → can_step e cap n m ≡ false) → can_step e cap n m ≡ false
    go true s k i u more = absurd (true≢false (sym k))
    go false s k zero u more = ap (can_step e cap n) (sym (same_Some x m u)) ∙ s
    go false s k (suc i) u more = more k i u
