-- The place of a state, found from left to right.
use Rattle.std.proofs.Common.{ℕ, zero, suc, ◌≡◌, ◌+◌, ◌<◌, ◌∙◌, ◌==◌, length, get_or, Bool, true, false, true≢false, List, [], ◌∷◌, refl, sym, ap, arith}
use Rattle.std.specs.Prelude.{Option, Some, None, is_some, if◌then◌else◌}
use Rattle.chor_base.specs.declared.names.NameId.{NameId}
use Rattle.chor_tree.specs.declared.protocol.State.{State}
use Rattle.chor_base.specs.FirstPlaces.{one_later}
use Rattle.global_types.specs.Moves.{state_named}

-- a state that has the name is found, wherever it stands
pub there : (ss : List State) (i : ℕ) (q : NameId) (s : State) → i < length ss → s ≡ get_or ss i s → (s.name.name.0 == q.0) ≡ true → is_some (state_named ss q) ≡ true
there [] i q s lt at h = absurd (omega (arith, lt))
there (r ∷ ss) i q s lt at h = go (r.name.name.0 == q.0) refl i lt at (λ j l e. there ss j q s l e h)
  where
    passed : (o : Option ℕ) → is_some o ≡ true → is_some (one_later o) ≡ true
    passed None e = e
    passed (Some k) e = refl

    go : (b : Bool) → (r.name.name.0 == q.0) ≡ b → (j : ℕ) → j < length (r ∷ ss) → s ≡ get_or (r ∷ ss) j s → ((k : ℕ) → k < length ss → s ≡ get_or ss k s → is_some (state_named ss q) ≡ true)
        → is_some (if b then Some 0 else one_later (state_named ss q)) ≡ true
    go true e j l at' more = refl
    go false e zero l at' more = absurd (true≢false (sym h ∙ ap (λ (x : State). x.name.name.0 == q.0) at' ∙ e))
    go false e (suc j) l at' more = passed (state_named ss q) (more j (omega (arith, l)) at')
