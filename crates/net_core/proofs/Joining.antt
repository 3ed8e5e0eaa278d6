-- Partners among those who join a channel.
use Rattle.std.proofs.Common.{◌≡◌, ℕ, ◌<◌, Bool, true, false, List, length, get_or, refl, sym, ap, ◌∙◌, Option, Some, None}
use Rattle.std.specs.Prelude.{slice_get}
use Rattle.std.proofs.lemmas.Option.{slice_get_within, slice_get-get_or, same_Some}
use Rattle.std.proofs.lemmas.Bool.{true≢false}
use Rattle.chor_base.specs.declared.names.NameId.{NameId}
use Rattle.endpoint_code.specs.declared.endpoints.Endpoints.{Endpoints}
use Rattle.endpoint_code.specs.Network.{Machine, NetworkState, place_of, place_at}
use Rattle.endpoint_code.specs.NetworkRuns.{joins_there, is_joined}
use Rattle.waiting_processes.specs.declared.waits.Awaited.TheVariants.{Channel}
use Rattle.waiting_processes.specs.Waits.{awaited_in, awaited_at}
use Rattle.waiting_processes.proofs.Listing.{joining_head}
use Rattle.net_core.specs.Heads.{joins_in}
use Rattle.net_core.specs.Candidates.{AreJoiners}
use Rattle.net_core.proofs.Leaders.{joined_at, joined_by}

module _ (e : Endpoints) (cap : Option ℕ) (n : NetworkState) (c r : NameId) where
  -- one that joins
  pub joined_here : (p : ℕ) → p < length n.machines → joins_in e n p c r ≡ true → is_joined e n.machines c r ≡ true
  joined_here p lt h = go (slice_get n.machines p) refl h
    where
      go : (o : Option Machine) → slice_get n.machines p ≡ o → joins_there (place_at e o) c r ≡ true → is_joined e n.machines c r ≡ true
      go None i j = absurd cc
      go (Some m) i j = joined_by e n.machines c r p m i j

  -- none of those who join the channel does in this role
  pub joined_nowhere : (ps : List ℕ) → AreJoiners e cap n c ps → ((k : ℕ) → k < length ps → joins_in e n (get_or ps k 0) c r ≡ false) → is_joined e n.machines c r ≡ false
  joined_nowhere ps all none = go (is_joined e n.machines c r) refl
    where
      go : (b : Bool) → is_joined e n.machines c r ≡ b → is_joined e n.machines c r ≡ false
      go false h = h
      go true h =
          let f = joined_at e n.machines c r h in
          let waits : awaited_at e cap n f.0 ≡ Some (Channel c) = ap (awaited_in e cap) f.2 ∙ joining_head cap (place_of e f.1) c r f.3 in
          let i = all f.0 (slice_get_within n.machines f.0 f.1 f.2) waits in
          let lt : i.0 < length ps = slice_get_within ps i.0 f.0 i.1 in
          let there : get_or ps i.0 0 ≡ f.0 = (same_Some (get_or ps i.0 0) f.0 (sym (slice_get-get_or ps i.0 0 lt) ∙ i.1)) in
          let yes : joins_in e n (get_or ps i.0 0) c r ≡ true = ap (λ (k : ℕ). joins_in e n k c r) there ∙ ap (λ (o : Option Machine). joins_there (place_at e o) c r) f.2 ∙ f.3 in
          let no : joins_in e n (get_or ps i.0 0) c r ≡ false = none i.0 lt in
          absurd (true≢false (sym yes ∙ no))
