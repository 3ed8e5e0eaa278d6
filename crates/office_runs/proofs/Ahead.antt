-- A network that has followed so many of some events.
use Rattle.std.proofs.Common.{◌≡◌, ℕ, suc, ◌+◌, ◌-◌, ◌<◌, ◌^◌, List, length, ◌∙◌, subst, Option, arith}
use Rattle.chor_base.specs.declared.event.Event.{Event}
use Rattle.chor_base.specs.Meaning.{Hosts}
use Rattle.endpoint_code.specs.declared.endpoints.Endpoints.{Endpoints}
use Rattle.endpoint_code.specs.Network.{first_state}
use Rattle.net_core.specs.Follows.{HasFollowed}
use Rattle.net_core.specs.Steps.{AreFew, FitsMore, HasGrown}
use Rattle.net_core.specs.Views.{NetworkView}
use Rattle.net_core.proofs.Runs.{fits_first, fits_fewer, fits_after}

-- it is the network of these programs with this capacity, and all events that are left fit
pub record Ahead (e : Endpoints) (cap : Option ℕ) (xs : List Event) (i : ℕ) (v : NetworkView) : Type 0 where
  pub endpoints : v.endpoints ≡ e
  pub capacity : v.capacity ≡ cap
  pub fits : FitsMore v (length xs - i)

pub begun : (e : Endpoints) (cap : Option ℕ) (xs : List Event) (v : NetworkView) → v.endpoints ≡ e → v.capacity ≡ cap → v.state ≡ first_state e → length xs < 2 ^ 28 → AreFew e (length xs) → Ahead e cap xs 0 v
begun e cap xs v same declared at small few = record {
  endpoints = same;
  capacity = declared;
  fits = subst (FitsMore v) (omega arith) (fits_first e v (length xs) same at (omega (arith, small)) few);
}

pub fits_one : {e : Endpoints} {cap : Option ℕ} (xs : List Event) (i : ℕ) (v : NetworkView) → i < length xs → Ahead e cap xs i v → FitsMore v 1
fits_one xs i v lt u = fits_fewer v 1 (length xs - i) (omega arith) u.fits

pub ahead_more : {e : Endpoints} {cap : Option ℕ} (table : Hosts) (xs : List Event) (i : ℕ) (x : Event) (old new : NetworkView) → i < length xs → Ahead e cap xs i old → HasFollowed table old x new → HasGrown old new → Ahead e cap xs (i + 1) new
ahead_more table xs i x old new lt u f g =
    let left : length xs - i ≡ suc (length xs - (i + 1)) = omega arith in
    record {
      endpoints = f.becomes.endpoints ∙ u.endpoints;
      capacity = f.becomes.capacity ∙ u.capacity;
      fits = fits_after old new (length xs - (i + 1)) f.becomes.endpoints g (subst (FitsMore old) left u.fits);
    }
