-- A network that follows given events.
use Rattle.std.proofs.Common.{◌≡◌, ◌∙◌, ◌+◌, ◌-◌, ◌<◌, ◌≤◌, ℕ, suc, List, [], ◌∷◌, ◌++◌, length, take, get_or, sym, ap, subst, Option, arith}
use Rattle.std.proofs.Math.Seq.{take-length}
use Rattle.std.proofs.lemmas.List.{map-append, take_more}
use Rattle.chor_base.specs.declared.event.Entry.{Entry}
use Rattle.chor_base.specs.declared.event.Event.{Event}
use Rattle.chor_base.specs.Meaning.{Hosts}
use Rattle.endpoint_code.specs.declared.endpoints.Endpoints.{Endpoints}
use Rattle.endpoint_code.specs.Network.{first_state}
use Rattle.endpoint_code.specs.NetworkRuns.{IsNetworkRun}
use Rattle.net_core.specs.Follows.{HasFollowed}
use Rattle.net_core.specs.Picks.{entries_of}
use Rattle.net_core.specs.Steps.{AreFew, FitsMore, HasGrown}
use Rattle.net_core.specs.Views.{NetworkView}
use Rattle.net_core.proofs.Runs.{fits_first, fits_fewer, fits_after}
use Rattle.replay.proofs.Runs.{Underway, underway_more}
use Rattle.resume.specs.Resumes.{StandsAfter}

-- what holds after so many of the events, where a run may have so many at most
pub record Along (e : Endpoints) (hosts : Hosts) (cap : Option ℕ) (xs : List Event) (most i : ℕ) (v : NetworkView) : Type 0 where
  pub underway : Underway e hosts cap xs i v
  pub history : v.history ≡ entries_of (take i xs)
  pub room : FitsMore v (most - i)

module _ (e : Endpoints) (hosts : Hosts) (cap : Option ℕ) (xs : List Event) (most : ℕ) (some : length xs ≤ most) where
  pub begun : (v : NetworkView) → v.endpoints ≡ e → v.capacity ≡ cap → v.state ≡ first_state e → v.history ≡ [] → most ≤ 1000000 → AreFew e most → Along e hosts cap xs most 0 v
  begun v same free at none small few =
      let room = fits_first e v most same at (omega (arith, small)) few in
      record {
        underway = record { endpoints = same; capacity = free; run = sym at; fits = fits_fewer v (length xs - 0) most (omega (arith, some)) room };
        history = none;
        room = subst (FitsMore v) (omega arith) room;
      }

  pub more : (i : ℕ) (old new : NetworkView) (x : Event) → i < length xs → x ≡ get_or xs i x → Along e hosts cap xs most i old → HasFollowed hosts old x new → HasGrown old new → Along e hosts cap xs most (i + 1) new
  more i old new x lt is a f g =
      let followed = subst (λ (y : Event). HasFollowed hosts old y new) is f in
      let left : most - i ≡ suc (most - (i + 1)) = omega (arith, lt, some) in
      let longer : take (i + 1) xs ≡ take i xs ++ x ∷ [] = take_more xs i x lt ∙ ap (λ (y : Event). take i xs ++ y ∷ []) (sym is) in
      record {
        underway = underway_more e hosts cap xs i x old new lt a.underway followed g;
        history =
            f.becomes.history
            ∙ ap (λ (es : List Entry). es ++ record { worker = 0; event = x } ∷ []) a.history
            ∙ sym (map-append _ (take i xs) (x ∷ []))
            ∙ ap entries_of (sym longer);
        room = fits_after old new (most - (i + 1)) f.becomes.endpoints g (subst (FitsMore old) left a.room);
      }

  -- all of them are followed
  pub stands : (i : ℕ) (v : NetworkView) → i ≡ length xs → Along e hosts cap xs most i v → StandsAfter e hosts cap xs v
  stands i v all a =
      let whole : take i xs ≡ xs = ap (λ (k : ℕ). take k xs) all ∙ take-length xs in
      record {
        endpoints = a.underway.endpoints;
        capacity = a.underway.capacity;
        run = subst (λ (l : List Event). IsNetworkRun e hosts cap l v.state) whole a.underway.run;
        history = a.history ∙ ap entries_of whole;
      }

  pub fits : (i : ℕ) (v : NetworkView) → i ≡ length xs → Along e hosts cap xs most i v → FitsMore v (most - length xs)
  fits i v all a = subst (λ (k : ℕ). FitsMore v (most - k)) all a.room
