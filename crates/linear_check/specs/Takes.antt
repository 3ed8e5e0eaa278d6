-- What calls take away from the sets.
use Rattle.std.specs.Prelude.{ℕ, zero, suc, ◌≡◌, ◌<◌, ◌==◌, ◌&&◌, Bool, true, List, [], ◌∷◌, length, if◌then◌else◌}
use Rattle.chor_base.specs.declared.names.NameId.{NameId}
use Rattle.chor_tree.specs.declared.file.Named.{Named}
use Rattle.chor_tree.specs.Source.{Block, Then, Either, Calls, Ends}
use Rattle.chor_semantics.specs.Blocks.{choreography_of}
use Rattle.well_formed.specs.Linear.{Members}
use Rattle.linearity.specs.Taken.{taken}
use Rattle.linear_check.specs.declared.heard.Heard.{Heard}
use Rattle.linear_check.specs.declared.sets.Sets.{Sets}
use Rattle.linear_check.specs.Heard.{hears}
use Rattle.linear_check.specs.Sets.{holds}
use Rattle.linear_check.specs.Tracks.{channel_at}

-- whether the process that is passed in a parameter's place has heard
abbrev pub is_heard : Heard → ℕ → List Named → ℕ → Bool
is_heard h c [] i = true
is_heard h c (p ∷ ps) zero = hears h c p.name.0
is_heard h c (p ∷ ps) (suc i) = is_heard h c ps i

-- the parameters of a procedure for which these processes are passed stay where these have heard
abbrev pub TakesInCall : Heard → NameId → List Named → Sets → Sets → Type 0
TakesInCall h f ps old new =
    (c : ℕ) (g : NameId) (i : ℕ) → c < 128 → holds new c g i ≡ (if f.0 == g.0 then holds old c g i && is_heard h c ps i else holds old c g i)

abbrev pub TakesAtTail : Heard → Block → Sets → Sets → Type 0
TakesAtTail h (Calls place f ps ss) old new = TakesInCall h f.name ps old new
TakesAtTail h (Then place s next) old new = new ≡ old
TakesAtTail h (Either place p e first second) old new = new ≡ old
TakesAtTail h (Ends place) old new = new ≡ old

-- the sets after a walk of a block are those of the definition, for each channel
abbrev pub TakesAway : List NameId → (ℕ → Members) → Block → Sets → Sets → Type 0
TakesAway channels m b old new =
    (c : ℕ) → c < length channels → (g : NameId) (i : ℕ) → holds new c g i ≡ taken (channel_at channels c) (holds old c) (m c) (choreography_of b) g i
