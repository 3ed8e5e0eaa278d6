-- Starts of one of several channels.
use Rattle.std.specs.Prelude.{ℕ, ◌≡◌, ◌<◌, ◌==◌, Bool, true, false, List, length}
use Rattle.std.specs.List.{list_all}
use Rattle.chor_base.specs.declared.names.NameId.{NameId}
use Rattle.chor_tree.specs.declared.tree.Part.{Part}
use Rattle.chor_semantics.specs.Sources.{parts_of, served_of}
use Rattle.well_formed.specs.Linear.{Members, after_start}
use Rattle.well_formed.specs.WellFormed.{firsts, service_refs}
use Rattle.linear_check.specs.declared.heard.Heard.{Heard}
use Rattle.linear_check.specs.Heard.{hears}
use Rattle.linear_check.specs.Tracks.{channel_at}

-- whether the channel of a number has a name
abbrev pub has_name : List NameId → ℕ → NameId → Bool
has_name channels c k = k.0 == (channel_at channels c).0

-- for each channel the members after a start of the channel of a name
abbrev pub members_after_start : List NameId → (ℕ → Members) → NameId → List Part → List Part → ℕ → Members
members_after_start channels m k active serve = λ c. after_start (has_name channels c k) (m c) (firsts (parts_of active)) (service_refs 0 (served_of serve))

-- a start is one of one of the channels, and not all of its active processes have heard of that channel
abbrev pub IsMissed : List NameId → Heard → NameId → List Part → Type 0
IsMissed channels h k active = (c : ℕ) × (c < length channels) × (has_name channels c k ≡ true) × (list_all (λ q. hears h c q.process.name.0) active ≡ false)
