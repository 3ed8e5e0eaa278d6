-- Which processes have heard of the last start of a channel.
use Rattle.std.specs.Prelude.{ℕ, ◌==◌, ◌||◌, ◌&&◌, Bool}
use Rattle.std.specs.List.{list_any}
use Rattle.linearity.specs.Marks.{is_marked}
use Rattle.linear_check.specs.declared.heard.Heard.{Heard}

-- whether the process of a number has heard of the channel of a number
abbrev pub hears : Heard → ℕ → ℕ → Bool
hears h c x = is_marked h.all c || list_any (λ e. (e.0.0 == x) && is_marked e.1 c) h.entries
