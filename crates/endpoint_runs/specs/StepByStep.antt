-- The scheduled run as its definition says.
use Rattle.std.specs.Prelude.{◌≡◌, ◌⊎◌}
use Rattle.net_core.specs.declared.answer.Picked.{Picked}
use Rattle.net_core.specs.declared.answer.Picked.TheVariants.{Memory}
use Rattle.net_core.specs.Picks.{IsStuck}
use Rattle.net_core.specs.Views.{NetworkView, IsSame}

-- there was no memory, or the first process that hasn't ended waits for this cause; and nothing changes but room
pub record TellsWhy (old : NetworkView) (picked : Picked) (new : NetworkView) : Type 0 where
  pub same : IsSame old new
  pub stuck : (picked ≡ Memory) ⊎ IsStuck old.endpoints old.capacity old.state picked
