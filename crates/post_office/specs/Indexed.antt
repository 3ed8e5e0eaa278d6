-- Queues that are found by their triples.
use Rattle.std.specs.Prelude.{◌≡◌, List, [], map}
use Rattle.chor_base.specs.declared.value.Load.{Load}
use Rattle.chor_base.specs.Events.{Triple}
use Rattle.post_office.specs.declared.queues.Direction.{Direction}
use Rattle.post_office.specs.Lanes.{LaneView}

-- the triple of a direction
abbrev pub triple_of : Direction → Triple
triple_of d = (d.sid, d.from, d.to)

-- each queue stands at the place of its triple, and the spare queue is empty
pub record IsIndexed (directions : List Direction) (lanes : List LaneView) (spare : List Load) : Type 0 where
  pub same : map triple_of directions ≡ map (λ l. l.triple) lanes
  pub unused : spare ≡ []
