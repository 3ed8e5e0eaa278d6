-- What contracts see of the queues of a network.
use Rattle.std.specs.Prelude.{◌≡◌, ◌+◌, ℕ, suc, Bool, true, false, ◌||◌, Option, Some, None, List, [], ◌∷◌, map, if◌then◌else◌}
use Rattle.chor_base.specs.declared.value.Load.{Load}
use Rattle.chor_base.specs.Events.{Triple, triple_eq}

-- the loads in transit on a triple, and how many more fit without taking memory
pub record LaneView : Type 0 where
  pub triple : Triple
  pub loads : List Load
  pub room : ℕ

-- the queues in the order in which they were made, and how many new ones fit without taking memory
pub record QueuesView : Type 0 where
  pub lanes : List LaneView
  pub fresh : ℕ

-- the queues without their room
abbrev pub loads_in : List LaneView → List (Triple × List Load)
loads_in ls = map (λ l. (l.triple, l.loads)) ls

-- how many loads more fit on a triple, where so many fit a new queue
abbrev pub room_among : ℕ → List LaneView → Triple → ℕ
room_among fresh [] t = fresh
room_among fresh (l ∷ ls) t = if triple_eq l.triple t then l.room else room_among fresh ls t

-- how many loads more fit on a triple without taking memory
abbrev pub room_on : QueuesView → Triple → ℕ
room_on q t = room_among q.fresh q.lanes t

-- a queue of the triple is there
abbrev pub is_there : List LaneView → Triple → Bool
is_there [] t = false
is_there (l ∷ ls) t = triple_eq l.triple t || is_there ls t

-- After a load is put on a triple: its queue, if it was there, has room for one less, and the others that were there keep their
-- room. If its queue was there, so that none is opened, all other triples keep their room
pub record KeepsRoom (old : QueuesView) (t : Triple) (new : QueuesView) : Type 0 where
  pub own : is_there old.lanes t ≡ true → room_on old t ≡ room_on new t + 1
  pub others : (u : Triple) → triple_eq t u ≡ false → is_there old.lanes u ≡ true → room_on new u ≡ room_on old u
  pub unopened : (u : Triple) → triple_eq t u ≡ false → is_there old.lanes t ≡ true → room_on new u ≡ room_on old u

-- the place of the first queue of a triple, where i is the first queue's
abbrev pub lane_from : ℕ → List LaneView → Triple → Option ℕ
lane_from i [] t = None
lane_from i (l ∷ ls) t = if triple_eq l.triple t then Some i else lane_from (suc i) ls t
