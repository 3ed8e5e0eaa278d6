-- What an office keeps.
use Rattle.std.specs.Prelude.{ℕ, ◌≡◌, ◌<◌, ◌^◌, length}
use Rattle.endpoint_code.specs.Faults.{IsFaultless}
use Rattle.endpoint_code.specs.Network.{NetworkState}
use Rattle.post_office.specs.declared.post.Post.{Post}
use Rattle.post_office.specs.Lanes.{loads_in}
use Rattle.post_office.specs.Views.{OfficeView, IsAfter, post_at}
use Rattle.post_office.specs.Posts.{IsTrueIn}

-- Its history is a run of its origin; its queues and counters are those of the state after that run; what was posted of a process is true there
pub record IsKept (v : OfficeView) : Type 0 where
  pub faultless : IsFaultless v.endpoints
  pub state : NetworkState
  pub after : IsAfter v state
  pub queues : loads_in v.queues.lanes ≡ state.queues
  pub sid : state.sid ≡ v.sid
  pub processes : length state.machines ≡ length v.desks
  pub few : length v.desks < 2 ^ 32
  pub posts : (p : ℕ) → IsTrueIn v.endpoints state p (post_at v.desks p)

-- what is posted of a process is true of it after the events so far
abbrev pub CanPost : OfficeView → ℕ → Post → Type 0
CanPost v p post = (n : NetworkState) → IsAfter v n → IsTrueIn v.endpoints n p post
