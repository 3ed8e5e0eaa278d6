-- How a run stands, by what is posted of its processes (this project's own).
use Rattle.std.specs.Prelude.{ℕ, suc, ◌≡◌, ◌<◌, ◌&&◌, ◌||◌, ◌==◌, not, Bool, true, false, List, [], ◌∷◌, length, Option, Some, None, is_some, if◌then◌else◌, nat_lt}
use Rattle.chor_base.specs.declared.names.NameId.{NameId}
use Rattle.chor_base.specs.declared.value.Load.{Load}
use Rattle.chor_base.specs.declared.event.Event.{Event}
use Rattle.chor_base.specs.declared.event.Event.TheVariants as event
use Rattle.chor_base.specs.declared.event.Why.{Why}
use Rattle.chor_base.specs.declared.event.Why.TheVariants.{Empty, Wrong, Full, Absent}
use Rattle.endpoint_code.specs.declared.endpoints.Channel.{Channel}
use Rattle.endpoint_code.specs.Network.{NetworkState, channel_of}
use Rattle.endpoint_code.specs.NetworkRuns.{all_ended, none_can_step}
use Rattle.endpoint_code.specs.Scheduled.{first_waiting}
use Rattle.post_office.specs.declared.desk.Desk.{Desk}
use Rattle.post_office.specs.declared.post.Post.{Post}
use Rattle.post_office.specs.declared.post.Post.TheVariants.{Busy, Joining, Waiting, Ended}
use Rattle.post_office.specs.declared.post.Standing.{Standing}
use Rattle.post_office.specs.declared.post.Standing.TheVariants as stands
use Rattle.post_office.specs.Views.{OfficeView, IsAfter, events_of, loads_at, is_full}
use Rattle.post_office.specs.Starts.{first_absent}

-- ---- by what is posted

abbrev pub is_ended : Post → Bool
is_ended Busy = false
is_ended (Joining c r) = false
is_ended (Waiting why) = false
is_ended Ended = true

abbrev pub is_empty : List Load → Bool
is_empty [] = true
is_empty (l ∷ ls) = false

-- the cause of a post is still true of the queues
abbrev pub still_holds : OfficeView → Why → Bool
still_holds v (Empty s a b) = is_empty (loads_at v.queues (s, a, b))
still_holds v (Wrong s a b) = not (is_empty (loads_at v.queues (s, a, b)))
still_holds v (Full s a b) = is_full v (s, a, b)
still_holds v (Absent c r) = false

abbrev pub absent_cause : NameId → Option NameId → Option Why
absent_cause c None = None
absent_cause c (Some r) = Some (Absent c r)

abbrev pub absent_posted : OfficeView → ℕ → NameId → NameId → Option Channel → Option Why
absent_posted v p c own None = None
absent_posted v p c own (Some k) = absent_cause c (first_absent v.desks c p own k.active)

-- The cause by which process p can't go on, by its post: one that still holds, or the first other active role of the channel
-- that it joins in which no process is posted as joining
abbrev pub cause_of : OfficeView → ℕ → Post → Option Why
cause_of v p Busy = None
cause_of v p Ended = None
cause_of v p (Waiting why) = if still_holds v why then Some why else None
cause_of v p (Joining c own) = absent_posted v p c own (channel_of v.endpoints.channels c)

-- each process, from number p on, is posted as ended or has such a cause
abbrev pub all_rest : OfficeView → ℕ → List Desk → Bool
all_rest v p [] = true
all_rest v p (d ∷ ds) = (is_ended d.post || is_some (cause_of v p d.post)) && all_rest v (suc p) ds

-- the first process, from number p on, that isn't posted as ended, with its cause
abbrev pub first_resting : OfficeView → ℕ → List Desk → Option (ℕ × Option Why)
first_resting v p [] = None
first_resting v p (d ∷ ds) = if is_ended d.post then first_resting v (suc p) ds else Some (p, cause_of v p d.post)

abbrev pub standing_by : Option (ℕ × Option Why) → Standing
standing_by None = stands.Ended
standing_by (Some (p, None)) = stands.Going
standing_by (Some (p, Some why)) = stands.Stuck p why

-- How a run stands. Ended: every process is posted as ended. Stuck: some aren't, and each of these has a cause. Going: else
abbrev pub standing_of : OfficeView → Standing
standing_of v = if all_rest v 0 v.desks then standing_by (first_resting v 0 v.desks) else stands.Going

-- ---- after the events so far

-- All processes have ended; or none can step, and the first that hasn't ended waits by this cause
abbrev pub IsTrueAfter : OfficeView → Standing → Type 0
IsTrueAfter v stands.Going = Unit {0}
IsTrueAfter v stands.Ended = (n : NetworkState) → IsAfter v n → all_ended v.endpoints n.machines ≡ true
IsTrueAfter v (stands.Stuck p why) = (n : NetworkState) → IsAfter v n → (none_can_step v.endpoints v.capacity n n.machines ≡ true) × (first_waiting v.endpoints v.capacity n ≡ Some (p, Some why))

-- ---- the start that made a process

abbrev pub role_of : List (NameId × ℕ) → ℕ → Option NameId
role_of [] p = None
role_of (q ∷ qs) p = if q.1 == p then Some q.0 else role_of qs p

abbrev pub born_with : NameId → ℕ → Option NameId → Option (ℕ × NameId × NameId) → Option (ℕ × NameId × NameId)
born_with c s None later = later
born_with c s (Some r) later = Some (s, c, r)

-- the session, channel and role of the first start in which a process has a part
abbrev pub first_start : List Event → ℕ → Option (ℕ × NameId × NameId)
first_start [] p = None
first_start (event.Start c s ps ∷ xs) p = born_with c s (role_of ps p) (first_start xs p)
first_start (_ ∷ xs) p = first_start xs p

-- The session, channel and role of the start that made a process; none made the processes that are there from the beginning
abbrev pub born_of : OfficeView → ℕ → Option (ℕ × NameId × NameId)
born_of v p = if nat_lt p (length v.endpoints.processes) then None else first_start (events_of v.history) p
