-- Starts by what is posted (this project's own).
use Rattle.std.specs.Prelude.{ℕ, suc, ◌≡◌, ◌+◌, ◌^◌, ◌<◌, ◌==◌, ◌&&◌, ◌++◌, Bool, true, false, List, [], ◌∷◌, length, max, Option, Some, None, is_some, All, if◌then◌else◌}
use Rattle.std.proofs.Math.ListN.{replicate}
use Rattle.chor_base.specs.declared.names.NameId.{NameId}
use Rattle.chor_base.specs.declared.event.Event.TheVariants as event
use Rattle.endpoint_code.specs.declared.endpoints.Channel.{Channel}
use Rattle.endpoint_code.specs.Network.{channel_of, served_parts}
use Rattle.post_office.specs.declared.desk.Desk.{Desk}
use Rattle.post_office.specs.declared.post.Post.{Post}
use Rattle.post_office.specs.declared.post.Post.TheVariants.{Joining}
use Rattle.post_office.specs.declared.post.Started.{Started as Starting}
use Rattle.post_office.specs.declared.post.Started.TheVariants.{Started, Absent, Memory}
use Rattle.post_office.specs.Views.{OfficeView, post_at, idle, all_joined}
use Rattle.post_office.specs.Answers.{IsSame, HasNoted}

-- ---- partners

abbrev pub joins_as : Post → NameId → NameId → Bool
joins_as (Joining d q) c r = (d.0 == c.0) && (q.0 == r.0)
joins_as _ c r = false

-- the least process, from number p on, that is posted as joining channel c in role r
abbrev pub least_posted : ℕ → List Desk → NameId → NameId → Option ℕ
least_posted p [] c r = None
least_posted p (d ∷ ds) c r = if joins_as d.post c r then Some p else least_posted (suc p) ds c r

-- the process that takes a part in a start that p makes in its own role
abbrev pub partner_for : List Desk → NameId → ℕ → NameId → NameId → Option ℕ
partner_for ds c p own r = if r.0 == own.0 then Some p else least_posted 0 ds c r

-- the first role, other than a process's own, in which nobody is posted as joining
abbrev pub first_absent : List Desk → NameId → ℕ → NameId → List NameId → Option NameId
first_absent ds c p own [] = None
first_absent ds c p own (r ∷ rs) = if is_some (partner_for ds c p own r) then first_absent ds c p own rs else Some r

-- each role has its process
pub data IsCast (ds : List Desk) (c : NameId) (p : ℕ) (own : NameId) : List NameId → List (NameId × ℕ) → Type 0 where
  no_role : IsCast ds c p own [] []
  one_role : {r : NameId} {q : ℕ} {rs : List NameId} {ps : List (NameId × ℕ)} → partner_for ds c p own r ≡ Some q → IsCast ds c p own rs ps → IsCast ds c p own (r ∷ rs) ((r, q) ∷ ps)

-- each process is posted as joining the channel in its role
abbrev pub AllPosted : List Desk → NameId → List (NameId × ℕ) → Type 0
AllPosted ds c ps = All (λ q. joins_as (post_at ds q.1) c q.0 ≡ true) ps

-- ---- numbers

abbrev pub most_served : List Channel → ℕ
most_served [] = 0
most_served (k ∷ ks) = max (length k.serve) (most_served ks)

-- one start more leaves the numbers of sessions and processes below 2^32
pub record FitsStart (v : OfficeView) : Type 0 where
  pub sid : v.sid + 1 < 2 ^ 32
  pub processes : length v.desks + most_served v.endpoints.channels < 2 ^ 32

-- ---- starts

-- A session has started on a channel with these parts, and with the next processes for its service roles; all of them have that start to take over
pub record HasBegun (old : OfficeView) (worker : ℕ) (k : Channel) (parts : List (NameId × ℕ)) (new : OfficeView) : Type 0 where
  pub noted : HasNoted old worker (event.Start k.name old.sid (parts ++ served_parts k.serve (length old.desks))) new
  pub queues : new.queues ≡ old.queues
  pub sid : new.sid ≡ suc old.sid
  pub desks : new.desks ≡ all_joined old.sid (parts ++ served_parts k.serve (length old.desks)) (old.desks ++ replicate (length k.serve) idle)

-- process p has started the next session in its own role of channel c, with the least partners that are posted
pub record HasStarted (old : OfficeView) (worker p : ℕ) (c own : NameId) (s : ℕ) (new : OfficeView) : Type 0 where
  pub channel : Channel
  pub found : channel_of old.endpoints.channels c ≡ Some channel
  pub parts : List (NameId × ℕ)
  pub cast : IsCast old.desks c p own channel.active parts
  pub begun : HasBegun old worker channel parts new
  pub session : s ≡ old.sid

-- the first other active role of channel c in which nobody is posted as joining
pub record LacksPartner (old : OfficeView) (p : ℕ) (c own : NameId) (o : Option NameId) : Type 0 where
  pub channel : Channel
  pub found : channel_of old.endpoints.channels c ≡ Some channel
  pub absent : first_absent old.desks c p own channel.active ≡ o

-- What a start answers. Where there is no memory, all partners are posted and nothing has changed but room
abbrev pub AnswersStart : OfficeView → ℕ → ℕ → NameId → NameId → Starting → OfficeView → Type 0
AnswersStart old worker p c own (Started s) new = HasStarted old worker p c own s new
AnswersStart old worker p c own (Absent r) new = LacksPartner old p c own (Some r) × (new ≡ old)
AnswersStart old worker p c own Memory new = LacksPartner old p c own None × IsSame old new

-- the same by the post of the process, which joins
abbrev pub AnswersStartBy : OfficeView → ℕ → ℕ → Post → Starting → OfficeView → Type 0
AnswersStartBy old worker p (Joining c own) s new = AnswersStart old worker p c own s new
AnswersStartBy old worker p _ s new = ⊥

abbrev pub is_joining : Post → Bool
is_joining (Joining c r) = true
is_joining _ = false
