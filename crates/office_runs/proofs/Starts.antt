-- A start that an office makes of what was posted for it.
use Rattle.std.proofs.Common.{◌≡◌, ◌≢◌, ℕ, ◌<◌, ◌≤◌, ◌==◌, ◌&&◌, inl, inr, true, List, [], ◌∷◌, ◌++◌, length, refl, sym, ap, ◌∙◌, subst, Option, Some, None, arith}
use Rattle.std.specs.Prelude.{map, slice_get, All}
use Rattle.std.proofs.Math.ListN.{replicate}
use Rattle.std.proofs.lemmas.List.Elements.{All-nil, All-cons, All-head, All-tail}
use Rattle.std.proofs.lemmas.Bool.{and_parts}
use Rattle.chor_base.specs.declared.names.NameId.{NameId}
use Rattle.chor_base.specs.declared.event.Event.TheVariants as event
use Rattle.endpoint_code.specs.declared.endpoints.Channel.{Channel}
use Rattle.endpoint_code.specs.declared.endpoints.Endpoints.{Endpoints}
use Rattle.endpoint_code.specs.Network.{Machine, NetworkState, place_at, channel_of, served_parts}
use Rattle.endpoint_code.specs.NetworkRuns.{joins_there}
use Rattle.endpoint_code.specs.Faults.{AreDistinct}
use Rattle.session_starts.specs.Starts.{AreApart}
use Rattle.net_core.specs.Follows.{joined_by}
use Rattle.net_core.proofs.Begins.{channel_distinct}
use Rattle.net_core.proofs.Castings.{step_casting, all_join, joined_apart}
use Rattle.post_office.specs.declared.desk.Desk.{Desk}
use Rattle.post_office.specs.declared.post.Post.{Post}
use Rattle.post_office.specs.declared.post.Post.TheVariants.{Busy, Joining}
use Rattle.post_office.specs.declared.post.Started.TheVariants.{Started, Absent}
use Rattle.post_office.specs.Views.{OfficeView, post_at, idle}
use Rattle.post_office.specs.Kept.{IsKept}
use Rattle.post_office.specs.Answers.{HasNoted}
use Rattle.post_office.specs.Starts.{joins_as, is_joining, first_absent, AllPosted, AnswersStart, AnswersStartBy, HasStarted}
use Rattle.post_office.proofs.Callers.{one_state}
use Rattle.post_office.proofs.Casts.{name_same, cast_roles, cast_posted}
use Rattle.office_runs.specs.Told.{MayCome, HasPosted, AllBusy, AreOthers, joined_board}
use Rattle.office_runs.proofs.Alike.{count_posts}
use Rattle.office_runs.proofs.Parts.{channel_name, start_same, noted_from}
use Rattle.office_runs.proofs.Board.{Has, board_posts, board_served, board_long, appended_busy, joined_stays, joined_sets}
use Rattle.office_runs.proofs.Partners.{joins_own, all_within, parts_posted, none_absent, same_parts, posted_part}

joined_roles : (e : Endpoints) (ms : List Machine) (c : NameId) (rs : List NameId) (qs : List (NameId × ℕ)) → joined_by e ms c rs qs ≡ true → map (λ q. q.0) qs ≡ rs
joined_roles e ms c [] [] h = refl
joined_roles e ms c [] (q ∷ qs) h = absurd cc
joined_roles e ms c (r ∷ rs) [] h = absurd cc
joined_roles e ms c (r ∷ rs) (q ∷ qs) h =
    let parts = and_parts ((q.0.0 == r.0) && joins_there (place_at e (slice_get ms q.1)) c r) (joined_by e ms c rs qs) h in
    let own = and_parts (q.0.0 == r.0) (joins_there (place_at e (slice_get ms q.1)) c r) parts.0 in
    let head : q.0 ≡ r = name_same q.0 r own.0 in
    let tail = joined_roles e ms c rs qs parts.1 in
    (λ i. head i ∷ tail i)

-- who takes part in a start, of a channel and in its roles
pub record Cast (w : OfficeView) (count : ℕ) (c : NameId) (s : ℕ) (parts : List (NameId × ℕ)) : Type 0 where
  pub channel : Channel
  pub joining : List (NameId × ℕ)
  pub found : channel_of w.endpoints.channels c ≡ Some channel
  pub sid : s ≡ w.sid
  pub long : count ≡ length w.desks
  pub whole : parts ≡ joining ++ served_parts channel.serve count
  pub some : joining ≢ []
  pub roles : map (λ q. q.0) joining ≡ channel.active
  pub distinct : AreDistinct channel.active
  pub apart : AreApart joining
  pub within : All (λ q. q.1 < count) joining

pub cast_of : (w : OfficeView) (count : ℕ) (c : NameId) (s : ℕ) (parts : List (NameId × ℕ)) → MayCome w count (event.Start c s parts) → IsKept w → Cast w count c s parts
cast_of w count c s parts m kept =
    let casting = step_casting w.endpoints w.hosts w.capacity m.state c s parts (m.next, m.steps) in
    let k : Channel = casting.0 in
    let cast = casting.3 in
    let ms = m.state.machines in
    let same : kept.state ≡ m.state = one_state w kept.state m.state kept.after m.after in
    let distinct = channel_distinct w.endpoints c k kept.faultless casting.1 in
    let roles = joined_roles w.endpoints ms k.name k.active cast.joining cast.joins in
    record {
      channel = k;
      joining = cast.joining;
      found = casting.1;
      sid = casting.2 ∙ ap (λ (n : NetworkState). n.sid) (sym same) ∙ kept.sid;
      long = count_posts w count (event.Start c s parts) m kept;
      whole = cast.whole ∙ ap (λ (n : ℕ). cast.joining ++ served_parts k.serve n) (sym m.processes);
      some = λ e. cast.some (sym roles ∙ ap (λ (qs : List (NameId × ℕ)). map (λ q. q.0) qs) e);
      roles = roles;
      distinct = distinct;
      apart = joined_apart w.endpoints ms k.name k.active cast.joining cast.joins distinct;
      within = subst (λ (n : ℕ). All (λ q. q.1 < n) cast.joining) (sym m.processes) (all_within w.endpoints ms k.name cast.joining (all_join w.endpoints ms k.name k.active cast.joining cast.joins));
    }

-- so some of them are there already
pub some_there : {w : OfficeView} {count : ℕ} {c : NameId} {s : ℕ} {parts : List (NameId × ℕ)} → Cast w count c s parts → AreOthers count parts → ⊥
some_there {w} {count} {c} {s} {parts} a others = go a.joining a.some a.within (subst (AreOthers count) a.whole others)
  where
    go : (qs : List (NameId × ℕ)) → qs ≢ [] → All (λ q. q.1 < count) qs → AreOthers count (qs ++ served_parts a.channel.serve count) → ⊥
    go [] some h k = some refl
    go (q ∷ qs) some h k =
        let lt : q.1 < count = All-head (λ (x : NameId × ℕ). x.1 < count) q qs h in
        let le : count ≤ q.1 = All-head (λ (x : NameId × ℕ). count ≤ x.1) q (qs ++ served_parts a.channel.serve count) k in
        absurd (omega (arith, lt, le))

has_front : (x : NameId × ℕ) (qs rs : List (NameId × ℕ)) → Has x qs → Has x (qs ++ rs)
has_front x [] rs h = absurd h
has_front x (q ∷ qs) rs (inl e) = inl e
has_front x (q ∷ qs) rs (inr h) = inr (has_front x qs rs h)

same_channel : {j k : Channel} {o : Option Channel} → o ≡ Some j → o ≡ Some k → j ≡ k
same_channel {j} {k} e f = let g : Some j ≡ Some k = sym e ∙ f in cc

module _ {w : OfficeView} {count : ℕ} {c : NameId} {s : ℕ} {parts : List (NameId × ℕ)} (a : Cast w count c s parts) (busy : AllBusy w) where
  -- the office once they are posted
  abbrev posted_office : OfficeView
  posted_office = record w { desks = joined_board w.desks c count a.joining }

  is_posted : (u : OfficeView) → HasPosted w u → u.desks ≡ joined_board w.desks c count parts → u ≡ posted_office
  is_posted u h e =
      let board : joined_board w.desks c count parts ≡ joined_board w.desks c count a.joining = ap (λ (qs : List (NameId × ℕ)). joined_board w.desks c count qs) a.whole ∙ board_served c count a.joining a.channel.serve count w.desks (omega arith) in
      h.same ∙ ap (λ (ds : List Desk). let v : OfficeView = record w { desks = ds } in v) (e ∙ board)

  abbrev post : ℕ → Post
  post p = post_at (joined_board w.desks c count a.joining) p

  -- who is posted as joining joins this channel
  record Joins (p : ℕ) : Type 0 where
    own : NameId
    is : post p ≡ Joining c own

  joins : (p : ℕ) → is_joining (post p) ≡ true → Joins p
  joins p h = elim (board_posts c count a.joining w.desks p) [
    | inl same ↦ (let no : is_joining Busy ≡ true = subst (λ (x : Post). is_joining x ≡ true) (same ∙ busy p) h in absurd cc)
    | inr is ↦ record { own = is.role; is = is.joins }
  ]

  no_absent : (p : ℕ) (r : NameId) (u : OfficeView) → is_joining (post p) ≡ true → AnswersStartBy posted_office 0 p (post p) (Absent r) u → ⊥
  no_absent p r u h answer = go (subst (λ (x : Post). AnswersStartBy posted_office 0 p x (Absent r) u) j.is answer)
    where
      j : Joins p
      j = joins p h

      go : AnswersStart posted_office 0 p c j.own (Absent r) u → ⊥
      go k =
          let same : k.0.channel ≡ a.channel = same_channel k.0.found a.found in
          let none : first_absent posted_office.desks c p j.own k.0.channel.active ≡ None =
          none_absent posted_office.desks c p j.own k.0.channel.active a.joining (a.roles ∙ ap (λ (x : Channel). x.active) (sym same)) (parts_posted c a.joining w.desks count a.long a.apart a.within) in
          let no : None ≡ Some r = sym none ∙ k.0.absent in
          cc

  started : (p t : ℕ) (u : OfficeView) → is_joining (post p) ≡ true → AnswersStartBy posted_office 0 p (post p) (Started t) u → HasNoted w 0 (event.Start c s parts) u × AllBusy u
  started p t u h answer = go (subst (λ (x : Post). AnswersStartBy posted_office 0 p x (Started t) u) j.is answer)
    where
      j : Joins p
      j = joins p h

      all_parts : (qs : List (NameId × ℕ)) → AllPosted posted_office.desks c qs → All (λ x. Has x a.joining) qs
      all_parts [] k = All-nil (λ (x : NameId × ℕ). Has x a.joining)
      all_parts (q ∷ qs) k =
          let P : NameId × ℕ → Type 0 = λ x. joins_as (post_at posted_office.desks x.1) c x.0 ≡ true in
          All-cons (λ (x : NameId × ℕ). Has x a.joining) q qs (posted_part c count a.joining (post q.1) (post_at w.desks q.1) q.0 q.1 (busy q.1) (board_posts c count a.joining w.desks q.1) (All-head P q qs k)).0 (all_parts qs (All-tail P q qs k))

      go : HasStarted posted_office 0 p c j.own t u → HasNoted w 0 (event.Start c s parts) u × AllBusy u
      go k = (noted, all_busy)
        where
          same : k.channel ≡ a.channel
          same = same_channel k.found a.found

          own : joins_as (post p) c j.own ≡ true
          own = ap (λ (x : Post). joins_as x c j.own) j.is ∙ joins_own c j.own

          parts_same : k.parts ≡ a.joining
          parts_same = same_parts a.channel.active k.parts a.joining a.distinct (cast_roles k.cast ∙ ap (λ (x : Channel). x.active) same) a.roles (all_parts k.parts (cast_posted k.cast own))

          desks_long : length posted_office.desks ≡ count
          desks_long = board_long c count a.joining w.desks ∙ sym a.long

          all : k.parts ++ served_parts k.channel.serve (length posted_office.desks) ≡ parts
          all =
              ap (λ (qs : List (NameId × ℕ)). qs ++ served_parts k.channel.serve (length posted_office.desks)) parts_same
              ∙ ap (λ (x : Channel). a.joining ++ served_parts x.serve (length posted_office.desks)) same
              ∙ ap (λ (n : ℕ). a.joining ++ served_parts a.channel.serve n) desks_long
              ∙ sym a.whole

          event_same : event.Start k.channel.name w.sid (k.parts ++ served_parts k.channel.serve (length posted_office.desks)) ≡ event.Start c s parts
          event_same = start_same k.channel.name c w.sid s _ parts (channel_name w.endpoints.channels c k.channel k.found) (sym a.sid) all

          posts : HasPosted w posted_office
          posts = record { same = refl; processes = board_long c count a.joining w.desks }

          noted : HasNoted w 0 (event.Start c s parts) u
          noted = noted_from w posted_office u _ (event.Start c s parts) posts k.begun.noted event_same

          desks : List Desk
          desks = posted_office.desks ++ replicate (length k.channel.serve) idle

          all_busy : AllBusy u
          all_busy q = ap (λ ds. post_at ds q) k.begun.desks ∙ elim (board_posts c count a.joining w.desks q) [
            | inl e ↦ joined_stays w.sid (k.parts ++ served_parts k.channel.serve (length posted_office.desks)) desks q (appended_busy posted_office.desks (length k.channel.serve) q (e ∙ busy q))
            | inr is ↦ joined_sets w.sid (k.parts ++ served_parts k.channel.serve (length posted_office.desks)) desks is.role q
                (has_front (is.role, q) k.parts (served_parts k.channel.serve (length posted_office.desks)) (subst (Has (is.role, q)) (sym parts_same) is.part))
          ]

  -- so it is for the office itself
  module _ (v : OfficeView) (h : HasPosted w v) (board : v.desks ≡ joined_board w.desks c count parts) (p : ℕ) (joining : is_joining (post_at v.desks p) ≡ true) (u : OfficeView) where
    same : v ≡ posted_office
    same = is_posted v h board

    there : is_joining (post p) ≡ true
    there = subst (λ (o : OfficeView). is_joining (post_at o.desks p) ≡ true) same joining

    pub not_absent : (r : NameId) → AnswersStartBy v 0 p (post_at v.desks p) (Absent r) u → ⊥
    not_absent r answer = no_absent p r u there (subst (λ (o : OfficeView). AnswersStartBy o 0 p (post_at o.desks p) (Absent r) u) same answer)

    pub has_started : (t : ℕ) → AnswersStartBy v 0 p (post_at v.desks p) (Started t) u → HasNoted w 0 (event.Start c s parts) u × AllBusy u
    has_started t answer = started p t u there (subst (λ (o : OfficeView). AnswersStartBy o 0 p (post_at o.desks p) (Started t) u) same answer)
