-- An office after an event of one process.
use Rattle.std.proofs.Common.{◌≡◌, ℕ, ◌<◌, ◌^◌, Bool, false, List, [], ◌∷◌, ◌++◌, length, sym, ap, ◌∙◌, subst}
use Rattle.std.proofs.lemmas.List.{length-set}
use Rattle.chor_base.specs.declared.event.Entry.{Entry}
use Rattle.chor_base.specs.declared.event.Event.{Event}
use Rattle.chor_base.specs.declared.value.Load.{Load}
use Rattle.chor_base.specs.Events.{Triple, actors_of}
use Rattle.post_office.specs.declared.desk.Desk.{Desk}
use Rattle.post_office.specs.declared.post.Post.TheVariants.{Busy}
use Rattle.post_office.specs.Lanes.{QueuesView, loads_in}
use Rattle.post_office.specs.Views.{OfficeView, events_of, CanMake, post_at, joined_at, made_busy}
use Rattle.post_office.specs.Posts.{IsTrueIn}
use Rattle.post_office.specs.Kept.{IsKept}
use Rattle.post_office.proofs.Steps.{queues_after, step_alone, is_start, sends_on, FindsRoom, step_capped}
use Rattle.post_office.proofs.Acting.{after_more, posts_after}
use Rattle.post_office.proofs.Waiting.{first_stays}

module _ {v : OfficeView} (kept : IsKept v) (x : Event) (p : ℕ) (alone : is_start x ≡ false) (actor : actors_of x ≡ p ∷ []) (can : CanMake v x) where
  pub acted_kept : FindsRoom v.capacity (loads_in v.queues.lanes) (sends_on x) → (worker : ℕ) (history : List Entry) (queues : QueuesView) (desks : List Desk) (room : ℕ) (stopped : Bool)
      → history ≡ v.history ++ record { worker = worker; event = x } ∷ [] → loads_in queues.lanes ≡ queues_after x (loads_in v.queues.lanes) → desks ≡ made_busy (p ∷ []) v.desks
      → IsKept (record { endpoints = v.endpoints; hosts = v.hosts; capacity = v.capacity; history = history; queues = queues; sid = v.sid; desks = desks; room = room; stopped = stopped })
  acted_kept place worker history queues desks room stopped more are busy =
      let made = can kept.state kept.after in
      let step = step_capped v.capacity x made.0 v.endpoints v.hosts kept.state (subst (λ (qs : List (Triple × List Load)). FindsRoom v.capacity qs (sends_on x)) kept.queues place) made.1 in
      let by = step_alone v.endpoints v.hosts v.capacity kept.state made.0 x p alone actor step in
      let long : length desks ≡ length v.desks = ap length busy ∙ length-set v.desks p (record { post = Busy; joined = joined_at v.desks p }) in
      record {
        faultless = kept.faultless;
        state = made.0;
        after = after_more v kept.state made.0 x worker history more kept.after step;
        queues = are ∙ ap (queues_after x) kept.queues ∙ sym by.0.queues;
        sid = by.0.sid ∙ kept.sid;
        processes = by.0.long ∙ kept.processes ∙ sym long;
        few = subst (λ n. n < 2 ^ 32) (sym long) kept.few;
        posts = λ q. subst (λ (ds : List Desk). IsTrueIn v.endpoints made.0 q (post_at ds q)) (sym busy) (posts_after v.endpoints kept.state made.0 x p v.desks by.0
            (λ i apart. first_stays v.endpoints kept.faultless v.hosts v.capacity (events_of v.history) kept.state made.0 x p i kept.after alone actor apart step) kept.posts q);
      }
