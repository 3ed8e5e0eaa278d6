-- The start that a process makes which is posted as joining.
use Rattle.std.proofs.Common.{◌≡◌, ◌≢◌, ℕ, ◌==◌, ◌&&◌, Bool, true, List, [], refl, sym, ap, ◌∙◌, subst, Some, arith}
use Rattle.std.specs.Prelude.{slice_get, map}
use Rattle.std.proofs.lemmas.Bool.Decides.{nat_tests}
use Rattle.chor_base.specs.declared.names.NameId.{NameId}
use Rattle.endpoint_code.specs.declared.endpoints.Channel.{Channel}
use Rattle.endpoint_code.specs.Faults.{IsActive, is_among}
use Rattle.endpoint_code.specs.Network.{channel_of}
use Rattle.post_office.specs.declared.post.Post.{Post}
use Rattle.post_office.specs.declared.post.Post.TheVariants.{Joining}
use Rattle.post_office.specs.declared.post.Started.{Started}
use Rattle.post_office.specs.Views.{OfficeView, events_of, post_at}
use Rattle.post_office.specs.Answers.{IsSame}
use Rattle.post_office.specs.Kept.{IsKept}
use Rattle.post_office.specs.Starts.{joins_as, IsCast, AllPosted, AnswersStart, AnswersStartBy}
use Rattle.post_office.proofs.Casts.{cast_roles, cast_posted}
use Rattle.post_office.proofs.Starting.{post_joins}
use Rattle.post_office.proofs.Reached.{reached_active, channel_has}

own_role : (post : Post) (c r : NameId) → post ≡ Joining c r → joins_as post c r ≡ true
own_role post c r h = subst (λ (w : Post). joins_as w c r ≡ true) (sym h) (both (c.0 == c.0) (r.0 == r.0) (same c.0) (same r.0))
  where
    same : (a : ℕ) → (a == a) ≡ true
    same a = grind (arith, nat_tests)

    both : (a b : Bool) → a ≡ true → b ≡ true → (a && b) ≡ true
    both a b i j = ap (λ (x : Bool). x && b) i ∙ j

module _ (v : OfficeView) (kept : IsKept v) (p : ℕ) (c own : NameId) (is : post_at v.desks p ≡ Joining c own) where
  -- its channel is there, and has its role
  pub own_active : IsActive v.endpoints c own
  own_active =
      reached_active v.endpoints kept.faultless v.hosts v.capacity (events_of v.history) kept.state kept.after p c own
      (post_joins v.endpoints kept.state (slice_get kept.state.machines p) (post_at v.desks p) c own (kept.posts p) (own_role (post_at v.desks p) c own is))

  module _ (k : Channel) (found : channel_of v.endpoints.channels c ≡ Some k) where
    named : k.name ≡ c
    named = (channel_has v.endpoints (λ (x : Channel). Unit {0}) v.endpoints.channels c k (λ i x lt. tt) found).1

    pub own_channel : channel_of v.endpoints.channels k.name ≡ Some k
    own_channel = ap (channel_of v.endpoints.channels) named ∙ found

    pub own_posted : (parts : List (NameId × ℕ)) → IsCast v.desks c p own k.active parts → AllPosted v.desks k.name parts
    own_posted parts cast = subst (λ (x : NameId). AllPosted v.desks x parts) (sym named) (cast_posted cast (own_role (post_at v.desks p) c own is))

    pub own_some : (parts : List (NameId × ℕ)) → IsCast v.desks c p own k.active parts → parts ≢ []
    own_some parts cast none =
        let a = own_active in
        let same : a.0 ≡ k = (let s : Some a.0 ≡ Some k = sym a.1 ∙ found in cc) in
        let among : is_among own k.active ≡ true = subst (λ (x : Channel). is_among own x.active ≡ true) same a.2 in
        let no_roles : [] ≡ k.active = sym (ap (map (λ q. q.0)) none) ∙ cast_roles cast in
        let no : is_among own [] ≡ true = subst (λ (rs : List NameId). is_among own rs ≡ true) (sym no_roles) among in
        cc

-- the answer by the post of the process
pub answers_by : (old new : OfficeView) (worker p : ℕ) (c own : NameId) (s : Started) → post_at old.desks p ≡ Joining c own → AnswersStart old worker p c own s new → AnswersStartBy old worker p (post_at old.desks p) s new
answers_by old new worker p c own s is h = subst (λ (w : Post). AnswersStartBy old worker p w s new) (sym is) h

-- an office is the same as itself
pub same_as : (v : OfficeView) → IsSame v v
same_as v = record { endpoints = refl; hosts = refl; capacity = refl; history = refl; queues = refl; sid = refl; desks = refl; stopped = refl; room = omega arith; places = λ t. omega arith }
