-- Each event of a run may follow those before it.
use Rattle.std.proofs.Common.{◌≡◌, ℕ, ◌+◌, ◌==◌, Bool, true, false, List, [], ◌∷◌, ◌++◌, Option, Some, refl, sym, ap, ◌∙◌, subst, arith, append_assoc, if◌then◌else◌}
use Rattle.std.specs.Prelude.{map}
use Rattle.std.specs.List.{filter}
use Rattle.std.proofs.lemmas.List.{append-nil}
use Rattle.std.proofs.lemmas.Bool.Decides.{nat_tests}
use Rattle.chor_base.specs.declared.names.NameId.{NameId}
use Rattle.chor_base.specs.declared.value.Load.{Load}
use Rattle.chor_base.specs.declared.event.Event.{Event}
use Rattle.chor_base.specs.declared.event.Event.TheVariants.{Start, Send, Recv, Test, Set, Show, Host}
use Rattle.chor_base.specs.Events.{triple_eq, load_on, sent_on, received_on, IsFifo}
use Rattle.chor_base.specs.Meaning.{Hosts}
use Rattle.chor_tree.specs.declared.file.File.{File}
use Rattle.chor_tree.specs.declared.file.Service.{Service}
use Rattle.chor_tree.specs.Names.{first_named}
use Rattle.chor_semantics.specs.Choreography.{Live}
use Rattle.chor_semantics.specs.Runs.{IsRun}
use Rattle.endpoint_code.specs.declared.endpoints.Channel.{Channel}
use Rattle.endpoint_code.specs.declared.endpoints.Endpoints.{Endpoints}
use Rattle.endpoint_code.specs.Network.{NetworkState, NetworkSteps, first_state}
use Rattle.endpoint_code.specs.Network as network
use Rattle.endpoint_code.specs.NetworkRuns.{NetworkLeads, IsNetworkRun}
use Rattle.endpoint_code.proofs.Fifo.{network_fifo}
use Rattle.typed_sources.specs.Told.{Told, Act, puts, gets}
use Rattle.typed_sources.specs.Context.{told_load}
use Rattle.typed_sources.specs.Typing.{IsOnOnePath}
use Rattle.typed_sources.specs.History.{Account, nothing_told, told_by, told_after, IsTold, AllTold, SessionsConform}
use Rattle.typed_sources.specs.Stands.{kind_in, states_in}
use Rattle.projection.specs.Projects.{Projects, is_some_start, starts_of, started_services, channel_from}
use Rattle.accepted_files.specs.Accepted.{IsChecked, NetworkRunsAreRuns, RunsAreNetworkRuns, NetworkRunsConform}
use Rattle.accepted_files.specs.AboveProjection.{IsAboveProjection}
use Rattle.accepted_files.proofs.Closed.{leads_on}
use Rattle.conform.specs.ByRole.{FollowsView, start_count, account_of, MayStart, MayDo, ComesNext, MayFollow, ConformsByRole}
use Rattle.conform.proofs.Told.{told_more, sent_more, received_more, sender_acts, receiver_acts}
use Rattle.conform_laws.proofs.Views.{follows_view}
use Rattle.conform_laws.proofs.Starts.{start_begins, leads_count}

-- ---- one event more

told_last : (kind : NameId → Option NameId) (s : Account) (before : List Event) (x : Event) → AllTold kind s (before ++ x ∷ []) → IsTold (told_after kind s before).protocol x
told_last kind s [] x (one, all) = one
told_last kind s (y ∷ ys) x (one, all) = told_last kind (told_by kind s y) ys x all

-- ---- what was sent first comes next

comes_next : (h : List Event) (p s : ℕ) (a b : NameId) (l : Load) → IsFifo (h ++ Recv p s a b l ∷ []) → ComesNext h (s, a, b) l
comes_next h p s a b l fifo =
    let w = fifo (s, a, b) in
    (w.0, sym (sent_more (s, a, b) h (Recv p s a b l) ∙ append-nil (sent_on (s, a, b) h)) ∙ w.1 ∙ ap (λ z. z ++ w.0) (received_more (s, a, b) h (Recv p s a b l) ∙ ap (λ z. received_on (s, a, b) h ++ z) own) ∙ append_assoc (received_on (s, a, b) h) (l ∷ []) w.0)
  where
    same : triple_eq (s, a, b) (s, a, b) ≡ true
    same = grind (arith, nat_tests)

    own : load_on (s, a, b) (s, a, b) l ≡ l ∷ []
    own = ap (λ (t : Bool). if t then l ∷ [] else []) same

-- ---- a role goes on

module _ (f : File) where
  -- a role whose session conforms after the event may do it
  may_do : (before : List Event) (x : Event) (s : ℕ) (r k : NameId) (act : Told → Act) (l : Load) (w : Told) → SessionsConform (kind_in f) (states_in f) (before ++ x ∷ [])
      → (told_by (kind_in f) (account_of f before) x).protocol (Live s) ≡ Some k → (account_of f before).protocol (Live s) ≡ Some k → told_load (account_of f before).protocol l ≡ Some w
      → (told_by (kind_in f) (account_of f before) x).done (Live s) r ≡ (account_of f before).done (Live s) r ++ act w ∷ [] → MayDo f before s r act l
  may_do before x s r k act l w conform still started says does =
      let after = told_more (kind_in f) nothing_told before x in
      let path : IsOnOnePath (states_in f k) ((account_of f (before ++ x ∷ [])).done (Live s)) = conform.1 s k (ap (λ (z : Account). z.protocol (Live s)) after ∙ still) in
      let follows : FollowsView (states_in f k) r ((account_of f (before ++ x ∷ [])).done (Live s) r) = follows_view (states_in f k) ((account_of f (before ++ x ∷ [])).done (Live s)) r path in
      record { protocol = k; started = started; content = w; says = says; follows = subst (FollowsView (states_in f k) r) (ap (λ (z : Account). z.done (Live s) r) after ∙ does) follows }

  -- ---- starts

  -- whether a channel is in a projection is judged by its name alone
  module _ (c : NameId) where
    abbrev wanted : Service → Bool
    wanted s = is_some_start (starts_of f s.name.name)

    service_back : (ss : List Service) (k : Channel) → network.channel_of (map channel_from (filter wanted ss)) c ≡ Some k
        → (s : Service) × (first_named (λ z. z.name) ss c ≡ Some s) × (channel_from s ≡ k) × (wanted s ≡ true) × (s.name.name ≡ c)
    service_back [] k h = absurd cc
    service_back (z ∷ zs) k h = go (z.name.name.0 == c.0) refl (wanted z) refl h (service_back zs k)
      where
        same : (z.name.name.0 == c.0) ≡ true → z.name.name ≡ c
        same i = let j : z.name.name.0 ≡ c.0 = grind (arith, nat_tests, i) in ap (λ n. record { 0 = n }) j

        go : (b : Bool) → (z.name.name.0 == c.0) ≡ b → (t : Bool) → wanted z ≡ t → network.channel_of (map channel_from (if t then z ∷ filter wanted zs else filter wanted zs)) c ≡ Some k
            → (network.channel_of (map channel_from (filter wanted zs)) c ≡ Some k → (s : Service) × (first_named (λ z. z.name) zs c ≡ Some s) × (channel_from s ≡ k) × (wanted s ≡ true) × (s.name.name ≡ c))
            → (s : Service) × ((if z.name.name.0 == c.0 then Some z else first_named (λ z. z.name) zs c) ≡ Some s) × (channel_from s ≡ k) × (wanted s ≡ true) × (s.name.name ≡ c)
        go true i true j h more =
            let head : Some (channel_from z) ≡ Some k = sym (ap (λ (b : Bool). if b then Some (channel_from z) else network.channel_of (map channel_from (filter wanted zs)) c) i) ∙ h in
            let is : channel_from z ≡ k = cc in
            (z, ap (λ (b : Bool). if b then Some z else first_named (λ z. z.name) zs c) i, is, j, same i)
        go true i false j h more =
            let w = more h in
            let alike : wanted w.0 ≡ wanted z = ap (λ (n : NameId). is_some_start (starts_of f n)) (w.4 ∙ sym (same i)) in
            let clash : true ≡ false = sym w.3 ∙ alike ∙ j in
            absurd cc
        go false i true j h more =
            let rest : network.channel_of (map channel_from (filter wanted zs)) c ≡ Some k = sym (ap (λ (b : Bool). if b then Some (channel_from z) else network.channel_of (map channel_from (filter wanted zs)) c) i) ∙ h in
            let w = more rest in
            (w.0, ap (λ (b : Bool). if b then Some z else first_named (λ z. z.name) zs c) i ∙ w.1, w.2, w.3, w.4)
        go false i false j h more =
            let w = more h in
            (w.0, ap (λ (b : Bool). if b then Some z else first_named (λ z. z.name) zs c) i ∙ w.1, w.2, w.3, w.4)

  module _ (e : Endpoints) (pr : Projects f e) (hosts : Hosts) (capacity : Option ℕ) where
    may_start : (before : List Event) (mid next : NetworkState) (c : NameId) (s : ℕ) (parts : List (NameId × ℕ)) → IsNetworkRun e hosts capacity before mid
        → NetworkSteps e hosts capacity mid (Start c s parts) next → MayStart f before c s parts
    may_start before mid next c s parts run step =
        let b = start_begins e hosts capacity mid next c s parts step in
        let count : mid.sid ≡ 0 + start_count before = leads_count e hosts capacity before (first_state e) mid run in
        let number : s ≡ mid.sid = b.number in
        let found : network.channel_of (map channel_from (started_services f)) c ≡ Some b.channel = ap (λ (ks : List Channel). network.channel_of ks c) (sym pr.channels) ∙ b.found in
        let w = service_back c f.services b.channel found in
        record {
          next = omega (arith, number, count);
          service = w.0;
          declared = w.1;
          roles = b.roles ∙ ap (λ (k : Channel). k.active ++ k.serve) (sym w.2);
        }

    -- ---- each event

    module _ (words : List (List ℕ)) (checked : IsChecked f words) (is : IsAboveProjection f e) (conforms : NetworkRunsConform) where
      follows : (before : List Event) (x : Event) (mid next : NetworkState) → IsNetworkRun e hosts capacity before mid → NetworkSteps e hosts capacity mid x next → MayFollow f before x
      follows before x mid next run step = go x step (conforms f words checked e is hosts capacity (before ++ x ∷ []) next whole) (network_fifo e hosts capacity (before ++ x ∷ []) next whole)
        where
          whole : IsNetworkRun e hosts capacity (before ++ x ∷ []) next
          whole = leads_on e hosts capacity before (x ∷ []) (first_state e) mid next run (next, step, refl)

          go : (x : Event) → NetworkSteps e hosts capacity mid x next → SessionsConform (kind_in f) (states_in f) (before ++ x ∷ []) → IsFifo (before ++ x ∷ []) → MayFollow f before x
          go (Start c s parts) step conform fifo = may_start before mid next c s parts run step
          go (Send p s a b l) step conform fifo =
              let told = told_last (kind_in f) nothing_told before (Send p s a b l) conform.0 in
              may_do before (Send p s a b l) s a told.0.0 (puts b) l told.1.0 conform told.0.1 told.0.1 told.1.1
              (ap (λ z. (account_of f before).done (Live s) a ++ z) (sender_acts (account_of f before).protocol p s a b l told.1.0 told.1.1))
          go (Recv p s a b l) step conform fifo =
              let told = told_last (kind_in f) nothing_told before (Recv p s a b l) conform.0 in (
                may_do before (Recv p s a b l) s b told.0.0 (gets a) l told.1.0 conform told.0.1 told.0.1 told.1.1
                    (ap (λ z. (account_of f before).done (Live s) b ++ z) (receiver_acts (account_of f before).protocol p s a b l told.1.0 told.1.1)),
                comes_next before p s a b l fifo,
              )
          go (Test p b) step conform fifo = tt
          go (Set p y v) step conform fifo = tt
          go (Show p v) step conform fifo = tt
          go (Host p y g a b v) step conform fifo = tt

    -- a run up to an event, and the step by it
    split : (before : List Event) (x : Event) (rest : List Event) (n last : NetworkState) → NetworkLeads e hosts capacity n (before ++ x ∷ rest) last
        → (mid : NetworkState) × NetworkLeads e hosts capacity n before mid × ((next : NetworkState) × NetworkSteps e hosts capacity mid x next)
    split [] x rest n last (mid, step, more) = (n, refl, (mid, step))
    split (y ∷ ys) x rest n last (mid, step, more) = let w = split ys x rest mid last more in (w.0, (mid, step, w.1), w.2)

pub run_conforms : (f : File) (words : List (List ℕ)) → IsChecked f words → (e : Endpoints) → Projects f e → IsAboveProjection f e → NetworkRunsAreRuns → RunsAreNetworkRuns → NetworkRunsConform
    → (hosts : Hosts) (capacity : Option ℕ) (h : List Event) → IsRun f hosts capacity h → ConformsByRole f h
run_conforms f words checked e pr is to back conforms hosts capacity h run before x rest parts =
    let w = back f words checked e is hosts capacity h run in
    let s = split f e pr hosts capacity before x rest (first_state e) w.0 (subst (λ (xs : List Event). NetworkLeads e hosts capacity (first_state e) xs w.0) parts w.1) in
    follows f e pr hosts capacity words checked is conforms before x s.0 s.2.0 s.1 s.2.1
