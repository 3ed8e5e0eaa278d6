-- A worker goes through a history in its turns.
use Rattle.std.proofs.Common.{true, false, ◌≡◌, ◌≢◌, ℕ, zero, suc, ◌+◌, ◌==◌, Bool, List, [], ◌∷◌, ◌++◌, length, take, drop, refl, sym, ap, ◌∙◌, subst, arith, append-nil, length-append, if◌then◌else◌}
use Rattle.std.specs.Prelude.{All, Result, Ok, Err, OnOk}
use Rattle.std.specs.Result.{is_err}
use Rattle.std.proofs.lemmas.List.Elements.{All-nil, All-cons, filter-append}
use Rattle.std.proofs.lemmas.Bool.Decides.{nat_tests}
use mathlib.Core.Option.{some-injective, some-ne-none}
use Rattle.chor_base.specs.declared.event.Entry.{Entry}
use Rattle.endpoint_code.specs.declared.endpoints.Endpoints.{Endpoints}
use Rattle.chor_base.specs.Meaning.{Hosts}
use Rattle.endpoint_code.specs.Network.{first_state}
use Rattle.endpoint_code.specs.NetworkRuns.{IsNetworkRun}
use Rattle.post_office.specs.Views.{OfficeView, events_of}
use Rattle.turn_lock.specs.declared.parts.Turn.{Turn}
use Rattle.turn_lock.specs.Seats.{view, turn_origin}
use Rattle.turn_lock.specs.Turns.{AllBy, by, Finds}
use Rattle.crew.specs.declared.share.Share.{Share}
use Rattle.crew.specs.Crews.{CrewView, entry_worker}
use Rattle.crew.specs.Ahead.{IsAhead, Trails, IsUpToDate}
use Rattle.crew.specs.Turns.{Adds, IsOwnEntry, StaysAhead}
use Rattle.chor_host.specs.Functions.{Function, hosts_in}
use Rattle.workers.specs.declared.next.Next.{Next}
use Rattle.workers.specs.declared.next.Next.TheVariants.{Goes, Waits, Ends}
use Rattle.workers.specs.declared.desks.Desk.{Desk}
use Rattle.workers.specs.declared.origin.Origin.{Origin}
use Rattle.workers.specs.Desks.{IsReady, IsAtWork}
use Rattle.workers.specs.Turns.{GoesOn, Follows, CatchesUp, MayBegin, Suits, UnlessEnds}
use Rattle.workers.proofs.Kept.{origin}
use Rattle.workers.proofs.Takes.{take_front}

drop_front : (xs ys : List Entry) (n : ℕ) → n ≡ length xs → drop n (xs ++ ys) ≡ ys
drop_front [] ys zero e = refl
drop_front [] ys (suc n) e = absurd (omega (arith, e))
drop_front (x ∷ xs) ys zero e = absurd (omega (arith, e))
drop_front (x ∷ xs) ys (suc n) e = drop_front xs ys n (omega (arith, e))

-- ---- a crew in its turn

module _ (v : OfficeView) (workers steps : ℕ) (c : CrewView) (u : CatchesUp (origin v workers steps) v.history c) where
  pub trails : Trails v c
  trails =
      let count = u.follows.count in
      let long : length v.history ≡ length u.seen + length u.rest = ap length u.whole ∙ length-append u.seen u.rest in
      let front : take c.seen v.history ≡ u.seen = ap (take c.seen) u.whole ∙ take_front u.seen u.rest c.seen count in
      record {
        within = omega (arith, count, long);
        state = u.follows.state;
        after = subst (λ (l : List Entry). IsNetworkRun v.endpoints v.hosts v.capacity (events_of l) u.follows.state) (sym front) u.follows.after;
        ahead = u.follows.ahead;
      }

  pub later : All (λ x. x.worker ≢ entry_worker c) (drop c.seen v.history)
  later = subst (All (λ x. x.worker ≢ entry_worker c)) (sym (ap (drop c.seen) u.whole ∙ drop_front u.seen u.rest c.seen u.follows.count)) u.others

pub follows_now : (v : OfficeView) (workers steps : ℕ) (c : CrewView) → c.share.workers ≡ workers → IsUpToDate v c → Follows (origin v workers steps) v.history c
follows_now v workers steps c own u = record { workers = own; count = u.seen; state = u.state; after = u.after; ahead = u.ahead }

all_by : (g : Share) (e : Endpoints) (xs : List Entry) → All (IsOwnEntry g e) xs → AllBy (g.worker + 1) xs
all_by g e [] all k x at = absurd (some-ne-none x (sym at))
all_by g e (y ∷ ys) all zero x at = subst (λ (z : Entry). z.worker ≡ g.worker + 1) (some-injective y x at) ((all 0 y (omega arith)).0)
all_by g e (y ∷ ys) all (suc k) x at = all_by g e ys (λ i d lt. all (suc i) d (omega (arith, lt))) k x at

pub goes_on : (g : Share) (v w : OfficeView) → Adds g v w → GoesOn (g.worker + 1) v.history w.history
goes_on g v w a = (a.entries, a.history, all_by g v.endpoints a.entries a.own)

no_entry : (worker : ℕ) → AllBy worker []
no_entry worker k x h = absurd (some-ne-none x (sym h))

pub goes_nowhere : (worker : ℕ) (old new : List Entry) → new ≡ old → GoesOn worker old new
goes_nowhere worker old new same = ([], same ∙ sym (append-nil old), no_entry worker)

-- ---- entries of one number

none_by : (n : ℕ) (xs : List Entry) → by n xs ≡ [] → All (λ (x : Entry). x.worker ≢ n) xs
none_by n [] h = All-nil (λ (x : Entry). x.worker ≢ n)
none_by n (x ∷ xs) h = go (x.worker == n) refl (λ rest. none_by n xs rest)
  where
    go : (b : Bool) → (x.worker == n) ≡ b → (by n xs ≡ [] → All (λ (y : Entry). y.worker ≢ n) xs) → All (λ (y : Entry). y.worker ≢ n) (x ∷ xs)
    go true is more = absurd (let here : x ∷ by n xs ≡ [] = sym (ap (λ b. if b then x ∷ by n xs else by n xs) is) ∙ h in cc)
    go false is more = All-cons (λ (y : Entry). y.worker ≢ n) x xs (λ eq. absurd (grind (arith, nat_tests))) (more (sym (ap (λ b. if b then x ∷ by n xs else by n xs) is) ∙ h))

all_of : (n : ℕ) (xs : List Entry) → AllBy n xs → by n xs ≡ xs
all_of n [] all = refl
all_of n (x ∷ xs) all =
    let is : (x.worker == n) ≡ true = (let e : x.worker ≡ n = all 0 x refl in grind (arith, nat_tests)) in
    ap (λ b. if b then x ∷ by n xs else by n xs) is ∙ ap (λ l. x ∷ l) (all_of n xs (λ k y at. all (suc k) y at))

nothing_more : (xs ys : List Entry) → xs ++ ys ≡ xs → ys ≡ []
nothing_more xs [] h = refl
nothing_more xs (y ∷ ys) h = absurd (let long : length xs + length (y ∷ ys) ≡ length xs = sym (length-append xs (y ∷ ys)) ∙ ap length h in omega (arith, long))

-- ---- a desk in its turn

module _ {T O : Type 0} (origin_of : T → O) (history_of : T → List Entry) (about : O → Origin) (t : Turn T O) (d : Desk T O) (ready : IsReady origin_of t d) (work : IsAtWork origin_of about t d) (x : T) (finds : Finds origin_of history_of (view d.seat) x) where
  pub same_value : turn_origin origin_of t ≡ origin_of x
  same_value = let h = sym ready.0.1 ∙ finds.0 in cc

  pub catches_up : CatchesUp (about (origin_of x)) (history_of x) d.crew
  catches_up =
      let whole : history_of x ≡ (view d.seat).seen ++ finds.1.0 = sym finds.1.1 in
      let n = d.number in
      let own : by n (history_of x) ≡ (view d.seat).own = subst (λ k. by k (history_of x) ≡ (view d.seat).own) ready.2 finds.2 in
      let cut : by n (view d.seat).seen ++ by n finds.1.0 ≡ by n (view d.seat).seen =
      sym (filter-append (λ (e : Entry). e.worker == n) (view d.seat).seen finds.1.0) ∙ sym (ap (by n) whole) ∙ own ∙ sym work.own
      in
      record {
        seen = (view d.seat).seen;
        rest = finds.1.0;
        whole = whole;
        follows = subst (λ (o : O). Follows (about o) (view d.seat).seen d.crew) same_value work.follows;
        others = subst (λ k. All (λ (y : Entry). y.worker ≢ k) finds.1.0) (sym work.worker) (none_by n finds.1.0 (nothing_more (by n (view d.seat).seen) (by n finds.1.0) cut));
      }

  -- its own entries are still those of its number
  pub own_still : (past : List Entry) → GoesOn d.number (history_of x) past → by d.number past ≡ (view d.seat).own ++ drop (length (history_of x)) past
  own_still past goes =
      let n = d.number in
      let own : by n (history_of x) ≡ (view d.seat).own = subst (λ k. by k (history_of x) ≡ (view d.seat).own) ready.2 finds.2 in
      ap (by n) goes.1
      ∙ filter-append (λ (e : Entry). e.worker == n) (history_of x) goes.0
      ∙ ap (λ l. l ++ by n goes.0) own
      ∙ ap (λ l. (view d.seat).own ++ l) (all_of n goes.0 goes.2 ∙ sym (ap (drop (length (history_of x))) goes.1 ∙ drop_front (history_of x) goes.0 (length (history_of x)) refl))

  pub at_work_after : (past : List Entry) (new : Desk T O) → GoesOn (entry_worker d.crew) (history_of x) past → new.number ≡ d.number → entry_worker new.crew ≡ entry_worker d.crew → Follows (about (origin_of x)) past new.crew
      → (view new.seat).seen ≡ past → (view new.seat).own ≡ (view d.seat).own ++ drop (length (history_of x)) past → IsAtWork origin_of about t new
  at_work_after past new goes number worker follows seen own = record {
    worker = worker ∙ work.worker ∙ sym number;
    follows = subst (λ (l : List Entry). Follows (about (turn_origin origin_of t)) l new.crew) (sym seen) (subst (λ (o : O). Follows (about o) past new.crew) (sym same_value) follows);
    own = ap (by new.number) seen ∙ ap (λ k. by k past) number ∙ own_still past (subst (λ k. GoesOn k (history_of x) past) work.worker goes) ∙ sym own;
  }

-- ---- what a worker does by itself

pub worked : (o : Origin) (e : Endpoints) (functions : List Function) (seen : List Entry) (c new : CrewView) → Suits e functions o → new.share ≡ c.share → new.seen ≡ c.seen → StaysAhead e (hosts_in e.names functions) c new → Follows o seen c → Follows o seen new
worked o e functions seen c new s share count stays f = record {
  workers = ap (λ (h : Share). h.workers) share ∙ f.workers;
  count = count ∙ f.count;
  state = f.state;
  after = f.after;
  ahead =
      subst (λ (x : Endpoints). IsAhead x o.hosts f.state new) (sym s.endpoints)
      (subst (λ (hosts : Hosts). IsAhead e hosts f.state new) (sym s.hosts)
      (stays f.state (subst (λ (hosts : Hosts). IsAhead e hosts f.state c) s.hosts (subst (λ (x : Endpoints). IsAhead x o.hosts f.state c) s.endpoints f.ahead))));
}

pub on_ok : {A B : Type 0} (r : Result A B) (P : Type 0) → is_err r ≡ false → OnOk r P → P
on_ok (Ok a) P h p = p
on_ok (Err e) P h p = absurd cc

pub unless : {P Q R : Type 0} (next : Next) → (P → Q → R) → UnlessEnds next P → UnlessEnds next Q → UnlessEnds next R
unless Goes f p q = f p q
unless Waits f p q = f p q
unless Ends f p q = tt

-- ---- a desk before its first turn

pub begins : (e : Endpoints) (workers : ℕ) (o : Origin) (c : CrewView) → MayBegin e workers o → c.share.workers ≡ workers → c.seen ≡ 0 → ((hosts : Hosts) → IsAhead e hosts (first_state e) c) → Follows o [] c
begins e workers o c m own none ahead = record {
  workers = own ∙ sym m.workers;
  count = none;
  state = first_state o.endpoints;
  after = refl;
  ahead = subst (λ (y : Endpoints). IsAhead y o.hosts (first_state y) c) (sym m.endpoints) (ahead o.hosts);
}
