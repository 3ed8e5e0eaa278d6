-- An office with no event yet.
use Rattle.std.proofs.Common.{◌≡◌, ℕ, zero, suc, ◌+◌, ◌<◌, ◌^◌, Bool, true, false, cond, List, [], ◌∷◌, ◌++◌, length, take, refl, sym, ap, ◌∙◌, subst, Option, Some, None, arith, append_assoc}
use Rattle.std.specs.Prelude.{slice_get, position, bytes_eq, nat_lt, not, ◌||◌, Decides}
use Rattle.std.specs.List.{list_any, position_or_len}
use Rattle.std.proofs.lemmas.List.{append-nil, length-replicate}
use Rattle.std.proofs.Math.ListN.{replicate}
use Rattle.std.proofs.lemmas.Bool.Decides.{nat_tests}
use Rattle.std.proofs.lemmas.Option.{slice_get_within}
use Rattle.std.proofs.lemmas.Slice.Eq.{bytes_eq-Decides}
use Rattle.chor_base.specs.declared.names.NameId.{NameId}
use Rattle.chor_base.specs.Meaning.{Hosts}
use Rattle.chor_base.specs.Words.{AllDistinct, Lacks}
use Rattle.chor_base.specs.declared.event.Entry.{Entry}
use Rattle.chor_host.specs.Functions.{Function, hosts_in, numbered}
use Rattle.endpoint_code.specs.declared.endpoints.Endpoints.{Endpoints}
use Rattle.endpoint_code.specs.declared.endpoints.Process.{Process}
use Rattle.endpoint_code.specs.Faults.{IsFaultless}
use Rattle.endpoint_code.specs.Network.{first_state, standing_all}
use Rattle.endpoint_code.specs.NetworkRuns.{NetworkLeads}
use Rattle.post_office.specs.declared.desk.Desk.{Desk}
use Rattle.post_office.specs.declared.post.Post.{Post}
use Rattle.post_office.specs.declared.post.Post.TheVariants.{Busy}
use Rattle.post_office.specs.Lanes.{QueuesView, loads_in}
use Rattle.post_office.specs.Views.{events_of, post_at, idle}
use Rattle.post_office.specs.Posts.{IsTrueIn}
use Rattle.post_office.specs.Kept.{IsKept}
use Rattle.post_office.proofs.Acting.{busy_true}

-- ---- desks

idle_post : (n q : ℕ) → post_at (replicate n idle) q ≡ Busy
idle_post zero q = refl
idle_post (suc n) zero = refl
idle_post (suc n) (suc q) = idle_post n q

as_many : (ps : List Process) → length (standing_all ps) ≡ length ps
as_many [] = refl
as_many (p ∷ ps) = ap suc (as_many ps)

-- ---- host functions

same_bytes : (xs ys : List ℕ) → bytes_eq xs ys ≡ true → xs ≡ ys
same_bytes xs ys h = (subst (λ b. Decides b (xs ≡ ys)) h (bytes_eq-Decides xs ys)).0 refl

own_bytes : (xs : List ℕ) → bytes_eq xs xs ≡ true
own_bytes xs = (bytes_eq-Decides xs xs).1 refl

distinct_tail : (u : List ℕ) (ws : List (List ℕ)) → AllDistinct (u ∷ ws) → AllDistinct ws
distinct_tail u ws d i j w h k = let e : suc i ≡ suc j = d (suc i) (suc j) w h k in omega arith

first_place : (ws : List (List ℕ)) (w : List ℕ) (n : ℕ) → AllDistinct ws → slice_get ws n ≡ Some w → position_or_len (bytes_eq w) ws ≡ n
first_place [] w n d h = absurd cc
first_place (u ∷ ws) w zero d h =
    let is : u ≡ w = cc in
    ap (λ b. cond (not b) (1 + position_or_len (bytes_eq w) ws) 0) (subst (λ (v : List ℕ). bytes_eq w v ≡ true) (sym is) (own_bytes w))
first_place (u ∷ ws) w (suc n) d h = go (bytes_eq w u) refl (first_place ws w n (distinct_tail u ws d) h)
  where
    go : (b : Bool) → bytes_eq w u ≡ b → position_or_len (bytes_eq w) ws ≡ n → cond (not (bytes_eq w u)) (1 + position_or_len (bytes_eq w) ws) 0 ≡ suc n
    go true e i = let clash : zero ≡ suc n = d zero (suc n) w (ap Some (sym (same_bytes w u e))) h in absurd (omega arith)
    go false e i = ap (λ b. cond (not b) (1 + position_or_len (bytes_eq w) ws) 0) e ∙ omega arith

position_at : (ws : List (List ℕ)) (w : List ℕ) (n : ℕ) → AllDistinct ws → slice_get ws n ≡ Some w → position (bytes_eq w) ws ≡ Some n
position_at ws w n d h =
    let is = first_place ws w n d h in
    let lt : n < length ws = slice_get_within ws n w h in
    let yes : nat_lt n (length ws) ≡ true = grind (arith, nat_tests) in
    ap (λ k. cond (nat_lt k (length ws)) (Some k) None) is ∙ ap (λ b. cond b (Some n) None) yes

none_place : (ws : List (List ℕ)) (w : List ℕ) → Lacks ws w → position_or_len (bytes_eq w) ws ≡ length ws
none_place [] w h = refl
none_place (u ∷ ws) w h = go (bytes_eq w u) refl (λ k. none_place ws w k)
  where
    go : (b : Bool) → bytes_eq w u ≡ b → (Lacks ws w → position_or_len (bytes_eq w) ws ≡ length ws) → cond (not (bytes_eq w u)) (1 + position_or_len (bytes_eq w) ws) 0 ≡ suc (length ws)
    go true e more = absurd (let no : (true || list_any (bytes_eq w) ws) ≡ false = sym (ap (λ b. b || list_any (bytes_eq w) ws) e) ∙ h in cc)
    go false e more =
        let i : position_or_len (bytes_eq w) ws ≡ length ws = more (sym (ap (λ b. b || list_any (bytes_eq w) ws) e) ∙ h) in
        ap (λ b. cond (not b) (1 + position_or_len (bytes_eq w) ws) 0) e ∙ omega arith

position_none : (ws : List (List ℕ)) (w : List ℕ) → Lacks ws w → position (bytes_eq w) ws ≡ None
position_none ws w h =
    let is = none_place ws w h in
    let no : nat_lt (length ws) (length ws) ≡ false = grind (arith, nat_tests) in
    ap (λ k. cond (nat_lt k (length ws)) (Some k) None) is ∙ ap (λ b. cond b (Some (length ws)) None) no

-- one function more
hosts_more : (names : List (List ℕ)) (fs : List Function) (i j : ℕ) (f : Function) → j ≡ i + 1 → slice_get fs i ≡ Some f → hosts_in names (take j fs) ≡ hosts_in names (take i fs) ++ numbered (position (bytes_eq f.0) names) f.1
hosts_more names [] i j f h at = absurd cc
hosts_more names (g ∷ fs) i zero f h at = absurd (omega arith)
hosts_more names (g ∷ fs) zero (suc j) f h at =
    let none : j ≡ 0 = omega arith in
    let is : g ≡ f = cc in
    ap (λ n. numbered (position (bytes_eq g.0) names) g.1 ++ hosts_in names (take n fs)) none ∙ append-nil (numbered (position (bytes_eq g.0) names) g.1) ∙ ap (λ (k : Function). numbered (position (bytes_eq k.0) names) k.1) is
hosts_more names (g ∷ fs) (suc i) (suc j) f h at =
    let one = numbered (position (bytes_eq g.0) names) g.1 in
    ap (λ (hs : Hosts). one ++ hs) (hosts_more names fs i j f (omega arith) at) ∙ sym (append_assoc one (hosts_in names (take i fs)) (numbered (position (bytes_eq f.0) names) f.1))

module _ (names : List (List ℕ)) (fs : List Function) (i : ℕ) (f : Function) (old : Hosts) (is : old ≡ hosts_in names (take i fs)) (at : slice_get fs i ≡ Some f) where
  pub known_more : (n : NameId) → AllDistinct names → slice_get names n.0 ≡ Some f.0 → old ++ (n, f.1) ∷ [] ≡ hosts_in names (take (i + 1) fs)
  known_more n d found =
      ap (λ (hs : Hosts). hs ++ (n, f.1) ∷ []) is ∙ ap (λ o. hosts_in names (take i fs) ++ numbered o f.1) (sym (position_at names f.0 n.0 d found)) ∙ sym (hosts_more names fs i (i + 1) f refl at)

  pub unknown_more : Lacks names f.0 → old ≡ hosts_in names (take (i + 1) fs)
  unknown_more lacks =
      is ∙ sym (append-nil (hosts_in names (take i fs))) ∙ ap (λ o. hosts_in names (take i fs) ++ numbered o f.1) (sym (position_none names f.0 lacks)) ∙ sym (hosts_more names fs i (i + 1) f refl at)

-- ---- the first office

pub first_kept : (e : Endpoints) (hosts : Hosts) (capacity : Option ℕ) (history : List Entry) (queues : QueuesView) (sid : ℕ) (desks : List Desk) (room : ℕ) (stopped : Bool) → IsFaultless e → length e.processes < 2 ^ 32 → history ≡ [] → queues.lanes ≡ [] → sid ≡ 0 → desks ≡ replicate (length e.processes) idle
    → IsKept (record { endpoints = e; hosts = hosts; capacity = capacity; history = history; queues = queues; sid = sid; desks = desks; room = room; stopped = stopped })
first_kept e hosts capacity history queues sid desks room stopped faultless few no_history no_queues no_session all_idle =
    let many : length desks ≡ length e.processes = ap length all_idle ∙ length-replicate (length e.processes) idle in
    record {
      faultless = faultless;
      state = first_state e;
      after = subst (λ (h : List Entry). NetworkLeads e hosts capacity (first_state e) (events_of h) (first_state e)) (sym no_history) refl;
      queues = ap loads_in no_queues;
      sid = sym no_session;
      processes = as_many e.processes ∙ sym many;
      few = subst (λ n. n < 2 ^ 32) (sym many) few;
      posts = λ q. subst (λ (p : Post). IsTrueIn e (first_state e) q p) (sym (ap (λ (ds : List Desk). post_at ds q) all_idle ∙ idle_post (length e.processes) q)) (busy_true e (first_state e) (slice_get (standing_all e.processes) q));
    }
