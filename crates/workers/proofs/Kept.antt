-- What the run that workers share keeps.
use Rattle.std.proofs.Common.{true, false, ◌≡◌, ◌≢◌, ℕ, zero, suc, ◌+◌, ◌*◌, ◌<◌, ◌≤◌, Bool, List, [], ◌∷◌, ◌++◌, length, sym, ap, ◌∙◌, subst, Some, arith, append-nil, length-append}
use Rattle.std.specs.Prelude.{All, slice_get, slice_set}
use Rattle.std.proofs.Math.ListN.{replicate}
use Rattle.std.proofs.lemmas.List.{length-replicate, length-set}
use Rattle.std.proofs.lemmas.List.Elements.{All-nil}
use native.Mathlib.Decide.{ℕ_discrete}
use mathlib.Core.Logic.{dite}
use Rattle.chor_base.proofs.Lists.{get_set_other}
use Rattle.chor_base.specs.declared.event.Entry.{Entry}
use Rattle.chor_base.specs.declared.event.Why.{Why}
use Rattle.endpoint_code.specs.Network.{NetworkState}
use Rattle.endpoint_code.specs.Scheduled.{ended, limit, stuck}
use Rattle.endpoint_runs.specs.declared.run.Closed.{Closed as Closing}
use Rattle.endpoint_runs.specs.declared.run.Closed.TheVariants as closing
use Rattle.endpoint_runs.specs.Runs.{close_of}
use Rattle.post_office.specs.Owners.{IsMadeByOwner}
use Rattle.post_office.specs.Views.{OfficeView}
use Rattle.crew.specs.declared.share.Share.{Share}
use Rattle.crew.specs.declared.turn.Turned.{Turned}
use Rattle.crew.specs.declared.turn.Turned.TheVariants as found
use Rattle.crew.specs.Crews.{CrewView}
use Rattle.crew.specs.Turns.{Adds, FitsSteps, FindsOut}
use Rattle.crew.proofs.Finding.{adds_owned, all_of_workers}
use Rattle.workers.specs.declared.origin.Origin.{Origin}
use Rattle.workers.specs.declared.run.Progress.{Progress}
use Rattle.workers.specs.declared.run.Progress.TheVariants.{Open}
use Rattle.workers.specs.Turns.{LeadsTo}
use Rattle.workers.specs.Runs.{IsRunBy}
use Rattle.workers.specs.Views.{RunView, origin_of, history_of, IsClosedBy, IsProgress, HasEndedBy, IsKeptBy, IsKept}

-- ---- the first state

no_mark : (n w : ℕ) → slice_get (replicate n false) w ≡ Some true → ⊥
no_mark zero w h = cc
no_mark (suc n) zero h = cc
no_mark (suc n) (suc w) h = no_mark n w h

pub kept_first : (o : Origin) (h : List Entry) → h ≡ [] → FitsSteps o.endpoints o.steps → 1 ≤ o.workers → IsKeptBy o h Open (replicate o.workers false)
kept_first o h none fits some = record {
  owned = subst (All (IsMadeByOwner o.workers o.endpoints)) (sym none) (All-nil (IsMadeByOwner o.workers o.endpoints));
  within = (let zero : length h ≡ 0 = ap length none in omega (arith, zero));
  fits = fits;
  some_worker = some;
  progress = tt;
  each = length-replicate o.workers false;
  ended = λ w at. absurd (no_mark o.workers w at);
}

-- ---- the history goes on

pub no_more : (xs ys zs : List Entry) → zs ≡ xs ++ ys → length zs ≤ length xs → zs ≡ xs
no_more xs [] zs is le = is ∙ append-nil xs
no_more xs (y ∷ ys) zs is le = absurd (let long : length zs ≡ length xs + length (y ∷ ys) = ap length is ∙ length-append xs (y ∷ ys) in omega (arith, long, le))

abbrev pub origin : OfficeView → ℕ → ℕ → Origin
origin v workers steps = record { endpoints = v.endpoints; hosts = v.hosts; capacity = v.capacity; workers = workers; steps = steps }

pub same_origin : (g : Share) (v w : OfficeView) (workers steps : ℕ) → Adds g v w → origin v workers steps ≡ origin w workers steps
same_origin g v w workers steps a = λ i. record { endpoints = sym a.endpoints i; hosts = sym a.hosts i; capacity = sym a.capacity i; workers = workers; steps = steps }

pub kept_grown : (g : Share) (v w : OfficeView) (workers steps : ℕ) (marks : List Bool) → Adds g v w → g.workers ≡ workers → length w.history ≤ steps → IsKeptBy (origin v workers steps) v.history Open marks → IsKeptBy (origin w workers steps) w.history Open marks
kept_grown g v w workers steps marks a own within k = subst (λ (o : Origin). IsKeptBy o w.history Open marks) (same_origin g v w workers steps a) (record {
  owned = subst (λ n. All (IsMadeByOwner n v.endpoints) w.history) own (adds_owned g v w a (subst (λ n. All (IsMadeByOwner n v.endpoints) v.history) (sym own) k.owned));
  within = within;
  fits = k.fits;
  some_worker = k.some_worker;
  progress = tt;
  each = k.each;
  ended = λ m at.
      let e : HasEndedBy (origin v workers steps) v.history m = k.ended m at in
      let full = e.0 in
      let same : w.history ≡ v.history = no_more v.history a.entries w.history a.history (omega (arith, full, within)) in
      subst (λ (h : List Entry). HasEndedBy (origin v workers steps) h m) (sym same) e;
})

-- ---- what is found

pub kept_found : (o : Origin) (h : List Entry) (was found : Progress) (marks : List Bool) → IsProgress o h found → IsKeptBy o h was marks → IsKeptBy o h found marks
kept_found o h was found marks is k = record { owned = k.owned; within = k.within; fits = k.fits; some_worker = k.some_worker; progress = is; each = k.each; ended = k.ended }

set_mark : (marks : List Bool) (w m : ℕ) → slice_get (slice_set marks w true) m ≡ Some true → m ≢ w → slice_get marks m ≡ Some true
set_mark marks w m at other = sym (get_set_other marks w m true other) ∙ at

pub kept_marked : (o : Origin) (h : List Entry) (was : Progress) (marks : List Bool) (w : ℕ) → HasEndedBy o h w → IsKeptBy o h was marks → IsKeptBy o h was (slice_set marks w true)
kept_marked o h was marks w has k = record {
  owned = k.owned;
  within = k.within;
  fits = k.fits;
  some_worker = k.some_worker;
  progress = k.progress;
  each = length-set marks w true ∙ k.each;
  ended = λ m at. dite (ℕ_discrete m w)
      (λ is. subst (HasEndedBy o h) (sym is) has)
      (λ other. k.ended m (set_mark marks w m at other));
}

module _ (v : OfficeView) (workers steps : ℕ) (c : CrewView) where
  pub found_ended : FindsOut steps v c found.Ended → IsClosedBy (origin v workers steps) v.history closing.Ended
  found_ended f n after = ended (f n after)

  pub found_stuck : (p : ℕ) (why : Why) → FindsOut steps v c (found.Stuck p why) → IsClosedBy (origin v workers steps) v.history (closing.Stuck p why)
  found_stuck p why f n after = let s = f.1 n after in stuck f.0 s.0 s.1

  pub found_limit : FindsOut steps v c (found.Full false) → IsClosedBy (origin v workers steps) v.history closing.Limit
  found_limit f n after = limit (f.1 n after) f.0

  pub found_done : c.share.workers ≡ workers → FindsOut steps v c (found.Full true) → HasEndedBy (origin v workers steps) v.history c.share.worker
  found_done own f = (f.0, λ n after i m at. f.1 n after i m (subst (λ k. slice_get n.machines (i * k + c.share.worker) ≡ Some m) (sym own) at))

-- ---- all workers

marked : (marks : List Bool) (w : ℕ) → All (λ b. b ≡ true) marks → w < length marks → slice_get marks w ≡ Some true
marked [] w all lt = absurd (omega (arith, lt))
marked (b ∷ bs) zero all lt = ap (λ x. Some x) (all 0 b (omega arith))
marked (b ∷ bs) (suc w) all lt = marked bs w (λ i d le. all (suc i) d (omega (arith, le))) (omega (arith, lt))

pub all_marked : (o : Origin) (h : List Entry) (was : Progress) (marks : List Bool) → IsKeptBy o h was marks → All (λ b. b ≡ true) marks → IsClosedBy o h closing.Ended
all_marked o h was marks k all n after =
    let some = k.some_worker in
    let each = k.each in
    ended (all_of_workers o.endpoints n.machines o.workers (omega (arith, some)) (λ w lt i m at. (k.ended w (marked marks w all (omega (arith, lt, each)))).1 n after i m at))

-- ---- what is told

pub found_in : (v u : RunView) (c : CrewView) (t s : Turned) → v ≡ u → t ≡ s → FindsOut u.steps u.office c t → FindsOut v.steps v.office c s
found_in v u c t s same is f = subst (λ (w : RunView). FindsOut w.steps w.office c s) (sym same) (subst (λ (x : Turned). FindsOut u.steps u.office c x) is f)

pub report_of : (v : RunView) (entries : List Entry) (closed : Closing) (n : NetworkState) → entries ≡ history_of v → IsKept v → LeadsTo (origin_of v) entries n → IsClosedBy (origin_of v) (history_of v) closed
    → IsRunBy v.workers v.steps v.office.capacity v.office.endpoints v.office.hosts entries (close_of closed)
report_of v entries closed n same k leads closes =
    let here : LeadsTo (origin_of v) (history_of v) n = subst (λ (h : List Entry). LeadsTo (origin_of v) h n) same leads in
    subst (λ (h : List Entry). IsRunBy v.workers v.steps v.office.capacity v.office.endpoints v.office.hosts h (close_of closed)) (sym same)
    (record { last = n; run = here; within = k.within; owned = k.owned; closes = closes n here })
