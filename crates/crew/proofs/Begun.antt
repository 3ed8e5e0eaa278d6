-- The processes of a worker before the first event.
use Rattle.std.proofs.Common.{◌≡◌, ◌≢◌, ℕ, zero, suc, ◌+◌, ◌/◌, ◌<◌, ◌≤◌, inl, inr, true, false, List, [], ◌∷◌, ◌++◌, length, get_or, refl, sym, ap, ◌∙◌, subst, Option, Some, None, arith}
use Rattle.std.specs.Prelude.{slice_get, map, All}
use Rattle.std.proofs.lemmas.List.{length-map, map-append}
use Rattle.std.proofs.lemmas.List.Elements.{All-nil, All-push}
use Rattle.std.proofs.lemmas.Option.{slice_get_past}
use Rattle.chor_base.specs.Meaning.{Hosts}
use Rattle.endpoint_code.specs.declared.endpoints.Endpoints.{Endpoints}
use Rattle.endpoint_code.specs.declared.endpoints.Process.{Process}
use Rattle.endpoint_code.specs.Faults.{IsFaultless}
use Rattle.endpoint_code.specs.Network.{Machine, standing, standing_all, first_state}
use Rattle.endpoint_machine.specs.Bound.{IsBound}
use Rattle.endpoint_machine.specs.Views.{MachineView}
use Rattle.endpoint_machine.proofs.Actings.{all_at}
use Rattle.session_starts.specs.Machines.{standing_of, number_of}
use Rattle.net_core.proofs.Scopes.{first_bound, length-standing_all}
use Rattle.crew.specs.declared.share.Share.{Share}
use Rattle.crew.specs.Crews.{CrewView}
use Rattle.crew.specs.Ahead.{events_by, ComesTo, IsOwn, IsAhead}
use Rattle.crew.specs.Starts.{is_own}
use Rattle.crew.proofs.Numbers.{number, own_number, number_one, number_before, other_number, there_some, get_before, get_last, ends_at, is_or_not}
use Rattle.crew.proofs.Ahead.{comes_same, below_or}

-- the worker's processes of numbers below one
pub record Collected (e : Endpoints) (h : Share) (all : List Machine) (i : ℕ) (ms : List MachineView) : Type 0 where
  pub before : (j : ℕ) → number h j < i → slice_get (map standing_of ms) j ≡ slice_get all (number h j)
  pub past : (j : ℕ) → i ≤ number h j → slice_get (map standing_of ms) j ≡ None
  pub numbered : (j p : ℕ) → slice_get (map number_of ms) j ≡ Some p → p ≡ number h j
  pub bound : All (IsBound e) (map standing_of ms)

pub collected_none : (e : Endpoints) (h : Share) (all : List Machine) (ms : List MachineView) → ms ≡ [] → Collected e h all 0 ms
collected_none e h all ms none = subst (Collected e h all 0) (sym none) (record {
  before = λ j lt. absurd (omega (arith, lt));
  past = λ j le. refl;
  numbered = λ j p is. absurd (let no : None ≡ Some p = is in cc);
  bound = All-nil (IsBound e);
})

module _ {e : Endpoints} {h : Share} {all : List Machine} {i : ℕ} {ms : List MachineView} (c : Collected e h all i ms) where
  pub collected_other : is_own h i ≡ false → Collected e h all (i + 1) ms
  collected_other other = record {
    before = λ j lt. c.before j (let apart : i ≢ number h j = other_number h i j other in omega (arith, lt, apart));
    past = λ j le. c.past j (omega (arith, le));
    numbered = c.numbered;
    bound = c.bound;
  }

  module _ (own : is_own h i ≡ true) (lt : i < length all) (x : MachineView) (is : slice_get all i ≡ Some (standing_of x)) (numbered : x.number ≡ i) (bound : IsBound e (standing_of x)) where
    place : ℕ
    place = i / h.workers

    named : i ≡ number h place
    unfolding place
    named = own_number h i own

    end : length (map standing_of ms) ≡ place
    end = ends_at (map standing_of ms) place (c.past place (omega (arith, named))) (λ j next.
        let less : number h j < i = subst (λ p. number h j < p) (ap (number h) next ∙ sym named) (number_before h j) in
        let there = there_some all (number h j) (omega (arith, less, lt)) in
        (there.0, c.before j less ∙ there.1))

    whole : map standing_of (ms ++ x ∷ []) ≡ map standing_of ms ++ standing_of x ∷ []
    whole = map-append standing_of ms (x ∷ [])

    numbers : map number_of (ms ++ x ∷ []) ≡ map number_of ms ++ x.number ∷ []
    numbers = map-append number_of ms (x ∷ [])

    pub collected_own : Collected e h all (i + 1) (ms ++ x ∷ [])
    collected_own = record {
      before = λ j lt. elim (is_or_not j place) [
        | inl same ↦ ap (λ (l : List Machine). slice_get l j) whole ∙ ap (slice_get (map standing_of ms ++ standing_of x ∷ [])) (same ∙ sym end) ∙ get_last (map standing_of ms) (standing_of x) ∙ sym is ∙ ap (slice_get all) (named ∙ ap (number h) (sym same))
        | inr apart ↦ ap (λ (l : List Machine). slice_get l j) whole ∙ get_before (map standing_of ms) (standing_of x) j (λ same. apart (same ∙ end)) ∙ c.before j (let other : number h j ≢ i = λ s. apart (number_one h j place (s ∙ named)) in omega (arith, lt, other))
      ];
      past = λ j le. ap (λ (l : List Machine). slice_get l j) whole ∙ get_before (map standing_of ms) (standing_of x) j (λ same. let j_is : j ≡ place = same ∙ end in let n_is : number h j ≡ i = ap (number h) j_is ∙ sym named in omega (arith, le, n_is)) ∙ c.past j (omega (arith, le));
      numbered = λ j p at. elim (is_or_not j place) [
        | inl same ↦ (
            let long : length (map number_of ms) ≡ place = length-map ms number_of ∙ sym (length-map ms standing_of) ∙ end in
            let last : slice_get (map number_of (ms ++ x ∷ [])) j ≡ Some x.number = ap (λ (l : List ℕ). slice_get l j) numbers ∙ ap (slice_get (map number_of ms ++ x.number ∷ [])) (same ∙ sym long) ∙ get_last (map number_of ms) x.number in
            let both : Some p ≡ Some x.number = sym at ∙ last in
            let p_is : p ≡ x.number = cc in
            p_is ∙ numbered ∙ named ∙ ap (number h) (sym same)
            )
        | inr apart ↦ (
            let long : length (map number_of ms) ≡ place = length-map ms number_of ∙ sym (length-map ms standing_of) ∙ end in
            c.numbered j p (sym (get_before (map number_of ms) x.number j (λ same. apart (same ∙ long))) ∙ ap (λ (l : List ℕ). slice_get l j) (sym numbers) ∙ at)
            )
      ];
      bound = subst (All (IsBound e)) (sym whole) (All-push (IsBound e) (map standing_of ms) (standing_of x) c.bound bound);
    }

pub standing_at : (ps : List Process) (i : ℕ) (d : Process) → i < length ps → slice_get (standing_all ps) i ≡ Some (standing (get_or ps i d).body)
standing_at [] i d lt = absurd (omega (arith, lt))
standing_at (p ∷ ps) zero d lt = refl
standing_at (p ∷ ps) (suc i) d lt = standing_at ps i d (omega (arith, lt))

pub standing_bound : (e : Endpoints) (i : ℕ) (m : Machine) → IsFaultless e → slice_get (standing_all e.processes) i ≡ Some m → IsBound e m
standing_bound e i m faultless at = all_at (IsBound e) (standing_all e.processes) i m (first_bound e e.processes (λ p among. among) faultless.names.process_bodies) at

-- all of them are the worker's processes of the first state
pub all_collected : (e : Endpoints) (hosts : Hosts) (i : ℕ) (c : CrewView) → length e.processes ≤ i → Collected e c.share (standing_all e.processes) i c.machines → c.notes ≡ [] → IsAhead e hosts (first_state e) c
all_collected e hosts i c le collected none = record {
  standing = at;
  numbers = collected.numbered;
  bound = collected.bound;
  own = subst (All (IsOwn c)) (sym none) (All-nil (IsOwn c));
}
  where
    at : (j : ℕ) → ComesTo e hosts (number c.share j) (events_by (number c.share j) c.notes) (slice_get (standing_all e.processes) (number c.share j)) (slice_get (map standing_of c.machines) j)
    at j =
        let p = number c.share j in
        let same : slice_get (map standing_of c.machines) j ≡ slice_get (standing_all e.processes) p = elim (below_or p i) [
          | inl lt ↦ collected.before j lt
          | inr past ↦ (let long = length-standing_all e.processes in collected.past j past ∙ sym (slice_get_past (standing_all e.processes) p (omega (arith, long, le, past))))
        ] in
        subst (λ xs. ComesTo e hosts p (events_by p xs) (slice_get (standing_all e.processes) p) (slice_get (map standing_of c.machines) j)) (sym none)
        (subst (λ (o : Option Machine). ComesTo e hosts p [] (slice_get (standing_all e.processes) p) o) (sym same) (comes_same e hosts p (slice_get (standing_all e.processes) p)))
