-- What holds of each state of a network.
use Rattle.std.proofs.Common.{◌+◌, ◌≡◌, ◌<◌, ◌≤◌, ◌^◌, ℕ, zero, suc, Bool, true, false, List, [], ◌∷◌, ◌++◌, length, map, cond, Some, None, refl, sym, ap, ◌∙◌, subst, arith, if◌then◌else◌}
use Rattle.std.specs.Prelude.{All, slice_get, slice_set}
use Rattle.std.specs.List.{AllByRecursion}
use Rattle.std.specs.Ordering.{nat_cmp, eq_by_cmp}
use Rattle.std.specs.Cmp.{nat_cmp_total}
use Rattle.std.specs.FinMap as fin
use Rattle.std.proofs.lemmas.Bool.{ltb-true}
use Rattle.std.proofs.lemmas.List.Elements.{All-head, All-tail}
use Rattle.chor_base.specs.declared.names.NameId.{NameId}
use Rattle.chor_base.specs.declared.value.Value.{Value}
use Rattle.chor_base.specs.declared.value.Value.TheVariants.{Int, Bool as Truth, Text, Part as Endpoint}
use Rattle.chor_base.specs.declared.value.Load.{Load}
use Rattle.chor_base.specs.declared.value.Load.TheVariants.{Value as Carries, Label as Picks}
use Rattle.chor_base.specs.declared.event.Event.{Event}
use Rattle.chor_base.specs.Events.{Triple, triple_eq}
use Rattle.chor_base.specs.NameMap.{FromNames, Variables}
use Rattle.endpoint_code.specs.declared.code.CodeId.{CodeId}
use Rattle.endpoint_code.specs.declared.endpoints.Process.{Process}
use Rattle.endpoint_code.specs.declared.endpoints.Endpoints.{Endpoints}
use Rattle.endpoint_code.specs.Kept.{has_name}
use Rattle.endpoint_code.specs.Network.{Sessions, Machine, NetworkState, loads_for, with_loads}
use Rattle.endpoint_code.specs.Trees.{code_at}
use Rattle.transcript.specs.Text.{Words}
use Rattle.event_reader.specs.Known.{IsSmall, HasName, HasNameOf, HasProcess, HasValue, HasLoad, HasEvent}
use Rattle.projected_programs.specs.Sizes.{IsCodeSized}
use Rattle.projected_programs.specs.Told.{words_of, most_served, AreNumbersSmall}
use Rattle.projected_programs.proofs.Values.{IsFineValue, AreFineVariables}

-- ---- lists

pub at_of : {X : Type 0} (P : X → Type 0) (xs : List X) (i : ℕ) (x : X) → AllByRecursion P xs → slice_get xs i ≡ Some x → P x
at_of P [] i x h e = absurd cc
at_of P (y ∷ ys) zero x h e = let same : y ≡ x = cc in subst P same h.0
at_of P (y ∷ ys) (suc i) x h e = at_of P ys i x h.1 e

pub after_set : {X : Type 0} (P : X → Type 0) (xs : List X) (i : ℕ) (x : X) → AllByRecursion P xs → P x → AllByRecursion P (slice_set xs i x)
after_set P [] i x h k = tt
after_set P (y ∷ ys) zero x h k = (k, h.1)
after_set P (y ∷ ys) (suc i) x h k = (h.0, after_set P ys i x h.1 k)

pub count_set : {X : Type 0} (xs : List X) (i : ℕ) (x : X) → length (slice_set xs i x) ≡ length xs
count_set [] i x = refl
count_set (y ∷ ys) zero x = refl
count_set (y ∷ ys) (suc i) x = ap (λ n. suc n) (count_set ys i x)

pub joined : {X : Type 0} (P : X → Type 0) (xs ys : List X) → AllByRecursion P xs → AllByRecursion P ys → AllByRecursion P (xs ++ ys)
joined P [] ys h k = k
joined P (x ∷ xs) ys h k = (h.0, joined P xs ys h.1 k)

pub along : {X : Type 0} (P Q : X → Type 0) → ((x : X) → P x → Q x) → (xs : List X) → AllByRecursion P xs → AllByRecursion Q xs
along P Q f [] h = tt
along P Q f (x ∷ xs) h = (f x h.0, along P Q f xs h.1)

pub within : {X : Type 0} (xs : List X) (i : ℕ) (x : X) → slice_get xs i ≡ Some x → i < length xs
within [] i x e = absurd cc
within (y ∷ ys) zero x e = omega arith
within (y ∷ ys) (suc i) x e = let h : i < length ys = within ys i x e in omega arith

-- an item of a list of which all have a property
pub item_of : {X : Type 0} (P : X → Type 0) (xs : List X) (i : ℕ) (x : X) → All P xs → slice_get xs i ≡ Some x → P x
item_of P [] i x h e = absurd cc
item_of P (y ∷ ys) zero x h e = let same : y ≡ x = cc in subst P same (All-head P y ys h)
item_of P (y ∷ ys) (suc i) x h e = item_of P ys i x (All-tail P y ys h) e

-- ---- maps

module _ {V : Type 0} (P : V → Type 0) where
  abbrev pub Holds : FromNames V → Type 0
  Holds m = (k : ℕ) (v : V) → fin.get m k ≡ Some v → P v

  pub empty_holds : Holds fin.empty
  empty_holds k v e = let none : fin.get (fin.empty {X = V} {R = nat_cmp}) k ≡ None = fin.get-empty nat_cmp k in absurd cc

  pub insert_holds : (m : FromNames V) (k : ℕ) (v : V) → Holds m → P v → Holds (fin.insert m k v)
  insert_holds m k v h p q u e = go (eq_by_cmp nat_cmp q k) (sym (fin.get-insert nat_cmp_total m k v q) ∙ e)
    where
      go : (b : Bool) → cond b (Some v) (fin.get m q) ≡ Some u → P u
      go true i = let same : v ≡ u = cc in subst P same p
      go false i = h q u i

  pub remove_holds : (m : FromNames V) (k : ℕ) → Holds m → Holds (fin.remove m k)
  remove_holds m k h q u e = go (eq_by_cmp nat_cmp q k) (sym (fin.get-remove nat_cmp_total m k q) ∙ e)
    where
      go : (b : Bool) → cond b None (fin.get m q) ≡ Some u → P u
      go true i = absurd cc
      go false i = h q u i

-- ---- states

module _ (w : Words) where
  -- where so many sessions have begun
  abbrev pub IsFinePart : ℕ → ℕ × NameId → Type 0
  IsFinePart sid q = (q.0 < sid) × HasName w q.1

  abbrev pub AreFineSessions : ℕ → Sessions → Type 0
  AreFineSessions sid m = Holds (IsFinePart sid) m

  abbrev pub IsFineLoad : ℕ → Load → Type 0
  IsFineLoad sid (Carries v) = IsFineValue w sid v
  IsFineLoad sid (Picks l) = HasName w l

  abbrev pub AreFineLoads : ℕ → List Load → Type 0
  AreFineLoads sid ls = AllByRecursion (IsFineLoad sid) ls

  abbrev pub AreFineQueues : ℕ → List (Triple × List Load) → Type 0
  AreFineQueues sid qs = AllByRecursion (λ q. AreFineLoads sid q.1) qs

  -- ---- more sessions

  module _ (s t : ℕ) (le : s ≤ t) where
    later_value : (v : Value) → IsFineValue w s v → IsFineValue w t v
    later_value (Int z) h = h
    later_value (Truth b) h = tt
    later_value (Text x) h = h
    later_value (Endpoint k r) h = (omega (arith, h.0), h.1)

    later_load : (l : Load) → IsFineLoad s l → IsFineLoad t l
    later_load (Carries v) h = later_value v h
    later_load (Picks l) h = h

    pub later_variables : (vars : Variables) → AreFineVariables w s vars → AreFineVariables w t vars
    later_variables vars h = λ x v e. later_value v (h x v e)

    pub later_sessions : (m : Sessions) → AreFineSessions s m → AreFineSessions t m
    later_sessions m h = λ k q e. let p = h k q e in (omega (arith, p.0), p.1)

    pub later_queues : (qs : List (Triple × List Load)) → AreFineQueues s qs → AreFineQueues t qs
    later_queues qs h = along (λ q. AreFineLoads s q.1) (λ q. AreFineLoads t q.1) (λ q k. along (IsFineLoad s) (IsFineLoad t) later_load q.1 k) qs h

  -- ---- queues

  pub loads_fine : (sid : ℕ) (qs : List (Triple × List Load)) (t : Triple) → AreFineQueues sid qs → AreFineLoads sid (loads_for qs t)
  loads_fine sid [] t h = tt
  loads_fine sid (q ∷ qs) t h = go (triple_eq q.0 t) (loads_fine sid qs t h.1)
    where
      go : (b : Bool) → AreFineLoads sid (loads_for qs t) → AreFineLoads sid (if b then q.1 else loads_for qs t)
      go true k = h.0
      go false k = k

  pub queues_fine : (sid : ℕ) (qs : List (Triple × List Load)) (t : Triple) (ls : List Load) → AreFineQueues sid qs → AreFineLoads sid ls → AreFineQueues sid (with_loads qs t ls)
  queues_fine sid [] t ls h k = (k, tt)
  queues_fine sid (q ∷ qs) t ls h k = go (triple_eq q.0 t) (queues_fine sid qs t ls h.1 k)
    where
      go : (b : Bool) → AreFineQueues sid (with_loads qs t ls) → AreFineQueues sid (if b then (t, ls) ∷ qs else q ∷ with_loads qs t ls)
      go true r = (k, h.1)
      go false r = (h.0, r)

  -- ---- what is small is told

  module _ (sid : ℕ) (small : sid ≤ 2 ^ 32) where
    pub value_told : (v : Value) → IsFineValue w sid v → HasValue w v
    value_told (Int z) h = h
    value_told (Truth b) h = tt
    value_told (Text x) h = h
    value_told (Endpoint k r) h = (omega (arith, h.0), h.1)

    pub load_told : (l : Load) → IsFineLoad sid l → HasLoad w l
    load_told (Carries v) h = value_told v h
    load_told (Picks l) h = h

module _ (e : Endpoints) where
  abbrev w : Words
  w = words_of e

  -- a process stands at a code of such literals
  abbrev pub IsSizedAt : CodeId → Type 0
  IsSizedAt id = IsCodeSized (code_at e.code.nodes id)

  abbrev pub IsFineMachine : ℕ → Machine → Type 0
  IsFineMachine sid m = AreFineVariables w sid m.vars × AreFineSessions w sid m.sessions × IsSizedAt m.at

  -- variables, sessions and queues have values of their sizes, with names and texts of the book, and sessions that have begun
  pub record IsFine (n : NetworkState) : Type 0 where
    pub machines : AllByRecursion (IsFineMachine n.sid) n.machines
    pub queues : AreFineQueues w n.sid n.queues

  pub later_machine : (s t : ℕ) → s ≤ t → (m : Machine) → IsFineMachine s m → IsFineMachine t m
  later_machine s t le m h = (later_variables w s t le m.vars h.0, later_sessions w s t le m.sessions h.1, h.2)

-- what a step leads to
pub record Told (e : Endpoints) (n : NetworkState) (x : Event) (m : NetworkState) : Type 0 where
  pub fine : IsFine e m
  pub machines : length n.machines ≤ length m.machines
  pub more : length m.machines ≤ length n.machines + most_served e.channels
  pub sessions : n.sid ≤ m.sid
  pub next : m.sid ≤ suc n.sid
  pub event : AreNumbersSmall m → HasEvent (words_of e) x

-- ---- processes of the beginning

names_told : (names : List (List ℕ)) (w : Words) → w.names ≡ names → (ps : List Process) → All (λ p. has_name names p.name ≡ true) ps → (k : ℕ) → HasNameOf w (slice_get (map (λ p. p.name) ps) k)
names_told names w e [] h k = tt
names_told names w e (p ∷ ps) h zero =
    let here : has_name names p.name ≡ true = All-head (λ p. has_name names p.name ≡ true) p ps h in
    subst (λ (ns : List (List ℕ)). p.name.0 < length ns) (sym e) (ltb-true p.name.0 (length names) here)
names_told names w e (p ∷ ps) h (suc k) = names_told names w e ps (All-tail (λ p. has_name names p.name ≡ true) p ps h) k

pub process_told : (e : Endpoints) (p : ℕ) → IsSmall p → HasProcess (words_of e) p
process_told e p h = (h, names_told e.names (words_of e) refl e.processes e.numbered.in_processes p)
