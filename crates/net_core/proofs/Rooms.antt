-- Room for the next events of processes.
use Rattle.std.proofs.Common.{◌≡◌, ℕ, zero, suc, ◌<◌, ◌≤◌, ◌&&◌, Bool, true, List, [], ◌∷◌, length, get_or, refl, sym, ap, ◌∙◌, Option, Some, None, arith}
use Rattle.std.specs.Prelude.{slice_get, slice_set, map, nat_lt}
use Rattle.std.proofs.lemmas.Option.{slice_get-get_or, slice_get-map, get_or_from_slice_get}
use Rattle.std.proofs.lemmas.Bool.{and_parts}
use Rattle.std.proofs.lemmas.Bool.Decides.{nat_tests}
use Rattle.chor_base.specs.Events.{Triple}
use Rattle.endpoint_code.specs.declared.endpoints.Endpoints.{Endpoints}
use Rattle.endpoint_code.specs.Network.{Machine}
use Rattle.endpoint_machine.specs.declared.head.Head.{Head}
use Rattle.endpoint_machine.specs.declared.head.Head.TheVariants as head
use Rattle.endpoint_machine.specs.Heads.{head_of}
use Rattle.endpoint_machine.specs.Views.{MachineView}
use Rattle.post_office.specs.Lanes.{QueuesView, room_on}
use Rattle.session_starts.specs.Machines.{standing_of, is_reserved}
use Rattle.session_starts.specs.Starts.{reserved_in}
use Rattle.net_core.specs.Machines.{has_queue_room}
use Rattle.net_core.specs.Views.{has_room}
use Rattle.net_core.proofs.Turns.{turn}

abbrev got : {X Y : Type 0} → (X → Y) → Option X → Option Y
got f None = None
got f (Some x) = Some (f x)

pub mapped_at : {X Y : Type 0} (f : X → Y) (xs : List X) (p : ℕ) (x : X) → p < length xs → x ≡ get_or xs p x → slice_get (map f xs) p ≡ Some (f x)
mapped_at f xs p x lt h = slice_get-map f xs p ∙ ap (λ o. got f o) (slice_get-get_or xs p x lt ∙ ap Some (sym h))

pub set_mapped_at : {X Y : Type 0} (f : X → Y) (xs : List X) (p : ℕ) (y : X) → p < length xs → slice_get (map f (slice_set xs p y)) p ≡ Some (f y)
set_mapped_at f [] p y lt = absurd (omega arith)
set_mapped_at f (x ∷ xs) zero y lt = refl
set_mapped_at f (x ∷ xs) (suc p) y lt = set_mapped_at f xs p y (omega arith)

kept_all : {X : Type 0} (f g : X → Bool) (xs : List X) → ((z : X) → f z ≡ true → g z ≡ true) → (i : ℕ) → slice_get (map f xs) i ≡ Some true → slice_get (map g xs) i ≡ Some true
kept_all f g [] each i t = absurd cc
kept_all f g (z ∷ xs) each zero t = ap Some (each z cc)
kept_all f g (z ∷ xs) each (suc i) t = kept_all f g xs each i t

-- what is true of each item, and of one item more, is true after that item has been put
pub kept_after : {X : Type 0} (f g : X → Bool) (xs : List X) (p : ℕ) (x y : X) → p < length xs → x ≡ get_or xs p x → ((z : X) → f z ≡ true → g z ≡ true) → (f x ≡ true → g y ≡ true) → (i : ℕ) → slice_get (map f xs) i ≡ Some true → slice_get (map g (slice_set xs p y)) i ≡ Some true
kept_after f g [] p x y lt h each one i t = absurd (omega arith)
kept_after f g (z ∷ xs) zero x y lt h each one zero t = ap Some (one (ap f h ∙ (let e : f z ≡ true = cc in e)))
kept_after f g (z ∷ xs) zero x y lt h each one (suc i) t = kept_all f g xs each i t
kept_after f g (z ∷ xs) (suc p) x y lt h each one zero t = ap Some (each z cc)
kept_after f g (z ∷ xs) (suc p) x y lt h each one (suc i) t = kept_after f g xs p x y (omega arith) h each one i t

-- a process in the same place has still room where there isn't less
pub room_stays : (e : Endpoints) (k l : ℕ) (q r : QueuesView) (m n : MachineView) → k ≤ l → ((t : Triple) → room_on q t ≤ room_on r t) → (is_reserved e m ≡ true → is_reserved e n ≡ true) → n.machine ≡ m.machine → has_room e k q m ≡ true → has_room e l r n ≡ true
room_stays e k l q r m n more queues kept same h =
    let parts = and_parts (nat_lt 0 k) (is_reserved e m && has_queue_room q (head_of e m.machine)) h in
    let others = and_parts (is_reserved e m) (has_queue_room q (head_of e m.machine)) parts.1 in
    let first : nat_lt 0 l ≡ true = let a : nat_lt 0 k ≡ true = parts.0 in grind (arith, nat_tests) in
    ap (λ (b : Bool). b && (is_reserved e n && has_queue_room r (head_of e n.machine))) first
    ∙ ap (λ (b : Bool). b && has_queue_room r (head_of e n.machine)) (kept others.0)
    ∙ ap (λ (s : Machine). has_queue_room r (head_of e s)) same ∙ queue_stays (head_of e m.machine) others.1
  where
    queue_stays : (o : Option Head) → has_queue_room q o ≡ true → has_queue_room r o ≡ true
    queue_stays (Some (head.Out s a b)) h = let k = queues (s, a, b) in grind (arith, nat_tests)
    queue_stays (Some (head.Take s a b)) h = refl
    queue_stays (Some (head.Join c o)) h = refl
    queue_stays (Some head.Local) h = refl
    queue_stays (Some head.Ended) h = refl
    queue_stays None h = refl

-- so have all processes where none has less
pub room_all : (e : Endpoints) (k l : ℕ) (q : QueuesView) (ms ns : List MachineView) → k ≤ l → map standing_of ns ≡ map standing_of ms → ((p : ℕ) → reserved_in e ms p ≡ true → reserved_in e ns p ≡ true)
    → (p : ℕ) → slice_get (map (has_room e k q) ms) p ≡ Some true → slice_get (map (has_room e l q) ns) p ≡ Some true
room_all e k l q [] ns le same kept p h = absurd cc
room_all e k l q (m ∷ ms) [] le same kept p h = absurd cc
room_all e k l q (m ∷ ms) (n ∷ ns) le same kept zero h = ap Some (room_stays e k l q q m n le (λ t. omega arith) (kept zero) (let f : standing_of n ≡ standing_of m = cc in f) cc)
room_all e k l q (m ∷ ms) (n ∷ ns) le same kept (suc p) h = room_all e k l q ms ns le (let f : map standing_of ns ≡ map standing_of ms = cc in f) (λ i. kept (suc i)) p h

-- a process has room where the history, the process and its queue have
pub room_made : (e : Endpoints) (k : ℕ) (q : QueuesView) (m : MachineView) (h : Head) → head_of e m.machine ≡ Some h → 0 < k → is_reserved e m ≡ true → has_queue_room q (Some h) ≡ true → has_room e k q m ≡ true
room_made e k q m h is more room queue =
    let first : nat_lt 0 k ≡ true = grind (arith, nat_tests) in
    ap (λ (b : Bool). b && (is_reserved e m && has_queue_room q (head_of e m.machine))) first
    ∙ ap (λ (b : Bool). b && has_queue_room q (head_of e m.machine)) room ∙ ap (has_queue_room q) is ∙ queue

pub room_known : (e : Endpoints) (k : ℕ) (q : QueuesView) (m : MachineView) (h : Head) → head_of e m.machine ≡ Some h → has_room e k q m ≡ true → (0 < k) × (is_reserved e m ≡ true) × (has_queue_room q (Some h) ≡ true)
room_known e k q m h is r =
    let parts = and_parts (nat_lt 0 k) (is_reserved e m && has_queue_room q (head_of e m.machine)) r in
    let others = and_parts (is_reserved e m) (has_queue_room q (head_of e m.machine)) parts.1 in
    let a : nat_lt 0 k ≡ true = parts.0 in
    (grind (arith, nat_tests), others.0, sym (ap (has_queue_room q) is) ∙ others.1)

pub reserved_room : (e : Endpoints) (k : ℕ) (q : QueuesView) (ms : List MachineView) (p : ℕ) (m : MachineView) → p < length ms → m ≡ get_or ms p m → slice_get (map (has_room e k q) ms) p ≡ Some true → has_room e k q m ≡ true
reserved_room e k q ms p m lt h r = let a : Some (has_room e k q m) ≡ Some true = sym (mapped_at (has_room e k q) ms p m lt h) ∙ r in cc

pub reserved_first : (e : Endpoints) (k : ℕ) (q : QueuesView) (ms : List MachineView) (p : ℕ) → p < length ms → slice_get (map (has_room e k q) ms) p ≡ Some true → 0 < k
reserved_first e k q ms p lt r =
    let t = turn ms p lt in
    let h = reserved_room e k q ms p t.item lt (sym (get_or_from_slice_get ms p t.item t.item t.there)) r in
    let a : nat_lt 0 k ≡ true = (and_parts (nat_lt 0 k) (is_reserved e t.item && has_queue_room q (head_of e t.item.machine)) h).0 in
    grind (arith, nat_tests)
