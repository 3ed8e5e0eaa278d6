-- What a process makes by itself is told.
use Rattle.std.proofs.Common.{◌==◌, ◌≡◌, ◌<◌, ◌≤◌, ◌^◌, ◌++◌, ℕ, ℤ, Bool, true, false, List, [], ◌∷◌, length, Option, Some, None, refl, sym, subst, arith, if◌then◌else◌}
use Rattle.std.specs.Prelude.{slice_get}
use Rattle.std.specs.List.{AllByRecursion}
use Rattle.std.specs.FinMap as fin
use Rattle.std.proofs.lemmas.Bool.{ltb-true, and_parts}
use Rattle.chor_base.specs.declared.names.NameId.{NameId}
use Rattle.chor_base.specs.declared.value.Value.TheVariants.{Int, Bool as Truth, Text, Part as Endpoint}
use Rattle.chor_base.specs.declared.value.Load.{Load}
use Rattle.chor_base.specs.declared.value.Load.TheVariants.{Value as Carries, Label as Picks}
use Rattle.chor_base.specs.declared.event.Event.{Event}
use Rattle.chor_base.specs.declared.event.Event.TheVariants as event
use Rattle.chor_base.specs.Expr.{term_of, value_of, number_of, truth_of}
use Rattle.chor_base.specs.Meaning.{Hosts}
use Rattle.chor_base.specs.NameMap.{FromNames, Variables}
use Rattle.endpoint_code.specs.declared.code.CodeId.{CodeId}
use Rattle.endpoint_code.specs.declared.code.CodeNode.{CodeNode}
use Rattle.endpoint_code.specs.declared.code.CodeNode.TheVariants.{Join, Send, Recv, Pick, Branch, Throw, Catch, Set, Show, Host, If, Call, End}
use Rattle.endpoint_code.specs.declared.endpoints.Endpoints.{Endpoints}
use Rattle.endpoint_code.specs.Kept.{has_name, has_text, term_there}
use Rattle.endpoint_code.specs.Network.{Sessions, Machine, NetworkState, Place, Makes, Taking, Goes, queue_of, moved, with_queue, has_room, put_if, puts, part_load, arm_at, takes_value, in_arm, takes_label, takes_part, went, takes_from, takes, node_makes, place_makes, machine_makes, makes, place_of, PlaceAnswers, MachineAnswers}
use Rattle.endpoint_code.specs.Trees.{arms_in, trees_of}
use Rattle.transcript.specs.Text.{Words}
use Rattle.event_reader.specs.Known.{HasName, HasEvent, IsInt}
use Rattle.projected_programs.specs.Sizes.{AreArmsSized, IsTermSized, AreLiteralsSized, AreMeaningsSized}
use Rattle.projected_programs.specs.Told.{words_of, AreNumbersSmall}
use Rattle.projected_programs.proofs.Values.{answers_int, IsFineValue, AreFineVariables, value_fine, argument_int}
use Rattle.projected_programs.proofs.States.{IsSizedAt, at_of, after_set, count_set, joined, within, Holds, insert_holds, remove_holds, IsFinePart, AreFineSessions, IsFineLoad, IsFineMachine, IsFine, loads_fine, queues_fine, value_told, load_told, Told, process_told}
use Rattle.projected_programs.proofs.Places.{IsKnown, place_known}

-- what is found has the property
abbrev OfSome : {X : Type 0} → (X → Type 0) → Option X → Type 0
OfSome P None = Unit {0}
OfSome P (Some x) = P x

found : {V : Type 0} (P : V → Type 0) (m : FromNames V) (k : ℕ) → Holds P m → OfSome P (fin.get m k)
found P m k h = go (fin.get m k) refl
  where
    go : (o : Option _) → fin.get m k ≡ o → OfSome P o
    go None e = tt
    go (Some v) e = h k v e

module _ (e : Endpoints) where
  abbrev w : Words
  w = words_of e

  named : (y : NameId) → has_name e.names y ≡ true → HasName w y
  named y h = ltb-true y.0 (length e.names) h

  abbrev pub IsFineTaking : ℕ → Option Taking → Type 0
  IsFineTaking sid None = Unit {0}
  IsFineTaking sid (Some (Goes next vars ss)) = AreFineVariables w sid vars × AreFineSessions w sid ss × IsSizedAt e next

  -- a process has moved on
  moved_fine : (n : NetworkState) (p : ℕ) (at : CodeId) (vars : Variables) (ss : Sessions) → IsFine e n → AreFineVariables w n.sid vars → AreFineSessions w n.sid ss → IsSizedAt e at → IsFine e (moved n p at vars ss)
  moved_fine n p at vars ss f v s z = record { machines = after_set (IsFineMachine e n.sid) n.machines p (record { at = at; vars = vars; sessions = ss }) f.machines (v, s, z); queues = f.queues }

  module _ (x : Event) (m : NetworkState) where
    -- what is made is this
    this : (n : NetworkState) (y : Event) (n' : NetworkState) → Told e n y n' → Some (Makes y n') ≡ Some (Makes x m) → Told e n x m
    this n y n' t h =
        let i : y ≡ x = cc in
        let j : n' ≡ m = cc in
        subst (λ (z : NetworkState). Told e n x z) j (subst (λ (z : Event). Told e n z n') i t)

    -- from a state in which the process has moved on
    from_moved : (n : NetworkState) (p : ℕ) (at : CodeId) (vars : Variables) (ss : Sessions) → Told e (moved n p at vars ss) x m → Told e n x m
    from_moved n p at vars ss t =
        let count = count_set n.machines p (record { at = at; vars = vars; sessions = ss }) in
        record {
          fine = t.fine;
          machines = omega (arith, count, t.machines);
          more = omega (arith, count, t.more);
          sessions = t.sessions;
          next = t.next;
          event = t.event;
        }

    still_there : (n : NetworkState) (p : ℕ) (at : CodeId) (vars : Variables) (ss : Sessions) → p < length n.machines → p < length (moved n p at vars ss).machines
    still_there n p at vars ss lt = subst (λ (k : ℕ). p < k) (sym (count_set n.machines p (record { at = at; vars = vars; sessions = ss }))) lt

    put_told : (cap : Option ℕ) (n : NetworkState) (p : ℕ) (b : NameId) (o : Option (ℕ × NameId)) (ol : Option Load) → IsFine e n → p < length n.machines → HasName w b
        → OfSome (IsFinePart w n.sid) o → OfSome (IsFineLoad w n.sid) ol → puts cap n p b o ol ≡ Some (Makes x m) → Told e n x m
    put_told cap n p b None ol f lt nb q l h = absurd cc
    put_told cap n p b (Some s) None f lt nb q l h = absurd cc
    put_told cap n p b (Some (s, a)) (Some l) f lt nb q fl h = go (has_room cap (queue_of n (s, a, b))) h
      where
        go : (r : Bool) → put_if r n p (s, a, b) l ≡ Some (Makes x m) → Told e n x m
        go false i = absurd cc
        go true i =
            this n (event.Send p s a b l) (with_queue n (s, a, b) (queue_of n (s, a, b) ++ l ∷ [])) (record {
              fine = record {
                machines = f.machines;
                queues = queues_fine w n.sid n.queues (s, a, b) (queue_of n (s, a, b) ++ l ∷ []) f.queues (joined (IsFineLoad w n.sid) (queue_of n (s, a, b)) (l ∷ []) (loads_fine w n.sid n.queues (s, a, b) f.queues) (fl, tt));
              };
              machines = omega arith;
              more = omega arith;
              sessions = omega arith;
              next = omega arith;
              event = λ small. ((process_told e p (omega (arith, lt, small.0)), omega (arith, q.0, small.1), q.1, nb), load_told w n.sid small.1 l fl);
            }) i

    take_told : (n : NetworkState) (p : ℕ) (a : NameId) (o : Option (ℕ × NameId)) (g : Load → Option Taking) → IsFine e n → p < length n.machines → HasName w a
        → OfSome (IsFinePart w n.sid) o → ((l : Load) → IsFineLoad w n.sid l → IsFineTaking n.sid (g l)) → takes n p a o g ≡ Some (Makes x m) → Told e n x m
    take_told n p a None g f lt na q good h = absurd cc
    take_told n p a (Some (s, b)) g f lt na q good h = at_queue (queue_of n (s, a, b)) (loads_fine w n.sid n.queues (s, a, b) f.queues) h
      where
        at_load : (l : Load) (rest : List Load) → IsFineLoad w n.sid l → AllByRecursion (IsFineLoad w n.sid) rest → (o : Option Taking) → IsFineTaking n.sid o → went n p (s, a, b) l rest o ≡ Some (Makes x m) → Told e n x m
        at_load l rest fl fr None t i = absurd cc
        at_load l rest fl fr (Some (Goes next vars ss)) t i =
            let to = moved n p next vars ss in
            let fine = moved_fine n p next vars ss f t.0 t.1 t.2 in
            this n (event.Recv p s a b l) (with_queue to (s, a, b) rest) (record {
              fine = record { machines = fine.machines; queues = queues_fine w n.sid n.queues (s, a, b) rest f.queues fr };
              machines = omega (arith, count_set n.machines p (record { at = next; vars = vars; sessions = ss }));
              more = omega (arith, count_set n.machines p (record { at = next; vars = vars; sessions = ss }));
              sessions = omega arith;
              next = omega arith;
              event = λ small. let count = count_set n.machines p (record { at = next; vars = vars; sessions = ss }) in ((process_told e p (omega (arith, lt, small.0, count)), omega (arith, q.0, small.1), na, q.1), load_told w n.sid small.1 l fl);
            }) i

        at_queue : (ls : List Load) → AllByRecursion (IsFineLoad w n.sid) ls → takes_from n p (s, a, b) g ls ≡ Some (Makes x m) → Told e n x m
        at_queue [] fls i = absurd cc
        at_queue (l ∷ rest) fls i = at_load l rest fls.0 fls.1 (g l) (good l fls.0) i

  -- ---- what a process takes

  module _ (sid : ℕ) (next : CodeId) (vars : Variables) (ss : Sessions) (fv : AreFineVariables w sid vars) (fs : AreFineSessions w sid ss) where
    value_taken : IsSizedAt e next → (y : NameId) (l : Load) → IsFineLoad w sid l → IsFineTaking sid (takes_value next vars ss y l)
    value_taken c y (Carries (Int z)) h = (insert_holds (IsFineValue w sid) vars y.0 (Int z) fv h, fs, c)
    value_taken z y (Carries (Truth b)) h = (insert_holds (IsFineValue w sid) vars y.0 (Truth b) fv h, fs, z)
    value_taken z y (Carries (Text t)) h = (insert_holds (IsFineValue w sid) vars y.0 (Text t) fv h, fs, z)
    value_taken z y (Carries (Endpoint s r)) h = tt
    value_taken z y (Picks l) h = tt

    part_taken : IsSizedAt e next → (y : NameId) (l : Load) → IsFineLoad w sid l → IsFineTaking sid (takes_part next vars ss y l)
    part_taken c y (Carries (Int z)) h = tt
    part_taken z y (Carries (Truth b)) h = tt
    part_taken z y (Carries (Text t)) h = tt
    part_taken z y (Carries (Endpoint s r)) h = (fv, insert_holds (IsFinePart w sid) ss y.0 (s, r) fs h, z)
    part_taken z y (Picks l) h = tt

    arm_sized : (arms : List (NameId × CodeId)) (l : NameId) → AreArmsSized (arms_in (trees_of e.code.nodes) arms) → OfSome (IsSizedAt e) (arm_at arms l)
    arm_sized [] l h = tt
    arm_sized (arm ∷ arms) l h = go (arm.0.0 == l.0) (arm_sized arms l h.1)
      where
        go : (b : Bool) → OfSome (IsSizedAt e) (arm_at arms l) → OfSome (IsSizedAt e) (if b then Some arm.1 else arm_at arms l)
        go true others = h.0
        go false others = others

    label_taken : (arms : List (NameId × CodeId)) → AreArmsSized (arms_in (trees_of e.code.nodes) arms) → (l : Load) → IsFineLoad w sid l → IsFineTaking sid (takes_label arms vars ss l)
    label_taken arms sized (Carries v) h = tt
    label_taken arms sized (Picks l) h = go (arm_at arms l) (arm_sized arms l sized)
      where
        go : (o : Option CodeId) → OfSome (IsSizedAt e) o → IsFineTaking sid (in_arm o vars ss)
        go None z = tt
        go (Some id) z = (fv, fs, z)

    part_sent : (o : Option (ℕ × NameId)) → OfSome (IsFinePart w sid) o → OfSome (IsFineLoad w sid) (part_load o)
    part_sent None h = tt
    part_sent (Some (s, r)) h = h

  -- ---- a node

  module _ (sized : AreLiteralsSized e) (hosts : Hosts) (meanings : AreMeaningsSized hosts) (x : Event) (m : NetworkState) (cap : Option ℕ) (n : NetworkState) (p : ℕ) (v : ℤ) (f : IsFine e n) (lt : p < length n.machines) where
    module _ (vars : Variables) (ss : Sessions) (fv : AreFineVariables w n.sid vars) (fs : AreFineSessions w n.sid ss) where
      -- a step of the process alone
      alone : (at : CodeId) (vs : Variables) (y : Event) → IsSizedAt e at → AreFineVariables w n.sid vs → (AreNumbersSmall n → HasEvent w y) → Some (Makes y (moved n p at vs ss)) ≡ Some (Makes x m) → Told e n x m
      alone at vs y z h told i =
          let count = count_set n.machines p (record { at = at; vars = vs; sessions = ss }) in
          this x m n y (moved n p at vs ss) (record {
            fine = moved_fine n p at vs ss f h fs z;
            machines = omega (arith, count);
            more = omega (arith, count);
            sessions = omega arith;
            next = omega arith;
            event = λ small. told (subst (λ (k : ℕ). k ≤ 2 ^ 32) count small.0, small.1);
          }) i

      value : (t : _) → term_there (has_name e.names) (has_text e.texts) (term_of t) ≡ true → IsTermSized (term_of t) → IsFineValue w n.sid (value_of (term_of t) vars)
      value t h k = value_fine w n.sid (term_of t) vars h k fv

      sends : (b : NameId) (next : CodeId) (ms : Sessions) (o : Option (ℕ × NameId)) (ol : Option Load) → IsSizedAt e next → AreFineSessions w n.sid ms → HasName w b → OfSome (IsFinePart w n.sid) o → OfSome (IsFineLoad w n.sid) ol
          → puts cap (moved n p next vars ms) p b o ol ≡ Some (Makes x m) → Told e n x m
      sends b next ms o ol z fm nb q l i =
          from_moved x m n p next vars ms (put_told x m cap (moved n p next vars ms) p b o ol (moved_fine n p next vars ms f fv fm z) (still_there x m n p next vars ms lt) nb q l i)

      either : (b : Bool) (c d : CodeId) → IsSizedAt e c → IsSizedAt e d → IsSizedAt e (if b then c else d)
      either true c d y z = y
      either false c d y z = z

      node_told : (node : CodeNode) → IsKnown e node → PlaceAnswers hosts vars (Some (let q : Place = record { node = node; sessions = ss } in q)) v → node_makes cap n p v vars ss node ≡ Some (Makes x m) → Told e n x m
      node_told (Send k b t next) is a i =
          let h = and_parts _ _ is.there in
          let g = and_parts _ _ h.0 in
          sends b next ss (fin.get ss k.0) (Some (Carries (value_of (term_of t) vars))) is.sized.1 fs (named b g.1) (found (IsFinePart w n.sid) ss k.0 fs) (value t h.1 is.sized.0) i
      node_told (Pick k b l next) is a i =
          let h = and_parts _ _ is.there in
          let g = and_parts _ _ h.0 in
          sends b next ss (fin.get ss k.0) (Some (Picks l)) is.sized.1 fs (named b g.1) (found (IsFinePart w n.sid) ss k.0 fs) (named l h.1) i
      node_told (Throw k b y next) is a i =
          let h = and_parts _ _ is.there in
          let g = and_parts _ _ h.0 in
          sends b next (fin.remove ss y.0) (fin.get ss k.0) (part_load (fin.get ss y.0)) is.sized.1 (remove_holds (IsFinePart w n.sid) ss y.0 fs) (named b g.1) (found (IsFinePart w n.sid) ss k.0 fs)
          (part_sent n.sid next vars ss fv fs (fin.get ss y.0) (found (IsFinePart w n.sid) ss y.0 fs)) i
      node_told (Recv k b y next) is a i =
          let h = and_parts _ _ is.there in
          let g = and_parts _ _ h.0 in
          take_told x m n p b (fin.get ss k.0) (takes_value next vars ss y) f lt (named b g.1) (found (IsFinePart w n.sid) ss k.0 fs) (value_taken n.sid next vars ss fv fs is.sized.1 y) i
      node_told (Branch k b arms) is a i =
          let h = and_parts _ _ is.there in
          let g = and_parts _ _ h.0 in
          take_told x m n p b (fin.get ss k.0) (takes_label arms vars ss) f lt (named b g.1) (found (IsFinePart w n.sid) ss k.0 fs) (label_taken n.sid (record { 0 = 0 }) vars ss fv fs arms is.sized) i
      node_told (Catch k b y next) is a i =
          let h = and_parts _ _ is.there in
          let g = and_parts _ _ h.0 in
          take_told x m n p b (fin.get ss k.0) (takes_part next vars ss y) f lt (named b g.1) (found (IsFinePart w n.sid) ss k.0 fs) (part_taken n.sid next vars ss fv fs is.sized.1 y) i
      node_told (Set y t next) is a i =
          let h = and_parts _ _ is.there in
          let fine = value t h.1 is.sized.0 in
          alone next (fin.insert vars y.0 (value_of (term_of t) vars)) (event.Set p y (value_of (term_of t) vars)) is.sized.1 (insert_holds (IsFineValue w n.sid) vars y.0 (value_of (term_of t) vars) fv fine)
          (λ small. (process_told e p (omega (arith, lt, small.0)), named y h.0, value_told w n.sid small.1 (value_of (term_of t) vars) fine)) i
      node_told (Show t next) is a i =
          let fine = value t is.there is.sized.0 in
          alone next vars (event.Show p (value_of (term_of t) vars)) is.sized.1 fv (λ small. (process_told e p (omega (arith, lt, small.0)), value_told w n.sid small.1 (value_of (term_of t) vars) fine)) i
      node_told (Host y g s t next) is a i =
          let h = and_parts _ _ is.there in
          let j = and_parts _ _ h.0 in
          let k = and_parts _ _ j.0 in
          let left = argument_int w n.sid (term_of s) vars j.1 is.sized.0.0 fv in
          let right = argument_int w n.sid (term_of t) vars h.1 is.sized.0.1 fv in
          let answer : IsInt v = answers_int hosts g (number_of (value_of (term_of s) vars)) (number_of (value_of (term_of t) vars)) v meanings left right a in
          alone next (fin.insert vars y.0 (Int v)) (event.Host p y g (number_of (value_of (term_of s) vars)) (number_of (value_of (term_of t) vars)) v) is.sized.1 (insert_holds (IsFineValue w n.sid) vars y.0 (Int v) fv answer)
          (λ small. (process_told e p (omega (arith, lt, small.0)), named y k.0, named g k.1, left, right, answer)) i
      node_told (If t c d) is a i =
          alone (if truth_of (value_of (term_of t) vars) then c else d) vars (event.Test p (truth_of (value_of (term_of t) vars))) (either (truth_of (value_of (term_of t) vars)) c d is.sized.1 is.sized.2) fv (λ small. process_told e p (omega (arith, lt, small.0))) i
      node_told (Join c r k next) is a i = absurd cc
      node_told (Call g q ks) is a i = absurd cc
      node_told End is a i = absurd cc

    at_place : (machine : Machine) → IsFineMachine e n.sid machine → (o : Option Place) → place_of e machine ≡ o → PlaceAnswers hosts machine.vars o v → place_makes cap n p v machine.vars o ≡ Some (Makes x m) → Told e n x m
    at_place machine fm None j a i = absurd cc
    at_place machine fm (Some q) j a i =
        let known = place_known e sized n.sid machine q fm.1 fm.2 j in
        node_told machine.vars q.sessions fm.0 known.sessions q.node known.node a i

  pub act_told : (sized : AreLiteralsSized e) (hosts : Hosts) (meanings : AreMeaningsSized hosts) (x : Event) (m : NetworkState) (cap : Option ℕ) (n : NetworkState) (p : ℕ) (v : ℤ) → IsFine e n
      → MachineAnswers hosts e (slice_get n.machines p) v → makes e cap n p v ≡ Some (Makes x m) → Told e n x m
  act_told sized hosts meanings x m cap n p v f a i = at_machine (slice_get n.machines p) refl a i
    where
      at_machine : (o : Option Machine) → slice_get n.machines p ≡ o → MachineAnswers hosts e o v → machine_makes e cap n p v o ≡ Some (Makes x m) → Told e n x m
      at_machine None j b h = absurd cc
      at_machine (Some machine) j b h =
          at_place sized hosts meanings x m cap n p v f (within n.machines p machine j) machine (at_of (IsFineMachine e n.sid) n.machines p machine f.machines j) (place_of e machine) refl b h
