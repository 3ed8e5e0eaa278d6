-- The greatest assignment decides linearity, and taking down keeps what every good assignment has.
use Rattle.std.proofs.Common.{◌≡◌, ℕ, zero, suc, Bool, true, false, refl, sym, ap, ◌∙◌, subst, ◌==◌, ◌&&◌, ◌||◌, List, [], ◌∷◌, if◌then◌else◌, arith}
use Rattle.std.specs.Prelude.{All, Contains, map}
use Rattle.std.proofs.lemmas.Bool.Decides.{nat_tests}
use Rattle.std.proofs.lemmas.List.Elements.{All-weaker, All-contains}
use Rattle.chor_base.specs.declared.names.NameId.{NameId}
use Rattle.chor_semantics.specs.Choreography.{Ref, Named, ref_eq, among, Node, Starts, Communicates, InTransit, Alone, Choreography, Then, Either, Calls, Ends}
use Rattle.chor_semantics.specs.Sources.{Procedure}
use Rattle.well_formed.specs.WellFormed.{firsts, service_refs}
use Rattle.well_formed.specs.Linear.{Members, ParameterSets, any_in, all_in, after_start, members_after, joins_from, everyone, given, all_given}
use Rattle.linearity.specs.Linear.{AreOrdered, ArePassed, set_of, MeetsCalls, MeetsStarts, AreWithin, IsLinearFor, IsGreatest}
use Rattle.linearity.specs.Taken.{is_passed, taken_at, taken, AreUpper}

-- one set within another
pub record Within (dep more : Members) : Type 0 where
  pub each : (r : Ref) → dep r ≡ true → more r ≡ true

both_left : (x y : Bool) → (x && y) ≡ true → x ≡ true
both_left true y h = refl
both_left false y h = absurd cc

both_right : (x y : Bool) → (x && y) ≡ true → y ≡ true
both_right true y h = h
both_right false y h = absurd cc

both : (x y : Bool) → x ≡ true → y ≡ true → (x && y) ≡ true
both true y h i = i
both false y h i = absurd cc

either_more : (x y x' y' : Bool) → (x ≡ true → x' ≡ true) → (y ≡ true → y' ≡ true) → (x || y) ≡ true → (x' || y') ≡ true
either_more true y x' y' f g h = ap (λ z. z || y') (f refl)
either_more false y true y' f g h = refl
either_more false y false y' f g h = g h

both_more : (x y x' y' : Bool) → (x ≡ true → x' ≡ true) → (y ≡ true → y' ≡ true) → (x && y) ≡ true → (x' && y') ≡ true
both_more x y x' y' f g h = both x' y' (f (both_left x y h)) (g (both_right x y h))

any_more : {dep more : Members} → Within dep more → (rs : List Ref) → any_in dep rs ≡ true → any_in more rs ≡ true
any_more w [] h = h
any_more {dep = dep} {more = more} w (r ∷ rs) h = either_more (dep r) (any_in dep rs) (more r) (any_in more rs) (w.each r) (any_more w rs) h

all_more : {dep more : Members} → Within dep more → (rs : List Ref) → all_in dep rs ≡ true → all_in more rs ≡ true
all_more w [] h = h
all_more {dep = dep} {more = more} w (r ∷ rs) h = both_more (dep r) (all_in dep rs) (more r) (all_in more rs) (w.each r) (all_more w rs) h

start_more : {dep more : Members} → Within dep more → (b : Bool) (active serve : List Ref) → Within (after_start b dep active serve) (after_start b more active serve)
start_more w true active serve = record { each = λ r h. h }
start_more {dep = dep} {more = more} w false active serve = record {
  each = λ r h.
      either_more (dep r) (any_in dep active && (among r active || among r serve)) (more r) (any_in more active && (among r active || among r serve)) (w.each r)
      (both_more (any_in dep active) (among r active || among r serve) (any_in more active) (among r active || among r serve) (any_more w active) (λ i. i)) h;
}

-- a greater set stays greater past a node
pub node_more : {dep more : Members} → Within dep more → (a : NameId) (n : Node) → Within (members_after a dep n) (members_after a more n)
node_more w a (Starts c d k active serve) = start_more w (c.0 == a.0) (firsts active) (service_refs d serve)
node_more {dep = dep} {more = more} w a (Communicates s p x q y z) = record {
  each = λ r h. either_more (dep r) (dep p && ref_eq r q) (more r) (more p && ref_eq r q) (w.each r) (both_more (dep p) (ref_eq r q) (more p) (ref_eq r q) (w.each p) (λ i. i)) h;
}
node_more w a (InTransit s x y m q) = w
node_more w a (Alone p o) = w

ordered_here : {dep more : Members} → Within dep more → (b : Bool) (rs : List Ref) → (if b then all_in dep rs else true) ≡ true → (if b then all_in more rs else true) ≡ true
ordered_here w true rs h = all_more w rs h
ordered_here w false rs h = refl

ordered_node : {dep more : Members} → Within dep more → (a : NameId) (n : Node) → joins_from a dep n ≡ true → joins_from a more n ≡ true
ordered_node w a (Starts c d k active serve) h = ordered_here w (c.0 == a.0) (firsts active) h
ordered_node w a (Communicates s p x q y z) h = refl
ordered_node w a (InTransit s x y m q) h = refl
ordered_node w a (Alone p o) h = refl

-- what holds of starts and of calls holds under a greater set
pub ordered_more : (a : NameId) (c : Choreography) {dep more : Members} → Within dep more → AreOrdered a dep c → AreOrdered a more c
ordered_more a (Then n rest) w h = (ordered_node w a n h.0, ordered_more a rest (node_more w a n) h.1)
ordered_more a (Either p e c d) w h = (ordered_more a c w h.0, ordered_more a d w h.1)
ordered_more a (Calls f d ps ss) w h = tt
ordered_more a Ends w h = tt

given_more : {dep more : Members} → Within dep more → (b : Bool) (p : Ref) → (if b then dep p else true) ≡ true → (if b then more p else true) ≡ true
given_more w true p h = w.each p h
given_more w false p h = refl

passed_call : {dep more : Members} → Within dep more → (f : ℕ → Bool) (i : ℕ) (ps : List Ref) → all_given dep f i ps ≡ true → all_given more f i ps ≡ true
passed_call w f i [] h = refl
passed_call {dep = dep} {more = more} w f i (p ∷ ps) h =
    both_more (if f i then dep p else true) (all_given dep f (suc i) ps) (if f i then more p else true) (all_given more f (suc i) ps) (given_more w (f i) p) (passed_call w f (suc i) ps) h

pub passed_more : (a : NameId) (sets : ParameterSets) (c : Choreography) {dep more : Members} → Within dep more → ArePassed a sets dep c → ArePassed a sets more c
passed_more a sets (Then n rest) w h = passed_more a sets rest (node_more w a n) h
passed_more a sets (Either p e c d) w h = (passed_more a sets c w h.0, passed_more a sets d w h.1)
passed_more a sets (Calls f d ps ss) w h = passed_call w (sets f) 0 ps h
passed_more a sets Ends w h = tt

members_more : (f g : ℕ → Bool) → ((i : ℕ) → f i ≡ true → g i ≡ true) → (i : ℕ) (xs : List Ref) → Within (given f i xs) (given g i xs)
members_more f g k i [] = record { each = λ r h. h }
members_more f g k i (x ∷ xs) = record {
  each = λ r h.
      either_more (f i && ref_eq r x) (given f (suc i) xs r) (g i && ref_eq r x) (given g (suc i) xs r)
      (both_more (f i) (ref_eq r x) (g i) (ref_eq r x) (k i) (λ j. j)) ((members_more f g k (suc i) xs).each r) h;
}

pub set_more : {sets more : ParameterSets} → AreWithin sets more → (h : Procedure) → Within (set_of sets h) (set_of more h)
set_more {sets = sets} {more = more} w h = members_more (sets h.name) (more h.name) (w h.name) 0 (map (λ x. Named x.0 0) h.params)

module _ (procs : List Procedure) (main : Choreography) (a : NameId) where
  -- under sets that have all that an assignment has, its condition on calls still holds
  pub calls_more : (sets more : ParameterSets) → AreWithin sets more → MeetsCalls procs main a sets → All (λ h. ArePassed a sets (set_of more h) h.body) procs
  calls_more sets more w m = All-weaker (λ h. ArePassed a sets (set_of sets h) h.body) (λ h. ArePassed a sets (set_of more h) h.body) (λ h p. passed_more a sets h.body (set_more w h) p) procs m.in_procs

  -- Linear exactly where each start is ordered under the greatest assignment
  pub greatest_orders : (sets : ParameterSets) → IsGreatest procs main a sets → IsLinearFor procs main a → MeetsStarts procs main a sets
  greatest_orders sets g l =
      let w = g.greatest l.sets l.passed in
      record {
        in_procs = All-weaker (λ h. AreOrdered a (set_of l.sets h) h.body) (λ h. AreOrdered a (set_of sets h) h.body) (λ h o. ordered_more a h.body (set_more w h) o) procs l.ordered.in_procs;
        in_main = l.ordered.in_main;
      }

  pub orders_linear : (sets : ParameterSets) → IsGreatest procs main a sets → MeetsStarts procs main a sets → IsLinearFor procs main a
  orders_linear sets g o = record { sets = sets; passed = g.passed; ordered = o }

-- ---- taking down

-- from the next place on is from this place on with the test shifted
shifted : (dep : Members) (f : ℕ → Bool) (i : ℕ) (ps : List Ref) → all_given dep f (suc i) ps ≡ all_given dep (λ j. f (suc j)) i ps
shifted dep f i [] = refl
shifted dep f i (p ∷ ps) = ap (λ b. (if f (suc i) then dep p else true) && b) (shifted dep f (suc i) ps)

passed_each : (dep : Members) (ps : List Ref) (f : ℕ → Bool) → all_given dep f 0 ps ≡ true → (i : ℕ) → f i ≡ true → is_passed dep ps i ≡ true
passed_each dep [] f h i k = refl
passed_each dep (p ∷ ps) f h zero k = first (f zero) k (both_left (if f zero then dep p else true) (all_given dep f 1 ps) h)
  where
    first : (b : Bool) → b ≡ true → (if b then dep p else true) ≡ true → dep p ≡ true
    first true e g = g
    first false e g = absurd cc
passed_each dep (p ∷ ps) f h (suc i) k =
    passed_each dep ps (λ j. f (suc j)) (sym (shifted dep f 0 ps) ∙ both_right (if f zero then dep p else true) (all_given dep f 1 ps) h) i k

passed_from : (dep : Members) (ps : List Ref) (f : ℕ → Bool) → ((i : ℕ) → f i ≡ true → is_passed dep ps i ≡ true) → all_given dep f 0 ps ≡ true
passed_from dep [] f k = refl
passed_from dep (p ∷ ps) f k =
    both (if f zero then dep p else true) (all_given dep f 1 ps) (first (f zero) (k zero)) (shifted dep f 0 ps ∙ passed_from dep ps (λ j. f (suc j)) (λ i. k (suc i)))
  where
    first : (b : Bool) → (b ≡ true → dep p ≡ true) → (if b then dep p else true) ≡ true
    first true g = g refl
    first false g = refl

-- a test by cases on whether the procedure is this one
at_call : (b x y : Bool) → (if b then x && y else x) ≡ true → x ≡ true
at_call true x y h = both_left x y h
at_call false x y h = h

to_call : (b x y : Bool) → x ≡ true → (b ≡ true → y ≡ true) → (if b then x && y else x) ≡ true
to_call true x y h k = both x y h (k refl)
to_call false x y h k = h

of_call : (n : ℕ) (x y : Bool) → (if n == n then x && y else x) ≡ true → y ≡ true
of_call n x y h = both_right x y (subst (λ (b : Bool). (if b then x && y else x) ≡ true) (same n) h)
  where
    same : (n : ℕ) → (n == n) ≡ true
    same n = grind (arith, nat_tests)

within_both : {s t u : ParameterSets} → AreWithin s t → AreWithin t u → AreWithin s u
within_both v w f i h = w f i (v f i h)

-- nothing comes in
pub taken_within : (a : NameId) (c : Choreography) (sets : ParameterSets) (dep : Members) → AreWithin (taken a sets dep c) sets
taken_within a (Then n rest) sets dep = taken_within a rest sets (members_after a dep n)
taken_within a (Either p e c d) sets dep = within_both {s = taken a (taken a sets dep c) dep d} {t = taken a sets dep c} {u = sets} (taken_within a d (taken a sets dep c) dep) (taken_within a c sets dep)
taken_within a (Calls f k ps ss) sets dep = λ g i h. at_call (g.0 == f.0) (sets g i) (is_passed dep ps i) h
taken_within a Ends sets dep = λ g i h. h

-- what holds of calls holds with fewer parameters
pub passed_less : (a : NameId) (c : Choreography) (fewer sets : ParameterSets) (dep : Members) → AreWithin fewer sets → ArePassed a sets dep c → ArePassed a fewer dep c
passed_less a (Then n rest) fewer sets dep w h = passed_less a rest fewer sets (members_after a dep n) w h
passed_less a (Either p e c d) fewer sets dep w h = (passed_less a c fewer sets dep w h.0, passed_less a d fewer sets dep w h.1)
passed_less a (Calls f k ps ss) fewer sets dep w h = passed_from dep ps (fewer f) (λ i j. passed_each dep ps (sets f) h i (w f i j))
passed_less a Ends fewer sets dep w h = tt

-- then the calls of this choreography hold
pub taken_passed : (a : NameId) (c : Choreography) (sets : ParameterSets) (dep : Members) → ArePassed a (taken a sets dep c) dep c
taken_passed a (Then n rest) sets dep = taken_passed a rest sets (members_after a dep n)
taken_passed a (Either p e c d) sets dep =
    (passed_less a c (taken a (taken a sets dep c) dep d) (taken a sets dep c) dep (taken_within a d (taken a sets dep c) dep) (taken_passed a c sets dep), taken_passed a d (taken a sets dep c) dep)
taken_passed a (Calls f k ps ss) sets dep = passed_from dep ps (taken_at f dep ps sets f) (λ i h. of_call f.0 (sets f i) (is_passed dep ps i) h)
taken_passed a Ends sets dep = tt

-- and what every good assignment has stays
pub taken_keeps : (a : NameId) (c : Choreography) (others sets : ParameterSets) (dep : Members) → AreWithin others sets → ArePassed a others dep c → AreWithin others (taken a sets dep c)
taken_keeps a (Then n rest) others sets dep w h = taken_keeps a rest others sets (members_after a dep n) w h
taken_keeps a (Either p e c d) others sets dep w h = taken_keeps a d others (taken a sets dep c) dep (taken_keeps a c others sets dep w h.0) h.1
taken_keeps a (Calls f k ps ss) others sets dep w h = λ g i j.
    to_call (g.0 == f.0) (sets g i) (is_passed dep ps i) (w g i j) (λ e. passed_each dep ps (others f) h i (subst (λ (x : NameId). others x i ≡ true) (name_same g f e) j))
  where
    name_same : (g f : NameId) → (g.0 == f.0) ≡ true → g ≡ f
    name_same g f e =
        let n : g.0 ≡ f.0 = grind (arith, nat_tests) in
        let name : ℕ → NameId = λ m. record { 0 = m } in ap name n
taken_keeps a Ends others sets dep w h = w

module _ (procs : List Procedure) (main : Choreography) (a : NameId) where
  -- all sets are full at first
  pub full_upper : AreUpper procs main a (λ f i. true)
  full_upper = λ others m f i h. refl

  -- a walk of a procedure's body, or of main, keeps all good assignments within
  pub upper_taken : (sets : ParameterSets) (h : Procedure) → Contains procs h → AreUpper procs main a sets → AreUpper procs main a (taken a sets (set_of sets h) h.body)
  upper_taken sets h among u = λ others m.
      taken_keeps a h.body others sets (set_of sets h) (u others m)
      (passed_more a others h.body (set_more (u others m) h) (All-contains (λ o. ArePassed a others (set_of others o) o.body) procs h m.in_procs among))

  pub upper_main : (sets : ParameterSets) → AreUpper procs main a sets → AreUpper procs main a (taken a sets everyone main)
  upper_main sets u = λ others m. taken_keeps a main others sets everyone (u others m) m.in_main

  -- where walks take nothing away, these are the greatest
  pub settled_greatest : (sets : ParameterSets) → AreUpper procs main a sets → All (λ h. AreWithin sets (taken a sets (set_of sets h) h.body)) procs → AreWithin sets (taken a sets everyone main) → IsGreatest procs main a sets
  settled_greatest sets u s m = record {
    passed = record {
      in_procs = All-weaker (λ h. AreWithin sets (taken a sets (set_of sets h) h.body)) (λ h. ArePassed a sets (set_of sets h) h.body)
          (λ h w. passed_less a h.body sets (taken a sets (set_of sets h) h.body) (set_of sets h) w (taken_passed a h.body sets (set_of sets h))) procs s;
      in_main = passed_less a main sets (taken a sets everyone main) everyone m (taken_passed a main sets everyone);
    };
    greatest = u;
  }
