-- What the code's head does next, the process does next in the choreography.
use Rattle.std.proofs.Common.{◌≡◌, ℕ, suc, Bool, true, false, List, Option, Some, None, refl, subst}
use Rattle.chor_base.specs.declared.names.NameId.{NameId}
use Rattle.chor_base.specs.Expr.{Term, term_of}
use Rattle.chor_semantics.specs.Choreography.{Ref, ref_eq, among, Node, Choreography, Then, Either, Calls, Ends}
use Rattle.chor_semantics.specs.Sources.{Procedure}
use Rattle.chor_semantics.specs.Steps.{procedure_named, body_of}
use Rattle.endpoint_code.specs.declared.code.CodeId.{CodeId}
use Rattle.endpoint_code.specs.declared.code.CodeNode.{CodeNode}
use Rattle.endpoint_code.specs.declared.code.CodeNode.TheVariants.{End}
use Rattle.endpoint_code.specs.declared.endpoints.Endpoints.{Endpoints}
use Rattle.endpoint_code.specs.Network.{node_at}
use Rattle.well_formed.specs.Follows.{SessionMap, Act, act_of, At, Agrees, HoldsAt, Place, Nowhere, Here, place_after, Fork, NoFork, Forks, fork_of, BothHold, Stands, standing, HoldsOf, follows_act, follows_test, follows_end, follows_call, follows_over, Follows}
use Rattle.correspondence.proofs.Next.{Next, here, skip, decides, fork, calls, next_more}
use Rattle.well_formed.specs.Guarded.{IsGuardedFor}
use Rattle.well_formed.proofs.References.{act_none}
use Rattle.correspondence.proofs.Calls.{one_less}

-- p does at a node what this code does, where the session names stand for what m says
abbrev pub Doing : Ref → SessionMap → CodeNode → Node → Type 0
Doing p m h n = (g : Act) × (act_of n p ≡ Some g) × Agrees m h g

-- and the code goes on somewhere after it
abbrev pub Somewhere : At
Somewhere q m = Unit {0}

abbrev pub DoingOn : Ref → SessionMap → CodeNode → Node → Type 0
DoingOn p m h n = (g : Act) × (act_of n p ≡ Some g) × Agrees m h g × HoldsAt Somewhere (place_after m h g)

-- the code is a conditional on this expression
abbrev pub Deciding : Fork → Term → Type 0
Deciding NoFork x = ⊥
Deciding (Forks y f g) x = term_of y ≡ x

module _ (e : Endpoints) (procs : List Procedure) (p : Ref) (q : CodeId) (m : SessionMap) (h : CodeNode) (stands : standing e (node_at e q) m ≡ Stands h) (no_end : h ≡ End → ⊥) where
  abbrev Found : Choreography → Type 0
  Found c = Next procs p (DoingOn p m h) (Deciding (fork_of h)) c

  abbrev CallsOk : Choreography → Type 0
  CallsOk (Then n rest) = act_of n p ≡ None → CallsOk rest
  CallsOk (Either r x c d) = ref_eq p r ≡ false → CallsOk c × CallsOk d
  CallsOk (Calls f d ps ss) = among p ps ≡ true → ((n : ℕ) → Follows e procs n p (Calls f d ps ss) q m) → Found (Calls f d ps ss)
  CallsOk Ends = Unit {0}

  not_ended : (R : At) → follows_end e R q m → ⊥
  not_ended R f = no_end (subst (λ s. HoldsOf R (λ c. c ≡ End) s) stands f)

  somewhere : (K : At) (z : Place) → HoldsAt K z → HoldsAt Somewhere z
  somewhere K Nowhere h = absurd h
  somewhere K (Here r t) h = tt

  at_fork : (K L : At) (x : Term) (o : Fork) → BothHold K L m x o → Deciding o x
  at_fork K L x NoFork b = b
  at_fork K L x (Forks y f g) b = b.0

  found : (c : Choreography) → CallsOk c → ((n : ℕ) → Follows e procs n p c q m) → Found c
  found (Then n rest) ok every = go (act_of n p) refl (λ k. every (suc k)) (found rest)
    where
      go : (o : Option Act) → act_of n p ≡ o → ((k : ℕ) → follows_act e o (Follows e procs k p (Then n rest)) (follows_over e procs p (Follows e procs k p) rest) q m) → (CallsOk rest → ((k : ℕ) → Follows e procs k p rest q m) → Found rest) → Found (Then n rest)
      go None i f ih = skip i (ih (ok i) (one_less e procs p q m rest f))
      go (Some g) i f ih =
          let K = follows_over e procs p (Follows e procs 0 p) rest in
          let does : Agrees m h g × HoldsAt K (place_after m h g) = subst (λ s. HoldsOf (Follows e procs 0 p (Then n rest)) (λ c. Agrees m c g × HoldsAt K (place_after m c g)) s) stands (f 0) in
          here (g, i, does.0, somewhere K (place_after m h g) does.1)
  found (Either r x c d) ok every = go (ref_eq p r) refl (λ k. every (suc k)) (found c) (found d)
    where
      go : (b : Bool) → ref_eq p r ≡ b → ((k : ℕ) → follows_test e b x (Follows e procs k p (Either r x c d)) (follows_over e procs p (Follows e procs k p) c) (follows_over e procs p (Follows e procs k p) d) q m) → (CallsOk c → ((k : ℕ) → Follows e procs k p c q m) → Found c) → (CallsOk d → ((k : ℕ) → Follows e procs k p d q m) → Found d) → Found (Either r x c d)
      go false i f ih jh = fork i (ih (ok i).0 (one_less e procs p q m c (λ k. (f k).0))) (jh (ok i).1 (one_less e procs p q m d (λ k. (f k).1)))
      go true i f ih jh =
          let K = follows_over e procs p (Follows e procs 0 p) c in
          let L = follows_over e procs p (Follows e procs 0 p) d in
          let g : BothHold K L m x (fork_of h) = subst (λ s. HoldsOf (Follows e procs 0 p (Either r x c d)) (λ y. BothHold K L m x (fork_of y)) s) stands (f 0) in
          decides i (at_fork K L x (fork_of h) g)
  found (Calls f d ps ss) ok every = go (among p ps) refl (λ k. every (suc k))
    where
      go : (b : Bool) → among p ps ≡ b → ((k : ℕ) → follows_call e b (body_of (procedure_named procs f) d ps ss) (Follows e procs k p) q m) → Found (Calls f d ps ss)
      go false i g = absurd (not_ended _ (g 0))
      go true i g = ok i every
  found Ends ok every = absurd (not_ended _ (every 1))

  -- a guarded body has no call of p to pass
  guarded_ok : (c : Choreography) → IsGuardedFor p c → CallsOk c
  guarded_ok (Then n rest) g = λ i. guarded_ok rest (g (act_none n p i))
  guarded_ok (Either r x c d) g = λ i. (guarded_ok c (g i).0, guarded_ok d (g i).1)
  guarded_ok (Calls f d ps ss) g = λ i _. absurd cc
  guarded_ok Ends g = tt

  module _ (bodies : (f : NameId) (d : ℕ) (ps ss : List Ref) (c : Choreography) → body_of (procedure_named procs f) d ps ss ≡ Some c → among p ps ≡ true → IsGuardedFor p c) where
    all_ok : (c : Choreography) → CallsOk c
    all_ok (Then n rest) = λ i. all_ok rest
    all_ok (Either r x c d) = λ i. (all_ok c, all_ok d)
    all_ok (Calls f d ps ss) = λ i every. go (body_of (procedure_named procs f) d ps ss) refl i (λ k. subst (λ b. follows_call e b (body_of (procedure_named procs f) d ps ss) (Follows e procs k p) q m) i (every (suc k)))
      where
        go : (o : Option Choreography) → body_of (procedure_named procs f) d ps ss ≡ o → among p ps ≡ true → ((k : ℕ) → follows_call e true o (Follows e procs k p) q m) → Found (Calls f d ps ss)
        go None b i g = absurd (g 0)
        go (Some c) b i g = calls b (found c (guarded_ok c (bodies f d ps ss c b i)) g)
    all_ok Ends = tt

    -- what the head does, p does next, and the code goes on after it
    pub next_on : (c : Choreography) → ((n : ℕ) → Follows e procs n p c q m) → Next procs p (DoingOn p m h) (Deciding (fork_of h)) c
    next_on c every = found c (all_ok c) every

    pub next_is : (c : Choreography) → ((n : ℕ) → Follows e procs n p c q m) → Next procs p (Doing p m h) (Deciding (fork_of h)) c
    next_is c every = next_more procs p (λ n w. (w.0, w.1, w.2)) (λ y w. w) (next_on c every)
