-- Less fuel asks for less.
use Rattle.std.proofs.Common.{ℕ, zero, suc, Bool, true, false, List, Option, Some, None}
use Rattle.chor_base.specs.Expr.{Term}
use Rattle.chor_semantics.specs.Choreography.{Ref, ref_eq, among, Choreography, Then, Either, Calls, Ends}
use Rattle.chor_semantics.specs.Sources.{Procedure}
use Rattle.chor_semantics.specs.Steps.{procedure_named, body_of}
use Rattle.endpoint_code.specs.declared.code.CodeId.{CodeId}
use Rattle.endpoint_code.specs.declared.code.CodeNode.{CodeNode}
use Rattle.endpoint_code.specs.declared.endpoints.Endpoints.{Endpoints}
use Rattle.endpoint_code.specs.Network.{node_at}
use Rattle.well_formed.specs.Follows.{SessionMap, Act, act_of, At, Place, Nowhere, Here, HoldsAt, place_after, Fork, NoFork, Forks, fork_of, BothHold, Standing, Nothing, Body, Stands, standing, HoldsOf, follows_act, follows_test, follows_end, follows_call, follows_over, Follows}

-- a fact that implies another at each place
abbrev pub Implies : At → At → Type 0
Implies R S = (q : CodeId) (m : SessionMap) → R q m → S q m

holds_more : (K L : At) → Implies K L → (o : Place) → HoldsAt K o → HoldsAt L o
holds_more K L j Nowhere h = h
holds_more K L j (Here q m) h = j q m h

both_more : (K K' L L' : At) → Implies K K' → Implies L L' → (m : SessionMap) (x : Term) (o : Fork) → BothHold K L m x o → BothHold K' L' m x o
both_more K K' L L' j k m x NoFork h = h
both_more K K' L L' j k m x (Forks y f g) h = (h.0, j f m h.1, k g m h.2)

stands_more : (R S : At) (P Q : CodeNode → Type 0) → Implies R S → ((c : CodeNode) → P c → Q c) → (o : Standing) → HoldsOf R P o → HoldsOf S Q o
stands_more R S P Q i j Nothing h = h
stands_more R S P Q i j (Body q m) h = i q m h
stands_more R S P Q i j (Stands c) h = j c h

module _ (e : Endpoints) where
  act_more : (R S K L : At) → Implies R S → Implies K L → (o : Option Act) → Implies (follows_act e o R K) (follows_act e o S L)
  act_more R S K L i j None q m h = j q m h
  act_more R S K L i j (Some a) q m h = stands_more R S _ _ i (λ c w. (w.0, holds_more K L j (place_after m c a) w.1)) (standing e (node_at e q) m) h

  test_more : (x : Term) (R S K K' L L' : At) → Implies R S → Implies K K' → Implies L L' → (b : Bool) → Implies (follows_test e b x R K L) (follows_test e b x S K' L')
  test_more x R S K K' L L' i j k false q m h = (j q m h.0, k q m h.1)
  test_more x R S K K' L L' i j k true q m h = stands_more R S _ _ i (λ c w. both_more K K' L L' j k m x (fork_of c) w) (standing e (node_at e q) m) h

  end_more : (R S : At) → Implies R S → Implies (follows_end e R) (follows_end e S)
  end_more R S i q m h = stands_more R S _ _ i (λ c w. w) (standing e (node_at e q) m) h

  call_more : (R S : Choreography → At) → ((c : Choreography) → Implies (R c) (S c)) → (b : Bool) (o : Option Choreography) → Implies (follows_call e b o R) (follows_call e b o S)
  call_more R S i false o q m h = end_more (R Ends) (S Ends) (i Ends) q m h
  call_more R S i true None q m h = h
  call_more R S i true (Some c) q m h = i c q m h

  module _ (procs : List Procedure) (p : Ref) where
    over_more : (R S : Choreography → At) → ((c : Choreography) → Implies (R c) (S c)) → (c : Choreography) → Implies (follows_over e procs p R c) (follows_over e procs p S c)
    over_more R S i (Then n rest) = act_more _ _ _ _ (i (Then n rest)) (over_more R S i rest) (act_of n p)
    over_more R S i (Either r x c d) = test_more x _ _ _ _ _ _ (i (Either r x c d)) (over_more R S i c) (over_more R S i d) (ref_eq p r)
    over_more R S i (Calls f k ps ss) = call_more R S i (among p ps) (body_of (procedure_named procs f) k ps ss)
    over_more R S i Ends = end_more (R Ends) (S Ends) (i Ends)

    pub follows_less : (n : ℕ) (c : Choreography) → Implies (Follows e procs (suc n) p c) (Follows e procs n p c)
    follows_less zero c = λ q m h. tt
    follows_less (suc n) c = over_more (Follows e procs (suc n) p) (Follows e procs n p) (follows_less n) c
