-- The messages in transit on a triple of session, sender's role and receiver's role.
use Rattle.std.specs.Prelude.{◌≡◌, ◌==◌, ◌&&◌, Bool, true, false, List, [], ◌∷◌}
use Rattle.chor_base.specs.declared.value.Load.{Load}
use Rattle.chor_base.specs.Events.{Triple, triple_eq}
use Rattle.chor_semantics.specs.Choreography.{Live, ref_eq, Node, Starts, Communicates, InTransit, Alone, Choreography, Then, Either, Calls, Ends}
use Rattle.chor_semantics.specs.Steps.{load_of}

-- the node is a communication or a message of this triple
abbrev pub is_on : Triple → Node → Bool
is_on t (Starts c d k active serve) = false
is_on t (Communicates s p a q b w) = ref_eq (Live t.0) s && ((t.1.0 == a.0) && (t.2.0 == b.0))
is_on t (InTransit s a b m q) = triple_eq t (s, a, b)
is_on t (Alone p o) = false

-- this load is the first, and K holds of the rest
abbrev pub FirstIs : Load → (List Load → Type 0) → List Load → Type 0
FirstIs l K [] = ⊥
FirstIs l K (k ∷ ks) = (l ≡ k) × K ks

-- at a node, which is on the triple or isn't, where K holds of what is in transit after it
abbrev pub AreInTransitAt : Node → Bool → (List Load → Type 0) → List Load → Type 0
AreInTransitAt n false K ls = K ls
AreInTransitAt (Starts c d k active serve) true K ls = K ls
AreInTransitAt (Communicates s p a q b w) true K ls = (ls ≡ []) × K []
AreInTransitAt (InTransit s a b m q) true K ls = FirstIs (load_of m) K ls
AreInTransitAt (Alone p o) true K ls = K ls

-- on each path these loads are in transit on a triple, the first to be received first; a communication on it that
-- isn't sent yet stands before none of them
abbrev pub AreInTransit : Triple → Choreography → List Load → Type 0
AreInTransit t (Then n rest) = λ ls. AreInTransitAt n (is_on t n) (AreInTransit t rest) ls
AreInTransit t (Either p e c d) = λ ls. AreInTransit t c ls × AreInTransit t d ls
AreInTransit t (Calls f d ps ss) = λ ls. ls ≡ []
AreInTransit t Ends = λ ls. ls ≡ []
