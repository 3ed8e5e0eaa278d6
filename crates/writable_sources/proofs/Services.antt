-- The code of a service role can be written, where what follows each start can be.
use Rattle.std.proofs.Common.{◌≡◌, ℕ, ◌-◌, List, [], ◌∷◌, map, Bool, true, false, if◌then◌else◌, ◌==◌}
use Rattle.std.specs.List.{AllByRecursion, AllZip}
use Rattle.chor_base.specs.declared.names.NameId.{NameId}
use Rattle.chor_tree.specs.declared.file.Proc.{Proc}
use Rattle.chor_semantics.specs.Choreography.{Ref, Live, Named, Content, OfValue, OfLabel, OfPart, Node, Starts, Communicates, InTransit, Alone, Choreography, Then, Either, Calls, Ends, put_part, put_content, put_node, put}
use Rattle.endpoint_code.specs.declared.endpoints.Endpoints.{Endpoints}
use Rattle.endpoint_code.specs.Labels.{HasDistinctLabels}
use Rattle.endpoint_code.specs.LeastAbove.{IsLeastAbove}
use Rattle.endpoint_code.specs.Trees.{CodeTree}
use Rattle.endpoint_laws.specs.Spelled.{IsNamed}
use Rattle.projection.specs.Projects.{Started, is_some_start, session_as, IsStartCode, IsServiceCode}
use Rattle.projection.proofs.OneCode.{code_distinct}
use Rattle.writable_sources.specs.Written.{IsNamedRef, IsWritableContent, IsWritableNode, IsWritableIn, IsWritableHead, IsWritableCode}
use Rattle.writable_sources.proofs.Merged.{least_writable}
use Rattle.writable_sources.proofs.Codes.{code_writable}

module _ (e : Endpoints) where
  -- ---- another name for a session

  module _ (k : ℕ) (a : NameId) (named : IsNamed e a) where
    session_named : (s : Ref) → IsNamedRef e s → IsNamedRef e (session_as k a s)
    session_named (Named x d) h = go (x == k)
      where
        go : (b : Bool) → IsNamedRef e (if b then Named a.0 d else Named x d)
        go true = named
        go false = h
    session_named (Live n) h = h

    sessions_named : (ss : List Ref) → AllByRecursion (IsNamedRef e) ss → AllByRecursion (IsNamedRef e) (map (session_as k a) ss)
    sessions_named [] h = tt
    sessions_named (s ∷ ss) h = (session_named s h.0, sessions_named ss h.1)

    parts_named : (ps : List (Ref × NameId)) → AllByRecursion (λ p. IsNamed e p.1) ps → AllByRecursion (λ p. IsNamed e p.1) (put_part (λ p. p) ps)
    parts_named [] h = tt
    parts_named (p ∷ ps) h = (h.0, parts_named ps h.1)

    content_renamed : (w : Content) → IsWritableContent e w → IsWritableContent e (put_content (session_as k a) w)
    content_renamed (OfValue t x) h = h
    content_renamed (OfLabel l) h = h
    content_renamed (OfPart s r) h = session_named s h

    node_renamed : (n : Node) → IsWritableNode e n → IsWritableNode e (put_node (λ p. p) (session_as k a) n)
    node_renamed (Starts c d s act srv) h = (h.0, h.1, parts_named act h.2)
    node_renamed (Communicates s p x q y w) h = (session_named s h.0, h.1, h.2, content_renamed w h.3)
    node_renamed (InTransit s x y m q) h = tt
    node_renamed (Alone p own) h = h

    pub renamed_writable : (n : ℕ) (c : Choreography) → IsWritableIn e n c → IsWritableIn e n (put (λ p. p) (session_as k a) c)
    renamed_writable n (Then node rest) w = (w.0, node_renamed node w.1, renamed_writable (n - 1) rest w.2)
    renamed_writable n (Either p t c d) w = (w.0, w.1, renamed_writable (n - 1) c w.2, renamed_writable (n - 1) d w.3)
    renamed_writable n (Calls f d ps ss) w = (w.0, w.1, sessions_named ss w.2)
    renamed_writable n Ends w = w

  -- ---- the starts of a channel

  module _ (procs : List Proc) (heads : AllByRecursion (IsWritableHead e) procs) (a r : NameId) (n : ℕ) where
    starts_written : (ss : List Started) (cs : List CodeTree) → AllZip (IsStartCode procs a r) ss cs → IsNamed e a → AllByRecursion (λ s. IsWritableIn e n s.rest) ss → AllByRecursion (IsWritableCode e n) cs
    starts_written [] [] z named w = tt
    starts_written [] (c ∷ cs) z named w = absurd z
    starts_written (s ∷ ss) [] z named w = absurd z
    starts_written (s ∷ ss) (c ∷ cs) z named w = (
      code_writable e procs heads z.0.process n (put (λ p. p) (session_as s.session a) s.rest) c z.0.code (renamed_writable s.session a named n s.rest w.0),
      starts_written ss cs z.1 named w.1,
    )

    starts_distinct : (ss : List Started) (cs : List CodeTree) → AllZip (IsStartCode procs a r) ss cs → AllByRecursion HasDistinctLabels cs
    starts_distinct [] [] z = tt
    starts_distinct [] (c ∷ cs) z = absurd z
    starts_distinct (s ∷ ss) [] z = absurd z
    starts_distinct (s ∷ ss) (c ∷ cs) z = (code_distinct procs z.0.process z.0.code, starts_distinct ss cs z.1)

    least_of : (ss : List Started) (cs : List CodeTree) (c : CodeTree) → is_some_start ss ≡ true → AllZip (IsStartCode procs a r) ss cs → AllByRecursion HasDistinctLabels cs → AllByRecursion (IsWritableCode e n) cs → IsLeastAbove cs c → IsWritableCode e n c
    least_of [] cs c some z d w least = absurd cc
    least_of (s ∷ ss) [] c some z d w least = absurd z
    least_of (s ∷ ss) (x ∷ xs) c some z d w least = least_writable e n x xs c d w least

    -- The code of a service role can be written
    pub service_writable : (ss : List Started) (c : CodeTree) → is_some_start ss ≡ true → IsNamed e a → AllByRecursion (λ s. IsWritableIn e n s.rest) ss → IsServiceCode procs a r ss c → IsWritableCode e n c
    service_writable ss c some named w h = least_of ss h.codes c some h.each (starts_distinct ss h.codes h.each) (starts_written ss h.codes h.each named w) h.merged
