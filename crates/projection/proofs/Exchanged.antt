-- In a choreography that doesn't use the channel's name as a session, giving the session that name is an exchange of names.
use Rattle.std.proofs.Common.{◌≡◌, ℕ, Bool, true, false, sym, ap, ◌∙◌, refl, subst, List, [], ◌∷◌, map, if◌then◌else◌, ◌==◌, arith}
use Rattle.std.proofs.lemmas.Bool.Decides.{nat_tests}
use Rattle.chor_base.specs.declared.names.NameId.{NameId}
use Rattle.chor_semantics.specs.Choreography.{Ref, Live, Named, Content, OfValue, OfLabel, OfPart, Node, Starts, Communicates, InTransit, Alone, Choreography, Then, Either, Calls, Ends, put, put_node, put_content}
use Rattle.chor_tree.specs.declared.file.Proc.{Proc}
use Rattle.endpoint_code.specs.Trees.{CodeTree}
use Rattle.projection.specs.Codes.{IsCodeOf}
use Rattle.projection.specs.Projects.{session_as}
use Rattle.projection.proofs.Renamed.{code_renamed}
use Rattle.projection.specs.Renamed.{exchanged, session_by, renamed, IsOther, AreOther, IsOtherContent, IsOtherNode, IsUnused}

module _ (k a : NameId) where
  by_tests : (x d : ℕ) (b c : Bool) → c ≡ false → (if b then Named a.0 d else Named x d) ≡ Named (if b then a else (if c then k else record { 0 = x })).0 d
  by_tests x d true c e = refl
  by_tests x d false true e = absurd cc
  by_tests x d false false e = refl

  session_same : (s : Ref) → IsOther a s → session_as k.0 a s ≡ session_by (exchanged k a) s
  session_same (Named x d) h = by_tests x d (x == k.0) (x == a.0) h
  session_same (Live n) h = absurd h

  sessions_same : (ss : List Ref) → AreOther a ss → map (session_as k.0 a) ss ≡ map (session_by (exchanged k a)) ss
  sessions_same [] h = refl
  sessions_same (s ∷ ss) h = let e = session_same s h.0 in let f = sessions_same ss h.1 in cc

  content_same : (w : Content) → IsOtherContent a w → put_content (session_as k.0 a) w ≡ put_content (session_by (exchanged k a)) w
  content_same (OfValue e x) h = refl
  content_same (OfLabel l) h = refl
  content_same (OfPart s r) h = ap (λ t. OfPart t r) (session_same s h)

  abbrev same : Ref → Ref
  same r = r

  node_same : (n : Node) → IsOtherNode a n → put_node same (session_as k.0 a) n ≡ put_node same (session_by (exchanged k a)) n
  node_same (Starts c d j active serve) h = refl
  node_same (Communicates s p x q y w) h = let e = session_same s h.0 in let f = content_same w h.1 in cc
  node_same (InTransit s x y m q) h = refl
  node_same (Alone p o) h = refl

  pub put_same : (c : Choreography) → IsUnused a c → put same (session_as k.0 a) c ≡ put same (session_by (exchanged k a)) c
  put_same (Then n rest) h = let e = node_same n h.0 in let f = put_same rest h.1 in cc
  put_same (Either p x c d) h = let e = put_same c h.0 in let f = put_same d h.1 in cc
  put_same (Calls f d ps ss) h = ap (λ ts. Calls f d (map same ps) ts) (sessions_same ss h)
  put_same Ends h = refl

-- ---- the exchange is undone by itself

name_same : (x y : NameId) → x.0 ≡ y.0 → x ≡ y
name_same x y e = let name : ℕ → NameId = λ n. record { 0 = n } in ap name e

same_number : (x y : NameId) → (x.0 == y.0) ≡ true → x.0 ≡ y.0
same_number x y e = grind (arith, nat_tests)

itself : (n : ℕ) → (n == n) ≡ true
itself n = grind (arith, nat_tests)

pub exchanged_twice : (k a x : NameId) → exchanged k a (exchanged k a x) ≡ x
exchanged_twice k a x = go (x.0 == k.0) (x.0 == a.0) (a.0 == k.0) refl refl refl
  where
    go : (b c d : Bool) → (x.0 == k.0) ≡ b → (x.0 == a.0) ≡ c → (a.0 == k.0) ≡ d → exchanged k a (exchanged k a x) ≡ x
    go true c true e f g =
        ap (λ t. exchanged k a (if t then a else (if x.0 == a.0 then k else x))) e ∙ ap (λ t. if t then a else (if a.0 == a.0 then k else a)) g
        ∙ sym (name_same x k (same_number x k e) ∙ sym (name_same a k (same_number a k g)))
    go true c false e f g =
        ap (λ t. exchanged k a (if t then a else (if x.0 == a.0 then k else x))) e ∙ ap (λ t. if t then a else (if a.0 == a.0 then k else a)) g
        ∙ ap (λ t. if t then k else a) (itself a.0) ∙ sym (name_same x k (same_number x k e))
    go false true d e f g =
        ap (λ t. exchanged k a (if t then a else (if x.0 == a.0 then k else x))) e ∙ ap (λ t. exchanged k a (if t then k else x)) f
        ∙ ap (λ t. if t then a else (if k.0 == a.0 then k else k)) (itself k.0) ∙ sym (name_same x a (same_number x a f))
    go false false d e f g =
        ap (λ t. exchanged k a (if t then a else (if x.0 == a.0 then k else x))) e ∙ ap (λ t. exchanged k a (if t then k else x)) f
        ∙ ap (λ t. if t then a else (if x.0 == a.0 then k else x)) e ∙ ap (λ t. if t then k else x) f

-- the code where a session has the channel's name, from the code where it has its own
pub start_code : (procs : List Proc) (k a r : NameId) (c : Choreography) (q : CodeTree) → IsUnused a c → IsCodeOf procs r c q
    → IsCodeOf procs r (put (λ p. p) (session_as k.0 a) c) (renamed (exchanged k a) q)
start_code procs k a r c q u h =
    subst (λ (d : Choreography). IsCodeOf procs r d (renamed (exchanged k a) q)) (sym (put_same k a c u)) (code_renamed (exchanged k a) (exchanged k a) (exchanged_twice k a) (exchanged_twice k a) procs r h)
