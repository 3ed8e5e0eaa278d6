-- Where a process stands, names and texts are there.
use Rattle.std.proofs.Common.{◌≡◌, ◌==◌, ◌&&◌, ℕ, Bool, true, false, List, [], ◌∷◌, Option, Some, None, refl, subst, if◌then◌else◌}
use Rattle.std.specs.Prelude.{All}
use Rattle.std.proofs.lemmas.List.Elements.{All-head, All-tail}
use Rattle.std.specs.FinMap as fin
use Rattle.chor_base.specs.declared.names.NameId.{NameId}
use Rattle.endpoint_code.specs.declared.code.CodeId.{CodeId}
use Rattle.endpoint_code.specs.declared.code.CodeNode.{CodeNode}
use Rattle.endpoint_code.specs.declared.code.CodeNode.TheVariants.{Call}
use Rattle.endpoint_code.specs.declared.endpoints.Procedure.{Procedure}
use Rattle.endpoint_code.specs.declared.endpoints.Endpoints.{Endpoints}
use Rattle.endpoint_code.specs.Kept.{has_name, has_text, node_there}
use Rattle.endpoint_code.specs.Network.{Sessions, Machine, Place, node_at, procedure_of, passed_one, passed, at_node, body_place, place_in, place_of}
use Rattle.endpoint_code.specs.Trees.{node_tree, trees_of}
use Rattle.endpoint_code.proofs.CodeTables.{code_at-node}
use Rattle.projected_programs.specs.Sizes.{IsCodeSized, AreLiteralsSized}
use Rattle.projected_programs.specs.Told.{words_of}
use Rattle.projected_programs.proofs.States.{item_of, IsSizedAt, Holds, empty_holds, insert_holds, IsFinePart, AreFineSessions}

-- the names and texts of a node are there, and the literals of the code that begins there are of their sizes
pub record IsKnown (e : Endpoints) (n : CodeNode) : Type 0 where
  pub there : node_there (has_name e.names) (has_text e.texts) n ≡ true
  pub sized : IsCodeSized (node_tree (trees_of e.code.nodes) n)

module _ (e : Endpoints) (sized : AreLiteralsSized e) where
  node_known : (id : CodeId) (n : CodeNode) → IsSizedAt e id → node_at e id ≡ Some n → IsKnown e n
  node_known id n s h = record {
    there = item_of (λ o. node_there (has_name e.names) (has_text e.texts) o ≡ true) e.code.nodes id.0 n e.numbered.in_nodes h;
    sized = subst IsCodeSized (code_at-node e.code.nodes id n e.code.closed h) s;
  }

  procedure_sized : (f p : NameId) (q : Procedure) (qs : List Procedure) → All (λ r. IsSizedAt e r.body) qs → procedure_of qs f p ≡ Some q → IsSizedAt e q.body
  procedure_sized f p q [] h i = absurd cc
  procedure_sized f p q (r ∷ rs) h i = go ((r.name.0 == f.0) && (r.param.0 == p.0)) (procedure_sized f p q rs (All-tail (λ x. IsSizedAt e x.body) r rs h)) i
    where
      go : (b : Bool) → (procedure_of rs f p ≡ Some q → IsSizedAt e q.body) → (if b then Some r else procedure_of rs f p) ≡ Some q → IsSizedAt e q.body
      go true others j = let same : r ≡ q = cc in subst (λ (x : Procedure). IsSizedAt e x.body) same (All-head (λ x. IsSizedAt e x.body) r rs h)
      go false others j = others j

  module _ (sid : ℕ) where
    abbrev Part : ℕ × NameId → Type 0
    Part q = IsFinePart (words_of e) sid q

    passed_fine : (ks ss : List NameId) (m : Sessions) → Holds Part m → Holds Part (passed ks ss m)
    passed_fine [] ss m h = empty_holds Part
    passed_fine (k ∷ ks) [] m h = empty_holds Part
    passed_fine (k ∷ ks) (s ∷ ss) m h = go (fin.get m s.0) refl (passed_fine ks ss m h)
      where
        go : (o : Option (ℕ × NameId)) → fin.get m s.0 ≡ o → Holds Part (passed ks ss m) → Holds Part (passed_one o k (passed ks ss m))
        go None i rest = rest
        go (Some b) i rest = insert_holds Part (passed ks ss m) k.0 b rest (h s.0 b i)

    -- so where a process stands
    pub record IsKnownPlace (q : Place) : Type 0 where
      pub node : IsKnown e q.node
      pub sessions : AreFineSessions (words_of e) sid q.sessions

    itself : (n : CodeNode) (m : Sessions) (q : Place) → IsKnown e n → AreFineSessions (words_of e) sid m → Some (let p : Place = record { node = n; sessions = m } in p) ≡ Some q → IsKnownPlace q
    itself n m q k h i =
        let p : Place = record { node = n; sessions = m } in
        let same : p ≡ q = cc in subst IsKnownPlace same (record { node = k; sessions = h })

    in_body : (o : Option Procedure) (ss : List NameId) (m : Sessions) (q : Place) → ((p : Procedure) → o ≡ Some p → IsSizedAt e p.body) → AreFineSessions (words_of e) sid m → body_place e o ss m ≡ Some q → IsKnownPlace q
    in_body None ss m q z h i = absurd cc
    in_body (Some p) ss m q z h i = go (node_at e p.body) refl i
      where
        go : (o : Option CodeNode) → node_at e p.body ≡ o → at_node o (passed p.sessions ss m) ≡ Some q → IsKnownPlace q
        go None j k = absurd cc
        go (Some n) j k = itself n (passed p.sessions ss m) q (node_known p.body n (z p refl) j) (passed_fine p.sessions ss m h) k

    known_in : (id : CodeId) (o : Option CodeNode) (m : Sessions) (q : Place) → IsSizedAt e id → node_at e id ≡ o → AreFineSessions (words_of e) sid m → place_in e o m ≡ Some q → IsKnownPlace q
    known_in id None m q z j h i = absurd cc
    known_in id (Some (Call f p ss)) m q z j h i = in_body (procedure_of e.procedures f p) ss m q (λ r k. procedure_sized f p r e.procedures sized.procedures k) h i
    known_in id (Some n) m q z j h i = itself n m q (node_known id n z j) h i

    pub place_known : (m : Machine) (q : Place) → AreFineSessions (words_of e) sid m.sessions → IsSizedAt e m.at → place_of e m ≡ Some q → IsKnownPlace q
    place_known m q h z i = known_in m.at (node_at e m.at) m.sessions q z refl h i
