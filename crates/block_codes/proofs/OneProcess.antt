-- The code of one process at a block from those at the blocks after its first node.
use Rattle.std.proofs.Common.{◌≡◌, ◌==◌, Bool, true, false, cond, List, [], ◌∷◌, ◌++◌, map, refl, sym, ap, subst}
use Rattle.std.specs.Prelude.{All, not, Result, Ok, Err, IfOk, IfErr}
use Rattle.std.specs.List.{filter}
use Rattle.std.proofs.lemmas.List.Elements.{All-nil, All-cons, All-head, All-tail, All-append}
use Rattle.chor_base.specs.declared.names.NameId.{NameId}
use Rattle.chor_tree.specs.declared.file.File.{File}
use Rattle.chor_tree.specs.declared.tree.Form.{Form}
use Rattle.chor_tree.specs.declared.tree.Form.TheVariants.{If}
use Rattle.chor_tree.specs.declared.tree.Node.{Node as TreeNode}
use Rattle.chor_tree.specs.declared.tree.NodeId.{NodeId}
use Rattle.chor_tree.specs.Source.{Block, Then, Either, Calls, Ends, body_of}
use Rattle.endpoint_code.specs.declared.code.CodeId.{CodeId}
use Rattle.endpoint_code.specs.declared.code.CodeNode.{CodeNode}
use Rattle.endpoint_code.specs.Trees.{code_at}
use Rattle.branch_merge.proofs.ArmTables.{keeps_both}
use Rattle.chor_semantics.specs.Blocks.{choreography_of}
use Rattle.projection.specs.Codes.{IsCodeOf}
use Rattle.projection.specs.Making.{part_at, Puts}
use Rattle.projection.specs.MergeFaults.{Site, made_by, sites_in, sites_at, HasClash, here}
use Rattle.projection.proofs.OneCode.{code_distinct}
use Rattle.block_codes.specs.declared.coded.Coded.{Coded}
use Rattle.block_codes.specs.declared.stop.Stop.{Stop}
use Rattle.block_codes.specs.declared.stop.Stop.TheVariants.{Clash, Memory}
use Rattle.block_codes.specs.Nodes.{IsAt, IsStatement, IsConditional, IsLast}
use Rattle.block_codes.specs.Parts.{IsCallAt}
use Rattle.block_codes.specs.Joins.{IsSound, IsJoinedAt, IsJoined, StopsOne, StopsFirst}
use Rattle.block_codes.specs.Walks.{IsCoded, StopsAt}
use Rattle.block_codes.specs.Alone.{sites_of, HasCode}
use Rattle.block_codes.proofs.Parts.{puts_keeps}
use Rattle.block_codes.proofs.Walks.{coded_kept, statement_block, put_coded, last_coded, if_block, joined_code, joined_sites, stuck_stops, stops_left, stops_right}

-- ---- sites of one process among those of all in scope

front : {X : Type 0} (P : X → Type 0) (xs ys : List X) → All P (xs ++ ys) → All P xs
front P [] ys h = All-nil P
front P (x ∷ xs) ys h = All-cons P x xs (All-head P x (xs ++ ys) h) (front P xs ys (All-tail P x (xs ++ ys) h))

back : {X : Type 0} (P : X → Type 0) (xs ys : List X) → All P (xs ++ ys) → All P ys
back P [] ys h = h
back P (x ∷ xs) ys h = back P xs ys (All-tail P x (xs ++ ys) h)

module _ (P : Site → Type 0) where
  kept_in : (t : NameId → Bool) (g : NameId → Site) (xs : List NameId) → All P (map g (filter t xs)) → All (λ x. t x ≡ true → P (g x)) xs
  kept_in t g [] h = All-nil (λ x. t x ≡ true → P (g x))
  kept_in t g (x ∷ xs) h = go (t x) refl h (kept_in t g xs)
    where
      go : (b : Bool) → t x ≡ b → All P (map g (cond b (x ∷ filter t xs) (filter t xs))) → (All P (map g (filter t xs)) → All (λ x. t x ≡ true → P (g x)) xs) → All (λ x. t x ≡ true → P (g x)) (x ∷ xs)
      go true e a ih = All-cons (λ x. t x ≡ true → P (g x)) x xs (λ i. All-head P (g x) (map g (filter t xs)) a) (ih (All-tail P (g x) (map g (filter t xs)) a))
      go false e a ih = All-cons (λ x. t x ≡ true → P (g x)) x xs (λ i. absurd cc) (ih a)

  one_kept : (t : NameId → Bool) (g : NameId → Site) (x : NameId) → (t x ≡ true → P (g x)) → All P (map g (filter t (x ∷ [])))
  one_kept t g x h = go (t x) refl
    where
      go : (b : Bool) → t x ≡ b → All P (map g (cond b (x ∷ []) []))
      go true e = All-cons P (g x) [] (h e) (All-nil P)
      go false e = All-nil P

  -- what holds of all sites, where the process is in scope, holds of those of the process
  pub own_sites : (r : NameId) (b : Block) (scope : List NameId) → ((Q : NameId → Type 0) → All Q scope → Q r) → All P (sites_in scope b) → All P (sites_of r b)
  own_sites r (Then place s next) scope w h = own_sites r next (scope ++ made_by s) (λ Q a. w Q (front Q scope (made_by s) a)) h
  own_sites r (Either place p e first second) scope w h =
      let one = sites_in scope first in
      let two = sites_in scope second in
      let last = sites_at scope place p first second in
      let both = front P (one ++ two) last h in
      let site : NameId → Site = λ q. record { place = place; first = first; second = second; process = q } in
      let other : NameId → Bool = λ q. not (q.0 == p.name.0) in
      All-append P (sites_of r first ++ sites_of r second) (sites_at (r ∷ []) place p first second)
      (All-append P (sites_of r first) (sites_of r second) (own_sites r first scope w (front P one two both)) (own_sites r second scope w (back P one two both)))
      (one_kept other site r (w (λ q. other q ≡ true → P (site q)) (kept_in other site scope (back P (one ++ two) last h))))
  own_sites r (Calls place g ps ks) scope w h = All-nil P
  own_sites r (Ends place) scope w h = All-nil P

-- ---- a code in a table

abbrev with_code : NameId → CodeId → Coded
with_code r id = record { process = r; code = id }

coded_at : {f : File} {b : Block} {r : NameId} {old new : List CodeNode} {id : CodeId} → HasCode f b r old new id → IsCoded f.procs new b r (with_code r id)
coded_at h = record { process = refl; inside = h.inside; code = h.code }

sound_at : (f : File) (b : Block) (nodes : List CodeNode) (r : NameId) (id : CodeId) → IsCoded f.procs nodes b r (with_code r id) → IsSound nodes (with_code r id)
sound_at f b nodes r id h = record { inside = h.inside; distinct = code_distinct f.procs r h.code }

-- ---- after a statement

pub put_code : {f : File} {id next : NodeId} {n : TreeNode} {r : NameId} {old mid new : List CodeNode} {rest made : CodeId} → IsAt f id n → IsStatement n.form next → HasCode f (body_of f next) r old mid rest → Puts mid new (part_at r n.form) rest made
    → HasCode f (body_of f id) r old new made
put_code {f = f} {r = r} {mid = mid} {new = new} {rest = rest} {made = made} at s h p =
    let y = put_coded at s mid new r (with_code r rest) (with_code r made) (coded_at h) (record { process = refl; inside = p.inside; code = p.code }) in
    record {
      kept = keeps_both h.kept (puts_keeps p);
      inside = y.inside;
      code = y.code;
      clean = subst (All (λ t. HasClash f t → ⊥)) (sym (ap (sites_of r) (statement_block at s))) h.clean;
    }

-- ---- at the last node

pub last_code : {f : File} {id : NodeId} {n : TreeNode} {r : NameId} {old new : List CodeNode} {made : CodeId} → IsAt f id n → IsLast n.form → IsCallAt f.procs n.form old new r made → HasCode f (body_of f id) r old new made
last_code {f = f} {id = id} {r = r} {made = made} at l c =
    let all = last_coded (r ∷ []) (with_code r made ∷ []) at l (record { kept = c.kept; each = (record { process = refl; inside = c.inside; code = c.code }, tt) }) in
    record {
      kept = c.kept;
      inside = all.each.0.inside;
      code = all.each.0.code;
      clean = own_sites (λ t. HasClash f t → ⊥) r (body_of f id) (r ∷ []) (λ Q a. All-head Q r [] a) all.clean;
    }

-- ---- at a conditional

module _ {f : File} {id first second : NodeId} {n : TreeNode} (at : IsAt f id n) (c : IsConditional n.form first second) (r : NameId) where
  abbrev NoClash : Site → Type 0
  NoClash s = HasClash f s → ⊥

  abbrev one : List Site
  one = sites_of r (body_of f first)

  abbrev two : List Site
  two = sites_of r (body_of f second)

  abbrev last : List Site
  last = sites_at (r ∷ []) n.place c.decider (body_of f first) (body_of f second)

  own_if : sites_of r (body_of f id) ≡ one ++ two ++ last
  own_if = ap (sites_of r) (if_block at c)

  pub first_stops : (e : Stop) → StopsAt f one e → StopsAt f (sites_of r (body_of f id)) e
  first_stops e h = subst (λ (l : List Site). StopsAt f l e) (sym own_if) (stops_left f (one ++ two) last e (stops_left f one two e h))

  module _ {old mid : List CodeNode} {a : CodeId} (h : HasCode f (body_of f first) r old mid a) where
    pub second_stops : (e : Stop) → StopsAt f two e → StopsAt f (sites_of r (body_of f id)) e
    second_stops e s = subst (λ (l : List Site). StopsAt f l e) (sym own_if) (stops_left f (one ++ two) last e (stops_right f one two e h.clean s))

    module _ {end : List CodeNode} {b : CodeId} (g : HasCode f (body_of f second) r mid end b) where
      first_coded : IsCoded f.procs end (body_of f first) r (with_code r a)
      first_coded = coded_kept r (with_code r a) g.kept (coded_at h)

      pub first_sound : IsSound end (with_code r a)
      first_sound = sound_at f (body_of f first) end r a first_coded

      pub second_sound : IsSound end (with_code r b)
      second_sound = sound_at f (body_of f second) end r b (coded_at g)

      both_clean : All NoClash (one ++ two)
      both_clean = All-append NoClash one two h.clean g.clean

      pub joined_answer : (new : List CodeNode) (answer : Result CodeId Stop) → IfOk answer (IsJoinedAt end new n.form (with_code r a, with_code r b)) → IfOk answer (HasCode f (body_of f id) r old new)
      joined_answer new (Err s) j = j
      joined_answer new (Ok made) j =
          let form = If c.decider c.test first second in
          let x = with_code r a in
          let y = with_code r b in
          let z = with_code r made in
          let k = subst (λ (g : Form). IsJoinedAt end new g (x, y) made) c.is j in
          let i : IsJoined end new form (x, y) z = record { process = refl; inside = k.inside; code = k.code } in
          record {
            kept = keeps_both h.kept (keeps_both g.kept k.kept);
            inside = k.inside;
            code =
                subst (λ (t : Block). IsCodeOf f.procs r (choreography_of t) (code_at new made)) (sym (if_block at c))
                (joined_code f n.place c.decider c.test first second end new r x y z first_coded (coded_at g) i).code;
            clean =
                subst (All NoClash) (sym own_if)
                (All-append NoClash (one ++ two) last both_clean
                (joined_sites f n.place c.decider c.test first second end new (r ∷ []) (x ∷ []) (y ∷ []) (z ∷ []) (first_coded, tt) (coded_at g, tt) (i, tt)));
          }

      stuck_one : (e : Stop) → StopsOne end n (with_code r a, with_code r b) e → StopsFirst end n ((with_code r a, with_code r b) ∷ []) e
      stuck_one Memory s = tt
      stuck_one (Clash place who) s = record { branched = (with_code r a, with_code r b); first = here s.stuck; place_is = s.place_is; who_is = s.who_is }

      pub stopped_answer : (answer : Result CodeId Stop) → IfErr answer (StopsOne end n (with_code r a, with_code r b)) → IfErr answer (StopsAt f (sites_of r (body_of f id)))
      stopped_answer (Ok made) s = s
      stopped_answer (Err e) s =
          subst (λ (l : List Site). StopsAt f l e) (sym own_if)
          (stops_right f (one ++ two) last e both_clean
          (stuck_stops f n.place c.decider c.test first second end n c.is refl (r ∷ []) (with_code r a ∷ []) (with_code r b ∷ []) e (first_coded, tt) (coded_at g, tt) (stuck_one e s)))
