-- Tables that are appended to others.
use Rattle.std.proofs.Common.{◌≡◌, ℕ, ◌+◌, ◌<◌, ◌≤◌, zero, suc, List, [], ◌∷◌, ◌++◌, length, map, take, get_or, refl, sym, ap, ◌∙◌, subst, arith, append_assoc}
use Rattle.std.specs.Prelude.{All, slice_get, Some, Bool, not, ◌==◌}
use Rattle.std.specs.List.{AllZip, filter}
use Rattle.std.proofs.lemmas.List.{get_or-append-add, length-append, length-take-le, map-append, take_all, take_more}
use Rattle.std.proofs.lemmas.List.Elements.{All-nil, All-cons, All-head, All-tail, All-append, All-weaker, filter-append}
use Rattle.node_table.specs.Tables.{grown}
use Rattle.node_table.proofs.Tables.{grown_more, trees_length}
use Rattle.chor_base.specs.declared.names.NameId.{NameId}
use Rattle.chor_tree.specs.declared.file.File.{File}
use Rattle.chor_tree.specs.declared.file.Proc.{Proc}
use Rattle.chor_tree.specs.declared.tree.NodeId.{NodeId}
use Rattle.chor_base.specs.declared.rule.Place.{Place}
use Rattle.chor_tree.specs.declared.file.Named.{Named as Written}
use Rattle.chor_tree.specs.Source.{Block, Then, Either, Calls, Ends as Stops, body_of}
use Rattle.chor_semantics.specs.Blocks.{choreography_of}
use Rattle.endpoint_code.specs.declared.code.CodeId.{CodeId}
use Rattle.endpoint_code.specs.declared.code.CodeNode.{CodeNode}
use Rattle.endpoint_code.specs.declared.code.CodeNode.TheVariants.{Branch}
use Rattle.endpoint_code.specs.Code.{children_of, IsClosed}
use Rattle.endpoint_code.specs.Trees.{CodeTree, Arm, Offers, Ends, tree_in, arms_in, node_tree, trees_of, code_at}
use Rattle.branch_merge.specs.Merged.{Keeps}
use Rattle.projection.specs.Codes.{IsCodeOf}
use Rattle.projection.specs.MergeFaults.{Site, HasClash, made_by, sites_at, sites_in}
use Rattle.block_codes.specs.declared.coded.Coded.{Coded}
use Rattle.block_codes.specs.Walks.{IsCoded, AreCodes}
use Rattle.block_codes.specs.Alone.{HasCode, sites_of as own_sites}
use Rattle.block_codes.proofs.Zips.{zip_step, zip_weaker, zip_lengths}
use Rattle.branch_merge.proofs.ArmTables.{code_kept, kept_length}
use Rattle.file_codes.specs.declared.prepared.UnitCode.{UnitCode}
use Rattle.file_codes.specs.Shifted.{shift_id, shift_arm, IsShifted, IsAppended}
use Rattle.file_codes.specs.UnitCodes.{IsUnitCode, IsCleanBody, AreScopeCodes}

-- ---- trees

module _ (ts us : List CodeTree) where
  pub in_shifted : (c : CodeId) → tree_in (ts ++ us) (shift_id (length ts) c) ≡ tree_in us c
  in_shifted c = get_or-append-add ts us c.0 Ends

  pub arms_shifted : (arms : List (NameId × CodeId)) → arms_in (ts ++ us) (map (shift_arm (length ts)) arms) ≡ arms_in us arms
  arms_shifted [] = refl
  arms_shifted (arm ∷ arms) =
      ap (λ t. Arm arm.0 t (arms_in (ts ++ us) (map (shift_arm (length ts)) arms))) (in_shifted arm.1) ∙ ap (Arm arm.0 (tree_in us arm.1)) (arms_shifted arms)

grown_appended : (ts us : List CodeTree) (ns ms : List CodeNode) (n : ℕ) → length ts ≡ n → AllZip (IsShifted n) ns ms → grown node_tree (ts ++ us) ms ≡ ts ++ grown node_tree us ns
grown_appended ts us [] [] n len z = refl
grown_appended ts us [] (m ∷ ms) n len z = absurd z
grown_appended ts us (o ∷ ns) [] n len z = absurd z
grown_appended ts us (o ∷ ns) (m ∷ ms) n len z =
    ap (λ t. grown node_tree ((ts ++ us) ++ t ∷ []) ms) (z.0.tree ts us len)
    ∙ (ap (λ l. grown node_tree l ms) (append_assoc ts us (node_tree us o ∷ [])) ∙ grown_appended ts (us ++ node_tree us o ∷ []) ns ms n len z.1)

append_end : {X : Type 0} (xs : List X) → xs ++ [] ≡ xs
append_end [] = refl
append_end (x ∷ xs) = ap (λ ys. x ∷ ys) (append_end xs)

-- the trees of a table with another one appended
trees_appended : (table old new : List CodeNode) → IsAppended table old new → trees_of new ≡ trees_of old ++ trees_of table
trees_appended table old new p =
    ap trees_of p.is
    ∙ (grown_more node_tree old p.more []
    ∙ (ap (λ l. grown node_tree l p.more) (sym (append_end (trees_of old))) ∙ grown_appended (trees_of old) [] table p.more (length old) (trees_length node_tree old) p.each))

-- the code at a shifted number
code_appended : (table old new : List CodeNode) (id : CodeId) → IsAppended table old new → code_at new (shift_id (length old) id) ≡ code_at table id
code_appended table old new id p =
    ap (λ l. tree_in l (shift_id (length old) id)) (trees_appended table old new p)
    ∙ (ap (λ k. tree_in (trees_of old ++ trees_of table) (shift_id k id)) (sym (trees_length node_tree old)) ∙ in_shifted (trees_of old) (trees_of table) id)

length_appended : (table old new : List CodeNode) → IsAppended table old new → length new ≡ length old + length table
length_appended table old new p =
    let same : length table ≡ length p.more = zip_lengths (IsShifted (length old)) table p.more p.each in
    let all : length new ≡ length old + length p.more = ap length p.is ∙ length-append old p.more in
    omega arith

-- ---- children

pub arm_ids_shifted : (n : ℕ) (arms : List (NameId × CodeId)) → map (λ arm. arm.1) (map (shift_arm n) arms) ≡ map (shift_id n) (map (λ arm. arm.1) arms)
arm_ids_shifted n [] = refl
arm_ids_shifted n (arm ∷ arms) = ap (λ l. shift_id n arm.1 ∷ l) (arm_ids_shifted n arms)

-- a branching whose arms are shifted
pub branch_shifted : (n : ℕ) (o new : CodeNode) (k a : NameId) (arms later : List (NameId × CodeId)) → o ≡ Branch k a arms → new ≡ Branch k a later → later ≡ map (shift_arm n) arms → IsShifted n o new
branch_shifted n o new k a arms later is now made =
    subst (λ (x : CodeNode). IsShifted n x new) (sym is) (subst (λ (x : CodeNode). IsShifted n (Branch k a arms) x) (sym now)
    (subst (λ (l : List (NameId × CodeId)). IsShifted n (Branch k a arms) (Branch k a l)) (sym made) (record {
      children = arm_ids_shifted n arms;
      tree = λ ts us len. ap (λ j. Offers k a (arms_in (ts ++ us) (map (shift_arm j) arms))) (sym len) ∙ ap (Offers k a) (arms_shifted ts us arms);
    })))

all_shifted : (n i m : ℕ) (cs : List CodeId) → m ≡ n + i → All (λ c. c.0 < i) cs → All (λ c. c.0 < m) (map (shift_id n) cs)
all_shifted n i m [] e h = All-nil (λ (c : CodeId). c.0 < m)
all_shifted n i m (c ∷ cs) e h =
    let here' : c.0 < i = All-head (λ (d : CodeId). d.0 < i) c cs h in
    All-cons (λ (d : CodeId). d.0 < m) (shift_id n c) (map (shift_id n) cs) (omega arith) (all_shifted n i m cs e (All-tail (λ (d : CodeId). d.0 < i) c cs h))

get_there : (ns : List CodeNode) (i : ℕ) (n : CodeNode) → i < length ns → n ≡ get_or ns i n → slice_get ns i ≡ Some n
get_there [] i n lt e = absurd (omega arith)
get_there (o ∷ ns) zero n lt e = ap Some (sym e)
get_there (o ∷ ns) (suc i) n lt e = get_there ns i n (omega arith) e

-- one node more of a table is appended
module _ (table old now : List CodeNode) (i : ℕ) (n new : CodeNode) (lt : i < length table) (at : n ≡ get_or table i n) (p : IsAppended (take i table) old now) (made : IsShifted (length old) n new) where
  pub next_fits : IsClosed table → All (λ c. c.0 < length now) (children_of new)
  next_fits closed =
      let len : length now ≡ length old + i = length_appended (take i table) old now p ∙ ap (λ k. length old + k) (length-take-le i table (omega arith)) in
      subst (λ (cs : List CodeId). All (λ c. c.0 < length now) cs) (sym made.children) (all_shifted (length old) i (length now) (children_of n) len (closed i n (get_there table i n lt at)))

  pub put_next : (next : List CodeNode) → next ≡ now ++ new ∷ [] → IsAppended (take (i + 1) table) old next
  put_next next is = record {
    more = p.more ++ new ∷ [];
    is = is ∙ (ap (λ l. l ++ new ∷ []) p.is ∙ append_assoc old p.more (new ∷ []));
    each = zip_step (IsShifted (length old)) table i n p.more (p.more ++ new ∷ []) new lt p.each (subst (λ (o : CodeNode). IsShifted (length old) o new) at made) refl;
  }

pub put_none : (table old : List CodeNode) → IsAppended (take 0 table) old old
put_none table old = record { more = []; is = sym (append_end old); each = tt }

pub put_all : (table old new : List CodeNode) (i : ℕ) → length table ≤ i → IsAppended (take i table) old new → IsAppended table old new
put_all table old new i le p = subst (λ (l : List CodeNode). IsAppended l old new) (take_all i table le) p

-- ---- the code of a process

-- code that was made in a table of its own, which was appended to another
pub unit_coded : (f : File) (b : Block) (r : NameId) (table old new : List CodeNode) (id : CodeId) → HasCode f b r [] table id → IsAppended table old new → IsCoded f.procs new b r (record { process = r; code = shift_id (length old) id })
unit_coded f b r table old new id h put =
    let len = length_appended table old new put in
    let low = h.inside in
    record {
      process = refl;
      inside = omega arith;
      code = subst (IsCodeOf f.procs r (choreography_of b)) (sym (code_appended table old new id put)) h.code;
    }

coded_kept : (f : File) (b : Block) (old new : List CodeNode) → Keeps old new → (r : NameId) (x : Coded) → IsCoded f.procs old b r x → IsCoded f.procs new b r x
coded_kept f b old new k r x h = record {
  process = h.process;
  inside = let n = kept_length k in let m = h.inside in omega arith;
  code = subst (IsCodeOf f.procs r (choreography_of b)) (sym (code_kept x.code k h.inside)) h.code;
}

pub found_none : (f : File) (b : Block) (nodes : List CodeNode) (xs : List Coded) → xs ≡ [] → AreScopeCodes f b [] nodes xs
found_none f b nodes xs e = record {
  each = subst (λ (l : List Coded). AllZip (IsCoded f.procs nodes b) [] l) (sym e) tt;
  clean = All-nil (λ r. All (λ s. HasClash f s → ⊥) (own_sites r b));
}

-- one process more
pub found_more : (f : File) (id : NodeId) (scope : List NameId) (i : ℕ) (r : NameId) (own : UnitCode) (old new : List CodeNode) (xs ys : List Coded) (put : CodeId) → i < length scope → r ≡ get_or scope i r
    → AreScopeCodes f (body_of f id) (take i scope) old xs → IsUnitCode f own → own.at ≡ id → own.process ≡ r → IsAppended own.code.nodes old new → put ≡ shift_id (length old) own.id → ys ≡ xs ++ record { process = r; code = put } ∷ []
    → AreScopeCodes f (body_of f id) (take (i + 1) scope) new ys
found_more f id scope i r own old new xs ys put lt at found is body process behind there more =
    let b = body_of f id in
    let code : HasCode f b r [] own.code.nodes own.id =
    subst (λ (x : NameId). HasCode f b x [] own.code.nodes own.id) process (subst (λ (n : NodeId). HasCode f (body_of f n) own.process [] own.code.nodes own.id) body is) in
    let coded : IsCoded f.procs new b r (record { process = r; code = put }) =
    subst (λ (c : CodeId). IsCoded f.procs new b r (record { process = r; code = c })) (sym there) (unit_coded f b r own.code.nodes old new own.id code behind) in
    let kept : Keeps old new = record { more = behind.more; is = behind.is } in
    let taken : take (i + 1) scope ≡ take i scope ++ r ∷ [] = take_more scope i r lt ∙ ap (λ x. take i scope ++ x ∷ []) (sym at) in
    record {
      each = zip_step (IsCoded f.procs new b) scope i r xs ys (record { process = r; code = put }) lt
          (zip_weaker (IsCoded f.procs old b) (IsCoded f.procs new b) (coded_kept f b old new kept) (take i scope) xs found.each) (subst (λ (x : NameId). IsCoded f.procs new b x (record { process = r; code = put })) at coded) more;
      clean = subst (All (λ x. All (λ s. HasClash f s → ⊥) (own_sites x b))) (sym taken)
          (All-append (λ x. All (λ s. HasClash f s → ⊥) (own_sites x b)) (take i scope) (r ∷ []) found.clean
          (All-cons (λ x. All (λ s. HasClash f s → ⊥) (own_sites x b)) r [] code.clean (All-nil (λ x. All (λ s. HasClash f s → ⊥) (own_sites x b)))));
    }

pub found_all : (f : File) (b : Block) (scope : List NameId) (i : ℕ) (nodes : List CodeNode) (xs : List Coded) → length scope ≤ i → AreScopeCodes f b (take i scope) nodes xs → AreScopeCodes f b scope nodes xs
found_all f b scope i nodes xs le h = subst (λ (l : List NameId). AreScopeCodes f b l nodes xs) (take_all i scope le) h

-- ---- sites

front : {X : Type 0} (P : X → Type 0) (xs ys : List X) → All P (xs ++ ys) → All P xs
front P [] ys h = All-nil P
front P (x ∷ xs) ys h = All-cons P x xs (All-head P x (xs ++ ys) h) (front P xs ys (All-tail P x (xs ++ ys) h))

back : {X : Type 0} (P : X → Type 0) (xs ys : List X) → All P (xs ++ ys) → All P ys
back P [] ys h = h
back P (x ∷ xs) ys h = back P xs ys (All-tail P x (xs ++ ys) h)

sites_append : (xs ys : List NameId) (place : Place) (w : Written) (first second : Block) → sites_at (xs ++ ys) place w first second ≡ sites_at xs place w first second ++ sites_at ys place w first second
sites_append xs ys place w first second =
    let g : NameId → Bool = λ r. not (r.0 == w.name.0) in
    let site : NameId → Site = λ r. record { place = place; first = first; second = second; process = r } in
    ap (map site) (filter-append g xs ys) ∙ map-append site (filter g xs) (filter g ys)

module _ (P : Site → Type 0) where
  at_all : (scope : List NameId) (place : Place) (w : Written) (first second : Block) → All (λ r. All P (sites_at (r ∷ []) place w first second)) scope → All P (sites_at scope place w first second)
  at_all [] place w first second h = All-nil P
  at_all (r ∷ rs) place w first second h =
      let Q : NameId → Type 0 = λ x. All P (sites_at (x ∷ []) place w first second) in
      subst (All P) (sym (sites_append (r ∷ []) rs place w first second))
      (All-append P (sites_at (r ∷ []) place w first second) (sites_at rs place w first second) (All-head Q r rs h) (at_all rs place w first second (All-tail Q r rs h)))

  -- what holds at the sites of each process by itself, and at the sites of processes that starts make, holds at all sites
  sites_all : (b : Block) (scope made : List NameId) → All (λ r. All P (own_sites r b)) scope → All P (sites_in made b) → All P (sites_in (scope ++ made) b)
  sites_all (Then place s next) scope made h m =
      subst (λ (l : List NameId). All P (sites_in l next)) (sym (append_assoc scope made (made_by s))) (sites_all next scope (made ++ made_by s) h m)
  sites_all (Either place w e first second) scope made h m =
      let both : NameId → List Site = λ r. own_sites r first ++ own_sites r second in
      let here' : NameId → List Site = λ r. sites_at (r ∷ []) place w first second in
      let inner = All-weaker (λ r. All P (both r ++ here' r)) (λ r. All P (both r)) (λ r k. front P (both r) (here' r) k) scope h in
      let outer = All-weaker (λ r. All P (both r ++ here' r)) (λ r. All P (here' r)) (λ r k. back P (both r) (here' r) k) scope h in
      let one = All-weaker (λ r. All P (both r)) (λ r. All P (own_sites r first)) (λ r k. front P (own_sites r first) (own_sites r second) k) scope inner in
      let two = All-weaker (λ r. All P (both r)) (λ r. All P (own_sites r second)) (λ r k. back P (own_sites r first) (own_sites r second) k) scope inner in
      let m-inner = front P (sites_in made first ++ sites_in made second) (sites_at made place w first second) m in
      let m-outer = back P (sites_in made first ++ sites_in made second) (sites_at made place w first second) m in
      All-append P (sites_in (scope ++ made) first ++ sites_in (scope ++ made) second) (sites_at (scope ++ made) place w first second)
      (All-append P (sites_in (scope ++ made) first) (sites_in (scope ++ made) second)
      (sites_all first scope made one (front P (sites_in made first) (sites_in made second) m-inner))
      (sites_all second scope made two (back P (sites_in made first) (sites_in made second) m-inner)))
      (subst (All P) (sym (sites_append scope made place w first second))
      (All-append P (sites_at scope place w first second) (sites_at made place w first second) (at_all scope place w first second outer) m-outer))
  sites_all (Calls place f ps ss) scope made h m = All-nil P
  sites_all (Stops place) scope made h m = All-nil P

-- all codes of a body
pub codes_found : (f : File) (id : NodeId) (scope : List NameId) (old new : List CodeNode) (xs : List Coded) → Keeps old new → AreScopeCodes f (body_of f id) scope new xs → IsCleanBody f id → AreCodes f (body_of f id) scope old new xs
codes_found f id scope old new xs k found clean = record {
  kept = k;
  each = found.each;
  clean = subst (λ (l : List NameId). All (λ s. HasClash f s → ⊥) (sites_in l (body_of f id))) (append_end scope) (sites_all (λ s. HasClash f s → ⊥) (body_of f id) scope [] found.clean clean);
}
