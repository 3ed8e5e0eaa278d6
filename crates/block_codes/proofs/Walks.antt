-- The codes at a block from those at the blocks after its first node.
use Rattle.std.proofs.Common.{◌≡◌, ◌<◌, ◌≤◌, ◌==◌, Bool, true, false, cond, List, [], ◌∷◌, ◌++◌, length, take, map, refl, sym, ap, ◌∙◌, subst, arith, length-append}
use Rattle.std.specs.Prelude.{All, not, Result, Ok, Err, IfOk, IfErr}
use Rattle.std.specs.List.{AllZip, zip, filter}
use Rattle.std.proofs.lemmas.List.Elements.{All-head, All-tail, All-nil, All-cons, All-append}
use Rattle.chor_base.specs.declared.names.NameId.{NameId}
use Rattle.chor_base.specs.declared.rule.Place.{Place}
use Rattle.chor_base.specs.declared.expr.Expr.{Expr}
use Rattle.chor_base.specs.Expr.{term_of}
use Rattle.chor_tree.specs.declared.file.File.{File}
use Rattle.chor_tree.specs.declared.file.Named.{Named as Written}
use Rattle.chor_tree.specs.declared.file.Proc.{Proc}
use Rattle.chor_tree.specs.declared.tree.Form.{Form}
use Rattle.chor_tree.specs.declared.tree.Form.TheVariants.{If}
use Rattle.chor_tree.specs.declared.tree.Node.{Node as TreeNode}
use Rattle.chor_tree.specs.declared.tree.NodeId.{NodeId}
use Rattle.chor_tree.specs.Children.{children_of}
use Rattle.chor_tree.specs.Source.{Block, Then, Either, body_of, block_of, blocks_of}
use Rattle.endpoint_code.specs.declared.code.CodeNode.{CodeNode}
use Rattle.endpoint_code.specs.Above.{IsAbove}
use Rattle.endpoint_code.specs.Trees.{CodeTree, code_at}
use Rattle.endpoint_code.proofs.AboveOrder.{above_trans}
use Rattle.branch_merge.specs.Merged.{Keeps}
use Rattle.branch_merge.proofs.ArmTables.{keeps_both, code_kept, kept_length}
use Rattle.chor_semantics.specs.Blocks.{node_of, choreography_of}
use Rattle.projection.specs.Codes.{part_in, IsCodeOf, decides as decides_there, merges}
use Rattle.projection.specs.Making.{part_tree, part_at}
use Rattle.projection.specs.MergeFaults.{Site, sites_in, sites_at, HasClash, IsFirstOf, here, later}
use Rattle.projection.proofs.Makes.{code_then}
use Rattle.projection.proofs.OneCode.{code_distinct, code_above}
use Rattle.projection.proofs.Clashes.{branches_meet, first_left, first_right}
use Rattle.block_codes.specs.declared.coded.Coded.{Coded}
use Rattle.block_codes.specs.declared.stop.Stop.{Stop}
use Rattle.block_codes.specs.declared.stop.Stop.TheVariants.{Clash, Memory}
use Rattle.block_codes.specs.Nodes.{IsAt, IsStatement, IsConditional, IsLast, made_in, names_of}
use Rattle.block_codes.specs.Parts.{IsPut, ArePut, IsCalled, AreCalled}
use Rattle.block_codes.specs.Joins.{Branched, is_conditional, IsSound, IsJoin, IsJoined, AreJoined, IsStuck, StopsFirst}
use Rattle.block_codes.specs.Walks.{IsCoded, AreCodes, StopsAt}
use Rattle.block_codes.proofs.Zips.{zip_weaker, zip_lengths, zip_seconds}

-- ---- codes in a table that grows

pub coded_kept : {procs : List Proc} {b : Block} {old new : List CodeNode} (r : NameId) (x : Coded) → Keeps old new → IsCoded procs old b r x → IsCoded procs new b r x
coded_kept {procs = procs} {b = b} r x k h = record {
  process = h.process;
  inside = let n = kept_length k in let m = h.inside in omega arith;
  code = subst (IsCodeOf procs r (choreography_of b)) (sym (code_kept x.code k h.inside)) h.code;
}

codes_kept : (procs : List Proc) (b : Block) (old new : List CodeNode) (scope : List NameId) (xs : List Coded) → Keeps old new → AllZip (IsCoded procs old b) scope xs → AllZip (IsCoded procs new b) scope xs
codes_kept procs b old new scope xs k z = zip_weaker (IsCoded procs old b) (IsCoded procs new b) (λ r x. coded_kept r x k) scope xs z

sound_codes : (procs : List Proc) (b : Block) (nodes : List CodeNode) (scope : List NameId) (xs : List Coded) → AllZip (IsCoded procs nodes b) scope xs → All (IsSound nodes) xs
sound_codes procs b nodes scope xs z =
    zip_seconds (IsCoded procs nodes b) (IsSound nodes) (λ r x h. record { inside = h.inside; distinct = code_distinct procs r h.code }) scope xs z

inside_codes : (procs : List Proc) (b : Block) (nodes : List CodeNode) (scope : List NameId) (xs : List Coded) → AllZip (IsCoded procs nodes b) scope xs → All (λ x. x.code.0 < length nodes) xs
inside_codes procs b nodes scope xs z = zip_seconds (IsCoded procs nodes b) (λ x. x.code.0 < length nodes) (λ r x h. h.inside) scope xs z

-- ---- after a statement

module _ {f : File} {id next : NodeId} {n : TreeNode} (at : IsAt f id n) (s : IsStatement n.form next) where
  pub next_before : next.0 < id.0
  next_before = All-head (λ c. c.0 < id.0) next [] (subst (All (λ c. c.0 < id.0)) s.child at.before)

  pub next_inside : next.0 < length f.tree.nodes
  next_inside = let b = next_before in let i = at.inside in omega arith

  pub statement_block : body_of f id ≡ Then n.place s.statement (body_of f next)
  statement_block = at.block ∙ s.block (blocks_of f.tree.nodes) n.place

  statement_sites : (scope : List NameId) → sites_in scope (body_of f id) ≡ sites_in (scope ++ names_of (made_in n.form)) (body_of f next)
  statement_sites scope = ap (sites_in scope) statement_block ∙ ap (λ m. sites_in (scope ++ m) (body_of f next)) s.made

  module _ (mid new : List CodeNode) where
    pub put_coded : (r : NameId) (x y : Coded) → IsCoded f.procs mid (body_of f next) r x → IsPut mid new n.form x y → IsCoded f.procs new (body_of f id) r y
    put_coded r x y h p =
        let m = node_of s.statement in
        let same : code_at new y.code ≡ part_tree (part_in r m) (code_at mid x.code) =
        p.code ∙ ap (λ (q : NameId). part_tree (part_at q n.form) (code_at mid x.code)) h.process ∙ ap (λ q. part_tree q (code_at mid x.code)) (s.part r) in
        record {
          process = p.process ∙ h.process;
          inside = p.inside;
          code =
              subst (λ (b : Block). IsCodeOf f.procs r (choreography_of b) (code_at new y.code)) (sym statement_block)
              (subst (IsCodeOf f.procs r (choreography_of (Then n.place s.statement (body_of f next)))) (sym same) (code_then f.procs r m (choreography_of (body_of f next)) (code_at mid x.code) h.code));
        }

    put_all : (scope more : List NameId) (xs ys : List Coded) → AllZip (IsCoded f.procs mid (body_of f next)) (scope ++ more) xs → AllZip (IsPut mid new n.form) (take (length scope) xs) ys → AllZip (IsCoded f.procs new (body_of f id)) scope ys
    put_all [] more xs [] z p = tt
    put_all [] more xs (y ∷ ys) z p = absurd p
    put_all (r ∷ scope) more [] ys z p = absurd z
    put_all (r ∷ scope) more (x ∷ xs) [] z p = absurd p
    put_all (r ∷ scope) more (x ∷ xs) (y ∷ ys) z p = (put_coded r x y z.0 p.0, put_all scope more xs ys z.1 p.1)

    pub statement_codes : {old : List CodeNode} (scope longer : List NameId) (xs part ys : List Coded) → longer ≡ scope ++ names_of (made_in n.form) → AreCodes f (body_of f next) longer old mid xs → part ≡ take (length scope) xs → ArePut mid new n.form part ys
        → AreCodes f (body_of f id) scope old new ys
    statement_codes scope longer xs part ys e h is p = record {
      kept = keeps_both h.kept p.kept;
      each =
          put_all scope (names_of (made_in n.form)) xs ys (subst (λ (l : List NameId). AllZip (IsCoded f.procs mid (body_of f next)) l xs) e h.each)
          (subst (λ (l : List Coded). AllZip (IsPut mid new n.form) l ys) is p.each);
      clean =
          subst (All (λ t. HasClash f t → ⊥)) (sym (statement_sites scope))
          (subst (λ (l : List NameId). All (λ t. HasClash f t → ⊥) (sites_in l (body_of f next))) e h.clean);
    }

  pub rest_longer : {old mid : List CodeNode} (scope longer : List NameId) (xs : List Coded) → longer ≡ scope ++ names_of (made_in n.form) → AreCodes f (body_of f next) longer old mid xs → length scope ≤ length xs
  rest_longer {mid = mid} scope longer xs e h =
      let l = zip_lengths (IsCoded f.procs mid (body_of f next)) longer xs h.each in
      let m = ap length e in omega (arith, length-append scope (names_of (made_in n.form)))

  pub rest_inside : {old mid : List CodeNode} (longer : List NameId) (xs : List Coded) → AreCodes f (body_of f next) longer old mid xs → All (λ x. x.code.0 < length mid) xs
  rest_inside {mid = mid} longer xs h = inside_codes f.procs (body_of f next) mid longer xs h.each

  pub statement_stops : (scope longer : List NameId) (e : Stop) → longer ≡ scope ++ names_of (made_in n.form) → StopsAt f (sites_in longer (body_of f next)) e → StopsAt f (sites_in scope (body_of f id)) e
  statement_stops scope longer e is h =
      subst (λ (l : List Site). StopsAt f l e) (sym (statement_sites scope))
      (subst (λ (l : List NameId). StopsAt f (sites_in l (body_of f next)) e) is h)

-- ---- at the last node

pub last_coded : {f : File} {id : NodeId} {n : TreeNode} {old new : List CodeNode} (scope : List NameId) (ys : List Coded) → IsAt f id n → IsLast n.form → AreCalled f.procs n.form old new scope ys → AreCodes f (body_of f id) scope old new ys
last_coded {f = f} {id = id} {n = n} {new = new} scope ys at l c = record {
  kept = c.kept;
  each = zip_weaker (IsCalled f.procs n.form new) (IsCoded f.procs new (body_of f id)) one scope ys c.each;
  clean = subst (All (λ t. HasClash f t → ⊥)) (sym (ap (sites_in scope) at.block ∙ l.sites scope (blocks_of f.tree.nodes) n.place)) (All-nil (λ t. HasClash f t → ⊥));
}
  where
    one : (r : NameId) (y : Coded) → IsCalled f.procs n.form new r y → IsCoded f.procs new (body_of f id) r y
    one r y h = record {
      process = h.process;
      inside = h.inside;
      code =
          subst (λ (b : Block). IsCodeOf f.procs r (choreography_of b) (code_at new y.code)) (sym at.block)
          (subst (IsCodeOf f.procs r (choreography_of (block_of (blocks_of f.tree.nodes) n.place n.form))) (sym h.code) (l.codes f.procs r (blocks_of f.tree.nodes) n.place));
    }

-- ---- at a conditional

pub is_if : {g : Form} {first second : NodeId} → IsConditional g first second → is_conditional g ≡ true
is_if c = ap is_conditional c.is

pub first_before : {f : File} {id : NodeId} {n : TreeNode} {first second : NodeId} → IsAt f id n → IsConditional n.form first second → first.0 < id.0
first_before {id = id} {first = first} {second = second} at c = All-head (λ d. d.0 < id.0) first (second ∷ []) (subst (All (λ d. d.0 < id.0)) (ap children_of c.is) at.before)

pub second_before : {f : File} {id : NodeId} {n : TreeNode} {first second : NodeId} → IsAt f id n → IsConditional n.form first second → second.0 < id.0
second_before {id = id} {first = first} {second = second} at c =
    All-head (λ d. d.0 < id.0) second [] (All-tail (λ d. d.0 < id.0) first (second ∷ []) (subst (All (λ d. d.0 < id.0)) (ap children_of c.is) at.before))

module _ (f : File) (place : Place) (p : Written) (test : Expr) (first second : NodeId) where
  abbrev one : Block
  one = body_of f first

  abbrev other : Block
  other = body_of f second

  abbrev whole : Block
  whole = Either place p (term_of test) one other

  abbrev form : Form
  form = If p test first second

  abbrev site : NameId → Site
  site r = record { place = place; first = one; second = other; process = r }

  -- the sites at the conditional, where the process that comes first decides or doesn't
  abbrev sites : Bool → NameId → List NameId → List Site
  sites b r scope = map site (cond (not b) (r ∷ filter (λ q. not (q.0 == p.name.0)) scope) (filter (λ q. not (q.0 == p.name.0)) scope))

  abbrev NoClash : Site → Type 0
  NoClash s = HasClash f s → ⊥

  module _ (old new : List CodeNode) where
    pub joined_code : (r : NameId) (x y z : Coded) → IsCoded f.procs old one r x → IsCoded f.procs old other r y → IsJoined old new form (x, y) z → IsCoded f.procs new whole r z
    joined_code r x y z h g j = record {
      process = j.process ∙ h.process;
      inside = j.inside;
      code = go (r.0 == p.name.0) refl (subst (λ (q : NameId). IsJoin (q.0 == p.name.0) form (code_at old x.code) (code_at old y.code) (code_at new z.code)) h.process j.code);
    }
      where
        go : (b : Bool) → (r.0 == p.name.0) ≡ b → IsJoin b form (code_at old x.code) (code_at old y.code) (code_at new z.code) → IsCodeOf f.procs r (choreography_of whole) (code_at new z.code)
        go true e q = subst (IsCodeOf f.procs r (choreography_of whole)) (sym q) (decides_there e h.code g.code)
        go false e q = merges e h.code g.code q

    joined_clean : (r : NameId) (x y z : Coded) → (r.0 == p.name.0) ≡ false → IsCoded f.procs old one r x → IsCoded f.procs old other r y → IsJoined old new form (x, y) z → NoClash (site r)
    joined_clean r x y z e h g j =
        let l : IsJoin false form (code_at old x.code) (code_at old y.code) (code_at new z.code) =
        subst (λ (b : Bool). IsJoin b form (code_at old x.code) (code_at old y.code) (code_at new z.code)) e
        (subst (λ (q : NameId). IsJoin (q.0 == p.name.0) form (code_at old x.code) (code_at old y.code) (code_at new z.code)) h.process j.code) in
        branches_meet f (site r) (code_at old x.code) (code_at old y.code) (code_at new z.code) h.code g.code l

    joined_codes : (scope : List NameId) (xs ys zs : List Coded) → AllZip (IsCoded f.procs old one) scope xs → AllZip (IsCoded f.procs old other) scope ys → AllZip (IsJoined old new form) (zip xs ys) zs → AllZip (IsCoded f.procs new whole) scope zs
    joined_codes [] [] [] [] a b j = tt
    joined_codes [] [] [] (z ∷ zs) a b j = absurd j
    joined_codes [] [] (y ∷ ys) zs a b j = absurd b
    joined_codes [] (x ∷ xs) ys zs a b j = absurd a
    joined_codes (r ∷ scope) [] ys zs a b j = absurd a
    joined_codes (r ∷ scope) (x ∷ xs) [] zs a b j = absurd b
    joined_codes (r ∷ scope) (x ∷ xs) (y ∷ ys) [] a b j = absurd j
    joined_codes (r ∷ scope) (x ∷ xs) (y ∷ ys) (z ∷ zs) a b j = (joined_code r x y z a.0 b.0 j.0, joined_codes scope xs ys zs a.1 b.1 j.1)

    pub joined_sites : (scope : List NameId) (xs ys zs : List Coded) → AllZip (IsCoded f.procs old one) scope xs → AllZip (IsCoded f.procs old other) scope ys → AllZip (IsJoined old new form) (zip xs ys) zs → All NoClash (sites_at scope place p one other)
    joined_sites [] xs ys zs a b j = All-nil NoClash
    joined_sites (r ∷ scope) [] ys zs a b j = absurd a
    joined_sites (r ∷ scope) (x ∷ xs) [] zs a b j = absurd b
    joined_sites (r ∷ scope) (x ∷ xs) (y ∷ ys) [] a b j = absurd j
    joined_sites (r ∷ scope) (x ∷ xs) (y ∷ ys) (z ∷ zs) a b j = go (r.0 == p.name.0) refl (joined_sites scope xs ys zs a.1 b.1 j.1)
      where
        go : (t : Bool) → (r.0 == p.name.0) ≡ t → All NoClash (sites_at scope place p one other) → All NoClash (sites t r scope)
        go true e rest = rest
        go false e rest = All-cons NoClash (site r) (sites_at scope place p one other) (joined_clean r x y z e a.0 b.0 j.0) rest

  module _ (old : List CodeNode) where
    stuck_clash : (r : NameId) (x y : Coded) → IsCoded f.procs old one r x → IsCoded f.procs old other r y → IsStuck old form (x, y) → HasClash f (site r)
    stuck_clash r x y h g s = record { first = code_at old x.code; second = code_at old y.code; first_code = h.code; second_code = g.code; none = s.none }

    clash_stuck : (r : NameId) (x y : Coded) → (r.0 == p.name.0) ≡ false → IsCoded f.procs old one r x → IsCoded f.procs old other r y → HasClash f (site r) → IsStuck old form (x, y)
    clash_stuck r x y e h g c = record {
      other = ap (λ (q : NameId). q.0 == p.name.0) h.process ∙ e;
      none = λ q d above.
          c.none q d (two q (above_trans (All-head (IsAbove q) (code_at old x.code) (code_at old y.code ∷ []) above) (code_above f.procs r (choreography_of one) (code_at old x.code) c.first h.code c.first_code))
          (above_trans (All-head (IsAbove q) (code_at old y.code) [] (All-tail (IsAbove q) (code_at old x.code) (code_at old y.code ∷ []) above)) (code_above f.procs r (choreography_of other) (code_at old y.code) c.second g.code c.second_code)));
    }
      where
        two : (q : CodeTree) → IsAbove q c.first → IsAbove q c.second → All (IsAbove q) (c.first ∷ c.second ∷ [])
        two q a b = All-cons (IsAbove q) c.first (c.second ∷ []) a (All-cons (IsAbove q) c.second [] b (All-nil (IsAbove q)))

    -- the first that clashes is the first that is stuck
    record IsFirstSite (x : Branched) (ss : List Site) : Type 0 where
      pub site' : Site
      pub first' : IsFirstOf (HasClash f) site' ss
      pub place' : site'.place ≡ place
      pub process' : site'.process ≡ x.0.process

    first_site : (scope : List NameId) (xs ys : List Coded) (x : Branched) → AllZip (IsCoded f.procs old one) scope xs → AllZip (IsCoded f.procs old other) scope ys → IsFirstOf (IsStuck old form) x (zip xs ys) → IsFirstSite x (sites_at scope place p one other)
    first_site [] [] ys x a b h = elim h [ ]
    first_site [] (u ∷ xs) ys x a b h = absurd a
    first_site (r ∷ scope) [] ys x a b h = absurd a
    first_site (r ∷ scope) (u ∷ xs) [] x a b h = absurd b
    first_site (r ∷ scope) (u ∷ xs) (v ∷ ys) x a b (here s) = go (r.0 == p.name.0) refl
      where
        go : (t : Bool) → (r.0 == p.name.0) ≡ t → IsFirstSite (u, v) (sites t r scope)
        go true e = let o : (r.0 == p.name.0) ≡ false = ap (λ (q : NameId). q.0 == p.name.0) (sym a.0.process) ∙ s.other in absurd cc
        go false e = record { site' = site r; first' = here (stuck_clash r u v a.0 b.0 s); place' = refl; process' = sym a.0.process }
    first_site (r ∷ scope) (u ∷ xs) (v ∷ ys) x a b (later n h) = go (r.0 == p.name.0) refl (first_site scope xs ys x a.1 b.1 h)
      where
        go : (t : Bool) → (r.0 == p.name.0) ≡ t → IsFirstSite x (sites_at scope place p one other) → IsFirstSite x (sites t r scope)
        go true e i = i
        go false e i = record { site' = i.site'; first' = later (λ c. n (clash_stuck r u v e a.0 b.0 c)) i.first'; place' = i.place'; process' = i.process' }

    pub stuck_stops : (n : TreeNode) → n.form ≡ form → n.place ≡ place → (scope : List NameId) (xs ys : List Coded) (s : Stop) → AllZip (IsCoded f.procs old one) scope xs → AllZip (IsCoded f.procs old other) scope ys → StopsFirst old n (zip xs ys) s
        → StopsAt f (sites_at scope place p one other) s
    stuck_stops n e at scope xs ys Memory a b h = tt
    stuck_stops n e at scope xs ys (Clash where' who) a b h =
        let i = first_site scope xs ys h.branched a b (subst (λ (g : Form). IsFirstOf (IsStuck old g) h.branched (zip xs ys)) e h.first) in
        record { site = i.site'; first = i.first'; place_is = i.place' ∙ sym at ∙ sym h.place_is; who_is = i.process' ∙ sym h.who_is }

-- a fault of the first part of some sites, or of the second where the first has none
pub stops_left : (f : File) (ss ts : List Site) (e : Stop) → StopsAt f ss e → StopsAt f (ss ++ ts) e
stops_left f ss ts Memory h = tt
stops_left f ss ts (Clash place who) h = record { site = h.site; first = first_left (HasClash f) ts h.first; place_is = h.place_is; who_is = h.who_is }

pub stops_right : (f : File) (ss ts : List Site) (e : Stop) → All (λ s. HasClash f s → ⊥) ss → StopsAt f ts e → StopsAt f (ss ++ ts) e
stops_right f ss ts Memory c h = tt
stops_right f ss ts (Clash place who) c h = record { site = h.site; first = first_right (HasClash f) ss c h.first; place_is = h.place_is; who_is = h.who_is }

module _ {f : File} {id first second : NodeId} {n : TreeNode} (at : IsAt f id n) (c : IsConditional n.form first second) where
  abbrev last : List NameId → List Site
  last scope = sites_at scope n.place c.decider (body_of f first) (body_of f second)

  abbrev both : List NameId → List Site
  both scope = sites_in scope (body_of f first) ++ sites_in scope (body_of f second)

  pub if_block : body_of f id ≡ Either n.place c.decider (term_of c.test) (body_of f first) (body_of f second)
  if_block = at.block ∙ ap (block_of (blocks_of f.tree.nodes) n.place) c.is

  if_sites : (scope : List NameId) → sites_in scope (body_of f id) ≡ both scope ++ last scope
  if_sites scope = ap (sites_in scope) if_block

  pub first_stops : (scope : List NameId) (e : Stop) → StopsAt f (sites_in scope (body_of f first)) e → StopsAt f (sites_in scope (body_of f id)) e
  first_stops scope e h =
      subst (λ (l : List Site). StopsAt f l e) (sym (if_sites scope))
      (stops_left f (both scope) (last scope) e (stops_left f (sites_in scope (body_of f first)) (sites_in scope (body_of f second)) e h))

  pub second_stops : {old mid : List CodeNode} (scope : List NameId) (xs : List Coded) (e : Stop) → AreCodes f (body_of f first) scope old mid xs → StopsAt f (sites_in scope (body_of f second)) e → StopsAt f (sites_in scope (body_of f id)) e
  second_stops scope xs e a h =
      subst (λ (l : List Site). StopsAt f l e) (sym (if_sites scope))
      (stops_left f (both scope) (last scope) e (stops_right f (sites_in scope (body_of f first)) (sites_in scope (body_of f second)) e a.clean h))

  module _ {old one two : List CodeNode} (scope : List NameId) (xs ys : List Coded) (a : AreCodes f (body_of f first) scope old one xs) (b : AreCodes f (body_of f second) scope one two ys) where
    firsts_later : AllZip (IsCoded f.procs two (body_of f first)) scope xs
    firsts_later = codes_kept f.procs (body_of f first) one two scope xs b.kept a.each

    both_clean : All (λ s. HasClash f s → ⊥) (both scope)
    both_clean = All-append (λ s. HasClash f s → ⊥) (sites_in scope (body_of f first)) (sites_in scope (body_of f second)) a.clean b.clean

    pub same_lengths : length xs ≡ length ys
    same_lengths = sym (zip_lengths (IsCoded f.procs one (body_of f first)) scope xs a.each) ∙ zip_lengths (IsCoded f.procs two (body_of f second)) scope ys b.each

    pub firsts_sound : All (IsSound two) xs
    firsts_sound = sound_codes f.procs (body_of f first) two scope xs firsts_later

    pub seconds_sound : All (IsSound two) ys
    seconds_sound = sound_codes f.procs (body_of f second) two scope ys b.each

    pub join_stops : (e : Stop) → StopsFirst two n (zip xs ys) e → StopsAt f (sites_in scope (body_of f id)) e
    join_stops e h =
        subst (λ (l : List Site). StopsAt f l e) (sym (if_sites scope))
        (stops_right f (both scope) (last scope) e both_clean
        (stuck_stops f n.place c.decider c.test first second two n c.is refl scope xs ys e firsts_later b.each h))

    pub join_codes : {new : List CodeNode} (zs : List Coded) → AreJoined two new n.form xs ys zs → AreCodes f (body_of f id) scope old new zs
    join_codes {new = new} zs j =
        let each : AllZip (IsJoined two new (If c.decider c.test first second)) (zip xs ys) zs = subst (λ (g : Form). AllZip (IsJoined two new g) (zip xs ys) zs) c.is j.each in
        record {
          kept = keeps_both a.kept (keeps_both b.kept j.kept);
          each = subst (λ (t : Block). AllZip (IsCoded f.procs new t) scope zs) (sym if_block) (joined_codes f n.place c.decider c.test first second two new scope xs ys zs firsts_later b.each each);
          clean =
              subst (All (λ s. HasClash f s → ⊥)) (sym (if_sites scope))
              (All-append (λ s. HasClash f s → ⊥) (both scope) (last scope) both_clean (joined_sites f n.place c.decider c.test first second two new scope xs ys zs firsts_later b.each each));
        }

    -- what joining answers
    pub joined_answer : (new : List CodeNode) (us vs : List Coded) → us ≡ xs → vs ≡ ys → (r : Result (List Coded) Stop) → IfOk r (AreJoined two new n.form us vs) → IfOk r (AreCodes f (body_of f id) scope old new)
    joined_answer new us vs d e (Ok zs) h =
        join_codes zs (subst (λ (l : List Coded). AreJoined two new n.form l ys zs) d (subst (λ (l : List Coded). AreJoined two new n.form us l zs) e h))
    joined_answer new us vs d e (Err s) h = h

    pub stopped_answer : (us vs : List Coded) → us ≡ xs → vs ≡ ys → (r : Result (List Coded) Stop) → IfErr r (StopsFirst two n (zip us vs)) → IfErr r (StopsAt f (sites_in scope (body_of f id)))
    stopped_answer us vs d e (Ok zs) h = h
    stopped_answer us vs d e (Err s) h =
        join_stops s (subst (λ (l : List Coded). StopsFirst two n (zip l ys) s) d (subst (λ (l : List Coded). StopsFirst two n (zip us l) s) e h))
