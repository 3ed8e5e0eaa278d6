-- Where two files have the same names and the same source, blocks that are the same have the same faults of names.
use Rattle.std.proofs.Common.{◌≡◌, ℕ, zero, suc, ◌≤◌, List, [], ◌∷◌, ◌++◌, length, map, refl, sym, ap, ◌∙◌, subst, Option, Some, None, arith}
use Rattle.std.specs.Prelude.{slice_get, Contains, flat_map, ◌==◌, if◌then◌else◌, Bool, true, false, bytes_eq, not}
use Rattle.std.specs.List.{list_any}
use Rattle.std.proofs.lemmas.List.{length-map}
use Rattle.std.proofs.lemmas.Simd.{map-map}
use Rattle.std.proofs.Math.ListN.{get_or-map}
use Rattle.chor_base.specs.declared.expr.Expr.TheVariants.{Var}
use Rattle.chor_base.specs.declared.names.NameId.{NameId}
use Rattle.chor_base.specs.declared.rule.Place.{Place}
use Rattle.chor_base.specs.declared.rule.Rule.TheVariants.{N1, N2}
use Rattle.chor_base.specs.Writing.{name_in}
use Rattle.chor_base.specs.declared.fault.Fault.{Fault}
use Rattle.chor_tree.specs.declared.file.File.{File}
use Rattle.chor_tree.specs.declared.file.Named.{Named}
use Rattle.chor_tree.specs.declared.file.Proc.{Proc}
use Rattle.chor_tree.specs.declared.file.Service.{Service}
use Rattle.chor_tree.specs.declared.tree.Form.{Form}
use Rattle.chor_tree.specs.declared.tree.Form.TheVariants.{Start, Value, Label, Give, Set, Host, Show, If, Call, End}
use Rattle.chor_tree.specs.declared.tree.Node.{Node}
use Rattle.chor_tree.specs.declared.tree.NodeId.{NodeId}
use Rattle.chor_tree.specs.Children.{children_of}
use Rattle.chor_tree.specs.Names.{Scope, first_named, channels_of, channel_of, procedures_of, is_among, fault_at, unknown, unknown_process, unknown_session, wrong_parts, wrong_numbers, repeated, scope_after, node_faults, IsBodyFault, here, further}
use Rattle.chor_tree.specs.Names as names
use Rattle.chor_tree.proofs.Blocks.{block_at, block_past, tails_same}
use Rattle.chor_tree.specs.Source.{Starts, Sends, Selects, Gives, Sets, Asks, Shows, Block, Then, Either, Calls, Ends, Procedure, Source, block_in, block_of, blocks_of, tails_of, procedure_of, source_of}

-- ---- lists

pub contains_map : {A B : Type 0} (h : A → B) (xs : List A) (x : A) → Contains xs x → Contains (map h xs) (h x)
contains_map h xs x c = (c.0, omega (arith, length-map xs h, c.1), get_or-map h xs c.0 x ∙ ap h c.2)

pub contains_of_map : {A B : Type 0} (h : A → B) (xs : List A) (y : B) → Contains (map h xs) y → (x : A) × Contains xs x × (h x ≡ y)
contains_of_map h [] y (k, lt, e) = absurd (omega arith)
contains_of_map h (x ∷ xs) y (zero, lt, e) = (x, (0, omega arith, refl), e)
contains_of_map h (x ∷ xs) y (suc k, lt, e) =
    let c = contains_of_map h xs y (k, omega arith, e) in
    (c.0, (suc c.1.0, omega (arith, c.1.1), c.1.2), c.2)

empty : {A : Type 0} (x : A) → Contains [] x → ⊥
empty x c = omega (arith, c.1)

past : (ns : List Node) (i : ℕ) → slice_get ns i ≡ None → length ns ≤ i
past [] i h = omega arith
past (n ∷ ns) zero h = absurd cc
past (n ∷ ns) (suc i) h = omega (arith, past ns i h)

-- ---- a form and its block

abbrev nobody : NodeId
nobody = record { 0 = 0 }

-- a form of a block, whatever its expressions are and what follows
abbrev shape : Block → Form
shape (Then p (Starts c k active serve) next) = Start c k active serve nobody
shape (Then p (Sends from e to x k) next) = Value from (Var x) to x k nobody
shape (Then p (Selects from to k l) next) = Label from to k l nobody
shape (Then p (Gives from to k given) next) = Give from to k given nobody
shape (Then p (Sets q x e) next) = Set q x (Var x) nobody
shape (Then p (Asks q x h a b) next) = Host q x h (Var x) (Var x) nobody
shape (Then p (Shows q e) next) = Show q (Var q.name) nobody
shape (Either p q e first second) = If q (Var q.name) nobody nobody
shape (Calls p g ps ks) = Call g ps ks
shape (Ends p) = End

-- it has the form's faults, and binds the form's names
kept : (f : File) (hosts : List (List ℕ)) (s : Scope) (bs : List Block) (p : Place) (form : Form)
    → (node_faults f hosts s (shape (block_of bs p form)) ≡ node_faults f hosts s form) × (scope_after s (shape (block_of bs p form)) ≡ scope_after s form)
kept f hosts s bs p (Start c k active serve next) = (refl, refl)
kept f hosts s bs p (Value from e to x k next) = (refl, refl)
kept f hosts s bs p (Label from to k l next) = (refl, refl)
kept f hosts s bs p (Give from to k given next) = (refl, refl)
kept f hosts s bs p (Set q x e next) = (refl, refl)
kept f hosts s bs p (Host q x h l r next) = (refl, refl)
kept f hosts s bs p (Show q e next) = (refl, refl)
kept f hosts s bs p (If q e first second) = (refl, refl)
kept f hosts s bs p (Call g ps ks) = (refl, refl)
kept f hosts s bs p End = (refl, refl)

-- ---- procedures without their bodies

abbrev pub head_of : Procedure → Proc
head_of p = record { name = p.name; params = p.params; sessions = p.sessions; body = nobody }

abbrev pub bare : Proc → Proc
bare p = record { name = p.name; params = p.params; sessions = p.sessions; body = nobody }

numbers_same : (x : NameId) (g : Named) (qs ks : List Named) (ps : List Proc)
    → wrong_numbers (first_named (λ p. p.name) (map bare ps) x) g qs ks ≡ wrong_numbers (first_named (λ p. p.name) ps x) g qs ks
numbers_same x g qs ks [] = refl
numbers_same x g qs ks (p ∷ ps) = go (p.name.name.0 == x.0) (numbers_same x g qs ks ps)
  where
    go : (b : Bool) → wrong_numbers (first_named (λ q. q.name) (map bare ps) x) g qs ks ≡ wrong_numbers (first_named (λ q. q.name) ps x) g qs ks
        → wrong_numbers (if b then Some (bare p) else first_named (λ q. q.name) (map bare ps) x) g qs ks ≡ wrong_numbers (if b then Some p else first_named (λ q. q.name) ps x) g qs ks
    go true rest = refl
    go false rest = rest

-- ---- two files with the same names and the same source

module _ (f g : File) (same : source_of f ≡ source_of g) where
  heads : map bare f.procs ≡ map bare g.procs
  heads = sym (map-map head_of (procedure_of f.tree.nodes) f.procs) ∙ ap (λ (s : Source). map head_of s.items.procedures) same ∙ map-map head_of (procedure_of g.tree.nodes) g.procs

  -- what is told without the bodies is the same
  pub by_heads : {A : Type 0} (v : List Proc → A) → ((ps : List Proc) → v (map bare ps) ≡ v ps) → v f.procs ≡ v g.procs
  by_heads v h = sym (h f.procs) ∙ ap v heads ∙ h g.procs

  pub channels_same : channels_of f ≡ channels_of g
  channels_same = ap (λ (s : Source). map (λ (c : Service). c.name.name) s.items.services) same

  channel_same : (x : NameId) → channel_of f x ≡ channel_of g x
  channel_same x = ap (λ (s : Source). first_named (λ (c : Service). c.name) s.items.services x) same

  procedures_same : procedures_of f ≡ procedures_of g
  procedures_same = by_heads (map (λ p. p.name.name)) (map-map (λ p. p.name.name) bare)

  calls_same : (h : Named) (ps ks : List Named) → wrong_numbers (names.procedure_of f h.name) h ps ks ≡ wrong_numbers (names.procedure_of g h.name) h ps ks
  calls_same h ps ks = by_heads (λ qs. wrong_numbers (first_named (λ p. p.name) qs h.name) h ps ks) (numbers_same h.name h ps ks)

  module _ (same_names : f.names ≡ g.names) (hosts : List (List ℕ)) where
    faults_same : (s : Scope) (form : Form) → node_faults f hosts s form ≡ node_faults g hosts s form
    faults_same s (Start c k active serve next) =
        λ i. unknown (channels_same i) c ++ wrong_parts (channel_same c.name i) c active serve
        ++ flat_map (λ q. unknown_process s q.process) active
        ++ fault_at (is_among (channels_same i) k.name) N2 k ++ repeated (s.processes ++ s.sessions) (k ∷ map (λ q. q.process) serve)
    faults_same s (Value from e to x k next) = refl
    faults_same s (Label from to k l next) = refl
    faults_same s (Give from to k given next) = refl
    faults_same s (Set q x e next) = refl
    faults_same s (Host q x h l r next) = λ i. unknown_process s q ++ fault_at (not (list_any (bytes_eq (name_in (same_names i) h.name)) hosts)) N1 h
    faults_same s (Show q e next) = refl
    faults_same s (If q e first second) = refl
    faults_same s (Call h ps ks) =
        λ i. unknown (procedures_same i) h ++ calls_same h ps ks i ++ flat_map (unknown_process s) ps ++ flat_map (unknown_session s) ks
    faults_same s End = refl

    abbrev blocks : List Block
    blocks = blocks_of f.tree.nodes

    abbrev others : List Block
    others = blocks_of g.tree.nodes

    -- what stands in the other file where the block of this node does: nothing, and the node is an end, or a node that is like it
    data Across (s : Scope) (n : Node) (other : NodeId) : Type 0 where
      nothing : node_faults f hosts s n.form ≡ [] → map (block_in blocks) (children_of n.form) ≡ [] → Across s n other
      node : (m : Node) → slice_get g.tree.nodes other.0 ≡ Some m
          → node_faults f hosts s n.form ≡ node_faults g hosts s m.form → scope_after s n.form ≡ scope_after s m.form
          → map (block_in blocks) (children_of n.form) ≡ map (block_in others) (children_of m.form) → Across s n other

    across : (s : Scope) (id other : NodeId) (n : Node) → slice_get f.tree.nodes id.0 ≡ Some n → block_in blocks id ≡ block_in others other → Across s n other
    across s id other n at e = go (slice_get g.tree.nodes other.0) refl
      where
        go : (o : Option Node) → slice_get g.tree.nodes other.0 ≡ o → Across s n other
        go None h =
            let b = sym (block_at f.tree.nodes id n f.tree.closed at) ∙ e ∙ block_past g.tree.nodes other (past g.tree.nodes other.0 h) in
            nothing (sym (kept f hosts s blocks n.place n.form).0 ∙ ap (λ c. node_faults f hosts s (shape c)) b) (sym (tails_same blocks n.place n.form) ∙ ap tails_of b)
        go (Some m) h =
            let b = sym (block_at f.tree.nodes id n f.tree.closed at) ∙ e ∙ block_at g.tree.nodes other m g.tree.closed h in
            let mine = kept f hosts s blocks n.place n.form in
            let its = kept f hosts s others m.place m.form in
            node m h (sym mine.0 ∙ ap (λ c. node_faults f hosts s (shape c)) b ∙ its.0 ∙ faults_same s m.form)
            (sym mine.1 ∙ ap (λ c. scope_after s (shape c)) b ∙ its.1)
            (sym (tails_same blocks n.place n.form) ∙ ap tails_of b ∙ tails_same others m.place m.form)

    -- a fault of a body of the one is a fault of the same block's body in the other
    pub carried : (x : Fault) (s : Scope) (id other : NodeId) → block_in blocks id ≡ block_in others other → IsBodyFault f hosts x s id → IsBodyFault g hosts x s other
    carried x s id other e (here {n = n} at c) = go (across s id other n at e)
      where
        go : Across s n other → IsBodyFault g hosts x s other
        go (nothing faults tails) = absurd (empty x (subst (λ xs. Contains xs x) faults c))
        go (node m h faults scope tails) = here h (subst (λ xs. Contains xs x) faults c)
    carried x s id other e (further {next = next} {n = n} at c more) = go (across s id other n at e) (λ child h. carried x (scope_after s n.form) next child h more)
      where
        follows : Contains (map (block_in blocks) (children_of n.form)) (block_in blocks next)
        follows = contains_map (block_in blocks) (children_of n.form) next c

        go : Across s n other → ((child : NodeId) → block_in blocks next ≡ block_in others child → IsBodyFault g hosts x (scope_after s n.form) child) → IsBodyFault g hosts x s other
        go (nothing faults tails) below = absurd (empty (block_in blocks next) (subst (λ bs. Contains bs (block_in blocks next)) tails follows))
        go (node m h faults scope tails) below =
            let d = contains_of_map (block_in others) (children_of m.form) (block_in blocks next) (subst (λ bs. Contains bs (block_in blocks next)) tails follows) in
            further h d.1 (subst (λ t. IsBodyFault g hosts x t d.0) scope (below d.0 (sym d.2)))
