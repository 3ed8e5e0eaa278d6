-- What is known where a body begins: the holders that a procedure's head lists are those of the check.
use Rattle.std.proofs.Common.{◌≡◌, ◌+◌, ℕ, zero, suc, List, [], ◌∷◌, ◌++◌, map, length, ◌<◌, refl, sym, ap, ◌∙◌, subst, Some, None, Option, Bool, true, false, if◌then◌else◌, ◌==◌, ◌&&◌, ◌||◌, arith}
use Rattle.std.specs.Prelude.{slice_get, Contains}
use Rattle.std.specs.List.{flat_map}
use Rattle.std.proofs.lemmas.Bool.{and_parts}
use Rattle.chor_base.specs.declared.names.NameId.{NameId}
use Rattle.chor_tree.specs.declared.file.File.{File}
use Rattle.chor_tree.specs.declared.file.Named.{Named as Written}
use Rattle.chor_tree.specs.declared.file.Proc.{Proc}
use Rattle.chor_tree.specs.declared.file.ProcParam.{ProcParam}
use Rattle.chor_tree.specs.declared.file.SessionParam.{SessionParam}
use Rattle.chor_tree.specs.Names.{is_among, procedure_of, procedure_faults, session_faults, unknown, unknown_role, protocol_of, protocols_of, named_as_channel, repeated, scope_of_main, scope_of_procedure}
use Rattle.chor_tree.specs.Source.{body_of}
use Rattle.chor_semantics.specs.Choreography.{Named}
use Rattle.chor_semantics.specs.Sources.{Procedure, procedures_of, tree_in, trees_of}
use Rattle.well_formed.specs.Holders.{named_param, listed_param, declared_holder, AllHoldersFit, HoldersFit}
use Rattle.well_formed.proofs.References.{same_name}
use Rattle.delegation.specs.declared.held.Held.{Held}
use Rattle.delegation.specs.Owners.{held as entry, holder_of}
use Rattle.delegation.specs.Checks.{all_differ}
use Rattle.typing_rules.specs.Environment.{standing_of, stands, at_main, at_procedure}
use Rattle.typed_sources.specs.Stands.{holder_at}
use Rattle.typed_sources.proofs.Arguments.{named, owners_of, standings_of, holder_elsewhere, no_owner}
use Rattle.typed_sources.proofs.Begins.{IsProper}
use Rattle.typed_sources.specs.Laws.{IsAccepted}
use Rattle.chor_semantics.proofs.Blocks.{choreography_at}
use Rattle.typed_sources.proofs.Resolved.{both_empty, each_empty, found_in}
use Rattle.typed_sources.proofs.ProcedureHeads.{is_known}
use Rattle.typed_sources.proofs.Sources.{ProceduresFit}
use Rattle.typed_sources.proofs.Accepted.{good, main_faultless, procedures_keep, procedures_fine}
use Rattle.typed_sources.specs.Lists.{one_more, place_of, listed_for, place_for, listed_in, listed_by, lists_of}
use Rattle.typed_sources.proofs.Opened.{not_is}
use Rattle.typed_sources.proofs.Places.{from_file, place_named, listed_there}
use Rattle.typed_sources.proofs.Owned.{holder_in, KeepsOwners, block_owned}

-- ---- the place of a parameter

place_there : (qs : List ProcParam) (x : NameId) → is_among (map (λ q. q.name.name) qs) x ≡ true → (j : ℕ) × (place_of qs x ≡ Some j)
place_there [] x h = absurd cc
place_there (q ∷ qs) x h = go (q.name.name.0 == x.0) h (place_there qs x)
  where
    go : (b : Bool) → (b || is_among (map (λ q. q.name.name) qs) x) ≡ true → (is_among (map (λ q. q.name.name) qs) x ≡ true → (j : ℕ) × (place_of qs x ≡ Some j))
        → (j : ℕ) × ((if b then Some 0 else one_more (place_of qs x)) ≡ Some j)
    go true i ih = (0, refl)
    go false i ih = let w = ih i in (suc w.0, ap one_more w.1)

-- ---- the first session of a name

in_first : (n : NameId) (hs : List (Written × Written)) (rest : List Held) (y : NameId) (r : NameId) → (n.0 == y.0) ≡ true → (o : Option NameId) → listed_for hs r ≡ o → (holder_of rest y r ≡ None)
    → holder_of (map (λ h. entry n h.0.name h.1.name) hs ++ rest) y r ≡ o
in_first n [] rest y r on o i none = none ∙ i
in_first n (x ∷ xs) rest y r on o i none =
    ap (λ b. if b && (x.0.name.0 == r.0) then Some x.1.name else holder_of (map (λ z. entry n z.0.name z.1.name) xs ++ rest) y r) on ∙ go (x.0.name.0 == r.0) i (λ p. in_first n xs rest y r on o p none)
  where
    go : (b : Bool) → (if b then Some x.1.name else listed_for xs r) ≡ o → (listed_for xs r ≡ o → holder_of (map (λ z. entry n z.0.name z.1.name) xs ++ rest) y r ≡ o)
        → (if b then Some x.1.name else holder_of (map (λ z. entry n z.0.name z.1.name) xs ++ rest) y r) ≡ o
    go true p ih = p
    go false p ih = ih p

-- the listed holders of sessions are parameters
abbrev pub ArePlaced : List ProcParam → List SessionParam → Type 0
ArePlaced qs [] = Unit {0}
ArePlaced qs (k ∷ ks) = ((h : Written × Written) → Contains k.holders h → is_among (map (λ q. q.name.name) qs) h.1.name ≡ true) × ArePlaced qs ks

module _ (qs : List ProcParam) (y : ℕ) (r : NameId) where
  of_session : (k : SessionParam) → ((h : Written × Written) → Contains k.holders h → is_among (map (λ q. q.name.name) qs) h.1.name ≡ true) → (o : Option NameId) → listed_for k.holders r ≡ o
      → listed_param (map (λ q. q.name.name) qs) (place_for qs o) ≡ holder_at o
  of_session k known None i = refl
  of_session k known (Some x) i =
      let h = listed_there k.holders r x i in
      let p = place_there qs x (ap (is_among (map (λ q. q.name.name) qs)) (sym h.3) ∙ known h.0 h.1) in
      ap (listed_param (map (λ q. q.name.name) qs)) p.1 ∙ ap named_param (place_named qs x p.0 p.1)

  -- The declared holder is the check's
  declared_same : (ks : List SessionParam) → all_differ (map (λ k. k.name.name) ks) ≡ true → ArePlaced qs ks → (L : ℕ → NameId → Option ℕ) (i : ℕ) → ((j : ℕ) → L (i + j) r ≡ listed_in qs (slice_get ks j) r)
      → declared_holder L (map (λ q. q.name.name) qs) i (map (λ k. k.name.name) ks) y r ≡ holder_at (holder_of (owners_of ks) (named y) r)
  declared_same [] od known L i m = refl
  declared_same (k ∷ ks) od known L i m = go (k.name.name.0 == y) refl (declared_same ks (and_parts _ _ od).1 known.1 L (suc i) (λ j. ap (λ z. L z r) (shift i j) ∙ m (suc j)))
    where
      plus : (i : ℕ) → i + 0 ≡ i
      plus i = omega arith

      shift : (i j : ℕ) → suc i + j ≡ i + suc j
      shift i j = omega arith

      none : (o : Option NameId) → holder_of (owners_of ks) (named y) r ≡ o → (k.name.name.0 == y) ≡ true → holder_of (owners_of ks) (named y) r ≡ None
      none None p on = p
      none (Some q) p on = absurd (no_owner ks (named y) r q (subst (λ z. is_among (map (λ k. k.name.name) ks) z ≡ false) (same_name k.name.name (named y) on) (not_is _ (and_parts _ _ od).0)) p)

      go : (b : Bool) → (k.name.name.0 == y) ≡ b → declared_holder L (map (λ q. q.name.name) qs) (suc i) (map (λ k. k.name.name) ks) y r ≡ holder_at (holder_of (owners_of ks) (named y) r)
          → (if b then listed_param (map (λ q. q.name.name) qs) (L i r) else declared_holder L (map (λ q. q.name.name) qs) (suc i) (map (λ k. k.name.name) ks) y r)
          ≡ holder_at (holder_of (owners_of (k ∷ ks)) (named y) r)
      go true on ih =
          ap (λ z. listed_param (map (λ q. q.name.name) qs) (L z r)) (sym (plus i)) ∙ ap (listed_param (map (λ q. q.name.name) qs)) (m 0)
          ∙ of_session k known.0 (listed_for k.holders r) refl
          ∙ ap holder_at (sym (in_first k.name.name k.holders (owners_of ks) (named y) r on (listed_for k.holders r) refl (none (holder_of (owners_of ks) (named y) r) refl on)))
      go false off ih = ih ∙ ap holder_at (sym (holder_elsewhere k.name.name k.holders (owners_of ks) (named y) r off))

-- ---- what is kept where bodies begin

standing_or : (ks : List SessionParam) (s : NameId) → standing_of (standings_of ks) s ≡ None → is_among (map (λ k. k.name.name) ks) s ≡ false
standing_or [] s h = refl
standing_or (k ∷ ks) s h = go (k.name.name.0 == s.0) h (standing_or ks s)
  where
    go : (b : Bool) → (if b then Some (stands k.name.name k.protocol.name k.state.name) else standing_of (standings_of ks) s) ≡ None
        → (standing_of (standings_of ks) s ≡ None → is_among (map (λ k. k.name.name) ks) s ≡ false) → (b || is_among (map (λ k. k.name.name) ks) s) ≡ false
    go true i ih = absurd cc
    go false i ih = ih i

pub main_keeps : (f : File) → KeepsOwners (scope_of_main f) at_main
main_keeps f = record { one_role = λ s a b p i j. absurd (nothing p i); held = λ s r i. refl; in_scope = λ s r p i. absurd (nothing p i) }
  where
    nothing : {A : Type 0} (x : A) → None ≡ Some x → ⊥
    nothing x h = cc

-- who is listed is a parameter
owner_placed : (qs : List ProcParam) (ks : List SessionParam) → ArePlaced qs ks → (s r q : NameId) → holder_of (owners_of ks) s r ≡ Some q → is_among (map (λ q. q.name.name) qs) q ≡ true
owner_placed qs [] known s r q i = absurd cc
owner_placed qs (k ∷ ks) known s r q i = along k.holders (λ h m. known.0 h m) (λ j. owner_placed qs ks known.1 s r q j) i
  where
    along : (hs : List (Written × Written)) → ((h : Written × Written) → Contains hs h → is_among (map (λ q. q.name.name) qs) h.1.name ≡ true) → (holder_of (owners_of ks) s r ≡ Some q → is_among (map (λ q. q.name.name) qs) q ≡ true)
        → holder_of (map (λ h. entry k.name.name h.0.name h.1.name) hs ++ owners_of ks) s r ≡ Some q → is_among (map (λ q. q.name.name) qs) q ≡ true
    along [] all rest j = rest j
    along (x ∷ xs) all rest j = go ((k.name.name.0 == s.0) && (x.0.name.0 == r.0)) j (along xs (λ h m. all h (later m)) rest)
      where
        later : {h : Written × Written} → Contains xs h → Contains (x ∷ xs) h
        later m = (suc m.0, (let l : m.0 < length xs = m.1 in omega (arith, l)), m.2)

        go : (b : Bool) → (if b then Some x.1.name else holder_of (map (λ h. entry k.name.name h.0.name h.1.name) xs ++ owners_of ks) s r) ≡ Some q → (holder_of (map (λ h. entry k.name.name h.0.name h.1.name) xs ++ owners_of ks) s r ≡ Some q → is_among (map (λ q. q.name.name) qs) q ≡ true) → is_among (map (λ q. q.name.name) qs) q ≡ true
        go true e ih = let same : x.1.name ≡ q = cc in subst (λ z. is_among (map (λ q. q.name.name) qs) z ≡ true) same (all x (0, omega arith, refl))
        go false e ih = ih e

procedure_keeps : (p : Proc) → IsProper p → ArePlaced p.params p.sessions → KeepsOwners (scope_of_procedure p) (at_procedure p)
procedure_keeps p proper known = record {
  one_role = proper.one_role;
  held = λ s r i. gone s r (holder_of (owners_of p.sessions) s r) refl (standing_or p.sessions s i);
  in_scope = λ s r q i. owner_placed p.params p.sessions known s r q i;
}
  where
    gone : (s r : NameId) (o : Option NameId) → holder_of (owners_of p.sessions) s r ≡ o → is_among (map (λ k. k.name.name) p.sessions) s ≡ false → holder_of (owners_of p.sessions) s r ≡ None
    gone s r None i off = i
    gone s r (Some q) i off = absurd (no_owner p.sessions s r q off i)

module _ (f : File) (words : List (List ℕ)) (ok : IsAccepted f words) where
  pub keep : ProceduresFit f (good f words ok.names ok.protocols ok.types)
  keep = procedures_keep f words ok.names ok.protocols ok.types

  placed_in : (p : Proc) (ks : List SessionParam) → flat_map (session_faults f (map (λ q. q.name.name) p.params)) ks ≡ [] → ArePlaced p.params ks
  placed_in p [] h = tt
  placed_in p (k ∷ ks) h =
      let w = both_empty (session_faults f (map (λ q. q.name.name) p.params) k) (flat_map (session_faults f (map (λ q. q.name.name) p.params)) ks) h in
      let H = flat_map (λ (h : Written × Written). unknown_role (protocol_of f k.protocol.name) h.0 ++ unknown (map (λ q. q.name.name) p.params) h.1) k.holders in
      let w0 = both_empty (named_as_channel f k.name ++ unknown (protocols_of f) k.protocol ++ H) (repeated [] (map (λ h. h.0) k.holders)) w.0 in
      let w1 = both_empty (named_as_channel f k.name ++ unknown (protocols_of f) k.protocol) H w0.0 in (
        (λ h m. is_known (map (λ q. q.name.name) p.params) h.1
            (both_empty (unknown_role (protocol_of f k.protocol.name) h.0) (unknown (map (λ q. q.name.name) p.params) h.1)
            (each_empty (λ (h : Written × Written). unknown_role (protocol_of f k.protocol.name) h.0 ++ unknown (map (λ q. q.name.name) p.params) h.1) k.holders w1.1 h m)).1),
        placed_in p ks w.1,
      )

  pub head_placed : (h : NameId) (p : Proc) → procedure_of f h ≡ Some p → ArePlaced p.params p.sessions
  head_placed h p is =
      let m = found_in (λ q. q.name) f.procs h p is in
      let R = repeated [] (map (λ q. q.name) p.params ++ map (λ k. k.name) p.sessions) in
      let V = flat_map (λ (q : ProcParam). repeated [] (map (λ v. v.0) q.vars)) p.params in
      let S = flat_map (session_faults f (map (λ q. q.name.name) p.params)) p.sessions in
      placed_in p p.sessions (both_empty (R ++ V) S (each_empty (procedure_faults f) f.procs (procedures_fine f words ok.names ok.protocols) p m)).1

  -- what is kept where a procedure's body begins
  pub body_keeps : (h : NameId) (p : Proc) → procedure_of f h ≡ Some p → KeepsOwners (scope_of_procedure p) (at_procedure p)
  body_keeps h p is = procedure_keeps p (keep.proper h p is) (head_placed h p is)

  -- who holds the roles where a procedure's body begins
  pub begins_same : (h : NameId) (p : Proc) → procedure_of f h ≡ Some p → (y : ℕ) (r : NameId)
      → declared_holder (lists_of f h) (map (λ q. q.name.name) p.params) 0 (map (λ k. k.name.name) p.sessions) y r ≡ holder_in (at_procedure p).owners y r
  begins_same h p is y r = declared_same p.params y r p.sessions (keep.proper h p is).sessions (head_placed h p is) (lists_of f h) 0 (λ j. ap (λ o. listed_by o (zero + j) r) is ∙ ap (λ z. listed_in p.params (slice_get p.sessions z) r) (first j))
    where
      first : (j : ℕ) → zero + j ≡ j
      first j = omega arith

  -- In main whoever uses a role is its holder
  pub main_held : (y : ℕ) (r : NameId) → HoldersFit (lists_of f) (Named y 0) r (tree_in (trees_of f.tree.nodes) f.body) None
  main_held y r =
      subst (λ c. HoldersFit (lists_of f) (Named y 0) r c None) (sym (choreography_at f.tree.nodes f.body))
      (block_owned f y r (body_of f f.body) (scope_of_main f) at_main (main_faultless f words ok.names ok.protocols ok.types) (main_keeps f))

  -- and in each body, where the listed parameters hold their roles at first
  pub bodies_held : AllHoldersFit (lists_of f) (procedures_of f)
  bodies_held h b is y r =
      let p = from_file f h b is in
      let there = block_owned f y r (body_of f p.proc.body) (scope_of_procedure p.proc) (at_procedure p.proc) (keep.bodies h p.proc p.is) (body_keeps h p.proc p.is) in
      subst (λ (z : Procedure). HoldersFit (lists_of f) (Named y 0) r z.body (declared_holder (lists_of f h) z.params 0 z.sessions y r)) p.same
      (subst (HoldersFit (lists_of f) (Named y 0) r (tree_in (trees_of f.tree.nodes) p.proc.body)) (sym (begins_same h p.proc p.is y r))
      (subst (λ c. HoldersFit (lists_of f) (Named y 0) r c (holder_in (at_procedure p.proc).owners y r)) (sym (choreography_at f.tree.nodes p.proc.body)) there))
