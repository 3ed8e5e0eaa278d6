-- After each start its new processes use the session in which they hold a role.
use Rattle.std.proofs.Common.{◌≡◌, zero, suc, ◌<◌, List, [], ◌∷◌, ◌++◌, map, length, refl, sym, ap, ◌∙◌, subst, inl, inr, Some, None, Bool, true, false, if◌then◌else◌, ◌==◌, ◌||◌, arith}
use Rattle.std.specs.Prelude.{Contains}
use Rattle.std.specs.List.{AllByRecursion, list_all}
use Rattle.std.proofs.lemmas.Bool.{and_parts}
use Rattle.chor_base.specs.declared.names.NameId.{NameId}
use Rattle.chor_tree.specs.declared.file.File.{File}
use Rattle.chor_tree.specs.declared.file.Named.{Named as Written}
use Rattle.chor_tree.specs.declared.tree.Part.{Part}
use Rattle.chor_tree.specs.Names.{Scope, is_among as is_in, channels_of}
use Rattle.chor_tree.specs.Source.{Starts, Sends, Selects, Gives, Sets, Asks, Shows, Block, Then, Either, Calls, Ends}
use Rattle.chor_semantics.specs.Sources.{name_ref, served_of}
use Rattle.endpoint_code.specs.declared.endpoints.Endpoints.{Endpoints}
use Rattle.well_formed.proofs.References.{same_name, clash, true_eq, or_rights, or_left}
use Rattle.delegation.specs.declared.held.Held.{Held as Entry}
use Rattle.delegation.specs.Owners.{holder_of, started}
use Rattle.delegation.specs.Checks.{first_failed}
use Rattle.typing_rules.specs.Environment.{Environment}
use Rattle.typing_rules.specs.Checks.{statement_checks}
use Rattle.typing_rules.specs.After.{after_statement}
use Rattle.typed_sources.proofs.Checked.{some_is}
use Rattle.typed_sources.proofs.Opened.{IsNamedStart, among_more, eq_flip, holder_other, holder_new}
use Rattle.chor_semantics.specs.Blocks.{node_of, choreography_of}
use Rattle.typed_sources.proofs.Sources.{IsFaultless, scope_with}
use Rattle.projection.specs.Projects.{start_at, starts_in, serving}
use Rattle.projection.specs.Renamed.{AreOther}
use Rattle.typed_sources.proofs.Scopes.{among_front}
use Rattle.typed_sources.proofs.Owned.{KeepsOwners, statement_owned}
use Rattle.typed_sources.proofs.Named.{IsNewStart, AreNamed}
use Rattle.typed_sources.proofs.BlockScopes.{none_of}
use Rattle.accepted_files.specs.FreeSessions.{IsFree}
use Rattle.accepted_files.specs.Held.{UsesHeld, only_in, StartUses}
use Rattle.accepted_files.proofs.Lists.{append_all}
use Rattle.accepted_files.proofs.Names.{behind_part, part_holder}
use Rattle.accepted_files.proofs.Knows.{HasRole, Knows, AreThere, DiffersThere, start_roles, parts_apart}
use Rattle.accepted_files.proofs.HeldAlong.{block_uses}

-- ---- names that get in nobody's way

other_name : (xs : List NameId) (x a : NameId) → is_in xs x ≡ true → is_in xs a ≡ false → (x.0 == a.0) ≡ false
other_name xs x a i j = go (x.0 == a.0) refl
  where
    go : (b : Bool) → (x.0 == a.0) ≡ b → (x.0 == a.0) ≡ false
    go false e = e
    go true e = absurd (clash i (ap (is_in xs) (same_name x a e) ∙ j))

-- a name that isn't in scope, and no session that is bound has
still_out : (xs : List NameId) (k a : NameId) → is_in xs a ≡ false → (k.0 == a.0) ≡ false → is_in (xs ++ k ∷ []) a ≡ false
still_out xs k a i j = among_more xs (k ∷ []) a ∙ ap (λ b. (b || false) || is_in xs a) j ∙ i

refs_other : (xs : List NameId) (a : NameId) (ks : List Written) → list_all (λ x. is_in xs x.name) ks ≡ true → is_in xs a ≡ false → AreOther a (map name_ref ks)
refs_other xs a [] h out = tt
refs_other xs a (k ∷ ks) h out = let w = and_parts _ _ h in (other_name xs k.name a w.0 out, refs_other xs a ks w.1 out)

module _ (f : File) (a : NameId) (known : is_in (channels_of f) a ≡ true) where
  -- a session is no channel
  no_channel : (k : NameId) → is_in (channels_of f) k ≡ false → (k.0 == a.0) ≡ false
  no_channel k off = go (k.0 == a.0) refl
    where
      go : (b : Bool) → (k.0 == a.0) ≡ b → (k.0 == a.0) ≡ false
      go false e = e
      go true e = absurd (clash known (ap (is_in (channels_of f)) (sym (same_name k a e)) ∙ off))

  -- in a block in whose scope session k is and the channel is not, neither gets in the other's way
  is_free : (k : NameId) (b : Block) (scope : Scope) → AreNamed f scope b → is_in scope.sessions k ≡ true → is_in scope.sessions a ≡ false → IsFree k.0 a (choreography_of b)
  is_free k (Then place (Starts c s active serve) next) scope n there out = (
    eq_flip s.name.0 k.0 ∙ other_name scope.sessions k s.name there n.0.new,
    no_channel s.name n.0.no_channel,
    is_free k next (scope_with scope (Starts c s active serve)) n.1 (among_front scope.sessions (s.name ∷ []) k there) (still_out scope.sessions s.name a out (no_channel s.name n.0.no_channel)),
  )
  is_free k (Then place (Sends p x q y s) next) scope n there out = (other_name scope.sessions s.name a n.0 out, tt, is_free k next scope n.1 there out)
  is_free k (Then place (Selects p q s l) next) scope n there out = (other_name scope.sessions s.name a n.0 out, tt, is_free k next scope n.1 there out)
  is_free k (Then place (Gives p q s given) next) scope n there out =
      (other_name scope.sessions s.name a n.0.0 out, other_name scope.sessions given.process.name a n.0.1 out, is_free k next scope n.1 there out)
  is_free k (Then place (Sets p y x) next) scope n there out = is_free k next scope n.1 there out
  is_free k (Then place (Asks p y g x z) next) scope n there out = is_free k next scope n.1 there out
  is_free k (Then place (Shows p x) next) scope n there out = is_free k next scope n.1 there out
  is_free k (Either place p x first second) scope n there out = (is_free k first scope n.0 there out, is_free k second scope n.1 there out)
  is_free k (Calls place g ps ks) scope n there out = refs_other scope.sessions a ks n out
  is_free k (Ends place) scope n there out = tt

-- ---- new processes

part_in_scope : (qs : List Part) (q : Part) → Contains qs q → is_in (map (λ z. z.process.name) qs) q.process.name ≡ true
part_in_scope [] q (i, l, e) = absurd (omega (arith, l))
part_in_scope (x ∷ xs) q (zero, l, e) = ap (λ b. b || is_in (map (λ z. z.process.name) xs) q.process.name) (ap (λ (z : Part). z.process.name.0 == q.process.name.0) e ∙ true_eq q.process.name.0)
part_in_scope (x ∷ xs) q (suc i, l, e) = or_rights (x.process.name.0 == q.process.name.0) _ (part_in_scope xs q (i, omega (arith, l), e))

-- the part of the new process of a role
record ServingPart (p : NameId) (serve : List Part) : Type 0 where
  part : Part
  at : Contains serve part
  process : part.process.name ≡ p

serving_part : (r p : NameId) (serve : List Part) → serving r (served_of serve) ≡ Some p → ServingPart p serve
serving_part r p [] h = absurd cc
serving_part r p (x ∷ xs) h = go (x.role.name.0 == r.0) h (serving_part r p xs)
  where
    go : (b : Bool) → (if b then Some x.process.name else serving r (served_of xs)) ≡ Some p → (serving r (served_of xs) ≡ Some p → ServingPart p xs) → ServingPart p (x ∷ xs)
    go true i ih = record { part = x; at = (0, omega arith, refl); process = some_is _ _ i }
    go false i ih = let w = ih i in record { part = w.part; at = (suc w.at.0, (let l : w.at.0 < length xs = w.at.1 in omega (arith, l)), w.at.2); process = w.process }

module _ (ep : Endpoints) (f : File) (differ : DiffersThere f) (a : NameId) (known : is_in (channels_of f) a ≡ true) where
  module _ (scope : Scope) (e : Environment) (t : KeepsOwners scope e) (c k : Written) (active serve : List Part) (w : IsNamedStart f scope e c.name k.name active serve) (n : IsNewStart f scope c k active serve)
      (h : first_failed (statement_checks f e (Starts c k active serve)) ≡ None) where
    abbrev now : List Entry
    now = e.owners ++ started k.name (active ++ serve)

    service_knows : (q : Part) → Contains serve q → Knows q.process.name (only_in k.name.0) (after_statement f e (Starts c k active serve))
    service_knows q m = record { there = λ s b i. there s b (k.name.0 == s.0) refl i; back = λ s i. back s (eq_flip k.name.0 s.0 ∙ i) }
      where
        there : (s b : NameId) (x : Bool) → (k.name.0 == s.0) ≡ x → holder_of now s b ≡ Some q.process.name → (s.0 == k.name.0) ≡ true
        there s b true j i = eq_flip s.0 k.name.0 ∙ j
        there s b false j i =
            absurd (clash (t.in_scope s b q.process.name (sym (holder_other e.owners k.name (active ++ serve) s b j) ∙ i)) (none_of scope.processes serve w.new q.process.name (part_in_scope serve q m)))

        mine : holder_of now k.name q.role.name ≡ Some q.process.name
        mine =
            holder_new e.owners k.name (active ++ serve) q.role.name (t.held k.name q.role.name w.free)
            ∙ part_holder k.name (active ++ serve) (parts_apart f differ c.name w.service active serve w.is_channel (start_roles f c w.service active serve w.is_channel n.parts)) q (behind_part active serve q m)

        back : (s : NameId) → (k.name.0 == s.0) ≡ true → HasRole now s q.process.name
        back s i = record { role = q.role.name; is = ap (λ x. holder_of now x q.role.name) (sym (same_name k.name s i)) ∙ mine }

    start_uses : (next : Block) → IsFaultless f (scope_with scope (Starts c k active serve)) (after_statement f e (Starts c k active serve)) next → AreNamed f (scope_with scope (Starts c k active serve)) next
        → AreThere f ep (choreography_of next) → is_in scope.sessions a ≡ false → StartUses ep f.procs a (record { session = k.name.0; serve = served_of serve; rest = choreography_of next })
    start_uses next rest m there out = record {
      free = is_free f a known k.name next (scope_with scope (Starts c k active serve)) m here (still_out scope.sessions k.name a out (no_channel f a known k.name n.no_channel));
      uses = λ r p i. (let q = serving_part r p serve i in subst (λ z. UsesHeld ep f.procs z (choreography_of next) (only_in k.name.0)) q.process
          (block_uses f ep differ q.part.process.name next (scope_with scope (Starts c k active serve)) (after_statement f e (Starts c k active serve)) rest m
          (statement_owned f scope e t (Starts c k active serve) w h).keeps there (in_scope q.part q.at) (only_in k.name.0) (service_knows q.part q.at)));
    }
      where
        here : is_in (scope.sessions ++ k.name ∷ []) k.name ≡ true
        here = among_more scope.sessions (k.name ∷ []) k.name ∙ or_left _ _ (or_left _ _ (true_eq k.name.0))

        in_scope : (q : Part) → Contains serve q → is_in (scope.processes ++ map (λ z. z.process.name) serve) q.process.name ≡ true
        in_scope q i = among_more scope.processes (map (λ z. z.process.name) serve) q.process.name ∙ or_left _ _ (part_in_scope serve q i)

  -- In a block without fault after each start of the channel its new processes use its session
  pub starts_use : (b : Block) (scope : Scope) (e : Environment) → IsFaultless f scope e b → AreNamed f scope b → KeepsOwners scope e → AreThere f ep (choreography_of b) → is_in scope.sessions a ≡ false → AllByRecursion (StartUses ep f.procs a) (starts_in a (choreography_of b))
  starts_use (Then place (Starts c k active serve) next) scope e (names, rule, rest) n t there out =
      append_all (StartUses ep f.procs a) (start_at a (node_of (Starts c k active serve)) (choreography_of next)) (starts_in a (choreography_of next)) (here (c.name.0 == a.0))
      (starts_use next (scope_with scope (Starts c k active serve)) (after_statement f e (Starts c k active serve)) rest n.1 (statement_owned f scope e t (Starts c k active serve) names rule).keeps (λ d z m. there d z (inr m))
      (still_out scope.sessions k.name a out (no_channel f a known k.name n.0.no_channel)))
    where
      uses : StartUses ep f.procs a (record { session = k.name.0; serve = served_of serve; rest = choreography_of next })
      uses = start_uses scope e t c k active serve names n.0 rule next rest n.1 (λ d z m. there d z (inr m)) out

      here : (b : Bool) → AllByRecursion (StartUses ep f.procs a) (if b then record { session = k.name.0; serve = served_of serve; rest = choreography_of next } ∷ [] else [])
      here true = (uses, tt)
      here false = tt
  starts_use (Then place (Sends p x q y s) next) scope e (names, rule, rest) n t there out = starts_use next scope (after_statement f e (Sends p x q y s)) rest n.1 (statement_owned f scope e t (Sends p x q y s) names rule).keeps (λ d z m. there d z (inr m)) out
  starts_use (Then place (Selects p q s l) next) scope e (names, rule, rest) n t there out = starts_use next scope (after_statement f e (Selects p q s l)) rest n.1 (statement_owned f scope e t (Selects p q s l) names rule).keeps (λ d z m. there d z (inr m)) out
  starts_use (Then place (Gives p q s given) next) scope e (names, rule, rest) n t there out = starts_use next scope (after_statement f e (Gives p q s given)) rest n.1 (statement_owned f scope e t (Gives p q s given) names rule).keeps (λ d z m. there d z (inr m)) out
  starts_use (Then place (Sets p y x) next) scope e (names, rule, rest) n t there out = starts_use next scope (after_statement f e (Sets p y x)) rest n.1 (statement_owned f scope e t (Sets p y x) names rule).keeps (λ d z m. there d z (inr m)) out
  starts_use (Then place (Asks p y g x z) next) scope e (names, rule, rest) n t there out = starts_use next scope (after_statement f e (Asks p y g x z)) rest n.1 (statement_owned f scope e t (Asks p y g x z) names rule).keeps (λ d z m. there d z (inr m)) out
  starts_use (Then place (Shows p x) next) scope e (names, rule, rest) n t there out = starts_use next scope (after_statement f e (Shows p x)) rest n.1 (statement_owned f scope e t (Shows p x) names rule).keeps (λ d z m. there d z (inr m)) out
  starts_use (Either place p x first second) scope e (names, rule, one, other) n t there out =
      append_all (StartUses ep f.procs a) (starts_in a (choreography_of first)) (starts_in a (choreography_of second)) (starts_use first scope e one n.0 t (λ d z m. there d z (inl m)) out) (starts_use second scope e other n.1 t (λ d z m. there d z (inr m)) out)
  starts_use (Calls place g ps ks) scope e ok n t there out = tt
  starts_use (Ends place) scope e ok n t there out = tt
