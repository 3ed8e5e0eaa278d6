-- The sessions of each run of a typed file conform to their protocols.
use Rattle.std.proofs.Common.{◌≡◌, ℕ, suc, ◌≤◌, List, [], ◌∷◌, map, length, refl, sym, ap, ◌∙◌, subst, Some, None, Option, Bool, true, false, ◌||◌, inl, inr, ◌⊎◌, arith}
use Rattle.std.proofs.lemmas.Bool.Decides.{nat_tests}
use Rattle.std.specs.Prelude.{nat_lt}
use Rattle.std.specs.FinMap as fin
use Rattle.chor_base.specs.declared.names.NameId.{NameId}
use Rattle.chor_base.specs.declared.event.Event.{Event}
use Rattle.chor_base.specs.Meaning.{Hosts}
use Rattle.chor_base.specs.NameMap.{Variables}
use Rattle.chor_tree.specs.declared.file.File.{File}
use Rattle.chor_tree.specs.declared.file.Named.{Named as Written}
use Rattle.chor_tree.specs.declared.file.ProcParam.{ProcParam}
use Rattle.chor_tree.specs.declared.file.SessionParam.{SessionParam}
use Rattle.chor_tree.specs.Source.{body_of as body_at}
use Rattle.chor_tree.specs.Names.{scope_of_main, procedure_of}
use Rattle.chor_tree.specs.declared.file.Proc.{Proc}
use Rattle.chor_semantics.specs.Choreography.{Ref, Named, ref_eq, among, Choreography, Then, Either, Calls, Ends, Starts, Communicates, InTransit, Alone, instance_of}
use Rattle.chor_semantics.specs.Sources.{Configuration, procedures_of, first_configuration, tree_in, trees_of, numbered}
use Rattle.chor_semantics.specs.Steps.{procedure_named, body_of, bound_all}
use Rattle.chor_semantics.specs.Runs.{IsRunTo, IsTerminated}
use Rattle.well_formed.proofs.References.{same_ref}
use Rattle.typing_rules.specs.Environment.{at_main}
use Rattle.typed_sources.specs.Context.{Context}
use Rattle.typed_sources.specs.Typing.{IsTypedIn, AllEnded, Reaches}
use Rattle.typed_sources.proofs.Small.{on_or_off}
use Rattle.typed_sources.specs.History.{nothing_told, told_after, SessionsConform, SessionsEnd}
use Rattle.typed_sources.proofs.NeverStuck.{IsBare, never_stuck}
use Rattle.well_formed.specs.Asked.{AllAsked, CanAnswer, IsAnswered}
use Rattle.typed_sources.specs.Going.{CanStep, IsNoCall}
use Rattle.well_formed.proofs.Asked.{asked_bodies, asked_instance, asked_along}
use Rattle.typed_sources.proofs.Roots.{IsRoot}
use Rattle.typed_sources.proofs.Conforming.{Holds, run_holds, run_told, conforms, conforms_and_ended}
use Rattle.typed_sources.specs.Stands.{kind_in, states_in}
use Rattle.typed_sources.proofs.Statements.{ProtocolsFit}
use Rattle.typed_sources.specs.Calls.{AreAsDeclared, IsTypedCall}
use Rattle.typed_sources.proofs.Sources.{IsFaultless, ProceduresFit, body_typed, named_same}
use Rattle.typed_sources.proofs.Mains.{first_context, main_typed, calls_stay}

same_name : (a b : NameId) → Some a ≡ Some b → a ≡ b
same_name a b h = cc

abbrev empty_vars : Variables
empty_vars = fin.empty

module _ (f : File) where
  -- a session that is passed has reached the state of its parameter
  passed_reached : (e : Context) (qs : List ProcParam) (ps : List Ref) (rs : List SessionParam) (ss : List Ref) → length ss ≡ length rs → AreAsDeclared f e qs ps rs ss
      → (t : Ref) (p : NameId) → e.protocol t ≡ Some p → among t ss ≡ true → (i : ℕ) × Reaches (states_in f p) (e.done t) i
  passed_reached e qs ps rs [] l a t p i h = absurd cc
  passed_reached e qs ps [] (s ∷ ss) l a t p i h = absurd (omega (arith, l))
  passed_reached e qs ps (r ∷ rs) (s ∷ ss) l a t p i h = go (ref_eq t s) refl h (passed_reached e qs ps rs ss (omega (arith, l)) a.1 t p i)
    where
      go : (b : Bool) → ref_eq t s ≡ b → (b || among t ss) ≡ true → (among t ss ≡ true → (j : ℕ) × Reaches (states_in f p) (e.done t) j) → (j : ℕ) × Reaches (states_in f p) (e.done t) j
      go false j k ih = ih k
      go true j k ih =
          let same : t ≡ s = same_ref t s j in
          let kind : r.protocol.name ≡ p = same_name r.protocol.name p (sym a.0.protocol ∙ ap e.protocol (sym same) ∙ i) in
          (a.0.reached.place, subst (λ q. Reaches (states_in f q) (e.done t) a.0.reached.place) kind (subst (λ u. Reaches (states_in f r.protocol.name) (e.done u) a.0.reached.place) (sym same) a.0.reached.reaches))

  at_calls : (e : Context) (h : NameId) (k : ℕ) (ps ss : List Ref) → IsTypedCall f e h k ps ss → (t : Ref) (p : NameId) → e.protocol t ≡ Some p → (i : ℕ) × Reaches (states_in f p) (e.done t) i
  at_calls e h k ps ss w t p i = elim (w.others t p i) [
    | inl m ↦ passed_reached e w.procedure.params ps w.procedure.sessions ss w.many_sessions w.fit t p i m
    | inr v ↦ (v.last, v.reaches)
  ]

  module _ (good : ProtocolsFit f) (keep : ProceduresFit f good) where
    -- a call that passes nobody passes no session
    no_one : (e : Context) (h : NameId) (k : ℕ) (ss : List Ref) → IsTypedCall f e h k [] ss → AllEnded (states_in f) e
    no_one e h k ss w t p i = elim (w.others t p i) [ inl m ↦ absurd (none ss (w.many_sessions ∙ (keep.proper h w.procedure w.is).filled (sym w.many)) m) | inr v ↦ v ]
      where
        none : (ss : List Ref) → length ss ≡ 0 → among t ss ≡ true → ⊥
        none [] l m = cc
        none (s ∷ ss) l m = omega (arith, l)

    nothing : {A : Type 0} (x : A) → None ≡ Some x → ⊥
    nothing x h = cc

    above : (m n : ℕ) → n ≤ m → nat_lt m n ≡ false
    above m n h = grind (arith, nat_tests)

    -- where a source begins
    first_root : IsRoot (first_configuration f).vars 0 (first_context (length f.processes))
    first_root = record {
      held = record { session = λ s r q i. absurd (nothing q i); process = λ s r q i. absurd (nothing q i) };
      fresh = record { session = λ n l. refl; process = λ m l. above m (length f.processes) (omega (arith, long f.processes, l)) };
      agrees = λ p x s i. absurd (nothing s i);
      unset = λ m l x. refl;
      idle = λ m r l. refl;
      names = λ x d. (refl, refl);
    }
      where
        long : (ps : List Written) → length (map (λ (p : Written). empty_vars) ps) ≡ length ps
        long [] = refl
        long (p ∷ ps) = ap suc (long ps)

    module _ (ok : IsFaultless f (scope_of_main f) at_main (body_at f f.body)) (hosts : Hosts) where
      pub first_holds : Holds (kind_in f) (states_in f) (IsTypedCall f) (procedures_of f) hosts (body_typed f good keep) (calls_stay f) (first_configuration f) nothing_told
      first_holds = record { context = first_context (length f.processes); root = first_root; typed = main_typed f good ok; fits = record { protocol = λ n. refl; done = λ n r. refl } }

      -- Each run of a typed file conforms
      pub file_conforms : (capacity : Option ℕ) (h : List Event) (last : Configuration) → IsRunTo f hosts capacity h last → SessionsConform (kind_in f) (states_in f) h
      file_conforms capacity h last r =
          let w = run_holds (kind_in f) (states_in f) (IsTypedCall f) (procedures_of f) hosts (body_typed f good keep) (calls_stay f) h (first_configuration f) last nothing_told r.leads first_holds in (
            run_told (kind_in f) (states_in f) (IsTypedCall f) (procedures_of f) hosts (body_typed f good keep) (calls_stay f) h (first_configuration f) last nothing_told r.leads first_holds,
            conforms (kind_in f) (states_in f) (IsTypedCall f) (procedures_of f) hosts (body_typed f good keep) (calls_stay f) at_calls no_one last (told_after (kind_in f) nothing_told h) w,
          )

      -- and where nothing is left to happen, its sessions have ended
      pub file_ends : (capacity : Option ℕ) (h : List Event) (last : Configuration) → IsRunTo f hosts capacity h last → IsTerminated (procedures_of f) last.tree → SessionsEnd (kind_in f) (states_in f) h
      file_ends capacity h last r q =
          let w = run_holds (kind_in f) (states_in f) (IsTypedCall f) (procedures_of f) hosts (body_typed f good keep) (calls_stay f) h (first_configuration f) last nothing_told r.leads first_holds in
          conforms_and_ended (kind_in f) (states_in f) (IsTypedCall f) (procedures_of f) hosts (body_typed f good keep) (calls_stay f) at_calls no_one last (told_after (kind_in f) nothing_told h) w q

      -- ---- something is always left to happen, or the end

      pub bare : (c : Configuration) (e : Context) → IsRoot c.vars c.sid e → IsBare e
      bare c e r = record { no_process = λ x d. (r.names x d).0; no_session = λ x d a. go x d a (e.holder (Named x d) a) refl }
        where
          go : (x d : ℕ) (a : NameId) (o : Option Ref) → e.holder (Named x d) a ≡ o → o ≡ None
          go x d a None i = refl
          go x d a (Some q) i = absurd (on_or_off (e.protocol (Named x d)) (r.names x d).1 (r.held.session (Named x d) a q i))

      -- a body that doesn't begin with a call, with arguments
      no_call : (k : ℕ) (u v : ℕ → Ref) (c : Choreography) → IsNoCall c → IsNoCall (instance_of k u v c)
      no_call k u v (Then (Starts ch d s active serve) rest) n = tt
      no_call k u v (Then (Communicates s p a q b w) rest) n = tt
      no_call k u v (Then (InTransit s a b w q) rest) n = tt
      no_call k u v (Then (Alone p o) rest) n = tt
      no_call k u v (Either p x c d) n = tt
      no_call k u v (Calls h l [] ss) n = tt
      no_call k u v (Calls h l (p ∷ ps) ss) n = elim n [ ]
      no_call k u v Ends n = tt

      module _ (guarded : (h : NameId) (p : Proc) → procedure_of f h ≡ Some p → IsNoCall (tree_in (trees_of f.tree.nodes) p.body))
          (answered : IsAnswered f hosts) where
        pub bodies_asked : (h : NameId) (k : ℕ) (ps ss : List Ref) (c : Choreography) → body_of (procedure_named (procedures_of f) h) k ps ss ≡ Some c → AllAsked (CanAnswer hosts) c
        bodies_asked = asked_bodies (CanAnswer hosts) (procedures_of f) answered.procedures

        pub called_body : (e : Context) (h : NameId) (k : ℕ) (ps ss : List Ref) → IsTypedCall f e h k ps ss
            → (b : Choreography) × (body_of (procedure_named (procedures_of f) h) k ps ss ≡ Some b) × IsNoCall b × AllAsked (CanAnswer hosts) b × IsTypedIn (kind_in f) (states_in f) (IsTypedCall f) e b
        called_body e h k ps ss w =
            let p = w.procedure in
            let b = instance_of (suc k) (bound_all (suc k) (map (λ q. q.name.name) p.params) ps) (bound_all (suc k) (map (λ q. q.name.name) p.sessions) ss) (tree_in (trees_of f.tree.nodes) p.body) in
            let is = ap (λ o. body_of o k ps ss) (named_same f good f.tree.nodes f.procs h p w.is) in
            (b, is, no_call (suc k) _ _ (tree_in (trees_of f.tree.nodes) p.body) (guarded h p w.is), bodies_asked h k ps ss b is, body_typed f good keep e h k ps ss b is w)

        -- After each run nothing is left to happen, or the node at the head can happen
        pub file_goes : (capacity : Option ℕ) (h : List Event) (last : Configuration) → IsRunTo f hosts capacity h last → IsTerminated (procedures_of f) last.tree ⊎ CanStep (procedures_of f) hosts last.vars last.sid last.tree
        file_goes capacity h last r =
            let w = run_holds (kind_in f) (states_in f) (IsTypedCall f) (procedures_of f) hosts (body_typed f good keep) (calls_stay f) h (first_configuration f) last nothing_told r.leads first_holds in
            never_stuck (kind_in f) (states_in f) (IsTypedCall f) (procedures_of f) hosts last.vars last.sid w.context (bare last w.context w.root) last.tree
            (asked_along (CanAnswer hosts) (procedures_of f) hosts bodies_asked h (first_configuration f) last r.leads (asked_instance (CanAnswer hosts) 0 (numbered 0 f.processes) (λ y. Named y 0) (tree_in (trees_of f.tree.nodes) f.body) answered.main)) w.typed (called_body w.context)
