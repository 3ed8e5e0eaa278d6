-- The starts of a generated file: the new process of each does the same.
use Rattle.std.proofs.Common.{◌≡◌, ◌<◌, ◌≤◌, ◌==◌, ◌∙◌, ℕ, suc, Bool, true, false, cond, List, [], ◌∷◌, ◌++◌, map, Option, Some, None, refl, sym, ap, subst, arith}
use Rattle.std.specs.Prelude.{All, Contains, codes, if◌then◌else◌}
use Rattle.std.specs.List.{flat_map}
use Rattle.std.proofs.lemmas.List.Elements.{All-nil, All-append}
use Rattle.chor_base.specs.declared.names.NameId.{NameId}
use Rattle.chor_tree.specs.declared.file.File.{File}
use Rattle.chor_tree.specs.declared.file.Named.{Named as Written}
use Rattle.chor_tree.specs.declared.file.Proc.{Proc}
use Rattle.chor_tree.specs.declared.file.ProcParam.{ProcParam}
use Rattle.chor_tree.specs.declared.file.Service.{Service}
use Rattle.chor_tree.specs.declared.tree.NodeId.{NodeId}
use Rattle.chor_tree.specs.Source.{Block, Then, Ends, block_in, blocks_of}
use Rattle.chor_gen.specs.Words.{beginning}
use Rattle.chor_gen.specs.Generated.{call, after_round, odd_round, even_round, is_odd, body_of_round, variable, p_sends, q_sends, r_sends, round_service, fork_service}
use Rattle.chor_semantics.specs.Choreography.{Named, Choreography, put}
use Rattle.endpoint_code.specs.Trees.{CodeTree, Does, Sends, Receives, Ends as Stops}
use Rattle.endpoint_code.specs.Above.{IsAbove}
use Rattle.endpoint_code.proofs.AboveOrder.{above_self}
use Rattle.chor_semantics.specs.Blocks.{choreography_of}
use Rattle.chor_semantics.proofs.Blocks.{block_choreography}
use Rattle.projection.specs.Codes.{param_for, call_as, call_code, proc_named, IsCodeOf}
use Rattle.projection.specs.MergeFaults.{services_of, HasServiceClash}
use Rattle.projection.specs.Projects.{Started, starts_in, body_at, starts_in_procs, starts_of, session_as, IsStartCode, is_some_start}
use Rattle.projection.proofs.OneCode.{of_then, of_calls, of_stops}
use Rattle.generated_files.specs.Generated.{IsGenerated}
use Rattle.generated_files.proofs.Lists.{later_member}
use Rattle.generated_files.proofs.Rounds.{at, IsRound, declared}
use Rattle.generated_files.proofs.Shape.{Bodies, IsKept, file_at, AreRounds, by_shape}
use Rattle.generated_files.proofs.Items.{one_item, all_partners}

module _ (count : ℕ) (few : count ≤ 4000) (w : Bodies) (kept : IsKept count w) (holds : AreRounds count w) where
  abbrev f : File
  f = file_at count w kept

  abbrev n : List ℕ → NameId
  n x = (at count x).name

  -- ---- the starts of channel a

  -- what follows the start of an odd round
  abbrev rest_of : ℕ → Block
  rest_of i = Then beginning (p_sends (at count) i) (Then beginning (q_sends (at count)) (Then beginning (r_sends (at count)) (after_round (at count) count i)))

  abbrev start_of : ℕ → Started
  start_of i = record { session = (n (codes "k")).0; serve = ((n (codes "r")).0, n (codes "C")) ∷ []; rest = choreography_of (rest_of i) }

  abbrev IsStart : Started → Type 0
  IsStart s = (i : ℕ) × (s ≡ start_of i)

  none_after : (b : Bool) (j : ℕ) → starts_in (n (codes "a")) (choreography_of (if b then Ends beginning else call (at count) j)) ≡ []
  none_after true j = refl
  none_after false j = refl

  in_round : (i : ℕ) → All IsStart (starts_in (n (codes "a")) (choreography_of (body_of_round (at count) count i)))
  in_round i = go (is_odd i)
    where
      go : (b : Bool) → All IsStart (starts_in (n (codes "a")) (choreography_of (if b then odd_round (at count) count i else even_round (at count) count i)))
      go true = subst (λ (l : List Started). All IsStart (start_of i ∷ l)) (sym (none_after (i == count) (suc i))) (one_item IsStart (start_of i) (i, refl))
      go false = subst (λ (l : List Started). All IsStart (l ++ l)) (sym (none_after (i == count) (suc i))) (All-nil IsStart)

  in_body : (id : NodeId) (b : Block) → block_in (blocks_of w.tree.nodes) id ≡ b → All IsStart (starts_in (n (codes "a")) (choreography_of b)) → All IsStart (starts_in (n (codes "a")) (body_at f id))
  in_body id b e h =
      subst (λ (c : Choreography). All IsStart (starts_in (n (codes "a")) c)) (ap choreography_of (sym e) ∙ block_choreography w.tree.nodes id) h

  in_procs : (ps : List Proc) → ((p : Proc) → Contains ps p → (i : ℕ) × (i < count) × IsRound count w.tree.nodes p i) → All IsStart (starts_in_procs f (n (codes "a")) ps)
  in_procs [] h = All-nil IsStart
  in_procs (p ∷ ps) h =
      let d = h p (0, omega arith, refl) in
      let r = d.2 in
      All-append IsStart (starts_in (n (codes "a")) (body_at f p.body)) (starts_in_procs f (n (codes "a")) ps)
      (in_body p.body (body_of_round (at count) count (suc d.0)) r.body (in_round (suc d.0)))
      (in_procs ps (λ q m. h q (later_member ps p q m)))

  all_starts : All IsStart (starts_of f (n (codes "a")))
  all_starts =
      All-append IsStart (starts_in_procs f (n (codes "a")) w.procs) (starts_in (n (codes "a")) (body_at f w.body))
      (in_procs w.procs (declared count few w.tree.nodes w.procs holds.procedures))
      (in_body w.body (call (at count) 1) holds.main (All-nil IsStart))

  -- ---- the code of r

  -- it receives a number, and sends it on
  abbrev code : CodeTree
  code = Does (Receives (n (codes "a")) (n (codes "B")) (n (codes "y"))) (Does (Sends (n (codes "a")) (n (codes "A")) (variable (at count) (codes "y"))) Stops)

  -- a call of p and q doesn't pass r
  not_passed : (ps : List ProcParam) → param_for (n (codes "r")) ps (Named (n (codes "p")).0 0 ∷ Named (n (codes "q")).0 0 ∷ []) ≡ None
  not_passed [] = refl
  not_passed (x ∷ []) = refl
  not_passed (x ∷ y ∷ []) = refl
  not_passed (x ∷ y ∷ z ∷ ps) = refl

  passed_none : (g : NameId) (o : Option Proc) → call_code (n (codes "r")) g (Named (n (codes "p")).0 0 ∷ Named (n (codes "q")).0 0 ∷ []) [] o ≡ Stops
  passed_none g None = refl
  passed_none g (Some h) = ap (call_as g h []) (not_passed h.params)

  abbrev put_in : Choreography → Choreography
  put_in c = put (λ p. p) (session_as (n (codes "k")).0 (n (codes "a"))) c

  code_after : (b : Bool) (j : ℕ) (c : CodeTree) → IsCodeOf w.procs (n (codes "r")) (put_in (choreography_of (if b then Ends beginning else call (at count) j))) c → c ≡ Stops
  code_after true j c h = of_stops w.procs (n (codes "r")) h
  code_after false j c h = of_calls w.procs (n (codes "r")) h ∙ passed_none _ (proc_named w.procs _)

  -- after any start r has that code
  code_in : (i : ℕ) (c : CodeTree) → IsCodeOf w.procs (n (codes "r")) (put_in (choreography_of (rest_of i))) c → c ≡ code
  code_in i c h =
      let received = of_then w.procs (n (codes "r")) {q = c} (of_then w.procs (n (codes "r")) {q = c} h) in
      let sent = of_then w.procs (n (codes "r")) received.2 in
      received.1
      ∙ ap (Does (Receives (n (codes "a")) (n (codes "B")) (n (codes "y"))))
      (sent.1 ∙ ap (Does (Sends (n (codes "a")) (n (codes "A")) (variable (at count) (codes "y")))) (code_after (i == count) (suc i) sent.0 sent.2))

  code_is : (s : Started) (c : CodeTree) → IsStart s → IsStartCode w.procs (n (codes "a")) (n (codes "C")) s c → c ≡ code
  code_is s c (i, e) h =
      let g = subst (λ (t : Started). IsStartCode w.procs (n (codes "a")) (n (codes "C")) t c) e h in
      let found : Some (n (codes "r")) ≡ Some g.process = g.serves in
      let same : g.process ≡ n (codes "r") = cc in
      code_in i c (subst (λ (p : NameId). IsCodeOf w.procs p (put_in (choreography_of (rest_of i))) c) same g.code)

  no_clash : HasServiceClash f (at count (codes "a"), at count (codes "C")) → ⊥
  no_clash h =
      h.none code tt (all_partners (IsStartCode w.procs (n (codes "a")) (n (codes "C"))) IsStart (IsAbove code) (λ s c i k. subst (IsAbove code) (sym (code_is s c i k)) (above_self code)) (starts_of f (n (codes "a"))) h.codes all_starts h.each)

  -- ---- the services

  abbrev NoClash : Written × Written → Type 0
  NoClash x = HasServiceClash f x → ⊥

  merge : All NoClash (services_of f)
  merge = go (is_some_start (starts_of f (n (codes "a")))) (is_some_start (starts_of f (n (codes "b"))))
    where
      go : (b c : Bool) → All NoClash (flat_map (λ (s : Service). map (λ r. (s.name, r)) s.serve) (cond b (round_service (at count) ∷ cond c (fork_service (at count) ∷ []) []) (cond c (fork_service (at count) ∷ []) [])))
      go true true = one_item NoClash (at count (codes "a"), at count (codes "C")) no_clash
      go true false = one_item NoClash (at count (codes "a"), at count (codes "C")) no_clash
      go false true = All-nil NoClash
      go false false = All-nil NoClash

pub all_merge : (f : File) (count : ℕ) → IsGenerated f count → All (λ x. HasServiceClash f x → ⊥) (services_of f)
all_merge f count g = by_shape count (λ (h : File). All (λ x. HasServiceClash h x → ⊥) (services_of h)) (λ w kept holds. merge count g.few w kept holds) f g
