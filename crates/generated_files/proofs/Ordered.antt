-- In a generated file p and q are in the sets of both channels, and start each session themselves.
use Rattle.std.proofs.Common.{◌≡◌, ◌<◌, ◌≤◌, ◌==◌, ◌∙◌, ℕ, zero, suc, Bool, true, false, List, [], ◌∷◌, map, refl, sym, ap, subst, arith}
use Rattle.std.specs.Prelude.{All, Contains, codes, if◌then◌else◌}
use Rattle.std.proofs.lemmas.Bool.{both_ways}
use Rattle.std.proofs.lemmas.List.Elements.{All-nil, All-cons}
use Rattle.chor_base.specs.declared.fault.Fault.{Fault}
use Rattle.chor_base.specs.declared.names.NameId.{NameId}
use Rattle.chor_tree.specs.declared.file.File.{File}
use Rattle.chor_tree.specs.declared.file.Proc.{Proc}
use Rattle.chor_tree.specs.declared.file.ProcParam.{ProcParam}
use Rattle.chor_tree.specs.declared.file.Service.{Service}
use Rattle.chor_tree.specs.Source.{Block, Then, Either, Ends, block_in, blocks_of}
use Rattle.chor_gen.specs.Words.{beginning}
use Rattle.chor_gen.specs.Generated.{call, is_odd, body_of_round, start_round, start_fork, p_sends, q_sends, r_sends, tells, is_less}
use Rattle.chor_semantics.specs.Choreography.{Named}
use Rattle.chor_semantics.specs.Sources.{procedure_from, procedures_of}
use Rattle.chor_semantics.specs.Blocks.{choreography_of}
use Rattle.chor_semantics.proofs.Blocks.{block_choreography}
use Rattle.well_formed.specs.Linear.{Members, ParameterSets, everyone, given}
use Rattle.linearity.specs.Linear.{AreOrdered, ArePassed, set_of, MeetsCalls, IsGreatest}
use Rattle.linearity.specs.OrderFaults.{IsUnorderedStart, here, after, first, second, IsUnorderedIn, in_main, in_a_procedure, main_of, IsOrderFault}
use Rattle.generated_files.specs.Generated.{IsGenerated}
use Rattle.generated_files.proofs.Lists.{later_member}
use Rattle.generated_files.proofs.Rounds.{at, IsRound, declared}
use Rattle.generated_files.proofs.Shape.{Bodies, IsKept, file_at, AreRounds, by_shape}

-- where all starts are ordered none isn't
no_start : {a : NameId} {x : Fault} {m : Members} {b : Block} → AreOrdered a m (choreography_of b) → IsUnorderedStart a x m b → ⊥
no_start o (here h e) = both_ways _ h o.0
no_start o (after u) = no_start o.1 u
no_start o (first u) = no_start o.0 u
no_start o (second u) = no_start o.1 u

-- all parameters of all procedures
abbrev all_sets : ParameterSets
all_sets = λ g i. true

module _ (count : ℕ) (few : count ≤ 4000) (w : Bodies) (kept : IsKept count w) (holds : AreRounds count w) where
  abbrev f : File
  f = file_at count w kept

  -- channel a, and channel b
  abbrev channel : Bool → NameId
  channel b = (at count (if b then codes "a" else codes "b")).name

  -- p and q
  abbrev two : Members
  two = given (λ i. true) 0 (Named (at count (codes "p")).name.0 0 ∷ Named (at count (codes "q")).name.0 0 ∷ [])

  -- the statements of a round, before a tail
  abbrev odd_with : ℕ → Block → Block
  odd_with i tail = Then beginning (start_round (at count)) (Then beginning (p_sends (at count) i) (Then beginning (q_sends (at count)) (Then beginning (r_sends (at count)) tail)))

  abbrev told_with : List ℕ → Block → Block
  told_with l tail = Then beginning (tells (at count) l) tail

  abbrev even_with : ℕ → Block → Block
  even_with i tail = Then beginning (start_fork (at count)) (Either beginning (at count (codes "p")) (is_less (at count) i) (told_with (codes "more") tail) (told_with (codes "less") tail))

  abbrev tail_of : Bool → ℕ → Block
  tail_of b j = if b then Ends beginning else call (at count) j

  abbrev round_with : Bool → ℕ → Block → Block
  round_with odd i tail = if odd then odd_with i tail else even_with i tail

  passed_in : (c odd last : Bool) (i : ℕ) → ArePassed (channel c) all_sets two (choreography_of (round_with odd i (tail_of last (suc i))))
  passed_in true true true i = tt
  passed_in true true false i = refl
  passed_in true false true i = (tt, tt)
  passed_in true false false i = (refl, refl)
  passed_in false true true i = tt
  passed_in false true false i = refl
  passed_in false false true i = (tt, tt)
  passed_in false false false i = (refl, refl)

  ordered_in : (c odd last : Bool) (i : ℕ) → AreOrdered (channel c) two (choreography_of (round_with odd i (tail_of last (suc i))))
  ordered_in true true true i = (refl, (refl, (refl, (refl, tt))))
  ordered_in true true false i = (refl, (refl, (refl, (refl, tt))))
  ordered_in true false true i = (refl, ((refl, tt), (refl, tt)))
  ordered_in true false false i = (refl, ((refl, tt), (refl, tt)))
  ordered_in false true true i = (refl, (refl, (refl, (refl, tt))))
  ordered_in false true false i = (refl, (refl, (refl, (refl, tt))))
  ordered_in false false true i = (refl, ((refl, tt), (refl, tt)))
  ordered_in false false false i = (refl, ((refl, tt), (refl, tt)))

  -- the members where a procedure with these parameters begins
  abbrev members_of : List ProcParam → Members
  members_of ps = given (λ i. true) 0 (map (λ x. Named x.0 0) (map (λ q. q.name.name) ps))

  -- ---- the sets

  passed_by : (c : Bool) (p : Proc) (i : ℕ) → IsRound count w.tree.nodes p i → ArePassed (channel c) all_sets (members_of p.params) (procedure_from w.tree.nodes p).body
  passed_by c p i r =
      subst (λ (ps : List ProcParam). ArePassed (channel c) all_sets (members_of ps) (procedure_from w.tree.nodes p).body) (sym r.params)
      (subst (ArePassed (channel c) all_sets two) (ap choreography_of (sym r.body) ∙ block_choreography w.tree.nodes p.body)
      (passed_in c (is_odd (suc i)) (suc i == count) (suc i)))

  passed_in_all : (c : Bool) (ps : List Proc) → ((p : Proc) → Contains ps p → (i : ℕ) × (i < count) × IsRound count w.tree.nodes p i)
      → All (λ h. ArePassed (channel c) all_sets (set_of all_sets h) h.body) (map (procedure_from w.tree.nodes) ps)
  passed_in_all c [] h = All-nil (λ g. ArePassed (channel c) all_sets (set_of all_sets g) g.body)
  passed_in_all c (p ∷ ps) h =
      let d = h p (0, omega arith, refl) in
      All-cons (λ g. ArePassed (channel c) all_sets (set_of all_sets g) g.body) (procedure_from w.tree.nodes p) (map (procedure_from w.tree.nodes) ps)
      (passed_by c p d.0 d.2) (passed_in_all c ps (λ q m. h q (later_member ps p q m)))

  all_meet : (c : Bool) → MeetsCalls (procedures_of f) (main_of f) (channel c) all_sets
  all_meet c = record {
    in_procs = passed_in_all c w.procs (declared count few w.tree.nodes w.procs holds.procedures);
    in_main = subst (ArePassed (channel c) all_sets everyone) (ap choreography_of (sym holds.main) ∙ block_choreography w.tree.nodes w.body) refl;
  }

  -- ---- the starts

  ordered_by : (c : Bool) (x : Fault) (p : Proc) (i : ℕ) → IsRound count w.tree.nodes p i → IsUnorderedStart (channel c) x (members_of p.params) (block_in (blocks_of w.tree.nodes) p.body) → ⊥
  ordered_by c x p i r u =
      no_start {b = round_with (is_odd (suc i)) (suc i) (tail_of (suc i == count) (suc (suc i)))} (ordered_in c (is_odd (suc i)) (suc i == count) (suc i))
      (subst (λ (ps : List ProcParam). IsUnorderedStart (channel c) x (members_of ps) (body_of_round (at count) count (suc i))) r.params
      (subst (IsUnorderedStart (channel c) x (members_of p.params)) r.body u))

  no_unordered : (c : Bool) (x : Fault) → IsUnorderedIn f (channel c) all_sets x → ⊥
  no_unordered c x (in_main u) = no_start {b = call (at count) 1} tt (subst (IsUnorderedStart (channel c) x everyone) holds.main u)
  no_unordered c x (in_a_procedure {h = p} m u) =
      let d = declared count few w.tree.nodes w.procs holds.procedures p m in
      ordered_by c x p d.0 d.2 u

  of_channel : (c : Bool) (x : Fault) (sets : ParameterSets) → IsGreatest (procedures_of f) (main_of f) (channel c) sets → IsUnorderedIn f (channel c) sets x → ⊥
  of_channel c x sets g u =
      let all : (h : NameId) (i : ℕ) → sets h i ≡ true = λ h i. g.greatest all_sets (all_meet c) h i refl in
      let same : sets ≡ all_sets = λ j h i. all h i j in
      no_unordered c x (subst (λ (s : ParameterSets). IsUnorderedIn f (channel c) s x) same u)

  ordered : (x : Fault) → ¬ IsOrderFault f x
  ordered x o = go o.service o.declared o.sets o.greatest o.unordered
    where
      go : (s : Service) → Contains f.services s → (sets : ParameterSets) → IsGreatest (procedures_of f) (main_of f) s.name.name sets → IsUnorderedIn f s.name.name sets x → ⊥
      go s (zero, l, e) sets g u =
          of_channel true x sets (subst (λ (t : Service). IsGreatest (procedures_of f) (main_of f) t.name.name sets) (sym e) g) (subst (λ (t : Service). IsUnorderedIn f t.name.name sets x) (sym e) u)
      go s (suc zero, l, e) sets g u =
          of_channel false x sets (subst (λ (t : Service). IsGreatest (procedures_of f) (main_of f) t.name.name sets) (sym e) g) (subst (λ (t : Service). IsUnorderedIn f t.name.name sets x) (sym e) u)
      go s (suc (suc j), l, e) sets g u = absurd (omega (arith, l))

pub all_ordered : (f : File) (count : ℕ) → IsGenerated f count → (x : Fault) → ¬ IsOrderFault f x
all_ordered f count g = by_shape count (λ (h : File). (x : Fault) → ¬ IsOrderFault h x) (λ w kept holds. ordered count g.few w kept holds) f g
