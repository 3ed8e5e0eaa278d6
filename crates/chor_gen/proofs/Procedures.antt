-- Procedures one after another.
use Rattle.std.proofs.Common.{◌≡◌, ◌<◌, ◌≤◌, ◌+◌, ◌&&◌, ◌∙◌, ℕ, suc, Bool, true, List, [], ◌∷◌, ◌++◌, length, map, ap, refl, sym, subst, nat_lt, arith, length-append}
use Rattle.std.specs.List.{AllByRecursion, list_all}
use Rattle.std.proofs.lemmas.Bool.{lt-ltb, and_parts}
use Rattle.std.proofs.lemmas.List.{map-append}
use Rattle.std.proofs.lemmas.List.Folds.{list_all-append}
use Rattle.std.proofs.lemmas.Bool.Decides.{nat_tests}
use Rattle.chor_tree.specs.declared.header.Header.{Header}
use Rattle.chor_tree.specs.Headers.{no_header, header_kept}
use Rattle.chor_tree.specs.declared.file.Proc.{Proc}
use Rattle.chor_tree.specs.declared.file.Named.{Named}
use Rattle.chor_tree.specs.declared.file.Service.{Service}
use Rattle.chor_tree.specs.declared.file.SessionParam.{SessionParam}
use Rattle.chor_tree.specs.declared.tree.Node.{Node}
use Rattle.chor_tree.specs.declared.tree.NodeId.{NodeId}
use Rattle.chor_tree.specs.Kept.{has_name, has_text, named_there, names_there, process_param_there, session_param_there, protocol_there, service_there, proc_there, proc_filled, comes_after_items, form_there, form_filled, followers_in, times, Keeps}
use Rattle.chor_tree.specs.Source.{Source, Procedure, Block, block_in, blocks_of, procedure_of}
use Rattle.chor_tree.specs.Protocols.{Protocol, has_items}
use Rattle.chor_gen.specs.Words.{named_in, number_in, procedure_word}
use Rattle.chor_gen.specs.Generated.{parameters, procedure, round, fork, round_service, fork_service, p_and_q, call, generated}
use Rattle.chor_gen.specs.Making.{form_kept, nodes_kept, below, Adds, MakesProcedure, begins_of, Made}
use Rattle.chor_gen.proofs.Tables.{number_there}
use Rattle.chor_gen.proofs.Nodes.{block_stays, times_append, times_first, followers_append}
use Rattle.chor_gen.proofs.Heads.{two, three, five, parameters_there, both_there, round_there, fork_there, round_service_there, fork_service_there}

AreThere : List Node → List Proc → Type 0
AreThere nodes procs = AllByRecursion (λ p. p.body.0 < length nodes) procs

procedures_stay : (old new added : List Node) (ps : List Proc) → new ≡ old ++ added → AllByRecursion (λ p. p.body.0 < length old) ps → map (procedure_of new) ps ≡ map (procedure_of old) ps
procedures_stay old new added [] made h = refl
procedures_stay old new added (p ∷ ps) made h =
    let same : procedure_of new p ≡ procedure_of old p = ap (λ (b : Block). let q : Procedure = record { name = p.name; params = p.params; sessions = p.sessions; body = b } in q) (block_stays old new added p.body made h.0) in
    λ i. same i ∷ procedures_stay old new added ps made h.1 i

all_there : (a b : ℕ) (ps : List Proc) (p : Proc) → a ≤ b → p.body.0 < b → AllByRecursion (λ p. p.body.0 < a) ps → AllByRecursion (λ p. p.body.0 < b) (ps ++ p ∷ [])
all_there a b [] p le lt h = (lt, tt)
all_there a b (q ∷ ps) p le lt h = let here = h.0 in (omega arith, all_there a b ps p le lt h.1)

pub made_none : {names : List (List ℕ)} {count : ℕ} {nodes : List Node} {procs : List Proc} → nodes ≡ [] → procs ≡ [] → Made names count nodes procs 0
made_none {names} {count} {nodes} {procs} e f =
    subst (λ (ps : List Proc). Made names count nodes ps 0) (sym f) (subst (λ (ns : List Node). Made names count ns [] 0) (sym e) (record {
      procedures = refl;
      there = tt;
      heads = refl;
      filled = refl;
      kept = refl;
      once = λ id. omega (arith, nothing id);
    }))
  where
    nothing : (id : NodeId) → below id 0 ≡ 0
    nothing id = grind (arith, nat_tests)

head_there : (names : List (List ℕ)) (i : ℕ) (p : Proc) → 0 < length names → p.name ≡ named_in names (procedure_word i) → p.params ≡ parameters (named_in names) i → p.sessions ≡ [] → proc_there (has_name names) p ≡ true
head_there names i p some name params sessions =
    three (ap (named_there (has_name names)) name ∙ number_there names (procedure_word i) some)
    (ap (list_all (process_param_there (has_name names))) params ∙ parameters_there (has_name names) (named_in names) (λ w. number_there names w some) i)
    (ap (list_all (session_param_there (has_name names))) sessions)

made_suc : {names : List (List ℕ)} {count i : ℕ} {old new : List Node} {before after : List Proc} {p : Proc} → 0 < length names → Made names count old before i → MakesProcedure names old new count (suc i) p → after ≡ before ++ p ∷ [] → Made names count new after (suc i)
made_suc {names} {count} {i} {old} {new} {before} {after} {p} some m d more =
    let longer = ap length d.adds.parts in
    subst (λ (ps : List Proc). Made names count new ps (suc i)) (sym more) (record {
      procedures = map-append (procedure_of new) before (p ∷ []) ∙ (λ j. (procedures_stay old new d.adds.added before d.adds.parts m.there ∙ m.procedures) j ++ this j ∷ []);
      there = all_there (length old) (length new) before p (omega (arith, length-append old d.adds.added)) d.adds.there m.there;
      heads = list_all-append (proc_there (has_name names)) before (p ∷ []) ∙ two m.heads (two (head_there names (suc i) p some d.name d.params d.sessions) refl);
      filled = list_all-append proc_filled before (p ∷ []) ∙ two m.filled (two (filled d.params d.sessions) refl);
      kept = ap (nodes_kept names) d.adds.parts ∙ (list_all-append (λ (o : Node). form_kept names o.form) old d.adds.added ∙ two m.kept d.adds.kept);
      once = λ id. once id;
    })
  where
    this : procedure_of new p ≡ procedure (named_in names) count (suc i)
    this = λ j. record { name = d.name j; params = d.params j; sessions = d.sessions j; body = d.adds.block j }

    filled : p.params ≡ parameters (named_in names) (suc i) → p.sessions ≡ [] → proc_filled p ≡ true
    filled e f = λ j. comes_after_items (e j) (f j) && list_all (λ (k : SessionParam). has_items k.holders) (f j)

    once : (id : NodeId) → times id (begins_of (before ++ p ∷ []) ++ followers_in new) ≡ below id (length new)
    once id =
        let begins = ap (λ (l : List NodeId). times id (l ++ followers_in new)) (map-append (λ (q : Proc). q.body) before (p ∷ [])) in
        let follows = ap (times id) (ap followers_in d.adds.parts ∙ followers_append old d.adds.added) in
        omega (arith, begins, follows, times_append id (begins_of before ++ p.body ∷ []) (followers_in new), times_append id (begins_of before) (p.body ∷ []), times_append id (followers_in old) (followers_in d.adds.added), m.once id, times_append id (begins_of before) (followers_in old), d.adds.once id, times_first id p.body (followers_in d.adds.added), times_first id p.body [])

pub made_more : {names : List (List ℕ)} {count i : ℕ} {old new : List Node} {before after : List Proc} {p : Proc} → 0 < length names → Made names count old before i → MakesProcedure names old new count (i + 1) p → after ≡ before ++ p ∷ [] → Made names count new after (i + 1)
made_more {names} {count} {i} {old} {new} {before} {after} {p} some m d more =
    let next : i + 1 ≡ suc i = omega arith in
    subst (λ (k : ℕ). Made names count new after k) (sym next) (made_suc some m (subst (λ (k : ℕ). MakesProcedure names old new count k p) next d) more)

-- ---- the whole file

-- what the file is made of: its parts are those of the generated source
pub record IsWhole (names : List (List ℕ)) (count : ℕ) (header : Header) (protocols : List Protocol) (services : List Service) (procs : List Proc) (processes : List Named) (old new : List Node) (body : NodeId) : Type 0 where
  pub some : 0 < length names
  pub header_is : header ≡ no_header
  pub protocols_are : protocols ≡ round (named_in names) ∷ fork (named_in names) ∷ []
  pub services_are : services ≡ round_service (named_in names) ∷ fork_service (named_in names) ∷ []
  pub made : Made names count old procs count
  pub processes_are : processes ≡ p_and_q (named_in names)
  pub adds : Adds names old new body (call (named_in names) 1)

module _ {names : List (List ℕ)} {count : ℕ} {header : Header} {protocols : List Protocol} {services : List Service} {procs : List Proc} {processes : List Named} {old new : List Node} {body : NodeId} (w : IsWhole names count header protocols services procs processes old new body) where
  abbrev pub source : Source
  source = record {
    header = header;
    items = record { protocols = protocols; services = services; procedures = map (procedure_of new) procs };
    processes = processes;
    body = block_in (blocks_of new) body;
  }

  pub source_is : source ≡ generated (named_in names) count
  source_is =
      let made = procedures_stay old new w.adds.added procs w.adds.parts w.made.there ∙ w.made.procedures in
      λ i. record {
        header = w.header_is i;
        items = record { protocols = w.protocols_are i; services = w.services_are i; procedures = made i };
        processes = w.processes_are i;
        body = w.adds.block i;
      }

  known : (v : List ℕ) → has_name names (number_in names v) ≡ true
  known v = number_there names v w.some

  nodes_good : nodes_kept names new ≡ true
  nodes_good = ap (nodes_kept names) w.adds.parts ∙ (list_all-append (λ (o : Node). form_kept names o.form) old w.adds.added ∙ two w.made.kept w.adds.kept)

  all_both : {A : Type 0} (p q : A → Bool) (xs : List A) → list_all (λ x. p x && q x) xs ≡ true → (list_all p xs ≡ true) × (list_all q xs ≡ true)
  all_both p q [] h = (refl, refl)
  all_both p q (x ∷ xs) h =
      let e = and_parts _ _ h in
      let f = and_parts _ _ e.0 in
      let k = all_both p q xs e.1 in
      (two f.0 k.0, two f.1 k.1)

  begin_there : (n : ℕ) (ps : List Proc) → AllByRecursion (λ p. p.body.0 < n) ps → n ≤ length new → list_all (λ (b : NodeId). nat_lt b.0 (length new)) (begins_of ps) ≡ true
  begin_there n [] h le = refl
  begin_there n (p ∷ ps) h le = let here = h.0 in two (lt-ltb p.body.0 (length new) (omega arith)) (begin_there n ps h.1 le)

  at_most_one : (id : NodeId) (n : ℕ) → below id n ≤ 1
  at_most_one id n = grind (arith, nat_tests)

  once : (id : NodeId) → times id ((body ∷ begins_of procs) ++ followers_in new) ≤ 1
  once id =
      let follows = ap (times id) (ap followers_in w.adds.parts ∙ followers_append old w.adds.added) in
      omega (arith, follows, times_append id (body ∷ begins_of procs) (followers_in new), times_first id body (begins_of procs), times_append id (followers_in old) (followers_in w.adds.added), w.made.once id, times_append id (begins_of procs) (followers_in old), w.adds.once id, times_first id body (followers_in w.adds.added), at_most_one id (length new))

  -- with no text
  kept_alone : Keeps header names [] protocols services procs processes new body
  kept_alone =
      let n = has_name names in
      let at = named_in names in
      let nodes = all_both (λ (o : Node). form_there n (has_text []) o.form) (λ (o : Node). form_filled o.form) new nodes_good in
      let longer = ap length w.adds.parts in
      record {
        header = ap header_kept w.header_is;
        numbered = five (ap (list_all (protocol_there n)) w.protocols_are ∙ two (round_there n at known) (two (fork_there n at known) refl))
            (ap (list_all (service_there n)) w.services_are ∙ two (round_service_there n at known) (two (fork_service_there n at known) refl))
            w.made.heads (ap (names_there n) w.processes_are ∙ both_there n at known) nodes.0;
        filled = three (ap (list_all (λ (s : Service). has_items s.active)) w.services_are) w.made.filled nodes.1;
        begin = two (lt-ltb body.0 (length new) w.adds.there) (begin_there (length old) procs w.made.there (omega (arith, length-append old w.adds.added)));
        once = λ id. once id;
      }

  pub file_kept : (texts : List (List ℕ)) → texts ≡ [] → Keeps header names texts protocols services procs processes new body
  file_kept texts e = subst (λ (ts : List (List ℕ)). Keeps header names ts protocols services procs processes new body) (sym e) kept_alone
