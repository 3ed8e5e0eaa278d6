-- What files keep that were read.
use Rattle.std.proofs.Common.{◌≡◌, ◌<◌, ◌≤◌, ◌&&◌, nat_lt, ℕ, Bool, true, false, List, [], ◌∷◌, ◌++◌, length, map, ap, refl, sym, ◌∙◌, subst, arith}
use Rattle.std.specs.List.{AllByRecursion, list_all}
use Rattle.std.proofs.lemmas.Bool.{lt-ltb, and_parts}
use Rattle.std.proofs.lemmas.List.Folds.{list_all-map}
use Rattle.chor_base.specs.declared.names.NameId.{NameId}
use Rattle.chor_lexer.specs.declared.token.Token.{Token}
use Rattle.chor_lexer.proofs.Each.{each_append, each_front, each_back}
use Rattle.chor_base.specs.declared.rule.Rule.TheVariants.{P3}
use Rattle.chor_tree.specs.declared.header.Header.{Header}
use Rattle.chor_tree.specs.Headers.{is_capacity, header_kept}
use Rattle.chor_tree.specs.declared.file.Proc.{Proc}
use Rattle.chor_tree.specs.declared.tree.Node.{Node}
use Rattle.chor_tree.specs.declared.tree.NodeId.{NodeId}
use Rattle.chor_tree.specs.Source.{Procedure, Source, block_in, blocks_of, procedure_of}
use Rattle.chor_tree.specs.Kept.{form_there, form_filled, has_name, has_text, bodies_of, followers_in, times, Contents, IsKept}
use Rattle.source_grammar.specs.Known.{IsTextKnown}
use Rattle.source_grammar.specs.Growing.{form_kept, block_kept, begins_of, Adds}
use Rattle.source_grammar.specs.Faults.{IsWithin}
use Rattle.source_grammar.specs.Symbols.{nowhere, AllowsFirst}
use Rattle.source_grammar.specs.Grammar.{HeaderIs, without_header, a_header, no_capacity, a_capacity, FileIs, a_file}
use Rattle.source_grammar.specs.Limits.{KeepsHeader, KeepsAll}
use Rattle.source_grammar.proofs.Growth.{adds_on, times_append, times_first}
use Rattle.source_grammar.proofs.KeptHeads.{two, three, five}
use Rattle.source_grammar.proofs.KeptBlocks.{head_there, head_filled, SourceKept, source_good}

-- the source that is made of these
abbrev pub source_in : Contents → Source
source_in f = record {
  header = f.header;
  items = record { protocols = f.protocols; services = f.services; procedures = map (procedure_of f.nodes) f.procs };
  processes = f.processes;
  body = block_in (blocks_of f.nodes) f.body;
}

-- both tests hold of all
all_both : {A : Type 0} (p q : A → Bool) (xs : List A) → list_all (λ x. p x && q x) xs ≡ true → (list_all p xs ≡ true) × (list_all q xs ≡ true)
all_both p q [] h = (refl, refl)
all_both p q (x ∷ xs) h =
    let e = and_parts _ _ h in
    let f = and_parts _ _ e.0 in
    let k = all_both p q xs e.1 in
    (two f.0 k.0, two f.1 k.1)

bodies_kept : (n : NameId → Bool) (t : ℕ → Bool) (nodes : List Node) (ps : List Proc) → AllByRecursion (λ (p : Procedure). block_kept n t p.body ≡ true) (map (procedure_of nodes) ps) → AllByRecursion (λ r. block_kept n t (block_in (blocks_of nodes) r) ≡ true) (begins_of ps)
bodies_kept n t nodes [] h = tt
bodies_kept n t nodes (p ∷ ps) h = (h.0, bodies_kept n t nodes ps h.1)

all_begin : (nodes : List Node) (ids : List NodeId) → AllByRecursion (λ r. r.0 < length nodes) ids → list_all (λ b. nat_lt b.0 (length nodes)) ids ≡ true
all_begin nodes [] h = refl
all_begin nodes (id ∷ ids) h = two (lt-ltb id.0 (length nodes) h.0) (all_begin nodes ids h.1)

-- the order of the roots is of no account
body_first : (id body : NodeId) (ids more : List NodeId) → times id ((body ∷ ids) ++ more) ≡ times id ((ids ++ body ∷ []) ++ more)
body_first id body ids more = omega (arith, times_first id body (ids ++ more), times_append id ids more, times_append id (ids ++ body ∷ []) more, times_append id ids (body ∷ []), times_first id body [])

-- the nodes of all bodies of a file
pub record NodesAre (f : Contents) : Type 0 where
  pub adds : Adds [] f.nodes (begins_of f.procs ++ f.body ∷ [])

pub nodes_are : {mid : List Node} (f : Contents) → Adds [] mid (begins_of f.procs) → Adds mid f.nodes (f.body ∷ []) → NodesAre f
nodes_are f d e = record { adds = adds_on d e }

nodes_kept : (f : Contents) → NodesAre f → SourceKept f.names f.texts (source_in f) → list_all (λ (o : Node). form_kept (has_name f.names) (has_text f.texts) o.form) f.nodes ≡ true
nodes_kept f a s =
    let n = has_name f.names in
    let t = has_text f.texts in
    let Good : NodeId → Type 0 = λ r. block_kept n t (block_in (blocks_of f.nodes) r) ≡ true in
    let roots : AllByRecursion Good (begins_of f.procs ++ f.body ∷ []) = each_append Good (begins_of f.procs) (f.body ∷ []) (bodies_kept n t f.nodes f.procs s.items.bodies) (s.body, tt) in
    ap (list_all (λ (o : Node). form_kept n t o.form)) a.adds.parts ∙ a.adds.kept n t roots

body_there : (f : Contents) → NodesAre f → list_all (λ b. nat_lt b.0 (length f.nodes)) (bodies_of f) ≡ true
body_there f a =
    let There : NodeId → Type 0 = λ r. r.0 < length f.nodes in
    let procs = each_front There (begins_of f.procs) (f.body ∷ []) a.adds.there in
    let body = each_back There (begins_of f.procs) (f.body ∷ []) a.adds.there in
    two (lt-ltb f.body.0 (length f.nodes) body.0) (all_begin f.nodes (begins_of f.procs) procs)

once_in : (f : Contents) → NodesAre f → (id : NodeId) → times id (bodies_of f ++ followers_in f.nodes) ≤ 1
once_in f a id =
    let e = ap (λ (l : List Node). times id (bodies_of f ++ followers_in l)) a.adds.parts in
    omega (arith, e, body_first id f.body (begins_of f.procs) (followers_in a.adds.added), a.adds.once id)

-- a header that was read within the limits
true_or_false : (b : Bool) → (b ≡ false → ⊥) → b ≡ true
true_or_false true n = refl
true_or_false false n = absurd (n refl)

kept_header : {names : List (List ℕ)} {ts : List Token} {h : Header} {rest : List Token} (d : HeaderIs names ts h rest) → KeepsHeader nowhere d → header_kept h ≡ true
kept_header without_header k = refl
kept_header (a_header w n m no_capacity) k = refl
kept_header (a_header w n m (a_capacity {n = c} at v i s)) k = true_or_false (is_capacity c) (λ e. subst (λ (l : List Token). AllowsFirst nowhere P3 l) i.parts (k e))

header_good : {names : List (List ℕ)} {ts : List Token} {s : Source} (d : FileIs names ts s) → KeepsAll d → header_kept s.header ≡ true
header_good (a_file h is w o ps c body e) k = kept_header h k.0

-- a file that was read from tokens whose texts are known
pub file_kept : (f : Contents) (ts : List Token) → IsWithin f.names ts (source_in f) → AllByRecursion (IsTextKnown f.texts) ts → NodesAre f → IsKept f
file_kept f ts within known a =
    let n = has_name f.names in
    let t = has_text f.texts in
    let s = source_good f.names f.texts within.is known in
    let nodes = all_both (λ (o : Node). form_there n t o.form) (λ (o : Node). form_filled o.form) f.nodes (nodes_kept f a s) in
    let heads = sym (list_all-map (head_there f.names) (procedure_of f.nodes) f.procs) ∙ s.items.heads in
    let filled = sym (list_all-map head_filled (procedure_of f.nodes) f.procs) ∙ s.items.heads_filled in
    record {
      header = header_good within.is within.keeps;
      numbered = five s.items.protocols s.items.services heads s.processes nodes.0;
      filled = three s.items.services_filled filled nodes.1;
      begin = body_there f a;
      once = λ id. once_in f a id;
    }
