-- Endpoint programs are the same as themselves.
use Rattle.std.proofs.Common.{◌≡◌, ℕ, ◌<◌, Bool, true, List, [], ◌∷◌, length, arith}
use Rattle.std.specs.Prelude.{All, slice_index_or, nat_lt}
use Rattle.std.specs.List.{AllZip, list_all}
use Rattle.std.proofs.lemmas.Bool.{and_parts}
use Rattle.std.proofs.lemmas.Bool.Decides.{nat_tests}
use Rattle.std.proofs.lemmas.List.Elements.{All-head, All-tail}
use Rattle.std.proofs.lemmas.Option.{slice_get-get_or}
use Rattle.node_table.proofs.Tables.{trees_all}
use Rattle.chor_base.specs.declared.names.NameId.{NameId}
use Rattle.chor_base.specs.declared.value.Value.{Value}
use Rattle.chor_base.specs.declared.value.Value.TheVariants.{Int, Bool as Truth, Text, Part}
use Rattle.chor_base.specs.Expr.{Term, Constant, Variable, Unary, Binary}
use Rattle.endpoint_code.specs.declared.code.CodeId.{CodeId}
use Rattle.endpoint_code.specs.declared.code.CodeNode.{CodeNode}
use Rattle.endpoint_code.specs.declared.code.CodeNode.TheVariants.{Join, Send, Recv, Pick, Branch, Throw, Catch, Set, Show, Host, If, Call, End}
use Rattle.endpoint_code.specs.declared.endpoints.Channel.{Channel}
use Rattle.endpoint_code.specs.declared.endpoints.Procedure.{Procedure}
use Rattle.endpoint_code.specs.declared.endpoints.ServiceCode.{ServiceCode}
use Rattle.endpoint_code.specs.declared.endpoints.Process.{Process}
use Rattle.endpoint_code.specs.declared.endpoints.Endpoints.{Endpoints}
use Rattle.endpoint_code.specs.Kept.{has_name, has_text, value_there, term_there, node_there, channel_there, procedure_there, service_there}
use Rattle.endpoint_code.specs.Labels.{here}
use Rattle.endpoint_code.specs.Trees.{CodeTree, Ends, arms_in, node_tree, trees_of}
use Rattle.same_programs.specs.Words.{IsSameWord, SameName, SameText}
use Rattle.same_programs.specs.Codes.{SameValue, number, truth, text, SameTerm, constant, variable, unary, binary, joins, sends, receives, selects, gives, gains, sets, shows, asks, SameCode, does, offers, tests, calls, ends, SameArms, no_arm, one_arm}
use Rattle.same_programs.specs.Programs.{SameCodeAt, SameChannel, SameProcedure, SameService, SameProcess, SamePrograms}

-- a word that is there is itself
word_self : (ws : List (List ℕ)) (i : ℕ) → nat_lt i (length ws) ≡ true → IsSameWord ws ws i i
word_self ws i h =
    let inside : i < length ws = grind (arith, nat_tests) in
    record { word = slice_index_or ws i []; here = slice_get-get_or ws i [] inside; there = slice_get-get_or ws i [] inside }

-- each item of a list is related to itself
zip_self : {A : Type 0} (R : A → A → Type 0) (P : A → Type 0) → ((a : A) → P a → R a a) → (xs : List A) → All P xs → AllZip R xs xs
zip_self R P f [] h = tt
zip_self R P f (x ∷ xs) h = (f x (All-head P x xs h), zip_self R P f xs (All-tail P x xs h))

module _ (n : NameId → Bool) (t : ℕ → Bool) (N : NameId → NameId → Type 0) (T : ℕ → ℕ → Type 0) (name : (x : NameId) → n x ≡ true → N x x) (text_self : (x : ℕ) → t x ≡ true → T x x) where
  names_self : (xs : List NameId) → list_all n xs ≡ true → AllZip N xs xs
  names_self [] h = tt
  names_self (x ∷ xs) h = let b = and_parts _ _ h in (name x b.0, names_self xs b.1)

  value_self : (v : Value) → value_there n t v ≡ true → SameValue N T v v
  value_self (Int z) h = number
  value_self (Truth b) h = truth
  value_self (Text x) h = text (text_self x h)
  value_self (Part s r) h = absurd cc

  term_self : (e : Term) → term_there n t e ≡ true → SameTerm N T e e
  term_self (Constant v) h = constant (value_self v h)
  term_self (Variable x) h = variable (name x h)
  term_self (Unary o e) h = unary (term_self e h)
  term_self (Binary o e f) h = let b = and_parts _ _ h in binary (term_self e b.0) (term_self f b.1)

  -- each tree is the same as itself
  abbrev AreSelves : List CodeTree → Type 0
  AreSelves ts = (i : ℕ) → SameCode N T (slice_index_or ts i Ends) (slice_index_or ts i Ends)

  arms_self : (ts : List CodeTree) → AreSelves ts → (arms : List (NameId × CodeId)) → list_all (λ arm. n arm.0) arms ≡ true → SameArms N T (arms_in ts arms) (arms_in ts arms)
  arms_self ts s [] h = no_arm
  arms_self ts s (arm ∷ arms) h = let b = and_parts _ _ h in one_arm (name arm.0 b.0) (s arm.1.0) here (arms_self ts s arms b.1)

  node_self : (ts : List CodeTree) → AreSelves ts → (o : CodeNode) → node_there n t o ≡ true → SameCode N T (node_tree ts o) (node_tree ts o)
  node_self ts s (Join c r k next) h = let b = and_parts _ _ h in let a = and_parts _ _ b.0 in does (joins (name c a.0) (name r a.1) (name k b.1)) (s next.0)
  node_self ts s (Send k b x next) h = let d = and_parts _ _ h in let a = and_parts _ _ d.0 in does (sends (name k a.0) (name b a.1) (term_self _ d.1)) (s next.0)
  node_self ts s (Recv k f x next) h = let b = and_parts _ _ h in let a = and_parts _ _ b.0 in does (receives (name k a.0) (name f a.1) (name x b.1)) (s next.0)
  node_self ts s (Pick k b l next) h = let d = and_parts _ _ h in let a = and_parts _ _ d.0 in does (selects (name k a.0) (name b a.1) (name l d.1)) (s next.0)
  node_self ts s (Branch k f arms) h = let b = and_parts _ _ h in let a = and_parts _ _ b.0 in offers (name k a.0) (name f a.1) (arms_self ts s arms b.1)
  node_self ts s (Throw k b g next) h = let d = and_parts _ _ h in let a = and_parts _ _ d.0 in does (gives (name k a.0) (name b a.1) (name g d.1)) (s next.0)
  node_self ts s (Catch k f g next) h = let b = and_parts _ _ h in let a = and_parts _ _ b.0 in does (gains (name k a.0) (name f a.1) (name g b.1)) (s next.0)
  node_self ts s (Set x v next) h = let b = and_parts _ _ h in does (sets (name x b.0) (term_self _ b.1)) (s next.0)
  node_self ts s (Show v next) h = does (shows (term_self _ h)) (s next.0)
  node_self ts s (Host x f u v next) h =
      let b = and_parts _ _ h in
      let a = and_parts _ _ b.0 in
      let d = and_parts _ _ a.0 in
      does (asks (name x d.0) (name f d.1) (term_self _ a.1) (term_self _ b.1)) (s next.0)
  node_self ts s (If v first second) h = tests (term_self _ h) (s first.0) (s second.0)
  node_self ts s (Call f p ss) h = let b = and_parts _ _ h in let a = and_parts _ _ b.0 in calls (name f a.0) (name p a.1) (names_self ss b.1)
  node_self ts s End h = ends

  all_selves : (nodes : List CodeNode) → All (λ o. node_there n t o ≡ true) nodes → AreSelves (trees_of nodes)
  all_selves nodes h = trees_all node_tree Ends (λ o. node_there n t o ≡ true) (λ q. SameCode N T q q) ends node_self nodes h

module _ (e : Endpoints) where
  abbrev there : NameId → Bool
  there x = has_name e.names x

  name_self : (x : NameId) → has_name e.names x ≡ true → SameName e e x x
  name_self x h = word_self e.names x.0 h

  all_self : (xs : List NameId) → list_all (has_name e.names) xs ≡ true → AllZip (SameName e e) xs xs
  all_self xs h = names_self (has_name e.names) (has_text e.texts) (SameName e e) (SameText e e) name_self (λ i k. word_self e.texts i k) xs h

  body_self : (id : CodeId) → SameCodeAt e e id id
  body_self id = all_selves (has_name e.names) (has_text e.texts) (SameName e e) (SameText e e) name_self (λ i k. word_self e.texts i k) e.code.nodes e.numbered.in_nodes id.0

  pub programs_self : SamePrograms e e
  programs_self = record {
    channels = zip_self (SameChannel e e) (λ (c : Channel). channel_there (has_name e.names) c ≡ true)
        (λ c h. let b = and_parts _ _ h in let a = and_parts _ _ b.0 in record { name = name_self c.name a.0; active = all_self c.active a.1; serve = all_self c.serve b.1 })
        e.channels e.numbered.in_channels;
    procedures = zip_self (SameProcedure e e) (λ (q : Procedure). procedure_there (has_name e.names) q ≡ true)
        (λ q h. let b = and_parts _ _ h in let a = and_parts _ _ b.0 in record { name = name_self q.name a.0; param = name_self q.param a.1; sessions = all_self q.sessions b.1; body = body_self q.body })
        e.procedures e.numbered.in_procedures;
    services = zip_self (SameService e e) (λ (s : ServiceCode). service_there (has_name e.names) s ≡ true)
        (λ s h. let b = and_parts _ _ h in record { channel = name_self s.channel b.0; role = name_self s.role b.1; body = body_self s.body })
        e.services e.numbered.in_services;
    processes = zip_self (SameProcess e e) (λ (p : Process). has_name e.names p.name ≡ true) (λ p h. record { name = name_self p.name h; body = body_self p.body })
        e.processes e.numbered.in_processes;
  }
