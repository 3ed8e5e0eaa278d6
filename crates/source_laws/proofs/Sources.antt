-- Bytes are the text of a file, or no source: what tokens derive within the limits is a file.
use Rattle.std.proofs.Common.{◌≡◌, ◌<◌, ◌⊎◌, ℕ, List, [], ◌∷◌, length, map, inl, inr, sym, ◌∙◌, subst}
use Rattle.std.specs.List.{AllByRecursion}
use Rattle.chor_base.specs.declared.rule.Place.{Place}
use Rattle.chor_base.specs.declared.rule.Rule.{Rule}
use Rattle.chor_lexer.specs.declared.token.Token.{Token}
use Rattle.chor_lexer.specs.Lexeme.{Lexeme}
use Rattle.chor_lexer.specs.Refusal.{Refuses}
use Rattle.chor_lexer.specs.Tokens.{IsTokens, AreTokensOf}
use Rattle.chor_lexer.proofs.Total.{one_or_the_other}
use Rattle.chor_tree.specs.declared.file.File.{File}
use Rattle.chor_tree.specs.declared.file.Proc.{Proc}
use Rattle.chor_tree.specs.declared.tree.Node.{Node}
use Rattle.chor_tree.specs.Children.{IsClosed}
use Rattle.chor_tree.specs.Kept.{Contents}
use Rattle.chor_tree.specs.Source.{Source, procedure_of}
use Rattle.source_grammar.specs.Faults.{IsWithin, IsFirstFault}
use Rattle.source_grammar.specs.Growing.{begins_of, AreThere}
use Rattle.source_grammar.proofs.KeptFiles.{source_in, nodes_are, file_kept}
use Rattle.source_grammar.proofs.KnownTexts.{texts_known}
use Rattle.source_grammar.proofs.Tables.{procedures_stay}
use Rattle.source_grammar.proofs.Verdicts.{one_or_the_other_is}
use Rattle.canonical_laws.proofs.Fresh.{fresh}
use Rattle.source_check.specs.Source.{IsFileOf, tokens, grammar}
use Rattle.source_check.proofs.WholeTokens.{whole_tokens}
use Rattle.source_laws.specs.Laws.{IsReadOrRefused}
use Rattle.source_laws.proofs.Nodes.{laid, laid_all}

none_closed : IsClosed []
none_closed i n h = absurd cc

are_there : (nodes : List Node) (ps : List Proc) → AllByRecursion (λ r. r.0 < length nodes) (begins_of ps) → AreThere nodes ps
are_there nodes [] h = tt
are_there nodes (p ∷ ps) h = (h.0, are_there nodes ps h.1)

module _ (bytes : List ℕ) (names texts : List (List ℕ)) (ts : List Token) (are : AreTokensOf bytes [] [] names texts ts) where
  file_of : (s : Source) → IsWithin names ts s → (f : File) × IsFileOf bytes f
  file_of s within =
      let r = laid_all [] none_closed s.items.procedures in
      let l = laid r.nodes r.closed s.body in
      let f : Contents = record {
        header = s.header;
        names = names;
        texts = texts;
        protocols = s.items.protocols;
        services = s.items.services;
        procs = r.procs;
        processes = s.processes;
        nodes = l.nodes;
        body = l.root;
      } in
      let bodies : map (procedure_of l.nodes) r.procs ≡ s.items.procedures = procedures_stay r.nodes l.nodes r.procs (l.adds.added, l.adds.parts) (are_there r.nodes r.procs r.adds.there) ∙ r.are in
      let same : s ≡ source_in f = sym (λ i. record { header = s.header; items = record { protocols = s.items.protocols; services = s.items.services; procedures = bodies i }; processes = s.processes; body = l.is i }) in
      let here : IsWithin names ts (source_in f) = subst (IsWithin names ts) same within in
      let file : File = record {
        header = s.header;
        names = names;
        texts = texts;
        protocols = s.items.protocols;
        services = s.items.services;
        procs = r.procs;
        processes = s.processes;
        tree = record { nodes = l.nodes; closed = l.closed };
        body = l.root;
        kept = file_kept f ts here (texts_known are) (nodes_are f r.adds l.adds);
      } in
      (file, record { tokens = ts; are = are; within = here })

  of_tokens : IsReadOrRefused bytes
  of_tokens = go (one_or_the_other_is names ts (whole_tokens bytes names texts ts are))
    where
      go : ((s : Source) × IsWithin names ts s) ⊎ ((rule : Rule) × (place : Place) × IsFirstFault names ts rule place) → IsReadOrRefused bytes
      go (inl h) = inl (file_of h.0 h.1)
      go (inr h) = inr (h.0, h.1, grammar are h.2)

pub is_read : (bytes : List ℕ) → IsReadOrRefused bytes
is_read bytes = go (one_or_the_other bytes)
  where
    go : ((ls : List Lexeme) × IsTokens bytes ls) ⊎ ((rule : Rule) × (place : Place) × Refuses bytes rule place) → IsReadOrRefused bytes
    go (inl h) = let t = fresh bytes h.0 h.1 in of_tokens bytes t.names t.texts t.tokens t.are
    go (inr h) = inr (h.0, h.1, tokens h.2)
