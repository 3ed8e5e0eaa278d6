-- The tables of two programs are joined.
use Rattle.std.proofs.Common.{◌≡◌, ℕ, ◌+◌, ◌<◌, Bool, true, List, [], length, sym, ap, ◌∙◌, subst, arith}
use Rattle.std.specs.Prelude.{All}
use Rattle.std.proofs.lemmas.List.Elements.{All-nil}
use Rattle.chor_base.specs.declared.names.NameId.{NameId}
use Rattle.endpoint_code.specs.declared.code.CodeNode.{CodeNode}
use Rattle.endpoint_code.specs.declared.endpoints.Endpoints.{Endpoints}
use Rattle.endpoint_code.specs.Faults.{asks_known}
use Rattle.endpoint_code.specs.Kept.{has_name, has_text, node_there}
use Rattle.endpoint_code.specs.Trees.{code_at}
use Rattle.endpoint_code.proofs.CodeTables.{code_at-kept}
use Rattle.endpoint_link.specs.declared.renumbering.Renumbering.{Renumbering}
use Rattle.endpoint_link.specs.Renumbered.{renumbered_name, renumbered_text, AreNodesJoined}
use Rattle.endpoint_link.specs.JoinedWords.{AreWordsJoined}
use Rattle.endpoint_link.specs.declared.joined.Joined.{Joined}
use Rattle.endpoint_link.specs.Joined.{AreProgramsJoined}
use Rattle.endpoint_link.proofs.JoinedTables.{IsOwn, name_own, text_own, code_own, tree_own, node_more, word_same, word_there, base_there}
use Rattle.endpoint_link.proofs.Basics.{all_of}

module _ (e g : Endpoints) (j : Joined) (own : Renumbering) (nodes : List CodeNode) (is_own : IsOwn own)
    (names : AreWordsJoined (λ (n : NameId). n.0) e.names g.names j.names j.numbers.names) (texts : AreWordsJoined (λ (n : ℕ). n) e.texts g.texts j.texts j.numbers.texts)
    (one : AreNodesJoined own e.code.nodes [] nodes) (two : AreNodesJoined j.numbers g.code.nodes nodes j.code.nodes) (first : j.numbers.first ≡ length nodes) where
  size : length nodes ≡ length e.code.nodes
  size = let c : length nodes ≡ 0 + length e.code.nodes = one.count in omega (arith, c)

  pub programs_joined : AreProgramsJoined e g j
  programs_joined = record {
    names = names.begins;
    texts = texts.begins;
    distinct_names = names.distinct;
    distinct_texts = texts.distinct;
    same_name = λ x l. word_same (λ (n : NameId). n.0) e.names g.names j.names j.numbers.names names x.0 x l;
    same_text = λ t l. word_same (λ (n : ℕ). n) e.texts g.texts j.texts j.numbers.texts texts t t l;
    first = first ∙ size;
    count = two.count ∙ ap (λ k. k + length g.code.nodes) size;
    own = λ id l.
        code_at-kept nodes j.code.nodes two.kept.0 id two.kept.1 (subst (λ k. id.0 < k) (sym size) l) ∙ ap (code_at nodes) (sym (code_own own is_own id)) ∙ one.codes id l ∙ tree_own own is_own (code_at e.code.nodes id);
    given = two.codes;
    there = two.there (has_name j.names) (has_text j.texts)
        (one.there (has_name j.names) (has_text j.texts) (All-nil (λ o. node_there (has_name j.names) (has_text j.texts) o ≡ true)) own_there)
        given_there;
    asks = λ known mine given. two.asks known (one.asks known (All-nil (λ o. asks_known known o ≡ true)) (own_asks known mine)) given;
  }
    where
      own_there : All (λ o. node_there (λ x. has_name j.names (renumbered_name own x)) (λ x. has_text j.texts (renumbered_text own x)) o ≡ true) e.code.nodes
      own_there =
          all_of (λ o. node_there (has_name e.names) (has_text e.texts) o ≡ true) (λ o. node_there (λ x. has_name j.names (renumbered_name own x)) (λ x. has_text j.texts (renumbered_text own x)) o ≡ true)
          (λ o h. node_more (has_name e.names) (λ x. has_name j.names (renumbered_name own x)) (has_text e.texts) (λ x. has_text j.texts (renumbered_text own x))
          (λ x k. ap (has_name j.names) (name_own own is_own x) ∙ base_there (λ (n : NameId). n.0) e.names g.names j.names j.numbers.names names x.0 k)
          (λ x k. ap (has_text j.texts) (text_own own is_own x) ∙ base_there (λ (n : ℕ). n) e.texts g.texts j.texts j.numbers.texts texts x k) o h)
          e.code.nodes e.numbered.in_nodes

      given_there : All (λ o. node_there (λ x. has_name j.names (renumbered_name j.numbers x)) (λ x. has_text j.texts (renumbered_text j.numbers x)) o ≡ true) g.code.nodes
      given_there =
          all_of (λ o. node_there (has_name g.names) (has_text g.texts) o ≡ true) (λ o. node_there (λ x. has_name j.names (renumbered_name j.numbers x)) (λ x. has_text j.texts (renumbered_text j.numbers x)) o ≡ true)
          (λ o h. node_more (has_name g.names) (λ x. has_name j.names (renumbered_name j.numbers x)) (has_text g.texts) (λ x. has_text j.texts (renumbered_text j.numbers x))
          (λ x k. word_there (λ (n : NameId). n.0) e.names g.names j.names j.numbers.names names x.0 x k)
          (λ x k. word_there (λ (n : ℕ). n) e.texts g.texts j.texts j.numbers.texts texts x x k) o h)
          g.code.nodes g.numbered.in_nodes

      own_asks : (known : NameId → Bool) → All (λ o. asks_known known o ≡ true) e.code.nodes → All (λ o. asks_known (λ x. known (renumbered_name own x)) o ≡ true) e.code.nodes
      own_asks known mine = subst (λ (k : NameId → Bool). All (λ o. asks_known k o ≡ true) e.code.nodes) (λ i x. known (sym (name_own own is_own x) i)) mine
