-- The canonical text of a file that is read anew, with other tables, says the same as the file.
use Rattle.std.proofs.Common.{◌≡◌, ℕ, true, List, [], map, sym, ◌∙◌, subst}
use Rattle.chor_base.specs.declared.rule.Place.{Place}
use Rattle.chor_base.specs.declared.rule.Rule.{Rule}
use Rattle.chor_lexer.specs.declared.token.Token.{Token}
use Rattle.chor_lexer.specs.Lexeme.{Lexeme}
use Rattle.chor_lexer.specs.Refusal.{Refuses}
use Rattle.chor_lexer.specs.Tokens.{IsTokens, AreSpelled, AreTokensOf}
use Rattle.chor_lexer.proofs.Cuts.{one_reading, not_both}
use Rattle.chor_tree.specs.declared.file.File.{File}
use Rattle.chor_tree.specs.Source.{Source, source_of}
use Rattle.chor_tree.specs.Same.{same_words, same_texts, same_source, same_files}
use Rattle.chor_tree.proofs.SameJoined.{source_joined, words_joined, texts_joined}
use Rattle.source_grammar.specs.Faults.{IsFirstFault}
use Rattle.source_grammar.proofs.FirstFaults.{one_source_is, never_refused_is}
use Rattle.chor_print.specs.Text.{canonical_text}
use Rattle.canonical_laws.specs.Anew.{SayTheSame, IsReadAnew}
use Rattle.canonical_laws.specs.ReadsBack.{IsReadWith}
use Rattle.canonical_laws.proofs.Placeless.{says_the_same}
use Rattle.canonical_laws.proofs.Renumbered.{renumbered}
use Rattle.canonical_laws.proofs.SameText.{same_source_text, same_text}
use Rattle.canonical_laws.proofs.Sources.{source_text, canonical_is}
use Rattle.canonical_laws.proofs.Fresh.{Fresh, fresh}
use Rattle.canonical_laws.proofs.WrittenFiles.{SourceReadsBack, source_back, spelled_symbols}

-- a source that says the same, with tables of its own, whose canonical text is that of the file
record Own (f : File) : Type 0 where
  names : List (List ℕ)
  texts : List (List ℕ)
  source : Source
  same : same_source (same_words f.names names) (same_texts f.texts texts) (source_of f) source ≡ true
  back : SourceReadsBack names texts source
  text : canonical_text f ≡ source_text names texts source

module _ {old_names old_texts : List (List ℕ)} (bytes : List ℕ) (written : List Token) (f : File) (read : IsReadWith old_names old_texts bytes written f) where
  own_source : Own f
  own_source =
      let t = fresh bytes read.tokens.lexemes read.tokens.tokens in
      let here = spelled_symbols f.names f.texts written read.tokens.lexemes read.tokens.spelled in
      let there = spelled_symbols t.names t.texts t.tokens read.tokens.lexemes (subst (AreSpelled t.names t.texts t.tokens) t.same t.are.spelled) in
      let r = renumbered f.names f.texts t.names t.texts written t.tokens (map (λ (l : Lexeme). l.symbol) read.tokens.lexemes) (source_of f) here there read.derived in
      record {
        names = t.names;
        texts = t.texts;
        source = r.source;
        same = r.same;
        back = source_back bytes t.names t.texts t.tokens r.source t.are r.within;
        text = canonical_is f ∙ same_source_text f.names f.texts t.names t.texts (source_of f) r.source r.same;
      }

  has_tokens : IsTokens (canonical_text f) own_source.back.lexemes
  has_tokens = subst (λ (t : List ℕ). IsTokens t own_source.back.lexemes) (sym own_source.text) own_source.back.has

  pub is_cut : (rule : Rule) (place : Place) → Refuses (canonical_text f) rule place → ⊥
  is_cut rule place h = not_both (canonical_text f) own_source.back.lexemes rule place has_tokens h

  pub reads_anew : {other_names other_texts : List (List ℕ)} (names texts : List (List ℕ)) (us : List Token) → AreTokensOf (canonical_text f) other_names other_texts names texts us → IsReadAnew f names texts us
  reads_anew names texts us h =
      let o = own_source in
      let b = o.back in
      let same : h.lexemes ≡ b.lexemes = one_reading (canonical_text f) h.lexemes b.lexemes h.tokens has_tokens in
      let here = spelled_symbols o.names o.texts b.tokens b.lexemes b.spelled in
      let there = spelled_symbols names texts us b.lexemes (subst (AreSpelled names texts us) same h.spelled) in
      let r = renumbered o.names o.texts names texts b.tokens us (map (λ (l : Lexeme). l.symbol) b.lexemes) b.same.0 here there b.same.1 in
      let said = says_the_same (same_words o.names names) (same_texts o.texts texts) b.same.0 o.source r.source b.same.2 r.same in
      record {
        source = r.source;
        within = r.within;
        same = source_joined (words_joined f.names o.names names) (texts_joined f.texts o.texts texts) (source_of f) o.source r.source o.same said;
      }

  pub is_taken : {other_names other_texts : List (List ℕ)} (names texts : List (List ℕ)) (us : List Token) (rule : Rule) (place : Place) → AreTokensOf (canonical_text f) other_names other_texts names texts us → IsFirstFault names us rule place → ⊥
  is_taken names texts us rule place h fault = let r = reads_anew names texts us h in never_refused_is names us r.source rule place r.within fault

  pub says_it : {other_names other_texts : List (List ℕ)} (us : List Token) (g : File) → IsReadWith other_names other_texts (canonical_text f) us g → same_files f g ≡ true
  says_it us g again =
      let r = reads_anew g.names g.texts us again.tokens in
      let one : r.source ≡ source_of g = one_source_is g.names us r.source (source_of g) r.within.is again.derived.is in
      subst (λ (s : Source). same_source (same_words f.names g.names) (same_texts f.texts g.texts) (source_of f) s ≡ true) one r.same

  pub is_settled : {other_names other_texts : List (List ℕ)} (us : List Token) (g : File) → IsReadWith other_names other_texts (canonical_text f) us g → canonical_text g ≡ canonical_text f
  is_settled us g again = sym (same_text f g (says_it us g again))
