-- Canonical text that is read again with the file's tables adds nothing to them.
use Rattle.std.proofs.Common.{◌≡◌, ℕ, List, [], ◌∷◌, map, refl, sym, ap, ◌∙◌, subst}
use Rattle.std.specs.List.{fold}
use Rattle.chor_base.proofs.WordTables.{put_present}
use Rattle.chor_lexer.specs.declared.token.Kind.TheVariants as kind
use Rattle.chor_lexer.specs.declared.token.Token.{Token}
use Rattle.chor_lexer.specs.Lexeme.{Symbol, Lexeme, word, number, text, mark, last}
use Rattle.chor_lexer.specs.Tokens.{AreSpelled, AreTokensOf, with_name, with_text}
use Rattle.chor_lexer.proofs.Cuts.{one_reading}
use Rattle.chor_lexer.proofs.ReadBack.{HasKind, HaveKinds}
use Rattle.chor_tree.specs.declared.file.File.{File}
use Rattle.chor_tree.specs.Source.{source_of}
use Rattle.chor_print.specs.Text.{canonical_text}
use Rattle.canonical_laws.specs.ReadsBack.{DeriveSame, IsReadFrom, IsReadAgain}
use Rattle.canonical_laws.proofs.Known.{file_sound}
use Rattle.canonical_laws.proofs.Tables.{known}
use Rattle.canonical_laws.proofs.Numbered.{source_there}
use Rattle.canonical_laws.proofs.WrittenFiles.{text_has_symbols, text_reads_back}

module _ (names texts : List (List ℕ)) where
  name_kept : (s : Symbol) → HasKind names texts s → with_name names s ≡ names
  name_kept (word w) (kind.Word n, e) = put_present names w n.0 e
  name_kept (word w) (kind.Number z, e) = absurd e
  name_kept (word w) (kind.Text n, e) = absurd e
  name_kept (word w) (kind.Mark m, e) = absurd e
  name_kept (word w) (kind.Last, e) = absurd e
  name_kept (number n) h = refl
  name_kept (text t) h = refl
  name_kept (mark m) h = refl
  name_kept last h = refl

  text_kept : (s : Symbol) → HasKind names texts s → with_text texts s ≡ texts
  text_kept (text t) (kind.Text n, e) = put_present texts t n e
  text_kept (text t) (kind.Number z, e) = absurd e
  text_kept (text t) (kind.Word n, e) = absurd e
  text_kept (text t) (kind.Mark m, e) = absurd e
  text_kept (text t) (kind.Last, e) = absurd e
  text_kept (number n) h = refl
  text_kept (word w) h = refl
  text_kept (mark m) h = refl
  text_kept last h = refl

  names_kept : (ls : List Lexeme) → HaveKinds names texts (map (λ l. l.symbol) ls) → fold (λ table l. with_name table l.symbol) names ls ≡ names
  names_kept [] h = refl
  names_kept (l ∷ ls) h = ap (λ (table : List (List ℕ)). fold (λ t x. with_name t x.symbol) table ls) (name_kept l.symbol h.0) ∙ names_kept ls h.1

  texts_kept : (ls : List Lexeme) → HaveKinds names texts (map (λ l. l.symbol) ls) → fold (λ table l. with_text table l.symbol) texts ls ≡ texts
  texts_kept [] h = refl
  texts_kept (l ∷ ls) h = ap (λ (table : List (List ℕ)). fold (λ t x. with_text t x.symbol) table ls) (text_kept l.symbol h.0) ∙ texts_kept ls h.1

pub read_again : (bytes : List ℕ) (written ts : List Token) (f : File) (names texts : List (List ℕ)) → IsReadFrom bytes written f → AreTokensOf (canonical_text f) f.names f.texts names texts ts → IsReadAgain f names texts ts
read_again bytes written ts f names texts r h =
    let own = text_has_symbols bytes written f r in
    let same : h.lexemes ≡ own.0 = one_reading (canonical_text f) h.lexemes own.0 h.tokens own.1 in
    let symbols = ap (map (λ (l : Lexeme). l.symbol)) same ∙ own.2 in
    let kinds = subst (HaveKinds f.names f.texts) (sym symbols) (source_there (source_of f) r.derived.is r.derived.keeps (file_sound (source_of f) r.derived.is (known r.tokens))).all in
    let n : names ≡ f.names = h.names_are ∙ names_kept f.names f.texts h.lexemes kinds in
    let t : texts ≡ f.texts = h.texts_are ∙ texts_kept f.names f.texts h.lexemes kinds in
    let spelled : AreSpelled f.names f.texts ts h.lexemes =
    subst (λ (us : List (List ℕ)). AreSpelled f.names us ts h.lexemes) t (subst (λ (ns : List (List ℕ)). AreSpelled ns texts ts h.lexemes) n h.spelled) in
    record { names_kept = n; texts_kept = t; same = subst (λ (ns : List (List ℕ)). DeriveSame ns ts (source_of f)) (sym n) (text_reads_back bytes written ts f h.lexemes r h.tokens spelled) }
