-- What it is for a file's canonical text to be read again as the file (this project's own).
use Rattle.std.specs.Prelude.{◌≡◌, ℕ, List, [], map}
use Rattle.chor_lexer.specs.declared.token.Token.{Token}
use Rattle.chor_lexer.specs.Lexeme.{Symbol, Lexeme}
use Rattle.chor_lexer.specs.Tokens.{IsTokens, AreSpelled, AreTokensOf}
use Rattle.chor_tree.specs.declared.file.File.{File}
use Rattle.chor_tree.specs.Source.{Source, source_of}
use Rattle.source_grammar.specs.Faults.{IsWithin}
use Rattle.chor_print.specs.Text.{canonical_text}
use Rattle.canonical_laws.specs.Places.{IsSame}

-- the tokens derive, within the limits, a source that is this one but for places
abbrev pub DeriveSame : List (List ℕ) → List Token → Source → Type 0
DeriveSame names ts s = (t : Source) × IsWithin names ts t × IsSame t s

-- the bytes have tokens, which say these symbols
abbrev pub HasSymbols : List ℕ → List Symbol → Type 0
HasSymbols bytes ss = (ls : List Lexeme) × IsTokens bytes ls × (map (λ l. l.symbol) ls ≡ ss)

-- these are the tokens of the bytes, of which what is new went into these tables, and they derive the file within the limits
pub record IsReadWith (old_names old_texts : List (List ℕ)) (bytes : List ℕ) (ts : List Token) (f : File) : Type 0 where
  pub tokens : AreTokensOf bytes old_names old_texts f.names f.texts ts
  pub derived : IsWithin f.names ts (source_of f)

-- some bytes were read as the file, whatever was in the tables before
pub record IsRead (f : File) : Type 0 where
  pub old_names : List (List ℕ)
  pub old_texts : List (List ℕ)
  pub bytes : List ℕ
  pub tokens : List Token
  pub is : IsReadWith old_names old_texts bytes tokens f

-- these bytes, with empty tables
abbrev pub IsReadFrom : List ℕ → List Token → File → Type 0
IsReadFrom bytes ts f = IsReadWith [] [] bytes ts f

-- the canonical text has tokens, which have numbers in the file's tables, and they derive the file's source but for places
pub record ReadsBack (f : File) : Type 0 where
  pub lexemes : List Lexeme
  pub tokens : List Token
  pub has : IsTokens (canonical_text f) lexemes
  pub spelled : AreSpelled f.names f.texts tokens lexemes
  pub same : DeriveSame f.names tokens (source_of f)

-- tokens that were read with the file's tables left them as they were, and derive the file's source but for places
pub record IsReadAgain (f : File) (names texts : List (List ℕ)) (ts : List Token) : Type 0 where
  pub names_kept : names ≡ f.names
  pub texts_kept : texts ≡ f.texts
  pub same : DeriveSame names ts (source_of f)
