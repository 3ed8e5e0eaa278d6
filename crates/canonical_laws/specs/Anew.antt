-- What it is for a file's canonical text to be read anew, with tables of its own (this project's own).
use Rattle.std.specs.Prelude.{◌≡◌, ℕ, true, List}
use Rattle.chor_lexer.specs.declared.token.Token.{Token}
use Rattle.chor_tree.specs.declared.file.File.{File}
use Rattle.chor_tree.specs.Source.{Source, source_of}
use Rattle.chor_tree.specs.Same.{same_words, same_texts, same_source}
use Rattle.source_grammar.specs.Faults.{IsWithin}

-- with the other tables the tokens derive, within the limits, a source that says what s says with the first
pub record SayTheSame (names texts other_names other_texts : List (List ℕ)) (us : List Token) (s : Source) : Type 0 where
  pub source : Source
  pub within : IsWithin other_names us source
  pub same : same_source (same_words names other_names) (same_texts texts other_texts) s source ≡ true

-- the tokens, with these tables, derive a source within the limits that says the same as the file
abbrev pub IsReadAnew : File → List (List ℕ) → List (List ℕ) → List Token → Type 0
IsReadAnew f names texts us = SayTheSame f.names f.texts names texts us (source_of f)
