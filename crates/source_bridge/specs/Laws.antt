-- What it is for tokens to be a source, by the data and by the relations (this project's own).
use Rattle.std.specs.Prelude.{◌≡◌, List, []}
use Rattle.chor_lexer.specs.declared.token.Token.{Token}
use Rattle.chor_tree.specs.Source.{Source}
use Rattle.grammar.specs.Grammars.{Allowed, Derives}
use Rattle.source_grammar.specs.Grammar.{FileIs}
use Rattle.source_grammar.specs.Limits.{Keeps}
use Rattle.source_rows.specs.Sources.{file}
use Rattle.source_rows.specs.Values.{Tables, Derived, rules, source_of}
use Rattle.source_bridge.specs.Bridge.{lexed, There, AreTables}

-- the tables have each word and each text once, and the tokens' numbers are in them
pub record AreKnown (i : Tables) (ts : List Token) : Type 0 where
  pub tables : AreTables i
  pub there : There i ts

-- the tokens derive this source by the data, and exceed limits only where Q allows it
pub record DeriveSource (i : Tables) (Q : Allowed) (ts : List Token) (s : Source) : Type 0 where
  pub value : Derived file
  pub is : Derives (rules i) Q file (lexed i ts) value []
  pub same : source_of i value ≡ s

-- the relations say that they are this source, and exceed limits only where Q allows it
pub record AreSource (i : Tables) (Q : Allowed) (ts : List Token) (s : Source) : Type 0 where
  pub is : FileIs i.words ts s
  pub keeps : Keeps Q is
