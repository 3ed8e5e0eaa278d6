-- What is read before main, item by item.
use Rattle.std.specs.Prelude.{◌≡◌, ◌<◌, ℕ, List, ◌++◌, length, map}
use Rattle.chor_lexer.specs.declared.token.Token.{Token}
use Rattle.chor_tree.specs.declared.file.Proc.{Proc}
use Rattle.source_grammar.specs.Symbols.{Nothing, Reads}
use Rattle.chor_tree.specs.Source.{Items, procedure_of}
use Rattle.source_grammar.specs.Files.{Item, AnItemPart, with_item}
use Rattle.source_grammar.specs.Growing.{Adds, begins_of}
use Rattle.source_reader.specs.declared.input.Input.{Input}
use Rattle.source_reader.specs.Reading.{AfterWord, names_of, tokens_from}
use Rattle.chor_parser.specs.declared.source.Declared.{Declared}

-- what was read so far
abbrev pub items_of : Declared → Items
items_of d = record { protocols = d.protocols; services = d.services; procedures = map (procedure_of d.tree.nodes) d.procs }

-- the one and then the other
abbrev pub joined : Items → Items → Items
joined is js = record {
  protocols = is.protocols ++ js.protocols;
  services = is.services ++ js.services;
  procedures = is.procedures ++ js.procedures;
}

-- with one item more, what follows it is all that follows what was read before
pub record ItemGoes (names : List (List ℕ)) (ts : List Token) (old new : Declared) (rest : List Token) : Type 0 where
  pub item : Item
  pub reads : Reads AnItemPart Nothing names ts item rest
  pub adds : (is : Items) → joined (items_of old) (with_item item is) ≡ joined (items_of new) is
  pub shorter : length rest < length ts

-- the tokens from one place up to another are an item
abbrev pub ItemGoesTo : Input → ℕ → Declared → Declared → ℕ → Type 0
ItemGoesTo input at old new next = ItemGoes (names_of input) (tokens_from input at) old new (tokens_from input next)

-- so are those from the word before the place on
abbrev pub ItemGoesAfter : List ℕ → Input → ℕ → Declared → Declared → ℕ → Type 0
ItemGoesAfter w input at old new next = AfterWord (names_of input) w (tokens_from input at) (λ t0. ItemGoes (names_of input) t0 old new (tokens_from input next))

-- the new nodes are those of the procedures that were read
pub record AddsBodies (old new : Declared) : Type 0 where
  pub procs : List Proc
  pub parts : new.procs ≡ old.procs ++ procs
  pub adds : Adds old.tree.nodes new.tree.nodes (begins_of procs)
