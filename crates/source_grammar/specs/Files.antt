-- Headers, procedures, what stands before main, and main as parts of the grammar.
use Rattle.std.specs.Prelude.{◌≡◌, ℕ, false, List, ◌∷◌, Option, codes}
use Rattle.chor_lexer.specs.declared.mark.Mark.TheVariants.{OpenParen, CloseParen}
use Rattle.chor_base.specs.declared.rule.Place.{Place}
use Rattle.chor_base.specs.declared.rule.Rule.TheVariants.{P3}
use Rattle.chor_tree.specs.declared.header.Header.{Header}
use Rattle.chor_tree.specs.Headers.{is_capacity}
use Rattle.chor_tree.specs.declared.file.Named.{Named}
use Rattle.chor_tree.specs.declared.file.Service.{Service}
use Rattle.chor_tree.specs.Protocols.{Protocol}
use Rattle.source_grammar.specs.Symbols.{AllowsFirst, Part, Further, Then, Choice, left, right, OneOf}
use Rattle.chor_tree.specs.Source.{Block, Procedure, Items}
use Rattle.source_grammar.specs.Grammar.{NumberIs, CapacityIs, HeaderIs, ProcedureIs, ItemsAre}
use Rattle.source_grammar.specs.Limits.{KeepsCapacity, KeepsHeader, KeepsProcedure, KeepsItems}
use Rattle.source_grammar.specs.Parts.{MarkPart, WordPart, AWord, Or, AnyNamesPart, ProtocolPart, ServicePart}
use Rattle.source_grammar.specs.Blocks.{BlockPart}

-- this number
abbrev pub NumberPart : ℕ → Part (Unit {0})
NumberPart n Q names ts x rest = NumberIs n ts rest

-- a number that may be a capacity, unless the limit may be exceeded there
abbrev pub CapacityNumber : Part ℕ
CapacityNumber Q names ts n rest = NumberIs n ts rest × (is_capacity n ≡ false → AllowsFirst Q P3 ts)

-- [ "capacity" NUMBER ";" ]
abbrev pub CapacityPart : Part (Option ℕ × Place)
CapacityPart Q names ts v rest = (d : CapacityIs names ts v.0 v.1 rest) × KeepsCapacity Q d

-- [ header ]
abbrev pub HeaderPart : Part Header
HeaderPart Q names ts h rest = (d : HeaderIs names ts h rest) × KeepsHeader Q d

-- the words with which a header could go on
abbrev pub HeaderMore : Further
HeaderMore = Or (AWord (codes "chor")) (AWord (codes "capacity"))

abbrev pub ProcedurePart : Part Procedure
ProcedurePart Q names ts p rest = (d : ProcedureIs names ts p rest) × KeepsProcedure Q d

-- protocol | service | proc
abbrev pub Item : Type 0
Item = Choice Protocol (Choice Service Procedure)

abbrev pub AnItemPart : Part Item
AnItemPart = OneOf ProtocolPart (OneOf ServicePart ProcedurePart)

-- the words with which one begins
abbrev pub ItemFirst : Further
ItemFirst = Or (AWord (codes "protocol")) (Or (AWord (codes "service")) (AWord (codes "proc")))

-- { protocol | service | proc }
abbrev pub ItemsPart : Part Items
ItemsPart Q names ts is rest = (d : ItemsAre names ts is rest) × KeepsItems Q d

-- one more before the others
abbrev pub with_item : Item → Items → Items
with_item (left p) is = record is { protocols = p ∷ is.protocols }
with_item (right (left s)) is = record is { services = s ∷ is.services }
with_item (right (right p)) is = record is { procedures = p ∷ is.procedures }

-- "main" "(" [ names ] ")" block
abbrev pub Main : Type 0
Main = Unit {0} × (Unit {0} × (List Named × (Unit {0} × Block)))

abbrev pub MainPart : Part Main
MainPart = Then (WordPart (codes "main")) (Then (MarkPart OpenParen) (Then (AnyNamesPart 64) (Then (MarkPart CloseParen) (BlockPart 64 1024))))

abbrev pub main_of : List Named → Block → Main
main_of ps b = (tt, (tt, (ps, (tt, b))))

-- what follows the header
abbrev pub BarePart : Part (Items × Main)
BarePart = Then ItemsPart MainPart

-- a whole source but for its end
abbrev pub SourcePart : Part (Header × (Items × Main))
SourcePart = Then HeaderPart BarePart
