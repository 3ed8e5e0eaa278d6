-- What is proved of choreographies, sources and projections that can be written as endpoint files.
use Rattle.std.specs.Prelude.{◌≡◌, ℕ, true, List, [], ◌∷◌}
use Rattle.std.specs.List.{AllByRecursion}
use Rattle.chor_base.specs.declared.names.NameId.{NameId}
use Rattle.chor_lexer.specs.declared.token.Token.{Token}
use Rattle.chor_lexer.specs.Tokens.{AreTokensOf}
use Rattle.chor_tree.specs.declared.file.Proc.{Proc}
use Rattle.chor_tree.specs.Source.{Source}
use Rattle.chor_tree.specs.declared.file.File.{File}
use Rattle.source_grammar.specs.Faults.{IsWithin}
use Rattle.chor_semantics.specs.Choreography.{Choreography}
use Rattle.endpoint_code.specs.declared.endpoints.Endpoints.{Endpoints}
use Rattle.endpoint_code.specs.Labels.{HasDistinctLabels}
use Rattle.endpoint_code.specs.LeastAbove.{IsLeastAbove}
use Rattle.endpoint_code.specs.Trees.{CodeTree}
use Rattle.endpoint_laws.specs.Spelled.{IsNamed}
use Rattle.endpoint_laws.specs.PrintedLaws.{AreWritable}
use Rattle.projection.specs.Codes.{IsCodeOf}
use Rattle.projection.specs.Projects.{Started, is_some_start, IsServiceCode, Projects}
use Rattle.source_check.specs.Source.{IsFileOf, IsAccepted}
use Rattle.source_check.specs.declared.rules.Rules.TheVariants as rules
use Rattle.writable_sources.specs.Written.{IsWritableIn, IsWritableHead, IsWritableCode}
use Rattle.writable_sources.specs.Sources.{IsWritableSource}

-- the least code above some that can be written can be written
abbrev pub LeastIsWritable : Type 0
LeastIsWritable =
    (e : Endpoints) (n : ℕ) (c : CodeTree) (cs : List CodeTree) (q : CodeTree) → AllByRecursion HasDistinctLabels (c ∷ cs)
    → AllByRecursion (IsWritableCode e n) (c ∷ cs) → IsLeastAbove (c ∷ cs) q → IsWritableCode e n q

-- so can the code of a process
abbrev pub CodesAreWritable : Type 0
CodesAreWritable =
    (e : Endpoints) (procs : List Proc) → AllByRecursion (IsWritableHead e) procs
    → (r : NameId) (n : ℕ) (c : Choreography) (x : CodeTree) → IsCodeOf procs r c x → IsWritableIn e n c → IsWritableCode e n x

-- and of a service role
abbrev pub ServicesAreWritable : Type 0
ServicesAreWritable =
    (e : Endpoints) (procs : List Proc) → AllByRecursion (IsWritableHead e) procs
    → (a r : NameId) (n : ℕ) (starts : List Started) (x : CodeTree) → is_some_start starts ≡ true → IsNamed e a
    → AllByRecursion (λ s. IsWritableIn e n s.rest) starts → IsServiceCode procs a r starts x → IsWritableCode e n x

-- A source that tokens derive, where it is within the limits, can be written with the tables that they fill
abbrev pub SourcesAreWritable : Type 0
SourcesAreWritable =
    (e : Endpoints) (bytes : List ℕ) (ts : List Token) (s : Source) → AreTokensOf bytes [] [] e.names e.texts ts
    → IsWithin e.names ts s → IsWritableSource e s

-- where the bytes are the text of the file, an endpoint file can be of its endpoint programs
abbrev pub ProjectionOfTextIsWritable : Type 0
ProjectionOfTextIsWritable = (bytes : List ℕ) (f : File) → IsFileOf bytes f → (e : Endpoints) → Projects f e → AreWritable e

-- so it is where the text is accepted
abbrev pub ProjectionIsWritable : Type 0
ProjectionIsWritable =
    (words : List (List ℕ)) (bytes : List ℕ) (f : File) → IsAccepted rules.All words bytes f
    → (e : Endpoints) → Projects f e → AreWritable e
