-- Pieces of text that all that is printed is made of (this project's own). A quote is 34, a backslash 92, a line feed 10, an n 110.
use Rattle.std.specs.Prelude.{ℕ, Bool, true, false, ◌==◌, List, [], ◌∷◌, ◌++◌, slice_index_or, slice_get, Option, Some, None, if◌then◌else◌, codes}
use Rattle.chor_base.specs.declared.names.NameId.{NameId}
use Rattle.chor_base.specs.declared.rule.Rule.{Rule}
use Rattle.chor_base.specs.declared.rule.Rule.TheVariants.{L1, L2, L3, L4, L5, P1, P2, P3, N1, N2, N3, G1, G2, G3, V1, V2, V3, T1, T2, T3, T4, T5, T6, T7, T8, T9, U1, U2, M1, M2, E1, E2, E3, E4}

-- the word of a name; a name that isn't in the table adds no bytes
abbrev pub name_in : List (List ℕ) → NameId → List ℕ
name_in names x = slice_index_or names x.0 []

-- quotes, backslashes and line feeds have a backslash before them
abbrev pub escaped_byte : ℕ → List ℕ
escaped_byte b = if b == 34 then 92 ∷ 34 ∷ [] else (if b == 92 then 92 ∷ 92 ∷ [] else (if b == 10 then 92 ∷ 110 ∷ [] else b ∷ []))

-- a text with its escapes
abbrev pub escaped : List ℕ → List ℕ
escaped [] = []
escaped (b ∷ bs) = escaped_byte b ++ escaped bs

-- a text between quotes
abbrev pub literal : Option (List ℕ) → List ℕ
literal None = []
literal (Some bytes) = (34 ∷ escaped bytes) ++ 34 ∷ []

-- the literal of a text; a text that isn't in the table adds no bytes
abbrev pub literal_in : List (List ℕ) → ℕ → List ℕ
literal_in texts t = literal (slice_get texts t)

-- `true` or `false`
abbrev pub truth_text : Bool → List ℕ
truth_text true = codes "true"
truth_text false = codes "false"

-- a rule as a refusal names it
abbrev pub rule_name : Rule → List ℕ
rule_name L1 = codes "L1"
rule_name L2 = codes "L2"
rule_name L3 = codes "L3"
rule_name L4 = codes "L4"
rule_name L5 = codes "L5"
rule_name P1 = codes "P1"
rule_name P2 = codes "P2"
rule_name P3 = codes "P3"
rule_name N1 = codes "N1"
rule_name N2 = codes "N2"
rule_name N3 = codes "N3"
rule_name G1 = codes "G1"
rule_name G2 = codes "G2"
rule_name G3 = codes "G3"
rule_name V1 = codes "V1"
rule_name V2 = codes "V2"
rule_name V3 = codes "V3"
rule_name T1 = codes "T1"
rule_name T2 = codes "T2"
rule_name T3 = codes "T3"
rule_name T4 = codes "T4"
rule_name T5 = codes "T5"
rule_name T6 = codes "T6"
rule_name T7 = codes "T7"
rule_name T8 = codes "T8"
rule_name T9 = codes "T9"
rule_name U1 = codes "U1"
rule_name U2 = codes "U2"
rule_name M1 = codes "M1"
rule_name M2 = codes "M2"
rule_name E1 = codes "E1"
rule_name E2 = codes "E2"
rule_name E3 = codes "E3"
rule_name E4 = codes "E4"
