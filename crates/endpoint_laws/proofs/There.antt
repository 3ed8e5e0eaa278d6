-- What is there in the lines of a table is there in the bodies that begin with them.
use Rattle.std.proofs.Common.{ℕ, List, [], ◌∷◌}
use Rattle.std.specs.Prelude.{slice_index_or}
use Rattle.std.proofs.lemmas.List.Elements.{All-head, All-tail}
use Rattle.node_table.proofs.Tables.{trees_all}
use Rattle.endpoint_reader.specs.declared.input.Input.{Input}
use Rattle.endpoint_reader.specs.declared.lines.LineId.{LineId}
use Rattle.endpoint_reader.specs.declared.lines.Arm.{Arm as OneArm}
use Rattle.endpoint_reader.specs.declared.lines.Line.{Line}
use Rattle.endpoint_reader.specs.declared.lines.Line.TheVariants as line
use Rattle.endpoint_reader.specs.Known.{IsThere, IsSignatureThere, IsExprThere, IsActionThere, AreLabelsThere, IsLineThere, AreLinesThere}
use Rattle.endpoint_names.specs.Bodies.{Body, Does, Offers, Tests, Calls, Ends, Arms, NoArms, Arm, arms_in, line_body, body_at}

module _ (i : Input) where
  abbrev mutual
    pub IsBodyThere : Body → Type 0
    IsBodyThere (Does d rest) = IsActionThere i d × IsBodyThere rest
    IsBodyThere (Offers k a arms) = IsThere i k × IsThere i a × AreArmsThere arms
    IsBodyThere (Tests t first second) = IsExprThere i t × IsBodyThere first × IsBodyThere second
    IsBodyThere (Calls p s) = IsSignatureThere i s
    IsBodyThere Ends = Unit {0}

    pub AreArmsThere : Arms → Type 0
    AreArmsThere NoArms = Unit {0}
    AreArmsThere (Arm l b rest) = IsThere i l × IsBodyThere b × AreArmsThere rest

  abbrev AllThere : List Body → Type 0
  AllThere bs = (n : ℕ) → IsBodyThere (slice_index_or bs n Ends)

  arms_there : (bs : List Body) → AllThere bs → (arms : List OneArm) → AreLabelsThere i arms → AreArmsThere (arms_in bs arms)
  arms_there bs h [] g = tt
  arms_there bs h (a ∷ others) g =
      (All-head (λ arm. IsThere i arm.label) a others g, h a.body.0, arms_there bs h others (All-tail (λ arm. IsThere i arm.label) a others g))

  line_there : (bs : List Body) → AllThere bs → (l : Line) → IsLineThere i l → IsBodyThere (line_body bs l)
  line_there bs h (line.Act a next) g = (g, h next.0)
  line_there bs h (line.Branch k a arms) g = (g.0, g.1, arms_there bs h arms g.2)
  line_there bs h (line.If e first second) g = (g, h first.0, h second.0)
  line_there bs h (line.Call p s) g = g
  line_there bs h line.End g = tt

  pub body_there : (ls : List Line) → AreLinesThere i ls → (id : LineId) → IsBodyThere (body_at ls id)
  body_there ls g id = trees_all line_body Ends (IsLineThere i) IsBodyThere tt line_there ls g id.0
