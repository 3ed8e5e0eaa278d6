-- The code of a line is made of the codes of those that follow it.
use Rattle.std.proofs.Common.{◌≡◌, List, [], ◌∷◌, map, refl, ap}
use Rattle.std.proofs.Math.ListN.{get_or-map}
use Rattle.endpoint_reader.specs.declared.lines.LineId.{LineId}
use Rattle.endpoint_reader.specs.declared.lines.Arm.{Arm as OneArm}
use Rattle.endpoint_code.specs.Trees as tree
use Rattle.endpoint_names.specs.Bodies.{Body, Ends, body_in, arms_in}
use Rattle.endpoint_making.specs.Codes.{code_id, code_of, arms_of, pairs_of}

pub code_in : (bs : List Body) (id : LineId) → tree.tree_in (map code_of bs) (code_id id) ≡ code_of (body_in bs id)
code_in bs id = get_or-map code_of bs id.0 Ends

pub arms_in_codes : (bs : List Body) (arms : List OneArm) → tree.arms_in (map code_of bs) (pairs_of arms) ≡ arms_of (arms_in bs arms)
arms_in_codes bs [] = refl
arms_in_codes bs (arm ∷ arms) = let e = code_in bs arm.body in let f = arms_in_codes bs arms in cc

pub arms_after : (arms : List OneArm) → map (λ arm. arm.1) (pairs_of arms) ≡ map code_id (map (λ arm. arm.body) arms)
arms_after [] = refl
arms_after (arm ∷ arms) = ap (λ l. code_id arm.body ∷ l) (arms_after arms)
