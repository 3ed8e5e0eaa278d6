-- The bodies that are judged are those that are written.
use Rattle.std.proofs.Common.{◌≡◌, ◌==◌, ◌<◌, ℕ, Bool, true, false, Some, length, List, [], ◌∷◌, map, refl, ap, sym, ◌∙◌}
use Rattle.std.proofs.Math.ListN.{get_or-map}
use Rattle.std.specs.Prelude.{bytes_eq, slice_get, slice_index_or}
use Rattle.std.proofs.lemmas.Slice.Eq.{bytes_eq-Decides}
use Rattle.std.proofs.lemmas.Option.{slice_get-get_or}
use Rattle.std.proofs.lemmas.Bool.{eqb-true}
use Rattle.node_table.proofs.Tables.{trees_alike}
use Rattle.chor_base.specs.declared.names.NameId.{NameId}
use Rattle.chor_base.specs.Words.{AllDistinct}
use Rattle.chor_base.specs.Writing.{name_in}
use Rattle.endpoint_reader.specs.declared.input.Input.{Input}
use Rattle.endpoint_reader.specs.declared.lines.LineId.{LineId}
use Rattle.endpoint_reader.specs.declared.lines.Arm.{Arm as OneArm}
use Rattle.endpoint_reader.specs.declared.lines.Line.{Line}
use Rattle.endpoint_reader.specs.declared.lines.Line.TheVariants as line
use Rattle.endpoint_reader.specs.Lines as lines
use Rattle.endpoint_names.specs.Bodies.{Body, Ends, body_in, arms_in, line_body, bodies_of, body_at}
use Rattle.endpoint_laws.proofs.Lists.{count_same}
use Rattle.endpoint_laws.specs.Reading.{written_body, written_arms}

module _ (i : Input) where
  in_same : (bs : List Body) (id : LineId) → written_body i (body_in bs id) ≡ lines.body_in (map (written_body i) bs) id
  in_same bs id = sym (get_or-map (written_body i) bs id.0 Ends)

  arms_same : (bs : List Body) (arms : List OneArm) → written_arms i (arms_in bs arms) ≡ lines.arms_in i (map (written_body i) bs) arms
  arms_same bs [] = refl
  arms_same bs (arm ∷ arms) = let e = in_same bs arm.body in let f = arms_same bs arms in cc

  line_same : (bs : List Body) (l : Line) → written_body i (line_body bs l) ≡ lines.line_body i (map (written_body i) bs) l
  line_same bs (line.Act a next) = let e = in_same bs next in cc
  line_same bs (line.Branch k a arms) = let e = arms_same bs arms in cc
  line_same bs (line.If t first second) = let e = in_same bs first in let f = in_same bs second in cc
  line_same bs (line.Call p s) = refl
  line_same bs line.End = refl

  pub bodies_written : (ls : List Line) (id : LineId) → written_body i (body_at ls id) ≡ lines.body_at i ls id
  bodies_written ls id =
      let alike = trees_alike line_body (lines.line_body i) (written_body i) (λ bs l. sym (line_same bs l)) ls in
      in_same (bodies_of ls) id ∙ ap (λ bs. lines.body_in bs id) (sym alike)

-- names are the same where their words are
pub names_words : (names : List (List ℕ)) (x y : NameId) → AllDistinct names → x.0 < length names → y.0 < length names → (x.0 == y.0) ≡ bytes_eq (name_in names x) (name_in names y)
names_words names x y distinct a b = go (x.0 == y.0) (bytes_eq (name_in names x) (name_in names y)) refl refl where
  word_at : (z : NameId) → z.0 < length names → slice_get names z.0 ≡ Some (name_in names z)
  word_at z lt = slice_get-get_or names z.0 [] lt

  go : (c d : Bool) → (x.0 == y.0) ≡ c → bytes_eq (name_in names x) (name_in names y) ≡ d → c ≡ d
  go true true e f = refl
  go false false e f = refl
  go true false e f =
      let same : name_in names x ≡ name_in names y = ap (λ n. slice_index_or names n []) (eqb-true x.0 y.0 e) in
      let t : bytes_eq (name_in names x) (name_in names y) ≡ true = (bytes_eq-Decides (name_in names x) (name_in names y)).1 same in cc
  go false true e f =
      let same : name_in names x ≡ name_in names y = (bytes_eq-Decides (name_in names x) (name_in names y)).0 f in
      let n : x.0 ≡ y.0 = distinct x.0 y.0 (name_in names y) (word_at x a ∙ ap (λ w. Some w) same) (word_at y b) in
      let t : (x.0 == y.0) ≡ true = count_same x.0 y.0 n in cc
