-- Each body stands in some table of lines, after all lines that are there.
use Rattle.std.proofs.Common.{◌≡◌, ◌<◌, List, [], ◌∷◌, ◌++◌, length, map, refl, sym, ◌∙◌}
use Rattle.std.specs.Prelude.{All, codes}
use Rattle.std.proofs.lemmas.List.Elements.{All-nil, All-cons}
use Rattle.chor_base.proofs.Tables.{closed_more}
use Rattle.chor_lexer.specs.Lexeme.{word, Lexeme}
use Rattle.endpoint_grammar.specs.Written.{Body, Does, Offers, Tests, Calls, Ends, Arms, NoArms, Arm}
use Rattle.endpoint_reader.specs.declared.input.Input.{Input}
use Rattle.endpoint_reader.specs.declared.lines.LineId.{LineId}
use Rattle.endpoint_reader.specs.declared.lines.Arm.{Arm as OneArm}
use Rattle.endpoint_reader.specs.declared.lines.Line.{Line}
use Rattle.endpoint_reader.specs.declared.lines.Line.TheVariants as line
use Rattle.endpoint_reader.specs.Lines.{nexts_of, IsClosed, arms_in, line_body, bodies_of, body_at}
use Rattle.endpoint_reader.specs.Bodies.{Grows}
use Rattle.endpoint_reader.specs.Known.{IsThere, AreLabelsThere, IsLineThere, AreLinesThere}
use Rattle.endpoint_reader.proofs.Known.{one_more_line}
use Rattle.endpoint_reader.proofs.Tables.{grows_none, grows_by, grows_on, no_fewer, last_there, body_stays, body_pushed}
use Rattle.endpoint_laws.proofs.Naming.{IsBodyNamed, AreArmsNamed}
use Rattle.projected_programs.proofs.Terms.{name_of, names_of, name_same, name_there, names_same, names_there, expression, expression_same, expression_there}
use Rattle.projected_programs.proofs.Deeds.{action, action_same, action_there}

module _ (i : Input) where
  -- lines with names and texts that are in the tables
  pub record IsTable (ls : List Line) : Type 0 where
    pub closed : IsClosed ls
    pub there : AreLinesThere i ls

  -- the lines of a body, after older ones
  pub record Laid (old : List Line) (b : Body) : Type 0 where
    pub lines : List Line
    pub root : LineId
    pub grows : Grows old lines
    pub table : IsTable lines
    pub inside : root.0 < length lines
    pub is : body_at i lines root ≡ b

  -- the lines of the bodies of arms, after older ones
  pub record LaidArms (old : List Line) (arms : Arms) : Type 0 where
    pub lines : List Line
    pub arms_are : List OneArm
    pub grows : Grows old lines
    pub table : IsTable lines
    pub inside : All (λ next. next.0 < length lines) (map (λ arm. arm.body) arms_are)
    pub labels : AreLabelsThere i arms_are
    pub is : arms_in i (bodies_of i lines) arms_are ≡ arms

  abbrev next_id : List Line → LineId
  next_id lines = record { 0 = length lines }

  -- a line after those that follow it
  pushed : {old lines : List Line} {b : Body} (l : Line) → Grows old lines → IsTable lines → All (λ next. next.0 < length lines) (nexts_of l) → IsLineThere i l → line_body i (bodies_of i lines) l ≡ b → Laid old b
  pushed {lines = lines} l grows table inside there is =
      let id : LineId = next_id lines in
      record {
        lines = lines ++ l ∷ [];
        root = id;
        grows = grows_on grows (grows_by l refl);
        table = record { closed = closed_more (λ x. x.0) nexts_of lines l table.closed inside; there = one_more_line i lines (lines ++ l ∷ []) l table.there there refl };
        inside = last_there {id = id} lines l refl refl;
        is = body_pushed {id = id} i lines l refl refl ∙ is;
      }

  one_inside : (lines : List Line) (x : LineId) → x.0 < length lines → All (λ next. next.0 < length lines) (x ∷ [])
  one_inside lines x h = All-cons (λ next. next.0 < length lines) x [] h (All-nil (λ next. next.0 < length lines))

  call_is : (c f x : Lexeme) (ss : List Lexeme) → c.symbol ≡ word (codes "call") → Calls (record { symbol = word (codes "call"); place = c.place }) f x ss ≡ Calls c f x ss
  call_is c f x ss e = λ j. Calls (record { symbol = sym e j; place = c.place }) f x ss

  mutual
    pub laid : (old : List Line) → IsTable old → (b : Body) → IsBodyNamed i.names.now i.texts.now b → Laid old b
    laid old table (Does d rest) h =
        let l = laid old table rest h.1 in
        pushed (line.Act (action i d) l.root) l.grows l.table (one_inside l.lines l.root l.inside) (action_there i d h.0) (λ j. Does (action_same i d h.0 j) (l.is j))
    laid old table (Offers k a arms) h =
        let l = laid_arms old table arms h.2 in
        pushed (line.Branch (name_of i k) (name_of i a) l.arms_are) l.grows l.table l.inside (name_there i k h.0, name_there i a h.1, l.labels) (λ j. Offers (name_same i k h.0 j) (name_same i a h.1 j) (l.is j))
    laid old table (Tests e first second) h =
        let l = laid old table first h.0 in
        let r = laid l.lines l.table second h.1 in
        let stays = body_stays {id = l.root} i r.grows l.inside ∙ l.is in
        pushed (line.If (expression i e) l.root r.root) (grows_on l.grows r.grows) r.table
        (All-cons (λ next. next.0 < length r.lines) l.root (r.root ∷ []) (no_fewer {id = l.root} r.grows l.inside) (one_inside r.lines r.root r.inside))
        (expression_there i e h.2) (λ j. Tests (expression_same i e h.2 j) (stays j) (r.is j))
    laid old table (Calls c f x ss) h =
        pushed (line.Call c.place (record { name = name_of i f; param = name_of i x; sessions = names_of i ss })) (grows_none old) table (All-nil (λ next. next.0 < length old))
        (name_there i f h.0, name_there i x h.1, names_there i ss h.2)
        ((λ j. Calls (record { symbol = word (codes "call"); place = c.place }) (name_same i f h.0 j) (name_same i x h.1 j) (names_same i ss h.2 j)) ∙ call_is c f x ss h.3)
    laid old table Ends h = pushed line.End (grows_none old) table (All-nil (λ next. next.0 < length old)) tt refl

    laid_arms : (old : List Line) → IsTable old → (arms : Arms) → AreArmsNamed i.names.now i.texts.now arms → LaidArms old arms
    laid_arms old table NoArms h = record {
      lines = old;
      arms_are = [];
      grows = grows_none old;
      table = table;
      inside = All-nil (λ next. next.0 < length old);
      labels = All-nil (λ arm. IsThere i arm.label);
      is = refl;
    }
    laid_arms old table (Arm l b rest) h =
        let first = laid old table b h.1 in
        let r = laid_arms first.lines first.table rest h.2 in
        let stays = body_stays {id = first.root} i r.grows first.inside ∙ first.is in
        let arm : OneArm = record { label = name_of i l; body = first.root } in
        record {
          lines = r.lines;
          arms_are = arm ∷ r.arms_are;
          grows = grows_on first.grows r.grows;
          table = r.table;
          inside = All-cons (λ next. next.0 < length r.lines) first.root (map (λ a. a.body) r.arms_are) (no_fewer {id = first.root} r.grows first.inside) r.inside;
          labels = All-cons (λ a. IsThere i a.label) arm r.arms_are (name_there i l h.0) r.labels;
          is = λ j. Arm (name_same i l h.0 j) (stays j) (r.is j);
        }
