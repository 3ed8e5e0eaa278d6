-- Numbers that are written have 64 bits.
use Rattle.std.proofs.Common.{◌≡◌, ◌<◌, ◌^◌, ℕ, ℤ, pos, negsuc, List, [], ◌∷◌, map, sym, ap, ◌∙◌, subst, arith}
use Rattle.std.specs.Prelude.{All, unsigned_abs}
use Rattle.std.specs.List.{AllByRecursion}
use Rattle.std.proofs.lemmas.List.Elements.{All-nil, All-cons}
use Rattle.chor_base.specs.declared.value.Value.TheVariants.{Int, Bool as Truth, Text, Part}
use Rattle.chor_base.specs.Expr.{Term, Constant, Variable, Unary, Binary, term_of}
use Rattle.endpoint_reader.specs.declared.input.Input.{Input}
use Rattle.endpoint_reader.specs.declared.node.Action.{Action}
use Rattle.endpoint_reader.specs.declared.node.Action.TheVariants.{Join, Send, Recv, Pick, Give, Gain, Set, Show, Host}
use Rattle.endpoint_reader.specs.declared.lines.LineId.{LineId}
use Rattle.endpoint_reader.specs.declared.written.Written.{Written}
use Rattle.endpoint_reader.specs.Tokens.{written}
use Rattle.endpoint_reader.specs.Nodes.{deed_of}
use Rattle.endpoint_reader.specs.Lines as text
use Rattle.endpoint_reader.specs.Files.{units_written}
use Rattle.endpoint_reader.specs.Units.{procedure_unit, service_unit, process_unit}
use Rattle.endpoint_code.specs.declared.endpoints.Procedure.{Procedure}
use Rattle.endpoint_code.specs.declared.endpoints.ServiceCode.{ServiceCode}
use Rattle.endpoint_code.specs.declared.endpoints.Process.{Process}
use Rattle.endpoint_code.specs.declared.endpoints.Endpoints.{Endpoints}
use Rattle.endpoint_code.specs.Trees.{code_at, tree_in}
use Rattle.endpoint_names.specs.Bodies.{Body, Does, Offers, Tests, Calls, Ends, Arms, NoArms, Arm, bodies_of, body_at}
use Rattle.endpoint_making.specs.Codes.{code_id, action_of, code_of, arms_of}
use Rattle.endpoint_making.specs.Making.{procedure_made, service_made, process_made, IsMadeOf}
use Rattle.endpoint_making.proofs.Codes.{code_in}
use Rattle.endpoint_making.proofs.Kept.{moved}
use Rattle.endpoint_check.specs.Programs.{AreProgramsOf}
use Rattle.endpoint_laws.proofs.Naming.{IsPhraseKnown, IsDeedNamed, IsBodyNamed, AreArmsNamed, IsProcedureNamed, IsServiceNamed, IsProcessNamed, AreUnitsNamed}
use Rattle.endpoint_laws.specs.Reading.{written_body, written_arms}
use Rattle.endpoint_laws.proofs.Trees.{bodies_written}
use Rattle.endpoint_laws.proofs.Verdicts.{named_so}
use Rattle.event_reader.specs.Known.{IsInt}
use Rattle.projected_programs.specs.Sizes.{IsTermSized, IsActionSized, IsCodeSized, AreArmsSized, AreLiteralsSized}

int_sized : (z : ℤ) → unsigned_abs z < 2 ^ 63 → IsInt z
int_sized (pos n) h = h
int_sized (negsuc n) h = omega arith

each : {X Y : Type 0} (Q : Y → Type 0) (P : X → Type 0) (g : X → Y) → ((x : X) → Q (g x) → P x) → (xs : List X) → AllByRecursion Q (map g xs) → All P xs
each Q P g f [] h = All-nil P
each Q P g f (x ∷ xs) h = All-cons P x xs (f x h.0) (each Q P g f xs h.1)

module _ (i : Input) where
  abbrev ns : List (List ℕ)
  ns = i.names.now

  abbrev xs : List (List ℕ)
  xs = i.texts.now

  -- ---- what is written

  term_sized : (t : Term) → IsPhraseKnown ns xs (written i t) → IsTermSized t
  term_sized (Constant (Int z)) h = int_sized z h
  term_sized (Constant (Truth b)) h = tt
  term_sized (Constant (Text t)) h = tt
  term_sized (Constant (Part s r)) h = tt
  term_sized (Variable x) h = tt
  term_sized (Unary op e) h = term_sized e h
  term_sized (Binary op e f) h = (term_sized e h.0, term_sized f h.1)

  action_sized : (a : Action) → IsDeedNamed ns xs (deed_of i a) → IsActionSized (action_of a)
  action_sized (Join c r k) h = tt
  action_sized (Send k b e) h = term_sized (term_of e) h.2
  action_sized (Recv k a x) h = tt
  action_sized (Pick k b l) h = tt
  action_sized (Give k b x) h = tt
  action_sized (Gain k a x) h = tt
  action_sized (Set x e) h = term_sized (term_of e) h.1
  action_sized (Show e) h = term_sized (term_of e) h
  action_sized (Host x f a b) h = (term_sized (term_of a) h.2, term_sized (term_of b) h.3)

  mutual
    body_sized : (b : Body) → IsBodyNamed ns xs (written_body i b) → IsCodeSized (code_of b)
    body_sized (Does a rest) h = (action_sized a h.0, body_sized rest h.1)
    body_sized (Offers k a arms) h = arms_sized arms h.2
    body_sized (Tests e first second) h = (term_sized (term_of e) h.2, body_sized first h.0, body_sized second h.1)
    body_sized (Calls p s) h = tt
    body_sized Ends h = tt

    arms_sized : (arms : Arms) → AreArmsNamed ns xs (written_arms i arms) → AreArmsSized (arms_of arms)
    arms_sized NoArms h = tt
    arms_sized (Arm l b others) h = (body_sized b h.1, arms_sized others h.2)

  -- ---- programs that are made of it

  module _ (w : Written) (e : Endpoints) (m : IsMadeOf w ns xs e) (h : AreUnitsNamed ns xs (units_written i w)) where
    at_sized : (id : LineId) → IsBodyNamed ns xs (text.body_at i w.lines.items id) → IsCodeSized (code_at e.code.nodes (code_id id))
    at_sized id k =
        let is : code_at e.code.nodes (code_id id) ≡ code_of (body_at w.lines.items id) = ap (λ ts. tree_in ts (code_id id)) m.code ∙ code_in (bodies_of w.lines.items) id in
        subst IsCodeSized (sym is) (body_sized (body_at w.lines.items id) (subst (IsBodyNamed ns xs) (sym (bodies_written i w.lines.items id)) k))

    made_sized : AreLiteralsSized e
    made_sized = record {
      procedures = moved (λ (p : Procedure). IsCodeSized (code_at e.code.nodes p.body)) procedure_made w.procedures e.procedures m.procedures
          (each (IsProcedureNamed ns xs) (λ p. IsCodeSized (code_at e.code.nodes (code_id p.body))) (procedure_unit i w.lines.items) (λ p k. at_sized p.body k.3) w.procedures h.1);
      services = moved (λ (s : ServiceCode). IsCodeSized (code_at e.code.nodes s.body)) service_made w.services e.services m.services
          (each (IsServiceNamed ns xs) (λ s. IsCodeSized (code_at e.code.nodes (code_id s.body))) (service_unit i w.lines.items) (λ s k. at_sized s.body k.2) w.services h.2);
      processes = moved (λ (p : Process). IsCodeSized (code_at e.code.nodes p.body)) process_made w.processes e.processes m.processes
          (each (IsProcessNamed ns xs) (λ p. IsCodeSized (code_at e.code.nodes (code_id p.body))) (process_unit i w.lines.items) (λ p k. at_sized p.body k.1) w.processes h.3);
    }

pub all_sized : {hosts : List (List ℕ)} {bytes : List ℕ} {e : Endpoints} → AreProgramsOf hosts bytes e → AreLiteralsSized e
all_sized {e = e} p = made_sized p.input p.written e p.made (named_so p.input p.tokens p.fine.written)
