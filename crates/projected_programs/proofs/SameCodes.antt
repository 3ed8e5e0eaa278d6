-- Bodies that are written alike are made into the same code.
use Rattle.std.proofs.Common.{◌≡◌}
use Rattle.chor_base.specs.Expr.{term_of}
use Rattle.endpoint_reader.specs.declared.input.Input.{Input}
use Rattle.endpoint_reader.specs.declared.node.Action.{Action}
use Rattle.endpoint_reader.specs.declared.node.Action.TheVariants.{Join, Send, Recv, Pick, Give, Gain, Set, Show, Host}
use Rattle.endpoint_reader.specs.Known.{IsActionThere}
use Rattle.endpoint_reader.specs.Nodes.{deed_of}
use Rattle.endpoint_code.specs.declared.endpoints.Endpoints.{Endpoints}
use Rattle.endpoint_code.specs.Labels.{here}
use Rattle.endpoint_names.specs.Bodies.{Body, Does, Offers, Tests, Calls, Ends, Arms, NoArms, Arm}
use Rattle.endpoint_making.specs.Codes.{action_of, code_of, arms_of}
use Rattle.endpoint_laws.specs.Reading.{written_body, written_arms}
use Rattle.same_programs.specs.Codes as same
use Rattle.same_programs.specs.Codes.{SameAction, SameCode, SameArms}
use Rattle.endpoint_laws.proofs.There.{IsBodyThere, AreArmsThere}
use Rattle.projected_programs.proofs.SameTerms.{HaveTables, N, T, name_same, names_same, term_same}

module _ {e f : Endpoints} {i j : Input} (tables : HaveTables e f i j) where
  action_same : (a b : Action) → IsActionThere i a → IsActionThere j b → deed_of i a ≡ deed_of j b → SameAction (N tables) (T tables) (action_of a) (action_of b)
  action_same (Join c r k) (Join d q h) g o s = same.joins (name_same tables c d g.0 o.0 cc) (name_same tables r q g.1 o.1 cc) (name_same tables k h g.2 o.2 cc)
  action_same (Send k b t) (Send h c u) g o s = same.sends (name_same tables k h g.0 o.0 cc) (name_same tables b c g.1 o.1 cc) (term_same tables (term_of t) (term_of u) g.2 o.2 cc)
  action_same (Recv k a x) (Recv h b y) g o s = same.receives (name_same tables k h g.0 o.0 cc) (name_same tables a b g.1 o.1 cc) (name_same tables x y g.2 o.2 cc)
  action_same (Pick k b l) (Pick h c m) g o s = same.selects (name_same tables k h g.0 o.0 cc) (name_same tables b c g.1 o.1 cc) (name_same tables l m g.2 o.2 cc)
  action_same (Give k b x) (Give h c y) g o s = same.gives (name_same tables k h g.0 o.0 cc) (name_same tables b c g.1 o.1 cc) (name_same tables x y g.2 o.2 cc)
  action_same (Gain k a x) (Gain h b y) g o s = same.gains (name_same tables k h g.0 o.0 cc) (name_same tables a b g.1 o.1 cc) (name_same tables x y g.2 o.2 cc)
  action_same (Set x t) (Set y u) g o s = same.sets (name_same tables x y g.0 o.0 cc) (term_same tables (term_of t) (term_of u) g.1 o.1 cc)
  action_same (Show t) (Show u) g o s = same.shows (term_same tables (term_of t) (term_of u) g o cc)
  action_same (Host x k l r) (Host y h t u) g o s =
      same.asks (name_same tables x y g.0 o.0 cc) (name_same tables k h g.1 o.1 cc) (term_same tables (term_of l) (term_of t) g.2 o.2 cc) (term_same tables (term_of r) (term_of u) g.3 o.3 cc)
  action_same a b g o s = absurd cc

  mutual
    pub body_same : (b c : Body) → IsBodyThere i b → IsBodyThere j c → written_body i b ≡ written_body j c → SameCode (N tables) (T tables) (code_of b) (code_of c)
    body_same (Does a rest) (Does d more) g o s = same.does (action_same a d g.0 o.0 cc) (body_same rest more g.1 o.1 cc)
    body_same (Offers k a arms) (Offers h b others) g o s = same.offers (name_same tables k h g.0 o.0 cc) (name_same tables a b g.1 o.1 cc) (arms_same arms others g.2 o.2 cc)
    body_same (Tests t a b) (Tests u c d) g o s = same.tests (term_same tables (term_of t) (term_of u) g.0 o.0 cc) (body_same a c g.1 o.1 cc) (body_same b d g.2 o.2 cc)
    body_same (Calls p x) (Calls q y) g o s =
        same.calls (name_same tables x.name y.name g.0 o.0 cc) (name_same tables x.param y.param g.1 o.1 cc) (names_same tables x.sessions y.sessions g.2 o.2 cc)
    body_same Ends Ends g o s = same.ends
    body_same b c g o s = absurd cc

    arms_same : (arms others : Arms) → AreArmsThere i arms → AreArmsThere j others → written_arms i arms ≡ written_arms j others → SameArms (N tables) (T tables) (arms_of arms) (arms_of others)
    arms_same NoArms NoArms g o s = same.no_arm
    arms_same (Arm l b rest) (Arm m c more) g o s = same.one_arm (name_same tables l m g.0 o.0 cc) (body_same b c g.1 o.1 cc) here (arms_same rest more g.2 o.2 cc)
    arms_same a b g o s = absurd cc
