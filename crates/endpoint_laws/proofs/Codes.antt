-- Bodies that say code are made into the same code.
use Rattle.std.proofs.Common.{◌≡◌, ℕ, List, [], ◌∷◌, Some, sym, ap, ◌∙◌, subst}
use Rattle.std.specs.Prelude.{slice_get}
use Rattle.std.specs.List.{AllZip}
use Rattle.std.proofs.lemmas.Option.{slice_get-get_or}
use Rattle.chor_base.specs.declared.names.NameId.{NameId}
use Rattle.chor_base.specs.Expr.{term_of}
use Rattle.chor_base.specs.Writing.{name_in}
use Rattle.endpoint_reader.specs.declared.input.Input.{Input}
use Rattle.endpoint_reader.specs.declared.input.Named.{Named}
use Rattle.endpoint_reader.specs.declared.node.Action.{Action as Deed}
use Rattle.endpoint_reader.specs.declared.node.Action.TheVariants as deed
use Rattle.endpoint_reader.specs.Known.{IsActionThere}
use Rattle.endpoint_reader.specs.Tokens.{named, all_named}
use Rattle.endpoint_reader.specs.Nodes.{deed_of}
use Rattle.endpoint_code.specs.declared.endpoints.Endpoints.{Endpoints}
use Rattle.endpoint_code.specs.Trees.{Action, CodeTree, Arms}
use Rattle.endpoint_names.specs.Bodies as body
use Rattle.endpoint_names.specs.Faults.{names_in}
use Rattle.endpoint_making.specs.Codes.{action_of, code_of, arms_of}
use Rattle.endpoint_laws.specs.Reading.{written_body, written_arms}
use Rattle.same_programs.specs.Words.{SameName, SameText}
use Rattle.same_programs.specs.Codes as same
use Rattle.same_programs.specs.Codes.{SameAction, SameCode, SameArms}
use Rattle.endpoint_code.specs.Labels.{here}
use Rattle.endpoint_laws.specs.Spelled.{IsNamed, AreNamed, IsActionSpelled, IsCodeSpelled, AreArmsSpelled}
use Rattle.endpoint_laws.specs.Says.{Names, AllName, DeedSays, joins, sends, receives, selects, gives, gains, sets, shows, asks, BodySays, does, offers, tests, calls, ends, ArmsSay, no_arm, one_arm}
use Rattle.endpoint_laws.proofs.PrintedFaults.{IsSame, AreSame, is_same}
use Rattle.endpoint_laws.proofs.Terms.{term_same}
use Rattle.endpoint_laws.proofs.There.{IsBodyThere, AreArmsThere}

module _ (e e' : Endpoints) (i : Input) (names_are : e'.names ≡ i.names.now) (texts_are : e'.texts ≡ i.texts.now) where
  abbrev pub N : NameId → NameId → Type 0
  N x y = SameName e e' x y

  abbrev pub T : ℕ → ℕ → Type 0
  T t u = SameText e e' t u

  -- ---- names

  pub name_same : {x n : NameId} → IsSame e i x n → N x n
  name_same {x} {n} h =
      let there : slice_get i.names.now n.0 ≡ Some (name_in e.names x) = slice_get-get_or i.names.now n.0 [] h.second ∙ ap Some (sym h.words) in
      record { word = name_in e.names x; here = slice_get-get_or e.names x.0 [] h.first; there = subst (λ (ns : List (List ℕ)). slice_get ns n.0 ≡ Some (name_in e.names x)) (sym names_are) there }

  pub names_same : (xs ns : List NameId) → AreSame e i xs ns → AllZip N xs ns
  names_same [] [] h = tt
  names_same [] (n ∷ ns) h = absurd h
  names_same (x ∷ xs) [] h = absurd h
  names_same (x ∷ xs) (n ∷ ns) h = (name_same h.0, names_same xs ns h.1)

  said : {x : NameId} (k : Named) → IsNamed e x → Names e x (named i k) → N x k.name
  said k h s = name_same (is_same e i k h s)

  all_said : (xs : List NameId) (ks : List Named) → AreNamed e xs → AllName e xs (all_named i ks) → AllZip N xs (names_in ks)
  all_said [] [] h s = tt
  all_said [] (k ∷ ks) h s = absurd s
  all_said (x ∷ xs) [] h s = absurd s
  all_said (x ∷ xs) (k ∷ ks) h s = (said k h.0 s.0, all_said xs ks h.1 s.1)

  -- ---- code

  action_same : (a : Action) (d : Deed) → DeedSays e a (deed_of i d) → IsActionSpelled e a → IsActionThere i d → SameAction N T a (action_of d)
  action_same a (deed.Join c r k) (joins p q o) h g = same.joins (said c h.0 p) (said r h.1 q) (said k h.2 o)
  action_same a (deed.Send k b t) (sends {t = u} p q o) h g = same.sends (said k h.0 p) (said b h.1 q) (term_same e e' i names_are texts_are u (term_of t) h.2 g.2 o)
  action_same a (deed.Recv k b x) (receives p q o) h g = same.receives (said k h.0 p) (said b h.1 q) (said x h.2 o)
  action_same a (deed.Pick k b l) (selects p q o) h g = same.selects (said k h.0 p) (said b h.1 q) (said l h.2 o)
  action_same a (deed.Give k b x) (gives p q o) h g = same.gives (said k h.0 p) (said b h.1 q) (said x h.2 o)
  action_same a (deed.Gain k b x) (gains p q o) h g = same.gains (said k h.0 p) (said b h.1 q) (said x h.2 o)
  action_same a (deed.Set x t) (sets {t = u} p o) h g = same.sets (said x h.0 p) (term_same e e' i names_are texts_are u (term_of t) h.1 g.1 o)
  action_same a (deed.Show t) (shows {t = u} o) h g = same.shows (term_same e e' i names_are texts_are u (term_of t) h g o)
  action_same a (deed.Host x f l r) (asks {t = t} {u = u} p q o v) h g =
      same.asks (said x h.0 p) (said f h.1 q) (term_same e e' i names_are texts_are t (term_of l) h.2 g.2 o) (term_same e e' i names_are texts_are u (term_of r) h.3 g.3 v)

  mutual
    pub body_same : (c : CodeTree) (b : body.Body) → BodySays e c (written_body i b) → IsCodeSpelled e c → IsBodyThere i b → SameCode N T c (code_of b)
    body_same c (body.Does d rest) (does {a = a} {c = q} p r) h g = same.does (action_same a d p h.0 g.0) (body_same q rest r h.1 g.1)
    body_same c (body.Offers k a others) (offers {arms = arms} p q r) h g = same.offers (said k h.0 p) (said a h.1 q) (arms_same arms others r h.2 g.2)
    body_same c (body.Tests t first second) (tests {t = u} {c = q} {d = p} o a b) h g =
        same.tests (term_same e e' i names_are texts_are u (term_of t) h.0 g.0 o) (body_same q first a h.1 g.1) (body_same p second b h.2 g.2)
    body_same c (body.Calls at sig) (calls {ss = ss} p q o) h g = same.calls (said sig.name h.0 p) (said sig.param h.1 q) (all_said ss sig.sessions h.2 o)
    body_same c body.Ends ends h g = same.ends

    arms_same : (arms : Arms) (others : body.Arms) → ArmsSay e arms (written_arms i others) → AreArmsSpelled e arms → AreArmsThere i others → SameArms N T arms (arms_of others)
    arms_same arms body.NoArms no_arm h g = same.no_arm
    arms_same arms (body.Arm l b others) (one_arm {c = c} {arms = rest} p q r) h g =
        same.one_arm (said l h.0 p) (body_same c b q h.1 g.1) here (arms_same rest others r h.2 g.2)
