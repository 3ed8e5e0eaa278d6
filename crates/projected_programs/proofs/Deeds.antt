-- Actions that are written so.
use Rattle.std.proofs.Common.{◌≡◌}
use Rattle.endpoint_grammar.specs.Written.{Deed, Joins, Sends, Receives, Selects, Gives, Gains, Sets, Shows, Asks}
use Rattle.endpoint_reader.specs.declared.input.Input.{Input}
use Rattle.endpoint_reader.specs.declared.node.Action.{Action}
use Rattle.endpoint_reader.specs.declared.node.Action.TheVariants.{Join, Send, Recv, Pick, Give, Gain, Set, Show, Host}
use Rattle.endpoint_reader.specs.Nodes.{deed_of}
use Rattle.endpoint_reader.specs.Known.{IsActionThere}
use Rattle.endpoint_laws.proofs.Naming.{IsDeedNamed}
use Rattle.projected_programs.proofs.Terms.{name_of, name_same, name_there, expression, expression_same, expression_there}

module _ (i : Input) where
  abbrev pub action : Deed → Action
  action (Joins c r k) = Join (name_of i c) (name_of i r) (name_of i k)
  action (Sends k b e) = Send (name_of i k) (name_of i b) (expression i e)
  action (Receives k a x) = Recv (name_of i k) (name_of i a) (name_of i x)
  action (Selects k b l) = Pick (name_of i k) (name_of i b) (name_of i l)
  action (Gives k b h) = Give (name_of i k) (name_of i b) (name_of i h)
  action (Gains k a h) = Gain (name_of i k) (name_of i a) (name_of i h)
  action (Sets x e) = Set (name_of i x) (expression i e)
  action (Shows e) = Show (expression i e)
  action (Asks x f a b) = Host (name_of i x) (name_of i f) (expression i a) (expression i b)

  pub action_same : (d : Deed) → IsDeedNamed i.names.now i.texts.now d → deed_of i (action d) ≡ d
  action_same (Joins c r k) h = λ j. Joins (name_same i c h.0 j) (name_same i r h.1 j) (name_same i k h.2 j)
  action_same (Sends k b e) h = λ j. Sends (name_same i k h.0 j) (name_same i b h.1 j) (expression_same i e h.2 j)
  action_same (Receives k a x) h = λ j. Receives (name_same i k h.0 j) (name_same i a h.1 j) (name_same i x h.2 j)
  action_same (Selects k b l) h = λ j. Selects (name_same i k h.0 j) (name_same i b h.1 j) (name_same i l h.2 j)
  action_same (Gives k b x) h = λ j. Gives (name_same i k h.0 j) (name_same i b h.1 j) (name_same i x h.2 j)
  action_same (Gains k a x) h = λ j. Gains (name_same i k h.0 j) (name_same i a h.1 j) (name_same i x h.2 j)
  action_same (Sets x e) h = λ j. Sets (name_same i x h.0 j) (expression_same i e h.1 j)
  action_same (Shows e) h = λ j. Shows (expression_same i e h j)
  action_same (Asks x f a b) h = λ j. Asks (name_same i x h.0 j) (name_same i f h.1 j) (expression_same i a h.2 j) (expression_same i b h.3 j)

  pub action_there : (d : Deed) → IsDeedNamed i.names.now i.texts.now d → IsActionThere i (action d)
  action_there (Joins c r k) h = (name_there i c h.0, name_there i r h.1, name_there i k h.2)
  action_there (Sends k b e) h = (name_there i k h.0, name_there i b h.1, expression_there i e h.2)
  action_there (Receives k a x) h = (name_there i k h.0, name_there i a h.1, name_there i x h.2)
  action_there (Selects k b l) h = (name_there i k h.0, name_there i b h.1, name_there i l h.2)
  action_there (Gives k b x) h = (name_there i k h.0, name_there i b h.1, name_there i x h.2)
  action_there (Gains k a x) h = (name_there i k h.0, name_there i a h.1, name_there i x h.2)
  action_there (Sets x e) h = (name_there i x h.0, expression_there i e h.1)
  action_there (Shows e) h = expression_there i e h
  action_there (Asks x f a b) h = (name_there i x h.0, name_there i f h.1, expression_there i a h.2, expression_there i b h.3)
