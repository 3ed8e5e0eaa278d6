-- Nodes by their first words.
use Rattle.std.specs.Prelude.{ℕ, List, Some, codes}
use Rattle.chor_base.specs.Expr.{term_of}
use Rattle.chor_base.specs.declared.rule.Rule.TheVariants.{E4}
use Rattle.chor_lexer.specs.Lexeme.{Lexeme}
use Rattle.grammar.specs.Grammars.{within}
use Rattle.grammar.specs.Readers.{Tells}
use Rattle.endpoint_grammar.specs.Written.{Deed, Joins, Sends, Receives, Selects, Gives, Gains, Sets, Shows, Asks}
use Rattle.endpoint_grammar.specs.Grammar.{Part, node, join, send, three_names, set, expr, host}
use Rattle.endpoint_grammar.specs.Values.{rules, Derived, phrase, deed}
use Rattle.endpoint_reader.specs.declared.input.Input.{Input}
use Rattle.endpoint_reader.specs.declared.node.Action.{Action}
use Rattle.endpoint_reader.specs.declared.node.Action.TheVariants as action
use Rattle.endpoint_reader.specs.declared.node.Exchange.{Exchange}
use Rattle.endpoint_reader.specs.declared.node.Exchange.TheVariants as exchange
use Rattle.endpoint_reader.specs.declared.node.NodeWord.{NodeWord}
use Rattle.endpoint_reader.specs.declared.node.NodeWord.TheVariants as begun
use Rattle.endpoint_reader.specs.Tokens.{from, named, written}

-- an action, as it is written
abbrev pub deed_of : Input → Action → Deed
deed_of i (action.Join c r k) = Joins (named i c) (named i r) (named i k)
deed_of i (action.Send k b e) = Sends (named i k) (named i b) (written i (term_of e))
deed_of i (action.Recv k a x) = Receives (named i k) (named i a) (named i x)
deed_of i (action.Pick k b l) = Selects (named i k) (named i b) (named i l)
deed_of i (action.Give k b h) = Gives (named i k) (named i b) (named i h)
deed_of i (action.Gain k a h) = Gains (named i k) (named i a) (named i h)
deed_of i (action.Set x e) = Sets (named i x) (written i (term_of e))
deed_of i (action.Show e) = Shows (written i (term_of e))
deed_of i (action.Host x f a b) = Asks (named i x) (named i f) (written i (term_of a)) (written i (term_of b))

abbrev pub exchange_word : Exchange → List ℕ
exchange_word exchange.Recv = codes "recv"
exchange_word exchange.Pick = codes "pick"
exchange_word exchange.Give = codes "give"
exchange_word exchange.Gain = codes "gain"

abbrev pub first_word : NodeWord → List ℕ
first_word begun.Join = codes "join"
first_word begun.Send = codes "send"
first_word (begun.Exchange w) = exchange_word w
first_word begun.Set = codes "set"
first_word begun.Show = codes "show"
first_word begun.Host = codes "host"

-- what comes after the first word
abbrev pub rest_of : NodeWord → Part
rest_of begun.Join = join
rest_of begun.Send = send
rest_of (begun.Exchange w) = three_names
rest_of begun.Set = set
rest_of begun.Show = expr
rest_of begun.Host = host

-- a node by its three names
abbrev pub exchanged : Exchange → Lexeme → Lexeme → Lexeme → Deed
exchanged exchange.Recv k a x = Receives k a x
exchanged exchange.Pick k b l = Selects k b l
exchanged exchange.Give k b h = Gives k b h
exchanged exchange.Gain k a h = Gains k a h

abbrev pub deed_by : (w : NodeWord) → Derived (rest_of w) → Deed
deed_by begun.Join ((c, (m, (r, k))), (o, (s, p))) = Joins c r s
deed_by begun.Send ((k, b), e) = Sends k b (phrase e)
deed_by (begun.Exchange w) (k, (a, x)) = exchanged w k a x
deed_by begun.Set (x, e) = Sets x (phrase e)
deed_by begun.Show e = Shows (phrase e)
deed_by begun.Host ((x, f), (o, (a, (m, (b, p))))) = Asks x f (phrase a) (phrase b)

-- a node was read, on a path with room for so many
abbrev pub IsNode : Input → ℕ → ℕ → Action × ℕ → Type 0
IsNode i room at x = Tells rules (within E4 (Some room) node) deed (from i at) (deed_of i x.0) (from i x.1)
