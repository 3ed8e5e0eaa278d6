-- Signatures of procedures and roles of channels, as they are written.
use Rattle.std.specs.Prelude.{ℕ, List, []}
use Rattle.std.proofs.Common.{inl, inr}
use Rattle.chor_lexer.specs.Lexeme.{Lexeme}
use Rattle.chor_lexer.specs.declared.mark.Mark.TheVariants.{Bar, CloseParen}
use Rattle.grammar.specs.Classes.{a_mark}
use Rattle.grammar.specs.Grammars.{alt, after}
use Rattle.endpoint_grammar.specs.Written.{Roles as WrittenRoles}
use Rattle.endpoint_grammar.specs.Grammar.{Part, role_of_channel, served, mark, signature}
use Rattle.endpoint_grammar.specs.Values.{Derived, session_list}
use Rattle.endpoint_reader.specs.declared.input.Input.{Input}
use Rattle.endpoint_reader.specs.declared.lists.Two.{Two}
use Rattle.endpoint_reader.specs.declared.lists.Three.{Three}
use Rattle.endpoint_reader.specs.declared.lists.Signature.{Signature}
use Rattle.endpoint_reader.specs.declared.roles.Roles.{Roles}
use Rattle.endpoint_reader.specs.Tokens.{named, all_named}

-- names, as they are written
abbrev pub two_of : Input → Two → Lexeme × Lexeme
two_of i x = (named i x.first, named i x.second)

abbrev pub three_of : Input → Three → Lexeme × (Lexeme × Lexeme)
three_of i x = (named i x.first, (named i x.second, named i x.third))

abbrev pub role_of : Input → Two → Derived role_of_channel
role_of i x = (named i x.first, (tt, (named i x.second, tt)))

-- a procedure and its parameter, and the sessions
abbrev pub signed : Derived signature → (Lexeme × Lexeme) × List Lexeme
signed ((f, x), (o, (ss, c))) = ((f, x), session_list ss)

abbrev pub signature_of : Input → Signature → (Lexeme × Lexeme) × List Lexeme
signature_of i s = ((named i s.name, named i s.param), all_named i s.sessions)

-- the roles that were read, as their tokens write them
abbrev pub roles_written : Input → Roles → WrittenRoles
roles_written i r = record { active = all_named i r.active; serve = all_named i r.serve }

-- what comes after the active roles of a channel, where so many service roles may come
abbrev pub serving : ℕ → Part
serving n = alt (after (a_mark Bar) (served n)) (mark CloseParen)

abbrev pub serve_list : (n : ℕ) → Derived (serving n) → List Lexeme
serve_list n (inl xs) = xs
serve_list n (inr v) = []
