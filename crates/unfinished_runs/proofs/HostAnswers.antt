-- A host function that a process asks has an answer.
use Rattle.std.proofs.Common.{◌≡◌, ℕ, ℤ, pos, ◌&&◌, true, List, [], length, Some, arith}
use Rattle.std.specs.Prelude.{slice_get, nat_lt}
use Rattle.std.proofs.lemmas.Bool.{and_parts}
use Rattle.std.proofs.lemmas.Bool.Decides.{nat_tests}
use Rattle.std.proofs.lemmas.Option.{slice_get-get_or}
use Rattle.chor_base.specs.declared.names.NameId.{NameId}
use Rattle.chor_base.specs.Expr.{term_of, value_of, number_of}
use Rattle.chor_base.specs.Meaning.{meaning_named, MayAnswer}
use Rattle.chor_base.specs.Writing.{name_in}
use Rattle.chor_host.specs.Functions.{Function, names_of, hosts_in}
use Rattle.chor_host.proofs.Answerable.{has_answer}
use Rattle.endpoint_code.specs.declared.code.CodeNode.{CodeNode}
use Rattle.endpoint_code.specs.declared.code.CodeNode.TheVariants.{Join, Send, Recv, Pick, Branch, Throw, Catch, Set, Show, Host, If, Call, End}
use Rattle.endpoint_code.specs.declared.endpoints.Endpoints.{Endpoints}
use Rattle.endpoint_code.specs.Faults.{asks_known, is_listed}
use Rattle.endpoint_code.specs.Kept.{has_name, has_text, term_there, node_there}
use Rattle.endpoint_code.specs.Network.{Machine, Sessions}
use Rattle.endpoint_machine.specs.Acts.{NodeAnswers}
use Rattle.endpoint_machine.specs.Places.{StandsAt}
use Rattle.endpoint_machine.proofs.Actings.{known_there, numbered_there}
use Rattle.unfinished_runs.specs.Continuing.{AreRunnable}

has_word : (names : List (List ℕ)) (x : NameId) → has_name names x ≡ true → slice_get names x.0 ≡ Some (name_in names x)
has_word names x h = slice_get-get_or names x.0 [] (let t : nat_lt x.0 (length names) ≡ true = h in grind (arith, nat_tests))

module _ (functions : List Function) (e : Endpoints) (runnable : AreRunnable functions e) where
  number_answers : (f : NameId) → has_name e.names f ≡ true → is_listed (names_of functions) e f ≡ true → (a b : ℤ) → (v : ℤ) × MayAnswer (meaning_named (hosts_in e.names functions) f) a b v
  number_answers f there listed a b =
      has_answer e.names f (name_in e.names f) runnable.distinct (has_word e.names f there) functions runnable.answers listed a b

  -- the process at a node has an answer to what it asks there, if it asks
  pub answered : (m : Machine) (node : CodeNode) (ss : Sessions) → StandsAt e m node ss → (v : ℤ) × NodeAnswers (hosts_in e.names functions) m.vars node v
  answered m node ss st = go node (known_there (names_of functions) e m node ss runnable.faultless st) (numbered_there e m node ss st)
    where
      go : (o : CodeNode) → asks_known (is_listed (names_of functions) e) o ≡ true → node_there (has_name e.names) (has_text e.texts) o ≡ true → (v : ℤ) × NodeAnswers (hosts_in e.names functions) m.vars o v
      go (Host x f a b next) known there =
          let t = term_there (has_name e.names) (has_text e.texts) (term_of a) in
          let one = and_parts ((has_name e.names x && has_name e.names f) && t) (term_there (has_name e.names) (has_text e.texts) (term_of b)) there in
          let two = and_parts (has_name e.names x && has_name e.names f) t one.0 in
          let three = and_parts (has_name e.names x) (has_name e.names f) two.0 in
          number_answers f three.1 known (number_of (value_of (term_of a) m.vars)) (number_of (value_of (term_of b) m.vars))
      go (Join c r k next) known there = (pos 0, tt)
      go (Send k b x next) known there = (pos 0, tt)
      go (Recv k a x next) known there = (pos 0, tt)
      go (Pick k b l next) known there = (pos 0, tt)
      go (Branch k a arms) known there = (pos 0, tt)
      go (Throw k b g next) known there = (pos 0, tt)
      go (Catch k a g next) known there = (pos 0, tt)
      go (Set x v next) known there = (pos 0, tt)
      go (Show v next) known there = (pos 0, tt)
      go (If v c d) known there = (pos 0, tt)
      go (Call f p us) known there = (pos 0, tt)
      go End known there = (pos 0, tt)
