-- The generated file (this project's own): rounds one after another, each a session of its own. In an odd round a number goes
-- from p by q to the new process r and back; in an even one p tells q by a label whether that number is less than the
-- round's own.
use Rattle.std.specs.Prelude.{ℕ, Bool, ◌==◌, ◌%◌, if◌then◌else◌, List, [], ◌∷◌, ◌++◌, suc, zero, pos, codes}
use Rattle.chor_base.specs.declared.value.Value.TheVariants.{Int}
use Rattle.chor_base.specs.declared.value.Sort.TheVariants.{Int as Number}
use Rattle.chor_base.specs.declared.expr.BinOp.TheVariants.{Add, Lt}
use Rattle.chor_base.specs.Expr.{Term, Constant, Variable, Binary}
use Rattle.chor_tree.specs.Headers.{no_header}
use Rattle.chor_tree.specs.declared.file.Named.{Named}
use Rattle.chor_tree.specs.declared.file.ProcParam.{ProcParam}
use Rattle.chor_tree.specs.declared.file.Service.{Service}
use Rattle.chor_tree.specs.declared.protocol.Payload.TheVariants.{Plain}
use Rattle.chor_tree.specs.declared.protocol.ProtoStep.TheVariants.{End, Value, Choice}
use Rattle.chor_tree.specs.declared.protocol.State.{State}
use Rattle.chor_tree.specs.declared.tree.Part.{Part}
use Rattle.chor_tree.specs.Protocols.{Protocol}
use Rattle.chor_tree.specs.Source.{Statement, Starts, Sends, Selects, Block, Then, Either, Calls, Ends, Procedure, Source}
use Rattle.chor_gen.specs.Words.{beginning, procedure_word}

-- a whole number
abbrev pub literal : ℕ → Term
literal n = Constant (Int (pos n))

-- the number is odd
abbrev pub is_odd : ℕ → Bool
is_odd i = i % 2 == 1

-- `at` answers the name with these bytes
module _ (at : List ℕ → Named) where
  -- ---- protocols and services

  -- one role sends another a number in this state
  abbrev pub passes : (state from to next : List ℕ) → State
  passes s a b next = record { name = at s; step = Value (at a) (at b) (Plain Number) (at next) }

  -- a state after which nothing follows
  abbrev pub stops : List ℕ → State
  stops s = record { name = at s; step = End }

  -- the protocol of odd rounds
  abbrev pub round : Protocol
  round = record {
    name = at (codes "Round");
    roles = at (codes "A") ∷ at (codes "B") ∷ at (codes "C") ∷ [];
    states =
        passes (codes "s") (codes "A") (codes "B") (codes "t")
        ∷ passes (codes "t") (codes "B") (codes "C") (codes "u")
        ∷ passes (codes "u") (codes "C") (codes "A") (codes "v")
        ∷ stops (codes "v") ∷ [];
  }

  -- the protocol of even rounds
  abbrev pub fork : Protocol
  fork = record {
    name = at (codes "Fork");
    roles = at (codes "A") ∷ at (codes "B") ∷ [];
    states =
        record {
          name = at (codes "s");
          step = Choice (at (codes "A")) (at (codes "B")) (
              record { label = at (codes "more"); next = at (codes "t") }
              ∷ record { label = at (codes "less"); next = at (codes "t") } ∷ []);
        }
        ∷ stops (codes "t") ∷ [];
  }

  -- the channel of odd rounds
  abbrev pub round_service : Service
  round_service = record {
    name = at (codes "a");
    protocol = at (codes "Round");
    active = at (codes "A") ∷ at (codes "B") ∷ [];
    serve = at (codes "C") ∷ [];
  }

  -- the channel of even rounds
  abbrev pub fork_service : Service
  fork_service = record {
    name = at (codes "b");
    protocol = at (codes "Fork");
    active = at (codes "A") ∷ at (codes "B") ∷ [];
    serve = [];
  }

  -- ---- rounds

  -- p[A]
  abbrev pub part : List ℕ → List ℕ → Part
  part p r = record { process = at p; role = at r }

  -- the processes p and q
  abbrev pub p_and_q : List Named
  p_and_q = at (codes "p") ∷ at (codes "q") ∷ []

  -- a variable of this name
  abbrev pub variable : List ℕ → Term
  variable x = Variable (at x).name

  -- start channel(k): p[A], q[B] new ..
  abbrev pub starts : List ℕ → List Part → Statement
  starts channel serve = Starts (at channel) (at (codes "k")) (part (codes "p") (codes "A") ∷ part (codes "q") (codes "B") ∷ []) serve

  -- the start of an odd round's session, with a new process r
  abbrev pub start_round : Statement
  start_round = starts (codes "a") (part (codes "r") (codes "C") ∷ [])

  -- the start of an even round's session
  abbrev pub start_fork : Statement
  start_fork = starts (codes "b") []

  -- from[..].e -> to[..].x : k
  abbrev pub sends : Part → Term → Part → List ℕ → Statement
  sends from e to x = Sends from e to (at x).name (at (codes "k"))

  -- p[A].i -> q[B].x : k
  abbrev pub p_sends : ℕ → Statement
  p_sends i = sends (part (codes "p") (codes "A")) (literal i) (part (codes "q") (codes "B")) (codes "x")

  -- x + 1
  abbrev pub one_more : Term
  one_more = Binary Add (variable (codes "x")) (literal 1)

  -- q[B].x + 1 -> r[C].y : k
  abbrev pub q_sends : Statement
  q_sends = sends (part (codes "q") (codes "B")) one_more (part (codes "r") (codes "C")) (codes "y")

  -- r[C].y -> p[A].z : k
  abbrev pub r_sends : Statement
  r_sends = sends (part (codes "r") (codes "C")) (variable (codes "y")) (part (codes "p") (codes "A")) (codes "z")

  -- whether z is less than the number of the round
  abbrev pub is_less : ℕ → Term
  is_less i = Binary Lt (variable (codes "z")) (literal i)

  -- p[A] -> q[B] : k.l
  abbrev pub tells : List ℕ → Statement
  tells l = Selects (part (codes "p") (codes "A")) (part (codes "q") (codes "B")) (at (codes "k")) (at l).name

  -- call Fi(p, q)
  abbrev pub call : ℕ → Block
  call i = Calls beginning (at (procedure_word i)) p_and_q []

  -- what comes after the round with this number, of so many: the next one, or the end
  abbrev pub after_round : (count i : ℕ) → Block
  after_round count i = if i == count then Ends beginning else call (suc i)

  -- p sends i to q, which sends one more to the new process r, which sends that to p
  abbrev pub odd_round : (count i : ℕ) → Block
  odd_round count i =
      Then beginning start_round
      (Then beginning (p_sends i)
      (Then beginning q_sends
      (Then beginning r_sends
      (after_round count i))))

  -- p tells q a label, and the next round follows
  abbrev pub told : List ℕ → (count i : ℕ) → Block
  told l count i = Then beginning (tells l) (after_round count i)

  -- p tells whether z is less than the number of the round
  abbrev pub even_round : (count i : ℕ) → Block
  even_round count i =
      Then beginning start_fork
      (Either beginning (at (codes "p")) (is_less i) (told (codes "more") count i) (told (codes "less") count i))

  -- the body of round i
  abbrev pub body_of_round : (count i : ℕ) → Block
  body_of_round count i = if is_odd i then odd_round count i else even_round count i

  -- p needs the number of the round before where the round is even
  abbrev pub parameters : ℕ → List ProcParam
  parameters i =
      record { name = at (codes "p"); vars = if is_odd i then [] else (at (codes "z"), Number) ∷ [] }
      ∷ record { name = at (codes "q"); vars = [] } ∷ []

  -- the procedure of a round, of so many
  abbrev pub procedure : (count i : ℕ) → Procedure
  procedure count i = record {
    name = at (procedure_word i);
    params = parameters i;
    sessions = [];
    body = body_of_round count i;
  }

  -- the procedures up to this one
  abbrev pub procedures : (count i : ℕ) → List Procedure
  procedures count zero = []
  procedures count (suc i) = procedures count i ++ procedure count (suc i) ∷ []

  -- The source with so many rounds
  abbrev pub generated : ℕ → Source
  generated count = record {
    header = no_header;
    items = record {
      protocols = round ∷ fork ∷ [];
      services = round_service ∷ fork_service ∷ [];
      procedures = procedures count count;
    };
    processes = p_and_q;
    body = call 1;
  }
