-- What is told of the order of a run's events (this project's own).
use Rattle.std.specs.Prelude.{ℕ, ◌≡◌, List, [], ◌∷◌, ◌++◌, length, Option, Vec, Result, Ok, Err}
use Rattle.std.specs.declared.alloc.Global.{Global}
use Rattle.chor_base.specs.declared.event.Event.{Event}
use Rattle.chor_base.specs.Meaning.{Hosts}
use Rattle.chor_tree.specs.declared.file.File.{File}
use Rattle.chor_semantics.specs.Runs.{IsRun, IsEndedRun}
use Rattle.command_words.specs.declared.order_form.OrderForm.{OrderForm}
use Rattle.command_words.specs.declared.order_form.OrderForm.TheVariants.{Whole, Pair, Lead}
use Rattle.transcript.specs.Text.{Words, transcript}
use Rattle.transcript_lines.specs.declared.last.Last.TheVariants.{Limit}
use Rattle.transcript_lines.specs.Lines.{lines_of}
use Rattle.transcript_lines.specs.Last.{last_text}
use Rattle.program_runs.specs.Books.{book_of}
use Rattle.event_orders.specs.Orders.{permuted}
use Rattle.event_orders.specs.CausalPast.{IsCausalPast}
use Rattle.causal_order.specs.Orders.{AreCauses}
use Rattle.event_files.specs.Files as files
use Rattle.accepted_replays.specs.Events.{HasSourceEvents}
use Rattle.accepted_orders.specs.declared.fault.OrderFault.{OrderFault}
use Rattle.accepted_orders.specs.declared.fault.OrderFault.TheVariants.{Unmatched, Beyond, Memory}
use Rattle.accepted_orders.specs.declared.relation.Relation.{Relation}
use Rattle.accepted_orders.specs.Numbers.{IsNumberOf, IsBeyond}
use Rattle.accepted_orders.specs.Relations.{Stand}
use Rattle.accepted_orders.specs.Texts.{order_text, relation_text}

-- the text tells the causes of each event
pub record TellsCauses (capacity : Option ℕ) (h : List Event) (text : List ℕ) : Type 0 where
  pub causes : List (List ℕ)
  pub are : AreCauses h capacity causes
  pub text_is : text ≡ order_text causes

-- the text tells how the events with these numbers stand to each other
pub record TellsRelation (capacity : Option ℕ) (h : List Event) (first second : ℕ) (text : List ℕ) : Type 0 where
  pub i : ℕ
  pub j : ℕ
  pub first_is : IsNumberOf (length h) first i
  pub second_is : IsNumberOf (length h) second j
  pub relation : Relation
  pub stand : Stand h capacity i j relation
  pub text_is : text ≡ relation_text relation ++ 10 ∷ []

-- so it tells this of any events with these causes
abbrev pub TellsRelationBy : List (List ℕ) → ℕ → ℕ → List ℕ → Type 0
TellsRelationBy causes first second text =
    (capacity : Option ℕ) (h : List Event) → AreCauses h capacity causes → TellsRelation capacity h first second text

-- the text is a transcript of the causal past of the event with this number, to its limit
pub record TellsPast (w : Words) (capacity : Option ℕ) (h : List Event) (number : ℕ) (text : List ℕ) : Type 0 where
  pub j : ℕ
  pub number_is : IsNumberOf (length h) number j
  pub past : List ℕ
  pub is_past : IsCausalPast h capacity j past
  pub text_is : text ≡ transcript w (permuted h past) (last_text (Limit (length past)))

-- What is told of the events of a run
abbrev pub TellsOrder : Words → Option ℕ → OrderForm → List Event → List ℕ → Type 0
TellsOrder w capacity Whole h text = TellsCauses capacity h text
TellsOrder w capacity (Pair first second) h text = TellsRelation capacity h first second text
TellsOrder w capacity (Lead number) h text = TellsPast w capacity h number text

-- What is told of events with these causes
abbrev pub TellsBy : List (List ℕ) → Words → OrderForm → List Event → List ℕ → Type 0
TellsBy causes w form h text = (capacity : Option ℕ) → AreCauses h capacity causes → TellsOrder w capacity form h text

-- What is answered of the order of a source's events, where a file has these bytes: the text, where the file is replayed,
-- else the first line that doesn't match; and for a number that none of its events has, this number. Want of memory tells nothing
abbrev pub OrdersSource : File → Hosts → Option ℕ → OrderForm → List ℕ → Result (Vec ℕ Global) OrderFault → Type 0
OrdersSource f hosts capacity form bytes (Ok text) =
    (h : List Event) × HasSourceEvents f hosts capacity bytes h × TellsOrder (book_of f) capacity form h text.items
OrdersSource f hosts capacity form bytes (Err (Unmatched line)) =
    files.IsUnmatched (book_of f) (IsRun f hosts capacity) (IsEndedRun f hosts capacity) (lines_of bytes) line
OrdersSource f hosts capacity form bytes (Err (Beyond number)) =
    (h : List Event) × HasSourceEvents f hosts capacity bytes h × IsBeyond form (length h) number
OrdersSource f hosts capacity form bytes (Err Memory) = Unit {0}
