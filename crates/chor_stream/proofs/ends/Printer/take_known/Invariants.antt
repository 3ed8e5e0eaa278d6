use Rattle.std.proofs.Common.{length, ◌<◌, ◌≡◌, ◌++◌, ◌^◌}
use Rattle.std.specs.Prelude.{vec_capacity}
use Rattle.chor_stream.specs.Ends.{printer_ring, slots_of, taken_by, waiting_in}
use Rattle.chor_stream.proofs.ends.Printer.take_known.Given as goal

abbrev pub invariant-loop : goal.invariant-loop
invariant-loop l = record {
  ring : (printer_ring l.self ≡ printer_ring l.initial.self) × (slots_of l.self ≡ slots_of l.initial.self);
  taken : taken_by l.self ≡ taken_by l.initial.self ++ l.part.items;
  waiting : waiting_in l.initial.self ≡ l.part.items ++ waiting_in l.self;
  count : length l.part.items ≡ l.counter;
  few : 0 < l.counter → length (taken_by l.self) < 2 ^ 64;
  room : vec_capacity l.part ≡ vec_capacity l.initial.part;
}
