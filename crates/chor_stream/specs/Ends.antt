-- What contracts see of the two ends of a stream.
use Rattle.std.specs.Prelude.{◌≡◌, ◌++◌, ℕ, List, []}
use Rattle.rtrb.specs.Ring.{sent, received, known_items, consumer_capacity}
use Rattle.chor_base.specs.declared.event.Entry.{Entry}
use Rattle.chor_stream.specs.declared.ends.Feed.{Feed}
use Rattle.chor_stream.specs.declared.ends.Printer.{Printer}
use Rattle.chor_stream.specs.Rings.{RingName}

-- the entries that were pushed, in order
abbrev pub pushed_of : Feed → List Entry
pushed_of feed = sent feed.producer

-- the entries that were taken, in order
abbrev pub taken_by : Printer → List Entry
taken_by printer = received printer.consumer

-- the entries that the printer knows of in the ring
abbrev pub waiting_in : Printer → List Entry
waiting_in printer = known_items printer.consumer

-- these are all entries that a printer knew of, and it has taken them
abbrev pub HasTakenAll : Printer → List Entry → Printer → Type 0
HasTakenAll old part new = (taken_by new ≡ taken_by old ++ part) × (part ≡ waiting_in old) × (waiting_in new ≡ [])

abbrev pub slots_of : Printer → ℕ
slots_of printer = consumer_capacity printer.consumer

-- the ring that a feed is an end of
abbrev pub feed_ring : Feed → RingName
feed_ring feed = (feed.producer.end.words, feed.producer.end.slots, feed.producer.end.names, feed.producer.end.heap)

-- the ring that a printer is an end of
abbrev pub printer_ring : Printer → RingName
printer_ring printer = (printer.consumer.end.words, printer.consumer.end.slots, printer.consumer.end.names, printer.consumer.end.heap)
