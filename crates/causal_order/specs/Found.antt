-- The causes of the next event, as a scan of those before it has them.
use Rattle.std.specs.Prelude.{ℕ, ◌-◌, List, [], ◌∷◌, ◌++◌, Option, None, Some, option_to_list, nat_lt, if◌then◌else◌}
use Rattle.chor_base.specs.declared.event.Event.{Event}
use Rattle.chor_base.specs.declared.event.Event.TheVariants.{Start, Send, Recv}
use Rattle.chor_base.specs.Events.{Triple, actors_of}
use Rattle.causal_order.specs.declared.scan.Scan.{Scan}
use Rattle.causal_order.specs.Index.{count_on, place_on}
use Rattle.causal_order.specs.Scan.{last_event_of}

-- the last events of these processes
abbrev pub last_events : Scan → List ℕ → List ℕ
last_events s [] = []
last_events s (p ∷ ps) = option_to_list (last_event_of s p) ++ last_events s ps

-- the send of the load that is received next on a triple
abbrev pub send_of_next : Scan → Triple → Option ℕ
send_of_next s t = place_on s.sends t (count_on s.receipts t)

-- the receipt that makes room for the load that is sent next on a triple
abbrev pub room_of_next : Option ℕ → Scan → Triple → Option ℕ
room_of_next None s t = None
room_of_next (Some c) s t = if nat_lt (count_on s.sends t) c then None else place_on s.receipts t (count_on s.sends t - c)

-- the cause of the next event besides the last events of its processes: for a start the last start, for a send the receipt
-- that makes room for it, and for a receipt the send of its load
abbrev pub other_cause : Option ℕ → Scan → Event → Option ℕ
other_cause cap s (Start c sid parts) = s.start
other_cause cap s (Send p sid a b l) = room_of_next cap s (sid, a, b)
other_cause cap s (Recv p sid a b l) = send_of_next s (sid, a, b)
other_cause cap s _ = None

-- all causes of the next event, in any order, and some of them more than once
abbrev pub causes_found : Option ℕ → Scan → Event → List ℕ
causes_found cap s x = last_events s (actors_of x) ++ option_to_list (other_cause cap s x)
