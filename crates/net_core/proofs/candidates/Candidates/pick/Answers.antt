use Rattle.std.proofs.Common.{◌≡◌, ◌∙◌, sym, ap, length, ◌+◌, ◌%◌, List, ℕ}
use Rattle.std.specs.Prelude.{slice_get}
use Rattle.counted_bits.specs.Places.{places}
use Rattle.endpoint_code.specs.Scheduled.{listed}
use Rattle.net_core.proofs.Listed.{places_listed, pick_there, pick_none}
use Rattle.net_core.proofs.candidates.Candidates.pick.Goals as goal

pub returns-then-count-eq0-clause-picks : goal.returns-then-count-eq0-clause-picks
returns-then-count-eq0-clause-picks c e cap n u =
    let bits = c.args.self.now.listed in
    let same : places 0 bits ≡ listed e cap n = places_listed e cap n 0 bits n.machines u.places.listed u.judged in
    let count : c.from-count.result ≡ length (listed e cap n) = c.from-count.ensures ∙ c.count.ensures ∙ ap length same in
    sym (pick_none (listed e cap n) (c.args.seed + c.args.events) (sym count ∙ c.if-count-eq0.true))

pub returns-clause-picks : goal.returns-clause-picks
returns-clause-picks c e cap n u =
    let bits = c.args.self.now.listed in
    let same : places 0 bits ≡ listed e cap n = places_listed e cap n 0 bits n.machines u.places.listed u.judged in
    let count : c.from-count.result ≡ length (listed e cap n) = c.from-count.ensures ∙ c.count.ensures ∙ ap length same in
    c.nth.ensures.place ∙ ap (λ (xs : List ℕ). slice_get xs c.place_of_pick.result) same
    ∙ pick_there (listed e cap n) (c.args.seed + c.args.events) c.place_of_pick.result (λ z. c.if-count-eq0.false (count ∙ z)) (c.place_of_pick.ensures.place ∙ ap (λ (k : ℕ). (c.args.seed + c.args.events) % k) count)
