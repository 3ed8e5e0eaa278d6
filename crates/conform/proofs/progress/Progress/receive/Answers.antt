use Rattle.std.proofs.Common.{◌≡◌, ◌∙◌, ap, sym, drop}
use Rattle.endpoint_code.specs.Network.{with_loads}
use Rattle.post_office.specs.Lanes.{QueuesView, loads_in}
use Rattle.post_office.specs.Views.{loads_at}
use Rattle.typed_sources.specs.Told.{gets}
use Rattle.conform.specs.Moves.{told}
use Rattle.conform.proofs.Lookups.{cannot, move_within, if_some}
use Rattle.conform.proofs.progress.Progress.receive.Goals as goal

pub returns-in_default-move_of : goal.returns-in_default-move_of
returns-in_default-move_of c = λ (first, can). cannot c.args.file.now c.args.self.now c.args.lane.0 c.args.lane.2 (λ w. gets c.args.lane.1 w) c.args.load (told c.in-Some.carried) c.in-Some.ensures c.in_default-move_of.ensures can

pub go-requires : goal.go-requires
go-requires c = move_within c.args.file.now c.args.self.now c.args.lane.0 c.args.lane.2 _ _ _ c.in-Some-move_of.ensures

pub returns : goal.returns
returns c =
    let first = c.is_first.ensures.0 c.if-not-is_first.false in
    let taken = if_some (loads_in c.take.new.self.lanes ≡ with_loads (loads_in c.args.self.now.queues.lanes) c.args.lane (drop 1 (loads_at c.args.self.now.queues c.args.lane))) c.take.result c.args.load (c.take.ensures.first ∙ first) c.take.ensures.rest in
    let g = c.go.ensures.gone in (
      first,
      record {
        content = told c.in-Some.carried;
        says = sym c.in-Some.ensures;
        place = c.in-Some-move_of.place;
        next = c.in-Some-move_of.state;
        move = c.in-Some-move_of.ensures;
        gone = record { session = g.session; started = g.started; sessions = g.sessions; types = g.types };
        loads = ap (λ (q : QueuesView). loads_in q.lanes) c.go.ensures.queues ∙ taken;
      },
    )
