use Rattle.std.proofs.Common.{sym, ap, ◌∙◌}
use Rattle.std.specs.Prelude.{is_some}
use Rattle.endpoint_names.specs.Places.{place_of}
use Rattle.endpoint_names.proofs.Indexes.{put_place}
use Rattle.endpoint_names.proofs.places.Places.add.Goals as goal

pub returns-clause-places : goal.returns-clause-places
returns-clause-places c =
    put_place (place_of (record { entries = c.insert.new.self })) (place_of c.args.self.now) c.args.key c.args.place c.in_ok-insert.ensures.updates.0 (ap is_some (sym c.get.ensures) ∙ sym c.is_some.ensures ∙ c.if-is_some.false)
