use Rattle.std.proofs.Common.{sym, ◌∙◌}
use Rattle.name_resolution.proofs.Indexes.{found_there, found_none, got}
use Rattle.name_resolution.proofs.index.Index.find.Goals as goal

pub returns-in-Some : goal.returns-in-Some
returns-in-Some g c =
    let i = c.args.self.now in
    found_there g.T.HasName.name_of i.items.now i.places.map c.args.name c.in-Some.place _ i.is_index (sym c.get.ensures ∙ c.in-Some.is) (got _ i.items.now _ c.get-in-Some.ensures.lookup.0 c.get-in-Some.ensures.lookup.1)

pub returns-in-None : goal.returns-in-None
returns-in-None g c =
    let i = c.args.self.now in
    found_none g.T.HasName.name_of i.items.now i.places.map c.args.name i.is_index (sym c.get.ensures ∙ c.in-None.is)
