use Rattle.std.proofs.Common.{sym, ◌∙◌}
use Rattle.endpoint_names.proofs.Indexes.{found_there, found_none, got}
use Rattle.endpoint_names.proofs.index.Index.find.Goals as goal

pub returns-in-Some : goal.returns-in-Some
returns-in-Some g c =
    let i = c.args.self.now in
    found_there g.T.HasSign.sign_of i.items.now i.places c.args.key c.in-Some.place _ i.is_index (sym c.get.ensures ∙ c.in-Some.is) (got _ i.items.now _ c.get-in-Some.ensures.lookup.0 c.get-in-Some.ensures.lookup.1)

pub returns-in-None : goal.returns-in-None
returns-in-None g c =
    let i = c.args.self.now in
    found_none g.T.HasSign.sign_of i.items.now i.places c.args.key i.is_index (sym c.get.ensures ∙ c.in-None.is)
