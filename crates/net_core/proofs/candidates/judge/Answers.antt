use Rattle.net_core.proofs.Anew.{judged_one}
use Rattle.net_core.proofs.candidates.judge.Goals as goal

pub is_listed-requires-clause-there : goal.is_listed-requires-clause-there
is_listed-requires-clause-there c = c.requires.there

pub is_listed-requires-clause-lists : goal.is_listed-requires-clause-lists
is_listed-requires-clause-lists c = c.requires.lists

pub is_listed-requires-clause-shows : goal.is_listed-requires-clause-shows
is_listed-requires-clause-shows c = c.requires.shows

pub returns : goal.returns
returns c =
    let v = c.args.network.now in
    judged_one v.endpoints v.capacity v.state c.args.listed.now c.set.new.self c.args.pid c.is_listed.result c.requires.there c.requires.places c.is_listed.ensures c.set.ensures
