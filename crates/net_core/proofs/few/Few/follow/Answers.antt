use Rattle.std.proofs.Common.{sym, ◌∙◌}
use Rattle.net_core.proofs.Shown.{own_shown}
use Rattle.net_core.proofs.few.Few.follow.Goals as goal

pub returns : goal.returns
returns c =
    let v = c.args.network.now in
    own_shown v.endpoints v.state c.args.pid c.args.self.now.heads.items c.head.result c.requires.there (c.requires.others (sym c.is_joining.ensures ∙ c.if-is_joining.false)) c.head.ensures
