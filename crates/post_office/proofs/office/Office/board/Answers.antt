use Rattle.std.proofs.Common.{sym, subst}
use Rattle.post_office.specs.Views.{OfficeView}
use Rattle.post_office.specs.Kept.{CanPost}
use Rattle.post_office.proofs.Posting.{posted_kept}
use Rattle.post_office.proofs.office.Office.board.Goals as goal

pub invariant_of-self : goal.invariant_of-self
invariant_of-self c = posted_kept c.self.invariant c.args.pid c.args.post (subst (λ (v : OfficeView). CanPost v c.args.pid c.args.post) (sym c.self.view_is) c.requires) c.set_desk.new.desks.items _ _ c.set_desk.ensures
