use Rattle.std.proofs.Common.{◌≡◌, ◌||◌, ◌&&◌, ◌==◌, ◌∙◌, ap, Bool, List}
use Rattle.std.specs.List.{list_any}
use Rattle.chor_base.specs.declared.names.NameId.{NameId}
use Rattle.linearity.specs.declared.marks.Marks.{Marks}
use Rattle.linearity.specs.Marks.{is_marked}
use Rattle.linear_check.proofs.Tracking.{distributed}
use Rattle.linear_check.proofs.heard.Heard.keep.Goals as goal

pub returns : goal.returns
returns c = λ n x.
    let k = is_marked c.args.marks n in
    let has : List (NameId × Marks) → Bool = λ l. list_any (λ e. (e.0.0 == x) && is_marked e.1 n) l in
    let entries : has c.in_ok-entries.entries ≡ (has c.args.self.now.entries && k) = c.in_ok-entries.ensures n x ∙ ap (λ l. has l && k) c.as_slice.ensures in
    (λ i. c.and-self.ensures.both n i || entries i) ∙ distributed (is_marked c.args.self.now.all n) (has c.args.self.now.entries) k
