use Rattle.std.proofs.Common.{◌==◌, ◌||◌, ◌&&◌, ◌∙◌}
use Rattle.std.specs.List.{list_any}
use Rattle.std.proofs.lemmas.Result.{on_ok_weaker}
use Rattle.linear_check.specs.Heard.{hears}
use Rattle.linear_check.specs.Tracks.{channel_at}
use Rattle.linear_check.proofs.Tracking.{start_tracked}
use Rattle.linear_check.proofs.heard.Heard.after_start.Goals as goal

pub returns : goal.returns
returns c = on_ok_weaker c.add_all-2.result (λ h m tracks n lt x.
    let active = c.args.active.now in
    let serve = c.args.serve.now in
    let old = hears c.args.self.now n in
    let brought = c.or-brought.ensures n ∙ (λ i. c.any_of.ensures n i || c.named-own.ensures n lt i) in
    let kept = c.in_ok-forget.ensures n x lt in
    let first = c.in_ok-add_all.ensures n x ∙ (λ i. kept i || (list_any (λ q. q.process.name.0 == x) active && brought i)) in
    let second = h n x ∙ (λ i. first i || (list_any (λ q. q.process.name.0 == x) serve && brought i)) in
    start_tracked (m n) old (tracks n lt) active serve (c.args.channel.0 == (channel_at c.args.channels.now.names.now n).0) (hears c.add_all-2.new.self n x) x second)
    c.add_all-2.ensures
