use Rattle.std.proofs.Common.{◌∙◌, sym, refl}
use Rattle.waiting_processes.proofs.Taken.{in_none}
use Rattle.net_core.proofs.Anew.{judged_one, settled_one}
use Rattle.net_core.proofs.candidates.settle.Goals as goal

pub returns : goal.returns
returns c =
    let v = c.args.network.now in
    let e = v.endpoints in
    let cap = v.capacity in
    let n = v.state in
    let p = c.args.pid in
    let one = judged_one e cap n c.args.listed.now c.set.new.self p c.is_listed.result c.requires.there c.requires.places c.is_listed.ensures c.set.ensures in
    record {
      kept = record { count = one.count; stays = one.stays; judged = λ q i. absurd (in_none q i) };
      settled = λ f. settled_one e cap n c.set.new.self p c.args.head c.requires.shows (sym c.is_joining.ensures ∙ c.if-is_joining.false) (one.judged p (0, refl));
    }
