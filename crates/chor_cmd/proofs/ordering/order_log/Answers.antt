use Rattle.std.proofs.Common.{◌∙◌, ℕ, List, Option, sym, ap, subst}
use Rattle.std.specs.Prelude.{Result, Vec, Ok, Err}
use Rattle.std.specs.declared.alloc.Global.{Global}
use Rattle.chor_host.specs.Functions.{hosts_in}
use Rattle.chor_host.specs.Tables.{functions_of}
use Rattle.accepted_orders.specs.declared.fault.OrderFault.{OrderFault}
use Rattle.accepted_orders.specs.Sources.{OrdersSource}
use Rattle.simulation.specs.Capacity.{capacity_of}
use Rattle.chor_cmd.specs.declared.status.Status.TheVariants.{Refused, Unmatched}
use Rattle.chor_cmd.specs.Rows.{Orders, orders, breaks_off, beyond}
use Rattle.chor_cmd.proofs.ordering.order_log.Goals as goal

pub returns-in-Ok : goal.returns-in-Ok
returns-in-Ok g c = λ bytes accepted.
    let f = c.args.accepted.now.typed.file in
    let hosts = hosts_in f.names (functions_of c.args.hosts.now) in
    orders (f, accepted, subst (λ (k : Option ℕ). OrdersSource f hosts k c.args.form c.args.log.now (Ok c.in-Ok.text)) c.capacity.ensures.capacity c.in-Ok.ensures.told)

pub returns-in_ok-text-in-Err-Unmatched : goal.returns-in_ok-text-in-Err-Unmatched
returns-in_ok-text-in-Err-Unmatched g c = λ bytes accepted.
    let functions = functions_of c.args.hosts.now in
    let f = c.args.accepted.now.typed.file in
    let log = c.args.log.now in
    let own = subst (λ (k : Option ℕ). OrdersSource f (hosts_in f.names functions) k c.args.form log c.order_accepted.result) c.capacity.ensures.capacity c.order_accepted.ensures.told in
    let told = subst (λ (r : Result (Vec ℕ Global) OrderFault). OrdersSource f (hosts_in f.names functions) (capacity_of f) c.args.form log r) (c.in-Err-Unmatched.is ∙ ap Err c.in-Err-Unmatched.field-0-is) own in
    let so = breaks_off c.in-Err-Unmatched.line (record { file = f; accepted = accepted; replays = told }) in
    subst (λ (t : List ℕ). Orders functions c.args.form bytes log Unmatched t) (sym c.in_ok-text-in-Err-Unmatched.ensures) so

pub returns-in_ok-text-in-Err-Beyond : goal.returns-in_ok-text-in-Err-Beyond
returns-in_ok-text-in-Err-Beyond g c = λ bytes accepted.
    let functions = functions_of c.args.hosts.now in
    let f = c.args.accepted.now.typed.file in
    let log = c.args.log.now in
    let own = subst (λ (k : Option ℕ). OrdersSource f (hosts_in f.names functions) k c.args.form log c.order_accepted.result) c.capacity.ensures.capacity c.order_accepted.ensures.told in
    let told = subst (λ (r : Result (Vec ℕ Global) OrderFault). OrdersSource f (hosts_in f.names functions) (capacity_of f) c.args.form log r) (c.in-Err-Beyond.is ∙ ap Err c.in-Err-Beyond.field-0-is) own in
    let so = beyond c.in-Err-Beyond.number (f, accepted, told) in
    subst (λ (t : List ℕ). Orders functions c.args.form bytes log Refused t) (sym c.in_ok-text-in-Err-Beyond.ensures) so
