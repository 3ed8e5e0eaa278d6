use Rattle.std.proofs.Common.{◌++◌}
use Rattle.std.specs.Prelude.{codes}
use Rattle.std.specs.Fmt.{decimal}
use Rattle.chor_base.specs.Writing.{name_in}
use Rattle.local_types.specs.Text.{line_end, payload_text}
use Rattle.local_types.proofs.Appends.{on_ok, both, literal}
use Rattle.local_types.proofs.print.put_message.Goals as goal

pub returns : goal.returns
returns c =
    let names = c.args.names.now in
    let first = c.args.text.now.items in
    let one = c.put_name.new.out.items in
    let two = c.put_bytes.new.out.items in
    let three = c.put_payload.new.text.items in
    let four = c.put_next.new.text.items in
    let last = c.put_bytes-2.new.out.items in
    let name = name_in names c.args.role in
    let load = payload_text names c.args.payload.now in
    let next = codes " " ++ decimal c.args.next in
    let space = literal one two c.as_slice.result.now (codes " ") c.in_ok-put_bytes.ensures.ok c.as_slice.ensures in
    on_ok c.put_bytes-2.result _ _
    (λ e. both first one last name (codes " " ++ (load ++ (next ++ line_end))) c.in_ok-put_name.ensures.ok (both one two last (codes " ") (load ++ (next ++ line_end)) space
    (both two three last load (next ++ line_end) c.in_ok-put_payload.ensures (both three four last next line_end c.in_ok-put_next.ensures (literal four last c.as_slice-2.result.now line_end e c.as_slice-2.ensures)))))
    c.put_bytes-2.ensures.ok
