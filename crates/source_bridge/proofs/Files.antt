-- Whole sources by the data and by the relations.
use Rattle.std.proofs.Common.{List, refl, subst}
use Rattle.chor_lexer.specs.declared.token.Token.{Token}
use Rattle.chor_tree.specs.Source.{Source}
use Rattle.grammar.specs.Grammars.{Allowed}
use Rattle.source_rows.specs.Values.{Tables}
use Rattle.source_bridge.specs.Laws.{AreKnown, DeriveSource, AreSource}
use Rattle.source_bridge.proofs.FromFiles.{from_file}
use Rattle.source_bridge.proofs.ToFiles.{to_file}

pub of_data : {i : Tables} {Q : Allowed} {ts : List Token} {s : Source} → AreKnown i ts → DeriveSource i Q ts s → AreSource i Q ts s
of_data {i} {Q} {ts} k d =
    let f = from_file i k.tables Q d.is refl k.there in
    subst (λ (x : Source). AreSource i Q ts x) d.same (record { is = f.0; keeps = f.1 })

pub of_relation : {i : Tables} {Q : Allowed} {ts : List Token} {s : Source} → AreKnown i ts → AreSource i Q ts s → DeriveSource i Q ts s
of_relation {i} {Q} k d = to_file i k.tables Q d.is d.keeps k.there
