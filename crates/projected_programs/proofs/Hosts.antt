-- Ranges of host functions are of numbers of 64 bits.
use Rattle.std.proofs.Common.{ℕ, ℤ, pos, negsuc, List, [], ◌∷◌, ◌++◌, Option, Some, None, SFits, w64}
use Rattle.std.specs.Prelude.{position, bytes_eq}
use Rattle.std.proofs.lemmas.List.Elements.{All-head, All-tail}
use denote.Param.Members.{Mut}
use Rattle.chor_base.specs.declared.meaning.Meaning.{Meaning}
use Rattle.chor_base.specs.declared.meaning.Meaning.TheVariants.{Exact, Within}
use Rattle.chor_base.specs.Meaning.{Hosts}
use Rattle.chor_host.specs.declared.table.HostTable.{HostTable}
use Rattle.chor_host.specs.Answers.{IsSized}
use Rattle.chor_host.specs.Functions.{Function, numbered, hosts_in, AreSized}
use Rattle.chor_host.specs.Tables.{functions_of}
use Rattle.chor_host.proofs.Answerable.{table_fits}
use Rattle.event_reader.specs.Known.{IsInt}
use Rattle.projected_programs.specs.Sizes.{IsMeaningSized, AreMeaningsSized}

fitting : (z : ℤ) → SFits w64 z → IsInt z
fitting (pos n) h = h.sfits
fitting (negsuc n) h = h.sfits

meaning_sized : (m : Meaning) → IsSized m → IsMeaningSized m
meaning_sized (Exact op) h = tt
meaning_sized (Within low high) h = (fitting low h.0, fitting high h.1)

joined : (gs hs : Hosts) → AreMeaningsSized gs → AreMeaningsSized hs → AreMeaningsSized (gs ++ hs)
joined [] hs h k = k
joined (g ∷ gs) hs h k = (h.0, joined gs hs h.1 k)

numbered_sized : (o : Option ℕ) (m : Meaning) → IsMeaningSized m → AreMeaningsSized (numbered o m)
numbered_sized None m h = tt
numbered_sized (Some n) m h = (h, tt)

module _ (names : List (List ℕ)) where
  -- what sized functions may answer is of 64 bits
  pub functions_sized : (fs : List Function) → AreSized fs → AreMeaningsSized (hosts_in names fs)
  functions_sized [] h = tt
  functions_sized (f ∷ fs) h =
      joined (numbered (position (bytes_eq f.0) names) f.1) (hosts_in names fs) (numbered_sized (position (bytes_eq f.0) names) f.1 (meaning_sized f.1 (All-head (λ (k : Function). IsSized k.1) f fs h)))
      (functions_sized fs (All-tail (λ (k : Function). IsSized k.1) f fs h))

module _ {X : Type 0} {g : Mut X (ℤ × (ℤ × Unit {0})) ℤ} where
  -- what the functions of a table may answer is of 64 bits
  pub table_sized : (names : List (List ℕ)) (t : HostTable X g) → AreMeaningsSized (hosts_in names (functions_of t))
  table_sized names t = functions_sized names (functions_of t) (table_fits t)
