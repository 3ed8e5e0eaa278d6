-- Programs of some bytes are printed, and read again.
use Rattle.std.proofs.Common.{ℕ, List, sym, subst}
use Rattle.endpoint_check.specs.Programs.{AreProgramsOf}
use Rattle.endpoint_code.specs.declared.endpoints.Endpoints.{Endpoints}
use Rattle.endpoint_code.specs.Faults.{IsFaultless, AsksKnown, is_listed}
use Rattle.endpoint_laws.specs.ReadBack.{ReadBackAreSame}
use Rattle.endpoint_laws.proofs.Files.{made_is_faultless}
use Rattle.endpoint_laws.proofs.Asked.{made_asks_known}
use Rattle.endpoint_laws.proofs.Whole.{text_is_taken}
use Rattle.projected_programs.specs.ReadLaws.{TextIsOfPrograms}
use Rattle.same_programs.proofs.Turned.{programs_turned}
use Rattle.written_programs.specs.Laws.{PrintedAgainIsFine, PrintedAgainIsRead, ReadAgainAreSame, SameProgramsHaveOneText, PrintedAgainIsOneText, TextsTellPrograms}
use Rattle.written_programs.proofs.Programs.{writable}
use Rattle.written_programs.proofs.Texts.{text_same}
use Rattle.written_programs.proofs.Composed.{programs_over}

module _ (hosts : List (List ℕ)) (bytes : List ℕ) (e : Endpoints) (a : AreProgramsOf hosts bytes e) where
  faultless : IsFaultless e
  faultless = made_is_faultless a.written a.input.names.now a.input.texts.now hosts e a.made a.fine.faultless

  asks : AsksKnown (is_listed hosts e) e
  asks = made_asks_known a.written a.input.names.now a.input.texts.now hosts e a.made a.fine.faultless

pub is_fine : PrintedAgainIsFine
is_fine hosts bytes e a r refused = text_is_taken hosts e r (writable hosts bytes e a) (faultless hosts bytes e a) (asks hosts bytes e a) refused

pub is_read : TextIsOfPrograms → PrintedAgainIsRead
is_read law hosts bytes e a short = law hosts e (writable hosts bytes e a) (faultless hosts bytes e a) (asks hosts bytes e a) short

pub are_same : ReadBackAreSame → ReadAgainAreSame
are_same law hosts bytes e f a b = law hosts e f (record { writable = writable hosts bytes e a; read = b })

pub one_text : SameProgramsHaveOneText
one_text hosts bytes e f a s = let w = writable hosts bytes e a in let fine = faultless hosts bytes e a in text_same e f w.names s fine.names

pub again_one_text : ReadAgainAreSame → PrintedAgainIsOneText
again_one_text law hosts bytes e f a b = sym (one_text hosts bytes e f a (law hosts bytes e f a b))

pub texts_tell : PrintedAgainIsRead → ReadAgainAreSame → TextsTellPrograms
texts_tell reads same hosts bytes others e f a b short texts =
    let read = reads hosts bytes e a short in
    let first = same hosts bytes e read.0 a read.1 in
    let second = same hosts others f read.0 b (subst (λ (t : List ℕ). AreProgramsOf hosts t read.0) texts read.1) in
    programs_over e read.0 f first (programs_turned f read.0 second)
