-- What a book has a name for.
use Rattle.std.proofs.Common.{◌≡◌, ◌≢◌, ℕ, List, [], ◌∷◌, ◌++◌, length, Option, Some, None, refl, sym, ap, ◌∙◌, subst, arith, length-append}
use Rattle.std.specs.Prelude.{slice_get, IfSome, IfNone, IsSome}
use Rattle.std.proofs.lemmas.Fmt.{decimal_injective}
use Rattle.std.proofs.lemmas.Option.{slice_get_within}
use Rattle.std.specs.Fmt.{decimal}
use Rattle.chor_base.specs.declared.names.NameId.{NameId}
use Rattle.chor_base.specs.Words.{Lacks, AllDistinct}
use Rattle.chor_base.proofs.WordTables.{put_absent, put_present}
use Rattle.chor_lexer.proofs.Spelling.{name_of}
use Rattle.transcript.specs.Text.{Words, name_text, process_named, process_text}
use Rattle.event_reader.specs.Known.{AreWords, IsSmall, HasName, HasNameOf, HasProcess}
use Rattle.event_reader.specs.Readings.{IsReading}
use Rattle.event_reader.proofs.Frees.{name_there, no_percent}

lacks : (ws : List (List ℕ)) (word : List ℕ) (n : ℕ) → Lacks ws word → slice_get ws n ≡ Some word → ⊥
lacks ws word n none at = let more : ws ≡ ws ++ word ∷ [] = sym (put_present ws word n at) ∙ put_absent ws word none in omega (arith, ap length more, length-append ws (word ∷ []))

pub name_reading : (w : Words) (field : List ℕ) (r : Option NameId) → IfSome r (λ n. slice_get w.names n.0 ≡ Some field) → IfNone r (Lacks w.names field) → IsReading (HasName w) (name_text w) field r
name_reading w field (Some x) found absent = (slice_get_within w.names x.0 field found, sym (name_of w.names x field found))
name_reading w field None found absent = λ y h e. lacks w.names field y.0 absent (name_there w y h ∙ ap Some (sym e))

pub name_only : (w : Words) (field : List ℕ) (r : Option NameId) → AllDistinct w.names → IfSome r (λ n. slice_get w.names n.0 ≡ Some field) → IfSome r (λ x. (y : NameId) → HasName w y → field ≡ name_text w y → x ≡ y)
name_only w field (Some x) d found = λ y h e. let same : x.0 ≡ y.0 = d x.0 y.0 field found (name_there w y h ∙ ap Some (sym e)) in ap (λ (i : ℕ). record { 0 = i }) same
name_only w field None d found = tt

tail_of : (x y : ℕ) (xs ys : List ℕ) → x ∷ xs ≡ y ∷ ys → xs ≡ ys
tail_of x y xs ys e = cc

-- a process that isn't one of the beginning
pub no_number : (w : Words) (field digits : List ℕ) → AreWords w.names → field ≡ 37 ∷ digits → ((n : ℕ) → IsSmall n → digits ≡ decimal n → ⊥) → (p : ℕ) → HasProcess w p → field ≡ process_text w p → ⊥
no_number w field digits words f none p h e = go (slice_get w.processes p) h.1 e
  where
    go : (o : Option NameId) → HasNameOf w o → field ≡ process_named w p o → ⊥
    go (Some x) k q = no_percent w x digits words k (sym f ∙ q)
    go None k q = none p h.0 (tail_of 37 37 digits (decimal p) (sym f ∙ q))

pub later : (w : Words) (field digits : List ℕ) (number : ℕ) (r : Option ℕ) → AreWords w.names → field ≡ 37 ∷ digits → IsSmall number → digits ≡ decimal number
    → IfSome r (λ p. (p ≡ number) × (slice_get w.processes number ≡ None)) → IfNone r (IsSome (slice_get w.processes number)) → IsReading (HasProcess w) (process_text w) field r
later w field digits number (Some p) words f small is some none =
    let there : slice_get w.processes p ≡ None = ap (slice_get w.processes) some.0 ∙ some.1 in
    ((subst IsSmall (sym some.0) small, subst (HasNameOf w) (sym there) tt), f ∙ ap (λ (l : List ℕ). 37 ∷ l) (is ∙ ap decimal (sym some.0)) ∙ sym (ap (process_named w p) there))
later w field digits number None words f small is some none = λ q h e. go q h.0 (slice_get w.processes q) refl h.1 e
  where
    there : (o : Option NameId) → IsSome o → o ≡ None → ⊥
    there (Some x) k e = absurd cc
    there None k e = absurd cc

    go : (q : ℕ) → IsSmall q → (o : Option NameId) → slice_get w.processes q ≡ o → HasNameOf w o → field ≡ process_named w q o → ⊥
    go q s (Some x) at k e = no_percent w x digits words k (sym f ∙ e)
    go q s None at k e =
        let same : number ≡ q = decimal_injective number q (omega arith) (omega arith) (sym is ∙ tail_of 37 37 digits (decimal q) (sym f ∙ e)) in
        there (slice_get w.processes number) none (ap (slice_get w.processes) same ∙ at)

-- a process of the beginning
pub no_name : (w : Words) (field : List ℕ) → ((rest : List ℕ) → field ≢ 37 ∷ rest) → ((x : NameId) → HasName w x → field ≡ name_text w x → ⊥) → (p : ℕ) → HasProcess w p → field ≡ process_text w p → ⊥
no_name w field f none p h e = go (slice_get w.processes p) h.1 e
  where
    go : (o : Option NameId) → HasNameOf w o → field ≡ process_named w p o → ⊥
    go (Some x) k q = none x k q
    go None k q = f (decimal p) q

pub first : (w : Words) (field : List ℕ) (x : NameId) (r : Option ℕ) → ((rest : List ℕ) → field ≢ 37 ∷ rest) → HasName w x → field ≡ name_text w x → ((y : NameId) → HasName w y → field ≡ name_text w y → x ≡ y)
    → IfSome r (λ p. (slice_get w.processes p ≡ Some x) × IsSmall p) → IfNone r ((p : ℕ) → slice_get w.processes p ≡ Some x → ⊥) → IsReading (HasProcess w) (process_text w) field r
first w field x (Some p) f has is only some none = ((some.1, subst (HasNameOf w) (sym some.0) has), is ∙ sym (ap (process_named w p) some.0))
first w field x None f has is only some none = λ q h e. go q (slice_get w.processes q) refl h.1 e
  where
    go : (q : ℕ) (o : Option NameId) → slice_get w.processes q ≡ o → HasNameOf w o → field ≡ process_named w q o → ⊥
    go q (Some y) at k e = none q (at ∙ ap Some (sym (only y k e)))
    go q None at k e = f (decimal q) e
