-- What follows for a call, whichever file or programs its bytes are the text of.
use Rattle.std.proofs.Common.{◌≡◌, inl, inr, ℕ, Bool, List, [], ◌∷◌, refl, sym, ◌∙◌, subst}
use Rattle.chor_print.specs.Text.{canonical_text}
use Rattle.command_words.specs.declared.words.Command.TheVariants.{Fmt, Exec}
use Rattle.source_check.specs.declared.rules.Rules.TheVariants.{Grammar}
use Rattle.source_check.specs.Source.{IsFileOf, IsNoSource, unread, broken}
use Rattle.chor_cmd.specs.Runs.{IsAskedTranscript}
use Rattle.chor_cmd.proofs.AskedRuns.{transcripts_agree}
use Rattle.chor_cmd.specs.declared.status.Status.{Status}
use Rattle.chor_cmd.specs.declared.status.Status.TheVariants.{Done}
use Rattle.chor_cmd.specs.Status.{status_of}
use Rattle.chor_cmd.specs.Endings.{MayTell, Goes}
use Rattle.chor_cmd.specs.Rows.{AtMost, OfSource, Executes, executes, source_limit, row_of}
use Rattle.chor_cmd.specs.Follows.{WritesCanonical, KeepsCanonical, ExecutesThese}
use Rattle.chor_cmd.proofs.SameTexts.{text_alike, text_is_source, text_of_text}
use Rattle.chor_cmd.proofs.Settles.{same_bytes, grows, by_table}

pub writes_canonical : WritesCanonical
writes_canonical call settled name bytes f form told few i =
    let m = settled Fmt (name ∷ []) form bytes told in
    let next = m.1 few in
    grows call (λ s t. (s ≡ Done) × OfSource call.functions Grammar (λ g x. x ≡ canonical_text g) bytes t) (λ s t. (s ≡ Done) × (t ≡ canonical_text f))
    (λ s t p. (p.0, p.1.2 ∙ text_alike bytes p.1.0 f p.1.1.file i)) (next.1 (f, record { file = i; faultless = tt }))

pub keeps_canonical : KeepsCanonical
keeps_canonical call ended name bytes f i form told few =
    grows call (Goes (MayTell call.shelf.files) (name ∷ []) (row_of call.functions Fmt)) (λ s t. (s ≡ Done) × (t ≡ canonical_text f)) by_way (by_table call ended Fmt (name ∷ []) form)
  where
    by_way : (s : Status) (t : List ℕ) → Goes (MayTell call.shelf.files) (name ∷ []) (row_of call.functions Fmt) s t → (s ≡ Done) × (t ≡ canonical_text f)
    by_way s t (b, may, inl (long, is)) = absurd (long (subst (AtMost source_limit) (sym (same_bytes call.shelf.files name b (canonical_text f) may told)) few))
    by_way s t (b, may, inr (less, inl (r, unread v none, is))) =
        absurd (text_is_source bytes f i r.rule r.place (subst (λ (y : List ℕ). IsNoSource y r.rule r.place) (same_bytes call.shelf.files name b (canonical_text f) may told) v))
    by_way s t (b, may, inr (less, inl (r, broken k w, is))) = absurd w
    by_way s t (b, may, inr (less, inr (fine, (is, (g, j, says))))) =
        (is, says ∙ text_of_text bytes f i g (subst (λ (y : List ℕ). IsFileOf y g) (same_bytes call.shelf.files name b (canonical_text f) may told) j.file))

pub executes_these : ExecutesThese
executes_these call settled options name bytes e form told few are =
    let m = settled (Exec options) (name ∷ []) form bytes told in
    let next = m.1 few in
    grows call (Executes call.functions options bytes) (λ s t. (stuck : Bool) × (s ≡ status_of stuck) × IsAskedTranscript call.functions e options t stuck) by_way (next.1 (e, are))
  where
    by_way : (s : Status) (t : List ℕ) → Executes call.functions options bytes s t → (stuck : Bool) × (s ≡ status_of stuck) × IsAskedTranscript call.functions e options t stuck
    by_way s t (executes {text = text} stuck x) =
        (stuck, refl, transcripts_agree call.functions bytes x.programs e options text stuck x.are are x.run)
