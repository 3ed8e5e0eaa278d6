-- Where lines end.
use Rattle.std.proofs.Common.{◌≡◌, ◌==◌, ℕ, not, Bool, true, false, List, [], ◌∷◌, ◌++◌, take, drop, take-append-drop, refl, sym, ap, ◌∙◌, subst}
use Rattle.std.specs.Prelude.{if◌then◌else◌}
use Rattle.std.specs.List.{prefix_len}
use Rattle.std.proofs.lemmas.List.{append-nil}
use Rattle.event_reader.specs.Fields.{IsFree, BeginsWith}
use Rattle.event_reader.proofs.Cuts.{front_free, front_ends}
use Rattle.transcript_lines.specs.Lines.{with_byte, lines_of}

step : (b : ℕ) (ls : List (List ℕ)) (bs : List ℕ) → not (b == 10) ≡ true → lines_of bs ≡ ls → lines_of (b ∷ bs) ≡ with_byte b ls
step b ls bs free e = go (b == 10) refl free
  where
    go : (v : Bool) → (b == 10) ≡ v → not v ≡ true → (if v then [] ∷ lines_of bs else with_byte b (lines_of bs)) ≡ with_byte b ls
    go true p q = absurd cc
    go false p q = ap (with_byte b) e

-- a line that a line feed ends
pub ended : (line rest : List ℕ) → IsFree 10 line → lines_of (line ++ 10 ∷ rest) ≡ line ∷ lines_of rest
ended [] rest free = refl
ended (b ∷ line) rest free = step b (line ∷ lines_of rest) (line ++ 10 ∷ rest) free.0 (ended line rest free.1)

-- a rest that isn't empty
pub unended : (b : ℕ) (line : List ℕ) → IsFree 10 (b ∷ line) → lines_of (b ∷ line) ≡ (b ∷ line) ∷ []
unended b [] free = step b [] [] free.0 refl
unended b (c ∷ line) free = step b ((c ∷ line) ∷ []) (c ∷ line) free.0 (unended c line free.1)

pub last_line : (line : List ℕ) → (line ≡ [] → ⊥) → IsFree 10 line → lines_of line ≡ line ∷ []
last_line [] some free = absurd (some refl)
last_line (b ∷ line) some free = unended b line free

-- where the first line feed stands
pub record IsLineCut (bytes line after : List ℕ) : Type 0 where
  pub parts : bytes ≡ line ++ after
  pub free : IsFree 10 line
  pub begins : BeginsWith 10 after

pub line_cut : (bytes line after : List ℕ) (n : ℕ) → n ≡ prefix_len (λ b. not (b == 10)) bytes → line ≡ take n bytes → after ≡ drop n bytes → IsLineCut bytes line after
line_cut bytes line after n e f g = record {
  parts = sym (take-append-drop n bytes) ∙ (λ i. sym f i ++ sym g i);
  free = subst (IsFree 10) (sym (f ∙ ap (λ k. take k bytes) e)) (front_free 10 bytes);
  begins = subst (BeginsWith 10) (sym (g ∙ ap (λ k. drop k bytes) e)) (front_ends 10 bytes);
}

pub first_ended : (bytes line after rest : List ℕ) (b : ℕ) → IsLineCut bytes line after → after ≡ b ∷ rest → lines_of bytes ≡ line ∷ lines_of rest
first_ended bytes line after rest b cut is =
    let whole : bytes ≡ line ++ 10 ∷ rest = cut.parts ∙ ap (λ (l : List ℕ). line ++ l) (is ∙ ap (λ (c : ℕ). c ∷ rest) (cut.begins b rest is)) in
    ap lines_of whole ∙ ended line rest cut.free

pub first_unended : (bytes line after : List ℕ) → IsLineCut bytes line after → (bytes ≡ [] → ⊥) → after ≡ [] → lines_of bytes ≡ line ∷ lines_of after
first_unended bytes line after cut some none =
    let whole : bytes ≡ line = cut.parts ∙ ap (λ (l : List ℕ). line ++ l) none ∙ append-nil line in
    ap lines_of whole ∙ last_line line (λ e. some (whole ∙ e)) cut.free ∙ ap (λ (l : List ℕ). line ∷ lines_of l) (sym none)
