-- The parts of a start are spelled in one way.
use Rattle.std.proofs.Common.{◌≡◌, ℕ, List, [], ◌∷◌, ◌++◌, refl, sym, ap, ◌∙◌, subst, append_assoc}
use Rattle.std.specs.List.{AllByRecursion}
use Rattle.std.proofs.lemmas.List.{append-nil}
use Rattle.chor_base.specs.declared.names.NameId.{NameId}
use Rattle.transcript.specs.Text.{Words, name_text, process_text, parts_text}
use Rattle.event_reader.specs.Fields.{IsFree, BeginsWith}
use Rattle.event_reader.specs.Known.{AreWords, HasPart}
use Rattle.event_reader.specs.Bodies.{part_text}
use Rattle.event_reader.proofs.Cuts.{SameParts, one_field}
use Rattle.event_reader.proofs.Frees.{part_free}

-- a part after its space, and what follows
pub parts_text-cons : (w : Words) (q : NameId × ℕ) (qs : List (NameId × ℕ)) → parts_text w (q ∷ qs) ≡ 32 ∷ (part_text w q ++ parts_text w qs)
parts_text-cons w q qs = ap (λ (l : List ℕ). l ++ parts_text w qs) (append_assoc (32 ∷ name_text w q.0) (61 ∷ []) (process_text w q.1))

parts_text-append : (w : Words) (ps : List (NameId × ℕ)) (q : NameId × ℕ) → parts_text w (ps ++ q ∷ []) ≡ parts_text w ps ++ 32 ∷ part_text w q
parts_text-append w [] q = parts_text-cons w q [] ∙ ap (λ (l : List ℕ). 32 ∷ l) (append-nil (part_text w q))
parts_text-append w (p ∷ ps) q =
    parts_text-cons w p (ps ++ q ∷ [])
    ∙ ap (λ (l : List ℕ). 32 ∷ (part_text w p ++ l)) (parts_text-append w ps q)
    ∙ ap (λ (l : List ℕ). 32 ∷ l) (sym (append_assoc (part_text w p) (parts_text w ps) (32 ∷ part_text w q)))
    ∙ ap (λ (l : List ℕ). l ++ 32 ∷ part_text w q) (sym (parts_text-cons w p ps))

pub parts_begin : (w : Words) (qs : List (NameId × ℕ)) → BeginsWith 32 (parts_text w qs)
parts_begin w [] b rest e = absurd cc
parts_begin w (q ∷ qs) b rest e = let h : 32 ∷ (part_text w q ++ parts_text w qs) ≡ b ∷ rest = sym (parts_text-cons w q qs) ∙ e in cc

-- the parts so far, and what follows them
pub record IsParted (w : Words) (bytes rest : List ℕ) (parts : List (NameId × ℕ)) : Type 0 where
  pub so_far : bytes ≡ parts_text w parts ++ rest
  pub has : AllByRecursion (HasPart w) parts
  pub all : (qs : List (NameId × ℕ)) → AllByRecursion (HasPart w) qs → bytes ≡ parts_text w qs → (more : List (NameId × ℕ)) × AllByRecursion (HasPart w) more × (rest ≡ parts_text w more)

pub begun : (w : Words) (bytes : List ℕ) (parts : List (NameId × ℕ)) → parts ≡ [] → IsParted w bytes bytes parts
begun w bytes [] e = record { so_far = refl; has = tt; all = λ qs h q. (qs, h, q) }
begun w bytes (p ∷ ps) e = absurd cc

all_append : (P : NameId × ℕ → Type 0) (ps : List (NameId × ℕ)) (q : NameId × ℕ) → AllByRecursion P ps → P q → AllByRecursion P (ps ++ q ∷ [])
all_append P [] q h k = (k, tt)
all_append P (p ∷ ps) q h k = (h.0, all_append P ps q h.1 k)

pub part_more : (w : Words) (bytes rest more : List ℕ) (parts new : List (NameId × ℕ)) (q : NameId × ℕ) → AreWords w.names → IsParted w bytes rest parts → HasPart w q → rest ≡ 32 ∷ (part_text w q ++ more) → BeginsWith 32 more → new ≡ parts ++ q ∷ [] → IsParted w bytes more new
part_more w bytes rest more parts new q words u has e begins n = record {
  so_far =
      u.so_far ∙ ap (λ (l : List ℕ). parts_text w parts ++ l) e
      ∙ sym (append_assoc (parts_text w parts) (32 ∷ part_text w q) more)
      ∙ ap (λ (l : List ℕ). l ++ more) (sym (parts_text-append w parts q) ∙ ap (parts_text w) (sym n));
  has = kept new n;
  all = λ qs h p. let a = u.all qs h p in go a.0 a.1 (sym e ∙ a.2);
}
  where
    kept : (new : List (NameId × ℕ)) → new ≡ parts ++ q ∷ [] → AllByRecursion (HasPart w) new
    kept new n = subst_all (sym n) (all_append (HasPart w) parts q u.has has)
      where
        subst_all : {ps qs : List (NameId × ℕ)} → ps ≡ qs → AllByRecursion (HasPart w) ps → AllByRecursion (HasPart w) qs
        subst_all e h = subst (AllByRecursion (HasPart w)) e h

    tail_of : (x y : ℕ) (xs ys : List ℕ) → x ∷ xs ≡ y ∷ ys → xs ≡ ys
    tail_of x y xs ys q = cc

    go : (qs : List (NameId × ℕ)) → AllByRecursion (HasPart w) qs → 32 ∷ (part_text w q ++ more) ≡ parts_text w qs → (left : List (NameId × ℕ)) × AllByRecursion (HasPart w) left × (more ≡ parts_text w left)
    go [] h p = absurd cc
    go (x ∷ qs) h p =
        let same = one_field 32 (part_text w q) (part_text w x) more (parts_text w qs) (part_free w q words has) (part_free w x words h.0) begins (parts_begin w qs) (tail_of 32 32 _ _ (p ∙ parts_text-cons w x qs)) in
        (qs, h.1, same.rest)

pub no_part : (w : Words) (bytes rest : List ℕ) (parts : List (NameId × ℕ)) → IsParted w bytes rest parts → ([] ≡ rest → ⊥) → ((q : NameId × ℕ) (more : List ℕ) → HasPart w q → BeginsWith 32 more → rest ≡ 32 ∷ (part_text w q ++ more) → ⊥) → (qs : List (NameId × ℕ)) → AllByRecursion (HasPart w) qs → bytes ≡ parts_text w qs → ⊥
no_part w bytes rest parts u some none qs h e = let a = u.all qs h e in go a.0 a.1 a.2
  where
    go : (qs : List (NameId × ℕ)) → AllByRecursion (HasPart w) qs → rest ≡ parts_text w qs → ⊥
    go [] h q = some (sym q)
    go (x ∷ qs) h q = none x (parts_text w qs) h.0 (parts_begin w qs) (q ∙ parts_text-cons w x qs)

pub parts_all : (w : Words) (bytes rest : List ℕ) (parts : List (NameId × ℕ)) → IsParted w bytes rest parts → rest ≡ [] → AllByRecursion (HasPart w) parts × (bytes ≡ parts_text w parts)
parts_all w bytes rest parts u e = (u.has, u.so_far ∙ ap (λ (l : List ℕ). parts_text w parts ++ l) e ∙ append-nil (parts_text w parts))

-- the part that is cut off is the one that stands there
pub one_part : (w : Words) (bytes after text rest more : List ℕ) (q : NameId × ℕ) → AreWords w.names → HasPart w q → BeginsWith 32 rest → BeginsWith 32 more → IsFree 32 text → bytes ≡ 32 ∷ after → after ≡ text ++ rest → bytes ≡ 32 ∷ (part_text w q ++ more) → SameParts text (part_text w q) rest more
one_part w bytes after text rest more q words has begins ends free f parts e =
    one_field 32 text (part_text w q) rest more free (part_free w q words has) begins ends (sym parts ∙ tail_of 32 32 after (part_text w q ++ more) (sym f ∙ e))
  where
    tail_of : (x y : ℕ) (xs ys : List ℕ) → x ∷ xs ≡ y ∷ ys → xs ≡ ys
    tail_of x y xs ys q = cc
