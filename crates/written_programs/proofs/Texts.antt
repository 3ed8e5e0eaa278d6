-- Programs that are the same have the same text.
use Rattle.std.proofs.Common.{◌≡◌, ◌≢◌, ℕ, false, ◌==◌, List, [], ◌∷◌, ◌++◌, Some, refl, sym, ap, ◌∙◌, codes}
use Rattle.std.specs.Prelude.{All}
use Rattle.std.specs.List.{AllByRecursion, AllZip, flat_map}
use Rattle.std.proofs.lemmas.List.Elements.{All-head, All-tail}
use Rattle.std.proofs.lemmas.Option.{get_or_from_slice_get}
use Rattle.endpoint_laws.proofs.Lists.{count_same}
use Rattle.chor_base.specs.declared.names.NameId.{NameId}
use Rattle.chor_base.specs.declared.value.Value.{Value}
use Rattle.chor_base.specs.Expr.{Term}
use Rattle.chor_base.specs.Words.{AllDistinct}
use Rattle.chor_base.specs.Writing.{literal, literal_in}
use Rattle.chor_lexer.specs.Canonical.{constant_text, strength_of, left_needs, right_needs, operand_text, binary_mark, unary_mark}
use Rattle.chor_lexer.specs.Mark.{spelling}
use Rattle.endpoint_code.specs.declared.code.CodeId.{CodeId}
use Rattle.endpoint_code.specs.declared.endpoints.Channel.{Channel}
use Rattle.endpoint_code.specs.declared.endpoints.Procedure.{Procedure}
use Rattle.endpoint_code.specs.declared.endpoints.ServiceCode.{ServiceCode}
use Rattle.endpoint_code.specs.declared.endpoints.Process.{Process}
use Rattle.endpoint_code.specs.declared.endpoints.Endpoints.{Endpoints}
use Rattle.endpoint_code.specs.Faults.{IsScoped, HasNoNameFault}
use Rattle.endpoint_code.specs.Labels.{has_label, HasDistinctLabels, AreDistinctArms, ArmIsIn, here, there}
use Rattle.endpoint_code.specs.Trees.{Action, CodeTree, Arms, code_at}
use Rattle.endpoint_code.proofs.AboveOrder.{neither}
use Rattle.endpoint_text.specs.Ascending.{inserted, ascending}
use Rattle.endpoint_text.specs.Text.{name_text, spaced, listed, term_text, action_text, arm_text, braced, code_text, arms_of, body_text, serving, channel_line, procedure_line, service_line, process_line, endpoints_text, header}
use Rattle.same_programs.specs.Words.{SameName, SameText}
use Rattle.same_programs.specs.Codes.{SameValue, number, truth, text, part, SameTerm, constant, variable, unary, binary, SameAction, joins, sends, receives, selects, gives, gains, sets, shows, asks, SameCode, does, offers, tests, calls, ends, SameArms, no_arm, one_arm}
use Rattle.same_programs.specs.Programs.{SameChannel, SameProcedure, SameService, SameProcess, SamePrograms}
use Rattle.same_programs.proofs.Distinct.{scoped_distinct}
use Rattle.written_programs.proofs.Ascending.{inserted_both}

abbrev Entry : Type 0
Entry = List ℕ × List ℕ

abbrev label : Entry → List ℕ
label x = x.0

-- items that have the same texts, of those that keep something
lines_same : {A B : Type 0} (R : A → B → Type 0) (P : A → Type 0) (f : A → List ℕ) (g : B → List ℕ) → ((x : A) (y : B) → R x y → P x → f x ≡ g y) → (xs : List A) (ys : List B) → AllZip R xs ys → All P xs → flat_map f xs ≡ flat_map g ys
lines_same R P f g one [] [] z p = refl
lines_same R P f g one [] (y ∷ ys) z p = absurd z
lines_same R P f g one (x ∷ xs) [] z p = absurd z
lines_same R P f g one (x ∷ xs) (y ∷ ys) z p = λ i. one x y z.0 (All-head P x xs p) i ++ lines_same R P f g one xs ys z.1 (All-tail P x xs p) i

module _ (e f : Endpoints) (distinct : AllDistinct e.names) where
  abbrev N : NameId → NameId → Type 0
  N = SameName e f

  abbrev T : ℕ → ℕ → Type 0
  T = SameText e f

  -- ---- names and expressions

  name_same : {x y : NameId} → N x y → name_text e x ≡ name_text f y
  name_same {x} {y} n = get_or_from_slice_get e.names x.0 n.word [] n.here ∙ sym (get_or_from_slice_get f.names y.0 n.word [] n.there)

  all_same : (t : List ℕ) (xs ys : List NameId) → AllZip N xs ys → flat_map (λ x. t ++ name_text e x) xs ≡ flat_map (λ y. t ++ name_text f y) ys
  all_same t [] [] z = refl
  all_same t [] (y ∷ ys) z = absurd z
  all_same t (x ∷ xs) [] z = absurd z
  all_same t (x ∷ xs) (y ∷ ys) z = λ i. (t ++ name_same z.0 i) ++ all_same t xs ys z.1 i

  listed_same : (xs ys : List NameId) → AllZip N xs ys → listed e xs ≡ listed f ys
  listed_same [] [] z = refl
  listed_same [] (y ∷ ys) z = absurd z
  listed_same (x ∷ xs) [] z = absurd z
  listed_same (x ∷ xs) (y ∷ ys) z = λ i. name_same z.0 i ++ all_same (codes ", ") xs ys z.1 i

  -- with a space before each
  spaced_same : (xs ys : List NameId) → AllZip N xs ys → spaced e xs ≡ spaced f ys
  spaced_same xs ys z = all_same (codes " ") xs ys z

  one : {x y : NameId} → N x y → spaced e (x ∷ []) ≡ spaced f (y ∷ [])
  one {x} {y} n = spaced_same (x ∷ []) (y ∷ []) (n, tt)

  two : {x y z w : NameId} → N x y → N z w → spaced e (x ∷ z ∷ []) ≡ spaced f (y ∷ w ∷ [])
  two {x} {y} {z} {w} n m = spaced_same (x ∷ z ∷ []) (y ∷ w ∷ []) (n, (m, tt))

  three : {x y z w u v : NameId} → N x y → N z w → N u v → spaced e (x ∷ z ∷ u ∷ []) ≡ spaced f (y ∷ w ∷ v ∷ [])
  three {x} {y} {z} {w} {u} {v} n m k = spaced_same (x ∷ z ∷ u ∷ []) (y ∷ w ∷ v ∷ []) (n, (m, (k, tt)))

  literal_same : (t u : ℕ) → T t u → literal_in e.texts t ≡ literal_in f.texts u
  literal_same t u h = ap literal h.here ∙ sym (ap literal h.there)

  value_same : {v w : Value} → SameValue N T v w → constant_text e.texts v ≡ constant_text f.texts w
  value_same number = refl
  value_same truth = refl
  value_same (text {t = t} {u = u} h) = literal_same t u h
  value_same (part n) = refl

  strength_same : {t u : Term} → SameTerm N T t u → strength_of t ≡ strength_of u
  strength_same (constant h) = refl
  strength_same (variable n) = refl
  strength_same (unary h) = refl
  strength_same (binary h k) = refl

  term_same : {t u : Term} → SameTerm N T t u → term_text e t ≡ term_text f u
  term_same (constant h) = value_same h
  term_same (variable n) = name_same n
  term_same (unary {o = o} h) = λ i. spelling (unary_mark o) ++ operand_text 6 (strength_same h i) (term_same h i)
  term_same (binary {o = o} h k) = λ i.
      operand_text (left_needs o) (strength_same h i) (term_same h i) ++ (codes " " ++ spelling (binary_mark o) ++ codes " ") ++ operand_text (right_needs o) (strength_same k i) (term_same k i)

  action_same : {a b : Action} → SameAction N T a b → action_text e a ≡ action_text f b
  action_same (joins c r k) = λ i. codes "join" ++ one c i ++ codes "[" ++ name_same r i ++ codes "](" ++ name_same k i ++ codes ")"
  action_same (sends k b t) = λ i. codes "send" ++ two k b i ++ codes " " ++ term_same t i
  action_same (receives k a x) = λ i. codes "recv" ++ three k a x i
  action_same (selects k b l) = λ i. codes "pick" ++ three k b l i
  action_same (gives k b h) = λ i. codes "give" ++ three k b h i
  action_same (gains k a h) = λ i. codes "gain" ++ three k a h i
  action_same (sets x t) = λ i. codes "set" ++ one x i ++ codes " " ++ term_same t i
  action_same (shows t) = λ i. codes "show " ++ term_same t i
  action_same (asks x h l r) = λ i. codes "host" ++ two x h i ++ codes "(" ++ term_same l i ++ codes ", " ++ term_same r i ++ codes ")"

  -- ---- arms

  -- what holds of all others and of one more
  arms_put : (P : Entry → Type 0) {l : NameId} {c : CodeTree} {others arms : Arms} → ArmIsIn l c others arms → P (name_text f l, code_text f c) → AllByRecursion P (arms_of f others) → AllByRecursion P (arms_of f arms)
  arms_put P here p a = (p, a)
  arms_put P (there i) p a = (a.0, arms_put P i p a.1)

  -- one more arm, wherever it stands, goes to its place
  put_ordered : {l : NameId} {c : CodeTree} {others arms : Arms} → ArmIsIn l c others arms → AllByRecursion (λ x. label x ≢ name_text f l) (arms_of f others)
      → inserted label (name_text f l, code_text f c) (ascending label (arms_of f others)) ≡ ascending label (arms_of f arms)
  put_ordered here a = refl
  put_ordered {l} {c} (there {k = k} {d = d} {rest = rest} i) a =
      inserted_both label (name_text f l, code_text f c) (name_text f k, code_text f d) (ascending label (arms_of f rest)) (λ h. a.0 (sym h))
      ∙ ap (inserted label (name_text f k, code_text f d)) (put_ordered i a.1)

  -- a label that isn't among those of the one arms has another word than those of the others
  label_apart : {qs ps : Arms} (l m : NameId) → N l m → has_label l qs ≡ false → SameArms N T qs ps → AllByRecursion (λ x. label x ≢ name_text f m) (arms_of f ps)
  label_apart l m n h no_arm = tt
  label_apart l m n h (one_arm {l = k} {m = j} {qs = qs} o s i r) =
      let two = neither (l.0 == k.0) (has_label l qs) h in
      arms_put (λ x. label x ≢ name_text f m) i (λ same. differ l m k j n o two.0 same) (label_apart l m n two.1 r)
    where
      differ : (l m k j : NameId) → N l m → N k j → (l.0 == k.0) ≡ false → name_text f j ≡ name_text f m → ⊥
      differ l m k j n o apart same =
          let words = sym (get_or_from_slice_get f.names j.0 o.word [] o.there) ∙ same ∙ get_or_from_slice_get f.names m.0 n.word [] n.there in
          let numbers = distinct l.0 k.0 n.word n.here (o.here ∙ ap Some words) in
          let clash = sym apart ∙ count_same l.0 k.0 numbers in
          absurd cc

  mutual
    code_same : {c d : CodeTree} → SameCode N T c d → HasDistinctLabels c → code_text e c ≡ code_text f d
    code_same (does a c) u = λ i. action_same a i ++ codes "; " ++ code_same c u i
    code_same (offers k a s) u = λ i. codes "branch" ++ two k a i ++ codes " { " ++ flat_map arm_text (arms_same s u i) ++ codes "}"
    code_same (tests t c d) u = λ i. codes "if " ++ term_same t i ++ codes " " ++ braced (code_same c u.0 i) ++ codes " else " ++ braced (code_same d u.1 i)
    code_same (calls g p ss) u = λ i. codes "call" ++ two g p i ++ codes " (" ++ listed_same _ _ ss i ++ codes ")"
    code_same ends u = refl

    arms_same : {qs ps : Arms} → SameArms N T qs ps → AreDistinctArms qs → ascending label (arms_of e qs) ≡ ascending label (arms_of f ps)
    arms_same no_arm u = refl
    arms_same (one_arm {l = l} {m = m} n s i r) u =
        (λ j. inserted label (name_same n j, code_same s u.1 j) (arms_same r u.2 j)) ∙ put_ordered i (label_apart l m n u.0 r)

  -- ---- units

  body_same : (q p : CodeId) (bs : List NameId) → SameCode N T (code_at e.code.nodes q) (code_at f.code.nodes p) → IsScoped e q bs → body_text e q ≡ body_text f p
  body_same q p bs s scoped = ap (λ (t : List ℕ). codes " " ++ braced t ++ 10 ∷ []) (code_same s (scoped_distinct e scoped))

  serving_same : (xs ys : List NameId) → AllZip N xs ys → serving e xs ≡ serving f ys
  serving_same [] [] z = refl
  serving_same [] (y ∷ ys) z = absurd z
  serving_same (x ∷ xs) [] z = absurd z
  serving_same (x ∷ xs) (y ∷ ys) z = ap (λ (t : List ℕ). codes " | " ++ t) (listed_same (x ∷ xs) (y ∷ ys) z)

  channel_same : (c d : Channel) → SameChannel e f c d → channel_line e c ≡ channel_line f d
  channel_same c d s = λ i. codes "channel" ++ one s.name i ++ codes " (" ++ listed_same c.active d.active s.active i ++ serving_same c.serve d.serve s.serve i ++ codes ");" ++ 10 ∷ []

  procedure_same : (q p : Procedure) → SameProcedure e f q p → IsScoped e q.body q.sessions → procedure_line e q ≡ procedure_line f p
  procedure_same q p s scoped = λ i. codes "procedure" ++ two s.name s.param i ++ codes " (" ++ listed_same q.sessions p.sessions s.sessions i ++ codes ")" ++ body_same q.body p.body q.sessions s.body scoped i

  service_same : (s r : ServiceCode) → SameService e f s r → IsScoped e s.body (s.channel ∷ []) → service_line e s ≡ service_line f r
  service_same s r h scoped = λ i. codes "service" ++ one h.channel i ++ codes "[" ++ name_same h.role i ++ codes "]" ++ body_same s.body r.body (s.channel ∷ []) h.body scoped i

  process_same : (p q : Process) → SameProcess e f p q → IsScoped e p.body [] → process_line e p ≡ process_line f q
  process_same p q s scoped = λ i. codes "process" ++ one s.name i ++ body_same p.body q.body [] s.body scoped i

  any : {A : Type 0} (xs : List A) → All (λ (x : A). Unit {0}) xs
  any xs k d h = tt

  -- programs without a fault of names that are the same have the same text
  pub text_same : SamePrograms e f → HasNoNameFault e → endpoints_text e ≡ endpoints_text f
  text_same s fine =
      let channels = lines_same (SameChannel e f) (λ c. Unit {0}) (channel_line e) (channel_line f) (λ c d h u. channel_same c d h) e.channels f.channels s.channels (any e.channels) in
      let procedures = lines_same (SameProcedure e f) (λ q. IsScoped e q.body q.sessions) (procedure_line e) (procedure_line f) procedure_same e.procedures f.procedures s.procedures fine.procedure_bodies in
      let services = lines_same (SameService e f) (λ x. IsScoped e x.body (x.channel ∷ [])) (service_line e) (service_line f) service_same e.services f.services s.services fine.service_bodies in
      let processes = lines_same (SameProcess e f) (λ p. IsScoped e p.body []) (process_line e) (process_line f) process_same e.processes f.processes s.processes fine.process_bodies in
      λ i. header ++ channels i ++ procedures i ++ services i ++ processes i
