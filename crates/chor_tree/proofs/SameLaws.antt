-- Saying the same is an equivalence of files: reflexive, symmetric and transitive.
use Rattle.std.proofs.Common.{◌≡◌, ℕ, Bool, true, false, List, [], ◌∷◌, ◌&&◌, ◌==◌, refl, ap, subst, Option, Some, None}
use Rattle.std.specs.Prelude.{ℤ, pos, negsuc, bytes_eq}
use Rattle.std.specs.Cmp.Derive.{both_true}
use Rattle.std.proofs.lemmas.Bool.{and_parts, eqb-true, false≢true}
use Rattle.std.proofs.lemmas.Bool.Decides.{Decides-eqb}
use Rattle.std.proofs.lemmas.Slice.Eq.{bytes_eq-Decides}
use Rattle.chor_base.specs.declared.names.NameId.{NameId}
use Rattle.chor_base.specs.declared.value.Sort.{Sort}
use Rattle.chor_base.specs.declared.value.Sort.TheVariants as sort
use Rattle.chor_base.specs.declared.value.Value.TheVariants.{Int, Bool as Truth, Text, Part as Endpoint}
use Rattle.chor_base.specs.declared.expr.UnOp.{UnOp}
use Rattle.chor_base.specs.declared.expr.UnOp.TheVariants.{Neg, Not}
use Rattle.chor_base.specs.declared.expr.BinOp.{BinOp}
use Rattle.chor_base.specs.declared.expr.BinOp.TheVariants.{Add, Sub, Mul, Div, Eq, Ne, Lt, Le, And, Or}
use Rattle.chor_base.specs.Expr.{Constant, Variable, Unary, Binary, int_same, bool_same}
use Rattle.chor_tree.specs.declared.protocol.Payload.TheVariants as payload
use Rattle.chor_tree.specs.declared.protocol.ProtoStep.TheVariants as step
use Rattle.chor_tree.specs.Source.{Starts, Sends, Selects, Gives, Sets, Asks, Shows, Then, Either, Calls, Ends}
use Rattle.chor_tree.specs.Same.{Same, all_same, same_named, same_part, same_sort, same_payload, same_arm, same_step, same_state, same_protocol, same_service, same_variable, same_process_param, same_holder, same_session_param, same_value, same_unary, number_of_binary, same_binary, same_term, same_statement, same_block, same_procedure, same_source, same_found, same_capacity, same_header}

-- ---- what holds together, and each of it

pub two : {a b : Bool} → (a && b) ≡ true → (a ≡ true) × (b ≡ true)
two h = and_parts _ _ h

pub three : {a b c : Bool} → (a && b && c) ≡ true → (a ≡ true) × (b ≡ true) × (c ≡ true)
three h = let x = two h in let y = two x.0 in (y.0, y.1, x.1)

pub four : {a b c d : Bool} → (a && b && c && d) ≡ true → (a ≡ true) × (b ≡ true) × (c ≡ true) × (d ≡ true)
four h = let x = two h in let y = three x.0 in (y.0, y.1, y.2, x.1)

pub five : {a b c d e : Bool} → (a && b && c && d && e) ≡ true → (a ≡ true) × (b ≡ true) × (c ≡ true) × (d ≡ true) × (e ≡ true)
five h = let x = two h in let y = four x.0 in (y.0, y.1, y.2, y.3, x.1)

pub all_two : {a b : Bool} → a ≡ true → b ≡ true → (a && b) ≡ true
all_two h k = both_true h k

pub all_three : {a b c : Bool} → a ≡ true → b ≡ true → c ≡ true → (a && b && c) ≡ true
all_three h k l = both_true (all_two h k) l

pub all_four : {a b c d : Bool} → a ≡ true → b ≡ true → c ≡ true → d ≡ true → (a && b && c && d) ≡ true
all_four h k l m = both_true (all_three h k l) m

pub all_five : {a b c d e : Bool} → a ≡ true → b ≡ true → c ≡ true → d ≡ true → e ≡ true → (a && b && c && d && e) ≡ true
all_five h k l m o = both_true (all_four h k l m) o

pub six : {a b c d e f : Bool} → (a && b && c && d && e && f) ≡ true → (a ≡ true) × (b ≡ true) × (c ≡ true) × (d ≡ true) × (e ≡ true) × (f ≡ true)
six h = let x = two h in let y = five x.0 in (y.0, y.1, y.2, y.3, y.4, x.1)

pub all_six : {a b c d e f : Bool} → a ≡ true → b ≡ true → c ≡ true → d ≡ true → e ≡ true → f ≡ true → (a && b && c && d && e && f) ≡ true
all_six h k l m o p = both_true (all_five h k l m o) p

-- ---- what the tests of bytes, numbers and operators tell

pub same_bytes : (xs ys : List ℕ) → bytes_eq xs ys ≡ true → xs ≡ ys
same_bytes xs ys h = (bytes_eq-Decides xs ys).0 h

pub found_tells : (x y : Option (List ℕ)) → same_found x y ≡ true → x ≡ y
found_tells (Some x) (Some y) h = ap Some (same_bytes x y h)
found_tells None None h = refl
found_tells _ _ h = absurd (false≢true h)

capacity_tells : (x y : Option ℕ) → same_capacity x y ≡ true → x ≡ y
capacity_tells (Some c) (Some d) h = ap Some (eqb-true c d h)
capacity_tells None None h = refl
capacity_tells _ _ h = absurd (false≢true h)

pub int_tells : (y z : ℤ) → int_same y z ≡ true → y ≡ z
int_tells (pos a) (pos b) h = ap pos (eqb-true a b h)
int_tells (negsuc a) (negsuc b) h = ap negsuc (eqb-true a b h)
int_tells _ _ h = absurd (false≢true h)

pub bool_tells : (a b : Bool) → bool_same a b ≡ true → a ≡ b
bool_tells true true h = refl
bool_tells false false h = refl
bool_tells _ _ h = absurd (false≢true h)

pub sort_tells : (s r : Sort) → same_sort s r ≡ true → s ≡ r
sort_tells sort.Int sort.Int h = refl
sort_tells sort.Bool sort.Bool h = refl
sort_tells sort.Text sort.Text h = refl
sort_tells _ _ h = absurd (false≢true h)

pub unary_tells : (o p : UnOp) → same_unary o p ≡ true → o ≡ p
unary_tells Neg Neg h = refl
unary_tells Not Not h = refl
unary_tells _ _ h = absurd (false≢true h)

pub binary_tells : (o p : BinOp) → same_binary o p ≡ true → o ≡ p
binary_tells Add Add h = refl
binary_tells Sub Sub h = refl
binary_tells Mul Mul h = refl
binary_tells Div Div h = refl
binary_tells Eq Eq h = refl
binary_tells Ne Ne h = refl
binary_tells Lt Lt h = refl
binary_tells Le Le h = refl
binary_tells And And h = refl
binary_tells Or Or h = refl
binary_tells _ _ h = absurd (false≢true h)

-- ---- tests that are an equivalence, between two or three files

abbrev pub Reflexive : {A : Type 0} → Same A → Type 0
Reflexive {A} p = (x : A) → p x x ≡ true

-- what the first test says of two things, the second says of them turned round
abbrev pub Turned : {A : Type 0} → Same A → Same A → Type 0
Turned {A} p q = (x y : A) → p x y ≡ true → q y x ≡ true

-- what the first test says of two things and the second of the next two, the third says of the outer two
abbrev pub Joined : {A : Type 0} → Same A → Same A → Same A → Type 0
Joined {A} p q r = (x y z : A) → p x y ≡ true → q y z ≡ true → r x z ≡ true

all_own : {A : Type 0} (p : Same A) → Reflexive p → Reflexive (all_same p)
all_own p each [] = refl
all_own p each (x ∷ xs) = all_two (each x) (all_own p each xs)

pub all_turned : {A : Type 0} {p q : Same A} → Turned p q → Turned (all_same p) (all_same q)
all_turned each [] [] h = refl
all_turned each (x ∷ xs) (y ∷ ys) h = let a = two h in all_two (each x y a.0) (all_turned each xs ys a.1)
all_turned each _ _ h = absurd (false≢true h)

pub all_joined : {A : Type 0} {p q r : Same A} → Joined p q r → Joined (all_same p) (all_same q) (all_same r)
all_joined each [] [] [] h k = refl
all_joined each (x ∷ xs) (y ∷ ys) (z ∷ zs) h k =
    let a = two h in
    let b = two k in
    all_two (each x y z a.0 b.0) (all_joined each xs ys zs a.1 b.1)
all_joined each [] [] _ h k = absurd (false≢true k)
all_joined each (x ∷ xs) (y ∷ ys) _ h k = absurd (false≢true k)
all_joined each _ _ _ h k = absurd (false≢true h)

-- a test that tells equality, and holds of each thing and itself, is an equivalence
module _ {A : Type 0} {p : Same A} (own : Reflexive p) (tells : (x y : A) → p x y ≡ true → x ≡ y) where
  pub equal_turned : Turned p p
  equal_turned x y h = subst (λ z. p z x ≡ true) (tells x y h) (own x)

  pub equal_joined : Joined p p p
  equal_joined x y z h k = subst (λ v. p x v ≡ true) (tells y z k) h

-- ---- bytes, numbers and operators

pub bytes_own : Reflexive bytes_eq
bytes_own xs = (bytes_eq-Decides xs xs).1 refl

pub found_own : Reflexive same_found
found_own (Some x) = bytes_own x
found_own None = refl

pub number_own : Reflexive (λ (x : ℕ) (y : ℕ). x == y)
number_own x = (Decides-eqb x x).1 refl

capacity_own : Reflexive same_capacity
capacity_own (Some c) = number_own c
capacity_own None = refl

header_own : Reflexive same_header
header_own h = all_two (number_own h.version) (capacity_own h.capacity)

pub header_turned : Turned same_header same_header
header_turned h k e =
    let a = two e in
    all_two (equal_turned number_own eqb-true h.version k.version a.0) (equal_turned capacity_own capacity_tells h.capacity k.capacity a.1)

pub header_joined : Joined same_header same_header same_header
header_joined h k l e d =
    let a = two e in
    let b = two d in
    all_two
    (equal_joined number_own eqb-true h.version k.version l.version a.0 b.0)
    (equal_joined capacity_own capacity_tells h.capacity k.capacity l.capacity a.1 b.1)

pub int_own : Reflexive int_same
int_own (pos a) = number_own a
int_own (negsuc a) = number_own a

pub bool_own : Reflexive bool_same
bool_own true = refl
bool_own false = refl

pub sort_own : Reflexive same_sort
sort_own sort.Int = refl
sort_own sort.Bool = refl
sort_own sort.Text = refl

pub unary_own : Reflexive same_unary
unary_own Neg = refl
unary_own Not = refl

pub binary_own : Reflexive same_binary
binary_own o = number_own (number_of_binary o)

-- ---- each says the same as itself

module _ (n : Same NameId) (t : Same ℕ) (name_own : Reflexive n) (text_own : Reflexive t) where
  named_own : Reflexive (same_named n)
  named_own x = name_own x.name

  part_own : Reflexive (same_part n)
  part_own x = all_two (named_own x.process) (named_own x.role)

  payload_own : Reflexive (same_payload n)
  payload_own (payload.Plain s) = sort_own s
  payload_own (payload.Endpoint p s r) = all_three (named_own p) (named_own s) (named_own r)

  arm_own : Reflexive (same_arm n)
  arm_own x = all_two (named_own x.label) (named_own x.next)

  step_own : Reflexive (same_step n)
  step_own step.End = refl
  step_own (step.Value p q v s) = all_four (named_own p) (named_own q) (payload_own v) (named_own s)
  step_own (step.Choice p q ms) = all_three (named_own p) (named_own q) (all_own (same_arm n) arm_own ms)

  state_own : Reflexive (same_state n)
  state_own x = all_two (named_own x.name) (step_own x.step)

  protocol_own : Reflexive (same_protocol n)
  protocol_own x = all_three (named_own x.name) (all_own (same_named n) named_own x.roles) (all_own (same_state n) state_own x.states)

  service_own : Reflexive (same_service n)
  service_own x = all_four (named_own x.name) (named_own x.protocol) (all_own (same_named n) named_own x.active) (all_own (same_named n) named_own x.serve)

  variable_own : Reflexive (same_variable n)
  variable_own x = all_two (named_own x.0) (sort_own x.1)

  process_param_own : Reflexive (same_process_param n)
  process_param_own x = all_two (named_own x.name) (all_own (same_variable n) variable_own x.vars)

  holder_own : Reflexive (same_holder n)
  holder_own x = all_two (named_own x.0) (named_own x.1)

  session_param_own : Reflexive (same_session_param n)
  session_param_own x = all_four (named_own x.name) (named_own x.protocol) (named_own x.state) (all_own (same_holder n) holder_own x.holders)

  value_own : Reflexive (same_value n t)
  value_own (Int z) = int_own z
  value_own (Truth b) = bool_own b
  value_own (Text x) = text_own x
  value_own (Endpoint s r) = all_two (number_own s) (name_own r)

  term_own : Reflexive (same_term n t)
  term_own (Constant v) = value_own v
  term_own (Variable x) = name_own x
  term_own (Unary o e) = all_two (unary_own o) (term_own e)
  term_own (Binary o e d) = all_three (binary_own o) (term_own e) (term_own d)

  statement_own : Reflexive (same_statement n t)
  statement_own (Starts c k ps qs) = all_four (named_own c) (named_own k) (all_own (same_part n) part_own ps) (all_own (same_part n) part_own qs)
  statement_own (Sends p e q x k) = all_five (part_own p) (term_own e) (part_own q) (name_own x) (named_own k)
  statement_own (Selects p q k x) = all_four (part_own p) (part_own q) (named_own k) (name_own x)
  statement_own (Gives p q k r) = all_four (part_own p) (part_own q) (named_own k) (part_own r)
  statement_own (Sets p x e) = all_three (named_own p) (name_own x) (term_own e)
  statement_own (Asks p x g d e) = all_five (named_own p) (name_own x) (named_own g) (term_own d) (term_own e)
  statement_own (Shows p e) = all_two (named_own p) (term_own e)

  block_own : Reflexive (same_block n t)
  block_own (Then p s c) = all_two (statement_own s) (block_own c)
  block_own (Either p x e c d) = all_four (named_own x) (term_own e) (block_own c) (block_own d)
  block_own (Calls p g ps ks) = all_three (named_own g) (all_own (same_named n) named_own ps) (all_own (same_named n) named_own ks)
  block_own (Ends p) = refl

  procedure_own : Reflexive (same_procedure n t)
  procedure_own x =
      all_four
      (named_own x.name)
      (all_own (same_process_param n) process_param_own x.params)
      (all_own (same_session_param n) session_param_own x.sessions)
      (block_own x.body)

  pub source_own : Reflexive (same_source n t)
  source_own x =
      all_six
      (header_own x.header)
      (all_own (same_protocol n) protocol_own x.items.protocols)
      (all_own (same_service n) service_own x.items.services)
      (all_own (same_procedure n t) procedure_own x.items.procedures)
      (all_own (same_named n) named_own x.processes)
      (block_own x.body)
