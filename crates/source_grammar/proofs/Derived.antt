-- An expression stays one where its tokens are exchanged for others of the same kinds, and where words are added.
use Rattle.std.proofs.Common.{◌≡◌, ◌<◌, suc, zero, ℕ, ℤ, Bool, List, [], ◌∷◌, ◌++◌, length, Some, arith}
use Rattle.std.specs.Prelude.{slice_get}
use Rattle.std.specs.List.{AllZip}
use Rattle.chor_base.specs.declared.names.NameId.{NameId}
use Rattle.chor_base.specs.declared.value.Value.TheVariants as value
use Rattle.chor_base.specs.Expr.{Term, Constant, Variable, Unary, Binary}
use Rattle.chor_base.specs.Writing.{truth_text}
use Rattle.chor_lexer.specs.declared.mark.Mark.{Mark}
use Rattle.chor_lexer.specs.declared.mark.Mark.TheVariants.{OpenParen, CloseParen}
use Rattle.chor_lexer.specs.declared.token.Kind.TheVariants as kind
use Rattle.chor_lexer.specs.declared.token.Token.{Token}
use Rattle.chor_lexer.specs.Keywords.{HasMark, HasWord, HasName}
use Rattle.chor_lexer.specs.Canonical.{unary_mark, binary_mark}
use Rattle.chor_lexer.specs.Grammar.{OrIs, OrGoes, AndIs, AndGoes, CmpIs, CmpGoes, SumIs, SumGoes, ProdIs, ProdGoes, UnIs, a_disjunction, or_done, or_more, a_conjunction, and_done, and_more, a_comparison, cmp_done, cmp_once, a_sum, sum_done, sum_more, a_product, prod_done, prod_more, a_unary, a_number, a_text, a_truth, a_name, in_parens}

-- ---- words are added

pub get_left : {A : Type 0} (xs ys : List A) (n : ℕ) (x : A) → slice_get xs n ≡ Some x → slice_get (xs ++ ys) n ≡ Some x
get_left [] ys n x e = absurd cc
get_left (y ∷ xs) ys zero x e = e
get_left (y ∷ xs) ys (suc n) x e = get_left xs ys n x e

pub get_back : {A : Type 0} (xs ys : List A) (n : ℕ) (x : A) → n < length xs → slice_get (xs ++ ys) n ≡ Some x → slice_get xs n ≡ Some x
get_back [] ys n x h e = absurd (omega arith)
get_back (y ∷ xs) ys zero x h e = e
get_back (y ∷ xs) ys (suc n) x h e = get_back xs ys n x (omega arith) e

pub word_more : {names : List (List ℕ)} {w : List ℕ} {t : Token} (words : List (List ℕ)) → HasWord names w t → HasWord (names ++ words) w t
word_more {names} {w} words h = record { number = h.number; kind = h.kind; word = get_left names words _ w h.word }

pub name_more : {names : List (List ℕ)} {x : NameId} {t : Token} (words : List (List ℕ)) → HasName names x t → HasName (names ++ words) x t
name_more {names} words h = record { word = h.word; kind = h.kind; is = get_left names words _ h.word h.is; name = h.name }

mutual
  or_more_words : {names : List (List ℕ)} {ts rest : List Token} {x : Term} (words : List (List ℕ)) → OrIs names ts x rest → OrIs (names ++ words) ts x rest
  or_more_words words (a_disjunction p g) = a_disjunction (and_more_words words p) (or_goes_more_words words g)

  or_goes_more_words : {names : List (List ℕ)} {ts rest : List Token} {a x : Term} (words : List (List ℕ)) → OrGoes names a ts x rest → OrGoes (names ++ words) a ts x rest
  or_goes_more_words words or_done = or_done
  or_goes_more_words words (or_more e h p g) = or_more e h (and_more_words words p) (or_goes_more_words words g)

  and_more_words : {names : List (List ℕ)} {ts rest : List Token} {x : Term} (words : List (List ℕ)) → AndIs names ts x rest → AndIs (names ++ words) ts x rest
  and_more_words words (a_conjunction p g) = a_conjunction (cmp_more_words words p) (and_goes_more_words words g)

  and_goes_more_words : {names : List (List ℕ)} {ts rest : List Token} {a x : Term} (words : List (List ℕ)) → AndGoes names a ts x rest → AndGoes (names ++ words) a ts x rest
  and_goes_more_words words and_done = and_done
  and_goes_more_words words (and_more e h p g) = and_more e h (cmp_more_words words p) (and_goes_more_words words g)

  cmp_more_words : {names : List (List ℕ)} {ts rest : List Token} {x : Term} (words : List (List ℕ)) → CmpIs names ts x rest → CmpIs (names ++ words) ts x rest
  cmp_more_words words (a_comparison p g) = a_comparison (sum_more_words words p) (cmp_goes_more_words words g)

  cmp_goes_more_words : {names : List (List ℕ)} {ts rest : List Token} {a x : Term} (words : List (List ℕ)) → CmpGoes names a ts x rest → CmpGoes (names ++ words) a ts x rest
  cmp_goes_more_words words cmp_done = cmp_done
  cmp_goes_more_words words (cmp_once e h p) = cmp_once e h (sum_more_words words p)

  sum_more_words : {names : List (List ℕ)} {ts rest : List Token} {x : Term} (words : List (List ℕ)) → SumIs names ts x rest → SumIs (names ++ words) ts x rest
  sum_more_words words (a_sum p g) = a_sum (prod_more_words words p) (sum_goes_more_words words g)

  sum_goes_more_words : {names : List (List ℕ)} {ts rest : List Token} {a x : Term} (words : List (List ℕ)) → SumGoes names a ts x rest → SumGoes (names ++ words) a ts x rest
  sum_goes_more_words words sum_done = sum_done
  sum_goes_more_words words (sum_more e h p g) = sum_more e h (prod_more_words words p) (sum_goes_more_words words g)

  prod_more_words : {names : List (List ℕ)} {ts rest : List Token} {x : Term} (words : List (List ℕ)) → ProdIs names ts x rest → ProdIs (names ++ words) ts x rest
  prod_more_words words (a_product p g) = a_product (un_more_words words p) (prod_goes_more_words words g)

  prod_goes_more_words : {names : List (List ℕ)} {ts rest : List Token} {a x : Term} (words : List (List ℕ)) → ProdGoes names a ts x rest → ProdGoes (names ++ words) a ts x rest
  prod_goes_more_words words prod_done = prod_done
  prod_goes_more_words words (prod_more e h p g) = prod_more e h (un_more_words words p) (prod_goes_more_words words g)

  un_more_words : {names : List (List ℕ)} {ts rest : List Token} {x : Term} (words : List (List ℕ)) → UnIs names ts x rest → UnIs (names ++ words) ts x rest
  un_more_words words (a_unary h p) = a_unary h (un_more_words words p)
  un_more_words words (a_number h) = a_number h
  un_more_words words (a_text h) = a_text h
  un_more_words words (a_truth h) = a_truth (word_more words h)
  un_more_words words (a_name h) = a_name (name_more words h)
  un_more_words words (in_parens h p c) = in_parens h (or_more_words words p) c

pub expr_more_words : {names : List (List ℕ)} {ts rest : List Token} {x : Term} (words : List (List ℕ)) → OrIs names ts x rest → OrIs (names ++ words) ts x rest
expr_more_words words p = or_more_words words p

-- ---- tokens are exchanged

-- a token that is an operand by itself
pub data Alone (names : List (List ℕ)) (t : Token) : Term → Type 0 where
  number : {z : ℤ} → t.kind ≡ kind.Number z → Alone names t (Constant (value.Int z))
  text : {n : ℕ} → t.kind ≡ kind.Text n → Alone names t (Constant (value.Text n))
  truth : {b : Bool} → HasWord names (truth_text b) t → Alone names t (Constant (value.Bool b))
  name : {x : NameId} → HasName names x t → Alone names t (Variable x)

-- a token can stand for another in an expression
pub record Like (names names' : List (List ℕ)) (t t' : Token) : Type 0 where
  pub mark : (m : Mark) → HasMark m t → HasMark m t'
  pub operand : (x : Term) → Alone names t x → (y : Term) × Alone names' t' y

-- what a part is with other tokens
record Over (names names' : List (List ℕ)) (Is : List Token → Term → List Token → Type 0) (ts' rest : List Token) : Type 0 where
  then : List Token
  value : Term
  like : AllZip (Like names names') rest then
  is : Is ts' value then

over : {names names' : List (List ℕ)} {Is : List Token → Term → List Token → Type 0} {ts' rest : List Token} (then : List Token) (value : Term) → AllZip (Like names names') rest then → Is ts' value then → Over names names' Is ts' rest
over then value l i = record { then = then; value = value; like = l; is = i }

alone : {names : List (List ℕ)} {t : Token} {x : Term} {rest : List Token} → Alone names t x → UnIs names (t ∷ rest) x rest
alone (number h) = a_number h
alone (text h) = a_text h
alone (truth h) = a_truth h
alone (name h) = a_name h

one : (names names' : List (List ℕ)) (t : Token) (rest : List Token) (x : Term) (ts' : List Token) → Alone names t x → AllZip (Like names names') (t ∷ rest) ts' → Over names names' (UnIs names') ts' rest
one names names' t rest x [] a l = absurd l
one names names' t rest x (u ∷ ts') a l = over _ _ l.1 (alone (l.0.operand x a).1)

-- after an operator, or any other mark
after_mark : (names names' : List (List ℕ)) (m : Mark) (t : Token) (ts rest ts' : List Token) (In Is : List Token → Term → List Token → Type 0) → HasMark m t → AllZip (Like names names') (t ∷ ts) ts' → ((us : List Token) → AllZip (Like names names') ts us → Over names names' In us rest) → ((u : Token) (us then : List Token) (y : Term) → HasMark m u → In us y then → (z : Term) × Is (u ∷ us) z then) → Over names names' Is ts' rest
after_mark names names' m t ts rest [] In Is h l on make = absurd l
after_mark names names' m t ts rest (u ∷ us) In Is h l on make =
    let o = on us l.1 in
    over _ _ o.like (make u us o.then o.value (l.0.mark m h) o.is).1

-- before a closing parenthesis
closed : (names names' : List (List ℕ)) (u : Token) (rest k : List Token) → HasMark CloseParen u → Over names names' (OrIs names') k (u ∷ rest) → Over names names' (λ k y r. (v : Token) × HasMark CloseParen v × OrIs names' k y (v ∷ r)) k rest
closed names names' u rest k c o = go o.then o.like o.is
  where
    go : (then : List Token) → AllZip (Like names names') (u ∷ rest) then → OrIs names' k o.value then → Over names names' (λ k y r. (v : Token) × HasMark CloseParen v × OrIs names' k y (v ∷ r)) k rest
    go [] l i = absurd l
    go (v ∷ then) l i = over _ _ l.1 (v, l.0.mark CloseParen c, i)

mutual
  or_like : (names names' : List (List ℕ)) (ts : List Token) (x : Term) (rest ts' : List Token) → OrIs names ts x rest → AllZip (Like names names') ts ts' → Over names names' (OrIs names') ts' rest
  or_like names names' ts x rest ts' (a_disjunction {mid = mid} {a = a} p g) l =
      let u = and_like names names' ts a mid ts' p l in
      let v = or_goes_like names names' a mid x rest u.value u.then g u.like in
      over _ _ v.like (a_disjunction u.is v.is)

  or_goes_like : (names names' : List (List ℕ)) (a : Term) (ts : List Token) (x : Term) (rest : List Token) (b : Term) (ts' : List Token) → OrGoes names a ts x rest → AllZip (Like names names') ts ts' → Over names names' (OrGoes names' b) ts' rest
  or_goes_like names names' a ts x rest b ts' or_done l = over _ _ l or_done
  or_goes_like names names' a ts x rest b ts' (or_more {t = t} {ts = us} {mid = mid} {b = c} {op = op} e h p g) l =
      after_mark names names' (binary_mark op) t us rest ts' (λ k y r. (m : List Token) × (d : Term) × AndIs names' k d m × OrGoes names' (Binary op b d) m y r) (OrGoes names' b) h l
      (λ k i. let u = and_like names names' us c mid k p i in let v = or_goes_like names names' (Binary op a c) mid x rest (Binary op b u.value) u.then g u.like in over _ _ v.like (u.then, u.value, u.is, v.is))
      (λ u k r y m i. (y, or_more e m i.2 i.3))

  and_like : (names names' : List (List ℕ)) (ts : List Token) (x : Term) (rest ts' : List Token) → AndIs names ts x rest → AllZip (Like names names') ts ts' → Over names names' (AndIs names') ts' rest
  and_like names names' ts x rest ts' (a_conjunction {mid = mid} {a = a} p g) l =
      let u = cmp_like names names' ts a mid ts' p l in
      let v = and_goes_like names names' a mid x rest u.value u.then g u.like in
      over _ _ v.like (a_conjunction u.is v.is)

  and_goes_like : (names names' : List (List ℕ)) (a : Term) (ts : List Token) (x : Term) (rest : List Token) (b : Term) (ts' : List Token) → AndGoes names a ts x rest → AllZip (Like names names') ts ts' → Over names names' (AndGoes names' b) ts' rest
  and_goes_like names names' a ts x rest b ts' and_done l = over _ _ l and_done
  and_goes_like names names' a ts x rest b ts' (and_more {t = t} {ts = us} {mid = mid} {b = c} {op = op} e h p g) l =
      after_mark names names' (binary_mark op) t us rest ts' (λ k y r. (m : List Token) × (d : Term) × CmpIs names' k d m × AndGoes names' (Binary op b d) m y r) (AndGoes names' b) h l
      (λ k i. let u = cmp_like names names' us c mid k p i in let v = and_goes_like names names' (Binary op a c) mid x rest (Binary op b u.value) u.then g u.like in over _ _ v.like (u.then, u.value, u.is, v.is))
      (λ u k r y m i. (y, and_more e m i.2 i.3))

  cmp_like : (names names' : List (List ℕ)) (ts : List Token) (x : Term) (rest ts' : List Token) → CmpIs names ts x rest → AllZip (Like names names') ts ts' → Over names names' (CmpIs names') ts' rest
  cmp_like names names' ts x rest ts' (a_comparison {mid = mid} {a = a} p g) l =
      let u = sum_like names names' ts a mid ts' p l in
      let v = cmp_goes_like names names' a mid x rest u.value u.then g u.like in
      over _ _ v.like (a_comparison u.is v.is)

  cmp_goes_like : (names names' : List (List ℕ)) (a : Term) (ts : List Token) (x : Term) (rest : List Token) (b : Term) (ts' : List Token) → CmpGoes names a ts x rest → AllZip (Like names names') ts ts' → Over names names' (CmpGoes names' b) ts' rest
  cmp_goes_like names names' a ts x rest b ts' cmp_done l = over _ _ l cmp_done
  cmp_goes_like names names' a ts x rest b ts' (cmp_once {t = t} {ts = us} {b = c} {op = op} e h p) l =
      after_mark names names' (binary_mark op) t us rest ts' (SumIs names') (CmpGoes names' b) h l
      (λ k i. sum_like names names' us c rest k p i)
      (λ u k r y m i. (Binary op b y, cmp_once e m i))

  sum_like : (names names' : List (List ℕ)) (ts : List Token) (x : Term) (rest ts' : List Token) → SumIs names ts x rest → AllZip (Like names names') ts ts' → Over names names' (SumIs names') ts' rest
  sum_like names names' ts x rest ts' (a_sum {mid = mid} {a = a} p g) l =
      let u = prod_like names names' ts a mid ts' p l in
      let v = sum_goes_like names names' a mid x rest u.value u.then g u.like in
      over _ _ v.like (a_sum u.is v.is)

  sum_goes_like : (names names' : List (List ℕ)) (a : Term) (ts : List Token) (x : Term) (rest : List Token) (b : Term) (ts' : List Token) → SumGoes names a ts x rest → AllZip (Like names names') ts ts' → Over names names' (SumGoes names' b) ts' rest
  sum_goes_like names names' a ts x rest b ts' sum_done l = over _ _ l sum_done
  sum_goes_like names names' a ts x rest b ts' (sum_more {t = t} {ts = us} {mid = mid} {b = c} {op = op} e h p g) l =
      after_mark names names' (binary_mark op) t us rest ts' (λ k y r. (m : List Token) × (d : Term) × ProdIs names' k d m × SumGoes names' (Binary op b d) m y r) (SumGoes names' b) h l
      (λ k i. let u = prod_like names names' us c mid k p i in let v = sum_goes_like names names' (Binary op a c) mid x rest (Binary op b u.value) u.then g u.like in over _ _ v.like (u.then, u.value, u.is, v.is))
      (λ u k r y m i. (y, sum_more e m i.2 i.3))

  prod_like : (names names' : List (List ℕ)) (ts : List Token) (x : Term) (rest ts' : List Token) → ProdIs names ts x rest → AllZip (Like names names') ts ts' → Over names names' (ProdIs names') ts' rest
  prod_like names names' ts x rest ts' (a_product {mid = mid} {a = a} p g) l =
      let u = un_like names names' ts a mid ts' p l in
      let v = prod_goes_like names names' a mid x rest u.value u.then g u.like in
      over _ _ v.like (a_product u.is v.is)

  prod_goes_like : (names names' : List (List ℕ)) (a : Term) (ts : List Token) (x : Term) (rest : List Token) (b : Term) (ts' : List Token) → ProdGoes names a ts x rest → AllZip (Like names names') ts ts' → Over names names' (ProdGoes names' b) ts' rest
  prod_goes_like names names' a ts x rest b ts' prod_done l = over _ _ l prod_done
  prod_goes_like names names' a ts x rest b ts' (prod_more {t = t} {ts = us} {mid = mid} {b = c} {op = op} e h p g) l =
      after_mark names names' (binary_mark op) t us rest ts' (λ k y r. (m : List Token) × (d : Term) × UnIs names' k d m × ProdGoes names' (Binary op b d) m y r) (ProdGoes names' b) h l
      (λ k i. let u = un_like names names' us c mid k p i in let v = prod_goes_like names names' (Binary op a c) mid x rest (Binary op b u.value) u.then g u.like in over _ _ v.like (u.then, u.value, u.is, v.is))
      (λ u k r y m i. (y, prod_more e m i.2 i.3))

  un_like : (names names' : List (List ℕ)) (ts : List Token) (x : Term) (rest ts' : List Token) → UnIs names ts x rest → AllZip (Like names names') ts ts' → Over names names' (UnIs names') ts' rest
  un_like names names' ts x rest ts' (a_unary {t = t} {ts = us} {x = y} {op = op} h p) l =
      after_mark names names' (unary_mark op) t us rest ts' (UnIs names') (UnIs names') h l
      (λ k i. un_like names names' us y rest k p i)
      (λ u k r y m i. (Unary op y, a_unary m i))
  un_like names names' ts x rest ts' (a_number {t = t} h) l = one names names' t rest x ts' (number h) l
  un_like names names' ts x rest ts' (a_text {t = t} h) l = one names names' t rest x ts' (text h) l
  un_like names names' ts x rest ts' (a_truth {t = t} h) l = one names names' t rest x ts' (truth h) l
  un_like names names' ts x rest ts' (a_name {t = t} h) l = one names names' t rest x ts' (name h) l
  un_like names names' ts x rest ts' (in_parens {t = t} {u = u} {ts = us} h p c) l =
      after_mark names names' OpenParen t us rest ts' (λ k y r. (v : Token) × HasMark CloseParen v × OrIs names' k y (v ∷ r)) (UnIs names') h l
      (λ k i. closed names names' u rest k c (or_like names names' us x (u ∷ rest) k p i))
      (λ v k r y m i. (y, in_parens m i.2 i.1))

pub expr_like : (names names' : List (List ℕ)) (ts ts' : List Token) (x : Term) → OrIs names ts x [] → AllZip (Like names names') ts ts' → (y : Term) × OrIs names' ts' y []
expr_like names names' ts ts' x p l = let o = or_like names names' ts x [] ts' p l in go o.then o.value o.like o.is
  where
    go : (then : List Token) (y : Term) → AllZip (Like names names') [] then → OrIs names' ts' y then → (z : Term) × OrIs names' ts' z []
    go [] y l i = (y, i)
    go (t ∷ then) y l i = absurd l
