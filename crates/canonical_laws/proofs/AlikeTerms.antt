-- Expressions that tokens derive are derived by alike tokens, in their own tables.
use Rattle.std.proofs.Common.{◌≡◌, ◌&&◌, ℤ, pos, negsuc, Bool, true, false, List, ◌∷◌, refl, sym, subst}
use Rattle.std.proofs.lemmas.Bool.Decides.{Decides-eqb}
use Rattle.chor_base.specs.declared.value.Value.TheVariants as value
use Rattle.chor_base.specs.declared.expr.UnOp.{UnOp}
use Rattle.chor_base.specs.declared.expr.UnOp.TheVariants.{Neg, Not}
use Rattle.chor_base.specs.declared.expr.BinOp.{BinOp}
use Rattle.chor_base.specs.Expr.{Term, Constant, Variable, Unary, Binary, int_same, bool_same}
use Rattle.chor_lexer.specs.declared.token.Kind.{Kind}
use Rattle.chor_lexer.specs.declared.token.Token.{Token}
use Rattle.chor_lexer.specs.Tokens.{Spells}
use Rattle.chor_lexer.specs.Grammar.{OrIs, OrGoes, AndIs, AndGoes, CmpIs, CmpGoes, SumIs, SumGoes, ProdIs, ProdGoes, UnIs, ExprIs, a_disjunction, or_done, or_more, a_conjunction, and_done, and_more, a_comparison, cmp_done, cmp_once, a_sum, sum_done, sum_more, a_product, prod_done, prod_more, a_unary, a_number, a_text, a_truth, a_name, in_parens}
use Rattle.chor_tree.specs.Same.{same_unary, number_of_binary, same_binary, same_term}
use Rattle.canonical_laws.proofs.Alike.{Tables, alike_words, alike_texts, Alike, Read, met, met_mark, met_word, met_name, number_there, text_there}

own_unary : (op : UnOp) → same_unary op op ≡ true
own_unary Neg = refl
own_unary Not = refl

own_binary : (op : BinOp) → same_binary op op ≡ true
own_binary op = (Decides-eqb (number_of_binary op) (number_of_binary op)).1 refl

own_int : (z : ℤ) → int_same z z ≡ true
own_int (pos n) = (Decides-eqb n n).1 refl
own_int (negsuc n) = (Decides-eqb n n).1 refl

own_truth : (b : Bool) → bool_same b b ≡ true
own_truth true = refl
own_truth false = refl

-- the same term
abbrev pub alike_terms : Tables → Term → Term → Bool
alike_terms T = same_term (alike_words T) (alike_texts T)

module _ {T : Tables} where
  mutual
    or_renewed : {x : Term} {ts rest us : List Token} → OrIs T.names ts x rest → Alike T ts us → Read T (OrIs T.other_names) (alike_terms T x) rest us
    or_renewed (a_disjunction p g) h =
        let a = and_renewed p h in
        let b = or_goes_renewed a.read a.same g a.others in
        record { read = b.read; left = b.left; is = a_disjunction a.is b.is; keeps = λ k. tt; same = b.same; others = b.others }

    or_goes_renewed : {a x : Term} {ts rest us : List Token} (a' : Term) → alike_terms T a a' ≡ true → OrGoes T.names a ts x rest → Alike T ts us
        → Read T (OrGoes T.other_names a') (alike_terms T x) rest us
    or_goes_renewed {us = us} a' e or_done h = record { read = a'; left = us; is = or_done; keeps = λ k. tt; same = e; others = h }
    or_goes_renewed a' e (or_more {op = op} s m p g) h =
        let f = met h in
        let b = and_renewed p f.others in
        let c = or_goes_renewed (Binary op a' b.read) (λ i. own_binary op i && e i && b.same i) g b.others in
        record { read = c.read; left = c.left; is = subst (λ (l : List Token). OrGoes T.other_names a' l c.read c.left) (sym f.parts) (or_more s (met_mark f m) b.is c.is); keeps = λ k. tt; same = c.same; others = c.others }

    and_renewed : {x : Term} {ts rest us : List Token} → AndIs T.names ts x rest → Alike T ts us → Read T (AndIs T.other_names) (alike_terms T x) rest us
    and_renewed (a_conjunction p g) h =
        let a = cmp_renewed p h in
        let b = and_goes_renewed a.read a.same g a.others in
        record { read = b.read; left = b.left; is = a_conjunction a.is b.is; keeps = λ k. tt; same = b.same; others = b.others }

    and_goes_renewed : {a x : Term} {ts rest us : List Token} (a' : Term) → alike_terms T a a' ≡ true → AndGoes T.names a ts x rest → Alike T ts us
        → Read T (AndGoes T.other_names a') (alike_terms T x) rest us
    and_goes_renewed {us = us} a' e and_done h = record { read = a'; left = us; is = and_done; keeps = λ k. tt; same = e; others = h }
    and_goes_renewed a' e (and_more {op = op} s m p g) h =
        let f = met h in
        let b = cmp_renewed p f.others in
        let c = and_goes_renewed (Binary op a' b.read) (λ i. own_binary op i && e i && b.same i) g b.others in
        record { read = c.read; left = c.left; is = subst (λ (l : List Token). AndGoes T.other_names a' l c.read c.left) (sym f.parts) (and_more s (met_mark f m) b.is c.is); keeps = λ k. tt; same = c.same; others = c.others }

    cmp_renewed : {x : Term} {ts rest us : List Token} → CmpIs T.names ts x rest → Alike T ts us → Read T (CmpIs T.other_names) (alike_terms T x) rest us
    cmp_renewed (a_comparison p g) h =
        let a = sum_renewed p h in
        let b = cmp_goes_renewed a.read a.same g a.others in
        record { read = b.read; left = b.left; is = a_comparison a.is b.is; keeps = λ k. tt; same = b.same; others = b.others }

    cmp_goes_renewed : {a x : Term} {ts rest us : List Token} (a' : Term) → alike_terms T a a' ≡ true → CmpGoes T.names a ts x rest → Alike T ts us
        → Read T (CmpGoes T.other_names a') (alike_terms T x) rest us
    cmp_goes_renewed {us = us} a' e cmp_done h = record { read = a'; left = us; is = cmp_done; keeps = λ k. tt; same = e; others = h }
    cmp_goes_renewed a' e (cmp_once {op = op} s m p) h =
        let f = met h in
        let b = sum_renewed p f.others in
        let x = Binary op a' b.read in
        record { read = x; left = b.left; is = subst (λ (l : List Token). CmpGoes T.other_names a' l x b.left) (sym f.parts) (cmp_once s (met_mark f m) b.is); keeps = λ k. tt; same = λ i. own_binary op i && e i && b.same i; others = b.others }

    sum_renewed : {x : Term} {ts rest us : List Token} → SumIs T.names ts x rest → Alike T ts us → Read T (SumIs T.other_names) (alike_terms T x) rest us
    sum_renewed (a_sum p g) h =
        let a = prod_renewed p h in
        let b = sum_goes_renewed a.read a.same g a.others in
        record { read = b.read; left = b.left; is = a_sum a.is b.is; keeps = λ k. tt; same = b.same; others = b.others }

    sum_goes_renewed : {a x : Term} {ts rest us : List Token} (a' : Term) → alike_terms T a a' ≡ true → SumGoes T.names a ts x rest → Alike T ts us
        → Read T (SumGoes T.other_names a') (alike_terms T x) rest us
    sum_goes_renewed {us = us} a' e sum_done h = record { read = a'; left = us; is = sum_done; keeps = λ k. tt; same = e; others = h }
    sum_goes_renewed a' e (sum_more {op = op} s m p g) h =
        let f = met h in
        let b = prod_renewed p f.others in
        let c = sum_goes_renewed (Binary op a' b.read) (λ i. own_binary op i && e i && b.same i) g b.others in
        record { read = c.read; left = c.left; is = subst (λ (l : List Token). SumGoes T.other_names a' l c.read c.left) (sym f.parts) (sum_more s (met_mark f m) b.is c.is); keeps = λ k. tt; same = c.same; others = c.others }

    prod_renewed : {x : Term} {ts rest us : List Token} → ProdIs T.names ts x rest → Alike T ts us → Read T (ProdIs T.other_names) (alike_terms T x) rest us
    prod_renewed (a_product p g) h =
        let a = un_renewed p h in
        let b = prod_goes_renewed a.read a.same g a.others in
        record { read = b.read; left = b.left; is = a_product a.is b.is; keeps = λ k. tt; same = b.same; others = b.others }

    prod_goes_renewed : {a x : Term} {ts rest us : List Token} (a' : Term) → alike_terms T a a' ≡ true → ProdGoes T.names a ts x rest → Alike T ts us
        → Read T (ProdGoes T.other_names a') (alike_terms T x) rest us
    prod_goes_renewed {us = us} a' e prod_done h = record { read = a'; left = us; is = prod_done; keeps = λ k. tt; same = e; others = h }
    prod_goes_renewed a' e (prod_more {op = op} s m p g) h =
        let f = met h in
        let b = un_renewed p f.others in
        let c = prod_goes_renewed (Binary op a' b.read) (λ i. own_binary op i && e i && b.same i) g b.others in
        record { read = c.read; left = c.left; is = subst (λ (l : List Token). ProdGoes T.other_names a' l c.read c.left) (sym f.parts) (prod_more s (met_mark f m) b.is c.is); keeps = λ k. tt; same = c.same; others = c.others }

    un_renewed : {x : Term} {ts rest us : List Token} → UnIs T.names ts x rest → Alike T ts us → Read T (UnIs T.other_names) (alike_terms T x) rest us
    un_renewed (a_unary {op = op} m p) h =
        let f = met h in
        let a = un_renewed p f.others in
        let x = Unary op a.read in
        record { read = x; left = a.left; is = subst (λ (l : List Token). UnIs T.other_names l x a.left) (sym f.parts) (a_unary (met_mark f m) a.is); keeps = λ k. tt; same = λ i. own_unary op i && a.same i; others = a.others }
    un_renewed (a_number {z = z} e) h =
        let f = met h in
        let k = number_there T z f.token.kind f.symbol (subst (λ (k : Kind). Spells T.names T.texts k f.symbol) e f.one) f.other in
        let x = Constant (value.Int z) in
        record { read = x; left = f.left; is = subst (λ (l : List Token). UnIs T.other_names l x f.left) (sym f.parts) (a_number k); keeps = λ k. tt; same = own_int z; others = f.others }
    un_renewed (a_text {n = n} e) h =
        let f = met h in
        let k = text_there T n f.token.kind f.symbol (subst (λ (k : Kind). Spells T.names T.texts k f.symbol) e f.one) f.other in
        let x = Constant (value.Text k.number) in
        record { read = x; left = f.left; is = subst (λ (l : List Token). UnIs T.other_names l x f.left) (sym f.parts) (a_text k.kind_is); keeps = λ k. tt; same = k.same; others = f.others }
    un_renewed (a_truth {b = b} w) h =
        let f = met h in
        let x = Constant (value.Bool b) in
        record { read = x; left = f.left; is = subst (λ (l : List Token). UnIs T.other_names l x f.left) (sym f.parts) (a_truth (met_word f w)); keeps = λ k. tt; same = own_truth b; others = f.others }
    un_renewed (a_name w) h =
        let f = met h in
        let k = met_name f w in
        let x = Variable k.name in
        record { read = x; left = f.left; is = subst (λ (l : List Token). UnIs T.other_names l x f.left) (sym f.parts) (a_name k.is); keeps = λ k. tt; same = k.same; others = f.others }
    un_renewed (in_parens o p c) h =
        let f = met h in
        let a = or_renewed p f.others in
        let e = met a.others in
        let inside : OrIs T.other_names f.left a.read (e.token ∷ e.left) = subst (λ (l : List Token). OrIs T.other_names f.left a.read l) e.parts a.is in
        record { read = a.read; left = e.left; is = subst (λ (l : List Token). UnIs T.other_names l a.read e.left) (sym f.parts) (in_parens (met_mark f o) inside (met_mark e c)); keeps = λ k. tt; same = a.same; others = e.others }

  pub term_renewed : {x : Term} {ts rest us : List Token} → ExprIs T.names ts x rest → Alike T ts us → Read T (ExprIs T.other_names) (alike_terms T x) rest us
  term_renewed d h = or_renewed d h
