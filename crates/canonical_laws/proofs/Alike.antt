-- Tokens that spell the same symbols in two pairs of tables: what is derived of the first is derived of the others.
use Rattle.std.proofs.Common.{◌≡◌, ◌<◌, ◌-◌, ◌&&◌, ℕ, ℤ, zero, suc, Bool, true, List, [], ◌∷◌, length, Some, refl, sym, ap, ◌∙◌, subst, arith, bytes_eq}
use Rattle.std.specs.Prelude.{slice_get}
use Rattle.std.proofs.lemmas.Slice.Eq.{bytes_eq-Decides}
use Rattle.chor_base.specs.declared.names.NameId.{NameId}
use Rattle.chor_base.specs.declared.rule.Place.{Place}
use Rattle.chor_base.specs.declared.rule.Rule.{Rule}
use Rattle.chor_base.specs.declared.rule.Rule.TheVariants.{P3}
use Rattle.chor_lexer.specs.declared.mark.Mark.{Mark}
use Rattle.chor_lexer.specs.declared.token.Kind.{Kind}
use Rattle.chor_lexer.specs.declared.token.Kind.TheVariants as kind
use Rattle.chor_lexer.specs.declared.token.Token.{Token}
use Rattle.chor_lexer.specs.Keywords.{HasMark, HasWord, HasName}
use Rattle.chor_lexer.specs.Lexeme.{Symbol, word, number, text, mark, last}
use Rattle.chor_lexer.specs.Spelling.{SpellAll}
use Rattle.chor_lexer.specs.Tokens.{Spells}
use Rattle.chor_lexer.proofs.Spelling.{name_of}
use Rattle.source_grammar.specs.Symbols.{nowhere, AllowsFirst, Room}
use Rattle.chor_tree.specs.declared.file.Named.{Named}
use Rattle.chor_tree.specs.Same.{Same, all_same, same_named, same_words, same_found, same_texts}
use Rattle.source_grammar.specs.Grammar.{MarkIs, WordIs, NameIs, StandsAt, EndIs, MoreAre, no_more, one_more, ListIs, a_list}
use Rattle.source_grammar.specs.Expressions.{KeepsLength}
use Rattle.source_grammar.specs.Limits.{KeepsMore, KeepsList}
use Rattle.canonical_laws.proofs.Tokens.{Stands}

-- words and texts in two pairs of tables
pub record Tables : Type 0 where
  pub names : List (List ℕ)
  pub texts : List (List ℕ)
  pub other_names : List (List ℕ)
  pub other_texts : List (List ℕ)

-- which names of the two are the same words, and which texts are the same
abbrev pub alike_words : Tables → Same NameId
alike_words T = same_words T.names T.other_names

abbrev pub alike_texts : Tables → Same ℕ
alike_texts T = same_texts T.texts T.other_texts

-- both spell the same symbols, each in its own tables
pub record Alike (T : Tables) (ts us : List Token) : Type 0 where
  pub symbols : List Symbol
  pub one : SpellAll T.names T.texts ts symbols
  pub other : SpellAll T.other_names T.other_texts us symbols

-- an item that is the same is derived there of the first tokens, so is said of its limits, and those left are alike
pub record Renewed (T : Tables) {A : Type 0} (Item : List Token → A → List Token → Type 0) (Keeps : (us : List Token) (y : A) (left : List Token) → Item us y left → Type 0) (is_same : A → Bool) (rest us : List Token) : Type 0 where
  pub read : A
  pub left : List Token
  pub is : Item us read left
  pub keeps : Keeps us read left is
  pub same : is_same read ≡ true
  pub others : Alike T rest left

-- an item without limits
abbrev pub Read : (T : Tables) {A : Type 0} (Item : List Token → A → List Token → Type 0) (is_same : A → Bool) (rest us : List Token) → Type 0
Read T Item is_same rest us = Renewed T Item (λ vs y left d. Unit {0} → Unit {0}) is_same rest us

-- the first tokens are so
pub record Passed (T : Tables) (Is : List Token → List Token → Type 0) (rest us : List Token) : Type 0 where
  pub left : List Token
  pub is : Is us left
  pub others : Alike T rest left

-- ---- kinds

own_bytes : (w : List ℕ) → bytes_eq w w ≡ true
own_bytes w = (bytes_eq-Decides w w).1 refl

module _ (T : Tables) where
  mark_there : (m : Mark) (l : Kind) (s : Symbol) → Spells T.names T.texts (kind.Mark m) s → Spells T.other_names T.other_texts l s → l ≡ kind.Mark m
  mark_there m l (word w) a b = absurd a
  mark_there m l (number n) a b = absurd a
  mark_there m l (text t) a b = absurd a
  mark_there m l last a b = absurd a
  mark_there m (kind.Mark j) (mark k) a b = ap kind.Mark (b ∙ sym a)
  mark_there m _ (mark k) a b = absurd b

  last_there : (l : Kind) (s : Symbol) → Spells T.names T.texts kind.Last s → Spells T.other_names T.other_texts l s → l ≡ kind.Last
  last_there l (word w) a b = absurd a
  last_there l (number n) a b = absurd a
  last_there l (text t) a b = absurd a
  last_there l (mark k) a b = absurd a
  last_there kind.Last last a b = refl
  last_there _ last a b = absurd b

  pub number_there : (z : ℤ) (l : Kind) (s : Symbol) → Spells T.names T.texts (kind.Number z) s → Spells T.other_names T.other_texts l s → l ≡ kind.Number z
  number_there z l (word w) a b = absurd a
  number_there z l (text t) a b = absurd a
  number_there z l (mark k) a b = absurd a
  number_there z l last a b = absurd a
  number_there z (kind.Number y) (number n) a b = ap kind.Number (b ∙ sym a)
  number_there z _ (number n) a b = absurd b

  -- a word of the other table
  pub record WordThere (n : NameId) (l : Kind) (w : List ℕ) : Type 0 where
    pub number : NameId
    pub kind_is : l ≡ kind.Word number
    pub word_is : slice_get T.other_names number.0 ≡ Some w
    pub same : alike_words T n number ≡ true

  word_there : (n : NameId) (w : List ℕ) → slice_get T.names n.0 ≡ Some w → (l : Kind) (s : Symbol) → Spells T.names T.texts (kind.Word n) s → Spells T.other_names T.other_texts l s → WordThere n l w
  word_there n w h l (number m) a b = absurd a
  word_there n w h l (text t) a b = absurd a
  word_there n w h l (mark k) a b = absurd a
  word_there n w h l last a b = absurd a
  word_there n w h (kind.Word m) (word v) a b =
      let there : slice_get T.other_names m.0 ≡ Some w = b ∙ sym a ∙ h in
      record {
        number = m;
        kind_is = refl;
        word_is = there;
        same = (λ i. bytes_eq (name_of T.names n w h i) (name_of T.other_names m w there i)) ∙ own_bytes w;
      }
  word_there n w h _ (word v) a b = absurd b

  -- a text of the other table
  pub record TextThere (n : ℕ) (l : Kind) : Type 0 where
    pub number : ℕ
    pub kind_is : l ≡ kind.Text number
    pub same : alike_texts T n number ≡ true

  pub text_there : (n : ℕ) (l : Kind) (s : Symbol) → Spells T.names T.texts (kind.Text n) s → Spells T.other_names T.other_texts l s → TextThere n l
  text_there n l (word w) a b = absurd a
  text_there n l (number m) a b = absurd a
  text_there n l (mark k) a b = absurd a
  text_there n l last a b = absurd a
  text_there n (kind.Text m) (text v) a b = record { number = m; kind_is = refl; same = (λ i. same_found (a i) (b i)) ∙ own_bytes v }
  text_there n _ (text v) a b = absurd b

-- where one of two lists of the same length has a token, the other has one
token_at : (n : ℕ) (ts us : List Token) → length ts ≡ length us → {u : Token} → slice_get us n ≡ Some u → (t : Token) × (slice_get ts n ≡ Some t)
token_at n [] [] e h = absurd cc
token_at n [] (u ∷ us) e h = absurd cc
token_at n (t ∷ ts) [] e h = absurd cc
token_at zero (t ∷ ts) (u ∷ us) e h = (t, refl)
token_at (suc n) (t ∷ ts) (u ∷ us) e h = let fewer : length ts ≡ length us = omega (arith, e) in token_at n ts us fewer h

-- the name there
pub record NameThere (T : Tables) (x : NameId) (t : Token) : Type 0 where
  pub name : NameId
  pub is : HasName T.other_names name t
  pub same : alike_words T x name ≡ true

-- ---- the first token

-- the first token there spells the same symbol
pub record Met (T : Tables) (t : Token) (rest us : List Token) : Type 0 where
  pub token : Token
  pub left : List Token
  pub parts : us ≡ token ∷ left
  pub symbol : Symbol
  pub one : Spells T.names T.texts t.kind symbol
  pub other : Spells T.other_names T.other_texts token.kind symbol
  pub others : Alike T rest left

module _ {T : Tables} where
  pub met : {t : Token} {rest us : List Token} → Alike T (t ∷ rest) us → Met T t rest us
  met {t} {rest} {us} h = go us h.symbols h.one h.other
    where
      go : (us : List Token) (ss : List Symbol) → SpellAll T.names T.texts (t ∷ rest) ss → SpellAll T.other_names T.other_texts us ss → Met T t rest us
      go us [] a b = absurd a
      go [] (s ∷ ss) a b = absurd b
      go (u ∷ us) (s ∷ ss) a b = record { token = u; left = us; parts = refl; symbol = s; one = a.0; other = b.0; others = record { symbols = ss; one = a.1; other = b.1 } }

  pub met_at : {t : Token} {ts rest us : List Token} → ts ≡ t ∷ rest → Alike T ts us → Met T t rest us
  met_at {us = us} e h = met (subst (λ (l : List Token). Alike T l us) e h)

  none_left : {us : List Token} → Alike T [] us → us ≡ []
  none_left {us} h = go us h.symbols h.one h.other
    where
      go : (us : List Token) (ss : List Symbol) → SpellAll T.names T.texts [] ss → SpellAll T.other_names T.other_texts us ss → us ≡ []
      go us (s ∷ ss) a b = absurd a
      go [] [] a b = refl
      go (u ∷ us) [] a b = absurd b

  -- ---- single tokens

  module _ {t : Token} {rest us : List Token} (f : Met T t rest us) where
    pub met_mark : {m : Mark} → HasMark m t → HasMark m f.token
    met_mark {m} h = mark_there T m f.token.kind f.symbol (subst (λ (k : Kind). Spells T.names T.texts k f.symbol) h f.one) f.other

    met_number : {n : NameId} {w : List ℕ} → t.kind ≡ kind.Word n → slice_get T.names n.0 ≡ Some w → WordThere T n f.token.kind w
    met_number {n} {w} h e = word_there T n w e f.token.kind f.symbol (subst (λ (k : Kind). Spells T.names T.texts k f.symbol) h f.one) f.other

    pub met_word : {w : List ℕ} → HasWord T.names w t → HasWord T.other_names w f.token
    met_word h = let k = met_number h.kind h.word in record { number = k.number; kind = k.kind_is; word = k.word_is }

  pub met_name : {t : Token} {rest us : List Token} (f : Met T t rest us) {x : NameId} → HasName T.names x t → NameThere T x f.token
  met_name f h =
      let k = met_number f h.kind h.is in
      record { name = k.number; is = record { word = h.word; kind = k.kind_is; is = k.word_is; name = h.name }; same = k.same }

  pub mark_passes : {m : Mark} {ts rest us : List Token} → MarkIs m ts rest → Alike T ts us → Passed T (MarkIs m) rest us
  mark_passes d h =
      let f = met_at d.parts h in
      record { left = f.left; is = record { token = f.token; parts = f.parts; is = met_mark f d.is }; others = f.others }

  pub word_passes : {w : List ℕ} {ts rest us : List Token} → WordIs T.names w ts rest → Alike T ts us → Passed T (WordIs T.other_names w) rest us
  word_passes d h =
      let f = met_at d.parts h in
      record { left = f.left; is = record { token = f.token; parts = f.parts; is = met_word f d.is }; others = f.others }

  pub name_renewed : {n : Named} {ts rest us : List Token} → NameIs T.names ts n rest → Alike T ts us → Read T (NameIs T.other_names) (same_named (alike_words T) n) rest us
  name_renewed d h =
      let f = met_at d.parts h in
      let k = met_name f d.is in
      record {
        read = record { name = k.name; place = f.token.place };
        left = f.left;
        is = record { token = f.token; parts = f.parts; is = k.is; place = refl };
        keeps = λ k. tt;
        same = k.same;
        others = f.others;
      }

  pub stands_there : {p : Place} {ts us : List Token} → StandsAt p ts → Alike T ts us → Stands us
  stands_there d h = let f = met_at d.parts h in record { at = f.token.place; is = record { token = f.token; rest = f.left; parts = f.parts; place = refl } }

  pub end_there : {ts us : List Token} → EndIs ts → Alike T ts us → EndIs us
  end_there {us = us} d h =
      let f = met_at d.alone h in
      record {
        token = f.token;
        alone = f.parts ∙ ap (λ (l : List Token). f.token ∷ l) (none_left f.others);
        last = last_there T f.token.kind f.symbol (subst (λ (k : Kind). Spells T.names T.texts k f.symbol) d.last f.one) f.other;
      }

  -- ---- lengths

  same_length : {ts us : List Token} → Alike T ts us → length ts ≡ length us
  same_length {ts} {us} h = go ts us h.symbols h.one h.other
    where
      go : (ts us : List Token) (ss : List Symbol) → SpellAll T.names T.texts ts ss → SpellAll T.other_names T.other_texts us ss → length ts ≡ length us
      go [] [] [] a b = refl
      go [] (u ∷ us) [] a b = absurd b
      go (t ∷ ts) us [] a b = absurd a
      go [] us (s ∷ ss) a b = absurd a
      go (t ∷ ts) [] (s ∷ ss) a b = absurd b
      go (t ∷ ts) (u ∷ us) (s ∷ ss) a b = ap suc (go ts us ss a.1 b.1)

  pub length_kept : {ts rest us left : List Token} → Alike T ts us → Alike T rest left → KeepsLength nowhere ts rest → KeepsLength nowhere us left
  length_kept {ts} {rest} {us} {left} h k keeps = λ u l e.
      let t = token_at 255 ts us (same_length h) e in
      keeps t.0 (subst (λ n. 255 < n) (λ i. sym (same_length h) i - sym (same_length k) i) l) t.1

  pub room_kept : (rule : Rule) (n : ℕ) {ts us : List Token} → Alike T ts us → Room nowhere rule n ts → Room nowhere rule n us
  room_kept rule n {ts} {us} h room = λ e. go ts us h (room e)
    where
      go : (ts us : List Token) → Alike T ts us → AllowsFirst nowhere rule ts → AllowsFirst nowhere rule us
      go [] us h a = subst (AllowsFirst nowhere rule) (sym (none_left h)) tt
      go (t ∷ ts) us h a = absurd a

-- ---- lists

-- an item is derived there as here, within its limits if it was within them
abbrev pub ItemRenews : (T : Tables) {A : Type 0} (Here There : List Token → A → List Token → Type 0) → ((ts : List Token) (x : A) (rest : List Token) → Here ts x rest → Type 0)
    → ((us : List Token) (y : A) (left : List Token) → There us y left → Type 0) → Same A → Type 0
ItemRenews T {A} Here There KeepsHere KeepsThere same =
    (ts rest us : List Token) (x : A) (d : Here ts x rest) → Alike T ts us → Renewed T There (λ vs y left e. KeepsHere ts x rest d → KeepsThere vs y left e) (same x) rest us

module _ {T : Tables} {A : Type 0} {Here There : List Token → A → List Token → Type 0} {KeepsHere : (ts : List Token) (x : A) (rest : List Token) → Here ts x rest → Type 0}
    {KeepsThere : (us : List Token) (y : A) (left : List Token) → There us y left → Type 0} {same : Same A} (item : ItemRenews T Here There KeepsHere KeepsThere same) where
  more_renewed : {xs : List A} {ts rest us : List Token} (d : MoreAre Here ts xs rest) → Alike T ts us
      → Renewed T (MoreAre There) (λ vs ys left e. (n : ℕ) → KeepsMore nowhere KeepsHere n d → KeepsMore nowhere KeepsThere n e) (all_same same xs) rest us
  more_renewed {us = us} no_more h = record { read = []; left = us; is = no_more; keeps = λ n k. tt; same = refl; others = h }
  more_renewed (one_more m d r) h =
      let a = mark_passes m h in
      let b = item _ _ a.left _ d a.others in
      let c = more_renewed r b.others in
      record {
        read = b.read ∷ c.read;
        left = c.left;
        is = one_more a.is b.is c.is;
        keeps = λ n k. (room_kept P3 n a.others k.0, b.keeps k.1, c.keeps (n - 1) k.2);
        same = λ i. b.same i && c.same i;
        others = c.others;
      }

  pub list_renewed : {xs : List A} {ts rest us : List Token} (d : ListIs Here ts xs rest) → Alike T ts us
      → Renewed T (ListIs There) (λ vs ys left e. (n : ℕ) → KeepsList nowhere KeepsHere n d → KeepsList nowhere KeepsThere n e) (all_same same xs) rest us
  list_renewed {us = us} (a_list d r) h =
      let b = item _ _ us _ d h in
      let c = more_renewed r b.others in
      record {
        read = b.read ∷ c.read;
        left = c.left;
        is = a_list b.is c.is;
        keeps = λ n k. (room_kept P3 n h k.0, b.keeps k.1, c.keeps (n - 1) k.2);
        same = λ i. b.same i && c.same i;
        others = c.others;
      }
