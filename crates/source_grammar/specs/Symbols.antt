-- Parts of a grammar of tokens, each a relation between the tokens from some place on, what they derive there, and the tokens that
-- are left after it.
use Rattle.std.specs.Prelude.{◌≡◌, ◌⊎◌, ◌-◌, ℕ, true, false, List, [], ◌∷◌, ◌++◌, Option, Some, None}
use Rattle.std.specs.List.{AllByRecursion}
use Rattle.chor_base.specs.declared.rule.Place.{Place}
use Rattle.chor_base.specs.declared.rule.Rule.{Rule}
use Rattle.chor_base.specs.declared.rule.Rule.TheVariants.{P1}
use Rattle.chor_base.specs.declared.rule.Denied.{Denied}
use Rattle.chor_base.specs.declared.rule.Denied.TheVariants.{Refused}
use Rattle.chor_base.specs.declared.rule.Refusal.{Refusal}
use Rattle.chor_lexer.specs.declared.token.Token.{Token}
use Rattle.chor_lexer.specs.Keywords.{keywords}
use Rattle.chor_lexer.specs.Tokens.{IsKnown, is_last, is_ended}

-- where which rule may be violated
abbrev pub Allowed : Type 1
Allowed = Rule → Place → Type 0

abbrev pub nowhere : Allowed
nowhere rule p = ⊥

abbrev pub anywhere : Allowed
anywhere rule p = Unit {0}

abbrev pub only_at : Place → Allowed
only_at q rule p = p ≡ q

abbrev pub but_at : Rule → Place → Allowed
but_at rule q r p = r ≡ rule → p ≡ q → ⊥

-- any rule at the place p, this one at q too
abbrev pub also_at : Rule → Place → Place → Allowed
also_at rule q p r o = (o ≡ p) ⊎ ((r ≡ rule) × (o ≡ q))

-- a part of a grammar: where limits may be exceeded, the words by their numbers, the tokens, what is derived, the tokens left
abbrev pub Part : Type 0 → Type 1
Part A = Allowed → List (List ℕ) → List Token → A → List Token → Type 0

-- tokens with which a part that has been derived could still go on
abbrev pub Further : Type 1
Further = List (List ℕ) → Token → Type 0

abbrev pub Nothing : Further
Nothing names t = ⊥

-- what comes next doesn't go on with it
abbrev pub Ends : Further → List (List ℕ) → List Token → Type 0
Ends C names ts = (t : Token) (rest : List Token) → ts ≡ t ∷ rest → C names t → ⊥

-- words that are enough to complete whatever has begun
abbrev pub more_words : List (List ℕ)
more_words = (97 ∷ []) ∷ keywords

-- the tokens end with the end of the file, which stands nowhere else, and their words are in the table
pub record AreWhole (names : List (List ℕ)) (ts : List Token) : Type 0 where
  pub ended : is_ended ts ≡ true
  pub known : AllByRecursion (IsKnown names) ts

-- ---- what is asked of a part

-- what was derived doesn't depend on what comes after it, nor on words that are added
pub record Fits {A : Type 0} (R : Part A) (Q : Allowed) (names : List (List ℕ)) (ts : List Token) (x : A) (rest : List Token) : Type 0 where
  pub front : List Token
  pub parts : ts ≡ front ++ rest
  pub again : (words : List (List ℕ)) (more : List Token) → R Q (names ++ words) (front ++ more) x more

-- the part can be completed after these tokens, with tokens that all stand at one place
pub record Completes {A : Type 0} (R : Part A) (Q : Allowed) (p : Place) (names : List (List ℕ)) (ts : List Token) : Type 0 where
  pub added : List Token
  pub there : AllByRecursion (λ t. t.place ≡ p) added
  pub value : A
  pub is : (more : List Token) → R Q (names ++ more_words) (ts ++ (added ++ more)) value more

pub record IsPart {A : Type 0} (R : Part A) (C : Further) : Type 1 where
  pub fits : {Q : Allowed} {names : List (List ℕ)} {ts : List Token} {x : A} {rest : List Token} → R Q names ts x rest → Fits R Q names ts x rest
  pub wider : {Q Q' : Allowed} {names : List (List ℕ)} {ts : List Token} {x : A} {rest : List Token} → ((rule : Rule) (p : Place) → Q rule p → Q' rule p) → R Q names ts x rest → R Q' names ts x rest
  pub one : {Q Q' : Allowed} {names : List (List ℕ)} {ts : List Token} {x y : A} {rest rest' : List Token} → R Q names ts x rest → R Q' names ts y rest' → Ends C names rest → Ends C names rest' → (x ≡ y) × (rest ≡ rest')
  pub some : (p : Place) (names : List (List ℕ)) → Completes R (only_at p) p names []
  pub ended : {Q : Allowed} {names : List (List ℕ)} {ts : List Token} {x : A} {rest : List Token} → R Q names ts x rest → is_ended ts ≡ true → is_ended rest ≡ true
  pub back : (names words : List (List ℕ)) (t : Token) → IsKnown names t → C (names ++ words) t → C names t

-- ---- what a reader answers

-- both begin with the same token
pub record SameFirst (ts us : List Token) : Type 0 where
  pub token : Token
  pub one : List Token
  pub other : List Token
  pub first : ts ≡ token ∷ one
  pub second : us ≡ token ∷ other

-- whatever comes after the token that stands there next, nothing else is derived, from no more and no fewer tokens
pub record Only {A : Type 0} (R : Part A) (C : Further) (names : List (List ℕ)) (ts : List Token) (x : A) (rest : List Token) : Type 0 where
  pub front : List Token
  pub parts : ts ≡ front ++ rest
  pub by : (words : List (List ℕ)) (more : List Token) (y : A) (left : List Token) → SameFirst rest more → R anywhere (names ++ words) (front ++ more) y left → Ends C (names ++ words) left → (y ≡ x) × (left ≡ more)

-- it has read a part within the limits, and where the tokens are whole, what comes next doesn't go on with it
pub record Reads {A : Type 0} (R : Part A) (C : Further) (names : List (List ℕ)) (ts : List Token) (x : A) (rest : List Token) : Type 0 where
  pub is : R nowhere names ts x rest
  pub only : AreWhole names ts → Only R C names ts x rest

-- a token can't be there; or it can, and a limit is exceeded there, by no other rule: it can be completed with no further excess but
-- in what is added, wherever that stands
pub data Reason {A : Type 0} (R : Part A) (names : List (List ℕ)) (before : List Token) (t : Token) : Rule → Type 0 where
  wrong : Reason R names before t P1
  excess : {rule : Rule} → ((p : Place) → Completes R (also_at rule t.place p) p names (before ++ t ∷ [])) → Reason R names before t rule

-- it stops at the first token that violates a rule: those before it can be completed, with no excess but in what is added; with
-- the token nothing can be derived that doesn't violate the rule there
pub record Stops {A : Type 0} (R : Part A) (C : Further) (names : List (List ℕ)) (ts : List Token) (rule : Rule) (place : Place) : Type 0 where
  pub before : List Token
  pub token : Token
  pub rest : List Token
  pub parts : ts ≡ before ++ token ∷ rest
  pub at : place ≡ token.place
  pub viable : (p : Place) → Completes R (only_at p) p names before
  pub never : (words : List (List ℕ)) (more : List Token) (y : A) (left : List Token) → R (but_at rule place) (names ++ words) (before ++ token ∷ more) y left → Ends C (names ++ words) left → ⊥
  pub reason : Reason R names before token rule

-- a refusal is right where the tokens are whole; want of memory tells nothing
pub record Halts {A : Type 0} (R : Part A) (C : Further) (names : List (List ℕ)) (ts : List Token) (d : Denied) : Type 0 where
  pub by : (r : Refusal) → d ≡ Refused r → AreWhole names ts → Stops R C names ts r.rule r.place × (r.who ≡ None)

-- ---- parts put together

-- one part and then another, which may depend on what the first derives
pub record ThenBy {A B : Type 0} (R : Part A) (S : A → Part B) (Q : Allowed) (names : List (List ℕ)) (ts : List Token) (v : A × B) (rest : List Token) : Type 0 where
  pub mid : List Token
  pub first : R Q names ts v.0 mid
  pub second : S v.0 Q names mid v.1 rest

-- one part and then another
abbrev pub Then : {A B : Type 0} → Part A → Part B → Part (A × B)
Then R S = ThenBy R (λ x. S)

-- what a second part begins with doesn't go on with the first
pub record Apart {B : Type 0} (C : Further) (S : Part B) (D : Further) : Type 1 where
  pub by : {Q : Allowed} {names : List (List ℕ)} {ts : List Token} {y : B} {rest : List Token} → S Q names ts y rest → Ends D names rest → Ends C names ts

-- one of two parts
pub data Choice (A B : Type 0) : Type 0 where
  left : A → Choice A B
  right : B → Choice A B

pub data OneOf {A B : Type 0} (R : Part A) (S : Part B) (Q : Allowed) (names : List (List ℕ)) : List Token → Choice A B → List Token → Type 0 where
  the_first : {ts rest : List Token} {x : A} → R Q names ts x rest → OneOf R S Q names ts (left x) rest
  the_second : {ts rest : List Token} {y : B} → S Q names ts y rest → OneOf R S Q names ts (right y) rest

-- a part or nothing
pub data AtMost {A : Type 0} (R : Part A) (Q : Allowed) (names : List (List ℕ)) : List Token → Option A → List Token → Type 0 where
  without : {ts : List Token} → AtMost R Q names ts None ts
  with : {ts rest : List Token} {x : A} → R Q names ts x rest → AtMost R Q names ts (Some x) rest

-- the same is said of a token whatever words are added
pub record IsStable (F : Further) : Type 0 where
  pub stays : (names words : List (List ℕ)) (t : Token) → F names t → F (names ++ words) t
  pub back : (names words : List (List ℕ)) (t : Token) → IsKnown names t → F (names ++ words) t → F names t

-- each of these tokens is one of those
abbrev pub Among : Further → Further → Type 0
Among F G = (names : List (List ℕ)) (t : Token) → F names t → G names t

-- no token is one of both
abbrev pub AreDistinct : Further → Further → Type 0
AreDistinct F G = (names : List (List ℕ)) (t : Token) → F names t → G names t → ⊥

-- the tokens begin with one of these
pub record Head (F : Further) (names : List (List ℕ)) (ts : List Token) : Type 0 where
  pub token : Token
  pub rest : List Token
  pub parts : ts ≡ token ∷ rest
  pub is : F names token

-- a part begins with one of these tokens
pub record Begins {A : Type 0} (R : Part A) (F : Further) : Type 1 where
  pub by : {Q : Allowed} {names : List (List ℕ)} {ts : List Token} {x : A} {rest : List Token} → R Q names ts x rest → Head F names ts

-- the first of these tokens stands where the rule may be violated
abbrev pub AllowsFirst : Allowed → Rule → List Token → Type 0
AllowsFirst Q rule [] = Unit {0}
AllowsFirst Q rule (t ∷ ts) = Q rule t.place

-- what begins with these tokens is one of n things that may stand there, or one too many where the rule may be violated
abbrev pub Room : Allowed → Rule → ℕ → List Token → Type 0
Room Q rule n ts = n ≡ 0 → AllowsFirst Q rule ts

-- a part for which there has to be room
pub record Within {A : Type 0} (rule : Rule) (n : ℕ) (R : Part A) (Q : Allowed) (names : List (List ℕ)) (ts : List Token) (x : A) (rest : List Token) : Type 0 where
  pub room : Room Q rule n ts
  pub is : R Q names ts x rest

-- after each token with which it may begin, a part can be completed, with no excess but in what is added
pub record Opens {A : Type 0} (R : Part A) (F : Further) : Type 0 where
  pub by : (names : List (List ℕ)) (t : Token) (p : Place) → F names t → Completes R (only_at p) p names (t ∷ [])

-- what the second part says of a value that the first derives
pub record As {A B : Type 0} (S : Part B) (f : B → A) (Q : Allowed) (names : List (List ℕ)) (ts : List Token) (x : A) (rest : List Token) : Type 0 where
  pub value : B
  pub is : S Q names ts value rest
  pub same : x ≡ f value

-- two ways to say one part
pub record Alike {A B : Type 0} (R : Part A) (S : Part B) (f : B → A) : Type 1 where
  pub to : {Q : Allowed} {names : List (List ℕ)} {ts : List Token} {x : A} {rest : List Token} → R Q names ts x rest → As S f Q names ts x rest
  pub from : {Q : Allowed} {names : List (List ℕ)} {ts : List Token} {y : B} {rest : List Token} → S Q names ts y rest → R Q names ts (f y) rest

-- ---- one token

-- a token that says x
pub record One {A : Type 0} (P : A → Further) (Q : Allowed) (names : List (List ℕ)) (ts : List Token) (x : A) (rest : List Token) : Type 0 where
  pub token : Token
  pub parts : ts ≡ token ∷ rest
  pub is : P x names token

-- some token says it at this place
pub record Sample {A : Type 0} (P : A → Further) (p : Place) (names : List (List ℕ)) : Type 0 where
  pub value : A
  pub token : Token
  pub there : token.place ≡ p
  pub is : P value names token

-- what is asked of tokens of one class: each says one thing, whatever words are added, and isn't the end of the file
pub record IsClass {A : Type 0} (P : A → Further) : Type 0 where
  pub stable : (x : A) → IsStable (P x)
  pub one : (names : List (List ℕ)) (t : Token) (x y : A) → P x names t → P y names t → x ≡ y
  pub inside : (names : List (List ℕ)) (t : Token) (x : A) → P x names t → is_last t.kind ≡ false
  pub some : (p : Place) (names : List (List ℕ)) → Sample P p (names ++ more_words)

-- the tokens that say anything
abbrev pub Says : {A : Type 0} → (A → Further) → Further
Says {A} P names t = (x : A) × P x names t

-- ---- as many as there are

-- parts one after another, the first by R n, the next by R (n - 1), and so on
pub data Repeats {A : Type 0} (R : ℕ → Part A) (Q : Allowed) (names : List (List ℕ)) : ℕ → List Token → List A → List Token → Type 0 where
  done : {n : ℕ} {ts : List Token} → Repeats R Q names n ts [] ts
  again : {n : ℕ} {ts mid rest : List Token} {x : A} {xs : List A} → R n Q names ts x mid → Repeats R Q names (n - 1) mid xs rest → Repeats R Q names n ts (x ∷ xs) rest

-- n of them have room
abbrev pub Times : {A : Type 0} → (ℕ → Part A) → ℕ → Part (List A)
Times R n Q names ts xs rest = Repeats R Q names n ts xs rest

-- what is asked of parts that come one after another: begun by F, each goes on at most with C, and all of them with D
pub record AreRepeated {A : Type 0} (R : ℕ → Part A) (C D F : Further) : Type 1 where
  pub part : (n : ℕ) → IsPart (R n) C
  pub begins : (n : ℕ) → Begins (R n) F
  pub distinct : AreDistinct F C
  pub items : Among C D
  pub starts : Among F D
  pub start_stable : IsStable F
  pub end_stable : IsStable D

-- ---- refusals

-- it refuses the first of these tokens by the rule, if it refuses any
pub record RefusesFirst (rule : Rule) (ts : List Token) (d : Denied) : Type 0 where
  pub by : (r : Refusal) → d ≡ Refused r → (r.rule ≡ rule) × (r.who ≡ None)
  pub at : (r : Refusal) → d ≡ Refused r → (t : Token) (rest : List Token) → ts ≡ t ∷ rest → r.place ≡ t.place

-- there is room for one of n more, or none of these tokens comes, which would begin it
pub record HasRoom (F : Further) (names : List (List ℕ)) (ts : List Token) (n : ℕ) : Type 0 where
  pub room : n ≡ 0 → Head F names ts → ⊥

-- one more begins than there is room for, and is refused
pub record IsFull (F : Further) (names : List (List ℕ)) (ts : List Token) (n : ℕ) (rule : Rule) (d : Denied) : Type 0 where
  pub none : n ≡ 0
  pub begins : Head F names ts
  pub refuses : RefusesFirst rule ts d

-- ---- a reader on its way

-- after some tokens of the first part the second is what is left of it, and f makes of its value that of the whole
pub record Leads {A B : Type 0} (R : Part A) (C : Further) (names : List (List ℕ)) (ts : List Token) (S : Part B) (D : Further) (mid : List Token) (f : B → A) : Type 0 where
  pub reads : (y : B) (rest : List Token) → Reads S D names mid y rest → Reads R C names ts (f y) rest
  pub halts : (d : Denied) → Halts S D names mid d → Halts R C names ts d
