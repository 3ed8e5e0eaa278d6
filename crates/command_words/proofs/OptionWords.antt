-- Options, one after another: what is left of them, and that words tell one number of each.
use Rattle.std.proofs.Common.{◌≡◌, ◌<◌, ◌≤◌, ◌-◌, ◌^◌, ◌∙◌, ℕ, List, [], ◌∷◌, ◌++◌, length, get_or, take, drop, Option, Some, None, true, false, refl, sym, ap, subst, arith, append-nil}
use mathlib.Core.Bool.{Bool-set}
use Rattle.std.specs.Prelude.{◌↔◌, ◌==◌, cond, MatchOption}
use Rattle.std.specs.List.{AllByRecursion}
use Rattle.std.proofs.lemmas.Bool.{eqb-true}
use Rattle.std.proofs.lemmas.List.{take_all, append_assoc}
use Rattle.std.specs.Option.{option_to_list, is_some}
use Rattle.std.specs.Fmt.{decimal}
use Rattle.std.proofs.lemmas.Fmt.{decimal_injective}
use Rattle.std.proofs.Math.Path.{subst₂}
use Rattle.std.proofs.Math.Bridge.{le_prop}
use Rattle.command_words.specs.declared.command_name.CommandName.{CommandName}
use Rattle.command_words.specs.declared.option_name.OptionName.{OptionName}
use Rattle.command_words.specs.declared.option_name.OptionName.TheVariants.{Seed, Steps, Workers, Capacity}
use Rattle.command_words.specs.declared.options.Options.{Options}
use Rattle.command_words.specs.declared.settings.Setting.{Setting}
use Rattle.command_words.specs.declared.settings.Settings.{Settings}
use Rattle.command_words.specs.Between.{is_capacity}
use Rattle.command_words.specs.Tables.{option_word, least_of, most_of}
use Rattle.command_words.specs.Options.{IsBetween, words_of, MaySet, is_same, set_to, numbers_of, IsValue, number_in, AreOptions, IsSetting, IsNoSetting, set_in, IsAmong, Adds, AreBounded}
use Rattle.command_words.proofs.Names.{same_option_name, most_small}

-- two words are one setting
same_setting : (command : CommandName) (option number : List ℕ) (s t : Setting) → IsSetting command option number s → IsSetting command option number t → s ≡ t
same_setting command option number s t a b =
    let few = a.allowed.within.1 in
    let few' = b.allowed.within.1 in
    let small = most_small s.name in
    let small' = most_small t.name in
    let names = same_option_name s.name t.name (sym a.option_is ∙ b.option_is) in
    let numbers = decimal_injective s.number t.number (omega arith) (omega arith) (sym a.number_is ∙ b.number_is) in
    λ i. record { name = names i; number = numbers i }

-- these words set options that are not yet set
pub record Completes (command : CommandName) (set : Settings) (words : List (List ℕ)) (options : Options) : Type 0 where
  pub settings : List Setting
  pub words_are : words ≡ words_of settings
  pub allowed : AllByRecursion (MaySet command) settings
  pub values : (name : OptionName) → IsValue name (option_to_list (set_in name set) ++ numbers_of name settings) (number_in name options)

set_itself : (s : Setting) → set_to s.name s ≡ s.number ∷ []
set_itself s = go s.name s.number
  where
    go : (name : OptionName) (n : ℕ) → cond (is_same name name) (n ∷ []) [] ≡ n ∷ []
    go Seed n = refl
    go Steps n = refl
    go Workers n = refl
    go Capacity n = refl

module _ (command : CommandName) (set : Settings) (option number : List ℕ) (rest : List (List ℕ)) (options : Options) where
  -- the first of the settings, and those after it
  record Next : Type 0 where
    pub first : Setting
    pub later : List Setting
    pub is : IsSetting command option number first
    pub words_are : rest ≡ words_of later
    pub allowed : AllByRecursion (MaySet command) later
    pub values : (name : OptionName) → IsValue name (option_to_list (set_in name set) ++ (set_to name first ++ numbers_of name later)) (number_in name options)

  next : Completes command set (option ∷ number ∷ rest) options → Next
  next h = go h.settings h.words_are h.allowed h.values
    where
      go : (ss : List Setting) → option ∷ number ∷ rest ≡ words_of ss → AllByRecursion (MaySet command) ss
          → ((name : OptionName) → IsValue name (option_to_list (set_in name set) ++ numbers_of name ss) (number_in name options)) → Next
      go [] e allowed values = absurd cc
      go (s ∷ ss) e allowed values = record {
        first = s;
        later = ss;
        is = record { option_is = cc; number_is = cc; allowed = allowed.0 };
        words_are = cc;
        allowed = allowed.1;
        values = values;
      }

  -- the first two words are no setting
  pub no_setting : IsNoSetting command option number → Completes command set (option ∷ number ∷ rest) options → ⊥
  no_setting none h = none (next h).first (next h).is

  module _ (s : Setting) (is : IsSetting command option number s) where
    -- they are one of an option that is set
    pub set_before : IsAmong set s.name → Completes command set (option ∷ number ∷ rest) options → ⊥
    set_before among h =
        let n = next h in
        let same = same_setting command option number n.first s n.is is in
        subst (λ (l : List ℕ). IsValue s.name l (number_in s.name options))
        (λ i. option_to_list (among.1 i) ++ ((ap (set_to s.name) same ∙ set_itself s) i ++ numbers_of s.name n.later))
        (n.values s.name)

    -- they are one more
    pub set_now : (more : Settings) → Adds set s more → Completes command set (option ∷ number ∷ rest) options ↔ Completes command more rest options
    set_now more adds = (there, back)
      where
        grows : (name : OptionName) (ss : List Setting) → option_to_list (set_in name more) ++ numbers_of name ss ≡ option_to_list (set_in name set) ++ (set_to name s ++ numbers_of name ss)
        grows name ss = ap (λ (l : List ℕ). l ++ numbers_of name ss) (adds name) ∙ append_assoc (option_to_list (set_in name set)) (set_to name s) (numbers_of name ss)

        there : Completes command set (option ∷ number ∷ rest) options → Completes command more rest options
        there h =
            let n = next h in
            let same = same_setting command option number n.first s n.is is in
            record {
              settings = n.later;
              words_are = n.words_are;
              allowed = n.allowed;
              values = λ name. subst (λ (l : List ℕ). IsValue name l (number_in name options))
                  (ap (λ (x : Setting). option_to_list (set_in name set) ++ (set_to name x ++ numbers_of name n.later)) same ∙ sym (grows name n.later))
                  (n.values name);
            }

        back : Completes command more rest options → Completes command set (option ∷ number ∷ rest) options
        back c = record {
          settings = s ∷ c.settings;
          words_are = λ i. is.option_is i ∷ is.number_is i ∷ c.words_are i;
          allowed = (is.allowed, c.allowed);
          values = λ name. subst (λ (l : List ℕ). IsValue name l (number_in name options)) (grows name c.settings) (c.values name);
        }

-- one word is no option
lone_word : (command : CommandName) (set : Settings) (option : List ℕ) (options : Options) → Completes command set (option ∷ []) options → ⊥
lone_word command set option options h = go h.settings h.words_are
  where
    go : (ss : List Setting) → option ∷ [] ≡ words_of ss → ⊥
    go [] e = absurd cc
    go (s ∷ ss) e = absurd cc

-- ---- words tell one number of each option

same_settings : (command : CommandName) (ss ts : List Setting) → AllByRecursion (MaySet command) ss → AllByRecursion (MaySet command) ts → words_of ss ≡ words_of ts → ss ≡ ts
same_settings command [] [] a b e = refl
same_settings command [] (t ∷ ts) a b e = absurd cc
same_settings command (s ∷ ss) [] a b e = absurd cc
same_settings command (s ∷ ss) (t ∷ ts) a b e =
    let first : s ≡ t = same_setting command (option_word s.name) (decimal s.number) s t (record { option_is = refl; number_is = refl; allowed = a.0 }) (record { option_is = cc; number_is = cc; allowed = b.0 }) in
    let later : ss ≡ ts = same_settings command ss ts a.1 b.1 (cc) in
    λ i. first i ∷ later i

same_value : (name : OptionName) (numbers : List ℕ) (v w : Option ℕ) → IsValue name numbers v → IsValue name numbers w → v ≡ w
same_value name [] v w a b = a ∙ sym b
same_value name (n ∷ []) v w a b = a ∙ sym b
same_value name (n ∷ m ∷ ns) v w a b = absurd a

-- options are the same where their numbers are
same_fields : (o p : Options) → o.seed ≡ p.seed → o.steps ≡ p.steps → o.workers ≡ p.workers → o.capacity ≡ p.capacity → o ≡ p
same_fields o p e d c q =
    subst (λ (k : Option ℕ). (small : p.seed < 2 ^ 32) (few : p.steps ≤ 1000000) (crew : p.workers ≤ 16) (room : is_capacity k ≡ true)
    → o ≡ record { seed = p.seed; steps = p.steps; workers = p.workers; capacity = k; small = small; few = few; crew = crew; room = room }) q
    (subst (λ (w : ℕ). (small : p.seed < 2 ^ 32) (few : p.steps ≤ 1000000) (crew : w ≤ 16) (room : is_capacity o.capacity ≡ true)
    → o ≡ record { seed = p.seed; steps = p.steps; workers = w; capacity = o.capacity; small = small; few = few; crew = crew; room = room }) c
    (subst₂ (λ (s t : ℕ). (small : s < 2 ^ 32) (few : t ≤ 1000000) (crew : o.workers ≤ 16) (room : is_capacity o.capacity ≡ true)
    → o ≡ record { seed = s; steps = t; workers = o.workers; capacity = o.capacity; small = small; few = few; crew = crew; room = room }) e d here)) p.small p.few p.crew p.room
  where
    one_small : IsProp (o.seed < 2 ^ 32)
    one_small = hlevel le_prop

    one_few : IsProp (o.steps ≤ 1000000)
    one_few = hlevel le_prop

    one_crew : IsProp (o.workers ≤ 16)
    one_crew = hlevel le_prop

    one_room : IsProp (is_capacity o.capacity ≡ true)
    one_room = Bool-set _ _

    here : (small : o.seed < 2 ^ 32) (few : o.steps ≤ 1000000) (crew : o.workers ≤ 16) (room : is_capacity o.capacity ≡ true)
        → o ≡ record { seed = o.seed; steps = o.steps; workers = o.workers; capacity = o.capacity; small = small; few = few; crew = crew; room = room }
    here small few crew room i = record {
      seed = o.seed;
      steps = o.steps;
      workers = o.workers;
      capacity = o.capacity;
      small = one_small o.small small i;
      few = one_few o.few few i;
      crew = one_crew o.crew crew i;
      room = one_room o.room room i;
    }

pub same_options : (command : CommandName) (words : List (List ℕ)) (o p : Options) → AreOptions command words o → AreOptions command words p → o ≡ p
same_options command words o p a b = same_fields o p (some_number (number Seed)) (some_number (number Steps)) (some_number (number Workers)) (number Capacity)
  where
    some_number : {m n : ℕ} → Some m ≡ Some n → m ≡ n
    some_number e = cc

    settings : b.settings ≡ a.settings
    settings = same_settings command b.settings a.settings b.allowed a.allowed (sym b.words_are ∙ a.words_are)

    number : (name : OptionName) → number_in name o ≡ number_in name p
    number name =
        same_value name (numbers_of name a.settings) (number_in name o) (number_in name p) (a.values name)
        (subst (λ (ss : List Setting). IsValue name (numbers_of name ss) (number_in name p)) settings (b.values name))

-- ---- reading them

-- no option is set
abbrev unset : Settings
unset = record { seed = None; steps = None; workers = None; capacity = None }

nothing_in : (name : OptionName) → set_in name unset ≡ None
nothing_in Seed = refl
nothing_in Steps = refl
nothing_in Workers = refl
nothing_in Capacity = refl

pub nothing_set : (command : CommandName) (words : List (List ℕ)) (options : Options) → AreOptions command words options ↔ Completes command unset words options
nothing_set command words options = (
  (λ h. record { settings = h.settings; words_are = h.words_are; allowed = h.allowed; values = λ name. subst (λ (o : Option ℕ). IsValue name (option_to_list o ++ numbers_of name h.settings) (number_in name options)) (sym (nothing_in name)) (h.values name) }),
  (λ h. record { settings = h.settings; words_are = h.words_are; allowed = h.allowed; values = λ name. subst (λ (o : Option ℕ). IsValue name (option_to_list o ++ numbers_of name h.settings) (number_in name options)) (nothing_in name) (h.values name) }),
)

pub nothing_bounded : AreBounded unset
nothing_bounded name x e = let none = sym (nothing_in name) ∙ e in absurd cc

-- one option more is set, within its bounds
pub seed_bounded : (s : Settings) (n : ℕ) → IsBetween (least_of Seed) (most_of Seed) n → AreBounded s → AreBounded (record { seed = Some n; steps = s.steps; workers = s.workers; capacity = s.capacity })
seed_bounded s n within b Seed x e = let same : n ≡ x = cc in subst (IsBetween (least_of Seed) (most_of Seed)) same within
seed_bounded s n within b Steps x e = b Steps x e
seed_bounded s n within b Workers x e = b Workers x e
seed_bounded s n within b Capacity x e = b Capacity x e

pub steps_bounded : (s : Settings) (n : ℕ) → IsBetween (least_of Steps) (most_of Steps) n → AreBounded s → AreBounded (record { seed = s.seed; steps = Some n; workers = s.workers; capacity = s.capacity })
steps_bounded s n within b Seed x e = b Seed x e
steps_bounded s n within b Steps x e = let same : n ≡ x = cc in subst (IsBetween (least_of Steps) (most_of Steps)) same within
steps_bounded s n within b Workers x e = b Workers x e
steps_bounded s n within b Capacity x e = b Capacity x e

pub workers_bounded : (s : Settings) (n : ℕ) → IsBetween (least_of Workers) (most_of Workers) n → AreBounded s → AreBounded (record { seed = s.seed; steps = s.steps; workers = Some n; capacity = s.capacity })
workers_bounded s n within b Seed x e = b Seed x e
workers_bounded s n within b Steps x e = b Steps x e
workers_bounded s n within b Workers x e = let same : n ≡ x = cc in subst (IsBetween (least_of Workers) (most_of Workers)) same within
workers_bounded s n within b Capacity x e = b Capacity x e

pub capacity_bounded : (s : Settings) (n : ℕ) → IsBetween (least_of Capacity) (most_of Capacity) n → AreBounded s → AreBounded (record { seed = s.seed; steps = s.steps; workers = s.workers; capacity = Some n })
capacity_bounded s n within b Seed x e = b Seed x e
capacity_bounded s n within b Steps x e = b Steps x e
capacity_bounded s n within b Workers x e = b Workers x e
capacity_bounded s n within b Capacity x e = let same : n ≡ x = cc in subst (IsBetween (least_of Capacity) (most_of Capacity)) same within

-- a list of two items or more
pairs : (l : List (List ℕ)) (a b : List ℕ) → 2 ≤ length l → a ≡ get_or l 0 a → b ≡ get_or l 1 b → l ≡ a ∷ b ∷ take (length l - 2) (drop 2 l)
pairs [] a b h e d = absurd (omega arith)
pairs (x ∷ []) a b h e d = absurd (omega arith)
pairs (x ∷ y ∷ l) a b h e d =
    let long : length (x ∷ y ∷ l) - 2 ≡ length l = omega arith in
    let whole : take (length (x ∷ y ∷ l) - 2) l ≡ l = ap (λ (k : ℕ). take k l) long ∙ take_all (length l) l (omega arith) in
    sym (λ i. e i ∷ d i ∷ whole i)

module _ (command : CommandName) (words l : List (List ℕ)) (set : Settings) (so_far : (options : Options) → AreOptions command words options ↔ Completes command set l options) where
  module _ (x y a b : List ℕ) (is_a : x ≡ a) (is_b : y ≡ b) (long : 2 ≤ length l) (at_a : a ≡ get_or l 0 a) (at_b : b ≡ get_or l 1 b) where
    split : l ≡ x ∷ y ∷ take (length l - 2) (drop 2 l)
    split = pairs l a b long at_a at_b ∙ sym (λ i. is_a i ∷ is_b i ∷ take (length l - 2) (drop 2 l))

    -- the next two words are no setting
    pub no_turn : IsNoSetting command x y → (options : Options) → AreOptions command words options → ⊥
    no_turn none options h = no_setting command set x y (take (length l - 2) (drop 2 l)) options none (subst (λ (k : List (List ℕ)). Completes command set k options) split ((so_far options).0 h))

    module _ (s : Setting) (is : IsSetting command x y s) where
      -- they are one of an option that is set
      pub turn_back : IsAmong set s.name → (options : Options) → AreOptions command words options → ⊥
      turn_back among options h = set_before command set x y (take (length l - 2) (drop 2 l)) options s is among (subst (λ (k : List (List ℕ)). Completes command set k options) split ((so_far options).0 h))

      -- they are read
      pub turn : (more : Settings) → Adds set s more → (options : Options) → AreOptions command words options ↔ Completes command more (take (length l - 2) (drop 2 l)) options
      turn more adds options =
          let after = set_now command set x y (take (length l - 2) (drop 2 l)) options s is more adds in (
            (λ h. after.0 (subst (λ (k : List (List ℕ)). Completes command set k options) split ((so_far options).0 h))),
            (λ h. (so_far options).1 (subst (λ (k : List (List ℕ)). Completes command set k options) (sym split) (after.1 h))),
          )

  -- no word is left
  pub at_end : (length l == 0) ≡ true → (options : Options) → ((name : OptionName) → IsValue name (option_to_list (set_in name set)) (number_in name options)) → AreOptions command words options
  at_end none options values = (so_far options).1 (go l none)
    where
      go : (k : List (List ℕ)) → (length k == 0) ≡ true → Completes command set k options
      go [] e = record {
        settings = [];
        words_are = refl;
        allowed = tt;
        values = λ name. subst (λ (ns : List ℕ). IsValue name ns (number_in name options)) (sym (append-nil (option_to_list (set_in name set)))) (values name);
      }
      go (x ∷ k) e = absurd (omega (arith, eqb-true (length (x ∷ k)) 0 e))

  -- one word is left
  pub at_lone : (length l == 0) ≡ false → length l < 2 → (options : Options) → AreOptions command words options → ⊥
  at_lone some few options h = go l some few ((so_far options).0 h)
    where
      go : (k : List (List ℕ)) → (length k == 0) ≡ false → length k < 2 → Completes command set k options → ⊥
      go [] e f c = absurd cc
      go (x ∷ []) e f c = lone_word command set x options c
      go (x ∷ y ∷ k) e f c = absurd (omega arith)

-- an answer that is `None`
pub match_none : {A : Type 0} (r : Option A) (none : Type 0) (some : A → Type 0) → r ≡ None → none → MatchOption r none some
match_none None none some e h = h
match_none (Some x) none some e h = absurd cc

-- an option that is set has a number
pub is_among : (set : Settings) (name given : OptionName) → name ≡ given → is_some (set_in given set) ≡ true → IsAmong set name
is_among set name given is some = subst (IsAmong set) (sym is) (go (set_in given set) some)
  where
    go : (o : Option ℕ) → is_some o ≡ true → (n : ℕ) × (o ≡ Some n)
    go None some = absurd cc
    go (Some n) some = (n, refl)
