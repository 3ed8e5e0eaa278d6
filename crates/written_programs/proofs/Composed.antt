-- Programs that are the same as the same programs are the same.
use Rattle.std.proofs.Common.{◌≡◌, ℕ, List, [], ◌∷◌, Some, sym, ◌∙◌}
use Rattle.std.specs.List.{AllZip}
use Rattle.chor_base.specs.declared.names.NameId.{NameId}
use Rattle.chor_base.specs.declared.value.Value.{Value}
use Rattle.chor_base.specs.Expr.{Term}
use Rattle.endpoint_code.specs.declared.endpoints.Endpoints.{Endpoints}
use Rattle.endpoint_code.specs.Labels.{ArmIsIn, here, there}
use Rattle.endpoint_code.specs.Trees.{Action, CodeTree, Arms, Arm}
use Rattle.same_programs.specs.Words.{IsSameWord, SameName, SameText}
use Rattle.same_programs.specs.Codes.{SameValue, number, truth, text, part, SameTerm, constant, variable, unary, binary, SameAction, joins, sends, receives, selects, gives, gains, sets, shows, asks, SameCode, does, offers, tests, calls, ends, SameArms, no_arm, one_arm}
use Rattle.same_programs.specs.Programs.{SameChannel, SameProcedure, SameService, SameProcess, SamePrograms}

zip_over : {A B C : Type 0} (R : A → B → Type 0) (S : B → C → Type 0) (Q : A → C → Type 0) → ((x : A) (y : B) (z : C) → R x y → S y z → Q x z) → (xs : List A) (ys : List B) (zs : List C) → AllZip R xs ys → AllZip S ys zs → AllZip Q xs zs
zip_over R S Q over [] [] [] r s = tt
zip_over R S Q over [] [] (z ∷ zs) r s = absurd s
zip_over R S Q over [] (y ∷ ys) zs r s = absurd r
zip_over R S Q over (x ∷ xs) [] zs r s = absurd r
zip_over R S Q over (x ∷ xs) (y ∷ ys) [] r s = absurd s
zip_over R S Q over (x ∷ xs) (y ∷ ys) (z ∷ zs) r s = (over x y z r.0 s.0, zip_over R S Q over xs ys zs r.1 s.1)

-- two arms that are taken out in either order
record InTurn (l m : NameId) (c d : CodeTree) (less arms : Arms) : Type 0 where
  others : Arms
  first : ArmIsIn m d others arms
  second : ArmIsIn l c less others

in_turn : {l m : NameId} {c d : CodeTree} {less others arms : Arms} → ArmIsIn l c others arms → ArmIsIn m d less others → InTurn l m c d less arms
in_turn {l} {less = less} here k = record { others = Arm l _ less; first = there k; second = here }
in_turn (there {arms = arms} i) here = record { others = arms; first = here; second = i }
in_turn (there {k = k} {d = d} i) (there j) = let s = in_turn i j in record { others = Arm k d s.others; first = there s.first; second = there s.second }

module _ (N M K : NameId → NameId → Type 0) (T U W : ℕ → ℕ → Type 0) (name_after : (x y z : NameId) → N x y → M y z → K x z) (text_after : (t u v : ℕ) → T t u → U u v → W t v) where
  name : {x y z : NameId} → N x y → M y z → K x z
  name h k = name_after _ _ _ h k

  literal : {t u v : ℕ} → T t u → U u v → W t v
  literal h k = text_after _ _ _ h k

  value_over : {v w x : Value} → SameValue N T v w → SameValue M U w x → SameValue K W v x
  value_over number number = number
  value_over truth truth = truth
  value_over (text h) (text k) = text (literal h k)
  value_over (part h) (part k) = part (name h k)

  term_over : {t u v : Term} → SameTerm N T t u → SameTerm M U u v → SameTerm K W t v
  term_over (constant h) (constant k) = constant (value_over h k)
  term_over (variable h) (variable k) = variable (name h k)
  term_over (unary h) (unary k) = unary (term_over h k)
  term_over (binary h i) (binary k j) = binary (term_over h k) (term_over i j)

  action_over : {a b c : Action} → SameAction N T a b → SameAction M U b c → SameAction K W a c
  action_over (joins a b c) (joins d e f) = joins (name a d) (name b e) (name c f)
  action_over (sends a b t) (sends d e u) = sends (name a d) (name b e) (term_over t u)
  action_over (receives a b c) (receives d e f) = receives (name a d) (name b e) (name c f)
  action_over (selects a b c) (selects d e f) = selects (name a d) (name b e) (name c f)
  action_over (gives a b c) (gives d e f) = gives (name a d) (name b e) (name c f)
  action_over (gains a b c) (gains d e f) = gains (name a d) (name b e) (name c f)
  action_over (sets a t) (sets d u) = sets (name a d) (term_over t u)
  action_over (shows t) (shows u) = shows (term_over t u)
  action_over (asks a b t v) (asks d e u w) = asks (name a d) (name b e) (term_over t u) (term_over v w)

  -- the arm that goes with one, and the others go with the others
  record Partner (m : NameId) (p : CodeTree) (others rs : Arms) : Type 0 where
    label : NameId
    code : CodeTree
    left : Arms
    is_label : M m label
    is_code : SameCode M U p code
    at : ArmIsIn label code left rs
    rest : SameArms M U others left

  partner : {m : NameId} {p : CodeTree} {others ps rs : Arms} → ArmIsIn m p others ps → SameArms M U ps rs → Partner m p others rs
  partner here (one_arm {m = l} {p = q} {others = left} n s i r) = record { label = l; code = q; left = left; is_label = n; is_code = s; at = i; rest = r }
  partner (there j) (one_arm n s i r) =
      let g = partner j r in
      let x = in_turn i g.at in
      record { label = g.label; code = g.code; left = x.others; is_label = g.is_label; is_code = g.is_code; at = x.first; rest = one_arm n s x.second g.rest }

  mutual
    pub code_over : {q p r : CodeTree} → SameCode N T q p → SameCode M U p r → SameCode K W q r
    code_over (does a c) (does b d) = does (action_over a b) (code_over c d)
    code_over (offers k a s) (offers h b r) = offers (name k h) (name a b) (arms_over s r)
    code_over (tests t c d) (tests u x y) = tests (term_over t u) (code_over c x) (code_over d y)
    code_over (calls {ss = ss} {rs = rs} f p z) (calls {rs = us} g q y) = calls (name f g) (name p q) (zip_over N M K (λ a b c n m. name n m) ss rs us z y)
    code_over ends ends = ends

    arms_over : {qs ps rs : Arms} → SameArms N T qs ps → SameArms M U ps rs → SameArms K W qs rs
    arms_over no_arm no_arm = no_arm
    arms_over (one_arm n s i r) h = let g = partner i h in one_arm (name n g.is_label) (code_over s g.is_code) g.at (arms_over r g.rest)

word_over : {vs ws xs : List (List ℕ)} {i j k : ℕ} → IsSameWord vs ws i j → IsSameWord ws xs j k → IsSameWord vs xs i k
word_over n m =
    let twice : Some n.word ≡ Some m.word = sym n.there ∙ m.here in
    let same : m.word ≡ n.word = cc in
    record { word = n.word; here = n.here; there = m.there ∙ (λ i. Some (same i)) }

module _ (e f g : Endpoints) where
  name_over : (x y z : NameId) → SameName e f x y → SameName f g y z → SameName e g x z
  name_over x y z n m = word_over n m

  names_over : (xs ys zs : List NameId) → AllZip (SameName e f) xs ys → AllZip (SameName f g) ys zs → AllZip (SameName e g) xs zs
  names_over xs ys zs n m = zip_over (SameName e f) (SameName f g) (SameName e g) name_over xs ys zs n m

  body_over : {q p r : CodeTree} → SameCode (SameName e f) (SameText e f) q p → SameCode (SameName f g) (SameText f g) p r → SameCode (SameName e g) (SameText e g) q r
  body_over s r = code_over (SameName e f) (SameName f g) (SameName e g) (SameText e f) (SameText f g) (SameText e g) (λ x y z h k. word_over h k) (λ x y z h k. word_over h k) s r

  pub programs_over : SamePrograms e f → SamePrograms f g → SamePrograms e g
  programs_over s r = record {
    channels = zip_over (SameChannel e f) (SameChannel f g) (SameChannel e g)
        (λ a b c h k. record { name = word_over h.name k.name; active = names_over a.active b.active c.active h.active k.active; serve = names_over a.serve b.serve c.serve h.serve k.serve })
        e.channels f.channels g.channels s.channels r.channels;
    procedures = zip_over (SameProcedure e f) (SameProcedure f g) (SameProcedure e g)
        (λ a b c h k. record { name = word_over h.name k.name; param = word_over h.param k.param; sessions = names_over a.sessions b.sessions c.sessions h.sessions k.sessions; body = body_over h.body k.body })
        e.procedures f.procedures g.procedures s.procedures r.procedures;
    services = zip_over (SameService e f) (SameService f g) (SameService e g)
        (λ a b c h k. record { channel = word_over h.channel k.channel; role = word_over h.role k.role; body = body_over h.body k.body })
        e.services f.services g.services s.services r.services;
    processes = zip_over (SameProcess e f) (SameProcess f g) (SameProcess e g)
        (λ a b c h k. record { name = word_over h.name k.name; body = body_over h.body k.body })
        e.processes f.processes g.processes s.processes r.processes;
  }
