-- Being the same goes both ways.
use Rattle.std.proofs.Common.{ℕ, List}
use Rattle.std.specs.List.{AllZip}
use Rattle.chor_base.specs.declared.names.NameId.{NameId}
use Rattle.chor_base.specs.declared.value.Value.{Value}
use Rattle.chor_base.specs.Expr.{Term}
use Rattle.endpoint_code.specs.declared.code.CodeId.{CodeId}
use Rattle.endpoint_code.specs.declared.endpoints.Endpoints.{Endpoints}
use Rattle.endpoint_code.specs.Labels.{ArmIsIn, here, there}
use Rattle.endpoint_code.specs.Trees.{Action, CodeTree, Arms, Arm}
use Rattle.same_programs.specs.Words.{SameName, SameText}
use Rattle.same_programs.specs.Codes.{SameValue, number, truth, text, part, SameTerm, constant, variable, unary, binary, SameAction, joins, sends, receives, selects, gives, gains, sets, shows, asks, SameCode, does, offers, tests, calls, ends, SameArms, no_arm, one_arm}
use Rattle.same_programs.specs.Programs.{SameCodeAt, SamePrograms, SameChannel, SameProcedure, SameService, SameProcess}
use Rattle.same_programs.proofs.Zips.{zip_turned}
use Rattle.same_programs.proofs.Tests.{word_turned}

module _ (N M : NameId → NameId → Type 0) (T U : ℕ → ℕ → Type 0) (name : (x y : NameId) → N x y → M y x) (text_back : (t u : ℕ) → T t u → U u t) where
  value_turned : {v w : Value} → SameValue N T v w → SameValue M U w v
  value_turned number = number
  value_turned truth = truth
  value_turned (text h) = text (text_back _ _ h)
  value_turned (part h) = part (name _ _ h)

  term_turned : {t u : Term} → SameTerm N T t u → SameTerm M U u t
  term_turned (constant h) = constant (value_turned h)
  term_turned (variable h) = variable (name _ _ h)
  term_turned (unary h) = unary (term_turned h)
  term_turned (binary h k) = binary (term_turned h) (term_turned k)

  action_turned : {a b : Action} → SameAction N T a b → SameAction M U b a
  action_turned (joins c r k) = joins (name _ _ c) (name _ _ r) (name _ _ k)
  action_turned (sends k b t) = sends (name _ _ k) (name _ _ b) (term_turned t)
  action_turned (receives k a x) = receives (name _ _ k) (name _ _ a) (name _ _ x)
  action_turned (selects k b l) = selects (name _ _ k) (name _ _ b) (name _ _ l)
  action_turned (gives k b g) = gives (name _ _ k) (name _ _ b) (name _ _ g)
  action_turned (gains k a g) = gains (name _ _ k) (name _ _ a) (name _ _ g)
  action_turned (sets x t) = sets (name _ _ x) (term_turned t)
  action_turned (shows t) = shows (term_turned t)
  action_turned (asks x f t u) = asks (name _ _ x) (name _ _ f) (term_turned t) (term_turned u)

  -- one more arm of the first branch, wherever it stands
  one_more : {l m : NameId} {q p : CodeTree} {qs others ps : Arms} → M m l → SameCode M U p q → ArmIsIn m p others ps → SameArms M U others qs → SameArms M U ps (Arm l q qs)
  one_more n c here a = one_arm n c here a
  one_more n c (there i) (one_arm k d j b) = one_arm k d (there j) (one_more n c i b)

  mutual
    pub code_turned : {q p : CodeTree} → SameCode N T q p → SameCode M U p q
    code_turned (does a c) = does (action_turned a) (code_turned c)
    code_turned (offers k a arms) = offers (name _ _ k) (name _ _ a) (arms_turned arms)
    code_turned (tests t c d) = tests (term_turned t) (code_turned c) (code_turned d)
    code_turned (calls f p ss) = calls (name _ _ f) (name _ _ p) (zip_turned N M name _ _ ss)
    code_turned ends = ends

    pub arms_turned : {qs ps : Arms} → SameArms N T qs ps → SameArms M U ps qs
    arms_turned no_arm = no_arm
    arms_turned (one_arm n c i a) = one_more (name _ _ n) (code_turned c) i (arms_turned a)

module _ (e e' : Endpoints) where
  name_turned : (x y : NameId) → SameName e e' x y → SameName e' e y x
  name_turned x y h = word_turned h

  text_turned : (t u : ℕ) → SameText e e' t u → SameText e' e u t
  text_turned t u h = word_turned h

  names_turned : (xs ys : List NameId) → AllZip (SameName e e') xs ys → AllZip (SameName e' e) ys xs
  names_turned xs ys h = zip_turned (SameName e e') (SameName e' e) name_turned xs ys h

  body_turned : (q p : CodeId) → SameCodeAt e e' q p → SameCodeAt e' e p q
  body_turned q p h = code_turned (SameName e e') (SameName e' e) (SameText e e') (SameText e' e) name_turned text_turned h

  pub programs_turned : SamePrograms e e' → SamePrograms e' e
  programs_turned s = record {
    channels = zip_turned (SameChannel e e') (SameChannel e' e)
        (λ c d h. record { name = name_turned c.name d.name h.name; active = names_turned c.active d.active h.active; serve = names_turned c.serve d.serve h.serve })
        e.channels e'.channels s.channels;
    procedures = zip_turned (SameProcedure e e') (SameProcedure e' e)
        (λ q p h. record {
          name = name_turned q.name p.name h.name;
          param = name_turned q.param p.param h.param;
          sessions = names_turned q.sessions p.sessions h.sessions;
          body = body_turned q.body p.body h.body;
        }) e.procedures e'.procedures s.procedures;
    services = zip_turned (SameService e e') (SameService e' e)
        (λ q p h. record { channel = name_turned q.channel p.channel h.channel; role = name_turned q.role p.role h.role; body = body_turned q.body p.body h.body })
        e.services e'.services s.services;
    processes = zip_turned (SameProcess e e') (SameProcess e' e)
        (λ q p h. record { name = name_turned q.name p.name h.name; body = body_turned q.body p.body h.body })
        e.processes e'.processes s.processes;
  }
