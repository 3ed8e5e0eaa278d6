-- What is told by numbers in joined tables is what is told by names.
use Rattle.std.proofs.Common.{◌≡◌, ℕ, ◌+◌, ◌<◌, ◌&&◌, Bool, true, List, [], ◌∷◌, map, length, Option, Some, None, refl, sym, ap, ◌∙◌, subst, arith}
use Rattle.std.specs.Prelude.{◌↔◌, Contains, slice_get}
use Rattle.std.specs.List.{AllZip, list_all}
use Rattle.std.proofs.lemmas.List.Elements.{All-contains}
use Rattle.chor_base.specs.declared.names.NameId.{NameId}
use Rattle.endpoint_code.specs.declared.code.CodeId.{CodeId}
use Rattle.endpoint_code.specs.declared.endpoints.Channel.{Channel}
use Rattle.endpoint_code.specs.declared.endpoints.Procedure.{Procedure}
use Rattle.endpoint_code.specs.declared.endpoints.ServiceCode.{ServiceCode}
use Rattle.endpoint_code.specs.declared.endpoints.Process.{Process}
use Rattle.endpoint_code.specs.declared.endpoints.Endpoints.{Endpoints}
use Rattle.endpoint_code.specs.Above.{IsAbove}
use Rattle.endpoint_code.specs.Kept.{has_name, has_text, channel_there, procedure_there, service_there}
use Rattle.endpoint_code.specs.Trees.{CodeTree, code_at}
use Rattle.endpoint_link.specs.Renumbered.{renumbered_name, renumbered_text, renumbered_code, renumbered_tree}
use Rattle.same_programs.specs.Words.{IsSameWord, SameName, SameText}
use Rattle.same_programs.specs.Codes.{SameCode}
use Rattle.endpoint_link.specs.Linked.{IsAboveByWords, ReplacesChannel, SuitsChannel, ReplacesProcedure, SuitsProcedure, ReplacesService, SuitsService, ReplacesProcess, SuitsProcess, SuitsCounterpart}
use Rattle.endpoint_link.proofs.Across.{above_too}
use Rattle.endpoint_link.proofs.Linked.{one_number}
use Rattle.endpoint_link.specs.declared.joined.Joined.{Joined}
use Rattle.endpoint_link.specs.declared.fault.LinkRule.{LinkRule}
use Rattle.endpoint_link.specs.declared.fault.LinkRule.TheVariants.{K1, K2}
use Rattle.endpoint_link.specs.Joined.{AreProgramsJoined}
use Rattle.endpoint_link.specs.Judged.{IsVerdict}
use Rattle.endpoint_link.specs.InTables.{IsAboveInTables, ReplacesChannelIn, SuitsChannelIn, ReplacesProcedureIn, SuitsProcedureIn, ReplacesServiceIn, SuitsServiceIn, ReplacesProcessIn, SuitsProcessIn}
use Rattle.endpoint_link.proofs.Trees.{IsTreeThere, code_there, tree_same, above_back}
use Rattle.chor_base.proofs.Lists.{get_append_left}
use Rattle.endpoint_link.proofs.Basics.{both, is_below}

-- ---- from one way of telling to another

module _ {A : Type 0} (P S Q R : A → A → Type 0) (x : A) (units : List A) (named : (u : A) → Contains units u → P x u ↔ Q x u) (suited : (u : A) → Contains units u → S x u ↔ R x u) where
  fits_to : SuitsCounterpart P S units x → SuitsCounterpart Q R units x
  fits_to f = record {
    there = (f.there.0, f.there.1, (named f.there.0 f.there.1).0 f.there.2);
    suits = λ u inside k. (suited u inside).0 (f.suits u inside ((named u inside).1 k));
  }

  fits_from : SuitsCounterpart Q R units x → SuitsCounterpart P S units x
  fits_from f = record {
    there = (f.there.0, f.there.1, (named f.there.0 f.there.1).1 f.there.2);
    suits = λ u inside k. (suited u inside).1 (f.suits u inside ((named u inside).0 k));
  }

  pub judged_as : (v : Option LinkRule) → IsVerdict P S units x v → IsVerdict Q R units x v
  judged_as None j = fits_to j
  judged_as (Some K1) j = ((j.0.0, j.0.1, (named j.0.0 j.0.1).0 j.0.2), λ f. j.1 (fits_from f))
  judged_as (Some K2) j = λ there. j (there.0, there.1, (named there.0 there.1).1 there.2)

-- ---- joined programs

module _ (e g : Endpoints) (j : Joined) (p : AreProgramsJoined e g j) where
  -- a name of the one is a name of the other
  name_to : (x y : NameId) → x.0 < length g.names → y.0 < length e.names → renumbered_name j.numbers x ≡ y → SameName g e x y
  name_to x y inside there is =
      let w = p.same_name x inside in
      let at : slice_get j.names y.0 ≡ Some w.word = ap (λ (n : NameId). slice_get j.names n.0) (sym is) ∙ w.there in
      record { word = w.word; here = w.here; there = sym (get_append_left e.names p.names.0 y.0 there) ∙ ap (λ (l : List (List ℕ)). slice_get l y.0) (sym p.names.1) ∙ at }

  name_from : (x y : NameId) → x.0 < length g.names → SameName g e x y → renumbered_name j.numbers x ≡ y
  name_from x y inside s = ap (λ n. record { 0 = n }) (one_number g.names e.names j.names p.names.0 p.names.1 p.distinct_names x.0 (renumbered_name j.numbers x).0 y.0 (p.same_name x inside) s)

  pub names_alike : (x y : NameId) → x.0 < length g.names → y.0 < length e.names → (renumbered_name j.numbers x ≡ y) ↔ SameName g e x y
  names_alike x y inside there = (name_to x y inside there, name_from x y inside)

  lists_to : (xs ys : List NameId) → list_all (has_name g.names) xs ≡ true → list_all (has_name e.names) ys ≡ true → map (renumbered_name j.numbers) xs ≡ ys → AllZip (SameName g e) xs ys
  lists_to [] [] h k same = tt
  lists_to [] (y ∷ ys) h k same = absurd cc
  lists_to (x ∷ xs) [] h k same = absurd cc
  lists_to (x ∷ xs) (y ∷ ys) h k same =
      let v = both (has_name g.names x) (list_all (has_name g.names) xs) h in
      let w = both (has_name e.names y) (list_all (has_name e.names) ys) k in
      let one : renumbered_name j.numbers x ≡ y = cc in
      let more : map (renumbered_name j.numbers) xs ≡ ys = cc in
      (name_to x y (is_below x.0 (length g.names) v.0) (is_below y.0 (length e.names) w.0) one, lists_to xs ys v.1 w.1 more)

  lists_from : (xs ys : List NameId) → list_all (has_name g.names) xs ≡ true → AllZip (SameName g e) xs ys → map (renumbered_name j.numbers) xs ≡ ys
  lists_from [] [] h z = refl
  lists_from [] (y ∷ ys) h z = absurd z
  lists_from (x ∷ xs) [] h z = absurd z
  lists_from (x ∷ xs) (y ∷ ys) h z =
      let v = both (has_name g.names x) (list_all (has_name g.names) xs) h in
      λ i. name_from x y (is_below x.0 (length g.names) v.0) z.0 i ∷ lists_from xs ys v.1 z.1 i

  pub lists_alike : (xs ys : List NameId) → list_all (has_name g.names) xs ≡ true → list_all (has_name e.names) ys ≡ true → (map (renumbered_name j.numbers) xs ≡ ys) ↔ AllZip (SameName g e) xs ys
  lists_alike xs ys h k = (lists_to xs ys h k, lists_from xs ys h)

  -- ---- codes

  pub given_inside : (x : CodeId) → x.0 < length g.code.nodes → (renumbered_code j.numbers x).0 < length j.code.nodes
  given_inside x l = let f : j.numbers.first ≡ length e.code.nodes = p.first in let c : length j.code.nodes ≡ length e.code.nodes + length g.code.nodes = p.count in omega (arith, l, f, c)

  pub own_inside : (u : CodeId) → u.0 < length e.code.nodes → u.0 < length j.code.nodes
  own_inside u l = let c : length j.code.nodes ≡ length e.code.nodes + length g.code.nodes = p.count in omega (arith, l, c)

  given_there : (x : CodeId) → x.0 < length g.code.nodes → IsTreeThere (has_name g.names) (has_text g.texts) (code_at g.code.nodes x)
  given_there x l = code_there (has_name g.names) (has_text g.texts) g.code.nodes g.code.closed g.numbered.in_nodes x l

  copied_there : (x : CodeId) → x.0 < length g.code.nodes → IsTreeThere (has_name j.names) (has_text j.texts) (renumbered_tree j.numbers (code_at g.code.nodes x))
  copied_there x l = subst (IsTreeThere (has_name j.names) (has_text j.texts)) (p.given x l) (code_there (has_name j.names) (has_text j.texts) j.code.nodes j.code.closed p.there (renumbered_code j.numbers x) (given_inside x l))

  -- the code of g is in the joined table
  pub same_code : (x : CodeId) → x.0 < length g.code.nodes
      → SameCode (λ a b. IsSameWord g.names j.names a.0 b.0) (IsSameWord g.texts j.texts) (code_at g.code.nodes x) (code_at j.code.nodes (renumbered_code j.numbers x))
  same_code x l =
      subst (SameCode (λ a b. IsSameWord g.names j.names a.0 b.0) (IsSameWord g.texts j.texts) (code_at g.code.nodes x)) (sym (p.given x l))
      (tree_same j.numbers (λ a b. IsSameWord g.names j.names a.0 b.0) (IsSameWord g.texts j.texts) (has_name g.names) (has_name j.names) (has_text g.texts) (has_text j.texts)
      (λ a h k. p.same_name a (is_below a.0 (length g.names) h)) (λ a h k. p.same_text a (is_below a (length g.texts) h)) (code_at g.code.nodes x) (given_there x l) (copied_there x l))

  text_to : (x : ℕ) → x < length g.texts → renumbered_text j.numbers x < length e.texts → SameText g e x (renumbered_text j.numbers x)
  text_to x inside there =
      let w = p.same_text x inside in
      record { word = w.word; here = w.here; there = sym (get_append_left e.texts p.texts.0 (renumbered_text j.numbers x) there) ∙ ap (λ (l : List (List ℕ)). slice_get l (renumbered_text j.numbers x)) (sym p.texts.1) ∙ w.there }

  pub codes_alike : (x u : CodeId) → x.0 < length g.code.nodes → u.0 < length e.code.nodes → IsAboveInTables j x u ↔ IsAboveByWords e g x u
  codes_alike x u l k = (to, from)
    where
      to : IsAboveInTables j x u → IsAboveByWords e g x u
      to w =
          above_back j.numbers (SameName g e) (SameText g e) (has_name g.names) (has_name e.names) (has_text g.texts) (has_text e.texts)
          (λ a h m. name_to a (renumbered_name j.numbers a) (is_below a.0 (length g.names) h) (is_below (renumbered_name j.numbers a).0 (length e.names) m) refl)
          (λ a h m. text_to a (is_below a (length g.texts) h) (is_below (renumbered_text j.numbers a) (length e.texts) m))
          (code_at g.code.nodes x) (code_at e.code.nodes u) (given_there x l) (code_there (has_name e.names) (has_text e.texts) e.code.nodes e.code.closed e.numbered.in_nodes u k)
          (subst (λ (c : CodeTree). IsAbove c (code_at e.code.nodes u)) (p.given x l) (subst (IsAbove (code_at j.code.nodes (renumbered_code j.numbers x))) (p.own u k) w))

      from : IsAboveByWords e g x u → IsAboveInTables j x u
      from w =
          subst (IsAbove (code_at j.code.nodes (renumbered_code j.numbers x))) (sym (p.own u k))
          (above_too (λ a b. IsSameWord g.names j.names a.0 b.0) (SameName g e) (IsSameWord g.texts j.texts) (SameText g e)
          (λ a b c s m. ap (λ n. record { 0 = n }) (one_number g.names e.names j.names p.names.0 p.names.1 p.distinct_names a.0 b.0 c.0 s m))
          (λ a b c s m. one_number g.texts e.texts j.texts p.texts.0 p.texts.1 p.distinct_texts a b c s m) (same_code x l) w)

  -- ---- units

  module _ (x : Process) (in_g : Contains g.processes x) where
    pub process_named : (u : Process) → Contains e.processes u → ReplacesProcessIn j x u ↔ ReplacesProcess e g x u
    process_named u in_e =
        names_alike x.name u.name (is_below x.name.0 (length g.names) (All-contains (λ z. has_name g.names z.name ≡ true) g.processes x g.numbered.in_processes in_g))
        (is_below u.name.0 (length e.names) (All-contains (λ z. has_name e.names z.name ≡ true) e.processes u e.numbered.in_processes in_e))

    pub process_judged : (v : Option LinkRule) → IsVerdict (ReplacesProcessIn j) (SuitsProcessIn j) e.processes x v → IsVerdict (ReplacesProcess e g) (SuitsProcess e g) e.processes x v
    process_judged v =
        judged_as (ReplacesProcessIn j) (SuitsProcessIn j) (ReplacesProcess e g) (SuitsProcess e g) x e.processes process_named
        (λ u in_e. codes_alike x.body u.body (All-contains (λ z. z.body.0 < length g.code.nodes) g.processes x g.inside.in_processes in_g) (All-contains (λ z. z.body.0 < length e.code.nodes) e.processes u e.inside.in_processes in_e)) v

  pair : {P Q R S : Type 0} → P ↔ Q → R ↔ S → (P × R) ↔ (Q × S)
  pair a b = (λ w. (a.0 w.0, b.0 w.1), λ w. (a.1 w.0, b.1 w.1))

  module _ (x : ServiceCode) (in_g : Contains g.services x) where
    pub service_named : (u : ServiceCode) → Contains e.services u → ReplacesServiceIn j x u ↔ ReplacesService e g x u
    service_named u in_e =
        let a = both (has_name g.names x.channel) (has_name g.names x.role) (All-contains (λ z. service_there (has_name g.names) z ≡ true) g.services x g.numbered.in_services in_g) in
        let b = both (has_name e.names u.channel) (has_name e.names u.role) (All-contains (λ z. service_there (has_name e.names) z ≡ true) e.services u e.numbered.in_services in_e) in
        pair (names_alike x.channel u.channel (is_below x.channel.0 (length g.names) a.0) (is_below u.channel.0 (length e.names) b.0)) (names_alike x.role u.role (is_below x.role.0 (length g.names) a.1) (is_below u.role.0 (length e.names) b.1))

    pub service_judged : (v : Option LinkRule) → IsVerdict (ReplacesServiceIn j) (SuitsServiceIn j) e.services x v → IsVerdict (ReplacesService e g) (SuitsService e g) e.services x v
    service_judged v =
        judged_as (ReplacesServiceIn j) (SuitsServiceIn j) (ReplacesService e g) (SuitsService e g) x e.services service_named
        (λ u in_e. codes_alike x.body u.body (All-contains (λ z. z.body.0 < length g.code.nodes) g.services x g.inside.in_services in_g) (All-contains (λ z. z.body.0 < length e.code.nodes) e.services u e.inside.in_services in_e)) v

  module _ (x : Procedure) (in_g : Contains g.procedures x) where
    given_parts : ((has_name g.names x.name && has_name g.names x.param) ≡ true) × (list_all (has_name g.names) x.sessions ≡ true)
    given_parts = both (has_name g.names x.name && has_name g.names x.param) (list_all (has_name g.names) x.sessions) (All-contains (λ z. procedure_there (has_name g.names) z ≡ true) g.procedures x g.numbered.in_procedures in_g)

    own_parts : (u : Procedure) → Contains e.procedures u → ((has_name e.names u.name && has_name e.names u.param) ≡ true) × (list_all (has_name e.names) u.sessions ≡ true)
    own_parts u in_e = both (has_name e.names u.name && has_name e.names u.param) (list_all (has_name e.names) u.sessions) (All-contains (λ z. procedure_there (has_name e.names) z ≡ true) e.procedures u e.numbered.in_procedures in_e)

    pub procedure_named : (u : Procedure) → Contains e.procedures u → ReplacesProcedureIn j x u ↔ ReplacesProcedure e g x u
    procedure_named u in_e =
        let a = both (has_name g.names x.name) (has_name g.names x.param) (given_parts.0) in
        let b = both (has_name e.names u.name) (has_name e.names u.param) ((own_parts u in_e).0) in
        pair (names_alike x.name u.name (is_below x.name.0 (length g.names) a.0) (is_below u.name.0 (length e.names) b.0)) (names_alike x.param u.param (is_below x.param.0 (length g.names) a.1) (is_below u.param.0 (length e.names) b.1))

    pub procedure_judged : (v : Option LinkRule) → IsVerdict (ReplacesProcedureIn j) (SuitsProcedureIn j) e.procedures x v → IsVerdict (ReplacesProcedure e g) (SuitsProcedure e g) e.procedures x v
    procedure_judged v =
        judged_as (ReplacesProcedureIn j) (SuitsProcedureIn j) (ReplacesProcedure e g) (SuitsProcedure e g) x e.procedures procedure_named
        (λ u in_e.
        pair (lists_alike x.sessions u.sessions given_parts.1 ((own_parts u in_e).1))
        (codes_alike x.body u.body (All-contains (λ z. z.body.0 < length g.code.nodes) g.procedures x g.inside.in_procedures in_g) (All-contains (λ z. z.body.0 < length e.code.nodes) e.procedures u e.inside.in_procedures in_e))) v

  module _ (x : Channel) (in_g : Contains g.channels x) where
    pub channel_judged : (v : Option LinkRule) → IsVerdict (ReplacesChannelIn j) (SuitsChannelIn j) e.channels x v → IsVerdict (ReplacesChannel e g) (SuitsChannel e g) e.channels x v
    channel_judged v =
        judged_as (ReplacesChannelIn j) (SuitsChannelIn j) (ReplacesChannel e g) (SuitsChannel e g) x e.channels
        (λ u in_e. names_alike x.name u.name (is_below x.name.0 (length g.names) given_parts.0) (is_below u.name.0 (length e.names) ((own_parts u in_e).0)))
        (λ u in_e. pair (lists_alike x.active u.active given_parts.1.0 ((own_parts u in_e).1.0)) (lists_alike x.serve u.serve given_parts.1.1 ((own_parts u in_e).1.1))) v
      where
        parts_of : (n : NameId → Bool) (c : Channel) → channel_there n c ≡ true → (n c.name ≡ true) × ((list_all n c.active ≡ true) × (list_all n c.serve ≡ true))
        parts_of n c h = let a = both (n c.name && list_all n c.active) (list_all n c.serve) h in let b = both (n c.name) (list_all n c.active) a.0 in (b.0, (b.1, a.1))

        given_parts : (has_name g.names x.name ≡ true) × ((list_all (has_name g.names) x.active ≡ true) × (list_all (has_name g.names) x.serve ≡ true))
        given_parts = parts_of (has_name g.names) x (All-contains (λ z. channel_there (has_name g.names) z ≡ true) g.channels x g.numbered.in_channels in_g)

        own_parts : (u : Channel) → Contains e.channels u → (has_name e.names u.name ≡ true) × ((list_all (has_name e.names) u.active ≡ true) × (list_all (has_name e.names) u.serve ≡ true))
        own_parts u in_e = parts_of (has_name e.names) u (All-contains (λ z. channel_there (has_name e.names) z ≡ true) e.channels u e.numbered.in_channels in_e)
