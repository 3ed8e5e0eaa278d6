-- Units that are put together stand in the joined tables, and are the linked programs.
use Rattle.std.proofs.Common.{◌≡◌, ◌+◌, ◌<◌, ◌&&◌, Bool, true, List, [], ◌∷◌, length, refl, sym, ap, ◌∙◌, subst, arith, length-append}
use Rattle.std.specs.Prelude.{◌↔◌, All, Contains}
use Rattle.std.specs.List.{AllZip, list_all}
use Rattle.std.proofs.lemmas.Bool.Decides.{nat_tests}
use Rattle.std.proofs.lemmas.List.Elements.{All-nil, All-cons, All-head, All-tail, All-contains, All-contains_itself}
use Rattle.chor_base.specs.declared.names.NameId.{NameId}
use Rattle.endpoint_code.specs.declared.code.Code.{Code}
use Rattle.endpoint_code.specs.declared.code.CodeId.{CodeId}
use Rattle.endpoint_code.specs.declared.endpoints.Channel.{Channel}
use Rattle.endpoint_code.specs.declared.endpoints.Procedure.{Procedure}
use Rattle.endpoint_code.specs.declared.endpoints.ServiceCode.{ServiceCode}
use Rattle.endpoint_code.specs.declared.endpoints.Process.{Process}
use Rattle.endpoint_code.specs.declared.endpoints.Endpoints.{Endpoints}
use Rattle.endpoint_code.specs.Kept.{has_name, channel_there, procedure_there, service_there}
use Rattle.endpoint_code.specs.Trees.{code_at}
use Rattle.endpoint_link.specs.Renumbered.{renumbered_code}
use Rattle.same_programs.specs.Words.{IsSameWord}
use Rattle.same_programs.specs.Programs.{SameCodeAt}
use Rattle.same_programs.specs.Codes.{SameCode}
use Rattle.endpoint_link.specs.Linked.{IsLinked, AllSuit, IsLinkedCode, IsProcedureLinked, IsServiceLinked, IsProcessLinked, ReplacesProcedure, ReplacesService, ReplacesProcess, taken, kept}
use Rattle.endpoint_link.specs.declared.joined.Joined.{Joined}
use Rattle.endpoint_link.specs.Joined.{AreProgramsJoined}
use Rattle.endpoint_link.specs.InTables.{IsLinkedCodeIn, IsProcedureLinkedIn, IsServiceLinkedIn, IsProcessLinkedIn, taken as has_given, kept as has_own}
use Rattle.endpoint_link.specs.InTables.{ReplacesProcedureIn, ReplacesServiceIn, ReplacesProcessIn}
use Rattle.endpoint_link.proofs.Alike.{given_inside, own_inside, same_code, process_named, service_named, procedure_named}
use Rattle.endpoint_link.proofs.Basics.{both, join}

zip_as : {A B : Type 0} (P : A → Type 0) (R S : A → B → Type 0) → ((x : A) (y : B) → P x → R x y → S x y) → (xs : List A) (ys : List B) → All P xs → AllZip R xs ys → AllZip S xs ys
zip_as P R S f [] [] h z = tt
zip_as P R S f [] (y ∷ ys) h z = absurd z
zip_as P R S f (x ∷ xs) [] h z = absurd z
zip_as P R S f (x ∷ xs) (y ∷ ys) h z = (f x y (All-head P x xs h) z.0, zip_as P R S f xs ys (All-tail P x xs h) z.1)

right_of : {A B : Type 0} (P : A → Type 0) (R : A → B → Type 0) (Q : B → Type 0) → ((x : A) (y : B) → P x → R x y → Q y) → (xs : List A) (ys : List B) → All P xs → AllZip R xs ys → All Q ys
right_of P R Q f [] [] h z = All-nil Q
right_of P R Q f [] (y ∷ ys) h z = absurd z
right_of P R Q f (x ∷ xs) [] h z = absurd z
right_of P R Q f (x ∷ xs) (y ∷ ys) h z = All-cons Q y ys (f x y (All-head P x xs h) z.0) (right_of P R Q f xs ys (All-tail P x xs h) z.1)

all_true : (n m : NameId → Bool) → ((x : NameId) → n x ≡ true → m x ≡ true) → (xs : List NameId) → list_all n xs ≡ true → list_all m xs ≡ true
all_true n m more [] h = refl
all_true n m more (x ∷ xs) h = let b = both (n x) (list_all n xs) h in let one = more x b.0 in let rest = all_true n m more xs b.1 in cc

module _ (e g : Endpoints) (j : Joined) (p : AreProgramsJoined e g j) where
  -- ---- bodies

  body_inside : {A : Type 0} (Named : A → Type 0) (body : A → CodeId) (given : List A) (own q : CodeId) → All (λ x. (body x).0 < length g.code.nodes) given → own.0 < length e.code.nodes
      → IsLinkedCodeIn j Named body given own q → q.0 < length j.code.nodes
  body_inside Named body given own q h k (has_given x there named is) = subst (λ (c : CodeId). c.0 < length j.code.nodes) (sym is) (given_inside e g j p (body x) (All-contains (λ z. (body z).0 < length g.code.nodes) given x h there))
  body_inside Named body given own q h k (has_own none is) = subst (λ (c : CodeId). c.0 < length j.code.nodes) (sym is) (own_inside e g j p own k)

  name_more : (x : NameId) → has_name e.names x ≡ true → has_name j.names x ≡ true
  name_more x h = let l : length j.names ≡ length e.names + length p.names.0 = ap length p.names.1 ∙ length-append e.names p.names.0 in grind (arith, nat_tests)

  pub channels_numbered : (cs : List Channel) → cs ≡ e.channels → All (λ c. channel_there (has_name j.names) c ≡ true) cs
  channels_numbered cs same = subst (All (λ c. channel_there (has_name j.names) c ≡ true)) (sym same) (λ k d l. one _ (e.numbered.in_channels k d l))
    where
      one : (c : Channel) → channel_there (has_name e.names) c ≡ true → channel_there (has_name j.names) c ≡ true
      one c h =
          let a = both (has_name e.names c.name && list_all (has_name e.names) c.active) (list_all (has_name e.names) c.serve) h in
          let b = both (has_name e.names c.name) (list_all (has_name e.names) c.active) a.0 in
          join _ _ (join _ _ (name_more c.name b.0) (all_true (has_name e.names) (has_name j.names) name_more c.active b.1)) (all_true (has_name e.names) (has_name j.names) name_more c.serve a.1)

  module _ (ps : List Procedure) (made : AllZip (IsProcedureLinkedIn j g.procedures) e.procedures ps) where
    pub procedures_inside : All (λ q. q.body.0 < length j.code.nodes) ps
    procedures_inside =
        right_of (λ (z : Procedure). z.body.0 < length e.code.nodes) (IsProcedureLinkedIn j g.procedures) (λ (q : Procedure). q.body.0 < length j.code.nodes)
        (λ z q k m. body_inside (λ x. ReplacesProcedureIn j x z) (λ x. x.body) g.procedures z.body q.body g.inside.in_procedures k m.body) e.procedures ps e.inside.in_procedures made

    pub procedures_numbered : All (λ q. procedure_there (has_name j.names) q ≡ true) ps
    procedures_numbered = right_of (λ (z : Procedure). procedure_there (has_name e.names) z ≡ true) (IsProcedureLinkedIn j g.procedures) (λ (q : Procedure). procedure_there (has_name j.names) q ≡ true) one e.procedures ps e.numbered.in_procedures made
      where
        one : (z q : Procedure) → procedure_there (has_name e.names) z ≡ true → IsProcedureLinkedIn j g.procedures z q → procedure_there (has_name j.names) q ≡ true
        one z q h m =
            let a = both (has_name e.names z.name && has_name e.names z.param) (list_all (has_name e.names) z.sessions) h in
            let b = both (has_name e.names z.name) (has_name e.names z.param) a.0 in
            let n = name_more z.name b.0 in
            let o = name_more z.param b.1 in
            let s = all_true (has_name e.names) (has_name j.names) name_more z.sessions a.1 in
            join _ _ (join _ _ (subst (λ y. has_name j.names y ≡ true) (sym m.name) n) (subst (λ y. has_name j.names y ≡ true) (sym m.param) o)) (subst (λ ys. list_all (has_name j.names) ys ≡ true) (sym m.sessions) s)

  module _ (ss : List ServiceCode) (made : AllZip (IsServiceLinkedIn j g.services) e.services ss) where
    pub services_inside : All (λ q. q.body.0 < length j.code.nodes) ss
    services_inside =
        right_of (λ (z : ServiceCode). z.body.0 < length e.code.nodes) (IsServiceLinkedIn j g.services) (λ (q : ServiceCode). q.body.0 < length j.code.nodes)
        (λ z q k m. body_inside (λ x. ReplacesServiceIn j x z) (λ x. x.body) g.services z.body q.body g.inside.in_services k m.body) e.services ss e.inside.in_services made

    pub services_numbered : All (λ q. service_there (has_name j.names) q ≡ true) ss
    services_numbered = right_of (λ (z : ServiceCode). service_there (has_name e.names) z ≡ true) (IsServiceLinkedIn j g.services) (λ (q : ServiceCode). service_there (has_name j.names) q ≡ true) one e.services ss e.numbered.in_services made
      where
        one : (z q : ServiceCode) → service_there (has_name e.names) z ≡ true → IsServiceLinkedIn j g.services z q → service_there (has_name j.names) q ≡ true
        one z q h m =
            let b = both (has_name e.names z.channel) (has_name e.names z.role) h in
            join _ _ (subst (λ y. has_name j.names y ≡ true) (sym m.channel) (name_more z.channel b.0)) (subst (λ y. has_name j.names y ≡ true) (sym m.role) (name_more z.role b.1))

  module _ (qs : List Process) (made : AllZip (IsProcessLinkedIn j g.processes) e.processes qs) where
    pub processes_inside : All (λ q. q.body.0 < length j.code.nodes) qs
    processes_inside =
        right_of (λ (z : Process). z.body.0 < length e.code.nodes) (IsProcessLinkedIn j g.processes) (λ (q : Process). q.body.0 < length j.code.nodes)
        (λ z q k m. body_inside (λ x. ReplacesProcessIn j x z) (λ x. x.body) g.processes z.body q.body g.inside.in_processes k m.body) e.processes qs e.inside.in_processes made

    pub processes_numbered : All (λ q. has_name j.names q.name ≡ true) qs
    processes_numbered =
        right_of (λ (z : Process). has_name e.names z.name ≡ true) (IsProcessLinkedIn j g.processes) (λ (q : Process). has_name j.names q.name ≡ true)
        (λ z q h m. subst (λ y. has_name j.names y ≡ true) (sym m.name) (name_more z.name h)) e.processes qs e.numbered.in_processes made

  -- ---- the linked programs

  module _ (r : Endpoints) (names : r.names ≡ j.names) (texts : r.texts ≡ j.texts) (code : r.code ≡ j.code) where
    stands : (x : CodeId) → x.0 < length g.code.nodes → SameCodeAt g r x (renumbered_code j.numbers x)
    stands x l =
        let s = same_code e g j p x l in
        let n = subst (λ ws. SameCode (λ a b. IsSameWord g.names ws a.0 b.0) (IsSameWord g.texts j.texts) (code_at g.code.nodes x) (code_at j.code.nodes (renumbered_code j.numbers x))) (sym names) s in
        let t = subst (λ ws. SameCode (λ a b. IsSameWord g.names r.names a.0 b.0) (IsSameWord g.texts ws) (code_at g.code.nodes x) (code_at j.code.nodes (renumbered_code j.numbers x))) (sym texts) n in
        subst (λ (c : Code). SameCode (λ a b. IsSameWord g.names r.names a.0 b.0) (IsSameWord g.texts r.texts) (code_at g.code.nodes x) (code_at c.nodes (renumbered_code j.numbers x))) (sym code) t

    body_taken : {A : Type 0} (Named : A → Type 0) (Names : A → A → Type 0) (body : A → CodeId) (given : List A) (u : A) (q : CodeId)
        → ((x : A) → Contains given x → Named x ↔ Names x u) → All (λ x. (body x).0 < length g.code.nodes) given → (body u).0 < length e.code.nodes
        → IsLinkedCodeIn j Named body given (body u) q → IsLinkedCode Names body e g r given u q
    body_taken Named Names body given u q alike h k (has_given x there named is) =
        taken x there ((alike x there).0 named) (subst (SameCodeAt g r (body x)) (sym is) (stands (body x) (All-contains (λ z. (body z).0 < length g.code.nodes) given x h there)))
    body_taken Named Names body given u q alike h k (has_own none is) =
        kept (λ x there same. All-contains (λ z. Named z → ⊥) given x none there ((alike x there).1 same))
        (ap (λ (c : Code). code_at c.nodes q) code ∙ ap (code_at j.code.nodes) is ∙ p.own (body u) k)

    pub all_linked : AllSuit e g → r.channels ≡ e.channels → AllZip (IsProcedureLinkedIn j g.procedures) e.procedures r.procedures → AllZip (IsServiceLinkedIn j g.services) e.services r.services
        → AllZip (IsProcessLinkedIn j g.processes) e.processes r.processes → IsLinked e g r
    all_linked fit same ps ss qs = record {
      suit = fit;
      names = (p.names.0, names ∙ p.names.1);
      texts = (p.texts.0, texts ∙ p.texts.1);
      channels = same;
      procedures = zip_as (Contains e.procedures) (IsProcedureLinkedIn j g.procedures) (IsProcedureLinked e g r)
          (λ u q inside m. record {
            name = m.name;
            param = m.param;
            sessions = m.sessions;
            body = body_taken (λ x. ReplacesProcedureIn j x u) (ReplacesProcedure e g) (λ x. x.body) g.procedures u q.body
                (λ x there. procedure_named e g j p x there u inside) g.inside.in_procedures (All-contains (λ z. z.body.0 < length e.code.nodes) e.procedures u e.inside.in_procedures inside) m.body;
          })
          e.procedures r.procedures (All-contains_itself e.procedures) ps;
      services = zip_as (Contains e.services) (IsServiceLinkedIn j g.services) (IsServiceLinked e g r)
          (λ u q inside m. record {
            channel = m.channel;
            role = m.role;
            body = body_taken (λ x. ReplacesServiceIn j x u) (ReplacesService e g) (λ x. x.body) g.services u q.body
                (λ x there. service_named e g j p x there u inside) g.inside.in_services (All-contains (λ z. z.body.0 < length e.code.nodes) e.services u e.inside.in_services inside) m.body;
          })
          e.services r.services (All-contains_itself e.services) ss;
      processes = zip_as (Contains e.processes) (IsProcessLinkedIn j g.processes) (IsProcessLinked e g r)
          (λ u q inside m. record {
            name = m.name;
            body = body_taken (λ x. ReplacesProcessIn j x u) (ReplacesProcess e g) (λ x. x.body) g.processes u q.body
                (λ x there. process_named e g j p x there u inside) g.inside.in_processes (All-contains (λ z. z.body.0 < length e.code.nodes) e.processes u e.inside.in_processes inside) m.body;
          })
          e.processes r.processes (All-contains_itself e.processes) qs;
    }

-- ---- lists that are the same

pub zip_for : {A B : Type 0} (R : List A → A → B → Type 0) (g g' b b' : List A) (ys : List B) → g ≡ g' → b ≡ b' → AllZip (R g) b ys → AllZip (R g') b' ys
zip_for R g g' b b' ys p q z = subst (λ gs. AllZip (R gs) b' ys) p (subst (λ bs. AllZip (R g) bs ys) q z)
