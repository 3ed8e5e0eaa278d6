use Rattle.std.proofs.Common.{◌≡◌, ℕ, pos, List, [], ◌∷◌, refl, sym, ◌∙◌, subst, Some}
use Rattle.std.specs.List.{AllZip}
use Rattle.chor_base.specs.declared.names.NameId.{NameId}
use Rattle.chor_base.specs.declared.value.Value.TheVariants.{Int}
use Rattle.chor_base.specs.Expr.{Constant}
use Rattle.chor_semantics.specs.Choreography.{put}
use Rattle.chor_semantics.specs.Examples.Names.{s, z, d, A, S, up, down}
use Rattle.endpoint_code.specs.Trees.{CodeTree, Does, Offers, Ends, NoArms, Arm, Sends}
use Rattle.endpoint_code.specs.LeastAbove.{IsLeastAbove}
use Rattle.projection.specs.Codes.{IsCodeOf, acts, learns, absent, ends}
use Rattle.projection.specs.Projects.{serving, Started, session_as, IsStartCode, IsServiceCode}
use Rattle.projection.specs.Examples.ServiceTwice.{starts, offers, sends_one, sends_two}
use Rattle.projection.proofs.Inversions.{after_action, after_label, after_others, at_end}
use Rattle.projection.proofs.Branches.{least_two, not_one, not_three}
use Rattle.projection.proofs.examples.service_started_twice.Goals as goal

-- send d A n; end
abbrev sends : ℕ → CodeTree
sends n = Does (Sends d A (Constant (Int (pos n)))) Ends

-- the code after one start: it learns a label, and sends
abbrev after : NameId → ℕ → CodeTree
after l n = Offers d A (Arm l (sends n) NoArms)

the_service : IsServiceCode [] d S starts (offers ((down, sends_two) ∷ (up, sends_one) ∷ []))
the_service = record {
  codes = after up 1 ∷ after down 2 ∷ [];
  each = (
    record { process = s; serves = refl; code = learns refl (acts refl (absent refl (absent refl (absent refl ends)))) },
    (record { process = z; serves = refl; code = learns refl (acts refl ends) }, tt),
  );
  merged = least_two d A down up (sends 2) (sends 1) refl tt tt;
}

pub returns-clause-service : goal.returns-clause-service
returns-clause-service c = the_service

pub returns-clause-whole : goal.returns-clause-whole
returns-clause-whole c tree kept code inside numbered = record {
  names = refl;
  texts = refl;
  channels = refl;
  procedures = tt;
  services = (record { channel = refl; role = refl; body = the_service }, tt);
  processes = (
    record { name = refl; body = acts refl (acts refl (acts refl (absent refl (absent refl (absent refl ends))))) },
    (record { name = refl; body = absent refl (absent refl (absent refl (acts refl (acts refl (acts refl ends))))) }, tt),
  );
}

-- the code of the new process that this is
code_for : (t : Started) (p : NameId) (c : CodeTree) → serving S t.serve ≡ Some p → IsStartCode [] d S t c → IsCodeOf [] p (put (λ q. q) (session_as t.session d) t.rest) c
code_for t p c e g =
    let both : Some g.process ≡ Some p = sym g.serves ∙ e in
    let same : g.process ≡ p = cc in
    subst (λ (q : NameId). IsCodeOf [] q (put (λ q. q) (session_as t.session d) t.rest) c) same g.code

-- what the service's code must be the least above
above_both : (x : CodeTree) → IsServiceCode [] d S starts x → IsLeastAbove (after up 1 ∷ after down 2 ∷ []) x
above_both x service = go service.codes service.each service.merged
  where
    go : (codes : List CodeTree) → AllZip (IsStartCode [] d S) starts codes → IsLeastAbove codes x → IsLeastAbove (after up 1 ∷ after down 2 ∷ []) x
    go [] e m = absurd e
    go (a ∷ []) e m = absurd e.1
    go (a ∷ b ∷ c ∷ cs) e m = absurd e.1.1
    go (a ∷ b ∷ []) e m =
        let f = after_label [] s d A up refl (code_for _ s a refl e.0) in
        let f' = after_action [] s (Sends d A (Constant (Int (pos 1)))) refl f.follows in
        let f'' : f'.code ≡ Ends = at_end [] s (after_others [] s refl (after_others [] s refl (after_others [] s refl f'.follows))) in
        let first : a ≡ after up 1 = cc (f.made, f'.made, f'') in
        let g = after_label [] z d A down refl (code_for _ z b refl e.1.0) in
        let g' = after_action [] z (Sends d A (Constant (Int (pos 2)))) refl g.follows in
        let g'' : g'.code ≡ Ends = at_end [] z g'.follows in
        let second : b ≡ after down 2 = cc (g.made, g'.made, g'') in
        let one : IsLeastAbove (after up 1 ∷ b ∷ []) x = subst (λ (t : CodeTree). IsLeastAbove (t ∷ b ∷ []) x) first m in
        subst (λ (t : CodeTree). IsLeastAbove (after up 1 ∷ t ∷ []) x) second one

pub returns-clause-fewer : goal.returns-clause-fewer
returns-clause-fewer c l n service = not_one d A down up (sends 2) (sends 1) refl tt tt (above_both _ service)

pub returns-clause-more : goal.returns-clause-more
returns-clause-more c l n service = not_three d A down up (sends 2) (sends 1) refl tt tt (above_both _ service)
