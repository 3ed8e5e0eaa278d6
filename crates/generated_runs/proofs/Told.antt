-- What is printed of the run of a generated file.
use Rattle.std.proofs.Common.{◌≡◌, ℕ, suc, List, [], ◌∷◌, length, Option, None, refl, sym, ap, ◌∙◌, subst, arith}
use Rattle.std.specs.Prelude.{Result, Ok, Err, IfOk, IfErr}
use Rattle.chor_base.specs.declared.rule.Denied.{Denied}
use Rattle.chor_base.specs.declared.rule.Denied.TheVariants.{Refused, Memory}
use Rattle.chor_base.specs.declared.rule.Refusal.{Refusal}
use Rattle.chor_tree.specs.declared.file.File.{File}
use Rattle.source_check.specs.declared.rules.Rules.TheVariants.{All}
use Rattle.source_check.specs.Classes.{classes_of}
use Rattle.source_check.specs.Source.{IsBroken}
use Rattle.generated_files.specs.Laws.{GeneratedIsDeniedByMemory}
use Rattle.chor_base.specs.declared.event.Event.{Event}
use Rattle.chor_base.specs.declared.event.Entry.{Entry}
use Rattle.chor_host.specs.Functions.{Function, hosts_in}
use Rattle.endpoint_code.specs.Network.{NetworkState, first_state}
use Rattle.endpoint_code.specs.NetworkRuns.{NetworkLeads}
use Rattle.endpoint_code.proofs.Chosen.{scheduled_leads}
use Rattle.net_core.proofs.Scopes.{length-standing_all}
use Rattle.net_core.specs.Picks.{entries_of}
use Rattle.simulation.specs.Accepted.{AcceptedView}
use Rattle.simulation.specs.Capacity.{capacity_of}
use Rattle.simulation.specs.Runs.{IsOutcomeOf, IsRunOf, close_of}
use Rattle.simulation.specs.declared.running.Outcome.{Outcome}
use Rattle.generated_files.specs.Generated.{IsGenerated}
use Rattle.generated_runs.specs.Counts.{events_of, sessions_in, processes_after}
use Rattle.generated_runs.specs.Texts.{summary_line, IsLineFor, IsSummary}
use Rattle.generated_runs.proofs.LastStates.{leads_sessions, leads_processes}

events_back : (h : List Event) → events_of (entries_of h) ≡ h
events_back [] = refl
events_back (x ∷ xs) = ap (λ ys. x ∷ ys) (events_back xs)

as_long : (h : List Event) → length (entries_of h) ≡ length h
as_long [] = refl
as_long (x ∷ xs) = ap suc (as_long xs)

pub summary_is : (functions : List Function) (n : ℕ) (a : AcceptedView) (o : Outcome) (text : List ℕ) → IsGenerated a.typed.file n → IsOutcomeOf a functions 0 1000000 o → IsLineFor a.endpoints o.history n text → IsSummary functions n text
summary_is functions n a o text generated x is =
    let f = a.typed.file in
    let hosts = hosts_in f.names functions in
    let free : capacity_of f ≡ None = ap (λ s. s.header.capacity) generated.source in
    let run : IsRunOf f a.endpoints hosts None 0 1000000 x.history (close_of o.ended) =
    subst (λ (cap : Option ℕ). IsRunOf f a.endpoints hosts cap 0 1000000 x.history (close_of o.ended)) free x.run in
    let events : events_of o.history ≡ x.history = ap events_of x.entries_are ∙ events_back x.history in
    let long : length o.history ≡ length x.history = ap (λ (es : List Entry). length es) x.entries_are ∙ as_long x.history in
    let from : first_state a.endpoints ≡ run.from = run.given_run in
    let leads : NetworkLeads a.endpoints hosts None (first_state a.endpoints) x.history run.closed.last =
    subst (λ (s : NetworkState). NetworkLeads a.endpoints hosts None s x.history run.closed.last) (sym from)
    (scheduled_leads a.endpoints hosts None 0 1000000 x.history run.from run.closed.last 0 (close_of o.ended) run.scheduled) in
    let sessions : run.closed.last.sid ≡ sessions_in x.history =
    (let count = leads_sessions a.endpoints hosts None x.history (first_state a.endpoints) run.closed.last leads in omega arith) in
    let processes : length run.closed.last.machines ≡ processes_after (length a.endpoints.processes) x.history =
    leads_processes a.endpoints hosts None x.history (first_state a.endpoints) run.closed.last leads
    ∙ ap (λ k. processes_after k x.history) (length-standing_all a.endpoints.processes) in
    record {
      file = f;
      generated = generated;
      endpoints = a.endpoints;
      history = x.history;
      ended = o.ended;
      run = run;
      text_is =
          is ∙ (λ i. summary_line n (long i) (sessions_in (events i)) (processes_after (length a.endpoints.processes) (events i)))
          ∙ sym (λ i. summary_line n (length x.history) (sessions i) (processes i));
    }

pub ok_so : {X E : Type 0} (P Q : X → Type 0) → ((x : X) → P x → Q x) → (r : Result X E) → IfOk r P → IfOk r Q
ok_so P Q f (Ok x) h = f x h
ok_so P Q f (Err e) h = h

-- who judges a generated file doesn't refuse it
pub not_refused : {X : Type 0} (hosts : List (List ℕ)) (f : File) (n : ℕ) (r : Result X Denied) (x : Refusal) → IsGenerated f n → GeneratedIsDeniedByMemory → IfErr r (IsBroken (classes_of All) hosts f) → r ≡ Err (Refused x) → ⊥
not_refused hosts f n (Ok a) x generated law h e = cc
not_refused hosts f n (Err d) x generated law h e =
    let none : d ≡ Memory = law f n hosts d generated h in
    cc
