-- The choreography of a file is that of its source.
use Rattle.std.proofs.Common.{◌≡◌, ℕ, List, [], ◌∷◌, map, refl, sym, ap, ◌∙◌, subst, Option}
use Rattle.std.specs.FinMap as fin
use Rattle.chor_base.specs.declared.event.Event.{Event}
use Rattle.chor_base.specs.Meaning.{Hosts}
use Rattle.chor_tree.specs.declared.file.File.{File}
use Rattle.chor_tree.specs.declared.file.Proc.{Proc}
use Rattle.chor_tree.specs.declared.tree.Node.{Node}
use Rattle.chor_tree.specs.Source.{Source, source_of, procedure_of}
use Rattle.chor_tree.specs.Source as written
use Rattle.chor_semantics.specs.Choreography.{Named, instance_of}
use Rattle.chor_semantics.specs.Sources.{Procedure, Configuration, procedure_from, procedures_of, numbered, first_configuration}
use Rattle.chor_semantics.specs.Runs.{IsRunTo, IsTerminated, Leads}
use Rattle.chor_semantics.specs.Blocks.{choreography_of}
use Rattle.chor_semantics.proofs.Blocks.{block_choreography}
use Rattle.program_runs.specs.Laws.{SourcesRunAlike, SourcesEndAlike}

abbrev procedure_in : written.Procedure → Procedure
procedure_in p = record {
  name = p.name.name;
  params = map (λ q. q.name.name) p.params;
  sessions = map (λ s. s.name.name) p.sessions;
  body = choreography_of p.body;
}

abbrev procedures_in : Source → List Procedure
procedures_in s = map procedure_in s.items.procedures

abbrev configuration_in : Source → Configuration
configuration_in s = record {
  tree = instance_of 0 (numbered 0 s.processes) (λ y. Named y 0) (choreography_of s.body);
  vars = map (λ p. fin.empty) s.processes;
  sid = 0;
}

each_procedure : (nodes : List Node) (ps : List Proc) → map procedure_in (map (procedure_of nodes) ps) ≡ map (procedure_from nodes) ps
each_procedure nodes [] = refl
each_procedure nodes (p ∷ ps) = λ i. record {
  name = p.name.name;
  params = map (λ q. q.name.name) p.params;
  sessions = map (λ s. s.name.name) p.sessions;
  body = block_choreography nodes p.body i;
} ∷ each_procedure nodes ps i

procedures_are : (f : File) → procedures_in (source_of f) ≡ procedures_of f
procedures_are f = each_procedure f.tree.nodes f.procs

configuration_is : (f : File) → configuration_in (source_of f) ≡ first_configuration f
configuration_is f = λ i. record {
  tree = instance_of 0 (numbered 0 f.processes) (λ y. Named y 0) (block_choreography f.tree.nodes f.body i);
  vars = map (λ p. fin.empty) f.processes;
  sid = 0;
}

module _ (f g : File) (same : source_of f ≡ source_of g) where
  same_procedures : procedures_of f ≡ procedures_of g
  same_procedures = sym (procedures_are f) ∙ ap procedures_in same ∙ procedures_are g

  same_configuration : first_configuration f ≡ first_configuration g
  same_configuration = sym (configuration_is f) ∙ ap configuration_in same ∙ configuration_is g

  led : (hosts : Hosts) (cap : Option ℕ) (h : List Event) (last : Configuration) → IsRunTo f hosts cap h last → IsRunTo g hosts cap h last
  led hosts cap h last r = record {
    leads = subst (λ (c : Configuration). Leads (procedures_of g) hosts c h last) same_configuration (subst (λ (ps : List Procedure). Leads ps hosts (first_configuration f) h last) same_procedures r.leads);
    within = r.within;
  }

pub run_alike : SourcesRunAlike
run_alike = λ f g same hosts cap h r. (r.0, led f g same hosts cap h r.0 r.1)

pub end_alike : SourcesEndAlike
end_alike = λ f g same hosts cap h r. (r.0, led f g same hosts cap h r.0 r.1, subst (λ (ps : List Procedure). IsTerminated ps r.0.tree) (same_procedures f g same) r.2)
