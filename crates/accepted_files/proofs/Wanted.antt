-- The projection's channels are those that main and the procedures start.
use Rattle.std.proofs.Common.{ap, ◌∙◌, Bool}
use Rattle.std.specs.Prelude.{Contains}
use Rattle.chor_tree.specs.declared.file.File.{File}
use Rattle.chor_tree.specs.declared.file.Proc.{Proc}
use Rattle.chor_tree.specs.declared.file.Service.{Service}
use Rattle.projection.specs.Projects.{body_at, starts_of, is_some_start}
use Rattle.typed_sources.proofs.Channels.{AreWanted}
use Rattle.accepted_files.proofs.StartedChannels.{named_so, main_starts, body_starts}

-- a start of the service's channel stands in the file
abbrev pub is_started : File → Service → Bool
is_started f s = is_some_start (starts_of f s.name.name)

module _ (f : File) where
  -- each channel that main starts is started
  pub main_wanted : AreWanted (is_started f) f (body_at f f.body)
  main_wanted c s h i = ap (λ z. is_some_start (starts_of f z)) (named_so f.services c s i) ∙ main_starts f c h

  -- and each that a procedure starts
  pub body_wanted : (p : Proc) → Contains f.procs p → AreWanted (is_started f) f (body_at f p.body)
  body_wanted p m c s h i = ap (λ z. is_some_start (starts_of f z)) (named_so f.services c s i) ∙ body_starts f c p m h
