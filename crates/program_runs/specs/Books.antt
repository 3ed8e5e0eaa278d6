-- What the transcripts of a source's runs are written with (this project's own).
use Rattle.chor_tree.specs.Names.{names_in}
use Rattle.chor_tree.specs.declared.file.File.{File}
use Rattle.transcript.specs.Text.{Words}

-- its names, texts and processes
abbrev pub book_of : File → Words
book_of f = record { names = f.names; texts = f.texts; processes = names_in f.processes }
