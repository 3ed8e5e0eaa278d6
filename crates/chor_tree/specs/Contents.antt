-- What a file holds.
use Rattle.chor_tree.specs.declared.file.File.{File}
use Rattle.chor_tree.specs.Kept.{Contents}

abbrev pub contents_of : File → Contents
contents_of f = record {
  header = f.header;
  names = f.names;
  texts = f.texts;
  protocols = f.protocols;
  services = f.services;
  procs = f.procs;
  processes = f.processes;
  nodes = f.tree.nodes;
  body = f.body;
}
