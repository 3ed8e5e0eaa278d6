-- What contracts see of a book.
use Rattle.transcript.specs.declared.book.Book.{Book}
use Rattle.transcript.specs.Text.{Words}

abbrev pub words : Book → Words
words b = record { names = b.names.now; texts = b.texts.now; processes = b.processes.now }
