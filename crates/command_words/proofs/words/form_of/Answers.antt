use Rattle.std.proofs.Common.{sym, ap, ◌∙◌, ℕ, take, drop}
use Rattle.command_words.proofs.Forms.{no_files, is_form}
use Rattle.command_words.proofs.words.form_of.Goals as goal

pub returns-then-not-are_file_words : goal.returns-then-not-are_file_words
returns-then-not-are_file_words c = λ h.
    no_files c.args.words.now.items c.in_ok-word.word.now c.in_ok-word.rest.now (sym c.as_slice.ensures ∙ c.in_ok-word.ensures.cases.0) c.in_ok-name.name (sym c.as_slice-2.ensures ∙ c.in_ok-name.ensures.1)
    c.in_ok-files.files.now c.in_ok-files.options.now (c.in_ok-files.ensures.cases.1 ∙ ap (λ (k : ℕ). take k c.in_ok-word.rest.now) c.file_count.ensures) (c.in_ok-files.ensures.cases.2 ∙ ap (λ (k : ℕ). drop k c.in_ok-word.rest.now) c.file_count.ensures)
    (λ all. let same = sym c.if-not-are_file_words.true ∙ c.are_file_words.ensures.1 all in absurd cc) h.command h.names h.form

pub returns : goal.returns
returns c =
    is_form c.args.words.now.items c.in_ok-word.word.now c.in_ok-word.rest.now (sym c.as_slice.ensures ∙ c.in_ok-word.ensures.cases.0) c.in_ok-name.name (sym c.as_slice-2.ensures ∙ c.in_ok-name.ensures.1)
    c.in_ok-files.files.now c.in_ok-files.options.now (c.in_ok-files.ensures.cases.1 ∙ ap (λ (k : ℕ). take k c.in_ok-word.rest.now) c.file_count.ensures) (c.in_ok-files.ensures.cases.2 ∙ ap (λ (k : ℕ). drop k c.in_ok-word.rest.now) c.file_count.ensures)
    (c.in_ok-files.ensures.cases.3 ∙ c.file_count.ensures) (c.are_file_words.ensures.0 c.if-not-are_file_words.false) c.in_ok-command.command c.in_ok-command.ensures
