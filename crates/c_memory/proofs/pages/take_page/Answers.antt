use Rattle.std.proofs.Common.{◌∙◌, sym}
use Rattle.c_memory.proofs.Paged.{page_taken}
use Rattle.c_memory.proofs.pages.take_page.Goals as goal

pub returns-in_ok-insert-clause-bytes : goal.returns-in_ok-insert-clause-bytes
returns-in_ok-insert-clause-bytes c =
    page_taken c.args.pages.now c.insert.new.self c.args.number (sym c.contains_key.ensures ∙ c.if-not-contains_key.true) c.in_ok-insert.ensures.updates.0
