use Rattle.index_pages.specs.Pages.{pages_new}
use Rattle.index_pages.proofs.PlainTable.{entry_of-calls}
use Rattle.index_pages.proofs.laws.pages_answer_as_the_plain_table.Goals as goal

pub returns : goal.returns
returns c = entry_of-calls pages_new
