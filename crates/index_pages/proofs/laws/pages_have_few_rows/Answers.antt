use Rattle.index_pages.proofs.Sizes.{few_rows}
use Rattle.index_pages.proofs.laws.pages_have_few_rows.Goals as goal

pub returns : goal.returns
returns c = few_rows
