use Rattle.index_pages.specs.Layout.{first_block}
use Rattle.index_pages.proofs.Changed.{changed_are_put_on}
use Rattle.index_pages.proofs.Numbering.{numbered}
use Rattle.index_pages.proofs.laws.pages_change_where_something_is_put.Goals as goal

pub returns-clause-pages : goal.returns-clause-pages
returns-clause-pages c = λ calls. (numbered calls).pages

pub returns-clause-numbers : goal.returns-clause-numbers
returns-clause-numbers c = λ calls block. (numbered calls).numbers (first_block block)

pub returns-clause-changed : goal.returns-clause-changed
returns-clause-changed c = changed_are_put_on
