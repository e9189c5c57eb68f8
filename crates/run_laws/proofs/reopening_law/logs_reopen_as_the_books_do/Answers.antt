use Rattle.run_laws.proofs.reopening_law.Following.{books_follow, clients_reopen_so, the_cleaner_reopens_so}
use Rattle.run_laws.proofs.reopening_law.logs_reopen_as_the_books_do.Goals as goal

pub returns-clause-client : goal.returns-clause-client
returns-clause-client c = clients_reopen_so c.below.ensures

pub returns-clause-cleaner : goal.returns-clause-cleaner
returns-clause-cleaner c = the_cleaner_reopens_so c.below.ensures

pub returns-clause-books : goal.returns-clause-books
returns-clause-books c = books_follow c.below.ensures
