-- The laws of how logs are opened again, taken together.
use Rattle.run_laws.specs.reopening_law.FlightLaws.{FlightLaws}
use Rattle.run_laws.specs.reopening_law.Openings.{ClientsComeBack, EndsAreReopenings, OpeningsEndByOne}
use Rattle.run_laws.specs.reopening_law.Reopens.{BooksFollow, ClientsReopenSo, ReopeningsReadBack, TheCleanerReopensSo}

pub record ReopeningLaws : Type 0 where
  pub flights : FlightLaws
  pub openings_end_by_one : OpeningsEndByOne
  pub ends_are_reopenings : EndsAreReopenings
  pub clients_come_back : ClientsComeBack
  pub clients_reopen_so : ClientsReopenSo
  pub the_cleaner_reopens_so : TheCleanerReopensSo
  pub reopenings_read_back : ReopeningsReadBack
  pub books_follow : BooksFollow
