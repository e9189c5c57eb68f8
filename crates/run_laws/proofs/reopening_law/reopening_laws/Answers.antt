use Rattle.run_laws.proofs.reopening_law.reopening_laws.Goals as goal

pub returns : goal.returns
returns c =
    let falls = c.falls_tell_their_flight.ensures in
    let flights = c.flights_are_in_the_books.ensures in
    let openings = c.openings_end_by_one_thing.ensures in
    let reopens = c.logs_reopen_as_the_books_do.ensures in
    record {
      flights = record { falls_stay = falls.stays; falls_go_on = falls.events; flights_of_owners = flights.serving; others_leave_flights = flights.others };
      openings_end_by_one = openings.ends;
      ends_are_reopenings = openings.reopens;
      clients_come_back = openings.back;
      clients_reopen_so = reopens.client;
      the_cleaner_reopens_so = reopens.cleaner;
      reopenings_read_back = c.what_was_read_back_is_what_was_filed.ensures.back;
      books_follow = reopens.books;
    }
