use Rattle.run_laws.proofs.world_lines.Flights as flights
use Rattle.run_laws.proofs.world_lines.what_flies_is_its_text.Goals as goal

pub returns : goal.returns
returns c = record {
  client = flights.clients_write_texts c.what_is_held_flew.ensures.held;
  cleaner = flights.cleaner_writes_texts c.what_is_held_flew.ensures.held;
  manager = flights.managers_write_texts c.what_is_held_flew.ensures.held;
}
