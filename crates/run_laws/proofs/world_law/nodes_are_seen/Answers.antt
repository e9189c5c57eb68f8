use Rattle.run_laws.proofs.world_law.nodes_are_seen.Goals as goal

pub returns : goal.returns
returns c =
    let asking = c.clients_ask_for_their_call.ensures in
    let manager = c.manager_events_are_seen.ensures in
    let other = c.other_events_are_seen.ensures in
    record {
      starts_asking = asking.start;
      keeps_asking = asking.events;
      client = c.client_events_are_seen.ensures.events;
      first_manager = manager.start;
      manager = manager.events;
      begins = other.start;
      registry = other.events;
      server = other.servers;
      cleaner_starts = other.cleaner_start;
      cleaner = other.cleaner;
    }
