use Rattle.run_laws.proofs.world_lines.line_laws.Goals as goal

pub returns : goal.returns
returns c =
    let owed = c.what_is_filed_is_owed.ensures in
    let flew = c.what_is_filed_flew.ensures in
    let own = c.owners_lines_go_on.ensures in
    let linked = c.logs_are_linked.ensures in
    record {
      lines = record {
        lines_give = c.lines_are_filed.ensures.give;
        lines_begin = c.lines_go_on.ensures.begin;
        lines_stay = c.lines_go_on.ensures.stay;
        lines_go_on = c.lines_go_on.ensures.go_on;
        acts_are_done = own.acts;
        cleaner_files_short = own.cleaner_short;
        straight_files_still = own.straight;
        present_is_linked = linked.present;
      };
      filing = record {
        clients_files_are_owed = owed.client;
        cleaners_files_are_owed = owed.cleaner;
        what_is_filed_flew = flew.filed;
        openings_file_what_flew = flew.openings;
        clients_file_their_flights = flew.clients;
        cleaner_files_its_flights = flew.cleaner;
        clients_acts_file = c.what_is_acted_is_filed.ensures.clients;
        servers_go_on_by_flights = linked.files;
      };
    }
