use Rattle.log_law.proofs.below.Goals as goal

pub returns : goal.returns
returns c = record {
  machines = record {
    inputs = c.log_inputs.ensures;
    opens = c.opening_inputs.ensures.opens;
    opening = c.opening_inputs.ensures.takes;
    scans = c.scan_inputs.ensures.takes;
    stays = c.scan_inputs.ensures.stays;
    deeds = c.shelf_deeds.ensures;
  };
  logs = record { next = c.flight_is_next.ensures; rises = c.end_rises_by_one.ensures; due = c.settles_what_is_due.ensures };
  protocol = record {
    book = c.all_is_in_order.ensures.book;
    shelves = c.all_is_in_order.ensures.shelves;
    owner = c.all_is_in_order.ensures.owner;
    horizons = c.all_is_in_order.ensures.horizons;
    head = c.end_is_head.ensures.head;
    whole = c.logs_whole.ensures.whole;
    goes_on = c.runs_go_on.ensures.reached;
    line = c.one_line.ensures.line;
    adopts = c.what_reopening_adopts.ensures.adopted;
    new = c.names_are_new.ensures.new;
    earned = c.hurt_is_earned.ensures.earned;
    lacks = c.lacks_between.ensures.lacks;
    past = c.past_stays.ensures.stays;
  };
}
