use Rattle.run_laws.proofs.place_law.place_laws.Goals as goal

pub returns : goal.returns
returns c = record {
  takeovers_read_texts = c.what_is_read_is_the_text.ensures.takeovers;
  hands_read_texts = c.what_is_read_is_the_text.ensures.hands;
  fetches_read_there = c.a_fetch_reads_there.ensures.there;
  runs_read_their_fetches = c.a_fetch_reads_there.ensures.runs;
  checks_are_of_rows = c.a_live_tells_a_copy.ensures.rows;
  lives_tell_copies = c.a_live_tells_a_copy.ensures.copies;
  runs_answer = c.lives_answer_checks.ensures.runs;
}
