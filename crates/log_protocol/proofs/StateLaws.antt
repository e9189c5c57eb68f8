-- The small facts of a state, drawn from the invariant.
use Rattle.std.proofs.Common.{◌≡◌, sym, ap, ◌∙◌, arith}
use Rattle.log_protocol.specs.State.{State}
use Rattle.log_protocol.specs.LogLaws.{Reached}
use Rattle.log_protocol.specs.StateLaws.{BookInOrder, ShelvesInOrder, OwnerInOrder, HorizonsInOrder, EndIsHead, OriginalUnhurt}
use Rattle.log_protocol.proofs.Induction.{always}

pub book_always : (w : State) → Reached w → BookInOrder w
book_always w reached = let s = (always w reached).shelf in record {
  named = s.texts.booked_name;
  seq_some = s.priors.seq_some;
  boot = s.boots.booked_boot;
  some_member = s.texts.some_member;
  server_known = s.texts.server_known;
  distinct = s.texts.distinct;
  member_known = s.generations.member_known;
  prior_booked = s.priors.prior_booked;
  prior_seq = s.priors.prior_seq;
  prior_boot = s.priors.prior_boot;
  one_content =
      λ x y bx byy seq boot. s.contents.one_content x bx
      ∙ (ap (λ z. w.content_at z (w.incarnation_of x)) seq ∙ (ap (w.content_at (w.seq_of y)) boot ∙ sym (s.contents.one_content y byy)));
  filed_booked = s.filed.filed_booked;
  dropped_booked = λ x dropped. s.horizons.dropped_booked x (omega arith);
  dropped_below = λ x dropped. s.horizons.dropped_below x (omega arith);
}

pub shelves_always : (w : State) → Reached w → ShelvesInOrder w
shelves_always w reached = let s = (always w reached).shelf in record {
  held_flag = s.texts.held_flag;
  held_booked = s.texts.held_booked;
  held_index = s.texts.held_index;
  held_member = s.texts.held_member;
  marked_dropped = s.secured.marked_dropped;
  owner_known = s.generations.owner_known;
  registry_known = s.generations.registry_known;
  store_booked = s.texts.store_booked;
  store_index = s.texts.store_index;
  store_to = s.texts.store_to;
  store_generation = s.texts.store_generation;
  fragment_booked = s.texts.fragment_booked;
  fenced_boot = s.lists.fenced_boot;
  fenced_generation = s.generations.fenced_known;
  fenced_low = s.lists.fenced_low;
  list_flag = s.lists.list_flag;
  listed_booked = s.lists.listed_booked;
}

pub owner_always : (w : State) → Reached w → OwnerInOrder w
owner_always w reached = let s = (always w reached).shelf in record {
  phase_rank = s.boots.phase_rank;
  serving = s.boots.serving;
  opening = s.boots.not_yet_served;
  flight_phase = s.boots.flight_phase;
  flight_booked = s.boots.flight_booked;
  flight_boot = s.boots.flight_boot;
  flight_seq = s.boots.flight_seq;
  flight_prior = s.priors.flight_end;
  end_booked = s.priors.end_booked;
  opening_flight = s.boots.opening_flight;
  opening_seq = λ writing. let flying =
      s.boots.opening_flight writing in s.boots.opening_seq_alone w.flight writing (s.boots.flight_booked flying) (s.boots.flight_boot flying);
  opening_prior = s.priors.flight_base;
  opening_empty = s.contents.opening_empty;
  opening_some = s.priors.opening_some;
  base_booked = s.priors.base_booked;
  base_seq = s.priors.base_seq;
  base_boot = s.priors.base_boot;
  no_base = s.priors.no_base;
}

pub horizons_always : (w : State) → Reached w → HorizonsInOrder w
horizons_always w reached = let h = (always w reached).shelf.horizons in record {
  low_some = h.low_some;
  begin_some = h.begin_some;
  begin_past = h.begin_past;
  span_before = h.span_before;
  pick_after = h.pick_after;
  pick_before = h.pick_before;
  read_past = h.read_past;
}

pub end_is_head_always : (w : State) → Reached w → w.clean ≡ 1 → EndIsHead w
end_is_head_always w reached clean = let l = (always w reached).line clean in record {
  its_end = l.its_end;
  end_seq = ap w.seq_of l.its_end ∙ l.head_seq;
  line_none = l.line_none;
  filed_line = l.filed_line;
  filed_head = l.filed_head;
  line_filed = l.line_filed;
  line_seq = l.line_seq;
  line_boot = l.line_boot;
  head_boot = l.head_boot;
  low_head = l.low_head;
}

pub original_unhurt_always : (w : State) → Reached w → w.clean ≡ 1 → OriginalUnhurt w
original_unhurt_always w reached clean = ((always w reached).spans clean).original_unhurt
