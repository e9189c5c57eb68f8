-- The schedule by which one thread plays a script: which packet comes next, and when time passes. Packets are known by numbers.
use Rattle.std.specs.Prelude.{ℕ, ◌+◌, ◌-◌, ◌*◌, ◌%◌, Bool, true, false, List, [], ◌∷◌, ◌++◌, drop, length, slice_index, nat_lt, ◌==◌, ◌||◌, Option, Some, None, if◌then◌else◌}
use Rattle.std.specs.List.{remove}
use Rattle.xfs_base.specs.Draws.{next_number, drawn}
use Rattle.xfs_base.specs.Limits.{max_deliveries}
use Rattle.version_model.specs.declared.work.Work.{Work}
use Rattle.version_model.specs.declared.work.Work.TheVariants as works
use Rattle.world_base.specs.declared.schedule.Next.{Next}
use Rattle.world_base.specs.declared.schedule.Next.TheVariants.{Deliver, Round, Done}

-- the packets on their way, the oldest first; how many of the next are lost, and how many deliveries repeated; the number of
-- which the order is drawn, where it is; whether the packets are held back; and how many deliveries and rounds are left for the
-- line in hand
pub record ScheduleState : Type 0 where
  pub queue : List ℕ
  pub lose : ℕ
  pub again : ℕ
  pub mixer : Option ℕ
  pub holding : Bool
  pub deliveries : ℕ
  pub rounds : ℕ

-- before the first line nothing is on its way
abbrev pub schedule_start : ScheduleState
schedule_start = record { queue = []; lose = 0; again = 0; mixer = None; holding = false; deliveries = 0; rounds = 0 }

-- a packet is sent: it is on its way, or one of those that are lost
unfoldable pub schedule_send : ScheduleState → ℕ → ScheduleState
schedule_send s number =
    if nat_lt 0 s.lose
    then record s { lose = s.lose - 1 }
    else record s { queue = s.queue ++ number ∷ [] }

-- a packet was delivered: it is on its way once more, where deliveries are repeated
unfoldable pub repeated : ScheduleState → ℕ → ScheduleState
repeated s number =
    if nat_lt 0 s.again
    then record s { again = s.again - 1; queue = s.queue ++ number ∷ [] }
    else s

-- so many deliveries may be made for the line in hand, and so many rounds
abbrev pub make_room : ℕ → ℕ → ScheduleState → ScheduleState
make_room deliveries rounds s = record s { deliveries = deliveries; rounds = rounds }

-- the queue is drained: as many deliveries as a line may have, and rounds by what is lost and unanswered
abbrev pub schedule_drain : ℕ → ScheduleState → ScheduleState
schedule_drain unanswered s = make_room max_deliveries (40 + s.lose + 4 * unanswered) s

-- an item was begun: the queue is drained, unless the packets are held back
unfoldable pub item_begun : ℕ → ScheduleState → ScheduleState
item_begun unanswered s = if s.holding then make_room 0 0 s else schedule_drain unanswered s

-- the number of which the order is drawn: 0 ends it
abbrev pub mixer_of : ℕ → Option ℕ
mixer_of number = if number == 0 then None else Some number

-- a line that is no item
unfoldable pub schedule_take : Work → ℕ → ScheduleState → ScheduleState
schedule_take (works.NetLose count) unanswered s = record (make_room 0 0 s) { lose = count }
schedule_take (works.NetAgain count) unanswered s = record (make_room 0 0 s) { again = count }
schedule_take (works.NetMix number) unanswered s = record (make_room 0 0 s) { mixer = mixer_of number }
schedule_take works.NetHold unanswered s = record (make_room 0 0 s) { holding = true }
schedule_take works.NetGo unanswered s = schedule_drain unanswered (record s { holding = false })
schedule_take (works.NetStep count) unanswered s = make_room count 0 s
schedule_take work unanswered s = make_room 0 0 s

abbrev pub is_done : Next → Bool
is_done (Deliver number) = false
is_done Round = false
is_done Done = true

-- what comes next, and the schedule then
pub record Going : Type 0 where
  pub next : Next
  pub state : ScheduleState

-- a delivery is made
abbrev pub delivery_made : ScheduleState → ScheduleState
delivery_made s = record s { deliveries = s.deliveries - 1 }

-- the place of a packet that is drawn, among so many, with the number of the last draw
abbrev pub drawn_place : ℕ → ℕ → ℕ
drawn_place x count = drawn (next_number x) % count

-- the oldest packet comes next, or, with a mixer, one that is drawn
abbrev pub delivers : Option ℕ → ScheduleState → Going
delivers None s = record {
  next = Deliver (slice_index s.queue 0);
  state = delivery_made (record s { queue = drop 1 s.queue });
}
delivers (Some x) s = record {
  next = Deliver (slice_index s.queue (drawn_place x (length s.queue)));
  state = delivery_made (record s { queue = remove s.queue (drawn_place x (length s.queue)); mixer = Some (next_number x) });
}

-- the line is done
abbrev pub done : ScheduleState → Going
done s = record { next = Done; state = s }

-- nothing is on its way: time passes where an item is unanswered, as often as it may
abbrev pub schedule_pass : ℕ → ScheduleState → Going
schedule_pass unanswered s =
    if (unanswered == 0) || (s.rounds == 0) then done s
    else record { next = Round; state = record s { rounds = s.rounds - 1 } }

-- what comes next for the line in hand
unfoldable pub schedule_next : ℕ → ScheduleState → Going
schedule_next unanswered s =
    if length s.queue == 0 then schedule_pass unanswered s
    else if s.deliveries == 0 then done s
    else delivers s.mixer s

-- how much may still happen for the line in hand: it falls by one with each thing that does
abbrev pub left : ScheduleState → ℕ
left s = s.deliveries + s.rounds
