-- What is proved of each state of a run beside the great laws: facts that are small, and that a proof about real nodes reads off this machine.
use Rattle.std.specs.Prelude.{◌≡◌, ℕ, suc, ◌<◌, ◌≤◌}
use Rattle.log_protocol.specs.Phase
use Rattle.log_protocol.specs.Tables.{In}
use Rattle.log_protocol.specs.Packets.{StorePacket, FragmentPacket, FencedPacket}
use Rattle.log_protocol.specs.State.{State}

-- The book is in order: what a booked name, its group and its prior are.
pub record BookInOrder (w : State) : Type 0 where
  -- 0 is no name, and seqs begin at 1
  pub named : (x : ℕ) → w.booked x ≡ 1 → 0 < x
  pub seq_some : (x : ℕ) → w.booked x ≡ 1 → 0 < w.seq_of x
  -- no name is of a boot to come
  pub boot : (x : ℕ) → w.booked x ≡ 1 → w.incarnation_of x ≤ w.incarnation
  -- a group has a member, its members are servers that there are, no server twice, each of a generation that it has reached
  pub some_member : (x : ℕ) → w.booked x ≡ 1 → 0 < w.member_count x
  pub server_known : (x i : ℕ) → w.booked x ≡ 1 → i < w.member_count x → w.member_server x i < w.servers
  pub distinct : (x i j : ℕ) → w.booked x ≡ 1 → i < w.member_count x → j < w.member_count x → w.member_server x i ≡ w.member_server x j → i ≡ j
  pub member_known : (x i : ℕ) → w.booked x ≡ 1 → i < w.member_count x → w.member_generation x i ≤ w.generation (w.member_server x i)
  -- a prior is booked, of the seq before and of no later boot
  pub prior_booked : (x : ℕ) → w.booked x ≡ 1 → 0 < w.prior_of x → w.booked (w.prior_of x) ≡ 1
  pub prior_seq : (x : ℕ) → w.booked x ≡ 1 → 0 < w.prior_of x → suc (w.seq_of (w.prior_of x)) ≡ w.seq_of x
  pub prior_boot : (x : ℕ) → w.booked x ≡ 1 → 0 < w.prior_of x → w.incarnation_of (w.prior_of x) ≤ w.incarnation_of x
  -- names of one seq and one boot tell one thing
  pub one_content : (x y : ℕ) → w.booked x ≡ 1 → w.booked y ≡ 1 → w.seq_of x ≡ w.seq_of y → w.incarnation_of x ≡ w.incarnation_of y
      → w.content_of x ≡ w.content_of y
  -- what is filed is booked, and so is what is dropped, which is below the least horizon
  pub filed_booked : (x : ℕ) → w.filed x ≡ 1 → w.booked x ≡ 1
  pub dropped_booked : (x : ℕ) → w.dropped x ≡ 1 → w.booked x ≡ 1
  pub dropped_below : (x : ℕ) → w.dropped x ≡ 1 → w.seq_of x < w.low

-- The shelves and the packets are in order: what is held, marked, stored, told and listed.
pub record ShelvesInOrder (w : State) : Type 0 where
  -- a held fragment is of a booked name, at the index of its server in the group
  pub held_flag : (v x : ℕ) → w.holds v x ≤ 1
  pub held_booked : (v x : ℕ) → w.holds v x ≡ 1 → w.booked x ≡ 1
  pub held_index : (v x : ℕ) → w.holds v x ≡ 1 → w.kept_index v x < w.member_count x
  pub held_member : (v x : ℕ) → w.holds v x ≡ 1 → w.member_server x (w.kept_index v x) ≡ v
  -- only what was dropped is marked as deleted
  pub marked_dropped : (v x : ℕ) → w.marked v x ≡ 1 → w.dropped x ≡ 1
  -- the owner's map is no newer than the registry's, and that no newer than the servers
  pub owner_known : (v : ℕ) → w.owner_generation v ≤ w.registry_generation v
  pub registry_known : (v : ℕ) → w.registry_generation v ≤ w.generation v
  -- a Store is of a booked name, for a member of its group, to that member's server in that member's generation; a Fragment is of a booked name
  pub store_booked : (p : StorePacket) → In p w.stores → w.booked p.name ≡ 1
  pub store_index : (p : StorePacket) → In p w.stores → p.index < w.member_count p.name
  pub store_to : (p : StorePacket) → In p w.stores → p.to ≡ w.member_server p.name p.index
  pub store_generation : (p : StorePacket) → In p w.stores → p.generation ≡ w.member_generation p.name p.index
  pub fragment_booked : (p : FragmentPacket) → In p w.fragments → w.booked p.name ≡ 1
  -- a Fenced is for a boot that has begun, of a generation that its sender has reached, and its horizon is past; what it lists is booked
  pub fenced_boot : (p : FencedPacket) → In p w.fenceds → p.incarnation ≤ w.incarnation
  pub fenced_generation : (p : FencedPacket) → In p w.fenceds → p.generation ≤ w.generation p.from
  pub fenced_low : (p : FencedPacket) → In p w.fenceds → p.low ≤ w.low
  pub list_flag : (p : FencedPacket) (x : ℕ) → In p w.fenceds → p.listed x ≤ 1
  pub listed_booked : (p : FencedPacket) (x : ℕ) → In p w.fenceds → p.listed x ≡ 1 → w.booked x ≡ 1

-- The owner is in order: how its boot, its end, its flight and its opening stand to one another.
pub record OwnerInOrder (w : State) : Type 0 where
  pub phase_rank : w.phase ≤ Phase.serving
  -- who serves is the last boot that served; who opens its log is a later one
  pub serving : w.phase ≡ Phase.serving → w.incarnation ≡ w.served
  pub opening : Phase.down < w.phase → w.phase < Phase.serving → w.served < w.incarnation
  -- a flight is a booked name of this boot; a serving owner's comes after its end
  pub flight_phase : 0 < w.flight → Phase.writing ≤ w.phase
  pub flight_booked : 0 < w.flight → w.booked w.flight ≡ 1
  pub flight_boot : 0 < w.flight → w.incarnation_of w.flight ≡ w.incarnation
  pub flight_seq : 0 < w.flight → w.phase ≡ Phase.serving → w.seq_of w.flight ≡ suc (w.seq_of w.end)
  pub flight_prior : 0 < w.flight → w.phase ≡ Phase.serving → w.prior_of w.flight ≡ w.end
  pub end_booked : w.phase ≡ Phase.serving → 0 < w.end → w.booked w.end ≡ 1
  -- an opening segment is in flight while it is written; it comes after its base and tells nothing
  pub opening_flight : w.phase ≡ Phase.writing → 0 < w.flight
  pub opening_seq : w.phase ≡ Phase.writing → w.seq_of w.flight ≡ w.opening_seq
  pub opening_prior : w.phase ≡ Phase.writing → w.prior_of w.flight ≡ w.base
  pub opening_empty : w.phase ≡ Phase.writing → w.content_of w.flight ≡ 0
  -- a base is booked, of an earlier boot and of the seq before; an opening without one reads nothing back
  pub opening_some : Phase.reading ≤ w.phase → w.phase ≤ Phase.writing → 0 < w.opening_seq
  pub base_booked : Phase.reading ≤ w.phase → w.phase ≤ Phase.writing → 0 < w.base → w.booked w.base ≡ 1
  pub base_seq : Phase.reading ≤ w.phase → w.phase ≤ Phase.writing → 0 < w.base → suc (w.seq_of w.base) ≡ w.opening_seq
  pub base_boot : Phase.reading ≤ w.phase → w.phase ≤ Phase.writing → 0 < w.base → w.incarnation_of w.base < w.incarnation
  pub no_base : Phase.reading ≤ w.phase → w.phase ≤ Phase.writing → w.base ≡ 0 → w.opening_seq ≤ w.pick_low

-- Horizons are in order: those that are remembered are past, and stand as their moments do.
pub record HorizonsInOrder (w : State) : Type 0 where
  pub low_some : 1 ≤ w.low
  pub begin_some : 1 ≤ w.begin_low
  pub begin_past : w.begin_low ≤ w.low
  pub span_before : w.span_low ≤ w.begin_low
  pub pick_after : Phase.reading ≤ w.phase → w.phase ≤ Phase.writing → w.begin_low ≤ w.pick_low
  pub pick_before : Phase.reading ≤ w.phase → w.phase ≤ Phase.writing → w.pick_low ≤ w.read_low
  pub read_past : Phase.reading ≤ w.phase → w.phase ≤ Phase.writing → w.read_low ≤ w.low

-- The end is the head: in every phase the end of a clean log is the head of its line, and the filed segments are just those of the line.
pub record EndIsHead (w : State) : Type 0 where
  pub its_end : w.end ≡ w.line w.head
  pub end_seq : w.seq_of w.end ≡ w.head
  -- before seq 1 there is nothing
  pub line_none : w.line 0 ≡ 0
  -- a filed segment is on the line, no later than its head
  pub filed_line : (x : ℕ) → w.filed x ≡ 1 → w.line (w.seq_of x) ≡ x
  pub filed_head : (x : ℕ) → w.filed x ≡ 1 → w.seq_of x ≤ w.head
  -- and what is on the line is filed, at its seq
  pub line_filed : (q : ℕ) → 0 < q → q ≤ w.head → w.filed (w.line q) ≡ 1
  pub line_seq : (q : ℕ) → 0 < q → q ≤ w.head → w.seq_of (w.line q) ≡ q
  -- filed segments are of boots that have served, and the head of the last one
  pub line_boot : (x : ℕ) → w.filed x ≡ 1 → w.incarnation_of x ≤ w.served
  pub head_boot : 0 < w.head → w.incarnation_of (w.line w.head) ≡ w.served
  -- the least horizon is no further than one above the head
  pub low_head : w.low ≤ suc w.head

-- A member of the head that is still of the generation that its group names isn't hurt.
abbrev pub OriginalUnhurt : State → Type 0
OriginalUnhurt w =
    (i : ℕ) → 0 < w.head → i < w.member_count (w.line w.head) → w.member_generation (w.line w.head) i ≡ w.generation (w.member_server (w.line w.head) i)
    → w.hurt i ≡ 0
