-- The abstract state of one log: the names of its segments, the shelves of the servers, and its owner.
-- A name is a number above 0, the code of a segment's seq, its writer's incarnation and the attempt; 0 is no name. Flags are 0 or 1.
-- A ghost is kept for the proof alone: no transition looks at it, and a guard that names one states a fact from elsewhere.
use Rattle.std.specs.Prelude.{◌≡◌, ℕ, List, []}
use Rattle.log_protocol.specs.Phase
use Rattle.log_protocol.specs.Packets.{StorePacket, StoredPacket, FragmentPacket, FencedPacket}

pub record State : Type 0 where
  -- what a name says; never changes
  pub seq_of : ℕ → ℕ
  pub incarnation_of : ℕ → ℕ
  pub attempt_of : ℕ → ℕ
  -- how many servers there are: they are 0 .. servers - 1
  pub servers : ℕ
  -- each server's generation: its own, as the registry knows it, and as the owner's map has it
  pub generation : ℕ → ℕ
  pub registry_generation : ℕ → ℕ
  pub owner_generation : ℕ → ℕ
  -- the shelves, by server and name: whether a fragment is held, the text of the segment that it was cut from, its index, and whether the name is
  -- marked as deleted
  pub holds : ℕ → ℕ → ℕ
  pub kept_text : ℕ → ℕ → ℕ
  pub kept_index : ℕ → ℕ → ℕ
  pub marked : ℕ → ℕ → ℕ
  -- the book: the names that were ever given to a segment, and each one's text, group (members by index, with server and generation) and prior
  pub booked : ℕ → ℕ
  pub text_of : ℕ → ℕ
  pub member_count : ℕ → ℕ
  pub member_server : ℕ → ℕ → ℕ
  pub member_generation : ℕ → ℕ → ℕ
  pub prior_of : ℕ → ℕ
  -- what a booked segment tells of blocks, as a number; 0 is nothing, as in an opening segment
  pub content_of : ℕ → ℕ
  -- ghost: the content of the segments of a seq and an incarnation
  pub content_at : ℕ → ℕ → ℕ
  -- ghost: the least horizon when the name was booked
  pub low_when_booked : ℕ → ℕ
  -- ghost, by name and index: this member was once seen to hold its fragment, or to be of a later generation
  pub secured : ℕ → ℕ → ℕ
  pub filed : ℕ → ℕ
  pub dropped : ℕ → ℕ
  -- packets that were sent
  pub stores : List StorePacket
  pub storeds : List StoredPacket
  pub fragments : List FragmentPacket
  pub fenceds : List FencedPacket
  -- the owner: its boot, and its phase, one of those in `Phase`
  pub incarnation : ℕ
  pub phase : ℕ
  -- the newest segment that this boot filed or adopted, the one in flight, and the members of that one that are noted as stored
  pub end : ℕ
  pub flight : ℕ
  pub noted : ℕ → ℕ
  -- an opening: the name that it builds on, the seq of its opening segment, and the least horizon that it took last
  pub base : ℕ
  pub opening_seq : ℕ
  pub read_low : ℕ
  -- ghost: the least horizon by which the last opening picked
  pub pick_low : ℕ
  -- the feed of a serving owner: by seq the segment whose deltas it has, for every seq above feed_base
  pub feed : ℕ → ℕ
  pub feed_base : ℕ
  -- ghost: the filed segment of each seq up to head, and the last boot that served
  pub line : ℕ → ℕ
  pub head : ℕ
  pub served : ℕ
  -- the least horizon of the log: what is below it, checkpoints cover
  pub low : ℕ
  -- ghost: the least horizon at the last Begin of a restart, at the first Begin of the span, and the one that the last opening that served took last
  pub begin_low : ℕ
  pub span_low : ℕ
  pub line_low : ℕ
  -- ghost: 1 where an opening segment was booked since the last boot that served
  pub spanning : ℕ
  -- ghost: 1 where no opening has served while the premise on losses failed
  pub clean : ℕ
  -- ghost: the members of the head that lacked their fragment, at a later generation, since the span began and while the head wasn't dropped
  pub hurt : ℕ → ℕ

-- No two names say the same, and 0 has no seq.
pub record Names (seq_of incarnation_of attempt_of : ℕ → ℕ) : Type 0 where
  pub apart : (x y : ℕ) → seq_of x ≡ seq_of y → incarnation_of x ≡ incarnation_of y → attempt_of x ≡ attempt_of y → x ≡ y
  pub none : seq_of 0 ≡ 0

-- A new log: every server of generation 1 and empty, an owner of incarnation 1 that serves, nothing booked.
abbrev pub new_log : ℕ → (ℕ → ℕ) → (ℕ → ℕ) → (ℕ → ℕ) → State
new_log servers seq_of incarnation_of attempt_of = record {
  seq_of = seq_of;
  incarnation_of = incarnation_of;
  attempt_of = attempt_of;
  servers = servers;
  generation = λ v. 1;
  registry_generation = λ v. 1;
  owner_generation = λ v. 1;
  holds = λ v x. 0;
  kept_text = λ v x. 0;
  kept_index = λ v x. 0;
  marked = λ v x. 0;
  booked = λ x. 0;
  text_of = λ x. 0;
  member_count = λ x. 0;
  member_server = λ x i. 0;
  member_generation = λ x i. 0;
  prior_of = λ x. 0;
  content_of = λ x. 0;
  content_at = λ q c. 0;
  low_when_booked = λ x. 0;
  secured = λ x i. 0;
  filed = λ x. 0;
  dropped = λ x. 0;
  stores = [];
  storeds = [];
  fragments = [];
  fenceds = [];
  incarnation = 1;
  phase = Phase.serving;
  end = 0;
  flight = 0;
  noted = λ i. 0;
  base = 0;
  opening_seq = 1;
  read_low = 1;
  pick_low = 1;
  feed = λ q. 0;
  feed_base = 0;
  line = λ q. 0;
  head = 0;
  served = 1;
  low = 1;
  begin_low = 1;
  span_low = 1;
  line_low = 1;
  spanning = 0;
  clean = 1;
  hurt = λ i. 0;
}
