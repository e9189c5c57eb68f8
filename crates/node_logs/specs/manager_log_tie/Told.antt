-- What was stored and told of a log, as its small world has it: bytes, of segments that have a text. So what comes of a segment to whoever reads it is in
-- range.
use Rattle.std.specs.Prelude.{ℕ}
use Rattle.xfs_base.specs.declared.fragment.Fragment.{Fragment}
use Rattle.segment_format.specs.declared.segment.Segment.{Segment}
use Rattle.stripe_code.specs.Stripe.{IsBytes}
use Rattle.log_protocol.specs.Tables.{In}
use Rattle.log_tie.specs.Setting.{Setting}
use Rattle.log_law.specs.Net.{Net}
use Rattle.log_law.specs.Net.Packet.{StoreSent, FragmentSent}
use Rattle.log_law.specs.Events.{IsWritten}
use Rattle.log_law.specs.Laws.{Moment}

-- each segment that was in flight has a text, and each fragment that was sent to be stored, or as what is held, is bytes
pub record IsToldInRange (n : Net) : Type 0 where
  pub written : (s : Segment) → In s n.flown → IsWritten s
  pub stored : (v generation : ℕ) (f : Fragment) → In (StoreSent v f generation) n.sent → IsBytes f.bytes
  pub told : (f : Fragment) → In (FragmentSent f) n.sent → IsBytes f.bytes

-- so it is at each moment of every run of the small world of a log
abbrev pub WhatIsToldIsInRange : Type 0
WhatIsToldIsInRange = (g : Setting) (n : Net) → Moment g n → IsToldInRange n
