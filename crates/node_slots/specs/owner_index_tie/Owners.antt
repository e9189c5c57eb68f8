-- How the owner of a log, a client or the cleaner, is seen in the small world of one slot's index, what it tells, and what a reopening of its log is owed.
use Rattle.std.specs.Prelude.{◌≡◌, ℕ, suc, ◌+◌, ◌<◌, ◌≤◌, List, [], ◌∷◌, Some, length}
use Rattle.std.specs.List.{AllByRecursion}
use Rattle.client_log.specs.LogState.{LogState}
use Rattle.delta_feed.specs.FeedState.{FeedState}
use Rattle.headline.specs.Filed.{Filed, Texts, rows_at}
use Rattle.index_tie.specs.Net.{Net}
use Rattle.log_flight.specs.Flights.{FlightState}
use Rattle.log_owner.specs.declared.opening.Opening.{Opening}
use Rattle.log_owner.specs.declared.opening.Settling.{Settling}
use Rattle.log_owner.specs.declared.opening.Stage.{Stage}
use Rattle.log_owner.specs.declared.opening.Stage.TheVariants as stage
use Rattle.node_base.specs.declared.effects.Effect.{Effect}
use Rattle.node_base.specs.declared.effects.Effect.TheVariants.{Send}
use Rattle.node_slots.specs.node_index_tie.OwnerEvents.{FeedSeen}
use Rattle.node_slots.specs.node_index_tie.Pages.{FlightIsText}
use Rattle.node_slots.specs.node_index_tie.Sight.{RowsFit, DeltasKnown, EndKnown}
use Rattle.segment_format.specs.Rows.{rows_of}
use Rattle.segment_format.specs.declared.segment.Segment.{Segment}
use Rattle.token_protocol.specs.Basics.{In as Among}
use Rattle.wire_msg.specs.declared.body.Body.{Body}
use Rattle.wire_msg.specs.declared.body.Body.TheVariants as body
use Rattle.xfs_base.specs.Limits.{u32_end}
use Rattle.xfs_base.specs.declared.segment.End.{End}

-- ---- the log

-- A log and its flight bear the log's number, and what is in flight has the number after the end.
pub record LogNext (l : ℕ) (s : LogState) : Type 0 where
  pub own : s.log ≡ record { 0 = l }
  pub of : (f : FlightState) → s.flight ≡ Some f → f.segment.name.log ≡ s.log
  pub next : (f : FlightState) → s.flight ≡ Some f → f.segment.name.seq ≡ suc s.end.seq

module _ (part : ℕ) (n : Net) (l : ℕ) where
  -- an end is the log's last filed segment
  pub record IsLastFiled (end : End) : Type 0 where
    pub seq : end.seq ≡ n.filed.head l
    pub pass : 0 < n.filed.head l → end.pass ≡ (n.filed.segment l (n.filed.head l)).name.pass

  -- what is filed of the log fits its types, and the log isn't at its last number
  pub record LogFits : Type 0 where
    pub fit : (q : ℕ) → RowsFit (rows_at n.filed l q)
    pub short : n.filed.head l < u32_end

  -- A serving owner of the log has its last filed segment as its end, and its feed was told of what is filed.
  pub record OwnerSeen (number : ℕ) (state : LogState) (its : FeedState) : Type 0 where
    pub number_is : number ≡ l
    pub log : LogNext l state
    pub end : IsLastFiled state.end
    pub feed : FeedSeen part n l its

-- ---- a reopening

-- while the opening segment is in flight nothing else waits, and it says nothing
pub record SettlingSeen (l : ℕ) (s : Settling) : Type 0 where
  pub log : LogNext l s.log
  pub nothing_waits : s.log.dirty ≡ []
  pub empty : (f : FlightState) → s.log.flight ≡ Some f → f.segment.items ≡ []

abbrev pub StageSeen : ℕ → Stage → Type 0
StageSeen l (stage.Scanning s) = Unit {0}
StageSeen l (stage.Settling s) = SettlingSeen l s

pub record OpeningSeen (l : ℕ) (o : Opening) : Type 0 where
  pub own : o.known.owner.log ≡ record { 0 = l }
  pub stage : StageSeen l o.stage

-- what is in flight is the text of its name
abbrev pub StageWrites : Texts → Stage → Type 0
StageWrites texts (stage.Scanning s) = Unit {0}
StageWrites texts (stage.Settling s) = FlightIsText texts s.log

-- the numbers of these segments follow one another, from this one on
abbrev pub NumberedFrom : ℕ → List Segment → Type 0
NumberedFrom first [] = Unit {0}
NumberedFrom first (s ∷ segments) = (s.name.seq ≡ first) × NumberedFrom (suc first) segments

-- What a reopening read back is what the log filed from the horizon on, and what it adopts behind that: its numbers follow one another, from one that isn't
-- above the horizon up to the end behind which the opening segment was written; each segment is the text of its name; those of filed numbers are the filed
-- ones, and all that is filed was read.
pub record ReadBack (texts : Texts) (l : ℕ) (f : Filed) (low end : ℕ) (chain : List Segment) : Type 0 where
  pub first : ℕ
  pub numbers : NumberedFrom first chain
  pub from : first ≤ low
  pub to : first + length chain ≡ suc end
  pub some : 0 < low
  pub horizon : low ≤ suc (f.head l)
  pub reaches : f.head l ≤ end
  pub filed : (s : Segment) → Among s chain → low ≤ s.name.seq → s.name.seq ≤ f.head l → s ≡ f.segment l s.name.seq
  pub named : AllByRecursion (λ s. s ≡ texts s.name) chain
  pub fits : AllByRecursion (λ s. RowsFit (rows_of s)) chain

-- what the end of an opening is owed
abbrev pub EndOwed : Texts → ℕ → Filed → Stage → Type 0
EndOwed texts l f (stage.Scanning s) = Unit {0}
EndOwed texts l f (stage.Settling s) = ReadBack texts l f s.low s.log.end.seq s.chain

-- ---- what is told

module _ (part : ℕ) (n : Net) (l since : ℕ) where
  -- the end of the log that is told is its last filed segment, of some moment from that on at which this number was
  pub record EndTold (end : ℕ) : Type 0 where
    pub late : since ≤ end
    pub filed : end ≤ n.filed.head l

  -- What the owner tells of its log: Deltas of the slot, ends that it reports to the slot's manager, and ends that go with wants and with what is given up.
  abbrev pub OwnerSays : Body → Type 0
  OwnerSays (body.Deltas m) = m.slot ≡ part → DeltasKnown part n l m
  OwnerSays (body.Report m) = (m.slot ≡ part → EndKnown part n m.epoch l m.end) × EndTold m.end.seq
  OwnerSays (body.Want m) = EndTold m.end
  OwnerSays (body.Gave m) = EndTold m.end
  OwnerSays _ = Unit {0}

  abbrev pub OwnerDoes : Effect → Type 0
  OwnerDoes (Send to m) = OwnerSays m
  OwnerDoes _ = Unit {0}
