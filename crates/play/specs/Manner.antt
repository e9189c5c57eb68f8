-- How the lines of a script are played by the schedule, in a play of any kind: a line opens, and then what the schedule says comes next comes, until the
-- line is done.
use Rattle.std.specs.Prelude.{◌≡◌, ℕ, zero, suc}
use Rattle.std.specs.List.{fold}
use Rattle.script_text.specs.declared.script.Line.{Line}
use Rattle.version_model.specs.declared.work.Work.{Work}
use Rattle.world_base.specs.declared.cluster.Cluster.{Cluster}
use Rattle.world_base.specs.declared.schedule.Next.{Next}
use Rattle.world_base.specs.declared.schedule.Next.TheVariants as next
use Rattle.world_base.specs.Cluster.{nodes_of}
use Rattle.world_base.specs.Schedule.{Going, ScheduleState, schedule_next, left}
use Rattle.xfs_base.specs.declared.node.NodeId.{NodeId}

-- what such a play is to the schedule
pub record Manner (P : Type 0) : Type 0 where
  pub schedule : P → ScheduleState
  pub with_schedule : P → ScheduleState → P
  -- how many items were begun and have no answer
  pub unanswered : P → ℕ
  pub cluster : P → Cluster
  -- what was sent as this number is delivered
  pub delivered : P → ℕ → P
  -- time passes at a node
  pub ticks : P → NodeId → P
  -- what a line asks for itself
  pub opens : P → Work → P

module _ {P : Type 0} (m : Manner P) where
  abbrev pub unanswered_in : P → ℕ
  unanswered_in p = m.unanswered p

  -- what the schedule says comes next, and the schedule then
  abbrev pub what_next : P → Going
  what_next p = schedule_next (m.unanswered p) (m.schedule p)

  -- time passes at every node, in their order
  unfoldable pub playing_round : P → P
  playing_round p = fold m.ticks p (nodes_of (m.cluster p))

  -- what comes next happens
  abbrev pub playing_come : P → Next → P
  playing_come p (next.Deliver number) = m.delivered p number
  playing_come p next.Round = playing_round p
  playing_come p next.Done = p

  abbrev pub goes_by : P → Going → P
  goes_by p going = playing_come (m.with_schedule p going.state) going.next

  -- what the schedule says comes next happens, so many times; once the line is done nothing more does
  unfoldable pub goes_on : ℕ → P → P
  goes_on zero p = p
  goes_on (suc count) p = goes_on count (goes_by p (what_next p))

  -- all that the schedule says happens for the line in hand
  unfoldable pub playing_go : P → P
  playing_go p = goes_on (left (m.schedule p)) p

  unfoldable pub play_line : P → Line → P
  play_line p line = playing_go (m.opens p line.work)

-- What each such play keeps to: its schedule and all else are apart, and what is delivered and time that passes leave as much to happen for the line as there
-- was.
pub record IsLawful {P : Type 0} (m : Manner P) : Type 0 where
  pub told : (p : P) (s : ScheduleState) → m.schedule (m.with_schedule p s) ≡ s
  pub as_it_was : (p : P) → m.with_schedule p (m.schedule p) ≡ p
  pub as_many : (p : P) (s : ScheduleState) → m.unanswered (m.with_schedule p s) ≡ m.unanswered p
  pub delivery_keeps : (p : P) (number : ℕ) → left (m.schedule (m.delivered p number)) ≡ left (m.schedule p)
  pub tick_keeps : (p : P) (node : NodeId) → left (m.schedule (m.ticks p node)) ≡ left (m.schedule p)
