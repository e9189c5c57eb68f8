-- How far logs are filed, and what nodes tell of it. A reach is, of each log, the greatest number of a segment of it that was filed, and 0 where none was.
use Rattle.std.specs.Prelude.{ℕ, suc, ◌≤◌, List, [], ◌∷◌, Option, Some, None}
use Rattle.std.specs.List.{AllByRecursion}
use Rattle.manager_serving.specs.Serving.{fed_log}
use Rattle.version_model.specs.declared.act.Act.{Act}
use Rattle.version_model.specs.declared.act.Act.TheVariants.{Filed}
use Rattle.wire_msg.specs.declared.body.Body.{Body}
use Rattle.wire_msg.specs.declared.body.Body.TheVariants as body
use Rattle.wire_msg.specs.declared.packet.Do.{Do}
use Rattle.wire_msg.specs.declared.packet.Do.TheVariants.{Begin, Deliver, Tick}
use Rattle.wire_msg.specs.declared.packet.Packet.{Packet}
use Rattle.wire_msg.specs.NodeStep.{NodeStep}
use Rattle.xfs_base.specs.declared.node.NodeId.{NodeId}
use Rattle.xfs_base.specs.declared.news.SlotNews.{SlotNews}
use Rattle.xfs_base.specs.declared.segment.LogId.{LogId}

abbrev pub Reach : Type 0
Reach = ℕ → ℕ

-- what is filed stays so: a later reach is no lower
abbrev pub Rises : Reach → Reach → Type 0
Rises reach later = (log : ℕ) → reach log ≤ later log

-- ---- acts

-- a segment that is acted to be filed is reached
abbrev pub ActReached : Reach → Act → Type 0
ActReached reach (Filed name) = name.seq ≤ reach name.log.0
ActReached reach _ = Unit {0}

abbrev pub ActsReach : Reach → List Act → Type 0
ActsReach reach acts = AllByRecursion (ActReached reach) acts

-- ---- lists by logs

-- a list has, of each log from this one on, a number that is at most this
abbrev pub NumbersUpto : Reach → ℕ → List ℕ → Type 0
NumbersUpto limit log [] = Unit {0}
NumbersUpto limit log (number ∷ numbers) = (number ≤ limit log) × NumbersUpto limit (suc log) numbers

-- nothing is applied, of logs 1 to 9, but what was filed
abbrev pub AppliedReaches : Reach → List ℕ → Type 0
AppliedReaches reach applied = NumbersUpto reach 1 applied

-- a horizon, of logs 1 to 9, is above nothing but what was filed
abbrev pub HorizonReaches : Reach → List ℕ → Type 0
HorizonReaches reach horizon = NumbersUpto (λ log. suc (reach log)) 1 horizon

abbrev pub SlotReaches : Reach → SlotNews → Type 0
SlotReaches reach slot = HorizonReaches reach slot.horizon

abbrev pub SlotsReach : Reach → List SlotNews → Type 0
SlotsReach reach slots = AllByRecursion (SlotReaches reach) slots

-- ---- packets

-- a number of a segment of this log is that of one that was filed, or a lower one
abbrev pub LogReaches : Reach → Option LogId → ℕ → Type 0
LogReaches reach None number = Unit {0}
LogReaches reach (Some log) number = number ≤ reach log.0

-- What a packet from this node tells was filed: of its own log the last segment of which it tells deltas, and the end that it reports; of all logs what
-- lies below the horizons that it names.
abbrev pub BodyTells : Reach → NodeId → Body → Type 0
BodyTells reach from (body.Deltas deltas) = LogReaches reach (fed_log from) deltas.upto
BodyTells reach from (body.Report report) = LogReaches reach (fed_log from) report.end.seq
BodyTells reach from (body.CkptDone done) = HorizonReaches reach done.horizon
BodyTells reach from (body.MapNews news) = SlotsReach reach news.slots
BodyTells reach from (body.Welcome welcome) = SlotsReach reach welcome.news.slots
BodyTells reach from _ = Unit {0}

abbrev pub PacketTells : Reach → Packet → Type 0
PacketTells reach packet = BodyTells reach packet.from packet.body

abbrev pub DoTells : Reach → Do → Type 0
DoTells reach Begin = Unit {0}
DoTells reach (Deliver packet) = PacketTells reach packet
DoTells reach Tick = Unit {0}

-- ---- the law of a kind of node

-- the node holds nothing beyond this reach, and each packet that it sends tells of nothing beyond it
pub record TellsFiled {N : Type 0} (Reaches : Reach → N → Type 0) (reach : Reach) (step : NodeStep N) : Type 0 where
  pub node : Reaches reach step.node
  pub packets : AllByRecursion (PacketTells reach) step.packets

-- what a node of this kind holds of what was filed it holds of what is filed later
abbrev pub ReachesRise : (N : Type 0) → (Reach → N → Type 0) → Type 0
ReachesRise N Reaches = (reach later : Reach) (node : N) → Rises reach later → Reaches reach node → Reaches later node

-- Each event of a node of this kind: where the node held, and the packet that comes told, of nothing beyond what was filed before, the node holds and tells
-- of nothing then beyond what was filed before and in the event.
abbrev pub EventsTellFiled : (N : Type 0) → (Reach → N → Type 0) → (N → Do → NodeStep N) → Type 0
EventsTellFiled N Reaches step =
    (reach later : Reach) (node : N) (what : Do) → Rises reach later → Reaches reach node → DoTells reach what → ActsReach later (step node what).acts
    → TellsFiled Reaches later (step node what)

-- Each event of a node of a kind that tells nothing of a log of its own: where the node held, and the packet that comes told, of nothing beyond what was filed
-- before, so it is then, whatever the node acts to be filed in the event.
abbrev pub EventsTellNoMore : (N : Type 0) → (Reach → N → Type 0) → (N → Do → NodeStep N) → Type 0
EventsTellNoMore N Reaches step = (reach : Reach) (node : N) (what : Do) → Reaches reach node → DoTells reach what → TellsFiled Reaches reach (step node what)
