-- How many questions an opening's scan has asked, beside those of its node.
use Rattle.std.specs.Prelude.{◌≡◌, ◌≤◌, ◌⊎◌, ℕ, ◌+◌, true, [], Option, Some, None}
use Rattle.log_owner.specs.declared.ended.Owner.{Owner}
use Rattle.log_owner.specs.declared.opened.Progress.{Progress}
use Rattle.log_owner.specs.declared.opened.Progress.TheVariants as progress
use Rattle.log_owner.specs.declared.opening.Opening as openings
use Rattle.log_owner.specs.declared.opening.Scanning.{Scanning}
use Rattle.log_owner.specs.declared.opening.Stage as stages
use Rattle.log_owner.specs.declared.opening.Stage.TheVariants as stage
use Rattle.log_owner.specs.Opening.{Went, on_start, opening_take, on_tick}
use Rattle.group_map.specs.GroupMapState.{GroupMapState}
use Rattle.log_scan.specs.declared.input.In.{In}
use Rattle.log_scan.specs.declared.input.In.TheVariants as input
use Rattle.log_scan.specs.declared.stage.Backward.{Backward}
use Rattle.log_scan.specs.declared.stage.Stage.{Stage}
use Rattle.log_scan.specs.declared.stage.Stage.TheVariants.{Reads}
use Rattle.log_scan.specs.ScanState.{ScanState}
use Rattle.log_scan.specs.Transition.{can_ask, transition}
use Rattle.node_base.specs.declared.questions.Questions.{Questions}
use Rattle.node_base.specs.Room.{has_room}
use Rattle.segment_reading.specs.declared.reading.Stage.TheVariants as reading
use Rattle.segment_reading.specs.Reading.{ReadingState}
use Rattle.wire_msg.specs.declared.packet.Packet.{Packet}

-- it reads a segment over a group without members, and waits for good
pub record WaitsInVain (s : ScanState) : Type 0 where
  pub back : Backward
  pub round : ReadingState
  pub reads : s.stage ≡ Reads back (Some round)
  pub asking : round.stage ≡ reading.Asking
  pub nobody : round.round.servers ≡ []

-- each question of the scan was one of the node, but for that by which it waits in vain
abbrev pub FewAsked : ScanState → ℕ → Type 0
FewAsked s last = (s.opening.ask ≤ last) ⊎ (WaitsInVain s × (s.opening.ask ≤ last + 1))

-- a reading asks by no later question
abbrev pub PastReading : ℕ → Option ReadingState → Type 0
PastReading ask None = Unit {0}
PastReading ask (Some r) = r.ask ≤ ask

abbrev pub PastStage : ℕ → Stage → Type 0
PastStage ask (Reads b r) = PastReading ask r
PastStage ask _ = Unit {0}

-- a scan of a node whose last question is this
pub record ScanAsks (s : Scanning) (last : ℕ) : Type 0 where
  pub few : FewAsked s.scan last
  pub past : s.asked.own ≤ s.scan.opening.ask
  pub reads : PastStage s.scan.opening.ask s.scan.stage

abbrev pub StageAsks : stages.Stage → ℕ → Type 0
StageAsks (stage.Scanning s) last = ScanAsks s last
StageAsks (stage.Settling s) last = Unit {0}

abbrev pub ProgressAsks : Progress → ℕ → Type 0
ProgressAsks (progress.Opening o) last = StageAsks o.stage last
ProgressAsks (progress.Opened r) last = Unit {0}
ProgressAsks (progress.Lost seg) last = Unit {0}

abbrev pub AsksOn : Went → Type 0
AsksOn w = ProgressAsks w.progress w.questions.last

-- So it is of an opening that starts, and it stays so, while the node has room for further questions.
abbrev pub StartAsksFew : Type 0
StartAsksFew = (owner : Owner) (servers : ℕ) (q : Questions) → has_room q.last ≡ true → AsksOn (on_start owner servers q)

abbrev pub PacketAsksFew : Type 0
PacketAsksFew =
    (o : openings.Opening) (q : Questions) (packet : Packet) → has_room q.last ≡ true → StageAsks o.stage q.last → AsksOn (opening_take o q packet)

abbrev pub TickAsksFew : Type 0
TickAsksFew = (o : openings.Opening) (q : Questions) → has_room q.last ≡ true → StageAsks o.stage q.last → AsksOn (on_tick o q)

-- The groups of a scan are those that it had, unless others come.
abbrev pub GroupsAfter : Option GroupMapState → In → Option GroupMapState → Type 0
GroupsAfter before (input.Welcome ask news groups) later = (later ≡ before) ⊎ (later ≡ Some groups)
GroupsAfter before (input.Maps groups) later = later ≡ Some groups
GroupsAfter before _ later = later ≡ before

abbrev pub GroupsCome : Type 0
GroupsCome = (s : ScanState) (i : In) → PastStage s.opening.ask s.stage → GroupsAfter s.opening.groups i (transition s i).state.opening.groups

-- Such a scan has questions left.
abbrev pub QuestionsAreLeft : Type 0
QuestionsAreLeft = (s : ScanState) (last : ℕ) → has_room last ≡ true → FewAsked s last → can_ask s.opening ≡ true
