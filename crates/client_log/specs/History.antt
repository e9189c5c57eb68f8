-- What a log took, oldest first, and what is claimed of it whatever it took.
use Rattle.std.specs.Prelude.{◌≡◌, ◌+◌, ◌⊎◌, IfSome, MatchOption, List, [], ◌∷◌, ◌++◌, Contains, Option, Some, None, if◌then◌else◌}
use Rattle.std.specs.List.{AllByRecursion}
use Rattle.xfs_base.specs.declared.block.BlockId.{BlockId}
use Rattle.xfs_base.specs.declared.entry.Entry.{Entry}
use Rattle.xfs_base.specs.declared.segment.End.{End}
use Rattle.xfs_base.specs.Blocks.{same_block}
use Rattle.xfs_base.specs.Steps.{steps}
use Rattle.segment_format.specs.declared.segment.Item.{Item}
use Rattle.group_map.specs.GroupMapState.{GroupMapState}
use Rattle.log_flight.specs.declared.dirty.Change.{Change}
use Rattle.log_flight.specs.declared.flight.Fate.TheVariants.{Restripe, Settle}
use Rattle.log_flight.specs.Fate.{fate_of}
use Rattle.log_flight.specs.Flights.{FlightState, is_of, none_noted, flight_note}
use Rattle.log_flight.specs.Items.{items_of}
use Rattle.client_log.specs.declared.input.In.{In}
use Rattle.client_log.specs.declared.input.In.TheVariants.{Put, Parts, Seal, Acked, Maps, Tick}
use Rattle.client_log.specs.declared.output.Out.{Out}
use Rattle.client_log.specs.declared.output.Out.TheVariants.{Send, Settled}
use Rattle.segment_format.specs.Rows.{rows_of}
use Rattle.client_log.specs.LogState.{LogState}
use Rattle.client_log.specs.Transition.{Done, transition, prior_from, end_of, next_attempt, waits, can_go_on}

-- a log that began so and took these inputs
abbrev pub state_after : LogState → List In → LogState
state_after start inputs = (steps transition start inputs).state

-- ---- the line of segments

-- a segment in flight has the number after the end, is of its owner's incarnation, and names the end as the one before
pub record IsNext (s : LogState) (f : FlightState) : Type 0 where
  pub log : f.segment.name.log ≡ s.log
  pub seq : f.segment.name.seq ≡ s.end.seq + 1
  pub inc : f.segment.name.pass.inc ≡ s.inc
  pub prior : f.segment.prior ≡ prior_from s.end

abbrev pub IsInLine : LogState → Type 0
IsInLine s = IfSome s.flight (IsNext s)

-- the segments that are settled
abbrev pub settled_ends : List Out → List End
settled_ends [] = []
settled_ends (Send fragment member ∷ outs) = settled_ends outs
settled_ends (Settled end rows ∷ outs) = end ∷ settled_ends outs

-- nothing is settled and the end stays, or one segment is settled, of the next number, and is the end
abbrev pub EndRisesByOne : LogState → Done → Type 0
EndRisesByOne s d = ((settled_ends d.outs ≡ []) × (d.state.end ≡ s.end)) ⊎ ((settled_ends d.outs ≡ d.state.end ∷ []) × (d.state.end.seq ≡ s.end.seq + 1))

-- ---- what is settled

-- the groups that an input leaves
abbrev pub groups_with : GroupMapState → In → GroupMapState
groups_with groups (Put block entry value) = groups
groups_with groups (Parts items) = groups
groups_with groups Seal = groups
groups_with groups (Acked name index generation) = groups
groups_with groups (Maps new) = new
groups_with groups Tick = groups

-- a flight with what an input notes of it: of an answer that is of it, by name, place and generation, the place
abbrev pub noted_by : FlightState → In → FlightState
noted_by f (Put block entry value) = f
noted_by f (Parts items) = f
noted_by f Seal = f
noted_by f (Acked name index generation) = if is_of f name index generation then flight_note f index else f
noted_by f (Maps new) = f
noted_by f Tick = f

-- What is told as settled is the segment that was in flight, with what its Deltas say; and it is due: no more of its members
-- are lost than its group has parity, and each is noted or lost.
pub record IsDue (s : LogState) (input : In) (end : End) (rows : List (BlockId × Entry)) : Type 0 where
  pub flight : FlightState
  pub was : s.flight ≡ Some flight
  pub is_end : end ≡ end_of flight.segment
  pub are_rows : rows ≡ rows_of flight.segment
  pub due : fate_of (groups_with s.groups input) (noted_by flight input) ≡ Settle

abbrev pub TellsWhatIsDue : LogState → In → Out → Type 0
TellsWhatIsDue s input (Send fragment member) = Unit {0}
TellsWhatIsDue s input (Settled end rows) = IsDue s input end rows

-- ---- attempts

-- the same segment, of which is noted what was, or that and what the input notes
pub record IsSameFlight (s : LogState) (input : In) (g : FlightState) : Type 0 where
  pub flight : FlightState
  pub was : s.flight ≡ Some flight
  pub segment : g.segment ≡ flight.segment
  pub group : g.group ≡ flight.group
  pub noted : (g.noted ≡ flight.noted) ⊎ (g.noted ≡ (noted_by flight input).noted)

-- The same content by the next attempt, whose number is one higher, and of which nothing is noted; and it is due: more members
-- of what flew are lost than its group has parity.
pub record IsNextAttempt (s : LogState) (input : In) (g : FlightState) : Type 0 where
  pub flight : FlightState
  pub was : s.flight ≡ Some flight
  pub name : g.segment.name ≡ next_attempt flight.segment.name
  pub items : g.segment.items ≡ flight.segment.items
  pub prior : g.segment.prior ≡ flight.segment.prior
  pub noted : g.noted ≡ none_noted
  pub due : fate_of (groups_with s.groups input) (noted_by flight input) ≡ Restripe

-- what flew before, if anything did, is the end now
abbrev pub HasLanded : LogState → LogState → Type 0
HasLanded s after = IfSome s.flight (λ f. after.end ≡ end_of f.segment)

-- a new segment, by its first attempt, behind the end, of which nothing is noted; what flew before has landed
pub record IsBegun (s after : LogState) (g : FlightState) : Type 0 where
  pub seq : g.segment.name.seq ≡ after.end.seq + 1
  pub att : g.segment.name.pass.att ≡ 1
  pub prior : g.segment.prior ≡ prior_from after.end
  pub noted : g.noted ≡ none_noted
  pub landed : HasLanded s after

-- what a flight is to the state before: it goes on, is the next attempt of what flew, or has begun
abbrev pub Follows : LogState → In → LogState → FlightState → Type 0
Follows s input after g = IsSameFlight s input g ⊎ (IsNextAttempt s input g ⊎ IsBegun s after g)

-- what is in flight after an input follows what was; and where nothing is, what was has landed
abbrev pub FlightFollows : LogState → In → LogState → Type 0
FlightFollows s input after = MatchOption after.flight (HasLanded s after) (Follows s input after)

-- ---- what is written

-- what is put last of a block once an input is heard: this version, where it is a Put of the block that has an effect
abbrev pub put_with : LogState → In → BlockId → Option Change → Option Change
put_with s (Put b entry value) block last =
    if can_go_on (waits s b (record { entry = entry; value = value }))
    then (if same_block b block then Some (record { entry = entry; value = value }) else last)
    else last
put_with s (Parts items) block last = last
put_with s Seal block last = last
put_with s (Acked name index generation) block last = last
put_with s (Maps groups) block last = last
put_with s Tick block last = last

-- what is put last of a block once these are heard
abbrev pub put_by : LogState → List In → BlockId → Option Change → Option Change
put_by s [] block last = last
put_by s (input ∷ later) block last = put_by (transition s input).state later block (put_with s input block last)

-- what was put last of a block, among the puts that had an effect
abbrev pub last_put : LogState → List In → BlockId → Option Change
last_put start history block = put_by start history block None

-- each of these changes is what was put last of its block
abbrev pub AreLastPuts : LogState → List In → List (BlockId × Change) → Type 0
AreLastPuts start history changes = AllByRecursion (λ c. last_put start history c.0 ≡ Some c.1) changes

-- the items that an input gives to be written as they are
abbrev pub IsGiven : In → List Item → Type 0
IsGiven (Put block entry value) items = ⊥
IsGiven (Parts given) items = items ≡ given
IsGiven Seal items = ⊥
IsGiven (Acked name index generation) items = ⊥
IsGiven (Maps groups) items = ⊥
IsGiven Tick items = ⊥

-- these are the items of changes that were put last
pub record AreOfLastPuts (start : LogState) (history : List In) (items : List Item) : Type 0 where
  pub changes : List (BlockId × Change)
  pub last : AreLastPuts start history changes
  pub written : items ≡ items_of 0 changes

-- these items were in flight
pub record WereFlying (s : LogState) (items : List Item) : Type 0 where
  pub flight : FlightState
  pub was : s.flight ≡ Some flight
  pub same : items ≡ flight.segment.items

-- what a flight holds after an input: what flew before, what was given, or what was put last
abbrev pub HoldsLastPuts : LogState → List In → In → List Item → Type 0
HoldsLastPuts start history input items =
    WereFlying (state_after start history) items ⊎ (IsGiven input items ⊎ AreOfLastPuts start (history ++ input ∷ []) items)

-- ---- nothing is lost

-- what waits once an input is heard: what waited, and of a Put that has an effect its version, at the place of its block
abbrev pub waiting_with : LogState → In → List (BlockId × Change)
waiting_with s (Put block entry value) =
    let with : LogState = waits s block (record { entry = entry; value = value }) in
    if can_go_on with then with.dirty else s.dirty
waiting_with s (Parts items) = s.dirty
waiting_with s Seal = s.dirty
waiting_with s (Acked name index generation) = s.dirty
waiting_with s (Maps groups) = s.dirty
waiting_with s Tick = s.dirty

-- these changes are what a log has in flight
pub record AreInFlight (s : LogState) (changes : List (BlockId × Change)) : Type 0 where
  pub flight : FlightState
  pub flying : s.flight ≡ Some flight
  pub written : flight.segment.items ≡ items_of 0 changes

-- the first of these changes are in flight, and the rest wait
pub record AreSealed (changes : List (BlockId × Change)) (after : LogState) : Type 0 where
  pub first : List (BlockId × Change)
  pub fly : AreInFlight after first
  pub all : changes ≡ first ++ after.dirty

-- all that waits once an input is heard waits after it, in the same order, or the first of it are in flight then and the rest wait
abbrev pub NothingIsLost : LogState → In → LogState → Type 0
NothingIsLost s input after = (after.dirty ≡ waiting_with s input) ⊎ AreSealed (waiting_with s input) after

-- a version of a block flies
pub record Flies (s : LogState) (block : BlockId) (change : Change) : Type 0 where
  pub changes : List (BlockId × Change)
  pub fly : AreInFlight s changes
  pub among : Contains changes (block, change)

abbrev pub WaitsOrFlies : LogState → BlockId → Change → Type 0
WaitsOrFlies s block change = Contains s.dirty (block, change) ⊎ Flies s block change
