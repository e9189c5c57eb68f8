-- How a log that is opened again is seen, from the moment at which all of it is read back until its owner serves.
use Rattle.std.specs.Prelude.{◌≡◌, ℕ, ◌+◌, ◌<◌, ◌≤◌, ◌⊎◌, true, false, List, [], ◌∷◌, Some, None, length}
use Rattle.xfs_base.specs.declared.segment.End.{End}
use Rattle.segment_format.specs.declared.segment.Segment.{Segment}
use Rattle.group_map.specs.GroupMapState.{GroupMapState}
use Rattle.log_flight.specs.Flights.{FlightState}
use Rattle.client_log.specs.declared.input.In as inputs
use Rattle.client_log.specs.declared.input.In.TheVariants.{Put, Parts, Seal, Acked, Maps, Tick}
use Rattle.client_log.specs.LogState.{LogState, log_start}
use Rattle.client_log.specs.Transition.{has_next, transition}
use Rattle.log_protocol.specs.Phase
use Rattle.log_protocol.specs.LogLaws.{Reached}
use Rattle.log_protocol.specs.OpeningSteps.{Undoubted}
use Rattle.log_protocol.specs.State.{State}
use Rattle.log_tie.specs.Setting.{Setting, present_at, name_of, point, IsMap}
use Rattle.log_tie.specs.Seen.{Book, Flying, Writes, Serves, Fixed, Goes}
use Rattle.log_tie.specs.Inputs.{StoredSeen, MapSeen}
use Rattle.log_tie.specs.Rounds.{IsGrouped}

-- What was read back, the lowest first, as links down from the base: x is the name before them.
abbrev pub Chained : Setting → State → (ℕ → Segment) → ℕ → ℕ → List Segment → Type 0
Chained g w book highest x [] = x ≡ w.base
Chained g w book highest x (t ∷ ts) = (y : ℕ) × (w.booked y ≡ 1) × (t ≡ book y) × (w.prior_of y ≡ x) × (g.seq_of y + length ts ≡ highest)
    × Chained g w book highest y ts

-- none is below this number
abbrev pub AllFrom : ℕ → List Segment → Type 0
AllFrom lowest [] = Unit {0}
AllFrom lowest (t ∷ ts) = (lowest ≤ t.name.seq) × AllFrom lowest ts

-- A chain that stands on the base, read from a number that the pick allowed and at least down to the horizon that was taken last.
pub record ChainShown (g : Setting) (w : State) (book : ℕ → Segment) (highest : ℕ) (chain : List Segment) : Type 0 where
  pub opening : w.opening_seq ≡ highest + 1
  pub lowest : ℕ
  pub picked : w.pick_low ≤ lowest
  pub cut : lowest ≤ w.read_low
  pub from : AllFrom lowest chain
  pub next : ℕ
  pub chained : Chained g w book highest next chain
  -- it ends where no segment is named, or below the horizon that was taken last
  pub bottom : (next ≡ 0) ⊎ (highest < w.read_low + length chain)

-- all is read back, and the owner has this map
pub record ReadShown (g : Setting) (w : State) (book : ℕ → Segment) (start : End) (chain : List Segment) (groups : GroupMapState) : Type 0 where
  pub phase : w.phase ≡ Phase.reading
  pub map : IsMap g groups
  pub known : (v : ℕ) → w.owner_generation v ≡ present_at groups v
  pub base : w.base ≡ point g start.seq start.pass
  pub grouped : IsGrouped g book w.booked start
  pub read : ChainShown g w book start.seq chain

-- the opening segment is in flight, and nothing else waits
pub record WritingShown (g : Setting) (w : State) (book : ℕ → Segment) (chain : List Segment) (s : LogState) : Type 0 where
  pub writes : Writes g w s
  pub phase : w.phase ≡ Phase.writing
  pub clear : s.dirty ≡ []
  pub base : w.base ≡ point g s.end.seq s.end.pass
  pub read : ChainShown g w book s.end.seq chain
  pub flight : FlightState
  pub is_flight : s.flight ≡ Some flight
  pub flying : Flying g book flight s.inc s.end.seq (w.booked w.flight) w.flight w.noted

-- each segment of the chain is filed
abbrev pub AllFiled : Setting → State → List Segment → Type 0
AllFiled g w [] = Unit {0}
AllFiled g w (t ∷ ts) = ((x : ℕ) × (t.name ≡ name_of g x) × (w.filed x ≡ 1)) × AllFiled g w ts

-- the opening segment is still in flight, or it has settled: then the owner serves with nothing in flight, and all that was read back is filed
abbrev pub OpeningShown : Setting → List Segment → LogState → State → (ℕ → Segment) → Type 0
OpeningShown g chain s v later = WritingShown g v later chain s ⊎ (Serves g v later s × AllFiled g v chain × (s.flight ≡ None))

-- The opening segment, which has no items, is written by a step of the opening.
abbrev pub OpensByStep : Type 0
OpensByStep =
    (g : Setting) (w : State) (book : ℕ → Segment) (start : End) (chain : List Segment) (groups : GroupMapState) → Fixed g w → Reached w → Book g w book
    → ReadShown g w book start chain groups → has_next start.seq ≡ true
    → Goes g w book (λ v later. WritingShown g v later chain (transition (log_start g.log w.incarnation start groups) (Parts [])).state)
    (transition (log_start g.log w.incarnation start groups) (Parts [])).outs

-- what the world owes each input of an opening's log; it takes no others
abbrev pub BringsOpening : Setting → State → inputs.In → Type 0
BringsOpening g w (Put block entry value) = ⊥
BringsOpening g w (Parts items) = ⊥
BringsOpening g w Seal = ⊥
BringsOpening g w (Acked name index generation) = StoredSeen g w.storeds name index generation
BringsOpening g w (Maps m) = MapSeen g w.registry_generation m
BringsOpening g w Tick = Unit {0}

-- Each input of a log that is opened is taken by steps of the opening; where no restart is doubtful, the premise on losses is
-- asked for where the opening ends.
abbrev pub OpeningTakes : Type 0
OpeningTakes =
    (g : Setting) (w : State) (book : ℕ → Segment) (chain : List Segment) (s : LogState) (input : inputs.In) → Fixed g w → Reached w → Book g w book
    → WritingShown g w book chain s
    → (g.doubts ≡ false → (transition s input).state.flight ≡ None → w.pick_low ≤ w.head → Undoubted w) → BringsOpening g w input
    → Goes g w book (OpeningShown g chain (transition s input).state) (transition s input).outs
