-- What the log of an owner needs of the world when it takes an input, and the law.
use Rattle.std.specs.Prelude.{◌≡◌, ℕ, ◌≤◌, List}
use Rattle.xfs_base.specs.declared.segment.SegName.{SegName}
use Rattle.segment_format.specs.declared.segment.Segment.{Segment}
use Rattle.group_map.specs.GroupMapState.{GroupMapState}
use Rattle.client_log.specs.declared.input.In as inputs
use Rattle.client_log.specs.declared.input.In.TheVariants.{Put, Parts, Seal, Acked, Maps, Tick}
use Rattle.client_log.specs.LogState.{LogState}
use Rattle.client_log.specs.Transition.{transition}
use Rattle.log_protocol.specs.LogLaws.{Reached}
use Rattle.log_protocol.specs.Packets.{StoredPacket}
use Rattle.log_protocol.specs.State.{State}
use Rattle.log_protocol.specs.Tables.{In}
use Rattle.log_tie.specs.Setting.{Setting, name_of, present_at, IsMap}
use Rattle.log_tie.specs.Seen.{Book, Fixed, Serves, Goes}

-- a Stored that was sent
pub record StoredSeen (g : Setting) (storeds : List StoredPacket) (name : SegName) (index generation : ℕ) : Type 0 where
  pub number : ℕ
  pub named : name ≡ name_of g number
  pub sent : In (record { name = number; index = index; generation = generation }) storeds

-- a map that the registry had: with stripes that the ids name, and with generations that it knows now
pub record MapSeen (g : Setting) (registry : ℕ → ℕ) (m : GroupMapState) : Type 0 where
  pub whole : IsMap g m
  pub past : (v : ℕ) → present_at m v ≤ registry v

-- what the world owes each input
abbrev pub Brings : Setting → State → inputs.In → Type 0
Brings g w (Put block entry value) = Unit {0}
Brings g w (Parts items) = Unit {0}
Brings g w Seal = Unit {0}
Brings g w (Acked name index generation) = StoredSeen g w.storeds name index generation
Brings g w (Maps m) = MapSeen g w.registry_generation m
Brings g w Tick = Unit {0}

-- Each input of a serving owner's log is taken by steps of the owner.
abbrev pub TakesInputs : Type 0
TakesInputs =
    (g : Setting) (w : State) (book : ℕ → Segment) (s : LogState) (input : inputs.In) → Fixed g w → Reached w → Book g w book → Serves g w book s
    → Brings g w input
    → Goes g w book (λ v later. Serves g v later (transition s input).state) (transition s input).outs
