-- What the owner of a log writes: each segment that was in flight is of the log, and has a text; and what is in flight follows the end.
use Rattle.std.specs.Prelude.{◌≡◌, ◌<◌, ◌++◌, List, [], ◌∷◌, Some}
use Rattle.client_log.specs.History.{IsNext}
use Rattle.client_log.specs.LogState.{LogState}
use Rattle.log_flight.specs.Flights.{FlightState}
use Rattle.log_protocol.specs.Tables.{In}
use Rattle.log_tie.specs.Setting.{Setting}
use Rattle.segment_format.specs.declared.segment.Segment.{Segment}
use Rattle.log_law.specs.Events.{IsWritten}
use Rattle.log_law.specs.Laws.{Moment}
use Rattle.log_law.specs.Net.{Net}
use Rattle.log_law.specs.Net.Owner.{Serving, Writing}

-- A segment bears the log's name, a number from 1 on and a boot from 1 on, and has a text.
pub record IsOfLog (g : Setting) (s : Segment) : Type 0 where
  pub log : s.name.log ≡ g.log
  pub seq : 0 < s.name.seq
  pub boot : 0 < s.name.pass.inc
  pub written : IsWritten s

-- so does each that was in flight, at each moment of every run
abbrev pub WhatFlewIsWritten : Type 0
WhatFlewIsWritten = (g : Setting) (n : Net) → Moment g n → (s : Segment) → In s n.flown → IsOfLog g s

-- What an owner that serves has in flight has the number after the end, is of its boot, and names the end as the one before it.
abbrev pub WhatFliesIsNext : Type 0
WhatFliesIsNext = (g : Setting) (n : Net) → Moment g n → (s : LogState) → n.owner ≡ Serving s → (f : FlightState) → s.flight ≡ Some f → IsNext s f

-- each of these names the one before it
abbrev pub FollowsOn : Segment → List Segment → Type 0
FollowsOn s [] = Unit {0}
FollowsOn s (t ∷ rest) = (t.prior.pass ≡ s.name.pass) × FollowsOn t rest

abbrev pub AreLinked : List Segment → Type 0
AreLinked [] = Unit {0}
AreLinked (s ∷ rest) = FollowsOn s rest

-- What was read back is linked, up to the opening segment, which is in flight.
abbrev pub WhatIsReadBackIsLinked : Type 0
WhatIsReadBackIsLinked =
    (g : Setting) (n : Net) → Moment g n → (chain : List Segment) (s : LogState) → n.owner ≡ Writing chain s → (f : FlightState) → s.flight ≡ Some f
    → AreLinked (chain ++ f.segment ∷ [])
