-- Which kinds of steps a run takes.
use Rattle.std.specs.Prelude.{List, [], ◌∷◌}
use Rattle.board_protocol.specs.Basics.{In}
use Rattle.board_protocol.specs.World.{World}
use Rattle.board_protocol.specs.Kind.{Kind}
use Rattle.board_protocol.specs.Step.{Step, Steps}
use Rattle.board_protocol.specs.Step.Step.{Offers, Extends, Ticks, SendsInstall, SendsAppend, Prepares, Promises, LeadsWithOwn, LeadsWithTheirs, LeadsAgain, Installs, InstallsAgain, Appends, AppendsAgain, Hears, Stops, Starts}
use Rattle.board_protocol.specs.Step.Steps.{Done, More}

module _ {C : Type 0} where
  abbrev pub kind_of : {w v : World C} → Step w v → Kind
  kind_of (Offers k c up) = Kind.Offers
  kind_of (Extends k c may) = Kind.Extends
  kind_of (Ticks k c may) = Kind.Ticks
  kind_of (SendsInstall k j may) = Kind.SendsInstall
  kind_of (SendsAppend k j n c may) = Kind.SendsAppend
  kind_of (Prepares k b may) = Kind.Prepares
  kind_of (Promises k p may) = Kind.Promises
  kind_of (LeadsWithOwn k p may) = Kind.LeadsWithOwn
  kind_of (LeadsWithTheirs k p may) = Kind.LeadsWithTheirs
  kind_of (LeadsAgain k p may) = Kind.LeadsAgain
  kind_of (Installs k p may) = Kind.Installs
  kind_of (InstallsAgain k p may) = Kind.InstallsAgain
  kind_of (Appends k p may) = Kind.Appends
  kind_of (AppendsAgain k p may) = Kind.AppendsAgain
  kind_of (Hears k p rest may left) = Kind.Hears
  kind_of (Stops k) = Kind.Stops
  kind_of (Starts k) = Kind.Starts

  -- The kinds of a run's steps, oldest first, and then the rest.
  abbrev pub kinds_then : {w v : World C} → Steps w v → List Kind → List Kind
  kinds_then Done rest = rest
  kinds_then (More steps step) rest = kinds_then steps (kind_of step ∷ rest)

  abbrev pub kinds : {w v : World C} → Steps w v → List Kind
  kinds steps = kinds_then steps []

  -- The run takes every kind of step, so no guard is one that nobody can meet.
  abbrev pub TakesEach : {w v : World C} → Steps w v → Type 0
  TakesEach steps = (k : Kind) → In k (kinds steps)
