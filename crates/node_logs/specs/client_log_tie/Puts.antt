-- What the owner of a log puts into it while it serves, and what of that was in flight.
use Rattle.std.specs.Prelude.{◌≡◌, ◌<◌, true, List, [], ◌∷◌}
use Rattle.std.specs.List.{AllByRecursion}
use Rattle.client_log.specs.declared.input.In.{In as Input}
use Rattle.client_log.specs.declared.input.In.TheVariants.{Put, Parts}
use Rattle.client_log.specs.History.{state_after}
use Rattle.client_log.specs.LogState.{LogState}
use Rattle.client_log.specs.Transition.{transition}
use Rattle.log_law.specs.Net.{Net, flown_with}
use Rattle.log_law.specs.Net.{Owner as owner}
use Rattle.log_law.specs.Restarts.{is_serving}
use Rattle.segment_format.specs.declared.segment.Segment.{Segment}

-- A version that a client puts is one from 1 on, at first hand; and it writes no items of its own.
abbrev pub PutsOwn : Input → Type 0
PutsOwn (Put block entry value) = (0 < entry.ver) × (entry.hop ≡ 0)
PutsOwn (Parts items) = items ≡ []
PutsOwn _ = Unit {0}

-- what was in flight up to now, once a log took these, oldest first
abbrev pub flown_after : LogState → List Input → List Segment → List Segment
flown_after s [] before = before
flown_after s (i ∷ later) before = flown_after (transition s i).state later (flown_with (transition s i).state.flight before)

-- From the one moment to the other the log took such inputs, oldest first, and nothing flew but what was in flight after each.
pub record LogTook (Puts : Input → Type 0) (n o : Net) (s : LogState) : Type 0 where
  pub inputs : List Input
  pub all : AllByRecursion Puts inputs
  pub serves : o.owner ≡ owner.Serving (state_after s inputs)
  pub flown : o.flown ≡ flown_after s inputs n.flown

-- so it is where the owner serves at both
abbrev pub ServesBy : (Input → Type 0) → Net → Net → Type 0
ServesBy Puts n o = (s : LogState) → n.owner ≡ owner.Serving s → is_serving o.owner ≡ true → LogTook Puts n o s
