-- The phase of a client after its next item began.
use Rattle.std.specs.Prelude.{Bool, true, false, Option, Some, None}
use Rattle.client_node.specs.declared.phase.Phase.TheVariants.{Down, Opening as Opens, Serving as Serves}
use Rattle.client_node.specs.declared.phase.Phase.{Phase}
use Rattle.client_serving.specs.declared.lasting.Lasting.{Lasting}
use Rattle.client_serving.specs.declared.serving.Serving.{Serving}
use Rattle.log_owner.specs.declared.opening.Opening.{Opening}

-- a client that was down, which is down still or opens its log
abbrev pub after_down : Lasting → Option Opening → Phase
after_down l None = Down l
after_down l (Some o) = Opens l o

-- a client that opened its log, or crashed
abbrev pub after_opening : Lasting → Opening → Bool → Phase
after_opening l o true = Down l
after_opening l o false = Opens l o

-- a client that served, or crashed
abbrev pub after_serving : Serving → Bool → Phase
after_serving s true = Down s.lasting
after_serving s false = Serves s
