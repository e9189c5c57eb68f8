-- A client that serves has sound tokens still, whatever it does: they change by their own inputs alone.
use Rattle.std.proofs.Common.{List, None}
use Rattle.client_call.specs.Calls.{plan_answered}
use Rattle.client_call.specs.declared.call.Going.{Going}
use Rattle.client_call.specs.declared.call.Going.TheVariants.{On, Ends}
use Rattle.client_moves.proofs.Uncalled.{Uncalled, all_moves}
use Rattle.client_moves.specs.Moves.{Moves}
use Rattle.client_moves.specs.Moves.Moves.{Answered, CacheTakes, EndsReading, FeedTakes, LogTakes, Promises, Rests, Says, Then, TokensTake, Waits}
use Rattle.client_running.specs.Running.{running_go_on}
use Rattle.client_serving.specs.declared.serving.Serving.{Serving}
use Rattle.node_base.specs.declared.effects.Effect.{Effect}
use Rattle.node_slots.proofs.client_law.Keeping.{Sound}
use Rattle.node_slots.proofs.node_tie.AsksInputs.{transition-sound}

pub running_go_on-sound : (s : Serving) (g : Going) → Sound s → Sound (running_go_on s g).state
unfolding running_go_on
running_go_on-sound s (On call) p = p
running_go_on-sound s (Ends answer) p = p

moves-sound : (s t : Serving) (o : List Effect) → Moves s t o → Sound s → Sound t
moves-sound s t o (Rests u) p = p
moves-sound s t o (Then {t = v} {o = first} {m = more} a b) p = moves-sound v t more b (moves-sound s v first a p)
moves-sound s t o (TokensTake u i none) p = transition-sound s.tokens i p
moves-sound s t o (LogTakes u i) p = p
moves-sound s t o (FeedTakes u i) p = p
moves-sound s t o (CacheTakes u i) p = p
moves-sound s t o (Promises u slot manager) p = p
moves-sound s t o (EndsReading u) p = p
moves-sound s t o (Says u e said) p = p
moves-sound s t o (Waits {t = v} {o = said} u call fact moves) p = moves-sound (record s { call = None }) v said moves p
moves-sound s t o (Answered {t = v} {o = said} u call a fact moves) p =
    running_go_on-sound v (plan_answered call.plan a) (moves-sound (record s { call = None }) v said moves p)

pub sound_by : {s t : Serving} {o : List Effect} → Moves s t o → Sound s → Sound t
sound_by {s} {t} {o} moves p = moves-sound s t o moves p

pub sound_still : {s t : Serving} {o : List Effect} → Uncalled s t o → Sound s → Sound t
sound_still moves p = sound_by (all_moves moves) p
