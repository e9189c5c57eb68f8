-- Events that lead from one world to another.
use Rattle.std.proofs.Common.{◌≡◌, List, [], ◌∷◌, ◌++◌, fold, sym, ap, subst}
use Rattle.wire_msg.specs.declared.packet.Do.{Do}
use Rattle.wire_msg.specs.NodeStep.{NodeStep}
use Rattle.world_base.specs.declared.event.Event.{Event}
use Rattle.world_base.specs.declared.world.World.{World}
use Rattle.world_base.specs.NextWorld.{next_world}
use Rattle.world_base.specs.Runs.{Leads, MayHappen}

module _ {N : Type 0} (step : N → Do → NodeStep N) where
  -- one event more
  pub leads_on : (w : World N) (es : List Event) (end : World N) (event : Event) → Leads step w es end → MayHappen end event
      → Leads step w (es ++ event ∷ []) (next_world step end event)
  leads_on w [] end event led may = (subst (λ v. MayHappen v event) (sym led) may, ap (λ v. next_world step v event) led)
  leads_on w (e ∷ es) end event led may = (led.0, leads_on (next_world step w e) es end event led.1 may)

  -- the world to which they lead is made by them alone
  pub leads_to : (w : World N) (es : List Event) (end : World N) → Leads step w es end → fold (next_world step) w es ≡ end
  leads_to w [] end led = led
  leads_to w (e ∷ es) end led = leads_to (next_world step w e) es end led.1
