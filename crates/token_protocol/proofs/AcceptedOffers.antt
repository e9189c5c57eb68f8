-- A client accepts an offer that was sent and that answers its want.
use Rattle.std.proofs.Common.{◌≡◌, ℕ, ◌<◌}
use Rattle.token_protocol.specs.Basics.{In}
use Rattle.token_protocol.specs.Packets.{Offer}
use Rattle.token_protocol.specs.Taking.{MayTake}
use Rattle.token_protocol.specs.World.{World}

-- It has promised the epoch that reigns, has acted on nothing as new, and wants that mode by that request of this incarnation.
pub accepts : (w : World) (g : Offer) (mode : ℕ) → In g w.offers → (w.client g.client).promised ≡ w.epoch → (w.client g.client).stamp < g.stamp
    → (w.client g.client).want ≡ g.mode → (w.client g.client).incarnation ≡ g.incarnation → (w.client g.client).request ≡ g.request → 0 < g.mode
    → g.mode ≡ mode → MayTake w g mode
accepts w g mode sent heard newer wanted incarnation request some of_mode = record {
  sent = sent;
  live = record { heard = heard; newer = newer; wanted = wanted; incarnation = incarnation; request = request; some = some };
  of_mode = of_mode;
}
