-- What offers name. So a new want, or a new incarnation, makes every older offer dead. Depends on: what clients ask.
use Rattle.std.proofs.Common.{◌≡◌, ◌≤◌, ℕ, Bool, arith}
use Rattle.std.proofs.lemmas.Bool.Decides.{nat_tests}
use Rattle.token_protocol.specs.Basics.{In}
use Rattle.token_protocol.specs.Packets.{Offer}
use Rattle.token_protocol.specs.World.{World, start}
use Rattle.token_protocol.specs.Step.{Step}
use Rattle.token_protocol.specs.Step.Step.{Asks, Offers, RestartsAdopting, RestartsDiscarding}
use Rattle.token_protocol.proofs.layers.bookkeeping.Asking.{Asking}

pub record Offering (w : World) : Type 0 where
  -- A sent offer names no incarnation that is still to come.
  pub offer_incarnation : (g : Offer) → In g w.offers → g.incarnation ≤ (w.client g.client).incarnation
  -- A sent offer of this incarnation names no request that is still to come.
  pub offer_request : (g : Offer) → In g w.offers → g.incarnation ≡ (w.client g.client).incarnation → g.request ≤ (w.client g.client).request

pub keeps : (logs : Bool) (w v : World) → Step logs w v → Asking w → Offering w → Offering v
keeps logs w v (Asks who mode request end h k) asking offering = grind (arith, nat_tests)
keeps logs w v (Offers asked h k) asking offering = grind (arith, nat_tests)
keeps logs w v (RestartsAdopting who incarnation promised h k) asking offering = grind (arith, nat_tests)
keeps logs w v (RestartsDiscarding who incarnation promised h) asking offering = grind (arith, nat_tests)
keeps logs w v step asking offering = grind (arith, nat_tests)

pub begins : (n : ℕ) → Offering (start n)
begins n = record {
  offer_incarnation = λ g k0. absurd k0;
  offer_request = λ g k0 k1. absurd k0;
}
