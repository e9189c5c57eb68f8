-- The awaited Recall of a client was sent, and is the newest that it was sent. Depends on: stamps.
use Rattle.std.proofs.Common.{◌<◌, ◌≤◌, ℕ, Bool, arith}
use Rattle.std.proofs.lemmas.Bool.Decides.{nat_tests}
use Rattle.token_protocol.specs.Basics.{In}
use Rattle.token_protocol.specs.Packets.{Offer, Recall}
use Rattle.token_protocol.specs.World.{World, start}
use Rattle.token_protocol.specs.Managing.{MayRecall, recalls}
use Rattle.token_protocol.specs.Step.{Step}
use Rattle.token_protocol.specs.Step.Step.{Offers, Recalls, WritesFirst, Declines, TakesAbsent, TakesSupply, TakesPlace, Gives}
use Rattle.token_protocol.proofs.layers.bookkeeping.Stamps.{Stamps}

pub record Awaiting (w : World) : Type 0 where
  -- The awaited Recall was sent, with what it lets keep.
  pub awaited_sent : (c : ℕ) → 0 < w.awaited c → In (record { client = c; stamp = w.awaited c; keep = w.keep c }) w.recalls
  -- No Recall to a client is newer than the awaited one.
  pub recall_awaited : (r : Recall) → In r w.recalls → 0 < w.awaited r.client → r.stamp ≤ w.awaited r.client
  -- A client has acted on nothing newer than the Recall that is awaited of it.
  pub stamp_awaited : (c : ℕ) → 0 < w.awaited c → (w.client c).stamp ≤ w.awaited c
  -- Nothing is offered to a client of which a Recall is awaited: every offer to it is older.
  pub offer_awaited : (g : Offer) → In g w.offers → 0 < w.awaited g.client → g.stamp < w.awaited g.client
  -- An awaited Recall lets keep at most a copy.
  pub keep_small : (c : ℕ) → 0 < w.awaited c → w.keep c ≤ 1

recall_keeps_awaiting : (w : World) (who keep : ℕ) → MayRecall keep → Stamps w → Awaiting w → Awaiting (recalls w who keep)
recall_keeps_awaiting w who keep h stamps awaiting = record {
  awaited_sent = λ c k0. grind (arith, nat_tests, awaiting.awaited_sent c);
  recall_awaited = λ r k0 k1. grind (arith, nat_tests, awaiting.recall_awaited r, stamps.recall_turn r);
  stamp_awaited = λ c k0. grind (arith, nat_tests, awaiting.stamp_awaited c, stamps.stamp_turn c);
  offer_awaited = λ g k0 k1. grind (arith, nat_tests, awaiting.offer_awaited g, stamps.offer_turn g k0);
  keep_small = λ c k0. grind (arith, nat_tests, awaiting.keep_small c);
}

pub keeps : (logs : Bool) (w v : World) → Step logs w v → Stamps w → Awaiting w → Awaiting v
keeps logs w v (Offers asked h k) stamps awaiting = grind (arith, nat_tests)
keeps logs w v (Recalls who keep h) stamps awaiting = recall_keeps_awaiting w who keep h stamps awaiting
keeps logs w v (WritesFirst taken value h) stamps awaiting = grind (arith, nat_tests)
keeps logs w v (Declines taken h) stamps awaiting = grind (arith, nat_tests)
keeps logs w v (TakesAbsent taken h t) stamps awaiting = grind (arith, nat_tests)
keeps logs w v (TakesSupply taken value h t) stamps awaiting = grind (arith, nat_tests)
keeps logs w v (TakesPlace taken h t) stamps awaiting = grind (arith, nat_tests)
keeps logs w v (Gives answered end h k) stamps awaiting = grind (arith, nat_tests)
keeps logs w v step stamps awaiting = grind (arith, nat_tests)

pub begins : (n : ℕ) → Awaiting (start n)
begins n = record {
  awaited_sent = λ c k0. grind (arith, nat_tests);
  recall_awaited = λ r k0 k1. absurd k0;
  stamp_awaited = λ c k0. grind (arith, nat_tests);
  offer_awaited = λ g k0 k1. absurd k0;
  keep_small = λ c k0. grind (arith, nat_tests);
}
