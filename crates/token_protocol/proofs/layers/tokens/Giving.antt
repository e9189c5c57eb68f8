-- What has been recalled and given up stays given up until the manager offers again. Depends on: bookkeeping.
use Rattle.std.proofs.Common.{◌≡◌, ◌≤◌, ℕ, Bool, refl, sym, arith}
use Rattle.std.proofs.lemmas.Bool.Decides.{nat_tests}
use Rattle.token_protocol.specs.Basics.{In}
use Rattle.token_protocol.specs.Packets.{Want, Offer, Recall, Gave}
use Rattle.token_protocol.specs.World.{World, start, Live}
use Rattle.token_protocol.specs.Managing.{MayOffer, MayRecall, offers, recalls}
use Rattle.token_protocol.specs.Taking.{MayTake, IsAbsent, IsPlaced, writes_first, declines, takes_value, takes_place}
use Rattle.token_protocol.specs.Giving.{MayGive, MayGiveAgain, gives, gives_again}
use Rattle.token_protocol.specs.Step.{Step}
use Rattle.token_protocol.specs.Step.Step.{Asks, Offers, Recalls, WritesFirst, Declines, TakesAbsent, TakesSupply, TakesPlace, Fetches, Gives, GivesAgain, Notes, RestartsAdopting, RestartsDiscarding, Promises}
use Rattle.token_protocol.proofs.layers.bookkeeping.{Bookkeeping}

pub record Giving (w : World) : Type 0 where
  -- Who stands at a Recall's stamp holds no more than it let keep.
  pub recalled : (r : Recall) → In r w.recalls → (w.client r.client).stamp ≡ r.stamp → (w.client r.client).mode ≤ r.keep
  -- Who stands at a Recall's stamp fetches nothing.
  pub recalled_fetch : (r : Recall) → In r w.recalls → (w.client r.client).stamp ≡ r.stamp → (w.client r.client).fetching ≡ 0
  -- Who gave for the awaited Recall holds no more than it let keep, also after a restart.
  pub given_mode : (x : Gave) → In x w.gaves → w.awaited x.client ≡ x.stamp → (w.client x.client).mode ≤ w.keep x.client
  -- Who gave for the awaited Recall fetches nothing.
  pub given_fetch : (x : Gave) → In x w.gaves → w.awaited x.client ≡ x.stamp → (w.client x.client).fetching ≡ 0
  -- Who gave for the awaited Recall can take no offer.
  pub given_offer : (x : Gave) (g : Offer) → In x w.gaves → In g w.offers → g.client ≡ x.client → w.awaited x.client ≡ x.stamp → Live w g → ⊥

-- What the awaited Recall lets keep is what the manager awaits.
kept : (w : World) (r : Recall) → In r w.recalls → w.awaited r.client ≡ r.stamp → Bookkeeping w → r.keep ≡ w.keep r.client
kept w r sent fact book =
    let pos = book.stamps.recall_positive r sent in
    book.stamps.recall_one r (record {
      client = r.client;
      stamp = w.awaited r.client;
      keep = w.keep r.client;
    }) sent (book.awaiting.awaited_sent r.client (omega arith)) refl (sym fact)

offer_keeps_giving : (w : World) (asked : Want) → MayOffer w asked → Bookkeeping w → Giving w → Giving (offers w asked)
offer_keeps_giving w asked h book giving = record {
  recalled = giving.recalled;
  recalled_fetch = giving.recalled_fetch;
  given_mode = giving.given_mode;
  given_fetch = giving.given_fetch;
  given_offer = λ x g k0 k1 k2 k3 k4. grind (arith, nat_tests, giving.given_offer x g, book.stamps.gave_positive x k0);
}

recall_keeps_giving : (w : World) (who keep : ℕ) → MayRecall keep → Bookkeeping w → Giving w → Giving (recalls w who keep)
recall_keeps_giving w who keep h book giving = record {
  recalled = λ r k0 k1. grind (arith, nat_tests, giving.recalled r);
  recalled_fetch = λ r k0 k1. grind (arith, nat_tests, giving.recalled_fetch r);
  given_mode = λ x k0 k1. grind (arith, nat_tests, giving.given_mode x, book.stamps.gave_turn x k0);
  given_fetch = λ x k0 k1. grind (arith, nat_tests, giving.given_fetch x, book.stamps.gave_turn x k0);
  given_offer = λ x g k0 k1 k2 k3 k4. grind (arith, nat_tests, giving.given_offer x g, book.stamps.gave_turn x k0);
}

write_first_keeps_giving : (w : World) (taken : Offer) (value : ℕ) → MayTake w taken 2 → Bookkeeping w → Giving w → Giving (writes_first w taken value)
write_first_keeps_giving w taken value h book giving = record {
  recalled = λ r k0 k1. grind (arith, nat_tests, giving.recalled r, book.stamps.apart taken r h.sent k0);
  recalled_fetch = λ r k0 k1. grind (arith, nat_tests, giving.recalled_fetch r, book.stamps.apart taken r h.sent k0);
  given_mode = λ x k0 k1. grind (arith, nat_tests, giving.given_mode x);
  given_fetch = λ x k0 k1. grind (arith, nat_tests, giving.given_fetch x);
  given_offer = λ x g k0 k1 k2 k3 k4. grind (arith, nat_tests, giving.given_offer x g);
}

decline_keeps_giving : (w : World) (taken : Offer) → MayTake w taken 2 → Bookkeeping w → Giving w → Giving (declines w taken)
decline_keeps_giving w taken h book giving = record {
  recalled = λ r k0 k1. grind (arith, nat_tests, giving.recalled r, book.stamps.apart taken r h.sent k0);
  recalled_fetch = λ r k0 k1. grind (arith, nat_tests, giving.recalled_fetch r, book.stamps.apart taken r h.sent k0);
  given_mode = λ x k0 k1. grind (arith, nat_tests, giving.given_mode x);
  given_fetch = λ x k0 k1. grind (arith, nat_tests, giving.given_fetch x);
  given_offer = λ x g k0 k1 k2 k3 k4. grind (arith, nat_tests, giving.given_offer x g);
}

take_absent_keeps_giving : (w : World) (taken : Offer) → MayTake w taken 1 → IsAbsent taken → Bookkeeping w → Giving w → Giving (takes_value w taken 0)
take_absent_keeps_giving w taken h t book giving = record {
  recalled = λ r k0 k1. grind (arith, nat_tests, giving.recalled r, book.stamps.apart taken r h.sent k0);
  recalled_fetch = λ r k0 k1. grind (arith, nat_tests, giving.recalled_fetch r, book.stamps.apart taken r h.sent k0);
  given_mode = λ x k0 k1. grind (arith, nat_tests, giving.given_mode x);
  given_fetch = λ x k0 k1. grind (arith, nat_tests, giving.given_fetch x);
  given_offer = λ x g k0 k1 k2 k3 k4. grind (arith, nat_tests, giving.given_offer x g);
}

take_supply_keeps_giving : (w : World) (taken : Offer) (value : ℕ) → MayTake w taken 1 → Bookkeeping w → Giving w
    → Giving (takes_value w taken value)
take_supply_keeps_giving w taken value h book giving = record {
  recalled = λ r k0 k1. grind (arith, nat_tests, giving.recalled r, book.stamps.apart taken r h.sent k0);
  recalled_fetch = λ r k0 k1. grind (arith, nat_tests, giving.recalled_fetch r, book.stamps.apart taken r h.sent k0);
  given_mode = λ x k0 k1. grind (arith, nat_tests, giving.given_mode x);
  given_fetch = λ x k0 k1. grind (arith, nat_tests, giving.given_fetch x);
  given_offer = λ x g k0 k1 k2 k3 k4. grind (arith, nat_tests, giving.given_offer x g);
}

take_place_keeps_giving : (w : World) (taken : Offer) → MayTake w taken 1 → IsPlaced taken → Bookkeeping w → Giving w → Giving (takes_place w taken)
take_place_keeps_giving w taken h t book giving = record {
  recalled = λ r k0 k1. grind (arith, nat_tests, giving.recalled r, book.stamps.apart taken r h.sent k0);
  recalled_fetch = λ r k0 k1. grind (arith, nat_tests, giving.recalled_fetch r, book.stamps.apart taken r h.sent k0);
  given_mode = λ x k0 k1. grind (arith, nat_tests, giving.given_mode x);
  given_fetch = λ x k0 k1. grind (arith, nat_tests, giving.given_fetch x);
  given_offer = λ x g k0 k1 k2 k3 k4. grind (arith, nat_tests, giving.given_offer x g);
}

give_keeps_giving : (w : World) (answered : Recall) (end : ℕ) → MayGive w answered → Bookkeeping w → Giving w → Giving (gives w answered end)
give_keeps_giving w answered end h book giving = record {
  recalled = λ r k0 k1. grind (arith, nat_tests, giving.recalled r, book.stamps.recall_one answered r h.sent k0);
  recalled_fetch = λ r k0 k1. grind (arith, nat_tests, giving.recalled_fetch r);
  given_mode = λ x k0 k1. grind (arith, nat_tests, giving.given_mode x, kept w answered h.sent);
  given_fetch = λ x k0 k1. grind (arith, nat_tests, giving.given_fetch x);
  given_offer = λ x g k0 k1 k2 k3 k4. grind (arith, nat_tests, giving.given_offer x g);
}

give_again_keeps_giving : (w : World) (answered : Recall) (end : ℕ) → MayGiveAgain w answered → Bookkeeping w → Giving w → Giving (gives_again w answered end)
give_again_keeps_giving w answered end h book giving = record {
  recalled = giving.recalled;
  recalled_fetch = giving.recalled_fetch;
  given_mode = λ x k0 k1. grind (arith, nat_tests, giving.given_mode x, kept w answered h.sent, giving.recalled answered h.sent h.equal);
  given_fetch = λ x k0 k1. grind (arith, nat_tests, giving.given_fetch x);
  given_offer =
      λ x g k0 k1 k2 k3 k4. grind (arith, nat_tests, giving.given_offer x g, book.awaiting.offer_awaited g k1, book.stamps.recall_positive answered h.sent);
}

pub keeps : (logs : Bool) (w v : World) → Step logs w v → Bookkeeping w → Giving w → Giving v
keeps logs w v (Asks who mode request end h k) book giving = grind (arith, nat_tests)
keeps logs w v (Offers asked h k) book giving = offer_keeps_giving w asked h book giving
keeps logs w v (Recalls who keep h) book giving = recall_keeps_giving w who keep h book giving
keeps logs w v (WritesFirst taken value h) book giving = write_first_keeps_giving w taken value h book giving
keeps logs w v (Declines taken h) book giving = decline_keeps_giving w taken h book giving
keeps logs w v (TakesAbsent taken h t) book giving = take_absent_keeps_giving w taken h t book giving
keeps logs w v (TakesSupply taken value h t) book giving = take_supply_keeps_giving w taken value h book giving
keeps logs w v (TakesPlace taken h t) book giving = take_place_keeps_giving w taken h t book giving
keeps logs w v (Fetches who value h k) book giving = grind (arith, nat_tests)
keeps logs w v (Gives answered end h k) book giving = give_keeps_giving w answered end h book giving
keeps logs w v (GivesAgain answered end h k) book giving = give_again_keeps_giving w answered end h book giving
keeps logs w v (Notes noted h) book giving = grind (arith, nat_tests)
keeps logs w v (RestartsAdopting who incarnation promised h k) book giving = grind (arith, nat_tests)
keeps logs w v (RestartsDiscarding who incarnation promised h) book giving = grind (arith, nat_tests)
keeps logs w v (Promises who epoch h) book giving = grind (arith, nat_tests)
keeps logs w v step book giving = grind (arith, nat_tests)

pub begins : (n : ℕ) → Giving (start n)
begins n = record {
  recalled = λ r k0 k1. absurd k0;
  recalled_fetch = λ r k0 k1. absurd k0;
  given_mode = λ x k0 k1. absurd k0;
  given_fetch = λ x k0 k1. absurd k0;
  given_offer = λ x g k0 k1 k2 k3 k4. absurd k0;
}
