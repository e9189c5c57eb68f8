-- Stamps are turns of the reigning manager, and one stamp names one decision. Depends on: who serves.
use Rattle.std.proofs.Common.{◌≡◌, ◌<◌, ◌≤◌, ℕ, Bool, ◌∷◌, arith}
use Rattle.std.proofs.lemmas.Bool.Decides.{nat_tests}
use Rattle.token_protocol.specs.Basics.{In}
use Rattle.token_protocol.specs.Client.{Client}
use Rattle.token_protocol.specs.Packets.{Want, Offer, Recall, Gave}
use Rattle.token_protocol.specs.World.{World, start}
use Rattle.token_protocol.specs.Managing.{MayOffer, MayRecall, offers, recalls, turns}
use Rattle.token_protocol.specs.Taking.{MayTake, writes_first, declines, takes_value, takes_place}
use Rattle.token_protocol.specs.Giving.{MayGive, MayGiveAgain, gives, gives_again}
use Rattle.token_protocol.specs.Step.{Step}
use Rattle.token_protocol.specs.Step.Step.{Offers, Recalls, WritesFirst, Declines, TakesAbsent, TakesSupply, TakesPlace, Gives, GivesAgain, Turns}
use Rattle.token_protocol.proofs.layers.bookkeeping.Serving.{Serving}

pub record Stamps (w : World) : Type 0 where
  -- No offer is stamped with a turn to come.
  pub offer_turn : (g : Offer) → In g w.offers → g.stamp ≤ w.turn
  -- No Recall is stamped with a turn to come.
  pub recall_turn : (r : Recall) → In r w.recalls → r.stamp ≤ w.turn
  -- A Recall's stamp is above 0.
  pub recall_positive : (r : Recall) → In r w.recalls → 0 < r.stamp
  -- A Recall lets keep at most a copy.
  pub recall_small : (r : Recall) → In r w.recalls → r.keep ≤ 1
  -- One stamp of one client names one Recall.
  pub recall_one : (r : Recall) (s : Recall) → In r w.recalls → In s w.recalls → r.client ≡ s.client → r.stamp ≡ s.stamp → r.keep ≡ s.keep
  -- No stamp names an offer and a Recall to one client.
  pub apart : (g : Offer) (r : Recall) → In g w.offers → In r w.recalls → g.client ≡ r.client → g.stamp ≡ r.stamp → ⊥
  -- A Gave's stamp is above 0.
  pub gave_positive : (x : Gave) → In x w.gaves → 0 < x.stamp
  -- No Gave is stamped with a turn to come.
  pub gave_turn : (x : Gave) → In x w.gaves → x.stamp ≤ w.turn
  -- A Gave is a client's.
  pub gave_member : (x : Gave) → In x w.gaves → x.client < w.members
  -- No client has acted on a turn to come.
  pub stamp_turn : (c : ℕ) → (w.client c).stamp ≤ w.turn
  -- No Recall of a turn to come is awaited.
  pub awaited_turn : (c : ℕ) → w.awaited c ≤ w.turn

offer_keeps_stamps : (w : World) (asked : Want) → MayOffer w asked → Serving w → Stamps w → Stamps (offers w asked)
offer_keeps_stamps w asked h serving stamps = record {
  offer_turn = λ g k0. grind (arith, nat_tests, stamps.offer_turn g);
  recall_turn = λ r k0. grind (arith, nat_tests, stamps.recall_turn r);
  recall_positive = stamps.recall_positive;
  recall_small = stamps.recall_small;
  recall_one = stamps.recall_one;
  apart = λ g r k0 k1 k2 k3. grind (arith, nat_tests, stamps.apart g r, stamps.recall_turn r k1);
  gave_positive = stamps.gave_positive;
  gave_turn = λ x k0. grind (arith, nat_tests, stamps.gave_turn x);
  gave_member = stamps.gave_member;
  stamp_turn = λ c. grind (arith, nat_tests, stamps.stamp_turn c);
  awaited_turn = λ c. grind (arith, nat_tests, stamps.awaited_turn c);
}

recall_keeps_stamps : (w : World) (who keep : ℕ) → MayRecall keep → Serving w → Stamps w → Stamps (recalls w who keep)
recall_keeps_stamps w who keep h serving stamps = record {
  offer_turn = λ g k0. grind (arith, nat_tests, stamps.offer_turn g);
  recall_turn = λ r k0. grind (arith, nat_tests, stamps.recall_turn r);
  recall_positive = λ r k0. grind (arith, nat_tests, stamps.recall_positive r);
  recall_small = λ r k0. grind (arith, nat_tests, stamps.recall_small r);
  recall_one = λ r s k0 k1 k2 k3. grind (arith, nat_tests, stamps.recall_one r s, stamps.recall_turn r, stamps.recall_turn s);
  apart = λ g r k0 k1 k2 k3. grind (arith, nat_tests, stamps.apart g r, stamps.offer_turn g k0);
  gave_positive = stamps.gave_positive;
  gave_turn = λ x k0. grind (arith, nat_tests, stamps.gave_turn x);
  gave_member = stamps.gave_member;
  stamp_turn = λ c. grind (arith, nat_tests, stamps.stamp_turn c);
  awaited_turn = λ c. grind (arith, nat_tests, stamps.awaited_turn c);
}

-- clients change, and the history with them or not: no client has acted on a turn to come
clients_keep_stamps : (w : World) (client : ℕ → Client) (newest : ℕ) (value_at writer : ℕ → ℕ) (last_writer : ℕ) → ((c : ℕ) → (client c).stamp ≤ w.turn)
    → Stamps w → Stamps (record w { client = client; newest = newest; value_at = value_at; writer = writer; last_writer = last_writer })
clients_keep_stamps w client newest value_at writer last_writer stamp_turn stamps = record {
  offer_turn = stamps.offer_turn;
  recall_turn = stamps.recall_turn;
  recall_positive = stamps.recall_positive;
  recall_small = stamps.recall_small;
  recall_one = stamps.recall_one;
  apart = stamps.apart;
  gave_positive = stamps.gave_positive;
  gave_turn = stamps.gave_turn;
  gave_member = stamps.gave_member;
  stamp_turn = stamp_turn;
  awaited_turn = stamps.awaited_turn;
}

write_first_keeps_stamps : (w : World) (taken : Offer) (value : ℕ) → MayTake w taken 2 → Stamps w → Stamps (writes_first w taken value)
write_first_keeps_stamps w taken value h stamps =
    let v = writes_first w taken value in
    clients_keep_stamps w v.client v.newest v.value_at v.writer v.last_writer
    (λ c. grind (arith, nat_tests, stamps.stamp_turn c, stamps.offer_turn taken h.sent)) stamps

decline_keeps_stamps : (w : World) (taken : Offer) → MayTake w taken 2 → Stamps w → Stamps (declines w taken)
decline_keeps_stamps w taken h stamps =
    clients_keep_stamps w (declines w taken).client w.newest w.value_at w.writer w.last_writer
    (λ c. grind (arith, nat_tests, stamps.stamp_turn c, stamps.offer_turn taken h.sent)) stamps

-- a copy whose value is known: of an absent block, or supplied by another client
take_value_keeps_stamps : (w : World) (taken : Offer) (value : ℕ) → MayTake w taken 1 → Stamps w → Stamps (takes_value w taken value)
take_value_keeps_stamps w taken value h stamps =
    clients_keep_stamps w (takes_value w taken value).client w.newest w.value_at w.writer w.last_writer
    (λ c. grind (arith, nat_tests, stamps.stamp_turn c, stamps.offer_turn taken h.sent)) stamps

take_place_keeps_stamps : (w : World) (taken : Offer) → MayTake w taken 1 → Stamps w → Stamps (takes_place w taken)
take_place_keeps_stamps w taken h stamps =
    clients_keep_stamps w (takes_place w taken).client w.newest w.value_at w.writer w.last_writer
    (λ c. grind (arith, nat_tests, stamps.stamp_turn c, stamps.offer_turn taken h.sent)) stamps

-- a client says that it gave the block up, now or again, with the stamp of a Recall that was sent to it
gave_keeps_stamps : (w : World) (client : ℕ → Client) (answered : Recall) (end : ℕ) → In answered w.recalls → (w.client answered.client).serving ≡ 1
    → ((c : ℕ) → (client c).stamp ≤ w.turn) → Serving w → Stamps w
    → Stamps (record w { client = client; gaves = record { client = answered.client; stamp = answered.stamp; end = end } ∷ w.gaves })
gave_keeps_stamps w client answered end sent serves stamp_turn serving stamps = record {
  offer_turn = stamps.offer_turn;
  recall_turn = stamps.recall_turn;
  recall_positive = stamps.recall_positive;
  recall_small = stamps.recall_small;
  recall_one = stamps.recall_one;
  apart = stamps.apart;
  gave_positive = λ x k0. grind (arith, nat_tests, stamps.gave_positive x, stamps.recall_positive answered sent);
  gave_turn = λ x k0. grind (arith, nat_tests, stamps.gave_turn x, stamps.recall_turn answered sent);
  gave_member = λ x k0. grind (arith, nat_tests, stamps.gave_member x);
  stamp_turn = stamp_turn;
  awaited_turn = stamps.awaited_turn;
}

give_keeps_stamps : (w : World) (answered : Recall) (end : ℕ) → MayGive w answered → Serving w → Stamps w → Stamps (gives w answered end)
give_keeps_stamps w answered end h serving stamps =
    gave_keeps_stamps w (gives w answered end).client answered end h.sent h.serving
    (λ c. grind (arith, nat_tests, stamps.stamp_turn c, stamps.recall_turn answered h.sent)) serving stamps

give_again_keeps_stamps : (w : World) (answered : Recall) (end : ℕ) → MayGiveAgain w answered → Serving w → Stamps w → Stamps (gives_again w answered end)
give_again_keeps_stamps w answered end h serving stamps =
    gave_keeps_stamps w w.client answered end h.sent h.serving stamps.stamp_turn serving stamps

turn_keeps_stamps : (w : World) → Serving w → Stamps w → Stamps (turns w)
turn_keeps_stamps w serving stamps = record {
  offer_turn = λ g k0. grind (arith, nat_tests, stamps.offer_turn g);
  recall_turn = λ r k0. grind (arith, nat_tests, stamps.recall_turn r);
  recall_positive = stamps.recall_positive;
  recall_small = stamps.recall_small;
  recall_one = stamps.recall_one;
  apart = stamps.apart;
  gave_positive = stamps.gave_positive;
  gave_turn = λ x k0. grind (arith, nat_tests, stamps.gave_turn x);
  gave_member = stamps.gave_member;
  stamp_turn = λ c. grind (arith, nat_tests, stamps.stamp_turn c);
  awaited_turn = λ c. grind (arith, nat_tests, stamps.awaited_turn c);
}

pub keeps : (logs : Bool) (w v : World) → Step logs w v → Serving w → Stamps w → Stamps v
keeps logs w v (Offers asked h k) serving stamps = offer_keeps_stamps w asked h serving stamps
keeps logs w v (Recalls who keep h) serving stamps = recall_keeps_stamps w who keep h serving stamps
keeps logs w v (WritesFirst taken value h) serving stamps = write_first_keeps_stamps w taken value h stamps
keeps logs w v (Declines taken h) serving stamps = decline_keeps_stamps w taken h stamps
keeps logs w v (TakesAbsent taken h t) serving stamps = take_value_keeps_stamps w taken 0 h stamps
keeps logs w v (TakesSupply taken value h t) serving stamps = take_value_keeps_stamps w taken value h stamps
keeps logs w v (TakesPlace taken h t) serving stamps = take_place_keeps_stamps w taken h stamps
keeps logs w v (Gives answered end h k) serving stamps = give_keeps_stamps w answered end h serving stamps
keeps logs w v (GivesAgain answered end h k) serving stamps = give_again_keeps_stamps w answered end h serving stamps
keeps logs w v Turns serving stamps = turn_keeps_stamps w serving stamps
keeps logs w v step serving stamps = grind (arith, nat_tests)

pub begins : (n : ℕ) → Stamps (start n)
begins n = record {
  offer_turn = λ g k0. absurd k0;
  recall_turn = λ r k0. absurd k0;
  recall_positive = λ r k0. absurd k0;
  recall_small = λ r k0. absurd k0;
  recall_one = λ r s k0 k1 k2 k3. absurd k0;
  apart = λ g r k0 k1 k2 k3. absurd k0;
  gave_positive = λ x k0. absurd k0;
  gave_turn = λ x k0. absurd k0;
  gave_member = λ x k0. absurd k0;
  stamp_turn = λ c. grind (arith, nat_tests);
  awaited_turn = λ c. grind (arith, nat_tests);
}
