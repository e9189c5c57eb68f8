-- The cleaner, which is member 0, promises epochs, and does nothing else here: it asks for nothing, and so holds nothing. Depends on nothing.
use Rattle.std.proofs.Common.{◌≡◌, ◌<◌, ℕ, Bool, arith}
use Rattle.std.proofs.lemmas.Bool.Decides.{nat_tests}
use Rattle.token_protocol.specs.Basics.{In}
use Rattle.token_protocol.specs.Entry.{Entry}
use Rattle.token_protocol.specs.Packets.{Want, Offer, Report}
use Rattle.token_protocol.specs.World.{World, start, Clean}
use Rattle.token_protocol.specs.Asking.{MayAsk, MayAskAgain, asks, asks_again}
use Rattle.token_protocol.specs.Managing.{MayOffer, offers}
use Rattle.token_protocol.specs.Takeover.{MayActivate, reports, activates}
use Rattle.token_protocol.specs.Step.{Step}
use Rattle.token_protocol.specs.Step.Step.{Asks, AsksAgain, Offers, WritesFirst, Declines, TakesAbsent, TakesSupply, TakesPlace, Fetches, Writes, CrashesDirty, Reports, Activates}

pub record Idle (w : World) : Type 0 where
  -- A sent want is not the cleaner's.
  pub want_client : (p : Want) → In p w.wants → 0 < p.client
  -- Nor is a sent offer for the cleaner.
  pub offer_client : (g : Offer) → In g w.offers → 0 < g.client
  -- It reports that it holds nothing.
  pub report_nothing : (y : Report) → In y w.reports → y.client ≡ 0 → y.mode ≡ 0
  -- It holds nothing.
  pub nothing_held : (w.client 0).mode ≡ 0
  -- It wants nothing.
  pub nothing_wanted : (w.client 0).want ≡ 0
  -- It fetches nothing.
  pub nothing_fetched : (w.client 0).fetching ≡ 0
  -- It changes nothing.
  pub nothing_dirty : Clean w 0
  -- It never falls with the block dirty.
  pub never_fallen : w.fallen 0 ≡ 0
  -- It is believed to hold nothing.
  pub nothing_believed : w.belief 0 ≡ 0

ask_keeps_idle : (w : World) (who mode request end : ℕ) → MayAsk w who mode request → Idle w → Idle (asks w who mode request end)
ask_keeps_idle w who mode request end h idle = record {
  want_client = λ p k0. grind (arith, nat_tests, idle.want_client p);
  offer_client = idle.offer_client;
  report_nothing = idle.report_nothing;
  nothing_held = grind (arith, nat_tests);
  nothing_wanted = grind (arith, nat_tests);
  nothing_fetched = grind (arith, nat_tests);
  nothing_dirty = grind (arith, nat_tests);
  never_fallen = idle.never_fallen;
  nothing_believed = idle.nothing_believed;
}

ask_again_keeps_idle : (w : World) (who end : ℕ) → MayAskAgain w who → Idle w → Idle (asks_again w who end)
ask_again_keeps_idle w who end h idle = record {
  want_client = λ p k0. grind (arith, nat_tests, idle.want_client p, idle.nothing_wanted, h.open_want);
  offer_client = idle.offer_client;
  report_nothing = idle.report_nothing;
  nothing_held = idle.nothing_held;
  nothing_wanted = idle.nothing_wanted;
  nothing_fetched = idle.nothing_fetched;
  nothing_dirty = idle.nothing_dirty;
  never_fallen = idle.never_fallen;
  nothing_believed = idle.nothing_believed;
}

offer_keeps_idle : (w : World) (asked : Want) → MayOffer w asked → Idle w → Idle (offers w asked)
offer_keeps_idle w asked h idle = record {
  want_client = idle.want_client;
  offer_client = λ g k0. grind (arith, nat_tests, idle.offer_client g, idle.want_client asked h.sent);
  report_nothing = idle.report_nothing;
  nothing_held = idle.nothing_held;
  nothing_wanted = idle.nothing_wanted;
  nothing_fetched = idle.nothing_fetched;
  nothing_dirty = idle.nothing_dirty;
  never_fallen = idle.never_fallen;
  nothing_believed = grind (arith, nat_tests, idle.nothing_believed, idle.want_client asked h.sent);
}

report_keeps_idle : (w : World) (who end : ℕ) → Idle w → Idle (reports w who end)
report_keeps_idle w who end idle = record {
  want_client = idle.want_client;
  offer_client = idle.offer_client;
  report_nothing = λ y k0 k1. grind (arith, nat_tests, idle.report_nothing y, idle.nothing_held);
  nothing_held = idle.nothing_held;
  nothing_wanted = idle.nothing_wanted;
  nothing_fetched = idle.nothing_fetched;
  nothing_dirty = idle.nothing_dirty;
  never_fallen = idle.never_fallen;
  nothing_believed = idle.nothing_believed;
}

activate_keeps_idle : (w : World) (epoch : ℕ) (report : ℕ → Report) (applied : ℕ → ℕ) (e : Entry) → MayActivate w epoch report → Idle w
    → Idle (activates w epoch report applied e)
activate_keeps_idle w epoch report applied e h idle = record {
  want_client = idle.want_client;
  offer_client = λ g k0. absurd k0;
  report_nothing = idle.report_nothing;
  nothing_held = idle.nothing_held;
  nothing_wanted = idle.nothing_wanted;
  nothing_fetched = idle.nothing_fetched;
  nothing_dirty = idle.nothing_dirty;
  never_fallen = idle.never_fallen;
  nothing_believed = grind (arith, nat_tests, h.sent 0, h.sender 0, idle.report_nothing (report 0));
}

pub keeps : (logs : Bool) (w v : World) → Step logs w v → Idle w → Idle v
keeps logs w v (Asks who mode request end h k) idle = ask_keeps_idle w who mode request end h idle
keeps logs w v (AsksAgain who end h k) idle = ask_again_keeps_idle w who end h idle
keeps logs w v (Offers asked h k) idle = offer_keeps_idle w asked h idle
keeps logs w v (WritesFirst taken value h) idle = grind (arith, nat_tests, idle.offer_client taken h.sent)
keeps logs w v (Declines taken h) idle = grind (arith, nat_tests, idle.offer_client taken h.sent)
keeps logs w v (TakesAbsent taken h t) idle = grind (arith, nat_tests, idle.offer_client taken h.sent)
keeps logs w v (TakesSupply taken value h t) idle = grind (arith, nat_tests, idle.offer_client taken h.sent)
keeps logs w v (TakesPlace taken h t) idle = grind (arith, nat_tests, idle.offer_client taken h.sent)
keeps logs w v (Fetches who value h k) idle = grind (arith, nat_tests)
keeps logs w v (Writes who value h) idle = grind (arith, nat_tests)
keeps logs w v (CrashesDirty who h) idle = grind (arith, nat_tests)
keeps logs w v (Reports who end h k) idle = report_keeps_idle w who end idle
keeps logs w v (Activates epoch report applied e h k) idle = activate_keeps_idle w epoch report applied e h idle
keeps logs w v step idle = grind (arith, nat_tests)

pub begins : (n : ℕ) → Idle (start n)
begins n = record {
  want_client = λ p k0. absurd k0;
  offer_client = λ g k0. absurd k0;
  report_nothing = λ y k0 k1. absurd k0;
  nothing_held = grind (arith, nat_tests);
  nothing_wanted = grind (arith, nat_tests);
  nothing_fetched = grind (arith, nat_tests);
  nothing_dirty = grind (arith, nat_tests);
  never_fallen = grind (arith, nat_tests);
  nothing_believed = grind (arith, nat_tests);
}
