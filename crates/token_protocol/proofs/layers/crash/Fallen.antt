-- Who fell with the block dirty is down, is believed to own it, and has said nothing to the contrary. Depends on: bookkeeping, tokens.
use Rattle.std.proofs.Common.{◌≡◌, ◌<◌, ◌≤◌, ℕ, suc, Bool, arith}
use Rattle.std.proofs.lemmas.Bool.Decides.{nat_tests}
use Rattle.token_protocol.specs.Basics.{In}
use Rattle.token_protocol.specs.Entry.{Entry}
use Rattle.token_protocol.specs.Packets.{Want, Recall, Gave, Report}
use Rattle.token_protocol.specs.World.{World, start}
use Rattle.token_protocol.specs.Managing.{MayOffer, MayRecall, MayNote, offers, recalls, notes}
use Rattle.token_protocol.specs.Giving.{MayGive, MayGiveAgain, gives, gives_again}
use Rattle.token_protocol.specs.Crashing.{MayCrashDirty, MayRestart, crashes_dirty, restarts_adopting, restarts_discarding}
use Rattle.token_protocol.specs.Takeover.{MayReport, MayActivate, reports, activates}
use Rattle.token_protocol.specs.Step.{Step}
use Rattle.token_protocol.specs.Step.Step.{Offers, Recalls, Gives, GivesAgain, Notes, CrashesDirty, RestartsAdopting, RestartsDiscarding, Reports, Activates}
use Rattle.token_protocol.proofs.layers.bookkeeping.{Bookkeeping}
use Rattle.token_protocol.proofs.layers.tokens.{Tokens}

pub record Fallen (w : World) : Type 0 where
  -- A number that names no client never fell.
  pub outsider_fallen : (c : ℕ) → w.members ≤ c → w.fallen c ≡ 0
  -- Who fell and has not returned is down.
  pub fallen_down : (c : ℕ) → w.fallen c ≡ 1 → (w.client c).serving ≡ 0
  -- Who fell with the block dirty is believed to own it.
  pub fallen_believed : (c : ℕ) → w.fallen c ≡ 1 → w.belief c ≡ 2
  -- Who fell with the block dirty has given nothing for the awaited Recall.
  pub fallen_given : (c : ℕ) (x : Gave) → w.fallen c ≡ 1 → In x w.gaves → x.client ≡ c → w.awaited c ≡ x.stamp → ⊥
  -- Who fell with the block dirty has reported for later epochs that it owns it.
  pub report_fallen : (y : Report) → In y w.reports → w.epoch < y.epoch → w.fallen y.client ≡ 1 → y.mode ≡ 2

offer_keeps_fallen : (w : World) (asked : Want) → MayOffer w asked → Bookkeeping w → Tokens w → Fallen w → Fallen (offers w asked)
offer_keeps_fallen w asked h book tokens fallen = record {
  outsider_fallen = fallen.outsider_fallen;
  fallen_down = fallen.fallen_down;
  fallen_believed = λ c k0. grind (arith, nat_tests, fallen.fallen_believed c, book.asking.want_mode asked h.sent);
  fallen_given = fallen.fallen_given;
  report_fallen = fallen.report_fallen;
}

recall_keeps_fallen : (w : World) (who keep : ℕ) → MayRecall keep → Bookkeeping w → Tokens w → Fallen w → Fallen (recalls w who keep)
recall_keeps_fallen w who keep h book tokens fallen = record {
  outsider_fallen = fallen.outsider_fallen;
  fallen_down = fallen.fallen_down;
  fallen_believed = fallen.fallen_believed;
  fallen_given = λ c x k0 k1 k2 k3. grind (arith, nat_tests, fallen.fallen_given c x, book.stamps.gave_turn x k1);
  report_fallen = fallen.report_fallen;
}

give_keeps_fallen : (w : World) (answered : Recall) (end : ℕ) → MayGive w answered → Bookkeeping w → Tokens w → Fallen w → Fallen (gives w answered end)
give_keeps_fallen w answered end h book tokens fallen = record {
  outsider_fallen = fallen.outsider_fallen;
  fallen_down = λ c k0. grind (arith, nat_tests, fallen.fallen_down c);
  fallen_believed = fallen.fallen_believed;
  fallen_given = λ c x k0 k1 k2 k3. grind (arith, nat_tests, fallen.fallen_given c x);
  report_fallen = fallen.report_fallen;
}

give_again_keeps_fallen : (w : World) (answered : Recall) (end : ℕ) → MayGiveAgain w answered → Bookkeeping w → Tokens w → Fallen w
    → Fallen (gives_again w answered end)
give_again_keeps_fallen w answered end h book tokens fallen = record {
  outsider_fallen = fallen.outsider_fallen;
  fallen_down = fallen.fallen_down;
  fallen_believed = fallen.fallen_believed;
  fallen_given = λ c x k0 k1 k2 k3. grind (arith, nat_tests, fallen.fallen_given c x);
  report_fallen = fallen.report_fallen;
}

note_keeps_fallen : (w : World) (noted : Gave) → MayNote w noted → Bookkeeping w → Tokens w → Fallen w → Fallen (notes w noted)
note_keeps_fallen w noted h book tokens fallen = record {
  outsider_fallen = fallen.outsider_fallen;
  fallen_down = fallen.fallen_down;
  fallen_believed = λ c k0. grind (arith, nat_tests, fallen.fallen_believed c, fallen.fallen_given c noted k0 h.sent);
  fallen_given = λ c x k0 k1 k2 k3. grind (arith, nat_tests, fallen.fallen_given c x, book.stamps.gave_positive x k1);
  report_fallen = fallen.report_fallen;
}

crash_dirty_keeps_fallen : (w : World) (who : ℕ) → MayCrashDirty w who → Bookkeeping w → Tokens w → Fallen w → Fallen (crashes_dirty w who)
crash_dirty_keeps_fallen w who h book tokens fallen = record {
  outsider_fallen = λ c k0. grind (arith, nat_tests, fallen.outsider_fallen c);
  fallen_down = λ c k0. grind (arith, nat_tests, fallen.fallen_down c);
  fallen_believed =
      λ c k0. grind (arith, nat_tests, fallen.fallen_believed c, tokens.believing.covers c, book.asking.dirty_owned c, tokens.believing.single c (suc c));
  fallen_given = λ c x k0 k1 k2 k3. grind (
    arith,
    nat_tests,
    fallen.fallen_given c x,
    tokens.giving.given_mode x k1,
    book.asking.dirty_owned who,
    book.awaiting.keep_small who,
    book.stamps.gave_positive x k1,
  );
  report_fallen = λ y k0 k1 k2. grind (
    arith,
    nat_tests,
    fallen.report_fallen y,
    tokens.reporting.report_mode y k0 k1,
    book.asking.dirty_owned who,
    tokens.believing.report_belief y k0 k1,
    tokens.believing.single y.client (suc y.client),
  );
}

restart_adopting_keeps_fallen : (w : World) (who incarnation promised : ℕ) → MayRestart w who incarnation promised → Bookkeeping w → Tokens w → Fallen w
    → Fallen (restarts_adopting w who incarnation promised)
restart_adopting_keeps_fallen w who incarnation promised h book tokens fallen = record {
  outsider_fallen = λ c k0. grind (arith, nat_tests, fallen.outsider_fallen c);
  fallen_down = λ c k0. grind (arith, nat_tests, fallen.fallen_down c);
  fallen_believed = λ c k0. grind (arith, nat_tests, fallen.fallen_believed c);
  fallen_given = λ c x k0 k1 k2 k3. grind (arith, nat_tests, fallen.fallen_given c x);
  report_fallen = λ y k0 k1 k2. grind (arith, nat_tests, fallen.report_fallen y);
}

restart_discarding_keeps_fallen : (w : World) (who incarnation promised : ℕ) → MayRestart w who incarnation promised → Bookkeeping w → Tokens w → Fallen w
    → Fallen (restarts_discarding w who incarnation promised)
restart_discarding_keeps_fallen w who incarnation promised h book tokens fallen = record {
  outsider_fallen = λ c k0. grind (arith, nat_tests, fallen.outsider_fallen c);
  fallen_down = λ c k0. grind (arith, nat_tests, fallen.fallen_down c);
  fallen_believed = λ c k0. grind (arith, nat_tests, fallen.fallen_believed c);
  fallen_given = λ c x k0 k1 k2 k3. grind (arith, nat_tests, fallen.fallen_given c x);
  report_fallen = λ y k0 k1 k2. grind (arith, nat_tests, fallen.report_fallen y);
}

report_keeps_fallen : (w : World) (who end : ℕ) → MayReport w who → Bookkeeping w → Tokens w → Fallen w → Fallen (reports w who end)
report_keeps_fallen w who end h book tokens fallen = record {
  outsider_fallen = fallen.outsider_fallen;
  fallen_down = fallen.fallen_down;
  fallen_believed = fallen.fallen_believed;
  fallen_given = fallen.fallen_given;
  report_fallen = λ y k0 k1 k2. grind (arith, nat_tests, fallen.report_fallen y);
}

activate_keeps_fallen : (w : World) (epoch : ℕ) (report : ℕ → Report) (applied : ℕ → ℕ) (e : Entry) → MayActivate w epoch report → Bookkeeping w → Tokens w
    → Fallen w
    → Fallen (activates w epoch report applied e)
activate_keeps_fallen w epoch report applied e h book tokens fallen = record {
  outsider_fallen = λ c k0. grind (arith, nat_tests, fallen.outsider_fallen c);
  fallen_down = λ c k0. grind (arith, nat_tests, fallen.fallen_down c);
  fallen_believed = λ c k0. grind (
    arith,
    nat_tests,
    fallen.fallen_believed c,
    h.sent c,
    h.sender c,
    h.asked c,
    fallen.report_fallen (report c),
    fallen.outsider_fallen c,
  );
  fallen_given = λ c x k0 k1 k2 k3. grind (arith, nat_tests, fallen.fallen_given c x);
  report_fallen = λ y k0 k1 k2. grind (arith, nat_tests, fallen.report_fallen y);
}

pub keeps : (logs : Bool) (w v : World) → Step logs w v → Bookkeeping w → Tokens w → Fallen w → Fallen v
keeps logs w v (Offers asked h k) book tokens fallen = offer_keeps_fallen w asked h book tokens fallen
keeps logs w v (Recalls who keep h) book tokens fallen = recall_keeps_fallen w who keep h book tokens fallen
keeps logs w v (Gives answered end h k) book tokens fallen = give_keeps_fallen w answered end h book tokens fallen
keeps logs w v (GivesAgain answered end h k) book tokens fallen = give_again_keeps_fallen w answered end h book tokens fallen
keeps logs w v (Notes noted h) book tokens fallen = note_keeps_fallen w noted h book tokens fallen
keeps logs w v (CrashesDirty who h) book tokens fallen = crash_dirty_keeps_fallen w who h book tokens fallen
keeps logs w v (RestartsAdopting who incarnation promised h k) book tokens fallen =
    restart_adopting_keeps_fallen w who incarnation promised h book tokens fallen
keeps logs w v (RestartsDiscarding who incarnation promised h) book tokens fallen =
    restart_discarding_keeps_fallen w who incarnation promised h book tokens fallen
keeps logs w v (Reports who end h k) book tokens fallen = report_keeps_fallen w who end h book tokens fallen
keeps logs w v (Activates epoch report applied e h k) book tokens fallen = activate_keeps_fallen w epoch report applied e h book tokens fallen
keeps logs w v step book tokens fallen = grind (arith, nat_tests)

pub begins : (n : ℕ) → Fallen (start n)
begins n = record {
  outsider_fallen = λ c k0. grind (arith, nat_tests);
  fallen_down = λ c k0. grind (arith, nat_tests);
  fallen_believed = λ c k0. grind (arith, nat_tests);
  fallen_given = λ c x k0 k1 k2 k3. absurd k1;
  report_fallen = λ y k0 k1 k2. absurd k0;
}
