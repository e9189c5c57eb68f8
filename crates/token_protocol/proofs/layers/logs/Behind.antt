-- What is sealed and not yet applied is an owner's, or stands at or below an end that was named. Depends on: bookkeeping, tokens, crash, rows, flight.
use Rattle.std.proofs.Common.{◌≡◌, ◌<◌, ◌≤◌, ℕ, true, arith}
use Rattle.std.proofs.lemmas.Bool.Decides.{nat_tests}
use Rattle.std.proofs.lemmas.Bool.{true≢false}
use Rattle.token_protocol.specs.Basics.{In}
use Rattle.token_protocol.specs.Entry.{Entry}
use Rattle.token_protocol.specs.Packets.{Want, Recall, Gave, Report}
use Rattle.token_protocol.specs.World.{World, start}
use Rattle.token_protocol.specs.Premises.{SettledEnd, IndexGathered, OriginalFiled}
use Rattle.token_protocol.specs.Managing.{MayRecall, MayNote, recalls, notes}
use Rattle.token_protocol.specs.Giving.{MayGiveAgain, gives_again}
use Rattle.token_protocol.specs.Logging.{MaySealWith, seals_with}
use Rattle.token_protocol.specs.Crashing.{MayRestart, restarts_discarding}
use Rattle.token_protocol.specs.Takeover.{MayActivate, activates}
use Rattle.token_protocol.specs.Cleaning.{MaySealCopy, MayDiscardCopy, seals_copy, discards_copy}
use Rattle.token_protocol.specs.Step.{Step}
use Rattle.token_protocol.specs.Step.Step.{Asks, AsksAgain, Recalls, Gives, GivesAgain, Notes, Applies, SealsWith, RestartsAdopting, RestartsDiscarding, Reports, Activates, SealsCopy, DiscardsCopy, Loses}
use Rattle.token_protocol.proofs.layers.bookkeeping.{Bookkeeping}
use Rattle.token_protocol.proofs.layers.tokens.{Tokens}
use Rattle.token_protocol.proofs.layers.crash.{Crash}
use Rattle.token_protocol.proofs.layers.logs.Rows.{Rows}
use Rattle.token_protocol.proofs.layers.logs.Flight.{Flight}

pub record Behind (w : World) : Type 0 where
  -- A row of a client that is not applied is of a believed owner, or at or below the end that it owes.
  pub unapplied : (c : ℕ) (q : ℕ) → c < w.members → w.applied c < q → 0 < (w.rows c q).version → w.belief c ≤ 1 → q ≤ w.owed c
  -- Every row of who gave for the awaited Recall is at or below the end that it named.
  pub unapplied_gave : (x : Gave) (q : ℕ) → In x w.gaves → w.awaited x.client ≡ x.stamp → 0 < (w.rows x.client q).version → q ≤ x.end
  -- Every row of who has a want open is at or below the end that it named.
  pub unapplied_want : (p : Want) (q : ℕ) → In p w.wants → 0 < (w.client p.client).want → (w.client p.client).incarnation ≡ p.incarnation
      → (w.client p.client).request ≡ p.request → 0 < (w.rows p.client q).version → q ≤ p.end
  -- Every row of who reports for a later epoch that it does not own is at or below the end that it named.
  pub unapplied_report : (y : Report) (q : ℕ) → In y w.reports → w.epoch < y.epoch → y.mode ≤ 1 → 0 < (w.rows y.client q).version → q ≤ y.end

recall_keeps_behind : (w : World) (who keep : ℕ) → MayRecall keep → Bookkeeping w → Tokens w → Crash w → Rows w → Flight w → Behind w
    → Behind (recalls w who keep)
recall_keeps_behind w who keep h book tokens crash rows flight behind = record {
  unapplied = behind.unapplied;
  unapplied_gave = λ x q k0 k1 k2. grind (arith, nat_tests, behind.unapplied_gave x q, book.stamps.gave_turn x k0);
  unapplied_want = behind.unapplied_want;
  unapplied_report = behind.unapplied_report;
}

give_again_keeps_behind : (w : World) (answered : Recall) (end : ℕ) → MayGiveAgain w answered → SettledEnd w answered.client end → Bookkeeping w → Tokens w
    → Crash w
    → Rows w → Flight w → Behind w → Behind (gives_again w answered end)
give_again_keeps_behind w answered end h k book tokens crash rows flight behind = record {
  unapplied = behind.unapplied;
  unapplied_gave = λ x q k0 k1 k2. grind (
    arith,
    nat_tests,
    behind.unapplied_gave x q,
    tokens.giving.recalled answered h.sent h.equal,
    book.stamps.recall_small answered h.sent,
  );
  unapplied_want = behind.unapplied_want;
  unapplied_report = behind.unapplied_report;
}

note_keeps_behind : (w : World) (noted : Gave) → MayNote w noted → Bookkeeping w → Tokens w → Crash w → Rows w → Flight w → Behind w → Behind (notes w noted)
note_keeps_behind w noted h book tokens crash rows flight behind = record {
  unapplied = λ c q k0 k1 k2 k3. grind (arith, nat_tests, behind.unapplied c q);
  unapplied_gave = λ x q k0 k1 k2. grind (arith, nat_tests, behind.unapplied_gave x q, book.stamps.gave_positive x k0);
  unapplied_want = behind.unapplied_want;
  unapplied_report = behind.unapplied_report;
}

seal_with_keeps_behind : (w : World) (who : ℕ) → MaySealWith w who → Bookkeeping w → Tokens w → Crash w → Rows w → Flight w → Behind w
    → Behind (seals_with w who)
seal_with_keeps_behind w who h book tokens crash rows flight behind = record {
  unapplied = λ c q k0 k1 k2 k3. grind (arith, nat_tests, behind.unapplied c q);
  unapplied_gave = λ x q k0 k1 k2. grind (
    arith,
    nat_tests,
    behind.unapplied_gave x q,
    tokens.giving.given_mode x k0 k1,
    book.awaiting.keep_small x.client,
    book.stamps.gave_positive x k0,
  );
  unapplied_want = λ p q k0 k1 k2 k3 k4. grind (arith, nat_tests, behind.unapplied_want p q);
  unapplied_report = λ y q k0 k1 k2 k3. grind (arith, nat_tests, behind.unapplied_report y q);
}

restart_discarding_keeps_behind : (w : World) (who incarnation promised : ℕ) → MayRestart w who incarnation promised → Bookkeeping w → Tokens w → Crash w
    → Rows w
    → Flight w → Behind w → Behind (restarts_discarding w who incarnation promised)
restart_discarding_keeps_behind w who incarnation promised h book tokens crash rows flight behind = record {
  unapplied = λ c q k0 k1 k2 k3. grind (arith, nat_tests, behind.unapplied c q);
  unapplied_gave = λ x q k0 k1 k2. grind (arith, nat_tests, behind.unapplied_gave x q);
  unapplied_want = λ p q k0 k1 k2 k3 k4. grind (arith, nat_tests, behind.unapplied_want p q);
  unapplied_report = λ y q k0 k1 k2 k3. grind (arith, nat_tests, behind.unapplied_report y q);
}

activate_keeps_behind : (w : World) (epoch : ℕ) (report : ℕ → Report) (applied : ℕ → ℕ) (e : Entry) → MayActivate w epoch report
    → IndexGathered w report applied e
    → Bookkeeping w → Tokens w → Crash w → Rows w → Flight w → Behind w → Behind (activates w epoch report applied e)
activate_keeps_behind w epoch report applied e h k book tokens crash rows flight behind = record {
  unapplied = λ c q k0 k1 k2 k3. grind
      (arith, nat_tests, behind.unapplied c q, h.sent c, h.sender c, h.asked c, behind.unapplied_report (report c) q, k.reported c);
  unapplied_gave = λ x q k0 k1 k2. grind (arith, nat_tests, behind.unapplied_gave x q);
  unapplied_want = λ p q k0 k1 k2 k3 k4. grind (arith, nat_tests, behind.unapplied_want p q);
  unapplied_report = λ y q k0 k1 k2 k3. grind (arith, nat_tests, behind.unapplied_report y q);
}

seal_copy_keeps_behind : (w : World) (who log segment : ℕ) → MaySealCopy w who → OriginalFiled w log segment → Bookkeeping w → Tokens w → Crash w → Rows w
    → Flight w
    → Behind w → Behind (seals_copy w who log segment)
seal_copy_keeps_behind w who log segment h k book tokens crash rows flight behind = record {
  unapplied = λ c q k0 k1 k2 k3. grind (arith, nat_tests, behind.unapplied c q);
  unapplied_gave = λ x q k0 k1 k2. grind (arith, nat_tests, behind.unapplied_gave x q, book.stamps.gave_member x k0);
  unapplied_want = λ p q k0 k1 k2 k3 k4. grind (arith, nat_tests, behind.unapplied_want p q, book.asking.want_member p k0);
  unapplied_report = λ y q k0 k1 k2 k3. grind (arith, nat_tests, behind.unapplied_report y q, book.promising.report_member y k0);
}

discard_copy_keeps_behind : (w : World) (who : ℕ) → MayDiscardCopy w who → Bookkeeping w → Tokens w → Crash w → Rows w → Flight w → Behind w
    → Behind (discards_copy w who)
discard_copy_keeps_behind w who h book tokens crash rows flight behind = record {
  unapplied = λ c q k0 k1 k2 k3. grind (arith, nat_tests, behind.unapplied c q);
  unapplied_gave = λ x q k0 k1 k2. grind (arith, nat_tests, behind.unapplied_gave x q);
  unapplied_want = λ p q k0 k1 k2 k3 k4. grind (arith, nat_tests, behind.unapplied_want p q);
  unapplied_report = λ y q k0 k1 k2 k3. grind (arith, nat_tests, behind.unapplied_report y q);
}

pub keeps : (w v : World) → Step true w v → Bookkeeping w → Tokens w → Crash w → Rows w → Flight w → Behind w → Behind v
keeps w v (Asks who mode request end h k) book tokens crash rows flight behind = grind (arith, nat_tests)
keeps w v (AsksAgain who end h k) book tokens crash rows flight behind = grind (arith, nat_tests)
keeps w v (Recalls who keep h) book tokens crash rows flight behind = recall_keeps_behind w who keep h book tokens crash rows flight behind
keeps w v (Gives answered end h k) book tokens crash rows flight behind = grind (arith, nat_tests)
keeps w v (GivesAgain answered end h k) book tokens crash rows flight behind = give_again_keeps_behind w answered end h k book tokens crash rows flight behind
keeps w v (Notes noted h) book tokens crash rows flight behind = note_keeps_behind w noted h book tokens crash rows flight behind
keeps w v (Applies who upto e h k) book tokens crash rows flight behind = grind (arith, nat_tests)
keeps w v (SealsWith who h) book tokens crash rows flight behind = seal_with_keeps_behind w who h book tokens crash rows flight behind
keeps w v (RestartsAdopting who incarnation promised h k) book tokens crash rows flight behind = grind (arith, nat_tests)
keeps w v (RestartsDiscarding who incarnation promised h) book tokens crash rows flight behind =
    restart_discarding_keeps_behind w who incarnation promised h book tokens crash rows flight behind
keeps w v (Reports who end h k) book tokens crash rows flight behind = grind (arith, nat_tests)
keeps w v (Activates epoch report applied e h k) book tokens crash rows flight behind =
    activate_keeps_behind w epoch report applied e h k book tokens crash rows flight behind
keeps w v (SealsCopy who log segment h k) book tokens crash rows flight behind =
    seal_copy_keeps_behind w who log segment h k book tokens crash rows flight behind
keeps w v (DiscardsCopy who h) book tokens crash rows flight behind = discard_copy_keeps_behind w who h book tokens crash rows flight behind
keeps w v (Loses x h) book tokens crash rows flight behind = absurd (true≢false h)
keeps w v step book tokens crash rows flight behind = grind (arith, nat_tests)

pub begins : (n : ℕ) → Behind (start n)
begins n = record {
  unapplied = λ c q k0 k1 k2 k3. grind (arith, nat_tests);
  unapplied_gave = λ x q k0 k1 k2. absurd k0;
  unapplied_want = λ p q k0 k1 k2 k3 k4. absurd k0;
  unapplied_report = λ y q k0 k1 k2 k3. absurd k0;
}
