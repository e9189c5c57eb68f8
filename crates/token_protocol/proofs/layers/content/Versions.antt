-- Which versions are where: holders have the newest, and the join is the newest where nobody is dirty and nobody fell. Depends on: all layers before.
use Rattle.std.proofs.Common.{◌≡◌, ◌<◌, ◌≤◌, ◌⊎◌, ℕ, suc, true, max, arith}
use Rattle.std.proofs.lemmas.Bool.Decides.{nat_tests}
use Rattle.std.proofs.lemmas.Bool.{true≢false}
use Rattle.token_protocol.specs.Basics.{In}
use Rattle.token_protocol.specs.Entry.{Row}
use Rattle.token_protocol.specs.Packets.{Offer}
use Rattle.token_protocol.specs.World.{World, start, Dirty, Live, flying_row}
use Rattle.token_protocol.specs.Premises.{SegmentFlying, OriginalFiled}
use Rattle.token_protocol.specs.Logging.{MaySealWith, MaySettle, seals_with, settles}
use Rattle.token_protocol.specs.Crashing.{MayCrashDirty, MayRestart, crashes_dirty, restarts_discarding}
use Rattle.token_protocol.specs.Cleaning.{MaySealCopy, MayDiscardCopy, seals_copy, discards_copy}
use Rattle.token_protocol.specs.Step.{Step}
use Rattle.token_protocol.specs.Step.Step.{Asks, Offers, WritesFirst, Declines, TakesAbsent, TakesSupply, TakesPlace, Fetches, Writes, Gives, SealsWith, Settles, CrashesDirty, CrashesClean, RestartsAdopting, RestartsDiscarding, Promises, SealsCopy, SettlesCopy, DiscardsCopy, Loses}
use Rattle.token_protocol.proofs.layers.bookkeeping.{Bookkeeping}
use Rattle.token_protocol.proofs.layers.tokens.{Tokens}
use Rattle.token_protocol.proofs.layers.crash.{Crash}
use Rattle.token_protocol.proofs.layers.logs.{Logs}
use Rattle.token_protocol.proofs.layers.filing.{Filing}

pub record Versions (w : World) : Type 0 where
  -- No row is newer than the newest version.
  pub rows_newest : (c : ℕ) (q : ℕ) → (w.rows c q).version ≤ w.newest
  -- The join is no newer than the newest version.
  pub join_newest : w.join_version ≤ w.newest
  -- Where the join is older than the newest version, the last writer has the block dirty, or fell with it.
  pub last_dirty : w.join_version < w.newest → Dirty w w.last_writer ⊎ (w.fallen w.last_writer ≡ 1)
  -- An owner's settled version is the join.
  pub own_settled : (c : ℕ) → (w.client c).mode ≡ 2 → (w.client c).settled ≡ w.join_version
  -- Who holds the block has the newest version.
  pub held_version : (c : ℕ) → 0 < (w.client c).mode → (w.client c).version ≡ w.newest
  -- Who fetches the block fetches the newest version.
  pub fetch_version : (c : ℕ) → (w.client c).fetching ≡ 1 → (w.client c).fetch.version ≡ w.newest
  -- What a client may still take is the newest version.
  pub offer_newest : (g : Offer) → In g w.offers → Live w g → g.entry.version ≡ w.newest
  -- Who fell with the block dirty had settled the join.
  pub fallen_low : (c : ℕ) → w.fallen c ≡ 1 → w.cut_low c ≡ w.join_version
  -- Its return may settle what was in flight, which is no newer than the newest version.
  pub fallen_high : (c : ℕ) → w.fallen c ≡ 1 → (w.cut_high c ≡ max (w.cut_low c) (flying_row w c).version) × (w.cut_high c ≤ w.newest)

-- only segments in flight and their rows change
logs_keep_versions : (w : World) (flight : ℕ → ℕ) (rows : ℕ → ℕ → Row) → ((c q : ℕ) → (rows c q).version ≤ w.newest)
    → ((c : ℕ) → w.fallen c ≡ 1 → (w.cut_high c ≡ max (w.cut_low c) (rows c (suc (w.end c))).version) × (w.cut_high c ≤ w.newest)) → Versions w
    → Versions (record w { flight = flight; rows = rows })
logs_keep_versions w flight rows rows_newest fallen_high versions = record {
  rows_newest = rows_newest;
  join_newest = versions.join_newest;
  last_dirty = versions.last_dirty;
  own_settled = versions.own_settled;
  held_version = versions.held_version;
  fetch_version = versions.fetch_version;
  offer_newest = versions.offer_newest;
  fallen_low = versions.fallen_low;
  fallen_high = fallen_high;
}

seal_with_keeps_versions : (w : World) (who : ℕ) → MaySealWith w who → Bookkeeping w → Tokens w → Crash w → Logs w → Filing w → Versions w
    → Versions (seals_with w who)
seal_with_keeps_versions w who h book tokens crash logs filing versions =
    logs_keep_versions w _ _ (λ c q. grind (arith, nat_tests, versions.rows_newest c q)) (λ c k0. grind (arith, nat_tests, versions.fallen_high c)) versions

settle_keeps_versions : (w : World) (who : ℕ) → MaySettle w who → SegmentFlying w who → Bookkeeping w → Tokens w → Crash w → Logs w → Filing w → Versions w
    → Versions (settles w who)
settle_keeps_versions w who h k book tokens crash logs filing versions = record {
  rows_newest = versions.rows_newest;
  join_newest = grind (arith, nat_tests, versions.join_newest);
  last_dirty = λ k0. grind (arith, nat_tests, versions.last_dirty);
  own_settled = λ c k0. grind (arith, nat_tests, versions.own_settled c);
  held_version = λ c k0. grind (arith, nat_tests, versions.held_version c);
  fetch_version = λ c k0. grind (arith, nat_tests, versions.fetch_version c);
  offer_newest = λ g k0 k1. grind (arith, nat_tests, versions.offer_newest g);
  fallen_low = λ c k0. grind (arith, nat_tests, versions.fallen_low c);
  fallen_high = λ c k0. grind (arith, nat_tests, versions.fallen_high c);
}

crash_dirty_keeps_versions : (w : World) (who : ℕ) → MayCrashDirty w who → Bookkeeping w → Tokens w → Crash w → Logs w → Filing w → Versions w
    → Versions (crashes_dirty w who)
crash_dirty_keeps_versions w who h book tokens crash logs filing versions = record {
  rows_newest = versions.rows_newest;
  join_newest = versions.join_newest;
  last_dirty = λ k0. grind (arith, nat_tests, versions.last_dirty);
  own_settled = λ c k0. grind (arith, nat_tests, versions.own_settled c);
  held_version = λ c k0. grind (arith, nat_tests, versions.held_version c);
  fetch_version = λ c k0. grind (arith, nat_tests, versions.fetch_version c);
  offer_newest = λ g k0 k1. grind (arith, nat_tests, versions.offer_newest g);
  fallen_low = λ c k0. grind (arith, nat_tests, versions.fallen_low c);
  fallen_high = λ c k0. grind (arith, nat_tests, versions.fallen_high c);
}

restart_discarding_keeps_versions : (w : World) (who incarnation promised : ℕ) → MayRestart w who incarnation promised
    → Bookkeeping w → Tokens w → Crash w → Logs w → Filing w → Versions w → Versions (restarts_discarding w who incarnation promised)
restart_discarding_keeps_versions w who incarnation promised h book tokens crash logs filing versions = record {
  rows_newest = λ c q. grind (arith, nat_tests, versions.rows_newest c q);
  join_newest = grind (arith, nat_tests, versions.join_newest);
  last_dirty = λ k0. grind (arith, nat_tests, versions.last_dirty);
  own_settled = λ c k0. grind (arith, nat_tests, versions.own_settled c);
  held_version = λ c k0. grind (arith, nat_tests, versions.held_version c);
  fetch_version = λ c k0. grind (arith, nat_tests, versions.fetch_version c);
  offer_newest = λ g k0 k1. grind (arith, nat_tests, versions.offer_newest g);
  fallen_low = λ c k0. grind (arith, nat_tests, versions.fallen_low c);
  fallen_high = λ c k0. grind (arith, nat_tests, versions.fallen_high c);
}

seal_copy_keeps_versions : (w : World) (who log segment : ℕ) → MaySealCopy w who → OriginalFiled w log segment → Bookkeeping w → Tokens w → Crash w → Logs w
    → Filing w
    → Versions w → Versions (seals_copy w who log segment)
seal_copy_keeps_versions w who log segment h k book tokens crash logs filing versions =
    logs_keep_versions w _ _ (λ c q. grind (arith, nat_tests, versions.rows_newest c q)) (λ c k0. grind (arith, nat_tests, versions.fallen_high c)) versions

discard_copy_keeps_versions : (w : World) (who : ℕ) → MayDiscardCopy w who → Bookkeeping w → Tokens w → Crash w → Logs w → Filing w → Versions w
    → Versions (discards_copy w who)
discard_copy_keeps_versions w who h book tokens crash logs filing versions =
    logs_keep_versions w _ _ (λ c q. grind (arith, nat_tests, versions.rows_newest c q)) (λ c k0. grind (arith, nat_tests, versions.fallen_high c)) versions

pub keeps : (w v : World) → Step true w v → Bookkeeping w → Tokens w → Crash w → Logs w → Filing w → Versions w → Versions v
keeps w v (Asks who mode request end h k) book tokens crash logs filing versions = grind (arith, nat_tests)
keeps w v (Offers asked h k) book tokens crash logs filing versions = grind (arith, nat_tests)
keeps w v (WritesFirst taken value h) book tokens crash logs filing versions = grind (arith, nat_tests)
keeps w v (Declines taken h) book tokens crash logs filing versions = grind (arith, nat_tests)
keeps w v (TakesAbsent taken h t) book tokens crash logs filing versions = grind (arith, nat_tests)
keeps w v (TakesSupply taken value h t) book tokens crash logs filing versions = grind (arith, nat_tests)
keeps w v (TakesPlace taken h t) book tokens crash logs filing versions = grind (arith, nat_tests)
keeps w v (Fetches who value h k) book tokens crash logs filing versions = grind (arith, nat_tests)
keeps w v (Writes who value h) book tokens crash logs filing versions = grind (arith, nat_tests)
keeps w v (Gives answered end h k) book tokens crash logs filing versions = grind (arith, nat_tests)
keeps w v (SealsWith who h) book tokens crash logs filing versions = seal_with_keeps_versions w who h book tokens crash logs filing versions
keeps w v (Settles who h k) book tokens crash logs filing versions = settle_keeps_versions w who h k book tokens crash logs filing versions
keeps w v (CrashesDirty who h) book tokens crash logs filing versions = crash_dirty_keeps_versions w who h book tokens crash logs filing versions
keeps w v (CrashesClean who h) book tokens crash logs filing versions = grind (arith, nat_tests)
keeps w v (RestartsAdopting who incarnation promised h k) book tokens crash logs filing versions = grind (arith, nat_tests)
keeps w v (RestartsDiscarding who incarnation promised h) book tokens crash logs filing versions =
    restart_discarding_keeps_versions w who incarnation promised h book tokens crash logs filing versions
keeps w v (Promises who epoch h) book tokens crash logs filing versions = grind (arith, nat_tests)
keeps w v (SealsCopy who log segment h k) book tokens crash logs filing versions =
    seal_copy_keeps_versions w who log segment h k book tokens crash logs filing versions
keeps w v (SettlesCopy who h) book tokens crash logs filing versions = grind (arith, nat_tests)
keeps w v (DiscardsCopy who h) book tokens crash logs filing versions = discard_copy_keeps_versions w who h book tokens crash logs filing versions
keeps w v (Loses x h) book tokens crash logs filing versions = absurd (true≢false h)
keeps w v step book tokens crash logs filing versions = grind (arith, nat_tests)

pub begins : (n : ℕ) → Versions (start n)
begins n = record {
  rows_newest = λ c q. grind (arith, nat_tests);
  join_newest = grind (arith, nat_tests);
  last_dirty = λ k0. grind (arith, nat_tests);
  own_settled = λ c k0. grind (arith, nat_tests);
  held_version = λ c k0. grind (arith, nat_tests);
  fetch_version = λ c k0. grind (arith, nat_tests);
  offer_newest = λ g k0 k1. absurd k0;
  fallen_low = λ c k0. grind (arith, nat_tests);
  fallen_high = λ c k0. grind (arith, nat_tests);
}
