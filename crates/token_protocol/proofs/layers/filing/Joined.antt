-- The join over what is filed; the cleaner's copies are of filed rows. Depends on: bookkeeping, rows.
use Rattle.std.proofs.Common.{◌≡◌, ◌<◌, ◌≤◌, ℕ, true, arith}
use Rattle.std.proofs.lemmas.Bool.Decides.{nat_tests}
use Rattle.std.proofs.lemmas.Bool.{true≢false}
use Rattle.token_protocol.specs.World.{World, start, flying_row}
use Rattle.token_protocol.specs.Premises.{OriginalFiled}
use Rattle.token_protocol.specs.Logging.{MaySealWith, seals_with}
use Rattle.token_protocol.specs.Crashing.{MayRestart, restarts_discarding}
use Rattle.token_protocol.specs.Cleaning.{MaySealCopy, MayDiscardCopy, seals_copy, discards_copy}
use Rattle.token_protocol.specs.Step.{Step}
use Rattle.token_protocol.specs.Step.Step.{SealsWith, RestartsDiscarding, SealsCopy, SettlesCopy, DiscardsCopy, Loses}
use Rattle.token_protocol.proofs.layers.bookkeeping.{Bookkeeping}
use Rattle.token_protocol.proofs.layers.logs.{Logs}

pub record Joined (w : World) : Type 0 where
  -- No filed row is above the join.
  pub rows_join : (c : ℕ) (q : ℕ) → q ≤ w.end c → (w.rows c q).version ≤ w.join_version
  -- The row that a cleaner has in flight is no newer than the join.
  pub copy_join : (c : ℕ) → w.members ≤ c → (flying_row w c).version ≤ w.join_version
  -- A filed row of a client has the join's version.
  pub join_row : 0 < w.join_version
      → ((w.rows w.join_log w.join_segment).version ≡ w.join_version) × (w.join_segment ≤ w.end w.join_log) × (w.join_log < w.members)

seal_with_keeps_joined : (w : World) (who : ℕ) → MaySealWith w who → Bookkeeping w → Logs w → Joined w → Joined (seals_with w who)
seal_with_keeps_joined w who h book logs joined = record {
  rows_join = λ c q k0. grind (arith, nat_tests, joined.rows_join c q);
  copy_join = λ c k0. grind (arith, nat_tests, joined.copy_join c);
  join_row = λ k0. grind (arith, nat_tests, joined.join_row);
}

restart_discarding_keeps_joined : (w : World) (who incarnation promised : ℕ) → MayRestart w who incarnation promised → Bookkeeping w → Logs w → Joined w
    → Joined (restarts_discarding w who incarnation promised)
restart_discarding_keeps_joined w who incarnation promised h book logs joined = record {
  rows_join = λ c q k0. grind (arith, nat_tests, joined.rows_join c q);
  copy_join = λ c k0. grind (arith, nat_tests, joined.copy_join c);
  join_row = λ k0. grind (arith, nat_tests, joined.join_row);
}

seal_copy_keeps_joined : (w : World) (who log segment : ℕ) → MaySealCopy w who → OriginalFiled w log segment → Bookkeeping w → Logs w → Joined w
    → Joined (seals_copy w who log segment)
seal_copy_keeps_joined w who log segment h k book logs joined = record {
  rows_join = λ c q k0. grind (arith, nat_tests, joined.rows_join c q);
  copy_join = λ c k0. grind (arith, nat_tests, joined.copy_join c, joined.rows_join log segment);
  join_row = λ k0. grind (arith, nat_tests, joined.join_row);
}

discard_copy_keeps_joined : (w : World) (who : ℕ) → MayDiscardCopy w who → Bookkeeping w → Logs w → Joined w → Joined (discards_copy w who)
discard_copy_keeps_joined w who h book logs joined = record {
  rows_join = λ c q k0. grind (arith, nat_tests, joined.rows_join c q);
  copy_join = λ c k0. grind (arith, nat_tests, joined.copy_join c);
  join_row = λ k0. grind (arith, nat_tests, joined.join_row);
}

pub keeps : (w v : World) → Step true w v → Bookkeeping w → Logs w → Joined w → Joined v
keeps w v (SealsWith who h) book logs joined = seal_with_keeps_joined w who h book logs joined
keeps w v (RestartsDiscarding who incarnation promised h) book logs joined = restart_discarding_keeps_joined w who incarnation promised h book logs joined
keeps w v (SealsCopy who log segment h k) book logs joined = seal_copy_keeps_joined w who log segment h k book logs joined
keeps w v (SettlesCopy who h) book logs joined = grind (arith, nat_tests)
keeps w v (DiscardsCopy who h) book logs joined = discard_copy_keeps_joined w who h book logs joined
keeps w v (Loses x h) book logs joined = absurd (true≢false h)
keeps w v step book logs joined = grind (arith, nat_tests)

pub begins : (n : ℕ) → Joined (start n)
begins n = record {
  rows_join = λ c q k0. grind (arith, nat_tests);
  copy_join = λ c k0. grind (arith, nat_tests);
  join_row = λ k0. grind (arith, nat_tests);
}
