-- The log of member 0, the cleaner, is empty: its copies stand in another log. Depends on: the cleaner does nothing, rows.
use Rattle.std.proofs.Common.{◌≡◌, ◌<◌, ℕ, true, arith}
use Rattle.std.proofs.lemmas.Bool.Decides.{nat_tests}
use Rattle.std.proofs.lemmas.Bool.{true≢false}
use Rattle.token_protocol.specs.World.{World, start}
use Rattle.token_protocol.specs.Logging.{MaySealWith, seals_with}
use Rattle.token_protocol.specs.Crashing.{restarts_discarding}
use Rattle.token_protocol.specs.Cleaning.{MaySealCopy, seals_copy, discards_copy}
use Rattle.token_protocol.specs.Step.{Step}
use Rattle.token_protocol.specs.Step.Step.{SealsWith, Seals, Settles, RestartsAdopting, RestartsDiscarding, SealsCopy, SealsOther, SettlesCopy, DiscardsCopy, Loses}
use Rattle.token_protocol.proofs.layers.cleaner.Idle.{Idle}

pub record Empty (w : World) : Type 0 where
  -- Nothing of it is in flight.
  pub nothing_flying : 0 < w.members → w.flight 0 ≡ 0
  -- Nothing of it is filed.
  pub nothing_filed : 0 < w.members → w.end 0 ≡ 0
  -- It has no row.
  pub no_rows : (q : ℕ) → 0 < w.members → (w.rows 0 q).version ≡ 0

seal_with_keeps_empty : (w : World) (who : ℕ) → MaySealWith w who → Idle w → Empty w → Empty (seals_with w who)
seal_with_keeps_empty w who h idle empty = record {
  nothing_flying = λ k0. grind (arith, nat_tests, h.dirty, idle.nothing_dirty, empty.nothing_flying);
  nothing_filed = empty.nothing_filed;
  no_rows = λ q k0. grind (arith, nat_tests, h.dirty, idle.nothing_dirty, empty.no_rows q);
}

restart_discarding_keeps_empty : (w : World) (who incarnation promised : ℕ) → Idle w → Empty w → Empty (restarts_discarding w who incarnation promised)
restart_discarding_keeps_empty w who incarnation promised idle empty = record {
  nothing_flying = λ k0. grind (arith, nat_tests, empty.nothing_flying);
  nothing_filed = empty.nothing_filed;
  no_rows = λ q k0. grind (arith, nat_tests, empty.no_rows q);
}

seal_copy_keeps_empty : (w : World) (who log segment : ℕ) → MaySealCopy w who → Idle w → Empty w → Empty (seals_copy w who log segment)
seal_copy_keeps_empty w who log segment h idle empty = record {
  nothing_flying = λ k0. grind (arith, nat_tests, empty.nothing_flying, h.outsider);
  nothing_filed = empty.nothing_filed;
  no_rows = λ q k0. grind (arith, nat_tests, empty.no_rows q, h.outsider);
}

discard_copy_keeps_empty : (w : World) (who : ℕ) → Idle w → Empty w → Empty (discards_copy w who)
discard_copy_keeps_empty w who idle empty = record {
  nothing_flying = λ k0. grind (arith, nat_tests, empty.nothing_flying);
  nothing_filed = empty.nothing_filed;
  no_rows = λ q k0. grind (arith, nat_tests, empty.no_rows q);
}

pub keeps : (w v : World) → Step true w v → Idle w → Empty w → Empty v
keeps w v (SealsWith who h) idle empty = seal_with_keeps_empty w who h idle empty
keeps w v (Seals who h) idle empty = grind (arith, nat_tests)
keeps w v (Settles who h k) idle empty = grind (arith, nat_tests)
keeps w v (RestartsAdopting who incarnation promised h k) idle empty = grind (arith, nat_tests)
keeps w v (RestartsDiscarding who incarnation promised h) idle empty = restart_discarding_keeps_empty w who incarnation promised idle empty
keeps w v (SealsCopy who log segment h k) idle empty = seal_copy_keeps_empty w who log segment h idle empty
keeps w v (SealsOther who h) idle empty = grind (arith, nat_tests)
keeps w v (SettlesCopy who h) idle empty = grind (arith, nat_tests)
keeps w v (DiscardsCopy who h) idle empty = discard_copy_keeps_empty w who idle empty
keeps w v (Loses x h) idle empty = absurd (true≢false h)
keeps w v step idle empty = grind (arith, nat_tests)

pub begins : (n : ℕ) → Empty (start n)
begins n = record {
  nothing_flying = λ k0. grind (arith, nat_tests);
  nothing_filed = λ k0. grind (arith, nat_tests);
  no_rows = λ q k0. grind (arith, nat_tests);
}
