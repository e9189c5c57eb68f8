-- Where rows stand in logs. Depends on: itself.
use Rattle.std.proofs.Common.{◌≡◌, ◌+◌, ◌<◌, ◌≤◌, ℕ, true, arith}
use Rattle.std.proofs.lemmas.Bool.Decides.{nat_tests}
use Rattle.std.proofs.lemmas.Bool.{true≢false}
use Rattle.token_protocol.specs.World.{World, start}
use Rattle.token_protocol.specs.Premises.{OriginalFiled}
use Rattle.token_protocol.specs.Logging.{MaySealWith, seals_with}
use Rattle.token_protocol.specs.Crashing.{MayRestart, restarts_discarding}
use Rattle.token_protocol.specs.Cleaning.{MaySealCopy, MayDiscardCopy, seals_copy, discards_copy}
use Rattle.token_protocol.specs.Step.{Step}
use Rattle.token_protocol.specs.Step.Step.{Applies, SealsWith, RestartsDiscarding, Activates, SealsCopy, DiscardsCopy, Loses}

pub record Rows (w : World) : Type 0 where
  -- At most one segment of a log is in flight.
  pub flight_one : (c : ℕ) → w.flight c ≤ 1
  -- Beyond the filed segments and the flight there is no row.
  pub rows_end : (c : ℕ) (q : ℕ) → w.end c + w.flight c < q → (w.rows c q).version ≡ 0
  -- Only filed segments are applied.
  pub applied_end : (c : ℕ) → w.applied c ≤ w.end c

seal_with_keeps_rows : (w : World) (who : ℕ) → MaySealWith w who → Rows w → Rows (seals_with w who)
seal_with_keeps_rows w who h rows = record {
  flight_one = λ c. grind (arith, nat_tests, rows.flight_one c);
  rows_end = λ c q k0. grind (arith, nat_tests, rows.rows_end c q);
  applied_end = rows.applied_end;
}

restart_discarding_keeps_rows : (w : World) (who incarnation promised : ℕ) → MayRestart w who incarnation promised → Rows w
    → Rows (restarts_discarding w who incarnation promised)
restart_discarding_keeps_rows w who incarnation promised h rows = record {
  flight_one = λ c. grind (arith, nat_tests, rows.flight_one c);
  rows_end = λ c q k0. grind (arith, nat_tests, rows.rows_end c q);
  applied_end = rows.applied_end;
}

seal_copy_keeps_rows : (w : World) (who log segment : ℕ) → MaySealCopy w who → OriginalFiled w log segment → Rows w → Rows (seals_copy w who log segment)
seal_copy_keeps_rows w who log segment h k rows = record {
  flight_one = λ c. grind (arith, nat_tests, rows.flight_one c);
  rows_end = λ c q k0. grind (arith, nat_tests, rows.rows_end c q);
  applied_end = rows.applied_end;
}

discard_copy_keeps_rows : (w : World) (who : ℕ) → MayDiscardCopy w who → Rows w → Rows (discards_copy w who)
discard_copy_keeps_rows w who h rows = record {
  flight_one = λ c. grind (arith, nat_tests, rows.flight_one c);
  rows_end = λ c q k0. grind (arith, nat_tests, rows.rows_end c q);
  applied_end = rows.applied_end;
}

pub keeps : (w v : World) → Step true w v → Rows w → Rows v
keeps w v (Applies who upto e h k) rows = grind (arith, nat_tests)
keeps w v (SealsWith who h) rows = seal_with_keeps_rows w who h rows
keeps w v (RestartsDiscarding who incarnation promised h) rows = restart_discarding_keeps_rows w who incarnation promised h rows
keeps w v (Activates epoch report applied e h k) rows = grind (arith, nat_tests)
keeps w v (SealsCopy who log segment h k) rows = seal_copy_keeps_rows w who log segment h k rows
keeps w v (DiscardsCopy who h) rows = discard_copy_keeps_rows w who h rows
keeps w v (Loses x h) rows = absurd (true≢false h)
keeps w v step rows = grind (arith, nat_tests)

pub begins : (n : ℕ) → Rows (start n)
begins n = record {
  flight_one = λ c. grind (arith, nat_tests);
  rows_end = λ c q k0. grind (arith, nat_tests);
  applied_end = λ c. grind (arith, nat_tests);
}
