-- Values are those of the history. Depends on: all layers before, versions.
use Rattle.std.proofs.Common.{◌≡◌, ◌<◌, ℕ, true, arith}
use Rattle.std.proofs.lemmas.Bool.Decides.{nat_tests}
use Rattle.std.proofs.lemmas.Bool.{true≢false}
use Rattle.token_protocol.specs.Basics.{In}
use Rattle.token_protocol.specs.Packets.{Offer}
use Rattle.token_protocol.specs.World.{World, start}
use Rattle.token_protocol.specs.Premises.{OriginalFiled}
use Rattle.token_protocol.specs.Taking.{MayTake, writes_first}
use Rattle.token_protocol.specs.Using.{MayWrite, writes}
use Rattle.token_protocol.specs.Logging.{MaySealWith, seals_with}
use Rattle.token_protocol.specs.Crashing.{MayRestart, restarts_discarding}
use Rattle.token_protocol.specs.Cleaning.{MaySealCopy, MayDiscardCopy, seals_copy, discards_copy}
use Rattle.token_protocol.specs.Step.{Step}
use Rattle.token_protocol.specs.Step.Step.{WritesFirst, TakesAbsent, TakesSupply, Fetches, Writes, Applies, SealsWith, RestartsDiscarding, Activates, SealsCopy, DiscardsCopy, Loses}
use Rattle.token_protocol.proofs.layers.bookkeeping.{Bookkeeping}
use Rattle.token_protocol.proofs.layers.tokens.{Tokens}
use Rattle.token_protocol.proofs.layers.crash.{Crash}
use Rattle.token_protocol.proofs.layers.logs.{Logs}
use Rattle.token_protocol.proofs.layers.filing.{Filing}
use Rattle.token_protocol.proofs.layers.content.Versions.{Versions}

pub record Values (w : World) : Type 0 where
  -- Version 0 is absent.
  pub absent_value : w.value_at 0 ≡ 0
  -- A row has the value of its version.
  pub rows_value : (c : ℕ) (q : ℕ) → 0 < (w.rows c q).version → (w.rows c q).value ≡ w.value_at (w.rows c q).version
  -- Who holds the block has the newest value.
  pub held_value : (c : ℕ) → 0 < (w.client c).mode → (w.client c).value ≡ w.value_at w.newest
  -- Where the index has no place its version is absent.
  pub index_absent : w.index.placed ≡ 0 → w.value_at w.index.version ≡ 0
  -- Where an offer has no place its version is absent.
  pub offer_absent : (g : Offer) → In g w.offers → g.entry.placed ≡ 0 → w.value_at g.entry.version ≡ 0

write_first_keeps_values : (w : World) (taken : Offer) (value : ℕ) → MayTake w taken 2 → Bookkeeping w → Tokens w → Crash w → Logs w → Filing w → Versions w
    → Values w
    → Values (writes_first w taken value)
write_first_keeps_values w taken value h book tokens crash logs filing versions values = record {
  absent_value = grind (arith, nat_tests, values.absent_value);
  rows_value = λ c q k0. grind (arith, nat_tests, values.rows_value c q);
  held_value = λ c k0. grind (arith, nat_tests, values.held_value c);
  index_absent = λ k0. grind (arith, nat_tests, values.index_absent);
  offer_absent = λ g k0 k1. grind (arith, nat_tests, values.offer_absent g, filing.index.offer_join g k0, versions.join_newest);
}

write_keeps_values : (w : World) (who value : ℕ) → MayWrite w who → Bookkeeping w → Tokens w → Crash w → Logs w → Filing w → Versions w → Values w
    → Values (writes w who value)
write_keeps_values w who value h book tokens crash logs filing versions values = record {
  absent_value = grind (arith, nat_tests, values.absent_value);
  rows_value = λ c q k0. grind (arith, nat_tests, values.rows_value c q);
  held_value = λ c k0. grind (arith, nat_tests, values.held_value c);
  index_absent = λ k0. grind (arith, nat_tests, values.index_absent);
  offer_absent = λ g k0 k1. grind (arith, nat_tests, values.offer_absent g, filing.index.offer_join g k0, versions.join_newest);
}

seal_with_keeps_values : (w : World) (who : ℕ) → MaySealWith w who → Bookkeeping w → Tokens w → Crash w → Logs w → Filing w → Versions w → Values w
    → Values (seals_with w who)
seal_with_keeps_values w who h book tokens crash logs filing versions values = record {
  absent_value = grind (arith, nat_tests, values.absent_value);
  rows_value = λ c q k0. grind (arith, nat_tests, values.rows_value c q);
  held_value = λ c k0. grind (arith, nat_tests, values.held_value c);
  index_absent = λ k0. grind (arith, nat_tests, values.index_absent);
  offer_absent = λ g k0 k1. grind (arith, nat_tests, values.offer_absent g);
}

restart_discarding_keeps_values : (w : World) (who incarnation promised : ℕ) → MayRestart w who incarnation promised → Bookkeeping w → Tokens w → Crash w
    → Logs w
    → Filing w → Versions w → Values w → Values (restarts_discarding w who incarnation promised)
restart_discarding_keeps_values w who incarnation promised h book tokens crash logs filing versions values = record {
  absent_value = grind (arith, nat_tests, values.absent_value);
  rows_value = λ c q k0. grind (arith, nat_tests, values.rows_value c q);
  held_value = λ c k0. grind (arith, nat_tests, values.held_value c);
  index_absent = λ k0. grind (arith, nat_tests, values.index_absent);
  offer_absent = λ g k0 k1. grind (arith, nat_tests, values.offer_absent g);
}

seal_copy_keeps_values : (w : World) (who log segment : ℕ) → MaySealCopy w who → OriginalFiled w log segment → Bookkeeping w → Tokens w → Crash w → Logs w
    → Filing w
    → Versions w → Values w → Values (seals_copy w who log segment)
seal_copy_keeps_values w who log segment h k book tokens crash logs filing versions values = record {
  absent_value = grind (arith, nat_tests, values.absent_value);
  rows_value = λ c q k0. grind (arith, nat_tests, values.rows_value c q);
  held_value = λ c k0. grind (arith, nat_tests, values.held_value c);
  index_absent = λ k0. grind (arith, nat_tests, values.index_absent);
  offer_absent = λ g k0 k1. grind (arith, nat_tests, values.offer_absent g);
}

discard_copy_keeps_values : (w : World) (who : ℕ) → MayDiscardCopy w who → Bookkeeping w → Tokens w → Crash w → Logs w → Filing w → Versions w → Values w
    → Values (discards_copy w who)
discard_copy_keeps_values w who h book tokens crash logs filing versions values = record {
  absent_value = grind (arith, nat_tests, values.absent_value);
  rows_value = λ c q k0. grind (arith, nat_tests, values.rows_value c q);
  held_value = λ c k0. grind (arith, nat_tests, values.held_value c);
  index_absent = λ k0. grind (arith, nat_tests, values.index_absent);
  offer_absent = λ g k0 k1. grind (arith, nat_tests, values.offer_absent g);
}

pub keeps : (w v : World) → Step true w v → Bookkeeping w → Tokens w → Crash w → Logs w → Filing w → Versions w → Values w → Values v
keeps w v (WritesFirst taken value h) book tokens crash logs filing versions values =
    write_first_keeps_values w taken value h book tokens crash logs filing versions values
keeps w v (TakesAbsent taken h t) book tokens crash logs filing versions values = grind (arith, nat_tests)
keeps w v (TakesSupply taken value h t) book tokens crash logs filing versions values = grind (arith, nat_tests)
keeps w v (Fetches who value h k) book tokens crash logs filing versions values = grind (arith, nat_tests)
keeps w v (Writes who value h) book tokens crash logs filing versions values = write_keeps_values w who value h book tokens crash logs filing versions values
keeps w v (Applies who upto e h k) book tokens crash logs filing versions values = grind (arith, nat_tests)
keeps w v (SealsWith who h) book tokens crash logs filing versions values = seal_with_keeps_values w who h book tokens crash logs filing versions values
keeps w v (RestartsDiscarding who incarnation promised h) book tokens crash logs filing versions values =
    restart_discarding_keeps_values w who incarnation promised h book tokens crash logs filing versions values
keeps w v (Activates epoch report applied e h k) book tokens crash logs filing versions values = grind (arith, nat_tests)
keeps w v (SealsCopy who log segment h k) book tokens crash logs filing versions values =
    seal_copy_keeps_values w who log segment h k book tokens crash logs filing versions values
keeps w v (DiscardsCopy who h) book tokens crash logs filing versions values = discard_copy_keeps_values w who h book tokens crash logs filing versions values
keeps w v (Loses x h) book tokens crash logs filing versions values = absurd (true≢false h)
keeps w v step book tokens crash logs filing versions values = grind (arith, nat_tests)

pub begins : (n : ℕ) → Values (start n)
begins n = record {
  absent_value = grind (arith, nat_tests);
  rows_value = λ c q k0. grind (arith, nat_tests);
  held_value = λ c k0. grind (arith, nat_tests);
  index_absent = λ k0. grind (arith, nat_tests);
  offer_absent = λ g k0 k1. absurd k0;
}
