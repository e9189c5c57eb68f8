-- The manager's index is what the applied segments join to, and every place that an entry names is filed. Depends on: bookkeeping, logs, the join.
use Rattle.std.proofs.Common.{◌≡◌, ◌<◌, ◌≤◌, ◌⊎◌, ◌∙◌, ℕ, true, inl, inr, sym, ap, subst, arith}
use Rattle.std.proofs.lemmas.Bool.Decides.{nat_tests}
use Rattle.std.proofs.lemmas.Bool.{true≢false}
use Rattle.token_protocol.specs.Basics.{In}
use Rattle.token_protocol.specs.Entry.{Entry}
use Rattle.token_protocol.specs.Packets.{Want, Offer, Report}
use Rattle.token_protocol.specs.World.{World, start, Placed, Filed}
use Rattle.token_protocol.specs.Premises.{SegmentFlying, TailAdopted, EndsApplied, IndexCovers, IndexGathered, OriginalFiled}
use Rattle.token_protocol.specs.Managing.{MayOffer, MayApply, offers, applies}
use Rattle.token_protocol.specs.Taking.{MayTake, IsPlaced, takes_place}
use Rattle.token_protocol.specs.Logging.{MaySealWith, MaySettle, seals_with, settles}
use Rattle.token_protocol.specs.Crashing.{MayRestart, restarts_adopting, restarts_discarding}
use Rattle.token_protocol.specs.Takeover.{MayActivate, activates}
use Rattle.token_protocol.specs.Cleaning.{MaySealCopy, MaySettleCopy, MayDiscardCopy, seals_copy, settles_copy, discards_copy}
use Rattle.token_protocol.specs.Step.{Step}
use Rattle.token_protocol.specs.Step.Step.{Offers, TakesPlace, Applies, SealsWith, Settles, RestartsAdopting, RestartsDiscarding, Activates, SealsCopy, SettlesCopy, DiscardsCopy, Loses}
use Rattle.token_protocol.proofs.layers.bookkeeping.{Bookkeeping}
use Rattle.token_protocol.proofs.layers.logs.{Logs}
use Rattle.token_protocol.proofs.layers.filing.Joined.{Joined}

pub record Index (w : World) : Type 0 where
  -- No applied row is above the index.
  pub index_rows : (c : ℕ) (q : ℕ) → q ≤ w.applied c → (w.rows c q).version ≤ w.index.version
  -- The index is at most the join.
  pub index_join : w.index.version ≤ w.join_version
  -- The index's place is filed.
  pub index_row : 0 < w.index.placed → Placed w w.index
  -- An offered version is at most the join.
  pub offer_join : (g : Offer) → In g w.offers → g.entry.version ≤ w.join_version
  -- An offered place is filed.
  pub offer_row : (g : Offer) → In g w.offers → 0 < g.entry.placed → Placed w g.entry
  -- A fetched place is filed.
  pub fetch_row : (c : ℕ) → (w.client c).fetching ≡ 1 → Placed w (w.client c).fetch

-- What a filed segment says is at most the join.
filed_version : (w : World) (e : Entry) → Filed w e → Joined w → e.version ≤ w.join_version
filed_version w e (inl h) joined = let z = h.0 in omega arith
filed_version w e (inr h) joined = let a = joined.rows_join h.0 h.1 h.2.filed in let b = h.2.row in omega arith

-- A place that a filed segment gave is filed.
filed_row : (w : World) (e : Entry) → Filed w e → 0 < e.placed → Placed w e
filed_row w e (inl h) some = let z = h.1 in absurd (omega arith)
filed_row w e (inr h) some =
    let z = h.2.place some in
    record {
      row = ap (λ c. (w.rows c e.segment).version) z.0 ∙ (ap (λ q. (w.rows h.0 q).version) z.1 ∙ h.2.row);
      filed = let a = ap w.end z.0 in let b = h.2.filed in let d = z.1 in omega arith;
      some = h.2.some;
    }

-- The entry that the manager merges to is at most the join, and its place is filed.
merged_version : (w : World) (e : Entry) → (e ≡ w.index) ⊎ Filed w e → Joined w → Index w → e.version ≤ w.join_version
merged_version w e (inl same) joined index = subst (λ (t : Entry). t.version ≤ w.join_version) (sym same) index.index_join
merged_version w e (inr filed) joined index = filed_version w e filed joined

merged_row : (w : World) (e : Entry) → (e ≡ w.index) ⊎ Filed w e → Index w → 0 < e.placed → Placed w e
merged_row w e (inl same) index = subst (λ (t : Entry). 0 < t.placed → Placed w t) (sym same) index.index_row
merged_row w e (inr filed) index = filed_row w e filed

offer_keeps_index : (w : World) (asked : Want) → MayOffer w asked → EndsApplied w asked → Bookkeeping w → Logs w → Joined w → Index w → Index (offers w asked)
offer_keeps_index w asked h k book logs joined index = record {
  index_rows = index.index_rows;
  index_join = index.index_join;
  index_row = index.index_row;
  offer_join = λ g k0. grind (arith, nat_tests, index.offer_join g);
  offer_row = λ g k0 k1. grind (arith, nat_tests, index.offer_row g);
  fetch_row = index.fetch_row;
}

take_place_keeps_index : (w : World) (taken : Offer) → MayTake w taken 1 → IsPlaced taken → Bookkeeping w → Logs w → Joined w → Index w
    → Index (takes_place w taken)
take_place_keeps_index w taken h t book logs joined index = record {
  index_rows = index.index_rows;
  index_join = index.index_join;
  index_row = index.index_row;
  offer_join = index.offer_join;
  offer_row = index.offer_row;
  fetch_row = λ c k0. grind (arith, nat_tests, index.fetch_row c, index.offer_row taken h.sent);
}

apply_keeps_index : (w : World) (who upto : ℕ) (e : Entry) → MayApply w who upto → IndexCovers w who upto e → Bookkeeping w → Logs w → Joined w → Index w
    → Index (applies w who upto e)
apply_keeps_index w who upto e h k book logs joined index = record {
  index_rows = λ c q k0. grind (arith, nat_tests, index.index_rows c q);
  index_join = merged_version w e k.source joined index;
  index_row = λ k0. grind (arith, nat_tests, merged_row w e k.source index k0);
  offer_join = index.offer_join;
  offer_row = index.offer_row;
  fetch_row = index.fetch_row;
}

seal_with_keeps_index : (w : World) (who : ℕ) → MaySealWith w who → Bookkeeping w → Logs w → Joined w → Index w → Index (seals_with w who)
seal_with_keeps_index w who h book logs joined index = record {
  index_rows = λ c q k0. grind (arith, nat_tests, index.index_rows c q);
  index_join = grind (arith, nat_tests, index.index_join);
  index_row = λ k0. grind (arith, nat_tests, index.index_row);
  offer_join = λ g k0. grind (arith, nat_tests, index.offer_join g);
  offer_row = λ g k0 k1. grind (arith, nat_tests, index.offer_row g);
  fetch_row = λ c k0. grind (arith, nat_tests, index.fetch_row c);
}

settle_keeps_index : (w : World) (who : ℕ) → MaySettle w who → SegmentFlying w who → Bookkeeping w → Logs w → Joined w → Index w → Index (settles w who)
settle_keeps_index w who h k book logs joined index = record {
  index_rows = λ c q k0. grind (arith, nat_tests, index.index_rows c q);
  index_join = grind (arith, nat_tests, index.index_join);
  index_row = λ k0. grind (arith, nat_tests, index.index_row);
  offer_join = λ g k0. grind (arith, nat_tests, index.offer_join g);
  offer_row = λ g k0 k1. grind (arith, nat_tests, index.offer_row g);
  fetch_row = λ c k0. grind (arith, nat_tests, index.fetch_row c);
}

restart_adopting_keeps_index : (w : World) (who incarnation promised : ℕ) → MayRestart w who incarnation promised → TailAdopted w who → Bookkeeping w → Logs w
    → Joined w
    → Index w → Index (restarts_adopting w who incarnation promised)
restart_adopting_keeps_index w who incarnation promised h k book logs joined index = record {
  index_rows = λ c q k0. grind (arith, nat_tests, index.index_rows c q);
  index_join = grind (arith, nat_tests, index.index_join);
  index_row = λ k0. grind (arith, nat_tests, index.index_row);
  offer_join = λ g k0. grind (arith, nat_tests, index.offer_join g);
  offer_row = λ g k0 k1. grind (arith, nat_tests, index.offer_row g);
  fetch_row = λ c k0. grind (arith, nat_tests, index.fetch_row c);
}

restart_discarding_keeps_index : (w : World) (who incarnation promised : ℕ) → MayRestart w who incarnation promised → Bookkeeping w → Logs w → Joined w
    → Index w
    → Index (restarts_discarding w who incarnation promised)
restart_discarding_keeps_index w who incarnation promised h book logs joined index = record {
  index_rows = λ c q k0. grind (arith, nat_tests, index.index_rows c q);
  index_join = grind (arith, nat_tests, index.index_join);
  index_row = λ k0. grind (arith, nat_tests, index.index_row);
  offer_join = λ g k0. grind (arith, nat_tests, index.offer_join g);
  offer_row = λ g k0 k1. grind (arith, nat_tests, index.offer_row g);
  fetch_row = λ c k0. grind (arith, nat_tests, index.fetch_row c);
}

activate_keeps_index : (w : World) (epoch : ℕ) (report : ℕ → Report) (applied : ℕ → ℕ) (e : Entry) → MayActivate w epoch report
    → IndexGathered w report applied e
    → Bookkeeping w → Logs w → Joined w → Index w → Index (activates w epoch report applied e)
activate_keeps_index w epoch report applied e h k book logs joined index = record {
  index_rows = λ c q k0. grind (arith, nat_tests, index.index_rows c q);
  index_join = filed_version w e k.source joined;
  index_row = λ k0. grind (arith, nat_tests, filed_row w e k.source k0);
  offer_join = λ g k0. grind (arith, nat_tests, index.offer_join g);
  offer_row = λ g k0 k1. grind (arith, nat_tests, index.offer_row g);
  fetch_row = index.fetch_row;
}

seal_copy_keeps_index : (w : World) (who log segment : ℕ) → MaySealCopy w who → OriginalFiled w log segment → Bookkeeping w → Logs w → Joined w → Index w
    → Index (seals_copy w who log segment)
seal_copy_keeps_index w who log segment h k book logs joined index = record {
  index_rows = λ c q k0. grind (arith, nat_tests, index.index_rows c q);
  index_join = grind (arith, nat_tests, index.index_join);
  index_row = λ k0. grind (arith, nat_tests, index.index_row);
  offer_join = λ g k0. grind (arith, nat_tests, index.offer_join g);
  offer_row = λ g k0 k1. grind (arith, nat_tests, index.offer_row g);
  fetch_row = λ c k0. grind (arith, nat_tests, index.fetch_row c);
}

settle_copy_keeps_index : (w : World) (who : ℕ) → MaySettleCopy w who → Bookkeeping w → Logs w → Joined w → Index w → Index (settles_copy w who)
settle_copy_keeps_index w who h book logs joined index = grind (arith, nat_tests)

discard_copy_keeps_index : (w : World) (who : ℕ) → MayDiscardCopy w who → Bookkeeping w → Logs w → Joined w → Index w → Index (discards_copy w who)
discard_copy_keeps_index w who h book logs joined index = record {
  index_rows = λ c q k0. grind (arith, nat_tests, index.index_rows c q);
  index_join = grind (arith, nat_tests, index.index_join);
  index_row = λ k0. grind (arith, nat_tests, index.index_row);
  offer_join = λ g k0. grind (arith, nat_tests, index.offer_join g);
  offer_row = λ g k0 k1. grind (arith, nat_tests, index.offer_row g);
  fetch_row = λ c k0. grind (arith, nat_tests, index.fetch_row c);
}

pub keeps : (w v : World) → Step true w v → Bookkeeping w → Logs w → Joined w → Index w → Index v
keeps w v (Offers asked h k) book logs joined index = offer_keeps_index w asked h k book logs joined index
keeps w v (TakesPlace taken h t) book logs joined index = take_place_keeps_index w taken h t book logs joined index
keeps w v (Applies who upto e h k) book logs joined index = apply_keeps_index w who upto e h k book logs joined index
keeps w v (SealsWith who h) book logs joined index = seal_with_keeps_index w who h book logs joined index
keeps w v (Settles who h k) book logs joined index = settle_keeps_index w who h k book logs joined index
keeps w v (RestartsAdopting who incarnation promised h k) book logs joined index =
    restart_adopting_keeps_index w who incarnation promised h k book logs joined index
keeps w v (RestartsDiscarding who incarnation promised h) book logs joined index =
    restart_discarding_keeps_index w who incarnation promised h book logs joined index
keeps w v (Activates epoch report applied e h k) book logs joined index = activate_keeps_index w epoch report applied e h k book logs joined index
keeps w v (SealsCopy who log segment h k) book logs joined index = seal_copy_keeps_index w who log segment h k book logs joined index
keeps w v (SettlesCopy who h) book logs joined index = settle_copy_keeps_index w who h book logs joined index
keeps w v (DiscardsCopy who h) book logs joined index = discard_copy_keeps_index w who h book logs joined index
keeps w v (Loses x h) book logs joined index = absurd (true≢false h)
keeps w v step book logs joined index = grind (arith, nat_tests)

pub begins : (n : ℕ) → Index (start n)
begins n = record {
  index_rows = λ c q k0. grind (arith, nat_tests);
  index_join = grind (arith, nat_tests);
  index_row = λ k0. grind (arith, nat_tests);
  offer_join = λ g k0. absurd k0;
  offer_row = λ g k0 k1. absurd k0;
  fetch_row = λ c k0. grind (arith, nat_tests);
}
