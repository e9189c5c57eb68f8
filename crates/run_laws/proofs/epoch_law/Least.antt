-- The horizon that the registry keeps of a log is at or above the least one that it tells, and it stays over epochs at which nobody is active.
use Rattle.std.proofs.Common.{◌≡◌, ℕ, zero, suc, ◌+◌, ◌-◌, ◌≤◌, ◌<◌, min, List, [], ◌∷◌, inl, inr, slice_get, unwrap_or, Option, None, Some, refl, sym, ap, subst, ◌∙◌, arith}
use Rattle.std.proofs.lemmas.Bool.Decides.{nat_tests}
use Rattle.std.proofs.lemmas.Option.{unwrap_or-slice_get}
use Rattle.checkpoint.specs.WriterState.{Rows}
use Rattle.index_tie.proofs.Takeovers.{of_log_in}
use Rattle.index_tie.specs.Net.{Net, Runs, opening}
use Rattle.headline.specs.Indexes.{of_log}
use Rattle.log_scan.specs.Transition.{horizon_of, least_horizon}
use Rattle.node_slots.specs.node_index_tie.RegistryEvents.{RegistryAgrees}
use Rattle.registry.specs.Board.{board_slots, slot_news}
use Rattle.registry.specs.BoardState.{BoardState}
use Rattle.registry_node.specs.declared.node.RegistryNode.{RegistryNode}
use Rattle.run_laws.specs.epoch_law.Polls.{HorizonsStay}
use Rattle.segment_format.specs.declared.segment.Segment.{Segment}
use Rattle.token_protocol.specs.Basics.{In}
use Rattle.xfs_base.specs.Limits.{slot_count, block_logs}
use Rattle.xfs_base.specs.declared.news.SlotNews.{SlotNews}
use Rattle.xfs_base.specs.declared.segment.SegRef.{SegRef}

-- ---- the least horizon is none above each

min_first : (a b : ℕ) → min a b ≤ a
min_first a b = grind (arith, nat_tests)

min_rest : (a b c : ℕ) → b ≤ c → min a b ≤ c
min_rest a b c h = grind (arith, nat_tests)

least_below : (l : ℕ) (slots : List SlotNews) (x : SlotNews) → In x slots → least_horizon l slots ≤ horizon_of l x
least_below l [] x among = absurd among
least_below l (y ∷ slots) x (inl same) = subst (λ z. least_horizon l (y ∷ slots) ≤ horizon_of l z) (sym same)
    (min_first (horizon_of l y) (least_horizon l slots))
least_below l (y ∷ slots) x (inr among) = min_rest (horizon_of l y) (least_horizon l slots) (horizon_of l x) (least_below l slots x among)

-- where the horizon has a number of the log, that is its horizon
horizon_is : (x : SlotNews) (l : ℕ) → 0 < l → l ≤ block_logs → 0 < of_log x.horizon l → horizon_of l x ≤ of_log x.horizon l
horizon_is x l some limit from_one =
    subst (λ a. horizon_of l x ≤ a) (sym read) (by (slice_get x.horizon (l - 1)) (subst (λ a. 0 < a) read from_one))
  where
    read : of_log x.horizon l ≡ unwrap_or (slice_get x.horizon (l - 1)) 0
    read = of_log_in x.horizon l some limit ∙ sym (unwrap_or-slice_get x.horizon (l - 1) 0)

    by : (o : Option ℕ) → 0 < unwrap_or o 0 → unwrap_or o 1 ≤ unwrap_or o 0
    by None less = absurd (omega arith)
    by (Some a) less = omega arith

-- ---- the registry's news of the slot

news_among : (b : BoardState) (part : ℕ) → part < slot_count → In (slot_news b part) (board_slots b)
news_among b zero less = inl refl
news_among b (suc zero) less = inr (inl refl)
news_among b (suc (suc zero)) less = inr (inr (inl refl))
news_among b (suc (suc (suc zero))) less = inr (inr (inr (inl refl)))
news_among b (suc (suc (suc (suc zero)))) less = inr (inr (inr (inr (inl refl))))
news_among b (suc (suc (suc (suc (suc zero))))) less = inr (inr (inr (inr (inr (inl refl)))))
news_among b (suc (suc (suc (suc (suc (suc zero)))))) less = inr (inr (inr (inr (inr (inr (inl refl))))))
news_among b (suc (suc (suc (suc (suc (suc (suc zero))))))) less = inr (inr (inr (inr (inr (inr (inr (inl refl)))))))
news_among b (suc (suc (suc (suc (suc (suc (suc (suc n)))))))) less = absurd (omega arith)

pub up_to : (a b c : ℕ) → a ≤ b → b ≤ c → a ≤ c
up_to a b c h g = omega arith

-- the registry's horizon of a log is at or above the least one
pub least_kept : (part : ℕ) (n : Net) (r : RegistryNode) → part < slot_count → RegistryAgrees part n r → (l : ℕ) → 0 < l → l ≤ block_logs
    → least_horizon l (board_slots r.board) ≤ of_log (n.horizon n.epoch) l
least_kept part n r of_eight agreed l some limit =
    let x = slot_news r.board part in
    subst (λ (h : List ℕ). least_horizon l (board_slots r.board) ≤ of_log h l) agreed.horizon
    (up_to (least_horizon l (board_slots r.board)) (horizon_of l x) (of_log x.horizon l) (least_below l (board_slots r.board) x (news_among r.board part of_eight))
    (horizon_is x l some limit (subst (λ (h : List ℕ). 0 < of_log h l) (sym agreed.horizon) (agreed.horizon_fits.from_one l some limit))))

-- ---- epochs at which nobody is active

module _ (stay : HorizonsStay) (part : ℕ) (holds : SegRef → Rows) (first : ℕ → ℕ → Segment) (n : Net) (of_eight : part < slot_count)
    (runs : Runs part holds (opening first) n) (limit : ℕ) (nobody : (e : ℕ) → limit < e → n.slots e ≡ None) where
  same_horizon : (more : ℕ) → limit + more ≤ n.epoch → n.horizon (limit + more) ≡ n.horizon limit
  same_horizon zero within = ap n.horizon (plus limit)
    where
      plus : (a : ℕ) → a + 0 ≡ a
      plus a = omega arith
  same_horizon (suc more) within =
      ap n.horizon (plus limit more)
      ∙ (stay part holds first n of_eight runs (limit + more) (omega arith) (nobody (suc (limit + more)) (omega arith)) ∙ same_horizon more (omega arith))
    where
      plus : (a b : ℕ) → a + suc b ≡ suc (a + b)
      plus a b = omega arith

  -- the horizon of the last epoch at which somebody may be active is at or above the least one
  pub least_since : limit ≤ n.epoch → (r : RegistryNode) → RegistryAgrees part n r → (l : ℕ) → 0 < l → l ≤ block_logs
      → least_horizon l (board_slots r.board) ≤ of_log (n.horizon limit) l
  least_since within r agreed l some less =
      subst (λ (h : List ℕ). least_horizon l (board_slots r.board) ≤ of_log h l) (ap n.horizon (sym end) ∙ same_horizon (n.epoch - limit) (omega arith))
      (least_kept part n r of_eight agreed l some less)
    where
      end : limit + (n.epoch - limit) ≡ n.epoch
      end = omega arith
