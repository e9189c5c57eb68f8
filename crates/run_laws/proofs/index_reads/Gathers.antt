-- What a takeover gathered is what was filed: the slot that it hands out is active in the small world of the index then, and there its index is the join of
-- what it has applied.
use Rattle.std.proofs.Common.{◌≡◌, ℕ, ◌-◌, ◌<◌, ◌≤◌, ◌==◌, ◌⊎◌, inl, inr, ⊎_elim, max, true, List, [], ◌∷◌, Some, sym, ap, subst, ◌∙◌, arith}
use Rattle.std.proofs.Math.ListN.{get_or-eq_default}
use Rattle.std.proofs.lemmas.Bool.Decides.{nat_tests}
use Rattle.index_tie.specs.Net as index
use Rattle.index_tie.specs.Net.{with_slot}
use Rattle.index_tie.specs.Net.Runs.{On as ThenIndex}
use Rattle.index_tie.proofs.Runs.{good_in}
use Rattle.index_tie.proofs.Tables.{second_of}
use Rattle.index_tie.proofs.Takeovers.{applied_in, of_log_in, by_log, nine}
use Rattle.index_tie.proofs.Views.{Good}
use Rattle.log_protocol.specs.Tables.{put}
use Rattle.log_protocol.proofs.IndexInduction.{index_in_bounds_always}
use Rattle.manager_slots.specs.declared.slot_phase.Taking.{Taking}
use Rattle.node_slots.specs.node_index_tie.ManagerEvents as places
use Rattle.node_slots.specs.node_index_tie.Pages.{Desk}
use Rattle.node_slots.specs.node_index_tie.Sight.{Questions, held_in}
use Rattle.headline.specs.Filed.{AreTexts, Texts}
use Rattle.node_slots.proofs.node_index_tie.Moves.{nothing}
use Rattle.node_slots.proofs.node_index_tie.Handing.{Owes, starts}
use Rattle.node_slots.proofs.node_index_tie.Moves.{put_here}
use Rattle.node_slots.specs.node_tie.ManagerEvents as owners
use Rattle.node_slots.specs.node_tie.ManagerEvents.{ends_of}
use Rattle.node_slots.proofs.node_tie.ManagerPlain.{plain_hands_nothing}
use Rattle.node_slots.proofs.node_tie.ManagerTakes.{Hands, took}
use Rattle.slot_beliefs.specs.Recalls.{applied_of as applied_in_slot}
use Rattle.takeover.specs.Reports.{applied_of, beliefs_of, end_of, end_from, horizon_at}
use Rattle.takeover.specs.TakeState.{TakeState}
use Rattle.takeover.specs.Transition.{active, transition}
use Rattle.takeover.specs.declared.input.In.{In as Input}
use Rattle.takeover.specs.declared.report.Report.{Report as Heard}
use Rattle.token_client.specs.State.{is_in_slot}
use Rattle.token_law.specs.Books.{row_in, said, IsFiled}
use Rattle.token_law.specs.Net as tokens
use Rattle.token_law.specs.Owed.{Gathered}
use Rattle.token_manager.specs.SlotState.{SlotState}
use Rattle.token_manager.specs.Transition.{slot_start, entry_at}
use Rattle.token_protocol.specs.Basics.{In}
use Rattle.xfs_base.specs.declared.block.BlockId.{BlockId}
use Rattle.xfs_base.specs.declared.entry.Entry.{Entry}
use Rattle.xfs_base.specs.declared.node.NodeId.TheVariants.{Client, Cleaner}
use Rattle.xfs_base.specs.Limits.{block_logs}
use Rattle.xfs_base.specs.Logs.{cleaners_number}
use Rattle.run_laws.specs.index_reads.Ties.{Tied}
use Rattle.run_laws.proofs.index_reads.Deltas.{applied_older}
use Rattle.run_laws.proofs.index_reads.Sayings.{names_filed}
use Rattle.run_laws.proofs.index_reads.Worlds.{of_slot, some_block, same, begins, its_block}

-- ---- what is applied, by log

-- the end that a client reported is applied
end_applied : (horizon : List ℕ) (reports : List Heard) (c : ℕ) → 0 < c → c < cleaners_number → ends_of reports c ≤ applied_in_slot (applied_of horizon reports) c
end_applied horizon reports c some less =
    let at = of_log_in (applied_of horizon reports) c some (omega arith) in
    let fact = applied_in horizon reports c some (omega arith) in
    let its : (end_of reports c).seq ≡ ends_of reports c =
    ap (λ node. (end_from node reports).seq) (second_of (c == cleaners_number) Cleaner (Client c) (grind (arith, nat_tests))) in
    let limit = least (end_of reports c).seq (horizon_at horizon c - 1) in
    omega arith
  where
    least : (a b : ℕ) → a ≤ max a b
    least a b = omega arith

-- of a log above the ninth nothing is
nothing_applied : (horizon : List ℕ) (reports : List Heard) (l : ℕ) → block_logs < l → applied_in_slot (applied_of horizon reports) l ≡ 0
nothing_applied horizon reports l past =
    get_or-eq_default (applied_of horizon reports) 0 (let n = nine horizon reports in omega arith)

module _ (members part : ℕ) (texts : Texts) (t : tokens.Net) (i : index.Net) (tied : Tied members part (held_in part texts) t i) where
  -- ---- a slot that starts with this index, with what these reports name, and what lies below this horizon

  module _ (e : ℕ) (rows : List (BlockId × Entry)) (horizon : List ℕ) (reports : List Heard)
      (good : Good part (held_in part texts) (with_slot i e (slot_start e rows (beliefs_of reports) (applied_of horizon reports)))) where
    abbrev slot : SlotState
    slot = slot_start e rows (beliefs_of reports) (applied_of horizon reports)

    abbrev applied : ℕ → ℕ
    applied l = applied_in_slot (applied_of horizon reports) l

    at : put i.slots e (Some slot) e ≡ Some slot
    at = put_here i.slots e (Some slot)

    applied_filed : (l : ℕ) → 0 < l → l ≤ block_logs → applied l ≤ i.filed.head l
    applied_filed l some limit =
        let v = good.views (some_block part) (its_block members part (held_in part texts) t i tied) in
        let fact = (v.slots e slot at).applied l some in
        let bound = (index_in_bounds_always v.state v.reached).applied_filed e l in
        let head = v.tells.head l in
        omega arith

    upto_end : (l : ℕ) → 0 < l → applied l ≤ t.books.end l
    upto_end l some = by_log (λ l. 0 < l → applied l ≤ t.books.end l)
        (λ l more limit _. let filed = applied_filed l more limit in let end = tied.books.end l more limit in omega arith)
        (λ l out more. past l out more) l some
      where
        past : (l : ℕ) → (l ≡ 0) ⊎ (block_logs < l) → 0 < l → applied l ≤ t.books.end l
        past l (inl none) more = absurd (omega arith)
        past l (inr above) more = let none = nothing_applied horizon reports l above in omega arith

    source : (b : BlockId) → is_in_slot part b ≡ true → IsFiled t.books b (entry_at slot b)
    source b inside =
        let v = good.views b (of_slot part b inside) in
        names_filed t.books i.filed (same members part (held_in part texts) t i tied) b (entry_at slot b) (v.state.index e) (v.slots e slot at).index

    older : (b : BlockId) → is_in_slot part b ≡ true → (l q : ℕ) → 0 < l → q ≤ applied l → (said t.books l q b).version ≤ (entry_at slot b).ver
    older b inside l q some to =
        by_log (λ l. 0 < l → q ≤ applied l → (said t.books l q b).version ≤ (entry_at slot b).ver) (λ l more limit _ within. here l more limit within)
        (λ l out more within. past l out more within) l some to
      where
        here : (l : ℕ) → 0 < l → l ≤ block_logs → q ≤ applied l → (said t.books l q b).version ≤ (entry_at slot b).ver
        here l more limit within =
            let v = good.views b (of_slot part b inside) in
            applied_older t.books i.filed (same members part (held_in part texts) t i tied)
            (begins members part (held_in part texts) t i tied) b v.state v.reached v.tells slot l q
            (v.slots e slot at) more limit within
            (let filed = applied_filed l more limit in omega arith)

        past : (l : ℕ) → (l ≡ 0) ⊎ (block_logs < l) → 0 < l → q ≤ applied l → (said t.books l q b).version ≤ (entry_at slot b).ver
        past l (inl none) more within = absurd (omega arith)
        past l (inr above) more within =
            let none = nothing_applied horizon reports l above in
            let first : q ≡ 0 = omega arith in
            let unsaid : t.books.rows l q ≡ [] = ap (t.books.rows l) first ∙ begins members part (held_in part texts) t i tied l in
            let nothing = ap (λ xs. (row_in xs b).version) unsaid in
            omega arith

    gathered : Gathered members part t.books rows (applied_of horizon reports) (ends_of reports)
    gathered = record {
      reported = λ c some less. end_applied horizon reports c some (let few = tied.few in omega arith);
      filed = upto_end;
      source = source;
      rows = older;
    }

  -- ---- an input that ends a takeover

  module _ (asked : Questions) (desk : Desk) (u : Taking) (given : Input) (k : places.TakingAgrees part texts i u.epoch u.take)
      (owes : Owes part texts i u.epoch u.take given) (filed : AreTexts texts i.filed) where
    abbrev later : TakeState
    later = (transition u.take given).state

    module _ (hands : Hands later (transition u.take given).outs) where
      handed : Gathered members part t.books hands.index (applied_of later.news.horizon later.reports) (ends_of later.reports)
      handed =
          gathered later.news.epoch hands.index later.news.horizon later.reports
          (good_in part (held_in part texts) tied.any _
          (ThenIndex tied.index_run (starts part texts asked (nothing (Unit {0})) desk i u given k owes filed hands)))

    pub completes : owners.Completes members part t u.take given
    completes rows fact latest =
        ⊎_elim
        (λ plain. absurd (plain_hands_nothing (transition u.take given).outs plain later.news.epoch rows (beliefs_of later.reports)
        (applied_of later.news.horizon later.reports) fact))
        (λ hands. subst (λ xs. Gathered members part t.books xs (applied_of later.news.horizon later.reports) (ends_of later.reports))
        (sym (its_index hands (subst (In (active later rows)) hands.says_active fact))) (handed hands))
        (took u.take given k.ready k.once).said
      where
        its_index : (hands : Hands later (transition u.take given).outs) → In (active later rows) (active later hands.index ∷ []) → rows ≡ hands.index
        its_index hands (inl same_) = cc
        its_index hands (inr none) = absurd none
