-- At a moment that stands to both small worlds of a slot the log of an owner that serves is linked from the epoch on that it has promised: above that nobody
-- is active, so that horizons are the registry's.
use Rattle.std.proofs.Common.{◌≡◌, ◌==◌, ℕ, zero, suc, ◌+◌, ◌-◌, ◌≤◌, ◌<◌, Bool, true, false, nat_le, List, Option, None, Some, mod-eq_of_lt, refl, sym, ap, subst, ◌∙◌, arith}
use Rattle.std.proofs.lemmas.Option.{unwrap_or-slice_get}
use Rattle.std.proofs.lemmas.Bool.{leb-false, leb-true}
use Rattle.cleaner_serving.specs.declared.emptying.Emptying.{Emptying}
use Rattle.cleaner_node.specs.declared.cleaner.Phase as cleaning
use Rattle.cleaner_node.specs.declared.cleaner.Phase.TheVariants as cleaners
use Rattle.client_node.specs.declared.phase.Phase.TheVariants as clients
use Rattle.client_node.specs.declared.phase.Phase.{Phase}
use Rattle.client_serving.specs.declared.serving.Serving.{Serving}
use Rattle.index_tie.specs.Net as index
use Rattle.index_tie.specs.Takeovers.{Linked}
use Rattle.headline.specs.Indexes.{of_log}
use Rattle.log_law.specs.Net as log
use Rattle.log_owner.specs.Promised as owner
use Rattle.log_tie.specs.Setting.{Setting}
use Rattle.node_slots.specs.node_index_tie.Sight.{held_in}
use Rattle.node_logs.specs.node_log_tie.RegistryEvents.{RegistrySeen}
use Rattle.node_slots.proofs.node_tie.SmallWorld.{with_promise}
use Rattle.node_slots.specs.node_tie.CleanerEvents.{CleanerStands}
use Rattle.node_slots.specs.node_tie.ClientEvents.{ClientAgrees}
use Rattle.token_client.specs.State.{TokensState, epoch_of, is_in_slot}
use Rattle.token_manager.specs.SlotState.{SlotState}
use Rattle.world_base.specs.declared.cluster.Cluster.{Cluster}
use Rattle.run_laws.specs.world_law.Standing.{epoch_now, members}
use Rattle.run_laws.specs.world_lines.Lines.{IsLine, IsSure}
use Rattle.run_laws.specs.world_lines.Polls.{ClientLinked, CleanerLinked, LinkedSince}
use Rattle.run_laws.specs.world_logs.Lines.{setting}
use Rattle.headline.specs.Logs.Role.{OfClient, OfCleaner}
use Rattle.run_laws.proofs.world_reads.CleanerMoment.{sure_at}
use Rattle.run_laws.proofs.world_reads.TurnBoth.{Both}
use Rattle.run_laws.proofs.world_reads.TurnLogs.{LogsKnown}
use Rattle.run_laws.proofs.world_reads.TurnMoment as now
use Rattle.run_laws.specs.world_reads.Joint.{There, k}
use Rattle.run_laws.proofs.world_reads.Joint.{IsSureUpto}
use Rattle.xfs_base.specs.declared.block.BlockId.{BlockId}
use Rattle.xfs_base.proofs.Booleans.{equal_itself}
use Rattle.xfs_base.specs.Limits.{slot_count, block_logs}
use Rattle.xfs_base.specs.Logs.{cleaners_number}
use Rattle.run_laws.proofs.world_reads.Below.{Below}
use Rattle.run_laws.specs.world_reads.LoggedRuns.{LoggedRun}

difference : (a b : ℕ) → a < b → a + (b - a) ≡ b
difference a b less = omega arith

module _ (laws : Below) (logged : LoggedRun) (part : ℕ) (of_eight : part < slot_count) (count : ℕ) (b : Both logged part count) where
  open logged use {base, estate as e, lines, texts, first}

  abbrev cl : Cluster
  cl = k logged part

  abbrev n : index.Net
  n = b.idx.net

  -- ---- horizons above an epoch above which nobody is active

  module _ (from : ℕ) (bound : (x : ℕ) (z : SlotState) → b.tok.net.slots x ≡ Some z → x ≤ from) where
    nobody : (x : ℕ) → from < x → n.slots x ≡ None
    nobody x above = b.slots x (by (b.tok.net.slots x) refl)
      where
        by : (o : Option SlotState) → b.tok.net.slots x ≡ o → b.tok.net.slots x ≡ None
        by None fact = fact
        by (Some z) fact = let low = bound x z fact in absurd (omega arith)

    same_horizon : (x more : ℕ) → from ≤ x → x + more ≤ n.epoch → n.horizon (x + more) ≡ n.horizon x
    same_horizon x zero above within = ap n.horizon (plus x)
      where
        plus : (a : ℕ) → a + 0 ≡ a
        plus a = omega arith
    same_horizon x (suc more) above within =
        ap n.horizon (plus x more)
        ∙ (laws.tokens.epochs.horizons_stay part (held_in part texts.text) first n of_eight b.index_stands.runs (x + more) (omega arith) (nobody (suc (x + more))
        (omega arith))
        ∙ same_horizon x more above (omega arith))
      where
        plus : (a b : ℕ) → a + suc b ≡ suc (a + b)
        plus a b = omega arith

    linked_from : (l : ℕ) (g : Setting) (m : log.Net) → 0 < l → l ≤ block_logs → IsSure texts.text l g m → IsLine l m n.filed → RegistrySeen g m b.idx.registry.board
        → LinkedSince l from n.horizon n.filed
    linked_from l g m pos limit sure line seen x above some = by (nat_le n.epoch x) refl
      where
        present : LinkedSince l n.epoch n.horizon n.filed
        present = laws.lines.present_is_linked part texts.text l g m n b.idx.registry of_eight pos limit sure line seen b.index_stands.registry

        by : (t : Bool) → nat_le n.epoch x ≡ t → Linked n.filed l (of_log (n.horizon x) l) (n.filed.head l)
        by true fact = present x (leb-true n.epoch x fact) some
        by false fact =
            let end : x + (n.epoch - x) ≡ n.epoch = difference x n.epoch (leb-false n.epoch x fact) in
            let same : n.horizon n.epoch ≡ n.horizon x = ap n.horizon (sym end)
            ∙ same_horizon x (n.epoch - x) above (let upto = end in omega arith) in
            subst (λ (h : List ℕ). Linked n.filed l (of_log h l) (n.filed.head l)) same
            (present n.epoch (omega arith) (subst (λ (h : List ℕ). 0 < of_log h l) (sym same) some))

  -- ---- who promised

  abbrev some_block : BlockId
  some_block = record { ino = record { 0 = part }; blk = 0 }

  of_slot : is_in_slot part some_block ≡ true
  of_slot = ap (λ n. n == part) (mod-eq_of_lt of_eight) ∙ equal_itself part

  of_client : (c : ℕ) (there : There logged part (OfClient c)) (s : Serving) → (b.tok.client c).phase ≡ clients.Serving s → (x : ℕ)
      (z : SlotState) → b.tok.net.slots x ≡ Some z
      → x ≤ epoch_of s.tokens.epochs part
  of_client c there s fact x z at =
      let agreed = subst (ClientAgrees true part c b.tok.net) fact (now.client_held logged part count b c there) in
      subst (λ (y : TokensState). x ≤ epoch_of y.epochs part) agreed.tokens
      (laws.tokens.active_epochs_promised true (members cl part) part (with_promise 1 b.tok.net) some_block (record {
        run = b.tokens_stand.runs;
        inside =
            of_slot;
      }) x z at c
      (record { some = there.0; within = now.member logged part count b c there }))

  of_cleaner : (v : Emptying) → b.tok.cleaner.phase ≡ cleaners.Serving v → (x : ℕ) (z : SlotState) → b.tok.net.slots x ≡ Some z
      → x ≤ owner.epoch_of v.promised part
  of_cleaner v fact x z at =
      let stands = subst (CleanerStands part b.tok.net.promised (epoch_now cl part b.tok)) fact b.tokens_stand.cleaner.1 in
      let promised = stands.promises in
      let low = (b.tokens_stand.entered x z at).4 in
      let same = unwrap_or-slice_get v.promised.epochs part 0 in
      omega arith

  -- ---- owners

  module _ (sure : IsSureUpto logged part count)
      (known : LogsKnown logged part count b) where
    pub clients_linked : (c : ℕ) (there : There logged part (OfClient c)) → ClientLinked part n c (b.tok.client c).phase
    clients_linked c there = by (b.tok.client c).phase refl
      where
        by : (p : Phase) → (b.tok.client c).phase ≡ p → ClientLinked part n c p
        by (clients.Serving s) fact =
            linked_from (epoch_of s.tokens.epochs part) (of_client c there s fact) c (setting base e (OfClient c)) ((lines (OfClient c) there).scene count).net
            there.0 (let less = now.below logged part count b c there in omega arith)
            (now.client_sure logged part count b c there sure) (known.all (OfClient c) there refl).known.line
            (now.registry_seen logged part count b (OfClient c) there)
        by (clients.Opening l o) fact = tt
        by (clients.Down l) fact = tt

    pub cleaner_linked : CleanerLinked part n b.tok.cleaner.phase
    cleaner_linked = by b.tok.cleaner.phase refl
      where
        by : (p : cleaning.Phase) → b.tok.cleaner.phase ≡ p → CleanerLinked part n p
        by (cleaners.Serving v) fact =
            linked_from (owner.epoch_of v.promised part) (of_cleaner v fact) cleaners_number (setting base e OfCleaner) ((lines OfCleaner tt).scene count).net (omega arith)
            (omega arith) (sure_at logged part count sure) (known.all OfCleaner tt refl).known.line
            (now.registry_seen logged part count b OfCleaner tt)
        by (cleaners.Opening l o) fact = tt
        by (cleaners.Down l) fact = tt
