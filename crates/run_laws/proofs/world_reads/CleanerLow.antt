-- Of each log, the horizon of some epoch that the cleaner has promised is at or above the least one that the registry keeps: nobody is active at a later one.
use Rattle.std.proofs.Common.{◌≡◌, ℕ, ◌≤◌, ◌<◌, Bool, nat_le, true, false, Option, None, Some, refl, mod-eq_of_lt, arith}
use Rattle.std.proofs.lemmas.Bool.Decides.{nat_tests}
use Rattle.checkpoint.specs.WriterState.{Rows}
use Rattle.run_laws.proofs.epoch_law.Least.{least_kept, least_since}
use Rattle.run_laws.specs.epoch_law.Polls.{HorizonsStay}
use Rattle.index_tie.proofs.Runs.{good_in}
use Rattle.index_tie.proofs.Views.{Good, View}
use Rattle.index_tie.specs.Net.{Net, Runs, opening}
use Rattle.headline.specs.Indexes.{of_log}
use Rattle.log_protocol.proofs.IndexInduction.{index_in_bounds_always}
use Rattle.log_protocol.specs.IndexBoundLaws.{IndexInBounds}
use Rattle.log_scan.specs.Transition.{least_horizon}
use Rattle.node_slots.specs.node_index_tie.RegistryEvents.{RegistryAgrees}
use Rattle.registry.specs.Board.{board_slots}
use Rattle.segment_format.specs.declared.segment.Segment.{Segment}
use Rattle.registry_node.specs.declared.node.RegistryNode.{RegistryNode}
use Rattle.token_manager.specs.SlotState.{SlotState}
use Rattle.xfs_base.specs.declared.block.BlockId.{BlockId}
use Rattle.xfs_base.specs.declared.segment.SegRef.{SegRef}

module _ (stay : HorizonsStay) (part : ℕ) (holds : SegRef → Rows) (first : ℕ → ℕ → Segment) (n : Net) (of_eight : part < 8)
    (runs : Runs part holds (opening first) n) where
  -- a block of the slot
  abbrev some_block : BlockId
  some_block = record { ino = record { 0 = part }; blk = 0 }

  good : Good part holds n
  good = good_in part holds first n runs

  seen : View part holds some_block n
  seen = good.views some_block (mod-eq_of_lt of_eight)

  bounds : IndexInBounds seen.state
  bounds = index_in_bounds_always seen.state seen.reached

  -- nobody is active above it
  nobody : (e : ℕ) → n.promised < e → n.slots e ≡ None
  nobody e above = by (n.slots e) refl
    where
      by : (o : Option SlotState) → n.slots e ≡ o → n.slots e ≡ None
      by None fact = fact
      by (Some s) fact =
          let low = bounds.active_promised s.epoch (seen.slots e s fact).active in
          let same = good.epochs e s fact in
          let its = seen.promised in
          absurd (omega arith)

  -- the horizon of the log of some epoch that it has promised
  pub record IsPromisedAbove (l low : ℕ) : Type 0 where
    pub epoch : ℕ
    pub promised : epoch ≤ n.promised
    pub above : low ≤ of_log (n.horizon epoch) l

  pub least_promised : (r : RegistryNode) → RegistryAgrees part n r → (l : ℕ) → 0 < l → l ≤ 9 → IsPromisedAbove l (least_horizon l (board_slots r.board))
  least_promised r agreed l some limit = by (nat_le n.promised n.epoch) refl
    where
      by : (t : Bool) → nat_le n.promised n.epoch ≡ t → IsPromisedAbove l (least_horizon l (board_slots r.board))
      by true fact = record {
        epoch = n.promised;
        promised = omega arith;
        above = least_since stay part holds first n of_eight runs n.promised nobody (grind (arith, nat_tests, fact)) r agreed l some limit;
      }
      by false fact = record {
        epoch = n.epoch;
        promised = grind (arith, nat_tests, fact);
        above = least_kept part n r of_eight agreed l some limit;
      }
