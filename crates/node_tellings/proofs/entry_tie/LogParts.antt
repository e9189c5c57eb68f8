-- The log of checkpoints of a manager: what it has in flight are Parts alone, whose rows are told, whatever it takes but versions of blocks.
use Rattle.std.proofs.Common.{◌≡◌, List, [], sym, ap, subst}
use Rattle.std.specs.Prelude.{drop, take}
use Rattle.std.specs.List.{AllByRecursion}
use Rattle.client_log.specs.LogState.{LogState}
use Rattle.log_flight.specs.declared.dirty.Change.{Change}
use Rattle.log_flight.specs.Items.{items_of}
use Rattle.xfs_base.specs.declared.block.BlockId.{BlockId}
use Rattle.xfs_base.specs.Limits.{segment_blocks}
use Rattle.node_tellings.specs.entry_tie.ManagerTells.{PartTold, LogHolds}
use Rattle.node_tellings.specs.entry_tie.Told.{Told}
use Rattle.node_moves.proofs.LogWalk as log_walk
use Rattle.node_moves.proofs.LogWalk.{IsHeard, Walk}
use Rattle.client_log.specs.declared.input.In.{In}
use Rattle.client_log.specs.Transition.{transition}

module _ (told : Told) where
  abbrev pub walk : Walk
  walk = record {
    Waits = λ log dirty. dirty ≡ [];
    Flies = λ name items. AllByRecursion (PartTold told) items;
    Says = λ out. Unit {0};
    Puts = λ block change. ⊥;
    Writes = λ items. AllByRecursion (PartTold told) items;
    puts = λ s block change new clear. absurd new;
    leaves = λ s clear. ap (λ (d : List (BlockId × Change)). drop segment_blocks d) clear;
    seals = λ s clear. subst (λ (d : List (BlockId × Change)). AllByRecursion (PartTold told) (items_of 0 (take segment_blocks d))) (sym clear) tt;
    writes = λ s items fact clear. fact;
    again = λ name items fact. fact;
    sends = λ f place member fact. tt;
    settles = λ f fact. tt;
  }

  pub log_holds : (s : LogState) (i : In) → log_walk.Given walk i → LogHolds told s → LogHolds told (transition s i).state
  log_holds s i given h =
      let d = log_walk.log_goes walk s i given (record { waits = h.clear; flies = h.flight }) in
      record { clear = d.holds.waits; flight = d.holds.flies }

  pub holds_heard : (s : LogState) (i : In) → IsHeard i → LogHolds told s → LogHolds told (transition s i).state
  holds_heard s i is h = log_holds s i (log_walk.heard walk i is) h
