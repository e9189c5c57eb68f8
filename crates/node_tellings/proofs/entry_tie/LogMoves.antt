-- The log of the cleaner: what waits in it, and what it has in flight, is told, moved once more, whatever it takes.
use Rattle.std.proofs.Common.{ℕ, zero, suc, ◌+◌, List, [], ◌∷◌, Some, None, length, sym, ap, subst}
use Rattle.std.specs.Prelude.{drop, take}
use Rattle.std.specs.List.{AllByRecursion, filter_map}
use Rattle.indexmap.specs.IndexMap.{insert_entry}
use Rattle.client_log.specs.LogState.{LogState}
use Rattle.client_log.specs.Transition.{transition}
use Rattle.log_flight.specs.declared.dirty.Change.{Change}
use Rattle.log_flight.specs.Items.{change_items, items_of}
use Rattle.segment_format.specs.declared.segment.Item.{Item}
use Rattle.segment_format.specs.declared.segment.Item.TheVariants.{Block, Delta, Part}
use Rattle.segment_format.specs.declared.segment.Segment.{Segment}
use Rattle.segment_format.specs.Rows.{row_of}
use Rattle.segment_format.specs.Rule.{no_item}
use Rattle.xfs_base.proofs.BlockOrder.{same_block_exact}
use Rattle.xfs_base.proofs.Booleans.{by_test}
use Rattle.xfs_base.specs.Blocks.{same_block}
use Rattle.xfs_base.specs.declared.block.BlockId.{BlockId}
use Rattle.xfs_base.specs.declared.entry.Entry.{Entry}
use Rattle.xfs_base.specs.Limits.{segment_blocks}
use Rattle.xfs_base.proofs.Alls.{all_append}
use Rattle.node_tellings.specs.entry_tie.CleanerTells.{MovedTold, VersionTold, WaitTold, ItemTold, LogMoves}
use Rattle.node_tellings.specs.entry_tie.Told.{Told}
use Rattle.node_moves.proofs.LogWalk as log_walk
use Rattle.node_moves.proofs.LogWalk.{IsHeard, Walk}
use Rattle.client_log.specs.declared.input.In.{In}

module _ (told : Told) where
  abbrev Waiting : Type 0
  Waiting = List (BlockId × Change)

  abbrev Waits : Waiting → Type 0
  Waits dirty = AllByRecursion (WaitTold told) dirty

  -- ---- what waits

  pub dropped_waits : (n : ℕ) (dirty : Waiting) → Waits dirty → Waits (drop n dirty)
  dropped_waits zero dirty all = all
  dropped_waits (suc n) [] all = tt
  dropped_waits (suc n) (w ∷ ws) all = dropped_waits n ws all.1

  pub taken_waits : (n : ℕ) (dirty : Waiting) → Waits dirty → Waits (take n dirty)
  taken_waits zero dirty all = tt
  taken_waits (suc n) [] all = tt
  taken_waits (suc n) (w ∷ ws) all = (all.0, taken_waits n ws all.1)

  pub put_waits : (block : BlockId) (change : Change) (dirty : Waiting) → MovedTold told block change.entry → Waits dirty
      → Waits (insert_entry same_block dirty block change)
  put_waits block change [] new all = (new, tt)
  put_waits block change (w ∷ ws) new all =
      by_test Waits (same_block block w.0) ((w.0, change) ∷ ws) (w ∷ insert_entry same_block ws block change)
      (λ t. (subst (λ b. MovedTold told b change.entry) (sym (same_block_exact block w.0 t)) new, all.1)) (λ t. (all.0, put_waits block change ws new all.1))

  change_told : (before : ℕ) (block : BlockId) (change : Change) → MovedTold told block change.entry
      → AllByRecursion (ItemTold told) (change_items before block change)
  change_told before block change fact =
      let version : VersionTold told block change.entry.ver change.entry.hop = record {
        before = fact.before;
        before_told = fact.before_told;
        ver = ap (λ (e : Entry). e.ver) fact.moved;
        hop = ap (λ (e : Entry). e.hop) fact.moved;
      } in
      elim change.value as (λ o. AllByRecursion (ItemTold told) (elim o [
        | None ↦ Delta block change.entry.ver change.entry.hop no_item ∷ []
        | Some bytes ↦ Block block (Some bytes) ∷ Delta block change.entry.ver change.entry.hop before ∷ []
      ])) [
        | None ↦ (version, tt)
        | Some bytes ↦ (tt, (version, tt))
      ]

  pub items_told : (before : ℕ) (dirty : Waiting) → Waits dirty → AllByRecursion (ItemTold told) (items_of before dirty)
  items_told before [] all = tt
  items_told before (w ∷ ws) all =
      all_append (ItemTold told) (change_items before w.0 w.1) (items_of (before + length (change_items before w.0 w.1)) ws)
      (change_told before w.0 w.1 all.0) (items_told (before + length (change_items before w.0 w.1)) ws all.1)

  -- ---- whatever it takes

  abbrev pub walk : Walk
  walk = record {
    Waits = λ log dirty. Waits dirty;
    Flies = λ name items. AllByRecursion (ItemTold told) items;
    Says = λ out. Unit {0};
    Puts = λ block change. MovedTold told block change.entry;
    Writes = λ items. AllByRecursion (ItemTold told) items;
    puts = λ s block change new all. put_waits block change s.dirty new all;
    leaves = λ s all. dropped_waits segment_blocks s.dirty all;
    seals = λ s all. items_told 0 (take segment_blocks s.dirty) (taken_waits segment_blocks s.dirty all);
    writes = λ s items fact all. fact;
    again = λ name items fact. fact;
    sends = λ f place member fact. tt;
    settles = λ f fact. tt;
  }

  pub log_moves : (s : LogState) (i : In) → log_walk.Given walk i → LogMoves told s → LogMoves told (transition s i).state
  log_moves s i given h =
      let d = log_walk.log_goes walk s i given (record { waits = h.waits; flies = h.flight }) in
      record { waits = d.holds.waits; flight = d.holds.flies }

  pub moves_heard : (s : LogState) (i : In) → IsHeard i → LogMoves told s → LogMoves told (transition s i).state
  moves_heard s i is h = log_moves s i (log_walk.heard walk i is) h

  -- ---- what a segment says

  -- each row of such a segment says of a version that is told, moved once more
  pub rows_move : (s : Segment) (items : List Item) → AllByRecursion (ItemTold told) items
      → AllByRecursion (λ row. VersionTold told row.0 row.1.ver row.1.hop) (filter_map (row_of s) items)
  rows_move s [] all = tt
  rows_move s (Block block value ∷ rest) all = rows_move s rest all.1
  rows_move s (Delta block ver hop item ∷ rest) all = (all.0, rows_move s rest all.1)
  rows_move s (Part slot rows ∷ rest) all = rows_move s rest all.1
