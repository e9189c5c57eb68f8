-- Whatever a log of the cleaner takes, what waits in it, and what it has in flight, was answered Live and is moved once, if what is put is.
use Rattle.std.proofs.Common.{◌≡◌, ◌<◌, ℕ, zero, suc, ◌+◌, Bool, true, false, cond, List, [], ◌∷◌, length, map, take, drop, Option, Some, None, refl, sym, subst, arith}
use Rattle.std.specs.List.{AllByRecursion, filter_map}
use Rattle.std.specs.Prelude.{IfSome, fold, filter}
use Rattle.client_log.specs.declared.input.In.{In as Input}
use Rattle.client_log.specs.LogState.{LogState}
use Rattle.client_log.specs.Transition.{transition}
use Rattle.delta_index.specs.Entries.{no_entry, first_greatest, is_newer}
use Rattle.delta_index.specs.Join.{entries_of}
use Rattle.index_tie.specs.Growth.{said_of}
use Rattle.index_tie.specs.Net.{Packet, IsMove}
use Rattle.log_flight.specs.declared.dirty.Change.{Change}
use Rattle.log_flight.specs.Flights.{FlightState}
use Rattle.log_flight.specs.Items.{change_items, items_of}
use Rattle.node_slots.specs.node_index_tie.Pages.{FlightIsText}
use Rattle.headline.specs.Filed.{Texts}
use Rattle.indexmap.specs.IndexMap.{insert_entry}
use Rattle.segment_format.specs.declared.segment.Item.{Item}
use Rattle.segment_format.specs.declared.segment.Item.TheVariants.{Block, Delta, Part}
use Rattle.segment_format.specs.declared.segment.Segment.{Segment}
use Rattle.segment_format.specs.Rows.{place_of, row_of, rows_of}
use Rattle.segment_format.specs.Rule.{no_item}
use Rattle.xfs_base.proofs.BlockOrder.{same_block_exact}
use Rattle.xfs_base.proofs.Booleans.{by_test}
use Rattle.xfs_base.specs.Blocks.{same_block, slot_of}
use Rattle.xfs_base.specs.declared.block.BlockId.{BlockId}
use Rattle.xfs_base.specs.declared.entry.Entry.{Entry}
use Rattle.xfs_base.specs.Limits.{segment_blocks}
use Rattle.xfs_base.proofs.Alls.{all_append}
use Rattle.node_moves.proofs.LogWalk as log_walk
use Rattle.node_moves.proofs.LogWalk.{Walk}
use Rattle.node_slots.specs.owner_index_tie.CleanerMoves.{IsMovedOnce, ItemMoves, LogMoves, FlightsAreMoves}

module _ (part : ℕ) (sent : List Packet) where
  abbrev ChangeMoves : BlockId × Change → Type 0
  ChangeMoves c = IsMovedOnce part sent c.0 c.1.entry

  abbrev AllMove : List Item → Type 0
  AllMove items = AllByRecursion (ItemMoves part sent) items

  change_moves : (before : ℕ) (block : BlockId) (change : Change) → IsMovedOnce part sent block change.entry → AllMove (change_items before block change)
  change_moves before block change k = by change.value
    where
      again : (item : ℕ) → ItemMoves part sent (Delta block change.entry.ver change.entry.hop item)
      again item = record { entry = k.entry; answered = k.answered; version = k.version; hop = k.hop }

      by : (o : Option (List ℕ)) → AllMove (elim o [
        | None ↦ Delta block change.entry.ver change.entry.hop no_item ∷ []
        | Some bytes ↦ Block block (Some bytes) ∷ Delta block change.entry.ver change.entry.hop before ∷ []
      ])
      by None = (again no_item, tt)
      by (Some bytes) = (tt, (again before, tt))

  pub items_move : (before : ℕ) (cs : List (BlockId × Change)) → AllByRecursion ChangeMoves cs → AllMove (items_of before cs)
  items_move before [] all = tt
  items_move before (c ∷ cs) all =
      all_append (ItemMoves part sent) (change_items before c.0 c.1) (items_of (before + length (change_items before c.0 c.1)) cs)
      (change_moves before c.0 c.1 all.0) (items_move (before + length (change_items before c.0 c.1)) cs all.1)

  pub taken : (n : ℕ) (cs : List (BlockId × Change)) → AllByRecursion ChangeMoves cs → AllByRecursion ChangeMoves (take n cs)
  taken zero cs all = tt
  taken (suc n) [] all = tt
  taken (suc n) (c ∷ cs) all = (all.0, taken n cs all.1)

  pub dropped : (n : ℕ) (cs : List (BlockId × Change)) → AllByRecursion ChangeMoves cs → AllByRecursion ChangeMoves (drop n cs)
  dropped zero cs all = all
  dropped (suc n) [] all = tt
  dropped (suc n) (c ∷ cs) all = dropped n cs all.1

  pub inserted : (block : BlockId) (change : Change) (cs : List (BlockId × Change)) → IsMovedOnce part sent block change.entry → AllByRecursion ChangeMoves cs
      → AllByRecursion ChangeMoves (insert_entry same_block cs block change)
  inserted block change [] new all = (new, tt)
  inserted block change (c ∷ cs) new all =
      by_test (AllByRecursion ChangeMoves) (same_block block c.0) ((c.0, change) ∷ cs) (c ∷ insert_entry same_block cs block change)
      (λ same. (subst (λ b. IsMovedOnce part sent b change.entry) (sym (same_block_exact block c.0 same)) new, all.1))
      (λ _. (all.0, inserted block change cs new all.1))

  -- ---- whatever it takes

  abbrev pub walk : Walk
  walk = record {
    Waits = λ log dirty. AllByRecursion ChangeMoves dirty;
    Flies = λ name items. AllMove items;
    Says = λ out. Unit {0};
    Puts = λ block change. IsMovedOnce part sent block change.entry;
    Writes = λ items. AllMove items;
    puts = λ s block change new all. inserted block change s.dirty new all;
    leaves = λ s all. dropped segment_blocks s.dirty all;
    seals = λ s all. items_move 0 (take segment_blocks s.dirty) (taken segment_blocks s.dirty all);
    writes = λ s items fact all. fact;
    again = λ name items fact. fact;
    sends = λ f place member fact. tt;
    settles = λ f fact. tt;
  }

  -- what is put was answered
  abbrev pub InputMoves : Input → Type 0
  InputMoves i = log_walk.Given walk i

  flies : (o : Option FlightState) → ((f : FlightState) → o ≡ Some f → AllMove f.segment.items) → IfSome o (λ f. AllMove f.segment.items)
  flies None each = tt
  flies (Some f) each = each f refl

  pub log_moves : (s : LogState) (i : Input) → LogMoves part sent s → InputMoves i → LogMoves part sent (transition s i).state
  log_moves s i h new =
      let d = log_walk.log_goes walk s i new (record { waits = h.dirty; flies = flies s.flight h.flight }) in
      record { dirty = d.holds.waits; flight = λ f fact. subst (λ (o : Option FlightState). IfSome o (λ x. AllMove x.segment.items)) fact d.holds.flies }

  -- ---- what a segment says

  -- what is said of one block
  abbrev Says : BlockId → Entry → Type 0
  Says b e = 0 < e.ver → IsMovedOnce part sent b e

  entries_move : (s : Segment) (b : BlockId) (items : List Item) → AllMove items → AllByRecursion (Says b) (entries_of b (filter_map (row_of s) items))
  entries_move s b [] all = tt
  entries_move s b (Block block value ∷ items) all = entries_move s b items all.1
  entries_move s b (Part slot rows ∷ items) all = entries_move s b items all.1
  entries_move s b (Delta block ver hop item ∷ items) all = by (same_block b block) refl (entries_move s b items all.1)
    where
      own : same_block b block ≡ true → IsMovedOnce part sent b (record { ver = ver; hop = hop; place = place_of s item })
      own same = let k = subst (λ x. IsMovedOnce part sent x (record { ver = ver; hop = hop; place = None })) (same_block_exact b block same) all.0 in
          record { entry = k.entry; answered = k.answered; version = k.version; hop = k.hop }

      by : (t : Bool) → same_block b block ≡ t → AllByRecursion (Says b) (entries_of b (filter_map (row_of s) items))
          → AllByRecursion (Says b) (map (λ (m : BlockId × Entry). m.1)
          (cond t ((block, record { ver = ver; hop = hop; place = place_of s item }) ∷ filter (λ (m : BlockId × Entry). same_block b m.0)
          (filter_map (row_of s) items)) (filter (λ (m : BlockId × Entry). same_block b m.0) (filter_map (row_of s) items))))
      by true same rest = ((λ some. own same), rest)
      by false other rest = rest

  greatest_moves : (b : BlockId) (from : Entry) (es : List Entry) → Says b from → AllByRecursion (Says b) es → Says b (fold first_greatest from es)
  greatest_moves b from [] h all = h
  greatest_moves b from (e ∷ es) h all = greatest_moves b (first_greatest from e) es (one (is_newer e from)) all.1
    where
      one : (t : Bool) → Says b (cond t e from)
      one true = all.0
      one false = h

-- what a segment whose items are moves says of each block of the slot was answered Live, and is moved once
pub segment_moves : (part : ℕ) (sent : List Packet) (s : Segment) → AllByRecursion (ItemMoves part sent) s.items → (b : BlockId) → slot_of b.ino.0 ≡ part
    → 0 < (said_of s b).ver → IsMove b sent s
segment_moves part sent s all b inside some =
    let k = greatest_moves part sent b no_entry (entries_of b (rows_of s)) (λ none. absurd (omega arith)) (entries_move part sent s b s.items all) some in
    record { entry = k.entry; answered = k.answered inside; version = k.version; hop = k.hop }

-- what is in flight is the text of its name, and is moved
abbrev pub FlightKnown : ℕ → Texts → List Packet → LogState → Type 0
FlightKnown part texts sent s = FlightIsText texts s × ((f : FlightState) → s.flight ≡ Some f → AllByRecursion (ItemMoves part sent) f.segment.items)

pub flights_are_moves : FlightsAreMoves
flights_are_moves part sent s f h fact b inside some = segment_moves part sent f.segment (h.flight f fact) b inside some
