-- A log that waits for such versions and has such a segment in flight goes on so, whatever it takes.
use Rattle.std.proofs.Common.{List, ◌≡◌, ℕ, zero, suc, ◌≤◌, [], ◌∷◌, map, length, Option, Some, None, refl, sym, subst}
use Rattle.std.specs.Prelude.{drop, take, IfSome}
use Rattle.std.proofs.lemmas.List.{drop-map, take-map}
use Rattle.indexmap.specs.IndexMap.{insert_entry}
use Rattle.client_log.specs.declared.input.In.{In}
use Rattle.client_log.specs.LogState.{LogState}
use Rattle.client_log.specs.Transition.{transition}
use Rattle.log_flight.specs.declared.dirty.Change.{Change}
use Rattle.log_flight.specs.Flights.{FlightState}
use Rattle.log_flight.specs.Items.{items_of}
use Rattle.node_moves.proofs.LogWalk as log_walk
use Rattle.node_moves.proofs.LogWalk.{Walk}
use Rattle.node_slots.specs.node_tie.LogRows.{row_of, told}
use Rattle.node_slots.proofs.node_tie.ClientRows.{once_dropped, once_put, once_taken, rows_put}
use Rattle.node_slots.proofs.node_tie.LogRows.{take_within}
use Rattle.segment_format.specs.declared.segment.Item.{Item}
use Rattle.segment_format.specs.declared.segment.Segment.{Segment}
use Rattle.token_law.specs.Books.{AreOnce}
use Rattle.xfs_base.proofs.Booleans.{by_test}
use Rattle.xfs_base.specs.Blocks.{same_block}
use Rattle.xfs_base.specs.declared.block.BlockId.{BlockId}
use Rattle.xfs_base.specs.Limits.{segment_blocks}
use Rattle.run_laws.specs.segment_tie.Segments.{IsOriginal, IsCopies, IsFirstHand, IsMoved, IsWaiting, WritesSo}
use Rattle.run_laws.proofs.segment_tie.Items.{Says, Changes, AllWait, changes_tell, original_alike, original_of, copies_alike, copies_of}

-- what flies is of a kind: another attempt of it is, and what is written of such versions is
pub record IsKind (Moved : ℕ → Type 0) (Flies : Segment → Type 0) : Type 0 where
  pub alike : (s t : Segment) → s.items ≡ t.items → Flies s → Flies t
  pub made : (s : Segment) (cs : Changes) → length cs ≤ segment_blocks → AreOnce (map told cs) → AllWait Moved cs → s.items ≡ items_of 0 cs → Flies s

pub originals : IsKind IsFirstHand IsOriginal
originals = record {
  alike = original_alike;
  made = λ s cs few once all fact. original_of s (subst (Says IsFirstHand) (sym fact) (changes_tell IsFirstHand cs few once all));
}

pub copies : IsKind IsMoved IsCopies
copies = record {
  alike = copies_alike;
  made = λ s cs few once all fact. copies_of s (subst (Says IsMoved) (sym fact) (changes_tell IsMoved cs few once all));
}

module _ (Moved : ℕ → Type 0) (Flies : Segment → Type 0) (kind : IsKind Moved Flies) where
  abbrev So : LogState → Type 0
  So s = WritesSo Moved Flies s.dirty s.flight

  -- ---- what waits

  pub dropped : (n : ℕ) (cs : Changes) → AllWait Moved cs → AllWait Moved (drop n cs)
  dropped zero cs all = all
  dropped (suc n) [] all = tt
  dropped (suc n) (c ∷ cs) all = dropped n cs all.1

  pub taken : (n : ℕ) (cs : Changes) → AllWait Moved cs → AllWait Moved (take n cs)
  taken zero cs all = tt
  taken (suc n) [] all = tt
  taken (suc n) (c ∷ cs) all = (all.0, taken n cs all.1)

  pub put : (block : BlockId) (change : Change) (cs : Changes) → IsWaiting Moved change → AllWait Moved cs → AllWait Moved (insert_entry same_block cs block change)
  put block change [] new all = (new, tt)
  put block change (c ∷ cs) new all =
      by_test (AllWait Moved) (same_block block c.0) ((c.0, change) ∷ cs) (c ∷ insert_entry same_block cs block change) (λ t. (new, all.1))
      (λ t. (all.0, put block change cs new all.1))

  -- ---- the log

  -- each segment with these items is of the kind
  abbrev pub AllFly : List Item → Type 0
  AllFly items = (t : Segment) → t.items ≡ items → Flies t

  abbrev pub walk : Walk
  walk = record {
    Waits = λ log dirty. AreOnce (map told dirty) × AllWait Moved dirty;
    Flies = λ name items. AllFly items;
    Says = λ out. Unit {0};
    Puts = λ block change. IsWaiting Moved change;
    Writes = AllFly;
    puts = λ s block change new h. (
      subst AreOnce (sym (rows_put row_of block change s.dirty)) (once_put block (row_of change) (map told s.dirty) h.0),
      put block change s.dirty new h.1,
    );
    leaves = λ s h. (
      subst AreOnce (drop-map told segment_blocks s.dirty) (once_dropped segment_blocks (map told s.dirty) h.0),
      dropped segment_blocks s.dirty h.1,
    );
    seals = λ s h t fact.
        kind.made t (take segment_blocks s.dirty) (take_within segment_blocks s.dirty)
        (subst AreOnce (take-map told segment_blocks s.dirty) (once_taken segment_blocks (map told s.dirty) h.0)) (taken segment_blocks s.dirty h.1) fact;
    writes = λ s items fact h. fact;
    again = λ name items fact. fact;
    sends = λ f place member fact. tt;
    settles = λ f fact. tt;
  }

  all_fly : (o : Option FlightState) → IfSome o (λ f. Flies f.segment) → IfSome o (λ f. AllFly f.segment.items)
  all_fly None h = tt
  all_fly (Some f) h = λ t fact. kind.alike f.segment t (sym fact) h

  one_flies : (o : Option FlightState) → IfSome o (λ f. AllFly f.segment.items) → IfSome o (λ f. Flies f.segment)
  one_flies None h = tt
  one_flies (Some f) h = h f.segment refl

  pub log_so : (s : LogState) (i : In) → log_walk.Given walk i → So s → So (transition s i).state
  log_so s i given h =
      let d = log_walk.log_goes walk s i given (record { waits = (h.once, h.each); flies = all_fly s.flight h.flies }) in
      record { once = d.holds.waits.0; each = d.holds.waits.1; flies = one_flies (transition s i).state.flight d.holds.flies }
