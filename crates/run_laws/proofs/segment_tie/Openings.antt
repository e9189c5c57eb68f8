-- The log of an opening: nothing waits, and its opening segment has no items, until it is settled.
use Rattle.std.proofs.Common.{◌≡◌, ℕ, List, [], Option, Some, None, refl, sym, ap, subst}
use Rattle.std.specs.Prelude.{drop, take, IfSome}
use Rattle.client_log.specs.LogState.{LogState}
use Rattle.client_log.specs.Transition.{transition}
use Rattle.client_log.specs.declared.input.In.{In}
use Rattle.client_log.specs.declared.input.In.TheVariants.{Parts}
use Rattle.node_moves.proofs.LogWalk as log_walk
use Rattle.node_moves.proofs.LogWalk.{Walk}
use Rattle.node_tellings.specs.entry_tie.ClientTells as tells
use Rattle.node_tellings.specs.entry_tie.Told.{Told, RowsTold}
use Rattle.node_tellings.proofs.entry_tie.Frames as frames
use Rattle.node_tellings.proofs.entry_tie.Frames.{contains_all}
use Rattle.node_tellings.proofs.entry_tie.Openings as events
use Rattle.log_flight.specs.declared.dirty.Change.{Change}
use Rattle.log_flight.specs.Flights.{FlightState}
use Rattle.log_flight.specs.Items.{items_of}
use Rattle.log_owner.specs.declared.opened.Progress.{Progress}
use Rattle.log_owner.specs.declared.opened.Progress.TheVariants as progress
use Rattle.log_owner.specs.declared.opening.Opening.{Opening}
use Rattle.log_owner.specs.declared.opening.Stage.{Stage}
use Rattle.log_owner.specs.declared.opening.Stage.TheVariants as stage
use Rattle.log_owner.specs.Opening.{Went, opening_take, on_tick as opening_tick}
use Rattle.node_base.specs.declared.effects.Effect.{Effect}
use Rattle.node_base.specs.declared.questions.Questions.{Questions}
use Rattle.node_base.specs.Effects.{acts_of}
use Rattle.segment_format.specs.declared.segment.Segment.{Segment}
use Rattle.segment_format.specs.Rows.{rows_of}
use Rattle.version_model.specs.declared.act.Act.{Act}
use Rattle.wire_msg.specs.declared.packet.Packet.{Packet}
use Rattle.xfs_base.specs.declared.block.BlockId.{BlockId}
use Rattle.xfs_base.specs.declared.entry.Entry.{Entry}
use Rattle.xfs_base.specs.declared.node.NodeId.TheVariants.{Cleaner}
use Rattle.xfs_base.specs.Limits.{segment_blocks}
use Rattle.xfs_base.proofs.Alls.{all_each}
use Rattle.run_laws.specs.segment_tie.Clients.{StageWrites}
use Rattle.run_laws.specs.segment_tie.Segments.{IsOriginal, IsCopies, IsFirstHand, IsMoved, WritesSo, WritesOnly, WritesNothing, WritesOriginals, WritesCopies}
use Rattle.run_laws.proofs.segment_tie.Items.{nothing_is}

abbrev pub Empty : Segment → Type 0
Empty s = s.items ≡ []

-- ---- the log

abbrev pub walk : Walk
walk = record {
  Waits = λ log dirty. dirty ≡ [];
  Flies = λ name items. items ≡ [];
  Says = λ out. Unit {0};
  Puts = λ block change. ⊥;
  Writes = λ items. items ≡ [];
  puts = λ s block change new clear. absurd new;
  leaves = λ s clear. ap (λ (d : List (BlockId × Change)). drop segment_blocks d) clear;
  seals = λ s clear. ap (λ (d : List (BlockId × Change)). items_of 0 (take segment_blocks d)) clear;
  writes = λ s items fact clear. fact;
  again = λ name items fact. fact;
  sends = λ f place member fact. tt;
  settles = λ f fact. tt;
}

pub log_so : (s : LogState) (i : In) → log_walk.Given walk i → WritesNothing s → WritesNothing (transition s i).state
log_so s i given h =
    let d = log_walk.log_goes walk s i given (record { waits = h.clear; flies = h.flies }) in
    record { clear = d.holds.waits; flies = d.holds.flies }

opening_log : events.KeepsLog WritesNothing
opening_log = record {
  first = λ log inc end groups. record { clear = refl; flies = tt };
  begins = λ s h. log_so s (Parts []) refl h;
  hears = λ s i heard h. log_so s i (log_walk.heard walk i heard) h;
}

-- ---- the opening

-- nothing is claimed of where blocks lie
any_told : Told
any_told block entry = Unit {0}

-- where it still opens its log nothing is written, nor where the log is open
abbrev pub ProgressWrites : Progress → Type 0
ProgressWrites (progress.Opening o) = StageWrites o.stage
ProgressWrites (progress.Opened o) = WritesNothing o.log
ProgressWrites (progress.Lost seg) = Unit {0}

module _ (done : List Act) where
  any_rows : (rows : List (BlockId × Entry)) → RowsTold any_told rows
  unfolding any_told
  any_rows rows = all_each (λ row. Unit {0}) (λ row. tt) rows

  any_owed : (at : Stage) → tells.StageOwed any_told done at
  any_owed (stage.Scanning s) = tt
  any_owed (stage.Settling s) = all_each (tells.SegmentOwed any_told done) (λ segment acts. any_rows (rows_of segment)) s.chain

  kept : (at : Stage) → StageWrites at → events.StageKeeps any_told done WritesNothing opening_log at
  kept (stage.Scanning s) h = tt
  kept (stage.Settling s) h = h

  held : (at : Stage) → events.StageKeeps any_told done WritesNothing opening_log at → StageWrites at
  held (stage.Scanning s) h = tt
  held (stage.Settling s) h = h

  progressed : (p : Progress) → events.ProgressHolds any_told done WritesNothing opening_log p → ProgressWrites p
  progressed (progress.Opening o) h = held o.stage h
  progressed (progress.Opened o) h = h.keeps
  progressed (progress.Lost seg) h = tt

-- its own acts are among themselves
acted : (es : List Effect) → frames.AllActed any_told (acts_of Cleaner es) es
acted es = frames.acts_acted any_told (acts_of Cleaner es) Cleaner es (contains_all (acts_of Cleaner es))

pub packet_writes : (o : Opening) (q : Questions) (p : Packet) → StageWrites o.stage → ProgressWrites (opening_take o q p).progress
packet_writes o q p h =
    let w : Went = opening_take o q p in
    let done : List Act = acts_of Cleaner w.effects in
    progressed done w.progress
    (events.packet_goes any_told done WritesNothing opening_log o q p (any_owed done o.stage) (kept done o.stage h) (acted w.effects)).0

pub tick_writes : (o : Opening) (q : Questions) → StageWrites o.stage → ProgressWrites (opening_tick o q).progress
tick_writes o q h =
    let w : Went = opening_tick o q in
    let done : List Act = acts_of Cleaner w.effects in
    progressed done w.progress
    (events.tick_goes any_told done WritesNothing opening_log o q (any_owed done o.stage) (kept done o.stage h) (acted w.effects)).0

-- ---- the log that is open then

module _ (Moved : ℕ → Type 0) (Flies : Segment → Type 0) (empty : (s : Segment) → s.items ≡ [] → Flies s) where
  opened_flies : (o : Option FlightState) → IfSome o (λ f. Empty f.segment) → IfSome o (λ f. Flies f.segment)
  opened_flies None h = tt
  opened_flies (Some f) h = empty f.segment h

  opened_so : (waits : List (BlockId × Change)) (flight : Option FlightState) → WritesOnly Empty waits flight → WritesSo Moved Flies waits flight
  opened_so waits flight h =
      subst (λ (w : List (BlockId × Change)). WritesSo Moved Flies w flight) (sym h.clear)
      (record { once = tt; each = tt; flies = opened_flies flight h.flies })

pub opens_originals : (s : LogState) → WritesNothing s → WritesOriginals s
opens_originals s h = opened_so IsFirstHand IsOriginal (λ t none. (nothing_is t none).original) s.dirty s.flight h

pub opens_copies : (s : LogState) → WritesNothing s → WritesCopies s
opens_copies s h = opened_so IsMoved IsCopies (λ t none. (nothing_is t none).copies) s.dirty s.flight h
