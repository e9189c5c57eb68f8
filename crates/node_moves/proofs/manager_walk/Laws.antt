-- What a law of a manager shows of the few things that happen to its slots, to the checkpoints that it writes and to its log, and of what it says; the walk has
-- it then of all that comes to a manager, of time, and of its items.
use Rattle.std.proofs.Common.{◌≡◌, ℕ, List, [], ◌∷◌, ◌++◌, Option, Some, None}
use Rattle.std.specs.Prelude.{IfSome, drop, take}
use Rattle.std.specs.List.{AllByRecursion}
use Rattle.checkpoint.specs.declared.input.In.{In as WriterIn}
use Rattle.checkpoint.specs.declared.input.In.TheVariants as writer_in
use Rattle.checkpoint.specs.Transition as writer
use Rattle.checkpoint.specs.WriterState.{WorkState, items_of}
use Rattle.client_log.specs.declared.input.In.{In as LogIn}
use Rattle.client_log.specs.LogState.{LogState}
use Rattle.client_log.specs.Transition as log
use Rattle.client_log.specs.Transition.{end_of}
use Rattle.log_flight.specs.Flights.{FlightState}
use Rattle.manager_serving.specs.declared.checkpointing.Checkpointing.{Checkpointing}
use Rattle.manager_serving.specs.declared.serving.Serving.{Serving}
use Rattle.manager_slots.specs.declared.slot_phase.Active.{Active}
use Rattle.manager_slots.specs.declared.slot_phase.SlotPhase.{SlotPhase}
use Rattle.manager_slots.specs.declared.slot_phase.SlotPhase.TheVariants as phase
use Rattle.manager_slots.specs.SlotTable.{begin_one}
use Rattle.node_base.specs.declared.effects.Effect.{Effect}
use Rattle.segment_format.specs.declared.segment.Item.{Item}
use Rattle.segment_format.specs.declared.segment.Segment.{Segment}
use Rattle.segment_reading.specs.Reading.{ReadingState, reading_take}
use Rattle.stripe_code.specs.declared.round.Told.{Told as Answered}
use Rattle.takeover.specs.Course.{segment_of}
use Rattle.takeover.specs.declared.report.Report.{Report}
use Rattle.takeover.specs.declared.source.Present.{Present}
use Rattle.takeover.specs.Rows.{told_of}
use Rattle.takeover.specs.Transition.{rows_join}
use Rattle.takeover.specs.TakeState.{TakeState}
use Rattle.takeover.specs.Reports.{applied_of}
use Rattle.token_manager.specs.declared.input.In.{In as SlotIn}
use Rattle.token_manager.specs.declared.input.In.TheVariants as slot_in
use Rattle.token_manager.specs.declared.output.Out.{Out as SlotOut}
use Rattle.token_manager.specs.declared.output.Out.TheVariants as slot_out
use Rattle.token_manager.specs.Transition as slot
use Rattle.wire_msg.specs.declared.body.Body.{Body}
use Rattle.wire_msg.specs.declared.body.Body.TheVariants as body
use Rattle.wire_msg.specs.declared.cleaning.Live.{Live}
use Rattle.wire_msg.specs.declared.registry.CkptDone.{CkptDone}
use Rattle.wire_msg.specs.declared.tokens.Grant.{Grant}
use Rattle.xfs_base.specs.declared.block.BlockId.{BlockId}
use Rattle.xfs_base.specs.declared.entry.Entry.{Entry}
use Rattle.xfs_base.specs.declared.news.SlotNews.{SlotNews}
use Rattle.xfs_base.specs.declared.node.NodeId.{NodeId}
use Rattle.xfs_base.specs.declared.segment.End.{End}
use Rattle.xfs_base.specs.declared.segment.LogId.{LogId}
use Rattle.xfs_base.specs.declared.segment.SegRef.{SegRef}
use Rattle.xfs_base.specs.declared.token.Mode.{Mode}
use Rattle.node_moves.proofs.Effects as effects
use Rattle.node_moves.specs.SlotPhases.{EachSlot, SlotIs}
use Rattle.node_moves.proofs.LogWalk.{IsHeard}

abbrev pub Rows : Type 0
Rows = List (BlockId × Entry)

-- what is known of an input of a slot: of deltas, what they tell
abbrev pub Given : (Option LogId → ℕ → Rows → Type 0) → SlotIn → Type 0
Given ranges (slot_in.Deltas l first upto rows) = ranges (Some l) upto rows
Given ranges _ = Unit {0}

-- what is known of what a slot says: of a grant, what it tells of the block
abbrev pub Said : (BlockId → Entry → Type 0) → SlotOut → Type 0
Said granted (slot_out.Grant client block stamp inc req mode entry) = granted block entry
Said granted _ = Unit {0}

-- where grants may tell anything, that is known of all that a slot says
pub said_any : (granted : BlockId → Entry → Type 0) → ((block : BlockId) (entry : Entry) → granted block entry) → (outs : List SlotOut)
    → AllByRecursion (Said granted) outs
said_any granted each [] = tt
said_any granted each (slot_out.Grant client block stamp inc req mode entry ∷ outs) = (each block entry, said_any granted each outs)
said_any granted each (slot_out.Forward client block stamp to inc req ver ∷ outs) = (tt, said_any granted each outs)
said_any granted each (slot_out.Recall client block stamp keep ∷ outs) = (tt, said_any granted each outs)
said_any granted each (slot_out.Applied l applied ∷ outs) = (tt, said_any granted each outs)
said_any granted each (slot_out.Live entry ∷ outs) = (tt, said_any granted each outs)
said_any granted each (slot_out.Dead ∷ outs) = (tt, said_any granted each outs)

-- what is known of what a writer of checkpoints is given
abbrev pub Begins : (WorkState → Type 0) → WriterIn → Type 0
Begins work (writer_in.Begin slot epoch pages parts horizon) =
    work (record { slot = slot; epoch = epoch; left = pages; parts = parts; horizon = horizon })
Begins work (writer_in.Settled end) = ⊥
Begins work (writer_in.Ack epoch number) = Unit {0}

-- bodies that tell neither of entries nor of checkpoints
abbrev pub IsPlain : Body → Type 0
IsPlain (body.Grant m) = ⊥
IsPlain (body.Live m) = ⊥
IsPlain (body.CkptDone m) = ⊥
IsPlain (body.Deltas m) = ⊥
IsPlain (body.Report m) = ⊥
IsPlain (body.Welcome m) = ⊥
IsPlain (body.MapNews m) = ⊥
IsPlain _ = Unit {0}

pub record Walk : Type 1 where
  -- ---- what is known: of what comes
  pub Ranges : Option LogId → ℕ → Rows → Type 0
  pub Reported : NodeId → End → Type 0
  pub News : SlotNews → Type 0
  pub Completes : TakeState → ℕ → ℕ → Answered → Type 0
  -- ---- of a slot: one that is managed, one that is taken over, what was read for it, and what it is handed over with
  pub Managed : ℕ → Active → Type 0
  pub Taken : ℕ → SlotNews → Rows → List Rows → List Report → Type 0
  pub Read : Rows → Type 0
  pub Handed : ℕ → ℕ → Rows → List ℕ → Type 0
  pub Granted : BlockId → Entry → Type 0
  -- ---- of checkpoints: of one that is written, of its items, of one that is done, of the log, of what it has in flight, and of what is settled
  pub Work : WorkState → Type 0
  pub Items : List Item → Type 0
  pub Done : ℕ → ℕ → List SegRef → List ℕ → Type 0
  pub Log : LogState → Type 0
  pub Flies : LogId → Option FlightState → Type 0
  pub Settles : LogId → End → Type 0
  -- ---- of what is sent
  pub Tells : Body → Type 0
  -- ---- a slot
  pub takes : (k : ℕ) (a : Active) (given : SlotIn) → Given Ranges given → Managed k a → Managed k (record a { slot = (slot.transition a.slot given).state })
  pub says : (k : ℕ) (a : Active) (given : SlotIn) → Given Ranges given → Managed k a → AllByRecursion (Said Granted) (slot.transition a.slot given).outs
  pub finds : (k : ℕ) (a : Active) (block : BlockId) → Managed k a → Granted block (slot.entry_at a.slot block)
  pub named : (k : ℕ) (a : Active) (epoch : ℕ) (parts : List SegRef) (horizon : List ℕ) → Done k epoch parts horizon → Managed k a
      → Managed k (record a { parts = parts })
  pub clears : (k : ℕ) (a : Active) → Managed k a → Managed k (record a { slot = slot.slot_clean a.slot })
  pub begins : (k : ℕ) (a : Active) → Managed k a → IfSome (begin_one k (Some (phase.Active a))) (Begins Work)
  -- ---- a slot that is taken over
  pub starts : (news : SlotNews) → News news → Taken news.slot news [] [] []
  pub heard : (k : ℕ) (news : SlotNews) (index : Rows) (chain : List Rows) (reports : List Report) (report : Report) → Reported report.from report.end
      → Taken k news index chain reports → Taken k news index chain (reports ++ report ∷ [])
  pub reads : (s : TakeState) (ask server : ℕ) (t : Answered) (p : Present) (r : ReadingState) (segment : Segment) → Completes s ask server t
      → s.present ≡ Some p → p.reading ≡ Some r → segment_of (reading_take r s.groups ask server t).next ≡ Some segment → Read (told_of s.news.slot segment)
  pub chained : (k : ℕ) (news : SlotNews) (index : Rows) (chain : List Rows) (reports : List Report) (rows : Rows) → Read rows
      → Taken k news index chain reports → Taken k news index (rows ∷ chain) reports
  pub joins : (k : ℕ) (news : SlotNews) (index : Rows) (chain : List Rows) (reports : List Report) → Taken k news index chain reports
      → Taken k news (rows_join index chain) [] reports
  pub hands : (k : ℕ) (s : TakeState) → Taken k s.news s.index s.chain s.reports → Handed k s.news.epoch s.index (applied_of s.news.horizon s.reports)
  pub managed : (k epoch : ℕ) (index : Rows) (beliefs : List (BlockId × ℕ × Mode)) (applied : List ℕ) → Handed k epoch index applied
      → Managed k (record { slot = slot.slot_start epoch index beliefs applied; parts = [] })
  -- ---- checkpoints
  pub gives : (w : WorkState) → Work w → Items (items_of w.slot (take 24 w.left))
  pub left : (w : WorkState) → Work w → Work (record w { left = drop 24 w.left })
  pub done : (w : WorkState) → Work w → Done w.slot w.epoch w.parts w.horizon
  pub parted : (l : LogId) (w : WorkState) (end : End) → Settles l end → Work w → Work (record w { parts = w.parts ++ writer.part_at l end ∷ [] })
  pub settles : (l : LogId) (f : FlightState) → Flies l (Some f) → Settles l (end_of f.segment)
  pub writes : (s : LogState) (items : List Item) → Items items → Log s → Log (log.on_parts s items).state
  pub hears : (s : LogState) (given : LogIn) → IsHeard given → Log s → Log (log.transition s given).state
  pub fresh : (s : LogState) → s.dirty ≡ [] → s.flight ≡ None → Log s
  pub idle : (l : LogId) → Flies l None
  -- ---- what it says
  pub grants : (m : Grant) → Granted m.block m.entry → Tells (body.Grant m)
  pub lives : (m : Live) → Granted m.block m.entry → Tells (body.Live m)
  pub tells_done : (m : CkptDone) → Done m.slot m.epoch m.parts m.horizon → Tells (body.CkptDone m)
  pub plain : (b : Body) → IsPlain b → Tells b

module _ (w : Walk) where
  -- ---- a manager stands so

  abbrev pub SlotSo : ℕ → SlotPhase → Type 0
  SlotSo k = SlotIs (w.Managed k) (λ t. w.Taken k t.take.news t.take.index t.take.chain t.take.reports)

  -- the slots from this number on
  abbrev pub SlotsSo : ℕ → List SlotPhase → Type 0
  SlotsSo k phases = EachSlot SlotSo k phases

  abbrev pub DoneSo : CkptDone → Type 0
  DoneSo m = w.Done m.slot m.epoch m.parts m.horizon

  -- the checkpoint of which the registry is told
  abbrev pub JobSo : Option Checkpointing → Type 0
  JobSo checkpoint = IfSome checkpoint (λ job. IfSome job.done DoneSo)

  pub record ServingSo (s : Serving) : Type 0 where
    pub slots : SlotsSo 0 s.slots
    pub work : IfSome s.writer.work w.Work
    pub job : JobSo s.checkpoint
    pub log : w.Log s.log

  -- ---- what it says is so

  abbrev pub Says : Effect → Type 0
  Says e = effects.Says w.Tells e

  abbrev pub AllSay : List Effect → Type 0
  AllSay outs = AllByRecursion Says outs
