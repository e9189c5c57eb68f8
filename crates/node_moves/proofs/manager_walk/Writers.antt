-- One walk through whatever a writer of checkpoints is given. What a law has to show of the few things that become of a checkpoint while it is written: what it
-- knows of it then stands, and so is known of the items that are given out, and of a checkpoint that is done.
use Rattle.std.proofs.Common.{◌≡◌, ℕ, ◌+◌, ◌==◌, ◌||◌, not, List, [], ◌∷◌, ◌++◌, length, take, drop, sym, subst}
use Rattle.std.specs.Prelude.{Option, Some, None, IfSome, nat_lt}
use Rattle.std.specs.List.{AllByRecursion}
use Rattle.checkpoint.specs.declared.input.In.{In as WriterIn}
use Rattle.checkpoint.specs.declared.input.In.TheVariants as writer_in
use Rattle.checkpoint.specs.declared.output.Out.{Out}
use Rattle.checkpoint.specs.declared.output.Out.TheVariants as out
use Rattle.checkpoint.specs.Transition as writer
use Rattle.checkpoint.specs.WriterState.{WorkState, WriterState, items_of}
use Rattle.segment_format.specs.declared.segment.Item.{Item}
use Rattle.xfs_base.proofs.Booleans.{by_test}
use Rattle.xfs_base.specs.declared.segment.End.{End}
use Rattle.xfs_base.specs.declared.segment.LogId.{LogId}
use Rattle.xfs_base.specs.declared.segment.SegRef.{SegRef}
use Rattle.xfs_base.specs.Steps.{Stepped, still}
use Rattle.xfs_base.proofs.Leaving.{Leaves}

pub record WriterLaw : Type 1 where
  -- what is known of a checkpoint that is written, of its items, of one that is done, and of a segment of the log that is settled
  pub Work : WorkState → Type 0
  pub Items : List Item → Type 0
  pub Done : ℕ → ℕ → List SegRef → List ℕ → Type 0
  pub Settles : LogId → End → Type 0
  pub gives : (it : WorkState) → Work it → Items (items_of it.slot (take 24 it.left))
  pub left : (it : WorkState) → Work it → Work (record it { left = drop 24 it.left })
  pub done : (it : WorkState) → Work it → Done it.slot it.epoch it.parts it.horizon
  pub parted : (l : LogId) (it : WorkState) (end : End) → Settles l end → Work it → Work (record it { parts = it.parts ++ writer.part_at l end ∷ [] })

module _ (w : WriterLaw) where
  -- what is done
  abbrev pub OutSo : Out → Type 0
  OutSo (out.Parts items) = w.Items items
  OutSo (out.Done slot epoch parts horizon) = w.Done slot epoch parts horizon
  OutSo out.Kept = Unit {0}
  OutSo (out.Stale epoch) = Unit {0}

module _ (w : WriterLaw) (l : LogId) where
  -- the writer, of this log
  abbrev pub WriterStands : WriterState → Type 0
  WriterStands s = IfSome s.work w.Work × (s.log ≡ l)

  abbrev pub Writes : Stepped WriterState Out → Type 0
  Writes d = Leaves WriterStands (OutSo w) d

  -- what it is given: a segment that is settled is a part from then on
  abbrev pub GivenSo : WriterIn → Type 0
  GivenSo (writer_in.Begin slot epoch pages parts horizon) =
      w.Work (record { slot = slot; epoch = epoch; left = pages; parts = parts; horizon = horizon })
  GivenSo (writer_in.Settled end) = w.Settles l end
  GivenSo (writer_in.Ack epoch number) = Unit {0}

  goes_on : (s : WriterState) (it : WorkState) → s.log ≡ l → w.Work it → Writes (writer.go_on s it)
  goes_on s it at h =
      by_test Writes (length it.left == 0) (writer.writer_finish s it) (writer.gives s it) (λ _. record { state = (tt, at); outs = (w.done it h, tt) })
      (λ _. record { state = (w.left it h, at); outs = (w.gives it h, tt) })

  begun_on : (s : WriterState) (it : WorkState) → WriterStands s → w.Work it → Writes (writer.on_begin s it)
  begun_on s it before h =
      by_test Writes (writer.is_idle s) (writer.go_on (record s { number = s.number + 1 }) it) (still s)
      (λ _. goes_on (record s { number = s.number + 1 }) it before.1 h)
      (λ _. record { state = before; outs = tt })

  settled_on : (s : WriterState) (end : End) → w.Settles l end → WriterStands s → Writes (writer.on_settled s end)
  settled_on s end new before = by s.work before.0
    where
      by : (work : Option WorkState) → IfSome work w.Work → Writes (writer.settled s work end)
      by None h = record { state = before; outs = tt }
      by (Some it) h =
          goes_on s (record it { parts = it.parts ++ writer.part_at s.log end ∷ [] }) before.1
          (w.parted s.log it end (subst (λ x. w.Settles x end) (sym before.1) new) h)

  pub acked_on : (s : WriterState) (epoch number : ℕ) → WriterStands s → Writes (writer.on_ack s epoch number)
  acked_on s epoch number before = by s.asked
    where
      answer_on : (own : ℕ) → AllByRecursion (OutSo w) (writer.answer own epoch ∷ [])
      answer_on own = (by_test (OutSo w) (epoch == own) out.Kept (out.Stale epoch) (λ _. tt) (λ _. tt), tt)

      by : (asked_ : Option ℕ) → Writes (writer.acked s asked_ epoch number)
      by None = record { state = before; outs = tt }
      by (Some own) =
          by_test Writes (not (number == s.number) || nat_lt epoch own) (still s)
          (record { state = record s { asked = None }; outs = writer.answer own epoch ∷ [] })
          (λ _. record { state = before; outs = tt }) (λ _. record { state = before; outs = answer_on own })

  pub writer_goes : (s : WriterState) (given : WriterIn) → WriterStands s → GivenSo given → Writes (writer.transition s given)
  writer_goes s (writer_in.Begin slot epoch pages parts horizon) before told =
      begun_on s (record { slot = slot; epoch = epoch; left = pages; parts = parts; horizon = horizon }) before told
  writer_goes s (writer_in.Settled end) before told = settled_on s end told before
  writer_goes s (writer_in.Ack epoch number) before told = acked_on s epoch number before
