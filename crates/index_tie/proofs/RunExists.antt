-- A run of the small world that exists: that its laws speak of something.
use Rattle.std.proofs.Common.{◌≡◌, ℕ, suc, ◌-◌, ◌≤◌, nat_lt, cond, inl, [], ◌∷◌, refl, ap, ◌∙◌, arith}
use Rattle.std.specs.Prelude.{Contains}
use Rattle.group_map.specs.GroupMapState.{GroupMapState}
use Rattle.xfs_base.specs.declared.block.BlockId.{BlockId}
use Rattle.xfs_base.specs.declared.entry.Entry.{Entry}
use Rattle.xfs_base.specs.declared.news.SlotNews.{SlotNews}
use Rattle.xfs_base.specs.declared.node.NodeId.TheVariants.{Cleaner}
use Rattle.xfs_base.specs.declared.segment.End.{End}
use Rattle.xfs_base.specs.declared.segment.LogId.{LogId}
use Rattle.xfs_base.specs.declared.segment.SegRef.{SegRef}
use Rattle.xfs_base.proofs.Booleans.{by_test}
use Rattle.xfs_base.proofs.Members.{contains_first}
use Rattle.xfs_base.specs.Nodes.{same_node}
use Rattle.xfs_base.specs.Logs.{block_writer, cleaners_number}
use Rattle.segment_format.specs.declared.segment.Item.TheVariants.{Delta}
use Rattle.segment_format.specs.declared.segment.Segment.{Segment}
use Rattle.segment_format.specs.Rows.{rows_of}
use Rattle.checkpoint.specs.WriterState.{Rows}
use Rattle.delta_index.specs.Index.{entry_of}
use Rattle.delta_index.proofs.IndexJoin.{index_join}
use Rattle.slot_beliefs.specs.Index.{Indexed, block_index_new, merge_all}
use Rattle.takeover.specs.declared.input.In.{In as TakeoverIn}
use Rattle.takeover.specs.declared.input.In.TheVariants.{Report}
use Rattle.takeover.specs.declared.output.Out.TheVariants.{Active}
use Rattle.takeover.specs.Course.{Course, course_of, after_input}
use Rattle.takeover.specs.Reports as reports
use Rattle.takeover.specs.Reports.{no_end, end_of}
use Rattle.takeover.specs.Transition as takeover
use Rattle.token_manager.specs.declared.input.In.TheVariants.{Deltas}
use Rattle.token_manager.specs.Transition.{slot_start, slot_clean, transition}
use Rattle.headline.specs.Filed.{IsSegment}
use Rattle.index_tie.specs.Growth.{with_segment}
use Rattle.index_tie.specs.Slots.{DeltasTell}
use Rattle.index_tie.specs.Net.{Net, IsNewer, HasRead, Runs, with_packet, with_slot, opening, ones, zeros}
use Rattle.index_tie.specs.Net.Packet.{CheckpointPlanned, CheckpointDone, CleanerReported}
use Rattle.index_tie.specs.Net.Happens.{ClientFiles, GetsDeltas, Plans, Cleans, Checkpoints, Keeps, Moves, Activates, Promises, Reports}
use Rattle.index_tie.specs.Net.Runs.{Begun, On}
use Rattle.index_tie.specs.NetLaws.{TakenOver}
use Rattle.index_tie.proofs.Rows.{join_has}
use Rattle.index_tie.proofs.Runs.{one_at, zero_at, all_zeros, no_row}
use Rattle.index_tie.proofs.Slots.{rows-merge_all}
use Rattle.index_tie.proofs.Takeovers.{of_log_in}

-- the block, and the segment that client 1 files: its version 1, absent
abbrev block : BlockId
block = record { ino = record { 0 = 8 }; blk = 0 }

abbrev segment : Segment
segment = record {
  name = record { log = record { 0 = 1 }; seq = 1; pass = record { inc = 1; att = 1 } };
  prior = record { pass = record { inc = 0; att = 0 }; group = 0 };
  group = 1;
  items = Delta block 1 0 65535 ∷ [];
}

abbrev any : ℕ → ℕ → Segment
any l q = segment

abbrev holds : SegRef → Rows
holds part = []

abbrev log : LogId
log = record { 0 = 1 }

-- ---- the takeover of epoch 2

abbrev news : SlotNews
news = record { slot = 0; epoch = 2; manager = 1; parts = []; horizon = ones }

abbrev groups : GroupMapState
groups = record { servers = 0; generations = []; groups = [] }

abbrev report : TakeoverIn
report = Report Cleaner [] no_end

abbrev course : Course
course = after_input (course_of news groups 0 []) report

hands : Contains (takeover.transition (course_of news groups 0 []).state report).outs (Active 2 [] [] zeros)
unfolding takeover.on_report takeover.go_on reports.applied_of
hands = contains_first (Active 2 [] [] zeros) []

its_reports : course.state.reports ≡ record { from = Cleaner; held = []; end = no_end } ∷ []
unfolding takeover.on_report takeover.go_on
its_reports = refl

no_ends : (l : ℕ) → (end_of course.state.reports l).seq ≡ 0
no_ends l =
    ap (λ rs. (end_of rs l).seq) its_reports
    ∙ by_test (λ (e : End). e.seq ≡ 0) (same_node Cleaner (block_writer l)) no_end no_end (λ _. refl) (λ _. refl)

-- ---- the run

abbrev started_net : Net
started_net = opening any

abbrev planned : Net
planned = with_packet started_net (CheckpointPlanned 1 [] ones)

abbrev cleaned_net : Net
cleaned_net = with_slot planned 1 (slot_clean (slot_start 1 [] [] zeros))

abbrev checkpointed : Net
checkpointed = with_packet cleaned_net (CheckpointDone 1 ones [])

abbrev kept : Net
kept = record checkpointed { horizon = λ e. cond (nat_lt e 1) ones ones; parts = λ e. cond (nat_lt e 1) [] [] }

abbrev moved : Net
moved = record kept { epoch = suc 1 }

abbrev promised : Net
promised = record moved { promised = 2 }

abbrev reported : Net
reported = with_packet promised (CleanerReported 2 0)

abbrev taken : Net
taken = with_slot reported 2 (slot_start 2 [] [] zeros)

abbrev filed : Net
filed = record taken { filed = with_segment taken.filed 1 segment }

abbrev told : Net
told = with_slot filed 2 (transition (slot_start 2 [] [] zeros) (Deltas log 1 1 (rows_of segment))).state

has_read : HasRead 0 holds reported 2 news course
has_read = record {
  slot = refl;
  epoch = refl;
  horizon = refl;
  parts = refl;
  written = tt;
  ends = λ l some limit within. absurd (let e = no_ends l in let o = of_log_in ones l some limit in let i = one_at (l - 1) (omega arith) in omega arith);
  linked = λ l some limit q low high. absurd (let e = no_ends l in omega arith);
  texts = tt;
  reported = inl (ap (CleanerReported 2) (no_ends cleaners_number));
}

its_segment : IsSegment 1 1 segment
its_segment = record { log = refl; seq = refl; boot = omega arith; versions = (omega arith, tt); no_parts = (tt, tt) }

newer : (b : BlockId) → IsNewer b taken.filed segment
newer b = record {
  newer = λ some l q. let none = ap (λ (e : Entry). e.ver) (no_row any b l q) in omega arith;
  first_hand = λ some. join_has (λ e. e.hop ≡ 0) b (rows_of segment) refl (refl, tt);
}

tells : (b : BlockId) → DeltasTell b filed.filed 1 1 1 (rows_of segment)
tells b = record { some = omega arith; known = omega arith; filed = one_is; joined = refl }
  where
    one_is : 1 ≤ filed.filed.head 1
    one_is = let h : filed.filed.head 1 ≡ 1 = refl in omega arith

runs : Runs 0 holds (opening any) told
runs =
    On (On (On (On (On (On (On (On (On (On (Begun {n = started_net})
    (Plans {n = started_net} 1 (slot_start 1 [] [] zeros) [] ones refl refl tt
    (λ l some limit. let o = of_log_in ones l some limit in let i = one_at (l - 1) (omega arith) in let z = zero_at zeros all_zeros (l - 1) in omega arith)))
    (Cleans {n = planned} 1 (slot_start 1 [] [] zeros) refl))
    (Checkpoints {n = cleaned_net} 1 [] ones [] (inl refl) refl))
    (Keeps {n = checkpointed} ones [] (inl refl) (λ l some limit. omega arith)))
    (Moves {n = kept}))
    (Promises {n = moved} 2 (omega arith) refl))
    (Reports {n = promised}))
    (Activates {n = reported} 2 news groups 0 [] report [] [] zeros refl (omega arith) (omega arith) hands has_read))
    (ClientFiles {n = taken} 1 segment (omega arith) (omega arith) its_segment (λ b inside. newer b)))
    (GetsDeltas {n = filed} 2 (slot_start 2 [] [] zeros) log 1 1 (rows_of segment) refl (omega arith) (λ b inside. tells b))

-- the slot applied the Deltas
applied_it : (transition (slot_start 2 [] [] zeros) (Deltas log 1 1 (rows_of segment))).state.index ≡ merge_all block_index_new (rows_of segment)
applied_it = refl

pub taken_over : TakenOver
taken_over = record {
  any = any;
  holds = holds;
  net = told;
  run = runs;
  block = block;
  inside = refl;
  deposed = slot_clean (slot_start 1 [] [] zeros);
  present = (transition (slot_start 2 [] [] zeros) (Deltas log 1 1 (rows_of segment))).state;
  was = refl;
  manages = refl;
  knows_nothing = refl;
  knows = ap (λ (i : Indexed). (entry_of i.rows block).ver) applied_it ∙ ap (λ r. (entry_of r block).ver) (rows-merge_all block_index_new (rows_of segment))
      ∙ ap (λ (e : Entry). e.ver) (index_join (rows_of segment) block);
}
