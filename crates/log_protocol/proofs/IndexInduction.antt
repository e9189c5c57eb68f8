-- The invariant of the index of one block, and that it holds at every state of every run.
-- Its groups, in the order in which they are proved: Rows (on nothing), Bounds (on nothing), Joins (on Rows, Bounds), Beaten and Dead (each on the three).
use Rattle.std.proofs.Common.{◌≡◌, sym, ap, ◌∙◌, arith}
use Rattle.log_protocol.specs.IndexState.{IndexState, new_block}
use Rattle.log_protocol.specs.IndexSteps.{IndexStep, IndexSteps}
use Rattle.log_protocol.specs.IndexSteps.IndexSteps.{Done, More}
use Rattle.log_protocol.specs.IndexLaws.{IndexReached, IndexIsJoin, CleaningLosesNothing, DeadStays, HorizonStays}
use Rattle.log_protocol.specs.IndexBoundLaws.{IndexInBounds, RowsInPlace}
use Rattle.log_protocol.proofs.IndexRows.{IndexRows, step_keeps_index_rows, new_block_index_rows}
use Rattle.log_protocol.proofs.IndexBounds.{IndexBounds, step_keeps_index_bounds, new_block_index_bounds}
use Rattle.log_protocol.proofs.IndexJoins.{IndexJoins, step_keeps_index_joins, new_block_index_joins}
use Rattle.log_protocol.proofs.IndexBeaten.{IndexBeaten, step_keeps_index_beaten, new_block_index_beaten}
use Rattle.log_protocol.proofs.IndexDead.{IndexDead, step_keeps_index_dead, new_block_index_dead, stays}

pub record IndexInvariant (w : IndexState) : Type 0 where
  pub rows : IndexRows w
  pub bounds : IndexBounds w
  pub joins : IndexJoins w
  pub beaten : IndexBeaten w
  pub dead : IndexDead w

pub index_step_keeps : (w u : IndexState) → IndexStep w u → IndexInvariant w → IndexInvariant u
index_step_keeps w u step i = record {
  rows = step_keeps_index_rows w u step i.rows;
  bounds = step_keeps_index_bounds w u step i.bounds;
  joins = step_keeps_index_joins w u step i.rows i.bounds i.joins;
  beaten = step_keeps_index_beaten w u step i.rows i.bounds i.joins i.beaten;
  dead = step_keeps_index_dead w u step i.rows i.bounds i.joins i.dead;
}

index_run_keeps : (w u : IndexState) → IndexSteps w u → IndexInvariant w → IndexInvariant u
index_run_keeps w u Done i = i
index_run_keeps w u (More {v = v} run step) i = index_step_keeps v u step (index_run_keeps w v run i)

pub index_always : (w : IndexState) → IndexReached w → IndexInvariant w
index_always w run =
    index_run_keeps (new_block w.cleaner) w run
    (record {
      rows = new_block_index_rows w.cleaner;
      bounds = new_block_index_bounds w.cleaner;
      joins = new_block_index_joins w.cleaner;
      beaten = new_block_index_beaten w.cleaner;
      dead = new_block_index_dead w.cleaner;
    })

pub index_is_join_always : (w : IndexState) → IndexReached w → IndexIsJoin w
index_is_join_always w run = let i = index_always w run in record { all = i.rows.joined; each = i.joins.each; begun = i.bounds.active_begun }

pub cleaning_loses_nothing_always : (w : IndexState) → IndexReached w → CleaningLosesNothing w
cleaning_loses_nothing_always w run l q dropped some same_log same_seq =
    let i = index_always w run in
    let highest = i.rows.joined in
    let dead = i.beaten.dead_beaten l q (i.beaten.dropped_dead l q dropped) in
    let a = i.beaten.below_version l q dead in
    let r = highest.its_version (omega arith) in
    let s = highest.its_hop (omega arith) in
    let f : w.version w.joined.log w.joined.seq ≡ w.version l q = ap (λ z. w.version z w.joined.seq) same_log ∙ ap (w.version l) same_seq in
    let g : w.hop w.joined.log w.joined.seq ≡ w.hop l q = ap (λ z. w.hop z w.joined.seq) same_log ∙ ap (w.hop l) same_seq in
    let z = i.beaten.below_seq l q dead some (omega arith) (omega arith) in
    omega arith

pub dead_stays_always : (w : IndexState) → IndexReached w → DeadStays w
dead_stays_always w run = let i = index_always w run in record {
  counted = i.beaten.dropped_dead;
  reigned = λ l q dead. i.bounds.active_reigning (w.dead_at l q) (i.dead.told_active (w.dead_at l q) l q (i.dead.dead_told l q dead));
  stays = λ l q e dead from on. stays w l q e i.joins i.dead dead from on;
}

pub horizon_stays_always : (w : IndexState) → IndexReached w → HorizonStays w
horizon_stays_always w run = (index_always w run).bounds.floor_flat

pub index_in_bounds_always : (w : IndexState) → IndexReached w → IndexInBounds w
index_in_bounds_always w run = let i = index_always w run in record {
  applied_filed = i.bounds.applied_filed;
  idle = i.bounds.idle;
  active_covered = i.bounds.active_covered;
  active_reported = i.dead.active_reported;
  active_begun = i.bounds.active_begun;
  active_promised = i.dead.active_promised;
  active_reigning = i.bounds.active_reigning;
  reigning_active = i.bounds.reigning_active;
  floor_some = i.bounds.floor_some;
  floor_rises = i.bounds.floor_rises;
  floor_filed = i.bounds.floor_filed;
  floor_ahead = i.bounds.floor_ahead;
}

pub rows_in_place_always : (w : IndexState) → IndexReached w → RowsInPlace w
rows_in_place_always w run = let r = (index_always w run).rows in record {
  nobody = r.nobody;
  no_other = r.no_other;
  seq_some = r.seq_some;
  unfiled = r.unfiled;
  client_hop = r.client_hop;
  copy_hop = r.copy_hop;
  one_place = λ a x b y ca cb some same. (
    sym (r.one_log a x ca some) ∙ (ap w.version_log same ∙ r.one_log b y cb (omega arith)),
    sym (r.one_seq a x ca some)
        ∙ (ap w.version_seq same ∙ r.one_seq b y cb (omega arith)),
  );
}
