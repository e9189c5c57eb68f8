-- How the small world is seen in the index of one block, and that what is known of packets stays known.
use Rattle.std.proofs.Common.{◌≡◌, ℕ, suc, ◌<◌, ◌≤◌, inl, inr, true, List, [], ◌∷◌, ◌++◌, Some, None, refl, sym, ap, subst, ◌∙◌, arith}
use Rattle.std.specs.List.{AllByRecursion}
use Rattle.xfs_base.specs.declared.block.BlockId.{BlockId}
use Rattle.xfs_base.specs.declared.entry.Entry.{Entry}
use Rattle.xfs_base.specs.declared.segment.SegName.{SegName}
use Rattle.xfs_base.specs.declared.segment.SegRef.{SegRef}
use Rattle.xfs_base.specs.Blocks.{slot_of}
use Rattle.xfs_base.specs.Limits.{block_logs}
use Rattle.xfs_base.specs.Logs.{cleaners_number}
use Rattle.segment_format.specs.declared.segment.Segment.{Segment}
use Rattle.checkpoint.specs.Laws.{Event, rows_in, after_event, slot_after, MayCome}
use Rattle.checkpoint.specs.Laws.Event.{Written}
use Rattle.checkpoint.specs.WriterState.{Rows}
use Rattle.stripe_cleaner.specs.Job.{same_name}
use Rattle.token_manager.specs.SlotState.{SlotState}
use Rattle.log_protocol.specs.Tables.{In}
use Rattle.log_protocol.specs.IndexState.{IndexState}
use Rattle.log_protocol.specs.IndexBoundLaws.{IndexPastStays}
use Rattle.log_protocol.specs.IndexLaws.{IndexReached}
use Rattle.log_protocol.specs.IndexSteps.{IndexSteps}
use Rattle.log_protocol.proofs.IndexGrowth.{index_past_stays_always}
use Rattle.log_protocol.proofs.IndexRunsGoOn.{index_reached_on}
use Rattle.index_tie.specs.Filed.{IsFiled, Tells}
use Rattle.headline.specs.Filed.{Filed, is_filed_name, row_at}
use Rattle.index_tie.specs.Growth.{IsMore}
use Rattle.index_tie.specs.Slots.{Manages}
use Rattle.index_tie.specs.Takeovers.{Covers}
use Rattle.headline.specs.Indexes.{of_log}
use Rattle.index_tie.specs.Cleaning.{IsRow, IsWithin, IsDropped, Cleans}
use Rattle.index_tie.specs.Net.{Net, Packet}
use Rattle.index_tie.specs.Net.Packet.{CheckpointPlanned, CheckpointDone, CleanerReported, Checked, AnsweredLive, AnsweredDead}
use Rattle.index_tie.proofs.JobsStay.{dropped_stays}
use Rattle.index_tie.proofs.Growth.{row_stays, is_filed, parts_stay}

module _ (part : ℕ) (holds : SegRef → Rows) (b : BlockId) where
  -- what is asked about lies in its log, below a horizon of an epoch that the cleaner has promised
  pub record IsAsked (n : Net) (w : IndexState) (name : SegName) (d : ℕ) : Type 0 where
    pub within : IsWithin n.filed name
    pub below : name.seq < w.floor d name.log.0
    pub promised : d ≤ w.promised

  -- what is planned covers what its horizon passes, once segments hold it
  pub record IsPlanned (n : Net) (w : IndexState) (e : ℕ) (events : List Event) (horizon : List ℕ) : Type 0 where
    pub active : w.active e ≡ 1
    pub applied : (l : ℕ) → 0 < l → l ≤ block_logs → of_log horizon l ≤ suc (w.applied e l)
    pub covers : (segments : List SegRef) → MayCome holds (slot_after events) (Written segments)
        → Covers b n.filed w horizon (rows_in holds (after_event (slot_after events) (Written segments)).parts)

  -- what is known of a packet
  abbrev pub Sound : Net → IndexState → Packet → Type 0
  Sound n w (CheckpointPlanned e events horizon) = IsPlanned n w e events horizon
  Sound n w (CheckpointDone e horizon parts) =
      (w.active e ≡ 1) × ((l : ℕ) → 0 < l → l ≤ block_logs → of_log horizon l ≤ suc (w.applied e l)) × Covers b n.filed w horizon (rows_in holds parts)
  Sound n w (CleanerReported e end) = (w.polled e ≤ end) × (e ≤ w.promised)
  Sound n w (Checked number k place d) =
      IsAsked n w place.seg.name d
      × (k ≡ b → is_filed_name n.filed place.seg.name ≡ true → (row_at n.filed b place.seg.name.log.0 place.seg.name.seq).place ≡ Some place)
  Sound n w (AnsweredLive k entry) = k ≡ b → IsRow b n.filed entry
  Sound n w (AnsweredDead number k name d e) =
      IsAsked n w name d × (0 < e) × (k ≡ b → is_filed_name n.filed name ≡ true → d ≤ e → w.told e name.log.0 name.seq ≡ 1)

  -- the small world is seen in the index of the block
  pub record View (n : Net) : Type 0 where
    pub state : IndexState
    pub reached : IndexReached state
    pub tells : Tells b n.filed state
    pub slots : (e : ℕ) (s : SlotState) → n.slots e ≡ Some s → Manages b n.filed state s
    pub none : (e : ℕ) → n.slots e ≡ None → state.active e ≡ 0
    pub epoch : state.epoch ≡ n.epoch
    pub horizon : (e l : ℕ) → 0 < l → l ≤ block_logs → of_log (n.horizon e) l ≡ state.floor e l
    pub parts : (e : ℕ) → Covers b n.filed state (n.horizon e) (rows_in holds (n.parts e))
    pub promised : state.promised ≡ n.promised
    pub polled : (e : ℕ) → state.polled e ≤ state.head cleaners_number
    pub job : Cleans b n.filed state n.job
    pub deleted : AllByRecursion (IsDropped b n.filed state.dropped) n.deleted
    pub sent : AllByRecursion (Sound n state) n.sent

  -- from one moment to a later one
  pub record Later (n m : Net) (w v : IndexState) : Type 0 where
    pub more : IsMore n.filed m.filed
    pub old : Tells b n.filed w
    pub new : Tells b m.filed v
    pub past : IndexPastStays w v
    pub polled : (e : ℕ) → e ≤ w.promised → v.polled e ≤ w.polled e

  asked_later : (n m : Net) (w v : IndexState) (name : SegName) (d : ℕ) → Later n m w v → IsAsked n w name d → IsAsked m v name d
  asked_later n m w v name d t a = record {
    within = record { some = a.within.some; filed = let x = a.within.filed in let y = t.more.head name.log.0 in omega arith };
    below = let x = a.below in let y = t.past.floor d name.log.0 in omega arith;
    promised = let x = a.promised in let y = t.past.promised in omega arith;
  }

  same_test : (f g : Filed) (name : SegName) → IsMore f g → IsWithin f name → is_filed_name g name ≡ is_filed_name f name
  same_test f g name more within = ap (λ (s : Segment). same_name name s.name) (more.segment name.log.0 name.seq within.some within.filed)

  row_later : (f g : Filed) (entry : Entry) → IsMore f g → IsRow b f entry → IsRow b g entry
  row_later f g entry more r =
      let within = is_filed b f r.log r.seq (subst (λ (e : Entry). 0 < e.ver) r.is_row r.some) in
      record { log = r.log; seq = r.seq; is_row = r.is_row ∙ sym (row_stays b f g r.log r.seq more within.1); some = r.some }

  sound_later : (n m : Net) (w v : IndexState) (p : Packet) → Later n m w v → Sound n w p → Sound m v p
  sound_later n m w v (CheckpointPlanned e events horizon) t s = record {
    active = t.past.active e s.active;
    applied = λ l some limit. let x = s.applied l some limit in let y = t.past.applied e l in omega arith;
    covers = λ segments laid. parts_stay b n.filed m.filed w v horizon
        (rows_in holds (after_event (slot_after events) (Written segments)).parts) t.more t.old t.new (s.covers segments laid);
  }
  sound_later n m w v (CheckpointDone e horizon parts) t s = (
    t.past.active e s.0,
    (λ l some limit. let x = s.1 l some limit in let y = t.past.applied e l in omega arith),
    parts_stay b n.filed m.filed w v horizon (rows_in holds parts) t.more t.old t.new s.2,
  )
  sound_later n m w v (CleanerReported e end) t s =
      let x = s.0 in
      let y = s.1 in
      let z = t.polled e y in
      let p = t.past.promised in
      (omega arith, omega arith)
  sound_later n m w v (Checked number k place d) t s = (
    asked_later n m w v place.seg.name d t s.0,
    λ at fact. ap (λ (e : Entry). e.place) (row_stays b n.filed m.filed place.seg.name.log.0 place.seg.name.seq t.more s.0.within.filed)
        ∙ s.1 at (sym (same_test n.filed m.filed place.seg.name t.more s.0.within) ∙ fact),
  )
  sound_later n m w v (AnsweredLive k entry) t s = λ at. row_later n.filed m.filed entry t.more (s at)
  sound_later n m w v (AnsweredDead number k name d e) t s = (
    asked_later n m w v name d t s.0,
    s.1,
    λ at fact low. t.past.told e name.log.0 name.seq (s.2 at (sym (same_test n.filed m.filed name t.more s.0.within) ∙ fact) low),
  )

  pub all_later : (n m : Net) (w v : IndexState) (ps : List Packet) → Later n m w v → AllByRecursion (Sound n w) ps → AllByRecursion (Sound m v) ps
  all_later n m w v [] t all = tt
  all_later n m w v (p ∷ ps) t all = (sound_later n m w v p t all.0, all_later n m w v ps t all.1)

  pub all_and : (P : Packet → Type 0) (ps qs : List Packet) → AllByRecursion P ps → AllByRecursion P qs → AllByRecursion P (ps ++ qs)
  all_and P [] qs all more = more
  all_and P (p ∷ ps) qs all more = (all.0, all_and P ps qs all.1 more)

  pub all_dropped_later : (f g : Filed) (dropped more_dropped : ℕ → ℕ → ℕ) (names : List SegName) → IsMore f g
      → ((l q : ℕ) → dropped l q ≡ 1 → more_dropped l q ≡ 1) → AllByRecursion (IsDropped b f dropped) names
      → AllByRecursion (IsDropped b g more_dropped) names
  all_dropped_later f g dropped more_dropped [] more drops all = tt
  all_dropped_later f g dropped more_dropped (name ∷ names) more drops all =
      (dropped_stays b f g dropped more_dropped name more drops all.0, all_dropped_later f g dropped more_dropped names more drops all.1)

  -- a sent packet is sound
  pub found : (P : Packet → Type 0) (p : Packet) (ps : List Packet) → AllByRecursion P ps → In p ps → P p
  found P p [] all at = absurd at
  found P p (q ∷ qs) all (inl same) = subst P (sym same) all.0
  found P p (q ∷ qs) all (inr rest) = found P p qs all.1 rest

  -- what hangs on the steps alone: the past stays, and what was known of packets and of what is deleted
  pub record Went (n m : Net) (w v : IndexState) : Type 0 where
    pub reached : IndexReached v
    pub later : Later n m w v
    pub sent : AllByRecursion (Sound m v) n.sent
    pub deleted : AllByRecursion (IsDropped b m.filed v.dropped) n.deleted

  pub went : (n m : Net) (i : View n) (v : IndexState) → IndexSteps i.state v → IsMore n.filed m.filed → Tells b m.filed v
      → ((e : ℕ) → e ≤ i.state.promised → v.polled e ≤ i.state.polled e) → Went n m i.state v
  went n m i v steps more new polled =
      let past = index_past_stays_always i.state v i.reached steps in
      let t : Later n m i.state v = record { more = more; old = i.tells; new = new; past = past; polled = polled } in
      record {
        reached = index_reached_on i.state v i.reached steps;
        later = t;
        sent = all_later n m i.state v n.sent t i.sent;
        deleted = all_dropped_later n.filed m.filed i.state.dropped v.dropped n.deleted more past.dropped i.deleted;
      }

-- what is known of the whole small world
pub record Good (part : ℕ) (holds : SegRef → Rows) (n : Net) : Type 0 where
  pub filed : IsFiled n.filed
  pub epochs : (e : ℕ) (s : SlotState) → n.slots e ≡ Some s → s.epoch ≡ e
  pub begun : n.slots 0 ≡ None
  pub views : (b : BlockId) → slot_of b.ino.0 ≡ part → View part holds b n

pub same_filed : (f : Filed) → IsMore f f
same_filed f = record { head = λ l. omega arith; segment = λ l q some limit. refl }

pub tells_same : (b : BlockId) (f : Filed) (w v : IndexState) → v.cleaner ≡ w.cleaner → ((l : ℕ) → v.head l ≡ w.head l)
    → ((l q : ℕ) → v.version l q ≡ w.version l q) → ((l q : ℕ) → v.hop l q ≡ w.hop l q) → Tells b f w → Tells b f v
tells_same b f w v cleaner head version hop t = record {
  cleaner = cleaner ∙ t.cleaner;
  head = λ l. head l ∙ t.head l;
  version = λ l q. version l q ∙ t.version l q;
  hop = λ l q. hop l q ∙ t.hop l q;
}
