-- Each thing that happens in the small world keeps it seen: answers, checkpoints, moves of the slot and takeovers.
use Rattle.std.proofs.Common.{◌≡◌, ℕ, zero, suc, ◌<◌, ◌≤◌, ◌⊎◌, ◌==◌, inl, inr, nat_lt, nat_le, Bool, true, false, cond, List, [], ◌∷◌, ◌++◌, map, take, length, Option, Some, None, refl, sym, ap, subst, ◌∙◌, arith}
use Rattle.std.specs.Prelude.{Contains}
use Rattle.std.specs.List.{AllByRecursion, flat_map, range_with_len}
use Rattle.std.proofs.lemmas.Bool.{false≢true, ltb-false, leb-false, leb-true}
use Rattle.std.proofs.lemmas.Bool.Decides.{nat_tests}
use Rattle.std.proofs.lemmas.List.{length-map}
use Rattle.group_map.specs.GroupMapState.{GroupMapState}
use Rattle.xfs_base.specs.declared.block.BlockId.{BlockId}
use Rattle.xfs_base.specs.declared.entry.Entry.{Entry}
use Rattle.xfs_base.specs.declared.entry.Place.{Place}
use Rattle.xfs_base.specs.declared.news.SlotNews.{SlotNews}
use Rattle.xfs_base.specs.declared.segment.SegName.{SegName}
use Rattle.xfs_base.specs.declared.segment.SegRef.{SegRef}
use Rattle.xfs_base.specs.declared.token.Mode.{Mode}
use Rattle.xfs_base.specs.Blocks.{slot_of, same_block}
use Rattle.xfs_base.proofs.BlockOrder.{same_block_exact, same_block_itself}
use Rattle.xfs_base.proofs.Booleans.{by_test}
use Rattle.segment_format.specs.declared.segment.Segment.{Segment}
use Rattle.checkpoint.specs.Laws.{Event, rows_in, nothing_checkpointed, after_event, slot_after, MayCome, AllMayCome}
use Rattle.checkpoint.specs.Laws.Event.{Written}
use Rattle.checkpoint.specs.WriterState.{Rows}
use Rattle.slot_beliefs.specs.Index.{pages_of}
use Rattle.stripe_cleaner.specs.Promises.{promised_at}
use Rattle.takeover.specs.declared.input.In.{In as TakeoverIn}
use Rattle.takeover.specs.declared.output.Out.TheVariants.{Active}
use Rattle.takeover.specs.declared.source.Source.{Source}
use Rattle.takeover.specs.Course.{Course, course_of, after_input, IsTakenOver}
use Rattle.takeover.specs.ReadBack.{AreReadBack, told_by_all}
use Rattle.takeover.specs.Reports.{end_of}
use Rattle.takeover.specs.Sources.{part_source, log_sources}
use Rattle.takeover.specs.Transition as takeover
use Rattle.takeover.proofs.Standing.{taken_over}
use Rattle.token_manager.specs.declared.input.In.TheVariants.{Check}
use Rattle.token_manager.specs.declared.output.Out.{Out}
use Rattle.token_manager.specs.declared.output.Out.TheVariants.{Live, Dead}
use Rattle.token_manager.specs.SlotState.{SlotState}
use Rattle.token_manager.specs.Transition as slot
use Rattle.log_protocol.specs.Tables.{In, put_at}
use Rattle.log_protocol.specs.IndexState.{IndexState}
use Rattle.log_protocol.specs.IndexSteps.{IndexSteps, CanBeat, beats, keeps_horizon, moves}
use Rattle.log_protocol.specs.IndexSteps.IndexSteps.{Done as Ended, More}
use Rattle.log_protocol.specs.IndexSteps.IndexStep.{Beats, Moves}
use Rattle.index_tie.specs.Filed.{IsFiled, Tells}
use Rattle.headline.specs.Filed.{Filed, is_filed_name, row_at}
use Rattle.index_tie.specs.Slots.{Manages}
use Rattle.index_tie.specs.Takeovers.{Covers, MayBegin, TakeoverTold}
use Rattle.headline.specs.Indexes.{of_log}
use Rattle.index_tie.specs.Checkpoints.{IsNext, horizon_seen}
use Rattle.index_tie.specs.Cleaning.{IsRow, IsWithin, promise_of}
use Rattle.index_tie.specs.Net.{Net, Packet, with_slot, with_packet, answer_packets, HasRead}
use Rattle.index_tie.specs.Net.Packet.{CheckpointPlanned, CheckpointDone, CleanerReported, Checked, AnsweredLive, AnsweredDead}
use Rattle.index_tie.proofs.Answers.{live_is_filed, deads_are_beats}
use Rattle.index_tie.proofs.Checkpoints.{parts_cover, parts_are_read, checkpoints_are_kept}
use Rattle.index_tie.proofs.JobsStay.{jobs_stay}
use Rattle.index_tie.proofs.Events.{with_slot_good, not_zero}
use Rattle.index_tie.proofs.Growth.{slots_stay, parts_stay}
use Rattle.index_tie.proofs.Slots.{itself}
use Rattle.index_tie.proofs.Takeovers.{takeovers_are_activations}
use Rattle.index_tie.proofs.Tables.{at_same, first_of, second_of}
use Rattle.index_tie.proofs.Views.{View, went, found, all_and, Sound, IsAsked, Good, same_filed, tells_same}

-- a filed seq is one of a log 1 to 9
pub log_named : (f : Filed) (name : SegName) → IsFiled f → IsWithin f name → (0 < name.log.0) × (name.log.0 ≤ 9)
log_named f name filed within = by name.log.0 (filed.others name.log.0) within.some within.filed
  where
    by : (l : ℕ) → ((l ≡ 0) ⊎ (9 < l) → f.head l ≡ 0) → 0 < name.seq → name.seq ≤ f.head l → (0 < l) × (l ≤ 9)
    by zero none some limit = let h = none (inl refl) in absurd (omega arith)
    by (suc l) none some limit = (omega arith, small (nat_lt 9 (suc l)) refl)
      where
        small : (t : Bool) → nat_lt 9 (suc l) ≡ t → suc l ≤ 9
        small true past = let h = none (inr (grind (arith, nat_tests))) in absurd (omega arith)
        small false not_past = grind (arith, nat_tests)

-- what was answered alone, or after a horizon was kept, or at a later epoch of the registry: rows, managers and the cleaner are as they were
pub record Kept (w v : IndexState) : Type 0 where
  pub cleaner : v.cleaner ≡ w.cleaner
  pub head : (l : ℕ) → v.head l ≡ w.head l
  pub version : (l q : ℕ) → v.version l q ≡ w.version l q
  pub hop : (l q : ℕ) → v.hop l q ≡ w.hop l q
  pub active : (e : ℕ) → v.active e ≡ w.active e
  pub applied : (e l : ℕ) → v.applied e l ≡ w.applied e l
  pub index : (e : ℕ) → v.index e ≡ w.index e

module _ (part : ℕ) (holds : SegRef → Rows) where
  pub kept_tells : (b : BlockId) (f : Filed) (w v : IndexState) → Kept w v → Tells b f w → Tells b f v
  kept_tells b f w v k t = tells_same b f w v k.cleaner k.head k.version k.hop t

  pub kept_slots : (b : BlockId) (f : Filed) (slots : ℕ → Option SlotState) (w v : IndexState) → Kept w v
      → ((e : ℕ) (s : SlotState) → slots e ≡ Some s → Manages b f w s) → (e : ℕ) (s : SlotState) → slots e ≡ Some s → Manages b f v s
  kept_slots b f slots w v k all e s at =
      slots_stay b f f w v s (same_filed f) (record { active = k.active s.epoch; applied = k.applied s.epoch; index = k.index s.epoch }) (all e s at)

  -- ---- packets are sent

  -- by steps that tell, or by none, packets are sent
  record Sends (b : BlockId) (n : Net) (i : View part holds b n) (new : List Packet) : Type 0 where
    state : IndexState
    steps : IndexSteps i.state state
    kept : Kept i.state state
    epoch : state.epoch ≡ i.state.epoch
    floor : (e l : ℕ) → state.floor e l ≡ i.state.floor e l
    promised : state.promised ≡ i.state.promised
    polled : (e : ℕ) → state.polled e ≡ i.state.polled e
    dead_at : (l q : ℕ) → state.dead_at l q ≡ i.state.dead_at l q
    dropped : (l q : ℕ) → state.dropped l q ≡ i.state.dropped l q
    sound : AllByRecursion (Sound part holds b (record n { sent = new ++ n.sent }) state) new

  sends : (b : BlockId) (n : Net) (i : View part holds b n) (new : List Packet) → Sends b n i new → View part holds b (record n { sent = new ++ n.sent })
  sends b n i new r =
      let w = i.state in
      let v = r.state in
      let f = n.filed in
      let m = record n { sent = new ++ n.sent } in
      let tells = kept_tells b f w v r.kept i.tells in
      let went_on = went part holds b n m i v r.steps (same_filed f) tells (λ d _. let p = r.polled d in omega arith) in
      record {
        state = v;
        reached = went_on.reached;
        tells = tells;
        slots = kept_slots b f n.slots w v r.kept i.slots;
        none = λ d at. r.kept.active d ∙ i.none d at;
        epoch = r.epoch ∙ i.epoch;
        horizon = λ d l some limit. i.horizon d l some limit ∙ sym (r.floor d l);
        parts = λ d. parts_stay b f f w v (n.horizon d) (rows_in holds (n.parts d)) (same_filed f) i.tells tells (i.parts d);
        promised = r.promised ∙ i.promised;
        polled = λ d. let p = r.polled d in let h = r.kept.head 9 in let q = i.polled d in omega arith;
        job = jobs_stay b f f w v n.job (same_filed f) r.promised (λ l q. let c = r.dead_at l q in omega arith) (λ l q was. r.dropped l q ∙ was) i.job;
        deleted = went_on.deleted;
        sent = all_and part holds b (Sound part holds b m v) new n.sent r.sound went_on.sent;
      }

  still_sends : (b : BlockId) (n : Net) (i : View part holds b n) (new : List Packet)
      → AllByRecursion (Sound part holds b (record n { sent = new ++ n.sent }) i.state) new → Sends b n i new
  still_sends b n i new sound = record {
    state = i.state;
    steps = Ended;
    kept = record { cleaner = refl; head = λ l. refl; version = λ l q. refl; hop = λ l q. refl; active = λ e. refl; applied = λ e l. refl; index = λ e. refl };
    epoch = refl;
    floor = λ e l. refl;
    promised = refl;
    polled = λ e. refl;
    dead_at = λ l q. refl;
    dropped = λ l q. refl;
    sound = sound;
  }

  sent_good : (n : Net) (new : List Packet) → Good part holds n → ((b : BlockId) → slot_of b.ino.0 ≡ part → (i : View part holds b n) → Sends b n i new)
      → Good part holds (record n { sent = new ++ n.sent })
  sent_good n new g all =
      record { filed = g.filed; epochs = g.epochs; begun = g.begun; views = λ b inside. let i = g.views b inside in sends b n i new (all b inside i) }

  -- ---- a slot answers a Check

  -- what was asked, of a later net that has the same log, and in whose index the same is promised
  asked_as : (b : BlockId) (n m : Net) (w v : IndexState) (name : SegName) (d : ℕ) → m.filed ≡ n.filed → v.promised ≡ w.promised
      → ((e l : ℕ) → v.floor e l ≡ w.floor e l) → IsAsked part holds b n w name d → IsAsked part holds b m v name d
  asked_as b n m w v name d filed promised floor a = record {
    within = subst (λ f. IsWithin f name) (sym filed) a.within;
    below = let x = a.below in let y = floor d name.log.0 in omega arith;
    promised = let x = a.promised in omega arith;
  }

  above_zero : (e : ℕ) → (e ≡ 0 → ⊥) → 0 < e
  above_zero zero none = absurd (none refl)
  above_zero (suc e) none = omega arith

  -- a Live is a filed row
  lives : (n : Net) (s : SlotState) (k : BlockId) (place : Place) (b : BlockId) (w : IndexState) → Manages b n.filed w s
      → slot.is_place (slot.entry_at s k).place place ≡ true → k ≡ b → IsRow b n.filed (slot.entry_at s k)
  lives n s k place b w m fact at =
      let here : slot.is_place (slot.entry_at s b).place place ≡ true = ap (λ x. slot.is_place (slot.entry_at s x).place place) (sym at) ∙ fact in
      subst (λ x. IsRow b n.filed (slot.entry_at s x)) (sym at)
      (live_is_filed b n.filed w s place (slot.entry_at s b) m (ap (λ t. cond t (Live (slot.entry_at s b)) Dead ∷ []) here))

  -- a Dead of the block, of a filed row below a horizon of an epoch up to the slot's, is told
  tells_dead : (n : Net) (e : ℕ) (s : SlotState) (number : ℕ) (place : Place) (d : ℕ) → Good part holds n → n.slots e ≡ Some s
      → (b : BlockId) (i : View part holds b n) → Sound part holds b n i.state (Checked number b place d)
      → slot.is_place (slot.entry_at s b).place place ≡ false → is_filed_name n.filed place.seg.name ≡ true → d ≤ e
      → Sends b n i (AnsweredDead number b place.seg.name d e ∷ [])
  tells_dead n e s number place d g at b i asked elsewhere fact low =
      let w = i.state in
      let l = place.seg.name.log.0 in
      let q = place.seg.name.seq in
      let same = g.epochs e s at in
      let can : CanBeat w d s.epoch l q =
      deads_are_beats b n.filed w s place d l q i.reached g.filed i.tells (i.slots e s at) (asked.1 refl fact) (omega arith) asked.0.below
      (ap (λ t. cond t (Live (slot.entry_at s b)) Dead ∷ []) elsewhere) in
      let v = beats w e l q in
      let m = record n { sent = AnsweredDead number b place.seg.name d e ∷ n.sent } in
      record {
        state = v;
        steps = More Ended (Beats d e l q (subst (λ x. CanBeat w d x l q) same can));
        kept = record {
          cleaner = refl;
          head = λ k. refl;
          version = λ k r. refl;
          hop = λ k r. refl;
          active = λ k. refl;
          applied = λ k r. refl;
          index = λ k. refl;
        };
        epoch = refl;
        floor = λ k r. refl;
        promised = refl;
        polled = λ k. refl;
        dead_at = λ k r. refl;
        dropped = λ k r. refl;
        sound = (
          (
            asked_as b n m w v place.seg.name d refl refl (λ k r. refl) asked.0,
            above_zero e (not_zero part holds n e s g at),
            λ _ _ _. at_same e (put_at (w.told e) l q 1 l q) (w.told e l q) ∙ at_same l (cond (q == q) 1 (w.told e l q)) (w.told e l q)
                ∙ at_same q 1 (w.told e l q),
          ),
          tt,
        );
      }

  answered : (n : Net) (e : ℕ) (s : SlotState) (number : ℕ) (k : BlockId) (place : Place) (d : ℕ) → Good part holds n → n.slots e ≡ Some s
      → In (Checked number k place d) n.sent → (b : BlockId) (i : View part holds b n)
      → Sends b n i (answer_packets number k place.seg.name d e (slot.transition s (Check k place)).outs)
  answered n e s number k place d g at asked b i =
      let w = i.state in
      let name = place.seg.name in
      let known = found part holds b (Sound part holds b n w) (Checked number k place d) n.sent i.sent asked in
      by_test (λ (o : Out). Sends b n i (answer_packets number k name d e (o ∷ []))) (slot.is_place (slot.entry_at s k).place place)
      (Live (slot.entry_at s k)) Dead
      (λ fact. still_sends b n i (AnsweredLive k (slot.entry_at s k) ∷ []) (lives n s k place b w (i.slots e s at) fact, tt))
      (λ elsewhere. by known elsewhere (same_block k b) (is_filed_name n.filed name) (nat_le d e) refl refl refl)
    where
      untold : Sound part holds b n i.state (Checked number k place d) → ((k ≡ b) → is_filed_name n.filed place.seg.name ≡ true → d ≤ e → ⊥)
          → Sends b n i (AnsweredDead number k place.seg.name d e ∷ [])
      untold known never =
          still_sends b n i (AnsweredDead number k place.seg.name d e ∷ []) (
            (
              asked_as b n (record n { sent = AnsweredDead number k place.seg.name d e ∷ n.sent }) i.state i.state place.seg.name d refl refl
                  (λ x y. refl) known.0,
              above_zero e (not_zero part holds n e s g at),
              λ same fact low. absurd (never same fact low),
            ),
            tt,
          )

      by : Sound part holds b n i.state (Checked number k place d) → slot.is_place (slot.entry_at s k).place place ≡ false → (t u v : Bool) → same_block k b ≡ t
          → is_filed_name n.filed place.seg.name ≡ u → nat_le d e ≡ v
          → Sends b n i (AnsweredDead number k place.seg.name d e ∷ [])
      by known elsewhere true true true same fact low =
          let it : b ≡ k = same_block_exact k b same in
          subst (λ x. Sound part holds b n i.state (Checked number x place d) → slot.is_place (slot.entry_at s x).place place ≡ false
          → Sends b n i (AnsweredDead number x place.seg.name d e ∷ [])) it
          (λ here there. tells_dead n e s number place d g at b i here there fact (leb-true d e low)) known elsewhere
      by known elsewhere true true false same fact late = untold known (λ _ _ low. let x = leb-false d e late in omega arith)
      by known elsewhere true false v same twin low = untold known (λ _ fact _. false≢true (sym twin ∙ fact))
      by known elsewhere false u v other fact low = untold known (λ at_b _ _. false≢true (sym other ∙ ap (same_block k) (sym at_b) ∙ same_block_itself k))

  pub answers : (n : Net) (e : ℕ) (s : SlotState) (number : ℕ) (k : BlockId) (place : Place) (d : ℕ) → Good part holds n → n.slots e ≡ Some s
      → In (Checked number k place d) n.sent
      → Good part holds (record n { sent = answer_packets number k place.seg.name d e (slot.transition s (Check k place)).outs ++ n.sent })
  answers n e s number k place d g at asked =
      sent_good n (answer_packets number k place.seg.name d e (slot.transition s (Check k place)).outs) g
      (λ b inside i. answered n e s number k place d g at asked b i)

  -- ---- other packets

  pub plans : (n : Net) (e : ℕ) (s : SlotState) (events : List Event) (horizon : List ℕ) → Good part holds n → n.slots e ≡ Some s
      → (slot_after events).pages ≡ pages_of s.index → AllMayCome holds nothing_checkpointed events
      → IsNext s horizon → Good part holds (with_packet n (CheckpointPlanned e events horizon))
  plans n e s events horizon g at pages all next =
      sent_good n (CheckpointPlanned e events horizon ∷ []) g (λ b inside i.
      let m = i.slots e s at in
      let same = g.epochs e s at in
      still_sends b n i (CheckpointPlanned e events horizon ∷ []) (
        record {
          active = ap i.state.active (sym same) ∙ m.active;
          applied = λ l some limit. let x = next l some limit in let y = m.applied l some in let z = ap (λ k. i.state.applied k l) same in omega arith;
          covers = λ segments laid. parts_cover b n.filed i.state s holds events segments horizon i.reached g.filed i.tells m pages all laid next;
        },
        tt,
      ))

  -- where blocks lie doesn't hang on which pages have changed
  pub cleans : (n : Net) (e : ℕ) (s : SlotState) → Good part holds n → n.slots e ≡ Some s → Good part holds (with_slot n e (slot.slot_clean s))
  cleans n e s g at =
      let same = g.epochs e s at in
      with_slot_good part holds n e (slot.slot_clean s) g same (not_zero part holds n e s g at)
      (λ b inside i. let m = i.slots e s at in
      record { state = i.state; steps = Ended; frame = itself e i.state; shows = record { active = m.active; applied = m.applied; index = m.index } })

  pub checkpoints : (n : Net) (e : ℕ) (events : List Event) (horizon : List ℕ) (segments : List SegRef) → Good part holds n
      → In (CheckpointPlanned e events horizon) n.sent → MayCome holds (slot_after events) (Written segments)
      → Good part holds (with_packet n (CheckpointDone e horizon (after_event (slot_after events) (Written segments)).parts))
  checkpoints n e events horizon segments g planned laid =
      sent_good n (CheckpointDone e horizon (after_event (slot_after events) (Written segments)).parts ∷ []) g (λ b inside i.
      let p = found part holds b (Sound part holds b n i.state) (CheckpointPlanned e events horizon) n.sent i.sent planned in
      still_sends b n i (CheckpointDone e horizon (after_event (slot_after events) (Written segments)).parts ∷ [])
      ((p.active, p.applied, p.covers segments laid), tt))

  pub reports : (n : Net) → Good part holds n → Good part holds (with_packet n (CleanerReported n.promised (n.filed.head 9)))
  reports n g =
      sent_good n (CleanerReported n.promised (n.filed.head 9) ∷ []) g (λ b inside i.
      let p = i.promised in
      let h = i.tells.head 9 in
      let x = i.polled n.promised in
      still_sends b n i (CleanerReported n.promised (n.filed.head 9) ∷ []) ((omega arith, omega arith), tt))

  -- what its job has promised the cleaner has
  asked_low : (n : Net) (d : ℕ) (b : BlockId) → slot_of b.ino.0 ≡ part → (i : View part holds b n) → d ≤ promised_at n.job.promised part → d ≤ i.state.promised
  asked_low n d b inside i low = by i.job.promised
    where
      told : promise_of b n.job ≡ promised_at n.job.promised part
      told = ap (promised_at n.job.promised) inside

      by : (promise_of b n.job ≡ 0) ⊎ (i.state.promised ≡ promise_of b n.job) → d ≤ i.state.promised
      by (inl none) = let t = told in omega arith
      by (inr same) = let t = told in omega arith

  pub asks : (n : Net) (k : BlockId) (place : Place) (d : ℕ) → Good part holds n → d ≤ promised_at n.job.promised part → IsWithin n.filed place.seg.name
      → place.seg.name.seq < of_log (n.horizon d) place.seg.name.log.0
      → (is_filed_name n.filed place.seg.name ≡ true → (row_at n.filed k place.seg.name.log.0 place.seg.name.seq).place ≡ Some place)
      → Good part holds (with_packet n (Checked n.number k place d))
  asks n k place d g promised within below lies =
      sent_good n (Checked n.number k place d ∷ []) g (λ b inside i.
      let named = log_named n.filed place.seg.name g.filed within in
      let h = i.horizon d place.seg.name.log.0 named.0 named.1 in
      still_sends b n i (Checked n.number k place d ∷ []) (
        (
          record { within = within; below = omega arith; promised = asked_low n d b inside i promised },
          (λ at fact. ap (λ x. (row_at n.filed x place.seg.name.log.0 place.seg.name.seq).place) (sym at) ∙ lies fact),
        ),
        tt,
      ))

  -- ---- the registry

  keeps_view : (n : Net) (horizon : List ℕ) (parts : List SegRef) → Good part holds n → In (CheckpointDone n.epoch horizon parts) n.sent
      → ((l : ℕ) → 0 < l → l ≤ 9 → of_log (n.horizon n.epoch) l ≤ of_log horizon l) → (b : BlockId) (i : View part holds b n)
      → View part holds b (record n { horizon = λ e. cond (nat_lt e n.epoch) (n.horizon e) horizon; parts = λ e. cond (nat_lt e n.epoch) (n.parts e) parts })
  keeps_view n horizon parts g done rises b i =
      let w = i.state in
      let f = n.filed in
      let m = record n { horizon = λ e. cond (nat_lt e n.epoch) (n.horizon e) horizon; parts = λ e. cond (nat_lt e n.epoch) (n.parts e) parts } in
      let known = found part holds b (Sound part holds b n w) (CheckpointDone n.epoch horizon parts) n.sent i.sent done in
      let same = i.epoch in
      let k = checkpoints_are_kept b f w horizon i.reached g.filed i.tells
      (λ l some limit. let h = i.horizon n.epoch l some limit in let r = rises l some limit in let e = ap (λ x. w.floor x l) same in omega arith)
      (λ l some limit. let a = known.1 l some limit in let e = ap (λ x. w.applied x l) same in omega arith) in
      let v = keeps_horizon w (horizon_seen horizon) in
      let kept : Kept w v =
      record { cleaner = refl; head = λ l. refl; version = λ l q. refl; hop = λ l q. refl; active = λ e. refl; applied = λ e l. refl; index = λ e. refl } in
      let tells = kept_tells b f w v kept i.tells in
      let went_on = went part holds b n m i v (More Ended k.step) (same_filed f) tells (λ d _. omega arith) in
      record {
        state = v;
        reached = went_on.reached;
        tells = tells;
        slots = kept_slots b f n.slots w v kept i.slots;
        none = i.none;
        epoch = i.epoch;
        horizon = λ e l some limit. by_test
            (λ (hs : List ℕ). (nat_lt e n.epoch ≡ true → hs ≡ n.horizon e) → (nat_lt e n.epoch ≡ false → hs ≡ horizon) → of_log hs l ≡ v.floor e l)
            (nat_lt e n.epoch) (n.horizon e) horizon
            (λ t _ _. i.horizon e l some limit ∙ sym (first_of (nat_lt e w.epoch) (w.floor e l) (horizon_seen horizon l) (ap (nat_lt e) same ∙ t)))
            (λ t _ _. k.floor e l (let x = ltb-false e n.epoch t in omega arith) some limit)
            (λ t. first_of (nat_lt e n.epoch) (n.horizon e) horizon t)
            (λ t. second_of (nat_lt e n.epoch) (n.horizon e) horizon t);
        parts = λ e. by_both e (nat_lt e n.epoch) (parts_stay b f f w v (n.horizon e) (rows_in holds (n.parts e)) (same_filed f) i.tells tells (i.parts e))
            (parts_stay b f f w v horizon (rows_in holds parts) (same_filed f) i.tells tells known.2);
        promised = i.promised;
        polled = i.polled;
        job = jobs_stay b f f w v n.job (same_filed f) refl (λ l q. omega arith) (λ l q was. was) i.job;
        deleted = went_on.deleted;
        sent = went_on.sent;
      }
    where
      by_both : {v : IndexState} (e : ℕ) (t : Bool) → Covers b n.filed v (n.horizon e) (rows_in holds (n.parts e))
          → Covers b n.filed v horizon (rows_in holds parts) → Covers b n.filed v (cond t (n.horizon e) horizon) (rows_in holds (cond t (n.parts e) parts))
      by_both e true before now = before
      by_both e false before now = now

  pub keeps : (n : Net) (horizon : List ℕ) (parts : List SegRef) → Good part holds n → In (CheckpointDone n.epoch horizon parts) n.sent
      → ((l : ℕ) → 0 < l → l ≤ 9 → of_log (n.horizon n.epoch) l ≤ of_log horizon l)
      → Good part holds (record n { horizon = λ e. cond (nat_lt e n.epoch) (n.horizon e) horizon; parts = λ e. cond (nat_lt e n.epoch) (n.parts e) parts })
  keeps n horizon parts g done rises =
      record { filed = g.filed; epochs = g.epochs; begun = g.begun; views = λ b inside. keeps_view n horizon parts g done rises b (g.views b inside) }

  pub moves_on : (n : Net) → Good part holds n → Good part holds (record n { epoch = suc n.epoch })
  moves_on n g = record {
    filed = g.filed;
    epochs = g.epochs;
    begun = g.begun;
    views = λ b inside.
        let i = g.views b inside in
        let w = i.state in
        let f = n.filed in
        let m = record n { epoch = suc n.epoch } in
        let v = moves w in
        let kept : Kept w v =
        record { cleaner = refl; head = λ l. refl; version = λ l q. refl; hop = λ l q. refl; active = λ e. refl; applied = λ e l. refl; index = λ e. refl } in
        let tells = kept_tells b f w v kept i.tells in
        let went_on = went part holds b n m i v (More Ended Moves) (same_filed f) tells (λ d _. omega arith) in
        record {
          state = v;
          reached = went_on.reached;
          tells = tells;
          slots = kept_slots b f n.slots w v kept i.slots;
          none = i.none;
          epoch = ap suc i.epoch;
          horizon = i.horizon;
          parts = λ e. parts_stay b f f w v (n.horizon e) (rows_in holds (n.parts e)) (same_filed f) i.tells tells (i.parts e);
          promised = i.promised;
          polled = i.polled;
          job = jobs_stay b f f w v n.job (same_filed f) refl (λ l q. omega arith) (λ l q was. was) i.job;
          deleted = went_on.deleted;
          sent = went_on.sent;
        };
  }

  -- ---- a takeover

  split_front : (xs ys : List Source) (chains : List (List Segment)) → AreReadBack (xs ++ ys) chains → AreReadBack xs (take (length xs) chains)
  split_front [] ys chains read = tt
  split_front (x ∷ xs) ys [] read = absurd read
  split_front (x ∷ xs) ys (c ∷ cs) read = (read.0, split_front xs ys cs read.1)

  takeover_told : (n : Net) (e : ℕ) (news : SlotNews) (c : Course) (index : List (BlockId × Entry)) (beliefs : List (BlockId × ℕ × Mode)) (applied : List ℕ)
      → IsTakenOver news c e index beliefs applied → HasRead part holds n e news c
      → (b : BlockId) (i : View part holds b n) → TakeoverTold b n.filed i.state news c
  takeover_told n e news c index beliefs applied over has b i =
      let same_length : length (map part_source news.parts) ≡ length news.parts = length-map news.parts part_source in
      let read : AreReadBack (map part_source news.parts) (take (length news.parts) c.read.whole) =
      subst (λ k. AreReadBack (map part_source news.parts) (take k c.read.whole)) same_length
      (split_front (map part_source news.parts) (flat_map (log_sources news.horizon c.state.reports) (range_with_len 1 9)) c.read.whole over.sources) in
      let told : told_by_all part (take (length news.parts) c.read.whole) ≡ rows_in holds news.parts =
      parts_are_read part holds news.parts (take (length news.parts) c.read.whole) read has.written in
      record {
        horizon = λ l some limit. ap (λ h. of_log h l) has.horizon ∙ i.horizon e l some limit ∙ sym (ap (λ k. i.state.floor k l) has.epoch);
        parts = subst (λ h. Covers b n.filed i.state h (told_by_all news.slot (take (length news.parts) c.read.whole))) (sym has.horizon)
            (subst (Covers b n.filed i.state (n.horizon e))
            (sym (ap (λ k. told_by_all k (take (length news.parts) c.read.whole)) has.slot ∙ told ∙ ap (rows_in holds) has.parts)) (i.parts e));
        ends = has.ends;
        linked = has.linked;
        texts = has.texts;
      }

  pub takes_over : (n : Net) (e : ℕ) (news : SlotNews) (groups : GroupMapState) (clients : ℕ) (inputs : List TakeoverIn) (input : TakeoverIn)
      (index : List (BlockId × Entry)) (beliefs : List (BlockId × ℕ × Mode)) (applied : List ℕ) → Good part holds n
      → n.slots e ≡ None → 0 < e → e ≤ n.epoch
      → Contains (takeover.transition (course_of news groups clients inputs).state input).outs (Active e index beliefs applied)
      → HasRead part holds n e news (after_input (course_of news groups clients inputs) input)
      → Good part holds (with_slot n e (slot.slot_start e index beliefs applied))
  takes_over n e news groups clients inputs input index beliefs applied g none some begun hands has =
      let c = after_input (course_of news groups clients inputs) input in
      let over = taken_over news groups clients inputs input e index beliefs applied hands in
      with_slot_good part holds n e (slot.slot_start e index beliefs applied) g refl (λ is_zero. omega arith)
      (λ b inside i.
      let w = i.state in
      let known = found part holds b (Sound part holds b n w) (CleanerReported e (end_of c.state.reports 9).seq) n.sent i.sent has.reported in
      let fact = has.epoch in
      let same = i.epoch in
      let may : MayBegin w news.epoch c.state.reports =
      subst (λ k. MayBegin w k c.state.reports) (sym fact) (record { begun = omega arith; fresh = i.none e none; heard = known.1; reported = known.0 }) in
      takeovers_are_activations b n.filed w news groups clients inputs input e index beliefs applied i.reached g.filed i.tells (inside ∙ sym has.slot) hands
      (takeover_told n e news c index beliefs applied over has b i) may)
