-- Each thing that happens in the small world keeps it seen: what slots and logs do.
use Rattle.std.proofs.Common.{◌≡◌, ℕ, zero, suc, ◌-◌, ◌<◌, ◌≤◌, List, Some, None, unwrap_or, length, refl, sym, ap, subst, ◌∙◌, arith}
use Rattle.xfs_base.specs.declared.block.BlockId.{BlockId}
use Rattle.xfs_base.specs.declared.entry.Entry.{Entry}
use Rattle.xfs_base.specs.declared.segment.LogId.{LogId}
use Rattle.xfs_base.specs.declared.segment.SegRef.{SegRef}
use Rattle.xfs_base.specs.Blocks.{slot_of}
use Rattle.xfs_base.specs.Limits.{block_logs}
use Rattle.xfs_base.specs.Logs.{cleaners_number}
use Rattle.segment_format.specs.declared.segment.Segment.{Segment}
use Rattle.checkpoint.specs.Laws.{rows_in}
use Rattle.checkpoint.specs.WriterState.{Rows}
use Rattle.token_manager.specs.declared.input.In as slot_inputs
use Rattle.token_manager.specs.declared.input.In.TheVariants.{Want, Gave, Deltas, Check, Tick}
use Rattle.token_manager.specs.SlotState.{SlotState}
use Rattle.token_manager.specs.Transition as slot
use Rattle.token_manager.proofs.Turns.{takes-transition}
use Rattle.log_protocol.specs.IndexState.{IndexState}
use Rattle.log_protocol.specs.IndexLaws.{IndexReached}
use Rattle.log_protocol.proofs.IndexInduction.{index_is_join_always}
use Rattle.index_tie.specs.Filed.{Tells}
use Rattle.headline.specs.Filed.{Filed, IsSegment, row_at}
use Rattle.index_tie.specs.Growth.{with_segment, said_of, Files}
use Rattle.index_tie.specs.Slots.{Manages, Runs, DeltasTell, Brings}
use Rattle.index_tie.specs.Net.{Net, with_slot, IsNewer, IsMove, IsOfTokens}
use Rattle.index_tie.specs.Net.Packet.{AnsweredLive}
use Rattle.index_tie.proofs.Answers.{moves_are_copies}
use Rattle.index_tie.proofs.JobsStay.{jobs_stay}
use Rattle.index_tie.proofs.Growth.{slots_stay, parts_stay, more_is_filed, filed_more, clients_file, cleaner_files}
use Rattle.index_tie.proofs.Slots.{applies_are_merges}
use Rattle.index_tie.proofs.Tables.{put_each}
use Rattle.index_tie.proofs.Views.{View, went, found, Sound, Good, same_filed, tells_same}

pub some_is : {X : Type 0} (x y : X) → Some x ≡ Some y → x ≡ y
some_is x y same = ap (λ o. unwrap_or o x) same

pub some_none : {X : Type 0} (x : X) → Some x ≡ None → ⊥
some_none x h = absurd (cc)

-- a step keeps the epoch of a slot
pub epoch_stays : (s : SlotState) (i : slot_inputs.In) → (slot.transition s i).state.epoch ≡ s.epoch
epoch_stays s (Want want end) = (takes-transition s (Want want end) tt).0
epoch_stays s (Gave client block stamp end) = (takes-transition s (Gave client block stamp end) tt).0
epoch_stays s (Deltas log first upto rows) = (takes-transition s (Deltas log first upto rows) tt).0
epoch_stays s (Check block place) = refl
epoch_stays s Tick = refl

module _ (part : ℕ) (holds : SegRef → Rows) where
  -- ---- the manager of an epoch steps

  by_manager : (n : Net) (b : BlockId) (i : View part holds b n) (e : ℕ) (s : SlotState) → ((d : ℕ) (t : SlotState) → n.slots d ≡ Some t → t.epoch ≡ d)
      → s.epoch ≡ e → Runs b n.filed i.state e s → View part holds b (with_slot n e s)
  by_manager n b i e s epochs fact r =
      let w = i.state in
      let v = r.state in
      let f = n.filed in
      let m = with_slot n e s in
      let frame = r.frame.rest in
      let tells = tells_same b f w v (ap (λ (x : IndexState). x.cleaner) frame) (λ l. ap (λ (x : IndexState). x.head l) frame)
      (λ l q. ap (λ (x : IndexState). x.version l q) frame) (λ l q. ap (λ (x : IndexState). x.hop l q) frame) i.tells in
      let polled : (d : ℕ) → v.polled d ≡ w.polled d = λ d. ap (λ (x : IndexState). x.polled d) frame in
      let went_on = went part holds b n m i v r.steps (same_filed f) tells (λ d _. let p = polled d in omega arith) in
      record {
        state = v;
        reached = went_on.reached;
        tells = tells;
        slots = put_each (λ d o. (t : SlotState) → o ≡ Some t → Manages b f v t) n.slots e (Some s) (λ t same. subst (Manages b f v) (some_is s t same) r.shows)
            (λ d other t at. let there : t.epoch ≡ e → ⊥ = λ same. other (sym (epochs d t at) ∙ same) in
            slots_stay b f f w v t (same_filed f)
            (record { active = r.frame.active t.epoch there; applied = λ l. r.frame.applied t.epoch l there; index = r.frame.index t.epoch there })
            (i.slots d t at));
        none = put_each (λ d o. o ≡ None → v.active d ≡ 0) n.slots e (Some s) (λ h. absurd (some_none s h))
            (λ d other at. r.frame.active d other ∙ i.none d at);
        epoch = ap (λ (x : IndexState). x.epoch) frame ∙ i.epoch;
        horizon = λ d l some limit. i.horizon d l some limit ∙ sym (ap (λ (x : IndexState). x.floor d l) frame);
        parts = λ d. parts_stay b f f w v (n.horizon d) (rows_in holds (n.parts d)) (same_filed f) i.tells tells (i.parts d);
        promised = ap (λ (x : IndexState). x.promised) frame ∙ i.promised;
        polled = λ d. let p = polled d in let h = ap (λ (x : IndexState). x.head cleaners_number) frame in let q = i.polled d in omega arith;
        job = jobs_stay b f f w v n.job (same_filed f) (ap (λ (x : IndexState). x.promised) frame)
            (λ l q. let c = ap (λ (x : IndexState). x.dead_at l q) frame in omega arith) (λ l q was. ap (λ (x : IndexState). x.dropped l q) frame ∙ was) i.job;
        deleted = went_on.deleted;
        sent = went_on.sent;
      }

  -- the whole, once the slot of an epoch has stepped
  pub with_slot_good : (n : Net) (e : ℕ) (s : SlotState) → Good part holds n → s.epoch ≡ e → (e ≡ 0 → ⊥)
      → ((b : BlockId) → slot_of b.ino.0 ≡ part → (i : View part holds b n) → Runs b n.filed i.state e s) → Good part holds (with_slot n e s)
  with_slot_good n e s g fact some runs = record {
    filed = g.filed;
    epochs = put_each (λ d o. (t : SlotState) → o ≡ Some t → t.epoch ≡ d) n.slots e (Some s)
        (λ t same. subst (λ (x : SlotState). x.epoch ≡ e) (some_is s t same) fact) (λ d other. g.epochs d);
    begun = put_each (λ d o. d ≡ 0 → o ≡ None) n.slots e (Some s) (λ is_zero. absurd (some is_zero)) (λ d other is_zero. ap n.slots is_zero ∙ g.begun) 0 refl;
    views = λ b inside. by_manager n b (g.views b inside) e s g.epochs fact (runs b inside (g.views b inside));
  }

  pub not_zero : (n : Net) (e : ℕ) (s : SlotState) → Good part holds n → n.slots e ≡ Some s → e ≡ 0 → ⊥
  not_zero n e s g at fact = some_none s (sym at ∙ ap n.slots fact ∙ g.begun)

  -- a slot takes an input
  takes : (n : Net) (e : ℕ) (s : SlotState) (x : slot_inputs.In) → Good part holds n → n.slots e ≡ Some s
      → ((b : BlockId) → slot_of b.ino.0 ≡ part → Brings b n.filed s x) → Good part holds (with_slot n e (slot.transition s x).state)
  takes n e s x g at brings =
      let fact = g.epochs e s at in
      with_slot_good n e (slot.transition s x).state g (epoch_stays s x ∙ fact) (not_zero n e s g at)
      (λ b inside i. subst (λ d. Runs b n.filed i.state d (slot.transition s x).state) fact
      (applies_are_merges b n.filed i.state s x i.reached g.filed i.tells (i.slots e s at) (brings b inside)))

  pub gets_deltas : (n : Net) (e : ℕ) (s : SlotState) (log : LogId) (first upto : ℕ) (rows : List (BlockId × Entry)) → Good part holds n → n.slots e ≡ Some s
      → log.0 - 1 < length s.applied → ((b : BlockId) → slot_of b.ino.0 ≡ part → DeltasTell b n.filed log.0 first upto rows)
      → Good part holds (with_slot n e (slot.transition s (Deltas log first upto rows)).state)
  gets_deltas n e s log first upto rows g at known tell = takes n e s (Deltas log first upto rows) g at (λ b inside. (known, tell b inside))

  pub gets_other : (n : Net) (e : ℕ) (s : SlotState) (x : slot_inputs.In) → Good part holds n → n.slots e ≡ Some s → IsOfTokens x
      → Good part holds (with_slot n e (slot.transition s x).state)
  gets_other n e s (Want want end) g at of = takes n e s (Want want end) g at (λ b inside. tt)
  gets_other n e s (Gave client block stamp end) g at of = takes n e s (Gave client block stamp end) g at (λ b inside. tt)
  gets_other n e s (Deltas log first upto rows) g at of = absurd of
  gets_other n e s (Check block place) g at of = absurd of
  gets_other n e s Tick g at of = takes n e s Tick g at (λ b inside. tt)

  -- ---- logs file

  by_files : (n : Net) (b : BlockId) (i : View part holds b n) (l : ℕ) (s : Segment) → Files b (with_segment n.filed l s) i.state
      → View part holds b (record n { filed = with_segment n.filed l s })
  by_files n b i l s r =
      let w = i.state in
      let v = r.state in
      let f = n.filed in
      let g = with_segment f l s in
      let m = record n { filed = g } in
      let frame = r.frame in
      let more = more_is_filed f l s in
      let polled : (d : ℕ) → v.polled d ≡ w.polled d = λ d. ap (λ (x : IndexState). x.polled d) frame in
      let went_on = went part holds b n m i v r.steps more r.tells (λ d _. let p = polled d in omega arith) in
      record {
        state = v;
        reached = went_on.reached;
        tells = r.tells;
        slots = λ d t at. slots_stay b f g w v t more
            (record {
              active = ap (λ (x : IndexState). x.active t.epoch) frame;
              applied = λ k. ap (λ (x : IndexState). x.applied t.epoch k) frame;
              index = ap (λ (x : IndexState). x.index t.epoch) frame;
            }) (i.slots d t at);
        none = λ d at. ap (λ (x : IndexState). x.active d) frame ∙ i.none d at;
        epoch = ap (λ (x : IndexState). x.epoch) frame ∙ i.epoch;
        horizon = λ d k some limit. i.horizon d k some limit ∙ sym (ap (λ (x : IndexState). x.floor d k) frame);
        parts = λ d. parts_stay b f g w v (n.horizon d) (rows_in holds (n.parts d)) more i.tells r.tells (i.parts d);
        promised = ap (λ (x : IndexState). x.promised) frame ∙ i.promised;
        polled = λ d. let p = polled d in let h = went_on.later.past.head cleaners_number in let q = i.polled d in omega arith;
        job = jobs_stay b f g w v n.job more (ap (λ (x : IndexState). x.promised) frame)
            (λ k q. let c = ap (λ (x : IndexState). x.dead_at k q) frame in omega arith) (λ k q was. ap (λ (x : IndexState). x.dropped k q) frame ∙ was) i.job;
        deleted = went_on.deleted;
        sent = went_on.sent;
      }

  filing : (n : Net) (l : ℕ) (s : Segment) → Good part holds n → 0 < l → l ≤ block_logs → IsSegment l (suc (n.filed.head l)) s
      → ((b : BlockId) → slot_of b.ino.0 ≡ part → (i : View part holds b n) → Files b (with_segment n.filed l s) i.state)
      → Good part holds (record n { filed = with_segment n.filed l s })
  filing n l s g some limit fact files = record {
    filed = filed_more n.filed l s g.filed some limit fact;
    epochs = g.epochs;
    begun = g.begun;
    views = λ b inside. by_files n b (g.views b inside) l s (files b inside (g.views b inside));
  }

  -- what is above all rows is above the join
  above_top : (b : BlockId) (f : Filed) (w : IndexState) (ver : ℕ) → IndexReached w → Tells b f w → 0 < ver → ((l q : ℕ) → (row_at f b l q).ver < ver)
      → w.joined.version < ver
  above_top b f w ver reached tells some above = by w.joined.version refl
    where
      by : (v : ℕ) → w.joined.version ≡ v → w.joined.version < ver
      by zero none = omega arith
      by (suc v) fact = let j = (index_is_join_always w reached).all.its_version (omega arith) in let t = tells.version w.joined.log w.joined.seq in let a =
          above w.joined.log w.joined.seq in omega arith

  pub client_files : (n : Net) (l : ℕ) (s : Segment) → Good part holds n → 0 < l → l < cleaners_number → IsSegment l (suc (n.filed.head l)) s
      → ((b : BlockId) → slot_of b.ino.0 ≡ part → IsNewer b n.filed s) → Good part holds (record n { filed = with_segment n.filed l s })
  client_files n l s g some less fact newer = filing n l s g some (omega arith) fact (λ b inside i.
      clients_file b n.filed i.state l s i.reached g.filed i.tells some fact (record {
        client = less;
        new = λ more. above_top b n.filed i.state (said_of s b).ver i.reached i.tells more ((newer b inside).newer more);
        first_hand = (newer b inside).first_hand;
      }))

  pub cleaner_files_one : (n : Net) (s : Segment) → Good part holds n → IsSegment cleaners_number (suc (n.filed.head cleaners_number)) s
      → ((b : BlockId) → slot_of b.ino.0 ≡ part → 0 < (said_of s b).ver → IsMove b n.sent s) → Good part holds (record n { filed = with_segment n.filed cleaners_number s })
  cleaner_files_one n s g fact moves = filing n cleaners_number s g (omega arith) (omega arith) fact (λ b inside i.
      cleaner_files b n.filed i.state s i.reached g.filed i.tells fact (λ more.
      let m = moves b inside more in
      let row = found part holds b (Sound part holds b n i.state) (AnsweredLive b m.entry) n.sent i.sent m.answered refl in
      moves_are_copies b n.filed m.entry (said_of s b) row m.version m.hop))
