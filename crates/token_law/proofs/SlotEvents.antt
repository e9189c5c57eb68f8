-- What a slot takes, a takeover and a return keep the world seen.
use Rattle.std.specs.Prelude.{All, Contains, length}
use Rattle.std.proofs.Common.{◌≡◌, ℕ, ◌+◌, ◌-◌, ◌≤◌, ◌<◌, Bool, true, false, nat_lt, List, [], ◌∷◌, ⊎_elim, Option, Some, None, refl, sym, ap, subst, ◌∙◌, arith}
use Rattle.std.proofs.lemmas.Bool.Decides.{nat_tests}
use Rattle.std.proofs.lemmas.Bool.{ltb-false, ltb-true}
use Rattle.xfs_base.specs.declared.block.BlockId.{BlockId}
use Rattle.xfs_base.specs.declared.entry.Entry.{Entry}
use Rattle.xfs_base.specs.declared.segment.LogId.{LogId}
use Rattle.xfs_base.specs.declared.segment.SegName.{SegName}
use Rattle.version_model.specs.declared.act.Act.TheVariants as act
use Rattle.xfs_base.specs.declared.token.Mode.{Mode}
use Rattle.delta_index.specs.Index.{entry_of}
use Rattle.slot_beliefs.specs.Beliefs.{all_believed, share_of}
use Rattle.slot_beliefs.specs.Index.{merge_all}
use Rattle.token_client.specs.Laws.{IsSound}
use Rattle.token_client.specs.State.{tokens_start as fresh_tokens, epoch_of, is_in_slot}
use Rattle.token_client.proofs.AllInputs.{tokens_start-sound}
use Rattle.token_manager.specs.declared.input.In as slot_in
use Rattle.token_manager.specs.declared.input.In.TheVariants as told
use Rattle.token_manager.specs.Laws.{OwnsAlone, IsNotTick}
use Rattle.token_manager.specs.Recalls.{send_all}
use Rattle.token_manager.specs.SlotState.{SlotState}
use Rattle.token_manager.specs.Transition as slot
use Rattle.token_manager.proofs.Guarded.{sound-start, sound-transition}
use Rattle.token_manager.proofs.Turns.{takes-transition}
use Rattle.token_protocol.specs.Basics.{put, In}
use Rattle.token_protocol.specs.Premises.{Premise, IndexCovers, IndexGathered}
use Rattle.token_protocol.proofs.Refining.{put_each}
use Rattle.token_tie.specs.Epochs.{all_reported}
use Rattle.token_tie.specs.Seen.{entry_seen}
use Rattle.token_tie.specs.SlotInputs as slot_inputs
use Rattle.token_tie.proofs.Applying.{sound_takes}
use Rattle.token_tie.proofs.Frames.{put_here}
use Rattle.token_tie.proofs.TakingOver.{one_numbers, reports_none}
use Rattle.token_law.specs.Books.{reopened, with_empty}
use Rattle.token_law.specs.Net.{Net, slot_packets, acted, after_slot, IsLatest}
use Rattle.token_law.specs.Net.Packet.{ReportSent}
use Rattle.token_law.specs.Owed.{DeltasCover, Gathered, adopts}
use Rattle.token_law.proofs.Premises.{owed, owed_on, owed_both}
use Rattle.token_law.proofs.Logged.{Kept, BooksWhole, whole_reopened}
use Rattle.token_law.proofs.Indexes.{covers_of}
use Rattle.token_law.proofs.Views.{some_one, View}
use Rattle.token_law.proofs.ClientViews.{return_view}
use Rattle.token_law.proofs.Filing.{empties_view}
use Rattle.token_law.proofs.SlotViews.{told_carried, slot_view, stale_carried, stale_view}
use Rattle.token_law.proofs.Standing.{Ran, begun, tick_stale}
use Rattle.token_law.proofs.Takeovers.{now, hears, blocks, report, upto, entry, gathers, beliefs_are, later_view, alone_here}
use Rattle.token_law.proofs.Taking.{Good}

-- all slots came from a start, once another is put that did
pub ran_put : (slots : ℕ → Option SlotState) (e : ℕ) (s : SlotState) → Ran s → ((k : ℕ) (z : SlotState) → slots k ≡ Some z → Ran z) → (k : ℕ) (z : SlotState)
    → put slots e (Some s) k ≡ Some z → Ran z
ran_put slots e s new all = put_each (λ k o. (z : SlotState) → o ≡ Some z
    → Ran z) slots e (Some s) (λ z fact. subst Ran (some_one s z fact) new) (λ k other. all k)

module _ (logs : Bool) (members part : ℕ) (n : Net) (i : Good logs members part n) where
  pub slot_event : (b : BlockId) (v : View logs members part b n) (e : ℕ) (s : SlotState) (x : slot_in.In) → n.slots e ≡ Some s
      → (e ≡ v.world.epoch → slot_inputs.Brings logs b v.world s x) → (e < v.world.epoch → IsNotTick x) → (slot.transition s x).state.epoch ≡ s.epoch
      → View logs members part b (after_slot n e (slot.transition s x))
  slot_event b v e s x fact brings news stays =
      ⊎_elim
      (λ same.
      let eq : v.slot ≡ s = some_one v.slot s (sym v.reigns ∙ ap n.slots (sym same) ∙ fact) in
      subst (λ (z : SlotState). View logs members part b (after_slot n e (slot.transition z x))) eq
      (subst (λ k. View logs members part b (after_slot n k (slot.transition v.slot x))) (sym same)
      (slot_view logs members part b n v (slot.transition v.slot x) (subst (λ (z : SlotState). (slot.transition z x).state.epoch ≡ z.epoch) (sym eq) stays)
      (sound-transition v.slot x v.sound)
      (sound_takes logs b v.world v.slot x v.sound v.manages (subst (λ (z : SlotState). slot_inputs.Brings logs b v.world z x) (sym eq) (brings same))))))
      (λ other.
      let p = v.past e s fact in
      let old : e < v.world.epoch = below e v.world.epoch p.0 other in
      let turns = (takes-transition s x (news old)).1 in
      let of_slot = p.1 in
      stale_view logs members part b n v e (slot.transition s x).state (slot_packets (slot.transition s x).outs) old (stays ∙ p.1)
      (λ q new. stale_carried logs members part b n v s.epoch s.turn (slot.transition s x).state.turn (slot.transition s x).outs (omega arith) turns q new))
      (one_numbers e v.world.epoch)
    where
      below : (a c : ℕ) → a ≤ c → (a ≡ c → ⊥) → a < c
      below a c limit other =
          elim (nat_lt a c) as (λ t. nat_lt a c ≡ t → a < c)
          [ true ↦ λ h. grind (arith, nat_tests) | false ↦ λ h. absurd (other (grind (arith, nat_tests))) ] refl

  -- a manager ticks: the latest one shows what it sends again, and of a deposed one that is of an epoch before the reigning one
  pub tick_event : (b : BlockId) (v : View logs members part b n) (e : ℕ) (s : SlotState) → n.slots e ≡ Some s
      → View logs members part b (after_slot n e (slot.transition s told.Tick))
  tick_event b v e s fact =
      elim (nat_lt e v.world.epoch) as (λ t. nat_lt e v.world.epoch ≡ t → View logs members part b (after_slot n e (slot.transition s told.Tick))) [
        | true ↦ λ h.
            let p = v.past e s fact in
            let of_slot = p.1 in
            let old : e < v.world.epoch = ltb-true e v.world.epoch h in
            stale_view logs members part b n v e s (slot_packets (send_all s.jobs)) old p.1
            (λ q new. told_carried logs members part b n v v.world (send_all s.jobs) (tick_stale b v.world s (i.ran e s fact) (omega arith)) q new)
        | false ↦ λ h. slot_event b v e s told.Tick fact (λ _. tt) (λ old. absurd (not_below e v.world.epoch h old)) refl
      ] refl
    where
      not_below : (a c : ℕ) → nat_lt a c ≡ false → a < c → ⊥
      not_below a c h less = absurd (grind (arith, nat_tests))

  -- Deltas that cover what is filed are seen so, where the slot is the latest one
  pub deltas_event : (b : BlockId) → is_in_slot part b ≡ true
      → (v : View logs members part b n) (e : ℕ) (s : SlotState) (log : LogId) (first upto : ℕ) (rows : List (BlockId × Entry)) → n.slots e ≡ Some s
      → log.0 - 1 < length s.applied → Premise logs (IsLatest n e → DeltasCover part n.books s log upto rows)
      → View logs members part b (after_slot n e (slot.transition s (told.Deltas log first upto rows)))
  deltas_event b inside v e s log first upto rows fact known covers =
      slot_event b v e s (told.Deltas log first upto rows) fact (λ same. (
        known,
        seen same,
      )) (λ _. tt) (takes-transition s (told.Deltas log first upto rows) tt).0
    where
      seen : e ≡ v.world.epoch → Premise logs (IndexCovers v.world log.0 upto (entry_seen (entry_of (merge_all s.index rows).rows b)))
      seen same =
          let eq : v.slot ≡ s = some_one v.slot s (sym v.reigns ∙ ap n.slots (sym same) ∙ fact) in
          owed_both logs (Kept b n.books v.world) (IsLatest n e → DeltasCover part n.books s log upto rows)
          (IndexCovers v.world log.0 upto (entry_seen (entry_of (merge_all s.index rows).rows b)))
          (λ kept c.
          let d = c (λ k z at. let p = (v.past k z at).0 in omega arith) in
          covers_of b n.books v.world kept log.0 upto (slot.entry_at s b) (entry_of (merge_all s.index rows).rows b)
          (v.manages.index ∙ ap (λ (z : SlotState). entry_seen (slot.entry_at z b)) eq) d.filed (d.each b inside))
          v.kept covers

  -- the reigning epoch is one for all blocks
  pub one_epoch : (b k : BlockId) (v : View logs members part b n) (u : View logs members part k n) → v.world.epoch ≤ u.world.epoch
  one_epoch b k v u = (u.past v.world.epoch v.slot v.reigns).0

  pub activated_good : (epoch : ℕ) (index : List (BlockId × Entry)) (applied : List ℕ) (rows : ℕ → List (BlockId × Mode)) (ends : ℕ → ℕ) (order : List ℕ)
      → n.slots epoch ≡ None → ((c : ℕ) → 0 < c → c < members → Contains order c)
      → All (λ c. (0 < c) × (c < members)) order → ((c : ℕ) → 0 < c → c < members → In (ReportSent c epoch (rows c) (ends c)) n.sent)
      → Premise logs (IsLatest n epoch → Gathered members part n.books index applied ends)
      → Good logs members part (record n { slots = put n.slots epoch (Some (slot.slot_start epoch index (all_reported rows order) applied)) })
  activated_good epoch index applied rows ends order none all each reports_sent gathered =
      record {
        sound = i.sound;
        ran = ran_put n.slots epoch (slot.slot_start epoch index (all_reported rows order) applied) (begun epoch index (all_reported rows order) applied) i.ran;
        views = λ b inside. at b inside (i.views b inside) (nat_lt (i.views b inside).world.epoch epoch) refl;
      }
    where
      below : (a c : ℕ) → a ≤ c → (a ≡ c → ⊥) → a < c
      below a c p other =
          elim (nat_lt a c) as (λ t. nat_lt a c ≡ t → a < c)
          [ true ↦ λ h. grind (arith, nat_tests) | false ↦ λ h. absurd (other (grind (arith, nat_tests))) ] refl

      taken : SlotState → n.slots epoch ≡ None → (s : SlotState) → n.slots epoch ≡ Some s → ⊥
      taken z h s fact = let clash : None ≡ Some s = sym h ∙ fact in absurd (cc)

      gathered_at : (b : BlockId) → is_in_slot part b ≡ true → (v : View logs members part b n) → (later : v.world.epoch < epoch)
          → Premise logs
          (IndexGathered (now logs members part b n v epoch index applied rows ends none order all each reports_sent)
          (report logs members part b n v epoch index applied rows ends none order all each reports_sent)
          (upto logs members part b n v epoch index applied rows ends none order all each reports_sent)
          (entry logs members part b n v epoch index applied rows ends none order all each reports_sent))
      gathered_at b inside v later =
          gathers logs members part b n v epoch index applied rows ends none order all each reports_sent
          (owed_on logs (IsLatest n epoch → Gathered members part n.books index applied ends) (Gathered members part n.books index applied ends)
          (λ g. g (λ k z fact. let p = (v.past k z fact).0 in omega arith)) gathered) inside

      alone : (b : BlockId) (v : View logs members part b n) → v.world.epoch < epoch
          → OwnsAlone (slot.slot_start epoch index (all_reported rows order) applied).beliefs
      alone b v later k c d apart =
          elim (is_in_slot part k) as
          (λ t. is_in_slot part k ≡ t
          → share_of (all_believed [] (all_reported rows order)) k c + share_of (all_believed [] (all_reported rows order)) k d ≤ 2) [
            | true ↦ λ inside. let u = i.views k inside in let same =
                one_epoch k b u v in
                alone_here logs members part k n u epoch index applied rows ends none order all each reports_sent (omega arith)
                (gathered_at k inside u (omega arith)) c d apart
            | false ↦ λ outside.
                let as_ = beliefs_are logs members part b n v epoch index applied rows ends none order all each reports_sent in
                let sorted = λ (x : ℕ). (hears logs members part b n v epoch index applied rows ends none order all each reports_sent x).sorted in
                let table = blocks logs members part b n v epoch index applied rows ends none order all each reports_sent in
                let p = reports_none part k c table order outside in
                let q = reports_none part k d table order outside in
                subst (λ xs. share_of (all_believed [] xs) k c + share_of (all_believed [] xs) k d ≤ 2) (sym as_) (omega arith)
          ] refl

      at : (b : BlockId) → is_in_slot part b ≡ true → (v : View logs members part b n) (t : Bool) → nat_lt v.world.epoch epoch ≡ t
          → View logs members part b (record n { slots = put n.slots epoch (Some (slot.slot_start epoch index (all_reported rows order) applied)) })
      at b inside v true h =
          let later = ltb-true v.world.epoch epoch h in
          later_view logs members part b n v epoch index applied rows ends none order all each reports_sent later inside (gathered_at b inside v later)
          (sound-start epoch index (all_reported rows order) applied (alone b v later))
      at b inside v false h =
          let other : epoch ≡ v.world.epoch → ⊥ = λ same. taken v.slot none v.slot (ap n.slots same ∙ v.reigns) in
          stale_view logs members part b n v epoch (slot.slot_start epoch index (all_reported rows order) applied) []
          (below epoch v.world.epoch (ltb-false v.world.epoch epoch h) other) refl (λ p fact. absurd fact)

  -- a client returns, with empty segments behind what it found
  pub returned_view : (b : BlockId) → is_in_slot part b ≡ true → Premise logs (BooksWhole members n.books)
      → (c inc : ℕ) (epochs : List ℕ) (chain : List SegName) (count : ℕ) → 0 < c → c < members → n.up c ≡ false → (n.tokens c).inc < inc
      → epoch_of (n.tokens c).epochs part ≤ epoch_of epochs part → Premise logs (adopts n.acts c chain ≡ true → n.books.flying c ≡ true)
      → View logs members part b
      (acted (record n {
        tokens = put n.tokens c (fresh_tokens inc epochs);
        up = put n.up c true;
        books = with_empty count (reopened n.books c (adopts n.acts c chain)) c;
      }) (act.Back c chain ∷ []))
  returned_view b inside whole c inc epochs chain count pos less up later rises flies =
      let t = adopts n.acts c chain in
      let k = reopened n.books c t in
      let m : Net = acted (record n { tokens = put n.tokens c (fresh_tokens inc epochs); up = put n.up c true; books = k }) (act.Back c chain ∷ []) in
      empties_view logs members part b m c count
      (return_view logs members part b n (i.views b inside) c inc epochs chain pos less up later rises inside flies) pos less (put_here n.up c true)
      (subst IsSound (sym (put_here n.tokens c (fresh_tokens inc epochs))) (tokens_start-sound inc epochs))
      (owed logs (k.flying c ≡ false) (λ _. landed t))
      (owed_on logs (BooksWhole members n.books) (BooksWhole members k) (whole_reopened members n.books c t) whole)
    where
      landed : (t : Bool) → (reopened n.books c t).flying c ≡ false
      landed true = put_here n.books.flying c false
      landed false = put_here n.books.flying c false
