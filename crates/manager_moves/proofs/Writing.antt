-- What a manager does to its log, and to write its checkpoints, and for the maps, is made of moves.
use Rattle.std.proofs.Common.{⊎_elim, ℕ, ◌==◌, List, [], ◌∷◌, length, is_some, Option, Some, None, refl, sym, subst}
use Rattle.std.specs.List.{AllByRecursion, slice_get}
use Rattle.std.specs.Prelude.{◌≡◌, flat_map, fold}
use Rattle.checkpoint.specs.declared.input.In.{In as WriterIn}
use Rattle.checkpoint.specs.declared.input.In.TheVariants as writer_in
use Rattle.checkpoint.specs.declared.output.Out.{Out as WriterOut}
use Rattle.checkpoint.specs.declared.output.Out.TheVariants as writer_out
use Rattle.checkpoint.specs.Transition as writer
use Rattle.checkpoint.specs.WriterState.{WriterState}
use Rattle.client_log.specs.declared.input.In.{In as LogIn}
use Rattle.client_log.specs.declared.input.In.TheVariants as log_in
use Rattle.client_log.specs.declared.output.Out.{Out as LogOut}
use Rattle.client_log.specs.declared.output.Out.TheVariants as log_out
use Rattle.client_log.specs.Transition as log
use Rattle.client_log.specs.Transition.{end_of}
use Rattle.group_map.specs.GroupMapState.{GroupMapState}
use Rattle.manager_serving.specs.Checkpoints.{Done, answered_by, asked, awaits, begin_slot, checkpointing_count, checkpointing_store, checkpointing_tell_again, give_parts, gives, log_says, log_says_each, next_for, next_from, next_slot, no_more, on_checkpoint, on_ckpt_ack, on_settled, register, send_done, serving_tell_again, serving_write, waits, writer_says, writer_says_each, writer_takes, writes_slot}
use Rattle.manager_serving.specs.declared.checkpointing.Checkpointing.{Checkpointing}
use Rattle.manager_serving.specs.declared.serving.Serving.{Serving}
use Rattle.manager_serving.specs.Serving.{hear_slots, hearer_of, hears_with, on_fitting_news, on_newer, on_news}
use Rattle.manager_slots.specs.declared.slot_phase.SlotPhase.{SlotPhase}
use Rattle.manager_slots.specs.declared.slot_phase.SlotPhase.TheVariants as phase
use Rattle.manager_slots.specs.Numbers.{slot_after}
use Rattle.manager_slots.specs.SlotTable.{begin_at, changed_in, next_active, phase_clean, phase_name, slot_table_clean, slot_table_name}
use Rattle.manager_slots.specs.Takeovers.{asker}
use Rattle.node_base.specs.Asking.{next_ask}
use Rattle.node_base.specs.Beginning.{answers_unanswered}
use Rattle.node_base.specs.declared.effects.Effect.{Effect}
use Rattle.node_base.specs.declared.effects.Effect.TheVariants.{Answer as Answers}
use Rattle.node_base.specs.Maps.{fits, is_older, maps_take}
use Rattle.version_model.specs.declared.answer.Answer.{Answer as Answered}
use Rattle.version_model.specs.declared.answer.Answer.TheVariants as answer
use Rattle.wire_msg.specs.declared.packet.Do.{Do}
use Rattle.wire_msg.specs.declared.packet.Packet.{Packet}
use Rattle.wire_msg.specs.declared.registry.CkptAck.{CkptAck}
use Rattle.wire_msg.specs.declared.registry.CkptDone.{CkptDone}
use Rattle.wire_msg.specs.declared.registry.News.{News}
use Rattle.xfs_base.proofs.Booleans.{by_test}
use Rattle.xfs_base.specs.declared.segment.SegRef.{SegRef}
use Rattle.xfs_base.specs.declared.segment.End.{End}
use Rattle.xfs_base.specs.Steps.{Stepped, steps, still}
use Rattle.node_moves.specs.server_moves.Moves.{Brought}
use Rattle.manager_moves.proofs.Slots.{Goes, hears_all, regroups_go}
use Rattle.manager_moves.specs.Moves.{Moves, Said, SlotMove, Written}
use Rattle.node_moves.proofs.client_walk.LogTurns as turned
use Rattle.segment_format.specs.Rows.{rows_of}
use Rattle.manager_moves.specs.Moves.Moves.{InSlot, LogSettles, LogTakes, Notes, Rests, Says, TakesMaps, Then, WriterTakes}
use Rattle.manager_moves.specs.Moves.Said.{AnswersItem, Registers, Stores}
use Rattle.manager_moves.specs.Moves.SlotMove.{Cleans, Names, Stays}
use Rattle.manager_moves.specs.Moves.Written.{GroupsCame, PartsMade}

pub unanswered_said : (item : Option ℕ) (a : Answered) → AllByRecursion Said (answers_unanswered item a)
unanswered_said None a = tt
unanswered_said (Some number) a = (AnswersItem number a, tt)

fragments_said : (outs : List LogOut) → AllByRecursion Said (flat_map checkpointing_store outs)
unfolding checkpointing_store
fragments_said [] = tt
fragments_said (log_out.Send fragment member ∷ outs) = (Stores fragment member, fragments_said outs)
fragments_said (log_out.Settled end rows ∷ outs) = fragments_said outs

module _ (what : Do) where
  -- ---- one after another

  steps_go : {X : Type 0} (step : Serving → X → Done) → ((s : Serving) (x : X) → Goes what s (step s x)) → (s : Serving) (xs : List X)
      → Goes what s (steps step s xs)
  steps_go step each s [] = Rests s
  steps_go step each s (x ∷ xs) = Then (each s x) (steps_go step each (step s x).state xs)

  all_said : (s : Serving) (outs : List Effect) → AllByRecursion Said outs → Moves what s s outs
  all_said s [] all = Rests s
  all_said s (e ∷ outs) all = Then (Says s e all.0) (all_said s outs all.1)

  -- ---- a slot of a checkpoint

  abbrev Changed : Serving → ℕ → (SlotPhase → SlotPhase) → Type 0
  Changed s k change = Moves what s (record s { slots = changed_in s.slots k change (slice_get s.slots k) }) []

  changed : (s : Serving) (k : ℕ) (change : SlotPhase → SlotPhase)
      → ((p : SlotPhase) → SlotMove what s.maps.groups k (asker p s.lasting.questions) (asker (change p) s.lasting.questions) []) → Changed s k change
  changed s k change each = by (slice_get s.slots k) refl
    where
      by : (o : Option SlotPhase) → slice_get s.slots k ≡ o → Moves what s (record s { slots = changed_in s.slots k change o }) []
      by None at = Rests s
      by (Some p) at = InSlot s k p (asker (change p) s.lasting.questions) [] at (each p)

  named : (s : Serving) (k epoch : ℕ) (parts : List SegRef) → Changed s k (phase_name epoch parts)
  unfolding phase_name
  named s k epoch parts = changed s k (phase_name epoch parts) by
    where
      by : (p : SlotPhase) → SlotMove what s.maps.groups k (asker p s.lasting.questions) (asker (phase_name epoch parts p) s.lasting.questions) []
      by (phase.Active a) =
          by_test (λ q. SlotMove what s.maps.groups k (asker (phase.Active a) s.lasting.questions) (asker q s.lasting.questions) []) (a.slot.epoch == epoch)
          (phase.Active (record a { parts = parts })) (phase.Active a) (λ _. Names _ a parts refl) (λ _. Stays _)
      by (phase.Away e) = Stays _
      by (phase.Taking t) = Stays _
      by (phase.Broken e seg) = Stays _

  cleaned : (s : Serving) (k : ℕ) → Changed s k phase_clean
  unfolding phase_clean
  cleaned s k = changed s k phase_clean by
    where
      by : (p : SlotPhase) → SlotMove what s.maps.groups k (asker p s.lasting.questions) (asker (phase_clean p) s.lasting.questions) []
      by (phase.Active a) = Cleans _ a refl
      by (phase.Away e) = Stays _
      by (phase.Taking t) = Stays _
      by (phase.Broken e seg) = Stays _

  -- ---- the log and the writer

  says_go : (s : Serving) (o : WriterOut) → Goes what s (writer_says s o)
  unfolding writer_says give_parts register slot_table_name
  says_go s (writer_out.Parts items) =
      Then (LogTakes s (log_in.Parts items) (PartsMade items) (turned.parts_rest s.log items).same)
      (all_said _ (flat_map checkpointing_store (log.transition s.log (log_in.Parts items)).outs)
      (fragments_said (log.transition s.log (log_in.Parts items)).outs))
  says_go s (writer_out.Done slot epoch parts horizon) =
      let done : CkptDone = record { slot = slot; epoch = epoch; ask = next_ask s.lasting.questions; parts = parts; horizon = horizon } in
      let t : Serving = record s { slots = changed_in s.slots slot (phase_name epoch parts) (slice_get s.slots slot) } in
      let told : Serving = (register (asked s) done).state in
      Then (named s slot epoch parts) (Then (Notes t told refl refl refl refl refl refl) (Says told _ (Registers done)))
  says_go s writer_out.Kept = Rests s
  says_go s (writer_out.Stale epoch) = Rests s

  writer_goes : (s : Serving) (given : WriterIn) → Goes what s (writer_takes s given)
  unfolding writer_takes writer_says_each
  writer_goes s given = Then (WriterTakes s given) (steps_go writer_says says_go _ (writer.transition s.writer given).outs)

  sends_go : (s : Serving) (outs : List LogOut) → AllByRecursion turned.IsSend outs → Goes what s (steps log_says s outs)
  unfolding log_says
  sends_go s [] all = Rests s
  sends_go s (log_out.Send fragment member ∷ outs) all = Then (Says s _ (Stores fragment member)) (sends_go s outs all.1)
  sends_go s (log_out.Settled end rows ∷ outs) all = absurd all.0

  -- what was in flight is settled, and filed
  settles_go : (s : Serving) (given : LogIn) → Written what given → (q : turned.Lands s.log.flight (log.transition s.log given))
      → Goes what s (steps log_says (record s { log = (log.transition s.log given).state })
      (log_out.Settled (end_of q.flight.segment) (rows_of q.flight.segment) ∷ q.rest))
  unfolding log_says on_settled
  settles_go s given because q =
      let t : Serving = record s { log = (log.transition s.log given).state } in
      let end : End = end_of q.flight.segment in
      Then (Then (LogSettles s given because q.flight q.flew q.ends) (writer_goes t (writer_in.Settled end)))
      (sends_go (writer_takes t (writer_in.Settled end)).state q.rest q.sends)

  pub log_goes : (s : Serving) (given : LogIn) → Written what given → Goes what s (serving_write s given)
  unfolding serving_write log_says_each
  log_goes s given because =
      let r : log.Done = log.transition s.log given in
      let t : Serving = record s { log = r.state } in
      ⊎_elim (λ (q : turned.Rests s.log.end r). Then (LogTakes s given because q.same) (sends_go t r.outs q.sends))
      (λ (q : turned.Lands s.log.flight r). subst (λ (outs : List LogOut). Goes what s (steps log_says t outs)) (sym q.outs) (settles_go s given because q))
      (turned.log_turns s.log given)

  -- ---- checkpoints

  next_goes : (s : Serving) → Goes what s (next_slot s)
  unfolding next_slot begin_slot slot_table_clean
  next_goes s = by s.checkpoint
    where
      written : (t : Serving) (o : Option WriterIn) → Goes what t (writes_slot t o)
      written t None = Rests t
      written t (Some given) = writer_goes t given

      by_slot : (job : Checkpointing) (o : Option ℕ) → Goes what s (next_from s job o)
      by_slot job None =
          Then (Notes s (no_more s job).state refl refl refl refl refl refl)
          (all_said (no_more s job).state _ (unanswered_said s.lasting.items.unanswered (answer.Count job.count)))
      by_slot job (Some slot) =
          let t : Serving = record s { checkpoint = Some (record job { next = slot_after slot }) } in
          Then (Notes s t refl refl refl refl refl refl)
          (Then (cleaned t slot) (written (record t { slots = slot_table_clean s.slots slot }) (begin_at s.slots slot)))

      by : (checkpoint : Option Checkpointing) → Goes what s (next_for s checkpoint)
      by None = Rests s
      by (Some job) = by_slot job (next_active s.slots job.next)

  pub checkpoint_goes : (s : Serving) (number : ℕ) → Goes what s (on_checkpoint s number)
  unfolding on_checkpoint
  checkpoint_goes s number =
      by_test (Goes what s) (is_some s.lasting.items.unanswered) (gives s (Answers number answer.Busy ∷ [])) (next_slot (waits s number))
      (λ _. Says s _ (AnswersItem number answer.Busy)) (λ _. Then (Notes s (waits s number) refl refl refl refl refl refl) (next_goes (waits s number)))

  pub ack_goes : (s : Serving) (ack : CkptAck) → Goes what s (on_ckpt_ack s ack)
  unfolding on_ckpt_ack
  ack_goes s ack =
      let given : WriterIn = writer_in.Ack ack.epoch s.dones in
      let r : Stepped WriterState WriterOut = writer.transition s.writer given in
      let t : Serving = record s { writer = r.state } in
      let u : Serving = record s { writer = r.state; checkpoint = fold checkpointing_count s.checkpoint r.outs } in
      by_test (Goes what s) (awaits s.checkpoint ack.ask) (answered_by s r) (still s)
      (λ _. by_test (Goes what s) (length r.outs == 0) (still t) (next_slot u) (λ _. WriterTakes s given)
      (λ _. Then (WriterTakes s given) (Then (Notes t u refl refl refl refl refl refl) (next_goes u)))) (λ _. Rests s)

  pub tells_again : (s : Serving) → Goes what s (serving_tell_again s)
  unfolding serving_tell_again
  tells_again s = by s.checkpoint
    where
      by_done : (o : Option CkptDone) → Moves what s s (send_done o)
      by_done None = Rests s
      by_done (Some done) = Says s _ (Registers done)

      by : (o : Option Checkpointing) → Moves what s s (checkpointing_tell_again o)
      by None = Rests s
      by (Some job) = by_done job.done

  -- ---- the maps

  module _ (packet : Packet) (news : News) (brought : Brought what packet news) where
    hears_go : (s : Serving) (clients : ℕ) → Goes what s (hear_slots s clients news.slots)
    unfolding hear_slots
    hears_go s clients = by s.maps.groups refl
      where
        by : (groups : Option GroupMapState) → s.maps.groups ≡ groups → Goes what s (hears_with s clients news.slots groups)
        by None same = Rests s
        by (Some groups) same = hears_all what packet news brought s (hearer_of s clients groups) same news.slots (λ n among. among)

    pub news_goes : (s : Serving) (clients : ℕ) → Goes what s (on_news s clients news)
    unfolding on_news on_newer
    news_goes s clients =
        let t : Serving = record s { maps = maps_take s.maps news } in
        by_test (Goes what s) (is_older s.maps news) (on_newer t clients news) (hear_slots s clients news.slots)
        (λ _. Then (TakesMaps s packet news brought)
        (Then (Then (regroups_go what packet news brought t) (hears_go _ clients)) (log_goes _ (log_in.Maps news.groups) (GroupsCame packet news brought))))
        (λ _. hears_go s clients)

    pub fitting_goes : (s : Serving) (clients : ℕ) → Goes what s (on_fitting_news s clients news)
    fitting_goes s clients =
        by_test (Goes what s) (fits s.maps news) (on_news s clients news) (still s) (λ _. news_goes s clients) (λ _. Rests s)
