-- What each packet, and time, makes of a manager that serves, in the small world.
use Rattle.std.proofs.Common.{◌≡◌, ℕ, ◌==◌, ◌<◌, inl, cond, not, [], ◌∷◌, Option, Some, None, is_some, refl, sym, ◌∙◌, arith}
use Rattle.std.specs.Prelude.{◌||◌, nat_lt}
use Rattle.xfs_base.proofs.Booleans.{by_test}
use Rattle.xfs_base.specs.Steps.{Stepped, still}
use Rattle.xfs_base.specs.Limits.{slot_count}
use Rattle.checkpoint.specs.declared.output.Out.{Out}
use Rattle.checkpoint.specs.declared.output.Out.TheVariants as out
use Rattle.checkpoint.specs.Transition as writer
use Rattle.checkpoint.specs.WriterState.{WriterState}
use Rattle.index_tie.specs.Net.{Net}
use Rattle.manager_slots.specs.Numbers.{slot_after}
use Rattle.manager_slots.specs.SlotTable as table
use Rattle.manager_serving.specs.Checkpoints as node
use Rattle.manager_serving.specs.Checkpoints.{Done, gives}
use Rattle.manager_serving.specs.declared.checkpointing.Checkpointing.{Checkpointing}
use Rattle.manager_serving.specs.declared.serving.Serving.{Serving}
use Rattle.node_base.specs.Beginning.{answers_unanswered}
use Rattle.node_base.specs.declared.effects.Effect.TheVariants.{Answer as Answers}
use Rattle.headline.specs.Managers.{phase_at}
use Rattle.version_model.specs.declared.answer.Answer.{Answer}
use Rattle.version_model.specs.declared.answer.Answer.TheVariants as answer
use Rattle.wire_msg.specs.declared.registry.CkptAck.{CkptAck}
use Rattle.wire_msg.specs.declared.registry.CkptDone.{CkptDone}
use Rattle.node_slots.specs.node_index_tie.ManagerEvents.{ServingAgrees}
use Rattle.node_slots.specs.node_index_tie.Pages.{desk_of, DoneIn, DoneSeen}
use Rattle.node_slots.specs.node_index_tie.Sight.{Questions}
use Rattle.headline.specs.Filed.{Texts}
use Rattle.node_slots.proofs.node_index_tie.Moves.{Brought, AllDone, some_none, sees_quiet}
use Rattle.node_slots.proofs.node_index_tie.Planning.{begins_serves}
use Rattle.node_slots.proofs.node_index_tie.Turning.{Turn, phase_turn}
use Rattle.node_slots.proofs.node_index_tie.Writing.{Serves, serves_same}

module _ (part : ℕ) (texts : Texts) (questions : Questions) (exists : part < slot_count) (brought : Brought) where
  abbrev pub Of : Net → Serving → Done → Type 0
  Of n s d = Serves part texts questions exists brought n s d

  pub still_of : (n : Net) (s : Serving) → ServingAgrees part texts n s → Of n s (still s)
  still_of n s agrees = serves_same part texts questions exists brought n s [] agrees tt

  -- ---- one slot after the other

  answers_done : (n : Net) (o : Option ℕ) (a : Answer) → AllDone part texts questions n (answers_unanswered o a)
  answers_done n None a = tt
  answers_done n (Some number) a = (tt, tt)

  abbrev next_job : Serving → Checkpointing → ℕ → Serving
  next_job s job k = record s { checkpoint = Some (record job { next = slot_after k }) }

  module _ (n : Net) (s : Serving) (open_item : s.lasting.items.unanswered ≡ None → ⊥) (no_work : s.writer.work ≡ None) (no_asked : s.writer.asked ≡ None)
      (agrees : ServingAgrees part texts n s) where
    from_serves : (job : Checkpointing) (o : Option ℕ) → DoneIn part n job.done → Of n s (node.next_from s job o)
    from_serves job None done =
        sees_quiet part texts questions brought n (phase_at s.slots part) (phase_at s.slots part)
        (answers_unanswered s.lasting.items.unanswered (answer.Count job.count)) (λ m. ServingAgrees part texts m (node.no_more s job).state) (λ e h. inl h)
        (λ _ e h. h)
        (omega arith)
        (answers_done n s.lasting.items.unanswered (answer.Count job.count))
        (record { eight = agrees.eight; given = agrees.given; here = agrees.here; writer = agrees.writer; closed = λ _. (no_work, no_asked); done = tt })
    from_serves job (Some k) done =
        begins_serves part texts questions exists brought n (next_job s job k) open_item no_work no_asked
        (record { eight = agrees.eight; given = agrees.given; here = agrees.here; writer = agrees.writer; closed = agrees.closed; done = done }) k

    job_serves : (o : Option Checkpointing) → DoneSeen part n o → Of n s (node.next_for s o)
    job_serves None done = still_of n s agrees
    job_serves (Some job) done = from_serves job (table.next_active s.slots job.next) done

    next_serves : Of n s (node.next_slot s)
    unfolding node.next_slot
    next_serves = job_serves s.checkpoint agrees.done

  -- a checkpoint of all slots that are managed begins
  pub checkpoint_serves : (n : Net) (s : Serving) (number : ℕ) → ServingAgrees part texts n s → Of n s (node.on_checkpoint s number)
  unfolding node.on_checkpoint
  checkpoint_serves n s number agrees =
      by_item s.lasting.items.unanswered refl
    where
      by_item : (o : Option ℕ) → s.lasting.items.unanswered ≡ o
          → Of n s (cond (is_some o) (gives s (Answers number answer.Busy ∷ [])) (node.next_slot (node.waits s number)))
      by_item None fact =
          let idle = agrees.closed fact in
          next_serves n (node.waits s number) (λ none. absurd (some_none number none)) idle.0 idle.1
          (record {
            eight = agrees.eight;
            given = agrees.given;
            here = agrees.here;
            writer = agrees.writer;
            closed = λ none. absurd (some_none number none);
            done = tt;
          })
      by_item (Some x) fact = serves_same part texts questions exists brought n s (Answers number answer.Busy ∷ []) agrees (tt, tt)

  -- ---- the registry answers a checkpoint

  counted_done : (n : Net) (o : Option Checkpointing) (x : Out) → DoneSeen part n o → DoneSeen part n (node.checkpointing_count o x)
  unfolding node.checkpointing_count
  counted_done n None (out.Parts items) done = done
  counted_done n None (out.Done slot epoch parts horizon) done = done
  counted_done n None out.Kept done = tt
  counted_done n None (out.Stale epoch) done = tt
  counted_done n (Some job) (out.Parts items) done = done
  counted_done n (Some job) (out.Done slot epoch parts horizon) done = done
  counted_done n (Some job) out.Kept done = tt
  counted_done n (Some job) (out.Stale epoch) done = tt

  module _ (n : Net) (s : Serving) (agrees : ServingAgrees part texts n s) (own : ℕ) (was : s.writer.asked ≡ Some own) where
    abbrev answered_writer : WriterState
    answered_writer = record s.writer { asked = None }

    abbrev answered_serving : Out → Serving
    answered_serving x = record s { writer = answered_writer; checkpoint = node.checkpointing_count s.checkpoint x }

    no_work : s.writer.work ≡ None
    no_work = agrees.writer.answered own was

    turned : Turn part texts n (desk_of s agrees.given) (record { log = s.log; given = agrees.given; writer = answered_writer })
    turned = record {
      forth = λ w fact. absurd (some_none w (sym fact ∙ no_work));
      back = λ w fact. record { before = w; was = fact; slot = refl; epoch = refl };
      none = λ fact. fact;
      number = refl;
    }

    is_open : s.lasting.items.unanswered ≡ None → ⊥
    is_open none = some_none own (sym was ∙ (agrees.closed none).1)

    answered_agrees : (x : Out) → ServingAgrees part texts n (answered_serving x)
    answered_agrees x = record {
      eight = agrees.eight;
      given = agrees.given;
      here = phase_turn part texts n (desk_of s agrees.given) (record { log = s.log; given = agrees.given; writer = answered_writer }) turned
          (phase_at s.slots part) agrees.here;
      writer = record {
        same_log = agrees.writer.same_log;
        named = agrees.writer.named;
        nothing_waits = agrees.writer.nothing_waits;
        idle = agrees.writer.idle;
        answered = λ e fact. no_work;
        work = λ w fact of. absurd (some_none w (sym fact ∙ no_work));
      };
      closed = λ none. absurd (is_open none);
      done = counted_done n s.checkpoint x agrees.done;
    }

    answered_next : (x : Out) → Of n s (node.next_slot (answered_serving x))
    answered_next x = next_serves n (answered_serving x) is_open no_work refl (answered_agrees x)

  pub ack_serves : (n : Net) (s : Serving) (ack : CkptAck) → ServingAgrees part texts n s → Of n s (node.on_ckpt_ack s ack)
  unfolding node.on_ckpt_ack
  ack_serves n s ack agrees =
      by_test (Of n s) (node.awaits s.checkpoint ack.ask) (node.answered_by s (writer.acked s.writer s.writer.asked ack.epoch s.dones)) (still s)
      (λ _. by_asked s.writer.asked refl) (λ _. still_of n s agrees)
    where
      by_asked : (o : Option ℕ) → s.writer.asked ≡ o → Of n s (node.answered_by s (writer.acked s.writer o ack.epoch s.dones))
      by_asked None fact = still_of n s agrees
      by_asked (Some own) fact =
          by_test (λ (r : Stepped WriterState Out). Of n s (node.answered_by s r)) (not (s.dones == s.writer.number) || nat_lt ack.epoch own) (still s.writer)
          (record { state = record s.writer { asked = None }; outs = writer.answer own ack.epoch ∷ [] }) (λ _. still_of n s agrees)
          (λ _. answered_next n s agrees own fact (writer.answer own ack.epoch))

  -- ---- time, for what awaits the registry's answer

  pub tells_serves : (n : Net) (s : Serving) → ServingAgrees part texts n s → Of n s (node.serving_tell_again s)
  unfolding node.serving_tell_again
  tells_serves n s agrees = serves_same part texts questions exists brought n s (node.checkpointing_tell_again s.checkpoint) agrees (by s.checkpoint agrees.done)
    where
      by_done : (o : Option CkptDone) → DoneIn part n o → AllDone part texts questions n (node.send_done o)
      by_done None seen = tt
      by_done (Some done) seen = (seen, tt)

      by : (o : Option Checkpointing) → DoneSeen part n o → AllDone part texts questions n (node.checkpointing_tell_again o)
      by None seen = tt
      by (Some job) seen = by_done job.done seen
