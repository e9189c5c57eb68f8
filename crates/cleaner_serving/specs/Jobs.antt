-- What a cleaner that serves does for its job.
use Rattle.std.specs.Prelude.{ℕ, if◌then◌else◌, List, [], ◌∷◌, ◌++◌, Option, Some, None}
use Rattle.std.specs.List.{flat_map}
use Rattle.cleaner_job.specs.declared.job.Job.{Job}
use Rattle.cleaner_job.specs.Hands.{Taken, Heard, unheard, take_in_hand, fetches}
use Rattle.cleaner_job.specs.Jobs.{lists_of, usages_of, ask_of, drawn_unless, is_out, hand_of, JobChecking, job_check, check_of, is_whole, act_dropped, dropped, note_read, job_hear, job_confirmed}
use Rattle.client_log.specs.declared.input.In.{In as LogIn}
use Rattle.client_log.specs.declared.input.In.TheVariants as log_in
use Rattle.client_log.specs.Transition as log
use Rattle.group_map.specs.GroupMapState.{GroupMapState}
use Rattle.log_owner.specs.Opening.{stored}
use Rattle.log_owner.specs.Promised.{manager_of}
use Rattle.log_owner.specs.Sending.{hello}
use Rattle.node_base.specs.Asking.{next_ask, draw}
use Rattle.node_base.specs.Beginning.{items_answer, answers_unanswered}
use Rattle.node_base.specs.declared.effects.Effect.{Effect}
use Rattle.node_base.specs.declared.effects.Effect.TheVariants.{Send}
use Rattle.node_base.specs.declared.questions.Questions.{Questions}
use Rattle.segment_format.specs.declared.segment.Segment.{Segment}
use Rattle.segment_reading.specs.declared.reading.Next.{Next}
use Rattle.segment_reading.specs.declared.reading.Next.TheVariants as next
use Rattle.stripe_cleaner.specs.declared.input.In.{In}
use Rattle.stripe_cleaner.specs.declared.input.In.TheVariants as input
use Rattle.stripe_cleaner.specs.declared.output.Out.{Out}
use Rattle.stripe_cleaner.specs.declared.output.Out.TheVariants as out
use Rattle.stripe_cleaner.specs.Transition.{transition}
use Rattle.stripe_code.specs.declared.round.Told.{Told}
use Rattle.stripe_code.specs.declared.round.Told.TheVariants as told
use Rattle.version_model.specs.declared.answer.Answer.TheVariants.{Count}
use Rattle.wire_msg.specs.declared.body.Body.TheVariants as body
use Rattle.wire_msg.specs.declared.cleaning.Dead.{Dead}
use Rattle.wire_msg.specs.declared.cleaning.Live.{Live}
use Rattle.wire_msg.specs.declared.cleaning.Usage.{Usage}
use Rattle.wire_msg.specs.declared.storage.Deleted.{Deleted}
use Rattle.wire_msg.specs.declared.storage.Found.{Found}
use Rattle.wire_msg.specs.declared.storage.Listed.{Listed}
use Rattle.wire_msg.specs.declared.storage.Missing.{Missing}
use Rattle.xfs_base.specs.Blocks.{slot_of}
use Rattle.xfs_base.specs.declared.block.BlockId.{BlockId}
use Rattle.xfs_base.specs.declared.entry.Entry.{Entry}
use Rattle.xfs_base.specs.declared.entry.Place.{Place}
use Rattle.xfs_base.specs.declared.node.NodeId.TheVariants.{Server}
use Rattle.xfs_base.specs.declared.segment.SegName.{SegName}
use Rattle.xfs_base.specs.declared.segment.SegRef.{SegRef}
use Rattle.xfs_base.specs.Steps.{Stepped, still, saying, steps}
use Rattle.cleaner_serving.specs.declared.emptying.Emptying.{Emptying}

-- the cleaner after an event, and what it does
abbrev pub Done : Type 0
Done = Stepped Emptying Effect

abbrev pub with_questions : Emptying → Questions → Emptying
with_questions e q = record e { lasting = record e.lasting { questions = q } }

-- ---- what the job asks

-- the job goes on, and the questions of the node
abbrev pub with_job : Emptying → Questions → Job → Emptying
with_job e q job = record e { lasting = record e.lasting { questions = q }; job = Some job }

-- the maps are asked for
abbrev pub ask_maps : Emptying → Option Job → Done
ask_maps e None = still e
ask_maps e (Some job) =
    let ask = ask_of job.hello e.lasting.questions in
    record { state = with_job e (drawn_unless job.hello e.lasting.questions) (record job { hello = Some ask }); outs = hello e.lasting.inc ask ∷ [] }

-- a server is asked for its list
abbrev pub ask_list : Emptying → Option Job → ℕ → Done
ask_list e None server = still e
ask_list e (Some job) server =
    let ask = ask_of job.lists e.lasting.questions in
    record {
      state = with_job e (drawn_unless job.lists e.lasting.questions) (record job { lists = Some ask });
      outs = Send (Server server) (body.List (record { ask = ask })) ∷ [];
    }

-- the manager of a slot is asked for its counts
abbrev pub ask_usage : Emptying → Option Job → ℕ → Done
ask_usage e None slot = still e
ask_usage e (Some job) slot =
    let ask = ask_of job.usages e.lasting.questions in
    record {
      state = with_job e (drawn_unless job.usages e.lasting.questions) (record job { usages = Some ask });
      outs = Send (manager_of e.promised.managers slot) (body.UsageAsk (record { slot = slot; ask = ask })) ∷ [];
    }

-- what a check leaves of the cleaner, and its question, where a segment is in hand
pub record Checked : Type 0 where
  pub state : Emptying
  pub ask : Option ℕ

abbrev pub checked_with : Emptying → JobChecking → Checked
checked_with e c = record { state = with_job e c.questions c.job; ask = c.ask }

abbrev pub checked_in : Emptying → Option Job → BlockId → Checked
checked_in e None block = record { state = e; ask = None }
checked_in e (Some job) block = checked_with e (job_check job e.lasting.questions block)

unfoldable pub emptying_check : Emptying → BlockId → Checked
emptying_check e block = checked_in e e.job block

abbrev pub check_sent : Emptying → BlockId → Place → Option ℕ → Done
check_sent e block place None = still e
check_sent e block place (Some ask) =
    record {
      state = e;
      outs = Send (manager_of e.promised.managers (slot_of block.ino.0)) (body.Check (record { block = block; place = place; ask = ask })) ∷ [];
    }

-- the manager of a block is asked whether it lies at a place of the segment in hand
unfoldable pub ask_check : Emptying → BlockId → Place → Done
ask_check e block place = (let c = emptying_check e block in check_sent c.state block place c.ask)

abbrev pub in_hand : Emptying → Job → Taken → Emptying
in_hand e job taken = with_job e taken.questions (record job { hand = taken.hand })

abbrev pub holds_in : Emptying → Option Job → SegRef → Emptying
holds_in e None seg = e
holds_in e (Some job) seg = in_hand e job (take_in_hand e.maps.groups e.lasting.questions job.hand seg)

-- a segment is the one in hand
unfoldable pub emptying_hold : Emptying → SegRef → Emptying
emptying_hold e seg = holds_in e e.job seg

-- a segment is read, and is then the one in hand
unfoldable pub emptying_read : Emptying → SegRef → Done
emptying_read e seg = (let h = emptying_hold e seg in record { state = h; outs = fetches (hand_of h.job) })

-- ---- what it has the node do

-- the log takes an input, and what it writes is sent
unfoldable pub emptying_put : Emptying → LogIn → Done
emptying_put e i = (let r = log.transition e.log i in record { state = record e { log = r.state }; outs = flat_map stored r.outs })

unfoldable pub put_block : Emptying → BlockId × Entry × Option (List ℕ) → Done
put_block e one = emptying_put e (log_in.Put one.0 one.1 one.2)

-- live blocks are written to the cleaner's own log
unfoldable pub move_all : Emptying → List (BlockId × Entry × Option (List ℕ)) → Done
move_all e blocks = (let d = steps put_block e blocks in saying d.outs (emptying_put d.state log_in.Seal))

-- a server is to delete the segment in hand
abbrev pub emptying_delete : Emptying → Option Job → ℕ → SegName → Done
emptying_delete e None server name = still e
emptying_delete e (Some job) server name =
    record {
      state = record e { job = Some (record job { hand = dropped job.hand }) };
      outs = act_dropped (is_whole job.hand) name ++ Send (Server server) (body.Delete (record { name = name })) ∷ [];
    }

-- the job is over, and its item is answered
abbrev pub emptying_finish : Emptying → ℕ → Done
emptying_finish e count =
    record {
      state = record e { lasting = record e.lasting { items = items_answer e.lasting.items }; job = None };
      outs = answers_unanswered e.lasting.items.unanswered (Count count);
    }

unfoldable pub says : Emptying → Out → Done
says e out.Hello = ask_maps e e.job
says e (out.List server) = ask_list e e.job server
says e (out.UsageAsk slot) = ask_usage e e.job slot
says e (out.Fetch seg) = emptying_read e seg
says e (out.Check block place) = ask_check e block place
says e (out.Move blocks) = move_all e blocks
says e (out.Delete server name) = emptying_delete e e.job server name
says e (out.Finished count) = emptying_finish e count

abbrev pub takes_in : Emptying → Option Job → In → Stepped Emptying Out
takes_in e None given = still e
takes_in e (Some job) given =
    (let r = transition job.cleaning given in record { state = record e { job = Some (record job { cleaning = r.state }) }; outs = r.outs })

-- the job that is under way takes an input
unfoldable pub emptying_take : Emptying → In → Stepped Emptying Out
emptying_take e given = takes_in e e.job given

-- the job that is under way takes an input, and what it says is done
unfoldable pub emptying_clean : Emptying → In → Done
emptying_clean e given = (let t = emptying_take e given in steps says t.state t.outs)

-- ---- what comes for it

-- Listed: a server says what it holds.
unfoldable pub on_listed : Emptying → Option ℕ → Listed → Done
on_listed e None listed = still e
on_listed e (Some server) listed = if is_out (lists_of e.job) listed.ask then emptying_clean e (input.Listed server listed.held) else still e

-- Usage: a manager says how many live blocks of a slot each segment has.
unfoldable pub on_usage : Emptying → Usage → Done
on_usage e usage = if is_out (usages_of e.job) usage.ask then emptying_clean e (input.Usage usage.slot usage.epoch usage.counts) else still e

-- Live, Dead: a block lies where it was asked for, or doesn't.
unfoldable pub on_live : Emptying → Live → Done
on_live e live = if is_out (check_of (hand_of e.job) live.block) live.ask then emptying_clean e (input.Live live.block live.epoch live.entry) else still e

unfoldable pub on_dead : Emptying → Dead → Done
on_dead e dead = if is_out (check_of (hand_of e.job) dead.block) dead.ask then emptying_clean e (input.Dead dead.block dead.epoch) else still e

-- Deleted: a server has deleted a segment.
unfoldable pub on_deleted : Emptying → Option ℕ → Deleted → Done
on_deleted e None deleted = still e
on_deleted e (Some server) deleted = emptying_clean e (input.Deleted server deleted.name)

-- ---- the reading of the segment in hand

-- the segment is read, or lost
unfoldable pub end_reading : Emptying → Option Segment → Done
end_reading e read = emptying_clean (record e { job = note_read e.job }) (input.Read read)

abbrev pub emptying_with : Emptying → Heard Job → Heard Emptying
emptying_with e h = record { state = record e { job = Some h.state }; next = h.next }

abbrev pub told_in : Emptying → Option Job → Option GroupMapState → ℕ → ℕ → Told → Heard Emptying
told_in e None groups ask server t = unheard e
told_in e (Some job) None ask server t = unheard e
told_in e (Some job) (Some groups) ask server t = emptying_with e (job_hear job groups ask server t)

unfoldable pub emptying_hear : Emptying → ℕ → ℕ → Told → Heard Emptying
emptying_hear e ask server t = told_in e e.job e.maps.groups ask server t

abbrev pub confirmed_in : Emptying → Option Job → ℕ → Heard Emptying
confirmed_in e None ask = unheard e
confirmed_in e (Some job) ask = emptying_with e (job_confirmed job ask)

unfoldable pub confirmed : Emptying → ℕ → Heard Emptying
confirmed e ask = confirmed_in e e.job ask

abbrev pub after_confirmed : Emptying → Next → Done
after_confirmed e next.Ask = record { state = e; outs = fetches (hand_of e.job) }
after_confirmed e next.Lost = end_reading e None
after_confirmed e next.Wait = still e
after_confirmed e next.Again = still e
after_confirmed e (next.Read segment) = still e

-- a round ended without the segment; the cleaner asks nothing between rounds: a further round begins, or the segment is lost
unfoldable pub emptying_read_again : Emptying → Done
emptying_read_again e =
    let h = confirmed (with_questions e (draw e.lasting.questions)) (next_ask e.lasting.questions) in
    after_confirmed h.state h.next

abbrev pub after_told : Emptying → Next → Done
after_told e next.Wait = still e
after_told e next.Ask = still e
after_told e next.Again = emptying_read_again e
after_told e (next.Read segment) = end_reading e (Some segment)
after_told e next.Lost = end_reading e None

-- what a server tells of its fragment of the segment in hand
unfoldable pub on_told : Emptying → Option ℕ → ℕ → Told → Done
on_told e None ask t = still e
on_told e (Some server) ask t = (let h = emptying_hear e ask server t in after_told h.state h.next)

-- Fragment, Missing: in answer to a fetch.
abbrev pub on_found : Emptying → Option ℕ → Found → Done
on_found e server found = on_told e server found.ask (told.Held found.fragment)

abbrev pub on_missing : Emptying → Option ℕ → Missing → Done
on_missing e server missing = on_told e server missing.ask (told.Missing missing.generation)
