-- A fragment comes to a client that reads a block from a log: while too few are in the reading waits; with the last that it needs the segment is read, the get
-- reads its block and answers; and what comes later meets no reading.
use Rattle.std.proofs.Common.{◌≡◌, ℕ, true, false, cond, List, [], ◌∷◌, Option, Some, None, refl, ap, ◌∙◌}
use Rattle.client_call.specs.Blocks.{value_of}
use Rattle.client_call.specs.Reads.{Heard, hear_reading, value_at}
use Rattle.client_node.specs.Phases.{client_step, on_deliver}
use Rattle.client_running.specs.Blocks.{blocks_get, blocks_make}
use Rattle.client_running.specs.Running.{run}
use Rattle.client_serving.specs.declared.serving.Serving.{Serving}
use Rattle.client_serving.specs.Follow.{serving_follow, hand}
use Rattle.client_serving.specs.Packets.{serving_take, told_at, told_by}
use Rattle.file_plan.specs.declared.block_call.BlockCall.TheVariants.{Get}
use Rattle.node_base.specs.Known.{knows_meta}
use Rattle.node_base.specs.Maps.{maps_start}
use Rattle.node_base.specs.Nodes.{has_node, peers_of}
use Rattle.node_base.specs.Shape.{is_meta}
use Rattle.segment_format.specs.declared.segment.Segment.{Segment}
use Rattle.segment_format.specs.ReadingItems.{answer_of}
use Rattle.segment_reading.specs.declared.target.Target.{Target}
use Rattle.segment_reading.specs.declared.reading.Next.TheVariants as next
use Rattle.segment_reading.specs.declared.reading.Stage.TheVariants.{Asking, Over}
use Rattle.segment_reading.specs.Reading.{ReadingState, Step, counts, reading_judge, reading_take, reading_reads, segment_found}
use Rattle.stripe_code.specs.declared.round.RoundState.{RoundState}
use Rattle.stripe_code.specs.declared.round.RoundState.TheVariants.{Read as ReadText, Waiting}
use Rattle.stripe_code.specs.declared.round.Told.TheVariants.{Held as HeldPiece}
use Rattle.stripe_code.specs.Round.{RoundSoFar, state_of, round_take}
use Rattle.token_client.proofs.Tables.{held_of-put_itself}
use Rattle.token_client.specs.declared.held.Fetch.{Fetch}
use Rattle.token_client.specs.declared.held.Held.{Held}
use Rattle.token_client.specs.declared.input.In.TheVariants.{Fetched, Need}
use Rattle.token_client.specs.declared.output.Out.TheVariants.{Ready}
use Rattle.token_client.specs.Held.{must_ask}
use Rattle.token_client.specs.State.{held_of, put_held}
use Rattle.token_client.specs.Transition.{on_fetched, on_need}
use Rattle.version_model.specs.declared.act.Act.TheVariants as acts
use Rattle.version_model.specs.declared.answer.Answer.TheVariants.{Got}
use Rattle.version_model.specs.declared.work.Work.{Work}
use Rattle.wire_msg.specs.declared.body.Body.{Body}
use Rattle.wire_msg.specs.declared.body.Body.TheVariants as body
use Rattle.wire_msg.specs.declared.packet.Do.TheVariants.{Deliver}
use Rattle.wire_msg.specs.declared.packet.Packet.{Packet}
use Rattle.xfs_base.specs.declared.block.BlockId.{BlockId}
use Rattle.xfs_base.specs.declared.fragment.Fragment.{Fragment}
use Rattle.xfs_base.specs.declared.node.NodeId.{NodeId}
use Rattle.xfs_base.specs.declared.node.NodeId.TheVariants.{Client, Server}
use Rattle.xfs_base.specs.declared.setup.Setup.{Setup}
use Rattle.xfs_base.specs.declared.token.Mode.TheVariants.{Nothing, Copy}
use Rattle.quiet_nodes.specs.Scene.{ClientPart, client_at, its_groups, serving_at, tokens_at}
use Rattle.quiet_nodes.proofs.Begins.{HasRoom, room}
use Rattle.quiet_nodes.proofs.Running.{runs_none}
use Rattle.quiet_reads.proofs.CopyReads.{cached_part, copying, read_part, ready_is, runs_is}
use Rattle.quiet_reads.proofs.ReadingRuns.{reading_call, reading_waits}

-- the block is a copy of what was read
abbrev pub copy_of : Held → ℕ → Option (List ℕ) → Held
copy_of h ver value = record h { mode = Copy; ver = ver; settled = ver; value = Some value; fetch = None }

-- a round of reading is on
abbrev pub reading_at : Target → ℕ → RoundSoFar → ReadingState
reading_at target ask round = record { target = target; ask = ask; kept = []; round = round; stage = Asking }

-- a client whose get waits for it
abbrev pub reads_with : ClientPart → BlockId → ℕ → ReadingState → ClientPart
reads_with p b item r = record p { call = Some (reading_call (Get b) (Some r)); item = Some item }

-- the fragment that a server tells
abbrev pub found_body : ℕ → Fragment → Body
found_body ask f = body.Fragment (record { ask = ask; generation = 1; fragment = f })

module _ (setup : Setup) (works : NodeId → List Work) (c v : ℕ) (f : Fragment) (ask : ℕ) where
  abbrev packet : Packet
  packet = record { from = Server v; to = Client c; clock = 0; body = found_body ask f }

  -- the client takes the packet
  pub record IsTakenIn : Type 0 where
    pub there : has_node (peers_of setup) (Server v) ≡ true
    pub of_log : is_meta f.meta ≡ true
    pub known : knows_meta (maps_start (its_groups setup works)) f.meta ≡ true

  -- ---- the block is being read

  module _ (p : ClientPart) (b : BlockId) (item : ℕ) (target : Target) (at : ℕ) (round then_ : RoundSoFar)
      (is_target : target.block ≡ Some (record { item = at; block = b })) (counted : counts (reading_at target ask round) ask v (HeldPiece f) ≡ true)
      (takes : round_take round v (HeldPiece f) ≡ then_) (h : HasRoom setup works c (reads_with p b item (reading_at target ask round))) (taken_in : IsTakenIn) where
    abbrev now : ReadingState
    now = reading_at target ask round

    abbrev next_ : ReadingState
    next_ = reading_at target ask then_

    abbrev judge : RoundState → Step
    judge state = reading_judge next_ (its_groups setup works) state

    abbrev judge_of : RoundSoFar → Step
    judge_of r = reading_judge (reading_at target ask r) (its_groups setup works) (state_of r)

    answer_is : (state : RoundState) → state_of then_ ≡ state → reading_take now (its_groups setup works) ask v (HeldPiece f) ≡ judge state
    unfolding reading_take
    answer_is state is =
        ap (λ t. cond t (judge_of (round_take round v (HeldPiece f))) (record { state = now; next = next.Wait })) counted
        ∙ ap judge_of takes
        ∙ ap judge is

    abbrev reading_part : ClientPart
    reading_part = reads_with p b item now

    abbrev hearing : Heard
    hearing = hear_reading (Some now) (Some (its_groups setup works)) ask v (HeldPiece f)

    abbrev heard_by : Step → Heard
    heard_by step = record { reading = Some step.state; next = step.next }

    -- ---- it goes on

    module _ (waits : state_of then_ ≡ Waiting) (asks : must_ask (held_of p.blocks b) Copy ≡ false) (nothing : (held_of p.blocks b).mode ≡ Nothing) where
      told_waits : told_by (serving_at setup works c reading_part) v ask (HeldPiece f)
          ≡ record { state = serving_at setup works c (reads_with p b item next_); outs = [] }
      unfolding told_by
      told_waits =
          ap (λ o. told_at (serving_at setup works c reading_part) o hearing) is_target
          ∙ ap (λ step. told_at (serving_at setup works c reading_part) (Some (record { item = at; block = b })) (heard_by step)) (answer_is Waiting waits)

      packet_waits : serving_take (serving_at setup works c reading_part) packet
          ≡ record { state = serving_at setup works c (reads_with p b item next_); outs = [] }
      unfolding serving_take
      packet_waits = rw (taken_in.known, told_waits) refl

      abbrev before : Serving
      before = serving_at setup works c (record (reads_with p b item next_) { call = None })

      none_needed : hand before (Need b Copy) ≡ record { state = before; outs = [] }
      unfolding hand serving_follow on_need
      none_needed = rw asks refl

      get_waits : blocks_make before (Get b) ≡ record { done = record { state = before; outs = [] }; answer = None }
      unfolding blocks_make blocks_get
      get_waits = rw (nothing, none_needed) refl

      runs_waits : run (serving_at setup works c (reads_with p b item next_))
          ≡ record { state = serving_at setup works c (reads_with p b item next_); outs = [] }
      runs_waits = reading_waits (serving_at setup works c (reads_with p b item next_)) (Get b) (Some next_) refl before [] get_waits

      pub fragment_waits : client_step (client_at setup works c reading_part) (Deliver packet) ≡ record {
        node = client_at setup works c (reads_with p b item next_);
        packets = [];
        acts = [];
      }
      unfolding on_deliver
      fragment_waits = rw (room setup works c reading_part h, taken_in.there, taken_in.of_log, packet_waits, runs_waits) refl

    -- ---- it is read

    module _ (text : List ℕ) (segment : Segment) (enough : state_of then_ ≡ ReadText text)
        (found : segment_found target (its_groups setup works) (answer_of text) ≡ Some segment) (fetch : Fetch)
        (its_fetch : (held_of p.blocks b).fetch ≡ Some fetch) (no_want : (held_of p.blocks b).want ≡ None) where
      abbrev read_copy : Held
      read_copy = copy_of (held_of p.blocks b) fetch.ver (value_at segment at)

      fetched_is : on_fetched (tokens_at setup works p) b (value_at segment at)
          ≡ record { state = tokens_at setup works (copying setup works c p b item read_copy); outs = Ready b ∷ [] }
      unfolding on_fetched
      fetched_is = rw (its_fetch, no_want) refl

      itself : held_of (put_held p.blocks b read_copy) b ≡ read_copy
      itself = held_of-put_itself b read_copy p.blocks

      fetched_hands : (r : ReadingState) → r.target.block ≡ Some (record { item = at; block = b })
          → hand (serving_at setup works c (reads_with p b item r)) (Fetched b (value_at segment at))
          ≡ record { state = serving_at setup works c (cached_part setup works c p b item read_copy); outs = [] }
      unfolding hand serving_follow
      fetched_hands r same = rw (fetched_is, same, itself, ready_is setup works c p b item read_copy refl) refl

      abbrev over : ReadingState
      over = record next_ { stage = Over }

      judged_is : judge (ReadText text) ≡ record { state = over; next = next.Read segment }
      judged_is = ap (reading_reads next_) found

      heard_is : hearing ≡ record { reading = Some over; next = next.Read segment }
      heard_is = ap heard_by (answer_is (ReadText text) enough ∙ judged_is)

      told_reads : told_by (serving_at setup works c reading_part) v ask (HeldPiece f)
          ≡ record { state = serving_at setup works c (cached_part setup works c p b item read_copy); outs = [] }
      unfolding told_by
      told_reads =
          ap (λ o. told_at (serving_at setup works c reading_part) o hearing) is_target
          ∙ ap (told_at (serving_at setup works c reading_part) (Some (record { item = at; block = b }))) heard_is
          ∙ fetched_hands over is_target

      packet_reads : serving_take (serving_at setup works c reading_part) packet
          ≡ record { state = serving_at setup works c (cached_part setup works c p b item read_copy); outs = [] }
      unfolding serving_take
      packet_reads = rw (taken_in.known, told_reads) refl

      pub fragment_reads : client_step (client_at setup works c reading_part) (Deliver packet) ≡ record {
        node = client_at setup works c (read_part setup works c p b item read_copy);
        packets = [];
        acts = acts.Read c b fetch.ver (value_of read_copy) ∷ acts.Answered (Client c) item (Got fetch.ver (value_of read_copy)) ∷ [];
      }
      unfolding on_deliver
      fragment_reads = rw (room setup works c reading_part h, taken_in.there, taken_in.of_log, packet_reads, runs_is setup works c p b item read_copy refl) refl

  -- ---- no block is

  module _ (p : ClientPart) (idle : p.call ≡ None) (h : HasRoom setup works c p) (taken_in : IsTakenIn) where
    packet_late : serving_take (serving_at setup works c p) packet ≡ record { state = serving_at setup works c p; outs = [] }
    unfolding serving_take told_by
    packet_late = rw (taken_in.known, idle) refl

    pub fragment_late : client_step (client_at setup works c p) (Deliver packet) ≡ record { node = client_at setup works c p; packets = []; acts = [] }
    unfolding on_deliver
    fragment_late = rw (room setup works c p h, taken_in.there, taken_in.of_log, packet_late, runs_none (serving_at setup works c p) idle) refl
