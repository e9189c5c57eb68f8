-- Time passes at a client: one that has nothing to say again says nothing, and one whose get waits sends its want once more.
use Rattle.wire_msg.specs.declared.body.Body.TheVariants as body
use Rattle.client_log.specs.declared.input.In.TheVariants as log_in
use Rattle.client_log.specs.Transition as log
use Rattle.client_serving.specs.Flights as flights
use Rattle.token_client.specs.declared.input.In.TheVariants as tokens
use Rattle.token_client.specs.declared.input.In.TheVariants.{Need}
use Rattle.token_client.specs.Transition.{ask_again, on_need, on_tick as tokens_tick}
use Rattle.client_serving.specs.Packets.{on_tick}
use Rattle.client_node.specs.Phases.{client_step, client_tick}
use Rattle.wire_msg.specs.declared.packet.Do.TheVariants.{Tick}
use Rattle.log_owner.specs.Sending.{push_all}
use Rattle.log_owner.specs.Promised.{managers_start}
use Rattle.xfs_base.specs.declared.token.Mode.TheVariants.{Copy}
use Rattle.file_plan.specs.declared.block_call.BlockCall.TheVariants.{Get}
use Rattle.token_client.specs.Held.{asked_again}
use Rattle.client_running.specs.Blocks.{blocks_get, blocks_make}
use Rattle.quiet_nodes.proofs.Wanting.{asked_is, feed_at}
use Rattle.client_call.specs.Calls.{call_new}
use Rattle.client_call.specs.declared.call.Plan.TheVariants.{One}
use Rattle.client_running.specs.Running.{run}
use Rattle.client_serving.specs.Follow.{serving_follow, follow_one, hand}
use Rattle.client_serving.specs.declared.serving.Serving.{Serving}
use Rattle.delta_feed.specs.Transition.{feed_push}
use Rattle.node_base.specs.declared.effects.Effect.TheVariants.{Send}
use Rattle.quiet_gets.proofs.Wants.{none_spent, none_wanted}
use Rattle.quiet_gets.specs.Passing.{IsAsking, IsSilent, asked_more, first_want, want_again}
use Rattle.quiet_nodes.proofs.Begins.{room}
use Rattle.quiet_nodes.proofs.Rooms.{slot_within}
use Rattle.quiet_nodes.proofs.Running.{runs_none, runs_waits}
use Rattle.quiet_nodes.specs.Scene.{ClientPart, client_at, manager_of_slot, serving_at, tokens_at}
use Rattle.std.proofs.Common.{List, None, Some, [], ap, arith, refl, sym, ℕ, ◌<◌, ◌∷◌, ◌≡◌}
use Rattle.token_client.proofs.Tables.{held_of-put_itself}
use Rattle.token_client.specs.State.{held_of}
use Rattle.token_client.specs.declared.output.Out.TheVariants.{Want as WantOut}
use Rattle.version_model.specs.declared.work.Work.{Work}
use Rattle.wire_msg.specs.declared.body.Body.{Body}
use Rattle.xfs_base.specs.Blocks.{slot_of}
use Rattle.xfs_base.specs.Steps.{still}
use Rattle.xfs_base.specs.declared.block.BlockId.{BlockId}
use Rattle.xfs_base.specs.declared.node.NodeId.TheVariants.{Manager}
use Rattle.xfs_base.specs.declared.node.NodeId.{NodeId}
use Rattle.xfs_base.specs.declared.setup.Setup.{Setup}

-- nothing new is told to any slot
pub pushes_none : (managers : ℕ) (p : ClientPart) → ((i : ℕ) → i < 8 → feed_push (feed_at p) i ≡ []) → push_all (managers_start managers) (feed_at p) ≡ []
pushes_none managers p told =
    rw (
      told 0 (omega arith),
      told 1 (omega arith),
      told 2 (omega arith),
      told 3 (omega arith),
      told 4 (omega arith),
      told 5 (omega arith),
      told 6 (omega arith),
      told 7 (omega arith),
    ) refl

module _ (setup : Setup) (works : NodeId → List Work) where
  -- nothing is in flight
  log_silent : (e : ℕ) (p : ClientPart) → p.flight ≡ None
      → flights.serving_write (serving_at setup works e p) log_in.Tick ≡ record { state = serving_at setup works e p; outs = [] }
  unfolding flights.serving_write log.on_tick
  log_silent e p none = rw none refl

  -- ---- a client that has nothing to say

  module _ (e : ℕ) (p : ClientPart) (h : IsSilent setup works e p) where
    abbrev now : Serving
    now = serving_at setup works e p

    tokens_silent : tokens_tick (tokens_at setup works p) ≡ still (tokens_at setup works p)
    unfolding tokens_tick
    tokens_silent = rw (none_spent p.blocks h.wants, none_wanted p.blocks h.wants) refl

    hands_silent : hand now tokens.Tick ≡ record { state = now; outs = [] }
    unfolding hand serving_follow
    hands_silent = rw (h.call, tokens_silent) refl

    on_tick_silent : on_tick now ≡ record { state = now; outs = [] }
    unfolding on_tick
    on_tick_silent = rw (hands_silent, log_silent e p h.flight, h.call, pushes_none setup.managers p h.told) refl

    pub silent_ticks : client_step (client_at setup works e p) Tick ≡ record { node = client_at setup works e p; packets = []; acts = [] }
    unfolding client_tick
    silent_ticks = rw (room setup works e p h.room, on_tick_silent, runs_none now h.call) refl

  -- ---- a client whose get waits

  module _ (c : ℕ) (p : ClientPart) (b : BlockId) (req : ℕ) (h : IsAsking setup works c p b req) where
    abbrev asking_now : Serving
    asking_now = serving_at setup works c p

    abbrev more : ClientPart
    more = asked_more setup works p b req

    abbrev more_open : ClientPart
    more_open = record more { call = Some (call_new One (Get b)) }

    abbrev again_body : Body
    again_body = body.Want (record { block = b; inc = 1; req = req; again = 1; mode = Copy; end = p.end.seq })

    tokens_again : tokens_tick (tokens_at setup works p) ≡ record { state = tokens_at setup works more; outs = WantOut b req 1 Copy ∷ [] }
    unfolding tokens_tick ask_again
    tokens_again = rw (h.unspent, h.alone, h.want) refl

    hands_again : hand asking_now tokens.Tick ≡ record {
      state = serving_at setup works c more_open;
      outs = Send (Manager (manager_of_slot setup works (slot_of b.ino.0))) again_body ∷ [];
    }
    unfolding hand serving_follow follow_one
    hands_again = rw (h.call, tokens_again, asked_is setup works (slot_of b.ino.0) (slot_within b.ino.0)) refl

    open_is : more_open ≡ more
    open_is = ap (λ o. record more { call = o }) (sym h.call)

    pushes_nothing : push_all (managers_start setup.managers) (feed_at more_open) ≡ []
    pushes_nothing = pushes_none setup.managers p h.told

    on_tick_again : on_tick asking_now ≡ record {
      state = serving_at setup works c more_open;
      outs = Send (Manager (manager_of_slot setup works (slot_of b.ino.0))) again_body ∷ [];
    }
    unfolding on_tick
    on_tick_again = rw (hands_again, log_silent c more_open h.flight, pushes_nothing) refl

    -- the get goes on waiting

    itself : held_of more.blocks b ≡ asked_again (held_of p.blocks b) (first_want setup works req)
    itself = held_of-put_itself b (asked_again (held_of p.blocks b) (first_want setup works req)) p.blocks

    abbrev before : Serving
    before = serving_at setup works c (record more { call = None })

    none_needed : hand before (Need b Copy) ≡ record { state = before; outs = [] }
    unfolding hand serving_follow on_need
    none_needed = rw itself refl

    get_waits : blocks_make before (Get b) ≡ record { done = record { state = before; outs = [] }; answer = None }
    unfolding blocks_make blocks_get
    get_waits = rw (itself, h.nothing, none_needed) refl

    pub waits_on : run (serving_at setup works c more_open) ≡ record { state = serving_at setup works c more_open; outs = [] }
    waits_on = runs_waits (serving_at setup works c more_open) (Get b) refl before [] get_waits

    pub asking_ticks : client_step (client_at setup works c p) Tick ≡ record {
      node = client_at setup works c more;
      packets = want_again setup works p c b req ∷ [];
      acts = [];
    }
    unfolding client_tick
    asking_ticks =
        rw (room setup works c p h.room, on_tick_again, waits_on)
        (ap (λ q. record { node = client_at setup works c q; packets = want_again setup works p c b req ∷ []; acts = [] }) open_is)
