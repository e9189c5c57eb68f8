-- A Recall comes to a client that holds the block and has not settled it: the giving is put off, and what waits is sealed, in one event.
use Rattle.std.proofs.Common.{◌≡◌, ℕ, ◌||◌, Bool, true, false, cond, nat_lt, List, [], ◌∷◌, ◌++◌, length, Option, Some, None, is_none, is_some, refl, ap, ◌∙◌, append-nil}
use Rattle.client_log.specs.Transition as log
use Rattle.client_node.specs.declared.client.Client.{Client as ClientNode}
use Rattle.client_node.specs.Phases.{client_step, on_deliver}
use Rattle.client_serving.specs.Follow.{serving_follow, follow_one, hand, note_gone, take_back}
use Rattle.client_serving.specs.Grants.{is_stamp}
use Rattle.client_serving.specs.Packets.{serving_take, on_recall}
use Rattle.node_base.specs.declared.effects.Effect.{Effect}
use Rattle.node_base.specs.Effects.{acts_of, packets_of}
use Rattle.node_base.specs.Nodes.{has_node, peers_of}
use Rattle.token_client.proofs.Tables.{held_of-put_itself}
use Rattle.token_client.specs.declared.held.Fetch.{Fetch}
use Rattle.token_client.specs.declared.held.Held.{Held}
use Rattle.token_client.specs.declared.input.In.TheVariants.{Recalled}
use Rattle.token_client.specs.declared.output.Out.{Out}
use Rattle.token_client.specs.declared.output.Out.TheVariants.{Flush}
use Rattle.token_client.specs.Held.{is_dirty, unfetched}
use Rattle.token_client.specs.State.{TokensState, held_of, put_held, with_held}
use Rattle.token_client.specs.Transition.{can_refetch, give, is_promised, tokens_ask, on_recalled, recalled, recalled_above, refetch}
use Rattle.version_model.specs.declared.work.Work.{Work}
use Rattle.wire_msg.specs.declared.body.Body.TheVariants as body
use Rattle.wire_msg.specs.declared.packet.Do.TheVariants.{Deliver}
use Rattle.wire_msg.specs.declared.packet.Packet.{Packet}
use Rattle.wire_msg.specs.NodeStep.{NodeStep}
use Rattle.xfs_base.specs.declared.block.BlockId.{BlockId}
use Rattle.xfs_base.specs.declared.node.NodeId.{NodeId}
use Rattle.xfs_base.specs.declared.node.NodeId.TheVariants.{Client, Manager}
use Rattle.xfs_base.specs.declared.setup.Setup.{Setup}
use Rattle.xfs_base.specs.declared.token.Stamp.{Stamp}
use Rattle.xfs_base.specs.declared.token.Mode.TheVariants.{Copy}
use Rattle.xfs_base.specs.Limits.{u32_end}
use Rattle.xfs_base.specs.Modes.{is_nothing}
use Rattle.xfs_base.specs.Stamps.{is_later}
use Rattle.xfs_base.specs.Steps.{Stepped, saying, still}
use Rattle.quiet_nodes.specs.Scene.{ClientPart, client_at, serving_at, tokens_at}
use Rattle.quiet_nodes.proofs.Begins.{HasRoom, room}
use Rattle.quiet_nodes.proofs.Running.{runs_none}
use Rattle.quiet_nodes.proofs.Sealing.{sealed_part, serving_seal_so, stores}

-- where no fetch is open a later recall has the block given, and nothing else
module _ (setup : Setup) (works : NodeId → List Work) (p : ClientPart) (b : BlockId) (st : Stamp) (keep : Bool) (none : (held_of p.blocks b).fetch ≡ None) where
  abbrev tokens : TokensState
  tokens = tokens_at setup works p

  refetch_is : refetch tokens b ≡ still {O = Out} tokens
  unfolding refetch
  refetch_is = ap (λ (f : Option Fetch). cond (is_some f) (tokens_ask (with_held tokens b (unfetched (held_of tokens.blocks b))) b Copy) (still {O = Out} tokens)) none

  can_is : can_refetch tokens b ≡ true
  can_is = ap (λ (f : Option Fetch). is_none f || nat_lt tokens.req u32_end) none

  pub none_fetched : recalled_above tokens b st keep ≡ give tokens b st keep
  unfolding recalled_above
  none_fetched =
      ap (λ t. cond t (saying (refetch tokens b).outs (give (refetch tokens b).state b st keep)) (still {O = Out} tokens)) can_is
      ∙ ap (λ (d : Stepped TokensState Out). saying d.outs (give d.state b st keep)) refetch_is

module _ (setup : Setup) (works : NodeId → List Work) (o : ℕ) (p : ClientPart) (b : BlockId) (st : Stamp) (keep : Bool) where
  abbrev its_held : Held
  its_held = held_of p.blocks b

  -- it is to be given up
  abbrev pub giving_held : Held
  giving_held = record its_held { giving = Some (record { stamp = st; keep = keep }) }

  abbrev pub giving_part : ClientPart
  giving_part = record p { blocks = put_held p.blocks b giving_held; call = None }

  -- the client then: its segment is in flight
  abbrev pub flushed_part : ClientPart
  flushed_part = sealed_part setup works o giving_part

  -- a fragment to each member
  abbrev pub flushes : List Effect
  flushes = stores setup works o giving_part

  -- a block that is recalled later than it was given, and is not settled
  pub record IsRecalled : Type 0 where
    pub idle : p.call ≡ None
    pub lands : p.flight ≡ None
    pub some : nat_lt 0 (length p.dirty) ≡ true
    pub next : log.has_next p.end.seq ≡ true
    pub promised : is_promised (tokens_at setup works p) b st ≡ true
    pub later : is_later st its_held.stamp ≡ true
    pub another : is_stamp its_held.stamp st ≡ false
    pub no_fetch : its_held.fetch ≡ None
    pub none : its_held.giving ≡ None
    pub dirty : is_dirty its_held ≡ true
    pub holds : is_nothing its_held.mode ≡ false

  module _ (r : IsRecalled) where
    put_off_is : give (tokens_at setup works p) b st keep ≡ record { state = tokens_at setup works giving_part; outs = Flush b ∷ [] }
    unfolding give
    put_off_is = rw (r.dirty, r.none) refl

    recall_taken : on_recalled (tokens_at setup works p) b st keep ≡ record { state = tokens_at setup works giving_part; outs = Flush b ∷ [] }
    unfolding on_recalled recalled
    recall_taken = rw (r.promised, r.later) (none_fetched setup works p b st keep r.no_fetch ∙ put_off_is)

    flush_is : follow_one (serving_at setup works o giving_part) (Flush b) ≡ record { state = serving_at setup works o flushed_part; outs = flushes }
    unfolding follow_one
    flush_is = serving_seal_so setup works o giving_part r.lands r.some r.next

    hand_so : hand (serving_at setup works o p) (Recalled b st keep) ≡ record { state = serving_at setup works o flushed_part; outs = flushes ++ [] }
    unfolding hand serving_follow
    hand_so = rw (r.idle, recall_taken, flush_is) refl

    itself : held_of flushed_part.blocks b ≡ giving_held
    itself = held_of-put_itself b giving_held p.blocks

    takes_so : take_back (serving_at setup works o p) b st keep ≡ record { state = serving_at setup works o flushed_part; outs = flushes ++ [] }
    unfolding take_back note_gone
    takes_so = rw (hand_so, itself, r.holds) refl

    module _ (j : ℕ) (h : HasRoom setup works o p) (there : has_node (peers_of setup) (Manager j) ≡ true) where
      abbrev pub recall_packet : Packet
      recall_packet = record { from = Manager j; to = Client o; clock = 0; body = body.Recall (record { block = b; stamp = st; keep = keep }) }

      packet_is : serving_take (serving_at setup works o p) recall_packet ≡ record { state = serving_at setup works o flushed_part; outs = flushes ++ [] }
      unfolding serving_take on_recall
      packet_is = rw (r.another, takes_so) refl

      abbrev with_outs : List Effect → NodeStep ClientNode
      with_outs outs = record { node = client_at setup works o flushed_part; packets = packets_of (Client o) outs; acts = acts_of (Client o) outs }

      pub recall_comes : client_step (client_at setup works o p) (Deliver recall_packet) ≡ record {
        node = client_at setup works o flushed_part;
        packets = packets_of (Client o) (flushes ++ []);
        acts = acts_of (Client o) (flushes ++ []);
      }
      unfolding on_deliver
      recall_comes =
          rw (room setup works o p h, there, packet_is, runs_none (serving_at setup works o flushed_part) refl) (ap with_outs (append-nil (flushes ++ [])))
