-- A client with no open call that holds a block clean, or not at all, is to give it up: it does so at once, and says so.
use Rattle.std.proofs.Common.{◌≡◌, ℕ, ◌+◌, ◌<◌, ◌≤◌, ◌==◌, ◌&&◌, ◌||◌, Bool, true, false, cond, nat_lt, is_none, is_some, List, [], ◌∷◌, replicate, Option, None, refl, sym, ap, subst, ◌∙◌, arith}
use Rattle.client_call.specs.declared.call.Call.{Call}
use Rattle.client_node.specs.Phases.{client_step, on_deliver}
use Rattle.client_serving.specs.declared.serving.Serving.{Serving}
use Rattle.client_serving.specs.Follow.{serving_follow, follow_one, hand, note_gone, take_back}
use Rattle.client_serving.specs.Grants.{is_stamp}
use Rattle.client_serving.specs.Packets.{serving_take, on_recall}
use Rattle.coop_cache.specs.Transition.{cache_leave}
use Rattle.delta_feed.specs.Transition.{feed_push}
use Rattle.node_base.specs.declared.effects.Effect.TheVariants.{Send}
use Rattle.node_base.specs.Nodes.{has_node, peers_of}
use Rattle.slot_beliefs.specs.Recalls.{stamp}
use Rattle.token_client.proofs.Tables.{held_of-put_itself}
use Rattle.token_client.specs.declared.held.Held.{Held}
use Rattle.token_client.specs.declared.input.In.TheVariants.{Recalled}
use Rattle.token_client.specs.declared.output.Out.TheVariants.{Flush, Gave}
use Rattle.token_client.specs.Held.{give_up, is_dirty, put_off, unfetched}
use Rattle.token_client.specs.State.{TokensState, epoch_of, held_of, put_held, with_held}
use Rattle.token_client.specs.Transition.{Done, can_refetch, give, tokens_ask, on_recalled, recalled, recalled_above, recalled_again, refetch}
use Rattle.version_model.specs.declared.work.Work.{Work}
use Rattle.wire_msg.specs.declared.body.Body.{Body}
use Rattle.wire_msg.specs.declared.body.Body.TheVariants as body
use Rattle.wire_msg.specs.declared.packet.Do.TheVariants.{Deliver}
use Rattle.xfs_base.specs.Blocks.{slot_of}
use Rattle.xfs_base.specs.declared.block.BlockId.{BlockId}
use Rattle.xfs_base.specs.declared.node.NodeId.{NodeId}
use Rattle.xfs_base.specs.declared.node.NodeId.TheVariants.{Manager}
use Rattle.xfs_base.specs.declared.setup.Setup.{Setup}
use Rattle.xfs_base.specs.declared.token.Stamp.{Stamp}
use Rattle.xfs_base.specs.declared.token.Mode.TheVariants.{Copy}
use Rattle.xfs_base.specs.Limits.{u32_end}
use Rattle.xfs_base.specs.Modes.{is_nothing}
use Rattle.xfs_base.specs.Steps.{saying, still}
use Rattle.xfs_base.specs.Stamps.{is_later}
use Rattle.quiet_gives.specs.Recalls.{gave_by, gives_held, gives_part, its_manager, recall_to}
use Rattle.quiet_nodes.specs.Scene.{ClientPart, client_at, serving_at, tokens_at}
use Rattle.quiet_nodes.proofs.Begins.{HasRoom, room}
use Rattle.quiet_nodes.proofs.Rooms.{later, promised}
use Rattle.quiet_nodes.proofs.Running.{runs_none}
use Rattle.quiet_nodes.proofs.Tests.{other_test}
use Rattle.quiet_nodes.proofs.Wanting.{asked_is, feed_at}

-- what is known of a block that is given up at the next turn: it isn't fetched, it is clean, and its stamp is none of a later turn
pub record IsGivable (turn : ℕ) (h : Held) : Type 0 where
  pub fetch : h.fetch ≡ None
  pub clean : is_dirty h ≡ false
  pub epoch : h.stamp.epoch ≤ 1
  pub turn_before : h.stamp.turn ≤ turn

module _ (setup : Setup) (works : NodeId → List Work) (b : BlockId) (keep : Bool) (c turn : ℕ) (within : slot_of b.ino.0 < 8) where
  abbrev its_stamp : Stamp
  its_stamp = stamp 1 (turn + 1)

  abbrev j : ℕ
  j = its_manager setup works b keep

  abbrev gave_body : ClientPart → Body
  gave_body p = body.Gave (record { block = b; stamp = its_stamp; end = p.end.seq })

  -- ---- the client, with no call

  module _ (first : ClientPart) where
    abbrev p : ClientPart
    p = record first { call = None }

    abbrev its_held : Held
    its_held = held_of first.blocks b

    abbrev tokens : TokensState
    tokens = tokens_at setup works p

    -- the block is given up, and the cache not yet told
    abbrev gives_it : ClientPart
    gives_it = record p { blocks = put_held first.blocks b (gives_held setup works b keep (turn + 1) its_held) }

    module _ (g : IsGivable turn its_held) (told : feed_push (feed_at first) (slot_of b.ino.0) ≡ []) where
      is_promised_so : (epoch_of (replicate 8 1) (slot_of b.ino.0) == 1) ≡ true
      is_promised_so = ap (λ n. n == 1) (promised (slot_of b.ino.0) within)

      later_so : is_later its_stamp its_held.stamp ≡ true
      later_so = later its_held.stamp.epoch turn its_held.stamp.turn g.epoch g.turn_before

      can : can_refetch tokens b ≡ true
      can = ap (λ o. is_none o || nat_lt tokens.req u32_end) g.fetch

      none_refetched : refetch tokens b ≡ still tokens
      unfolding refetch
      none_refetched = ap (λ o. cond (is_some o) (tokens_ask (with_held tokens b (unfetched its_held)) b Copy) (still tokens)) g.fetch

      gives_now : give tokens b its_stamp keep ≡ record { state = tokens_at setup works gives_it; outs = Gave b its_stamp ∷ [] }
      unfolding give
      gives_now =
          ap (λ t. cond t (record { state = with_held tokens b (put_off its_held its_stamp keep); outs = Flush b ∷ [] })
          (record { state = with_held tokens b (give_up its_held its_stamp keep); outs = Gave b its_stamp ∷ [] })) g.clean

      recalled_is : recalled_above tokens b its_stamp keep ≡ record { state = tokens_at setup works gives_it; outs = Gave b its_stamp ∷ [] }
      unfolding recalled_above
      recalled_is =
          ap (λ t. cond t (saying (refetch tokens b).outs (give (refetch tokens b).state b its_stamp keep)) (still tokens)) can
          ∙ ap (λ (r : Done). saying r.outs (give r.state b its_stamp keep)) none_refetched
          ∙ ap (saying []) gives_now

      tokens_is : on_recalled tokens b its_stamp keep ≡ record { state = tokens_at setup works gives_it; outs = Gave b its_stamp ∷ [] }
      unfolding on_recalled recalled
      tokens_is =
          ap (λ t. cond t (recalled tokens b its_stamp keep) (still tokens)) is_promised_so
          ∙ ap (λ t. cond t (recalled_above tokens b its_stamp keep) (recalled_again tokens b its_stamp)) later_so
          ∙ recalled_is

      gave_is : follow_one (serving_at setup works c gives_it) (Gave b its_stamp) ≡ record {
        state = serving_at setup works c gives_it;
        outs = Send (Manager j) (gave_body p) ∷ [];
      }
      unfolding follow_one
      gave_is = rw (told, asked_is setup works (slot_of b.ino.0) within) refl

      hands_is : hand (serving_at setup works c p) (Recalled b its_stamp keep) ≡ record {
        state = serving_at setup works c gives_it;
        outs = Send (Manager j) (gave_body p) ∷ [];
      }
      unfolding hand serving_follow
      hands_is = rw (tokens_is, gave_is) refl

      -- where it isn't held any more, it isn't cached
      abbrev gone_by : Bool → Serving
      gone_by t = cond t (record (serving_at setup works c gives_it) { cache = cache_leave (serving_at setup works c gives_it).cache b }) (serving_at setup works c gives_it)

      gone_is : note_gone (serving_at setup works c gives_it) b ≡ serving_at setup works c (gives_part setup works b keep (turn + 1) p)
      unfolding note_gone
      gone_is =
          ap (λ (h : Held). gone_by (is_nothing h.mode)) (held_of-put_itself b (gives_held setup works b keep (turn + 1) its_held) first.blocks)
          ∙ by_mode (is_nothing (gives_held setup works b keep (turn + 1) its_held).mode)
        where
          by_mode : (t : Bool) → gone_by t ≡ serving_at setup works c (record gives_it { cached = cond t (cache_leave (serving_at setup works c gives_it).cache b).blocks first.cached })
          by_mode true = refl
          by_mode false = refl

      -- the recall wasn't answered before
      is_new : is_stamp its_held.stamp its_stamp ≡ false
      is_new =
          ap (λ t. (its_held.stamp.epoch == 1) && t) (other_test its_held.stamp.turn (turn + 1) (λ same. (let before = g.turn_before in omega arith)))
          ∙ and_false (its_held.stamp.epoch == 1)
        where
          and_false : (t : Bool) → (t && false) ≡ false
          and_false true = refl
          and_false false = refl

      packet_is : serving_take (serving_at setup works c p) (recall_to setup works b keep (turn + 1) c) ≡ record {
        state = serving_at setup works c (gives_part setup works b keep (turn + 1) p);
        outs = Send (Manager j) (gave_body p) ∷ [];
      }
      unfolding serving_take on_recall take_back
      packet_is = rw (is_new, hands_is, gone_is) refl

      gives_up : HasRoom setup works c p → has_node (peers_of setup) (Manager j) ≡ true
          → client_step (client_at setup works c p) (Deliver (recall_to setup works b keep (turn + 1) c)) ≡ record {
            node = client_at setup works c (gives_part setup works b keep (turn + 1) p);
            packets = gave_by setup works b keep (turn + 1) c p.end.seq ∷ [];
            acts = [];
          }
      unfolding on_deliver
      gives_up h there =
          rw (room setup works c p h, there, packet_is, runs_none (serving_at setup works c (gives_part setup works b keep (turn + 1) p)) refl) refl

  -- ---- any client that is idle

  module _ (p : ClientPart) (idle : p.call ≡ None) (g : IsGivable turn (held_of p.blocks b)) (told : feed_push (feed_at p) (slot_of b.ino.0) ≡ [])
      (there : has_node (peers_of setup) (Manager j) ≡ true) where
    abbrev Gives : Option Call → Type 0
    Gives call =
        HasRoom setup works c (record p { call = call })
        → client_step (client_at setup works c (record p { call = call })) (Deliver (recall_to setup works b keep (turn + 1) c)) ≡ record {
          node = client_at setup works c (gives_part setup works b keep (turn + 1) (record p { call = call }));
          packets = gave_by setup works b keep (turn + 1) c p.end.seq ∷ [];
          acts = [];
        }

    pub recall_comes : HasRoom setup works c p → client_step (client_at setup works c p) (Deliver (recall_to setup works b keep (turn + 1) c)) ≡ record {
      node = client_at setup works c (gives_part setup works b keep (turn + 1) p);
      packets = gave_by setup works b keep (turn + 1) c p.end.seq ∷ [];
      acts = [];
    }
    recall_comes = subst Gives (sym idle) (λ h. gives_up p g told h there)
