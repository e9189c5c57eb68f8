-- A client that has settled a block, and that is to give it up, does so: its deltas of the block's slot go once more to the slot's manager, and a Gave behind them.
use Rattle.std.proofs.Common.{◌≡◌, ℕ, ◌+◌, ◌<◌, ◌&&◌, Bool, true, false, cond, nat_lt, List, [], ◌∷◌, slice_index, None, refl, ap, ◌∙◌}
use Rattle.client_node.specs.Serving.{cached_upto}
use Rattle.client_serving.specs.declared.serving.Serving.{Serving}
use Rattle.client_serving.specs.Follow.{serving_follow, follow_one, hand, note_gone, take_back}
use Rattle.client_serving.specs.Sends.{Done}
use Rattle.coop_cache.specs.Transition.{cache_leave}
use Rattle.delta_feed.specs.Transition.{feed_push, rows_after}
use Rattle.node_base.specs.declared.effects.Effect.{Effect}
use Rattle.node_base.specs.declared.effects.Effect.TheVariants.{Send}
use Rattle.token_client.proofs.Tables.{held_of-put_itself}
use Rattle.token_client.specs.declared.held.Held.{Held}
use Rattle.token_client.specs.declared.input.In.TheVariants.{Recalled}
use Rattle.token_client.specs.declared.output.Out.TheVariants.{Gave}
use Rattle.token_client.specs.Held.{give_up, is_dirty}
use Rattle.token_client.specs.State.{held_of, put_held}
use Rattle.token_client.specs.Transition.{give, is_promised, on_recalled, recalled}
use Rattle.version_model.specs.declared.work.Work.{Work}
use Rattle.wire_msg.specs.declared.body.Body.TheVariants as body
use Rattle.xfs_base.specs.Blocks.{slot_of}
use Rattle.xfs_base.specs.declared.block.BlockId.{BlockId}
use Rattle.xfs_base.specs.declared.node.NodeId.{NodeId}
use Rattle.xfs_base.specs.declared.node.NodeId.TheVariants.{Manager}
use Rattle.xfs_base.specs.declared.setup.Setup.{Setup}
use Rattle.xfs_base.specs.declared.token.Stamp.{Stamp}
use Rattle.xfs_base.specs.declared.token.Mode.TheVariants.{Copy, Nothing}
use Rattle.xfs_base.specs.Modes.{is_held, is_nothing}
use Rattle.xfs_base.specs.Stamps.{is_later}
use Rattle.quiet_nodes.specs.Scene.{ClientPart, manager_of_slot, serving_at, tokens_at}
use Rattle.quiet_nodes.proofs.Tests.{lt_test}
use Rattle.quiet_nodes.proofs.Wanting.{asked_is}
use Rattle.quiet_gives.proofs.Recalling.{none_fetched}

module _ (setup : Setup) (works : NodeId → List Work) (o : ℕ) (q : ClientPart) (b : BlockId) (st : Stamp) (keep : Bool) where
  abbrev i : ℕ
  i = slot_of b.ino.0

  abbrev its_held : Held
  its_held = held_of q.blocks b

  -- what is known of it then
  abbrev pub gone : Held
  gone = give_up its_held st keep

  abbrev stays : Held
  stays = record its_held { mode = Copy; stamp = st; giving = None }

  abbrev goes : Held
  goes = record its_held { mode = Nothing; value = None; stamp = st; giving = None }

  -- a copy stays, or nothing does
  pub gone_is : (P : Held → Type 0) → P stays → P goes → P gone
  gone_is P a none = elim (keep && is_held its_held.mode) as (λ t. P (cond t stays goes)) [ true ↦ a | false ↦ none ]

  abbrev gave_part : ClientPart
  gave_part = record q { blocks = put_held q.blocks b gone; call = None }

  -- where nothing of it is held, it isn't in the cache
  abbrev pub gone_part : ClientPart
  gone_part = record gave_part {
    cached = cond (is_nothing gone.mode) (cache_leave (record { blocks = q.cached; capacity = cached_upto setup.cache }) b).blocks q.cached;
  }

  -- what the slot is told
  abbrev pub gave_told : List Effect
  gave_told =
      Send (Manager (manager_of_slot setup works i))
      (body.Deltas (record { slot = i; first = slice_index q.acked i + 1; upto = q.fed; rows = rows_after i (slice_index q.acked i) q.filed }))
      ∷ Send (Manager (manager_of_slot setup works i)) (body.Gave (record { block = b; stamp = st; end = q.end.seq }))
      ∷ []

  pub record CanGive : Type 0 where
    pub idle : q.call ≡ None
    pub promised : is_promised (tokens_at setup works q) b st ≡ true
    pub later : is_later st its_held.stamp ≡ true
    pub no_fetch : its_held.fetch ≡ None
    pub clean : is_dirty its_held ≡ false
    pub within : i < 8
    -- there is something that the slot has not acknowledged
    pub news : nat_lt (slice_index q.acked i) q.fed ≡ true

  module _ (can : CanGive) where
    given_is : give (tokens_at setup works q) b st keep ≡ record { state = tokens_at setup works gave_part; outs = Gave b st ∷ [] }
    unfolding give
    given_is = rw can.clean refl

    gives_it : on_recalled (tokens_at setup works q) b st keep ≡ record { state = tokens_at setup works gave_part; outs = Gave b st ∷ [] }
    unfolding on_recalled recalled
    gives_it = rw (can.promised, can.later) (none_fetched setup works q b st keep can.no_fetch ∙ given_is)

    told_is : follow_one (serving_at setup works o gave_part) (Gave b st) ≡ record { state = serving_at setup works o gave_part; outs = gave_told }
    unfolding follow_one feed_push
    told_is = rw (lt_test i 8 can.within, can.news, asked_is setup works i can.within) refl

    hands_gives : hand (serving_at setup works o q) (Recalled b st keep) ≡ record { state = serving_at setup works o gave_part; outs = gave_told }
    unfolding hand serving_follow
    hands_gives = rw (can.idle, gives_it, told_is) refl

    itself : held_of gave_part.blocks b ≡ gone
    itself = held_of-put_itself b gone q.blocks

    abbrev cache_leaves : Serving
    cache_leaves = (let s = serving_at setup works o gave_part in record s { cache = cache_leave s.cache b })

    abbrev by_mode : Bool → Done
    by_mode t = record { state = cond t cache_leaves (serving_at setup works o gave_part); outs = gave_told }

    either : (t : Bool) → by_mode t ≡ record {
      state = serving_at setup works o (record gave_part { cached = cond t (cache_leave (record { blocks = q.cached; capacity = cached_upto setup.cache }) b).blocks q.cached });
      outs = gave_told;
    }
    either true = refl
    either false = refl

    pub takes_so : take_back (serving_at setup works o q) b st keep ≡ record { state = serving_at setup works o gone_part; outs = gave_told }
    unfolding take_back note_gone
    takes_so =
        rw hands_gives (ap (λ (x : Held). by_mode (is_nothing x.mode)) itself ∙ either (is_nothing gone.mode))
