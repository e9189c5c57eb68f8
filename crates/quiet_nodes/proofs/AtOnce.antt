-- Items that are answered when they begin.
use Rattle.std.proofs.Common.{◌≡◌, ℕ, ◌+◌, ◌<◌, true, false, cond, nat_le, List, [], ◌∷◌, length, slice_get, Option, Some, None, refl, ap, ◌∙◌}
use Rattle.client_running.specs.Blocks.{Made, blocks_get, got, blocks_make, blocks_need, blocks_sync}
use Rattle.client_serving.specs.Follow.{serving_seal}
use Rattle.client_log.specs.Transition as log
use Rattle.client_node.specs.Phases.{serves_on, stepped}
use Rattle.client_call.specs.Fitting.{put_fits}
use Rattle.client_serving.specs.declared.serving.Serving.{Serving}
use Rattle.coop_cache.specs.CacheState.{CacheState}
use Rattle.coop_cache.specs.Transition.{is_clean, used_last}
use Rattle.file_plan.specs.declared.block_call.BlockAnswer.TheVariants as block
use Rattle.file_plan.specs.declared.block_call.BlockCall.TheVariants.{Put, Sync}
use Rattle.node_base.specs.declared.effects.Effect.{Effect}
use Rattle.node_base.specs.declared.effects.Effect.TheVariants.{Answer, Does}
use Rattle.token_client.specs.declared.held.Held.{Held}
use Rattle.token_client.specs.Held.{may_write}
use Rattle.xfs_base.specs.declared.token.Mode.TheVariants.{Copy}
use Rattle.client_running.specs.Running.{run}
use Rattle.client_node.specs.Phases.{client_step}
use Rattle.client_call.specs.Calls.{call_new}
use Rattle.client_call.specs.Blocks.{value_of}
use Rattle.client_call.specs.declared.call.Plan.TheVariants.{One}
use Rattle.coop_cache.specs.Transition.{touch}
use Rattle.file_plan.specs.declared.block_call.BlockCall.TheVariants.{Get}
use Rattle.client_node.specs.Serving.{cached_upto}
use Rattle.token_client.specs.State.{held_of}
use Rattle.version_model.specs.declared.act.Act.TheVariants as acts
use Rattle.version_model.specs.declared.answer.Answer.TheVariants.{Done as Finished, Got, Version}
use Rattle.version_model.specs.declared.work.Work.{Work}
use Rattle.version_model.specs.declared.work.Work.TheVariants as work
use Rattle.wire_msg.specs.declared.packet.Do.TheVariants.{Begin}
use Rattle.xfs_base.specs.declared.block.BlockId.{BlockId}
use Rattle.xfs_base.specs.declared.node.NodeId.{NodeId}
use Rattle.xfs_base.specs.declared.node.NodeId.TheVariants.{Client}
use Rattle.xfs_base.specs.declared.setup.Setup.{Setup}
use Rattle.xfs_base.specs.Limits.{u32_end}
use Rattle.xfs_base.specs.Modes.{is_nothing}
use Rattle.quiet_nodes.specs.Scene.{ClientPart, client_at, serving_at}
use Rattle.quiet_nodes.proofs.Begins.{HasRoom, begin_steps, opened}
use Rattle.quiet_nodes.proofs.Puts.{put_makes, put_part, waiting_then, writes}
use Rattle.quiet_nodes.proofs.Running.{runs_answered}

touched_is : (s : CacheState) (b : BlockId) → touch s b ≡ record { blocks = (touch s b).blocks; capacity = s.capacity }
touched_is s b =
    elim (is_clean s b) as (λ t. cond t (record { blocks = used_last b s.blocks; capacity = s.capacity }) s
    ≡ record { blocks = (cond t (record { blocks = used_last b s.blocks; capacity = s.capacity }) s).blocks; capacity = s.capacity }) [
      | true ↦ refl
      | false ↦ refl
    ]

module _ (setup : Setup) (works : NodeId → List Work) (c : ℕ) (p : ClientPart) (b : BlockId) where
  abbrev its_cache : CacheState
  its_cache = record { blocks = p.cached; capacity = cached_upto setup.cache }

  abbrev its_held : Held
  its_held = held_of p.blocks b

  -- ---- a get of a block that is held

  -- the client after the block was read where it is
  abbrev pub read_here : ClientPart
  read_here = record p { begun = p.begun + 1; item = None; cached = (touch its_cache b).blocks; call = None }

  module _ (h : HasRoom setup works c p) (left : p.begun < length (works (Client c))) (few : p.begun < u32_end)
      (next : slice_get (works (Client c)) p.begun ≡ Some (work.Bget c b)) (idle : p.item ≡ None) (held : is_nothing its_held.mode ≡ false) where
    abbrev mid : ClientPart
    mid = opened setup works c p (call_new One (Get b))

    abbrev before : Serving
    before = serving_at setup works c (record mid { call = None })

    abbrev after : Serving
    after = serving_at setup works c (record mid { call = None; cached = (touch its_cache b).blocks })

    abbrev reads : List Effect
    reads = Does (acts.Read c b its_held.ver (value_of its_held)) ∷ []

    abbrev made : Serving → Made
    made s = record { done = record { state = s; outs = reads }; answer = Some (block.Got its_held.ver (value_of its_held)) }

    get_makes : blocks_make before (Get b) ≡ record { done = record { state = after; outs = reads }; answer = Some (block.Got its_held.ver (value_of its_held)) }
    unfolding blocks_make blocks_get
    get_makes =
        ap (λ t. cond t (blocks_need before b Copy) (got before b its_held)) held
        ∙ ap (λ cache. made (record before { cache = cache })) (touched_is its_cache b)

    get_runs : run (serving_at setup works c mid) ≡ record {
      state = serving_at setup works c read_here;
      outs = Does (acts.Read c b its_held.ver (value_of its_held)) ∷ Answer (p.begun + 1) (Got its_held.ver (value_of its_held)) ∷ [];
    }
    get_runs = runs_answered (serving_at setup works c mid) (Get b) refl after reads (block.Got its_held.ver (value_of its_held)) get_makes refl

    pub get_here : client_step (client_at setup works c p) Begin ≡ record {
      node = client_at setup works c read_here;
      packets = [];
      acts = acts.Read c b its_held.ver (value_of its_held) ∷ acts.Answered (Client c) (p.begun + 1) (Got its_held.ver (value_of its_held)) ∷ [];
    }
    get_here =
        begin_steps setup works c p (work.Bget c b) (call_new One (Get b)) h left few next idle (λ s n. refl) refl
        ∙ ap (λ d. stepped (client_at setup works c p) (serves_on d)) get_runs

  -- ---- a put of a block that may be written, where fewer than 24 wait then

  module _ (value : Option (List ℕ)) (h : HasRoom setup works c p) (left : p.begun < length (works (Client c))) (few : p.begun < u32_end)
      (next : slice_get (works (Client c)) p.begun ≡ Some (work.Bput c b value)) (idle : p.item ≡ None)
      (may : may_write its_held ≡ true) (fits : put_fits b (its_held.ver + 1) value ≡ true) (not_full : nat_le 24 (length (waiting_then p b value)) ≡ false) where
    abbrev put_mid : ClientPart
    put_mid = opened setup works c p (call_new One (Put b value))

    -- the client after the block was written where it is
    abbrev pub put_here_part : ClientPart
    put_here_part = record (put_part p b value) { begun = p.begun + 1; item = None }

    put_runs : run (serving_at setup works c put_mid) ≡ record {
      state = serving_at setup works c put_here_part;
      outs = Does (acts.Wrote c b value) ∷ Answer (p.begun + 1) (Version (its_held.ver + 1)) ∷ [];
    }
    put_runs =
        runs_answered (serving_at setup works c put_mid) (Put b value) refl (serving_at setup works c (put_part put_mid b value)) (writes c b value)
        (block.Put (its_held.ver + 1)) (put_makes setup works c put_mid b value may fits not_full) refl

    pub put_here : client_step (client_at setup works c p) Begin ≡ record {
      node = client_at setup works c put_here_part;
      packets = [];
      acts = acts.Wrote c b value ∷ acts.Answered (Client c) (p.begun + 1) (Version (its_held.ver + 1)) ∷ [];
    }
    put_here =
        begin_steps setup works c p (work.Bput c b value) (call_new One (Put b value)) h left few next idle (λ s n. refl) refl
        ∙ ap (λ d. stepped (client_at setup works c p) (serves_on d)) put_runs

-- ---- a sync where nothing waits

module _ (setup : Setup) (works : NodeId → List Work) (c : ℕ) (p : ClientPart) where
  abbrev pub synced_part : ClientPart
  synced_part = record p { begun = p.begun + 1; item = None; call = None }

  module _ (h : HasRoom setup works c p) (left : p.begun < length (works (Client c))) (few : p.begun < u32_end)
      (next : slice_get (works (Client c)) p.begun ≡ Some (work.Sync c)) (idle : p.item ≡ None) (lands : p.flight ≡ None) (none : p.dirty ≡ []) where
    abbrev sync_mid : ClientPart
    sync_mid = opened setup works c p (call_new One Sync)

    sync_makes : blocks_make (serving_at setup works c (record sync_mid { call = None })) Sync ≡ record {
      done = record { state = serving_at setup works c (record sync_mid { call = None }); outs = Does (acts.Synced c) ∷ [] };
      answer = Some block.Synced;
    }
    unfolding blocks_make blocks_sync serving_seal log.on_seal
    sync_makes = simp (lands, none)

    sync_runs : run (serving_at setup works c sync_mid) ≡ record {
      state = serving_at setup works c synced_part;
      outs = Does (acts.Synced c) ∷ Answer (p.begun + 1) Finished ∷ [];
    }
    sync_runs =
        runs_answered (serving_at setup works c sync_mid) Sync refl (serving_at setup works c (record sync_mid { call = None })) (Does (acts.Synced c) ∷ [])
        block.Synced sync_makes refl

    pub sync_here : client_step (client_at setup works c p) Begin ≡ record {
      node = client_at setup works c synced_part;
      packets = [];
      acts = acts.Synced c ∷ acts.Answered (Client c) (p.begun + 1) Finished ∷ [];
    }
    sync_here =
        begin_steps setup works c p (work.Sync c) (call_new One Sync) h left few next idle (λ s n. refl) refl
        ∙ ap (λ d. stepped (client_at setup works c p) (serves_on d)) sync_runs
