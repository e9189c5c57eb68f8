-- A client whose get waits has a copy of the block: it goes into the cache, and the get reads it and answers.
use Rattle.std.proofs.Common.{◌≡◌, ℕ, false, true, cond, List, [], ◌∷◌, Some, None, refl, ap, ◌∙◌}
use Rattle.client_call.specs.Blocks.{value_of}
use Rattle.client_call.specs.Calls.{call_new}
use Rattle.client_call.specs.declared.call.Plan.TheVariants.{One}
use Rattle.client_node.specs.Serving.{cached_upto}
use Rattle.client_running.specs.Blocks.{Made, blocks_get, got, blocks_make, blocks_need}
use Rattle.client_running.specs.Running.{run}
use Rattle.client_serving.specs.declared.serving.Serving.{Serving}
use Rattle.client_serving.specs.Follow.{follow_one, note_clean, note_copy}
use Rattle.client_serving.specs.Sends.{Done}
use Rattle.coop_cache.specs.CacheState.{CacheState}
use Rattle.coop_cache.specs.Transition.{is_clean, touch, used_last}
use Rattle.file_plan.specs.declared.block_call.BlockAnswer.TheVariants as block
use Rattle.file_plan.specs.declared.block_call.BlockCall.TheVariants.{Get}
use Rattle.node_base.specs.declared.effects.Effect.{Effect}
use Rattle.node_base.specs.declared.effects.Effect.TheVariants.{Answer, Does}
use Rattle.token_client.proofs.Tables.{held_of-put_itself}
use Rattle.token_client.specs.declared.held.Held.{Held}
use Rattle.token_client.specs.declared.output.Out.TheVariants.{Ready}
use Rattle.token_client.specs.State.{held_of, put_held}
use Rattle.version_model.specs.declared.act.Act.TheVariants as acts
use Rattle.version_model.specs.declared.answer.Answer.TheVariants.{Got}
use Rattle.version_model.specs.declared.work.Work.{Work}
use Rattle.xfs_base.specs.declared.block.BlockId.{BlockId}
use Rattle.xfs_base.specs.declared.node.NodeId.{NodeId}
use Rattle.xfs_base.specs.declared.setup.Setup.{Setup}
use Rattle.xfs_base.specs.declared.token.Mode.TheVariants.{Copy}
use Rattle.xfs_base.specs.Modes.{is_nothing, same_mode}
use Rattle.quiet_nodes.specs.Scene.{ClientPart, serving_at}
use Rattle.quiet_nodes.proofs.Running.{runs_answered}
use Rattle.quiet_nodes.proofs.Settling.{Known, comes_in, note_clean_is}
use Rattle.quiet_reads.proofs.Evicting.{some_room, stays_in}

touched_is : (s : CacheState) (b : BlockId) → touch s b ≡ record { blocks = (touch s b).blocks; capacity = s.capacity }
touched_is s b =
    elim (is_clean s b) as (λ t. cond t (record { blocks = used_last b s.blocks; capacity = s.capacity }) s
    ≡ record { blocks = (cond t (record { blocks = used_last b s.blocks; capacity = s.capacity }) s).blocks; capacity = s.capacity }) [
      | true ↦ refl
      | false ↦ refl
    ]

module _ (setup : Setup) (works : NodeId → List Work) (c : ℕ) (p : ClientPart) (b : BlockId) (item : ℕ) (copy : Held) where
  abbrev pub copy_blocks : List (BlockId × Held)
  copy_blocks = put_held p.blocks b copy

  abbrev capacity : ℕ
  capacity = cached_upto setup.cache

  -- what is known of blocks once the copy is in the cache
  abbrev pub known : Known
  known = comes_in capacity (record { blocks = copy_blocks; cached = p.cached }) b

  abbrev pub copying : ClientPart
  copying = record p { blocks = copy_blocks; call = Some (call_new One (Get b)); item = Some item }

  abbrev pub cached_part : ClientPart
  cached_part = record copying { blocks = known.blocks; cached = known.cached }

  itself : held_of copy_blocks b ≡ copy
  itself = held_of-put_itself b copy p.blocks

  pub known_itself : held_of known.blocks b ≡ copy
  known_itself = stays_in capacity (some_room setup.cache) (record { blocks = copy_blocks; cached = p.cached }) b ∙ itself

  abbrev still_at : Serving → Done
  still_at s = record { state = s; outs = [] }

  pub ready_is : same_mode copy.mode Copy ≡ true
      → follow_one (serving_at setup works c copying) (Ready b) ≡ record { state = serving_at setup works c cached_part; outs = [] }
  unfolding follow_one note_copy
  ready_is is_copy =
      ap (λ (h : Held). still_at (cond (same_mode h.mode Copy) (note_clean (serving_at setup works c copying) b) (serving_at setup works c copying))) itself
      ∙ ap (λ t. still_at (cond t (note_clean (serving_at setup works c copying) b) (serving_at setup works c copying))) is_copy
      ∙ ap still_at (note_clean_is setup works c copying (record { blocks = copy_blocks; cached = p.cached }) b)

  -- ---- it is read

  abbrev its_cache : CacheState
  its_cache = record { blocks = known.cached; capacity = capacity }

  -- the client then
  abbrev pub read_part : ClientPart
  read_part = record cached_part { cached = (touch its_cache b).blocks; call = None; item = None }

  abbrev before : Serving
  before = serving_at setup works c (record cached_part { call = None })

  abbrev reads : List Effect
  reads = Does (acts.Read c b copy.ver (value_of copy)) ∷ []

  abbrev made : Serving → Made
  made s = record { done = record { state = s; outs = reads }; answer = Some (block.Got copy.ver (value_of copy)) }

  module _ (held : is_nothing copy.mode ≡ false) where
    get_makes : blocks_make before (Get b) ≡ made (serving_at setup works c (record cached_part { call = None; cached = (touch its_cache b).blocks }))
    unfolding blocks_make blocks_get
    get_makes =
        ap (λ (h : Held). cond (is_nothing h.mode) (blocks_need before b Copy) (got before b h)) known_itself
        ∙ ap (λ t. cond t (blocks_need before b Copy) (got before b copy)) held
        ∙ ap (λ cache. made (record before { cache = cache })) (touched_is its_cache b)

    pub runs_is : run (serving_at setup works c cached_part) ≡ record {
      state = serving_at setup works c read_part;
      outs = Does (acts.Read c b copy.ver (value_of copy)) ∷ Answer item (Got copy.ver (value_of copy)) ∷ [];
    }
    runs_is =
        runs_answered (serving_at setup works c cached_part) (Get b) refl
        (serving_at setup works c (record cached_part { call = None; cached = (touch its_cache b).blocks })) reads (block.Got copy.ver (value_of copy)) get_makes refl
