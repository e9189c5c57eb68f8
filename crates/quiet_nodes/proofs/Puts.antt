-- A block that may be written is written, where fewer than 24 wait then.
use Rattle.std.proofs.Common.{◌≡◌, ℕ, ◌+◌, ◌&&◌, ◌||◌, not, Bool, true, false, cond, nat_le, List, [], ◌∷◌, length, Option, Some, None, refl, ap, ◌∙◌}
use Rattle.indexmap.specs.IndexMap.{insert_entry}
use Rattle.client_running.specs.Blocks.{Made, changes, blocks_change, blocks_make, put_of, blocks_put, wrote}
use Rattle.client_log.specs.declared.input.In.TheVariants as log_in
use Rattle.client_log.specs.LogState.{LogState}
use Rattle.client_log.specs.Transition as log
use Rattle.log_owner.specs.Sealing.{is_settling}
use Rattle.client_serving.specs.Flights.{held_at}
use Rattle.client_serving.specs.Sends.{Done}
use Rattle.std.specs.List.{list_any}
use Rattle.xfs_base.specs.declared.entry.Entry.{Entry}
use Rattle.xfs_base.specs.Steps.{saying, steps, still}
use Rattle.client_call.specs.Fitting.{put_fits}
use Rattle.client_serving.specs.declared.serving.Serving.{Serving}
use Rattle.client_serving.specs.Flights as flights
use Rattle.coop_cache.specs.Transition.{without}
use Rattle.file_plan.specs.declared.block_call.BlockAnswer.TheVariants as block
use Rattle.file_plan.specs.declared.block_call.BlockCall.TheVariants.{Put}
use Rattle.log_flight.specs.declared.dirty.Change.{Change}
use Rattle.node_base.specs.declared.effects.Effect.{Effect}
use Rattle.node_base.specs.declared.effects.Effect.TheVariants.{Does}
use Rattle.token_client.proofs.Tables.{held_of-put_itself}
use Rattle.token_client.specs.declared.held.Held.{Held}
use Rattle.token_client.specs.Held.{may_write, held_write}
use Rattle.token_client.specs.State.{held_of, put_held}
use Rattle.token_client.specs.Transition.{on_wrote}
use Rattle.version_model.specs.declared.act.Act.TheVariants as acts
use Rattle.version_model.specs.declared.work.Work.{Work}
use Rattle.xfs_base.specs.Blocks.{same_block}
use Rattle.xfs_base.specs.declared.block.BlockId.{BlockId}
use Rattle.xfs_base.specs.declared.node.NodeId.{NodeId}
use Rattle.xfs_base.specs.declared.setup.Setup.{Setup}
use Rattle.quiet_nodes.specs.Scene.{ClientPart, serving_at}

-- ---- what is put waits, where the log isn't full then

module _ (l : LogState) (b : BlockId) (change : Change) (not_full : nat_le 24 (length (insert_entry same_block l.dirty b change)) ≡ false) where
  and_none : (t : Bool) → (t && false) ≡ false
  and_none true = refl
  and_none false = refl

  isn't_full : log.is_full (log.waits l b change) ≡ false
  isn't_full = ap (λ t. log.is_idle l && t) not_full ∙ and_none (log.is_idle l)

  stays : log.log_go_on (log.waits l b change) ≡ still (log.waits l b change)
  unfolding log.log_go_on
  stays = ap (λ t. cond t (log.log_seal (log.waits l b change)) (still (log.waits l b change))) isn't_full

  pub put_waits : log.on_put l b change ≡ still (log.waits l b change)
  unfolding log.on_put
  put_waits =
      ap (λ t. cond (not t || log.has_next l.end.seq) (log.log_go_on (log.waits l b change)) (still l)) isn't_full
      ∙ stays

module _ (s : Serving) (b : BlockId) (entry : Entry) (value : Option (List ℕ))
    (not_full : nat_le 24 (length (insert_entry same_block s.log.dirty b (record { entry = entry; value = value }))) ≡ false) where
  abbrev following : log.Done → Done
  following r = (let d = steps flights.write_one (record s { log = r.state }) r.outs in saying d.outs (flights.seals_again d.state (list_any is_settling r.outs)))

  pub put_writes : flights.serving_write s (log_in.Put b entry value)
      ≡ record { state = record s { log = log.waits s.log b (record { entry = entry; value = value }) }; outs = [] }
  unfolding flights.serving_write
  put_writes = ap following (put_waits s.log b (record { entry = entry; value = value }) not_full)

module _ (q : ClientPart) (b : BlockId) (value : Option (List ℕ)) where
  -- what is known of the block
  abbrev pub held_now : Held
  held_now = held_of q.blocks b

  abbrev change : Change
  change = record { entry = record { ver = held_now.ver + 1; hop = 0; place = None }; value = value }

  abbrev pub waiting_then : List (BlockId × Change)
  waiting_then = insert_entry same_block q.dirty b change

  -- the client once it is written, and the call isn't open
  abbrev pub put_part : ClientPart
  put_part = record q { blocks = put_held q.blocks b (held_write held_now value); dirty = waiting_then; cached = without b q.cached; call = None }

abbrev pub writes : ℕ → BlockId → Option (List ℕ) → List Effect
writes c b value = Does (acts.Wrote c b value) ∷ []

module _ (setup : Setup) (works : NodeId → List Work) (c : ℕ) (q : ClientPart) (b : BlockId) (value : Option (List ℕ)) where
  abbrev pub its_held : Held
  its_held = held_of q.blocks b

  abbrev pub before : Serving
  before = serving_at setup works c (record q { call = None })

  -- the client that knows of the block what it wrote
  abbrev pub now : Serving
  now = serving_at setup works c (record q { call = None; blocks = put_held q.blocks b (held_write its_held value); cached = without b q.cached })

  pub itself : held_of (put_held q.blocks b (held_write its_held value)) b ≡ held_write its_held value
  itself = held_of-put_itself b (held_write its_held value) q.blocks

  pub wrote_is : may_write its_held ≡ true → wrote before b value ≡ now
  unfolding on_wrote
  wrote_is may = rw may refl

  pub puts_is : may_write its_held ≡ true → put_fits b (its_held.ver + 1) value ≡ true → blocks_make before (Put b value) ≡ changes before b value
  unfolding blocks_make blocks_put blocks_change
  puts_is may fits = rw (may, fits) refl

  abbrev pub made : Done → ℕ → Made
  made d ver = record { done = d; answer = Some (block.Put ver) }

  abbrev pub changing : Serving → Made
  changing w = made (record { state = (put_of w b value).state; outs = Does (acts.Wrote c b value) ∷ (put_of w b value).outs }) (held_at w b).ver

  pub changes_are : changes before b value ≡ changing (wrote before b value)
  unfolding changes
  changes_are = refl

  module _ (may : may_write its_held ≡ true) (fits : put_fits b (its_held.ver + 1) value ≡ true)
      (not_full : nat_le 24 (length (waiting_then q b value)) ≡ false) where
    waits_is : put_of now b value ≡ record { state = serving_at setup works c (put_part q b value); outs = [] }
    waits_is =
        ap (λ v. flights.serving_write now (log_in.Put b (record { ver = v; hop = 0; place = None }) value)) (ap (λ (h : Held). h.ver) itself)
        ∙ put_writes now b (record { ver = its_held.ver + 1; hop = 0; place = None }) value not_full

    pub put_makes : blocks_make before (Put b value) ≡ record {
      done = record { state = serving_at setup works c (put_part q b value); outs = writes c b value };
      answer = Some (block.Put (its_held.ver + 1));
    }
    put_makes =
        puts_is may fits
        ∙ changes_are
        ∙ ap changing (wrote_is may)
        ∙ ap (λ (d : Done). made (record { state = d.state; outs = Does (acts.Wrote c b value) ∷ d.outs }) (held_at now b).ver) waits_is
        ∙ ap (λ (h : Held). made (record { state = serving_at setup works c (put_part q b value); outs = writes c b value }) h.ver) itself
