-- The open call runs: what is told of each of its calls on blocks, by how many versions each block has before it.
use Rattle.std.proofs.Common.{◌≡◌, ◌+◌, ℕ, zero, suc, List, [], ◌++◌, append-nil, append_assoc, Option, Some, None, inl, inr, refl, sym, ap, subst, ◌∙◌}
use Rattle.client_call.specs.Calls.{plan_answered}
use Rattle.client_call.specs.declared.call.Call.{Call}
use Rattle.client_call.specs.declared.call.Going.{Going}
use Rattle.client_call.specs.declared.call.Going.TheVariants.{On, Ends}
use Rattle.client_running.specs.Blocks.{Made, blocks_make}
use Rattle.client_running.specs.Running.{Ran, running_go_on, if_goes, most_steps, ran, run, run_once, run_upto}
use Rattle.client_serving.specs.declared.serving.Serving.{Serving}
use Rattle.client_serving.specs.Flights.{held_at}
use Rattle.client_serving.specs.Sends.{Done}
use Rattle.file_plan.specs.declared.block_call.BlockAnswer.{BlockAnswer}
use Rattle.file_plan.specs.declared.block_call.BlockAnswer.TheVariants as answers
use Rattle.file_plan.specs.declared.block_call.BlockCall.{BlockCall}
use Rattle.file_plan.specs.declared.block_call.BlockCall.TheVariants.{Get, Put, PutAt, Sync}
use Rattle.node_base.specs.declared.effects.Effect.{Effect}
use Rattle.node_base.specs.declared.items.Items.{Items}
use Rattle.node_slots.specs.node_tie.Asks.{needed_by}
use Rattle.serving_moves.specs.call_moves.Moves.{Fits}
use Rattle.token_client.specs.declared.held.Held.{Held}
use Rattle.version_model.specs.declared.act.Act.{Act}
use Rattle.version_model.specs.declared.answer.Answer.{Answer}
use Rattle.xfs_base.specs.declared.block.BlockId.{BlockId}
use Rattle.xfs_base.specs.declared.node.NodeId.{NodeId}
use Rattle.xfs_base.specs.declared.node.NodeId.TheVariants as nodes
use Rattle.xfs_base.specs.declared.token.Mode.{Mode}
use Rattle.xfs_base.specs.declared.token.Mode.TheVariants.{Copy, Own}
use Rattle.xfs_base.specs.Steps.{saying, still}
use Rattle.headline.specs.Calls.{IsAnswerTo, IsHeldAfter, IsHeldSince, answered_so, told, writes_of}
use Rattle.run_answers.proofs.change_law.Fresh.{AllValued, Fresh, IsOther, all_fresh, changed_other, got_held, made_whole}
use Rattle.run_answers.proofs.own_law.Filing.{acts_then, answered_are, its_acts}
use Rattle.run_answers.proofs.own_law.Holding.{Kept, Valued, after_more, made_after, on_keeps, since_kept}
use Rattle.run_answers.proofs.own_law.Moving.{HasMade, has_made, tells_acts}
use Rattle.run_answers.proofs.own_law.Running.{none_run}

-- a write at a named version that is told that it changed: the block has another then, or is held at another since; and a block that was read is held since
abbrev pub IsToldOther : (BlockId → ℕ) → (BlockId → Held) → BlockCall → BlockAnswer → List Act → Type 0
IsToldOther versions now (PutAt block named value) answers.Changed acts = IsOther versions now block named (writes_of block acts)
IsToldOther versions now (Get block) (answers.Got ver value) acts = IsHeldAfter (now block) ver (writes_of block acts)
IsToldOther versions now _ _ acts = Unit {0}

-- A stretch of one event, from where a call stands and each block has so many versions, behind which blocks are held so.
pub data Walk (client : ℕ) (item : Option ℕ) (now : BlockId → Held) : (BlockId → ℕ) → Going → List Act → Option Call → Type 0 where
  Waits : {versions : BlockId → ℕ} {call new : Call} → new.plan ≡ call.plan → new.step ≡ call.step → Walk client item now versions (On call) [] (Some new)
  Goes : {versions : BlockId → ℕ} {call : Call} {acts : List Act} {after : Option Call} (a : BlockAnswer) → IsAnswerTo call.step a
      → IsHeldSince now call.step a acts → IsToldOther versions now call.step a acts
      → Walk client item now (λ b. versions b + writes_of b (told client call.step a)) (plan_answered call.plan a) acts after
      → Walk client item now versions (On call) (told client call.step a ++ acts) after
  Ended : {versions : BlockId → ℕ} (a : Answer) → Walk client item now versions (Ends a) (answered_so (nodes.Client client) item a) None

-- what an answer tells is so behind all that comes of it in the event
other_more : (client : ℕ) (versions : BlockId → ℕ) (t : Serving) (d : Done) (block : BlockId) (named : ℕ) → IsOther versions (held_at t) block named 0
    → ((b : BlockId) → Valued b t → Kept b client t d) → IsOther versions (held_at d.state) block named (writes_of block (its_acts (nodes.Client client) d.outs))
other_more client versions t d block named (inl other) kept = inl other
other_more client versions t d block named (inr o) kept =
    inr (o.0, (o.1.0, after_more (held_at t block) (held_at d.state block) o.0 (writes_of block (its_acts (nodes.Client client) d.outs)) o.1.1 (kept block o.1.1.valued).keeps))

module _ (client : ℕ) (versions : BlockId → ℕ) (s : Serving) (d : Serving → Done) where
  changed_so : (block : BlockId) (named : ℕ) (value : Option (List ℕ)) → Fresh versions (Some (block, Own)) s
      → (blocks_make s (PutAt block named value)).answer ≡ Some answers.Changed
      → IsOther versions (held_at (blocks_make s (PutAt block named value)).done.state) block named 0
  unfolding blocks_make
  changed_so block named value fresh fact = changed_other versions s block named value fresh fact

  got_so : (block : BlockId) (ver : ℕ) (value : Option (List ℕ)) → Fresh versions (Some (block, Copy)) s → (blocks_make s (Get block)).answer ≡ Some (answers.Got ver value)
      → IsHeldAfter (held_at (blocks_make s (Get block)).done.state block) ver 0
  unfolding blocks_make
  got_so block ver value fresh fact = got_held versions s block ver value fact fresh

  told_other : (call : BlockCall) (a : BlockAnswer) → Fresh versions (needed_by call) s → (blocks_make s call).answer ≡ Some a
      → ((b : BlockId) → Valued b (blocks_make s call).done.state → Kept b client (blocks_make s call).done.state (d (blocks_make s call).done.state))
      → IsToldOther versions (held_at (d (blocks_make s call).done.state).state) call a (its_acts (nodes.Client client) (d (blocks_make s call).done.state).outs)
  told_other (PutAt block named value) answers.Changed fresh made keeps =
      let t : Serving = (blocks_make s (PutAt block named value)).done.state in
      other_more client versions t (d t) block named (changed_so block named value fresh made) keeps
  told_other (Get block) (answers.Got ver v) fresh made keeps =
      let t : Serving = (blocks_make s (Get block)).done.state in
      let was : IsHeldAfter (held_at t block) ver 0 = got_so block ver v fresh made in
      after_more (held_at t block) (held_at (d t).state block) ver (writes_of block (its_acts (nodes.Client client) (d t).outs)) was (keeps block was.valued).keeps
  told_other (PutAt block named value) (answers.Got ver v) fresh made keeps = tt
  told_other (PutAt block named value) (answers.Put ver) fresh made keeps = tt
  told_other (PutAt block named value) answers.Synced fresh made keeps = tt
  told_other (Put block value) a fresh made keeps = tt
  told_other (Get block) (answers.Put ver) fresh made keeps = tt
  told_other (Get block) answers.Changed fresh made keeps = tt
  told_other (Get block) answers.Synced fresh made keeps = tt
  told_other Sync a fresh made keeps = tt

-- what a call needs from where it stands
abbrev pub going_needs : Going → Option (BlockId × Mode)
going_needs (On call) = needed_by call.step
going_needs (Ends a) = None

module _ (client : ℕ) where
  -- so a call goes on from where it stands
  pub record Walked (versions : BlockId → ℕ) (s : Serving) (g : Going) (d : Done) : Type 0 where
    pub walk : Walk client s.lasting.items.unanswered (held_at d.state) versions g (its_acts (nodes.Client client) d.outs) d.state.call

  abbrev me : NodeId
  me = nodes.Client client

  -- it goes on, and then runs, so often at most
  abbrev on_and_runs : ℕ → Serving → Going → Done
  on_and_runs k s g = saying (running_go_on s g).outs (run_upto k (running_go_on s g).state)

  walked : (k : ℕ) (versions : BlockId → ℕ) (s : Serving) (g : Going) → s.lasting.number ≡ client → s.call ≡ None → Fresh versions (going_needs g) s
      → Walked versions s g (on_and_runs k s g)
  unfolding running_go_on run_upto run_once
  walked k versions s (Ends a) its none fresh = subst (Walked versions s (Ends a)) (ap (saying outs) (sym (none_run k t none))) now
    where
      t : Serving
      t = (running_go_on s (Ends a)).state

      outs : List Effect
      outs = (running_go_on s (Ends a)).outs

      now : Walked versions s (Ends a) (saying outs (still t))
      now = record {
        walk = subst (λ (call : Option Call). Walk client s.lasting.items.unanswered (held_at t) versions (Ends a) (its_acts me (outs ++ [])) call) (sym none)
            (subst (λ (acts : List Act). Walk client s.lasting.items.unanswered (held_at t) versions (Ends a) acts None)
            (sym (ap (its_acts me) (append-nil outs) ∙ answered_are me s.lasting.items.unanswered a)) (Ended a));
      }
  walked zero versions s (On call) its none fresh = record { walk = Waits refl refl }
  walked (suc k) versions s (On call) its none fresh = by (λ v t g numbered over so. walked k v t g numbered over so) m.answer refl
    where
      t : Serving
      t = record s { call = Some call }

      u : Serving
      u = record s { call = None }

      m : Made
      m = blocks_make u call.step

      made : HasMade me u call.step m
      made = has_made me u call.step refl

      -- the first turn
      once : (a : Option BlockAnswer) → m.answer ≡ a → run_once t ≡ ran call (record { done = m.done; answer = a })
      once a is = ap (λ (x : Option BlockAnswer). ran call (record { done = m.done; answer = x })) is

      upto : (a : Option BlockAnswer) → m.answer ≡ a → run_upto (suc k) t ≡ if_goes (ran call (record { done = m.done; answer = a })) (run_upto k)
      upto a is = ap (λ (r : Ran). if_goes r (run_upto k)) (once a is)

      by : ((v : BlockId → ℕ) (t : Serving) (g : Going) → t.lasting.number ≡ client → t.call ≡ None → Fresh v (going_needs g) t → Walked v t g (on_and_runs k t g))
          → (a : Option BlockAnswer) → m.answer ≡ a → Walked versions s (On call) (saying [] (run_upto (suc k) t))
      by rest None is = subst (Walked versions s (On call)) (sym (upto None is)) (record {
        walk = subst
            (λ (acts : List Act).
            Walk client s.lasting.items.unanswered (held_at (record m.done.state { call = Some call })) versions (On call) acts (Some call))
            (sym (ap (its_acts me) (append-nil m.done.outs) ∙ (made.acts ∙ ap (tells_acts me s.lasting.number call.step) is))) (Waits refl refl);
      })
      by rest (Some a) is = subst (Walked versions s (On call)) (sym (upto (Some a) is ∙ again)) (record { walk = first })
        where
          g : Done
          g = running_go_on m.done.state (plan_answered call.plan a)

          d : Done
          d = on_and_runs k m.done.state (plan_answered call.plan a)

          again : if_goes (ran call (record { done = m.done; answer = Some a })) (run_upto k) ≡ saying m.done.outs d
          again = ap (λ (outs : List Effect). record { state = (run_upto k g.state).state; outs = outs }) (append_assoc m.done.outs g.outs (run_upto k g.state).outs)

          keeps : (b : BlockId) → Valued b m.done.state → Kept b client m.done.state d
          keeps = on_keeps client k m.done.state (plan_answered call.plan a) (made.kept.number ∙ its)

          fits : IsAnswerTo call.step a
          fits = subst (Fits call.step) is made.fits

          whole : AllValued m.done.state
          whole = made_whole me versions u call.step a fits is fresh

          acted : its_acts me m.done.outs ≡ told client call.step a
          acted = made.acts ∙ (ap (tells_acts me s.lasting.number call.step) is ∙ ap (λ (n : ℕ). told n call.step a) its)

          more : Walk client s.lasting.items.unanswered (held_at d.state) (λ b. versions b + writes_of b (told client call.step a)) (plan_answered call.plan a)
              (its_acts me d.outs) d.state.call
          more = subst (λ (item : Option ℕ). Walk client item (held_at d.state) (λ b. versions b + writes_of b (told client call.step a)) (plan_answered call.plan a)
              (its_acts me d.outs) d.state.call) (ap (λ (items : Items). items.unanswered) made.kept.items)
              (rest (λ b. versions b + writes_of b (told client call.step a)) m.done.state (plan_answered call.plan a) (made.kept.number ∙ its) made.none
              (all_fresh (λ b. versions b + writes_of b (told client call.step a)) (going_needs (plan_answered call.plan a)) m.done.state whole)).walk

          first : Walk client s.lasting.items.unanswered (held_at d.state) versions (On call) (its_acts me (m.done.outs ++ d.outs)) d.state.call
          first =
              subst (λ (acts : List Act). Walk client s.lasting.items.unanswered (held_at d.state) versions (On call) acts d.state.call)
              (ap (λ (acts : List Act). acts ++ its_acts me d.outs) (sym acted) ∙ sym (acts_then me m.done.outs d.outs))
              (Goes a fits (since_kept client m.done.state d call.step a (made_after u call.step a is) keeps)
              (told_other client versions u (λ t. on_and_runs k t (plan_answered call.plan a)) call.step a fresh is keeps) more)

  -- it goes on so, and runs
  pub going_walks : (versions : BlockId → ℕ) (s : Serving) (g : Going) → s.lasting.number ≡ client → s.call ≡ None → Fresh versions (going_needs g) s
      → Walked versions s g (saying (running_go_on s g).outs (run (running_go_on s g).state))
  unfolding run
  going_walks versions s g its none fresh = walked most_steps versions s g its none fresh

  -- the open call runs
  pub open_walks : (versions : BlockId → ℕ) (s : Serving) (call : Call) → s.lasting.number ≡ client → s.call ≡ Some call → Fresh versions (needed_by call.step) s
      → Walked versions s (On call) (run s)
  unfolding run running_go_on
  open_walks versions s call its is fresh =
      let u : Serving = record s { call = None } in
      let whole : Walked versions u (On call) (run_upto most_steps (record s { call = Some call })) = walked most_steps versions u (On call) its refl fresh in
      let same : record s { call = Some call } ≡ s = ap (λ (o : Option Call). record s { call = o }) (sym is) in
      subst (λ (t : Serving). Walked versions s (On call) (run_upto most_steps t)) same (record { walk = whole.walk })
