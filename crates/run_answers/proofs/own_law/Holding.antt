-- What the calls on blocks of the open call make of a block that is held with a value: it stays held with one, and its version rises by one wherever it is written.
use Rattle.std.proofs.Common.{◌≡◌, ℕ, zero, suc, ◌+◌, ◌==◌, nat_lt, Bool, true, false, cond, if◌then◌else◌, List, [], ◌∷◌, ◌++◌, Option, Some, None, is_none, is_some, refl, sym, ap, subst, ◌∙◌, arith}
use Rattle.client_call.specs.Calls.{plan_answered}
use Rattle.client_call.specs.declared.call.Call.{Call}
use Rattle.client_call.specs.declared.call.Going.{Going}
use Rattle.client_call.specs.declared.call.Going.TheVariants.{On, Ends}
use Rattle.client_call.specs.Fitting.{put_fits}
use Rattle.client_running.specs.Blocks.{Made, changed, changes, blocks_change, got, blocks_get, held_back, is_settled, blocks_let_go, blocks_make, blocks_need, blocks_put, puts_again, blocks_put_at, blocks_sync, wrote}
use Rattle.client_running.specs.Running.{Ran, take_answer, running_go_on, runs_call, run_once, run_upto}
use Rattle.client_serving.specs.declared.serving.Serving.{Serving}
use Rattle.client_serving.specs.Flights.{held_at}
use Rattle.client_serving.specs.Follow.{serving_follow, follow_one, hand, note_gone, serving_seal}
use Rattle.client_serving.specs.Reads.{ends_reading}
use Rattle.client_serving.specs.Sends.{Done}
use Rattle.file_plan.specs.declared.block_call.BlockAnswer.{BlockAnswer}
use Rattle.file_plan.specs.declared.block_call.BlockAnswer.TheVariants as answers
use Rattle.file_plan.specs.declared.block_call.BlockCall.{BlockCall}
use Rattle.file_plan.specs.declared.block_call.BlockCall.TheVariants.{Get, Put, PutAt, Sync}
use Rattle.token_client.proofs.Tables.{held_of-put_itself, put_each}
use Rattle.token_client.specs.declared.held.Held.{Held}
use Rattle.token_client.specs.declared.output.Out.TheVariants.{Want}
use Rattle.token_client.specs.Held.{held_ask, let_go, may_evict, may_write, must_ask, held_write}
use Rattle.token_client.specs.State.{held_of, with_held}
use Rattle.token_client.specs.Transition as tokens
use Rattle.token_client.specs.Transition.{tokens_ask, on_evict, on_need, on_wrote}
use Rattle.version_model.specs.declared.act.Act.{Act}
use Rattle.version_model.specs.declared.act.Act.TheVariants as act
use Rattle.xfs_base.proofs.BlockOrder.{same_block_exact, same_block_itself}
use Rattle.xfs_base.proofs.Booleans.{by_test, contrary}
use Rattle.xfs_base.specs.Blocks.{same_block}
use Rattle.xfs_base.specs.declared.block.BlockId.{BlockId}
use Rattle.xfs_base.specs.declared.token.Mode.{Mode}
use Rattle.xfs_base.specs.declared.token.Mode.TheVariants.{Copy, Own}
use Rattle.xfs_base.specs.Limits.{u32_end}
use Rattle.xfs_base.specs.Modes.{is_held, is_nothing}
use Rattle.xfs_base.specs.Steps.{saying, still}
use Rattle.run_answers.proofs.act_law.Writing.{IsWritten, changes_put, put_tokens, puts_put}
use Rattle.run_answers.proofs.own_law.Filing.{acts_then, answered_are, its_acts}
use Rattle.run_answers.proofs.own_law.Moving.{HasMade, has_made, tells_acts}
use Rattle.headline.specs.Calls.{IsHeldAfter, IsHeldSince, answered_so, writes_of}
use Rattle.version_model.specs.declared.answer.Answer.{Answer}
use Rattle.xfs_base.specs.declared.node.NodeId.{NodeId}
use Rattle.xfs_base.specs.declared.node.NodeId.TheVariants as nodes

pub writes_then : (b : BlockId) (xs ys : List Act) → writes_of b (xs ++ ys) ≡ writes_of b xs + writes_of b ys
writes_then b [] ys = omega arith
writes_then b (act.Wrote client block value ∷ xs) ys = by (writes_then b xs ys) (same_block block b)
  where
    by : writes_of b (xs ++ ys) ≡ writes_of b xs + writes_of b ys → (t : Bool)
        → cond t (suc (writes_of b (xs ++ ys))) (writes_of b (xs ++ ys)) ≡ cond t (suc (writes_of b xs)) (writes_of b xs) + writes_of b ys
    by more true = omega arith
    by more false = more
writes_then b (_ ∷ xs) ys = writes_then b xs ys

-- it stays as it was; or held with a value, so many versions on
pub record Same (h g : Held) : Type 0 where
  pub mode : g.mode ≡ h.mode
  pub ver : g.ver ≡ h.ver
  pub value : g.value ≡ h.value

pub record Keeps (h g : Held) (more : ℕ) : Type 0 where
  pub held : is_held h.mode ≡ true → is_held g.mode ≡ true
  pub valued : is_some g.value ≡ true
  pub ver : g.ver ≡ h.ver + more

same_keeps : (h g : Held) → is_some h.value ≡ true → Same h g → Keeps h g 0
same_keeps h g valued same = record {
  held = λ held. ap is_held same.mode ∙ held;
  valued = ap is_some same.value ∙ valued;
  ver = (let ver = same.ver in omega arith);
}

keeps_on : (h g f : Held) (more further : ℕ) → Keeps h g more → Keeps g f further → Keeps h f (more + further)
keeps_on h g f more further a b = record {
  held = λ held. b.held (a.held held);
  valued = b.valued;
  ver = (let first = a.ver in let second = b.ver in omega arith);
}

module _ (b : BlockId) where
  abbrev pub Valued : Serving → Type 0
  Valued s = is_some (held_at s b).value ≡ true

  abbrev Stays : Serving → Serving → Type 0
  Stays s t = Same (held_at s b) (held_at t b)

  pub itself : (h : Held) → Same h h
  itself h = record { mode = refl; ver = refl; value = refl }

  -- ---- one call on blocks

  pub needs_stays : (s : Serving) (block : BlockId) (mode : Mode) → Stays s (blocks_need s block mode).done.state
  unfolding hand serving_follow follow_one on_need tokens_ask
  needs_stays s block mode =
      by_test After (must_ask (held_of s.tokens.blocks block) mode) (tokens_ask s.tokens block mode) (still s.tokens)
      (λ _. by_test After (nat_lt s.tokens.req u32_end)
      (record { state = record (with_held s.tokens block wanted) { req = s.tokens.req + 1 }; outs = Want block (s.tokens.req + 1) 0 mode ∷ [] }) (still s.tokens)
      (λ _. put_each (λ q h. Same (held_of s.tokens.blocks q) h) block wanted s.tokens.blocks (record { mode = refl; ver = refl; value = refl })
      (λ q. itself (held_of s.tokens.blocks q)) b) (λ _. itself (held_at s b)))
      (λ _. itself (held_at s b))
    where
      wanted : Held
      wanted = held_ask (held_of s.tokens.blocks block) (s.tokens.req + 1) mode

      After : tokens.Done → Type 0
      After d = Stays s (serving_follow (ends_reading (record s { tokens = d.state })) d.outs).state

  -- what has no value is let go, and that only
  lets_go_stays : (s : Serving) (block : BlockId) → Valued s → Stays s (blocks_let_go s block)
  unfolding note_gone on_evict
  lets_go_stays s block valued =
      by_test (Stays s) (is_none (held_at s block).value) (note_gone t block) s (λ none. gone none) (λ _. itself (held_at s b))
    where
      t : Serving
      t = record s { tokens = (on_evict s.tokens block).state }

      no_value : (o : Option (Option (List ℕ))) → is_none o ≡ true → is_some o ≡ true → ⊥
      no_value None none some = contrary some
      no_value (Some v) none some = contrary none

      evicted : is_none (held_at s block).value ≡ true → Stays s t
      evicted none =
          by_test (λ (d : tokens.Done). Same (held_at s b) (held_of d.state.blocks b)) (may_evict (held_of s.tokens.blocks block))
          (still (with_held s.tokens block (let_go (held_of s.tokens.blocks block)))) (still s.tokens)
          (λ _. put_each (λ q h. is_some (held_of s.tokens.blocks q).value ≡ true → Same (held_of s.tokens.blocks q) h) block
          (let_go (held_of s.tokens.blocks block)) s.tokens.blocks (λ some. absurd (no_value (held_at s block).value none some))
          (λ q _. itself (held_of s.tokens.blocks q)) b valued)
          (λ _. itself (held_at s b))

      gone : is_none (held_at s block).value ≡ true → Stays s (note_gone t block)
      gone none = by_test (Stays s) (is_nothing (held_of t.tokens.blocks block).mode) _ t (λ _. evicted none) (λ _. evicted none)

  changes_keep : (s : Serving) (block : BlockId) (value : Option (List ℕ)) → may_write (held_at s block) ≡ true → Valued s
      → Keeps (held_at s b) (held_at (changes s block value).done.state b) (if same_block block b then 1 else 0)
  unfolding changes on_wrote
  changes_keep s block value may valued =
      subst (λ (h : Held). Keeps (held_at s b) h (if same_block block b then 1 else 0)) (sym after)
      (by_test (λ (d : tokens.Done). Keeps (held_at s b) (held_of d.state.blocks b) (if same_block block b then 1 else 0)) (may_write (held_at s block))
      (still (with_held s.tokens block now)) (still s.tokens) (λ _. by (same_block block b) refl) (λ none. contrary (sym none ∙ may)))
    where
      w : Serving
      w = wrote s block value

      now : Held
      now = held_write (held_at s block) value

      after : held_at (changes s block value).done.state b ≡ held_at w b
      after = ap (λ t. held_of t.blocks b) (put_tokens w block (record { ver = (held_at w block).ver; hop = 0; place = None }) value)

      own : block ≡ b → Keeps (held_at s b) (held_of (with_held s.tokens block now).blocks b) 1
      own same =
          subst (λ (q : BlockId). Keeps (held_at s q) (held_of (with_held s.tokens block now).blocks q) 1) same
          (subst (λ (h : Held). Keeps (held_at s block) h 1) (sym (held_of-put_itself block now s.tokens.blocks))
          (record { held = λ held. held; valued = refl; ver = refl }))

      other : same_block block b ≡ false → Same (held_at s b) (held_of (with_held s.tokens block now).blocks b)
      other apart =
          put_each (λ q h. same_block block q ≡ false → Same (held_of s.tokens.blocks q) h) block now s.tokens.blocks
          (λ none. contrary (sym none ∙ same_block_itself block)) (λ q _. itself (held_of s.tokens.blocks q)) b apart

      by : (t : Bool) → same_block block b ≡ t → Keeps (held_at s b) (held_of (with_held s.tokens block now).blocks b) (cond t 1 0)
      by true same = own (sym (same_block_exact block b same))
      by false apart = same_keeps (held_at s b) (held_of (with_held s.tokens block now).blocks b) valued (other apart)

  -- what is acted by it
  abbrev wrote_by : NodeId → Serving → BlockCall → Made → ℕ
  wrote_by node s call m = writes_of b (tells_acts node s.lasting.number call m.answer)

  abbrev pub MadeKeeps : NodeId → Serving → BlockCall → Made → Type 0
  MadeKeeps node s call m = Keeps (held_at s b) (held_at m.done.state b) (wrote_by node s call m)

  module _ (node : NodeId) (s : Serving) (valued : Valued s) where
    none_written : (t : Serving) → Stays s t → Keeps (held_at s b) (held_at t b) 0
    none_written t stays = same_keeps (held_at s b) (held_at t b) valued stays

    gets_keep : (block : BlockId) → MadeKeeps node s (Get block) (blocks_get s block)
    unfolding blocks_get
    gets_keep block =
        by_test (MadeKeeps node s (Get block)) (is_nothing (held_at s block).mode) (blocks_need s block Copy) (got s block (held_at s block))
        (λ _. none_written (blocks_need s block Copy).done.state (needs_stays s block Copy)) (λ _. none_written s (itself (held_at s b)))

    put_keeps : (block : BlockId) (value : Option (List ℕ)) → may_write (held_at s block) ≡ true → MadeKeeps node s (Put block value) (blocks_change s block value)
    unfolding blocks_change changes
    put_keeps block value may =
        by_test (MadeKeeps node s (Put block value)) (put_fits block ((held_at s block).ver + 1) value) (changes s block value) (held_back s block)
        (λ _. changes_keep s block value may valued) (λ _. none_written (blocks_let_go s block) (lets_go_stays s block valued))

    put_at_keeps : (block : BlockId) (named : ℕ) (value : Option (List ℕ)) → may_write (held_at s block) ≡ true
        → MadeKeeps node s (PutAt block named value) (blocks_change s block value)
    unfolding blocks_change changes
    put_at_keeps block named value may =
        by_test (MadeKeeps node s (PutAt block named value)) (put_fits block ((held_at s block).ver + 1) value) (changes s block value) (held_back s block)
        (λ _. changes_keep s block value may valued) (λ _. none_written (blocks_let_go s block) (lets_go_stays s block valued))

    puts_keep : (block : BlockId) (value : Option (List ℕ)) → MadeKeeps node s (Put block value) (blocks_put s block value)
    unfolding blocks_put
    puts_keep block value =
        by_test (MadeKeeps node s (Put block value)) (may_write (held_at s block)) (blocks_change s block value) (blocks_need s block Own)
        (λ may. put_keeps block value may) (λ _. none_written (blocks_need s block Own).done.state (needs_stays s block Own))

    again_keeps : (block : BlockId) (named : ℕ) (value : Option (List ℕ)) → may_write (held_at s block) ≡ true
        → MadeKeeps node s (PutAt block named value) (puts_again s block named value)
    again_keeps block named value may =
        by_test (MadeKeeps node s (PutAt block named value)) ((held_at s block).ver == named) (blocks_change s block value) (changed s block)
        (λ _. put_at_keeps block named value may) (λ _. none_written (blocks_let_go s block) (lets_go_stays s block valued))

    puts_at_keep : (block : BlockId) (named : ℕ) (value : Option (List ℕ)) → MadeKeeps node s (PutAt block named value) (blocks_put_at s block named value)
    unfolding blocks_put_at
    puts_at_keep block named value =
        by_test (MadeKeeps node s (PutAt block named value)) (may_write (held_at s block)) (puts_again s block named value) (blocks_need s block Own)
        (λ may. again_keeps block named value may) (λ _. none_written (blocks_need s block Own).done.state (needs_stays s block Own))

    syncs_keep : MadeKeeps node s Sync (blocks_sync s)
    unfolding blocks_sync serving_seal
    syncs_keep = by (is_settled (serving_seal s).state)
      where
        by : (t : Bool) → Keeps (held_at s b) (held_at s b)
            (writes_of b (tells_acts node s.lasting.number Sync (if t then Some answers.Synced else None)))
        by true = none_written s (itself (held_at s b))
        by false = none_written s (itself (held_at s b))

    pub makes_keep : (call : BlockCall) → MadeKeeps node s call (blocks_make s call)
    unfolding blocks_make
    makes_keep (Get block) = gets_keep block
    makes_keep (Put block value) = puts_keep block value
    makes_keep (PutAt block named value) = puts_at_keep block named value
    makes_keep Sync = syncs_keep

  -- ---- the open call runs

  module _ (client : ℕ) where
    abbrev me : NodeId
    me = nodes.Client client

    pub record Kept (s : Serving) (d : Done) : Type 0 where
      pub number : d.state.lasting.number ≡ client
      pub keeps : Keeps (held_at s b) (held_at d.state b) (writes_of b (its_acts me d.outs))

    kept_still : (s : Serving) → s.lasting.number ≡ client → Valued s → Kept s (still s)
    kept_still s its valued = record { number = its; keeps = same_keeps (held_at s b) (held_at s b) valued (itself (held_at s b)) }

    kept_then : (s : Serving) (d x : Done) → Kept s d → Kept d.state x → Kept s (saying d.outs x)
    kept_then s d x a k = record {
      number = k.number;
      keeps = subst (Keeps (held_at s b) (held_at x.state b))
          (sym (ap (writes_of b) (acts_then me d.outs x.outs) ∙ writes_then b (its_acts me d.outs) (its_acts me x.outs)))
          (keeps_on (held_at s b) (held_at d.state b) (held_at x.state b) (writes_of b (its_acts me d.outs)) (writes_of b (its_acts me x.outs)) a.keeps k.keeps);
    }

    no_writes : (item : Option ℕ) (a : Answer) → writes_of b (answered_so me item a) ≡ 0
    no_writes None a = refl
    no_writes (Some item) a = refl

    -- where it goes on, its blocks stay
    pub goes_keeps : (s : Serving) (g : Going) → s.lasting.number ≡ client → Valued s → Kept s (running_go_on s g)
    unfolding running_go_on
    goes_keeps s (On call) its valued = record { number = its; keeps = same_keeps (held_at s b) (held_at s b) valued (itself (held_at s b)) }
    goes_keeps s (Ends a) its valued = record {
      number = its;
      keeps = subst (Keeps (held_at s b) (held_at s b))
          (sym (ap (writes_of b) (answered_are me s.lasting.items.unanswered a) ∙ no_writes s.lasting.items.unanswered a))
          (same_keeps (held_at s b) (held_at s b) valued (itself (held_at s b)));
    }

    answers_keep : (s : Serving) (call : Call) (a : Option BlockAnswer) → s.lasting.number ≡ client → Valued s → Kept s (take_answer s call a).done
    answers_keep s call None its valued = record { number = its; keeps = same_keeps (held_at s b) (held_at s b) valued (itself (held_at s b)) }
    answers_keep s call (Some a) its valued = goes_keeps s (plan_answered call.plan a) its valued

    call_keeps : (s : Serving) (o : Option Call) → s.lasting.number ≡ client → Valued s → Kept s (runs_call s o).done
    call_keeps s None its valued = kept_still s its valued
    call_keeps s (Some call) its valued = kept_then s m.done (take_answer m.done.state call m.answer).done first
        (answers_keep m.done.state call m.answer first.number first.keeps.valued)
      where
        u : Serving
        u = record s { call = None }

        m : Made
        m = blocks_make u call.step

        made : HasMade me u call.step m
        made = has_made me u call.step refl

        first : Kept s m.done
        first = record {
          number = made.kept.number ∙ its;
          keeps = subst (Keeps (held_at s b) (held_at m.done.state b)) (ap (writes_of b) (sym made.acts)) (makes_keep me u valued call.step);
        }

    pub upto_keeps : (k : ℕ) (s : Serving) → s.lasting.number ≡ client → Valued s → Kept s (run_upto k s)
    unfolding run_upto run_once
    upto_keeps zero s its valued = kept_still s its valued
    upto_keeps (suc k) s its valued =
        let r : Ran = run_once s in
        let first : Kept s r.done = call_keeps s s.call its valued in
        let rest : Kept r.done.state (run_upto k r.done.state) = upto_keeps k r.done.state first.number first.keeps.valued in
        by_test (Kept s) r.goes (saying r.done.outs (run_upto k r.done.state)) r.done (λ _. kept_then s r.done (run_upto k r.done.state) first rest) (λ _. first)

-- ---- what was written is held since

written_after : (t : Serving) (block : BlockId) (value : Option (List ℕ)) (ver : ℕ) → IsWritten t.tokens block value ver → IsHeldAfter (held_at t block) ver 0
written_after t block value ver was = record {
  held = was.held;
  valued = ap is_some was.content;
  version = (let version = was.version in omega arith);
}

pub after_more : (h g : Held) (ver more : ℕ) → IsHeldAfter h ver 0 → Keeps h g more → IsHeldAfter g ver more
after_more h g ver more after keeps = record {
  held = keeps.held after.held;
  valued = keeps.valued;
  version = (let first = after.version in let second = keeps.ver in omega arith);
}

puts_at_put : (s : Serving) (block : BlockId) (named : ℕ) (value : Option (List ℕ)) (ver : ℕ) → (blocks_put_at s block named value).answer ≡ Some (answers.Put ver)
    → IsWritten (blocks_put_at s block named value).done.state.tokens block value ver
unfolding blocks_put_at blocks_change
puts_at_put s block named value ver =
    by_test Puts (may_write (held_at s block)) (puts_again s block named value) (blocks_need s block Own)
    (λ may. by_test Puts ((held_at s block).ver == named) (blocks_change s block value) (changed s block)
    (λ _. by_test Puts (put_fits block ((held_at s block).ver + 1) value) (changes s block value) (held_back s block)
    (λ _ fact. changes_put s block value may ver fact) (λ _ none. absurd cc)) (λ _ other. absurd cc)) (λ _ none. absurd cc)
  where
    Puts : Made → Type 0
    Puts m = m.answer ≡ Some (answers.Put ver) → IsWritten m.done.state.tokens block value ver

-- behind its call on blocks
pub made_after : (s : Serving) (call : BlockCall) (a : BlockAnswer) → (blocks_make s call).answer ≡ Some a → IsHeldSince (held_at (blocks_make s call).done.state) call a []
unfolding blocks_make
made_after s (Put block value) (answers.Put ver) made =
    written_after (blocks_put s block value).done.state block value ver (puts_put s block value ver made)
made_after s (PutAt block named value) (answers.Put ver) made =
    written_after (blocks_put_at s block named value).done.state block value ver (puts_at_put s block named value ver made)
made_after s (Put block value) (answers.Got ver v) made = tt
made_after s (Put block value) answers.Changed made = tt
made_after s (Put block value) answers.Synced made = tt
made_after s (PutAt block named value) (answers.Got ver v) made = tt
made_after s (PutAt block named value) answers.Changed made = tt
made_after s (PutAt block named value) answers.Synced made = tt
made_after s (Get block) (answers.Got ver v) made = tt
made_after s (Get block) (answers.Put ver) made = tt
made_after s (Get block) answers.Changed made = tt
made_after s (Get block) answers.Synced made = tt
made_after s Sync (answers.Got ver v) made = tt
made_after s Sync (answers.Put ver) made = tt
made_after s Sync answers.Changed made = tt
made_after s Sync answers.Synced made = tt

-- and behind all that comes of it in the event
pub since_kept : (client : ℕ) (t : Serving) (d : Done) (call : BlockCall) (a : BlockAnswer) → IsHeldSince (held_at t) call a []
    → ((b : BlockId) → Valued b t → Kept b client t d) → IsHeldSince (held_at d.state) call a (its_acts (nodes.Client client) d.outs)
since_kept client t d (Put block value) (answers.Put ver) after kept =
    after_more (held_at t block) (held_at d.state block) ver (writes_of block (its_acts (nodes.Client client) d.outs)) after (kept block after.valued).keeps
since_kept client t d (PutAt block named value) (answers.Put ver) after kept =
    after_more (held_at t block) (held_at d.state block) ver (writes_of block (its_acts (nodes.Client client) d.outs)) after (kept block after.valued).keeps
since_kept client t d (Put block value) (answers.Got ver v) after kept = tt
since_kept client t d (Put block value) answers.Changed after kept = tt
since_kept client t d (Put block value) answers.Synced after kept = tt
since_kept client t d (PutAt block named value) (answers.Got ver v) after kept = tt
since_kept client t d (PutAt block named value) answers.Changed after kept = tt
since_kept client t d (PutAt block named value) answers.Synced after kept = tt
since_kept client t d (Get block) (answers.Got ver v) after kept = tt
since_kept client t d (Get block) (answers.Put ver) after kept = tt
since_kept client t d (Get block) answers.Changed after kept = tt
since_kept client t d (Get block) answers.Synced after kept = tt
since_kept client t d Sync (answers.Got ver v) after kept = tt
since_kept client t d Sync (answers.Put ver) after kept = tt
since_kept client t d Sync answers.Changed after kept = tt
since_kept client t d Sync answers.Synced after kept = tt

-- it goes on, and then runs
pub on_keeps : (client k : ℕ) (s : Serving) (g : Going) → s.lasting.number ≡ client → (b : BlockId) → Valued b s
    → Kept b client s (saying (running_go_on s g).outs (run_upto k (running_go_on s g).state))
on_keeps client k s g its b valued =
    let first : Kept b client s (running_go_on s g) = goes_keeps b client s g its valued in
    kept_then b client s (running_go_on s g) (run_upto k (running_go_on s g).state) first
    (upto_keeps b client k (running_go_on s g).state first.number first.keeps.valued)
