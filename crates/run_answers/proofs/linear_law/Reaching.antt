-- Where a write stands in a stretch: the answers before it lead its call to it, and the block that it writes is held since.
use Rattle.std.proofs.Common.{◌≡◌, ℕ, List, [], ◌∷◌, ◌++◌, append-nil, append_assoc, Option, Some, None, refl, sym, ap, subst, ◌∙◌}
use Rattle.client_call.specs.declared.call.Call.{Call}
use Rattle.client_call.specs.declared.call.Going.{Going}
use Rattle.client_call.specs.declared.call.Going.TheVariants.{On}
use Rattle.file_plan.specs.declared.block_call.BlockAnswer.{BlockAnswer}
use Rattle.file_plan.specs.declared.block_call.BlockAnswer.TheVariants.{Got, Changed, Synced}
use Rattle.file_plan.specs.declared.block_call.BlockAnswer.TheVariants.{Put as Written}
use Rattle.file_plan.specs.declared.block_call.BlockCall.{BlockCall}
use Rattle.file_plan.specs.declared.block_call.BlockCall.TheVariants.{Get, Put, PutAt, Sync}
use Rattle.file_plan.specs.declared.block_call.Next.TheVariants.{Step}
use Rattle.token_client.specs.declared.held.Held.{Held}
use Rattle.version_model.specs.declared.act.Act.{Act}
use Rattle.version_model.specs.declared.act.Act.TheVariants as act
use Rattle.xfs_base.specs.declared.block.BlockId.{BlockId}
use Rattle.run_answers.proofs.linear_law.Courses.{At, PlanAt, after_at}
use Rattle.run_answers.proofs.linear_law.Stretches.{TellsOf, tells_of}
use Rattle.run_answers.proofs.linear_law.Stretches.TellsOf.{Nothing, One}
use Rattle.run_answers.proofs.own_law.Whole.{blocks_then, its_told}
use Rattle.headline.specs.Calls.{EventStretch, IsAnswerTo, IsHeldAfter, IsHeldSince, Stretch, told, writes_of}
use Rattle.headline.specs.Calls.EventStretch.{Awaits, Follows, Concludes}
use Rattle.headline.specs.Calls.Stretch.{Waits, Told}
use Rattle.headline.specs.Courses.{Doing}
use Rattle.headline.specs.ItemActs.{blocks_by}
use Rattle.headline.specs.Updates.{AreTold}

module _ (does : Doing) (client : ℕ) where
  -- ---- answers, one behind another

  pub told_then : (had answers more : List BlockAnswer) (xs ys : List Act) → AreTold client does had answers xs → AreTold client does (had ++ answers) more ys
      → AreTold client does had (answers ++ more) (xs ++ ys)
  told_then had [] more xs ys none then_told =
      subst (λ (acts : List Act). AreTold client does had more (acts ++ ys)) (sym none)
      (subst (λ (h : List BlockAnswer). AreTold client does h more ys) (append-nil had) then_told)
  told_then had (x ∷ answers) more xs ys t then_told = (
    t.0,
    t.1 ++ ys,
    t.2,
    t.3,
    ap (λ (acts : List Act). acts ++ ys) t.4 ∙ append_assoc (told client t.0 x) t.1 ys,
    told_then (had ++ x ∷ []) answers more t.1 ys t.5
        (subst (λ (h : List BlockAnswer). AreTold client does h more ys) (sym (append_assoc had (x ∷ []) answers)) then_told),
  )

  -- ---- the open call of an item, by all that it acted since it began

  pub record Stands (had : List BlockAnswer) (acts : List Act) (call : Call) : Type 0 where
    pub answers : List BlockAnswer
    pub so_far : AreTold client does had answers acts
    pub at : At does (had ++ answers) (On call)

  pub stands : {item : Option ℕ} {g : Going} {acts : List Act} {call : Call} → Stretch client item g acts (Some call) → (had : List BlockAnswer) → At does had g
      → Stands had acts call
  stands {call = new} (Waits {call = call} plan step) had at = record {
    answers = [];
    so_far = refl;
    at = subst (λ (h : List BlockAnswer). At does h (On new)) (sym (append-nil had)) (same_at had call new plan step at);
  }
    where
      same_at : (h : List BlockAnswer) (old now : Call) → now.plan ≡ old.plan → now.step ≡ old.step → At does h (On old) → At does h (On now)
      same_at h old now plan step at = (at.0 ∙ ap Step (sym step), subst (λ p. PlanAt does h p) (sym plan) at.1)
  stands {call = last} (Told {call = call} {acts = rest} x fits more) had at = by (stands more (had ++ x ∷ []) (after_at does had call.plan x at.1))
    where
      by : Stands (had ++ x ∷ []) rest last → Stands had (told client call.step x ++ rest) last
      by s = record {
        answers = x ∷ s.answers;
        so_far = (call.step, rest, at.0, fits, refl, s.so_far);
        at = subst (λ (h : List BlockAnswer). At does h (On last)) (append_assoc had (x ∷ []) s.answers) s.at;
      }

  -- ---- a write in an event

  -- by these answers it comes to a call on blocks, which is answered so, and acts this write; the block is held since
  pub record Reached (now : BlockId → Held) (had : List BlockAnswer) (before behind : List Act) (block : BlockId) (value : Option (List ℕ)) : Type 0 where
    pub answers : List BlockAnswer
    pub so_far : AreTold client does had answers before
    pub step : BlockCall
    pub next : does (had ++ answers) ≡ Step step
    pub ver : ℕ
    pub writes : told client step (Written ver) ≡ act.Wrote client block value ∷ []
    pub fits : IsAnswerTo step (Written ver)
    pub held : IsHeldAfter (now block) ver (writes_of block behind)

  -- it writes nothing
  no_write : (before behind : List Act) (block : BlockId) (value : Option (List ℕ)) → [] ≡ before ++ act.Wrote client block value ∷ behind → ⊥
  no_write [] behind block value same = cc
  no_write (x ∷ before) behind block value same = cc

  -- what is acted so was written
  written_is : (step : BlockCall) (x : BlockAnswer) (block : BlockId) (value : Option (List ℕ)) → told client step x ≡ act.Wrote client block value ∷ []
      → (ver : ℕ) × (x ≡ Written ver)
  written_is (Put b v) (Written ver) block value same = (ver, refl)
  written_is (PutAt b named v) (Written ver) block value same = (ver, refl)
  written_is (Get b) (Got ver v) block value same = absurd cc
  written_is Sync Synced block value same = absurd cc
  written_is (Get b) (Written ver) block value same = absurd cc
  written_is (Get b) Changed block value same = absurd cc
  written_is (Get b) Synced block value same = absurd cc
  written_is (Put b v) (Got ver w) block value same = absurd cc
  written_is (Put b v) Changed block value same = absurd cc
  written_is (Put b v) Synced block value same = absurd cc
  written_is (PutAt b named v) (Got ver w) block value same = absurd cc
  written_is (PutAt b named v) Changed block value same = absurd cc
  written_is (PutAt b named v) Synced block value same = absurd cc
  written_is Sync (Got ver v) block value same = absurd cc
  written_is Sync (Written ver) block value same = absurd cc
  written_is Sync Changed block value same = absurd cc

  held_is : (now : BlockId → Held) (step : BlockCall) (ver : ℕ) (block : BlockId) (value : Option (List ℕ)) (acts : List Act)
      → told client step (Written ver) ≡ act.Wrote client block value ∷ [] → IsHeldSince now step (Written ver) acts
      → IsHeldAfter (now block) ver (writes_of block acts)
  held_is now (Put b v) ver block value acts same since =
      (let is : b ≡ block = cc in subst (λ (c : BlockId). IsHeldAfter (now c) ver (writes_of c acts)) is since)
  held_is now (PutAt b named v) ver block value acts same since =
      (let is : b ≡ block = cc in subst (λ (c : BlockId). IsHeldAfter (now c) ver (writes_of c acts)) is since)
  held_is now (Get b) ver block value acts same since = absurd cc
  held_is now Sync ver block value acts same since = absurd cc

  module _ (now : BlockId → Held) (had : List BlockAnswer) (call : Call) (rest : List Act) (x : BlockAnswer) (at : At does had (On call))
      (fits : IsAnswerTo call.step x) (since : IsHeldSince now call.step x rest) (block : BlockId) (value : Option (List ℕ)) where
    -- behind this answer
    later : (before behind : List Act) → Reached now (had ++ x ∷ []) before behind block value
        → Reached now had (told client call.step x ++ before) behind block value
    later before behind r = record {
      answers = x ∷ r.answers;
      so_far = (call.step, before, at.0, fits, refl, r.so_far);
      step = r.step;
      next = ap does (sym (append_assoc had (x ∷ []) r.answers)) ∙ r.next;
      ver = r.ver;
      writes = r.writes;
      fits = r.fits;
      held = r.held;
    }

    -- it is this one
    here : told client call.step x ≡ act.Wrote client block value ∷ [] → Reached now had [] rest block value
    here same =
        let w = written_is call.step x block value same in
        let told_so : told client call.step (Written w.0) ≡ act.Wrote client block value ∷ [] =
        ap (told client call.step) (sym w.1) ∙ same in
        record {
          answers = [];
          so_far = refl;
          step = call.step;
          next = ap does (append-nil had) ∙ at.0;
          ver = w.0;
          writes = told_so;
          fits = subst (IsAnswerTo call.step) w.1 fits;
          held = held_is now call.step w.0 block value rest told_so (subst (λ (a : BlockAnswer). IsHeldSince now call.step a rest) w.1 since);
        }

    by_said : {said : List Act} → TellsOf client said → told client call.step x ≡ said
        → ((before behind : List Act) → rest ≡ before ++ act.Wrote client block value ∷ behind → Reached now (had ++ x ∷ []) before behind block value)
        → (before behind : List Act) → said ++ rest ≡ before ++ act.Wrote client block value ∷ behind → Reached now had before behind block value
    by_said Nothing is_said more before behind same =
        subst (λ (acts : List Act). Reached now had (acts ++ before) behind block value) is_said (later before behind (more before behind same))
    by_said (One t is) is_said more [] behind same =
        let first : t ≡ act.Wrote client block value = cc in
        let tail : rest ≡ behind = cc in
        subst (λ (acts : List Act). Reached now had [] acts block value) tail (here (is_said ∙ ap (λ (a : Act). a ∷ []) first))
    by_said (One t is) is_said more (y ∷ before) behind same =
        let first : t ≡ y = cc in
        let tail : rest ≡ before ++ act.Wrote client block value ∷ behind = cc in
        subst (λ (acts : List Act). Reached now had (acts ++ before) behind block value) (is_said ∙ ap (λ (a : Act). a ∷ []) first)
        (later before behind (more before behind tail))

  pub reach : {now : BlockId → Held} {item : Option ℕ} {g : Going} {acts : List Act} {after : Option Call} → EventStretch client item now g acts after
      → (had : List BlockAnswer) → At does had g → (before behind : List Act) (block : BlockId) (value : Option (List ℕ))
      → acts ≡ before ++ act.Wrote client block value ∷ behind → Reached now had before behind block value
  reach (Awaits plan step) had at before behind block value same = absurd (no_write before behind block value same)
  reach {now} (Follows {call = call} {acts = rest} x fits since st) had at before behind block value same =
      by_said now had call rest x at fits since block value (tells_of client call.step x) refl
      (λ front back fact. reach st (had ++ x ∷ []) (after_at does had call.plan x at.1) front back block value fact) before behind same
  reach {item = None} (Concludes a) had at before behind block value same = absurd (no_write before behind block value same)
  reach {item = Some item} (Concludes a) had at [] behind block value same = absurd (let clash = same in cc)
  reach {item = Some item} (Concludes a) had at (y ∷ before) behind block value same =
      (let tail : [] ≡ before ++ act.Wrote client block value ∷ behind = cc in absurd (no_write before behind block value tail))

  -- what is told is of blocks, and the client's
  pub blocks_told : (had answers : List BlockAnswer) (acts : List Act) → AreTold client does had answers acts → blocks_by client acts ≡ acts
  blocks_told had [] acts none = subst (λ (xs : List Act). blocks_by client xs ≡ xs) (sym none) refl
  blocks_told had (x ∷ answers) acts t =
      let rest = blocks_told (had ++ x ∷ []) answers t.1 t.5 in
      subst (λ (xs : List Act). blocks_by client xs ≡ xs) (sym t.4)
      (blocks_then client (told client t.0 x) t.1 ∙ (ap (λ (xs : List Act). xs ++ blocks_by client t.1) (its_told client t.0 x)
      ∙ ap (λ (xs : List Act). told client t.0 x ++ xs) rest))
