-- What a client's call did in an event is a stretch of which each answer is as its block was then.
use Rattle.std.proofs.Common.{◌≡◌, ◌⊎◌, ℕ, Bool, true, false, cond, List, [], ◌∷◌, ◌++◌, inl, inr, Option, Some, None, refl, sym, ap, subst, ◌∙◌}
use Rattle.std.specs.List.{AllByRecursion}
use Rattle.client_call.specs.Calls.{may_make}
use Rattle.client_call.specs.declared.call.Call.{Call}
use Rattle.client_call.specs.declared.call.Going.{Going}
use Rattle.client_call.specs.declared.call.Going.TheVariants.{On}
use Rattle.client_node.specs.declared.phase.Phase.{Phase}
use Rattle.client_node.specs.declared.phase.Phase.TheVariants.{Serving as Serves}
use Rattle.client_node.specs.Phases.{lasting_of}
use Rattle.client_running.specs.Opens.{call_at}
use Rattle.client_serving.specs.declared.serving.Serving.{Serving}
use Rattle.file_plan.specs.declared.block_call.BlockAnswer.{BlockAnswer}
use Rattle.file_plan.specs.declared.block_call.BlockAnswer.TheVariants.{Changed, Got, Synced, Put as Written}
use Rattle.file_plan.specs.declared.block_call.BlockCall.{BlockCall}
use Rattle.file_plan.specs.declared.block_call.BlockCall.TheVariants.{Get, Put, PutAt, Sync}
use Rattle.file_plan.specs.declared.block_call.Next.TheVariants.{Reply, Step}
use Rattle.file_plan.specs.Driving.{ReadsAgain}
use Rattle.file_plan.specs.Plan.{plan}
use Rattle.headline.specs.Calls.{EventStretch, IsAnswerTo, IsBegun, call_in, open_in, told}
use Rattle.headline.specs.Calls.EventStretch.{Awaits, Concludes, Follows}
use Rattle.headline.specs.Changes.CallsFind.{Begins, GoesOn, Rests}
use Rattle.headline.specs.Changes.FoundStretch.{Concludes as Ended}
use Rattle.headline.specs.Changes.{CallsFind, FoundStretch}
use Rattle.headline.specs.Courses.{Doing, by_one, doing_of}
use Rattle.headline.specs.ItemActs.{IsOfBlocks}
use Rattle.node_base.specs.Beginning.{work_at}
use Rattle.run_answers.proofs.linear_law.Courses.{At, after_at}
use Rattle.token_client.specs.declared.held.Held.{Held}
use Rattle.version_model.specs.declared.act.Act.{Act}
use Rattle.version_model.specs.declared.work.Work.{Work}
use Rattle.version_model.specs.declared.work.Work.TheVariants as work
use Rattle.wire_msg.specs.declared.packet.Do.{Do}
use Rattle.wire_msg.specs.declared.packet.Do.TheVariants.{Begin}
use Rattle.xfs_base.specs.declared.block.BlockId.{BlockId}

-- ---- what reads a block again

-- where a write at a version is told that the block has changed, it is read again
abbrev pub ReadsOnce : Doing → Type 0
ReadsOnce does =
    (had : List BlockAnswer) (block : BlockId) (named : ℕ) (value : Option (List ℕ)) → does had ≡ Step (PutAt block named value)
    → does (had ++ Changed ∷ []) ≡ Step (Get block)

one_reads : (step : BlockCall) → ((block : BlockId) (named : ℕ) (value : Option (List ℕ)) → step ≡ PutAt block named value → ⊥) → ReadsOnce (by_one step)
one_reads step apart [] block named value is = absurd (apart block named value (let same : step ≡ PutAt block named value = cc in same))
one_reads step apart (x ∷ had) block named value is = absurd (let clash = is in cc)

pub reads_once : ReadsAgain → (w : Work) (item client : ℕ) (does : Doing) → doing_of w item client ≡ Some does → ReadsOnce does
reads_once again (work.Bput c b v) item client does is =
    (let same : by_one (Put b v) ≡ does = cc in subst ReadsOnce same (one_reads (Put b v) (λ block named value fact. cc)))
reads_once again (work.Bget c b) item client does is =
    (let same : by_one (Get b) ≡ does = cc in subst ReadsOnce same (one_reads (Get b) (λ block named value fact. cc)))
reads_once again (work.Sync c) item client does is =
    (let same : by_one Sync ≡ does = cc in subst ReadsOnce same (one_reads Sync (λ block named value fact. cc)))
reads_once again (work.File c call) item client does is = by (may_make item client) is
  where
    by : (t : Bool) → cond t (Some (plan call item client)) None ≡ Some does → ReadsOnce does
    by true made =
        (let same : plan call item client ≡ does = cc in
        subst ReadsOnce same (λ had block named value fact. again call item client had block named value fact))
    by false made = absurd (let clash = made in cc)
reads_once again _ item client does is = absurd (let clash = is in cc)

-- ---- a stretch in which nothing is acted of blocks

abbrev pub NoBlocks : List Act → Type 0
NoBlocks acts = AllByRecursion (λ a. IsOfBlocks a → ⊥) acts

-- such a call on blocks is a write that is told that its block has changed
record IsChanged (step : BlockCall) (x : BlockAnswer) : Type 0 where
  block : BlockId
  named : ℕ
  value : Option (List ℕ)
  is_write : step ≡ PutAt block named value
  is_told : x ≡ Changed

silent_is_changed : (client : ℕ) (step : BlockCall) (x : BlockAnswer) (rest : List Act) → IsAnswerTo step x → NoBlocks (told client step x ++ rest) → IsChanged step x
silent_is_changed client (Get block) (Got ver value) rest fits none = absurd (none.0 tt)
silent_is_changed client (Put block value) (Written ver) rest fits none = absurd (none.0 tt)
silent_is_changed client (PutAt block named value) (Written ver) rest fits none = absurd (none.0 tt)
silent_is_changed client Sync Synced rest fits none = absurd (none.0 tt)
silent_is_changed client (PutAt block named value) Changed rest fits none =
    record { block = block; named = named; value = value; is_write = refl; is_told = refl }
silent_is_changed client (Get block) (Written ver) rest fits none = absurd fits
silent_is_changed client (Get block) Changed rest fits none = absurd fits
silent_is_changed client (Get block) Synced rest fits none = absurd fits
silent_is_changed client (Put block value) (Got ver v) rest fits none = absurd fits
silent_is_changed client (Put block value) Changed rest fits none = absurd fits
silent_is_changed client (Put block value) Synced rest fits none = absurd fits
silent_is_changed client (PutAt block named value) (Got ver v) rest fits none = absurd fits
silent_is_changed client (PutAt block named value) Synced rest fits none = absurd fits
silent_is_changed client Sync (Got ver v) rest fits none = absurd fits
silent_is_changed client Sync (Written ver) rest fits none = absurd fits
silent_is_changed client Sync Changed rest fits none = absurd fits

silent_told : (client : ℕ) (step : BlockCall) (x : BlockAnswer) → IsChanged step x → told client step x ≡ []
silent_told client step x c = ap (λ (s : BlockCall). told client s x) c.is_write ∙ ap (told client (PutAt c.block c.named c.value)) c.is_told

module _ {client : ℕ} {item : Option ℕ} {now : BlockId → Held} where
  -- where the call waits behind it, nothing was acted
  pub silent_waits : {g : Going} {acts : List Act} {after : Option Call} → EventStretch client item now g acts after → (new : Call) → after ≡ Some new → NoBlocks acts
      → acts ≡ []
  silent_waits (Awaits plan step) new is none = refl
  silent_waits (Follows {call = call} {acts = rest} x fits since more) new is none =
      (let c = silent_is_changed client call.step x rest fits none in
      let first : told client call.step x ≡ [] = silent_told client call.step x c in
      ap (λ (xs : List Act). xs ++ rest) first ∙ silent_waits more new is (subst (λ (xs : List Act). NoBlocks (xs ++ rest)) first none))
  silent_waits (Concludes a) new is none = absurd (let clash = is in cc)

  -- a read is acted
  reads_not : {g : Going} {acts : List Act} {after : Option Call} → EventStretch client item now g acts after → (does : Doing) (had : List BlockAnswer) (block : BlockId)
      → At does had g → does had ≡ Step (Get block) → after ≡ None → NoBlocks acts → ⊥
  reads_not (Awaits plan step) does had block at is ends none = absurd (let clash = ends in cc)
  reads_not (Follows {call = call} {acts = rest} x fits since more) does had block at is ends none =
      (let c = silent_is_changed client call.step x rest fits none in
      let one : Step call.step ≡ Step (Get block) = sym at.0 ∙ is in
      let two : call.step ≡ PutAt c.block c.named c.value = c.is_write in
      cc)
  reads_not (Concludes a) does had block at is ends none = (let one : does had ≡ Reply a = at in let two : does had ≡ Step (Get block) = is in cc)

  -- where it is done, that was all
  pub silent_ends : {g : Going} {acts : List Act} {after : Option Call} → EventStretch client item now g acts after → (does : Doing) (had : List BlockAnswer) (before : List Act)
      → ReadsOnce does → At does had g → after ≡ None → NoBlocks acts → FoundStretch client item before g acts after
  silent_ends (Awaits plan step) does had before reads at ends none = absurd (let clash = ends in cc)
  silent_ends (Follows {call = call} {acts = rest} x fits since more) does had before reads at ends none =
      (let c = silent_is_changed client call.step x rest fits none in
      let write : does had ≡ Step (PutAt c.block c.named c.value) = at.0 ∙ ap Step c.is_write in
      let again : does (had ++ Changed ∷ []) ≡ Step (Get c.block) = reads had c.block c.named c.value write in
      let rests : NoBlocks rest = subst (λ (xs : List Act). NoBlocks (xs ++ rest)) (silent_told client call.step x c) none in
      absurd (reads_not more does (had ++ x ∷ []) c.block (after_at does had call.plan x at.1)
      (subst (λ (y : BlockAnswer). does (had ++ y ∷ []) ≡ Step (Get c.block)) (sym c.is_told) again) ends rests))
  silent_ends (Concludes a) does had before reads at ends none = Ended a

-- ---- what was found

one_call : (a b : Call) → Some a ≡ Some b → a ≡ b
one_call a b fact = cc

one_item : (a b : ℕ) → Some a ≡ Some b → a ≡ b
one_item a b fact = cc

one_serving : (a b : Serving) → Serves a ≡ Serves b → a ≡ b
one_serving a b fact = cc

one_going : (a b : Going) → Some a ≡ Some b → a ≡ b
one_going a b fact = cc

module _ (client : ℕ) (before : List Act) (p : Phase) (what : Do) (acts : List Act) (q : Phase) (does : Doing) (had : List BlockAnswer) (reads : ReadsOnce does)
    {now : BlockId → Held} where
  -- The open call goes on: it is such a stretch, or nothing is done, and the call is as it was.
  pub going_finds : (item : Option ℕ) (call : Call) → open_in p ≡ item → call_in p ≡ Some call → (what ≡ Begin → ⊥) → At does had (On call)
      → EventStretch client item now (On call) acts (call_in q) → CallsFind client before p what acts q
      → FoundStretch client item before (On call) acts (call_in q) ⊎ ((acts ≡ []) × (call_in q ≡ Some call))
  going_finds item call is was no_begin at stretch (GoesOn other there found) =
      inl (subst (λ (o : Option ℕ). FoundStretch client o before (On call) acts (call_in q)) is
      (subst (λ (x : Call). FoundStretch client (open_in p) before (On x) acts (call_in q)) (one_call other call (sym there ∙ was)) found))
  going_finds item call is was no_begin at stretch (Begins number wanted going serving begun unopened makes found) = absurd (no_begin begun.begins)
  going_finds item call is was no_begin at stretch (Rests none no_call (inl same)) =
      (let waits : call_in q ≡ Some call = same ∙ was in inr (silent_waits stretch call waits none, waits))
  going_finds item call is was no_begin at stretch (Rests none no_call (inr ends)) = inl (silent_ends stretch does had before reads at ends none)

  -- a call begins
  pub beginning_finds : (s : Serving) (item : ℕ) (wanted : Option Work) (going : Going) → p ≡ Serves s → IsBegun p what item wanted → call_at s item wanted ≡ Some going
      → call_in p ≡ None → At does had going → EventStretch client (Some item) now going acts (call_in q) → CallsFind client before p what acts q
      → FoundStretch client (Some item) before going acts (call_in q)
  beginning_finds s item wanted going serving begun makes free at stretch (GoesOn call there found) = absurd (let a = there in let b = free in cc)
  beginning_finds s item wanted going serving begun makes free at stretch (Begins {s = t} number other next serving_too begun_too unopened makes_too found) =
      subst (λ (n : ℕ). FoundStretch client (Some n) before going acts (call_in q)) same
      (subst (λ (g : Going). FoundStretch client (Some number) before g acts (call_in q)) (one_going next going (sym makes_too ∙ makes_same)) found)
    where
      same : number ≡ item
      same = one_item number item (sym begun_too.next ∙ begun.next)

      asks_same : other ≡ wanted
      asks_same = sym begun_too.asks ∙ (ap (λ n. work_at (lasting_of p).items n) same ∙ begun.asks)

      makes_same : call_at t number other ≡ Some going
      makes_same =
          ap (λ (x : Serving). call_at x number other) (one_serving t s (sym serving_too ∙ serving))
          ∙ (ap (λ n. call_at s n other) same ∙ (ap (call_at s item) asks_same ∙ makes))
  beginning_finds s item wanted going serving begun makes free at stretch (Rests none no_call (inl same)) =
      silent_ends stretch does had before reads at (same ∙ free) none
  beginning_finds s item wanted going serving begun makes free at stretch (Rests none no_call (inr ends)) =
      silent_ends stretch does had before reads at ends none
