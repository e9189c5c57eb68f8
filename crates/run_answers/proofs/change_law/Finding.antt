-- What is held behind an event says how many versions each block had at each moment of it, and that what the open call has read lasts.
use Rattle.std.proofs.Common.{◌≡◌, ◌+◌, ◌<◌, ◌≤◌, ℕ, suc, Bool, true, false, cond, nat_lt, List, [], ◌∷◌, ◌++◌, append-nil, append_assoc, length, Option, Some, None, is_some, inl, inr, refl, sym, ap, subst, ◌∙◌, arith}
use Rattle.std.proofs.lemmas.Bool.Decides.{nat_tests}
use Rattle.std.specs.List.{AllByRecursion}
use Rattle.client_call.specs.Calls.{plan_answered}
use Rattle.client_call.specs.declared.call.Call.{Call}
use Rattle.client_call.specs.declared.call.Going.{Going}
use Rattle.client_call.specs.declared.call.Going.TheVariants.{On}
use Rattle.client_call.specs.declared.call.Plan.{Plan}
use Rattle.file_plan.specs.declared.block_call.BlockAnswer.{BlockAnswer}
use Rattle.file_plan.specs.declared.block_call.BlockAnswer.TheVariants as answers
use Rattle.file_plan.specs.declared.block_call.BlockCall.{BlockCall}
use Rattle.file_plan.specs.declared.block_call.BlockCall.TheVariants.{Get, Put, PutAt, Sync}
use Rattle.token_client.specs.declared.held.Held.{Held}
use Rattle.token_protocol.specs.Basics.{In}
use Rattle.version_model.proofs.Onward.{history_through}
use Rattle.version_model.specs.declared.act.Act.{Act}
use Rattle.version_model.specs.declared.act.Act.TheVariants as act
use Rattle.version_model.specs.declared.act.Fall.{Fall}
use Rattle.version_model.specs.declared.answer.Answer.{Answer}
use Rattle.version_model.specs.declared.history.FallTold.{FallTold}
use Rattle.version_model.specs.Effects.{change, history_after, pin}
use Rattle.version_model.specs.History.{History, is_by_other, nothing_yet}
use Rattle.xfs_base.proofs.BlockOrder.{same_block_itself}
use Rattle.xfs_base.proofs.Booleans.{by_test}
use Rattle.xfs_base.specs.declared.block.BlockId.{BlockId}
use Rattle.xfs_base.specs.declared.node.NodeId.{NodeId}
use Rattle.xfs_base.specs.declared.node.NodeId.TheVariants as nodes
use Rattle.xfs_base.specs.Modes.{is_held}
use Rattle.headline.specs.Calls.{IsAnswerTo, IsHeldSince, answered_so, of_items, told, writes_of}
use Rattle.headline.specs.Updates.{versions_behind}
use Rattle.run_answers.proofs.change_law.Lasting.{IsNoFall, Lasts, acts_last, answers_calm, read_lasts}
use Rattle.run_answers.proofs.change_law.Naming.{GoingKnows, GotKnown, OpenKnows, StepKnows, named_known, next_known, step_more}
use Rattle.run_answers.proofs.change_law.Walking.{IsToldOther, Walk}
use Rattle.run_answers.proofs.change_law.Walking.Walk.{Waits, Goes, Ended}
use Rattle.run_answers.proofs.linear_law.Histories.{IsNoReturn, acts_count}
use Rattle.run_answers.proofs.own_law.Holding.{writes_then}
use Rattle.headline.specs.Changes.{FoundStretch, IsFound}
use Rattle.headline.specs.Changes.FoundStretch.{Awaits, Follows, Concludes}

-- how many versions a block has behind more acts, none of them that a client is back
pub versions_then : (before acts : List Act) (b : BlockId) → AllByRecursion IsNoReturn acts → versions_behind (before ++ acts) b ≡ versions_behind before b + writes_of b acts
versions_then before acts b none =
    ap (λ (h : History). length (h.of_block b).versions) (history_through before acts nothing_yet) ∙ acts_count b acts (history_after before nothing_yet) none

told_none : (client : ℕ) (step : BlockCall) (a : BlockAnswer) → AllByRecursion IsNoReturn (told client step a)
told_none client (Get block) (answers.Got ver value) = (tt, tt)
told_none client (Put block value) (answers.Put ver) = (tt, tt)
told_none client (PutAt block named value) (answers.Put ver) = (tt, tt)
told_none client Sync answers.Synced = (tt, tt)
told_none client (Get block) (answers.Put ver) = tt
told_none client (Get block) answers.Changed = tt
told_none client (Get block) answers.Synced = tt
told_none client (Put block value) (answers.Got ver v) = tt
told_none client (Put block value) answers.Changed = tt
told_none client (Put block value) answers.Synced = tt
told_none client (PutAt block named value) (answers.Got ver v) = tt
told_none client (PutAt block named value) answers.Changed = tt
told_none client (PutAt block named value) answers.Synced = tt
told_none client Sync (answers.Got ver v) = tt
told_none client Sync (answers.Put ver) = tt
told_none client Sync answers.Changed = tt

-- what is held with a value behind these further acts is of the newest version
abbrev pub AreNewest : (BlockId → ℕ) → (BlockId → Held) → List Act → Type 0
AreNewest versions now acts = (b : BlockId) → is_held (now b).mode ≡ true → is_some (now b).value ≡ true → (now b).ver ≡ versions b + writes_of b acts

-- of two that aren't the same the one that isn't above is below
below_other : (n m : ℕ) → n ≤ m → (n ≡ m → ⊥) → n < m
below_other n m low other = by (nat_lt n m) refl
  where
    by : (t : Bool) → nat_lt n m ≡ t → n < m
    by true less = grind (arith, nat_tests)
    by false more = absurd (other (grind (arith, nat_tests)))

-- what is named isn't above the newest version
abbrev IsNamedLow : (BlockId → ℕ) → BlockCall → Type 0
IsNamedLow versions (PutAt block named value) = named ≤ versions block
IsNamedLow versions _ = Unit {0}

module _ (client : ℕ) (now : BlockId → Held) (versions : BlockId → ℕ) where
  -- a call on blocks is answered as the block is, by what is held behind all that comes of it
  found : (step : BlockCall) (a : BlockAnswer) (rest : List Act) → IsAnswerTo step a → IsHeldSince now step a rest → IsToldOther versions now step a rest
      → IsNamedLow versions step → AreNewest versions now (told client step a ++ rest) → IsFound versions step a
  found (Put block value) (answers.Put ver) rest fits since other low newest =
      let all : (now block).ver ≡ versions block + suc (writes_of block rest) =
      newest block since.held since.valued
      ∙ ap (λ (t : Bool). versions block + cond t (suc (writes_of block rest)) (writes_of block rest)) (same_block_itself block) in
      let its : (now block).ver ≡ ver + writes_of block rest = since.version in
      omega arith
  found (PutAt block named value) (answers.Put ver) rest fits since other low newest =
      let all : (now block).ver ≡ versions block + suc (writes_of block rest) =
      newest block since.held since.valued
      ∙ ap (λ (t : Bool). versions block + cond t (suc (writes_of block rest)) (writes_of block rest)) (same_block_itself block) in
      let its : (now block).ver ≡ ver + writes_of block rest = since.version in
      let next : ver ≡ named + 1 = fits in
      omega arith
  found (PutAt block named value) answers.Changed rest fits since (inl other) low newest = below_other named (versions block) low other
  found (PutAt block named value) answers.Changed rest fits since (inr o) low newest =
      below_other named (versions block) low (λ same.
      let all : (now block).ver ≡ versions block + writes_of block rest = newest block o.1.1.held o.1.1.valued in
      let its : (now block).ver ≡ o.0 + writes_of block rest = o.1.1.version in
      let is : versions block ≡ o.0 = omega arith in
      o.1.0 (same ∙ is))
  found (PutAt block named value) (answers.Got ver v) rest fits since other low newest = tt
  found (PutAt block named value) answers.Synced rest fits since other low newest = tt
  found (Put block value) (answers.Got ver v) rest fits since other low newest = tt
  found (Put block value) answers.Changed rest fits since other low newest = tt
  found (Put block value) answers.Synced rest fits since other low newest = tt
  found (Get block) (answers.Got ver v) rest fits since other low newest = tt
  found (Get block) (answers.Put ver) rest fits since other low newest = tt
  found (Get block) answers.Changed rest fits since other low newest = tt
  found (Get block) answers.Synced rest fits since other low newest = tt
  found Sync (answers.Got ver v) rest fits since other low newest = tt
  found Sync (answers.Put ver) rest fits since other low newest = tt
  found Sync answers.Changed rest fits since other low newest = tt
  found Sync answers.Synced rest fits since other low newest = tt

-- where each block has so many versions behind these acts, another table of them says the same
found_same : (versions others : BlockId → ℕ) (step : BlockCall) (a : BlockAnswer) → ((b : BlockId) → versions b ≡ others b) → IsFound versions step a
    → IsFound others step a
found_same versions others (Put block value) (answers.Put ver) same is = is ∙ ap (λ (n : ℕ). n + 1) (same block)
found_same versions others (PutAt block named value) (answers.Put ver) same is = is ∙ same block
found_same versions others (PutAt block named value) answers.Changed same less = subst (λ (n : ℕ). named < n) (same block) less
found_same versions others (PutAt block named value) (answers.Got ver v) same is = tt
found_same versions others (PutAt block named value) answers.Synced same is = tt
found_same versions others (Put block value) (answers.Got ver v) same is = tt
found_same versions others (Put block value) answers.Changed same is = tt
found_same versions others (Put block value) answers.Synced same is = tt
found_same versions others (Get block) a same is = tt
found_same versions others Sync a same is = tt

-- ---- what was read lasts

-- no fall that waits is of a block that is held
abbrev pub NoneFell : (ℕ → List FallTold) → (BlockId → Held) → Type 0
NoneFell waiting now =
    (b : BlockId) → is_held (now b).mode ≡ true → (d : ℕ) (t : FallTold) → In t (waiting d) → (f : Fall) → In f t.falls → f.block ≡ b → ⊥

told_calm : (client : ℕ) (step : BlockCall) (a : BlockAnswer) → AllByRecursion IsNoFall (told client step a)
told_calm client (Get block) (answers.Got ver value) = (tt, tt)
told_calm client (Put block value) (answers.Put ver) = (tt, tt)
told_calm client (PutAt block named value) (answers.Put ver) = (tt, tt)
told_calm client Sync answers.Synced = (tt, tt)
told_calm client (Get block) (answers.Put ver) = tt
told_calm client (Get block) answers.Changed = tt
told_calm client (Get block) answers.Synced = tt
told_calm client (Put block value) (answers.Got ver v) = tt
told_calm client (Put block value) answers.Changed = tt
told_calm client (Put block value) answers.Synced = tt
told_calm client (PutAt block named value) (answers.Got ver v) = tt
told_calm client (PutAt block named value) answers.Changed = tt
told_calm client (PutAt block named value) answers.Synced = tt
told_calm client Sync (answers.Got ver v) = tt
told_calm client Sync (answers.Put ver) = tt
told_calm client Sync answers.Changed = tt

-- what is told of a call on blocks leaves the falls that wait
told_waiting : (client : ℕ) (step : BlockCall) (a : BlockAnswer) (h : History) → (history_after (told client step a) h).told ≡ h.told
told_waiting client (Get block) (answers.Got ver value) h =
    by_test (λ (g : History). g.told ≡ h.told) (is_by_other client ver (h.of_block block).versions) (change block (pin ver) h) h (λ _. refl) (λ _. refl)
told_waiting client (Put block value) (answers.Put ver) h = refl
told_waiting client (PutAt block named value) (answers.Put ver) h = refl
told_waiting client Sync answers.Synced h = refl
told_waiting client (Get block) (answers.Put ver) h = refl
told_waiting client (Get block) answers.Changed h = refl
told_waiting client (Get block) answers.Synced h = refl
told_waiting client (Put block value) (answers.Got ver v) h = refl
told_waiting client (Put block value) answers.Changed h = refl
told_waiting client (Put block value) answers.Synced h = refl
told_waiting client (PutAt block named value) (answers.Got ver v) h = refl
told_waiting client (PutAt block named value) answers.Changed h = refl
told_waiting client (PutAt block named value) answers.Synced h = refl
told_waiting client Sync (answers.Got ver v) h = refl
told_waiting client Sync (answers.Put ver) h = refl
told_waiting client Sync answers.Changed h = refl

-- nor does it take back what was read
told_lasts : (client : ℕ) (step : BlockCall) (a : BlockAnswer) (h : History) (b : BlockId) (v : ℕ) → Lasts h client b v
    → Lasts (history_after (told client step a) h) client b v
told_lasts client step a h b v l = acts_last client b v (told client step a) h (told_calm client step a) l

-- what is read lasts from then on
read_known : (client : ℕ) (now : BlockId → Held) (versions : BlockId → ℕ) (h : History) (step : BlockCall) (a : BlockAnswer) (rest : List Act)
    → IsToldOther versions now step a rest → AreNewest versions now (told client step a ++ rest) → ((b : BlockId) → versions b ≡ length (h.of_block b).versions)
    → NoneFell h.told now → GotKnown (Lasts (history_after (told client step a) h) client) step a
read_known client now versions h (Get block) (answers.Got ver value) rest other newest same none =
    let all : (now block).ver ≡ versions block + writes_of block rest = newest block other.held other.valued in
    let its : (now block).ver ≡ ver + writes_of block rest = other.version in
    let many : versions block ≡ length (h.of_block block).versions = same block in
    read_lasts h client block ver value (omega arith) (λ d t waits f fell is. absurd (none block other.held d t waits f fell is))
read_known client now versions h (Get block) (answers.Put ver) rest other newest same none = tt
read_known client now versions h (Get block) answers.Changed rest other newest same none = tt
read_known client now versions h (Get block) answers.Synced rest other newest same none = tt
read_known client now versions h (Put block value) a rest other newest same none = tt
read_known client now versions h (PutAt block named value) a rest other newest same none = tt
read_known client now versions h Sync a rest other newest same none = tt

-- behind these acts of the run
abbrev pub LastsBehind : List Act → ℕ → BlockId → ℕ → Type 0
LastsBehind acts client b v = Lasts (history_after acts nothing_yet) client b v

named_low : (client : ℕ) (before : List Act) (versions : BlockId → ℕ) (p : Plan) (step : BlockCall) → ((b : BlockId) → versions b ≡ versions_behind before b)
    → StepKnows (LastsBehind before client) p step → IsNamedLow versions step
named_low client before versions p (PutAt block named value) same known =
    let lasts : LastsBehind before client block named = named_known (LastsBehind before client) p block named value known in
    let there = lasts.stands.there in
    let many = same block in
    omega arith
named_low client before versions p (Get block) same known = tt
named_low client before versions p (Put block value) same known = tt
named_low client before versions p Sync same known = tt

module _ (client : ℕ) (now : BlockId → Held) where
  -- so a stretch of an event finds versions, behind these acts of the run, and what it has read lasts
  pub record Finds (item : Option ℕ) (before : List Act) (g : Going) (acts : List Act) (after : Option Call) : Type 0 where
    pub stretch : FoundStretch client item before g acts after
    pub known : OpenKnows (LastsBehind (before ++ acts) client) after

  pub finds : {item : Option ℕ} {versions : BlockId → ℕ} {g : Going} {acts : List Act} {after : Option Call} → Walk client item now versions g acts after
      → (before : List Act) → ((b : BlockId) → versions b ≡ versions_behind before b) → AreNewest versions now acts
      → NoneFell (history_after before nothing_yet).told now → GoingKnows (LastsBehind before client) g → Finds item before g acts after
  finds (Waits {call = call} {new = new} plan step) before same newest none known = record {
    stretch = Awaits plan step;
    known = subst (λ (acts : List Act). StepKnows (LastsBehind acts client) new.plan new.step) (sym (append-nil before))
        (subst (λ (s : BlockCall). StepKnows (LastsBehind before client) new.plan s) (sym step)
        (subst (λ (p : Plan). StepKnows (LastsBehind before client) p call.step) (sym plan) known));
  }
  finds {item} {versions} {after = after} (Goes {call = call} {acts = rest} a fits since other more) before same newest none known =
      goes (finds more (before ++ told client call.step a)
      (λ b. ap (λ (n : ℕ). n + writes_of b (told client call.step a)) (same b) ∙ sym (versions_then before (told client call.step a) b (told_none client call.step a)))
      (λ b held valued.
      let all = newest b held valued in
      let sum = writes_then b (told client call.step a) rest in
      omega arith)
      (subst (λ (waiting : ℕ → List FallTold). NoneFell waiting now) (sym (ap (λ (g : History). g.told) then_h ∙ told_waiting client call.step a h)) none)
      goes_known)
    where
      h : History
      h = history_after before nothing_yet

      then_h : history_after (before ++ told client call.step a) nothing_yet ≡ history_after (told client call.step a) h
      then_h = history_through before (told client call.step a) nothing_yet

      still_known : StepKnows (Lasts (history_after (told client call.step a) h) client) call.plan call.step
      still_known =
          step_more (Lasts h client) (Lasts (history_after (told client call.step a) h) client) (λ b v l. told_lasts client call.step a h b v l) call.plan call.step known

      goes_known : GoingKnows (LastsBehind (before ++ told client call.step a) client) (plan_answered call.plan a)
      goes_known =
          subst (λ (g : History). GoingKnows (Lasts g client) (plan_answered call.plan a)) (sym then_h)
          (next_known (Lasts (history_after (told client call.step a) h) client) call.plan call.step a
          (read_known client now versions h call.step a rest other newest same none) still_known)

      goes : Finds item (before ++ told client call.step a) (plan_answered call.plan a) rest after
          → Finds item before (On call) (told client call.step a ++ rest) after
      goes next = record {
        stretch = Follows a fits
            (found_same versions (versions_behind before) call.step a same
            (found client now versions call.step a rest fits since other (named_low client before versions call.plan call.step same known) newest))
            next.stretch;
        known = subst (λ (acts : List Act). OpenKnows (LastsBehind acts client) after) (append_assoc before (told client call.step a) rest) next.known;
      }
  finds (Ended a) before same newest none known = record { stretch = Concludes a; known = tt }

-- ---- no act of a stretch is that a client is back

all_then : (P : Act → Type 0) (xs ys : List Act) → AllByRecursion P xs → AllByRecursion P ys → AllByRecursion P (xs ++ ys)
all_then P [] ys none all = all
all_then P (x ∷ xs) ys first all = (first.0, all_then P xs ys first.1 all)

answer_none : (node : NodeId) (item : Option ℕ) (a : Answer) → AllByRecursion IsNoReturn (answered_so node item a)
answer_none node None a = tt
answer_none node (Some item) a = (tt, tt)

pub walk_none : {client : ℕ} {item : Option ℕ} {now : BlockId → Held} {versions : BlockId → ℕ} {g : Going} {acts : List Act} {after : Option Call}
    → Walk client item now versions g acts after → AllByRecursion IsNoReturn acts
walk_none (Waits plan step) = tt
walk_none {client} (Goes {call = call} {acts = rest} a fits since other more) =
    all_then IsNoReturn (told client call.step a) rest (told_none client call.step a) (walk_none more)
walk_none {client} {item} (Ended a) = answer_none (nodes.Client client) item a

-- nor that one fell
pub walk_calm : {client : ℕ} {item : Option ℕ} {now : BlockId → Held} {versions : BlockId → ℕ} {g : Going} {acts : List Act} {after : Option Call}
    → Walk client item now versions g acts after → AllByRecursion IsNoFall acts
walk_calm (Waits plan step) = tt
walk_calm {client} (Goes {call = call} {acts = rest} a fits since other more) =
    all_then IsNoFall (told client call.step a) rest (told_calm client call.step a) (walk_calm more)
walk_calm {client} {item} (Ended a) = answers_calm (nodes.Client client) item a

-- and it leaves the falls that wait
pub walk_waiting : {client : ℕ} {item : Option ℕ} {now : BlockId → Held} {versions : BlockId → ℕ} {g : Going} {acts : List Act} {after : Option Call}
    → Walk client item now versions g acts after → (h : History) → (history_after acts h).told ≡ h.told
walk_waiting (Waits plan step) h = refl
walk_waiting {client} (Goes {call = call} {acts = rest} a fits since other more) h =
    ap (λ (g : History). g.told) (history_through (told client call.step a) rest h)
    ∙ (walk_waiting more (history_after (told client call.step a) h) ∙ told_waiting client call.step a h)
walk_waiting {client} {item = None} (Ended a) h = refl
walk_waiting {client} {item = Some item} (Ended a) h = refl

-- nor any other act
pub none_returns : (acts : List Act) → AllByRecursion IsNoReturn (of_items acts) → AllByRecursion IsNoReturn acts
none_returns [] none = tt
none_returns (act.Filed seg ∷ acts) none = (tt, none_returns acts none)
none_returns (act.Lost node seg ∷ acts) none = (tt, none_returns acts none)
none_returns (act.Wrote client block value ∷ acts) none = (tt, none_returns acts none.1)
none_returns (act.Read client block ver value ∷ acts) none = (tt, none_returns acts none.1)
none_returns (act.Synced client ∷ acts) none = (tt, none_returns acts none.1)
none_returns (act.Fell client flight falls ∷ acts) none = (tt, none_returns acts none.1)
none_returns (act.Back client chain ∷ acts) none = absurd none.0
none_returns (act.Dropped seg ∷ acts) none = (tt, none_returns acts none.1)
none_returns (act.Answered node item a ∷ acts) none = (tt, none_returns acts none.1)
