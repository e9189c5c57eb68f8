-- The one machine, driven beside a call of a client: as long as each call on blocks is answered as the histories have it, the machine gives the same answers.
use Rattle.std.proofs.Common.{◌<◌, ◌≡◌, ℕ, suc, ◌+◌, ◌==◌, Bool, true, false, cond, List, [], ◌∷◌, ◌++◌, length, Option, Some, None, refl, sym, ap, subst, ◌∙◌, arith}
use Rattle.std.proofs.lemmas.Bool.{eqb-true}
use Rattle.std.proofs.lemmas.Bool.Decides.{nat_tests}
use Rattle.std.proofs.lemmas.List.Elements.{filter-append}
use Rattle.std.specs.List.{AllByRecursion}
use Rattle.client_call.specs.declared.call.Call.{Call}
use Rattle.client_call.specs.declared.call.Going.{Going}
use Rattle.client_call.specs.declared.call.Going.TheVariants.{On}
use Rattle.file_plan.specs.declared.block_call.BlockAnswer.{BlockAnswer}
use Rattle.file_plan.specs.declared.block_call.BlockAnswer.TheVariants.{Changed, Got, Synced, Put as Written}
use Rattle.file_plan.specs.declared.block_call.BlockCall.{BlockCall}
use Rattle.file_plan.specs.declared.block_call.BlockCall.TheVariants.{Get, Put, PutAt, Sync}
use Rattle.file_plan.specs.declared.block_call.Next.TheVariants.{Reply, Step}
use Rattle.file_plan.specs.Driving.{Served, World, serve, write}
use Rattle.file_plan.specs.Example.{Ended, driven}
use Rattle.headline.specs.Calls.{IsAnswerTo, told}
use Rattle.headline.specs.Changes.FoundStretch.{Awaits, Concludes, Follows}
use Rattle.headline.specs.Changes.{FoundStretch, IsFound}
use Rattle.headline.specs.Courses.{Doing}
use Rattle.headline.specs.InLine.{answers_in}
use Rattle.headline.specs.Updates.{versions_behind}
use Rattle.headline.specs.Versions.{IsNewest}
use Rattle.run_answers.proofs.linear_law.Courses.{At, PlanAt, after_at}
use Rattle.transcript.specs.Replies.{is_answer}
use Rattle.version_model.proofs.Onward.{history_through}
use Rattle.version_model.specs.declared.act.Act.{Act}
use Rattle.version_model.specs.declared.act.Act.TheVariants as act
use Rattle.version_model.specs.declared.answer.Answer.{Answer}
use Rattle.version_model.specs.Effects.{after_act, history_after}
use Rattle.version_model.specs.History.{Content, History, content_at, nothing_yet}
use Rattle.version_model.specs.Legal.{AreLegalFrom}
use Rattle.xfs_base.proofs.Alls.{all_append}
use Rattle.xfs_base.specs.declared.block.BlockId.{BlockId}
use Rattle.xfs_base.specs.declared.node.NodeId.TheVariants as nodes
use Rattle.run_text.proofs.Acts.{legal_behind}
use Rattle.run_text.proofs.Serving.{IsNoReturn}
use Rattle.run_text.proofs.Tables.{Shows, read_shows, sync_shows, write_shows}

-- ---- how far the machine is

abbrev pub ended : Answer → World → Ended
ended a w = record { reply = Some a; world = w }

module _ (does : Doing) (start : World) where
  -- so many steps from the start, and it has these answers, and this table
  pub record Reaches (had : List BlockAnswer) (w : World) : Type 0 where
    pub steps : ℕ
    pub so : (more : ℕ) → driven does (steps + more) [] start ≡ driven does more had w

  -- it replies this at last
  pub record Replied (a : Answer) (end : World) : Type 0 where
    pub steps : ℕ
    pub so : driven does steps [] start ≡ ended a end

  pub at_start : Reaches [] start
  at_start = record { steps = 0; so = λ more. ap (λ n. driven does n [] start) (none more) }
    where
      none : (n : ℕ) → 0 + n ≡ n
      none n = omega arith

  one_step : (more : ℕ) (had : List BlockAnswer) (w : World) (step : BlockCall) → does had ≡ Step step
      → driven does (suc more) had w ≡ driven does more (had ++ (serve w step).answer ∷ []) (serve w step).world
  one_step more had w step is = rw (is, driven) refl

  last_step : (had : List BlockAnswer) (w : World) (a : Answer) → does had ≡ Reply a → driven does 1 had w ≡ ended a w
  last_step had w a is = rw (is, driven) refl

  pub one_more : (had : List BlockAnswer) (w : World) (step : BlockCall) → does had ≡ Step step → Reaches had w
      → Reaches (had ++ (serve w step).answer ∷ []) (serve w step).world
  one_more had w step is r = record {
    steps = r.steps + 1;
    so = λ more. ap (λ n. driven does n [] start) (sum r.steps more) ∙ (r.so (suc more) ∙ one_step more had w step is);
  }
    where
      sum : (n m : ℕ) → (n + 1) + m ≡ n + suc m
      sum n m = omega arith

  pub at_reply : (had : List BlockAnswer) (w : World) (a : Answer) → does had ≡ Reply a → Reaches had w → Replied a w
  at_reply had w a is r = record { steps = r.steps + 1; so = r.so 1 ∙ last_step had w a is }

-- ---- one call on blocks

abbrev pub behind : List Act → History
behind acts = history_after acts nothing_yet

module _ (client : ℕ) (so_far : List Act) (w : World) (shows : Shows (behind so_far) w) where
  -- the machine answers so, and its table then shows what was acted
  record Same (step : BlockCall) (x : BlockAnswer) : Type 0 where
    answer : (serve w step).answer ≡ x
    shown : Shows (history_after (told client step x) (behind so_far)) (serve w step).world

  same_content : (a b : Content) → Some a ≡ Some b → a ≡ b
  same_content a b fact = cc

  gets : (block : BlockId) (ver : ℕ) (value : Content) → IsNewest ((behind so_far).of_block block) ver value → Same (Get block) (Got ver value)
  gets block ver value its =
      let here : IsNewest ((behind so_far).of_block block) (w.ver block.ino block.blk) (w.value block.ino block.blk) = shows block in
      let one : w.ver block.ino block.blk ≡ ver = here.newest ∙ sym its.newest in
      let two : w.value block.ino block.blk ≡ value =
      same_content _ _ (sym here.content ∙ (ap (λ n. content_at n ((behind so_far).of_block block).versions) one ∙ its.content)) in
      record {
        answer = ap (λ n. Got n (w.value block.ino block.blk)) one ∙ ap (Got ver) two;
        shown = read_shows client block ver value (behind so_far) w shows;
      }

  puts : (block : BlockId) (value : Content) (ver : ℕ) → IsFound (versions_behind so_far) (Put block value) (Written ver) → Same (Put block value) (Written ver)
  puts block value ver so = record { answer = ap Written is; shown = write_shows client block value (behind so_far) w shows }
    where
      is : suc (w.ver block.ino block.blk) ≡ ver
      is =
          let here = (shows block).newest in
          let there : ver ≡ length ((behind so_far).of_block block).versions + 1 = so in
          omega arith

  module _ (block : BlockId) (named : ℕ) (value : Content) where
    abbrev written : Served
    written = record { answer = Written (suc named); world = write w block.ino block.blk value }

    abbrev unwritten : Served
    unwritten = record { answer = Changed; world = w }

    served : (t : Bool) → (w.ver block.ino block.blk == named) ≡ t → serve w (PutAt block named value) ≡ cond t written unwritten
    served t is = ap (λ (test : Bool). cond test written unwritten) is

    puts_at : (ver : ℕ) → ver ≡ named + 1 → IsFound (versions_behind so_far) (PutAt block named value) (Written ver) → Same (PutAt block named value) (Written ver)
    puts_at ver next so = record {
      answer = ap (λ (s : Served). s.answer) is ∙ ap Written one;
      shown = subst (λ (s : Served). Shows (history_after (told client (PutAt block named value) (Written ver)) (behind so_far)) s.world) (sym is)
          (write_shows client block value (behind so_far) w shows);
    }
      where
        one : suc named ≡ ver
        one = let n : ver ≡ named + 1 = next in omega arith

        test : (w.ver block.ino block.blk == named) ≡ true
        test = let same : w.ver block.ino block.blk ≡ named = (shows block).newest ∙ sym so in grind (arith, nat_tests)

        is : serve w (PutAt block named value) ≡ written
        is = served true test

    changed : IsFound (versions_behind so_far) (PutAt block named value) Changed → Same (PutAt block named value) Changed
    changed so = record { answer = ap (λ (s : Served). s.answer) is; shown = subst (λ (s : Served). Shows (behind so_far) s.world) (sym is) shows }
      where
        by : (t : Bool) → (w.ver block.ino block.blk == named) ≡ t → t ≡ false
        by true test =
            let same : named ≡ versions_behind so_far block = sym (eqb-true (w.ver block.ino block.blk) named test) ∙ (shows block).newest in
            let more : named < versions_behind so_far block = so in
            absurd (omega (arith, same, more))
        by false test = refl

        is : serve w (PutAt block named value) ≡ unwritten
        is = served false (by (w.ver block.ino block.blk == named) refl)

  same : (step : BlockCall) (x : BlockAnswer) → IsAnswerTo step x → IsFound (versions_behind so_far) step x → AreLegalFrom (behind so_far) (told client step x) → Same step x
  same (Get block) (Got ver value) fits so legal = gets block ver value (record { newest = legal.0.0; content = legal.0.1 })
  same (Put block value) (Written ver) fits so legal = puts block value ver so
  same (PutAt block named value) (Written ver) fits so legal = puts_at block named value ver fits so
  same (PutAt block named value) Changed fits so legal = changed block named value so
  same Sync Synced fits so legal = record { answer = refl; shown = sync_shows client (behind so_far) w shows }
  same (Get block) (Written ver) fits so legal = absurd fits
  same (Get block) Changed fits so legal = absurd fits
  same (Get block) Synced fits so legal = absurd fits
  same (Put block value) (Got ver v) fits so legal = absurd fits
  same (Put block value) Changed fits so legal = absurd fits
  same (Put block value) Synced fits so legal = absurd fits
  same (PutAt block named value) (Got ver v) fits so legal = absurd fits
  same (PutAt block named value) Synced fits so legal = absurd fits
  same Sync (Got ver v) fits so legal = absurd fits
  same Sync (Written ver) fits so legal = absurd fits
  same Sync Changed fits so legal = absurd fits

-- what is told answers no item, and by none of it a client is back
record IsQuietly (acts : List Act) : Type 0 where
  silent : answers_in acts ≡ []
  returns : AllByRecursion IsNoReturn acts

quietly : (client : ℕ) (step : BlockCall) (x : BlockAnswer) → IsQuietly (told client step x)
quietly client (Get block) (Got ver value) = record { silent = refl; returns = (tt, tt) }
quietly client (Put block value) (Written ver) = record { silent = refl; returns = (tt, tt) }
quietly client (PutAt block named value) (Written ver) = record { silent = refl; returns = (tt, tt) }
quietly client Sync Synced = record { silent = refl; returns = (tt, tt) }
quietly client (Get block) (Written ver) = record { silent = refl; returns = tt }
quietly client (Get block) Changed = record { silent = refl; returns = tt }
quietly client (Get block) Synced = record { silent = refl; returns = tt }
quietly client (Put block value) (Got ver v) = record { silent = refl; returns = tt }
quietly client (Put block value) Changed = record { silent = refl; returns = tt }
quietly client (Put block value) Synced = record { silent = refl; returns = tt }
quietly client (PutAt block named value) (Got ver v) = record { silent = refl; returns = tt }
quietly client (PutAt block named value) Changed = record { silent = refl; returns = tt }
quietly client (PutAt block named value) Synced = record { silent = refl; returns = tt }
quietly client Sync (Got ver v) = record { silent = refl; returns = tt }
quietly client Sync (Written ver) = record { silent = refl; returns = tt }
quietly client Sync Changed = record { silent = refl; returns = tt }

-- ---- a stretch

legal_front : (acts more : List Act) (h : History) → AreLegalFrom h (acts ++ more) → AreLegalFrom h acts
legal_front [] more h legal = tt
legal_front (a ∷ acts) more h legal = (legal.0, legal_front acts more (after_act a h) legal.1)

module _ (client item : ℕ) (does : Doing) (start : World) where
  -- The call waits: the machine has come as far, and its table shows what was acted; nothing was answered.
  pub record Waiting (h : History) (acts : List Act) (new : Call) : Type 0 where
    pub had : List BlockAnswer
    pub table : World
    pub at : At does had (On new)
    pub reached : Reaches does start had table
    pub shows : Shows (history_after acts h) table
    pub silent : answers_in acts ≡ []
    pub returns : AllByRecursion IsNoReturn acts

  -- It is done: the machine replies the same, and the item is answered so.
  pub record Done (h : History) (acts : List Act) : Type 0 where
    pub given : Answer
    pub table : World
    pub replied : Replied does start given table
    pub shows : Shows (history_after acts h) table
    pub answers : answers_in acts ≡ act.Answered (nodes.Client client) item given ∷ []
    pub returns : AllByRecursion IsNoReturn acts

  abbrev pub Comes : History → List Act → Option Call → Type 0
  Comes h acts (Some new) = Waiting h acts new
  Comes h acts None = Done h acts

  same_at : (had : List BlockAnswer) (old now : Call) → now.plan ≡ old.plan → now.step ≡ old.step → At does had (On old) → At does had (On now)
  same_at had old now plan step at = (at.0 ∙ ap Step (sym step), subst (λ p. PlanAt does had p) (sym plan) at.1)

  module _ (so_far said rest : List Act) (q : IsQuietly said) where
    through : behind (so_far ++ said) ≡ history_after said (behind so_far)
    through = history_through so_far said nothing_yet

    then_history : history_after rest (behind (so_far ++ said)) ≡ history_after (said ++ rest) (behind so_far)
    then_history = ap (history_after rest) through ∙ sym (history_through said rest (behind so_far))

    answers_then : answers_in (said ++ rest) ≡ answers_in rest
    answers_then = filter-append is_answer said rest ∙ ap (λ xs. xs ++ answers_in rest) q.silent

    later : (after : Option Call) → Comes (behind (so_far ++ said)) rest after → Comes (behind so_far) (said ++ rest) after
    later (Some new) g = record {
      had = g.had;
      table = g.table;
      at = g.at;
      reached = g.reached;
      shows = subst (λ h. Shows h g.table) then_history g.shows;
      silent = answers_then ∙ g.silent;
      returns = all_append IsNoReturn said rest q.returns g.returns;
    }
    later None g = record {
      given = g.given;
      table = g.table;
      replied = g.replied;
      shows = subst (λ h. Shows h g.table) then_history g.shows;
      answers = answers_then ∙ g.answers;
      returns = all_append IsNoReturn said rest q.returns g.returns;
    }

  pub comes : {so_far : List Act} {g : Going} {acts : List Act} {after : Option Call} → FoundStretch client (Some item) so_far g acts after
      → (had : List BlockAnswer) (w : World) → At does had g → Reaches does start had w → Shows (behind so_far) w → AreLegalFrom (behind so_far) acts
      → Comes (behind so_far) acts after
  comes (Awaits {call = call} {new = new} plan step) had w at r shows legal =
      record { had = had; table = w; at = same_at had call new plan step at; reached = r; shows = shows; silent = refl; returns = tt }
  comes {so_far} {after = after} (Follows {call = call} {acts = rest} x fits so more) had w at r shows legal =
      later so_far (told client call.step x) rest (quietly client call.step x) after
      (comes more (had ++ x ∷ []) (serve w call.step).world (after_at does had call.plan x at.1)
      (subst (λ (y : BlockAnswer). Reaches does start (had ++ y ∷ []) (serve w call.step).world) s.answer (one_more does start had w call.step at.0 r))
      (subst (λ h. Shows h (serve w call.step).world) (sym through_) s.shown)
      (subst (λ h. AreLegalFrom h rest) (sym through_) (legal_behind (told client call.step x) rest (behind so_far) legal)))
    where
      s : Same client so_far w shows call.step x
      s = same client so_far w shows call.step x fits so (legal_front (told client call.step x) rest (behind so_far) legal)

      through_ : behind (so_far ++ told client call.step x) ≡ history_after (told client call.step x) (behind so_far)
      through_ = history_through so_far (told client call.step x) nothing_yet
  comes (Concludes a) had w at r shows legal =
      record { given = a; table = w; replied = at_reply does start had w a at r; shows = shows; answers = refl; returns = (tt, tt) }
