-- What a machine replies that is driven as long as it takes, the one machine replies, since its table holds a tree: line by line.
use Rattle.std.proofs.Common.{◌≡◌, ◌≤◌, ℕ, zero, suc, ◌+◌, Bool, true, false, cond, ◌||◌, not, is_some, List, [], ◌∷◌, ◌++◌, length, Option, Some, None, append_assoc, refl, sym, ap, subst, ◌∙◌, arith}
use Rattle.std.proofs.lemmas.Bool.{and_parts}
use Rattle.client_call.specs.Calls.{answer_of, may_make}
use Rattle.file_plan.specs.declared.block_call.BlockAnswer.{BlockAnswer}
use Rattle.file_plan.specs.declared.block_call.BlockCall.{BlockCall}
use Rattle.file_plan.specs.declared.block_call.BlockCall.TheVariants.{Get, Put, Sync}
use Rattle.file_plan.specs.declared.block_call.Next.{Next}
use Rattle.file_plan.specs.declared.block_call.Next.TheVariants.{Reply, Step}
use Rattle.file_plan.specs.declared.node.Kind.{Kind}
use Rattle.file_plan.specs.Driving.{World, most_steps, serve}
use Rattle.file_plan.specs.Example.{Ended, driven}
use Rattle.file_plan.specs.Plan.{made_by, plan}
use Rattle.file_plan.specs.Tree.{kinds_after}
use Rattle.headline.specs.Courses.{Doing, by_one as one_call, doing_of}
use Rattle.headline.specs.InLine.{AnswerLines, AnswersLine}
use Rattle.headline.specs.Items.{IsFileCall, asked_at}
use Rattle.headline.specs.OneMachine.{AreCalls, Serves, is_call, is_call_or_none}
use Rattle.one_machine.specs.Machine.{after_line, by_one, call_on}
use Rattle.one_machine.specs.Trees.{KeepTheTree, RepliesAsTree}
use Rattle.script_text.specs.declared.script.Line.{Line}
use Rattle.transcript.specs.Text.{number_of}
use Rattle.version_model.specs.declared.act.Act.{Act}
use Rattle.version_model.specs.declared.act.Act.TheVariants as act
use Rattle.version_model.specs.declared.answer.Answer.{Answer}
use Rattle.version_model.specs.declared.file_call.FileCall.{FileCall}
use Rattle.version_model.specs.declared.work.Work.{Work}
use Rattle.version_model.specs.declared.work.Work.TheVariants as work
use Rattle.world_base.specs.Items.{actor_of, items_of}
use Rattle.xfs_base.specs.declared.block.Ino.{Ino}
use Rattle.xfs_base.specs.declared.node.NodeId.{NodeId}
use Rattle.xfs_base.specs.declared.node.NodeId.TheVariants as nodes
use Rattle.xfs_base.specs.Limits.{max_lines}
use Rattle.run_text.proofs.CallItems.{each_call}
use Rattle.run_text.proofs.CallMoments.{Gives, GivesAll}
use Rattle.run_text.proofs.Driven.{Replied, ended}
use Rattle.run_text.proofs.Texts.{asked_here}

-- ---- as many steps as it takes

abbrev driven_by : Next → World → (BlockAnswer → World → Ended) → Ended
driven_by (Reply a) w more = ended a w
driven_by (Step step) w more = more (serve w step).answer (serve w step).world

driven_is : (does : Doing) (steps : ℕ) (had : List BlockAnswer) (w : World)
    → driven does (suc steps) had w ≡ driven_by (does had) w (λ x v. driven does steps (had ++ x ∷ []) v)
driven_is does steps had w = by (does had) refl
  where
    by : (n : Next) → does had ≡ n → driven does (suc steps) had w ≡ driven_by n w (λ x v. driven does steps (had ++ x ∷ []) v)
    by (Reply a) is = rw (is, driven) refl
    by (Step step) is = rw (is, driven) refl

same_next : (a : Answer) (n : Next) (w : World) (f g : BlockAnswer → World → Ended) → ((x : BlockAnswer) (v : World) → (g x v).reply ≡ Some a → f x v ≡ g x v)
    → (driven_by n w g).reply ≡ Some a → driven_by n w f ≡ driven_by n w g
same_next a (Reply b) w f g same is = refl
same_next a (Step step) w f g same is = same (serve w step).answer (serve w step).world is

-- where it has replied, more steps change nothing
more_steps : (does : Doing) (steps more : ℕ) (had : List BlockAnswer) (w : World) (a : Answer) → (driven does steps had w).reply ≡ Some a
    → driven does (steps + more) had w ≡ driven does steps had w
more_steps does zero more had w a is = absurd (let clash : None ≡ Some a = is in cc)
more_steps does (suc steps) more had w a is =
    ap (λ n. driven does n had w) (sum steps more)
    ∙ (driven_is does (steps + more) had w
    ∙ (same_next a (does had) w (λ x v. driven does (steps + more) (had ++ x ∷ []) v) (λ x v. driven does steps (had ++ x ∷ []) v)
    (λ x v fact. more_steps does steps more (had ++ x ∷ []) v a fact) (ap (λ (e : Ended). e.reply) (sym (driven_is does steps had w)) ∙ is)
    ∙ sym (driven_is does steps had w)))
  where
    sum : (n m : ℕ) → suc n + m ≡ suc (n + m)
    sum n m = omega arith

-- it replies once
one_reply : (does : Doing) (from : World) (a b : Answer) (to : World) (steps : ℕ) → Replied does from a to → (driven does steps [] from).reply ≡ Some b
    → driven does steps [] from ≡ ended a to
one_reply does from a b to steps r is =
    sym (more_steps does steps r.steps [] from b is)
    ∙ (ap (λ n. driven does n [] from) (swap steps r.steps)
    ∙ (more_steps does r.steps steps [] from a (ap (λ (e : Ended). e.reply) r.so) ∙ r.so))
  where
    swap : (n m : ℕ) → n + m ≡ m + n
    swap n m = omega arith

-- ---- one call

module _ (from : World) (item client : ℕ) (a : Answer) (to : World) where
  -- the one machine replies so
  abbrev Calls : Work → Type 0
  Calls w = (does : Doing) → doing_of w item client ≡ Some does → actor_of w ≡ Some (nodes.Client client) → Replied does from a to
      → (IsFileCall (Some w) → (given : Answer) × ((call_on from item w).reply ≡ Some given)) → call_on from item w ≡ ended a to

  by_one_is : (step : BlockCall) (does : Doing) → Some (one_call step) ≡ Some does → Replied does from a to → by_one from step ≡ ended a to
  by_one_is step does is r =
      (let same : does ≡ one_call step = cc in
      one_reply (one_call step) from a (answer_of (serve from step).answer) to 2 (subst (λ d. Replied d from a to) same r) refl)

  file_is : (c : ℕ) (call : FileCall) → Calls (work.File c call)
  file_is c call does is own r replies = by (may_make item client) is
    where
      itself : c ≡ client
      itself = let fact : Some (nodes.Client c) ≡ Some (nodes.Client client) = own in cc

      by : (t : Bool) → cond t (Some (plan call item client)) None ≡ Some does → call_on from item (work.File c call) ≡ ended a to
      by true made =
          (let same : does ≡ plan call item c = (let one : plan call item client ≡ does = cc in sym one ∙ ap (plan call item) (sym itself)) in
          let g = replies tt in
          one_reply (plan call item c) from a g.0 to (most_steps call + 1) (subst (λ d. Replied d from a to) same r) g.1)
      by false made = absurd (let clash : None ≡ Some does = made in cc)

  call_is : (w : Work) → is_call w ≡ true → Calls w
  call_is =
      each_call Calls (λ c b value does is own r replies. by_one_is (Put b value) does is r) (λ c b does is own r replies. by_one_is (Get b) does is r)
      (λ c does is own r replies. by_one_is Sync does is r) file_is

-- ---- the tree

-- the table holds a tree behind the line, and a call on files is replied to
record Kept (e : Ended) (wanted : Work) (More : (Ino → Option Kind) → Type 0) : Type 0 where
  kinds : Ino → Option Kind
  more : More kinds
  replies : IsFileCall (Some wanted) → (given : Answer) × (e.reply ≡ Some given)

kept : (kinds : Ino → Option Kind) (w : World) (before : List Line) (wanted : Work) (e : Ended) (More : (Ino → Option Kind) → Type 0)
    → RepliesAsTree kinds w before wanted e More → Kept e wanted More
kept kinds w before (work.File client call) e More (given, is, met, more) =
    record { kinds = kinds_after kinds (made_by (number_of before (nodes.Client client)) client) call; more = more; replies = λ file. (given, is) }
kept kinds w before _ e More more = record { kinds = kinds; more = more; replies = λ file. absurd file }

-- ---- lines

module _ (script_lines : List Line) (few : length script_lines ≤ max_lines) (to : World) where
  module _ (before lines : List Line) (line : Line) (is : script_lines ≡ before ++ line ∷ lines) (called : is_call_or_none line ≡ true) (from : World)
      (later : (kinds : Ino → Option Kind) (v : World) (ys : List Act) → AnswerLines (before ++ line ∷ []) lines ys → GivesAll script_lines v ys to
      → KeepTheTree kinds v (before ++ line ∷ []) lines → Serves script_lines v ys to) where
    abbrev Tree : Ended → Type 0
    Tree e = Kept e line.work (λ now. KeepTheTree now e.world (before ++ line ∷ []) lines)

    module _ (node : NodeId) (actor : actor_of line.work ≡ Some node) (item : ℕ) (a : Answer) (ys : List Act) (other : NodeId) (same : other ≡ node)
        (number : item ≡ number_of before node) (rest : AnswerLines (before ++ line ∷ []) lines ys) (mid : World) (g : Gives script_lines from other item a mid)
        (more : GivesAll script_lines mid ys to) (k : Tree (call_on from (number_of before node) line.work)) where
      one_work : (v w : Work) → Some v ≡ Some w → v ≡ w
      one_work v w fact = cc

      work_is : g.wanted ≡ line.work
      work_is =
          one_work g.wanted line.work
          (sym g.asks ∙ (ap (λ n. asked_at (items_of script_lines n) item) same ∙ (ap (asked_at (items_of script_lines node)) number
          ∙ asked_here script_lines few [] from before lines line is node actor)))

      is_called : is_call line.work ≡ true
      is_called = sym (no_more (is_call line.work)) ∙ (sym (ap (λ (o : Option NodeId). is_call line.work || not (is_some o)) actor) ∙ called)
        where
          no_more : (t : Bool) → (t || false) ≡ t
          no_more true = refl
          no_more false = refl

      replied : call_on from item line.work ≡ ended a mid
      replied =
          call_is from item g.client a mid line.work is_called g.does (subst (λ w. doing_of w item g.client ≡ Some g.does) work_is g.call)
          (actor ∙ ap Some (sym same ∙ g.own)) g.replied (subst (λ n. IsFileCall (Some line.work) → (given : Answer) × ((call_on from n line.work).reply ≡ Some given)) (sym number) k.replies)

      wanted_is : call_on from item g.wanted ≡ ended a mid
      wanted_is = ap (call_on from item) work_is ∙ replied

      tree_then : KeepTheTree k.kinds mid (before ++ line ∷ []) lines
      tree_then =
          subst (λ (e : Ended). KeepTheTree k.kinds e.world (before ++ line ∷ []) lines) (ap (λ n. call_on from n line.work) (sym number) ∙ replied) k.more

      serves_line : Serves script_lines from (act.Answered other item a ∷ ys) to
      serves_line = (
        g.wanted,
        g.asks,
        ap (λ (e : Ended). e.reply) wanted_is,
        subst (λ (e : Ended). Serves script_lines e.world ys to) (sym wanted_is) (later k.kinds mid ys rest more tree_then),
      )

    at_line : (o : Option NodeId) → actor_of line.work ≡ o → (answers : List Act) → AnswersLine before o answers (AnswerLines (before ++ line ∷ []) lines)
        → GivesAll script_lines from answers to → Tree (after_line from before line.work o) → Serves script_lines from answers to
    at_line None actor answers rest gives k = later k.kinds from answers rest gives k.more
    at_line (Some node) actor [] rest gives k = absurd rest
    at_line (Some node) actor (act.Answered other item a ∷ ys) ((same, number, of), rest) (mid, g, more) k =
        serves_line node actor item a ys other same number rest mid g more k
    at_line (Some node) actor (_ ∷ ys) rest gives k = absurd rest.0

  pub serves_all : (before lines : List Line) (kinds : Ino → Option Kind) (from : World) (answers : List Act) → script_lines ≡ before ++ lines → AreCalls lines
      → AnswerLines before lines answers → GivesAll script_lines from answers to → KeepTheTree kinds from before lines → Serves script_lines from answers to
  serves_all before [] kinds from answers is calls in_line gives tree =
      subst (λ ys. GivesAll script_lines from ys to → Serves script_lines from ys to) (sym in_line) (λ so. so) gives
  serves_all before (line ∷ lines) kinds from answers is calls in_line gives tree =
      (let both = and_parts (is_call_or_none line) _ calls in
      at_line before lines line is both.0 from
      (λ now v ys rest more held. serves_all (before ++ line ∷ []) lines now v ys (is ∙ sym (append_assoc before (line ∷ []) lines)) both.1 rest more held)
      (actor_of line.work) refl answers in_line gives
      (kept kinds from before line.work (after_line from before line.work (actor_of line.work))
      (λ now. KeepTheTree now (after_line from before line.work (actor_of line.work)).world (before ++ line ∷ []) lines) tree))
