-- Where the answers come in the order of lines, the lines of the text are those of the one machine that gives these answers.
use Rattle.std.proofs.Common.{◌≡◌, ◌≤◌, ℕ, suc, ◌-◌, cond, List, [], ◌∷◌, ◌++◌, inl, inr, length, length-append, slice_get, Option, Some, None, is_some, append_assoc, refl, sym, ap, subst, ◌∙◌, arith}
use Rattle.std.specs.Fmt.{decimal}
use Rattle.std.specs.List.{AllByRecursion, count_by}
use Rattle.std.proofs.lemmas.Bool.{lt-ltb}
use Rattle.std.proofs.lemmas.List.Sums.{count_by-le-length, length-filter}
use Rattle.std.proofs.lemmas.List.{length-map}
use Rattle.act_text.specs.Answers.{answer_text}
use Rattle.core_world.specs.declared.any_node.AnyNode.{AnyNode}
use Rattle.file_plan.specs.Driving.{World, nothing_written}
use Rattle.file_plan.specs.Example.{Ended}
use Rattle.headline.specs.InLine.{AnswerLines, AnswersInLine, AnswersLine, DoesAnswer, answers_in}
use Rattle.headline.specs.Items.{ItemsAnsweredOnce, asked_at, item_name}
use Rattle.headline.specs.OneMachine.{AreDone, IsDone, Serves}
use Rattle.one_machine.specs.Machine.{IsAsOneMachine, after_line, call_on, replied, replies_by, reply_line}
use Rattle.quiet_flow.proofs.Counts.{count_hit, count_miss}
use Rattle.quiet_script.proofs.Answered.{item_there, items_counted, items_split}
use Rattle.script_text.specs.declared.script.Line.{Line}
use Rattle.token_protocol.specs.Basics.{In}
use Rattle.transcript.specs.Replies.{is_answer, is_item, items_in, open_items, replies_of, reply_of}
use Rattle.transcript.specs.Text.{asked_text, end_text, item_text, lines_text, number_of, reply_text, text_of}
use Rattle.version_model.specs.declared.act.Act.{Act}
use Rattle.version_model.specs.declared.act.Act.TheVariants as act
use Rattle.version_model.specs.declared.answer.Answer.{Answer}
use Rattle.version_model.specs.declared.work.Work.{Work}
use Rattle.world_base.specs.declared.estate.Estate.{Estate}
use Rattle.world_base.specs.Items.{actor_of, is_for, items_of, works_of}
use Rattle.xfs_base.specs.declared.node.NodeId.{NodeId}
use Rattle.xfs_base.specs.Limits.{max_lines}
use Rattle.run_text.proofs.Acts.{answer_among}
use Rattle.run_text.proofs.Serving.{IsNoReturn}
use Rattle.run_text.proofs.Shown.{shows_answer}

-- ---- what is counted

-- there is an answer for each line that is an item
answers_counted : (before lines : List Line) (answers : List Act) → AnswerLines before lines answers → length answers ≡ count_by is_item lines
answers_counted before [] answers none = ap length none
answers_counted before (l ∷ lines) answers in_line = by (actor_of l.work) refl answers in_line (λ ys. answers_counted (before ++ l ∷ []) lines ys)
  where
    by : (o : Option NodeId) → actor_of l.work ≡ o → (ys : List Act) → AnswersLine before o ys (AnswerLines (before ++ l ∷ []) lines)
        → ((zs : List Act) → AnswerLines (before ++ l ∷ []) lines zs → length zs ≡ count_by is_item lines) → length ys ≡ count_by is_item (l ∷ lines)
    by None is ys rest counted = counted ys rest ∙ sym (count_miss is_item l lines (ap is_some is))
    by (Some node) is [] rest counted = absurd rest
    by (Some node) is (y ∷ ys) rest counted =
        let one = counted ys rest.1 in
        let more = count_hit is_item l lines (ap is_some is) in
        omega arith

-- each answer that is one of a line is of a call that is done
done_by : (node : NodeId) (number : ℕ) (a : Act) → DoesAnswer node number a → IsDone a
done_by node number (act.Answered other item x) does = does.2
done_by node number _ does = absurd does

all_done : (before lines : List Line) (answers : List Act) → AnswerLines before lines answers → AreDone answers
all_done before [] answers none = subst AreDone (sym none) tt
all_done before (l ∷ lines) answers in_line = by (actor_of l.work) answers in_line (λ ys. all_done (before ++ l ∷ []) lines ys)
  where
    by : (o : Option NodeId) (ys : List Act) → AnswersLine before o ys (AnswerLines (before ++ l ∷ []) lines)
        → ((zs : List Act) → AnswerLines (before ++ l ∷ []) lines zs → AreDone zs) → AreDone ys
    by None ys rest later = later ys rest
    by (Some node) [] rest later = absurd rest
    by (Some node) (y ∷ ys) rest later = (done_by node (number_of before node) y rest.0, later ys rest.1)

pub acts_done : (acts : List Act) → AreDone (answers_in acts) → AreDone acts
acts_done [] all = tt
acts_done (act.Answered node item x ∷ acts) all = (all.0, acts_done acts all.1)
acts_done (_ ∷ acts) all = (tt, acts_done acts all)

pub in_line_done : (lines : List Line) (acts : List Act) → AnswerLines [] lines (answers_in acts) → AreDone acts
in_line_done lines acts in_line = acts_done acts (all_done [] lines (answers_in acts) in_line)

-- ---- the texts of lines

module _ (script_lines : List Line) (few : length script_lines ≤ max_lines) (acts : List Act) (end : World) where
  -- what the text has for an item is the text of this answer
  abbrev Says : NodeId → ℕ → Answer → Type 0
  Says node item x = reply_text acts (reply_of (replies_of acts) (item_name node item)) ≡ answer_text x

  abbrev SaysAll : List Act → Type 0
  SaysAll answers = (node : NodeId) (item : ℕ) (x : Answer) → In (act.Answered node item x) answers → Says node item x

  module _ (before lines : List Line) (line : Line) (is : script_lines ≡ before ++ line ∷ lines) (node : NodeId) (actor : actor_of line.work ≡ Some node) where
    few_before : length before ≤ 20000
    few_before =
        let long : length script_lines ≡ length (before ++ line ∷ lines) = ap length is in
        let both = length-append before (line ∷ lines) in
        omega arith

    pub number_is : number_of before node ≡ suc (length (items_of before node))
    number_is =
        let count = items_counted before node in
        let most = count_by-le-length (is_for node) (works_of before) in
        let long = length-map before (λ (l : Line). l.work) in
        let short = few_before in
        omega arith

    -- the item asks for what its line says
    pub asked_here : asked_at (items_of script_lines node) (number_of before node) ≡ Some line.work
    asked_here =
        ap (asked_at (items_of script_lines node)) number_is
        ∙ ap (λ t. cond t (slice_get (items_of script_lines node) (suc (length (items_of before node)) - 1)) None) (lt-ltb 0 (suc (length (items_of before node))) (omega arith))
        ∙ ap (slice_get (items_of script_lines node)) (less (length (items_of before node)))
        ∙ ap (λ ws. slice_get ws (length (items_of before node))) (ap (λ ls. items_of ls node) is ∙ items_split before lines line node actor)
        ∙ item_there (items_of before node) line.work (items_of lines node)
      where
        less : (n : ℕ) → suc n - 1 ≡ n
        less n = omega arith

  module _ (before lines : List Line) (line : Line) (is : script_lines ≡ before ++ line ∷ lines)
      (later : (v : World) (ys : List Act) → AnswerLines (before ++ line ∷ []) lines ys → Serves script_lines v ys end → SaysAll ys
      → lines_text acts (replies_of acts) (before ++ line ∷ []) lines ≡ replies_by v (before ++ line ∷ []) lines) where
    abbrev more : List ℕ
    more = lines_text acts (replies_of acts) (before ++ line ∷ []) lines

    abbrev Same : Option NodeId → World → Type 0
    Same o w =
        item_text acts (replies_of acts) (number_of before) line o ++ more
        ≡ reply_line line o (after_line w before line.work o).reply ++ replies_by (after_line w before line.work o).world (before ++ line ∷ []) lines

    -- the line's own answer comes first
    module _ (node : NodeId) (actor : actor_of line.work ≡ Some node) (w : World) (item : ℕ) (x : Answer) (ys : List Act) (number : item ≡ number_of before node)
        (rest : AnswerLines (before ++ line ∷ []) lines ys) (wanted : Work) (asked : asked_at (items_of script_lines node) item ≡ Some wanted)
        (gives : (call_on w item wanted).reply ≡ Some x) (serves : Serves script_lines (call_on w item wanted).world ys end) (says : Says node item x)
        (says_all : SaysAll ys) where
      work_is : wanted ≡ line.work
      work_is =
          same_work wanted line.work
          (sym asked ∙ ap (asked_at (items_of script_lines node)) number ∙ asked_here before lines line is node actor)
        where
          same_work : (a b : Work) → Some a ≡ Some b → a ≡ b
          same_work a b fact = cc

      call_is : call_on w item wanted ≡ call_on w (number_of before node) line.work
      call_is = ap (λ n. call_on w n wanted) number ∙ ap (call_on w (number_of before node)) work_is

      own_text : reply_text acts (reply_of (replies_of acts) (item_name node (number_of before node))) ≡ replied (call_on w (number_of before node) line.work).reply
      own_text =
          ap (λ n. reply_text acts (reply_of (replies_of acts) (item_name node n))) (sym number)
          ∙ says
          ∙ ap replied (sym gives ∙ ap (λ (e : Ended). e.reply) call_is)

      same_line : Same (Some node) w
      same_line =
          ap (λ t. (decimal line.number ++ 32 ∷ (t ++ 10 ∷ [])) ++ more) own_text
          ∙ ap (λ t. reply_line line (Some node) (call_on w (number_of before node) line.work).reply ++ t)
          (later (call_on w (number_of before node) line.work).world ys rest
          (subst (λ (e : Ended). Serves script_lines e.world ys end) call_is serves) says_all)

    same_by : (o : Option NodeId) → actor_of line.work ≡ o → (w : World) (answers : List Act) → AnswersLine before o answers (AnswerLines (before ++ line ∷ []) lines)
        → Serves script_lines w answers end → SaysAll answers → Same o w
    same_by None actor w answers rest serves says = later w answers rest serves says
    same_by (Some node) actor w [] rest serves says = absurd rest
    same_by (Some node) actor w (act.Answered other item x ∷ ys) ((same, number, of), rest) (wanted, asked, gives, serves) says =
        same_line node actor w item x ys number rest wanted (ap (λ n. asked_at (items_of script_lines n) item) (sym same) ∙ asked) gives serves
        (subst (λ n. Says n item x) same (says other item x (inl refl))) (λ n i y among. says n i y (inr among))
    same_by (Some node) actor w (_ ∷ ys) rest serves says = absurd rest.0

  same_lines : (before lines : List Line) (w : World) (answers : List Act) → script_lines ≡ before ++ lines → AnswerLines before lines answers
      → Serves script_lines w answers end → SaysAll answers → lines_text acts (replies_of acts) before lines ≡ replies_by w before lines
  same_lines before [] w answers is in_line serves says = refl
  same_lines before (line ∷ lines) w answers is in_line serves says =
      same_by before lines line is
      (λ v ys rest so says. same_lines (before ++ line ∷ []) lines v ys (is ∙ sym (append_assoc before (line ∷ []) lines)) rest so says)
      (actor_of line.work) refl w answers in_line serves says

-- ---- the whole text

pub text_is : (e : Estate AnyNode) → length e.script.lines ≤ max_lines → ItemsAnsweredOnce e → AnswersInLine e → (table : World)
    → Serves e.script.lines nothing_written (answers_in e.world.acts) table → AllByRecursion IsNoReturn e.world.acts → IsAsOneMachine e
unfolding text_of
text_is e few once in_line table serves returns =
    ap (λ t. t ++ (asked_text e.script.setup.acts e.world.acts ++ end_text (items_in e) (open_items e)))
    (same_lines e.script.lines few e.world.acts table [] e.script.lines nothing_written (answers_in e.world.acts) refl in_line serves says)
    ∙ ap (λ n. replies_by nothing_written [] e.script.lines ++ (asked_text e.script.setup.acts e.world.acts ++ end_text (items_in e) n)) none_open
  where
    none_open : open_items e ≡ 0
    none_open =
        let each = answers_counted [] e.script.lines (answers_in e.world.acts) in_line in
        let count = length-filter is_answer e.world.acts in
        omega arith

    -- where an act stands
    place_of : (a : Act) (acts : List Act) → In a acts → (place : ℕ) × (slice_get acts place ≡ Some a)
    place_of a [] among = absurd among
    place_of a (x ∷ acts) (inl same) = (0, ap Some (sym same))
    place_of a (x ∷ acts) (inr among) = let p = place_of a acts among in (suc p.0, p.1)

    says : (node : NodeId) (item : ℕ) (x : Answer) → In (act.Answered node item x) (answers_in e.world.acts)
        → reply_text e.world.acts (reply_of (replies_of e.world.acts) (item_name node item)) ≡ answer_text x
    says node item x among =
        let p = place_of (act.Answered node item x) e.world.acts (answer_among e.world.acts (act.Answered node item x) among) in
        shows_answer e.world.acts returns node item x (once.shown p.0 node item x p.1)
