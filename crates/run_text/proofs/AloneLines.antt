-- Where answers come in the order in which items were begun, each of an item that had begun by then and none twice, they are the answers of the lines, in their order.
use Rattle.std.proofs.Common.{◌≡◌, ◌≤◌, ◌<◌, ◌⊎◌, ℕ, suc, ◌+◌, ◌-◌, nat_le, Bool, true, false, cond, is_some, List, [], ◌∷◌, ◌++◌, append-nil, append_assoc, filter, inl, inr, length, length-append, Option, Some, None, refl, sym, ap, subst, ◌∙◌, arith}
use Rattle.std.proofs.lemmas.Bool.{leb-true}
use Rattle.std.proofs.lemmas.Bool.Decides.{nat_tests}
use Rattle.std.proofs.lemmas.List.Sums.{length-filter}
use Rattle.std.specs.List.{cons_option, count_by}
use Rattle.core_world.specs.declared.any_node.AnyNode.{AnyNode}
use Rattle.file_plan.specs.Driving.{nothing_written}
use Rattle.headline.specs.InLine.{AnswerLines, AnswersLine, answers_in}
use Rattle.headline.specs.Items.{AnswersOnce}
use Rattle.headline.specs.OneMachine.{AreDone}
use Rattle.log_tie.proofs.Listings.{in_back, in_front}
use Rattle.play.proofs.EachBegun.{for_each}
use Rattle.play.specs.Plays.{actors_of}
use Rattle.quiet_flow.proofs.Counts.{count_hit, count_miss}
use Rattle.script_text.specs.declared.script.Line.{Line}
use Rattle.token_protocol.specs.Basics.{In}
use Rattle.transcript.specs.Replies.{is_answer, is_item, open_items}
use Rattle.transcript.specs.Text.{number_of}
use Rattle.version_model.specs.declared.act.Act.{Act}
use Rattle.version_model.specs.declared.act.Act.TheVariants as act
use Rattle.version_model.specs.declared.answer.Answer.{Answer}
use Rattle.world_base.specs.declared.estate.Estate.{Estate}
use Rattle.world_base.specs.Items.{actor_of}
use Rattle.world_base.specs.Runs.{begun_in}
use Rattle.xfs_base.proofs.NodeOrder.{same_node_is}
use Rattle.xfs_base.specs.declared.node.NodeId.{NodeId}
use Rattle.xfs_base.specs.Limits.{max_lines}
use Rattle.xfs_base.specs.Nodes.{same_node}
use Rattle.run_text.proofs.Acts.{answer_among}
use Rattle.run_text.proofs.Texts.{number_is}

-- how often a node is among these
abbrev pub its : NodeId → List NodeId → ℕ
its node nodes = length (filter (λ begun. same_node begun node) nodes)

abbrev pub one_if : Bool → ℕ
one_if t = cond t 1 0

pub its_more : (node : NodeId) (nodes : List NodeId) (n : NodeId) → its node (nodes ++ n ∷ []) ≡ its node nodes + one_if (same_node n node)
its_more node [] n = elim (same_node n node) as (λ t. length (cond t (n ∷ []) []) ≡ 0 + one_if t) [ true ↦ refl | false ↦ refl ]
its_more node (x ∷ nodes) n =
    elim (same_node x node) as
    (λ t. length (cond t (x ∷ filter (λ begun. same_node begun node) (nodes ++ n ∷ [])) (filter (λ begun. same_node begun node) (nodes ++ n ∷ [])))
    ≡ length (cond t (x ∷ filter (λ begun. same_node begun node) nodes) (filter (λ begun. same_node begun node) nodes)) + one_if (same_node n node)) [
      | true ↦ let more = its_more node nodes n in omega arith
      | false ↦ its_more node nodes n
    ]

-- ---- answers in the order of what was begun

-- behind some nodes, whose items are answered, these begin an item each, and these are the answers, in this order: each of an item of that node, of which as many had
-- begun by then
abbrev pub AnswersBy : List NodeId → List NodeId → List Act → Type 0
AnswersBy before [] answers = answers ≡ []
AnswersBy before (node ∷ nodes) [] = ⊥
AnswersBy before (node ∷ nodes) (act.Answered other item a ∷ answers) =
    ((other ≡ node) × ((1 ≤ item) × (item ≤ its node before + 1))) × AnswersBy (before ++ node ∷ []) nodes answers
AnswersBy before (node ∷ nodes) (_ ∷ answers) = ⊥

pub by_more : (before nodes : List NodeId) (answers : List Act) (node : NodeId) (item : ℕ) (a : Answer) → 1 ≤ item → item ≤ its node (before ++ nodes) + 1
    → AnswersBy before nodes answers → AnswersBy before (nodes ++ node ∷ []) (answers ++ act.Answered node item a ∷ [])
by_more before [] answers node item a least most none =
    subst (λ ys. AnswersBy before (node ∷ []) (ys ++ act.Answered node item a ∷ [])) (sym none)
    ((refl, (least, subst (λ ns. item ≤ its node ns + 1) (append-nil before) most)), refl)
by_more before (n ∷ nodes) [] node item a least most so = absurd so
by_more before (n ∷ nodes) (act.Answered other number b ∷ answers) node item a least most so = (
  so.0,
  by_more (before ++ n ∷ []) nodes answers node item a least
      (subst (λ ns. item ≤ its node ns + 1) (sym (append_assoc before (n ∷ []) nodes)) most) so.1,
)
by_more before (n ∷ nodes) (_ ∷ answers) node item a least most so = absurd so

by_length : (before nodes : List NodeId) (answers : List Act) → AnswersBy before nodes answers → length answers ≡ length nodes
by_length before [] answers none = ap length none
by_length before (n ∷ nodes) [] so = absurd so
by_length before (n ∷ nodes) (act.Answered other item a ∷ answers) so = ap suc (by_length (before ++ n ∷ []) nodes answers so.1)
by_length before (n ∷ nodes) (_ ∷ answers) so = absurd so

-- so are the answers to what these nodes began; or there are fewer
abbrev pub Turned : List NodeId → List Act → Type 0
Turned nodes answers = AnswersBy [] nodes answers ⊎ (length answers < length nodes)

pub not_more : (nodes : List NodeId) (answers : List Act) → Turned nodes answers → length answers ≤ length nodes
not_more nodes answers (inl by) = let same = by_length [] nodes answers by in omega arith
not_more nodes answers (inr fewer) = omega arith

-- an item that is left out
pub turned_out : (nodes : List NodeId) (answers : List Act) (node : NodeId) → Turned nodes answers → Turned (nodes ++ node ∷ []) answers
turned_out nodes answers node t =
    let most = not_more nodes answers t in
    let long = length-append nodes (node ∷ []) in
    inr (omega arith)

-- one that is answered
pub turned_more : (nodes : List NodeId) (answers : List Act) (node : NodeId) (item : ℕ) (a : Answer) → 1 ≤ item → item ≤ its node nodes + 1 → Turned nodes answers
    → Turned (nodes ++ node ∷ []) (answers ++ act.Answered node item a ∷ [])
turned_more nodes answers node item a least most (inl by) = inl (by_more [] nodes answers node item a least most by)
turned_more nodes answers node item a least most (inr fewer) =
    let long = length-append nodes (node ∷ []) in
    let more = length-append answers (act.Answered node item a ∷ []) in
    inr (omega arith)

-- ---- each is the next one of its node

-- the item of this number of a node is answered
abbrev IsAnswered : NodeId → ℕ → List Act → Type 0
IsAnswered node k done = (a : Answer) × In (act.Answered node k a) done

-- of each node the items up to as many as it is among these are
abbrev Has : List NodeId → List Act → Type 0
Has nodes done = (node : NodeId) (k : ℕ) → 1 ≤ k → k ≤ its node nodes → IsAnswered node k done

low_or_next : (k n : ℕ) → k ≤ n + 1 → (k ≤ n) ⊎ (k ≡ n + 1)
low_or_next k n most = by (nat_le k n) refl
  where
    by : (t : Bool) → nat_le k n ≡ t → (k ≤ n) ⊎ (k ≡ n + 1)
    by true low = inl (leb-true k n low)
    by false high = inr (grind (arith, nat_tests))

has_more : (nodes : List NodeId) (done : List Act) (n : NodeId) (item : ℕ) (a : Answer) → item ≡ its n nodes + 1 → Has nodes done
    → Has (nodes ++ n ∷ []) (done ++ act.Answered n item a ∷ [])
has_more nodes done n item a is has node k least most = by (same_node n node) refl
  where
    earlier : k ≤ its node nodes → IsAnswered node k (done ++ act.Answered n item a ∷ [])
    earlier low = let h = has node k least low in (h.0, in_front (act.Answered node k h.0) done (act.Answered n item a ∷ []) h.1)

    own : n ≡ node → (k ≤ its node nodes) ⊎ (k ≡ its node nodes + 1) → IsAnswered node k (done ++ act.Answered n item a ∷ [])
    own same (inl low) = earlier low
    own same (inr next) = (
      a,
      in_back (act.Answered node k a) done (act.Answered n item a ∷ [])
          (inl (ap (λ m. act.Answered m k a) (sym same)
          ∙ ap (λ j. act.Answered n j a) (next ∙ (ap (λ m. its m nodes + 1) (sym same) ∙ sym is)))),
    )

    by : (t : Bool) → same_node n node ≡ t → IsAnswered node k (done ++ act.Answered n item a ∷ [])
    by true same =
        let more = its_more node nodes n in
        let one : one_if (same_node n node) ≡ 1 = ap one_if same in
        own (same_node_is n node same) (low_or_next k (its node nodes) (omega arith))
    by false apart =
        let more = its_more node nodes n in
        let none : one_if (same_node n node) ≡ 0 = ap one_if apart in
        earlier (omega arith)

-- none is answered again
once_not : (done : List Act) (node : NodeId) (item : ℕ) (a : Answer) (ys : List Act) → AnswersOnce (done ++ act.Answered node item a ∷ ys) → (b : Answer)
    → In (act.Answered node item b) done → ⊥
once_not [] node item a ys once b among = among
once_not (act.Answered n i c ∷ done) node item a ys once b (inl same) =
    let one : n ≡ node = cc in
    let two : i ≡ item = cc in
    once.0 a (in_back (act.Answered n i a) done (act.Answered node item a ∷ ys) (inl (ap (λ m. act.Answered m i a) one ∙ ap (λ k. act.Answered node k a) two)))
once_not (act.Answered n i c ∷ done) node item a ys once b (inr among) = once_not done node item a ys once.1 b among
once_not (_ ∷ done) node item a ys once b (inl same) = absurd cc
once_not (_ ∷ done) node item a ys once b (inr among) = once_not done node item a ys once b among

once_answers : (acts : List Act) → AnswersOnce acts → AnswersOnce (answers_in acts)
once_answers [] once = tt
once_answers (act.Answered node item a ∷ acts) once =
    (λ b among. once.0 b (answer_among acts (act.Answered node item b) among), once_answers acts once.1)
once_answers (_ ∷ acts) once = once_answers acts once

done_answers : (acts : List Act) → AreDone acts → AreDone (answers_in acts)
done_answers [] all = tt
done_answers (act.Answered node item a ∷ acts) all = (all.0, done_answers acts all.1)
done_answers (_ ∷ acts) all = done_answers acts all.1

-- ---- lines

cons_front : (o : Option NodeId) (xs ys : List NodeId) → cons_option o (xs ++ ys) ≡ cons_option o xs ++ ys
cons_front None xs ys = refl
cons_front (Some node) xs ys = refl

actors_more : (before : List Line) (line : Line) → actors_of (before ++ line ∷ []) ≡ actors_of before ++ cons_option (actor_of line.work) []
actors_more [] line = refl
actors_more (l ∷ before) line =
    ap (cons_option (actor_of l.work)) (actors_more before line) ∙ cons_front (actor_of l.work) (actors_of before) (cons_option (actor_of line.work) [])

module _ (script_lines : List Line) (few : length script_lines ≤ max_lines) where
  module _ (before lines : List Line) (line : Line) (is : script_lines ≡ before ++ line ∷ lines)
      (later : (done ys : List Act) → AnswersBy (actors_of (before ++ line ∷ [])) (actors_of lines) ys → Has (actors_of (before ++ line ∷ [])) done
      → AnswersOnce (done ++ ys) → AreDone ys → AnswerLines (before ++ line ∷ []) lines ys) where
    actors_then : (o : Option NodeId) → actor_of line.work ≡ o → actors_of (before ++ line ∷ []) ≡ actors_of before ++ cons_option o []
    actors_then o actor = actors_more before line ∙ ap (λ (p : Option NodeId). actors_of before ++ cons_option p []) actor

    -- the line's own answer comes first
    module _ (node : NodeId) (actor : actor_of line.work ≡ Some node) (done ys : List Act) (other : NodeId) (item : ℕ) (a : Answer) (same : other ≡ node)
        (least : 1 ≤ item) (most : item ≤ its node (actors_of before) + 1) (has : Has (actors_of before) done)
        (once : AnswersOnce (done ++ act.Answered other item a ∷ ys)) where
      next : item ≡ its node (actors_of before) + 1
      next = by (low_or_next item (its node (actors_of before)) most)
        where
          by : (item ≤ its node (actors_of before)) ⊎ (item ≡ its node (actors_of before) + 1) → item ≡ its node (actors_of before) + 1
          by (inl low) =
              let h = has node item least low in
              absurd (once_not done other item a ys once h.0 (subst (λ n. In (act.Answered n item h.0) done) (sym same) h.1))
          by (inr so) = so

      its_number : item ≡ number_of before node
      its_number =
          let number = number_is script_lines few [] nothing_written before lines line is node actor in
          let count = for_each node before in
          let so = next in
          omega arith

      has_then : Has (actors_of (before ++ line ∷ [])) (done ++ act.Answered other item a ∷ [])
      has_then =
          subst (λ ns. Has ns (done ++ act.Answered other item a ∷ [])) (sym (actors_then (Some node) actor))
          (subst (λ n. Has (actors_of before ++ node ∷ []) (done ++ act.Answered n item a ∷ [])) (sym same) (has_more (actors_of before) done node item a next has))

    at_line : (o : Option NodeId) → actor_of line.work ≡ o → (done answers : List Act) → AnswersBy (actors_of before) (cons_option o (actors_of lines)) answers
        → Has (actors_of before) done → AnswersOnce (done ++ answers) → AreDone answers
        → AnswersLine before o answers (AnswerLines (before ++ line ∷ []) lines)
    at_line None actor done answers by has once all =
        later done answers (subst (λ ns. AnswersBy ns (actors_of lines) answers) (sym same) by) (subst (λ ns. Has ns done) (sym same) has) once all
      where
        same : actors_of (before ++ line ∷ []) ≡ actors_of before
        same = actors_then None actor ∙ append-nil (actors_of before)
    at_line (Some node) actor done [] by has once all = absurd by
    at_line (Some node) actor done (act.Answered other item a ∷ ys) ((same, (least, most)), rest) has once all = (
      (same, its_number node actor done ys other item a same least most has once, all.0),
      later (done ++ act.Answered other item a ∷ []) ys
          (subst (λ ns. AnswersBy ns (actors_of lines) ys) (sym (actors_then (Some node) actor)) rest)
          (has_then node actor done ys other item a same least most has once)
          (subst AnswersOnce (sym (append_assoc done (act.Answered other item a ∷ []) ys)) once) all.1,
    )
    at_line (Some node) actor done (_ ∷ ys) by has once all = absurd by

  in_line : (before lines : List Line) (done answers : List Act) → script_lines ≡ before ++ lines → AnswersBy (actors_of before) (actors_of lines) answers
      → Has (actors_of before) done → AnswersOnce (done ++ answers) → AreDone answers → AnswerLines before lines answers
  in_line before [] done answers is by has once all = by
  in_line before (line ∷ lines) done answers is by has once all =
      at_line before lines line is
      (λ more ys so had one each. in_line (before ++ line ∷ []) lines more ys (is ∙ sym (append_assoc before (line ∷ []) lines)) so had one each)
      (actor_of line.work) refl done answers by has once all

  -- so all answers of a run are
  pub all_in_line : (acts : List Act) → AnswersBy [] (actors_of script_lines) (answers_in acts) → AnswersOnce acts → AreDone acts → AnswerLines [] script_lines (answers_in acts)
  all_in_line acts by once all =
      in_line [] script_lines [] (answers_in acts) refl by (λ node k least most. absurd (nothing k least most)) (once_answers acts once) (done_answers acts all)
    where
      nothing : (k : ℕ) → 1 ≤ k → k ≤ 0 → ⊥
      nothing k least most = omega arith

-- ---- where none is open

actors_counted : (lines : List Line) → length (actors_of lines) ≡ count_by is_item lines
actors_counted [] = refl
actors_counted (l ∷ lines) = by (actor_of l.work) refl (actors_counted lines)
  where
    by : (o : Option NodeId) → actor_of l.work ≡ o → length (actors_of lines) ≡ count_by is_item lines
        → length (cons_option o (actors_of lines)) ≡ count_by is_item (l ∷ lines)
    by None is rest = rest ∙ sym (count_miss is_item l lines (ap is_some is))
    by (Some node) is rest =
        let more = count_hit is_item l lines (ap is_some is) in
        let same = rest in
        omega arith

-- there are as many answers as items that began
pub enough : (e : Estate AnyNode) → begun_in e.events ≡ actors_of e.script.lines → open_items e ≡ 0 → length (begun_in e.events) ≤ length (answers_in e.world.acts)
enough e order closed =
    let begun : length (begun_in e.events) ≡ length (actors_of e.script.lines) = ap length order in
    let items = actors_counted e.script.lines in
    let given = length-filter is_answer e.world.acts in
    let none : count_by is_item e.script.lines - count_by is_answer e.world.acts ≡ 0 = closed in
    omega arith
