-- Which items are answered: one line more answers the next item of its node, and no other.
use Rattle.std.proofs.Common.{◌≡◌, ◌≤◌, ℕ, suc, ◌+◌, Bool, true, false, cond, ◌&&◌, ◌==◌, nat_le, List, [], ◌∷◌, ◌++◌, length, Some, slice_get, refl, sym, ap, ◌∙◌, arith}
use Rattle.std.specs.List.{count_by}
use Rattle.std.proofs.lemmas.Bool.Decides.{nat_tests}
use Rattle.std.proofs.lemmas.List.Sums.{length-filter, sum_by-le-sum_by}
use Rattle.play.specs.Plays.{answers, is_answer}
use Rattle.script_text.specs.declared.script.Line.{Line}
use Rattle.transcript.specs.Replies as replies
use Rattle.version_model.specs.declared.act.Act.{Act}
use Rattle.version_model.specs.declared.act.Act.TheVariants as acts
use Rattle.version_model.specs.declared.work.Work.{Work}
use Rattle.world_base.specs.Items.{actor_of, is_for, is_for_actor, items_of, works_of}
use Rattle.xfs_base.proofs.NodeOrder.{same_node_is, same_node_itself}
use Rattle.xfs_base.specs.declared.node.NodeId.{NodeId}
use Rattle.xfs_base.specs.Nodes.{same_node}
use Rattle.quiet_flow.proofs.Counts.{count_both, count_hit, count_next}
use Rattle.quiet_script.specs.Lines.{AnswersOne}
use Rattle.headline.specs.Bounds.{is_answer_of}

-- ---- acts

at_most_one : (b : Bool) → cond b 1 0 ≤ 1
at_most_one true = omega arith
at_most_one false = omega arith

less_answers : (node : NodeId) (item : ℕ) (act : Act) → cond (is_answer_of node item act) 1 0 ≤ cond (is_answer act) 1 0
less_answers node item (acts.Wrote client block value) = omega arith
less_answers node item (acts.Read client block ver value) = omega arith
less_answers node item (acts.Synced client) = omega arith
less_answers node item (acts.Fell client flight falls) = omega arith
less_answers node item (acts.Back client chain) = omega arith
less_answers node item (acts.Lost other seg) = omega arith
less_answers node item (acts.Filed seg) = omega arith
less_answers node item (acts.Dropped seg) = omega arith
less_answers node item (acts.Answered other number answer) = at_most_one (same_node other node && (number == item))

-- where nothing is answered, no item is
none_of : (node : NodeId) (item : ℕ) (done : List Act) → answers done ≡ 0 → count_by (is_answer_of node item) done ≡ 0
none_of node item done none =
    let less : count_by (is_answer_of node item) done ≤ answers done
    = sum_by-le-sum_by (λ act. cond (is_answer_of node item act) 1 0) (λ act. cond (is_answer act) 1 0) done (less_answers node item) in
    omega arith

abbrev one_if : Bool → ℕ
one_if b = cond b 1 0

module _ (done more : List Act) (node : NodeId) (item : ℕ) (one : AnswersOne done more node item) where
  abbrev its_answer : Act
  its_answer = acts.Answered node item one.answer

  pub answers_more : answers more ≡ answers done + 1
  answers_more =
      let all : answers more ≡ answers (done ++ (one.before ++ its_answer ∷ one.after)) = ap answers one.acted in
      let first = count_both is_answer done (one.before ++ its_answer ∷ one.after) in
      let second = count_both is_answer one.before (its_answer ∷ one.after) in
      let third = count_hit is_answer its_answer one.after refl in
      let none = one.none_before in
      let none_ = one.none_after in
      omega arith

  pub counts_more : (other : NodeId) (number : ℕ)
      → count_by (is_answer_of other number) more ≡ count_by (is_answer_of other number) done + one_if (same_node node other && (item == number))
  counts_more other number =
      let test = is_answer_of other number in
      let all : count_by test more ≡ count_by test (done ++ (one.before ++ its_answer ∷ one.after)) = ap (count_by test) one.acted in
      let first = count_both test done (one.before ++ its_answer ∷ one.after) in
      let second = count_both test one.before (its_answer ∷ one.after) in
      let third = count_next test its_answer one.after in
      let none = none_of other number one.before one.none_before in
      let none_ = none_of other number one.after one.none_after in
      omega arith

-- ---- items

items_one : (node : NodeId) (line : Line) → length (items_of (line ∷ []) node) ≡ one_if (is_for node line.work)
items_one node line = elim (is_for node line.work) as (λ t. length (cond t (line.work ∷ []) []) ≡ one_if t) [ true ↦ refl | false ↦ refl ]

pub items_counted : (lines : List Line) (node : NodeId) → length (items_of lines node) ≡ count_by (is_for node) (works_of lines)
items_counted lines node = length-filter (is_for node) (works_of lines)

pub works_more : (played rest : List Line) → works_of (played ++ rest) ≡ works_of played ++ works_of rest
works_more [] rest = refl
works_more (l ∷ played) rest = ap (λ ws. l.work ∷ ws) (works_more played rest)

pub items_more : (played : List Line) (line : Line) (node other : NodeId) → actor_of line.work ≡ Some node
    → length (items_of (played ++ line ∷ []) other) ≡ length (items_of played other) + one_if (same_node node other)
items_more played line node other actor =
    let all = items_counted (played ++ line ∷ []) other in
    let works : count_by (is_for other) (works_of (played ++ line ∷ [])) ≡ count_by (is_for other) (works_of played ++ works_of (line ∷ []))
    = ap (count_by (is_for other)) (works_more played (line ∷ [])) in
    let both = count_both (is_for other) (works_of played) (works_of (line ∷ [])) in
    let before = items_counted played other in
    let last = items_counted (line ∷ []) other in
    let one = items_one other line in
    let is : one_if (is_for other line.work) ≡ one_if (same_node node other) = ap (λ a. one_if (is_for_actor other a)) actor in
    omega arith

-- the item of a line stands behind those of the lines before
pub item_there : (xs : List Work) (w : Work) (ys : List Work) → slice_get (xs ++ w ∷ ys) (length xs) ≡ Some w
item_there [] w ys = refl
item_there (x ∷ xs) w ys = item_there xs w ys

pub items_split : (played rest : List Line) (line : Line) (node : NodeId) → actor_of line.work ≡ Some node
    → items_of (played ++ line ∷ rest) node ≡ items_of played node ++ line.work ∷ items_of rest node
items_split [] rest line node actor =
    ap (λ own. cond own (line.work ∷ items_of rest node) (items_of rest node)) (ap (is_for_actor node) actor ∙ same_node_itself node)
items_split (l ∷ played) rest line node actor =
    elim (is_for node l.work) as (λ own. cond own (l.work ∷ items_of (played ++ line ∷ rest) node) (items_of (played ++ line ∷ rest) node)
    ≡ cond own (l.work ∷ items_of played node) (items_of played node) ++ line.work ∷ items_of rest node) [
      | true ↦ ap (λ ws. l.work ∷ ws) (items_split played rest line node actor)
      | false ↦ items_split played rest line node actor
    ]

-- ---- each once

-- of each node the items up to so many are answered, each once, and no later one
abbrev pub EachOnce : List Line → List Act → Type 0
EachOnce played done =
    (node : NodeId) (item : ℕ) → 1 ≤ item → count_by (is_answer_of node item) done ≡ cond (nat_le item (length (items_of played node))) 1 0

one_up : (item last : ℕ) → cond (nat_le item (last + 1)) 1 0 ≡ cond (nat_le item last) 1 0 + cond (suc last == item) 1 0
one_up item last = grind (arith, nat_tests)

pub each_once_more : (played : List Line) (line : Line) (done more : List Act) (node : NodeId) → actor_of line.work ≡ Some node
    → AnswersOne done more node (suc (length (items_of played node))) → EachOnce played done → EachOnce (played ++ line ∷ []) more
each_once_more played line done more node actor one each other item least =
    elim (same_node node other) as
    (λ t. same_node node other ≡ t → count_by (is_answer_of other item) more ≡ cond (nat_le item (length (items_of (played ++ line ∷ []) other))) 1 0) [
      | true ↦ λ same. its_own same
      | false ↦ λ differs. anothers differs
    ] refl
  where
    counted : count_by (is_answer_of other item) more
        ≡ count_by (is_answer_of other item) done + one_if (same_node node other && (suc (length (items_of played node)) == item))
    counted = counts_more done more node (suc (length (items_of played node))) one other item

    its_own : same_node node other ≡ true → count_by (is_answer_of other item) more ≡ cond (nat_le item (length (items_of (played ++ line ∷ []) other))) 1 0
    its_own same =
        let is : node ≡ other = same_node_is node other same in
        let last : length (items_of (played ++ line ∷ []) other) ≡ length (items_of played other) + 1
        = items_more played line node other actor ∙ ap (λ t. length (items_of played other) + one_if t) same in
        counted
        ∙ ap (λ t. count_by (is_answer_of other item) done + one_if (t && (suc (length (items_of played node)) == item))) same
        ∙ ap (λ n. count_by (is_answer_of other item) done + one_if (suc (length (items_of played n)) == item)) is
        ∙ ap (λ n. n + one_if (suc (length (items_of played other)) == item)) (each other item least)
        ∙ sym (one_up item (length (items_of played other)))
        ∙ ap (λ n. cond (nat_le item n) 1 0) (sym last)

    anothers : same_node node other ≡ false → count_by (is_answer_of other item) more ≡ cond (nat_le item (length (items_of (played ++ line ∷ []) other))) 1 0
    anothers differs =
        let last : length (items_of (played ++ line ∷ []) other) ≡ length (items_of played other)
        = items_more played line node other actor ∙ ap (λ t. length (items_of played other) + one_if t) differs ∙ no_more (length (items_of played other)) in
        counted
        ∙ ap (λ t. count_by (is_answer_of other item) done + one_if (t && (suc (length (items_of played node)) == item))) differs
        ∙ no_more (count_by (is_answer_of other item) done)
        ∙ each other item least
        ∙ ap (λ n. cond (nat_le item n) 1 0) (sym last)
      where
        no_more : (n : ℕ) → n + 0 ≡ n
        no_more n = omega arith

-- ---- no item is open

same_test : (act : Act) → one_if (replies.is_answer act) ≡ one_if (is_answer act)
same_test (acts.Wrote client block value) = refl
same_test (acts.Read client block ver value) = refl
same_test (acts.Synced client) = refl
same_test (acts.Fell client flight falls) = refl
same_test (acts.Back client chain) = refl
same_test (acts.Lost other seg) = refl
same_test (acts.Filed seg) = refl
same_test (acts.Dropped seg) = refl
same_test (acts.Answered other number answer) = refl

pub same_answers : (done : List Act) → count_by replies.is_answer done ≡ answers done
same_answers [] = refl
same_answers (act ∷ done) =
    let one = count_next replies.is_answer act done in
    let other = count_next is_answer act done in
    let same = same_test act in
    let rest = same_answers done in
    omega arith
