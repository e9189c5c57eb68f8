-- The answers come in the order of lines: one line more adds the answer of its item behind those before.
use Rattle.std.proofs.Common.{◌≡◌, ◌<◌, suc, ◌+◌, List, [], ◌∷◌, ◌++◌, length, Option, Some, None, refl, sym, ap, subst, ◌∙◌, append_assoc, append-nil, arith}
use Rattle.std.proofs.lemmas.List.Elements.{filter-append}
use Rattle.std.proofs.lemmas.List.Sums.{count_by-le-length}
use Rattle.std.proofs.lemmas.List.{length-map}
use Rattle.headline.specs.InLine.{AnswerLines, AnswersLine, DoesAnswer, answers_in}
use Rattle.play.specs.Plays.{answers, is_answer}
use Rattle.quiet_flow.proofs.Counts.{count_hit}
use Rattle.script_text.specs.declared.script.Line.{Line}
use Rattle.transcript.specs.Replies as replies
use Rattle.transcript.specs.Text.{number_of}
use Rattle.version_model.specs.declared.act.Act.{Act}
use Rattle.version_model.specs.declared.act.Act.TheVariants as acts
use Rattle.world_base.specs.Items.{actor_of, is_for, items_of, works_of}
use Rattle.xfs_base.specs.declared.node.NodeId.{NodeId}
use Rattle.quiet_script.proofs.Answered.{items_counted}
use Rattle.quiet_script.specs.Lines.{AnswersOne}

-- where nothing is answered, no act is an answer
no_answers : (done : List Act) → answers done ≡ 0 → answers_in done ≡ []
no_answers [] none = refl
no_answers (acts.Answered node item a ∷ done) none = absurd (some_there (sym (count_hit is_answer (acts.Answered node item a) done refl) ∙ none))
  where
    some_there : 1 + answers done ≡ 0 → ⊥
    some_there fact = omega (arith, fact)
no_answers (_ ∷ done) none = no_answers done none

-- one answer more behind those of a line and of what follows it
line_more : (before : List Line) (a : Act) (More Then : List Act → Type 0) → ((ys : List Act) → More ys → Then (ys ++ a ∷ [])) → (o : Option NodeId) (ys : List Act)
    → AnswersLine before o ys More → AnswersLine before o (ys ++ a ∷ []) Then
line_more before a More Then later None ys rest = later ys rest
line_more before a More Then later (Some n) [] rest = absurd rest
line_more before a More Then later (Some n) (y ∷ ys) rest = (rest.0, later ys rest.1)

-- one line more, with its answer
one_line_more : (before done : List Line) (line : Line) (xs : List Act) (node : NodeId) (a : Act) → actor_of line.work ≡ Some node
    → DoesAnswer node (number_of (before ++ done) node) a → AnswerLines before done xs → AnswerLines before (done ++ line ∷ []) (xs ++ a ∷ [])
one_line_more before [] line xs node a actor does none =
    subst (λ ys. AnswersLine before (actor_of line.work) (ys ++ a ∷ []) (AnswerLines (before ++ line ∷ []) [])) (sym none)
    (subst (λ o. AnswersLine before o (a ∷ []) (AnswerLines (before ++ line ∷ []) [])) (sym actor)
    (subst (λ lines. DoesAnswer node (number_of lines node) a) (append-nil before) does, refl))
one_line_more before (l ∷ done) line xs node a actor does so_far =
    line_more before a (AnswerLines (before ++ l ∷ []) done) (AnswerLines (before ++ l ∷ []) (done ++ line ∷ []))
    (λ ys rest. one_line_more (before ++ l ∷ []) done line ys node a actor
    (subst (λ lines. DoesAnswer node (number_of lines node) a) (sym (append_assoc before (l ∷ []) done)) does) rest)
    (actor_of l.work) xs so_far

module _ (done : List Line) (line : Line) (acted more : List Act) (node : NodeId) (actor : actor_of line.work ≡ Some node) (room : length done < 20000)
    (one : AnswersOne acted more node (suc (length (items_of done node)))) where
  abbrev its_answer : Act
  its_answer = acts.Answered node (suc (length (items_of done node))) one.answer

  -- the number of the item, as the text counts it
  number_is : suc (length (items_of done node)) ≡ number_of done node
  number_is =
      let count = items_counted done node in
      let most = count_by-le-length (is_for node) (works_of done) in
      let long = length-map done (λ (l : Line). l.work) in
      omega arith

  answers_are : answers_in more ≡ answers_in acted ++ its_answer ∷ []
  answers_are =
      ap answers_in one.acted
      ∙ filter-append replies.is_answer acted (one.before ++ its_answer ∷ one.after)
      ∙ ap (λ xs. answers_in acted ++ xs)
      (filter-append replies.is_answer one.before (its_answer ∷ one.after)
      ∙ ap (λ xs. xs ++ its_answer ∷ answers_in one.after) (no_answers one.before one.none_before)
      ∙ ap (λ xs. its_answer ∷ xs) (no_answers one.after one.none_after))

  pub in_line_more : AnswerLines [] done (answers_in acted) → AnswerLines [] (done ++ line ∷ []) (answers_in more)
  in_line_more so_far =
      subst (AnswerLines [] (done ++ line ∷ [])) (sym answers_are)
      (one_line_more [] done line (answers_in acted) node its_answer actor (refl, number_is, one.of_call) so_far)
