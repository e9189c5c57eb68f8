-- When a node may begin its next item, and when it is done with all, as its journal's counts tell.
use Rattle.std.proofs.Common.{◌≡◌, refl, sym, ap, subst, ◌∙◌, ℕ, ◌≤◌, Bool, true, false, ◌&&◌, ◌||◌, ◌==◌, List, length, Some, None, arith}
use Rattle.std.specs.Prelude.{slice_get, nat_le, IsTrue, ◌↔◌}
use Rattle.std.proofs.lemmas.Bool.Decides.{nat_tests}
use Rattle.std.proofs.lemmas.Option.{slice_get_within}
use Rattle.script_text.specs.declared.script.Script.{Script}
use Rattle.version_model.specs.declared.work.Work.{Work}
use Rattle.wire_msg.specs.declared.packet.Do.{Do}
use Rattle.wire_msg.specs.NodeStep.{NodeStep}
use Rattle.xfs_base.specs.declared.node.NodeId.{NodeId}
use Rattle.xfs_base.specs.declared.setup.Setup.{Setup}
use Rattle.xfs_base.proofs.Booleans.{and_first, and_second, contrary}
use Rattle.world_base.specs.declared.due.Due.{Due}
use Rattle.journals.specs.declared.answers.Answers.{Answers}
use Rattle.journals.specs.declared.moment.Moment.{Moment}
use Rattle.journals.specs.Answers.{AreAnswered}
use Rattle.journals.specs.Journals.{IsDue, MayBegin, acts_in, begins, whats}
use Rattle.journals.proofs.Gets.{has, one_there}
use Rattle.journals.proofs.Known.{all_answered, answered_all}
use Rattle.live_links.specs.Facts.{IsDone, IsJournal, dues_at, first_at, name_at}
use Rattle.live_links.proofs.Turns.{whats_length}

le_true : (a b : ℕ) → a ≤ b → nat_le a b ≡ true
le_true a b h = grind (arith, nat_tests)

true_le : (a b : ℕ) → nat_le a b ≡ true → a ≤ b
true_le a b h = grind (arith, nat_tests)

true_same : (a b : ℕ) → (a == b) ≡ true → a ≡ b
true_same a b h = grind (arith, nat_tests)

same_true : (a b : ℕ) → a ≡ b → (a == b) ≡ true
same_true a b h = grind (arith, nat_tests)

either_holds : (free met : Bool) → (free || met) ≡ true → free ≡ false → met ≡ true
either_holds true met e f = contrary (sym f)
either_holds false met e f = e

one_holds : (free met : Bool) → (free ≡ false → met ≡ true) → (free || met) ≡ true
one_holds true met f = refl
one_holds false met f = f refl

both_hold : (a b : Bool) → a ≡ true → b ≡ true → (a && b) ≡ true
both_hold true b e f = f
both_hold false b e f = e

module _ {N : Type 0} (step : N → Do → NodeStep N) (node : NodeId) (first : N) (dues : List Due) (ms : List Moment) (n : N) (clock begun : ℕ) (answers : Answers) (count : ℕ)
    (j : IsJournal step node first dues ms n clock begun answers count) where
  -- there is no next item
  none_left : slice_get dues begun ≡ None → MayBegin step node first dues (whats ms) → ⊥
  none_left none may =
      let d = has dues (begins (whats ms)) may.left in
      let e : None ≡ Some d.0 = sym none ∙ ap (slice_get dues) j.begins_are ∙ d.1 in
      cc

  pub none_is : slice_get dues begun ≡ None → IsTrue false ↔ MayBegin step node first dues (whats ms)
  none_is none = (λ e. contrary e, λ may. absurd (none_left none may))

  module _ (due : Due) (at : slice_get dues begun ≡ Some due) where
    abbrev pub is_met : Bool
    is_met = nat_le due.after (length ms) && (due.free || nat_le begun answers.all)

    met_then : is_met ≡ true → MayBegin step node first dues (whats ms)
    met_then met =
        let late = true_le due.after (length ms) (and_first (nat_le due.after (length ms)) (due.free || nat_le begun answers.all) met) in
        let rest = and_second (nat_le due.after (length ms)) (due.free || nat_le begun answers.all) met in
        let there : slice_get dues (begins (whats ms)) ≡ Some due = ap (slice_get dues) (sym j.begins_are) ∙ at in
        let this : IsDue node due (whats ms) (acts_in step first (whats ms)) = record {
          late = let len = whats_length ms in omega arith;
          answered = λ waits.
              let upto = true_le begun answers.all (either_holds due.free (nat_le begun answers.all) rest waits) in
              let same = j.begins_are in
              all_answered node answers (acts_in step first (whats ms)) (begins (whats ms)) j.known (omega arith);
        }
        in
        record {
          left = slice_get_within dues (begins (whats ms)) due there;
          due = λ d got. subst (λ x. IsDue node x (whats ms) (acts_in step first (whats ms))) (one_there dues (begins (whats ms)) due d there got) this;
        }

    then_met : MayBegin step node first dues (whats ms) → is_met ≡ true
    then_met may =
        let this = may.due due (ap (slice_get dues) (sym j.begins_are) ∙ at) in
        let late : due.after ≤ length ms = let len = whats_length ms in let l = this.late in omega arith in
        both_hold (nat_le due.after (length ms)) (due.free || nat_le begun answers.all) (le_true due.after (length ms) late)
        (one_holds due.free (nat_le begun answers.all)
        (λ waits.
        let upto = answered_all node answers (acts_in step first (whats ms)) (begins (whats ms)) j.known j.settled (this.answered waits) in
        let same = j.begins_are in
        le_true begun answers.all (omega arith)))

    pub met_is : IsTrue is_met ↔ MayBegin step node first dues (whats ms)
    met_is = (met_then, then_met)

-- all items were begun and are answered
module _ {N : Type 0} (step : N → Do → NodeStep N) (first : NodeId → Setup → List Work → N) (script : Script) (place : ℕ) (dues : List Due) (ms : List Moment) (n : N)
    (clock begun : ℕ) (answers : Answers) (count : ℕ) (are : dues ≡ dues_at script place)
    (j : IsJournal step (name_at script place) (first_at first script place) dues ms n clock begun answers count) where
  then_done : ((begun == length dues) && nat_le begun answers.all) ≡ true → IsDone step first script place ms
  then_done e =
      let node = name_at script place in
      let done = acts_in step (first_at first script place) (whats ms) in
      let all : begun ≡ length dues = true_same begun (length dues) (and_first (begun == length dues) (nat_le begun answers.all) e) in
      let upto : begun ≤ answers.all = true_le begun answers.all (and_second (begun == length dues) (nat_le begun answers.all) e) in
      record {
        begun = sym j.begins_are ∙ all ∙ ap (λ (ds : List Due). length ds) are;
        answered = subst (λ (ds : List Due). AreAnswered node (length ds) done) are (all_answered node answers done (length dues) j.known (omega arith));
      }

  done_then : IsDone step first script place ms → ((begun == length dues) && nat_le begun answers.all) ≡ true
  done_then d =
      let node = name_at script place in
      let done = acts_in step (first_at first script place) (whats ms) in
      let all : begun ≡ length dues = j.begins_are ∙ d.begun ∙ ap (λ (ds : List Due). length ds) (sym are) in
      let upto = answered_all node answers done (length dues) j.known j.settled (subst (λ (ds : List Due). AreAnswered node (length ds) done) (sym are) d.answered) in
      both_hold (begun == length dues) (nat_le begun answers.all) (same_true begun (length dues) all) (le_true begun answers.all (omega arith))

  pub done_is : IsTrue ((begun == length dues) && nat_le begun answers.all) ↔ IsDone step first script place ms
  done_is = (then_done, done_then)
