-- Answers neither change a history nor can they be illegal: the acts that have a line are legal exactly where all acts are.
use Rattle.std.proofs.Common.{◌≡◌, ℕ, zero, suc, Bool, true, false, not, List, [], ◌∷◌, take, slice_get, refl, sym, subst, arith, Some, None, cond}
use Rattle.transcript.specs.Replies.{is_answer}
use Rattle.transcript.specs.Text.{text_of}
use Rattle.version_model.specs.Effects.{after_act, history_after}
use Rattle.version_model.specs.History.{History, nothing_yet}
use Rattle.version_model.specs.Legal.{IsLegalIn, AreLegalFrom}
use Rattle.version_model.specs.declared.act.Act.{Act}
use Rattle.version_model.specs.declared.act.Act.TheVariants as acts
use Rattle.version_model.specs.declared.verdict.Verdict.{Verdict}
use Rattle.version_model.specs.declared.verdict.Verdict.TheVariants.{Legal, Illegal}
use Rattle.world_base.specs.declared.estate.Estate.{Estate}
use Rattle.journal_law.specs.Journals.{JudgesByLine}
use Rattle.headline.specs.Audits.{told}
use Rattle.journal_law.specs.Runs.{SaysOfAll, IsSaidOfTheRun}
use Rattle.journal_law.proofs.Runs.{run_judged}

answer_legal : (a : Act) (h : History) → is_answer a ≡ true → IsLegalIn a h
answer_legal (acts.Answered node item answer) h e = tt
answer_legal (acts.Wrote client block value) h e = absurd (grind (arith, e))
answer_legal (acts.Read client block ver value) h e = absurd (grind (arith, e))
answer_legal (acts.Synced client) h e = absurd (grind (arith, e))
answer_legal (acts.Fell client flight falls) h e = absurd (grind (arith, e))
answer_legal (acts.Back client chain) h e = absurd (grind (arith, e))
answer_legal (acts.Lost node seg) h e = absurd (grind (arith, e))
answer_legal (acts.Filed seg) h e = absurd (grind (arith, e))
answer_legal (acts.Dropped seg) h e = absurd (grind (arith, e))

answer_after : (a : Act) (h : History) → is_answer a ≡ true → after_act a h ≡ h
answer_after (acts.Answered node item answer) h e = refl
answer_after (acts.Wrote client block value) h e = absurd (grind (arith, e))
answer_after (acts.Read client block ver value) h e = absurd (grind (arith, e))
answer_after (acts.Synced client) h e = absurd (grind (arith, e))
answer_after (acts.Fell client flight falls) h e = absurd (grind (arith, e))
answer_after (acts.Back client chain) h e = absurd (grind (arith, e))
answer_after (acts.Lost node seg) h e = absurd (grind (arith, e))
answer_after (acts.Filed seg) h e = absurd (grind (arith, e))
answer_after (acts.Dropped seg) h e = absurd (grind (arith, e))

one_from : (a : Act) (deeds : List Act) (h : History) (t : Bool) → is_answer a ≡ t → ((k : History) → AreLegalFrom k (told deeds) → AreLegalFrom k deeds)
    → AreLegalFrom h (cond (not t) (a ∷ told deeds) (told deeds)) → AreLegalFrom h (a ∷ deeds)
one_from a deeds h true e f l = (answer_legal a h e, subst (λ k. AreLegalFrom k deeds) (sym (answer_after a h e)) (f h l))
one_from a deeds h false e f l = (l.0, f (after_act a h) l.1)

told_legal : (deeds : List Act) (h : History) → AreLegalFrom h (told deeds) → AreLegalFrom h deeds
told_legal [] h l = tt
told_legal (a ∷ deeds) h l = one_from a deeds h (is_answer a) refl (λ k m. told_legal deeds k m) l

one_to : (a : Act) (deeds : List Act) (h : History) (t : Bool) → is_answer a ≡ t → ((k : History) → AreLegalFrom k deeds → AreLegalFrom k (told deeds))
    → AreLegalFrom h (a ∷ deeds) → AreLegalFrom h (cond (not t) (a ∷ told deeds) (told deeds))
one_to a deeds h true e f l = f h (subst (λ k. AreLegalFrom k deeds) (answer_after a h e) l.1)
one_to a deeds h false e f l = (l.0, f (after_act a h) l.1)

pub legal_told : (deeds : List Act) (h : History) → AreLegalFrom h deeds → AreLegalFrom h (told deeds)
legal_told [] h l = tt
legal_told (a ∷ deeds) h l = one_to a deeds h (is_answer a) refl (λ k m. legal_told deeds k m) l

none_some : (a : Act) → None ≡ Some a → ⊥
none_some a e = cc

same_act : (a b : Act) → Some a ≡ Some b → a ≡ b
same_act a b e = cc

-- where all are legal the one at a place is
pub legal_at : (deeds : List Act) (h : History) (place : ℕ) (act : Act) → AreLegalFrom h deeds → slice_get deeds place ≡ Some act
    → IsLegalIn act (history_after (take place deeds) h)
legal_at [] h place act l e = absurd (none_some act e)
legal_at (a ∷ deeds) h zero act l e = subst (λ x. IsLegalIn x h) (same_act a act e) l.0
legal_at (a ∷ deeds) h (suc place) act l e = legal_at deeds (after_act a h) place act l.1 e

said_of_all : (text : List ℕ) (deeds : List Act) (verdict : Verdict) → JudgesByLine text (told deeds) verdict → SaysOfAll deeds verdict
said_of_all text deeds (Legal count) j = told_legal deeds nothing_yet j.0
said_of_all text deeds (Illegal number) j = λ l.
    (let first = j.1.2 in
    first.illegal (legal_at (told deeds) nothing_yet j.1.0 first.act (legal_told deeds nothing_yet l) first.stands))

pub run_said : {N : Type 0} (e : Estate N) → IsSaidOfTheRun e
run_said e h verdict a = said_of_all (text_of e) e.world.acts verdict (run_judged e h verdict a)
