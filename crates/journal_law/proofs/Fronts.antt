-- What is said of the text of a run whose acts are legal, and of each front of it: that they are, and nothing else.
use Rattle.std.proofs.Common.{◌≡◌, ◌≤◌, List, [], ◌∷◌, ◌++◌, length, refl, sym, ◌∙◌, ap, subst}
use Rattle.audit.specs.Journal.{IsAudited}
use Rattle.audit.specs.declared.journal.Journal.{Journal}
use Rattle.headline.specs.Audits.{told}
use Rattle.transcript.specs.Replies.{replies_of}
use Rattle.transcript.specs.Text.{items_text}
use Rattle.version_model.specs.History.{nothing_yet}
use Rattle.version_model.specs.Legal.{AreLegal}
use Rattle.version_model.specs.declared.act.Act.{Act}
use Rattle.version_model.specs.declared.verdict.Verdict.TheVariants.{Legal, Illegal}
use Rattle.world_base.specs.declared.estate.Estate.{Estate}
use Rattle.xfs_base.specs.Limits.{max_bytes}
use Rattle.journal_law.specs.Journals.{Entry, acts_in, IsJournal, journal_of, journal_text}
use Rattle.journal_law.specs.Runs.{AreFrontsJudgedLegal, IsJudgedLegal, LegalIsTheOneVerdict, front_of}
use Rattle.journal_law.proofs.Journals.{journals_read, same_journal}
use Rattle.journal_law.proofs.Legality.{legal_at, legal_told}
use Rattle.journal_law.proofs.Runs.{acts_behind, good_join, head_entries, journal_join, lines_are, lines_good, lines_others, run_acts, run_entries, run_journal, run_text, tells_all, told_are, told_good}

-- a journal of acts that are legal is said to be
judged_legal : (es : List Entry) → IsJournal es → (deeds : List Act) → acts_in es ≡ deeds → AreLegal deeds → IsAudited (journal_text es) (Legal (length deeds))
judged_legal es h deeds is legal = (journal_of es, journals_read es h, (subst AreLegal (sym is) legal, ap length (sym is)))

acts_all : (deeds : List Act) → acts_in (tells_all deeds) ≡ deeds
acts_all [] = refl
acts_all (a ∷ deeds) = ap (λ x. a ∷ x) (acts_all deeds)

module _ {N : Type 0} (e : Estate N) where
  pub run_legal : IsJudgedLegal e
  run_legal h legal =
      subst (λ t. IsAudited t (Legal (length (told e.world.acts)))) (run_text e h.asked)
      (judged_legal (run_entries e) (run_journal e h) (told e.world.acts) (run_acts e) (legal_told e.world.acts nothing_yet legal))

  module _ (deeds : List Act) where
    abbrev front_entries : List Entry
    front_entries = head_entries e ++ tells_all (told deeds)

    front_text : journal_text front_entries ≡ front_of e deeds
    front_text =
        journal_join (head_entries e) (tells_all (told deeds))
        ∙ ap (λ x. x ++ journal_text (tells_all (told deeds))) (lines_are e.world.acts (replies_of e.world.acts) [] e.script.lines)
        ∙ ap (λ x. items_text e ++ x) (told_are deeds)

    front_acts : acts_in front_entries ≡ told deeds
    front_acts =
        acts_behind (head_entries e) (tells_all (told deeds)) (lines_others e.world.acts (replies_of e.world.acts) [] e.script.lines)
        ∙ acts_all (told deeds)

  pub fronts_legal : AreFrontsJudgedLegal e
  fronts_legal deeds h legal =
      subst (λ t. IsAudited t (Legal (length (told deeds)))) (front_text deeds)
      (judged_legal (front_entries deeds) journal (told deeds) (front_acts deeds) (legal_told deeds nothing_yet legal))
    where
      journal : IsJournal (front_entries deeds)
      journal = record {
        each = good_join (head_entries e) (tells_all (told deeds)) (lines_good e.world.acts (replies_of e.world.acts) h.answers [] e.script.lines)
            (told_good deeds h.acts);
        short = subst (λ t. length t ≤ max_bytes) (sym (front_text deeds)) h.short;
      }

pub one_verdict : LegalIsTheOneVerdict
one_verdict bytes count (j, read, says) (Legal other) (k, again, said) =
    let same : k ≡ j = same_journal k j (sym again ∙ read) in
    ap (λ n. Legal n) (said.1 ∙ ap (λ (x : Journal). length x.acts) same ∙ sym says.1)
one_verdict bytes count (j, read, says) (Illegal line) (k, again, said) =
    let same : k ≡ j = same_journal k j (sym again ∙ read) in
    let first = said.1 in
    absurd (first.illegal
    (legal_at k.acts nothing_yet said.0 first.act (subst (λ (x : Journal). AreLegal x.acts) (sym same) says.0) first.stands))
