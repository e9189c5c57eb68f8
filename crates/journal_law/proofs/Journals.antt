-- A journal is read line by line as its acts, and judged by them.
use Rattle.std.proofs.Common.{◌≡◌, ℕ, zero, suc, ◌+◌, ◌-◌, ◌≤◌, Bool, true, false, nat_lt, ◌&&◌, List, [], ◌∷◌, ◌++◌, length, map, slice_get, refl, sym, ◌∙◌, ap, subst, arith, Option, Some, None, Result, Ok, Err, if◌then◌else◌, append-nil, append_assoc}
use Rattle.std.specs.List.{AllByRecursion}
use Rattle.std.proofs.lemmas.Bool.Decides.{nat_tests}
use Rattle.xfs_base.specs.Limits.{max_bytes}
use Rattle.act_text.specs.Acts.{line_of}
use Rattle.audit.specs.Acts.{read_act}
use Rattle.audit.specs.Journal.{BadLine, is_skipped, said, noted, is_past, behind_line, journal_from, read_journal, Says, IsAudited}
use Rattle.audit.specs.declared.journal.Journal.{Journal}
use Rattle.script_text.proofs.Lines.{lines_cut}
use Rattle.script_text.specs.Lines.{lines}
use Rattle.script_text.specs.Outcome.{◌>>=◌}
use Rattle.script_text.specs.Words.{Lacks}
use Rattle.script_text.specs.declared.refusal.Kind.{Kind}
use Rattle.script_text.specs.declared.refusal.Kind.TheVariants.{TooLong}
use Rattle.version_model.specs.declared.act.Act.{Act}
use Rattle.version_model.specs.declared.act.Act.TheVariants as acts
use Rattle.version_model.specs.declared.verdict.Verdict.{Verdict}
use Rattle.version_model.specs.declared.verdict.Verdict.TheVariants.{Legal, Illegal}
use Rattle.journal_law.specs.Told.{IsTold}
use Rattle.journal_law.specs.Journals.{Entry, Tells, Other, IsEntry, entry_text, journal_text, act_in, acts_in, numbers_from, journal_of, JournalsAreReadAsPrinted, IsOnLine, JudgesByLine, VerdictsAreOnTheActs}
use Rattle.journal_law.proofs.Parts.{then_read}
use Rattle.journal_law.proofs.Lines.{act_line, line_is, line_lacks}
use Rattle.journal_law.proofs.Acts.{line_read}

-- ---- the lines

abbrev pub entry_line : Entry → List ℕ
entry_line (Tells act) = act_line act
entry_line (Other line) = line

entry_is : (e : Entry) → IsEntry e → entry_text e ≡ line_of (entry_line e)
entry_is (Tells act) h = line_is act h
entry_is (Other line) h = refl

entry_lacks : (e : Entry) → IsEntry e → Lacks 10 (entry_line e)
entry_lacks (Tells act) h = line_lacks act
entry_lacks (Other line) h = h.0

pub lines_of : (es : List Entry) → AllByRecursion IsEntry es → lines (journal_text es) ≡ map entry_line es
lines_of [] a = refl
lines_of (e ∷ es) a =
    ap (λ x. lines (x ++ journal_text es)) (entry_is e a.0)
    ∙ ap lines (append_assoc (entry_line e) (10 ∷ []) (journal_text es))
    ∙ lines_cut (entry_line e) (journal_text es) (entry_lacks e a.0)
    ∙ ap (λ x. entry_line e ∷ x) (lines_of es a.1)

-- ---- what a line says

loud : (act : Act) → IsTold act → is_skipped (act_line act) ≡ false
loud (acts.Wrote client block value) h = refl
loud (acts.Read client block ver value) h = refl
loud (acts.Synced client) h = refl
loud (acts.Fell client flight falls) h = refl
loud (acts.Back client chain) h = refl
loud (acts.Lost node seg) h = refl
loud (acts.Filed seg) h = refl
loud (acts.Dropped seg) h = refl
loud (acts.Answered node item answer) h = absurd h

abbrev good : Option Act → Result (Option Act) Kind
good o = Ok o

at_skipped : (line : List ℕ) (t : Bool) → t ≡ true → (if t then good None else read_act line >>= λ act. good (Some act)) ≡ good None
at_skipped line t e = rw e refl

at_loud : (line : List ℕ) (t : Bool) (act : Act) → t ≡ false → (read_act line >>= λ a. good (Some a)) ≡ good (Some act)
    → (if t then good None else read_act line >>= λ a. good (Some a)) ≡ good (Some act)
at_loud line t act e f = rw e f

said_entry : (e : Entry) → IsEntry e → said (entry_line e) ≡ good (act_in e)
said_entry (Tells act) h =
    at_loud (act_line act) (is_skipped (act_line act)) act (loud act h) (then_read (read_act (act_line act)) act (λ a. good (Some a)) (line_read act h))
said_entry (Other line) h = at_skipped line (is_skipped line) h.1

-- ---- line by line

abbrev is_read : Journal → Result Journal BadLine
is_read j = Ok j

abbrev with_entries : ℕ → Journal → List Entry → Journal
with_entries n j es = record { acts = j.acts ++ acts_in es; lines = j.lines ++ numbers_from n es }

not_past : (total end : ℕ) → total ≤ max_bytes → is_past total end ≡ false
not_past total end h = at_test (nat_lt max_bytes total) (small total h)
  where
    small : (n : ℕ) → n ≤ max_bytes → nat_lt max_bytes n ≡ false
    small n l = grind (arith, nat_tests, l)

    at_test : (t : Bool) → t ≡ false → (t && nat_lt max_bytes end) ≡ false
    at_test t e = rw e refl

within : (bad next : Result Journal BadLine) (t : Bool) → t ≡ false → (if t then bad else next) ≡ next
within bad next t e = rw e refl

with_none : (n : ℕ) (j : Journal) → j ≡ with_entries n j []
with_none n j = λ i. record { acts = sym (append-nil j.acts) i; lines = sym (append-nil j.lines) i }

with_one : (n : ℕ) (j : Journal) (e : Entry) (es : List Entry) → with_entries (n + 1) (noted j n (act_in e)) es ≡ with_entries n j (e ∷ es)
with_one n j (Tells act) es =
    λ i. record { acts = append_assoc j.acts (act ∷ []) (acts_in es) i; lines = append_assoc j.lines (n ∷ []) (numbers_from (n + 1) es) i }
with_one n j (Other line) es = refl

entries_read : (total place n : ℕ) (es : List Entry) (j : Journal) → total ≤ max_bytes → AllByRecursion IsEntry es
    → journal_from total place n (map entry_line es) j ≡ is_read (with_entries n j es)
entries_read total place n [] j t a = ap is_read (with_none n j)
entries_read total place n (e ∷ es) j t a =
    let end = place + (length (entry_line e) + 1) in
    let next : Option Act → Result Journal BadLine = λ act. journal_from total end (n + 1) (map entry_line es) (noted j n act) in
    within (Err (record { line = n; kind = TooLong })) (behind_line n (said (entry_line e)) next) (is_past total end) (not_past total end t)
    ∙ ap (λ r. behind_line n r next) (said_entry e a.0)
    ∙ entries_read total end (n + 1) es (noted j n (act_in e)) t a.1
    ∙ ap is_read (with_one n j e es)

pub journals_read : JournalsAreReadAsPrinted
journals_read es h =
    let text = journal_text es in
    ap (λ ls. journal_from (length text) 0 1 ls (record { acts = []; lines = [] })) (lines_of es h.each)
    ∙ entries_read (length text) 0 1 es (record { acts = []; lines = [] }) h.short h.each

-- ---- the verdict

-- where an act stands, and its number
record Stands (n number : ℕ) (es : List Entry) (act : Act) : Type 0 where
  after : n ≤ number
  line : slice_get (map entry_line es) (number - n) ≡ Some (act_line act)
  told : IsTold act

abbrev some_act : Act → Option Act
some_act a = Some a

abbrev some_number : ℕ → Option ℕ
some_number n = Some n

stands_first : (a act : Act) (n number : ℕ) (es : List Entry) → IsTold a → some_act a ≡ Some act → some_number n ≡ Some number
    → Stands n number (Tells a ∷ es) act
stands_first a act n number es h e f =
    let p : a ≡ act = cc in
    let q : n ≡ number = cc in
    let z : number - n ≡ 0 = omega (arith, q) in
    record {
      after = omega (arith, q);
      line = ap (λ k. slice_get (map entry_line (Tells a ∷ es)) k) z ∙ ap (λ x. Some (act_line x)) p;
      told = subst IsTold p h;
    }

stands_behind : (e : Entry) (es : List Entry) (n number : ℕ) (act : Act) → Stands (n + 1) number es act → Stands n number (e ∷ es) act
stands_behind e es n number act s =
    let l : n + 1 ≤ number = s.after in
    let z : number - n ≡ suc (number - (n + 1)) = omega (arith, l) in
    record { after = omega (arith, l); line = ap (λ k. slice_get (map entry_line (e ∷ es)) k) z ∙ s.line; told = s.told }

none_some : {A : Type 0} (x : A) → None ≡ Some x → ⊥
none_some x e = cc

stands : (es : List Entry) (n place number : ℕ) (act : Act) → AllByRecursion IsEntry es → slice_get (acts_in es) place ≡ Some act
    → slice_get (numbers_from n es) place ≡ Some number → Stands n number es act
stands [] n place number act a e f = absurd (none_some act e)
stands (Tells b ∷ es) n zero number act a e f = stands_first b act n number es a.0 e f
stands (Tells b ∷ es) n (suc p) number act a e f = stands_behind (Tells b) es n number act (stands es (n + 1) p number act a.1 e f)
stands (Other l ∷ es) n place number act a e f = stands_behind (Other l) es n number act (stands es (n + 1) place number act a.1 e f)

on_line : (es : List Entry) (place number : ℕ) (act : Act) → AllByRecursion IsEntry es → slice_get (acts_in es) place ≡ Some act
    → slice_get (numbers_from 1 es) place ≡ Some number → IsOnLine (journal_text es) number act
on_line es place number act a e f =
    let s = stands es 1 place number act a e f in
    (act_line act, ap (λ ls. slice_get ls (number - 1)) (lines_of es a) ∙ s.line, line_is act s.told)

says_judges : (es : List Entry) (verdict : Verdict) → AllByRecursion IsEntry es → Says (journal_of es) verdict
    → JudgesByLine (journal_text es) (acts_in es) verdict
says_judges es (Legal count) a s = s
says_judges es (Illegal number) a s = (s.0, (s.0, refl, s.1), λ act e. on_line es s.0 number act a e s.2)

pub same_journal : (j k : Journal) → is_read j ≡ is_read k → j ≡ k
same_journal j k e = cc

-- what is said of a text that is read as this journal is said of the journal
pub says_of : (bytes : List ℕ) (j : Journal) (verdict : Verdict) → read_journal bytes ≡ Ok j → IsAudited bytes verdict → Says j verdict
says_of bytes j verdict e (k, f, s) =
    let p : k ≡ j = same_journal k j (sym f ∙ e) in
    subst (λ x. Says x verdict) p s

pub verdicts : VerdictsAreOnTheActs
verdicts es h verdict a = says_judges es verdict h.each (says_of (journal_text es) (journal_of es) verdict (journals_read es h) a)
