-- The text of a run is a journal: lines of answers, the acts that are no answers, and the end line.
use Rattle.std.proofs.Common.{◌≡◌, ◌≢◌, ℕ, zero, suc, ◌≤◌, Bool, true, false, not, List, [], ◌∷◌, ◌++◌, length, map, slice_get, codes, refl, sym, ◌∙◌, ap, subst, arith, Option, Some, None, Ok, cond, append-nil, append_assoc}
use Rattle.std.specs.Fmt.{decimal}
use Rattle.std.specs.List.{AllByRecursion}
use Rattle.act_text.specs.Acts.{act_text, acts_text, line_of}
use Rattle.act_text.specs.Answers.{fault_word, more_names, names_text, answer_text}
use Rattle.act_text.specs.Pieces.{block_text, node_text, log_seq_text, value_text}
use Rattle.audit.specs.Journal.{begins_end, is_skipped, read_journal, IsAudited}
use Rattle.script_print.proofs.Bytes.{lacks_test, text_lacks}
use Rattle.script_text.specs.Words.{Lacks}
use Rattle.script_text.specs.declared.script.Line.{Line}
use Rattle.transcript.specs.Replies.{Table, is_answer, answer_by, replies_of, reply_of, items_in, open_items}
use Rattle.transcript.specs.Text.{number_of, fall_text, fell_text, answered_text, reply_text, item_text, lines_text, end_text, asked_text, items_text, text_of}
use Rattle.transcript.specs.declared.falls.Fallen.{Fallen}
use Rattle.transcript.specs.declared.replies.Reply.{Reply}
use Rattle.version_model.specs.declared.act.Act.{Act}
use Rattle.version_model.specs.declared.act.Act.TheVariants as acts
use Rattle.version_model.specs.declared.answer.Answer.{Answer}
use Rattle.version_model.specs.declared.answer.Answer.TheVariants as answers
use Rattle.version_model.specs.declared.answer.FileFault.{FileFault}
use Rattle.version_model.specs.declared.answer.FileFault.TheVariants as faults
use Rattle.world_base.specs.Items.{actor_of}
use Rattle.world_base.specs.declared.estate.Estate.{Estate}
use Rattle.xfs_base.specs.declared.node.NodeId.{NodeId}
use Rattle.xfs_base.specs.declared.segment.SegName.{SegName}
use Rattle.xfs_base.specs.Limits.{max_bytes}
use Rattle.xfs_base.specs.Logs.{writer_of}
use Rattle.journal_law.specs.Told.{IsTold}
use Rattle.journal_law.specs.Journals.{Entry, Tells, Other, IsEntry, entry_text, journal_text, acts_in, numbers_from, IsJournal, JudgesByLine}
use Rattle.headline.specs.Audits.{told}
use Rattle.journal_law.specs.Runs.{IsOneLine, IsPrinted, IsAnsweredInALine, IsPrintedRun, IsReadAsPrinted, IsJudgedByItsActs}
use Rattle.journal_law.proofs.Bytes.{Begins, or_true, digit_test, decimal_begins, decimal_plain, plain_lacks, begins_join}
use Rattle.journal_law.proofs.Lines.{join_lacks, value_lacks, block_plain, node_plain}
use Rattle.journal_law.proofs.Journals.{journals_read, verdicts}

-- ---- lines of answers have no line feed

number_lacks : (n : ℕ) → Lacks 10 (decimal n)
number_lacks n = plain_lacks 10 (decimal n) (omega arith) (decimal_plain n)

marked_lacks : (mark n : ℕ) → mark ≢ 10 → Lacks 10 (mark ∷ decimal n)
marked_lacks mark n h = (h, number_lacks n)

more_lack : (names : List (List ℕ)) → AllByRecursion (Lacks 10) names → Lacks 10 (more_names names)
more_lack [] a = tt
more_lack (n ∷ ns) a = ((λ e. omega (arith, e)), join_lacks n (more_names ns) a.0 (more_lack ns a.1))

names_lack : (names : List (List ℕ)) → AllByRecursion (Lacks 10) names → Lacks 10 (names_text names)
names_lack [] a = lacks_test 10 (codes "empty") refl
names_lack (n ∷ ns) a = join_lacks n (more_names ns) a.0 (more_lack ns a.1)

fault_lacks : (f : FileFault) → Lacks 10 (fault_word f)
fault_lacks faults.NoEntry = lacks_test 10 (codes "noentry") refl
fault_lacks faults.Exists = lacks_test 10 (codes "exists") refl
fault_lacks faults.NotDir = lacks_test 10 (codes "notdir") refl
fault_lacks faults.IsDir = lacks_test 10 (codes "isdir") refl
fault_lacks faults.BadName = lacks_test 10 (codes "badname") refl
fault_lacks faults.DirFull = lacks_test 10 (codes "dirfull") refl
fault_lacks faults.TooBig = lacks_test 10 (codes "toobig") refl
fault_lacks faults.BadDir = lacks_test 10 (codes "baddir") refl

log_lacks : (seg : SegName) → Lacks 10 (log_seq_text seg)
log_lacks seg =
    join_lacks (node_text (writer_of seg.log.0)) (46 ∷ decimal seg.seq)
    (plain_lacks 10 (node_text (writer_of seg.log.0)) (omega arith) (node_plain (writer_of seg.log.0))) (marked_lacks 46 seg.seq (λ e. omega (arith, e)))

answer_lacks : (answer : Answer) → IsOneLine answer → Lacks 10 (answer_text answer)
answer_lacks (answers.Version ver) h = marked_lacks 118 ver (λ e. omega (arith, e))
answer_lacks (answers.Got ver value) h =
    ((λ e. omega (arith, e)), join_lacks (decimal ver) (32 ∷ value_text value) (number_lacks ver) ((λ e. omega (arith, e)), value_lacks value))
answer_lacks answers.Done h = lacks_test 10 (codes "ok") refl
answer_lacks (answers.Made ino) h = join_lacks (codes "ino ") (decimal ino) (lacks_test 10 (codes "ino ") refl) (number_lacks ino)
answer_lacks (answers.Bytes bytes) h = text_lacks bytes
answer_lacks (answers.Size size) h = number_lacks size
answer_lacks (answers.Names names) h = names_lack names h
answer_lacks (answers.Epoch epoch) h = join_lacks (codes "ok epoch ") (decimal epoch) (lacks_test 10 (codes "ok epoch ") refl) (number_lacks epoch)
answer_lacks (answers.Count count) h = join_lacks (codes "ok ") (decimal count) (lacks_test 10 (codes "ok ") refl) (number_lacks count)
answer_lacks (answers.Rebuilt filled gone) h =
    join_lacks (codes "ok ") (decimal filled ++ codes " gone " ++ decimal gone) (lacks_test 10 (codes "ok ") refl)
    (join_lacks (decimal filled ++ codes " gone ") (decimal gone)
    (join_lacks (decimal filled) (codes " gone ") (number_lacks filled) (lacks_test 10 (codes " gone ") refl)) (number_lacks gone))
answer_lacks answers.Busy h = lacks_test 10 (codes "busy") refl
answer_lacks answers.Down h = lacks_test 10 (codes "down") refl
answer_lacks answers.Up h = lacks_test 10 (codes "up") refl
answer_lacks answers.Cut h = lacks_test 10 (codes "cut") refl
answer_lacks (answers.Lost seg) h = join_lacks (codes "lost ") (log_seq_text seg) (lacks_test 10 (codes "lost ") refl) (log_lacks seg)
answer_lacks (answers.File fault) h = fault_lacks fault

fallen_lacks : (f : Fallen) → Lacks 10 (fall_text f)
fallen_lacks f =
    join_lacks (codes " fell ") (block_text f.block ++ (codes " v" ++ decimal f.ver)) (lacks_test 10 (codes " fell ") refl)
    (join_lacks (block_text f.block) (codes " v" ++ decimal f.ver) (plain_lacks 10 (block_text f.block) (omega arith) (block_plain f.block))
    (join_lacks (codes " v") (decimal f.ver) (lacks_test 10 (codes " v") refl) (number_lacks f.ver)))

fell_lacks : (fs : List Fallen) → Lacks 10 (fell_text fs)
fell_lacks [] = tt
fell_lacks (f ∷ fs) = join_lacks (fall_text f) (fell_text fs) (fallen_lacks f) (fell_lacks fs)

act_answer : (a : Act) (fallen : List Fallen) → IsAnsweredInALine a → Lacks 10 (answered_text (answer_by (Some a)) fallen)
act_answer (acts.Answered node item answer) fallen h = join_lacks (answer_text answer) (fell_text fallen) (answer_lacks answer h) (fell_lacks fallen)
act_answer (acts.Wrote client block value) fallen h = tt
act_answer (acts.Read client block ver value) fallen h = tt
act_answer (acts.Synced client) fallen h = tt
act_answer (acts.Fell client flight falls) fallen h = tt
act_answer (acts.Back client chain) fallen h = tt
act_answer (acts.Lost node seg) fallen h = tt
act_answer (acts.Filed seg) fallen h = tt
act_answer (acts.Dropped seg) fallen h = tt

place_answer : (deeds : List Act) (place : ℕ) (fallen : List Fallen) → AllByRecursion IsAnsweredInALine deeds
    → Lacks 10 (answered_text (answer_by (slice_get deeds place)) fallen)
place_answer [] place fallen h = tt
place_answer (a ∷ deeds) zero fallen h = act_answer a fallen h.0
place_answer (a ∷ deeds) (suc place) fallen h = place_answer deeds place fallen h.1

reply_lacks : (deeds : List Act) (r : Option Reply) → AllByRecursion IsAnsweredInALine deeds → Lacks 10 (reply_text deeds r)
reply_lacks deeds None h = lacks_test 10 (codes "open") refl
reply_lacks deeds (Some reply) h = place_answer deeds reply.place reply.fallen h

-- ---- the lines of a run as lines of a journal

digit_skipped : (bs : List ℕ) → Begins bs → is_skipped bs ≡ true
digit_skipped [] b = absurd b
digit_skipped (x ∷ bs) b = or_true (begins_end (x ∷ bs)) (digit_test x b)

abbrev reply_line : ℕ → List ℕ → List ℕ
reply_line n reply = decimal n ++ 32 ∷ reply

reply_entry : (n : ℕ) (reply : List ℕ) → Lacks 10 reply → IsEntry (Other (reply_line n reply))
reply_entry n reply l = (
  join_lacks (decimal n) (32 ∷ reply) (number_lacks n) ((λ e. omega (arith, e)), l),
  digit_skipped (reply_line n reply) (begins_join (decimal n) (32 ∷ reply) (decimal_begins n)),
)

module _ (deeds : List Act) (table : Table) where
  abbrev item_reply : NodeId → ℕ → List ℕ
  item_reply node number = reply_text deeds (reply_of table (record { node = node; number = number }))

  abbrev item_entries : (NodeId → ℕ) → Line → Option NodeId → List Entry
  item_entries number line None = []
  item_entries number line (Some node) = Other (reply_line line.number (item_reply node (number node))) ∷ []

  abbrev pub lines_entries : List Line → List Line → List Entry
  lines_entries before [] = []
  lines_entries before (line ∷ ls) = item_entries (number_of before) line (actor_of line.work) ++ lines_entries (before ++ line ∷ []) ls

  item_is : (number : NodeId → ℕ) (line : Line) (o : Option NodeId) → journal_text (item_entries number line o) ≡ item_text deeds table number line o
  item_is number line None = refl
  item_is number line (Some node) =
      append-nil (line_of (reply_line line.number (item_reply node (number node))))
      ∙ append_assoc (decimal line.number) (32 ∷ item_reply node (number node)) (10 ∷ [])

  item_good : AllByRecursion IsAnsweredInALine deeds → (number : NodeId → ℕ) (line : Line) (o : Option NodeId) → AllByRecursion IsEntry (item_entries number line o)
  item_good h number line None = tt
  item_good h number line (Some node) =
      (reply_entry line.number (item_reply node (number node)) (reply_lacks deeds (reply_of table (record { node = node; number = number node })) h), tt)

pub journal_join : (xs ys : List Entry) → journal_text (xs ++ ys) ≡ journal_text xs ++ journal_text ys
journal_join [] ys = refl
journal_join (x ∷ xs) ys = ap (λ t. entry_text x ++ t) (journal_join xs ys) ∙ sym (append_assoc (entry_text x) (journal_text xs) (journal_text ys))

pub good_join : (xs ys : List Entry) → AllByRecursion IsEntry xs → AllByRecursion IsEntry ys → AllByRecursion IsEntry (xs ++ ys)
good_join [] ys a b = b
good_join (x ∷ xs) ys a b = (a.0, good_join xs ys a.1 b)

-- no line among these tells an act
abbrev IsOther : Entry → Type 0
IsOther (Tells act) = ⊥
IsOther (Other line) = Unit {0}

others_join : (xs ys : List Entry) → AllByRecursion IsOther xs → AllByRecursion IsOther ys → AllByRecursion IsOther (xs ++ ys)
others_join [] ys a b = b
others_join (x ∷ xs) ys a b = (a.0, others_join xs ys a.1 b)

pub acts_behind : (xs ys : List Entry) → AllByRecursion IsOther xs → acts_in (xs ++ ys) ≡ acts_in ys
acts_behind [] ys a = refl
acts_behind (Tells act ∷ xs) ys a = absurd a.0
acts_behind (Other line ∷ xs) ys a = acts_behind xs ys a.1

module _ (deeds : List Act) (table : Table) where
  item_others : (number : NodeId → ℕ) (line : Line) (o : Option NodeId) → AllByRecursion IsOther (item_entries deeds table number line o)
  item_others number line None = tt
  item_others number line (Some node) = (tt, tt)

  pub lines_are : (before ls : List Line) → journal_text (lines_entries deeds table before ls) ≡ lines_text deeds table before ls
  lines_are before [] = refl
  lines_are before (line ∷ ls) =
      journal_join (item_entries deeds table (number_of before) line (actor_of line.work)) (lines_entries deeds table (before ++ line ∷ []) ls)
      ∙ ap (λ t. t ++ journal_text (lines_entries deeds table (before ++ line ∷ []) ls)) (item_is deeds table (number_of before) line (actor_of line.work))
      ∙ ap (λ t. item_text deeds table (number_of before) line (actor_of line.work) ++ t) (lines_are (before ++ line ∷ []) ls)

  pub lines_good : AllByRecursion IsAnsweredInALine deeds → (before ls : List Line) → AllByRecursion IsEntry (lines_entries deeds table before ls)
  lines_good h before [] = tt
  lines_good h before (line ∷ ls) =
      good_join (item_entries deeds table (number_of before) line (actor_of line.work)) (lines_entries deeds table (before ++ line ∷ []) ls)
      (item_good deeds table h (number_of before) line (actor_of line.work)) (lines_good h (before ++ line ∷ []) ls)

  pub lines_others : (before ls : List Line) → AllByRecursion IsOther (lines_entries deeds table before ls)
  lines_others before [] = tt
  lines_others before (line ∷ ls) =
      others_join (item_entries deeds table (number_of before) line (actor_of line.work)) (lines_entries deeds table (before ++ line ∷ []) ls)
      (item_others (number_of before) line (actor_of line.work)) (lines_others (before ++ line ∷ []) ls)

-- ---- the acts

answer_in_line : (a : Act) → IsPrinted a → IsAnsweredInALine a
answer_in_line (acts.Answered node item answer) h = h
answer_in_line (acts.Wrote client block value) h = tt
answer_in_line (acts.Read client block ver value) h = tt
answer_in_line (acts.Synced client) h = tt
answer_in_line (acts.Fell client flight falls) h = tt
answer_in_line (acts.Back client chain) h = tt
answer_in_line (acts.Lost node seg) h = tt
answer_in_line (acts.Filed seg) h = tt
answer_in_line (acts.Dropped seg) h = tt

answers_in_lines : (deeds : List Act) → AllByRecursion IsPrinted deeds → AllByRecursion IsAnsweredInALine deeds
answers_in_lines [] h = tt
answers_in_lines (a ∷ deeds) h = (answer_in_line a h.0, answers_in_lines deeds h.1)

abbrev pub tells_all : List Act → List Entry
tells_all deeds = map (λ a. Tells a) deeds

answer_has_none : (a : Act) → is_answer a ≡ true → act_text a ≡ []
answer_has_none (acts.Answered node item answer) e = refl
answer_has_none (acts.Wrote client block value) e = absurd (grind (arith, e))
answer_has_none (acts.Read client block ver value) e = absurd (grind (arith, e))
answer_has_none (acts.Synced client) e = absurd (grind (arith, e))
answer_has_none (acts.Fell client flight falls) e = absurd (grind (arith, e))
answer_has_none (acts.Back client chain) e = absurd (grind (arith, e))
answer_has_none (acts.Lost node seg) e = absurd (grind (arith, e))
answer_has_none (acts.Filed seg) e = absurd (grind (arith, e))
answer_has_none (acts.Dropped seg) e = absurd (grind (arith, e))

printed_told : (a : Act) → is_answer a ≡ false → IsPrinted a → IsTold a
printed_told (acts.Answered node item answer) e h = absurd (grind (arith, e))
printed_told (acts.Wrote client block value) e h = h
printed_told (acts.Read client block ver value) e h = h
printed_told (acts.Synced client) e h = h
printed_told (acts.Fell client flight falls) e h = h
printed_told (acts.Back client chain) e h = h
printed_told (acts.Lost node seg) e h = h
printed_told (acts.Filed seg) e h = h
printed_told (acts.Dropped seg) e h = h

one_more : (a : Act) (deeds : List Act) (t : Bool) → is_answer a ≡ t → journal_text (tells_all (told deeds)) ≡ acts_text deeds
    → journal_text (tells_all (cond (not t) (a ∷ told deeds) (told deeds))) ≡ act_text a ++ acts_text deeds
one_more a deeds true e f = f ∙ ap (λ x. x ++ acts_text deeds) (sym (answer_has_none a e))
one_more a deeds false e f = ap (λ x. act_text a ++ x) f

pub told_are : (deeds : List Act) → journal_text (tells_all (told deeds)) ≡ acts_text deeds
told_are [] = refl
told_are (a ∷ deeds) = one_more a deeds (is_answer a) refl (told_are deeds)

one_good : (a : Act) (deeds : List Act) (t : Bool) → is_answer a ≡ t → IsPrinted a → AllByRecursion IsEntry (tells_all (told deeds))
    → AllByRecursion IsEntry (tells_all (cond (not t) (a ∷ told deeds) (told deeds)))
one_good a deeds true e h g = g
one_good a deeds false e h g = (printed_told a e h, g)

pub told_good : (deeds : List Act) → AllByRecursion IsPrinted deeds → AllByRecursion IsEntry (tells_all (told deeds))
told_good [] h = tt
told_good (a ∷ deeds) h = one_good a deeds (is_answer a) refl h.0 (told_good deeds h.1)

acts_before : (deeds : List Act) (line : List ℕ) → acts_in (tells_all deeds ++ Other line ∷ []) ≡ deeds
acts_before [] line = refl
acts_before (a ∷ deeds) line = ap (λ x. a ∷ x) (acts_before deeds line)

-- ---- the end line

abbrev end_line : ℕ → ℕ → List ℕ
end_line items unanswered = codes "end " ++ (decimal items ++ 32 ∷ decimal unanswered)

end_is : (items unanswered : ℕ) → journal_text (Other (end_line items unanswered) ∷ []) ≡ end_text items unanswered
end_is items unanswered =
    append-nil (line_of (end_line items unanswered))
    ∙ ap (λ x. codes "end " ++ x) (append_assoc (decimal items) (32 ∷ decimal unanswered) (10 ∷ []))

end_good : (items unanswered : ℕ) → IsEntry (Other (end_line items unanswered))
end_good items unanswered = (
  join_lacks (codes "end ") (decimal items ++ 32 ∷ decimal unanswered) (lacks_test 10 (codes "end ") refl)
      (join_lacks (decimal items) (32 ∷ decimal unanswered) (number_lacks items) (marked_lacks 32 unanswered (λ e. omega (arith, e)))),
  refl,
)

-- ---- the whole text

module _ {N : Type 0} (e : Estate N) where
  abbrev pub head_entries : List Entry
  head_entries = lines_entries e.world.acts (replies_of e.world.acts) [] e.script.lines

  abbrev last_entry : Entry
  last_entry = Other (end_line (items_in e) (open_items e))

  abbrev pub run_entries : List Entry
  run_entries = head_entries ++ (tells_all (told e.world.acts) ++ last_entry ∷ [])

  pub run_text : e.script.setup.acts ≡ true → journal_text run_entries ≡ text_of e
  unfolding text_of
  run_text a =
      journal_join head_entries (tells_all (told e.world.acts) ++ last_entry ∷ [])
      ∙ ap (λ x. x ++ journal_text (tells_all (told e.world.acts) ++ last_entry ∷ [])) (lines_are e.world.acts (replies_of e.world.acts) [] e.script.lines)
      ∙ ap (λ x. items_text e ++ x)
      (journal_join (tells_all (told e.world.acts)) (last_entry ∷ [])
      ∙ ap (λ x. x ++ journal_text (last_entry ∷ [])) (told_are e.world.acts)
      ∙ ap (λ x. acts_text e.world.acts ++ x) (end_is (items_in e) (open_items e))
      ∙ ap (λ t. asked_text t e.world.acts ++ end_text (items_in e) (open_items e)) (sym a))

  pub run_acts : acts_in run_entries ≡ told e.world.acts
  run_acts =
      acts_behind head_entries (tells_all (told e.world.acts) ++ last_entry ∷ []) (lines_others e.world.acts (replies_of e.world.acts) [] e.script.lines)
      ∙ acts_before (told e.world.acts) (end_line (items_in e) (open_items e))

  pub run_journal : IsPrintedRun e → IsJournal run_entries
  run_journal h = record {
    each = good_join head_entries (tells_all (told e.world.acts) ++ last_entry ∷ [])
        (lines_good e.world.acts (replies_of e.world.acts) (answers_in_lines e.world.acts h.acts) [] e.script.lines)
        (good_join (tells_all (told e.world.acts)) (last_entry ∷ []) (told_good e.world.acts h.acts) (end_good (items_in e) (open_items e), tt));
    short = subst (λ t. length t ≤ max_bytes) (sym (run_text h.asked)) h.short;
  }

  pub run_read : IsReadAsPrinted e
  run_read h = (
    numbers_from 1 run_entries,
    ap read_journal (sym (run_text h.asked)) ∙ journals_read run_entries (run_journal h)
        ∙ ap (λ deeds. Ok (record { acts = deeds; lines = numbers_from 1 run_entries })) run_acts,
  )

  pub run_judged : IsJudgedByItsActs e
  run_judged h verdict a =
      let t = run_text h.asked in
      let j : JudgesByLine (journal_text run_entries) (acts_in run_entries) verdict =
      verdicts run_entries (run_journal h) verdict (subst (λ x. IsAudited x verdict) (sym t) a) in
      subst (λ deeds. JudgesByLine (text_of e) deeds verdict) run_acts (subst (λ x. JudgesByLine x (acts_in run_entries) verdict) t j)
