-- An entry that is made of filed segments is seen as filed, and so are an index that Deltas change and one that a new manager gathers.
use Rattle.std.proofs.Common.{◌≡◌, ℕ, zero, suc, ◌≤◌, ◌<◌, Bool, true, false, inl, inr, ⊎_elim, Option, Some, None, refl, sym, ap, ◌∙◌, arith}
use Rattle.xfs_base.specs.declared.block.BlockId.{BlockId}
use Rattle.xfs_base.specs.declared.entry.Entry.{Entry}
use Rattle.xfs_base.specs.declared.entry.Place.{Place}
use Rattle.act_tie.specs.Number.{number}
use Rattle.token_protocol.specs.Basics.{put}
use Rattle.token_protocol.specs.Entry as abstract
use Rattle.token_protocol.specs.Laws.{CleanerEmpty}
use Rattle.token_protocol.specs.Packets as packets
use Rattle.token_protocol.specs.Premises.{Premise, IndexCovers, IndexGathered}
use Rattle.token_protocol.specs.Step.{Steps}
use Rattle.token_protocol.specs.World.{World, Filed, start}
use Rattle.token_protocol.proofs.Invariant.{always}
use Rattle.token_protocol.proofs.Laws.{cleaner_empty}
use Rattle.token_protocol.proofs.Refining.{put_each}
use Rattle.token_tie.specs.Seen.{placed_of, log_of, segment_of, entry_seen}
use Rattle.token_law.specs.Books.{Books, said, IsFiled}
use Rattle.token_law.specs.Owed.{Covers}
use Rattle.token_law.proofs.Logged.{Kept}

-- the log of nobody is empty
pub nothing_of_nobody : (logs : Bool) (members : ℕ) (w : World) → 0 < w.members → Steps logs (start members) w → Premise logs (CleanerEmpty w)
nothing_of_nobody true members w some steps = cleaner_empty w some (always members w steps)
nothing_of_nobody false members w some steps = tt

unplaced : (o : Option Place) → placed_of o ≡ 0 → o ≡ None
unplaced None fact = refl
unplaced (Some p) fact = absurd (omega arith)

module _ (b : BlockId) (k : Books) (w : World) (seen : Kept b k w) where
  pub filed_of : (e : Entry) → IsFiled k b e → Filed w (entry_seen e)
  filed_of e made =
      ⊎_elim (λ none. inl (none.0, ap placed_of none.1))
      (λ h.
      let l = h.0 in
      let q = h.1 in
      let m = h.2 in
      inr (
        l,
        q,
        record {
          filed = let a = seen.ends l in let f = m.filed in omega arith;
          some = m.some;
          row = ap (λ (r : abstract.Row). r.version) (seen.says l q) ∙ m.row;
          absent = λ none. ap (λ (r : abstract.Row). r.value) (seen.says l q) ∙ ap number (m.absent (unplaced e.place none));
          place = placed e.place (m.place);
        },
      ))
      made
    where
      placed : (o : Option Place) {l q : ℕ} → ((p : Place) → o ≡ Some p → (p.seg.name.log.0 ≡ l) × (p.seg.name.seq ≡ q)) → 0 < placed_of o
          → (log_of o ≡ l) × (segment_of o ≡ q)
      placed None at some = absurd (omega arith)
      placed (Some p) at some = at p refl

  pub covers_of : (l upto : ℕ) (old new : Entry) → w.index ≡ entry_seen old → upto ≤ k.end l → Covers k b l upto old new → IndexCovers w l upto (entry_seen new)
  covers_of l upto old new index filed c = record {
    filed_end = let e = seen.ends l in omega arith;
    old = let i = ap (λ (e : abstract.Entry). e.version) index in let later = c.later in omega arith;
    rows = λ q limit. let r = ap (λ (r : abstract.Row). r.version) (seen.says l q) in let x = c.rows q limit in omega arith;
    source = ⊎_elim (λ same. inl (ap entry_seen same ∙ sym index)) (λ made. inr (filed_of new made)) c.source;
  }

  -- what is gathered of each log, but for that of nobody, in which nothing is
  pub gathered_of : (report : ℕ → packets.Report) (applied : ℕ → ℕ) (e : Entry) → CleanerEmpty w
      → (report 0).end ≡ w.end 0 → ((c : ℕ) → 0 < c → c < w.members → (report c).end ≤ applied c) → ((l : ℕ) → 0 < l → applied l ≤ k.end l)
      → IsFiled k b e → ((l q : ℕ) → 0 < l → q ≤ applied l → (said k l q b).version ≤ e.ver)
      → IndexGathered w report (put applied 0 (w.end 0)) (entry_seen e)
  gathered_of report applied e empty nobody reported filed source rows = record {
    reported = put_each (λ c x. c < w.members → (report c).end ≤ x) applied 0 (w.end 0) (λ _. omega arith) (λ c other. reported c (positive c other));
    filed_end = put_each (λ c x. x ≤ w.end c) applied 0 (w.end 0) (omega arith)
        (λ c other. let f = filed c (positive c other) in let a = seen.ends c in omega arith);
    source = filed_of e source;
    rows = put_each (λ c x. (q : ℕ) → q ≤ x → (w.rows c q).version ≤ e.ver) applied 0 (w.end 0) (λ q _. let none = empty.rows q in omega arith)
        (λ c other q limit. let r = ap (λ (r : abstract.Row). r.version) (seen.says c q) in let x = rows c q (positive c other) limit in omega arith);
  }
    where
      positive : (c : ℕ) → (c ≡ 0 → ⊥) → 0 < c
      positive zero h = absurd (h refl)
      positive (suc c) h = omega arith
