-- What a takeover has read once it took one more input, and that what it hands out then is what the small world needs to know.
use Rattle.std.proofs.Common.{◌^◌, ◌≡◌, ℕ, ◌<◌, inl, inr, List, [], ◌∷◌, ◌++◌, take, Option, Some, None, refl, sym, ap, ◌∙◌}
use Rattle.std.specs.List.{AllByRecursion}
use Rattle.xfs_base.proofs.Booleans.{by_test}
use Rattle.xfs_base.specs.declared.node.NodeId.{NodeId}
use Rattle.xfs_base.specs.declared.segment.End.{End}
use Rattle.xfs_base.specs.declared.segment.SegRef.{SegRef}
use Rattle.xfs_base.proofs.NodeOrder.{same_node_is}
use Rattle.xfs_base.specs.Nodes.{same_node}
use Rattle.xfs_base.proofs.Alls.{all_take, all_append, all_weaker}
use Rattle.segment_format.specs.declared.segment.Segment.{Segment}
use Rattle.segment_reading.specs.Reading.{ReadingState, reading_take}
use Rattle.stripe_code.specs.declared.round.Told.{Told}
use Rattle.stripe_code.specs.declared.round.Told.TheVariants.{Held, Missing as Lacks}
use Rattle.takeover.specs.Course.{Course, segment_of, and_of, read_in, read_at, read_by, read_after, after_input, after_inputs}
use Rattle.takeover.specs.ReadBack.{Read, and_read, told_along, told_by_all}
use Rattle.takeover.specs.Reports.{no_end, end_from}
use Rattle.takeover.specs.Rows.{told_of}
use Rattle.takeover.specs.Sources.{goes_back}
use Rattle.takeover.specs.TakeState.{TakeState}
use Rattle.takeover.specs.Transition.{can_ask}
use Rattle.takeover.specs.declared.input.In.{In as Input}
use Rattle.takeover.specs.declared.input.In.TheVariants as input
use Rattle.takeover.specs.declared.report.Report.{Report as Heard}
use Rattle.takeover.specs.declared.source.Present.{Present}
use Rattle.takeover.specs.declared.source.Source.{Source}
use Rattle.index_tie.specs.Checkpoints.{TellsPart}
use Rattle.headline.specs.Filed.{AreTexts, Filed, Texts}
use Rattle.index_tie.specs.Takeovers.{IsItsText}
use Rattle.token_protocol.specs.Basics.{In as Among}
use Rattle.node_slots.specs.node_index_tie.ManagerEvents.{completes_in, completes_at, completes}
use Rattle.node_slots.specs.node_index_tie.Sight.{held_in, RowsFit, IsRead}

-- ---- one input more

-- a course that took one more input
pub after_one : (c : Course) (inputs : List Input) (i : Input) → after_inputs c (inputs ++ i ∷ []) ≡ after_input (after_inputs c inputs) i
after_one c [] i = refl
after_one c (x ∷ xs) i = after_one (after_input c x) xs i

module _ (part : ℕ) (texts : Texts) where
  -- all that was read are the texts of their names
  pub record AllRead (r : Read) : Type 0 where
    pub whole : AllByRecursion (AllByRecursion (IsRead part texts)) r.whole
    pub present : AllByRecursion (IsRead part texts) r.present

  read_more : (r : Read) (source : Source) (s : Segment) → AllRead r → IsRead part texts s → AllRead (and_read r source s)
  read_more r source s all one =
      by_test AllRead (goes_back source s) (record { whole = r.whole; present = s ∷ r.present })
      (record { whole = r.whole ++ (s ∷ r.present) ∷ []; present = [] })
      (λ _. record { whole = all.whole; present = (one, all.present) })
      (λ _. record { whole = all_append (AllByRecursion (IsRead part texts)) r.whole ((s ∷ r.present) ∷ []) all.whole ((one, all.present), tt); present = tt })

  abbrev Completes : Option Segment → Type 0
  Completes o = (s : Segment) → o ≡ Some s → IsRead part texts s

  read_one : (r : Read) (p : Present) (o : Option Segment) → AllRead r → Completes o → AllRead (and_of r p o)
  read_one r p None all owed = all
  read_one r p (Some s) all owed = read_more r p.source s all (owed s refl)

  read_told : (s : TakeState) (r : Read) (o : Option Present) (ask server : ℕ) (told : Told) → AllRead r → Completes (completes_at s o ask server told)
      → AllRead (read_at s r o ask server told)
  read_told s r None ask server told all owed = all
  read_told s r (Some p) ask server told all owed = by p.reading owed
    where
      by : (q : Option ReadingState) → Completes (completes_in s q ask server told) → AllRead (read_in s r p q ask server told)
      by None owed = all
      by (Some reading) owed = read_one r p (segment_of (reading_take reading s.groups ask server told).next) all owed

  read_by_all : (s : TakeState) (r : Read) (ask server : ℕ) (told : Told) → AllRead r → Completes (completes_at s s.present ask server told)
      → AllRead (read_by s r ask server told)
  read_by_all s r ask server told all owed = by_test AllRead (can_ask s) (read_at s r s.present ask server told) r
      (λ _. read_told s r s.present ask server told all owed) (λ _. all)

  pub read_on : (s : TakeState) (r : Read) (i : Input) → AllRead r → ((x : Segment) → completes s i ≡ Some x → IsRead part texts x)
      → AllRead (read_after s r i)
  read_on s r (input.Got ask server generation fragment) all owed = read_by_all s r ask server (Held fragment) all owed
  read_on s r (input.Missing ask server generation) all owed = read_by_all s r ask server (Lacks generation) all owed
  read_on s r _ all owed = all

  -- ---- what was read tells

  -- of its own part it tells what the part holds
  tells_part : (parts : List SegRef) (s : Segment) → IsRead part texts s → TellsPart part (held_in part texts) parts s
  tells_part [] s read = tt
  tells_part (ref ∷ refs) s read = ((λ same. ap (told_of part) (read.text ∙ ap texts same)), tells_part refs s read)

  pub tells_parts : (parts : List SegRef) (k : ℕ) (chains : List (List Segment)) → AllByRecursion (AllByRecursion (IsRead part texts)) chains
      → AllByRecursion (AllByRecursion (TellsPart part (held_in part texts) parts)) (take k chains)
  tells_parts parts k chains all =
      all_take (AllByRecursion (TellsPart part (held_in part texts) parts)) k chains
      (all_weaker (AllByRecursion (IsRead part texts)) (AllByRecursion (TellsPart part (held_in part texts) parts))
      (all_weaker (IsRead part texts) (TellsPart part (held_in part texts) parts) (tells_part parts)) chains all)

  -- it is the filed segment of its name
  its_text : (f : Filed) → AreTexts texts f → (s : Segment) → IsRead part texts s → IsItsText f s
  its_text f filed s read l q some limit same = read.text ∙ ap texts same ∙ sym (filed l q some limit)

  pub its_texts : (f : Filed) → AreTexts texts f → (chains : List (List Segment)) → AllByRecursion (AllByRecursion (IsRead part texts)) chains
      → AllByRecursion (AllByRecursion (IsItsText f)) chains
  its_texts f filed chains all = all_weaker (AllByRecursion (IsRead part texts)) (AllByRecursion (IsItsText f))
      (all_weaker (IsRead part texts) (IsItsText f) (its_text f filed)) chains all

  fit_along : (chain : List Segment) → AllByRecursion (IsRead part texts) chain → RowsFit (told_along part chain)
  fit_along [] all = tt
  fit_along (s ∷ ss) all = all_append (λ row. row.0.blk < 2 ^ 32) (told_of part s) (told_along part ss) all.0.fits (fit_along ss all.1)

  pub fit_by_all : (chains : List (List Segment)) → AllByRecursion (AllByRecursion (IsRead part texts)) chains → RowsFit (told_by_all part chains)
  fit_by_all [] all = tt
  fit_by_all (c ∷ cs) all = all_append (λ row. row.0.blk < 2 ^ 32) (told_along part c) (told_by_all part cs) (fit_along c all.0) (fit_by_all cs all.1)

-- ---- the end that was reported of a log

-- a report's end, or none
pub end_from_is : (P : End → Type 0) (node : NodeId) (reports : List Heard) → P no_end → ((r : Heard) → Among r reports → r.from ≡ node → P r.end)
    → P (end_from node reports)
end_from_is P node [] none some = none
end_from_is P node (r ∷ rs) none some =
    by_test P (same_node r.from node) r.end (end_from node rs) (λ fact. some r (inl refl) (same_node_is r.from node fact))
    (λ _. end_from_is P node rs none (λ x there. some x (inr there)))
