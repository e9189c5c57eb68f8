-- When the log or the writer of a manager's checkpoints has gone on, the slot's pages and what is written of them are seen as before.
use Rattle.std.proofs.Common.{◌≡◌, ℕ, ◌<◌, arith, List, Option, Some, None, refl, sym, ap, subst, ◌∙◌}
use Rattle.std.specs.List.{slice_get}
use Rattle.std.specs.Prelude.{length, unwrap_or}
use Rattle.std.proofs.Common.{length-set}
use Rattle.xfs_base.specs.declared.segment.SegRef.{SegRef}
use Rattle.checkpoint.specs.Laws.{Event}
use Rattle.checkpoint.specs.WriterState.{WorkState}
use Rattle.index_pages.specs.Pages.{PagesState}
use Rattle.index_tie.specs.Net.{Net}
use Rattle.manager_slots.specs.SlotTable.{Table, changed_in}
use Rattle.manager_slots.specs.declared.slot_phase.SlotPhase.{SlotPhase}
use Rattle.manager_slots.specs.declared.slot_phase.SlotPhase.TheVariants as phase
use Rattle.headline.specs.Managers.{phase_at}
use Rattle.node_slots.specs.node_index_tie.ManagerEvents.{PhaseAgrees}
use Rattle.node_slots.specs.node_index_tie.Pages.{Desk, IsWork, Paged, WorkSeen}
use Rattle.node_slots.specs.node_index_tie.Pages.Paged.{Covered, Written, Ended}
use Rattle.headline.specs.Filed.{Texts}
use Rattle.node_slots.proofs.node_tie.SlotTables.{past, set_here, set_there}

pub some_is : {X : Type 0} (x y : X) → Some x ≡ Some y → x ≡ y
some_is x y same = ap (λ o. unwrap_or o x) same

-- ---- a slot of the table is changed

pub changed_here : (t : Table) (k : ℕ) (change : SlotPhase → SlotPhase) → k < length t
    → phase_at (changed_in t k change (slice_get t k)) k ≡ change (phase_at t k)
changed_here t k change within = by (slice_get t k) refl
  where
    by : (o : Option SlotPhase) → slice_get t k ≡ o → phase_at (changed_in t k change o) k ≡ change (phase_at t k)
    by None fact = absurd (here within fact)
      where
        here : k < length t → slice_get t k ≡ None → ⊥
        here within none = let p = past t k none in absurd (omega arith)
    by (Some p) fact = set_here t k (change p) within ∙ ap change (sym (ap (λ o. unwrap_or o (phase.Away 0)) fact))

pub changed_there : (t : Table) (k m : ℕ) (change : SlotPhase → SlotPhase) → (m ≡ k → ⊥) → phase_at (changed_in t k change (slice_get t k)) m ≡ phase_at t m
changed_there t k m change other = by (slice_get t k)
  where
    by : (o : Option SlotPhase) → phase_at (changed_in t k change o) m ≡ phase_at t m
    by None = refl
    by (Some p) = set_there t k m (change p) other

pub changed_length : (t : Table) (k : ℕ) (change : SlotPhase → SlotPhase) → length (changed_in t k change (slice_get t k)) ≡ length t
changed_length t k change = by (slice_get t k)
  where
    by : (o : Option SlotPhase) → length (changed_in t k change o) ≡ length t
    by None = refl
    by (Some p) = length-set t k (change p)

-- ---- the desk has gone on

module _ (part : ℕ) (texts : Texts) (n : Net) (desk later : Desk) where
  -- what is written of a checkpoint is written on
  pub record Forth (w : WorkState) : Type 0 where
    pub on : WorkState
    pub writes : later.writer.work ≡ Some on
    pub slot : on.slot ≡ w.slot
    pub epoch : on.epoch ≡ w.epoch
    pub work : (events : List Event) → w.slot ≡ part → IsWork part texts n desk events w → IsWork part texts n later events on

  -- what is written now was
  pub record Back (w : WorkState) : Type 0 where
    pub before : WorkState
    pub was : desk.writer.work ≡ Some before
    pub slot : before.slot ≡ w.slot
    pub epoch : before.epoch ≡ w.epoch

  pub record Turn : Type 0 where
    pub forth : (w : WorkState) → desk.writer.work ≡ Some w → Forth w
    pub back : (w : WorkState) → later.writer.work ≡ Some w → Back w
    pub none : desk.writer.work ≡ None → later.writer.work ≡ None
    pub number : later.writer.number ≡ desk.writer.number

  module _ (t : Turn) where
    pub paged_turn : (epoch : ℕ) (pages : PagesState) (parts : List SegRef) → Paged part texts n desk epoch pages parts
        → Paged part texts n later epoch pages parts
    paged_turn epoch pages parts (Covered events may fact none) = Covered events may fact
        (λ w there of at. let b = t.back w there in none b.before b.was (b.slot ∙ of) (b.epoch ∙ at))
    paged_turn epoch pages parts (Written events w rows there of at work fits fact) =
        let f = t.forth w there in
        Written events f.on rows f.writes (f.slot ∙ of) (f.epoch ∙ at) (f.work events of work) fits fact
    paged_turn epoch pages parts (Ended number none) = Ended (t.number ∙ number) (t.none none)

    pub seen_turn : ((w : WorkState) → desk.writer.work ≡ Some w → w.slot ≡ part → WorkSeen part texts n desk w) → (w : WorkState)
        → later.writer.work ≡ Some w → w.slot ≡ part → WorkSeen part texts n later w
    seen_turn seen w there of =
        let b = t.back w there in
        let f = t.forth b.before b.was in
        let k = seen b.before b.was (b.slot ∙ of) in
        record {
          events = k.events;
          as_planned = subst (IsWork part texts n later k.events) (some_is f.on w (sym f.writes ∙ there)) (f.work k.events (b.slot ∙ of) k.as_planned);
        }

    pub phase_turn : (p : SlotPhase) → PhaseAgrees part texts n desk p → PhaseAgrees part texts n later p
    phase_turn (phase.Taking x) k = k
    phase_turn (phase.Active a) k = record { there = k.there; nine = k.nine; short = k.short; pages = paged_turn a.slot.epoch _ a.parts k.pages }
    phase_turn (phase.Away epoch) k = tt
    phase_turn (phase.Broken epoch seg) k = tt
