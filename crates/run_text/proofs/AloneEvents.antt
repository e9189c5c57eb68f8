-- What one event begins and answers, where its node has one item at most that may be answered; and that no item is open at the start.
use Rattle.std.proofs.Common.{◌≡◌, ◌⊎◌, ℕ, zero, suc, List, [], ◌∷◌, ◌++◌, inl, inr, slice_get, take, Some, None, refl, sym, ap, ◌∙◌}
use Rattle.core_world.specs.AnyNode.{any_start}
use Rattle.core_world.specs.declared.any_node.AnyNode.{AnyNode}
use Rattle.headline.specs.InLine.{answers_in}
use Rattle.headline.specs.Items.{items_in}
use Rattle.headline.specs.Moments.{moment}
use Rattle.headline.specs.OneMachine.{NoneIsOpen}
use Rattle.run_answers.proofs.standing_law.Moments.{each_moment}
use Rattle.run_answers.specs.once_law.Ledgers.{Closes, Without}
use Rattle.serving_moves.proofs.item_moves.Begins.{taken_next}
use Rattle.version_model.specs.declared.act.Act.{Act}
use Rattle.version_model.specs.declared.act.Act.TheVariants as act
use Rattle.version_model.specs.declared.answer.Answer.{Answer}
use Rattle.version_model.specs.declared.work.Work.{Work}
use Rattle.wire_msg.specs.declared.packet.Do.TheVariants as whats
use Rattle.world_base.specs.declared.estate.Estate.{Estate}
use Rattle.world_base.specs.declared.event.Event.{Event}
use Rattle.world_base.specs.declared.event.Event.TheVariants.{Begin, Deliver, Tick}
use Rattle.world_base.specs.Events.{node_of, what_of}
use Rattle.world_base.specs.Items.{items_of}
use Rattle.world_base.specs.Runs.{begun_in}
use Rattle.xfs_base.specs.declared.node.NodeId.{NodeId}
use Rattle.xfs_base.specs.declared.node.NodeId.TheVariants as nodes

-- ---- what a node answers in one event, of one item at most

module _ (me : NodeId) where
  pub closes_none : (these left : ℕ → Type 0) → ((item : ℕ) → these item → ⊥) → (acts : List Act) → Closes me these acts left
      → (answers_in acts ≡ []) × ((item : ℕ) → left item → ⊥)
  closes_none these left none [] c = (refl, λ item is. none item (c item is))
  closes_none these left none (act.Answered node item a ∷ acts) c = absurd (none item c.1.0)
  closes_none these left none (_ ∷ acts) c = closes_none these left none acts c

  -- it is not answered, and may be left; or it is, and none is left
  abbrev pub ClosesOne : ℕ → List Act → (ℕ → Type 0) → Type 0
  ClosesOne one acts left = (answers_in acts ≡ []) ⊎ ((a : Answer) × ((answers_in acts ≡ act.Answered me one a ∷ []) × ((item : ℕ) → left item → ⊥)))

  pub closes_one : (one : ℕ) (these left : ℕ → Type 0) → ((item : ℕ) → these item → item ≡ one) → (acts : List Act) → Closes me these acts left
      → ClosesOne one acts left
  closes_one one these left only [] c = inl refl
  closes_one one these left only (act.Answered node item a ∷ acts) c =
      let same : item ≡ one = only item c.1.0 in
      let rest = closes_none (Without these item) left (λ other is. is.1 (only other is.0 ∙ sym same)) acts c.1.1 in
      inr (
        a,
        (
          ap (λ ys. act.Answered node item a ∷ ys) rest.0
              ∙ (ap (λ n. act.Answered n item a ∷ []) c.0 ∙ ap (λ k. act.Answered me k a ∷ []) same),
          rest.1,
        ),
      )
  closes_one one these left only (_ ∷ acts) c = closes_one one these left only acts c

-- ---- events

pub begin_is : (event : Event) → what_of event ≡ whats.Begin → event ≡ Begin (node_of event)
begin_is (Begin node) fact = refl
begin_is (Deliver packet) fact = absurd cc
begin_is (Tick node) fact = absurd cc

pub begun_one : (event : Event) → what_of event ≡ whats.Begin → begun_in (event ∷ []) ≡ node_of event ∷ []
begun_one (Begin node) fact = refl
begun_one (Deliver packet) fact = absurd cc
begun_one (Tick node) fact = absurd cc

pub begins_or_not : (event : Event) → (what_of event ≡ whats.Begin) ⊎ ((what_of event ≡ whats.Begin → ⊥) × (begun_in (event ∷ []) ≡ []))
begins_or_not (Begin node) = inl refl
begins_or_not (Deliver packet) = inr (λ fact. cc, refl)
begins_or_not (Tick node) = inr (λ fact. cc, refl)

more_begun : (es fs : List Event) → begun_in (es ++ fs) ≡ begun_in es ++ begun_in fs
more_begun [] fs = refl
more_begun (Begin node ∷ es) fs = ap (λ ns. node ∷ ns) (more_begun es fs)
more_begun (Deliver packet ∷ es) fs = more_begun es fs
more_begun (Tick node ∷ es) fs = more_begun es fs

pub begun_next : (events : List Event) (count : ℕ) (event : Event) → slice_get events count ≡ Some event
    → begun_in (take (suc count) events) ≡ begun_in (take count events) ++ begun_in (event ∷ [])
begun_next events count event happens = ap begun_in (sym (taken_next events count event happens)) ∙ more_begun (take count events) (event ∷ [])

pub take_none : (events : List Event) → take 0 events ≡ []
take_none [] = refl
take_none (x ∷ events) = refl

pub take_past : (events : List Event) (count : ℕ) → slice_get events count ≡ None → take (suc count) events ≡ take count events
take_past [] zero gone = refl
take_past [] (suc count) gone = refl
take_past (x ∷ events) zero gone = absurd cc
take_past (x ∷ events) (suc count) gone = ap (λ xs. x ∷ xs) (take_past events count gone)

-- ---- at the start no item is open

pub starts_free : (e : Estate AnyNode) (name : NodeId) (works : List Work) → (items_in (any_start name e.script.setup works)).unanswered ≡ None
starts_free e (nodes.Client number) works = refl
starts_free e (nodes.Manager number) works = refl
starts_free e (nodes.Server number) works = refl
starts_free e nodes.Cleaner works = refl
starts_free e nodes.Registry works = refl

abbrev Free : ℕ → NodeId → AnyNode → Type 0
Free zero name x = (items_in x).unanswered ≡ None
Free (suc count) name x = Unit {0}

pub none_first : (e : Estate AnyNode) → NoneIsOpen (moment e 0)
none_first e =
    each_moment Free e (λ name. starts_free e name (items_of e.script.lines name)) (λ count name x idles so. tt) (λ count event happens x was took so. tt) 0
