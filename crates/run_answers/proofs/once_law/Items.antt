-- The items of a node over what it does: what they ask for, how many have begun, and which of them is open.
use Rattle.std.proofs.Common.{Option, ◌≡◌, ◌⊎◌, ℕ, ◌+◌, ◌≤◌, ◌<◌, ◌&&◌, nat_lt, false, true, cond, List, [], ◌∷◌, ◌++◌, length, Some, None, inl, inr, refl, sym, ap, subst, ◌∙◌, arith}
use Rattle.std.proofs.lemmas.Bool.{ltb-true}
use Rattle.node_base.specs.Beginning.{items_answer, answers_unanswered, items_begin, is_left, next_item, items_wait}
use Rattle.node_base.specs.declared.effects.Effect.{Effect}
use Rattle.node_base.specs.declared.effects.Effect.TheVariants.{Answer as Answers}
use Rattle.node_base.specs.declared.items.Items.{Items}
use Rattle.node_base.specs.Effects.{acts_of}
use Rattle.version_model.specs.declared.answer.Answer.{Answer}
use Rattle.wire_msg.specs.declared.packet.Do.{Do}
use Rattle.wire_msg.specs.declared.packet.Do.TheVariants.{Begin}
use Rattle.xfs_base.proofs.Booleans.{by_test}
use Rattle.xfs_base.specs.declared.node.NodeId.{NodeId}
use Rattle.xfs_base.specs.Limits.{u32_end}
use Rattle.version_model.specs.declared.answer.Answer.TheVariants as answer
use Rattle.xfs_base.specs.declared.segment.SegName.{SegName}
use Rattle.serving_moves.proofs.item_moves.Keeping.{all_plain_more, moves_stay, next_is, no_item, one_number}
use Rattle.serving_moves.specs.item_moves.Moves as moves
use Rattle.serving_moves.specs.item_moves.Moves.{Begun, Event, Losses, MayAnswer, Move, Moves}
use Rattle.serving_moves.specs.item_moves.Moves.Begun.{AtOnce, Waits}
use Rattle.serving_moves.specs.item_moves.Moves.Event.{Begins, GoesOn, Idles, Cuts}
use Rattle.serving_moves.specs.item_moves.Moves.Move.{Stays, Ends, Loses}
use Rattle.serving_moves.specs.item_moves.Moves.Moves.{Last, Then}
use Rattle.run_answers.proofs.once_law.Ledger.{Any, Closes, OpenOr, acts_close, answers_both, answers_now, closes_append, closes_more, closes_open, closes_plain}
use Rattle.run_answers.specs.once_law.Ledgers.{KeepsLedger, MayBeAnswered, OpenHasBegun}
use Rattle.headline.specs.Items.{IsOpen}

-- they ask for the same, and as many have begun
record Steady (before after : Items) : Type 0 where
  pub works : after.works ≡ before.works
  pub begun : after.begun ≡ before.begun

steady : (items : Items) → Steady items items
steady items = record { works = refl; begun = refl }

-- ---- a Begin

-- the next item has begun
pub begun_works : (items : Items) → (items_begin items).works ≡ items.works
begun_works items =
    by_test (λ (i : Items). i.works ≡ items.works) (is_left items) (record items { begun = items.begun + 1 }) items (λ _. refl) (λ _. refl)

pub begun_open : (items : Items) → (items_begin items).unanswered ≡ items.unanswered
begun_open items =
    by_test (λ (i : Items). i.unanswered ≡ items.unanswered) (is_left items) (record items { begun = items.begun + 1 }) items (λ _. refl) (λ _. refl)

pub begun_is : (items : Items) (number : ℕ) → next_item items ≡ Some number → (items_begin items).begun ≡ number
begun_is items number =
    elim (is_left items) as
    (λ t. cond t (Some (items.begun + 1)) None ≡ Some number → (cond t (record items { begun = items.begun + 1 }) items).begun ≡ number) [
      | true ↦ λ fact. one_number (items.begun + 1) number fact
      | false ↦ λ fact. absurd (no_item number fact)
    ]

-- none is left: all is as before
pub begun_none : (items : Items) → next_item items ≡ None → items_begin items ≡ items
begun_none items =
    elim (is_left items) as
    (λ t. cond t (Some (items.begun + 1)) None ≡ None → cond t (record items { begun = items.begun + 1 }) items ≡ items) [
      | true ↦ λ fact. absurd (no_item (items.begun + 1) (sym fact))
      | false ↦ λ fact. refl
    ]

-- there is such an item
pub next_left : (items : Items) (number : ℕ) → next_item items ≡ Some number → number ≤ length items.works
next_left items number =
    elim (nat_lt items.begun (length items.works)) as
    (λ s. nat_lt items.begun (length items.works) ≡ s → cond (s && nat_lt items.begun u32_end) (Some (items.begun + 1)) None ≡ Some number
    → number ≤ length items.works) [
      | true ↦ λ less. elim (nat_lt items.begun u32_end) as
          (λ t. cond (true && t) (Some (items.begun + 1)) None ≡ Some number → number ≤ length items.works) [
            | true ↦ λ fact. (let one : items.begun + 1 ≡ number = one_number (items.begun + 1) number fact in
                let below : items.begun < length items.works = ltb-true items.begun (length items.works) less in omega arith)
            | false ↦ λ fact. absurd (no_item number fact)
          ]
      | false ↦ λ less fact. absurd (no_item number fact)
    ] refl

-- it was not open before
pub next_is_new : (items : Items) (number : ℕ) → OpenHasBegun items → next_item items ≡ Some number → (items_begin items).unanswered ≡ Some number → ⊥
next_is_new items number sound next waits =
    let low : number ≤ items.begun = sound number (sym (begun_open items) ∙ waits) in
    let high : number ≡ items.begun + 1 = next_is items number next in
    omega arith

-- ---- what an event makes of them

-- what is answered was open, or begins, and is open no more
record Turned (before : Items) (what : Do) (after : Items) (outs : List Effect) : Type 0 where
  pub works : after.works ≡ before.works
  pub begun : (after.begun ≡ before.begun) ⊎ ((what ≡ Begin) × (next_item before ≡ Some after.begun))
  pub closes : Closes Any (MayBeAnswered before what after) outs (IsOpen after)

module _ (before : Items) (number : ℕ) (next : next_item before ≡ Some number) where
  -- the item of this number begins
  begins : (after : Items) (outs : List Effect) → Steady (items_begin before) after → Closes Any (OpenOr (items_begin before).unanswered number) outs (IsOpen after)
      → Turned before Begin after outs
  begins after outs s c =
      let began : after.begun ≡ number = s.begun ∙ begun_is before number next in
      record {
        works = s.works ∙ begun_works before;
        begun = inr (refl, next ∙ ap Some (sym began));
        closes = closes_more Any Any (λ a so. so) (OpenOr (items_begin before).unanswered number) (MayBeAnswered before Begin after) (IsOpen after) (IsOpen after)
            (it_may after began) (λ n fact. fact) outs c;
      }
    where
      it_may : (after : Items) → after.begun ≡ number → (n : ℕ) → OpenOr (items_begin before).unanswered number n → MayBeAnswered before Begin after n
      it_may after began n (inl waits) = inl (sym (begun_open before) ∙ waits)
      it_may after began n (inr same_) = inr (refl, (next ∙ ap Some same_, began ∙ same_))

-- ---- moves

module _ (losses : Losses) (J K : Answer → Type 0) (ends : (a : Answer) → J a → K a) (lost : (name : SegName) → MayAnswer losses → K (answer.Lost name)) where
  plainly : (items : Items) (outs : List Effect) → moves.AllPlain losses outs → Closes K (IsOpen items) outs (IsOpen items)
  plainly items outs plain = closes_plain K (IsOpen items) (IsOpen items) (λ n fact. fact) outs (all_plain_more losses outs plain)

  move_closes : (before after : Items) (outs : List Effect) → Move losses J before outs after → Closes K (IsOpen before) outs (IsOpen after)
  move_closes before after outs (Stays stay plain) =
      closes_plain K (IsOpen before) (IsOpen after) stay.waits outs (all_plain_more losses outs plain)
  move_closes before after outs (Ends a so) = closes_open K before.unanswered a (ends a so)
  move_closes before after outs (Loses name said may plain among) =
      closes_append K (IsOpen before) (IsOpen before) (IsOpen (items_answer before)) said (answers_unanswered before.unanswered (answer.Lost name))
      (plainly before said plain) (closes_open K before.unanswered (answer.Lost name) (lost name may))

  -- only the open item is answered, and it is open no more
  pub moves_close : (before after : Items) (outs : List Effect) → Moves losses J before outs after → Closes K (IsOpen before) outs (IsOpen after)
  moves_close before after outs (Last move) = move_closes before after outs move
  moves_close before after outs (Then between now more move rest) =
      closes_append K (IsOpen before) (IsOpen between) (IsOpen after) now more (move_closes before between now move)
      (moves_close between after more rest)

-- ---- an event

module _ (losses : Losses) (J K : Answer → Type 0) (before : Items) (sound : OpenHasBegun before) where
  closed : (items after : Items) (outs : List Effect) → Moves losses J items outs after → Closes Any (IsOpen items) outs (IsOpen after)
  closed = moves_close losses J Any (λ a so. tt) (λ name may. tt)

  idles : Turned before Begin (items_begin before) []
  idles = by (next_item before) refl
    where
      by : (item : Option ℕ) → next_item before ≡ item → Turned before Begin (items_begin before) []
      by None none = subst (λ (after : Items). Turned before Begin after []) (sym (begun_none before none)) (record {
        works = refl;
        begun = inl refl;
        closes = λ n fact. inl fact;
      })
      by (Some number) next = begins before number next (items_begin before) [] (steady (items_begin before)) (λ n fact. inl fact)

  module _ (number : ℕ) (next : next_item before ≡ Some number) where
    abbrev These : ℕ → Type 0
    These = OpenOr (items_begin before).unanswered number

    fresh : (items_begin before).unanswered ≡ Some number → ⊥
    fresh waits = next_is_new before number sound next waits

    -- behind what answers nothing
    behind : (first more : List Effect) (left : ℕ → Type 0) → moves.AllPlain losses first → Closes Any These more left → Closes Any These (first ++ more) left
    behind first more left plain c =
        closes_append Any These These left first more (closes_plain Any These These (λ n fact. fact) first (all_plain_more losses first plain)) c

    begun_turned : (after : Items) (outs : List Effect) → Begun losses J K (items_begin before) number outs after → Turned before Begin after outs
    begun_turned after outs (AtOnce a first more so plain rest) =
        begins before number next (items_begin before) (first ++ Answers number a ∷ more) (steady (items_begin before))
        (behind first (Answers number a ∷ more) (IsOpen (items_begin before)) plain
        (answers_now (items_begin before).unanswered number fresh a more (all_plain_more losses more rest)))
    begun_turned after outs (Waits made) =
        let stay = moves_stay losses J (items_wait (items_begin before) number) after outs made in
        begins before number next after outs (record { works = stay.works; begun = stay.begun })
        (closes_more Any Any (λ a so. so) (IsOpen (items_wait (items_begin before) number)) These (IsOpen after) (IsOpen after) (λ n fact. inr (one_number number n fact))
        (λ n fact. fact) outs (closed (items_wait (items_begin before) number) after outs made))

    cut_turned : (first more : List Effect) → moves.AllPlain losses first → moves.AllPlain losses more
        → Turned before Begin (items_answer (items_begin before))
        (first ++ (answers_unanswered (items_begin before).unanswered answer.Cut ++ Answers number answer.Done ∷ more))
    cut_turned first more plain rest =
        begins before number next (items_answer (items_begin before)) _ (record { works = refl; begun = refl })
        (behind first (answers_unanswered (items_begin before).unanswered answer.Cut ++ Answers number answer.Done ∷ more) (IsOpen (items_answer (items_begin before))) plain
        (answers_both (items_begin before).unanswered number fresh answer.Cut answer.Done more (all_plain_more losses more rest)))

  event_turned : (what : Do) (after : Items) (outs : List Effect) → Event losses J K before what outs after → Turned before what after outs
  event_turned what after outs (GoesOn made) =
      let stay = moves_stay losses J before after outs made in
      record {
        works = stay.works;
        begun = inl stay.begun;
        closes = closes_more Any Any (λ a so. so) (IsOpen before) (MayBeAnswered before what after) (IsOpen after) (IsOpen after) (λ n fact. inl fact)
            (λ n fact. fact) outs (closed before after outs made);
      }
  event_turned what after outs (Idles is) = subst (λ (w : Do). Turned before w (items_begin before) []) (sym is) idles
  event_turned what after outs (Begins number is next b) =
      subst (λ (w : Do). Turned before w after outs) (sym is) (begun_turned number next after outs b)
  event_turned what after outs (Cuts number first more is next falls plain rest) =
      subst (λ (w : Do). Turned before w after outs) (sym is) (cut_turned number next first more plain rest)

  -- so it is in words of acts
  pub keeps_ledger : (me : NodeId) (what : Do) (after : Items) (outs : List Effect) → Event losses J K before what outs after
      → KeepsLedger me before what (acts_of me outs) after
  keeps_ledger me what after outs e =
      let t = event_turned what after outs e in
      record { works = t.works; begun = t.begun; closes = acts_close me Any (MayBeAnswered before what after) (IsOpen after) outs t.closes }
