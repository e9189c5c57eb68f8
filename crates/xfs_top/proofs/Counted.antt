-- As many items have begun of a node as Begins happened to it, while its counters are far from their ends.
use Rattle.std.proofs.Common.{◌≡◌, ◌⊎◌, ◌<◌, ◌≤◌, ℕ, suc, ◌+◌, nat_lt, ◌&&◌, Bool, true, false, cond, List, [], ◌∷◌, length, take, Some, None, inl, inr, refl, sym, ap, subst, ◌∙◌, arith}
use Rattle.std.specs.Prelude.{slice_get}
use Rattle.std.proofs.lemmas.Bool.{lt-ltb}
use Rattle.std.proofs.lemmas.List.Sums.{sum_by-cons}
use Rattle.core_world.specs.AnyNode.{any_step}
use Rattle.core_world.specs.declared.any_node.AnyNode.{AnyNode}
use Rattle.journals.specs.Journals.{begins, replayed}
use Rattle.node_base.specs.Beginning.{is_left, next_item}
use Rattle.node_base.specs.declared.items.Items.{Items}
use Rattle.run_answers.proofs.once_law.Runs.{each_keeps, open_was}
use Rattle.run_answers.proofs.turn_law.Beginning.{begins_counted, near_its_end}
use Rattle.headline.specs.Dues.{has_counters}
use Rattle.run_answers.specs.once_law.Ledgers.{IsBegun, OpenHasBegun}
use Rattle.headline.specs.Items.{IsOpen, items_in}
use Rattle.serving_moves.proofs.item_moves.Keeping.{next_is}
use Rattle.version_model.specs.declared.work.Work.{Work}
use Rattle.wire_msg.specs.declared.packet.Do.{Do}
use Rattle.wire_msg.specs.declared.packet.Do.TheVariants.{Begin, Deliver, Tick}
use Rattle.wire_msg.specs.Kinds.{is_begin}
use Rattle.wire_msg.specs.NodeStep.{NodeStep}
use Rattle.xfs_base.proofs.Booleans.{contrary}
use Rattle.xfs_base.specs.Limits.{u32_end}

-- ---- how many items begin

count_more : (d : Do) (ds : List Do) → begins (d ∷ ds) ≡ cond (is_begin d) 1 0 + begins ds
count_more d ds = sum_by-cons (λ x. cond (is_begin x) 1 0) d ds

nothing_begins : begins [] ≡ 0
nothing_begins = refl

-- what is open has begun, and it stays so
still_sound : (n : AnyNode) (d : Do) → OpenHasBegun (items_in n) → OpenHasBegun (items_in (any_step n d).node)
still_sound n d sound item waits = by (open_was n d sound item waits)
  where
    after_ : Items
    after_ = items_in (any_step n d).node

    grown : (after_.begun ≡ (items_in n).begun) ⊎ ((d ≡ Begin) × (next_item (items_in n) ≡ Some after_.begun)) → (items_in n).begun ≤ after_.begun
    grown (inl same) = omega (arith, same)
    grown (inr more) = (let one = next_is (items_in n) after_.begun more.1 in omega (arith, one))

    by : IsOpen (items_in n) item ⊎ IsBegun (items_in n) d after_ item → item ≤ after_.begun
    by (inl was) = (let low = sound item was in let up = grown (each_keeps n d sound).ledger.begun in omega (arith, low, up))
    by (inr begun) = (let is = begun.1.1 in omega (arith, is))

more_begun : (n : AnyNode) (d : Do) → OpenHasBegun (items_in n) → (items_in n).begun ≤ (items_in (any_step n d).node).begun
more_begun n d sound = by (each_keeps n d sound).ledger.begun
  where
    by : ((items_in (any_step n d).node).begun ≡ (items_in n).begun) ⊎ ((d ≡ Begin) × (next_item (items_in n) ≡ Some (items_in (any_step n d).node).begun))
        → (items_in n).begun ≤ (items_in (any_step n d).node).begun
    by (inl same) = omega (arith, same)
    by (inr more) = (let one = next_is (items_in n) (items_in (any_step n d).node).begun more.1 in omega (arith, one))

grows : (ds : List Do) (n : AnyNode) → OpenHasBegun (items_in n) → (items_in n).begun ≤ (items_in (replayed any_step n ds)).begun
grows [] n sound = omega arith
grows (d ∷ ds) n sound =
    let one = more_begun n d sound in
    let rest = grows ds (any_step n d).node (still_sound n d sound) in
    omega (arith, one, rest)

-- a node that is near an end of its counters stays as it is
frozen : (ds : List Do) (n : AnyNode) → has_counters n ≡ false → replayed any_step n ds ≡ n
frozen [] n near = refl
frozen (d ∷ ds) n near =
    let same : (any_step n d).node ≡ n = ap (λ (s : NodeStep AnyNode). s.node) (near_its_end n d near) in
    ap (λ m. replayed any_step m ds) same ∙ frozen ds n near

left_so : (items : Items) → items.begun < length items.works → items.begun < u32_end → next_item items ≡ Some (items.begun + 1)
left_so items below far = ap (λ t. cond t (Some (items.begun + 1)) None) both
  where
    both : is_left items ≡ true
    both = ap (λ t. t && nat_lt items.begun u32_end) (lt-ltb items.begun (length items.works) below) ∙ lt-ltb items.begun u32_end far

-- as many have begun of a node as happened to it, where each time one was left, and its counters are far from their ends
pub begun_all : (ds : List Do) (n : AnyNode) → OpenHasBegun (items_in n) → has_counters (replayed any_step n ds) ≡ true
    → (items_in (replayed any_step n ds)).begun < u32_end
    → ((j : ℕ) → slice_get ds j ≡ Some Begin → (items_in n).begun + begins (take j ds) < length (items_in n).works)
    → (items_in (replayed any_step n ds)).begun ≡ (items_in n).begun + begins ds
begun_all [] n sound room far left = (let none = nothing_begins in omega (arith, none))
begun_all (d ∷ ds) n sound room far left = by (λ sound_ left_. begun_all ds (any_step n d).node sound_ room far left_) (has_counters n) refl
  where
    m : AnyNode
    m = (any_step n d).node

    works : (items_in m).works ≡ (items_in n).works
    works = (each_keeps n d sound).ledger.works

    -- so it is of what happens behind this
    Later : Type 0
    Later =
        OpenHasBegun (items_in m) → ((j : ℕ) → slice_get ds j ≡ Some Begin → (items_in m).begun + begins (take j ds) < length (items_in m).works)
        → (items_in (replayed any_step m ds)).begun ≡ (items_in m).begun + begins ds

    -- one more, or none
    onward : Later → (k : ℕ) → cond (is_begin d) 1 0 ≡ k → (items_in m).begun ≡ (items_in n).begun + k
        → (items_in (replayed any_step m ds)).begun ≡ (items_in n).begun + begins (d ∷ ds)
    onward later k is more =
        let rest : (items_in (replayed any_step m ds)).begun ≡ (items_in m).begun + begins ds = later (still_sound n d sound)
        (λ j at.
        let low = left (suc j) at in
        let count : begins (d ∷ take j ds) ≡ k + begins (take j ds) = count_more d (take j ds) ∙ ap (λ i. i + begins (take j ds)) is in
        let size = ap (λ (ws : List Work). length ws) works in
        omega (arith, low, count, more, size)) in
        let count : begins (d ∷ ds) ≡ k + begins ds = count_more d ds ∙ ap (λ i. i + begins ds) is in
        omega (arith, rest, more, count)

    stays : (d ≡ Begin → ⊥) → (items_in m).begun ≡ (items_in n).begun + 0
    stays apart = of (each_keeps n d sound).ledger.begun
      where
        of : ((items_in m).begun ≡ (items_in n).begun) ⊎ ((d ≡ Begin) × (next_item (items_in n) ≡ Some (items_in m).begun)) → (items_in m).begun ≡ (items_in n).begun + 0
        of (inl same) = omega (arith, same)
        of (inr more) = absurd (apart more.0)

    begins_one : has_counters n ≡ true → d ≡ Begin → (items_in m).begun ≡ (items_in n).begun + 1
    begins_one room_ is =
        let low = left 0 (ap Some is) in
        let none = nothing_begins in
        let up = grows (d ∷ ds) n sound in
        let far_ : (items_in n).begun < u32_end = omega (arith, up, far) in
        subst (λ e. (items_in (any_step n e).node).begun ≡ (items_in n).begun + 1) (sym is)
        (begins_counted n ((items_in n).begun + 1) room_ (left_so (items_in n) (omega (arith, low, none)) far_))

    what : Later → has_counters n ≡ true → (e : Do) → d ≡ e → (items_in (replayed any_step m ds)).begun ≡ (items_in n).begun + begins (d ∷ ds)
    what later room_ Begin is = onward later 1 (ap (λ f. cond (is_begin f) 1 0) is) (begins_one room_ is)
    what later room_ (Deliver packet) is = onward later 0 (ap (λ f. cond (is_begin f) 1 0) is) (stays (λ other. (let clash : Deliver packet ≡ Begin = sym is ∙ other in cc)))
    what later room_ Tick is = onward later 0 (ap (λ f. cond (is_begin f) 1 0) is) (stays (λ other. (let clash : Tick ≡ Begin = sym is ∙ other in cc)))

    by : Later → (t : Bool) → has_counters n ≡ t → (items_in (replayed any_step m ds)).begun ≡ (items_in n).begun + begins (d ∷ ds)
    by later true is = what later is d refl
    by later false is = contrary (sym is ∙ (ap has_counters (sym (frozen (d ∷ ds) n is)) ∙ room))
