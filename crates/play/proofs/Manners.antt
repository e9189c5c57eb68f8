-- How a play of any kind goes by the schedule: how much may still happen for a line falls by one with each thing that does, and what all things that
-- happen keep, the play of the line keeps.
use Rattle.std.proofs.Common.{true≢false, ◌≡◌, refl, sym, ap, ◌∙◌, ℕ, zero, suc, true, false, List, [], ◌∷◌, fold}
use Rattle.script_text.specs.declared.script.Line.{Line}
use Rattle.world_base.specs.Cluster.{nodes_of}
use Rattle.world_base.specs.declared.schedule.Next.{Next}
use Rattle.world_base.specs.declared.schedule.Next.TheVariants.{Deliver, Round, Done}
use Rattle.world_base.specs.Schedule.{ScheduleState, is_done, left}
use Rattle.xfs_base.specs.declared.node.NodeId.{NodeId}
use Rattle.play.specs.Manner.{IsLawful, Manner, playing_come, goes_by, goes_on, playing_go, what_next, play_line, playing_round}
use Rattle.play.proofs.Left.{goes_falls}

-- what each step keeps, all keep
pub all_keep : {A B : Type 0} (step : B → A → B) (Good : B → Type 0) → ((b : B) (x : A) → Good b → Good (step b x)) → (b : B) (xs : List A) → Good b
    → Good (fold step b xs)
all_keep step Good keep b [] good = good
all_keep step Good keep b (x ∷ xs) good = all_keep step Good keep (step b x) xs (keep b x good)

module _ {P : Type 0} (m : Manner P) (law : IsLawful m) where
  abbrev left_of : P → ℕ
  left_of p = left (m.schedule p)

  round_keeps : (p : P) → left_of (playing_round m p) ≡ left_of p
  unfolding playing_round
  round_keeps p = all_keep m.ticks (λ q. left_of q ≡ left_of p) (λ q node same. law.tick_keeps q node ∙ same) p (nodes_of (m.cluster p)) refl

  comes_keeps : (p : P) (coming : Next) → left_of (playing_come m p coming) ≡ left_of p
  comes_keeps p (Deliver number) = law.delivery_keeps p number
  comes_keeps p Round = round_keeps p
  comes_keeps p Done = refl

  comes_done : (p : P) (coming : Next) → is_done coming ≡ true → playing_come m p coming ≡ p
  comes_done p (Deliver number) over = absurd (true≢false (sym over))
  comes_done p Round over = absurd (true≢false (sym over))
  comes_done p Done over = refl

  goes_by_falls : (p : P) → is_done (what_next m p).next ≡ false → suc (left_of (goes_by m p (what_next m p))) ≡ left_of p
  goes_by_falls p more =
      let going = what_next m p in
      ap suc (comes_keeps (m.with_schedule p going.state) going.next ∙ ap left (law.told p going.state)) ∙ (goes_falls (m.unanswered p) (m.schedule p)).0 more

  -- what the schedule says is next comes, which is not the end of the line
  module _ (p told new : P) (coming : Next) (state : told ≡ m.with_schedule p (what_next m p).state) (is : coming ≡ (what_next m p).next)
      (came : new ≡ playing_come m told coming) (more : is_done coming ≡ false) where
    new_is : new ≡ goes_by m p (what_next m p)
    new_is = came ∙ ap (λ q. playing_come m q coming) state ∙ ap (playing_come m (m.with_schedule p (what_next m p).state)) is

    goes_more : is_done (what_next m p).next ≡ false
    goes_more = ap is_done (sym is) ∙ more

    pub came_falls : suc (left_of new) ≡ left_of p
    came_falls = ap (λ q. suc (left_of q)) new_is ∙ goes_by_falls p goes_more

    -- then the rest of it is that of before, of which one thing less is left
    pub came_rest : goes_on m (left_of new) new ≡ goes_on m (left_of p) p
    unfolding goes_on
    came_rest = ap (λ q. goes_on m (left_of q) q) new_is ∙ ap (λ count. goes_on m count p) (goes_by_falls p goes_more)

  -- nothing more happens to a line that is done
  stays : (p : P) → is_done (what_next m p).next ≡ true → m.with_schedule p (what_next m p).state ≡ p
  stays p over = ap (m.with_schedule p) ((goes_falls (m.unanswered p) (m.schedule p)).1 over) ∙ law.as_it_was p

  pub goes_on_done : (p : P) → is_done (what_next m p).next ≡ true → (count : ℕ) → goes_on m count p ≡ p
  unfolding goes_on
  goes_on_done p over zero = refl
  goes_on_done p over (suc count) =
      let going = what_next m p in
      ap (goes_on m count) (comes_done (m.with_schedule p going.state) going.next over ∙ stays p over) ∙ goes_on_done p over count

  -- so the play of a line that is done is what stands when the schedule has said so
  pub done_is_all : (p told : P) (coming : Next) → told ≡ m.with_schedule p (what_next m p).state → coming ≡ (what_next m p).next → is_done coming ≡ true
      → told ≡ goes_on m (left_of p) p
  done_is_all p told coming state is over =
      let done = ap is_done (sym is) ∙ over in
      state ∙ stays p done ∙ sym (goes_on_done p done (left_of p))

-- ---- what all that happens keeps

module _ {P : Type 0} (m : Manner P) (Good : P → Type 0) (told_good : (p : P) (s : ScheduleState) → Good p → Good (m.with_schedule p s))
    (delivery_good : (p : P) (number : ℕ) → Good p → Good (m.delivered p number)) (tick_good : (p : P) (node : NodeId) → Good p → Good (m.ticks p node)) where
  comes_good : (p : P) (coming : Next) → Good p → Good (playing_come m p coming)
  unfolding playing_round
  comes_good p (Deliver number) good = delivery_good p number good
  comes_good p Round good = all_keep m.ticks Good tick_good p (nodes_of (m.cluster p)) good
  comes_good p Done good = good

  goes_on_good : (count : ℕ) (p : P) → Good p → Good (goes_on m count p)
  unfolding goes_on
  goes_on_good zero p good = good
  goes_on_good (suc count) p good =
      let going = what_next m p in
      goes_on_good count (goes_by m p going) (comes_good (m.with_schedule p going.state) going.next (told_good p going.state good))

  -- the play of a line keeps what its opening does
  pub line_good : (p : P) (line : Line) → Good (m.opens p line.work) → Good (play_line m p line)
  unfolding play_line playing_go
  line_good p line good = let q = m.opens p line.work in goes_on_good (left (m.schedule q)) q good
