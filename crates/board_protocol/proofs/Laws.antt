-- Each law is read off the invariant.
use Rattle.std.proofs.Common.{ℕ, ◌≡◌, ◌<◌, ◌≤◌, List, sym, subst, length, take, arith, le_trans, le_of_eq}
use Rattle.board_protocol.specs.Basics.{Prefix}
use Rattle.board_protocol.specs.World.{World, start}
use Rattle.board_protocol.specs.Growth.{Grows}
use Rattle.board_protocol.specs.Laws.{Chosen, Agree, DoneChosen, AppliedChosen, OneLeader, Booked}
use Rattle.board_protocol.specs.Step.{Steps}
use Rattle.board_protocol.specs.World.{Leads}
use Rattle.board_protocol.proofs.Prefixes.{through, no_longer}
use Rattle.board_protocol.proofs.Agreeing as agreeing
use Rattle.board_protocol.proofs.Heading.{done_chosen, within}
use Rattle.board_protocol.proofs.Invariant.{Invariant, always, onward}

module _ {C : Type 0} where
  pub agree : (w : World C) → Invariant w → Agree w
  agree w i = agreeing.agree w i.standing i.electing

  pub done : (w : World C) → Invariant w → (k : ℕ) → k < 3 → Leads w k → DoneChosen w k
  done w i k board leads =
      let h = i.heading k in
      let x = w.board k in
      let own = (i.standing.stands k).leading_own leads in
      record {
        within = subst (λ n. n ≤ length x.list) (sym (h.done leads)) (within w k x.known i.standing own (h.known leads));
        chosen = subst (λ n. Chosen w (take n x.list)) (sym (h.done leads)) (done_chosen w k x.known board i.standing own (h.known leads) (h.itself leads));
      }

  pub applied : (w : World C) → Invariant w → (k : ℕ) → k < 3 → AppliedChosen w k
  applied w i k board =
      let h = i.heading k in
      record { chosen = h.applied board; done = h.covered; longest = λ ys y l. agreeing.ordered w i.standing i.electing (w.board k).applied ys (h.applied board) y l }

  pub one_leader : (w : World C) → Invariant w → OneLeader w
  one_leader w i =
      let own = λ (k : ℕ) (l : Leads w k). (i.standing.stands k).leading_own l in
      record { owner = own; one = λ j k l m e. grind (arith, own j l, own k m, e) }

  pub booked : (w : World C) → Invariant w → (k : ℕ) → Booked w k
  booked w i k = let s = i.standing.stands k in record { listed = s.listed; accepted = s.now; leader = λ l. s.own (s.leading_own l) }

  pub grows : (owner : ℕ → ℕ) (w v : World C) → Steps (start owner) w → Steps w v → Grows w v
  grows owner w v reached steps = (onward w v steps (always owner w reached)).0

  pub chosen_stays : (owner : ℕ → ℕ) (w v : World C) → Steps (start owner) w → Steps w v → (xs : List C) → Chosen w xs → Chosen v xs
  chosen_stays owner w v reached steps xs x = agreeing.chosen_on w v xs (grows owner w v reached steps) (always owner w reached).standing x

  -- Two boards that had the list, as a prefix of theirs, with one ballot, each at a moment of its own.
  pub accepted_twice : (owner : ℕ → ℕ) (w u v : World C) → Steps (start owner) w → Steps w u → Steps u v
      → (i j : ℕ) → i < 3 → j < 3 → (i ≡ j → ⊥) → (w.board i).ballot ≡ (u.board j).ballot
      → (xs : List C) → Prefix xs (w.board i).list → Prefix xs (u.board j).list → Chosen v xs
  accepted_twice owner w u v first second third i j i3 j3 apart same xs p q =
      let early = always owner w first in
      let late = onward w u second early in
      let after = (onward u v third late.1).0 in
      let a = early.standing.stands i in
      let b = late.1.standing.stands j in
      let one : length xs ≤ w.accepted i (u.board j).ballot = subst (λ c. length xs ≤ w.accepted i c) same (le_trans (no_longer xs (w.board i).list p) (le_of_eq (sym a.now))) in
      let other : length xs ≤ u.accepted j (u.board j).ballot = le_trans (no_longer xs (u.board j).list q) (le_of_eq (sym b.now)) in
      record {
        ballot = (u.board j).ballot;
        one = i;
        other = j;
        one_board = i3;
        other_board = j3;
        apart = apart;
        one_accepted = le_trans one (le_trans (late.0.accepted i (u.board j).ballot) (after.accepted i (u.board j).ballot));
        other_accepted = le_trans other (after.accepted j (u.board j).ballot);
        listed = through xs (u.board j).list (v.book (u.board j).ballot) q (through (u.board j).list (u.book (u.board j).ballot) (v.book (u.board j).ballot) b.listed (after.book (u.board j).ballot b.led));
      }
