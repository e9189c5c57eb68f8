-- A list that two boards had with one ballot is chosen: one of them isn't the ballot's owner, and showed it.
use Rattle.std.proofs.Common.{◌≡◌, ◌==◌, ℕ, ◌-◌, true, false, Bool, List, [], ◌∷◌, ◌++◌, nat_lt, refl, sym, ap, ◌∙◌, subst, arith}
use Rattle.std.specs.Prelude.{Some, slice_get}
use Rattle.std.proofs.lemmas.Bool.Decides.{nat_tests, Decides-eqb}
use Rattle.script_text.specs.declared.script.Script.{Script}
use Rattle.board_protocol.specs.Basics.{Prefix}
use Rattle.board_protocol.proofs.Invariant.{always}
use Rattle.board_protocol.proofs.Laws.{one_leader}
use Rattle.board_protocol.proofs.Prefixes.{through}
use Rattle.board.specs.Ballots.{owner_of}
use Rattle.board.specs.State.{BoardState, chosen_part}
use Rattle.board.specs.declared.command.Command.{Command}
use Rattle.board_law.specs.board_tie.Shown.{owner}
use Rattle.board_law.proofs.board_tie.Growing.{is_leader}
use Rattle.board_world.specs.declared.board_event.BoardEvent.{BoardEvent}
use Rattle.board_world.specs.BoardRuns.{MailCame}
use Rattle.board_world.specs.NextBoards.{BoardsState, boards_after, boards_start, boards_take}
use Rattle.board_law.specs.OneList.{HadIt}
use Rattle.board_law.proofs.Events.{chosen_grows, run_tied, there}
use Rattle.board_law.proofs.Showing.{another}
use Rattle.board_law.proofs.Tied.{AreTied, Seated}

-- a board that follows another shows its whole list
follows_shows : (s : BoardState) → s.leads ≡ false → (owner_of s.ballot == s.number) ≡ false → chosen_part s ≡ s.list
follows_shows s leads other = rw (leads, other) refl

module _ (script : Script) (w : BoardsState) (tied : AreTied script w) (number ballot : ℕ) (commands : List Command) (had : HadIt w number ballot commands)
    (other : (owner_of ballot == number) ≡ false) where
  at : (nat_lt 0 number ≡ true) × (slice_get w.nodes (number - 1) ≡ Some had.node)
  at = there w number had.node had.there

  seat : Seated script w.items w.chosen tied.0 (number - 1) had.node
  seat = tied.1.seated (number - 1) had.node at.1

  number_is : had.node.board.number ≡ number
  number_is = let some = at.0 in let e = seat.shows.number in grind (arith, nat_tests, some, e)

  another_owns : (owner_of had.node.board.ballot == had.node.board.number) ≡ false
  another_owns = ap (λ b. owner_of b == had.node.board.number) had.ballot ∙ ap (λ n. owner_of ballot == n) number_is ∙ other

  -- so it doesn't lead
  leads_not : (t : Bool) → had.node.board.leads ≡ t → had.node.board.leads ≡ false
  leads_not false e = e
  leads_not true e =
      let own = (one_leader tied.0 (always owner tied.0 tied.1.reached)).owner (number - 1) (is_leader tied.0 (number - 1) had.node.board seat.shows e) in
      absurd (another tied.0 tied.1.reached (number - 1) seat.below had.node.board seat.shows another_owns (sym own))

  pub had_shown : Prefix commands w.chosen
  had_shown =
      through commands had.node.board.list w.chosen had.listed
      (subst (λ list. Prefix list w.chosen) (follows_shows had.node.board (leads_not had.node.board.leads refl) another_owns) seat.shown)

-- in the front of the events, too, each packet that came was sent
came_first : (w : BoardsState) (events more : List BoardEvent) → MailCame w (events ++ more) → MailCame w events
came_first w [] more came = tt
came_first w (event ∷ events) more came = (came.0, came_first (boards_take w event).state events more came.1)

module _ (script : Script) (events more : List BoardEvent) (came : MailCame (boards_start script) (events ++ more)) (one other ballot : ℕ) (apart : one ≡ other → ⊥)
    (commands : List Command) (had : HadIt (boards_after script events).state one ballot commands)
    (had_too : HadIt (boards_after script (events ++ more)).state other ballot commands) where
  by_owner : (t : Bool) → (owner_of ballot == one) ≡ t → Prefix commands (boards_after script (events ++ more)).state.chosen
  by_owner false e =
      let old = (boards_after script events).state in
      through commands old.chosen (boards_after script (events ++ more)).state.chosen
      (had_shown script old (run_tied script events (came_first (boards_start script) events more came)) one ballot commands had e) (chosen_grows script events more)
  by_owner true e =
      let own : owner_of ballot ≡ one = (Decides-eqb (owner_of ballot) one).0 e in
      let differs : (owner_of ballot == other) ≡ false = grind (arith, nat_tests, own, apart) in
      had_shown script (boards_after script (events ++ more)).state (run_tied script (events ++ more) came) other ballot commands had_too differs

  pub two_had : Prefix commands (boards_after script (events ++ more)).state.chosen
  two_had = by_owner (owner_of ballot == one) refl
