-- What a board shows to be chosen is chosen, and the one list with what it shows beyond is, too.
use Rattle.std.proofs.Common.{◌≡◌, ◌==◌, ℕ, ◌-◌, ◌<◌, true, false, List, [], ◌++◌, length, take, drop, refl, sym, ap, ◌∙◌, subst, if◌then◌else◌, append-nil, arith, inl, inr}
use Rattle.std.proofs.lemmas.Bool.Decides.{nat_tests}
use Rattle.std.proofs.lemmas.List.{drop_all}
use Rattle.xfs_base.proofs.Booleans.{by_test}
use Rattle.board_protocol.specs.Basics.{Prefix}
use Rattle.board_protocol.specs.Laws.{Chosen}
use Rattle.board_protocol.specs.Step.{Steps}
use Rattle.board_protocol.specs.World.{World, start}
use Rattle.board_protocol.proofs.Invariant.{always}
use Rattle.board_protocol.proofs.Laws.{agree, done}
use Rattle.board_protocol.proofs.Owning.{followed}
use Rattle.board_protocol.proofs.Prefixes.{completed, no_longer, same}
use Rattle.board.specs.declared.command.Command.{Command}
use Rattle.board.specs.Ballots.{owner_of}
use Rattle.board.specs.State.{BoardState, chosen_part}
use Rattle.board_law.specs.board_tie.Shown.{Shows, owner}
use Rattle.board_law.proofs.board_tie.Beats.{owned}
use Rattle.board_law.proofs.board_tie.Growing.{is_leader}

-- the empty list always is
pub none_chosen : (w : World Command) → Chosen w []
none_chosen w = record {
  ballot = 0;
  one = 0;
  other = 1;
  one_board = omega arith;
  other_board = omega arith;
  apart = λ e. absurd (omega arith);
  one_accepted = grind arith;
  other_accepted = grind arith;
  listed = refl;
}

-- a ballot is of one of three
owner_below : (ballot : ℕ) → owner_of ballot - 1 < 3
owner_below ballot = omega arith

module _ (v : World Command) (reached : Steps (start owner) v) (place : ℕ) (below : place < 3) (s : BoardState) (shows : Shows place (v.board place) s) where
  leader_shows : s.leads ≡ true → Chosen v (take s.done s.list)
  leader_shows leads =
      let d = done v (always owner v reached) place below (is_leader v place s shows leads) in
      subst (λ n. Chosen v (take n s.list)) shows.done (subst (λ list. Chosen v (take (v.board place).done list)) shows.list d.chosen)

  -- The ballot's owner is another one.
  pub owner_is : v.owner (v.board place).ballot ≡ owner_of s.ballot - 1
  owner_is = owned v reached (v.board place).ballot ∙ ap (λ b. owner_of b - 1) shows.ballot

  pub another : (owner_of s.ballot == s.number) ≡ false → place ≡ v.owner (v.board place).ballot → ⊥
  another other own =
      let at : place ≡ owner_of s.ballot - 1 = own ∙ owner_is in
      let number = shows.number in
      grind (arith, nat_tests, at, number, other)

  follower_shows : (owner_of s.ballot == s.number) ≡ false → Chosen v s.list
  follower_shows other =
      subst (Chosen v) shows.list
      (followed owner v reached place below (subst (λ n. n < 3) (sym owner_is) (owner_below s.ballot)) (another other))

  pub shows_chosen : Chosen v (chosen_part s)
  shows_chosen =
      by_test (Chosen v) s.leads (take s.done s.list) (if owner_of s.ballot == s.number then [] else s.list) leader_shows
      (λ e. by_test (Chosen v) (owner_of s.ballot == s.number) [] s.list (λ f. none_chosen v) follower_shows)

-- A list that is chosen, and of which both are the front.
pub record Holds (v : World Command) (one other now : List Command) : Type 0 where
  pub chosen : Chosen v now
  pub old : Prefix one now
  pub shown : Prefix other now

pub holds_both : (v : World Command) → Steps (start owner) v → (old shown : List Command) → Chosen v old → Chosen v shown
    → Holds v old shown (old ++ drop (length old) shown)
holds_both v reached old shown old_chosen shown_chosen =
    elim (agree v (always owner v reached) old shown old_chosen shown_chosen) [
      | inl front ↦
          subst (Holds v old shown) (sym (completed old shown front)) (record { chosen = shown_chosen; old = front; shown = same shown })
      | inr front ↦
          let all : old ++ drop (length old) shown ≡ old =
          ap (λ more. old ++ more) (drop_all (length old) shown (no_longer shown old front)) ∙ append-nil old in
          subst (Holds v old shown) (sym all) (record { chosen = old_chosen; old = same old; shown = front })
    ]
