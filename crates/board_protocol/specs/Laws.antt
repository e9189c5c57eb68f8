-- What is true of the boards at every moment: each law is a property of one world.
use Rattle.std.specs.Prelude.{◌≡◌, ℕ, ◌<◌, ◌≤◌, List, length, take, ◌⊎◌}
use Rattle.board_protocol.specs.Basics.{Prefix}
use Rattle.board_protocol.specs.World.{World, start, Leads}
use Rattle.board_protocol.specs.Step.{Steps}

module _ {C : Type 0} where
  -- The list is chosen: two boards have accepted it with one ballot, as a prefix, by now.
  pub record Chosen (w : World C) (xs : List C) : Type 0 where
    pub ballot : ℕ
    pub one : ℕ
    pub other : ℕ
    pub one_board : one < 3
    pub other_board : other < 3
    pub apart : one ≡ other → ⊥
    pub one_accepted : length xs ≤ w.accepted one ballot
    pub other_accepted : length xs ≤ w.accepted other ballot
    pub listed : Prefix xs (w.book ballot)

  -- Of two chosen lists one is a prefix of the other.
  abbrev pub Agree : World C → Type 0
  Agree w = (xs ys : List C) → Chosen w xs → Chosen w ys → Prefix xs ys ⊎ Prefix ys xs

  -- What a leader holds for done is a part of its list, and chosen.
  pub record DoneChosen (w : World C) (k : ℕ) : Type 0 where
    pub within : (w.board k).done ≤ length (w.board k).list
    pub chosen : Chosen w (take (w.board k).done (w.board k).list)

  -- What a board has applied is chosen, all that it ever held for done is applied, and each chosen list that is as long begins with what it applied.
  pub record AppliedChosen (w : World C) (k : ℕ) : Type 0 where
    pub chosen : Chosen w (w.board k).applied
    pub done : (w.board k).done ≤ length (w.board k).applied
    pub longest : (ys : List C) → Chosen w ys → length (w.board k).applied ≤ length ys → Prefix (w.board k).applied ys

  -- A ballot has one leader, its owner.
  pub record OneLeader (w : World C) : Type 0 where
    pub owner : (k : ℕ) → Leads w k → w.owner (w.board k).ballot ≡ k
    pub one : (j k : ℕ) → Leads w j → Leads w k → (w.board j).ballot ≡ (w.board k).ballot → j ≡ k

  -- What the book and the accepted lengths say: a board's list is a prefix of its ballot's list, as long as it accepted; a leader's is that list.
  pub record Booked (w : World C) (k : ℕ) : Type 0 where
    pub listed : Prefix (w.board k).list (w.book (w.board k).ballot)
    pub accepted : w.accepted k (w.board k).ballot ≡ length (w.board k).list
    pub leader : Leads w k → w.book (w.board k).ballot ≡ (w.board k).list

  -- The board had the list, as a prefix of its own, with the ballot, at a moment of the run that leads here.
  pub record Had (owner : ℕ → ℕ) (v : World C) (k b : ℕ) (xs : List C) : Type 0 where
    pub moment : World C
    pub before : Steps (start owner) moment
    pub after : Steps moment v
    pub ballot : (moment.board k).ballot ≡ b
    pub listed : Prefix xs (moment.board k).list

  -- Two boards had it, with one ballot.
  pub record HadTwice (owner : ℕ → ℕ) (v : World C) (xs : List C) : Type 0 where
    pub ballot : ℕ
    pub one : ℕ
    pub other : ℕ
    pub one_board : one < 3
    pub other_board : other < 3
    pub apart : one ≡ other → ⊥
    pub one_had : Had owner v one ballot xs
    pub other_had : Had owner v other ballot xs
