-- What a board does for the leaders of others.
use Rattle.std.specs.Prelude.{◌≡◌, ℕ, ◌<◌, ◌≤◌, ◌==◌, if◌then◌else◌, [], ◌∷◌, ◌++◌, length}
use Rattle.board_protocol.specs.Basics.{put, In}
use Rattle.board_protocol.specs.Board.{Board}
use Rattle.board_protocol.specs.Packets.{Prepare, Install, Append}
use Rattle.board_protocol.specs.World.{World, Up}
use Rattle.board_protocol.specs.Leading.{accepts}

module _ {C : Type 0} where
  -- Its promise is of this ballot; where that is a rise it leads no longer.
  abbrev pub raised : Board C → ℕ → Board C
  raised x b = record x { promised = b; leads = if x.promised == b then x.leads else 0 }

  -- A board takes a Prepare of its promise or above.
  pub record MayPromise (w : World C) (k : ℕ) (p : Prepare) : Type 0 where
    pub sent : In p w.prepares
    pub up : Up w k
    pub least : (w.board k).promised ≤ p.ballot

  -- It promises the ballot, and sends what it accepted last.
  abbrev pub promises : World C → ℕ → ℕ → World C
  promises w k b =
      let x = w.board k in
      record w { board = put w.board k (raised x b); promises = record { from = k; ballot = b; last = x.ballot; list = x.list } ∷ w.promises }

  -- A board takes an Install of its promise or above.
  pub record MayTakeInstall (w : World C) (k : ℕ) (p : Install C) : Type 0 where
    pub sent : In p w.installs
    pub up : Up w k
    pub kept : (w.board k).promised ≤ p.ballot

  -- It is above the board's ballot.
  pub record MayAcceptInstall (w : World C) (k : ℕ) (p : Install C) : Type 0 where
    pub take : MayTakeInstall w k p
    pub above : (w.board k).ballot < p.ballot

  -- It accepts the whole list, and says so.
  abbrev pub installs : World C → ℕ → Install C → World C
  installs w k p =
      let x = raised (w.board k) p.ballot in
      record w {
        board = put w.board k (record x { ballot = p.ballot; list = p.list });
        accepted = accepts w k p.ballot (length p.list);
        accepts = record { from = k; ballot = p.ballot; length = length p.list } ∷ w.accepts;
      }

  -- It is of the board's ballot: the list stays, and the board says how much it has accepted.
  pub record MayAnswerInstall (w : World C) (k : ℕ) (p : Install C) : Type 0 where
    pub take : MayTakeInstall w k p
    pub same : (w.board k).ballot ≡ p.ballot

  abbrev pub installs_again : World C → ℕ → Install C → World C
  installs_again w k p =
      let x = w.board k in
      record w { board = put w.board k (raised x p.ballot); accepts = record { from = k; ballot = p.ballot; length = length x.list } ∷ w.accepts }

  -- A board takes an Append of the ballot that it promised and accepted.
  pub record MayTakeAppend (w : World C) (k : ℕ) (p : Append C) : Type 0 where
    pub sent : In p w.appends
    pub up : Up w k
    pub promised : (w.board k).promised ≡ p.ballot
    pub ballot : (w.board k).ballot ≡ p.ballot

  -- Its command follows the board's list: it is appended.
  pub record MayAcceptAppend (w : World C) (k : ℕ) (p : Append C) : Type 0 where
    pub take : MayTakeAppend w k p
    pub next : length (w.board k).list ≡ p.place

  abbrev pub appends : World C → ℕ → C → World C
  appends w k c =
      let x = w.board k in
      let list = x.list ++ (c ∷ []) in
      record w {
        board = put w.board k (record x { list = list });
        accepted = accepts w k x.ballot (length list);
        accepts = record { from = k; ballot = x.ballot; length = length list } ∷ w.accepts;
      }

  -- The board has that command already: it says how much it has accepted.
  pub record MayAnswerAppend (w : World C) (k : ℕ) (p : Append C) : Type 0 where
    pub take : MayTakeAppend w k p
    pub had : p.place < length (w.board k).list

  abbrev pub appends_again : World C → ℕ → World C
  appends_again w k = let x = w.board k in record w { accepts = record { from = k; ballot = x.ballot; length = length x.list } ∷ w.accepts }
