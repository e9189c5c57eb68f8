-- What a board does to lead, and as a leader.
use Rattle.std.specs.Prelude.{◌≡◌, ℕ, suc, ◌<◌, ◌≤◌, max, List, [], ◌∷◌, ◌++◌, length, take, drop, ◌⊎◌}
use Rattle.board_protocol.specs.Basics.{put, In, greatest}
use Rattle.board_protocol.specs.Board.{Board}
use Rattle.board_protocol.specs.Packets.{Promised, Accepted}
use Rattle.board_protocol.specs.World.{World, Up, Leads}

module _ {C : Type 0} where
  -- The board accepts this much of the ballot's list.
  abbrev pub accepts : World C → ℕ → ℕ → ℕ → ℕ → ℕ → ℕ
  accepts w k b n = put w.accepted k (put (w.accepted k) b n)

  -- A command is offered to a board that is up.
  abbrev pub offers : World C → ℕ → C → World C
  offers w k c = let x = w.board k in record w { board = put w.board k (record x { waiting = x.waiting ++ (c ∷ []) }) }

  -- A leader whose whole list is done appends a command: the first waiting one that isn't in its list (which one, no law asks), or a tick.
  pub record MayExtend (w : World C) (k : ℕ) : Type 0 where
    pub up : Up w k
    pub leads : Leads w k
    pub whole : (w.board k).done ≡ length (w.board k).list

  pub record MayExtendWaiting (w : World C) (k : ℕ) (c : C) : Type 0 where
    pub extend : MayExtend w k
    pub waiting : In c (w.board k).waiting
    pub new : In c (w.board k).list → ⊥

  abbrev pub extends : World C → ℕ → C → World C
  extends w k c =
      let x = w.board k in
      let list = x.list ++ (c ∷ []) in
      record w {
        board = put w.board k (record x { list = list });
        book = put w.book x.ballot list;
        accepted = accepts w k x.ballot (length list);
        appends = record { ballot = x.ballot; place = length x.list; command = c } ∷ w.appends;
      }

  -- A leader sends its whole list to a board whose length is none.
  pub record MayInstall (w : World C) (k j : ℕ) : Type 0 where
    pub up : Up w k
    pub leads : Leads w k
    pub none : (w.board k).known j ≡ 0

  abbrev pub sends_install : World C → ℕ → World C
  sends_install w k = let x = w.board k in record w { installs = record { ballot = x.ballot; list = x.list } ∷ w.installs }

  -- A leader sends the command after the known length, n, to a board that is behind.
  pub record MayAppend (w : World C) (k j n : ℕ) (c : C) : Type 0 where
    pub up : Up w k
    pub leads : Leads w k
    pub known : (w.board k).known j ≡ suc n
    pub behind : n < length (w.board k).list
    pub command : take (suc n) (w.board k).list ≡ take n (w.board k).list ++ (c ∷ [])

  abbrev pub sends_append : World C → ℕ → ℕ → C → World C
  sends_append w k n c = let x = w.board k in record w { appends = record { ballot = x.ballot; place = n; command = c } ∷ w.appends }

  -- Why a board would lead: a command waits that isn't in its list, or its list is longer than what it applied.
  pub data Wants (x : Board C) : Type 0 where
    Waits : (c : C) → In c x.waiting → (In c x.list → ⊥) → Wants x
    Lags : length x.applied < length x.list → Wants x

  -- A board that doesn't lead and would takes a ballot of its own above its promise: its least (no law asks that).
  pub record MayPrepare (w : World C) (k b : ℕ) : Type 0 where
    pub up : Up w k
    pub follows : (w.board k).leads ≡ 0
    pub reason : Wants (w.board k)
    pub own : w.owner b ≡ k
    pub higher : (w.board k).promised < b

  abbrev pub prepares : World C → ℕ → ℕ → World C
  prepares w k b = let x = w.board k in record w { board = put w.board k (record x { promised = b; leads = 0 }); prepares = record { ballot = b } ∷ w.prepares }

  -- A preparer has an answer beside its own, while its promise is still of that ballot and it doesn't lead.
  pub record MayLead (w : World C) (k : ℕ) (p : Promised C) : Type 0 where
    pub sent : In p w.promises
    pub up : Up w k
    pub follows : (w.board k).leads ≡ 0
    pub own : w.owner p.ballot ≡ k
    pub promised : (w.board k).promised ≡ p.ballot
    -- two boards: its own answer and another's
    pub board : k < 3
    pub other : p.from < 3
    pub apart : p.from ≡ k → ⊥

  -- Of its own list and the answer's, its own has the greater ballot and length.
  pub record MayLeadWithOwn (w : World C) (k : ℕ) (p : Promised C) : Type 0 where
    pub lead : MayLead w k p
    pub below : (w.board k).ballot < p.ballot
    pub least : (p.last < (w.board k).ballot) ⊎ ((p.last ≡ (w.board k).ballot) × (length p.list ≤ length (w.board k).list))

  -- The answer's has.
  pub record MayLeadWithTheirs (w : World C) (k : ℕ) (p : Promised C) : Type 0 where
    pub lead : MayLead w k p
    pub greater : ((w.board k).ballot < p.last) ⊎ (((w.board k).ballot ≡ p.last) × (length (w.board k).list < length p.list))

  -- Its own ballot is this one: it led it before it was stopped.
  pub record MayLeadAgain (w : World C) (k : ℕ) (p : Promised C) : Type 0 where
    pub lead : MayLead w k p
    pub same : (w.board k).ballot ≡ p.ballot

  -- It leads with that list, knows no length of others, and sends Install.
  abbrev pub leads_with : World C → ℕ → ℕ → List C → World C
  leads_with w k b list =
      let x = w.board k in
      record w {
        board = put w.board k (record x { ballot = b; list = list; leads = 1; known = λ j. 0; done = 0 });
        book = put w.book b list;
        led = put w.led b 1;
        base = put w.base b (length list);
        accepted = accepts w k b (length list);
        installs = record { ballot = b; list = list } ∷ w.installs;
      }

  abbrev pub leads_again : World C → ℕ → World C
  leads_again w k =
      let x = w.board k in
      record w {
        board = put w.board k (record x { leads = 1; known = λ j. 0; done = 0 });
        installs = record { ballot = x.ballot; list = x.list } ∷ w.installs;
      }

  -- The leader of a ballot hears what another board accepted.
  pub record MayHear (w : World C) (k : ℕ) (p : Accepted) : Type 0 where
    pub sent : In p w.accepts
    pub up : Up w k
    pub leads : Leads w k
    pub ballot : (w.board k).ballot ≡ p.ballot
    pub other : p.from < 3
    pub another : p.from ≡ k → ⊥

  -- It notes the greater length. Then the greatest length of another board is done; what it has not applied of that is applied, and what is done leaves
  -- waiting, so that `rest` stays.
  abbrev pub known_then : Board C → Accepted → ℕ → ℕ
  known_then x p = put x.known p.from (max (x.known p.from) (suc p.length))

  abbrev pub done_then : Board C → Accepted → List C
  done_then x p = take (greatest (known_then x p)) x.list

  abbrev pub hears : World C → ℕ → Accepted → List C → World C
  hears w k p rest =
      let x = w.board k in
      let known = known_then x p in
      record w {
        board = put w.board k (record x {
          known = known;
          done = greatest known;
          applied = x.applied ++ drop (length x.applied) (done_then x p);
          waiting = rest;
        });
      }

  -- A board is stopped: it leads no longer, and keeps the rest.
  abbrev pub stops : World C → ℕ → World C
  stops w k = let x = w.board k in record w { board = put w.board k (record x { up = 0; leads = 0 }) }

  -- A board is started.
  abbrev pub starts : World C → ℕ → World C
  starts w k = let x = w.board k in record w { board = put w.board k (record x { up = 1 }) }
