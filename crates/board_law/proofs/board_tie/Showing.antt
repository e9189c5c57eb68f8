-- A board of the protocol shows the machine's, too, where one part of both becomes another.
use Rattle.std.proofs.Common.{◌≡◌, ℕ, ◌++◌, Bool, List, [], ◌∷◌, ap, refl}
use Rattle.board_protocol.specs.Board as protocol
use Rattle.board.specs.declared.command.Command.{Command}
use Rattle.board.specs.State.{BoardState}
use Rattle.board_law.specs.board_tie.Shown.{Shows, flag}

module _ (place : ℕ) (x : protocol.Board Command) (s : BoardState) (shows : Shows place x s) where
  -- Whether both are up, their lists and what waits may be others at once. The machine also keeps whether it heard of a leader
  -- since its last beat, which the protocol doesn't.
  others_show : (n : ℕ) (up heard : Bool) (theirs list came waiting : List Command) → n ≡ flag up → theirs ≡ list → came ≡ waiting
      → Shows place (record x { up = n; list = theirs; waiting = came }) (record s { up = up; list = list; waiting = waiting; heard = heard })
  others_show n up heard theirs list came waiting same_up same_list same_waiting = record {
    number = shows.number;
    up = same_up;
    promised = shows.promised;
    ballot = shows.ballot;
    list = same_list;
    waiting = same_waiting;
    leads = shows.leads;
    first = shows.first;
    second = shows.second;
    third = shows.third;
    done = shows.done;
    applied = shows.applied;
  }

  -- the list of both grows by a command
  pub grown_shows : (c : Command) → Shows place (record x { list = x.list ++ (c ∷ []) }) (record s { list = s.list ++ (c ∷ []) })
  grown_shows c =
      others_show x.up s.up s.heard (x.list ++ (c ∷ [])) (s.list ++ (c ∷ [])) x.waiting s.waiting shows.up (ap (λ list. list ++ (c ∷ [])) shows.list)
      shows.waiting

  -- one more command waits at both
  pub offered_shows : (c : Command) → Shows place (record x { waiting = x.waiting ++ (c ∷ []) }) (record s { waiting = s.waiting ++ (c ∷ []) })
  offered_shows c =
      others_show x.up s.up s.heard x.list s.list (x.waiting ++ (c ∷ [])) (s.waiting ++ (c ∷ [])) shows.up shows.list
      (ap (λ waiting. waiting ++ (c ∷ [])) shows.waiting)

  -- both are up or not
  pub up_shows : (up heard : Bool) → Shows place (record x { up = flag up }) (record s { up = up; heard = heard })
  up_shows up heard = others_show (flag up) up heard x.list s.list x.waiting s.waiting refl shows.list shows.waiting

  pub heard_or_not : (heard : Bool) → Shows place x (record s { heard = heard })
  heard_or_not heard = others_show x.up s.up heard x.list s.list x.waiting s.waiting shows.up shows.list shows.waiting
