-- What can happen to the boards. Each step names its guard (a record of the file that its effect stands in) and its effect.
-- Whatever is lost, repeated or reordered: a step may take any packet that was ever sent, and no step has to come.
use Rattle.std.specs.Prelude.{ℕ, List}
use Rattle.board_protocol.specs.Basics.{Without}
use Rattle.board_protocol.specs.Packets.{Prepare, Promised, Install, Append, Accepted}
use Rattle.board_protocol.specs.World.{World, Up}
use Rattle.board_protocol.specs.Leading.{MayExtend, MayExtendWaiting, MayInstall, MayAppend, MayPrepare, MayLeadWithOwn, MayLeadWithTheirs, MayLeadAgain, MayHear, done_then, offers, extends, sends_install, sends_append, prepares, leads_with, leads_again, hears, stops, starts}
use Rattle.board_protocol.specs.Following.{MayPromise, MayAcceptInstall, MayAnswerInstall, MayAcceptAppend, MayAnswerAppend, promises, installs, installs_again, appends, appends_again}

module _ {C : Type 0} where
  pub data Step : World C → World C → Type 0 where
    -- A command is offered to a board.
    Offers : {w : World C} (k : ℕ) (c : C) → Up w k → Step w (offers w k c)
    -- A leader appends a waiting command.
    Extends : {w : World C} (k : ℕ) (c : C) → MayExtendWaiting w k c → Step w (extends w k c)
    -- A leader appends a tick.
    Ticks : {w : World C} (k : ℕ) (c : C) → MayExtend w k → Step w (extends w k c)
    -- A leader sends its list again.
    SendsInstall : {w : World C} (k j : ℕ) → MayInstall w k j → Step w (sends_install w k)
    -- A leader sends a command again.
    SendsAppend : {w : World C} (k j n : ℕ) (c : C) → MayAppend w k j n c → Step w (sends_append w k n c)
    -- A board prepares a ballot.
    Prepares : {w : World C} (k b : ℕ) → MayPrepare w k b → Step w (prepares w k b)
    -- A board promises a ballot.
    Promises : {w : World C} (k : ℕ) (p : Prepare) → MayPromise w k p → Step w (promises w k p.ballot)
    -- A preparer leads with its own list.
    LeadsWithOwn : {w : World C} (k : ℕ) (p : Promised C) → MayLeadWithOwn w k p → Step w (leads_with w k p.ballot (w.board k).list)
    -- A preparer leads with the list of the answer.
    LeadsWithTheirs : {w : World C} (k : ℕ) (p : Promised C) → MayLeadWithTheirs w k p → Step w (leads_with w k p.ballot p.list)
    -- A board leads a ballot again.
    LeadsAgain : {w : World C} (k : ℕ) (p : Promised C) → MayLeadAgain w k p → Step w (leads_again w k)
    -- A board accepts the list of an Install.
    Installs : {w : World C} (k : ℕ) (p : Install C) → MayAcceptInstall w k p → Step w (installs w k p)
    -- A board answers an Install of the ballot that it has.
    InstallsAgain : {w : World C} (k : ℕ) (p : Install C) → MayAnswerInstall w k p → Step w (installs_again w k p)
    -- A board accepts the command of an Append.
    Appends : {w : World C} (k : ℕ) (p : Append C) → MayAcceptAppend w k p → Step w (appends w k p.command)
    -- A board answers an Append of a command that it has.
    AppendsAgain : {w : World C} (k : ℕ) (p : Append C) → MayAnswerAppend w k p → Step w (appends_again w k)
    -- A leader hears what another board accepted.
    Hears : {w : World C} (k : ℕ) (p : Accepted) (rest : List C) → MayHear w k p → Without (done_then (w.board k) p) (w.board k).waiting rest → Step w (hears w k p rest)
    -- A board is stopped.
    Stops : {w : World C} (k : ℕ) → Step w (stops w k)
    -- A board is started.
    Starts : {w : World C} (k : ℕ) → Step w (starts w k)

  -- Any list of steps, oldest first.
  pub data Steps : World C → World C → Type 0 where
    Done : {w : World C} → Steps w w
    More : {w v u : World C} → Steps w v → Step v u → Steps w u
