-- What a call answers beside its run, where there is one: what happened to nodes and boards, the disks, or what applications called and were replied.
use Rattle.std.specs.Prelude.{◌≡◌, ℕ, List, Option, Some, None}
use Rattle.board_world.specs.declared.board_event.BoardEvent.{BoardEvent}
use Rattle.disk_shelf.specs.MemDisk.{MemState}
use Rattle.mounts.specs.declared.reply.Reply.{Reply}
use Rattle.world_base.specs.declared.estate.Estate.{Estate}
use Rattle.top_call.specs.declared.outcome.Outcome.{Outcome}
use Rattle.top_call.specs.Mounts.{NoReplies}

module _ {N : Type 0} where
  -- beside its status and its run an outcome has nothing: no boards, no disks, and no calls and replies
  abbrev pub IsPlain : Outcome N → Type 0
  IsPlain o = (o.boards ≡ None) × (o.disks ≡ None) × NoReplies o.calls o.replies

  abbrev pub boards_where : Option (Estate N) → List BoardEvent → Option (List BoardEvent)
  boards_where None events = None
  boards_where (Some e) events = Some events

  abbrev pub with_boards : Outcome N → List BoardEvent → Outcome N
  with_boards o events = record { status = o.status; estate = o.estate; boards = boards_where o.estate events; disks = o.disks; calls = o.calls; replies = o.replies }

  abbrev pub disks_where : Option (Estate N) → List MemState → Option (List MemState)
  disks_where None disks = None
  disks_where (Some e) disks = Some disks

  abbrev pub with_disks : Outcome N → List MemState → Outcome N
  with_disks o disks = record { status = o.status; estate = o.estate; boards = o.boards; disks = disks_where o.estate disks; calls = o.calls; replies = o.replies }

  abbrev pub lists_where : {X : Type 0} → Option (Estate N) → List X → Option (List X)
  lists_where None all = None
  lists_where (Some e) all = Some all

  abbrev pub with_replies : Outcome N → List (List ℕ) → List (List Reply) → Outcome N
  with_replies o calls replies = record {
    status = o.status;
    estate = o.estate;
    boards = o.boards;
    disks = o.disks;
    calls = lists_where o.estate calls;
    replies = lists_where o.estate replies;
  }
