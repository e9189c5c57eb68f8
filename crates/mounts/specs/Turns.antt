-- What an application does in a turn of its own, and what a client hears in one.
use Rattle.std.specs.Prelude.{◌≡◌, ◌⊎◌, ℕ, ◌+◌, nat_le, Bool, true, false, ◌||◌, List, [], ◌∷◌, ◌++◌, length, slice_get, Option, Some, None}
use Rattle.rtrb.specs.Ring.{received}
use Rattle.world_base.specs.declared.due.Due.{Due}
use Rattle.mounts.specs.declared.port.Port.{Port}
use Rattle.mounts.specs.declared.reply.Reply.{Reply}

abbrev pub may_call_it : Option Due → ℕ → ℕ → Bool
may_call_it None calls replies = false
may_call_it (Some due) calls replies = due.free || nat_le calls replies

-- whether an application with so many calls and replies may call its next item: there is one, and all its calls were replied, or it is a crash
abbrev pub may_call : List Due → ℕ → ℕ → Bool
may_call dues calls replies = may_call_it (slice_get dues calls) calls replies

-- one reply more was taken, or none
abbrev pub Takes : Bool → List Reply → List Reply → Type 0
Takes false old new = new ≡ old
Takes true old new = (reply : Reply) × (new ≡ old ++ reply ∷ [])

-- the next item was called, or none
abbrev pub application_call : Bool → List ℕ → List ℕ
application_call false calls = calls
application_call true calls = calls ++ (length calls + 1) ∷ []

-- An application goes on: it takes a reply, or none, and calls its next item just where it may then. It says whether it did either.
pub record GoesOn (dues : List Due) (moved : Bool) (calls new_calls : List ℕ) (replies new_replies : List Reply) : Type 0 where
  pub took : Bool
  pub taken : Takes took replies new_replies
  pub called : new_calls ≡ application_call (may_call dues (length calls) (length new_replies)) calls
  pub either : moved ≡ (took || may_call dues (length calls) (length new_replies))

-- a client that has begun so many items hears no call, or one where it has begun all that were called
abbrev pub Hears : ℕ → Port → Port → Type 0
Hears begun old new =
    (received new.calls ≡ received old.calls) ⊎ (begun ≡ length (received old.calls)) × ((item : ℕ) × (received new.calls ≡ received old.calls ++ item ∷ []))
