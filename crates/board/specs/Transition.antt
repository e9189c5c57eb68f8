-- What a board does on each input: one definition for each, named for it.
use Rattle.std.specs.Prelude.{refl, ℕ, ◌+◌, ◌-◌, Bool, true, false, not, ◌&&◌, ◌||◌, ◌==◌, nat_lt, nat_le, max, List, [], ◌∷◌, ◌++◌, Option, Some, None, is_some, if◌then◌else◌, map, length, take, drop, slice_get}
use Rattle.std.specs.List.{flat_map}
use Rattle.wire_msg.specs.declared.packet.Do.TheVariants.{Tick}
use Rattle.xfs_base.specs.Limits.{u32_end, counter_room}
use Rattle.xfs_base.specs.Steps.{Stepped, still, saying}
use Rattle.board.specs.declared.command.Command.{Command}
use Rattle.board.specs.declared.input.In.{In}
use Rattle.board.specs.declared.input.In.TheVariants.{Offer, Mail, Beat, Stop, Start}
use Rattle.board.specs.declared.output.Out.{Out}
use Rattle.board.specs.declared.output.Out.TheVariants.{Send, Apply}
use Rattle.board.specs.declared.packet.BoardBody.{BoardBody}
use Rattle.board.specs.declared.packet.BoardBody.TheVariants.{Prepare, Promised, Install, Append, Accepted}
use Rattle.board.specs.declared.packet.BoardPacket.{BoardPacket}
use Rattle.board.specs.Ballots.{owner_of, next_ballot}
use Rattle.board.specs.Lengths.{length_of, noted, greatest, all_known}
use Rattle.board.specs.State.{BoardState}
use Rattle.board.specs.Waiting.{first_outside, without}

-- a state, and what was given on the way to it
abbrev pub Done : Type 0
Done = Stepped BoardState Out

-- ---- packets

abbrev pub boards : List ℕ
boards = 1 ∷ 2 ∷ 3 ∷ []

abbrev pub send : BoardState → ℕ → BoardBody → Out
send s to body = Send (record { from = s.number; to = to; body = body })

abbrev pub send_other : BoardState → BoardBody → ℕ → List Out
send_other s body to = if to == s.number then [] else send s to body ∷ []

-- a packet goes to the other boards, in order of their numbers
abbrev pub send_others : BoardState → BoardBody → List Out
send_others s body = flat_map (send_other s body) boards

-- it says how much it has accepted
abbrev pub answer : BoardState → ℕ → Done
answer s to = record { state = s; outs = send s to (Accepted s.ballot (length s.list)) ∷ [] }

-- ---- a leader's list grows

-- a leader's whole list is done
abbrev pub is_whole : BoardState → Bool
is_whole s = s.leads && (s.done == length s.list)

-- A leader appends a command, and sends it.
unfoldable pub extend : BoardState → Command → Done
extend s command = record { state = record s { list = s.list ++ command ∷ [] }; outs = send_others s (Append s.ballot (length s.list + 1) command) }

abbrev pub extend_by : BoardState → Option Command → Done
extend_by s None = still s
extend_by s (Some command) = extend s command

-- A leader whose whole list is done appends the first waiting command that isn't in it.
unfoldable pub extend_waiting : BoardState → Done
extend_waiting s = if is_whole s then extend_by s (first_outside s.list s.waiting) else still s

-- ---- a command is offered

unfoldable pub on_offer : BoardState → Command → Done
on_offer s command = extend_waiting (record s { waiting = s.waiting ++ command ∷ [] })

-- ---- a beat

abbrev pub tick : Command
tick = record { what = Tick; item = 0; heard = refl }

-- the command after the known length goes to a board that is behind
abbrev pub send_next : BoardState → ℕ → ℕ → Option Command → List Out
send_next s to known None = []
send_next s to known (Some command) = send s to (Append s.ballot (known + 1) command) ∷ []

-- the whole list goes to a board that said nothing yet
abbrev pub send_lacking : BoardState → ℕ → Option ℕ → List Out
send_lacking s to None = send s to (Install s.ballot s.list) ∷ []
send_lacking s to (Some known) = send_next s to known (slice_get s.list known)

abbrev pub send_again : BoardState → ℕ → List Out
send_again s to = if to == s.number then [] else send_lacking s to (length_of s.known to)

abbrev pub extend_or_tick : BoardState → Option Command → Done
extend_or_tick s None = extend s tick
extend_or_tick s (Some command) = extend s command

-- Where a leader's whole list is done it appends what waits, and else a Tick.
unfoldable pub keep_going : BoardState → Done
keep_going s = if is_whole s then extend_or_tick s (first_outside s.list s.waiting) else still s

-- A leader sends the others what they lack.
unfoldable pub on_leader_beat : BoardState → Done
on_leader_beat s = saying (flat_map (send_again s) boards) (keep_going s)

-- Why a board would lead: a command waits that isn't in its list, or its list is longer than what it applied and no leader was heard of.
abbrev pub would_lead : BoardState → Bool
would_lead s = is_some (first_outside s.list s.waiting) || (nat_lt s.applied (length s.list) && not s.heard)

abbrev pub unheard : BoardState → BoardState
unheard s = record s { heard = false }

-- It takes its least ballot above its promise, and asks the others for theirs.
unfoldable pub prepare : BoardState → Done
prepare s =
    record { state = record s { promised = next_ballot s.number s.promised }; outs = send_others s (Prepare (next_ballot s.number s.promised)) }

unfoldable pub on_beat : BoardState → Done
on_beat s = if s.leads then on_leader_beat (unheard s) else (if would_lead s then prepare (unheard s) else still (unheard s))

-- ---- a board asks for a promise

-- The promise rises to this ballot; where that is a rise the board leads no longer.
abbrev pub board_raise : BoardState → ℕ → BoardState
board_raise s ballot = record s { promised = ballot; leads = s.leads && (s.promised == ballot) }

-- It promises the ballot, or says again that it did, with what it accepted last.
unfoldable pub on_prepare : BoardState → ℕ → ℕ → Done
on_prepare s from ballot =
    if nat_lt ballot s.promised then still s else record { state = board_raise s ballot; outs = send s from (Promised ballot s.ballot s.list) ∷ [] }

-- ---- a board has promised

-- It waits for an answer with this ballot, which is its own.
abbrev pub may_lead : BoardState → ℕ → Bool
may_lead s ballot = not s.leads && ((ballot == s.promised) && (owner_of ballot == s.number))

-- The answer's list is of a later ballot, or longer with the same.
abbrev pub is_better : BoardState → ℕ → List Command → Bool
is_better s last list = nat_lt s.ballot last || ((last == s.ballot) && nat_lt (length s.list) (length list))

abbrev pub leading : BoardState → ℕ → List Command → BoardState
leading s ballot list = record s { ballot = ballot; list = list; leads = true; known = all_known None; done = 0 }

-- It leads with a list, knows nothing of the others, and has them accept the list.
abbrev pub lead_with_own : BoardState → ℕ → List Command → Done
lead_with_own s ballot list = record { state = leading s ballot list; outs = send_others s (Install ballot list) }

-- It leads with its own list or the answer's, whichever is of the later ballot, or longer.
unfoldable pub lead : BoardState → ℕ → ℕ → List Command → Done
lead s ballot last list = if is_better s last list then lead_with_own s ballot list else lead_with_own s ballot s.list

unfoldable pub on_promised : BoardState → ℕ → ℕ → List Command → Done
on_promised s ballot last list = if may_lead s ballot then lead s ballot last list else still s

-- ---- a leader sends its list

-- A later ballot's list is accepted whole; of its own ballot the list stays.
unfoldable pub install : BoardState → ℕ → ℕ → List Command → Done
install s from ballot list =
    if nat_lt s.ballot ballot
    then answer (record s { ballot = ballot; list = list }) from
    else (if s.ballot == ballot then answer s from else still s)

unfoldable pub on_install : BoardState → ℕ → ℕ → List Command → Done
on_install s from ballot list = if nat_lt ballot s.promised then still s else install (board_raise s ballot) from ballot list

-- ---- a leader sends a command

-- The command that makes the list so long is appended; of one that came before, the board says how much it has.
unfoldable pub append : BoardState → ℕ → ℕ → Command → Done
append s from count command =
    if length s.list + 1 == count
    then answer (record s { list = s.list ++ command ∷ [] }) from
    else (if nat_lt (length s.list) count then still s else answer s from)

unfoldable pub on_append : BoardState → ℕ → ℕ → ℕ → Command → Done
on_append s from ballot count command = if (s.promised == ballot) && (s.ballot == ballot) then append s from count command else still s

-- ---- a board has accepted

-- What is done and was not applied is applied, and what is done leaves waiting.
abbrev pub board_settle : BoardState → BoardState
board_settle s = record s { applied = max s.applied (length (take s.done s.list)); waiting = without (take s.done s.list) s.waiting }

unfoldable pub apply_done : BoardState → Done
apply_done s = saying (map Apply (drop s.applied (take s.done s.list))) (extend_waiting (board_settle s))

-- The greatest length that another board has accepted is done.
abbrev pub heard_of : BoardState → ℕ → ℕ → BoardState
heard_of s from count = record s { known = noted s.known from count; done = greatest (noted s.known from count) }

unfoldable pub on_accepted : BoardState → ℕ → ℕ → ℕ → Done
on_accepted s from ballot count = if s.leads && (s.ballot == ballot) then apply_done (heard_of s from count) else still s

-- ---- all inputs

-- The counter is at least 65,536 below its end.
abbrev pub has_room : ℕ → Bool
has_room counter = nat_le counter (u32_end - counter_room)

-- So is the length of a list.
abbrev pub is_short : List Command → Bool
is_short list = nat_le (length list) (u32_end - counter_room)

-- So is each counter of the board.
abbrev pub has_all_room : BoardState → Bool
has_all_room s = has_room s.promised && (has_room (next_ballot s.number s.promised) && is_short s.list)

-- It takes an event only while it is up, and with that room.
abbrev pub is_ready : BoardState → Bool
is_ready s = s.up && has_all_room s

-- The packet is for this board, and of another.
abbrev pub is_for : BoardState → BoardPacket → Bool
is_for s packet = (packet.to == s.number) && (not (packet.from == s.number) && (nat_le 1 packet.from && nat_le packet.from 3))

-- A list that comes is so short too.
abbrev pub has_short : BoardBody → Bool
has_short (Prepare ballot) = true
has_short (Promised ballot last list) = is_short list
has_short (Install ballot list) = is_short list
has_short (Append ballot count command) = true
has_short (Accepted ballot count) = true

abbrev pub hears : BoardState → BoardState
hears s = record s { heard = true }

abbrev pub on_body : BoardState → ℕ → BoardBody → Done
on_body s from (Prepare ballot) = on_prepare s from ballot
on_body s from (Promised ballot last list) = on_promised s ballot last list
on_body s from (Install ballot list) = on_install (hears s) from ballot list
on_body s from (Append ballot count command) = on_append (hears s) from ballot count command
on_body s from (Accepted ballot count) = on_accepted s from ballot count

unfoldable pub on_mail : BoardState → BoardPacket → Done
on_mail s packet = if is_for s packet && has_short packet.body then on_body s packet.from packet.body else still s

abbrev pub stopped : BoardState → BoardState
stopped s = record s { up = false; leads = false }

abbrev pub restarted : BoardState → BoardState
restarted s = record s { up = true }

-- what a board does on an input
abbrev pub transition : BoardState → In → Done
transition s (Offer command) = if is_ready s then on_offer s command else still s
transition s (Mail packet) = if is_ready s then on_mail s packet else still s
transition s Beat = if is_ready s then on_beat s else still s
transition s Stop = still (stopped s)
transition s Start = still (restarted s)
