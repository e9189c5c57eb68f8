-- A board applies no more than it shows to be chosen, or had applied before.
use Rattle.std.proofs.Common.{◌≡◌, ◌==◌, ◌≤◌, ℕ, ◌+◌, true, ◌&&◌, max, List, [], ◌∷◌, ◌++◌, length, take, Option, Some, None, if◌then◌else◌, nat_lt, refl, arith, length-take, length-append}
use Rattle.xfs_base.proofs.Booleans.{by_test, and_first}
use Rattle.xfs_base.specs.Steps.{still}
use Rattle.board.specs.declared.command.Command.{Command}
use Rattle.board.specs.declared.input.In.{In}
use Rattle.board.specs.declared.input.In.TheVariants.{Offer, Mail, Beat, Stop, Start}
use Rattle.board.specs.declared.packet.BoardBody.{BoardBody}
use Rattle.board.specs.declared.packet.BoardBody.TheVariants.{Prepare, Promised, Install, Append, Accepted}
use Rattle.board.specs.State.{BoardState, chosen_part}
use Rattle.board.specs.Transition.{Done, answer, append, apply_done, extend, extend_by, extend_or_tick, extend_waiting, has_short, heard_of, hears, install, is_better, is_for, is_ready, is_whole, keep_going, lead, lead_with_own, may_lead, on_accepted, on_append, on_beat, on_body, on_install, on_leader_beat, on_mail, on_offer, on_prepare, on_promised, prepare, board_raise, send, board_settle, tick, transition, unheard, would_lead}
use Rattle.board.specs.Waiting.{first_outside}
use Rattle.board.specs.declared.packet.BoardPacket.{BoardPacket}

-- the machine made this of a state, and applied no more than that
abbrev pub Bounded : ℕ → Done → Type 0
Bounded applied made = made.state.applied ≤ max applied (length (chosen_part made.state))

-- nothing was applied
abbrev pub Quiet : ℕ → Done → Type 0
Quiet applied made = made.state.applied ≡ applied

quiet_bounded : (applied : ℕ) (made : Done) → Quiet applied made → Bounded applied made
quiet_bounded applied made quiet = grind (arith, quiet)

extend_quiet : (s : BoardState) (c : Command) → Quiet s.applied (extend s c)
unfolding extend
extend_quiet s c = refl

extend_by_quiet : (s : BoardState) (c : Option Command) → Quiet s.applied (extend_by s c)
extend_by_quiet s None = refl
extend_by_quiet s (Some c) = extend_quiet s c

extend_waiting_quiet : (s : BoardState) → Quiet s.applied (extend_waiting s)
unfolding extend_waiting
extend_waiting_quiet s =
    by_test (Quiet s.applied) (is_whole s) (extend_by s (first_outside s.list s.waiting)) (still s) (λ e. extend_by_quiet s (first_outside s.list s.waiting)) (λ e. refl)

or_tick_quiet : (s : BoardState) (c : Option Command) → Quiet s.applied (extend_or_tick s c)
or_tick_quiet s None = extend_quiet s tick
or_tick_quiet s (Some c) = extend_quiet s c

offer_quiet : (s : BoardState) (c : Command) → Quiet s.applied (on_offer s c)
unfolding on_offer
offer_quiet s c = extend_waiting_quiet (record s { waiting = s.waiting ++ c ∷ [] })

keep_going_quiet : (s : BoardState) → Quiet s.applied (keep_going s)
unfolding keep_going
keep_going_quiet s =
    by_test (Quiet s.applied) (is_whole s) (extend_or_tick s (first_outside s.list s.waiting)) (still s) (λ e. or_tick_quiet s (first_outside s.list s.waiting)) (λ e. refl)

leader_beat_quiet : (s : BoardState) → Quiet s.applied (on_leader_beat s)
unfolding on_leader_beat
leader_beat_quiet s = keep_going_quiet s

prepare_quiet : (s : BoardState) → Quiet s.applied (prepare s)
unfolding prepare
prepare_quiet s = refl

beat_quiet : (s : BoardState) → Quiet s.applied (on_beat s)
unfolding on_beat
beat_quiet s =
    by_test (Quiet s.applied) s.leads (on_leader_beat (unheard s)) (if would_lead s then prepare (unheard s) else still (unheard s))
    (λ e. leader_beat_quiet (unheard s))
    (λ e. by_test (Quiet s.applied) (would_lead s) (prepare (unheard s)) (still (unheard s)) (λ f. prepare_quiet (unheard s)) (λ f. refl))

prepare_comes_quiet : (s : BoardState) (from ballot : ℕ) → Quiet s.applied (on_prepare s from ballot)
unfolding on_prepare
prepare_comes_quiet s from ballot =
    by_test (Quiet s.applied) (nat_lt ballot s.promised) (still s)
    (record { state = board_raise s ballot; outs = send s from (Promised ballot s.ballot s.list) ∷ [] }) (λ e. refl) (λ e. refl)

lead_quiet : (s : BoardState) (ballot last : ℕ) (list : List Command) → Quiet s.applied (lead s ballot last list)
unfolding lead
lead_quiet s ballot last list =
    by_test (Quiet s.applied) (is_better s last list) (lead_with_own s ballot list) (lead_with_own s ballot s.list) (λ e. refl) (λ e. refl)

promised_quiet : (s : BoardState) (ballot last : ℕ) (list : List Command) → Quiet s.applied (on_promised s ballot last list)
unfolding on_promised
promised_quiet s ballot last list =
    by_test (Quiet s.applied) (may_lead s ballot) (lead s ballot last list) (still s) (λ e. lead_quiet s ballot last list) (λ e. refl)

installed_quiet : (s : BoardState) (from ballot : ℕ) (list : List Command) → Quiet s.applied (install s from ballot list)
unfolding install
installed_quiet s from ballot list =
    by_test (Quiet s.applied) (nat_lt s.ballot ballot) (answer (record s { ballot = ballot; list = list }) from) (if s.ballot == ballot then answer s from else still s)
    (λ e. refl) (λ e. by_test (Quiet s.applied) (s.ballot == ballot) (answer s from) (still s) (λ f. refl) (λ f. refl))

install_quiet : (s : BoardState) (from ballot : ℕ) (list : List Command) → Quiet s.applied (on_install s from ballot list)
unfolding on_install
install_quiet s from ballot list =
    by_test (Quiet s.applied) (nat_lt ballot s.promised) (still s) (install (board_raise s ballot) from ballot list)
    (λ e. refl) (λ e. installed_quiet (board_raise s ballot) from ballot list)

appended_quiet : (s : BoardState) (from count : ℕ) (c : Command) → Quiet s.applied (append s from count c)
unfolding append
appended_quiet s from count c =
    by_test (Quiet s.applied) (length s.list + 1 == count) (answer (record s { list = s.list ++ c ∷ [] }) from)
    (if nat_lt (length s.list) count then still s else answer s from)
    (λ e. refl) (λ e. by_test (Quiet s.applied) (nat_lt (length s.list) count) (still s) (answer s from) (λ f. refl) (λ f. refl))

append_quiet : (s : BoardState) (from ballot count : ℕ) (c : Command) → Quiet s.applied (on_append s from ballot count c)
unfolding on_append
append_quiet s from ballot count c =
    by_test (Quiet s.applied) ((s.promised == ballot) && (s.ballot == ballot)) (append s from count c) (still s) (λ e. appended_quiet s from count c) (λ e. refl)

-- ---- a leader hears what another board accepted

-- what is done is shown to be chosen, also of a longer list
shown : (s : BoardState) (list : List Command) → s.leads ≡ true → length (take s.done s.list) ≤ length (take s.done list)
    → length (take s.done s.list) ≤ length (chosen_part (record s { list = list }))
shown s list leads longer = rw leads longer

longer : (n : ℕ) (xs : List Command) (c : Command) → length (take n xs) ≤ length (take n (xs ++ c ∷ []))
longer n xs c = grind (arith, length-take n xs, length-take n (xs ++ c ∷ []), length-append xs (c ∷ []))

abbrev pub ShowsDone : BoardState → Done → Type 0
ShowsDone s made = length (take s.done s.list) ≤ length (chosen_part made.state)

still_shows : (s : BoardState) → s.leads ≡ true → ShowsDone s (still s)
still_shows s leads = shown s s.list leads (grind arith)

extend_shows : (s : BoardState) (c : Command) → s.leads ≡ true → ShowsDone s (extend s c)
unfolding extend
extend_shows s c leads = shown s (s.list ++ c ∷ []) leads (longer s.done s.list c)

extend_by_shows : (s : BoardState) (c : Option Command) → s.leads ≡ true → ShowsDone s (extend_by s c)
extend_by_shows s None leads = still_shows s leads
extend_by_shows s (Some c) leads = extend_shows s c leads

extend_waiting_shows : (s : BoardState) → s.leads ≡ true → ShowsDone s (extend_waiting s)
unfolding extend_waiting
extend_waiting_shows s leads =
    by_test (ShowsDone s) (is_whole s) (extend_by s (first_outside s.list s.waiting)) (still s)
    (λ e. extend_by_shows s (first_outside s.list s.waiting) leads) (λ e. still_shows s leads)

done_bounded : (s : BoardState) → s.leads ≡ true → Bounded s.applied (apply_done s)
unfolding apply_done
done_bounded s leads =
    let quiet = extend_waiting_quiet (board_settle s) in
    let shows = extend_waiting_shows (board_settle s) leads in
    grind (arith, quiet, shows)

accepted_bounded : (s : BoardState) (from ballot count : ℕ) → Bounded s.applied (on_accepted s from ballot count)
unfolding on_accepted
accepted_bounded s from ballot count =
    by_test (Bounded s.applied) (s.leads && (s.ballot == ballot)) (apply_done (heard_of s from count)) (still s)
    (λ e. done_bounded (heard_of s from count) (and_first s.leads (s.ballot == ballot) e)) (λ e. quiet_bounded s.applied (still s) refl)

body_bounded : (s : BoardState) (from : ℕ) (body : BoardBody) → Bounded s.applied (on_body s from body)
body_bounded s from (Prepare ballot) = quiet_bounded s.applied (on_prepare s from ballot) (prepare_comes_quiet s from ballot)
body_bounded s from (Promised ballot last list) = quiet_bounded s.applied (on_promised s ballot last list) (promised_quiet s ballot last list)
body_bounded s from (Install ballot list) = quiet_bounded s.applied (on_install (hears s) from ballot list) (install_quiet (hears s) from ballot list)
body_bounded s from (Append ballot count c) = quiet_bounded s.applied (on_append (hears s) from ballot count c) (append_quiet (hears s) from ballot count c)
body_bounded s from (Accepted ballot count) = accepted_bounded s from ballot count

mail_bounded : (s : BoardState) (packet : BoardPacket) → Bounded s.applied (on_mail s packet)
unfolding on_mail
mail_bounded s packet =
    by_test (Bounded s.applied) (is_for s packet && has_short packet.body) (on_body s packet.from packet.body) (still s)
    (λ e. body_bounded s packet.from packet.body) (λ e. quiet_bounded s.applied (still s) refl)

pub applies_no_more : (s : BoardState) (input : In) → Bounded s.applied (transition s input)
applies_no_more s (Offer c) =
    by_test (Bounded s.applied) (is_ready s) (on_offer s c) (still s) (λ e. quiet_bounded s.applied (on_offer s c) (offer_quiet s c)) (λ e. quiet_bounded s.applied (still s) refl)
applies_no_more s (Mail packet) =
    by_test (Bounded s.applied) (is_ready s) (on_mail s packet) (still s) (λ e. mail_bounded s packet) (λ e. quiet_bounded s.applied (still s) refl)
applies_no_more s Beat =
    by_test (Bounded s.applied) (is_ready s) (on_beat s) (still s) (λ e. quiet_bounded s.applied (on_beat s) (beat_quiet s)) (λ e. quiet_bounded s.applied (still s) refl)
applies_no_more s Stop = grind arith
applies_no_more s Start = grind arith
