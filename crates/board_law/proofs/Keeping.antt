-- Whatever is so of each command that is offered, and of a Tick, is so of each command that a board keeps or sends.
use Rattle.std.proofs.Common.{◌==◌, ℕ, zero, suc, ◌+◌, not, ◌&&◌, List, [], ◌∷◌, ◌++◌, length, take, drop, map, if◌then◌else◌, nat_lt}
use Rattle.std.specs.List.{AllByRecursion, flat_map}
use Rattle.std.specs.Prelude.{IfSome, None, Option, Some, slice_get}
use Rattle.xfs_base.proofs.Alls.{all_append, all_filter, all_flat_map, all_map, all_read, all_take}
use Rattle.xfs_base.proofs.Booleans.{by_test}
use Rattle.xfs_base.specs.Steps.{still}
use Rattle.board.specs.declared.command.Command.{Command}
use Rattle.board.specs.declared.input.In.{In}
use Rattle.board.specs.declared.input.In.TheVariants.{Offer, Mail, Beat, Stop, Start}
use Rattle.board.specs.declared.output.Out.{Out}
use Rattle.board.specs.declared.output.Out.TheVariants.{Send, Apply}
use Rattle.board.specs.declared.packet.BoardBody.{BoardBody}
use Rattle.board.specs.declared.packet.BoardBody.TheVariants.{Prepare, Promised, Install, Append, Accepted}
use Rattle.board.specs.declared.packet.BoardPacket.{BoardPacket}
use Rattle.board.specs.Lengths.{length_of}
use Rattle.board.specs.State.{BoardState, chosen_part}
use Rattle.board.specs.Ballots.{next_ballot, owner_of}
use Rattle.board.specs.Transition.{Done, answer, append, apply_done, boards, extend, extend_by, extend_or_tick, extend_waiting, has_short, heard_of, hears, install, is_better, is_for, is_ready, is_whole, keep_going, lead, lead_with_own, may_lead, on_accepted, on_append, on_beat, on_body, on_install, on_leader_beat, on_mail, on_offer, on_prepare, on_promised, prepare, board_raise, send, send_again, send_lacking, send_next, send_other, send_others, board_settle, tick, transition, unheard, would_lead}
use Rattle.board.specs.Waiting.{first_outside, is_in}

pub all_drop : {X : Type 0} (P : X → Type 0) (n : ℕ) (xs : List X) → AllByRecursion P xs → AllByRecursion P (drop n xs)
all_drop P zero xs all = all
all_drop P (suc n) [] all = tt
all_drop P (suc n) (x ∷ xs) all = all_drop P n xs all.1

module _ (P : Command → Type 0) where
  -- it is so of what a board keeps
  pub record Keeps (s : BoardState) : Type 0 where
    pub list : AllByRecursion P s.list
    pub waiting : AllByRecursion P s.waiting

  -- of what a packet says
  abbrev pub Says : BoardBody → Type 0
  Says (Prepare ballot) = Unit {0}
  Says (Promised ballot last list) = AllByRecursion P list
  Says (Install ballot list) = AllByRecursion P list
  Says (Append ballot count command) = P command
  Says (Accepted ballot count) = Unit {0}

  abbrev pub Gives : Out → Type 0
  Gives (Send packet) = Says packet.body
  Gives (Apply command) = Unit {0}

  -- of what comes
  abbrev pub Takes : In → Type 0
  Takes (Offer command) = P command
  Takes (Mail packet) = Says packet.body
  Takes Beat = Unit {0}
  Takes Stop = Unit {0}
  Takes Start = Unit {0}

  -- of what is made of it
  pub record Made (made : Done) : Type 0 where
    pub keeps : Keeps made.state
    pub gives : AllByRecursion Gives made.outs

  stays : (s : BoardState) → Keeps s → Made (still s)
  stays s k = record { keeps = k; gives = tt }

  -- ---- what goes out

  other_gives : (s : BoardState) (body : BoardBody) → Says body → (to : ℕ) → AllByRecursion Gives (send_other s body to)
  other_gives s body said to = by_test (AllByRecursion Gives) (to == s.number) [] (send s to body ∷ []) (λ e. tt) (λ e. (said, tt))

  others_give : (s : BoardState) (body : BoardBody) → Says body → AllByRecursion Gives (send_others s body)
  others_give s body said = all_flat_map Gives (send_other s body) (other_gives s body said) boards

  answers : (s : BoardState) (to : ℕ) → Keeps s → Made (answer s to)
  answers s to k = record { keeps = k; gives = (tt, tt) }

  next_gives : (s : BoardState) (to known : ℕ) (o : Option Command) → IfSome o P → AllByRecursion Gives (send_next s to known o)
  next_gives s to known None so = tt
  next_gives s to known (Some command) so = (so, tt)

  lacking_gives : (s : BoardState) (to : ℕ) (o : Option ℕ) → Keeps s → AllByRecursion Gives (send_lacking s to o)
  lacking_gives s to None k = (k.list, tt)
  lacking_gives s to (Some known) k = next_gives s to known (slice_get s.list known) (all_read P s.list known k.list)

  again_gives : (s : BoardState) → Keeps s → (to : ℕ) → AllByRecursion Gives (send_again s to)
  again_gives s k to =
      by_test (AllByRecursion Gives) (to == s.number) [] (send_lacking s to (length_of s.known to)) (λ e. tt) (λ e. lacking_gives s to (length_of s.known to) k)

  -- ---- a leader's list grows

  extended : (s : BoardState) (c : Command) → Keeps s → P c → Made (extend s c)
  unfolding extend
  extended s c k so = record {
    keeps = record { list = all_append P s.list (c ∷ []) k.list (so, tt); waiting = k.waiting };
    gives = others_give s (Append s.ballot (length s.list + 1) c) so;
  }

  outside : (list commands : List Command) → AllByRecursion P commands → IfSome (first_outside list commands) P
  outside list [] all = tt
  outside list (c ∷ rest) all =
      by_test (λ o. IfSome o P) (is_in c list) (first_outside list rest) (Some c) (λ e. outside list rest all.1) (λ e. all.0)

  extended_by : (s : BoardState) (o : Option Command) → Keeps s → IfSome o P → Made (extend_by s o)
  extended_by s None k so = stays s k
  extended_by s (Some c) k so = extended s c k so

  or_ticked : P tick → (s : BoardState) (o : Option Command) → Keeps s → IfSome o P → Made (extend_or_tick s o)
  or_ticked ticks s None k so = extended s tick k ticks
  or_ticked ticks s (Some c) k so = extended s c k so

  waiting_extended : (s : BoardState) → Keeps s → Made (extend_waiting s)
  unfolding extend_waiting
  waiting_extended s k =
      by_test Made (is_whole s) (extend_by s (first_outside s.list s.waiting)) (still s)
      (λ e. extended_by s (first_outside s.list s.waiting) k (outside s.list s.waiting k.waiting)) (λ e. stays s k)

  offered : (s : BoardState) (c : Command) → Keeps s → P c → Made (on_offer s c)
  unfolding on_offer
  offered s c k so =
      waiting_extended (record s { waiting = s.waiting ++ c ∷ [] }) (record { list = k.list; waiting = all_append P s.waiting (c ∷ []) k.waiting (so, tt) })

  -- ---- a beat

  kept_going : P tick → (s : BoardState) → Keeps s → Made (keep_going s)
  unfolding keep_going
  kept_going ticks s k =
      by_test Made (is_whole s) (extend_or_tick s (first_outside s.list s.waiting)) (still s)
      (λ e. or_ticked ticks s (first_outside s.list s.waiting) k (outside s.list s.waiting k.waiting)) (λ e. stays s k)

  leader_beats : P tick → (s : BoardState) → Keeps s → Made (on_leader_beat s)
  unfolding on_leader_beat
  leader_beats ticks s k =
      let going = kept_going ticks s k in
      record {
        keeps = going.keeps;
        gives = all_append Gives (flat_map (send_again s) boards) (keep_going s).outs (all_flat_map Gives (send_again s) (again_gives s k) boards) going.gives;
      }

  unheard_keeps : (s : BoardState) → Keeps s → Keeps (unheard s)
  unheard_keeps s k = record { list = k.list; waiting = k.waiting }

  prepares : (s : BoardState) → Keeps s → Made (prepare s)
  unfolding prepare
  prepares s k = record {
    keeps = record { list = k.list; waiting = k.waiting };
    gives = others_give s (Prepare (next_ballot s.number s.promised)) tt;
  }

  beats : P tick → (s : BoardState) → Keeps s → Made (on_beat s)
  unfolding on_beat
  beats ticks s k =
      let u = unheard_keeps s k in
      by_test Made s.leads (on_leader_beat (unheard s)) (if would_lead s then prepare (unheard s) else still (unheard s)) (λ e. leader_beats ticks (unheard s) u)
      (λ e. by_test Made (would_lead s) (prepare (unheard s)) (still (unheard s)) (λ f. prepares (unheard s) u) (λ f. stays (unheard s) u))

  -- ---- packets

  raised_keeps : (s : BoardState) (ballot : ℕ) → Keeps s → Keeps (board_raise s ballot)
  raised_keeps s ballot k = record { list = k.list; waiting = k.waiting }

  prepare_comes : (s : BoardState) (from ballot : ℕ) → Keeps s → Made (on_prepare s from ballot)
  unfolding on_prepare
  prepare_comes s from ballot k =
      by_test Made (nat_lt ballot s.promised) (still s) (record { state = board_raise s ballot; outs = send s from (Promised ballot s.ballot s.list) ∷ [] })
      (λ e. stays s k) (λ e. record { keeps = raised_keeps s ballot k; gives = (k.list, tt) })

  leads_with : (s : BoardState) (ballot : ℕ) (list : List Command) → Keeps s → AllByRecursion P list → Made (lead_with_own s ballot list)
  leads_with s ballot list k all = record { keeps = record { list = all; waiting = k.waiting }; gives = others_give s (Install ballot list) all }

  leads : (s : BoardState) (ballot last : ℕ) (list : List Command) → Keeps s → AllByRecursion P list → Made (lead s ballot last list)
  unfolding lead
  leads s ballot last list k all =
      by_test Made (is_better s last list) (lead_with_own s ballot list) (lead_with_own s ballot s.list) (λ e. leads_with s ballot list k all)
      (λ e. leads_with s ballot s.list k k.list)

  promised_comes : (s : BoardState) (ballot last : ℕ) (list : List Command) → Keeps s → AllByRecursion P list → Made (on_promised s ballot last list)
  unfolding on_promised
  promised_comes s ballot last list k all =
      by_test Made (may_lead s ballot) (lead s ballot last list) (still s) (λ e. leads s ballot last list k all) (λ e. stays s k)

  installs : (s : BoardState) (from ballot : ℕ) (list : List Command) → Keeps s → AllByRecursion P list → Made (install s from ballot list)
  unfolding install
  installs s from ballot list k all =
      by_test Made (nat_lt s.ballot ballot) (answer (record s { ballot = ballot; list = list }) from) (if s.ballot == ballot then answer s from else still s)
      (λ e. answers (record s { ballot = ballot; list = list }) from (record { list = all; waiting = k.waiting }))
      (λ e. by_test Made (s.ballot == ballot) (answer s from) (still s) (λ f. answers s from k) (λ f. stays s k))

  install_comes : (s : BoardState) (from ballot : ℕ) (list : List Command) → Keeps s → AllByRecursion P list → Made (on_install s from ballot list)
  unfolding on_install
  install_comes s from ballot list k all =
      by_test Made (nat_lt ballot s.promised) (still s) (install (board_raise s ballot) from ballot list) (λ e. stays s k)
      (λ e. installs (board_raise s ballot) from ballot list (raised_keeps s ballot k) all)

  appends : (s : BoardState) (from count : ℕ) (c : Command) → Keeps s → P c → Made (append s from count c)
  unfolding append
  appends s from count c k so =
      by_test Made (length s.list + 1 == count) (answer (record s { list = s.list ++ c ∷ [] }) from) (if nat_lt (length s.list) count then still s else answer s from)
      (λ e. answers (record s { list = s.list ++ c ∷ [] }) from (record { list = all_append P s.list (c ∷ []) k.list (so, tt); waiting = k.waiting }))
      (λ e. by_test Made (nat_lt (length s.list) count) (still s) (answer s from) (λ f. stays s k) (λ f. answers s from k))

  append_comes : (s : BoardState) (from ballot count : ℕ) (c : Command) → Keeps s → P c → Made (on_append s from ballot count c)
  unfolding on_append
  append_comes s from ballot count c k so =
      by_test Made ((s.promised == ballot) && (s.ballot == ballot)) (append s from count c) (still s) (λ e. appends s from count c k so) (λ e. stays s k)

  settled_keeps : (s : BoardState) → Keeps s → Keeps (board_settle s)
  settled_keeps s k = record { list = k.list; waiting = all_filter P (λ command. not (is_in command (take s.done s.list))) s.waiting k.waiting }

  done_applied : (s : BoardState) → Keeps s → Made (apply_done s)
  unfolding apply_done
  done_applied s k =
      let going = waiting_extended (board_settle s) (settled_keeps s k) in
      let commands = drop s.applied (take s.done s.list) in
      record {
        keeps = going.keeps;
        gives = all_append Gives (map Apply commands) (extend_waiting (board_settle s)).outs (all_map Gives Apply (λ c. tt) commands) going.gives;
      }

  accepted_comes : (s : BoardState) (from ballot count : ℕ) → Keeps s → Made (on_accepted s from ballot count)
  unfolding on_accepted
  accepted_comes s from ballot count k =
      by_test Made (s.leads && (s.ballot == ballot)) (apply_done (heard_of s from count)) (still s)
      (λ e. done_applied (heard_of s from count) (record { list = k.list; waiting = k.waiting })) (λ e. stays s k)

  hears_keeps : (s : BoardState) → Keeps s → Keeps (hears s)
  hears_keeps s k = record { list = k.list; waiting = k.waiting }

  body_comes : (s : BoardState) (from : ℕ) (body : BoardBody) → Keeps s → Says body → Made (on_body s from body)
  body_comes s from (Prepare ballot) k said = prepare_comes s from ballot k
  body_comes s from (Promised ballot last list) k said = promised_comes s ballot last list k said
  body_comes s from (Install ballot list) k said = install_comes (hears s) from ballot list (hears_keeps s k) said
  body_comes s from (Append ballot count c) k said = append_comes (hears s) from ballot count c (hears_keeps s k) said
  body_comes s from (Accepted ballot count) k said = accepted_comes s from ballot count k

  mail_comes : (s : BoardState) (packet : BoardPacket) → Keeps s → Says packet.body → Made (on_mail s packet)
  unfolding on_mail
  mail_comes s packet k said =
      by_test Made (is_for s packet && has_short packet.body) (on_body s packet.from packet.body) (still s)
      (λ e. body_comes s packet.from packet.body k said) (λ e. stays s k)

  -- ---- all inputs

  pub keeps : P tick → (s : BoardState) (input : In) → Keeps s → Takes input → Made (transition s input)
  keeps ticks s (Offer c) k so = by_test Made (is_ready s) (on_offer s c) (still s) (λ e. offered s c k so) (λ e. stays s k)
  keeps ticks s (Mail packet) k so = by_test Made (is_ready s) (on_mail s packet) (still s) (λ e. mail_comes s packet k so) (λ e. stays s k)
  keeps ticks s Beat k so = by_test Made (is_ready s) (on_beat s) (still s) (λ e. beats ticks s k) (λ e. stays s k)
  keeps ticks s Stop k so = record { keeps = record { list = k.list; waiting = k.waiting }; gives = tt }
  keeps ticks s Start k so = record { keeps = record { list = k.list; waiting = k.waiting }; gives = tt }

  -- What a board shows to be chosen is of its list.
  pub shows : (s : BoardState) → Keeps s → AllByRecursion P (chosen_part s)
  shows s k =
      by_test (AllByRecursion P) s.leads (take s.done s.list) (if owner_of s.ballot == s.number then [] else s.list) (λ e. all_take P s.done s.list k.list)
      (λ e. by_test (AllByRecursion P) (owner_of s.ballot == s.number) [] s.list (λ f. tt) (λ f. k.list))
