-- A beat: a leader sends what the others lack, and another board may prepare a ballot.
use Rattle.std.proofs.Common.{◌≡◌, ◌==◌, ℕ, suc, ◌+◌, ◌-◌, ◌<◌, true, false, not, ◌&&◌, ◌||◌, nat_lt, List, [], ◌∷◌, ◌++◌, length, take, Option, Some, None, is_some, refl, sym, ap, ◌∙◌, subst, inl, arith}
use Rattle.std.specs.Prelude.{slice_get}
use Rattle.std.specs.List.{flat_map}
use Rattle.std.proofs.lemmas.Bool.Decides.{nat_tests}
use Rattle.xfs_base.proofs.Booleans.{by_test, and_first}
use Rattle.xfs_base.specs.Steps.{still}
use Rattle.board_protocol.specs.Basics.{In}
use Rattle.board_protocol.specs.Leading.{Wants, sends_install, sends_append, prepares}
use Rattle.board_protocol.specs.Leading.Wants.{Waits, Lags}
use Rattle.board_protocol.specs.Packets as packets
use Rattle.board_protocol.specs.Step.{Steps}
use Rattle.board_protocol.specs.Step.Step.{SendsInstall, SendsAppend, Prepares}
use Rattle.board_protocol.specs.Step.Steps.{Done as Ended}
use Rattle.board_protocol.specs.World.{World, start}
use Rattle.board_protocol.proofs.Laws.{grows}
use Rattle.board.specs.declared.command.Command.{Command}
use Rattle.board.specs.declared.output.Out.{Out}
use Rattle.board.specs.declared.packet.BoardBody.TheVariants.{Prepare, Install, Append}
use Rattle.board.specs.Ballots.{owner_of, next_ballot}
use Rattle.board.specs.Lengths.{length_of}
use Rattle.board.specs.State.{BoardState}
use Rattle.board.specs.Transition.{Done, boards, send_others, send_next, send_lacking, send_again, keep_going, on_leader_beat, would_lead, unheard, prepare, on_beat}
use Rattle.board.specs.Waiting.{first_outside}
use Rattle.board.proofs.BallotLaws.{next_is_own, next_is_above}
use Rattle.board_law.specs.board_tie.Follows.{Follows}
use Rattle.board_law.specs.board_tie.Shown.{Shows, flag, shown, owner}
use Rattle.board_law.proofs.board_tie.Lists.{outside, next_of, behind}
use Rattle.board_law.proofs.board_tie.Moves.{stays, changes, says, goes_on, steps_then, one_sent, others_sent, others_quiet, quiet}
use Rattle.board_law.proofs.board_tie.Growing.{append_of, is_up, is_leader, keeps_going}
use Rattle.board_law.proofs.board_tie.Showing.{heard_or_not}

abbrev pub install_of : ℕ → List Command → packets.Install Command
install_of ballot list = record { ballot = ballot; list = list }

pub install_is : (b c : ℕ) (these those : List Command) → b ≡ c → these ≡ those → install_of b these ≡ install_of c those
install_is b c these those ballot list = ap (λ n. install_of n these) ballot ∙ ap (λ all. install_of c all) list

-- What goes out, while the board stays as it is.
abbrev pub told : BoardState → List Out → Done
told s outs = record { state = s; outs = outs }

module _ (w : World Command) (place : ℕ) (s : BoardState) (shows : Shows place (w.board place) s) (up : s.up ≡ true) (leads : s.leads ≡ true) where
  -- The whole list goes to a board that said nothing yet.
  installs_again : (to other : ℕ) → (w.board place).known other ≡ 0 → Follows w place (told s (send_lacking s to None))
  installs_again to other none =
      let x = w.board place in
      let v = sends_install w place in
      says w place v (told s (send_lacking s to None))
      (SendsInstall place other (record { up = is_up w place s shows up; leads = is_leader w place s shows leads; none = none }))
      refl shows refl
      (one_sent v place s (Install s.ballot s.list) to shows.number (inl (install_is s.ballot x.ballot s.list x.list (sym shows.ballot) (sym shows.list))))

  -- The command after the known length goes to a board that is behind.
  appends_again : (to other known : ℕ) → (w.board place).known other ≡ suc known → (o : Option Command) → slice_get s.list known ≡ o → Follows w place (told s (send_next s to known o))
  appends_again to other known at None e = stays w place s shows
  appends_again to other known at (Some c) e =
      let x = w.board place in
      let v = sends_append w place known c in
      says w place v (told s (send_next s to known (Some c)))
      (SendsAppend place other known c (record {
        up = is_up w place s shows up;
        leads = is_leader w place s shows leads;
        known = at;
        behind = subst (λ list. known < length list) (sym shows.list) (behind s.list known c e);
        command = subst (λ list. take (suc known) list ≡ take known list ++ (c ∷ [])) (sym shows.list) (next_of s.list known c e);
      }))
      refl shows refl
      (one_sent v place s (Append s.ballot (known + 1) c) to shows.number
      (known, grind arith, inl (ap (λ b. append_of b known c) (sym shows.ballot))))

  lacking : (to other : ℕ) (o : Option ℕ) → (w.board place).known other ≡ shown o → Follows w place (told s (send_lacking s to o))
  lacking to other None at = installs_again to other at
  lacking to other (Some known) at = appends_again to other known at (slice_get s.list known) refl

  again : (to other : ℕ) → (w.board place).known other ≡ shown (length_of s.known to) → Follows w place (told s (send_again s to))
  again to other at =
      by_test (λ outs. Follows w place (told s outs)) (to == s.number) [] (send_lacking s to (length_of s.known to))
      (λ e. stays w place s shows) (λ e. lacking to other (length_of s.known to) at)

-- A leader sends the others what they lack, and goes on.
module _ (w : World Command) (place : ℕ) (s : BoardState) (reached : Steps (start owner) w) (up : s.up ≡ true) (leads : s.leads ≡ true) where
  then_third : (v : World Command) → Steps (start owner) v → Shows place (v.board place) s → Follows v place (told s (send_again s 3 ++ []))
  then_third v reached_v shows =
      let third = again v place s shows up leads 3 2 shows.third in
      goes_on v place reached_v (told s (send_again s 3)) (told s []) third (stays third.world place s third.shows)

  then_second : (v : World Command) → Steps (start owner) v → Shows place (v.board place) s → Follows v place (told s (send_again s 2 ++ (send_again s 3 ++ [])))
  then_second v reached_v shows =
      let second = again v place s shows up leads 2 1 shows.second in
      goes_on v place reached_v (told s (send_again s 2)) (told s (send_again s 3 ++ [])) second (then_third second.world (steps_then reached_v second.steps) second.shows)

  all_again : Shows place (w.board place) s → Follows w place (told s (flat_map (send_again s) boards))
  all_again shows =
      let first = again w place s shows up leads 1 0 shows.first in
      goes_on w place reached (told s (send_again s 1)) (told s (send_again s 2 ++ (send_again s 3 ++ []))) first
      (then_second first.world (steps_then reached first.steps) first.shows)

  pub leader_beat_follows : Shows place (w.board place) s → Follows w place (on_leader_beat s)
  unfolding on_leader_beat
  leader_beat_follows shows =
      let sent = all_again shows in
      goes_on w place reached (told s (flat_map (send_again s) boards)) (keep_going s) sent (keeps_going sent.world place s sent.shows up)

-- The protocol's ballots have the machine's owners, at every moment.
pub owned : (w : World Command) → Steps (start owner) w → (ballot : ℕ) → w.owner ballot ≡ owner_of ballot - 1
owned w reached ballot = (grows owner (start owner) w Ended reached).owner ballot

module _ (w : World Command) (place : ℕ) (s : BoardState) (shows : Shows place (w.board place) s) where
  -- Why it would lead.
  reason : would_lead s ≡ true → Wants (w.board place)
  reason would = by_first (first_outside s.list s.waiting) refl would where
    by_first : (o : Option Command) → first_outside s.list s.waiting ≡ o → (is_some o || (nat_lt s.applied (length s.list) && not s.heard)) ≡ true → Wants (w.board place)
    by_first None e rest =
        let less : s.applied < length s.list = grind (arith, nat_tests, and_first (nat_lt s.applied (length s.list)) _ rest) in
        Lags (subst (λ list. length (w.board place).applied < length list) (sym shows.list) (subst (λ n. n < length s.list) (sym shows.applied) less))
    by_first (Some c) e rest =
        let o = outside s.list s.waiting c e in
        Waits c (subst (λ waiting. In c waiting) (sym shows.waiting) o.waits) (subst (λ list. In c list → ⊥) (sym shows.list) o.new)

  -- A board that doesn't lead prepares its next ballot.
  pub prepare_follows : Steps (start owner) w → place < 3 → s.up ≡ true → s.leads ≡ false → would_lead s ≡ true → Follows w place (prepare (unheard s))
  unfolding prepare
  prepare_follows reached below up leads would =
      let x = w.board place in
      let next = next_ballot s.number s.promised in
      let v = prepares w place next in
      let own : owner_of next ≡ s.number = next_is_own s.number s.promised (grind (arith, shows.number)) (grind (arith, shows.number, below)) in
      changes w place v (record x { promised = next; leads = 0 }) (prepare (unheard s))
      (Prepares place next (record {
        up = is_up w place s shows up;
        follows = shows.leads ∙ ap flag leads;
        reason = reason would;
        own = owned w reached next ∙ grind (arith, own, shows.number);
        higher = subst (λ n. n < next) (sym shows.promised) (next_is_above s.number s.promised);
      }))
      refl
      (record {
        number = shows.number;
        up = shows.up;
        promised = refl;
        ballot = shows.ballot;
        list = shows.list;
        waiting = shows.waiting;
        leads = sym (ap flag leads);
        first = shows.first;
        second = shows.second;
        third = shows.third;
        done = shows.done;
        applied = shows.applied;
      })
      (quiet x.applied (send_others (unheard s) (Prepare next)) (others_quiet (unheard s) (Prepare next)))
      (others_sent v place (unheard s) (Prepare next) shows.number (inl refl))

  pub beat_follows : Steps (start owner) w → place < 3 → s.up ≡ true → Follows w place (on_beat s)
  unfolding on_beat
  beat_follows reached below up =
      let shows_on = heard_or_not place (w.board place) s shows false in
      by_test (Follows w place) s.leads (on_leader_beat (unheard s)) _
      (λ leads. leader_beat_follows w place (unheard s) reached up leads shows_on)
      (λ leads.
      by_test (Follows w place) (would_lead s) (prepare (unheard s)) (still (unheard s))
      (λ would. prepare_follows reached below up leads would)
      (λ e. stays w place (unheard s) shows_on))
