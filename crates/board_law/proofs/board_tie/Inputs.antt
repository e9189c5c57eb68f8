-- Each input of the machine is a list of steps of the protocol.
use Rattle.std.proofs.Common.{◌≡◌, ◌==◌, ℕ, zero, suc, ◌<◌, true, false, not, ◌&&◌, nat_le, [], refl, arith}
use Rattle.std.proofs.lemmas.Bool.Decides.{nat_tests}
use Rattle.xfs_base.proofs.Booleans.{by_test, and_first, and_second, not_true}
use Rattle.xfs_base.specs.Steps.{still}
use Rattle.board_protocol.specs.Leading.{stops, starts}
use Rattle.board_protocol.specs.Step.{Steps}
use Rattle.board_protocol.specs.Step.Step.{Stops, Starts}
use Rattle.board_protocol.specs.World.{World, start}
use Rattle.board.specs.declared.command.Command.{Command}
use Rattle.board.specs.declared.input.In.{In}
use Rattle.board.specs.declared.input.In.TheVariants.{Offer, Mail, Beat, Stop, Start}
use Rattle.board.specs.declared.packet.BoardBody.{BoardBody}
use Rattle.board.specs.declared.packet.BoardBody.TheVariants.{Prepare, Promised, Install, Append, Accepted}
use Rattle.board.specs.declared.packet.BoardPacket.{BoardPacket}
use Rattle.board.specs.State.{BoardState, board_start}
use Rattle.board.specs.Transition.{transition, is_ready, is_for, has_short, hears, on_body, on_mail, on_offer, on_beat, stopped, restarted}
use Rattle.board_law.specs.board_tie.Follows.{Follows}
use Rattle.board_law.specs.board_tie.Sent.{Said, Sent, Came}
use Rattle.board_law.specs.board_tie.Shown.{Shows, owner}
use Rattle.board_law.proofs.board_tie.Beats.{beat_follows}
use Rattle.board_law.proofs.board_tie.Electing.{promise_comes}
use Rattle.board_law.proofs.board_tie.Following.{prepare_comes, install_comes, append_comes}
use Rattle.board_law.proofs.board_tie.Growing.{offer_follows}
use Rattle.board_law.proofs.board_tie.Hearing.{accepted_comes}
use Rattle.board_law.proofs.board_tie.Moves.{stays, changes, quiet}
use Rattle.board_law.proofs.board_tie.Showing.{heard_or_not, up_shows}

pub starts_so : (place : ℕ) → place < 3 → Shows place ((start owner).board place) (board_start (suc place))
starts_so zero below = record { number = refl; up = refl; promised = refl; ballot = refl; list = refl; waiting = refl; leads = refl; first = refl; second = refl; third = refl; done = refl; applied = refl }
starts_so (suc zero) below = record { number = refl; up = refl; promised = refl; ballot = refl; list = refl; waiting = refl; leads = refl; first = refl; second = refl; third = refl; done = refl; applied = refl }
starts_so (suc (suc zero)) below = record { number = refl; up = refl; promised = refl; ballot = refl; list = refl; waiting = refl; leads = refl; first = refl; second = refl; third = refl; done = refl; applied = refl }
starts_so (suc (suc (suc place))) below = absurd (omega (arith, below))

module _ (w : World Command) (reached : Steps (start owner) w) (place : ℕ) (below : place < 3) (s : BoardState) (shows : Shows place (w.board place) s) where
  stop_follows : Follows w place (still (stopped s))
  stop_follows =
      let x = w.board place in
      changes w place (stops w place) (record x { up = 0; leads = 0 }) (still (stopped s)) (Stops place) refl
      (record {
        number = shows.number;
        up = refl;
        promised = shows.promised;
        ballot = shows.ballot;
        list = shows.list;
        waiting = shows.waiting;
        leads = refl;
        first = shows.first;
        second = shows.second;
        third = shows.third;
        done = shows.done;
        applied = shows.applied;
      })
      (quiet x.applied [] refl) tt

  start_follows : Follows w place (still (restarted s))
  start_follows =
      let x = w.board place in
      changes w place (starts w place) (record x { up = 1 }) (still (restarted s)) (Starts place) refl
      (up_shows place x s shows true s.heard)
      (quiet x.applied [] refl) tt

  -- A packet of another board comes.
  body_follows : s.up ≡ true → (from other : ℕ) → from ≡ suc other → other < 3 → (other ≡ place → ⊥) → (body : BoardBody) → Said w other body → Follows w place (on_body s from body)
  body_follows up from other from_is among apart (Prepare ballot) said = prepare_comes w place s shows up from ballot said
  body_follows up from other from_is among apart (Promised ballot last list) said = promise_comes w place s shows reached below up other ballot last list among apart said
  body_follows up from other from_is among apart (Install ballot list) said =
      install_comes w place (hears s) (heard_or_not place (w.board place) s shows true) reached up from ballot list said
  body_follows up from other from_is among apart (Append ballot count command) said =
      append_comes w place (hears s) (heard_or_not place (w.board place) s shows true) up from ballot count said.0 command said.1 said.2
  body_follows up from other from_is among apart (Accepted ballot count) said = accepted_comes w place s shows reached up from other ballot count from_is among apart said

  mail_follows : s.up ≡ true → (packet : BoardPacket) → Sent w packet → Follows w place (on_mail s packet)
  unfolding on_mail
  mail_follows up packet sent =
      by_test (Follows w place) (is_for s packet && has_short packet.body) (on_body s packet.from packet.body) (still s)
      (λ here.
      let from_it = not (packet.from == s.number) in
      let in_range = nat_le 1 packet.from && nat_le packet.from 3 in
      let for_it : ((packet.to == s.number) && (from_it && in_range)) ≡ true = and_first (is_for s packet) (has_short packet.body) here in
      let rest : (from_it && in_range) ≡ true = and_second (packet.to == s.number) (from_it && in_range) for_it in
      let other : (packet.from == s.number) ≡ false = not_true (packet.from == s.number) (and_first from_it in_range rest) in
      let most : nat_le packet.from 3 ≡ true = and_second (nat_le 1 packet.from) (nat_le packet.from 3) (and_second from_it in_range rest) in
      body_follows up packet.from sent.place sent.from (grind (arith, nat_tests, most, sent.from)) (λ same. grind (arith, nat_tests, other, sent.from, shows.number, same)) packet.body sent.said)
      (λ e. stays w place s shows)

  pub follows : (input : In) → Came w input → Follows w place (transition s input)
  follows (Offer command) came =
      by_test (Follows w place) (is_ready s) (on_offer s command) (still s) (λ ready. offer_follows w place s shows reached command (and_first s.up _ ready)) (λ e. stays w place s shows)
  follows (Mail packet) came =
      by_test (Follows w place) (is_ready s) (on_mail s packet) (still s) (λ ready. mail_follows (and_first s.up _ ready) packet came) (λ e. stays w place s shows)
  follows Beat came =
      by_test (Follows w place) (is_ready s) (on_beat s) (still s) (λ ready. beat_follows w place s shows reached below (and_first s.up _ ready)) (λ e. stays w place s shows)
  follows Stop came = stop_follows
  follows Start came = start_follows
