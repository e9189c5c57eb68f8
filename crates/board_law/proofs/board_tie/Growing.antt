-- A leader's list grows: by a command that waits, or by a Tick.
use Rattle.std.proofs.Common.{◌≡◌, ℕ, ◌+◌, true, [], ◌∷◌, ◌++◌, length, Option, Some, None, refl, sym, ap, ◌∙◌, subst, inl, arith}
use Rattle.std.proofs.lemmas.Bool.Decides.{Decides-eqb}
use Rattle.xfs_base.proofs.Booleans.{by_test, and_first, and_second}
use Rattle.xfs_base.specs.Steps.{still}
use Rattle.board_protocol.specs.Basics.{In}
use Rattle.board_protocol.specs.Leading.{MayExtend, extends, offers}
use Rattle.board_protocol.specs.Packets as packets
use Rattle.board_protocol.specs.Step.{Step, Steps}
use Rattle.board_protocol.specs.Step.Step.{Offers, Extends, Ticks}
use Rattle.board_protocol.specs.World.{World, start, Up, Leads}
use Rattle.board.specs.declared.command.Command.{Command}
use Rattle.board.specs.declared.packet.BoardBody.TheVariants.{Append}
use Rattle.board.specs.State.{BoardState}
use Rattle.board.specs.Transition.{send_others, is_whole, extend, extend_by, extend_waiting, on_offer, tick, extend_or_tick, keep_going}
use Rattle.board.specs.Waiting.{first_outside}
use Rattle.board_law.specs.board_tie.Follows.{Follows}
use Rattle.board_law.specs.board_tie.Shown.{Shows, flag, owner}
use Rattle.board_law.proofs.board_tie.Lists.{outside}
use Rattle.board_law.proofs.board_tie.Moves.{stays, changes, goes_on, others_sent, others_quiet, quiet}
use Rattle.board_law.proofs.board_tie.Showing.{grown_shows, offered_shows}

abbrev pub append_of : ℕ → ℕ → Command → packets.Append Command
append_of ballot place command = record { ballot = ballot; place = place; command = command }

-- A board that shows that it is up, or leads, does.
pub is_up : (w : World Command) (place : ℕ) (s : BoardState) → Shows place (w.board place) s → s.up ≡ true → Up w place
is_up w place s shows up = shows.up ∙ ap flag up

pub is_leader : (w : World Command) (place : ℕ) (s : BoardState) → Shows place (w.board place) s → s.leads ≡ true → Leads w place
is_leader w place s shows leads = shows.leads ∙ ap flag leads

module _ (w : World Command) (place : ℕ) (s : BoardState) (shows : Shows place (w.board place) s) where
  -- The leader appends a command, and sends it.
  extends_by_step : (c : Command) → Step w (extends w place c) → Follows w place (extend s c)
  unfolding extend
  extends_by_step c step =
      let x = w.board place in
      changes w place (extends w place c) (record x { list = x.list ++ (c ∷ []) }) (extend s c) step refl
      (grown_shows place x s shows c)
      (quiet x.applied (send_others s (Append s.ballot (length s.list + 1) c)) (others_quiet s (Append s.ballot (length s.list + 1) c)))
      (others_sent (extends w place c) place s (Append s.ballot (length s.list + 1) c) shows.number
      (length x.list, grind (arith, ap length shows.list), inl (ap (λ b. append_of b (length x.list) c) (sym shows.ballot))))

  may_extend : s.up ≡ true → is_whole s ≡ true → MayExtend w place
  may_extend up whole = record {
    up = is_up w place s shows up;
    leads = is_leader w place s shows (and_first s.leads _ whole);
    whole = shows.done ∙ (Decides-eqb s.done (length s.list)).0 (and_second s.leads _ whole) ∙ sym (ap length shows.list);
  }

  extends_waiting_by_step : (c : Command) → s.up ≡ true → is_whole s ≡ true → first_outside s.list s.waiting ≡ Some c → Follows w place (extend s c)
  extends_waiting_by_step c up whole first =
      let o = outside s.list s.waiting c first in
      extends_by_step c (Extends place c (record {
        extend = may_extend up whole;
        waiting = subst (λ waiting. In c waiting) (sym shows.waiting) o.waits;
        new = subst (λ list. In c list → ⊥) (sym shows.list) o.new;
      }))

  -- A leader whose whole list is done appends what waits.
  pub waiting_follows : s.up ≡ true → Follows w place (extend_waiting s)
  unfolding extend_waiting
  waiting_follows up = by_test (Follows w place) (is_whole s) (extend_by s (first_outside s.list s.waiting)) (still s) (λ whole. chosen whole (first_outside s.list s.waiting) refl) (λ e. stays w place s shows) where
    chosen : is_whole s ≡ true → (o : Option Command) → first_outside s.list s.waiting ≡ o → Follows w place (extend_by s o)
    chosen whole None e = stays w place s shows
    chosen whole (Some c) e = extends_waiting_by_step c up whole e

  -- At a beat it appends what waits, and else a Tick.
  pub keeps_going : s.up ≡ true → Follows w place (keep_going s)
  unfolding keep_going
  keeps_going up = by_test (Follows w place) (is_whole s) (extend_or_tick s (first_outside s.list s.waiting)) (still s) (λ whole. chosen whole (first_outside s.list s.waiting) refl) (λ e. stays w place s shows) where
    chosen : is_whole s ≡ true → (o : Option Command) → first_outside s.list s.waiting ≡ o → Follows w place (extend_or_tick s o)
    chosen whole None e = extends_by_step tick (Ticks place tick (may_extend up whole))
    chosen whole (Some c) e = extends_waiting_by_step c up whole e

-- A command is offered.
module _ (w : World Command) (place : ℕ) (s : BoardState) (shows : Shows place (w.board place) s) where
  pub offer_follows : Steps (start owner) w → (c : Command) → s.up ≡ true → Follows w place (on_offer s c)
  unfolding on_offer
  offer_follows reached c up =
      let x = w.board place in
      let more = record s { waiting = s.waiting ++ (c ∷ []) } in
      let offered : Follows w place (still more) =
      changes w place (offers w place c) (record x { waiting = x.waiting ++ (c ∷ []) }) (still more) (Offers place c (is_up w place s shows up)) refl
      (offered_shows place x s shows c)
      (quiet x.applied [] refl) tt
      in
      goes_on w place reached (still more) (extend_waiting more) offered (waiting_follows offered.world place more offered.shows up)
