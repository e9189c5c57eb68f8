-- A preparer hears a promise, and leads.
use Rattle.std.proofs.Common.{◌≡◌, ◌==◌, ℕ, ◌<◌, ◌≤◌, true, false, not, List, length, refl, sym, ap, ◌∙◌, subst, inl, inr, arith, ◌⊎◌}
use Rattle.std.proofs.lemmas.Bool.Decides.{nat_tests, Decides-eqb}
use Rattle.xfs_base.proofs.Booleans.{by_test, and_first, and_second, not_true}
use Rattle.xfs_base.specs.Steps.{still}
use Rattle.board_protocol.specs.Basics.{In}
use Rattle.board_protocol.specs.Leading.{MayLead, leads_with, leads_again}
use Rattle.board_protocol.specs.Packets as packets
use Rattle.board_protocol.specs.Step.{Step, Steps}
use Rattle.board_protocol.specs.Step.Step.{LeadsWithOwn, LeadsWithTheirs, LeadsAgain}
use Rattle.board_protocol.specs.World.{World, start}
use Rattle.board_protocol.proofs.Invariant.{always}
use Rattle.board_protocol.proofs.Prefixes.{compare}
use Rattle.board.specs.declared.command.Command.{Command}
use Rattle.board.specs.declared.packet.BoardBody.TheVariants.{Install}
use Rattle.board.specs.Ballots.{owner_of}
use Rattle.board.specs.State.{BoardState}
use Rattle.board.specs.Transition.{send_others, may_lead, is_better, lead_with_own, lead, on_promised}
use Rattle.board_law.specs.board_tie.Follows.{Follows}
use Rattle.board_law.specs.board_tie.Shown.{Shows, flag, owner}
use Rattle.board_law.proofs.board_tie.Beats.{owned, install_is}
use Rattle.board_law.proofs.board_tie.Growing.{is_up}
use Rattle.board_law.proofs.board_tie.Moves.{stays, changes, others_sent, others_quiet, quiet}

module _ (w : World Command) (place : ℕ) (s : BoardState) (shows : Shows place (w.board place) s) (reached : Steps (start owner) w) (below : place < 3) (up : s.up ≡ true) where
  -- The answer that comes.
  abbrev promise : (other ballot last : ℕ) (list : List Command) → packets.Promised Command
  promise other ballot last list = record { from = other; ballot = ballot; last = last; list = list }

  may : (other ballot last : ℕ) (list : List Command) → other < 3 → (other ≡ place → ⊥) → In (promise other ballot last list) w.promises → may_lead s ballot ≡ true
      → MayLead w place (promise other ballot last list)
  may other ballot last list among apart sent may_it =
      let rest = and_second (not s.leads) _ may_it in
      let same : ballot ≡ s.promised = (Decides-eqb ballot s.promised).0 (and_first (ballot == s.promised) _ rest) in
      let own : owner_of ballot ≡ s.number = (Decides-eqb (owner_of ballot) s.number).0 (and_second (ballot == s.promised) _ rest) in
      record {
        sent = sent;
        up = is_up w place s shows up;
        follows = shows.leads ∙ ap flag (not_true s.leads (and_first (not s.leads) _ may_it));
        own = owned w reached ballot ∙ grind (arith, own, shows.number);
        promised = shows.promised ∙ sym same;
        board = below;
        other = among;
        apart = apart;
      }

  -- It leads with a list.
  leads : (ballot : ℕ) (list : List Command) → Step w (leads_with w place ballot list) → Follows w place (lead_with_own s ballot list)
  leads ballot list step =
      let x = w.board place in
      let v = leads_with w place ballot list in
      changes w place v (record x { ballot = ballot; list = list; leads = 1; known = λ j. 0; done = 0 }) (lead_with_own s ballot list) step refl
      (record {
        number = shows.number;
        up = shows.up;
        promised = shows.promised;
        ballot = refl;
        list = refl;
        waiting = shows.waiting;
        leads = refl;
        first = refl;
        second = refl;
        third = refl;
        done = refl;
        applied = shows.applied;
      })
      (quiet x.applied (send_others s (Install ballot list)) (others_quiet s (Install ballot list)))
      (others_sent v place s (Install ballot list) shows.number (inl refl))

  -- It led this ballot before, and leads it again.
  leads_on : (ballot : ℕ) → Step w (leads_again w place) → s.ballot ≡ ballot → Follows w place (lead_with_own s ballot s.list)
  leads_on ballot step same =
      let x = w.board place in
      let v = leads_again w place in
      changes w place v (record x { leads = 1; known = λ j. 0; done = 0 }) (lead_with_own s ballot s.list) step refl
      (record {
        number = shows.number;
        up = shows.up;
        promised = shows.promised;
        ballot = shows.ballot ∙ same;
        list = shows.list;
        waiting = shows.waiting;
        leads = refl;
        first = refl;
        second = refl;
        third = refl;
        done = refl;
        applied = shows.applied;
      })
      (quiet x.applied (send_others s (Install ballot s.list)) (others_quiet s (Install ballot s.list)))
      (others_sent v place s (Install ballot s.list) shows.number (inl (install_is ballot x.ballot s.list x.list (sym (shows.ballot ∙ same)) (sym shows.list))))

  module _ (other ballot last : ℕ) (list : List Command) (among : other < 3) (apart : other ≡ place → ⊥) (sent : In (promise other ballot last list) w.promises) where
    with_theirs : may_lead s ballot ≡ true → is_better s last list ≡ true → Follows w place (lead_with_own s ballot list)
    with_theirs may_it better =
        let x = w.board place in
        let greater : (x.ballot < last) ⊎ ((x.ballot ≡ last) × (length x.list < length list)) = grind (arith, nat_tests, better, shows.ballot, ap length shows.list) in
        leads ballot list (LeadsWithTheirs place (promise other ballot last list) (record { lead = may other ballot last list among apart sent may_it; greater = greater }))

    with_own : may_lead s ballot ≡ true → is_better s last list ≡ false → Follows w place (lead_with_own s ballot s.list)
    with_own may_it better =
        let x = w.board place in
        let lead = may other ballot last list among apart sent may_it in
        let low : x.ballot ≤ x.promised = ((always owner w reached).standing.stands place).promised in
        let least : (last < x.ballot) ⊎ ((last ≡ x.ballot) × (length list ≤ length x.list)) = grind (arith, nat_tests, better, shows.ballot, ap length shows.list) in
        by_order lead low least (compare x.ballot ballot) where
          by_order : MayLead w place (promise other ballot last list) → (w.board place).ballot ≤ (w.board place).promised
              → (last < (w.board place).ballot) ⊎ ((last ≡ (w.board place).ballot) × (length list ≤ length (w.board place).list))
              → ((w.board place).ballot < ballot) ⊎ (((w.board place).ballot ≡ ballot) ⊎ (ballot < (w.board place).ballot)) → Follows w place (lead_with_own s ballot s.list)
          by_order lead low least (inl less) =
              subst (λ all. Follows w place (lead_with_own s ballot all)) shows.list
              (leads ballot (w.board place).list (LeadsWithOwn place (promise other ballot last list) (record { lead = lead; below = less; least = least })))
          by_order lead low least (inr (inl same)) =
              leads_on ballot (LeadsAgain place (promise other ballot last list) (record { lead = lead; same = same })) (sym shows.ballot ∙ same)
          by_order lead low least (inr (inr more)) = absurd (grind (arith, low, lead.promised, more))

    pub promise_comes : Follows w place (on_promised s ballot last list)
    unfolding on_promised lead
    promise_comes =
        by_test (Follows w place) (may_lead s ballot) _ (still s)
        (λ may_it.
        by_test (Follows w place) (is_better s last list) (lead_with_own s ballot list) (lead_with_own s ballot s.list)
        (λ better. with_theirs may_it better)
        (λ better. with_own may_it better))
        (λ e. stays w place s shows)
