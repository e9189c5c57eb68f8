-- What a board does for the leaders of others: it promises, accepts a list, and accepts a command.
use Rattle.std.proofs.Common.{◌≡◌, ◌==◌, ℕ, suc, ◌+◌, ◌<◌, ◌≤◌, Bool, true, false, ◌&&◌, nat_lt, List, [], ◌∷◌, ◌++◌, length, refl, sym, ap, ◌∙◌, subst, inl, arith, if◌then◌else◌}
use Rattle.std.proofs.lemmas.Bool.Decides.{nat_tests, Decides-eqb}
use Rattle.xfs_base.proofs.Booleans.{by_test, and_first, and_second}
use Rattle.xfs_base.specs.Steps.{still}
use Rattle.board_protocol.specs.Basics.{In}
use Rattle.board_protocol.specs.Following as following
use Rattle.board_protocol.specs.Following.{promises, installs, installs_again, appends, appends_again}
use Rattle.board_protocol.specs.Packets as packets
use Rattle.board_protocol.specs.Step.{Steps}
use Rattle.board_protocol.specs.Step.Step.{Promises, Installs, InstallsAgain, Appends, AppendsAgain}
use Rattle.board_protocol.specs.World.{World, start}
use Rattle.board_protocol.proofs.Invariant.{always}
use Rattle.board.specs.declared.command.Command.{Command}
use Rattle.board.specs.declared.packet.BoardBody.TheVariants.{Promised, Accepted}
use Rattle.board.specs.State.{BoardState}
use Rattle.board.specs.Transition.{answer, board_raise, on_prepare, install, on_install, append, on_append}
use Rattle.board_law.specs.board_tie.Follows.{Follows}
use Rattle.board_law.specs.board_tie.Shown.{Shows, flag, owner}
use Rattle.board_law.proofs.board_tie.Growing.{is_up}
use Rattle.board_law.proofs.board_tie.Moves.{stays, changes, says, one_sent, quiet}
use Rattle.board_law.proofs.board_tie.Showing.{grown_shows}

-- A promise that doesn't rise leaves the leader what it is.
leads_on : (t : Bool) (same : Bool) (leads : ℕ) → leads ≡ flag t → (if same then leads else 0) ≡ flag (t && same)
leads_on true true leads e = e
leads_on true false leads e = refl
leads_on false true leads e = e
leads_on false false leads e = refl

abbrev promised_of : ℕ → ℕ → ℕ → List Command → packets.Promised Command
promised_of place ballot last list = record { from = place; ballot = ballot; last = last; list = list }

promised_is : (place ballot b c : ℕ) (these those : List Command) → b ≡ c → these ≡ those → promised_of place ballot b these ≡ promised_of place ballot c those
promised_is place ballot b c these those last list = ap (λ n. promised_of place ballot n these) last ∙ ap (λ all. promised_of place ballot c all) list

abbrev accepted_of : ℕ → ℕ → ℕ → packets.Accepted
accepted_of place ballot length = record { from = place; ballot = ballot; length = length }

accepted_is : (place b c n m : ℕ) → b ≡ c → n ≡ m → accepted_of place b n ≡ accepted_of place c m
accepted_is place b c n m ballot count = ap (λ a. accepted_of place a n) ballot ∙ ap (λ a. accepted_of place c a) count

module _ (w : World Command) (place : ℕ) (s : BoardState) (shows : Shows place (w.board place) s) where
  raised_shows : (ballot : ℕ) → Shows place (following.raised (w.board place) ballot) (board_raise s ballot)
  raised_shows ballot =
      let x = w.board place in
      record {
        number = shows.number;
        up = shows.up;
        promised = refl;
        ballot = shows.ballot;
        list = shows.list;
        waiting = shows.waiting;
        leads = leads_on s.leads (x.promised == ballot) x.leads shows.leads ∙ ap (λ n. flag (s.leads && (n == ballot))) shows.promised;
        first = shows.first;
        second = shows.second;
        third = shows.third;
        done = shows.done;
        applied = shows.applied;
      }

  -- A board promises a ballot.
  pub prepare_comes : s.up ≡ true → (from ballot : ℕ) → In (record { ballot = ballot }) w.prepares → Follows w place (on_prepare s from ballot)
  unfolding on_prepare
  prepare_comes up from ballot sent =
      let x = w.board place in
      let v = promises w place ballot in
      let body = Promised ballot s.ballot s.list in
      by_test (Follows w place) (nat_lt ballot s.promised) (still s) _ (λ e. stays w place s shows)
      (λ e.
      changes w place v (following.raised x ballot) _
      (Promises place (record { ballot = ballot }) (record { sent = sent; up = is_up w place s shows up; least = grind (arith, nat_tests, e, shows.promised) }))
      refl (raised_shows ballot) (quiet x.applied [] refl)
      (one_sent v place s body from shows.number (inl (promised_is place ballot s.ballot x.ballot s.list x.list (sym shows.ballot) (sym shows.list)))))

  -- A list of a later ballot is accepted.
  installs_new : s.up ≡ true → (from ballot : ℕ) (list : List Command) → In (record { ballot = ballot; list = list }) w.installs → (w.board place).promised ≤ ballot → s.ballot < ballot
      → Follows w place (answer (record (board_raise s ballot) { ballot = ballot; list = list }) from)
  installs_new up from ballot list sent kept above =
      let x = w.board place in
      let p : packets.Install Command = record { ballot = ballot; list = list } in
      let v = installs w place p in
      let now = record (board_raise s ballot) { ballot = ballot; list = list } in
      let raise = raised_shows ballot in
      changes w place v (record (following.raised x ballot) { ballot = ballot; list = list }) (answer now from)
      (Installs place p (record { take = record { sent = sent; up = is_up w place s shows up; kept = kept }; above = subst (λ n. n < ballot) (sym shows.ballot) above }))
      refl
      (record {
        number = raise.number;
        up = raise.up;
        promised = refl;
        ballot = refl;
        list = refl;
        waiting = raise.waiting;
        leads = raise.leads;
        first = raise.first;
        second = raise.second;
        third = raise.third;
        done = raise.done;
        applied = raise.applied;
      })
      (quiet x.applied [] refl)
      (one_sent v place now (Accepted ballot (length list)) from shows.number (inl refl))

  -- Of the board's own ballot it is answered.
  installs_known : s.up ≡ true → (from ballot : ℕ) (list : List Command) → In (record { ballot = ballot; list = list }) w.installs → (w.board place).promised ≤ ballot → s.ballot ≡ ballot
      → Follows w place (answer (board_raise s ballot) from)
  installs_known up from ballot list sent kept same =
      let x = w.board place in
      let p : packets.Install Command = record { ballot = ballot; list = list } in
      let v = installs_again w place p in
      changes w place v (following.raised x ballot) (answer (board_raise s ballot) from)
      (InstallsAgain place p (record { take = record { sent = sent; up = is_up w place s shows up; kept = kept }; same = shows.ballot ∙ same }))
      refl (raised_shows ballot) (quiet x.applied [] refl)
      (one_sent v place (board_raise s ballot) (Accepted s.ballot (length s.list)) from shows.number
      (inl (accepted_is place s.ballot ballot (length s.list) (length x.list) same (sym (ap length shows.list)))))

  pub install_comes : Steps (start owner) w → s.up ≡ true → (from ballot : ℕ) (list : List Command) → In (record { ballot = ballot; list = list }) w.installs
      → Follows w place (on_install s from ballot list)
  unfolding on_install install
  install_comes reached up from ballot list sent =
      let low : (w.board place).ballot ≤ (w.board place).promised = ((always owner w reached).standing.stands place).promised in
      by_test (Follows w place) (nat_lt ballot s.promised) (still s) _ (λ e. stays w place s shows)
      (λ kept.
      let least : (w.board place).promised ≤ ballot = grind (arith, nat_tests, kept, shows.promised) in
      by_test (Follows w place) (nat_lt s.ballot ballot) (answer (record (board_raise s ballot) { ballot = ballot; list = list }) from) _
      (λ e. installs_new up from ballot list sent least (grind (arith, nat_tests, e)))
      (λ e.
      by_test (Follows w place) (s.ballot == ballot) (answer (board_raise s ballot) from) (still (board_raise s ballot))
      (λ same. installs_known up from ballot list sent least ((Decides-eqb s.ballot ballot).0 same))
      (λ other. absurd (grind (arith, nat_tests, e, other, low, least, shows.ballot)))))

  -- A command that follows the list is appended.
  appends_new : s.up ≡ true → (from ballot before : ℕ) (c : Command) → In (record { ballot = ballot; place = before; command = c }) w.appends → s.promised ≡ ballot → s.ballot ≡ ballot → length s.list ≡ before
      → Follows w place (answer (record s { list = s.list ++ (c ∷ []) }) from)
  appends_new up from ballot before c sent promised same next =
      let x = w.board place in
      let p : packets.Append Command = record { ballot = ballot; place = before; command = c } in
      let v = appends w place c in
      let now = record s { list = s.list ++ (c ∷ []) } in
      changes w place v (record x { list = x.list ++ (c ∷ []) }) (answer now from)
      (Appends place p (record {
        take = record { sent = sent; up = is_up w place s shows up; promised = shows.promised ∙ promised; ballot = shows.ballot ∙ same };
        next = ap length shows.list ∙ next;
      }))
      refl
      (grown_shows place x s shows c)
      (quiet x.applied [] refl)
      (one_sent v place now (Accepted s.ballot (length (s.list ++ (c ∷ [])))) from shows.number
      (inl (accepted_is place s.ballot x.ballot _ _ (sym shows.ballot) (sym (ap (λ list. length (list ++ (c ∷ []))) shows.list)))))

  -- One that the board has is answered.
  appends_known : s.up ≡ true → (from ballot before : ℕ) (c : Command) → In (record { ballot = ballot; place = before; command = c }) w.appends → s.promised ≡ ballot → s.ballot ≡ ballot → before < length s.list
      → Follows w place (answer s from)
  appends_known up from ballot before c sent promised same had =
      let x = w.board place in
      let p : packets.Append Command = record { ballot = ballot; place = before; command = c } in
      let v = appends_again w place in
      says w place v (answer s from)
      (AppendsAgain place p (record {
        take = record { sent = sent; up = is_up w place s shows up; promised = shows.promised ∙ promised; ballot = shows.ballot ∙ same };
        had = subst (λ list. before < length list) (sym shows.list) had;
      }))
      refl shows refl
      (one_sent v place s (Accepted s.ballot (length s.list)) from shows.number (inl (accepted_is place s.ballot x.ballot _ _ (sym shows.ballot) (sym (ap length shows.list)))))

  pub append_comes : s.up ≡ true → (from ballot count before : ℕ) (c : Command) → count ≡ suc before → In (record { ballot = ballot; place = before; command = c }) w.appends
      → Follows w place (on_append s from ballot count c)
  unfolding on_append append
  append_comes up from ballot count before c counts sent =
      by_test (Follows w place) ((s.promised == ballot) && (s.ballot == ballot)) _ (still s)
      (λ here.
      let promised = (Decides-eqb s.promised ballot).0 (and_first (s.promised == ballot) _ here) in
      let same = (Decides-eqb s.ballot ballot).0 (and_second (s.promised == ballot) _ here) in
      by_test (Follows w place) (length s.list + 1 == count) (answer (record s { list = s.list ++ (c ∷ []) }) from) _
      (λ e. appends_new up from ballot before c sent promised same (grind (arith, (Decides-eqb (length s.list + 1) count).0 e, counts)))
      (λ e.
      by_test (Follows w place) (nat_lt (length s.list) count) (still s) (answer s from)
      (λ less. stays w place s shows)
      (λ more. appends_known up from ballot before c sent promised same (grind (arith, nat_tests, more, counts)))))
      (λ e. stays w place s shows)
