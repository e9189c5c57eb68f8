-- A leader hears what another board accepted: what is done is applied, and its list goes on.
use Rattle.std.proofs.Common.{◌≡◌, ◌==◌, ℕ, zero, suc, pred, max, ◌<◌, true, ◌&&◌, List, [], ◌∷◌, ◌++◌, length, take, drop, map, Option, Some, None, unwrap_or, refl, sym, ap, ◌∙◌, subst, arith, length-append, length-drop}
use Rattle.std.proofs.lemmas.Bool.Decides.{Decides-eqb}
use Rattle.xfs_base.proofs.Booleans.{by_test, and_first, and_second}
use Rattle.xfs_base.specs.Steps.{still}
use Rattle.board_protocol.specs.Basics as basics
use Rattle.board_protocol.specs.Basics.{In, put, Without}
use Rattle.board_protocol.specs.Leading.{known_then, done_then, hears}
use Rattle.board_protocol.specs.Packets as packets
use Rattle.board_protocol.specs.Step.{Steps}
use Rattle.board_protocol.specs.Step.Step.{Hears}
use Rattle.board_protocol.specs.World.{World, start}
use Rattle.board.specs.declared.command.Command.{Command}
use Rattle.board.specs.declared.lengths.Lengths.{Lengths}
use Rattle.board.specs.declared.output.Out.TheVariants.{Apply}
use Rattle.board.specs.Lengths.{greater, noted, greatest}
use Rattle.board.specs.State.{BoardState}
use Rattle.board.specs.Transition.{extend_waiting, board_settle, apply_done, heard_of, on_accepted}
use Rattle.board.specs.Waiting.{without}
use Rattle.board_law.specs.board_tie.Follows.{Follows, applied_in}
use Rattle.board_law.specs.board_tie.Sent.{AllSent}
use Rattle.board_law.specs.board_tie.Shown.{Shows, shown, owner}
use Rattle.board_law.proofs.board_tie.Beats.{told}
use Rattle.board_law.proofs.board_tie.Growing.{is_up, is_leader, waiting_follows}
use Rattle.board_law.proofs.board_tie.Lists.{leaves}
use Rattle.board_law.proofs.board_tie.Moves.{stays, changes, goes_on}

-- ---- lengths

shown_greater : (o : Option ℕ) (n : ℕ) → max (shown o) (suc n) ≡ shown (greater o n)
shown_greater None n = grind arith
shown_greater (Some m) n = grind arith

-- What the protocol's leader knows of the three boards is what the machine's does.
pub record Knows (known : ℕ → ℕ) (lengths : Lengths) : Type 0 where
  pub first : known 0 ≡ shown lengths.one
  pub second : known 1 ≡ shown lengths.two
  pub third : known 2 ≡ shown lengths.three

less_one : (o : Option ℕ) → pred (shown o) ≡ unwrap_or o 0
less_one None = refl
less_one (Some n) = refl

greatest_is : (known : ℕ → ℕ) (lengths : Lengths) → Knows known lengths → basics.greatest known ≡ greatest lengths
greatest_is known lengths k = grind (arith, k.first, k.second, k.third, less_one lengths.one, less_one lengths.two, less_one lengths.three)

-- A length is noted of one of the three boards.
notes : (known : ℕ → ℕ) (lengths : Lengths) (other from n : ℕ) → other < 3 → from ≡ suc other → Knows known lengths
    → Knows (put known other (max (known other) (suc n))) (noted lengths from n)
notes known lengths zero from n below from_is k =
    subst (λ f. Knows (put known 0 (max (known 0) (suc n))) (noted lengths f n)) (sym from_is)
    (record { first = ap (λ m. max m (suc n)) k.first ∙ shown_greater lengths.one n; second = k.second; third = k.third })
notes known lengths (suc zero) from n below from_is k =
    subst (λ f. Knows (put known 1 (max (known 1) (suc n))) (noted lengths f n)) (sym from_is)
    (record { first = k.first; second = ap (λ m. max m (suc n)) k.second ∙ shown_greater lengths.two n; third = k.third })
notes known lengths (suc (suc zero)) from n below from_is k =
    subst (λ f. Knows (put known 2 (max (known 2) (suc n))) (noted lengths f n)) (sym from_is)
    (record { first = k.first; second = k.second; third = ap (λ m. max m (suc n)) k.third ∙ shown_greater lengths.three n })
notes known lengths (suc (suc (suc other))) from n below from_is k = absurd (omega (arith, below))

-- ---- what is applied

applies : (commands : List Command) → applied_in (map Apply commands) ≡ commands
applies [] = refl
applies (c ∷ cs) = ap (λ rest. c ∷ rest) (applies cs)

no_packet : (v : World Command) (commands : List Command) → AllSent v (map Apply commands)
no_packet v [] = tt
no_packet v (c ∷ cs) = (tt, no_packet v cs)

longer : (these those : List Command) → length (these ++ drop (length these) those) ≡ max (length these) (length those)
longer these those = grind (arith, length-append these (drop (length these) those), length-drop (length these) those)

module _ (w : World Command) (place : ℕ) (s : BoardState) (shows : Shows place (w.board place) s) (reached : Steps (start owner) w) (up : s.up ≡ true) where
  -- What is done then is applied, and leaves waiting.
  hears_of : (from other ballot count : ℕ) → from ≡ suc other → other < 3 → (other ≡ place → ⊥) → In (record { from = other; ballot = ballot; length = count }) w.accepts
      → s.leads ≡ true → s.ballot ≡ ballot
      → Follows w place (told (board_settle (heard_of s from count)) (map Apply (drop s.applied (take (heard_of s from count).done s.list))))
  hears_of from other ballot count from_is among apart sent leads same =
      let x = w.board place in
      let p : packets.Accepted = record { from = other; ballot = ballot; length = count } in
      let now = heard_of s from count in
      let list = take now.done s.list in
      let rest = without list s.waiting in
      let knows : Knows (known_then x p) now.known = notes x.known s.known other from count among from_is (record { first = shows.first; second = shows.second; third = shows.third }) in
      let top : basics.greatest (known_then x p) ≡ now.done = greatest_is (known_then x p) now.known knows in
      let done_is : done_then x p ≡ list = ap (λ n. take n x.list) top ∙ ap (take now.done) shows.list in
      let v = hears w place p rest in
      let after = record x { known = known_then x p; done = basics.greatest (known_then x p); applied = x.applied ++ drop (length x.applied) (done_then x p); waiting = rest } in
      let given : x.applied ++ drop (length x.applied) (done_then x p) ≡ x.applied ++ drop s.applied list =
      ap (λ all. x.applied ++ drop (length x.applied) all) done_is ∙ ap (λ n. x.applied ++ drop n list) shows.applied
      in
      changes w place v after (told (board_settle now) (map Apply (drop s.applied list)))
      (Hears place p rest
      (record { sent = sent; up = is_up w place s shows up; leads = is_leader w place s shows leads; ballot = shows.ballot ∙ same; other = among; another = apart })
      (subst (λ all. Without all x.waiting rest) (sym done_is) (subst (λ waiting. Without list waiting rest) (sym shows.waiting) (leaves list s.waiting))))
      refl
      (record {
        number = shows.number;
        up = shows.up;
        promised = shows.promised;
        ballot = shows.ballot;
        list = shows.list;
        waiting = refl;
        leads = shows.leads;
        first = knows.first;
        second = knows.second;
        third = knows.third;
        done = top;
        applied = ap (λ all. length (x.applied ++ drop (length x.applied) all)) done_is ∙ longer x.applied list ∙ ap (λ n. max n (length list)) shows.applied;
      })
      (given ∙ ap (λ commands. x.applied ++ commands) (sym (applies (drop s.applied list))))
      (no_packet v (drop s.applied list))

  pub accepted_comes : (from other ballot count : ℕ) → from ≡ suc other → other < 3 → (other ≡ place → ⊥) → In (record { from = other; ballot = ballot; length = count }) w.accepts
      → Follows w place (on_accepted s from ballot count)
  unfolding on_accepted apply_done
  accepted_comes from other ballot count from_is among apart sent =
      by_test (Follows w place) (s.leads && (s.ballot == ballot)) _ (still s)
      (λ here.
      let now = heard_of s from count in
      let heard = hears_of from other ballot count from_is among apart sent (and_first s.leads _ here) ((Decides-eqb s.ballot ballot).0 (and_second s.leads _ here)) in
      goes_on w place reached (told (board_settle now) (map Apply (drop s.applied (take now.done s.list)))) (extend_waiting (board_settle now)) heard
      (waiting_follows heard.world place (board_settle now) heard.shows up))
      (λ e. stays w place s shows)
