-- What the log of a client does, as the small world has it: what waits is sealed, what is in flight goes on, and it is filed.
use Rattle.std.proofs.Common.{◌≡◌, ℕ, suc, ◌+◌, ◌<◌, Bool, true, false, ◌&&◌, nat_lt, List, [], ◌∷◌, map, take, drop, length, Option, Some, None, is_some, is_none, refl, sym, ap, subst, ◌∙◌, arith}
use Rattle.std.specs.Prelude.{fold}
use Rattle.std.specs.List.{filter_map}
use Rattle.std.proofs.lemmas.List.{drop-map, take-map}
use Rattle.client_log.specs.LogState.{LogState}
use Rattle.client_log.specs.Transition as log
use Rattle.client_serving.specs.declared.serving.Serving.{Serving}
use Rattle.client_serving.specs.Flights.{notes_settled}
use Rattle.group_map.specs.GroupMapState.{GroupMapState}
use Rattle.log_flight.specs.Flights.{FlightState}
use Rattle.log_flight.specs.Items.{items_of}
use Rattle.segment_format.specs.declared.segment.Item.{Item}
use Rattle.segment_format.specs.declared.segment.Item.TheVariants.{Block, Delta, Part}
use Rattle.segment_format.specs.declared.segment.Segment.{Segment}
use Rattle.segment_format.specs.Rows.{row_of}
use Rattle.token_client.specs.declared.held.Giving.{Giving}
use Rattle.token_client.specs.declared.input.In.TheVariants as input
use Rattle.token_client.specs.Laws.{IsSound}
use Rattle.token_client.specs.State.{TokensState, held_of}
use Rattle.token_client.specs.Transition.{on_settled}
use Rattle.token_client.proofs.AllInputs.{transition-follows}
use Rattle.token_law.specs.Books.{Books, AreOnce, row_in, sealed}
use Rattle.token_law.specs.Net.{Net, all_settled}
use Rattle.token_law.specs.Net.Happens.{Seals}
use Rattle.token_law.specs.Net.Runs.{Begun, On}
use Rattle.token_law.specs.Owed.{IsNewest, SealsNewest}
use Rattle.token_protocol.specs.Premises.{Premise}
use Rattle.xfs_base.specs.declared.block.BlockId.{BlockId}
use Rattle.xfs_base.specs.declared.segment.End.{End}
use Rattle.xfs_base.specs.Limits.{segment_blocks}
use Rattle.xfs_base.specs.Modes.{is_held}
use Rattle.xfs_base.specs.Steps.{still}
use Rattle.xfs_base.proofs.Booleans.{by_test, and_first, contrary}
use Rattle.node_slots.specs.node_tie.ClientLogs.{AreVersions, IsUnsettled}
use Rattle.node_slots.specs.node_tie.LogRows.{LogSeen, told, row_told, rows_told, rows_flown, rows_waiting}
use Rattle.node_slots.proofs.node_tie.ClientBearing.{Bears, IsValued, Stays, on_settled-bears}
use Rattle.node_slots.proofs.node_tie.ClientBooks.{onward_sealed, put_here, said_now, sealed_beyond, other_sealed}
use Rattle.node_slots.proofs.node_tie.ClientFrames as frames
use Rattle.node_slots.proofs.node_tie.ClientFrames.{HasNumbers}
use Rattle.node_slots.proofs.node_tie.ClientFrames.{Known, LogStands, grown_still}
use Rattle.node_slots.proofs.node_tie.ClientRows.{Rows, once_dropped, once_taken, some_dropped, some_taken}
use Rattle.node_slots.proofs.node_tie.ClientUnsettled.{AllUnsettled, all_sealed, taken_newest}
use Rattle.node_slots.proofs.node_tie.LogRows.{rows_told_of, take_within}
use Rattle.node_slots.proofs.node_tie.SmallWorld.{premise_by, premise_both}

-- ---- premises

pub premise_all : (logs : Bool) {A : Type 0} (P : A → Type 0) → ((a : A) → Premise logs (P a)) → Premise logs ((a : A) → P a)
premise_all true P f = f
premise_all false P f = tt

pub premise_at : (logs : Bool) {A : Type 0} (P : A → Type 0) → Premise logs ((a : A) → P a) → (a : A) → Premise logs (P a)
premise_at true P f a = f a
premise_at false P f a = tt

-- ---- versions are settled

valued_stays : Stays (λ b h. IsValued h)
valued_stays = record {
  same = λ b h g mode ver settled value q. (λ held. ap is_some value ∙ q (ap (λ m. is_held m) (sym mode) ∙ held));
  clean = λ b h g was now valued q. valued;
  lowers = λ b h g held was ver settled value q. (λ x. ap is_some value ∙ q held);
}

pub all_settled-sound : (t : TokensState) (rows : Rows) → IsSound t → IsSound (all_settled t rows)
all_settled-sound t [] h = h
all_settled-sound t (r ∷ rows) h =
    all_settled-sound (on_settled t r.0 r.1.version).state rows (transition-follows (λ b. Unit {0}) t h (input.Settled r.0 r.1.version) (λ b k. tt)).sound

module _ (P : BlockId → Option Giving → Type 0) (E : List ℕ → Type 0) (life : ℕ) where
  pub all_settled-bears : (t : TokensState) (rows : Rows) → Bears P E (λ b h. IsValued h) life t → Bears P E (λ b h. IsValued h) life (all_settled t rows)
  all_settled-bears t [] h = h
  all_settled-bears t (r ∷ rows) h =
      all_settled-bears (on_settled t r.0 r.1.version).state rows
      (on_settled-bears P E (λ b h. IsValued h) life valued_stays t r.0 r.1.version (λ k valued. valued) h)

-- the tokens that the node has then
noted : (s : Serving) (segment : Segment) (all items : List Item)
    → fold notes_settled s (filter_map (row_of segment) items) ≡ record s { tokens = all_settled s.tokens (filter_map (row_told all) items) }
unfolding notes_settled
noted s segment all [] = refl
noted s segment all (Block block value ∷ items) = noted s segment all items
noted s segment all (Delta block ver hop item ∷ items) = noted (record s { tokens = (on_settled s.tokens block ver).state }) segment all items
noted s segment all (Part slot rows ∷ items) = noted s segment all items

pub notes_settled_are : (s : Serving) (segment : Segment)
    → fold notes_settled s (filter_map (row_of segment) segment.items) ≡ record s { tokens = all_settled s.tokens (rows_told segment.items) }
notes_settled_are s segment = noted s segment segment.items segment.items

module _ (logs : Bool) (members part limit c life room highest : ℕ) where
  abbrev Stands : Net → TokensState → LogState → ℕ → ℕ → Type 0
  Stands n t l number inc = frames.Stands logs members part limit c life room highest n t l number inc

  abbrev Passes : Net → TokensState → LogState → ℕ → ℕ → Type 0
  Passes n t l number inc = frames.Passes logs members part limit c life room highest n t l number inc

  -- of all blocks just what is dirty waits, or is in flight
  pub all_known : (l : LogState) (t : TokensState) → ((b : BlockId) → Known logs l b (held_of t.blocks b))
      → Premise logs (AllUnsettled t (row_in (rows_waiting l)) (row_in (rows_flown l.flight)))
  all_known l t known =
      premise_all logs (λ b. IsUnsettled (held_of t.blocks b) (row_in (rows_waiting l) b) (row_in (rows_flown l.flight) b)) (λ b. (known b).1)

  -- beside another log, and with other books, it stands so by what is known of its blocks and of the log then
  stands_beside : (n : Net) (books : Books) (t : TokensState) (l m : LogState) (number inc : ℕ) → ((b : BlockId) → Known logs m b (held_of t.blocks b))
      → Premise logs (LogStands books c m) → Premise logs (HasNumbers m.end.seq room highest) → Stands n t l number inc
      → Stands (record n { books = books }) t m number inc
  stands_beside n books t l m number inc held logged numbers h = record {
    up = h.up;
    tokens = h.tokens;
    number_is = h.number_is;
    inc_is = h.inc_is;
    sound = h.sound;
    bears = record { life_is = h.bears.life_is; promised = h.bears.promised; giving = h.bears.giving; held = held };
    logged = logged;
    numbers = numbers;
  }

  -- a log that waits for and flies the same is seen as well
  pub restands : (n : Net) (t : TokensState) (l m : LogState) (number inc : ℕ) → m.end ≡ l.end → rows_waiting m ≡ rows_waiting l
      → rows_flown m.flight ≡ rows_flown l.flight → Premise logs (LogSeen n.books c m) → Stands n t l number inc → Stands n t m number inc
  restands n t l m number inc end waits flies seen h =
      stands_beside n n.books t l m number inc
      (λ b. subst (λ (w : Rows). IsValued (held_of t.blocks b) × Premise logs (IsUnsettled (held_of t.blocks b) (row_in w b) (row_in (rows_flown m.flight) b)))
      (sym waits)
      (subst (λ (f : Rows). IsValued (held_of t.blocks b) × Premise logs (IsUnsettled (held_of t.blocks b) (row_in (rows_waiting l) b) (row_in f b)))
      (sym flies)
      (h.bears.held b)))
      (premise_both logs (λ (x : LogSeen n.books c m) (k : LogStands n.books c l). record {
        seen = x;
        said = k.said ∙ sym flies;
        beyond = k.beyond;
        waits_once = subst AreOnce (sym waits) k.waits_once;
        flies_once = subst AreOnce (sym flies) k.flies_once;
        waits_some = subst AreVersions (sym waits) k.waits_some;
        flies_some = subst AreVersions (sym flies) k.flies_some;
      }) seen h.logged)
      (premise_by logs (λ (k : HasNumbers l.end.seq room highest). subst (λ (e : End). HasNumbers e.seq room highest) (sym end) k) h.numbers) h

  -- the same content flies, by this attempt
  pub reflown : (n : Net) (t : TokensState) (l : LogState) (f g : FlightState) (number inc : ℕ) → g.segment.items ≡ f.segment.items
      → g.segment.name.seq ≡ f.segment.name.seq
      → Stands n t (record l { flight = Some f }) number inc → Stands n t (record l { flight = Some g }) number inc
  reflown n t l f g number inc items seq h =
      restands n t (record l { flight = Some f }) (record l { flight = Some g }) number inc refl refl (ap rows_told items)
      (premise_by logs (λ (x : LogStands n.books c (record l { flight = Some f })). record {
        end = x.seen.end;
        flying = x.seen.flying;
        flight = (seq ∙ x.seen.flight.0, x.seen.flight.1 ∙ ap rows_told (sym items));
      }) h.logged) h

  -- the groups are other ones
  pub regrouped : (n : Net) (t : TokensState) (l : LogState) (groups : GroupMapState) (number inc : ℕ) → Stands n t l number inc
      → Stands n t (record l { groups = groups }) number inc
  regrouped n t l groups number inc h =
      restands n t l (record l { groups = groups }) number inc refl refl refl
      (premise_by logs (λ (x : LogStands n.books c l). record { end = x.seen.end; flying = x.seen.flying; flight = x.seen.flight }) h.logged) h

  -- what can't be where logs keep their word is seen beside any log
  pub stands_any : (n : Net) (t : TokensState) (l m : LogState) (number inc : ℕ) → Premise logs ⊥ → Stands n t l number inc → Stands n t m number inc
  stands_any n t l m number inc never h =
      stands_beside n n.books t l m number inc (λ b. ((h.bears.held b).0, premise_by logs (λ (no : ⊥). absurd no) never))
      (premise_by logs (λ (no : ⊥). absurd no) never) (premise_by logs (λ (no : ⊥). absurd no) never) h

  pub passes_still : (n : Net) (t : TokensState) (l : LogState) (number inc : ℕ) → Stands n t l number inc → Passes n t l number inc
  passes_still n t l number inc h = record { next = n; grown = grown_still logs members part c n; stands = h }

  -- ---- what waits is sealed

  module _ (pos : 0 < c) (less : c < members) where
    module _ (n : Net) (t : TokensState) (l : LogState) (number inc : ℕ) (idle : l.flight ≡ None) (h : Stands n t l number inc) where
      abbrev first : List Item
      first = items_of 0 (take segment_blocks l.dirty)

      abbrev rows : Rows
      rows = rows_told first

      rows_are : rows ≡ take segment_blocks (rows_waiting l)
      rows_are = rows_told_of (take segment_blocks l.dirty) (take_within segment_blocks l.dirty) ∙ sym (take-map told segment_blocks l.dirty)

      rest_are : map told (drop segment_blocks l.dirty) ≡ drop segment_blocks (rows_waiting l)
      rest_are = sym (drop-map told segment_blocks l.dirty)

      abbrev k : Books
      k = n.books

      abbrev after_seal : Net
      after_seal = record n { books = sealed k c rows }

      before : Premise logs (AllUnsettled t (row_in (rows_waiting l)) (row_in []))
      before = premise_by logs
          (λ (p : AllUnsettled t (row_in (rows_waiting l)) (row_in (rows_flown l.flight))).
          subst (λ (o : Option FlightState). AllUnsettled t (row_in (rows_waiting l)) (row_in (rows_flown o))) idle p)
          (all_known l t h.bears.held)

      newest : Premise logs (SealsNewest (n.tokens c) rows)
      newest = premise_both logs
          (λ (p : AllUnsettled t (row_in (rows_waiting l)) (row_in [])) (x : LogStands k c l). subst (λ (u : TokensState). SealsNewest u rows) (sym h.tokens)
          (record {
            once = subst AreOnce (sym rows_are) (once_taken segment_blocks (rows_waiting l) x.waits_once);
            newest = λ b. subst (λ (r : Rows). IsNewest (held_of t.blocks b) (row_in r b)) (sym rows_are)
                (taken_newest segment_blocks (rows_waiting l) b (held_of t.blocks b) x.waits_once (p b).newest);
          })) before h.logged

      unsettled : Premise logs (AllUnsettled t (row_in (map told (drop segment_blocks l.dirty))) (row_in rows))
      unsettled = premise_both logs
          (λ (p : AllUnsettled t (row_in (rows_waiting l)) (row_in [])) (x : LogStands k c l).
          subst (λ (w : Rows). AllUnsettled t (row_in w) (row_in rows)) (sym rest_are)
          (subst (λ (f : Rows). AllUnsettled t (row_in (drop segment_blocks (rows_waiting l))) (row_in f)) (sym rows_are)
          (all_sealed t segment_blocks (rows_waiting l) x.waits_once p))) before h.logged

      next_is : (e : ℕ) → e + 1 ≡ suc e
      next_is e = omega arith

      idle_flies : LogStands k c l → k.flying c ≡ false
      idle_flies x = x.seen.flying ∙ ap (λ (o : Option FlightState). is_some o) idle

      logged_then : Premise logs (LogStands (sealed k c rows) c (log.log_seal l).state)
      unfolding log.log_seal log.log_launch
      logged_then = premise_by logs (λ (x : LogStands k c l). record {
        seen = record { end = x.seen.end; flying = put_here k.flying c true; flight = (next_is l.end.seq, said_now k c rows) };
        said = said_now k c rows;
        beyond = sealed_beyond k c rows x.beyond;
        waits_once = subst AreOnce (sym rest_are) (once_dropped segment_blocks (rows_waiting l) x.waits_once);
        flies_once = subst AreOnce (sym rows_are) (once_taken segment_blocks (rows_waiting l) x.waits_once);
        waits_some = subst AreVersions (sym rest_are) (some_dropped segment_blocks (rows_waiting l) x.waits_some);
        flies_some = subst AreVersions (sym rows_are) (some_taken segment_blocks (rows_waiting l) x.waits_some);
      }) h.logged

      pub sealed_passes : Passes n t (log.log_seal l).state number inc
      unfolding log.log_seal log.log_launch
      sealed_passes = record {
        next = after_seal;
        grown = record {
          runs = On Begun (Seals c rows pos less h.up
              (premise_by logs (λ (x : LogStands k c l). idle_flies x) h.logged) newest);
          others = λ d other. (refl, refl);
          slots = λ e. refl;
          grows = λ x i. i;
          books = λ d other. other_sealed k c rows d other;
          acts = (grown_still logs members part c n).acts;
          own = premise_by logs (λ (x : LogStands k c l). onward_sealed k c rows (idle_flies x)) h.logged;
        };
        stands = stands_beside n (sealed k c rows) t l (log.log_seal l).state number inc (λ b. (
          (h.bears.held b).0,
          premise_at logs (λ b. IsUnsettled (held_of t.blocks b) (row_in (map told (drop segment_blocks l.dirty)) b) (row_in rows b)) unsettled b,
        )) logged_then h.numbers h;
      }

    idle_is : (o : Option FlightState) → is_none o ≡ true → o ≡ None
    idle_is None h = refl
    idle_is (Some f) h = contrary h

    pub on_seal_passes : (n : Net) (t : TokensState) (l : LogState) (number inc : ℕ) → Stands n t l number inc → Passes n t (log.on_seal l).state number inc
    unfolding log.on_seal
    on_seal_passes n t l number inc h =
        by_test (λ (d : log.Done). Passes n t d.state number inc) (log.is_idle l && nat_lt 0 (length l.dirty) && log.has_next l.end.seq) (log.log_seal l)
        (still l)
        (λ x. sealed_passes n t l number inc
        (idle_is l.flight
        (and_first (log.is_idle l) (nat_lt 0 (length l.dirty)) (and_first (log.is_idle l && nat_lt 0 (length l.dirty)) (log.has_next l.end.seq) x))) h)
        (λ x. passes_still n t l number inc h)

    pub log_go_on_passes : (n : Net) (t : TokensState) (l : LogState) (number inc : ℕ) → Stands n t l number inc → Passes n t (log.log_go_on l).state number inc
    unfolding log.log_go_on
    log_go_on_passes n t l number inc h =
        by_test (λ (d : log.Done). Passes n t d.state number inc) (log.is_full l) (log.log_seal l) (still l)
        (λ x. sealed_passes n t l number inc (idle_is l.flight (and_first (log.is_idle l) _ x)) h) (λ x. passes_still n t l number inc h)
