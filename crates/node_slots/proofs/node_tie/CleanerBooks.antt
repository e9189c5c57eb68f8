-- What the cleaner's log does is a run of the small world that changes the books of that log alone; what filed segments say stays.
use Rattle.std.proofs.Common.{◌≡◌, ◌≤◌, ◌<◌, ◌⊎◌, ⊎_elim, ℕ, zero, suc, ◌&&◌, nat_lt, Bool, true, false, cond, List, [], ◌∷◌, length, map, take, drop, Option, Some, None, is_none, is_some, inl, inr, refl, sym, ap, subst, ◌∙◌, arith}
use Rattle.client_log.specs.declared.input.In.{In as LogIn}
use Rattle.client_log.specs.declared.input.In.TheVariants as log_in
use Rattle.client_log.specs.LogState.{LogState}
use Rattle.client_log.specs.Transition as log
use Rattle.indexmap.specs.IndexMap.{insert_entry}
use Rattle.log_flight.specs.declared.dirty.Change.{Change}
use Rattle.log_flight.specs.declared.flight.Fate.{Fate}
use Rattle.log_flight.specs.declared.flight.Fate.TheVariants.{Restripe, Settle, Wait}
use Rattle.log_flight.specs.Fate.{fate_of}
use Rattle.log_flight.specs.Flights as flights
use Rattle.log_flight.specs.Flights.{FlightState}
use Rattle.log_flight.specs.Items.{items_of}
use Rattle.xfs_base.proofs.BlockOrder.{same_block_exact}
use Rattle.xfs_base.proofs.Booleans.{by_test, and_first, contrary}
use Rattle.xfs_base.specs.Blocks.{same_block}
use Rattle.xfs_base.specs.declared.block.BlockId.{BlockId}
use Rattle.xfs_base.specs.Limits.{segment_blocks}
use Rattle.xfs_base.specs.Steps.{still}
use Rattle.xfs_base.proofs.Alls.{all_weaker}
use Rattle.token_law.specs.Books.{Row, Books, row_in, nothing_said, said, sealed, filed, reopened, with_empty}
use Rattle.token_law.specs.Net.{Net, Runs}
use Rattle.token_law.specs.Net.Happens.{SealsCopies, FilesCopies, Reopens}
use Rattle.token_law.specs.Net.Runs.{Begun, On}
use Rattle.token_law.specs.Owed.{SealsOriginals}
use Rattle.token_tie.proofs.Frames.{put_here}
use Rattle.node_slots.specs.node_tie.CleanerLogs.{its_log, IsCopy, AreCopies}
use Rattle.node_slots.specs.node_tie.LogRows.{LogSeen, row_of, told, rows_waiting, rows_told}
use Rattle.node_slots.specs.node_tie.Sight.{SameLog}
use Rattle.node_slots.proofs.node_tie.BooksLast.{Lasts, up_to, same_log, same_through, lasts_still, lasts_through, lasts_sealed, sealed_others, lasts_filed, filed_others, reopened_others, empty_others}
use Rattle.node_slots.proofs.node_tie.LogRows.{rows_told_of, take_within}
use Rattle.node_slots.proofs.node_tie.LogTurns.{IsFlown, flown_in, flies_seen, seal_seen, file_seen, restripe_seen}
use Rattle.node_slots.proofs.node_tie.SmallWorld.{runs_through}

-- rows that are copies stay so
pub copy_grown : (k m : Books) → Lasts k m → (b : BlockId) (row : Row) → IsCopy k b row → IsCopy m b row
copy_grown k m lasts b row copy = record {
  log = copy.log;
  segment = copy.segment;
  filed = up_to copy.segment (k.end copy.log) (m.end copy.log) copy.filed (lasts.filed copy.log);
  row_said = copy.row_said ∙ sym (ap (λ rows. row_in rows b) (lasts.rows copy.log copy.segment copy.filed));
}

pub copies_grown : (k m : Books) → Lasts k m → (rows : List (BlockId × Row)) → AreCopies k rows → AreCopies m rows
copies_grown k m lasts rows all =
    all_weaker (λ (r : BlockId × Row). IsCopy k r.0 r.1) (λ (r : BlockId × Row). IsCopy m r.0 r.1) (λ r. copy_grown k m lasts r.0 r.1) rows all

-- rows that are copies may be sealed
originals : (k : Books) (rows : List (BlockId × Row)) → AreCopies k rows → SealsOriginals k rows
originals k rows all = record { copies = λ b. found rows b all }
  where
    found : (rows : List (BlockId × Row)) (b : BlockId) → AreCopies k rows
        → (row_in rows b ≡ nothing_said) ⊎ ((l : ℕ) × (q : ℕ) × (q ≤ k.end l) × (row_in rows b ≡ said k l q b))
    found [] b all = inl refl
    found (r ∷ rows) b all =
        by_test (λ (row : Row). (row ≡ nothing_said) ⊎ ((l : ℕ) × (q : ℕ) × (q ≤ k.end l) × (row ≡ said k l q b))) (same_block r.0 b) r.1 (row_in rows b)
        (λ same. let c = all.0 in inr (c.log, c.segment, c.filed, c.row_said ∙ ap (said k c.log c.segment) (sym (same_block_exact r.0 b same))))
        (λ _. found rows b all.1)

-- ---- the small world runs on by changes of these books

module _ (members part : ℕ) (few : members ≤ its_log) where
  abbrev pub with_books : Net → Books → Net
  with_books n k = record n { books = k }

  abbrev AllRun : Books → Books → Type 0
  AllRun k m = (n : Net) → Runs true members part (with_books n k) (with_books n m)

  -- as the log goes on while the cleaner serves: what is in flight stays so, or is filed
  pub record BooksGo (k m : Books) : Type 0 where
    pub runs : AllRun k m
    pub lasts : Lasts k m
    pub others : (l : ℕ) → (l ≡ its_log → ⊥) → SameLog k m l
    pub flown : k.flying its_log ≡ true → m.rows its_log (suc (k.end its_log)) ≡ k.rows its_log (suc (k.end its_log))
    pub flies : k.flying its_log ≡ true → ((m.end its_log ≡ k.end its_log) × (m.flying its_log ≡ true)) ⊎ (k.end its_log < m.end its_log)

  pub books_stay : (k : Books) → BooksGo k k
  books_stay k = record { runs = λ n. Begun; lasts = lasts_still k; others = λ l other. same_log k l; flown = λ f. refl; flies = λ f. inl (refl, f) }

  pub books_through : (k m o : Books) → BooksGo k m → BooksGo m o → BooksGo k o
  books_through k m o a b = record {
    runs = λ n. runs_through (with_books n k) (with_books n m) (with_books n o) (a.runs n) (b.runs n);
    lasts = lasts_through k m o a.lasts b.lasts;
    others = λ l other. same_through k m o l (a.others l other) (b.others l other);
    flown = λ f. ⊎_elim (λ same. subst (λ e. o.rows its_log (suc e) ≡ m.rows its_log (suc e)) same.0 (b.flown same.1))
        (λ less. b.lasts.rows its_log (suc (k.end its_log)) less)
        (a.flies f) ∙ a.flown f;
    flies = λ f. ⊎_elim (λ same. ⊎_elim (λ still. inl (still.0 ∙ same.0, still.1)) (λ less. let e = same.0 in inr (omega arith)) (b.flies same.1))
        (λ less. let e = b.lasts.filed its_log in inr (omega arith)) (a.flies f);
  }

  -- as it is opened again
  pub record BooksReopen (k m : Books) : Type 0 where
    pub runs : AllRun k m
    pub others : (l : ℕ) → (l ≡ its_log → ⊥) → SameLog k m l

  pub books_reopen : (k : Books) (adopted : Bool) (count : ℕ) → (adopted ≡ true → k.flying its_log ≡ true)
      → BooksReopen k (with_empty count (reopened k its_log adopted) its_log)
  books_reopen k adopted count flies = record {
    runs = λ n. On Begun (Reopens its_log adopted count few flies);
    others = λ l other. same_through k (reopened k its_log adopted) _ l (reopened_others k its_log adopted l other)
        (empty_others count (reopened k its_log adopted) its_log l other);
  }

  -- ---- the log takes an input

  -- what it becomes: it is seen in the books that they come to, and what waits are copies still
  pub record LogGone (k : Books) (s : LogState) : Type 0 where
    pub next : Books
    pub goes : BooksGo k next
    pub seen : LogSeen next its_log s
    pub waits : AreCopies next (rows_waiting s)

  log_stays : (k : Books) (s : LogState) → LogSeen k its_log s → AreCopies k (rows_waiting s) → LogGone k s
  log_stays k s seen waits = record { next = k; goes = books_stay k; seen = seen; waits = waits }

  taken_copies : (k : Books) (n : ℕ) (cs : List (BlockId × Change)) → AreCopies k (map told cs) → AreCopies k (map told (take n cs))
  taken_copies k zero cs all = tt
  taken_copies k (suc n) [] all = tt
  taken_copies k (suc n) (c ∷ cs) all = (all.0, taken_copies k n cs all.1)

  left_copies : (k : Books) (n : ℕ) (cs : List (BlockId × Change)) → AreCopies k (map told cs) → AreCopies k (map told (drop n cs))
  left_copies k zero cs all = all
  left_copies k (suc n) [] all = tt
  left_copies k (suc n) (c ∷ cs) all = left_copies k n cs all.1

  put_copies : (k : Books) (cs : List (BlockId × Change)) (block : BlockId) (change : Change) → IsCopy k block (row_of change) → AreCopies k (map told cs)
      → AreCopies k (map told (insert_entry same_block cs block change))
  put_copies k [] block change copy all = (copy, tt)
  put_copies k (c ∷ cs) block change copy all =
      by_test (λ (rows : List (BlockId × Change)). AreCopies k (map told rows)) (same_block block c.0) ((c.0, change) ∷ cs)
      (c ∷ insert_entry same_block cs block change)
      (λ same. (subst (λ (b : BlockId). IsCopy k b (row_of change)) (sym (same_block_exact block c.0 same)) copy, all.1))
      (λ _. (all.0, put_copies k cs block change copy all.1))

  idle_is : (o : Option FlightState) → is_none o ≡ true → o ≡ None
  idle_is None t = refl
  idle_is (Some f) t = contrary t

  log_seals : (k : Books) (s : LogState) → s.flight ≡ None → LogSeen k its_log s → AreCopies k (rows_waiting s) → LogGone k (log.log_seal s).state
  unfolding log.log_seal log.log_launch
  log_seals k s idle seen waits =
      let rows = rows_told (items_of 0 (take segment_blocks s.dirty)) in
      let copies : AreCopies k rows = subst (AreCopies k) (sym (rows_told_of (take segment_blocks s.dirty) (take_within segment_blocks s.dirty)))
      (taken_copies k segment_blocks s.dirty waits) in
      let rests : k.flying its_log ≡ false = seen.flying ∙ ap is_some idle in
      record {
        next = sealed k its_log rows;
        goes = record {
          runs = λ n. On Begun (SealsCopies its_log rows few rests (originals k rows copies));
          lasts = lasts_sealed k its_log rows;
          others = sealed_others k its_log rows;
          flown = λ f. contrary (sym rests ∙ f);
          flies = λ f. contrary (sym rests ∙ f);
        };
        seen = seal_seen k its_log s seen;
        waits = copies_grown k (sealed k its_log rows) (lasts_sealed k its_log rows) _ (left_copies k segment_blocks s.dirty waits);
      }

  log_go_on_goes : (k : Books) (s : LogState) → LogSeen k its_log s → AreCopies k (rows_waiting s) → LogGone k (log.log_go_on s).state
  unfolding log.log_go_on
  log_go_on_goes k s seen waits =
      by_test (λ (d : log.Done). LogGone k d.state) (log.is_full s) (log.log_seal s) (still s)
      (λ full. log_seals k s (idle_is s.flight (and_first (log.is_idle s) _ full)) seen waits) (λ _. log_stays k s seen waits)

  -- settling is looked at: the segment in flight stays, is striped again, or is filed
  looked_goes : (k : Books) (before s : LogState) (f : FlightState) → k.flying its_log ≡ true → k.end its_log ≡ s.end.seq → IsFlown k its_log s f
      → LogSeen k its_log before → AreCopies k (rows_waiting before) → AreCopies k (rows_waiting s) → LogGone k (log.looked_at before s f).state
  unfolding log.looked_at log.settled log.restriped log.log_launch
  looked_goes k before s f flying end flown seen waited waits =
      by_test (λ (d : log.Done). LogGone k d.state) (log.can_follow s f (fate_of s.groups f)) (log.followed s f (fate_of s.groups f)) (still before)
      (λ _. by_fate (fate_of s.groups f)) (λ _. log_stays k before seen waited)
    where
      filing : BooksGo k (filed k its_log)
      filing = record {
        runs = λ n. On Begun (FilesCopies its_log few flying);
        lasts = lasts_filed k its_log;
        others = filed_others k its_log;
        flown = λ f. refl;
        flies = λ f. let here = put_here k.end its_log (suc (k.end its_log)) in inr (omega arith);
      }

      settles : LogGone (filed k its_log) (log.log_go_on (log.landed s f)).state → LogGone k (log.settled s f).state
      settles h = record { next = h.next; goes = books_through k (filed k its_log) h.next filing h.goes; seen = h.seen; waits = h.waits }

      restripes : LogGone k (log.restriped s f).state
      restripes = log_stays k (log.restriped s f).state (restripe_seen k its_log s f flying end flown) waits

      by_fate : (fate : Fate) → LogGone k (log.followed s f fate).state
      by_fate Restripe = restripes
      by_fate Settle =
          settles (log_go_on_goes (filed k its_log) (log.landed s f) (file_seen k its_log s f end flown)
          (copies_grown k (filed k its_log) (lasts_filed k its_log) _ waits))
      by_fate Wait = log_stays k (record s { flight = Some f }) (flies_seen k its_log s (record s { flight = Some f }) f flying end refl refl flown) waits

  -- what is put is a copy; segments of these items are none of the cleaner
  abbrev pub PutCopies : Books → LogIn → Type 0
  PutCopies k (log_in.Put block entry value) = IsCopy k block (record { version = entry.ver; value = value })
  PutCopies k (log_in.Parts items) = ⊥
  PutCopies k _ = Unit {0}

  -- in flight there is this, or nothing
  flight_or : (k : Books) (s : LogState) (P : Option FlightState → Type 0) → LogSeen k its_log s → P None
      → ((f : FlightState) → k.flying its_log ≡ true → IsFlown k its_log s f → P (Some f)) → P s.flight
  flight_or k s P seen none some = by s.flight refl
    where
      by : (o : Option FlightState) → s.flight ≡ o → P o
      by None fact = none
      by (Some f) fact = some f (seen.flying ∙ ap is_some fact) (flown_in k its_log s f fact seen)

  pub log_goes : (k : Books) (s : LogState) (i : LogIn) → LogSeen k its_log s → AreCopies k (rows_waiting s) → PutCopies k i
      → LogGone k (log.transition s i).state
  unfolding log.on_put log.on_seal log.on_acked log.on_maps log.on_tick
  log_goes k s (log_in.Put block entry value) seen waits copy =
      let t : LogState = log.waits s block (record { entry = entry; value = value }) in
      by_test (λ (d : log.Done). LogGone k d.state) (log.can_go_on t) (log.log_go_on t) (still s)
      (λ _. log_go_on_goes k t (record { end = seen.end; flying = seen.flying; flight = seen.flight })
      (put_copies k s.dirty block (record { entry = entry; value = value }) copy waits)) (λ _. log_stays k s seen waits)
  log_goes k s (log_in.Parts items) seen waits copy = absurd copy
  log_goes k s log_in.Seal seen waits copy =
      by_test (λ (d : log.Done). LogGone k d.state) (log.is_idle s && nat_lt 0 (length s.dirty) && log.has_next s.end.seq) (log.log_seal s) (still s)
      (λ may. log_seals k s
      (idle_is s.flight
      (and_first (log.is_idle s) (nat_lt 0 (length s.dirty)) (and_first (log.is_idle s && nat_lt 0 (length s.dirty)) (log.has_next s.end.seq) may))) seen waits)
      (λ _. log_stays k s seen waits)
  log_goes k s (log_in.Acked name index generation) seen waits copy =
      flight_or k s (λ o. LogGone k (acked_in o).state) seen (log_stays k s seen waits)
      (λ f flying flown. by_test (λ (d : log.Done). LogGone k d.state) (flights.is_of f name index generation) (log.looked_at s s (flights.flight_note f index))
      (still s)
      (λ _. looked_goes k s s (flights.flight_note f index) flying seen.end flown seen waits waits) (λ _. log_stays k s seen waits))
    where
      acked_in : Option FlightState → log.Done
      acked_in o = elim o [
        | None ↦ still s
        | Some f ↦ cond (flights.is_of f name index generation) (log.looked_at s s (flights.flight_note f index)) (still s)
      ]
  log_goes k s (log_in.Maps groups) seen waits copy =
      flight_or k s (λ o. LogGone k (mapped_in o).state) seen (log_stays k (record s { groups = groups }) again waits)
      (λ f flying flown. looked_goes k s (record s { groups = groups }) f flying seen.end flown seen waits waits)
    where
      again : LogSeen k its_log (record s { groups = groups })
      again = record { end = seen.end; flying = seen.flying; flight = seen.flight }

      mapped_in : Option FlightState → log.Done
      mapped_in o = elim o [
        | None ↦ still (record s { groups = groups })
        | Some f ↦ log.looked_at s (record s { groups = groups }) f
      ]
  log_goes k s log_in.Tick seen waits copy =
      flight_or k s (λ o. LogGone k (told_in o).state) seen (log_stays k s seen waits) (λ f _ _. log_stays k s seen waits)
    where
      told_in : Option FlightState → log.Done
      told_in o = elim o [
        | None ↦ still s
        | Some f ↦ record { state = s; outs = log.sending_send f }
      ]
