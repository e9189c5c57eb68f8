-- Each event of the cleaner is a run of the small world, in which the books of its log alone change, and its acts are done.
use Rattle.std.proofs.Common.{◌≡◌, ◌≤◌, ℕ, suc, Bool, true, false, cond, List, map, Option, Some, None, All, refl, sym, ap, subst, ◌∙◌}
use Rattle.std.proofs.lemmas.List.Elements.{recursion_from_All}
use Rattle.std.specs.Prelude.{IfSome}
use Rattle.client_log.specs.LogState.{LogState}
use Rattle.log_flight.specs.Flights.{FlightState}
use Rattle.log_owner.specs.declared.opened.Opened.{Opened}
use Rattle.log_owner.specs.declared.opened.Progress.{Progress}
use Rattle.log_owner.specs.declared.opened.Progress.TheVariants as progress
use Rattle.log_owner.specs.declared.opening.Opening as openings
use Rattle.log_owner.specs.Opening as opening
use Rattle.log_owner.specs.Opening.{Went}
use Rattle.node_base.specs.Beginning.{next_item}
use Rattle.node_base.specs.declared.effects.Effect.{Effect}
use Rattle.node_base.specs.declared.peers.Peers.{Peers}
use Rattle.node_base.specs.Effects.{acts_of}
use Rattle.node_base.specs.Shape.{is_well_formed}
use Rattle.cleaner_serving.specs.declared.emptying.Emptying.{Emptying}
use Rattle.cleaner_node.specs.CleanerEvents.{Went_to, crash, after_opening, restart, down_wishes, opening_wishes, begun_life, wish_at, down_at, opening_at, on_begin, cleaner_hear, on_deliver, on_time, happens, phase_has_room, takes}
use Rattle.cleaner_node.specs.declared.cleaner.Cleaner.{Cleaner as CleanerNode}
use Rattle.cleaner_node.specs.declared.cleaner.Phase.{Phase}
use Rattle.cleaner_node.specs.declared.cleaner.Phase.TheVariants.{Down, Opening, Serving as Serves}
use Rattle.cleaner_node.specs.declared.cleaner.Wish.{Wish}
use Rattle.cleaner_node.specs.declared.cleaner.Wish.TheVariants.{Crash, Restart, Clean}
use Rattle.cleaner_job.specs.declared.lasting.Lasting.{Lasting}
use Rattle.token_law.specs.Books.{Books, reopened, with_empty}
use Rattle.token_law.specs.Net.{Net, Runs, acted}
use Rattle.token_law.specs.Net.Runs.{Begun}
use Rattle.token_protocol.specs.Premises.{Premise}
use Rattle.wire_msg.specs.declared.packet.Do.{Do}
use Rattle.wire_msg.specs.declared.packet.Do.TheVariants.{Begin, Deliver, Tick}
use Rattle.wire_msg.specs.declared.packet.Packet.{Packet}
use Rattle.xfs_base.specs.declared.node.NodeId.TheVariants.{Cleaner}
use Rattle.xfs_base.specs.Steps.{still}
use Rattle.node_slots.specs.node_tie.CleanerEvents.{CleanerDoes, IsTaken}
use Rattle.node_slots.specs.node_tie.CleanerLogs.{its_log, AreCopies, CleanerCopies, ReopensAt, EndsAt, CleanerTold, PacketTold, InTime, OwnGoes, CleanerRuns, after_cleaner}
use Rattle.node_slots.specs.node_tie.LogRows.{LogSeen, rows_waiting, told}
use Rattle.node_slots.specs.node_tie.Sight.{SameLog}
use Rattle.node_slots.proofs.node_tie.BooksLast.{Lasts, same_log}
use Rattle.node_slots.proofs.node_tie.CleanerBooks.{books_reopen, books_stay, copies_grown}
use Rattle.node_slots.proofs.node_tie.CleanerServing.{GoneTo, event_gone, job_grown}
use Rattle.node_slots.proofs.node_tie.LogTurns.{IsFlown, opened_seen, reopened_rests}
use Rattle.node_slots.proofs.node_tie.SmallWorld.{neutral_acts, runs_through, says_all}

-- an event is taken, or leaves the cleaner as it was
taken_or : (peers : Peers) (p : Phase) (what : Do) (Then : Went_to → Type 0)
    → (IsTaken (record { peers = peers; phase = p }) what → Then (takes peers p what)) → Then (still p) → Then (takes peers p what)
unfolding on_deliver
taken_or peers p what Then taken rests = by_room (phase_has_room p) refl what taken
  where
    by_formed : (room : phase_has_room p ≡ true) (packet : Packet) (t : Bool) → is_well_formed peers packet ≡ t
        → (IsTaken (record { peers = peers; phase = p }) (Deliver packet) → Then (takes peers p (Deliver packet)))
        → Then (takes peers p (Deliver packet))
    by_formed room packet true formed taken =
        taken (record { room = room; formed = λ q same. subst (λ (x : Packet). is_well_formed peers x ≡ true) (let e : packet ≡ q = cc in e) formed })
    by_formed room packet false formed taken =
        subst (λ t. Then (cond t (on_deliver peers p packet) (still p))) (sym room)
        (subst (λ t. Then (cond t (cleaner_hear p packet) (still p))) (sym formed) rests)

    by_what : (room : phase_has_room p ≡ true) (what : Do) → (IsTaken (record { peers = peers; phase = p }) what → Then (takes peers p what)) → Then (takes peers p what)
    by_what room Begin taken = taken (record { room = room; formed = λ q clash. absurd cc })
    by_what room (Deliver packet) taken = by_formed room packet (is_well_formed peers packet) refl taken
    by_what room Tick taken = taken (record { room = room; formed = λ q clash. absurd cc })

    by_room : (t : Bool) → phase_has_room p ≡ t → (what : Do) → (IsTaken (record { peers = peers; phase = p }) what → Then (takes peers p what)) → Then (takes peers p what)
    by_room true room what taken = by_what room what taken
    by_room false room what taken = subst (λ t. Then (cond t (happens peers p what) (still p))) (sym room) rests

module _ (members part : ℕ) (few : members ≤ its_log) (adopted : Bool) where
  -- it goes on from one phase to another, by changes of the books of its log
  record Turned (k : Books) (p q : Phase) : Type 0 where
    next : Books
    runs : (n : Net) → Runs true members part (record n { books = k }) (record n { books = next })
    others : (l : ℕ) → (l ≡ its_log → ⊥) → SameLog k next l
    own : OwnGoes k next adopted p q
    copies : CleanerCopies next q

  -- it doesn't serve then, and leaves them as they were
  to_down : (k : Books) (p : Phase) (l : Lasting) → Turned k p (Down l)
  to_down k p l = record { next = k; runs = λ n. Begun; others = λ x other. same_log k x; own = own p; copies = tt }
    where
      own : (p : Phase) → OwnGoes k k adopted p (Down l)
      own (Down x) = refl
      own (Opening x o) = refl
      own (Serves e) = refl

  to_opening : (k : Books) (p : Phase) (l : Lasting) (o : openings.Opening) → Turned k p (Opening l o)
  to_opening k p l o = record { next = k; runs = λ n. Begun; others = λ x other. same_log k x; own = own p; copies = tt }
    where
      own : (p : Phase) → OwnGoes k k adopted p (Opening l o)
      own (Down x) = refl
      own (Opening x q) = refl
      own (Serves e) = refl

  -- one that serves goes on, or falls
  serving : (k : Books) (e : Emptying) (p : Phase) (m : Books) → GoneTo members part few k m p → Turned k (Serves e) p
  serving k e (Down l) m h = to_down k (Serves e) l
  serving k e (Opening l o) m h = to_opening k (Serves e) l o
  serving k e (Serves f) m h = record {
    next = m;
    runs = h.0.runs;
    others = h.0.others;
    own = record { rises = h.0.lasts.filed its_log; filed = h.0.lasts.rows its_log; flown = h.0.flown };
    copies = h.1;
  }

  as_it_was : (k : Books) (p : Phase) → CleanerCopies k p → Turned k p p
  as_it_was k (Down l) h = to_down k (Down l) l
  as_it_was k (Opening l o) h = to_opening k (Opening l o) l o
  as_it_was k (Serves e) h = serving k e (Serves e) k (books_stay members part few k, h)

  -- ---- the end of an opening

  opens : (k : Books) (before l : Lasting) (q : openings.Opening) (o : Opened) → ReopensAt k adopted o
      → Turned k (Opening before q) (after_opening l (progress.Opened o)).state
  unfolding after_opening
  opens k before l q o ends =
      let b = books_reopen members part few k adopted ends.count ends.flies in
      record {
        next = with_empty ends.count (reopened k its_log adopted) its_log;
        runs = b.runs;
        others = b.others;
        own = (ends.count, refl);
        copies = record {
          seen = opened_seen ends.count (reopened k its_log adopted) its_log o.log (reopened_rests k its_log adopted) ends.end ends.nothing_flies;
          waits = subst (λ dirty. AreCopies (with_empty ends.count (reopened k its_log adopted) its_log) (map told dirty)) (sym ends.nothing_waits) tt;
          job = tt;
        };
      }

  ended : (k : Books) (before l : Lasting) (q : openings.Opening) (p : Progress) → EndsAt k adopted p → Turned k (Opening before q) (after_opening l p).state
  unfolding after_opening
  ended k before l q (progress.Opening o) ends = to_opening k (Opening before q) l o
  ended k before l q (progress.Opened o) ends = opens k before l q o ends
  ended k before l q (progress.Lost seg) ends = to_down k (Opening before q) _

  -- ---- the next item

  down_wished : (k : Books) (before l : Lasting) (servers number : ℕ) (wish : Wish) → Turned k (Down before) (down_wishes servers l number wish).state
  unfolding restart
  down_wished k before l servers number Restart = to_opening k (Down before) _ _
  down_wished k before l servers number Crash = to_down k (Down before) l
  down_wished k before l servers number (Clean count) = to_down k (Down before) l

  down_begun : (k : Books) (before l : Lasting) (servers : ℕ) (item : Option ℕ) → Turned k (Down before) (down_at servers l item).state
  down_begun k before l servers None = to_down k (Down before) l
  down_begun k before l servers (Some number) = down_wished k before l servers number (wish_at l.items number)

  opening_wished : (k : Books) (before l : Lasting) (o : openings.Opening) (number : ℕ) (wish : Wish)
      → Turned k (Opening before o) (opening_wishes l o number wish).state
  unfolding crash
  opening_wished k before l o number Crash = to_down k (Opening before o) _
  opening_wished k before l o number Restart = to_opening k (Opening before o) l o
  opening_wished k before l o number (Clean count) = to_opening k (Opening before o) l o

  opening_begun : (k : Books) (before l : Lasting) (o : openings.Opening) (item : Option ℕ) → Turned k (Opening before o) (opening_at l o item).state
  opening_begun k before l o None = to_opening k (Opening before o) l o
  opening_begun k before l o (Some number) = opening_wished k before l o number (wish_at l.items number)

  -- ---- one that doesn't serve

  abbrev IsAway : Phase → Type 0
  IsAway (Down l) = Unit {0}
  IsAway (Opening l o) = Unit {0}
  IsAway (Serves e) = ⊥

  begins : (k : Books) (servers : ℕ) (p : Phase) → IsAway p → Turned k p (on_begin servers p).state
  unfolding on_begin
  begins k servers (Down l) away = down_begun k l (begun_life l) servers (next_item l.items)
  begins k servers (Opening l o) away = opening_begun k l (begun_life l) o (next_item l.items)
  begins k servers (Serves e) away = absurd away

  heard : (k : Books) (p : Phase) (packet : Packet) → IsAway p → PacketTold k adopted p packet → Turned k p (cleaner_hear p packet).state
  unfolding cleaner_hear
  heard k (Down l) packet away owed = to_down k (Down l) l
  heard k (Opening l o) packet away owed =
      (let w : Went = opening.opening_take o l.questions packet in ended k l (record l { questions = w.questions }) o w.progress owed)
  heard k (Serves e) packet away owed = absurd away

  ticked : (k : Books) (p : Phase) → IsAway p → InTime k adopted p → Turned k p (on_time p).state
  unfolding on_time
  ticked k (Down l) away owed = to_down k (Down l) l
  ticked k (Opening l o) away owed =
      (let w : Went = opening.on_tick o l.questions in ended k l (record l { questions = w.questions }) o w.progress owed)
  ticked k (Serves e) away owed = absurd away

  happened : (k : Books) (peers : Peers) (p : Phase) (what : Do) → IsAway p → IsTaken (record { peers = peers; phase = p }) what
      → CleanerTold k adopted p what → Turned k p (takes peers p what).state
  unfolding on_deliver
  happened k peers p Begin away taken owed = subst (λ t. Turned k p (cond t (on_begin peers.servers p) (still p)).state) (sym taken.room) (begins k peers.servers p away)
  happened k peers p (Deliver packet) away taken owed =
      subst (λ t. Turned k p (cond t (on_deliver peers p packet) (still p)).state) (sym taken.room)
      (subst (λ t. Turned k p (cond t (cleaner_hear p packet) (still p)).state) (sym (taken.formed packet refl)) (heard k p packet away owed))
  happened k peers p Tick away taken owed = subst (λ t. Turned k p (cond t (on_time p) (still p)).state) (sym taken.room) (ticked k p away owed)

  -- ---- any

  taken_so : (k : Books) (peers : Peers) (p : Phase) (what : Do) → CleanerCopies k p → IsTaken (record { peers = peers; phase = p }) what
      → CleanerTold k adopted p what → Turned k p (takes peers p what).state
  taken_so k peers (Serves e) what h taken owed =
      (let g = event_gone members part few adopted k (record { peers = peers; phase = Serves e }) what e refl owed h in
      serving k e (takes peers (Serves e) what).state g.next g.at)
  taken_so k peers (Down l) what h taken owed = happened k peers (Down l) what tt taken owed
  taken_so k peers (Opening l o) what h taken owed = happened k peers (Opening l o) what tt taken owed

  turned : (k : Books) (peers : Peers) (p : Phase) (what : Do) → CleanerCopies k p
      → (IsTaken (record { peers = peers; phase = p }) what → CleanerTold k adopted p what) → Turned k p (takes peers p what).state
  turned k peers p what h owed =
      taken_or peers p what (λ w. Turned k p w.state) (λ taken. taken_so k peers p what h taken (owed taken)) (as_it_was k p h)

-- ---- the whole event

done_last : (logs : Bool) (members part : ℕ) (n : Net) (books : Books) (now life : ℕ) (outs : List Effect) → All (CleanerDoes part now life) outs
    → Runs logs members part n (record n { books = books }) → Runs logs members part n (after_cleaner n books outs)
done_last logs members part n books now life outs does runs =
    let m : Net = record n { books = books } in
    runs_through n m (acted m (acts_of Cleaner outs)) runs
    (says_all logs members part m (acts_of Cleaner outs)
    (neutral_acts Cleaner (CleanerDoes part now life) (λ a neutral. neutral) outs (recursion_from_All (CleanerDoes part now life) outs does)))

pub cleaner_runs : (logs : Bool) (members part : ℕ) (n : Net) → Premise logs (members ≤ its_log) → (adopted : Bool) (cleaner : CleanerNode) (what : Do)
    → Premise logs (CleanerCopies n.books cleaner.phase) → Premise logs (IsTaken cleaner what → CleanerTold n.books adopted cleaner.phase what) → (now life : ℕ)
    → All (CleanerDoes part now life) (takes cleaner.peers cleaner.phase what).outs
    → CleanerRuns logs members part n adopted cleaner.phase (takes cleaner.peers cleaner.phase what).state (takes cleaner.peers cleaner.phase what).outs
cleaner_runs true members part n few adopted cleaner what copies told now life does =
    let t = turned members part few adopted n.books cleaner.peers cleaner.phase what copies
    (λ taken. told (record { room = taken.room; formed = taken.formed })) in
    record {
      books = t.next;
      runs = done_last true members part n t.next now life (takes cleaner.peers cleaner.phase what).outs does (t.runs n);
      others = t.others;
      own = t.own;
      copies = t.copies;
    }
cleaner_runs false members part n few adopted cleaner what copies told now life does = record {
  books = n.books;
  runs = done_last false members part n n.books now life (takes cleaner.peers cleaner.phase what).outs does Begun;
  others = λ l other. same_log n.books l;
  own = tt;
  copies = tt;
}

-- ---- what others do

flown_on : (k m : Books) (l : LogState) → SameLog k m its_log → LogSeen k its_log l → LogSeen m its_log l
flown_on k m l same seen = record {
  end = same.end ∙ seen.end;
  flying = same.flying ∙ seen.flying;
  flight = by l.flight seen.flight;
}
  where
    by : (o : Option FlightState) → IfSome o (IsFlown k its_log l) → IfSome o (IsFlown m its_log l)
    by None h = tt
    by (Some f) h = (h.0, ap (λ (rows : ℕ → _). rows (suc (m.end its_log))) same.rows ∙ ap (λ e. k.rows its_log (suc e)) same.end ∙ h.1)

-- where its own log stands as it did, and filed segments say what they said, the cleaner is seen as it was
pub cleaner_on : (k m : Books) (p : Phase) → Lasts k m → SameLog k m its_log → CleanerCopies k p → CleanerCopies m p
cleaner_on k m (Down l) lasts same h = tt
cleaner_on k m (Opening l o) lasts same h = tt
cleaner_on k m (Serves e) lasts same h = record {
  seen = flown_on k m e.log same h.seen;
  waits = copies_grown k m lasts (rows_waiting e.log) h.waits;
  job = job_grown k m lasts e.job h.job;
}
