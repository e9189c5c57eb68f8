-- What an event makes of the items of the cleaner.
use Rattle.std.proofs.Common.{◌≡◌, ℕ, [], Option, Some, None, refl, sym, subst}
use Rattle.cleaner_serving.specs.declared.emptying.Emptying.{Emptying}
use Rattle.cleaner_serving.specs.EmptyingEvents.{on_clean, on_packet, on_tick}
use Rattle.cleaner_serving.specs.Jobs.{Done}
use Rattle.cleaner_node.specs.CleanerEvents.{Went_to, after_opening, begun_life, crash, down_at, down_wishes, happens, cleaner_hear, lasting_of, on_begin, on_deliver, on_time, opened_on, opening_at, opening_wishes, phase_has_room, restart, serves_on, serving_at, serving_wishes, takes, wish_of}
use Rattle.cleaner_node.specs.declared.cleaner.Cleaner.{Cleaner}
use Rattle.cleaner_node.specs.declared.cleaner.Phase.{Phase}
use Rattle.cleaner_node.specs.declared.cleaner.Phase.TheVariants.{Down, Opening, Serving}
use Rattle.cleaner_job.specs.declared.lasting.Lasting.{Lasting}
use Rattle.log_owner.specs.declared.opened.Progress.{Progress}
use Rattle.log_owner.specs.declared.opened.Progress.TheVariants as progress
use Rattle.log_owner.specs.declared.opening.Opening as openings
use Rattle.log_owner.specs.Opening as opening
use Rattle.log_owner.specs.Opening.{Went}
use Rattle.log_owner.specs.Sending.{push_all}
use Rattle.node_base.specs.Beginning.{work_at, items_begin, next_item, items_wait}
use Rattle.node_base.specs.declared.items.Items.{Items}
use Rattle.node_base.specs.declared.peers.Peers.{Peers}
use Rattle.node_base.specs.Shape.{is_well_formed}
use Rattle.version_model.specs.declared.answer.Answer.{Answer}
use Rattle.version_model.specs.declared.answer.Answer.TheVariants as answer
use Rattle.wire_msg.specs.declared.packet.Do.{Do}
use Rattle.wire_msg.specs.declared.packet.Do.TheVariants.{Begin, Deliver, Tick}
use Rattle.wire_msg.specs.declared.packet.Packet.{Packet}
use Rattle.xfs_base.proofs.Booleans.{by_test}
use Rattle.xfs_base.specs.Steps.{saying, still}
use Rattle.version_model.specs.declared.work.Work.{Work}
use Rattle.version_model.specs.declared.work.Work.TheVariants as work
use Rattle.serving_moves.proofs.item_moves.Emptying as emptied
use Rattle.serving_moves.proofs.item_moves.Keeping as moving
use Rattle.serving_moves.proofs.item_moves.Keeping.{all_pushed_plain, begun_of, busy_prompt, moves_of, same, unmoved}
use Rattle.serving_moves.proofs.item_moves.Openings as openly
use Rattle.serving_moves.proofs.item_moves.Openings.{goes_on, is_back, is_lost, may_answer}
use Rattle.serving_moves.specs.item_moves.Events.{cleaner_losses, log_losses}
use Rattle.serving_moves.specs.item_moves.Moves.{IsCleaners, IsCount, IsPrompt}
use Rattle.serving_moves.proofs.item_moves.Moves.{IsBusy}
use Rattle.headline.specs.Items.{Falls}
use Rattle.serving_moves.specs.item_moves.Moves.Begun.{AtOnce, Waits}
use Rattle.serving_moves.specs.item_moves.Moves.Event.{Begins, GoesOn, Idles, Cuts}
use Rattle.serving_moves.specs.item_moves.Moves.Move.{Stays}
use Rattle.serving_moves.specs.item_moves.Moves.Moves.{Last}
use Rattle.serving_moves.specs.item_moves.Moves.Losses.{Silent}

abbrev pub items_in : Phase → Items
items_in p = (lasting_of p).items

-- there is one cleaner: it has no number
abbrev pub no_number : Phase → ℕ
no_number p = 0

-- what an event makes of a phase
abbrev pub Turned : Do → Phase → Went_to → Type 0
Turned what p w = moving.Turned (cleaner_losses p) IsCleaners IsPrompt Phase items_in no_number what p w

count_its : (a : Answer) → IsCount a → IsCleaners a
count_its (answer.Count count) so = tt
count_its _ so = absurd so

-- one that serves then
served_so : (e : Emptying) (what : Do) (d : Done) → emptied.Goes e d → Turned what (Serving e) (serves_on d)
served_so e what d g =
    record { its_number = refl; event = GoesOn (moves_of Silent IsCount IsCleaners count_its e.lasting.items d.state.lasting.items d.outs g.moves) }

-- ---- an opening

module _ (l : Lasting) (o : openings.Opening) (what : Do) where
  opened_so : (w : Went) → openly.Goes o w → Turned what (Opening l o) (opened_on l w)
  unfolding after_opening
  opened_so w g = by w.progress g.says
    where
      by : (p : Progress) → openly.SaysLoss p w.effects → Turned what (Opening l o) (saying w.effects (after_opening (record l { questions = w.questions }) p))
      by (progress.Opening r) says =
          record { its_number = refl; event = GoesOn (goes_on (log_losses o.stage) IsCleaners l.items w.effects g.plain) }
      by (progress.Opened r) says = record {
        its_number = refl;
        event = GoesOn
            (is_back (log_losses o.stage) IsCleaners l.items w.effects g.plain tt (push_all r.promised.managers r.feed)
            (all_pushed_plain (log_losses o.stage) r.promised.managers r.feed));
      }
      by (progress.Lost name) says =
          record { its_number = refl; event = GoesOn (is_lost (log_losses o.stage) IsCleaners l.items w.effects g.plain name (may_answer o.stage w.effects name g.plain says) says) }

-- ---- an item begins

module _ (l : Lasting) (number : ℕ) (its : next_item l.items ≡ Some number) where
  abbrev m : Lasting
  m = begun_life l

  down_so : (servers : ℕ) (wanted : Option Work) → Turned Begin (Down l) (down_wishes servers m number (wish_of wanted))
  unfolding restart
  down_so servers None = record { its_number = refl; event = Begins number refl its (AtOnce answer.Down [] [] tt tt tt) }
  down_so servers (Some (work.Restart node)) =
      record { its_number = refl; event = Begins number refl its (Waits (Last (Stays (same (items_wait (items_begin l.items) number)) (tt, tt)))) }
  down_so servers (Some _) = record { its_number = refl; event = Begins number refl its (AtOnce answer.Down [] [] tt tt tt) }

  opening_so : (o : openings.Opening) (wanted : Option Work) → work_at m.items number ≡ wanted
      → Turned Begin (Opening l o) (opening_wishes m o number (wish_of wanted))
  unfolding crash
  opening_so o None e = record { its_number = refl; event = Begins number refl its (AtOnce answer.Down [] [] tt tt tt) }
  opening_so o (Some (work.Crash node)) e = record { its_number = refl; event = Cuts number [] [] refl its (subst Falls (sym e) tt) tt tt }
  opening_so o (Some (work.Restart node)) e = record { its_number = refl; event = Begins number refl its (AtOnce answer.Up [] [] tt tt tt) }
  opening_so o (Some _) e = record { its_number = refl; event = Begins number refl its (AtOnce answer.Down [] [] tt tt tt) }

module _ (e : Emptying) (number : ℕ) (its : next_item e.lasting.items ≡ Some number) where
  abbrev f : Emptying
  f = record e { lasting = begun_life e.lasting }

  clean_so : (count : ℕ) → Turned Begin (Serving e) (serves_on (on_clean f number count))
  clean_so count =
      let d : Done = on_clean f number count in
      record {
        its_number = refl;
        event = Begins number refl its
            (begun_of Silent IsCount IsCleaners count_its IsBusy IsPrompt busy_prompt f.lasting.items number d.state.lasting.items d.outs
            (emptied.clean_goes f number count).begun);
      }

  serving_so : (wanted : Option Work) → work_at f.lasting.items number ≡ wanted → Turned Begin (Serving e) (serving_wishes f number (wish_of wanted))
  unfolding crash
  serving_so None same_ = clean_so 0
  serving_so (Some (work.Crash node)) same_ = record { its_number = refl; event = Cuts number [] [] refl its (subst Falls (sym same_) tt) tt tt }
  serving_so (Some (work.Restart node)) same_ = record { its_number = refl; event = Begins number refl its (AtOnce answer.Up [] [] tt tt tt) }
  serving_so (Some (work.Clean count)) same_ = clean_so count
  serving_so (Some _) same_ = clean_so 0

begin_turned : (servers : ℕ) (p : Phase) → Turned Begin p (on_begin servers p)
unfolding on_begin
begin_turned servers (Down l) = by (next_item l.items) refl
  where
    by : (item : Option ℕ) → next_item l.items ≡ item → Turned Begin (Down l) (down_at servers (begun_life l) item)
    by None fact = record { its_number = refl; event = Idles refl }
    by (Some number) fact = down_so l number fact servers (work_at (begun_life l).items number)
begin_turned servers (Opening l o) = by (next_item l.items) refl
  where
    by : (item : Option ℕ) → next_item l.items ≡ item → Turned Begin (Opening l o) (opening_at (begun_life l) o item)
    by None fact = record { its_number = refl; event = Idles refl }
    by (Some number) fact = opening_so l number fact o (work_at (begun_life l).items number) refl
begin_turned servers (Serving e) = by (next_item e.lasting.items) refl
  where
    by : (item : Option ℕ) → next_item e.lasting.items ≡ item → Turned Begin (Serving e) (serving_at (record e { lasting = begun_life e.lasting }) item)
    by None fact = record { its_number = refl; event = Idles refl }
    by (Some number) fact = serving_so e number fact (work_at (begun_life e.lasting).items number) refl

-- ---- packets and time

hears_turned : (p : Phase) (packet : Packet) → Turned (Deliver packet) p (cleaner_hear p packet)
unfolding cleaner_hear
hears_turned (Down l) packet = unmoved (Deliver packet) (Down l)
hears_turned (Opening l o) packet =
    opened_so l o (Deliver packet) (opening.opening_take o l.questions packet) (openly.packet_goes o l.questions packet)
hears_turned (Serving e) packet = served_so e (Deliver packet) (on_packet e packet) (emptied.packet_goes e packet)

time_turned : (p : Phase) → Turned Tick p (on_time p)
unfolding on_time
time_turned (Down l) = unmoved Tick (Down l)
time_turned (Opening l o) = opened_so l o Tick (opening.on_tick o l.questions) (openly.tick_goes o l.questions)
time_turned (Serving e) = served_so e Tick (on_tick e) (emptied.tick_goes e)

happens_turned : (peers : Peers) (p : Phase) (what : Do) → Turned what p (happens peers p what)
unfolding on_deliver
happens_turned peers p Begin = begin_turned peers.servers p
happens_turned peers p (Deliver packet) =
    by_test (Turned (Deliver packet) p) (is_well_formed peers packet) (cleaner_hear p packet) (still p) (λ _. hears_turned p packet)
    (λ _. unmoved (Deliver packet) p)
happens_turned peers p Tick = time_turned p

pub cleaner_turned : (c : Cleaner) (what : Do) → Turned what c.phase (takes c.peers c.phase what)
cleaner_turned c what =
    by_test (Turned what c.phase) (phase_has_room c.phase) (happens c.peers c.phase what) (still c.phase) (λ _. happens_turned c.peers c.phase what)
    (λ _. unmoved what c.phase)
