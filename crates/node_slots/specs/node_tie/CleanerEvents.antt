-- What an event makes of what the cleaner has promised of one slot of the map.
use Rattle.std.specs.Prelude.{◌≡◌, ◌⊎◌, ◌<◌, ◌≤◌, ℕ, Bool, List, All, length, true}
use Rattle.log_owner.specs.declared.opening.Opening as openings
use Rattle.log_owner.specs.declared.promised.Promised.{Promised}
use Rattle.node_base.specs.Shape.{is_well_formed}
use Rattle.node_base.specs.declared.effects.Effect.{Effect}
use Rattle.node_base.specs.declared.effects.Effect.TheVariants.{Send, Answer, Lose, Does}
use Rattle.cleaner_serving.specs.declared.emptying.Emptying.{Emptying}
use Rattle.cleaner_node.specs.CleanerEvents.{cleaner_start, lasting_of, phase_has_room, takes}
use Rattle.cleaner_node.specs.declared.cleaner.Cleaner.{Cleaner}
use Rattle.cleaner_node.specs.declared.cleaner.Phase.{Phase}
use Rattle.cleaner_node.specs.declared.cleaner.Phase.TheVariants.{Down, Opening, Serving as Serves}
use Rattle.cleaner_job.specs.declared.lasting.Lasting.{Lasting}
use Rattle.token_client.specs.State.{epoch_of}
use Rattle.token_law.specs.Books.{no_books}
use Rattle.token_law.specs.Net.{Net}
use Rattle.token_law.specs.Owed.{IsNeutral}
use Rattle.token_protocol.specs.Premises.{Premise}
use Rattle.version_model.specs.declared.work.Work.{Work}
use Rattle.wire_msg.specs.declared.body.Body.{Body}
use Rattle.wire_msg.specs.declared.body.Body.TheVariants as body
use Rattle.wire_msg.specs.declared.packet.Do.{Do}
use Rattle.wire_msg.specs.declared.packet.Do.TheVariants.{Begin, Deliver, Tick}
use Rattle.wire_msg.specs.declared.packet.Packet.{Packet}
use Rattle.wire_msg.specs.declared.registry.Welcome.{Welcome}
use Rattle.xfs_base.specs.declared.news.SlotNews.{SlotNews}
use Rattle.xfs_base.specs.declared.setup.Setup.{Setup}
use Rattle.xfs_base.specs.Limits.{slot_count}
use Rattle.node_slots.specs.node_tie.CleanerLogs.{its_log, CleanerCopies, CleanerRuns, CleanerTold}
use Rattle.node_slots.specs.node_tie.ClientEvents.{AwaitsFirst}
use Rattle.node_slots.specs.node_tie.Sight.{CleanerSends}

-- eight epochs, and that of the slot within these bounds
pub record Bounded (part low high : ℕ) (p : Promised) : Type 0 where
  pub eight : length p.epochs ≡ slot_count
  pub rises : low ≤ epoch_of p.epochs part
  pub within : epoch_of p.epochs part ≤ high

-- The epoch of the slot that it has promised, or had promised when it last served, and one that no epoch of the slot is above.
module _ (part promised last_epoch : ℕ) where
  -- one that serves has promised that epoch
  pub record ServesSo (e : Emptying) : Type 0 where
    pub eight : length e.promised.epochs ≡ slot_count
    pub promises : epoch_of e.promised.epochs part ≡ promised

  -- an opening promises no less, once its first Welcome came
  pub record OpensSo (l : Lasting) (o : openings.Opening) : Type 0 where
    pub owner : o.known.owner.inc ≡ l.inc
    pub promises : AwaitsFirst o.stage ⊎ Bounded part promised last_epoch o.known.promised

  abbrev pub CleanerStands : Phase → Type 0
  CleanerStands (Down l) = Unit {0}
  CleanerStands (Opening l o) = OpensSo l o
  CleanerStands (Serves e) = ServesSo e

  -- ---- what the world owes it

  abbrev pub NewsLow : List SlotNews → Type 0
  NewsLow slots = All (λ news. news.slot ≡ part → news.epoch ≤ last_epoch) slots

  -- a Welcome that answers an opening names no earlier epoch of the slot than the promised one
  abbrev pub CleanerWelcomed : Phase → Welcome → Type 0
  CleanerWelcomed (Down l) m = Unit {0}
  CleanerWelcomed (Opening l o) m = m.inc ≡ l.inc → All (λ news. news.slot ≡ part → promised ≤ news.epoch) m.news.slots
  CleanerWelcomed (Serves e) m = Unit {0}

  abbrev pub CleanerGets : Phase → Body → Type 0
  CleanerGets p (body.Poll m) = m.slot ≡ part → m.epoch ≤ last_epoch
  CleanerGets p (body.MapNews m) = NewsLow m.slots
  CleanerGets p (body.Welcome m) = NewsLow m.news.slots × CleanerWelcomed p m
  CleanerGets p _ = Unit {0}

  abbrev pub CleanerOwed : Phase → Do → Type 0
  CleanerOwed p Begin = Unit {0}
  CleanerOwed p (Deliver packet) = CleanerGets p packet.body
  CleanerOwed p Tick = Unit {0}

-- ---- what an event makes of it

module _ (part promised life : ℕ) where
  abbrev pub CleanerDoes : Effect → Type 0
  CleanerDoes (Send to m) = CleanerSends part promised life m
  CleanerDoes (Answer item answer) = Unit {0}
  CleanerDoes (Lose seg) = Unit {0}
  CleanerDoes (Does act) = IsNeutral act

-- an opening begins in a later incarnation
abbrev pub OpensLater : Phase → Phase → Type 0
OpensLater (Opening l o) p = Unit {0}
OpensLater (Down l) (Opening next o) = l.inc < next.inc
OpensLater (Down l) (Down next) = Unit {0}
OpensLater (Down l) (Serves e) = Unit {0}
OpensLater (Serves e) (Opening next o) = e.lasting.inc < next.inc
OpensLater (Serves e) (Down next) = Unit {0}
OpensLater (Serves e) (Serves next) = Unit {0}

abbrev pub IsOpening : Phase → Type 0
IsOpening (Down l) = ⊥
IsOpening (Opening l o) = Unit {0}
IsOpening (Serves e) = ⊥

pub record CleanerGoes (part promised last_epoch : ℕ) (p p' : Phase) (outs : List Effect) : Type 0 where
  -- the epoch that it has promised then
  pub next : ℕ
  pub rises : promised ≤ next
  pub within : next ≤ last_epoch
  pub stands : CleanerStands part next last_epoch p'
  pub does : All (CleanerDoes part next (lasting_of p').inc) outs
  pub later : (lasting_of p).inc ≤ (lasting_of p').inc
  pub begins : OpensLater p p'
  -- an opening leaves what was promised
  pub keeps : IsOpening p' → next ≡ promised

-- The event is taken: no counter of the cleaner is near its end, and a packet that comes is well formed.
pub record IsTaken (cleaner : Cleaner) (what : Do) : Type 0 where
  pub room : phase_has_room cleaner.phase ≡ true
  pub formed : (q : Packet) → what ≡ Deliver q → is_well_formed cleaner.peers q ≡ true

-- Each event of the cleaner, if the world owes it what its packet says, and logs what they owe where it is taken. Where logs keep their word, no client has
-- the number of its log; and it is said whether an opening that ends has what was in flight.
abbrev pub CleanerTakes : Type 0
CleanerTakes =
    (logs : Bool) (members part promised last_epoch : ℕ) (n : Net) → part < slot_count → promised ≤ last_epoch → Premise logs (members ≤ its_log)
    → (adopted : Bool) (cleaner : Cleaner)
    (what : Do)
    → CleanerStands part promised last_epoch cleaner.phase → CleanerOwed part promised last_epoch cleaner.phase what
    → Premise logs (CleanerCopies n.books cleaner.phase) → Premise logs (IsTaken cleaner what → CleanerTold n.books adopted cleaner.phase what)
    → CleanerGoes part promised last_epoch cleaner.phase (takes cleaner.peers cleaner.phase what).state (takes cleaner.peers cleaner.phase what).outs
    × CleanerRuns logs members part n adopted cleaner.phase (takes cleaner.peers cleaner.phase what).state (takes cleaner.peers cleaner.phase what).outs

-- At the start it has promised epoch 1 of each slot, its log is empty, and it has no job.
abbrev pub CleanerStarts : Type 0
CleanerStarts =
    (part last_epoch : ℕ) → part < slot_count → (setup : Setup) (works : List Work)
    → CleanerStands part 1 last_epoch (cleaner_start setup works).phase × CleanerCopies no_books (cleaner_start setup works).phase
