-- What the small world of tokens is owed of the cleaner: where its log is opened again it is so as the books are, and what is answered Live is a copy.
use Rattle.std.proofs.Common.{◌≡◌, ◌<◌, ℕ, suc, Bool, true, List, if◌then◌else◌, refl, sym, ap, subst, ◌∙◌}
use Rattle.cleaner_serving.specs.declared.emptying.Emptying.{Emptying}
use Rattle.cleaner_serving.specs.EmptyingEvents.{emptying_back}
use Rattle.cleaner_node.specs.CleanerEvents.{after_opening, happens, cleaner_hear, on_deliver, on_time, phase_has_room, say_back, takes}
use Rattle.cleaner_node.specs.declared.cleaner.Cleaner.{Cleaner as CleanerNode}
use Rattle.cleaner_node.specs.declared.cleaner.Phase as cleaning
use Rattle.cleaner_node.specs.declared.cleaner.Phase.TheVariants.{Opening, Serving}
use Rattle.cleaner_job.specs.declared.lasting.Lasting.{Lasting}
use Rattle.node_logs.specs.client_log_tie.ClientEvents.{ServesStraight}
use Rattle.node_tellings.specs.entry_tie.Told as entries
use Rattle.headline.specs.Filed.{rows_at}
use Rattle.log_owner.specs.declared.opened.Opened.{Opened}
use Rattle.log_owner.specs.declared.opened.Progress.{Progress}
use Rattle.log_owner.specs.declared.opened.Progress.TheVariants as progress
use Rattle.log_owner.specs.declared.opening.Opening as openings
use Rattle.log_owner.specs.Opening as opening
use Rattle.node_base.specs.declared.peers.Peers.{Peers}
use Rattle.node_base.specs.Shape.{is_well_formed}
use Rattle.node_slots.specs.node_index_tie.Sight.{held_in}
use Rattle.node_slots.proofs.node_tie.SmallWorld.{with_promise}
use Rattle.node_slots.specs.node_tie.CleanerLogs.{LiveTold, ReopensAt}
use Rattle.run_laws.specs.place_law.Copies.{AreExact, AsksOfHand, HasJob, LivesAnswer}
use Rattle.run_laws.specs.index_reads.Ties.{Tied}
use Rattle.run_laws.specs.reopening_law.Openings.{comes_to}
use Rattle.run_laws.specs.reopening_law.Reopens.{TellsApart}
use Rattle.token_protocol.specs.Basics.{In}
use Rattle.wire_msg.specs.declared.body.Body.TheVariants as body
use Rattle.wire_msg.specs.declared.cleaning.Live.{Live}
use Rattle.wire_msg.specs.declared.packet.Do.{Do}
use Rattle.wire_msg.specs.declared.packet.Do.TheVariants.{Begin, Deliver, Tick}
use Rattle.wire_msg.specs.declared.packet.Packet.{Packet}
use Rattle.run_laws.specs.world_law.Standing as owners
use Rattle.headline.specs.Moments.{moment}
use Rattle.run_laws.specs.world_logs.Lines.{cluster}
use Rattle.run_laws.proofs.world_reads.CleanerMoment.{Steps, its_line, its_setting}
use Rattle.run_laws.proofs.world_reads.CleanerReopening.{came, reopens_at}
use Rattle.run_laws.proofs.world_reads.Tying.{slot_tied}
use Rattle.run_laws.specs.world_reads.Joint.{Joint}
use Rattle.run_laws.proofs.world_reads.Joint.{IsSureUpto}
use Rattle.xfs_base.specs.Steps.{still}
use Rattle.run_laws.proofs.world_reads.Below.{Below}
use Rattle.run_laws.specs.world_reads.LoggedRuns.{LoggedRun}

-- ---- the node

-- no counter is near its end, and a packet that comes is well formed
pub record IsTaken (peers : Peers) (p : cleaning.Phase) (what : Do) : Type 0 where
  pub room : phase_has_room p ≡ true
  pub formed : (q : Packet) → what ≡ Deliver q → is_well_formed peers q ≡ true

-- the cleaner serves then
abbrev pub ServesThen : Peers → cleaning.Phase → Do → Type 0
ServesThen peers p what = (v : Emptying) × ((takes peers p what).state ≡ Serving v)

by_progress : (l : Lasting) (p : Progress) (r : Opened) → p ≡ progress.Opened r → (after_opening l p).state ≡ Serving (say_back (emptying_back l r)).state
unfolding after_opening
by_progress l p r fact = ap (λ (x : Progress). (after_opening l x).state) fact

module _ (l : Lasting) (o : openings.Opening) (peers : Peers) (r : Opened) where
  by_do : (what : Do) → ((q : Packet) → what ≡ Deliver q → is_well_formed peers q ≡ true) → comes_to o l.questions what ≡ progress.Opened r
      → (v : Emptying) × ((happens peers (Opening l o) what).state ≡ Serving v)
  unfolding on_deliver on_time cleaner_hear
  by_do Begin formed fact = absurd cc
  by_do (Deliver q) formed fact = (
    _,
    ap (λ (t : Bool). (if t then cleaner_hear (Opening l o) q else still (Opening l o)).state) (formed q refl)
        ∙ by_progress _ (opening.opening_take o l.questions q).progress r fact,
  )
  by_do Tick formed fact = (_, by_progress _ (opening.on_tick o l.questions).progress r fact)

  pub serves_then : (what : Do) → IsTaken peers (Opening l o) what → comes_to o l.questions what ≡ progress.Opened r → ServesThen peers (Opening l o) what
  serves_then what taken fact =
      (let d = by_do what taken.formed fact in
      (d.0, ap (λ (t : Bool). (if t then happens peers (Opening l o) what else still (Opening l o)).state) taken.room ∙ d.1))

-- ---- beside one run

module _ (below : Below) (logged : LoggedRun) (part count : ℕ) (joint : Joint logged part count) (node : CleanerNode) (what : Do) where
  open logged use {base, estate as e, texts}

  abbrev sent : List Packet
  sent = (moment e count).sent

  module _ (steps : Steps logged part count node what) (straight : ServesStraight ((its_line logged part).goes count))
      (apart : TellsApart (its_setting logged part)) (sure : IsSureUpto logged part (suc count))
      (taken : IsTaken node.peers node.phase what) (l : Lasting) (o : openings.Opening)
      (opens : node.phase ≡ Opening l o) where
    one_opened : (a b : Opened) → progress.Opened a ≡ progress.Opened b → a ≡ b
    one_opened a b fact = cc

    -- the log is open then as the books are
    pub at_end : (r : Opened) → comes_to o l.questions what ≡ progress.Opened r → (adopted : Bool) × ReopensAt joint.tok.net.books adopted r
    at_end r fact =
        let s = serves_then l o node.peers r what (subst (λ (p : cleaning.Phase). IsTaken node.peers p what) opens taken) fact in
        let serves : (takes node.peers node.phase what).state ≡ Serving s.0 =
        subst (λ (p : cleaning.Phase). (takes node.peers p what).state ≡ Serving s.0) (sym opens) s.1 in
        let c = came below logged part count joint node what steps straight apart sure l o s.0 opens serves in
        let at = reopens_at below logged part count joint node what steps straight apart sure l o s.0 opens serves in
        (_, subst (ReopensAt joint.tok.net.books _) (one_opened c.opened r (sym c.comes ∙ fact)) at)

  -- ---- a Live

  module _ (of_eight : part < 8) (exact : AreExact joint.idx.net.filed) (answers : LivesAnswer sent) (v : Emptying) (has : HasJob joint.idx.net v)
      (asks : AsksOfHand sent v) where
    tied : Tied (owners.members (cluster base e) part) part (held_in part texts.text) (with_promise 1 joint.tok.net) joint.idx.net
    tied = slot_tied logged part of_eight count joint

    pub live_told : (p : Packet) (m : Live) → In p sent → p.body ≡ body.Live m → LiveTold joint.tok.net.books v m
    live_told p m among fact =
        below.reads.places.lives_tell_copies (owners.members (cluster base e) part) part (held_in part texts.text) (with_promise 1 joint.tok.net) joint.idx.net
        sent v p m tied exact has
        answers asks among fact (subst (entries.BodyTold (entries.told_by_rows (rows_at joint.idx.net.filed))) fact (joint.entries.packets p among))
