-- An opening doesn't tell whose log it opens: what is proved of a client's is taken over to the cleaner's, as if a client bore the number of its log.
use Rattle.std.proofs.Common.{◌≡◌, ℕ, true, false, cond, List, [], ◌∷◌, refl, ap, subst, arith}
use Rattle.std.specs.List.{AllByRecursion}
use Rattle.std.proofs.lemmas.List.Elements.{recursion_from_All}
use Rattle.xfs_base.specs.declared.node.NodeId.{NodeId}
use Rattle.xfs_base.specs.declared.node.NodeId.TheVariants.{Client, Manager, Server, Cleaner, Registry}
use Rattle.xfs_base.specs.declared.segment.LogId.{LogId}
use Rattle.log_owner.specs.Behaves.{MaySay, MayAct, MayDo, Behaves}
use Rattle.log_owner.specs.declared.ended.Owner.{Owner}
use Rattle.log_owner.specs.declared.opened.Progress.TheVariants as progress
use Rattle.log_owner.specs.declared.opening.Opening as openings
use Rattle.log_owner.specs.Opening.{Went, went, by_server, fenced_by, found_by, missing_by, on_fenced, on_found, on_missing, on_body, opening_take, on_tick}
use Rattle.log_owner.specs.Sending.{hello, server_in}
use Rattle.log_owner.proofs.Behaving as behaving
use Rattle.node_base.specs.Asking.{draw, next_ask}
use Rattle.node_base.specs.declared.effects.Effect.{Effect}
use Rattle.node_base.specs.declared.effects.Effect.TheVariants.{Send, Answer, Lose, Does}
use Rattle.node_base.specs.declared.questions.Questions.{Questions}
use Rattle.node_base.specs.Known.{names_known_groups}
use Rattle.node_base.specs.Room.{has_room}
use Rattle.node_base.specs.Shape.{is_log}
use Rattle.version_model.specs.declared.act.Act.{Act}
use Rattle.version_model.specs.declared.act.Act.TheVariants.{Filed, Dropped}
use Rattle.wire_msg.specs.declared.body.Body.{Body}
use Rattle.wire_msg.specs.declared.body.Body.TheVariants as body
use Rattle.wire_msg.specs.declared.packet.Packet as packets
use Rattle.wire_msg.specs.declared.registry.Welcome.{Welcome}
use Rattle.cleaner_job.specs.Starting.{cleaner_log}
use Rattle.log_tie.specs.Setting.{Setting}
use Rattle.node_logs.specs.node_log_tie.Sight.{Question, AnsweredBy, ReachedBy, BodySeen}
use Rattle.node_logs.specs.node_log_tie.Sight.Question.{Unasked, OfMaps, OfOpening}
use Rattle.node_logs.proofs.node_log_tie.Sights.{at_once}
use Rattle.node_logs.specs.client_log_tie.ClientEvents.{IsOnce, StageWritten, StageTells, BodyFits, ActSeen as ClientActs, has_log}
use Rattle.node_logs.specs.client_log_tie.Owner.{Scene, asker, Lasts, SeesStage}
use Rattle.node_logs.proofs.client_log_tie.Frames.{ClientDoes, says_seen}
use Rattle.node_logs.proofs.client_log_tie.OpeningEvents as events
use Rattle.node_logs.proofs.client_log_tie.OpeningLog.{IsLost, ProgressSeen, WentTo}
use Rattle.node_logs.proofs.client_log_tie.Owed.{StageOwed, in_range, owed_so}
use Rattle.node_logs.specs.opening_law.Questions.{StageAsks}
use Rattle.node_logs.specs.cleaner_log_tie.Fitting.{InRange}
use Rattle.node_logs.specs.cleaner_log_tie.Owner.{its_asker, its_number}
use Rattle.node_logs.specs.cleaner_log_tie.OwnerEvents.{ActSeen, Grows}
use Rattle.node_logs.proofs.cleaner_log_tie.Frames.{CleanerDoes, AllDone, said_as, owner_grows, owner_once}

-- ---- what comes, as it comes to a client

-- servers stand for themselves; all others are one to an opening
abbrev stand_in : NodeId → NodeId
stand_in (Server v) = Server v
stand_in _ = Registry

same_server : (from : NodeId) → server_in (stand_in from) ≡ server_in from
same_server (Server v) = refl
same_server (Client c) = refl
same_server (Manager k) = refl
same_server Cleaner = refl
same_server Registry = refl

no_client : (from : NodeId) (c : ℕ) → stand_in from ≡ Client c → ⊥
no_client (Server v) c e = absurd cc
no_client (Client k) c e = absurd cc
no_client (Manager k) c e = absurd cc
no_client Cleaner c e = absurd cc
no_client Registry c e = absurd cc

same_body : (o : openings.Opening) (q : Questions) (from : NodeId) (b : Body) → on_body o q (stand_in from) b ≡ on_body o q from b
unfolding on_body on_fenced on_found on_missing
same_body o q from (body.Fenced m) = ap (by_server o q (fenced_by o q m)) (same_server from)
same_body o q from (body.Fragment m) = ap (by_server o q (found_by o q m)) (same_server from)
same_body o q from (body.Missing m) = ap (by_server o q (missing_by o q m)) (same_server from)
same_body o q from _ = refl

-- the packet as it comes to a client of this number
abbrev as_to_client : packets.Packet → packets.Packet
as_to_client p = record p { from = stand_in p.from; to = Client its_number }

same_packet : (o : openings.Opening) (q : Questions) (p : packets.Packet) → opening_take o q (as_to_client p) ≡ opening_take o q p
unfolding opening_take
same_packet o q p =
    ap (λ x. cond (names_known_groups o.known.maps p.body) x (went (progress.Opening o) (draw q) (hello o.known.owner.inc (next_ask q) ∷ [])))
    (same_body o q p.from p.body)

ids_fit : (b : Body) → InRange b → BodyFits b
ids_fit (body.Live m) h = tt
ids_fit (body.Fragment m) h = tt
ids_fit (body.MapNews m) h = h
ids_fit (body.Welcome m) h = h
ids_fit _ h = tt

module _ (g : Setting) (w : Scene) where
  answered_so : (m : Welcome) (q : Question) → AnsweredBy g (its_asker w) w.net m q → AnsweredBy g (asker its_number w) w.net m q
  answered_so m Unasked h = h
  answered_so m OfMaps h = h
  answered_so m (OfOpening own) h = h

  reached_so : (from : NodeId) (generation : ℕ) → ReachedBy g (its_asker w) w.net from generation
      → ReachedBy g (asker its_number w) w.net (stand_in from) generation
  reached_so (Server v) generation h = h
  reached_so _ generation h = tt

  comes_so : (from : NodeId) (b : Body) → BodySeen g (its_asker w) w.net from Cleaner b
      → BodySeen g (asker its_number w) w.net (stand_in from) (Client its_number) b
  comes_so from (body.Store m) h = tt
  comes_so from (body.Fence m) h = tt
  comes_so (Server v) (body.Fenced m) h = h
  comes_so (Client c) (body.Fenced m) h = tt
  comes_so (Manager k) (body.Fenced m) h = tt
  comes_so Cleaner (body.Fenced m) h = tt
  comes_so Registry (body.Fenced m) h = tt
  comes_so from (body.Stored m) h = h
  comes_so from (body.Fragment m) h = h
  comes_so from (body.Listed m) h = h
  comes_so from (body.Delete m) h = h
  comes_so from (body.Hello m) h = record { own = λ e. absurd (no_client from its_number e); reached = reached_so from m.inc h.reached }
  comes_so from (body.Welcome m) h = record { own = λ e. answered_so m (w.asked m.ask) (h.own refl); map = h.map; low = h.low }
  comes_so from (body.MapNews m) h = h
  comes_so from _ h = tt

  -- ---- what it says, as the cleaner says it

  no_welcome : (its : Owner) (to : NodeId) (b : Body) → MaySay its to b → (m : Welcome) → b ≡ body.Welcome m → ⊥
  no_welcome its to b may m e = subst (MaySay its to) e may

  acts_so : (act : Act) → MayAct act → ClientActs w act → ActSeen g w act
  acts_so (Filed seg) may h = h
  acts_so (Dropped seg) may h = absurd may
  acts_so _ may h = tt

  does_so : (its : Owner) (e : Effect) → MayDo its e → ClientDoes g its_number w e → CleanerDoes g w e
  does_so its (Send to said) may h =
      said_as g (asker its_number w) (its_asker w) w.net w.net (at_once w.net) (λ k some. refl) (Client its_number) to refl said
      (λ m e t. absurd (no_welcome its to said may m e))
      (says_seen g its_number w to said h)
  does_so its (Answer item answer) may h = tt
  does_so its (Lose seg) may h = tt
  does_so its (Does act) may h = acts_so act may h

  all_so : (its : Owner) (outs : List Effect) → AllByRecursion (MayDo its) outs → AllByRecursion (ClientDoes g its_number w) outs → AllDone g w outs
  all_so its [] may all = tt
  all_so its (e ∷ outs) may all = (does_so its e may.0 all.0, all_so its outs may.1 all.1)

-- ---- an opening goes on

module _ (g : Setting) where
  pub record WentOn (w : Scene) (life : ℕ) (x : Went) : Type 0 where
    pub next : Scene
    pub grown : Grows g w next
    pub lasts : Lasts g its_number next its_number life x.questions.last
    pub shows : ProgressSeen g its_number next x.questions.last x.progress
    pub does : AllDone g next x.effects
    -- where a segment is lost, nothing began to fly, nothing was filed, and the owner neither writes nor serves
    pub lost : IsLost g its_number x.progress → (next.net.flown ≡ w.net.flown) × ((next.net.filed ≡ w.net.filed) × (has_log next.net.owner ≡ false))
    pub kept : next.net.dropped ≡ w.net.dropped
    pub once : IsOnce grown.runs

  taken_over : (w : Scene) (life : ℕ) (its : Owner) (x : Went) → Behaves its x → WentTo g its_number w its_number life x → WentOn w life x
  taken_over w life its x may t = record {
    next = t.next;
    grown = owner_grows g w t.next t.grown;
    lasts = t.lasts;
    shows = t.shows;
    does = all_so g t.next its x.effects may.does (recursion_from_All (ClientDoes g its_number t.next) x.effects t.does);
    lost = t.lost;
    kept = t.grown.dropped;
    once = owner_once g w t.next t.grown t.once;
  }

  module _ (fact : g.log ≡ cleaner_log) (w : Scene) (life : ℕ) (q : Questions) (lasts : Lasts g its_number w its_number life q.last)
      (room : has_room q.last ≡ true) (life_room : has_room life ≡ true)
      (o : openings.Opening)
      (sees : SeesStage g its_number w o.known q.last o.stage) (written : StageWritten o.stage) (asks : StageAsks o.stage q.last)
      (tells : StageTells g w.net o.stage) where
    small : is_log g.log.0 ≡ true
    small = ap (λ (l : LogId). is_log l.0) fact

    owed : StageOwed g w.net o.stage
    owed = owed_so g its_number small w o.known o.stage q.last (let e = lasts.inc in let b = in_range life life_room in omega arith) room sees asks tells

    pub packet_heard : (p : packets.Packet) → BodySeen g (its_asker w) w.net p.from Cleaner p.body → InRange p.body → WentOn w life (opening_take o q p)
    packet_heard p seen fits =
        subst (WentOn w life) (same_packet o q p)
        (taken_over w life o.known.owner (opening_take o q (as_to_client p)) (behaving.packet_so o q (as_to_client p))
        (events.packet_so g its_number small w its_number life q lasts room o (as_to_client p) refl (comes_so g w p.from p.body seen) (ids_fit p.body fits)
        (record { sees = sees; written = written; owed = owed })))

    pub time_passes : WentOn w life (on_tick o q)
    time_passes =
        taken_over w life o.known.owner (on_tick o q) (behaving.tick_so o q)
        (events.tick_so g its_number small w its_number life q lasts room o (record { sees = sees; written = written; owed = owed }))
