-- A client that comes to serve serves with the log that is open, and acts that it is back with the chain that was found.
use Rattle.std.proofs.Common.{⊎_elim, ◌≡◌, ℕ, List, [], ◌∷◌, ◌++◌, map, Option, Some, None, refl, sym, subst, inl, inr}
use Rattle.std.specs.List.{AllByRecursion}
use Rattle.client_node.specs.declared.client.Client.{Client as AClient}
use Rattle.client_node.specs.declared.phase.Phase.TheVariants as phase
use Rattle.client_node.specs.declared.phase.Phase.{Phase}
use Rattle.client_node.specs.Phases.{Went_to, phase_after, begins_item, client_has_room, happens, on_begin, on_deliver, on_event, client_tick, opening_begins, served, takes, wish_of}
use Rattle.client_serving.specs.declared.lasting.Lasting.{Lasting}
use Rattle.client_serving.specs.declared.serving.Serving.{Serving}
use Rattle.delta_feed.specs.FeedState.{FeedState}
use Rattle.log_owner.proofs.Behaving as behaving
use Rattle.log_owner.specs.Behaves.{MayAct, MayDo}
use Rattle.log_owner.specs.declared.ended.Owner.{Owner}
use Rattle.log_owner.specs.declared.opened.Progress.{Progress}
use Rattle.log_owner.specs.declared.opened.Progress.TheVariants as progress
use Rattle.log_owner.specs.declared.opening.Opening.{Opening}
use Rattle.log_owner.specs.Opening as opens
use Rattle.log_owner.specs.Opening.{Went}
use Rattle.log_owner.specs.Sending.{push_all, range}
use Rattle.log_owner.specs.declared.promised.Managers.{Managers}
use Rattle.delta_feed.specs.Transition.{feed_tick}
use Rattle.delta_feed.specs.declared.output.Out.TheVariants.{Range}
use Rattle.node_base.specs.Beginning.{answers_unanswered, items_begin, next_item, work_at}
use Rattle.node_base.specs.declared.effects.Effect.{Effect}
use Rattle.node_base.specs.declared.effects.Effect.TheVariants.{Send, Answer as Answers, Lose, Does}
use Rattle.node_base.specs.declared.peers.Peers.{Peers}
use Rattle.node_base.specs.Shape.{is_well_formed}
use Rattle.token_protocol.specs.Basics.{In}
use Rattle.version_model.specs.declared.act.Act.{Act}
use Rattle.version_model.specs.declared.act.Act.TheVariants as act
use Rattle.version_model.specs.declared.answer.Answer.{Answer}
use Rattle.version_model.specs.declared.answer.Answer.TheVariants as answer
use Rattle.version_model.specs.declared.work.Work.{Work}
use Rattle.version_model.specs.declared.work.Work.TheVariants as work
use Rattle.wire_msg.specs.declared.packet.Do.{Do}
use Rattle.wire_msg.specs.declared.packet.Do.TheVariants.{Begin, Deliver, Tick}
use Rattle.xfs_base.proofs.Booleans.{by_test}
use Rattle.xfs_base.specs.declared.segment.SegName.{SegName}
use Rattle.xfs_base.specs.Steps.{saying, still}
use Rattle.run_laws.specs.reopening_law.Openings.{ClientsComeBack, ComesBack, comes_to}
use Rattle.run_laws.proofs.world_law.Sent.{in_append}

-- ---- what is no act of being back

abbrev IsNoBack : Effect → Type 0
IsNoBack (Send to said) = Unit {0}
IsNoBack (Answers item a) = Unit {0}
IsNoBack (Lose seg) = Unit {0}
IsNoBack (Does (act.Back c chain)) = ⊥
IsNoBack (Does _) = Unit {0}

none_back : (outs : List Effect) → AllByRecursion IsNoBack outs → (c : ℕ) (chain : List SegName) → In (Does (act.Back c chain)) outs → ⊥
none_back [] none c chain fact = fact
none_back (e ∷ outs) none c chain (inl same) = subst IsNoBack (sym same) none.0
none_back (e ∷ outs) none c chain (inr fact) = none_back outs none.1 c chain fact

act_no_back : (a : Act) → MayAct a → IsNoBack (Does a)
act_no_back (act.Back c chain) may = absurd may
act_no_back _ may = tt

opening_no_back : (owner : Owner) (outs : List Effect) → AllByRecursion (MayDo owner) outs → AllByRecursion IsNoBack outs
opening_no_back owner [] may = tt
opening_no_back owner (Send to said ∷ outs) may = (tt, opening_no_back owner outs may.1)
opening_no_back owner (Answers item a ∷ outs) may = (tt, opening_no_back owner outs may.1)
opening_no_back owner (Lose seg ∷ outs) may = (tt, opening_no_back owner outs may.1)
opening_no_back owner (Does a ∷ outs) may = (act_no_back a may.0, opening_no_back owner outs may.1)

answers_no_back : (item : Option ℕ) (a : Answer) → AllByRecursion IsNoBack (answers_unanswered item a)
answers_no_back None a = tt
answers_no_back (Some number) a = (tt, tt)

pushes_no_back : (managers : Managers) (feed : FeedState) → AllByRecursion IsNoBack (push_all managers feed)
pushes_no_back managers feed = each (feed_tick feed)
  where
    each : (outs : List _) → AllByRecursion IsNoBack (map (range managers) outs)
    each [] = tt
    each (Range slot first upto rows ∷ outs) = (tt, each outs)

-- ---- the event

module _ (c : ℕ) (l : Lasting) (o : Opening) (s : Serving) where
  abbrev Comes : Do → Went_to → Type 0
  Comes what x = x.state ≡ phase.Serving s → ComesBack c (comes_to o l.questions what) s x.outs

  same_log : (r t : Serving) → phase.Serving r ≡ phase.Serving t → r.log ≡ t.log
  same_log r t e = cc

  progress_comes : (what : Do) (m : Lasting) (capacity : ℕ) (p : Progress) (effects : List Effect) → AllByRecursion IsNoBack effects
      → comes_to o l.questions what ≡ p → Comes what (saying effects (phase_after m capacity p))
  progress_comes what m capacity (progress.Opening x) effects none fact e = absurd cc
  progress_comes what m capacity (progress.Lost seg) effects none fact e = absurd cc
  progress_comes what m capacity (progress.Opened r) effects none fact e = record {
    opened = r;
    comes = fact;
    log = sym (same_log (served m capacity r) s e);
    back = λ chain among. ⊎_elim (λ there. absurd (none_back effects none c chain there)) (its chain)
        (in_append effects _ (Does (act.Back c chain)) among);
  }
    where
      rest : List Effect
      rest = push_all r.promised.managers r.feed ++ answers_unanswered m.items.unanswered answer.Done

      one_chain : (chain : List SegName) → Does (act.Back c chain) ≡ Does (act.Back m.number r.chain) → chain ≡ r.chain
      one_chain chain same = cc

      its : (chain : List SegName) → In (Does (act.Back c chain)) (Does (act.Back m.number r.chain) ∷ rest) → chain ≡ r.chain
      its chain (inl same) = one_chain chain same
      its chain (inr fact) = absurd
          (⊎_elim (none_back (push_all r.promised.managers r.feed) (pushes_no_back r.promised.managers r.feed) c chain)
          (none_back (answers_unanswered m.items.unanswered answer.Done) (answers_no_back m.items.unanswered answer.Done) c chain)
          (in_append (push_all r.promised.managers r.feed) (answers_unanswered m.items.unanswered answer.Done) (Does (act.Back c chain)) fact))

  wish_comes : (m : Lasting) (number : ℕ) (wanted : Option Work) → Comes Begin (opening_begins m o number (wish_of wanted))
  wish_comes m number (Some (work.Crash node)) e = absurd cc
  wish_comes m number (Some (work.Restart node)) e = absurd cc
  wish_comes m number (Some _) e = absurd cc
  wish_comes m number None e = absurd cc

  item_comes : (servers : ℕ) (item : Option ℕ) → Comes Begin (begins_item servers (phase.Opening l o) item)
  item_comes servers None e = absurd cc
  item_comes servers (Some number) e = wish_comes (record l { items = items_begin l.items }) number (work_at (items_begin l.items) number) e

  still_comes : (what : Do) → Comes what (still (phase.Opening l o))
  still_comes what e = absurd cc

  event_comes : (peers : Peers) (capacity : ℕ) (what : Do) → Comes what (on_event peers capacity (phase.Opening l o) what)
  unfolding on_begin on_deliver client_tick
  event_comes peers capacity Begin = item_comes peers.servers (next_item l.items)
  event_comes peers capacity Tick =
      let x : Went = opens.on_tick o l.questions in
      progress_comes Tick (record l { questions = x.questions }) capacity x.progress x.effects
      (opening_no_back o.known.owner x.effects (behaving.tick_so o l.questions).does) refl
  event_comes peers capacity (Deliver packet) =
      let x : Went = opens.opening_take o l.questions packet in
      by_test (Comes (Deliver packet)) (is_well_formed peers packet) (on_deliver capacity (phase.Opening l o) packet) (still (phase.Opening l o))
      (λ t. progress_comes (Deliver packet) (record l { questions = x.questions }) capacity x.progress x.effects
      (opening_no_back o.known.owner x.effects (behaving.packet_so o l.questions packet).does) refl)
      (λ t. still_comes (Deliver packet))

  taken_comes : (client : AClient) (what : Do) → client.phase ≡ phase.Opening l o → Comes what (takes client what)
  taken_comes client what fact =
      by_test (Comes what) (client_has_room client) (happens client what) (still client.phase)
      (λ t. subst (λ p. Comes what (on_event client.peers client.cache p what)) (sym fact) (event_comes client.peers client.cache what))
      (λ t. subst (λ (p : Phase). Comes what (still p)) (sym fact) (still_comes what))

pub clients_come_back : ClientsComeBack
clients_come_back c client what l o s fact = taken_comes c l o s client what fact
