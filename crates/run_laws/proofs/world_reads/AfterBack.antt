-- The event in which the opening of a client's log ends: what it comes to, and that the one act Back tells its chain.
use Rattle.std.proofs.Common.{◌≡◌, ◌⊎◌, ⊎_elim, ℕ, List, [], ◌∷◌, ◌++◌, map, Option, Some, None, inl, inr, refl, sym, ap, subst}
use Rattle.std.specs.List.{AllByRecursion}
use Rattle.client_node.specs.declared.client.Client.{Client as AClient}
use Rattle.client_node.specs.declared.phase.Phase.TheVariants.{Down, Opening, Serving as Serves}
use Rattle.client_node.specs.Phases.{Went_to, phase_after, back, begins_item, client_has_room, happens, on_begin, on_deliver, client_tick, opening_begins, takes, wish_of}
use Rattle.client_serving.specs.declared.lasting.Lasting.{Lasting}
use Rattle.client_serving.specs.declared.serving.Serving.{Serving}
use Rattle.delta_feed.specs.declared.output.Out as feed
use Rattle.delta_feed.specs.declared.output.Out.TheVariants.{Range}
use Rattle.log_owner.proofs.Behaving as behaving
use Rattle.log_owner.specs.Behaves.{MayDo}
use Rattle.log_owner.specs.declared.ended.Owner.{Owner}
use Rattle.log_owner.specs.declared.opened.Opened.{Opened}
use Rattle.log_owner.specs.declared.opened.Progress.{Progress}
use Rattle.log_owner.specs.declared.opened.Progress.TheVariants as progress
use Rattle.log_owner.specs.declared.opening.Opening as openings
use Rattle.log_owner.specs.declared.promised.Managers.{Managers}
use Rattle.log_owner.specs.Opening as opening
use Rattle.log_owner.specs.Sending.{push_all, range}
use Rattle.node_base.specs.Beginning.{answers_unanswered, items_begin, next_item, work_at}
use Rattle.node_base.specs.declared.effects.Effect.{Effect}
use Rattle.node_base.specs.declared.effects.Effect.TheVariants.{Send, Answer as Answers, Lose, Does}
use Rattle.node_base.specs.declared.questions.Questions.{Questions}
use Rattle.node_base.specs.Shape.{is_well_formed}
use Rattle.token_protocol.specs.Basics.{In}
use Rattle.version_model.specs.declared.act.Act.TheVariants as act
use Rattle.version_model.specs.declared.answer.Answer.{Answer}
use Rattle.version_model.specs.declared.answer.Answer.TheVariants as answer
use Rattle.version_model.specs.declared.work.Work.{Work}
use Rattle.version_model.specs.declared.work.Work.TheVariants as work
use Rattle.wire_msg.specs.declared.packet.Do.{Do}
use Rattle.wire_msg.specs.declared.packet.Do.TheVariants.{Begin, Deliver, Tick}
use Rattle.wire_msg.specs.declared.packet.Packet as wire
use Rattle.xfs_base.proofs.Booleans.{by_test}
use Rattle.xfs_base.specs.declared.segment.SegName.{SegName}
use Rattle.xfs_base.specs.Steps.{saying, still}
use Rattle.run_laws.proofs.world_law.Sent.{in_append}

-- an opening comes to this, by a packet or by time
abbrev pub ComesTo : Questions → openings.Opening → Opened → Type 0
ComesTo q o r =
    ((packet : wire.Packet) × ((opening.opening_take o q packet).progress ≡ progress.Opened r)) ⊎ ((opening.on_tick o q).progress ≡ progress.Opened r)

-- The opening ended: the client serves the log that it came to, and says that it is back by its chain alone.
pub record CameBack (l : Lasting) (o : openings.Opening) (w : Went_to) (t : Serving) : Type 0 where
  pub opened : Opened
  pub comes : ComesTo l.questions o opened
  pub log : t.log ≡ opened.log
  pub says : (c : ℕ) (chain : List SegName) → In (Does (act.Back c chain)) w.outs → chain ≡ opened.chain

module _ (c : ℕ) (chain : List SegName) where
  abbrev Back : Effect
  Back = Does (act.Back c chain)

  -- not in what an opening does
  not_opening : (owner : Owner) (outs : List Effect) → AllByRecursion (MayDo owner) outs → In Back outs → ⊥
  not_opening owner [] may fact = fact
  not_opening owner (e ∷ outs) may (inl fact) = subst (MayDo owner) (sym fact) may.0
  not_opening owner (e ∷ outs) may (inr fact) = not_opening owner outs may.1 fact

  abbrev IsOut : Effect → Type 0
  IsOut (Send to m) = Unit {0}
  IsOut (Answers item a) = Unit {0}
  IsOut (Lose seg) = Unit {0}
  IsOut (Does a) = ⊥

  not_out : (outs : List Effect) → AllByRecursion IsOut outs → In Back outs → ⊥
  not_out [] out fact = fact
  not_out (e ∷ outs) out (inl fact) = subst IsOut (sym fact) out.0
  not_out (e ∷ outs) out (inr fact) = not_out outs out.1 fact

  not_pushes : (managers : Managers) (xs : List feed.Out) → In Back (map (range managers) xs) → ⊥
  not_pushes managers [] fact = fact
  not_pushes managers (Range slot first upto rows ∷ xs) (inl fact) = subst IsOut (sym fact) tt
  not_pushes managers (Range slot first upto rows ∷ xs) (inr fact) = not_pushes managers xs fact

  not_answers : (item : Option ℕ) (a : Answer) → In Back (answers_unanswered item a) → ⊥
  not_answers None a fact = fact
  not_answers (Some number) a (inl fact) = subst IsOut (sym fact) tt
  not_answers (Some number) a (inr fact) = fact

-- ---- the event

module _ (l : Lasting) (o : openings.Opening) where
  abbrev Comes : Went_to → Type 0
  Comes w = (t : Serving) → w.state ≡ Serves t → CameBack l o w t

  not_down : (k : Lasting) (outs : List Effect) → Comes (record { state = Down k; outs = outs })
  not_down k outs t fact = absurd cc

  not_open : (k : Lasting) (p : openings.Opening) (outs : List Effect) → Comes (record { state = Opening k p; outs = outs })
  not_open k p outs t fact = absurd cc

  same_chain : (a b : ℕ) (x y : List SegName) → Does (act.Back a x) ≡ Does (act.Back b y) → x ≡ y
  same_chain a b x y fact = cc

  same_serving : (s t : Serving) → Serves s ≡ Serves t → s ≡ t
  same_serving s t fact = cc

  progress_comes : (k : Lasting) (capacity : ℕ) (effects : List Effect) → AllByRecursion (MayDo o.known.owner) effects
      → (p : Progress) → ((r : Opened) → p ≡ progress.Opened r → ComesTo l.questions o r) → Comes (saying effects (phase_after k capacity p))
  progress_comes k capacity effects may (progress.Opening x) from = not_open k x (effects ++ [])
  progress_comes k capacity effects may (progress.Lost seg) from = λ t fact. absurd cc
  progress_comes k capacity effects may (progress.Opened r) from = λ t fact. record {
    opened = r;
    comes = from r refl;
    log = ap (λ (s : Serving). s.log) (sym (same_serving _ t fact));
    says = λ c chain here. ⊎_elim (λ a. absurd (not_opening c chain o.known.owner effects may a))
        (λ b. ⊎_elim (λ same. same_chain c k.number chain r.chain same)
        (λ rest. ⊎_elim (λ a. absurd (not_pushes c chain r.promised.managers _ a)) (λ a. absurd (not_answers c chain k.items.unanswered answer.Done a))
        (in_append (push_all r.promised.managers r.feed) (answers_unanswered k.items.unanswered answer.Done) (Does (act.Back c chain)) rest)) b)
        (in_append effects (back k capacity r).outs (Does (act.Back c chain)) here);
  }

  opening_comes : (number : ℕ) (wanted : Option Work) → Comes (opening_begins (record l { items = items_begin l.items }) o number (wish_of wanted))
  opening_comes number (Some (work.Crash node)) t fact = absurd cc
  opening_comes number (Some (work.Restart node)) t fact = absurd cc
  opening_comes number (Some _) t fact = absurd cc
  opening_comes number None t fact = absurd cc

  item_comes : (servers : ℕ) (item : Option ℕ) → Comes (begins_item servers (Opening l o) item)
  item_comes servers None = not_open l o []
  item_comes servers (Some number) = opening_comes number (work_at (items_begin l.items) number)

  begin_comes : (servers : ℕ) → Comes (on_begin servers (Opening l o))
  unfolding on_begin
  begin_comes servers = item_comes servers (next_item l.items)

  deliver_comes : (capacity : ℕ) (packet : wire.Packet) → Comes (on_deliver capacity (Opening l o) packet)
  unfolding on_deliver
  deliver_comes capacity packet =
      let x = opening.opening_take o l.questions packet in
      progress_comes (record l { questions = x.questions }) capacity x.effects (behaving.packet_so o l.questions packet).does x.progress
      (λ r fact. inl (packet, fact))

  time_comes : (capacity : ℕ) → Comes (client_tick capacity (Opening l o))
  unfolding client_tick
  time_comes capacity =
      let x = opening.on_tick o l.questions in
      progress_comes (record l { questions = x.questions }) capacity x.effects (behaving.tick_so o l.questions).does x.progress (λ r fact. inr fact)

  happens_comes : (client : AClient) (what : Do) → client.phase ≡ Opening l o → Comes (happens client what)
  happens_comes client Begin fact = subst (λ p. Comes (on_begin client.peers.servers p)) (sym fact) (begin_comes client.peers.servers)
  happens_comes client (Deliver packet) fact =
      by_test Comes (is_well_formed client.peers packet) (on_deliver client.cache client.phase packet) (still client.phase)
      (λ t. subst (λ p. Comes (on_deliver client.cache p packet)) (sym fact) (deliver_comes client.cache packet))
      (λ t. subst (λ p. Comes (still p)) (sym fact) (not_open l o []))
  happens_comes client Tick fact = subst (λ p. Comes (client_tick client.cache p)) (sym fact) (time_comes client.cache)

-- a client that opened its log, and serves after the event
pub came_back : (client : AClient) (what : Do) (l : Lasting) (o : openings.Opening) (t : Serving) → client.phase ≡ Opening l o
    → (takes client what).state ≡ Serves t → CameBack l o (takes client what) t
came_back client what l o t fact =
    by_test (Comes l o) (client_has_room client) (happens client what) (still client.phase) (λ _. happens_comes l o client what fact)
    (λ _. subst (λ p. Comes l o (still p)) (sym fact) (not_open l o l o [])) t
