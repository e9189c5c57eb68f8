-- A log is linked from the least horizon on, and stays linked from where it was, as long as its owner serves: what it files next names the end as the one
-- before it.
use Rattle.std.proofs.Common.{◌≡◌, ◌<◌, ◌≤◌, ◌==◌, ◌-◌, ℕ, zero, suc, Bool, true, false, min, List, [], ◌∷◌, map, Some, inl, inr, refl, sym, ap, subst, ◌∙◌, arith, slice_get, length}
use Rattle.std.specs.Prelude.{slice_index, unwrap_or}
use Rattle.std.proofs.lemmas.Grind.{get_or_default_zero}
use Rattle.std.proofs.lemmas.Option.{unwrap_or-slice_get}
use Rattle.std.proofs.lemmas.Bool.{eqb-true}
use Rattle.std.proofs.lemmas.Bool.Decides.{nat_tests}
use Rattle.client_log.specs.LogState.{LogState}
use Rattle.client_node.specs.declared.phase.Phase.TheVariants as client
use Rattle.index_tie.proofs.Tables.{second_of}
use Rattle.index_tie.proofs.Takeovers.{of_log_in}
use Rattle.headline.specs.Filed.{Filed, Texts}
use Rattle.index_tie.specs.Growth.{with_segment}
use Rattle.index_tie.specs.Net.{Net}
use Rattle.headline.specs.Indexes.{of_log}
use Rattle.log_flight.specs.Flights.{FlightState}
use Rattle.log_law.specs.Ends.{IsFlight}
use Rattle.log_law.specs.Laws.{Moment}
use Rattle.log_law.specs.Net as log
use Rattle.log_law.specs.Net.Owner.{Serving}
use Rattle.log_law.specs.Written.{WhatFliesIsNext}
use Rattle.log_scan.specs.Transition.{horizon_of, least_horizon}
use Rattle.log_tie.specs.Setting.{Setting}
use Rattle.node_base.specs.declared.effects.Effect.{Effect}
use Rattle.node_base.specs.declared.effects.Effect.TheVariants.{Send, Answer, Lose, Does}
use Rattle.node_slots.specs.node_index_tie.Pages.{FlightIsText}
use Rattle.node_slots.proofs.owner_index_tie.Growing.{head_is, next_files, segment_is}
use Rattle.node_slots.specs.owner_index_tie.ClientEvents.{BodyGets}
use Rattle.node_slots.specs.owner_index_tie.Filing.{after_act, after_effect, filed_after, with_name}
use Rattle.node_slots.specs.owner_index_tie.Owners.{IsLastFiled}
use Rattle.registry.specs.Board.{board_slots, slot_news}
use Rattle.registry.specs.BoardState.{BoardState}
use Rattle.registry.specs.Checkpoints.{horizon_at}
use Rattle.registry.specs.Slots.{all_slots}
use Rattle.segment_format.specs.declared.segment.Segment.{Segment}
use Rattle.version_model.specs.declared.act.Act.{Act}
use Rattle.version_model.specs.declared.act.Act.TheVariants.{Filed as ActsFiled}
use Rattle.wire_msg.specs.declared.body.Body.{Body}
use Rattle.wire_msg.specs.declared.body.Body.TheVariants as body
use Rattle.wire_msg.specs.declared.packet.Do.TheVariants.{Begin, Deliver, Tick}
use Rattle.xfs_base.specs.declared.segment.LogId.{LogId}
use Rattle.xfs_base.specs.declared.segment.Prior.{Prior}
use Rattle.xfs_base.specs.declared.segment.SegName.{SegName}
use Rattle.xfs_base.specs.Limits.{slot_count}
use Rattle.run_laws.proofs.world_lines.Turns.{older}
use Rattle.run_laws.specs.world_lines.Lines.{LinesGive}
use Rattle.run_laws.specs.world_lines.Polls.{CleanersPollsAreOwed, ClientsPollsAreOwed, GoesOnByFlight, LinkedSince, LinksGoOn, LinksStay, PresentIsLinked, ServersGoOnByFlights}
use Rattle.token_protocol.specs.Basics.{In}
use Rattle.run_laws.specs.world_lines.Turns.{ActSo, AllSo, EffectSo}

-- ---- what is owed

pub clients_polls_are_owed : ClientsPollsAreOwed
clients_polls_are_owed part texts n c (client.Down l) (Deliver packet) k = tt
clients_polls_are_owed part texts n c (client.Opening l o) (Deliver packet) k = tt
clients_polls_are_owed part texts n c (client.Serving s) (Deliver packet) k = by packet.body
  where
    by : (b : Body) → BodyGets part texts n c s.tokens b
    by (body.Poll m) = λ same late. k m.epoch late
    by _ = tt
clients_polls_are_owed part texts n c p Begin k = tt
clients_polls_are_owed part texts n c p Tick k = tt

pub cleaners_polls_are_owed : CleanersPollsAreOwed
cleaners_polls_are_owed part n e m k same late = k m.epoch late

-- ---- the present horizon

number_is : (h : List ℕ) (k : ℕ) → k < length h → unwrap_or (slice_get h k) 1 ≡ slice_index h k
number_is h k below = unwrap_or-slice_get h k 1 ∙ get_or_default_zero h k 1 below

of_eight : (slot : ℕ) → slot < slot_count → In slot all_slots
of_eight zero below = inl refl
of_eight (suc zero) below = inr (inl refl)
of_eight (suc (suc zero)) below = inr (inr (inl refl))
of_eight (suc (suc (suc zero))) below = inr (inr (inr (inl refl)))
of_eight (suc (suc (suc (suc zero)))) below = inr (inr (inr (inr (inl refl))))
of_eight (suc (suc (suc (suc (suc zero))))) below = inr (inr (inr (inr (inr (inl refl)))))
of_eight (suc (suc (suc (suc (suc (suc zero)))))) below = inr (inr (inr (inr (inr (inr (inl refl))))))
of_eight (suc (suc (suc (suc (suc (suc (suc zero))))))) below = inr (inr (inr (inr (inr (inr (inr (inl refl)))))))
of_eight (suc (suc (suc (suc (suc (suc (suc (suc slot)))))))) below = absurd (omega arith)

least_of : (l slot : ℕ) (b : BoardState) (slots : List ℕ) → In slot slots → least_horizon l (map (slot_news b) slots) ≤ horizon_of l (slot_news b slot)
least_of l slot b [] fact = absurd fact
least_of l slot b (x ∷ slots) (inl e) =
    subst (λ y. least_horizon l (map (slot_news b) (x ∷ slots)) ≤ horizon_of l (slot_news b y)) (sym e) (first (horizon_of l (slot_news b x)) _)
  where
    first : (a c : ℕ) → min a c ≤ a
    first a c = omega arith
least_of l slot b (x ∷ slots) (inr fact) = then (horizon_of l (slot_news b x)) _ _ (least_of l slot b slots fact)
  where
    then : (a c d : ℕ) → c ≤ d → min a c ≤ d
    then a c d h = omega (arith, h)

pub present_is_linked : LinesGive → PresentIsLinked
present_is_linked give part texts l g m n r small some limit sure line seen agrees e late from q =
    (give texts l g m n.filed sure line).linked (of_log (n.horizon e) l) (n.filed.head l) from least (omega arith) q
  where
    b : BoardState
    b = r.board

    horizon : List ℕ
    horizon = horizon_at b.checkpoints part

    horizon_is : horizon ≡ n.horizon e
    horizon_is = agrees.horizon ∙ sym (agrees.later_horizon e late)

    its : horizon_of l (slot_news b part) ≡ of_log (n.horizon e) l
    its =
        number_is horizon (l - 1) (let nine = seen.horizons part small in omega arith)
        ∙ (sym (of_log_in horizon l some limit) ∙ ap (λ h. of_log h l) horizon_is)

    least : m.low ≤ of_log (n.horizon e) l
    least =
        let own : m.low ≡ least_horizon l (board_slots b) = seen.low ∙ ap (λ (x : LogId). least_horizon x.0 (board_slots b)) sure.own in
        let below = least_of l part b all_slots (of_eight part small) in
        let same = its in omega (arith, own, below, same)

-- ---- what stays

pub links_stay : LinksStay
links_stay l from to horizon later f h past some rises same k e late begun q low high =
    let a = some e in
    let r = rises e in
    let highest = same.head in
    ap (λ (s : Segment). s.prior.pass) (same.segment (suc q) (omega arith) (omega arith))
    ∙ (k e (omega arith) a q (omega arith) (omega arith) ∙ ap (λ (s : Segment). s.name.pass) (sym (same.segment q (omega arith) (omega arith))))

-- ---- an owner that serves

module _ (next : WhatFliesIsNext) (part : ℕ) (l : ℕ) (g : Setting) (m : log.Net) (n : Net) (s : LogState) (at : Moment g m)
    (fact : m.owner ≡ Serving s) (end : IsLastFiled part n l s.end) where
  at_next : (flight : FlightState) → s.flight ≡ Some flight → flight.segment.name.seq ≡ suc (n.filed.head l)
  at_next flight flies = let a = (next g m at s fact flight flies).seq in let b = end.seq in omega arith

  module _ (texts : Texts) (text : FlightIsText texts s) where
    by_name : (f : Filed) (name : SegName) → IsFlight s name → GoesOnByFlight l s n.filed f → GoesOnByFlight l s n.filed (with_name texts l f name)
    by_name f name flies (inl same) =
        let seq : name.seq ≡ suc (n.filed.head l) = ap (λ (x : SegName). x.seq) (sym flies.2) ∙ at_next flies.0 flies.1 in
        let is_text : texts name ≡ flies.0.segment = ap texts (sym flies.2) ∙ text flies.0 flies.1 in
        inr (flies.0, flies.1, ap (λ h. with_name texts l h name) same ∙ (next_files texts l n.filed name seq ∙ ap (with_segment n.filed l) is_text))
    by_name f name flies (inr more) = inr (more.0, more.1, stays ∙ more.2)
      where
        head : f.head l ≡ suc (n.filed.head l)
        head = ap (λ (h : Filed). h.head l) more.2 ∙ head_is l n.filed more.0.segment

        seq : name.seq ≡ suc (n.filed.head l)
        seq = ap (λ (x : SegName). x.seq) (sym flies.2) ∙ at_next flies.0 flies.1

        stays : with_name texts l f name ≡ f
        stays = second_of (name.seq == suc (f.head l)) (with_segment f l (texts name)) f (let a = head in let b = seq in grind (arith, nat_tests, a, b))

    by_act : (f : Filed) (a : Act) → ActSo (IsFlight s) a → GoesOnByFlight l s n.filed f → GoesOnByFlight l s n.filed (after_act texts l f a)
    by_act f (ActsFiled name) flies k = by_name f name flies k
    by_act f _ flies k = k

    by_effect : (f : Filed) (e : Effect) → EffectSo (IsFlight s) e → GoesOnByFlight l s n.filed f → GoesOnByFlight l s n.filed (after_effect texts l f e)
    by_effect f (Send to m) flies k = k
    by_effect f (Answer item answer) flies k = k
    by_effect f (Lose seg) flies k = k
    by_effect f (Does act) flies k = by_act f act flies k

    pub by_effects : (f : Filed) (outs : List Effect) → AllSo (IsFlight s) outs → GoesOnByFlight l s n.filed f
        → GoesOnByFlight l s n.filed (filed_after texts l f outs)
    by_effects f [] flies k = k
    by_effects f (e ∷ es) flies k = by_effects (after_effect texts l f e) es flies.1 (by_effect f e flies.0 k)

  module _ (from : ℕ) (horizon : ℕ → List ℕ) (linked : LinkedSince l from horizon n.filed) where
    flown_on : (flight : FlightState) → s.flight ≡ Some flight → LinkedSince l from horizon (with_segment n.filed l flight.segment)
    flown_on flight flies e late some q low high = by (q == n.filed.head l) refl
      where
        highest : q < suc (n.filed.head l)
        highest = (let a = head_is l n.filed flight.segment in omega arith)

        not_new : (k : ℕ) → k ≤ n.filed.head l → (k == suc (n.filed.head l)) ≡ false
        not_new k limit = grind (arith, nat_tests, limit)

        below : (a b : ℕ) → a < suc b → (a == b) ≡ false → a < b
        below a b less other = grind (arith, nat_tests, less, other)

        by : (t : Bool) → (q == n.filed.head l) ≡ t
            → ((with_segment n.filed l flight.segment).segment l (suc q)).prior.pass ≡ ((with_segment n.filed l flight.segment).segment l q).name.pass
        by true last =
            let at_head : q ≡ n.filed.head l = eqb-true q (n.filed.head l) last in
            let now = segment_is l n.filed flight.segment in
            ap (λ k. ((with_segment n.filed l flight.segment).segment l (suc k)).prior.pass) at_head
            ∙ (ap (λ (x : Segment). x.prior.pass) now
            ∙ (ap (λ (p : Prior). p.pass) (next g m at s fact flight flies).prior
            ∙ (end.pass (omega arith)
            ∙ (ap (λ k. (n.filed.segment l k).name.pass) (sym at_head)
            ∙ ap (λ (x : Segment). x.name.pass) (sym (older n.filed l flight.segment q (not_new q (omega arith))))))))
        by false earlier =
            let before : q < n.filed.head l = below q (n.filed.head l) highest earlier in
            ap (λ (x : Segment). x.prior.pass) (older n.filed l flight.segment (suc q) (not_new (suc q) (omega arith)))
            ∙ (linked e late some q low before ∙ ap (λ (x : Segment). x.name.pass) (sym (older n.filed l flight.segment q (not_new q (omega arith)))))

    pub links_on : (h : Filed) → GoesOnByFlight l s n.filed h → LinkedSince l from horizon h
    links_on h (inl same) = subst (LinkedSince l from horizon) (sym same) linked
    links_on h (inr more) = subst (LinkedSince l from horizon) (sym more.2) (flown_on more.0 more.1)

pub servers_go_on_by_flights : WhatFliesIsNext → ServersGoOnByFlights
servers_go_on_by_flights next part texts l g m n s outs at fact end text flies =
    by_effects next part l g m n s at fact end texts text n.filed outs flies (inl refl)

pub links_go_on : WhatFliesIsNext → LinksGoOn
links_go_on next part l from horizon g m n s h at fact end goes linked = links_on next part l g m n s at fact end from horizon linked h goes
