-- What a manager does of what the takeover of a slot says: it asks for what the takeover reads, under one number for each of the takeover's questions, and
-- what it says is lost the takeover says.
use Rattle.std.proofs.Common.{◌≡◌, ◌⊎◌, ⊎_elim, ℕ, ◌+◌, ◌==◌, ◌<◌, ◌≤◌, Bool, true, false, cond, nat_lt, List, [], ◌∷◌, Option, Some, None, inl, inr, refl, sym, ap, subst, ◌∙◌, arith}
use Rattle.std.specs.List.{AllByRecursion}
use Rattle.std.proofs.lemmas.Bool.Decides.{nat_tests}
use Rattle.std.proofs.lemmas.Bool.{eqb-false, eqb-true}
use Rattle.manager_slots.specs.declared.slot_phase.SlotPhase.{SlotPhase}
use Rattle.manager_slots.specs.declared.slot_phase.SlotPhase.TheVariants as phase
use Rattle.manager_slots.specs.declared.slot_phase.Taking.{Taking}
use Rattle.manager_slots.specs.Slots.{epoch_of, managed}
use Rattle.manager_slots.specs.Takeovers.{Done, asker, takeovers_say, say_each}
use Rattle.node_base.specs.Asking.{asked_as, draw, drawn_for, next_ask, number_for}
use Rattle.node_base.specs.declared.effects.Effect.{Effect}
use Rattle.node_base.specs.declared.effects.Effect.TheVariants.{Send, Answer, Lose, Does as Acts}
use Rattle.node_base.specs.declared.questions.Asked.{Asked}
use Rattle.node_base.specs.declared.questions.Questions.{Questions}
use Rattle.segment_reading.specs.Reading.{ReadingState}
use Rattle.takeover.specs.declared.output.Out.{Out}
use Rattle.takeover.specs.declared.output.Out.TheVariants as out
use Rattle.takeover.specs.declared.source.Present.{Present}
use Rattle.token_manager.specs.Transition.{slot_start as slot_started}
use Rattle.wire_msg.specs.declared.body.Body.{Body}
use Rattle.wire_msg.specs.declared.body.Body.TheVariants as body
use Rattle.wire_msg.specs.declared.storage.Fetch.{Fetch}
use Rattle.xfs_base.proofs.Booleans.{by_test}
use Rattle.xfs_base.specs.declared.node.NodeId.{NodeId}
use Rattle.xfs_base.specs.declared.node.NodeId.TheVariants.{Server}
use Rattle.xfs_base.specs.declared.segment.SegName.{SegName}
use Rattle.xfs_base.specs.Limits.{u32_end}
use Rattle.xfs_base.proofs.Alls.{all_weaker}
use Rattle.run_losses.proofs.taking_law.TakeTurns.{AsksAs, AsksFor, NotFetch}

drawn_one : (k : ℕ) → k < u32_end → cond (nat_lt k u32_end) (k + 1) k ≡ k + 1
drawn_one k room = grind (arith, nat_tests)

-- whatever is asked for of one reading is asked under one number of the takeover's
one_own : (o : Option Present) (name other : SegName) (own more : ℕ) → AsksFor o name own → AsksFor o other more → more ≡ own
one_own None name other own more h k = absurd h
one_own (Some p) name other own more h k = by p.reading h k
  where
    by : (r : Option ReadingState) → AsksAs p.source.seg.name r name own → AsksAs p.source.seg.name r other more → more ≡ own
    by None h k = absurd h
    by (Some r) h k = k.1.0 ∙ sym h.1.0

-- ---- all that is said

-- nothing was asked, or under this number of the takeover's: it was out already, or a later one than all before is out now
pub record Rested (t : Taking) (outs : List Out) (y : Taking) : Type 0 where
  pub none : AllByRecursion NotFetch outs
  pub own : y.fetches.own ≡ t.fetches.own
  pub ask : y.fetches.ask ≡ t.fetches.ask

pub record Asks (t : Taking) (q : Questions) (y : Taking) : Type 0 where
  pub name : SegName
  pub asks : AsksFor t.take.present name y.fetches.own
  pub number : ((y.fetches.own ≡ t.fetches.own) × (y.fetches.ask ≡ t.fetches.ask)) ⊎ ((y.fetches.own ≡ t.fetches.own → ⊥) × (q.last < y.fetches.ask))

pub record TakingSaid (t : Taking) (q : Questions) (outs : List Out) (last : ℕ) (y : Taking) : Type 0 where
  pub epoch : y.epoch ≡ t.epoch
  pub take : y.take ≡ t.take
  pub number : y.fetches.ask ≤ last
  pub how : Rested t outs y ⊎ Asks t q y

abbrev pub PhaseSaid : Taking → Questions → List Out → ℕ → SlotPhase → Type 0
PhaseSaid t q outs last (phase.Taking y) = TakingSaid t q outs last y
PhaseSaid t q outs last (phase.Away epoch) = Unit {0}
PhaseSaid t q outs last (phase.Active a) = Unit {0}
PhaseSaid t q outs last (phase.Broken epoch seg) = Unit {0}

-- a fetch is by the number that was out, or by a later one than all before
abbrev pub NumberSo : Taking → Questions → ℕ → ℕ → Type 0
NumberSo t q last n =
    (n ≤ last) × ((((name : SegName) × AsksFor t.take.present name t.fetches.own) × (n ≡ t.fetches.ask)) ⊎ (q.last < n))

module _ (L : SegName → Type 0) where
  -- what the takeover says, which reads this at present; of what is lost, L is so
  abbrev pub SaysSo : Option Present → Out → Type 0
  SaysSo o (out.Poll to) = Unit {0}
  SaysSo o (out.Fetch server name own) = AsksFor o name own
  SaysSo o (out.Active epoch index beliefs applied) = Unit {0}
  SaysSo o (out.Lost name) = L name

  abbrev pub AllSay : Option Present → List Out → Type 0
  AllSay o outs = AllByRecursion (SaysSo o) outs

  -- a fetch is by this number, of what is read at present
  abbrev FetchSo : (ℕ → Type 0) → Option Present → Fetch → Type 0
  FetchSo N o m = ((own : ℕ) × AsksFor o m.name own) × N m.ask

  abbrev BodySo : (ℕ → Type 0) → Option Present → Body → Type 0
  BodySo N o (body.Fetch m) = FetchSo N o m
  BodySo N o _ = Unit {0}

  abbrev pub EffectSo : (ℕ → Type 0) → Option Present → Effect → Type 0
  EffectSo N o (Send to said) = BodySo N o said
  EffectSo N o (Answer item answer) = Unit {0}
  EffectSo N o (Lose name) = L name
  EffectSo N o (Acts act) = ⊥

  abbrev pub AllDo : (ℕ → Type 0) → Option Present → List Effect → Type 0
  AllDo N o outs = AllByRecursion (EffectSo N o) outs

  -- ---- a slot that isn't taken over

  abbrev NotTaking : SlotPhase → Type 0
  NotTaking (phase.Taking t) = ⊥
  NotTaking (phase.Away epoch) = Unit {0}
  NotTaking (phase.Active a) = Unit {0}
  NotTaking (phase.Broken epoch seg) = Unit {0}

  record Away (N : ℕ → Type 0) (o : Option Present) (q : Questions) (d : Done) : Type 0 where
    phase : NotTaking d.state.phase
    questions : d.state.questions ≡ q
    does : AllDo N o d.outs

  module _ (N : ℕ → Type 0) (o : Option Present) (slot : ℕ) where
    away_so : (p : SlotPhase) (q : Questions) (outs : List Out) → NotTaking p → AllSay o outs → Away N o q (say_each slot (asker p q) outs)
    unfolding say_each takeovers_say
    away_so p q [] none all = record { phase = none; questions = refl; does = tt }
    away_so p q (out.Poll to ∷ outs) none all =
        let h = away_so p q outs none all.1 in record { phase = h.phase; questions = h.questions; does = (tt, h.does) }
    away_so (phase.Taking t) q (out.Fetch server name own ∷ outs) none all = absurd none
    away_so (phase.Away epoch) q (out.Fetch server name own ∷ outs) none all = away_so (phase.Away epoch) q outs tt all.1
    away_so (phase.Active a) q (out.Fetch server name own ∷ outs) none all = away_so (phase.Active a) q outs tt all.1
    away_so (phase.Broken epoch seg) q (out.Fetch server name own ∷ outs) none all = away_so (phase.Broken epoch seg) q outs tt all.1
    away_so p q (out.Active epoch index beliefs applied ∷ outs) none all = away_so (managed (slot_started epoch index beliefs applied)) q outs tt all.1
    away_so p q (out.Lost name ∷ outs) none all =
        let h = away_so (phase.Broken (epoch_of p) name) q outs tt all.1 in record { phase = h.phase; questions = h.questions; does = (all.0, h.does) }

  -- ---- a question that is out already

  -- where the slot is taken over still, it is asked under these numbers
  abbrev StillAsks : Taking → Asked → SlotPhase → Type 0
  StillAsks t b (phase.Taking y) = (y.epoch ≡ t.epoch) × ((y.take ≡ t.take) × ((y.fetches.own ≡ b.own) × (y.fetches.ask ≡ b.ask)))
  StillAsks t b (phase.Away epoch) = Unit {0}
  StillAsks t b (phase.Active a) = Unit {0}
  StillAsks t b (phase.Broken epoch seg) = Unit {0}

  record Settled (t : Taking) (b : Asked) (last : ℕ) (d : Done) : Type 0 where
    phase : StillAsks t b d.state.phase
    last_is : d.state.questions.last ≡ last
    does : AllDo (λ n. n ≡ b.ask) t.take.present d.outs

  still_away : (t : Taking) (b : Asked) (p : SlotPhase) → NotTaking p → StillAsks t b p
  still_away t b (phase.Taking y) none = absurd none
  still_away t b (phase.Away epoch) none = tt
  still_away t b (phase.Active a) none = tt
  still_away t b (phase.Broken epoch seg) none = tt

  settled_away : (t : Taking) (b : Asked) (last : ℕ) (q : Questions) (d : Done) → q.last ≡ last → Away (λ n. n ≡ b.ask) t.take.present q d → Settled t b last d
  settled_away t b last q d fact h = record {
    phase = still_away t b d.state.phase h.phase;
    last_is = ap (λ (x : Questions). x.last) h.questions ∙ fact;
    does = h.does;
  }

  module _ (slot : ℕ) (t : Taking) (b : Asked) (last : ℕ) (same : (name : SegName) (own : ℕ) → AsksFor t.take.present name own → own ≡ b.own) where
    settled_so : (f : Asked) (q : Questions) (outs : List Out) → f.own ≡ b.own → f.ask ≡ b.ask → q.last ≡ last → AllSay t.take.present outs
        → Settled t b last (say_each slot (asker (phase.Taking (record t { fetches = f })) q) outs)
    unfolding say_each takeovers_say
    settled_so f q [] own ask at all = record { phase = (refl, (refl, (own, ask))); last_is = at; does = tt }
    settled_so f q (out.Poll to ∷ outs) own ask at all =
        let h = settled_so f q outs own ask at all.1 in record { phase = h.phase; last_is = h.last_is; does = (tt, h.does) }
    settled_so f q (out.Fetch server name n ∷ outs) own ask at all =
        let fact : n ≡ b.own = same name n all.0 in
        let number : number_for f q n ≡ b.ask =
        by_test (λ (k : ℕ). k ≡ b.ask) (n == f.own) f.ask (next_ask q) (λ _. ask) (λ e. absurd (eqb-false n f.own e (fact ∙ sym own))) in
        let now : (drawn_for f q n).last ≡ last =
        by_test (λ (k : Questions). k.last ≡ last) (n == f.own) q (draw q) (λ _. at) (λ e. absurd (eqb-false n f.own e (fact ∙ sym own))) in
        let h = settled_so (asked_as f q n) (drawn_for f q n) outs fact number now all.1 in
        record { phase = h.phase; last_is = h.last_is; does = (((n, all.0), number), h.does) }
    settled_so f q (out.Active epoch index beliefs applied ∷ outs) own ask at all =
        settled_away t b last q _ at (away_so (λ n. n ≡ b.ask) t.take.present slot _ q outs tt all.1)
    settled_so f q (out.Lost name ∷ outs) own ask at all =
        let h = settled_away t b last q _ at (away_so (λ n. n ≡ b.ask) t.take.present slot _ q outs tt all.1) in
        record { phase = h.phase; last_is = h.last_is; does = (all.0, h.does) }

  -- ---- all that is said

  pub record Said (t : Taking) (q : Questions) (outs : List Out) (d : Done) : Type 0 where
    pub phase : PhaseSaid t q outs d.state.questions.last d.state.phase
    pub up : q.last ≤ d.state.questions.last
    pub few : d.state.questions.last ≤ q.last + 1
    pub does : AllDo (NumberSo t q d.state.questions.last) t.take.present d.outs

  said_away : (t : Taking) (q : Questions) (outs : List Out) (last : ℕ) (p : SlotPhase) → NotTaking p → PhaseSaid t q outs last p
  said_away t q outs last (phase.Taking y) none = absurd none
  said_away t q outs last (phase.Away epoch) none = tt
  said_away t q outs last (phase.Active a) none = tt
  said_away t q outs last (phase.Broken epoch seg) none = tt

  -- it is taken over no longer
  ends_so : (t : Taking) (q : Questions) (outs : List Out) (d : Done)
      → ((N : ℕ → Type 0) → Away N t.take.present q d) → Said t q outs d
  ends_so t q outs d h =
      let a = h (NumberSo t q d.state.questions.last) in
      let same = ap (λ (x : Questions). x.last) a.questions in
      record {
        phase = said_away t q outs d.state.questions.last d.state.phase a.phase;
        up = omega arith;
        few = omega arith;
        does = a.does;
      }

  number_more : (N M : ℕ → Type 0) (o : Option Present) → ((n : ℕ) → N n → M n) → (outs : List Effect) → AllDo N o outs → AllDo M o outs
  number_more N M o f outs all = all_weaker (EffectSo N o) (EffectSo M o) each outs all
    where
      in_body : (b : Body) → BodySo N o b → BodySo M o b
      in_body (body.Fetch m) fact = (fact.0, f m.ask fact.1)
      in_body _ fact = tt

      each : (e : Effect) → EffectSo N o e → EffectSo M o e
      each (Send to said) fact = in_body said fact
      each (Answer item answer) fact = tt
      each (Lose name) fact = fact
      each (Acts act) fact = fact

  module _ (slot : ℕ) (t : Taking) (q : Questions) (low : t.fetches.ask ≤ q.last) (room : q.last < u32_end) where
    -- a first question
    module _ (server : ℕ) (name : SegName) (own : ℕ) (outs : List Out) (asks : AsksFor t.take.present name own) (all : AllSay t.take.present outs) where
      abbrev Goes : Asked → Questions → Type 0
      Goes f p =
          Said t q (out.Fetch server name own ∷ outs) (record {
            state = (say_each slot (asker (phase.Taking (record t { fetches = f })) p) outs).state;
            outs = Send (Server server) (body.Fetch (record { name = name; ask = f.ask }))
                ∷ (say_each slot (asker (phase.Taking (record t { fetches = f })) p) outs).outs;
          })

      by_settled : (f : Asked) (p : Questions) → own ≡ f.own → q.last ≤ p.last → p.last ≤ q.last + 1 → f.ask ≤ p.last
          → (((f.own ≡ t.fetches.own) × (f.ask ≡ t.fetches.ask)) ⊎ ((f.own ≡ t.fetches.own → ⊥) × (q.last < f.ask))) → Goes f p
      by_settled f p fact up few limit number =
          let h = settled_so slot t f p.last (λ other more k. one_own t.take.present name other own more asks k ∙ fact) f p outs refl refl refl all in
          let last = h.last_is in
          record {
            phase = said _ h.phase (omega arith);
            up = omega arith;
            few = omega arith;
            does = (
              ((own, asks), so _ (omega arith)),
              number_more (λ n. n ≡ f.ask) _ t.take.present (λ n e. subst (NumberSo t q _) (sym e) (so _ (omega arith))) _ h.does,
            );
          }
        where
          asked_so : AsksFor t.take.present name f.own
          asked_so = subst (AsksFor t.take.present name) fact asks

          so : (last : ℕ) → f.ask ≤ last → NumberSo t q last f.ask
          so last limit = (limit, ⊎_elim (λ old. inl ((name, subst (AsksFor t.take.present name) old.0 asked_so), old.1)) (λ new. inr new.1) number)

          said : {last : ℕ} → (x : SlotPhase) → StillAsks t f x → f.ask ≤ last → PhaseSaid t q (out.Fetch server name own ∷ outs) last x
          said (phase.Taking y) h limit = record {
            epoch = h.0;
            take = h.1.0;
            number = (let a = h.1.1.1 in omega arith);
            how = inr (record {
              name = name;
              asks = subst (AsksFor t.take.present name) (sym h.1.1.0) asked_so;
              number = ⊎_elim (λ old. inl (h.1.1.0 ∙ old.0, h.1.1.1 ∙ old.1))
                  (λ new. inr (λ e. new.0 (sym h.1.1.0 ∙ e), let a = h.1.1.1 in let b = new.1 in omega arith)) number;
            });
          }
          said (phase.Away epoch) h limit = tt
          said (phase.Active a) h limit = tt
          said (phase.Broken epoch seg) h limit = tt

      first_asks : Goes (asked_as t.fetches q own) (drawn_for t.fetches q own)
      first_asks = by (own == t.fetches.own) refl
        where
          by : (b : Bool) → (own == t.fetches.own) ≡ b
              → Goes (record { own = own; ask = cond b t.fetches.ask (next_ask q) }) (cond b q (draw q))
          by true fact = let e = eqb-true own t.fetches.own fact in
              by_settled (record { own = own; ask = t.fetches.ask }) q refl (omega arith) (omega arith) low (inl (e, refl))
          by false fact = let e = drawn_one q.last room in
              by_settled (record { own = own; ask = next_ask q }) (draw q) refl (omega arith) (omega arith) (omega arith)
              (inr (eqb-false own t.fetches.own fact, omega arith))

    -- a poll asks for nothing
    polled : (to : NodeId) (outs : List Out) (last : ℕ) (x : SlotPhase) → PhaseSaid t q outs last x → PhaseSaid t q (out.Poll to ∷ outs) last x
    polled to outs last (phase.Taking y) h = record {
      epoch = h.epoch;
      take = h.take;
      number = h.number;
      how = ⊎_elim (λ (r : Rested t outs y). inl (record { none = (tt, r.none); own = r.own; ask = r.ask })) (λ a. inr a) h.how;
    }
    polled to outs last (phase.Away epoch) h = tt
    polled to outs last (phase.Active a) h = tt
    polled to outs last (phase.Broken epoch seg) h = tt

    pub takeovers_say_so : (outs : List Out) → AllSay t.take.present outs → Said t q outs (say_each slot (asker (phase.Taking t) q) outs)
    unfolding say_each takeovers_say
    takeovers_say_so [] all = record {
      phase = record { epoch = refl; take = refl; number = low; how = inl (record { none = tt; own = refl; ask = refl }) };
      up = omega arith;
      few = omega arith;
      does = tt;
    }
    takeovers_say_so (out.Poll to ∷ outs) all = (let h = takeovers_say_so outs all.1 in record {
      phase = polled to outs _ _ h.phase;
      up = h.up;
      few = h.few;
      does = (tt, h.does);
    })
    takeovers_say_so (out.Fetch server name own ∷ outs) all = first_asks server name own outs all.0 all.1
    takeovers_say_so (out.Active epoch index beliefs applied ∷ outs) all =
        ends_so t q (out.Active epoch index beliefs applied ∷ outs) _ (λ N. away_so N t.take.present slot _ q outs tt all.1)
    takeovers_say_so (out.Lost name ∷ outs) all =
        ends_so t q (out.Lost name ∷ outs) _
        (λ N. let h = away_so N t.take.present slot _ q outs tt all.1 in record { phase = h.phase; questions = h.questions; does = (all.0, h.does) })
