-- A client that isn't moved in the small world, and one that is down, in each event.
use Rattle.std.proofs.Common.{◌≡◌, ◌≤◌, ◌<◌, ◌⊎◌, ℕ, ◌+◌, Bool, true, cond, List, [], ◌∷◌, Option, Some, None, nat_lt, refl, arith, inl, inr}
use Rattle.std.proofs.lemmas.Bool.Decides.{nat_tests}
use Rattle.std.proofs.lemmas.List.Elements.{All-nil, All-cons}
use Rattle.client_node.specs.declared.phase.Phase.TheVariants.{Down, Opening, Serving as Serves}
use Rattle.client_node.specs.declared.phase.Phase.{Phase}
use Rattle.client_node.specs.Phases.{Went_to, owner_of, restart, back, answers, wish_of, down_begins, lasting_of}
use Rattle.client_serving.specs.declared.lasting.Lasting.{Lasting}
use Rattle.client_serving.specs.Lasting.{live_on}
use Rattle.log_flight.specs.Flights.{FlightState}
use Rattle.log_owner.specs.Opening as opening
use Rattle.log_owner.specs.Opening.{Went}
use Rattle.log_owner.proofs.Behaving as behaving
use Rattle.node_base.specs.Beginning.{items_begin}
use Rattle.node_base.specs.declared.effects.Effect.{Effect}
use Rattle.node_base.specs.declared.effects.Effect.TheVariants.{Answer as Answers}
use Rattle.node_base.specs.Effects.{acts_of}
use Rattle.node_base.specs.Room.{has_room}
use Rattle.token_client.specs.State.{epoch_of}
use Rattle.token_law.specs.Books.{Books}
use Rattle.token_law.specs.Net.{Net, acted}
use Rattle.token_protocol.specs.Premises.{Premise}
use Rattle.version_model.specs.declared.act.Act.{Act}
use Rattle.version_model.specs.declared.answer.Answer.{Answer}
use Rattle.version_model.specs.declared.answer.Answer.TheVariants as answer
use Rattle.version_model.specs.declared.work.Work.{Work}
use Rattle.version_model.specs.declared.work.Work.TheVariants as work
use Rattle.xfs_base.specs.declared.node.NodeId.TheVariants.{Client}
use Rattle.xfs_base.specs.Limits.{u32_end, slot_count}
use Rattle.xfs_base.specs.Steps.{still}
use Rattle.node_slots.specs.node_tie.ClientEvents.{AwaitsFirst, SeesDown, Raises, ClientAgrees, PromisesWithin, ClientStands, BeginsLater, SaysBack, LogGoes, ClientGoes}
use Rattle.node_slots.specs.node_tie.ClientLogs.{end_upto}
use Rattle.node_slots.proofs.node_tie.ClientFalls.{all_did}
use Rattle.node_slots.proofs.node_tie.ClientFrames as frames
use Rattle.node_slots.proofs.node_tie.ClientOpening.{plain_does}
use Rattle.node_slots.proofs.node_tie.SmallWorld.{premise}

-- ---- tests

-- the next incarnation is a later one
raised : (l : Lasting) (number : ℕ) → has_room l.inc ≡ true → l.inc < (live_on l number).inc
raised l number room = above l.inc room
  where
    above : (k : ℕ) → has_room k ≡ true → k < cond (nat_lt k u32_end) (k + 1) k
    above k r = grind (arith, nat_tests)

module _ (logs : Bool) (members part limit c : ℕ) (small : part < slot_count) (pos : 0 < c) (less : c < members) (n : Net) where
  abbrev Goes : Phase → Went_to → Type 0
  Goes p w = ClientGoes logs members part limit c n p w.state w.outs

  -- ---- where the small world stands still

  pub begins_same : (p : Phase) → BeginsLater p p
  begins_same (Down l) = tt
  begins_same (Opening l o) = tt
  begins_same (Serves s) = tt

  -- in a world of more acts it is seen as before
  agrees_acted : (done : List Act) (q : Phase) → ClientAgrees logs part c n q → ClientAgrees logs part c (acted n done) q
  agrees_acted done (Down l) h = record { up = h.up; number = h.number; inc = h.inc; beyond = h.beyond }
  agrees_acted done (Opening l o) h =
      record { up = h.up; number = h.number; inc = h.inc; owner = h.owner; promised = by_stage h.promised; beyond = h.beyond }
    where
      by_stage : AwaitsFirst o.stage ⊎ Raises logs part c n o → AwaitsFirst o.stage ⊎ Raises logs part c (acted n done) o
      by_stage (inl fact) = inl fact
      by_stage (inr raises) = inr (record { epochs = raises.epochs; rises = raises.rises })
  agrees_acted done (Serves s) h = record {
    up = h.up;
    tokens = h.tokens;
    number = h.number;
    inc = h.inc;
    epochs = h.epochs;
    giving = h.giving;
    valued = h.valued;
    logged = h.logged;
  }

  pub stays_so : (p q : Phase) (outs : List Effect) → ClientAgrees logs part c n q → epoch_of (n.tokens c).epochs part ≤ limit → PromisesWithin part limit q
      → (lasting_of p).inc ≤ (lasting_of q).inc → BeginsLater p q → SaysBack c outs p q → Premise logs (LogGoes n n.books c outs p q)
      → frames.Plain part c (lasting_of q).inc outs → ClientGoes logs members part limit c n p q outs
  stays_so p q outs agrees within promises later begins back log plain =
      let grown : frames.Grown logs members part c n (acted n (acts_of (Client c) outs)) (acts_of (Client c) outs) =
      frames.grown_saying logs members part c n (acts_of (Client c) outs) (frames.plain_acts part c (lasting_of q).inc outs plain) in
      record {
        next = acted n (acts_of (Client c) outs);
        runs = grown.runs;
        agrees = agrees_acted (acts_of (Client c) outs) q agrees;
        others = grown.others;
        slots = grown.slots;
        grows = grown.grows;
        acts = grown.acts;
        books = grown.books;
        log = log;
        does = all_did part c n n.sent (lasting_of q).inc q outs (frames.plain_does part c (lasting_of q).inc n.sent outs plain);
        within = within;
        promises = promises;
        later = later;
        begins = begins;
        stands = λ away. refl;
        back = back;
      }

  pub back_same : (p : Phase) (outs : List Effect) → SaysBack c outs p p
  back_same (Down l) outs = tt
  back_same (Opening l o) outs = tt
  back_same (Serves s) outs = tt

  end_within : (k : Books) (l : ℕ) (o : Option FlightState) → k.end l ≤ end_upto (k.end l) o
  end_within k l None = omega arith
  end_within k l (Some f) = omega arith

  log_same : (p : Phase) → LogGoes n n.books c [] p p
  log_same (Down l) = refl
  log_same (Opening l o) = refl
  log_same (Serves s) = record { rises = omega arith; upto = end_within n.books c s.log.flight; rows = λ q upto. refl }

  pub still_so : (p : Phase) → ClientAgrees logs part c n p → ClientStands part limit c n p → Goes p (still p)
  still_so p agrees h = stays_so p p [] agrees h.within h.promises (omega arith) (begins_same p) (back_same p []) (premise logs (log_same p))
      (All-nil (frames.May part c (lasting_of p).inc))

  pub answered_one : (life : ℕ) (number : ℕ) (a : Answer) → frames.Plain part c life (Answers number a ∷ [])
  answered_one life number a = All-cons (frames.May part c life) (Answers number a) [] tt (All-nil (frames.May part c life))

  -- ---- one that is down

  module _ (l : Lasting) (sees : SeesDown logs part c n l) (h : ClientStands part limit c n (Down l)) where
    restart_so : (servers number : ℕ) → has_room l.inc ≡ true → Goes (Down l) (restart servers (live_on (record l { items = items_begin l.items }) number))
    restart_so servers number room =
        let life : Lasting = live_on (record l { items = items_begin l.items }) number in
        let w : Went = opening.on_start (owner_of life) servers life.questions in
        let later : l.inc < life.inc = raised (record l { items = items_begin l.items }) number room in
        stays_so (Down l) (restart servers life).state w.effects
        (record {
          up = sees.up;
          number = sees.number;
          inc = (let k : (n.tokens c).inc ≤ l.inc = sees.inc in omega arith);
          owner = refl;
          promised = inl refl;
          beyond = sees.beyond;
        })
        h.within (inl refl) (omega arith) later tt (premise logs refl) (plain_does part c life.inc (owner_of life) refl w.effects
        (behaving.begin_so (owner_of life) servers life.questions).does)

    down_answers : (number : ℕ) (a : Answer) → Goes (Down l) (answers (Down (record l { items = items_begin l.items })) number a)
    down_answers number a =
        stays_so (Down l) (Down (record l { items = items_begin l.items })) (Answers number a ∷ [])
        (record { up = sees.up; number = sees.number; inc = sees.inc; beyond = sees.beyond })
        h.within tt (omega arith) tt tt (premise logs refl) (answered_one l.inc number a)

    pub down_begins_so : (servers number : ℕ) (w : Option Work) → has_room l.inc ≡ true
        → Goes (Down l) (down_begins servers (record l { items = items_begin l.items }) number (wish_of w))
    down_begins_so servers number (Some (work.Restart node)) room = restart_so servers number room
    down_begins_so servers number (Some (work.Crash node)) room = down_answers number answer.Down
    down_begins_so servers number (Some _) room = down_answers number answer.Down
    down_begins_so servers number None room = down_answers number answer.Down
