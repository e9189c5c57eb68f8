-- A client that opens its log again, in each event as the small world sees it.
use Rattle.std.proofs.Common.{◌≡◌, ◌≤◌, ◌<◌, ◌⊎◌, ℕ, ◌==◌, ◌&&◌, Bool, true, false, List, [], ◌∷◌, ◌++◌, Option, Some, None, length, refl, sym, ap, subst, ◌∙◌, arith, inl, inr, append_assoc}
use Rattle.std.specs.List.{AllByRecursion, list_all}
use Rattle.std.proofs.lemmas.List.Elements.{All-nil, All-cons, All-append, recursion_from_All}
use Rattle.std.proofs.lemmas.Bool.{eqb-true}
use Rattle.client_node.specs.declared.phase.Phase.TheVariants.{Down, Opening, Serving as Serves}
use Rattle.client_node.specs.declared.phase.Phase.{Phase}
use Rattle.client_node.specs.Phases.{Went_to, cut, served, back, phase_after, opened_on, answers, wish_of, opening_begins}
use Rattle.client_serving.specs.declared.lasting.Lasting.{Lasting}
use Rattle.log_owner.specs.Behaves.{IsOf, Behaves}
use Rattle.log_owner.specs.declared.ended.Owner.{Owner}
use Rattle.log_owner.specs.declared.opened.Opened.{Opened}
use Rattle.log_owner.specs.declared.opened.Progress.{Progress}
use Rattle.log_owner.specs.declared.opened.Progress.TheVariants as progress
use Rattle.log_owner.specs.declared.opening.Opening as openings
use Rattle.log_owner.specs.declared.promised.Promised.{Promised}
use Rattle.log_owner.specs.Opening as opening
use Rattle.log_owner.specs.Opening.{Went}
use Rattle.log_owner.specs.Sending.{push_all}
use Rattle.log_owner.proofs.Behaving as behaving
use Rattle.log_owner.proofs.Promising as promising
use Rattle.node_base.specs.Beginning.{items_begin, items_answer, answers_unanswered}
use Rattle.node_base.specs.declared.effects.Effect.{Effect}
use Rattle.node_base.specs.declared.effects.Effect.TheVariants.{Answer as Answers, Does}
use Rattle.node_base.specs.declared.questions.Questions.{Questions}
use Rattle.node_base.specs.Effects.{acts_of}
use Rattle.node_base.specs.Maps.{fits}
use Rattle.node_base.specs.Shape.{are_in_order, is_slot_news, has_logs}
use Rattle.token_client.specs.declared.held.Giving.{Giving}
use Rattle.token_client.specs.State.{TokensState, epoch_of, tokens_start as fresh_tokens}
use Rattle.token_law.specs.Books.{Books, reopened, with_empty}
use Rattle.token_law.specs.Net.{Net, Happens, acted}
use Rattle.token_law.specs.Net.Happens.{Returns}
use Rattle.token_law.specs.Net.Runs.{Begun, On}
use Rattle.token_law.specs.Owed.{IsNeutral, adopts}
use Rattle.token_protocol.specs.Basics.{put, In}
use Rattle.token_protocol.specs.Premises.{Premise}
use Rattle.version_model.specs.declared.act.Act.{Act}
use Rattle.version_model.specs.declared.act.Act.TheVariants.{Back}
use Rattle.version_model.specs.declared.answer.Answer.{Answer}
use Rattle.version_model.specs.declared.answer.Answer.TheVariants as answer
use Rattle.version_model.specs.declared.work.Work.{Work}
use Rattle.version_model.specs.declared.work.Work.TheVariants as work
use Rattle.wire_msg.specs.declared.body.Body.{Body}
use Rattle.wire_msg.specs.declared.body.Body.TheVariants as body
use Rattle.wire_msg.specs.declared.packet.Packet as wire
use Rattle.xfs_base.proofs.Booleans.{and_first, and_second, contrary}
use Rattle.xfs_base.specs.declared.news.SlotNews.{SlotNews}
use Rattle.xfs_base.specs.declared.node.NodeId.TheVariants.{Client}
use Rattle.xfs_base.specs.Steps.{saying}
use Rattle.xfs_base.specs.Limits.{slot_count}
use Rattle.node_slots.specs.node_tie.ClientEvents.{AwaitsFirst, Raises, SeesOpening, ClientStands, GetsBody, ClientGets, EndsInTime, ClientGoes}
use Rattle.node_slots.specs.node_tie.CleanerEvents.{Bounded}
use Rattle.node_slots.specs.node_tie.ClientLogs.{EndsSo, LogAgrees, NothingBeyond, ReopensSo}
use Rattle.node_slots.specs.node_tie.Sight.{SameLog}
use Rattle.node_slots.proofs.node_tie.Sight.{ClientDoes}
use Rattle.node_slots.proofs.node_tie.ClientBooks.{put_here, put_there, same_log_on}
use Rattle.node_slots.proofs.node_tie.ClientFalls.{all_did}
use Rattle.node_slots.proofs.node_tie.ClientFrames as frames
use Rattle.node_slots.proofs.node_tie.ClientOpening.{Says, awaits_here, awaits_there, plain_does, welcome_promises}
use Rattle.node_slots.proofs.node_tie.ClientReopens.{adopts_same, opened_agrees, other_reopened, other_with_empty, reopened_rests, with_empty_rests}
use Rattle.node_slots.proofs.node_tie.ClientStays.{answered_one, stays_so}
use Rattle.node_slots.proofs.node_tie.ClientTokens as tokens
use Rattle.node_slots.proofs.node_tie.SmallWorld.{premise, premise_by, runs_through, says_all}

-- ---- how an opening ends

abbrev count_of : (logs : Bool) (k : Books) (acts : List Act) (c : ℕ) (r : Opened) → Premise logs (ReopensSo k acts c r) → ℕ
count_of true k acts c r ended = ended.count
count_of false k acts c r ended = 0

end_of : (logs : Bool) (k : Books) (acts : List Act) (c : ℕ) (r : Opened) (ended : Premise logs (ReopensSo k acts c r)) (adopted : Bool)
    → adopted ≡ adopts acts c r.chain
    → Premise logs (r.log.end.seq ≡ (with_empty (count_of logs k acts c r ended) (reopened k c adopted) c).end c)
end_of true k acts c r ended adopted same = ended.end ∙ ap (λ t. (with_empty ended.count (reopened k c t) c).end c) (sym same)
end_of false k acts c r ended adopted same = tt

premise_three : (logs : Bool) {P Q R S : Type 0} → (P → Q → R → S) → Premise logs P → Premise logs Q → Premise logs R → Premise logs S
premise_three true f p q r = f p q r
premise_three false f p q r = tt

module _ (logs : Bool) (members part limit c : ℕ) (small : part < slot_count) (pos : 0 < c) (less : c < members) (n : Net) where
  abbrev Goes : Phase → Went_to → Type 0
  Goes p w = ClientGoes logs members part limit c n p w.state w.outs

  -- ---- one that opens its log

  module _ (l : Lasting) (o : openings.Opening) (sees : SeesOpening logs part c n l o) (h : ClientStands part limit c n (Opening l o)) where
    abbrev Kept : Promised → Type 0
    Kept p = Bounded part (epoch_of (n.tokens c).epochs part) limit p

    crashed_plain : (life : ℕ) (unanswered : Option ℕ) (number : ℕ)
        → frames.Plain part c life (answers_unanswered unanswered answer.Cut ++ Answers number answer.Done ∷ [])
    crashed_plain life unanswered number = All-append (frames.May part c life) (answers_unanswered unanswered answer.Cut) (Answers number answer.Done ∷ [])
        (tokens.plain_answers part c life unanswered answer.Cut) (answered_one logs members part limit c small pos less n life number answer.Done)

    opening_answers : (number : ℕ) (a : Answer) → Goes (Opening l o) (answers (Opening (record l { items = items_begin l.items }) o) number a)
    opening_answers number a =
        stays_so logs members part limit c small pos less n (Opening l o) (Opening (record l { items = items_begin l.items }) o) (Answers number a ∷ [])
        (record { up = sees.up; number = sees.number; inc = sees.inc; owner = sees.owner; promised = sees.promised; beyond = sees.beyond }) h.within h.promises
        (omega arith) tt tt (premise logs refl)
        (answered_one logs members part limit c small pos less n l.inc number a)

    pub opening_begins_so : (number : ℕ) (w : Option Work) → Goes (Opening l o) (opening_begins (record l { items = items_begin l.items }) o number (wish_of w))
    opening_begins_so number (Some (work.Crash node)) =
        stays_so logs members part limit c small pos less n (Opening l o) (cut (record l { items = items_begin l.items }) number).state
        (cut (record l { items = items_begin l.items }) number).outs
        (record { up = sees.up; number = sees.number; inc = (let k : (n.tokens c).inc < l.inc = sees.inc in omega arith); beyond = sees.beyond }) h.within tt
        (omega arith) tt tt (premise logs refl)
        (crashed_plain l.inc (items_begin l.items).unanswered number)
    opening_begins_so number (Some (work.Restart node)) = opening_answers number answer.Up
    opening_begins_so number (Some _) = opening_answers number answer.Down
    opening_begins_so number None = opening_answers number answer.Down

    -- what it promises is within the bounds, once its first Welcome came
    opens_so : promising.Opens Kept o
    opens_so = both sees.promised h.promises
      where
        both : AwaitsFirst o.stage ⊎ Raises logs part c n o → AwaitsFirst o.stage ⊎ (epoch_of o.known.promised.epochs part ≤ limit) → promising.Opens Kept o
        both (inl fact) within = inl (awaits_there o.stage fact)
        both (inr raises) (inl fact) = inl (awaits_there o.stage fact)
        both (inr raises) (inr within) = inr (record { eight = raises.epochs; rises = raises.rises; within = within })

    -- it serves again
    module _ (q : Questions) (capacity : ℕ) (effects : List Effect) (r : Opened) (plain : frames.Plain part c l.inc effects) (kept : Kept r.promised)
        (ended : Premise logs (ReopensSo n.books n.acts c r)) where
      abbrev fresh : TokensState
      fresh = fresh_tokens l.inc r.promised.epochs

      abbrev rest : List Effect
      rest = push_all r.promised.managers r.feed ++ answers_unanswered l.items.unanswered answer.Done

      -- what the opening says is acted first
      abbrev before : Net
      before = acted n (acts_of (Client c) effects)

      neutral : AllByRecursion IsNeutral (acts_of (Client c) effects)
      neutral = frames.plain_acts part c l.inc effects plain

      -- then its log is open again, with so many segments that say nothing
      adopted_same : adopts before.acts c r.chain ≡ adopts n.acts c r.chain
      adopted_same = adopts_same n.acts (acts_of (Client c) effects) neutral c r.chain

      abbrev books : ℕ → Books
      books k = with_empty k (reopened n.books c (adopts before.acts c r.chain)) c

      abbrev open_again : ℕ → Net
      open_again k = acted (record before { tokens = put n.tokens c fresh; up = put n.up c true; books = books k }) (Back c r.chain ∷ [])

      opens_again : (k : ℕ) → Happens logs members part before (open_again k)
      opens_again k =
          Returns c l.inc r.promised.epochs r.chain k pos less sees.up sees.inc kept.rises
          (premise_by logs (λ (o : ReopensSo n.books n.acts c r) (fact : adopts before.acts c r.chain ≡ true). o.adopted (sym adopted_same ∙ fact)) ended)

      other_logs : (k d : ℕ) → (d ≡ c → ⊥) → SameLog n.books (books k) d
      other_logs k d other =
          same_log_on n.books (reopened n.books c (adopts before.acts c r.chain)) (books k) d (other_reopened n.books c (adopts before.acts c r.chain) d other)
          (other_with_empty k (reopened n.books c (adopts before.acts c r.chain)) c d other)

      -- and the rest is said
      plain_rest : frames.Plain part c l.inc rest
      plain_rest =
          All-append (frames.May part c l.inc) (push_all r.promised.managers r.feed) (answers_unanswered l.items.unanswered answer.Done)
          (tokens.plain_pushes_all part c l.inc r.promised.managers r.feed)
          (tokens.plain_answers part c l.inc l.items.unanswered answer.Done)

      abbrev all_said : ℕ → Net
      all_said k = acted (open_again k) (acts_of (Client c) rest)

      logged : (k : ℕ) → Premise logs (r.log.end.seq ≡ (books k).end c) → Premise logs (LogAgrees (books k) c fresh r.log)
      logged k end = premise_three logs
          (λ (o : ReopensSo n.books n.acts c r) (e : r.log.end.seq ≡ (books k).end c) (b : NothingBeyond n.books c).
          opened_agrees (books k) c l.inc r.promised.epochs
          (with_empty_rests k (reopened n.books c (adopts before.acts c r.chain)) c (reopened_rests n.books c (adopts before.acts c r.chain) b))
          r.log o.nothing_waits
          o.nothing_flies e) ended end sees.beyond

      ends_so : Premise logs (r.log.end.seq ≡ (books (count_of logs n.books n.acts c r ended)).end c)
      ends_so = end_of logs n.books n.acts c r ended (adopts before.acts c r.chain) adopted_same

      back_so : Goes (Opening l o) (saying effects (back (record l { questions = q }) capacity r))
      back_so =
          let k : ℕ = count_of logs n.books n.acts c r ended in
          let said : List Effect = Does (Back l.number r.chain) ∷ rest in
          let now : Phase = Serves (served (record l { questions = q }) capacity r) in
          record {
            next = all_said k;
            runs = runs_through n before (all_said k) (says_all logs members part n (acts_of (Client c) effects) neutral)
                (runs_through before (open_again k) (all_said k) (On Begun (opens_again k))
                (says_all logs members part (open_again k) (acts_of (Client c) rest) (frames.plain_acts part c l.inc rest plain_rest)));
            agrees = record {
              up = put_here n.up c true;
              tokens = put_here n.tokens c fresh;
              number = sees.number;
              inc = refl;
              epochs = kept.eight;
              giving = λ b
                  g inside fact. none_given g fact;
              valued = λ b held. contrary held;
              logged = logged k ends_so;
            };
            others = λ d other. (put_there n.tokens c fresh d other, put_there n.up c true d other);
            slots = λ e. refl;
            grows = λ x h. h;
            acts = acts_are (acts_of (Client c) effects) (acts_of (Client c) rest) ∙ ap (λ done. n.acts ++ done) (done_are (sym sees.number));
            books = other_logs k;
            log = premise logs (r.chain, k, back_said, ap (λ t. with_empty k (reopened n.books c t) c) adopted_same);
            does = all_did part c n n.sent l.inc now (effects ++ said)
                (All-append (ClientDoes part n.sent c l.inc) effects said (frames.plain_does part c l.inc n.sent effects plain)
                (All-cons (ClientDoes part n.sent c l.inc) _ _ tt (frames.plain_does part c l.inc n.sent rest plain_rest)));
            within = subst (λ (t : TokensState). epoch_of t.epochs part ≤ limit) (sym (put_here n.tokens c fresh)) kept.within;
            promises = tt;
            later = omega arith;
            begins = tt;
            stands = λ away. absurd away;
            back = (r.chain, back_said);
          }
        where
          done_are : c ≡ l.number
              → acts_of (Client c) effects ++ (Back c r.chain ∷ acts_of (Client c) rest) ≡ acts_of (Client c) (effects ++ (Does (Back l.number r.chain) ∷ rest))
          done_are same =
              ap (λ x. acts_of (Client c) effects ++ (Back x r.chain ∷ acts_of (Client c) rest)) same
              ∙ sym (frames.acts_on c effects (Does (Back l.number r.chain) ∷ rest))

          acts_are : (first later : List Act) → ((n.acts ++ first) ++ Back c r.chain ∷ []) ++ later ≡ n.acts ++ (first ++ (Back c r.chain ∷ later))
          acts_are first later =
              append_assoc (n.acts ++ first) (Back c r.chain ∷ []) later ∙ append_assoc n.acts first (Back c r.chain ∷ later)

          behind : (x : Effect) (xs ys : List Effect) → In x ys → In x (xs ++ ys)
          behind x [] ys fact = fact
          behind x (y ∷ xs) ys fact = inr (behind x xs ys fact)

          back_said : In (Does (Back c r.chain)) (effects ++ (Does (Back l.number r.chain) ∷ rest))
          back_said =
              subst (λ k. In (Does (Back k r.chain)) (effects ++ (Does (Back l.number r.chain) ∷ rest))) sees.number
              (behind (Does (Back l.number r.chain)) effects (Does (Back l.number r.chain) ∷ rest) (inl refl))

          none_given : (g : Giving) → {A : Type 0} → None ≡ Some g → A
          none_given g fact = absurd (cc)

    went_so : (capacity : ℕ) (w : Went) → Behaves o.known.owner w → promising.Holds Kept w.progress → Premise logs (EndsSo n.books n.acts c w.progress)
        → Goes (Opening l o) (opened_on l capacity w)
    went_so capacity w b kept ended = by_progress w.progress b.stays_its kept ended
      where
        plain : frames.Plain part c l.inc w.effects
        plain = plain_does part c l.inc o.known.owner sees.owner w.effects b.does

        by_progress : (p : Progress) → IsOf o.known.owner p → promising.Holds Kept p → Premise logs (EndsSo n.books n.acts c p)
            → Goes (Opening l o) (saying w.effects (phase_after (record l { questions = w.questions }) capacity p))
        by_progress (progress.Opening q) its kept ended =
            stays_so logs members part limit c small pos less n (Opening l o) (Opening (record l { questions = w.questions }) q) (w.effects ++ [])
            (record {
              up = sees.up;
              number = sees.number;
              inc = sees.inc;
              owner = ap (λ (x : Owner). x.inc) its ∙ sees.owner;
              promised = raises q kept;
              beyond = sees.beyond;
            })
            h.within (within q kept) (omega arith) tt tt (premise logs refl)
            (All-append (frames.May part c l.inc) w.effects [] plain (All-nil (frames.May part c l.inc)))
          where
            raises : (q : openings.Opening) → promising.Opens Kept q → AwaitsFirst q.stage ⊎ Raises logs part c n q
            raises q (inl fact) = inl (awaits_here q.stage fact)
            raises q (inr k) = inr (record { epochs = k.eight; rises = k.rises })

            within : (q : openings.Opening) → promising.Opens Kept q → AwaitsFirst q.stage ⊎ (epoch_of q.known.promised.epochs part ≤ limit)
            within q (inl fact) = inl (awaits_here q.stage fact)
            within q (inr k) = inr k.within
        by_progress (progress.Opened r) its kept ended = back_so w.questions capacity w.effects r plain kept ended
        by_progress (progress.Lost seg) its kept ended =
            stays_so logs members part limit c small pos less n (Opening l o) (Down (record l { questions = w.questions; items = items_answer l.items }))
            (w.effects ++ answers_unanswered l.items.unanswered (answer.Lost seg))
            (record { up = sees.up; number = sees.number; inc = (let k : (n.tokens c).inc < l.inc = sees.inc in omega arith); beyond = sees.beyond })
            h.within tt (omega arith) tt tt (premise logs refl)
            (All-append (frames.May part c l.inc) w.effects _ plain (tokens.plain_answers part c l.inc l.items.unanswered (answer.Lost seg)))

    -- a Welcome promises within the bounds
    brings_so : (b : Body) → GetsBody part limit c n (Opening l o) b → has_logs b ≡ true → promising.Brings Kept o b
    brings_so (body.Welcome w) gets known = λ meant.
        let formed : (are_in_order 0 w.news.slots && list_all is_slot_news w.news.slots) ≡ true = and_second (length w.news.slots == slot_count)
        (are_in_order 0 w.news.slots && list_all is_slot_news w.news.slots) known in
        let incs : w.inc ≡ l.inc = eqb-true w.inc o.known.owner.inc (and_first (w.inc == o.known.owner.inc) (fits o.known.maps w.news) meant) ∙ sees.owner in
        welcome_promises part (epoch_of (n.tokens c).epochs part) limit small w.news.slots
        (eqb-true (length w.news.slots) slot_count (and_first (length w.news.slots == slot_count) (are_in_order 0 w.news.slots && list_all is_slot_news w.news.slots) known))
        (and_first (are_in_order 0 w.news.slots) (list_all is_slot_news w.news.slots) formed)
        (each w.news.slots (recursion_from_All (λ (x : SlotNews). x.slot ≡ part → epoch_of (n.tokens c).epochs part ≤ x.epoch) w.news.slots (gets.1 incs))
        (recursion_from_All (λ (x : SlotNews). x.slot ≡ part → x.epoch ≤ limit) w.news.slots gets.0))
      where
        each : (slots : List SlotNews) → AllByRecursion (λ (x : SlotNews). x.slot ≡ part → epoch_of (n.tokens c).epochs part ≤ x.epoch) slots
            → AllByRecursion (λ (x : SlotNews). x.slot ≡ part → x.epoch ≤ limit) slots
            → AllByRecursion (Says part (epoch_of (n.tokens c).epochs part) limit small) slots
        each [] rises within = tt
        each (x ∷ slots) rises within = (λ fact. (rises.0 fact, within.0 fact), each slots rises.1 within.1)
    brings_so _ gets known = tt

    pub opening_packet : (capacity : ℕ) (packet : wire.Packet) → ClientGets logs part limit c n (Opening l o) packet → has_logs packet.body ≡ true
        → Goes (Opening l o) (opened_on l capacity (opening.opening_take o l.questions packet))
    opening_packet capacity packet gets known =
        went_so capacity (opening.opening_take o l.questions packet) (behaving.packet_so o l.questions packet)
        (promising.packet_so Kept o l.questions packet opens_so (brings_so packet.body gets.brings known)) gets.reads

    pub opening_time : (capacity : ℕ) → Premise logs (EndsInTime part limit c n (Opening l o))
        → Goes (Opening l o) (opened_on l capacity (opening.on_tick o l.questions))
    opening_time capacity ended =
        went_so capacity (opening.on_tick o l.questions) (behaving.tick_so o l.questions) (promising.tick_so Kept o l.questions opens_so) ended
