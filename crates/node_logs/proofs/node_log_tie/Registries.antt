-- What an event makes of the registry is a run of the small world.
use Rattle.std.proofs.Common.{◌≡◌, ◌⊎◌, ℕ, zero, suc, ◌-◌, ◌<◌, ◌≤◌, List, [], ◌∷◌, min, length, replicate, slice_get, refl, sym, ap, subst, ◌∙◌, inl, inr, arith}
use Rattle.std.specs.Prelude.{slice_index, unwrap_or}
use Rattle.std.proofs.lemmas.Bool.Decides.{nat_tests}
use Rattle.std.specs.List.{AllByRecursion}
use Rattle.xfs_base.specs.declared.node.NodeId.TheVariants.{Registry}
use Rattle.xfs_base.specs.declared.setup.Setup.{Setup}
use Rattle.xfs_base.specs.Limits.{u32_end}
use Rattle.xfs_base.proofs.Alls.{all_map}
use Rattle.group_map.proofs.WellFormedMaps.{IsGroupMap-group_map_start}
use Rattle.registry.specs.Board.{board_slots}
use Rattle.registry.specs.BoardState.{BoardState}
use Rattle.registry.specs.Checkpoints.{first_checkpoint, horizon_at}
use Rattle.registry.specs.declared.checkpoint.Checkpoint.{Checkpoint}
use Rattle.registry.specs.Slots.{all_slots}
use Rattle.version_model.specs.declared.answer.Answer.TheVariants as answers
use Rattle.version_model.specs.declared.work.Work.{Work}
use Rattle.wire_msg.specs.declared.body.Body.TheVariants as body
use Rattle.wire_msg.specs.declared.packet.Do.{Do}
use Rattle.wire_msg.specs.declared.packet.Packet.{Packet}
use Rattle.wire_msg.specs.declared.registry.Hello.{Hello}
use Rattle.wire_msg.specs.declared.registry.Welcome.{Welcome}
use Rattle.node_base.specs.declared.effects.Effect.{Effect}
use Rattle.node_base.specs.declared.effects.Effect.TheVariants.{Send, Answer}
use Rattle.node_base.specs.Setups.{IsSetup}
use Rattle.registry_node.specs.declared.node.RegistryNode.{RegistryNode}
use Rattle.registry_node.specs.Events.{registry_start, registry_step, news_of, takes}
use Rattle.node_moves.proofs.registry_moves.Events.{registry_events_are_moves}
use Rattle.node_moves.specs.registry_moves.Moves.{Said}
use Rattle.node_moves.specs.registry_moves.Moves.Said.{Acknowledges, AnswersItem, TellsMaps, Welcomes as WelcomesOne}
use Rattle.node_moves.specs.server_moves.Moves.{Came}
use Rattle.log_protocol.specs.Tables.{In}
use Rattle.log_tie.specs.Setting.{Setting}
use Rattle.log_law.specs.Net.{Net, Packet as Sent}
use Rattle.log_law.specs.Net.Packet.{MapSent, HelloSent, WelcomeSent}
use Rattle.log_law.specs.Events.{Runs}
use Rattle.log_law.specs.Events.Happens.{Publishes, Welcomes}
use Rattle.log_law.specs.Events.Runs.{Begun, On}
use Rattle.node_logs.specs.node_log_tie.Sight.Question.{Unasked, OfMaps, OfOpening}
use Rattle.node_logs.proofs.node_log_tie.Sights.{asked_later, seen_later, then_later}
use Rattle.node_logs.specs.node_log_tie.Sight.{Asker, Question, AskedBy, AnsweredBy, PacketSeen}
use Rattle.node_logs.proofs.node_log_tie.Sight.{EffectSeen, Later}
use Rattle.node_logs.specs.node_log_tie.RegistryEvents.{NamesGroups, RegistrySeen, Hears, all_but_known, RegistryGoes, RegistryEventGoes, RegistryGoesAbove}
use Rattle.node_logs.proofs.node_log_tie.Boards.{MayKeep, MadeSeen, board_goes, hello_came}
use Rattle.node_logs.proofs.node_log_tie.Going.{run_later, runs_on}
use Rattle.node_logs.proofs.node_log_tie.Lists.{packets_all}
use Rattle.node_logs.proofs.node_log_tie.Others.{same_or_other}
use Rattle.node_logs.proofs.node_log_tie.WholeMaps.{whole_map}

module _ (g : Setting) (owner : Asker) where
  -- ---- what it does

  -- The small world runs on to a net in which this board is seen still, and all these things that the registry does.
  record Went (now : BoardState) (n : Net) (outs : List Effect) : Type 0 where
    next : Net
    runs : Runs g n next
    seen : RegistrySeen g next now
    does : AllByRecursion (EffectSeen g owner next Registry) outs
    rest : all_but_known next ≡ all_but_known n

  -- one thing, which is seen at once
  went_still : (now : BoardState) (n : Net) (e : Effect) → RegistrySeen g n now → EffectSeen g owner n Registry e → Went now n (e ∷ [])
  went_still now n e seen does = record { next = n; runs = Begun; seen = seen; does = (does, tt); rest = refl }

  effect_later : (n next : Net) → Later n next → (e : Effect) → EffectSeen g owner n Registry e → EffectSeen g owner next Registry e
  effect_later n next later (Send to said) h = seen_later g owner n next later Registry to said h
  effect_later n next later (Answer item answer) h = tt
  effect_later n next later _ h = tt

  -- ---- maps are sent

  abbrev published : Net → BoardState → Net
  published m b = record m { sent = MapSent b.groups ∷ m.sent }

  resent : (m : Net) (b : BoardState) (sent : List Sent) → RegistrySeen g m b → RegistrySeen g (record m { sent = sent }) b
  resent m b sent seen = record { map = seen.map; size = seen.size; named = seen.named; known = seen.known; low = seen.low; horizons = seen.horizons }

  publishes : (n m : Net) (b : BoardState) → RegistrySeen g m b → Runs g n m → Runs g n (published m b)
  publishes n m b seen runs = On runs (Publishes b.groups (whole_map b.groups seen.map g seen.size seen.named m.registry seen.known))

  -- ---- all that it does

  module _ (start : Net) (r : RegistryNode) (what : Do) (sent : Hears g owner start what) where
    module _ (now : BoardState) where
      module _ (n : Net) (later : Later start n) (seen : RegistrySeen g n now) (map : In (MapSent now.groups) n.sent) where
        module _ (packet : Packet) (m : Hello) (came : Came what packet (body.Hello m)) where
          abbrev welcome : Welcome
          welcome = record { inc = m.inc; ask = m.ask; news = news_of now }

          abbrev Welcomed : Type 0
          Welcomed = Went now n (Send packet.from (body.Welcome welcome) ∷ [])

          -- a Welcome that the small world doesn't see, but for its map
          told_plainly : (packet.from ≡ owner.node → AnsweredBy g owner n welcome (owner.asked m.ask)) → Welcomed
          told_plainly own =
              went_still now n (Send packet.from (body.Welcome welcome)) seen (record { own = own; map = map; low = (let e = seen.low in omega arith) })

          -- one that answers a question of an opening
          told_opening : (own : ℕ) → owner.asked m.ask ≡ OfOpening own → In (HelloSent m.inc own) n.sent → Welcomed
          told_opening own fact said =
              let p : Sent = WelcomeSent m.inc own (board_slots now) now.groups in
              let next : Net = record n { sent = p ∷ n.sent } in
              record {
                next = next;
                runs = On Begun
                    (Welcomes m.inc own (board_slots now) now.groups said (sym seen.low)
                    (whole_map now.groups seen.map g seen.size seen.named n.registry seen.known));
                seen = resent n now (p ∷ n.sent) seen;
                does = (
                  record {
                    own = λ same. subst (AnsweredBy g owner next welcome) (sym fact) (inl refl);
                    map = inr map;
                    low = (let e = seen.low in omega arith);
                  },
                  tt,
                );
                rest = refl;
              }

          by_question : (q : Question) → owner.asked m.ask ≡ q → AskedBy g owner n m.inc q → Welcomed
          by_question Unasked e asked = absurd asked
          by_question OfMaps e asked = told_plainly (λ same. subst (AnsweredBy g owner n welcome) (sym e) tt)
          by_question (OfOpening own) e asked = told_opening own e asked

          -- to the owner or to another
          welcomed : (packet.from ≡ owner.node) ⊎ (packet.from ≡ owner.node → ⊥) → Welcomed
          welcomed (inl same) =
              by_question (owner.asked m.ask) refl (asked_later g owner start n later m.inc (owner.asked m.ask) ((hello_came g owner start what sent packet m came).own same))
          welcomed (inr other) = told_plainly (λ same. absurd (other same))

        one_done : (e : Effect) → Said r what now e → Went now n (e ∷ [])
        one_done e (TellsMaps to) = went_still now n (Send to (body.MapNews (news_of now))) seen map
        one_done e (WelcomesOne packet m came room fact) = welcomed packet m came (same_or_other packet.from owner.node)
        one_done e (Acknowledges packet m epoch came) =
            went_still now n (Send packet.from (body.CkptAck (record { slot = m.slot; epoch = epoch; ask = m.ask }))) seen tt
        one_done e (AnswersItem number epoch) = went_still now n (Answer number (answers.Epoch epoch)) seen tt

      all_done : (n : Net) → Later start n → RegistrySeen g n now → In (MapSent now.groups) n.sent → (es : List Effect)
          → AllByRecursion (Said r what now) es
          → Went now n es
      all_done n later seen map [] all = record { next = n; runs = Begun; seen = seen; does = tt; rest = refl }
      all_done n later seen map (e ∷ es) all =
          let one : Went now n (e ∷ []) = one_done n later seen map e all.0 in
          let on : Later n one.next = run_later g n one.next one.runs in
          let more : Went now one.next es = all_done one.next (then_later start n one.next later on) one.seen (on.sent (MapSent now.groups) map) es all.1 in
          record {
            next = more.next;
            runs = runs_on g n one.next more.next one.runs more.runs;
            seen = more.seen;
            does = (effect_later one.next more.next (run_later g one.next more.next more.runs) e one.does.0, more.does);
            rest = more.rest ∙ one.rest;
          }

  -- ---- all of it

  goes_on : (n : Net) (r : RegistryNode) (what : Do) → RegistrySeen g n r.board → Hears g owner n what → MayKeep g n (registry_step r what).node.board
      → RegistryGoes g owner n r what
  goes_on n r what before sent keeps =
      let moves = registry_events_are_moves r what in
      let now : BoardState = (takes r what).state.board in
      let made : MadeSeen g n now = board_goes g owner n r before what sent keeps in
      let at : Net = published made.next now in
      let runs : Runs g n at = publishes n made.next now made.seen made.runs in
      let goes : Went now at (takes r what).outs =
      all_done n r what sent now at (run_later g n at runs) (resent made.next now (MapSent now.groups ∷ made.next.sent) made.seen) (inl refl)
      (takes r what).outs moves.says in
      record {
        next = goes.next;
        runs = runs_on g n at goes.next runs goes.runs;
        seen = goes.seen;
        sends = packets_all (PacketSeen g owner goes.next) (EffectSeen g owner goes.next Registry) Registry (λ to said does. does)
            (takes r what).outs goes.does;
        rest = goes.rest ∙ made.rest;
      }

pub registry_goes : RegistryEventGoes
registry_goes g owner n r what some before sent keeps = goes_on g owner n r what before sent (record { named = keeps.named; filed = λ low. keeps.filed })

pub registry_goes_above : RegistryGoesAbove
registry_goes_above g owner n r what high before sent named =
    goes_on g owner n r what before sent (record { named = named; filed = λ low. absurd (omega arith) })

-- ---- the start

abbrev one : ℕ
one = 1

all_ones : (k i : ℕ) → unwrap_or (slice_get (replicate k one) i) one ≡ one
all_ones zero i = refl
all_ones (suc k) zero = refl
all_ones (suc k) (suc i) = all_ones k i

one_at : (k i : ℕ) → i < k → slice_index (replicate k 1) i ≡ 1
one_at zero i below = absurd (let b = below in omega arith)
one_at (suc k) zero below = refl
one_at (suc k) (suc i) below = one_at k i (omega arith)

nine_at : (cs : List Checkpoint) (slot : ℕ) → slot < length cs → AllByRecursion (λ (c : Checkpoint). length c.horizon ≡ 9) cs → length (horizon_at cs slot) ≡ 9
nine_at [] slot below all = absurd (let b = below in omega arith)
nine_at (c ∷ cs) zero below all = all.0
nine_at (c ∷ cs) (suc slot) below all = nine_at cs slot (omega arith) all.1

pub registry_begins : (g : Setting) (n : Net) (setup : Setup) (items : List Work) → IsSetup setup → setup.servers ≡ g.servers
    → NamesGroups g (registry_start setup items).board.groups
    → ((v : ℕ) → n.registry v ≡ 1) → n.low ≡ 1 → RegistrySeen g n (registry_start setup items).board
registry_begins g n setup items ok size named registry low = record {
  map = IsGroupMap-group_map_start setup.servers setup.groups ok.count.0 (let c = ok.count.1 in omega arith) ok.sizes ok.exist ok.differ ok.parity;
  size = size;
  named = named;
  known = λ v has. registry v
      ∙ sym (one_at setup.servers (v - 1)
      (let first : 1 ≤ v = grind (arith, nat_tests) in let last : v ≤ setup.servers = grind (arith, nat_tests) in omega arith));
  low = low ∙ sym (ap (λ x. min x (min x (min x (min x (min x (min x (min x (min x u32_end)))))))) (all_ones 9 (g.log.0 - 1)));
  horizons = λ slot below. nine_at (registry_start setup items).board.checkpoints slot below
      (all_map (λ (c : Checkpoint). length c.horizon ≡ 9) (λ (slot : ℕ). first_checkpoint) (λ slot. refl) all_slots);
}
