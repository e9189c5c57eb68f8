-- What an owner that serves acts to be filed was in flight: with texts of which that alone bears its name, nothing else could be filed.
use Rattle.std.proofs.Common.{◌≡◌, ◌<◌, ◌==◌, ℕ, suc, Bool, true, false, cond, List, [], Option, Some, None, refl, sym, ap, subst, ◌∙◌, arith}
use Rattle.cleaner_serving.specs.declared.emptying.Emptying.{Emptying}
use Rattle.cleaner_node.specs.CleanerEvents as cleaners
use Rattle.cleaner_node.specs.declared.cleaner.Phase as cleaner_phases
use Rattle.cleaner_node.specs.declared.cleaner.Phase.TheVariants as cleaning
use Rattle.client_log.specs.LogState.{LogState}
use Rattle.client_node.specs.declared.phase.Phase.TheVariants as client
use Rattle.client_node.specs.declared.phase.Phase.{Phase}
use Rattle.client_node.specs.Phases as clients
use Rattle.client_serving.specs.declared.serving.Serving.{Serving}
use Rattle.headline.specs.Filed.{Filed, IsSegment, Texts}
use Rattle.index_tie.specs.Net.{Net}
use Rattle.log_flight.specs.Flights.{FlightState}
use Rattle.node_base.specs.declared.effects.Effect.{Effect}
use Rattle.node_base.specs.declared.effects.Effect.TheVariants.{Does}
use Rattle.node_slots.specs.node_index_tie.Pages.{FlightIsText}
use Rattle.node_slots.specs.node_index_tie.Sight.{RowsFit}
use Rattle.segment_format.specs.Rows.{rows_of}
use Rattle.segment_format.specs.declared.segment.Segment.{Segment}
use Rattle.version_model.specs.declared.act.Act.{Act}
use Rattle.version_model.specs.declared.act.Act.TheVariants.{Filed as ActsFiled}
use Rattle.wire_msg.specs.declared.body.Body.{Body}
use Rattle.wire_msg.specs.declared.body.Body.TheVariants as body
use Rattle.wire_msg.specs.declared.packet.Do.{Do}
use Rattle.wire_msg.specs.declared.packet.Do.TheVariants.{Begin, Deliver, Tick}
use Rattle.xfs_base.specs.declared.segment.SegName.{SegName}
use Rattle.xfs_base.proofs.Booleans.{equal_itself}
use Rattle.xfs_base.proofs.Alls.{all_weaker}
use Rattle.xfs_base.specs.Limits.{slot_count}
use Rattle.xfs_base.specs.Logs.{cleaners_number}
use Rattle.node_slots.specs.owner_index_tie.Acting.{ActSo, AllSo, CleanerFilesFlights, ClientsFileFlights, EffectSo, IsFlight, MayLand}
use Rattle.node_slots.specs.owner_index_tie.CleanerEvents as cleaner_owed
use Rattle.node_slots.specs.owner_index_tie.ClientEvents as client_owed
use Rattle.node_slots.proofs.owner_index_tie.CleanerPhases as emptying
use Rattle.node_slots.proofs.owner_index_tie.ClientPhases as serving
use Rattle.node_slots.proofs.owner_index_tie.Frames.{AllMay, IsNamed}

-- what is so may be said otherwise
module _ (So Then : SegName → Type 0) (so : (name : SegName) → So name → Then name) where
  act_then : (act : Act) → ActSo So act → ActSo Then act
  act_then (ActsFiled name) h = so name h
  act_then _ h = tt

  effect_then : (e : Effect) → EffectSo So e → EffectSo Then e
  effect_then (Does act) h = act_then act h
  effect_then _ h = tt

  pub all_then : (outs : List Effect) → AllSo So outs → AllSo Then outs
  all_then outs all = all_weaker (EffectSo So) (EffectSo Then) effect_then outs all

-- ---- texts of which that of what is in flight alone bears its name

-- nothing more is asked of what is filed
abbrev Any : Filed → Segment → Type 0
Any f s = Unit {0}

-- it bears another name
abbrev another : SegName → Segment
another name = record { name = record name { seq = suc name.seq }; prior = record { pass = name.pass; group = 0 }; group = 0; items = [] }

abbrev text_in : Option FlightState → Texts
text_in None name = another name
text_in (Some f) name = cond (name.seq == f.segment.name.seq) f.segment (another name)

another_not : (name : SegName) → (another name).name ≡ name → ⊥
another_not name same = (let e : suc name.seq ≡ name.seq = ap (λ (x : SegName). x.seq) same in omega arith)

-- a name whose text bears it is that of the flight
pub record Flies (o : Option FlightState) (name : SegName) : Type 0 where
  pub flight : FlightState
  pub flying : o ≡ Some flight
  pub named : flight.segment.name ≡ name
  pub text : text_in o name ≡ flight.segment

flies : (o : Option FlightState) (name : SegName) → IsNamed (text_in o) name → Flies o name
flies None name named = absurd (another_not name named)
flies (Some f) name named = by (name.seq == f.segment.name.seq) refl
  where
    by : (t : Bool) → (name.seq == f.segment.name.seq) ≡ t → Flies (Some f) name
    by true fact =
        let text : text_in (Some f) name ≡ f.segment = ap (λ t. cond t f.segment (another name)) fact in
        record { flight = f; flying = refl; named = ap (λ (x : Segment). x.name) (sym text) ∙ named; text = text }
    by false fact =
        let text : text_in (Some f) name ≡ another name = ap (λ t. cond t f.segment (another name)) fact in
        absurd (another_not name (ap (λ (x : Segment). x.name) (sym text) ∙ named))

module _ (s : LogState) where
  abbrev its_texts : Texts
  its_texts = text_in s.flight

  are_texts : FlightIsText its_texts s
  are_texts f fact = ap (λ o. text_in o f.segment.name) fact ∙ ap (λ t. cond t f.segment (another f.segment.name)) (equal_itself f.segment.name.seq)

  is_flight : (name : SegName) → IsNamed its_texts name → IsFlight s name
  is_flight name named = (let k = flies s.flight name named in (k.flight, k.flying, k.named))

  may_land : (l : ℕ) → MayLand l s → AllMay Any its_texts l
  may_land l may f name named at =
      let k = flies s.flight name named in
      let seq : k.flight.segment.name.seq ≡ suc (f.head l) = ap (λ (x : SegName). x.seq) k.named ∙ at in
      record {
        named = named;
        segment = subst (IsSegment l (suc (f.head l))) (sym k.text)
            (subst (λ q. IsSegment l q k.flight.segment) seq (may.segment k.flight k.flying));
        new = tt;
        fits = subst (λ (x : Segment). RowsFit (rows_of x)) (sym k.text) (may.fits k.flight k.flying);
        short = (let less = may.short k.flight k.flying in omega arith);
      }

-- ---- a client

module _ (part : ℕ) (texts : Texts) (n : Net) (c : ℕ) (s : Serving) where
  abbrev Its : Texts
  Its = its_texts s.log

  agrees_as : (p : Phase) → p ≡ client.Serving s → client_owed.ClientAgrees part texts n c p → client_owed.ClientAgrees part Its n c p
  agrees_as p fact agrees = subst (client_owed.ClientAgrees part Its n c) (sym fact)
      ((subst (client_owed.ClientAgrees part texts n c) fact agrees).0, are_texts s.log)

  gets_as : (p : Phase) (what : Do) → client_owed.EventGets part texts n c p what → client_owed.EventGets part Its n c p what
  gets_as p Begin gets = tt
  gets_as p Tick gets = tt
  gets_as (client.Down l) (Deliver packet) gets = tt
  gets_as (client.Opening l o) (Deliver packet) gets = tt
  gets_as (client.Serving t) (Deliver packet) gets = by packet.body gets
    where
      by : (b : Body) → client_owed.BodyGets part texts n c t.tokens b → client_owed.BodyGets part Its n c t.tokens b
      by (body.Poll m) gets = gets
      by _ gets = tt

  reopens_none : (p q : Phase) → p ≡ client.Serving s → client_owed.ReopensOn part Its n c p q
  reopens_none (client.Down l) q fact = tt
  reopens_none (client.Opening l o) q fact = absurd cc
  reopens_none (client.Serving t) q fact = tt

pub clients_file_flights : ClientsFileFlights
clients_file_flights part texts n c node what s some below fact agrees gets may =
    let its = its_texts s.log in
    let k = serving.takes_so Any part its n c some (omega arith) node what
    (serving.stands Any part its n c some (omega arith) node.phase (agrees_as part texts n c s node.phase fact agrees))
    (gets_as part texts n c s node.phase what gets) (reopens_none part texts n c s node.phase (clients.takes node what).state fact) in
    all_then (IsNamed its) (IsFlight s.log) (is_flight s.log) (clients.takes node what).outs (k.1 (may_land s.log c may))

-- ---- the cleaner

module _ (part : ℕ) (texts : Texts) (n : Net) (small : part < slot_count) (e : Emptying) where
  abbrev Of : Texts
  Of = its_texts e.log

  phase_as : (p : cleaner_phases.Phase) → p ≡ cleaning.Serving e → cleaner_owed.PhaseAgrees part n texts p → cleaner_owed.PhaseAgrees part n Of p
  phase_as p fact agrees = subst (cleaner_owed.PhaseAgrees part n Of) (sym fact)
      ((subst (cleaner_owed.PhaseAgrees part n texts) fact agrees).0, are_texts e.log)

  none_moved : (p : cleaner_phases.Phase) → p ≡ cleaning.Serving e → emptying.OpensMoved Any part Of n small p
  none_moved (cleaning.Down l) fact = tt
  none_moved (cleaning.Opening l o) fact = absurd (let f : cleaning.Opening l o ≡ cleaning.Serving e = fact in cc)
  none_moved (cleaning.Serving t) fact = tt

  none_reopened : (p q : cleaner_phases.Phase) → p ≡ cleaning.Serving e → cleaner_owed.ReopensOn part Of n p q
  none_reopened (cleaning.Down l) q fact = tt
  none_reopened (cleaning.Opening l o) q fact = absurd (let f : cleaning.Opening l o ≡ cleaning.Serving e = fact in cc)
  none_reopened (cleaning.Serving t) q fact = tt

pub cleaner_files_flights : CleanerFilesFlights
cleaner_files_flights part texts n node what e small fact agrees gets asks may =
    let its = its_texts e.log in
    let w = cleaners.takes node.peers node.phase what in
    let k = emptying.takes_so Any part its n small [] node.peers node.phase what (none_moved part texts n small e node.phase fact)
    (emptying.stands Any part its n small node.phase (phase_as part texts n small e node.phase fact agrees.phase) agrees.moves) gets
    (none_reopened part texts n small e node.phase w.state fact) in
    all_then (IsNamed its) (IsFlight e.log) (is_flight e.log) w.outs (k.1 asks (may_land e.log cleaners_number may))
