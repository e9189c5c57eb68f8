-- What is in flight flew: so it is the text of its name.
use Rattle.std.proofs.Common.{◌≡◌, ℕ, Option, Some, None, subst}
use Rattle.std.specs.Prelude.{IfSome}
use Rattle.node_logs.specs.cleaner_log_tie.Owner as cleaner
use Rattle.cleaner_node.specs.declared.cleaner.Phase.TheVariants as cleaning
use Rattle.client_log.specs.LogState.{LogState}
use Rattle.node_logs.specs.client_log_tie.Owner.{Scene, SeesLog, SeesStage}
use Rattle.client_node.specs.declared.phase.Phase.TheVariants as client
use Rattle.log_flight.specs.Flights.{FlightState}
use Rattle.log_law.specs.Held.{OwnerFlew, WhatIsHeldFlew}
use Rattle.log_law.specs.Laws.{Moment}
use Rattle.log_law.specs.Net.{Owner}
use Rattle.log_owner.specs.declared.known.Known.{Known}
use Rattle.log_owner.specs.declared.opening.Stage.{Stage}
use Rattle.log_owner.specs.declared.opening.Stage.TheVariants as stage
use Rattle.log_protocol.specs.Tables.{In}
use Rattle.log_tie.specs.Setting.{Setting}
use Rattle.manager_node.specs.declared.phase.Phase.TheVariants as managing
use Rattle.node_slots.specs.node_index_tie.Pages.{FlightIsText}
use Rattle.headline.specs.Filed.{Texts}
use Rattle.node_slots.specs.owner_index_tie.Owners.{StageWrites}
use Rattle.run_laws.specs.world_lines.Flights.{CleanerWritesTexts, ClientsWriteTexts, ManagersWriteTexts}
use Rattle.run_laws.specs.world_lines.Lines.{FlownAreTexts}

module _ (held : WhatIsHeldFlew) (texts : Texts) (g : Setting) (w : Scene) (m : Moment g w.net) (are : FlownAreTexts texts w.net) where
  flight_text : (s : LogState) → IfSome s.flight (λ (f : FlightState). In f.segment w.net.flown) → FlightIsText texts s
  flight_text s flew f fact = by s.flight fact flew
    where
      by : (o : Option FlightState) → o ≡ Some f → IfSome o (λ (f : FlightState). In f.segment w.net.flown) → texts f.segment.name ≡ f.segment
      by None e flew = absurd cc
      by (Some x) e flew = (let same : x ≡ f = cc in subst (λ (y : FlightState). texts y.segment.name ≡ y.segment) same (are x.segment flew))

  flew_as : (x : Owner) → w.net.owner ≡ x → OwnerFlew w.net.flown x
  flew_as x fact = subst (OwnerFlew w.net.flown) fact (held g w.net m)

  pub log_writes : (c : ℕ) (s : LogState) → SeesLog g c w s → FlightIsText texts s
  log_writes c s sees = flight_text s (flew_as (Owner.Serving s) sees.owner)

  pub stage_writes : (c : ℕ) (k : Known) (last : ℕ) (at : Stage) → SeesStage g c w k last at → StageWrites texts at
  stage_writes c k last (stage.Scanning s) sees = tt
  stage_writes c k last (stage.Settling s) sees = flight_text s.log (flew_as (Owner.Writing s.chain s.log) sees.owner).flight

pub clients_write_texts : WhatIsHeldFlew → ClientsWriteTexts
clients_write_texts held texts g c w (client.Down l) part n m are sees = tt
clients_write_texts held texts g c w (client.Opening l o) part n m are sees =
    stage_writes held texts g w m are c o.known l.questions.last o.stage sees.1
clients_write_texts held texts g c w (client.Serving s) part n m are sees = log_writes held texts g w m are c s.log sees.1

pub cleaner_writes_texts : WhatIsHeldFlew → CleanerWritesTexts
cleaner_writes_texts held texts g w (cleaning.Down l) part n m are sees = tt
cleaner_writes_texts held texts g w (cleaning.Opening l o) part n m are sees =
    stage_writes held texts g w m are cleaner.its_number o.known l.questions.last o.stage sees.sees
cleaner_writes_texts held texts g w (cleaning.Serving e) part n m are sees = log_writes held texts g w m are cleaner.its_number e.log sees.log

pub managers_write_texts : WhatIsHeldFlew → ManagersWriteTexts
managers_write_texts held texts asked g j w (managing.Down kept) part n m are sees = tt
managers_write_texts held texts asked g j w (managing.Waiting kept hello) part n m are sees = tt
managers_write_texts held texts asked g j w (managing.Serving s) part n m are sees = log_writes held texts g w m are j s.log sees.log
