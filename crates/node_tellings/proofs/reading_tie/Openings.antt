-- The maps of an opening are as said, whatever is told to it.
use Rattle.log_owner.specs.declared.opened.Progress.{Progress}
use Rattle.log_owner.specs.declared.opening.Opening.{Opening}
use Rattle.log_owner.specs.Opening.{opening_take, on_tick}
use Rattle.node_base.specs.declared.questions.Questions.{Questions}
use Rattle.wire_msg.specs.declared.packet.Packet.{Packet}
use Rattle.node_moves.proofs.OpeningMaps as walk
use Rattle.node_moves.proofs.OpeningMaps.{MapLaw}
use Rattle.node_tellings.proofs.reading_tie.Arrivals.{BodyBrought}
use Rattle.node_tellings.specs.reading_tie.Came.{Came, Striped, MapStriped, MapsStriped}
use Rattle.node_tellings.proofs.reading_tie.Arriving.{maps_take_so}

module _ (came : Came) (striped : Striped) where
  abbrev pub law : MapLaw
  law = record {
    Knows = MapsStriped striped;
    Said = MapStriped striped;
    Says = BodyBrought came striped;
    takes = maps_take_so striped;
    welcomes = λ from m fact. fact;
    brings = λ from m fact. fact;
  }

  abbrev pub ProgressSo : Progress → Type 0
  ProgressSo p = walk.ProgressSo law p

  pub packet_so : (o : Opening) (q : Questions) (p : Packet) → BodyBrought came striped p.from p.body → MapsStriped striped o.known.maps.groups
      → ProgressSo (opening_take o q p).progress
  packet_so o q p fact h = walk.packet_so law o q p fact h

  pub time_so : (o : Opening) (q : Questions) → MapsStriped striped o.known.maps.groups → ProgressSo (on_tick o q).progress
  time_so o q h = walk.time_so law o q h
