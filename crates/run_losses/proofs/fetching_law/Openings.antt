-- The maps that an opening knows are such as come, whatever is told to it.
use Rattle.node_slots.specs.client_law.Grouped.{KnowsSuch}
use Rattle.node_slots.specs.client_law.Maps.{BringsMaps}
use Rattle.group_map.specs.GroupMapState.{GroupMapState}
use Rattle.log_owner.specs.declared.opened.Progress.{Progress}
use Rattle.log_owner.specs.declared.opening.Opening.{Opening}
use Rattle.log_owner.specs.Opening.{opening_take, on_tick}
use Rattle.node_base.specs.declared.maps.Maps.{Maps}
use Rattle.node_base.specs.declared.questions.Questions.{Questions}
use Rattle.node_base.specs.Maps.{is_older, maps_take}
use Rattle.node_moves.proofs.OpeningMaps as walk
use Rattle.node_moves.proofs.OpeningMaps.{MapLaw}
use Rattle.wire_msg.specs.declared.packet.Packet.{Packet}
use Rattle.wire_msg.specs.declared.registry.News.{News}
use Rattle.xfs_base.proofs.Booleans.{by_test}

module _ (Is : GroupMapState → Type 0) where
  -- maps that are taken are the ones that are said, or the ones that were known
  pub maps_taken : (maps : Maps) (news : News) → KnowsSuch Is maps.groups → Is news.groups → KnowsSuch Is (maps_take maps news).groups
  maps_taken maps news known so = by_test (λ (m : Maps). KnowsSuch Is m.groups) (is_older maps news) _ maps (λ _. so) (λ _. known)

  abbrev pub law : MapLaw
  law = record {
    Knows = KnowsSuch Is;
    Said = Is;
    Says = λ from b. BringsMaps Is b;
    takes = maps_taken;
    welcomes = λ from m fact. fact;
    brings = λ from m fact. fact;
  }

  abbrev pub ProgressKnows : Progress → Type 0
  ProgressKnows p = walk.ProgressSo law p

  pub packet_knows : (o : Opening) (q : Questions) (p : Packet) → BringsMaps Is p.body → KnowsSuch Is o.known.maps.groups
      → ProgressKnows (opening_take o q p).progress
  packet_knows o q p fact h = walk.packet_so law o q p fact h

  pub time_knows : (o : Opening) (q : Questions) → KnowsSuch Is o.known.maps.groups → ProgressKnows (on_tick o q).progress
  time_knows o q h = walk.time_so law o q h
